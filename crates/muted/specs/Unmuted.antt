-- Request 5: "With them the reference run has the muted fragments' calls given quality 0, both qualities alike." The case of the reference run, and its
-- words: longshot has no muted reads, so that the strands are the unmuted ones. w is the words, s the sizes.
-- Assumes nothing.
use Rattle.std.specs.Prelude.{cond, List, [], ◌∷◌, map, ℕ, zero, suc, ℤ, pos}
use Rattle.variants_and_fragments.specs.declared.Sizes.{Sizes}
use Rattle.variants_and_fragments.specs.Case.{Case, Fragment, Call, votes, direction}
use Rattle.variants_and_fragments.specs.Chain.{strand_at, chain_of}
use Rattle.variants_and_fragments.specs.Layout.{sizes_of, strand_field, qual_field, one_minus_qual_field, fragment_set, call_set}

-- ---- the case
-- a call given quality 0, both qualities alike; no cutoff is above 0, so that it is ambiguous
unfoldable pub zeroed : Call → Call
zeroed call = record { variant = call.variant; allele = call.allele; qual = pos 0; one_minus_qual = pos 0 }

-- a muted fragment becomes a forward or reverse one of such calls; one that votes stays
unfoldable pub unmuted : Fragment → Fragment
unmuted x = cond (votes x.strand) x (record { present = x.present; strand = direction x.strand; calls = map zeroed x.calls })

unfoldable pub unmuted_case : Case → Case
unmuted_case case = record { variants = case.variants; fragments = map unmuted case.fragments; cutoff = case.cutoff }

-- ---- its words, which decode to it (`decoded_unmuted` of proofs/AllUnmuted.antt)
-- each of the records rs with both qualities 0
unfoldable pub records_zeroed : List ℤ → Sizes → List ℕ → List ℤ
records_zeroed w s [] = w
records_zeroed w s (r ∷ rs) = records_zeroed (call_set (call_set w s r qual_field (pos 0)) s r one_minus_qual_field (pos 0)) s rs

-- fragment f unmuted
unfoldable pub fragment_unmuted : List ℤ → Sizes → ℕ → List ℤ
fragment_unmuted w s f = let strand = strand_at w s f in
    cond (votes strand) w (fragment_set (records_zeroed w s (chain_of w s f)) s f strand_field (pos (direction strand)))

-- the fragments below f, and all of them
unfoldable pub unmuted_to : List ℤ → Sizes → ℕ → List ℤ
unmuted_to w s zero = w
unmuted_to w s (suc f) = fragment_unmuted (unmuted_to w s f) s f

unfoldable pub unmuted_words : List ℤ → List ℤ
unmuted_words w = let s = sizes_of w in unmuted_to w s s.f
