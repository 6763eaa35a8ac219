-- What an accepted case gives (proofs/Accepted: case_in, bases_in).
-- Assumes nothing.
use Rattle.std.specs.Prelude.{◌≡◌, Bool, true, ◌&&◌, List, [], ◌∷◌, ℕ, ◌≤◌, ◌<◌, length, get_or, ℤ, pos, negsuc}
use Rattle.variants_and_fragments.specs.declared.Sizes.{Sizes}
use Rattle.variants_and_fragments.specs.Words.{within}
use Rattle.variants_and_fragments.specs.Layout.{max_strand, first_field, fragment_word, sizes_of, cutoff_at, lowest_quality, allele_count_at, call_variant_at, called_allele_at, qual_at, one_minus_qual_at, call_ok}
use Rattle.variants_and_fragments.specs.Inner.Layout.{Sized}
use Rattle.variants_and_fragments.specs.Chain.{strand_at, chain_of, link_ok, next_ok, good_chain, reached, in_chain, free_chain}
use Rattle.variants_and_fragments.specs.Alleles.{alleles_start, is_base}
use Rattle.variants_and_fragments.specs.Inner.Alleles.{VariantsIn}

-- p holds of each
unfoldable pub allb : {X : Type 0} → (X → Bool) → List X → Bool
allb p [] = true
allb p (x ∷ xs) = p x && allb p xs

-- a call record's ranges
pub record CallIn (w : List ℤ) (s : Sizes) (r : ℕ) : Type 0 where
  pub variant_in : call_variant_at w s r < s.n
  pub allele_in : called_allele_at w s r < allele_count_at w (call_variant_at w s r)
  pub qual_in : within lowest_quality (pos 0) (qual_at w s r) ≡ true
  pub other_in : within lowest_quality (pos 0) (one_minus_qual_at w s r) ≡ true

-- a fragment and its own chain
pub record FragmentIn (w : List ℤ) (s : Sizes) (f : ℕ) : Type 0 where
  pub strand_in : strand_at w s f ≤ max_strand
  pub first_in : within (negsuc 0) (pos s.used) (fragment_word w s f first_field) ≡ true
  pub right : good_chain (link_ok w s) (reached w s f) (chain_of w s f) ≡ true
  pub calls : allb (call_ok w s) (chain_of w s f) ≡ true

-- the free chain
pub record FreeIn (w : List ℤ) (s : Sizes) : Type 0 where
  pub right : good_chain (next_ok w s) (reached w s s.f) (free_chain w s) ≡ true
  -- each used record is in a chain
  pub whole : (r : ℕ) → 1 ≤ r → r ≤ s.used → in_chain w s r ≡ true

-- a case
pub record CaseIn (w : List ℤ) (s : Sizes) : Type 0 where
  pub shape : s ≡ sizes_of w
  pub sized : Sized w s
  pub variants : VariantsIn w s
  pub frags : (f : ℕ) → f < s.f → FragmentIn w s f
  pub free_in : FreeIn w s
  pub cutoff_in : within lowest_quality (pos 0) (cutoff_at w) ≡ true

-- its allele bytes
pub record BasesIn (w : List ℤ) (s : Sizes) (b : List ℕ) : Type 0 where
  pub size : length b ≡ alleles_start w s.n
  pub each : (i : ℕ) → i < length b → is_base (get_or b i 0) ≡ true
