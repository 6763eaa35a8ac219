-- 01, section 2, as amended by request 1: the case that accepted words and bases stand for.
-- Assumes nothing.
use Rattle.std.specs.Prelude.{List, [], ◌∷◌, map, ℕ, zero, suc, ◌+◌, ℤ, take, drop}
use Rattle.variants_and_fragments.specs.declared.Sizes.{Sizes}
use Rattle.variants_and_fragments.specs.Case.{Case, Variant, Fragment, Call}
use Rattle.variants_and_fragments.specs.Layout.{sizes_of, pos0_at, depth_at, genotype_at, allele_count_at, length_at, call_variant_at, called_allele_at, qual_at, one_minus_qual_at, cutoff_at}
use Rattle.variants_and_fragments.specs.Chain.{present_at, strand_at, chain_of}
use Rattle.variants_and_fragments.specs.Alleles.{alleles_start}

-- g 0, .., g (n − 1), counted from i on
unfoldable pub tabulate_from : {X : Type 0} → (ℕ → X) → ℕ → ℕ → List X
tabulate_from g i zero = []
tabulate_from g i (suc n) = g i ∷ tabulate_from g (suc i) n

abbrev pub tabulate : {X : Type 0} → ℕ → (ℕ → X) → List X
tabulate n g = tabulate_from g 0 n

-- where the bytes of allele j of variant v start: the allele bytes are in variant then allele order
unfoldable pub allele_start : List ℤ → ℕ → ℕ → ℕ
allele_start w v zero = alleles_start w v
allele_start w v (suc j) = allele_start w v j + length_at w v j

unfoldable pub allele_at : List ℤ → List ℕ → ℕ → ℕ → List ℕ
allele_at w b v j = take (length_at w v j) (drop (allele_start w v j) b)

unfoldable pub variant_from : List ℤ → List ℕ → ℕ → Variant
variant_from w b v = record {
  pos0 = pos0_at w v;
  dp = depth_at w v;
  genotype0 = genotype_at w v 0;
  genotype1 = genotype_at w v 1;
  alleles = tabulate (allele_count_at w v) (allele_at w b v);
}

unfoldable pub call_from : List ℤ → Sizes → ℕ → Call
call_from w s r = record {
  variant = call_variant_at w s r;
  allele = called_allele_at w s r;
  qual = qual_at w s r;
  one_minus_qual = one_minus_qual_at w s r;
}

unfoldable pub fragment_from : List ℤ → Sizes → ℕ → Fragment
fragment_from w s f = record { present = present_at w s f; strand = strand_at w s f; calls = map (call_from w s) (chain_of w s f) }

unfoldable pub decode : List ℤ → List ℕ → Case
decode w b = let s = sizes_of w in record {
  variants = tabulate s.n (variant_from w b);
  fragments = tabulate s.f (fragment_from w s);
  cutoff = cutoff_at w;
}
