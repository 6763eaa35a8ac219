-- 01, "Samples from the orchard": (a) to (k) over the definitions, as one record. `samples` of proofs/Samples.antt is
-- its proof. Assumes nothing.
use Rattle.std.specs.Prelude.{◌≡◌, true, List, [], ◌∷◌, ◌++◌, map, ℕ, ℤ, pos, neg_ℤ, ◌-ℤ◌, length, replicate}
use Rattle.steps.specs.declared.LogProb.{LogProb}
use Rattle.steps.specs.Knots.{Knot, T}
use Rattle.steps.specs.Addend.{addend}
use Rattle.steps.specs.Logs.{steps}
use Rattle.steps.specs.OneMinus.{OneMinusExp, ln_one_minus_exp}
use Rattle.variants_and_fragments.specs.declared.Sizes.{Sizes}
use Rattle.variants_and_fragments.specs.Case.{Case, Variant, Fragment}
use Rattle.variants_and_fragments.specs.First.{holds_below}
use Rattle.variants_and_fragments.specs.Refusals.{done, smallest_short}
use Rattle.variants_and_fragments.specs.Check.{check_case_outcome}
use Rattle.variants_and_fragments.specs.Decode.{decode}
use Rattle.variants_and_fragments.specs.Encode.{encode_words, encode_bases}
use Rattle.genotype_probs.specs.declared.Rates.{Rates}
use Rattle.genotype_probs.specs.Rates.{rate_test}
use Rattle.genotype_probs.specs.Priors.{all_priors}
use Rattle.haplotype_assembly.specs.Phase.{phase0, phase1}
use Rattle.with_haplotypes.specs.declared.RoundAnswer.{RoundAnswer}
use Rattle.with_haplotypes.specs.Round.{RoundInput, round_input, run_of, result, returned}
use Rattle.with_haplotypes.specs.Promise.{RoundSlices, round_needs, max_limit, call_genotypes_with_haplotypes_outcome}

-- −n
abbrev pub neg : ℕ → ℤ
neg n = neg_ℤ (pos n)

abbrev pub log_prob : ℕ → LogProb
log_prob n = record { 0 = neg n }

-- "Rates −70000 four times, ts −4096, tv −8192"
abbrev pub rates : Rates
rates = record {
  hom_snv = log_prob 70000;
  het_snv = log_prob 70000;
  hom_indel = log_prob 70000;
  het_indel = log_prob 70000;
  ts = log_prob 4096;
  tv = log_prob 8192;
}

-- "reference A, alternative G"; "genotype (0,1)"
abbrev pub variant : Variant
variant = record { pos0 = 0; dp = 0; genotype0 = 0; genotype1 = 1; alleles = (65 ∷ []) ∷ (71 ∷ []) ∷ [] }

-- a read of A (allele 0) or of G (allele 1): "match −1700, miss −5796"
abbrev pub read_of : ℕ → Fragment
read_of allele = record { present = true; strand = 0; calls = record { variant = 0; allele = allele; qual = neg 5796; one_minus_qual = neg 1700 } ∷ [] }

-- so many reads of A, then so many of G; "cutoff −2000"
abbrev pub reads : ℕ → ℕ → Case
reads a g = record { variants = variant ∷ []; fragments = replicate a (read_of 0) ++ replicate g (read_of 1); cutoff = neg 2000 }

-- "N = 0"
abbrev pub no_variants : Case
no_variants = record { variants = []; fragments = []; cutoff = neg 2000 }

-- the sizes that the head of such a case gives: each fragment has one call
abbrev pub sizes : Case → Sizes
sizes sample = record { n = length sample.variants; f = length sample.fragments; c = length sample.fragments; used = length sample.fragments; free = 0; cutoff = neg 2000 }

-- a round on the words and bases that `encode` makes of a case: these phase bytes, one order, the highest limit
abbrev pub round_on : Case → List ℕ → List ℕ → RoundInput
round_on sample phase order = round_input (encode_words sample) (encode_bases sample) rates phase order max_limit

-- each variant is of set 0
abbrev pub sets_of : List ℕ → List ℤ
sets_of phase = map (λ byte. pos 0) phase

-- what a settled round returns of a case with no unphased variant: the source's total is the phased one
abbrev pub settled_after : ℕ → ℤ → ℤ → RoundAnswer
settled_after sweeps start end = record { sweeps = sweeps; settled = true; start = record { 0 = start }; end = record { 0 = end }; source = record { 0 = end } }

-- T[k] is t, by the rule of the knots and by the table
pub record KnotIs (k t : ℕ) : Type 0 where
  pub rule : Knot k t
  pub entry : T k ≡ t

-- A round from the haplotypes `given` to the haplotypes `left`, with this answer
pub record SampleRound (sample : Case) (phase order given left : List ℕ) (answer : RoundAnswer) : Type 0 where
  -- the words and bases are accepted, and stand for the case
  pub accepted : check_case_outcome (encode_words sample) (encode_bases sample) ≡ done (sizes sample)
  pub decoded : decode (encode_words sample) (encode_bases sample) ≡ sample
  -- section 5's haplotypes, those that the run leaves, and what is returned
  pub starts : (run_of (round_on sample phase order)).start ≡ given
  pub ends : (result (run_of (round_on sample phase order))).haps ≡ left
  pub returns : returned (run_of (round_on sample phase order)) ≡ answer
  -- nothing is refused, whatever slices are lent that are long enough
  pub outcome : (slices : RoundSlices) → smallest_short (round_needs (length sample.variants) (length sample.fragments) slices) ≡ 0
      → call_genotypes_with_haplotypes_outcome (round_on sample phase order) (sets_of phase) slices ≡ done answer

pub record Samples : Type 0 where
  -- (a) T[0] 4096, (b) T[128] 2396, (c) T[256] 1318, (d) T[1664] 0
  pub a : KnotIs 0 4096
  pub b : KnotIs 128 2396
  pub c : KnotIs 256 1318
  pub d : KnotIs 1664 0
  -- (e) A(4112) 2391
  pub e : addend 4112 ≡ 2391
  -- (f) `ln_one_minus_exp`(−4096) = −4096
  pub f : ln_one_minus_exp (steps (neg 4096)) ≡ steps (neg 4096)
  pub f_greatest : OneMinusExp (steps (neg 4096)) (steps (neg 4096))
  -- (g) priors 0, −78192, −78192, −74096
  pub g : map (all_priors rates variant) (0 ∷ 1 ∷ 2 ∷ 3 ∷ []) ≡ pos 0 ∷ neg 78192 ∷ neg 78192 ∷ neg 74096 ∷ []
  pub g_accepted : holds_below (rate_test rates) 7 ≡ true
  -- (h) one variant, genotype (0,1), one read of G, phase '0': two sweeps, totals −81592 to −5796, pair (0,0)
  pub h : SampleRound (reads 0 1) (phase0 ∷ []) (0 ∷ []) (0 ∷ 1 ∷ []) (0 ∷ 0 ∷ []) (settled_after 2 (neg 81592) (neg 5796))
  -- (i) 112 reads each of A and G end at (0,0)
  pub i : SampleRound (reads 112 112) (phase0 ∷ []) (0 ∷ []) (0 ∷ 1 ∷ []) (0 ∷ 0 ∷ []) (settled_after 2 (neg 839792) (neg 839552))
  -- (j) 113 at (0,1), also from phase '1', where gain is 0 and sweeps are 2
  pub j : SampleRound (reads 113 113) (phase0 ∷ []) (0 ∷ []) (0 ∷ 1 ∷ []) (0 ∷ 1 ∷ []) (settled_after 1 (neg 846592) (neg 846592))
  pub j_from_1 : SampleRound (reads 113 113) (phase1 ∷ []) (0 ∷ []) (1 ∷ 0 ∷ []) (0 ∷ 1 ∷ []) (settled_after 2 (neg 846592) (neg 846592))
  pub j_gain : (returned (run_of (round_on (reads 113 113) (phase1 ∷ []) (0 ∷ [])))).end.0 -ℤ (returned (run_of (round_on (reads 113 113) (phase1 ∷ []) (0 ∷ [])))).start.0 ≡ pos 0
  -- (k) N = 0: one sweep
  pub k : SampleRound no_variants [] [] [] [] (settled_after 1 (pos 0) (pos 0))
