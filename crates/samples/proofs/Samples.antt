-- 01's samples (a) to (k), jointly: each is computed on the definitions.
-- Assumes nothing.
use mathlib.Core.Path.{◌≡◌, refl, subst, ap}
use mathlib.Core.List.{[], ◌∷◌}
use Prim.Native.Nat.{ℕ, ◌<◌}
use native.Mathlib.Omega.{arith}
use lib.IntN.{pos, ◌-ℤ◌}
use lib.Signed.{le_z_yes}
use Rattle.steps.specs.Knots.{Knot, T}
use Rattle.steps.specs.Logs.{steps}
use Rattle.steps.specs.OneMinus.{OneMinusExp, ln_one_minus_exp}
use Rattle.steps.proofs.Rule.{rule}
use Rattle.steps.proofs.OneMinus.{meets}
use Rattle.haplotype_assembly.specs.Phase.{phase0, phase1}
use Rattle.with_haplotypes.specs.declared.RoundAnswer.{RoundAnswer}
use Rattle.samples.specs.Samples.{neg, reads, no_variants, settled_after, KnotIs, SampleRound, Samples}
use Rattle.samples.proofs.AtCase.{result_at, returned_at}
use Rattle.samples.proofs.Laid.{one_laid, reads_112_laid, reads_113_laid, none_laid}
use Rattle.samples.proofs.Open.{logs, priors, rounds, round_checks_lem}
use Rattle.samples.proofs.Rounds.{Computed, sample_round}

knot_is : (k t : ℕ) → k < 1665 → T k ≡ t → KnotIs k t
knot_is k t h e = record { rule = subst (Knot k) e (rule k h); entry = e }

one_minus : ln_one_minus_exp (steps (neg 4096)) ≡ steps (neg 4096)
unfolding logs
one_minus = refl

one_read : Computed (reads 0 1) (phase0 ∷ []) (0 ∷ []) (0 ∷ 1 ∷ []) (0 ∷ 0 ∷ []) (settled_after 2 (neg 81592) (neg 5796))
unfolding rounds round_checks_lem result_at returned_at
one_read = record { starts = refl; ends = refl; returns = refl; checked = refl }

reads_112 : Computed (reads 112 112) (phase0 ∷ []) (0 ∷ []) (0 ∷ 1 ∷ []) (0 ∷ 0 ∷ []) (settled_after 2 (neg 839792) (neg 839552))
unfolding rounds round_checks_lem result_at returned_at
reads_112 = record { starts = refl; ends = refl; returns = refl; checked = refl }

reads_113 : Computed (reads 113 113) (phase0 ∷ []) (0 ∷ []) (0 ∷ 1 ∷ []) (0 ∷ 1 ∷ []) (settled_after 1 (neg 846592) (neg 846592))
unfolding rounds round_checks_lem result_at returned_at
reads_113 = record { starts = refl; ends = refl; returns = refl; checked = refl }

reads_113_from_1 : Computed (reads 113 113) (phase1 ∷ []) (0 ∷ []) (1 ∷ 0 ∷ []) (0 ∷ 1 ∷ []) (settled_after 2 (neg 846592) (neg 846592))
unfolding rounds round_checks_lem result_at returned_at
reads_113_from_1 = record { starts = refl; ends = refl; returns = refl; checked = refl }

no_variants_lem : Computed no_variants [] [] [] [] (settled_after 1 (pos 0) (pos 0))
unfolding rounds round_checks_lem result_at returned_at
no_variants_lem = record { starts = refl; ends = refl; returns = refl; checked = refl }

j_round : SampleRound (reads 113 113) (phase1 ∷ []) (0 ∷ []) (1 ∷ 0 ∷ []) (0 ∷ 1 ∷ []) (settled_after 2 (neg 846592) (neg 846592))
j_round = sample_round _ _ _ _ _ _ reads_113_laid reads_113_from_1

pub samples : Samples
unfolding priors
samples = record {
  a = knot_is 0 4096 (omega arith) refl;
  b = knot_is 128 2396 (omega arith) refl;
  c = knot_is 256 1318 (omega arith) refl;
  d = knot_is 1664 0 (omega arith) refl;
  e = refl;
  f = one_minus;
  f_greatest = subst (OneMinusExp (steps (neg 4096))) one_minus (meets (neg 4096) (le_z_yes tt));
  g = refl;
  g_accepted = refl;
  h = sample_round _ _ _ _ _ _ one_laid one_read;
  i = sample_round _ _ _ _ _ _ reads_112_laid reads_112;
  j = sample_round _ _ _ _ _ _ reads_113_laid reads_113;
  j_from_1 = j_round;
  j_gain = ap (λ (x : RoundAnswer). x.end.0 -ℤ x.start.0) j_round.returns;
  k = sample_round _ _ _ _ _ _ none_laid no_variants_lem;
}
