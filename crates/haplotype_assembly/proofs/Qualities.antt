-- A quality as a log probability: it is finite and small.
-- Assumes nothing.
use mathlib.Core.Path.{◌≡◌}
use Prim.Native.Nat.{◌<◌, ◌^◌}
use native.Mathlib.Omega.{arith}
use lib.IntN.{ℤ}
use Rattle.steps.specs.Logs.{steps}
use Rattle.steps.specs.Inner.Logs.{log_of, size}
use Rattle.variants_and_fragments.specs.Inner.Sums.{DownTo}
use Rattle.haplotype_assembly.proofs.Cited.{down_abs, of_small, size_steps}

module _ (z : ℤ) (h : DownTo 262144 z) where
  pub quality_log : log_of z ≡ steps z
  quality_log = of_small z (omega (arith, down_abs 262144 z h))

  pub quality_small : size (log_of z) < 2 ^ 52
  quality_small = rw quality_log (omega (arith, size_steps z, down_abs 262144 z h))
