-- Samples (a) to (f) of document 01, computed on the definitions; then four of Phred.
-- Assumes nothing.
use Rattle.std.proofs.Common.{◌≡◌, negsuc, refl}
use lib.Ieee.{binary64, mul, div, of_int, of_bits, lt, le}
use Rattle.steps.specs.Table.{knots}
use Rattle.steps.specs.Knots.{T}
use Rattle.steps.specs.Addend.{addend}
use Rattle.steps.specs.Logs.{mark, steps, larger, difference, add_exp}
use Rattle.steps.specs.OneMinus.{low, first, ln_one_minus_exp}
use Rattle.steps.specs.Phred.{scale, max_vcf_qual, phred_of, capped, count_up_to, quality_byte}

pub record Samples : Type 0 where
  pub a : T 0 ≡ 4096
  pub b : T 128 ≡ 2396
  pub c : T 256 ≡ 1318
  pub d : T 1664 ≡ 0
  pub e : addend 4112 ≡ 2391
  pub f : ln_one_minus_exp (steps (negsuc 4095)) ≡ steps (negsuc 4095)

pub samples : Samples
unfolding knots T addend larger difference add_exp low first ln_one_minus_exp
samples = record { a = refl; b = refl; c = refl; d = refl; e = refl; f = refl }

-- the scale is one f64; a quality of −13607 steps is the byte '+', as in the sample line; the cap holds, also of the mark
pub record Phreds : Type 0 where
  pub scale_is : scale ≡ of_bits binary64 0x3f48151824c7587f
  pub plus : quality_byte (phred_of (steps (negsuc 13606))) ≡ 43
  pub cap : capped (phred_of (steps (negsuc 1000000))) ≡ max_vcf_qual
  pub of_mark : capped (phred_of mark) ≡ max_vcf_qual

pub phreds : Phreds
unfolding scale max_vcf_qual phred_of capped count_up_to quality_byte mul div of_bits of_int lt le
phreds = record { scale_is = refl; plus = refl; cap = refl; of_mark = refl }
