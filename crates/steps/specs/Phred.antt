-- 01, section 1: Phred of a log probability and the cap; section 7: the quality byte. VCF's QUAL and GQ are such numbers, −10 log10 of the
-- probability that the call is wrong. Assumes nothing.
use Rattle.std.specs.Prelude.{ℕ, zero, suc, ◌+◌, cond, pos, neg_ℤ, from_bits, Float}
use Rattle.std.specs.Float.{binary64}
use Rattle.std.specs.Float.Ieee.{mul, div, of_int, lt, le}
use Rattle.steps.specs.Logs.{Log, mark, steps}

-- (3.010299956639812 / 1048576) × 256
unfoldable pub scale : Float
scale =
    mul binary64 (div binary64 (from_bits binary64 0x4008151824c7587f) (from_bits binary64 0x4130000000000000))
    (from_bits binary64 0x4070000000000000)

-- MAX_VCF_QUAL: 500.0
unfoldable pub max_vcf_qual : Float
max_vcf_qual = from_bits binary64 0x407f400000000000

-- Phred of p: −p as f64, times the scale. The mark has Phred 500.0
unfoldable pub phred_of : Log → Float
phred_of mark = max_vcf_qual
phred_of (steps p) = mul binary64 (of_int binary64 (neg_ℤ p)) scale

-- qualities are capped at 500.0
unfoldable pub capped : Float → Float
capped x = cond (lt max_vcf_qual x) max_vcf_qual x

-- the number of w in 1..n with w ≤ x
unfoldable pub count_up_to : ℕ → Float → ℕ
count_up_to zero x = 0
count_up_to (suc n) x = count_up_to n x + cond (le (of_int binary64 (pos (suc n))) x) 1 0

-- the quality byte is 33 plus the number of w in 1..93 with w ≤ Phred
unfoldable pub quality_byte : Float → ℕ
quality_byte x = 33 + count_up_to 93 x
