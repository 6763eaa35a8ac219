-- What is written stands in place of as many bytes.
use Rattle.std.proofs.Common.{arith}
use Rattle.haplotype_assembly.proofs.Decimals.{std_is, put_text}
use Rattle.haplotype_assembly.proofs.numbers.write_number.Goals as goal

pub write_digits-requires : goal.write_digits-requires
write_digits-requires c = let e = std_is c.args.n c.ranges.n.fits in rw e (omega (arith, c.digit_count.ensures), omega (arith, c.digit_count.ensures, c.requires))

pub returns : goal.returns
returns c =
    put_text _ (std_is c.args.n c.ranges.n.fits) c.requires (omega (arith, c.digit_count.ensures)) c.write_digits.ensures.start c.write_digits.ensures.before c.write_digits.ensures.written
