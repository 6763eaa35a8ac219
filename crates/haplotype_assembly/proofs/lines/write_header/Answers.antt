-- Its pieces are put one after the other.
use Rattle.std.proofs.Common.{◌≡◌, ◌+◌, arith}
use lib.ListN.{length-set}
use Rattle.haplotype_assembly.specs.Inner.LinesRead.{header_of}
use Rattle.haplotype_assembly.proofs.Pieces.{header_length}
use Rattle.haplotype_assembly.proofs.Stores.{put_end, put_one, put_on}
use Rattle.haplotype_assembly.proofs.lines.write_header.Goals as goal

pub write_number-end2-requires : goal.write_number-end2-requires
write_number-end2-requires c = simp length-set (omega (arith, header_length c.args.head))

pub bounds-buffer-end2 : goal.bounds-buffer-end2
bounds-buffer-end2 c = omega (arith, header_length c.args.head, simp length-set at c.write_number-end2.auto.buffer)

pub bounds-buffer-end2-2 : goal.bounds-buffer-end2-2
bounds-buffer-end2-2 c = simp length-set (omega (arith, header_length c.args.head, simp length-set at c.write_number-end2.auto.buffer))

pub returns : goal.returns
unfolding header_of
returns c =
    let e : c.write_number-end2.result + 1 + 1 ≡ c.write_number-end2.result + 2 = omega arith in
    rw (← c.strand_byte.ensures) (put_end e (put_on c.write_number-end.ensures (put_on (put_one _ _ _) (put_on c.write_number-end2.ensures (put_on (put_one _ _ _) (put_one _ _ _))))))
