-- The pieces of the line are put one after the other.
use Rattle.std.proofs.Common.{arith}
use lib.ListN.{length-set}
use Rattle.haplotype_assembly.specs.Inner.LinesRead.{line_with}
use Rattle.haplotype_assembly.proofs.Pieces.{header_fits, line_room}
use Rattle.haplotype_assembly.proofs.Stores.{put_one, put_on}
use Rattle.haplotype_assembly.proofs.lines.write_line.Goals as goal

pub write_header-alleles-requires : goal.write_header-alleles-requires
write_header-alleles-requires c = header_fits _ _ _ _ _ c.requires.in_bounds

pub write_alleles-space-requires : goal.write_alleles-space-requires
write_alleles-space-requires c =
    omega (arith, c.requires.in_bounds, line_room c.args.case.now.laid.sizes.n c.args.head c.new.ensures c.new.ensures)

pub bounds-buffer-space : goal.bounds-buffer-space
bounds-buffer-space c =
    omega (arith, c.requires.in_bounds, line_room c.args.case.now.laid.sizes.n c.args.head c.new.ensures c.new.ensures)

pub overflow_add-space : goal.overflow_add-space
overflow_add-space c =
    omega (arith, c.requires.in_bounds, line_room c.args.case.now.laid.sizes.n c.args.head c.new.ensures c.new.ensures)

pub write_qualities-last-requires : goal.write_qualities-last-requires
write_qualities-last-requires c =
    simp length-set (omega (arith, c.requires.in_bounds, line_room c.args.case.now.laid.sizes.n c.args.head c.new.ensures c.new-2.ensures))

pub bounds-buffer-last : goal.bounds-buffer-last
bounds-buffer-last c =
    omega (arith, c.requires.in_bounds, line_room c.args.case.now.laid.sizes.n c.args.head c.new.ensures c.new-2.ensures, simp length-set at c.write_qualities-last.auto.buffer)

pub overflow_add-result : goal.overflow_add-result
overflow_add-result c =
    omega (arith, c.requires.in_bounds, line_room c.args.case.now.laid.sizes.n c.args.head c.new.ensures c.new-2.ensures)

pub returns : goal.returns
unfolding line_with
returns c =
    let alleles = rw c.new.ensures at c.write_alleles-space.ensures in
    let qualities = rw c.new-2.ensures at c.write_qualities-last.ensures in
    put_on c.write_header-alleles.ensures (put_on alleles (put_on (put_one _ _ _) (put_on qualities (put_one _ _ _))))
