-- Nothing, or a space, the variant's number and a space.
use Rattle.std.proofs.Common.{sym, arith}
use lib.ListN.{length-set}
use Rattle.haplotype_assembly.proofs.Pieces.{start_same, start_new, new_length}
use Rattle.haplotype_assembly.proofs.Stores.{put_none, put_one, put_on, put_as}
use Rattle.haplotype_assembly.proofs.lines.open_block.Goals as goal

pub returns-then-v-next : goal.returns-then-v-next
returns-then-v-next c = put_as (sym (start_same _ _ c.if-v-next.true)) (put_none _ _)

pub write_number-end-requires : goal.write_number-end-requires
write_number-end-requires c = simp length-set (omega (arith, new_length _ _ c.if-v-next.false))

pub bounds-buffer-end : goal.bounds-buffer-end
bounds-buffer-end c = omega (arith, new_length _ _ c.if-v-next.false, simp length-set at c.write_number-end.auto.buffer)

pub returns : goal.returns
returns c = put_as (sym (start_new _ _ c.if-v-next.false)) (put_on (put_one _ _ _) (put_on c.write_number-end.ensures (put_one _ _ _)))
