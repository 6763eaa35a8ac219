-- No mark is above the order's, and a number has that mark just where it stands among the entries seen. Assumes nothing.
use Rattle.std.proofs.Common.{◌≤◌, All, take}
use Rattle.shuffle.proofs.Marks.{Marking}
use Rattle.shuffle.proofs.orders.is_permutation.Given as goal

abbrev pub invariant-loop-v : goal.invariant-loop-v
invariant-loop-v l = record {
  top : All (λ x. x ≤ l.mark) l.marks;
  marking : Marking l.mark (take l.v-index l.order) l.marks;
}
