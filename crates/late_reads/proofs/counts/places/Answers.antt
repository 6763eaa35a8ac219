-- The call's test chooses, as in the definition.
use Rattle.std.proofs.Common.{◌≡◌, ◌+◌, ◌*◌, arith}
use Rattle.late_reads.specs.Inner.Counting.{places, allele_place, strand_place}
use Rattle.late_reads.proofs.counts.places.Goals as goal

pub returns-then-call : goal.returns-then-call
unfolding places
returns-then-call c =
    let e : allele_place c.args.call + 3 * (1 + c.direction_of.result) ≡ strand_place c.args.call = omega (arith, c.direction_of.ensures) in
    rw (c.if-call.true, e)

pub returns : goal.returns
unfolding places
returns c = rw c.if-call.false
