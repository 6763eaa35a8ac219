-- d is added at the call's one or two places.
use Rattle.std.proofs.Common.{to_z-of_z}
use Rattle.late_reads.proofs.Places.{first_at, second_next, counted_two, counted_one}
use Rattle.late_reads.proofs.counts.count_call.Goals as goal

pub add_at-requires : goal.add_at-requires
add_at-requires c = rw (to_z-of_z c.ranges.d) (first_at _ c.places-first.ensures c.requires)

pub add_at-requires-in-Some : goal.add_at-requires-in-Some
add_at-requires-in-Some c = rw (c.add_at.ensures, to_z-of_z c.ranges.d) (second_next _ c.places-first.ensures c.requires c.in-Some.is)

pub returns-in-Some : goal.returns-in-Some
returns-in-Some c = rw (c.add_at-in-Some.ensures, c.add_at.ensures, to_z-of_z c.ranges.d) (counted_two _ c.places-first.ensures c.in-Some.is c.args.d c.args.counts.now)

pub returns-in_default : goal.returns-in_default
returns-in_default c = rw (c.add_at.ensures, to_z-of_z c.ranges.d) (counted_one _ c.places-first.ensures c.in_default.is c.args.d c.args.counts.now)
