use Rattle.haplotype_assembly.proofs.Tallies.{tallying_small, tallying_on, tallying_end}
use Rattle.haplotype_assembly.proofs.tally.tally_rows.Goals as goal

pub with_call-tally-requires : goal.with_call-tally-requires
with_call-tally-requires c = (c.in-Some.ensures.steps.1.variant_top, tallying_small c.loop-row.invariant c.requires)

pub loop-row-preserved : goal.loop-row-preserved
loop-row-preserved c = rw c.with_call-tally.ensures (tallying_on c.loop-row.invariant c.in-Some.ensures.steps.0 c.in-Some.ensures.steps.1.variant_top)

pub returns : goal.returns
returns c = (tallying_end c.loop-row.invariant c.in-None.ensures.steps.0.0, tallying_small c.loop-row.invariant c.requires)
