-- Two stores, at an unphased variant none. Assumes nothing.
use Rattle.std.proofs.Common.{refl}
use Rattle.call_genotypes.proofs.Turns.{turns_read, no_turns}
use Rattle.call_genotypes.proofs.score.turns_of.Goals as goal

pub returns-then-phased : goal.returns-then-phased
returns-then-phased c x = rw c.if-phased.true (turns_read c.args.pair.first c.args.pair.second c.requires.0 c.requires.1 x)

pub returns-else-phased : goal.returns-else-phased
returns-else-phased c x = rw c.if-phased.false (no_turns _ c.args.pair.first c.args.pair.second refl x)
