-- `named` meets its contract: `_` is left to the words of no row, and every row's name is text. Assumes nothing.
use Rattle.std.proofs.Common.{rules}
use Rattle.condorbed.specs.Requests.{requests}
use Rattle.condorbed.proofs.Names.{NoneOf, unknown, no_text}
use Rattle.condorbed.proofs.requests.named.Goals as goal

pub returns-in_default : goal.returns-in_default
returns-in_default c = no_text c.args.word.now c.in_default.ensures.cases.0

pub returns-in_default-text : goal.returns-in_default-text
unfolding NoneOf requests
returns-in_default-text c = unknown c.args.word.now (search rules)
