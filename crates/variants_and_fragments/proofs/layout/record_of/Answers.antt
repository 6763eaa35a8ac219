-- What is past the records used is none.
use Rattle.variants_and_fragments.proofs.Chain.{record_none, record_some}
use Rattle.variants_and_fragments.proofs.layout.record_of.Goals as goal

pub returns-then-used-t : goal.returns-then-used-t
returns-then-used-t c = record_none _ _ c.if-used-t.true

pub returns : goal.returns
returns c = record_some _ _ c.if-used-t.false
