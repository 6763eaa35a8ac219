-- By either arm r is the next record, and the reader goes on at its next.
use Rattle.std.proofs.Common.{◌≡◌, ◌≤◌, length, sym, ap, ◌∙◌, arith}
use Rattle.variants_and_fragments.specs.Chain.{next_call_at}
use Rattle.pileup.proofs.ChainReads.{none_left, read_left, read_on}
use Rattle.pileup.proofs.reader.ChainReaderIterator.next.Goals as goal
use Rattle.pileup.proofs.reader.ChainReaderIterator.next.Goals.{then-self-r+else-ended, else-self-r}

pub returns-then-ended-clause-steps : goal.returns-then-ended-clause-steps
returns-then-ended-clause-steps c = let e = sym c.self.view_is ∙ none_left _ _ _ (omega arith) in (e, e)

pub invariant_of-self : goal.invariant_of-self
invariant_of-self c =
    let here : (c.if-self-r.r ≡ c.self.inside.next) × (1 ≤ c.self.inside.next) = elim c.if-self-r.branch [ then-self-r+else-ended w ↦ (omega arith, omega arith) | else-self-r w ↦ (omega arith, omega arith) ] in
    let on : c.next_call-self-inside.result ≡ next_call_at c.self.inside.laid.words.now c.self.inside.laid.sizes c.self.inside.next = cc (here.0, c.next_call-self-inside.ensures) in
    (rw on (read_on _ _ c.self.invariant.0 here.1), omega arith)

pub returns-clause-steps : goal.returns-clause-steps
returns-clause-steps c =
    let here : (c.if-self-r.r ≡ c.self.inside.next) × (1 ≤ c.self.inside.next) = elim c.if-self-r.branch [ then-self-r+else-ended w ↦ (omega arith, omega arith) | else-self-r w ↦ (omega arith, omega arith) ] in
    let on : c.next_call-self-inside.result ≡ next_call_at c.self.inside.laid.words.now c.self.inside.laid.sizes c.self.inside.next = cc (here.0, c.next_call-self-inside.ensures) in
    rw (on, c.call_at.ensures, here.0) (sym c.self.view_is ∙ read_left _ _ c.self.invariant.0 here.1)

pub returns-clause-goes : goal.returns-clause-goes
returns-clause-goes c =
    let step = returns-clause-steps c in
    record { on = λ _. (tt, tt, omega (arith, ap length step)); keeps = tt; rests = λ _. tt }
