-- Where its next is 0 it is the last one, and so it is after C records, of which a chain has no more.
use Rattle.std.proofs.Common.{◌≡◌, ℕ, suc, ◌+◌, ◌-◌, length, get_or, sym, ap, ◌∙◌, arith}
use Rattle.variants_and_fragments.specs.Chain.{next_call_at, chain_of}
use Rattle.variants_and_fragments.proofs.Linked.{linked_first, linked_in, linked_next, chain_linked, chain_length}
use Rattle.late_reads.proofs.Room.{place_in, place_end}
use Rattle.late_reads.proofs.words.last_record.Goals as goal
use Rattle.late_reads.proofs.words.last_record.Goals.{After-next_call-next}

-- the record after it
next_is : (c : After-next_call-next) → c.next_call-next.result ≡ get_or (chain_of c.args.case.now.laid.words.now c.args.case.now.laid.sizes c.args.f) c.loop-k.k 0
next_is c =
    let k = c.args.case.now.case_in in
    let linked = chain_linked k.sized.used_top (k.frags c.args.f c.requires.0) in
    let e : suc (c.loop-k.k - 1) ≡ c.loop-k.k = omega (arith, c.loop-k.auto.k) in
    c.next_call-next.ensures
    ∙ ap (next_call_at c.args.case.now.laid.words.now c.args.case.now.laid.sizes) c.loop-k.invariant.1
    ∙ linked_next linked (c.loop-k.k - 1) (omega (arith, c.loop-k.auto.k, c.loop-k.invariant.0))
    ∙ ap (λ (i : ℕ). get_or (chain_of c.args.case.now.laid.words.now c.args.case.now.laid.sizes c.args.f) i 0) e

pub loop-k-init : goal.loop-k-init
loop-k-init c =
    let k = c.args.case.now.case_in in
    let e = linked_first (chain_linked k.sized.used_top (k.frags c.args.f c.requires.0)) in
    let some = place_in (chain_of c.args.case.now.laid.words.now c.args.case.now.laid.sizes c.args.f) 0 (λ z. omega (arith, c.requires.1, e)) in
    (omega arith, c.first_call-last.ensures ∙ e)

pub next_call-next-requires : goal.next_call-next-requires
next_call-next-requires c =
    let k = c.args.case.now.case_in in
    let b = linked_in (chain_linked k.sized.used_top (k.frags c.args.f c.requires.0)) (c.loop-k.k - 1) (omega (arith, c.loop-k.auto.k, c.loop-k.invariant.0)) in
    (omega (arith, b.0, c.loop-k.invariant.1), omega (arith, b.1, c.loop-k.invariant.1, k.sized.used_top))

pub returns-then-next-eq0 : goal.returns-then-next-eq0
returns-then-next-eq0 c =
    let k = c.args.case.now.case_in in
    let n = place_end (chain_linked k.sized.used_top (k.frags c.args.f c.requires.0)) c.loop-k.k (sym (next_is (goal.at.returns-then-next-eq0 c).After-next_call-next) ∙ c.if-next-eq0.true) in
    let e : length (chain_of c.args.case.now.laid.words.now c.args.case.now.laid.sizes c.args.f) ≡ c.loop-k.k = omega (arith, n, c.loop-k.invariant.0) in
    rw e c.loop-k.invariant.1

pub loop-k-preserved : goal.loop-k-preserved
loop-k-preserved c =
    let next = next_is (goal.at.loop-k-preserved c).After-next_call-next in
    let p = place_in (chain_of c.args.case.now.laid.words.now c.args.case.now.laid.sizes c.args.f) c.loop-k.k (λ z. c.if-next-eq0.false (next ∙ z)) in
    let e : c.loop-k.k + 1 - 1 ≡ c.loop-k.k = omega arith in
    (omega arith, rw e next)

pub returns : goal.returns
returns c =
    let k = c.args.case.now.case_in in
    let e : length (chain_of c.args.case.now.laid.words.now c.args.case.now.laid.sizes c.args.f) ≡ c.loop-k.k = omega (arith, c.loop-k.invariant.0, c.loop-k-test.false, chain_length k.sized.used_top (k.frags c.args.f c.requires.0)) in
    rw e c.loop-k.invariant.1
