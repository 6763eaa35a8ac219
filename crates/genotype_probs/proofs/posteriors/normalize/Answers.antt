-- An entry and the total are small; past the entries zeros are written.
use Rattle.std.proofs.Common.{◌≡◌, ℕ, ◌-◌, ◌*◌, ◌≤◌, List, ◌++◌, length, take, drop, ℤ, pos, refl, ◌∙◌, arith, lt-ltb, le-ltb, length-append, length-take, length-drop}
use Rattle.std.proofs.lemmas.List.{get_or_append_left}
use borrow.Rule.Slice.PartMut.{post_of}
use Rattle.genotype_probs.specs.Posteriors.{normalized}
use Rattle.genotype_probs.specs.Inner.Posteriors.{TableIn}
use Rattle.genotype_probs.proofs.AlleleLaws.{nine}
use Rattle.genotype_probs.proofs.NinePlaces.{then_zeros}
use Rattle.genotype_probs.proofs.posteriors.normalize.Goals as goal

-- the entries, as a part of the table
part : {tab : List ℤ} {k : ℕ} → TableIn tab k → length (take (k * k - 0) tab) ≡ k * k
part {tab} {k} t = simp length-take (omega (arith, nine k t.k_high, t.size))

pub returns : goal.returns
unfolding normalized
returns c =
    let t = c.requires in
    let k = c.args.k in
    let m = k * k in
    let top = nine k t.k_high in
    let items = c.loop-x.x-items in
    let n : length items ≡ m = c.loop-x.auto.x-items ∙ part t in
    let end : m ≤ c.loop-x.x-index = omega (arith, c.loop-x-test.false, part t) in
    let xs = items ++ post_of 0 (m - 0) c.args.post.now in
    let long : length xs ≡ 9 = simp (length-append, length-drop) (omega (arith, t.size)) in
    let rest : length (take (9 - m) (drop m xs)) ≡ 9 - m = simp (length-take, length-drop) (omega arith) in
    then_zeros (normalized c.args.post.now k) m xs c.fill.new.self top long (c.fill.ensures.len ∙ rest)
    (λ p h. get_or_append_left items (post_of 0 (m - 0) c.args.post.now) (pos 0) p (omega arith)
    ∙ c.loop-x.invariant.0 p (omega arith)
    ∙ rw (lt-ltb p m h, c.table_sum-total.ensures.0) refl)
    (λ p h. c.fill.ensures.clones p (pos 0) (omega arith) refl)
    (λ p h. rw (le-ltb p m h) refl)
