-- One more call moves its likelihood. Assumes nothing.
use Rattle.std.proofs.Common.{◌≡◌, ◌+◌, ◌*◌, ◌^◌, ap, to_z, of_z, w64, ◌-ℤ◌, ◌∙◌, arith}
use Rattle.steps.proofs.Signed.{read_back}
use Rattle.variants_and_fragments.specs.Pileup.{Row}
use Rattle.pileup.specs.Inner.Packed.{row_from, row_at}
use Rattle.sweeps.specs.Sweeps.{call_term}
use Rattle.call_genotypes.proofs.Sizes.{qual_size, other_size, row_change_size}
use Rattle.call_genotypes.proofs.Moving.{moving_start, moving_step, moving_end}
use Rattle.call_genotypes.proofs.visit.move_liks.Goals as goal

pub loop-word-init : goal.loop-word-init
loop-word-init c = moving_start _ _ _ _ _ _ _

pub change-requires : goal.change-requires
change-requires c =
    let e : row_from c.unpack-row.result ≡ row_at c.args.pile.now c.loop-word.word-index = ap row_from c.unpack-row.ensures in
    let i = rw (← e) at (c.requires.0.rows_in c.loop-word.word-index (omega arith) c.loop-word-test.true) in
    (qual_size i, other_size i)

pub shift-requires : goal.shift-requires
shift-requires c =
    let l = c.loop-word in
    let e : row_from c.unpack-row.result ≡ row_at c.args.pile.now l.word-index = ap row_from c.unpack-row.ensures in
    let i = c.requires.0.rows_in l.word-index (omega arith) c.loop-word-test.true in
    let at : 2 * c.unpack-row.result.fragment + c.args.side ≡ 2 * (row_at c.args.pile.now l.word-index).fragment + c.args.side = ap (λ (r : Row). 2 * r.fragment + c.args.side) e in
    let y = read_back w64 _ c.change.type_inv ∙ c.change.ensures ∙ ap (λ (r : Row). call_term r.call c.args.new -ℤ call_term r.call c.args.old) e in (
      omega (arith, at, i.fragment_in, c.requires.2, l.invariant.long),
      omega (arith, l.invariant.small (2 ^ 34) c.requires.1 (2 * c.unpack-row.result.fragment + c.args.side), l.invariant.few),
      rw y (row_change_size i c.args.old c.args.new),
    )

pub loop-word-preserved : goal.loop-word-preserved
loop-word-preserved c =
    let l = c.loop-word in
    let e : row_from c.unpack-row.result ≡ row_at c.args.pile.now l.word-index = ap row_from c.unpack-row.ensures in
    let i = c.requires.0.rows_in l.word-index (omega arith) c.loop-word-test.true in
    let at : 2 * c.unpack-row.result.fragment + c.args.side ≡ 2 * (row_at c.args.pile.now l.word-index).fragment + c.args.side = ap (λ (r : Row). 2 * r.fragment + c.args.side) e in
    let y = read_back w64 _ c.change.type_inv ∙ c.change.ensures ∙ ap (λ (r : Row). call_term r.call c.args.new -ℤ call_term r.call c.args.old) e in
    moving_step _ _ _ _ _ _ _ l.word-index l.lik _ (2 * c.unpack-row.result.fragment + c.args.side) (to_z w64 (of_z w64 c.change.result))
    l.invariant c.loop-word-test.true (omega (arith, c.requires.0.few)) at y (omega (arith, at, i.fragment_in, c.requires.2, l.invariant.long)) (rw y (row_change_size i c.args.old c.args.new)) c.shift.ensures

pub returns : goal.returns
returns c = moving_end _ _ _ _ _ _ _ _ _ c.loop-word.invariant c.loop-word-test.false
