-- One more call is added. Assumes nothing.
use Rattle.std.proofs.Common.{◌≡◌, ℕ, ap, refl, ◌∙◌, arith}
use Rattle.variants_and_fragments.specs.Pileup.{Row}
use Rattle.pileup.specs.Inner.Packed.{row_from, row_at}
use Rattle.call_genotypes.specs.Inner.Scores.{value_of, row_mixes}
use Rattle.call_genotypes.proofs.Sizes.{row_size}
use Rattle.call_genotypes.proofs.Fours.{none_is, summing_start, summing_step, summing_end}
use Rattle.call_genotypes.proofs.score.score_calls.Goals as goal

pub loop-word-init : goal.loop-word-init
loop-word-init c =
    let z = c.default-of.ensures in
    let e = none_is c.default-of.result z.0 z.1.0 z.1.1.0 z.1.1.1 in
    rw e (summing_start _ _ _ _ _ refl)

pub call_mixes-mixes-requires : goal.call_mixes-mixes-requires
call_mixes-mixes-requires c =
    let e : row_from c.unpack-row.result ≡ row_at c.args.pile.now c.loop-word.word-index = ap row_from c.unpack-row.ensures in
    record { row_fits = rw e (c.requires.pile_fits.rows_in c.loop-word.word-index (omega arith) c.loop-word-test.true); within = c.requires.within }

pub add-requires : goal.add-requires
add-requires c =
    let e : row_from c.unpack-row.result ≡ row_at c.args.pile.now c.loop-word.word-index = ap row_from c.unpack-row.ensures in
    let i = c.requires.pile_fits.rows_in c.loop-word.word-index (omega arith) c.loop-word-test.true in
    λ w. (let k = c.loop-word.invariant.small c.unpack-row.result.allele w in omega (arith, c.loop-word.invariant.few), rw (c.call_mixes-mixes.ensures w, e) (row_size i c.args.turns.now c.args.standing.now.lik.now c.args.standing.now.within c.requires.within w))

pub loop-word-preserved : goal.loop-word-preserved
loop-word-preserved c =
    let e : row_from c.unpack-row.result ≡ row_at c.args.pile.now c.loop-word.word-index = ap row_from c.unpack-row.ensures in
    let i = c.requires.pile_fits.rows_in c.loop-word.word-index (omega arith) c.loop-word-test.true in
    let a = ap (λ (r : Row). r.call.allele) e in
    let v : (w : ℕ) → value_of c.call_mixes-mixes.result w ≡ row_mixes c.args.turns.now c.args.standing.now.lik.now (row_at c.args.pile.now c.loop-word.word-index) w = λ w. c.call_mixes-mixes.ensures w ∙ ap (λ (r : Row). row_mixes c.args.turns.now c.args.standing.now.lik.now r w) e in
    summing_step _ _ _ _ _ _ _ _ (value_of c.call_mixes-mixes.result) c.unpack-row.result.allele c.loop-word.invariant c.loop-word-test.true (omega (arith, c.requires.pile_fits.few))
    a (rw a i.allele_in) v (λ w. rw (v w) (row_size i c.args.turns.now c.args.standing.now.lik.now c.args.standing.now.within c.requires.within w)) c.add.ensures refl

pub invariant_of-result : goal.invariant_of-result
invariant_of-result c = record { within = (summing_end _ _ _ _ _ _ c.loop-word.invariant c.loop-word-test.false).small }

pub returns : goal.returns
returns c = summing_end _ _ _ _ _ _ c.loop-word.invariant c.loop-word-test.false
