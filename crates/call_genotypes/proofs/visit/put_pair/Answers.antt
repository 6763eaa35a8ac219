-- The likelihoods move on one haplotype, then on the other. Assumes nothing.
use Rattle.std.proofs.Common.{◌^◌, length, arith, rules}
use Rattle.pileup.specs.Inner.Packed.{rows_at}
use Rattle.call_genotypes.specs.Inner.Visits.{Moved}
use Rattle.call_genotypes.proofs.Linked.{lik_within, pile_fits}
use Rattle.call_genotypes.proofs.Moves.{pair_stays, pair_moves}
use Rattle.call_genotypes.proofs.visit.put_pair.Goals as goal

pub returns-then-reads-v-ne0 : goal.returns-then-reads-v-ne0
returns-then-reads-v-ne0 c C M =
    let pile = c.pile-pile.result.now in
    let second : Moved 1 c.at-old.result.second c.args.new.second (rows_at pile 0 (length pile)) c.move_liks.new.lik c.move_liks-then-reads-v-ne0.new.lik = search rules in
    pair_moves M _ _ c.put.ensures pile c.at-old.result c.move_liks.new.lik _ c.if-reads-v-ne0.true c.pile-pile.ensures c.at-old.ensures c.move_liks.ensures second

pub returns-else-reads-v-ne0 : goal.returns-else-reads-v-ne0
returns-else-reads-v-ne0 c C M = pair_stays M _ _ c.put.ensures c.if-reads-v-ne0.false

pub move_liks-requires : goal.move_liks-requires
move_liks-requires c =
    let M = c.requires.some.holds in
    (c.pile-pile.ensures.rows_in _ _ (pile_fits M.held c.args.v M.v_in M.liks), λ i. omega (arith, lik_within M.held _ _ M.liks i), omega arith)

pub move_liks-requires-then-reads-v-ne0 : goal.move_liks-requires-then-reads-v-ne0
move_liks-requires-then-reads-v-ne0 c =
    let M = c.requires.some.holds in
    let e = c.move_liks.ensures in
    (rw e.long (c.pile-pile.ensures.rows_in _ _ (pile_fits M.held c.args.v M.v_in M.liks)), λ i. omega (arith, e.grown (2 ^ 32) (lik_within M.held _ _ M.liks) i), omega arith)
