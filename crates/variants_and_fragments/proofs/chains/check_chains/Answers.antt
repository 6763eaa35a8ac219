-- The first reached record that is wrong decides, then the first fragment that is wrong, then the free chain.
use Rattle.std.proofs.Common.{◌∙◌, sym}
use Rattle.variants_and_fragments.proofs.Outcomes.{exit_is, unless_on, unless_at, each_stops, each_passes}
use Rattle.variants_and_fragments.proofs.Walks.{clear_marked}
use Rattle.variants_and_fragments.proofs.chains.check_chains.Goals as goal

pub check_fragments-requires : goal.check_fragments-requires
check_fragments-requires c = clear_marked

pub returns-in_err-check_reached : goal.returns-in_err-check_reached
returns-in_err-check_reached c =
    rw (exit_is c.from_residual.ensures.1) (each_stops 4 _ 1 _ _ _ c.in_err-check_reached.ensures)

pub returns-in-Err : goal.returns-in-Err
returns-in-Err c = each_stops 5 _ 0 _ _ _ c.in-Err.ensures.ok ∙ each_passes 4 _ 1 _ _ c.in_ok-check_reached.ensures

pub returns-in_err-check_calls : goal.returns-in_err-check_calls
returns-in_err-check_calls c =
    rw (exit_is c.from_residual-in_err-check_calls.ensures.1) (each_stops 4 _ 1 _ _ _ c.in_err-check_calls.ensures)

pub returns-then-not-free_ok : goal.returns-then-not-free_ok
returns-then-not-free_ok c =
    unless_at _ 5 _ _ (sym c.free_ok.ensures ∙ c.if-not-free_ok.true) ∙ each_passes 5 _ 0 _ _ c.in_default.ensures.ok ∙ each_passes 4 _ 1 _ _ c.in_ok-check_calls.ensures

pub returns : goal.returns
returns c =
    unless_on _ 5 _ _ (sym c.free_ok.ensures ∙ c.if-not-free_ok.false) ∙ each_passes 5 _ 0 _ _ c.in_default.ensures.ok ∙ each_passes 4 _ 1 _ _ c.in_ok-check_calls.ensures
