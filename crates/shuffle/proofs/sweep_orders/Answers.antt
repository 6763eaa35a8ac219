-- Each return is one law of the outcome, and of what is promised. Assumes nothing.
use Rattle.std.proofs.Common.{◌≡◌, ℕ, ◌<◌, Option, None, Err, length, ◌∙◌}
use Rattle.std.specs.Option.{ok_or}
use Rattle.std.proofs.lemmas.Option.{MatchOption-at_some, MatchOption-at_none}
use Rattle.variants_and_fragments.specs.declared.Refusal.{Refusal}
use Rattle.variants_and_fragments.specs.declared.Refusal.TheVariants.{Orders}
use Rattle.variants_and_fragments.proofs.Decoded.{variants_are}
use Rattle.variants_and_fragments.proofs.Outcomes.{case_stops, exit_is, promise_refused, promise_done}
use Rattle.shuffle.specs.Orders.{order_count}
use Rattle.shuffle.specs.Answers.{sweep_orders_outcome, sweep_orders_written}
use Rattle.shuffle.proofs.Outcomes.{no_room, some_room}
use Rattle.shuffle.proofs.Slices.{count_fills}
use Rattle.shuffle.proofs.sweep_orders.Goals as goal
use Rattle.shuffle.proofs.sweep_orders.Goals.{In_ok-m}

pub returns-in_err-case : goal.returns-in_err-case
unfolding sweep_orders_outcome
returns-in_err-case c =
    rw (exit_is c.from_residual.ensures.1) (promise_refused _ (case_stops _ _ _ _ c.in_err-case.ensures.outcome))

-- the error that takes the place of none
ok_or_none : (o : Option ℕ) (x y : Refusal) → o ≡ None → Err x ≡ ok_or o y → x ≡ y
ok_or_none o x y n e = cc

pub returns-in_err-m : goal.returns-in_err-m
returns-in_err-m c =
    let none = MatchOption-at_none _ _ c.in_err-m.ensures.ok_part c.order_count.ensures in
    let x = ok_or_none _ _ (Orders 0) c.in_err-m.ensures.ok_part c.in_err-m.ensures.value in
    rw (exit_is c.from_residual-in_err-m.ensures.1, x) (promise_refused (Orders 0) (no_room _ _ _ c.in_ok-case.case c.in_ok-case.ensures.outcome none))

-- past the count
counted : (c : In_ok-m) → (0 < c.in_ok-m.m) × (c.in_ok-m.m ≡ order_count c.in_ok-case.case.laid.sizes.n (length c.args.orders.now))
counted c = MatchOption-at_some _ _ c.in_ok-m.m c.in_ok-m.ensures.ok_part c.order_count.ensures

pub write_orders-requires-clause-n_bound : goal.write_orders-requires-clause-n_bound
write_orders-requires-clause-n_bound c = c.in_ok-case.case.laid.sized.n_top

pub write_orders-requires-clause-n_value : goal.write_orders-requires-clause-n_value
write_orders-requires-clause-n_value c =
    let m = counted (goal.at.write_orders-requires-clause-n_value c).In_ok-m in count_fills _ _ _ m.1 m.0

pub returns : goal.returns
unfolding sweep_orders_written
returns c =
    let m = counted (goal.at.returns c).In_ok-m in
    let n = rw c.in_ok-case.ensures.lent.0 at (variants_are c.in_ok-case.case.case_in c.args.bases.now) in
    promise_done tt (some_room _ _ _ c.in_ok-case.case c.in_ok-case.ensures.outcome (rw m.1 at m.0)) (c.write_orders.ensures ∙ rw (m.1, n))
