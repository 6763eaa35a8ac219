-- Each return is one law of the outcome. Assumes nothing.
use Rattle.std.proofs.Common.{◌≡◌, ◌<◌, length, rules}
use Rattle.std.proofs.lemmas.Option.{MatchOption-at_some, MatchOption-at_none}
use Rattle.shuffle.specs.Orders.{order_count}
use Rattle.shuffle.proofs.Slices.{count_fills}
use Rattle.shuffle.proofs.Outcomes.{no_orders, bad_order, good_orders}
use Rattle.shuffle.proofs.check_orders.Goals as goal
use Rattle.shuffle.proofs.check_orders.Goals.{In_ok-m}

pub returns-in_err-m : goal.returns-in_err-m
returns-in_err-m c =
    let none = no_orders c.args.n c.args.orders.now (MatchOption-at_none _ _ c.in_err-m.ensures.ok_part c.order_count.ensures) in
    search (rules, none)

-- past the count
counted : (c : In_ok-m) → (0 < c.in_ok-m.m) × (c.in_ok-m.m ≡ order_count c.args.n (length c.args.orders.now))
counted c = MatchOption-at_some _ _ c.in_ok-m.m c.in_ok-m.ensures.ok_part c.order_count.ensures

pub first_bad_order-requires-clause-n_value : goal.first_bad_order-requires-clause-n_value
first_bad_order-requires-clause-n_value c = let m = counted (goal.at.first_bad_order-requires-clause-n_value c).In_ok-m in count_fills _ _ _ m.1 m.0

pub returns-in-Some : goal.returns-in-Some
returns-in-Some c =
    let m = counted (goal.at.returns-in-Some c).In_ok-m in
    bad_order _ _ _ m.1 m.0 _ c.in-Some.ensures.0 c.in-Some.ensures.1

pub returns-in-None : goal.returns-in-None
returns-in-None c = let m = counted (goal.at.returns-in-None c).In_ok-m in good_orders _ _ _ m.1 m.0 c.in-None.ensures
