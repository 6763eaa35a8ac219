-- The table of lines: `walked` is the same list, made along the knots, so that it computes in as many steps as it is long; and what stands
-- in the table at each piece. Assumes nothing.
use Rattle.std.proofs.Common.{◌≡◌, ℕ, zero, suc, ◌+◌, ◌-◌, ◌*◌, ◌<◌, List, [], ◌∷◌, get_or, drop, sym, refl, ap, ◌∙◌, add-one, arith, drop-cons}
use Rattle.steps.specs.Table.{knots}
use Rattle.steps.specs.Knots.{T}
use Rattle.steps.specs.Inner.Lines.{fall, base, below, above, lines, line_at}
use Rattle.steps.proofs.Rule.{long}

-- ---- along the knots: x is the knot k, `more` those after it
unfoldable pub up_from : ℕ → ℕ → ℕ → List ℕ → List (ℕ × ℕ)
up_from k zero x more = (0, 32) ∷ (0, 0) ∷ []
up_from k (suc n) x [] = []
up_from k (suc n) x (y ∷ more) = (32 * x + 31 + 32 * k * (x - y), 32 - (x - y)) ∷ up_from (suc k) n y more

unfoldable pub down_to : ℕ → ℕ → ℕ → List ℕ → List (ℕ × ℕ) → List (ℕ × ℕ)
down_to k zero x more rest = rest
down_to k (suc n) x [] rest = rest
down_to k (suc n) x (y ∷ more) rest = down_to (suc k) n y more ((32 * x + 31 + 32 * k * (x - y), x - y) ∷ rest)

after : (k : ℕ) → suc k < 1665 → drop (suc k) knots ≡ T (k + 1) ∷ drop (suc (suc k)) knots
unfolding T
after k h = rw add-one (drop-cons knots (suc k) 0 (long (suc k) h))

up_is : (n k x : ℕ) → x ≡ T k → k + n < 1665 → up_from k n x (drop (suc k) knots) ≡ above k n
unfolding up_from above base fall
up_is zero k x e h = refl
up_is (suc n) k x e h =
    rw (e, after k (omega arith))
    (ap (λ (l : List (ℕ × ℕ)). (base k, 32 - fall k) ∷ l) (up_is n (suc k) (T (k + 1)) (ap T (add-one k)) (omega arith)))

down_is : (n k x : ℕ) (rest : List (ℕ × ℕ)) → x ≡ T k → k + n < 1665 → down_to k n x (drop (suc k) knots) (below k rest) ≡ below (k + n) rest
unfolding down_to below base fall
down_is zero k x rest e h = let z : k + 0 ≡ k = omega arith in rw z
down_is (suc n) k x rest e h =
    let z : k + suc n ≡ suc k + n = omega arith in
    rw (e, after k (omega arith), z) (down_is n (suc k) (T (k + 1)) rest (ap T (add-one k)) (omega arith))

unfoldable pub walked : List (ℕ × ℕ)
walked = down_to 0 1604 (T 0) (drop 1 knots) (up_from 0 1604 (T 0) (drop 1 knots))

pub lines_walked : lines ≡ walked
unfolding lines walked below
lines_walked =
    rw (up_is 1604 0 (T 0) refl (omega arith))
    (sym (down_is 1604 0 (T 0) (above 0 1604) refl (omega arith)))

-- ---- the line of piece i
-- in the part below zero, past it, and above
under : (n i j : ℕ) (rest : List (ℕ × ℕ)) → n ≡ suc (i + j) → get_or (below n rest) i (0, 0) ≡ (base j, fall j)
unfolding below
under zero i j rest e = absurd (omega arith)
under (suc k) zero j rest e =
    let f : k ≡ j = omega arith in rw f refl
under (suc k) (suc i) j rest e = under k i j rest (omega arith)

beyond : (n m i : ℕ) (rest : List (ℕ × ℕ)) → m ≡ n + i → get_or (below n rest) m (0, 0) ≡ get_or rest i (0, 0)
unfolding below
beyond zero m i rest e = let f : m ≡ i = omega arith in rw f refl
beyond (suc k) zero i rest e = absurd (omega arith)
beyond (suc k) (suc m) i rest e = beyond k m i rest (omega arith)

over : (n k i j : ℕ) → i < n → j ≡ k + i → get_or (above k n) i (0, 0) ≡ (base j, 32 - fall j)
unfolding above
over zero k i j h e = absurd (omega arith)
over (suc n) k zero j h e = let f : j ≡ k = omega arith in rw f refl
over (suc n) k (suc i) j h e = over n (suc k) i j (omega arith) (omega arith)

last : (n k : ℕ) → (get_or (above k n) n (0, 0) ≡ (0, 32)) × (get_or (above k n) (suc n) (0, 0) ≡ (0, 0))
unfolding above
last zero k = (refl, refl)
last (suc n) k = last n (suc k)

-- the table's lines
pub line_below : (i j : ℕ) → 1604 ≡ suc (i + j) → line_at i ≡ (base j, fall j)
unfolding lines
line_below i j e = under 1604 i j (above 0 1604) e

pub line_above : (m i : ℕ) → i < 1604 → m ≡ 1604 + i → line_at m ≡ (base i, 32 - fall i)
unfolding lines
line_above m i h e = beyond 1604 m i (above 0 1604) e ∙ over 1604 0 i i h (omega arith)

pub line_high : line_at 3208 ≡ (0, 32)
unfolding lines
line_high = beyond 1604 3208 1604 (above 0 1604) (omega arith) ∙ (last 1604 0).0

pub line_low : line_at 3209 ≡ (0, 0)
unfolding lines
line_low = beyond 1604 3209 1605 (above 0 1604) (omega arith) ∙ (last 1604 0).1
