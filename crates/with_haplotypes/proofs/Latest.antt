-- What stands in the posteriors' slice after the last sweep: at each variant's places how far the scores of its visit
-- in that sweep are above the first, since the sweep visits it once and another variant's visit writes elsewhere; past the variants' places what
-- stood there before. Assumes nothing.
use mathlib.Core.Path.{◌≡◌, refl, ◌∙◌}
use mathlib.Core.Logic.{◌≢◌}
use mathlib.Core.Bool.{Bool, true, false, cond}
use mathlib.Core.List.{List, [], ◌∷◌}
use Prim.Native.Nat.{ℕ, zero, suc, ◌+◌, ◌*◌, ◌<◌, ◌≤◌}
use native.Mathlib.Omega.{arith}
use borrow.Author.Tests.{eqb-true, eqb-false}
use lib.Dec.{T, eqb, eqb_refl}
use lib.IntN.{ℤ, pos, ◌-ℤ◌}
use lib.ListN.{length, get_or}
use lib.Seq.{sets, length-sets}
use Rattle.steps.proofs.Signed.{cases, by_test}
use Rattle.variants_and_fragments.proofs.Decoded.{tabulate_length, tabulate_at}
use Rattle.shuffle.specs.Permutation.{Permutation, member, times}
use Rattle.sweeps.specs.Sweeps.{SweepCase, score, visit}
use Rattle.sweeps.specs.Inner.Sweeps.{GoodSweepCase}
use Rattle.sweeps.specs.Demand3.{after}
use Rattle.sweeps.specs.Inner.Posts.{recorded, posts}
use Rattle.sweeps.proofs.Basics.{or_l, or_r}
use Rattle.sweeps.proofs.Posts.{length_posts}
use Rattle.sweeps.proofs.Visit.{square_nine}
use Rattle.call_genotypes.specs.Inner.Scores.{over_first}
use Rattle.call_genotypes.proofs.Tables.{sets_before, sets_after, sets_at}
use Rattle.with_haplotypes.specs.Round.{at_visit}

-- where a count is 0, so are its first and its rest
pub none_first : (b : Bool) (n : ℕ) → cond b 1 0 + n ≡ 0 → (b ≡ false) × (n ≡ 0)
none_first true n e = absurd (omega arith)
none_first false n e = (refl, omega arith)

module _ (C : SweepCase) (good : GoodSweepCase C) where
  -- how far a score is above the first
  abbrev above : ℕ → List ℕ → ℕ → ℤ
  above v h p = score C v h p -ℤ score C v h 0

  abbrev table_of : ℕ → List ℕ → List ℤ
  table_of v h = over_first (C.k v) (score C v h)

  table_nine : (v : ℕ) (h : List ℕ) → v < C.n → length (table_of v h) ≤ 9
  table_nine v h l = omega (arith, tabulate_length (C.k v * C.k v) (above v h), square_nine C good v l)

  -- ---- one visit
  -- another variant's table is stored elsewhere
  stored_other : (v w p : ℕ) (h : List ℕ) (ps : List ℤ) → w < C.n → w ≢ v → p < 9 → get_or (sets ps (9 * w) (table_of w h)) (9 * v + p) (pos 0) ≡ get_or ps (9 * v + p) (pos 0)
  stored_other v w p h ps l f q =
      cases v w
      (λ k. sets_before (pos 0) (table_of w h) ps (9 * w) (9 * v + p) (omega arith))
      (λ k. sets_after (pos 0) (table_of w h) ps (9 * w) (9 * v + p) (omega (arith, table_nine w h l)))

  stored_past : (w e : ℕ) (h : List ℕ) (ps : List ℤ) (x : ℤ) → w < C.n → 9 * C.n ≤ e → get_or (sets ps (9 * w) (table_of w h)) e x ≡ get_or ps e x
  stored_past w e h ps x l q = sets_after x (table_of w h) ps (9 * w) e (omega (arith, table_nine w h l))

  stored_at : (v p : ℕ) (h : List ℕ) (ps : List ℤ) → v < C.n → 9 * C.n ≤ length ps → p < C.k v * C.k v
      → get_or (sets ps (9 * v) (table_of v h)) (9 * v + p) (pos 0) ≡ above v h p
  stored_at v p h ps l room q =
      sets_at (pos 0) (table_of v h) ps (9 * v) p (omega (arith, tabulate_length (C.k v * C.k v) (above v h))) (omega (arith, table_nine v h l))
      ∙ tabulate_at (C.k v * C.k v) (above v h) p (pos 0) q

  -- ---- one sweep, by an order whose entries are variants
  abbrev Inside : List ℕ → Type 0
  Inside vs = (w : ℕ) → T (member w vs) → w < C.n

  inside_first : (w : ℕ) (ws : List ℕ) → Inside (w ∷ ws) → w < C.n
  unfolding member
  inside_first w ws i = i w (or_l (eqb w w) (member w ws) (eqb_refl w))

  inside_rest : (w : ℕ) (ws : List ℕ) → Inside (w ∷ ws) → Inside ws
  unfolding member
  inside_rest w ws i u t = i u (or_r (eqb w u) (member u ws) t)

  -- a variant that the order does not have keeps its places
  recorded_other : (v p : ℕ) (vs h : List ℕ) (ps : List ℤ) → Inside vs → times v vs ≡ 0 → p < 9 → get_or (recorded over_first C vs h ps) (9 * v + p) (pos 0) ≡ get_or ps (9 * v + p) (pos 0)
  unfolding recorded times
  recorded_other v p [] h ps i e q = refl
  recorded_other v p (w ∷ ws) h ps i e q =
      let n = none_first (eqb w v) (times v ws) e in
      recorded_other v p ws (visit C w h) (sets ps (9 * w) (table_of w h)) (inside_rest w ws i) n.1 q
      ∙ stored_other v w p h ps (inside_first w ws i) (eqb-false w v n.0) q

  recorded_past : (e : ℕ) (vs h : List ℕ) (ps : List ℤ) (x : ℤ) → Inside vs → 9 * C.n ≤ e → get_or (recorded over_first C vs h ps) e x ≡ get_or ps e x
  unfolding recorded
  recorded_past e [] h ps x i q = refl
  recorded_past e (w ∷ ws) h ps x i q =
      recorded_past e ws (visit C w h) (sets ps (9 * w) (table_of w h)) x (inside_rest w ws i) q
      ∙ stored_past w e h ps x (inside_first w ws i) q

  module _ (v p : ℕ) (q : p < C.k v * C.k v) where
    -- the order has v once: its visit's scores stand
    recorded_at : (vs h : List ℕ) (ps : List ℤ) → Inside vs → times v vs ≡ 1 → 9 * C.n ≤ length ps → get_or (recorded over_first C vs h ps) (9 * v + p) (pos 0) ≡ above v (at_visit C v vs h) p
    unfolding recorded times at_visit
    recorded_at [] h ps i e room = absurd (omega arith)
    recorded_at (w ∷ ws) h ps i e room =
        let next = sets ps (9 * w) (table_of w h) in
        let l = inside_first w ws i in
        by_test (eqb w v)
        (λ t. let same : w ≡ v = eqb-true w v t in
        let none : times v ws ≡ 0 = omega (arith, rw t at e) in
        rw t
        (recorded_other v p ws (visit C w h) next (inside_rest w ws i) none (omega (arith, square_nine C good v (rw same at l)))
        ∙ rw same (stored_at v p h ps (rw same at l) room q)))
        (λ t. rw t (recorded_at ws (visit C w h) next (inside_rest w ws i) (omega (arith, rw t at e)) (omega (arith, length-sets ps (9 * w) (table_of w h)))))

  pub latest_at : (vs h : List ℕ) (ps : List ℤ) → Permutation C.n vs → 9 * C.n ≤ length ps → (v p : ℕ) → v < C.n → p < C.k v * C.k v
      → get_or (recorded over_first C vs h ps) (9 * v + p) (pos 0) ≡ above v (at_visit C v vs h) p
  latest_at vs h ps order room v p l q = recorded_at v p q vs h ps order.within (order.once v l) room

  -- ---- the run
  module _ (o : ℕ → List ℕ) (ok : (s : ℕ) → Permutation C.n (o s)) (h : List ℕ) (ps : List ℤ) where
    pub posts_latest : 9 * C.n ≤ length ps → (last v p : ℕ) → v < C.n → p < C.k v * C.k v
        → get_or (posts over_first C o h ps (suc last)) (9 * v + p) (pos 0) ≡ above v (at_visit C v (o last) (after C o h last)) p
    unfolding posts
    posts_latest room last v p l q =
        latest_at (o last) (after C o h last) (posts over_first C o h ps last) (ok last) (omega (arith, length_posts over_first C o h ps last)) v p l q

    pub posts_past : (s e : ℕ) (x : ℤ) → 9 * C.n ≤ e → get_or (posts over_first C o h ps s) e x ≡ get_or ps e x
    unfolding posts
    posts_past zero e x q = refl
    posts_past (suc s) e x q =
        recorded_past e (o s) (after C o h s) (posts over_first C o h ps s) x (ok s).within q ∙ posts_past s e x q
