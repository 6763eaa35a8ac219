-- A score along the pileup, from the likelihoods that stand: what the code of a visit computes. Assumes nothing.
use mathlib.Core.Path.{◌≡◌, refl, sym, ap, ◌∙◌}
use mathlib.Core.Logic.{◌≢◌, ◌⊎◌, inl, inr}
use mathlib.Core.Bool.{Bool, true, false, not, cond, ◌||◌}
use mathlib.Core.List.{List, [], ◌∷◌}
use Prim.Native.Nat.{ℕ, suc, ◌+◌, ◌*◌, ◌<◌}
use native.Mathlib.Omega.{arith}
use native.Mathlib.Nat.{add-zero, zero-add}
use lib.Dec.{T, eqb, eqb→eq, leb, leb→le}
use lib.ListN.{length, get_or}
use lib.IntN.{ℤ, pos, neg_ℤ, ◌+ℤ◌, ◌-ℤ◌, +ℤ_idl, +ℤ_idr}
use borrow.Author.Tests.{ne_eqb}
use Rattle.variants_and_fragments.specs.Case.{Call}
use Rattle.variants_and_fragments.specs.Inner.Case.{rising_from, rising}
use Rattle.variants_and_fragments.specs.Pileup.{Row}
use Rattle.variants_and_fragments.specs.Inner.Accepted.{allb}
use Rattle.variants_and_fragments.specs.Sums.{sum_over}
use Rattle.sweeps.specs.Sweeps.{SweepCase, allele0, allele1, put_pair, call_term, likelihood, read_share, per_call, with_own, score_with}
use Rattle.sweeps.specs.Inner.Sweeps.{has_call}
use Rattle.sweeps.specs.Inner.Incremental.{term_at}
use Rattle.sweeps.proofs.Basics.{lik_cong, and_l, and_r, eqb_no, at0_same, at1_same, at0_other, at1_other}
use Rattle.steps.proofs.Signed.{parts_add, neg_up, neg_dn, zlin}
use Rattle.sweeps.proofs.Link.{lik_own}
use Rattle.sweeps.specs.Inner.Incremental.{rows_within, pileup_from, step, share}
use Rattle.variants_and_fragments.proofs.Sums.{sum_append}
use Rattle.variants_and_fragments.proofs.Bools.{is_true, which}

module _ (v i : ℕ) where
  pub record Empty (cs : List Call) : Type 0 where
    pub no_place : rows_within v i cs ≡ []
    pub no_share : (x : ℤ) → per_call v cs x ≡ pos 0
    pub no_own : (a : ℕ) → term_at v cs a ≡ pos 0

  pub record Single (cs : List Call) (c : Call) : Type 0 where
    pub place : rows_within v i cs ≡ record { fragment = i; call = c } ∷ []
    pub once : (x : ℤ) → per_call v cs x ≡ x
    pub its_own : (a : ℕ) → term_at v cs a ≡ call_term c a

  pub data At (cs : List Call) : Type 0 where
    none : Empty cs → At cs
    one : (c : Call) → Single cs c → At cs

  past : (b : ℕ) (cs : List Call) → v < b → T (rising_from b cs) → Empty cs
  unfolding rows_within per_call sum_over term_at rising_from
  past b [] l t = record { no_place = refl; no_share = λ x. refl; no_own = λ a. refl }
  past b (c ∷ cs) l t =
      let k = leb→le b c.variant (and_l (leb b c.variant) (rising_from (suc c.variant) cs) t) in
      let e : eqb c.variant v ≡ false = ne_eqb c.variant v (omega arith) in
      let r = past (suc c.variant) cs (omega arith) (and_r (leb b c.variant) (rising_from (suc c.variant) cs) t) in
      record { no_place = rw e r.no_place; no_share = λ x. rw (e, r.no_share x); no_own = λ a. rw (e, r.no_own a) }

  pub at_of : (b : ℕ) (cs : List Call) → T (rising_from b cs) → At cs
  unfolding rows_within per_call sum_over term_at rising_from
  at_of b [] t = none (record { no_place = refl; no_share = λ x. refl; no_own = λ a. refl })
  at_of b (c ∷ cs) t = go (which (eqb c.variant v)) (at_of (suc c.variant) cs up)
    where
      up : T (rising_from (suc c.variant) cs)
      up = and_r (leb b c.variant) (rising_from (suc c.variant) cs) t

      go : T (eqb c.variant v) ⊎ T (not (eqb c.variant v)) → At cs → At (c ∷ cs)
      go (inl u) r =
          let e : eqb c.variant v ≡ true = is_true (eqb c.variant v) u in
          let q = past (suc c.variant) cs (omega (arith, eqb→eq c.variant v u)) up in
          one c (record { place = rw (e, q.no_place); once = λ x. rw (e, q.no_share x, +ℤ_idr); its_own = λ a. rw (e, q.no_own a, +ℤ_idr) })
      go (inr u) (none q) =
          let e : eqb c.variant v ≡ false = ne_eqb c.variant v (eqb_no c.variant v u) in
          none (record { no_place = rw e q.no_place; no_share = λ x. rw (e, q.no_share x); no_own = λ a. rw (e, q.no_own a) })
      go (inr u) (one d q) =
          let e : eqb c.variant v ≡ false = ne_eqb c.variant v (eqb_no c.variant v u) in
          one d (record { place = rw e q.place; once = λ x. rw (e, q.once x) (+ℤ_idl x); its_own = λ a. rw (e, q.its_own a) (+ℤ_idl (call_term d a)) })

-- a sum along the pileup whose summands are known from the fragment
pub pile_sum : (v i : ℕ) (fs : List (List Call)) (Y : Row → ℤ) (F : List Call → ℤ) → T (allb rising fs)
    → ((j : ℕ) (c : Call) → j < length fs → ((a : ℕ) → term_at v (get_or fs j []) a ≡ call_term c a) → Y (record { fragment = i + j; call = c }) ≡ F (get_or fs j []))
    → sum_over (pileup_from v i fs) Y ≡ sum_over fs (λ cs. per_call v cs (F cs))
unfolding sum_over pileup_from allb
pile_sum v i [] Y F t e = refl
pile_sum v i (cs ∷ fs) Y F t e =
    sum_append (rows_within v i cs) (pileup_from v (suc i) fs) Y
    ∙ cc (
      first (at_of v i 0 cs (and_l (rising cs) (allb rising fs) t)),
      pile_sum v (suc i) fs Y F (and_r (rising cs) (allb rising fs) t) (λ j c l q. let n : suc i + j ≡ i + suc j = omega arith in rw n (e (suc j) c (omega arith) q)),
    )
  where
    first : At v i cs → sum_over (rows_within v i cs) Y ≡ per_call v cs (F cs)
    first (none q) = rw (q.no_place, q.no_share (F cs))
    first (one c q) = rw (q.place, q.once (F cs), +ℤ_idr) (rw add-zero at (e 0 c (omega arith) q.its_own))

module _ (C : SweepCase) (rise : T (allb rising C.frags)) (v : ℕ) (h : List ℕ) (l : 2 * v + 1 < length h) (L0 L1 : ℕ → ℤ)
    (e0 : (f : ℕ) → f < length C.frags → L0 f ≡ likelihood C.phased (allele0 h) (get_or C.frags f []))
    (e1 : (f : ℕ) → f < length C.frags → L1 f ≡ likelihood C.phased (allele1 h) (get_or C.frags f [])) where
  moved : (x y o n : ℤ) → x +ℤ o ≡ y +ℤ n → x ≡ (y -ℤ o) +ℤ n
  moved x y o n e = omega (zlin, parts_add x o, parts_add y n, parts_add y (neg_ℤ o), neg_up o, neg_dn o, parts_add (y -ℤ o) n)

  pub score_pileup : (i j : ℕ) → score_with C v h i j ≡ C.prior v i j +ℤ sum_over (pileup_from v 0 C.frags) (share C v h L0 L1 i j)
  unfolding score_with read_share
  score_pileup i j = ap (λ z. C.prior v i j +ℤ z) (sym (pile_sum v 0 C.frags (share C v h L0 L1 i j) (read_share C (with_own C v) (put_pair h v i j)) rise each))
    where
      each : (f : ℕ) (c : Call) → f < length C.frags → ((a : ℕ) → term_at v (get_or C.frags f []) a ≡ call_term c a)
          → share C v h L0 L1 i j (record { fragment = 0 + f; call = c }) ≡ read_share C (with_own C v) (put_pair h v i j) (get_or C.frags f [])
      each f c k q = ap (λ (x : ℕ). share C v h L0 L1 i j (record { fragment = x; call = c })) (zero-add f) ∙ cc (low, high)
        where
          cs : List Call
          cs = get_or C.frags f []

          low : step (C.phased v) (L0 f) c (allele0 h v) i ≡ likelihood (with_own C v) (allele0 (put_pair h v i j)) cs
          low = sym (moved (likelihood (with_own C v) (allele0 (put_pair h v i j)) cs) (L0 f) (cond (C.phased v) (term_at v cs (allele0 h v)) (pos 0)) (call_term c i) (lik_own C.phased v (allele0 h) (allele0 (put_pair h v i j)) (λ w n. at0_other h v i j w n) cs
              ∙ cc (ap (term_at v cs) (at0_same h v i j l), q i, e0 f k)) ∙ ap (λ z. (L0 f -ℤ cond (C.phased v) z (pos 0)) +ℤ call_term c i) (q (allele0 h v)))

          high : step (C.phased v) (L1 f) c (allele1 h v) j ≡ likelihood (with_own C v) (allele1 (put_pair h v i j)) cs
          high = sym (moved (likelihood (with_own C v) (allele1 (put_pair h v i j)) cs) (L1 f) (cond (C.phased v) (term_at v cs (allele1 h v)) (pos 0)) (call_term c j) (lik_own C.phased v (allele1 h) (allele1 (put_pair h v i j)) (λ w n. at1_other h v i j w n) cs
              ∙ cc (ap (term_at v cs) (at1_same h v i j l), q j, e1 f k)) ∙ ap (λ z. (L1 f -ℤ cond (C.phased v) z (pos 0)) +ℤ call_term c j) (q (allele1 h v)))

-- ---- the likelihoods after a visit, one haplotype at a time: a before, a' after
module _ (m : ℕ → Bool) (v : ℕ) (a a' : ℕ → ℕ) (f : (w : ℕ) → w ≢ v → a' w ≡ a w) (cs : List Call) where
  mask : T (m v) → likelihood m a' cs ≡ likelihood (λ w. eqb w v || m w) a' cs
  mask p = lik_cong m (λ w. eqb w v || m w) a' a' cs (λ w t. go w (which (eqb w v))) (λ w t u. refl)
    where
      go : (w : ℕ) → T (eqb w v) ⊎ T (not (eqb w v)) → m w ≡ (eqb w v || m w)
      go w (inl t) = rw (is_true (eqb w v) t, eqb→eq w v t) (is_true (m v) p)
      go w (inr t) = rw (ne_eqb w v (eqb_no w v t))

  -- no call at v, or v not phased
  pub lik_stays : ((w : ℕ) → T (has_call w cs) → T (m w) → w ≢ v) → likelihood m a' cs ≡ likelihood m a cs
  lik_stays g = lik_cong m m a' a cs (λ w t. refl) (λ w t u. f w (g w t u))
