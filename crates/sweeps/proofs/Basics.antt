-- The model's small parts: tests, pairs of haplotypes, sums and likelihoods. Assumes nothing.
use mathlib.Core.Path.{◌≡◌, refl, ap, ◌∙◌, subst}
use mathlib.Core.Logic.{◌≢◌, ◌⊎◌, inl, inr}
use mathlib.Core.Bool.{Bool, true, false, not, cond, ◌&&◌, ◌||◌}
use mathlib.Core.List.{List, [], ◌∷◌}
use Prim.Native.Nat.{ℕ, zero, suc, ◌+◌, ◌*◌, ◌<◌, ◌≤◌}
use native.Mathlib.Omega.{arith}
use lib.Dec.{T, eqb, ltb, leb, leb→le, eqb→eq, eqb_refl, ltb→lt, nltb→le}
use lib.ListN.{length, set, length-set}
use lib.Seq.{get_or-set_same, get_or-set_other, set-get_or}
use lib.IntN.{ℤ, pos, ◌+ℤ◌, +ℤ_idl, +ℤ_idr}
use borrow.Author.Tests.{ne_eqb}
use Rattle.variants_and_fragments.specs.Case.{Call}
use Rattle.variants_and_fragments.specs.Inner.Case.{rising_from}
use Rattle.variants_and_fragments.specs.Inner.Accepted.{allb}
use Rattle.variants_and_fragments.specs.Sums.{sum_over, sum_to, count_to}
use Rattle.variants_and_fragments.proofs.Sums.{sum_to_cong, count_to_cong}
pub use Rattle.variants_and_fragments.proofs.Sums.{sum_over_cong}
use Rattle.variants_and_fragments.proofs.Bools.{T_not, is_true, which, cond_yes, cond_no}
use Rattle.sweeps.specs.Sweeps.{SweepCase, allele0, allele1, put_pair, same_haps, call_term, likelihood, read_share, per_call}
use Rattle.sweeps.specs.Inner.Sweeps.{has_call}
use Rattle.steps.proofs.Signed.{parts_add, zlin}

-- ---- tests
pub cond_under : {A : Type 0} (b : Bool) {x x' : A} (y : A) → (T b → x ≡ x') → cond b x y ≡ cond b x' y
cond_under true y f = f tt
cond_under false y f = refl

pub cond_ind : {A : Type 0} (P : A → Type 0) (c : Bool) (x y : A) → (T c → P x) → (T (not c) → P y) → P (cond c x y)
cond_ind P true x y f g = f tt
cond_ind P false x y f g = g tt

pub or_l : (a b : Bool) → T a → T (a || b)
or_l true b t = tt
or_l false b t = absurd t

pub or_r : (a b : Bool) → T b → T (a || b)
or_r true b t = tt
or_r false b t = t

pub or_cases : (a b : Bool) → T (a || b) → T a ⊎ T b
or_cases true b t = inl tt
or_cases false b t = inr t

pub and_l : (a b : Bool) → T (a && b) → T a
and_l true b t = tt
and_l false b t = absurd t

pub and_r : (a b : Bool) → T (a && b) → T b
and_r true b t = t
and_r false b t = absurd t

pub and_in : (a b : Bool) → T a → T b → T (a && b)
and_in true b s t = t
and_in false b s t = absurd s

pub eqb_no : (a b : ℕ) → T (not (eqb a b)) → a ≢ b
eqb_no a b t e = T_not (eqb a b) t (subst (λ (x : ℕ). T (eqb a x)) e (eqb_refl a))

pub lt_or_ge : (a b : ℕ) → (a < b) ⊎ (b ≤ a)
lt_or_ge a b = go (which (ltb a b))
  where
    go : T (ltb a b) ⊎ T (not (ltb a b)) → (a < b) ⊎ (b ≤ a)
    go (inl t) = inl (ltb→lt a b t)
    go (inr t) = inr (nltb→le a b t)

pub same_eq : (a b : List ℕ) → T (same_haps a b) → a ≡ b
unfolding same_haps
same_eq [] [] t = refl
same_eq [] (y ∷ ys) t = absurd t
same_eq (x ∷ xs) [] t = absurd t
same_eq (x ∷ xs) (y ∷ ys) t = cc (eqb→eq x y (and_l (eqb x y) (same_haps xs ys) t), same_eq xs ys (and_r (eqb x y) (same_haps xs ys) t))

pub same_refl : (a : List ℕ) → T (same_haps a a)
unfolding same_haps
same_refl [] = tt
same_refl (x ∷ xs) = and_in (eqb x x) _ (eqb_refl x) (same_refl xs)

-- ---- pairs of haplotypes
module _ (h : List ℕ) (v i j : ℕ) where
  pub length_put : length (put_pair h v i j) ≡ length h
  unfolding put_pair
  length_put = simp length-set

  pub at0_same : 2 * v + 1 < length h → allele0 (put_pair h v i j) v ≡ i
  unfolding put_pair
  at0_same l = get_or-set_other (set h (2 * v) i) (2 * v + 1) (2 * v) j 0 (omega arith) ∙ get_or-set_same h (2 * v) i 0 (omega arith)

  pub at1_same : 2 * v + 1 < length h → allele1 (put_pair h v i j) v ≡ j
  unfolding put_pair
  at1_same l = get_or-set_same (set h (2 * v) i) (2 * v + 1) j 0 (omega (arith, length-set h (2 * v) i))

  pub at0_other : (w : ℕ) → w ≢ v → allele0 (put_pair h v i j) w ≡ allele0 h w
  unfolding put_pair
  at0_other w f = get_or-set_other (set h (2 * v) i) (2 * v + 1) (2 * w) j 0 (omega arith) ∙ get_or-set_other h (2 * v) (2 * w) i 0 (omega arith)

  pub at1_other : (w : ℕ) → w ≢ v → allele1 (put_pair h v i j) w ≡ allele1 h w
  unfolding put_pair
  at1_other w f = get_or-set_other (set h (2 * v) i) (2 * v + 1) (2 * w + 1) j 0 (omega arith) ∙ get_or-set_other h (2 * v) (2 * w + 1) i 0 (omega arith)

pub put_self : (h : List ℕ) (v : ℕ) → put_pair h v (allele0 h v) (allele1 h v) ≡ h
unfolding put_pair
put_self h v = rw (set-get_or h (2 * v) 0, set-get_or h (2 * v + 1) 0)

-- ---- sums
pub sum_over_cong_of : {A : Type 0} (b : A → Bool) (fs : List A) (f g : A → ℤ) → T (allb b fs) → ((x : A) → T (b x) → f x ≡ g x) → sum_over fs f ≡ sum_over fs g
unfolding sum_over allb
sum_over_cong_of b [] f g t e = refl
sum_over_cong_of b (x ∷ xs) f g t e = cc (sum_over_cong_of b xs f g (and_r (b x) (allb b xs) t) e, e x (and_l (b x) (allb b xs) t))

-- a rising fragment has one call at v at most
no_call : (v b : ℕ) (cs : List Call) (x : ℤ) → v < b → T (rising_from b cs) → (has_call v cs ≡ false) × (per_call v cs x ≡ pos 0)
unfolding rising_from has_call per_call sum_over
no_call v b [] x l t = (refl, refl)
no_call v b (c ∷ cs) x l t =
    let k = leb→le b c.variant (and_l (leb b c.variant) (rising_from (suc c.variant) cs) t) in
    let e : eqb c.variant v ≡ false = ne_eqb c.variant v (omega arith) in
    let r = no_call v (suc c.variant) cs x (omega arith) (and_r (leb b c.variant) (rising_from (suc c.variant) cs) t) in
    (rw e r.0, rw (e, r.1))

pub one_call : (v b : ℕ) (cs : List Call) (x : ℤ) → T (rising_from b cs) → per_call v cs x ≡ cond (has_call v cs) x (pos 0)
unfolding rising_from has_call per_call sum_over
one_call v b [] x t = refl
one_call v b (c ∷ cs) x t = go (which (eqb c.variant v)) (one_call v (suc c.variant) cs x (and_r (leb b c.variant) (rising_from (suc c.variant) cs) t))
  where
    go : T (eqb c.variant v) ⊎ T (not (eqb c.variant v)) → per_call v cs x ≡ cond (has_call v cs) x (pos 0)
        → cond (eqb c.variant v) x (pos 0) +ℤ per_call v cs x ≡ cond (eqb c.variant v || has_call v cs) x (pos 0)
    go (inl u) ih =
        let e : eqb c.variant v ≡ true = is_true (eqb c.variant v) u in
        let r = no_call v (suc c.variant) cs x (omega (arith, eqb→eq c.variant v u)) (and_r (leb b c.variant) (rising_from (suc c.variant) cs) t) in
        rw (e, r.1, +ℤ_idr)
    go (inr u) ih = let e : eqb c.variant v ≡ false = ne_eqb c.variant v (eqb_no c.variant v u) in rw (e, ih, +ℤ_idl)

-- one summand taken out
abbrev pub less : ℕ → (ℕ → ℤ) → ℕ → ℤ
less v f w = cond (eqb w v) (pos 0) (f w)

abbrev pub less_n : ℕ → (ℕ → ℕ) → ℕ → ℕ
less_n v f w = cond (eqb w v) 0 (f w)

less_none : (v m : ℕ) (f : ℕ → ℤ) → m ≤ v → sum_to m (less v f) ≡ sum_to m f
less_none v m f l = sum_to_cong m (less v f) f (λ w k. ap (λ (b : Bool). cond b (pos 0) (f w)) (ne_eqb w v (omega arith)))

less_n_none : (v m : ℕ) (f : ℕ → ℕ) → m ≤ v → count_to m (less_n v f) ≡ count_to m f
less_n_none v m f l = count_to_cong m (less_n v f) f (λ w k. ap (λ (b : Bool). cond b 0 (f w)) (ne_eqb w v (omega arith)))

pub sum_to_split : (m v : ℕ) (f : ℕ → ℤ) → v < m → sum_to m f ≡ sum_to m (less v f) +ℤ f v
unfolding sum_to
sum_to_split zero v f l = absurd (omega arith)
sum_to_split (suc m) v f l = go (λ k. sum_to_split m v f k) (which (eqb m v))
  where
    go : (v < m → sum_to m f ≡ sum_to m (less v f) +ℤ f v) → T (eqb m v) ⊎ T (not (eqb m v)) → sum_to (suc m) f ≡ sum_to (suc m) (less v f) +ℤ f v
    go ih (inl t) =
        let e : m ≡ v = eqb→eq m v t in
        let a : sum_to m (less v f) ≡ sum_to m f = less_none v m f (omega arith) in
        let b : less v f m ≡ pos 0 = cond_yes (eqb m v) _ _ t in
        let c : f m ≡ f v = ap f e in
        rw (a, b, c, +ℤ_idr)
    go ih (inr t) =
        let a = ih (omega (arith, eqb_no m v t)) in
        let b : less v f m ≡ f m = cond_no (eqb m v) _ _ t in
        omega (zlin, parts_add (sum_to m f) (f m), parts_add (sum_to m (less v f)) (less v f m), parts_add (sum_to m (less v f) +ℤ less v f m) (f v), parts_add (sum_to m (less v f)) (f v))

pub count_to_split : (m v : ℕ) (f : ℕ → ℕ) → v < m → count_to m f ≡ count_to m (less_n v f) + f v
unfolding count_to
count_to_split zero v f l = absurd (omega arith)
count_to_split (suc m) v f l = go (λ k. count_to_split m v f k) (which (eqb m v))
  where
    go : (v < m → count_to m f ≡ count_to m (less_n v f) + f v) → T (eqb m v) ⊎ T (not (eqb m v)) → count_to (suc m) f ≡ count_to (suc m) (less_n v f) + f v
    go ih (inl t) =
        let e : m ≡ v = eqb→eq m v t in
        let a : count_to m (less_n v f) ≡ count_to m f = less_n_none v m f (omega arith) in
        let b : less_n v f m ≡ 0 = cond_yes (eqb m v) _ _ t in
        let c : f m ≡ f v = ap f e in
        omega arith
    go ih (inr t) =
        let a = ih (omega (arith, eqb_no m v t)) in
        let b : less_n v f m ≡ f m = cond_no (eqb m v) _ _ t in
        omega arith

pub count_to_le : (m : ℕ) (f g : ℕ → ℕ) → ((w : ℕ) → w < m → f w ≤ 8 * g w) → count_to m f ≤ 8 * count_to m g
unfolding count_to
count_to_le zero f g e = omega arith
count_to_le (suc m) f g e = omega (arith, count_to_le m f g (λ w l. e w (omega arith)), e m (omega arith))

split_step : (c : Bool) (a p q s : ℤ) → s ≡ p +ℤ q → a +ℤ s ≡ (cond c (pos 0) a +ℤ p) +ℤ (cond c a (pos 0) +ℤ q)
split_step true a p q s e = rw (+ℤ_idl p) (omega (zlin, parts_add a s, parts_add p q, parts_add a q, parts_add p (a +ℤ q)))
split_step false a p q s e = rw (+ℤ_idl q) (omega (zlin, parts_add a s, parts_add p q, parts_add a p, parts_add (a +ℤ p) q))

-- a sum over the fragments, by a test on each
pub sum_over_split : {A : Type 0} (fs : List A) (b : A → Bool) (f : A → ℤ)
    → sum_over fs f ≡ sum_over fs (λ cs. cond (b cs) (pos 0) (f cs)) +ℤ sum_over fs (λ cs. cond (b cs) (f cs) (pos 0))
unfolding sum_over
sum_over_split [] b f = refl
sum_over_split (x ∷ xs) b f =
    split_step (b x) (f x) (sum_over xs (λ cs. cond (b cs) (pos 0) (f cs))) (sum_over xs (λ cs. cond (b cs) (f cs) (pos 0))) (sum_over xs f) (sum_over_split xs b f)

-- ---- likelihoods: only the calls' own variants count, and of these those of `m`
pub lik_cong : (m m' : ℕ → Bool) (a a' : ℕ → ℕ) (cs : List Call) → ((w : ℕ) → T (has_call w cs) → m w ≡ m' w)
    → ((w : ℕ) → T (has_call w cs) → T (m w) → a w ≡ a' w) → likelihood m a cs ≡ likelihood m' a' cs
unfolding likelihood has_call
lik_cong m m' a a' [] e f = refl
lik_cong m m' a a' (c ∷ cs) e f = cc (head (which (m c.variant)), lik_cong m m' a a' cs (λ w t. e w (or_r (eqb c.variant w) (has_call w cs) t)) (λ w t u. f w (or_r (eqb c.variant w) (has_call w cs) t) u))
  where
    has : T (eqb c.variant c.variant || has_call c.variant cs)
    has = or_l (eqb c.variant c.variant) (has_call c.variant cs) (eqb_refl c.variant)

    head : T (m c.variant) ⊎ T (not (m c.variant)) → cond (m c.variant) (call_term c (a c.variant)) (pos 0) ≡ cond (m' c.variant) (call_term c (a' c.variant)) (pos 0)
    head (inl t) = cc (e c.variant has, f c.variant has t)
    head (inr t) = cc (e c.variant has, cond_no (m c.variant) (call_term c (a c.variant)) (pos 0) t, cond_no (m c.variant) (call_term c (a' c.variant)) (pos 0) t)

pub mixed_cong : (C : SweepCase) (m m' : ℕ → Bool) (h h' : List ℕ) (cs : List Call) → ((w : ℕ) → T (has_call w cs) → m w ≡ m' w)
    → ((w : ℕ) → T (has_call w cs) → T (m w) → allele0 h w ≡ allele0 h' w)
    → ((w : ℕ) → T (has_call w cs) → T (m w) → allele1 h w ≡ allele1 h' w) → read_share C m h cs ≡ read_share C m' h' cs
unfolding read_share
mixed_cong C m m' h h' cs e f g = cc (lik_cong m m' (allele0 h) (allele0 h') cs e f, lik_cong m m' (allele1 h) (allele1 h') cs e g)
