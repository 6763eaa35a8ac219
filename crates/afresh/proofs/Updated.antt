-- Request 1: values that are fresh stay so when a read arrives at a number without calls and when a read departs. The updates are set beside the
-- parts of the values (`Parts`): the fragment's two likelihoods are put in its places, each count moves by what the read adds there, and the total
-- by its share; what stood at the number before, or stands there after, has none of them.
-- Assumes nothing.
use mathlib.Core.Path.{◌≡◌, refl, sym, ap, ◌∙◌}
use mathlib.Core.Logic.{◌≢◌}
use mathlib.Core.List.{List, []}
use Prim.Native.Nat.{ℕ, ◌+◌, ◌*◌, ◌/◌, ◌%◌, ◌≤◌, ◌<◌}
use native.Mathlib.Decide.{ℕ_discrete}
use native.Mathlib.Omega.{arith}
use lib.IntN.{ℤ, pos, ◌+ℤ◌, ◌-ℤ◌}
use lib.ListN.{length, get_or, set, length-set}
use lib.Seq.{get_or-set_same, get_or-set_other}
use Rattle.steps.specs.Logs.{mix_of}
use Rattle.steps.proofs.Signed.{zlin, up_pos, dn_pos, parts_add, parts_minus}
use Rattle.variants_and_fragments.specs.Case.{Case, Fragment, no_fragment, fragment_of}
use Rattle.variants_and_fragments.specs.Sums.{sum_over, count_over}
use Rattle.variants_and_fragments.proofs.Written.{written_length, written_at}
use Rattle.genotype_probs.specs.declared.Rates.{Rates}
use Rattle.late_reads.specs.Values.{Values, Fixed, likelihood_on, read_count, put_likelihoods, arrived, departed, exchanged}
use Rattle.late_reads.specs.LateReads.{fixed_by}
use Rattle.afresh.specs.Fresh.{Fresh}
use Rattle.afresh.proofs.Parts.{share, Parts, priors_total, in_parts, of_parts}
use Rattle.afresh.proofs.Exchanged.{count_set, sum_set, no_likelihood, no_count, no_share, same_fixed, same_priors}

-- ---- the likelihoods of a fragment
put_same : (l : List ℤ) (f : ℕ) (a : ℕ → ℤ) (e : ℕ) → e / 2 ≡ f → 2 * f + 1 < length l → get_or (put_likelihoods l f (a 0) (a 1)) e (pos 0) ≡ a (e % 2)
put_same l f a e q h = elim (ℕ_discrete (e % 2) 0) [
  | yes r ↦
      let z : e ≡ 2 * f = omega arith in
      rw (r, z) (get_or-set_other (set l (2 * f) (a 0)) (2 * f + 1) (2 * f) (a 1) (pos 0) (omega arith) ∙ get_or-set_same l (2 * f) (a 0) (pos 0) (omega arith))
  | no r ↦
      let s : e % 2 ≡ 1 = omega arith in
      let z : e ≡ 2 * f + 1 = omega arith in
      rw (s, z) (get_or-set_same (set l (2 * f) (a 0)) (2 * f + 1) (a 1) (pos 0) (omega (arith, length-set l (2 * f) (a 0))))
]

put_other : (l : List ℤ) (f : ℕ) (x y : ℤ) (e : ℕ) → e / 2 ≢ f → get_or (put_likelihoods l f x y) e (pos 0) ≡ get_or l e (pos 0)
put_other l f x y e q = get_or-set_other (set l (2 * f) x) (2 * f + 1) e y (pos 0) (λ z. q (omega arith)) ∙ get_or-set_other l (2 * f) e x (pos 0) (λ z. q (omega arith))

-- ---- numbers
-- a sum s with b for a is s': the total gains b where a is 0, and loses a where b is 0
gain : (t p s s' a b : ℤ) → t ≡ p +ℤ s → s' +ℤ a ≡ s +ℤ b → a ≡ pos 0 → t +ℤ b ≡ p +ℤ s'
gain t p s s' a b e q z = omega (zlin, e, q, z, parts_add p s, parts_add p s', parts_add s' a, parts_add s b, parts_add t b, up_pos 0, dn_pos 0)

loss : (t p s s' a b c : ℤ) → t ≡ p +ℤ s → s' +ℤ a ≡ s +ℤ b → b ≡ pos 0 → c ≡ a → t -ℤ c ≡ p +ℤ s'
loss t p s s' a b c e q z w = omega (zlin, e, q, z, w, parts_add p s, parts_add p s', parts_add s' a, parts_add s b, parts_minus t c, up_pos 0, dn_pos 0)

count_loss : (m n k : ℕ) → k + n ≡ m → pos m -ℤ pos n ≡ pos k
count_loss m n k e = omega (zlin, parts_minus (pos m) (pos n), up_pos m, dn_pos m, up_pos n, dn_pos n, up_pos k, dn_pos k)

-- ---- the values of fragments, with y as fragment f
module _
    (fixed : Fixed)
    {priors : ℤ}
    {n : ℕ}
    {fragments : List Fragment}
    {x : Values}
    (f : ℕ)
    (y : Fragment)
    (inside : f < length fragments)
    (room : 2 * length fragments ≤ length x.likelihoods)
    (parts : Parts fixed priors n fragments x) where
  abbrev old : Fragment
  old = get_or fragments f no_fragment

  -- the likelihoods of y put in their places
  likelihoods_put : (a : ℕ → ℤ) → ((i : ℕ) → a i ≡ likelihood_on fixed y i) → (e : ℕ) → e < 2 * length (set fragments f y)
      → get_or (put_likelihoods x.likelihoods f (a 0) (a 1)) e (pos 0) ≡ likelihood_on fixed (get_or (set fragments f y) (e / 2) no_fragment) (e % 2)
  likelihoods_put a q e h =
      let l : e < 2 * length fragments = omega (arith, length-set fragments f y) in
      elim (ℕ_discrete (e / 2) f) [
        | yes r ↦ put_same x.likelihoods f a e r (omega arith) ∙ q (e % 2) ∙ rw (r, get_or-set_same fragments f y no_fragment inside)
        | no r ↦ put_other x.likelihoods f (a 0) (a 1) e r ∙ parts.likelihoods e l ∙ rw (get_or-set_other fragments f (e / 2) y no_fragment r)
      ]

  -- the likelihoods that stand at f have the share of the fragment there
  share_lent : mix_of (get_or x.likelihoods (2 * f) (pos 0)) (get_or x.likelihoods (2 * f + 1) (pos 0)) ≡ share fixed old
  unfolding share
  share_lent =
      let d : 2 * f / 2 ≡ f = omega arith in
      let m : 2 * f % 2 ≡ 0 = omega arith in
      let q : (2 * f + 1) / 2 ≡ f = omega arith in
      let r : (2 * f + 1) % 2 ≡ 1 = omega arith in
      cc (rw (d, m) at (parts.likelihoods (2 * f) (omega arith)), rw (q, r) at (parts.likelihoods (2 * f + 1) (omega arith)))

  abbrev shares : List Fragment → ℤ
  shares l = sum_over l (share fixed)

  shares_set : shares (set fragments f y) +ℤ share fixed old ≡ shares fragments +ℤ share fixed y
  shares_set = sum_set fragments f y no_fragment (share fixed) inside

  module _ (long : 10 * n ≤ length x.counts) where
    arrival : old.calls ≡ [] → Parts fixed priors n (set fragments f y) (arrived fixed n f y x)
    unfolding arrived share
    arrival none = record {
      likelihoods = likelihoods_put (likelihood_on fixed y) (λ i. refl);
      counts = λ e h.
          let a : Fragment → ℕ = λ y. read_count fixed.cutoff y e in
          written_at _ (10 * n) x.counts (pos 0) long e h
          ∙ ap (λ z. z +ℤ pos (a y)) (parts.counts e h)
          ∙ ap pos (omega (arith, count_set fragments f y no_fragment a inside, no_count fixed old none e));
      total = gain x.total priors (shares fragments) (shares (set fragments f y)) (share fixed old) (share fixed y) parts.total shares_set (no_share fixed old none);
    }

    departure : y.calls ≡ [] → Parts fixed priors n (set fragments f y) (departed fixed.cutoff n f old x)
    unfolding departed
    departure none = record {
      likelihoods = likelihoods_put (λ i. pos 0) (λ i. sym (no_likelihood fixed y none i));
      counts = λ e h.
          let a : Fragment → ℕ = λ y. read_count fixed.cutoff y e in
          written_at _ (10 * n) x.counts (pos 0) long e h
          ∙ ap (λ z. z -ℤ pos (a old)) (parts.counts e h)
          ∙ count_loss (count_over fragments a) (a old) (count_over (set fragments f y) a) (omega (arith, count_set fragments f y no_fragment a inside, no_count fixed y none e));
      total = loss x.total priors (shares fragments) (shares (set fragments f y)) (share fixed old) (share fixed y) _ parts.total shares_set (no_share fixed y none) share_lent;
    }

-- ---- of a case
module _ (rates : Rates) (case : Case) (phase haps : List ℕ) (x : Values) (f : ℕ) (y : Fragment) where
  -- with y at f the parts are those of the fragments with y at f
  of_exchanged : {z : Values} → Parts (fixed_by case phase haps) (priors_total rates case phase haps) (length case.variants) (set case.fragments f y) z
      → Fresh rates (exchanged case f y) phase haps z
  unfolding exchanged
  of_exchanged parts = of_parts rates (exchanged case f y) phase haps (rw (same_fixed case f y phase haps, same_priors case f y phase haps rates) parts)

  -- ---- values that are fresh, with room for all of the case
  module _
      (fresh : Fresh rates case phase haps x)
      (inside : f < length case.fragments)
      (room : 2 * length case.fragments ≤ length x.likelihoods)
      (long : 10 * length case.variants ≤ length x.counts) where
    -- read y arrives at a number whose fragment has no calls
    pub fresh_arrival : (fragment_of case f).calls ≡ [] → Fresh rates (exchanged case f y) phase haps (arrived (fixed_by case phase haps) (length case.variants) f y x)
    fresh_arrival none = of_exchanged (arrival (fixed_by case phase haps) f y inside room (in_parts rates case phase haps fresh) long none)

    -- the fragment at f departs: y, without calls, is there instead
    pub fresh_departure : y.calls ≡ [] → Fresh rates (exchanged case f y) phase haps (departed case.cutoff (length case.variants) f (fragment_of case f) x)
    fresh_departure none = of_exchanged (departure (fixed_by case phase haps) f y inside room (in_parts rates case phase haps fresh) long none)

-- ---- no list gets longer or shorter, so that there is room for the next one
module _ (fixed : Fixed) (n f : ℕ) (y : Fragment) (x : Values) where
  pub arrived_likelihoods : length (arrived fixed n f y x).likelihoods ≡ length x.likelihoods
  unfolding arrived
  arrived_likelihoods = simp length-set

  pub arrived_counts : length (arrived fixed n f y x).counts ≡ length x.counts
  unfolding arrived
  arrived_counts = written_length _ (10 * n) x.counts

module _ (cutoff : ℤ) (n f : ℕ) (y : Fragment) (x : Values) where
  pub departed_likelihoods : length (departed cutoff n f y x).likelihoods ≡ length x.likelihoods
  unfolding departed
  departed_likelihoods = simp length-set

  pub departed_counts : length (departed cutoff n f y x).counts ≡ length x.counts
  unfolding departed
  departed_counts = written_length _ (10 * n) x.counts

pub exchanged_fragments : (case : Case) (f : ℕ) (y : Fragment) → length (exchanged case f y).fragments ≡ length case.fragments
unfolding exchanged
exchanged_fragments case f y = length-set case.fragments f y
