-- Nine places: a slice of them that is lent and written, and places past which zeros are written.
-- Assumes nothing.
use Rattle.std.proofs.Common.{◌≡◌, ℕ, zero, suc, ◌+◌, ◌-◌, ◌*◌, ◌<◌, ◌≤◌, List, length, get_or, take, drop, Bool, ℤ, pos, nat_abs, refl, sym, ap, ◌∙◌, arith, length-append, length-take, length-drop}
use Rattle.std.proofs.lemmas.List.{get_or_append_left, get_or-append_right, get_or-take, get_or-drop}
use lib.IntN.{+ℤ_idr}
use borrow.Rule.Slice.PartMut.{put_mid}
use lib.Seq.{ext_get_or, get_or-set_other}
use Rattle.steps.proofs.Signed.{cases}
use Rattle.variants_and_fragments.specs.Decode.{tabulate}
use Rattle.variants_and_fragments.specs.Inner.Written.{written_from}
use Rattle.variants_and_fragments.proofs.Decoded.{tabulate_length, tabulate_at}
use Rattle.variants_and_fragments.proofs.Written.{from_length, from_at, from_past, from_same}
use Rattle.genotype_probs.specs.Posteriors.{max_genotype, qual_of, gq_of, normalized}
use Rattle.genotype_probs.specs.Inner.Posteriors.{TableIn, TableAt}
use Rattle.genotype_probs.proofs.AlleleLaws.{nine}
use Rattle.genotype_probs.proofs.SameTables.{genotype_same, qual_same, gq_same}
use Rattle.genotype_probs.proofs.TableSums.{normalized_same}

-- ---- k places from a on, written
module _ {X : Type 0} (a k : ℕ) (xs ys : List X) (inside : a + k ≤ length xs) (as_long : length ys ≡ k) where
  pub mid_length : length (put_mid a k xs ys) ≡ length xs
  mid_length = simp (length-append, length-take, length-drop) (omega arith)

  taken : length (take a xs) ≡ a
  taken = simp length-take (omega arith)

  pub mid_before : (p : ℕ) (d : X) → p < a → get_or (put_mid a k xs ys) p d ≡ get_or xs p d
  mid_before p d h = get_or_append_left (take a xs) _ d p (omega (arith, taken)) ∙ get_or-take a xs p d h

  pub mid_here : (p : ℕ) (d : X) → a ≤ p → p < a + k → get_or (put_mid a k xs ys) p d ≡ get_or ys (p - a) d
  mid_here p d l h = get_or-append_right (take a xs) _ a p d taken l ∙ get_or_append_left ys _ d (p - a) (omega arith)

  pub mid_after : (p : ℕ) (d : X) → a + k ≤ p → get_or (put_mid a k xs ys) p d ≡ get_or xs p d
  mid_after p d l =
      let e : a + (k + (p - a - k)) ≡ p = omega arith in
      get_or-append_right (take a xs) _ a p d taken (omega arith)
      ∙ get_or-append_right ys _ k (p - a) d as_long (omega arith)
      ∙ get_or-drop k (drop a xs) (p - a - k) d
      ∙ get_or-drop a xs (k + (p - a - k)) d
      ∙ ap (λ (i : ℕ). get_or xs i d) e

from_before : {X : Type 0} (g : ℕ → X) (a k : ℕ) (l : List X) (p : ℕ) (d : X) → p < a → get_or (written_from g a k l) p d ≡ get_or l p d
unfolding written_from
from_before g a zero l p d h = refl
from_before g a (suc k) l p d h = get_or-set_other (written_from g a k l) (a + k) p (g k) d (λ e. omega arith) ∙ from_before g a k l p d h

-- where a slice's places from a on are lent and come back as g says, they are written
pub lent_written : (g : ℕ → ℤ) (a k : ℕ) (xs ys : List ℤ) → a + k ≤ length xs → ys ≡ tabulate k g → put_mid a k xs ys ≡ written_from g a k xs
lent_written g a k xs ys inside e =
    let n : length ys ≡ k = ap length e ∙ tabulate_length k g in
    let l = mid_length a k xs ys inside n in
    let w = from_length g a k xs in
    ext_get_or (pos 0) (put_mid a k xs ys) (written_from g a k xs) (omega arith)
    (λ p h. cases p a
    (λ before. mid_before a k xs ys inside n p (pos 0) before ∙ sym (from_before g a k xs p (pos 0) before))
    (λ from. cases p (a + k)
    (λ here. let q : a + (p - a) ≡ p = omega arith in
    mid_here a k xs ys inside n p (pos 0) from here
    ∙ ap (λ (l : List ℤ). get_or l (p - a) (pos 0)) e
    ∙ tabulate_at k g (p - a) (pos 0) (omega arith)
    ∙ sym (from_at g a k xs (p - a) (pos 0) inside (omega arith))
    ∙ ap (λ (i : ℕ). get_or (written_from g a k xs) i (pos 0)) q)
    (λ after. let q : a + (p - a) ≡ p = omega arith in
    mid_after a k xs ys inside n p (pos 0) after
    ∙ sym (rw q at (from_past g a k xs (p - a) (pos 0) (omega arith))))))

-- ---- zeros past the first m of nine
pub then_zeros : (g : ℕ → ℤ) (m : ℕ) (xs zeros : List ℤ) → m ≤ 9 → length xs ≡ 9 → length zeros ≡ 9 - m
    → ((p : ℕ) → p < m → get_or xs p (pos 0) ≡ g p) → ((p : ℕ) → p < 9 - m → get_or zeros p (pos 0) ≡ pos 0) → ((p : ℕ) → m ≤ p → g p ≡ pos 0)
    → put_mid m (9 - m) xs zeros ≡ tabulate 9 g
then_zeros g m xs zeros top long rest here past none =
    let l = mid_length m (9 - m) xs zeros (omega arith) rest in
    ext_get_or (pos 0) (put_mid m (9 - m) xs zeros) (tabulate 9 g) (omega (arith, tabulate_length 9 g))
    (λ p h. cases p m
    (λ before. mid_before m (9 - m) xs zeros (omega arith) rest p (pos 0) before ∙ here p before ∙ sym (tabulate_at 9 g p (pos 0) (omega arith)))
    (λ from. mid_here m (9 - m) xs zeros (omega arith) rest p (pos 0) from (omega arith) ∙ past (p - m) (omega arith) ∙ sym (none p from) ∙ sym (tabulate_at 9 g p (pos 0) (omega arith))))

-- ---- a table at a place of a slice, as nine places of its own
module _ {post : List ℤ} {at k : ℕ} (t : TableAt post at k) where
  abbrev places : List ℤ
  places = take (at + 9 - at) (drop at post)

  pub same_places : (p : ℕ) → p < 9 → get_or places p (pos 0) ≡ get_or (drop at post) p (pos 0)
  same_places p h = get_or-take (at + 9 - at) (drop at post) p (pos 0) (omega arith)

  same_entries : (p : ℕ) → p < k * k → get_or places p (pos 0) ≡ get_or (drop at post) p (pos 0)
  same_entries p h = same_places p (omega (arith, nine k t.k_high))

  pub own : TableIn places k
  own = record {
    k_low = t.k_low;
    k_high = t.k_high;
    size = simp (length-take, length-drop) (omega (arith, t.inside));
    small = λ p h. omega (arith, ap nat_abs (same_entries p h), ap nat_abs (get_or-drop at post p (pos 0)), t.small p h);
  }

  -- so what is read off it is that of the slice from its place on
  pub own_genotype : (phased : Bool) → max_genotype phased places k ≡ max_genotype phased (drop at post) k
  own_genotype phased = genotype_same places (drop at post) k t.k_low same_entries phased

  pub own_qual : qual_of places ≡ qual_of (drop at post)
  own_qual = qual_same places (drop at post) k t.k_low same_entries

  pub own_gq : (p : ℕ) → gq_of places k p ≡ gq_of (drop at post) k p
  own_gq p = gq_same places (drop at post) k t.k_low same_entries p

  pub own_normalized : (p : ℕ) → normalized places k p ≡ normalized (drop at post) k p
  own_normalized p = normalized_same (pos 0) places (drop at post) k t.k_low (λ q h. same_entries q h ∙ sym (+ℤ_idr (get_or (drop at post) q (pos 0)))) p

  -- normalized there, the slice is written there
  pub own_written : (after : List ℤ) → after ≡ tabulate 9 (normalized places k) → put_mid at (at + 9 - at) post after ≡ written_from (normalized (drop at post) k) at 9 post
  own_written after e =
      let n : at + 9 - at ≡ 9 = omega arith in
      rw n (lent_written (normalized places k) at 9 post after t.inside e ∙ from_same (normalized places k) (normalized (drop at post) k) at 9 post (λ p _. own_normalized p))
