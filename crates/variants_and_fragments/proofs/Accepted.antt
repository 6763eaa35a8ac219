-- What an accepted case gives: no test of the check stopped, so every test holds of the head, of each variant, byte, call and fragment.
-- Assumes nothing.
use mathlib.Core.Path.{◌≡◌, refl, sym, ◌∙◌, subst}
use mathlib.Core.Bool.{true}
use mathlib.Core.List.{List, []}
use Prim.Native.Nat.{ℕ, suc, ◌+◌, ◌-◌, ◌*◌, ◌≤◌, ◌<◌}
use native.Mathlib.Omega.{arith}
use borrow.Author.Tests.{le-leb, leb-true, eq-eqb, eqb-true}
use lib.Dec.{leb}
use lib.IntN.{ℤ}
use lib.ListN.{length, get_or}
use Rattle.variants_and_fragments.specs.declared.Sizes.{Sizes}
use Rattle.variants_and_fragments.specs.Refusals.{done}
use Rattle.variants_and_fragments.specs.First.{first_fail_from, first_fail, holds_below}
use Rattle.variants_and_fragments.specs.Layout.{sizes_of, allele_count_at, variant_ok, call_ok}
use Rattle.variants_and_fragments.specs.Chain.{chain_of, is_reached, reached_call_ok, fragment_ok, next_ok, good_chain, reached, in_chain, free_chain, free_ok}
use Rattle.variants_and_fragments.specs.Alleles.{alleles_start, alleles_ok}
use Rattle.variants_and_fragments.specs.Check.{check_case_and_haplotypes_outcome, check_case_outcome}
use Rattle.variants_and_fragments.specs.Inner.Head.{head_fault}
use Rattle.variants_and_fragments.specs.Inner.Accepted.{allb, FragmentIn, FreeIn, CaseIn, BasesIn}
use Rattle.variants_and_fragments.proofs.Bools.{both}
use Rattle.variants_and_fragments.proofs.First.{from_all, first_all, all_from, all_below}
use Rattle.variants_and_fragments.proofs.Outcomes.{unless_on, unless_past, each_on, each_past}
use Rattle.variants_and_fragments.proofs.Heads.{head_lines_lem}
use Rattle.variants_and_fragments.proofs.Records.{head_in, head_sized, variants_in, haplotype_facts, variant_alone}
use Rattle.variants_and_fragments.proofs.AlleleBytes.{base_at}
use Rattle.variants_and_fragments.proofs.Chain.{fragment_tests, chain_record, all_memb}
use Rattle.variants_and_fragments.proofs.Pigeon.{reached_has}

-- no test stops
pub record Passed (w : List ℤ) (b h : List ℕ) (s : Sizes) : Type 0 where
  pub head : 7 ≤ head_fault w
  pub variants : s.n ≤ first_fail (variant_ok w h) s.n
  pub size : length b ≡ alleles_start w s.n
  pub bytes : s.n ≤ first_fail (alleles_ok w b) s.n
  pub calls : 1 + s.used ≤ first_fail_from (reached_call_ok w s) 1 s.used
  pub frags : s.f ≤ first_fail (fragment_ok w s) s.f
  pub free : free_ok w s ≡ true

pub passed : (w : List ℤ) (b h : List ℕ) (s : Sizes) → check_case_and_haplotypes_outcome w b h ≡ done s → (s ≡ sizes_of w) × Passed w b h (sizes_of w)
unfolding check_case_and_haplotypes_outcome first_fail
passed w b h s ok =
    let h1 = unless_past (leb 7 (head_fault w)) 1 (head_fault w) _ s (head_lines_lem w _ ∙ ok) in
    let h2 = each_past 2 _ 0 _ _ s h1.1 in
    let h3 = unless_past _ 3 _ _ s h2.1 in
    let h4 = each_past 3 _ 0 _ _ s h3.1 in
    let h5 = each_past 4 _ 1 _ _ s h4.1 in
    let h6 = each_past 5 _ 0 _ _ s h5.1 in
    let h7 = unless_past (free_ok w (sizes_of w)) 5 _ _ s h6.1 in
    let e : s ≡ sizes_of w = cc in
    (e, record { head = leb-true _ _ h1.0; variants = omega (arith, h2.0); size = eqb-true _ _ h3.0; bytes = omega (arith, h4.0); calls = h5.0; frags = omega (arith, h6.0); free = h7.0 })

-- and the other way round
pub accepts : (w : List ℤ) (b h : List ℕ) → Passed w b h (sizes_of w) → done (sizes_of w) ≡ check_case_and_haplotypes_outcome w b h
unfolding check_case_and_haplotypes_outcome first_fail
accepts w b h p =
    unless_on (free_ok w (sizes_of w)) 5 _ _ p.free
    ∙ each_on 5 _ 0 _ _ (omega (arith, p.frags))
    ∙ each_on 4 _ 1 _ _ p.calls
    ∙ each_on 3 _ 0 _ _ (omega (arith, p.bytes))
    ∙ unless_on _ 3 _ _ (eq-eqb _ _ p.size)
    ∙ each_on 2 _ 0 _ _ (omega (arith, p.variants))
    ∙ unless_on (leb 7 (head_fault w)) 1 (head_fault w) _ (le-leb _ _ p.head)
    ∙ head_lines_lem w _

-- a record that is reached is right
reached_right : (w : List ℤ) (s : Sizes) (r : ℕ) → reached_call_ok w s r ≡ true → is_reached w s r ≡ true → call_ok w s r ≡ true
unfolding reached_call_ok
reached_right w s r h i = rw i at h

-- a fragment's records are reached
chain_right : (w : List ℤ) (s : Sizes) → ((r : ℕ) → 1 ≤ r → r ≤ s.used → reached_call_ok w s r ≡ true) → (f : ℕ) → f < s.f → allb (call_ok w s) (chain_of w s f) ≡ true
unfolding is_reached
chain_right w s calls f l = all_memb (call_ok w s) (chain_of w s f) (λ r m.
    let in-chain = chain_record w s f r m in
    reached_right w s r (calls r in-chain.0 in-chain.1) (reached_has w s r f s.f l m))

frag_facts : (w : List ℤ) (s : Sizes) (f : ℕ) → allb (call_ok w s) (chain_of w s f) ≡ true → fragment_ok w s f ≡ true → FragmentIn w s f
frag_facts w s f calls h =
    let t = fragment_tests w s f h in
    record { strand_in = t.strand_in; first_in = t.first_in; right = t.right; calls = calls }

-- the free chain is right, and each used record is in a chain
free_facts : (w : List ℤ) (s : Sizes) → free_ok w s ≡ true → FreeIn w s
unfolding free_ok
free_facts w s h =
    let a = both (good_chain (next_ok w s) (reached w s s.f) (free_chain w s)) (holds_below (λ i. in_chain w s (suc i)) s.used) h in
    record {
      right = a.0;
      whole = λ r lo hi. let e : suc (r - 1) ≡ r = omega arith in rw e at (all_below (λ i. in_chain w s (suc i)) s.used a.1 (r - 1) (omega arith));
    }

-- what a case gives that the check accepts, with haplotypes or without
pub checked_in : (w : List ℤ) (b h : List ℕ) (s : Sizes) → check_case_and_haplotypes_outcome w b h ≡ done s → CaseIn w s
checked_in w b h s ok =
    let p = passed w b h s ok in
    let z = sizes_of w in
    let calls : (r : ℕ) → 1 ≤ r → r ≤ z.used → reached_call_ok w z r ≡ true = λ r lo hi. from_all (reached_call_ok w z) 1 z.used p.1.calls r lo (omega arith) in
    rw p.0 (record {
      shape = refl;
      sized = head_sized w p.1.head;
      variants = variants_in w h z p.1.variants;
      frags = λ f l. frag_facts w z f (chain_right w z calls f l) (first_all (fragment_ok w z) z.f p.1.frags f l);
      free_in = free_facts w z p.1.free;
      cutoff_in = (head_in w p.1.head).cutoff_in;
    })

pub case_in : (w : List ℤ) (b : List ℕ) (s : Sizes) → check_case_outcome w b ≡ done s → CaseIn w s
unfolding check_case_outcome
case_in w b s ok = checked_in w b [] s ok

-- and its allele bytes
pub checked_bases : (w : List ℤ) (b h : List ℕ) (s : Sizes) → check_case_and_haplotypes_outcome w b h ≡ done s → BasesIn w s b
checked_bases w b h s ok =
    let p = passed w b h s ok in
    let z = sizes_of w in
    rw p.0 (record { size = p.1.size; each = λ i l. base_at w b z.n (first_all (alleles_ok w b) z.n p.1.bytes) i (omega (arith, p.1.size)) })

pub bases_in : (w : List ℤ) (b : List ℕ) (s : Sizes) → check_case_outcome w b ≡ done s → BasesIn w s b
unfolding check_case_outcome
bases_in w b s ok = checked_bases w b [] s ok

-- and its haplotypes, where there are so many
pub haplotypes_in : (w : List ℤ) (b h : List ℕ) (s : Sizes) → check_case_and_haplotypes_outcome w b h ≡ done s → (v i : ℕ) → v < s.n → i < 2 → 2 * v + i < length h → get_or h (2 * v + i) 0 < allele_count_at w v
haplotypes_in w b h s ok v i l m long =
    let p = passed w b h s ok in
    let n-same : v < (sizes_of w).n = subst (λ (t : Sizes). v < t.n) p.0 l in
    haplotype_facts w h v (first_all (variant_ok w h) (sizes_of w).n p.1.variants v n-same) i m long

-- a case that is accepted with haplotypes is accepted without
pub checked_case : (w : List ℤ) (b h : List ℕ) (s : Sizes) → check_case_and_haplotypes_outcome w b h ≡ done s → check_case_outcome w b ≡ done s
unfolding check_case_outcome first_fail
checked_case w b h s ok =
    let p = passed w b h s ok in
    let q = p.1 in
    let z = sizes_of w in
    let right = all_from (variant_ok w []) 0 z.n (λ v lo l. variant_alone w h v (first_all (variant_ok w h) z.n q.variants v (omega arith))) in
    rw p.0 (sym (accepts w b [] (record { head = q.head; variants = omega (arith, right); size = q.size; bytes = q.bytes; calls = q.calls; frags = q.frags; free = q.free })))
