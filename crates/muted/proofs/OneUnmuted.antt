-- One muted fragment unmuted: its strand and the qualities of its records are the only words that change. So the chains stay, the words are accepted with
-- the same haplotypes, and they stand for the case with that fragment unmuted (late_reads/proofs/OneChanged).
-- Assumes nothing.
use mathlib.Core.Path.{◌≡◌, refl, sym, ap, ◌∙◌, subst}
use mathlib.Core.Bool.{Bool, true, false}
use mathlib.Core.List.{List, [], ◌∷◌, map}
use mathlib.Core.Logic.{inl}
use Prim.Native.Nat.{ℕ, zero, suc, ◌+◌, ◌≤◌, ◌<◌}
use native.Mathlib.Omega.{arith}
use native.Mathlib.Decide.{dec_le}
use borrow.Author.Tests.{le-leb, eq-eqb}
use lib.Dec.{leb, eqb, lit<}
use lib.IntN.{ℤ, pos}
use lib.ListN.{length, length-set}
use lib.Seq.{get_or-set_same, get_or-set_other}
use Rattle.variants_and_fragments.specs.declared.Sizes.{Sizes}
use Rattle.variants_and_fragments.specs.Case.{votes, direction}
use Rattle.variants_and_fragments.specs.Refusals.{Outcome, done, refused}
use Rattle.variants_and_fragments.specs.Words.{word, within, below, nat_of}
use Rattle.variants_and_fragments.specs.Layout.{max_strand, sizes_of, used_field, free_field, first_field, strand_field, variant_field, allele_field, qual_field, one_minus_qual_field, next_field, fragment_at, fragment_word, call_at, call_word, allele_count_at, variant_ok, call_ok}
use Rattle.variants_and_fragments.specs.Chain.{strand_at, next_call_at, link_ok, chain_from, chain_of, free_chain, memb}
use Rattle.variants_and_fragments.specs.Check.{check_case_and_haplotypes_outcome}
use Rattle.variants_and_fragments.specs.Decode.{call_from, fragment_from, decode}
use Rattle.variants_and_fragments.specs.First.{first_fail}
use Rattle.variants_and_fragments.specs.Inner.Accepted.{CaseIn}
use Rattle.variants_and_fragments.specs.Inner.Head.{head_fault}
use Rattle.variants_and_fragments.proofs.Accepted.{Passed, passed, accepts}
use Rattle.variants_and_fragments.proofs.Bools.{both, or_right}
use Rattle.variants_and_fragments.proofs.Chain.{chain_record}
use Rattle.variants_and_fragments.proofs.Linked.{Linked, linked_right, chain_linked}
use Rattle.variants_and_fragments.proofs.Free.{free_linked}
use Rattle.variants_and_fragments.proofs.First.{first_cong}
use Rattle.variants_and_fragments.proofs.Heads.{head_lines_lem}
use Rattle.variants_and_fragments.proofs.Outcomes.{unless_on, each_at}
use Rattle.variants_and_fragments.proofs.Ranges.{upto_nat}
use Rattle.late_reads.specs.Values.{exchanged}
use Rattle.late_reads.proofs.Apart.{memb_place, memb_all, distinct_join, chain_distinct, chains_apart, free_apart}
use Rattle.late_reads.proofs.Room.{free_distinct}
use Rattle.late_reads.proofs.OneChanged.{room_as, Keeps, Changed, call_words_kept}
use Rattle.late_reads.proofs.AcceptedAfter.{variant_ok_same, accepted_changed}
use Rattle.late_reads.proofs.DecodedAfter.{decoded_changed}
use Rattle.muted.specs.Unmuted.{zeroed, unmuted, records_zeroed, fragment_unmuted}
use Rattle.muted.proofs.Zeroed.{zeroed_long, zeroed_other, zeroed_at}

-- ---- lists
-- each record of a chain is right
linked_memb : {w : List ℤ} {s : Sizes} {right : ℕ → Bool} {r : ℕ} {rs : List ℕ} → Linked w s right r rs → (x : ℕ) → memb x rs ≡ true → right x ≡ true
linked_memb {rs = rs} linked x m = let i = memb_place rs x m in rw i.2 (linked_right linked i.0 i.1)

map_twice : {X Y : Type 0} (g : ℕ → Y) (h : ℕ → X) (on : X → Y) (rs : List ℕ) → ((r : ℕ) → memb r rs ≡ true → g r ≡ on (h r)) → map g rs ≡ map on (map h rs)
unfolding memb
map_twice g h on [] e = refl
map_twice g h on (r ∷ rs) e = rw (e r (rw (eq-eqb r r refl) refl), map_twice g h on rs (λ x m. e x (or_right (eqb x r) (memb x rs) m)))

-- ---- chains go by the nexts
chain_by_nexts : (w w' : List ℤ) (s : Sizes) → ((r : ℕ) → next_call_at w' s r ≡ next_call_at w s r) → (k r : ℕ) → chain_from w' s k r ≡ chain_from w s k r
unfolding chain_from
chain_by_nexts w w' s same zero r = refl
chain_by_nexts w w' s same (suc k) r = rw (same r, chain_by_nexts w w' s same k (next_call_at w s r))

-- ---- a check that stops at a variant
stops : (w : List ℤ) (b h : List ℕ) → 7 ≤ head_fault w → first_fail (variant_ok w h) (sizes_of w).n < (sizes_of w).n → refused 2 (first_fail (variant_ok w h) (sizes_of w).n) ≡ check_case_and_haplotypes_outcome w b h
unfolding check_case_and_haplotypes_outcome first_fail
stops w b h head wrong = each_at 2 (variant_ok w h) 0 (sizes_of w).n _ (omega (arith, wrong)) ∙ unless_on (leb 7 (head_fault w)) 1 (head_fault w) _ (le-leb _ _ head) ∙ head_lines_lem w _

module _ {w : List ℤ} {s : Sizes} (k : CaseIn w s) (f : ℕ) (l : f < s.f) (muted : votes (strand_at w s f) ≡ false) where
  abbrev chain : List ℕ
  chain = chain_of w s f

  abbrev w' : List ℤ
  w' = fragment_unmuted w s f

  -- ---- what stands at each place
  unmuted_long : length (fragment_unmuted w s f) ≡ length w
  unfolding fragment_unmuted
  unmuted_long = rw muted (length-set (records_zeroed w s chain) (fragment_at s f + strand_field) (pos (direction (strand_at w s f))) ∙ zeroed_long s w chain)

  unmuted_other : (i : ℕ) → (i ≡ fragment_at s f + strand_field → ⊥) → ((r : ℕ) → memb r (chain_of w s f) ≡ true → (i ≡ call_at s r + qual_field → ⊥) × (i ≡ call_at s r + one_minus_qual_field → ⊥))
      → word (fragment_unmuted w s f) i ≡ word w i
  unfolding fragment_unmuted
  unmuted_other i a n = rw muted (get_or-set_other (records_zeroed w s chain) (fragment_at s f + strand_field) i (pos (direction (strand_at w s f))) (pos 0) a ∙ zeroed_other s w chain i n)

  unmuted_strand : fragment_word (fragment_unmuted w s f) s f strand_field ≡ pos (direction (strand_at w s f))
  unfolding fragment_unmuted
  unmuted_strand = rw muted (get_or-set_same (records_zeroed w s chain) (fragment_at s f + strand_field) (pos (direction (strand_at w s f))) (pos 0) (omega (arith, k.sized.size, zeroed_long s w chain)))

  -- a quality of a record of the chain
  unmuted_quality : (r field : ℕ) → call_word (records_zeroed w s (chain_of w s f)) s r field ≡ pos 0 → call_word (fragment_unmuted w s f) s r field ≡ pos 0
  unfolding fragment_unmuted
  unmuted_quality r field z = rw muted (get_or-set_other (records_zeroed w s chain) (fragment_at s f + strand_field) (call_at s r + field) (pos (direction (strand_at w s f))) (pos 0) (λ e. omega arith) ∙ z)

  -- before the calls
  unmuted_front : (i : ℕ) → i < call_at s 1 → (i ≡ fragment_at s f + strand_field → ⊥) → word (fragment_unmuted w s f) i ≡ word w i
  unmuted_front i h a = unmuted_other i a (λ r m. ((λ e. omega arith), (λ e. omega arith)))

  -- a word of a call that is no quality, of any record
  unmuted_kept : (r field : ℕ) → field < 5 → (field ≡ qual_field → ⊥) → (field ≡ one_minus_qual_field → ⊥) → call_word (fragment_unmuted w s f) s r field ≡ call_word w s r field
  unmuted_kept r field h a b = unmuted_other (call_at s r + field) (λ e. omega arith) (λ x m. ((λ e. a (omega arith)), (λ e. b (omega arith))))

  kept_variant : (r : ℕ) → call_word (fragment_unmuted w s f) s r variant_field ≡ call_word w s r variant_field
  kept_variant r = unmuted_kept r variant_field (omega arith) (λ e. omega arith) (λ e. omega arith)

  kept_allele : (r : ℕ) → call_word (fragment_unmuted w s f) s r allele_field ≡ call_word w s r allele_field
  kept_allele r = unmuted_kept r allele_field (omega arith) (λ e. omega arith) (λ e. omega arith)

  kept_next : (r : ℕ) → call_word (fragment_unmuted w s f) s r next_field ≡ call_word w s r next_field
  kept_next r = unmuted_kept r next_field (omega arith) (λ e. omega arith) (λ e. omega arith)

  -- ---- the chains
  abbrev after : Sizes
  after = room_as s s.used s.free

  unmuted_keeps : Keeps w w' s s.used s.free f
  unmuted_keeps = record {
    long = unmuted_long;
    used_is = ap nat_of (unmuted_front used_field (omega arith) (λ e. omega arith)) ∙ ap (λ (t : Sizes). t.used) (sym k.shape);
    free_is = ap nat_of (unmuted_front free_field (omega arith) (λ e. omega arith)) ∙ ap (λ (t : Sizes). t.free) (sym k.shape);
    low = omega arith;
    high = k.sized.used_top;
    free_top = k.sized.free_top;
    front = λ i h a b. unmuted_front i (omega arith) (λ e. omega arith);
    others = λ g field h other m. unmuted_front (fragment_at s g + field) (omega arith) (λ e. other (omega arith));
    records = λ g r field h other m n. unmuted_other (call_at s r + field) (λ e. omega arith) (λ x o.
        let a = (chain_record w s g r m).0 in
        let b = (chain_record w s f x o).0 in
        let apart : r ≡ x → ⊥ = λ e. chains_apart k g f r h l other m (rw e o) in
        ((λ e. apart (omega arith)), (λ e. apart (omega arith))));
  }

  unmuted_first : fragment_word (fragment_unmuted w s f) s f first_field ≡ fragment_word w s f first_field
  unmuted_first = unmuted_front (fragment_at s f + first_field) (omega arith) (λ e. omega arith)

  unmuted_chain : chain_of w' after f ≡ chain_of w s f
  unfolding chain_of
  unmuted_chain = rw unmuted_first (chain_by_nexts w w' after (λ r. ap nat_of (kept_next r)) s.c (nat_of (fragment_word w s f first_field)))

  unmuted_free : free_chain w' after ≡ free_chain w s
  unfolding free_chain
  unmuted_free = chain_by_nexts w w' after (λ r. ap nat_of (kept_next r)) (suc s.c) s.free

  link_same : (r : ℕ) → link_ok w' after r ≡ link_ok w s r
  unfolding link_ok
  link_same r = rw (kept_next r, kept_variant r, kept_variant (next_call_at w s r))

  -- a call of the chain with both qualities 0
  module _ (r : ℕ) (m : memb r (chain_of w s f) ≡ true) where
    qual_zero : call_word (fragment_unmuted w s f) s r qual_field ≡ pos 0
    qual_zero = unmuted_quality r qual_field (zeroed_at s w chain r m).0

    other_zero : call_word (fragment_unmuted w s f) s r one_minus_qual_field ≡ pos 0
    other_zero = unmuted_quality r one_minus_qual_field (zeroed_at s w chain r m).1

    unmuted_call : call_from w' after r ≡ zeroed (call_from w s r)
    unfolding call_from zeroed
    unmuted_call = rw (kept_variant r, kept_allele r, qual_zero, other_zero)

    call_right : call_ok w' after r ≡ true
    unfolding call_ok within
    call_right =
        let variant = call_word w s r variant_field in
        let allele = call_word w s r allele_field in
        let a = both (below s.n variant) _ (memb_all (call_ok w s) chain r (k.frags f l).calls m) in
        let c = both (below (allele_count_at w (nat_of variant)) allele) _ a.1 in
        rw (kept_variant r, kept_allele r, qual_zero, other_zero) (call_words_kept k unmuted_keeps variant allele (pos 0) (pos 0) (rw (a.0, c.0) refl))

  unmuted_changed : Changed w w' s s.used s.free f (chain_of w s f) (free_chain w s)
  unmuted_changed = record {
    keeps = unmuted_keeps;
    inside = l;
    strand_in = rw (unmuted_strand, upto_nat max_strand (pos (direction (strand_at w s f))) (lit< tt)) (le-leb (direction (strand_at w s f)) max_strand (omega arith));
    first_in = rw unmuted_first (k.frags f l).first_in;
    chain_is = unmuted_chain;
    links = λ r m. link_same r ∙ linked_memb (chain_linked k.sized.used_top (k.frags f l)) r m;
    calls = call_right;
    rest_is = unmuted_free;
    nexts = λ r m. rw (kept_next r) (linked_memb (free_linked k) r m);
    once = distinct_join chain (free_chain w s) (chain_distinct k f l) (free_distinct k) (λ x a b. free_apart k f x l b a);
    only = λ x m. inl m;
    had = λ x m. m;
    since = λ x a b. absurd (omega arith);
  }

  unmuted_fragment : fragment_from w' after f ≡ unmuted (fragment_from w s f)
  unfolding fragment_from unmuted
  unmuted_fragment =
      let calls : map (call_from w' after) (chain_of w' after f) ≡ map zeroed (map (call_from w s) (chain_of w s f)) =
      rw unmuted_chain (map_twice (call_from w' after) (call_from w s) zeroed chain unmuted_call) in
      rw (muted, unmuted_first, unmuted_strand, calls)

  -- ---- the case
  pub decoded_one : (b : List ℕ) → decode (fragment_unmuted w s f) b ≡ exchanged (decode w b) f (unmuted (fragment_from w s f))
  decoded_one b = decoded_changed k unmuted_changed b ∙ ap (exchanged (decode w b) f) unmuted_fragment

  pub free_one : free_chain (fragment_unmuted w s f) s ≡ free_chain w s
  free_one = unmuted_free

  -- ---- the check
  -- the same with every haplotypes: where one of them is refused, it is in both
  pub checked_one : (b h : List ℕ) → Passed w b [] s → check_case_and_haplotypes_outcome (fragment_unmuted w s f) b h ≡ check_case_and_haplotypes_outcome w b h
  checked_one b h p = elim (dec_le s.n (first_fail (variant_ok w h) s.n)) [
    | yes right ↦
        let q : Passed w b h s = record { head = p.head; variants = right; size = p.size; bytes = p.bytes; calls = p.calls; frags = p.frags; free = p.free } in
        accepted_changed k unmuted_changed b h q ∙ ap done k.shape ∙ accepts w b h (subst (λ (t : Sizes). Passed w b h t) k.shape q)
    | no wrong ↦
        let there = passed w' b [] after (accepted_changed k unmuted_changed b [] p) in
        let n_is : (sizes_of w').n ≡ s.n = ap (λ (t : Sizes). t.n) (sym there.0) in
        let m_is : (sizes_of w).n ≡ s.n = ap (λ (t : Sizes). t.n) (sym k.shape) in
        let same = first_cong (variant_ok w' h) (variant_ok w h) s.n (variant_ok_same k unmuted_keeps h) in
        let stop : ℕ → Outcome Sizes = refused 2 in
        sym (stops w' b h there.1.head (rw (n_is, same) (omega arith)))
        ∙ ap (λ (n : ℕ). stop (first_fail (variant_ok w' h) n)) n_is
        ∙ ap stop same
        ∙ ap (λ (n : ℕ). stop (first_fail (variant_ok w h) n)) (sym m_is)
        ∙ stops w b h p.head (rw m_is (omega arith))
  ]
