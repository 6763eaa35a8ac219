-- Every accepted case is good: what the check says of words and bytes, said of the decoded case.
-- Assumes nothing.
use mathlib.Core.Path.{◌≡◌, refl}
use mathlib.Core.Bool.{Bool, true, false, not, cond, ◌&&◌}
use mathlib.Core.List.{List, [], ◌∷◌, map}
use Prim.Native.Nat.{ℕ, zero, suc, ◌+◌, ◌≤◌, ◌<◌}
use native.Mathlib.Nat.{le_refl}
use native.Mathlib.Omega.{arith}
use borrow.Author.Tests.{le-leb, leb-true}
use lib.Dec.{leb}
use lib.IntN.{ℤ}
use lib.ListN.{length, length-append, length-map}
use Rattle.variants_and_fragments.specs.declared.Sizes.{Sizes}
use Rattle.variants_and_fragments.specs.Sums.{count_over}
use Rattle.variants_and_fragments.specs.Case.{Case, allele_of, variant_of, fragment_of, no_fragment}
use Rattle.variants_and_fragments.specs.Inner.Case.{rising_from, rising, GoodAllele, GoodVariant, GoodCall, GoodFragment, GoodCase}
use Rattle.variants_and_fragments.specs.Refusals.{done}
use Rattle.variants_and_fragments.specs.Layout.{allele_count_at, length_at, cutoff_at, call_variant_at}
use Rattle.variants_and_fragments.specs.Inner.Layout.{VariantIn}
use Rattle.variants_and_fragments.specs.Chain.{first_call_at, next_call_at, is_record, link_ok, chain_from, chain_of, memb, good_chain}
use Rattle.variants_and_fragments.specs.Inner.Accepted.{CallIn, FragmentIn, CaseIn, BasesIn}
use Rattle.variants_and_fragments.proofs.Bools.{both}
use Rattle.variants_and_fragments.proofs.Records.{pos0_up}
use Rattle.variants_and_fragments.proofs.Accepted.{case_in, bases_in}
use Rattle.variants_and_fragments.specs.Check.{check_case_outcome}
use Rattle.variants_and_fragments.specs.Visits.{visit, visits_from}
use Rattle.variants_and_fragments.specs.Decode.{tabulate_from, allele_start, call_from, fragment_from, decode}
use Rattle.variants_and_fragments.proofs.Visits.{visits_top, chain_all}
use Rattle.variants_and_fragments.proofs.Readings.{quality_down}
use Rattle.variants_and_fragments.proofs.Chain.{next_rises, absent_chain}
use Rattle.variants_and_fragments.proofs.Alls.{all_at, all_tabulate}
use Rattle.variants_and_fragments.proofs.Decoded.{cutoff_is, variants_are, fragments_are, fragments_list, pos0_is, genotype0_is, genotype1_is, allele_count_is, allele_end, allele_length, allele_byte}

-- ---- along a chain
rise_from : (w : List ℤ) (s : Sizes) (k r b : ℕ) (past : List ℕ) → good_chain (link_ok w s) past (chain_from w s k r) ≡ true → (1 ≤ r → b ≤ call_variant_at w s r) → rising_from b (map (call_from w s) (chain_from w s k r)) ≡ true
unfolding chain_from good_chain rising_from call_from
rise_from w s zero r b past g h = refl
rise_from w s (suc k) r b past g h = go (is_record s r) refl g (rise_from w s k (next_call_at w s r))
  where
    rest : List ℕ
    rest = chain_from w s k (next_call_at w s r)

    go : (t : Bool) → is_record s r ≡ t → good_chain (link_ok w s) past (cond t (r ∷ rest) []) ≡ true
        → ((c : ℕ) (p : List ℕ) → good_chain (link_ok w s) p rest ≡ true → (1 ≤ next_call_at w s r → c ≤ call_variant_at w s (next_call_at w s r)) → rising_from c (map (call_from w s) rest) ≡ true)
        → rising_from b (map (call_from w s) (cond t (r ∷ rest) [])) ≡ true
    go false e a rec = refl
    go true e a rec =
        let x = both (not (memb r past)) (link_ok w s r && good_chain (link_ok w s) (r ∷ past) rest) a in
        let y = both (link_ok w s r) (good_chain (link_ok w s) (r ∷ past) rest) x.1 in
        let low : b ≤ call_variant_at w s r = h (leb-true 1 r (both (leb 1 r) (leb r s.used) e).0) in
        rw (le-leb b (call_variant_at w s r) low) (rec (suc (call_variant_at w s r)) (r ∷ past) y.1 (next_rises w s r y.0))

pub chain_rises : {w : List ℤ} {s : Sizes} {f : ℕ} → FragmentIn w s f → rising (map (call_from w s) (chain_of w s f)) ≡ true
unfolding chain_of
chain_rises {w} {s} {f} i = rise_from w s s.c (first_call_at w s f) 0 _ i.right (λ l. omega arith)

-- the calls of all fragments together are those that the walk visits
count_chains : (w : List ℤ) (s : Sizes) (n f : ℕ) → count_over (tabulate_from (fragment_from w s) f n) (λ fragment. length fragment.calls) ≡ length (visits_from w s f n)
unfolding tabulate_from count_over visits_from fragment_from
count_chains w s zero f = refl
count_chains w s (suc n) f = rw (length-append, length-map (chain_of w s f) (call_from w s), length-map (chain_of w s f) (visit f), count_chains w s n (suc f))

-- ---- an accepted case
length_top : {w : List ℤ} {v : ℕ} → VariantIn w v → (j : ℕ) → j < 3 → length_at w v j ≤ 64
length_top f zero h = f.len0
length_top f (suc zero) h = f.len1
length_top f (suc (suc zero)) h = f.len2
length_top f (suc (suc (suc j))) h = absurd (omega arith)

module _ {w : List ℤ} {b : List ℕ} {s : Sizes} (k : CaseIn w s) (i : BasesIn w s b) where
  module _ (v : ℕ) (h : v < s.n) where
    allele_good : (j : ℕ) → j < allele_count_at w v → GoodAllele (allele_of (variant_of (decode w b) v) j)
    allele_good j l =
        let e = allele_length k b i v j h l in
        let f = k.variants.each v h in
        let some = f.present j l in
        let top = length_top f j (omega (arith, f.k_high)) in
        record {
          some_base = omega arith;
          bases_top = omega arith;
          acgt = λ m q. let q2 : m < length_at w v j = omega arith in rw (allele_byte k b i v j h l m q2) (i.each (allele_start w v j + m) (omega (arith, allele_end k b i v j h l)));
        }

    variant_good : GoodVariant (variant_of (decode w b) v)
    variant_good =
        let e = allele_count_is k b v h in
        let f = k.variants.each v h in
        record {
          some_allele = omega (arith, f.k_low);
          three_alleles = omega (arith, f.k_high);
          genotype0_in = omega (arith, genotype0_is k b v h, f.a_in);
          genotype1_in = omega (arith, genotype1_is k b v h, f.b_in);
          alleles_in = λ j l. allele_good j (omega arith);
        }

  pos0_on : (v : ℕ) → suc v < s.n → (variant_of (decode w b) v).pos0 ≤ (variant_of (decode w b) (suc v)).pos0
  pos0_on v h = omega (arith, pos0_up k.variants v h, pos0_is k b v (omega arith), pos0_is k b (suc v) h)

  call_good : (r : ℕ) → CallIn w s r → GoodCall (decode w b).variants (call_from w s r)
  unfolding call_from
  call_good r c = record {
    variant_in = omega (arith, variants_are k b, c.variant_in);
    allele_in = rw (allele_count_is k b (call_variant_at w s r) c.variant_in) c.allele_in;
    qual_in = quality_down _ c.qual_in;
    one_minus_qual_in = quality_down _ c.other_in;
  }

  fragment_good : (f : ℕ) → f < s.f → GoodFragment (decode w b).variants (fragment_from w s f)
  unfolding fragment_from
  fragment_good f h =
      let c = k.frags f h in
      record {
        absent = λ gone. rw (absent_chain w s k.sized f gone);
        strand_in = c.strand_in;
        calls_in = chain_all w s (call_from w s) (GoodCall (decode w b).variants) call_good (chain_of w s f) c.calls;
        rises = chain_rises c;
      }

  case_good : GoodCase (decode w b)
  case_good = record {
    variants_top = omega (arith, variants_are k b, k.sized.n_top);
    fragments_top = omega (arith, fragments_are k b, k.sized.f_top);
    calls_top = rw (fragments_list k b) (omega (arith, count_chains w s s.f 0, visits_top w s k s.f (le_refl _), k.sized.used_top, k.sized.c_top));
    cutoff_in = rw (cutoff_is w b) (quality_down (cutoff_at w) k.cutoff_in);
    variants_in = λ v h. variant_good v (omega (arith, variants_are k b));
    pos0_rises = λ v h. pos0_on v (omega (arith, variants_are k b));
    fragments_in = rw (fragments_list k b) (all_tabulate s.f (fragment_from w s) fragment_good);
  }

-- what the check accepts is a good case
pub good_case : (w : List ℤ) (b : List ℕ) (s : Sizes) → check_case_outcome w b ≡ done s → GoodCase (decode w b)
good_case w b s h = case_good (case_in w b s h) (bases_in w b s h)

-- ---- a good case by index
module _ {case : Case} (good : GoodCase case) where
  pub fragment_in : (f : ℕ) → f < length case.fragments → GoodFragment case.variants (fragment_of case f)
  fragment_in f h = all_at good.fragments_in f no_fragment h
