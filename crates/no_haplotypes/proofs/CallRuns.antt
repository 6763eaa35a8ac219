-- All variants called, one after the other: what is written so far, and the priors that still stand in their places.
-- Assumes nothing.
use Rattle.std.proofs.Common.{◌≡◌, List, ℕ, ◌+◌, ◌-◌, ◌*◌, ◌/◌, ◌%◌, ◌≤◌, ◌<◌, Float, ℤ, pos, nat_abs, length, get_or, set, take, drop, refl, sym, ap, ◌∙◌, arith, length-take, length-drop}
use Rattle.std.proofs.lemmas.List.{get_or-take, get_or-drop}
use borrow.Rule.Slice.PartMut.{put_mid}
use Rattle.variants_and_fragments.specs.declared.Sizes.{Sizes}
use Rattle.variants_and_fragments.specs.Decode.{decode}
use Rattle.variants_and_fragments.specs.Layout.{allele_count_at}
use Rattle.variants_and_fragments.specs.Written.{written}
use Rattle.variants_and_fragments.specs.Inner.Written.{written_from}
use Rattle.variants_and_fragments.proofs.Written.{written_on, from_after}
use Rattle.genotype_probs.specs.Posteriors.{qual_of}
use Rattle.genotype_probs.proofs.NinePlaces.{mid_length, mid_after, lent_written}
use Rattle.no_haplotypes.specs.declared.answer.Answer.{Answer}
use Rattle.no_haplotypes.specs.NoHaplotypes.{answer_from, gq_from}
use Rattle.no_haplotypes.specs.Inner.Tally.{NinePriors}
use Rattle.no_haplotypes.specs.Inner.Calling.{PriorsIn, made_from, made_at, VariantCalled, VariantsCalled}
use Rattle.no_haplotypes.proofs.CallLaws.{made_same}

-- the variants before v are called
pub record CallingTo (w : List ℤ) (s : Sizes) (post₀ variants₀ : List ℤ) (quals₀ gqs₀ : List Float) (v : ℕ) (post variants : List ℤ) (quals gqs : List Float) : Type 0 where
  pub inside : v ≤ s.n
  pub long : length post ≡ length post₀
  pub rest : (e : ℕ) → 9 * v ≤ e → get_or post e (pos 0) ≡ get_or post₀ e (pos 0)
  pub called : VariantsCalled w v post₀ variants₀ quals₀ gqs₀ variants quals gqs

pub calling_start : {w : List ℤ} {s : Sizes} {post variants : List ℤ} {quals gqs : List Float} → CallingTo w s post variants quals gqs 0 post variants quals gqs
unfolding written
calling_start = record {
  inside = omega arith;
  long = refl;
  rest = λ e h. refl;
  called = record { variants_are = λ b. refl; quals_are = λ b. refl; gqs_are = λ b. refl };
}

module _ {w : List ℤ} {s : Sizes} {post₀ variants₀ : List ℤ} {quals₀ gqs₀ : List Float} {v : ℕ} {post variants : List ℤ} {quals gqs : List Float} (c : CallingTo w s post₀ variants₀ quals₀ gqs₀ v post variants quals gqs) where
  -- the nine places of v, as they are lent
  abbrev pub own : List ℤ
  own = take (9 * v + 9 - 9 * v) (drop (9 * v) post)

  own_at : (p : ℕ) → p < 9 → get_or own p (pos 0) ≡ get_or post₀ (9 * v + p) (pos 0)
  own_at p h = get_or-take (9 * v + 9 - 9 * v) (drop (9 * v) post) p (pos 0) (omega arith) ∙ get_or-drop (9 * v) post p (pos 0) ∙ c.rest (9 * v + p) (omega arith)

  pub nine_priors : PriorsIn post₀ s.n → v < s.n → NinePriors own
  nine_priors p h = record {
    size = simp (length-take, length-drop) (omega (arith, c.long, p.room));
    small = λ q l. omega (arith, ap nat_abs (own_at q l), p.small (9 * v + q) (omega arith));
  }

  pub calling_on : (after : List ℤ) {answer : Answer} → v < s.n → 9 * s.n ≤ length post → 13 * s.n ≤ length variants → length after ≡ 9 → VariantCalled w v own answer
      → CallingTo w s post₀ variants₀ quals₀ gqs₀ (v + 1) (put_mid (9 * v) (9 * v + 9 - 9 * v) post after) (put_mid (13 * v) (13 * v + 13 - 13 * v) variants answer.words) (set quals v answer.qual.0) (set gqs v answer.gq.0)
  calling_on after {answer} h room long nine f =
      let k = allele_count_at w v in
      let same : (b : List ℕ) → made_from w own b v ≡ made_at w post₀ b v = λ b. made_same w own (drop (9 * v) post₀) b v (λ p m. own_at p m ∙ sym (get_or-drop (9 * v) post₀ p (pos 0))) in
      let n : 9 * v + 9 - 9 * v ≡ 9 = omega arith in
      let m : 13 * v + 13 - 13 * v ≡ 13 = omega arith in
      let z : 13 * v + 13 ≡ 13 * (v + 1) = omega arith in
      record {
        inside = omega arith;
        long = rw n (mid_length (9 * v) 9 post after (omega arith) nine) ∙ c.long;
        rest = λ e l. rw n (mid_after (9 * v) 9 post after (omega arith) nine e (pos 0) (omega arith)) ∙ c.rest e (omega arith);
        called = record {
          variants_are = λ b.
              let g : ℕ → ℤ = λ e. answer_from (made_at w post₀ b (e / 13)) (allele_count_at w (e / 13)) (decode w b) (e / 13) (e % 13) in
              let one : ℕ → ℤ = answer_from (made_from w own b v) k (decode w b) v in
              rw m (lent_written one (13 * v) 13 variants answer.words (omega arith) (f.words_are b))
              ∙ ap (written_from one (13 * v) 13) (c.called.variants_are b)
              ∙ from_after g one (13 * v) 13 variants₀ (λ p l. let q : (13 * v + p) / 13 ≡ v = omega arith in let r : (13 * v + p) % 13 ≡ p = omega arith in rw (q, r, same b))
              ∙ ap (λ (j : ℕ). written g j variants₀) z;
          quals_are = λ b. written_on (λ u. qual_of (made_at w post₀ b u)) v quals₀ quals answer.qual.0 (c.called.quals_are b) (f.qual_is b ∙ ap qual_of (same b));
          gqs_are = λ b. written_on (λ u. gq_from (made_at w post₀ b u) (allele_count_at w u)) v gqs₀ gqs answer.gq.0 (c.called.gqs_are b) (f.gq_is b ∙ ap (λ (l : List ℤ). gq_from l k) (same b));
        };
      }

  pub calling_end : s.n ≤ v → VariantsCalled w s.n post₀ variants₀ quals₀ gqs₀ variants quals gqs
  calling_end h = let i = c.inside in let e : v ≡ s.n = omega arith in rw e at c.called
