-- 01, section 4, as amended by requests 4 and 5, as the code goes about it: the answers of one variant and of all.
-- Assumes nothing.
use Rattle.std.specs.Prelude.{◌≡◌, List, [], ◌∷◌, ℕ, ◌+◌, ◌*◌, ◌/◌, ◌%◌, ◌^◌, ◌≤◌, ◌<◌, Float, ℤ, pos, nat_abs, length, get_or, drop}
use Rattle.variants_and_fragments.specs.Decode.{tabulate, decode}
use Rattle.variants_and_fragments.specs.Layout.{allele_count_at}
use Rattle.variants_and_fragments.specs.Pileup.{pile_of}
use Rattle.variants_and_fragments.specs.Written.{written}
use Rattle.genotype_probs.specs.declared.posteriors.Genotype.{Genotype}
use Rattle.genotype_probs.specs.declared.Rates.{Rates}
use Rattle.genotype_probs.specs.Posteriors.{qual_of}
use Rattle.no_haplotypes.specs.declared.answer.Answer.{Answer}
use Rattle.no_haplotypes.specs.NoHaplotypes.{calls_at, answer_from, gq_from, answer_at, qual_at, gq_at}
use Rattle.no_haplotypes.specs.Inner.Tally.{count_of, CountsIn, posteriors_from}

-- no variant has more calls than a case
abbrev pub FewCalls : List ℤ → Type 0
FewCalls w = (b : List ℕ) (v : ℕ) → calls_at (decode w b) v ≤ 16384

-- ---- the answer of one variant

-- the 13 words, from the counts by strand and allele
unfoldable pub answer_values : Genotype → List (List ℕ) → ℕ → ℕ → List ℕ
answer_values g counts ambiguous depth =
    g.0 ∷ g.1
    ∷ (count_of counts 0 0 + count_of counts 1 0) ∷ (count_of counts 0 1 + count_of counts 1 1) ∷ (count_of counts 0 2 + count_of counts 1 2)
    ∷ count_of counts 0 0 ∷ count_of counts 0 1 ∷ count_of counts 0 2
    ∷ count_of counts 1 0 ∷ count_of counts 1 1 ∷ count_of counts 1 2
    ∷ ambiguous ∷ depth ∷ []

-- counts and numbers that fit a word
pub record WordsIn (counts : List (List ℕ)) (ambiguous depth : ℕ) : Type 0 where
  pub counts_in : CountsIn counts
  pub ambiguous_few : ambiguous ≤ 16384
  pub depth_top : depth < 2147483648

-- the posteriors of v that are made from its priors
abbrev pub made_from : List ℤ → List ℤ → List ℕ → ℕ → List ℤ
made_from w priors b v = posteriors_from priors (allele_count_at w v) (pile_of (decode w b) v)

-- one variant called from its priors, whatever the bases
pub record VariantCalled (w : List ℤ) (v : ℕ) (priors : List ℤ) (answer : Answer) : Type 0 where
  pub words_are : (b : List ℕ) → answer.words ≡ tabulate 13 (answer_from (made_from w priors b v) (allele_count_at w v) (decode w b) v)
  pub qual_is : (b : List ℕ) → answer.qual.0 ≡ qual_of (made_from w priors b v)
  pub gq_is : (b : List ℕ) → answer.gq.0 ≡ gq_from (made_from w priors b v) (allele_count_at w v)

-- ---- all variants

-- the priors of n variants
pub record PriorsIn (post : List ℤ) (n : ℕ) : Type 0 where
  pub room : 9 * n ≤ length post
  pub small : (e : ℕ) → e < 9 * n → nat_abs (get_or post e (pos 0)) ≤ 2 ^ 34

-- the posteriors of v that are made from the priors in its nine places
abbrev pub made_at : List ℤ → List ℤ → List ℕ → ℕ → List ℤ
made_at w post b v = made_from w (drop (9 * v) post) b v

-- n variants called, whatever the bases
pub record VariantsCalled (w : List ℤ) (n : ℕ) (post variants : List ℤ) (quals gqs : List Float) (variants' : List ℤ) (quals' gqs' : List Float) : Type 0 where
  pub variants_are : (b : List ℕ) → variants' ≡ written (λ e. answer_from (made_at w post b (e / 13)) (allele_count_at w (e / 13)) (decode w b) (e / 13) (e % 13)) (13 * n) variants
  pub quals_are : (b : List ℕ) → quals' ≡ written (λ v. qual_of (made_at w post b v)) n quals
  pub gqs_are : (b : List ℕ) → gqs' ≡ written (λ v. gq_from (made_at w post b v) (allele_count_at w v)) n gqs

-- the n variants of an accepted case called at accepted rates
pub record AcceptedCalled (w : List ℤ) (b : List ℕ) (rates : Rates) (n : ℕ) (variants : List ℤ) (quals gqs : List Float) (variants' : List ℤ) (quals' gqs' : List Float) : Type 0 where
  pub variants_are : variants' ≡ written (answer_at rates (decode w b)) (13 * n) variants
  pub quals_are : quals' ≡ written (qual_at rates (decode w b)) n quals
  pub gqs_are : gqs' ≡ written (gq_at rates (decode w b)) n gqs
