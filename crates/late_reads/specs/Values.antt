-- Request 1, with the usable calls of request 5: the values kept beside a case while reads come and go, and what one read adds to them. Each is section 4's or section 6's, of one
-- fragment; `afresh` shows that together they are those sections' values of the case.
-- Assumes nothing.
use Rattle.std.specs.Prelude.{Bool, not, cond, ◌&&◌, ◌||◌, List, ℕ, ◌+◌, ◌*◌, ◌/◌, ◌%◌, eqb, ltb, ℤ, pos, neg_ℤ, ◌+ℤ◌, ◌-ℤ◌, length, get_or, set}
use Rattle.steps.specs.Logs.{mix_of}
use Rattle.variants_and_fragments.specs.Case.{Case, Fragment, Call, direction, usable}
use Rattle.variants_and_fragments.specs.First.{holds_below}
use Rattle.variants_and_fragments.specs.Pileup.{only, usable_calls}
use Rattle.variants_and_fragments.specs.Words.{within}
use Rattle.variants_and_fragments.specs.Written.{written}
use Rattle.sweeps.specs.Sweeps.{likelihood}

-- 2 likelihoods per fragment; 10 counts per variant; the phased total
pub record Values : Type 0 where
  pub likelihoods : List ℤ
  pub counts : List ℤ
  pub total : ℤ

abbrev pub values : List ℤ → List ℤ → ℤ → Values
values likelihoods counts total = record { likelihoods = likelihoods; counts = counts; total = total }

-- ---- ranges: the total and each likelihood are in −2^40..0, each count in 0..4096
abbrev pub lowest_total : ℤ
lowest_total = neg_ℤ (pos 1099511627776)

abbrev pub max_count : ℕ
max_count = 4096

-- of n variants and f fragments
unfoldable pub in_range : ℕ → ℕ → Values → Bool
in_range n f x =
    within lowest_total (pos 0) x.total
    && (holds_below (λ e. within lowest_total (pos 0) (get_or x.likelihoods e (pos 0))) (2 * f)
    && holds_below (λ e. within (pos 0) (pos max_count) (get_or x.counts e (pos 0))) (10 * n))

-- ---- what one read has
-- what does not change while reads come and go: the cutoff, the phased variants and the haplotypes
pub record Fixed : Type 0 where
  pub cutoff : ℤ
  pub phased : ℕ → Bool
  pub haps : List ℕ

-- section 6: its likelihood on haplotype i, 0 or 1
unfoldable pub likelihood_on : Fixed → Fragment → ℕ → ℤ
likelihood_on fixed x i = likelihood fixed.phased (λ v. get_or fixed.haps (2 * v + i) 0) (usable_calls fixed.cutoff x)

-- section 4: a call counts at place j of its variant's ten: 0 to 2 the usable calls of each allele, 3 to 5 those forward, 6 to 8 those reverse,
-- and 9 the ambiguous ones
unfoldable pub counted : ℤ → Fragment → ℕ → Call → Bool
counted cutoff x j call =
    cond (eqb j 9) (not (usable cutoff x call))
    (usable cutoff x call && (eqb call.allele (j % 3) && (ltb j 3 || eqb (j / 3) (1 + direction x.strand))))

-- how many of its calls count at element e, place e mod 10 of variant e div 10
unfoldable pub read_count : ℤ → Fragment → ℕ → ℕ
read_count cutoff x e = length (only (λ call. eqb call.variant (e / 10) && counted cutoff x (e % 10) call) x.calls)

-- ---- the values updated
-- the two likelihoods of fragment f are a and b
abbrev pub put_likelihoods : List ℤ → ℕ → ℤ → ℤ → List ℤ
put_likelihoods l f a b = set (set l (2 * f) a) (2 * f + 1) b

-- read x arrives as fragment f of a case of n variants: what was lent at f is written over
unfoldable pub arrived : Fixed → ℕ → ℕ → Fragment → Values → Values
arrived fixed n f x before =
    let a = likelihood_on fixed x 0 in
    let b = likelihood_on fixed x 1 in
    values (put_likelihoods before.likelihoods f a b)
    (written (λ e. get_or before.counts e (pos 0) +ℤ pos (read_count fixed.cutoff x e)) (10 * n) before.counts)
    (before.total +ℤ mix_of a b)

-- read x, which is fragment f, departs: the lent likelihoods' share goes off the total
unfoldable pub departed : ℤ → ℕ → ℕ → Fragment → Values → Values
departed cutoff n f x before =
    values (put_likelihoods before.likelihoods f (pos 0) (pos 0))
    (written (λ e. get_or before.counts e (pos 0) -ℤ pos (read_count cutoff x e)) (10 * n) before.counts)
    (before.total -ℤ mix_of (get_or before.likelihoods (2 * f) (pos 0)) (get_or before.likelihoods (2 * f + 1) (pos 0)))

-- ---- the case
-- with x as fragment f
unfoldable pub exchanged : Case → ℕ → Fragment → Case
exchanged case f x = record { variants = case.variants; fragments = set case.fragments f x; cutoff = case.cutoff }
