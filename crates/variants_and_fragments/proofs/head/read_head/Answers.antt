-- At each return the tests before it hold, and its own fails.
use Rattle.std.proofs.Common.{sym, arith, ◌∙◌}
use Rattle.variants_and_fragments.proofs.Heads.{head_short, head_variants, head_fragments, head_calls, head_cutoff, head_used, head_free, head_right, head_length, head_refused, head_done}
use Rattle.variants_and_fragments.proofs.head.read_head.Goals as goal

pub returns-then-words-lt-HEAD_WORDS-clause-outcome : goal.returns-then-words-lt-HEAD_WORDS-clause-outcome
returns-then-words-lt-HEAD_WORDS-clause-outcome c = head_refused _ 0 (head_short _ c.if-words-lt-HEAD_WORDS.true) (omega arith)

pub returns-then-sizes-gt-MAX_VARIANTS-clause-outcome : goal.returns-then-sizes-gt-MAX_VARIANTS-clause-outcome
returns-then-sizes-gt-MAX_VARIANTS-clause-outcome c =
    head_refused _ 0 (head_variants _ _ c.read_sizes-sizes.ensures c.if-words-lt-HEAD_WORDS.false c.if-sizes-gt-MAX_VARIANTS.true) (omega arith)

pub returns-then-sizes-gt-MAX_FRAGMENTS-clause-outcome : goal.returns-then-sizes-gt-MAX_FRAGMENTS-clause-outcome
returns-then-sizes-gt-MAX_FRAGMENTS-clause-outcome c =
    head_refused _ 1 (head_fragments _ _ c.read_sizes-sizes.ensures c.if-words-lt-HEAD_WORDS.false c.if-sizes-gt-MAX_VARIANTS.false c.if-sizes-gt-MAX_FRAGMENTS.true) (omega arith)

pub returns-then-sizes-gt-MAX_CALLS-clause-outcome : goal.returns-then-sizes-gt-MAX_CALLS-clause-outcome
returns-then-sizes-gt-MAX_CALLS-clause-outcome c =
    head_refused _ 2 (head_calls _ _ c.read_sizes-sizes.ensures c.if-words-lt-HEAD_WORDS.false c.if-sizes-gt-MAX_VARIANTS.false c.if-sizes-gt-MAX_FRAGMENTS.false c.if-sizes-gt-MAX_CALLS.true) (omega arith)

pub returns-then-not-cutoff_ok-clause-outcome : goal.returns-then-not-cutoff_ok-clause-outcome
returns-then-not-cutoff_ok-clause-outcome c =
    head_refused _ 3
    (head_cutoff _ _ c.read_sizes-sizes.ensures c.if-words-lt-HEAD_WORDS.false c.if-sizes-gt-MAX_VARIANTS.false c.if-sizes-gt-MAX_FRAGMENTS.false c.if-sizes-gt-MAX_CALLS.false
    (sym c.cutoff_ok.ensures ∙ c.if-not-cutoff_ok.true))
    (omega arith)

pub returns-then-sizes-clause-outcome : goal.returns-then-sizes-clause-outcome
returns-then-sizes-clause-outcome c =
    head_refused _ 4
    (head_used _ _ c.read_sizes-sizes.ensures c.if-words-lt-HEAD_WORDS.false c.if-sizes-gt-MAX_VARIANTS.false c.if-sizes-gt-MAX_FRAGMENTS.false c.if-sizes-gt-MAX_CALLS.false
    (sym c.cutoff_ok.ensures ∙ c.if-not-cutoff_ok.false) c.if-sizes.true)
    (omega arith)

pub returns-then-sizes-2-clause-outcome : goal.returns-then-sizes-2-clause-outcome
returns-then-sizes-2-clause-outcome c =
    head_refused _ 5
    (head_free _ _ c.read_sizes-sizes.ensures c.if-words-lt-HEAD_WORDS.false c.if-sizes-gt-MAX_VARIANTS.false c.if-sizes-gt-MAX_FRAGMENTS.false c.if-sizes-gt-MAX_CALLS.false
    (sym c.cutoff_ok.ensures ∙ c.if-not-cutoff_ok.false) c.if-sizes.false c.if-sizes-2.true)
    (omega arith)

pub returns-then-words-total_words-clause-outcome : goal.returns-then-words-total_words-clause-outcome
returns-then-words-total_words-clause-outcome c =
    head_refused _ 6
    (head_length _ _ c.read_sizes-sizes.ensures c.if-words-lt-HEAD_WORDS.false c.if-sizes-gt-MAX_VARIANTS.false c.if-sizes-gt-MAX_FRAGMENTS.false c.if-sizes-gt-MAX_CALLS.false
    (sym c.cutoff_ok.ensures ∙ c.if-not-cutoff_ok.false) c.if-sizes.false c.if-sizes-2.false (λ q. c.if-words-total_words.true (q ∙ sym c.total_words.ensures)))
    (omega arith)

pub returns-clause-outcome : goal.returns-clause-outcome
returns-clause-outcome c =
    head_done _ _ c.read_sizes-sizes.ensures
    (head_right _ _ c.read_sizes-sizes.ensures c.if-words-lt-HEAD_WORDS.false c.if-sizes-gt-MAX_VARIANTS.false c.if-sizes-gt-MAX_FRAGMENTS.false c.if-sizes-gt-MAX_CALLS.false
    (sym c.cutoff_ok.ensures ∙ c.if-not-cutoff_ok.false) c.if-sizes.false c.if-sizes-2.false (c.if-words-total_words.false ∙ c.total_words.ensures))
