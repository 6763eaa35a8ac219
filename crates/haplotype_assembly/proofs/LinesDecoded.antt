-- The lines read off the rows of an accepted case are those that section 7 says of the decoded case: the rows of a fragment are its usable
-- calls, and those at variants under the phased rule are the calls of its line.
-- Assumes nothing.
use mathlib.Core.Path.{◌≡◌, refl, sym, ap, ◌∙◌}
use mathlib.Core.Bool.{Bool, true, false, cond, ◌&&◌, and-true, and-false}
use mathlib.Core.List.{List, [], ◌∷◌, ◌++◌, map, append_assoc}
use Prim.Native.Nat.{ℕ, zero, suc, ◌+◌, ◌≤◌, ◌<◌}
use native.Mathlib.Omega.{arith}
use native.Mathlib.Numerals.{add-one}
use lib.IntN.{ℤ}
use lib.ListN.{length}
use lib.Seq.{sets, sets-eq}
use Rattle.variants_and_fragments.specs.declared.Sizes.{Sizes}
use Rattle.variants_and_fragments.specs.Refusals.{done}
use Rattle.variants_and_fragments.specs.Check.{check_case_outcome}
use Rattle.variants_and_fragments.specs.Chain.{strand_at}
use Rattle.variants_and_fragments.specs.Case.{Case, Fragment, Call, usable, variant_of, fragment_of}
use Rattle.variants_and_fragments.specs.Inner.Case.{All, also}
use Rattle.variants_and_fragments.specs.Pileup.{Row, row_of, only, usable_calls}
use Rattle.variants_and_fragments.specs.Inner.Pileup.{fragment_rows}
use Rattle.variants_and_fragments.specs.Decode.{tabulate_from, tabulate, fragment_from, decode}
use Rattle.pileup.specs.Inner.Packed.{RowIn, Grouped}
use Rattle.haplotype_assembly.specs.declared.Counted.{Counted}
use Rattle.haplotype_assembly.specs.Phase.{phased_rule}
use Rattle.haplotype_assembly.specs.Lines.{line_calls, line_of, has_line, lines_from, line_count, flist_buffer, flist_lines}
use Rattle.haplotype_assembly.specs.FlistBuffer.{Amount, amount_of, generate_flist_buffer_written}
use Rattle.haplotype_assembly.specs.Inner.LinesRead.{shown_calls, shown_fragment, shown_fragments, LinesGiven, LinesCounted, header_of, line_with, head_at, fragment_line, has_one, lines_over, lines_count}
use Rattle.haplotype_assembly.proofs.Cited.{fragment_here, sizes_are, group_rows, group_in}
use Rattle.haplotype_assembly.proofs.Decodes.{accepted_in, count_is, rule_is}

-- where the rows of fragments stand
pub given : (s : Sizes) {group : ℕ → List Row} {rows ends : List ℕ} → s.n ≤ 1024 → s.f ≤ 4096 → Grouped s.n s.f s.f group ends rows → LinesGiven s rows ends
given s n_top f_top grouped = record { ends_long = grouped.ends_long; rows_in = λ f l. group_in grouped n_top f_top f l }

module _ (w : List ℤ) (b : List ℕ) (s : Sizes) (h : check_case_outcome w b ≡ done s) (rows ends : List ℕ) (grouped : Grouped s.n s.f s.f (fragment_rows (decode w b)) ends rows) where
  abbrev case : Case
  case = decode w b

  abbrev group : ℕ → List Row
  group f = fragment_rows case f

  -- ---- the calls of a line
  abbrev picks : Fragment → Call → Bool
  picks x call = phased_rule (variant_of case call.variant) && usable case.cutoff x call

  abbrev rows_for : ℕ → Fragment → List Call → List Row
  rows_for f x calls = map (row_of f) (only (usable case.cutoff x) calls)

  -- the rule holds of a row's variant as it does of the decoded one, so what is shown of the rows of usable calls is what is picked of all
  picked : (f : ℕ) (x : Fragment) (calls : List Call) → All (RowIn s.n s.f) (rows_for f x calls) → shown_calls w (rows_for f x calls) ≡ only (picks x) calls
  unfolding only shown_calls
  picked f x [] a = refl
  picked f x (call ∷ calls) a = go (usable case.cutoff x call) a (picked f x calls)
    where
      rule : Bool
      rule = phased_rule (variant_of case call.variant)

      go : (t : Bool) → All (RowIn s.n s.f) (map (row_of f) (cond t (call ∷ only (usable case.cutoff x) calls) (only (usable case.cutoff x) calls)))
          → (All (RowIn s.n s.f) (rows_for f x calls) → shown_calls w (rows_for f x calls) ≡ only (picks x) calls)
          → shown_calls w (map (row_of f) (cond t (call ∷ only (usable case.cutoff x) calls) (only (usable case.cutoff x) calls))) ≡ cond (rule && t) (call ∷ only (picks x) calls) (only (picks x) calls)
      go true (also i is) rec = rw (and-true, rule_is w b s h call.variant i.variant_in, rec is)
      go false is rec = rw and-false (rec is)

  module _ (f : ℕ) (l : f < s.f) where
    calls_shown : (shown_fragment w s rows ends f).calls ≡ line_calls case (fragment_from w s f)
    unfolding line_calls fragment_rows usable_calls
    calls_shown =
        let k = accepted_in w b s h in
        ap (shown_calls w) (group_rows grouped k.sized.n_top k.sized.f_top f l)
        ∙ picked f (fragment_of case f) (fragment_of case f).calls (grouped.rows_in f l)
        ∙ rw (fragment_here k b f l)

    strand_same : (fragment_from w s f).strand ≡ strand_at w s f
    unfolding fragment_from
    strand_same = refl

    line_same : (id : ℕ) → line_with s.n (head_at s.n id (shown_fragment w s rows ends f)) (shown_fragment w s rows ends f).calls ≡ line_of case id (fragment_from w s f)
    unfolding line_with header_of line_of
    line_same id = rw (count_is w b s h, calls_shown, strand_same) (simp append_assoc)

  -- ---- all fragments from f on
  lines_same : (single : Bool) (n id f : ℕ) → f + n ≤ s.f → lines_over s.n single id (tabulate_from (shown_fragment w s rows ends) f n) ≡ lines_from case single id (tabulate_from (fragment_from w s) f n)
  unfolding lines_over lines_from tabulate_from fragment_line has_one
  lines_same single zero id f l = refl
  lines_same single (suc n) id f l =
      rw (line_same f (omega arith) id, calls_shown f (omega arith))
      (go (has_line single (length (line_calls case (fragment_from w s f)))) (λ i. lines_same single n i (suc f) (omega arith)))
    where
      go : (t : Bool) → ((i : ℕ) → lines_over s.n single i (tabulate_from (shown_fragment w s rows ends) (suc f) n) ≡ lines_from case single i (tabulate_from (fragment_from w s) (suc f) n))
          → cond t (line_of case id (fragment_from w s f)) [] ++ lines_over s.n single (id + cond t 1 0) (tabulate_from (shown_fragment w s rows ends) (suc f) n) ≡ cond t (line_of case id (fragment_from w s f) ++ lines_from case single (suc id) (tabulate_from (fragment_from w s) (suc f) n)) (lines_from case single id (tabulate_from (fragment_from w s) (suc f) n))
      go true rec = rw (add-one id, rec (suc id))
      go false rec = let e : id + 0 ≡ id = omega arith in rw (e, rec id)

  counts_same : (single : Bool) (n f : ℕ) → f + n ≤ s.f → lines_count single (tabulate_from (shown_fragment w s rows ends) f n) ≡ line_count case single (tabulate_from (fragment_from w s) f n)
  unfolding lines_count line_count tabulate_from has_one
  counts_same single zero f l = refl
  counts_same single (suc n) f l = rw (calls_shown f (omega arith), counts_same single n (suc f) (omega arith))

  fragments_are : case.fragments ≡ tabulate s.f (fragment_from w s)
  unfolding decode
  fragments_are = ap (λ (t : Sizes). tabulate t.f (fragment_from w t)) (sizes_are (accepted_in w b s h))

  buffer_is : (single : Bool) → lines_over s.n single 0 (shown_fragments w s rows ends) ≡ flist_buffer case single
  unfolding flist_buffer
  buffer_is single = lines_same single s.f 0 0 (omega arith) ∙ ap (lines_from case single 0) (sym fragments_are)

  lines_are : (single : Bool) → lines_count single (shown_fragments w s rows ends) ≡ flist_lines case single
  unfolding flist_lines
  lines_are single = counts_same single s.f 0 (omega arith) ∙ ap (line_count case single) (sym fragments_are)

  -- ---- what is counted, and what is written
  module _ (single : Bool) where
    pub bytes_are : (c : Counted) → LinesCounted s.n single (shown_fragments w s rows ends) c → c.bytes ≡ length (flist_buffer case single)
    bytes_are c counted = counted.bytes_are ∙ ap length (buffer_is single)

    pub amount_is : (c : Counted) → LinesCounted s.n single (shown_fragments w s rows ends) c → ◌≡◌ {A = Amount} (record { bytes = c.bytes; lines = c.lines }) (amount_of case single)
    amount_is c counted = rw (bytes_are c counted, counted.lines_are ∙ lines_are single)

    pub buffer_written : (before : List ℕ) → length (flist_buffer case single) ≤ length before → sets before 0 (lines_over s.n single 0 (shown_fragments w s rows ends)) ≡ generate_flist_buffer_written case single before
    unfolding generate_flist_buffer_written
    buffer_written before h =
        let bytes = flist_buffer case single in
        let e : 0 + length bytes ≡ length bytes = omega arith in
        ap (λ (y : List ℕ). sets before 0 y) (buffer_is single) ∙ sets-eq bytes before 0 (omega arith) ∙ rw e
