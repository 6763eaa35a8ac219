-- The rows of a group, as a slice of its own, are those at its place. Assumes nothing.
use mathlib.Core.Path.{◌≡◌, refl, ap, ◌∙◌}
use mathlib.Core.List.{List}
use Prim.Native.Nat.{ℕ, zero, suc, ◌+◌, ◌-◌, ◌<◌}
use native.Mathlib.Nat.{sub-zero}
use native.Mathlib.Omega.{arith}
use lib.ListN.{length, get_or, drop}
use Rattle.std.proofs.lemmas.List.{length-drop, length-take-le, get_or-take, get_or-drop}
use Rattle.variants_and_fragments.specs.Decode.{tabulate_from}
use Rattle.pileup.specs.Inner.Packed.{unpacked, row_at, rows_at, group_start, group_words, GroupThere}

-- two tables with the same elements
same_table : {X : Type 0} (g h : ℕ → X) (a b n : ℕ) → ((j : ℕ) → j < n → g (a + j) ≡ h (b + j)) → tabulate_from g a n ≡ tabulate_from h b n
unfolding tabulate_from
same_table g h a b zero e = refl
same_table g h a b (suc n) e =
    let x : a + 0 ≡ a = omega arith in
    let y : b + 0 ≡ b = omega arith in
    let first : g a ≡ h b = rw (x, y) at (e 0 (omega arith)) in
    let rest = same_table g h (suc a) (suc b) n (λ j l. let u : a + suc j ≡ suc a + j = omega arith in let v : b + suc j ≡ suc b + j = omega arith in rw (u, v) at (e (suc j) (omega arith))) in
    rw (first, rest)

module _ {ends words : List ℕ} {g : ℕ} (t : GroupThere ends words g) where
  abbrev a : ℕ
  a = group_start ends g

  abbrev n : ℕ
  n = get_or ends g 0 - a

  abbrev part : List ℕ
  part = group_words ends words g

  pub part_length : length part ≡ n
  part_length = length-take-le n (drop a words) (omega (arith, length-drop a words, t.long))

  pub part_row : (j : ℕ) → j < n → row_at part j ≡ row_at words (a + j)
  part_row j l = ap unpacked (get_or-take n (drop a words) j 0 l ∙ get_or-drop a words j 0)

  pub part_rows : rows_at part 0 (length part) ≡ rows_at words a (get_or ends g 0)
  part_rows = rw (part_length, sub-zero) (same_table (row_at part) (row_at words) 0 a n (λ j l. let z : 0 + j ≡ j = omega arith in rw z (part_row j l)))
