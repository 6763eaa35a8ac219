-- A loop that puts bytes piece by piece: what is put, and what is left to put, make the whole.
-- Assumes nothing.
use mathlib.Core.Path.{◌≡◌, sym, ap, ◌∙◌}
use mathlib.Core.List.{List, [], ◌++◌, append_assoc, append-nil}
use Prim.Native.Nat.{ℕ, ◌+◌, ◌≤◌}
use native.Mathlib.Omega.{arith}
use lib.ListN.{length, length-append}
use Rattle.haplotype_assembly.specs.Inner.LinesRead.{Put}
use Rattle.haplotype_assembly.proofs.Stores.{put_on, put_as, put_length}

pub record Gathered (whole left before after : List ℕ) (at end : ℕ) : Type 0 where
  pub done : List ℕ
  pub whole_is : done ++ left ≡ whole
  pub put : Put before after at end done

module _ {whole left before after : List ℕ} {at end : ℕ} (g : Gathered whole left before after at end) where
  pub gather_length : length after ≡ length before
  gather_length = put_length g.put

  pub gather_end : left ≡ [] → Put before after at end whole
  gather_end e = put_as (sym (append-nil g.done) ∙ ap (λ (x : List ℕ). g.done ++ x) (sym e) ∙ g.whole_is) g.put

  module _ (piece rest : List ℕ) (e : left ≡ piece ++ rest) where
    -- there is room for the next piece
    pub gather_room : at + length whole ≤ length before → end + length piece ≤ length after
    gather_room h = omega (arith, g.put.end_is, gather_length, ap length g.whole_is, length-append g.done left, ap length e, length-append piece rest)

    pub gather_on : {last : List ℕ} {end2 : ℕ} → Put after last end end2 piece → Gathered whole rest before last at end2
    gather_on p = record {
      done = g.done ++ piece;
      whole_is = append_assoc g.done piece rest ∙ ap (λ (x : List ℕ). g.done ++ x) (sym e) ∙ g.whole_is;
      put = put_on g.put p;
    }
