-- 01, section 4, as the code goes about it: the piles that the calls are read from.
-- Assumes nothing.
use Rattle.std.specs.Prelude.{◌≡◌, List, map, ℕ, ◌≤◌, ◌<◌, ℤ, length, get_or}
use Rattle.variants_and_fragments.specs.declared.Sizes.{Sizes}
use Rattle.variants_and_fragments.specs.Decode.{decode}
use Rattle.variants_and_fragments.specs.Pileup.{pile_of, ambiguous_count}
use Rattle.pileup.specs.Inner.Packed.{RowIn, unpacked, group_start, group_words}

-- the words of the usable calls at variant v, and how many calls there are ambiguous
pub record CallsHeld (w : List ℤ) (s : Sizes) (v : ℕ) (usable : List ℕ) (ambiguous : ℕ) : Type 0 where
  pub variant_in : v < s.n
  pub few : length usable ≤ 16384
  pub rows_are : (b : List ℕ) → map unpacked usable ≡ pile_of (decode w b) v
  pub rows_in : (i : ℕ) → i < length usable → RowIn s.n s.f (unpacked (get_or usable i 0))
  pub ambiguous_is : (b : List ℕ) → ambiguous ≡ ambiguous_count (decode w b) v
  pub ambiguous_few : ambiguous ≤ 16384

-- the usable calls of a case, variant after variant, and how many calls at each variant are ambiguous
pub record Piled (w : List ℤ) (s : Sizes) (ambiguous ends piles : List ℕ) : Type 0 where
  pub ends_long : s.n ≤ length ends
  pub ambiguous_long : s.n ≤ length ambiguous
  pub rises : (v : ℕ) → v < s.n → group_start ends v ≤ get_or ends v 0
  pub words_long : (v : ℕ) → v < s.n → get_or ends v 0 ≤ length piles
  pub held : (v : ℕ) → v < s.n → CallsHeld w s v (group_words ends piles v) (get_or ambiguous v 0)
