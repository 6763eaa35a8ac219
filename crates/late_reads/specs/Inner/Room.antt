-- Request 3: the records that an arrival takes, one after the other. What is left, its first record, and what is left once that is taken. Assumes nothing.
use Rattle.std.specs.Prelude.{cond, List, ℕ, ◌+◌, ◌-◌, eqb, ℤ, length, get_or}
use Rattle.variants_and_fragments.specs.declared.Sizes.{Sizes}
use Rattle.variants_and_fragments.specs.Chain.{next_call_at, free_chain}
use Rattle.late_reads.specs.declared.words.RoomLeft.{RoomLeft}

-- the first free record, else the first of the unused tail
unfoldable pub front_of : RoomLeft → ℕ
front_of left = cond (eqb left.free 0) (left.used + 1) left.free

-- what is left once that one is taken
unfoldable pub rest_of : List ℤ → Sizes → RoomLeft → RoomLeft
rest_of w s left = cond (eqb left.free 0) (record { free = 0; used = left.used + 1 }) (record { free = next_call_at w s left.free; used = left.used })

-- what is left of a case's records once i of them are taken
unfoldable pub left_at : List ℤ → Sizes → ℕ → RoomLeft
left_at w s i = record { free = get_or (free_chain w s) i 0; used = s.used + (i - length (free_chain w s)) }
