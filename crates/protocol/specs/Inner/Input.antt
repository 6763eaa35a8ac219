-- Where the reading stands: the bytes that may still be read, the lines, and the number of a token. Assumes nothing.
use Rattle.std.specs.Prelude.{ℕ, suc, ◌+◌, ◌%◌, ◌^◌, cond, Option, Some, None, ◌==◌, List, [], ◌∷◌}
use Rattle.protocol.specs.declared.input.Place.{Place}
use Rattle.protocol.specs.declared.input.Reason.{Reason}
use Rattle.protocol.specs.declared.input.Reason.TheVariants.{Request, Number, Length, End}
use Rattle.protocol.specs.declared.input.Unreadable.{Unreadable}

-- the bytes that may still be read after a byte and one more, or 0 at the end
abbrev pub ahead : Option ℕ → ℕ → ℕ
ahead None left = 0
ahead (Some b) left = suc left

-- the line of the byte after the byte b of a line: a line feed (10) ends its line
abbrev pub line_after : ℕ → ℕ → ℕ
line_after line b = cond (b == 10) ((line + 1) % 2 ^ 64) line

-- the same after a byte or the end of the input, which ends no line
abbrev pub line_below : ℕ → Option ℕ → ℕ
line_below line None = line
line_below line (Some b) = line_after line b

-- the number of the next token in its request
abbrev pub next_token : ℕ → ℕ
next_token token = (token + 1) % 2 ^ 64

-- the place after the token of this number and line, which the byte `ended` ended, or the end of the input
abbrev pub after_token : ℕ → ℕ → Option ℕ → Place
after_token token line ended = record { line = line; below = line_below line ended; token = token }

-- the token at a place, which cannot be read
abbrev pub unreadable_at : Place → Reason → Unreadable
unreadable_at p reason = record { line = p.line; token = p.token; reason = reason }

-- the word of a reason: request, number, length, end
unfoldable pub reason_text : Reason → List ℕ
reason_text Request = 114 ∷ 101 ∷ 113 ∷ 117 ∷ 101 ∷ 115 ∷ 116 ∷ []
reason_text Number = 110 ∷ 117 ∷ 109 ∷ 98 ∷ 101 ∷ 114 ∷ []
reason_text Length = 108 ∷ 101 ∷ 110 ∷ 103 ∷ 116 ∷ 104 ∷ []
reason_text End = 101 ∷ 110 ∷ 100 ∷ []
