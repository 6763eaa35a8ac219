-- A request's word: the first bytes of its token, one more than a request's word has at most. Assumes nothing.
use Rattle.std.specs.Prelude.{ℕ, cond, List, [], ◌∷◌, ◌++◌, length, nat_lt}

-- a word with the byte b after it, up to seven bytes
abbrev pub pushed_word : List ℕ → ℕ → List ℕ
pushed_word word b = cond (nat_lt (length word) 7) (word ++ (b ∷ [])) word

unfoldable pub pushed_bytes : List ℕ → List ℕ → List ℕ
pushed_bytes word [] = word
pushed_bytes word (b ∷ bs) = pushed_bytes (pushed_word word b) bs

-- the word of a token
unfoldable pub word_of : List ℕ → List ℕ
word_of bytes = pushed_bytes [] bytes
