-- A token's word is its first seven bytes, so that a shorter word has all bytes of its token. By induction on the bytes. Assumes nothing.
use Rattle.std.proofs.Common.{◌≡◌, ℕ, zero, suc, ◌+◌, ◌<◌, List, [], ◌∷◌, ◌++◌, length, take, sym, refl, ap, ◌∙◌, arith, append_assoc, append-nil, length-append, lt-ltb, le-ltb}
use Rattle.protocol.specs.Inner.Word.{pushed_bytes, word_of}

-- A word of k bytes fewer than seven takes the next k bytes.
pushed_take : (k : ℕ) (t w : List ℕ) → length w + k ≡ 7 → pushed_bytes w t ≡ w ++ take k t
unfolding pushed_bytes
pushed_take zero [] w e = sym (append-nil w)
pushed_take (suc k) [] w e = sym (append-nil w)
pushed_take zero (b ∷ t) w e = simp (le-ltb (length w) 7 (omega arith), pushed_take zero t w e)
pushed_take (suc k) (b ∷ t) w e =
    let long : length (w ++ (b ∷ [])) + k ≡ 7 = omega (arith, length-append w (b ∷ [])) in
    simp (lt-ltb (length w) 7 (omega arith), pushed_take k t (w ++ (b ∷ [])) long, append_assoc)

pub word_front : (t : List ℕ) → word_of t ≡ take 7 t
unfolding word_of
word_front t = pushed_take 7 t [] refl

short_front : (n : ℕ) (t : List ℕ) → length (take n t) < n → take n t ≡ t
short_front zero t h = absurd (omega (arith, h))
short_front (suc n) [] h = refl
short_front (suc n) (x ∷ t) h = ap (λ (r : List ℕ). x ∷ r) (short_front n t (omega (arith, h)))

whole : (t : List ℕ) → length (word_of t) < 7 → word_of t ≡ t
whole t h = word_front t ∙ short_front 7 t (rw (← word_front t) h)

-- The law: tokens with the same short word have the same bytes.
pub word_same : (t u : List ℕ) → length (word_of u) < 7 → word_of t ≡ word_of u → t ≡ u
word_same t u h e = sym (whole t (rw e h)) ∙ e ∙ whole u h
