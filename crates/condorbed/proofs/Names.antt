-- The word of a token, its first seven bytes, asks for what the token asks for: every request's word is shorter.
-- By induction on the rows of the table. Assumes nothing.
use Rattle.std.proofs.Common.{◌≡◌, ℕ, zero, suc, ◌<◌, Bool, true, false, ◌&&◌, eqb, ltb, List, [], ◌∷◌, length, take, Err, refl, ap, ◌∙◌, arith, ltb-true, eqb-true}
use mathlib.Core.Bool.{false≢true}
use Rattle.std.specs.Str.{IsUtf8, IsAscii}
use Rattle.std.proofs.lemmas.Str.{IsUtf8-from_ascii}
use Rattle.std.proofs.lemmas.Str.Ascii.{IsAscii-nil, IsAscii-cons}
use Rattle.protocol.proofs.Digits.{both}
use Rattle.protocol.specs.Inner.Word.{word_of}
use Rattle.protocol.proofs.Words.{word_front}
use Rattle.condorbed.specs.Requests.{Row, requests, found, same_bytes, asked_by}
use Rattle.protocol.specs.declared.input.Reason.TheVariants.{Request}

-- At a name that is shorter than seven bytes both tests say the same.
same_take : (n : ℕ) (t u : List ℕ) → length u < n → same_bytes (take n t) u ≡ same_bytes t u
unfolding same_bytes
same_take zero t u h = absurd (omega (arith, h))
same_take (suc n) [] u h = refl
same_take (suc n) (x ∷ t) [] h = refl
same_take (suc n) (x ∷ t) (y ∷ u) h = ap (λ (b : Bool). eqb x y && b) (same_take n t u (omega (arith, h)))

all_short : List Row → Bool
all_short [] = true
all_short (r ∷ rs) = ltb (length r.name) 7 && all_short rs

requests_short : all_short requests ≡ true
unfolding all_short requests
requests_short = refl

rows_same : (t : List ℕ) (rs : List Row) → all_short rs ≡ true → found (same_bytes (take 7 t)) rs ≡ found (same_bytes t) rs
unfolding found all_short
rows_same t [] h = refl
rows_same t (r ∷ rs) h =
    let parts = both (ltb (length r.name) 7) (all_short rs) h in
    simp (same_take 7 t r.name (ltb-true (length r.name) 7 parts.0), rows_same t rs parts.1)

-- The law.
pub word_finds : (t : List ℕ) → asked_by (word_of t) ≡ asked_by t
unfolding asked_by
word_finds t =
    ap (λ (w : List ℕ). found (same_bytes w) requests) (word_front t) ∙ rows_same t requests requests_short

-- A word that is no row's name finds none.
same_true : (t u : List ℕ) → same_bytes t u ≡ true → t ≡ u
unfolding same_bytes
same_true [] [] h = refl
same_true [] (y ∷ u) h = absurd (false≢true h)
same_true (x ∷ t) [] h = absurd (false≢true h)
same_true (x ∷ t) (y ∷ u) h =
    let parts = both (eqb x y) (same_bytes t u) h in
    let first : x ≡ y = eqb-true x y parts.0 in
    let rest : t ≡ u = same_true t u parts.1 in cc

differs : (t u : List ℕ) → (t ≡ u → ⊥) → (b : Bool) → same_bytes t u ≡ b → b ≡ false
differs t u h true e = absurd (h (same_true t u e))
differs t u h false e = refl

missed : (t : List ℕ) (r : Row) (rs : List Row) → (t ≡ r.name → ⊥) → Err Request ≡ found (same_bytes t) rs → Err Request ≡ found (same_bytes t) (r ∷ rs)
unfolding found
missed t r rs h later = simp (differs t r.name h (same_bytes t r.name) refl) later

-- That a word is no row's name, told row by row as a `match` tells it of its arms; before them stands `told`.
unfoldable pub NoneOf : List ℕ → List Row → Type 0 → Type 0
NoneOf word [] told = told
NoneOf word (r ∷ rs) told = NoneOf word rs (told × (word ≡ r.name → ⊥))

none_found : (word : List ℕ) (rs : List Row) {told : Type 0} → NoneOf word rs told → told × (Err Request ≡ found (same_bytes word) rs)
unfolding NoneOf found
none_found word [] others = (others, refl)
none_found word (r ∷ rs) others =
    let later = none_found word rs others in (later.0.0, missed word r rs later.0.1 later.1)

pub unknown : (word : List ℕ) → NoneOf word requests (Unit {0}) → Err Request ≡ asked_by word
unfolding asked_by
unknown word others = (none_found word requests others).1

-- Every row's name is ASCII, so that bytes that are no text find no row.
all_ascii : List ℕ → Bool
all_ascii [] = true
all_ascii (b ∷ bs) = ltb b 128 && all_ascii bs

ascii_text : (t : List ℕ) → all_ascii t ≡ true → IsAscii t
unfolding all_ascii
ascii_text [] h = IsAscii-nil
ascii_text (b ∷ bs) h =
    let parts = both (ltb b 128) (all_ascii bs) h in IsAscii-cons b bs (ltb-true b 128 parts.0) (ascii_text bs parts.1)

all_text : List Row → Bool
all_text [] = true
all_text (r ∷ rs) = all_ascii r.name && all_text rs

requests_text : all_text requests ≡ true
unfolding all_text all_ascii requests
requests_text = refl

text_missed : (t : List ℕ) → (IsUtf8 t → ⊥) → (rs : List Row) → all_text rs ≡ true → Err Request ≡ found (same_bytes t) rs
unfolding found all_text
text_missed t h [] a = refl
text_missed t h (r ∷ rs) a =
    let parts = both (all_ascii r.name) (all_text rs) a in
    missed t r rs (λ e. h (rw e (IsUtf8-from_ascii r.name (ascii_text r.name parts.0)))) (text_missed t h rs parts.1)

pub no_text : (t : List ℕ) → (IsUtf8 t → ⊥) → Err Request ≡ asked_by t
unfolding asked_by
no_text t h = text_missed t h requests requests_text
