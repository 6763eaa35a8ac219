-- What a token's bytes make of a state or a word that takes them one by one. By induction on the bytes. Assumes nothing.
use Rattle.std.proofs.Common.{◌≡◌, ℕ, ◌<◌, List, length, [], ◌∷◌, Option, Some, None, Result, IfSome, IfOk, ok_or, sym, ap, ◌∙◌}
use Rattle.std.specs.List.{FoldsTo}
use Rattle.protocol.specs.Text.{Reading, int_of}
use Rattle.protocol.specs.Inner.State.{start, pushed_on, pushed_all}
use Rattle.protocol.specs.Inner.Reads.{read_by, Reads}
use Rattle.protocol.specs.Inner.Word.{pushed_word, pushed_bytes, word_of}
use Rattle.protocol.specs.declared.number.Number.{Number}

pub number_folds : {R : Option Number → ℕ → Option Number → Type 0} → ((s : Option Number) (b : ℕ) (t : Option Number) → R s b t → t ≡ pushed_on s b) → (s : Option Number) (bs : List ℕ) (t : Option Number) → FoldsTo R s bs t → t ≡ pushed_all s bs
unfolding pushed_all
number_folds steps s [] t h = sym h
number_folds steps s (b ∷ bs) t (j, r, rest) =
    number_folds steps j bs t rest ∙ ap (λ (k : Option Number). pushed_all k bs) (steps s b j r)

word_folds : {W : Type 0} (bytes : W → List ℕ) {R : W → ℕ → W → Type 0} → ((w : W) (b : ℕ) (v : W) → R w b v → bytes v ≡ pushed_word (bytes w) b) → (w : W) (bs : List ℕ) (v : W) → FoldsTo R w bs v → bytes v ≡ pushed_bytes (bytes w) bs
unfolding pushed_bytes
word_folds bytes steps w [] v h = ap bytes (sym h)
word_folds bytes steps w (b ∷ bs) v (j, r, rest) =
    word_folds bytes steps j bs v rest ∙ ap (λ (k : List ℕ). pushed_bytes k bs) (steps w b j r)

-- A word of a token's bytes, if there is a token.
pub word_read : {W : Type 0} (bytes : W → List ℕ) {R : W → ℕ → W → Type 0} → ((w : W) (b : ℕ) (v : W) → R w b v → bytes v ≡ pushed_word (bytes w) b) → (empty : W) → bytes empty ≡ [] → (o : Option W) → IfSome o (λ w. (t : List ℕ) × (0 < length t) × FoldsTo R empty t w) → IfSome o (λ w. (t : List ℕ) × (0 < length t) × (bytes w ≡ word_of t))
unfolding word_of
word_read bytes steps empty bare None h = tt
word_read bytes steps empty bare (Some w) h =
    (h.0, h.1, word_folds bytes steps empty h.0 w h.2 ∙ ap (λ (k : List ℕ). pushed_bytes k h.0) bare)

-- A state that reads as a value, and the bytes that led to it.
pub value_read : {A E : Type 0} (in_state : Number → Option A) (of_reading : Reading → Option A) → ((t : List ℕ) → Reads in_state of_reading t) → (bs : List ℕ) (s : Number) → Some s ≡ pushed_all (Some start) bs → (o : Option A) → o ≡ in_state s → (e : E) (r : Result A E) → r ≡ ok_or o e → IfOk r (λ x. (t : List ℕ) × (of_reading (int_of t) ≡ Some x))
unfolding read_by
value_read in_state of_reading reads bs s folds None is e r found = rw found tt
value_read in_state of_reading reads bs s folds (Some x) is e r found =
    rw found (bs, sym (reads bs) ∙ rw (← folds) (sym is))
