-- `decode` gives back every case whose variants have at most three alleles and whose absent fragments have no calls from the words and bases that `encode` makes of it. A reader stands
-- before the records that are still to be read: what is left of the words from its place on begins with them. Assumes nothing.
use mathlib.Core.Path.{◌≡◌, refl, sym, ap, subst, ◌∙◌}
use mathlib.Core.Bool.{Bool, true, false, cond}
use mathlib.Core.List.{List, [], ◌∷◌, ◌++◌, append_assoc, append-nil, map}
use Prim.Native.Nat.{ℕ, zero, suc, ◌+◌, ◌*◌, ◌≤◌, ◌<◌}
use native.Mathlib.Omega.{arith}
use borrow.Author.Tests.{le-leb}
use lib.IntN.{ℤ, pos, negsuc}
use lib.Signed.{le_z}
use lib.ListN.{length, get_or, drop, length-append, get_or-append, length-set, length-replicate}
use lib.Seq.{get_or-drop, drop-drop, drop_at, take-append_seam}
use Rattle.variants_and_fragments.specs.declared.Sizes.{Sizes}
use Rattle.variants_and_fragments.specs.Sums.{count_over}
use Rattle.variants_and_fragments.specs.Words.{word, nat_of, none}
use Rattle.variants_and_fragments.specs.Case.{Case, Variant, Fragment, Call, allele_count, allele_of, variant_of, no_variant, call_count}
use Rattle.variants_and_fragments.specs.Inner.Case.{All, end, also}
use Rattle.variants_and_fragments.specs.Layout.{head_words, variant_words, fragment_words, call_words, pos0_field, depth_field, genotype_field, allele_count_field, length_field, first_field, strand_field, variant_field, allele_field, qual_field, one_minus_qual_field, next_field, sizes_of, variant_at, fragment_at, call_at, length_at, next_call_at}
use Rattle.variants_and_fragments.specs.Chain.{present_at, is_record, chain_from, chain_of}
use Rattle.variants_and_fragments.specs.Alleles.{alleles_start}
use Rattle.variants_and_fragments.specs.Decode.{tabulate_from, allele_start, allele_at, variant_from, call_from, fragment_from, decode}
use Rattle.variants_and_fragments.specs.Encode.{laid, joined, head_of, lengths_from, variant_record, first_of, first_word, fragment_records, call_records, chain_records, encode_words, encode_bases}
use Rattle.variants_and_fragments.proofs.Alls.{at_all}
use Rattle.variants_and_fragments.proofs.Chain.{none_chain}

-- ---- what stands at a place, and what is left behind it
module _ {X : Type 0} (w : List X) (n : ℕ) (xs rest : List X) (left : drop n w ≡ xs ++ rest) where
  here : (d : X) (p : ℕ) → p < length xs → get_or w (n + p) d ≡ get_or xs p d
  here d p h = sym (get_or-drop n w p d) ∙ ap (λ (l : List X). get_or l p d) left ∙ get_or-append xs rest d p h

  behind : (m : ℕ) → length xs ≡ m → drop (n + m) w ≡ rest
  behind m l = sym (drop-drop m n w) ∙ ap (drop m) left ∙ drop_at xs rest m l

same_cons : {X : Type 0} {x y : X} {xs ys : List X} → x ≡ y → xs ≡ ys → x ∷ xs ≡ y ∷ ys
same_cons e f = rw (e, f)

-- ---- the alleles of a variant
module _ (w : List ℤ) (b : List ℕ) (i : ℕ) where
  allele_back : (j : ℕ) (a rest : List ℕ) → length_at w i j ≡ length a → drop (allele_start w i j) b ≡ a ++ rest → allele_at w b i j ≡ a
  unfolding allele_at
  allele_back j a rest l f = rw (l, f) (take-append_seam a rest)

  allele_behind : (j : ℕ) (a rest : List ℕ) → length_at w i j ≡ length a → drop (allele_start w i j) b ≡ a ++ rest → drop (allele_start w i (suc j)) b ≡ rest
  unfolding allele_start
  allele_behind j a rest l f = behind b (allele_start w i j) a rest f (length_at w i j) (sym l)

  alleles_back : (j : ℕ) (xs : List (List ℕ)) (rest : List ℕ) → ((k : ℕ) → k < length xs → length_at w i (j + k) ≡ length (get_or xs k [])) → drop (allele_start w i j) b ≡ joined xs ++ rest → tabulate_from (allele_at w b i) j (length xs) ≡ xs
  unfolding tabulate_from joined
  alleles_back j [] rest lens e = refl
  alleles_back j (a ∷ xs) rest lens e =
      let z : j + 0 ≡ j = omega arith in
      let l : length_at w i j ≡ length a = subst (λ (m : ℕ). length_at w i m ≡ length a) z (lens 0 (omega arith)) in
      let f : drop (allele_start w i j) b ≡ a ++ (joined xs ++ rest) = e ∙ append_assoc a (joined xs) rest in
      same_cons (allele_back j a (joined xs ++ rest) l f)
      (alleles_back (suc j) xs rest
      (λ k h. let y : j + suc k ≡ suc j + k = omega arith in subst (λ (m : ℕ). length_at w i m ≡ length (get_or xs k [])) y (lens (suc k) (omega arith)))
      (allele_behind j a (joined xs ++ rest) l f))

-- ---- a variant
laid_long : (n : ℕ) (fields : List (ℕ × ℤ)) → length (laid n fields) ≡ n
unfolding laid
laid_long n [] = length-replicate n (pos 0)
laid_long n (field ∷ fields) = length-set (laid n fields) field.0 field.1 ∙ laid_long n fields

-- the fields of v, with these alleles
abbrev variant_fields : Variant → List (List ℕ) → List (ℕ × ℤ)
variant_fields v xs =
    (pos0_field, pos v.pos0)
    ∷ (depth_field, pos v.dp)
    ∷ (genotype_field, pos v.genotype0)
    ∷ (suc genotype_field, pos v.genotype1)
    ∷ (allele_count_field, pos (length xs))
    ∷ lengths_from length_field xs

variant_long : (v : Variant) → length (variant_record v) ≡ variant_words
unfolding variant_record
variant_long v = laid_long variant_words (variant_fields v v.alleles)

-- what stands in the record of v, with these alleles
record Holds (v : Variant) (xs : List (List ℕ)) (l : List ℤ) : Type 0 where
  pos0_held : get_or l pos0_field (pos 0) ≡ pos v.pos0
  depth_held : get_or l depth_field (pos 0) ≡ pos v.dp
  genotype0_held : get_or l (genotype_field + 0) (pos 0) ≡ pos v.genotype0
  genotype1_held : get_or l (genotype_field + 1) (pos 0) ≡ pos v.genotype1
  count_held : get_or l allele_count_field (pos 0) ≡ pos (length xs)
  length0_held : get_or l (length_field + 0) (pos 0) ≡ pos (length (get_or xs 0 []))
  length1_held : get_or l (length_field + 1) (pos 0) ≡ pos (length (get_or xs 1 []))
  length2_held : get_or l (length_field + 2) (pos 0) ≡ pos (length (get_or xs 2 []))

variant_holds : (v : Variant) → allele_count v ≤ 3 → Holds v v.alleles (variant_record v)
unfolding variant_record laid lengths_from
variant_holds v h = go v.alleles h
  where
    go : (xs : List (List ℕ)) → length xs ≤ 3 → Holds v xs (laid variant_words (variant_fields v xs))
    go [] h = record { pos0_held = refl; depth_held = refl; genotype0_held = refl; genotype1_held = refl; count_held = refl; length0_held = refl; length1_held = refl; length2_held = refl }
    go (a ∷ []) h = record { pos0_held = refl; depth_held = refl; genotype0_held = refl; genotype1_held = refl; count_held = refl; length0_held = refl; length1_held = refl; length2_held = refl }
    go (a ∷ c ∷ []) h = record { pos0_held = refl; depth_held = refl; genotype0_held = refl; genotype1_held = refl; count_held = refl; length0_held = refl; length1_held = refl; length2_held = refl }
    go (a ∷ c ∷ d ∷ []) h = record { pos0_held = refl; depth_held = refl; genotype0_held = refl; genotype1_held = refl; count_held = refl; length0_held = refl; length1_held = refl; length2_held = refl }
    go (a ∷ c ∷ d ∷ e ∷ xs) h = absurd (omega arith)

bases_long : (xs : List (List ℕ)) → length xs ≤ 3 → length (joined xs) ≡ length (get_or xs 0 []) + length (get_or xs 1 []) + length (get_or xs 2 [])
unfolding joined
bases_long [] h = refl
bases_long (a ∷ []) h = omega (arith, length-append a [])
bases_long (a ∷ c ∷ []) h = omega (arith, length-append a (c ++ []), length-append c [])
bases_long (a ∷ c ∷ d ∷ []) h = omega (arith, length-append a (c ++ (d ++ [])), length-append c (d ++ []), length-append d [])
bases_long (a ∷ c ∷ d ∷ e ∷ xs) h = absurd (omega arith)

same_variant : {p q d e g h i j : ℕ} {xs bs : List (List ℕ)} → p ≡ q → d ≡ e → g ≡ h → i ≡ j → xs ≡ bs
    → ◌≡◌ {A = Variant} (record { pos0 = p; dp = d; genotype0 = g; genotype1 = i; alleles = xs }) (record { pos0 = q; dp = e; genotype0 = h; genotype1 = j; alleles = bs })
same_variant x y z s t = rw (x, y, z, s, t)

module _ (w : List ℤ) (b : List ℕ) (i : ℕ) (v : Variant) (rest : List ℤ) (bytes : List ℕ) (few : allele_count v ≤ 3) (left : drop (variant_at i) w ≡ variant_record v ++ rest) (unread : drop (alleles_start w i) b ≡ joined v.alleles ++ bytes) where
  cell : (p : ℕ) → p < variant_words → word w (variant_at i + p) ≡ get_or (variant_record v) p (pos 0)
  cell p h = here w (variant_at i) (variant_record v) rest left (pos 0) p (omega (arith, variant_long v))

  held : Holds v v.alleles (variant_record v)
  held = variant_holds v few

  length_back : (k : ℕ) → k < 3 → length_at w i k ≡ length (allele_of v k)
  length_back zero h = ap nat_of (cell (length_field + 0) (omega arith) ∙ held.length0_held)
  length_back (suc zero) h = ap nat_of (cell (length_field + 1) (omega arith) ∙ held.length1_held)
  length_back (suc (suc zero)) h = ap nat_of (cell (length_field + 2) (omega arith) ∙ held.length2_held)
  length_back (suc (suc (suc k))) h = absurd (omega arith)

  variant_back : variant_from w b i ≡ v
  unfolding variant_from allele_start
  variant_back =
      same_variant (ap nat_of (cell pos0_field (omega arith) ∙ held.pos0_held)) (ap nat_of (cell depth_field (omega arith) ∙ held.depth_held))
      (ap nat_of (cell (genotype_field + 0) (omega arith) ∙ held.genotype0_held)) (ap nat_of (cell (genotype_field + 1) (omega arith) ∙ held.genotype1_held))
      (ap (tabulate_from (allele_at w b i) 0) (ap nat_of (cell allele_count_field (omega arith) ∙ held.count_held))
      ∙ alleles_back w b i 0 v.alleles bytes (λ m h. let z : 0 + m ≡ m = omega arith in subst (λ (x : ℕ). length_at w i x ≡ length (allele_of v m)) (sym z) (length_back m (omega arith))) unread)

  bytes_behind : drop (alleles_start w (suc i)) b ≡ bytes
  unfolding alleles_start
  bytes_behind =
      behind b (alleles_start w i) (joined v.alleles) bytes unread (length_at w i 0 + length_at w i 1 + length_at w i 2)
      (omega (arith, bases_long v.alleles few, length_back 0 (omega arith), length_back 1 (omega arith), length_back 2 (omega arith)))

  words_behind : drop (variant_at (suc i)) w ≡ rest
  words_behind =
      let z : variant_at i + variant_words ≡ variant_at (suc i) = omega arith in
      subst (λ (n : ℕ). drop n w ≡ rest) z (behind w (variant_at i) (variant_record v) rest left variant_words (variant_long v))

module _ (w : List ℤ) (b : List ℕ) where
  variants_back : (i : ℕ) (vs : List Variant) (rest : List ℤ) (bytes : List ℕ) → All (λ v. allele_count v ≤ 3) vs → drop (variant_at i) w ≡ joined (map variant_record vs) ++ rest
      → drop (alleles_start w i) b ≡ joined (map (λ v. joined v.alleles) vs) ++ bytes → tabulate_from (variant_from w b) i (length vs) ≡ vs
  unfolding tabulate_from joined
  variants_back i [] rest bytes end left unread = refl
  variants_back i (v ∷ vs) rest bytes (also few fews) left unread =
      let words = joined (map variant_record vs) ++ rest in
      let others = joined (map (λ v. joined v.alleles) vs) ++ bytes in
      let l : drop (variant_at i) w ≡ variant_record v ++ words = left ∙ append_assoc (variant_record v) (joined (map variant_record vs)) rest in
      let u : drop (alleles_start w i) b ≡ joined v.alleles ++ others = unread ∙ append_assoc (joined v.alleles) (joined (map (λ v. joined v.alleles) vs)) bytes in
      same_cons (variant_back w b i v words others few l u)
      (variants_back (suc i) vs rest bytes fews (words_behind w b i v words others few l u) (bytes_behind w b i v words others few l u))

-- ---- the calls of a fragment
abbrev call_fields : ℕ → Call → List Call → List (ℕ × ℤ)
call_fields r call calls =
    (variant_field, pos call.variant)
    ∷ (allele_field, pos call.allele)
    ∷ (qual_field, call.qual)
    ∷ (one_minus_qual_field, call.one_minus_qual)
    ∷ (next_field, pos (first_of (suc r) calls))
    ∷ []

abbrev call_record : ℕ → Call → List Call → List ℤ
call_record r call calls = laid call_words (call_fields r call calls)

same_call : {v u a c : ℕ} {q p o n : ℤ} → v ≡ u → a ≡ c → q ≡ p → o ≡ n
    → ◌≡◌ {A = Call} (record { variant = v; allele = a; qual = q; one_minus_qual = o }) (record { variant = u; allele = c; qual = p; one_minus_qual = n })
same_call x y z s = rw (x, y, z, s)

module _ (w : List ℤ) (s : Sizes) where
  module _ (r : ℕ) (call : Call) (calls : List Call) (rest : List ℤ) (some : 1 ≤ r) (left : drop (call_at s r) w ≡ call_record r call calls ++ rest) where
    call_cell : (p : ℕ) → p < call_words → word w (call_at s r + p) ≡ get_or (call_record r call calls) p (pos 0)
    call_cell p h = here w (call_at s r) (call_record r call calls) rest left (pos 0) p (omega (arith, laid_long call_words (call_fields r call calls)))

    call_back : call_from w s r ≡ call
    unfolding call_from laid
    call_back =
        same_call (ap nat_of (call_cell variant_field (omega arith))) (ap nat_of (call_cell allele_field (omega arith)))
        (call_cell qual_field (omega arith)) (call_cell one_minus_qual_field (omega arith))

    next_back : next_call_at w s r ≡ first_of (suc r) calls
    unfolding laid
    next_back = ap nat_of (call_cell next_field (omega arith))

    call_behind : drop (call_at s (suc r)) w ≡ rest
    call_behind =
        let z : call_at s r + call_words ≡ call_at s (suc r) = omega arith in
        subst (λ (n : ℕ). drop n w ≡ rest) z (behind w (call_at s r) (call_record r call calls) rest left call_words (laid_long call_words (call_fields r call calls)))

  chain_back : (k r : ℕ) (calls : List Call) (rest : List ℤ) → 1 ≤ r → r + length calls ≤ suc s.used → length calls ≤ k → drop (call_at s r) w ≡ call_records r calls ++ rest → map (call_from w s) (chain_from w s k (first_of r calls)) ≡ calls
  unfolding chain_from call_records first_of laid
  chain_back zero r [] rest some top fuel left = refl
  chain_back (suc k) r [] rest some top fuel left = refl
  chain_back zero r (call ∷ calls) rest some top fuel left = absurd (omega arith)
  chain_back (suc k) r (call ∷ calls) rest some top fuel left =
      let t : is_record s r ≡ true = rw (le-leb 1 r some, le-leb r s.used (omega arith)) in
      let words = call_records (suc r) calls ++ rest in
      ap (λ (x : Bool). map (call_from w s) (cond x (r ∷ chain_from w s k (next_call_at w s r)) [])) t
      ∙ same_cons (call_back r call calls words some left)
      (ap (λ (q : ℕ). map (call_from w s) (chain_from w s k q)) (next_back r call calls words some left)
      ∙ chain_back k (suc r) calls rest (omega arith) (omega arith) (omega arith) (call_behind r call calls words some left))

calls_long : (r : ℕ) (calls : List Call) → length (call_records r calls) ≡ call_words * length calls
unfolding call_records laid
calls_long r [] = refl
calls_long r (call ∷ calls) = omega (arith, calls_long (suc r) calls)

-- ---- the fragments
same_fragment : {p q : Bool} {x y : ℕ} {cs ds : List Call} → p ≡ q → x ≡ y → cs ≡ ds → ◌≡◌ {A = Fragment} (record { present = p; strand = x; calls = cs }) (record { present = q; strand = y; calls = ds })
same_fragment d e f = rw (d, e, f)

abbrev fragment_fields : ℕ → Fragment → List (ℕ × ℤ)
fragment_fields r x = (first_field, first_word r x) ∷ (strand_field, pos x.strand) ∷ []

abbrev fragment_record : ℕ → Fragment → List ℤ
fragment_record r x = laid fragment_words (fragment_fields r x)

module _ (w : List ℤ) (s : Sizes) where
  module _ (i r : ℕ) (x : Fragment) (rest others : List ℤ) (some : 1 ≤ r) (top : r + length x.calls ≤ suc s.used) (all-used : s.used ≤ s.c) (below : s.used < none) (empty : x.present ≡ false → x.calls ≡ []) (left : drop (fragment_at s i) w ≡ fragment_record r x ++ rest) (unread : drop (call_at s r) w ≡ call_records r x.calls ++ others) where
    fragment_cell : (p : ℕ) → p < fragment_words → word w (fragment_at s i + p) ≡ get_or (fragment_record r x) p (pos 0)
    fragment_cell p h = here w (fragment_at s i) (fragment_record r x) rest left (pos 0) p (omega (arith, laid_long fragment_words (fragment_fields r x)))

    first_back : word w (fragment_at s i + first_field) ≡ first_word r x
    unfolding laid
    first_back = fragment_cell first_field (omega arith)

    present_back : present_at w s i ≡ x.present
    unfolding first_word
    present_back = ap (le_z (pos 0)) first_back ∙ go x.present
      where
        go : (p : Bool) → le_z (pos 0) (cond p (pos (first_of r x.calls)) (negsuc 0)) ≡ p
        go true = le-leb 0 (first_of r x.calls) (omega arith)
        go false = refl

    calls_back : map (call_from w s) (chain_of w s i) ≡ x.calls
    unfolding chain_of first_word
    calls_back = ap (λ (q : ℤ). map (call_from w s) (chain_from w s s.c (nat_of q))) first_back ∙ go x.present empty
      where
        go : (p : Bool) → (p ≡ false → x.calls ≡ []) → map (call_from w s) (chain_from w s s.c (nat_of (cond p (pos (first_of r x.calls)) (negsuc 0)))) ≡ x.calls
        go true h = chain_back w s s.c r x.calls others some top (omega arith) unread
        go false h = ap (map (call_from w s)) (none_chain w s s.c none below) ∙ sym (h refl)

    fragment_back : fragment_from w s i ≡ x
    unfolding fragment_from laid
    fragment_back = same_fragment present_back (ap nat_of (fragment_cell strand_field (omega arith))) calls_back

    fragment_behind : drop (fragment_at s (suc i)) w ≡ rest
    fragment_behind =
        let z : fragment_at s i + fragment_words ≡ fragment_at s (suc i) = omega arith in
        subst (λ (n : ℕ). drop n w ≡ rest) z (behind w (fragment_at s i) (fragment_record r x) rest left fragment_words (laid_long fragment_words (fragment_fields r x)))

    calls_behind : drop (call_at s (r + length x.calls)) w ≡ others
    calls_behind =
        let z : call_at s r + call_words * length x.calls ≡ call_at s (r + length x.calls) = omega arith in
        subst (λ (n : ℕ). drop n w ≡ others) z (behind w (call_at s r) (call_records r x.calls) others unread (call_words * length x.calls) (calls_long r x.calls))

  fragments_back : s.used ≤ s.c → s.used < none → (i r : ℕ) (xs : List Fragment) (rest : List ℤ) → All (λ x. x.present ≡ false → x.calls ≡ []) xs
      → 1 ≤ r → r + count_over xs (λ x. length x.calls) ≤ suc s.used → drop (fragment_at s i) w ≡ fragment_records r xs ++ rest → drop (call_at s r) w ≡ chain_records r xs → tabulate_from (fragment_from w s) i (length xs) ≡ xs
  unfolding tabulate_from fragment_records chain_records count_over laid
  fragments_back u b i r [] rest end some top left unread = refl
  fragments_back u b i r (x ∷ xs) rest (also empty empties) some top left unread =
      let n = length x.calls in
      let words = fragment_records (r + n) xs ++ rest in
      let others = chain_records (r + n) xs in
      let t : r + n ≤ suc s.used = omega arith in
      same_cons (fragment_back i r x words others some t u b empty left unread)
      (fragments_back u b (suc i) (r + n) xs rest empties (omega arith) (omega arith) (fragment_behind i r x words others some t u b empty left unread) (calls_behind i r x words others some t u b empty left unread))

-- ---- the case
variants_long : (vs : List Variant) → length (joined (map variant_record vs)) ≡ variant_words * length vs
unfolding joined
variants_long [] = refl
variants_long (v ∷ vs) =
    omega (arith, length-append (variant_record v) (joined (map variant_record vs)), variant_long v, variants_long vs)

fragments_long : (r : ℕ) (xs : List Fragment) → length (fragment_records r xs) ≡ fragment_words * length xs
unfolding fragment_records laid
fragments_long r [] = refl
fragments_long r (x ∷ xs) = omega (arith, fragments_long (r + length x.calls) xs)

same_case : {vs us : List Variant} {fs gs : List Fragment} (c : ℤ) → vs ≡ us → fs ≡ gs → ◌≡◌ {A = Case} (record { variants = vs; fragments = fs; cutoff = c }) (record { variants = us; fragments = gs; cutoff = c })
same_case c e f = rw (e, f)

module _ (case : Case) (few : (v : ℕ) → v < length case.variants → allele_count (variant_of case v) ≤ 3)
    (empty : All (λ x. x.present ≡ false → x.calls ≡ []) case.fragments) (small : call_count case < none) where
  abbrev w : List ℤ
  w = encode_words case

  abbrev vs : List ℤ
  vs = joined (map variant_record case.variants)

  abbrev fs : List ℤ
  fs = fragment_records 1 case.fragments

  abbrev cs : List ℤ
  cs = chain_records 1 case.fragments

  few_all : All (λ v. allele_count v ≤ 3) case.variants
  few_all = at_all case.variants no_variant few

  abbrev sizes : Sizes
  sizes = sizes_of (head_of case)

  variants_left : drop head_words w ≡ vs ++ (fs ++ cs)
  unfolding encode_words head_of laid
  variants_left = refl

  fragments_left : drop (fragment_at sizes 0) w ≡ fs ++ cs
  unfolding head_of laid
  fragments_left =
      let n = length case.variants in
      let z : head_words + variant_words * n ≡ fragment_at sizes 0 = omega arith in
      subst (λ (m : ℕ). drop m w ≡ fs ++ cs) z (behind w head_words vs (fs ++ cs) variants_left (variant_words * n) (variants_long case.variants))

  calls_left : drop (call_at sizes 1) w ≡ cs
  unfolding head_of laid
  calls_left =
      let f = length case.fragments in
      let z : fragment_at sizes 0 + fragment_words * f ≡ call_at sizes 1 = omega arith in
      subst (λ (m : ℕ). drop m w ≡ cs) z (behind w (fragment_at sizes 0) fs cs fragments_left (fragment_words * f) (fragments_long 1 case.fragments))

  pub decode_encode : decode (encode_words case) (encode_bases case) ≡ case
  unfolding decode encode_words head_of laid encode_bases alleles_start
  decode_encode =
      same_case case.cutoff
      (variants_back w (encode_bases case) 0 case.variants (fs ++ cs) [] few_all variants_left (sym (append-nil (encode_bases case))))
      (fragments_back w sizes (omega arith) small 0 1 case.fragments cs empty (omega arith) (omega arith) fragments_left calls_left)
