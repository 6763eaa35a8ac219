-- A chain without records changes nothing, and of another one the last record's next and the head's word 5 are set.
use Rattle.std.proofs.Common.{◌≡◌, refl, sym, ◌∙◌, List, [], ◌∷◌, ℕ, ◌-◌, ℤ, pos, length, get_or, arith}
use Rattle.variants_and_fragments.specs.declared.Sizes.{Sizes}
use Rattle.variants_and_fragments.specs.Layout.{next_field, free_field, head_set, call_set}
use Rattle.variants_and_fragments.specs.Chain.{first_call_at, chain_of}
use Rattle.variants_and_fragments.proofs.Chain.{record_top}
use Rattle.variants_and_fragments.proofs.Linked.{linked_first, linked_in, chain_linked}
use Rattle.variants_and_fragments.proofs.Walks.{start_chain, chain_end}
use Rattle.late_reads.specs.Arriving.{freed_words}
use Rattle.late_reads.proofs.Room.{place_in}
use Rattle.late_reads.proofs.words.free_records.Goals as goal

-- a chain that has records
freed_some : (w : List ℤ) (s : Sizes) (rs : List ℕ) → (get_or rs 0 0 ≡ 0 → ⊥)
    → head_set (call_set w s (get_or rs (length rs - 1) 0) next_field (pos s.free)) free_field (pos (get_or rs 0 0)) ≡ freed_words w s rs
unfolding freed_words
freed_some w s [] n = absurd (n refl)
freed_some w s (r ∷ rs) n = let e : length (r ∷ rs) - 1 ≡ length rs = omega arith in rw e refl

pub returns-then-first-eq0 : goal.returns-then-first-eq0
unfolding freed_words
returns-then-first-eq0 c =
    let w = c.args.words.now in
    let e : chain_of w c.args.s c.args.f ≡ [] = sym (start_chain w _ c.args.f _ c.first_call-first.ensures) ∙ chain_end w c.args.s _ _ c.if-first-eq0.true in
    rw e refl

pub put_next-requires-clause-le_r : goal.put_next-requires-clause-le_r
put_next-requires-clause-le_r c =
    let k = c.requires.case_in in
    let l = chain_linked k.sized.used_top (k.frags c.args.f c.requires.f_lt_f) in
    let rs = chain_of c.args.words.now c.args.s c.args.f in
    let n = place_in rs 0 (λ z. c.if-first-eq0.false (c.first_call-first.ensures ∙ linked_first l ∙ z)) in
    let b = linked_in l (length rs - 1) (omega arith) in
    (omega (arith, c.last_record-last.ensures, b.0), omega (arith, c.last_record-last.ensures, b.1, k.sized.used_top), omega (arith, k.sized.free_top, k.sized.used_top, k.sized.c_top))

pub put_free-requires : goal.put_free-requires
put_free-requires c =
    let k = c.requires.case_in in
    (omega (arith, k.sized.size), omega (arith, c.first_call-first.ensures, record_top c.args.s (first_call_at c.args.words.now c.args.s c.args.f), k.sized.used_top, k.sized.c_top))

pub returns : goal.returns
returns c =
    let k = c.requires.case_in in
    let l = chain_linked k.sized.used_top (k.frags c.args.f c.requires.f_lt_f) in
    let e = c.first_call-first.ensures ∙ linked_first l in
    c.put_free.ensures ∙ rw (c.put_next.ensures, c.last_record-last.ensures, e) (freed_some c.args.words.now c.args.s (chain_of c.args.words.now c.args.s c.args.f) (λ z. c.if-first-eq0.false (e ∙ z)))
