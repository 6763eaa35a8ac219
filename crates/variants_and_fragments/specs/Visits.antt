-- Requests 2 and 3: the walk along the chains. It goes along each fragment's chain once, fragments rising; the used records
-- that it does not visit are, in an accepted case, those of the free chain. w is the words, s the sizes.
-- Assumes nothing.
use Rattle.std.specs.Prelude.{◌≡◌, true, false, List, [], ◌++◌, map, ℕ, zero, suc, ◌≤◌, ◌<◌, ℤ, eqb, length, get_or}
use Rattle.variants_and_fragments.specs.declared.Sizes.{Sizes}
use Rattle.variants_and_fragments.specs.Layout.{call_variant_at}
use Rattle.variants_and_fragments.specs.Chain.{present_at, chain_of, memb, free_chain}
use Rattle.variants_and_fragments.specs.Decode.{decode}
use Rattle.variants_and_fragments.specs.Pileup.{Row, only, pile_of}

-- a visit: a fragment, and the number of a record of its chain
pub record Visit : Type 0 where
  pub fragment : ℕ
  pub number : ℕ

abbrev pub visit : ℕ → ℕ → Visit
visit f r = record { fragment = f; number = r }

-- the visits to j fragments from f on, each along its chain
unfoldable pub visits_from : List ℤ → Sizes → ℕ → ℕ → List Visit
visits_from w s f zero = []
visits_from w s f (suc j) = map (visit f) (chain_of w s f) ++ visits_from w s (suc f) j

-- those to all fragments
abbrev pub visits : List ℤ → Sizes → List Visit
visits w s = visits_from w s 0 s.f

abbrev pub numbers : List Visit → List ℕ
numbers xs = map (λ (x : Visit). x.number) xs

-- the records that the walk visits, in order
unfoldable pub visited : List ℤ → Sizes → List ℕ
visited w s = numbers (visits w s)

-- ---- "the walk visits each record in a chain once and no other", of every accepted case: `accepted_once` of proofs/VisitsOnce.antt
-- how often r is in the list
abbrev pub times : ℕ → List ℕ → ℕ
times r rs = length (only (eqb r) rs)

pub record VisitsOnce (w : List ℤ) (s : Sizes) : Type 0 where
  pub once : (f r : ℕ) → f < s.f → memb r (chain_of w s f) ≡ true → times r (visited w s) ≡ 1
  pub no_other : (r : ℕ) → ((f : ℕ) → f < s.f → memb r (chain_of w s f) ≡ false) → times r (visited w s) ≡ 0
  -- the visits to a fragment are its chain, in its order
  pub along : (f : ℕ) → f < s.f → numbers (only (λ (x : Visit). eqb x.fragment f) (visits w s)) ≡ chain_of w s f
  -- an absent fragment's chain has no record, and no chain has one of the unused tail
  pub absent : (f : ℕ) → present_at w s f ≡ false → chain_of w s f ≡ []
  pub unused : (f r : ℕ) → s.used < r → memb r (chain_of w s f) ≡ false

-- ---- "each used record lies in just one fragment chain or in the free chain" (request 3), of every accepted case: `accepted_one_chain` of
-- proofs/VisitsOnce.antt
pub record OneChainEach (w : List ℤ) (s : Sizes) : Type 0 where
  pub once : (r : ℕ) → 1 ≤ r → r ≤ s.used → times r (visited w s ++ free_chain w s) ≡ 1
  pub no_other : (r : ℕ) → memb r (visited w s ++ free_chain w s) ≡ true → (1 ≤ r) × (r ≤ s.used)

-- ---- "Each variant still lists its calls by rising fragment", of every accepted case: `accepted_by_fragment` of proofs/ByFragment.antt
-- each number is above those before it
pub record Rising (l : List ℕ) : Type 0 where
  pub rises : (i j : ℕ) → i < j → j < length l → get_or l i 0 < get_or l j 0

-- the visits whose call is at v
unfoldable pub visits_at : List ℤ → Sizes → ℕ → List Visit
visits_at w s v = only (λ (x : Visit). eqb (call_variant_at w s x.number) v) (visits w s)

-- the fragments rise along all calls at a variant, in the order of the visits, and along its pile, the usable ones, whatever the bases b
pub record ListsByFragment (w : List ℤ) (s : Sizes) : Type 0 where
  pub calls_rise : (v : ℕ) → Rising (map (λ (x : Visit). x.fragment) (visits_at w s v))
  pub pile_rises : (b : List ℕ) (v : ℕ) → Rising (map (λ (row : Row). row.fragment) (pile_of (decode w b) v))
