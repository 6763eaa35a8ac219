-- 01, section 6: likelihoods, scores, visits, sweeps, the run and its totals. Every definition computes at closed values.
-- Haplotypes are a flat list of 2 alleles per variant, variant v's pair at 2v and 2v + 1, as the run writes them.
-- Assumes nothing.
use Rattle.std.specs.Prelude.{Bool, true, false, cond, ◌&&◌, ◌||◌, List, [], ◌∷◌, ℕ, zero, suc, ◌+◌, ◌*◌, ◌/◌, ◌%◌, eqb, get_or, set, ℤ, pos, ◌+ℤ◌}
use Rattle.variants_and_fragments.specs.Case.{Call}
use Rattle.variants_and_fragments.specs.Sums.{sum_over, sum_to, count_to}
use Rattle.genotype_probs.specs.Posteriors.{first_maximum}

-- what the sweeps use of a case: N, each variant's k, which variants are phased, the prior of pair (i, j) at a variant, the usable calls
-- of each fragment, and `mix` of a read's two likelihoods, which is `mix_of`; what demand 3 says holds whatever `mix` is
pub record SweepCase : Type 0 where
  pub n : ℕ
  pub k : ℕ → ℕ
  pub phased : ℕ → Bool
  pub prior : ℕ → ℕ → ℕ → ℤ
  pub frags : List (List Call)
  pub mix : ℤ → ℤ → ℤ

-- ---- haplotypes
-- the first and the second allele of v's pair
abbrev pub allele0 : List ℕ → ℕ → ℕ
allele0 h v = get_or h (2 * v) 0

abbrev pub allele1 : List ℕ → ℕ → ℕ
allele1 h v = get_or h (2 * v + 1) 0

-- the haplotypes with the pair (i, j) at v
unfoldable pub put_pair : List ℕ → ℕ → ℕ → ℕ → List ℕ
put_pair h v i j = set (set h (2 * v) i) (2 * v + 1) j

-- the same pairs
unfoldable pub same_haps : List ℕ → List ℕ → Bool
same_haps [] [] = true
same_haps [] (y ∷ ys) = false
same_haps (x ∷ xs) [] = false
same_haps (x ∷ xs) (y ∷ ys) = eqb x y && same_haps xs ys

-- ---- likelihoods
-- one_minus_qual on a match and qual otherwise
unfoldable pub call_term : Call → ℕ → ℤ
call_term c a = cond (eqb c.allele a) c.one_minus_qual c.qual

-- a read's likelihood on the haplotype that has allele a v at v adds, over its usable calls at the variants that count, these terms
unfoldable pub likelihood : (ℕ → Bool) → (ℕ → ℕ) → List Call → ℤ
likelihood counts a [] = pos 0
likelihood counts a (c ∷ cs) = cond (counts c.variant) (call_term c (a c.variant)) (pos 0) +ℤ likelihood counts a cs

-- x for each call at v
unfoldable pub per_call : ℕ → List Call → ℤ → ℤ
per_call v cs x = sum_over cs (λ c. cond (eqb c.variant v) x (pos 0))

module _ (C : SweepCase) where
  -- a read's two likelihoods, mixed
  unfoldable pub read_share : (ℕ → Bool) → List ℕ → List Call → ℤ
  read_share counts h cs = C.mix (likelihood counts (allele0 h) cs) (likelihood counts (allele1 h) cs)

  -- the phased variants, and v itself: at an unphased v its own call is added first
  abbrev pub with_own : ℕ → ℕ → Bool
  with_own v w = eqb w v || C.phased w

  -- the score of pair (i, j) at v: prior plus, per usable call at v, the mixed likelihoods with v at (i, j)
  unfoldable pub score_with : ℕ → List ℕ → ℕ → ℕ → ℤ
  score_with v h i j =
      C.prior v i j +ℤ sum_over C.frags (λ cs. per_call v cs (read_share (with_own v) (put_pair h v i j) cs))

  -- the same of the pair with the row-major number g = i × k + j
  unfoldable pub score : ℕ → List ℕ → ℕ → ℤ
  score v h g = score_with v h (g / C.k v) (g % C.k v)

-- what a run returns of its sweeps, and the haplotypes that it leaves
pub record RunResult : Type 0 where
  pub sweeps : ℕ
  pub settled : Bool
  pub haps : List ℕ

module _ (C : SweepCase) where
  -- the first maximum is taken (`best_first` of proofs/Visit.antt)
  unfoldable pub best_pair : ℕ → List ℕ → ℕ
  best_pair v h = first_maximum (score C v h) (C.k v * C.k v)

  unfoldable pub visit : ℕ → List ℕ → List ℕ
  visit v h = let g = best_pair v h in put_pair h v (g / C.k v) (g % C.k v)

  -- one sweep visits all variants in a given order
  unfoldable pub sweep : List ℕ → List ℕ → List ℕ
  sweep [] h = h
  sweep (v ∷ vs) h = sweep vs (visit v h)

  -- at most `fuel` sweeps more, s being made; sweep s goes by the order `o s`. The run stops after a sweep without change
  unfoldable pub run : (ℕ → List ℕ) → ℕ → ℕ → List ℕ → RunResult
  run o zero s h = record { sweeps = s; settled = false; haps = h }
  run o (suc fuel) s h =
      let h' = sweep (o s) h in
      let r = run o fuel (suc s) h' in
      cond (same_haps h h') (record { sweeps = suc s; settled = true; haps = h' }) r

  -- a total over the variants that count: their priors plus, per fragment, its mixed likelihoods, recomputed from the calls
  unfoldable pub total_of : (ℕ → Bool) → List ℕ → ℤ
  total_of counts h =
      sum_to C.n (λ w. cond (counts w) (C.prior w (allele0 h w) (allele1 h w)) (pos 0)) +ℤ sum_over C.frags (read_share C counts h)

  -- the phased total
  abbrev pub phased_total : List ℕ → ℤ
  phased_total = total_of C.phased

  -- the source's total, over all variants and usable calls
  abbrev pub source_total : List ℕ → ℤ
  source_total = total_of (λ w. true)

  -- the row-major number of v's pair
  abbrev pub pair_number : List ℕ → ℕ → ℕ
  pair_number h v = allele0 h v * C.k v + allele1 h v

  unfoldable pub phased_count : ℕ
  phased_count = count_to C.n (λ w. cond (C.phased w) 1 0)
