-- 01, section 6: the usable calls as the rows hold them, fragment after fragment, and each read's likelihoods over them.
-- Assumes nothing.
use Rattle.std.specs.Prelude.{◌≡◌, Bool, cond, List, map, ℕ, ◌+◌, ◌*◌, ◌-◌, ◌/◌, ◌%◌, ◌≤◌, ◌<◌, eqb, ℤ, pos, nat_abs, length, get_or}
use Rattle.variants_and_fragments.specs.Case.{Call}
use Rattle.variants_and_fragments.specs.Pileup.{Row}
use Rattle.pileup.specs.Inner.Packed.{row_at, rows_at, group_start}
use Rattle.sweeps.specs.Sweeps.{call_term, likelihood}
use Rattle.likelihoods.specs.declared.likelihoods.ReadLikelihoods.{ReadLikelihoods}

-- a row's call
abbrev pub row_call : Row → Call
row_call row = row.call

-- the call of row i
abbrev pub call_at : List ℕ → ℕ → Call
call_at rows i = row_call (row_at rows i)

-- the calls of the rows from a to e
unfoldable pub calls_between : List ℕ → ℕ → ℕ → List Call
calls_between rows a e = map row_call (rows_at rows a e)

-- the calls of fragment f, by where each fragment's rows end
unfoldable pub calls_of : List ℕ → List ℕ → ℕ → List Call
calls_of rows ends f = calls_between rows (group_start ends f) (get_or ends f 0)

-- the variants whose flag is 1
unfoldable pub flagged : List ℕ → ℕ → Bool
flagged mask v = eqb (get_or mask v 0) 1

-- v's allele on haplotype h, 0 or 1
abbrev pub allele_on : List ℕ → ℕ → ℕ → ℕ
allele_on hap h v = get_or hap (2 * v + h) 0

-- what a call adds to a likelihood: nothing at a variant that does not count
abbrev pub call_share : (ℕ → Bool) → (ℕ → ℕ) → Call → ℤ
call_share counts a c = cond (counts c.variant) (call_term c (a c.variant)) (pos 0)

-- element e of the likelihoods, 2 per fragment: over its usable calls at flagged variants
unfoldable pub likelihood_at : List ℕ → List ℕ → List ℕ → List ℕ → ℕ → ℤ
likelihood_at rows ends hap mask e = likelihood (flagged mask) (allele_on hap (e % 2)) (calls_of rows ends (e / 2))

-- a call's variant has a pair and a flag, and its qualities are at most 262144 steps from 0
pub record CallIn (call : Call) (hap mask : List ℕ) : Type 0 where
  pub pair_there : 2 * call.variant + 1 < length hap
  pub flag_there : call.variant < length mask
  pub qual_small : nat_abs call.qual ≤ 262144
  pub one_minus_qual_small : nat_abs call.one_minus_qual ≤ 262144

-- the first count rows are there, their variants have a pair and a flag, and their qualities are at most 262144 steps from 0
pub record CallsIn (rows : List ℕ) (count : ℕ) (hap mask : List ℕ) : Type 0 where
  pub count_top : count ≤ 16384
  pub long : count ≤ length rows
  pub pair_there : (i : ℕ) → i < count → 2 * (call_at rows i).variant + 1 < length hap
  pub flag_there : (i : ℕ) → i < count → (call_at rows i).variant < length mask
  pub qual_small : (i : ℕ) → i < count → nat_abs (call_at rows i).qual ≤ 262144
  pub one_minus_qual_small : (i : ℕ) → i < count → nat_abs (call_at rows i).one_minus_qual ≤ 262144

-- the rows of n fragments end one after the other
pub record EndsIn (ends : List ℕ) (n : ℕ) : Type 0 where
  pub long : n ≤ length ends
  pub rises : (f : ℕ) → f < n → group_start ends f ≤ get_or ends f 0

-- r has both likelihoods over the calls from a to e
pub record LikelihoodsAre (rows : List ℕ) (a e : ℕ) (hap mask : List ℕ) (r : ReadLikelihoods) : Type 0 where
  pub first_is : r.first.0 ≡ likelihood (flagged mask) (allele_on hap 0) (calls_between rows a e)
  pub second_is : r.second.0 ≡ likelihood (flagged mask) (allele_on hap 1) (calls_between rows a e)
  pub first_small : nat_abs r.first.0 ≤ 262144 * (e - a)
  pub second_small : nat_abs r.second.0 ≤ 262144 * (e - a)
