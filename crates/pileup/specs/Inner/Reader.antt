-- 01, section 2: reading a fragment's chain gives one call at a time.
-- Assumes nothing.
use Rattle.std.specs.Prelude.{◌≡◌, true, Option, Some, None, List, [], ◌∷◌, map, ℕ, zero, suc, ◌≤◌, ℤ, length}
use Rattle.std.specs.Borrow.{Bor}
use Rattle.variants_and_fragments.specs.declared.Sizes.{Sizes}
use Rattle.variants_and_fragments.specs.declared.CallWords.{CallWords}
use Rattle.variants_and_fragments.specs.Words.{nat_of}
use Rattle.pileup.specs.declared.reader.Call.{Call as CallHeld}
use Rattle.pileup.specs.declared.reader.CallStep.{CallStep}
use Rattle.pileup.specs.declared.reader.RecordReader.{RecordReader}
use Rattle.variants_and_fragments.specs.Chain.{chain_from, next_call_at, next_ok}
use Rattle.variants_and_fragments.specs.Case.{Call}
use Rattle.variants_and_fragments.specs.Decode.{call_from}
use Rattle.variants_and_fragments.specs.Inner.Accepted.{allb}

-- a call as the code holds it
unfoldable pub held_call : Call → CallHeld
held_call call = record { variant = call.variant; allele = call.allele; qual = call.qual; one_minus_qual = call.one_minus_qual }

-- the call that its words say
abbrev pub worded_call : CallWords → CallHeld
worded_call words = record { variant = nat_of words.variant; allele = nat_of words.allele; qual = words.qual; one_minus_qual = words.one_minus_qual }

-- the calls of the chain from record r on
unfoldable pub calls_left : List ℤ → Sizes → ℕ → List CallHeld
calls_left w s r = map held_call (map (call_from w s) (chain_from w s s.c r))

-- a chain that can be read from r on: r and each next along it is 0 or a record used, and it ends within C records
pub record Readable (w : List ℤ) (s : Sizes) (r : ℕ) : Type 0 where
  pub starts : r ≤ s.used
  pub goes_on : allb (next_ok w s) (chain_from w s s.c r) ≡ true
  pub ends : length (chain_from w s (suc s.c) r) ≤ s.c

-- ---- in words that are only laid out
-- what is read at record r: zero ends a chain, another r is a call
unfoldable pub read_at : List ℤ → Sizes → ℕ → Option CallHeld
read_at w s zero = None
read_at w s (suc r) = Some (held_call (call_from w s (suc r)))

-- the record after r in its chain; there is none after the end
unfoldable pub next_at : List ℤ → Sizes → ℕ → ℕ
next_at w s zero = zero
next_at w s (suc r) = next_call_at w s (suc r)

-- the step from record r
unfoldable pub step_at : List ℤ → Sizes → ℕ → CallStep
step_at w s r = record { read = read_at w s r; next = next_at w s r }

-- the calls that reading gives from record r on, one at a time, k at most; from a fragment's first call on they are the
-- fragment's calls (proofs/ChainReads)
unfoldable pub gather : Option CallHeld → List CallHeld → List CallHeld
gather None calls = []
gather (Some call) calls = call ∷ calls

unfoldable pub calls_read : List ℤ → Sizes → ℕ → ℕ → List CallHeld
unfolding gather
calls_read w s zero r = []
calls_read w s (suc k) r = gather (read_at w s r) (calls_read w s k (next_at w s r))

-- a reader whose next record is r, and a reader after a read
abbrev pub reader_at : Bor (List ℤ) → ℕ → RecordReader
reader_at words r = record { words = words; next = r }

abbrev pub moved_on : Sizes → RecordReader → RecordReader
moved_on s reader = reader_at reader.words (next_at reader.words.now s reader.next)
