-- Record 0 is the end of a chain; another record is the call that it stands for, with the record after it.
use Rattle.std.proofs.Common.{◌≡◌, ℕ, zero, suc, ◌≤◌, List, ℤ, Option, Some, None, refl, arith}
use Rattle.variants_and_fragments.specs.declared.Sizes.{Sizes}
use Rattle.variants_and_fragments.specs.Chain.{next_call_at}
use Rattle.variants_and_fragments.specs.Decode.{call_from}
use Rattle.pileup.specs.declared.reader.Call.{Call}
use Rattle.pileup.specs.declared.reader.CallStep.{CallStep}
use Rattle.pileup.specs.Inner.Reader.{held_call, read_at, next_at, step_at}
use Rattle.pileup.proofs.reader.read_call.Goals as goal

abbrev stepped : Option Call → ℕ → CallStep
stepped read next = record { read = read; next = next }

read_end : (w : List ℤ) (s : Sizes) (r : ℕ) → r ≡ 0 → stepped None 0 ≡ step_at w s r
unfolding step_at read_at next_at
read_end w s zero e = refl
read_end w s (suc r) e = absurd (omega arith)

read_some : (w : List ℤ) (s : Sizes) (r : ℕ) → 1 ≤ r → stepped (Some (held_call (call_from w s r))) (next_call_at w s r) ≡ step_at w s r
unfolding step_at read_at next_at
read_some w s zero l = absurd (omega arith)
read_some w s (suc r) l = refl

pub returns-then-r-eq0 : goal.returns-then-r-eq0
returns-then-r-eq0 c = read_end _ _ _ c.if-r-eq0.true

pub returns : goal.returns
returns c = rw (c.call_at.ensures, c.next_call.ensures) (read_some _ _ _ (omega arith))
