-- Request 3: an arrival and then its departure leave the same set of free and unused records, and every word as it was but those of the records taken,
-- words 4 and 5 and that fragment's strand.
-- Assumes nothing.
use Rattle.std.specs.Prelude.{◌≡◌, true, List, ◌≢◌, ℕ, ◌+◌, ◌<◌, ℤ, length}
use Rattle.variants_and_fragments.specs.Chain.{memb}
use Rattle.variants_and_fragments.specs.Layout.{call_words, used_field, free_field, strand_field, sizes_of, fragment_at, call_at}
use Rattle.variants_and_fragments.specs.Refusals.{done}
use Rattle.variants_and_fragments.specs.Words.{word}
use Rattle.late_reads.specs.Arriving.{whole_calls, room, taken}
use Rattle.late_reads.specs.LateReads.{LateAnswer, arrive_outcome, arrive_written, depart_outcome, depart_written}
use Rattle.afresh.specs.Lists.{Stand, standing, input_of}

-- what the words w before the arrival of these calls as fragment f and the words w' after its departure have in common
pub record GivenBack (w w' : List ℤ) (f : ℕ) (calls : List ℤ) : Type 0 where
  pub same_room : (r : ℕ) → memb r (room w' (sizes_of w')) ≡ memb r (room w (sizes_of w))
  pub long : length w' ≡ length w
  pub others : (i : ℕ) → i ≢ used_field → i ≢ free_field → i ≢ fragment_at (sizes_of w) f + strand_field
      → ((r j : ℕ) → memb r (taken w (sizes_of w) (whole_calls calls)) ≡ true → j < call_words → i ≢ call_at (sizes_of w) r + j) → word w' i ≡ word w i

-- the stand that an arrival leaves
abbrev pub arrived_stand : List ℕ → List ℕ → List ℕ → Stand → ℕ → ℤ → List ℤ → LateAnswer → Stand
arrived_stand bases phase haps x f strand calls answer = standing (arrive_written (input_of bases phase haps x) f strand calls) answer

-- of every arrival and departure that are done
pub record GivesBack (bases phase haps : List ℕ) : Type 0 where
  pub gives : (x : Stand) (f : ℕ) (strand : ℤ) (calls : List ℤ) (arrival departure : LateAnswer) → arrive_outcome (input_of bases phase haps x) f strand calls ≡ done arrival
      → depart_outcome (input_of bases phase haps (arrived_stand bases phase haps x f strand calls arrival)) f ≡ done departure
      → GivenBack x.words (depart_written (input_of bases phase haps (arrived_stand bases phase haps x f strand calls arrival)) f).words f calls
