-- last is the chain's k-th record.
use Rattle.std.proofs.Common.{◌≡◌, ◌-◌, ◌≤◌, length, get_or}
use Rattle.variants_and_fragments.specs.Chain.{chain_of}
use Rattle.late_reads.proofs.words.last_record.Given as goal

abbrev pub invariant-loop-k : goal.invariant-loop-k
invariant-loop-k l = (l.k ≤ length (chain_of l.case.laid.words.now l.case.laid.sizes l.f)) × (l.last ≡ get_or (chain_of l.case.laid.words.now l.case.laid.sizes l.f) (l.k - 1) 0)
