-- The read's rows are there, and its likelihoods over them are those at their place. Assumes nothing.
use Rattle.likelihoods.proofs.CallShares.{read_there, read_calls, read_likelihoods_are}
use Rattle.likelihoods.proofs.likelihoods.ReadRows.read_likelihoods.Goals as goal

pub group-requires : goal.group-requires
group-requires c = let s = c.args.self.now in read_there s.calls_in s.ends_in c.args.f c.requires

pub invariant_of-read : goal.invariant_of-read
invariant_of-read c = let s = c.args.self.now in rw c.group.ensures (record { calls_in = read_calls s.calls_in s.ends_in c.args.f c.requires })

pub returns : goal.returns
returns c = let s = c.args.self.now in read_likelihoods_are s.calls_in s.ends_in c.args.f c.requires _ (rw c.group.ensures at c.likelihoods.ensures)
