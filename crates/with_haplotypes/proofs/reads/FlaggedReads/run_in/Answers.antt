-- The scratch holds the rows, the piles and the priors. Assumes nothing.
use Rattle.std.proofs.Common.{ℕ, ℤ, pos, arith, length-take}
use Rattle.std.proofs.lemmas.List.{length-replicate}
use Rattle.with_haplotypes.proofs.RunLaws.{rows_of, run_asks, run_promised}
use Rattle.with_haplotypes.proofs.StartLaws.{stands}
use Rattle.with_haplotypes.specs.Inner.Steps.{Prepared, scratch}
use Rattle.with_haplotypes.proofs.reads.FlaggedReads.run_in.Goals as goal
use Rattle.with_haplotypes.proofs.reads.FlaggedReads.run_in.Goals.{After-make_priors}

-- what stands in it
made : (g : _) (c : After-make_priors g) → Prepared c.args.self.now.case.laid.words.now c.args.self.now.case.bases.now c.args.self.now.rates.rates c.args.self.now.case.laid.sizes (scratch c.pile_calls.new.rows c.pile_calls.new.row_ends c.pile_calls.new.piles c.pile_calls.new.pile_ends c.make_priors.new.priors)
made g c = record {
  rows_made = rows_of (rw c.accepted_words.ensures at c.pile_calls.ensures.rows_made);
  ends_long = omega (arith, c.pile_calls.auto.row_ends, length-take {A = ℕ}, length-replicate {A = ℕ}, c.requires.room);
  piles_made = rw c.accepted_words.ensures at c.pile_calls.ensures.piles_made;
  pri_long = omega (arith, c.make_priors.auto.priors, length-replicate {A = ℤ}, c.requires.room);
  pri_are = stands _ _ _ _ (pos 0) c.make_priors.ensures (omega (arith, length-replicate {A = ℤ}, c.requires.room));
}

pub sweep-requires : goal.sweep-requires
sweep-requires g c = run_asks c.args.self.now.given (made g (goal.at.sweep-requires g c).After-make_priors) c.requires.some_phased

pub returns : goal.returns
returns g c = run_promised c.args.self.now.given (made g (goal.at.returns g c).After-make_priors) c.sweep.ensures
