-- The run from section 5's haplotypes over lent fronts, the normalised posteriors, the final answers. Assumes nothing.
use Rattle.std.proofs.Common.{ℕ, ◌*◌, ◌≤◌, length, take, refl, ◌∙◌, arith, length-take}
use Rattle.call_genotypes.specs.Inner.Scores.{sweep_state}
use Rattle.call_genotypes.specs.Inner.Runs.{plan_of}
use Rattle.with_haplotypes.specs.Round.{run_of}
use Rattle.with_haplotypes.specs.Inner.Steps.{AlleleCounts, RunGiven, RunMade}
use Rattle.with_haplotypes.specs.Inner.Reads.{input_of}
use Rattle.with_haplotypes.proofs.RunLaws.{known, phased_of}
use Rattle.with_haplotypes.proofs.StartLaws.{still_long, over, stands, start_here, flags_here, state_here, phased_here, run_here}
use Rattle.with_haplotypes.proofs.FinishLaws as finish
use Rattle.with_haplotypes.proofs.reads.AcceptedRound.call.Goals as goal
use Rattle.with_haplotypes.proofs.reads.AcceptedRound.call.Goals.{After-write_phase, After-run-answer}

-- the numbers of alleles stand
counts : (c : After-write_phase) → AlleleCounts c.args.self.now.case.laid.words.now c.args.self.now.case.laid.sizes.n c.write_allele_counts.new.ks
counts c =
    let n_top = (known c.args.self.now.admitted.given).sized.n_top in
    let e = rw c.with_variants.ensures at c.write_allele_counts.ensures in
    let room : c.args.self.now.case.laid.sizes.n ≤ length c.write_allele_counts.new.ks = omega (arith, n_top, c.write_allele_counts.auto.ks, length-take {A = ℕ}) in
    record { long = omega (arith, n_top, c.write_allele_counts.auto.ks, length-take {A = ℕ}); are = stands _ _ _ _ 0 e (omega (arith, room, c.write_allele_counts.auto.ks)) }

pub invariant_of-flagged : goal.invariant_of-flagged
invariant_of-flagged c =
    let A = c.args.self.now.admitted in
    let n_top = (known A.given).sized.n_top in
    record {
      given = record {
        given = A.given;
        good_orders = A.good_orders;
        counts = counts (goal.at.invariant_of-flagged c).After-write_phase;
        ph_long = omega (arith, n_top, c.write_phase.auto.phased);
      };
    }

-- what the run reads: the flags say section 5's phased variants
run_given : (c : After-write_phase) → let r = c.args.self.now in
    RunGiven r.case.laid.words.now r.case.bases.now r.rates.rates r.case.laid.sizes (plan_of r.orders r.limit) c.write_allele_counts.new.ks c.write_phase.new.phased r.orders.entries.now (run_of (input_of r)).phased
run_given c =
    let A = c.args.self.now.admitted in
    let n_top = (known A.given).sized.n_top in
    record {
      given = A.given;
      good_orders = A.good_orders;
      counts = counts c;
      ph_long = omega (arith, n_top, c.write_phase.auto.phased);
      ph_are = flags_here A _ _ (omega (arith, n_top)) (rw c.accepted_words.ensures at c.write_phase.ensures.phased_after);
    }

pub invariant_of-reads : goal.invariant_of-reads
invariant_of-reads c = record { admitted = c.args.self.now.admitted; given = run_given (goal.at.invariant_of-reads c).After-write_phase }

pub run-answer-requires : goal.run-answer-requires
run-answer-requires c =
    let A = c.args.self.now.admitted in
    let start = start_here A _ _ _ refl c.requires.haplotypes_long (rw c.accepted_words.ensures at c.write_phase.ensures.haplotypes_after) in
    record { phased = _; holds = phased_of (run_given (goal.at.run-answer-requires c).After-write_phase) (state_here A start (finish.part_long _ _ _ refl c.requires.likelihoods_long) c.requires.posteriors_long) }

-- the run from the start's haplotypes
made : (c : After-run-answer) → RunMade (run_of (input_of c.args.self.now)) (sweep_state (take (2 * c.args.self.now.case.laid.sizes.n) c.write_phase.new.haplotypes) (take (2 * c.args.self.now.case.laid.sizes.f) c.args.likelihoods.now) c.args.posteriors.now) (sweep_state c.run-answer.new.hap c.run-answer.new.lik c.run-answer.new.post) c.run-answer.result
made c =
    let A = c.args.self.now.admitted in
    let start = start_here A _ _ _ refl c.requires.haplotypes_long (rw c.accepted_words.ensures at c.write_phase.ensures.haplotypes_after) in
    let flags = flags_here A _ _ (omega (arith, (known A.given).sized.n_top)) (rw c.accepted_words.ensures at c.write_phase.ensures.phased_after) in
    run_here A start (c.run-answer.ensures _ (phased_here A flags start (finish.part_long _ _ _ refl c.requires.likelihoods_long) c.requires.posteriors_long))

pub normalize_all-requires : goal.normalize_all-requires
normalize_all-requires c =
    let A = c.args.self.now.admitted in
    let K = counts (goal.at.normalize_all-requires c).After-write_phase in
    let R = made (goal.at.normalize_all-requires c).After-run-answer in
    rw K.long (finish.tables_at _ _ A.given _ _ _ A.good_orders K R c.requires.posteriors_long)

pub write_finals-requires-clause-tables_in : goal.write_finals-requires-clause-tables_in
write_finals-requires-clause-tables_in c =
    let A = c.args.self.now.admitted in
    let K = counts (goal.at.write_finals-requires-clause-tables_in c).After-write_phase in
    let R = made (goal.at.write_finals-requires-clause-tables_in c).After-run-answer in
    finish.tables_in _ _ A.given _ _ _ A.good_orders K R c.requires.posteriors_long (rw K.long at c.normalize_all.ensures)

pub returns : goal.returns
returns c =
    let A = c.args.self.now.admitted in
    let K = counts (goal.at.returns c).After-write_phase in
    let R = made (goal.at.returns c).After-run-answer in
    let s = c.args.self.now.case.laid.sizes in
    let plan = plan_of c.args.self.now.orders c.args.self.now.limit in
    let room = c.requires in
    let done = rw K.long at c.normalize_all.ensures in
    let e = rw c.accepted_words.ensures at c.write_phase.ensures.haplotypes_after in
    let front = still_long _ _ _ _ (2 * s.n) e room.haplotypes_long in
    let long = c.run-answer.auto.hap ∙ finish.part_long _ _ _ refl front in
    record {
      returned_is = finish.returned_is s plan A.given _ _ _ R;
      haplotypes_are = finish.haplotypes_written s plan A.given _ _ _ R _ _ refl front long ∙ over _ _ _ _ _ 0 e room.haplotypes_long;
      likelihoods_are = finish.likelihoods_written s plan A.given _ _ _ R _ _ refl room.likelihoods_long;
      posteriors_are = finish.posteriors_written s plan A.given _ _ _ A.good_orders K R room.posteriors_long done;
      quals_are = finish.quals_written s plan A.given _ _ _ A.good_orders K R room.posteriors_long done c.write_finals.ensures;
      gqs_are = finish.gqs_written s plan A.given _ _ _ A.good_orders K R room.posteriors_long done c.write_finals.ensures;
      demand3 = finish.demand3_written s plan A.given _ _ _ R _ (2 * s.n) long;
      result_are = finish.result_written s plan A.given _ _ _ R _ (2 * s.n) long;
    }
