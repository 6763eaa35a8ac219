-- The likelihoods of the start, the run, the totals of the likelihoods that stand before and after it, and the source's total of the rows.
-- Assumes nothing.
use Rattle.std.proofs.Common.{ℕ, ◌≤◌, length, replicate, refl, ◌∙◌, arith}
use Rattle.std.proofs.lemmas.List.{length-replicate, get_or-replicate}
use Rattle.with_haplotypes.proofs.RunLaws.{known, rows_asked, priors_asked, liks_here, begins, standing_asks, phased_total_lem, source_total_lem, left_good, run_made}
use Rattle.with_haplotypes.proofs.reads.PreparedRun.sweep.Goals as goal

pub invariant_of-rows : goal.invariant_of-rows
invariant_of-rows c =
    let p = c.requires in
    let a = rows_asked p.given p.prepared p.phased_given _ p.phased_given.state_given.good_start p.given.ph_long in
    record { calls_in = a.0; ends_in = a.1 }

pub invariant_of-phased_total : goal.invariant_of-phased_total
invariant_of-phased_total c =
    let p = c.requires in
    let a = standing_asks p.given p.prepared p.phased_given p.phased_given.state_given.good_start (liks_here p.given p.prepared p.phased_given c.write_likelihoods.ensures) in
    record { within = a.1; few = a.0 }

pub phased_total-start-requires : goal.phased_total-start-requires
phased_total-start-requires c =
    let p = c.requires in
    priors_asked p.given p.prepared p.phased_given _ p.phased_given.state_given.good_start p.given.ph_long

pub run_sweeps-r-requires : goal.run_sweeps-r-requires
run_sweeps-r-requires c =
    record { some = record { case = _; holds = begins c.requires.given c.requires.prepared c.requires.phased_given c.write_likelihoods.ensures } }

pub invariant_of-phased_total-2 : goal.invariant_of-phased_total-2
invariant_of-phased_total-2 c =
    let p = c.requires in
    let R = c.run_sweeps-r.ensures _ (begins p.given p.prepared p.phased_given c.write_likelihoods.ensures) in
    let a = standing_asks p.given p.prepared p.phased_given (left_good p.given p.prepared p.phased_given R) R.liks in
    record { within = a.1; few = a.0 }

pub phased_total-end-requires : goal.phased_total-end-requires
phased_total-end-requires c =
    let p = c.requires in
    let R = c.run_sweeps-r.ensures _ (begins p.given p.prepared p.phased_given c.write_likelihoods.ensures) in
    priors_asked p.given p.prepared p.phased_given _ (left_good p.given p.prepared p.phased_given R) p.given.ph_long

pub source_total-source-requires : goal.source_total-source-requires
source_total-source-requires c =
    let p = c.requires in
    let R = c.run_sweeps-r.ensures _ (begins p.given p.prepared p.phased_given c.write_likelihoods.ensures) in
    let g = left_good p.given p.prepared p.phased_given R in
    let k = known p.given.given in
    let long : p.sizes.n ≤ length (replicate {A = ℕ} 1024 1) = omega (arith, length-replicate {A = ℕ} 1024 1, k.sized.n_top) in
    let a = rows_asked p.given p.prepared p.phased_given (replicate 1024 1) g long in
    record { rows_in = (a.0, a.1, omega (arith, p.prepared.ends_long, k.sized.f_top)); priors_in = priors_asked p.given p.prepared p.phased_given _ g long }

pub returns : goal.returns
returns c p =
    let begun = begins p.given p.prepared p.phased_given c.write_likelihoods.ensures in
    let R = c.run_sweeps-r.ensures _ begun in
    let g = left_good p.given p.prepared p.phased_given R in
    run_made p.given p.prepared p.phased_given R _ (omega arith) refl
    (c.phased_total-start.ensures ∙ phased_total_lem p.given p.prepared p.phased_given p.phased_given.state_given.good_start begun.standing.liks)
    (c.phased_total-end.ensures ∙ phased_total_lem p.given p.prepared p.phased_given g R.liks)
    (c.source_total-source.ensures ∙ source_total_lem p.given p.prepared p.phased_given _ g (λ v h. get_or-replicate 1024 v 1 0 (omega (arith, (known p.given.given).sized.n_top))))
