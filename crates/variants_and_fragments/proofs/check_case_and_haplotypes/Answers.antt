-- The parts of the check, one after the other.
use Rattle.std.proofs.Common.{sym}
use Rattle.variants_and_fragments.proofs.Accepted.{checked_in, checked_bases}
use Rattle.variants_and_fragments.proofs.Outcomes.{exit_is}
use Rattle.variants_and_fragments.proofs.Parts.{at_head, at_variants, at_alleles, at_chains, all_passed}
use Rattle.variants_and_fragments.proofs.check_case_and_haplotypes.Goals as goal

pub returns-in_err-laid-clause-outcome : goal.returns-in_err-laid-clause-outcome
returns-in_err-laid-clause-outcome c =
    rw (exit_is c.from_residual.ensures.1) (at_head _ _ _ _ c.in_err-laid.ensures.outcome)

pub returns-in_err-known-clause-outcome : goal.returns-in_err-known-clause-outcome
returns-in_err-known-clause-outcome c =
    rw (exit_is c.from_residual-in_err-known.ensures.1)
    (at_variants _ _ _ _ c.in_ok-laid.ensures.outcome _ (rw c.in_ok-laid.ensures.lent at c.in_err-known.ensures.outcome))

pub returns-in_err-check_alleles-clause-outcome : goal.returns-in_err-check_alleles-clause-outcome
returns-in_err-check_alleles-clause-outcome c =
    rw (exit_is c.from_residual-in_err-check_alleles.ensures.1)
    (at_alleles _ _ _ _ c.in_ok-laid.ensures.outcome (rw c.in_ok-laid.ensures.lent at c.in_ok-known.ensures.outcome) _
    (rw (c.in_ok-known.ensures.same, c.in_ok-laid.ensures.lent) at c.in_err-check_alleles.ensures))

pub returns-in_err-check_chains-clause-outcome : goal.returns-in_err-check_chains-clause-outcome
returns-in_err-check_chains-clause-outcome c =
    rw (exit_is c.from_residual-in_err-check_chains.ensures.1)
    (at_chains _ _ _ _ c.in_ok-laid.ensures.outcome (rw c.in_ok-laid.ensures.lent at c.in_ok-known.ensures.outcome)
    (rw (c.in_ok-known.ensures.same, c.in_ok-laid.ensures.lent) at c.in_ok-check_alleles.ensures) _
    (rw (c.in_ok-known.ensures.same, c.in_ok-laid.ensures.lent) at c.in_err-check_chains.ensures))

pub invariant_of-result : goal.invariant_of-result
invariant_of-result c =
    let ok = all_passed _ _ _ _ c.in_ok-laid.ensures.outcome (rw c.in_ok-laid.ensures.lent at c.in_ok-known.ensures.outcome)
    (rw (c.in_ok-known.ensures.same, c.in_ok-laid.ensures.lent) at c.in_ok-check_alleles.ensures)
    (rw (c.in_ok-known.ensures.same, c.in_ok-laid.ensures.lent) at c.in_ok-check_chains.ensures) in
    record {
      case_in = rw c.in_ok-laid.ensures.lent (checked_in _ _ _ _ (sym ok));
      bases_in = rw c.in_ok-laid.ensures.lent (checked_bases _ _ _ _ (sym ok));
    }

pub returns-clause-outcome : goal.returns-clause-outcome
returns-clause-outcome c =
    all_passed _ _ _ _ c.in_ok-laid.ensures.outcome (rw c.in_ok-laid.ensures.lent at c.in_ok-known.ensures.outcome)
    (rw (c.in_ok-known.ensures.same, c.in_ok-laid.ensures.lent) at c.in_ok-check_alleles.ensures)
    (rw (c.in_ok-known.ensures.same, c.in_ok-laid.ensures.lent) at c.in_ok-check_chains.ensures)
