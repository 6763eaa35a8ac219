-- What the tests before an arrival or a departure give where none stops: the case is accepted, and what is lent with it is long enough and in range.
-- Assumes nothing.
use mathlib.Core.Path.{◌≡◌}
use borrow.Author.Tests.{eqb-true}
use Rattle.variants_and_fragments.specs.declared.Sizes.{Sizes}
use Rattle.variants_and_fragments.specs.Check.{check_case_and_haplotypes_outcome}
use Rattle.variants_and_fragments.specs.Refusals.{done}
use Rattle.variants_and_fragments.specs.Inner.Accepted.{CaseIn}
use Rattle.variants_and_fragments.proofs.Accepted.{checked_in}
use Rattle.variants_and_fragments.proofs.Outcomes.{then_past, unless_past, enough_past}
use Rattle.variants_and_fragments.proofs.Short.{short_fits}
use Rattle.late_reads.specs.LateReads.{LateInput, kept_outcome}
use Rattle.late_reads.specs.Inner.Ready.{Kept}

module _ (input : LateInput) (s : Sizes) (ok : kept_outcome input ≡ done s) where
  pub kept_checked : check_case_and_haplotypes_outcome input.words input.bases input.haplotypes ≡ done s
  unfolding kept_outcome
  kept_checked =
      let h0 = then_past _ _ s ok in
      let h1 = unless_past _ 7 _ _ s h0.1.1 in
      let h2 = enough_past _ _ s h1.1 in
      let h3 = unless_past _ 10 _ _ s h2.1 in
      cc (h0.1.0, h3.1)

  pub kept_past : Kept input.words s input.phase input.haplotypes input.kept
  unfolding kept_outcome
  kept_past =
      let h0 = then_past _ _ s ok in
      let z = h0.0 in
      let h1 = unless_past _ 7 _ _ s h0.1.1 in
      let h2 = enough_past _ _ s h1.1 in
      let h3 = unless_past _ 10 _ _ s h2.1 in
      let e : z ≡ s = cc h3.1 in
      let a = short_fits _ _ _ h2.0 in
      let b = short_fits _ _ _ a.1 in
      let c = short_fits _ _ _ b.1 in
      rw (← e) (record {
        ready = record { case_in = checked_in _ _ _ z h0.1.0; phase_long = eqb-true _ _ h1.0; haps_long = a.0 };
        likelihoods_long = b.0;
        counts_long = c.0;
        ranged = h3.0;
      })

  pub kept_case : CaseIn input.words s
  kept_case = kept_past.ready.case_in
