-- Each test of the code is one of the definition's, and what is returned is 0 or one of the call's qualities.
use Rattle.std.proofs.Common.{◌≡◌, sym, ◌∙◌, arith, rules, to_z-of_z, FitsSigned, w32}
use Rattle.variants_and_fragments.specs.Case.{usable}
use Rattle.variants_and_fragments.specs.Layout.{cutoff_at}
use Rattle.pileup.specs.Inner.Packed.{call_read}
use Rattle.late_reads.specs.Arriving.{arriving_read}
use Rattle.late_reads.proofs.ReadShares.{share_unusable, share_unphased, share_phased, term_match, term_other, quality_read, quality_small, usable_read}
use Rattle.late_reads.proofs.arriving.TestedArrival.share.Goals as goal
use Rattle.late_reads.proofs.arriving.TestedArrival.share.Goals.{After-usable}

-- the test, by the definition
tested : (c : After-usable) → let s = c.args.self.now in usable (cutoff_at s.ready.case.laid.words.now) (arriving_read s.read.strand s.read.calls.now) (call_read c.args.call) ≡ c.usable.result
tested c =
    let s = c.args.self.now in
    let side : FitsSigned w32 s.read.strand = search rules in
    let cutoff : FitsSigned w32 c.cutoff.result = search rules in
    let qual : FitsSigned w32 c.args.call.qual = search rules in
    usable_read _ _ _ _ c.usable.ensures (to_z-of_z cutoff ∙ c.cutoff.ensures) (rw (to_z-of_z side) at c.nat_of.ensures) (to_z-of_z qual)

pub returns-then-not-usable : goal.returns-then-not-usable
returns-then-not-usable c = (share_unusable _ _ _ _ (tested (goal.at.returns-then-not-usable c).After-usable ∙ c.if-not-usable.true), omega arith)

pub returns-then-not-is_phased : goal.returns-then-not-is_phased
returns-then-not-is_phased c =
    let a = (goal.at.returns-then-not-is_phased c).After-usable in
    (share_unphased _ _ _ _ (tested a ∙ c.if-not-usable.false) (sym c.is_phased.ensures ∙ c.if-not-is_phased.true), omega arith)

pub returns-then-call-own : goal.returns-then-call-own
returns-then-call-own c =
    let a = (goal.at.returns-then-call-own c).After-usable in
    let fits : FitsSigned w32 c.args.call.one_minus_qual = search rules in
    let term = term_match (call_read c.args.call) _ c.if-call-own.true ∙ share_phased _ _ _ _ (tested a ∙ c.if-not-usable.false) (sym c.is_phased.ensures ∙ c.if-not-is_phased.false) in
    rw c.from.ensures (quality_read _ fits ∙ term, quality_small _ fits c.requires.0.one_minus_qual_in)

pub returns : goal.returns
returns c =
    let a = (goal.at.returns c).After-usable in
    let fits : FitsSigned w32 c.args.call.qual = search rules in
    let term = term_other (call_read c.args.call) _ c.if-call-own.false ∙ share_phased _ _ _ _ (tested a ∙ c.if-not-usable.false) (sym c.is_phased.ensures ∙ c.if-not-is_phased.false) in
    rw c.from-2.ensures (quality_read _ fits ∙ term, quality_small _ fits c.requires.0.qual_in)
