-- Each way out is one of number 7.
use Rattle.std.proofs.lemmas.Option.{MatchOption-at_some, MatchOption-at_none}
use Rattle.haplotype_assembly.proofs.PhaseLaws.{phase_length, phase_first, phase_none}
use Rattle.haplotype_assembly.proofs.phase.check_phase.Goals as goal

pub returns-then-phase-n : goal.returns-then-phase-n
returns-then-phase-n c = phase_length _ _ _ c.then-phase-n.either

pub returns-in-Some : goal.returns-in-Some
returns-in-Some c =
    let f = MatchOption-at_some _ _ _ c.in-Some.is c.first_bad_set.ensures in phase_first _ _ _ c.if-phase-n.false c.if-sets-n.false _ f.0 f.1

pub returns-in-None : goal.returns-in-None
returns-in-None c = phase_none _ _ _ c.if-phase-n.false c.if-sets-n.false (MatchOption-at_none _ _ c.in-None.is c.first_bad_set.ensures)
