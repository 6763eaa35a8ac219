-- The variant's set, where it is one below n, takes the smaller name.
use Rattle.std.proofs.Common.{◌≡◌, ◌+◌, pos, None, sym, ◌∙◌, get_or, rules}
use mir.Facts.{to_z-of_z}
use mir.Syntax.{w32}
use mir.Val.{SFits}
use Rattle.haplotype_assembly.specs.Inner.PhaseRead.{set_of}
use Rattle.haplotype_assembly.proofs.Names.{least_of, named_on, named_past, named_beyond}
use Rattle.haplotype_assembly.proofs.phase.note_name.Goals as goal
use Rattle.haplotype_assembly.proofs.phase.note_name.Goals.{After-set_of}

its_set : (c : After-set_of) → set_of (get_or c.args.sets.now c.args.v (pos 0)) ≡ c.set_of.result
its_set c =
    let f : SFits w32 (get_or c.args.sets.now c.args.v (pos 0)) = search rules in
    sym (rw (to_z-of_z f) at c.set_of.ensures)

pub returns-then-t-case : goal.returns-then-t-case
returns-then-t-case c =
    let h : c.map_or.result ≡ least_of (get_or c.args.least.now c.in-Some.t None) (c.pos0.result + 1) = search rules in
    let name = rw c.with_variants.ensures at c.pos0.ensures.0 in
    rw h (rw (← name) at (named_on c.requires.named_to _ (its_set (goal.at.returns-then-t-case c).After-set_of ∙ c.in-Some.is) c.if-t-case.true))

pub returns-else-t-case : goal.returns-else-t-case
returns-else-t-case c = named_beyond c.requires.named_to _ (its_set (goal.at.returns-else-t-case c).After-set_of ∙ c.in-Some.is) c.if-t-case.false

pub returns-in_default : goal.returns-in_default
returns-in_default c = named_past c.requires.named_to (its_set (goal.at.returns-in_default c).After-set_of ∙ c.in_default.is)
