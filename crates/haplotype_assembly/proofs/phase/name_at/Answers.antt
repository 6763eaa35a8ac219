-- The least of its set, which is below n.
use Rattle.std.proofs.Common.{◌≡◌, pos, sym, ◌∙◌, get_or, rules, arith}
use mir.Facts.{to_z-of_z}
use mir.Syntax.{w32}
use mir.Val.{SFits}
use Rattle.haplotype_assembly.specs.Inner.PhaseRead.{set_of}
use Rattle.haplotype_assembly.proofs.Names.{set_in, its_name}
use Rattle.haplotype_assembly.proofs.phase.name_at.Goals as goal
use Rattle.haplotype_assembly.proofs.phase.name_at.Goals.{After-set_of}

its_set : (c : After-set_of) → c.set_of.result ≡ set_of (get_or c.args.sets.now c.args.v (pos 0))
its_set c =
    let f : SFits w32 (get_or c.args.sets.now c.args.v (pos 0)) = search rules in
    rw (to_z-of_z f) at c.set_of.ensures

pub bounds-least-t : goal.bounds-least-t
bounds-least-t c =
    let inside = rw c.in-Some.is at (set_in _ _ _ _ (its_set (goal.at.bounds-least-t c).After-set_of) c.requires.set_right) in
    omega (arith, inside, c.requires.named.room)

pub returns-in-Some : goal.returns-in-Some
returns-in-Some c =
    let set = its_set (goal.at.returns-in-Some c).After-set_of in
    let inside = rw c.in-Some.is at (set_in _ _ _ _ set c.requires.set_right) in
    c.unwrap_or.ensures ∙ its_name c.requires.named _ _ (sym c.is_phase.ensures ∙ c.if-not-is_phase.false) _ (sym set ∙ c.in-Some.is) inside
