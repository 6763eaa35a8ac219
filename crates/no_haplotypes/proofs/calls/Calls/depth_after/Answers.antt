-- The calls are those of the case.
use Rattle.std.proofs.Common.{◌∙◌, arith}
use Rattle.no_haplotypes.proofs.CallLaws.{depth_is}
use Rattle.no_haplotypes.proofs.calls.Calls.depth_after.Goals as goal

pub depth_after-requires : goal.depth_after-requires
depth_after-requires c = let held = c.args.self.now.held in (held.variant_in, omega (arith, held.few, held.ambiguous_few))

pub returns : goal.returns
returns c =
    let s = c.args.self.now in
    (λ b. c.depth_after.ensures.0 ∙ depth_is s.case.case_in s.held b, c.depth_after.ensures.1)
