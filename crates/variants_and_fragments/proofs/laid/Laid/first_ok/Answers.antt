-- Both ends are tested.
use Rattle.std.proofs.Common.{arith, rules, w32}
use Rattle.std.proofs.lemmas.Int.{to_z_pos}
use Rattle.variants_and_fragments.specs.Words.{within}
use Rattle.variants_and_fragments.proofs.laid.Laid.first_ok.Goals as goal

pub returns : goal.returns
unfolding within
returns c =
    let z = c.args.self.now.sized in
    let used = to_z_pos w32 c.args.self.now.sizes.used (omega (arith, z.used_top, z.c_top)) in
    search (rules, used)
