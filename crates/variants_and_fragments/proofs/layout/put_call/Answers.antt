-- Five words are set, each at its field's place.
use Rattle.std.proofs.Common.{arith, to_z-of_z, w32, SFits, rules}
use Rattle.std.proofs.lemmas.Int.{to_z_pos}
use Rattle.variants_and_fragments.specs.Layout.{call_put}
use Rattle.variants_and_fragments.proofs.layout.put_call.Goals as goal

pub returns : goal.returns
unfolding call_put
returns c =
    let v : SFits w32 c.args.call.variant = search rules in
    let a : SFits w32 c.args.call.allele = search rules in
    let q : SFits w32 c.args.call.qual = search rules in
    let o : SFits w32 c.args.call.one_minus_qual = search rules in
    rw (c.call_at-at.ensures, to_z-of_z v, to_z-of_z a, to_z-of_z q, to_z-of_z o, to_z_pos w32 c.args.next (omega (arith, c.requires)))
