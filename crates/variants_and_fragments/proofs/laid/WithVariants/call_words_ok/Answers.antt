-- Past the test of the variant, each test of the code is one of the definition's.
use Rattle.std.proofs.Common.{rules, to_z-of_z, SFits, w32}
use Rattle.variants_and_fragments.proofs.Records.{call_tests, call_off}
use Rattle.variants_and_fragments.proofs.laid.WithVariants.call_words_ok.Goals as goal

pub returns-then-self-v : goal.returns-then-self-v
returns-then-self-v c =
    let f : SFits w32 c.args.call.variant = search rules in
    call_off _ _ _ _ _ _ c.args.self.now.laid.sized (rw (c.nat_of-v.ensures, to_z-of_z f) at c.if-self-v.true)

pub returns : goal.returns
returns c =
    let f : SFits w32 c.args.call.variant = search rules in
    let g : SFits w32 c.args.call.allele = search rules in
    let q : SFits w32 c.args.call.qual = search rules in
    let o : SFits w32 c.args.call.one_minus_qual = search rules in
    rw (call_tests _ _ _ _ _ _ c.args.self.now.laid.sized c.args.self.now.variants_in (rw (c.nat_of-v.ensures, to_z-of_z f) at c.if-self-v.false), c.nat_of-a.ensures, c.allele_count-k.ensures, c.is_quality-qual.ensures, c.is_quality-one_minus_qual.ensures, c.nat_of-v.ensures, to_z-of_z f, to_z-of_z g, to_z-of_z q, to_z-of_z o)
