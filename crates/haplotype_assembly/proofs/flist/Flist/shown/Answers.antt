use Rattle.std.proofs.Common.{map, ◌∙◌, arith}
use lib.ListN.{length-map}
use Rattle.pileup.specs.Inner.Packed.{unpacked}
use Rattle.haplotype_assembly.proofs.Shown.{shown_in, shown_few}
use Rattle.haplotype_assembly.proofs.flist.Flist.shown.Goals as goal

pub returns-clause-calls : goal.returns-clause-calls
returns-clause-calls c = c.new.ensures ∙ c.words.ensures.calls

pub returns-clause-in_case : goal.returns-clause-in_case
returns-clause-in_case c = rw c.new.ensures (shown_in _ c.args.self.now.case.laid.sized.n_top _ c.words.ensures.rows_in)

pub returns-clause-few : goal.returns-clause-few
returns-clause-few c =
    rw c.new.ensures (omega (arith, shown_few c.args.self.now.case.laid.words.now (map unpacked c.words.result.now), length-map c.words.result.now unpacked, c.words.ensures.few))
