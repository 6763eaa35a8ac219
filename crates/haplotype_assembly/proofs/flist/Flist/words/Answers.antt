-- The words of the fragment's rows.
use Rattle.haplotype_assembly.proofs.Shown.{rows_all, shown_words}
use Rattle.haplotype_assembly.proofs.flist.Flist.words.Goals as goal

pub returns-clause-rows_in : goal.returns-clause-rows_in
returns-clause-rows_in c = rw (c.min-start.ensures, c.group_start.ensures) (rows_all c.args.self.now.lines_given c.args.f c.requires)

pub returns-clause-calls : goal.returns-clause-calls
returns-clause-calls c = rw (c.min-start.ensures, c.group_start.ensures) (shown_words c.args.self.now.lines_given c.args.f c.requires _)
