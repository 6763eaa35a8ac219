-- No name is read before the first variant.
use Rattle.haplotype_assembly.proofs.Names.{no_names}
use Rattle.haplotype_assembly.proofs.phase.PhasedCase.write_names.Goals as goal

pub least_names-requires-clause-named_to : goal.least_names-requires-clause-named_to
least_names-requires-clause-named_to c = no_names _ _ _ c.args.self.now.case.laid.sized.n_top
