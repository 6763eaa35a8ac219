use Rattle.haplotype_assembly.proofs.Stores.{put_one, put_on}
use Rattle.haplotype_assembly.proofs.lines.write_call.Goals as goal

pub returns : goal.returns
returns c = put_on c.open_block-start.ensures (put_one _ _ _)
