-- The record, and both haplotypes.
use Rattle.variants_and_fragments.proofs.Records.{variant_and_haplotypes}
use Rattle.variants_and_fragments.proofs.variants.variant_ok.Goals as goal

pub returns : goal.returns
returns c = rw (variant_and_haplotypes, ← c.record_ok-ok.ensures, ← c.haplotype_ok-first.ensures, ← c.haplotype_ok-second.ensures)
