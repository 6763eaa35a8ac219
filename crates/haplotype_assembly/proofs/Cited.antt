-- What is cited of the laws of other crates, in one place.
-- Assumes nothing.
pub use Rattle.variants_and_fragments.proofs.First.{first_at, first_end, first_all}
pub use Rattle.variants_and_fragments.proofs.Written.{written_on, written_length, written_at}
pub use Rattle.variants_and_fragments.proofs.Accepted.{case_in, bases_in}
pub use Rattle.variants_and_fragments.proofs.Bounds.{down_abs}
pub use Rattle.variants_and_fragments.proofs.Decoded.{tabulate_length, tabulate_at, variants_are, fragment_here, pos0_is, genotype0_is, genotype1_is, allele_count_is, allele_length, sizes_are}
pub use Rattle.variants_and_fragments.proofs.Tabulated.{table_more, table_end}
pub use Rattle.pileup.proofs.Groups.{group_rows, group_in}
pub use Rattle.steps.proofs.Marks.{of_small, size_steps}
