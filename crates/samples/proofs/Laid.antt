-- The words and bases of the samples' cases are accepted, and decoding gives the case back.
-- Assumes nothing.
use mathlib.Core.Path.{◌≡◌, refl}
use Rattle.variants_and_fragments.specs.Case.{Case}
use Rattle.variants_and_fragments.specs.Check.{check_case_outcome}
use Rattle.variants_and_fragments.specs.Decode.{decode}
use Rattle.variants_and_fragments.specs.Encode.{encode_words, encode_bases}
use Rattle.variants_and_fragments.specs.Refusals.{done}
use Rattle.variants_and_fragments.proofs.EncodeSamples.{empty_accepted, empty_decoded, reads_accepted, reads_decoded}
use Rattle.samples.specs.Samples.{reads, no_variants, sizes}
use Rattle.samples.proofs.Open.{layout, checks}

pub record Laid (sample : Case) : Type 0 where
  pub accepted : check_case_outcome (encode_words sample) (encode_bases sample) ≡ done (sizes sample)
  pub decoded : decode (encode_words sample) (encode_bases sample) ≡ sample

pub one_laid : Laid (reads 0 1)
unfolding layout checks
one_laid = record { accepted = refl; decoded = refl }

pub reads_112_laid : Laid (reads 112 112)
unfolding layout checks
reads_112_laid = record { accepted = refl; decoded = refl }

pub reads_113_laid : Laid (reads 113 113)
reads_113_laid = record { accepted = reads_accepted; decoded = reads_decoded }

pub none_laid : Laid no_variants
none_laid = record { accepted = empty_accepted; decoded = empty_decoded }
