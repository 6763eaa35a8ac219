-- Each test of the code is one of the definition's.
use Rattle.std.proofs.Common.{◌≡◌, ◌&&◌, leb, rules, to_z-of_z, SFits, w32}
use Rattle.variants_and_fragments.specs.Layout.{max_alleles}
use Rattle.variants_and_fragments.proofs.Records.{variant_tests_lem}
use Rattle.variants_and_fragments.proofs.variants.record_ok.Goals as goal

pub returns : goal.returns
returns c =
    let k_in : c.contains.result ≡ (leb 1 c.allele_count-k.result && leb c.allele_count-k.result max_alleles) = search rules in
    let fp : SFits w32 c.pos0_word-p.result = search rules in
    let fq : SFits w32 c.prior_pos0-q.result = search rules in
    let fd : SFits w32 c.depth_word-dp.result = search rules in
    rw (
      variant_tests_lem,
      to_z-of_z fp,
      to_z-of_z fq,
      to_z-of_z fd,
      k_in,
      c.pos0_word-p.ensures,
      c.prior_pos0-q.ensures,
      c.depth_word-dp.ensures,
      c.genotype-a.ensures,
      c.genotype-b.ensures,
      c.length_ok-l0.ensures,
      c.length_ok-l1.ensures,
      c.length_ok-l2.ensures,
      c.allele_count-k.ensures,
      c.allele_length.ensures,
      c.allele_length-2.ensures,
      c.allele_length-3.ensures,
    )
