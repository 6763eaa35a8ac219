-- The qualities of one more variant are written, read off its nine places. Assumes nothing.
use Rattle.std.proofs.Common.{◌≡◌, true, refl, ap, ◌∙◌}
use Rattle.variants_and_fragments.specs.Written.{written}
use Rattle.variants_and_fragments.proofs.Written.{written_on}
use Rattle.genotype_probs.proofs.NinePlaces.{own, own_genotype, own_qual, own_gq}
use Rattle.with_haplotypes.specs.Finals.{final_of}
use Rattle.with_haplotypes.specs.Inner.Finals.{final_at}
use Rattle.with_haplotypes.specs.declared.finals.FinalAnswer.{FinalAnswer}
use Rattle.with_haplotypes.proofs.finals.write_finals.Goals as goal

pub loop-v-init : goal.loop-v-init
unfolding written
loop-v-init c = record { quals_are = refl; gqs_are = refl }

pub invariant_of-table : goal.invariant_of-table
invariant_of-table c = let t = c.requires.tables_in c.loop-v.v c.loop-v-test.true in record { table_in = rw c.allele_count.ensures (own t) }

pub loop-v-preserved : goal.loop-v-preserved
unfolding final_at final_of
loop-v-preserved c =
    let v = c.loop-v.v in
    let w = c.args.laid.now.words.now in
    let post = c.args.post.now in
    let t = c.requires.tables_in v c.loop-v-test.true in
    let e : c.final_answer-answer.result ≡ final_at w post v = c.final_answer-answer.ensures ∙ rw (c.allele_count.ensures, own_genotype t true, own_qual t, own_gq t) in
    record {
      quals_are = written_on (λ v. (final_at w post v).qual.0) v c.args.quals.now _ _ c.loop-v.invariant.quals_are (ap (λ (r : FinalAnswer). r.qual.0) e);
      gqs_are = written_on (λ v. (final_at w post v).gq.0) v c.args.gqs.now _ _ c.loop-v.invariant.gqs_are (ap (λ (r : FinalAnswer). r.gq.0) e);
    }
