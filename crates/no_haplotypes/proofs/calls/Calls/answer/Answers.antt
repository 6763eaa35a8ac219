-- What the calls add up to fixes the posteriors, these the genotype and both qualities, and the counts the other words.
use Rattle.std.proofs.Common.{◌≡◌, false, ℕ, List, ◌∙◌, arith}
use Rattle.genotype_probs.specs.Posteriors.{max_genotype, genotype_of, gq_of}
use Rattle.genotype_probs.proofs.AlleleLaws.{nine}
use Rattle.no_haplotypes.specs.NoHaplotypes.{called_from, gq_from}
use Rattle.no_haplotypes.specs.Inner.Calling.{made_from}
use Rattle.no_haplotypes.proofs.CallLaws.{words_are}
use Rattle.no_haplotypes.proofs.TallyLaws.{rows_held}
use Rattle.no_haplotypes.proofs.calls.Calls.answer.Goals as goal

pub write_posteriors-requires-clause-rows_in : goal.write_posteriors-requires-clause-rows_in
write_posteriors-requires-clause-rows_in c = rows_held c.args.self.now.held

pub invariant_of-table : goal.invariant_of-table
invariant_of-table c =
    let k = c.allele_count-k.ensures in
    let made = c.write_posteriors.ensures in
    record { table_in = record { k_low = k.low; k_high = k.high; size = c.write_posteriors.auto.post ∙ c.requires.size; small = λ p h. made.small p (omega (arith, nine c.allele_count-k.result k.high)) } }

pub returns-clause-posteriors : goal.returns-clause-posteriors
returns-clause-posteriors c = λ b. rw (← c.args.self.now.held.rows_are b) c.write_posteriors.ensures.here

pub returns-clause-called : goal.returns-clause-called
unfolding called_from gq_from
returns-clause-called c =
    let s = c.args.self.now in
    let count = c.allele_count-k.ensures in
    let k = c.allele_count-k.result in
    let post = c.write_posteriors.new.post in
    let made : (b : List ℕ) → post ≡ made_from s.case.laid.words.now c.args.post.now b s.v = λ b. rw (← s.held.rows_are b) c.write_posteriors.ensures.here in
    let called : c.max_genotype-p.result ≡ max_genotype false post k = cc c.max_genotype-p.ensures.value in
    let genotype : c.genotype.result ≡ genotype_of k (max_genotype false post k) = cc (called, c.genotype.ensures) in
    let gq : c.gq.result.0 ≡ gq_of post k (max_genotype false post k) = cc (called, c.gq.ensures) in
    record {
      words_are = λ b. rw (← made b, ← count.value) (c.words.ensures b ∙ words_are s.case.case_in s.held b c.write_posteriors.ensures.tallied c.genotype.result post k genotype);
      qual_is = λ b. rw (← made b) c.qual.ensures;
      gq_is = λ b. rw (← made b, ← count.value) gq;
    }
