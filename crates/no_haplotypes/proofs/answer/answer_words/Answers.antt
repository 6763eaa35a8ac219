-- Each number is a word as it stands.
use Rattle.std.proofs.Common.{◌≡◌, ◌^◌, ◌<◌, ℕ, ℤ, pos, w32, to_z, of_z, ◌∙◌}
use lib.Signed.{mag}
use mir.Val.{hbits}
use Rattle.steps.proofs.Signed.{read_back}
use Rattle.no_haplotypes.specs.Inner.Calling.{answer_values}
use Rattle.no_haplotypes.proofs.answer.answer_words.Goals as goal

word : {z : ℤ} {x : ℕ} → mag z < 2 ^ hbits w32 → z ≡ pos x → to_z w32 (of_z w32 z) ≡ pos x
word {z} fits e = read_back w32 z fits ∙ e

pub returns : goal.returns
unfolding answer_values
returns c =
    cc (
      word c.from.type_inv c.from.ensures,
      word c.from-2.type_inv c.from-2.ensures,
      word c.word_of.type_inv c.word_of.ensures,
      word c.word_of-2.type_inv c.word_of-2.ensures,
      word c.word_of-3.type_inv c.word_of-3.ensures,
      word c.word_of-4.type_inv c.word_of-4.ensures,
      word c.word_of-5.type_inv c.word_of-5.ensures,
      word c.word_of-6.type_inv c.word_of-6.ensures,
      word c.word_of-7.type_inv c.word_of-7.ensures,
      word c.word_of-8.type_inv c.word_of-8.ensures,
      word c.word_of-9.type_inv c.word_of-9.ensures,
      word c.word_of-10.type_inv c.word_of-10.ensures,
      word c.word_of-11.type_inv c.word_of-11.ensures,
    )
