-- The first letter is the current reference base, so the two are of one length, or it is not.
use Rattle.std.proofs.Common.{◌≡◌, arith, rules}
use Rattle.genotype_probs.specs.Letters.{base}
use Rattle.genotype_probs.proofs.Comparisons.{same_length, compared_other, compared_same}
use Rattle.genotype_probs.proofs.letters.compare.Goals as goal

pub returns-then-ne : goal.returns-then-ne
returns-then-ne c =
    let e : c.first_letter-letter.result ≡ base c.args.base → ⊥ = search rules in
    rw c.first_letter-letter.ensures (compared_other c.args.reference.now c.args.allele.bases.now c.args.base (rw c.first_letter-letter.ensures at e))

pub stop_at-i-requires : goal.stop_at-i-requires
stop_at-i-requires c =
    let e : c.first_letter-letter.result ≡ base c.args.base = search rules in
    same_length c.args.reference.now c.args.allele.bases.now c.args.base (rw c.first_letter-letter.ensures at e)

pub bounds-reference-i : goal.bounds-reference-i
bounds-reference-i c =
    let e : c.first_letter-letter.result ≡ base c.args.base = search rules in
    omega (arith, c.stop_at-i.ensures.0, same_length c.args.reference.now c.args.allele.bases.now c.args.base (rw c.first_letter-letter.ensures at e))

pub returns : goal.returns
returns c =
    let e : c.first_letter-letter.result ≡ base c.args.base = search rules in
    rw (c.of.ensures, c.of-2.ensures) (compared_same c.args.reference.now c.args.allele.bases.now c.args.base c.stop_at-i.result (rw c.first_letter-letter.ensures at e) c.stop_at-i.ensures.1)
