-- The two likelihoods of one more read are written. Assumes nothing.
use Rattle.std.proofs.Common.{◌≡◌, ◌+◌, ◌*◌, sym, ap, ◌∙◌, arith}
use Rattle.variants_and_fragments.specs.Written.{written}
use Rattle.variants_and_fragments.proofs.Written.{written_on}
use Rattle.likelihoods.specs.Inner.Likelihoods.{likelihood_at}
use Rattle.likelihoods.proofs.CallShares.{likelihood_first, likelihood_second}
use Rattle.likelihoods.proofs.likelihoods.ReadRows.write_likelihoods.Goals as goal

pub loop-f-preserved : goal.loop-f-preserved
loop-f-preserved c =
    let s = c.args.self.now in
    let f = c.loop-f.f in
    let r = c.read_likelihoods.ensures in
    let values = likelihood_at s.rows.words.now s.rows.ends.now s.on.hap.now s.on.mask.now in
    let e : 2 * f + 1 + 1 ≡ 2 * (f + 1) = omega arith in
    rw c.put.ensures (written_on values (2 * f + 1) c.args.lik.now _ _
    (written_on values (2 * f) c.args.lik.now _ _ c.loop-f.invariant
    (r.first_is ∙ sym (likelihood_first s.rows.words.now s.rows.ends.now s.on.hap.now s.on.mask.now f)))
    (r.second_is ∙ sym (likelihood_second s.rows.words.now s.rows.ends.now s.on.hap.now s.on.mask.now f))
    ∙ ap (λ m. written values m c.args.lik.now) e)
