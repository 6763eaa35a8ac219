-- Of one allele on both haplotypes the gaps. Assumes nothing.
use Rattle.std.proofs.Common.{w64, arith, eq-eqb}
use Rattle.steps.proofs.Signed.{read_small}
use Rattle.call_genotypes.specs.Inner.Scores.{value_of, rise_of, sums_at}
use Rattle.call_genotypes.proofs.score.Sums.pair_rise.Goals as goal

pub returns-then-i-j : goal.returns-then-i-j
unfolding value_of rise_of
returns-then-i-j c =
    let s = c.args.self.now in
    rw (eq-eqb c.args.i c.args.j c.if-i-j.true) (read_small w64 (sums_at s.of c.args.i 2) (omega (arith, s.within c.args.i 2)))
