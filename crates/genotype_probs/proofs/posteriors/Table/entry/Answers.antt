-- i × k + j is one of the k × k places.
use Rattle.std.proofs.Common.{◌≡◌, ◌+◌, ◌*◌, get_or, pos, nat_abs, ap, arith, w64, to_z, of_z}
use Rattle.steps.proofs.Signed.{read_small}
use Rattle.genotype_probs.specs.Posteriors.{entry_at}
use Rattle.genotype_probs.proofs.TableSums.{place_in}
use Rattle.genotype_probs.proofs.posteriors.Table.entry.Goals as goal

pub returns : goal.returns
unfolding entry_at
returns c =
    let t = c.args.self.now in
    let p = c.args.i * t.k + c.args.j in
    let h = t.table_in.small p (place_in c.args.i c.args.j t.k c.requires.0 c.requires.1) in
    let e : to_z w64 (of_z w64 (get_or t.post.now p (pos 0))) ≡ get_or t.post.now p (pos 0) = read_small w64 _ (omega arith) in
    (e, omega (arith, ap nat_abs e))
