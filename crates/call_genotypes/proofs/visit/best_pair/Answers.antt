-- There are at most nine pairs, and the best is among them. Assumes nothing.
use Rattle.call_genotypes.proofs.Written.{part_best, best_few, best_pair}
use Rattle.call_genotypes.proofs.visit.best_pair.Goals as goal

pub row_of-first-requires : goal.row_of-first-requires
row_of-first-requires c =
    let e = part_best c.args.post.now c.args.v c.args.k c.requires.2 c.requires.3 _ c.first_max-b.ensures in
    (c.requires.2, best_few c.args.post.now c.args.v _ _ c.requires.1 c.requires.2 e)

pub returns : goal.returns
returns c =
    let e = part_best c.args.post.now c.args.v c.args.k c.requires.2 c.requires.3 _ c.first_max-b.ensures in
    best_pair c.args.post.now c.args.v _ _ c.requires.1 c.requires.2 e _ c.row_of-first.ensures
