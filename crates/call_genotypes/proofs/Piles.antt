-- A variant's pile as a part of the piles: its rows are those at its place. Assumes nothing.
use mathlib.Core.List.{List}
use Prim.Native.Nat.{ℕ, ◌+◌, ◌-◌, ◌<◌}
use native.Mathlib.Omega.{arith}
use lib.ListN.{get_or}
use Rattle.pileup.specs.Inner.Packed.{group_start, group_words, GroupThere}
use Rattle.likelihoods.proofs.GroupRows.{part_length, part_row, part_rows}
use Rattle.call_genotypes.specs.Inner.Piles.{PileThere, PileIs}

module _ {ends piles : List ℕ} {v : ℕ} (t : PileThere ends piles v) where
  pub there : GroupThere ends piles v
  there = record { g_in = t.v_in; rises = t.rises; long = t.long }

  pub pile_is : PileIs ends piles v (group_words ends piles v)
  pile_is = record {
    rows = part_rows there;
    rows_in = λ m f R. record {
      few = omega (arith, part_length there, R.few);
      long = omega arith;
      rows_in = λ p l u. let k : p < get_or ends v 0 - group_start ends v = omega (arith, part_length there) in rw (part_row there p k) (R.rows_in (group_start ends v + p) (omega arith) (omega arith));
    };
  }
