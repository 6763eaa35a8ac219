-- The part that is summed is the row, whose entries are small.
use Rattle.std.proofs.Common.{◌≡◌, ℕ, ◌+◌, ◌-◌, ◌*◌, ◌^◌, ◌<◌, ◌≤◌, List, length, get_or, take, drop, ℤ, pos, nat_abs, ap, arith}
use Rattle.steps.proofs.Marks.{size_small}
use Rattle.variants_and_fragments.specs.Decode.{tabulate}
use Rattle.variants_and_fragments.proofs.Decoded.{tabulate_length, tabulate_at}
use Rattle.genotype_probs.specs.Posteriors.{entry_at, row_sum}
use Rattle.genotype_probs.specs.Inner.Posteriors.{TableIn}
use Rattle.genotype_probs.proofs.AlleleLaws.{nine}
use Rattle.genotype_probs.proofs.TableSums.{sum_is, place_in, row_part}
use Rattle.genotype_probs.proofs.posteriors.Table.row_sum.Goals as goal

module _ (post : List ℤ) (k i : ℕ) (t : TableIn post k) (h : i < k) where
  row_is : take (i * k + k - i * k) (drop (i * k) post) ≡ tabulate k (entry_at post k i)
  row_is =
      let low = t.k_low in
      let d : i * k + k - i * k ≡ k = omega arith in
      rw d (row_part post k i (omega (arith, place_in i (k - 1) k h (omega arith), nine k t.k_high, t.size)))

  small : (j : ℕ) → j < length (tabulate k (entry_at post k i)) → nat_abs (get_or (tabulate k (entry_at post k i)) j (pos 0)) ≤ 2 ^ 40
  unfolding entry_at
  small j l =
      let m : j < k = omega (arith, tabulate_length k (entry_at post k i)) in
      omega (arith, ap nat_abs (tabulate_at k (entry_at post k i) j (pos 0) m), t.small (i * k + j) (place_in i j k h m))

pub ln_sum_exp-requires : goal.ln_sum_exp-requires
ln_sum_exp-requires c =
    let t = c.args.self.now in
    rw (row_is t.post.now t.k c.args.i t.table_in c.requires)
    (omega (arith, tabulate_length t.k (entry_at t.post.now t.k c.args.i), t.table_in.k_high), λ j h. let e = small t.post.now t.k c.args.i t.table_in c.requires j h in omega (arith, size_small (get_or (tabulate t.k (entry_at t.post.now t.k c.args.i)) j (pos 0)) (omega arith)))

pub returns : goal.returns
unfolding row_sum
returns c =
    let t = c.args.self.now in
    let n = tabulate_length t.k (entry_at t.post.now t.k c.args.i) in
    let low = t.table_in.k_low in
    let top = t.table_in.k_high in
    let r = sum_is (2 ^ 40) (tabulate t.k (entry_at t.post.now t.k c.args.i)) c.ln_sum_exp.result.0 (omega arith) (omega arith) (small t.post.now t.k c.args.i t.table_in c.requires) (rw (row_is t.post.now t.k c.args.i t.table_in c.requires) at c.ln_sum_exp.ensures) in
    (r.0, omega (arith, r.1))
