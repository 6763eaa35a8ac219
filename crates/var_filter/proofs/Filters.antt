-- The filters that `var_filter` writes, variant by variant: those below v are written, and the window tells what earlier variants mark.
-- Assumes nothing.
use Rattle.std.proofs.Common.{◌≡◌, ℕ, suc, ◌+◌, ◌<◌, ltb, List, set, refl, sym, ◌∙◌, arith, add-one, le-ltb}
use Rattle.var_filter.specs.declared.scan.Scan.{Scan}
use Rattle.var_filter.specs.declared.window.Window.{Window}
use Rattle.variants_and_fragments.specs.Layout.{depth_at}
use Rattle.variants_and_fragments.specs.Decode.{decode}
use Rattle.variants_and_fragments.specs.Written.{written}
use Rattle.variants_and_fragments.proofs.Written.{written_on}
use Rattle.var_filter.specs.Filter.{any_below, limits_of, joined_reasons, marked_dense, too_deep, filter_of}
use Rattle.var_filter.specs.Inner.FilterWindow.{WindowAt, Slid}
use Rattle.var_filter.proofs.Density.{covers, covers_on}
use Rattle.var_filter.proofs.Windows.{count_is, depth_is, window_start, reach_to}

-- variant v's filter, with b as the allele bytes
abbrev pub filter_at : Scan → ℕ → List ℕ → ℕ → ℕ
filter_at scan max_depth b v = filter_of (decode scan.case.laid.words.now b) scan.quals.now (limits_of scan.density max_depth) v

-- whatever the allele bytes b: the filters below v are written, and m lies in a stretch of an earlier variant where it is below marked_end
pub record FiltersTo (scan : Scan) (max_depth : ℕ) (before : List ℕ) (v : ℕ) (x : Window) (filters : List ℕ) : Type 0 where
  pub window : WindowAt scan v x
  pub covered : (b : List ℕ) (m : ℕ) → covers (decode scan.case.laid.words.now b) scan.quals.now (limits_of scan.density max_depth) v m ≡ ltb m x.marked_end
  pub below : (b : List ℕ) → filters ≡ written (filter_at scan max_depth b) v before

module _ {scan : Scan} {max_depth : ℕ} {before : List ℕ} where
  pub filters_start : {x : Window} → x.end ≡ 0 → x.ahead ≡ 0 → x.strong_end ≡ 0 → x.marked_end ≡ 0 → FiltersTo scan max_depth before 0 x before
  unfolding any_below written
  filters_start {x} e a s m = record { window = window_start e a s m; covered = λ b k. sym (le-ltb k x.marked_end (omega arith)); below = λ b. refl }

  -- v is visited, and its filter is written
  module _ {v : ℕ} {x y : Window} {filters : List ℕ} (h : v < scan.case.laid.sizes.n) (to : FiltersTo scan max_depth before v x filters) (slid : Slid scan v x y) where
    covered_on : (b : List ℕ) (m : ℕ) → covers (decode scan.case.laid.words.now b) scan.quals.now (limits_of scan.density max_depth) (suc v) m ≡ ltb m y.marked_end
    covered_on b m =
        covers_on (decode scan.case.laid.words.now b) scan.quals.now (limits_of scan.density max_depth) v y.end (reach_to b max_depth h slid.window slid.ends) y.ahead slid.window.ahead_is y.strong_end x.marked_end y.marked_end slid.window.strong_end_is slid.grows slid.marks (to.covered b) m

    filter_is : (b : List ℕ) → joined_reasons (ltb v y.marked_end) (ltb max_depth (depth_at scan.case.laid.words.now v)) ≡ filter_at scan max_depth b v
    unfolding filter_of marked_dense too_deep
    filter_is b = let same = count_is scan in rw (← covered_on b v, ← depth_is scan.case.laid.words.now b v (omega arith))

    pub filters_on : (byte : ℕ) → byte ≡ joined_reasons (ltb v y.marked_end) (ltb max_depth (depth_at scan.case.laid.words.now v)) → FiltersTo scan max_depth before (v + 1) y (set filters v byte)
    filters_on byte e = record {
      window = rw (add-one v) slid.window;
      covered = λ b m. rw (add-one v) (covered_on b m);
      below = λ b. written_on _ v before filters byte (to.below b) (e ∙ filter_is b);
    }
