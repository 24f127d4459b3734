-- A list behind rows of pairs, by the names of two files.
use Rattle.std.specs.Prelude.{◌≡◌, ℕ, List, ◌++◌}
use Rattle.p21_difference_rows.specs.Pairs.{ArePairRows}
use Rattle.p21_difference_rows.specs.declared.row.RowForm.{RowForm}
use Rattle.p21_paired_differences.specs.declared.by_pairs.PairRows.{PairRows}
use Rattle.p21_paired_differences.specs.declared.by_pairs.PairRows.TheVariants.{Hidden, Shown}

-- the list as it is, or behind the rows of the names that both lists have
abbrev pub IsBehindRows : PairRows → RowForm → (ℕ → ℕ) → List ℕ → List ℕ → List ℕ → List ℕ → Type 0
IsBehindRows Hidden form real ns others list text = text ≡ list
IsBehindRows Shown form real ns others list text = (rows : List ℕ) × ArePairRows form real ns others rows × (text ≡ rows ++ list)
