-- Rows of the names that two files share, where the first one stands under other names than its own.
use Rattle.std.specs.Prelude.{◌≡◌, ◌↔◌, ◌≤◌, ◌<◌, ℕ, List, [], ◌∷◌, ◌++◌, Contains, Option, Some, None, codes}
use Rattle.std.specs.List.{flat_map, AllByRecursion as Each}
use Rattle.p21_difference_rows.specs.Fronts.{both_named, in_both}
use Rattle.p21_difference_rows.specs.declared.row.RowForm.{RowForm}
use Rattle.p21_difference_rows.specs.declared.row.RowForm.TheVariants.{Text, Json}

-- the line of a pair, by the name in the first file and the one in the second: `pair #17/#5`, `{"kind":"pair","a":17,"b":5}`
abbrev pub pair_line : RowForm → ℕ → ℕ → List ℕ
pair_line Text real name = both_named (codes "pair #") real name (codes "\n")
pair_line Json real name = in_both (codes "{\"kind\":\"pair\",") real name (codes "}\n")

-- those of these names
abbrev pub pair_lines : RowForm → (ℕ → ℕ) → List ℕ → List ℕ
pair_lines form real ns = flat_map (λ n. pair_line form (real n) n) ns

-- each is below those behind it
abbrev pub Rise : List ℕ → Type 0
Rise [] = Unit {0}
Rise (n ∷ ns) = Each (λ (m : ℕ). n < m) ns × Rise ns

-- the lines of the names that both lists have, in rising order
pub record ArePairRows (form : RowForm) (real : ℕ → ℕ) (ns others text : List ℕ) : Type 0 where
  pub common : List ℕ
  pub all : (n : ℕ) → Contains common n ↔ (Contains ns n × Contains others n)
  pub rise : Rise common
  pub text_is : text ≡ pair_lines form real common

-- the same of those below a bound
pub record ArePairRowsBelow (form : RowForm) (real : ℕ → ℕ) (ns others : List ℕ) (bound : ℕ) (text : List ℕ) : Type 0 where
  pub common : List ℕ
  pub all : (n : ℕ) → Contains common n ↔ (Contains ns n × Contains others n × n < bound)
  pub rise : Rise common
  pub text_is : text ≡ pair_lines form real common

-- the line of a name is put behind a text, if the list has the name
pub record AddsPair (form : RowForm) (real : ℕ → ℕ) (ns : List ℕ) (name : ℕ) (old new : List ℕ) : Type 0 where
  pub added : List ℕ
  pub all : (n : ℕ) → Contains added n ↔ (Contains ns n × (n ≡ name))
  pub rise : Rise added
  pub new_is : new ≡ old ++ pair_lines form real added

-- the first of these names from a number on
abbrev pub FindsFirst : List ℕ → ℕ → Option ℕ → Type 0
FindsFirst ns least None = (name : ℕ) → least ≤ name → Contains ns name → ⊥
FindsFirst ns least (Some found) = Contains ns found × (least ≤ found) × ((name : ℕ) → least ≤ name → name < found → Contains ns name → ⊥)
