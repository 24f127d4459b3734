-- A set of texts, for look-ups.
use Rattle.std.specs.Prelude.{◌↔◌, ℕ, List, Bool, Contains, IsTrue}
use Rattle.std.specs.Prelude as std
use Rattle.std.specs.BTreeSet.{BTreeSet, contains_by}
use Rattle.std.specs.Cmp.Lexicographic.{slice_cmp}
use Rattle.std.specs.Ordering.{nat_cmp}
use Rattle.std.specs.declared.alloc.Global.{Global}

-- whether the set has a text
abbrev pub has_text : BTreeSet (std.Vec ℕ Global) → List ℕ → Bool
has_text set text = contains_by (λ (other : std.Vec ℕ Global). slice_cmp nat_cmp text other.items) set

-- the set has these texts, and no others
abbrev pub HasTexts : BTreeSet (std.Vec ℕ Global) → List (List ℕ) → Type 0
HasTexts set texts = (text : List ℕ) → IsTrue (has_text set text) ↔ Contains texts text
