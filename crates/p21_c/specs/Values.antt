-- What the calls of C answer of a value.
use Rattle.std.specs.Prelude.{ℕ}
use Rattle.p21_model_values.specs.declared.kind.Kind.{Kind}
use Rattle.p21_model_values.specs.declared.kind.Kind.TheVariants as kind

-- the number of a kind
abbrev pub kind_number : Kind → ℕ
kind_number kind.Missing = 0
kind_number kind.Derived = 1
kind_number kind.Whole = 2
kind_number kind.Real = 3
kind_number kind.Text = 4
kind_number kind.Item = 5
kind_number kind.Bits = 6
kind_number kind.Reference = 7
kind_number kind.Aggregate = 8
kind_number kind.Typed = 9
