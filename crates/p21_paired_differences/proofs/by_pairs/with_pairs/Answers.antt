use Rattle.std.specs.Prelude.{ℕ, List, ◌++◌}
use Rattle.std.proofs.Common.{ap, sym, subst, ◌∙◌}
use Rattle.p21_difference_rows.specs.RealNames.{by_map}
use Rattle.p21_paired_differences.specs.Shown.{IsBehindRows}
use Rattle.p21_paired_differences.specs.declared.by_pairs.PairRows.{PairRows}
use Rattle.p21_spec_numbering.specs.Renamed.{names}
use Rattle.p21_paired_differences.proofs.by_pairs.with_pairs.Goals as goal

pub returns-in_ok-extend_from_slice-in-Shown-clause-text : goal.returns-in_ok-extend_from_slice-in-Shown-clause-text
returns-in_ok-extend_from_slice-in-Shown-clause-text c a b are are_ =
    let Stands : PairRows → Type 0 = λ pairs. IsBehindRows pairs c.args.form (by_map c.args.names.now) (names a) (names b)
    c.args.list.text.items c.extend_from_slice.new.self.items in
    subst Stands (sym c.in-Shown.is) (
      _,
      c.in_ok-text-in-Shown.ensures a b are are_,
      c.in_ok-extend_from_slice-in-Shown.ensures.items
          ∙ ap (λ (l : List ℕ). c.in_ok-text-in-Shown.text.items ++ l) c.deref.ensures.value,
    )
