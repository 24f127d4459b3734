use Rattle.std.proofs.Common.{List, ℕ, Contains, length, subst}
use Rattle.std.specs.List.{AllByRecursion as Each}
use Rattle.p21_canon.specs.StatementTexts.{row_of}
use Rattle.p21_mapping_values.proofs.WrittenParams.{on_any}
use Rattle.p21_mapping_values.specs.Spelled.{AreSpelled}
use Rattle.p21_mapping_values.specs.TypedView.{typed_view}
use Rattle.p21_spec_schema.proofs.Orders.{order_within-only}
use Rattle.p21_spec_schema.specs.Supertype.{itself}
use Rattle.p21_canon.proofs.parts.append_internal.Goals as goal

pub append_keyword-requires : goal.append_keyword-requires
append_keyword-requires c = c.requires.row.entities_are _ ((c.requires.closure c.args.leaf.0).1 (itself _))

pub order_of-requires : goal.order_of-requires
order_of-requires c = c.requires.row.entities_are _ ((c.requires.closure c.args.leaf.0).1 (itself _))

pub append_rows-requires-clause-members : goal.append_rows-requires-clause-members
append_rows-requires-clause-members c = λ e among.
    let P : List ℕ → Type 0 = λ es. Contains es e in
    (c.requires.closure e).1 (order_within-only c.args.schema.now (length c.args.schema.now.entities) c.args.leaf.0 e
    (subst P c.order_of.ensures among))

pub returns-clause-spelled : goal.returns-clause-spelled
returns-clause-spelled c =
    let P : List ℕ → Type 0 = λ es. Each (λ e. AreSpelled c.args.schema.now (row_of (typed_view c.args.typed.now) e)) es in
    on_any _ _ (subst P c.order_of.ensures c.in_ok-append_rows.ensures.spelled)
