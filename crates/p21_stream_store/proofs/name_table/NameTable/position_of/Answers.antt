use Rattle.std.proofs.Common.{◌≡◌, ℕ, List, Some, IfSome, IsNone, subst}
use Rattle.std.specs.List.{Contains, slice_get}
use Rattle.p21_stream_store.proofs.PositionLemmas.{absent_where_none, found_at}
use Rattle.p21_stream_store.proofs.name_table.NameTable.position_of.Goals as goal

pub returns-clause-some : goal.returns-clause-some
returns-clause-some c = subst (λ (names : List ℕ). IfSome c.position_found.result (λ place. slice_get names place ≡ Some c.args.name))
    c.self.view_is (found_at _ _ _ _ c.self.inside.names.1.1 c.position_found.ensures)

pub returns-clause-none : goal.returns-clause-none
returns-clause-none c = subst (λ (names : List ℕ). IsNone c.position_found.result → Contains names c.args.name → ⊥) c.self.view_is
    (absent_where_none _ _ _ _ c.self.inside.names.1.1 c.position_found.ensures)
