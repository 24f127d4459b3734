use Rattle.std.proofs.Common.{◌≡◌, ◌<◌, ◌≤◌, ◌^◌, ℕ, List, IfSome, Some, subst}
use Rattle.std.specs.List.{Contains, slice_get}
use Rattle.p21_stream_store.proofs.PositionLemmas.{absent_between, absent_from, fits_there, found_there}
use Rattle.p21_stream_store.proofs.name_table.NameTable.next_from.Goals as goal

pub returns-clause-found : goal.returns-clause-found
returns-clause-found c =
    subst (λ (names : List ℕ). IfSome c.next_position.result
    (λ found. (c.args.least ≤ found.0) × (found.0 < 2 ^ 64) × (slice_get names found.1 ≡ Some found.0))) c.self.view_is
    (found_there _ _ c.self.inside.names.1.1 _ c.next_position.result c.next_position.ensures.found)

pub returns-clause-between : goal.returns-clause-between
returns-clause-between c =
    subst (λ (names : List ℕ). IfSome c.next_position.result
    (λ found. (other : ℕ) → c.args.least ≤ other → other < found.0 → Contains names other → ⊥)) c.self.view_is
    (absent_between _ _ c.self.inside.names.1.1 _ c.next_position.result c.next_position.ensures.between)

pub returns-clause-none : goal.returns-clause-none
returns-clause-none c e = subst (λ (names : List ℕ). (other : ℕ) → c.args.least ≤ other → Contains names other → ⊥) c.self.view_is
    (absent_from _ _ c.self.inside.names.1.1 _ (c.next_position.ensures.none e))

pub returns-clause-fits : goal.returns-clause-fits
returns-clause-fits c = subst (λ (names : List ℕ). (other : ℕ) → Contains names other → other < 2 ^ 64) c.self.view_is
    (fits_there _ _ c.self.inside.names.1.1)
