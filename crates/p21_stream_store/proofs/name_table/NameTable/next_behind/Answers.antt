use Rattle.std.proofs.Common.{◌≡◌, ◌+◌, ◌<◌, ◌≤◌, ◌^◌, ℕ, List, IfSome, Some, subst}
use Rattle.std.specs.List.{Contains, slice_get}
use Rattle.p21_stream_store.proofs.PositionLemmas.{absent_between, absent_from, found_there, once_there}
use Rattle.p21_stream_store.specs.Numbering.{AreOnce}
use Rattle.p21_stream_store.proofs.name_table.NameTable.next_behind.Goals as goal

pub returns-clause-found : goal.returns-clause-found
returns-clause-found c =
    subst (λ (names : List ℕ). IfSome c.position_behind.result
    (λ found. (c.args.name + 1 ≤ found.0) × (found.0 < 2 ^ 64) × (slice_get names found.1 ≡ Some found.0))) c.self.view_is
    (found_there _ _ c.self.inside.names.1.1 _ c.position_behind.result c.position_behind.ensures.found)

pub returns-clause-between : goal.returns-clause-between
returns-clause-between c =
    subst (λ (names : List ℕ). IfSome c.position_behind.result
    (λ found. (other : ℕ) → c.args.name + 1 ≤ other → other < found.0 → Contains names other → ⊥)) c.self.view_is
    (absent_between _ _ c.self.inside.names.1.1 _ c.position_behind.result c.position_behind.ensures.between)

pub returns-clause-none : goal.returns-clause-none
returns-clause-none c e = subst (λ (names : List ℕ). (other : ℕ) → c.args.name + 1 ≤ other → Contains names other → ⊥) c.self.view_is
    (absent_from _ _ c.self.inside.names.1.1 _ (c.position_behind.ensures.none e))

pub returns-clause-once : goal.returns-clause-once
returns-clause-once c = subst (λ (names : List ℕ). AreOnce names) c.self.view_is (once_there _ _ c.self.inside.names.1.1)
