use Rattle.std.specs.Prelude.{ℕ, List, nat_eq}
use Rattle.std.specs.List.{IsDistinct}
use Rattle.std.proofs.Common.{sym, subst}
use Rattle.p21_express_graph.specs.Lookups.{AreEntities}
use Rattle.p21_mapping.specs.Shape.{IsClosed, LacksSupertype}
use Rattle.p21_mapping.proofs.shape.check_members.Goals as goal

pub is_closed-requires : goal.is_closed-requires
is_closed-requires c = let P : List ℕ → Type 0 = λ es. AreEntities c.args.schema.now es in
    subst P (sym c.in_ok-positions.ensures) c.requires

pub returns-then-not-is_closed : goal.returns-then-not-is_closed
returns-then-not-is_closed c = let P : List ℕ → Type 0 = λ es. LacksSupertype c.args.schema.now es in
    subst P c.in_ok-positions.ensures c.if-not-is_closed.ensures

pub returns : goal.returns
returns c =
    let P : List ℕ → Type 0 = λ es. IsDistinct nat_eq es in
    let Q : List ℕ → Type 0 = λ es. IsClosed c.args.schema.now es in
    (subst P c.in_ok-positions.ensures c.if-has_twice.ensures, subst Q c.in_ok-positions.ensures c.if-not-is_closed.ensures)
