use Rattle.std.specs.Prelude.{map}
use Rattle.std.specs.List.{IsDistinct}
use Rattle.p21_spec_schema.specs.DeclaredEntity.{same_place}
use Rattle.p21_express_outline.specs.Known.{names_of}
use Rattle.p21_express_syntax.specs.Views.{entity_view}
use Rattle.p21_express.proofs.Resolving.{found-refused, distinct-all, all-found, code_places}
use Rattle.p21_express.proofs.redeclarations.redeclarations_of.Goals as goal

pub returns-in_err-check_places : goal.returns-in_err-check_places
returns-in_err-check_places c =
    let s = c.args.hierarchy.now in
    let n = names_of c.args.known.now in
    let entities = map entity_view c.args.declared.now in
    let rs = c.in_ok-redeclared.redeclared.items in
    let ds = c.in_ok-derived.derived.items in
    found-refused s n entities c.args.entity.0 (entity_view c.args.own.now) (IsDistinct same_place (code_places rs ds))
    c.in_err-check_places.field-0.0 c.from_residual-in_err-check_places.result
    c.from_residual-in_err-check_places.ensures.0 c.from_residual-in_err-check_places.ensures.1
    (distinct-all s c.well_formed-2.ensures.entities_distinct c.requires.names.distinct n entities c.args.entity.0
    (entity_view c.args.own.now) rs ds (rw c.deref.ensures.value at c.in_ok-redeclared.ensures)
    (rw c.deref-2.ensures.value at c.in_ok-derived.ensures))
    (rw (c.deref-3.ensures.value, c.deref-4.ensures.value) at c.in_err-check_places.ensures)

pub returns : goal.returns
returns c =
    all-found c.args.hierarchy.now (names_of c.args.known.now) (map entity_view c.args.declared.now) c.args.entity.0
    (entity_view c.args.own.now) c.in_ok-redeclared.redeclared c.in_ok-derived.derived
    (rw c.deref.ensures.value at c.in_ok-redeclared.ensures) (rw c.deref-2.ensures.value at c.in_ok-derived.ensures)
    (rw (c.deref-3.ensures.value, c.deref-4.ensures.value) at c.in_ok-check_places.ensures)
