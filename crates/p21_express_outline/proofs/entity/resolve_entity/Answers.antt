use Rattle.std.specs.Prelude.{ℕ, List, map, refl}
use Rattle.std.specs.List.{AllZip}
use Rattle.std.proofs.Common.{ap}
use Rattle.p21_express_outline.specs.Entities.{EntityFound}
use Rattle.p21_express_outline.specs.Known.{names_of}
use Rattle.p21_express_outline.specs.Outline.{IsNamed}
use Rattle.p21_express_syntax.specs.Views.{entity_view}
use Rattle.p21_express_graph.specs.SchemaContents.{entity, redeclared}
use Rattle.p21_express_graph.specs.Meaning.{place}
use Rattle.p21_express_outline.proofs.Finding.{find-refused}
use Rattle.p21_express_outline.proofs.entity.resolve_entity.Goals as goal
use Rattle.p21_spec_basics.proofs.Members.{AllZip-turned}

pub returns-in_err-supertypes : goal.returns-in_err-supertypes
returns-in_err-supertypes c =
    let names = c.args.declared.now.supertypes.items in
    let Each : List ℕ → Type 0 = λ ys. AllZip (λ name e. IsNamed (names_of c.args.known.now).entities e name) names ys in
    find-refused entity (EntityFound (names_of c.args.known.now) (entity_view c.args.declared.now)) Each c.in_err-supertypes.field-0.0
    c.from_residual-in_err-supertypes.result
    c.from_residual-in_err-supertypes.ensures.0 c.from_residual-in_err-supertypes.ensures.1
    (λ y h. (y.supertypes, AllZip-turned (IsNamed (names_of c.args.known.now).entities) y.supertypes names h.0.supertypes_are))
    (rw c.deref-2.ensures.value at c.in_err-supertypes.ensures)

pub returns : goal.returns
returns c = (
  record {
    name_is = c.in_ok-copied.ensures;
    abstract_is = refl;
    supertypes_are = AllZip-turned (λ name e. IsNamed (names_of c.args.known.now).entities e name) c.args.declared.now.supertypes.items
        (map (λ e. e.0) c.in_ok-supertypes.supertypes.items) (rw c.deref-2.ensures.value at c.in_ok-supertypes.ensures);
    attributes_are = rw c.deref-3.ensures.value at c.in_ok-attributes.ensures;
    supertypes_distinct = rw c.deref.ensures.value at c.in_ok-check_distinct.ensures;
    names_distinct = c.in_ok-check_attribute_names.ensures;
  },
  ap (map redeclared) c.new.ensures.items,
  ap (map place) c.new-2.ensures.items,
)
