use Rattle.std.specs.Prelude.{◌≡◌, ℕ, List, true, false}
use Rattle.std.specs.List.{AllByRecursion as Each}
use Rattle.std.proofs.Common.{sym, ◌∙◌, subst}
use Rattle.std.proofs.lemmas.Bool.{MatchBool-at_false, MatchBool-at_true}
use Rattle.p21_express_graph.specs.Lookups.{AreEntities}
use Rattle.p21_spec_file.specs.Meaning.{HasPlaceTypes}
use Rattle.p21_mapping.proofs.shape.check_set.Goals as goal
use Rattle.p21_mapping.specs.Shape.{HasOpenPlace}

pub has_open_place-requires : goal.has_open_place-requires
has_open_place-requires c = subst (AreEntities c.args.schema.now) (sym c.in_ok-positions.ensures) c.requires

pub returns-then-found : goal.returns-then-found
returns-then-found c = subst (HasOpenPlace c.args.schema.now) c.in_ok-positions.ensures
    (MatchBool-at_true _ _ c.if-found.true c.in_ok-found.ensures)

pub returns : goal.returns
returns c = (
  λ clashes. (let t : true ≡ false = sym (c.in_ok-clashes.ensures.1 clashes) ∙ c.if-clashes.false in cc),
  subst (λ (es : List ℕ). Each (HasPlaceTypes c.args.schema.now es) es) c.in_ok-positions.ensures
      (MatchBool-at_false _ _ c.if-found.false c.in_ok-found.ensures),
)
