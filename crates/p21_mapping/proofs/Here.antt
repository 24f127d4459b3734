-- A parameter at one place.
use Rattle.std.specs.Prelude.{◌≡◌, ℕ, suc, ◌<◌, ◌≤◌, List, [], ◌∷◌, length, Result, Ok, Err, MatchResult, refl}
use Rattle.std.proofs.Common.{arith, ap, sym, ◌∙◌}
use Rattle.std.proofs.lemmas.List.{map-append}
use Rattle.p21_spec_exchange.specs.Parameter.{Param, listed}
use Rattle.p21_grammar_tree.specs.declared.record.Part as tree
use Rattle.p21_grammar_tree.specs.View.{items_of, part_view}
use Rattle.p21_spec_file.specs.Reference as reference
use Rattle.p21_spec_file.specs.Value as meant
use Rattle.p21_grammar_tree.specs.declared.param.Param.{Param as Parameter}
use Rattle.p21_mapping.proofs.RowLists.{row-left}
use Rattle.p21_mapping.specs.Rows.{FitsHere, RefusesHere, RowSoFar, param_views}
use Rattle.p21_mapping.specs.Outcome.{FitsPlaceOrBreaks, needs_view}
use Rattle.p21_grammar_tree.specs.declared.fault.CheckFault.{CheckFault}
use Rattle.p21_mapping_values.specs.declared.need.Need.{Need}
use Rattle.p21_mapping_values.specs.declared.value.Value.{Value}
use Rattle.p21_mapping_values.specs.TypedView.{need_view}
use Rattle.p21_mapping_values.specs.View.{view}
use Rattle.p21_spec_schema.specs.PlaceType.{PlaceType, TypeAt}
use Rattle.p21_spec_schema.specs.Schema.{Schema, Place, attributes_of}
use Rattle.p21_spec_exchange.proofs.Parameters.{listed-params}

pub here : (s : Schema) (entities : List ℕ) (place : Place) (at : PlaceType) (p : Param) (old new : List Need)
    (result : Result Value CheckFault) → TypeAt s entities place at → FitsPlaceOrBreaks s at p old result new
    → MatchResult result (λ found. FitsHere s entities place p (view found) (needs_view old) (needs_view new))
    (RefusesHere s entities place p)
here s entities place at p old new (Ok v) type_at found = (
  needs_view found.added,
  ap needs_view found.needs_are
      ∙ map-append need_view old found.added,
  (at, type_at, found.fits.fits, found.fits.known),
)
here s entities place at p old new (Err fault) type_at broken = λ other. (at, type_at, broken other)

pub param_views-length : (ps : List Parameter) → length (param_views ps) ≡ length ps
param_views-length [] = refl
param_views-length (p ∷ ps) = ap suc (param_views-length ps)

-- while places are left, parameters are
pub row-room : (s : Schema) (entities : List ℕ) (owner index : ℕ) (xs ys : List Parameter) (values : List meant.Value)
    (old new : List reference.Need) → RowSoFar s entities owner index (param_views xs) (param_views ys) values old new
    → index < length (attributes_of s owner) → length (attributes_of s owner) ≤ length xs → length ys ≡ 0 → ⊥
row-room s entities owner index xs ys values old new row below enough none =
    absurd (omega (
      arith,
      row-left s entities owner index (param_views xs) (param_views ys) values old new row,
      param_views-length xs,
      param_views-length ys,
      below,
      enough,
      none,
    ))

pub part-params : (part : tree.Part) → param_views (items_of part.params) ≡ listed (part_view part).params
part-params part = sym (listed-params (param_views (items_of part.params)))
