-- What holds of the closure of an entity holds of each list with the same members.
use Rattle.std.specs.Prelude.{ℕ, List}
use Rattle.p21_spec_basics.proofs.Members.{Contains-flat_map, Contains-one_of, Each-of_members}
use Rattle.p21_spec_exchange.specs.Record.{Part, simple}
use Rattle.p21_schema.specs.OwnSets.{LeavesOpen}
use Rattle.p21_express_graph.specs.Resolved.{HoldsTogether}
use Rattle.p21_spec_file.specs.Meaning.{HasPlaceTypes, NamesEntity}
use Rattle.p21_spec_file.specs.RecordPlaces.{IsEntitySetOf}
use Rattle.p21_mapping.proofs.Redeclaring.{type-there}
use Rattle.p21_mapping.proofs.Shapes.{leaf-breaks, set-refuses, simple-leaf, simple-set}
use Rattle.p21_express_graph.specs.Rising.{HaveSame}
use Rattle.p21_mapping.specs.declared.shape.Listed.{Listed}
use Rattle.p21_mapping.specs.declared.shape.Listed.TheVariants.{Named, Order}
use Rattle.p21_mapping.specs.Shape.{AreListed, HasOpenPlace, IsOwnClosure, PassesOwnSet, PassesSet, Refuses, RefusesOwnSet, own_of}
use Rattle.p21_grammar_tree.specs.declared.fault.CheckFault.{CheckFault}
use Rattle.p21_grammar_tree.specs.declared.fault.CheckFault.TheVariants.{Abstract, OneOf, TwoRedeclarations}
use Rattle.p21_spec_schema.specs.OneOf.{Clashes}
use Rattle.p21_spec_schema.specs.Order.{order, own_places}
use Rattle.p21_spec_schema.specs.PlaceType.{PlaceType, TypeAt, two_redeclarations}
use Rattle.p21_spec_schema.specs.Schema.{Schema, Place}
use Rattle.p21_spec_schema.specs.WellFormed.{HasDistinctEntities}

-- an entity whose closure the set is, is one of the schema
pub own-listed : (s : Schema) (listed : Listed) (entities : List ℕ) → IsOwnClosure s (own_of listed) entities → AreListed s listed
own-listed s (Order e) entities own = own.0
own-listed s (Named es) entities own = tt

pub same-itself : (es : List ℕ) → HaveSame es es
same-itself es f = (λ among. among, λ among. among)

pub same-turned : (es fs : List ℕ) → HaveSame es fs → HaveSame fs es
same-turned es fs same f = ((same f).1, (same f).0)

clashes-same : (s : Schema) (es fs : List ℕ) → HaveSame es fs → Clashes s es → Clashes s fs
clashes-same s es fs same (listed, is, (e, f, e_listed, f_listed, differ, e_among, f_among)) =
    (listed, is, (e, f, e_listed, f_listed, differ, (same e).0 e_among, (same f).0 f_among))

-- the type at a place depends on the members alone
pub type-same : (s : Schema) (es fs : List ℕ) → HaveSame es fs → (place : Place) (at : PlaceType) → TypeAt s es place at
    → TypeAt s fs place at
type-same s es fs same place at is = type-there s es fs place (λ e redeclares. same e) at is

module _ (s : Schema) (e : ℕ) where
  open-place : LeavesOpen s e → HasOpenPlace s (order s e)
  open-place (place, (among, two)) = let (f, in_order, own) = Contains-one_of (own_places s) (order s e) place among in
      (f, in_order, (place, own, two))

  -- the closure of an entity passes as a set
  pub own-passes : (entities : List ℕ) → HaveSame (order s e) entities → PassesOwnSet s e → PassesSet s entities
  own-passes entities same (_, no_clash, no_open) = (
    λ clashes. no_clash (clashes-same s entities (order s e) (same-turned (order s e) entities same) clashes),
    Each-of_members (HasPlaceTypes s entities) entities
        (λ f among. Each-of_members (λ place. ¬ TypeAt s entities place two_redeclarations) (own_places s f) (λ place own two.
        no_open (
          place,
          (
            Contains-flat_map (own_places s) (order s e) f place ((same f).1 among) own,
            type-same s entities (order s e)
                (same-turned (order s e) entities same) place two_redeclarations two,
          ),
        ))),
  )

  -- what is wrong with the closure of an entity is wrong with a record of internal form that names it
  pub own-refuses : HoldsTogether s → HasDistinctEntities s → (part : Part) → NamesEntity s part.key e → (fault : CheckFault)
      → RefusesOwnSet s e fault → Refuses s (simple part) fault
  own-refuses holds distinct part named fault refuses = by fault refuses
    where
      set_is : IsEntitySetOf s (simple part) (order s e)
      set_is = simple-set s holds distinct part e (order s e) named (same-itself (order s e))

      by : (fault : CheckFault) → RefusesOwnSet s e fault → Refuses s (simple part) fault
      by Abstract is _ = leaf-breaks s (simple part) (order s e) set_is (simple-leaf s holds e (order s e) (same-itself (order s e)) is)
      by OneOf clashes other = set-refuses s (simple part) (order s e) set_is OneOf clashes other
      by TwoRedeclarations open_ other = set-refuses s (simple part) (order s e) set_is TwoRedeclarations (open-place open_) other
      by other none _ = absurd none
