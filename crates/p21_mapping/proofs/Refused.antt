-- What the entities and the parameters of a record come to.
use Rattle.std.specs.Prelude.{◌≡◌, ℕ, ◌<◌, List, [], length, map, Contains, MatchResult, Result, Ok, Err}
use Rattle.std.specs.List.{AllByRecursion as Each, flat_map, zip}
use Rattle.std.proofs.Common.{ap, sym, ◌∙◌, subst, Vec, Global}
use Rattle.std.proofs.lemmas.List.{append-nil}
use Rattle.p21_spec_basics.proofs.Members.{Contains-first, Each-member, Each-of_members}
use Rattle.p21_spec_exchange.specs.Parameter.{Param, listed}
use Rattle.p21_spec_exchange.specs.Record.{Part, Record, simple, complex}
use Rattle.p21_express_graph.specs.Lookups.{AreEntities}
use Rattle.p21_express_graph.proofs.Lookups.{rising-known}
use Rattle.p21_spec_file.specs.BrokenRule.{Breaks, at_place}
use Rattle.p21_spec_file.specs.Meaning.{HasPlaceTypes}
use Rattle.p21_spec_file.specs.RecordPlaces.{HasParamAt}
use Rattle.p21_spec_file.specs.Reference.{Need}
use Rattle.p21_mapping.specs.ArrangedRows.{HasRows}
use Rattle.p21_mapping.specs.Rows.{BreaksAmong, TakesRows, TakesParts, RefusesAmong, RefusesPart}
use Rattle.p21_mapping.specs.Shape.{HasShape, Refuses}
use Rattle.p21_grammar_tree.specs.declared.fault.CheckFault.{CheckFault}
use Rattle.p21_grammar_tree.specs.Fault.{fault_number}
use Rattle.p21_mapping_values.specs.declared.value.Values.{Values as Stored}
use Rattle.p21_mapping_values.specs.TypedView.{rows_view}
use Rattle.p21_spec_schema.specs.Order.{own_places}
use Rattle.p21_spec_schema.specs.Schema.{Schema, Place}

pub listed-within : (s : Schema) (r : Record) (es entities : List ℕ) → HasShape s r es entities → AreEntities s es
listed-within s r es entities shape e among = rising-known s entities shape.rising e ((shape.same e).0 among)

pub listed-decided : (s : Schema) (r : Record) (es entities : List ℕ) → HasShape s r es entities → Each (HasPlaceTypes s entities) es
listed-decided s r es entities shape = Each-of_members (HasPlaceTypes s entities) es
    (λ e among. Each-member (HasPlaceTypes s entities) entities e shape.place_types ((shape.same e).0 among))

pub simple-long : (s : Schema) (part : Part) (es entities : List ℕ) → HasShape s (simple part) es entities
    → length (listed part.params) ≡ length (flat_map (own_places s) es)
simple-long s part es entities shape = let (e, named, is) = shape.listed_are in shape.counts part e (Contains-first part [], named)
    ∙ ap (λ xs. length (flat_map (own_places s) xs)) (sym is)

-- what is broken at a place the record breaks
broken : (s : Schema) (r : Record) (es entities : List ℕ) → HasShape s r es entities → (pairs : List (Place × Param))
    → ((place : Place) (p : Param) → Contains pairs (place, p) → HasParamAt s r place p) → (number : ℕ)
    → BreaksAmong s entities pairs number → Breaks s r number
broken s r es entities shape pairs stands number (place, p, among, (at, type_at, breaks)) =
    at_place number (entities, place, at, p, shape.set_is, type_at, stands place p among, breaks)

pub simple-refused : (s : Schema) (part : Part) (es entities : List ℕ) → HasShape s (simple part) es entities → (number : ℕ)
    → BreaksAmong s entities (zip (flat_map (own_places s) es) (listed part.params)) number → Breaks s (simple part) number
simple-refused s part es entities shape number breaks =
    let (e, named, is) = shape.listed_are in
    broken s (simple part) es entities shape (zip (flat_map (own_places s) es) (listed part.params))
    (λ place p among. (
      part,
      e,
      (Contains-first part [], named),
      let P : List ℕ
          → Type 0 = λ xs. Contains (zip (flat_map (own_places s) xs) (listed part.params)) (place, p) in subst P is among,
    )) number breaks

pub complex-refused : (s : Schema) (parts : List Part) (es entities : List ℕ) → HasShape s (complex parts) es entities
    → (fault : CheckFault) → RefusesPart s entities parts fault → Refuses s (complex parts) fault
complex-refused s parts es entities shape fault refuses other =
    let (part, e, has, breaks) = refuses other in
    broken s (complex parts) es entities shape (zip (own_places s e) (listed part.params)) (λ place p among. (part, e, has, among))
    (fault_number fault) breaks

-- ---- rows

pub simple-rows : (s : Schema) (part : Part) (es entities : List ℕ) (params : List Param) (old new : List Need)
    (result : Result (Vec Stored Global) CheckFault) → HasShape s (simple part) es entities → params ≡ listed part.params
    → MatchResult result (λ rows. TakesRows s entities es params [] (rows_view rows.items) old new)
    (RefusesAmong s entities (zip (flat_map (own_places s) es) params))
    → MatchResult result (λ rows. HasRows s (simple part) es entities (rows_view rows.items) old new) (Refuses s (simple part))
simple-rows s part es entities params old new (Ok rows) shape are takes = record {
  params = takes.params;
  added = takes.added;
  needed = takes.needed;
  fits = takes.fits;
  cut = sym (append-nil (flat_map (λ (ps : List Param). ps) takes.params)) ∙ sym takes.taken ∙ are;
}
simple-rows s part es entities params old new (Err fault) shape are refuses = λ other.
    let P : List Param → Type 0 = λ ps. BreaksAmong s entities (zip (flat_map (own_places s) es) ps) (fault_number fault) in
    simple-refused s part es entities shape (fault_number fault) (subst P are (refuses other))

pub complex-rows : (s : Schema) (parts : List Part) (es entities : List ℕ) (old new : List Need)
    (result : Result (Vec Stored Global) CheckFault) → HasShape s (complex parts) es entities → 0 < length parts
    → MatchResult result (λ rows. TakesParts s entities es parts [] (rows_view rows.items) old new) (RefusesPart s entities parts)
    → MatchResult result (λ rows. HasRows s (complex parts) es entities (rows_view rows.items) old new) (Refuses s (complex parts))
complex-rows s parts es entities old new (Ok rows) shape some takes = record {
  params = map (λ (part : Part). listed part.params) takes.parts;
  added = takes.added;
  needed = takes.needed;
  fits = takes.fits;
  cut = (ap (map (λ (part : Part). listed part.params)) (sym (append-nil takes.parts) ∙ sym takes.taken), some);
}
complex-rows s parts es entities old new (Err fault) shape some refuses = complex-refused s parts es entities shape fault refuses
