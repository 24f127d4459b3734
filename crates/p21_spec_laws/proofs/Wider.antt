-- What fits among some instances fits among more, so a record has one meaning at most whatever the other instances.
use Rattle.std.specs.Prelude.{ℕ, List, [], ◌∷◌}
use Rattle.std.specs.List.{AllZip}
pub use Rattle.p21_spec_file.proofs.FitsWider.{IsWider}
use Rattle.p21_spec_file.proofs.FitsWider.{fits-wider}
use Rattle.p21_spec_file.specs.Fits.{FitsAt, star, dollar, fits}
use Rattle.p21_spec_file.specs.Meaning.{Typed, FitPlaces, PartMeans, MeansByMapping, RecordMeans}
use Rattle.p21_spec_schema.specs.Order.{places, own_places}
use Rattle.p21_spec_exchange.specs.Parameter.{Param, Params, no_params, param}
use Rattle.p21_spec_schema.specs.PlaceType.{PlaceType}
use Rattle.p21_spec_exchange.specs.Record.{Part, Record, simple, complex}
use Rattle.p21_spec_file.specs.Reference.{EntitySets}
use Rattle.p21_spec_schema.specs.Schema.{Schema, Place}
use Rattle.p21_spec_file.specs.Value.{Value}

at-wider : (s : Schema) (kinds wide : EntitySets) → IsWider kinds wide → (at : PlaceType) (p : Param) (v : Value) → FitsAt s kinds at p v → FitsAt s wide at p v
at-wider s kinds wide wider at p v star = star
at-wider s kinds wide wider at p v (dollar type) = dollar type
at-wider s kinds wide wider at p v (fits optional type _ _ fit) = fits optional type p v (fits-wider s kinds wide wider type p v fit)

places-wider : (s : Schema) (kinds wide : EntitySets) → IsWider kinds wide → (a : Typed) (ps : List Place) (xs : Params) → FitPlaces s kinds a ps xs → FitPlaces s wide a ps xs
places-wider s kinds wide wider a [] no_params fit = tt
places-wider s kinds wide wider a [] (param x xs) fit = absurd fit
places-wider s kinds wide wider a (p ∷ ps) no_params fit = absurd fit
places-wider s kinds wide wider a (p ∷ ps) (param x xs) ((at, v, type_at, fit, has), more) = ((at, v, type_at, at-wider s kinds wide wider at x v fit, has), places-wider s kinds wide wider a ps xs more)

parts-wider : (s : Schema) (kinds wide : EntitySets) → IsWider kinds wide → (a : Typed) (parts : List Part) (es : List ℕ) → AllZip (PartMeans s kinds a) parts es → AllZip (PartMeans s wide a) parts es
parts-wider s kinds wide wider a [] [] all = tt
parts-wider s kinds wide wider a [] (e ∷ es) all = absurd all
parts-wider s kinds wide wider a (p ∷ ps) [] all = absurd all
parts-wider s kinds wide wider a (p ∷ ps) (e ∷ es) all = ((all.0.0, places-wider s kinds wide wider a (own_places s e) p.params all.0.1), parts-wider s kinds wide wider a ps es all.1)

mapping-wider : (s : Schema) (kinds wide : EntitySets) → IsWider kinds wide → (r : Record) (a : Typed) → MeansByMapping s kinds r a → MeansByMapping s wide r a
mapping-wider s kinds wide wider (simple part) a means = record { entity = means.entity; named = means.named; closure = means.closure; fit = places-wider s kinds wide wider a (places s means.entity) part.params means.fit }
mapping-wider s kinds wide wider (complex parts) a means = record {
  some_parts = means.some_parts;
  entities = means.entities;
  distinct = means.distinct;
  same_entities = means.same_entities;
  closed = means.closed;
  parts_mean = parts-wider s kinds wide wider a parts means.entities means.parts_mean;
}

pub record-wider : (s : Schema) (kinds wide : EntitySets) → IsWider kinds wide → (r : Record) (a : Typed) → RecordMeans s kinds r a → RecordMeans s wide r a
record-wider s kinds wide wider r a means = record {
  rising = means.rising;
  own_counts = means.own_counts;
  no_abstract_leaf = means.no_abstract_leaf;
  no_clash = means.no_clash;
  place_types = means.place_types;
  means = mapping-wider s kinds wide wider r a means.means;
}
