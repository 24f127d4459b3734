-- Sets of entities, each with its number.
use Rattle.std.specs.Prelude.{◌≤◌, ℕ, List, length, map}
use Rattle.std.specs.List.{AllByRecursion as Each}
use Rattle.std.specs.Arc.{arc_slice_items}
use Rattle.std.specs.BTreeMap.{BTreeMap}
use Rattle.std.specs.declared.alloc.Global.{Global}
use Rattle.std.specs.declared.sync.ArcSlice.{ArcSlice}
use Rattle.p21_express_graph.specs.declared.number.EntityId.{EntityId}
use Rattle.p21_mapping_values.specs.TypedView.{ids_view}
use Rattle.p21_stream_store.specs.Numbering.{AreNumbered}
use Rattle.p21_stream_store.specs.SetOrder.{by_size}
use Rattle.p21_stream_store.specs.declared.set_key.SetKey.{SetKey}
use Rattle.p21_stream_store.specs.declared.set_key.SetKey.TheVariants.{Kept, Sought}

-- the entities of each set
abbrev pub lists_of : List (ArcSlice EntityId Global) → List (List EntityId)
lists_of sets = map (λ (set : ArcSlice EntityId Global). arc_slice_items set) sets

-- the same by their numbers
abbrev pub sets_of : List (ArcSlice EntityId Global) → List (List ℕ)
sets_of sets = map ids_view (lists_of sets)

-- the entities of a key
abbrev pub key_items : SetKey → List EntityId
key_items (Kept set) = arc_slice_items set
key_items (Sought entities) = entities.items

abbrev pub AreNumberedSets : List (ArcSlice EntityId Global) → BTreeMap SetKey ℕ → Type 0
AreNumberedSets sets numbers = AreNumbered key_items by_size (lists_of sets) numbers

-- there is room for each of the sets
abbrev pub HaveRoom : ℕ → List (List ℕ) → Type 0
HaveRoom room sets = Each (λ (set : List ℕ). length set ≤ room) sets
