-- The typed record that is meant, without addresses.
use Rattle.std.specs.Prelude.{ℕ, List, map}
use Rattle.p21_express_graph.specs.declared.number.EntityId.{EntityId}
use Rattle.p21_express_graph.specs.Meaning.{member}
use Rattle.p21_mapping_values.specs.declared.value.Values.{Values}
use Rattle.p21_mapping_values.specs.declared.typed.Typed.{Typed}
use Rattle.p21_mapping_values.specs.declared.need.Need.{Need}
use Rattle.p21_mapping_values.specs.View.{list_of, views}
use Rattle.p21_spec_file.specs.Value as meant
use Rattle.p21_spec_file.specs.Meaning as meaning
use Rattle.p21_spec_file.specs.Reference as reference

-- the entities by their numbers
abbrev pub ids_view : List EntityId → List ℕ
ids_view ids = map (λ id. id.0) ids

-- what each row means
abbrev pub rows_view : List Values → List meant.Values
rows_view rows = map (λ row. views (list_of row)) rows

-- what the typed record means
abbrev pub typed_view : Typed → meaning.Typed
typed_view t = record { entities = ids_view t.parts; values = rows_view t.values }

-- what is needed
abbrev pub need_view : Need → reference.Need
need_view n = record { target = n.target; wanted = member n.wanted }
