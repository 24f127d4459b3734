-- Which instances refer to which, and at which attributes.
use Rattle.std.specs.Prelude.{◌≡◌, ◌↔◌, ℕ, ◌^◌, ◌≤◌, List, [], ◌∷◌, Option, None, Some, Contains, length, map, ⊤}
use Rattle.std.specs.List.{flat_map}
use Rattle.p21_express_graph.specs.Meaning.{place as place_of}
use Rattle.p21_model.specs.Kept.{IsKeptLine}
use Rattle.p21_model.specs.Rows.{Row}
use Rattle.p21_model.specs.Told.{AreTold}
use Rattle.p21_model_uses.specs.UseRows.{AreInOrder, UseRow}
use Rattle.p21_model_uses.specs.declared.fault.UsersFault.{UsersFault}
use Rattle.p21_model_uses.specs.declared.fault.UsersFault.TheVariants.{NoMemory, TooMany}
use Rattle.p21_model.specs.declared.users.Use.{Use}
use Rattle.p21_spec_exchange.specs.Parameter.{Param}
use Rattle.p21_spec_exchange.specs.Record.{Record}
use Rattle.p21_spec_file.specs.CanonicalTexts.{IsInstanceText}
use Rattle.p21_spec_file.specs.Reference.{param_references}
use Rattle.p21_spec_schema.specs.Schema.{Place, Schema}
use Rattle.p21_stream_store.specs.StoredInstance.{StoredInstance}

abbrev pub place_used : UseRow → Place
place_used u = record { entity = u.2; index = u.3 }

-- an instance of the file has at this place a parameter with this name in it, at any depth
pub record IsUse (s : Schema) (kept : List StoredInstance) (u : UseRow) : Type 0 where
  pub line : List ℕ
  pub is_line : IsKeptLine kept u.1 line
  pub record_ : Record
  pub stated : IsInstanceText s u.1 record_ line
  pub rows : List Row
  pub told : AreTold stated rows
  pub p : Param
  pub stands : Contains rows (place_used u, p)
  pub named : Contains (param_references p) u.0

-- each use in the file, and nothing else
abbrev pub AreUsesIn : Schema → List StoredInstance → List UseRow → Type 0
AreUsesIn s kept uses = (u : UseRow) → Contains uses u ↔ IsUse s kept u

-- the uses in the file, each once, are at least as many as a number of 32 bits doesn't count
pub record HasManyUses (s : Schema) (kept : List StoredInstance) : Type 0 where
  pub uses : List UseRow
  pub are : AreUsesIn s kept uses
  pub order : AreInOrder uses
  pub many : 2 ^ 32 ≤ length uses

-- want of memory owes nothing; where uses are too many, the file has so many
abbrev pub IsOfManyUses : Schema → List StoredInstance → UsersFault → Type 0
IsOfManyUses s kept NoMemory = ⊤
IsOfManyUses s kept TooMany = HasManyUses s kept

-- the uses of the names in a parameter, in its order
abbrev pub uses_at : ℕ → Row → List UseRow
uses_at user row = map (λ (n : ℕ). (n, user, row.0.entity, row.0.index)) (param_references row.1)

-- those in all parameters of an instance
abbrev pub uses_by : ℕ → List Row → List UseRow
uses_by user rows = flat_map (uses_at user) rows

-- the next of these is handed out, and the others are left
abbrev pub HandsOutUse : List UseRow → Option Use → List UseRow → Type 0
HandsOutUse [] None left = left ≡ []
HandsOutUse [] (Some found) left = ⊥
HandsOutUse (u ∷ uses) None left = ⊥
HandsOutUse (u ∷ uses) (Some found) left = (found.user ≡ u.1) × (place_of found.place ≡ place_used u) × (left ≡ uses)
