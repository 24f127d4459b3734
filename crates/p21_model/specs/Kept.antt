-- The instances of an accepted file, by their lines.
use Rattle.std.specs.Prelude.{◌≡◌, ℕ, List, Contains}
use Rattle.p21_model.specs.declared.instance.Instance.{Instance}
use Rattle.p21_spec_exchange.specs.Record.{Record}
use Rattle.p21_spec_file.specs.CanonicalTexts.{IsInstanceText}
use Rattle.p21_spec_schema.specs.Schema.{Schema}
use Rattle.p21_stream_store.specs.StoredInstance.{StoredInstance}

-- an instance of this name is kept with this line
abbrev pub IsKeptLine : List StoredInstance → ℕ → List ℕ → Type 0
IsKeptLine kept name line = (membership : ℕ) × Contains kept (record { name = name; membership = membership; text = line })

-- no name has two lines
abbrev pub HaveOneLine : List StoredInstance → Type 0
HaveOneLine kept = (name : ℕ) (line other : List ℕ) → IsKeptLine kept name line → IsKeptLine kept name other → line ≡ other

-- each line is the canonical statement of a record that has a meaning under the schema: that is so of what a session accepted
-- under it
abbrev pub AreStated : Schema → List StoredInstance → Type 0
AreStated s kept = (x : StoredInstance) → Contains kept x → (record_ : Record) × IsInstanceText s x.name record_ x.text

-- the line of the instance is that of a record that has a meaning under its schema
abbrev pub IsStated : Instance → Type 0
IsStated found = (record_ : Record) × IsInstanceText found.schema.now found.name record_ found.line.now
