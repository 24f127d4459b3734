-- The canonical statement of an instance (this project's own choice among the forms that the internal and external
-- mapping of ISO 10303-21 allow).
use Rattle.std.specs.Prelude.{◌≡◌, ◌++◌, ℕ, List}
use Rattle.p21_spec_exchange.specs.CanonicalText.{statement_text}
use Rattle.p21_spec_exchange.specs.Laying.{Laid}
use Rattle.p21_spec_exchange.specs.Record.{Record}
use Rattle.p21_spec_exchange.specs.Statement.{instance, statement_tokens}
use Rattle.p21_spec_file.specs.CanonicalRecord.{IsCanonicalRecord}
use Rattle.p21_spec_file.specs.Meaning.{RecordMeans, Typed}
use Rattle.p21_spec_file.specs.Reference.{EntitySets}
use Rattle.p21_spec_file.specs.SameFile.{SameTyped}
use Rattle.p21_spec_schema.specs.Schema.{Schema}

-- The text is that of one statement with this name, whose tokens are laid in it. Its record is canonical, and it means the
-- same as this, whatever the other instances are: it means it among those where some record means this
pub record IsCanonicalStatement (s : Schema) (n : ℕ) (meaning : Typed) (text : List ℕ) : Type 0 where
  pub canonical : Record
  pub canonical_meaning : Typed
  pub same : SameTyped canonical_meaning meaning
  pub means : (kinds : EntitySets) (record_ : Record) → RecordMeans s kinds record_ meaning
      → RecordMeans s kinds canonical canonical_meaning
  pub is_canonical : IsCanonicalRecord s canonical canonical_meaning
  pub text_is : text ≡ statement_text (instance n canonical)
  pub laid : Laid text (statement_tokens (instance n canonical))

-- such a text is appended
abbrev pub AppendsStatement : Schema → ℕ → Typed → List ℕ → List ℕ → Type 0
AppendsStatement s n meaning old new = (text : List ℕ) × (new ≡ old ++ text) × IsCanonicalStatement s n meaning text
