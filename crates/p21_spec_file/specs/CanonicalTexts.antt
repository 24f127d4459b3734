-- The canonical lines of the header records and instances of a file of which some statements are taken (this project's
-- own form of an exchange structure of ISO 10303-21).
use Rattle.std.specs.Prelude.{◌≡◌, ℕ, ◌+◌, List, [], ◌∷◌, length}
use Rattle.p21_spec_file.specs.CanonicalRecord.{IsCanonicalRecord}
use Rattle.p21_spec_exchange.specs.CanonicalText.{statement_text}
use Rattle.p21_spec_exchange.specs.Laying.{Laid}
use Rattle.p21_spec_file.specs.Reference.{EntitySets}
use Rattle.p21_spec_file.specs.Meaning.{Typed, RecordMeans}
use Rattle.p21_spec_exchange.specs.Record.{Record}
use Rattle.p21_spec_file.specs.SameFile.{SameTyped}
use Rattle.p21_spec_schema.specs.Schema.{Schema}
use Rattle.p21_spec_exchange.specs.Statement.{Statement, section, header, instance, statement_tokens}

-- a canonical statement of the instance, for some sets of the instances of the file; its tokens are laid in the text, so
-- that each real has its one spelling
pub record IsInstanceText (s : Schema) (n : ℕ) (record_ : Record) (text : List ℕ) : Type 0 where
  pub kinds : EntitySets
  pub meaning : Typed
  pub means : RecordMeans s kinds record_ meaning
  pub canonical : Record
  pub canonical_meaning : Typed
  pub canonical_means : RecordMeans s kinds canonical canonical_meaning
  pub same : SameTyped canonical_meaning meaning
  pub is_canonical : IsCanonicalRecord s canonical canonical_meaning
  pub text_is : text ≡ statement_text (instance n canonical)
  pub laid : Laid text (statement_tokens (instance n canonical))

-- the bytes of the canonical statements, with no LF; section lines do not count
abbrev pub HaveCanonicalSize : Schema → List Statement → ℕ → Type 0
HaveCanonicalSize s [] kept = kept ≡ 0
HaveCanonicalSize s (section line ∷ rest) kept = HaveCanonicalSize s rest kept
HaveCanonicalSize s (header part ∷ rest) kept = (more : ℕ) × (kept ≡ length (statement_text (header part)) + more) × HaveCanonicalSize s rest more
HaveCanonicalSize s (instance n record_ ∷ rest) kept = (text : List ℕ) × (more : ℕ) × (kept ≡ length text + more) × IsInstanceText s n record_ text × HaveCanonicalSize s rest more
