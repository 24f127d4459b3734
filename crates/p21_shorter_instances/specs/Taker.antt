-- What takes instances straight from their bytes, and what it has taken.
use Rattle.std.specs.Prelude.{◌≡◌, ℕ, List, [], ◌∷◌, ◌++◌}
use Rattle.p21_spec_exchange.specs.Grammar.{IsDataRecord}
use Rattle.p21_spec_exchange.specs.Laying.{Laid}
use Rattle.p21_spec_exchange.specs.Record.{Record}
use Rattle.p21_spec_exchange.specs.Statement.{instance, statement_tokens}
use Rattle.p21_spec_file.specs.CanonicalTexts.{IsInstanceText}
use Rattle.p21_spec_file.specs.Meaning.{Typed}
use Rattle.p21_spec_file.specs.Reference.{Need}
use Rattle.p21_spec_laws.specs.Needs.{MeansWithNeeds}
use Rattle.p21_spec_schema.specs.Schema.{Schema}
use Rattle.p21_shorter_instances.specs.ExternalSet.{AreExternalSets}
use Rattle.p21_shorter_instances.specs.Instance.{Begins}
use Rattle.p21_shorter_instances.specs.Steps.{IsPlanOf}
use Rattle.p21_shorter_instances.specs.declared.instance.Begun.{Begun}
use Rattle.p21_shorter_instances.specs.declared.taken.Taken.{Taken}
use Rattle.p21_shorter_instances.specs.declared.taker.Taker.{Taker}

-- all that is kept of the schema is right
pub record IsTakerOf (s : Schema) (taker : Taker) : Type 0 where
  pub plan : IsPlanOf s taker.plan
  pub sets : AreExternalSets s taker.sets

-- The bytes are the statement of an instance of this name, up to its `;`. Its record may stand in a data section, and means something,
-- whose set are these entities, with these needs; this is its canonical text
pub record IsInstance (s : Schema) (n : ℕ) (entities bytes text : List ℕ) (needs : List Need) : Type 0 where
  pub record_ : Record
  pub laid : Laid bytes (statement_tokens (instance n record_))
  pub front : List ℕ
  pub ends : bytes ≡ front ++ 59 ∷ []
  pub data_record : IsDataRecord record_
  pub meaning : Typed
  pub entities_are : meaning.entities ≡ entities
  pub means : MeansWithNeeds s record_ meaning needs
  pub printed : IsInstanceText s n record_ text

-- an instance is begun at the beginning of a piece, with no text and no needs before
pub record HasBegun (s : Schema) (sets : List (List ℕ)) (begun : Begun) (piece : List ℕ) (taken : Taken) : Type 0 where
  pub old : Taken
  pub no_text : old.draft ≡ []
  pub no_needs : old.needs.items ≡ []
  pub begins : Begins s begun.number sets begun.set piece begun.rest.now old taken
