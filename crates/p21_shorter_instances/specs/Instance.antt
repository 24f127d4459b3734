-- Instances that are taken straight from their bytes.
use Rattle.std.specs.Prelude.{◌≡◌, ℕ, List, [], ◌∷◌, ◌++◌, map}
use Rattle.p21_spec_laws.specs.Needs.{MeansWithNeeds}
use Rattle.p21_spec_exchange.specs.Grammar.{IsDataRecord}
use Rattle.p21_spec_exchange.specs.Record.{Record}
use Rattle.p21_spec_exchange.specs.Statement.{instance, statement_tokens}
use Rattle.p21_spec_exchange.specs.Spelling.{name_spelling}
use Rattle.p21_spec_exchange.specs.Token.{equals, name}
use Rattle.p21_spec_file.specs.CanonicalTexts.{IsInstanceText}
use Rattle.p21_spec_file.specs.Meaning.{Typed}
use Rattle.p21_mapping_values.specs.declared.need.Need.{Need}
use Rattle.p21_mapping_values.specs.TypedView.{need_view}
use Rattle.p21_spec_schema.specs.Schema.{Schema}
use Rattle.p21_shorter_instances.specs.ExternalSet.{IsNumberedSet}
use Rattle.p21_shorter_instances.specs.declared.instance.Set.{Set}
use Rattle.p21_shorter_instances.specs.declared.instance.Set.TheVariants.{Numbered, Own}
use Rattle.p21_shorter_instances.specs.declared.taken.Taken.{Taken}
use Rattle.p21_shorter_instances.specs.TakenParameters.{TakesOpenedEntity, TakesTokens}
use Rattle.p21_shorter_instances.specs.TakenValues.{LaidBefore, with_text}

-- The statement of an instance of this name is laid at the front, with the rest behind it. Its record may stand in a data
-- section, and means something, whose set are these entities, with the needs that are added to those before. Its canonical
-- text is appended
pub record TakesInstance (s : Schema) (n : ℕ) (entities bytes rest : List ℕ) (old new : Taken) : Type 0 where
  pub record_ : Record
  pub laid : LaidBefore bytes (statement_tokens (instance n record_)) rest
  pub data_record : IsDataRecord record_
  pub meaning : Typed
  pub set_is : meaning.entities ≡ entities
  pub added : List Need
  pub needs_are : new.needs.items ≡ old.needs.items ++ added
  pub means : MeansWithNeeds s record_ meaning (map need_view added)
  pub text : List ℕ
  pub text_is : IsInstanceText s n record_ text
  pub appended : new.draft ≡ old.draft ++ text

-- The name of an instance of internal mapping and its `=` are laid at the front, and the keyword of this entity with a `(`, with the
-- rest behind them. Their text is appended, and no need is added
pub record BeginsOwn (s : Schema) (n e : ℕ) (bytes rest : List ℕ) (old new : Taken) : Type 0 where
  pub keyed : List ℕ
  pub headed : List ℕ
  pub head : TakesTokens (name n ∷ equals ∷ []) (name_spelling n ++ 61 ∷ []) bytes keyed old.draft headed
  pub opened : TakesOpenedEntity s e keyed rest headed new.draft
  pub needs : new ≡ with_text new.draft old

-- an instance that has this set is begun: one of external mapping is taken whole, with the entities that are kept by the number
abbrev pub Begins : Schema → ℕ → List (List ℕ) → Set → List ℕ → List ℕ → Taken → Taken → Type 0
Begins s n sets (Own e) bytes rest old new = BeginsOwn s n e.0 bytes rest old new
Begins s n sets (Numbered at) bytes rest old new = (entities : List ℕ) × IsNumberedSet sets at entities
    × TakesInstance s n entities bytes rest old new
