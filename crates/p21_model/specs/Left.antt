-- What is left of the attributes of an instance.
use Rattle.std.specs.Prelude.{◌≡◌, ◌<◌, ℕ, List, [], ◌∷◌, ◌++◌, Option, Some, None, length, drop}
use Rattle.std.specs.List.{flat_map, zip, AllByRecursion as Each}
use Rattle.p21_express_graph.specs.Meaning.{place as place_of}
use Rattle.p21_express_graph.specs.Orders.{numbers}
use Rattle.p21_model.specs.declared.attributes.Attribute.{Attribute}
use Rattle.p21_model.specs.declared.attributes.Attributes.{Attributes}
use Rattle.p21_model.specs.declared.places.Places.{Places}
use Rattle.p21_model.specs.Rows.{ArePartsRows, Row}
use Rattle.p21_model_values.specs.Written.{AreLeft, IsTextOf}
use Rattle.p21_spec_exchange.specs.CanonicalText.{tokens_text}
use Rattle.p21_spec_exchange.specs.Keyword.{IsUpper}
use Rattle.p21_spec_exchange.specs.Parameter.{Params, listed}
use Rattle.p21_spec_exchange.specs.Record.{Part, Record, simple, complex, part_tokens}
use Rattle.p21_spec_exchange.specs.Token.{IsSpelled}
use Rattle.p21_spec_schema.specs.Order.{own_places}
use Rattle.p21_spec_schema.specs.Schema.{Place, Schema}

-- the places of entities, from that of this number of the first of them on
abbrev pub places_left : Schema → List ℕ → ℕ → List Place
places_left s [] index = []
places_left s (e ∷ es) index = drop index (own_places s e) ++ flat_map (own_places s) es

abbrev pub places_in : Places → List Place
places_in a = places_left a.schema.now (numbers a.owners.now) a.index

-- simple records with nothing between them
abbrev pub parts_text : List Part → List ℕ
parts_text parts = flat_map (λ (part : Part). tokens_text (part_tokens part)) parts

-- no keyword stands first
abbrev pub NoKeywordFirst : List ℕ → Type 0
NoKeywordFirst [] = Unit {0}
NoKeywordFirst (byte ∷ bytes) = ¬ IsUpper byte

-- simple records are left, and behind them this end
pub record AreLeftParts (parts : List Part) (end bytes : List ℕ) : Type 0 where
  pub written : Each (λ (part : Part). Each IsSpelled (part_tokens part)) parts
  pub bytes_are : bytes ≡ parts_text parts ++ end
  pub ends : NoKeywordFirst end

-- the text of a record, with the `;` behind it
abbrev pub IsRecordText : Record → List ℕ → Type 0
IsRecordText (simple part) bytes = AreLeftParts (part ∷ []) (59 ∷ []) bytes
IsRecordText (complex parts) bytes = (rest : List ℕ) × (bytes ≡ 40 ∷ rest) × AreLeftParts parts (41 ∷ 59 ∷ []) rest × (0 < length parts)

-- these parameters of a simple record are left, at these places, and behind them simple records
pub record AreLeftRows (s : Schema) (places : List Place) (bytes : List ℕ) (rows : List Row) : Type 0 where
  pub params : Params
  pub after : List ℕ
  pub left : AreLeft params after bytes
  pub as_many : length places ≡ length (listed params)
  pub parts : List Part
  pub end : List ℕ
  pub behind : AreLeftParts parts end after
  pub later : List Row
  pub later_are : ArePartsRows s parts later
  pub rows_are : rows ≡ zip places (listed params) ++ later

-- these parameters are left, each with its place
abbrev pub TellsRows : Attributes → List Row → Type 0
TellsRows a rows = AreLeftRows a.places.schema.now (places_in a.places) a.values.rest.now rows

-- the schema whose entities declare them
abbrev pub schema_of : Attributes → Schema
schema_of a = a.places.schema.now

-- the bytes from the next value on
abbrev pub left_size : Attributes → ℕ
left_size a = length a.values.rest.now

-- the next of them is handed out, and the others are left
abbrev pub HandsOutRow : List Row → Option Attribute → Attributes → Type 0
HandsOutRow [] None new = Unit {0}
HandsOutRow [] (Some found) new = ⊥
HandsOutRow (row ∷ rows) None new = ⊥
HandsOutRow (row ∷ rows) (Some found) new = (place_of found.place ≡ row.0) × IsTextOf found.value.text.now row.1 × TellsRows new rows
