-- Records and the tokens that they are written with (ISO 10303-21, formal definition of the exchange structure: simple
-- record, and the records of internal and external mapping).
use Rattle.std.specs.Prelude.{List, [], ◌∷◌, ◌++◌}
use Rattle.std.specs.List.{flat_map}
use Rattle.p21_spec_exchange.specs.Parameter.{Key, Params, key_token, params_tokens}
use Rattle.p21_spec_exchange.specs.Token.{Token, left, right}

-- a simple record: a keyword and its parameter list
pub record Part : Type 0 where
  pub key : Key
  pub params : Params

-- the record of an instance: a simple one in internal mapping, a list of simple ones in external mapping
pub data Record : Type 0 where
  simple : Part → Record
  complex : List Part → Record

-- the simple records of a record
abbrev pub parts_of : Record → List Part
parts_of (simple part) = part ∷ []
parts_of (complex parts) = parts

-- a keyword, and parameters in parentheses
abbrev pub part_tokens : Part → List Token
part_tokens part = key_token part.key ∷ left ∷ (params_tokens part.params ++ (right ∷ []))

-- in external mapping, simple records in parentheses, with nothing between them
abbrev pub record_tokens : Record → List Token
record_tokens (simple part) = part_tokens part
record_tokens (complex parts) = left ∷ (flat_map part_tokens parts ++ (right ∷ []))
