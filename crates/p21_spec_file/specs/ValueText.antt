-- The canonical text of a value (this project's own form of an exchange structure of ISO 10303-21).
use Rattle.std.specs.Prelude.{ℕ, List, [], ◌∷◌, ◌++◌, codes, Some, None, slice_get}
use Rattle.p21_spec_schema.specs.Schema.{Schema}
use Rattle.p21_spec_exchange.specs.Spelling.{spelling}
use Rattle.p21_spec_exchange.specs.Token as token
use Rattle.p21_spec_file.specs.Value.{Value, whole, real, number, text, bits, item, reference, derived, missing, list, array, set, bag, typed, Values, no_values, value}
use Rattle.p21_spec_file.specs.Sorting.{sort_texts}

-- the name of the type of this number
abbrev pub type_name : Schema → ℕ → List ℕ
type_name s t = elim (slice_get s.types t) [ Some x ↦ x.name | None ↦ [] ]

-- texts with a comma before each
abbrev pub with_commas : List (List ℕ) → List ℕ
with_commas [] = []
with_commas (first ∷ rest) = codes "," ++ (first ++ with_commas rest)

-- texts with a comma between each two
abbrev pub with_commas_between : List (List ℕ) → List ℕ
with_commas_between [] = []
with_commas_between (first ∷ rest) = first ++ with_commas rest

-- texts as a list
abbrev pub list_text : List (List ℕ) → List ℕ
list_text texts = codes "(" ++ (with_commas_between texts ++ codes ")")

-- The text of a value, and the texts of values one by one: the texts of a set's or a bag's elements rise, and a number is
-- written as a real
abbrev mutual
  pub value_text : Schema → Value → List ℕ
  value_text s (whole z) = spelling (token.whole z)
  value_text s (real d) = spelling (token.real d)
  value_text s (number d) = spelling (token.real d)
  value_text s (text chars) = spelling (token.text chars)
  value_text s (bits bs) = spelling (token.bits bs)
  value_text s (item word) = spelling (token.item word)
  value_text s (reference n) = spelling (token.name n)
  value_text s derived = codes "*"
  value_text s missing = codes "$"
  value_text s (list vs) = list_text (value_texts s vs)
  value_text s (array vs) = list_text (value_texts s vs)
  value_text s (set vs) = list_text (sort_texts (value_texts s vs))
  value_text s (bag vs) = list_text (sort_texts (value_texts s vs))
  value_text s (typed t v) = type_name s t ++ (codes "(" ++ (value_text s v ++ codes ")"))

  pub value_texts : Schema → Values → List (List ℕ)
  value_texts s no_values = []
  value_texts s (value v vs) = value_text s v ∷ value_texts s vs
