-- The records of the canonical file (this project's own choice among the forms that the internal and external mapping
-- of ISO 10303-21 allow).
use Rattle.std.specs.Prelude.{◌≡◌, ℕ, List, [], ◌∷◌, map, IsSorted}
use Rattle.std.specs.Cmp.Lexicographic.{slice_cmp}
use Rattle.std.specs.List.{AllByRecursion as Each}
use Rattle.std.specs.Ordering.{nat_cmp}
use Rattle.p21_spec_exchange.specs.CanonicalText.{param_texts}
use Rattle.p21_spec_file.specs.Meaning.{Typed, HasValueAt, NamesEntity}
use Rattle.p21_spec_exchange.specs.Parameter.{Param, whole, list, typed, Params, no_params, param}
use Rattle.p21_spec_exchange.specs.Record.{Part, Record, simple, complex}
use Rattle.p21_spec_schema.specs.Schema.{Schema, Place}
use Rattle.p21_spec_schema.specs.Supertype.{IsLeaf}
use Rattle.p21_spec_schema.specs.Order.{places, own_places}
use Rattle.p21_spec_file.specs.Value as value
use Rattle.p21_spec_file.specs.Value.{Value, Values}

-- byte by byte no text stands behind one that is above it; a text is below what it begins
abbrev pub AreTextsRising : List (List ℕ) → Type 0
AreTextsRising texts = IsSorted (slice_cmp nat_cmp) texts

-- a set or a bag
abbrev pub HasNoOrder : Value → Type 0
HasNoOrder (value.set vs) = Unit {0}
HasNoOrder (value.bag vs) = Unit {0}
HasNoOrder other = ⊥

-- the value of a NUMBER
abbrev pub IsNumber : Value → Type 0
IsNumber (value.number d) = Unit {0}
IsNumber other = ⊥

-- the elements of an aggregate; no other value is written as a list
abbrev pub elements : Value → Values
elements (value.list vs) = vs
elements (value.array vs) = vs
elements (value.set vs) = vs
elements (value.bag vs) = vs
elements other = value.no_values

-- the value that has a type's keyword; no other value is written as a typed parameter
abbrev pub untyped_value : Value → Value
untyped_value (value.typed t v) = v
untyped_value other = other

-- A parameter that means this value is canonical: the texts of a set or a bag rise, at any depth, and a NUMBER is written as a real
abbrev mutual
  pub IsCanonicalParam : Param → Value → Type 0
  IsCanonicalParam (whole z) v = IsNumber v → ⊥
  IsCanonicalParam (list ps) v = AreCanonicalParams ps (elements v) × (HasNoOrder v → AreTextsRising (param_texts ps))
  IsCanonicalParam (typed key p) v = IsCanonicalParam p (untyped_value v)
  IsCanonicalParam other v = Unit {0}

  pub AreCanonicalParams : Params → Values → Type 0
  AreCanonicalParams no_params value.no_values = Unit {0}
  AreCanonicalParams no_params (value.value v vs) = ⊥
  AreCanonicalParams (param p ps) value.no_values = ⊥
  AreCanonicalParams (param p ps) (value.value v vs) = IsCanonicalParam p v × AreCanonicalParams ps vs

-- the set has a leaf, and no other
abbrev pub HasOneLeaf : Schema → List ℕ → Type 0
HasOneLeaf s entities = (e : ℕ) × IsLeaf s entities e × ((f : ℕ) → IsLeaf s entities f → f ≡ e)

-- in internal mapping where the set has one leaf, else in external mapping with keywords that rise
abbrev pub IsCanonicalForm : Schema → Record → Typed → Type 0
IsCanonicalForm s (simple part) meaning = HasOneLeaf s meaning.entities
IsCanonicalForm s (complex parts) meaning = (HasOneLeaf s meaning.entities → ⊥) × AreTextsRising (map (λ (part : Part). part.key.word) parts)

-- the parameters at places one by one, at the values that the meaning has there
abbrev pub AreCanonicalAt : Typed → List Place → Params → Type 0
AreCanonicalAt meaning [] no_params = Unit {0}
AreCanonicalAt meaning [] (param p ps) = ⊥
AreCanonicalAt meaning (place ∷ rest) no_params = ⊥
AreCanonicalAt meaning (place ∷ rest) (param p ps) = ((v : Value) × HasValueAt meaning place v × IsCanonicalParam p v) × AreCanonicalAt meaning rest ps

-- a simple record of external mapping: its parameters, at the places that its entity declares itself
abbrev pub IsCanonicalPart : Schema → Typed → Part → Type 0
IsCanonicalPart s meaning part = (e : ℕ) × NamesEntity s part.key e × AreCanonicalAt meaning (own_places s e) part.params

-- the parameters of a record; in internal mapping at the places of its entity's order
abbrev pub HasCanonicalParams : Schema → Record → Typed → Type 0
HasCanonicalParams s (simple part) meaning = (e : ℕ) × NamesEntity s part.key e × AreCanonicalAt meaning (places s e) part.params
HasCanonicalParams s (complex parts) meaning = Each (IsCanonicalPart s meaning) parts

-- a record is as the canonical file has it where it means this
pub record IsCanonicalRecord (s : Schema) (record_ : Record) (meaning : Typed) : Type 0 where
  pub form : IsCanonicalForm s record_ meaning
  pub params : HasCanonicalParams s record_ meaning
