-- The elements of an aggregate in the order of its canonical text.
use Rattle.std.specs.Prelude.{◌≡◌, ℕ, Bool, true, false, List, [], ◌∷◌, ◌++◌, drop, take, if◌then◌else◌}
use Rattle.p21_spec_file.specs.ParameterKind.{IsUnique}
use Rattle.p21_spec_file.specs.Sorting.{is_below, sort_texts}
use Rattle.p21_spec_file.specs.ValueText.{list_text}
use Rattle.p21_mapping_values.specs.SplitTexts.{NoneTwice, lengths_of}
use Rattle.p21_spec_schema.specs.Schema as schema
use Rattle.p21_spec_schema.specs.Schema.{TypeUse}

-- the text is a list of these texts, which are as long as the lengths say
abbrev pub HoldsElements : List ℕ → List ℕ → List (List ℕ) → Type 0
HoldsElements text lengths texts = (text ≡ list_text texts) × (lengths ≡ lengths_of texts)

-- each text is below the one behind it
abbrev pub AreStrictlyRising : List (List ℕ) → Type 0
AreStrictlyRising [] = Unit {0}
AreStrictlyRising (text ∷ []) = Unit {0}
AreStrictlyRising (text ∷ next ∷ texts) = (is_below text next ≡ true) × AreStrictlyRising (next ∷ texts)

-- a set or a bag
abbrev pub has_no_order : TypeUse → Bool
has_no_order (schema.set low high type) = true
has_no_order (schema.bag low high type) = true
has_no_order other = false

-- rising, where there is no order
abbrev pub arranged_elements : TypeUse → List (List ℕ) → List (List ℕ)
arranged_elements type texts = if has_no_order type then sort_texts texts else texts

-- its elements are compared: they have no order, or none may be equal
abbrev pub compares_elements : TypeUse → Bool
compares_elements (schema.array low high optional unique type) = unique
compares_elements (schema.list low high unique type) = unique
compares_elements (schema.set low high type) = true
compares_elements (schema.bag low high type) = true
compares_elements other = false

-- behind the front the texts are a list in their order; none are equal where none may be
pub record ArrangesElements (type : TypeUse) (front : List ℕ) (texts : List (List ℕ)) (new : List ℕ) : Type 0 where
  pub text_is : new ≡ front ++ list_text (arranged_elements type texts)
  pub differ : IsUnique type → NoneTwice texts

-- the closed text of an aggregate that begins at this place, and what it becomes
abbrev pub ClosesAggregate : TypeUse → ℕ → List ℕ → List ℕ → List ℕ → Type 0
ClosesAggregate type start closed lengths new =
    (texts : List (List ℕ)) → drop start closed ≡ list_text texts → (compares_elements type ≡ true → lengths ≡ lengths_of texts)
    → ArrangesElements type (take start closed) texts new
