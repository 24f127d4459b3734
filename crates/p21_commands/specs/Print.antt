-- The text that is printed of a schema.
use Rattle.std.specs.Prelude.{Option, ◌≡◌, ◌⊎◌, ℕ, List, [], ◌++◌, codes, length}
use Rattle.std.specs.List.{AllZip, flat_map, range_with_len}
use Rattle.p21_commands.specs.Load.{DeclaresRead}
use Rattle.p21_spec_file.specs.ValueText.{list_text}
use Rattle.p21_spec_schema.specs.Order.{order, places}
use Rattle.p21_spec_schema.specs.PlaceType.{IsDerivedIn}
use Rattle.p21_spec_schema.specs.Schema.{Schema, Place, EntityNamed, PlaceNamed, IsAbstract}

-- the name of a place, or `*` where it is derived in the entity's own set
abbrev pub IsPlaceWord : Schema → ℕ → Place → List ℕ → Type 0
IsPlaceWord s e place word = (IsDerivedIn s (order s e) place × (word ≡ codes "*"))
    ⊎ (¬ IsDerivedIn s (order s e) place × PlaceNamed s place word)

-- what stands in front of an abstract entity
abbrev pub IsEntityPrefix : Schema → ℕ → List ℕ → Type 0
IsEntityPrefix s e front = (IsAbstract s e × (front ≡ codes "ABSTRACT ")) ⊎ (¬ IsAbstract s e × (front ≡ []))

-- the line of an entity: its name and its places
pub record IsEntityLine (s : Schema) (e : ℕ) (line : List ℕ) : Type 0 where
  pub front : List ℕ
  pub name : List ℕ
  pub words : List (List ℕ)
  pub is_front : IsEntityPrefix s e front
  pub is_named : EntityNamed s e name
  pub words_are : AllZip (IsPlaceWord s e) (places s e) words
  pub line_is : line ≡ front ++ (name ++ (list_text words ++ codes "\n"))

-- `SCHEMA NAME`, and a line for each entity in the order of the declarations
pub record IsSchemaText (s : Schema) (text : List ℕ) : Type 0 where
  pub lines : List (List ℕ)
  pub lines_are : AllZip (IsEntityLine s) (range_with_len 0 (length s.entities)) lines
  pub text_is : text ≡ codes "SCHEMA " ++ (s.name ++ (codes "\n" ++ flat_map (λ line. line) lines))

-- the text is that of the schema that the text of the reader declares
pub record IsPrinted (reader : Option (List ℕ)) (text : List ℕ) : Type 0 where
  pub schema : Schema
  pub declares : DeclaresRead reader schema
  pub is_text : IsSchemaText schema text
