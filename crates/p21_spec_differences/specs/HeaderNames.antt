-- The names of the parameters of header records (ISO 10303-21, header section: header section entities).
use Rattle.std.specs.Prelude.{◌≡◌, ◌+◌, ℕ, true, false, List, [], ◌∷◌, ◌++◌, Some, Contains, codes, decimal, slice_get}
use Rattle.p21_spec_exchange.specs.Parameter.{Key}
use Rattle.p21_spec_exchange.specs.Record.{Part}

-- the records that the standard has, each with the names of its parameters in their order
abbrev pub header_names : List (List ℕ × List (List ℕ))
header_names =
    (codes "FILE_DESCRIPTION", codes "DESCRIPTION" ∷ codes "IMPLEMENTATION_LEVEL" ∷ [])
    ∷ (
      codes "FILE_NAME",
      codes "NAME" ∷ codes "TIME_STAMP" ∷ codes "AUTHOR" ∷ codes "ORGANIZATION" ∷ codes "PREPROCESSOR_VERSION"
          ∷ codes "ORIGINATING_SYSTEM" ∷ codes "AUTHORIZATION" ∷ [],
    )
    ∷ (codes "FILE_SCHEMA", codes "SCHEMA_IDENTIFIERS" ∷ [])
    ∷ (codes "FILE_POPULATION", codes "GOVERNING_SCHEMA" ∷ codes "DETERMINATION_METHOD" ∷ codes "GOVERNED_SECTIONS" ∷ [])
    ∷ (codes "SECTION_LANGUAGE", codes "SECTION" ∷ codes "DEFAULT_LANGUAGE" ∷ [])
    ∷ (codes "SECTION_CONTEXT", codes "SECTION" ∷ codes "CONTEXT_IDENTIFIERS" ∷ [])
    ∷ []

-- a record may have the keyword: those of the standard begin in one of two ways, and those of users with `!`
pub data IsHeaderKeyword (keyword : List ℕ) : Type 0 where
  of_file : (rest : List ℕ) → keyword ≡ codes "FILE_" ++ rest → IsHeaderKeyword keyword
  of_section : (rest : List ℕ) → keyword ≡ codes "SECTION_" ++ rest → IsHeaderKeyword keyword
  of_user : (rest : List ℕ) → keyword ≡ codes "!" ++ rest → IsHeaderKeyword keyword

-- the keyword as it stands in a file
abbrev pub keyword_text : Key → List ℕ
keyword_text key = elim key.user [ true ↦ 33 ∷ key.word | false ↦ key.word ]

-- the name that the standard has for a parameter of records with this keyword, by its number from 0 on
abbrev pub IsStandardName : List ℕ → ℕ → List ℕ → Type 0
IsStandardName keyword number name = (names : List (List ℕ)) × Contains header_names (keyword, names) × (slice_get names number ≡ Some name)

-- the name of a parameter of a record, by its number from 0 on; where the standard has none, its number from 1 on
pub data IsParameterName (part : Part) (number : ℕ) : List ℕ → Type 0 where
  standard : (name : List ℕ) → IsStandardName (keyword_text part.key) number name → IsParameterName part number name
  numbered : ((name : List ℕ) → ¬ IsStandardName (keyword_text part.key) number name) → IsParameterName part number (decimal (number + 1))
