-- The exchange structure as a tree, and the tokens that it flattens to (ISO 10303-21, formal definition of the exchange structure).
use Rattle.std.specs.Prelude.{◌≡◌, List, [], ◌∷◌, ◌++◌, map}
use Rattle.std.specs.List.{flat_map}
use Rattle.p21_spec_exchange.specs.DataSection.{DataSection}
use Rattle.p21_spec_exchange.specs.Record.{Part}
use Rattle.p21_spec_exchange.specs.Statement.{Statement, section, header, instance, begin, header_start, section_end, data_start, finish, statement_tokens}
use Rattle.p21_spec_exchange.specs.Token.{Token}

-- the records of the header section, and the data sections, in their order
pub record Structure : Type 0 where
  pub header : List Part
  pub sections : List DataSection

-- a data section from its DATA to its ENDSEC
abbrev pub section_statements : DataSection → List Statement
section_statements x = section (data_start x.heading) ∷ (map (λ i. instance i.0 i.1) x.instances ++ (section section_end ∷ []))

-- the header section, then the data sections
abbrev pub statements : Structure → List Statement
statements structure =
    section begin ∷ section header_start ∷ (map header structure.header ++ (section section_end
    ∷ (flat_map section_statements structure.sections ++ (section finish ∷ []))))

-- the tokens of the statements, one behind the other
abbrev pub tokens_of : Structure → List Token
tokens_of structure = flat_map statement_tokens (statements structure)

-- these are the first statements of the tree, or all of them
abbrev pub AreFirstStatements : List Statement → Structure → Type 0
AreFirstStatements first structure = (later : List Statement) × (statements structure ≡ first ++ later)
