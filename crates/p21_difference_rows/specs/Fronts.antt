-- How rows begin: by the name that an instance really has in the first file, and the one with which it stands.
use Rattle.std.specs.Prelude.{ℕ, List, ◌++◌, Option, Some, None, codes, decimal, slice_get, nat_eq, if◌then◌else◌}
use Rattle.p21_difference_rows.specs.declared.row.Happening.{Happening}
use Rattle.p21_difference_rows.specs.declared.row.Happening.TheVariants.{Changed}
use Rattle.p21_difference_rows.specs.declared.row.Happening.TheVariants as happening
use Rattle.p21_difference_rows.specs.declared.row.RowForm.{RowForm}
use Rattle.p21_difference_rows.specs.declared.row.RowForm.TheVariants.{Text, Json}
use Rattle.p21_difference_rows.specs.declared.row.Subject.{Subject}
use Rattle.p21_difference_rows.specs.declared.row.Subject.TheVariants.{Header, Section, Moved, Came, Went, Set, Value}
use Rattle.p21_express_graph.specs.Meaning.{place as place_of}
use Rattle.p21_spec_schema.specs.Schema.{Attribute, Entity, Place, Schema, attribute_at}

-- ---- names of the schema

abbrev pub name_in : Option Entity → List ℕ
name_in (Some x) = x.name
name_in None = codes ""

abbrev pub entity_name : Schema → ℕ → List ℕ
entity_name s e = name_in (slice_get s.entities e)

abbrev pub attribute_name_in : Option Attribute → List ℕ
attribute_name_in (Some a) = a.name
attribute_name_in None = codes ""

abbrev pub attribute_name : Schema → Place → List ℕ
attribute_name s place = attribute_name_in (attribute_at s place)

-- ---- the beginning of a row

-- the word for what happened
abbrev pub happening_word : Happening → List ℕ
happening_word Changed = codes "changed"
happening_word happening.Came = codes "came"
happening_word happening.Went = codes "went"

-- a text, the number of a name, and a text
abbrev pub named : List ℕ → ℕ → List ℕ → List ℕ
named before name behind = before ++ (decimal name ++ behind)

-- a text, the names of an instance in both files, as `17/#5`, or the one that it has in both, and a text
abbrev pub both_named : List ℕ → ℕ → ℕ → List ℕ → List ℕ
both_named before real name behind = if nat_eq real name then named before name behind else named before real
    (codes "/#" ++ (decimal name ++ behind))

-- of a line: `came #9 `, `went #7 `, `changed #6 from `, `changed #17/#5 CIRCLE.RADIUS `; `changed header `, `came section `,
-- `moved #4 from `
abbrev pub line_front : Schema → (ℕ → ℕ) → Subject → List ℕ
line_front s real (Header happening) = happening_word happening ++ codes " header "
line_front s real (Section happening) = happening_word happening ++ codes " section "
line_front s real (Moved name) = both_named (codes "moved #") (real name) name (codes " from ")
line_front s real (Came name) = named (codes "came #") name (codes " ")
line_front s real (Went name) = named (codes "went #") (real name) (codes " ")
line_front s real (Set name) = both_named (codes "changed #") (real name) name (codes " from ")
line_front s real (Value name place) =
    both_named (codes "changed #") (real name) name (codes " ")
    ++ (entity_name s (place_of place).entity ++ (codes "." ++ (attribute_name s (place_of place) ++ codes " ")))

-- a text, the names that an instance has in both files as members of an object, and a text
abbrev pub in_both : List ℕ → ℕ → ℕ → List ℕ → List ℕ
in_both before real name behind = before ++ (codes "\"a\":" ++ (decimal real ++ (codes ",\"b\":" ++ (decimal name ++ behind))))

-- of an object about a value
abbrev pub value_object_front : Schema → ℕ → ℕ → Place → List ℕ
value_object_front s real name place =
    in_both (codes "{\"kind\":\"changed\",\"what\":\"instance\",") real name (codes ",\"entity\":\"")
    ++ (entity_name s place.entity ++ (codes "\",\"attribute\":\"" ++ (attribute_name s place ++ codes "\",")))

-- of an object, up to what it says of the texts of both files
abbrev pub object_front : Schema → (ℕ → ℕ) → Subject → List ℕ
object_front s real (Header happening) = codes "{\"kind\":\"" ++ (happening_word happening ++ codes "\",\"what\":\"header\",")
object_front s real (Section happening) = codes "{\"kind\":\"" ++ (happening_word happening ++ codes "\",\"what\":\"section\",")
object_front s real (Moved name) = in_both (codes "{\"kind\":\"changed\",\"what\":\"section of\",") (real name) name (codes ",")
object_front s real (Came name) = named (codes "{\"kind\":\"came\",\"what\":\"instance\",\"b\":") name (codes ",")
object_front s real (Went name) = named (codes "{\"kind\":\"went\",\"what\":\"instance\",\"a\":") (real name) (codes ",")
object_front s real (Set name) = in_both (codes "{\"kind\":\"changed\",\"what\":\"instance\",") (real name) name (codes ",\"before\":")
object_front s real (Value name place) = value_object_front s (real name) name (place_of place)

abbrev pub front : RowForm → Schema → (ℕ → ℕ) → Subject → List ℕ
front Text s real subject = line_front s real subject
front Json s real subject = object_front s real subject

-- ---- the first line

-- the beginning of the line that says what is left out
abbrev pub first_front : RowForm → List ℕ
first_front Text = codes "left out: "
first_front Json = codes "{\"kind\":\"left out\","

-- ---- the last line

-- that of files that mean the same
abbrev pub same_line : RowForm → List ℕ
same_line Text = codes "same\n"
same_line Json = codes "{\"kind\":\"verdict\",\"verdict\":\"same\",\"changed\":0,\"came\":0,\"went\":0}\n"

-- the beginning of that of others
abbrev pub end_front : RowForm → List ℕ
end_front Text = codes "different: "
end_front Json = codes "{\"kind\":\"verdict\",\"verdict\":\"different\","
