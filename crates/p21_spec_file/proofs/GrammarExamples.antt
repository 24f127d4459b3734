-- Records of the data section, and neighbours that are none; nesting.
use Rattle.std.proofs.Common.{◌≡◌, ℕ, zero, suc, true, List, [], ◌∷◌, refl, arith, lit<, lit≤}
use Rattle.std.specs.Prelude.{codes}
use Rattle.p21_spec_exchange.specs.DataSection.{unnamed}
use Rattle.p21_spec_exchange.specs.Grammar.{IsDataRecord, IsFile}
use Rattle.p21_spec_file.specs.Reference.{EntitySets}
use Rattle.p21_spec_file.specs.Meaning.{Typed, RecordMeans}
use Rattle.p21_spec_file.specs.Reference.{param_references}
use Rattle.p21_spec_exchange.specs.Nesting.{IsShallow}
use Rattle.p21_spec_exchange.specs.Parameter.{Key, Param, dollar, name, list, typed, Params, no_params, param, key_of}
use Rattle.p21_spec_exchange.specs.Record.{Part, simple, complex}
use Rattle.p21_spec_schema.specs.Schema.{Schema}
use Rattle.p21_spec_exchange.specs.Statement.{section, section_end, header, statement_tokens}

abbrev part_of : Key → Params → Part
part_of key ps = record { key = key; params = ps }

abbrev user_key : Key
user_key = record { user = true; word = codes "A" }

-- `A($)` and `(A($)B())` are records of the data section
simple_record : IsDataRecord (simple (part_of (key_of (codes "A")) (param dollar no_params)))
simple_record = record { some_parts = lit< tt; shallow = (lit≤ tt, tt); no_user_keywords = (tt, (tt, (tt, (tt, tt)))) }

complex_record : IsDataRecord (complex (part_of (key_of (codes "A")) (param dollar no_params) ∷ part_of (key_of (codes "B")) no_params ∷ []))
complex_record = record { some_parts = lit< tt; shallow = (lit≤ tt, (lit≤ tt, tt)); no_user_keywords = (tt, (tt, (tt, (tt, (tt, (tt, (tt, (tt, (tt, tt))))))))) }

-- `()` is none, and means nothing
no_part : IsDataRecord (complex []) → ⊥
no_part data_record = let h = data_record.some_parts in omega (arith, h)

no_part_means : (s : Schema) (kinds : EntitySets) (meaning : Typed) → RecordMeans s kinds (complex []) meaning → ⊥
no_part_means s kinds meaning means = let h = means.means.some_parts in omega (arith, h)

-- `!A()` and `A(!A($))` have user keywords
user_part : IsDataRecord (simple (part_of user_key no_params)) → ⊥
user_part data_record = data_record.no_user_keywords.0

user_typed : IsDataRecord (simple (part_of (key_of (codes "A")) (param (typed user_key dollar) no_params))) → ⊥
user_typed data_record = data_record.no_user_keywords.1.1.0

-- `(A()!B())` too
user_second : IsDataRecord (complex (part_of (key_of (codes "A")) no_params ∷ part_of (record { user = true; word = codes "B" }) no_params ∷ [])) → ⊥
user_second data_record = data_record.no_user_keywords.1.1.1.1.0

-- `ENDSEC();` as a header record is not the end of a section
not_section_end : statement_tokens (header (part_of (key_of (codes "ENDSEC")) no_params)) ≡ statement_tokens (section section_end) → ⊥
not_section_end same = cc

-- lists, one in another: 64 are allowed and 65 are not; the same with typed parameters
abbrev nested : ℕ → Param
nested zero = dollar
nested (suc n) = list (param (nested n) no_params)

abbrev nested_typed : ℕ → Param
nested_typed zero = dollar
nested_typed (suc n) = typed (key_of (codes "A")) (nested_typed n)

shallow : IsShallow (param (nested 64) no_params)
shallow = lit≤ tt

too_deep : IsShallow (param (nested 65) no_params) → ⊥
too_deep h = omega (arith, h)

shallow_typed : IsShallow (param (nested_typed 64) no_params)
shallow_typed = lit≤ tt

too_deep_typed : IsShallow (param (nested_typed 65) no_params) → ⊥
too_deep_typed h = omega (arith, h)

-- parameters side by side do not add up, and each counts, also behind another
shallow_beside : IsShallow (param (nested 64) (param (nested_typed 64) no_params))
shallow_beside = lit≤ tt

too_deep_behind : IsShallow (param dollar (param (list (param dollar (param (nested 64) no_params))) no_params)) → ⊥
too_deep_behind h = omega (arith, h)

-- in a header record and in a record of the data section
too_deep_in_header : (schema : List ℕ) → IsFile (record { header = part_of (key_of (codes "A")) (param (nested 65) no_params) ∷ []; sections = [] }) schema → ⊥
too_deep_in_header schema file = too_deep file.shallow_header.0

too_deep_in_data : IsDataRecord (complex (part_of (key_of (codes "A")) no_params ∷ part_of (key_of (codes "B")) (param (nested 65) no_params) ∷ [])) → ⊥
too_deep_in_data data_record = too_deep data_record.shallow.1.0

-- the instance names in `((#2,A(#3)),#2)`, each as often as it stands
names_in_order : param_references (list (param (list (param (name 2) (param (typed (key_of (codes "A")) (name 3)) no_params))) (param (name 2) no_params))) ≡ 2 ∷ 3 ∷ 2 ∷ []
names_in_order = refl

-- two sections without a name, and none
unnamed_twice : (parts : List Part) (schema : List ℕ) → IsFile (record { header = parts; sections = record { heading = unnamed; instances = [] } ∷ record { heading = unnamed; instances = [] } ∷ [] }) schema → ⊥
unnamed_twice parts schema is = is.headings_are

no_section : (parts : List Part) (schema : List ℕ) → IsFile (record { header = parts; sections = [] }) schema → ⊥
no_section parts schema is = is.headings_are
