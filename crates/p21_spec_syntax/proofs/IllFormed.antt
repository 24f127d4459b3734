-- Bytes that begin no well-formed file, and bytes that are none.
use Rattle.std.proofs.Common.{◌≡◌, ℕ, ◌⊎◌, inl, inr, List, [], ◌∷◌, ◌++◌, Contains, get_or, map, refl, ap, sym, subst, ◌∙◌, append_assoc, arith}
use Rattle.std.specs.Prelude.{codes}
use Rattle.std.proofs.lemmas.Grind.{flat_map-append}
use Rattle.std.proofs.lemmas.List.{map-append}
use Rattle.std.proofs.lemmas.List.Elements.{Contains-append_cases, Contains-append_left}
use Rattle.std.specs.List.{flat_map, AllByRecursion as Each}
use Rattle.p21_spec_basics.proofs.Members.{Contains-cases, Contains-first, Contains-later, Contains-mapped, Contains-none, Contains-unmapped, Each-member}
use Rattle.p21_spec_basics.proofs.Shuffles.{NoneTwice, NoneTwice-again, NoneTwice-front, distinct-none_twice, texts-none_twice}
use Rattle.p21_spec_basics.specs.Digits.{IsByte}
use Rattle.p21_spec_basics.specs.Limits.{Limits}
use Rattle.p21_spec_exchange.proofs.OneTree.{one_tree}
use Rattle.p21_spec_exchange.specs.DataSection.{Heading, heading_names, headings, instances_in, named, section_names}
use Rattle.p21_spec_exchange.specs.Header.{IsFileSchema, IsHeader}
use Rattle.p21_spec_exchange.specs.Parameter as parameter
use Rattle.p21_spec_exchange.specs.Parameter.{Key, key_of, no_params, param}
use Rattle.p21_spec_exchange.specs.Record.{Part, Record}
use Rattle.p21_spec_exchange.specs.Statement.{Statement, begin, data_start, finish, header, header_start, instance, section, section_end}
use Rattle.p21_spec_exchange.specs.Structure.{Structure, section_statements, statements, tokens_of}
use Rattle.p21_spec_file.specs.File.{HeadingNamesSchema}
use Rattle.p21_spec_laws.proofs.Dead.{names-first}
use Rattle.p21_spec_laws.proofs.OneReading.{one_schema_text_of, one_structure_of}
use Rattle.p21_spec_laws.proofs.SaidFiles.{Instance}
use Rattle.p21_spec_laws.proofs.Statements.{Contains-begins, header-among, heading-among, headings-begin, instances-append, instances-are, instances-begin, names-append}
use Rattle.p21_spec_laws.specs.Taken.{AreStatementsTaken, BeginsWith, headings_among, instances_among, names_among, section_names_among}
use Rattle.p21_spec_schema.proofs.SchemaNames.{one_schema_name}
use Rattle.p21_spec_schema.specs.SchemaName.{NamesSchema}
use Rattle.p21_tokens_automaton.proofs.Theorems.{one-laying}
use Rattle.p21_spec_syntax.specs.Laws.{EarlySectionIsIllFormed, MissingTargetIsIllFormed, NoNameIsIllFormed, OneWellFormedFile, OtherNameIsIllFormed, OtherSectionIsIllFormed, RepeatedNameIsIllFormed, RepeatedSectionIsIllFormed}
use Rattle.p21_spec_syntax.specs.WellFormedFile.{BeginsIllFormed, BeginsWithName, IsWellFormedFile, names_of, references_of}

-- ---- one reading

pub one-file : OneWellFormedFile
one-file limits others bytes t u schema other is is_ =
    let text : is.schema_text ≡ is_.schema_text = one_schema_text_of bytes t u is.schema_text is_.schema_text is.file.in_grammar is_.file.in_grammar in (
      one_structure_of bytes t u is.schema_text is_.schema_text is.file.in_grammar is_.file.in_grammar,
      one_schema_name is_.schema_text schema other (subst (λ (x : List ℕ). NamesSchema x schema) text is.names_schema) is_.names_schema,
    )

-- ---- by the statements taken

-- bytes begin no well-formed file where no tree of one begins with the statements taken
none-by : (limits : Limits) (bytes : List ℕ) (taken : List Statement) → AreStatementsTaken bytes taken
    → ((all : List ℕ) (t : Structure) (schema : List ℕ) → IsWellFormedFile limits all t schema → BeginsWith taken (statements t) → ⊥) → BeginsIllFormed limits bytes
none-by limits bytes taken front none more are t schema is = none (bytes ++ more) t schema is (front more are t is.schema_text is.file.in_grammar)

-- a FILE_SCHEMA of a header is its third record
schema-text : (parts : List Part) (chars others : List ℕ) (part : Part) → IsHeader parts others → Contains parts part → IsFileSchema part chars → others ≡ chars
schema-text parts chars others part is among file_schema =
    let P : List Part → Type 0 = λ xs. Contains xs part in
    elim (Contains-cases is.file_description (is.file_name ∷ is.file_schema ∷ is.further) part (subst P is.header_is among)) [
      | inl h ↦ absurd (let e : key_of (codes "FILE_DESCRIPTION") ≡ key_of (codes "FILE_SCHEMA") = sym is.is_file_description.0 ∙ ap (λ (x : Part). x.key) h ∙ file_schema.0 in let sixth : 68 ≡ 83 = ap (λ (k : Key). get_or k.word 5 0) e in omega (arith, sixth))
      | inr h ↦ elim (Contains-cases is.file_name (is.file_schema ∷ is.further) part h) [
        | inl h_ ↦ absurd (let e : key_of (codes "FILE_NAME") ≡ key_of (codes "FILE_SCHEMA") = sym is.is_file_name.0 ∙ ap (λ (x : Part). x.key) h_ ∙ file_schema.0 in let sixth : 78 ≡ 83 = ap (λ (k : Key). get_or k.word 5 0) e in omega (arith, sixth))
        | inr h_ ↦ elim (Contains-cases is.file_schema is.further part h_) [
          | inl same ↦ (
              let texts : param (parameter.list (param (parameter.text others) no_params)) no_params ≡ param (parameter.list (param (parameter.text chars) no_params)) no_params = sym is.is_file_schema.1 ∙ ap (λ (x : Part). x.params) same ∙ file_schema.1 in
              cc)
          | inr far ↦ absurd ((Each-member _ is.further part is.are_further far).no_file_schema file_schema.0)
        ]
      ]
    ]

-- the text of a FILE_SCHEMA among them is that of the tree
text-is : (limits : Limits) (all : List ℕ) (t : Structure) (schema : List ℕ) (is : IsWellFormedFile limits all t schema) (taken : List Statement) → BeginsWith taken (statements t) → (part : Part) (chars : List ℕ) → Contains taken (header part) → IsFileSchema part chars → is.schema_text ≡ chars
text-is limits all t schema is taken begins part chars among file_schema =
    schema-text t.header chars is.schema_text part is.file.in_grammar.is_file.header (header-among t part (Contains-begins taken (statements t) (header part) begins among)) file_schema

pub no-name : NoNameIsIllFormed
no-name limits bytes taken front part chars among file_schema none = none-by limits bytes taken front (λ all t schema is begins.
    none (subst BeginsWithName (text-is limits all t schema is taken begins part chars among file_schema) is.begins_with_name))

pub other-name : OtherNameIsIllFormed
other-name limits bytes taken front part other chars others name among file_schema names among_ file_schema_ none = none-by limits bytes taken front (λ all t schema is begins.
    let one = text-is limits all t schema is taken begins part chars among file_schema in
    let two = text-is limits all t schema is taken begins other others among_ file_schema_ in
    none (subst (λ (x : List ℕ). NamesSchema x name) (sym one ∙ two) names))

pub other-section : OtherSectionIsIllFormed
other-section limits bytes taken front part chars name among file_schema names heading at other = none-by limits bytes taken front (λ all t schema is begins.
    let text = text-is limits all t schema is taken begins part chars among file_schema in
    let same : schema ≡ name = one_schema_name chars schema name (subst (λ (x : List ℕ). NamesSchema x schema) text is.names_schema) names in
    let here : Contains (headings t.sections) heading = heading-among t heading (Contains-begins taken (statements t) (section (data_start heading)) begins at) in
    other (subst (λ (x : List ℕ). HeadingNamesSchema x heading) same (Each-member (HeadingNamesSchema schema) (headings t.sections) heading is.sections_name_schema here)))

-- ---- the header stands first

-- what stands in front of the first statement of a kind stands in front of each of that kind
front-first : (front rest given later : List Statement) (d : Statement) → front ++ rest ≡ given ++ (d ∷ later) → ¬ Contains front d → (x : Statement) → Contains front x → Contains given x
front-first [] rest given later d same none x among = absurd (Contains-none x among)
front-first (f ∷ front) rest [] later d same none x among = absurd (none (let first : f ≡ d = cc in subst (λ (y : Statement). Contains (f ∷ front) y) first (Contains-first f front)))
front-first (f ∷ front) rest (g ∷ given) later d same none x among =
    let first : f ≡ g = cc in
    let tail : front ++ rest ≡ given ++ (d ∷ later) = cc in
    elim (Contains-cases f front x among) [
      | inl here ↦ subst (λ (y : Statement). Contains (g ∷ given) y) (sym first ∙ here) (Contains-first g given)
      | inr far ↦ Contains-later g given x (front-first front rest given later d tail (λ at. none (Contains-later f front d at)) x far)
    ]

abbrev head : List Part → List Statement
head parts = section begin ∷ section header_start ∷ (map header parts ++ (section section_end ∷ []))

no-section_in_head : (parts : List Part) (h : Heading) → Contains (head parts) (section (data_start h)) → ⊥
no-section_in_head parts h among = elim (Contains-cases (section begin) (section header_start ∷ (map header parts ++ (section section_end ∷ []))) (section (data_start h)) among) [
  | inl first ↦ cc
  | inr more ↦ elim (Contains-cases (section header_start) (map header parts ++ (section section_end ∷ [])) (section (data_start h)) more) [
    | inl second ↦ cc
    | inr rest ↦ elim (Contains-append_cases (map header parts) (section section_end ∷ []) (section (data_start h)) rest) [
      | inl here ↦ (let (part, at, is) = Contains-unmapped header parts (section (data_start h)) here in cc)
      | inr last ↦ elim (Contains-cases (section section_end) [] (section (data_start h)) last) [
        | inl same ↦ cc
        | inr none ↦ absurd (Contains-none (section (data_start h)) none)
      ]
    ]
  ]
]

header-first : (t : Structure) (taken : List Statement) (h : Heading) → BeginsWith (taken ++ section (data_start h) ∷ []) (statements t) → (part : Part) → Contains t.header part → Contains taken (header part)
header-first t taken h (later, is) part among =
    let rest : List Statement = flat_map section_statements t.sections ++ (section finish ∷ []) in
    let apart : head t.header ++ rest ≡ statements t = ap (λ (l : List Statement). section begin ∷ section header_start ∷ l) (append_assoc (map header t.header) (section section_end ∷ []) rest) in
    let whole : head t.header ++ rest ≡ taken ++ (section (data_start h) ∷ later) = apart ∙ is ∙ append_assoc taken (section (data_start h) ∷ []) later in
    front-first (head t.header) rest taken later (section (data_start h)) whole (no-section_in_head t.header h) (header part)
    (Contains-later (section begin) (section header_start ∷ (map header t.header ++ (section section_end ∷ []))) (header part)
    (Contains-later (section header_start) (map header t.header ++ (section section_end ∷ [])) (header part)
    (Contains-append_left (map header t.header) (section section_end ∷ []) (header part) (Contains-mapped header t.header part among))))

pub early-section : EarlySectionIsIllFormed
early-section limits bytes taken heading front none = none-by limits bytes (taken ++ section (data_start heading) ∷ []) front (λ all t schema is begins.
    let h = is.file.in_grammar.is_file.header in
    let third : Contains t.header h.file_schema =
    subst (λ (ps : List Part). Contains ps h.file_schema) (sym h.header_is) (Contains-later h.file_description (h.file_name ∷ h.file_schema ∷ h.further) h.file_schema (Contains-later h.file_name (h.file_schema ∷ h.further) h.file_schema (Contains-first h.file_schema h.further))) in
    none h.file_schema is.schema_text (header-first t taken heading begins h.file_schema third) h.is_file_schema)

-- ---- names

pub section-again : RepeatedSectionIsIllFormed
section-again limits bytes taken name text front among =
    let again : List Statement = section (data_start (named name text)) ∷ [] in
    none-by limits bytes (taken ++ again) front (λ all t schema is begins.
    let (rest, same) = headings-begin (taken ++ again) t begins in
    let names : section_names (headings t.sections) ≡ section_names_among (taken ++ again) ++ section_names rest = ap section_names same ∙ flat_map-append heading_names (headings_among (taken ++ again)) rest in
    let none : NoneTwice (section_names_among (taken ++ again)) = NoneTwice-front (section_names_among (taken ++ again)) (section_names rest) (subst NoneTwice names (texts-none_twice (section_names (headings t.sections)) is.section_names_differ)) in
    NoneTwice-again (section_names_among taken) name among (subst NoneTwice (names-append taken again) none))

pub name-again : RepeatedNameIsIllFormed
name-again limits bytes taken n r front among =
    let again : List Statement = instance n r ∷ [] in
    none-by limits bytes (taken ++ again) front (λ all t schema is begins.
    let (rest, same) = instances-begin (taken ++ again) t begins in
    let none : NoneTwice (names_among (taken ++ again)) = names-first (instances_among (taken ++ again)) rest (subst (λ (is : List Instance). NoneTwice (names_of is)) same (distinct-none_twice (names_of (instances_in t.sections)) is.names_differ)) in
    let names : names_among (taken ++ again) ≡ names_among taken ++ (n ∷ []) = ap names_of (instances-append taken again) ∙ map-append (λ (i : Instance). i.0) (instances_among taken) ((n, r) ∷ []) in
    NoneTwice-again (names_among taken) n among (subst NoneTwice names none))

-- ---- at the end

pub missing-target : MissingTargetIsIllFormed
missing-target limits bytes t given same laid n among none u schema is =
    let tree : u ≡ t = one_tree u t (one-laying bytes (tokens_of u) (tokens_of t) is.file.in_grammar.laid laid) in
    let instances : instances_in u.sections ≡ instances_among given = ap (λ (x : Structure). instances_in x.sections) tree ∙ sym (instances-are t) ∙ ap instances_among same in
    let served : Each (Contains (names_of (instances_among given))) (references_of (instances_among given)) = subst (λ (is : List Instance). Each (Contains (names_of is)) (references_of is)) instances is.references_given in
    none (Each-member (Contains (names_of (instances_among given))) (references_of (instances_among given)) n served among)
