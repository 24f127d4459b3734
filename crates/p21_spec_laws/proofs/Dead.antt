-- The laws by which bytes are dead, where some statements are taken.
use Rattle.std.specs.Prelude.{◌≡◌, ◌≤◌, ℕ, List, [], ◌∷◌, ◌++◌, length, codes, Contains}
use Rattle.std.proofs.Common.{arith, get_or, ap, sym, subst, ◌∙◌, inl, inr}
use Rattle.p21_spec_basics.proofs.Members.{Contains-cases, Each-member, AllZip-member}
use Rattle.p21_spec_file.specs.Accepted.{IsDead, IsLineWithin, Means}
use Rattle.p21_spec_exchange.specs.DataSection.{instances_in}
use Rattle.p21_spec_file.specs.File.{FileMeaning, InstanceMeans, entity_sets_of}
use Rattle.p21_spec_exchange.specs.Header.{IsHeader, IsFileSchema}
use Rattle.p21_spec_basics.specs.Limits.{Limits}
use Rattle.p21_spec_exchange.specs.Parameter as parameter
use Rattle.p21_spec_exchange.specs.Parameter.{Key, key_of, no_params, param}
use Rattle.p21_spec_exchange.specs.Record.{Part}
use Rattle.p21_spec_schema.specs.Schema.{Schema}
use Rattle.p21_spec_schema.specs.SchemaName.{NamesSchema}
use Rattle.p21_spec_exchange.specs.Statement.{Statement, header, instance}
use Rattle.p21_spec_exchange.specs.Structure.{Structure, statements}
use Rattle.p21_spec_exchange.specs.CanonicalText.{statement_text}
use Rattle.p21_spec_laws.proofs.SaidFiles.{Instance}
use Rattle.p21_spec_laws.proofs.SectionsOnce.{named}
use Rattle.p21_spec_basics.proofs.Shuffles.{none_twice-distinct}
use Rattle.p21_spec_basics.proofs.Shuffles.{distinct-none_twice}
use Rattle.p21_spec_laws.proofs.OneLine.{instance-in_canonical, header-in_canonical}
use Rattle.p21_spec_laws.proofs.Statements.{Contains-begins, instance-among, instances-append, instances-begin, headings-begin, heading-among, line-statement, names-append, among-statements, header-among, header-statement}
use Rattle.p21_spec_laws.specs.DeadLaws.{BrokenRuleIsDead, EqualNamesAreDead, EqualSectionNamesAreDead, RepeatedNameIsDead, NoMeaningIsDead, OtherSchemaIsDead, RepeatedSectionNameIsDead, SectionOfOtherSchemaIsDead}
use Rattle.p21_spec_laws.specs.SizeLaws.{LongHeaderIsDead, LongInstanceIsDead, LongSectionLineIsDead}
use Rattle.p21_spec_laws.specs.Taken.{AreStatementsTaken, BeginsWith, headings_among, instances_among, names_among, section_names_among}
use Rattle.p21_spec_basics.proofs.Shuffles.{NoneTwice, NoneTwice-again, NoneTwice-front, none_twice-texts, texts-none_twice}
use Rattle.p21_spec_exchange.specs.DataSection as heading
use Rattle.p21_spec_exchange.specs.DataSection.{Heading, heading_names, headings, section_names}
use Rattle.p21_spec_file.specs.File.{HeadingNamesSchema, Reads}
use Rattle.p21_spec_file.specs.Canonical.{Canonical}
use Rattle.p21_spec_file.specs.SameFile.{HaveSameMembers, SameFileMeaning}
use Rattle.p21_spec_file.proofs.BrokenRules.{broken-means_nothing}
use Rattle.p21_spec_exchange.specs.Statement.{section, data_start}
use Rattle.std.proofs.lemmas.Grind.{flat_map-append}
use Rattle.std.proofs.lemmas.List.{map-append}

-- bytes are dead where no accepted bytes have a tree that begins with the statements taken
pub dead-by : (s : Schema) (limits : Limits) (bytes : List ℕ) (taken : List Statement) → AreStatementsTaken bytes taken
    → ((more : List ℕ) (m : FileMeaning) (means : Means s limits (bytes ++ more) m) → BeginsWith taken (statements means.reads.structure) → ⊥) → IsDead s limits bytes
dead-by s limits bytes taken front none more are (m, means) = none more m means (front more are means.reads.structure means.reads.schema_text means.reads.in_grammar)

-- ---- records that mean nothing

pub no-meaning : NoMeaningIsDead
no-meaning s limits bytes taken front n r among nothing = dead-by s limits bytes taken front (λ more m means begins.
    let t : Structure = means.reads.structure in
    let at : Contains (instances_in t.sections) (n, r) = instance-among t n r (Contains-begins taken (statements t) (instance n r) begins among) in
    let (x, at_x, holds) = AllZip-member (InstanceMeans s (entity_sets_of m.instances)) (instances_in t.sections) m.instances (n, r) means.reads.means at in
    nothing (entity_sets_of m.instances) x.1 holds.1)

-- ---- canonical lines over their limit

pub long-instance : LongInstanceIsDead
long-instance s formed limits bytes taken front n r text among is long = dead-by s limits bytes taken front (λ more m means begins.
    let t : Structure = means.reads.structure in
    let file = means.is_canonical in
    let u : Structure = file.canonical.reads.structure in
    let at : Contains (instances_in t.sections) (n, r) = instance-among t n r (Contains-begins taken (statements t) (instance n r) begins among) in
    let found : Contains (instances_in u.sections) (n, is.canonical) = instance-in_canonical s formed (bytes ++ more) m means.reads means.canonical file.canonical file.same n r text at is in
    let within : length (statement_text (instance n is.canonical)) ≤ limits.record_canonical = Each-member (IsLineWithin limits) (statements u) (instance n is.canonical) file.lines_within (among-statements u n is.canonical found) in
    let size : length text ≡ length (statement_text (instance n is.canonical)) = ap length is.text_is in
    omega (arith, within, size, long))

pub long-header : LongHeaderIsDead
long-header s limits bytes taken front part among long = dead-by s limits bytes taken front (λ more m means begins.
    let t : Structure = means.reads.structure in
    let file = means.is_canonical in
    let u : Structure = file.canonical.reads.structure in
    let at : Contains t.header part = header-among t part (Contains-begins taken (statements t) (header part) begins among) in
    let P : List Part → Type 0 = λ parts. Contains parts part in
    let found : Contains u.header part = subst P (sym (header-in_canonical s (bytes ++ more) m means.reads means.canonical file.canonical file.same)) at in
    let within : length (statement_text (header part)) ≤ limits.record_canonical = Each-member (IsLineWithin limits) (statements u) (header part) file.lines_within (header-statement u part found) in
    omega (arith, within, long))

-- the headings of the canonical file are those of the source
pub headings-in_canonical : (s : Schema) (bytes : List ℕ) (m : FileMeaning) (reads : Reads s bytes m) (out : List ℕ) (c : Canonical s out) → SameFileMeaning c.meaning m → HaveSameMembers (headings c.reads.structure.sections) (headings reads.structure.sections)
headings-in_canonical s bytes m reads out c same =
    let H : List Heading → Type 0 = λ hs. HaveSameMembers (headings c.reads.structure.sections) hs in
    let H_ : List Heading → Type 0 = λ hs. HaveSameMembers hs m.sections in
    subst H reads.sections_are (subst H_ c.reads.sections_are same.sections)

pub long-section_line : LongSectionLineIsDead
long-section_line s limits bytes taken front line among long = dead-by s limits bytes taken front (λ more m means begins.
    let t : Structure = means.reads.structure in
    let file = means.is_canonical in
    let u : Structure = file.canonical.reads.structure in
    let members = headings-in_canonical s (bytes ++ more) m means.reads means.canonical file.canonical file.same in
    let found : Contains (statements u) (section line) = line-statement t u line (λ h. (members h).1) (Contains-begins taken (statements t) (section line) begins among) in
    let within : length (statement_text (section line)) ≤ limits.record_canonical = Each-member (IsLineWithin limits) (statements u) (section line) file.lines_within found in
    omega (arith, within, long))

-- ---- names

-- the names of the first instances
pub names-first : (is js : List Instance) → NoneTwice (named (is ++ js)) → NoneTwice (named is)
names-first is js none = NoneTwice-front (named is) (named js) (subst NoneTwice (map-append (λ (i : Instance). i.0) is js) none)

pub equal-names : EqualNamesAreDead
equal-names s limits bytes taken front equal = dead-by s limits bytes taken front (λ more m means begins.
    let t : Structure = means.reads.structure in
    let (rest, is) = instances-begin taken t begins in
    let P : List Instance → Type 0 = λ js. NoneTwice (named js) in
    let none : NoneTwice (named (instances_among taken ++ rest)) = subst P is (distinct-none_twice (named (instances_in t.sections)) means.reads.names_differ) in
    equal (none_twice-distinct (names_among taken) (names-first (instances_among taken) rest none)))

pub name-again : RepeatedNameIsDead
name-again s limits bytes taken n r front among =
    equal-names s limits bytes (taken ++ (instance n r ∷ [])) front (λ distinct.
    let none : NoneTwice (names_among (taken ++ (instance n r ∷ []))) = distinct-none_twice (names_among (taken ++ (instance n r ∷ []))) distinct in
    let names : names_among (taken ++ (instance n r ∷ [])) ≡ names_among taken ++ (n ∷ []) = ap named (instances-append taken (instance n r ∷ [])) ∙ map-append (λ (i : Instance). i.0) (instances_among taken) ((n, r) ∷ []) in
    NoneTwice-again (names_among taken) n among (subst NoneTwice names none))

pub equal-section_names : EqualSectionNamesAreDead
equal-section_names s limits bytes taken front equal = dead-by s limits bytes taken front (λ more m means begins.
    let t : Structure = means.reads.structure in
    let (rest, is) = headings-begin taken t begins in
    let names : section_names (headings t.sections) ≡ section_names_among taken ++ section_names rest = ap section_names is ∙ flat_map-append heading_names (headings_among taken) rest in
    equal (none_twice-texts (section_names_among taken) (NoneTwice-front (section_names_among taken) (section_names rest) (subst NoneTwice names (texts-none_twice (section_names (headings t.sections)) means.reads.section_names_differ)))))

pub section-again : RepeatedSectionNameIsDead
section-again s limits bytes taken name text front among =
    let again : List Statement = section (data_start (heading.named name text)) ∷ [] in
    equal-section_names s limits bytes (taken ++ again) front (λ distinct.
    let none : NoneTwice (section_names_among (taken ++ again)) = texts-none_twice (section_names_among (taken ++ again)) distinct in
    NoneTwice-again (section_names_among taken) name among (subst NoneTwice (names-append taken again) none))

-- ---- the schema

schema-text : (parts : List Part) (chars others : List ℕ) (part : Part) → IsHeader parts others → Contains parts part → IsFileSchema part chars → others ≡ chars
schema-text parts chars others part is among file_schema =
    let P : List Part → Type 0 = λ xs. Contains xs part in
    elim (Contains-cases is.file_description (is.file_name ∷ is.file_schema ∷ is.further) part (subst P is.header_is among)) [
      | inl h ↦ absurd (let e : key_of (codes "FILE_DESCRIPTION") ≡ key_of (codes "FILE_SCHEMA") = sym is.is_file_description.0 ∙ ap (λ (x : Part). x.key) h ∙ file_schema.0 in let sixth : 68 ≡ 83 = ap (λ (k : Key). get_or k.word 5 0) e in omega (arith, sixth))
      | inr h ↦ elim (Contains-cases is.file_name (is.file_schema ∷ is.further) part h) [
        | inl h_ ↦ absurd (let e : key_of (codes "FILE_NAME") ≡ key_of (codes "FILE_SCHEMA") = sym is.is_file_name.0 ∙ ap (λ (x : Part). x.key) h_ ∙ file_schema.0 in let sixth : 78 ≡ 83 = ap (λ (k : Key). get_or k.word 5 0) e in omega (arith, sixth))
        | inr h_ ↦ elim (Contains-cases is.file_schema is.further part h_) [
          | inl same ↦ (
              let texts : param (parameter.list (param (parameter.text others) no_params)) no_params ≡ param (parameter.list (param (parameter.text chars) no_params)) no_params = sym is.is_file_schema.1 ∙ ap (λ (x : Part). x.params) same ∙ file_schema.1 in
              cc)
          | inr far ↦ absurd ((Each-member _ is.further part is.are_further far).no_file_schema file_schema.0)
        ]
      ]
    ]

pub other-schema : OtherSchemaIsDead
other-schema s limits bytes taken front part chars among file_schema other = dead-by s limits bytes taken front (λ more m means begins.
    let t : Structure = means.reads.structure in
    let at : Contains t.header part = header-among t part (Contains-begins taken (statements t) (header part) begins among) in
    let same : means.reads.schema_text ≡ chars = schema-text t.header chars means.reads.schema_text part means.reads.in_grammar.is_file.header at file_schema in
    let P : List ℕ → Type 0 = λ x. NamesSchema x s.name in
    other (subst P same means.reads.names_schema))

pub section-other_schema : SectionOfOtherSchemaIsDead
section-other_schema s limits bytes taken front h among other = dead-by s limits bytes taken front (λ more m means begins.
    let t : Structure = means.reads.structure in
    let at : Contains (headings t.sections) h = heading-among t h (Contains-begins taken (statements t) (section (data_start h)) begins among) in
    other (Each-member (HeadingNamesSchema s.name) (headings t.sections) h means.reads.sections_name_schema at))

pub broken-rule : BrokenRuleIsDead
broken-rule s formed limits bytes taken front n r number among breaks =
    no-meaning s limits bytes taken front n r among (λ kinds meaning means. broken-means_nothing s formed r number breaks kinds meaning means)
