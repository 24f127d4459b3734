-- The header records and instances among the statements of a tree.
use Rattle.std.specs.Prelude.{◌≡◌, ℕ, List, [], ◌∷◌, ◌++◌, map, Contains, refl}
use Rattle.std.specs.List.{flat_map}
use Rattle.std.proofs.Common.{ap, sym, subst, ◌∙◌, inl, inr, append-nil}
use Rattle.std.proofs.lemmas.Grind.{flat_map-append}
use Rattle.std.proofs.lemmas.List.Elements.{Contains-append_left, Contains-append_right, Contains-append_cases}
use Rattle.p21_spec_basics.proofs.Members.{Contains-none, Contains-first, Contains-later, Contains-cases, Contains-flat_map, Contains-mapped, Contains-one_of, Contains-unmapped}
use Rattle.p21_spec_exchange.specs.DataSection.{Heading, DataSection, heading_names, headings, instances_in, section_names}
use Rattle.p21_spec_exchange.specs.Record.{Part, Record}
use Rattle.p21_spec_exchange.specs.Statement.{SectionLine, Statement, section, header, instance, begin, header_start, section_end, data_start, finish}
use Rattle.p21_spec_exchange.specs.Structure.{Structure, section_statements, statements}
use Rattle.p21_spec_laws.proofs.SaidFiles.{Instance, instance_of, behind_header}
use Rattle.p21_spec_laws.specs.Taken.{BeginsWith, headings_among, instances_among, section_names_among}

-- what is among the first is among all
pub Contains-begins : {X : Type 0} (front whole : List X) (x : X) → BeginsWith front whole → Contains front x → Contains whole x
Contains-begins {X} front whole x (rest, is) among = let P : List X → Type 0 = λ xs. Contains xs x in subst P (sym is) (Contains-append_left front rest x among)

-- ---- the instances of a tree

pub instances-append : (xs ys : List Statement) → instances_among (xs ++ ys) ≡ instances_among xs ++ instances_among ys
instances-append [] ys = refl
instances-append (section line ∷ xs) ys = instances-append xs ys
instances-append (header part ∷ xs) ys = instances-append xs ys
instances-append (instance n r ∷ xs) ys = ap (λ (is : List Instance). (n, r) ∷ is) (instances-append xs ys)

none-headers : (parts : List Part) → instances_among (map header parts) ≡ []
none-headers [] = refl
none-headers (part ∷ parts) = none-headers parts

all-instances : (is : List Instance) → instances_among (map instance_of is) ≡ is
all-instances [] = refl
all-instances (i ∷ is) = ap (λ (js : List Instance). i ∷ js) (all-instances is)

of-section : (x : DataSection) → instances_among (section_statements x) ≡ x.instances
of-section x = instances-append (map instance_of x.instances) (section section_end ∷ []) ∙ append-nil (instances_among (map instance_of x.instances)) ∙ all-instances x.instances

of-sections : (xs : List DataSection) → instances_among (flat_map section_statements xs) ≡ instances_in xs
of-sections [] = refl
of-sections (x ∷ xs) =
    instances-append (section_statements x) (flat_map section_statements xs)
    ∙ ap (λ (is : List Instance). is ++ instances_among (flat_map section_statements xs)) (of-section x)
    ∙ ap (λ (is : List Instance). x.instances ++ is) (of-sections xs)

pub instances-are : (t : Structure) → instances_among (statements t) ≡ instances_in t.sections
instances-are t =
    instances-append (map header t.header) (behind_header t)
    ∙ ap (λ (is : List Instance). is ++ instances_among (behind_header t)) (none-headers t.header)
    ∙ instances-append (flat_map section_statements t.sections) (section finish ∷ [])
    ∙ append-nil (instances_among (flat_map section_statements t.sections))
    ∙ of-sections t.sections

pub instances-begin : (taken : List Statement) (t : Structure) → BeginsWith taken (statements t) → BeginsWith (instances_among taken) (instances_in t.sections)
instances-begin taken t (rest, is) = (instances_among rest, sym (instances-are t) ∙ ap instances_among is ∙ instances-append taken rest)

pub among-instances : (sts : List Statement) (n : ℕ) (r : Record) → Contains sts (instance n r) → Contains (instances_among sts) (n, r)
among-instances [] n r among = absurd (Contains-none (instance n r) among)
among-instances (section line ∷ sts) n r among = elim (Contains-cases (section line) sts (instance n r) among) [ inl h ↦ cc | inr h ↦ among-instances sts n r h ]
among-instances (header part ∷ sts) n r among = elim (Contains-cases (header part) sts (instance n r) among) [ inl h ↦ cc | inr h ↦ among-instances sts n r h ]
among-instances (instance m q ∷ sts) n r among = elim (Contains-cases (instance m q) sts (instance n r) among) [
  | inl h ↦ (
      let name : m ≡ n = cc in
      let same : q ≡ r = cc in
      let P : Instance → Type 0 = λ i. Contains ((m, q) ∷ instances_among sts) i in
      subst P (ap (λ (k : ℕ). (k, q)) name ∙ ap (λ (x : Record). (n, x)) same) (Contains-first (m, q) (instances_among sts)))
  | inr h ↦ Contains-later (m, q) (instances_among sts) (n, r) (among-instances sts n r h)
]

pub instance-among : (t : Structure) (n : ℕ) (r : Record) → Contains (statements t) (instance n r) → Contains (instances_in t.sections) (n, r)
instance-among t n r among = let P : List Instance → Type 0 = λ is. Contains is (n, r) in subst P (instances-are t) (among-instances (statements t) n r among)

instances-among : (sts : List Statement) (n : ℕ) (r : Record) → Contains (instances_among sts) (n, r) → Contains sts (instance n r)
instances-among [] n r among = absurd (Contains-none (n, r) among)
instances-among (section line ∷ sts) n r among = Contains-later (section line) sts (instance n r) (instances-among sts n r among)
instances-among (header part ∷ sts) n r among = Contains-later (header part) sts (instance n r) (instances-among sts n r among)
instances-among (instance m q ∷ sts) n r among = elim (Contains-cases (m, q) (instances_among sts) (n, r) among) [
  | inl h ↦ let P : Instance → Type 0 = λ i. Contains (instance m q ∷ sts) (instance i.0 i.1) in subst P h (Contains-first (instance m q) sts)
  | inr h ↦ Contains-later (instance m q) sts (instance n r) (instances-among sts n r h)
]

pub among-statements : (t : Structure) (n : ℕ) (r : Record) → Contains (instances_in t.sections) (n, r) → Contains (statements t) (instance n r)
among-statements t n r among = let P : List Instance → Type 0 = λ is. Contains is (n, r) in instances-among (statements t) n r (subst P (sym (instances-are t)) among)

-- ---- the header records of a tree

no-header : (line : SectionLine) (sts : List Statement) (part : Part) → Contains (section line ∷ sts) (header part) → Contains sts (header part)
no-header line sts part among = elim (Contains-cases (section line) sts (header part) among) [ inl h ↦ cc | inr h ↦ h ]

no-header_sections : (xs : List DataSection) (part : Part) → Contains (flat_map section_statements xs) (header part) → ⊥
no-header_sections xs part among =
    let (x, at, found) = Contains-one_of section_statements xs (header part) among in
    elim (Contains-append_cases (map instance_of x.instances) (section section_end ∷ []) (header part) (no-header (data_start x.heading) (map instance_of x.instances ++ (section section_end ∷ [])) part found)) [
      | inl h ↦ let (i, at_i, is) = Contains-unmapped instance_of x.instances (header part) h in cc
      | inr h ↦ Contains-none (header part) (no-header section_end [] part h)
    ]

pub header-among : (t : Structure) (part : Part) → Contains (statements t) (header part) → Contains t.header part
header-among t part among =
    elim (Contains-append_cases (map header t.header) (behind_header t) (header part) (no-header header_start (map header t.header ++ behind_header t) part (no-header begin (section header_start ∷ (map header t.header ++ behind_header t)) part among))) [
      | inl h ↦ let (found, at, is) = Contains-unmapped header t.header (header part) h in let same : found ≡ part = cc in (let P : Part → Type 0 = λ x. Contains t.header x in subst P same at)
      | inr h ↦ elim (Contains-append_cases (flat_map section_statements t.sections) (section finish ∷ []) (header part) (no-header section_end (flat_map section_statements t.sections ++ (section finish ∷ [])) part h)) [
        | inl h_ ↦ absurd (no-header_sections t.sections part h_)
        | inr h_ ↦ absurd (Contains-none (header part) (no-header finish [] part h_))
      ]
    ]

pub header-statement : (t : Structure) (part : Part) → Contains t.header part → Contains (statements t) (header part)
header-statement t part among =
    Contains-later (section begin) (section header_start ∷ (map header t.header ++ behind_header t)) (header part)
    (Contains-later (section header_start) (map header t.header ++ behind_header t) (header part)
    (Contains-append_left (map header t.header) (behind_header t) (header part) (Contains-mapped header t.header part among)))

-- how each section begins, among the statements
pub heading-statement : (t : Structure) (h : Heading) → Contains (headings t.sections) h → Contains (statements t) (section (data_start h))
heading-statement t h among =
    let (x, at, is) = Contains-unmapped (λ (y : DataSection). y.heading) t.sections h among in
    let P : Heading → Type 0 = λ k. Contains (section_statements x) (section (data_start k)) in
    let own : Contains (section_statements x) (section (data_start h)) = subst P is (Contains-first (section (data_start x.heading)) (map instance_of x.instances ++ (section section_end ∷ []))) in
    let fronts : List Statement = section begin ∷ section header_start ∷ map header t.header in
    Contains-append_right fronts (behind_header t) (section (data_start h))
    (Contains-later (section section_end) (flat_map section_statements t.sections ++ (section finish ∷ [])) (section (data_start h))
    (Contains-append_left (flat_map section_statements t.sections) (section finish ∷ []) (section (data_start h)) (Contains-flat_map section_statements t.sections x (section (data_start h)) at own)))

-- ---- the headings of a tree

headings-append : (xs ys : List Statement) → headings_among (xs ++ ys) ≡ headings_among xs ++ headings_among ys
headings-append [] ys = refl
headings-append (section (data_start h) ∷ xs) ys = ap (λ (hs : List Heading). h ∷ hs) (headings-append xs ys)
headings-append (other ∷ xs) ys = headings-append xs ys

no-headings_of_headers : (parts : List Part) → headings_among (map header parts) ≡ []
no-headings_of_headers [] = refl
no-headings_of_headers (part ∷ parts) = no-headings_of_headers parts

no-headings_of_instances : (is : List Instance) → headings_among (map instance_of is) ≡ []
no-headings_of_instances [] = refl
no-headings_of_instances (i ∷ is) = no-headings_of_instances is

headings-of_section : (x : DataSection) → headings_among (section_statements x) ≡ x.heading ∷ []
headings-of_section x =
    ap (λ (hs : List Heading). x.heading ∷ hs)
    (headings-append (map instance_of x.instances) (section section_end ∷ []) ∙ append-nil (headings_among (map instance_of x.instances)) ∙ no-headings_of_instances x.instances)

headings-of_sections : (xs : List DataSection) → headings_among (flat_map section_statements xs) ≡ headings xs
headings-of_sections [] = refl
headings-of_sections (x ∷ xs) =
    headings-append (section_statements x) (flat_map section_statements xs)
    ∙ ap (λ (hs : List Heading). hs ++ headings_among (flat_map section_statements xs)) (headings-of_section x)
    ∙ ap (λ (hs : List Heading). x.heading ∷ hs) (headings-of_sections xs)

pub headings-are : (t : Structure) → headings_among (statements t) ≡ headings t.sections
headings-are t =
    headings-append (map header t.header) (behind_header t)
    ∙ ap (λ (hs : List Heading). hs ++ headings_among (behind_header t)) (no-headings_of_headers t.header)
    ∙ headings-append (flat_map section_statements t.sections) (section finish ∷ [])
    ∙ append-nil (headings_among (flat_map section_statements t.sections))
    ∙ headings-of_sections t.sections

pub headings-begin : (taken : List Statement) (t : Structure) → BeginsWith taken (statements t) → BeginsWith (headings_among taken) (headings t.sections)
headings-begin taken t (rest, is) = (headings_among rest, sym (headings-are t) ∙ ap headings_among is ∙ headings-append taken rest)

among-headings : (sts : List Statement) (h : Heading) → Contains sts (section (data_start h)) → Contains (headings_among sts) h
among-headings [] h among = absurd (Contains-none (section (data_start h)) among)
among-headings (section (data_start k) ∷ sts) h among = elim (Contains-cases (section (data_start k)) sts (section (data_start h)) among) [
  | inl same ↦ let one : k ≡ h = cc in (let P : Heading → Type 0 = λ x. Contains (k ∷ headings_among sts) x in subst P one (Contains-first k (headings_among sts)))
  | inr later ↦ Contains-later k (headings_among sts) h (among-headings sts h later)
]
among-headings (other ∷ sts) h among = elim (Contains-cases other sts (section (data_start h)) among) [ inl same ↦ cc | inr later ↦ among-headings sts h later ]

pub heading-among : (t : Structure) (h : Heading) → Contains (statements t) (section (data_start h)) → Contains (headings t.sections) h
heading-among t h among = let P : List Heading → Type 0 = λ hs. Contains hs h in subst P (headings-are t) (among-headings (statements t) h among)

-- the headings of a section's names, one more behind them
pub names-append : (xs ys : List Statement) → section_names_among (xs ++ ys) ≡ section_names_among xs ++ section_names_among ys
names-append xs ys = ap section_names (headings-append xs ys) ∙ flat_map-append heading_names (headings_among xs) (headings_among ys)

-- ---- the section lines of each tree

-- those that are not of a data section stand in each
pub line-statement : (t u : Structure) (line : SectionLine) → ((h : Heading) → Contains (headings t.sections) h → Contains (headings u.sections) h) → Contains (statements t) (section line) → Contains (statements u) (section line)
line-statement t u begin heads among = Contains-first (section begin) (section header_start ∷ (map header u.header ++ behind_header u))
line-statement t u header_start heads among = Contains-later (section begin) (section header_start ∷ (map header u.header ++ behind_header u)) (section header_start) (Contains-first (section header_start) (map header u.header ++ behind_header u))
line-statement t u section_end heads among =
    let fronts : List Statement = section begin ∷ section header_start ∷ map header u.header in
    Contains-append_right fronts (behind_header u) (section section_end) (Contains-first (section section_end) (flat_map section_statements u.sections ++ (section finish ∷ [])))
line-statement t u (data_start h) heads among = heading-statement u h (heads h (heading-among t h among))
line-statement t u finish heads among =
    let fronts : List Statement = section begin ∷ section header_start ∷ map header u.header in
    Contains-append_right fronts (behind_header u) (section finish)
    (Contains-later (section section_end) (flat_map section_statements u.sections ++ (section finish ∷ [])) (section finish)
    (Contains-append_right (flat_map section_statements u.sections) (section finish ∷ []) (section finish) (Contains-first (section finish) [])))
