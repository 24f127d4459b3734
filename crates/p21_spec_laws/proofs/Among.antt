-- The header records and the data sections among statements: those of a tree, and those of statements with one more.
use Rattle.std.specs.Prelude.{◌≡◌, ◌<◌, ℕ, List, [], ◌∷◌, ◌++◌, map, length, refl}
use Rattle.std.specs.List.{flat_map}
use Rattle.std.proofs.Common.{arith, ap, sym, ◌∙◌, append_assoc, append-nil}
use Rattle.p21_spec_laws.proofs.SaidFiles.{Instance, behind_header, instance_of}
use Rattle.p21_spec_laws.specs.CompleteFile.{SectionEntries, section_of, structure_of}
use Rattle.p21_spec_laws.specs.Taken.{instances_among}
use Rattle.p21_spec_laws.specs.Among.{instances_before, parts_among, sections_among}
use Rattle.p21_spec_laws.specs.UnrefusedStatements.{sections_behind, with_instance}
use Rattle.p21_spec_exchange.specs.DataSection.{DataSection, Heading, instances_in}
use Rattle.p21_spec_exchange.specs.Record.{Part, Record}
use Rattle.p21_spec_exchange.specs.Statement.{SectionLine, Statement, begin, data_start, finish, header, header_start, instance, section, section_end}
use Rattle.p21_spec_exchange.specs.Structure.{AreFirstStatements, Structure, section_statements, statements}

-- ---- the header records

pub parts-append : (xs ys : List Statement) → parts_among (xs ++ ys) ≡ parts_among xs ++ parts_among ys
parts-append [] ys = refl
parts-append (section line ∷ xs) ys = parts-append xs ys
parts-append (header part ∷ xs) ys = ap (λ (ps : List Part). part ∷ ps) (parts-append xs ys)
parts-append (instance n r ∷ xs) ys = parts-append xs ys

parts-of_headers : (parts : List Part) → parts_among (map header parts) ≡ parts
parts-of_headers [] = refl
parts-of_headers (part ∷ parts) = ap (λ (ps : List Part). part ∷ ps) (parts-of_headers parts)

no-parts_of_instances : (is : List Instance) → parts_among (map instance_of is) ≡ []
no-parts_of_instances [] = refl
no-parts_of_instances (i ∷ is) = no-parts_of_instances is

no-parts_of_sections : (xs : List DataSection) → parts_among (flat_map section_statements xs) ≡ []
no-parts_of_sections [] = refl
no-parts_of_sections (x ∷ xs) =
    parts-append (section_statements x) (flat_map section_statements xs)
    ∙ ap (λ (ps : List Part). ps ++ parts_among (flat_map section_statements xs)) (parts-append (map instance_of x.instances) (section section_end ∷ []) ∙ append-nil (parts_among (map instance_of x.instances)) ∙ no-parts_of_instances x.instances)
    ∙ no-parts_of_sections xs

pub parts-are : (t : Structure) → parts_among (statements t) ≡ t.header
parts-are t =
    parts-append (map header t.header) (behind_header t)
    ∙ ap (λ (ps : List Part). ps ++ parts_among (behind_header t)) (parts-of_headers t.header)
    ∙ ap (λ (ps : List Part). t.header ++ ps) (parts-append (flat_map section_statements t.sections) (section finish ∷ []) ∙ append-nil (parts_among (flat_map section_statements t.sections)) ∙ no-parts_of_sections t.sections)
    ∙ append-nil t.header

-- ---- the data sections of a tree

before-headers : (parts : List Part) (sts : List Statement) → instances_before (map header parts ++ sts) ≡ instances_before sts
before-headers [] sts = refl
before-headers (part ∷ parts) sts = before-headers parts sts

sections-behind_headers : (parts : List Part) (sts : List Statement) → sections_among (map header parts ++ sts) ≡ sections_among sts
sections-behind_headers [] sts = refl
sections-behind_headers (part ∷ parts) sts = sections-behind_headers parts sts

-- the instances of a section, up to the next
before-instances : (is : List Instance) (sts : List Statement) → instances_before (map instance_of is ++ sts) ≡ is ++ instances_before sts
before-instances [] sts = refl
before-instances (i ∷ is) sts = ap (λ (js : List Instance). i ∷ js) (before-instances is sts)

sections-behind_instances : (is : List Instance) (sts : List Statement) → sections_among (map instance_of is ++ sts) ≡ sections_among sts
sections-behind_instances [] sts = refl
sections-behind_instances (i ∷ is) sts = sections-behind_instances is sts

-- what stands behind the instances of a section
abbrev behind_section : List DataSection → List Statement
behind_section xs = section section_end ∷ (flat_map section_statements xs ++ (section finish ∷ []))

-- no instances stand in front of the next section
none-before_section : (xs : List DataSection) → instances_before (behind_section xs) ≡ []
none-before_section [] = refl
none-before_section (x ∷ xs) = refl

-- the statements of a section, and what stands behind them
section-apart : (x : DataSection) (xs : List DataSection) → flat_map section_statements (x ∷ xs) ++ (section finish ∷ []) ≡ section (data_start x.heading) ∷ (map instance_of x.instances ++ behind_section xs)
section-apart x xs =
    ap (λ (sts : List Statement). section (data_start x.heading) ∷ sts)
    (append_assoc (map instance_of x.instances ++ (section section_end ∷ [])) (flat_map section_statements xs) (section finish ∷ [])
    ∙ append_assoc (map instance_of x.instances) (section section_end ∷ []) (flat_map section_statements xs ++ (section finish ∷ [])))

section-instances : (x : DataSection) (xs : List DataSection) → instances_before (map instance_of x.instances ++ behind_section xs) ≡ x.instances
section-instances x xs = before-instances x.instances (behind_section xs) ∙ ap (λ (is : List Instance). x.instances ++ is) (none-before_section xs) ∙ append-nil x.instances

sections-of : (xs : List DataSection) → sections_among (flat_map section_statements xs ++ (section finish ∷ [])) ≡ xs
sections-of [] = refl
sections-of (x ∷ xs) =
    ap sections_among (section-apart x xs)
    ∙ ap (λ (is : List Instance). record { heading = x.heading; instances = is } ∷ sections_among (map instance_of x.instances ++ behind_section xs)) (section-instances x xs)
    ∙ ap (λ (ys : List DataSection). x ∷ ys) (sections-behind_instances x.instances (behind_section xs) ∙ sections-of xs)

pub sections-are : (t : Structure) → sections_among (statements t) ≡ t.sections
sections-are t = sections-behind_headers t.header (behind_header t) ∙ sections-of t.sections

-- so the statements tell the tree
pub statements-tell : (t : Structure) (given : List Statement) (groups : List SectionEntries) → statements t ≡ given → sections_among given ≡ map section_of groups → t ≡ structure_of (parts_among given) groups
statements-tell t given groups same sections =
    ap (λ (ps : List Part). record { header = ps; sections = t.sections }) (sym (parts-are t) ∙ ap parts_among same)
    ∙ ap (λ (xs : List DataSection). record { header = parts_among given; sections = xs }) (sym (sections-are t) ∙ ap sections_among same ∙ sections)

-- ---- the instances in front of the first section

pub none-before : (t : Structure) → instances_before (statements t) ≡ []
none-before t = before-headers t.header (behind_header t) ∙ none-before_section t.sections

-- the instances are those in front and those of the sections
pub instances-apart : (sts : List Statement) → instances_among sts ≡ instances_before sts ++ instances_in (sections_among sts)
instances-apart [] = refl
instances-apart (section (data_start h) ∷ sts) = instances-apart sts
instances-apart (section begin ∷ sts) = instances-apart sts
instances-apart (section header_start ∷ sts) = instances-apart sts
instances-apart (section section_end ∷ sts) = instances-apart sts
instances-apart (section finish ∷ sts) = instances-apart sts
instances-apart (header part ∷ sts) = instances-apart sts
instances-apart (instance n r ∷ sts) = ap (λ (is : List Instance). (n, r) ∷ is) (instances-apart sts)

-- behind no section an instance stands in front
instance-before : (xs later : List Statement) (n : ℕ) (r : Record) → sections_among xs ≡ [] → instances_before (xs ++ (instance n r ∷ later)) ≡ [] → ⊥
instance-before [] later n r none before = cc
instance-before (section (data_start h) ∷ xs) later n r none before = cc
instance-before (section begin ∷ xs) later n r none before = instance-before xs later n r none before
instance-before (section header_start ∷ xs) later n r none before = instance-before xs later n r none before
instance-before (section section_end ∷ xs) later n r none before = instance-before xs later n r none before
instance-before (section finish ∷ xs) later n r none before = instance-before xs later n r none before
instance-before (header part ∷ xs) later n r none before = instance-before xs later n r none before
instance-before (instance m q ∷ xs) later n r none before = cc

-- an instance of a tree stands in a data section
pub instance-in_section : (given : List Statement) (n : ℕ) (r : Record) (t : Structure) → AreFirstStatements (given ++ (instance n r ∷ [])) t → 0 < length (sections_among given)
instance-in_section given n r t (later, is) = some (sections_among given) refl
  where
    some : (xs : List DataSection) → sections_among given ≡ xs → 0 < length xs
    some (x ∷ xs) found = omega arith
    some [] found =
        absurd (instance-before given later n r found (ap instances_before (sym (append_assoc given (instance n r ∷ []) later)) ∙ ap instances_before (sym is) ∙ none-before t))

-- ---- one statement more

pub before-section_line : (xs : List Statement) (line : SectionLine) → instances_before (xs ++ (section line ∷ [])) ≡ instances_before xs
before-section_line [] (data_start h) = refl
before-section_line [] other = refl
before-section_line (section (data_start h) ∷ xs) line = refl
before-section_line (section begin ∷ xs) line = before-section_line xs line
before-section_line (section header_start ∷ xs) line = before-section_line xs line
before-section_line (section section_end ∷ xs) line = before-section_line xs line
before-section_line (section finish ∷ xs) line = before-section_line xs line
before-section_line (header part ∷ xs) line = before-section_line xs line
before-section_line (instance n r ∷ xs) line = ap (λ (is : List Instance). (n, r) ∷ is) (before-section_line xs line)

behind-first : (x : DataSection) (xs : List DataSection) (line : SectionLine) → sections_behind (x ∷ xs) line ≡ x ∷ sections_behind xs line
behind-first x xs (data_start h) = refl
behind-first x xs other = refl

-- a section line begins a data section, or leaves them
pub sections-by_line : (xs : List Statement) (line : SectionLine) → sections_among (xs ++ (section line ∷ [])) ≡ sections_behind (sections_among xs) line
sections-by_line [] (data_start h) = refl
sections-by_line [] other = refl
sections-by_line (section (data_start h) ∷ xs) line =
    ap (λ (is : List Instance). record { heading = h; instances = is } ∷ sections_among (xs ++ (section line ∷ []))) (before-section_line xs line)
    ∙ ap (λ (ys : List DataSection). record { heading = h; instances = instances_before xs } ∷ ys) (sections-by_line xs line)
    ∙ sym (behind-first (record { heading = h; instances = instances_before xs }) (sections_among xs) line)
sections-by_line (section begin ∷ xs) line = sections-by_line xs line
sections-by_line (section header_start ∷ xs) line = sections-by_line xs line
sections-by_line (section section_end ∷ xs) line = sections-by_line xs line
sections-by_line (section finish ∷ xs) line = sections-by_line xs line
sections-by_line (header part ∷ xs) line = sections-by_line xs line
sections-by_line (instance n r ∷ xs) line = sections-by_line xs line

before-header : (xs : List Statement) (part : Part) → instances_before (xs ++ (header part ∷ [])) ≡ instances_before xs
before-header [] part = refl
before-header (section (data_start h) ∷ xs) part = refl
before-header (section begin ∷ xs) part = before-header xs part
before-header (section header_start ∷ xs) part = before-header xs part
before-header (section section_end ∷ xs) part = before-header xs part
before-header (section finish ∷ xs) part = before-header xs part
before-header (header other ∷ xs) part = before-header xs part
before-header (instance n r ∷ xs) part = ap (λ (is : List Instance). (n, r) ∷ is) (before-header xs part)

-- a header record leaves them
pub sections-by_header : (xs : List Statement) (part : Part) → sections_among (xs ++ (header part ∷ [])) ≡ sections_among xs
sections-by_header [] part = refl
sections-by_header (section (data_start h) ∷ xs) part =
    ap (λ (is : List Instance). record { heading = h; instances = is } ∷ sections_among (xs ++ (header part ∷ []))) (before-header xs part)
    ∙ ap (λ (ys : List DataSection). record { heading = h; instances = instances_before xs } ∷ ys) (sections-by_header xs part)
sections-by_header (section begin ∷ xs) part = sections-by_header xs part
sections-by_header (section header_start ∷ xs) part = sections-by_header xs part
sections-by_header (section section_end ∷ xs) part = sections-by_header xs part
sections-by_header (section finish ∷ xs) part = sections-by_header xs part
sections-by_header (header other ∷ xs) part = sections-by_header xs part
sections-by_header (instance n r ∷ xs) part = sections-by_header xs part

-- an instance stands in front of the next section, or in a section of its own
before-instance_behind : (xs : List Statement) (i : Instance) → sections_among xs ≡ [] → instances_before (xs ++ (instance_of i ∷ [])) ≡ instances_before xs ++ (i ∷ [])
before-instance_behind [] i none = refl
before-instance_behind (section (data_start h) ∷ xs) i none = cc
before-instance_behind (section begin ∷ xs) i none = before-instance_behind xs i none
before-instance_behind (section header_start ∷ xs) i none = before-instance_behind xs i none
before-instance_behind (section section_end ∷ xs) i none = before-instance_behind xs i none
before-instance_behind (section finish ∷ xs) i none = before-instance_behind xs i none
before-instance_behind (header part ∷ xs) i none = before-instance_behind xs i none
before-instance_behind (instance n r ∷ xs) i none = ap (λ (is : List Instance). (n, r) ∷ is) (before-instance_behind xs i none)

before-instance_later : (xs : List Statement) (i : Instance) (y : DataSection) (ys : List DataSection) → sections_among xs ≡ y ∷ ys → instances_before (xs ++ (instance_of i ∷ [])) ≡ instances_before xs
before-instance_later [] i y ys some = cc
before-instance_later (section (data_start h) ∷ xs) i y ys some = refl
before-instance_later (section begin ∷ xs) i y ys some = before-instance_later xs i y ys some
before-instance_later (section header_start ∷ xs) i y ys some = before-instance_later xs i y ys some
before-instance_later (section section_end ∷ xs) i y ys some = before-instance_later xs i y ys some
before-instance_later (section finish ∷ xs) i y ys some = before-instance_later xs i y ys some
before-instance_later (header part ∷ xs) i y ys some = before-instance_later xs i y ys some
before-instance_later (instance n r ∷ xs) i y ys some = ap (λ (is : List Instance). (n, r) ∷ is) (before-instance_later xs i y ys some)

heading-by_instance : (h : Heading) (xs : List Statement) (i : Instance) (ys : List DataSection) → sections_among xs ≡ ys → sections_among (xs ++ (instance_of i ∷ [])) ≡ with_instance (sections_among xs) i
    → sections_among (section (data_start h) ∷ (xs ++ (instance_of i ∷ []))) ≡ with_instance (sections_among (section (data_start h) ∷ xs)) i
heading-by_instance h xs i [] none rest =
    ap (λ (is : List Instance). record { heading = h; instances = is } ∷ sections_among (xs ++ (instance_of i ∷ []))) (before-instance_behind xs i none)
    ∙ ap (λ (zs : List DataSection). record { heading = h; instances = instances_before xs ++ (i ∷ []) } ∷ zs) (rest ∙ ap (λ (zs : List DataSection). with_instance zs i) none)
    ∙ ap (λ (zs : List DataSection). with_instance (record { heading = h; instances = instances_before xs } ∷ zs) i) (sym none)
heading-by_instance h xs i (y ∷ ys) some rest =
    ap (λ (is : List Instance). record { heading = h; instances = is } ∷ sections_among (xs ++ (instance_of i ∷ []))) (before-instance_later xs i y ys some)
    ∙ ap (λ (zs : List DataSection). record { heading = h; instances = instances_before xs } ∷ zs) (rest ∙ ap (λ (zs : List DataSection). with_instance zs i) some)
    ∙ ap (λ (zs : List DataSection). with_instance (record { heading = h; instances = instances_before xs } ∷ zs) i) (sym some)

-- an instance stands in the last section
pub sections-by_instance : (xs : List Statement) (i : Instance) → sections_among (xs ++ (instance_of i ∷ [])) ≡ with_instance (sections_among xs) i
sections-by_instance [] i = refl
sections-by_instance (section (data_start h) ∷ xs) i = heading-by_instance h xs i (sections_among xs) refl (sections-by_instance xs i)
sections-by_instance (section begin ∷ xs) i = sections-by_instance xs i
sections-by_instance (section header_start ∷ xs) i = sections-by_instance xs i
sections-by_instance (section section_end ∷ xs) i = sections-by_instance xs i
sections-by_instance (section finish ∷ xs) i = sections-by_instance xs i
sections-by_instance (header part ∷ xs) i = sections-by_instance xs i
sections-by_instance (instance n r ∷ xs) i = sections-by_instance xs i
