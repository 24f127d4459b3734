-- Bytes are dead where the canonical lines of the statements taken are too much for a canonical file.
use Rattle.std.specs.Prelude.{◌≡◌, ◌≤◌, ◌+◌, ℕ, List, [], ◌∷◌, ◌++◌, map, length, Contains, refl}
use Rattle.std.specs.List.{flat_map, AllByRecursion as Each}
use Rattle.std.proofs.Common.{arith, ap, sym, subst, ◌∙◌, length-append, inl, inr}
use Rattle.std.proofs.lemmas.List.Elements.{Contains-append_right}
use Rattle.p21_spec_basics.proofs.Members.{Contains-none, Contains-first, Contains-later, Contains-flat_map, Contains-mapped, Each-member}
use Rattle.p21_spec_file.specs.Accepted.{IsLineWithin}
use Rattle.p21_spec_exchange.specs.CanonicalText.{line, statement_text}
use Rattle.p21_spec_exchange.specs.DataSection.{Heading, unnamed, named as named_as, DataSection, headings, heading_names, IsNamed, AreHeadings, instances_in, section_names}
use Rattle.p21_spec_file.specs.CanonicalTexts.{HaveCanonicalSize, IsInstanceText}
use Rattle.p21_spec_exchange.specs.Record.{Part, Record}
use Rattle.p21_spec_schema.specs.Schema.{Schema}
use Rattle.p21_spec_exchange.specs.Statement.{Statement, section, header, instance, begin, header_start, section_end, data_start, finish}
use Rattle.p21_spec_exchange.specs.Structure.{Structure, section_statements, statements}
use Rattle.p21_spec_laws.proofs.SaidFiles.{Instance, instance_of, behind_header}
use Rattle.p21_spec_laws.proofs.SectionsOnce.{named}
use Rattle.p21_spec_basics.proofs.Shuffles.{distinct-none_twice}
use Rattle.p21_spec_basics.proofs.Shuffles.{texts-none_twice}
use Rattle.p21_spec_laws.proofs.Dead.{dead-by, names-first, headings-in_canonical}
use Rattle.p21_spec_laws.proofs.OneLine.{instance-in_canonical, header-in_canonical}
use Rattle.p21_spec_laws.proofs.Statements.{Contains-begins, instance-among, instances-are, instances-begin}
use Rattle.p21_spec_laws.specs.SizeLaws.{NarrowLineLimitIsDead, framing, LongFileIsDead}
use Rattle.p21_spec_laws.specs.Taken.{instances_among, names_among}
use Rattle.p21_spec_basics.proofs.Shuffles.{NoneTwice, Taken, taken_first, taken_later, Taken-other, Contains-taken}

-- ---- sizes of lines

-- the bytes of the lines of sections and header records
abbrev outer : List Statement → ℕ
outer [] = 0
outer (section line_ ∷ sts) = length (line (section line_)) + outer sts
outer (header part ∷ sts) = length (line (header part)) + outer sts
outer (instance n r ∷ sts) = outer sts

-- and of those of instances
abbrev inner : List Instance → ℕ
inner [] = 0
inner (i ∷ is) = length (line (instance i.0 i.1)) + inner is

whole-size : (sts : List Statement) → length (flat_map line sts) ≡ outer sts + inner (instances_among sts)
whole-size [] = refl
whole-size (section line_ ∷ sts) = let size = length-append (line (section line_)) (flat_map line sts) in let rest = whole-size sts in omega (arith, size, rest)
whole-size (header part ∷ sts) = let size = length-append (line (header part)) (flat_map line sts) in let rest = whole-size sts in omega (arith, size, rest)
whole-size (instance n r ∷ sts) = let size = length-append (line (instance n r)) (flat_map line sts) in let rest = whole-size sts in omega (arith, size, rest)

outer-append : (xs ys : List Statement) → outer (xs ++ ys) ≡ outer xs + outer ys
outer-append [] ys = omega arith
outer-append (section line_ ∷ xs) ys = let rest = outer-append xs ys in omega (arith, rest)
outer-append (header part ∷ xs) ys = let rest = outer-append xs ys in omega (arith, rest)
outer-append (instance n r ∷ xs) ys = outer-append xs ys

outer-instances : (is : List Instance) → outer (map instance_of is) ≡ 0
outer-instances [] = refl
outer-instances (i ∷ is) = outer-instances is

-- of the first and the last line of sections
abbrev bounds : List Heading → ℕ
bounds [] = 0
bounds (h ∷ hs) = length (line (section (data_start h))) + length (line (section section_end)) + bounds hs

outer-sections : (xs : List DataSection) → outer (flat_map section_statements xs) ≡ bounds (headings xs)
outer-sections [] = refl
outer-sections (x ∷ xs) =
    let one = outer-append (section_statements x) (flat_map section_statements xs) in
    let own = outer-append (map instance_of x.instances) (section section_end ∷ []) in
    let none : outer (map instance_of x.instances) ≡ 0 = outer-instances x.instances in
    let rest = outer-sections xs in
    omega (arith, one, own, none, rest)

-- those of a tree depend on its header and its headings alone
outer-of : (t : Structure) → outer (statements t) ≡ outer (section begin ∷ section header_start ∷ (map header t.header ++ (section section_end ∷ section finish ∷ []))) + bounds (headings t.sections)
outer-of t =
    let sections : List Statement = flat_map section_statements t.sections in
    let one = outer-append sections (section finish ∷ []) in
    let two = outer-sections t.sections in
    let left = outer-append (map header t.header) (behind_header t) in
    let right = outer-append (map header t.header) (section section_end ∷ section finish ∷ []) in
    omega (arith, one, two, left, right)

-- ---- headings that differ among others

Taken-bounds : (h : Heading) (hs rest : List Heading) → Taken h hs rest → bounds hs ≡ length (line (section (data_start h))) + length (line (section section_end)) + bounds rest
Taken-bounds h hs rest (taken_first k _ same) = ap (λ (x : Heading). length (line (section (data_start x))) + length (line (section section_end)) + bounds rest) (sym same)
Taken-bounds h hs rest (taken_later k ks more at) =
    let e : bounds ks ≡ length (line (section (data_start h))) + length (line (section section_end)) + bounds more = Taken-bounds h ks more at in
    omega (arith, e)

bounds-within : (gs hs : List Heading) → NoneTwice gs → ((h : Heading) → Contains gs h → Contains hs h) → bounds gs ≤ bounds hs
bounds-within [] hs none onto = omega arith
bounds-within (g ∷ gs) hs none onto =
    let (rest, at) = Contains-taken hs g (onto g (Contains-first g gs)) in
    let size = Taken-bounds g hs rest at in
    let more = bounds-within gs rest none.1 (λ x among. elim (Taken-other g hs rest at x (onto x (Contains-later g gs x among))) [
      | inl h ↦ absurd (none.0 (let P : Heading → Type 0 = λ y. Contains gs y in subst P (sym h) among))
      | inr h ↦ h
    ]) in
    omega (arith, size, more)

named-once : (hs : List Heading) → Each IsNamed hs → NoneTwice (section_names hs) → NoneTwice hs
named-once [] are none = tt
named-once (unnamed ∷ hs) are none = absurd are.0
named-once (named_as name schema ∷ hs) are none = (λ among. none.0 (Contains-flat_map heading_names hs (named_as name schema) name among (Contains-first name [])), named-once hs are.1 none.1)

pub headings-differ : (hs : List Heading) → AreHeadings hs → NoneTwice (section_names hs) → NoneTwice hs
headings-differ [] are none = absurd are
headings-differ (unnamed ∷ []) are none = (Contains-none unnamed, tt)
headings-differ (unnamed ∷ next ∷ more) are none = absurd are
headings-differ (named_as name schema ∷ more) are none = named-once (named_as name schema ∷ more) (tt, are) none

-- ---- instances that differ among others

Taken-size : (i : Instance) (is rest : List Instance) → Taken i is rest → inner is ≡ length (line (instance i.0 i.1)) + inner rest
Taken-size i is rest (taken_first j _ same) = ap (λ (k : Instance). length (line (instance k.0 k.1)) + inner rest) (sym same)
Taken-size i is rest (taken_later j js more at) = let h : inner js ≡ length (line (instance i.0 i.1)) + inner more = Taken-size i js more at in omega (arith, h)

inner-within : (cs is : List Instance) → NoneTwice cs → ((c : Instance) → Contains cs c → Contains is c) → inner cs ≤ inner is
inner-within [] is none onto = omega arith
inner-within (c ∷ cs) is none onto =
    let (rest, at) = Contains-taken is c (onto c (Contains-first c cs)) in
    let size = Taken-size c is rest at in
    let more = inner-within cs rest none.1 (λ x among. elim (Taken-other c is rest at x (onto x (Contains-later c cs x among))) [
      | inl h ↦ absurd (none.0 (let P : Instance → Type 0 = λ y. Contains cs y in subst P (sym h) among))
      | inr h ↦ h
    ]) in
    omega (arith, size, more)

unnamed-none_twice : (is : List Instance) → NoneTwice (named is) → NoneTwice is
unnamed-none_twice [] none = tt
unnamed-none_twice (i ∷ is) none = (λ among. none.0 (Contains-mapped (λ (j : Instance). j.0) is i among), unnamed-none_twice is none.1)

-- ---- the lines of the statements taken

record Lines (P : Instance → Type 0) (taken : List Statement) (total : ℕ) : Type 0 where
  instances : List Instance
  names : named instances ≡ names_among taken
  size : total ≡ outer taken + inner instances
  each : Each P instances

canonical_size-lines : (s : Schema) (P : Instance → Type 0) (taken : List Statement) (kept : ℕ) → HaveCanonicalSize s taken kept → ((n : ℕ) (r : Record) (text : List ℕ) → Contains taken (instance n r) → (is : IsInstanceText s n r text) → P (n, is.canonical)) → Lines P taken (kept + framing taken)
canonical_size-lines s P [] kept are holds = record { instances = []; names = refl; size = (let h : kept ≡ 0 = are in omega (arith, h)); each = tt }
canonical_size-lines s P (section line_ ∷ taken) kept are holds =
    let rest = canonical_size-lines s P taken kept are (λ n r text among is. holds n r text (Contains-later (section line_) taken (instance n r) among) is) in
    record { instances = rest.instances; names = rest.names; size = (let h = rest.size in omega (arith, h)); each = rest.each }
canonical_size-lines s P (header part ∷ taken) kept (more, is_kept, are) holds =
    let rest = canonical_size-lines s P taken more are (λ n r text among is. holds n r text (Contains-later (header part) taken (instance n r) among) is) in
    let long = length-append (statement_text (header part)) (10 ∷ []) in
    record { instances = rest.instances; names = rest.names; size = (let h = rest.size in omega (arith, h, is_kept, long)); each = rest.each }
canonical_size-lines s P (instance m q ∷ taken) kept (text, more, is_kept, printed, are) holds =
    let rest = canonical_size-lines s P taken more are (λ n r text_ among is. holds n r text_ (Contains-later (instance m q) taken (instance n r) among) is) in
    let long = length-append (statement_text (instance m printed.canonical)) (10 ∷ []) in
    let same : length text ≡ length (statement_text (instance m printed.canonical)) = ap length printed.text_is in
    record {
      instances = (m, printed.canonical) ∷ rest.instances;
      names = ap (λ (ns : List ℕ). m ∷ ns) rest.names;
      size = (let h = rest.size in omega (arith, h, is_kept, long, same));
      each = (holds m q text (Contains-first (instance m q) taken) printed, rest.each);
    }

pub long-file : LongFileIsDead
long-file s formed limits bytes taken front kept are long = dead-by s limits bytes taken front (λ more m means begins.
    let t : Structure = means.reads.structure in
    let file = means.is_canonical in
    let u : Structure = file.canonical.reads.structure in
    let P : Instance → Type 0 = λ i. Contains (instances_in u.sections) i in
    let lines = canonical_size-lines s P taken kept are (λ n r text among is.
    instance-in_canonical s formed (bytes ++ more) m means.reads means.canonical file.canonical file.same n r text (instance-among t n r (Contains-begins taken (statements t) (instance n r) begins among)) is) in
    let rest = instances-begin taken t begins in
    let Q : List Instance → Type 0 = λ js. NoneTwice (named js) in
    let none : NoneTwice (names_among taken) = names-first (instances_among taken) rest.0 (subst Q rest.1 (distinct-none_twice (named (instances_in t.sections)) means.reads.names_differ)) in
    let none_ : NoneTwice lines.instances = unnamed-none_twice lines.instances (subst NoneTwice (sym lines.names) none) in
    let instances : inner lines.instances ≤ inner (instances_in u.sections) = inner-within lines.instances (instances_in u.sections) none_ (λ c among. Each-member P lines.instances c lines.each among) in
    let fronts : outer (statements t) ≡ outer taken + outer begins.0 = ap outer begins.1 ∙ outer-append taken begins.0 in
    let header_same : u.header ≡ t.header = header-in_canonical s (bytes ++ more) m means.reads means.canonical file.canonical file.same in
    let heads : outer (section begin ∷ section header_start ∷ (map header u.header ++ (section section_end ∷ section finish ∷ []))) ≡ outer (section begin ∷ section header_start ∷ (map header t.header ++ (section section_end ∷ section finish ∷ []))) =
    ap (λ (ps : List Part). outer (section begin ∷ section header_start ∷ (map header ps ++ (section section_end ∷ section finish ∷ [])))) header_same in
    let members = headings-in_canonical s (bytes ++ more) m means.reads means.canonical file.canonical file.same in
    let differ : NoneTwice (headings t.sections) = headings-differ (headings t.sections) means.reads.in_grammar.is_file.headings_are (texts-none_twice (section_names (headings t.sections)) means.reads.section_names_differ) in
    let sections : bounds (headings t.sections) ≤ bounds (headings u.sections) = bounds-within (headings t.sections) (headings u.sections) differ (λ h. (members h).1) in
    let of_u = outer-of u in
    let of_t = outer-of t in
    let whole : length means.canonical ≡ outer (statements u) + inner (instances_in u.sections) = ap length file.canonical.lines ∙ whole-size (statements u) ∙ ap (λ (is : List Instance). outer (statements u) + inner is) (instances-are u) in
    let within = file.file_within in
    let size = lines.size in
    omega (arith, long, size, instances, fronts, heads, sections, of_u, of_t, whole, within))

pub last-line : (t : Structure) → Contains (statements t) (section finish)
last-line t =
    let fronts : List Statement = section begin ∷ section header_start ∷ map header t.header in
    Contains-append_right fronts (behind_header t) (section finish)
    (Contains-later (section section_end) (flat_map section_statements t.sections ++ (section finish ∷ [])) (section finish)
    (Contains-append_right (flat_map section_statements t.sections) (section finish ∷ []) (section finish) (Contains-first (section finish) [])))

pub narrow : NarrowLineLimitIsDead
narrow s limits bytes few more are (m, means) =
    let u : Structure = means.is_canonical.canonical.reads.structure in
    let within : 17 ≤ limits.record_canonical = Each-member (IsLineWithin limits) (statements u) (section finish) means.is_canonical.lines_within (last-line u) in
    omega (arith, within, few)
