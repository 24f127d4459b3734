-- The sections of a file as they are printed: each with its instances by their names, and the sections by theirs.
use Rattle.std.specs.Prelude.{◌≡◌, ℕ, List, [], ◌∷◌, ◌++◌, map, refl}
use Rattle.std.specs.List.{AllZip, flat_map, AllByRecursion as Each}
use Rattle.std.specs.List.Sorted.{IsStrictlySortedBy}
use Rattle.std.specs.Ordering.{nat_cmp}
use Rattle.std.specs.Cmp.Lexicographic.{slice_cmp}
use Rattle.std.proofs.Common.{ap, sym, subst, ◌∙◌, Less}
use Rattle.std.proofs.lemmas.Cmp.{nat_cmp_total, nat_list_cmp_total}
use Rattle.std.proofs.lemmas.List.{map-append}
use Rattle.std.proofs.lemmas.Map.Lookups.{exact_unsigned, exact_bytes}
use Rattle.p21_spec_schema.specs.WellFormed.{IsWellFormed}
use Rattle.p21_spec_file.specs.Canonical.{AreNamesRising}
use Rattle.p21_spec_exchange.specs.DataSection.{Heading, DataSection, headings, instances_in}
use Rattle.p21_spec_file.specs.File.{InstanceMeans, names_with_heading}
use Rattle.p21_spec_exchange.specs.Grammar.{IsDataRecord}
use Rattle.p21_spec_file.specs.Reference.{EntitySets}
use Rattle.p21_spec_schema.specs.Schema.{Schema}
use Rattle.p21_spec_exchange.specs.Statement.{section, section_end, data_start}
use Rattle.p21_spec_exchange.specs.Structure.{section_statements}
use Rattle.p21_spec_basics.proofs.RisingLists.{Rises, mapped-rises, sort_by, sort-shuffled, sort-rises}
use Rattle.p21_spec_laws.proofs.Entries.{Entry, IsEntry, canonical_meant, written_in, meants_in, names_in, enter, names-of, entries-said}
use Rattle.p21_spec_laws.proofs.FileOnce.{Meant}
use Rattle.p21_spec_laws.proofs.Headings.{heading_text, DoRise}
use Rattle.p21_spec_laws.proofs.PrintingParts.{each-shuffled}
use Rattle.p21_spec_laws.proofs.SaidFiles.{Instance, instance_of, section-said}
use Rattle.p21_spec_laws.specs.Written.{IsWrittenStatement}
use Rattle.p21_spec_laws.proofs.SectionsOnce.{named}
use Rattle.p21_spec_basics.proofs.Shuffles.{Shuffled-flat_map, Shuffled-each, NoneTwice, NoneTwice-front, NoneTwice-back}
use Rattle.p21_spec_basics.proofs.Shuffles.{Shuffled, Shuffled-transitive, Shuffled-symmetric, Shuffled-mapped}
use Rattle.p21_spec_basics.proofs.Members.{Each-append, Each-front, Each-back, Each-joined, Each-weaker}
use Rattle.std.proofs.lemmas.List.Folds.{flat_map-map}

pub record SectionEntries : Type 0 where
  pub heading : Heading
  pub entries : List Entry

abbrev pub entries_of : List SectionEntries → List Entry
entries_of gs = flat_map (λ (g : SectionEntries). g.entries) gs

abbrev pub section_of : SectionEntries → DataSection
section_of g = record { heading = g.heading; instances = written_in g.entries }

abbrev pub group_headings : List SectionEntries → List Heading
group_headings gs = map (λ (g : SectionEntries). g.heading) gs

abbrev pub group_placed : SectionEntries → List (ℕ × Heading)
group_placed g = names_with_heading (section_of g)

pub record IsGroup (s : Schema) (kinds : EntitySets) (g : SectionEntries) : Type 0 where
  pub said : IsWrittenStatement (section (data_start g.heading))
  pub each : Each (IsEntry s kinds) g.entries

pub record AreGroups (s : Schema) (kinds : EntitySets) (xs : List DataSection) (ms : List Meant) : Type 0 where
  pub groups : List SectionEntries
  pub each : Each (IsGroup s kinds) groups
  pub heads : group_headings groups ≡ headings xs
  pub names : names_in (entries_of groups) ≡ named (instances_in xs)
  pub meants : meants_in (entries_of groups) ≡ map (canonical_meant s) ms
  pub placed : flat_map group_placed groups ≡ flat_map names_with_heading xs

-- a list beside two lists, one behind the other
record Parted {X Y : Type 0} (R : X → Y → Type 0) (xs us : List X) (ys : List Y) : Type 0 where
  first : List Y
  second : List Y
  are : ys ≡ first ++ second
  firsts : AllZip R xs first
  seconds : AllZip R us second

part : {X Y : Type 0} (R : X → Y → Type 0) (xs us : List X) (ys : List Y) → AllZip R (xs ++ us) ys → Parted R xs us ys
part R [] us ys all = record { first = []; second = ys; are = refl; firsts = tt; seconds = all }
part R (x ∷ xs) us [] all = absurd all
part R (x ∷ xs) us (y ∷ ys) all =
    let rest = part R xs us ys all.1 in
    record { first = y ∷ rest.first; second = rest.second; are = ap (λ zs. y ∷ zs) rest.are; firsts = (all.0, rest.firsts); seconds = rest.seconds }

-- names with a heading
abbrev beside : Heading → List ℕ → List (ℕ × Heading)
beside h ns = map (λ n. (n, h)) ns

placed-beside : (h : Heading) (is : List Instance) → names_with_heading (record { heading = h; instances = is }) ≡ beside h (named is)
placed-beside h [] = refl
placed-beside h (i ∷ is) = ap (λ (z : List (ℕ × Heading)). (i.0, h) ∷ z) (placed-beside h is)

pub group : (s : Schema) → IsWellFormed s → (kinds : EntitySets) (xs : List DataSection) (ms : List Meant) → AllZip (InstanceMeans s kinds) (instances_in xs) ms → Each (λ (x : DataSection). Each IsWrittenStatement (section_statements x)) xs → Each (λ (i : Instance). IsDataRecord i.1) (instances_in xs)
    → AreGroups s kinds xs ms
group s formed kinds [] [] all said_ data_ = record { groups = []; each = tt; heads = refl; names = refl; meants = refl; placed = refl }
group s formed kinds [] (m ∷ ms) all said_ data_ = absurd all
group s formed kinds (x ∷ xs) ms all said_ data_ =
    let parted = part (InstanceMeans s kinds) x.instances (instances_in xs) ms all in
    let own = enter s formed kinds x.instances parted.first parted.firsts (section-said x said_.0) (Each-front (λ (i : Instance). IsDataRecord i.1) x.instances (instances_in xs) data_) in
    let rest = group s formed kinds xs parted.second parted.seconds said_.1 (Each-back (λ (i : Instance). IsDataRecord i.1) x.instances (instances_in xs) data_) in
    let own_named : named (written_in own.entries) ≡ named x.instances = sym (names-of own.entries) ∙ own.names in
    record {
      groups = record { heading = x.heading; entries = own.entries } ∷ rest.groups;
      each = (record { said = said_.0.0; each = own.each }, rest.each);
      heads = ap (λ (hs : List Heading). x.heading ∷ hs) rest.heads;
      names = map-append (λ (e : Entry). e.0.0) own.entries (entries_of rest.groups)
          ∙ ap (λ (ns : List ℕ). ns ++ names_in (entries_of rest.groups)) own.names
          ∙ ap (λ (ns : List ℕ). named x.instances ++ ns) rest.names
          ∙ sym (map-append (λ (i : Instance). i.0) x.instances (instances_in xs));
      meants = map-append (λ (e : Entry). e.1) own.entries (entries_of rest.groups)
          ∙ ap (λ (ys : List Meant). ys ++ meants_in (entries_of rest.groups)) own.meants
          ∙ ap (λ (ys : List Meant). map (canonical_meant s) parted.first ++ ys) rest.meants
          ∙ sym (map-append (canonical_meant s) parted.first parted.second)
          ∙ ap (map (canonical_meant s)) (sym parted.are);
      placed = ap (λ (ps : List (ℕ × Heading)). ps ++ flat_map group_placed rest.groups) (placed-beside x.heading (written_in own.entries) ∙ ap (beside x.heading) own_named ∙ sym (placed-beside x.heading x.instances))
          ∙ ap (λ (ps : List (ℕ × Heading)). names_with_heading x ++ ps) rest.placed;
    }

-- ---- in order

abbrev entry_name : Entry → ℕ
entry_name e = e.0.0

abbrev group_text : SectionEntries → List ℕ
group_text g = heading_text g.heading

abbrev ordered : SectionEntries → SectionEntries
ordered g = record { heading = g.heading; entries = sort_by nat_cmp entry_name g.entries }

abbrev pub arranged : List SectionEntries → List SectionEntries
arranged gs = sort_by (slice_cmp nat_cmp) group_text (map ordered gs)

arranged-shuffled : (gs : List SectionEntries) → Shuffled (map ordered gs) (arranged gs)
arranged-shuffled gs = sort-shuffled (slice_cmp nat_cmp) group_text (map ordered gs)

-- what is said of groups in any order of their entries
arranged-by : {X : Type 0} (f : SectionEntries → List X) → ((g : SectionEntries) → Shuffled (f g) (f (ordered g))) → (gs : List SectionEntries) → Shuffled (flat_map f gs) (flat_map f (arranged gs))
arranged-by {X} f each gs =
    let first : Shuffled (flat_map f gs) (flat_map (λ g. f (ordered g)) gs) = Shuffled-each f (λ g. f (ordered g)) each gs in
    let P : List X → Type 0 = λ xs. Shuffled (flat_map f gs) xs in
    Shuffled-transitive (flat_map f gs) (flat_map f (map ordered gs)) (flat_map f (arranged gs)) (subst P (sym (flat_map-map f ordered gs)) first)
    (Shuffled-flat_map f (map ordered gs) (arranged gs) (arranged-shuffled gs))

pub arranged-entries : (gs : List SectionEntries) → Shuffled (entries_of gs) (entries_of (arranged gs))
arranged-entries gs = arranged-by (λ (g : SectionEntries). g.entries) (λ g. sort-shuffled nat_cmp entry_name g.entries) gs

pub arranged-placed : (gs : List SectionEntries) → Shuffled (flat_map group_placed gs) (flat_map group_placed (arranged gs))
arranged-placed gs =
    arranged-by group_placed
    (λ g. Shuffled-mapped (λ (i : Instance). (i.0, g.heading)) (written_in g.entries) (written_in (sort_by nat_cmp entry_name g.entries))
    (Shuffled-mapped (λ (e : Entry). e.0) g.entries (sort_by nat_cmp entry_name g.entries) (sort-shuffled nat_cmp entry_name g.entries)))
    gs

ordered-headings : (gs : List SectionEntries) → group_headings (map ordered gs) ≡ group_headings gs
ordered-headings [] = refl
ordered-headings (g ∷ gs) = ap (λ (hs : List Heading). g.heading ∷ hs) (ordered-headings gs)

pub arranged-headings : (gs : List SectionEntries) → Shuffled (group_headings gs) (group_headings (arranged gs))
arranged-headings gs =
    let P : List Heading → Type 0 = λ hs. Shuffled hs (group_headings (arranged gs)) in
    subst P (ordered-headings gs) (Shuffled-mapped (λ (g : SectionEntries). g.heading) (map ordered gs) (arranged gs) (arranged-shuffled gs))

pub arranged-each : (s : Schema) (kinds : EntitySets) (gs : List SectionEntries) → Each (IsGroup s kinds) gs → Each (IsGroup s kinds) (arranged gs)
arranged-each s kinds gs each = each-shuffled (IsGroup s kinds) (map ordered gs) (arranged gs) (Shuffled-symmetric (map ordered gs) (arranged gs) (arranged-shuffled gs)) (of gs each)
  where
    of : (hs : List SectionEntries) → Each (IsGroup s kinds) hs → Each (IsGroup s kinds) (map ordered hs)
    of [] all = tt
    of (h ∷ hs) all = (
      record { said = all.0.said; each = each-shuffled (IsEntry s kinds) h.entries (sort_by nat_cmp entry_name h.entries) (Shuffled-symmetric h.entries (sort_by nat_cmp entry_name h.entries) (sort-shuffled nat_cmp entry_name h.entries)) all.0.each },
      of hs all.1,
    )

-- ---- they rise

texts-of : (gs : List SectionEntries) → map group_text (map ordered gs) ≡ map heading_text (group_headings gs)
texts-of [] = refl
texts-of (g ∷ gs) = ap (λ (ts : List (List ℕ)). group_text g ∷ ts) (texts-of gs)

groups-rise : (gs : List SectionEntries) → Rises (slice_cmp nat_cmp) group_text gs → DoRise (group_headings gs)
groups-rise [] rises = tt
groups-rise (g ∷ gs) rises = (each gs rises.0, groups-rise gs rises.1)
  where
    each : (hs : List SectionEntries) → Each (λ h. slice_cmp nat_cmp (group_text g) (group_text h) ≡ Less) hs → Each (λ h. slice_cmp nat_cmp (group_text g) (heading_text h) ≡ Less) (group_headings hs)
    each [] all = tt
    each (h ∷ hs) all = (all.0, each hs all.1)

pub arranged-rise : (gs : List SectionEntries) → NoneTwice (map heading_text (group_headings gs)) → DoRise (group_headings (arranged gs))
arranged-rise gs none = groups-rise (arranged gs) (sort-rises (slice_cmp nat_cmp) nat_list_cmp_total exact_bytes group_text (map ordered gs) (subst NoneTwice (sym (texts-of gs)) none))

ordered-names_rise : (g : SectionEntries) → NoneTwice (names_in g.entries) → AreNamesRising (section_of (ordered g))
ordered-names_rise g none =
    let es : List Entry = sort_by nat_cmp entry_name g.entries in
    subst (IsStrictlySortedBy nat_cmp) (names-of es) (mapped-rises nat_cmp entry_name es (sort-rises nat_cmp nat_cmp_total exact_unsigned entry_name g.entries none))

pub arranged-names_rise : (gs : List SectionEntries) → NoneTwice (names_in (entries_of gs)) → Each (λ (g : SectionEntries). AreNamesRising (section_of g)) (arranged gs)
arranged-names_rise gs none =
    each-shuffled (λ (g : SectionEntries). AreNamesRising (section_of g)) (map ordered gs) (arranged gs) (Shuffled-symmetric (map ordered gs) (arranged gs) (arranged-shuffled gs)) (of gs none)
  where
    of : (hs : List SectionEntries) → NoneTwice (names_in (entries_of hs)) → Each (λ (g : SectionEntries). AreNamesRising (section_of g)) (map ordered hs)
    of [] none_ = tt
    of (h ∷ hs) none_ =
        let apart : NoneTwice (names_in h.entries ++ names_in (entries_of hs)) = subst NoneTwice (map-append entry_name h.entries (entries_of hs)) none_ in
        (ordered-names_rise h (NoneTwice-front (names_in h.entries) (names_in (entries_of hs)) apart), of hs (NoneTwice-back (names_in h.entries) (names_in (entries_of hs)) apart))

-- ---- as sections

abbrev pub sections_of : List SectionEntries → List DataSection
sections_of gs = map section_of gs

pub headings-of : (gs : List SectionEntries) → headings (sections_of gs) ≡ group_headings gs
headings-of [] = refl
headings-of (g ∷ gs) = ap (λ (hs : List Heading). g.heading ∷ hs) (headings-of gs)

pub instances-of : (gs : List SectionEntries) → instances_in (sections_of gs) ≡ written_in (entries_of gs)
instances-of [] = refl
instances-of (g ∷ gs) = ap (λ (is : List Instance). written_in g.entries ++ is) (instances-of gs) ∙ sym (map-append (λ (e : Entry). e.0) g.entries (entries_of gs))

pub placed-of : (gs : List SectionEntries) → flat_map names_with_heading (sections_of gs) ≡ flat_map group_placed gs
placed-of gs = flat_map-map names_with_heading section_of gs

pub entries-each : (s : Schema) (kinds : EntitySets) (gs : List SectionEntries) → Each (IsGroup s kinds) gs → Each (IsEntry s kinds) (entries_of gs)
entries-each s kinds gs each = Each-joined (IsEntry s kinds) (λ (g : SectionEntries). g.entries) gs (Each-weaker (IsGroup s kinds) (λ (g : SectionEntries). Each (IsEntry s kinds) g.entries) (λ g is. is.each) gs each)

pub sections-each : (P : DataSection → Type 0) (gs : List SectionEntries) → Each (λ (g : SectionEntries). P (section_of g)) gs → Each P (sections_of gs)
sections-each P [] each = tt
sections-each P (g ∷ gs) each = (each.0, sections-each P gs each.1)

pub groups-said : (s : Schema) (kinds : EntitySets) (gs : List SectionEntries) → IsWrittenStatement (section section_end) → Each (IsGroup s kinds) gs → Each IsWrittenStatement (flat_map section_statements (sections_of gs))
groups-said s kinds gs end each =
    Each-joined IsWrittenStatement section_statements (sections_of gs)
    (sections-each (λ (x : DataSection). Each IsWrittenStatement (section_statements x)) gs
    (Each-weaker (IsGroup s kinds) (λ (g : SectionEntries). Each IsWrittenStatement (section_statements (section_of g)))
    (λ g is. (is.said, Each-append IsWrittenStatement (map instance_of (written_in g.entries)) (section section_end ∷ []) (entries-said s kinds g.entries is.each) (end, tt))) gs each))
