-- A file beside an earlier one: where all that is kept is the same, the canonical file of the one is that of the other.
use Rattle.std.specs.Prelude.{◌≡◌, ◌≤◌, ◌↔◌, ◌+◌, ℕ, zero, suc, IsTrue, List, [], ◌∷◌, map, length, refl, slice_get, Some, Contains}
use Rattle.std.specs.List.{flat_map, AllByRecursion as Each}
use Rattle.std.proofs.Common.{arith, ap, sym, subst, ◌∙◌, inl, inr}
use Rattle.std.proofs.lemmas.List.{length-map}
use Rattle.std.proofs.lemmas.List.Sorted.{Contains-permutation}
use Rattle.p21_spec_basics.proofs.Members.{Contains-at, Contains-first, Contains-flat_map, Contains-found, Contains-later, Contains-mapped, Contains-one_of, Contains-unmapped, Each-member, Each-of_members, Each-weaker}
use Rattle.p21_spec_basics.proofs.Shuffles.{AreMembers, Contains-taken, NoneTwice, Taken, Taken-other, distinct-none_twice, one-keyed, taken_first, taken_later, texts-none_twice}
use Rattle.p21_spec_basics.specs.Limits.{Limits}
use Rattle.p21_spec_laws.proofs.Among.{statements-tell}
use Rattle.p21_spec_laws.proofs.Blocks.{block_of, placed-same}
use Rattle.p21_spec_laws.proofs.Ending.{group-headings}
use Rattle.p21_spec_laws.proofs.Keeps.{all-served, keeps-section_names, kept-text}
use Rattle.p21_spec_laws.proofs.LongFiles.{headings-differ}
use Rattle.p21_spec_laws.proofs.OneLine.{header-in_canonical}
use Rattle.p21_spec_laws.proofs.OneReading.{one_structure_of}
use Rattle.p21_spec_laws.proofs.Output.{keeps-names_differ}
use Rattle.p21_spec_laws.proofs.Rising.{rising-exists}
use Rattle.p21_spec_laws.proofs.Storing.{numbered-entries, numbered-from_section, section-numbered_from, stored-numbered}
use Rattle.p21_spec_laws.proofs.Waits.{none-waits}
use Rattle.p21_spec_laws.proofs.Whole.{unrefused-accepted, unrefused-headings}
use Rattle.p21_spec_laws.specs.Among.{parts_among}
use Rattle.p21_spec_laws.specs.Beside.{IsKeptOfWhole, IsSameAs, KeptTellSame, earlier_of}
use Rattle.p21_spec_laws.specs.CompleteFile.{AreRisingBlocks, Block, Entry, IsPrinted, Line, SectionEntries, block_of_section, entries_in, file_text, lines_in, lines_with_heading, section_of, structure_of}
use Rattle.p21_spec_laws.specs.Keeping.{Kept, text_with_header}
use Rattle.p21_spec_laws.specs.Stored.{IsAmongEarlier, IsStore, KeptLines, StoredEntry, beside, lines_of, stored_in, stored_of, with_lines}
use Rattle.p21_spec_laws.specs.UnrefusedStatements.{IsFound, numbered_entries_in}
use Rattle.p21_spec_exchange.specs.CanonicalText.{line}
use Rattle.p21_spec_exchange.specs.DataSection.{Heading, headings, section_names}
use Rattle.p21_spec_exchange.specs.Grammar.{InGrammar}
use Rattle.p21_spec_exchange.specs.Record.{Part}
use Rattle.p21_spec_exchange.specs.Statement.{Statement, header}
use Rattle.p21_spec_exchange.specs.Structure.{Structure}
use Rattle.p21_spec_file.specs.Accepted.{IsCanonicalFile}
use Rattle.p21_spec_file.specs.Canonical.{Canonical}
use Rattle.p21_spec_file.specs.File.{Reads}
use Rattle.p21_spec_file.specs.SameFile.{HaveSameMembers}
use Rattle.p21_spec_schema.specs.Schema.{Schema}
use Rattle.p21_spec_schema.specs.WellFormed.{IsWellFormed}

-- ---- lists that have each other's members

taken-size : {X : Type 0} (x : X) (ys rest : List X) → Taken x ys rest → length ys ≡ suc (length rest)
taken-size x ys rest (taken_first y _ same) = refl
taken-size x ys rest (taken_later y more rest_ taken) = ap suc (taken-size x more rest_ taken)

-- members of which none is twice are found among what is left behind the first
members-left : {X : Type 0} (x : X) (xs ys rest : List X) → Taken x ys rest → NoneTwice (x ∷ xs) → AreMembers (x ∷ xs) ys → AreMembers xs rest
members-left {X} x xs ys rest taken none are z among = elim (Taken-other x ys rest taken z (are z (Contains-later x xs z among))) [
  | inl same ↦ absurd (none.0 (let P : X → Type 0 = λ w. Contains xs w in subst P (sym same) among))
  | inr found ↦ found
]

members-fewer : {X : Type 0} (xs ys : List X) → NoneTwice xs → AreMembers xs ys → length xs ≤ length ys
members-fewer [] ys none are = omega arith
members-fewer (x ∷ xs) ys none are =
    let (rest, taken) = Contains-taken ys x (are x (Contains-first x xs)) in
    let size = taken-size x ys rest taken in
    let fewer = members-fewer xs rest none.1 (members-left x xs ys rest taken none are) in
    omega (arith, size, fewer)

-- where there are no more, they are all
members-back : {X : Type 0} (xs ys : List X) → NoneTwice xs → AreMembers xs ys → length ys ≤ length xs → AreMembers ys xs
members-back [] [] none are few z among = among
members-back [] (y ∷ ys) none are few z among = absurd (omega (arith, few))
members-back {X} (x ∷ xs) ys none are few z among =
    let (rest, taken) = Contains-taken ys x (are x (Contains-first x xs)) in
    let size = taken-size x ys rest taken in
    elim (Taken-other x ys rest taken z among) [
      | inl same ↦ (let P : X → Type 0 = λ w. Contains (x ∷ xs) w in subst P same (Contains-first x xs))
      | inr found ↦ Contains-later x xs z (members-back xs rest none.1 (members-left x xs ys rest taken none are) (omega (arith, few, size)) z found)
    ]

-- ---- lines, each with the heading of its section

abbrev heads_of : List SectionEntries → List Heading
heads_of groups = map (λ (g : SectionEntries). g.heading) groups

abbrev headed : List SectionEntries → List (Heading × Line)
headed groups = flat_map lines_with_heading (map block_of_section groups)

abbrev entry_line : Entry → Line
entry_line e = (e.name, e.text)

head-at : (groups : List SectionEntries) (k : ℕ) (g : SectionEntries) → slice_get groups k ≡ Some g → slice_get (heads_of groups) k ≡ Some g.heading
head-at [] k g at = cc
head-at (x ∷ gs) zero g at = let same : x ≡ g = cc in ap (λ (y : SectionEntries). Some y.heading) same
head-at (x ∷ gs) (suc k) g at = head-at gs k g at

-- a numbered entry is in its section
numbered-headed : (groups : List SectionEntries) (k : ℕ) (e : Entry) → Contains (numbered_entries_in groups) (k, e) → (h : Heading) × (slice_get (heads_of groups) k ≡ Some h) × Contains (headed groups) (h, entry_line e)
numbered-headed groups k e among =
    let (n, g, number, at, is) = section-numbered_from 0 groups k e among in
    let same : n ≡ k = omega (arith, number) in
    let P : ℕ → Type 0 = λ m. slice_get (heads_of groups) m ≡ Some g.heading in (
      g.heading,
      subst P same (head-at groups n g at),
      Contains-flat_map lines_with_heading (map block_of_section groups) (block_of_section g) (g.heading, entry_line e) (Contains-mapped block_of_section groups g (Contains-found groups n g at))
          (Contains-mapped (λ (l : Line). (g.heading, l)) (lines_in g.entries) (entry_line e) (Contains-mapped entry_line g.entries e is)),
    )

headed-numbered : (groups : List SectionEntries) (h : Heading) (l : Line) → Contains (headed groups) (h, l) → (k : ℕ) × (e : Entry) × Contains (numbered_entries_in groups) (k, e) × (slice_get (heads_of groups) k ≡ Some h) × (entry_line e ≡ l)
headed-numbered groups h l among =
    let (b, at_b, found) = Contains-one_of lines_with_heading (map block_of_section groups) (h, l) among in
    let (g, at_g, is_b) = Contains-unmapped block_of_section groups b at_b in
    let B : Block → Type 0 = λ x. Contains (lines_with_heading x) (h, l) in
    let (m, at_m, is_m) = Contains-unmapped (λ (x : Line). (g.heading, x)) (lines_in g.entries) (h, l) (subst B (sym is_b) found) in
    let (e, at_e, is_e) = Contains-unmapped entry_line g.entries m at_m in
    let (k, at) = Contains-at groups g at_g in
    let H : Heading → Type 0 = λ x. slice_get (heads_of groups) k ≡ Some x in
    let number : 0 + k ≡ k = omega arith in
    let N : ℕ → Type 0 = λ m. Contains (numbered_entries_in groups) (m, e) in
    (k, e, subst N number (numbered-from_section 0 groups k g e at at_e), subst H (ap (λ (p : Heading × Line). p.0) is_m) (head-at groups k g at), is_e ∙ ap (λ (p : Heading × Line). p.1) is_m)

entry-numbered : (groups : List SectionEntries) (e : Entry) → Contains (entries_in groups) e → (k : ℕ) × Contains (numbered_entries_in groups) (k, e)
entry-numbered groups e among =
    let P : List Entry → Type 0 = λ es. Contains es e in
    let (p, at, is) = Contains-unmapped (λ (q : ℕ × Entry). q.1) (numbered_entries_in groups) e (subst P (sym (numbered-entries groups)) among) in
    let Q : Entry → Type 0 = λ x. Contains (numbered_entries_in groups) (p.0, x) in
    (p.0, subst Q is at)

numbered-entry : (groups : List SectionEntries) (k : ℕ) (e : Entry) → Contains (numbered_entries_in groups) (k, e) → Contains (entries_in groups) e
numbered-entry groups k e among = let P : List Entry → Type 0 = λ es. Contains es e in subst P (numbered-entries groups) (Contains-mapped (λ (q : ℕ × Entry). q.1) (numbered_entries_in groups) (k, e) among)

-- what is stored of it
numbered-stored : (lines : KeptLines) (groups : List SectionEntries) (kept : List StoredEntry) → IsStore lines groups kept → (p : ℕ × Entry) → Contains (numbered_entries_in groups) p → Contains kept (stored_of lines p)
numbered-stored lines groups kept store p among = Contains-permutation (stored_in lines groups) kept (stored_of lines p) store (Contains-mapped (stored_of lines) (numbered_entries_in groups) p among)

abbrev names_of : List StoredEntry → List ℕ
names_of stored = map (λ (x : StoredEntry). x.name) stored

-- ---- two files

module _ (s : Schema) (formed : IsWellFormed s) (limits : Limits) (bytes others : List ℕ) (first second : Kept) (one : IsKeptOfWhole s limits bytes first) (two : IsKeptOfWhole s limits others second) (full : first.lines ≡ with_lines)
    (later : second.lines ≡ beside (earlier_of first)) where
  abbrev groups : List SectionEntries
  groups = one.keeps.groups

  abbrev groups_ : List SectionEntries
  groups_ = two.keeps.groups

  abbrev Stands : Heading × Line → Type 0
  Stands p = Contains (headed groups) p

  abbrev Stands_ : Heading × Line → Type 0
  Stands_ p = Contains (headed groups_) p

  store : IsStore with_lines groups first.stored
  store = subst (λ (b : KeptLines). IsStore b groups first.stored) full one.keeps.store

  once : NoneTwice (names_of first.stored)
  once = distinct-none_twice (names_of first.stored) (keeps-names_differ s limits one.given first one.keeps)

  once_ : NoneTwice (names_of second.stored)
  once_ = distinct-none_twice (names_of second.stored) (keeps-names_differ s limits two.given second two.keeps)

  abbrev IsLineThere : Entry → Type 0
  IsLineThere e = Contains (lines_of first.stored) (entry_line e)

  equal-is : IsTrue second.equal ↔ Each IsLineThere (entries_in groups_)
  equal-is = subst (λ (b : KeptLines). IsTrue second.equal ↔ Each (λ (e : Entry). IsAmongEarlier b (entry_line e)) (entries_in groups_)) later two.keeps.equal_is

  head-of_first : (k : ℕ) → slice_get first.headings k ≡ slice_get (heads_of groups) k
  head-of_first k = ap (λ (hs : List Heading). slice_get hs k) one.keeps.headings_are

  head-of_second : (k : ℕ) → slice_get second.headings k ≡ slice_get (heads_of groups_) k
  head-of_second k = ap (λ (hs : List Heading). slice_get hs k) two.keeps.headings_are

  heads-once : NoneTwice (heads_of groups)
  heads-once = headings-differ (heads_of groups) (unrefused-headings s limits one.given groups one.keeps.unrefused one.structure one.text one.is_file one.statements_are)
      (subst (λ (ns : List (List ℕ)). NoneTwice ns) (keeps-section_names s limits one.given first one.keeps ∙ ap section_names one.keeps.headings_are) (texts-none_twice _ one.keeps.unrefused.section_names_differ))

  heads-once_ : NoneTwice (heads_of groups_)
  heads-once_ = headings-differ (heads_of groups_) (unrefused-headings s limits two.given groups_ two.keeps.unrefused two.structure two.text two.is_file two.statements_are)
      (subst (λ (ns : List (List ℕ)). NoneTwice ns) (keeps-section_names s limits two.given second two.keeps ∙ ap section_names two.keeps.headings_are) (texts-none_twice _ two.keeps.unrefused.section_names_differ))

  -- what is stored of the first file is of an entry in its section
  stored-stands : (y : StoredEntry) → Contains first.stored y → (h : Heading) × (slice_get first.headings y.section ≡ Some h) × Stands (h, (y.name, y.text))
  stored-stands y at =
      let (p, at_p, is) = stored-numbered with_lines groups first.stored store y at in
      let (h, head, stands) = numbered-headed groups p.0 p.1 at_p in
      let number : p.0 ≡ y.section = ap (λ (x : StoredEntry). x.section) is in
      let P : Line → Type 0 = λ l. Stands (h, l) in
      (h, head-of_first y.section ∙ ap (λ k. slice_get (heads_of groups) k) (sym number) ∙ head, subst P (ap (λ (x : StoredEntry). (x.name, x.text)) is) stands)

  stands-stored : (h : Heading) (l : Line) → Stands (h, l) → (y : StoredEntry) × Contains first.stored y × (slice_get first.headings y.section ≡ Some h) × ((y.name, y.text) ≡ l)
  stands-stored h l stands =
      let (k, e, at, head, is) = headed-numbered groups h l stands in
      (stored_of with_lines (k, e), numbered-stored with_lines groups first.stored store (k, e) at, head-of_first k ∙ head, is)

  stored-stands_ : (x : StoredEntry) → Contains second.stored x → (h : Heading) × (text : List ℕ) × (slice_get second.headings x.section ≡ Some h) × Stands_ (h, (x.name, text)) × ((e : Entry) × Contains (entries_in groups_) e × (entry_line e ≡ (x.name, text)))
  stored-stands_ x at =
      let (p, at_p, is) = stored-numbered second.lines groups_ second.stored two.keeps.store x at in
      let (h, head, stands) = numbered-headed groups_ p.0 p.1 at_p in
      let number : p.0 ≡ x.section = ap (λ (y : StoredEntry). y.section) is in
      let named : entry_line p.1 ≡ (x.name, p.1.text) = ap (λ (y : StoredEntry). (y.name, p.1.text)) is in
      let P : Line → Type 0 = λ l. Stands_ (h, l) in
      (h, p.1.text, head-of_second x.section ∙ ap (λ k. slice_get (heads_of groups_) k) (sym number) ∙ head, subst P named stands, (p.1, numbered-entry groups_ p.0 p.1 at_p, named))

  stands-stored_ : (h : Heading) (l : Line) → Stands_ (h, l) → (x : StoredEntry) × Contains second.stored x × (slice_get second.headings x.section ≡ Some h) × (x.name ≡ l.0) × ((e : Entry) × Contains (entries_in groups_) e × (entry_line e ≡ l))
  stands-stored_ h l stands =
      let (k, e, at, head, is) = headed-numbered groups_ h l stands in
      (stored_of second.lines (k, e), numbered-stored second.lines groups_ second.stored two.keeps.store (k, e) at, head-of_second k ∙ head, ap (λ (m : Line). m.0) is, (e, numbered-entry groups_ k e at, is))

  -- ---- where all is the same

  module _ (same : IsSameAs (earlier_of first) second) where
    there : (e : Entry) → Contains (entries_in groups_) e → IsLineThere e
    there e among = Each-member IsLineThere (entries_in groups_) e (equal-is.0 same.lines_are) among

    into : (h : Heading) (l : Line) → Stands_ (h, l) → Stands (h, l)
    into h l stands =
        let (x, at_x, head, name, (e, at_e, is_e)) = stands-stored_ h l stands in
        let (y, at_y, is_y) = Contains-unmapped {Y = Line} (λ (z : StoredEntry). (z.name, z.text)) first.stored (entry_line e) (there e at_e) in
        let is : ◌≡◌ {A = Line} (y.name, y.text) l = is_y ∙ is_e in
        let section_ = same.sections_are y at_y x at_x (name ∙ sym (ap (λ (m : Line). m.0) is)) in
        let (g, head_y, stands_y) = stored-stands y at_y in
        let heads : g ≡ h = (let both : Some g ≡ Some h = sym head_y ∙ sym section_ ∙ head in cc) in
        let P : Heading → Type 0 = λ k. Stands (k, l) in
        let Q : Line → Type 0 = λ m. Stands (g, m) in
        subst P heads (subst Q is stands_y)

    name-there : AreMembers (names_of second.stored) (names_of first.stored)
    name-there n among =
        let (x, at_x, is_x) = Contains-unmapped (λ (z : StoredEntry). z.name) second.stored n among in
        let (h, text, head, stands, (e, at_e, is_e)) = stored-stands_ x at_x in
        let (y, at_y, is_y) = Contains-unmapped {Y = Line} (λ (z : StoredEntry). (z.name, z.text)) first.stored (entry_line e) (there e at_e) in
        let P : ℕ → Type 0 = λ m. Contains (names_of first.stored) m in
        subst P (ap (λ (m : Line). m.0) (is_y ∙ is_e) ∙ is_x) (Contains-mapped (λ (z : StoredEntry). z.name) first.stored y at_y)

    name-back : AreMembers (names_of first.stored) (names_of second.stored)
    name-back =
        let size = length-map first.stored (λ (z : StoredEntry). z.name) in
        let size_ = length-map second.stored (λ (z : StoredEntry). z.name) in
        let many = same.as_many_lines in
        members-back (names_of second.stored) (names_of first.stored) once_ name-there (omega (arith, size, size_, many))

    back : (h : Heading) (l : Line) → Stands (h, l) → Stands_ (h, l)
    back h l stands =
        let (y, at_y, head, is) = stands-stored h l stands in
        let (x, at_x, name) = Contains-unmapped (λ (z : StoredEntry). z.name) second.stored y.name (name-back y.name (Contains-mapped (λ (z : StoredEntry). z.name) first.stored y at_y)) in
        let (g, text, head_x, stands_x, (e, at_e, is_e)) = stored-stands_ x at_x in
        let (z, at_z, is_z) = Contains-unmapped {Y = Line} (λ (w : StoredEntry). (w.name, w.text)) first.stored (entry_line e) (there e at_e) in
        let own : ◌≡◌ {A = Line} (z.name, z.text) (x.name, text) = is_z ∙ is_e in
        let one_ : z ≡ y = one-keyed (λ (w : StoredEntry). w.name) first.stored once z y at_z at_y (ap (λ (m : Line). m.0) own ∙ name) in
        let line_ : ◌≡◌ {A = Line} (x.name, text) l = sym own ∙ ap (λ (w : StoredEntry). (w.name, w.text)) one_ ∙ is in
        let section_ = same.sections_are y at_y x at_x name in
        let heads : g ≡ h = (let both : Some g ≡ Some h = sym head_x ∙ section_ ∙ head in cc) in
        let P : Heading → Type 0 = λ k. Stands_ (k, l) in
        let Q : Line → Type 0 = λ m. Stands_ (g, m) in
        subst P heads (subst Q line_ stands_x)

    heads-there : AreMembers (heads_of groups_) (heads_of groups)
    heads-there h among =
        let P : List Heading → Type 0 = λ hs. Contains hs h in
        subst P one.keeps.headings_are (Each-member (Contains first.headings) second.headings h same.headings_are (subst P (sym two.keeps.headings_are) among))

    heads-back : AreMembers (heads_of groups) (heads_of groups_)
    heads-back =
        let many = same.as_many_headings in
        let size = ap length one.keeps.headings_are in
        let size_ = ap length two.keeps.headings_are in
        members-back (heads_of groups_) (heads_of groups) heads-once_ heads-there (omega (arith, many, size, size_))

    -- the blocks of the first are blocks of the second
    other-rising : (blocks : List Block) → AreRisingBlocks groups blocks → AreRisingBlocks groups_ blocks
    other-rising blocks rising = record {
      are_headings = rising.are_headings;
      sections_rise = rising.sections_rise;
      names_rise = rising.names_rise;
      headings_are = λ h. (λ among. heads-back h ((rising.headings_are h).0 among), λ among. (rising.headings_are h).1 (heads-there h among));
      lines_are = λ p. (λ among. back p.0 p.1 ((rising.lines_are p).0 among), λ among. (rising.lines_are p).1 (into p.0 p.1 among));
    }

    one-text : (text : List ℕ) × IsCanonicalFile s limits bytes text × IsCanonicalFile s limits others text
    one-text =
        let all = all-served s limits one.given first one.keeps one.served in
        let all_ = all-served s limits two.given second two.keeps two.served in
        let (blocks, rising) = rising-exists s formed limits bytes one.given groups one.keeps.unrefused one.structure one.text one.is_file one.statements_are one.laid (none-waits s (entries_in groups) first.waiting one.keeps.waits all) in
        let C : List ℕ → Type 0 = λ x. IsCanonicalFile s limits others x in (
          file_text (parts_among one.given) blocks,
          unrefused-accepted s formed limits bytes one.given groups blocks one.keeps.unrefused one.structure one.text one.is_file one.statements_are _ refl one.laid one.statements_within one.source_within first.waiting one.keeps.waits all rising,
          subst C (kept-text s limits two.given second two.keeps blocks ∙ ap (λ (xs : List ℕ). text_with_header xs blocks) same.header_is ∙ sym (kept-text s limits one.given first one.keeps blocks))
              (unrefused-accepted s formed limits others two.given groups_ blocks two.keeps.unrefused two.structure two.text two.is_file two.statements_are _ refl two.laid two.statements_within two.source_within second.waiting two.keeps.waits all_ (other-rising blocks rising)),
        )

-- ---- where both have one canonical file

-- the tree of a canonical file tells what is kept of its source
record IsTreeOf (given : List Statement) (groups : List SectionEntries) (text : List ℕ) (tree : Structure) : Type 0 where
  schema_text : List ℕ
  in_grammar : InGrammar text tree schema_text
  header_is : tree.header ≡ parts_among given
  headings_are : HaveSameMembers (headings tree.sections) (heads_of groups)
  lines_are : HaveSameMembers (flat_map lines_with_heading (map block_of tree.sections)) (headed groups)

tree-of : (s : Schema) → IsWellFormed s → (limits : Limits) (bytes : List ℕ) (kept : Kept) (whole : IsKeptOfWhole s limits bytes kept) (text : List ℕ) → IsCanonicalFile s limits bytes text → (tree : Structure) × IsTreeOf whole.given whole.keeps.groups text tree
tree-of s formed limits bytes kept whole text (m, means, is) =
    let given = whole.given in
    let own : List SectionEntries = whole.keeps.groups in
    let c : Canonical s text = is.canonical in
    let reads : Reads s bytes m = means.reads in
    let told : whole.structure ≡ structure_of (parts_among given) own = statements-tell whole.structure given own whole.statements_are whole.keeps.unrefused.sections_are in
    let read_so : reads.structure ≡ structure_of (parts_among given) own = one_structure_of bytes reads.structure whole.structure reads.schema_text whole.text reads.in_grammar (record { laid = whole.laid; is_file = whole.is_file }) ∙ told in
    let sections_are : reads.structure.sections ≡ map section_of own = ap (λ (t : Structure). t.sections) read_so in
    let printed : Each (IsPrinted s) (entries_in own) = Each-weaker (IsFound s limits) (IsPrinted s) (λ e found. found.printed) (entries_in own) whole.keeps.unrefused.found in
    let H : List Heading → List Heading → Type 0 = λ xs ys. HaveSameMembers xs ys in (
      c.reads.structure,
      record {
        schema_text = c.reads.schema_text;
        in_grammar = c.reads.in_grammar;
        header_is = header-in_canonical s bytes m reads text c is.same ∙ ap (λ (t : Structure). t.header) read_so;
        headings_are = subst (H (headings c.reads.structure.sections)) (reads.sections_are ∙ ap headings sections_are ∙ group-headings own) (subst (λ xs. H xs m.sections) c.reads.sections_are is.same.sections);
        lines_are = placed-same s formed bytes m reads text c is.same own sections_are printed;
      },
    )

module _ (s : Schema) (formed : IsWellFormed s) (limits : Limits) (bytes others : List ℕ) (first second : Kept) (one : IsKeptOfWhole s limits bytes first) (two : IsKeptOfWhole s limits others second) (full : first.lines ≡ with_lines)
    (later : second.lines ≡ beside (earlier_of first)) (text : List ℕ) (of_first : IsCanonicalFile s limits bytes text) (of_second : IsCanonicalFile s limits others text) where
  told-same : IsSameAs (earlier_of first) second
  told-same =
      let groups : List SectionEntries = one.keeps.groups in
      let groups_ : List SectionEntries = two.keeps.groups in
      let (t, is) = tree-of s formed limits bytes first one text of_first in
      let (u, is_) = tree-of s formed limits others second two text of_second in
      let trees : u ≡ t = one_structure_of text u t is_.schema_text is.schema_text is_.in_grammar is.in_grammar in
      let L : Structure → Type 0 = λ x. HaveSameMembers (flat_map lines_with_heading (map block_of x.sections)) (headed groups_) in
      let lines : HaveSameMembers (flat_map lines_with_heading (map block_of t.sections)) (headed groups_) = subst L trees is_.lines_are in
      let H : Structure → Type 0 = λ x. HaveSameMembers (headings x.sections) (heads_of groups_) in
      let heads : HaveSameMembers (headings t.sections) (heads_of groups_) = subst H trees is_.headings_are in
      let into : (p : Heading × Line) → Contains (headed groups_) p → Contains (headed groups) p = λ p among. (is.lines_are p).0 ((lines p).1 among) in
      let back : (p : Heading × Line) → Contains (headed groups) p → Contains (headed groups_) p = λ p among. (lines p).0 ((is.lines_are p).1 among) in
      let heads_into : AreMembers (heads_of groups_) (heads_of groups) = λ h among. (is.headings_are h).0 ((heads h).1 among) in
      let heads_back : AreMembers (heads_of groups) (heads_of groups_) = λ h among. (heads h).0 ((is.headings_are h).1 among) in
      let F : List Heading → Heading → Type 0 = λ hs h. Contains hs h in
      let names_into : AreMembers (names_of second.stored) (names_of first.stored) = λ n among.
      let (x, at_x, is_x) = Contains-unmapped (λ (z : StoredEntry). z.name) second.stored n among in
      let (h, its_text, head, stands, entry) = stored-stands_ s formed limits bytes others first second one two full later x at_x in
      let (y, at_y, head_y, is_y) = stands-stored s formed limits bytes others first second one two full later h (x.name, its_text) (into (h, (x.name, its_text)) stands) in
      let P : ℕ → Type 0 = λ m. Contains (names_of first.stored) m in
      subst P (ap (λ (l : Line). l.0) is_y ∙ is_x) (Contains-mapped (λ (z : StoredEntry). z.name) first.stored y at_y) in
      let names_back : AreMembers (names_of first.stored) (names_of second.stored) = λ n among.
      let (y, at_y, is_y) = Contains-unmapped (λ (z : StoredEntry). z.name) first.stored n among in
      let (h, head, stands) = stored-stands s formed limits bytes others first second one two full later y at_y in
      let (x, at_x, head_x, name, entry) = stands-stored_ s formed limits bytes others first second one two full later h (y.name, y.text) (back (h, (y.name, y.text)) stands) in
      let P : ℕ → Type 0 = λ m. Contains (names_of second.stored) m in
      subst P (name ∙ is_y) (Contains-mapped (λ (z : StoredEntry). z.name) second.stored x at_x) in
      let fewer = members-fewer (names_of second.stored) (names_of first.stored) (once_ s formed limits bytes others first second one two full later) names_into in
      let more = members-fewer (names_of first.stored) (names_of second.stored) (once s formed limits bytes others first second one two full later) names_back in
      let size = length-map first.stored (λ (z : StoredEntry). z.name) in
      let size_ = length-map second.stored (λ (z : StoredEntry). z.name) in
      let fewer_heads = members-fewer (heads_of groups_) (heads_of groups) (heads-once_ s formed limits bytes others first second one two full later) heads_into in
      let more_heads = members-fewer (heads_of groups) (heads_of groups_) (heads-once s formed limits bytes others first second one two full later) heads_back in
      let heads_size = ap length one.keeps.headings_are in
      let heads_size_ = ap length two.keeps.headings_are in
      let parts : parts_among two.given ≡ parts_among one.given = sym is_.header_is ∙ ap (λ (x : Structure). x.header) trees ∙ is.header_is in
      let there : (e : Entry) → Contains (entries_in groups_) e → Contains (lines_of first.stored) (entry_line e) = λ e among.
      let (k, at) = entry-numbered groups_ e among in
      let (h, head, stands) = numbered-headed groups_ k e at in
      let (y, at_y, head_y, is_y) = stands-stored s formed limits bytes others first second one two full later h (entry_line e) (into (h, entry_line e) stands) in
      let P : Line → Type 0 = λ l. Contains (lines_of first.stored) l in
      subst P is_y (Contains-mapped {Y = Line} (λ (z : StoredEntry). (z.name, z.text)) first.stored y at_y) in
      record {
        lines_are = (equal-is s formed limits bytes others first second one two full later).1 (Each-of_members (λ (e : Entry). Contains (lines_of first.stored) (entry_line e)) (entries_in groups_) there);
        as_many_lines = omega (arith, fewer, more, size, size_);
        header_is = two.keeps.header_is ∙ ap (λ (ps : List Part). flat_map line (map header ps)) parts ∙ sym one.keeps.header_is;
        headings_are = Each-of_members (Contains first.headings) second.headings (λ h among.
            let P : List Heading → Type 0 = λ hs. Contains hs h in
            subst P (sym one.keeps.headings_are) (heads_into h (subst P two.keeps.headings_are among)));
        as_many_headings = omega (arith, fewer_heads, more_heads, heads_size, heads_size_);
        sections_are = λ y at_y x at_x name.
            let (h, its_text, head, stands, entry) = stored-stands_ s formed limits bytes others first second one two full later x at_x in
            let (z, at_z, head_z, is_z) = stands-stored s formed limits bytes others first second one two full later h (x.name, its_text) (into (h, (x.name, its_text)) stands) in
            let one_ : z ≡ y = one-keyed (λ (w : StoredEntry). w.name) first.stored (once s formed limits bytes others first second one two full later) z y at_z at_y (ap (λ (l : Line). l.0) is_z ∙ name) in
            head ∙ sym head_z ∙ ap (λ (w : StoredEntry). slice_get first.headings w.section) one_;
      }

pub keeps-tell_same : KeptTellSame
keeps-tell_same s formed limits bytes others first second one two full later = (
  λ same. one-text s formed limits bytes others first second one two full later same,
  λ (text, of_first, of_second). told-same s formed limits bytes others first second one two full later text of_first of_second,
)
