-- The lines of a file under other names of its instances, with its header and its sections, are the canonical file of its meaning
-- under these names.
use Rattle.std.specs.Prelude.{◌≡◌, ◌⊎◌, ◌≤◌, ◌<◌, ◌+◌, ◌^◌, ℕ, zero, suc, List, [], ◌∷◌, ◌++◌, map, length, slice_get, Some, Contains, refl}
use Rattle.std.specs.List.{flat_map, AllByRecursion as Each}
use Rattle.std.proofs.Common.{arith, ap, sym, subst, ◌∙◌, inl, inr, append_assoc, length-append}
use Rattle.std.proofs.lemmas.Grind.{flat_map-append}
use Rattle.std.proofs.lemmas.List.{append-nil, length-map}
use Rattle.p21_spec_basics.proofs.Members.{AllZip-member, AllZip-second_member, Contains-found, Contains-at, Contains-flat_map, Contains-mapped, Contains-one_of, Contains-unmapped, Each-member, Each-of_members}
use Rattle.p21_spec_basics.proofs.Shuffles.{NoneTwice, one-keyed, texts-none_twice}
use Rattle.p21_spec_basics.specs.Limits.{Limits}
use Rattle.p21_spec_exchange.specs.CanonicalText.{line, statement_text}
use Rattle.p21_spec_exchange.specs.DataSection.{DataSection, Heading, AreHeadings, headings, instances_in, section_names}
use Rattle.p21_spec_exchange.specs.Laying.{AreStatementsWithin, Lexeme, count_behind}
use Rattle.p21_spec_exchange.specs.Record.{Part}
use Rattle.p21_spec_exchange.specs.Statement.{Statement, section, header, instance, begin, header_start, section_end, data_start, finish}
use Rattle.p21_spec_exchange.specs.Structure.{Structure, statements}
use Rattle.p21_spec_exchange.specs.Token.{Token, semicolon}
use Rattle.p21_spec_file.specs.Accepted.{IsAccepted, IsCanonicalOf, IsLineWithin, Means}
use Rattle.p21_spec_file.specs.Canonical.{Canonical}
use Rattle.p21_spec_file.specs.CanonicalTexts.{IsInstanceText}
use Rattle.p21_spec_file.specs.File.{FileMeaning, InstanceMeans, Reads, entity_sets_of, names_with_heading}
use Rattle.p21_spec_file.specs.Meaning.{RecordMeans, Typed}
use Rattle.p21_spec_file.specs.Reference.{EntitySets}
use Rattle.p21_spec_file.specs.SameFile.{HaveSameMembers}
use Rattle.p21_spec_file.proofs.SameFiles.{SameFileMeaning-symmetric, SameFileMeaning-transitive}
use Rattle.p21_spec_laws.proofs.Ending.{ended-accepted, group-headings}
use Rattle.p21_spec_laws.proofs.Exact.{accepted-ended}
use Rattle.p21_spec_laws.proofs.FileTheorems.{bytes-tell, one-meaning, one-tree}
use Rattle.p21_spec_laws.proofs.LongFiles.{headings-differ, last-line}
use Rattle.p21_spec_laws.proofs.OneLine.{header-in_canonical, instance-in_canonical}
use Rattle.p21_spec_laws.proofs.PrintingFiles.{HasCanonicalFile, has-canonical_file}
use Rattle.p21_spec_laws.proofs.RecordTheorems.{one-text}
use Rattle.p21_spec_laws.proofs.SaidFiles.{Instance}
use Rattle.p21_spec_laws.proofs.Statements.{among-statements, header-statement, heading-statement}
use Rattle.p21_spec_laws.proofs.Storing.{blocks-of_groups}
use Rattle.p21_spec_laws.specs.CompleteFile.{AreRisingBlocks, Block, Entry, IsCompleteFile, IsPrinted, Line, SectionEntries, block_bytes, entries_in, file_text, lines_in, section_of, structure_of}
use Rattle.p21_spec_laws.specs.Keeping.{AreBlocksOf, IsBlockAt, Kept, text_with_header}
use Rattle.p21_spec_laws.specs.Stored.{AreLinesOf, IsBlockOf, StoredEntry}
use Rattle.p21_spec_schema.specs.Schema.{Schema}
use Rattle.p21_spec_schema.specs.WellFormed.{IsWellFormed}
use Rattle.p21_spec_numbering.proofs.Existence.{reads-written}
use Rattle.p21_spec_numbering.proofs.Reading.{reads-whole}
use Rattle.p21_spec_numbering.proofs.Targets.{one-typed}
use Rattle.p21_spec_numbering.specs.Renamed.{IsInjectiveOn, IsWhole, names, renamed, renamed_instance, renamed_section, renamed_typed}
use Rattle.p21_canon.specs.Statement.{IsCanonicalStatement}
use Rattle.p21_numbered.specs.Kept.{IsKeptUnder}

-- ---- limits that are wide enough

abbrev total : List Lexeme → ℕ
total [] = 0
total (l ∷ ls) = l.size + total ls

behind-is : (count size : ℕ) (x : Token) → (count_behind count (record { token = x; size = size }) ≡ 0)
    ⊎ (count_behind count (record { token = x; size = size }) ≡ count + size)
behind-is count size semicolon = inl refl
behind-is count size other = inr refl

behind-low : (count : ℕ) (l : Lexeme) → count_behind count l ≤ count + l.size
behind-low count l = elim (behind-is count l.size l.token) [
  | inl ended ↦ omega (arith, ended)
  | inr more ↦ omega (arith, more)
]

all-within : (most count : ℕ) (ls : List Lexeme) → count + total ls ≤ most → AreStatementsWithin most count ls
all-within most count [] low = tt
all-within most count (l ∷ ls) low =
    let behind = behind-low count l in
    (omega (arith, low), all-within most (count_behind count l) ls (omega (arith, low, behind)))

lines-short : (most : ℕ) (sts : List Statement) → length (flat_map line sts) ≤ most
    → Each (λ (st : Statement). length (statement_text st) ≤ most) sts
lines-short most [] low = tt
lines-short most (st ∷ sts) low =
    let whole = length-append (line st) (flat_map line sts) in
    let own = length-append (statement_text st) (10 ∷ []) in
    (omega (arith, low, whole, own), lines-short most sts (omega (arith, low, whole)))

-- ---- positions

at-mapped : {X Y : Type 0} (g : X → Y) (xs : List X) (k : ℕ) (y : Y) → slice_get (map g xs) k ≡ Some y
    → (x : X) × (slice_get xs k ≡ Some x) × (g x ≡ y)
at-mapped g [] k y at = cc
at-mapped g (x ∷ xs) zero y at = (x, refl, let same : g x ≡ y = cc in same)
at-mapped g (x ∷ xs) (suc k) y at = at-mapped g xs k y at

mapped-at : {X Y : Type 0} (g : X → Y) (xs : List X) (k : ℕ) (x : X) → slice_get xs k ≡ Some x → slice_get (map g xs) k ≡ Some (g x)
mapped-at g [] k x at = cc
mapped-at {X} g (z ∷ xs) zero x at = let same : z ≡ x = cc in ap (λ (y : X). Some (g y)) same
mapped-at g (z ∷ xs) (suc k) x at = mapped-at g xs k x at

index-once : {X : Type 0} (xs : List X) → NoneTwice xs → (j k : ℕ) (x : X) → slice_get xs j ≡ Some x → slice_get xs k ≡ Some x → j ≡ k
index-once [] none j k x at at_ = cc
index-once (y ∷ ys) none zero zero x at at_ = refl
index-once {X} (y ∷ ys) none zero (suc k) x at at_ =
    let same : y ≡ x = cc in
    let P : X → Type 0 = λ z. Contains ys z in
    absurd (none.0 (subst P (sym same) (Contains-found ys k x at_)))
index-once {X} (y ∷ ys) none (suc j) zero x at at_ =
    let same : y ≡ x = cc in
    let P : X → Type 0 = λ z. Contains ys z in
    absurd (none.0 (subst P (sym same) (Contains-found ys j x at)))
index-once (y ∷ ys) none (suc j) (suc k) x at at_ = ap suc (index-once ys none.1 j k x at at_)

-- ---- the text by its header lines

text-is : (parts : List Part) (blocks : List Block) → file_text parts blocks ≡ text_with_header (flat_map line (map header parts)) blocks
text-is parts blocks =
    let start : List ℕ = line (section begin) in
    let second : List ℕ = line (section header_start) in
    let ending : List ℕ = line (section section_end) in
    let middle : List ℕ = flat_map line (map header parts ++ (section section_end ∷ [])) in
    let rest : List ℕ = flat_map block_bytes blocks ++ line (section finish) in
    let headers : List ℕ = flat_map line (map header parts) in
    append_assoc start (second ++ middle) rest
    ∙ ap (λ (xs : List ℕ). start ++ xs) (
    append_assoc second middle rest
    ∙ ap (λ (xs : List ℕ). second ++ xs) (
    ap (λ (xs : List ℕ). xs ++ rest) (flat_map-append line (map header parts) (section section_end ∷ []))
    ∙ append_assoc headers (ending ++ []) rest
    ∙ ap (λ (xs : List ℕ). headers ++ (xs ++ rest)) (append-nil ending)
    )
    )

-- the lines of the header and of the sections are within the limit
pub record AreHeadsWithin (limits : Limits) (m : FileMeaning) : Type 0 where
  pub sections_within : 17 ≤ limits.record_canonical
  pub headers_within : Each (λ (part : Part). IsLineWithin limits (header part)) m.header
  pub headings_within : Each (λ (h : Heading). IsLineWithin limits (section (data_start h))) m.sections

pub heads-within : (s : Schema) (limits : Limits) (bytes : List ℕ) (m : FileMeaning) → Means s limits bytes m → AreHeadsWithin limits m
heads-within s limits bytes m means =
    let c : Canonical s means.canonical = means.is_canonical.canonical in
    let u : Structure = c.reads.structure in
    let within : Each (IsLineWithin limits) (statements u) = means.is_canonical.lines_within in
    let head : u.header ≡ m.header = header-in_canonical s bytes m means.reads means.canonical c means.is_canonical.same
    ∙ sym means.reads.header_is in
    let P : List Part → Type 0 = λ ps. Each (λ (part : Part). IsLineWithin limits (header part)) ps in
    let H : List Heading → Type 0 = λ hs. HaveSameMembers hs m.sections in
    let members : HaveSameMembers (headings u.sections) m.sections = subst H c.reads.sections_are means.is_canonical.same.sections in
    record {
      sections_within = Each-member (IsLineWithin limits) (statements u) (section finish) within (last-line u);
      headers_within = subst P head (Each-of_members (λ (part : Part). IsLineWithin limits (header part)) u.header
          (λ part at. Each-member (IsLineWithin limits) (statements u) (header part) within (header-statement u part at)));
      headings_within = Each-of_members (λ (h : Heading). IsLineWithin limits (section (data_start h))) m.sections
          (λ h at. Each-member (IsLineWithin limits) (statements u) (section (data_start h)) within
          (heading-statement u h ((members h).1 at)));
    }

-- ---- a file with other names

module _ (s : Schema) (formed : IsWellFormed s) (bytes : List ℕ) (m : FileMeaning) (reads : Reads s bytes m) (f : ℕ → ℕ)
    (injective : IsInjectiveOn (names m) f) where
  is_whole : IsWhole m
  is_whole = (reads-whole s formed bytes m reads).0

  in_names : (n : ℕ) (h : Heading) → Contains m.instance_sections (n, h) → Contains (names m) n
  in_names n h at =
      let P : List ℕ → Type 0 = λ ns. Contains ns n in
      subst P is_whole.in_sections (Contains-mapped (λ (i : ℕ × Heading). i.0) m.instance_sections (n, h) at)

  -- the instances of a tree that means the file with the new names
  module _ (out : List ℕ) (new : Reads s out (renamed f m)) (groups : List SectionEntries)
      (are : map section_of groups ≡ new.structure.sections) where
    -- the instance that an entry is of
    record IsOf (g : SectionEntries) (e : Entry) : Type 0 where
      n : ℕ
      x : Typed
      at : Contains m.instances (n, x)
      in_section : Contains m.instance_sections (n, g.heading)
      name_is : e.name ≡ f n
      means : RecordMeans s (entity_sets_of (renamed f m).instances) e.record_ (renamed_typed f x)

    entry-is : (g : SectionEntries) → Contains groups g → (e : Entry) → Contains g.entries e → IsOf g e
    entry-is g at e at_e =
        let S : List DataSection → Type 0 = λ xs. Contains xs (section_of g) in
        let stands : Contains new.structure.sections (section_of g) = subst S are (Contains-mapped section_of groups g at) in
        let i : Instance = (e.name, e.record_) in
        let within : Contains (section_of g).instances i = Contains-mapped (λ (y : Entry). (y.name, y.record_)) g.entries e at_e in
        let written : Contains (instances_in new.structure.sections) i =
        Contains-flat_map (λ (y : DataSection). y.instances) new.structure.sections (section_of g) i stands within in
        let (k, at_k, holds) = AllZip-member (InstanceMeans s (entity_sets_of (renamed f m).instances))
        (instances_in new.structure.sections) (renamed f m).instances i new.means written in
        let (j, at_j, is_j) = Contains-unmapped (renamed_instance f) m.instances k at_k in
        let place : ℕ × Heading = (e.name, g.heading) in
        let placed : Contains (flat_map names_with_heading new.structure.sections) place =
        Contains-flat_map names_with_heading new.structure.sections (section_of g) place stands
        (Contains-mapped (λ (y : Instance). (y.0, g.heading)) (section_of g).instances i within) in
        let Q : List (ℕ × Heading) → Type 0 = λ ps. Contains ps place in
        let (p, at_p, is_p) = Contains-unmapped (renamed_section f) m.instance_sections place
        (subst Q (sym new.instance_sections_are) placed) in
        let name : e.name ≡ f j.0 = sym holds.0 ∙ sym (ap (λ (y : ℕ × Typed). y.0) is_j) in
        let one : p.0 ≡ j.0 = injective p.0 j.0 (in_names p.0 p.1 at_p) (Contains-mapped (λ (y : ℕ × Typed). y.0) m.instances j at_j)
        (ap (λ (y : ℕ × Heading). y.0) is_p ∙ name) in
        let by_name : ℕ → ℕ × Heading = λ n. (n, p.1) in
        let by_heading : Heading → ℕ × Heading = λ h. (j.0, h) in
        let P : ℕ × Heading → Type 0 = λ y. Contains m.instance_sections y in
        let R : Typed → Type 0 = λ y. RecordMeans s (entity_sets_of (renamed f m).instances) e.record_ y in
        record {
          n = j.0;
          x = j.1;
          at = at_j;
          in_section = subst P (ap by_name one ∙ ap by_heading (ap (λ (y : ℕ × Heading). y.1) is_p)) at_p;
          name_is = name;
          means = subst R (sym (ap (λ (y : ℕ × Typed). y.1) is_j)) holds.1;
        }

    -- its canonical text is the one of the entry
    text-same : (g : SectionEntries) (e : Entry) (is : IsOf g e) → IsPrinted s e → (text : List ℕ)
        → IsCanonicalStatement s (f is.n) (renamed_typed f is.x) text → text ≡ e.text
    text-same g e is printed text canonical =
        let P : ℕ → Type 0 = λ n. IsInstanceText s n e.record_ text in
        let own : IsInstanceText s (f is.n) e.record_ text = record {
          kinds = entity_sets_of (renamed f m).instances;
          meaning = renamed_typed f is.x;
          means = is.means;
          canonical = canonical.canonical;
          canonical_meaning = canonical.canonical_meaning;
          canonical_means = canonical.means (entity_sets_of (renamed f m).instances) e.record_ is.means;
          same = canonical.same;
          is_canonical = canonical.is_canonical;
          text_is = canonical.text_is;
          laid = canonical.laid;
        } in
        one-text s formed e.name e.record_ text e.text (subst P (sym is.name_is) own) printed

    module _ (none : NoneTwice (map (λ (g : SectionEntries). g.heading) groups)) where
      -- where the instance stands
      entry-of : (g : SectionEntries) → Contains groups g → (n : ℕ) → Contains m.instance_sections (n, g.heading)
          → (e : Entry) × Contains g.entries e × (e.name ≡ f n)
      entry-of g at n at_n =
          let place : ℕ × Heading = (f n, g.heading) in
          let Q : List (ℕ × Heading) → Type 0 = λ ps. Contains ps place in
          let S : List DataSection → Type 0 = λ xs. Contains (flat_map names_with_heading xs) place in
          let placed : Contains (flat_map names_with_heading (map section_of groups)) place =
          subst S (sym are) (subst Q new.instance_sections_are
          (Contains-mapped (renamed_section f) m.instance_sections (n, g.heading) at_n)) in
          let (y, at_y, in_y) = Contains-one_of names_with_heading (map section_of groups) place placed in
          let (h, at_h, is_h) = Contains-unmapped section_of groups y at_y in
          let Y : DataSection → Type 0 = λ z. Contains (names_with_heading z) place in
          let (i, at_i, is_i) = Contains-unmapped (λ (z : Instance). (z.0, h.heading)) (section_of h).instances place
          (subst Y (sym is_h) in_y) in
          let one : h ≡ g = one-keyed (λ (z : SectionEntries). z.heading) groups none h g at_h at (ap (λ (z : ℕ × Heading). z.1) is_i) in
          let G : SectionEntries → Type 0 = λ z. Contains (section_of z).instances i in
          let (e, at_e, is_e) = Contains-unmapped (λ (z : Entry). (z.name, z.record_)) g.entries i (subst G one at_i) in
          (e, at_e, ap (λ (z : Instance). z.0) is_e ∙ ap (λ (z : ℕ × Heading). z.0) is_i)

      module _ (printed : Each (IsPrinted s) (entries_in groups)) (kept : Kept) (under : IsKeptUnder s m f kept)
          (heads : map (λ (g : SectionEntries). g.heading) groups ≡ kept.headings) where
        said : (g : SectionEntries) → Contains groups g → (e : Entry) → Contains g.entries e → IsPrinted s e
        said g at e at_e = Each-member (IsPrinted s) (entries_in groups) e printed
            (Contains-flat_map (λ (y : SectionEntries). y.entries) groups g e at at_e)

        at_heading : (number : ℕ) (g : SectionEntries) → slice_get groups number ≡ Some g → slice_get kept.headings number ≡ Some g.heading
        at_heading number g at =
            let P : List Heading → Type 0 = λ hs. slice_get hs number ≡ Some g.heading in
            subst P heads (mapped-at (λ (y : SectionEntries). y.heading) groups number g at)

        module _ (number : ℕ) (g : SectionEntries) (at : slice_get groups number ≡ Some g) (lines : List Line)
            (of : AreLinesOf kept.stored number lines) where
          stands : Contains groups g
          stands = Contains-found groups number g at

          to : (l : Line) → Contains lines l → Contains (lines_in g.entries) l
          to l among =
              let (z, at_z, section_is, is) = of.1 l among in
              let (n, x, h, at_n, at_h, entry) = under.back z at_z in
              let P : ℕ → Type 0 = λ k. slice_get kept.headings k ≡ Some h in
              let one_heading : h ≡ g.heading = (let both : Some h ≡ Some g.heading = sym (subst P section_is entry.in_section)
              ∙ at_heading number g at in cc) in
              let H : Heading → Type 0 = λ y. Contains m.instance_sections (n, y) in
              let (e, at_e, name) = entry-of g stands n (subst H one_heading at_h) in
              let own : IsOf g e = entry-is g stands e at_e in
              let one : own.n ≡ n = injective own.n n (in_names own.n g.heading own.in_section) (in_names n h at_h)
              (sym own.name_is ∙ name) in
              let N : ℕ → Type 0 = λ k. Contains m.instances (k, x) in
              let same_x : x ≡ own.x = one-typed m is_whole own.n x own.x (subst N (sym one) at_n) own.at in
              let K : ℕ → Type 0 = λ k. IsCanonicalStatement s (f k) (renamed_typed f x) z.text in
              let X : Typed → Type 0 = λ y. IsCanonicalStatement s (f own.n) (renamed_typed f y) z.text in
              let same : z.text ≡ e.text = text-same g e own (said g stands e at_e) z.text
              (subst X same_x (subst K (sym one) entry.line_is)) in
              let by_name : ℕ → Line = λ k. (k, e.text) in
              let by_text : List ℕ → Line = λ y. (z.name, y) in
              let L : Line → Type 0 = λ y. Contains (lines_in g.entries) y in
              subst L (ap by_name (name ∙ sym entry.name_is) ∙ ap by_text (sym same) ∙ is)
              (Contains-mapped (λ (y : Entry). (y.name, y.text)) g.entries e at_e)

          from : (l : Line) → Contains (lines_in g.entries) l → Contains lines l
          from l among =
              let (e, at_e, is) = Contains-unmapped {Y = Line} (λ (y : Entry). (y.name, y.text)) g.entries l among in
              let own : IsOf g e = entry-is g stands e at_e in
              let (z, at_z, entry) = under.onto own.n own.x g.heading own.at own.in_section in
              let none_ : NoneTwice kept.headings = subst NoneTwice heads none in
              let section_is : z.section ≡ number = index-once kept.headings none_ z.section number g.heading entry.in_section
              (at_heading number g at) in
              let same : z.text ≡ e.text = text-same g e own (said g stands e at_e) z.text entry.line_is in
              let by_name : ℕ → Line = λ k. (k, z.text) in
              let by_text : List ℕ → Line = λ y. (e.name, y) in
              let L : Line → Type 0 = λ y. Contains lines y in
              subst L (ap by_name (entry.name_is ∙ sym own.name_is) ∙ ap by_text same ∙ is) (of.0 z at_z section_is)

        -- the blocks of what is kept are those of the groups
        rising : AreHeadings (map (λ (g : SectionEntries). g.heading) groups) → (blocks : List Block) → AreBlocksOf kept blocks
            → AreRisingBlocks groups blocks
        rising are_headings blocks of =
            let to_group : (b : Block) → ((number : ℕ) × IsBlockAt kept number b)
            → (g : SectionEntries) × Contains groups g × IsBlockOf g b = λ b it.
            (let P : List Heading → Type 0 = λ hs. slice_get hs it.0 ≡ Some b.heading in
            let (g, at_g, heading) = at-mapped (λ (y : SectionEntries). y.heading) groups it.0 b.heading (subst P (sym heads) it.1.0) in (
              g,
              Contains-found groups it.0 g at_g,
              (
                sym heading,
                λ l.
                    (to it.0 g at_g b.lines it.1.1 l, from it.0 g at_g b.lines it.1.1 l),
              ),
            )) in
            let to_block : (g : SectionEntries) → Contains groups g → (b : Block) × Contains blocks b × IsBlockOf g b = λ g among.
            (let (k, at_g) = Contains-at groups g among in
            let at_h : slice_get kept.headings k ≡ Some g.heading = at_heading k g at_g in
            let (b, at_b, is) = of.each_section k g.heading at_h in
            let heading : b.heading ≡ g.heading = (let both : Some b.heading ≡ Some g.heading = sym is.0 ∙ at_h in cc) in
            (b, at_b, (heading, λ l. (to k g at_g b.lines is.1 l, from k g at_g b.lines is.1 l)))) in
            let many : length blocks ≡ length groups = of.as_many ∙ ap (λ (hs : List Heading). length hs) (sym heads)
            ∙ length-map groups (λ (y : SectionEntries). y.heading) in
            blocks-of_groups groups blocks are_headings many
            (Each-of_members (λ (b : Block). (g : SectionEntries) × Contains groups g × IsBlockOf g b) blocks
            (λ b at_b. to_group b (Each-member (λ (y : Block). (number : ℕ) × IsBlockAt kept number y) blocks b of.each_block at_b)))
            (Each-of_members (λ (g : SectionEntries). (b : Block) × Contains blocks b × IsBlockOf g b) groups to_block)
            of.sections_rise of.lines_rise

-- ---- a file with other names that can be written

module _ (s : Schema) (formed : IsWellFormed s) (bytes : List ℕ) (m : FileMeaning) (reads : Reads s bytes m) (f : ℕ → ℕ)
    (once : IsInjectiveOn (names m) f) (written : (n : ℕ) → Contains (names m) n → f n < 2 ^ 64) where
  renamed_file : (out : List ℕ) × Reads s out (renamed f m)
  renamed_file = reads-written s formed bytes m reads f once written

  new_reads : Reads s renamed_file.0 (renamed f m)
  new_reads = renamed_file.1

  -- the header, the sections and the lines of the instances are its canonical file
  pub renamed-canonical : (limits : Limits) → AreHeadsWithin limits m → (kept : Kept) → IsKeptUnder s m f kept → (blocks : List Block)
      → AreBlocksOf kept blocks
      → length (text_with_header kept.header blocks) ≤ limits.file_canonical
      → Each (λ (x : StoredEntry). length x.text ≤ limits.record_canonical) kept.stored
      → IsCanonicalOf s limits (renamed f m) (text_with_header kept.header blocks)
  renamed-canonical limits within kept under blocks of short lines =
      let has : HasCanonicalFile s (renamed f m) = has-canonical_file s formed renamed_file.0 (renamed f m) new_reads in
      let lexemes : List Lexeme = new_reads.in_grammar.laid.lexemes in
      let big : Limits = record {
        record_source = total lexemes;
        record_canonical = length has.bytes;
        file_source =
            length renamed_file.0;
        file_canonical = length has.bytes;
      } in
      let size = ap (λ (xs : List ℕ). length xs) has.canonical.lines in
      let accepted : IsAccepted s big renamed_file.0 = (
        renamed f m,
        record {
          reads = new_reads;
          file_within = omega arith;
          statements_within = all-within (total lexemes) 0 lexemes (omega arith);
          canonical = has.bytes;
          is_canonical = record {
            canonical = has.canonical;
            same = has.same;
            file_within = omega arith;
            lines_within = lines-short (length has.bytes) (statements has.canonical.reads.structure) (omega (arith, size));
          };
        },
      ) in
      let (parts, groups, others, complete) = accepted-ended s formed big renamed_file.0 accepted in
      let one : structure_of parts groups ≡ new_reads.structure =
      (one-tree renamed_file.0 (structure_of parts groups) new_reads.structure complete.schema_text new_reads.schema_text
      complete.in_grammar
      new_reads.in_grammar).0 in
      let are : map section_of groups ≡ new_reads.structure.sections = ap (λ (x : Structure). x.sections) one in
      let head : parts ≡ m.header = ap (λ (x : Structure). x.header) one ∙ sym new_reads.header_is in
      let head_text : flat_map line (map header parts) ≡ kept.header = ap (λ (ps : List Part). flat_map line (map header ps)) head
      ∙ sym under.header_is in
      let heads : map (λ (g : SectionEntries). g.heading) groups ≡ kept.headings = sym (group-headings groups) ∙ ap headings are
      ∙ sym new_reads.sections_are ∙ sym under.headings_are in
      let are_headings : AreHeadings (headings (map section_of groups)) = complete.in_grammar.is_file.headings_are in
      let none_ : NoneTwice (headings (map section_of groups)) =
      headings-differ (headings (map section_of groups)) are_headings
      (texts-none_twice (section_names (headings (map section_of groups))) complete.section_names_differ) in
      let none : NoneTwice (map (λ (g : SectionEntries). g.heading) groups) = subst NoneTwice (group-headings groups) none_ in
      let blocks_rise : AreRisingBlocks groups blocks = rising s formed bytes m reads f once renamed_file.0 new_reads groups are none
      complete.printed
      kept under heads (subst AreHeadings (group-headings groups) are_headings) blocks of in
      let text : file_text parts blocks ≡ text_with_header kept.header blocks = text-is parts blocks
      ∙ ap (λ (xs : List ℕ). text_with_header xs blocks) head_text in
      let text_size = ap (λ (xs : List ℕ). length xs) text in
      let wide : Limits = record {
        record_source = total complete.in_grammar.laid.lexemes;
        record_canonical =
            limits.record_canonical;
        file_source = length renamed_file.0;
        file_canonical = limits.file_canonical;
      } in
      let P : List Part → Type 0 = λ ps. Each (λ (part : Part). IsLineWithin limits (header part)) ps in
      let whole_complete : IsCompleteFile s wide renamed_file.0 parts groups blocks = record {
        schema_text = complete.schema_text;
        in_grammar = complete.in_grammar;
        names_schema = complete.names_schema;
        sections_name_schema = complete.sections_name_schema;
        section_names_differ = complete.section_names_differ;
        names_differ = complete.names_differ;
        meant = complete.meant;
        printed = complete.printed;
        served = complete.served;
        blocks_rise = blocks_rise;
        source_within = omega arith;
        statements_within = all-within (total complete.in_grammar.laid.lexemes) 0 complete.in_grammar.laid.lexemes (omega arith);
        file_within = omega (arith, text_size, short);
        sections_within = within.sections_within;
        headings_within = Each-of_members (λ (b : Block). IsLineWithin limits (section (data_start b.heading))) blocks (λ b at.
            let it = Each-member (λ (y : Block). (k : ℕ) × IsBlockAt kept k y) blocks b of.each_block at in
            let H : List Heading → Type 0 = λ hs. Contains hs b.heading in
            Each-member (λ (h : Heading). IsLineWithin limits (section (data_start h))) m.sections b.heading within.headings_within
            (subst H under.headings_are (Contains-found kept.headings it.0 b.heading it.1.0)));
        headers_within = subst P (sym head) within.headers_within;
        instances_within = Each-of_members (λ (b : Block). Each (λ (l : Line). length l.1 ≤ limits.record_canonical) b.lines) blocks
            (λ b at.
            let it = Each-member (λ (y : Block). (k : ℕ) × IsBlockAt kept k y) blocks b of.each_block at in
            Each-of_members (λ (l : Line). length l.1 ≤ limits.record_canonical) b.lines (λ l among.
            let (x, at_x, section_is, line_is) = it.1.1.1 l among in
            let L : Line → Type 0 = λ y. length y.1 ≤ limits.record_canonical in
            subst L line_is (Each-member (λ (y : StoredEntry). length y.text ≤ limits.record_canonical) kept.stored x lines at_x)));
      } in
      let (n, means, canonical_) = ended-accepted s formed wide renamed_file.0 parts groups blocks whole_complete in
      let one_meaning : n ≡ renamed f m = one-meaning s formed renamed_file.0 n (renamed f m) means.reads new_reads in
      let C : FileMeaning → Type 0 = λ x. IsCanonicalOf s wide x (file_text parts blocks) in
      let canonical : IsCanonicalOf s wide (renamed f m) (file_text parts blocks) = subst C one_meaning canonical_ in
      let T : List ℕ → Type 0 = λ x. IsCanonicalOf s limits (renamed f m) x in
      subst T text (record {
        canonical = canonical.canonical;
        same = canonical.same;
        file_within = canonical.file_within;
        lines_within =
            canonical.lines_within;
      })

  -- each canonical file of this meaning has these lines
  pub stored-within : (limits : Limits) (found : List ℕ) → IsCanonicalOf s limits (renamed f m) found → (kept : Kept)
      → IsKeptUnder s m f kept
      → Each (λ (x : StoredEntry). length x.text ≤ limits.record_canonical) kept.stored
  stored-within limits found of kept under = Each-of_members (λ (x : StoredEntry). length x.text ≤ limits.record_canonical) kept.stored own
    where
      own : (x : StoredEntry) → Contains kept.stored x → length x.text ≤ limits.record_canonical
      own x at =
          let (k, y, h, at_k, at_h, entry) = under.back x at in
          let kinds : EntitySets = entity_sets_of (renamed f m).instances in
          let n : ℕ = f k in
          let typed_ : Typed = renamed_typed f y in
          let (i, at_i, holds) = AllZip-second_member (InstanceMeans s kinds) (instances_in new_reads.structure.sections)
          (renamed f m).instances (n, typed_) new_reads.means (Contains-mapped (renamed_instance f) m.instances (k, y) at_k) in
          let st : IsCanonicalStatement s n typed_ x.text = entry.line_is in
          let printed : IsInstanceText s n i.1 x.text = record {
            kinds = kinds;
            meaning = typed_;
            means = holds.1;
            canonical = st.canonical;
            canonical_meaning = st.canonical_meaning;
            canonical_means = st.means kinds i.1 holds.1;
            same = st.same;
            is_canonical = st.is_canonical;
            text_is = st.text_is;
            laid = st.laid;
          } in
          let I : ℕ → Type 0 = λ j. Contains (instances_in new_reads.structure.sections) (j, i.1) in
          let u : Structure = of.canonical.reads.structure in
          let there : Contains (instances_in u.sections) (n, st.canonical) =
          instance-in_canonical s formed renamed_file.0 (renamed f m) new_reads found of.canonical of.same n i.1 x.text
          (subst I (sym holds.0) at_i) printed in
          let within : IsLineWithin limits (instance n st.canonical) =
          Each-member (IsLineWithin limits) (statements u) (instance n st.canonical) of.lines_within
          (among-statements u n st.canonical there) in
          let T : List ℕ → Type 0 = λ xs. length xs ≤ limits.record_canonical in
          subst T (sym st.text_is) within

  -- and no other text is one within the limits
  pub only-canonical : (limits : Limits) → AreHeadsWithin limits m → (found : List ℕ) → IsCanonicalOf s limits (renamed f m) found
      → (kept : Kept) → IsKeptUnder s m f kept
      → (blocks : List Block) → AreBlocksOf kept blocks → found ≡ text_with_header kept.header blocks
  only-canonical limits within found of kept under blocks are =
      let text : List ℕ = text_with_header kept.header blocks in
      let wide : Limits = record {
        record_source = 0;
        record_canonical = limits.record_canonical;
        file_source = 0;
        file_canonical =
            length text;
      } in
      let heads : AreHeadsWithin wide m = record {
        sections_within = within.sections_within;
        headers_within =
            within.headers_within;
        headings_within = within.headings_within;
      } in
      let other : IsCanonicalOf s wide (renamed f m) text =
      renamed-canonical wide heads kept under blocks are (omega arith) (stored-within limits found of kept under) in
      (bytes-tell s formed found text of.canonical other.canonical).0
      (SameFileMeaning-transitive of.canonical.meaning (renamed f m) other.canonical.meaning of.same
      (SameFileMeaning-symmetric other.canonical.meaning (renamed f m) other.same))
