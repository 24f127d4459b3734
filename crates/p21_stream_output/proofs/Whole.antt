-- What is written of sorted sections is the file of what is kept.
use Rattle.std.proofs.Common.{◌≡◌, ◌+◌, ◌<◌, ℕ, suc, Bool, List, [], ◌∷◌, length, map, nat_eq, Some, slice_get, refl, sym, ap, subst, ◌∙◌, arith}
use Rattle.std.proofs.lemmas.List.FromFn.{get_or-range_with_len, length-range_with_len}
use Rattle.std.proofs.lemmas.List.Sorted.{Contains-permutation, IsPermutation-map, IsPermutation-sym}
use Rattle.std.specs.Char.{IsScalar}
use Rattle.std.specs.List.{AllZip, range_with_len, AllByRecursion as Each}
use Rattle.std.specs.List.Sorted.{IsPermutation}
use Rattle.std.specs.Prelude.{Contains, filter}
use Rattle.p21_spec_basics.proofs.Members.{Contains-at, Contains-unfiltered, Each-member, Each-of_members}
use Rattle.p21_spec_laws.specs.CompleteFile.{AreLinesRising, Block, Line, block_headings}
use Rattle.p21_spec_laws.specs.Keeping.{IsBlockAt, Kept, text_with_header}
use Rattle.p21_spec_laws.specs.OutputLaws.{lines_of}
use Rattle.p21_spec_laws.specs.Stored.{AreLinesOf, StoredEntry}
use Rattle.p21_spec_exchange.specs.CanonicalText.{statement_text}
use Rattle.p21_spec_exchange.specs.DataSection.{Heading, heading_names, unnamed}
use Rattle.p21_spec_exchange.specs.Statement.{data_start, section}
use Rattle.p21_spec_file.specs.Canonical.{AreSectionsRising}
use Rattle.p21_stream_output.specs.Stored.{HavePositions, ArePositions, output_of, texts_at, written_section}
use Rattle.p21_stream_output.specs.declared.accepted.Section.{Section}
use Rattle.p21_stream_output.proofs.Blocks.{blocks-sorted}
use Rattle.p21_stream_output.proofs.Headings.{headings-rise}
use Rattle.p21_stream_output.proofs.SectionLines.{section-lines}
use Rattle.p21_stream_output.proofs.OutputLemmas.{output-is}
use Rattle.p21_stream_output.proofs.StoredPositions.{all-lines, filter-by_section, names-in_order, stored-in_order, stored_at_place, texts-of_lines}
use Rattle.p21_stream_output.proofs.Rows.{part-filed}
use Rattle.p21_stream_output.proofs.Sorting.{DoNotFall, sorted-none_falls}
use Rattle.p21_stream_output.proofs.Zipped.{zip-permuted}
use Rattle.p21_stream_output.specs.Ending.{HasNamesOnce, IsFileOfKept, IsKeptIn}
use Rattle.p21_stream_output.specs.Filing.{IsFiling, heads_of, section_positions, section_at}
use Rattle.p21_stream_output.specs.NamedSections.{AreEmpty, AreSorted, HasHeading, bodies_of, sections_bodies}
use Rattle.p21_stream_output.specs.Spelled.{spelled_name}
use Rattle.p21_stream_output.specs.Writing.{IsWrittenBlock}
use Rattle.p21_stream_output.specs.declared.named_sections.NamedSection.{NamedSection}
use Rattle.p21_stream_store.specs.Memberships.{Membership}
use Rattle.p21_stream_store.specs.StoredInstance as store

-- ---- positions are those of instances

below-range : (n p : ℕ) → Contains (range_with_len 0 n) p → p < n
below-range n p (k, within, is) =
    let many = length-range_with_len 0 n in
    let low : k < n = omega (arith, within, many) in
    let same = get_or-range_with_len 0 n k p low in
    omega (arith, low, is, same)

-- what is so of the positions of each part is so of those of each section
sections-each : (P : List ℕ → Type 0) (sections : List Section) (parts : List NamedSection) → sections_bodies sections ≡ bodies_of parts
    → Each (λ (x : NamedSection). P x.instance_positions) parts
    → Each (λ (x : Section). P x.instance_positions) sections
sections-each P [] parts same all = tt
sections-each P (x ∷ sections) [] same all = cc
sections-each P (x ∷ sections) (part ∷ parts) same all =
    let pair : (x.line.items, x.instance_positions) ≡ (part.line.items, part.instance_positions) = cc in
    let rest : sections_bodies sections ≡ bodies_of parts = cc in
    (subst P (sym (ap (λ (p : List ℕ × List ℕ). p.1) pair)) all.0, sections-each P sections parts rest all.1)

-- so is what is so of each part of their order
pub filed-each : (P : List ℕ → Type 0) (memberships : List Membership) (instances : List store.StoredInstance)
    (old filed sorted : List NamedSection) (sections : List Section) → AreEmpty old
    → (filing : IsFiling memberships instances (section_positions old) (section_positions filed)) → IsPermutation filed sorted
    → sections_bodies sections ≡ bodies_of sorted
    → ((test : ℕ → Bool) → P (filter test filing.order)) → Each (λ (x : Section). P x.instance_positions) sections
filed-each P memberships instances old filed sorted sections none filing are same holds =
    sections-each P sections sorted same (Each-of_members (λ (x : NamedSection). P x.instance_positions) sorted each)
  where
    each : (x : NamedSection) → Contains sorted x → P x.instance_positions
    each x among =
        let (i, at) = Contains-at filed x (Contains-permutation sorted filed x (IsPermutation-sym filed sorted are) among) in
        subst P (sym (part-filed (section_at memberships instances) filing.order old filed none filing.filed_ i x at))
        (holds (λ (p : ℕ). nat_eq (section_at memberships instances p) i))

pub placed : (memberships : List Membership) (instances : List store.StoredInstance) (old filed sorted : List NamedSection)
    (sections : List Section) → AreEmpty old → IsFiling memberships instances (section_positions old) (section_positions filed)
    → IsPermutation filed sorted → sections_bodies sections ≡ bodies_of sorted → HavePositions instances sections
placed memberships instances old filed sorted sections none filing are same =
    filed-each (ArePositions instances) memberships instances old filed sorted sections none filing are same
    (λ test. Each-of_members (λ (p : ℕ). p < length instances) (filter test filing.order)
    (λ p found. below-range (length instances) p (Contains-permutation filing.order (range_with_len 0 (length instances)) p
    (IsPermutation-sym (range_with_len 0 (length instances)) filing.order filing.instance_positions)
    (Contains-unfiltered test filing.order p found))))

-- ---- a block for each section

record IsPartOf (instances : List store.StoredInstance) (part : NamedSection) (b : Block) : Type 0 where
  name_is : part.name.items ≡ spelled_name b.heading
  line_is : part.line.items ≡ statement_text (section (data_start b.heading))
  characters : Each (Each IsScalar) (heading_names b.heading)
  texts_are : texts_at instances part.instance_positions ≡ map (λ (l : Line). l.1) b.lines

abbrev lines_at : (ℕ → StoredEntry) → List ℕ → ℕ → List Line
lines_at at order number = lines_of (map at (filter (λ (p : ℕ). nat_eq (at p).section number) order))

abbrev blocks_from : (ℕ → StoredEntry) → List ℕ → ℕ → List Heading → List Block
blocks_from at order number [] = []
blocks_from at order number (heading ∷ headings) =
    record { heading = heading; lines = lines_at at order number } ∷ blocks_from at order (number + 1) headings

blocks-of_parts : (memberships : List Membership) (instances : List store.StoredInstance) (order : List ℕ) (number : ℕ)
    (headings : List Heading) (old new : List NamedSection) → AllZip HasHeading headings old → heads_of new ≡ heads_of old
    → ((i : ℕ) (part : NamedSection) → slice_get new i ≡ Some part
    → part.instance_positions ≡ filter (λ (p : ℕ). nat_eq (section_at memberships instances p) (number + i)) order)
    → AllZip (IsPartOf instances) new (blocks_from (stored_at_place memberships instances) order number headings)
blocks-of_parts memberships instances order number [] [] [] all same rows = tt
blocks-of_parts memberships instances order number [] [] (new ∷ news) all same rows = cc
blocks-of_parts memberships instances order number [] (old ∷ olds) news all same rows = absurd all
blocks-of_parts memberships instances order number (heading ∷ headings) [] news all same rows = absurd all
blocks-of_parts memberships instances order number (heading ∷ headings) (old ∷ olds) [] all same rows = cc
blocks-of_parts memberships instances order number (heading ∷ headings) (old ∷ olds) (new ∷ news) all same rows =
    let pair : (new.name.items, new.line.items) ≡ (old.name.items, old.line.items) = cc in
    let rest : heads_of news ≡ heads_of olds = cc in
    let first : number + 0 ≡ number = omega arith in
    let instance_positions : new.instance_positions ≡ filter (λ (p : ℕ). nat_eq (section_at memberships instances p) number) order =
    rows 0 new refl ∙ ap (λ (n : ℕ). filter (λ (p : ℕ). nat_eq (section_at memberships instances p) n) order) first in (
      record {
        name_is = ap (λ (p : List ℕ × List ℕ). p.0) pair ∙ all.0.name_is;
        line_is = ap (λ (p : List ℕ × List ℕ). p.1) pair ∙ all.0.line_is;
        characters = all.0.characters;
        texts_are =
            ap (texts_at instances) (instance_positions ∙ filter-by_section memberships instances number order)
            ∙ texts-of_lines memberships instances (filter (λ (p : ℕ). nat_eq (stored_at_place memberships instances p).section number)
            order);
      },
      blocks-of_parts memberships instances order (number + 1) headings olds news all.1 rest
          (λ i part at. let next : number + suc i ≡ number + 1 + i = omega arith in rows (suc i) part at
          ∙ ap (λ (n : ℕ). filter (λ (p : ℕ). nat_eq (section_at memberships instances p) n) order) next),
    )

blocks-numbered : (kept : Kept) (at : ℕ → StoredEntry) (order : List ℕ)
    → ((number : ℕ) → AreLinesOf kept.stored number (lines_at at order number)) → (number : ℕ) (headings : List Heading)
    → ((i : ℕ) (heading : Heading) → slice_get headings i ≡ Some heading → slice_get kept.headings (number + i) ≡ Some heading)
    → AllZip (IsBlockAt kept) (range_with_len number (length headings)) (blocks_from at order number headings)
blocks-numbered kept at order lines number [] here = tt
blocks-numbered kept at order lines number (heading ∷ headings) here =
    let first : number + 0 ≡ number = omega arith in (
      (ap (slice_get kept.headings) (sym first) ∙ here 0 heading refl, lines number),
      blocks-numbered kept at order lines (number + 1) headings
          (λ i h is. let next : number + 1 + i ≡ number + suc i = omega arith in ap (slice_get kept.headings) next ∙ here (suc i) h is),
    )

blocks-many : (at : ℕ → StoredEntry) (order : List ℕ) (number : ℕ) (headings : List Heading)
    → length (blocks_from at order number headings) ≡ length headings
blocks-many at order number [] = refl
blocks-many at order number (heading ∷ headings) = ap suc (blocks-many at order (number + 1) headings)

blocks-headings : (at : ℕ → StoredEntry) (order : List ℕ) (number : ℕ) (headings : List Heading)
    → block_headings (blocks_from at order number headings) ≡ headings
blocks-headings at order number [] = refl
blocks-headings at order number (heading ∷ headings) =
    ap (λ (hs : List Heading). heading ∷ hs) (blocks-headings at order (number + 1) headings)

blocks-rise : (at : ℕ → StoredEntry) (order : List ℕ)
    → ((number : ℕ) → AreLinesRising (record { heading = unnamed; lines = lines_at at order number }))
    → (number : ℕ) (headings : List Heading) → Each AreLinesRising (blocks_from at order number headings)
blocks-rise at order rise number [] = tt
blocks-rise at order rise number (heading ∷ headings) = (rise number, blocks-rise at order rise (number + 1) headings)

-- ---- in their order

parts-written : (instances : List store.StoredInstance) (sections : List Section) (parts : List NamedSection) (blocks : List Block)
    → sections_bodies sections ≡ bodies_of parts → AllZip (IsPartOf instances) parts blocks
    → AllZip IsWrittenBlock (map (written_section instances) sections) blocks
parts-written instances [] [] [] same all = tt
parts-written instances [] [] (b ∷ blocks) same all = absurd all
parts-written instances [] (part ∷ parts) blocks same all = cc
parts-written instances (x ∷ sections) [] blocks same all = cc
parts-written instances (x ∷ sections) (part ∷ parts) [] same all = absurd all
parts-written instances (x ∷ sections) (part ∷ parts) (b ∷ blocks) same all =
    let pair : (x.line.items, x.instance_positions) ≡ (part.line.items, part.instance_positions) = cc in
    let rest : sections_bodies sections ≡ bodies_of parts = cc in (
      record {
        line_is = ap (λ (p : List ℕ × List ℕ). p.0) pair
            ∙ all.0.line_is;
        texts_are = ap (λ (p : List ℕ × List ℕ). texts_at instances p.1) pair ∙ all.0.texts_are;
      },
      parts-written instances
          sections parts blocks rest all.1,
    )

names-are : (instances : List store.StoredInstance) (parts : List NamedSection) (blocks : List Block)
    → AllZip (IsPartOf instances) parts blocks → map (λ (x : NamedSection). x.name.items) parts ≡ map spelled_name (block_headings blocks)
names-are instances [] [] all = refl
names-are instances [] (b ∷ blocks) all = absurd all
names-are instances (part ∷ parts) [] all = absurd all
names-are instances (part ∷ parts) (b ∷ blocks) all = ap (λ (n : List ℕ). n ∷ map (λ (x : NamedSection). x.name.items) parts) all.0.name_is
    ∙ ap (λ (ns : List (List ℕ)). spelled_name b.heading ∷ ns) (names-are instances parts blocks all.1)

characters-are : (instances : List store.StoredInstance) (parts : List NamedSection) (blocks : List Block)
    → AllZip (IsPartOf instances) parts blocks → Each (λ (h : Heading). Each (Each IsScalar) (heading_names h)) (block_headings blocks)
characters-are instances [] [] all = tt
characters-are instances [] (b ∷ blocks) all = absurd all
characters-are instances (part ∷ parts) [] all = absurd all
characters-are instances (part ∷ parts) (b ∷ blocks) all = (all.0.characters, characters-are instances parts blocks all.1)

pub ended : (kept : Kept) (header : List ℕ) (old filed sorted : List NamedSection) (memberships : List Membership)
    (instances : List store.StoredInstance) (sections : List Section) (statement : ℕ) → AreEmpty old → heads_of filed ≡ heads_of old
    → IsFiling memberships instances (section_positions old) (section_positions filed) → IsPermutation filed sorted → AreSorted sorted
    → sections_bodies sections ≡ bodies_of sorted → IsKeptIn kept header old memberships instances → HasNamesOnce kept
    → IsFileOfKept kept (output_of header sections instances statement)
ended kept header old filed sorted memberships instances sections statement none heads filing are in_order same stands once = record {
  blocks = blocks;
  are_blocks = blocks-sorted kept source blocks numbered (blocks-many at filing.order 0 kept.headings) moved.1 rise lines_rise;
  text_is = output-is header (map (written_section instances) sections) blocks (parts-written instances sections sorted blocks same moved.2)
      ∙ ap (λ (h : List ℕ). text_with_header h blocks) (sym stands.header_is);
  lines_are = all-lines memberships instances ∙ ap lines_of (sym stands.stored_is);
}
  where
    at : ℕ → StoredEntry
    at = stored_at_place memberships instances

    source : List Block
    source = blocks_from at filing.order 0 kept.headings

    lines : (number : ℕ) → AreLinesOf kept.stored number (lines_at at filing.order number)
        × AreLinesRising (record { heading = unnamed; lines = lines_at at filing.order number })
    lines number =
        let P : List StoredEntry → Type 0 = λ xs. IsPermutation xs (map at filing.order) in
        section-lines kept.stored once.instances at filing.order
        (subst P (sym stands.stored_is) (stored-in_order memberships instances filing.order filing.instance_positions))
        (names-in_order memberships instances filing.order filing.rises) number

    numbered : AllZip (IsBlockAt kept) (range_with_len 0 (length kept.headings)) source
    numbered = blocks-numbered kept at filing.order (λ number. (lines number).0) 0 kept.headings
        (λ i h is. let first : 0 + i ≡ i = omega arith in ap (slice_get kept.headings) first ∙ is)

    beside : AllZip (IsPartOf instances) filed source
    beside =
        blocks-of_parts memberships instances filing.order 0 kept.headings old filed stands.begins heads
        (λ i part is. let first : i ≡ 0 + i = omega arith in
        part-filed (section_at memberships instances) filing.order old filed none filing.filed_ i part is
        ∙ ap (λ (n : ℕ). filter (λ (p : ℕ). nat_eq (section_at memberships instances p) n) filing.order) first)

    moved : (zs : List Block) × IsPermutation source zs × AllZip (IsPartOf instances) sorted zs
    moved = zip-permuted (IsPartOf instances) filed sorted source beside are

    blocks : List Block
    blocks = moved.0

    rise : AreSectionsRising (block_headings blocks)
    rise =
        let P : List Heading → Type 0 = λ hs. IsPermutation hs (block_headings blocks) in
        headings-rise kept.headings (block_headings blocks)
        (subst P (blocks-headings at filing.order 0 kept.headings) (IsPermutation-map (λ (b : Block). b.heading) source blocks moved.1))
        once.sections
        (characters-are instances sorted blocks moved.2) (subst DoNotFall (names-are instances sorted blocks moved.2)
        (sorted-none_falls (λ (x : NamedSection). x.name.items) sorted in_order))

    lines_rise : Each AreLinesRising blocks
    lines_rise = Each-of_members AreLinesRising blocks
        (λ b among. Each-member AreLinesRising source b (blocks-rise at filing.order (λ number. (lines number).1) 0 kept.headings)
        (Contains-permutation blocks source b (IsPermutation-sym source blocks moved.1) among))
