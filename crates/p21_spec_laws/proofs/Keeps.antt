-- What a session keeps, with each statement more, and at the end.
use Rattle.std.specs.Prelude.{◌≡◌, ◌<◌, ◌⊎◌, ℕ, suc, zero, List, [], ◌∷◌, ◌++◌, map, length, refl, slice_get, Some, Contains, IsTrue, ◌↔◌}
use Rattle.std.specs.List.{flat_map, AllByRecursion as Each}
use Rattle.std.proofs.Common.{arith, ap, sym, subst, ◌∙◌, inl, inr, append_assoc, append-nil, length-append}
use Rattle.std.proofs.lemmas.Grind.{flat_map-append}
use Rattle.std.proofs.lemmas.List.{length-map, map-append}
use Rattle.std.proofs.lemmas.List.Sorted.{IsPermutation-refl, length_permutation}
use Rattle.p21_spec_basics.proofs.Members.{Contains-at, Contains-found, Contains-mapped, Each-append, Each-back, Each-front, Each-of_members, Each-weaker}
use Rattle.p21_spec_basics.specs.Limits.{Limits}
use Rattle.p21_spec_laws.proofs.Ending.{group-headings}
use Rattle.p21_spec_laws.specs.CompleteFile.{AreRisingBlocks, Block, Entry, SectionEntries, block_bytes, entries_in, file_text, entity_sets_in}
use Rattle.p21_spec_laws.specs.Taken.{headings_among, section_names_among}
use Rattle.p21_spec_laws.proofs.Among.{instance-in_section, parts-append}
use Rattle.p21_spec_laws.proofs.Growing.{entries-by_entry, entries-by_line}
use Rattle.p21_spec_laws.proofs.Growth.{groups-of_unrefused, unrefused-at_start, unrefused-by_header, unrefused-by_instance, unrefused-by_line, canonical_size-of_unrefused, names-of_unrefused, size-by_header, size-by_instance, size-by_line}
use Rattle.p21_spec_laws.proofs.Holding.{unrefused-held, references-counted, references-few}
use Rattle.p21_spec_laws.proofs.Rising.{rising-exists}
use Rattle.p21_spec_laws.proofs.Storing.{blocks-of_groups, none-stored, none-stored_unknown, store-at_start, store-by_entry, store-by_line, stored-entry, stored-lines, stored-serves, stored-unfit}
use Rattle.p21_spec_laws.proofs.Waits.{none-waits, served-further, waiting-at_start, waiting-by_instance}
use Rattle.p21_spec_laws.proofs.Whole.{unrefused-accepted, unrefused-headings, unrefused-text_size, unserved-not_accepted}
use Rattle.p21_spec_laws.specs.Among.{parts_among, sections_among}
use Rattle.p21_spec_laws.specs.UnrefusedStatements.{section_entries_behind, canonical_size, numbered_entries_in, with_entry}
use Rattle.p21_spec_laws.specs.Keeping.{AreBlocksOf, IsBlockAt, IsServedBy, Keeps, Kept, headings_behind, text_with_header}
use Rattle.p21_spec_laws.specs.KeepingLaws.{KeepsAtStart, KeepsByHeader, KeepsByInstance, KeepsBySectionLine, KeepsFewReferences, KeptHasCanonicalFile, KeptHasLines, KeptIsAccepted, KeptIsHeld, KeepsInstanceNames, KeepsSectionOfInstance, KeepsSectionNames, KeepsFileSize, KeptTextSize, KeptUnservedIsNotAccepted}
use Rattle.p21_spec_laws.specs.Stored.{IsAmongEarlier, IsBlockOf, IsStore, KeptLines, stored_in, stored_of, with_lines}
use Rattle.p21_spec_laws.specs.Waiting.{IsWaiting, Reference, references_in, references_of}
use Rattle.p21_spec_exchange.specs.CanonicalText.{line}
use Rattle.p21_spec_exchange.specs.DataSection.{Heading, headings, section_names}
use Rattle.p21_spec_exchange.specs.Grammar.{IsFile}
use Rattle.p21_spec_exchange.specs.Laying.{Laid}
use Rattle.p21_spec_exchange.specs.Record.{Part}
use Rattle.p21_spec_exchange.specs.Statement.{SectionLine, Statement, begin, data_start, finish, header, header_start, instance, section, section_end}
use Rattle.p21_spec_exchange.specs.Structure.{Structure, statements}
use Rattle.p21_spec_exchange.specs.Token.{Token}
use Rattle.p21_spec_file.specs.Accepted.{IsCanonicalFile}
use Rattle.p21_spec_file.specs.Held.{IsHeld}
use Rattle.p21_spec_file.specs.Reference.{IsServed, Need}
use Rattle.p21_spec_schema.specs.Schema.{Schema}

-- ---- headings

headings-apart : (sts : List Statement) → headings_among sts ≡ headings (sections_among sts)
headings-apart [] = refl
headings-apart (section (data_start h) ∷ sts) = ap (λ (hs : List Heading). h ∷ hs) (headings-apart sts)
headings-apart (section begin ∷ sts) = headings-apart sts
headings-apart (section header_start ∷ sts) = headings-apart sts
headings-apart (section section_end ∷ sts) = headings-apart sts
headings-apart (section finish ∷ sts) = headings-apart sts
headings-apart (header part ∷ sts) = headings-apart sts
headings-apart (instance n r ∷ sts) = headings-apart sts

pub keeps-section_names : KeepsSectionNames
keeps-section_names s limits given kept keeps =
    ap section_names (headings-apart given ∙ ap headings keeps.unrefused.sections_are ∙ group-headings keeps.groups ∙ sym keeps.headings_are)

headings-by_line : (groups : List SectionEntries) (line_ : SectionLine) → headings_behind (map (λ (g : SectionEntries). g.heading) groups) line_ ≡ map (λ (g : SectionEntries). g.heading) (section_entries_behind groups line_)
headings-by_line groups (data_start h) = sym (map-append (λ (g : SectionEntries). g.heading) groups (record { heading = h; entries = [] } ∷ []))
headings-by_line groups other = refl

headings-by_entry : (groups : List SectionEntries) (e : Entry) → map (λ (g : SectionEntries). g.heading) (with_entry groups e) ≡ map (λ (g : SectionEntries). g.heading) groups
headings-by_entry [] e = refl
headings-by_entry (g ∷ []) e = refl
headings-by_entry (g ∷ next ∷ more) e = ap (λ (hs : List Heading). g.heading ∷ hs) (headings-by_entry (next ∷ more) e)

-- as many as groups
pub headings-many : (s : Schema) (limits : Limits) (given : List Statement) (kept : Kept) (keeps : Keeps s limits given kept) → length kept.headings ≡ length keeps.groups
headings-many s limits given kept keeps = ap length keeps.headings_are ∙ length-map keeps.groups (λ (g : SectionEntries). g.heading)

-- ---- one statement more

pub keeps-at_start : KeepsAtStart
keeps-at_start s limits lines = record {
  groups = [];
  unrefused = unrefused-at_start s limits;
  header_is = refl;
  headings_are = refl;
  store = store-at_start lines;
  waits = waiting-at_start s;
  references_are = refl;
  bytes_are = refl;
  framing_is = refl;
  equal_is = (λ up. tt, λ each. refl);
}

pub keeps-by_line : KeepsBySectionLine
keeps-by_line s limits given kept keeps line_ fits other within =
    let groups : List SectionEntries = keeps.groups in
    let size = size-by_line given groups line_ in
    let framed = size.1 in
    let bytes_are = keeps.bytes_are in
    let framing_is = keeps.framing_is in
    let N : List (List ℕ) → Type 0 = λ names. (name : List ℕ) → Contains (section_names_among (section line_ ∷ [])) name → ¬ Contains names name in
    let E : List Entry → Type 0 = λ es. IsWaiting s es kept.waiting in
    record {
      groups = section_entries_behind groups line_;
      unrefused = unrefused-by_line s limits given groups keeps.unrefused line_ fits (subst N (sym (keeps-section_names s limits given kept keeps)) other) (omega (arith, bytes_are, framing_is, within));
      header_is = keeps.header_is ∙ ap (λ (ps : List Part). flat_map line (map header ps)) (sym (parts-append given (section line_ ∷ []) ∙ append-nil (parts_among given)));
      headings_are = ap (λ (hs : List Heading). headings_behind hs line_) keeps.headings_are ∙ headings-by_line groups line_;
      store = store-by_line kept.lines groups kept.stored keeps.store line_;
      waits = subst E (sym (entries-by_line groups line_)) keeps.waits;
      references_are = keeps.references_are ∙ ap (λ (es : List Entry). length (references_in es)) (sym (entries-by_line groups line_));
      bytes_are = bytes_are ∙ sym size.0;
      framing_is = omega (arith, framing_is, framed);
      equal_is = subst (λ (es : List Entry). IsTrue kept.equal ↔ Each (λ (e : Entry). IsAmongEarlier kept.lines (e.name, e.text)) es) (sym (entries-by_line groups line_)) keeps.equal_is;
    }

pub keeps-by_header : KeepsByHeader
keeps-by_header s limits given kept keeps part fits within =
    let groups : List SectionEntries = keeps.groups in
    let size = size-by_header given groups part in
    let whole = size.0 in
    let framed = size.1 in
    let bytes_are = keeps.bytes_are in
    let framing_is = keeps.framing_is in
    let parts : parts_among (given ++ (header part ∷ [])) ≡ parts_among given ++ (part ∷ []) = parts-append given (header part ∷ []) in
    record {
      groups = groups;
      unrefused = unrefused-by_header s limits given groups keeps.unrefused part fits (omega (arith, bytes_are, framing_is, within));
      header_is = ap (λ (xs : List ℕ). xs ++ line (header part)) keeps.header_is
          ∙ ap (λ (xs : List ℕ). flat_map line (map header (parts_among given)) ++ xs) (sym (append-nil (line (header part))))
          ∙ sym (flat_map-append line (map header (parts_among given)) (header part ∷ []))
          ∙ ap (flat_map line) (sym (map-append header (parts_among given) (part ∷ [])))
          ∙ ap (λ (ps : List Part). flat_map line (map header ps)) (sym parts);
      headings_are = keeps.headings_are;
      store = keeps.store;
      waits = keeps.waits;
      references_are = keeps.references_are;
      bytes_are = omega (arith, bytes_are, whole);
      framing_is = omega (arith, framing_is, framed);
      equal_is = keeps.equal_is;
    }

pub keeps-by_instance : KeepsByInstance
keeps-by_instance s limits given kept keeps entry found other added are others number last stored pushed equal is_equal within =
    let groups : List SectionEntries = keeps.groups in
    let entries : List Entry = entries_in groups in
    let many = headings-many s limits given kept keeps in
    let last_ : suc number ≡ length groups = last ∙ many in
    let some : 0 < length groups = omega (arith, last_) in
    let size = size-by_instance given groups entry some in
    let whole = size.0 in
    let framed = size.1 in
    let bytes_are = keeps.bytes_are in
    let framing_is = keeps.framing_is in
    let more : entries_in (with_entry groups entry) ≡ entries ++ (entry ∷ []) = entries-by_entry groups entry some in
    let S : Need → Type 0 = λ need. IsServed s (entity_sets_in (entries ++ (entry ∷ []))) need in
    let served : Each (λ (need : Need). Contains added need ⊎ S need) entry.needs = Each-weaker (λ (need : Need). Contains added need ⊎ IsServedBy s kept.stored need) (λ (need : Need). Contains added need ⊎ S need) (λ need it. elim it [
      | inl h ↦ inl h
      | inr h ↦ inr (served-further s entries (entry ∷ []) need (stored-serves s kept.lines groups kept.stored keeps.store need h.0 h.1 h.2 h.3))
    ]) entry.needs others in
    let E : List Entry → Type 0 = λ es. IsWaiting s es (kept.waiting ++ map (λ (need : Need). (entry.name, need)) added) in
    let references_are = keeps.references_are in
    let needs : length (references_in (entries_in (with_entry groups entry))) ≡ length (references_in (entries ++ (entry ∷ []))) = ap (λ (es : List Entry). length (references_in es)) more in
    let joined : length (references_in (entries ++ (entry ∷ []))) ≡ length (references_in entries ++ (references_of entry ++ [])) = ap length (flat_map-append references_of entries (entry ∷ [])) in
    let long = length-append (references_in entries) (references_of entry ++ []) in
    let tail = length-append (references_of entry) [] in
    let own = length-map {B = Reference} entry.needs (λ (need : Need). (entry.name, need)) in
    let A : Entry → Type 0 = λ e. IsAmongEarlier kept.lines (e.name, e.text) in
    record {
      groups = with_entry groups entry;
      unrefused = unrefused-by_instance s limits given groups keeps.unrefused entry found some (none-stored kept.lines groups kept.stored keeps.store entry.name other) (omega (arith, bytes_are, framing_is, within));
      header_is = keeps.header_is ∙ ap (λ (ps : List Part). flat_map line (map header ps)) (sym (parts-append given (instance entry.name entry.record_ ∷ []) ∙ append-nil (parts_among given)));
      headings_are = keeps.headings_are ∙ sym (headings-by_entry groups entry);
      store = store-by_entry kept.lines groups kept.stored stored keeps.store number entry last_ pushed;
      waits = subst E (sym more) (waiting-by_instance s entries kept.waiting keeps.waits entry added are served);
      references_are = omega (arith, references_are, needs, joined, long, tail, own);
      bytes_are = omega (arith, bytes_are, whole);
      framing_is = omega (arith, framing_is, framed);
      equal_is = (
        λ up. subst (Each A) (sym more) (Each-append A entries (entry ∷ []) (keeps.equal_is.0 (is_equal.0 up).0) ((is_equal.0 up).1, tt)),
        λ each.
            let all : Each A (entries ++ (entry ∷ [])) = subst (Each A) more each in
            is_equal.1 (keeps.equal_is.1 (Each-front A entries (entry ∷ []) all), (Each-back A entries (entry ∷ []) all).0),
      );
    }

pub keeps-section : KeepsSectionOfInstance
keeps-section s limits given kept keeps n r t first =
    let some = instance-in_section given n r t first in
    let groups = groups-of_unrefused s limits given keeps.groups keeps.unrefused in
    let many = headings-many s limits given kept keeps in
    omega (arith, some, groups, many)

-- ---- refusals

pub keeps-size : KeepsFileSize
keeps-size s limits given kept keeps =
    let bytes_are = keeps.bytes_are in
    let framing_is = keeps.framing_is in
    let within = keeps.unrefused.size_within in
    ((canonical_size given keeps.groups, canonical_size-of_unrefused s limits given keeps.groups keeps.unrefused, omega (arith, bytes_are, framing_is)), omega (arith, bytes_are, framing_is, within))

pub keeps-names : KeepsInstanceNames
keeps-names s limits given kept keeps x among =
    let (e, at, name, entities, text) = stored-entry kept.lines keeps.groups kept.stored keeps.store x among in
    let P : List ℕ → Type 0 = λ ns. Contains ns x.name in
    let Q : ℕ → Type 0 = λ n. Contains (map (λ (y : Entry). y.name) (entries_in keeps.groups)) n in
    subst P (sym (names-of_unrefused s limits given keeps.groups keeps.unrefused)) (subst Q name (Contains-mapped (λ (y : Entry). y.name) (entries_in keeps.groups) e at))

pub keeps-unserved : KeptUnservedIsNotAccepted
keeps-unserved s formed limits bytes given kept keeps t same laid reference among (inl none) =
    unserved-not_accepted s formed limits bytes given keeps.groups keeps.unrefused t same laid kept.waiting keeps.waits reference 56 among (none-stored_unknown s kept.lines keeps.groups kept.stored keeps.store reference none)
keeps-unserved s formed limits bytes given kept keeps t same laid reference among (inr (x, at, name, none)) =
    unserved-not_accepted s formed limits bytes given keeps.groups keeps.unrefused t same laid kept.waiting keeps.waits reference 57 among (stored-unfit s kept.lines keeps.groups kept.stored keeps.store reference x at name none)

-- ---- what is held, and the end

pub keeps-held : KeptIsHeld
keeps-held s limits bytes given kept keeps pending depth is open_ ended t text is_file first =
    let K : ℕ → Type 0 = λ k. IsHeld s bytes (record { pending = pending; depth = depth; kept = k; needs = kept.references }) in
    let N : ℕ → Type 0 = λ n. IsHeld s bytes (record { pending = pending; depth = depth; kept = canonical_size given keeps.groups; needs = n }) in
    subst K (sym keeps.bytes_are) (subst N (sym keeps.references_are) (unrefused-held s limits bytes given keeps.groups keeps.unrefused pending depth is open_ ended t text is_file first))

pub keeps-few : KeepsFewReferences
keeps-few s limits given kept keeps =
    let few = references-few given in
    let counted = references-counted s limits given keeps.groups keeps.unrefused in
    let are = keeps.references_are in
    omega (arith, few, counted, are)

at-mapped : (groups : List SectionEntries) (k : ℕ) (h : Heading) → slice_get (map (λ (g : SectionEntries). g.heading) groups) k ≡ Some h → (g : SectionEntries) × (slice_get groups k ≡ Some g) × (g.heading ≡ h)
at-mapped [] k h at = cc
at-mapped (g ∷ gs) zero h at = (g, refl, let same : g.heading ≡ h = cc in same)
at-mapped (g ∷ gs) (suc k) h at = at-mapped gs k h at

mapped-at : (groups : List SectionEntries) (k : ℕ) (g : SectionEntries) → slice_get groups k ≡ Some g → slice_get (map (λ (x : SectionEntries). x.heading) groups) k ≡ Some g.heading
mapped-at [] k g at = cc
mapped-at (x ∷ gs) zero g at = let same : x ≡ g = cc in ap (λ (y : SectionEntries). Some y.heading) same
mapped-at (x ∷ gs) (suc k) g at = mapped-at gs k g at

-- the blocks are those of the groups
rising-blocks : (s : Schema) (limits : Limits) (given : List Statement) (kept : Kept) (keeps : Keeps s limits given kept) (t : Structure) (text : List ℕ) → IsFile t text → statements t ≡ given → kept.lines ≡ with_lines → (blocks : List Block) → AreBlocksOf kept blocks → AreRisingBlocks keeps.groups blocks
rising-blocks s limits given kept keeps t text is_file same lines blocks are =
    let groups : List SectionEntries = keeps.groups in
    let store : IsStore with_lines groups kept.stored = subst (λ (b : KeptLines). IsStore b groups kept.stored) lines keeps.store in
    let H : List Heading → ℕ → Heading → Type 0 = λ hs k h. slice_get hs k ≡ Some h in
    let to : (b : Block) → ((number : ℕ) × IsBlockAt kept number b) → (g : SectionEntries) × Contains groups g × IsBlockOf g b = λ b it.
    let (g, at_g, heading) = at-mapped groups it.0 b.heading (subst (λ (hs : List Heading). H hs it.0 b.heading) keeps.headings_are it.1.0) in
    (g, Contains-found groups it.0 g at_g, (sym heading, stored-lines groups kept.stored store it.0 g at_g b.lines it.1.1)) in
    let from : (g : SectionEntries) → Contains groups g → (b : Block) × Contains blocks b × IsBlockOf g b = λ g among.
    let (k, at_g) = Contains-at groups g among in
    let at_h : slice_get kept.headings k ≡ Some g.heading = subst (λ (hs : List Heading). H hs k g.heading) (sym keeps.headings_are) (mapped-at groups k g at_g) in
    let (b, at_b, is) = are.each_section k g.heading at_h in
    let heading : b.heading ≡ g.heading = (let both : Some b.heading ≡ Some g.heading = sym is.0 ∙ at_h in cc) in
    (b, at_b, (heading, stored-lines groups kept.stored store k g at_g b.lines is.1)) in
    blocks-of_groups groups blocks (unrefused-headings s limits given groups keeps.unrefused t text is_file same) (are.as_many ∙ headings-many s limits given kept keeps)
    (Each-weaker (λ (b : Block). (number : ℕ) × IsBlockAt kept number b) (λ (b : Block). (g : SectionEntries) × Contains groups g × IsBlockOf g b) to blocks are.each_block)
    (Each-of_members (λ (g : SectionEntries). (b : Block) × Contains blocks b × IsBlockOf g b) groups from)
    are.sections_rise are.lines_rise

-- the text by its header lines
text-is : (parts : List Part) (blocks : List Block) → file_text parts blocks ≡ text_with_header (flat_map line (map header parts)) blocks
text-is parts blocks =
    let first : List ℕ = line (section begin) in
    let second : List ℕ = line (section header_start) in
    let ending : List ℕ = line (section section_end) in
    let middle : List ℕ = flat_map line (map header parts ++ (section section_end ∷ [])) in
    let rest : List ℕ = flat_map block_bytes blocks ++ line (section finish) in
    let headers : List ℕ = flat_map line (map header parts) in
    append_assoc first (second ++ middle) rest
    ∙ ap (λ (xs : List ℕ). first ++ xs) (
    append_assoc second middle rest
    ∙ ap (λ (xs : List ℕ). second ++ xs) (
    ap (λ (xs : List ℕ). xs ++ rest) (flat_map-append line (map header parts) (section section_end ∷ []))
    ∙ append_assoc headers (ending ++ []) rest
    ∙ ap (λ (xs : List ℕ). headers ++ (xs ++ rest)) (append-nil ending)
    )
    )

pub kept-text : (s : Schema) (limits : Limits) (given : List Statement) (kept : Kept) → Keeps s limits given kept → (blocks : List Block) → file_text (parts_among given) blocks ≡ text_with_header kept.header blocks
kept-text s limits given kept keeps blocks = text-is (parts_among given) blocks ∙ ap (λ (xs : List ℕ). text_with_header xs blocks) (sym keeps.header_is)

-- those that wait are served among the instances
pub all-served : (s : Schema) (limits : Limits) (given : List Statement) (kept : Kept) (keeps : Keeps s limits given kept) → Each (λ (r : Reference). IsServedBy s kept.stored r.1) kept.waiting → Each (λ (r : Reference). IsServed s (entity_sets_in (entries_in keeps.groups)) r.1) kept.waiting
all-served s limits given kept keeps served = Each-weaker (λ (r : Reference). IsServedBy s kept.stored r.1) (λ (r : Reference). IsServed s (entity_sets_in (entries_in keeps.groups)) r.1)
    (λ r it. stored-serves s kept.lines keeps.groups kept.stored keeps.store r.1 it.0 it.1 it.2 it.3) kept.waiting served

pub keeps-accepted : KeptIsAccepted
keeps-accepted s formed limits bytes given kept keeps t text is_file same tokens tokens_are laid within short served lines blocks are =
    let groups : List SectionEntries = keeps.groups in
    let P : List ℕ → Type 0 = λ x. IsCanonicalFile s limits bytes x in
    let all = all-served s limits given kept keeps served in
    subst P (kept-text s limits given kept keeps blocks)
    (unrefused-accepted s formed limits bytes given groups blocks keeps.unrefused t text is_file same tokens tokens_are laid within short kept.waiting keeps.waits all (rising-blocks s limits given kept keeps t text is_file same lines blocks are))

pub keeps-text_size : KeptTextSize
keeps-text_size s limits given kept keeps t text is_file same lines blocks are =
    let size = unrefused-text_size s limits given keeps.groups blocks keeps.unrefused t text is_file same (rising-blocks s limits given kept keeps t text is_file same lines blocks are) in
    let texts = ap length (kept-text s limits given kept keeps blocks) in
    let bytes_are = keeps.bytes_are in
    let framing_is = keeps.framing_is in
    omega (arith, size, texts, bytes_are, framing_is)

-- ---- the end, whether lines are kept or not

pub keeps-file : KeptHasCanonicalFile
keeps-file s formed limits bytes given kept keeps t text is_file same tokens tokens_are laid within short served =
    let groups : List SectionEntries = keeps.groups in
    let P : List ℕ → Type 0 = λ x. IsCanonicalFile s limits bytes x in
    let all = all-served s limits given kept keeps served in
    let (blocks, rising) = rising-exists s formed limits bytes given groups keeps.unrefused t text is_file same (subst (λ (ts : List Token). Laid bytes ts) (sym tokens_are) laid) (none-waits s (entries_in groups) kept.waiting keeps.waits all) in
    let size = unrefused-text_size s limits given groups blocks keeps.unrefused t text is_file same rising in
    let texts = ap length (kept-text s limits given kept keeps blocks) in
    let bytes_are = keeps.bytes_are in
    let framing_is = keeps.framing_is in (
      blocks,
      subst P (kept-text s limits given kept keeps blocks) (unrefused-accepted s formed limits bytes given groups blocks keeps.unrefused t text is_file same tokens tokens_are laid within short kept.waiting keeps.waits all rising),
      omega (arith, size, texts, bytes_are, framing_is),
    )

pub keeps-lines : KeptHasLines
keeps-lines s limits given kept keeps =
    let groups : List SectionEntries = keeps.groups in
    let full = length-map (numbered_entries_in groups) (stored_of with_lines) in
    let own = length-map (numbered_entries_in groups) (stored_of kept.lines) in
    let many = length_permutation (stored_in kept.lines groups) kept.stored keeps.store in (
      stored_in with_lines groups,
      record {
        groups = groups;
        unrefused = keeps.unrefused;
        header_is = keeps.header_is;
        headings_are = keeps.headings_are;
        store = IsPermutation-refl (stored_in with_lines groups);
        waits = keeps.waits;
        references_are = keeps.references_are;
        bytes_are = keeps.bytes_are;
        framing_is = keeps.framing_is;
        equal_is = (λ up. Each-of_members (λ (e : Entry). IsAmongEarlier with_lines (e.name, e.text)) (entries_in groups) (λ e among. tt), λ each. refl);
      },
      omega (arith, full, own, many),
    )
