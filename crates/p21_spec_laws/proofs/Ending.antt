-- The laws at the end of a file.
use Rattle.std.specs.Prelude.{◌≡◌, ◌≤◌, ℕ, List, [], ◌∷◌, ◌++◌, map, length, Contains, nat_eq, refl}
use Rattle.std.specs.List.{AllZip, IsDistinct, flat_map, AllByRecursion as Each}
use Rattle.std.specs.List.Sorted.{IsStrictlySortedBy}
use Rattle.std.specs.Ordering.{nat_cmp}
use Rattle.std.proofs.Common.{arith, ap, sym, subst, ◌∙◌, append_assoc, inl, inr, append-nil}
use Rattle.std.proofs.lemmas.Grind.{flat_map-append}
use Rattle.std.proofs.lemmas.List.{map-append}
use Rattle.p21_spec_schema.specs.WellFormed.{IsWellFormed}
use Rattle.p21_spec_basics.proofs.Members.{Contains-none, Contains-first, Contains-later, Contains-cases, Contains-mapped, Each-member, AllZip-member, Each-append, Each-mapped, Each-unmapped}
use Rattle.p21_spec_exchange.proofs.OneTree.{one_tree}
use Rattle.p21_spec_file.specs.Accepted.{IsAccepted, IsCanonicalOf, IsLineWithin, Means}
use Rattle.p21_spec_file.specs.Canonical.{AreNamesRising, Canonical}
use Rattle.p21_spec_exchange.specs.CanonicalText.{line}
use Rattle.p21_spec_exchange.specs.DataSection.{Heading, DataSection, AreHeadings, headings, instances_in}
use Rattle.p21_spec_file.specs.File.{FileMeaning, InstanceMeans, Reads, entity_sets_of, names_with_heading}
use Rattle.p21_spec_basics.specs.Limits.{Limits}
use Rattle.p21_spec_file.specs.Meaning.{RecordMeans, Typed}
use Rattle.p21_spec_exchange.specs.Record.{Part}
use Rattle.p21_spec_file.specs.Reference.{EntitySets, IsServed, Serves}
use Rattle.p21_spec_file.specs.SameFile.{HaveSameMembers}
use Rattle.p21_spec_schema.specs.Schema.{Schema}
use Rattle.p21_spec_exchange.specs.Statement.{Statement, section, header, instance, begin, header_start, section_end, data_start, finish}
use Rattle.p21_spec_exchange.specs.Structure.{Structure, section_statements, statements, tokens_of}
use Rattle.p21_tokens_automaton.proofs.Theorems.{one-laying}
use Rattle.p21_spec_laws.proofs.SaidFiles.{Instance, instance_of}
use Rattle.p21_spec_laws.proofs.FileOnce.{Meant, meant_names, one-meant}
use Rattle.p21_spec_laws.proofs.SectionsOnce.{named}
use Rattle.p21_spec_laws.proofs.Headings.{headings-once, headings-none_twice}
use Rattle.p21_spec_laws.proofs.PrintingFiles.{has-canonical_file}
use Rattle.p21_spec_basics.proofs.Shuffles.{distinct-none_twice}
use Rattle.p21_spec_laws.proofs.Blocks.{text_of, block_of, blocks-once, placed-same}
use Rattle.p21_spec_laws.proofs.Needs.{served-means, means-served}
use Rattle.p21_spec_laws.proofs.OneLine.{header-in_canonical}
use Rattle.p21_spec_laws.specs.EndLaws.{UnservedNeedIsRefused, UnknownReferenceIsRefused, UnfitReferenceIsRefused, NoLayingIsRefused, NoTreeIsRefused, DeadIsRefused, CompleteFileIsAccepted}
use Rattle.p21_spec_laws.specs.Needs.{MeansWithNeeds}
use Rattle.p21_spec_laws.specs.CompleteFile.{Entry, SectionEntries, Block, Line, IsMeant, AreNeedsServed, AreLinesRising, written_in, meant_in, entity_sets_in, entries_in, section_of, block_of_section, block_headings, lines_with_heading, line_bytes, block_bytes, structure_of, head_statements, file_text}
use Rattle.p21_spec_basics.proofs.Shuffles.{NoneTwice}
use Rattle.p21_spec_file.proofs.OneMeaning.{RecordMeans-one}

-- ---- refusals

pub no-laying_at_end : NoLayingIsRefused
no-laying_at_end s limits bytes none (m, means) = none (tokens_of means.reads.structure) means.reads.in_grammar.laid

pub no-tree : NoTreeIsRefused
no-tree s limits bytes tokens laid none (m, means) =
    let in_ = means.reads.in_grammar in
    none means.reads.structure means.reads.schema_text in_.is_file (one-laying bytes (tokens_of means.reads.structure) tokens in_.laid laid)

pub dead-refused : DeadIsRefused
dead-refused s limits bytes dead accepted = dead [] tt (let P : List ℕ → Type 0 = λ x. IsAccepted s limits x in subst P (sym (append-nil bytes)) accepted)

-- the sets of the instances are those of the entries
entries-entity_sets : (s : Schema) → IsWellFormed s → (others : EntitySets) (entries : List Entry) (ms : List Meant) → Each (IsMeant s) entries → AllZip (InstanceMeans s others) (written_in entries) ms → entity_sets_of ms ≡ entity_sets_in entries
entries-entity_sets s formed others [] [] each all = refl
entries-entity_sets s formed others [] (m ∷ ms) each all = absurd all
entries-entity_sets s formed others (e ∷ es) [] each all = absurd all
entries-entity_sets s formed others (e ∷ es) (m ∷ ms) each all =
    let one : m.1 ≡ e.meaning = RecordMeans-one s formed others each.0.kinds e.record_ m.1 e.meaning all.0.1 each.0.means in
    ap (λ (n : ℕ). (n, m.1.entities) ∷ entity_sets_of ms) all.0.0
    ∙ ap (λ (x : Typed). (e.name, x.entities) ∷ entity_sets_of ms) one
    ∙ ap (λ (ks : EntitySets). (e.name, e.meaning.entities) ∷ ks) (entries-entity_sets s formed others es ms each.1 all.1)

pub written-are : (groups : List SectionEntries) → instances_in (map section_of groups) ≡ written_in (entries_in groups)
written-are [] = refl
written-are (g ∷ gs) = ap (λ (is : List Instance). written_in g.entries ++ is) (written-are gs) ∙ sym (map-append (λ (e : Entry). (e.name, e.record_)) g.entries (entries_in gs))

pub unserved : UnservedNeedIsRefused
unserved s formed limits bytes parts groups laid each entry need among at none (m, means) =
    let entries : List Entry = entries_in groups in
    let t : Structure = means.reads.structure in
    let u : Structure = structure_of parts groups in
    let same : t ≡ u = one_tree t u (one-laying bytes (tokens_of t) (tokens_of u) means.reads.in_grammar.laid laid) in
    let kinds : EntitySets = entity_sets_of m.instances in
    let P : Structure → Type 0 = λ x. AllZip (InstanceMeans s kinds) (instances_in x.sections) m.instances in
    let W : List Instance → Type 0 = λ is. AllZip (InstanceMeans s kinds) is m.instances in
    let all : AllZip (InstanceMeans s kinds) (written_in entries) m.instances = subst W (written-are groups) (subst P same means.reads.means) in
    let is : MeansWithNeeds s entry.record_ entry.meaning entry.needs = Each-member (IsMeant s) entries entry each among in
    let (x, at_x, holds) = AllZip-member (InstanceMeans s kinds) (written_in entries) m.instances (entry.name, entry.record_) all (Contains-mapped (λ (e : Entry). (e.name, e.record_)) entries entry among) in
    let one : x.1 ≡ entry.meaning = RecordMeans-one s formed kinds is.kinds entry.record_ x.1 entry.meaning holds.1 is.means in
    let Q : Typed → Type 0 = λ y. RecordMeans s kinds entry.record_ y in
    let served : Each (IsServed s kinds) entry.needs = means-served s formed entry.record_ entry.meaning entry.needs is kinds (subst Q one holds.1) in
    let R : EntitySets → Type 0 = λ ks. IsServed s ks need in
    none (subst R (entries-entity_sets s formed kinds entries m.instances each all) (Each-member (IsServed s kinds) entry.needs need served at))

names-meant : (entries : List Entry) → meant_names (meant_in entries) ≡ named (written_in entries)
names-meant [] = refl
names-meant (e ∷ es) = ap (λ (ns : List ℕ). e.name ∷ ns) (names-meant es)

-- what stands for a name among the sets is an entry's
entry-of : (entries : List Entry) (n : ℕ) (entities : List ℕ) → Contains (entity_sets_in entries) (n, entities) → (e : Entry) × Contains entries e × (e.name ≡ n) × (e.meaning.entities ≡ entities)
entry-of [] n entities among = absurd (Contains-none (n, entities) among)
entry-of (e ∷ es) n entities among = elim (Contains-cases (e.name, e.meaning.entities) (entity_sets_in es) (n, entities) among) [
  | inl h ↦ (e, Contains-first e es, ap (λ (k : ℕ × List ℕ). k.0) h, ap (λ (k : ℕ × List ℕ). k.1) h)
  | inr h ↦ let (x, at, name, is) = entry-of es n entities h in (x, Contains-later e es x at, name, is)
]

pub unknown : UnknownReferenceIsRefused
unknown s formed limits bytes parts groups laid each entry need among at none accepted =
    let entries : List Entry = entries_in groups in
    unserved s formed limits bytes parts groups laid each entry need among at (λ served.
    let (x, at_x, name, is) = entry-of entries need.target served.0 served.1 in
    let P : ℕ → Type 0 = λ n. Contains (map (λ (e : Entry). e.name) entries) n in
    none (subst P name (Contains-mapped (λ (e : Entry). e.name) entries x at_x))) accepted

pub unfit : UnfitReferenceIsRefused
unfit s formed limits bytes parts groups laid each entry target need among at among_ name none (m, means) =
    let entries : List Entry = entries_in groups in
    let t : Structure = means.reads.structure in
    let u : Structure = structure_of parts groups in
    let same : t ≡ u = one_tree t u (one-laying bytes (tokens_of t) (tokens_of u) means.reads.in_grammar.laid laid) in
    let P : Structure → Type 0 = λ x. IsDistinct nat_eq (named (instances_in x.sections)) in
    let W : List Instance → Type 0 = λ is. IsDistinct nat_eq (named is) in
    let once : NoneTwice (meant_names (meant_in entries)) = subst NoneTwice (sym (names-meant entries)) (distinct-none_twice (named (written_in entries)) (subst W (written-are groups) (subst P same means.reads.names_differ))) in
    unserved s formed limits bytes parts groups laid each entry need among at (λ served.
    let (x, at_x, name_, is) = entry-of entries need.target served.0 served.1 in
    let M : ℕ → Type 0 = λ n. Contains (meant_in entries) (n, x.meaning) in
    let found : Contains (meant_in entries) (target.name, x.meaning) = subst M (name_ ∙ sym name) (Contains-mapped (λ (e : Entry). (e.name, e.meaning)) entries x at_x) in
    let one : x.meaning ≡ target.meaning = one-meant (meant_in entries) once target.name x.meaning target.meaning found (Contains-mapped (λ (e : Entry). (e.name, e.meaning)) entries target among_) in
    let Q : List ℕ → Type 0 = λ es. Serves s need.wanted es in
    none (subst Q (sym is ∙ ap (λ (y : Typed). y.entities) one) served.2)) (m, means)

-- ---- the file's text

flat-texts : (is : List Instance) → flat_map line (map instance_of is) ≡ flat_map line_bytes (map text_of is)
flat-texts [] = refl
flat-texts (i ∷ is) = ap (λ (bytes : List ℕ). line (instance i.0 i.1) ++ bytes) (flat-texts is)

sections-text : (xs : List DataSection) → flat_map line (flat_map section_statements xs) ≡ flat_map block_bytes (map block_of xs)
sections-text [] = refl
sections-text (x ∷ xs) =
    flat_map-append line (section_statements x) (flat_map section_statements xs)
    ∙ ap (λ (bytes : List ℕ). (line (section (data_start x.heading)) ++ bytes) ++ flat_map line (flat_map section_statements xs))
    (flat_map-append line (map instance_of x.instances) (section section_end ∷ []) ∙ ap (λ (bytes : List ℕ). bytes ++ flat_map line (section section_end ∷ [])) (flat-texts x.instances))
    ∙ ap (λ (bytes : List ℕ). block_bytes (block_of x) ++ bytes) (sections-text xs)

pub statements-text : (u : Structure) → flat_map line (statements u) ≡ file_text u.header (map block_of u.sections)
statements-text u =
    let rest : List Statement = flat_map section_statements u.sections ++ (section finish ∷ []) in
    ap (λ (sts : List Statement). flat_map line (section begin ∷ section header_start ∷ sts)) (sym (append_assoc (map header u.header) (section section_end ∷ []) rest))
    ∙ flat_map-append line (head_statements u.header) rest
    ∙ ap (λ (bytes : List ℕ). flat_map line (head_statements u.header) ++ bytes)
    (flat_map-append line (flat_map section_statements u.sections) (section finish ∷ []) ∙ ap (λ (bytes : List ℕ). bytes ++ flat_map line (section finish ∷ [])) (sections-text u.sections))

-- ---- blocks of sections

names-of_texts : (is : List Instance) → map (λ (l : Line). l.0) (map text_of is) ≡ named is
names-of_texts [] = refl
names-of_texts (i ∷ is) = ap (λ (ns : List ℕ). i.0 ∷ ns) (names-of_texts is)

pub block-headings : (xs : List DataSection) → block_headings (map block_of xs) ≡ headings xs
block-headings [] = refl
block-headings (x ∷ xs) = ap (λ (hs : List Heading). x.heading ∷ hs) (block-headings xs)

pub group-headings : (groups : List SectionEntries) → headings (map section_of groups) ≡ map (λ (g : SectionEntries). g.heading) groups
group-headings [] = refl
group-headings (g ∷ gs) = ap (λ (hs : List Heading). g.heading ∷ hs) (group-headings gs)

pub blocks-rise : (xs : List DataSection) → Each AreNamesRising xs → Each AreLinesRising (map block_of xs)
blocks-rise [] rise = tt
blocks-rise (x ∷ xs) rise = (subst (IsStrictlySortedBy nat_cmp) (sym (names-of_texts x.instances)) rise.0, blocks-rise xs rise.1)

-- ---- acceptance

entries-mean : (s : Schema) → IsWellFormed s → (kinds : EntitySets) (entries : List Entry) → Each (IsMeant s) entries → Each (AreNeedsServed s kinds) entries → AllZip (InstanceMeans s kinds) (written_in entries) (meant_in entries)
entries-mean s formed kinds [] each served = tt
entries-mean s formed kinds (e ∷ es) each served = ((refl, served-means s formed e.record_ e.meaning e.needs each.0 kinds served.0), entries-mean s formed kinds es each.1 served.1)

blocks-within : (limits : Limits) (xs : List DataSection) → 17 ≤ limits.record_canonical → Each (λ (b : Block). IsLineWithin limits (section (data_start b.heading))) (map block_of xs)
    → Each (λ (b : Block). Each (λ (l : Line). length l.1 ≤ limits.record_canonical) b.lines) (map block_of xs) → Each (IsLineWithin limits) (flat_map section_statements xs)
blocks-within limits [] sections heads instances = tt
blocks-within limits (x ∷ xs) sections heads instances =
    let P : Statement → Type 0 = IsLineWithin limits in
    let short : 7 ≤ limits.record_canonical = omega (arith, sections) in
    Each-append P (section_statements x) (flat_map section_statements xs) (
      heads.0,
      Each-append P (map instance_of x.instances) (section section_end ∷ []) (Each-mapped P instance_of x.instances (Each-unmapped (λ (l : Line). length l.1 ≤ limits.record_canonical) text_of x.instances instances.0)) (short, tt),
    )
    (blocks-within limits xs sections heads.1 instances.1)

lines-within : (limits : Limits) (u : Structure) → 17 ≤ limits.record_canonical → Each (λ (part : Part). IsLineWithin limits (header part)) u.header → Each (IsLineWithin limits) (flat_map section_statements u.sections) → Each (IsLineWithin limits) (statements u)
lines-within limits u sections headers within =
    let P : Statement → Type 0 = IsLineWithin limits in
    let short : (n : ℕ) → n ≤ 17 → n ≤ limits.record_canonical = λ n below. omega (arith, below, sections) in (
      short 13 (omega arith),
      (
        short 7 (omega arith),
        Each-append P (map header u.header) (section section_end ∷ (flat_map section_statements u.sections ++ (section finish ∷ []))) (Each-mapped P header u.header headers)
            (short 7 (omega arith), Each-append P (flat_map section_statements u.sections) (section finish ∷ []) within (short 17 (omega arith), tt)),
      ),
    )

pub ended-accepted : CompleteFileIsAccepted
ended-accepted s formed limits bytes parts groups blocks is =
    let entries : List Entry = entries_in groups in
    let sections : List DataSection = map section_of groups in
    let m : FileMeaning = record { header = parts; schema = s.name; sections = headings sections; instances = meant_in entries; instance_sections = flat_map names_with_heading sections } in
    let W : List Instance → Type 0 = λ js. AllZip (InstanceMeans s (entity_sets_in entries)) js (meant_in entries) in
    let reads : Reads s bytes m = record {
      structure = structure_of parts groups;
      schema_text = is.schema_text;
      in_grammar = is.in_grammar;
      names_schema = is.names_schema;
      sections_name_schema = is.sections_name_schema;
      section_names_differ = is.section_names_differ;
      names_differ = is.names_differ;
      means = subst W (sym (written-are groups)) (entries-mean s formed (entity_sets_in entries) entries is.meant is.served);
      header_is = refl;
      schema_is = refl;
      sections_are = refl;
      instance_sections_are = refl;
    } in
    let has = has-canonical_file s formed bytes m reads in
    let c : Canonical s has.bytes = has.canonical in
    let u : Structure = c.reads.structure in
    let head : u.header ≡ parts = header-in_canonical s bytes m reads has.bytes c has.same in
    let own : List Block = map block_of u.sections in
    let H : List Heading → Type 0 = λ hs. HaveSameMembers hs (headings sections) in
    let members : HaveSameMembers (headings u.sections) (headings sections) = subst H c.reads.sections_are has.same.sections in
    let G : List Heading → Type 0 = λ hs. HaveSameMembers (block_headings blocks) hs in
    let members_ : HaveSameMembers (block_headings blocks) (headings sections) = subst G (sym (group-headings groups)) is.blocks_rise.headings_are in
    let are_u : AreHeadings (headings u.sections) = c.reads.in_grammar.is_file.headings_are in
    let heads : block_headings blocks ≡ headings u.sections =
    headings-once (block_headings blocks) (headings u.sections) is.blocks_rise.are_headings are_u is.blocks_rise.sections_rise c.sections_rise (λ h among. (members h).1 ((members_ h).0 among)) (λ h among. (members_ h).1 ((members h).0 among)) in
    let none : NoneTwice (block_headings own) = subst NoneTwice (sym (block-headings u.sections)) (headings-none_twice (headings u.sections) are_u c.sections_rise) in
    let placed : HaveSameMembers (flat_map lines_with_heading own) (flat_map lines_with_heading (map block_of_section groups)) = placed-same s formed bytes m reads has.bytes c has.same groups refl is.printed in
    let lines : HaveSameMembers (flat_map lines_with_heading blocks) (flat_map lines_with_heading own) = λ p. (λ among. (placed p).1 ((is.blocks_rise.lines_are p).0 among), λ among. (is.blocks_rise.lines_are p).1 ((placed p).0 among)) in
    let all : blocks ≡ own = blocks-once blocks own (heads ∙ sym (block-headings u.sections)) none is.blocks_rise.names_rise (blocks-rise u.sections c.names_rise) lines in
    let P : List Part → Type 0 = λ ps. Each (λ (part : Part). IsLineWithin limits (header part)) ps in
    let L : List Block → Type 0 = λ bs. Each (λ (b : Block). Each (λ (l : Line). length l.1 ≤ limits.record_canonical) b.lines) bs in
    let D : List Block → Type 0 = λ bs. Each (λ (b : Block). IsLineWithin limits (section (data_start b.heading))) bs in
    let out : has.bytes ≡ file_text parts blocks = c.lines ∙ statements-text u ∙ ap (λ (ps : List Part). file_text ps own) head ∙ ap (λ (bs : List Block). file_text parts bs) (sym all) in
    let size : length has.bytes ≡ length (file_text parts blocks) = ap length out in
    let of : IsCanonicalOf s limits m has.bytes = record {
      canonical = c;
      same = has.same;
      file_within = (let within = is.file_within in omega (arith, within, size));
      lines_within = lines-within limits u is.sections_within (subst P (sym head) is.headers_within) (blocks-within limits u.sections is.sections_within (subst D all is.headings_within) (subst L all is.instances_within));
    } in
    let means : Means s limits bytes m = record { reads = reads; file_within = is.source_within; statements_within = is.statements_within; canonical = has.bytes; is_canonical = of } in
    let C : List ℕ → Type 0 = λ x. IsCanonicalOf s limits m x in
    (m, means, subst C out of)
