-- The blocks of a file whose references are served: there are such that rise, whether its lines are kept or not.
use Rattle.std.specs.Prelude.{◌≡◌, ℕ, List, [], ◌∷◌, map, refl, Contains, nat_eq}
use Rattle.std.specs.List.{AllZip, IsDistinct, flat_map, AllByRecursion as Each}
use Rattle.std.specs.Str.{bytes_eq}
use Rattle.std.proofs.Common.{arith, ap, sym, subst, ◌∙◌}
use Rattle.p21_spec_basics.proofs.Members.{Each-of_members, Each-weaker}
use Rattle.p21_spec_basics.specs.Limits.{Limits}
use Rattle.p21_spec_laws.proofs.Blocks.{block_of, placed-same}
use Rattle.p21_spec_laws.proofs.Ending.{block-headings, blocks-rise, group-headings, written-are}
use Rattle.p21_spec_laws.proofs.PrintingFiles.{has-canonical_file}
use Rattle.p21_spec_laws.proofs.SaidFiles.{Instance}
use Rattle.p21_spec_laws.proofs.Statements.{header-statement, heading-statement, headings-are, instances-are}
use Rattle.p21_spec_laws.specs.CompleteFile.{AreNeedsServed, AreRisingBlocks, Block, Entry, IsMeant, IsPrinted, SectionEntries, block_headings, entries_in, entity_sets_in, meant_in, section_of, structure_of, written_in}
use Rattle.p21_spec_laws.proofs.Needs.{served-means}
use Rattle.p21_spec_laws.specs.Taken.{headings_among, instances_among}
use Rattle.p21_spec_laws.proofs.Among.{statements-tell}
use Rattle.p21_spec_laws.proofs.Whole.{fits}
use Rattle.p21_spec_laws.specs.Among.{parts_among}
use Rattle.p21_spec_laws.specs.UnrefusedStatements.{AreUnrefused, IsFound}
use Rattle.p21_spec_exchange.specs.DataSection.{AreHeadings, DataSection, Heading, headings, instances_in, section_names}
use Rattle.p21_spec_exchange.specs.Grammar.{InGrammar, IsFile}
use Rattle.p21_spec_exchange.specs.Laying.{Laid}
use Rattle.p21_spec_exchange.specs.Record.{Part}
use Rattle.p21_spec_exchange.specs.Statement.{Statement, data_start, header, section}
use Rattle.p21_spec_exchange.specs.Structure.{Structure, statements, tokens_of}
use Rattle.p21_spec_file.specs.Canonical.{AreSectionsRising, Canonical}
use Rattle.p21_spec_file.specs.File.{FileMeaning, HeadingNamesSchema, InstanceMeans, Reads, names_with_heading}
use Rattle.p21_spec_file.specs.Reference.{EntitySets}
use Rattle.p21_spec_file.specs.SameFile.{HaveSameMembers}
use Rattle.p21_spec_schema.specs.Schema.{Schema}
use Rattle.p21_spec_schema.specs.WellFormed.{IsWellFormed}

-- ---- what the statements mean

instances-mean : (s : Schema) → IsWellFormed s → (kinds : EntitySets) (entries : List Entry) → Each (IsMeant s) entries → Each (AreNeedsServed s kinds) entries → AllZip (InstanceMeans s kinds) (written_in entries) (meant_in entries)
instances-mean s formed kinds [] each served = tt
instances-mean s formed kinds (e ∷ es) each served = ((refl, served-means s formed e.record_ e.meaning e.needs each.0 kinds served.0), instances-mean s formed kinds es each.1 served.1)

meaning_of : Schema → List Statement → List SectionEntries → FileMeaning
meaning_of s given groups =
    record { header = parts_among given; schema = s.name; sections = headings (map section_of groups); instances = meant_in (entries_in groups); instance_sections = flat_map names_with_heading (map section_of groups) }

-- the bytes are read so
reads-so : (s : Schema) → IsWellFormed s → (limits : Limits) (bytes : List ℕ) (given : List Statement) (groups : List SectionEntries) → AreUnrefused s limits given groups → (t : Structure) (text : List ℕ) → IsFile t text → statements t ≡ given → Laid bytes (tokens_of t)
    → Each (AreNeedsServed s (entity_sets_in (entries_in groups))) (entries_in groups) → (reads : Reads s bytes (meaning_of s given groups)) × (reads.structure.sections ≡ map section_of groups)
unfolding meaning_of
reads-so s formed limits bytes given groups unrefused t text is_file same laid served =
    let parts : List Part = parts_among given in
    let u : Structure = structure_of parts groups in
    let entries : List Entry = entries_in groups in
    let one : t ≡ u = statements-tell t given groups same unrefused.sections_are in
    let fitting = fits s limits given groups unrefused t same in
    let sections : t.sections ≡ map section_of groups = ap (λ (x : Structure). x.sections) one in
    let heads : headings t.sections ≡ headings (map section_of groups) = ap headings sections in
    let G : Structure → Type 0 = λ x. InGrammar bytes x text in
    let H : List Heading → Type 0 = λ hs. Each (HeadingNamesSchema s.name) hs in
    let N : List (List ℕ) → Type 0 = λ ns. IsDistinct bytes_eq ns in
    let M : List ℕ → Type 0 = λ ns. IsDistinct nat_eq ns in
    let W : List Instance → Type 0 = λ js. AllZip (InstanceMeans s (entity_sets_in entries)) js (meant_in entries) in
    let found : headings_among given ≡ headings t.sections = ap headings_among (sym same) ∙ headings-are t in
    let instances : instances_among given ≡ instances_in t.sections = ap instances_among (sym same) ∙ instances-are t in
    let third = is_file.header in
    let at_third : Contains t.header third.file_schema = (let P : List Part → Type 0 = λ ps. Contains ps third.file_schema in subst P (sym third.header_is) (2, omega arith, refl)) in
    let schema_line = fitting (header third.file_schema) (header-statement t third.file_schema at_third) in
    let meant : Each (IsMeant s) entries = Each-weaker (IsFound s limits) (IsMeant s) (λ e is. is.meant) entries unrefused.found in (
      record {
        structure = u;
        schema_text = text;
        in_grammar = subst G one (record { laid = laid; is_file = is_file });
        names_schema = schema_line.1 text third.is_file_schema;
        sections_name_schema = subst H heads (Each-of_members (HeadingNamesSchema s.name) (headings t.sections) (λ h among. (fitting (section (data_start h)) (heading-statement t h among)).1));
        section_names_differ = subst N (ap section_names (found ∙ heads)) unrefused.section_names_differ;
        names_differ = subst M (ap (map (λ (i : Instance). i.0)) (instances ∙ ap instances_in sections)) unrefused.names_differ;
        means = subst W (sym (written-are groups)) (instances-mean s formed (entity_sets_in entries) entries meant served);
        header_is = refl;
        schema_is = refl;
        sections_are = refl;
        instance_sections_are = refl;
      },
      refl,
    )

pub rising-exists : (s : Schema) → IsWellFormed s → (limits : Limits) (bytes : List ℕ) (given : List Statement) (groups : List SectionEntries) → AreUnrefused s limits given groups → (t : Structure) (text : List ℕ) → IsFile t text → statements t ≡ given → Laid bytes (tokens_of t)
    → Each (AreNeedsServed s (entity_sets_in (entries_in groups))) (entries_in groups) → (blocks : List Block) × AreRisingBlocks groups blocks
unfolding meaning_of
rising-exists s formed limits bytes given groups unrefused t text is_file same laid served =
    let m : FileMeaning = meaning_of s given groups in
    let (reads, sections) = reads-so s formed limits bytes given groups unrefused t text is_file same laid served in
    let has = has-canonical_file s formed bytes m reads in
    let c : Canonical s has.bytes = has.canonical in
    let v : List DataSection = c.reads.structure.sections in
    let blocks : List Block = map block_of v in
    let H : List Heading → Type 0 = λ hs. HaveSameMembers hs (headings (map section_of groups)) in
    let members : HaveSameMembers (headings v) (headings (map section_of groups)) = subst H c.reads.sections_are has.same.sections in
    let T : List Heading → Type 0 = λ hs. HaveSameMembers (headings v) hs in
    let A : List Heading → Type 0 = λ hs. HaveSameMembers hs (map (λ (g : SectionEntries). g.heading) groups) in
    let back : headings v ≡ block_headings blocks = sym (block-headings v) in
    let printed : Each (IsPrinted s) (entries_in groups) = Each-weaker (IsFound s limits) (IsPrinted s) (λ e is. is.printed) (entries_in groups) unrefused.found in (
      blocks,
      record {
        are_headings = subst AreHeadings back c.reads.in_grammar.is_file.headings_are;
        sections_rise = subst AreSectionsRising back c.sections_rise;
        names_rise = blocks-rise v c.names_rise;
        headings_are = subst A back (subst T (group-headings groups) members);
        lines_are = placed-same s formed bytes m reads has.bytes c has.same groups sections printed;
      },
    )
