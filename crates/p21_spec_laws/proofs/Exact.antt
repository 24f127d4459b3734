-- What is accepted has instances with meanings, needs and lines as a session has them at the end.
use Rattle.std.specs.Prelude.{◌≡◌, ◌≤◌, ℕ, List, [], ◌∷◌, ◌++◌, map, length, Contains, nat_eq, refl}
use Rattle.std.specs.List.{AllZip, IsDistinct, AllByRecursion as Each}
use Rattle.std.specs.Str.{bytes_eq}
use Rattle.std.proofs.Common.{ap, sym, subst, ◌∙◌}
use Rattle.std.proofs.lemmas.List.Elements.{Contains-append_left, Contains-append_right}
use Rattle.p21_spec_laws.proofs.CanonicalLaid.{statement_laid}
use Rattle.p21_spec_laws.proofs.OneReading.{within-one}
use Rattle.p21_spec_schema.specs.WellFormed.{IsWellFormed}
use Rattle.p21_spec_basics.proofs.Members.{Contains-first, Contains-later, Contains-flat_map, Contains-mapped, Each-member, AllZip-member, AllZip-second_member, AllZip-both, Contains-unmapped, Each-of_members}
use Rattle.p21_spec_file.proofs.SameFiles.{SameTyped-symmetric}
use Rattle.p21_spec_file.specs.Accepted.{IsLineWithin}
use Rattle.p21_spec_file.specs.Canonical.{AreSectionsRising, Canonical}
use Rattle.p21_spec_exchange.specs.CanonicalText.{statement_text}
use Rattle.p21_spec_exchange.specs.DataSection.{Heading, DataSection, AreHeadings, headings, instances_in, section_names}
use Rattle.p21_spec_file.specs.File.{FileMeaning, HeadingNamesSchema, InstanceMeans, Reads, entity_sets_of}
use Rattle.p21_spec_exchange.specs.Grammar.{InGrammar}
use Rattle.p21_spec_file.specs.CanonicalTexts.{IsInstanceText}
use Rattle.p21_spec_file.specs.Meaning.{Typed}
use Rattle.p21_spec_exchange.specs.Record.{Part, Record}
use Rattle.p21_spec_file.specs.Reference.{EntitySets}
use Rattle.p21_spec_file.specs.SameFile.{HaveSameMembers, SameFileMeaning}
use Rattle.p21_spec_schema.specs.Schema.{Schema}
use Rattle.p21_spec_exchange.specs.Statement.{section, header, instance, data_start, finish}
use Rattle.p21_spec_exchange.specs.Structure.{Structure, statements, tokens_of}
use Rattle.p21_spec_laws.proofs.CanonicalLaid.{laid-each_spelled}
use Rattle.p21_spec_laws.proofs.SaidFiles.{Instance, said}
use Rattle.p21_spec_laws.specs.Written.{IsWrittenStatement}
use Rattle.p21_spec_laws.proofs.FileOnce.{Meant}
use Rattle.p21_spec_laws.proofs.Wider.{record-wider}
use Rattle.p21_spec_laws.proofs.Blocks.{text_of, block_of, placed-same}
use Rattle.p21_spec_laws.proofs.Ending.{statements-text, block-headings, group-headings, blocks-rise}
use Rattle.p21_spec_laws.proofs.LongFiles.{last-line}
use Rattle.p21_spec_laws.proofs.Needs.{has-needs, means-served}
use Rattle.p21_spec_laws.proofs.OneLine.{IsCanonicalInstance, header-in_canonical}
use Rattle.p21_spec_laws.proofs.Statements.{among-statements, header-statement, heading-statement}
use Rattle.p21_spec_laws.specs.EndLaws.{AcceptedFileIsComplete}
use Rattle.p21_spec_laws.specs.CompleteFile.{Entry, SectionEntries, Block, Line, IsMeant, IsPrinted, AreNeedsServed, AreRisingBlocks, written_in, meant_in, entity_sets_in, entries_in, section_of, block_headings, structure_of, file_text}

-- the canonical text of an instance of a file is a line of its canonical file
record HasText (s : Schema) (n : ℕ) (r : Record) : Type 0 where
  text : List ℕ
  is : IsInstanceText s n r text

has-text : (s : Schema) (bytes : List ℕ) (m : FileMeaning) (reads : Reads s bytes m) (out : List ℕ) (c : Canonical s out) → SameFileMeaning c.meaning m → (n : ℕ) (r : Record) → Contains (instances_in reads.structure.sections) (n, r) → HasText s n r
has-text s bytes m reads out c same n r among =
    let kinds : EntitySets = entity_sets_of m.instances in
    let others : EntitySets = entity_sets_of c.meaning.instances in
    let u : Structure = c.reads.structure in
    let first = AllZip-member (InstanceMeans s kinds) (instances_in reads.structure.sections) m.instances (n, r) reads.means among in
    let x : Typed = first.0.1 in
    let A : ℕ → Type 0 = λ k. Contains m.instances (k, x) in
    let (y, at_y, alike) = same.back n x (subst A first.2.0 first.1) in
    let (i, at_i, found) = AllZip-second_member (λ (written : Instance) (meant : Meant). InstanceMeans s others written meant × IsCanonicalInstance s written meant) (instances_in u.sections) c.meaning.instances (n, y)
    (AllZip-both (InstanceMeans s others) (IsCanonicalInstance s) (instances_in u.sections) c.meaning.instances c.reads.means c.canonical_records) at_y in
    let spelled : IsWrittenStatement (instance i.0 i.1) = Each-member IsWrittenStatement (statements u) (instance i.0 i.1) (said u (laid-each_spelled out (tokens_of u) c.reads.in_grammar.laid)) (among-statements u i.0 i.1 at_i) in
    let S : ℕ → Type 0 = λ k. IsWrittenStatement (instance k i.1) in
    record {
      text = statement_text (instance n i.1);
      is = record {
        kinds = kinds ++ others;
        meaning = x;
        means = record-wider s kinds (kinds ++ others) (λ k at. Contains-append_left kinds others k at) r x first.2.1;
        canonical = i.1;
        canonical_meaning = y;
        canonical_means = record-wider s others (kinds ++ others) (λ k at. Contains-append_right kinds others k at) i.1 y found.0.1;
        same = SameTyped-symmetric x y alike;
        is_canonical = found.1;
        text_is = refl;
        laid = statement_laid (instance n i.1) (subst S (sym found.0.0) spelled);
      };
    }

record AreEntries (s : Schema) (kinds : EntitySets) (is : List Instance) (ms : List Meant) : Type 0 where
  entries : List Entry
  written : written_in entries ≡ is
  meant : meant_in entries ≡ ms
  each_meant : Each (IsMeant s) entries
  printed : Each (IsPrinted s) entries
  served : Each (AreNeedsServed s kinds) entries

enter : (s : Schema) → IsWellFormed s → (kinds : EntitySets) (is : List Instance) (ms : List Meant) → AllZip (InstanceMeans s kinds) is ms → ((n : ℕ) (r : Record) → Contains is (n, r) → HasText s n r) → AreEntries s kinds is ms
enter s formed kinds [] [] all texts = record { entries = []; written = refl; meant = refl; each_meant = tt; printed = tt; served = tt }
enter s formed kinds [] (m ∷ ms) all texts = absurd all
enter s formed kinds (i ∷ is) [] all texts = absurd all
enter s formed kinds (i ∷ is) (m ∷ ms) all texts =
    let rest = enter s formed kinds is ms all.1 (λ n r among. texts n r (Contains-later i is (n, r) among)) in
    let has = has-needs s kinds i.1 m.1 all.0.1 in
    let text = texts i.0 i.1 (Contains-first i is) in
    let e : Entry = record { name = i.0; record_ = i.1; meaning = m.1; needs = has.0; text = text.text } in
    record {
      entries = e ∷ rest.entries;
      written = ap (λ (js : List Instance). i ∷ js) rest.written;
      meant = ap (λ (n : ℕ). (n, m.1) ∷ meant_in rest.entries) (sym all.0.0) ∙ ap (λ (xs : List Meant). m ∷ xs) rest.meant;
      each_meant = (has.1, rest.each_meant);
      printed = (text.is, rest.printed);
      served = (means-served s formed i.1 m.1 has.0 has.1 kinds all.0.1, rest.served);
    }

-- ---- entries by sections

record AreSplit (is js : List Instance) (es : List Entry) : Type 0 where
  first : List Entry
  later : List Entry
  joined : first ++ later ≡ es
  first_are : written_in first ≡ is
  later_are : written_in later ≡ js

split : (is js : List Instance) (es : List Entry) → written_in es ≡ is ++ js → AreSplit is js es
split [] js es same = record { first = []; later = es; joined = refl; first_are = refl; later_are = same }
split (i ∷ is) js [] same = absurd (cc)
split (i ∷ is) js (e ∷ es) same =
    let one : ◌≡◌ {A = Instance} (e.name, e.record_) i = cc in
    let rest = split is js es (cc) in
    record {
      first = e ∷ rest.first;
      later = rest.later;
      joined = ap (λ (xs : List Entry). e ∷ xs) rest.joined;
      first_are = ap (λ (j : Instance). j ∷ written_in rest.first) one ∙ ap (λ (js_ : List Instance). i ∷ js_) rest.first_are;
      later_are = rest.later_are;
    }

record AreGrouped (xs : List DataSection) (es : List Entry) : Type 0 where
  groups : List SectionEntries
  sections : xs ≡ map section_of groups
  entries : entries_in groups ≡ es

regroup : (xs : List DataSection) (es : List Entry) → written_in es ≡ instances_in xs → AreGrouped xs es
regroup [] [] same = record { groups = []; sections = refl; entries = refl }
regroup [] (e ∷ es) same = absurd (cc)
regroup (x ∷ xs) es same =
    let parts = split x.instances (instances_in xs) es same in
    let rest = regroup xs parts.later parts.later_are in
    let g : SectionEntries = record { heading = x.heading; entries = parts.first } in
    record {
      groups = g ∷ rest.groups;
      sections = ap (λ (is : List Instance). record { heading = x.heading; instances = is } ∷ xs) (sym parts.first_are) ∙ ap (λ (ys : List DataSection). section_of g ∷ ys) rest.sections;
      entries = ap (λ (ys : List Entry). parts.first ++ ys) rest.entries ∙ parts.joined;
    }

pub accepted-ended : AcceptedFileIsComplete
accepted-ended s formed limits bytes (m, means) =
    let reads : Reads s bytes m = means.reads in
    let t : Structure = reads.structure in
    let file = means.is_canonical in
    let c : Canonical s means.canonical = file.canonical in
    let u : Structure = c.reads.structure in
    let are = enter s formed (entity_sets_of m.instances) (instances_in t.sections) m.instances reads.means (has-text s bytes m reads means.canonical c file.same) in
    let by = regroup t.sections are.entries are.written in
    let groups : List SectionEntries = by.groups in
    let blocks : List Block = map block_of u.sections in
    let structure : t ≡ structure_of t.header groups = ap (λ (xs : List DataSection). record { header = t.header; sections = xs }) by.sections in
    let G : Structure → Type 0 = λ x. InGrammar bytes x reads.schema_text in
    let in_grammar : InGrammar bytes (structure_of t.header groups) reads.schema_text = subst G structure reads.in_grammar in
    let N : List DataSection → Type 0 = λ xs. IsDistinct nat_eq (map (λ (i : Instance). i.0) (instances_in xs)) in
    let S : List DataSection → Type 0 = λ xs. Each (HeadingNamesSchema s.name) (headings xs) in
    let D : List DataSection → Type 0 = λ xs. IsDistinct bytes_eq (section_names (headings xs)) in
    let M : List Entry → Type 0 = λ es. Each (IsMeant s) es in
    let R : List Entry → Type 0 = λ es. Each (IsPrinted s) es in
    let K : List Meant → Type 0 = λ ms. Each (AreNeedsServed s (entity_sets_of ms)) are.entries in
    let V : List Entry → Type 0 = λ es. Each (AreNeedsServed s (entity_sets_in es)) es in
    let printed : Each (IsPrinted s) (entries_in groups) = subst R (sym by.entries) are.printed in
    let H : List Heading → Type 0 = λ hs. HaveSameMembers (headings u.sections) hs in
    let H_ : List Heading → Type 0 = λ hs. HaveSameMembers hs m.sections in
    let members : HaveSameMembers (headings u.sections) (headings t.sections) = subst H reads.sections_are (subst H_ c.reads.sections_are file.same.sections) in
    let T : List DataSection → Type 0 = λ xs. HaveSameMembers (headings u.sections) (headings xs) in
    let A : List Heading → Type 0 = λ hs. HaveSameMembers hs (map (λ (g : SectionEntries). g.heading) groups) in
    let back : headings u.sections ≡ block_headings blocks = sym (block-headings u.sections) in
    let rising : AreRisingBlocks groups blocks = record {
      are_headings = subst AreHeadings back c.reads.in_grammar.is_file.headings_are;
      sections_rise = subst AreSectionsRising back c.sections_rise;
      names_rise = blocks-rise u.sections c.names_rise;
      headings_are = subst A back (subst H (group-headings groups) (subst T by.sections members));
      lines_are = placed-same s formed bytes m reads means.canonical c file.same groups by.sections printed;
    } in
    let head : u.header ≡ t.header = header-in_canonical s bytes m reads means.canonical c file.same in
    let out : means.canonical ≡ file_text t.header blocks = c.lines ∙ statements-text u ∙ ap (λ (ps : List Part). file_text ps blocks) head in
    let F : List ℕ → Type 0 = λ x. length x ≤ limits.file_canonical in
    let P : List Part → Type 0 = λ ps. Each (λ (part : Part). IsLineWithin limits (header part)) ps in (
      t.header,
      groups,
      blocks,
      record {
        schema_text = reads.schema_text;
        in_grammar = in_grammar;
        names_schema = reads.names_schema;
        sections_name_schema = subst S by.sections reads.sections_name_schema;
        section_names_differ = subst D by.sections reads.section_names_differ;
        names_differ = subst N by.sections reads.names_differ;
        meant = subst M (sym by.entries) are.each_meant;
        printed = printed;
        served = subst V (sym by.entries) (subst K (sym are.meant) are.served);
        blocks_rise = rising;
        source_within = means.file_within;
        statements_within = within-one bytes (tokens_of t) (tokens_of (structure_of t.header groups)) reads.in_grammar.laid in_grammar.laid limits.record_source 0 means.statements_within;
        file_within = subst F out file.file_within;
        sections_within = Each-member (IsLineWithin limits) (statements u) (section finish) file.lines_within (last-line u);
        headings_within = Each-of_members (λ (b : Block). IsLineWithin limits (section (data_start b.heading))) blocks (λ b at.
            let (x, at_x, is) = Contains-unmapped block_of u.sections b at in
            let B : Block → Type 0 = λ y. IsLineWithin limits (section (data_start y.heading)) in
            subst B is (Each-member (IsLineWithin limits) (statements u) (section (data_start x.heading)) file.lines_within (heading-statement u x.heading (Contains-mapped (λ (y : DataSection). y.heading) u.sections x at_x))));
        headers_within = subst P head (Each-of_members (λ (part : Part). IsLineWithin limits (header part)) u.header (λ part at. Each-member (IsLineWithin limits) (statements u) (header part) file.lines_within (header-statement u part at)));
        instances_within = Each-of_members (λ (b : Block). Each (λ (l : Line). length l.1 ≤ limits.record_canonical) b.lines) blocks (λ b at.
            let (x, at_x, is) = Contains-unmapped block_of u.sections b at in
            let B : Block → Type 0 = λ y. Each (λ (l : Line). length l.1 ≤ limits.record_canonical) y.lines in
            subst B is (Each-of_members (λ (l : Line). length l.1 ≤ limits.record_canonical) (map text_of x.instances) (λ l among.
            let (i, at_i, same) = Contains-unmapped text_of x.instances l among in
            let L : Line → Type 0 = λ y. length y.1 ≤ limits.record_canonical in
            subst L same (Each-member (IsLineWithin limits) (statements u) (instance i.0 i.1) file.lines_within (among-statements u i.0 i.1 (Contains-flat_map (λ (y : DataSection). y.instances) u.sections x i at_x at_i))))));
      },
    )
