-- Each file that reads has a canonical file of the same meaning.
use Rattle.std.specs.Prelude.{◌≡◌, ℕ, List, [], ◌∷◌, map, nat_eq, refl}
use Rattle.std.specs.List.{AllZip, IsDistinct, flat_map, AllByRecursion as Each}
use Rattle.std.proofs.Common.{ap, sym, subst, ◌∙◌}
use Rattle.p21_spec_schema.specs.WellFormed.{IsWellFormed}
use Rattle.p21_spec_basics.proofs.Members.{Contains-mapped, Each-append, Each-back}
use Rattle.p21_spec_file.proofs.SameFiles.{SamePart-reflexive, SameTyped-symmetric}
use Rattle.p21_spec_file.specs.Canonical.{Canonical, AreSectionsRising, AreNamesRising}
use Rattle.p21_spec_file.specs.CanonicalRecord.{IsCanonicalRecord}
use Rattle.p21_spec_exchange.specs.CanonicalText.{line}
use Rattle.p21_spec_exchange.specs.DataSection.{Heading, DataSection, AreHeadings, headings, heading_names, instances_in, section_names}
use Rattle.p21_spec_file.specs.File.{FileMeaning, InstanceMeans, Reads, entity_sets_of, names_with_heading, HeadingNamesSchema}
use Rattle.p21_spec_exchange.specs.Grammar.{IsDataRecord}
use Rattle.p21_spec_file.specs.Meaning.{Typed}
use Rattle.p21_spec_exchange.specs.Record.{Part}
use Rattle.p21_spec_file.specs.Reference.{EntitySets}
use Rattle.p21_spec_file.specs.SameFile.{HaveSameMembers, SamePart, SameTyped, SameFileMeaning}
use Rattle.p21_spec_schema.specs.Schema.{Schema}
use Rattle.p21_spec_exchange.specs.Statement.{section, header, finish}
use Rattle.p21_spec_exchange.specs.Structure.{Structure, section_statements, statements, tokens_of}
use Rattle.p21_spec_laws.proofs.CanonicalLaid.{laid-each_spelled}
use Rattle.p21_spec_laws.proofs.Entries.{Entry, IsEntry, canonical_meant, written_in, meants_in, names_in, names-of, entries-mean, entries-canonical, entries-data, entity_sets-same, Contains-canonical}
use Rattle.p21_spec_laws.proofs.FileOnce.{Meant}
use Rattle.p21_spec_laws.proofs.Groups.{SectionEntries, IsGroup, entries_of, group_headings, group_placed, group, arranged, arranged-entries, arranged-placed, arranged-headings, arranged-each, arranged-rise, arranged-names_rise, sections_of, headings-of, instances-of, placed-of, entries-each, sections-each, groups-said}
use Rattle.p21_spec_laws.proofs.Headings.{heading_text, DoRise, rise-headings}
use Rattle.p21_spec_laws.proofs.SaidFiles.{Instance, said, behind_header, header-lines_said, behind-said, sections-said}
use Rattle.p21_spec_laws.specs.Written.{IsWrittenStatement}
use Rattle.p21_spec_laws.proofs.SectionNames.{IsNameSpelled, heading-spelled, texts_none_twice, headings-shuffled}
use Rattle.p21_spec_basics.proofs.Shuffles.{texts-none_twice, none_twice-texts}
use Rattle.p21_spec_laws.proofs.SectionsOnce.{named}
use Rattle.p21_spec_basics.proofs.Shuffles.{Shuffled-flat_map, NoneTwice}
use Rattle.p21_spec_laws.proofs.CanonicalLaid.{statements_laid}
use Rattle.p21_spec_laws.proofs.Printing.{canonical_typed, canonical-same_typed}
use Rattle.p21_spec_laws.proofs.PrintingParts.{each-shuffled}
use Rattle.p21_spec_basics.proofs.Shuffles.{none_twice-distinct}
use Rattle.p21_spec_basics.proofs.Shuffles.{distinct-none_twice}
use Rattle.p21_spec_basics.proofs.Shuffles.{Shuffled, Shuffled-symmetric, Shuffled-members, Shuffled-mapped, Shuffled-none_twice}
use Rattle.p21_spec_laws.proofs.Wider.{IsWider}

parts-same : (parts : List Part) → AllZip SamePart parts parts
parts-same [] = tt
parts-same (part ∷ parts) = (SamePart-reflexive part, parts-same parts)

same-by : (x y z : Typed) → x ≡ y → SameTyped x z → SameTyped y z
same-by x y z is same = subst (λ (w : Typed). SameTyped w z) is same

-- lists in another order have the same members
mixed-members : {X : Type 0} (xs ys : List X) → Shuffled xs ys → HaveSameMembers ys xs
mixed-members xs ys mixed x = (Shuffled-members ys xs (Shuffled-symmetric xs ys mixed) x, Shuffled-members xs ys mixed x)

headings-spelled : (xs : List DataSection) → Each (λ (x : DataSection). Each IsWrittenStatement (section_statements x)) xs → Each IsNameSpelled (headings xs)
headings-spelled [] each = tt
headings-spelled (x ∷ xs) each = (heading-spelled x.heading each.0.0, headings-spelled xs each.1)

pub record HasCanonicalFile (s : Schema) (m : FileMeaning) : Type 0 where
  pub bytes : List ℕ
  pub canonical : Canonical s bytes
  pub same : SameFileMeaning canonical.meaning m

pub has-canonical_file : (s : Schema) → IsWellFormed s → (bytes : List ℕ) (m : FileMeaning) → Reads s bytes m → HasCanonicalFile s m
has-canonical_file s formed bytes m reads =
    let t : Structure = reads.structure in
    let kinds : EntitySets = entity_sets_of m.instances in
    let heads : List Heading = headings t.sections in
    let source : Each IsWrittenStatement (statements t) = said t (laid-each_spelled bytes (tokens_of t) reads.in_grammar.laid) in
    let sections : Each (λ (x : DataSection). Each IsWrittenStatement (section_statements x)) t.sections = sections-said t source in
    let behind : Each IsWrittenStatement (behind_header t) = behind-said t source in
    let are = group s formed kinds t.sections m.instances reads.means sections reads.in_grammar.is_file.data_records in
    let gs : List SectionEntries = arranged are.groups in
    let own_sections : List DataSection = sections_of gs in
    let es : List Entry = entries_of gs in
    let group_each : Each (IsGroup s kinds) gs = arranged-each s kinds are.groups are.each in
    let each : Each (IsEntry s kinds) es = entries-each s kinds gs group_each in
    let shuffled : Shuffled (entries_of are.groups) es = arranged-entries are.groups in
    let none : NoneTwice (names_in (entries_of are.groups)) = subst NoneTwice (sym are.names) (distinct-none_twice (named (instances_in t.sections)) reads.names_differ) in
    let none_ : NoneTwice (names_in es) = Shuffled-none_twice (names_in (entries_of are.groups)) (names_in es) (Shuffled-mapped (λ (e : Entry). e.0.0) (entries_of are.groups) es shuffled) none in
    let S : List Meant → Type 0 = λ ms. Shuffled ms (meants_in es) in
    let mixed : Shuffled (map (canonical_meant s) m.instances) (meants_in es) = subst S are.meants (Shuffled-mapped (λ (e : Entry). e.1) (entries_of are.groups) es shuffled) in
    let K : EntitySets → Type 0 = λ ks. Shuffled ks (entity_sets_of (meants_in es)) in
    let wider : IsWider kinds (entity_sets_of (meants_in es)) =
    Shuffled-members kinds (entity_sets_of (meants_in es)) (subst K (entity_sets-same s m.instances) (Shuffled-mapped (λ (i : Meant). (i.0, i.1.entities)) (map (canonical_meant s) m.instances) (meants_in es) mixed)) in
    let H : List Heading → Type 0 = λ hs. Shuffled hs (headings own_sections) in
    let H_ : List Heading → Type 0 = λ hs. Shuffled (group_headings are.groups) hs in
    let heads_mixed : Shuffled heads (headings own_sections) = subst H are.heads (subst H_ (sym (headings-of gs)) (arranged-headings are.groups)) in
    let headings_are : AreHeadings heads = reads.in_grammar.is_file.headings_are in
    let headings_are_ : AreHeadings (headings own_sections) = headings-shuffled heads (headings own_sections) headings_are heads_mixed in
    let names_none : NoneTwice (section_names heads) = texts-none_twice (section_names heads) reads.section_names_differ in
    let names_none_ : NoneTwice (section_names (headings own_sections)) = Shuffled-none_twice (section_names heads) (section_names (headings own_sections)) (Shuffled-flat_map heading_names heads (headings own_sections) heads_mixed) names_none in
    let spelled : Each IsNameSpelled heads = headings-spelled t.sections sections in
    let texts_none : NoneTwice (map heading_text (group_headings are.groups)) =
    (let P : List Heading → Type 0 = λ hs. NoneTwice (map heading_text hs) in subst P (sym are.heads) (texts_none_twice heads headings_are spelled names_none)) in
    let rise : AreSectionsRising (headings own_sections) = rise-headings (headings own_sections) headings_are_ (subst DoRise (sym (headings-of gs)) (arranged-rise are.groups texts_none)) in
    let R : List (ℕ × Heading) → Type 0 = λ ps. Shuffled ps (flat_map names_with_heading own_sections) in
    let R_ : List (ℕ × Heading) → Type 0 = λ ps. Shuffled (flat_map group_placed are.groups) ps in
    let placed_mixed : Shuffled (flat_map names_with_heading t.sections) (flat_map names_with_heading own_sections) = subst R are.placed (subst R_ (sym (placed-of gs)) (arranged-placed are.groups)) in
    let instances_are : written_in es ≡ instances_in own_sections = sym (instances-of gs) in
    let u : Structure = record { header = t.header; sections = own_sections } in
    let all_said : Each IsWrittenStatement (statements u) = (
      source.0,
      (
        source.1.0,
        Each-append IsWrittenStatement (map header t.header) (behind_header u) (header-lines_said t source)
            (behind.0, Each-append IsWrittenStatement (flat_map section_statements own_sections) (section finish ∷ []) (groups-said s kinds gs behind.0 group_each) (Each-back IsWrittenStatement (flat_map section_statements t.sections) (section finish ∷ []) behind.1)),
      ),
    ) in
    let own : FileMeaning = record { header = t.header; schema = s.name; sections = headings own_sections; instances = meants_in es; instance_sections = flat_map names_with_heading own_sections } in
    let out : List ℕ = flat_map line (statements u) in
    let D : List Instance → Type 0 = λ is. Each (λ (i : Instance). IsDataRecord i.1) is in
    let M : List Instance → Type 0 = λ is. AllZip (InstanceMeans s (entity_sets_of (meants_in es))) is (meants_in es) in
    let C : List Instance → Type 0 = λ is. AllZip (λ (written : Instance) (meant : Meant). IsCanonicalRecord s written.1 meant.1) is (meants_in es) in
    let new_reads : Reads s out own = record {
      structure = u;
      schema_text = reads.schema_text;
      in_grammar = record {
        laid = statements_laid (statements u) all_said;
        is_file = record {
          header = reads.in_grammar.is_file.header;
          shallow_header = reads.in_grammar.is_file.shallow_header;
          headings_are = headings_are_;
          data_records = subst D instances_are (entries-data s kinds es each);
        };
      };
      names_schema = reads.names_schema;
      sections_name_schema = each-shuffled (HeadingNamesSchema s.name) heads (headings own_sections) (Shuffled-symmetric heads (headings own_sections) heads_mixed) reads.sections_name_schema;
      section_names_differ = none_twice-texts (section_names (headings own_sections)) names_none_;
      names_differ = subst (IsDistinct nat_eq) (names-of es ∙ ap named instances_are) (none_twice-distinct (names_in es) none_);
      means = subst M instances_are (entries-mean s kinds (entity_sets_of (meants_in es)) wider es each);
      header_is = refl;
      schema_is = refl;
      sections_are = refl;
      instance_sections_are = refl;
    } in
    record {
      bytes = out;
      canonical = record {
        meaning = own;
        reads = new_reads;
        lines = refl;
        sections_rise = rise;
        names_rise = sections-each AreNamesRising gs (arranged-names_rise are.groups none);
        canonical_records = subst C instances_are (entries-canonical s kinds es each);
      };
      same = record {
        header = (let P : List Part → Type 0 = λ ps. AllZip SamePart t.header ps in subst P (sym reads.header_is) (parts-same t.header));
        schema = sym reads.schema_is;
        sections = (let P : List Heading → Type 0 = λ hs. HaveSameMembers (headings own_sections) hs in subst P (sym reads.sections_are) (mixed-members heads (headings own_sections) heads_mixed));
        onto = λ n y among.
            let (x, found, is) = Contains-canonical s m.instances n y (Shuffled-members (meants_in es) (map (canonical_meant s) m.instances) (Shuffled-symmetric (map (canonical_meant s) m.instances) (meants_in es) mixed) (n, y) among) in
            (x, found, same-by (canonical_typed s x) y x is (SameTyped-symmetric x (canonical_typed s x) (canonical-same_typed s x)));
        back = λ n x among.
            (canonical_typed s x, Shuffled-members (map (canonical_meant s) m.instances) (meants_in es) mixed (n, canonical_typed s x) (Contains-mapped (canonical_meant s) m.instances (n, x) among), canonical-same_typed s x);
        instance_sections = (let P : List (ℕ × Heading) → Type 0 = λ ps. HaveSameMembers (flat_map names_with_heading own_sections) ps in subst P (sym reads.instance_sections_are) (mixed-members (flat_map names_with_heading t.sections) (flat_map names_with_heading own_sections) placed_mixed));
      };
    }
