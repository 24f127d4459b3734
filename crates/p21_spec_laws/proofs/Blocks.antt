-- The sections of a canonical file with their lines are those of the entries of its source.
use Rattle.std.specs.Prelude.{◌≡◌, ℕ, List, [], ◌∷◌, ◌++◌, map, Contains, refl}
use Rattle.std.specs.List.{flat_map, AllByRecursion as Each}
use Rattle.std.specs.Ordering.{nat_cmp}
use Rattle.std.proofs.Common.{ap, sym, subst, ◌∙◌}
use Rattle.std.proofs.lemmas.Cmp.{nat_cmp_total}
use Rattle.std.proofs.lemmas.List.{map-append}
use Rattle.p21_spec_schema.specs.WellFormed.{IsWellFormed}
use Rattle.p21_spec_basics.proofs.Members.{Contains-first, Contains-later, Contains-flat_map, Contains-mapped, Contains-one_of, Each-member, Contains-unmapped}
use Rattle.p21_spec_file.specs.Canonical.{Canonical}
use Rattle.p21_spec_exchange.specs.CanonicalText.{statement_text}
use Rattle.p21_spec_exchange.specs.DataSection.{Heading, DataSection, instances_in}
use Rattle.p21_spec_file.specs.File.{FileMeaning, Reads, names_with_heading}
use Rattle.p21_spec_file.specs.CanonicalTexts.{IsInstanceText}
use Rattle.p21_spec_exchange.specs.Record.{Record}
use Rattle.p21_spec_file.specs.SameFile.{HaveSameMembers, SameFileMeaning}
use Rattle.p21_spec_schema.specs.Schema.{Schema}
use Rattle.p21_spec_exchange.specs.Statement.{instance}
use Rattle.p21_spec_exchange.specs.Structure.{Structure}
use Rattle.p21_spec_basics.proofs.RisingLists.{rises-mapped, rises-once}
use Rattle.p21_spec_basics.proofs.Shuffles.{distinct-none_twice, one-keyed}
use Rattle.p21_spec_laws.proofs.SaidFiles.{Instance}
use Rattle.p21_spec_laws.proofs.SectionsOnce.{named}
use Rattle.p21_spec_laws.proofs.OneLine.{instance-in_canonical}
use Rattle.p21_spec_laws.specs.CompleteFile.{Entry, Line, SectionEntries, Block, IsPrinted, AreLinesRising, written_in, entries_in, lines_in, section_of, block_of_section, block_headings, lines_with_heading}
use Rattle.p21_spec_basics.proofs.Shuffles.{AreMembers, NoneTwice}

abbrev pub text_of : Instance → Line
text_of i = (i.0, statement_text (instance i.0 i.1))

-- a section with the texts of its instances
abbrev pub block_of : DataSection → Block
block_of x = record { heading = x.heading; lines = map text_of x.instances }

-- ---- lists of blocks

same-blocks : (bs cs : List Block) → block_headings bs ≡ block_headings cs → ((b c : Block) → Contains bs b → Contains cs c → b.heading ≡ c.heading → b.lines ≡ c.lines) → bs ≡ cs
same-blocks [] [] heads lines = refl
same-blocks [] (c ∷ cs) heads lines = cc
same-blocks (b ∷ bs) [] heads lines = cc
same-blocks (b ∷ bs) (c ∷ cs) heads lines =
    let first : b.heading ≡ c.heading = cc in
    let rest : block_headings bs ≡ block_headings cs = cc in
    let own : b.lines ≡ c.lines = lines b c (Contains-first b bs) (Contains-first c cs) first in
    ap (λ (h : Heading). record { heading = h; lines = b.lines } ∷ bs) first
    ∙ ap (λ (ls : List Line). record { heading = c.heading; lines = ls } ∷ bs) own
    ∙ ap (λ (ds : List Block). c ∷ ds) (same-blocks bs cs rest (λ x y at at_ same. lines x y (Contains-later b bs x at) (Contains-later c cs y at_) same))

-- the lines of one heading
lines-onto : (bs cs : List Block) → NoneTwice (block_headings cs) → AreMembers (flat_map lines_with_heading bs) (flat_map lines_with_heading cs) → (b c : Block) → Contains bs b → Contains cs c → b.heading ≡ c.heading → AreMembers b.lines c.lines
lines-onto bs cs none onto b c at at_ same l among =
    let (d, at_d, found) = Contains-one_of lines_with_heading cs (b.heading, l) (onto (b.heading, l) (Contains-flat_map lines_with_heading bs b (b.heading, l) at (Contains-mapped (λ (k : Line). (b.heading, k)) b.lines l among))) in
    let (k, at_k, is) = Contains-unmapped (λ (k : Line). (d.heading, k)) d.lines (b.heading, l) found in
    let one : d ≡ c = one-keyed (λ (x : Block). x.heading) cs none d c at_d at_ (ap (λ (p : Heading × Line). p.0) is ∙ same) in
    let P : Line → Type 0 = λ x. Contains d.lines x in
    let Q : Block → Type 0 = λ x. Contains x.lines l in
    subst Q one (subst P (ap (λ (p : Heading × Line). p.1) is) at_k)

-- blocks that rise are fixed by their headings and their lines
pub blocks-once : (bs cs : List Block) → block_headings bs ≡ block_headings cs → NoneTwice (block_headings cs) → Each AreLinesRising bs → Each AreLinesRising cs → HaveSameMembers (flat_map lines_with_heading bs) (flat_map lines_with_heading cs) → bs ≡ cs
blocks-once bs cs heads none rise rise_ same = same-blocks bs cs heads (λ b c at at_ h.
    rises-once nat_cmp nat_cmp_total (λ (l : Line). l.0) b.lines c.lines
    (rises-mapped nat_cmp (λ (l : Line). l.0) b.lines (Each-member AreLinesRising bs b rise at)) (rises-mapped nat_cmp (λ (l : Line). l.0) c.lines (Each-member AreLinesRising cs c rise_ at_))
    (lines-onto bs cs none (λ p. (same p).0) b c at at_ h) (lines-onto cs bs (subst NoneTwice (sym heads) none) (λ p. (same p).1) c b at_ at (sym h)))

-- ---- a canonical file and its source

-- the instance's record of the canonical file stands in the section of its heading
instance-in_section : (s : Schema) → IsWellFormed s → (bytes : List ℕ) (m : FileMeaning) (reads : Reads s bytes m) (out : List ℕ) (c : Canonical s out) → SameFileMeaning c.meaning m
    → (x : DataSection) (n : ℕ) (r : Record) (text : List ℕ) → Contains reads.structure.sections x → Contains x.instances (n, r) → (is : IsInstanceText s n r text)
    → (y : DataSection) × Contains c.reads.structure.sections y × (y.heading ≡ x.heading) × Contains y.instances (n, is.canonical)
instance-in_section s formed bytes m reads out c same x n r text at among is =
    let u : Structure = c.reads.structure in
    let place : ℕ × Heading = (n, x.heading) in
    let A : List (ℕ × Heading) → Type 0 = λ ps. Contains ps place in
    let own : Contains (flat_map names_with_heading reads.structure.sections) place = Contains-flat_map names_with_heading reads.structure.sections x place at (Contains-mapped (λ (i : Instance). (i.0, x.heading)) x.instances (n, r) among) in
    let there : Contains (flat_map names_with_heading u.sections) place = subst A c.reads.instance_sections_are ((same.instance_sections place).1 (subst A (sym reads.instance_sections_are) own)) in
    let (y, at_y, found) = Contains-one_of names_with_heading u.sections place there in
    let (i, at_i, is_i) = Contains-unmapped (λ (j : Instance). (j.0, y.heading)) y.instances place found in
    let canonical : Contains (instances_in u.sections) (n, is.canonical) = instance-in_canonical s formed bytes m reads out c same n r text (Contains-flat_map (λ (z : DataSection). z.instances) reads.structure.sections x (n, r) at among) is in
    let one : i ≡ (n, is.canonical) = one-keyed (λ (j : Instance). j.0) (instances_in u.sections) (distinct-none_twice (named (instances_in u.sections)) c.reads.names_differ) i (n, is.canonical)
    (Contains-flat_map (λ (z : DataSection). z.instances) u.sections y i at_y at_i) canonical (ap (λ (p : ℕ × Heading). p.0) is_i) in
    let P : Instance → Type 0 = λ j. Contains y.instances j in
    (y, at_y, ap (λ (p : ℕ × Heading). p.1) is_i, subst P one at_i)

-- the names of all lines
line-keys : (xs : List DataSection) → map (λ (p : Heading × Line). p.1.0) (flat_map lines_with_heading (map block_of xs)) ≡ named (instances_in xs)
line-keys [] = refl
line-keys (x ∷ xs) =
    map-append (λ (p : Heading × Line). p.1.0) (lines_with_heading (block_of x)) (flat_map lines_with_heading (map block_of xs))
    ∙ ap (λ (ns : List ℕ). ns ++ map (λ (p : Heading × Line). p.1.0) (flat_map lines_with_heading (map block_of xs))) (own x.instances)
    ∙ ap (λ (ns : List ℕ). named x.instances ++ ns) (line-keys xs)
    ∙ sym (map-append (λ (i : Instance). i.0) x.instances (instances_in xs))
  where
    own : (is : List Instance) → map (λ (p : Heading × Line). p.1.0) (map (λ (l : Line). (x.heading, l)) (map text_of is)) ≡ named is
    own [] = refl
    own (i ∷ is) = ap (λ (ns : List ℕ). i.0 ∷ ns) (own is)

pub placed-same : (s : Schema) → IsWellFormed s → (bytes : List ℕ) (m : FileMeaning) (reads : Reads s bytes m) (out : List ℕ) (c : Canonical s out) → SameFileMeaning c.meaning m → (groups : List SectionEntries) → reads.structure.sections ≡ map section_of groups
    → Each (IsPrinted s) (entries_in groups) → HaveSameMembers (flat_map lines_with_heading (map block_of c.reads.structure.sections)) (flat_map lines_with_heading (map block_of_section groups))
placed-same s formed bytes m reads out c same groups are printed p = (back, into)
  where
    entry-into : (g : SectionEntries) (e : Entry) → Contains groups g → Contains g.entries e → Contains (flat_map lines_with_heading (map block_of c.reads.structure.sections)) (g.heading, (e.name, e.text))
    entry-into g e at at_e =
        let is : IsInstanceText s e.name e.record_ e.text = Each-member (IsPrinted s) (entries_in groups) e printed (Contains-flat_map (λ (h : SectionEntries). h.entries) groups g e at at_e) in
        let S : List DataSection → Type 0 = λ xs. Contains xs (section_of g) in
        let (y, at_y, head, found) = instance-in_section s formed bytes m reads out c same (section_of g) e.name e.record_ e.text (subst S (sym are) (Contains-mapped section_of groups g at)) (Contains-mapped (λ (x : Entry). (x.name, x.record_)) g.entries e at_e) is in
        let l : Line = text_of (e.name, is.canonical) in
        let stands : Contains (flat_map lines_with_heading (map block_of c.reads.structure.sections)) (y.heading, l) =
        Contains-flat_map lines_with_heading (map block_of c.reads.structure.sections) (block_of y) (y.heading, l) (Contains-mapped block_of c.reads.structure.sections y at_y)
        (Contains-mapped (λ (k : Line). (y.heading, k)) (map text_of y.instances) l (Contains-mapped text_of y.instances (e.name, is.canonical) found)) in
        let P : Heading → Type 0 = λ h. Contains (flat_map lines_with_heading (map block_of c.reads.structure.sections)) (h, l) in
        let Q : List ℕ → Type 0 = λ text. Contains (flat_map lines_with_heading (map block_of c.reads.structure.sections)) (g.heading, (e.name, text)) in
        subst Q (sym is.text_is) (subst P head stands)

    into : Contains (flat_map lines_with_heading (map block_of_section groups)) p → Contains (flat_map lines_with_heading (map block_of c.reads.structure.sections)) p
    into among =
        let (b, at_b, found) = Contains-one_of lines_with_heading (map block_of_section groups) p among in
        let (g, at_g, is_b) = Contains-unmapped block_of_section groups b at_b in
        let B : Block → Type 0 = λ x. Contains (lines_with_heading x) p in
        let (l, at_l, is_l) = Contains-unmapped (λ (k : Line). (g.heading, k)) (lines_in g.entries) p (subst B (sym is_b) found) in
        let (e, at_e, is_e) = Contains-unmapped (λ (x : Entry). (x.name, x.text)) g.entries l at_l in
        let P : Heading × Line → Type 0 = λ q. Contains (flat_map lines_with_heading (map block_of c.reads.structure.sections)) q in
        subst P (ap (λ (k : Line). (g.heading, k)) is_e ∙ is_l) (entry-into g e at_g at_e)

    back : Contains (flat_map lines_with_heading (map block_of c.reads.structure.sections)) p → Contains (flat_map lines_with_heading (map block_of_section groups)) p
    back among =
        let (b, at_b, found) = Contains-one_of lines_with_heading (map block_of c.reads.structure.sections) p among in
        let (y, at_y, is_b) = Contains-unmapped block_of c.reads.structure.sections b at_b in
        let B : Block → Type 0 = λ x. Contains (lines_with_heading x) p in
        let (l, at_l, is_l) = Contains-unmapped (λ (k : Line). (y.heading, k)) (map text_of y.instances) p (subst B (sym is_b) found) in
        let (i, at_i, is_i) = Contains-unmapped text_of y.instances l at_l in
        let place : ℕ × Heading = (i.0, y.heading) in
        let A : List (ℕ × Heading) → Type 0 = λ ps. Contains ps place in
        let own : Contains (flat_map names_with_heading c.reads.structure.sections) place = Contains-flat_map names_with_heading c.reads.structure.sections y place at_y (Contains-mapped (λ (j : Instance). (j.0, y.heading)) y.instances i at_i) in
        let there : Contains (flat_map names_with_heading reads.structure.sections) place = subst A reads.instance_sections_are ((same.instance_sections place).0 (subst A (sym c.reads.instance_sections_are) own)) in
        let T : List DataSection → Type 0 = λ xs. Contains (flat_map names_with_heading xs) place in
        let (x, at_x, in_x) = Contains-one_of names_with_heading (map section_of groups) place (subst T are there) in
        let (g, at_g, is_x) = Contains-unmapped section_of groups x at_x in
        let X : DataSection → Type 0 = λ z. Contains (names_with_heading z) place in
        let (j, at_j, is_j) = Contains-unmapped (λ (k : Instance). (k.0, g.heading)) (written_in g.entries) place (subst X (sym is_x) in_x) in
        let (e, at_e, is_e) = Contains-unmapped (λ (x : Entry). (x.name, x.record_)) g.entries j at_j in
        let q : Heading × Line = (g.heading, (e.name, e.text)) in
        let name : e.name ≡ p.1.0 = ap (λ (k : Instance). k.0) is_e ∙ ap (λ (k : ℕ × Heading). k.0) is_j ∙ ap (λ (k : Line). k.0) is_i ∙ ap (λ (k : Heading × Line). k.1.0) is_l in
        let once : NoneTwice (map (λ (k : Heading × Line). k.1.0) (flat_map lines_with_heading (map block_of c.reads.structure.sections))) =
        subst NoneTwice (sym (line-keys c.reads.structure.sections)) (distinct-none_twice (named (instances_in c.reads.structure.sections)) c.reads.names_differ) in
        let one : q ≡ p = one-keyed (λ (k : Heading × Line). k.1.0) (flat_map lines_with_heading (map block_of c.reads.structure.sections)) once q p (entry-into g e at_g at_e) among name in
        let P : Heading × Line → Type 0 = λ k. Contains (flat_map lines_with_heading (map block_of_section groups)) k in
        subst P one
        (Contains-flat_map lines_with_heading (map block_of_section groups) (block_of_section g) q (Contains-mapped block_of_section groups g at_g)
        (Contains-mapped (λ (k : Line). (g.heading, k)) (lines_in g.entries) (e.name, e.text) (Contains-mapped (λ (x : Entry). (x.name, x.text)) g.entries e at_e)))
