-- The end of a file: what is known of its statements is all that acceptance asks for.
use Rattle.std.specs.Prelude.{◌≡◌, ◌≤◌, ℕ, List, [], ◌∷◌, ◌++◌, map, length, refl, Contains, nat_eq}
use Rattle.std.specs.List.{IsDistinct, flat_map, AllByRecursion as Each}
use Rattle.std.specs.Str.{bytes_eq}
use Rattle.std.proofs.Common.{arith, ap, sym, subst, ◌∙◌, append-nil, length-append}
use Rattle.p21_spec_basics.proofs.Members.{Contains-flat_map, Contains-mapped, Contains-one_of, Contains-unmapped, Each-member, Each-of_members, Each-weaker}
use Rattle.p21_spec_basics.specs.Limits.{Limits}
use Rattle.p21_spec_laws.proofs.Ending.{ended-accepted, group-headings, unfit, unknown}
use Rattle.p21_spec_basics.proofs.Shuffles.{NoneTwice, distinct-none_twice, texts-none_twice}
use Rattle.p21_spec_laws.proofs.LongFiles.{headings-differ, last-line}
use Rattle.p21_spec_laws.proofs.SaidFiles.{Instance}
use Rattle.p21_spec_laws.proofs.Statements.{header-statement, heading-statement, headings-are, instances-are}
use Rattle.p21_spec_laws.specs.CompleteFile.{Block, Entry, SectionEntries, IsMeant, IsPrinted, Line, block_of_section, entries_in, lines_with_heading, section_of, structure_of}
use Rattle.p21_spec_laws.specs.SizeLaws.{framing}
use Rattle.p21_spec_laws.specs.Taken.{headings_among, instances_among, names_among}
use Rattle.p21_spec_laws.proofs.Among.{statements-tell}
use Rattle.p21_spec_laws.proofs.Growth.{names-of_unrefused}
use Rattle.p21_spec_laws.proofs.Sizes.{text-size}
use Rattle.p21_spec_laws.proofs.Waits.{none-waits}
use Rattle.p21_spec_laws.specs.Among.{parts_among}
use Rattle.p21_spec_laws.specs.UnrefusedStatements.{AreUnrefused, IsFitting, IsFound}
use Rattle.p21_spec_laws.specs.Offending.{IsUnserved, unfit as is_unfit, unknown as is_unknown}
use Rattle.p21_spec_laws.specs.Waiting.{Reference, references_in, references_of}
use Rattle.p21_spec_laws.specs.WholeLaws.{UnrefusedTextSize, UnrefusedHaveHeadings, UnrefusedAreAccepted, UnrefusedAreCompleteFile, LastTokenIsOfNoFile, UnservedReferenceIsNotAccepted, StatementsWithinUpToTail}
use Rattle.p21_spec_exchange.proofs.FirstBytes.{spelling_begins}
use Rattle.p21_spec_exchange.proofs.OneGap.{gap-one, begins-on}
use Rattle.p21_spec_exchange.proofs.Semicolons.{statements-end}
use Rattle.p21_spec_exchange.specs.DataSection.{AreHeadings, Heading, headings, instances_in, section_names}
use Rattle.p21_spec_exchange.specs.Grammar.{IsFile}
use Rattle.p21_spec_exchange.specs.Laying.{AreStatementsWithin, Laid, LaidAs, Lexeme, tokens_in}
use Rattle.p21_spec_exchange.specs.OpenNesting.{EndsWithSemicolon}
use Rattle.p21_spec_exchange.specs.Pending.{LaidUpTo, Tail}
use Rattle.p21_spec_exchange.specs.Record.{Part}
use Rattle.p21_spec_exchange.specs.Statement.{Statement, data_start, finish, header, section}
use Rattle.p21_spec_exchange.specs.Structure.{Structure, statements, tokens_of}
use Rattle.p21_spec_exchange.specs.Token.{IsWholeAtOnce, Token, semicolon}
use Rattle.p21_spec_file.specs.Accepted.{IsAccepted, IsLineWithin}
use Rattle.p21_spec_file.specs.File.{HeadingNamesSchema}
use Rattle.p21_spec_file.specs.Reference.{Need}
use Rattle.p21_spec_schema.specs.Schema.{Schema}
use Rattle.p21_spec_schema.specs.WellFormed.{IsWellFormed}
use Rattle.p21_tokens_automaton.proofs.OnePending.{append-rest, begins-no_separator, front-one}

-- ---- the last token

last-ends : (xs : List Token) (x : Token) → EndsWithSemicolon (xs ++ (x ∷ [])) → x ≡ semicolon
last-ends [] x ends = ends
last-ends (y ∷ []) x ends = ends
last-ends (y ∷ z ∷ xs) x ends = last-ends (z ∷ xs) x ends

pub last-token : LastTokenIsOfNoFile
last-token bytes given last at_once laid t text is_file same =
    let ends : EndsWithSemicolon (given ++ (last ∷ [])) = subst EndsWithSemicolon same (statements-end (statements t)) in
    let whole : IsWholeAtOnce last = subst IsWholeAtOnce (sym (last-ends given last ends)) tt in
    let (more, is) = at_once bytes [] given last (sym (append-nil bytes)) laid whole in
    let size = ap length is in
    let first = length-append (given ++ (last ∷ [])) more in
    let second = length-append given (last ∷ []) in
    omega (arith, size, first, second)

-- ---- statements within their limit

-- tokens up to a tail are those of a laying, with their sizes
same-lexemes : (ls ms : List Lexeme) (tail : Tail) (bytes : List ℕ) → LaidUpTo bytes ls tail → LaidAs bytes ms → tokens_in ls ≡ tokens_in ms → ls ≡ ms
same-lexemes [] [] tail bytes laid laid_ same = refl
same-lexemes [] (m ∷ ms) tail bytes laid laid_ same = cc
same-lexemes (l ∷ ls) [] tail bytes laid laid_ same = cc
same-lexemes (l ∷ ls) (m ∷ ms) tail bytes (gap, p, r, is, separates, spells, size, followed, laid) (gap_, q, w, is_, separates_, spells_, size_, followed_, laid_) same =
    let joined : p ++ r ≡ q ++ w = gap-one gap gap_ (p ++ r) (q ++ w) separates separates_ (begins-no_separator (p ++ r) (begins-on p r (spelling_begins l.token p spells))) (begins-no_separator (q ++ w) (begins-on q w (spelling_begins m.token q spells_))) (sym is ∙ is_) in
    let one = front-one l.token m.token p q r w spells spells_ followed followed_ joined in
    let behind : r ≡ w = append-rest p q r w one.size joined in
    let rest : tokens_in ls ≡ tokens_in ms = cc in
    let P : List ℕ → Type 0 = λ x. LaidUpTo x ls tail in
    ap (λ (t : Token). record { token = t; size = l.size } ∷ ls) one.token
    ∙ ap (λ (n : ℕ). record { token = m.token; size = n } ∷ ls) (size ∙ one.size ∙ sym size_)
    ∙ ap (λ (zs : List Lexeme). m ∷ zs) (same-lexemes ls ms tail w (subst P behind laid) laid_ rest)

pub within-up_to : StatementsWithinUpToTail
within-up_to bytes lexemes tail most up_to within tokens are laid =
    let P : List Lexeme → Type 0 = λ ls. AreStatementsWithin most 0 ls in
    subst P (same-lexemes lexemes laid.lexemes tail bytes up_to laid.laid (are ∙ sym laid.tokens_are)) within

-- ---- acceptance

-- what the statement of a section line or a header record gives
pub fits : (s : Schema) (limits : Limits) (given : List Statement) (groups : List SectionEntries) → AreUnrefused s limits given groups → (t : Structure) → statements t ≡ given → (statement : Statement) → Contains (statements t) statement → IsFitting s limits statement
fits s limits given groups unrefused t same statement among =
    let P : List Statement → Type 0 = λ sts. Contains sts statement in
    Each-member (IsFitting s limits) given statement unrefused.fitting (subst P same among)

-- a line of a group is the text of an entry
line-entry : (groups : List SectionEntries) (h : Heading) (l : Line) → Contains (flat_map lines_with_heading (map block_of_section groups)) (h, l) → (e : Entry) × Contains (entries_in groups) e × (e.text ≡ l.1)
line-entry groups h l among =
    let (b, at_b, found) = Contains-one_of lines_with_heading (map block_of_section groups) (h, l) among in
    let (g, at_g, is_b) = Contains-unmapped block_of_section groups b at_b in
    let (k, at_k, is_k) = Contains-unmapped (λ (x : Line). (b.heading, x)) b.lines (h, l) found in
    let P : Block → Type 0 = λ x. Contains x.lines k in
    let (e, at_e, is_e) = Contains-unmapped (λ (x : Entry). (x.name, x.text)) g.entries k (subst P (sym is_b) at_k) in
    (e, Contains-flat_map (λ (x : SectionEntries). x.entries) groups g e at_g at_e, ap (λ (x : Line). x.1) is_e ∙ ap (λ (x : Heading × Line). x.1.1) is_k)

pub unrefused-text_size : UnrefusedTextSize
unrefused-text_size s limits given groups blocks unrefused t text is_file same rising =
    let one : t ≡ structure_of (parts_among given) groups = statements-tell t given groups same unrefused.sections_are in
    let heads : headings t.sections ≡ map (λ (g : SectionEntries). g.heading) groups = ap (λ (x : Structure). headings x.sections) one ∙ group-headings groups in
    let found : headings_among given ≡ headings t.sections = ap headings_among (sym same) ∙ headings-are t in
    let N : List (List ℕ) → Type 0 = λ ns. IsDistinct bytes_eq ns in
    let differ : NoneTwice (headings t.sections) = headings-differ (headings t.sections) is_file.headings_are (texts-none_twice (section_names (headings t.sections)) (subst N (ap section_names found) unrefused.section_names_differ)) in
    let names = subst NoneTwice (names-of_unrefused s limits given groups unrefused) (distinct-none_twice (names_among given) unrefused.names_differ) in
    let size = text-size (parts_among given) groups blocks rising (subst NoneTwice heads differ) names in
    let framed : framing (statements (structure_of (parts_among given) groups)) ≡ framing given = ap framing (ap statements (sym one) ∙ same) in
    omega (arith, size, framed)

pub unrefused-ended : UnrefusedAreCompleteFile
unrefused-ended s limits bytes given groups blocks unrefused t text is_file same tokens tokens_are laid within short served rising =
    let parts : List Part = parts_among given in
    let u : Structure = structure_of parts groups in
    let one : t ≡ u = statements-tell t given groups same unrefused.sections_are in
    let fitting = fits s limits given groups unrefused t same in
    let sections : t.sections ≡ map section_of groups = ap (λ (x : Structure). x.sections) one in
    let heads : headings t.sections ≡ headings (map section_of groups) = ap headings sections in
    let F : Structure → Type 0 = λ x. IsFile x text in
    let H : List Heading → Type 0 = λ hs. Each (HeadingNamesSchema s.name) hs in
    let N : List (List ℕ) → Type 0 = λ ns. IsDistinct bytes_eq ns in
    let M : List ℕ → Type 0 = λ ns. IsDistinct nat_eq ns in
    let found : headings_among given ≡ headings t.sections = ap headings_among (sym same) ∙ headings-are t in
    let instances : instances_among given ≡ instances_in t.sections = ap instances_among (sym same) ∙ instances-are t in
    let third = is_file.header in
    let at_third : Contains t.header third.file_schema = (let P : List Part → Type 0 = λ ps. Contains ps third.file_schema in subst P (sym third.header_is) (2, omega arith, refl)) in
    let schema_line = fitting (header third.file_schema) (header-statement t third.file_schema at_third) in
    let last = fitting (section finish) (last-line t) in
    record {
      schema_text = text;
      in_grammar = record { laid = record { lexemes = laid.lexemes; tokens_are = laid.tokens_are ∙ sym tokens_are ∙ ap tokens_of one; laid = laid.laid }; is_file = subst F one is_file };
      names_schema = schema_line.1 text third.is_file_schema;
      sections_name_schema = subst H heads (Each-of_members (HeadingNamesSchema s.name) (headings t.sections) (λ h among. (fitting (section (data_start h)) (heading-statement t h among)).1));
      section_names_differ = subst N (ap section_names (found ∙ heads)) unrefused.section_names_differ;
      names_differ = subst M (ap (map (λ (i : Instance). i.0)) (instances ∙ ap instances_in sections)) unrefused.names_differ;
      meant = Each-weaker (IsFound s limits) (IsMeant s) (λ e is. is.meant) (entries_in groups) unrefused.found;
      printed = Each-weaker (IsFound s limits) (IsPrinted s) (λ e is. is.printed) (entries_in groups) unrefused.found;
      served = served;
      blocks_rise = rising;
      source_within = short;
      statements_within = within;
      file_within = (
          let size = unrefused-text_size s limits given groups blocks unrefused t text is_file same rising in
          let most = unrefused.size_within in
          omega (arith, size, most)
          );
      sections_within = last.0;
      headings_within = Each-of_members (λ (b : Block). IsLineWithin limits (section (data_start b.heading))) blocks (λ b at.
          let in_groups : Contains (map (λ (g : SectionEntries). g.heading) groups) b.heading = (rising.headings_are b.heading).0 (Contains-mapped (λ (x : Block). x.heading) blocks b at) in
          let P : List Heading → Type 0 = λ hs. Contains hs b.heading in
          (fitting (section (data_start b.heading)) (heading-statement t b.heading (subst P (sym (heads ∙ group-headings groups)) in_groups))).0
          );
      headers_within = Each-of_members (λ (part : Part). IsLineWithin limits (header part)) parts (λ part at.
          let P : List Part → Type 0 = λ ps. Contains ps part in
          (fitting (header part) (header-statement t part (subst P (sym (ap (λ (x : Structure). x.header) one)) at))).0
          );
      instances_within = Each-of_members (λ (b : Block). Each (λ (l : Line). length l.1 ≤ limits.record_canonical) b.lines) blocks (λ b at.
          Each-of_members (λ (l : Line). length l.1 ≤ limits.record_canonical) b.lines (λ l at_l.
          let placed : Contains (flat_map lines_with_heading blocks) (b.heading, l) = Contains-flat_map lines_with_heading blocks b (b.heading, l) at (Contains-mapped (λ (x : Line). (b.heading, x)) b.lines l at_l) in
          let (e, at_e, is) = line-entry groups b.heading l ((rising.lines_are (b.heading, l)).0 placed) in
          let fit = (Each-member (IsFound s limits) (entries_in groups) e unrefused.found at_e).within in
          let size = ap length is in
          omega (arith, fit, size)
          )
          );
    }

pub unrefused-headings : UnrefusedHaveHeadings
unrefused-headings s limits given groups unrefused t text is_file same =
    let one : t ≡ structure_of (parts_among given) groups = statements-tell t given groups same unrefused.sections_are in
    subst AreHeadings (ap (λ (x : Structure). headings x.sections) one ∙ group-headings groups) is_file.headings_are

pub unrefused-accepted : UnrefusedAreAccepted
unrefused-accepted s formed limits bytes given groups blocks unrefused t text is_file same tokens tokens_are laid within short waiting is served rising =
    ended-accepted s formed limits bytes (parts_among given) groups blocks (unrefused-ended s limits bytes given groups blocks unrefused t text is_file same tokens tokens_are laid within short (none-waits s (entries_in groups) waiting is served) rising)

-- ---- references

-- a reference that waits is a need of an entry
reference-of : (entries : List Entry) (r : Reference) → Contains (references_in entries) r → (e : Entry) × Contains entries e × Contains e.needs r.1
reference-of entries r among =
    let (e, at, found) = Contains-one_of references_of entries r among in
    let (need, at_need, is) = Contains-unmapped (λ (x : Need). (e.name, x)) e.needs r found in
    let P : Need → Type 0 = λ x. Contains e.needs x in
    (e, at, subst P (ap (λ (x : Reference). x.1) is) at_need)

refused-for : (s : Schema) → IsWellFormed s → (limits : Limits) (bytes : List ℕ) (parts : List Part) (groups : List SectionEntries) → Laid bytes (tokens_of (structure_of parts groups)) → Each (IsMeant s) (entries_in groups)
    → (e : Entry) (r : Reference) (number : ℕ) → Contains (entries_in groups) e → Contains e.needs r.1 → IsUnserved s (entries_in groups) r number → ¬ IsAccepted s limits bytes
refused-for s formed limits bytes parts groups laid each e r number at need (is_unknown _ none) = unknown s formed limits bytes parts groups laid each e r.1 at need none
refused-for s formed limits bytes parts groups laid each e r number at need (is_unfit _ target at_ name none) = unfit s formed limits bytes parts groups laid each e target r.1 at need at_ name none

pub unserved-not_accepted : UnservedReferenceIsNotAccepted
unserved-not_accepted s formed limits bytes given groups unrefused t same laid waiting is reference number among why =
    let (e, at, need) = reference-of (entries_in groups) reference (Each-member (Contains (references_in (entries_in groups))) waiting reference is.are_needs among) in
    let one : t ≡ structure_of (parts_among given) groups = statements-tell t given groups same unrefused.sections_are in
    let P : Structure → Type 0 = λ x. Laid bytes (tokens_of x) in
    let each : Each (IsMeant s) (entries_in groups) = Each-weaker (IsFound s limits) (IsMeant s) (λ x found. found.meant) (entries_in groups) unrefused.found in
    refused-for s formed limits bytes (parts_among given) groups (subst P one laid) each e reference number at need why
