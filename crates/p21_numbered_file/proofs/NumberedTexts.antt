-- The numbered file of a text, from its instances and their lines.
use Rattle.std.specs.Prelude.{◌≡◌, ◌≤◌, ◌<◌, ◌^◌, ℕ, zero, suc, List, [], ◌∷◌, ◌++◌, map, length, refl, slice_get, slice_index_or, Option, Some, Err, Contains, IsPermutation}
use Rattle.std.specs.Global.{Vec}
use denote.Ref.{Bor}
use Rattle.std.specs.List.{AllZip, IsDistinct, AllByRecursion as Each}
use Rattle.std.specs.Str.{bytes_eq}
use Rattle.std.proofs.Common.{append_assoc, arith, ap, get_or, sym, subst, inl, inr, ◌∙◌}
use Rattle.std.proofs.lemmas.List.{length-map, map-append}
use Rattle.std.proofs.lemmas.List.Sorted.{Contains-permutation, IsPermutation-sym}
use Rattle.std.proofs.lemmas.Option.{slice_get_within}
use Rattle.std.proofs.lemmas.Slice.Zip.{AllZip-long}
use Rattle.p21_spec_basics.proofs.Members.{AllZip-member, Contains-cases, Contains-first, Contains-later, Contains-mapped, Contains-none, Contains-unmapped, Each-member, Each-of_members}
use Rattle.p21_spec_basics.proofs.Shuffles.{NoneTwice, Shuffled, Shuffled-reflexive, distinct-none_twice, one-keyed}
use Rattle.p21_spec_basics.specs.Limits.{Limits}
use Rattle.p21_spec_exchange.specs.CanonicalText.{tokens_text}
use Rattle.p21_spec_exchange.specs.DataSection.{AreHeadings, Heading, headings, section_names}
use Rattle.p21_spec_exchange.specs.Record.{record_tokens}
use Rattle.p21_spec_exchange.specs.Statement.{Statement, instance, statement_tokens}
use Rattle.p21_spec_exchange.specs.Text.{IsGraphic}
use Rattle.p21_spec_exchange.specs.Token.{IsSpelled, semicolon}
use Rattle.p21_spec_file.specs.Accepted.{IsAccepted, IsCanonicalOf, Means}
use Rattle.p21_spec_file.specs.File.{FileMeaning, Reads}
use Rattle.p21_spec_file.specs.Meaning.{Typed}
use Rattle.p21_spec_laws.proofs.CanonicalLaid.{laid-each_spelled}
use Rattle.p21_spec_laws.proofs.FileTheorems.{one-meaning}
use Rattle.p21_spec_laws.proofs.GraphicTexts.{lines-graphic}
use Rattle.p21_spec_laws.specs.CompleteFile.{Line}
use Rattle.p21_spec_laws.specs.Stored.{StoredEntry}
use Rattle.p21_spec_schema.specs.Schema.{Schema}
use Rattle.p21_spec_schema.specs.WellFormed.{IsWellFormed}
use Rattle.p21_spec_numbering.proofs.Orders.{number-injective}
use Rattle.p21_spec_numbering.proofs.Reading.{reads-whole}
use Rattle.p21_spec_numbering.specs.Claim.{IsNumberedFile}
use Rattle.p21_spec_numbering.specs.Laws.{ranking_of}
use Rattle.p21_spec_numbering.specs.Numbered.{heading_label}
use Rattle.p21_spec_numbering.specs.Ordered.{number_in}
use Rattle.p21_spec_numbering.specs.Renamed.{IsInjectiveOn, IsWhole, names, renamed, renamed_typed}
use Rattle.p21_canon.specs.Statement.{IsCanonicalStatement}
use Rattle.p21_grammar_tree.specs.declared.record.Part.{Part}
use Rattle.p21_mapping_values.specs.TypedView.{typed_view}
use Rattle.p21_numbering.specs.Instances.{AreInstancesOf, Instance, IsInstanceOf, file_instance, file_instances, names_of, no_instance}
use Rattle.p21_numbering.specs.declared.instances.Instance.{Instance as Code}
use Rattle.p21_numbering.specs.NodesOf.{HasKnownParts}
use Rattle.p21_numbering.specs.Ordering.{Orders}
use Rattle.p21_numbering.specs.declared.orders.Unordered.{Unordered}
use Rattle.p21_numbering.specs.declared.orders.Unordered.TheVariants as unordered
use Rattle.p21_numbering.specs.Rows.{lent_rows}
use Rattle.p21_numbered.proofs.Numbering.{kept-only_renamed, kept-renamed, numbered-is}
use Rattle.p21_numbered.specs.Kept.{IsEntryUnder, IsKeptUnder}
use Rattle.p21_numbered.specs.Lines.{AreNumbered, AreOfFile, IsLineUnder}
use Rattle.p21_numbered.specs.NumberedLaws.{AreWritten}
use Rattle.p21_stream_output.specs.Ending.{line_of}
use Rattle.p21_stream_output.specs.Output.{IsNamed, Output, output_text}
use Rattle.p21_stream_store.specs.StoredInstance.{StoredInstance}
use Rattle.p21_numbered_file.specs.Assembly.{IsPutTogether, IsReady, entry_row, entry_rows, line_names, put_together}
use Rattle.p21_numbered_file.specs.Headings.{AreTextsOf, heading_in, headings_in, label_in}
use Rattle.p21_numbered_file.specs.Instances.{instance_in, texts_at}
use Rattle.p21_numbered_file.specs.Pairing.{AreLinesOfRenamed, IsLineOfRenamed}
use Rattle.p21_numbered_file.specs.Numbering.{HasNone, IsTooLong, IsWithin, unnumbered_of}
use Rattle.p21_numbered_file.specs.declared.numbering.Unnumbered.{Unnumbered}
use Rattle.p21_numbered_file.specs.Reading.{IsPlaced, IsReadOf, meant_of}
use Rattle.p21_numbered_file.specs.declared.read_file.ReadFile.{ReadFile}
use Rattle.p21_numbered_file.specs.declared.read_file.ReadInstance.{ReadInstance}

-- ---- lists

each-index : {X : Type 0} (P : X → Type 0) (xs : List X) (k : ℕ) (d : X) → Each P xs → k < length xs → P (slice_index_or xs k d)
each-index P [] k d each low = absurd (omega (arith, low))
each-index P (x ∷ xs) zero d each low = each.0
each-index P (x ∷ xs) (suc k) d each low = each-index P xs k d each.1 (omega (arith, low))

mapped-once : (f : ℕ → ℕ) (ns : List ℕ) → IsInjectiveOn ns f → NoneTwice ns → NoneTwice (map f ns)
mapped-once f [] injective none = tt
mapped-once f (n ∷ ns) injective none = (
  λ among. (let (m, at, same) = Contains-unmapped f ns (f n) among in
      let one : m ≡ n = injective m n (Contains-later n ns m at) (Contains-first n ns) same in
      let P : ℕ → Type 0 = λ k. Contains ns k in
      none.0 (subst P one at)),
  mapped-once f ns (λ j k at at_ same. injective j k (Contains-later n ns j at) (Contains-later n ns k at_) same) none.1,
)

-- rows of numbers and lines, beside what has these numbers
row-of : (R : Instance → Line → Type 0) (f : ReadInstance → Instance) (is : List ReadInstance) (ls : List Line) → AllZip R (map f is) ls
    → (e : StoredEntry) → Contains (entry_rows (map (λ (i : ReadInstance). i.section) is) ls) e
    → (i : ReadInstance) × (l : Line) × Contains is i × R (f i) l × (entry_row (i.section, l) ≡ e)
row-of R f [] [] zipped e among = absurd (Contains-none e among)
row-of R f [] (l ∷ ls) zipped e among = absurd zipped
row-of R f (i ∷ is) [] zipped e among = absurd zipped
row-of R f (i ∷ is) (l ∷ ls) zipped e among = elim (Contains-cases (entry_row (i.section, l))
    (entry_rows (map (λ (j : ReadInstance). j.section) is) ls) e among) [
      | inl same ↦ (i, l, Contains-first i is, zipped.0, same)
      | inr far ↦ (let (j, m, at, holds, same) = row-of R f is ls zipped.1 e far in (j, m, Contains-later i is j at, holds, same))
    ]

row-for : (R : Instance → Line → Type 0) (f : ReadInstance → Instance) (is : List ReadInstance) (ls : List Line) → AllZip R (map f is) ls
    → (i : ReadInstance) → Contains is i
    → (l : Line) × R (f i) l × Contains (entry_rows (map (λ (j : ReadInstance). j.section) is) ls) (entry_row (i.section, l))
row-for R f [] [] zipped i among = absurd (Contains-none i among)
row-for R f [] (l ∷ ls) zipped i among = absurd zipped
row-for R f (j ∷ is) [] zipped i among = absurd zipped
row-for R f (j ∷ is) (l ∷ ls) zipped i among = elim (Contains-cases j is i among) [
  | inl same ↦ (
      let P : ReadInstance → Type 0 = λ k. R (f k) l × Contains (entry_rows (map (λ (x : ReadInstance). x.section) (j ∷ is)) (l ∷ ls))
      (entry_row (k.section, l)) in
      let both = subst P same (
        zipped.0,
        Contains-first (entry_row (j.section, l))
            (entry_rows (map (λ (x : ReadInstance). x.section) is) ls),
      ) in
      (l, both.0, both.1))
  | inr far ↦ (
      let (m, holds, at) = row-for R f is ls zipped.1 i far in (
        m,
        holds,
        Contains-later (entry_row (j.section, l)) (entry_rows (map (λ (x : ReadInstance). x.section) is) ls)
            (entry_row (i.section, m)) at,
      ))
]

-- the texts of the section at a position
pub texts-found : (texts : List (Vec (Bor (List ℕ)))) (k : ℕ) (row : Vec (Bor (List ℕ))) → k < length texts → row ≡ get_or texts k row
    → texts_at texts k ≡ lent_rows row.items
texts-found [] k row low at = absurd (omega (arith, low))
texts-found (t ∷ ts) zero row low at = ap (λ (r : Vec (Bor (List ℕ))). lent_rows r.items) (sym at)
texts-found (t ∷ ts) (suc k) row low at = texts-found ts k row (omega (arith, low)) at

-- one instance more
pub named-more : (texts : List (Vec (Bor (List ℕ)))) (all : List Instance) (old new : List Code) (left rest : List ReadInstance)
    (one : ReadInstance) (made : Code) → left ≡ one ∷ rest → new ≡ old ++ made ∷ [] → file_instance made ≡ instance_in texts one
    → file_instances old ++ map (instance_in texts) left ≡ all → file_instances new ++ map (instance_in texts) rest ≡ all
named-more texts all old new left rest one made left_is new_is same so_far =
    ap (λ (xs : List Code). file_instances xs ++ map (instance_in texts) rest) new_is
    ∙ ap (λ (xs : List Instance). xs ++ map (instance_in texts) rest) (map-append file_instance old (made ∷ []))
    ∙ append_assoc (file_instances old) (file_instance made ∷ []) (map (instance_in texts) rest)
    ∙ ap (λ (i : Instance). file_instances old ++ i ∷ map (instance_in texts) rest) same
    ∙ ap (λ (xs : List ReadInstance). file_instances old ++ map (instance_in texts) xs) (sym left_is)
    ∙ so_far

-- a line under a name begins with it, and holds graphic bytes alone
line-named : (s : Schema) (n : ℕ) (x : Typed) (text : List ℕ) → IsCanonicalStatement s n x text → IsNamed n text
line-named s n x text is =
    let statement : Statement = instance n is.canonical in
    let spelled : Each IsSpelled (statement_tokens statement) = laid-each_spelled text (statement_tokens statement) is.laid in
    let G : List ℕ → Type 0 = λ bytes. Each IsGraphic bytes in
    ((tokens_text (record_tokens is.canonical ++ (semicolon ∷ [])), is.text_is), subst G (sym is.text_is) (lines-graphic statement spelled))

-- and its name can be written
name-low : (s : Schema) (n : ℕ) (x : Typed) (text : List ℕ) → IsCanonicalStatement s n x text → n < 2 ^ 64
name-low s n x text is =
    let spelled : Each IsSpelled (statement_tokens (instance n is.canonical)) =
    laid-each_spelled text (statement_tokens (instance n is.canonical)) is.laid in
    spelled.0.1.in_range

-- ---- an accepted text

-- what it means within the limits
pub meant-within : (s : Schema) → IsWellFormed s → (limits : Limits) (text : List ℕ) (m : FileMeaning) → Reads s text m
    → IsAccepted s limits text → Means s limits text m
meant-within s formed limits text m reads accepted =
    let one : accepted.0 ≡ m = one-meaning s formed text accepted.0 m accepted.1.reads reads in
    let P : FileMeaning → Type 0 = λ n. Means s limits text n in
    subst P one accepted.1

-- where its instances have no order it has no numbered file
pub none-ordered : (s : Schema) (limits : Limits) (text : List ℕ) (m : FileMeaning) (fault : Unordered) (result : Unnumbered)
    → Means s limits text m → Orders (ranking_of s) m (Err fault) → result ≡ unnumbered_of fault → HasNone s limits text result
none-ordered s limits text m fault result means orders is = let P : Unnumbered
    → Type 0 = λ r. HasNone s limits text r in subst P (sym is) (own fault orders)
  where
    own : (f : Unordered) → Orders (ranking_of s) m (Err f) → HasNone s limits text (unnumbered_of f)
    own (unordered.Alike j k) alike = record { meaning = m; means = means; alike = alike }
    own unordered.NoMemory none = tt

-- ---- the instances of a text

texts-at : (sections : List (Option Part)) (all : List (Vec (Bor (List ℕ)))) → AreTextsOf sections all → (k : ℕ) (h : Heading)
    → slice_get (headings_in sections) k ≡ Some h → texts_at all k ≡ heading_label (Some h)
texts-at [] all are k h at = cc
texts-at (x ∷ xs) [] are k h at = absurd are
texts-at (x ∷ xs) (t ∷ ts) are zero h at = are.0 ∙ ap (λ (o : Option Heading). heading_label o) at
texts-at (x ∷ xs) (t ∷ ts) are (suc k) h at = texts-at xs ts are.1 k h at

module _ (s : Schema) (formed : IsWellFormed s) (text : List ℕ) (read : ReadFile) (is : IsReadOf s text read)
    (texts : List (Vec (Bor (List ℕ)))) (are : AreTextsOf read.sections.items texts) where
  pub sections-low : Each (λ (i : ReadInstance). i.section < length texts) read.instances.items
  sections-low = Each-of_members (λ (i : ReadInstance). i.section < length texts) read.instances.items (λ i among.
      let own = Each-member (IsPlaced s is.meaning) read.instances.items i is.placed among in
      let low = slice_get_within is.meaning.sections i.section own.heading own.section_is in
      let many = ap (λ (hs : List Heading). length hs) is.headings_are in
      let long = length-map read.sections.items heading_in in
      let size = AllZip-long (λ (section : Option Part) (row : Vec (Bor (List ℕ))). lent_rows row.items ≡ label_in section)
      read.sections.items texts are in
      omega (arith, low, many, long, size))

  whole_ : IsWhole is.meaning
  whole_ = (reads-whole s formed text is.meaning is.reads).0

  instance-is : (i : ReadInstance) → Contains read.instances.items i → IsInstanceOf is.meaning (instance_in texts i)
  instance-is i among =
      let own = Each-member (IsPlaced s is.meaning) read.instances.items i is.placed among in
      let H : List Heading → Type 0 = λ hs. slice_get hs i.section ≡ Some own.heading in
      let M : List (ℕ × Typed) → Type 0 = λ xs. Contains xs (meant_of i) in
      record {
        section = own.heading;
        instance = subst M is.instances_are (Contains-mapped meant_of read.instances.items i among);
        in_section = own.in_section;
        heading_is = texts-at read.sections.items texts are i.section own.heading (subst H (sym is.headings_are) own.section_is);
      }

  pub all-names : names_of (map (instance_in texts) read.instances.items) ≡ names is.meaning
  all-names = own read.instances.items ∙ ap (λ (xs : List (ℕ × Typed)). map (λ (i : ℕ × Typed). i.0) xs) is.instances_are
    where
      own : (xs : List ReadInstance) → names_of (map (instance_in texts) xs) ≡ map (λ (i : ℕ × Typed). i.0) (map meant_of xs)
      own [] = refl
      own (x ∷ xs) = ap (λ (ns : List ℕ). x.name ∷ ns) (own xs)

  pub are-instances : AreInstancesOf is.meaning (map (instance_in texts) read.instances.items)
  are-instances =
      let P : List ℕ → Type 0 = λ ns. Shuffled (names_of (map (instance_in texts) read.instances.items)) ns in
      record {
        names_are = subst P all-names (Shuffled-reflexive (names_of (map (instance_in texts) read.instances.items)));
        each = λ k low. each-index (IsInstanceOf is.meaning) (map (instance_in texts) read.instances.items) k no_instance
            (Each-of_members (IsInstanceOf is.meaning) (map (instance_in texts) read.instances.items) member) low;
      }
    where
      member : (j : Instance) → Contains (map (instance_in texts) read.instances.items) j → IsInstanceOf is.meaning j
      member j among =
          let (i, at, same) = Contains-unmapped (instance_in texts) read.instances.items j among in
          subst (IsInstanceOf is.meaning) same (instance-is i at)

  pub of-file : AreOfFile s (map (instance_in texts) read.instances.items)
  of-file = record { bytes = text; meaning = is.meaning; reads = is.reads; are = are-instances }

  pub all-known : Each (λ (i : Instance). HasKnownParts s i.typed) (map (instance_in texts) read.instances.items)
  all-known = Each-of_members (λ (i : Instance). HasKnownParts s i.typed) (map (instance_in texts) read.instances.items) (λ j among.
      let (i, at, same) = Contains-unmapped (instance_in texts) read.instances.items j among in
      let P : Instance → Type 0 = λ k. HasKnownParts s k.typed in
      subst P same (Each-member (IsPlaced s is.meaning) read.instances.items i is.placed at).known)

  -- ---- their lines

  module _ (f : ℕ → ℕ) (once : IsInjectiveOn (names is.meaning) f) (lines : List Line)
      (under : AllZip (IsLineUnder s f) (map (instance_in texts) read.instances.items) lines) where
    named-lines : (xs : List Instance) (ls : List Line) → AllZip (IsLineUnder s f) xs ls
        → (line_names ls ≡ map f (names_of xs)) × Each (λ (l : Line). IsNamed l.0 l.1) ls
    named-lines [] [] zipped = (refl, tt)
    named-lines [] (l ∷ ls) zipped = absurd zipped
    named-lines (x ∷ xs) [] zipped = absurd zipped
    named-lines (x ∷ xs) (l ∷ ls) zipped =
        let rest = named-lines xs ls zipped.1 in
        let N : ℕ → Type 0 = λ n. IsNamed n l.1 in (
          ap (λ (n : ℕ). n ∷ line_names ls) zipped.0.0 ∙ ap (λ (ns : List ℕ). f x.name ∷ ns) rest.0,
          (subst N (sym zipped.0.0) (line-named s (f x.name) (renamed_typed f x.typed) l.1 zipped.0.1), rest.1),
        )

    pub ready-under : IsReady read.sections.items (map (λ (i : ReadInstance). i.section) read.instances.items) lines
    ready-under =
        let own = named-lines (map (instance_in texts) read.instances.items) lines under in
        let P : List Heading → Type 0 = λ hs. AreHeadings hs in
        let D : List Heading → Type 0 = λ hs. IsDistinct bytes_eq (section_names hs) in
        let same : headings is.reads.structure.sections ≡ headings_in read.sections.items = sym is.reads.sections_are
        ∙ sym is.headings_are in
        let N : List ℕ → Type 0 = λ ns. NoneTwice ns in
        let one = length-map read.instances.items (λ (i : ReadInstance). i.section) in
        let two = length-map read.instances.items (instance_in texts) in
        let three = AllZip-long (IsLineUnder s f) (map (instance_in texts) read.instances.items) lines under in
        record {
          as_many = omega (arith, one, two, three);
          of_sections = Each-of_members (λ (k : ℕ). k < length read.sections.items)
              (map (λ (i : ReadInstance). i.section) read.instances.items) low;
          once = subst N (sym (own.0 ∙ ap (map f) all-names))
              (mapped-once f (names is.meaning) once (distinct-none_twice (names is.meaning) whole_.names_differ));
          named = own.1;
          headings = subst P same is.reads.in_grammar.is_file.headings_are;
          sections_once = subst D same is.reads.section_names_differ;
        }
      where
        low : (k : ℕ) → Contains (map (λ (i : ReadInstance). i.section) read.instances.items) k → k < length read.sections.items
        low k among =
            let (i, at, same) = Contains-unmapped (λ (j : ReadInstance). j.section) read.instances.items k among in
            let own = Each-member (IsPlaced s is.meaning) read.instances.items i is.placed at in
            let within = slice_get_within is.meaning.sections i.section own.heading own.section_is in
            let many = ap (λ (hs : List Heading). length hs) is.headings_are in
            let long = length-map read.sections.items heading_in in
            omega (arith, same, within, many, long)

    -- what is put together is what is kept of the file with the new names
    module _ (stored : List StoredEntry) (rows : IsPermutation
        (entry_rows (map (λ (i : ReadInstance). i.section) read.instances.items) lines) stored) where
      entry-is : (i : ReadInstance) → Contains read.instances.items i → (l : Line) → IsLineUnder s f (instance_in texts i) l → (h : Heading)
          → Contains is.meaning.instance_sections (i.name, h)
          → IsEntryUnder s f (headings_in read.sections.items) i.name (typed_view i.typed) h (entry_row (i.section, l))
      entry-is i among l line h at =
          let own = Each-member (IsPlaced s is.meaning) read.instances.items i is.placed among in
          let D : List ℕ → Type 0 = λ ns. NoneTwice ns in
          let by_name : NoneTwice (map (λ (p : ℕ × Heading). p.0) is.meaning.instance_sections) =
          subst D (sym whole_.in_sections) (distinct-none_twice (names is.meaning) whole_.names_differ) in
          let one : own.heading ≡ h = ap (λ (p : ℕ × Heading). p.1)
          (one-keyed (λ (p : ℕ × Heading). p.0) is.meaning.instance_sections by_name (i.name, own.heading) (i.name, h) own.in_section at
          refl) in
          let H : List Heading → Type 0 = λ hs. slice_get hs i.section ≡ Some own.heading in
          record {
            name_is = line.0;
            in_section = subst H (sym is.headings_are) own.section_is ∙ ap (λ (k : Heading). Some k) one;
            line_is = line.1;
          }

      kept-under : IsKeptUnder s is.meaning f (put_together read.header.items read.sections.items stored)
      kept-under = record {
        header_is = is.header_is;
        headings_are = is.headings_are;
        onto = λ n x h at at_h.
            let M : List (ℕ × Typed) → Type 0 = λ xs. Contains xs (n, x) in
            let (i, at_i, same) = Contains-unmapped meant_of read.instances.items (n, x) (subst M (sym is.instances_are) at) in
            let name : i.name ≡ n = ap (λ (p : ℕ × Typed). p.0) same in
            let typed_ : typed_view i.typed ≡ x = ap (λ (p : ℕ × Typed). p.1) same in
            let (l, line, row) = row-for (IsLineUnder s f) (instance_in texts) read.instances.items lines under i at_i in
            let H : ℕ → Type 0 = λ k. Contains is.meaning.instance_sections (k, h) in
            let own = entry-is i at_i l line h (subst H (sym name) at_h) in
            let E : ℕ → Type 0 = λ k. IsEntryUnder s f (headings_in read.sections.items) k (typed_view i.typed) h
            (entry_row (i.section, l)) in
            let F : Typed → Type 0 = λ y. IsEntryUnder s f (headings_in read.sections.items) n y h (entry_row (i.section, l)) in (
              entry_row (i.section, l),
              Contains-permutation (entry_rows (map (λ (j : ReadInstance). j.section) read.instances.items) lines) stored
                  (entry_row (i.section, l)) rows row,
              subst F typed_ (subst E name own),
            );
        back = λ e at.
            let turned = IsPermutation-sym (entry_rows (map (λ (j : ReadInstance). j.section) read.instances.items) lines) stored rows in
            let (i, l, at_i, line, same) = row-of (IsLineUnder s f) (instance_in texts) read.instances.items lines under e
            (Contains-permutation stored (entry_rows (map (λ (j : ReadInstance). j.section) read.instances.items) lines) e turned at) in
            let own = Each-member (IsPlaced s is.meaning) read.instances.items i is.placed at_i in
            let M : List (ℕ × Typed) → Type 0 = λ xs. Contains xs (meant_of i) in
            let E : StoredEntry → Type 0 = λ x. IsEntryUnder s f (headings_in read.sections.items) i.name (typed_view i.typed) own.heading
            x in (
              i.name,
              typed_view i.typed,
              own.heading,
              subst M is.instances_are (Contains-mapped meant_of read.instances.items i at_i),
              own.in_section,
              subst E same (entry-is i at_i l line own.heading own.in_section),
            );
      }

      stored-short : (most : ℕ) → Each (λ (l : Line). length l.1 ≤ most) lines → Each (λ (x : StoredEntry). length x.text ≤ most) stored
      stored-short most short = Each-of_members (λ (x : StoredEntry). length x.text ≤ most) stored (λ e at.
          let turned = IsPermutation-sym (entry_rows (map (λ (j : ReadInstance). j.section) read.instances.items) lines) stored rows in
          text-short (map (λ (j : ReadInstance). j.section) read.instances.items) lines e short
          (Contains-permutation stored (entry_rows (map (λ (j : ReadInstance). j.section) read.instances.items) lines) e turned at))
        where
          text-short : (ps : List ℕ) (ls : List Line) (e : StoredEntry) → Each (λ (l : Line). length l.1 ≤ most) ls
              → Contains (entry_rows ps ls) e → length e.text ≤ most
          text-short [] ls e each among = absurd (Contains-none e among)
          text-short (p ∷ ps) [] e each among = absurd (Contains-none e among)
          text-short (p ∷ ps) (l ∷ ls) e each among = elim (Contains-cases (entry_row (p, l)) (entry_rows ps ls) e among) [
            | inl same ↦ (let P : StoredEntry → Type 0 = λ x. length x.text ≤ most in subst P same each.0)
            | inr far ↦ text-short ps ls e each.1 far
          ]

      lines-short : (most : ℕ) → Each (λ (x : StoredEntry). length x.text ≤ most) stored → Each (λ (l : Line). length l.1 ≤ most) lines
      lines-short most short = own (map (λ (j : ReadInstance). j.section) read.instances.items) lines ready-under.as_many
          (λ e at. Each-member (λ (x : StoredEntry). length x.text ≤ most) stored e short
          (Contains-permutation (entry_rows (map (λ (j : ReadInstance). j.section) read.instances.items) lines) stored e rows at))
        where
          own : (ps : List ℕ) (ls : List Line) → length ps ≡ length ls
              → ((e : StoredEntry) → Contains (entry_rows ps ls) e → length e.text ≤ most) → Each (λ (l : Line). length l.1 ≤ most) ls
          own ps [] same each = tt
          own [] (l ∷ ls) same each = cc
          own (p ∷ ps) (l ∷ ls) same each = (
            each (entry_row (p, l)) (Contains-first (entry_row (p, l)) (entry_rows ps ls)),
            own ps ls (omega (arith, same)) (λ e at. each e (Contains-later (entry_row (p, l)) (entry_rows ps ls) e at)),
          )

    -- ---- the file

    module _ (limits : Limits) (accepted : IsAccepted s limits text) (output : Output)
        (put : IsPutTogether read.header.items read.sections.items (map (λ (i : ReadInstance). i.section) read.instances.items) lines
        output) where
      means_ : Means s limits text is.meaning
      means_ = meant-within s formed limits text is.meaning is.reads accepted

      -- each new name stands in a line
      written : AreWritten is.meaning f
      written n among =
          let M : List ℕ → Type 0 = λ ns. Contains ns n in
          let (i, at, same) = Contains-unmapped (λ (j : Instance). j.name) (map (instance_in texts) read.instances.items) n
          (subst M (sym all-names) among) in
          let (l, at_l, line) = AllZip-member (IsLineUnder s f) (map (instance_in texts) read.instances.items) lines i under at in
          let P : ℕ → Type 0 = λ k. f k < 2 ^ 64 in
          subst P same (name-low s (f i.name) (renamed_typed f i.typed) l.1 line.1)

      -- the file is the canonical one of the meaning with the new names
      pub is-renamed : IsWithin limits (output_text output) lines → IsCanonicalOf s limits (renamed f is.meaning) (output_text output)
      is-renamed (short, short_lines) =
          let P : List ℕ → Type 0 = λ bytes. length bytes ≤ limits.file_canonical in
          let N : List ℕ → Type 0 = λ bytes. IsCanonicalOf s limits (renamed f is.meaning) bytes in
          subst N (sym put.text_is)
          (kept-renamed s formed limits text is.meaning means_ f once written
          (put_together read.header.items read.sections.items put.stored) (kept-under put.stored put.are_rows) put.blocks put.are_blocks
          (subst P put.text_is short) (stored-short put.stored put.are_rows limits.record_canonical short_lines))

      -- its lines are those of the instances with the new names
      pub lines-renamed : AreLinesOfRenamed s f is.meaning output.kept
      lines-renamed = record { onto = onto; back = back }
        where
          onto : (i : ℕ × Typed) → Contains is.meaning.instances i
              → (line : StoredInstance) × Contains output.kept line × IsLineOfRenamed s f i line
          onto i at =
              let N : List ℕ → Type 0 = λ ns. Contains ns i.0 in
              let (placed, at_placed, same) = Contains-unmapped (λ (p : ℕ × Heading). p.0) is.meaning.instance_sections i.0
              (subst N (sym whole_.in_sections) (Contains-mapped (λ (p : ℕ × Typed). p.0) is.meaning.instances i at)) in
              let H : ℕ → Type 0 = λ k. Contains is.meaning.instance_sections (k, placed.1) in
              let (e, at_e, entry) = (kept-under put.stored put.are_rows).onto i.0 i.1 placed.1 at (subst H same at_placed) in
              let L : List Line → Type 0 = λ ls. Contains ls (e.name, e.text) in
              let (line, at_line, is_line) = Contains-unmapped line_of output.kept (e.name, e.text)
              (subst L (sym put.lines_are) (Contains-mapped (λ (x : StoredEntry). (x.name, x.text)) put.stored e at_e)) in
              let S : List ℕ → Type 0 = λ t. IsCanonicalStatement s (f i.0) (renamed_typed f i.1) t in (
                line,
                at_line,
                (ap (λ (l : Line). l.0) is_line ∙ entry.name_is, subst S (sym (ap (λ (l : Line). l.1) is_line)) entry.line_is),
              )

          back : (line : StoredInstance) → Contains output.kept line
              → (i : ℕ × Typed) × Contains is.meaning.instances i × IsLineOfRenamed s f i line
          back line at =
              let L : List Line → Type 0 = λ ls. Contains ls (line_of line) in
              let (e, at_e, is_line) = Contains-unmapped (λ (x : StoredEntry). (x.name, x.text)) put.stored (line_of line)
              (subst L put.lines_are (Contains-mapped line_of output.kept line at)) in
              let (n, x, h, at_n, at_h, entry) = (kept-under put.stored put.are_rows).back e at_e in
              let S : List ℕ → Type 0 = λ t. IsCanonicalStatement s (f n) (renamed_typed f x) t in (
                (n, x),
                at_n,
                (sym (ap (λ (l : Line). l.0) is_line) ∙ entry.name_is, subst S (ap (λ (l : Line). l.1) is_line) entry.line_is),
              )

      -- where it isn't within the limits there is none
      pub none-renamed : ¬ IsWithin limits (output_text output) lines → (bytes : List ℕ)
          → ¬ IsCanonicalOf s limits (renamed f is.meaning) bytes
      none-renamed long bytes found =
          let (same, short) = kept-only_renamed s formed limits text is.meaning means_ f once written
          (put_together read.header.items read.sections.items put.stored) (kept-under put.stored put.are_rows) put.blocks put.are_blocks
          bytes found in
          let P : List ℕ → Type 0 = λ xs. length xs ≤ limits.file_canonical in
          long (subst P (same ∙ sym put.text_is) found.file_within, lines-short put.stored put.are_rows limits.record_canonical short)

  -- ---- under the numbers that the model gives

  module _ (lines : List Line) (numbered : AreNumbered s is.meaning (map (instance_in texts) read.instances.items) lines) where
    numbers-once : IsInjectiveOn (names is.meaning) (number_in numbered.order)
    numbers-once j k among among_ one = number-injective numbered.order j k ((numbered.aligned.is_order.all j).0 among)
        ((numbered.aligned.is_order.all k).0 among_) one

    pub is-ready : IsReady read.sections.items (map (λ (i : ReadInstance). i.section) read.instances.items) lines
    is-ready = ready-under (number_in numbered.order) numbers-once lines numbered.lines_are

    module _ (limits : Limits) (accepted : IsAccepted s limits text) (output : Output)
        (put : IsPutTogether read.header.items read.sections.items (map (λ (i : ReadInstance). i.section) read.instances.items) lines
        output) where
      means_of : Means s limits text is.meaning
      means_of = meant-within s formed limits text is.meaning is.reads accepted

      pub is-numbered : IsWithin limits (output_text output) lines → IsNumberedFile s limits (ranking_of s) text (output_text output)
      is-numbered within = record {
        meaning = is.meaning;
        means = means_of;
        decided = numbered.decided;
        order = numbered.order;
        aligned = numbered.aligned;
        canonical = is-renamed (number_in numbered.order) numbers-once lines numbered.lines_are limits accepted output put within;
      }

      -- where it isn't within the limits there is none
      pub is-too_long : ¬ IsWithin limits (output_text output) lines → IsTooLong s limits text
      is-too_long long = record {
        meaning = is.meaning;
        means = means_of;
        decided = numbered.decided;
        none = λ bytes found. none-renamed (number_in numbered.order) numbers-once lines numbered.lines_are limits accepted output put long
            bytes
            (numbered-is s formed limits text is.meaning means_of (ranking_of s) numbered.decided numbered.order numbered.aligned bytes
            found);
      }
