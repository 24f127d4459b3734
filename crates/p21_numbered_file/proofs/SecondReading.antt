-- An accepted text that is read once more.
use Rattle.std.proofs.Common.{◌≡◌, ◌≤◌, ◌<◌, ◌+◌, ℕ, zero, suc, List, [], ◌∷◌, ◌++◌, length, map, take, drop, Option, Some, None, Ok, Contains, refl, sym, ap, subst, ◌∙◌, append_assoc, append-nil, inl, inr, length-append, take-add, take-append-drop, drop-drop, slice_index_or, Fits, w8, arith}
use Rattle.std.specs.List.{AllZip, flat_map, slice_get, AllByRecursion as Each}
use Rattle.std.proofs.lemmas.Grind.{flat_map-append}
use Rattle.std.proofs.lemmas.List.{length-map, map-append}
use Rattle.std.proofs.lemmas.Slice.Zip.{AllZip-long}
use Rattle.p21_spec_basics.proofs.Members.{AllZip-member, Contains-flat_map, Contains-found, Contains-mapped, Each-append, Each-back}
use Rattle.p21_spec_basics.specs.Digits.{IsByte}
use Rattle.p21_spec_basics.specs.Limits.{Limits}
use Rattle.p21_spec_exchange.specs.CanonicalText.{line}
use Rattle.p21_spec_exchange.specs.DataSection.{DataSection, Heading, instances_in}
use Rattle.p21_spec_exchange.specs.Grammar.{InGrammar}
use Rattle.p21_spec_exchange.specs.Record.{Part, Record}
use Rattle.p21_spec_exchange.specs.Statement.{SectionLine, Statement, section, header, instance, data_start}
use Rattle.p21_spec_exchange.specs.Laying.{Laid}
use Rattle.p21_spec_exchange.specs.Structure.{Structure, statements}
use Rattle.p21_spec_exchange.specs.Token.{Token}
use Rattle.p21_spec_file.specs.Accepted.{IsAccepted}
use Rattle.p21_spec_file.specs.File.{FileMeaning, InstanceMeans, Reads, entity_sets_of, names_with_heading}
use Rattle.p21_spec_file.specs.Meaning.{Typed}
use Rattle.p21_spec_file.specs.Reference.{Need}
use Rattle.p21_spec_laws.proofs.Among.{instance-in_section, parts-append, parts-are, sections-are}
use Rattle.p21_spec_laws.proofs.FileTheorems.{one-tree}
use Rattle.p21_spec_laws.proofs.Statements.{headings-are, instances-append, instances-are}
use Rattle.p21_spec_laws.specs.Among.{parts_among, sections_among}
use Rattle.p21_spec_laws.specs.Keeping.{headings_behind}
use Rattle.p21_spec_laws.specs.Taken.{BeginsWith, headings_among, instances_among}
use Rattle.p21_spec_schema.specs.Schema.{EntityNamed, Schema}
use Rattle.p21_grammar.specs.Statements.{statement_of}
use Rattle.p21_grammar.specs.declared.event.Event.{Event}
use Rattle.p21_mapping.specs.Checked.{IsChecked}
use Rattle.p21_mapping_values.specs.TypedView.{typed_view}
use Rattle.p21_numbering.specs.NodesOf.{HasKnownParts}
use Rattle.p21_stream_statements.proofs.Seen.{looked-up_to}
use Rattle.p21_stream_statements.proofs.Stepping.{taken-looked}
use Rattle.p21_stream_statements.specs.StatementReader.{AreWholeStatements, Held, IsLive, IsSeenAt, StatementHistory, StepGives, TakesOneToken, bytes_looked_at, nothing_read}
use Rattle.p21_tokens.specs.Histories.{TokenHistory}
use Rattle.p21_numbered_file.proofs.Standing.{headings-append, in-last, mapped-at, zip-next}
use Rattle.p21_numbered_file.specs.Headings.{heading_in, headings_in}
use Rattle.p21_numbered_file.specs.Reading.{IsPlaced, IsReadOf, IsReadTo, IsReadWhole, IsUnderWay, StandsNext, meant_of}
use Rattle.p21_numbered_file.specs.declared.read_file.ReadFile.{ReadFile}
use Rattle.p21_numbered_file.specs.declared.read_file.ReadInstance.{ReadInstance}

-- ---- what is read of no statement

pub none-read : (s : Schema) (m : FileMeaning) (read : ReadFile) → read.header.items ≡ [] → read.sections.items ≡ []
    → read.instances.items ≡ [] → IsReadTo s m [] read
none-read s m read no_header no_sections no_instances = record {
  header_is = no_header;
  headings_are = ap headings_in no_sections;
  as_many = ap (λ (is : List ReadInstance). length is) no_instances;
  later = m.instances;
  instances_are = sym (ap (λ (is : List ReadInstance). map meant_of is ++ m.instances) no_instances);
  placed = let P : List ReadInstance → Type 0 = λ is. Each (IsPlaced s m) is in subst P (sym no_instances) tt;
}

-- ---- one statement more

-- one that is no instance
module _ (s : Schema) (m : FileMeaning) (given : List Statement) (st : Statement) (old new : ReadFile) (read : IsReadTo s m given old)
    (same : new.instances ≡ old.instances) (none : instances_among (st ∷ []) ≡ []) where
  among_same : instances_among (given ++ st ∷ []) ≡ instances_among given
  among_same = instances-append given (st ∷ []) ∙ ap (λ (is : List (ℕ × Record)). instances_among given ++ is) none
      ∙ append-nil (instances_among given)

  pub other-read : new.header.items ≡ old.header.items ++ flat_map line (map header (parts_among (st ∷ [])))
      → headings_in new.sections.items ≡ headings_in old.sections.items ++ headings_among (st ∷ []) → IsReadTo s m (given ++ st ∷ []) new
  other-read header_ sections_ = record {
    header_is = header_ ∙ ap (λ (xs : List ℕ). xs ++ flat_map line (map header (parts_among (st ∷ [])))) read.header_is
        ∙ sym (flat_map-append line (map header (parts_among given)) (map header (parts_among (st ∷ []))))
        ∙ ap (flat_map line) (sym (map-append header (parts_among given) (parts_among (st ∷ []))))
        ∙ ap (λ (ps : List Part). flat_map line (map header ps)) (sym (parts-append given (st ∷ [])));
    headings_are = sections_ ∙ ap (λ (hs : List Heading). hs ++ headings_among (st ∷ [])) read.headings_are
        ∙ sym (headings-append given (st ∷ []));
    as_many = ap (λ is. length is.items) same ∙ read.as_many ∙ sym (ap (λ (is : List (ℕ × Record)). length is) among_same);
    later = read.later;
    instances_are = read.instances_are ∙ sym (ap (λ is. map meant_of is.items ++ read.later) same);
    placed = subst (λ is. Each (IsPlaced s m) is.items) (sym same) read.placed;
  }

pub line-read : (s : Schema) (m : FileMeaning) (given : List Statement) (l : SectionLine) (old new : ReadFile) → IsReadTo s m given old
    → new.instances ≡ old.instances → new.header ≡ old.header
    → headings_in new.sections.items ≡ headings_behind (headings_in old.sections.items) l → IsReadTo s m (given ++ section l ∷ []) new
line-read s m given l old new read same header_ sections_ =
    other-read s m given (section l) old new read same refl (ap (λ h. h.items) header_ ∙ sym (append-nil old.header.items))
    (sections_ ∙ behind (headings_in old.sections.items) l)
  where
    behind : (hs : List Heading) (l : SectionLine) → headings_behind hs l ≡ hs ++ headings_among (section l ∷ [])
    behind hs (data_start h) = refl
    behind hs other = sym (append-nil hs)

pub header-read : (s : Schema) (m : FileMeaning) (given : List Statement) (part : Part) (old new : ReadFile) → IsReadTo s m given old
    → new.instances ≡ old.instances → new.header.items ≡ old.header.items ++ line (header part)
    → new.sections ≡ old.sections → IsReadTo s m (given ++ header part ∷ []) new
header-read s m given part old new read same header_ sections_ =
    other-read s m given (header part) old new read same refl
    (header_ ∙ ap (λ (xs : List ℕ). old.header.items ++ xs) (sym (append-nil (line (header part)))))
    (ap (λ p. headings_in p.items) sections_ ∙ sym (append-nil (headings_in old.sections.items)))

-- ---- an instance more

-- a meaning's entities are those of the schema
found-low : {X : Type 0} (xs : List X) (k : ℕ) (x : X) → slice_get xs k ≡ Some x → k < length xs
found-low [] k x found = cc
found-low (y ∷ ys) zero x found = omega arith
found-low (y ∷ ys) (suc k) x found = let low = found-low ys k x found in omega (arith, low)

pub known-parts : (s : Schema) (r : Record) (x : Typed) (needs : List Need) → IsChecked s r x needs → HasKnownParts s x
known-parts s r x needs checked =
    let means = checked.means.means in
    record {
      entities_are = λ e among. (let (name, at, named) = AllZip-member (EntityNamed s) x.entities means.rising.0 e means.rising.1 among in
          found-low s.entities e named.0 named.1);
      known = checked.known;
    }

module _ (s : Schema) (n : ℕ) (r : Record) (old : ReadFile) (next : StandsNext s old (instance n r)) where
  all-among : instances_in next.reads.structure.sections ≡ instances_among next.given ++ (n, r) ∷ instances_among next.later
  all-among = sym (instances-are next.reads.structure) ∙ ap instances_among next.are
      ∙ instances-append next.given (instance n r ∷ next.later)

  -- a data section has begun
  pub section-begun : 0 < length old.sections.items
  section-begun =
      let some = instance-in_section next.given n r next.reads.structure
      (next.later, next.are ∙ sym (append_assoc next.given (instance n r ∷ []) next.later)) in
      let size = ap (λ (hs : List Heading). length hs) next.is_read.headings_are in
      let one = length-map old.sections.items heading_in in
      let two : length (headings_among next.given) ≡ length (sections_among next.given) = headings-many next.given in
      omega (arith, some, size, one, two)
    where
      headings-many : (sts : List Statement) → length (headings_among sts) ≡ length (sections_among sts)
      headings-many [] = refl
      headings-many (section (data_start h) ∷ sts) = ap suc (headings-many sts)
      headings-many (other ∷ sts) = headings-many sts

  module _ (one : ReadInstance) (new : ReadFile) (name_is : one.name ≡ n) (needs : List Need)
      (checked : IsChecked s r (typed_view one.typed) needs) (last : suc one.section ≡ length old.sections.items)
      (added : new.instances.items ≡ old.instances.items ++ one ∷ []) (header_ : new.header ≡ old.header)
      (sections_ : new.sections ≡ old.sections) where
    -- it means what was checked
    own : (b : ℕ × Typed) × (rest : List (ℕ × Typed)) × (next.is_read.later ≡ b ∷ rest)
        × InstanceMeans s (entity_sets_of next.meaning.instances) (n, r) b
    own =
        let R : ℕ × Record → ℕ × Typed → Type 0 = InstanceMeans s (entity_sets_of next.meaning.instances) in
        let P : List (ℕ × Record) → Type 0 = λ is. AllZip R is next.meaning.instances in
        let Q : List (ℕ × Typed) → Type 0 = λ is. AllZip R (instances_among next.given ++ (n, r) ∷ instances_among next.later) is in
        zip-next R (instances_among next.given) (n, r) (instances_among next.later) (map meant_of old.instances.items) next.is_read.later
        (subst Q next.is_read.instances_are (subst P all-among next.reads.means))
        (length-map old.instances.items meant_of ∙ next.is_read.as_many)

    is-meant : own.0 ≡ meant_of one
    is-meant =
        let by_name : ℕ → ℕ × Typed = λ k. (k, own.0.1) in
        let by_typed : Typed → ℕ × Typed = λ x. (one.name, x) in
        ap by_name (own.3.0 ∙ sym name_is) ∙ ap by_typed (checked.sole (entity_sets_of next.meaning.instances) own.0.1 own.3.1)

    -- and stands in the last section
    in-section : (x : DataSection) × (slice_get next.reads.structure.sections one.section ≡ Some x) × Contains x.instances (n, r)
    in-section =
        let size = ap (λ (hs : List Heading). length hs) next.is_read.headings_are in
        let long = length-map old.sections.items heading_in in
        let S : List DataSection → Type 0 = λ xs. (x : DataSection) × (slice_get xs one.section ≡ Some x) × Contains x.instances (n, r) in
        subst S (ap sections_among (sym next.are) ∙ sections-are next.reads.structure)
        (in-last next.given next.later n r one.section (omega (arith, size, long, last)))

    is-placed : IsPlaced s next.meaning one
    is-placed =
        let x : DataSection = in-section.0 in
        let H : List Heading → Type 0 = λ hs. slice_get hs one.section ≡ Some x.heading in
        let place : ℕ × Heading = (n, x.heading) in
        let P : List (ℕ × Heading) → Type 0 = λ ps. Contains ps place in
        let N : ℕ → Type 0 = λ k. Contains next.meaning.instance_sections (k, x.heading) in
        record {
          heading = x.heading;
          section_is = subst H (sym next.reads.sections_are)
              (mapped-at (λ (y : DataSection). y.heading) next.reads.structure.sections one.section x in-section.1);
          in_section = subst N (sym name_is) (subst P (sym next.reads.instance_sections_are)
              (Contains-flat_map names_with_heading next.reads.structure.sections x place
              (Contains-found next.reads.structure.sections one.section x in-section.1)
              (Contains-mapped (λ (i : ℕ × Record). (i.0, x.heading)) x.instances (n, r) in-section.2)));
          known = known-parts s r (typed_view one.typed) needs checked;
        }

    pub instance-read : IsReadTo s next.meaning (next.given ++ instance n r ∷ []) new
    instance-read =
        let read = next.is_read in
        let among : instances_among (next.given ++ instance n r ∷ []) ≡ instances_among next.given ++ (n, r) ∷ [] =
        instances-append next.given (instance n r ∷ []) in
        let many = ap (λ (is : List (ℕ × Record)). length is) among in
        let long = length-append (instances_among next.given) ((n, r) ∷ []) in
        let own_ = ap (λ (is : List ReadInstance). length is) added in
        let own_long = length-append old.instances.items (one ∷ []) in
        let so_far = read.as_many in
        let P : List ReadInstance → Type 0 = λ is. Each (IsPlaced s next.meaning) is in
        record {
          header_is = ap (λ h. h.items) header_ ∙ read.header_is
              ∙ ap (λ (ps : List Part). flat_map line (map header ps))
              (sym (parts-append next.given (instance n r ∷ []) ∙ append-nil (parts_among next.given)));
          headings_are = ap (λ p. headings_in p.items) sections_ ∙ read.headings_are
              ∙ sym (headings-append next.given (instance n r ∷ []) ∙ append-nil (headings_among next.given));
          as_many = omega (arith, many, long, own_, own_long, so_far);
          later = own.1;
          instances_are = read.instances_are ∙ ap (λ (is : List (ℕ × Typed)). map meant_of old.instances.items ++ is)
              (own.2 ∙ ap (λ (b : ℕ × Typed). b ∷ own.1) is-meant)
              ∙ sym (append_assoc (map meant_of old.instances.items) (meant_of one ∷ []) own.1)
              ∙ ap (λ (is : List (ℕ × Typed)). is ++ own.1) (sym (map-append meant_of old.instances.items (one ∷ []))
              ∙ ap (map meant_of) (sym added));
          placed = subst P (sym added) (Each-append (IsPlaced s next.meaning) old.instances.items (one ∷ []) read.placed (is-placed, tt));
        }

-- ---- a text

pub each-byte : (buffer : List ℕ) → ((i : ℕ) → Fits w8 (slice_index_or buffer i 0)) → Each IsByte buffer
each-byte [] fits = tt
each-byte (byte ∷ bytes) fits = ((let f = (fits 0).fits in omega arith), each-byte bytes (λ i. fits (suc i)))

get-drop : (m : ℕ) (l : List ℕ) → slice_get (drop m l) 0 ≡ slice_get l m
get-drop zero l = refl
get-drop (suc m) [] = refl
get-drop (suc m) (x ∷ xs) = get-drop m xs

seen-on : (text : List ℕ) (from count : ℕ) (seen : Option ℕ) → IsSeenAt seen (drop from text) count
    → IsSeenAt seen (drop (from + count) text) 0
seen-on text from count None at = tt
seen-on text from count (Some byte) at = ap (λ (l : List ℕ). slice_get l 0) (sym (drop-drop count from text))
    ∙ get-drop count (drop from text) ∙ at

-- the text goes on behind what was looked at
looked-on : (text : List ℕ) (from : ℕ) (reading : StatementHistory) → reading.taken ≡ take from text
    → IsSeenAt reading.seen (drop from text) 0 → (more : List ℕ) × (text ≡ bytes_looked_at reading ++ more)
looked-on text from reading taken_are at =
    let up = looked-up_to (take from text) (drop from text) 0 reading.seen (omega arith) at in
    let L : List ℕ → List ℕ = λ taken. bytes_looked_at (record { taken = taken; seen = reading.seen; given = reading.given }) in
    let looked : bytes_looked_at reading ≡ take from text ++ take up.upto (drop from text) =
    ap L (taken_are ∙ sym (append-nil (take from text))) ∙ up.looked_are in (
      drop up.upto (drop from text),
      sym (take-append-drop from text) ∙ ap (λ (xs : List ℕ). take from text ++ xs) (sym (take-append-drop up.upto (drop from text)))
          ∙ sym (append_assoc (take from text) (take up.upto (drop from text)) (drop up.upto (drop from text)))
          ∙ ap (λ (xs : List ℕ). xs ++ drop up.upto (drop from text)) (sym looked),
    )

-- the statements given are the first of the text's tree
begins : (s : Schema) (text : List ℕ) (m : FileMeaning) (reads : Reads s text m) → ((i : ℕ) → Fits w8 (slice_index_or text i 0))
    → (held : Held) (reading : StatementHistory) → IsLive held reading → (from : ℕ) → reading.taken ≡ take from text
    → IsSeenAt reading.seen (drop from text) 0 → BeginsWith reading.given (statements reads.structure)
begins s text m reads fits held reading live from taken_are at =
    let (more, is) = looked-on text from reading taken_are at in
    let G : List ℕ → Type 0 = λ bytes. InGrammar bytes reads.structure reads.schema_text in
    let B : List ℕ → Type 0 = λ bytes. Each IsByte bytes in
    taken-looked held reading live more (Each-back IsByte (bytes_looked_at reading) more (subst B is (each-byte text fits))) reads.structure
    reads.schema_text (subst G is reads.in_grammar)

module _ (s : Schema) (text : List ℕ) (fits : (i : ℕ) → Fits w8 (slice_index_or text i 0)) (held next : Held) (from count : ℕ) where
  -- a token more, with these statements
  going-on : (read after : ReadFile) (rounds : ℕ) (given : List Statement) (way : IsUnderWay s text held read from rounds)
      → TakesOneToken way.reading (length way.live.history.given) (drop from text) count given next
      → IsReadTo s way.meaning (way.reading.given ++ given) after → IsUnderWay s text next after (from + count) (rounds + 1)
  going-on read after rounds given way goes is_read =
      let more = goes.one_more in
      let few = way.rounds_few in
      let P : List Statement → Type 0 = λ sts. IsReadTo s way.meaning sts after in
      record {
        meaning = way.meaning;
        reads = way.reads;
        reading = goes.reading;
        live = goes.live;
        taken_are = goes.taken_are ∙ ap (λ (xs : List ℕ). xs ++ take count (drop from text)) way.taken_are ∙ sym (take-add from count text);
        seen_at = seen-on text from count goes.reading.seen goes.seen_at;
        is_read = subst P (sym goes.given_are) is_read;
        rounds_few = omega (arith, more, few);
      }

  pub token-more : (read : ReadFile) → StepGives held (drop from text) (Ok (Some (count, None))) next → (rounds : ℕ)
      → IsUnderWay s text held read from rounds → IsUnderWay s text next read (from + count) (rounds + 1)
  token-more read gives rounds way =
      let P : List Statement → Type 0 = λ sts. IsReadTo s way.meaning sts read in
      going-on read read rounds [] way (gives way.reading way.live way.seen_at) (subst P (sym (append-nil way.reading.given)) way.is_read)

  -- the statement that a token ends stands next
  pub stands-next : (read : ReadFile) (event : Event) → StepGives held (drop from text) (Ok (Some (count, Some event))) next → (rounds : ℕ)
      → IsUnderWay s text held read from rounds
      → StandsNext s read (statement_of event)
  stands-next read event gives rounds way =
      let st : Statement = statement_of event in
      let goes = gives way.reading way.live way.seen_at in
      let (later, is) = begins s text way.meaning way.reads fits next goes.reading goes.live (from + count)
      (goes.taken_are ∙ ap (λ (xs : List ℕ). xs ++ take count (drop from text)) way.taken_are ∙ sym (take-add from count text))
      (seen-on text from count goes.reading.seen goes.seen_at) in
      record {
        bytes = text;
        meaning = way.meaning;
        reads = way.reads;
        given = way.reading.given;
        later = later;
        are = is ∙ ap (λ (sts : List Statement). sts ++ later) goes.given_are ∙ append_assoc way.reading.given (st ∷ []) later;
        is_read = way.is_read;
      }

  pub statement-more : (read after : ReadFile) (event : Event)
      (gives : StepGives held (drop from text) (Ok (Some (count, Some event))) next)
      → ((stands : StandsNext s read (statement_of event)) → IsReadTo s stands.meaning (stands.given ++ statement_of event ∷ []) after)
      → (rounds : ℕ) → IsUnderWay s text held read from rounds → IsUnderWay s text next after (from + count) (rounds + 1)
  unfolding stands-next
  statement-more read after event gives takes rounds way =
      going-on read after rounds (statement_of event ∷ []) way (gives way.reading way.live way.seen_at)
      (takes (stands-next read event gives rounds way))

-- no whole token is left
pub none-left : (s : Schema) (text : List ℕ) (held next : Held) (from : ℕ) (read : ReadFile)
    → StepGives held (drop from text) (Ok None) next → (rounds : ℕ) → IsUnderWay s text held read from rounds → IsReadWhole s text next read
none-left s text held next from read gives rounds way =
    let L : List ℕ → Type 0 = λ taken. IsLive next (record { taken = taken; seen = None; given = way.reading.given }) in
    record {
      meaning = way.meaning;
      reads = way.reads;
      given = way.reading.given;
      live = subst L (ap (λ (xs : List ℕ). xs ++ drop from text) way.taken_are ∙ take-append-drop from text)
          (gives way.reading way.live way.seen_at);
      is_read = way.is_read;
    }

given-few : (held : Held) (reading : StatementHistory) (live : IsLive held reading) → length live.history.given ≤ length reading.taken
given-few held reading live = elim live.answered [
  | inl none ↦ (let size : length live.history.given ≡ 0 = ap (λ (h : TokenHistory). length h.given) none in omega (arith, size))
  | inr answers ↦ (let few = answers.given_few in let same : length live.history.taken ≡ length reading.taken = ap length live.taken_are in
      omega (arith, few, same))
]

-- there are no more tokens than bytes taken
pub rounds-below : (s : Schema) (text : List ℕ) (held : Held) (read : ReadFile) (from rounds : ℕ) → IsUnderWay s text held read from rounds
    → rounds ≤ from
rounds-below s text held read from rounds way =
    let few = way.rounds_few in
    let given = given-few held way.reading way.live in
    let taken = ap (λ (xs : List ℕ). length xs) way.taken_are in
    let short = take-short from text in
    omega (arith, few, given, taken, short)
  where
    take-short : (from : ℕ) (xs : List ℕ) → length (take from xs) ≤ from
    take-short zero xs = omega arith
    take-short (suc from) [] = omega arith
    take-short (suc from) (x ∷ xs) = let rest = take-short from xs in omega (arith, rest)

-- nothing is taken yet
pub started : (s : Schema) (limits : Limits) (text : List ℕ) → IsAccepted s limits text → (held : Held) → IsLive held nothing_read
    → (read : ReadFile) → read.header.items ≡ [] → read.sections.items ≡ [] → read.instances.items ≡ [] → IsUnderWay s text held read 0 0
started s limits text accepted held live read no_header no_sections no_instances = record {
  meaning = accepted.0;
  reads = accepted.1.reads;
  reading = nothing_read;
  live = live;
  taken_are = refl;
  seen_at = tt;
  is_read = none-read s accepted.0 read no_header no_sections no_instances;
  rounds_few = omega arith;
}

-- ---- the whole of it

no-later : (m : FileMeaning) (later : List (ℕ × Typed)) → length later ≡ 0 → later ≡ []
no-later m [] none = refl
no-later m (i ∷ later) none = cc

pub whole-read : (s : Schema) (text : List ℕ) (held : Held) (read : ReadFile) (w : IsReadWhole s text held read)
    → AreWholeStatements text w.given → IsReadOf s text read
whole-read s text held read w are =
    let t : Structure = w.reads.structure in
    let L : List Token → Type 0 = λ tokens. Laid text tokens in
    let grammar_ : InGrammar text are.whole.structure are.whole.text =
    record { laid = subst L (sym are.whole.tokens_are) are.laid; is_file = are.whole.is_file } in
    let one : are.whole.structure ≡ t = (one-tree text are.whole.structure t are.whole.text w.reads.schema_text grammar_
    w.reads.in_grammar).0 in
    let given : w.given ≡ statements t = sym are.whole.statements_are ∙ ap statements one in
    let many = ap (λ (sts : List Statement). length (instances_among sts)) given in
    let all = ap (λ (is : List (ℕ × Record)). length is) (instances-are t) in
    let long = AllZip-long (InstanceMeans s (entity_sets_of w.meaning.instances)) (instances_in t.sections) w.meaning.instances
    w.reads.means in
    let own = w.is_read.as_many in
    let split = ap (λ (is : List (ℕ × Typed)). length is) w.is_read.instances_are in
    let sum = length-append (map meant_of read.instances.items) w.is_read.later in
    let mapped = length-map read.instances.items meant_of in
    let none : w.is_read.later ≡ [] = no-later w.meaning w.is_read.later (omega (arith, many, all, long, own, split, sum, mapped)) in
    record {
      meaning = w.meaning;
      reads = w.reads;
      header_is = w.is_read.header_is ∙ ap (λ (ps : List Part). flat_map line (map header ps))
          (ap parts_among given ∙ parts-are t ∙ sym w.reads.header_is);
      headings_are = w.is_read.headings_are ∙ ap headings_among given ∙ headings-are t ∙ sym w.reads.sections_are;
      instances_are = sym (w.is_read.instances_are ∙ ap (λ (is : List (ℕ × Typed)). map meant_of read.instances.items ++ is) none
          ∙ append-nil (map meant_of read.instances.items));
      placed = w.is_read.placed;
    }
