-- What is found at the end of a file that is read whole.
use Rattle.std.proofs.Common.{Bool, true, false, Option, Some, None, ◌≡◌, ◌≢◌, ◌<◌, ◌⊎◌, ℕ, List, [], ◌∷◌, ◌++◌, map, length, inl, inr}
use Rattle.std.proofs.Common.{refl, sym, ap, subst, ◌∙◌, arith}
use Rattle.std.proofs.lemmas.List.Elements.{Contains-append_right}
use Rattle.std.proofs.lemmas.Slice.Eq.{bytes_eq-Decides}
use Rattle.std.specs.BTreeSet.{contains}
use Rattle.std.specs.List.{AllByRecursion as Each}
use Rattle.std.specs.Ordering.{nat_cmp}
use Rattle.std.specs.Prelude.{Contains}
use Rattle.std.specs.Str.{bytes_eq}
use Rattle.p21_spec_basics.proofs.Members.{Contains-first, Contains-mapped, Contains-none, Each-mapped, Each-member, Each-of_members}
use Rattle.p21_spec_basics.proofs.Members.{Each-weaker}
use Rattle.p21_spec_basics.specs.Limits.{Limits}
use Rattle.p21_spec_exchange.specs.Statement.{Statement}
use Rattle.p21_spec_exchange.specs.Structure.{tokens_of}
use Rattle.p21_spec_file.specs.Accepted.{IsAccepted, IsCanonicalFile}
use Rattle.p21_spec_file.specs.Reference.{IsServed}
use Rattle.p21_spec_laws.proofs.Keeps.{keeps-accepted, keeps-unserved}
use Rattle.p21_spec_laws.proofs.Storing.{none-stored_unknown, stored-serves, stored-unfit}
use Rattle.p21_spec_laws.specs.CompleteFile.{Entry, entity_sets_in}
use Rattle.p21_spec_laws.specs.Keeping.{IsServedBy, IsServedByNone, Keeps}
use Rattle.p21_spec_laws.specs.Offending.{IsUnserved}
use Rattle.p21_spec_laws.specs.Stored.{StoredEntry}
use Rattle.p21_spec_laws.specs.Waiting.{Reference, references_in}
use Rattle.p21_spec_schema.specs.Schema.{Schema}
use Rattle.p21_spec_schema.specs.WellFormed.{IsWellFormed}
use Rattle.p21_spec_survey.specs.Laws.{UnlistedIsTaken}
use Rattle.p21_spec_survey.specs.Rules.{of_schema}
use Rattle.p21_spec_survey.specs.Survey as survey
use Rattle.p21_spec_survey.specs.Survey.{AreReferences, EndsList, IsRefusedReference, IsSurvey, Reading, at_end, at_most}
use Rattle.p21_stream_kept.specs.Served.{RefusesNeed}
use Rattle.p21_stream_kept.specs.Taking.{IsKeptOfFile}
use Rattle.p21_stream_log.specs.Ending.{AreFileOf}
use Rattle.p21_stream_output.specs.Ending.{IsFileOfKept}
use Rattle.p21_stream_output.specs.Output.{Output}
use Rattle.p21_stream_sieve.specs.Sifting.{AreSifted, HasRefusal, at_instance, none, passes, refuses}
use Rattle.p21_stream_sieve.specs.declared.sieve.Sieve.{Sieve}
use Rattle.p21_stream_statements.specs.Fault.{fault_number}
use Rattle.p21_stream_statements.specs.declared.fault.Fault.{Fault}
use Rattle.p21_stream_statements.specs.declared.fault.Fault.TheVariants.{Dangling, WrongTarget}
use Rattle.p21_stream_statements.specs.declared.refusal.Refusal.{Refusal}
use Rattle.p21_stream_survey.proofs.Instances.{are-instances}
use Rattle.p21_stream_survey.proofs.Surveyed.{entries_of, surveyed}
use Rattle.p21_stream_survey.specs.Canonical.{IsCanonicalOutput}
use Rattle.p21_stream_survey.specs.Ending.{extent_of}
use Rattle.p21_stream_survey.specs.Finishing.{FindsReferences, IsKeptWhole, IsReadWhole, TellsAll, silence_at_end}
use Rattle.p21_stream_survey.specs.Found.{AcceptsFile, ListsNothing, told_as}
use Rattle.p21_stream_survey.specs.Reading.{HasRead, listed_as}
use Rattle.p21_stream_survey.specs.Sifted.{sieved}
use Rattle.p21_stream_survey.specs.Telling as telling
use Rattle.p21_stream_survey.specs.Telling.{IsRefusalOf, ListsReferences}
use Rattle.p21_stream_survey.specs.declared.listed.Extent.{Extent}
use Rattle.p21_stream_survey.specs.declared.listed.Extent.TheVariants.{Most, ReadTo, Whole}
use Rattle.p21_stream_survey.specs.declared.listed.Found.{Found}
use Rattle.p21_stream_survey.specs.declared.listed.Listed as code
use Rattle.p21_stream_survey.specs.declared.listing.Listing.{Listing}

-- lists that aren't different are the same
pub same-or_not : (xs ys : List ℕ) → ¬ (xs ≢ ys) → xs ≡ ys
same-or_not xs ys not = by (bytes_eq xs ys) refl
  where
    by : (b : Bool) → bytes_eq xs ys ≡ b → xs ≡ ys
    by true is = (bytes_eq-Decides xs ys).0 is
    by false is = absurd (not (λ same. let clash : false ≡ true = sym is ∙ (bytes_eq-Decides xs ys).1 same in cc))

-- where no instance was refused each statement is taken
all-taken : (s : Schema) (given taken : List Statement) (refusals : List Refusal) → AreSifted s given taken refusals
    → ((n : ℕ) → ¬ HasRefusal refusals n) → taken ≡ given
all-taken s given taken refusals none not = refl
all-taken s given taken refusals (passes g t rs st sifted) not = ap (λ (l : List Statement). l ++ st ∷ []) (all-taken s g t rs sifted not)
all-taken s given taken refusals (refuses g t rs n r fault sifted refused) not =
    absurd (not n (
      fault,
      Contains-append_right rs (at_instance fault n ∷ []) (at_instance fault n)
          (Contains-first (at_instance fault n) []),
    ))

none-refused : (listed : List survey.Listed) (n : ℕ) → listed ≡ [] → ¬ survey.IsRefused listed n
none-refused listed n is (refusal, among, of) = Contains-none refusal (subst (λ (l : List survey.Listed). Contains l refusal) is among)

-- a need that is refused is served by none
served-by_none : (s : Schema) (stored : List StoredEntry) (r : Reference) (fault : Fault) → RefusesNeed s stored r.1 fault
    → IsServedByNone s stored r.1
served-by_none s stored r Dangling absent = inl absent
served-by_none s stored r WrongTarget unfit = inr unfit
served-by_none s stored r other refused = absurd refused

module _ (s : Schema) (limits : Limits) (read : Reading) (sieve : Sieve) (listing : Listing)
    (has : HasRead (of_schema s) limits read (sieved sieve) listing) where
  -- ---- where nothing is listed

  unlisted : listing.list.items ≡ [] → read.listed ≡ []
  unlisted is = sym has.listed ∙ ap (λ (l : List code.Listed). map listed_as l) is

  pub taken-all : listing.list.items ≡ [] → read.taken ≡ read.given
  taken-all is = all-taken s read.given read.taken sieve.refusals.items has.sifts.sifted
      (λ n refused. none-refused read.listed n (unlisted is) ((has.named n).1 (inl ((has.sifts.names n).1 refused))))

  -- ---- one reference

  need-number : (r : Reference) (fault : Fault) → RefusesNeed s sieve.kept.stored r.1 fault
      → IsUnserved s (entries_of (of_schema s) limits read (sieved sieve) listing has) r (fault_number fault)
  need-number r Dangling nobody = none-stored_unknown s sieve.kept.lines has.sifts.keeps.groups sieve.kept.stored has.sifts.keeps.store r
      nobody
  need-number r WrongTarget (x, among, is, unfit) = stored-unfit s sieve.kept.lines has.sifts.keeps.groups sieve.kept.stored
      has.sifts.keeps.store r x among is unfit
  need-number r other refused = absurd refused

  -- 56 is said of a name that no instance has
  unknown-name : (r : Reference) (fault : Fault) → RefusesNeed s sieve.kept.stored r.1 fault → fault_number fault ≡ 56 → fault ≡ Dangling
  unknown-name r Dangling nobody is = refl
  unknown-name r WrongTarget unfit is = absurd (omega (arith, is))
  unknown-name r other refused is = absurd refused

  -- all bytes are kept, where none is known to be passed over
  kept-all : listing.is_broken ≡ false → read.kept ≡ read.bytes
  kept-all whole = same-or_not read.kept read.bytes (λ differ. let clash : false ≡ true = sym whole ∙ has.broken.1 differ in cc)

  not-refused : (n : ℕ) → contains nat_cmp sieve.names n ≡ false → contains nat_cmp listing.passed n ≡ false
      → ¬ survey.IsRefused read.listed n
  not-refused n out over refused = elim ((has.named n).0 refused) [
    | inl was ↦ (let clash : false ≡ true = sym out ∙ was in cc)
    | inr was ↦ (let clash : false ≡ true = sym over ∙ was in cc)
  ]

  refused-reference : (r : Reference) (refusal : Refusal) → Contains (references_in (entries_of (of_schema s) limits read (sieved sieve) listing has)) r
      → IsRefusalOf s sieve.kept.stored (silence_at_end (sieved sieve) listing) r refusal
      → IsRefusedReference (of_schema s) read (entries_of (of_schema s) limits read (sieved sieve) listing has) r (told_as refusal).0 × ((told_as refusal).1 ≡ r.0)
  refused-reference r refusal among (fault, told, is) = (
    subst (λ (x : Refusal). IsRefusedReference (of_schema s) read (entries_of (of_schema s) limits read (sieved sieve) listing has) r (told_as x).0) (sym is) (record {
      among = among;
      judged = not-refused r.1.target told.judged told.first;
      unserved = need-number r fault told.refused;
      told = λ number. kept-all (told.whole (unknown-name r fault told.refused number));
    }),
    ap (λ (x : Refusal). (told_as x).1) is,
  )

  -- what answers a reference
  answered-reference : (added : List Refusal) (r : Reference) → Contains (references_in (entries_of (of_schema s) limits read (sieved sieve) listing has)) r
      → telling.IsAnswered s sieve.kept.stored (silence_at_end (sieved sieve) listing) added r
      → survey.IsAnswered (of_schema s) read (entries_of (of_schema s) limits read (sieved sieve) listing has) (map told_as added) r
  answered-reference added r among (inl (x, at, is, serves)) =
      inl (stored-serves s sieve.kept.lines has.sifts.keeps.groups sieve.kept.stored has.sifts.keeps.store r.1 x at is serves)
  answered-reference added r among (inr (inl (fault, refused, inl out))) = inr (inl ((has.named r.1.target).1 (inl out)))
  answered-reference added r among (inr (inl (fault, refused, inr (inl over)))) = inr (inl ((has.named r.1.target).1 (inr over)))
  answered-reference added r among (inr (inl (fault, refused, inr (inr (is, broken))))) =
      inr (inr (inr (
        has.broken.0 broken,
        subst (λ (f : Fault). IsUnserved s (entries_of (of_schema s) limits read (sieved sieve) listing has) r
            (fault_number f)) is (need-number r fault refused),
      )))
  answered-reference added r among (inr (inr (refusal, listed, of))) =
      let (refused, named) = refused-reference r refusal among of in
      inr (inr (inl (
        (told_as refusal).0,
        refused,
        subst (λ (n : ℕ). Contains (map told_as added) ((told_as refusal).0, n)) named
            (Contains-mapped told_as added refusal listed),
      )))

  -- ---- all of them

  -- what is listed are references that are refused
  references-right : (most : ℕ) (references : List Refusal)
      → ListsReferences s sieve.kept.stored sieve.kept.waiting (silence_at_end (sieved sieve) listing) most [] references
      → AreReferences (of_schema s) read (entries_of (of_schema s) limits read (sieved sieve) listing has) (map told_as references)
  references-right most references lists =
      let entries : List Entry = entries_of (of_schema s) limits read (sieved sieve) listing has in
      let Right : ℕ × ℕ → Type 0 = λ told. (r : Reference) × IsRefusedReference (of_schema s) read entries r told.0 × (told.1 ≡ r.0) in
      let all : Each (λ (refusal : Refusal). Right (told_as refusal)) lists.added =
      Each-weaker _ (λ (refusal : Refusal). Right (told_as refusal))
      (λ refusal (r, waits, of). let (refused, named) = refused-reference r refusal
      (Each-member (Contains (references_in entries)) sieve.kept.waiting r has.sifts.keeps.waits.are_needs waits) of in
      (r, refused, named)) lists.added lists.right in
      subst (λ (l : List Refusal). Each Right (map told_as l)) (sym lists.new_is) (Each-mapped Right told_as lists.added all)

  -- and each is answered, where there are fewer than were asked for
  references-answered : (most : ℕ) (references : List Refusal)
      → ListsReferences s sieve.kept.stored sieve.kept.waiting (silence_at_end (sieved sieve) listing) most [] references → length references < most
      → Each (survey.IsAnswered (of_schema s) read (entries_of (of_schema s) limits read (sieved sieve) listing has) (map told_as references))
      (references_in (entries_of (of_schema s) limits read (sieved sieve) listing has))
  references-answered most references lists fewer =
      let entries : List Entry = entries_of (of_schema s) limits read (sieved sieve) listing has in
      let Answered : Reference → Type 0 = telling.IsAnswered s sieve.kept.stored (silence_at_end (sieved sieve) listing) lists.added in
      subst (λ (l : List Refusal). Each (survey.IsAnswered (of_schema s) read entries (map told_as l)) (references_in entries)) (sym lists.new_is)
      (Each-of_members (survey.IsAnswered (of_schema s) read entries (map told_as lists.added)) (references_in entries)
      (λ r among. elim (Each-member (λ (x : Reference). Contains sieve.kept.waiting x ⊎ IsServed s (entity_sets_in entries) x.1)
      (references_in entries) r has.sifts.keeps.waits.others_served among) [
        | inl waits ↦ answered-reference lists.added r among (Each-member Answered sieve.kept.waiting r (lists.all fewer) waits)
        | inr served ↦ inl served
      ]))

  -- so the list ends
  references-end : (file : List ℕ) (most : ℕ) (references : List Refusal) (extent : Extent) → IsReadWhole (of_schema s) limits file read (sieved sieve) listing
      → ListsReferences s sieve.kept.stored sieve.kept.waiting (silence_at_end (sieved sieve) listing) most [] references
      → TellsAll (length references) most extent → EndsList (of_schema s) limits file read (entries_of (of_schema s) limits read (sieved sieve) listing has)
      (map listed_as listing.list.items) (map told_as references) (extent_of extent)
  references-end file most references Whole whole lists fewer =
      let entries : List Entry = entries_of (of_schema s) limits read (sieved sieve) listing has in
      subst (λ (l : List survey.Listed). EndsList (of_schema s) limits file read entries l (map told_as references) survey.whole) (sym has.listed)
      (at_end whole.rest whole.are_file.structure whole.are_file.schema (map told_as references) whole.file_is whole.are_file.in_grammar
      whole.are_file.statements_are (references-right most references lists) (references-answered most references lists fewer))
  references-end file most references Most whole lists enough =
      let entries : List Entry = entries_of (of_schema s) limits read (sieved sieve) listing has in
      subst (λ (l : List survey.Listed). EndsList (of_schema s) limits file read entries l (map told_as references) survey.most) (sym has.listed)
      (at_most (map told_as references) (references-right most references lists))
  references-end file most references (ReadTo bytes) whole lists never = absurd never

  -- ---- where nothing is refused

  -- each reference that waits is served
  all-served : (most : ℕ) → listing.list.items ≡ [] → read.kept ≡ read.bytes → 0 < most
      → ListsReferences s sieve.kept.stored sieve.kept.waiting (silence_at_end (sieved sieve) listing) most [] []
      → Each (λ (r : Reference). IsServedBy s sieve.kept.stored r.1) sieve.kept.waiting
  all-served most is kept some lists =
      Each-weaker (telling.IsAnswered s sieve.kept.stored (silence_at_end (sieved sieve) listing) lists.added)
      (λ (r : Reference). IsServedBy s sieve.kept.stored r.1) served sieve.kept.waiting (lists.all some)
    where
      served : (r : Reference) → telling.IsAnswered s sieve.kept.stored (silence_at_end (sieved sieve) listing) lists.added r
          → IsServedBy s sieve.kept.stored r.1
      served r (inl by) = by
      served r (inr (inl (fault, refused, inl out))) = absurd
          (none-refused read.listed r.1.target (unlisted is) ((has.named r.1.target).1 (inl out)))
      served r (inr (inl (fault, refused, inr (inl over)))) =
          absurd (none-refused read.listed r.1.target (unlisted is) ((has.named r.1.target).1 (inr over)))
      served r (inr (inl (fault, refused, inr (inr (dangling, broken))))) = absurd (has.broken.0 broken kept)
      served r (inr (inr (refusal, among, of))) = absurd
          (Contains-none refusal (subst (λ (l : List Refusal). Contains l refusal) (sym lists.new_is) among))

  -- so the file is accepted
  all-accepted : UnlistedIsTaken → IsWellFormed s → (file : List ℕ) (most : ℕ) (output : Output)
      → IsReadWhole (of_schema s) limits file read (sieved sieve) listing → listing.list.items ≡ [] → 0 < most
      → ListsReferences s sieve.kept.stored sieve.kept.waiting (silence_at_end (sieved sieve) listing) most [] []
      → ((any : Schema) (within : Limits) (given : List Statement) → Keeps any within given sieve.kept → IsFileOfKept sieve.kept output)
      → IsCanonicalOutput s limits file output
  all-accepted taken formed file most output whole is some lists made =
      let (kept, same) = taken (of_schema s) limits file read whole.is_read (unlisted is) in
      let keeps : Keeps s limits read.given sieve.kept =
      subst (λ (sts : List Statement). Keeps s limits sts sieve.kept) same has.sifts.keeps in
      let bytes : read.kept ++ whole.rest ≡ file = ap (λ (l : List ℕ). l ++ whole.rest) kept ∙ sym whole.file_is in
      let are : AreFileOf limits.record_source file read.given =
      subst (λ (l : List ℕ). AreFileOf limits.record_source l read.given) bytes whole.are_file in
      let text = made s limits read.given keeps in
      record {
        is_canonical = subst (λ (l : List ℕ). IsCanonicalFile s limits file l) (sym text.text_is)
            (keeps-accepted s formed limits file read.given sieve.kept keeps are.structure are.schema are.in_grammar.is_file
            are.statements_are (tokens_of are.structure) refl are.in_grammar.laid are.within whole.within
            (all-served most is kept some lists)
            has.sifts.lines text.blocks text.are_blocks);
        instances_are = are-instances s limits file read.given sieve.kept keeps are.structure are.schema are.in_grammar are.statements_are
            has.sifts.lines output.kept text.lines_are;
      }

  -- ---- where references alone are refused

  -- the file isn't accepted
  unserved-not_accepted : UnlistedIsTaken → IsWellFormed s → (file : List ℕ) (most : ℕ) (references : List Refusal)
      → IsReadWhole (of_schema s) limits file read (sieved sieve) listing
      → listing.list.items ≡ [] → ListsReferences s sieve.kept.stored sieve.kept.waiting (silence_at_end (sieved sieve) listing) most [] references
      → references ≢ [] → ¬ IsAccepted s limits file
  unserved-not_accepted taken formed file most references whole is lists some = by lists.added lists.new_is lists.right
    where
      by : (added : List Refusal) → references ≡ added
          → Each (λ (refusal : Refusal). (reference : Reference) × Contains sieve.kept.waiting reference
          × IsRefusalOf s sieve.kept.stored (silence_at_end (sieved sieve) listing) reference refusal) added
          → ¬ IsAccepted s limits file
      by [] are right = absurd (some are)
      by (first ∷ others) are ((r, waits, (fault, told, named)), more) =
          let (kept, same) = taken (of_schema s) limits file read whole.is_read (unlisted is) in
          let keeps : Keeps s limits read.given sieve.kept =
          subst (λ (sts : List Statement). Keeps s limits sts sieve.kept) same has.sifts.keeps in
          let bytes : read.kept ++ whole.rest ≡ file = ap (λ (l : List ℕ). l ++ whole.rest) kept ∙ sym whole.file_is in
          let of_file : AreFileOf limits.record_source file read.given =
          subst (λ (l : List ℕ). AreFileOf limits.record_source l read.given) bytes whole.are_file in
          keeps-unserved s formed limits file read.given sieve.kept keeps of_file.structure of_file.statements_are of_file.in_grammar.laid r
          waits (served-by_none s sieve.kept.stored r fault told.refused)

-- ---- what is kept of a whole file

pub kept-of_file : (s : Schema) (sieve : Sieve) (listing : Listing) → IsKeptWhole (of_schema s) (sieved sieve) listing → listing.list.items ≡ []
    → IsKeptOfFile sieve.kept
kept-of_file s sieve listing whole is =
    let read = whole.read in
    record {
      schema = s;
      limits = whole.limits;
      given = read.given;
      keeps = subst (λ (sts : List Statement). Keeps s whole.limits sts sieve.kept)
          (taken-all s whole.limits read sieve listing whole.has is) whole.has.sifts.keeps;
      structure = whole.are_file.structure;
      text = whole.are_file.schema;
      is_file = whole.are_file.in_grammar.is_file;
      statements_are = whole.are_file.statements_are;
      lines = whole.has.sifts.lines;
    }

-- ---- what is found

-- it is a survey with these references
survey-found : (s : Schema) (limits : Limits) (file : List ℕ) (read : Reading) (sieve : Sieve) (listing : Listing) (most : ℕ)
    (references : List Refusal) (extent : Extent) → IsReadWhole (of_schema s) limits file read (sieved sieve) listing
    → ListsReferences s sieve.kept.stored sieve.kept.waiting (silence_at_end (sieved sieve) listing) most [] references
    → TellsAll (length references) most extent → IsSurvey (of_schema s) limits file (map listed_as listing.list.items) (map told_as references)
    (extent_of extent)
survey-found s limits file read sieve listing most references extent whole lists all =
    surveyed (of_schema s) limits file read (sieved sieve) listing (map listed_as listing.list.items) (map told_as references) (extent_of extent) whole.is_read
    whole.has (references-end s limits read sieve listing whole.has file most references extent whole lists all)

-- of a file of which something is refused
pub finds-some : UnlistedIsTaken → (s : Schema) → IsWellFormed s
    → (sieve : Sieve) (listing : Listing) (most : ℕ) (references : List Refusal) (extent : Extent) (found : Found)
    → ListsReferences s sieve.kept.stored sieve.kept.waiting (silence_at_end (sieved sieve) listing) most [] references
    → TellsAll (length references) most extent → found.list.items ≡ listing.list.items → found.references.items ≡ references
    → found.extent ≡ extent → found.accepted ≡ None → ¬ ListsNothing found → FindsReferences (of_schema s) (sieved sieve) listing found
finds-some taken s formed sieve listing most references extent found lists all list_is references_are extent_is accepted_is some limits file
    read whole = record {
      survey =
          subst (λ (e : Extent). IsSurvey (of_schema s) limits file (map listed_as found.list.items) (map told_as found.references.items) (extent_of e))
          (sym extent_is)
          (subst (λ (l : List code.Listed). IsSurvey (of_schema s) limits file (map listed_as l) (map told_as found.references.items) (extent_of extent))
          (sym list_is)
          (subst (λ (l : List Refusal). IsSurvey (of_schema s) limits file (map listed_as listing.list.items) (map told_as l) (extent_of extent))
          (sym references_are) (survey-found s limits file read sieve listing most references extent whole lists all)));
      accepted = subst (λ (a : Option Output). AcceptsFile s limits file found a) (sym accepted_is) some;
      unserved = λ told none.
          unserved-not_accepted s limits read sieve listing whole.has taken formed file most references whole (sym list_is ∙ none) lists
          (λ nothing. told (references_are ∙ nothing));
    }

-- of one of which nothing is
pub finds-none : UnlistedIsTaken → (s : Schema) → IsWellFormed s
    → (sieve : Sieve) (listing : Listing) (most : ℕ) (references : List Refusal) (extent : Extent) (output : Output) (found : Found)
    → ListsReferences s sieve.kept.stored sieve.kept.waiting (silence_at_end (sieved sieve) listing) most [] references
    → TellsAll (length references) most extent → 0 < most → listing.list.items ≡ [] → references ≡ []
    → ((any : Schema) (within : Limits) (given : List Statement) → Keeps any within given sieve.kept → IsFileOfKept sieve.kept output)
    → found.list.items ≡ listing.list.items → found.references.items ≡ references → found.extent ≡ extent → found.accepted ≡ Some output
    → FindsReferences (of_schema s) (sieved sieve) listing found
finds-none taken s formed sieve listing most references extent output found lists all asked list_none references_none made list_is
    references_are extent_is accepted_is limits file read whole = record {
      survey =
          subst (λ (e : Extent). IsSurvey (of_schema s) limits file (map listed_as found.list.items) (map told_as found.references.items) (extent_of e))
          (sym extent_is)
          (subst (λ (l : List code.Listed). IsSurvey (of_schema s) limits file (map listed_as l) (map told_as found.references.items) (extent_of extent))
          (sym list_is)
          (subst (λ (l : List Refusal). IsSurvey (of_schema s) limits file (map listed_as listing.list.items) (map told_as l) (extent_of extent))
          (sym references_are) (survey-found s limits file read sieve listing most references extent whole lists all)));
      accepted =
          subst (λ (a : Option Output). AcceptsFile s limits file found a) (sym accepted_is) (
            (list_is ∙ list_none, references_are ∙ references_none),
            all-accepted s limits read sieve listing whole.has taken formed file most output whole list_none asked
                (subst (λ (l : List Refusal). ListsReferences s sieve.kept.stored sieve.kept.waiting (silence_at_end (sieved sieve) listing) most [] l)
                references_none lists) made,
          );
      unserved = λ told. absurd (told (references_are ∙ references_none));
    }
