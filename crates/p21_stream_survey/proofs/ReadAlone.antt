-- What is found at the end of a file that is read whole and by itself.
use Rattle.std.proofs.Common.{true, false, Option, Some, None, ◌≡◌, ◌≢◌, ◌<◌, ◌⊎◌, ℕ, List, [], ◌∷◌, ◌++◌, map, length, inl, inr, refl, sym}
use Rattle.std.proofs.Common.{ap, subst, ◌∙◌}
use Rattle.std.proofs.lemmas.List.{map-append}
use Rattle.std.specs.BTreeSet.{contains, BTreeSet}
use Rattle.std.specs.List.{AllByRecursion as Each}
use Rattle.std.specs.Ordering.{nat_cmp}
use Rattle.std.specs.Prelude.{Contains}
use Rattle.p21_grammar_tree.specs.View.{part_views}
use Rattle.p21_spec_basics.proofs.Members.{Contains-mapped, Contains-none, Each-mapped, Each-member, Each-of_members, Each-weaker}
use Rattle.p21_spec_basics.specs.Limits.{Limits}
use Rattle.p21_spec_exchange.specs.Record.{Record}
use Rattle.p21_spec_exchange.specs.Statement.{Statement}
use Rattle.p21_spec_file.specs.Reference.{Need, record_references}
use Rattle.p21_spec_laws.specs.CompleteFile.{Entry}
use Rattle.p21_spec_laws.specs.Taken.{instances_among}
use Rattle.p21_spec_laws.specs.Waiting.{Reference, references_in}
use Rattle.p21_spec_survey.specs.Laws.{UnlistedIsTaken}
use Rattle.p21_spec_survey.specs.Rules.{IsRightFile, by_itself, names_in}
use Rattle.p21_spec_survey.specs.Survey as survey
use Rattle.p21_spec_survey.specs.Survey.{AreReferences, EndsList, IsRefusedReference, IsSurvey, Reading, at_end, at_most}
use Rattle.p21_spec_syntax.proofs.IllFormed.{missing-target}
use Rattle.p21_stream_log.specs.Ending.{AreFileOf}
use Rattle.p21_stream_statements.specs.declared.refusal.Refusal.{Refusal}
use Rattle.p21_stream_survey.proofs.ReadWhole.{same-or_not}
use Rattle.p21_stream_survey.proofs.Surveyed.{entry_of, need_of, surveyed}
use Rattle.p21_stream_survey.specs.Ending.{extent_of}
use Rattle.p21_stream_survey.specs.Finishing.{FindsReferences, IsReadWhole, TellsAll, silence_at_end}
use Rattle.p21_stream_survey.specs.Found.{AcceptsAlone, ListsNothing, told_as}
use Rattle.p21_stream_survey.specs.Missing.{IsAnsweredAlone, IsMissingOf, ListsMissing}
use Rattle.p21_stream_survey.specs.Reading.{HasRead, listed_as}
use Rattle.p21_stream_survey.specs.Sifted.{alone}
use Rattle.p21_stream_survey.specs.Telling.{Silence}
use Rattle.p21_stream_survey.specs.declared.listed.Extent.{Extent}
use Rattle.p21_stream_survey.specs.declared.listed.Extent.TheVariants.{Most, ReadTo, Whole}
use Rattle.p21_stream_survey.specs.declared.listed.Found.{Found}
use Rattle.p21_stream_survey.specs.declared.listed.Listed as code
use Rattle.p21_stream_survey.specs.declared.listing.Listing.{Listing}
use Rattle.p21_stream_syntax.proofs.Adding.{HasCome}
use Rattle.p21_stream_syntax.proofs.Walking.{claim-reference, kept-found}
use Rattle.p21_stream_syntax.specs.Given.{Keeps, Kept}
use Rattle.p21_stream_syntax.specs.Walk.{IsFoundOf}
use Rattle.p21_stream_syntax.specs.Waiting.{Claim, claims_among, claims_of}
use Rattle.p21_stream_syntax.specs.declared.well_formed.WellFormed.{WellFormed}

-- ---- references of entries, and those of instances

-- a reference by itself as one of an entry
abbrev reference_of : Claim → Reference
reference_of c = (c.0, need_of c.1)

needs-of : (n : ℕ) (targets : List ℕ) → map (λ (need : Need). (let r : Reference = (n, need) in r)) (map need_of targets)
    ≡ map reference_of (claims_of n targets)
needs-of n [] = refl
needs-of n (t ∷ targets) = ap (λ (l : List Reference). reference_of (n, t) ∷ l) (needs-of n targets)

references-own : (instances : List (ℕ × Record)) → references_in (map entry_of instances) ≡ map reference_of (claims_among instances)
references-own [] = refl
references-own ((n, r) ∷ instances) =
    ap (λ (l : List Reference). l ++ references_in (map entry_of instances)) (needs-of n (record_references r))
    ∙ ap (λ (l : List Reference). map reference_of (claims_of n (record_references r)) ++ l) (references-own instances)
    ∙ sym (map-append reference_of (claims_of n (record_references r)) (claims_among instances))

names-own : (instances : List (ℕ × Record)) → names_in (map entry_of instances) ≡ map (λ (i : ℕ × Record). i.0) instances
names-own [] = refl
names-own ((n, r) ∷ instances) = ap (λ (l : List ℕ). n ∷ l) (names-own instances)

none-refused : (listed : List survey.Listed) (n : ℕ) → listed ≡ [] → ¬ survey.IsRefused listed n
none-refused listed n is (refusal, among, of) = Contains-none refusal (subst (λ (l : List survey.Listed). Contains l refusal) is among)

module _ (limits : Limits) (read : Reading) (kept : Kept) (names : BTreeSet ℕ) (listing : Listing)
    (has : HasRead by_itself limits read (alone kept names) listing) where
  abbrev instances : List (ℕ × Record)
  instances = instances_among read.taken

  abbrev entries : List Entry
  entries = map entry_of instances

  abbrev silence : Silence
  silence = silence_at_end (alone kept names) listing

  unlisted : listing.list.items ≡ [] → read.listed ≡ []
  unlisted is = sym has.listed ∙ ap (λ (l : List code.Listed). map listed_as l) is

  kept-all : listing.is_broken ≡ false → read.kept ≡ read.bytes
  kept-all whole = same-or_not read.kept read.bytes (λ differ. let clash : false ≡ true = sym whole ∙ has.broken.1 differ in cc)

  not-refused : (n : ℕ) → contains nat_cmp names n ≡ false → contains nat_cmp listing.passed n ≡ false → ¬ survey.IsRefused read.listed n
  not-refused n out over refused = elim ((has.named n).0 refused) [
    | inl was ↦ (let clash : false ≡ true = sym out ∙ was in cc)
    | inr was ↦ (let clash : false ≡ true = sym over ∙ was in cc)
  ]

  -- the names that are kept are those of the entries
  given-there : (n : ℕ) → Contains kept.names n → Contains (names_in entries) n
  given-there n among = subst (λ (ns : List ℕ). Contains ns n) (sym (names-own instances)) ((has.sifts.keeps.instances.names_are n).0 among)

  none-there : (n : ℕ) → ¬ Contains kept.names n → ¬ Contains (names_in entries) n
  none-there n none among =
      none ((has.sifts.keeps.instances.names_are n).1 (subst (λ (ns : List ℕ). Contains ns n) (names-own instances) among))

  claim-there : (c : Claim) → Contains (claims_among instances) c → Contains (references_in entries) (reference_of c)
  claim-there c among = subst (λ (l : List Reference). Contains l (reference_of c)) (sym (references-own instances))
      (Contains-mapped reference_of (claims_among instances) c among)

  -- ---- one reference

  refused-reference : (c : Claim) (refusal : Refusal) → Contains (claims_among instances) c → IsMissingOf kept.names silence c refusal
      → IsRefusedReference by_itself read entries (reference_of c) (told_as refusal).0 × ((told_as refusal).1 ≡ c.0)
  refused-reference c refusal among (told, is) = (
    subst (λ (x : Refusal). IsRefusedReference by_itself read entries (reference_of c) (told_as x).0) (sym is) (record {
      among = claim-there c among;
      judged = not-refused c.1 told.judged told.first;
      unserved = (refl, none-there c.1 told.unknown);
      told = λ number. kept-all told.whole;
    }),
    ap (λ (x : Refusal). (told_as x).1) is,
  )

  -- what answers a reference
  answered-reference : (added : List Refusal) (c : Claim) → Contains (claims_among instances) c
      → IsAnsweredAlone kept.names silence added c
      → survey.IsAnswered by_itself read entries (map told_as added) (reference_of c)
  answered-reference added c among (inl given) = inl (given-there c.1 given)
  answered-reference added c among (inr (inl (none, inl out))) = inr (inl ((has.named c.1).1 (inl out)))
  answered-reference added c among (inr (inl (none, inr (inl over)))) = inr (inl ((has.named c.1).1 (inr over)))
  answered-reference added c among (inr (inl (none, inr (inr (is, broken))))) =
      inr (inr (inr (has.broken.0 broken, (refl, none-there c.1 none))))
  answered-reference added c among (inr (inr (refusal, listed, of))) =
      let (refused, named_) = refused-reference c refusal among of in
      inr (inr (inl (
        (told_as refusal).0,
        refused,
        subst (λ (n : ℕ). Contains (map told_as added) ((told_as refusal).0, n)) named_
            (Contains-mapped told_as added refusal listed),
      )))

  -- ---- all of them

  references-right : (most : ℕ) (references : List Refusal) → ListsMissing kept.names kept.waiting silence most [] references
      → AreReferences by_itself read entries (map told_as references)
  references-right most references lists =
      let Right : ℕ × ℕ → Type 0 = λ told. (r : Reference) × IsRefusedReference by_itself read entries r told.0 × (told.1 ≡ r.0) in
      let all : Each (λ (refusal : Refusal). Right (told_as refusal)) lists.added =
      Each-weaker _ (λ (refusal : Refusal). Right (told_as refusal))
      (λ refusal (c, waits, of). let (refused, named_) = refused-reference c refusal
      (Each-member (Contains (claims_among instances)) kept.waiting c has.sifts.keeps.instances.are_references waits) of in
      (reference_of c, refused, named_)) lists.added lists.right in
      subst (λ (l : List Refusal). Each Right (map told_as l)) (sym lists.new_is) (Each-mapped Right told_as lists.added all)

  references-answered : (most : ℕ) (references : List Refusal) → ListsMissing kept.names kept.waiting silence most [] references
      → length references < most
      → Each (survey.IsAnswered by_itself read entries (map told_as references)) (references_in entries)
  references-answered most references lists fewer =
      let Answered : Claim → Type 0 = λ c. survey.IsAnswered by_itself read entries (map told_as lists.added) (reference_of c) in
      let each : Each Answered (claims_among instances) =
      Each-of_members Answered (claims_among instances)
      (λ c among. elim (Each-member (λ (x : Claim). Contains kept.waiting x ⊎ Contains (map (λ (i : ℕ × Record). i.0) instances) x.1)
      (claims_among instances) c has.sifts.keeps.instances.others_given among) [
        | inl waits ↦ answered-reference lists.added c among
            (Each-member (IsAnsweredAlone kept.names silence lists.added) kept.waiting c (lists.all fewer) waits)
        | inr given ↦ inl (subst (λ (ns : List ℕ). Contains ns c.1) (sym (names-own instances)) given)
      ]) in
      subst (λ (l : List Refusal). Each (survey.IsAnswered by_itself read entries (map told_as l)) (references_in entries)) (sym lists.new_is)
      (subst (λ (l : List Reference). Each (survey.IsAnswered by_itself read entries (map told_as lists.added)) l)
      (sym (references-own instances))
      (Each-mapped (survey.IsAnswered by_itself read entries (map told_as lists.added)) reference_of (claims_among instances) each))

  -- so the list ends
  references-end : (file : List ℕ) (most : ℕ) (references : List Refusal) (extent : Extent)
      → IsReadWhole by_itself limits file read (alone kept names) listing
      → ListsMissing kept.names kept.waiting silence most [] references
      → TellsAll (length references) most extent → EndsList by_itself limits file read entries
      (map listed_as listing.list.items) (map told_as references) (extent_of extent)
  references-end file most references Whole whole lists fewer =
      subst (λ (l : List survey.Listed). EndsList by_itself limits file read entries l (map told_as references) survey.whole)
      (sym has.listed)
      (at_end whole.rest whole.are_file.structure whole.are_file.schema (map told_as references) whole.file_is whole.are_file.in_grammar
      whole.are_file.statements_are (references-right most references lists) (references-answered most references lists fewer))
  references-end file most references Most whole lists enough =
      subst (λ (l : List survey.Listed). EndsList by_itself limits file read entries l (map told_as references) survey.most) (sym has.listed)
      (at_most (map told_as references) (references-right most references lists))
  references-end file most references (ReadTo bytes) whole lists never = absurd never

  -- ---- where nothing is refused

  -- the names of all references that wait have come
  all-come : (most : ℕ) → listing.list.items ≡ [] → read.kept ≡ read.bytes → 0 < most
      → ListsMissing kept.names kept.waiting silence most [] [] → Each (HasCome kept.names) kept.waiting
  all-come most is whole some lists = Each-weaker (IsAnsweredAlone kept.names silence lists.added) (HasCome kept.names) come kept.waiting
      (lists.all some)
    where
      come : (c : Claim) → IsAnsweredAlone kept.names silence lists.added c → HasCome kept.names c
      come c (inl given) = given
      come c (inr (inl (none, inl out))) = absurd (none-refused read.listed c.1 (unlisted is) ((has.named c.1).1 (inl out)))
      come c (inr (inl (none, inr (inl over)))) = absurd (none-refused read.listed c.1 (unlisted is) ((has.named c.1).1 (inr over)))
      come c (inr (inl (none, inr (inr (dangling, broken))))) = absurd (has.broken.0 broken whole)
      come c (inr (inr (refusal, among, of))) = absurd
          (Contains-none refusal (subst (λ (l : List Refusal). Contains l refusal) (sym lists.new_is) among))

  -- what is kept of the statements of the file, and these are all
  module _ (taken : UnlistedIsTaken) (file : List ℕ) (whole : IsReadWhole by_itself limits file read (alone kept names) listing)
      (is : listing.list.items ≡ []) where
    all-kept : read.kept ≡ read.bytes
    all-kept = (taken by_itself limits file read whole.is_read (unlisted is)).0

    keeps-given : Keeps read.given kept
    keeps-given = subst (λ (sts : List Statement). Keeps sts kept)
        (taken by_itself limits file read whole.is_read (unlisted is)).1 has.sifts.keeps

    of-file : AreFileOf limits.record_source file read.given
    of-file = subst (λ (l : List ℕ). AreFileOf limits.record_source l read.given)
        (ap (λ (l : List ℕ). l ++ whole.rest) all-kept ∙ sym whole.file_is) whole.are_file

    -- the file is well formed
    pub found-alone : (most : ℕ) → 0 < most → ListsMissing kept.names kept.waiting silence most [] [] → (found : WellFormed)
        → found.instances ≡ length kept.names → found.schema.items ≡ kept.schema → part_views found.header.items ≡ kept.header
        → found.keywords ≡ kept.counts → IsFoundOf limits file found
    found-alone most some lists found counted schema_is header_is counts_are =
        kept-found limits file read.given kept of-file.structure of-file.schema found keeps-given of-file.in_grammar of-file.statements_are
        whole.within of-file.within (all-come most is all-kept some lists) counted schema_is header_is counts_are

    -- it isn't where references alone are refused
    pub missing-not_right : (most : ℕ) (references : List Refusal) → ListsMissing kept.names kept.waiting silence most [] references
        → references ≢ [] → ¬ IsRightFile by_itself limits file
    missing-not_right most references lists some = by lists.added lists.new_is lists.right
      where
        by : (added : List Refusal) → references ≡ added
            → Each (λ (refusal : Refusal). (c : Claim) × Contains kept.waiting c × IsMissingOf kept.names silence c refusal) added
            → ¬ IsRightFile by_itself limits file
        by [] are right file_right = absurd (some are)
        by (first ∷ others) are ((c, waits, (told, named_)), more) (structure, schema, well_formed) =
            missing-target limits file of-file.structure read.given of-file.statements_are of-file.in_grammar.laid c.1
            (claim-reference (instances_among read.given) c (Each-member (Contains (claims_among (instances_among read.given))) kept.waiting c
            keeps-given.instances.are_references waits))
            (λ among. told.unknown ((keeps-given.instances.names_are c.1).1 among)) structure schema well_formed

-- ---- what is found

survey-found : (limits : Limits) (file : List ℕ) (read : Reading) (kept : Kept) (names : BTreeSet ℕ) (listing : Listing) (most : ℕ)
    (references : List Refusal) (extent : Extent) → IsReadWhole by_itself limits file read (alone kept names) listing
    → ListsMissing kept.names kept.waiting (silence_at_end (alone kept names) listing) most [] references
    → TellsAll (length references) most extent → IsSurvey by_itself limits file (map listed_as listing.list.items) (map told_as references)
    (extent_of extent)
survey-found limits file read kept names listing most references extent whole lists all =
    surveyed by_itself limits file read (alone kept names) listing (map listed_as listing.list.items) (map told_as references)
    (extent_of extent) whole.is_read whole.has
    (references-end limits read kept names listing whole.has file most references extent whole lists all)

module _ (taken : UnlistedIsTaken) (kept : Kept) (names : BTreeSet ℕ) (listing : Listing) (most : ℕ) (references : List Refusal)
    (extent : Extent) (found : Found)
    (lists : ListsMissing kept.names kept.waiting (silence_at_end (alone kept names) listing) most [] references)
    (all : TellsAll (length references) most extent) (list_is : found.list.items ≡ listing.list.items)
    (references_are : found.references.items ≡ references) (extent_is : found.extent ≡ extent) where
  found-survey : (limits : Limits) (file : List ℕ) (read : Reading) → IsReadWhole by_itself limits file read (alone kept names) listing
      → IsSurvey by_itself limits file (map listed_as found.list.items) (map told_as found.references.items) (extent_of found.extent)
  found-survey limits file read whole =
      subst (λ (e : Extent). IsSurvey by_itself limits file (map listed_as found.list.items) (map told_as found.references.items)
      (extent_of e)) (sym extent_is)
      (subst (λ (l : List code.Listed). IsSurvey by_itself limits file (map listed_as l) (map told_as found.references.items)
      (extent_of extent)) (sym list_is)
      (subst (λ (l : List Refusal). IsSurvey by_itself limits file (map listed_as listing.list.items) (map told_as l) (extent_of extent))
      (sym references_are) (survey-found limits file read kept names listing most references extent whole lists all)))

  -- of a file of which something is refused
  pub finds-missing : found.well_formed ≡ None → ¬ ListsNothing found → FindsReferences by_itself (alone kept names) listing found
  finds-missing well_formed_is some limits file read whole = record {
    survey = found-survey limits file read whole;
    accepted = subst (λ (w : Option WellFormed). AcceptsAlone limits file found w) (sym well_formed_is) some;
    unserved = λ told none.
        missing-not_right limits read kept names listing whole.has taken file whole (sym list_is ∙ none) most references lists
        (λ nothing. told (references_are ∙ nothing));
  }

  -- of one of which nothing is
  pub finds-well_formed : (well_formed : WellFormed) → 0 < most → listing.list.items ≡ [] → references ≡ []
      → found.well_formed ≡ Some well_formed → well_formed.instances ≡ length kept.names → well_formed.schema.items ≡ kept.schema
      → part_views well_formed.header.items ≡ kept.header → well_formed.keywords ≡ kept.counts
      → FindsReferences by_itself (alone kept names) listing found
  finds-well_formed well_formed asked list_none references_none well_formed_is counted schema_is header_is counts_are limits file read
      whole = record {
        survey = found-survey limits file read whole;
        accepted = subst (λ (w : Option WellFormed). AcceptsAlone limits file found w) (sym well_formed_is) (
          (list_is ∙ list_none, references_are ∙ references_none),
          found-alone limits read kept names listing whole.has taken file whole list_none most asked
              (subst (λ (l : List Refusal). ListsMissing kept.names kept.waiting (silence_at_end (alone kept names) listing) most [] l)
              references_none lists) well_formed counted schema_is header_is counts_are,
        );
        unserved = λ told. absurd (told (references_are ∙ references_none));
      }
