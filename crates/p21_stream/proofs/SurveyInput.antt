-- What is handed on of what a survey found of the bytes that a reader gave.
use Rattle.std.proofs.Common.{◌≡◌, ◌≢◌, ◌≤◌, ◌<◌, ◌+◌, ◌^◌, ◌⊎◌, ℕ, Bool, true, false, List, [], ◌∷◌, ◌++◌, length, map, Option, Some, inl}
use Rattle.std.proofs.Common.{inr, refl, sym, ap, subst, ◌∙◌, append-nil, length-append, arith}
use Rattle.std.proofs.lemmas.List.{length-map, map-append}
use Rattle.std.specs.Io.KnownBytes.{IsAtEnd}
use Rattle.std.specs.List.{AllByRecursion as Each}
use Rattle.p21_spec_basics.proofs.Members.{Each-append, Each-back, Each-mapped, Each-unmapped, Each-weaker}
use Rattle.p21_spec_basics.specs.Digits.{IsByte}
use Rattle.p21_spec_basics.specs.Limits.{Limits}
use Rattle.p21_grammar.specs.declared.fault.GrammarFault.{GrammarFault}
use Rattle.p21_grammar_tree.specs.declared.fault.CheckFault.{CheckFault}
use Rattle.p21_spec_schema.specs.Schema.{Schema}
use Rattle.p21_spec_schema.specs.WellFormed.{IsWellFormed}
use Rattle.p21_spec_survey.specs.Laws.{EndedIsNotAccepted, ListedIsNotAccepted}
use Rattle.p21_spec_survey.specs.Rules.{AreWellFormed, IsRightFile, Rules, by_itself, of_schema}
use Rattle.p21_spec_survey.specs.Survey.{IsSurvey, Listed as MeantListed}
use Rattle.p21_stream.proofs.SurveyFeeding.{all_of}
use Rattle.p21_stream.proofs.SurveyLists.{IsLow, IsOfReference, list-not_accepted, list-references, passed-not_accepted}
use Rattle.p21_stream.specs.Alone as alone
use Rattle.p21_stream.specs.Alone.{SurveysAlone}
use Rattle.p21_stream.specs.ReaderInput.{IsAcceptedInput, IsRefused, RefusesRead}
use Rattle.p21_stream.specs.Survey.{EndsByRead, IsDeadBy, IsOfReader, IsReadOut as IsReadWhole, IsRefusedBy, IsRefusedFirst, ListsAtMost}
use Rattle.p21_stream.specs.Survey.{ListsRefusals, RefusesBy, RefusesInput, SurveysInput, refusal_of}
use Rattle.p21_stream.specs.SurveyFeeding.{HandsOn, IsListOf, IsOver, IsSurveyedTo, StandsBehind, failures_behind}
use Rattle.p21_stream.specs.declared.alone.SurveyedAlone.{SurveyedAlone}
use Rattle.p21_stream.specs.declared.alone.SurveyedAlone.TheVariants.{Refused, WellFormed as IsWellFormed_}
use Rattle.p21_stream.specs.declared.listing.Refusals.{Refusals}
use Rattle.p21_stream.specs.declared.listing.Surveyed.{Surveyed}
use Rattle.p21_stream.specs.declared.listing.Surveyed.TheVariants as surveyed
use Rattle.p21_stream_io.specs.Watch.{one_call_more}
use Rattle.p21_stream_log.specs.Log.{Known}
use Rattle.p21_stream_output.specs.Output.{Output}
use Rattle.p21_stream_statements.specs.Fault.{fault_number}
use Rattle.p21_stream_statements.specs.Source.{IsOfBytes}
use Rattle.p21_stream_statements.specs.declared.fault.Fault.{Fault}
use Rattle.p21_stream_statements.specs.declared.fault.Fault.TheVariants.{CanonicalTooLong, Check, Dangling, DuplicateName, Grammar}
use Rattle.p21_stream_statements.specs.declared.fault.Fault.TheVariants.{NoMemory, Read, SchemaName, SectionTwice, Token, Write}
use Rattle.p21_stream_statements.specs.declared.fault.Fault.TheVariants.{WrongTarget}
use Rattle.p21_stream_statements.specs.declared.refusal.Refusal.{Refusal}
use Rattle.p21_stream_survey.specs.Course.{HasListEnded, IsInStage}
use Rattle.p21_stream_survey.specs.Ending.{extent_of}
use Rattle.p21_stream_survey.specs.Found.{AcceptsAlone, AcceptsFile, FindsAtMost, IsFound, ListsNothing, told_as}
use Rattle.p21_stream_survey.specs.Keeping.{rules_by}
use Rattle.p21_stream_survey.specs.Kinds.{AreOfFile, AreOfReading, IsOfFile}
use Rattle.p21_stream_survey.specs.ReadOut.{AddsRead, FindsAll, IsInterrupted, SomeIsReadOut}
use Rattle.p21_stream_survey.specs.Reading.{listed_as}
use Rattle.p21_stream_survey.specs.declared.listed.Found.{Found}
use Rattle.p21_stream_survey.specs.declared.listed.Listed.{Listed}
use Rattle.p21_stream_survey.specs.declared.stage.Stage.{Stage}
use Rattle.p21_stream_survey.specs.declared.stage.Stage.TheVariants.{Ended, Reading, Seeking, Waiting}
use Rattle.p21_stream_survey.specs.declared.survey.Survey.{Survey}
use Rattle.p21_stream_syntax.specs.Reading.{IsIllFormedInput, IsWellFormedInput, RefusesSyntax}
use Rattle.p21_stream_syntax.specs.declared.well_formed.WellFormed.{WellFormed}
use Rattle.p21_tokens.specs.Fault.{IsOfTokens}
use Rattle.p21_tokens.specs.declared.fault.TokenFault.{TokenFault}
use Rattle.p21_tokens.specs.declared.fault.TokenFault.TheVariants as token_fault

-- ---- numbers

token-told : (fault : TokenFault) → IsOfFile (fault_number (Token fault)) → IsOfTokens fault
token-told token_fault.NotOneParameter of = absurd (of.0 refl)
token-told token_fault.BadByte of = tt
token-told token_fault.OpenString of = tt
token-told token_fault.OpenComment of = tt
token-told token_fault.BadDirective of = tt
token-told token_fault.BadCodePoint of = tt
token-told token_fault.NotUtf8 of = tt
token-told token_fault.BadNumber of = tt
token-told token_fault.NumberRange of = tt
token-told token_fault.BadBinary of = tt
token-told token_fault.NameRange of = tt
token-told token_fault.BadName of = tt
token-told token_fault.RecordTooLong of = tt
token-told token_fault.FileTooLong of = tt
token-told token_fault.EndsEarly of = tt
token-told (token_fault.LeftOut absent) of = tt
token-told token_fault.NoMemory of = tt

token-kind : (fault : TokenFault) → IsOfFile (fault_number (Token fault)) → IsOfBytes (Token fault)
token-kind fault of = (token-told fault of, λ is. (let number = ap (λ (f : TokenFault). fault_number (Token f)) is in let low = of.1 in omega (arith, number, low)))

grammar-kind : (fault : GrammarFault) → IsOfFile (fault_number (Grammar fault)) → IsOfBytes (Grammar fault)
grammar-kind fault of is = let number = ap (λ (f : GrammarFault). fault_number (Grammar f)) is in let low = of.1 in omega (arith, number, low)

check-kind : (fault : CheckFault) → IsOfFile (fault_number (Check fault)) → IsOfBytes (Check fault)
check-kind fault of is = let number = ap (λ (f : CheckFault). fault_number (Check f)) is in let low = of.1 in omega (arith, number, low)

-- a fault of the file says of the bytes that they are refused
schema-refuses : (s : Schema) (limits : Limits) (old new : Option (List ℕ)) (fault : Fault) → IsOfFile (fault_number fault)
    → IsRefused s limits old new → RefusesRead s limits old new fault
schema-refuses s limits old new (Token fault) of refused = (token-told fault of, refused)
schema-refuses s limits old new (Grammar fault) of refused = refused
schema-refuses s limits old new (Check fault) of refused = refused
schema-refuses s limits old new CanonicalTooLong of refused = refused
schema-refuses s limits old new SchemaName of refused = refused
schema-refuses s limits old new SectionTwice of refused = refused
schema-refuses s limits old new DuplicateName of refused = refused
schema-refuses s limits old new Dangling of refused = refused
schema-refuses s limits old new WrongTarget of refused = refused
schema-refuses s limits old new NoMemory of refused = tt
schema-refuses s limits old new Read of refused = tt
schema-refuses s limits old new Write of refused = absurd (let low = of.1 in omega (arith, low))

-- and by itself that they are not well formed
own-ill_formed : (limits : Limits) (old new : Option (List ℕ)) → IsRefusedBy by_itself limits old new → IsIllFormedInput limits old new
own-ill_formed limits old new refused = record {
  bytes = refused.bytes;
  consumed = refused.consumed;
  ill_formed = elim refused.refused [
    | inl dead ↦ inl (λ more are structure schema is. dead more are (structure, schema, is))
    | inr (at_end, none) ↦ inr (at_end, λ structure schema is. none (structure, schema, is))
  ];
}

own-refuses : (limits : Limits) (old new : Option (List ℕ)) (fault : Fault) → IsOfFile (fault_number fault)
    → IsIllFormedInput limits old new → RefusesSyntax limits old new fault
own-refuses limits old new (Token fault) of ill = (token-kind fault of, ill)
own-refuses limits old new (Grammar fault) of ill = (grammar-kind fault of, ill)
own-refuses limits old new (Check fault) of ill = (check-kind fault of, ill)
own-refuses limits old new CanonicalTooLong of ill = (tt, ill)
own-refuses limits old new SchemaName of ill = (tt, ill)
own-refuses limits old new SectionTwice of ill = (tt, ill)
own-refuses limits old new DuplicateName of ill = (tt, ill)
own-refuses limits old new Dangling of ill = (tt, ill)
own-refuses limits old new WrongTarget of ill = (tt, ill)
own-refuses limits old new NoMemory of ill = tt
own-refuses limits old new Read of ill = tt
own-refuses limits old new Write of ill = absurd (let low = of.1 in omega (arith, low))

-- a read that failed says nothing of them
unread-refuses : (s : Rules) (limits : Limits) (old new : Option (List ℕ)) → RefusesBy s limits old new Read
unread-refuses (of_schema s) limits old new = tt
unread-refuses by_itself limits old new = tt

refuses-read : (s : Rules) (limits : Limits) (old new : Option (List ℕ)) (fault : Fault) → IsOfFile (fault_number fault)
    → IsRefusedBy s limits old new → RefusesBy s limits old new fault
refuses-read (of_schema s) limits old new fault of refused =
    schema-refuses s limits old new fault of (record { bytes = refused.bytes; consumed = refused.consumed; refused = refused.refused })
refuses-read by_itself limits old new fault of refused = own-refuses limits old new fault of (own-ill_formed limits old new refused)

-- ---- right files

-- one has no more bytes than a file may have
right-within : (s : Rules) (limits : Limits) (file : List ℕ) → IsRightFile s limits file → length file ≤ limits.file_source
right-within (of_schema s) limits file (meaning, means) = means.file_within
right-within by_itself limits file (structure, schema, is) = is.file.file_within

long-dead : (s : Rules) (limits : Limits) (bytes : List ℕ) → limits.file_source < length bytes → IsDeadBy s limits bytes
long-dead s limits bytes long more are right =
    let within = right-within s limits (bytes ++ more) right in
    let size = length-append bytes more in
    omega (arith, long, within, size)

of_file-unread : (fault : Fault) → IsOfFile (fault_number fault) → fault ≢ Read
of_file-unread fault of is = let number = ap fault_number is in let low = of.1 in omega (arith, number, low)

reference-of_file : (refusal : Refusal) → IsOfReference (told_as refusal) → IsOfFile (fault_number refusal.fault)
reference-of_file refusal (inl is) = (λ other. omega (arith, is, other), omega (arith, is))
reference-of_file refusal (inr is) = (λ other. omega (arith, is, other), omega (arith, is))

lows : (list : List Listed) → AreOfFile list → Each IsLow (map listed_as list)
lows list of = Each-mapped IsLow listed_as list (Each-weaker (λ (l : Listed). IsOfFile (fault_number l.fault))
    (λ (l : Listed). IsLow (listed_as l)) (λ l told. told.1) list of)

some-mapped : (list : List Listed) → list ≢ [] → map listed_as list ≢ []
some-mapped [] some = absurd (some refl)
some-mapped (first ∷ others) some = λ none. cc

-- a read that failed is the only refusal, where nothing was listed before
only-read : (before : List Listed) (found : Found) (first : Listed) (others : List Listed) → AddsRead before found → before ≡ []
    → found.list.items ≡ first ∷ others → first.fault ≢ Read → ⊥
only-read [] found first others adds none is other =
    let both : first ∷ others ≡ adds.refusal ∷ [] = sym is ∙ adds.list_is in
    let same : first ≡ adds.refusal = cc in
    other (ap (λ (l : Listed). l.fault) same ∙ adds.fault_is)
only-read (one ∷ before) found first others adds none is other = cc

-- the first of a list that a read may end
head-told : (list : List Listed) (first : Listed) (others : List Listed) → list ≡ first ∷ others → AreOfReading true list
    → IsOfFile (fault_number first.fault) ⊎ (first.fault ≡ Read)
head-told list first others is ([], last, list_is, of, last_of) =
    let both : first ∷ others ≡ last ∷ [] = sym is ∙ list_is in
    let same : last ≡ first = cc in
    subst (λ (l : Listed). IsOfFile (fault_number l.fault) ⊎ (l.fault ≡ Read)) same last_of
head-told list first others is (one ∷ before, last, list_is, of, last_of) =
    let both : first ∷ others ≡ one ∷ (before ++ last ∷ []) = sym is ∙ list_is in
    let same : one ≡ first = cc in
    inl (subst (λ (l : Listed). IsOfFile (fault_number l.fault)) same of.0)

-- where a read failed something is listed
added-some : (before : List Listed) (found : Found) → AddsRead before found → found.list.items ≡ [] → ⊥
added-some [] found adds none = let clash : [] ≡ adds.refusal ∷ [] = sym none ∙ adds.list_is in cc
added-some (one ∷ before) found adds none = let clash : [] ≡ one ∷ (before ++ adds.refusal ∷ []) = sym none ∙ adds.list_is in cc

interrupted-some : (survey : Survey) (stage : Stage) (found : Found) → IsInterrupted survey stage found → ¬ HasListEnded stage
    → found.list.items ≡ [] → ⊥
interrupted-some survey Reading found adds open_ none = added-some survey.listing.list.items found adds none
interrupted-some survey (Seeking sought) found (stretch, adds) open_ none =
    added-some (survey.listing.list.items ++ stretch ∷ []) found adds none
interrupted-some survey (Waiting unlisted) found adds open_ none = added-some survey.listing.list.items found adds none
interrupted-some survey (Ended extent) found adds open_ none = open_ tt

-- and the read is the last
added-read : (before : List Listed) (found : Found) (refusals : Refusals) → AddsRead before found → IsListOf found refusals
    → EndsByRead (surveyed.Refused refusals)
added-read before found refusals adds lists = (
  map refusal_of before,
  refusal_of adds.refusal,
  lists.list_is ∙ (ap (λ (l : List Refusal). map refusal_of found.list.items ++ l) adds.no_references
      ∙ (append-nil (map refusal_of found.list.items) ∙ (ap (map refusal_of) adds.list_is
      ∙ map-append refusal_of before (adds.refusal ∷ [])))),
  (adds.refusal.begins, lists.extent_is ∙ adds.extent_is),
  adds.fault_is,
)

ends-by_read : (survey : Survey) (stage : Stage) (found : Found) (refusals : Refusals) → IsInterrupted survey stage found
    → ¬ HasListEnded stage → IsListOf found refusals
    → EndsByRead (surveyed.Refused refusals)
ends-by_read survey Reading found refusals adds open_ lists = added-read survey.listing.list.items found refusals adds lists
ends-by_read survey (Seeking sought) found refusals (stretch, adds) open_ lists =
    added-read (survey.listing.list.items ++ stretch ∷ []) found refusals adds lists
ends-by_read survey (Waiting unlisted) found refusals adds open_ lists = added-read survey.listing.list.items found refusals adds lists
ends-by_read survey (Ended extent) found refusals adds open_ lists = absurd (open_ tt)

-- ---- a file of which something was found

module _ (listed_law : ListedIsNotAccepted) (ended_law : EndedIsNotAccepted) (s : Rules) (formed : AreWellFormed s) (limits : Limits) where
  -- it isn't accepted
  found-not_accepted : (file : List ℕ) (found : Found) → Each IsByte file → IsFound s limits file found → AreOfFile found.list.items
      → ¬ ListsNothing found
      → ¬ IsRightFile s limits file
  found-not_accepted file found bytes is of some = by found.list.items refl found.references.items refl
    where
      by : (list : List Listed) → found.list.items ≡ list → (references : List Refusal) → found.references.items ≡ references
          → ¬ IsRightFile s limits file
      by (first ∷ others) list_is references references_are =
          list-not_accepted listed_law ended_law s formed limits file bytes is.survey.reading is.survey.is_read is.survey.entries
          (map listed_as found.list.items)
          (map told_as found.references.items) (extent_of found.extent) is.survey.ends (lows found.list.items of)
          (some-mapped found.list.items (λ none. (let clash : first ∷ others ≡ [] = sym list_is ∙ none in cc)))
      by [] list_is (first ∷ others) references_are = is.unserved
          (λ none. (let clash : first ∷ others ≡ [] = sym references_are ∙ none in cc)) list_is
      by [] list_is [] references_are = absurd (some (list_is, references_are))

  -- ---- behind the bytes that were read

  module _ (survey : Survey) (same_rules : rules_by survey ≡ s) (same_limits : survey.limits ≡ limits) where
    -- the list has ended, or no more comes: wherever it has, the survey is at the end of each file that begins so
    ended-anywhere : (known : Known) (stage : Stage) (ahead : List ℕ) → HasListEnded stage → IsInStage known survey stage ahead
        → IsInStage known survey stage []
    ended-anywhere known (Ended extent) ahead ended in_stage =
        record { sound = in_stage.sound; within = in_stage.within; is_at = in_stage.is_at }
    ended-anywhere known Reading ahead ended in_stage = absurd ended
    ended-anywhere known (Seeking sought) ahead ended in_stage = absurd ended
    ended-anywhere known (Waiting unlisted) ahead ended in_stage = absurd ended

    -- what is found of a file that the survey has read out
    found-of : (found : Found) → FindsAll survey found → (file : List ℕ) → Each IsByte file → IsInStage (all_of file) survey survey.stage []
        → IsFound s limits file found
    found-of found finds file bytes in_stage =
        subst (λ (l : Limits). IsFound s l file found) same_limits (subst (λ (r : Rules). IsFound r survey.limits file found) same_rules
        (finds (all_of file) (record { all = refl; in_stage = in_stage }) file (bytes, refl)))

    -- of each file that begins with the bytes, where the list has ended
    found-ended : (found : Found) → FindsAll survey found → (bytes more : List ℕ) → StandsBehind survey bytes → HasListEnded survey.stage
        → Each IsByte (bytes ++ more)
        → length (bytes ++ more) < 2 ^ 64 → IsFound s limits (bytes ++ more) found
    found-ended found finds bytes more stands ended are few =
        found-of found finds (bytes ++ more) are (ended-anywhere (all_of (bytes ++ more)) survey.stage more ended
        (stands (all_of (bytes ++ more)) more few refl))

    -- of the bytes alone
    found-alone : (found : Found) → FindsAll survey found → (bytes : List ℕ) → StandsBehind survey bytes → Each IsByte bytes
        → length bytes < 2 ^ 64 → IsFound s limits bytes found
    found-alone found finds bytes stands are few = found-of found finds bytes are (stands (all_of bytes) [] few (sym (append-nil bytes)))

    -- an accepted file has fewer bytes than 64 bits count
    accepted-few : limits.file_source < 2 ^ 64 → (file : List ℕ) → IsRightFile s limits file → length file < 2 ^ 64
    accepted-few counted file right = let within = right-within s limits file right in omega (arith, counted, within)

    -- the same within the limits of the survey, by its schema
    own-accepted : (file : List ℕ) → IsRightFile s limits file → IsRightFile (rules_by survey) survey.limits file
    own-accepted file accepted =
        subst (λ (l : Limits). IsRightFile (rules_by survey) l file) (sym same_limits)
        (subst (λ (r : Rules). IsRightFile r limits file) (sym same_rules) accepted)

    own-formed : AreWellFormed (rules_by survey)
    own-formed = subst AreWellFormed (sym same_rules) formed

    -- ---- where the list has ended

    -- so some is listed, and the file isn't accepted
    ended-not_accepted : (file : List ℕ) (stage : Stage) (ahead : List ℕ) → Each IsByte file → IsInStage (all_of file) survey stage ahead
        → HasListEnded stage
        → ¬ IsRightFile (rules_by survey) survey.limits file
    ended-not_accepted file (Ended extent) ahead are in_stage ended =
        let whole = in_stage.is_at.surveys file (are, refl) in
        let list : List Listed = survey.listing.list.items in
        list-not_accepted listed_law ended_law (rules_by survey) own-formed survey.limits file are whole.reading whole.is_read whole.entries
        (map listed_as list) [] (extent_of extent)
        whole.ends (lows list in_stage.is_at.of_file) (some-mapped list
        (λ none. (let size = ap length none in let some = in_stage.within.0 in omega (arith, size, some))))
    ended-not_accepted file Reading ahead are in_stage ended = absurd ended
    ended-not_accepted file (Seeking sought) ahead are in_stage ended = absurd ended
    ended-not_accepted file (Waiting unlisted) ahead are in_stage ended = absurd ended

    ended-dead : limits.file_source < 2 ^ 64 → (bytes : List ℕ) → StandsBehind survey bytes → HasListEnded survey.stage → Each IsByte bytes
        → IsDeadBy s limits bytes
    ended-dead counted bytes stands ended are more more_are accepted =
        let file : List ℕ = bytes ++ more in
        ended-not_accepted file survey.stage more (Each-append IsByte bytes more are more_are)
        (stands (all_of file) more (accepted-few counted file accepted) refl) ended (own-accepted file accepted)

    -- ---- where a read failed

    -- what was listed by then, or is passed over, isn't of an accepted file
    open-not_accepted : (file : List ℕ) (stage : Stage) (ahead : List ℕ) → Each IsByte file → IsInStage (all_of file) survey stage ahead
        → (first : Listed) (others : List Listed)
        → (found : Found) → IsInterrupted survey stage found → ¬ HasListEnded stage → found.list.items ≡ first ∷ others → first.fault ≢ Read
        → ¬ IsRightFile (rules_by survey) survey.limits file
    open-not_accepted file Reading ahead are in_stage first others found adds open_ is other =
        let at = in_stage.is_at in
        listed_law (rules_by survey) survey.limits file at.point.read are (at.stands.logs.is_read file (are, refl))
        (subst (λ (l : List MeantListed). l ≢ []) at.stands.has.listed
        (some-mapped survey.listing.list.items (λ none. only-read survey.listing.list.items found first others adds none is other)))
    open-not_accepted file (Seeking sought) ahead are in_stage first others found adds open_ is other =
        let at = in_stage.is_at in
        let next = at.is_sought.broken.next_in file (are, refl) in
        passed-not_accepted listed_law ended_law (rules_by survey) own-formed survey.limits file are at.point.read
        (at.is_sought.broken.stood.logs.is_read file (are, refl)) _ _ _ next.to_pass next.begins_at at.is_sought.of_file.1
    open-not_accepted file (Waiting unlisted) ahead are in_stage first others found adds open_ is other =
        let at = in_stage.is_at in
        listed_law (rules_by survey) survey.limits file at.read are (at.is_read file (are, refl))
        (subst (λ (l : List MeantListed). l ≢ []) at.has.listed
        (some-mapped survey.listing.list.items (λ none. only-read survey.listing.list.items found first others adds none is other)))
    open-not_accepted file (Ended extent) ahead are in_stage first others found adds open_ is other = absurd (open_ tt)

    interrupted-dead : limits.file_source < 2 ^ 64 → (bytes : List ℕ) → StandsBehind survey bytes → Each IsByte bytes → (found : Found)
        → IsInterrupted survey survey.stage found
        → ¬ HasListEnded survey.stage → (first : Listed) (others : List Listed) → found.list.items ≡ first ∷ others → first.fault ≢ Read
        → IsDeadBy s limits bytes
    interrupted-dead counted bytes stands are found adds open_ first others is other more more_are accepted =
        let file : List ℕ = bytes ++ more in
        open-not_accepted file survey.stage more (Each-append IsByte bytes more are more_are)
        (stands (all_of file) more (accepted-few counted file accepted) refl) first others found adds open_ is other
        (own-accepted file accepted)

    -- ---- what is said of the bytes

    module _ (counted : limits.file_source < 2 ^ 64) (old new : Option (List ℕ)) (found : Found) (finds : FindsAll survey found) where
      -- they are refused
      refused-bytes : IsSurveyedTo limits old new survey false → AreOfFile found.list.items → ¬ ListsNothing found
          → IsRefusedBy s limits old new
      refused-bytes to of some = record { bytes = to.bytes; consumed = to.consumed; refused = by to.over }
        where
          by : HasListEnded survey.stage ⊎ IsAtEnd new ⊎ (limits.file_source < length to.bytes) → IsDeadBy s limits to.bytes
              ⊎ (IsAtEnd new × ¬ IsRightFile s limits to.bytes)
          by (inl ended) = inl (ended-dead counted to.bytes to.stands ended to.are_bytes)
          by (inr (inl at_end)) = inr (
            at_end,
            found-not_accepted to.bytes found to.are_bytes
                (found-alone found finds to.bytes to.stands to.are_bytes to.few) of some,
          )
          by (inr (inr long)) = inl (long-dead s limits to.bytes long)

      -- a reference is refused first
      reference-first : IsSurveyedTo limits old new survey false → AreOfFile found.list.items → ¬ ListsNothing found
          → (first : Refusal) (others : List Refusal)
          → found.references.items ≡ first ∷ others → RefusesBy s limits old new first.fault
      reference-first to of some first others is =
          let whole = (found-alone found finds to.bytes to.stands to.are_bytes to.few).survey in
          let numbers = list-references s limits to.bytes whole.reading whole.entries _ _ _ whole.ends in
          let own = Each-unmapped IsOfReference told_as found.references.items numbers in
          let told = (subst (λ (l : List Refusal). Each (λ (r : Refusal). IsOfReference (told_as r)) l) is own).0 in
          refuses-read s limits old new first.fault (reference-of_file first told) (refused-bytes to of some)

      -- a statement is refused first, before a read failed or with it
      statement-first : IsSurveyedTo limits old new survey true → IsInterrupted survey survey.stage found
          → (first : Listed) (others : List Listed)
          → found.list.items ≡ first ∷ others → IsOfFile (fault_number first.fault) ⊎ (first.fault ≡ Read)
          → RefusesBy s limits old new first.fault
      statement-first to adds first others is (inl of) =
          refuses-read s limits old new first.fault of (record {
            bytes = to.bytes;
            consumed = to.consumed;
            refused = inl (interrupted-dead counted to.bytes to.stands to.are_bytes found adds to.over first others is
                (of_file-unread first.fault of));
          })
      statement-first to adds first others is (inr read) = subst (λ (f : Fault). RefusesBy s limits old new f) (sym read)
          (unread-refuses s limits old new)

      first-refused : (has_failed : Bool) → IsSurveyedTo limits old new survey has_failed → AreOfReading has_failed found.list.items
          → (has_failed ≡ true → IsInterrupted survey survey.stage found) → ¬ ListsNothing found → (list : List Refusal)
          → list ≡ map refusal_of found.list.items ++ found.references.items
          → IsRefusedFirst s limits old new list
      first-refused has_failed to of adds some list list_is = by found.list.items refl found.references.items refl has_failed refl
        where
          by : (statements : List Listed) → found.list.items ≡ statements → (references : List Refusal)
              → found.references.items ≡ references → (failed : Bool) → has_failed ≡ failed
              → IsRefusedFirst s limits old new list
          by (first ∷ others) is references references_are true failed_is = (
            refusal_of first,
            map refusal_of others ++ found.references.items,
            list_is ∙ ap (λ (l : List Listed). map refusal_of l ++ found.references.items) is,
            statement-first (subst (IsSurveyedTo limits old new survey) failed_is to) (adds failed_is) first others is
                (head-told found.list.items first others is (subst (λ (b : Bool). AreOfReading b found.list.items) failed_is of)),
          )
          by (first ∷ others) is references references_are false failed_is =
              let own : AreOfFile found.list.items = subst (λ (b : Bool). AreOfReading b found.list.items) failed_is of in (
                refusal_of first,
                map refusal_of others ++ found.references.items,
                list_is ∙ ap (λ (l : List Listed). map refusal_of l ++ found.references.items) is,
                refuses-read s limits old new first.fault (subst AreOfFile is own).0
                    (refused-bytes (subst (IsSurveyedTo limits old new survey) failed_is to) own some),
              )
          by [] is references references_are true failed_is =
              absurd (interrupted-some survey survey.stage found (adds failed_is)
              (subst (IsSurveyedTo limits old new survey) failed_is to).over is)
          by [] is (first ∷ others) references_are false failed_is = (
            first,
            others,
            list_is ∙ (ap (λ (l : List Listed). map refusal_of l ++ found.references.items) is ∙ references_are),
            reference-first (subst (IsSurveyedTo limits old new survey) failed_is to)
                (subst (λ (b : Bool). AreOfReading b found.list.items) failed_is of) some first others references_are,
          )
          by [] is [] references_are false failed_is = absurd (some (is, references_are))

      -- ---- the list

      found-in : (has_failed : Bool) (refusals : Refusals) (file : List ℕ) (to : IsSurveyedTo limits old new survey has_failed)
          → (has_failed ≡ true → EndsByRead (surveyed.Refused refusals))
          → IsOfReader limits new refusals to.bytes file → IsFound s limits file found
      found-in has_failed refusals file to read of = by has_failed refl to.over
        where
          alone : IsReadWhole limits new refusals to.bytes → IsFound s limits file found
          alone out =
              let is : file ≡ to.bytes = of.file_is ∙ (ap (λ (l : List ℕ). to.bytes ++ l) (of.all out) ∙ append-nil to.bytes) in
              subst (λ (l : List ℕ). IsFound s limits l found) (sym is) (found-alone found finds to.bytes to.stands to.are_bytes to.few)

          by : (failed : Bool) → has_failed ≡ failed → IsOver limits new survey to.bytes failed → IsFound s limits file found
          by true is open_ = alone (inr (inl (read is)))
          by false is (inl ended) =
              subst (λ (l : List ℕ). IsFound s limits l found) (sym of.file_is)
              (found-ended found finds to.bytes of.rest to.stands ended (subst (Each IsByte) of.file_is of.are_bytes)
              (subst (λ (l : List ℕ). length l < 2 ^ 64) of.file_is of.few))
          by false is (inr (inl at_end)) = alone (inl at_end)
          by false is (inr (inr long)) = alone (inr (inr long))

      -- none of the list is of a read
      none-read : IsSurveyedTo limits old new survey false → AreOfFile found.list.items → (refusals : Refusals) → IsListOf found refusals
          → Each (λ (refusal : Refusal). refusal.fault ≢ Read) refusals.list.items
      none-read to of refusals lists =
          let whole = (found-alone found finds to.bytes to.stands to.are_bytes to.few).survey in
          let Unread : Refusal → Type 0 = λ refusal. refusal.fault ≢ Read in
          let statements = Each-mapped Unread refusal_of found.list.items
          (Each-weaker (λ (l : Listed). IsOfFile (fault_number l.fault)) (λ (l : Listed). l.fault ≢ Read)
          (λ l told. of_file-unread l.fault told) found.list.items of) in
          let told = Each-unmapped IsOfReference told_as found.references.items
          (list-references s limits to.bytes whole.reading whole.entries _ _ _ whole.ends) in
          let references = Each-weaker (λ (r : Refusal). IsOfReference (told_as r)) Unread
          (λ r is. of_file-unread r.fault (reference-of_file r is)) found.references.items told in
          subst (Each Unread) (sym lists.list_is) (Each-append Unread (map refusal_of found.list.items) found.references.items statements
          references)

      read-last_or_none : (has_failed : Bool) → IsSurveyedTo limits old new survey has_failed → AreOfReading has_failed found.list.items
          → (has_failed ≡ true → IsInterrupted survey survey.stage found) → (refusals : Refusals) → IsListOf found refusals
          → EndsByRead (surveyed.Refused refusals) ⊎ Each (λ (refusal : Refusal). refusal.fault ≢ Read) refusals.list.items
      read-last_or_none true to of adds refusals lists = inl (ends-by_read survey survey.stage found refusals (adds refl) to.over lists)
      read-last_or_none false to of adds refusals lists = inr (none-read to of refusals lists)

      lists-input : (has_failed : Bool) → IsSurveyedTo limits old new survey has_failed → AreOfReading has_failed found.list.items
          → (has_failed ≡ true → IsInterrupted survey survey.stage found) → (refusals : Refusals) → IsListOf found refusals
          → ListsRefusals s limits old new refusals
      lists-input has_failed to of adds refusals lists = record {
        bytes = to.bytes;
        consumed = to.consumed;
        are_bytes = to.are_bytes;
        few = to.few;
        listed = found.list.items;
        references = found.references.items;
        list_is = lists.list_is;
        begins_are = lists.begins_are;
        surveys = λ file of_reader.
            subst (λ e. IsSurvey s limits file (map listed_as found.list.items) (map told_as found.references.items) (extent_of e))
            (sym lists.extent_is)
            (found-in has_failed refusals file to (λ is. ends-by_read survey survey.stage found refusals (adds is)
            (subst (IsOver limits new survey to.bytes) is to.over) lists) of_reader).survey;
        read_is_last = read-last_or_none has_failed to of adds refusals lists;
      }

      -- ---- the file as it was accepted

      -- where nothing is refused the bytes are all, and no read failed
      right-input : (has_failed : Bool) → (to : IsSurveyedTo limits old new survey has_failed)
          → (has_failed ≡ true → IsInterrupted survey survey.stage found) → ListsNothing found → IsRightFile s limits to.bytes
          → IsAtEnd new × (has_failed ≡ false)
      right-input has_failed to adds nothing right = by has_failed refl to.over
        where
          by : (failed : Bool) → has_failed ≡ failed → IsOver limits new survey to.bytes failed → IsAtEnd new × (has_failed ≡ false)
          by true failed_is open_ = absurd (interrupted-some survey survey.stage found (adds failed_is) open_ nothing.0)
          by false failed_is (inl ended) =
              absurd (ended-dead counted to.bytes to.stands ended to.are_bytes [] tt
              (subst (IsRightFile s limits) (sym (append-nil to.bytes)) right))
          by false failed_is (inr (inl at_end)) = (at_end, failed_is)
          by false failed_is (inr (inr long)) =
              absurd (let within = right-within s limits to.bytes right in omega (arith, within, long))

      -- what is found of the bytes, where they are all
      pub all-found : (has_failed : Bool) → (to : IsSurveyedTo limits old new survey has_failed) → IsFound s limits to.bytes found
      all-found has_failed to = found-alone found finds to.bytes to.stands to.are_bytes to.few

      -- ---- where something is refused

      pub refuses-input : (has_failed : Bool) → IsSurveyedTo limits old new survey has_failed → AreOfReading has_failed found.list.items
          → (has_failed ≡ true → IsInterrupted survey survey.stage found) → ¬ ListsNothing found → (refusals : Refusals)
          → IsListOf found refusals → RefusesInput s limits old new refusals
      refuses-input has_failed to of adds some refusals lists = (
        first-refused has_failed to of adds some refusals.list.items lists.list_is,
        lists-input has_failed to of adds refusals lists,
      )

      pub failed-list : (has_failed : Bool) → IsSurveyedTo limits old new survey has_failed
          → (has_failed ≡ true → IsInterrupted survey survey.stage found) → (refusals : Refusals) → IsListOf found refusals
          → has_failed ≡ true → EndsByRead (surveyed.Refused refusals)
      failed-list has_failed to adds refusals lists failed =
          ends-by_read survey survey.stage found refusals (adds failed) (subst (IsOver limits new survey to.bytes) failed to.over) lists

      pub unread-list : IsSurveyedTo limits old new survey false → AreOfFile found.list.items → (refusals : Refusals)
          → IsListOf found refusals → ¬ EndsByRead (surveyed.Refused refusals)
      unread-list to of refusals lists = λ (before, last, list_is, extent_is, fault_is).
          (Each-back (λ (refusal : Refusal). refusal.fault ≢ Read) before (last ∷ [])
          (subst (Each (λ (refusal : Refusal). refusal.fault ≢ Read)) list_is (none-read to of refusals lists))).0 fault_is

-- ---- by a schema

module _ (listed_law : ListedIsNotAccepted) (ended_law : EndedIsNotAccepted) (s : Schema) (formed : IsWellFormed s) (limits : Limits)
    (survey : Survey) (same_rules : rules_by survey ≡ of_schema s) (same_limits : survey.limits ≡ limits)
    (counted : limits.file_source < 2 ^ 64) (old new : Option (List ℕ)) (found : Found) (finds : FindsAll survey found) where
  accepted-input : (has_failed : Bool) → IsSurveyedTo limits old new survey has_failed
      → (has_failed ≡ true → IsInterrupted survey survey.stage found)
      → (output : Output) → found.accepted ≡ Some output → IsAcceptedInput s limits old new output × (has_failed ≡ false)
  accepted-input has_failed to adds output is =
      let accepts : AcceptsFile s limits to.bytes found (Some output) =
      subst (AcceptsFile s limits to.bytes found) is
      (all-found listed_law ended_law (of_schema s) formed limits survey same_rules same_limits counted old new found finds has_failed
      to).accepted in
      let (meaning, means, canonical) = accepts.1.is_canonical in
      let (at_end, unfailed) = right-input listed_law ended_law (of_schema s) formed limits survey same_rules same_limits counted old new
      found finds has_failed to adds accepts.0 (meaning, means) in (
        record { bytes = to.bytes; read = record { consumed = to.consumed; at_end = at_end }; accepted = accepts.1 },
        unfailed,
      )

  pub surveyed-input : (has_failed : Bool) → IsSurveyedTo limits old new survey has_failed → AreOfReading has_failed found.list.items
      → (has_failed ≡ true → IsInterrupted survey survey.stage found) → (handed : Surveyed) → HandsOn found handed
      → SurveysInput s limits old new handed
  surveyed-input has_failed to of adds (surveyed.Accepted output) is = (accepted-input has_failed to adds output is).0
  surveyed-input has_failed to of adds (surveyed.Refused refusals) (refused, lists) =
      refuses-input listed_law ended_law (of_schema s) formed limits survey same_rules same_limits counted old new found finds has_failed to
      of adds (subst (AcceptsFile s limits to.bytes found) refused
      (all-found listed_law ended_law (of_schema s) formed limits survey same_rules same_limits counted old new found finds has_failed
      to).accepted) refusals lists

  -- the last refusal is that of a read exactly where one failed
  pub failed-input : (has_failed : Bool) → IsSurveyedTo limits old new survey has_failed
      → (has_failed ≡ true → IsInterrupted survey survey.stage found)
      → (handed : Surveyed) → HandsOn found handed → has_failed ≡ true → EndsByRead handed
  failed-input has_failed to adds (surveyed.Accepted output) is failed = let clash : true ≡ false = sym failed
      ∙ (accepted-input has_failed to adds output is).1 in cc
  failed-input has_failed to adds (surveyed.Refused refusals) (refused, lists) failed =
      failed-list listed_law ended_law (of_schema s) formed limits survey same_rules same_limits counted old new found finds has_failed to
      adds refusals lists failed

  pub unread-input : IsSurveyedTo limits old new survey false → AreOfFile found.list.items → (handed : Surveyed) → HandsOn found handed
      → ¬ EndsByRead handed
  unread-input to of (surveyed.Accepted output) is = λ read. read
  unread-input to of (surveyed.Refused refusals) (refused, lists) =
      unread-list listed_law ended_law (of_schema s) formed limits survey same_rules same_limits counted old new found finds to of refusals
      lists

  -- so it tells the failures of the reader
  pub failures-input : (has_failed : Bool) → IsSurveyedTo limits old new survey has_failed
      → (has_failed ≡ true → IsInterrupted survey survey.stage found) → (handed : Surveyed)
      → HandsOn found handed → (before after : ℕ) → after ≡ failures_behind before has_failed → (after ≡ before)
      ⊎ ((after ≡ one_call_more before) × EndsByRead handed)
  failures-input true to adds handed hands before after is = inr (is, failed-input true to adds handed hands refl)
  failures-input false to adds handed hands before after is = inl is

  pub read-input : (has_failed : Bool) → IsSurveyedTo limits old new survey has_failed → AreOfReading has_failed found.list.items
      → (handed : Surveyed) → HandsOn found handed
      → (before after : ℕ) → after ≡ failures_behind before has_failed → EndsByRead handed → after ≡ one_call_more before
  read-input true to of handed hands before after is read = is
  read-input false to of handed hands before after is read = absurd (unread-input to of handed hands read)

-- ---- by itself

module _ (listed_law : ListedIsNotAccepted) (ended_law : EndedIsNotAccepted) (limits : Limits) (survey : Survey)
    (same_rules : rules_by survey ≡ by_itself) (same_limits : survey.limits ≡ limits) (counted : limits.file_source < 2 ^ 64)
    (old new : Option (List ℕ)) (found : Found) (finds : FindsAll survey found) where
  well_formed-input : (has_failed : Bool) → IsSurveyedTo limits old new survey has_failed
      → (has_failed ≡ true → IsInterrupted survey survey.stage found)
      → (well_formed : WellFormed) → found.well_formed ≡ Some well_formed
      → IsWellFormedInput limits old new well_formed × (has_failed ≡ false)
  well_formed-input has_failed to adds well_formed is =
      let accepts : AcceptsAlone limits to.bytes found (Some well_formed) =
      subst (AcceptsAlone limits to.bytes found) is
      (all-found listed_law ended_law by_itself tt limits survey same_rules same_limits counted old new found finds has_failed
      to).accepted in
      let (at_end, unfailed) = right-input listed_law ended_law by_itself tt limits survey same_rules same_limits counted old new
      found finds has_failed to adds accepts.0 (accepts.1.structure, well_formed.schema.items, accepts.1.well_formed) in (
        record { bytes = to.bytes; read = record { consumed = to.consumed; at_end = at_end }; is_found = accepts.1 },
        unfailed,
      )

  pub surveyed-alone : (has_failed : Bool) → IsSurveyedTo limits old new survey has_failed → AreOfReading has_failed found.list.items
      → (has_failed ≡ true → IsInterrupted survey survey.stage found) → (handed : SurveyedAlone) → alone.HandsOn found handed
      → SurveysAlone limits old new handed
  surveyed-alone has_failed to of adds (IsWellFormed_ well_formed) is = (well_formed-input has_failed to adds well_formed is).0
  surveyed-alone has_failed to of adds (Refused refusals) (refused, lists) =
      refuses-input listed_law ended_law by_itself tt limits survey same_rules same_limits counted old new found finds has_failed to
      of adds (subst (AcceptsAlone limits to.bytes found) refused
      (all-found listed_law ended_law by_itself tt limits survey same_rules same_limits counted old new found finds has_failed
      to).accepted) refusals lists

  pub failed-alone : (has_failed : Bool) → IsSurveyedTo limits old new survey has_failed
      → (has_failed ≡ true → IsInterrupted survey survey.stage found)
      → (handed : SurveyedAlone) → alone.HandsOn found handed → has_failed ≡ true → alone.EndsByRead handed
  failed-alone has_failed to adds (IsWellFormed_ well_formed) is failed = let clash : true ≡ false = sym failed
      ∙ (well_formed-input has_failed to adds well_formed is).1 in cc
  failed-alone has_failed to adds (Refused refusals) (refused, lists) failed =
      failed-list listed_law ended_law by_itself tt limits survey same_rules same_limits counted old new found finds has_failed to
      adds refusals lists failed

  pub unread-alone : IsSurveyedTo limits old new survey false → AreOfFile found.list.items → (handed : SurveyedAlone)
      → alone.HandsOn found handed → ¬ alone.EndsByRead handed
  unread-alone to of (IsWellFormed_ well_formed) is = λ read. read
  unread-alone to of (Refused refusals) (refused, lists) =
      unread-list listed_law ended_law by_itself tt limits survey same_rules same_limits counted old new found finds to of refusals
      lists

  pub failures-alone : (has_failed : Bool) → IsSurveyedTo limits old new survey has_failed
      → (has_failed ≡ true → IsInterrupted survey survey.stage found) → (handed : SurveyedAlone)
      → alone.HandsOn found handed → (before after : ℕ) → after ≡ failures_behind before has_failed → (after ≡ before)
      ⊎ ((after ≡ one_call_more before) × alone.EndsByRead handed)
  failures-alone true to adds handed hands before after is = inr (is, failed-alone true to adds handed hands refl)
  failures-alone false to adds handed hands before after is = inl is

  pub read-alone : (has_failed : Bool) → IsSurveyedTo limits old new survey has_failed → AreOfReading has_failed found.list.items
      → (handed : SurveyedAlone) → alone.HandsOn found handed
      → (before after : ℕ) → after ≡ failures_behind before has_failed → alone.EndsByRead handed → after ≡ one_call_more before
  read-alone true to of handed hands before after is read = is
  read-alone false to of handed hands before after is read = absurd (unread-alone to of handed hands read)

-- ---- how many are listed

list-most : (most : ℕ) (found : Found) (refusals : Refusals) → FindsAtMost most found → IsListOf found refusals
    → ListsAtMost most (surveyed.Refused refusals)
list-most most found refusals (few, full) lists =
    let size = ap length lists.list_is in
    let sum = length-append (map refusal_of found.list.items) found.references.items in
    let own = length-map found.list.items refusal_of in (
      omega (arith, few, size, sum, own),
      λ is. (let all = full (sym lists.extent_is ∙ is) in omega (arith, all, size, sum, own)),
    )

pub listed-most : (most : ℕ) (found : Found) (handed : Surveyed) → FindsAtMost most found → HandsOn found handed → ListsAtMost most handed
listed-most most found (surveyed.Accepted output) finds is = tt
listed-most most found (surveyed.Refused refusals) finds (refused, lists) = list-most most found refusals finds lists

pub alone-most : (most : ℕ) (found : Found) (handed : SurveyedAlone) → FindsAtMost most found → alone.HandsOn found handed
    → alone.ListsAtMost most handed
alone-most most found (IsWellFormed_ well_formed) finds is = tt
alone-most most found (Refused refusals) finds (refused, lists) = list-most most found refusals finds lists

-- ---- the end

-- the survey has read all of the file that ends behind what was read
pub out-of : (limits : Limits) (old new : Option (List ℕ)) (survey : Survey) (has_failed : Bool)
    → IsSurveyedTo limits old new survey has_failed → SomeIsReadOut survey survey.stage
out-of limits old new survey has_failed to = (
  all_of to.bytes,
  record { all = refl; in_stage = to.stands (all_of to.bytes) [] to.few (sym (append-nil to.bytes)) },
)
