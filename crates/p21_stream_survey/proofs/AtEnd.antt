-- The end of a file.
use Rattle.std.proofs.Common.{Bool, true, false, IsTrue, Option, Result, Ok, Err, IfOk, ◌≡◌, ◌⊎◌, ◌↔◌, ◌≤◌, ◌<◌, ◌^◌, ℕ, suc, List, [], ◌∷◌}
use Rattle.std.proofs.Common.{◌++◌, length, map, take, drop, inl, inr, refl, sym, ap, subst, ◌∙◌, append-nil, length-append, arith, None}
use Rattle.std.proofs.lemmas.List.{take-append-drop}
use Rattle.std.proofs.lemmas.Result.{IfOk-weaker}
use Rattle.p21_spec_basics.specs.Limits.{Limits}
use Rattle.p21_spec_survey.specs.Rules.{Rules, by_itself, of_schema}
use Rattle.p21_spec_survey.specs.Survey.{BeginsWithEnd, EndsReading, IsGoneOnBehind, IsInData, IsSurvey, IsToBePassed, at_statement}
use Rattle.p21_spec_survey.specs.Survey.{read_failed}
use Rattle.p21_stream_log.proofs.Bounds.{read-within}
use Rattle.p21_stream_log.specs.Broken.{BeginsIn}
use Rattle.p21_stream_log.specs.Ending.{EndGives, EndsBehind, EndsWithin}
use Rattle.p21_stream_log.specs.Going.{StoodFor, TellsData, behind_stretch}
use Rattle.p21_stream_log.specs.Laws.{BeginsInEach, EarlyEnds, EndedIsBroken, SoughtEnds, TooFarEnds}
use Rattle.p21_stream_log.specs.Log.{Held, IsFileOf, Known, Logs, Point}
use Rattle.p21_stream_log.specs.Opening.{OpensAs}
use Rattle.p21_stream_log.specs.Passage.{IsBrokenBy, PassageFor, PassageGives}
use Rattle.p21_stream_log.specs.declared.opening.Opening.{Opening}
use Rattle.p21_stream_log.specs.declared.opening.Opening.TheVariants.{SectionEnd, Untold}
use Rattle.p21_stream_log.specs.declared.opening.Opening.TheVariants as opening
use Rattle.p21_stream_log.specs.declared.passage.Passage.{Passage}
use Rattle.p21_stream_log.specs.declared.passage.Passage.TheVariants.{AtFileMark, GoesOn, Sought, TooLong}
use Rattle.p21_stream_output.specs.Output.{Output}
use Rattle.p21_stream_resume.specs.Seeking as seeking
use Rattle.p21_stream_survey.specs.Sifted.{Sifted}
use Rattle.p21_stream_statements.specs.Fault.{fault_number}
use Rattle.p21_stream_statements.specs.declared.fault.Fault.{Fault}
use Rattle.p21_stream_statements.specs.declared.fault.Fault.TheVariants.{NoMemory, Read, Token}
use Rattle.p21_stream_statements.specs.declared.refusal.At.TheVariants.{Statement}
use Rattle.p21_stream_statements.specs.declared.refusal.Refusal.{Refusal}
use Rattle.p21_stream_survey.proofs.Numbers.{gone-on-number}
use Rattle.p21_stream_survey.proofs.PassedOn.{passed-reads}
use Rattle.p21_stream_survey.specs.Ending.{EndsAtStretch, EndsBy, EndsInterrupted, IsReadSo, extent_of}
use Rattle.p21_stream_survey.specs.Finishing.{EndsSought, EndsStatement, EndsUnread, EndsWithRefusal, FindsAtEnd, FindsReferences}
use Rattle.p21_stream_survey.specs.Finishing.{FindsRefusal, InterruptsSought, IsAtEnd, IsEnded, IsEndedAt, IsKeptWhole, PassesEnded}
use Rattle.p21_stream_survey.specs.Finishing.{StandsAtEnd, TellsEnd, end_fault}
use Rattle.p21_stream_survey.specs.Found.{Accepts, AcceptsAlone, AcceptsFile, IsFound, ListsNothing, told_as}
use Rattle.p21_stream_survey.specs.Passing.{ListsPassed}
use Rattle.p21_stream_survey.specs.Reading.{HasRead, listed_as}
use Rattle.p21_stream_survey.specs.declared.finishing.Ended.{Ended}
use Rattle.p21_stream_survey.specs.declared.finishing.Ended.TheVariants.{AtFileEnd, Listed, PassedOver}
use Rattle.p21_stream_survey.specs.declared.listed.Extent.{Extent}
use Rattle.p21_stream_survey.specs.declared.listed.Found.{Found}
use Rattle.p21_stream_survey.specs.declared.listed.Listed as code
use Rattle.p21_stream_survey.specs.declared.listing.Listing.{Listing}
use Rattle.p21_stream_syntax.specs.declared.well_formed.WellFormed.{WellFormed}
use Rattle.p21_tokens.specs.declared.fault.TokenFault.TheVariants.{FileTooLong}

-- ---- what is known where nothing was refused

pub stood : (s : Rules) (limits : Limits) (known : Known) (point : Point) (held : Held) → Logs s limits known held point → point.ended ≡ []
    → StoodFor s limits known point held
stood s limits known point held logs between = record {
  before = held.reader;
  logs = logs;
  stays = λ earlier began. began;
  of_instance =
      inl between;
}

-- 64 bits count the bytes that a file may have
pub short-by : (limits : Limits) (most : ℕ) → most ≡ limits.file_source → most < 2 ^ 64 → limits.file_source < 2 ^ 64
short-by limits most is short = subst (λ (n : ℕ). n < 2 ^ 64) is short

-- what a log tells of its data section
pub in-data : (held : Held) (found : Bool) → TellsData held found → found ≡ true → TellsData held true
in-data held found tells is = subst (TellsData held) is tells

pub out-of_data : (held : Held) (found : Bool) → TellsData held found → found ≡ false
    → (s : Rules) (limits : Limits) (known : Known) (point : Point) → StoodFor s limits known point held → ¬ IsInData point.read.given
out-of_data held found tells none s limits known point for_point in_data = let clash : false ≡ true = sym none
    ∙ (tells s limits known point for_point).1 in_data in cc

pub gone-on : (number : ℕ) (found : Bool) → (IsTrue found ↔ IsGoneOnBehind number) → found ≡ true → IsGoneOnBehind number
gone-on number found tells is = tells.0 is

-- what a statement begins with that doesn't begin with ENDSEC
pub not-with_end : (bytes : List ℕ) (opening : Opening) → ¬ (opening ≡ SectionEnd) → OpensAs bytes opening → ¬ BeginsWithEnd bytes
not-with_end bytes SectionEnd other opens = absurd (other refl)
not-with_end bytes opening.Statement other (begun, never) = λ ends. never [] (subst BeginsWithEnd (sym (append-nil bytes)) ends)
not-with_end bytes Untold other (never, rest) = never

-- where the files end behind the buffer the statement begins there
begins-there : (s : Rules) (limits : Limits) (known : Known) (point : Point) (held : Held) (begins : ℕ) → limits.file_source < 2 ^ 64
    → BeginsIn held held.buffer begins → Logs s limits known held point → EndsBehind known point held.buffer
    → BeginsInEach known point begins
begins-there s limits known point held begins short begins_in logs to_end file of =
    let within = read-within s limits known held point logs in
    begins_in file [] point.read logs.start_is (omega (arith, within, short))
    (to_end file of ∙ ap (λ (l : List ℕ). point.read.bytes ++ l) (sym (append-nil held.buffer))) (inr refl)

pub begins-at_end : (s : Rules) (limits : Limits) (known : Known) (point : Point) (held : Held) (bytes : List ℕ) (begins : ℕ)
    → limits.file_source < 2 ^ 64 → bytes ≡ held.buffer → BeginsIn held bytes begins → Logs s limits known held point
    → EndsBehind known point held.buffer → BeginsInEach known point begins
begins-at_end s limits known point held bytes begins short are begins_in =
    begins-there s limits known point held begins short (subst (λ (l : List ℕ). BeginsIn held l begins) are begins_in)

read-so : (s : Rules) (limits : Limits) (known : Known) (point : Point) (held : Held) (sieve : Sifted) (listing : Listing) (begins : ℕ)
    → Logs s limits known held point → HasRead s limits point.read sieve listing → BeginsInEach known point begins
    → (file : List ℕ) → IsFileOf known file → IsReadSo s limits file point.read sieve listing begins
read-so s limits known point held sieve listing begins logs has at file of =
    record { is_read = logs.is_read file of; has = has; begins_at = at file of }

-- ---- a statement in which the file ends

module _ (limits : Limits) (held : Held) (bytes : List ℕ) (fault : Fault) (begins : ℕ) where
  -- it is to be passed over, where that is so at each point
  abbrev pub EndsAt : Type 0
  EndsAt = (s : Rules) (known : Known) (point : Point) (sieve : Sifted) (listing : Listing) → bytes ≡ held.buffer
      → IsAtEnd s limits known held sieve listing point → IsEndedAt s limits known point held fault begins

  pub ends-at : limits.file_source < 2 ^ 64 → TellsData held true → ¬ BeginsWithEnd bytes
      → (IsGoneOnBehind (fault_number fault) → EndsWithin bytes (fault_number fault)) → IsGoneOnBehind (fault_number fault)
      → BeginsIn held bytes begins → EndsAt
  ends-at short tells no_end within gone begins_in s known point sieve listing are at =
      let logs = at.stands.logs in
      record {
        logs = logs;
        between = at.between;
        to_end = at.to_end;
        within = subst (λ (l : List ℕ). EndsWithin l (fault_number fault)) are (within gone);
        gone_on = gone;
        in_data = (tells s limits known point (stood s limits known point held logs at.between)).0 refl;
        no_end = subst (λ (l : List ℕ). ¬ BeginsWithEnd l) are no_end;
        begins_in = begins-at_end s limits known point held bytes begins short are begins_in logs at.to_end;
      }

ended-broken : EndedIsBroken → (s : Rules) (limits : Limits) (known : Known) (point : Point) (held : Held) (fault : Fault) (begins : ℕ)
    → IsEndedAt s limits known point held fault begins
    → IsBrokenBy s limits known point held held.buffer [] [] (fault_number fault) (at_statement (suc point.read.count)) begins
ended-broken broken s limits known point held fault begins at =
    broken s limits known point held (fault_number fault) begins at.logs at.between at.to_end at.within at.gone_on at.in_data at.no_end
    at.begins_in

-- ---- no more are asked for

pub stretch-ends : EndedIsBroken → (limits : Limits) (old new : Held) (before behind : Listing) (bytes : List ℕ) (fault : Fault)
    (begins : ℕ) (extent : Extent) → EndsAt limits old bytes fault begins
    → EndsAtStretch before fault (Statement before.statement) begins extent behind
    → EndsStatement limits old before bytes (Listed extent) new behind
stretch-ends broken limits old new before behind bytes fault begins extent at ends s known point sieve are end file of =
    let ended = at s known point sieve before are end in
    let next = (ended-broken broken s limits known point old fault begins ended).next_in file of in
    let has = end.stands.has in
    ends s limits file point.read sieve (read-so s limits known point old sieve before begins ended.logs has ended.begins_in file of)
    (subst (λ (n : ℕ). IsToBePassed s limits file point.read (fault_number fault) (at_statement n)) (sym has.counted) next.to_pass)

-- ---- it is passed over

says-ended : EndedIsBroken → (old new : Held) (fault : Fault) (begins : ℕ) (bytes : List ℕ) (passage : Passage)
    → PassageGives old bytes [] passage new → (s : Rules) (limits : Limits) (known : Known) (point : Point)
    → bytes ≡ old.buffer → IsEndedAt s limits known point old fault begins
    → PassageFor s limits known point bytes [] [] (fault_number fault) (at_statement (suc point.read.count)) begins passage new
says-ended broken old new fault begins bytes passage gives s limits known point are at =
    let number : ℕ = fault_number fault in
    let subject = at_statement (suc point.read.count) in
    gives.1 s limits known point [] number subject begins
    (subst (λ (l : List ℕ). IsBrokenBy s limits known point old l [] [] number subject begins) (sym are)
    (ended-broken broken s limits known point old fault begins at))

goes-on : EndedIsBroken → (old new : Held) (before behind : Listing) (fault : Fault) (begins count : ℕ) (bytes : List ℕ)
    → PassageGives old bytes [] (GoesOn count) new → ListsPassed before fault begins count (length bytes) (GoesOn count) behind
    → PassesEnded old before fault begins bytes (GoesOn count) new behind
goes-on broken old new before behind fault begins count bytes gives lists s limits known point sieve are at has =
    let number : ℕ = fault_number fault in
    let subject = at_statement (suc point.read.count) in
    let logs = says-ended broken old new fault begins bytes (GoesOn count) gives s limits known point are at in
    record {
      logs = subst (λ (l : List ℕ). Logs s limits known new (behind_stretch point (take count bytes) number subject begins l))
          (append-nil (drop count bytes))
          (subst (λ (l : List ℕ). Logs s limits known new (behind_stretch point (take count l) number subject begins (drop count l ++ [])))
          (append-nil bytes) logs);
      has = passed-reads s limits point.read bytes begins count (length bytes) fault sieve before behind has lists
          (gone-on-number number at.gone_on) (λ some. some, λ some. some);
    }

-- whatever the call that lists it answers
pub goes-on_where : {E : Type 0} → EndedIsBroken → (old new : Held) (before behind : Listing) (fault : Fault) (begins count : ℕ)
    (bytes : List ℕ) (result : Result Passage E) → PassageGives old bytes [] (GoesOn count) new
    → IfOk result (λ passage. ListsPassed before fault begins count (length bytes) passage behind)
    → IfOk result (λ passage. PassesEnded old before fault begins bytes passage new behind)
goes-on_where broken old new before behind fault begins count bytes (Ok passage) gives lists =
    subst (λ (p : Passage). PassesEnded old before fault begins bytes p new behind) (sym lists.passage_is)
    (goes-on broken old new before behind fault begins count bytes gives
    (subst (λ (p : Passage). ListsPassed before fault begins count (length bytes) p behind) lists.passage_is lists))
goes-on_where broken old new before behind fault begins count bytes (Err none) gives lists = tt

-- where it isn't passed over
pub stays-mark : EndedIsBroken → (old new : Held) (before : Listing) (fault : Fault) (begins : ℕ) (bytes : List ℕ)
    → PassageGives old bytes [] AtFileMark new → PassesEnded old before fault begins bytes AtFileMark new before
stays-mark broken old new before fault begins bytes gives = (gives.0, refl, says-ended broken old new fault begins bytes AtFileMark gives)

pub stays-long : EndedIsBroken → (old new : Held) (before : Listing) (fault : Fault) (begins : ℕ) (bytes : List ℕ)
    → PassageGives old bytes [] TooLong new → PassesEnded old before fault begins bytes TooLong new before
stays-long broken old new before fault begins bytes gives = (gives.0, refl, says-ended broken old new fault begins bytes TooLong gives)

pub stays-sought : EndedIsBroken → (old new : Held) (before : Listing) (fault : Fault) (begins : ℕ) (bytes : List ℕ) (seeker : seeking.Held)
    → PassageGives old bytes [] (Sought seeker) new
    → PassesEnded old before fault begins bytes (Sought seeker) new before
stays-sought broken old new before fault begins bytes seeker gives =
    (gives.0, refl, says-ended broken old new fault begins bytes (Sought seeker) gives)

pub passes-on : (limits : Limits) (old new : Held) (before behind : Listing) (bytes : List ℕ) (fault : Fault) (begins count : ℕ)
    → EndsAt limits old bytes fault begins → PassesEnded old before fault begins bytes (GoesOn count) new behind
    → new.buffer ≡ [] → EndsStatement limits old before bytes (PassedOver count) new behind
passes-on limits old new before behind bytes fault begins count at passes none s known point sieve are end =
    let stands = passes s limits known point sieve are (at s known point sieve before are end) end.stands.has in
    record {
      point = behind_stretch point (take count bytes) (fault_number fault) (at_statement (suc point.read.count)) begins (drop count bytes);
      stands = stands;
      between = refl;
      unseen = refl;
      ahead = refl;
      none_open = none;
      counted =
          let start = end.stands.logs.start_is in
          let passed = stands.logs.start_is in
          let sum = length-append point.read.bytes (take count bytes) in
          let parts = length-append (take count bytes) (drop count bytes) in
          let all = ap length (take-append-drop count bytes) in
          omega (arith, start, passed, sum, parts, all);
    }

-- ---- the list ends with it

-- with this refusal, in each file
with-refusal : (limits : Limits) (old new : Held) (before between behind : Listing) (bytes : List ℕ) (fault : Fault) (begins : ℕ)
    (ended : Ended) → between ≡ before → EndsWithRefusal between fault begins ended behind
    → ((s : Rules) (known : Known) (point : Point) (sieve : Sifted) → bytes ≡ old.buffer → IsAtEnd s limits known old sieve before point
    → BeginsInEach known point begins × ((file : List ℕ) → IsFileOf known file
    → EndsReading s limits file point.read (fault_number fault) (at_statement (suc point.read.count))))
    → EndsStatement limits old before bytes ended new behind
with-refusal limits old new before between behind bytes fault begins (Listed extent) same ends why = λ s known point sieve are end file of.
    let (at, reading) = why s known point sieve are end in
    let has = end.stands.has in
    let by = subst (λ (l : Listing). EndsBy l fault (Statement l.statement) begins extent behind) same ends in
    by s limits file point.read sieve (read-so s limits known point old sieve before begins end.stands.logs has at file of)
    (subst (λ (n : ℕ). EndsReading s limits file point.read (fault_number fault) (at_statement n)) (sym has.counted) (reading file of))
with-refusal limits old new before between behind bytes fault begins (PassedOver count) same ends why = absurd ends
with-refusal limits old new before between behind bytes fault begins AtFileEnd same ends why = absurd ends

pub mark-ends : {E : Type 0} → (limits : Limits) (old middle new : Held) (before between behind : Listing) (bytes : List ℕ) (fault : Fault)
    (begins : ℕ) (result : Result Ended E) → EndsAt limits old bytes fault begins
    → PassesEnded old before fault begins bytes AtFileMark middle between
    → IfOk result (λ ended. EndsWithRefusal between fault begins ended behind)
    → IfOk result (λ ended. EndsStatement limits old before bytes ended new behind)
mark-ends limits old middle new before between behind bytes fault begins result at (_, same, gives) ends =
    IfOk-weaker result (λ (ended : Ended). EndsWithRefusal between fault begins ended behind)
    (λ (ended : Ended). EndsStatement limits old before bytes ended new behind)
    (λ ended own. with-refusal limits old new before between behind bytes fault begins ended same own (λ s known point sieve are end.
    let there = at s known point sieve before are end in
    (there.begins_in, gives s limits known point are there))) ends

pub long-ends : {E : Type 0} → TooFarEnds → (limits : Limits) (old middle new : Held) (before between behind : Listing) (bytes : List ℕ)
    (fault : Fault) (begins : ℕ) (result : Result Ended E) → limits.file_source < 2 ^ 64 → EndsAt limits old bytes fault begins
    → PassesEnded old before fault begins bytes TooLong middle between
    → IfOk result (λ ended. EndsWithRefusal between (Token FileTooLong) begins ended behind)
    → IfOk result (λ ended. EndsStatement limits old before bytes ended new behind)
long-ends too_far limits old middle new before between behind bytes fault begins result short at (_, same, gives) ends =
    IfOk-weaker result (λ (ended : Ended). EndsWithRefusal between (Token FileTooLong) begins ended behind)
    (λ (ended : Ended). EndsStatement limits old before bytes ended new behind)
    (λ ended own. with-refusal limits old new before between behind bytes (Token FileTooLong) begins ended same own
    (λ s known point sieve are end.
    let there = at s known point sieve before are end in (
      there.begins_in,
      λ file of. too_far s limits file point.read (fault_number fault) (at_statement (suc point.read.count)) short
          (gives s limits known point are there file of),
    ))) ends

pub sought-ends : {E : Type 0} → EndedIsBroken → SoughtEnds
    → (limits : Limits) (old middle new : Held) (before between behind : Listing) (bytes : List ℕ) (fault : Fault) (begins : ℕ)
    (result : Result Ended E) (seeker : seeking.Held) → EndsAt limits old bytes fault begins
    → PassesEnded old before fault begins bytes (Sought seeker) middle between
    → IfOk result (λ ended. EndsWithRefusal between fault begins ended behind)
    → IfOk result (λ ended. EndsStatement limits old before bytes ended new behind)
sought-ends broken sought limits old middle new before between behind bytes fault begins result seeker at (_, same, gives) ends =
    IfOk-weaker result (λ (ended : Ended). EndsWithRefusal between fault begins ended behind)
    (λ (ended : Ended). EndsStatement limits old before bytes ended new behind)
    (λ ended own. with-refusal limits old new before between behind bytes fault begins ended same own (λ s known point sieve are end.
    let there = at s known point sieve before are end in
    let number : ℕ = fault_number fault in
    let subject = at_statement (suc point.read.count) in (
      there.begins_in,
      λ file of. sought s limits known point old old.buffer [] number subject begins seeker
          (ended-broken broken s limits known point old fault begins there)
          (subst (λ (l : List ℕ). PassageFor s limits known point l [] [] number subject begins (Sought seeker) middle) are
          (gives s limits known point are there)) file of
          (there.to_end file of ∙ ap (λ (l : List ℕ). point.read.bytes ++ l) (sym (append-nil old.buffer))),
    ))) ends

-- ---- a stretch that is open at the end

pub stretch-sought : SoughtEnds → (before behind : Listing) (fault : Fault) (begins : ℕ) (extent : Extent)
    → EndsBy before fault (Statement before.statement) begins extent behind → EndsSought before fault begins extent behind
stretch-sought ends before behind fault begins extent by s limits known point held statement front taken seeker sieve sought to_end has
    file of =
    let number : ℕ = fault_number fault in
    let next = sought.broken.next_in file of in
    by s limits file point.read sieve (record { is_read = sought.broken.stood.logs.is_read file of; has = has; begins_at = next.begins_at })
    (subst (λ (n : ℕ). EndsReading s limits file point.read number (at_statement n)) (sym has.counted)
    (ends s limits known point held statement front number (at_statement (suc point.read.count)) begins seeker sought.broken sought.by
    file of (to_end file of)))

-- ---- a read that failed

pub unread-ends : (limits : Limits) (held : Held) (before behind : Listing) (bytes : List ℕ) (begins : ℕ) (extent : Extent)
    → limits.file_source < 2 ^ 64 → BeginsIn held bytes begins → EndsBy before Read (Statement before.statement) begins extent behind
    → EndsUnread limits held before bytes extent behind
unread-ends limits held before behind bytes begins extent short begins_in by s known point sieve are stands to_end file of =
    let logs = stands.logs in
    let has = stands.has in
    by s limits file point.read sieve (read-so s limits known point held sieve before begins logs has
    (begins-at_end s limits known point held bytes begins short are begins_in logs to_end) file of)
    (subst (λ (n : ℕ). EndsReading s limits file point.read 91 (at_statement n)) (sym has.counted) read_failed)

pub stretch-interrupted : (before behind : Listing) (fault : Fault) (begins : ℕ) (extent : Extent)
    → EndsInterrupted before fault (Statement before.statement) begins extent behind → InterruptsSought before fault begins extent behind
stretch-interrupted before behind fault begins extent by s limits known point held statement front more taken seeker sieve sought has
    file of =
    let next = sought.broken.next_in file of in
    by s limits file point.read sieve (record { is_read = sought.broken.stood.logs.is_read file of; has = has; begins_at = next.begins_at })
    (subst (λ (n : ℕ). IsToBePassed s limits file point.read (fault_number fault) (at_statement n)) (sym has.counted) next.to_pass)

-- ---- what is found

-- where something is refused, no file is accepted
accepts-none : (s : Rules) (limits : Limits) (file : List ℕ) (found : Found) → found.accepted ≡ None → found.well_formed ≡ None
    → ¬ ListsNothing found → Accepts s limits file found
accepts-none (of_schema s) limits file found accepted well_formed some =
    subst (λ (a : Option Output). AcceptsFile s limits file found a) (sym accepted) some
accepts-none by_itself limits file found accepted well_formed some =
    subst (λ (w : Option WellFormed). AcceptsAlone limits file found w) (sym well_formed) some

-- where the list has ended
pub ended-found : (s : Rules) (limits : Limits) (file : List ℕ) (listing : Listing) (extent : Extent) (found : Found)
    → 0 < length listing.list.items → IsSurvey s limits file (map listed_as listing.list.items) [] (extent_of extent)
    → IsEnded listing extent found
    → IsFound s limits file found
ended-found s limits file listing extent found some survey ended = record {
  survey =
      subst (λ (e : Extent). IsSurvey s limits file (map listed_as found.list.items) (map told_as found.references.items) (extent_of e))
      (sym ended.extent_is)
      (subst (λ (l : List Refusal). IsSurvey s limits file (map listed_as found.list.items) (map told_as l) (extent_of extent))
      (sym ended.references)
      (subst (λ (l : List code.Listed). IsSurvey s limits file (map listed_as l) [] (extent_of extent)) (sym ended.list) survey));
  accepted = accepts-none s limits file found ended.accepted ended.well_formed
      (λ nothing. let size : length listing.list.items ≡ 0 = ap length (sym ended.list ∙ nothing.0) in omega (arith, size, some));
  unserved = λ told. absurd (told ended.references);
}

pub refusal-found : (listing behind : Listing) (fault : Fault) (begins : ℕ) (extent : Extent) (found : Found)
    → behind.list.items ≡ listing.list.items ++ record { fault = fault; at = Statement listing.statement; begins = begins } ∷ []
    → EndsBy listing fault (Statement listing.statement) begins extent behind → IsEnded behind extent found
    → FindsRefusal listing fault begins found
refusal-found listing behind fault begins extent found list by ended s limits file read sieve so reading =
    let size = ap length list in
    let sum = length-append listing.list.items (record { fault = fault; at = Statement listing.statement; begins = begins } ∷ []) in
    ended-found s limits file behind extent found (omega (arith, size, sum)) (by s limits file read sieve so reading) ended

-- what is kept of a whole file
pub kept-whole : (s : Rules) (held : Held) (sieve : Sifted) (listing : Listing) → StandsAtEnd s held sieve listing → EndGives held (Ok tt)
    → IsKeptWhole s sieve listing
kept-whole s held sieve listing stands gives =
    let at = stands.at_end in
    record {
      limits = stands.limits;
      read = stands.point.read;
      has = at.stands.has;
      most = stands.limits.record_source;
      bytes = stands.point.read.kept ++ held.buffer;
      are_file = (gives s stands.limits stands.known stands.point at.stands.logs at.between at.unseen).0;
    }

pub file-found : (s : Rules) (limits : Limits) (held : Held) (sieve : Sifted) (listing : Listing) (found : Found) → EndGives held (Ok tt)
    → FindsReferences s sieve listing found → FindsAtEnd s limits held sieve listing found
file-found s limits held sieve listing found gives finds known point at file of =
    let logs = at.stands.logs in
    let (are, within) = gives s limits known point logs at.between at.unseen in
    finds limits file point.read (record {
      is_read = logs.is_read file of;
      has = at.stands.has;
      rest = held.buffer;
      file_is = at.to_end file of;
      are_file = are;
      within = subst (λ (l : List ℕ). length l ≤ limits.file_source) (sym (at.to_end file of)) within;
    })

-- the number of the end of a file that is refused
early-number : (held : Held) (bytes : List ℕ) (fault : Fault) (is_told : Bool) → (IsTrue is_told → TellsEnd held bytes)
    → (s : Rules) (limits : Limits) (known : Known) (point : Point) → StoodFor s limits known point held
    → (fault_number (end_fault fault is_told) ≡ 24) ⊎ ¬ IsInData point.read.given ⊎ OpensAs bytes SectionEnd
early-number held bytes fault true tells s limits known point for_point = inr (tells refl s limits known point for_point)
early-number held bytes fault false tells s limits known point for_point = inl refl

pub early-found : EarlyEnds → (s : Rules) (limits : Limits) (held : Held) (sieve : Sifted) (listing : Listing) (bytes : List ℕ)
    (fault : Fault) (is_told : Bool) (begins : ℕ) (found : Found) → limits.file_source < 2 ^ 64 → bytes ≡ held.buffer
    → BeginsIn held bytes begins
    → (IsTrue is_told → TellsEnd held bytes) → EndGives held (Err fault) → ¬ (fault ≡ NoMemory)
    → FindsRefusal listing (end_fault fault is_told) begins found → FindsAtEnd s limits held sieve listing found
early-found early s limits held sieve listing bytes fault is_told begins found short are begins_in tells gives other finds known point at
    file of =
    let logs = at.stands.logs in
    let has = at.stands.has in
    let number : ℕ = fault_number (end_fault fault is_told) in
    let why = early-number held bytes fault is_told tells s limits known point (stood s limits known point held logs at.between) in
    finds s limits file point.read sieve (read-so s limits known point held sieve listing begins logs has
    (begins-at_end s limits known point held bytes begins short are begins_in logs at.to_end) file of)
    (subst (λ (n : ℕ). EndsReading s limits file point.read number (at_statement n)) (sym has.counted)
    (early s limits known point held fault number gives other logs at.between at.unseen at.to_end
    (subst (λ (l : List ℕ). (number ≡ 24) ⊎ ¬ IsInData point.read.given ⊎ OpensAs l SectionEnd) are why) file of))
