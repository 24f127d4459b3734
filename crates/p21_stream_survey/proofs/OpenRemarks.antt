-- Statements with which a file ends in a remark that nothing ends.
use Rattle.std.proofs.Common.{Result, Ok, Err, IfOk, true, ◌≡◌, ◌≤◌, ◌<◌, ◌^◌, ℕ, suc, List, [], ◌++◌, length, take, drop, inl, refl, sym}
use Rattle.std.proofs.Common.{ap, subst, ◌∙◌, append-nil, length-append, arith}
use Rattle.std.proofs.lemmas.List.{take-append-drop}
use Rattle.std.proofs.lemmas.Result.{IfOk-weaker}
use Rattle.p21_spec_basics.specs.Limits.{Limits}
use Rattle.p21_spec_survey.specs.Rules.{Rules}
use Rattle.p21_spec_survey.specs.Resuming.{EndsInRemark}
use Rattle.p21_spec_survey.specs.Survey.{BeginsWithEnd, EndsReading, IsGoneOnBehind, IsToBePassed, at_statement}
use Rattle.p21_stream_log.proofs.Bounds.{read-within}
use Rattle.p21_stream_log.specs.Ending.{EndsWithin}
use Rattle.p21_stream_log.specs.Endless.{BeginsUnended, BeginsUnendedIn, UnendedGoesOn, UnendedIsBroken, UnendedIsNoEnd}
use Rattle.p21_stream_log.specs.Going.{TellsData, behind_stretch}
use Rattle.p21_stream_log.specs.Laws.{SoughtEnds, TooFarEnds}
use Rattle.p21_stream_log.specs.Log.{Held, IsFileOf, Known, Logs, Point}
use Rattle.p21_stream_log.specs.Passage.{IsBrokenBy, PassageFor, PassageGives}
use Rattle.p21_stream_log.specs.declared.passage.Passage.{Passage}
use Rattle.p21_stream_log.specs.declared.passage.Passage.TheVariants.{AtFileMark, GoesOn, Sought, TooLong}
use Rattle.p21_stream_resume.specs.Seeking as seeking
use Rattle.p21_stream_resume.specs.Standing.{EndsNoRemark}
use Rattle.p21_stream_survey.specs.Sifted.{Sifted}
use Rattle.p21_stream_statements.specs.Fault.{fault_number}
use Rattle.p21_stream_statements.specs.declared.fault.Fault.{Fault}
use Rattle.p21_stream_statements.specs.declared.fault.Fault.TheVariants.{Token}
use Rattle.p21_stream_statements.specs.declared.refusal.At.TheVariants.{Statement}
use Rattle.p21_stream_survey.proofs.AtEnd.{stood}
use Rattle.p21_stream_survey.proofs.Numbers.{gone-on-number}
use Rattle.p21_stream_survey.proofs.PassedOn.{passed-reads}
use Rattle.p21_stream_survey.specs.Ending.{EndsAtStretch, EndsBy}
use Rattle.p21_stream_survey.specs.Finishing.{EndsWithRefusal}
use Rattle.p21_stream_survey.specs.Kinds.{IsOfFile}
use Rattle.p21_stream_survey.specs.Passing.{ListsPassed}
use Rattle.p21_stream_survey.specs.Unended.{EndsUnended, IsAtLast, IsUnendedAt, PassesUnended}
use Rattle.p21_stream_survey.specs.declared.finishing.Ended.{Ended}
use Rattle.p21_stream_survey.specs.declared.finishing.Ended.TheVariants.{AtFileEnd, Listed, PassedOver}
use Rattle.p21_stream_survey.specs.declared.listed.Extent.{Extent}
use Rattle.p21_stream_survey.specs.declared.listing.Listing.{Listing}
use Rattle.p21_tokens.specs.declared.fault.TokenFault.TheVariants.{FileTooLong}

-- the refusal is one that a file has
pub remark-number : (number : ℕ) → number ≡ 3 → IsOfFile number
remark-number number three = (λ is. omega (arith, three, is), omega (arith, three))

-- ---- it is broken

module _ (limits : Limits) (held : Held) (front statement : List ℕ) (fault : Fault) (begins : ℕ) where
  -- where that is so at each point
  abbrev pub UnendedAt : Type 0
  UnendedAt = (s : Rules) (known : Known) (point : Point) (sieve : Sifted) (listing : Listing) → front ≡ held.buffer
      → IsAtLast s limits known held sieve listing point statement → IsUnendedAt s limits known point held statement fault begins

  pub unended-at : UnendedIsBroken → UnendedGoesOn → UnendedIsNoEnd → limits.file_source < 2 ^ 64 → TellsData held true
      → EndsNoRemark statement → (more : List ℕ) × (statement ≡ front ++ more) → BeginsUnended front
      → (IsGoneOnBehind (fault_number fault) → EndsWithin front (fault_number fault)) → fault_number fault ≡ 3
      → BeginsUnendedIn held front begins → UnendedAt
  unended-at broken goes no_end short tells none (more, is) begun within three begins_in s known point sieve listing are at =
      let logs = at.stands.logs in
      let gone : IsGoneOnBehind (fault_number fault) = subst IsGoneOnBehind (sym three) (inl (omega arith)) in
      let (inside, ends) = (within gone).in_remark three in
      let all : EndsNoRemark (front ++ more) = subst EndsNoRemark is none in
      let size : length (point.read.bytes ++ front) ≤ limits.file_source =
      subst (λ (l : List ℕ). length (point.read.bytes ++ l) ≤ limits.file_source) (sym are) (read-within s limits known held point logs) in
      record {
        to_end = at.to_end;
        gone_on = gone;
        broken = subst (λ (n : ℕ). IsBrokenBy s limits known point held statement [] [] n (at_statement (suc point.read.count)) begins)
            (sym three)
            (broken s limits known point held statement (inside ++ more) begins logs at.between at.to_end
            (subst (λ (l : List ℕ). EndsInRemark l (inside ++ more)) (sym is) (goes front inside more all ends))
            ((tells s limits known point (stood s limits known point held logs at.between)).0 refl)
            (subst (λ (l : List ℕ). ¬ BeginsWithEnd l) (sym is) (no_end front more all begun))
            (λ file of. begins_in file more point.read logs.start_is (omega (arith, size, short))
            (at.to_end file of ∙ ap (λ (l : List ℕ). point.read.bytes ++ l) is) all begun));
      }

-- ---- no more are asked for

pub stretch-ends : (limits : Limits) (old new : Held) (before behind : Listing) (front statement : List ℕ) (fault : Fault) (begins : ℕ)
    (extent : Extent) → UnendedAt limits old front statement fault begins
    → EndsAtStretch before fault (Statement before.statement) begins extent behind
    → EndsUnended limits old before front statement (Listed extent) new behind
stretch-ends limits old new before behind front statement fault begins extent at ends s known point sieve are last file of =
    let next = (at s known point sieve before are last).broken.next_in file of in
    let has = last.stands.has in
    ends s limits file point.read sieve
    (record { is_read = last.stands.logs.is_read file of; has = has; begins_at = next.begins_at })
    (subst (λ (n : ℕ). IsToBePassed s limits file point.read (fault_number fault) (at_statement n)) (sym has.counted) next.to_pass)

-- ---- it is passed over

says : (old new : Held) (fault : Fault) (begins : ℕ) (statement : List ℕ) (passage : Passage) → PassageGives old statement [] passage new
    → (s : Rules) (limits : Limits) (known : Known) (point : Point) → IsUnendedAt s limits known point old statement fault begins
    → PassageFor s limits known point statement [] [] (fault_number fault) (at_statement (suc point.read.count)) begins passage new
says old new fault begins statement passage gives s limits known point at =
    gives.1 s limits known point [] (fault_number fault) (at_statement (suc point.read.count)) begins at.broken

goes-on : (old new : Held) (before behind : Listing) (fault : Fault) (begins count : ℕ) (statement : List ℕ)
    → PassageGives old statement [] (GoesOn count) new
    → ListsPassed before fault begins count (length statement) (GoesOn count) behind
    → PassesUnended old before fault begins statement (GoesOn count) new behind
goes-on old new before behind fault begins count statement gives lists s limits known point sieve at has =
    let number : ℕ = fault_number fault in
    let subject = at_statement (suc point.read.count) in
    let logs = says old new fault begins statement (GoesOn count) gives s limits known point at in
    record {
      logs = subst (λ (l : List ℕ). Logs s limits known new (behind_stretch point (take count statement) number subject begins l))
          (append-nil (drop count statement))
          (subst (λ (l : List ℕ). Logs s limits known new (behind_stretch point (take count l) number subject begins (drop count l ++ [])))
          (append-nil statement) logs);
      has = passed-reads s limits point.read statement begins count (length statement) fault sieve before behind has lists
          (gone-on-number number at.gone_on) (λ some. some, λ some. some);
    }

-- whatever the call that lists it answers
pub goes-on_where : {E : Type 0} → (old new : Held) (before behind : Listing) (fault : Fault) (begins count : ℕ) (statement : List ℕ)
    (result : Result Passage E) → PassageGives old statement [] (GoesOn count) new
    → IfOk result (λ passage. ListsPassed before fault begins count (length statement) passage behind)
    → IfOk result (λ passage. PassesUnended old before fault begins statement passage new behind)
goes-on_where old new before behind fault begins count statement (Ok passage) gives lists =
    subst (λ (p : Passage). PassesUnended old before fault begins statement p new behind) (sym lists.passage_is)
    (goes-on old new before behind fault begins count statement gives
    (subst (λ (p : Passage). ListsPassed before fault begins count (length statement) p behind) lists.passage_is lists))
goes-on_where old new before behind fault begins count statement (Err none) gives lists = tt

-- where it isn't
pub stays-mark : (old new : Held) (before : Listing) (fault : Fault) (begins : ℕ) (statement : List ℕ)
    → PassageGives old statement [] AtFileMark new → PassesUnended old before fault begins statement AtFileMark new before
stays-mark old new before fault begins statement gives = (gives.0, refl, says old new fault begins statement AtFileMark gives)

pub stays-long : (old new : Held) (before : Listing) (fault : Fault) (begins : ℕ) (statement : List ℕ)
    → PassageGives old statement [] TooLong new → PassesUnended old before fault begins statement TooLong new before
stays-long old new before fault begins statement gives = (gives.0, refl, says old new fault begins statement TooLong gives)

pub stays-sought : (old new : Held) (before : Listing) (fault : Fault) (begins : ℕ) (statement : List ℕ) (seeker : seeking.Held)
    → PassageGives old statement [] (Sought seeker) new → PassesUnended old before fault begins statement (Sought seeker) new before
stays-sought old new before fault begins statement seeker gives =
    (gives.0, refl, says old new fault begins statement (Sought seeker) gives)

pub passes-on : (limits : Limits) (old new : Held) (before behind : Listing) (front statement : List ℕ) (fault : Fault) (begins count : ℕ)
    → UnendedAt limits old front statement fault begins → PassesUnended old before fault begins statement (GoesOn count) new behind
    → new.buffer ≡ [] → EndsUnended limits old before front statement (PassedOver count) new behind
passes-on limits old new before behind front statement fault begins count at passes none s known point sieve are last =
    let stands = passes s limits known point sieve (at s known point sieve before are last) last.stands.has in
    record {
      point = behind_stretch point (take count statement) (fault_number fault) (at_statement (suc point.read.count)) begins
          (drop count statement);
      stands = stands;
      between = refl;
      unseen = refl;
      ahead = refl;
      none_open = none;
      counted =
          let start = last.stands.logs.start_is in
          let passed = stands.logs.start_is in
          let sum = length-append point.read.bytes (take count statement) in
          let parts = length-append (take count statement) (drop count statement) in
          let all = ap length (take-append-drop count statement) in
          omega (arith, start, passed, sum, parts, all);
    }

-- ---- the list ends with it

-- with this refusal, in each file
with-refusal : (limits : Limits) (old new : Held) (before between behind : Listing) (front statement : List ℕ) (own fault : Fault)
    (begins : ℕ) (ended : Ended) → between ≡ before → UnendedAt limits old front statement own begins
    → EndsWithRefusal between fault begins ended behind
    → ((s : Rules) (known : Known) (point : Point) → IsUnendedAt s limits known point old statement own begins
    → (file : List ℕ) → IsFileOf known file
    → EndsReading s limits file point.read (fault_number fault) (at_statement (suc point.read.count)))
    → EndsUnended limits old before front statement ended new behind
with-refusal limits old new before between behind front statement own fault begins (Listed extent) same at ends why =
    λ s known point sieve are last file of.
    let there = at s known point sieve before are last in
    let has = last.stands.has in
    let by = subst (λ (l : Listing). EndsBy l fault (Statement l.statement) begins extent behind) same ends in
    by s limits file point.read sieve
    (record { is_read = last.stands.logs.is_read file of; has = has; begins_at = (there.broken.next_in file of).begins_at })
    (subst (λ (n : ℕ). EndsReading s limits file point.read (fault_number fault) (at_statement n)) (sym has.counted)
    (why s known point there file of))
with-refusal limits old new before between behind front statement own fault begins (PassedOver count) same at ends why = absurd ends
with-refusal limits old new before between behind front statement own fault begins AtFileEnd same at ends why = absurd ends

pub mark-ends : {E : Type 0} → (limits : Limits) (old middle new : Held) (before between behind : Listing) (front statement : List ℕ)
    (fault : Fault) (begins : ℕ) (result : Result Ended E) → UnendedAt limits old front statement fault begins
    → PassesUnended old before fault begins statement AtFileMark middle between
    → IfOk result (λ ended. EndsWithRefusal between fault begins ended behind)
    → IfOk result (λ ended. EndsUnended limits old before front statement ended new behind)
mark-ends limits old middle new before between behind front statement fault begins result at (_, same, gives) ends =
    IfOk-weaker result (λ (ended : Ended). EndsWithRefusal between fault begins ended behind)
    (λ (ended : Ended). EndsUnended limits old before front statement ended new behind)
    (λ ended own. with-refusal limits old new before between behind front statement fault fault begins ended same at own
    (λ s known point there. gives s limits known point there)) ends

pub long-ends : {E : Type 0} → TooFarEnds → (limits : Limits) (old middle new : Held) (before between behind : Listing)
    (front statement : List ℕ) (fault : Fault) (begins : ℕ) (result : Result Ended E) → limits.file_source < 2 ^ 64
    → UnendedAt limits old front statement fault begins → PassesUnended old before fault begins statement TooLong middle between
    → IfOk result (λ ended. EndsWithRefusal between (Token FileTooLong) begins ended behind)
    → IfOk result (λ ended. EndsUnended limits old before front statement ended new behind)
long-ends too_far limits old middle new before between behind front statement fault begins result short at (_, same, gives) ends =
    IfOk-weaker result (λ (ended : Ended). EndsWithRefusal between (Token FileTooLong) begins ended behind)
    (λ (ended : Ended). EndsUnended limits old before front statement ended new behind)
    (λ ended own. with-refusal limits old new before between behind front statement fault (Token FileTooLong) begins ended same at own
    (λ s known point there file of. too_far s limits file point.read (fault_number fault) (at_statement (suc point.read.count)) short
    (gives s limits known point there file of))) ends

pub sought-ends : {E : Type 0} → SoughtEnds → (limits : Limits) (old middle new : Held) (before between behind : Listing)
    (front statement : List ℕ) (fault : Fault) (begins : ℕ) (result : Result Ended E) (seeker : seeking.Held)
    → UnendedAt limits old front statement fault begins
    → PassesUnended old before fault begins statement (Sought seeker) middle between
    → IfOk result (λ ended. EndsWithRefusal between fault begins ended behind)
    → IfOk result (λ ended. EndsUnended limits old before front statement ended new behind)
sought-ends sought limits old middle new before between behind front statement fault begins result seeker at (_, same, gives) ends =
    IfOk-weaker result (λ (ended : Ended). EndsWithRefusal between fault begins ended behind)
    (λ (ended : Ended). EndsUnended limits old before front statement ended new behind)
    (λ ended own. with-refusal limits old new before between behind front statement fault fault begins ended same at own
    (λ s known point there file of. sought s limits known point old statement [] (fault_number fault)
    (at_statement (suc point.read.count)) begins seeker there.broken (gives s limits known point there) file of
    (there.to_end file of ∙ ap (λ (l : List ℕ). point.read.bytes ++ l) (sym (append-nil statement))))) ends
