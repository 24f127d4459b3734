-- What the walk from statement to statement does with the next bytes (this project's own).
use Rattle.std.specs.Prelude.{◌≡◌, ◌⊎◌, ◌<◌, ◌≤◌, ◌+◌, ℕ, suc, List, [], ◌∷◌, ◌++◌, length, drop, Result, Ok}
use Rattle.p21_spec_exchange.specs.Statement.{Statement}
use Rattle.p21_spec_survey.specs.Resuming.{HasNoneInside}
use Rattle.p21_spec_survey.specs.Survey.{EndsReading, IsToBePassed, Reading}
use Rattle.p21_stream_log.specs.Log.{IsFileOf, IsRefused, Known, Point}
use Rattle.p21_stream_log.specs.declared.passage.Passage.{Passage}
use Rattle.p21_stream_log.specs.declared.passage.Passage.TheVariants.{AtFileMark, GoesOn, Sought, TooLong}
use Rattle.p21_stream_resume.specs.Seeking as seeking
use Rattle.p21_stream_survey.specs.Sifted.{Sifted}
use Rattle.p21_stream_statements.specs.Fault.{fault_number}
use Rattle.p21_stream_statements.specs.StatementReader.{IsSeenAt}
use Rattle.p21_stream_statements.specs.declared.fault.Fault.{Fault}
use Rattle.p21_stream_statements.specs.declared.fault.Fault.TheVariants.{Token}
use Rattle.p21_stream_statements.specs.declared.refusal.At.TheVariants.{Statement as AtStatement}
use Rattle.p21_stream_survey.specs.Breaking.{MayBePassed}
use Rattle.p21_stream_survey.specs.Course.{GoesFurther, GoesTo, IsInStage, IsSound, Waits, listed_of}
use Rattle.p21_stream_survey.specs.Ending.{IsReadSo}
use Rattle.p21_stream_survey.specs.Following.{HasEnded, Stands}
use Rattle.p21_stream_survey.specs.Judging.{JudgeGives}
use Rattle.p21_stream_survey.specs.Keeping.{kept_by, rules_by}
use Rattle.p21_stream_survey.specs.Kinds.{AreOfFile, IsOfFile}
use Rattle.p21_stream_survey.specs.Reading.{HasRead, subject_of}
use Rattle.p21_stream_survey.specs.declared.judging.Judgement.{Judgement}
use Rattle.p21_stream_survey.specs.declared.judging.Judgement.TheVariants.{Wrong}
use Rattle.p21_stream_survey.specs.declared.listed.Extent.TheVariants.{Most}
use Rattle.p21_stream_survey.specs.declared.listed.Listed.{Listed}
use Rattle.p21_stream_survey.specs.declared.seeking.Stretch.{Stretch}
use Rattle.p21_stream_survey.specs.declared.stage.Stage.{Stage}
use Rattle.p21_stream_survey.specs.declared.stage.Stage.TheVariants as stage
use Rattle.p21_stream_survey.specs.declared.survey.Next.{Next}
use Rattle.p21_stream_survey.specs.declared.survey.Survey.{Survey}
use Rattle.p21_tokens.specs.declared.fault.TokenFault.TheVariants.{FileTooLong}

-- of a survey in this stage: so many of the next bytes are read, and what is to be read again stands in front of the others
abbrev pub Goes : Survey → Stage → List ℕ → Next → Survey → Type 0
Goes old stage rest next new =
    (known : Known) (more : List ℕ) → IsInStage known old stage (rest ++ more)
    → GoesFurther known old new (rest ++ more) (next.again.items ++ (drop next.count rest ++ more))

-- ---- a statement that has ended

-- where this was kept, a statement has ended that isn't judged yet, and these bytes come next
pub record HasStatement (known : Known) (survey : Survey) (kept : Sifted) (statement : Statement) (ahead : List ℕ) : Type 0 where
  pub sound : IsSound known survey
  pub reading : survey.stage ≡ stage.Reading
  pub fewer : listed_of survey < survey.most
  pub point : Point
  pub stands : Stands (rules_by survey) survey.limits known survey.log kept survey.listing point
  pub ended : HasEnded survey.log point statement
  pub ahead_are : point.ahead ≡ ahead
  pub seen_at : IsSeenAt point.seen ahead 0
  pub counted : survey.log.start + (length survey.log.buffer + length ahead) ≡ length known.bytes

-- it was judged so, by what was kept before it
pub record IsJudged (known : Known) (survey : Survey) (judgement : Result Judgement Fault) (ahead : List ℕ) : Type 0 where
  pub statement : Statement
  pub before : Sifted
  pub has : HasStatement known survey before statement ahead
  pub gives : JudgeGives (rules_by survey) survey.limits before statement judgement (kept_by survey)

-- behind a statement that has ended: what is to be read again stands in front of what comes next; it is none, unless one more is listed
pub record GoesBehind (known : Known) (old new : Survey) (again ahead : List ℕ) : Type 0 where
  pub goes : GoesTo known old new (again ++ ahead)
  pub once : (again ≡ []) ⊎ (listed_of old < listed_of new)

abbrev pub FollowsJudged : Survey → Result Judgement Fault → List ℕ → Survey → Type 0
FollowsJudged old judgement again new = (known : Known) (ahead : List ℕ) → IsJudged known old judgement ahead
    → GoesBehind known old new again ahead

-- the same of an instance that is refused, with a signpost in a string of it
abbrev pub FollowsWrong : Survey → ℕ → Fault → List ℕ → Survey → Type 0
FollowsWrong old n fault again new =
    (known : Known) (ahead : List ℕ) → IsJudged known old (Ok (Wrong n fault)) ahead
    → ((behind : List ℕ) → ¬ HasNoneInside old.log.buffer behind) → GoesBehind known old new again ahead

-- ---- how the list ends

-- a refusal of the next statement ends the reading, and it is known where the statement begins
pub record EndsSo (known : Known) (survey : Survey) (refusal : Listed) : Type 0 where
  pub sound : IsSound known survey
  pub fewer : listed_of survey < survey.most
  pub read : Reading
  pub sieve : Sifted
  pub so : (file : List ℕ) → IsFileOf known file → IsReadSo (rules_by survey) survey.limits file read sieve survey.listing refusal.begins
  pub ends : (file : List ℕ) → IsFileOf known file → EndsReading (rules_by survey) survey.limits file read (fault_number refusal.fault)
      (subject_of refusal.at)
  pub of_file : AreOfFile (survey.listing.list.items ++ refusal ∷ [])

-- the next statement is to be passed over, and no more refusals than that are asked for
pub record EndsWithStretch (known : Known) (survey : Survey) (refusal : Listed) : Type 0 where
  pub sound : IsSound known survey
  pub last : suc (listed_of survey) ≡ survey.most
  pub read : Reading
  pub sieve : Sifted
  pub so : (file : List ℕ) → IsFileOf known file → IsReadSo (rules_by survey) survey.limits file read sieve survey.listing refusal.begins
  pub passes : (file : List ℕ) → IsFileOf known file
      → IsToBePassed (rules_by survey) survey.limits file read (fault_number refusal.fault) (subject_of refusal.at)
  pub of_file : AreOfFile (survey.listing.list.items ++ refusal ∷ [])

-- the list has ended with one more, whatever comes next
abbrev pub EndsList : (Known → Type 0) → Survey → Survey → Type 0
EndsList why old new = (known : Known) (ahead : List ℕ) → why known → GoesTo known old new ahead × (listed_of old < listed_of new)

-- ---- a statement of which a step refused some

-- a step refused some of this piece, with others behind it
pub record HasRefused (known : Known) (survey : Survey) (piece more : List ℕ) (fault : Fault) : Type 0 where
  pub sound : IsSound known survey
  pub reading : survey.stage ≡ stage.Reading
  pub fewer : listed_of survey < survey.most
  pub point : Point
  pub refused : IsRefused (rules_by survey) survey.limits known point piece fault survey.log
  pub between : point.ended ≡ []
  pub ahead_are : point.ahead ≡ piece ++ more
  pub has : HasRead (rules_by survey) survey.limits point.read (kept_by survey) survey.listing
  pub of_file : IsOfFile (fault_number fault)
  pub counted : survey.log.start + (length survey.log.buffer + length (piece ++ more)) ≡ length known.bytes

-- what is to be read again stands in front of what comes behind so many bytes of the piece; all of it is read and nothing again, unless
-- more than so many are listed
pub record GoesBehindPiece (known : Known) (old new : Survey) (fewer : ℕ) (piece more : List ℕ) (next : Next) : Type 0 where
  pub goes : GoesTo known old new (next.again.items ++ (drop next.count piece ++ more))
  pub once : ((next.again.items ≡ []) × (next.count ≡ length piece)) ⊎ (fewer < listed_of new)

abbrev pub GoesBehindRefused : Survey → List ℕ → Fault → Next → Survey → Type 0
GoesBehindRefused old piece fault next new =
    (known : Known) (more : List ℕ) → HasRefused known old piece more fault → GoesBehindPiece known old new (listed_of old) piece more next

-- behind a statement that may be passed over, of bytes that end with the piece, so many
abbrev pub PassesRefused : Survey → Fault → List ℕ → ℕ → Next → Survey → Type 0
PassesRefused old fault bytes count next new =
    (known : Known) (piece more : List ℕ) → bytes ≡ old.log.buffer ++ piece → length piece ≡ count → HasRefused known old piece more fault
    → MayBePassed old.log fault bytes
    → GoesBehindPiece known old new (listed_of old) piece more next

-- ---- a statement that is passed over

-- the refusal of a file that is passed over by more bytes than it may have
abbrev pub too_long : Survey → ℕ → Listed
too_long survey begins = record { fault = Token FileTooLong; at = AtStatement survey.listing.statement; begins = begins }

-- what is known of a passage by these bytes of a statement that is refused so, where others come behind them: it goes on behind so many and
-- has more than so many refusals, or its refusal or another one ends the reading, or a seeker has taken the bytes
abbrev pub PassesBy : Known → Survey → ℕ → Listed → List ℕ → List ℕ → Passage → Type 0
PassesBy known survey fewer refusal bytes ahead (GoesOn count) = (fewer < listed_of survey) × (survey.stage ≡ stage.Reading)
    × IsInStage known survey stage.Reading (drop count bytes ++ ahead)
PassesBy known survey fewer refusal bytes ahead AtFileMark = EndsSo known survey refusal
PassesBy known survey fewer refusal bytes ahead TooLong = EndsSo known survey (too_long survey refusal.begins)
PassesBy known survey fewer refusal bytes ahead (Sought seeker) =
    IsInStage known survey (stage.Seeking (record {
      seeker = seeker;
      stretch =
          record { fault = refusal.fault; begins = refusal.begins; taken = length bytes };
    })) ahead

-- of bytes that end with so many of a piece, and of which so many are passed: what of them isn't passed is what is to be read again, and
-- then the piece behind so many
abbrev pub ReadsBehind : List ℕ → ℕ → ℕ → Next → Type 0
ReadsBehind bytes count passed next = (front piece : List ℕ) → bytes ≡ front ++ piece → length piece ≡ count
    → next.again.items ++ drop next.count piece ≡ drop passed bytes

abbrev pub GoesByPassage : Survey → Listed → List ℕ → ℕ → Passage → Next → Survey → Type 0
GoesByPassage old refusal bytes count passage next new =
    (known : Known) (fewer : ℕ) (front piece more : List ℕ) → fewer ≤ listed_of old → bytes ≡ front ++ piece → length piece ≡ count
    → PassesBy known old fewer refusal bytes more passage → GoesBehindPiece known old new fewer piece more next

-- the refusal of a broken statement that is passed over
abbrev pub refusal_of : Survey → Stretch → Listed
refusal_of survey stretch = record { fault = stretch.fault; at = AtStatement survey.listing.statement; begins = stretch.begins }

-- a seeker has taken so many bytes more of a broken statement
abbrev pub HasSought : Known → Survey → seeking.Held → Stretch → ℕ → List ℕ → Type 0
HasSought known survey seeker stretch count ahead =
    IsInStage known survey (stage.Seeking (record { seeker = seeker; stretch = record stretch { taken = stretch.taken + count } })) ahead

abbrev pub SeeksOn : Survey → seeking.Held → Stretch → ℕ → Survey → Type 0
SeeksOn old seeker stretch count new = (known : Known) (ahead : List ℕ) → HasSought known old seeker stretch count ahead
    → GoesTo known old new ahead

-- ---- where the next statement begins isn't told

-- a refusal of the next statement, which has these bytes first, ends the reading, and isn't listed yet
pub record EndsWithin (known : Known) (survey : Survey) (fault : Fault) (bytes ahead : List ℕ) : Type 0 where
  pub sound : IsSound known survey
  pub fewer : listed_of survey < survey.most
  pub waits : Waits (rules_by survey) survey.limits known survey.log survey.listing fault bytes ahead

-- so the list has ended with it, or the survey waits for more
abbrev pub EndsAt : Survey → Fault → List ℕ → Survey → Type 0
EndsAt old fault bytes new = (known : Known) (ahead : List ℕ) → EndsWithin known old fault bytes ahead → GoesTo known old new ahead

-- the list has ended where as many are listed as are asked for; else nothing has changed
abbrev pub EndsWhereFull : Survey → Survey → Type 0
EndsWhereFull old new = ((listed_of old < old.most) × (new ≡ old))
    ⊎ ((old.most ≤ listed_of old) × (new ≡ record old { stage = stage.Ended Most }))
