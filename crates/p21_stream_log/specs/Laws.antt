-- What a caller of a log goes by.
use Rattle.std.specs.Prelude.{◌≡◌, ◌≢◌, ◌⊎◌, ◌+◌, ◌<◌, ◌≤◌, ◌^◌, ℕ, suc, List, [], ◌∷◌, ◌++◌, length, None, Err}
use Rattle.std.specs.List.{AllByRecursion as Each}
use Rattle.p21_spec_basics.specs.Digits.{IsByte}
use Rattle.p21_spec_basics.specs.Limits.{Limits}
use Rattle.p21_spec_exchange.specs.Record.{Record}
use Rattle.p21_spec_exchange.specs.Statement.{Statement, instance}
use Rattle.p21_spec_survey.specs.Rules.{HasSize, OffendsBy, Rules}
use Rattle.p21_spec_survey.specs.Resuming.{HasNoneInside}
use Rattle.p21_spec_survey.specs.Survey.{BeginsAt, BeginsWithEnd, EndsReading, IsGoneOnBehind, IsInData, IsRefusedInstance, Reading, Subject, at_statement, in_instance}
use Rattle.p21_stream_log.specs.Broken.{IsFrontOf, StandsAtByte}
use Rattle.p21_stream_log.specs.Ending.{EndGives, EndsBehind, EndsWithin, IsAllOf}
use Rattle.p21_stream_log.specs.Log.{EndsWith, Held, IsFileOf, IsRefused, Known, Logs, Point}
use Rattle.p21_stream_log.specs.Opening.{OpensAs}
use Rattle.p21_stream_log.specs.Passage.{IsBrokenBy, IsPassedTooFar, IsSoughtBy}
use Rattle.p21_stream_log.specs.declared.opening.Opening.TheVariants as opening
use Rattle.p21_stream_resume.specs.Seeking as seeking
use Rattle.p21_stream_statements.specs.Fault.{fault_number}
use Rattle.p21_stream_statements.specs.Place.{IsOfByte, place_behind}
use Rattle.p21_stream_statements.specs.declared.fault.Fault.{Fault}
use Rattle.p21_stream_statements.specs.declared.fault.Fault.TheVariants.{NoMemory, Token}
use Rattle.p21_tokens.specs.declared.fault.TokenFault.{TokenFault}

-- so many bytes stand in front of the next statement in each file
abbrev pub BeginsInEach : Known → Point → ℕ → Type 0
BeginsInEach known point begins = (file : List ℕ) → IsFileOf known file → BeginsAt file point.read begins

-- In a data section a step refused some of the piece, with a refusal that a survey goes on behind: where the bytes begin a statement that
-- doesn't begin with ENDSEC, it is broken by its front
abbrev pub RefusedIsBroken : Type 0
RefusedIsBroken = (s : Rules) (limits : Limits) (known : Known) (point : Point) (held : Held) (piece front behind more : List ℕ)
    (fault : Fault) (begins : ℕ)
    → IsRefused s limits known point piece fault held → point.ended ≡ []
    → point.ahead ≡ piece ++ more → IsGoneOnBehind (fault_number fault) → IsInData point.read.given → held.buffer ++ piece ≡ front ++ behind
    → IsFrontOf (held.buffer ++ piece) front → OpensAs (held.buffer ++ piece) opening.Statement
    → BeginsInEach known point begins → IsBrokenBy s limits known point held front behind more (fault_number fault)
    (at_statement (suc point.read.count)) begins

-- so is an instance that has ended and is refused, with a signpost in a string of it, by all its bytes
abbrev pub WrongIsBroken : Type 0
WrongIsBroken = (s : Rules) (limits : Limits) (known : Known) (point : Point) (held : Held) (n : ℕ) (record_ : Record) (number begins : ℕ)
    → Logs s limits known held point → point.ended ≡ instance n record_ ∷ [] → EndsWith 59 held.buffer
    → IsRefusedInstance s point.read.given n record_ number → ((behind : List ℕ) → ¬ HasNoneInside held.buffer behind)
    → IsInData point.read.given
    → OpensAs held.buffer opening.Statement → BeginsInEach known point begins
    → IsBrokenBy s limits known point held held.buffer [] point.ahead number (in_instance n) begins

-- where no signpost stands inside a broken statement, and a seeker has taken what stands behind it up to the end of the file, the reading
-- ends there
abbrev pub SoughtEnds : Type 0
SoughtEnds = (s : Rules) (limits : Limits) (known : Known) (point : Point) (held : Held) (statement behind : List ℕ) (number : ℕ)
    (subject : Subject) (begins : ℕ) (seeker : seeking.Held)
    → IsBrokenBy s limits known point held statement behind [] number subject begins → IsSoughtBy point statement behind seeker
    → (file : List ℕ) → IsFileOf known file → file ≡ point.read.bytes ++ (statement ++ behind)
    → EndsReading s limits file point.read number subject

-- in a data section no step refuses bytes of which it isn't told how they begin, with a refusal that a survey goes on behind: some file
-- begins with the kept bytes and these
abbrev pub RefusedIsTold : Type 0
RefusedIsTold = (s : Rules) (limits : Limits) (known : Known) (point : Point) (held : Held) (piece more : List ℕ) (fault : Fault)
    (file : List ℕ)
    → IsRefused s limits known point piece fault held → point.ended ≡ [] → point.ahead ≡ piece ++ more
    → IsGoneOnBehind (fault_number fault) → IsInData point.read.given → IsFileOf known file
    → ¬ OpensAs (held.buffer ++ piece) opening.Untold

-- where the next statement is passed over up to a landmark that stands too far, the file is too long
abbrev pub TooFarEnds : Type 0
TooFarEnds = (s : Rules) (limits : Limits) (file : List ℕ) (read : Reading) (number : ℕ) (subject : Subject) → limits.file_source < 2 ^ 64
    → IsPassedTooFar s limits file read number subject
    → EndsReading s limits file read 23 (at_statement (suc read.count))

-- ---- the end of the file, and what else ends the reading

-- In a data section the file ends inside a statement that doesn't begin with ENDSEC, with a refusal that a survey goes on behind: so it is
-- broken by all its bytes
abbrev pub EndedIsBroken : Type 0
EndedIsBroken = (s : Rules) (limits : Limits) (known : Known) (point : Point) (held : Held) (number begins : ℕ)
    → Logs s limits known held point
    → point.ended ≡ [] → EndsBehind known point held.buffer
    → EndsWithin held.buffer number → IsGoneOnBehind number → IsInData point.read.given → ¬ BeginsWithEnd held.buffer
    → BeginsInEach known point begins
    → IsBrokenBy s limits known point held held.buffer [] [] number (at_statement (suc point.read.count)) begins

-- where all of a file is known and taken, it ends behind the buffer
abbrev pub AllIsTaken : Type 0
AllIsTaken = (s : Rules) (limits : Limits) (known : Known) (point : Point) (held : Held) → Logs s limits known held point
    → IsAllOf known (place_behind held.reader) → EndsBehind known point held.buffer

-- what is read, and what is known behind it, is no more than is known
abbrev pub AheadFits : Type 0
AheadFits = (s : Rules) (limits : Limits) (known : Known) (point : Point) (held : Held) → Logs s limits known held point
    → Each IsByte known.bytes → length (point.read.bytes ++ (held.buffer ++ point.ahead)) ≤ length known.bytes

-- and where a broken statement and these bytes behind it are all of it, it ends behind these
abbrev pub AllIsPassed : Type 0
AllIsPassed = (s : Rules) (limits : Limits) (known : Known) (point : Point) (held : Held) (statement behind more : List ℕ) (number : ℕ)
    (subject : Subject) (begins : ℕ)
    → IsBrokenBy s limits known point held statement behind more number subject begins
    → IsAllOf known (held.start + length (statement ++ behind)) → EndsBehind known point (statement ++ behind)

-- a refusal of another number ends the reading, and so does each one in no data section, or of a statement that begins with ENDSEC
abbrev pub RefusedEnds : Type 0
RefusedEnds = (s : Rules) (limits : Limits) (known : Known) (point : Point) (held : Held) (piece more : List ℕ) (fault : Fault)
    → IsRefused s limits known point piece fault held → point.ahead ≡ piece ++ more
    → (IsGoneOnBehind (fault_number fault) → IsInData point.read.given → OpensAs (held.buffer ++ piece) opening.SectionEnd)
    → (file : List ℕ) → IsFileOf known file → EndsReading s limits file point.read (fault_number fault)
    (at_statement (suc point.read.count))

-- so does a statement that has ended and that a session refuses, an instance only for its length
abbrev pub OffendingEnds : Type 0
OffendingEnds = (s : Rules) (limits : Limits) (known : Known) (point : Point) (held : Held) (statement : Statement) (size number : ℕ)
    → Logs s limits known held point → point.ended ≡ statement ∷ [] → EndsWith 59 held.buffer
    → HasSize s point.read.taken size → OffendsBy s limits point.read.taken size statement number
    → ((n : ℕ) (record_ : Record) → statement ≡ instance n record_ → number ≡ 27)
    → (file : List ℕ) → IsFileOf known file → EndsReading s limits file point.read number (at_statement (suc point.read.count))

-- where the end of the file is refused the reading ends early: with that number, in no data section, or in a statement that begins with ENDSEC
abbrev pub EarlyEnds : Type 0
EarlyEnds = (s : Rules) (limits : Limits) (known : Known) (point : Point) (held : Held) (fault : Fault) (number : ℕ)
    → EndGives held (Err fault)
    → fault ≢ NoMemory → Logs s limits known held point → point.ended ≡ [] → point.seen ≡ None
    → EndsBehind known point held.buffer → (number ≡ 24) ⊎ ¬ IsInData point.read.given ⊎ OpensAs held.buffer opening.SectionEnd
    → (file : List ℕ) → IsFileOf known file → EndsReading s limits file point.read number (at_statement (suc point.read.count))

-- an instance ends only in a data section
abbrev pub InstanceIsInData : Type 0
InstanceIsInData = (s : Rules) (limits : Limits) (known : Known) (point : Point) (held : Held) (n : ℕ) (record_ : Record)
    → Logs s limits known held point
    → point.ended ≡ instance n record_ ∷ [] → IsInData point.read.given

-- where a step refused a byte, the reader stands in front of it
abbrev pub RefusedByteStands : Type 0
RefusedByteStands = (s : Rules) (limits : Limits) (known : Known) (point : Point) (held : Held) (piece : List ℕ) (fault : TokenFault)
    → IsRefused s limits known point piece (Token fault) held → IsOfByte fault → StandsAtByte limits point held piece
