-- The end of a file (this project's own).
use Rattle.std.specs.Prelude.{◌≡◌, ◌⊎◌, ◌≤◌, ◌<◌, ◌+◌, ℕ, Bool, true, false, suc, List, [], ◌++◌, length, take, drop, None}
use Rattle.p21_grammar.specs.declared.fault.GrammarFault.TheVariants.{EndsEarly}
use Rattle.p21_spec_basics.specs.Limits.{Limits}
use Rattle.p21_spec_survey.specs.Rules.{Rules}
use Rattle.p21_spec_survey.specs.Survey.{BeginsWithEnd, EndsReading, IsGoneOnBehind, IsInData, IsRead, Reading, at_statement}
use Rattle.p21_stream_log.specs.Ending.{AreFileOf, EndsBehind, EndsWithin}
use Rattle.p21_stream_log.specs.Going.{StoodFor, behind_stretch}
use Rattle.p21_stream_log.specs.Laws.{BeginsInEach}
use Rattle.p21_stream_log.specs.Log.{Held, IsFileOf, Known, Logs, Point}
use Rattle.p21_stream_log.specs.Opening.{OpensAs}
use Rattle.p21_stream_log.specs.Passage.{PassageFor}
use Rattle.p21_stream_log.specs.declared.opening.Opening.TheVariants.{SectionEnd}
use Rattle.p21_stream_log.specs.declared.passage.Passage.{Passage}
use Rattle.p21_stream_log.specs.declared.passage.Passage.TheVariants.{GoesOn}
use Rattle.p21_stream_resume.specs.Seeking as seeking
use Rattle.p21_stream_survey.specs.Sifted.{Sifted, names_left}
use Rattle.p21_stream_statements.specs.Fault.{fault_number}
use Rattle.p21_stream_statements.specs.declared.fault.Fault.{Fault}
use Rattle.p21_stream_statements.specs.declared.fault.Fault.TheVariants.{Grammar}
use Rattle.p21_stream_statements.specs.declared.refusal.At.TheVariants.{Statement}
use Rattle.p21_stream_survey.specs.Ending.{EndsBy, IsReadSo, IsSurveyed}
use Rattle.p21_stream_survey.specs.Following.{Stands}
use Rattle.p21_stream_survey.specs.Found.{IsFound}
use Rattle.p21_stream_survey.specs.Reading.{HasRead}
use Rattle.p21_stream_survey.specs.Seeking.{IsSought}
use Rattle.p21_stream_survey.specs.Telling as telling
use Rattle.p21_stream_survey.specs.declared.finishing.Ended.{Ended}
use Rattle.p21_stream_survey.specs.declared.finishing.Ended.TheVariants.{AtFileEnd, Listed, PassedOver}
use Rattle.p21_stream_survey.specs.declared.listed.Extent.{Extent}
use Rattle.p21_stream_survey.specs.declared.listed.Extent.TheVariants as extents
use Rattle.p21_stream_survey.specs.declared.listed.Found.{Found}
use Rattle.p21_stream_survey.specs.declared.listing.Listing.{Listing}

-- At a point all of the files is read: no statement has ended that isn't judged, no byte was looked at, and each of the files ends behind
-- the buffer
pub record IsAtEnd (s : Rules) (limits : Limits) (known : Known) (held : Held) (sieve : Sifted) (listing : Listing) (point : Point) : Type
    0 where
  pub stands : Stands s limits known held sieve listing point
  pub between : point.ended ≡ []
  pub unseen : point.seen ≡ None
  pub to_end : EndsBehind known point held.buffer

-- what is held stands for some such point
pub record StandsAtEnd (s : Rules) (held : Held) (sieve : Sifted) (listing : Listing) : Type 0 where
  pub limits : Limits
  pub known : Known
  pub point : Point
  pub at_end : IsAtEnd s limits known held sieve listing point

-- ---- a statement in which the file ends

-- at a point of a data section the file ends inside a statement that begins behind so many bytes and is to be passed over
pub record IsEndedAt (s : Rules) (limits : Limits) (known : Known) (point : Point) (held : Held) (fault : Fault) (begins : ℕ) : Type
    0 where
  pub logs : Logs s limits known held point
  pub between : point.ended ≡ []
  pub to_end : EndsBehind known point held.buffer
  pub within : EndsWithin held.buffer (fault_number fault)
  pub gone_on : IsGoneOnBehind (fault_number fault)
  pub in_data : IsInData point.read.given
  pub no_end : ¬ BeginsWithEnd held.buffer
  pub begins_in : BeginsInEach known point begins

-- Of each such point: where the reading goes on the statement is passed over and listed; else nothing is listed, and it is known of it what
-- the log says
abbrev pub PassesEnded : Held → Listing → Fault → ℕ → List ℕ → Passage → Held → Listing → Type 0
PassesEnded old before fault begins bytes (GoesOn count) new behind =
    (s : Rules) (limits : Limits) (known : Known) (point : Point) (sieve : Sifted) → bytes ≡ old.buffer
    → IsEndedAt s limits known point old fault begins → HasRead s limits point.read sieve before
    → Stands s limits known new sieve behind (behind_stretch point (take count bytes) (fault_number fault)
    (at_statement (suc point.read.count)) begins (drop count bytes))
PassesEnded old before fault begins bytes passage new behind =
    (new ≡ old) × (behind ≡ before)
    × ((s : Rules) (limits : Limits) (known : Known) (point : Point) → bytes ≡ old.buffer → IsEndedAt s limits known point old fault begins
    → PassageFor s limits known point bytes [] [] (fault_number fault) (at_statement (suc point.read.count)) begins passage new)

-- in each of the files the list has ended
abbrev pub IsSurveyedIn : Rules → Limits → Known → Listing → Extent → Type 0
IsSurveyedIn s limits known listing extent = (file : List ℕ) → IsFileOf known file → IsSurveyed s limits file listing extent

-- the statement, which began behind so many bytes, is passed over by so many of these, and the others are ahead
pub record IsPassedBehind (s : Rules) (limits : Limits) (known : Known) (start : ℕ) (held : Held) (sieve : Sifted) (listing : Listing)
    (count : ℕ) (bytes : List ℕ) : Type 0 where
  pub point : Point
  pub stands : Stands s limits known held sieve listing point
  pub between : point.ended ≡ []
  pub unseen : point.seen ≡ None
  pub ahead : point.ahead ≡ drop count bytes
  pub none_open : held.buffer ≡ []
  pub counted : held.start + length (drop count bytes) ≡ start + length bytes

-- the list ends with a refusal of the next statement
abbrev pub EndsWithRefusal : Listing → Fault → ℕ → Ended → Listing → Type 0
EndsWithRefusal before fault begins (Listed extent) behind = EndsBy before fault (Statement before.statement) begins extent behind
EndsWithRefusal before fault begins other behind = ⊥

-- how many are listed by then, where so many were: so many are asked for, and were more
abbrev pub CountsEnd : ℕ → ℕ → Ended → ℕ → Type 0
CountsEnd most before (Listed extent) behind = (0 < behind) × (behind ≤ most) × (extent ≡ extents.Most → behind ≡ most)
CountsEnd most before (PassedOver count) behind = (before < behind) × (behind < most)
CountsEnd most before AtFileEnd behind = behind ≡ before

-- one more is listed where the statement is passed over
abbrev pub CountsPassed : ℕ → Passage → ℕ → Type 0
CountsPassed before (GoesOn count) behind = behind ≡ suc before
CountsPassed before other behind = behind ≡ before

-- Of each point at the end of the files: the list has ended; or the statement in which they end is passed over; or nothing has changed
abbrev pub EndsStatement : Limits → Held → Listing → List ℕ → Ended → Held → Listing → Type 0
EndsStatement limits old before bytes (Listed extent) new behind =
    (s : Rules) (known : Known) (point : Point) (sieve : Sifted) → bytes ≡ old.buffer → IsAtEnd s limits known old sieve before point
    → IsSurveyedIn s limits known behind extent
EndsStatement limits old before bytes (PassedOver count) new behind =
    (s : Rules) (known : Known) (point : Point) (sieve : Sifted) → bytes ≡ old.buffer → IsAtEnd s limits known old sieve before point
    → IsPassedBehind s limits known old.start new sieve behind count bytes
EndsStatement limits old before bytes AtFileEnd new behind = (new ≡ old) × (behind ≡ before)

-- ---- a stretch that is open at the end

-- of each point behind which a statement is sought up to the end of the files: the list ends with it
abbrev pub EndsSought : Listing → Fault → ℕ → Extent → Listing → Type 0
EndsSought before fault begins extent behind =
    (s : Rules) (limits : Limits) (known : Known) (point : Point) (held : Held) (statement front : List ℕ) (taken : ℕ)
    (seeker : seeking.Held) (sieve : Sifted)
    → IsSought s limits known point held statement front [] fault begins taken seeker → EndsBehind known point (statement ++ front)
    → HasRead s limits point.read sieve before → IsSurveyedIn s limits known behind extent

-- ---- a read that failed

-- of each point in front of which the files end: the list ends with the statement in which the read failed
abbrev pub EndsUnread : Limits → Held → Listing → List ℕ → Extent → Listing → Type 0
EndsUnread limits held before bytes extent behind =
    (s : Rules) (known : Known) (point : Point) (sieve : Sifted) → bytes ≡ held.buffer → Stands s limits known held sieve before point
    → EndsBehind known point held.buffer → IsSurveyedIn s limits known behind extent

-- of each point behind which a statement is sought: the list ends with it, and behind it stands that the read failed
abbrev pub InterruptsSought : Listing → Fault → ℕ → Extent → Listing → Type 0
InterruptsSought before fault begins extent behind =
    (s : Rules) (limits : Limits) (known : Known) (point : Point) (held : Held) (statement front more : List ℕ) (taken : ℕ)
    (seeker : seeking.Held) (sieve : Sifted)
    → IsSought s limits known point held statement front more fault begins taken seeker → HasRead s limits point.read sieve before
    → IsSurveyedIn s limits known behind extent

-- ---- the end of a file

-- what is found where the list has ended so
pub record IsEnded (listing : Listing) (extent : Extent) (found : Found) : Type 0 where
  pub list : found.list.items ≡ listing.list.items
  pub references : found.references.items ≡ []
  pub extent_is : found.extent ≡ extent
  pub accepted : found.accepted ≡ None
  pub well_formed : found.well_formed ≡ None

-- The kept bytes, with what stands behind the last statement, are a file
pub record IsReadWhole (s : Rules) (limits : Limits) (file : List ℕ) (read : Reading) (sieve : Sifted) (listing : Listing) : Type 0 where
  pub is_read : IsRead s limits file read
  pub has : HasRead s limits read sieve listing
  pub rest : List ℕ
  pub file_is : file ≡ read.bytes ++ rest
  pub are_file : AreFileOf limits.record_source (read.kept ++ rest) read.given
  pub within : length file ≤ limits.file_source

-- what is kept and listed is that of a reading, and the statements given are those of some file
pub record IsKeptWhole (s : Rules) (sieve : Sifted) (listing : Listing) : Type 0 where
  pub limits : Limits
  pub read : Reading
  pub has : HasRead s limits read sieve listing
  pub most : ℕ
  pub bytes : List ℕ
  pub are_file : AreFileOf most bytes read.given

-- what isn't told of references at the end of a file
abbrev pub silence_at_end : Sifted → Listing → telling.Silence
silence_at_end sieve listing = record { names = names_left sieve; passed = listing.passed; is_broken = listing.is_broken }

-- all references are told, or as many as were left
abbrev pub TellsAll : ℕ → ℕ → Extent → Type 0
TellsAll told left extents.Whole = told < left
TellsAll told left extents.Most = left ≤ told
TellsAll told left (extents.ReadTo bytes) = ⊥

-- of each file that is read whole
abbrev pub FindsReferences : Rules → Sifted → Listing → Found → Type 0
FindsReferences s sieve listing found = (limits : Limits) (file : List ℕ) (read : Reading) → IsReadWhole s limits file read sieve listing
    → IsFound s limits file found

-- where the reading ends with a refusal of the next statement
abbrev pub FindsRefusal : Listing → Fault → ℕ → Found → Type 0
FindsRefusal listing fault begins found =
    (s : Rules) (limits : Limits) (file : List ℕ) (read : Reading) (sieve : Sifted) → IsReadSo s limits file read sieve listing begins
    → EndsReading s limits file read (fault_number fault) (at_statement listing.statement) → IsFound s limits file found

-- the file ends within a statement that isn't passed over: in no data section, or it begins with ENDSEC
abbrev pub TellsEnd : Held → List ℕ → Type 0
TellsEnd held bytes = (s : Rules) (limits : Limits) (known : Known) (point : Point) → StoodFor s limits known point held
    → ¬ IsInData point.read.given ⊎ OpensAs bytes SectionEnd

-- the refusal of the end of a file, within a statement that isn't passed over, and within another one
abbrev pub end_fault : Fault → Bool → Fault
end_fault fault true = fault
end_fault fault false = Grammar EndsEarly

-- in each of the files
abbrev pub IsFoundIn : Rules → Limits → Known → Found → Type 0
IsFoundIn s limits known found = (file : List ℕ) → IsFileOf known file → IsFound s limits file found

-- of each point at the end of the files
abbrev pub FindsAtEnd : Rules → Limits → Held → Sifted → Listing → Found → Type 0
FindsAtEnd s limits held sieve listing found = (known : Known) (point : Point) → IsAtEnd s limits known held sieve listing point
    → IsFoundIn s limits known found
