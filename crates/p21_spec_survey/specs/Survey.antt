-- What a survey lists of a file, statement by statement, by some rules (this project's own numbers, on exchange structures of
-- ISO 10303-21).
--
-- A statement is taken, or it is refused. A record that is refused is left out, and its bytes are kept all the same, unless a signpost
-- stands in a string of it: they are a statement of the grammar. Of a statement that is none the bytes are passed over up to a landmark,
-- and nothing is said of them but the refusal: so no file has to begin with all the bytes for what is said of those that are kept. The
-- bytes are kept and passed over in turn, and each clause of `IsRead` is one statement more. What ends the reading is the last refusal,
-- and the bytes in front of its statement are those of which the list speaks.
use Rattle.std.specs.Prelude.{◌≡◌, ◌≢◌, ◌⊎◌, ◌<◌, ℕ, suc, List, [], ◌∷◌, ◌++◌, length, codes, Contains}
use Rattle.std.specs.List.{AllByRecursion as Each}
use Rattle.p21_spec_basics.specs.Limits.{Limits}
use Rattle.p21_spec_exchange.specs.DataSection.{Heading, named}
use Rattle.p21_spec_exchange.specs.Grammar.{InGrammar, IsFile}
use Rattle.p21_spec_exchange.specs.Header.{IsFileSchema}
use Rattle.p21_spec_exchange.specs.Laying.{Laid, Lexeme, tokens_in}
use Rattle.p21_spec_exchange.specs.OpenNesting.{IsNoSemicolon}
use Rattle.p21_spec_exchange.specs.Pending.{LaidUpTo, Tail, unfinished}
use Rattle.p21_spec_exchange.specs.Record.{Record}
use Rattle.p21_spec_exchange.specs.Separator.{IsSeparator, IsSeparatorText, Separator, separator_bytes}
use Rattle.p21_spec_exchange.specs.Statement.{Statement, data_start, header, instance, section, section_end, statement_tokens}
use Rattle.p21_spec_exchange.specs.Structure.{AreFirstStatements, Structure, statements}
use Rattle.p21_spec_laws.specs.CompleteFile.{Entry, written_in}
use Rattle.p21_spec_laws.specs.Taken.{instances_among, names_among, section_names_among}
use Rattle.p21_spec_laws.specs.Waiting.{Reference, references_in}
use Rattle.p21_spec_survey.specs.Landmark.{Landmark, Signpost, file_begin, file_end, landmark}
use Rattle.p21_spec_survey.specs.Resuming.{EndsInString, EndsInRemark, GoesBy, HasNoneInside}
use Rattle.p21_spec_survey.specs.Rules.{BreaksRule, HasMeaning, HasNoMeaning, HasSize, IsMeantBy, IsOfSchema, IsSchemaText, IsServedIn, IsUnservedIn, OffendsBy, Rules}
use Rattle.p21_spec_survey.specs.Whole.{BeginsNone, BeginsNoneWithin}
use Rattle.p21_spec_syntax.specs.FileWithin.{IsNoFile}

-- what a refusal names: a statement, counted from 1, with a stretch that is passed over as one; or an instance
pub data Subject : Type 0 where
  at_statement : ℕ → Subject
  in_instance : ℕ → Subject

-- a refusal that is listed: its number, what it names, and how many bytes of the file stand in front of its statement
pub record Listed : Type 0 where
  pub number : ℕ
  pub subject : Subject
  pub begins : ℕ

-- how far a file is read: its bytes, and those of them that are kept; how many statements, with those passed over; the statements of the
-- kept bytes, and those of them that are not refused; and what is listed
pub record Reading : Type 0 where
  pub bytes : List ℕ
  pub kept : List ℕ
  pub count : ℕ
  pub given : List Statement
  pub taken : List Statement
  pub listed : List Listed

abbrev pub nothing_read : Reading
nothing_read = record { bytes = []; kept = []; count = 0; given = []; taken = []; listed = [] }

-- ---- statements of the grammar

-- some file begins with these statements
abbrev pub BeginFile : List Statement → Type 0
BeginFile given = (structure : Structure) × (schema : List ℕ) × IsFile structure schema × AreFirstStatements given structure

-- the bytes are this statement, its `;` the last of them
pub record AreStatement (bytes : List ℕ) (statement : Statement) : Type 0 where
  pub laid : Laid bytes (statement_tokens statement)
  pub front : List ℕ
  pub ends : bytes ≡ front ++ codes ";"

-- behind the statements given an instance is refused with this number: its record means nothing and breaks the rule of the number, or
-- its name stands among them; by itself for its name alone
pub data IsRefusedInstance (rules : Rules) (given : List Statement) (n : ℕ) (record_ : Record) : ℕ → Type 0 where
  broken : (number : ℕ) → HasNoMeaning rules record_ → BreaksRule rules record_ number → IsRefusedInstance rules given n record_ number
  name_again : Contains (names_among given) n → IsRefusedInstance rules given n record_ 40

-- behind the statements given this is right with the next one, whatever its length: an instance means something among some others and has a
-- name of its own, a FILE_SCHEMA and a section with a name are of the schema, and this section too has a name of its own; by itself a
-- FILE_SCHEMA begins with a name, the schema is that of those before it, and a record means whatever it says
abbrev pub IsRight : Rules → List Statement → Statement → Type 0
IsRight rules given (instance n record_) = HasMeaning rules record_ × ¬ Contains (names_among given) n
IsRight rules given (header part) = (chars : List ℕ) → IsFileSchema part chars → IsSchemaText rules given chars
IsRight rules given (section (data_start heading)) = IsOfSchema rules given heading
    × ((name schema : List ℕ) → heading ≡ named name schema → ¬ Contains (section_names_among given) name)
IsRight rules given (section line) = Unit {0}

-- ---- statements that are passed over

-- the refusals of bytes, tokens and the grammar behind which a survey goes on
abbrev pub IsGoneOnBehind : ℕ → Type 0
IsGoneOnBehind number = (number < 12) ⊎ (number ≡ 20) ⊎ (number ≡ 21) ⊎ (number ≡ 26)

-- a data section is open behind the statements
pub record IsInData (given : List Statement) : Type 0 where
  pub before : List Statement
  pub heading : Heading
  pub instances : List Statement
  pub given_are : given ≡ before ++ section (data_start heading) ∷ instances
  pub no_end : ¬ Contains instances (section section_end)

-- separators and then `ENDSEC` stand first
abbrev pub BeginsWithEnd : List ℕ → Type 0
BeginsWithEnd bytes = (gap rest : List ℕ) × IsSeparatorText gap × (bytes ≡ gap ++ (codes "ENDSEC" ++ rest))

-- what is no whole token yet goes on over no `;`, a string or a remark apart
abbrev pub IsOpenTail : Tail → Type 0
IsOpenTail (unfinished bytes) = ((inside : List ℕ) × (bytes ≡ 39 ∷ inside)) ⊎ ¬ Contains bytes 59
IsOpenTail other = Unit {0}

-- the bytes of a statement that hasn't ended: whole tokens, of which none is `;`, and what is no whole token yet
pub record IsOpen (bytes : List ℕ) : Type 0 where
  pub lexemes : List Lexeme
  pub tail : Tail
  pub laid : LaidUpTo bytes lexemes tail
  pub not_ended : Each IsNoSemicolon (tokens_in lexemes)
  pub open_ : IsOpenTail tail

-- Why the next statement is passed over, with its number and what it names. `statement` are its bytes up to what is refused, and
-- `behind` those from there on
pub data IsPassedFor (rules : Rules) (limits : Limits) (read : Reading) (statement behind : List ℕ) : ℕ → Subject → Type 0 where
  -- no file begins with the kept bytes, its own, and what is refused: a byte, or a token with the byte behind it that tells its end, of a
  -- string the last one
  begins_none : (refused rest : List ℕ) (number : ℕ) → behind ≡ refused ++ rest → IsOpen statement
      → BeginsNone (read.kept ++ (statement ++ refused)) → IsGoneOnBehind number
      → IsPassedFor rules limits read statement behind number (at_statement (suc read.count))
  -- the file ends within it: with number 2 in a string, with 3 in a remark
  ends_within : (number : ℕ) → behind ≡ [] → IsNoFile (read.kept ++ statement) → IsGoneOnBehind number
      → (number ≡ 2 → EndsInString statement)
      → (number ≡ 3 → (inside : List ℕ) × EndsInRemark statement inside)
      → IsPassedFor rules limits read statement behind number (at_statement (suc read.count))
  -- it is an instance that is refused, with a signpost in a string of it
  wrong_record : (n : ℕ) (record_ : Record) (number : ℕ) → AreStatement statement (instance n record_)
      → BeginFile (read.given ++ instance n record_ ∷ [])
      → IsRefusedInstance rules read.given n record_ number → ¬ HasNoneInside statement behind
      → IsPassedFor rules limits read statement behind number (in_instance n)

-- the next statement is one of a data section and is to be passed over
pub record IsToBePassed (rules : Rules) (limits : Limits) (file : List ℕ) (read : Reading) (number : ℕ) (subject : Subject) : Type 0 where
  pub statement : List ℕ
  pub behind : List ℕ
  pub next_are : file ≡ read.bytes ++ (statement ++ behind)
  pub in_data : IsInData read.given
  pub no_end : ¬ BeginsWithEnd (statement ++ behind)
  pub why : IsPassedFor rules limits read statement behind number subject

-- it is passed over, and the reading goes by this signpost
pub record IsPassedOver (rules : Rules) (limits : Limits) (file : List ℕ) (read : Reading) (passed : List ℕ) (signpost : Signpost)
    (rest : List ℕ) (number : ℕ) (subject : Subject) : Type 0 where
  pub passes : IsToBePassed rules limits file read number subject
  pub goes_by : GoesBy read.bytes passes.statement passes.behind passed signpost rest

-- ---- a file, statement by statement

-- behind what is read and separators the next statement begins, so many bytes behind the beginning of the file
pub record BeginsAt (file : List ℕ) (read : Reading) (begins : ℕ) : Type 0 where
  pub gap : List ℕ
  pub rest : List ℕ
  pub file_is : file ≡ read.bytes ++ (gap ++ rest)
  pub separates : IsSeparatorText gap
  pub no_more : (separator : Separator) (more : List ℕ) → IsSeparator separator → rest ≡ separator_bytes separator ++ more → ⊥
  pub begins_is : begins ≡ length (read.bytes ++ gap)

-- with a refusal of the statement that begins there
abbrev pub with_refusal : Reading → ℕ → Subject → ℕ → List Listed
with_refusal read number subject begins = read.listed ++ record { number = number; subject = subject; begins = begins } ∷ []

-- the reading behind a statement that is taken
abbrev pub taking : Reading → List ℕ → Statement → Reading
taking read bytes statement = record {
  bytes = read.bytes ++ bytes;
  kept = read.kept ++ bytes;
  count = suc read.count;
  given = read.given ++ statement ∷ [];
  taken = read.taken ++ statement ∷ [];
  listed = read.listed;
}

-- behind an instance that is refused and left out
abbrev pub leaving_out : Reading → List ℕ → ℕ → Record → ℕ → ℕ → Reading
leaving_out read bytes n record_ number begins = record {
  bytes = read.bytes ++ bytes;
  kept = read.kept ++ bytes;
  count = suc read.count;
  given = read.given ++ instance n record_ ∷ [];
  taken = read.taken;
  listed = with_refusal read number (in_instance n) begins;
}

-- behind bytes that are passed over
abbrev pub passing_over : Reading → List ℕ → ℕ → Subject → ℕ → Reading
passing_over read bytes number subject begins = record {
  bytes = read.bytes ++ bytes;
  kept = read.kept;
  count = suc read.count;
  given = read.given;
  taken = read.taken;
  listed = with_refusal read number subject begins;
}

-- so far the file is read
pub data IsRead (rules : Rules) (limits : Limits) (file : List ℕ) : Reading → Type 0 where
  at_start : IsRead rules limits file nothing_read
  -- a statement is taken
  takes : (read : Reading) (bytes rest : List ℕ) (statement : Statement) → IsRead rules limits file read
      → file ≡ read.bytes ++ (bytes ++ rest) → AreStatement bytes statement → BeginFile (read.given ++ statement ∷ [])
      → IsRight rules read.given statement → IsRead rules limits file (taking read bytes statement)
  -- an instance is refused, and left out: no signpost stands in a string of it
  leaves_out : (read : Reading) (bytes rest : List ℕ) (n : ℕ) (record_ : Record) (number begins : ℕ) → IsRead rules limits file read
      → file ≡ read.bytes ++ (bytes ++ rest)
      → AreStatement bytes (instance n record_) → BeginFile (read.given ++ instance n record_ ∷ [])
      → IsRefusedInstance rules read.given n record_ number
      → HasNoneInside bytes rest → BeginsAt file read begins → IsRead rules limits file (leaving_out read bytes n record_ number begins)
  -- a statement is passed over up to a landmark
  passes_over : (read : Reading) (passed rest : List ℕ) (found : Landmark) (number : ℕ) (subject : Subject) (begins : ℕ)
      → IsRead rules limits file read
      → IsPassedOver rules limits file read passed (landmark found) rest number subject → BeginsAt file read begins
      → IsRead rules limits file (passing_over read passed number subject begins)

-- ---- how the list ends

-- how far the file is read: all of it; so many bytes, with the last refusal behind them; or as far as was asked for
pub data Extent : Type 0 where
  whole : Extent
  read_to : ℕ → Extent
  most : Extent

-- a file begins or ends
abbrev pub IsFileMark : Signpost → Type 0
IsFileMark (landmark found) = ⊥
IsFileMark file_begin = Unit {0}
IsFileMark file_end = Unit {0}

-- the reading can't go on behind the statement: where it would, a file begins or ends, or no signpost stands in all that is left
abbrev pub HasNoLandmark : List ℕ → List ℕ → List ℕ → Type 0
HasNoLandmark before statement behind =
    ((passed rest : List ℕ) (signpost : Signpost) → GoesBy before statement behind passed signpost rest → IsFileMark signpost)

-- Why nothing is read behind the next statement, with the number of its refusal and what it names. Of want of memory nothing is said here
pub data EndsReading (rules : Rules) (limits : Limits) (file : List ℕ) (read : Reading) : ℕ → Subject → Type 0 where
  -- it would be passed over, and no landmark comes
  no_landmark : (number : ℕ) (subject : Subject) (passes : IsToBePassed rules limits file read number subject)
      → HasNoLandmark read.bytes passes.statement passes.behind → EndsReading rules limits file read number subject
  -- no file begins with the kept bytes and these of it, and it stands in no data section, begins with ENDSEC, or is refused with
  -- another number
  no_file : (front behind : List ℕ) (number : ℕ) → file ≡ read.bytes ++ (front ++ behind)
      → BeginsNoneWithin limits.record_source (read.kept ++ front)
      → (IsGoneOnBehind number → IsInData read.given → BeginsWithEnd (front ++ behind))
      → EndsReading rules limits file read number (at_statement (suc read.count))
  -- the file has more bytes than one may have, those that are passed over among them
  too_long : (front behind : List ℕ) → file ≡ read.bytes ++ (front ++ behind) → limits.file_source < length (read.bytes ++ front)
      → EndsReading rules limits file read 23 (at_statement (suc read.count))
  -- the file ends within it, as early as nothing else says, or where it isn't passed over
  ends_early : (left : List ℕ) (number : ℕ) → file ≡ read.bytes ++ left → IsNoFile (read.kept ++ left) → (number ≡ 24)
      ⊎ ¬ IsInData read.given ⊎ BeginsWithEnd left → EndsReading rules limits file read number (at_statement (suc read.count))
  -- it is a statement that a session refuses, and no record but for its length
  offends : (bytes rest : List ℕ) (statement : Statement) (size number : ℕ) → file ≡ read.bytes ++ (bytes ++ rest)
      → AreStatement bytes statement → BeginFile (read.given ++ statement ∷ []) → HasSize rules read.taken size
      → OffendsBy rules limits read.taken size statement number
      → ((n : ℕ) (record_ : Record) → statement ≡ instance n record_ → number ≡ 27)
      → EndsReading rules limits file read number (at_statement (suc read.count))
  -- memory is wanting
  no_memory : (subject : Subject) → EndsReading rules limits file read 90 subject
  -- a read failed within it
  read_failed : EndsReading rules limits file read 91 (at_statement (suc read.count))

-- ---- references

-- one of the refusals names the instance
abbrev pub IsRefused : List Listed → ℕ → Type 0
IsRefused listed n = (refusal : Listed) × Contains listed refusal × (refusal.subject ≡ in_instance n)

-- a reference is refused with this number: its target was not refused itself, and none of this name is taken, or it doesn't serve; that
-- none is taken isn't told where bytes were passed over
pub record IsRefusedReference (rules : Rules) (read : Reading) (entries : List Entry) (reference : Reference) (number : ℕ) : Type 0 where
  pub among : Contains (references_in entries) reference
  pub judged : ¬ IsRefused read.listed reference.1.target
  pub unserved : IsUnservedIn rules entries reference number
  pub told : number ≡ 56 → read.kept ≡ read.bytes

-- each of these is a number, and the instance that has the reference
abbrev pub AreReferences : Rules → Reading → List Entry → List (ℕ × ℕ) → Type 0
AreReferences rules read entries told =
    Each (λ (r : ℕ × ℕ). (reference : Reference) × IsRefusedReference rules read entries reference r.0 × (r.1 ≡ reference.0)) told

-- a reference is served, or its target was refused itself, or it is among those refused; or none of its name stands there, where bytes were
-- passed over
abbrev pub IsAnswered : Rules → Reading → List Entry → List (ℕ × ℕ) → Reference → Type 0
IsAnswered rules read entries told reference = IsServedIn rules entries reference.1 ⊎ IsRefused read.listed reference.1.target
    ⊎ ((number : ℕ) × IsRefusedReference rules read entries reference number × Contains told (number, reference.0))
    ⊎ ((read.kept ≢ read.bytes) × IsUnservedIn rules entries reference 56)

-- ---- all of it

-- how a list ends
pub data EndsList (rules : Rules) (limits : Limits) (file : List ℕ) (read : Reading) (entries : List Entry) : List Listed → List (ℕ × ℕ)
    → Extent → Type 0 where
  -- the kept bytes are a file, with what stands behind its last statement
  at_end : (rest : List ℕ) (structure : Structure) (schema : List ℕ) (references : List (ℕ × ℕ)) → file ≡ read.bytes ++ rest
      → InGrammar (read.kept ++ rest) structure schema → statements structure ≡ read.given
      → AreReferences rules read entries references → Each (IsAnswered rules read entries references) (references_in entries)
      → EndsList rules limits file read entries read.listed references whole
  -- a refusal ends the reading
  by_refusal : (number : ℕ) (subject : Subject) (begins : ℕ) → EndsReading rules limits file read number subject
      → BeginsAt file read begins → EndsList rules limits file read entries (with_refusal read number subject begins) [] (read_to begins)
  -- a read failed while a stretch was passed over
  interrupted : (number : ℕ) (subject : Subject) (begins : ℕ) → IsToBePassed rules limits file read number subject
      → BeginsAt file read begins → EndsList rules limits file read entries
      (with_refusal (passing_over read [] number subject begins) 91 (at_statement (suc (suc read.count))) begins) [] (read_to begins)
  -- no more were asked for, the last of them that of a stretch
  at_stretch : (number : ℕ) (subject : Subject) (begins : ℕ) → IsToBePassed rules limits file read number subject
      → BeginsAt file read begins → EndsList rules limits file read entries (with_refusal read number subject begins) [] most
  -- or that of an instance or a reference
  at_most : (references : List (ℕ × ℕ)) → AreReferences rules read entries references
      → EndsList rules limits file read entries read.listed references most

-- what a survey says of a file: the refusals of statements in their order, and those of references behind them
pub record IsSurvey (rules : Rules) (limits : Limits) (file : List ℕ) (listed : List Listed)
    (references : List (ℕ × ℕ)) (extent : Extent) : Type 0 where
  pub reading : Reading
  pub is_read : IsRead rules limits file reading
  pub entries : List Entry
  pub entries_are : instances_among reading.taken ≡ written_in entries
  pub meant : Each (IsMeantBy rules) entries
  pub ends : EndsList rules limits file reading entries listed references extent
