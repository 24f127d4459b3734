-- The laws of signposts and of what is read of a file: the first signpost stands at one place; what is read stands in front, and what is
-- kept of it are whole statements, with which each file begins that begins so; a file of which something is listed isn't accepted.
use Rattle.std.specs.Prelude.{◌≡◌, ◌≢◌, ◌⊎◌, ◌+◌, ℕ, List, [], ◌∷◌, ◌++◌, Contains, length, nat_eq}
use Rattle.std.specs.List.{IsDistinct, flat_map, AllByRecursion as Each}
use Rattle.p21_spec_basics.specs.Digits.{IsByte}
use Rattle.p21_spec_basics.specs.Limits.{Limits}
use Rattle.p21_spec_exchange.specs.Laying.{Lexeme, tokens_in}
use Rattle.p21_spec_exchange.specs.Record.{Record}
use Rattle.p21_spec_exchange.specs.Separator.{IsSeparatorText}
use Rattle.p21_spec_exchange.specs.Statement.{Statement, instance, statement_tokens}
use Rattle.p21_spec_laws.specs.Taken.{AreStatementsTaken, names_among}
use Rattle.p21_spec_survey.specs.Landmark.{IsFirstSignpost, Signpost}
use Rattle.p21_spec_survey.specs.Resuming.{GoesBy}
use Rattle.p21_spec_survey.specs.Rules.{AreWellFormed, HasMeaning, IsRightFile, Rules}
use Rattle.p21_spec_survey.specs.Survey.{AreStatement, BeginFile, EndsReading, IsRead, IsRefused, IsRight, Reading, Subject}
use Rattle.p21_spec_survey.specs.Whole.{AreWhole}

-- the first signpost stands at one place
abbrev pub FirstSignpostAtOnePlace : Type 0
FirstSignpostAtOnePlace = (before bytes passed other_passed rest other_rest : List ℕ) (signpost other : Signpost)
    → IsFirstSignpost before bytes passed signpost rest → IsFirstSignpost before bytes other_passed other other_rest → passed ≡ other_passed

-- so does the signpost by which the reading goes on
abbrev pub GoesByOnePlace : Type 0
GoesByOnePlace = (before statement behind passed other_passed rest other_rest : List ℕ) (signpost other : Signpost)
    → GoesBy before statement behind passed signpost rest → GoesBy before statement behind other_passed other other_rest
    → passed ≡ other_passed

-- what is read stands at the front of the file
abbrev pub ReadIsInFront : Type 0
ReadIsInFront = (rules : Rules) (limits : Limits) (file : List ℕ) (read : Reading) → IsRead rules limits file read
    → (rest : List ℕ) × (file ≡ read.bytes ++ rest)

-- where nothing is listed no byte is passed over, and no statement is left out
abbrev pub UnlistedIsTaken : Type 0
UnlistedIsTaken = (rules : Rules) (limits : Limits) (file : List ℕ) (read : Reading) → IsRead rules limits file read → read.listed ≡ []
    → (read.kept ≡ read.bytes) × (read.taken ≡ read.given)

-- ---- what the kept bytes have by themselves

-- the kept bytes are the statements given, each with its `;`
abbrev pub KeptAreWhole : Type 0
KeptAreWhole = (rules : Rules) (limits : Limits) (file : List ℕ) (read : Reading) → IsRead rules limits file read
    → (lexemes : List Lexeme) × AreWhole read.kept lexemes × (tokens_in lexemes ≡ flat_map statement_tokens read.given)

-- some file begins with these
abbrev pub GivenBeginFile : Type 0
GivenBeginFile = (rules : Rules) (limits : Limits) (file : List ℕ) (read : Reading) → IsRead rules limits file read
    → (read.given ≡ []) ⊎ BeginFile read.given

-- each file that begins with the kept bytes begins with these statements
abbrev pub GivenAreTaken : Type 0
GivenAreTaken = (rules : Rules) (limits : Limits) (file : List ℕ) (read : Reading) → IsRead rules limits file read
    → AreStatementsTaken read.kept read.given

-- each instance among them means something, or it is listed
abbrev pub EachIsJudged : Type 0
EachIsJudged = (rules : Rules) (limits : Limits) (file : List ℕ) (read : Reading) → IsRead rules limits file read
    → (n : ℕ) (record_ : Record) → Contains read.given (instance n record_) → HasMeaning rules record_ ⊎ IsRefused read.listed n

-- those that are not listed have different names
abbrev pub NamesDiffer : Type 0
NamesDiffer = (rules : Rules) (limits : Limits) (file : List ℕ) (read : Reading) → IsRead rules limits file read
    → IsDistinct nat_eq (names_among read.taken)

-- ---- what a list says of the whole file

-- a file of which something is listed isn't accepted, nor, by itself, well formed
abbrev pub ListedIsNotAccepted : Type 0
ListedIsNotAccepted = (rules : Rules) (limits : Limits) (file : List ℕ) (read : Reading) → Each IsByte file
    → IsRead rules limits file read → read.listed ≢ [] → ¬ IsRightFile rules limits file

-- nor is one whose reading is ended, memory and the reader apart
abbrev pub EndedIsNotAccepted : Type 0
EndedIsNotAccepted = (rules : Rules) → AreWellFormed rules → (limits : Limits) (file : List ℕ) (read : Reading) (number : ℕ)
    (subject : Subject) → Each IsByte file → IsRead rules limits file read
    → EndsReading rules limits file read number subject → number ≢ 90 → number ≢ 91 → ¬ IsRightFile rules limits file

-- ---- statements one behind the other

-- the bytes of the first statement of some, and those of the others
pub record IsApart (bytes : List ℕ) (statement : Statement) (others : List Statement) : Type 0 where
  pub front : List ℕ
  pub rest : List ℕ
  pub bytes_are : bytes ≡ front ++ rest
  pub statement_is : AreStatement front statement
  pub more : List Lexeme
  pub whole : AreWhole rest more
  pub more_are : tokens_in more ≡ flat_map statement_tokens others

-- whole statements have them
abbrev pub FirstStatementIsApart : Type 0
FirstStatementIsApart = (bytes : List ℕ) (lexemes : List Lexeme) (statement : Statement) (others : List Statement) → AreWhole bytes lexemes
    → tokens_in lexemes ≡ flat_map statement_tokens (statement ∷ others) → IsApart bytes statement others

-- behind the statements given each of these is right
abbrev pub AreRight : Rules → List Statement → List Statement → Type 0
AreRight rules given [] = Unit {0}
AreRight rules given (statement ∷ others) = IsRight rules given statement × AreRight rules (given ++ statement ∷ []) others

-- a reading goes on by these bytes, separators behind the last `;` apart, and takes these statements
pub record TakesRight (rules : Rules) (limits : Limits) (file : List ℕ) (read : Reading) (bytes : List ℕ)
    (statements : List Statement) : Type 0 where
  pub next : Reading
  pub is_read : IsRead rules limits file next
  pub used : List ℕ
  pub behind : List ℕ
  pub bytes_are : bytes ≡ used ++ behind
  pub separates : IsSeparatorText behind
  pub bytes_read : next.bytes ≡ read.bytes ++ used
  pub kept_are : next.kept ≡ read.kept ++ used
  pub count_is : next.count ≡ read.count + length statements
  pub given_are : next.given ≡ read.given ++ statements
  pub taken_are : next.taken ≡ read.taken ++ statements
  pub listed_are : next.listed ≡ read.listed

-- so it does where whole statements follow, and each is right
abbrev pub RightStatementsAreTaken : Type 0
RightStatementsAreTaken = (rules : Rules) (limits : Limits) (file : List ℕ) (read : Reading) (bytes rest : List ℕ)
    (lexemes : List Lexeme) (statements : List Statement)
    → IsRead rules limits file read → file ≡ read.bytes ++ (bytes ++ rest) → AreWhole bytes lexemes
    → tokens_in lexemes ≡ flat_map statement_tokens statements → BeginFile (read.given ++ statements) → AreRight rules read.given statements
    → TakesRight rules limits file read bytes statements
