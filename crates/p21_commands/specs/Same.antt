-- What `p21 same` writes.
use Rattle.std.specs.Prelude.{Option, ◌≡◌, ◌≢◌, ◌⊎◌, ℕ, Bool, true, false, List, [], ◌∷◌, codes}
use Rattle.std.specs.Io.KnownBytes.{Keeps}
use Rattle.p21_spec_basics.specs.Limits.{usual}
use Rattle.p21_commands.specs.Command.{Fails}
use Rattle.p21_commands.specs.Failures.{NoneFailed}
use Rattle.p21_commands.specs.Files.{IsFileRefused}
use Rattle.p21_commands.specs.Load.{DeclaresRead, IsSchemaRefused}
use Rattle.p21_commands.specs.Status as statuses
use Rattle.p21_commands.specs.Streams.{PairStreams}
use Rattle.p21_commands.specs.Transfer.{Writes}
use Rattle.p21_spec_schema.specs.Schema.{Schema}
use Rattle.p21_stream.specs.Answers.{Compares, IsCanonicalOfRead}
use Rattle.p21_stream.specs.declared.comparing.Which.{Which}
use Rattle.p21_stream.specs.declared.comparing.Which.TheVariants.{First, Second}

-- what the readers of a schema and of two files had, and what those of the files have left
pub record Read : Type 0 where
  pub schema : Option (List ℕ)
  pub first_old : Option (List ℕ)
  pub first_new : Option (List ℕ)
  pub second_old : Option (List ℕ)
  pub second_new : Option (List ℕ)

abbrev pub read_of : Option (List ℕ) → Option (List ℕ) → Option (List ℕ) → Option (List ℕ) → Option (List ℕ) → Read
read_of schema first_old first_new second_old second_new =
    record { schema = schema; first_old = first_old; first_new = first_new; second_old = second_old; second_new = second_new }

abbrev pub read_in : PairStreams → Read
read_in streams = read_of streams.schema.before streams.first.before streams.first.behind streams.second.before streams.second.behind

-- a word and a line feed
abbrev pub same_answer_line : Bool → List ℕ
same_answer_line true = codes "same\n"
same_answer_line false = codes "different\n"

-- a word for each file, in front of the line of its refusal
abbrev pub word_of : Which → List ℕ
word_of First = codes "first: "
word_of Second = codes "second: "

-- the line says whether both files, which are accepted under the schema that its reader declares, mean the same
pub record IsCompared (read : Read) (same : Bool) (line : List ℕ) : Type 0 where
  pub declared : Schema
  pub declares : DeclaresRead read.schema declared
  pub compares : Compares declared usual read.first_old read.first_new read.second_old read.second_new same
  pub line_is : line ≡ same_answer_line same

-- the first file is accepted under the schema that its reader declares
pub record IsFirstAccepted (read : Read) : Type 0 where
  pub declared : Schema
  pub declares : DeclaresRead read.schema declared
  pub text : List ℕ
  pub canonical : IsCanonicalOfRead declared usual read.first_old read.first_new text

-- the second file is refused, and the first one accepted under the same schema
pub record IsSecondRefused (read : Read) (line : List ℕ) : Type 0 where
  pub second : IsFileRefused (word_of Second) read.schema read.second_old read.second_new line
  pub first_text : List ℕ
  pub first : IsCanonicalOfRead second.declared usual read.first_old read.first_new first_text

-- the line is of the schema, and no file is read; or of the first file, and the second isn't read; or of the second
abbrev pub IsRefused : Read → List ℕ → Type 0
IsRefused read line =
    (IsSchemaRefused read.schema line × Keeps read.first_old read.first_new × Keeps read.second_old read.second_new)
    ⊎ ((IsFileRefused (word_of First) read.schema read.first_old read.first_new line × Keeps read.second_old read.second_new)
    ⊎ IsSecondRefused read line)

-- one of the answers, by whether the files mean the same
abbrev pub IsEither : (Bool → List ℕ → Type 0) → List ℕ → Type 0
IsEither IsAnswer line = (same : Bool) × IsAnswer same line

-- the line answers that the files mean the same, or that they do not
abbrev pub IsAnswered : Read → List ℕ → Type 0
IsAnswered read line = IsEither (IsCompared read) line

-- the output has the answer that the files differ and the fault output is as it was; or the fault output has the line of a refusal and
-- the output is as it was
abbrev pub IsDifferentOrRefused : (Bool → List ℕ → Type 0) → (List ℕ → Type 0) → PairStreams → Type 0
IsDifferentOrRefused IsAnswer IsRefusal streams =
    (Writes (IsAnswer false) streams.output.before streams.output.behind × Keeps streams.faults.before streams.faults.behind)
    ⊎ (Writes IsRefusal streams.faults.before streams.faults.behind × Keeps streams.output.before streams.output.behind)

-- how a command ends that compares two files, by its status, as `Ends` says of others; but files that differ have the status of a refusal
pub record EndsBy (IsAnswer : Bool → List ℕ → Type 0) (IsRefusal : List ℕ → Type 0) (streams : PairStreams) (answer : ℕ) : Type 0 where
  pub status : (answer ≡ statuses.done) ⊎ (answer ≡ statuses.refused) ⊎ (answer ≡ statuses.failed)
  pub answered : answer ≡ statuses.done → Writes (IsAnswer true) streams.output.before streams.output.behind
  pub silent : answer ≡ statuses.done → Keeps streams.faults.before streams.faults.behind
  pub refused : answer ≡ statuses.refused → IsDifferentOrRefused IsAnswer IsRefusal streams
  pub failed : answer ≡ statuses.failed → Fails (IsEither IsAnswer) IsRefusal
      (streams.schema.failures ∷ streams.first.failures ∷ streams.second.failures ∷ []) streams.output streams.faults
  pub unfailed : answer ≢ statuses.failed → NoneFailed
      (streams.schema.failures ∷ streams.first.failures ∷ streams.second.failures ∷ streams.output.failures ∷ streams.faults.failures ∷ [])

abbrev pub EndsComparing : PairStreams → ℕ → Type 0
EndsComparing streams answer = EndsBy (IsCompared (read_in streams)) (IsRefused (read_in streams)) streams answer
