-- Which calls failed where a file is refused, by what a command answers to the refusal.
use Rattle.std.proofs.Common.{◌≡◌, ◌≢◌, ◌∙◌, ℕ, List, [], ◌∷◌, Option, inl, ap, refl}
use Rattle.p21_spec_basics.specs.Limits.{Limits}
use Rattle.p21_commands.specs.Failures.{Failures, FailedBy}
use Rattle.p21_commands.specs.declared.fault.CommandFault.{CommandFault}
use Rattle.p21_commands.specs.declared.fault.CommandFault.TheVariants.{Refused, NoMemory, Read, Write}
use Rattle.p21_commands.proofs.Failing.{after_reading, before_reading}
use Rattle.p21_commands.specs.Refusals.{IsFaultOf, IsNoDevice}
use Rattle.p21_commands.proofs.FileFailing.{not-written, of-no_device}
use Rattle.p21_spec_schema.specs.Schema.{Schema}
use Rattle.p21_stream.specs.Answers.{FailsToCompare, first_failures, second_failures}
use Rattle.p21_stream.specs.ReaderInput.{RefusesRead, read_failures, write_failures}
use Rattle.p21_stream.specs.declared.comparing.Which.{Which}
use Rattle.p21_stream.specs.declared.comparing.Which.TheVariants.{First, Second}
use Rattle.p21_stream_statements.specs.declared.fault.Fault.{Fault}
use Rattle.p21_stream_statements.specs.declared.fault.Fault.TheVariants as file
use Rattle.p21_stream_statements.specs.declared.refusal.Refusal.{Refusal}

no-read : (count : ℕ) (fault : Fault) → IsNoDevice fault → read_failures count fault ≡ count
no-read count file.Read none = absurd none
no-read count fault none = refl

no-write : (count : ℕ) (fault : Fault) → IsNoDevice fault → write_failures count fault ≡ count
no-write count file.Write none = absurd none
no-write count fault none = refl

-- a file is read and written
pub rewriting-failed : (word : List ℕ) (reader writer : Failures) (refusal : Refusal) (fault : CommandFault) → IsFaultOf word refusal fault
    → reader.after ≡ read_failures reader.before refusal.fault → writer.after ≡ write_failures writer.before refusal.fault
    → FailedBy (reader ∷ []) (writer ∷ []) fault
rewriting-failed word reader writer refusal (Refused line) is r w =
    let of = of-no_device refusal.fault is.0 in
    ((r ∙ no-read reader.before refusal.fault of, tt), (w ∙ no-write writer.before refusal.fault of, tt))
rewriting-failed word reader writer refusal NoMemory is r w =
    ((r ∙ no-read reader.before refusal.fault is, tt), (w ∙ no-write writer.before refusal.fault is, tt))
rewriting-failed word reader writer refusal Read is r w =
    (inl (r ∙ ap (read_failures reader.before) is, tt), (w ∙ ap (write_failures writer.before) is, tt))
rewriting-failed word reader writer refusal Write is r w =
    ((r ∙ ap (read_failures reader.before) is, tt), inl (w ∙ ap (write_failures writer.before) is, tt))

-- a file is read, and no writer fails
pub reader-failed : (word : List ℕ) (reader : Failures) (refusal : Refusal) (fault : CommandFault) → IsFaultOf word refusal fault
    → refusal.fault ≢ file.Write
    → reader.after ≡ read_failures reader.before refusal.fault → FailedBy (reader ∷ []) [] fault
reader-failed word reader refusal (Refused line) is unwritten r =
    ((r ∙ no-read reader.before refusal.fault (of-no_device refusal.fault is.0), tt), tt)
reader-failed word reader refusal NoMemory is unwritten r = ((r ∙ no-read reader.before refusal.fault is, tt), tt)
reader-failed word reader refusal Read is unwritten r = (inl (r ∙ ap (read_failures reader.before) is, tt), tt)
reader-failed word reader refusal Write is unwritten r = absurd (unwritten is)

pub reading-failed : (s : Schema) (limits : Limits) (old new : Option (List ℕ)) (word : List ℕ) (reader : Failures) (refusal : Refusal)
    (fault : CommandFault) → IsFaultOf word refusal fault → RefusesRead s limits old new refusal.fault
    → reader.after ≡ read_failures reader.before refusal.fault → FailedBy (reader ∷ []) [] fault
reading-failed s limits old new word reader refusal fault is refuses r =
    reader-failed word reader refusal fault is (λ written. not-written s limits old new refusal.fault written refuses) r

-- two files are compared
pub comparing-failed : (s : Schema) (limits : Limits) (first_old first_new second_old second_new : Option (List ℕ)) (word : List ℕ)
    (first second : Failures) (which : Which) (refusal : Refusal) (fault : CommandFault)
    → IsFaultOf word refusal fault → FailsToCompare s limits first_old first_new second_old second_new which refusal.fault
    → first.after ≡ first_failures first.before which refusal.fault → second.after ≡ second_failures second.before which refusal.fault
    → FailedBy (first ∷ second ∷ []) [] fault
comparing-failed s limits first_old first_new second_old second_new word first second First refusal fault is fails a b =
    before_reading first (second ∷ []) [] fault (reading-failed s limits first_old first_new word first refusal fault is fails.0 a) (b, tt)
comparing-failed s limits first_old first_new second_old second_new word first second Second refusal fault is fails a b =
    after_reading first (second ∷ []) [] fault a (reading-failed s limits second_old second_new word second refusal fault is fails.1 b)
