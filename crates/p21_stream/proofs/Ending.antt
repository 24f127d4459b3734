-- The end of the bytes, by the histories that a session stands for.
use Rattle.std.proofs.Common.{◌≡◌, ℕ, List, Option, Some, None, Result, Ok, Err, refl, sym, ap, subst, ◌∙◌}
use Rattle.std.specs.List.{AllByRecursion as Each}
use Rattle.p21_spec_basics.specs.Limits.{Limits}
use Rattle.p21_spec_laws.proofs.Ending.{dead-refused}
use Rattle.p21_spec_laws.specs.CompleteFile.{Block}
use Rattle.p21_spec_laws.proofs.Keeps.{keeps-accepted}
use Rattle.p21_spec_laws.specs.Keeping.{AreBlocksOf, IsServedBy, Keeps, Kept, text_with_header}
use Rattle.p21_spec_laws.specs.Stored.{StoredEntry, with_lines}
use Rattle.p21_spec_laws.specs.Waiting.{Reference}
use Rattle.p21_spec_exchange.specs.Laying.{AreStatementsWithin, Laid}
use Rattle.p21_spec_exchange.specs.Statement.{Statement}
use Rattle.p21_spec_exchange.specs.Structure.{tokens_of}
use Rattle.p21_spec_exchange.specs.Token.{Token}
use Rattle.p21_spec_file.specs.Accepted.{IsCanonicalFile}
use Rattle.p21_spec_file.specs.Reference.{Need}
use Rattle.p21_spec_schema.specs.Schema.{Schema}
use Rattle.p21_spec_schema.specs.WellFormed.{IsWellFormed}
use Rattle.p21_stream_output.specs.Output.{Output}
use Rattle.p21_stream_output.specs.Ending.{IsFileOfKept}
use Rattle.p21_spec_syntax.proofs.NoFiles.{no_file-refused}
use Rattle.p21_stream_statements.specs.Source.{IsOfBytes}
use Rattle.p21_stream_statements.specs.declared.fault.Fault.{Fault}
use Rattle.p21_stream_statements.specs.declared.fault.Fault.TheVariants as faults
use Rattle.p21_stream_statements.specs.declared.refusal.Refusal.{Refusal}
use Rattle.p21_stream_statements.specs.StatementReader as statements
use Rattle.p21_stream_statements.specs.StatementReader.{AreWholeStatements, StatementHistory, limits_of}
use Rattle.p21_stream_kept.proofs.Unserved.{unserved-not_accepted}
use Rattle.p21_stream_kept.specs.Served.{IsFirstUnserved, RefusesNeed}
use Rattle.p21_stream_kept.specs.Taking.{IsKeptOfFile}
use Rattle.p21_stream_survey.proofs.Instances.{are-instances}
use Rattle.p21_stream_statements.proofs.Within.{source-within, statements-within}
use Rattle.p21_stream.specs.Held.{SessionHeld}
use Rattle.p21_stream.specs.Histories.{FinishGives, Stands}
use Rattle.p21_stream.specs.Ending.{EndGives, IsBetweenPieces}
use Rattle.p21_stream.specs.Session.{IsLive}

-- a whole file whose references are served is accepted, and its lines are its canonical file
pub whole-accepted : (s : Schema) → IsWellFormed s → (limits : Limits) (held : statements.Held) (kept : Kept) (reading : StatementHistory)
    → IsLive s limits held kept reading → reading.seen ≡ None → AreWholeStatements reading.taken reading.given
    → Each (λ (r : Reference). IsServedBy s kept.stored r.1) kept.waiting → kept.lines ≡ with_lines → (blocks : List Block)
    → AreBlocksOf kept blocks → IsCanonicalFile s limits reading.taken (text_with_header kept.header blocks)
whole-accepted s formed limits held kept reading live none w served lines blocks are =
    let within : AreStatementsWithin limits.record_source 0 w.laid.lexemes =
    subst (λ (most : ℕ). AreStatementsWithin most 0 w.laid.lexemes) (ap (λ p. p.0) live.limits_are)
    (statements-within held reading live.reads none w) in
    let short = source-within held reading live.reads in
    let limit : (limits_of held).1 ≡ limits.file_source = ap (λ p. p.1) live.limits_are in
    keeps-accepted s formed limits reading.taken reading.given kept live.keeps w.whole.structure w.whole.text w.whole.is_file
    w.whole.statements_are w.found w.whole.tokens_are w.laid within (rw (← limit) short) served lines blocks are

pub tokens-laid : (taken : List ℕ) (given : List Statement) (w : AreWholeStatements taken given) → Laid taken (tokens_of w.whole.structure)
tokens-laid taken given w = subst (λ (ts : List Token). Laid taken ts) (sym w.whole.tokens_are) w.laid

pub end-accepted : (s : Schema) → IsWellFormed s → (held : statements.Held) (kept : Kept) (output : Output)
    → statements.FinishGives held (Ok tt) → Each (λ (r : Reference). IsServedBy s kept.stored r.1) kept.waiting → kept.lines ≡ with_lines
    → ((s : Schema) (limits : Limits) (given : List Statement) → Keeps s limits given kept → IsFileOfKept kept output)
    → EndGives s held kept (Ok output)
end-accepted s formed held kept output ends served lines end limits taken given live =
    let reading : StatementHistory = record { taken = taken; seen = None; given = given } in
    let w = ends reading live.reads refl in
    let file = end s limits given live.keeps in
    record {
      is_canonical = subst (λ (text : List ℕ). IsCanonicalFile s limits taken text) (sym file.text_is)
          (whole-accepted s formed limits held kept reading live refl w served lines file.blocks file.are_blocks);
      instances_are = are-instances s limits taken given kept live.keeps w.whole.structure w.whole.text
          (record { laid = tokens-laid taken given w; is_file = w.whole.is_file }) w.whole.statements_are lines output.kept file.lines_are;
    }

-- what is kept where the statement reader takes the end is that of a whole file
pub whole-kept : (s : Schema) (held : statements.Held) (kept : Kept) → statements.FinishGives held (Ok tt) → IsBetweenPieces s held kept
    → kept.lines ≡ with_lines → IsKeptOfFile kept
whole-kept s held kept ends is lines =
    let w = ends is.reading is.live.reads is.none_seen in
    record {
      schema = s;
      limits = is.limits;
      given = is.reading.given;
      keeps = is.live.keeps;
      structure = w.whole.structure;
      text =
          w.whole.text;
      is_file = w.whole.is_file;
      statements_are = w.whole.statements_are;
      lines = lines;
    }

-- ---- refusals

-- the statement reader refuses the end
pub statements-refused : (s : Schema) (held : statements.Held) (kept : Kept) (fault : Fault) (refusal : Refusal) → refusal.fault ≡ fault
    → statements.FinishGives held (Err fault) → EndGives s held kept (Err refusal)
statements-refused s held kept fault refusal is gives other limits taken given live =
    no_file-refused s limits taken (gives (λ none. other (is ∙ none)) (record { taken = taken; seen = None; given = given }) live.reads
    refl)

-- a reference is refused
pub reference-refused : (s : Schema) → IsWellFormed s → (held : statements.Held) (kept : Kept) (refusal : Refusal)
    → statements.FinishGives held (Ok tt) → (holder : ℕ) (fault : Fault) → IsFirstUnserved s kept.stored kept.waiting holder fault
    → EndGives s held kept (Err refusal)
reference-refused s formed held kept refusal ends holder fault is other limits taken given live =
    let w = ends (record { taken = taken; seen = None; given = given }) live.reads refl in
    unserved-not_accepted s formed limits taken given kept live.keeps w.whole.structure w.whole.statements_are (tokens-laid taken given w)
    holder fault is

-- the refusal of a need is none of a reader or a writer
need-of_bytes : (s : Schema) (stored : List StoredEntry) (need : Need) (fault : Fault) → RefusesNeed s stored need fault → IsOfBytes fault
need-of_bytes s stored need (faults.Token fault) refuses = absurd refuses
need-of_bytes s stored need (faults.Grammar fault) refuses = absurd refuses
need-of_bytes s stored need (faults.Check fault) refuses = absurd refuses
need-of_bytes s stored need faults.SchemaName refuses = tt
need-of_bytes s stored need faults.SectionTwice refuses = tt
need-of_bytes s stored need faults.DuplicateName refuses = tt
need-of_bytes s stored need faults.CanonicalTooLong refuses = tt
need-of_bytes s stored need faults.Dangling refuses = tt
need-of_bytes s stored need faults.WrongTarget refuses = tt
need-of_bytes s stored need faults.NoMemory refuses = tt
need-of_bytes s stored need faults.Read refuses = refuses
need-of_bytes s stored need faults.Write refuses = refuses

pub reference-of_bytes : (s : Schema) (stored : List StoredEntry) (waiting : List Reference) (holder : ℕ) (fault : Fault)
    → IsFirstUnserved s stored waiting holder fault → IsOfBytes fault
reference-of_bytes s stored waiting holder fault is = need-of_bytes s stored is.need fault is.refused

-- ---- by histories

-- where no call was refused
pub ends : (s : Schema) (limits : Limits) (held : statements.Held) (kept : Kept) (was : Option Refusal) → was ≡ None
    → (result : Result Output Refusal) → EndGives s held kept result
    → FinishGives (record { schema = s; limits = limits; statements = held; kept = kept; refused = was }) result
unfolding Stands
ends s limits held kept was open_ (Ok accepted) gives = λ history stands. let none = sym stands.0
    ∙ open_ in let going = stands.1 none in (none, gives limits history.taken going.0 going.1)
ends s limits held kept was open_ (Err refusal) gives = λ other history stands. let going = stands.1 (sym stands.0 ∙ open_) in
    gives other limits history.taken going.0 going.1

-- a refusal that was answered before is answered again
pub ends-again : (held : SessionHeld) (refusal : Refusal) → held.refused ≡ Some refusal → FinishGives held (Err refusal)
unfolding Stands
ends-again held refusal was other history stands =
    dead-refused held.schema held.limits history.taken (stands.2 refusal (sym stands.0 ∙ was) other)
