-- What is counted at the end of the bytes, by an output that no memory holds.
use Rattle.std.proofs.Common.{◌≡◌, ◌+◌, ℕ, List, [], ◌∷◌, length, map, true, Option, None, Result, Ok, Err, refl, sym, ap, subst, ◌∙◌}
use Rattle.std.proofs.lemmas.List.{length-map}
use Rattle.std.specs.List.{AllZip, AllByRecursion as Each}
use Rattle.p21_spec_basics.specs.Limits.{Limits}
use Rattle.p21_spec_laws.specs.CompleteFile.{Block, Line}
use Rattle.p21_spec_laws.proofs.Keeps.{keeps-file, keeps-lines}
use Rattle.p21_spec_laws.specs.Beside.{IsKeptOfWhole}
use Rattle.p21_spec_laws.specs.Keeping.{IsServedBy, Kept, text_with_header}
use Rattle.p21_spec_laws.specs.OutputLaws.{lines_of}
use Rattle.p21_spec_laws.specs.Stored.{StoredEntry, with_lines}
use Rattle.p21_spec_laws.specs.Waiting.{Reference}
use Rattle.p21_spec_exchange.specs.CanonicalText.{statement_text}
use Rattle.p21_spec_exchange.specs.Laying.{AreStatementsWithin, Laid}
use Rattle.p21_spec_exchange.specs.Token.{Token}
use Rattle.p21_spec_exchange.specs.Statement.{data_start, section}
use Rattle.p21_spec_file.specs.Accepted.{IsCanonicalFile}
use Rattle.p21_spec_schema.specs.Schema.{Schema}
use Rattle.p21_spec_schema.specs.WellFormed.{IsWellFormed}
use Rattle.p21_stream_output.proofs.OutputLemmas.{output-is}
use Rattle.p21_stream_output.specs.Output.{WrittenSection, output_text}
use Rattle.p21_stream_output.specs.Writing.{IsWrittenBlock}
use Rattle.p21_stream_statements.specs.StatementReader as statements
use Rattle.p21_stream_statements.specs.StatementReader.{AreWholeStatements, StatementHistory, limits_of}
use Rattle.p21_stream_statements.specs.declared.refusal.Refusal.{Refusal}
use Rattle.p21_stream_store.specs.StoredInstance.{StoredInstance}
use Rattle.p21_stream.proofs.Ending.{ends, tokens-laid}
use Rattle.p21_stream_survey.proofs.Instances.{are-instances}
use Rattle.p21_stream_statements.proofs.Within.{source-within, statements-within}
use Rattle.p21_stream.specs.Held.{SessionHeld, limits_of as session_limits, schema_of}
use Rattle.p21_stream.specs.Histories.{CountGives, Stands, WholeGives}
use Rattle.p21_stream.specs.Feeding.{IsFedWhole, taken_history}
use Rattle.p21_stream.specs.Ending.{CountsEnd, EndsServed, EndsWhole}
use Rattle.p21_stream.specs.ReaderInput.{IsCountedInput, IsWholeInput}
use Rattle.p21_stream.specs.Session.{IsLive}
use Rattle.p21_stream.specs.declared.counting.Counted.{Counted}

-- ---- the output

-- a data section as it would be written
abbrev written : Block → WrittenSection
written b = record { line = statement_text (section (data_start b.heading)); texts = map (λ (l : Line). l.1) b.lines }

-- an instance as it would be stored, whatever its membership
abbrev instance_of : StoredEntry → StoredInstance
instance_of x = record { name = x.name; membership = 0; text = x.text }

are-written : (blocks : List Block) → AllZip IsWrittenBlock (map written blocks) blocks
are-written [] = tt
are-written (b ∷ bs) = (record { line_is = refl; texts_are = refl }, are-written bs)

lines-are : (stored : List StoredEntry) → map (λ (x : StoredInstance). (x.name, x.text)) (map instance_of stored) ≡ lines_of stored
lines-are [] = refl
lines-are (x ∷ xs) = ap (λ (ls : List Line). (x.name, x.text) ∷ ls) (lines-are xs)

-- ---- the end

-- a whole file whose references are served has blocks that are its canonical file
whole-file : (s : Schema) → IsWellFormed s → (limits : Limits) (held : statements.Held) (kept : Kept) (reading : StatementHistory)
    → IsLive s limits held kept reading → reading.seen ≡ None → AreWholeStatements reading.taken reading.given
    → Each (λ (r : Reference). IsServedBy s kept.stored r.1) kept.waiting
    → (blocks : List Block) × IsCanonicalFile s limits reading.taken (text_with_header kept.header blocks)
    × (length (text_with_header kept.header blocks) ≡ kept.bytes + kept.framing)
whole-file s formed limits held kept reading live none w served =
    let within : AreStatementsWithin limits.record_source 0 w.laid.lexemes =
    subst (λ (most : ℕ). AreStatementsWithin most 0 w.laid.lexemes) (ap (λ p. p.0) live.limits_are)
    (statements-within held reading live.reads none w) in
    let short = source-within held reading live.reads in
    let limit : (limits_of held).1 ≡ limits.file_source = ap (λ p. p.1) live.limits_are in
    keeps-file s formed limits reading.taken reading.given kept live.keeps w.whole.structure w.whole.text w.whole.is_file
    w.whole.statements_are w.found w.whole.tokens_are w.laid within (rw (← limit) short) served

pub end-counted : (s : Schema) → IsWellFormed s → (held : statements.Held) (kept : Kept) → EndsServed s held kept → (counted : Counted)
    → counted.instances ≡ length kept.stored → counted.bytes ≡ kept.bytes + kept.framing → CountsEnd s held kept (Ok counted)
end-counted s formed held kept (ended, served) counted instances bytes limits taken given live =
    let reading : StatementHistory = record { taken = taken; seen = None; given = given } in
    let w = ended reading live.reads refl in
    let (blocks, canonical, size) = whole-file s formed limits held kept reading live refl w served in
    let (stored, full, many) = keeps-lines s limits given kept live.keeps in
    let text : output_text (record {
      header = kept.header;
      sections = map written blocks;
      kept = map instance_of stored;
      statement =
          0;
    }) ≡ text_with_header kept.header blocks = output-is kept.header (map written blocks) blocks (are-written blocks) in
    record {
      output = record { header = kept.header; sections = map written blocks; kept = map instance_of stored; statement = 0 };
      accepted = record {
        is_canonical = subst (λ (bytes : List ℕ). IsCanonicalFile s limits taken bytes) (sym text) canonical;
        instances_are = are-instances s limits taken given (record kept { lines = with_lines; equal = true; stored = stored }) full
            w.whole.structure w.whole.text (record { laid = tokens-laid taken given w; is_file = w.whole.is_file }) w.whole.statements_are
            refl (map instance_of stored) (lines-are stored);
      };
      instances_are = instances ∙ sym many ∙ sym (length-map stored instance_of);
      bytes_are = bytes ∙ sym size ∙ sym (ap length text);
    }

-- what is kept of it
pub end-whole : (s : Schema) (held : statements.Held) (kept whole : Kept) → EndsServed s held kept → whole ≡ kept
    → EndsWhole s held kept (Ok whole)
end-whole s held kept whole (ended, served) same limits taken given live =
    let reading : StatementHistory = record { taken = taken; seen = None; given = given } in
    let w = ended reading live.reads refl in
    let within : AreStatementsWithin limits.record_source 0 w.laid.lexemes =
    subst (λ (most : ℕ). AreStatementsWithin most 0 w.laid.lexemes) (ap (λ p. p.0) live.limits_are)
    (statements-within held reading live.reads refl w) in
    let short = source-within held reading live.reads in
    let limit : (limits_of held).1 ≡ limits.file_source = ap (λ p. p.1) live.limits_are in
    let (laid, all_within) = subst (λ (ts : List Token). (l : Laid taken ts) × AreStatementsWithin limits.record_source 0 l.lexemes)
    (sym w.whole.tokens_are) (w.laid, within) in
    subst (IsKeptOfWhole s limits taken) (sym same) (record {
      given = given;
      keeps = live.keeps;
      structure = w.whole.structure;
      text = w.whole.text;
      is_file = w.whole.is_file;
      statements_are = w.whole.statements_are;
      laid = laid;
      statements_within = all_within;
      source_within = rw (← limit) short;
      served = served;
    })

-- ---- by histories

-- where no call was refused
pub counts : (s : Schema) (limits : Limits) (held : statements.Held) (kept : Kept) (was : Option Refusal) → was ≡ None
    → (result : Result Counted Refusal) → CountsEnd s held kept result
    → CountGives (record { schema = s; limits = limits; statements = held; kept = kept; refused = was }) result
unfolding Stands
counts s limits held kept was open_ (Ok counted) gives = λ history stands. let none = sym stands.0
    ∙ open_ in let going = stands.1 none in (none, gives limits history.taken going.0 going.1)
counts s limits held kept was open_ (Err refusal) gives = ends s limits held kept was open_ (Err refusal) gives

pub wholes : (s : Schema) (limits : Limits) (held : statements.Held) (kept : Kept) (was : Option Refusal) → was ≡ None
    → (result : Result Kept Refusal) → EndsWhole s held kept result
    → WholeGives (record { schema = s; limits = limits; statements = held; kept = kept; refused = was }) result
unfolding Stands
wholes s limits held kept was open_ (Ok whole) gives = λ history stands. let none = sym stands.0
    ∙ open_ in let going = stands.1 none in (none, gives limits history.taken going.0 going.1)
wholes s limits held kept was open_ (Err refusal) gives = ends s limits held kept was open_ (Err refusal) gives

-- of the bytes that a reader gave
pub whole-counted : (old new : Option (List ℕ)) (session : SessionHeld) (counted : Counted) → IsFedWhole old new session
    → CountGives session (Ok counted) → IsCountedInput (schema_of session) (session_limits session) old new counted
whole-counted old new session counted whole gives = record {
  bytes = whole.bytes;
  read = whole.read;
  is_counted = (gives (taken_history whole.bytes) whole.stands).1;
}

pub whole-input : (old new : Option (List ℕ)) (session : SessionHeld) (kept : Kept) → IsFedWhole old new session
    → WholeGives session (Ok kept) → IsWholeInput (schema_of session) (session_limits session) old new kept
whole-input old new session kept whole gives = record {
  bytes = whole.bytes;
  read = whole.read;
  whole = (gives (taken_history whole.bytes) whole.stands).1;
}
