-- An instance that has ended and is refused is left out.
use Rattle.std.proofs.Common.{◌≡◌, inl, ℕ, List, [], ◌∷◌, ◌++◌, length, length-append, take, Option, Some, None, refl, sym, ap, subst, ◌∙◌, append_assoc, arith}
use Rattle.std.proofs.lemmas.List.{take-append-drop}
use Rattle.p21_spec_basics.specs.Limits.{Limits}
use Rattle.p21_spec_exchange.proofs.FirstBytes.{spelling_begins}
use Rattle.p21_spec_exchange.proofs.OneGap.{begins-on, gap-one}
use Rattle.p21_spec_exchange.proofs.Semicolons.{statement-ends, unended}
use Rattle.p21_spec_exchange.specs.Laying.{LaidAs, Lexeme, tokens_in}
use Rattle.p21_spec_exchange.specs.Pending.{BeginsWithNoSeparator}
use Rattle.p21_spec_exchange.specs.Record.{Record}
use Rattle.p21_spec_exchange.specs.Statement.{Statement, instance, statement_tokens}
use Rattle.p21_spec_exchange.specs.Token.{Token, semicolon}
use Rattle.p21_spec_survey.specs.Rules.{Rules}
use Rattle.p21_spec_survey.specs.Landmark.{Signpost, StandsAt}
use Rattle.p21_spec_survey.specs.Resuming.{HasNoneInside}
use Rattle.p21_spec_survey.specs.Survey.{BeginsAt, IsRead, IsRefusedInstance, leaves_out, leaving_out}
use Rattle.p21_spec_survey.specs.Whole.{JoinedIsLaid}
use Rattle.p21_stream_log.proofs.Between.{place-live}
use Rattle.p21_stream_log.proofs.Taking.{begins, closed-logs, has-ended, next-is}
use Rattle.p21_stream_log.specs.Log.{BeginsBehind, Closes, EndsWith, Held, IsFileOf, Known, LeaveOutGives, Logs, Point, behind_left_out}
use Rattle.p21_stream_resume.proofs.Statements.{laid-lexed, none-inside}
use Rattle.p21_stream_resume.specs.Lexing.{AreLexed}
use Rattle.p21_stream_resume.specs.Standing.{FindsInString, StandsInString}
use Rattle.p21_stream_resume.specs.declared.signpost.Signpost as code
use Rattle.p21_tokens_automaton.proofs.OnePending.{begins-no_separator}
use Rattle.p21_tokens_automaton.specs.Reading.{State}
use Rattle.p21_shorter_tokens.specs.Gaps.{PassesSeparators}

-- ---- where a statement begins

no-tokens : (ts : List Token) (t : Token) → [] ≡ ts ++ t ∷ [] → ⊥
no-tokens [] t is = cc
no-tokens (u ∷ ts) t is = cc

-- behind the separators a token begins, and with more bytes behind it too
token-first : (buffer rest : List ℕ) (lexemes : List Lexeme) (statement : Statement) → PassesSeparators buffer rest → LaidAs buffer lexemes
    → tokens_in lexemes ≡ statement_tokens statement → BeginsWithNoSeparator rest
token-first buffer rest [] statement passes laid are = absurd (no-tokens (unended statement) semicolon (are ∙ statement-ends statement))
token-first buffer rest (x ∷ lexemes) statement passes (gap, spelling, others, is, separates, spells, size, followed, laid) are =
    let first : BeginsWithNoSeparator (spelling ++ others) = begins-on spelling others (spelling_begins x.token spelling spells) in
    let same : rest ≡ spelling ++ others = gap-one passes.gap gap rest (spelling ++ others) passes.is_gap separates passes.ends
    (begins-no_separator (spelling ++ others) first) (sym passes.bytes_are ∙ is) in
    subst BeginsWithNoSeparator (sym same) first

-- ---- a signpost in a string

inside-some : (statement behind : List ℕ) (place : ℕ) (signpost : Signpost) → StandsInString statement place signpost
    → ¬ HasNoneInside statement behind
inside-some statement behind place signpost is none = none (take place statement) signpost is.stands.rest (record {
  bytes_are = sym (take-append-drop place statement) ∙ ap (λ (l : List ℕ). take place statement ++ l) is.stands.bytes_are;
  stands = subst (λ (l : List ℕ). StandsAt (take place statement) l signpost) is.stands.bytes_are is.stands;
  in_text = inl is.in_string;
})

-- what is told of the strings of whole statements
abbrev pub FindsLexed : List ℕ → Option (ℕ × code.Signpost) → Type 0
FindsLexed statement found = (behind : State) → AreLexed statement behind → FindsInString statement found

-- ---- the log

module _ (s : Rules) (limits : Limits) (known : Known) (held : Held) (point : Point) (logs : Logs s limits known held point) where
  -- where its statement begins in each file
  begins-at : (statement : Statement) → point.ended ≡ statement ∷ [] → EndsWith 59 held.buffer → (start : ℕ) → BeginsBehind held start
      → (file : List ℕ) → IsFileOf known file → BeginsAt file point.read start
  begins-at statement ended last start behind file of =
      let own = has-ended s limits known held point statement logs ended last in
      let (rest, is) = next-is s limits known held point statement logs ended file of in
      let first = token-first held.buffer behind.rest own.more statement behind.passes own.whole.laid own.tokens_are in
      let gap : List ℕ = behind.passes.gap in
      let bytes = behind.passes.bytes_are in
      record {
        gap = gap;
        rest = behind.rest ++ rest;
        file_is = is ∙ ap (λ (l : List ℕ). point.read.bytes ++ l)
            (ap (λ (l : List ℕ). l ++ rest) bytes ∙ append_assoc gap behind.rest rest);
        separates = behind.passes.is_gap;
        no_more = λ separator more separates same. begins-no_separator (behind.rest ++ rest) (begins-on behind.rest rest first) separator
            more separates same;
        begins_is =
            let place = place-live held.reader logs.history logs.live in
            let taken = ap length logs.taken_are in
            let all = length-append logs.gapped held.buffer in
            let size = logs.size in
            let parts = ap length bytes in
            let sum = length-append gap behind.rest in
            let wanted = length-append point.read.bytes gap in
            let is_ = behind.begins_is in
            omega (arith, place, taken, all, size, parts, sum, wanted, is_);
      }

  left-out : JoinedIsLaid → (n : ℕ) (record_ : Record) (number start : ℕ) → point.ended ≡ instance n record_ ∷ [] → EndsWith 59 held.buffer
      → IsRefusedInstance s point.read.given n record_ number → FindsLexed held.buffer None → BeginsBehind held start → (new : Held)
      → Closes held new → Logs s limits known new (behind_left_out point held.buffer n record_ number start)
  left-out joined n record_ number start ended last wrong found behind new closes =
      let own = has-ended s limits known held point (instance n record_) logs ended last in
      let (state, lexed) = laid-lexed held.buffer own.more own.whole.laid in
      let read : (file : List ℕ) → IsFileOf known file → IsRead s limits file (leaving_out point.read held.buffer n record_ number start) =
      λ file of.
      let (rest, is) = next-is s limits known held point (instance n record_) logs ended file of in
      leaves_out point.read held.buffer rest n record_ number start (logs.is_read file of) is own.statement_is
      (begins s limits known held point (instance n record_) logs ended) wrong
      (none-inside held.buffer rest own.more own.whole (found state lexed))
      (begins-at (instance n record_) ended last start behind file of) in
      closed-logs s limits known held point (instance n record_) logs ended joined last
      (leaving_out point.read held.buffer n record_ number start) refl refl refl read new closes

  some-inside : (statement : Statement) (behind : List ℕ) (place : ℕ) (own : code.Signpost) → point.ended ≡ statement ∷ []
      → EndsWith 59 held.buffer → FindsLexed held.buffer (Some (place, own)) → ¬ HasNoneInside held.buffer behind
  some-inside statement behind place answer ended last found =
      let own = has-ended s limits known held point statement logs ended last in
      let (state, lexed) = laid-lexed held.buffer own.more own.whole.laid in
      let ((signpost, stands, describes), first) = found state lexed in
      inside-some held.buffer behind place signpost stands

pub left-out-gives : JoinedIsLaid → (old new : Held) (start : ℕ) → FindsLexed old.buffer None → BeginsBehind old start → Closes old new
    → LeaveOutGives old (Some start) new
left-out-gives joined old new start found behind closes s limits known point n record_ number logs ended last wrong =
    left-out s limits known old point logs joined n record_ number start ended last wrong found behind new closes

pub left-inside : (old new : Held) (found : ℕ × code.Signpost) → FindsLexed old.buffer (Some found) → new ≡ old → LeaveOutGives old None new
left-inside old new (place, own) found same = (
  same,
  λ s limits known point statement behind logs ended last. some-inside s limits known old
      point logs statement behind place own ended last found,
)
