-- A step of a lexer with a parser behind it, by the histories that they stand for.
use Rattle.std.proofs.Common.{◌≡◌, ◌≢◌, ◌+◌, ◌≤◌, ◌<◌, ◌⊎◌, ℕ, Bool, true, false, List, [], ◌∷◌, ◌++◌, length, take, Option, Some, None, Ok, Err, inl, inr, refl, sym, ap, subst, ◌∙◌, append_assoc, length-append, if◌then◌else◌, arith}
use Rattle.std.proofs.lemmas.List.{append-nil}
use Rattle.std.specs.List.{flat_map, slice_get}
use Rattle.p21_spec_basics.specs.History.{empty, extended, first_refusal, looked_at}
use Rattle.p21_spec_laws.proofs.TokenPrefixes.{prefix-taken}
use Rattle.p21_spec_laws.specs.Taken.{AreTokensTaken, AreStatementsTaken}
use Rattle.p21_spec_exchange.specs.Statement.{Statement, statement_tokens}
use Rattle.p21_spec_exchange.specs.Structure.{statements}
use Rattle.p21_spec_exchange.specs.Token.{Token}
use Rattle.p21_grammar.proofs.Theorems.{begin_file}
use Rattle.p21_grammar.specs.Held as grammar_held
use Rattle.p21_grammar.specs.Histories as grammar
use Rattle.p21_grammar.specs.Histories.{GrammarHistory, BeginNoFile, BeginsFile, GivesOfFile}
use Rattle.p21_grammar.specs.Statements.{statements_of}
use Rattle.p21_grammar.specs.declared.event.Event.{Event}
use Rattle.p21_grammar.specs.declared.fault.GrammarFault.{GrammarFault}
use Rattle.p21_grammar.specs.declared.fault.GrammarFault.TheVariants as grammar_fault
use Rattle.p21_grammar.specs.declared.stage.Stage.TheVariants.{Start}
use Rattle.p21_spec_survey.specs.Whole.{BeginsNone, BeginsNoneWithin}
use Rattle.p21_stream_statements.specs.Fault.{fault_of_grammar, fault_of_token}
use Rattle.p21_stream_statements.specs.declared.fault.Fault.{Fault}
use Rattle.p21_stream_statements.specs.declared.fault.Fault.TheVariants.{NoMemory}
use Rattle.p21_tokens.proofs.Extending.{take-one}
use Rattle.p21_stream_statements.proofs.Refusing.{full-begins_none, unbegun-begins_none, unlaid-begins_none}
use Rattle.p21_stream_statements.proofs.Seen.{looked-up_to, offered, seen-behind}
use Rattle.p21_stream_statements.specs.StatementReader.{BeginsNoneBy, TakesOneToken, Held, IsEndedBy, IsLive, IsSeenAt, StatementHistory, RefusesWithin, limits_of, bytes_looked_at, nothing_read}
use Rattle.p21_tokens.specs.Fault.{Cause, of_form, of_end, of_statement, of_file, of_parameter, of_memory, cause_of}
use Rattle.p21_tokens.specs.Held as tokens_held
use Rattle.p21_tokens.specs.Held.{file_limit_of, record_limit_of}
use Rattle.p21_tokens.specs.Histories as tokens
use Rattle.p21_tokens.specs.Histories.{TokenHistory, AreDead, IsStatementFull, call_of}
use Rattle.p21_tokens.specs.Token.{meant, waits}
use Rattle.p21_tokens.specs.declared.fault.TokenFault.{TokenFault}
use Rattle.p21_tokens.specs.declared.fault.TokenFault.TheVariants as token_fault
use Rattle.p21_tokens.specs.declared.token.Token.{Token as TokenRead}

-- ---- nothing taken

empty-front : (ended opened : List Token) → [] ≡ ended ++ opened → ended ≡ []
empty-front [] opened is = refl
empty-front (t ∷ ended) opened is = cc

pub live-new : (held : Held) → tokens.Stands held.lexer empty → grammar.Stands held.parser empty → IsLive held nothing_read
unfolding grammar.Stands
live-new held lexer parser = record {
  history = empty;
  lexer = lexer;
  answered = inl refl;
  lexer_open = refl;
  taken_are = refl;
  seen_is = refl;
  parsing = empty;
  parser = parser;
  parser_open = refl;
  tokens_are = refl;
  given_are = refl;
  given_first = λ structure text is begins. (statements structure, refl);
  ended_by = record {
    depth_is = parser.1;
    ended_are =
        empty-front parser.1.open_statement.ended parser.1.opened parser.1.open_statement.given_are;
  };
  of_file = begin_file [] [] Start refl refl tt;
}

-- ---- what the tokens given say of the bytes

-- the tokens given are the first of those laid in bytes that begin with those looked at
pub given-first : (held : Held) (reading : StatementHistory) (live : IsLive held reading) → tokens.AreGivenFirst live.history
given-first held reading live = elim live.answered [
  | inl none ↦ subst (λ (h : TokenHistory). tokens.AreGivenFirst h) (sym none) (λ rest found laid. (found, refl))
  | inr answers ↦
      answers.given_first
]

pub are-given : (history : TokenHistory) → tokens.AreGivenFirst history → AreTokensTaken (looked_at history) history.given
are-given history first more bytes found laid = first more found laid

pub taken-looked : (held : Held) (reading : StatementHistory) → IsLive held reading
    → AreStatementsTaken (bytes_looked_at reading) reading.given
taken-looked held reading live =
    let Bytes : List ℕ → Option ℕ → Type 0 = λ taken seen. AreStatementsTaken (taken ++ elim seen [ None ↦ [] | Some byte ↦ byte ∷ [] ])
    reading.given in
    let own : AreStatementsTaken (looked_at live.history) reading.given =
    prefix-taken (looked_at live.history) live.history.given reading.given (are-given live.history (given-first held reading live))
    (subst (λ (ts : List Token). grammar.AreGivenFirst ts reading.given) live.tokens_are live.given_first) in
    subst (λ (seen : Option ℕ). Bytes reading.taken seen) live.seen_is
    (subst (λ (taken : List ℕ). Bytes taken live.history.seen) live.taken_are own)

-- ---- a refusal of the lexer

-- what a refusal of a byte says, by its cause
abbrev pub SaysOf : Cause → tokens_held.Held → List ℕ → List ℕ → ℕ → Type 0
SaysOf cause held taken piece count = elim cause [
  | of_form ↦ AreDead (taken ++ take (count + 1) piece)
  | of_end ↦ ⊥
  | of_statement ↦ (byte : ℕ) × (slice_get piece count ≡ Some byte)
      × IsStatementFull (record_limit_of held) (taken ++ take count piece) byte
      × (length (taken ++ take (count + 1) piece) ≤ file_limit_of held)
  | of_file ↦ file_limit_of held < length (taken ++ take (count + 1) piece)
  | of_parameter ↦ ⊥
  | of_memory ↦ Unit {0}
]

pub none-says : (fault : TokenFault) (held : tokens_held.Held) (taken piece : List ℕ) (count : ℕ) → fault ≢ token_fault.NoMemory
    → SaysOf (cause_of fault) held taken piece count
    → BeginsNoneBy (fault_of_token fault) (record_limit_of held, file_limit_of held) (taken ++ take (count + 1) piece)
none-says token_fault.NoMemory held taken piece count other says = absurd (other refl)
none-says token_fault.OpenString held taken piece count other says = absurd says
none-says token_fault.OpenComment held taken piece count other says = absurd says
none-says token_fault.EndsEarly held taken piece count other says = absurd says
none-says token_fault.NotOneParameter held taken piece count other says = absurd says
none-says token_fault.RecordTooLong held taken piece count other (byte, at, full, within) =
    subst (λ (l : List ℕ). BeginsNoneWithin (record_limit_of held) l)
    (append_assoc taken (take count piece) (byte ∷ []) ∙ ap (λ (l : List ℕ). taken ++ l) (sym (take-one piece count byte at)))
    (full-begins_none (record_limit_of held) (taken ++ take count piece) byte full)
none-says token_fault.FileTooLong held taken piece count other says = says
none-says _ held taken piece count other says = unlaid-begins_none (taken ++ take (count + 1) piece) says

-- what a step owes that refuses
abbrev pub Owes : Held → List ℕ → Fault → Type 0
Owes old piece fault = fault ≢ NoMemory → (reading : StatementHistory) → IsLive old reading → IsSeenAt reading.seen piece 0
    → RefusesWithin (limits_of old) fault reading piece

pub token-refused : (old : Held) (piece : List ℕ) (fault : TokenFault) (lexer : tokens_held.Held)
    → tokens.NextGives old.lexer piece (Err fault) lexer → Owes old piece (fault_of_token fault)
token-refused old piece fault lexer gives other reading live at =
    let offers = offered live.history.seen piece (subst (λ (seen : Option ℕ). IsSeenAt seen piece 0) (sym live.seen_is) at) in
    let refuses = gives live.history live.lexer offers live.lexer_open in
    record {
      count = refuses.count + 1;
      within = let below = refuses.within in omega (arith, below);
      begins_none = subst (λ (taken : List ℕ). BeginsNoneBy (fault_of_token fault) (limits_of old)
          (taken ++ take (refuses.count + 1) piece)) live.taken_are
          (none-says fault old.lexer live.history.taken piece refuses.count (λ is. other (ap fault_of_token is)) refuses.refuses);
    }

-- ---- a token

pub seen-call : (b : Bool) (x : Option ℕ) → ((if b then x else None) ≡ None) ⊎ ((if b then x else None) ≡ x)
seen-call true x = inr refl
seen-call false x = inl refl

-- what a lexer has taken that gave a token
pub record IsRead (old : Held) (reading : StatementHistory) (piece : List ℕ) (count : ℕ) (token : Token) (lexer : tokens_held.Held) : Type
    0 where
  pub live : IsLive old reading
  pub answers : tokens.Answers lexer (extended live.history (call_of piece count (Some token)))
  pub seen_at : IsSeenAt (extended live.history (call_of piece count (Some token))).seen piece count

pub read : (old : Held) (piece : List ℕ) (count : ℕ) (token : TokenRead) (lexer : tokens_held.Held)
    → tokens.NextGives old.lexer piece (Ok (count, Some token)) lexer
    → (reading : StatementHistory) → IsLive old reading → IsSeenAt reading.seen piece 0 → IsRead old reading piece count (meant token) lexer
read old piece count token lexer gives reading live at =
    let own : IsSeenAt live.history.seen piece 0 = subst (λ (seen : Option ℕ). IsSeenAt seen piece 0) (sym live.seen_is) at in
    record {
      live = live;
      answers = gives live.history live.lexer (offered live.history.seen piece own);
      seen_at = seen-behind live.history.seen piece count (if waits (meant token) then slice_get piece count else None) own
          (seen-call (waits (meant token)) (slice_get piece count));
    }

-- ---- a token that the parser refuses

-- no file begins with the token
begins-none : (fault : GrammarFault) (taken : List Token) (given : List Statement) (token : Token) → fault ≢ grammar_fault.NoMemory
    → grammar.Refuses taken given token fault → BeginNoFile (taken ++ token ∷ [])
begins-none grammar_fault.NoMemory taken given token other refuses = absurd (other refl)
begins-none grammar_fault.EndsEarly taken given token other refuses = absurd refuses
begins-none grammar_fault.TooDeep taken given token other refuses = refuses.0
begins-none grammar_fault.AfterEnd taken given token other refuses = refuses.0
begins-none grammar_fault.Unexpected taken given token other refuses = refuses
begins-none (grammar_fault.LeftOut absent) taken given token other refuses = refuses
begins-none grammar_fault.HeaderShape taken given token other refuses = refuses
begins-none grammar_fault.SectionShape taken given token other refuses = refuses

none-by : (fault : GrammarFault) (limits : ℕ × ℕ) (bytes : List ℕ) → fault ≢ grammar_fault.NoMemory → BeginsNone bytes
    → BeginsNoneBy (fault_of_grammar fault) limits bytes
none-by grammar_fault.NoMemory limits bytes other none = absurd (other refl)
none-by _ limits bytes other none = none

token-unbegun : (old : Held) (reading : StatementHistory) (piece : List ℕ) (count : ℕ) (token : Token) (lexer : tokens_held.Held)
    (fault : GrammarFault) → fault ≢ grammar_fault.NoMemory → count ≤ length piece → IsRead old reading piece count token lexer
    → ((r : IsRead old reading piece count token lexer) → BeginNoFile (r.live.parsing.taken ++ token ∷ []))
    → RefusesWithin (limits_of old) (fault_of_grammar fault) reading piece
token-unbegun old reading piece count token lexer fault other within r none =
    let history : TokenHistory = extended r.live.history (call_of piece count (Some token)) in
    let up = looked-up_to r.live.history.taken piece count history.seen within r.seen_at in
    let begins : BeginNoFile history.given = subst (λ (ts : List Token). BeginNoFile (ts ++ token ∷ [])) r.live.tokens_are (none r) in
    let looked : BeginsNone (looked_at history) = unbegun-begins_none (looked_at history) history.given
    (are-given history r.answers.given_first) begins in
    record {
      count = up.upto;
      within = up.within;
      begins_none = none-by fault (limits_of old) (reading.taken ++ take up.upto piece) other
          (subst (λ (taken : List ℕ). BeginsNone (taken ++ take up.upto piece)) r.live.taken_are (subst BeginsNone up.looked_are looked));
    }

pub parse-refused : (old : Held) (piece : List ℕ) (count : ℕ) (token : TokenRead) (lexer : tokens_held.Held) (fault : GrammarFault)
    (parser : grammar_held.Held) → tokens.NextGives old.lexer piece (Ok (count, Some token)) lexer → count ≤ length piece
    → grammar.TakeGives old.parser (meant token) (Err fault) parser → Owes old piece (fault_of_grammar fault)
parse-refused old piece count token lexer fault parser gives within takes other reading live at =
    let others : fault ≢ grammar_fault.NoMemory = λ is. other (ap fault_of_grammar is) in
    token-unbegun old reading piece count (meant token) lexer fault others within (read old piece count token lexer gives reading live at)
    (λ r.
    begins-none fault r.live.parsing.taken r.live.parsing.given (meant token) others
    (takes r.live.parsing r.live.parser r.live.parser_open).refuses)

-- ---- a token that the parser takes

front-file : (ended opened : List Token) (given : List Statement) → BeginsFile (ended ++ opened) given → BeginsFile ended given
front-file ended opened given f = record {
  structure = f.structure;
  text = f.text;
  is_file = f.is_file;
  tokens_begin = (opened ++ f.tokens_begin.0, f.tokens_begin.1 ∙ append_assoc ended opened f.tokens_begin.0);
  are_first = f.are_first;
}

-- where a file begins with the tokens taken, it begins with those of the statements given
pub of-given : (parsing : GrammarHistory) (depth : ℕ) (given : List Statement) → BeginsFile parsing.taken parsing.given
    → IsEndedBy parsing.taken depth parsing.given → parsing.given ≡ given → BeginsFile (flat_map statement_tokens given) given
of-given parsing depth given begins ended same =
    let opened = ended.depth_is.opened in
    let tokens_are : parsing.taken ≡ flat_map statement_tokens parsing.given ++ opened = ended.depth_is.open_statement.given_are
    ∙ ap (λ (ts : List Token). ts ++ opened) ended.ended_are in
    let own : BeginsFile (flat_map statement_tokens parsing.given) parsing.given =
    front-file (flat_map statement_tokens parsing.given) opened parsing.given
    (subst (λ (ts : List Token). BeginsFile ts parsing.given) tokens_are begins) in
    subst (λ (g : List Statement). BeginsFile (flat_map statement_tokens g) g) same own

of-file : (event : Option Event) (parsing : GrammarHistory) (depth : ℕ) (before : List Statement)
    → BeginsFile (flat_map statement_tokens before) before → GivesOfFile event parsing → IsEndedBy parsing.taken depth parsing.given
    → parsing.given ≡ before ++ statements_of event → BeginsFile (flat_map statement_tokens (before ++ statements_of event))
    (before ++ statements_of event)
of-file None parsing depth before file gives ended same =
    subst (λ (g : List Statement). BeginsFile (flat_map statement_tokens g) g) (sym (append-nil before)) file
of-file (Some event) parsing depth before file gives ended same =
    of-given parsing depth (before ++ statements_of (Some event)) gives ended same

pub went-on : (old : Held) (piece : List ℕ) (count : ℕ) (token : TokenRead) (lexer : tokens_held.Held) (event : Option Event)
    (parser : grammar_held.Held) → tokens.NextGives old.lexer piece (Ok (count, Some token)) lexer
    → grammar.TakeGives old.parser (meant token) (Ok event) parser → (reading : StatementHistory) (live : IsLive old reading)
    → IsSeenAt reading.seen piece 0 → TakesOneToken reading (length live.history.given) piece count (statements_of event)
    (record { lexer = lexer; parser = parser })
unfolding read
went-on old piece count token lexer event parser gives takes reading live at =
    let r = read old piece count token lexer gives reading live at in
    let history : TokenHistory = extended live.history (call_of piece count (Some (meant token))) in
    let parsing : GrammarHistory = extended live.parsing (grammar.call_of (meant token) event) in
    let parsed = (takes live.parsing live.parser).1 in
    let given : parsing.given ≡ reading.given ++ statements_of event =
    ap (λ (g : List Statement). g ++ statements_of event) live.given_are in
    record {
      reading = record { taken = reading.taken ++ take count piece; seen = history.seen; given = reading.given ++ statements_of event };
      live = record {
        history = history;
        lexer = r.answers.stands;
        answered = inr r.answers;
        lexer_open = ap (λ (x : Option TokenFault). first_refusal x None) live.lexer_open;
        taken_are = ap (λ (l : List ℕ). l ++ take count piece) live.taken_are;
        seen_is = refl;
        parsing = parsing;
        parser = parsed.stands;
        parser_open = ap (λ (x : Option GrammarFault). first_refusal x None) live.parser_open;
        tokens_are = ap (λ (ts : List Token). ts ++ meant token ∷ []) live.tokens_are;
        given_are = given;
        given_first = subst (λ (g : List Statement). grammar.AreGivenFirst parsing.taken g) given parsed.given_first;
        ended_by = record {
          depth_is = parsed.depth_is;
          ended_are = parsed.ended_are
              ∙ ap (λ (g : List Statement). flat_map statement_tokens g) given;
        };
        of_file = of-file event parsing parser.depth reading.given live.of_file parsed.of_file
            (record { depth_is = parsed.depth_is; ended_are = parsed.ended_are }) given;
      };
      taken_are = refl;
      given_are = refl;
      seen_at = r.seen_at;
      one_more = length-append live.history.given (meant token ∷ []);
    }
