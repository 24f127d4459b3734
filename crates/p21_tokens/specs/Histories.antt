-- What a lexer has taken and answered, and what each call adds to it (ISO 10303-21, tokens).
use Rattle.std.specs.Prelude.{◌≡◌, ◌≢◌, ◌↔◌, ℕ, ◌+◌, ◌≤◌, ◌<◌, ◌⊎◌, false, if◌then◌else◌, List, [], ◌∷◌, ◌++◌, length, take, slice_get, Option, Some, None, Result, Ok, Err}
use Rattle.std.specs.Option.{option_map}
use Rattle.std.specs.List.{AllByRecursion as Each}
use Rattle.p21_spec_basics.specs.History.{History, extended, looked_at, IsOfferedFirst}
use Rattle.p21_spec_exchange.specs.Laying.{Lexeme, Laid, tokens_in, open_bytes, AreStatementsWithin}
use Rattle.p21_spec_exchange.specs.Pending.{Tail, nothing, unfinished, slash, open_comment, tail_size, LaidUpTo, IsPending, IsTokenByte}
use Rattle.p21_spec_exchange.specs.Number.{Decimal, RealForm, SpellsReal}
use Rattle.p21_spec_exchange.specs.Separator.{blank, IsSeparator}
use Rattle.p21_spec_exchange.specs.Token.{Token, Spells, MayFollow, IsWholeAtOnce}
use Rattle.p21_tokens_automaton.specs.Meaning.{IsOutOfRange, MeanAll}
use Rattle.p21_tokens_automaton.specs.Reading.{State, start, without_tokens, open_at, FoundToken, SizedToken, ended_token, after, lex}
use Rattle.p21_tokens_automaton.specs.Step.{advance}
use Rattle.p21_tokens_automaton.specs.declared.mode.Mode.{Mode}
use Rattle.p21_tokens_automaton.specs.declared.mode.Mode.TheVariants.{Between, Slash, Comment, Star}
use Rattle.p21_tokens.specs.Fault.{form_fault, end_fault, of_form, of_end, of_statement, of_file, of_parameter, of_memory, cause_of, IsOfForm, IsOfLimit, IsOfTheEnd}
use Rattle.p21_tokens.specs.Held.{Held, pending_of, state_of, refusal_of, record_limit_of, file_limit_of}
use Rattle.p21_tokens.specs.Steps.{rest_of}
use Rattle.p21_tokens.specs.Token.{meant, meant_all, waits}
use Rattle.p21_tokens.specs.declared.fault.TokenFault.{TokenFault}
use Rattle.p21_tokens.specs.declared.fault.TokenFault.TheVariants.{NumberRange, NoMemory}
use Rattle.p21_tokens.specs.declared.token.Token.{Token as TokenRead}

-- the bytes taken, the byte behind them if it was looked at, the tokens given, and the refusal
abbrev pub TokenHistory : Type 0
TokenHistory = History ℕ Token TokenFault

-- ---- what a call adds

-- a call that took so many bytes of the piece, and gave a token or none: a token that waits is given when the byte
-- behind it is seen
abbrev pub call_of : List ℕ → ℕ → Option Token → TokenHistory
call_of piece count None = record { taken = take count piece; seen = None; given = []; refusal = None }
call_of piece count (Some token) = record { taken = take count piece; seen = if waits token then slice_get piece count else None; given = token ∷ []; refusal = None }

-- a call that refused the byte behind so many of the piece
abbrev pub refused_call : List ℕ → ℕ → TokenFault → TokenHistory
refused_call piece count fault = record { taken = take count piece; seen = slice_get piece count; given = []; refusal = Some fault }

-- ---- what holds of a history

-- the tokens given are the first of those laid in any bytes that begin with those looked at
abbrev pub AreGivenFirst : TokenHistory → Type 0
AreGivenFirst history = (rest : List ℕ) (tokens : List Token) → Laid (looked_at history ++ rest) tokens → (more : List Token) × (tokens ≡ history.given ++ more)

-- where a front of the bytes taken is laid, and its last token is whole by its last byte, its tokens have been given
abbrev pub AreGivenAtOnce : TokenHistory → Type 0
AreGivenAtOnce history =
    (front rest : List ℕ) (tokens : List Token) (last : Token) → history.taken ≡ front ++ rest → Laid front (tokens ++ last ∷ []) → IsWholeAtOnce last → (more : List Token) × (history.given ≡ (tokens ++ last ∷ []) ++ more)

-- the tokens given are laid in the bytes taken, up to a token or comment that is open, each statement is within its
-- limit, and so many token bytes are pending
pub record IsLaidWithin (limit pending : ℕ) (history : TokenHistory) : Type 0 where
  pub lexemes : List Lexeme
  pub tail : Tail
  pub laid : LaidUpTo history.taken lexemes tail
  pub given_are : tokens_in lexemes ≡ history.given
  pub statements_within : AreStatementsWithin limit 0 lexemes
  pub pending_is : pending ≡ open_bytes 0 lexemes + tail_size tail
  pub pending_within : pending ≤ limit

-- so many token bytes are pending behind the tokens given
abbrev pub IsPendingBehind : TokenHistory → ℕ → Type 0
IsPendingBehind history pending = (p : IsPending history.taken pending) × (tokens_in p.lexemes ≡ history.given)

-- no tokens are laid in any bytes that begin so
abbrev pub AreDead : List ℕ → Type 0
AreDead bytes = (rest : List ℕ) (tokens : List Token) → Laid (bytes ++ rest) tokens → ⊥

-- no tokens are laid in the bytes
abbrev pub IsUnlaid : List ℕ → Type 0
IsUnlaid bytes = (tokens : List Token) → Laid bytes tokens → ⊥

-- one byte more is one token byte more than a statement may have
pub record IsStatementFull (limit : ℕ) (bytes : List ℕ) (byte : ℕ) : Type 0 where
  pub lexemes : List Lexeme
  pub tail : Tail
  pub laid : LaidUpTo bytes lexemes tail
  pub full : limit ≤ open_bytes 0 lexemes + tail_size tail
  pub counts : IsTokenByte tail byte

-- the tail is no token that the byte may follow
abbrev pub IsNoToken : Tail → ℕ → Type 0
IsNoToken (unfinished bytes) byte = (token : Token) → Spells token bytes → MayFollow token bytes byte → ⊥
IsNoToken other byte = Unit {0}

-- the tail is a real out of range, and the byte goes on with no real
abbrev pub EndsOutOfRange : Tail → ℕ → Type 0
EndsOutOfRange (unfinished bytes) byte = IsOutOfRange bytes byte
EndsOutOfRange other byte = ⊥

-- a real out of range stands last
abbrev pub IsOutOfRangeTail : Tail → Type 0
IsOutOfRangeTail (unfinished bytes) = RealForm bytes × ((value : Decimal) → SpellsReal bytes value → ⊥)
IsOutOfRangeTail other = ⊥

-- the mode in which the bytes of a tail end
abbrev pub EndsInMode : Tail → Mode → Type 0
EndsInMode nothing mode = mode ≡ Between
EndsInMode (unfinished bytes) mode = (state : State) × (lex start bytes ≡ without_tokens (open_at state)) × (mode ≡ state.mode)
EndsInMode slash mode = mode ≡ Slash
EndsInMode (open_comment inside) mode = (mode ≡ Comment) ⊎ (mode ≡ Star)

-- a fault of form is the one of what is wrong at the byte, and `NumberRange` exactly where a real out of range ends
pub record NamesFaultAtByte (tail : Tail) (byte : ℕ) (fault : TokenFault) : Type 0 where
  pub mode : Mode
  pub ends_in : EndsInMode tail mode
  pub fault_is : fault ≡ form_fault mode (advance mode byte)
  pub out_of_range : (fault ≡ NumberRange) ↔ EndsOutOfRange tail byte

-- the fault of bytes that may not end is the one of what is open, and `NumberRange` exactly where a real out of range ends
pub record NamesFaultAtEnd (tail : Tail) (fault : TokenFault) : Type 0 where
  pub mode : Mode
  pub ends_in : EndsInMode tail mode
  pub fault_is : fault ≡ end_fault mode
  pub out_of_range : (fault ≡ NumberRange) ↔ IsOutOfRangeTail tail

-- ---- the relation

-- a waiting token was given with the byte behind it, and its spelling is all that stands before that byte
pub record IsHandedOver (held : Held) (taken : List ℕ) (founds : List SizedToken) : Type 0 where
  pub start_is : state_of held ≡ start
  pub front : List SizedToken
  pub state : State
  pub last : FoundToken
  pub founds_are : founds ≡ front ++ record { found = last; size = state.size } ∷ []
  pub ended_is : ended_token state ≡ Some last
  pub read : lex start taken ≡ record { given = front; ending = open_at state }

-- bytes that go on with the byte that was seen
abbrev pub BeginsWithSeen : Option ℕ → List ℕ → Type 0
BeginsWithSeen None rest = Unit {0}
BeginsWithSeen (Some byte) [] = ⊥
BeginsWithSeen (Some byte) (first ∷ rest) = first ≡ byte

pub record IsLive (held : Held) (history : TokenHistory) : Type 0 where
  pub founds : List SizedToken
  pub lexemes : List Lexeme
  pub mean : MeanAll founds lexemes
  pub given_are : tokens_in lexemes ≡ history.given
  pub file_is : held.file ≡ length history.taken
  pub statement_is : held.statement ≡ open_bytes 0 lexemes
  pub statements_within : AreStatementsWithin (record_limit_of held) 0 lexemes
  pub reads : (rest : List ℕ) → BeginsWithSeen history.seen rest → lex start (history.taken ++ rest) ≡ after founds (rest_of held rest)
  pub seen_is : (history.seen ≡ None) ⊎ IsHandedOver held history.taken founds

-- what is held stands for a history: what it says is what `new`, `next` and `finish` say of it
unfoldable pub Stands : Held → TokenHistory → Type 0
Stands held history = (refusal_of held ≡ history.refusal) × (history.refusal ≡ None → IsLive held history) × IsPendingBehind history (pending_of held)

-- ---- the calls

-- what holds behind a call that answered
pub record Answers (held : Held) (history : TokenHistory) : Type 0 where
  pub stands : Stands held history
  pub given_first : AreGivenFirst history
  pub given_at_once : AreGivenAtOnce history
  pub given_few : length history.given ≤ length history.taken
  pub file_within : length history.taken ≤ file_limit_of held
  pub laid_within : IsLaidWithin (record_limit_of held) (pending_of held) history

-- why a call refuses the byte behind so many of the piece
abbrev pub Refuses : Held → TokenHistory → List ℕ → ℕ → TokenFault → Type 0
Refuses held history piece count fault = elim (cause_of fault) [
  | of_form ↦ AreDead (history.taken ++ take (count + 1) piece)
  | of_end ↦ ⊥
  | of_statement ↦ (byte : ℕ) × (slice_get piece count ≡ Some byte) × IsStatementFull (record_limit_of held) (history.taken ++ take count piece) byte × (length (history.taken ++ take (count + 1) piece) ≤ file_limit_of held)
  | of_file ↦ file_limit_of held < length (history.taken ++ take (count + 1) piece)
  | of_parameter ↦ ⊥
  | of_memory ↦ Unit {0}
]

-- no byte is refused so far: the states lead to an open one
pub record IsOpen (bytes : List ℕ) : Type 0 where
  pub founds : List SizedToken
  pub state : State
  pub reads : lex start bytes ≡ record { given = founds; ending = open_at state }

-- A call refuses a byte, for that reason, and none in front of it: up to it the states are open, and neither limit is
-- passed. The tokens given are laid in the bytes in front of it, up to a tail. Where several reasons meet, the first is
-- the answer: a token that the byte may follow, which is given; a real out of range that it ends; the limit of the file;
-- the limit of a statement; a fault of form
pub record RefusesAtByte (old : Held) (history : TokenHistory) (piece : List ℕ) (fault : TokenFault) (new : Held) : Type 0 where
  pub count : ℕ
  pub within : count < length piece
  pub byte : ℕ
  pub byte_is : slice_get piece count ≡ Some byte
  pub refuses : Refuses old history piece count fault
  pub is_open : IsOpen (history.taken ++ take count piece)
  pub file_is : new.file ≡ length (history.taken ++ take count piece)
  pub file_within : length (history.taken ++ take count piece) ≤ file_limit_of old
  pub lexemes : List Lexeme
  pub tail : Tail
  pub laid : LaidUpTo (history.taken ++ take count piece) lexemes tail
  pub given_are : tokens_in lexemes ≡ history.given
  pub statement_within : open_bytes 0 lexemes + tail_size tail ≤ record_limit_of old
  pub token_first : fault ≢ NoMemory → IsNoToken tail byte
  pub range_first : IsOfLimit fault → ¬ EndsOutOfRange tail byte
  pub file_first : IsOfForm fault → ¬ EndsOutOfRange tail byte → length (history.taken ++ take count piece) < file_limit_of old
  pub statement_first : IsOfForm fault → ¬ EndsOutOfRange tail byte → IsTokenByte tail byte → open_bytes 0 lexemes + tail_size tail < record_limit_of old
  pub names : IsOfForm fault → NamesFaultAtByte tail byte fault
  pub stands : Stands new (extended history (refused_call piece count fault))

-- what a call of `next` gives, for each history that the lexer stood for, where the caller offered first what was seen
abbrev pub NextGives : Held → List ℕ → Result (ℕ × Option TokenRead) TokenFault → Held → Type 0
NextGives old piece (Ok answer) new =
    (history : TokenHistory) → Stands old history → IsOfferedFirst history.seen piece → Answers new (extended history (call_of piece answer.0 (option_map meant answer.1)))
NextGives old piece (Err fault) new = (history : TokenHistory) → Stands old history → IsOfferedFirst history.seen piece → history.refusal ≡ None → RefusesAtByte old history piece fault new

-- a token of which no byte follows is given with its last byte: without that byte, the tokens given are not laid
pub record EndsAtOnce (taken : List ℕ) (given : List Token) : Type 0 where
  pub front : List ℕ
  pub byte : ℕ
  pub taken_are : taken ≡ front ++ byte ∷ []
  pub unlaid : Laid front given → ⊥

abbrev pub TakesNoMore : Held → List ℕ → Result (ℕ × Option TokenRead) TokenFault → Type 0
TakesNoMore old piece (Ok (count, Some token)) =
    (history : TokenHistory) → Stands old history → history.refusal ≡ None → IsOfferedFirst history.seen piece → waits (meant token) ≡ false
    → EndsAtOnce (history.taken ++ take count piece) (history.given ++ meant token ∷ [])
TakesNoMore old piece other = Unit {0}

-- what the end of the bytes gives, for each history that the lexer stood for, where all that was seen has been taken
abbrev pub FinishGives : Held → Result (Option TokenRead) TokenFault → Type 0
FinishGives held (Ok last) = (history : TokenHistory) → Stands held history → history.seen ≡ None → (history.refusal ≡ None) × Laid history.taken (history.given ++ meant_all last)
FinishGives held (Err NoMemory) = Unit {0}
FinishGives held (Err fault) = (history : TokenHistory) → Stands held history → history.seen ≡ None → history.refusal ≡ None → IsOfTheEnd fault × IsUnlaid history.taken

-- the tokens given are laid in the bytes, up to a tail in which these may not end
pub record EndsWithFault (history : TokenHistory) (fault : TokenFault) : Type 0 where
  pub lexemes : List Lexeme
  pub tail : Tail
  pub laid : LaidUpTo history.taken lexemes tail
  pub given_are : tokens_in lexemes ≡ history.given
  pub names : NamesFaultAtEnd tail fault

-- what is wrong where the end of the bytes is refused
abbrev pub FinishNamesFault : Held → Result (Option TokenRead) TokenFault → Type 0
FinishNamesFault held (Ok last) = Unit {0}
FinishNamesFault held (Err NoMemory) = Unit {0}
FinishNamesFault held (Err fault) = (history : TokenHistory) → Stands held history → history.seen ≡ None → history.refusal ≡ None → EndsWithFault history fault

-- bytes that stand between tokens by themselves
abbrev pub AreSeparators : List ℕ → Type 0
AreSeparators bytes = Each (λ byte. IsSeparator (blank byte)) bytes

-- between tokens, separators need no memory
abbrev pub NeedsNoMemory : Held → List ℕ → Result (ℕ × Option TokenRead) TokenFault → Type 0
NeedsNoMemory old piece result = (history : TokenHistory) → Stands old history → history.refusal ≡ None → pending_of old ≡ 0 → AreSeparators piece → result ≢ Err NoMemory

-- so many bytes of the piece at most; all of them, where no token is given
abbrev pub TakesWithinPiece : List ℕ → Result (ℕ × Option TokenRead) TokenFault → Type 0
TakesWithinPiece piece (Ok answer) = (answer.0 ≤ length piece) × (answer.1 ≡ None → answer.0 ≡ length piece)
TakesWithinPiece piece (Err fault) = Unit {0}

-- the limits of a lexer stay
abbrev pub KeepsLimits : Held → Held → Type 0
KeepsLimits old new = (record_limit_of new ≡ record_limit_of old) × (file_limit_of new ≡ file_limit_of old)

-- a lexer that has refused answers the same again, and stays as it is
abbrev pub RefusesAgain : Held → Result (ℕ × Option TokenRead) TokenFault → Held → Type 0
RefusesAgain old result new = (fault : TokenFault) → refusal_of old ≡ Some fault → (result ≡ Err fault) × (new ≡ old)
