-- What the parts of the lexer owe: how a byte, a run of bytes and a piece change what is held.
use Rattle.std.specs.Prelude.{◌≡◌, ◌≢◌, ℕ, ◌+◌, ◌≤◌, ◌<◌, Bool, true, false, if◌then◌else◌, List, [], ◌∷◌, ◌++◌, length, take, slice_get, Option, Some, None, Result, Ok, Err, OnErr}
use Rattle.std.specs.Option.{option_map}
use Rattle.p21_spec_exchange.specs.Number.{RealForm}
use Rattle.p21_spec_exchange.specs.Token as meaning
use Rattle.p21_spec_exchange.specs.Laying.{Lexeme, count_behind}
use Rattle.p21_tokens_automaton.specs.declared.mode.Mode.{Mode}
use Rattle.p21_tokens_automaton.specs.declared.mode.Mode.TheVariants.{Between, Slash, Comment, Star, Text}
use Rattle.p21_tokens_automaton.specs.declared.mode.Action.{Action}
use Rattle.p21_tokens_automaton.specs.declared.mode.Action.TheVariants.{Pass, Close, End, Refuse}
use Rattle.p21_scan.specs.Bytes.{is_blank}
use Rattle.p21_tokens_automaton.specs.Meaning.{Means, MeanAll}
use Rattle.p21_tokens_automaton.specs.Reading.{start, Answer, FoundToken, spelled, real, item, bits, SizedToken, ended_token, ended_token_in, closed_token, tokens_at_end, before, all_tokens, lex}
use Rattle.p21_tokens_automaton.specs.Step.{advance}
use Rattle.p21_tokens.specs.Fault.{Cause, of_form, of_end, of_statement, of_file, of_parameter, of_memory, cause_of, fault_of, IsOfForm, IsOfTheEnd}
use Rattle.p21_tokens.specs.Held.{Held, pending_of, state_of}
use Rattle.p21_tokens.specs.Token.{meant, waits}
use Rattle.p21_tokens.specs.declared.fault.TokenFault.{TokenFault}
use Rattle.p21_tokens.specs.declared.fault.TokenFault.TheVariants.{BadByte, OpenString, OpenComment, NumberRange, BadBinary, EndsEarly, NoMemory}
use Rattle.p21_tokens.specs.declared.step.Outcome.{Outcome}
use Rattle.p21_tokens.specs.declared.step.Outcome.TheVariants.{Took, Gave, Handed}
use Rattle.p21_tokens.specs.declared.token.Token.{Token}

-- no token is open
abbrev pub is_gap : Mode → Bool
is_gap Between = true
is_gap Slash = true
is_gap Comment = true
is_gap Star = true
is_gap other = false

abbrev pub is_slash : Mode → Bool
is_slash Slash = true
is_slash other = false

-- the byte counts as one of a token
abbrev pub is_token_byte : Mode → Action → Bool
is_token_byte mode (Pass next) = false
is_token_byte mode (Refuse wrong) = if is_slash mode then false else true
is_token_byte mode other = true

-- what the rest of the bytes gives
abbrev pub rest_of : Held → List ℕ → Answer
rest_of held bytes = lex (state_of held) bytes

-- no tokens are laid in bytes that go on so
abbrev pub IsDeadAt : Held → List ℕ → Type 0
IsDeadAt held bytes = (rest : List ℕ) (founds : List SizedToken) (lexemes : List Lexeme) → all_tokens (rest_of held (bytes ++ rest)) ≡ Some founds → MeanAll founds lexemes → ⊥

-- a refusal of form, only where what is found means no token; memory may run out
abbrev pub MeansNoToken : Option FoundToken → Cause → Type 0
MeansNoToken None of_form = Unit {0}
MeansNoToken (Some found) of_form = (token : meaning.Token) → Means found token → ⊥
MeansNoToken found of_end = ⊥
MeansNoToken found of_statement = ⊥
MeansNoToken found of_file = ⊥
MeansNoToken found of_parameter = ⊥
MeansNoToken found of_memory = Unit {0}

-- the fault of what is found and means no token, where only some of it can be so; `none` where nothing is found
abbrev pub IsFaultOf : TokenFault → Option FoundToken → TokenFault → Type 0
IsFaultOf none None fault = fault ≡ none
IsFaultOf none (Some (spelled real spelling)) fault = RealForm spelling → fault ≡ NumberRange
IsFaultOf none (Some (spelled item spelling)) fault = fault ≡ none
IsFaultOf none (Some (spelled bits spelling)) fault = fault ≡ BadBinary
IsFaultOf none (Some other) fault = Unit {0}

-- what is found means the token; a refusal, memory apart, only where it means none
abbrev pub ReadsFound : Option FoundToken → Result Token TokenFault → Type 0
ReadsFound None (Ok token) = ⊥
ReadsFound (Some found) (Ok token) = Means found (meant token)
ReadsFound found (Err fault) = MeansNoToken found (cause_of fault) × (IsOfForm fault → IsFaultOf BadByte found fault)

-- no token that means something is left, and the bytes do not end between tokens
abbrev pub MayNotEnd : Mode → List ℕ → List ℕ → Type 0
MayNotEnd mode pending_bytes characters = (size : ℕ) (founds : List SizedToken) (lexemes : List Lexeme) → tokens_at_end (ended_token_in mode pending_bytes characters) mode size ≡ Some founds → MeanAll founds lexemes → ⊥

-- the fault of bytes that end here
abbrev pub IsFaultAtEnd : Mode → List ℕ → List ℕ → TokenFault → Type 0
IsFaultAtEnd Slash pending_bytes characters fault = fault ≡ EndsEarly
IsFaultAtEnd Comment pending_bytes characters fault = fault ≡ OpenComment
IsFaultAtEnd Star pending_bytes characters fault = fault ≡ OpenComment
IsFaultAtEnd (Text mode) pending_bytes characters fault = fault ≡ OpenString
IsFaultAtEnd mode pending_bytes characters fault = IsFaultOf EndsEarly (ended_token_in mode pending_bytes characters) fault

-- the token that the end of the bytes leaves
abbrev pub ReadsEnd : Mode → List ℕ → List ℕ → Result (Option Token) TokenFault → Type 0
ReadsEnd mode pending_bytes characters (Ok None) = mode ≡ Between
ReadsEnd mode pending_bytes characters (Ok (Some token)) = (found : FoundToken) × (ended_token_in mode pending_bytes characters ≡ Some found) × Means found (meant token)
ReadsEnd mode pending_bytes characters (Err NoMemory) = Unit {0}
ReadsEnd mode pending_bytes characters (Err fault) = IsOfTheEnd fault × MayNotEnd mode pending_bytes characters × IsFaultAtEnd mode pending_bytes characters fault

-- the limits and the refusal stay
pub record SameLimits (old new : Held) : Type 0 where
  pub statement_limit : new.statement_limit ≡ old.statement_limit
  pub file_limit : new.file_limit ≡ old.file_limit
  pub refused : new.refused ≡ old.refused

-- as many token bytes are pending, and as many bytes of the file are taken, which is what a refusal leaves
pub record SameCounts (old new : Held) : Type 0 where
  pub pending : pending_of new ≡ pending_of old
  pub file : new.file ≡ old.file

-- memory ran out
abbrev pub LacksMemory : {Answer : Type 0} → Held → Result Answer TokenFault → Held → Type 0
LacksMemory {Answer = Answer} old result new = OnErr result ((result ≡ Err NoMemory) × SameLimits old new × SameCounts old new)

-- what is held behind so many bytes of a token, with these pending
abbrev pub with_pending_bytes : Held → Mode → List ℕ → ℕ → Held
with_pending_bytes old mode bytes count = record old { mode = mode; pending_bytes = old.pending_bytes ++ bytes; size = old.size + count; file = old.file + count }

-- what is held behind so many bytes of a string, with these characters known
abbrev pub with_characters : Held → Mode → List ℕ → ℕ → Held
with_characters old mode characters count =
    record old { mode = mode; characters = old.characters ++ characters; size = old.size + count; file = old.file + count }

-- what is held behind a token of which nothing is open any more
abbrev pub behind_token : Held → ℕ → ℕ → Held
behind_token old statement file = record old { mode = Between; pending_bytes = []; characters = []; size = 0; statement = statement; file = file }

-- a byte that is kept and ends the token
abbrev pub ClosesToken : Held → ℕ → Result Token TokenFault → Held → Type 0
ClosesToken old byte (Ok token) new = ReadsFound (closed_token old.mode (old.pending_bytes ++ byte ∷ [])) (Ok token) × (new ≡ behind_token old (old.statement + (old.size + 1)) (old.file + 1))
ClosesToken old byte (Err fault) new = ReadsFound (closed_token old.mode (old.pending_bytes ++ byte ∷ [])) (Err fault) × SameLimits old new × SameCounts old new

-- the token that a byte behind it ends
abbrev pub EndsToken : Held → Result Token TokenFault → Held → Type 0
EndsToken old (Ok token) new = ReadsFound (ended_token (state_of old)) (Ok token) × (new ≡ behind_token old (old.statement + old.size) old.file) × (pending_of old ≤ old.statement_limit)
EndsToken old (Err fault) new = ReadsFound (ended_token (state_of old)) (Err fault) × SameLimits old new × SameCounts old new

-- the byte ends no token that means something
abbrev pub EndsNoMeantToken : Held → ℕ → Type 0
EndsNoMeantToken held byte = advance held.mode byte ≡ End → (found : FoundToken) (token : meaning.Token) → ended_token (state_of held) ≡ Some found → Means found token → ⊥

-- a byte that ends no token passes neither limit
abbrev pub IsInLimits : Held → ℕ → Type 0
IsInLimits held byte = advance held.mode byte ≢ End → (held.file < held.file_limit) × (is_token_byte held.mode (advance held.mode byte) ≡ true → pending_of held < held.statement_limit)

-- the fault of form of what a byte does, with what is known of the token that it ends
abbrev pub IsFaultAt : Held → ℕ → Action → TokenFault → Type 0
IsFaultAt held byte (Refuse wrong) fault = fault ≡ fault_of wrong
IsFaultAt held byte End fault = IsFaultOf BadByte (ended_token (state_of held)) fault
IsFaultAt held byte Close fault = IsFaultOf BadByte (closed_token held.mode (held.pending_bytes ++ byte ∷ [])) fault
IsFaultAt held byte other fault = fault ≡ BadByte

-- why a byte is refused
abbrev pub RefusesByte : Held → ℕ → TokenFault → Type 0
RefusesByte held byte fault = elim (cause_of fault) [
  | of_form ↦ IsDeadAt held (byte ∷ []) × EndsNoMeantToken held byte × IsInLimits held byte × IsFaultAt held byte (advance held.mode byte) fault
  | of_end ↦ ⊥
  | of_statement ↦ (held.statement_limit ≤ pending_of held) × (is_token_byte held.mode (advance held.mode byte) ≡ true) × (advance held.mode byte ≢ End) × (held.file < held.file_limit)
  | of_file ↦ (held.file_limit ≤ held.file) × (advance held.mode byte ≢ End)
  | of_parameter ↦ ⊥
  | of_memory ↦ is_gap held.mode ≡ true → is_blank byte ≡ true → ⊥
]

-- a byte that gave no token
pub record Takes (old : Held) (byte : ℕ) (new : Held) : Type 0 where
  pub file_is : new.file ≡ old.file + 1
  pub statement_is : new.statement ≡ old.statement
  pub rest_is : (rest : List ℕ) → rest_of old (byte ∷ rest) ≡ rest_of new rest
  pub gap : is_gap old.mode ≡ true → is_blank byte ≡ true → is_gap new.mode ≡ true

-- a byte with which a token is given
pub record GivesToken (old : Held) (byte : ℕ) (token : meaning.Token) (new : Held) : Type 0 where
  pub found : SizedToken
  pub means : Means found.found token
  pub at_once : waits token ≡ false
  pub within : old.statement + found.size ≤ old.statement_limit
  pub file_is : new.file ≡ old.file + 1
  pub statement_is : new.statement ≡ count_behind old.statement (record { token = token; size = found.size })
  pub start_is : state_of new ≡ start
  pub rest_is : (rest : List ℕ) → rest_of old (byte ∷ rest) ≡ before found (rest_of new rest)

-- a byte that ends the token in front of it, and is not taken
pub record HandsOverToken (old : Held) (byte : ℕ) (token : meaning.Token) (new : Held) : Type 0 where
  pub found : FoundToken
  pub means : Means found token
  pub waited : waits token ≡ true
  pub ended_is : ended_token (state_of old) ≡ Some found
  pub within : pending_of old ≤ old.statement_limit
  pub file_is : new.file ≡ old.file
  pub statement_is : new.statement ≡ old.statement + old.size
  pub start_is : state_of new ≡ start
  pub rest_is : (rest : List ℕ) → rest_of old (byte ∷ rest) ≡ before (record { found = found; size = old.size }) (rest_of new (byte ∷ rest))

abbrev pub Steps : Held → ℕ → Result Outcome TokenFault → Held → Type 0
Steps old byte (Ok Took) new = SameLimits old new × Takes old byte new
Steps old byte (Ok (Gave token)) new = SameLimits old new × GivesToken old byte (meant token) new
Steps old byte (Ok (Handed token)) new = SameLimits old new × HandsOverToken old byte (meant token) new
Steps old byte (Err fault) new = SameLimits old new × RefusesByte old byte fault × SameCounts old new

-- separator bytes, as a test
abbrev pub AreBlank : List ℕ → Type 0
AreBlank [] = Unit {0}
AreBlank (byte ∷ bytes) = (is_blank byte ≡ true) × AreBlank bytes

-- a run of bytes that gave no token
pub record TakesRun (old : Held) (bytes : List ℕ) (new : Held) : Type 0 where
  pub file_is : new.file ≡ old.file + length bytes
  pub statement_is : new.statement ≡ old.statement
  pub rest_is : (rest : List ℕ) → rest_of old (bytes ++ rest) ≡ rest_of new rest
  pub gap : is_gap old.mode ≡ true → AreBlank bytes → is_gap new.mode ≡ true

-- how many bytes at the front were taken as a run, which needs memory only inside a token
abbrev pub Runs : Held → List ℕ → Result ℕ TokenFault → Held → Type 0
Runs old piece (Ok count) new = (count ≤ length piece) × SameLimits old new × TakesRun old (take count piece) new
Runs old piece (Err fault) new = (fault ≡ NoMemory) × SameLimits old new × (is_gap old.mode ≡ true → ⊥) × SameCounts old new

-- bytes behind which a token was given with the last of them, or by the byte behind them
pub data ScansToken (old : Held) (bytes : List ℕ) (behind : Option ℕ) (token : meaning.Token) (new : Held) : Type 0 where
  gave : (middle : Held) (front : List ℕ) (byte : ℕ) → SameLimits old middle → TakesRun old front middle → GivesToken middle byte token new → bytes ≡ front ++ byte ∷ [] → ScansToken old bytes behind token new
  handed : (middle : Held) (byte : ℕ) → SameLimits old middle → TakesRun old bytes middle → HandsOverToken middle byte token new → behind ≡ Some byte → ScansToken old bytes behind token new

-- what a scan of a piece leaves: the piece taken whole, or the bytes up to a token, and the byte behind it where that was seen
abbrev pub Scanned : Held → List ℕ → ℕ → Option meaning.Token → Held → Type 0
Scanned old piece count None new = (count ≡ length piece) × TakesRun old piece new
Scanned old piece count (Some token) new = (count ≤ length piece) × ScansToken old (take count piece) (slice_get piece count) token new

-- why a byte of the piece is refused, behind so many that were taken
abbrev pub RefusesAt : Held → List ℕ → TokenFault → Held → Type 0
RefusesAt old piece fault new =
    (middle : Held) × (count byte : ℕ) × (slice_get piece count ≡ Some byte) × SameLimits old middle × TakesRun old (take count piece) middle × SameLimits old new × RefusesByte middle byte fault × SameCounts middle new

-- what a run of bytes or one byte leaves: some bytes taken, or those up to a token
abbrev pub Walks : Held → List ℕ → Result (ℕ × Option Token) TokenFault → Held → Type 0
Walks old bytes (Ok (count, None)) new = (0 < count) × Runs old bytes (Ok count) new
Walks old bytes (Ok (count, Some token)) new = SameLimits old new × Scanned old bytes count (Some (meant token)) new
Walks old bytes (Err fault) new = RefusesAt old bytes fault new

abbrev pub Scans : Held → List ℕ → Result (ℕ × Option Token) TokenFault → Held → Type 0
Scans old piece (Ok answer) new = SameLimits old new × Scanned old piece answer.0 (option_map meant answer.1) new
Scans old piece (Err fault) new = RefusesAt old piece fault new
