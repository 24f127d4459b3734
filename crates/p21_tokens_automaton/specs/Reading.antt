-- The tokens that a whole byte list gives, read byte by byte: a plain function between the states of the reader and the
-- tokens that are laid in the bytes, which nobody has to believe.
use Rattle.std.specs.Prelude.{ℕ, ◌+◌, List, [], ◌∷◌, ◌++◌, if◌then◌else◌, Option, Some, None, codes}
use Rattle.std.specs.Str.{bytes_eq}
use Rattle.p21_spec_exchange.specs.Token.{Token, begin, finish, name, text, left, right, comma, semicolon, equals, dollar, star}
use Rattle.p21_tokens_automaton.specs.Step.{advance}
use Rattle.p21_tokens_automaton.specs.declared.mode.Mode.{Mode}
use Rattle.p21_tokens_automaton.specs.declared.mode.Mode.TheVariants.{Between, Number, Word, Name, Binary, Text}
use Rattle.p21_tokens_automaton.specs.declared.mode.NumberMode.{NumberMode}
use Rattle.p21_tokens_automaton.specs.declared.mode.NumberMode.TheVariants as number
use Rattle.p21_tokens_automaton.specs.declared.mode.WordMode.{WordMode}
use Rattle.p21_tokens_automaton.specs.declared.mode.WordMode.TheVariants as word
use Rattle.p21_tokens_automaton.specs.declared.mode.Marker.{Marker}
use Rattle.p21_tokens_automaton.specs.declared.mode.Marker.TheVariants.{Begin, Finish}
use Rattle.p21_tokens_automaton.specs.declared.mode.NameMode.{NameMode}
use Rattle.p21_tokens_automaton.specs.declared.mode.NameMode.TheVariants as name_mode
use Rattle.p21_tokens_automaton.specs.declared.mode.TextMode.{TextMode}
use Rattle.p21_tokens_automaton.specs.declared.mode.TextMode.TheVariants as text_mode
use Rattle.p21_tokens_automaton.specs.declared.mode.Single.{Single}
use Rattle.p21_tokens_automaton.specs.declared.mode.Single.TheVariants as single
use Rattle.p21_tokens_automaton.specs.declared.mode.Wrong.{Wrong}
use Rattle.p21_tokens_automaton.specs.declared.mode.Wrong.TheVariants as wrong
use Rattle.p21_tokens_automaton.specs.declared.mode.Action.{Action}
use Rattle.p21_tokens_automaton.specs.declared.mode.Action.TheVariants.{Pass, Skip, Keep, Put, Give, Close, End, Dash, Refuse}

-- classes of tokens whose value is read from the pending bytes
pub data TokenClass : Type 0 where
  keyword : TokenClass
  user_keyword : TokenClass
  whole : TokenClass
  real : TokenClass
  item : TokenClass
  bits : TokenClass

-- a token that is known, or one by its kind and its spelling
pub data FoundToken : Type 0 where
  known : Token → FoundToken
  spelled : TokenClass → List ℕ → FoundToken

-- a token, and how many bytes its spelling has
pub record SizedToken : Type 0 where
  pub found : FoundToken
  pub size : ℕ

-- where the reader stands, the pending bytes and the characters of the open token, and how many bytes of it are taken
pub record State : Type 0 where
  pub mode : Mode
  pub pending_bytes : List ℕ
  pub characters : List ℕ
  pub size : ℕ

abbrev pub start : State
start = record { mode = Between; pending_bytes = []; characters = []; size = 0 }

abbrev pub pass : State → Mode → State
pass s mode = record { mode = mode; pending_bytes = s.pending_bytes; characters = s.characters; size = s.size }

abbrev pub skip : State → Mode → State
skip s mode = record { mode = mode; pending_bytes = s.pending_bytes; characters = s.characters; size = s.size + 1 }

abbrev pub keep : State → Mode → ℕ → State
keep s mode byte = record { mode = mode; pending_bytes = s.pending_bytes ++ byte ∷ []; characters = s.characters; size = s.size + 1 }

abbrev pub put : State → Mode → ℕ → State
put s mode character = record { mode = mode; pending_bytes = s.pending_bytes; characters = s.characters ++ character ∷ []; size = s.size + 1 }

-- how the bytes end: refused, or in a state
pub data Ending : Type 0 where
  stopped : Wrong → Ending
  open_at : State → Ending

pub record Answer : Type 0 where
  pub given : List SizedToken
  pub ending : Ending

abbrev pub without_tokens : Ending → Answer
without_tokens ending = record { given = []; ending = ending }

-- a token in front of those of an answer
abbrev pub before : SizedToken → Answer → Answer
before token answer = record { given = token ∷ answer.given; ending = answer.ending }

-- tokens in front of those of an answer
abbrev pub after : List SizedToken → Answer → Answer
after tokens answer = record { given = tokens ++ answer.given; ending = answer.ending }

abbrev pub single_token : Single → Token
single_token single.Left = left
single_token single.Right = right
single_token single.Comma = comma
single_token single.Semicolon = semicolon
single_token single.Equals = equals
single_token single.Dollar = dollar
single_token single.Star = star

abbrev pub marker_token : Marker → Token
marker_token Begin = begin
marker_token Finish = finish

-- the number that a byte behind it ends
abbrev pub ended_number : NumberMode → List ℕ → Option FoundToken
ended_number number.Whole pending_bytes = Some (spelled whole pending_bytes)
ended_number number.Fraction pending_bytes = Some (spelled real pending_bytes)
ended_number number.ExponentDigits pending_bytes = Some (spelled real pending_bytes)
ended_number other pending_bytes = None

-- the keyword or marker that a byte behind it ends
abbrev pub ended_word : WordMode → List ℕ → Option FoundToken
ended_word word.Keyword pending_bytes = Some (spelled keyword pending_bytes)
ended_word (word.Marked marker) pending_bytes = Some (known (marker_token marker))
ended_word word.UserKeyword pending_bytes = Some (spelled user_keyword pending_bytes)
ended_word other pending_bytes = None

abbrev pub ended_name : NameMode → Option FoundToken
ended_name name_mode.Hash = None
ended_name (name_mode.Digits value) = Some (known (name value))

abbrev pub ended_text : TextMode → List ℕ → Option FoundToken
ended_text text_mode.Apostrophe characters = Some (known (text characters))
ended_text other characters = None

-- the token that a byte behind it ends
abbrev pub ended_token_in : Mode → List ℕ → List ℕ → Option FoundToken
ended_token_in (Number mode) pending_bytes characters = ended_number mode pending_bytes
ended_token_in (Word mode) pending_bytes characters = ended_word mode pending_bytes
ended_token_in (Name mode) pending_bytes characters = ended_name mode
ended_token_in (Text mode) pending_bytes characters = ended_text mode characters
ended_token_in other pending_bytes characters = None

abbrev pub ended_token : State → Option FoundToken
ended_token s = ended_token_in s.mode s.pending_bytes s.characters

-- the token that its own last byte ends
abbrev pub closed_token : Mode → List ℕ → Option FoundToken
closed_token (Word mode) pending_bytes = Some (spelled item pending_bytes)
closed_token (Binary mode) pending_bytes = Some (spelled bits pending_bytes)
closed_token other pending_bytes = None

-- the marker that a `-` behind these keyword bytes belongs to
abbrev pub marker_of : List ℕ → Option Mode
marker_of pending_bytes =
    if bytes_eq pending_bytes (codes "ISO") then Some (Word (word.Marker Begin 4))
    else if bytes_eq pending_bytes (codes "END") then Some (Word (word.Marker Finish 4))
    else None

abbrev pub Continuation : Type 0
Continuation = State → Answer

-- a token of this size, if there is one, in front
abbrev pub with_token_in_front : Option FoundToken → ℕ → Answer → Answer
with_token_in_front None size answer = without_tokens (stopped wrong.Byte)
with_token_in_front (Some found) size answer = before (record { found = found; size = size }) answer

abbrev pub continue_marker : Option Mode → State → ℕ → Continuation → Answer
continue_marker None s byte go = without_tokens (stopped wrong.Byte)
continue_marker (Some mode) s byte go = go (keep s mode byte)

-- a byte between tokens, which ends none
abbrev pub first : Action → ℕ → Continuation → Answer
first (Pass mode) byte go = go (pass start mode)
first (Skip mode) byte go = go (skip start mode)
first (Keep mode) byte go = go (keep start mode byte)
first (Put mode character) byte go = go (put start mode character)
first (Give one) byte go = before (record { found = known (single_token one); size = 1 }) (go start)
first (Refuse wrong) byte go = without_tokens (stopped wrong)
first other byte go = without_tokens (stopped wrong.Byte)

-- what a byte does
abbrev pub act : Action → State → ℕ → Continuation → Answer
act (Pass mode) s byte go = go (pass s mode)
act (Skip mode) s byte go = go (skip s mode)
act (Keep mode) s byte go = go (keep s mode byte)
act (Put mode character) s byte go = go (put s mode character)
act (Give one) s byte go = before (record { found = known (single_token one); size = 1 }) (go start)
act Close s byte go = with_token_in_front (closed_token s.mode (s.pending_bytes ++ byte ∷ [])) (s.size + 1) (go start)
act End s byte go = with_token_in_front (ended_token s) s.size (first (advance Between byte) byte go)
act Dash s byte go = continue_marker (marker_of s.pending_bytes) s byte go
act (Refuse wrong) s byte go = without_tokens (stopped wrong)

-- the tokens of these bytes, from a state on
unfoldable pub lex : State → List ℕ → Answer
lex s [] = without_tokens (open_at s)
lex s (byte ∷ bytes) = act (advance s.mode byte) s byte (λ next. lex next bytes)

-- the tokens that the end of the bytes leaves, where it may stand
abbrev pub tokens_at_end : Option FoundToken → Mode → ℕ → Option (List SizedToken)
tokens_at_end (Some found) mode size = Some (record { found = found; size = size } ∷ [])
tokens_at_end None Between size = Some []
tokens_at_end None other size = None

abbrev pub at_end : Ending → Option (List SizedToken)
at_end (stopped wrong) = None
at_end (open_at s) = tokens_at_end (ended_token s) s.mode s.size

-- all tokens, the one that the end of the bytes ends among them, if the bytes may end there
abbrev pub with_last_tokens : List SizedToken → Option (List SizedToken) → Option (List SizedToken)
with_last_tokens given None = None
with_last_tokens given (Some last) = Some (given ++ last)

abbrev pub all_tokens : Answer → Option (List SizedToken)
all_tokens answer = with_last_tokens answer.given (at_end answer.ending)
