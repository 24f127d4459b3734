-- The bytes of an open token that lead to a state: what each state says of the bytes behind it.
use Rattle.std.proofs.Common.{◌≡◌, ℕ, ◌^◌, ◌<◌, ◌≤◌, List, [], ◌∷◌, ◌++◌, length, take, Some}
use Rattle.p21_spec_basics.specs.Digits.{AllDigits, number}
use Rattle.p21_spec_exchange.specs.Token.{Token, Spells, MayFollow}
use Rattle.p21_tokens_automaton.proofs.TextFits.{TextFits}
use Rattle.p21_spec_exchange.specs.Keyword.{IsKeyword}
use Rattle.p21_spec_exchange.specs.Number.{Sign, sign_bytes}
use Rattle.p21_tokens_automaton.specs.Meaning.{Means, IsOutOfRange}
use Rattle.p21_tokens_automaton.specs.Step.{marker_text}
use Rattle.p21_tokens_automaton.specs.Reading.{FoundToken, ended_token, closed_token, marker_of}
use Rattle.p21_tokens_automaton.specs.declared.mode.Mode.{Mode}
use Rattle.p21_tokens_automaton.specs.declared.mode.Mode.TheVariants.{Number, Word, Name, Binary, Text}
use Rattle.p21_tokens_automaton.specs.declared.mode.NumberMode.{NumberMode}
use Rattle.p21_tokens_automaton.specs.declared.mode.NumberMode.TheVariants as number_mode
use Rattle.p21_tokens_automaton.specs.declared.mode.WordMode.{WordMode}
use Rattle.p21_tokens_automaton.specs.declared.mode.WordMode.TheVariants as word_mode
use Rattle.p21_tokens_automaton.specs.declared.mode.NameMode.{NameMode}
use Rattle.p21_tokens_automaton.specs.declared.mode.NameMode.TheVariants as name_mode
use Rattle.p21_tokens_automaton.specs.declared.mode.Action.{Action}
use Rattle.p21_tokens_automaton.specs.declared.mode.Action.TheVariants.{Pass, Skip, Keep, Put, Give, Close, End, Dash, Refuse}

-- an `E` stands somewhere
abbrev pub HasExponentMark : List ℕ → Type 0
HasExponentMark bytes = (before behind : List ℕ) × (bytes ≡ before ++ 69 ∷ behind)

-- a sign or none, and digits
pub record IsInteger (bytes : List ℕ) : Type 0 where
  pub sign : Sign
  pub digits : List ℕ
  pub bytes_are : bytes ≡ sign_bytes sign ++ digits
  pub some_digits : 0 < length digits
  pub are_digits : AllDigits digits

-- a sign or none, digits, a point, and digits or none
pub record IsPlainReal (bytes : List ℕ) : Type 0 where
  pub sign : Sign
  pub whole : List ℕ
  pub fraction : List ℕ
  pub bytes_are : bytes ≡ sign_bytes sign ++ (whole ++ (46 ∷ fraction))
  pub some_digits : 0 < length whole
  pub are_digits : AllDigits whole
  pub are_fraction_digits : AllDigits fraction

-- a real with an exponent of these digits
pub record HasExponent (bytes : List ℕ) : Type 0 where
  pub real : List ℕ
  pub is_real : IsPlainReal real
  pub sign : Sign
  pub digits : List ℕ
  pub bytes_are : bytes ≡ real ++ (69 ∷ (sign_bytes sign ++ digits))
  pub some_digits : 0 < length digits
  pub are_digits : AllDigits digits

abbrev pub NumberFits : NumberMode → List ℕ → Type 0
NumberFits number_mode.Sign front = (sign : Sign) × (front ≡ sign_bytes sign)
NumberFits number_mode.Whole front = IsInteger front
NumberFits number_mode.Fraction front = IsPlainReal front
NumberFits number_mode.Exponent front = (real : List ℕ) × IsPlainReal real × (front ≡ real ++ (69 ∷ []))
NumberFits number_mode.ExponentSign front = (real : List ℕ) × IsPlainReal real × (sign : Sign) × (front ≡ real ++ (69 ∷ sign_bytes sign))
NumberFits number_mode.ExponentDigits front = HasExponent front

abbrev pub WordFits : WordMode → List ℕ → Type 0
WordFits word_mode.Keyword front = IsKeyword front
WordFits word_mode.Exclamation front = front ≡ 33 ∷ []
WordFits word_mode.UserKeyword front = (word : List ℕ) × (front ≡ 33 ∷ word) × IsKeyword word
WordFits (word_mode.Marker marker taken) front = (front ≡ take taken (marker_text marker)) × (taken ≤ length (marker_text marker))
WordFits (word_mode.Marked marker) front = front ≡ marker_text marker
WordFits other front = Unit {0}

abbrev pub NameFits : NameMode → List ℕ → Type 0
NameFits name_mode.Hash front = front ≡ 35 ∷ []
NameFits (name_mode.Digits value) front =
    (digits : List ℕ) × (front ≡ 35 ∷ digits) × (0 < length digits) × AllDigits digits × (value ≡ number digits) × (value < 2 ^ 64)

-- the bytes of an open token lead to this mode, these kept bytes and these characters
abbrev pub ModeFits : Mode → List ℕ → List ℕ → List ℕ → Type 0
ModeFits (Number mode) pending_bytes characters front = (pending_bytes ≡ front) × NumberFits mode front
ModeFits (Word mode) pending_bytes characters front = (pending_bytes ≡ front) × WordFits mode front
ModeFits (Name mode) pending_bytes characters front = NameFits mode front
ModeFits (Binary mode) pending_bytes characters front = pending_bytes ≡ front
ModeFits (Text mode) pending_bytes characters front = TextFits mode characters front
ModeFits other pending_bytes characters front = ⊥

-- the token of such a mode, if it has one, is spelled by these bytes
abbrev pub EndFits : Mode → List ℕ → List ℕ → List ℕ → Type 0
EndFits mode pending_bytes characters front =
    (found : FoundToken) (token : Token) → ended_token (record { mode = mode; pending_bytes = pending_bytes; characters = characters; size = length front }) ≡ Some found → Means found token → Spells token front

-- the byte behind them may follow the token of such a mode; if there is no token, they are a real out of range
pub record EndsBefore (mode : Mode) (pending_bytes characters front : List ℕ) (byte : ℕ) : Type 0 where
  pub follows : (found : FoundToken) (token : Token) → ended_token (record { mode = mode; pending_bytes = pending_bytes; characters = characters; size = length front }) ≡ Some found → Means found token → MayFollow token front byte
  pub no_token : ((found : FoundToken) (token : Token) → ended_token (record { mode = mode; pending_bytes = pending_bytes; characters = characters; size = length front }) ≡ Some found → Means found token → ⊥) → IsOutOfRange front byte

-- what an action makes of them
abbrev pub StepFits : Mode → List ℕ → List ℕ → List ℕ → ℕ → Action → Type 0
StepFits mode pending_bytes characters front byte (Pass next) = ⊥
StepFits mode pending_bytes characters front byte (Skip next) = ModeFits next pending_bytes characters (front ++ byte ∷ [])
StepFits mode pending_bytes characters front byte (Keep next) = ModeFits next (pending_bytes ++ byte ∷ []) characters (front ++ byte ∷ [])
StepFits mode pending_bytes characters front byte (Put next character) = ModeFits next pending_bytes (characters ++ character ∷ []) (front ++ byte ∷ [])
StepFits mode pending_bytes characters front byte (Give one) = ⊥
StepFits mode pending_bytes characters front byte Close =
    (found : FoundToken) (token : Token) → closed_token mode (pending_bytes ++ byte ∷ []) ≡ Some found → Means found token → Spells token (front ++ byte ∷ [])
StepFits mode pending_bytes characters front byte End = EndsBefore mode pending_bytes characters front byte
StepFits mode pending_bytes characters front byte Dash = (next : Mode) → marker_of pending_bytes ≡ Some next → ModeFits next (pending_bytes ++ byte ∷ []) characters (front ++ byte ∷ [])
StepFits mode pending_bytes characters front byte (Refuse wrong) = Unit {0}
