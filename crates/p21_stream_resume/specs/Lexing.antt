-- Where a lexer stands behind bytes, and when it stands in a string (this project's own, on the tokens of ISO 10303-21).
use Rattle.std.specs.Prelude.{◌≡◌, ℕ, ◌==◌, if◌then◌else◌, List}
use Rattle.p21_spec_exchange.specs.Laying.{Lexeme}
use Rattle.p21_tokens_automaton.specs.Meaning.{MeanAll}
use Rattle.p21_tokens_automaton.specs.Reading.{State, lex, open_at, start}
use Rattle.p21_tokens_automaton.specs.Step.{advance}
use Rattle.p21_tokens_automaton.specs.declared.mode.Action.{Action}
use Rattle.p21_tokens_automaton.specs.declared.mode.Action.TheVariants.{Pass, Skip, Keep, Put, End, Dash}
use Rattle.p21_tokens_automaton.specs.declared.mode.Marker.{Marker}
use Rattle.p21_tokens_automaton.specs.declared.mode.Marker.TheVariants.{Begin, Finish}
use Rattle.p21_tokens_automaton.specs.declared.mode.Mode.{Mode}
use Rattle.p21_tokens_automaton.specs.declared.mode.Mode.TheVariants.{Between, Comment, Star, Text, Word}
use Rattle.p21_tokens_automaton.specs.declared.mode.TextMode.TheVariants as text_mode
use Rattle.p21_tokens_automaton.specs.declared.mode.WordMode.TheVariants as word_mode

-- from a state on the bytes lead to this one, and none of them is refused
abbrev pub LeadsTo : State → List ℕ → State → Type 0
LeadsTo s bytes e = (lex s bytes).ending ≡ open_at e

-- a lexer takes the bytes and stands there behind them; the tokens found in them have a meaning
pub record AreLexed (bytes : List ℕ) (e : State) : Type 0 where
  pub leads : LeadsTo start bytes e
  pub lexemes : List Lexeme
  pub mean : MeanAll (lex start bytes).given lexemes

-- a string is open, and not behind the apostrophe that ends it
abbrev pub IsInString : Mode → Type 0
IsInString (Text text_mode.Apostrophe) = ⊥
IsInString (Text mode) = Unit {0}
IsInString other = ⊥

-- a remark is open
abbrev pub IsInRemark : Mode → Type 0
IsInRemark Comment = Unit {0}
IsInRemark Star = Unit {0}
IsInRemark other = ⊥

-- where a byte between tokens leads, by what it does
abbrev pub mode_first : Action → Mode
mode_first (Pass mode) = mode
mode_first (Skip mode) = mode
mode_first (Keep mode) = mode
mode_first (Put mode character) = mode
mode_first other = Between

-- where any byte leads; a `-` to this marker
abbrev pub mode_behind : Action → ℕ → Mode → Mode
mode_behind End byte marked = mode_first (advance Between byte)
mode_behind Dash byte marked = marked
mode_behind action byte marked = mode_first action

-- the marker that a `-` behind this byte belongs to, where it belongs to one
abbrev pub marker_by : ℕ → Marker
marker_by last = if last == 79 then Begin else Finish

-- where a byte leads from a mode, by the byte in front of it
abbrev pub mode_on : Mode → ℕ → ℕ → Mode
mode_on mode last byte = mode_behind (advance mode byte) byte (Word (word_mode.Marker (marker_by last) 4))
