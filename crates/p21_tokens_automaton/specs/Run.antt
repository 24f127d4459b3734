-- Bytes at the front that a reader takes all alike, and that leave it where it stands.
use Rattle.std.specs.Prelude.{◌≡◌, ℕ, ◌+◌, ◌-◌, ◌*◌, ◌^◌, ◌<◌, ◌≤◌, true, List, [], ◌∷◌, length, take, slice_index}
use Rattle.p21_scan.specs.Class.{is_character_byte}
use Rattle.p21_tokens_automaton.specs.Step.{advance}
use Rattle.p21_tokens_automaton.specs.declared.mode.Mode.{Mode}
use Rattle.p21_tokens_automaton.specs.declared.mode.Mode.TheVariants.{Name, Text}
use Rattle.p21_tokens_automaton.specs.declared.mode.NameMode.TheVariants.{Digits}
use Rattle.p21_tokens_automaton.specs.declared.mode.TextMode.TheVariants.{Inside}
use Rattle.p21_tokens_automaton.specs.declared.mode.Action.{Action}
use Rattle.p21_tokens_automaton.specs.declared.mode.Action.TheVariants.{Pass, Keep, Put}
use Rattle.p21_tokens_automaton.specs.declared.run.Run.{Run}
use Rattle.p21_tokens_automaton.specs.declared.run.Run.TheVariants.{Passed, PendingBytes, Characters, Named, Utf8}
use Rattle.p21_spec_basics.specs.Digits.{is_digit}

-- so many bytes at the front, each of which does this in this mode
pub record EachHasAction (mode : Mode) (bytes : List ℕ) (count : ℕ) (does : ℕ → Action) : Type 0 where
  pub within : count ≤ length bytes
  pub each : (k : ℕ) → k < count → advance mode (slice_index bytes k) ≡ does (slice_index bytes k)

-- the number of digits behind those of another
abbrev pub name_value : ℕ → List ℕ → ℕ
name_value value [] = value
name_value value (byte ∷ bytes) = name_value (value * 10 + (byte - 48)) bytes

-- so many bytes at the front of characters of a string
pub record AreCharacterBytes (mode : Mode) (bytes : List ℕ) (count : ℕ) : Type 0 where
  pub mode_is : mode ≡ Text Inside
  pub within : count ≤ length bytes
  pub each : (k : ℕ) → k < count → is_character_byte (slice_index bytes k) ≡ true

-- so many digits at the front, which make this number of the one before them
pub record AreNameDigits (mode : Mode) (bytes : List ℕ) (count value : ℕ) : Type 0 where
  pub before : ℕ
  pub mode_is : mode ≡ Name (Digits before)
  pub within : count ≤ length bytes
  pub digits : (k : ℕ) → k < count → is_digit (slice_index bytes k) ≡ true
  pub value_is : name_value before (take count bytes) ≡ value
  pub fits : value < 2 ^ 64

abbrev pub IsRun : Mode → List ℕ → Run → Type 0
IsRun mode bytes (Passed count) = EachHasAction mode bytes count (λ byte. Pass mode)
IsRun mode bytes (PendingBytes count) = EachHasAction mode bytes count (λ byte. Keep mode)
IsRun mode bytes (Characters count) = EachHasAction mode bytes count (λ byte. Put mode byte)
IsRun mode bytes (Named count value) = AreNameDigits mode bytes count value
IsRun mode bytes (Utf8 count) = AreCharacterBytes mode bytes count
