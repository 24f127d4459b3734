-- A run of bytes that a reader takes all alike, read at once.
use Rattle.std.proofs.Common.{◌≡◌, ℕ, zero, suc, ◌+◌, ◌-◌, ◌*◌, ◌^◌, ◌<◌, ◌≤◌, true, inl, inr, List, [], ◌∷◌, ◌++◌, length, take, slice_index, refl, sym, ap, ◌∙◌, subst, append_assoc, append-nil, arith, lt-ltb}
use Rattle.std.proofs.lemmas.Bool.{cases_lt}
use Rattle.std.proofs.lemmas.List.{take_more}
use Rattle.p21_tokens_automaton.specs.Step.{advance}
use Rattle.p21_tokens_automaton.specs.Reading.{State, lex}
use Rattle.p21_tokens_automaton.specs.Run.{EachHasAction, AreNameDigits, name_value}
use Rattle.p21_tokens_automaton.specs.declared.mode.Mode.{Mode}
use Rattle.p21_tokens_automaton.specs.declared.mode.Mode.TheVariants.{Name}
use Rattle.p21_tokens_automaton.specs.declared.mode.NameMode.TheVariants.{Digits}
use Rattle.p21_tokens_automaton.specs.declared.mode.Action.{Action}
use Rattle.p21_tokens_automaton.specs.declared.mode.Action.TheVariants.{Pass, Skip, Keep, Put}
use Rattle.p21_tokens_automaton.proofs.Steps.{lex-pass, lex-skip, lex-keep, lex-put}
use Rattle.p21_spec_basics.specs.Digits.{is_digit}

rest-does : (mode : Mode) (does : ℕ → Action) (b : ℕ) (bytes : List ℕ) (count : ℕ) → EachHasAction mode (b ∷ bytes) (suc count) does → EachHasAction mode bytes count does
rest-does mode does b bytes count h = record { within = let w = h.within in omega arith; each = λ k l. h.each (suc k) (omega arith) }

sized : (s : State) (a b : ℕ) (rest : List ℕ) → a ≡ b → lex (record s { size = a }) rest ≡ lex (record s { size = b }) rest
sized s a b rest e = ap (λ (n : ℕ). lex (record s { size = n }) rest) e

pub run-passes : (s : State) (bytes rest : List ℕ) (count : ℕ) → EachHasAction s.mode bytes count (λ b. Pass s.mode) → lex s (take count bytes ++ rest) ≡ lex s rest
run-passes s bytes rest zero h = refl
run-passes s [] rest (suc count) h = refl
run-passes s (b ∷ bytes) rest (suc count) h =
    lex-pass s s.mode b (take count bytes ++ rest) (h.each 0 (omega arith)) ∙ run-passes s bytes rest count (rest-does s.mode (λ x. Pass s.mode) b bytes count h)

pub run-keeps : (s : State) (bytes rest : List ℕ) (count : ℕ) → EachHasAction s.mode bytes count (λ b. Keep s.mode) → lex s (take count bytes ++ rest) ≡ lex (record s { pending_bytes = s.pending_bytes ++ take count bytes; size = s.size + count }) rest
run-keeps s bytes rest zero h = ap (λ (k : List ℕ). lex (record s { pending_bytes = k }) rest) (sym (append-nil s.pending_bytes)) ∙ sized (record s { pending_bytes = s.pending_bytes ++ [] }) s.size (s.size + 0) rest (omega arith)
run-keeps s [] rest (suc count) h = absurd (let w = h.within in omega arith)
run-keeps s (b ∷ bytes) rest (suc count) h =
    lex-keep s s.mode b (take count bytes ++ rest) (h.each 0 (omega arith))
    ∙ (run-keeps (record s { pending_bytes = s.pending_bytes ++ b ∷ []; size = s.size + 1 }) bytes rest count (rest-does s.mode (λ x. Keep s.mode) b bytes count h)
    ∙ (ap (λ (k : List ℕ). lex (record s { pending_bytes = k; size = s.size + 1 + count }) rest) (append_assoc s.pending_bytes (b ∷ []) (take count bytes))
    ∙ sized (record s { pending_bytes = s.pending_bytes ++ b ∷ take count bytes }) (s.size + 1 + count) (s.size + suc count) rest (omega arith)))

pub run-puts : (s : State) (bytes rest : List ℕ) (count : ℕ) → EachHasAction s.mode bytes count (λ b. Put s.mode b) → lex s (take count bytes ++ rest) ≡ lex (record s { characters = s.characters ++ take count bytes; size = s.size + count }) rest
run-puts s bytes rest zero h = ap (λ (k : List ℕ). lex (record s { characters = k }) rest) (sym (append-nil s.characters)) ∙ sized (record s { characters = s.characters ++ [] }) s.size (s.size + 0) rest (omega arith)
run-puts s [] rest (suc count) h = absurd (let w = h.within in omega arith)
run-puts s (b ∷ bytes) rest (suc count) h =
    lex-put s s.mode b b (take count bytes ++ rest) (h.each 0 (omega arith))
    ∙ (run-puts (record s { characters = s.characters ++ b ∷ []; size = s.size + 1 }) bytes rest count (rest-does s.mode (λ x. Put s.mode x) b bytes count h)
    ∙ (ap (λ (k : List ℕ). lex (record s { characters = k; size = s.size + 1 + count }) rest) (append_assoc s.characters (b ∷ []) (take count bytes))
    ∙ sized (record s { characters = s.characters ++ b ∷ take count bytes }) (s.size + 1 + count) (s.size + suc count) rest (omega arith)))

-- ---- digits of an instance name

name_value-append : (value : ℕ) (a b : List ℕ) → name_value value (a ++ b) ≡ name_value (name_value value a) b
name_value-append value [] b = refl
name_value-append value (x ∷ a) b = name_value-append (value * 10 + (x - 48)) a b

name_value-least : (value : ℕ) (bytes : List ℕ) → value ≤ name_value value bytes
name_value-least value [] = omega arith
name_value-least value (b ∷ bytes) = let least = name_value-least (value * 10 + (b - 48)) bytes in omega arith

pub digits-more : (mode : Mode) (bytes : List ℕ) (count value : ℕ) → AreNameDigits mode bytes count value → count < length bytes → is_digit (slice_index bytes count) ≡ true → value * 10 + (slice_index bytes count - 48) < 2 ^ 64
    → AreNameDigits mode bytes (count + 1) (value * 10 + (slice_index bytes count - 48))
digits-more mode bytes count value h room digit fits = record {
  before = h.before;
  mode_is = h.mode_is;
  within = omega arith;
  digits = λ k l. elim (cases_lt k count) [
    | inl less ↦ h.digits k less
    | inr from ↦ let e : count ≡ k = omega arith in subst (λ (x : ℕ). is_digit (slice_index bytes x) ≡ true) e digit
  ];
  value_is = ap (name_value h.before) (take_more bytes count 0 room) ∙ (name_value-append h.before (take count bytes) (slice_index bytes count ∷ []) ∙ ap (λ (x : ℕ). x * 10 + (slice_index bytes count - 48)) h.value_is);
  fits = fits;
}

name-digit : (value b : ℕ) → is_digit b ≡ true → value * 10 + (b - 48) < 2 ^ 64 → advance (Name (Digits value)) b ≡ Skip (Name (Digits (value * 10 + (b - 48))))
name-digit value b h l = rw (h, lt-ltb (value * 10 + (b - 48)) (2 ^ 64) l) refl

names : (s : State) (value : ℕ) (bytes rest : List ℕ) (count : ℕ) → s.mode ≡ Name (Digits value) → count ≤ length bytes → ((k : ℕ) → k < count → is_digit (slice_index bytes k) ≡ true) → name_value value (take count bytes) < 2 ^ 64
    → lex s (take count bytes ++ rest) ≡ lex (record s { mode = Name (Digits (name_value value (take count bytes))); size = s.size + count }) rest
names s value bytes rest zero m w h l = ap (λ (x : Mode). lex (record s { mode = x }) rest) m ∙ sized (record s { mode = Name (Digits value) }) s.size (s.size + 0) rest (omega arith)
names s value [] rest (suc count) m w h l = absurd (omega arith)
names s value (b ∷ bytes) rest (suc count) m w h l =
    let next : ℕ = value * 10 + (b - 48) in
    let small : next < 2 ^ 64 = omega (arith, name_value-least next (take count bytes)) in
    lex-skip s (Name (Digits next)) b (take count bytes ++ rest) (ap (λ (x : Mode). advance x b) m ∙ name-digit value b (h 0 (omega arith)) small)
    ∙ (names (record s { mode = Name (Digits next); size = s.size + 1 }) next bytes rest count refl (omega arith) (λ k i. h (suc k) (omega arith)) l
    ∙ sized (record s { mode = Name (Digits (name_value next (take count bytes))) }) (s.size + 1 + count) (s.size + suc count) rest (omega arith))

pub run-names : (s : State) (bytes rest : List ℕ) (count value : ℕ) → AreNameDigits s.mode bytes count value → lex s (take count bytes ++ rest) ≡ lex (record s { mode = Name (Digits value); size = s.size + count }) rest
run-names s bytes rest count value h =
    names s h.before bytes rest count h.mode_is h.within h.digits (subst (λ (x : ℕ). x < 2 ^ 64) (sym h.value_is) h.fits)
    ∙ ap (λ (x : ℕ). lex (record s { mode = Name (Digits x); size = s.size + count }) rest) h.value_is
