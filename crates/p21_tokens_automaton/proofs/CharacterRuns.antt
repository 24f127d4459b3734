-- Characters of a string in UTF-8, read at once.
use Rattle.std.proofs.Common.{◌≡◌, ℕ, zero, suc, ◌+◌, ◌<◌, true, List, [], ◌∷◌, ◌++◌, inl, inr, take, refl, sym, ap, ◌∙◌, subst, append_assoc, append-nil, arith}
use Rattle.std.proofs.lemmas.Bool.{cases_lt, and_parts}
use Rattle.std.proofs.lemmas.Bool.Decides.{nat_tests}
use Rattle.std.proofs.lemmas.List.{length-take-le}
use Rattle.std.proofs.lemmas.Str.{encode_ascii, encodes-chars, scalars-chars}
use Rattle.std.specs.Char.{IsScalar}
use Rattle.std.specs.List.{AllByRecursion as Each}
use Rattle.std.specs.Str.{chars, IsUtf8}
use lib.Utf8.{encode, encodes, scalar, scalars}
use Rattle.p21_tokens_automaton.specs.Reading.{State, lex}
use Rattle.p21_scan.specs.Class.{is_character_byte}
use Rattle.p21_tokens_automaton.specs.Run.{AreCharacterBytes}
use Rattle.p21_tokens_automaton.specs.Step.{text_action}
use Rattle.p21_tokens_automaton.specs.declared.mode.Mode.{Mode}
use Rattle.p21_tokens_automaton.specs.declared.mode.Mode.TheVariants.{Text}
use Rattle.p21_tokens_automaton.specs.declared.mode.TextMode.TheVariants.{Inside}
use Rattle.p21_tokens_automaton.specs.declared.mode.Action.TheVariants.{Put}
use Rattle.p21_tokens_automaton.proofs.TextRuns.{Runs, runs-none, runs-join, last-put, utf8-run}

abbrev EachCharacterByte : List ℕ → Type 0
EachCharacterByte bytes = Each (λ b. is_character_byte b ≡ true) bytes

each-behind : (xs ys : List ℕ) → EachCharacterByte (xs ++ ys) → EachCharacterByte ys
each-behind [] ys h = h
each-behind (x ∷ xs) ys h = each-behind xs ys h.1

each-taken : (bytes : List ℕ) (count : ℕ) → AreCharacterBytes (Text Inside) bytes count → EachCharacterByte (take count bytes)
each-taken bytes zero h = tt
each-taken [] (suc count) h = tt
each-taken (b ∷ bytes) (suc count) h = (
  h.each 0 (omega arith),
  each-taken bytes count (record { mode_is = refl; within = let w = h.within in omega arith; each = λ k l. h.each (suc k) (omega arith) }),
)

ascii-puts : (c : ℕ) → c < 128 → is_character_byte c ≡ true → text_action Inside c ≡ Put (Text Inside) c
ascii-puts c l h = grind (arith, nat_tests)

character-run : (c : ℕ) (behind : List ℕ) → IsScalar c → EachCharacterByte (encode c ++ behind) → (a : List ℕ) → Runs Inside a (encode c) Inside (a ++ c ∷ [])
character-run c behind s h a =
    elim (cases_lt c 128) [
      | inl low ↦ let one = encode_ascii c low in
          let is : EachCharacterByte (c ∷ behind) = subst (λ (x : List ℕ). EachCharacterByte (x ++ behind)) one h in
          subst (λ (x : List ℕ). Runs Inside a x Inside (a ++ c ∷ [])) (sym one) (last-put Inside Inside a c c (ascii-puts c low is.0))
      | inr high ↦ utf8-run c s high a
    ]

characters-run : (cs : List ℕ) → scalars cs ≡ true → EachCharacterByte (encodes cs) → (a : List ℕ) → Runs Inside a (encodes cs) Inside (a ++ cs)
characters-run [] s h a = subst (λ (x : List ℕ). Runs Inside a [] Inside x) (sym (append-nil a)) (runs-none Inside a)
characters-run (c ∷ cs) s h a =
    let parts = and_parts (scalar c) (scalars cs) s in
    subst (λ (x : List ℕ). Runs Inside a (encode c ++ encodes cs) Inside x) (append_assoc a (c ∷ []) cs)
    (runs-join Inside Inside Inside a (a ++ c ∷ []) ((a ++ c ∷ []) ++ cs) (encode c) (encodes cs)
    (character-run c (encodes cs) parts.0 h a) (characters-run cs parts.1 (each-behind (encode c) (encodes cs) h) (a ++ c ∷ [])))

pub run-characters : (s : State) (bytes rest : List ℕ) (count : ℕ) → AreCharacterBytes s.mode bytes count → IsUtf8 (take count bytes)
    → lex s (take count bytes ++ rest) ≡ lex (record s { characters = s.characters ++ chars (take count bytes); size = s.size + count }) rest
run-characters s bytes rest count h u =
    let text : List ℕ = take count bytes in
    let is : encodes (chars text) ≡ text = encodes-chars text u in
    let run : Runs Inside s.characters text Inside (s.characters ++ chars text) =
    subst (λ (x : List ℕ). Runs Inside s.characters x Inside (s.characters ++ chars text)) is
    (characters-run (chars text) (scalars-chars text u) (subst EachCharacterByte (sym is) (each-taken bytes count (record { mode_is = refl; within = h.within; each = h.each }))) s.characters) in
    ap (λ (m : Mode). lex (record s { mode = m }) (text ++ rest)) h.mode_is
    ∙ (run s.pending_bytes s.size rest
    ∙ (ap (λ (n : ℕ). lex (record s { mode = Text Inside; characters = s.characters ++ chars text; size = s.size + n }) rest) (length-take-le count bytes h.within)
    ∙ ap (λ (m : Mode). lex (record s { mode = m; characters = s.characters ++ chars text; size = s.size + count }) rest) (sym h.mode_is)))
