-- Values with the keyword of their type, and references.
use Rattle.std.proofs.Common.{◌≡◌, ℕ, ◌-◌, ◌≤◌, List, [], ◌∷◌, ◌++◌, length, take, drop, refl, ap, sym, subst, ◌∙◌, arith, append-nil, length-append, inl, inr}
use Rattle.std.proofs.Math.Seq.{take-append_seam}
use Rattle.std.specs.Prelude.{Err}
use Rattle.p21_scan.proofs.Words.{keyword-once}
use Rattle.p21_scan.specs.Word.{IsTokenAt}
use Rattle.p21_spec_basics.proofs.Members.{Each-front}
use Rattle.p21_spec_basics.specs.Digits.{number}
use Rattle.p21_spec_exchange.proofs.Names.{name_form_once, name_spells}
use Rattle.p21_spec_exchange.specs.CanonicalText.{param_text}
use Rattle.p21_spec_exchange.specs.Keyword.{IsKeywordByte}
use Rattle.p21_spec_exchange.specs.Name.{SpellsName}
use Rattle.p21_spec_exchange.specs.Parameter.{Param, key_of, name, param_tokens, typed}
use Rattle.p21_spec_exchange.specs.Spelling.{name_spelling}
use Rattle.p21_spec_exchange.specs.Token as token
use Rattle.p21_spec_exchange.specs.Token.{IsSpelled}
use Rattle.p21_spec_laws.proofs.ParamTexts.{typed-is}
use Rattle.p21_spec_laws.specs.Written.{IsWritten}
use Rattle.p21_values.specs.Name.{ReadsName}
use Rattle.p21_values.specs.declared.fault.ValueFault.{ValueFault}
use Rattle.p21_values.specs.declared.fault.ValueFault.TheVariants.{BadName, NameRange}
use Rattle.p21_model_values.specs.Written.{IsTextOf}

-- ---- typed values

left-no_byte : ¬ IsKeywordByte 40
left-no_byte (inl (inl h)) = omega (arith, h)
left-no_byte (inl (inr h)) = omega (arith, h)
left-no_byte (inr h) = omega (arith, h)

pub typed-at : (bytes word : List ℕ) (p : Param) → IsTextOf bytes (typed (key_of word) p)
    → IsTokenAt bytes (token.keyword word) (40 ∷ (param_text p ++ (41 ∷ [])))
typed-at bytes word p text = record {
  bytes_are = text.bytes_are ∙ typed-is (key_of word) p;
  spells = (refl, text.written.0.1.1);
  followed = (left-no_byte, λ e. omega (arith, e));
}

-- what was found there
pub record IsTypedAt (word found behind : List ℕ) (p : Param) : Type 0 where
  pub word_is : found ≡ word
  pub behind_is : behind ≡ 40 ∷ (param_text p ++ (41 ∷ []))
  pub written : IsWritten p

pub typed-once : (bytes word found behind : List ℕ) (p : Param) → IsTextOf bytes (typed (key_of word) p)
    → IsTokenAt bytes (token.keyword found) behind → IsTypedAt word found behind p
typed-once bytes word found behind p text at =
    let (same, rest) = keyword-once bytes found word behind (40 ∷ (param_text p ++ (41 ∷ []))) at (typed-at bytes word p text) in
    record { word_is = same; behind_is = rest; written = Each-front IsSpelled (param_tokens p) (token.right ∷ []) text.written.1.1 }

pub typed-long : (word found behind : List ℕ) (p : Param) → IsTypedAt word found behind p → 2 ≤ length behind
typed-long word found behind p is =
    let long : length behind ≡ length (40 ∷ (param_text p ++ (41 ∷ []))) = ap length is.behind_is in
    let all = length-append (param_text p) (41 ∷ []) in
    omega (arith, long, all)

pub typed-inside : (word found behind : List ℕ) (p : Param) → IsTypedAt word found behind p
    → (found ≡ word) × IsTextOf (take (length behind - 1 - 1) (drop 1 behind)) p
typed-inside word found behind p is =
    let inside = param_text p in
    let long : length behind ≡ length (40 ∷ (inside ++ (41 ∷ []))) = ap length is.behind_is in
    let all = length-append inside (41 ∷ []) in
    let size : length behind - 1 - 1 ≡ length inside = omega (arith, long, all) in
    let text : take (length behind - 1 - 1) (drop 1 behind) ≡ inside =
    ap (λ n. take n (drop 1 behind)) size ∙ ap (λ (xs : List ℕ). take (length inside) (drop 1 xs)) is.behind_is
    ∙ take-append_seam inside (41 ∷ []) in
    (is.word_is, record { written = is.written; bytes_are = text })

-- ---- references

pub name-spelled : (bytes : List ℕ) (n : ℕ) → IsTextOf bytes (name n) → SpellsName bytes n
name-spelled bytes n text =
    let Spells : List ℕ → Type 0 = λ xs. SpellsName xs n in
    subst Spells (sym (text.bytes_are ∙ append-nil (name_spelling n))) (name_spells n text.written.0.1.in_range)

pub name-read : (bytes : List ℕ) (n : ℕ) → SpellsName bytes n → (fault : ValueFault) → ReadsName bytes (Err fault) → ⊥
name-read bytes n s BadName h = h s.form
name-read bytes n s NameRange h =
    let same : h.0.digits ≡ s.form.digits = name_form_once bytes h.0 s.form in
    let big = h.1 in
    let small = s.in_range in
    let is = s.value_is in
    let one = ap number same in
    omega (arith, big, small, is, one)
name-read bytes n s other h = h
