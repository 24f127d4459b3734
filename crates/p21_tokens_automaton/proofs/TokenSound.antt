-- One more byte of an open number, keyword, marker, item, name or binary, and what a byte between tokens begins.
use Rattle.std.proofs.Common.{◌≡◌, ◌≢◌, ℕ, ◌+◌, ◌-◌, ◌*◌, ◌^◌, inl, inr, eqb, ◌||◌, codes, cond, leb, ltb, ◌&&◌, bytes_eq, slice_get, List, [], ◌∷◌, ◌++◌, length, take, refl, sym, ap, subst, ◌∙◌, append_assoc, append-nil, arith, Option, Some, None}
use Rattle.std.proofs.lemmas.Bool.{eqb-true, eqb-false, ltb-true, ltb-false, cond_both}
use Rattle.std.proofs.lemmas.Bool.Decides.{not_from_Decides, Decides-or, Decides-eqb}
use Rattle.std.proofs.lemmas.List.{take_more, take_all, length_push}
use Rattle.std.proofs.lemmas.Option.{slice_get_within, get_or_from_slice_get}
use Rattle.std.proofs.lemmas.Slice.Eq.{bytes_eq-Decides}
use Rattle.std.specs.List.{AllByRecursion as Each}
use Rattle.std.proofs.lemmas.Option.{none-some, same_Some}
use Rattle.p21_spec_basics.proofs.PlainDigits.{digits_append}
use Rattle.p21_spec_basics.specs.Digits.{IsDigit, AllDigits, number as number_of, is_digit}
use Rattle.p21_spec_exchange.specs.Keyword.{IsKeyword, IsKeywordByte}
use Rattle.p21_spec_exchange.specs.Name.{SpellsName}
use Rattle.p21_spec_exchange.specs.Number.{Sign, none, plus, minus, sign_bytes, is_minus, signed, exponent, no_exponent, exponent_bytes, RealForm, SpellsReal, SpellsWhole}
use Rattle.p21_spec_exchange.specs.Token.{Token, Spells, MayFollow, HasNoExponent}
use Rattle.p21_spec_exchange.specs.Token as token
use Rattle.p21_scan.specs.Bytes.{is_upper, is_keyword_byte, is_blank}
use Rattle.p21_scan.specs.Hex.{hex_value, is_hex_digit}
use Rattle.p21_tokens_automaton.specs.Meaning.{IsOfTokenClass, Means}
use Rattle.p21_tokens_automaton.specs.Step.{mode_behind_digit, non_digit_action, number_action, marker_text, marker_action, word_action, name_digit_action, name_action, has_zero_padding, binary_action, punctuation_action, between_action, text_action, advance}
use Rattle.p21_tokens_automaton.specs.Reading.{FoundToken, TokenClass, keyword, user_keyword, whole, real, item, bits, known, spelled, marker_token, ended_token}
use Rattle.p21_tokens_automaton.specs.declared.mode.Mode.{Mode}
use Rattle.p21_tokens_automaton.specs.declared.mode.Mode.TheVariants.{Between, Number, Word, Name, Binary, Text}
use Rattle.p21_tokens_automaton.specs.declared.mode.NumberMode.{NumberMode}
use Rattle.p21_tokens_automaton.specs.declared.mode.NumberMode.TheVariants as number
use Rattle.p21_tokens_automaton.specs.declared.mode.WordMode.{WordMode}
use Rattle.p21_tokens_automaton.specs.declared.mode.WordMode.TheVariants as word
use Rattle.p21_tokens_automaton.specs.declared.mode.Marker.{Marker}
use Rattle.p21_tokens_automaton.specs.declared.mode.Marker.TheVariants.{Begin, Finish}
use Rattle.p21_tokens_automaton.specs.declared.mode.NameMode.{NameMode}
use Rattle.p21_tokens_automaton.specs.declared.mode.NameMode.TheVariants as name_mode
use Rattle.p21_tokens_automaton.specs.declared.mode.BinaryMode.{BinaryMode}
use Rattle.p21_tokens_automaton.specs.declared.mode.BinaryMode.TheVariants as binary
use Rattle.p21_tokens_automaton.specs.declared.mode.TextMode.{TextMode}
use Rattle.p21_tokens_automaton.specs.declared.mode.TextMode.TheVariants as text_mode
use Rattle.p21_tokens_automaton.specs.declared.mode.Absent.TheVariants.{ConstantName}
use Rattle.p21_tokens_automaton.specs.declared.mode.Wrong.TheVariants as wrong
use Rattle.p21_tokens_automaton.specs.declared.mode.Action.{Action}
use Rattle.p21_tokens_automaton.specs.declared.mode.Action.TheVariants.{Pass, Skip, Keep, Close, End, Dash, Refuse}
use Rattle.p21_scan.proofs.Classes.{digit-decides, upper-decides, blank-decides, keyword_byte-decides}
use Rattle.p21_tokens_automaton.proofs.Sound.{FirstFits}
use Rattle.p21_tokens_automaton.proofs.TokenRuns.{number-more}
use Rattle.p21_tokens_automaton.proofs.Fits.{HasExponentMark, IsInteger, IsPlainReal, HasExponent, NumberFits, NameFits, ModeFits, EndFits, StepFits}

-- ---- numbers

no-exponent_mark : (bytes : List ℕ) → AllDigits bytes → Each (λ b. b ≢ 69) bytes
no-exponent_mark [] h = tt
no-exponent_mark (b ∷ bytes) h = let d = h.0 in (λ e. omega arith, no-exponent_mark bytes h.1)

each-both : (P : ℕ → Type 0) (xs ys : List ℕ) → Each P xs → Each P ys → Each P (xs ++ ys)
each-both P [] ys p q = q
each-both P (x ∷ xs) ys p q = (p.0, each-both P xs ys p.1 q)

each-at : (P : ℕ → Type 0) (xs : List ℕ) (y : ℕ) (ys : List ℕ) → Each P (xs ++ y ∷ ys) → P y
each-at P [] y ys p = p.0
each-at P (x ∷ xs) y ys p = each-at P xs y ys p.1

sign-has_no_mark : (s : Sign) → Each (λ b. b ≢ 69) (sign_bytes s)
sign-has_no_mark none = tt
sign-has_no_mark plus = (λ e. omega arith, tt)
sign-has_no_mark minus = (λ e. omega arith, tt)

has-exponent : (front : List ℕ) → HasExponentMark front → HasNoExponent front → ⊥
has-exponent front mark plain =
    let P : ℕ → Type 0 = λ b. b ≢ 69 in
    let form = plain.0 in
    let fraction = no-exponent_mark form.fraction form.are_fraction_digits in
    let tail : Each P (46 ∷ (form.fraction ++ exponent_bytes form.power)) = (λ e. omega arith, each-both P form.fraction (exponent_bytes form.power) fraction (rw (plain.1) tt)) in
    let all = each-both P (sign_bytes form.sign) _ (sign-has_no_mark form.sign) (each-both P form.whole _ (no-exponent_mark form.whole form.are_digits) tail) in
    each-at P mark.0 69 mark.1 (subst (Each P) (sym form.bytes_are ∙ mark.2) all) refl

more-behind_point : (sign digits fraction more : List ℕ) → (sign ++ (digits ++ (46 ∷ fraction))) ++ more ≡ sign ++ (digits ++ (46 ∷ (fraction ++ more)))
more-behind_point sign digits fraction more = append_assoc sign (digits ++ (46 ∷ fraction)) more ∙ ap (λ (x : List ℕ). sign ++ x) (append_assoc digits (46 ∷ fraction) more)

integer-spells : (front : List ℕ) (f : IsInteger front) → SpellsWhole front (signed (is_minus f.sign) (number_of f.digits))
integer-spells front f = record { sign = f.sign; digits = f.digits; bytes_are = f.bytes_are; some_digits = f.some_digits; are_digits = f.are_digits; value_is = refl }

plain_real-form : (front : List ℕ) → IsPlainReal front → RealForm front
plain_real-form front f = record {
  sign = f.sign;
  whole = f.whole;
  fraction = f.fraction;
  power = no_exponent;
  bytes_are = f.bytes_are ∙ ap (λ (x : List ℕ). sign_bytes f.sign ++ (f.whole ++ (46 ∷ x))) (sym (append-nil f.fraction));
  some_digits = f.some_digits;
  are_digits = f.are_digits;
  are_fraction_digits = f.are_fraction_digits;
  is_exponent = tt;
}

exponent-form : (front : List ℕ) → HasExponent front → RealForm front
exponent-form front h =
    let f = h.is_real in
    let written : List ℕ = 69 ∷ (sign_bytes h.sign ++ h.digits) in
    record {
      sign = f.sign;
      whole = f.whole;
      fraction = f.fraction;
      power = exponent h.sign h.digits;
      bytes_are = h.bytes_are ∙ (ap (λ (x : List ℕ). x ++ written) f.bytes_are ∙ more-behind_point (sign_bytes f.sign) f.whole f.fraction written);
      some_digits = f.some_digits;
      are_digits = f.are_digits;
      are_fraction_digits = f.are_fraction_digits;
      is_exponent = (h.some_digits, h.are_digits);
    }

keyword-more : (front : List ℕ) (b : ℕ) → IsKeyword front → IsKeywordByte b → IsKeyword (front ++ b ∷ [])
keyword-more [] b h k = absurd h
keyword-more (c ∷ front) b h k = (h.0, each-both IsKeywordByte front (b ∷ []) h.1 (k, tt))

whole-follows : (t : Token) (front : List ℕ) (b : ℕ) → IsOfTokenClass whole t → (IsDigit b → ⊥) → b ≢ 46 → MayFollow t front b
whole-follows (token.whole z) front b k n e = (n, e)
whole-follows _ front b k n e = absurd k

real-follows : (t : Token) (front : List ℕ) (b : ℕ) → IsOfTokenClass real t → (IsDigit b → ⊥) → (HasNoExponent front → b ≢ 69) → MayFollow t front b
real-follows (token.real d) front b k n e = (n, e)
real-follows _ front b k n e = absurd k

module _ (b : ℕ) (pending_bytes characters front : List ℕ) where
  keeps : (e : pending_bytes ≡ front) → pending_bytes ++ b ∷ [] ≡ front ++ b ∷ []
  keeps e = ap (λ (x : List ℕ). x ++ b ∷ []) e

  -- what stands behind an ended token
  whole-end : pending_bytes ≡ front → IsInteger front → (IsDigit b → ⊥) → b ≢ 46 → StepFits (Number number.Whole) pending_bytes characters front b End
  whole-end h f n e = record {
    follows = λ found t is means. whole-follows t front b (subst (λ f. Means f t) (sym (same_Some _ _ is)) means).0 n e;
    no_token = λ none. absurd (none (spelled whole pending_bytes) (token.whole (signed (is_minus f.sign) (number_of f.digits))) refl (tt, subst (λ (x : List ℕ). SpellsWhole x (signed (is_minus f.sign) (number_of f.digits))) (sym h) (integer-spells front f)));
  }

  real-end : (m : NumberMode) → ended_token (record { mode = Number m; pending_bytes = pending_bytes; characters = characters; size = length front }) ≡ Some (spelled real pending_bytes) → pending_bytes ≡ front → RealForm front → (IsDigit b → ⊥) → (HasNoExponent front → b ≢ 69) → StepFits (Number m) pending_bytes characters front b End
  real-end m own h f n e = record {
    follows = λ found t is means. real-follows t front b (subst (λ f. Means f t) (same_Some _ _ (sym is ∙ own)) means).0 n e;
    no_token = λ none. (f, λ value s. none (spelled real pending_bytes) (token.real value) own (tt, subst (λ (x : List ℕ). SpellsReal x value) (sym h) s), n, e);
  }

  mode_behind_digit-fits : (m : NumberMode) → NumberFits m front → IsDigit b → NumberFits (mode_behind_digit m) (front ++ b ∷ [])
  mode_behind_digit-fits number.Sign h d = record { sign = h.0; digits = b ∷ []; bytes_are = ap (λ (x : List ℕ). x ++ b ∷ []) h.1; some_digits = omega arith; are_digits = (d, tt) }
  mode_behind_digit-fits number.Whole h d = record {
    sign = h.sign;
    digits = h.digits ++ b ∷ [];
    bytes_are = ap (λ (x : List ℕ). x ++ b ∷ []) h.bytes_are ∙ append_assoc (sign_bytes h.sign) h.digits (b ∷ []);
    some_digits = let l = length_push h.digits b in omega arith;
    are_digits = digits_append h.digits (b ∷ []) h.are_digits (d, tt);
  }
  mode_behind_digit-fits number.Fraction h d = record {
    sign = h.sign;
    whole = h.whole;
    fraction = h.fraction ++ b ∷ [];
    bytes_are = ap (λ (x : List ℕ). x ++ b ∷ []) h.bytes_are ∙ more-behind_point (sign_bytes h.sign) h.whole h.fraction (b ∷ []);
    some_digits = h.some_digits;
    are_digits = h.are_digits;
    are_fraction_digits = digits_append h.fraction (b ∷ []) h.are_fraction_digits (d, tt);
  }
  mode_behind_digit-fits number.Exponent h d = record {
    real = h.0;
    is_real = h.1;
    sign = none;
    digits = b ∷ [];
    bytes_are = ap (λ (x : List ℕ). x ++ b ∷ []) h.2 ∙ append_assoc h.0 (69 ∷ []) (b ∷ []);
    some_digits = omega arith;
    are_digits = (d, tt);
  }
  mode_behind_digit-fits number.ExponentSign h d = record {
    real = h.0;
    is_real = h.1;
    sign = h.2;
    digits = b ∷ [];
    bytes_are = ap (λ (x : List ℕ). x ++ b ∷ []) h.3 ∙ append_assoc h.0 (69 ∷ sign_bytes h.2) (b ∷ []);
    some_digits = omega arith;
    are_digits = (d, tt);
  }
  mode_behind_digit-fits number.ExponentDigits h d = record {
    real = h.real;
    is_real = h.is_real;
    sign = h.sign;
    digits = h.digits ++ b ∷ [];
    bytes_are = ap (λ (x : List ℕ). x ++ b ∷ []) h.bytes_are ∙ (append_assoc h.real (69 ∷ (sign_bytes h.sign ++ h.digits)) (b ∷ []) ∙ ap (λ (x : List ℕ). h.real ++ (69 ∷ x)) (append_assoc (sign_bytes h.sign) h.digits (b ∷ [])));
    some_digits = let l = length_push h.digits b in omega arith;
    are_digits = digits_append h.digits (b ∷ []) h.are_digits (d, tt);
  }

  point-fits : IsInteger front → b ≡ 46 → IsPlainReal (front ++ b ∷ [])
  point-fits h e = record {
    sign = h.sign;
    whole = h.digits;
    fraction = [];
    bytes_are = ap (λ (x : List ℕ). x ++ b ∷ []) h.bytes_are ∙ (append_assoc (sign_bytes h.sign) h.digits (b ∷ []) ∙ ap (λ (c : ℕ). sign_bytes h.sign ++ (h.digits ++ c ∷ [])) e);
    some_digits = h.some_digits;
    are_digits = h.are_digits;
    are_fraction_digits = tt;
  }

  exponent_sign-fits : NumberFits number.Exponent front → (sign : Sign) → b ∷ [] ≡ sign_bytes sign → NumberFits number.ExponentSign (front ++ b ∷ [])
  exponent_sign-fits h sign s = (h.0, h.1, sign, ap (λ (x : List ℕ). x ++ b ∷ []) h.2 ∙ (append_assoc h.0 (69 ∷ []) (b ∷ []) ∙ ap (λ (x : List ℕ). h.0 ++ (69 ∷ x)) s))

  non_digit_action-fits : (m : NumberMode) → ModeFits (Number m) pending_bytes characters front → (IsDigit b → ⊥) → StepFits (Number m) pending_bytes characters front b (non_digit_action m b)
  non_digit_action-fits number.Sign h n = tt
  non_digit_action-fits number.Whole h n =
      cond_both (eqb b 46) (Keep (Number number.Fraction)) End (λ a. StepFits (Number number.Whole) pending_bytes characters front b a) (λ e. (keeps h.0, point-fits h.1 (eqb-true b 46 e))) (λ e. whole-end h.0 h.1 n (eqb-false b 46 e))
  non_digit_action-fits number.Fraction h n =
      cond_both (eqb b 69) (Keep (Number number.Exponent)) End (λ a. StepFits (Number number.Fraction) pending_bytes characters front b a)
      (λ e. (keeps h.0, (front, h.1, ap (λ (c : ℕ). front ++ c ∷ []) (eqb-true b 69 e))))
      (λ e. real-end number.Fraction refl h.0 (plain_real-form front h.1) n (λ _. eqb-false b 69 e))
  non_digit_action-fits number.Exponent h n =
      cond_both (eqb b 43 || eqb b 45) (Keep (Number number.ExponentSign)) (Refuse wrong.Number) (λ a. StepFits (Number number.Exponent) pending_bytes characters front b a)
      (λ e. (
        keeps h.0,
        elim ((Decides-or _ _ (Decides-eqb b 43) (Decides-eqb b 45)).0 e) [
          | inl p ↦ exponent_sign-fits h.1 plus (ap (λ (c : ℕ). c ∷ []) p)
          | inr p ↦ exponent_sign-fits h.1 minus (ap (λ (c : ℕ). c ∷ []) p)
        ],
      ))
      (λ e. tt)
  non_digit_action-fits number.ExponentSign h n = tt
  non_digit_action-fits number.ExponentDigits h n =
      real-end number.ExponentDigits refl h.0 (exponent-form front h.1) n (λ none. absurd (has-exponent front (h.1.real, sign_bytes h.1.sign ++ h.1.digits, h.1.bytes_are) none))

pub number-fits : (m : NumberMode) (b : ℕ) (pending_bytes characters front : List ℕ) → ModeFits (Number m) pending_bytes characters front → StepFits (Number m) pending_bytes characters front b (number_action m b)
number-fits m b pending_bytes characters front h =
    cond_both (is_digit b) (Keep (Number (mode_behind_digit m))) (non_digit_action m b) (λ a. StepFits (Number m) pending_bytes characters front b a)
    (λ e. (keeps b pending_bytes characters front h.0, mode_behind_digit-fits b pending_bytes characters front m h.1 ((digit-decides b).0 e)))
    (λ e. non_digit_action-fits b pending_bytes characters front m h (not_from_Decides _ (digit-decides b) e))

spelled-ends : (kind : TokenClass) (pending_bytes front : List ℕ) → pending_bytes ≡ front → (found : FoundToken) (t : Token) → Some (spelled kind pending_bytes) ≡ Some found → Means found t → Spells t front
spelled-ends kind pending_bytes front e found t is means =
    subst (λ (x : List ℕ). Spells t x) e (subst (λ f. Means f t) (sym (same_Some _ _ is)) means).1

pub number-ends : (m : NumberMode) (pending_bytes characters front : List ℕ) → ModeFits (Number m) pending_bytes characters front → EndFits (Number m) pending_bytes characters front
number-ends number.Sign pending_bytes characters front h found t is means = absurd (none-some found is)
number-ends number.Whole pending_bytes characters front h found t is means = spelled-ends whole pending_bytes front h.0 found t is means
number-ends number.Fraction pending_bytes characters front h found t is means = spelled-ends real pending_bytes front h.0 found t is means
number-ends number.Exponent pending_bytes characters front h found t is means = absurd (none-some found is)
number-ends number.ExponentSign pending_bytes characters front h found t is means = absurd (none-some found is)
number-ends number.ExponentDigits pending_bytes characters front h found t is means = spelled-ends real pending_bytes front h.0 found t is means

-- ---- keywords, markers and items

keyword-follows : (t : Token) (front : List ℕ) (b : ℕ) → IsOfTokenClass keyword t → (IsKeywordByte b → ⊥) → b ≢ 45 → MayFollow t front b
keyword-follows (token.keyword w) front b k n e = (n, e)
keyword-follows _ front b k n e = absurd k

user_keyword-follows : (t : Token) (front : List ℕ) (b : ℕ) → IsOfTokenClass user_keyword t → (IsKeywordByte b → ⊥) → b ≢ 45 → MayFollow t front b
user_keyword-follows (token.user_keyword w) front b k n e = (n, e)
user_keyword-follows _ front b k n e = absurd k

marker-follows : (marker : Marker) (front : List ℕ) (b : ℕ) → (IsKeywordByte b → ⊥) → MayFollow (marker_token marker) front b
marker-follows Begin front b n = n
marker-follows Finish front b n = n

marker-spells : (marker : Marker) (front : List ℕ) → front ≡ marker_text marker → Spells (marker_token marker) front
marker-spells Begin front e = e
marker-spells Finish front e = e

module _ (b : ℕ) (pending_bytes characters front : List ℕ) where
  -- a token of this kind, spelled by the kept bytes, that ends before the byte
  kind-end : (m : Mode) (kind : TokenClass) (u : Token) → ended_token (record { mode = m; pending_bytes = pending_bytes; characters = characters; size = length front }) ≡ Some (spelled kind pending_bytes) → Means (spelled kind pending_bytes) u → ((t : Token) → IsOfTokenClass kind t → MayFollow t front b) → StepFits m pending_bytes characters front b End
  kind-end m kind u own spells follows = record {
    follows = λ found t is means. follows t (subst (λ f. Means f t) (same_Some _ _ (sym is ∙ own)) means).0;
    no_token = λ none. absurd (none (spelled kind pending_bytes) u own spells);
  }

  -- a token that is known
  known-end : (m : Mode) (u : Token) → ended_token (record { mode = m; pending_bytes = pending_bytes; characters = characters; size = length front }) ≡ Some (known u) → MayFollow u front b → StepFits m pending_bytes characters front b End
  known-end m u own follows = record {
    follows = λ found t is means. subst (λ v. MayFollow v front b) (subst (λ f. Means f t) (same_Some _ _ (sym is ∙ own)) means) follows;
    no_token = λ none. absurd (none (known u) u own refl);
  }

  dash-fits : pending_bytes ≡ front → b ≡ 45 → StepFits (Word word.Keyword) pending_bytes characters front b Dash
  dash-fits h e next =
      let P : Option Mode → Type 0 = λ o. o ≡ Some next → ModeFits next (pending_bytes ++ b ∷ []) characters (front ++ b ∷ []) in
      let behind_dash : (text : List ℕ) → pending_bytes ≡ text → front ++ b ∷ [] ≡ text ++ 45 ∷ [] = λ text k. ap (λ (x : List ℕ). x ++ b ∷ []) (sym h ∙ k) ∙ ap (λ (c : ℕ). text ++ c ∷ []) e in
      cond_both (bytes_eq pending_bytes (codes "ISO")) (Some (Word (word.Marker Begin 4))) _ P
      (λ k is. subst (λ m. ModeFits m (pending_bytes ++ b ∷ []) characters (front ++ b ∷ [])) (same_Some _ _ is) (ap (λ (x : List ℕ). x ++ b ∷ []) h, (behind_dash (codes "ISO") ((bytes_eq-Decides _ _).0 k), omega arith)))
      (λ _. cond_both (bytes_eq pending_bytes (codes "END")) (Some (Word (word.Marker Finish 4))) None P
      (λ k is. subst (λ m. ModeFits m (pending_bytes ++ b ∷ []) characters (front ++ b ∷ [])) (same_Some _ _ is) (ap (λ (x : List ℕ). x ++ b ∷ []) h, (behind_dash (codes "END") ((bytes_eq-Decides _ _).0 k), omega arith)))
      (λ _ is. absurd (none-some next is)))

  marker-fits : (marker : Marker) (taken : ℕ) → pending_bytes ≡ front → front ≡ take taken (marker_text marker) → (due : Option ℕ) → slice_get (marker_text marker) taken ≡ due → StepFits (Word (word.Marker marker taken)) pending_bytes characters front b (marker_action marker taken b due)
  marker-fits marker taken h f None due_is = tt
  marker-fits marker taken h f (Some expected) due_is =
      let m : Mode = Word (word.Marker marker taken) in
      let text = marker_text marker in
      let P : Action → Type 0 = λ a. StepFits m pending_bytes characters front b a in
      let more : Action = Keep (Word (word.Marker marker (taken + 1))) in
      let last : Action = Keep (Word (word.Marked marker)) in
      let own : pending_bytes ++ b ∷ [] ≡ front ++ b ∷ [] = ap (λ (x : List ℕ). x ++ b ∷ []) h in
      let within = slice_get_within text taken expected due_is in
      let at : b ≡ expected → front ++ b ∷ [] ≡ take (taken + 1) text = λ e. ap (λ (x : List ℕ). x ++ b ∷ []) f ∙ (ap (λ (c : ℕ). take taken text ++ c ∷ []) (e ∙ sym (get_or_from_slice_get text taken expected 0 due_is)) ∙ sym (take_more text taken 0 within)) in
      cond_both (eqb b expected) (cond (ltb (taken + 1) (length text)) more last) (Refuse wrong.Byte) P
      (λ e. cond_both (ltb (taken + 1) (length text)) more last P
      (λ l. (own, (at (eqb-true b expected e), omega arith)))
      (λ l. (own, at (eqb-true b expected e) ∙ take_all (taken + 1) text (ltb-false (taken + 1) (length text) l))))
      (λ e. tt)

  word-step : (m : WordMode) → ModeFits (Word m) pending_bytes characters front → StepFits (Word m) pending_bytes characters front b (word_action m b)
  word-step word.Keyword h =
      let P : Action → Type 0 = λ a. StepFits (Word word.Keyword) pending_bytes characters front b a in
      cond_both (is_keyword_byte b) (Keep (Word word.Keyword)) (cond (eqb b 45) Dash End) P (λ e. (keeps b pending_bytes characters front h.0, keyword-more front b h.1 ((keyword_byte-decides b).0 e))) (λ e.
      cond_both (eqb b 45) Dash End P (λ d. dash-fits h.0 (eqb-true b 45 d))
      (λ d. kind-end (Word word.Keyword) keyword (token.keyword front) refl (tt, (h.0, h.1)) (λ t k. keyword-follows t front b k (not_from_Decides _ (keyword_byte-decides b) e) (eqb-false b 45 d))))
  word-step (word.Marker marker taken) h = marker-fits marker taken h.0 h.1.0 (slice_get (marker_text marker) taken) refl
  word-step (word.Marked marker) h =
      cond_both (is_keyword_byte b) (Refuse wrong.Byte) End (λ a. StepFits (Word (word.Marked marker)) pending_bytes characters front b a) (λ e. tt)
      (λ e. known-end (Word (word.Marked marker)) (marker_token marker) refl (marker-follows marker front b (not_from_Decides _ (keyword_byte-decides b) e)))
  word-step word.Exclamation h =
      cond_both (is_upper b) (Keep (Word word.UserKeyword)) (Refuse wrong.Byte) (λ a. StepFits (Word word.Exclamation) pending_bytes characters front b a)
      (λ e. (keeps b pending_bytes characters front h.0, (b ∷ [], ap (λ (x : List ℕ). x ++ b ∷ []) h.1, ((upper-decides b).0 e, tt)))) (λ e. tt)
  word-step word.UserKeyword h =
      let P : Action → Type 0 = λ a. StepFits (Word word.UserKeyword) pending_bytes characters front b a in
      cond_both (is_keyword_byte b) (Keep (Word word.UserKeyword)) (cond (eqb b 45) (Refuse wrong.Byte) End) P
      (λ e. (keeps b pending_bytes characters front h.0, (h.1.0 ++ b ∷ [], ap (λ (x : List ℕ). x ++ b ∷ []) h.1.1, keyword-more h.1.0 b h.1.2 ((keyword_byte-decides b).0 e)))) (λ e.
      cond_both (eqb b 45) (Refuse wrong.Byte) End P (λ d. tt)
      (λ d. kind-end (Word word.UserKeyword) user_keyword (token.user_keyword h.1.0) refl (tt, (h.0 ∙ h.1.1, h.1.2)) (λ t k. user_keyword-follows t front b k (not_from_Decides _ (keyword_byte-decides b) e) (eqb-false b 45 d))))
  word-step word.Point h =
      cond_both (is_upper b) (Keep (Word word.Item)) (Refuse wrong.Byte) (λ a. StepFits (Word word.Point) pending_bytes characters front b a) (λ e. (keeps b pending_bytes characters front h.0, tt)) (λ e. tt)
  word-step word.Item h =
      let P : Action → Type 0 = λ a. StepFits (Word word.Item) pending_bytes characters front b a in
      let own = keeps b pending_bytes characters front h.0 in
      cond_both (is_keyword_byte b) (Keep (Word word.Item)) (cond (eqb b 46) Close (Refuse wrong.Byte)) P (λ e. (own, tt)) (λ e.
      cond_both (eqb b 46) Close (Refuse wrong.Byte) P (λ d. spelled-ends item (pending_bytes ++ b ∷ []) (front ++ b ∷ []) own) (λ d. tt))

pub word-fits : (m : WordMode) (b : ℕ) (pending_bytes characters front : List ℕ) → ModeFits (Word m) pending_bytes characters front → StepFits (Word m) pending_bytes characters front b (word_action m b)
word-fits m b pending_bytes characters front h = word-step b pending_bytes characters front m h

pub word-ends : (m : WordMode) (pending_bytes characters front : List ℕ) → ModeFits (Word m) pending_bytes characters front → EndFits (Word m) pending_bytes characters front
word-ends word.Keyword pending_bytes characters front h found t is means = spelled-ends keyword pending_bytes front h.0 found t is means
word-ends (word.Marked marker) pending_bytes characters front h found t is means =
    subst (λ (u : Token). Spells u front) (subst (λ f. Means f t) (sym (same_Some _ _ is)) means) (marker-spells marker front h.1)
word-ends word.UserKeyword pending_bytes characters front h found t is means = spelled-ends user_keyword pending_bytes front h.0 found t is means
word-ends _ pending_bytes characters front h found t is means = absurd (none-some found is)

-- ---- names

module _ (b : ℕ) (pending_bytes characters front : List ℕ) where
  -- one digit more
  digit-fits : (m : NameMode) (value : ℕ) (digits : List ℕ) → front ≡ 35 ∷ digits → AllDigits digits → value ≡ number_of digits → IsDigit b → StepFits (Name m) pending_bytes characters front b (name_digit_action value (b - 48))
  digit-fits m value digits f h v d =
      let more : ℕ = value * 10 + (b - 48) in
      cond_both (ltb more (2 ^ 64)) (Skip (Name (name_mode.Digits more))) (Refuse wrong.NameRange) (λ a. StepFits (Name m) pending_bytes characters front b a) (λ e. (
        digits ++ b ∷ [],
        ap (λ (x : List ℕ). x ++ b ∷ []) f,
        let l = length_push digits b in omega arith,
        digits_append digits (b ∷ []) h (d, tt),
        ap (λ (n : ℕ). n * 10 + (b - 48)) v ∙ sym (number-more digits b),
        ltb-true more (2 ^ 64) e,
      ))
      (λ e. tt)

  name-step : (m : NameMode) → NameFits m front → StepFits (Name m) pending_bytes characters front b (name_action m b)
  name-step name_mode.Hash h =
      cond_both (is_digit b) (name_digit_action 0 (b - 48)) (cond (is_upper b) (Refuse (wrong.LeftOut ConstantName)) (Refuse wrong.Name)) (λ a. StepFits (Name name_mode.Hash) pending_bytes characters front b a)
      (λ e. digit-fits name_mode.Hash 0 [] h tt refl ((digit-decides b).0 e))
      (λ e. cond_both (is_upper b) (Refuse (wrong.LeftOut ConstantName)) (Refuse wrong.Name) (λ a. StepFits (Name name_mode.Hash) pending_bytes characters front b a) (λ _. tt) (λ _. tt))
  name-step (name_mode.Digits value) h =
      cond_both (is_digit b) (name_digit_action value (b - 48)) End (λ a. StepFits (Name (name_mode.Digits value)) pending_bytes characters front b a)
      (λ e. digit-fits (name_mode.Digits value) value h.0 h.1 h.3 h.4 ((digit-decides b).0 e))
      (λ e. known-end b pending_bytes characters front (Name (name_mode.Digits value)) (token.name value) refl (not_from_Decides _ (digit-decides b) e))

pub name-fits : (m : NameMode) (b : ℕ) (pending_bytes characters front : List ℕ) → ModeFits (Name m) pending_bytes characters front → StepFits (Name m) pending_bytes characters front b (name_action m b)
name-fits m b pending_bytes characters front h = name-step b pending_bytes characters front m h

pub name-ends : (m : NameMode) (pending_bytes characters front : List ℕ) → ModeFits (Name m) pending_bytes characters front → EndFits (Name m) pending_bytes characters front
name-ends name_mode.Hash pending_bytes characters front h found t is means = absurd (none-some found is)
name-ends (name_mode.Digits value) pending_bytes characters front h found t is means =
    let own : SpellsName front value = record { form = record { digits = h.0; bytes_are = h.1; some_digits = h.2; are_digits = h.3 }; value_is = h.4; in_range = h.5 } in
    subst (λ (u : Token). Spells u front) (subst (λ f. Means f t) (sym (same_Some _ _ is)) means) own

-- ---- binaries

module _ (b : ℕ) (pending_bytes characters front : List ℕ) where
  close-fits : (m : BinaryMode) → pending_bytes ≡ front → StepFits (Binary m) pending_bytes characters front b Close
  close-fits m h = spelled-ends bits (pending_bytes ++ b ∷ []) (front ++ b ∷ []) (keeps b pending_bytes characters front h)

  binary-step : (m : BinaryMode) → pending_bytes ≡ front → StepFits (Binary m) pending_bytes characters front b (binary_action m b)
  binary-step binary.Quote h =
      cond_both (leb 48 b && leb b 51) (Keep (Binary (binary.Padding (b - 48)))) (Refuse wrong.Binary) (λ a. StepFits (Binary binary.Quote) pending_bytes characters front b a) (λ e. keeps b pending_bytes characters front h) (λ e. tt)
  binary-step (binary.Padding padding) h =
      let P : Action → Type 0 = λ a. StepFits (Binary (binary.Padding padding)) pending_bytes characters front b a in
      let room = has_zero_padding padding (hex_value b) in
      cond_both (is_hex_digit b) (cond room (Keep (Binary binary.Hex)) (Refuse wrong.Binary)) (cond (eqb b 34 && eqb padding 0) Close (Refuse wrong.Binary)) P
      (λ e. cond_both room (Keep (Binary binary.Hex)) (Refuse wrong.Binary) P (λ _. keeps b pending_bytes characters front h) (λ _. tt))
      (λ e. cond_both (eqb b 34 && eqb padding 0) Close (Refuse wrong.Binary) P (λ _. close-fits (binary.Padding padding) h) (λ _. tt))
  binary-step binary.Hex h =
      let P : Action → Type 0 = λ a. StepFits (Binary binary.Hex) pending_bytes characters front b a in
      cond_both (is_hex_digit b) (Keep (Binary binary.Hex)) (cond (eqb b 34) Close (Refuse wrong.Binary)) P (λ e. keeps b pending_bytes characters front h)
      (λ e. cond_both (eqb b 34) Close (Refuse wrong.Binary) P (λ _. close-fits binary.Hex h) (λ _. tt))

pub binary-fits : (m : BinaryMode) (b : ℕ) (pending_bytes characters front : List ℕ) → ModeFits (Binary m) pending_bytes characters front → StepFits (Binary m) pending_bytes characters front b (binary_action m b)
binary-fits m b pending_bytes characters front h = binary-step b pending_bytes characters front m h

pub binary-ends : (m : BinaryMode) (pending_bytes characters front : List ℕ) → ModeFits (Binary m) pending_bytes characters front → EndFits (Binary m) pending_bytes characters front
binary-ends m pending_bytes characters front h found t is means = absurd (none-some found is)

-- ---- between tokens

opens-text : (b : ℕ) → b ≡ 39 → ModeFits (Text text_mode.Inside) [] [] (b ∷ [])
opens-text b e = ([], ap (λ (c : ℕ). c ∷ []) e, record { units = []; are_units = tt; bytes_are = refl; characters_are = refl })

-- a test for one byte, and what the others do
one-byte : (b n : ℕ) (x y : Action) → (b ≡ n → FirstFits b x) → FirstFits b y → FirstFits b (cond (eqb b n) x y)
one-byte b n x y p q = cond_both (eqb b n) x y (FirstFits b) (λ e. p (eqb-true b n e)) (λ e. q)

module _ (b : ℕ) where
  single-byte : (n : ℕ) → b ≡ n → b ∷ [] ≡ n ∷ []
  single-byte n e = ap (λ (c : ℕ). c ∷ []) e

  mark-fits : FirstFits b (punctuation_action b)
  mark-fits =
      one-byte b 44 _ _ (λ e. single-byte 44 e)
      (one-byte b 35 _ _ (λ e. single-byte 35 e)
      (one-byte b 40 _ _ (λ e. single-byte 40 e)
      (one-byte b 41 _ _ (λ e. single-byte 41 e)
      (one-byte b 39 _ _ (λ e. opens-text b e)
      (one-byte b 46 _ _ (λ e. (refl, tt))
      (one-byte b 59 _ _ (λ e. single-byte 59 e)
      (one-byte b 61 _ _ (λ e. single-byte 61 e)
      (one-byte b 36 _ _ (λ e. single-byte 36 e)
      (one-byte b 42 _ _ (λ e. single-byte 42 e)
      (one-byte b 43 _ _ (λ e. (refl, (plus, single-byte 43 e)))
      (one-byte b 45 _ _ (λ e. (refl, (minus, single-byte 45 e)))
      (one-byte b 34 _ _ (λ e. refl)
      (one-byte b 33 _ _ (λ e. (refl, single-byte 33 e))
      (one-byte b 47 _ _ (λ e. inr (refl, e))
      (one-byte b 38 _ _ (λ e. tt)
      (one-byte b 64 _ _ (λ e. tt) tt))))))))))))))))

pub first-fits : (b : ℕ) → FirstFits b (between_action b)
first-fits b =
    cond_both (is_blank b) (Pass Between) _ (FirstFits b) (λ e. inl (refl, (blank-decides b).0 e)) (λ _.
    cond_both (is_digit b) (Keep (Number number.Whole)) _ (FirstFits b) (λ e. (refl, record { sign = none; digits = b ∷ []; bytes_are = refl; some_digits = omega arith; are_digits = ((digit-decides b).0 e, tt) })) (λ _.
    cond_both (is_upper b) (Keep (Word word.Keyword)) (punctuation_action b) (FirstFits b) (λ e. (refl, ((upper-decides b).0 e, tt))) (λ _. mark-fits b)))

-- ---- every mode

-- each byte of an open token fits, if it does in a string
pub mode-fits : ((m : TextMode) (b : ℕ) (pending_bytes characters front : List ℕ) → ModeFits (Text m) pending_bytes characters front → StepFits (Text m) pending_bytes characters front b (text_action m b))
    → (m : Mode) (b : ℕ) (pending_bytes characters front : List ℕ) → ModeFits m pending_bytes characters front → StepFits m pending_bytes characters front b (advance m b)
mode-fits text-fits (Number m) b pending_bytes characters front h = number-fits m b pending_bytes characters front h
mode-fits text-fits (Word m) b pending_bytes characters front h = word-fits m b pending_bytes characters front h
mode-fits text-fits (Name m) b pending_bytes characters front h = name-fits m b pending_bytes characters front h
mode-fits text-fits (Binary m) b pending_bytes characters front h = binary-fits m b pending_bytes characters front h
mode-fits text-fits (Text m) b pending_bytes characters front h = text-fits m b pending_bytes characters front h
mode-fits text-fits _ b pending_bytes characters front h = absurd h

-- the token of an open mode is spelled by its bytes, if a string is
pub mode-ends : ((m : TextMode) (pending_bytes characters front : List ℕ) → ModeFits (Text m) pending_bytes characters front → EndFits (Text m) pending_bytes characters front)
    → (m : Mode) (pending_bytes characters front : List ℕ) → ModeFits m pending_bytes characters front → EndFits m pending_bytes characters front
mode-ends text-ends (Number m) pending_bytes characters front h found t is means = number-ends m pending_bytes characters front h found t is means
mode-ends text-ends (Word m) pending_bytes characters front h found t is means = word-ends m pending_bytes characters front h found t is means
mode-ends text-ends (Name m) pending_bytes characters front h found t is means = name-ends m pending_bytes characters front h found t is means
mode-ends text-ends (Binary m) pending_bytes characters front h found t is means = binary-ends m pending_bytes characters front h found t is means
mode-ends text-ends (Text m) pending_bytes characters front h found t is means = text-ends m pending_bytes characters front h found t is means
mode-ends text-ends _ pending_bytes characters front h found t is means = absurd h
