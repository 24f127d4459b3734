-- What is no whole token yet goes on over no `;`, a string apart.
use Rattle.std.proofs.Common.{◌≡◌, ◌≢◌, ◌⊎◌, ◌-◌, ◌+◌, ◌*◌, ℕ, zero, suc, Bool, true, false, ◌==◌, ◌&&◌, ◌||◌, nat_le, nat_lt, ◌^◌, length, if◌then◌else◌, List, [], ◌∷◌, Option, Some, None, inl, inr, refl, sym, ap, subst, ◌∙◌, arith}
use Rattle.std.proofs.lemmas.Bool.{cond_both, eqb-true}
use Rattle.std.specs.List.{slice_get, AllByRecursion as Each}
use Rattle.std.specs.Prelude.{Contains, codes}
use Rattle.std.specs.Str.{bytes_eq}
use Rattle.p21_scan.specs.Bytes.{is_blank, is_keyword_byte, is_upper}
use Rattle.p21_scan.specs.Hex.{hex_value, is_hex_digit}
use Rattle.p21_spec_basics.proofs.Members.{Contains-cases, Contains-none}
use Rattle.p21_spec_basics.specs.Digits.{is_digit}
use Rattle.p21_spec_exchange.specs.Pending.{Tail, nothing, open_comment, slash, unfinished}
use Rattle.p21_spec_survey.specs.Survey.{IsOpenTail}
use Rattle.p21_tokens_automaton.proofs.Sound.{FirstFits, TailIs}
use Rattle.p21_tokens_automaton.proofs.Steps.{lex-byte}
use Rattle.p21_tokens_automaton.proofs.TokenSound.{first-fits}
use Rattle.p21_tokens_automaton.specs.Reading.{Answer, FoundToken, SizedToken, State, act, before, continue_marker, keep, lex, marker_of, open_at, skip, start, stopped, with_token_in_front, without_tokens}
use Rattle.p21_tokens_automaton.specs.Step.{advance, between_action, binary_action, has_zero_padding, marker_action, marker_text, mode_behind_digit, name_action, name_digit_action, non_digit_action, number_action, punctuation_action, word_action}
use Rattle.p21_tokens_automaton.specs.declared.mode.Absent.TheVariants.{ConstantName, Scope, ValueName}
use Rattle.p21_tokens_automaton.specs.declared.mode.Action.{Action}
use Rattle.p21_tokens_automaton.specs.declared.mode.Action.TheVariants.{Pass, Skip, Keep, Put, Give, Close, End, Dash, Refuse}
use Rattle.p21_tokens_automaton.specs.declared.mode.BinaryMode.{BinaryMode}
use Rattle.p21_tokens_automaton.specs.declared.mode.BinaryMode.TheVariants as binary
use Rattle.p21_tokens_automaton.specs.declared.mode.Marker.{Marker}
use Rattle.p21_tokens_automaton.specs.declared.mode.Marker.TheVariants.{Begin, Finish}
use Rattle.p21_tokens_automaton.specs.declared.mode.Mode.{Mode}
use Rattle.p21_tokens_automaton.specs.declared.mode.Mode.TheVariants.{Between, Slash, Number, Word, Name, Binary, Text}
use Rattle.p21_tokens_automaton.specs.declared.mode.NameMode.{NameMode}
use Rattle.p21_tokens_automaton.specs.declared.mode.NameMode.TheVariants as name
use Rattle.p21_tokens_automaton.specs.declared.mode.NumberMode.{NumberMode}
use Rattle.p21_tokens_automaton.specs.declared.mode.NumberMode.TheVariants as number
use Rattle.p21_tokens_automaton.specs.declared.mode.Single.TheVariants as single
use Rattle.p21_tokens_automaton.specs.declared.mode.TextMode.TheVariants as text
use Rattle.p21_tokens_automaton.specs.declared.mode.WordMode.{WordMode}
use Rattle.p21_tokens_automaton.specs.declared.mode.WordMode.TheVariants as word
use Rattle.p21_tokens_automaton.specs.declared.mode.Wrong.{Wrong}
use Rattle.p21_tokens_automaton.specs.declared.mode.Wrong.TheVariants as wrong

-- ---- a byte behind an open token that is no string

-- a token is open that is no string
abbrev IsQuiet : Mode → Type 0
IsQuiet (Number mode) = Unit {0}
IsQuiet (Word mode) = Unit {0}
IsQuiet (Name mode) = Unit {0}
IsQuiet (Binary mode) = Unit {0}
IsQuiet other = ⊥

-- the byte goes on with one and is no `;`, or it ends the token or is refused
abbrev GoesQuiet : ℕ → Action → Type 0
GoesQuiet byte (Skip mode) = IsQuiet mode × (byte ≢ 59)
GoesQuiet byte (Keep mode) = IsQuiet mode × (byte ≢ 59)
GoesQuiet byte Dash = byte ≢ 59
GoesQuiet byte Close = Unit {0}
GoesQuiet byte End = Unit {0}
GoesQuiet byte (Refuse wrong) = Unit {0}
GoesQuiet byte other = ⊥

-- a byte of a class in which no `;` is
unlike : (test : ℕ → Bool) → test 59 ≡ false → (b : ℕ) → test b ≡ true → b ≢ 59
unlike test apart b holds is = let clash : false ≡ true = sym apart ∙ (ap test (sym is) ∙ holds) in cc

module _ (b : ℕ) where
  both : (test : Bool) (x y : Action) → (test ≡ true → GoesQuiet b x) → (test ≡ false → GoesQuiet b y) → GoesQuiet b (if test then x else y)
  both test x y = cond_both test x y (GoesQuiet b)

  non-digit-quiet : (m : NumberMode) → GoesQuiet b (non_digit_action m b)
  non-digit-quiet number.Sign = tt
  non-digit-quiet number.Whole = both (b == 46) (Keep (Number number.Fraction)) End (λ q. (tt, unlike (λ (x : ℕ). x == 46) refl b q))
      (λ _. tt)
  non-digit-quiet number.Fraction = both (b == 69) (Keep (Number number.Exponent)) End (λ q. (tt, unlike (λ (x : ℕ). x == 69) refl b q))
      (λ _. tt)
  non-digit-quiet number.Exponent = both (b == 43 || b == 45) (Keep (Number number.ExponentSign)) (Refuse wrong.Number)
      (λ q. (tt, unlike (λ (x : ℕ). x == 43 || x == 45) refl b q)) (λ _. tt)
  non-digit-quiet number.ExponentSign = tt
  non-digit-quiet number.ExponentDigits = tt

  number-quiet : (m : NumberMode) → GoesQuiet b (number_action m b)
  number-quiet m = both (is_digit b) (Keep (Number (mode_behind_digit m))) (non_digit_action m b) (λ q. (tt, unlike is_digit refl b q))
      (λ _. non-digit-quiet m)

  -- no byte of a marker is one
  marker-bytes : (marker : Marker) → Each (λ (x : ℕ). (x == 59) ≡ false) (marker_text marker)
  marker-bytes Begin = (refl, (refl, (refl, (refl, (refl, (refl, (refl, (refl, (refl, (refl, (refl, (refl, tt))))))))))))
  marker-bytes Finish = (
    refl,
    (
      refl,
      (
        refl,
        (
          refl,
          (
            refl,
            (
              refl,
              (
                refl,
                (
                  refl,
                  (
                    refl,
                    (
                      refl,
                      (
                        refl,
                        (
                          refl,
                          (
                            refl,
                            (
                              refl,
                              (
                                refl,
                                (
                                  refl,
                                  tt,
                                ),
                              ),
                            ),
                          ),
                        ),
                      ),
                    ),
                  ),
                ),
              ),
            ),
          ),
        ),
      ),
    ),
  )

  each-at : (P : ℕ → Type 0) (xs : List ℕ) (i x : ℕ) → Each P xs → slice_get xs i ≡ Some x → P x
  each-at P [] i x each at = absurd cc
  each-at P (y ∷ xs) zero x each at = let same : y ≡ x = cc in subst P same each.0
  each-at P (y ∷ xs) (suc i) x each at = each-at P xs i x each.1 at

  due-unlike : (due : ℕ) → (due == 59) ≡ false → (59 == due) ≡ false
  due-unlike due apart = other (59 == due) refl
    where
      other : (same : Bool) → (59 == due) ≡ same → (59 == due) ≡ false
      other false is = is
      other true is = let clash : (59 == 59) ≡ false = subst (λ (x : ℕ). (x == 59) ≡ false) (sym (eqb-true 59 due is)) apart in absurd cc

  due-quiet : (marker : Marker) (taken : ℕ) (o : Option ℕ) → slice_get (marker_text marker) taken ≡ o
      → GoesQuiet b (marker_action marker taken b o)
  due-quiet marker taken None at = tt
  due-quiet marker taken (Some due) at =
      let goes : Action = Keep (Word (word.Marker marker (taken + 1))) in
      let ends : Action = Keep (Word (word.Marked marker)) in
      let further : Action = if nat_lt (taken + 1) (length (marker_text marker)) then goes else ends in
      both (b == due) further (Refuse wrong.Byte) (λ q.
      let apart : b ≢ 59 = unlike (λ (x : ℕ). x == due) (due-unlike due
      (each-at (λ (x : ℕ). (x == 59) ≡ false) (marker_text marker) taken due (marker-bytes marker) at)) b q in
      both (nat_lt (taken + 1) (length (marker_text marker))) goes ends (λ _. (tt, apart)) (λ _. (tt, apart))) (λ _. tt)

  begin-quiet : (m : WordMode) → GoesQuiet b (if is_upper b then Keep (Word m) else Refuse wrong.Byte)
  begin-quiet m = both (is_upper b) (Keep (Word m)) (Refuse wrong.Byte) (λ q. (tt, unlike is_upper refl b q)) (λ _. tt)

  -- a keyword byte, or another one
  keyword-quiet : (m : WordMode) (y : Action) → GoesQuiet b y → GoesQuiet b (if is_keyword_byte b then Keep (Word m) else y)
  keyword-quiet m y other = both (is_keyword_byte b) (Keep (Word m)) y (λ q. (tt, unlike is_keyword_byte refl b q)) (λ _. other)

  word-quiet : (m : WordMode) → GoesQuiet b (word_action m b)
  word-quiet word.Keyword = keyword-quiet word.Keyword (if b == 45 then Dash else End)
      (both (b == 45) Dash End (λ q. unlike (λ (x : ℕ). x == 45) refl b q) (λ _. tt))
  word-quiet (word.Marker marker taken) = due-quiet marker taken (slice_get (marker_text marker) taken) refl
  word-quiet (word.Marked marker) = both (is_keyword_byte b) (Refuse wrong.Byte) End (λ _. tt) (λ _. tt)
  word-quiet word.Exclamation = begin-quiet word.UserKeyword
  word-quiet word.UserKeyword = keyword-quiet word.UserKeyword (if b == 45 then Refuse wrong.Byte else End)
      (both (b == 45) (Refuse wrong.Byte) End (λ _. tt) (λ _. tt))
  word-quiet word.Point = begin-quiet word.Item
  word-quiet word.Item = keyword-quiet word.Item (if b == 46 then Close else Refuse wrong.Byte)
      (both (b == 46) Close (Refuse wrong.Byte) (λ _. tt) (λ _. tt))

  digit-quiet : (value : ℕ) → b ≢ 59 → GoesQuiet b (name_digit_action value (b - 48))
  digit-quiet value apart = both (nat_lt (value * 10 + (b - 48)) (2 ^ 64)) (Skip (Name (name.Digits (value * 10 + (b - 48)))))
      (Refuse wrong.NameRange) (λ _. (tt, apart)) (λ _. tt)

  name-quiet : (m : NameMode) → GoesQuiet b (name_action m b)
  name-quiet name.Hash =
      let other : Action = if is_upper b then Refuse (wrong.LeftOut ConstantName) else Refuse wrong.Name in
      both (is_digit b) (name_digit_action 0 (b - 48)) other (λ q. digit-quiet 0 (unlike is_digit refl b q)) (λ _.
      both (is_upper b) (Refuse (wrong.LeftOut ConstantName)) (Refuse wrong.Name) (λ _. tt) (λ _. tt))
  name-quiet (name.Digits value) = both (is_digit b) (name_digit_action value (b - 48)) End
      (λ q. digit-quiet value (unlike is_digit refl b q)) (λ _. tt)

  -- the first hex digit, or a later one
  hex-quiet : (test : Bool) → b ≢ 59 → GoesQuiet b (if test then Keep (Binary binary.Hex) else Refuse wrong.Binary)
  hex-quiet test apart = both test (Keep (Binary binary.Hex)) (Refuse wrong.Binary) (λ _. (tt, apart)) (λ _. tt)

  close-quiet : (test : Bool) → GoesQuiet b (if test then Close else Refuse wrong.Binary)
  close-quiet test = both test Close (Refuse wrong.Binary) (λ _. tt) (λ _. tt)

  binary-quiet : (m : BinaryMode) → GoesQuiet b (binary_action m b)
  binary-quiet binary.Quote =
      both (nat_le 48 b && nat_le b 51) (Keep (Binary (binary.Padding (b - 48)))) (Refuse wrong.Binary)
      (λ q. (tt, unlike (λ (x : ℕ). nat_le 48 x && nat_le x 51) refl b q)) (λ _. tt)
  binary-quiet (binary.Padding padding) =
      let first : Bool = has_zero_padding padding (hex_value b) in
      let last : Bool = b == 34 && padding == 0 in
      both (is_hex_digit b) (if first then Keep (Binary binary.Hex) else Refuse wrong.Binary) (if last then Close else Refuse wrong.Binary)
      (λ q. hex-quiet first (unlike is_hex_digit refl b q)) (λ _. close-quiet last)
  binary-quiet binary.Hex =
      both (is_hex_digit b) (Keep (Binary binary.Hex)) (if b == 34 then Close else Refuse wrong.Binary)
      (λ q. (tt, unlike is_hex_digit refl b q)) (λ _. close-quiet (b == 34))

  mode-quiet : (m : Mode) → IsQuiet m → GoesQuiet b (advance m b)
  mode-quiet (Number m) q = number-quiet m
  mode-quiet (Word m) q = word-quiet m
  mode-quiet (Name m) q = name-quiet m
  mode-quiet (Binary m) q = binary-quiet m
  mode-quiet _ q = absurd q

marker-quiet : (p : List ℕ) (m : Mode) → marker_of p ≡ Some m → IsQuiet m
marker-quiet p m =
    let P : Option Mode → Type 0 = λ o. o ≡ Some m → IsQuiet m in
    let begins : Option Mode = Some (Word (word.Marker Begin 4)) in
    let ends : Option Mode = Some (Word (word.Marker Finish 4)) in
    let later : Option Mode = if bytes_eq p (codes "END") then ends else None in
    cond_both (bytes_eq p (codes "ISO")) begins later P (λ _ is. let same : Word (word.Marker Begin 4) ≡ m = cc in subst IsQuiet same tt)
    (λ _.
    cond_both (bytes_eq p (codes "END")) ends None P (λ _ is. let same : Word (word.Marker Finish 4) ≡ m = cc in subst IsQuiet same tt)
    (λ _ is. absurd cc))

-- ---- bytes that leave a token open

none-given : (x : SizedToken) (a : Answer) (e : State) → before x a ≡ without_tokens (open_at e) → ⊥
none-given x a e r = let p : x ∷ a.given ≡ [] = ap (λ (y : Answer). y.given) r in cc

not-open : (w : Wrong) (e : State) → without_tokens (stopped w) ≡ without_tokens (open_at e) → ⊥
not-open w e r = let p : stopped w ≡ open_at e = ap (λ (y : Answer). y.ending) r in cc

none-ended : (o : Option FoundToken) (size : ℕ) (a : Answer) (e : State) → with_token_in_front o size a ≡ without_tokens (open_at e) → ⊥
none-ended None size a e r = not-open wrong.Byte e r
none-ended (Some f) size a e r = none-given (record { found = f; size = size }) a e r

beyond : (b : ℕ) (bs : List ℕ) → b ≢ 59 → ¬ Contains bs 59 → ¬ Contains (b ∷ bs) 59
beyond b bs apart none has = elim (Contains-cases b bs 59 has) [ inl is ↦ apart is | inr more ↦ none more ]

-- what is said of the bytes from a state on
abbrev StaysQuiet : List ℕ → Type 0
StaysQuiet bytes = (s e : State) → IsQuiet s.mode → lex s bytes ≡ without_tokens (open_at e) → ¬ Contains bytes 59

quiet-byte : (b : ℕ) (bs : List ℕ) → StaysQuiet bs → StaysQuiet (b ∷ bs)
quiet-byte b bs deeper s e q r = at (advance s.mode b) (mode-quiet b s.mode q) (sym (lex-byte s b bs) ∙ r)
  where
    dashes : (o : Option Mode) → marker_of s.pending_bytes ≡ o → b ≢ 59
        → continue_marker o s b (λ next. lex next bs) ≡ without_tokens (open_at e) → ¬ Contains (b ∷ bs) 59
    dashes None is apart h = absurd (not-open wrong.Byte e h)
    dashes (Some m) is apart h = beyond b bs apart (deeper (keep s m b) e (marker-quiet s.pending_bytes m is) h)

    at : (a : Action) → GoesQuiet b a → act a s b (λ next. lex next bs) ≡ without_tokens (open_at e) → ¬ Contains (b ∷ bs) 59
    at (Pass m) g h = absurd g
    at (Skip m) g h = beyond b bs g.1 (deeper (skip s m) e g.0 h)
    at (Keep m) g h = beyond b bs g.1 (deeper (keep s m b) e g.0 h)
    at (Put m c) g h = absurd g
    at (Give one) g h = absurd g
    at Close g h = absurd (none-ended _ _ _ e h)
    at End g h = absurd (none-ended _ _ _ e h)
    at Dash g h = dashes (marker_of s.pending_bytes) refl g h
    at (Refuse w) g h = absurd (not-open w e h)

stays-quiet : (bytes : List ℕ) → StaysQuiet bytes
stays-quiet [] s e q r = λ has. Contains-none 59 has
stays-quiet (b ∷ bs) s e q r = quiet-byte b bs (stays-quiet bs) s e q r

-- ---- the first byte

abbrev FirstGoes : ℕ → Action → Type 0
FirstGoes b (Skip mode) = (IsQuiet mode × (b ≢ 59)) ⊎ (b ≡ 39)
FirstGoes b (Keep mode) = IsQuiet mode × (b ≢ 59)
FirstGoes b (Put mode character) = ⊥
FirstGoes b other = Unit {0}

module _ (b : ℕ) where
  by-mark : (c : ℕ) (x y : Action) → ((b == c) ≡ true → FirstGoes b x) → FirstGoes b y → FirstGoes b (if b == c then x else y)
  by-mark c x y here other = cond_both (b == c) x y (FirstGoes b) here (λ _. other)

  other-mark : (c : ℕ) → (59 == c) ≡ false → (b == c) ≡ true → b ≢ 59
  other-mark c apart q = unlike (λ (x : ℕ). x == c) apart b q

  mark-goes : FirstGoes b (punctuation_action b)
  mark-goes =
      by-mark 44 (Give single.Comma) _ (λ _. tt)
      (by-mark 35 (Skip (Name name.Hash)) _ (λ q. inl (tt, other-mark 35 refl q))
      (by-mark 40 (Give single.Left) _ (λ _. tt)
      (by-mark 41 (Give single.Right) _ (λ _. tt)
      (by-mark 39 (Skip (Text text.Inside)) _ (λ q. inr (eqb-true b 39 q))
      (by-mark 46 (Keep (Word word.Point)) _ (λ q. (tt, other-mark 46 refl q))
      (by-mark 59 (Give single.Semicolon) _ (λ _. tt)
      (by-mark 61 (Give single.Equals) _ (λ _. tt)
      (by-mark 36 (Give single.Dollar) _ (λ _. tt)
      (by-mark 42 (Give single.Star) _ (λ _. tt)
      (by-mark 43 (Keep (Number number.Sign)) _ (λ q. (tt, other-mark 43 refl q))
      (by-mark 45 (Keep (Number number.Sign)) _ (λ q. (tt, other-mark 45 refl q))
      (by-mark 34 (Keep (Binary binary.Quote)) _ (λ q. (tt, other-mark 34 refl q))
      (by-mark 33 (Keep (Word word.Exclamation)) _ (λ q. (tt, other-mark 33 refl q))
      (by-mark 47 (Pass Slash) _ (λ _. tt)
      (by-mark 38 (Refuse (wrong.LeftOut Scope)) _ (λ _. tt)
      (by-mark 64 (Refuse (wrong.LeftOut ValueName)) (Refuse wrong.Byte) (λ _. tt) tt))))))))))))))))

  first-goes : FirstGoes b (between_action b)
  first-goes =
      let marks : Action = punctuation_action b in
      let words : Action = if is_upper b then Keep (Word word.Keyword) else marks in
      let numbers : Action = if is_digit b then Keep (Number number.Whole) else words in
      cond_both (is_blank b) (Pass Between) numbers (FirstGoes b) (λ _. tt) (λ _.
      cond_both (is_digit b) (Keep (Number number.Whole)) words (FirstGoes b) (λ q. (tt, unlike is_digit refl b q)) (λ _.
      cond_both (is_upper b) (Keep (Word word.Keyword)) marks (FirstGoes b) (λ q. (tt, unlike is_upper refl b q)) (λ _. mark-goes)))

-- ---- what stands behind the last token that was found

pub open-tail : (e : State) (tail : Tail) → TailIs e tail → IsOpenTail tail
open-tail e nothing t = tt
open-tail e slash t = tt
open-tail e (open_comment inside) t = tt
open-tail e (unfinished []) t = absurd t.3
open-tail e (unfinished (b ∷ bs)) t = at (between_action b) (first-goes b) (first-fits b) (sym (lex-byte start b bs) ∙ t.2)
  where
    goes : (next : State) → IsQuiet next.mode → b ≢ 59 → lex next bs ≡ without_tokens (open_at e) → IsOpenTail (unfinished (b ∷ bs))
    goes next q apart h = inr (beyond b bs apart (stays-quiet bs next e q h))

    at : (a : Action) → FirstGoes b a → FirstFits b a → act a start b (λ next. lex next bs) ≡ without_tokens (open_at e)
        → IsOpenTail (unfinished (b ∷ bs))
    at (Pass m) g f h = absurd (elim f [
      | inl (is, separates) ↦ elim separates [ inl low ↦ (let high = t.3.0 in omega (arith, low, high)) | inr del ↦ t.3.1 del ]
      | inr (is, mark) ↦ t.3.2 mark
    ])
    at (Skip m) (inl g) f h = goes (skip start m) g.0 g.1 h
    at (Skip m) (inr is) f h = inl (bs, ap (λ (x : ℕ). x ∷ bs) is)
    at (Keep m) g f h = goes (keep start m b) g.0 g.1 h
    at (Put m c) g f h = absurd g
    at (Give one) g f h = absurd (none-given _ _ e h)
    at Close g f h = absurd f
    at End g f h = absurd f
    at Dash g f h = absurd f
    at (Refuse w) g f h = absurd (not-open w e h)
