-- Which fault a refusal has.
use Rattle.std.proofs.Common.{◌≡◌, ◌≢◌, ◌↔◌, ℕ, List, [], ◌∷◌, ◌++◌, inl, inr, refl, sym, ap, ◌∙◌, subst, Option, Some, None}
use Rattle.p21_spec_exchange.specs.Number.{RealForm}
use Rattle.p21_spec_exchange.specs.Pending.{Tail, nothing, unfinished, slash, open_comment}
use Rattle.p21_spec_exchange.specs.Token.{Token}
use Rattle.p21_tokens_automaton.proofs.Fits.{StepFits}
use Rattle.p21_tokens_automaton.proofs.Sound.{TailIs}
use Rattle.p21_tokens_automaton.proofs.Theorems.{form-found, steps-on}
use Rattle.p21_tokens_automaton.specs.Meaning.{IsOutOfRange, Means}
use Rattle.p21_tokens_automaton.specs.Reading.{State, FoundToken, spelled, real, ended_token, ended_token_in, closed_token, tokens_at_end}
use Rattle.p21_tokens_automaton.specs.Step.{advance}
use Rattle.p21_tokens_automaton.specs.declared.mode.Action.{Action}
use Rattle.p21_tokens_automaton.specs.declared.mode.Action.TheVariants.{Close, End, Refuse}
use Rattle.p21_tokens_automaton.specs.declared.mode.Mode.{Mode}
use Rattle.p21_tokens_automaton.specs.declared.mode.Mode.TheVariants.{Between, Slash, Comment, Star, Number, Word, Name, Binary, Text}
use Rattle.p21_tokens_automaton.specs.declared.mode.NumberMode.TheVariants as number_mode
use Rattle.p21_tokens_automaton.specs.declared.mode.WordMode.TheVariants as word_mode
use Rattle.p21_tokens_automaton.specs.declared.mode.NameMode.TheVariants as name_mode
use Rattle.p21_tokens_automaton.specs.declared.mode.TextMode.TheVariants as text_mode
use Rattle.p21_tokens_automaton.specs.declared.mode.Wrong.{Wrong}
use Rattle.p21_tokens_automaton.specs.declared.mode.Wrong.TheVariants as wrong
use Rattle.p21_tokens.specs.Fault.{fault_of, form_fault, end_fault}
use Rattle.p21_tokens.specs.Held.{Held, state_of}
use Rattle.p21_tokens.specs.Histories.{EndsInMode, EndsOutOfRange, IsOutOfRangeTail, NamesFaultAtByte, NamesFaultAtEnd}
use Rattle.p21_tokens.specs.Steps.{IsFaultAt, IsFaultAtEnd, IsFaultOf, MayNotEnd}
use Rattle.p21_tokens.specs.declared.fault.TokenFault.{TokenFault}
use Rattle.p21_tokens.specs.declared.fault.TokenFault.TheVariants as fault

-- ---- the mode behind a tail

pub ends-in : (e : State) (tail : Tail) → TailIs e tail → EndsInMode tail e.mode
ends-in e nothing t = ap (λ (s : State). s.mode) t
ends-in e (unfinished bytes) t = (e, t.2, refl)
ends-in e slash t = ap (λ (s : State). s.mode) t
ends-in e (open_comment inside) t = elim t.0 [
  | inl q ↦ inl (ap (λ (s : State). s.mode) q)
  | inr q ↦ inr (ap (λ (s : State). s.mode) q)
]

-- ---- a byte

-- only a byte behind a real is out of range
wrong-in_range : (w : Wrong) → fault_of w ≡ fault.NumberRange → ⊥
wrong-in_range wrong.Byte e = cc
wrong-in_range wrong.Directive e = cc
wrong-in_range wrong.CodePoint e = cc
wrong-in_range wrong.Utf8 e = cc
wrong-in_range wrong.Number e = cc
wrong-in_range wrong.Binary e = cc
wrong-in_range wrong.NameRange e = cc
wrong-in_range wrong.Name e = cc
wrong-in_range (wrong.LeftOut absent) e = cc

close-in_range : (m : Mode) → form_fault m Close ≡ fault.NumberRange → ⊥
close-in_range (Binary m) e = cc
close-in_range _ e = cc

range-ends : (m : Mode) (a : Action) → form_fault m a ≡ fault.NumberRange → a ≡ End
range-ends m End e = refl
range-ends m (Refuse w) e = absurd (wrong-in_range w e)
range-ends m Close e = absurd (close-in_range m e)
range-ends m _ e = absurd (cc)

close-named : (m : Mode) (pending_bytes : List ℕ) (x : TokenFault) → IsFaultOf fault.BadByte (closed_token m pending_bytes) x → x ≡ form_fault m Close
close-named (Word m) pending_bytes x n = n
close-named (Binary m) pending_bytes x n = n
close-named _ pending_bytes x n = n

-- a byte that ends no token is named by what it does, and one that ends a token by its range
action-named : (v : Held) (byte : ℕ) (a : Action) (x : TokenFault) → (a ≡ End → IsFaultOf fault.BadByte (ended_token (state_of v)) x → x ≡ fault.NumberRange) → IsFaultAt v byte a x → x ≡ form_fault v.mode a
action-named v byte End x range named = range refl named
action-named v byte Close x range named = close-named v.mode (v.pending_bytes ++ byte ∷ []) x named
action-named v byte (Refuse w) x range named = named
action-named v byte _ x range named = named

-- what is found of a real is named by its range
found-named : (none x : TokenFault) (e : State) (bytes : List ℕ) → TailIs e (unfinished bytes) → RealForm bytes → IsFaultOf none (ended_token e) x → x ≡ fault.NumberRange
found-named none x e bytes t form named = subst (λ (o : Option FoundToken). IsFaultOf none o x) (form-found e bytes t form) named form

tail-named : (x : TokenFault) (e : State) (tail : Tail) (byte : ℕ) → TailIs e tail → EndsOutOfRange tail byte → IsFaultOf fault.BadByte (ended_token e) x → x ≡ fault.NumberRange
tail-named x e (unfinished bytes) byte t o named = found-named fault.BadByte x e bytes t o.0 named
tail-named x e nothing byte t o named = absurd o
tail-named x e slash byte t o named = absurd o
tail-named x e (open_comment inside) byte t o named = absurd o

pub names-byte : (v : Held) (tail : Tail) (byte : ℕ) (x : TokenFault) → TailIs (state_of v) tail → (EndsOutOfRange tail byte ↔ (advance v.mode byte ≡ End)) → IsFaultAt v byte (advance v.mode byte) x → NamesFaultAtByte tail byte x
names-byte v tail byte x t range named =
    let is : x ≡ form_fault v.mode (advance v.mode byte) = action-named v byte (advance v.mode byte) x (λ q n. tail-named x (state_of v) tail byte t (range.1 q) n) named in
    record {
      mode = v.mode;
      ends_in = ends-in (state_of v) tail t;
      fault_is = is;
      out_of_range = (λ e. range.1 (range-ends v.mode (advance v.mode byte) (sym is ∙ e)), λ o. is ∙ ap (form_fault v.mode) (range.0 o));
    }

-- ---- the end of the bytes

-- a `;` ends each token that a byte behind it may end
semicolon-ends : (m : Mode) (pending_bytes characters : List ℕ) (f : FoundToken) → ended_token_in m pending_bytes characters ≡ Some f → advance m 59 ≡ End
semicolon-ends (Number number_mode.Whole) pending_bytes characters f e = refl
semicolon-ends (Number number_mode.Fraction) pending_bytes characters f e = refl
semicolon-ends (Number number_mode.ExponentDigits) pending_bytes characters f e = refl
semicolon-ends (Word word_mode.Keyword) pending_bytes characters f e = refl
semicolon-ends (Word (word_mode.Marked marker)) pending_bytes characters f e = refl
semicolon-ends (Word word_mode.UserKeyword) pending_bytes characters f e = refl
semicolon-ends (Name (name_mode.Digits value)) pending_bytes characters f e = refl
semicolon-ends (Text text_mode.Apostrophe) pending_bytes characters f e = refl
semicolon-ends _ pending_bytes characters f e = cc

-- where the end of the bytes ends no token that means something, but one, these are a real out of range
ends-real : (e : State) (bytes : List ℕ) (f : FoundToken) → TailIs e (unfinished bytes) → ended_token e ≡ Some f → ((found : FoundToken) (token : Token) → ended_token e ≡ Some found → Means found token → ⊥) → IsOutOfRange bytes 59
ends-real e bytes f t q n =
    (subst (StepFits e.mode e.pending_bytes e.characters bytes 59) (semicolon-ends e.mode e.pending_bytes e.characters f q) (steps-on e bytes 59 t)).no_token (λ found token p m. n found token p m)

real-mode : (m : Mode) (pending_bytes characters bytes : List ℕ) → ended_token_in m pending_bytes characters ≡ Some (spelled real bytes) → end_fault m ≡ fault.NumberRange
real-mode (Number number_mode.Fraction) pending_bytes characters bytes e = refl
real-mode (Number number_mode.ExponentDigits) pending_bytes characters bytes e = refl
real-mode (Number number_mode.Whole) pending_bytes characters bytes e = cc
real-mode (Word word_mode.Keyword) pending_bytes characters bytes e = cc
real-mode (Word (word_mode.Marked marker)) pending_bytes characters bytes e = cc
real-mode (Word word_mode.UserKeyword) pending_bytes characters bytes e = cc
real-mode (Name (name_mode.Digits value)) pending_bytes characters bytes e = cc
real-mode (Text text_mode.Apostrophe) pending_bytes characters bytes e = cc
real-mode _ pending_bytes characters bytes e = cc

real-named : (m : Mode) (pending_bytes characters bytes : List ℕ) (x : TokenFault) → ended_token_in m pending_bytes characters ≡ Some (spelled real bytes) → RealForm bytes → IsFaultAtEnd m pending_bytes characters x → x ≡ fault.NumberRange
real-named (Number m) pending_bytes characters bytes x e form named = subst (λ (o : Option FoundToken). IsFaultOf fault.EndsEarly o x) e named form
real-named (Word m) pending_bytes characters bytes x e form named = subst (λ (o : Option FoundToken). IsFaultOf fault.EndsEarly o x) e named form
real-named (Name m) pending_bytes characters bytes x e form named = subst (λ (o : Option FoundToken). IsFaultOf fault.EndsEarly o x) e named form
real-named (Binary m) pending_bytes characters bytes x e form named = subst (λ (o : Option FoundToken). IsFaultOf fault.EndsEarly o x) e named form
real-named (Text text_mode.Apostrophe) pending_bytes characters bytes x e form named = cc
real-named (Text _) pending_bytes characters bytes x e form named = cc
real-named _ pending_bytes characters bytes x e form named = cc

-- where nothing is found, what is open names the fault
none-named : (m : Mode) (pending_bytes characters : List ℕ) (x : TokenFault) → ended_token_in m pending_bytes characters ≡ None → IsFaultAtEnd m pending_bytes characters x → (x ≡ end_fault m) × (x ≢ fault.NumberRange)
none-named (Number number_mode.Fraction) pending_bytes characters x e named = cc
none-named (Number number_mode.ExponentDigits) pending_bytes characters x e named = cc
none-named (Number number_mode.Whole) pending_bytes characters x e named = cc
none-named (Number _) pending_bytes characters x e named = (named, λ q. let clash : fault.EndsEarly ≡ fault.NumberRange = sym named ∙ q in cc)
none-named (Word m) pending_bytes characters x e named = let is : x ≡ fault.EndsEarly = subst (λ (o : Option FoundToken). IsFaultOf fault.EndsEarly o x) e named in (is, λ q. let clash : fault.EndsEarly ≡ fault.NumberRange = sym is ∙ q in cc)
none-named (Name m) pending_bytes characters x e named = let is : x ≡ fault.EndsEarly = subst (λ (o : Option FoundToken). IsFaultOf fault.EndsEarly o x) e named in (is, λ q. let clash : fault.EndsEarly ≡ fault.NumberRange = sym is ∙ q in cc)
none-named (Text m) pending_bytes characters x e named = (named, λ q. let clash : fault.OpenString ≡ fault.NumberRange = sym named ∙ q in cc)
none-named Comment pending_bytes characters x e named = (named, λ q. let clash : fault.OpenComment ≡ fault.NumberRange = sym named ∙ q in cc)
none-named Star pending_bytes characters x e named = (named, λ q. let clash : fault.OpenComment ≡ fault.NumberRange = sym named ∙ q in cc)
none-named Slash pending_bytes characters x e named = (named, λ q. let clash : fault.EndsEarly ≡ fault.NumberRange = sym named ∙ q in cc)
none-named (Binary m) pending_bytes characters x e named = (named, λ q. let clash : fault.EndsEarly ≡ fault.NumberRange = sym named ∙ q in cc)
none-named Between pending_bytes characters x e named = (named, λ q. let clash : fault.EndsEarly ≡ fault.NumberRange = sym named ∙ q in cc)

module _ (v : Held) (x : TokenFault) (n : MayNotEnd v.mode v.pending_bytes v.characters) (named : IsFaultAtEnd v.mode v.pending_bytes v.characters x) where
  no-token : (found : FoundToken) (token : Token) → ended_token (state_of v) ≡ Some found → Means found token → ⊥
  no-token found token e m = n v.size (record { found = found; size = v.size } ∷ []) (record { token = token; size = v.size } ∷ []) (ap (λ (o : Option FoundToken). tokens_at_end o v.mode v.size) e) (m, refl, tt)

  open-named : (bytes : List ℕ) → TailIs (state_of v) (unfinished bytes) → (x ≡ end_fault v.mode) × ((x ≡ fault.NumberRange) ↔ IsOutOfRangeTail (unfinished bytes))
  open-named bytes t = at (ended_token (state_of v)) refl
    where
      at : (o : Option FoundToken) → ended_token (state_of v) ≡ o → (x ≡ end_fault v.mode) × ((x ≡ fault.NumberRange) ↔ IsOutOfRangeTail (unfinished bytes))
      at None e =
          let is = none-named v.mode v.pending_bytes v.characters x e named in
          (is.0, (λ q. absurd (is.1 q), λ o. let clash : (let none : Option FoundToken = None in none) ≡ Some (spelled real bytes) = sym e ∙ form-found (state_of v) bytes t o.0 in cc))
      at (Some f) e =
          let out = ends-real (state_of v) bytes f t e no-token in
          let found = form-found (state_of v) bytes t out.0 in
          let is = real-named v.mode v.pending_bytes v.characters bytes x found out.0 named in
          (is ∙ sym (real-mode v.mode v.pending_bytes v.characters bytes found), (λ _. (out.0, out.1), λ _. is))

  pub names-end : (tail : Tail) → TailIs (state_of v) tail → NamesFaultAtEnd tail x
  names-end (unfinished bytes) t =
      let is = open-named bytes t in
      record { mode = v.mode; ends_in = ends-in (state_of v) (unfinished bytes) t; fault_is = is.0; out_of_range = is.1 }
  names-end nothing t = absurd (subst (λ (s : State). MayNotEnd s.mode s.pending_bytes s.characters) t n 0 [] [] refl tt)
  names-end slash t =
      let is = subst (λ (s : State). IsFaultAtEnd s.mode s.pending_bytes s.characters x) t named in
      record { mode = Slash; ends_in = refl; fault_is = is; out_of_range = (λ q. absurd (let clash : fault.EndsEarly ≡ fault.NumberRange = sym is ∙ q in cc), λ o. absurd o) }
  names-end (open_comment inside) t = elim t.0 [
    | inl q ↦
        let is = subst (λ (s : State). IsFaultAtEnd s.mode s.pending_bytes s.characters x) q named in
        record { mode = Comment; ends_in = inl refl; fault_is = is; out_of_range = (λ q. absurd (let clash : fault.OpenComment ≡ fault.NumberRange = sym is ∙ q in cc), λ o. absurd o) }
    | inr q ↦
        let is = subst (λ (s : State). IsFaultAtEnd s.mode s.pending_bytes s.characters x) q named in
        record { mode = Star; ends_in = inr refl; fault_is = is; out_of_range = (λ q. absurd (let clash : fault.OpenComment ≡ fault.NumberRange = sym is ∙ q in cc), λ o. absurd o) }
  ]
