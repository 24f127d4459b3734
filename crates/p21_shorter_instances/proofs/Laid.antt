-- Tokens at the front of bytes.
use Rattle.std.proofs.Common.{◌≡◌, ◌∙◌, ℕ, ◌≤◌, List, [], ◌∷◌, ◌++◌, length, take, drop, refl, ap, sym, subst, arith, append_assoc, length-append}
use Rattle.std.proofs.lemmas.Grind.{flat_map-append}
use Rattle.std.proofs.lemmas.List.{take-append-drop}
use Rattle.std.specs.List.{flat_map}
use Rattle.p21_spec_basics.proofs.Members.{Each-append}
use Rattle.p21_spec_exchange.specs.Parameter.{Param, dollar, star, whole, real, text, name, item, bits, list, typed, key_token, param_tokens, params_tokens}
use Rattle.p21_spec_exchange.specs.Separator.{IsSeparator, IsSeparatorText, separator_bytes}
use Rattle.p21_spec_exchange.specs.Token as token
use Rattle.p21_spec_exchange.specs.Token.{Token, IsFollowed, MayFollow, Spells}
use Rattle.p21_shorter_tokens.specs.Gaps.{PassesSeparators}
use Rattle.p21_shorter_tokens.specs.LeadingToken.{IsLeadingToken}
use Rattle.p21_shorter_instances.specs.TakenValues.{LaidBefore, PassesDelimiter}

-- a token that any byte may follow
followed-any : (one : Token) (spelling rest : List ℕ) → ((byte : ℕ) → MayFollow one spelling byte) → IsFollowed one spelling rest
followed-any one spelling [] any = tt
followed-any one spelling (byte ∷ rest) any = any byte

pub laid-one : (bytes : List ℕ) (count : ℕ) (one : Token) → IsLeadingToken bytes count one → LaidBefore bytes (one ∷ []) (drop count bytes)
laid-one bytes count one h = (
  [],
  take count bytes,
  drop count bytes,
  sym (take-append-drop count bytes),
  ([], tt, refl),
  h.spells,
  h.followed,
  refl,
)

-- a token of one byte
pub laid-mark : (mark : ℕ) (one : Token) (bytes rest : List ℕ) → Spells one (mark ∷ []) → ((byte : ℕ) → MayFollow one (mark ∷ []) byte)
    → bytes ≡ mark ∷ rest
    → LaidBefore bytes (one ∷ []) rest
laid-mark mark one bytes rest spells any e = ([], mark ∷ [], rest, e, ([], tt, refl), spells, followed-any one (mark ∷ []) rest any, refl)

-- a token of one byte, behind separators
pub laid-next : (mark : ℕ) (one : Token) (bytes rest : List ℕ) → Spells one (mark ∷ []) → ((byte : ℕ) → MayFollow one (mark ∷ []) byte)
    → PassesDelimiter mark bytes rest
    → LaidBefore bytes (one ∷ []) rest
laid-next mark one bytes rest spells any (gap, e, separates) =
    (gap, mark ∷ [], rest, e, separates, spells, followed-any one (mark ∷ []) rest any, refl)

-- a byte that stands behind separators
pub mark-passed : (mark : ℕ) (bytes inside rest old new : List ℕ) → PassesSeparators bytes inside
    → (inside ≡ mark ∷ rest) × (new ≡ old ++ mark ∷ [])
    → PassesDelimiter mark bytes rest × (new ≡ old ++ mark ∷ [])
mark-passed mark bytes inside rest old new passes (first, is) =
    ((passes.gap, passes.bytes_are ∙ ap (λ (x : List ℕ). passes.gap ++ x) first, passes.is_gap), is)

-- tokens behind others
pub laid-join : (bytes middle rest : List ℕ) (ts us : List Token) → LaidBefore bytes ts middle → LaidBefore middle us rest
    → LaidBefore bytes (ts ++ us) rest
laid-join bytes middle rest [] us e more = subst (λ (x : List ℕ). LaidBefore x us rest) (sym e) more
laid-join bytes middle rest (t ∷ ts) us (gap, spelling, behind, e, separates, spells, followed, laid) more =
    (gap, spelling, behind, e, separates, spells, followed, laid-join behind middle rest ts us laid more)

-- tokens in parentheses
pub laid-enclosed : (bytes inside behind rest : List ℕ) (ts : List Token) → PassesDelimiter 40 bytes inside → LaidBefore inside ts behind
    → PassesDelimiter 41 behind rest
    → LaidBefore bytes (token.left ∷ (ts ++ (token.right ∷ []))) rest
laid-enclosed bytes inside behind rest ts opening laid close =
    laid-join bytes inside rest (token.left ∷ []) (ts ++ (token.right ∷ []))
    (laid-next 40 token.left bytes inside refl (λ byte. tt) opening)
    (laid-join inside behind rest ts (token.right ∷ []) laid (laid-next 41 token.right behind rest refl (λ byte. tt) close))

-- tokens leave no more bytes
pub laid-shorter : (bytes rest : List ℕ) (ts : List Token) → LaidBefore bytes ts rest → length rest ≤ length bytes
laid-shorter bytes rest [] e = omega (arith, ap length e)
laid-shorter bytes rest (t ∷ ts) (gap, spelling, behind, e, separates, spells, followed, laid) =
    omega (arith, ap length e, length-append gap (spelling ++ behind), length-append spelling behind, laid-shorter behind rest ts laid)

-- what stands behind tokens ends the bytes
pub laid-end : (bytes rest : List ℕ) (ts : List Token) → LaidBefore bytes ts rest → (front : List ℕ) × (bytes ≡ front ++ rest)
laid-end bytes rest [] e = ([], e)
laid-end bytes rest (t ∷ ts) (gap, spelling, behind, e, separates, spells, followed, laid) =
    let (front, is) = laid-end behind rest ts laid in (
      gap ++ (spelling ++ front),
      e ∙ ap (λ (x : List ℕ). gap ++ (spelling ++ x)) is
          ∙ sym (append_assoc gap (spelling ++ front) rest ∙ ap (λ (x : List ℕ). gap ++ x) (append_assoc spelling front rest)),
    )

-- ---- tokens behind separators

separated : (gap other : List ℕ) → IsSeparatorText gap → IsSeparatorText other → IsSeparatorText (gap ++ other)
separated gap other (ss, each, is) (ts, more, same) = (
  ss ++ ts,
  Each-append IsSeparator ss ts each more,
  ap (λ (l : List ℕ). l ++ other) is
      ∙ (ap (λ (l : List ℕ). flat_map separator_bytes ss ++ l) same ∙ sym (flat_map-append separator_bytes ss ts)),
)

pub laid-behind : (bytes middle rest : List ℕ) (t : Token) (ts : List Token) → PassesSeparators bytes middle
    → LaidBefore middle (t ∷ ts) rest → LaidBefore bytes (t ∷ ts) rest
laid-behind bytes middle rest t ts passes (gap, spelling, behind, e, separates, spells, followed, laid) = (
  passes.gap ++ gap,
  spelling,
  behind,
  passes.bytes_are
      ∙ (ap (λ (x : List ℕ). passes.gap ++ x) e ∙ sym (append_assoc passes.gap gap (spelling ++ behind))),
  separated passes.gap gap
      passes.is_gap separates,
  spells,
  followed,
  laid,
)

-- a parameter has a first token
first-token : (p : Param) → (t : Token) × (ts : List Token) × (param_tokens p ≡ t ∷ ts)
first-token dollar = (token.dollar, [], refl)
first-token star = (token.star, [], refl)
first-token (whole z) = (token.whole z, [], refl)
first-token (real d) = (token.real d, [], refl)
first-token (text chars) = (token.text chars, [], refl)
first-token (name n) = (token.name n, [], refl)
first-token (item word) = (token.item word, [], refl)
first-token (bits bs) = (token.bits bs, [], refl)
first-token (list ps) = (token.left, params_tokens ps ++ (token.right ∷ []), refl)
first-token (typed key p) = (key_token key, token.left ∷ (param_tokens p ++ (token.right ∷ [])), refl)

pub param-behind : (bytes middle rest : List ℕ) (p : Param) → PassesSeparators bytes middle → LaidBefore middle (param_tokens p) rest
    → LaidBefore bytes (param_tokens p) rest
param-behind bytes middle rest p passes laid =
    let (t, ts, is) = first-token p in
    subst (λ (x : List Token). LaidBefore bytes x rest) (sym is)
    (laid-behind bytes middle rest t ts passes (subst (λ (x : List Token). LaidBefore middle x rest) is laid))
