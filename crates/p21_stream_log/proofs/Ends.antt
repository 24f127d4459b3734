-- Bytes that end with a `;`.
use Rattle.std.proofs.Common.{◌≡◌, ◌⊎◌, inl, inr, ℕ, List, [], ◌∷◌, ◌++◌, refl, sym, ap, subst, ◌∙◌, append_assoc, append-nil, arith}
use Rattle.std.proofs.lemmas.List.{same_from_push}
use Rattle.std.specs.List.{flat_map, AllByRecursion as Each}
use Rattle.p21_spec_exchange.specs.Separator.{IsSeparator, IsSeparatorText, Separator, blank, comment, separator_bytes}
use Rattle.p21_spec_survey.specs.Landmark.{IsOpened}
use Rattle.p21_stream_log.specs.Log.{EndsWith}

by-last : (xs : List ℕ) → (xs ≡ []) ⊎ ((front : List ℕ) × (last : ℕ) × (xs ≡ front ++ last ∷ []))
by-last [] = inl refl
by-last (x ∷ xs) = elim (by-last xs) [
  | inl none ↦ inr ([], x, ap (λ (ys : List ℕ). x ∷ ys) none)
  | inr (front, last, is) ↦ inr (x ∷ front, last, ap (λ (ys : List ℕ). x ∷ ys) is)
]

-- what some ends with, what stands before it ends with too
pub ends-behind : (front bytes : List ℕ) (byte : ℕ) → EndsWith byte bytes → EndsWith byte (front ++ bytes)
ends-behind front bytes byte (before, is) = (
  front ++ before,
  ap (λ (l : List ℕ). front ++ l) is
      ∙ sym (append_assoc front before (byte ∷ [])),
)

-- the last byte of two parts is that of the second one, unless this is empty
pub ends-apart : (front bytes : List ℕ) (byte : ℕ) → EndsWith byte (front ++ bytes) → (bytes ≡ []) ⊎ EndsWith byte bytes
ends-apart front bytes byte (before, is) = elim (by-last bytes) [
  | inl none ↦ inl none
  | inr (own, last, are) ↦ (
      let whole : (front ++ own) ++ last ∷ [] ≡ before ++ byte ∷ [] = append_assoc front own (last ∷ [])
      ∙ (ap (λ (l : List ℕ). front ++ l) (sym are) ∙ is) in
      let same = same_from_push (front ++ own) before last byte whole in
      inr (own, are ∙ ap (λ (b : ℕ). own ++ b ∷ []) same.1))
]

-- a `;` is the last byte of no separator
one-separator : (separator : Separator) → IsSeparator separator → EndsWith 59 (separator_bytes separator) → ⊥
one-separator (blank byte) is (front, ends) =
    let same = same_from_push [] front byte 59 ends in
    elim is [
      | inl low ↦ let e = same.1 in absurd (omega (arith, low, e))
      | inr delete ↦ let e = same.1 in
          absurd (omega (arith, delete, e))
    ]
one-separator (comment inside) is (front, ends) =
    let whole : (47 ∷ 42 ∷ (inside ++ (42 ∷ []))) ++ 47 ∷ [] ≡ front ++ 59 ∷ [] =
    ap (λ (l : List ℕ). 47 ∷ 42 ∷ l) (append_assoc inside (42 ∷ []) (47 ∷ [])) ∙ ends in
    let same = same_from_push (47 ∷ 42 ∷ (inside ++ (42 ∷ []))) front 47 59 whole in
    let e = same.1 in absurd (omega (arith, e))

no-bytes : (front : List ℕ) (byte : ℕ) → [] ≡ front ++ byte ∷ [] → ⊥
no-bytes [] byte is = cc
no-bytes (b ∷ front) byte is = cc

separators-end : (separators : List Separator) → Each IsSeparator separators → EndsWith 59 (flat_map separator_bytes separators) → ⊥
separators-end [] are (front, ends) = no-bytes front 59 ends
separators-end (one ∷ separators) are ends = elim (ends-apart (separator_bytes one) (flat_map separator_bytes separators) 59 ends) [
  | inl none ↦ one-separator one are.0 (subst (EndsWith 59)
      (ap (λ (l : List ℕ). separator_bytes one ++ l) none ∙ append-nil (separator_bytes one)) ends)
  | inr further ↦ separators-end separators are.1 further
]

-- so of bytes that end with a `;` no separators stand last
pub none-behind : (front rest : List ℕ) → IsSeparatorText rest → EndsWith 59 (front ++ rest) → rest ≡ []
none-behind front rest (separators, are, is) ends = elim (ends-apart front rest 59 ends) [
  | inl none ↦ none
  | inr own ↦ absurd (separators-end separators are (subst (EndsWith 59) is own))
]

-- behind a `;` a signpost may stand
pub opened-behind : (before bytes : List ℕ) → EndsWith 59 bytes → IsOpened (before ++ bytes)
opened-behind before bytes (front, is) = record {
  front = before ++ front;
  opener = 59;
  blanks = [];
  before_are = ap (λ (l : List ℕ). before ++ l) is ∙ sym (append_assoc before front (59 ∷ []));
  opens = inl refl;
  are_blanks = tt;
}
