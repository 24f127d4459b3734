-- Where a signpost may begin, with one byte more.
use Rattle.std.proofs.Common.{◌≡◌, ◌↔◌, ◌<◌, ℕ, ◌⊎◌, inl, inr, Bool, true, false, List, [], ◌∷◌, ◌++◌, refl, sym, ap, subst, ◌∙◌, append_assoc, arith}
use Rattle.std.specs.List.{AllByRecursion as Each}
use Rattle.std.specs.Prelude.{IsTrue}
use Rattle.std.proofs.lemmas.Bool.{false≢true}
use Rattle.std.proofs.lemmas.List.{same_from_push}
use Rattle.p21_spec_basics.proofs.Members.{Each-append, Each-back, Each-front}
use Rattle.p21_spec_basics.specs.Digits.{IsDigit}
use Rattle.p21_spec_survey.specs.Landmark.{IsBlank, IsOpened, IsOpener}
use Rattle.p21_stream_resume.proofs.Classes.{IsOfClass}
use Rattle.p21_stream_resume.specs.declared.class.Class.{Class}
use Rattle.p21_stream_resume.specs.declared.class.Class.TheVariants as class

-- whether a signpost may begin behind a byte of this class, where it may begin before it
abbrev pub opened_after : Bool → Class → Bool
opened_after opened class.Semicolon = true
opened_after opened class.Parenthesis = true
opened_after opened class.LineEnd = true
opened_after opened class.Blank = opened
opened_after opened class.Digit = false
opened_after opened class.Hash = false
opened_after opened class.Equals = false
opened_after opened class.Other = false

by-last : (xs : List ℕ) → (xs ≡ []) ⊎ ((front : List ℕ) × (last : ℕ) × (xs ≡ front ++ last ∷ []))
by-last [] = inl refl
by-last (x ∷ xs) = elim (by-last xs) [
  | inl e ↦ inr ([], x, ap (λ (ys : List ℕ). x ∷ ys) e)
  | inr h ↦ let (front, last, is) = h in inr (x ∷ front, last, ap (λ (ys : List ℕ). x ∷ ys) is)
]

opened-by : (before : List ℕ) (b : ℕ) → IsOpener b → IsOpened (before ++ b ∷ [])
opened-by before b is = record { front = before; opener = b; blanks = []; before_are = refl; opens = is; are_blanks = tt }

opened-blank : (before : List ℕ) (b : ℕ) → IsOpened before → IsBlank b → IsOpened (before ++ b ∷ [])
opened-blank before b h is = record {
  front = h.front;
  opener = h.opener;
  blanks = h.blanks ++ b ∷ [];
  before_are = ap (λ (bs : List ℕ). bs ++ b ∷ []) h.before_are ∙ append_assoc h.front (h.opener ∷ h.blanks) (b ∷ []);
  opens = h.opens;
  are_blanks = Each-append IsBlank h.blanks (b ∷ []) h.are_blanks (is, tt);
}

-- the last byte opens, or it is a blank behind where a signpost may begin
opened-last : (before : List ℕ) (b : ℕ) → IsOpened (before ++ b ∷ []) → IsOpener b ⊎ (IsBlank b × IsOpened before)
opened-last before b h = elim (by-last h.blanks) [
  | inl none ↦ let same = same_from_push before h.front b h.opener (h.before_are
      ∙ ap (λ (bs : List ℕ). h.front ++ h.opener ∷ bs) none) in inl (subst IsOpener (sym same.1) h.opens)
  | inr some ↦
      let (blanks, last, are) = some in
      let whole : before ++ b ∷ [] ≡ (h.front ++ h.opener ∷ blanks) ++ last ∷ [] = h.before_are
      ∙ (ap (λ (bs : List ℕ). h.front ++ h.opener ∷ bs) are ∙ sym (append_assoc h.front (h.opener ∷ blanks) (last ∷ []))) in
      let same = same_from_push before (h.front ++ h.opener ∷ blanks) b last whole in
      let all : Each IsBlank (blanks ++ last ∷ []) = subst (Each IsBlank) are h.are_blanks in
      let own = Each-back IsBlank blanks (last ∷ []) all in
      inr (
        subst IsBlank (sym same.1) own.0,
        record {
          front = h.front;
          opener = h.opener;
          blanks = blanks;
          before_are = same.0;
          opens =
              h.opens;
          are_blanks = Each-front IsBlank blanks (last ∷ []) all;
        },
      )
]

opener-cases : (b n : ℕ) → b ≡ n → (n ≡ 59 → ⊥) → (n ≡ 41 → ⊥) → 13 < n → IsOpener b → ⊥
opener-cases b n is p q high (inl e) = p (sym is ∙ e)
opener-cases b n is p q high (inr (inl e)) = q (sym is ∙ e)
opener-cases b n is p q high (inr (inr (inl e))) = omega (arith, e, is, high)
opener-cases b n is p q high (inr (inr (inr e))) = omega (arith, e, is, high)

digit-no_opener : (b : ℕ) → IsDigit b → IsOpener b → ⊥
digit-no_opener b is (inl e) = omega (arith, e, is)
digit-no_opener b is (inr (inl e)) = omega (arith, e, is)
digit-no_opener b is (inr (inr (inl e))) = omega (arith, e, is)
digit-no_opener b is (inr (inr (inr e))) = omega (arith, e, is)

high-no_blank : (b : ℕ) → 32 < b → b < 127 → IsBlank b → ⊥
high-no_blank b low high (inl e) = omega (arith, e, low)
high-no_blank b low high (inr e) = omega (arith, e, high)

-- no signpost may begin behind a byte of these classes
pub closed-last : (before : List ℕ) (b : ℕ) (k : Class) → opened_after true k ≡ false → IsOfClass k b → IsOpened (before ++ b ∷ []) → ⊥
closed-last before b k closed of h = elim (opened-last before b h) [ inl opens ↦ (both k closed of).0 opens | inr blank ↦ (both k closed of).1 blank.0 ]
  where
    both : (k : Class) → opened_after true k ≡ false → IsOfClass k b → (IsOpener b → ⊥) × (IsBlank b → ⊥)
    both class.Digit closed of = (digit-no_opener b of, high-no_blank b (omega (arith, of)) (omega (arith, of)))
    both class.Hash closed of = (
      opener-cases b 35 of (λ e. omega (arith, e)) (λ e. omega (arith, e)) (omega arith),
      high-no_blank b (omega (arith, of)) (omega (arith, of)),
    )
    both class.Equals closed of = (
      opener-cases b 61 of (λ e. omega (arith, e)) (λ e. omega (arith, e)) (omega arith),
      high-no_blank b (omega (arith, of)) (omega (arith, of)),
    )
    both class.Other closed of = (of.1, of.0)
    both class.Semicolon closed of = absurd (false≢true (sym closed))
    both class.Parenthesis closed of = absurd (false≢true (sym closed))
    both class.LineEnd closed of = absurd (false≢true (sym closed))
    both class.Blank closed of = absurd (false≢true (sym closed))

-- behind a blank it may where it may in front of it
pub blank-last : (before : List ℕ) (b : ℕ) → IsOfClass class.Blank b → IsOpened (before ++ b ∷ []) ↔ IsOpened before
blank-last before b of = (λ h. elim (opened-last before b h) [ inl opens ↦ absurd (of.1 opens) | inr both ↦ both.1 ], λ h. opened-blank before b h of.0)

never : (before : List ℕ) (b : ℕ) (k : Class) → opened_after true k ≡ false → IsOfClass k b → IsTrue false ↔ IsOpened (before ++ b ∷ [])
never before b k closed of = (λ wrong. absurd (false≢true wrong), λ h. absurd (closed-last before b k closed of h))

-- whether a signpost may begin is known with one byte more
pub opened-further : (before : List ℕ) (b : ℕ) (opened : Bool) → (IsTrue opened ↔ IsOpened before) → (k : Class) → IsOfClass k b
    → IsTrue (opened_after opened k) ↔ IsOpened (before ++ b ∷ [])
opened-further before b opened known class.Semicolon of = (λ _. opened-by before b (inl of), λ _. refl)
opened-further before b opened known class.Parenthesis of = (λ _. opened-by before b (inr (inl of)), λ _. refl)
opened-further before b opened known class.LineEnd of = (λ _. opened-by before b (inr (inr of)), λ _. refl)
opened-further before b opened known class.Blank of = (λ is. (blank-last before b of).1 (known.0 is), λ h. known.1 ((blank-last before b of).0 h))
opened-further before b opened known class.Digit of = never before b class.Digit refl of
opened-further before b opened known class.Hash of = never before b class.Hash refl of
opened-further before b opened known class.Equals of = never before b class.Equals refl of
opened-further before b opened known class.Other of = never before b class.Other refl of

-- one may behind a byte that opens
pub open-last : (before : List ℕ) (b : ℕ) (k : Class) → opened_after false k ≡ true → IsOfClass k b → IsOpened (before ++ b ∷ [])
open-last before b class.Semicolon opens of = opened-by before b (inl of)
open-last before b class.Parenthesis opens of = opened-by before b (inr (inl of))
open-last before b class.LineEnd opens of = opened-by before b (inr (inr of))
open-last before b class.Blank opens of = absurd (false≢true opens)
open-last before b class.Digit opens of = absurd (false≢true opens)
open-last before b class.Hash opens of = absurd (false≢true opens)
open-last before b class.Equals opens of = absurd (false≢true opens)
open-last before b class.Other opens of = absurd (false≢true opens)
