-- The bytes of a class at the front, found by counting.
use Rattle.std.proofs.Common.{◌≡◌, ℕ, zero, suc, ◌<◌, ◌≤◌, true, false, inl, inr, List, [], ◌∷◌, ◌++◌, length, take, drop, get_or, refl, ap, arith}
use Rattle.std.proofs.lemmas.Bool.{cases_Bool}
use Rattle.p21_express_lexemes.specs.Bytes.{is_of, front, behind}
use Rattle.p21_express_lexemes.specs.declared.bytes.Class.{Class}

pub front_counted : (class : Class) (bytes : List ℕ) (count : ℕ) → count ≤ length bytes → ((k : ℕ) → k < count → is_of class (get_or bytes k 0) ≡ true) → (count < length bytes → is_of class (get_or bytes count 0) ≡ false) → front class bytes ≡ take count bytes
front_counted class [] zero within each ends = refl
front_counted class [] (suc count) within each ends = absurd (omega arith)
front_counted class (b ∷ bytes) zero within each ends = rw (ends (omega arith)) refl
front_counted class (b ∷ bytes) (suc count) within each ends =
    rw (each 0 (omega arith)) (ap (λ (x : List ℕ). b ∷ x) (front_counted class bytes count (omega arith) (λ k l. each (suc k) (omega arith)) (λ l. ends (omega arith))))

pub behind_counted : (class : Class) (bytes : List ℕ) (count : ℕ) → count ≤ length bytes → ((k : ℕ) → k < count → is_of class (get_or bytes k 0) ≡ true) → (count < length bytes → is_of class (get_or bytes count 0) ≡ false) → behind class bytes ≡ drop count bytes
behind_counted class [] zero within each ends = refl
behind_counted class [] (suc count) within each ends = absurd (omega arith)
behind_counted class (b ∷ bytes) zero within each ends = rw (ends (omega arith)) refl
behind_counted class (b ∷ bytes) (suc count) within each ends =
    rw (each 0 (omega arith)) (behind_counted class bytes count (omega arith) (λ k l. each (suc k) (omega arith)) (λ l. ends (omega arith)))

pub behind_shorter : (class : Class) (bytes : List ℕ) → length (behind class bytes) ≤ length bytes
behind_shorter class [] = omega arith
behind_shorter class (b ∷ bytes) = elim (cases_Bool (is_of class b)) [ inl h ↦ let r = behind_shorter class bytes in rw h (omega (arith, r)) | inr h ↦ rw h (omega arith) ]

pub front_and_behind : (class : Class) (bytes : List ℕ) → bytes ≡ front class bytes ++ behind class bytes
front_and_behind class [] = refl
front_and_behind class (b ∷ bytes) = elim (cases_Bool (is_of class b)) [ inl h ↦ rw h (ap (λ (x : List ℕ). b ∷ x) (front_and_behind class bytes)) | inr h ↦ rw h refl ]
