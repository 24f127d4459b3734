-- What of a list is outside of a front.
use Rattle.std.specs.Prelude.{◌≡◌, ◌⊎◌, ℕ, List, [], ◌∷◌, ◌++◌, Contains}
use Rattle.std.proofs.Common.{sym, subst, inl, inr}
use Rattle.std.proofs.lemmas.List.Elements.{Contains-append_left, Contains-push, Contains-push_cases}
use Rattle.p21_spec_basics.proofs.Members.{Contains-none}

-- what is done is in the front, or outside of it, or the number
abbrev pub IsOutside : List ℕ → List ℕ → List ℕ → ℕ → ℕ → Type 0
IsOutside front outside done e f = Contains done f → Contains front f ⊎ (Contains outside f ⊎ (f ≡ e))

module _ (whole front done after outside now : List ℕ) (x e : ℕ) (after_is : after ≡ done ++ x ∷ []) (within : (f : ℕ) → Contains outside f → Contains whole f) (rest : (f : ℕ) → IsOutside front outside done e f) where
  -- one more, outside of the front
  pub outside-more : Contains whole x → now ≡ outside ++ x ∷ [] → ((f : ℕ) → Contains now f → Contains whole f) × ((f : ℕ) → IsOutside front now after e f)
  outside-more there now_is = (
    λ f among. let P : List ℕ → Type 0 = λ xs. Contains xs f in let Q : ℕ → Type 0 = λ y. Contains whole y in elim (Contains-push_cases outside x f (subst P now_is among)) [ inl old ↦ within f old | inr new ↦ subst Q new there ],
    λ f among. let P : List ℕ → Type 0 = λ xs. Contains xs f in elim (Contains-push_cases done x f (subst P after_is among)) [
      | inl old ↦ elim (rest f old) [
        | inl h ↦ inl h
        | inr other ↦ elim other [ inl h ↦ inr (inl (subst P (sym now_is) (Contains-append_left outside (x ∷ []) f h))) | inr same ↦ inr (inr same) ]
      ]
      | inr new ↦ let Q : ℕ → Type 0 = λ y. Contains now y in let R : List ℕ → Type 0 = λ xs. Contains xs x in inr (inl (subst Q new (subst R (sym now_is) (Contains-push outside x))))
    ],
  )

  -- one more that isn't
  pub outside-less : now ≡ outside → Contains front x ⊎ (x ≡ e) → ((f : ℕ) → Contains now f → Contains whole f) × ((f : ℕ) → IsOutside front now after e f)
  outside-less now_is told = (
    λ f among. let P : List ℕ → Type 0 = λ xs. Contains xs f in within f (subst P now_is among),
    λ f among. let P : List ℕ → Type 0 = λ xs. Contains xs f in elim (Contains-push_cases done x f (subst P after_is among)) [
      | inl old ↦ elim (rest f old) [
        | inl h ↦ inl h
        | inr other ↦ elim other [ inl h ↦ inr (inl (subst P (sym now_is) h)) | inr same ↦ inr (inr same) ]
      ]
      | inr new ↦ let Q : ℕ → Type 0 = λ y. Contains front y ⊎ (y ≡ e) in elim (subst Q new told) [ inl h ↦ inl h | inr same ↦ inr (inr same) ]
    ],
  )
