-- What can be decided of texts, headings and members of lists.
use Rattle.std.specs.Prelude.{◌≡◌, ◌⊎◌, ℕ, Bool, true, false, List, [], ◌∷◌, Contains, refl}
use Rattle.std.specs.Bool.{Decides}
use Rattle.std.specs.Cmp.{booleans_Decides, unsigned_Decides}
use Rattle.std.specs.Str.{bytes_eq}
use Rattle.std.specs.Prelude.{◌==◌}
use Rattle.std.proofs.Common.{ap, subst, ◌∙◌, inl, inr}
use Rattle.std.proofs.lemmas.Bool.Decides.{not_from_Decides}
use Rattle.std.proofs.lemmas.Slice.Eq.{bytes_eq-Decides}
use Rattle.p21_spec_basics.proofs.Members.{Contains-none, Contains-first, Contains-later, Contains-cases}
use Rattle.p21_spec_exchange.specs.DataSection.{Heading, unnamed, named}
use Rattle.p21_spec_exchange.specs.Parameter.{Key}

abbrev pub IsDecided : Type 0 → Type 0
IsDecided P = P ⊎ ¬ P

pub by-test : (P : Type 0) (answer : Bool) → Decides answer P → IsDecided P
by-test P true decides = inl (decides.0 refl)
by-test P false decides = inr (not_from_Decides false decides refl)

-- what isn't refuted holds
pub settled : (P : Type 0) → IsDecided P → ¬ ¬ P → P
settled P (inl holds) not = holds
settled P (inr fails) not = absurd (not fails)

-- where one holds exactly if the other does, both are decided
pub decided-as : (P Q : Type 0) → (P → Q) → (Q → P) → IsDecided Q → IsDecided P
decided-as P Q there back (inl holds) = inl (back holds)
decided-as P Q there back (inr fails) = inr (λ p. fails (there p))

pub number-decided : (m n : ℕ) → IsDecided (m ≡ n)
number-decided m n = by-test (m ≡ n) (m == n) (unsigned_Decides m n)

pub text-decided : (xs ys : List ℕ) → IsDecided (xs ≡ ys)
text-decided xs ys = by-test (xs ≡ ys) (bytes_eq xs ys) (bytes_eq-Decides xs ys)

pub both-decided : (P Q : Type 0) → IsDecided P → IsDecided Q → IsDecided (P × Q)
both-decided P Q (inl p) (inl q) = inl (p, q)
both-decided P Q (inl p) (inr none) = inr (λ h. none h.1)
both-decided P Q (inr none) q = inr (λ h. none h.0)

pub key-decided : (k l : Key) → IsDecided (k ≡ l)
key-decided k l =
    decided-as (k ≡ l) ((k.user ≡ l.user) × (k.word ≡ l.word)) (λ same. (ap (λ (x : Key). x.user) same, ap (λ (x : Key). x.word) same))
    (λ same. ap (λ (user : Bool). record { user = user; word = k.word }) same.0 ∙ ap (λ (word : List ℕ). record { user = l.user; word = word }) same.1)
    (both-decided (k.user ≡ l.user) (k.word ≡ l.word) (by-test (k.user ≡ l.user) _ (booleans_Decides k.user l.user)) (text-decided k.word l.word))

pub heading-decided : (g h : Heading) → IsDecided (g ≡ h)
heading-decided unnamed unnamed = inl refl
heading-decided unnamed (named name schema) = inr (λ same. cc)
heading-decided (named name schema) unnamed = inr (λ same. cc)
heading-decided (named name schema) (named other text) =
    decided-as (named name schema ≡ named other text) ((name ≡ other) × (schema ≡ text)) (λ same. let first : name ≡ other = cc in let second : schema ≡ text = cc in (first, second))
    (λ same. ap (λ (x : List ℕ). named x schema) same.0 ∙ ap (named other) same.1)
    (both-decided (name ≡ other) (schema ≡ text) (text-decided name other) (text-decided schema text))

-- whether a list has a member
pub member-decided : {X : Type 0} → ((x y : X) → IsDecided (x ≡ y)) → (xs : List X) (y : X) → IsDecided (Contains xs y)
member-decided same [] y = inr (Contains-none y)
member-decided {X} same (x ∷ xs) y = by (same x y) (member-decided same xs y)
  where
    by : IsDecided (x ≡ y) → IsDecided (Contains xs y) → IsDecided (Contains (x ∷ xs) y)
    by (inl is) later = inl (let P : X → Type 0 = λ z. Contains (x ∷ xs) z in subst P is (Contains-first x xs))
    by (inr none) (inl later) = inl (Contains-later x xs y later)
    by (inr none) (inr no_later) = inr (λ among. elim (Contains-cases x xs y among) [
      | inl is ↦ none is
      | inr later ↦ no_later later
    ])
