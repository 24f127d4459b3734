-- The uses of the names in a value, one by one.
use Rattle.std.specs.Prelude.{◌≡◌, ◌<◌, ◌^◌, ℕ, false, List, [], ◌∷◌, ◌++◌, Some, None, map}
use Rattle.std.specs.List.{AllByRecursion as Each}
use Rattle.std.proofs.Common.{ap, refl, sym, ◌∙◌, append-nil, append_assoc}
use Rattle.p21_model_uses.specs.UseRows.{UseRow}
use Rattle.p21_model.specs.Uses.{uses_at}
use Rattle.p21_model_values.specs.Named.{HandsOutName, names_in}
use Rattle.p21_spec_exchange.specs.Parameter.{Param}
use Rattle.p21_spec_file.specs.Reference.{param_references}
use Rattle.p21_spec_schema.specs.Schema.{Place}

-- the uses of names at a place
abbrev uses_of : ℕ → Place → List ℕ → List UseRow
uses_of user place names = map (λ (n : ℕ). (n, user, place.entity, place.index)) names

-- with those of the names that are left in the text, these are all uses of the names in the parameter
pub record AreNamed (user : ℕ) (place : Place) (p : Param) (rows more : List UseRow) (rest : List ℕ) : Type 0 where
  pub left : List ℕ
  pub names : names_in rest false ≡ left
  pub small : Each (λ n. n < 2 ^ 64) left
  pub together : more ++ uses_of user place left ≡ rows ++ uses_at user (place, p)

pub none-named : (user : ℕ) (place : Place) (p : Param) (rows : List UseRow) (rest : List ℕ)
    → (names_in rest false ≡ param_references p) × Each (λ n. n < 2 ^ 64) (param_references p) → AreNamed user place p rows rows rest
none-named user place p rows rest (names, small) = record { left = param_references p; names = names; small = small; together = refl }

pub one-named : (user : ℕ) (place : Place) (p : Param) (rows old more : List UseRow) (before after : List ℕ) (name number : ℕ)
    → number ≡ name → AreNamed user place p rows old before
    → ((names : List ℕ) → names_in before false ≡ names → Each (λ n. n < 2 ^ 64) names
    → HandsOutName names (Some name) (names_in after false))
    → more ≡ old ++ (number, user, place.entity, place.index) ∷ [] → AreNamed user place p rows more after
one-named user place p rows old more before after name number same a hands pushed =
    by_left a.left a.small a.together (hands a.left a.names a.small)
  where
    by_left : (left : List ℕ) → Each (λ n. n < 2 ^ 64) left → old ++ uses_of user place left ≡ rows ++ uses_at user (place, p)
        → HandsOutName left (Some name) (names_in after false) → AreNamed user place p rows more after
    by_left [] small together handed = absurd handed
    by_left (n ∷ left) small together handed =
        let here : more ≡ old ++ (n, user, place.entity, place.index) ∷ [] = pushed
        ∙ ap (λ (m : ℕ). old ++ (m, user, place.entity, place.index) ∷ []) (same ∙ handed.0) in
        record {
          left = left;
          names = handed.1;
          small = small.1;
          together = ap (λ (us : List UseRow). us ++ uses_of user place left) here
              ∙ append_assoc old ((n, user, place.entity, place.index) ∷ []) (uses_of user place left) ∙ together;
        }

pub all-named : (user : ℕ) (place : Place) (p : Param) (rows more : List UseRow) (before after : List ℕ)
    → AreNamed user place p rows more before
    → ((names : List ℕ) → names_in before false ≡ names → Each (λ n. n < 2 ^ 64) names → HandsOutName names None (names_in after false))
    → more ≡ rows ++ uses_at user (place, p)
all-named user place p rows more before after a hands = by_left a.left a.together (hands a.left a.names a.small)
  where
    by_left : (left : List ℕ) → more ++ uses_of user place left ≡ rows ++ uses_at user (place, p)
        → HandsOutName left None (names_in after false) → more ≡ rows ++ uses_at user (place, p)
    by_left [] together handed = sym (append-nil more) ∙ together
    by_left (n ∷ left) together handed = absurd handed
