-- A parameter is found among those of a record by its place.
use Rattle.std.proofs.Common.{◌≡◌, List, [], ◌∷◌, ◌++◌, Some, None, refl, ap, sym, subst, ◌∙◌, append_assoc, inl, inr}
use Rattle.std.proofs.lemmas.List.Elements.{Contains-append_cases, Contains-append_right}
use Rattle.std.specs.Prelude.{Contains}
use Rattle.p21_express_graph.specs.declared.number.Place.{Place as CodePlace}
use Rattle.p21_express_graph.specs.Meaning.{place as place_of}
use Rattle.p21_spec_basics.proofs.Members.{Contains-cases, Contains-first, Contains-none}
use Rattle.p21_spec_exchange.specs.Parameter.{Param}
use Rattle.p21_spec_schema.specs.Schema.{Place}
use Rattle.p21_model.specs.declared.attributes.Attribute.{Attribute}
use Rattle.p21_model.specs.declared.attributes.Attributes.{Attributes}
use Rattle.p21_model.specs.Found.{HasAt}
use Rattle.p21_model.specs.Left.{HandsOutRow, TellsRows}
use Rattle.p21_model.specs.Rows.{Row}

-- these are left, and those before them stand elsewhere
pub record IsFurther (attributes : Attributes) (place : CodePlace) (rows : List Row) : Type 0 where
  pub passed : List Row
  pub left : List Row
  pub rows_are : rows ≡ passed ++ left
  pub elsewhere : (p : Param) → Contains passed (place_of place, p) → ⊥
  pub tells : TellsRows attributes left

pub none-passed : (attributes : Attributes) (place : CodePlace) (rows : List Row) → TellsRows attributes rows
    → IsFurther attributes place rows
none-passed attributes place rows tells = record {
  passed = [];
  left = rows;
  rows_are = refl;
  elsewhere =
      λ p among. Contains-none (place_of place, p) among;
  tells = tells;
}

pub more-passed : (attributes next : Attributes) (place : CodePlace) (rows : List Row) (found : Attribute) → IsFurther attributes place rows
    → ((left : List Row) → TellsRows attributes left → HandsOutRow left (Some found) next) → (place_of found.place ≡ place_of place → ⊥)
    → IsFurther next place rows
more-passed attributes next place rows found f hands other = by_left f.left f.rows_are (hands f.left f.tells)
  where
    by_left : (left : List Row) → rows ≡ f.passed ++ left → HandsOutRow left (Some found) next → IsFurther next place rows
    by_left [] are handed = absurd handed
    by_left (row ∷ others) are handed = record {
      passed = f.passed ++ (row ∷ []);
      left = others;
      rows_are = are ∙ sym (append_assoc f.passed (row ∷ []) others);
      elsewhere = λ p among. elim (Contains-append_cases f.passed (row ∷ []) (place_of place, p) among) [
        | inl h ↦ f.elsewhere p h
        | inr h ↦ elim (Contains-cases row [] (place_of place, p) h) [
          | inl same ↦ other (handed.0 ∙ ap (λ (r : Row). r.0) same)
          | inr none ↦ Contains-none (place_of place, p) none
        ]
      ];
      tells = handed.2;
    }

pub found-last : (attributes next : Attributes) (place : CodePlace) (rows : List Row) (found : Attribute) → IsFurther attributes place rows
    → ((left : List Row) → TellsRows attributes left → HandsOutRow left (Some found) next) → place_of found.place ≡ place_of place
    → HasAt rows (place_of place) (Some found.value)
found-last attributes next place rows found f hands same = by_left f.left f.rows_are (hands f.left f.tells)
  where
    by_left : (left : List Row) → rows ≡ f.passed ++ left → HandsOutRow left (Some found) next
        → HasAt rows (place_of place) (Some found.value)
    by_left [] are handed = absurd handed
    by_left (row ∷ others) are handed =
        let here : row ≡ (place_of place, row.1) = ap (λ (p : Place). (p, row.1)) (sym handed.0 ∙ same) in
        let Has : List Row → Type 0 = λ xs. Contains xs (place_of place, row.1) in
        let Among : Row → Type 0 = λ r. Contains (row ∷ others) r in (
          row.1,
          subst Has (sym are) (Contains-append_right f.passed (row ∷ others) (place_of place, row.1)
              (subst Among here (Contains-first row others))),
          handed.1,
        )

pub none-found : (attributes next : Attributes) (place : CodePlace) (rows : List Row) → IsFurther attributes place rows
    → ((left : List Row) → TellsRows attributes left → HandsOutRow left None next) → HasAt rows (place_of place) None
none-found attributes next place rows f hands = by_left f.left f.rows_are (hands f.left f.tells)
  where
    by_left : (left : List Row) → rows ≡ f.passed ++ left → HandsOutRow left None next → HasAt rows (place_of place) None
    by_left (row ∷ others) are handed = absurd handed
    by_left [] are handed = λ p among. elim (Contains-append_cases f.passed [] (place_of place, p)
        (subst (λ (xs : List Row). Contains xs (place_of place, p)) are among))
        [ inl h ↦ f.elsewhere p h | inr h ↦ Contains-none (place_of place, p) h ]
