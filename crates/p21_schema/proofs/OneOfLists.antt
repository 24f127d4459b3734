-- The ONEOF lists in which entities stand.
use Rattle.std.specs.Prelude.{◌≡◌, ℕ, ◌<◌, ◌≤◌, List, length, Contains}
use Rattle.std.proofs.Common.{arith, sym, ◌∙◌, subst, inl, inr, get_or}
use Rattle.std.proofs.lemmas.Bool.{cases_eq, cases_lt}
use Rattle.std.proofs.lemmas.Grind.{get_or_default_zero}
use Rattle.std.proofs.lemmas.List.Kept.{AllPairs-from_increasing}
use Rattle.std.specs.List.{AllByRecursion as Each}
use Rattle.std.specs.List.Sorted.{IsStrictlyIncreasing}
use Rattle.p21_spec_basics.proofs.Members.{Each-at, Each-member}
use Rattle.p21_spec_schema.specs.Schema.{Schema}
use Rattle.p21_express_graph.specs.InvertedLists.{AreInverted}
use Rattle.p21_express_graph.specs.Resolved.{HoldsTogether, IsEntity}
use Rattle.p21_express_graph.specs.SettledOrder.{nexts_of}
use Rattle.p21_express_graph.proofs.Inverting.{in-list}
use Rattle.p21_schema.specs.OneOf.{AreListedIn}

-- the entities of ONEOF lists are those of the schema
pub listed-within : (s : Schema) → HoldsTogether s → (k e : ℕ) → Contains (nexts_of s.one_of_lists k) e → IsEntity s e
listed-within s holds k e among =
    let (listed, at, has) = (in-list s.one_of_lists k e).0 among in
    Each-member (IsEntity s) listed e (Each-at (Each (IsEntity s)) s.one_of_lists k listed holds.one_of_are at) has

pub are-listed-in : (s : Schema) (lists : List (List ℕ)) → AreInverted s.one_of_lists lists → AreListedIn s lists
are-listed-in s lists are = record {
  each = λ e k. (
    λ among. (in-list s.one_of_lists k e).0 ((are.each e k).0 among),
    λ is. (are.each e k).1
        ((in-list s.one_of_lists k e).1 is),
  );
  rising = are.rising;
}

-- no number below a place and none from it on is the number
pub not-there : (others : List ℕ) (number place : ℕ) → IsStrictlyIncreasing others → ((k : ℕ) → k < place → get_or others k 0 < number)
    → (place < length others → number ≤ get_or others place 0) → (place < length others → get_or others place 0 ≡ number → ⊥)
    → Contains others number → ⊥
not-there others number place rising below not_below other (j, within, is) =
    let here : get_or others j 0 ≡ number = sym (get_or_default_zero others j number within) ∙ is in
    elim (cases_lt j place) [
      | inl h ↦ (let lt = below j h in omega (arith, lt, here))
      | inr h ↦ elim (cases_eq j place) [
        | inl same ↦ let P : ℕ → Type 0 = λ i. get_or others i 0 ≡ number in other (omega (arith, same, within)) (subst P same here)
        | inr differ ↦
            let behind : place < j = elim (cases_lt place j) [ inl g ↦ g | inr g ↦ absurd (differ (omega (arith, h, g))) ] in
            let lt = AllPairs-from_increasing others rising place j 0 behind within in
            let le = not_below (omega (arith, behind, within)) in
            omega (arith, lt, le, here)
      ]
    ]
