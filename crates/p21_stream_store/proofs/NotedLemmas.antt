-- Memberships that are noted.
use Rattle.std.proofs.Common.{◌≡◌, ℕ, Bool, true, false, List, ◌∷◌, None, Some, MatchBool, inl, inr, refl, sym, ap, subst, ◌∙◌, arith}
use Rattle.std.proofs.lemmas.Bool.Decides.{eqb_tells}
use Rattle.std.proofs.lemmas.List.Sorted.{Contains-permutation, IsPermutation-map, IsPermutation-sym}
use Rattle.std.specs.List.{Contains}
use Rattle.std.specs.List.Sorted.{IsPermutation}
use Rattle.p21_spec_basics.proofs.Members.{Contains-cases, Contains-later}
use Rattle.p21_stream_store.specs.Noted.{AreAllNoted, AreNoted, IsStoredWith, NotesAtMost}
use Rattle.p21_stream_store.specs.Positions.{Changes, IsSame, position_marked}
use Rattle.p21_stream_store.specs.StoredInstance.{StoredInstance, instance_names, stored_instance}
use Rattle.p21_stream_store.specs.declared.pages.Pages.{Pages}

notes-at_most : (done : Bool) (old new : Pages ℕ) (name membership : ℕ)
    → MatchBool done (Changes (position_marked old) name (Some membership) (position_marked new)) (new ≡ old)
    → NotesAtMost (position_marked old) name membership (position_marked new)
notes-at_most true old new name membership changes other number e = elim (eqb_tells other name) [
  | inl same ↦ (
      let value : position_marked new name ≡ Some number = subst (λ (n : ℕ). position_marked new n ≡ Some number) same.1 e in
      let there = changes.0 in
      let is : number ≡ membership = cc in
      inr (same.1, is))
  | inr differs ↦ inl (sym (changes.1 other differs.1) ∙ e)
]
notes-at_most false old new name membership is other number e = inl (ap (λ (marks : Pages ℕ). position_marked marks other) (sym is) ∙ e)

-- where one more instance is stored, and what is noted besides is its membership, that is noted rightly
pub still_noted : (old grown new : Pages ℕ) (done : Bool) (name membership : ℕ) (text : List ℕ) (stored more : List StoredInstance)
    → AreNoted (position_marked old) stored → IsSame (position_marked old) (position_marked grown)
    → MatchBool done (Changes (position_marked grown) name (Some membership) (position_marked new)) (new ≡ grown)
    → IsPermutation (stored_instance name (membership, text) ∷ stored) more → AreNoted (position_marked new) more
still_noted old grown new done name membership text stored more are same notes added other number e =
    elim (notes-at_most done grown new name membership notes other number e) [
      | inl before ↦
          let found = are other number (sym (same other) ∙ before) in
          (found.0, Contains-permutation _ _ _ added (Contains-later _ stored _ found.1))
      | inr here ↦
          let first : Contains (stored_instance name (membership, text) ∷ stored) (stored_instance name (membership, text)) =
          (0, omega arith, refl) in
          subst (λ (n : ℕ). IsStoredWith more n number) (sym here.0)
          (subst (λ (k : ℕ). IsStoredWith more name k) (sym here.1) (text, Contains-permutation _ _ _ added first))
    ]

-- one more is noted
pub all_still_noted : (old grown new : Pages ℕ) (name membership : ℕ) (text : List ℕ) (stored more : List StoredInstance)
    → AreAllNoted (position_marked old) stored → IsSame (position_marked old) (position_marked grown)
    → Changes (position_marked grown) name (Some membership) (position_marked new)
    → IsPermutation (stored_instance name (membership, text) ∷ stored) more → AreAllNoted (position_marked new) more
all_still_noted old grown new name membership text stored more all same changes added other there none = elim (eqb_tells other name) [
  | inl equal ↦ (
      let value : position_marked new name ≡ None = subst (λ (n : ℕ). position_marked new n ≡ None) equal.1 none in
      let noted = changes.0 in
      cc)
  | inr differs ↦
      let names = IsPermutation-sym _ _ (IsPermutation-map (λ (x : StoredInstance). x.name) _ _ added) in
      elim (Contains-cases name (instance_names stored) other (Contains-permutation _ _ other names there)) [
        | inl equal ↦ absurd (differs.1 (sym equal))
        | inr before ↦ all other before (sym (same other) ∙ sym (changes.1 other differs.1) ∙ none)
      ]
]
