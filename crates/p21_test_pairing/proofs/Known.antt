-- Records of which the entities and the types are known.
use Rattle.std.specs.List.{AllByRecursion as Each}
use Rattle.std.specs.Prelude.{◌<◌, ◌∷◌, ◌++◌, [], ℕ, List, length}
use Rattle.std.proofs.Common.{subst, sym, inl, inr}
use Rattle.p21_spec_basics.proofs.Members.{Contains-cases, Contains-none}
use Rattle.p21_spec_file.specs.Value as meant
use Rattle.p21_spec_schema.specs.Schema.{Schema}
use Rattle.p21_express_graph.specs.Lookups.{AreEntities}
use Rattle.p21_express_graph.specs.Resolved.{IsEntity}
use Rattle.p21_mapping_values.specs.declared.value.Value.{Value}
use Rattle.p21_mapping_values.specs.declared.value.Value as value
use Rattle.p21_mapping_values.specs.declared.value.Values.{Values}
use Rattle.p21_mapping_values.specs.KnownTypes.{HasKnownTypes, HaveKnownTypes}
use Rattle.p21_mapping_values.specs.View.{list_of, view, views}
use Rattle.p21_mapping_values.specs.TypedView.{typed_view}
use Rattle.p21_mapping_values.proofs.Views.{view-List, view-Reference}
use Rattle.p21_numbering.specs.declared.instances.Instance.{Instance as Code}
use Rattle.p21_numbering.specs.Instances.{Instance, file_instances}
use Rattle.p21_numbering.specs.NodesOf.{HasKnownParts}

known-more : (s : Schema) (xs : List Value) (x : Value) → HaveKnownTypes s (views xs) → HasKnownTypes s (view x) → HaveKnownTypes s (views (xs ++ x ∷ []))
known-more s [] x have has = (has, tt)
known-more s (y ∷ ys) x have has = (have.0, known-more s ys x have.1 has)

-- one reference more
pub reference-known : (s : Schema) (xs : List Value) (n : ℕ) → HaveKnownTypes s (views xs) → HaveKnownTypes s (views (xs ++ value.Reference n ∷ []))
reference-known s xs n have =
    let P : meant.Value → Type 0 = λ v. HasKnownTypes s v in known-more s xs (value.Reference n) have (subst P (sym (view-Reference n)) tt)

-- one list more
pub list-known : (s : Schema) (xs : List Value) (vs : Values) → HaveKnownTypes s (views xs) → HaveKnownTypes s (views (list_of vs)) → HaveKnownTypes s (views (xs ++ value.List vs ∷ []))
list-known s xs vs have known =
    let P : meant.Value → Type 0 = λ v. HasKnownTypes s v in known-more s xs (value.List vs) have (subst P (sym (view-List vs)) known)

pub only-entity : (s : Schema) (e : ℕ) → e < length s.entities → AreEntities s (e ∷ [])
only-entity s e low n among = elim (Contains-cases e [] n among) [
  | inl same ↦ let P : ℕ → Type 0 = λ k. IsEntity s k in subst P same low
  | inr far ↦ absurd (Contains-none n far)
]

-- one instance more
pub parts-more : (s : Schema) (before : List Code) (one : Code) → Each (λ (i : Instance). HasKnownParts s i.typed) (file_instances before)
    → HasKnownParts s (typed_view one.typed) → Each (λ (i : Instance). HasKnownParts s i.typed) (file_instances (before ++ one ∷ []))
parts-more s [] one each is = (is, tt)
parts-more s (x ∷ xs) one each is = (each.0, parts-more s xs one each.1 is)
