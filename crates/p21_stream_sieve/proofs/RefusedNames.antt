-- The set of the names of the instances that were refused.
use Rattle.std.proofs.Common.{◌≡◌, ◌↔◌, ℕ, Bool, true, false, List, [], ◌∷◌, ◌++◌, inl, inr, refl, sym, ap, subst, ◌∙◌}
use Rattle.std.proofs.lemmas.List.Elements.{Contains-append_cases, Contains-append_left, Contains-append_right}
use Rattle.std.proofs.lemmas.Map.Lookups.{exact_unsigned}
use Rattle.std.proofs.lemmas.Map.Views.{tells_apart}
use Rattle.std.specs.BTreeSet.{BTreeSet, Updates, contains}
use Rattle.std.specs.List.{Contains}
use Rattle.std.specs.Ordering.{eq_by_cmp, nat_cmp}
use Rattle.std.specs.Prelude.{cond}
use Rattle.p21_spec_basics.proofs.Members.{Contains-cases, Contains-first, Contains-none}
use Rattle.p21_stream_statements.specs.declared.fault.Fault.{Fault}
use Rattle.p21_stream_statements.specs.declared.refusal.At.TheVariants.{Instance}
use Rattle.p21_stream_statements.specs.declared.refusal.Refusal.{Refusal}
use Rattle.p21_stream_sieve.specs.Sifting.{HasName, HasRefusal, HaveNames, at_instance}

instance_is : (m n : ℕ) → Instance m ≡ Instance n → m ≡ n
instance_is m n same = cc

-- a refusal that names one instance names no other
pub same-instance : (f g : Fault) (m n : ℕ) → at_instance f m ≡ at_instance g n → m ≡ n
same-instance f g m n same = instance_is m n (ap (λ (r : Refusal). r.at) same)

-- no refusal
pub has-none : (names : BTreeSet ℕ) → names.keys ≡ [] → HaveNames names []
has-none names no_key n = (
  λ has. (let no : contains nat_cmp names n ≡ false = ap (λ (ks : List ℕ). contains nat_cmp (record { keys = ks }) n) no_key in cc),
  λ (fault, among). absurd (Contains-none (at_instance fault n) among),
)

-- a refusal more
pub has-listed : (names added : BTreeSet ℕ) (refusals : List Refusal) (fault : Fault) (n : ℕ) → Updates nat_cmp names added n true
    → HaveNames names refusals → HaveNames added (refusals ++ at_instance fault n ∷ [])
has-listed names added refusals fault n updates has q = by (eq_by_cmp nat_cmp n q) refl (updates.0 q) where
  earlier : HasRefusal refusals q → HasRefusal (refusals ++ at_instance fault n ∷ []) q
  earlier (other, among) = (other, Contains-append_left refusals (at_instance fault n ∷ []) (at_instance other q) among)

  by : (same : Bool) → eq_by_cmp nat_cmp n q ≡ same → contains nat_cmp added q ≡ cond same true (contains nat_cmp names q) → HasName added q
      ↔ HasRefusal (refusals ++ at_instance fault n ∷ []) q
  by true is now =
      let equal : n ≡ q = tells_apart exact_unsigned n q is in (
        λ had. (
          fault,
          subst (λ (m : ℕ). Contains (refusals ++ at_instance fault n ∷ []) (at_instance fault m)) equal
              (Contains-append_right refusals (at_instance fault n ∷ []) (at_instance fault n) (Contains-first (at_instance fault n) [])),
        ),
        λ had. now,
      )
  by false is now = (
    λ had. earlier ((has q).0 (sym now ∙ had)),
    λ (other, among). elim (Contains-append_cases refusals (at_instance fault n ∷ []) (at_instance other q) among) [
      | inl before ↦ now ∙ (has q).1 (other, before)
      | inr last ↦ elim (Contains-cases (at_instance fault n) [] (at_instance other q) last) [
        | inl same ↦ subst (λ (m : ℕ). HasName added m) (same-instance fault other n q same) updates.1
        | inr none ↦ absurd (Contains-none (at_instance other q) none)
      ]
    ],
  )
