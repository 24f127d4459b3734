-- Things by number, which a tree has.
use Rattle.std.proofs.Common.{◌≡◌, ◌⊎◌, ℕ, zero, suc, Bool, true, false, cond, List, [], ◌∷◌, ◌++◌, length, map, slice_get, option_map, Option, Some, None, inl, inr, refl, sym, ap, subst, ◌∙◌, true≢false}
use Rattle.std.proofs.lemmas.Map.Lookups.{CmpEqualImpliesEq}
use Rattle.std.proofs.lemmas.Option.{none-some, same_Some, slice_get-map}
use Rattle.std.specs.BTreeMap.{BTreeMap, IsEmpty, Updates, get_by, is_at}
use Rattle.std.specs.List.{Contains}
use Rattle.std.specs.Map.{lookup}
use Rattle.std.specs.Ordering.{is_eq}
use Rattle.std.specs.declared.cmp.Ordering.{Ordering}
use Rattle.std.specs.declared.cmp.Ordering.TheVariants.{Equal, Greater, Less}
use Rattle.p21_spec_basics.proofs.Members.{Contains-at, at-front}
use Rattle.p21_stream_store.specs.Numbering.{AreNumbered, AreOnce, Interns}

-- ---- lists

pub at-the-end : {X : Type 0} (xs : List X) (x : X) → slice_get (xs ++ x ∷ []) (length xs) ≡ Some x
at-the-end [] x = refl
at-the-end (a ∷ xs) x = at-the-end xs x

pub at-or-before : {X : Type 0} (xs : List X) (x : X) (i : ℕ) (y : X) → slice_get (xs ++ x ∷ []) i ≡ Some y → (slice_get xs i ≡ Some y)
    ⊎ ((i ≡ length xs) × (x ≡ y))
at-or-before [] x zero y e = inr (refl, same_Some x y e)
at-or-before [] x (suc i) y e = absurd (none-some y e)
at-or-before (a ∷ xs) x zero y e = inl e
at-or-before (a ∷ xs) x (suc i) y e = elim (at-or-before xs x i y e)
    [ inl before ↦ inl before | inr end ↦ inr (ap (λ (k : ℕ). suc k) end.0, end.1) ]

-- what stands in the place of an element
pub mapped-at : {X Y : Type 0} (f : X → Y) (xs : List X) (k : ℕ) (x : X) → slice_get xs k ≡ Some x → slice_get (map f xs) k ≡ Some (f x)
mapped-at f xs k x at = slice_get-map f xs k ∙ ap (option_map f) at

-- an element that stands in the place
pub unmapped-at : {X Y : Type 0} (f : X → Y) (xs : List X) (k : ℕ) (y : Y) → slice_get (map f xs) k ≡ Some y
    → (x : X) × (slice_get xs k ≡ Some x) × (f x ≡ y)
unmapped-at f [] k y e = absurd (none-some y e)
unmapped-at f (x ∷ xs) zero y e = (x, refl, same_Some (f x) y e)
unmapped-at f (x ∷ xs) (suc k) y e = unmapped-at f xs k y e

-- ---- numbers that are given

-- a thing that has the number
pub known : {X : Type 0} (things : List X) (thing : X) (number : ℕ) → slice_get things number ≡ Some thing
    → Interns things thing number things
known things thing number at = (at, inl refl)

-- a thing that has the number behind the others
pub behind : {X : Type 0} (things after : List X) (thing : X) (number : ℕ) → number ≡ length things → after ≡ things ++ thing ∷ []
    → (Contains things thing → ⊥) → Interns things thing number after
behind things after thing number last is absent = (
  ap (λ xs. slice_get xs number) is ∙ ap (slice_get (things ++ thing ∷ [])) last
      ∙ at-the-end things thing,
  inr (is, absent),
)

-- ---- what a tree finds

equal-is : (r : Ordering) → is_eq r ≡ true → r ≡ Equal
equal-is Less e = absurd (true≢false (sym e))
equal-is Equal e = refl
equal-is Greater e = absurd (true≢false (sym e))

-- what is found stands at a key that passes the test
pub key-found : {K X : Type 0} (test : K → Bool) (entries : List (K × X)) (x : X) → lookup test entries ≡ Some x
    → (key : K) × (test key ≡ true)
key-found test [] x e = absurd (none-some x e)
key-found {K} {X} test (entry ∷ entries) x e = by (test entry.0) refl (key-found test entries x) where
  by : (b : Bool) → test entry.0 ≡ b → (lookup test entries ≡ Some x → (key : K) × (test key ≡ true)) → (key : K) × (test key ≡ true)
  by true is behind_ = (entry.0, is)
  by false is behind_ = behind_ (sym (ap (λ (b : Bool). cond b (Some entry.1) (lookup test entries)) is) ∙ e)

module _ {K V : Type 0} (view : K → V) (order : V → V → Ordering) (exact : CmpEqualImpliesEq order) where
  abbrev number_in : BTreeMap K ℕ → V → Option ℕ
  number_in numbers thing = get_by (λ (key : K). order thing (view key)) numbers

  thing-found : (numbers : BTreeMap K ℕ) (thing : V) (number : ℕ) → number_in numbers thing ≡ Some number → (key : K) × (thing ≡ view key)
  thing-found numbers thing number e =
      let (key, at) = key-found (is_at (λ (k : K). order thing (view k))) numbers.entries number e in
      (key, exact thing (view key) (equal-is (order thing (view key)) at))

  pub none-numbered : (things : List V) (numbers : BTreeMap K ℕ) → things ≡ [] → IsEmpty numbers → AreNumbered view order things numbers
  none-numbered things numbers no_thing empty = record {
    found = λ thing number e. absurd (none-some number (sym (ap (lookup (is_at (λ (k : K). order thing (view k)))) empty) ∙ e));
    kept = λ thing number e. absurd (none-some thing (ap (λ (xs : List V). slice_get xs number) (sym no_thing) ∙ e));
  }

  -- a thing that isn't found isn't there
  pub is-absent : (things : List V) (numbers : BTreeMap K ℕ) (thing : V) → AreNumbered view order things numbers
      → number_in numbers thing ≡ None → Contains things thing → ⊥
  is-absent things numbers thing are none there =
      let (k, at) = Contains-at things thing there in
      none-some k (sym none ∙ are.kept thing k at)

  pub are-once : (things : List V) (numbers : BTreeMap K ℕ) → AreNumbered view order things numbers → AreOnce things
  are-once things numbers are thing number other at at_ = same_Some number other (sym (are.kept thing number at) ∙ are.kept thing other at_)

  -- one more thing is found
  pub one-more : (things : List V) (numbers new : BTreeMap K ℕ) (key : K) → AreNumbered view order things numbers
      → number_in numbers (view key) ≡ None → Updates (λ (a b : K). order (view a) (view b)) numbers new key (Some (length things))
      → AreNumbered view order (things ++ view key ∷ []) new
  one-more things numbers new key are none updates = record { found = found; kept = kept } where
    by_test : (other : K) (b : Bool) → is_eq (order (view key) (view other)) ≡ b
        → number_in new (view other) ≡ cond b (Some (length things)) (number_in numbers (view other))
    by_test other b is = updates.0 other ∙ ap (λ (t : Bool). cond t (Some (length things)) (number_in numbers (view other))) is

    same : (other : K) → is_eq (order (view key) (view other)) ≡ true → view key ≡ view other
    same other is = exact (view key) (view other) (equal-is (order (view key) (view other)) is)

    at : (other : K) (number : ℕ) → number_in new (view other) ≡ Some number → (b : Bool) → is_eq (order (view key) (view other)) ≡ b
        → slice_get (things ++ view key ∷ []) number ≡ Some (view other)
    at other number there true is =
        let last : length things ≡ number = same_Some (length things) number (sym (by_test other true is) ∙ there) in
        subst (λ (n : ℕ). slice_get (things ++ view key ∷ []) n ≡ Some (view other)) last
        (at-the-end things (view key) ∙ ap (λ (v : V). Some v) (same other is))
    at other number there false is = at-front things (view key ∷ []) number (view other)
        (are.found (view other) number (sym (by_test other false is) ∙ there))

    found : (thing : V) (number : ℕ) → number_in new thing ≡ Some number → slice_get (things ++ view key ∷ []) number ≡ Some thing
    found thing number e =
        let (other, is) = thing-found new thing number e in
        let there : number_in new (view other) ≡ Some number = ap (number_in new) (sym is) ∙ e in
        subst (λ (v : V). slice_get (things ++ view key ∷ []) number ≡ Some v) (sym is)
        (at other number there (is_eq (order (view key) (view other))) refl)

    stays : (other : K) (number : ℕ) → number_in numbers (view other) ≡ Some number → (b : Bool) → is_eq (order (view key) (view other)) ≡ b
        → number_in new (view other) ≡ Some number
    stays other number there true is = absurd (none-some number (sym none ∙ ap (number_in numbers) (same other is) ∙ there))
    stays other number there false is = by_test other false is ∙ there

    earlier : (thing : V) (number : ℕ) → number_in numbers thing ≡ Some number → number_in new thing ≡ Some number
    earlier thing number e =
        let (other, is) = thing-found numbers thing number e in
        let there : number_in numbers (view other) ≡ Some number = ap (number_in numbers) (sym is) ∙ e in
        ap (number_in new) is ∙ stays other number there (is_eq (order (view key) (view other))) refl

    kept : (thing : V) (number : ℕ) → slice_get (things ++ view key ∷ []) number ≡ Some thing → number_in new thing ≡ Some number
    kept thing number e = elim (at-or-before things (view key) number thing e) [
      | inl before ↦ earlier thing number (are.kept thing number before)
      | inr end ↦ subst (λ (v : V). number_in new v ≡ Some number) end.1 (updates.1 ∙ ap (λ (n : ℕ). Some n) (sym end.0))
    ]
