-- One more of a list, in what loops have made of it.
use Rattle.std.specs.Prelude.{◌≡◌, ℕ, ◌+◌, ◌-◌, ◌<◌, List, [], ◌∷◌, ◌++◌, map, take, length, None, Some, Contains, refl}
use Rattle.std.specs.BTreeMap.{BTreeMap, Updates, get}
use Rattle.std.specs.List.{flat_map}
use Rattle.std.specs.Ordering.{nat_cmp}
use Rattle.std.proofs.Common.{arith, ap, sym, subst, ◌∙◌, inl, inr, get_or, append_assoc}
use Rattle.std.proofs.lemmas.Bool.{cases_eq}
use Rattle.std.proofs.lemmas.List.{append-nil, map-append, take_more, get_or-append_right, get_or_append_left, length-append}
use Rattle.std.proofs.lemmas.List.Elements.{Contains-push_cases}
use Rattle.p21_spec_basics.proofs.Comparing.{is_at-other}
use Rattle.p21_spec_basics.proofs.Members.{Contains-none}
use Rattle.p21_numbering.specs.Edges.{FindsNames}
use Rattle.p21_numbering.specs.Nodes.{Node, names, no_node}

pub map-more : {X Y : Type 0} (f : X → Y) (xs : List X) (k : ℕ) (x : X) → x ≡ get_or xs k x → k < length xs
    → map f (take (k + 1) xs) ≡ map f (take k xs) ++ f x ∷ []
map-more {X} f xs k x is low = ap (map f) (take_more xs k x low ∙ ap (λ (y : X). take k xs ++ y ∷ []) (sym is))
    ∙ map-append f (take k xs) (x ∷ [])

pub flat_map-joined : {X Y : Type 0} (f : X → List Y) (xs ys : List X) → flat_map f (xs ++ ys) ≡ flat_map f xs ++ flat_map f ys
flat_map-joined f [] ys = refl
flat_map-joined {X} {Y} f (x ∷ xs) ys = ap (λ (zs : List Y). f x ++ zs) (flat_map-joined f xs ys)
    ∙ sym (append_assoc (f x) (flat_map f xs) (flat_map f ys))

pub flat_map-last : {X Y : Type 0} (f : X → List Y) (xs : List X) (x : X) → flat_map f (xs ++ x ∷ []) ≡ flat_map f xs ++ f x
flat_map-last {Y = Y} f xs x = flat_map-joined f xs (x ∷ []) ∙ ap (λ (ys : List Y). flat_map f xs ++ ys) (append-nil (f x))

-- ---- names

pub names-none : (found : BTreeMap ℕ ℕ) → ((n : ℕ) → get nat_cmp found n ≡ None) → FindsNames found []
names-none found none = record {
  right = λ n at is. (let no : None ≡ Some at = sym (none n) ∙ is in cc);
  all = λ n is among. Contains-none n among;
}

pub names-more : (before after : BTreeMap ℕ ℕ) (nodes : List Node) (node : Node) (at : ℕ) → at ≡ length nodes → FindsNames before nodes
    → Updates nat_cmp before after node.name (Some at) → FindsNames after (nodes ++ node ∷ [])
names-more before after nodes node at long so_far updates = record {
  right = λ n k is. elim (cases_eq n node.name) [
    | inl same ↦
        let here : Some at ≡ Some k = sym updates.1 ∙ ap (get nat_cmp after) (sym same) ∙ is in
        let k_is : at ≡ k = cc in
        let none : k - length nodes ≡ 0 = omega (arith, long, k_is) in
        let found : get_or (nodes ++ node ∷ []) k no_node ≡ node =
        get_or-append_right nodes (node ∷ []) (length nodes) k no_node refl (omega (arith, long, k_is))
        ∙ ap (λ j. get_or (node ∷ []) j no_node) none in
        (omega (arith, long, k_is, length-append nodes (node ∷ [])), ap (λ (x : Node). x.name) found ∙ sym same)
    | inr differ ↦
        let (low, old) = so_far.right n k (sym (updates.2 n (is_at-other node.name n differ)) ∙ is) in (
          omega (arith, low, length-append nodes (node ∷ [])),
          ap (λ (x : Node). x.name) (get_or_append_left nodes (node ∷ []) no_node k low)
              ∙ old,
        )
  ];
  all = λ n none among. elim (cases_eq n node.name) [
    | inl same ↦ let no : Some at ≡ None = sym updates.1 ∙ ap (get nat_cmp after) (sym same) ∙ none in cc
    | inr differ ↦ elim (Contains-push_cases (names nodes) node.name n
        (let P : List ℕ → Type 0 = λ ns. Contains ns n in subst P (map-append (λ (x : Node). x.name) nodes (node ∷ [])) among)) [
          | inl old ↦ so_far.all n (sym (updates.2 n (is_at-other node.name n differ)) ∙ none) old
          | inr new ↦ absurd (differ (sym new))
        ]
  ];
}
