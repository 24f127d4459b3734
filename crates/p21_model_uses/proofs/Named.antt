-- The references to a name are found.
use Rattle.std.specs.Prelude.{◌≡◌, ◌⊎◌, ◌↔◌, Result, Ok, Err, IfErr, IfOk, ℕ, zero, suc, ◌<◌, ◌≤◌, Bool, true, false, List, [], ◌∷◌, ◌++◌, Contains, length, map, take, drop, filter, ltb, nat_eq, if◌then◌else◌, refl}
use Rattle.std.specs.List.{AllByRecursion as Each}
use Rattle.std.specs.List.Sorted.{IsNonDecreasingBy, IsPartitionPoint, IsStrictlySortedBy}
use Rattle.std.specs.Cmp.{ranks}
use Rattle.std.specs.Ordering.{MatchOrdering}
use Rattle.std.proofs.Common.{Ordering, Less, arith, ap, sym, subst, ◌∙◌, get_or, append-nil, inl, inr}
use Rattle.std.proofs.lemmas.Bool.Decides.{nat_tests}
use Rattle.std.proofs.lemmas.Bool.{ltb-false, ltb-true}
use Rattle.std.proofs.lemmas.List.Elements.{Contains-get_or, at_from_Contains, filter-append}
use Rattle.std.proofs.lemmas.Map.Keys.{Less-from_sorted}
use Rattle.p21_spec_basics.proofs.Members.{Each-member, Each-of_members, Each-weaker}
use Rattle.p21_model_uses.specs.Tables.{AreNamed, IsOfMany, IsOfUses, IsTable, IsWithin, between, by_name, use_of, uses_in, uses_to}
use Rattle.p21_model_uses.specs.UseRows.{AreInOrder, UseRow}
use Rattle.p21_model_uses.specs.declared.fault.UsersFault.{UsersFault}
use Rattle.p21_model_uses.specs.declared.groups.Used.{Used}
use Rattle.p21_model_uses.specs.declared.references.Reference.{Reference}

abbrev of : ℕ → UseRow → Bool
of name u = nat_eq u.0 name

-- by names, one is below the other
below-by : (u v : Used) → by_name u v ≡ Less → u.name < v.name
below-by u v less = subst (λ (o : Ordering). MatchOrdering o (u.name < v.name) (u.name ≡ v.name) (v.name < u.name)) less
    (ranks u.name v.name)

each-taken : {X : Type 0} (P : X → Type 0) (n : ℕ) (xs : List X) → Each P xs → Each P (take n xs)
each-taken P zero xs all = tt
each-taken P (suc n) [] all = tt
each-taken P (suc n) (x ∷ xs) all = (all.0, each-taken P n xs all.1)

each-dropped : {X : Type 0} (P : X → Type 0) (n : ℕ) (xs : List X) → Each P xs → Each P (drop n xs)
each-dropped P zero xs all = all
each-dropped P (suc n) [] all = tt
each-dropped P (suc n) (x ∷ xs) all = each-dropped P n xs all.1

module _ (users : List ℕ) (places : List (ℕ × ℕ)) (name : ℕ) where
  all-named : (found : List Reference) (own : ℕ) → own ≡ name
      → filter (of name) (map (use_of users places own) found) ≡ map (use_of users places own) found
  all-named [] own same = refl
  all-named (r ∷ found) own same =
      let yes : nat_eq own name ≡ true = grind (arith, nat_tests, same) in
      let one = use_of users places own r in
      let others = map (use_of users places own) found in
      ap (λ (b : Bool). if b then one ∷ filter (of name) others else filter (of name) others) yes
      ∙ ap (λ (us : List UseRow). one ∷ us) (all-named found own same)

  none-named : (found : List Reference) (own : ℕ) → ¬ (own ≡ name) → filter (of name) (map (use_of users places own) found) ≡ []
  none-named [] own other = refl
  none-named (r ∷ found) own other =
      let no : nat_eq own name ≡ false = grind (arith, nat_tests, other) in
      let others = map (use_of users places own) found in
      ap (λ (b : Bool). if b then use_of users places own r ∷ filter (of name) others else filter (of name) others) no
      ∙ none-named found own other

  none-in : (references : List Reference) (used : List Used) → Each (λ (u : Used). ¬ (u.name ≡ name)) used
      → filter (of name) (uses_in users places references used) ≡ []
  none-in references [] others = refl
  none-in references (u ∷ used) others =
      filter-append (of name) (uses_to users places references u) (uses_in users places references used)
      ∙ ap (λ (us : List UseRow). us ++ filter (of name) (uses_in users places references used))
      (none-named (between u.start u.end references) u.name others.0)
      ∙ none-in references used others.1

  found-in : (references : List Reference) (used : List Used) (at : ℕ) (d : Used) → IsStrictlySortedBy by_name used → at < length used
      → (get_or used at d).name ≡ name
      → filter (of name) (uses_in users places references used) ≡ uses_to users places references (get_or used at d)
  unfolding IsStrictlySortedBy
  found-in references [] at d rises inside same = absurd (omega (arith, inside))
  found-in references (u ∷ used) zero d rises inside same =
      filter-append (of name) (uses_to users places references u) (uses_in users places references used)
      ∙ ap (λ (us : List UseRow). us ++ filter (of name) (uses_in users places references used))
      (all-named (between u.start u.end references) u.name same)
      ∙ ap (λ (us : List UseRow). uses_to users places references u ++ us)
      (none-in references used (Each-weaker (λ (v : Used). by_name u v ≡ Less) (λ (v : Used). ¬ (v.name ≡ name))
      (λ v less is. let up = below-by u v less in omega (arith, up, is, same)) used rises.0))
      ∙ append-nil (uses_to users places references u)
  found-in references (u ∷ used) (suc at) d rises inside same =
      filter-append (of name) (uses_to users places references u) (uses_in users places references used)
      ∙ ap (λ (us : List UseRow). us ++ filter (of name) (uses_in users places references used))
      (none-named (between u.start u.end references) u.name
      (λ is. let up = below-by u (get_or used at d) (Each-member (λ (v : Used). by_name u v ≡ Less) used (get_or used at d) rises.0
      (Contains-get_or used at d (omega (arith, inside)))) in omega (arith, up, is, same)))
      ∙ found-in references used at d rises.1 (omega (arith, inside)) same

-- names that rise strictly don't fall
pub names-up : (used : List Used) → IsStrictlySortedBy by_name used → IsNonDecreasingBy (λ (u : Used). u.name) used
names-up used rises i j d up low = elim (either i j) [
  | inl below ↦ (let less = below-by (get_or used i d) (get_or used j d) (Less-from_sorted by_name used i j d rises below low) in
      omega (arith, less))
  | inr over ↦ (let same : i ≡ j = omega (arith, up, over) in omega (arith, ap (λ n. (get_or used n d).name) same))
]
  where
    either : (x y : ℕ) → (x < y) ⊎ (y ≤ x)
    either x y = grind arith

-- the group that a search finds is that of the name, or there is none
pub found-named : (users : List ℕ) (places : List (ℕ × ℕ)) (references : List Reference) (used : List Used) (name at : ℕ) (d : Used)
    (found : List Reference) → IsTable users places references used → at < length used
    → (get_or used at d).name ≡ name → found ≡ between (get_or used at d).start (get_or used at d).end references
    → AreNamed users places references used name found
found-named users places references used name at d found table inside same is = record {
  are = ap (λ (rs : List Reference). map (use_of users places name) rs) is
      ∙ ap (λ (n : ℕ). map (use_of users places n) (between (get_or used at d).start (get_or used at d).end references)) (sym same)
      ∙ sym (found-in users places name references used at d table.rises inside same);
  within = subst (Each (IsWithin users places)) (sym is)
      (each-taken (IsWithin users places) _ _ (each-dropped (IsWithin users places) _ references table.within));
}

pub none-named-so : (users : List ℕ) (places : List (ℕ × ℕ)) (references : List Reference) (used : List Used) (name at : ℕ)
    (found : List Reference) → IsTable users places references used
    → IsPartitionPoint (λ (u : Used). ltb u.name name ≡ true) (λ (u : Used). ltb u.name name ≡ false) used at
    → (at < length used → (d : Used) → ¬ ((get_or used at d).name ≡ name)) → found ≡ []
    → AreNamed users places references used name found
none-named-so users places references used name at found table point other is = record {
  are = ap (λ (rs : List Reference). map (use_of users places name) rs) is
      ∙ sym (none-in users places name references used (Each-of_members (λ (u : Used). ¬ (u.name ≡ name)) used others));
  within = subst (Each (IsWithin users places)) (sym is) tt;
}
  where
    either : (x y : ℕ) → (x < y) ⊎ (y ≤ x)
    either x y = grind arith

    apart : (k : ℕ) (d : Used) → k < length used → ¬ ((get_or used k d).name ≡ name)
    apart k d inside same = elim (either k at) [
      | inl low ↦ (let less = ltb-true (get_or used k d).name name (point.0 k d (omega arith) low) in omega (arith, less, same))
      | inr from ↦ elim (either at k) [
        | inl above ↦ (
            let least = ltb-false (get_or used at d).name name (point.1 at d (omega arith) (omega (arith, above, inside))) in
            let less = below-by (get_or used at d) (get_or used k d) (Less-from_sorted by_name used at k d table.rises above inside) in
            omega (arith, least, less, same)
            )
        | inr over ↦ (let is_at : k ≡ at = omega (arith, from, over) in
            other (omega (arith, is_at, inside)) d (ap (λ n. (get_or used n d).name) (sym is_at) ∙ same))
      ]
    ]

    others : (u : Used) → Contains used u → ¬ (u.name ≡ name)
    others u among same = let (k, inside, is_u) = at_from_Contains used u among in
        apart k u inside (ap (λ (v : Used). v.name) (is_u u) ∙ same)

-- the group that is read there is that of the name
pub found-at : (users : List ℕ) (places : List (ℕ × ℕ)) (references : List Reference) (used : List Used) (name at : ℕ) (g : Used)
    (found : List Reference) → IsTable users places references used → at < length used → g ≡ get_or used at g
    → g.name ≡ name → (g.start ≤ g.end → g.end ≤ length references → found ≡ between g.start g.end references)
    → AreNamed users places references used name found
found-at users places references used name at g found table inside is same ranged =
    let there : get_or used at g ≡ g = sym is in
    let (up, low) = Each-member (λ (u : Used). (u.start ≤ u.end) × (u.end ≤ length references)) used g table.ranges
    (subst (λ (u : Used). Contains used u) there (Contains-get_or used at g inside)) in
    found-named users places references used name at g found table inside (ap (λ (u : Used). u.name) there ∙ same)
    (ranged up low ∙ ap (λ (u : Used). between u.start u.end references) is)

-- what is answered of ordered rows is so of the rows that were given
pub ordered-members : {F : Type 0} (r : Result (List UseRow) F) (rows ordered given : List UseRow) → IfOk r (λ table. table ≡ rows)
    → rows ≡ ordered → ((u : UseRow) → Contains ordered u ↔ Contains given u)
    → IfOk r (λ table. (u : UseRow) → Contains table u ↔ Contains given u)
ordered-members (Ok table) rows ordered given is same members =
    λ u. subst (λ (us : List UseRow). Contains us u ↔ Contains given u) (sym (is ∙ same)) (members u)
ordered-members (Err fault) rows ordered given is same members = is

pub ordered-fault : {T : Type 0} (r : Result T UsersFault) (rows ordered given : List UseRow) → IfErr r (IsOfMany (length rows))
    → rows ≡ ordered → AreInOrder ordered → ((u : UseRow) → Contains ordered u ↔ Contains given u) → IfErr r (IsOfUses given)
ordered-fault (Ok table) rows ordered given many same order members = many
ordered-fault (Err fault) rows ordered given many same order members =
    record { uses = ordered; order = order; members = members; many = subst (λ (us : List UseRow). IsOfMany (length us) fault) same many }
