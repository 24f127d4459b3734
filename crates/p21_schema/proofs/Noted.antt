-- Entities that are noted at the ONEOF lists in which they stand.
use Rattle.std.specs.Prelude.{◌≡◌, ◌≢◌, ◌↔◌, ◌⊎◌, ℕ, zero, suc, List, [], ◌∷◌, ◌++◌, Option, None, Some, map, take, Contains, refl}
use Rattle.std.specs.BTreeMap.{BTreeMap, Updates, get}
use Rattle.std.specs.Ordering.{nat_cmp}
use Rattle.std.proofs.Common.{arith, ap, sym, ◌∙◌, subst, inl, inr}
use Rattle.std.proofs.lemmas.Bool.{cases_eq}
use Rattle.std.proofs.lemmas.List.Elements.{Contains-append_left, Contains-push, Contains-push_cases}
use Rattle.p21_spec_basics.proofs.Members.{Contains-none, Contains-at, Contains-cases, Contains-found, Contains-later}
use Rattle.p21_spec_schema.specs.OneOf.{Clashes}
use Rattle.p21_spec_schema.specs.Schema.{Schema}
use Rattle.p21_schema.specs.NotedEntities.{AreNoted}
use Rattle.p21_schema.specs.OneOf.{ClashesWith, IsListedIn}
use Rattle.p21_spec_basics.proofs.Comparing.{is_at-other}

pub noted_none : (s : Schema) (find : ℕ → Option ℕ) → ((k : ℕ) → find k ≡ None) → AreNoted s [] find
noted_none s find none = record {
  found = λ k e is. (let no : None ≡ Some e = sym (none k) ∙ is in cc);
  kept = λ k e among. absurd (Contains-none e among);
}

-- the entity is noted at these lists, and all others are as before
pub record IsNoted (e : ℕ) (lists : List ℕ) (old new : ℕ → Option ℕ) : Type 0 where
  pub here : (k : ℕ) → Contains lists k → new k ≡ Some e
  pub other : (k : ℕ) → (Contains lists k → ⊥) → new k ≡ old k

pub noted-none : (e : ℕ) (find : ℕ → Option ℕ) → IsNoted e [] find find
noted-none e find = record { here = λ k among. absurd (Contains-none k among); other = λ k none. refl }

pub noted-more : (e : ℕ) (lists : List ℕ) (k : ℕ) (old now after : ℕ → Option ℕ) → IsNoted e lists old now → after k ≡ Some e
    → ((j : ℕ) → j ≢ k → after j ≡ now j) → IsNoted e (lists ++ k ∷ []) old after
noted-more e lists k old now after so_far here others = record {
  here = λ j among. elim (cases_eq j k) [
    | inl same ↦ let P : ℕ → Type 0 = λ i. after i ≡ Some e in subst P (sym same) here
    | inr differ ↦ others j differ ∙ so_far.here j (elim (Contains-push_cases lists k j among)
        [ inl h ↦ h | inr h ↦ absurd (differ (sym h)) ])
  ];
  other = λ j none. others j (λ same. none (let P : ℕ
      → Type 0 = λ i. Contains (lists ++ k ∷ []) i in subst P (sym same) (Contains-push lists k)))
      ∙ so_far.other j (λ among. none (Contains-append_left lists (k ∷ []) j among));
}

among_or : (xs : List ℕ) (x : ℕ) → Contains xs x ⊎ (Contains xs x → ⊥)
among_or [] x = inr (λ among. Contains-none x among)
among_or (y ∷ ys) x = elim (cases_eq y x) [
  | inl same ↦ inl (0, omega arith, same)
  | inr differ ↦ elim (among_or ys x) [
    | inl (i, below, is) ↦ inl (suc i, omega (arith, below), is)
    | inr none ↦ inr (λ among. elim (Contains-cases y ys x among) [ inl h ↦ differ h | inr h ↦ none h ])
  ]
]

module _ (s : Schema) (seen : List ℕ) (e : ℕ) (lists : List ℕ) (are : (k : ℕ) → Contains lists k ↔ IsListedIn s k e) (old : ℕ → Option ℕ)
    (held : AreNoted s seen old) where
  -- another one at one of its lists
  pub clash-found : (k other : ℕ) (front : List ℕ) (now : ℕ → Option ℕ) → IsNoted e front old now → Contains lists k → now k ≡ Some other
      → other ≢ e → ClashesWith s seen e
  clash-found k other front now noted among is differ =
      let apart : Contains front k → ⊥ = (λ in_front. let same : Some e ≡ Some other = sym (noted.here k in_front)
      ∙ is in let inner : e ≡ other = cc in differ (sym inner)) in
      let (other_seen, listed) = held.found k other (sym (noted.other k apart) ∙ is) in
      (other, other_seen, differ, (k, (are k).0 among, listed))

  -- it is noted at all of them, where none has another one
  pub noted_more : (new : ℕ → Option ℕ) → IsNoted e lists old new
      → ((k : ℕ) → Contains lists k → (other : ℕ) → old k ≡ Some other → other ≡ e) → AreNoted s (seen ++ e ∷ []) new
  noted_more new noted none = record {
    found = λ k f is. by_list k f is (listed_or k);
    kept = λ k f among listed. elim (Contains-push_cases seen e f among) [
      | inl h ↦ by_kept k f h listed (listed_or k)
      | inr h ↦ (let P : ℕ → Type 0 = λ x. new k ≡ Some x in let Q : ℕ
          → Type 0 = λ x. IsListedIn s k x in subst P h (noted.here k ((are k).1 (subst Q (sym h) listed))))
    ];
  }
    where
      listed_or : (k : ℕ) → Contains lists k ⊎ (Contains lists k → ⊥)
      listed_or k = among_or lists k

      by_list : (k f : ℕ) → new k ≡ Some f → Contains lists k ⊎ (Contains lists k → ⊥) → Contains (seen ++ e ∷ []) f × IsListedIn s k f
      by_list k f is (inl among) =
          let same : Some e ≡ Some f = sym (noted.here k among) ∙ is in
          let inner : e ≡ f = cc in
          let P : ℕ → Type 0 = λ x. Contains (seen ++ e ∷ []) x × IsListedIn s k x in
          subst P inner (Contains-push seen e, (are k).0 among)
      by_list k f is (inr apart) =
          let (in_seen, listed) = held.found k f (sym (noted.other k apart) ∙ is) in
          (Contains-append_left seen (e ∷ []) f in_seen, listed)

      by_kept : (k f : ℕ) → Contains seen f → IsListedIn s k f → Contains lists k ⊎ (Contains lists k → ⊥) → new k ≡ Some f
      by_kept k f in_seen listed (inl among) = noted.here k among ∙ ap Some (sym (none k among f (held.kept k f in_seen listed)))
      by_kept k f in_seen listed (inr apart) = noted.other k apart ∙ held.kept k f in_seen listed

-- a clash among those that were noted, and none
pub clash-of : (s : Schema) (entities : List ℕ) (seen : List ℕ) (e : ℕ) → ((f : ℕ) → Contains seen f → Contains entities f)
    → Contains entities e → ClashesWith s seen e → Clashes s entities
clash-of s entities seen e within among (f, f_seen, differ, (k, (listed, at, has), (listed_, at_, has_))) =
    let same : listed_ ≡ listed = (let both : Some listed_ ≡ Some listed = sym at_ ∙ at in cc) in
    let P : List ℕ → Type 0 = λ es. Contains es f in
    (listed, Contains-found s.one_of_lists k listed at, (e, f, has, subst P same has_, (λ is. differ (sym is)), among, within f f_seen))

pub no-clash : (s : Schema) (entities : List ℕ) (find : ℕ → Option ℕ) → AreNoted s entities find → Clashes s entities → ⊥
no-clash s entities find held (listed, listed_among, (e, f, has, has_, differ, among, among_)) =
    let (k, at) = Contains-at s.one_of_lists listed listed_among in
    let same : Some e ≡ Some f = sym (held.kept k e among (listed, at, has)) ∙ held.kept k f among_ (listed, at, has_) in
    let inner : e ≡ f = cc in
    differ inner

-- one list more at which the entity was noted
pub noted-next : (e : ℕ) (lists : List ℕ) (k : ℕ) (old : ℕ → Option ℕ) (now after : BTreeMap ℕ ℕ) → IsNoted e lists old (get nat_cmp now)
    → Updates nat_cmp now after k (Some e) → IsNoted e (lists ++ k ∷ []) old (get nat_cmp after)
noted-next e lists k old now after so_far updates =
    noted-more e lists k old (get nat_cmp now) (get nat_cmp after) so_far updates.1 (λ j differ. updates.2 j (is_at-other k j differ))

-- where none was noted but the entity, none is at one list more
pub none-more : (e : ℕ) (lists : List ℕ) (k : ℕ) (old now : ℕ → Option ℕ) → IsNoted e lists old now
    → ((other : ℕ) → now k ≡ Some other → other ≡ e) → ((j : ℕ) → Contains lists j → (other : ℕ) → old j ≡ Some other → other ≡ e) → (j : ℕ)
    → Contains (lists ++ k ∷ []) j → (other : ℕ) → old j ≡ Some other → other ≡ e
none-more e lists k old now noted here none j among other is = elim (Contains-push_cases lists k j among) [
  | inl front ↦ none j front other is
  | inr same ↦ elim (among_or lists k) [
    | inl front ↦ (let P : ℕ → Type 0 = λ i. Contains lists i in none j (subst P same front) other is)
    | inr apart ↦ (let P : ℕ → Type 0 = λ i. old i ≡ Some other in here other (noted.other k apart ∙ subst P (sym same) is))
  ]
]

-- what stands in front stands in the whole
pub prefix-in : {X : Type 0} (number : X → ℕ) (xs : List X) (k f : ℕ) → Contains (map number (take k xs)) f → Contains (map number xs) f
prefix-in number [] zero f among = among
prefix-in number [] (suc k) f among = among
prefix-in number (x ∷ xs) zero f among = absurd (Contains-none f among)
prefix-in number (x ∷ xs) (suc k) f among = elim (Contains-cases (number x) (map number (take k xs)) f among) [
  | inl is ↦ (0, omega arith, is)
  | inr more ↦ Contains-later (number x) (map number xs) f (prefix-in number xs k f more)
]
