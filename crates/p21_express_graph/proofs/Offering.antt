-- What selects offer, from the members of each.
use Rattle.std.specs.Prelude.{◌≡◌, ◌↔◌, IsTrue, not, ℕ, zero, suc, ◌+◌, ◌<◌, ◌⊎◌, Bool, true, false, cond, List, [], ◌∷◌, ◌++◌, Option, Some, None, length, map, take, slice_get, Contains, refl}
use Rattle.std.specs.Bool.{◌==◌}
use Rattle.std.specs.List.Sorted.{IsStrictlyIncreasing}
use Rattle.std.proofs.Common.{arith, ap, sym, ◌∙◌, subst, inl, inr, get_or}
use Rattle.std.proofs.lemmas.Bool.{eq-eqb, ne_eqb}
use Rattle.std.proofs.lemmas.List.{map-append}
use Rattle.p21_spec_basics.proofs.Members.{Contains-none, Contains-first, Contains-later, Contains-cases}
use Rattle.p21_spec_schema.specs.Declared.{HasNoCircle, HasSelect}
use Rattle.p21_spec_schema.specs.Schema.{Schema, Member, entity_member, type_member, Kind, alias, items, choice, Defined, kind_of}
use Rattle.p21_spec_schema.specs.Select.{Offers, offered, offered_within, IsNoSelect, IsSelect}
use Rattle.p21_express_graph.specs.Meaning.{kind}
use Rattle.p21_express_graph.specs.SchemaContents.{defined}
use Rattle.p21_express_graph.specs.declared.schema_contents.Defined.{Defined as Declared}
use Rattle.p21_express_graph.specs.CollectedLists.{Collects, of_own, of_next, AreCollected}
use Rattle.p21_express_graph.specs.Offered.{members_of, is_choice, entity_numbers, type_numbers, plain_numbers, AreOffered}
use Rattle.p21_express_graph.specs.Resolved.{HoldsTogether, IsType}
use Rattle.p21_express_graph.specs.SettledOrder.{nexts_of, IsNext, AreWithin}
use Rattle.p21_express_graph.proofs.Gatherings.{mapped-length}
use Rattle.p21_express_graph.proofs.Lookups.{take-snoc}
use Rattle.p21_express_graph.proofs.Resolving.{member-is}
use Rattle.p21_express_graph.proofs.Walks.{nexts_at}

-- lists by kind
abbrev pub listed : (Kind → List ℕ) → List Defined → List (List ℕ)
listed list types = map (λ x. list x.kind) types

abbrev kinded : (Kind → List ℕ) → Option Kind → List ℕ
kinded list None = []
kinded list (Some k) = list k

listed-at : (list : Kind → List ℕ) (types : List Defined) (t : ℕ) → nexts_of (listed list types) t ≡ kinded list (elim (slice_get types t) [ Some x ↦ Some x.kind | None ↦ None ])
listed-at list [] t = refl
listed-at list (x ∷ types) zero = refl
listed-at list (x ∷ types) (suc t) = listed-at list types t

module _ (s : Schema) (list : Kind → List ℕ) where
  -- a number is listed where the kind of a type lists it
  pub listed-has : (t x : ℕ) → Contains (nexts_of (listed list s.types) t) x → (k : Kind) × (kind_of s t ≡ Some k) × Contains (list k) x
  listed-has t x among = let P : List ℕ → Type 0 = λ xs. Contains xs x in cases (kind_of s t) refl (subst P (listed-at list s.types t) among)
    where
      cases : (o : Option Kind) → kind_of s t ≡ o → Contains (kinded list o) x → (k : Kind) × (kind_of s t ≡ Some k) × Contains (list k) x
      cases None is among = absurd (Contains-none x among)
      cases (Some k) is among = (k, is, among)

  pub listed-got : (t x : ℕ) (k : Kind) → kind_of s t ≡ Some k → Contains (list k) x → Contains (nexts_of (listed list s.types) t) x
  listed-got t x k is among =
      let P : List ℕ → Type 0 = λ xs. Contains xs x in
      let Q : Option Kind → Type 0 = λ o. Contains (kinded list o) x in
      subst P (sym (listed-at list s.types t)) (subst Q (sym is) among)

-- numbers among members
pub entity-there : (members : List Member) (e : ℕ) → Contains (entity_numbers members) e → Contains members (entity_member e)
entity-there [] e among = absurd (Contains-none e among)
entity-there (entity_member f ∷ members) e among = elim (Contains-cases f (entity_numbers members) e among) [
  | inl h ↦ let P : ℕ → Type 0 = λ x. Contains (entity_member f ∷ members) (entity_member x) in subst P h (Contains-first (entity_member f) members)
  | inr h ↦ Contains-later (entity_member f) members (entity_member e) (entity-there members e h)
]
entity-there (type_member t ∷ members) e among = Contains-later (type_member t) members (entity_member e) (entity-there members e among)

pub type-there : (members : List Member) (t : ℕ) → Contains (type_numbers members) t → Contains members (type_member t)
type-there [] t among = absurd (Contains-none t among)
type-there (entity_member e ∷ members) t among = Contains-later (entity_member e) members (type_member t) (type-there members t among)
type-there (type_member u ∷ members) t among = elim (Contains-cases u (type_numbers members) t among) [
  | inl h ↦ let P : ℕ → Type 0 = λ x. Contains (type_member u ∷ members) (type_member x) in subst P h (Contains-first (type_member u) members)
  | inr h ↦ Contains-later (type_member u) members (type_member t) (type-there members t h)
]

-- the number of a member
abbrev number_of : Member → ℕ
number_of (entity_member e) = e
number_of (type_member t) = t

pub entity-listed : (members : List Member) (e : ℕ) → Contains members (entity_member e) → Contains (entity_numbers members) e
entity-listed [] e among = absurd (Contains-none (entity_member e) among)
entity-listed (entity_member f ∷ members) e among = elim (Contains-cases (entity_member f) members (entity_member e) among) [
  | inl h ↦ let same : f ≡ e = ap number_of h in let P : ℕ → Type 0 = λ x. Contains (f ∷ entity_numbers members) x in subst P same (Contains-first f (entity_numbers members))
  | inr h ↦ Contains-later f (entity_numbers members) e (entity-listed members e h)
]
entity-listed (type_member t ∷ members) e among = elim (Contains-cases (type_member t) members (entity_member e) among) [ inl h ↦ cc | inr h ↦ entity-listed members e h ]

pub type-listed : (members : List Member) (t : ℕ) → Contains members (type_member t) → Contains (type_numbers members) t
type-listed [] t among = absurd (Contains-none (type_member t) among)
type-listed (entity_member e ∷ members) t among = elim (Contains-cases (entity_member e) members (type_member t) among) [ inl h ↦ cc | inr h ↦ type-listed members t h ]
type-listed (type_member u ∷ members) t among = elim (Contains-cases (type_member u) members (type_member t) among) [
  | inl h ↦ let same : u ≡ t = ap number_of h in let P : ℕ → Type 0 = λ x. Contains (u ∷ type_numbers members) x in subst P same (Contains-first u (type_numbers members))
  | inr h ↦ Contains-later u (type_numbers members) t (type-listed members t h)
]

-- whether a type is a select
select-told : (s : Schema) (t : ℕ) → is_choice (kind_of s t) ≡ false → IsSelect s t → ⊥
select-told s t told (members, is) = let no : true ≡ false = sym (ap is_choice is) ∙ told in cc

select-is : (s : Schema) (t : ℕ) → is_choice (kind_of s t) ≡ true → IsSelect s t
select-is s t told = cases (kind_of s t) refl told
  where
    cases : (o : Option Kind) → kind_of s t ≡ o → is_choice o ≡ true → IsSelect s t
    cases (Some (choice members)) is told = (members, is)
    cases (Some (alias type)) is told = cc
    cases (Some (items words)) is told = cc
    cases None is told = cc

module _ (s : Schema) where
  plain-there : (members : List Member) (t : ℕ) → Contains (plain_numbers s members) t → Contains members (type_member t) × IsNoSelect s (type_member t)
  plain-there [] t among = absurd (Contains-none t among)
  plain-there (entity_member e ∷ members) t among = let (there, no_select) = plain-there members t among in (Contains-later (entity_member e) members (type_member t) there, no_select)
  plain-there (type_member u ∷ members) t among = cases (plain-there members t) (is_choice (kind_of s u)) refl among
    where
      cases : (Contains (plain_numbers s members) t → Contains members (type_member t) × IsNoSelect s (type_member t)) → (b : Bool) → is_choice (kind_of s u) ≡ b → Contains (cond b (plain_numbers s members) (u ∷ plain_numbers s members)) t → Contains (type_member u ∷ members) (type_member t) × IsNoSelect s (type_member t)
      cases more true told among = let (there, no_select) = more among in (Contains-later (type_member u) members (type_member t) there, no_select)
      cases more false told among = elim (Contains-cases u (plain_numbers s members) t among) [
        | inl h ↦
            let P : ℕ → Type 0 = λ x. Contains (type_member u ∷ members) (type_member x) in
            let Q : ℕ → Type 0 = λ x. IsNoSelect s (type_member x) in
            (subst P h (Contains-first (type_member u) members), subst Q h (select-told s u told))
        | inr h ↦ let (there, no_select) = more h in (Contains-later (type_member u) members (type_member t) there, no_select)
      ]

  plain-listed : (members : List Member) (t : ℕ) → Contains members (type_member t) → IsNoSelect s (type_member t) → Contains (plain_numbers s members) t
  plain-listed [] t among no_select = absurd (Contains-none (type_member t) among)
  plain-listed (entity_member e ∷ members) t among no_select = elim (Contains-cases (entity_member e) members (type_member t) among) [ inl h ↦ cc | inr h ↦ plain-listed members t h no_select ]
  plain-listed (type_member u ∷ members) t among no_select = cases (plain-listed members t) (is_choice (kind_of s u)) refl (Contains-cases (type_member u) members (type_member t) among)
    where
      cases : (Contains members (type_member t) → IsNoSelect s (type_member t) → Contains (plain_numbers s members) t) → (b : Bool) → is_choice (kind_of s u) ≡ b → (type_member u ≡ type_member t) ⊎ Contains members (type_member t) → Contains (cond b (plain_numbers s members) (u ∷ plain_numbers s members)) t
      cases more true told (inl h) = let same : u ≡ t = ap number_of h in let P : ℕ → Type 0 = λ x. IsSelect s x in absurd (no_select (subst P same (select-is s u told)))
      cases more true told (inr h) = more h no_select
      cases more false told (inl h) = let same : u ≡ t = ap number_of h in let P : ℕ → Type 0 = λ x. Contains (u ∷ plain_numbers s members) x in subst P same (Contains-first u (plain_numbers s members))
      cases more false told (inr h) = Contains-later u (plain_numbers s members) t (more h no_select)

-- what a kind lists comes from members of a select
choice-of : (k : Kind) (m : Member) → Contains (members_of k) m → (members : List Member) × (k ≡ choice members) × Contains members m
choice-of (choice members) m among = (members, refl, among)
choice-of (alias type) m among = absurd (Contains-none m among)
choice-of (items words) m among = absurd (Contains-none m among)

abbrev pub select_types : Schema → List (List ℕ)
select_types s = listed (λ k. type_numbers (members_of k)) s.types

-- lists of numbers of those members of selects that are no selects
pub record AreOwn (s : Schema) (member : ℕ → Member) (own : List (List ℕ)) : Type 0 where
  pub had : (t x : ℕ) → Contains (nexts_of own t) x → (members : List Member) × (kind_of s t ≡ Some (choice members)) × Contains members (member x) × IsNoSelect s (member x)
  pub got : (t x : ℕ) (members : List Member) → kind_of s t ≡ Some (choice members) → Contains members (member x) → IsNoSelect s (member x) → Contains (nexts_of own t) x

pub own-entities : (s : Schema) → AreOwn s entity_member (listed (λ k. entity_numbers (members_of k)) s.types)
own-entities s = record {
  had = λ t x among.
      let (k, is, has) = listed-has s (λ k. entity_numbers (members_of k)) t x among in
      let (members, same, there) = choice-of k (entity_member x) (entity-there (members_of k) x has) in
      (members, is ∙ ap Some same, there, tt);
  got = λ t x members is among no_select. listed-got s (λ k. entity_numbers (members_of k)) t x (choice members) is (entity-listed members x among);
}

pub own-types : (s : Schema) → AreOwn s type_member (listed (λ k. plain_numbers s (members_of k)) s.types)
own-types s = record {
  had = λ t x among.
      let (k, is, has) = listed-has s (λ k. plain_numbers s (members_of k)) t x among in
      let (in_members, no_select) = plain-there s (members_of k) x has in
      let (members, same, there) = choice-of k (type_member x) in_members in
      (members, is ∙ ap Some same, there, no_select);
  got = λ t x members is among no_select. listed-got s (λ k. plain_numbers s (members_of k)) t x (choice members) is (plain-listed s members x among no_select);
}

module _ (s : Schema) where
  -- a type of a select comes next
  pub next-had : (t u : ℕ) → IsNext (select_types s) t u → (members : List Member) × (kind_of s t ≡ Some (choice members)) × Contains members (type_member u)
  next-had t u next =
      let (k, is, has) = listed-has s (λ k. type_numbers (members_of k)) t u next in
      let (members, same, there) = choice-of k (type_member u) (type-there (members_of k) u has) in
      (members, is ∙ ap Some same, there)

  pub next-got : (t u : ℕ) (members : List Member) → kind_of s t ≡ Some (choice members) → Contains members (type_member u) → IsNext (select_types s) t u
  next-got t u members is among = listed-got s (λ k. type_numbers (members_of k)) t u (choice members) is (type-listed members u among)

  pub selects-within : HoldsTogether s → AreWithin (select_types s)
  selects-within holds t u next =
      let (members, is, among) = next-had t u next in
      let below : u < length s.types = member-is s holds t members (type_member u) is among in
      omega (arith, below, mapped-length (λ x. type_numbers (members_of x.kind)) s.types)

  -- selects rank above other types
  abbrev ranked : (ℕ → ℕ) → ℕ → ℕ
  ranked rank t = cond (is_choice (kind_of s t)) (suc (rank t)) 0

  pub selects-rank : HasNoCircle (HasSelect s) → HasNoCircle (IsNext (select_types s))
  selects-rank ends = (ranked ends.0, falls)
    where
      falls : (t u : ℕ) → IsNext (select_types s) t u → ranked ends.0 u < ranked ends.0 t
      falls t u next =
          let (members, is, among) = next-had t u next in
          let above : ranked ends.0 t ≡ suc (ends.0 t) = ap (λ o. cond (is_choice o) (suc (ends.0 t)) 0) is in
          cases (is_choice (kind_of s u)) refl (λ select. let lt = ends.1 t u ((members, is, among), select) in omega (arith, lt)) above
        where
          cases : (b : Bool) → is_choice (kind_of s u) ≡ b → (IsSelect s u → suc (ends.0 u) < suc (ends.0 t)) → ranked ends.0 t ≡ suc (ends.0 t) → cond b (suc (ends.0 u)) 0 < ranked ends.0 t
          cases true told lt above = let below = lt (select-is s u told) in omega (arith, below, above)
          cases false told lt above = omega (arith, above)

  pub selects-end : HoldsTogether s → HasNoCircle (IsNext (select_types s))
  selects-end holds = selects-rank holds.selects_end

  module _ (member : ℕ → Member) (own : List (List ℕ)) (are : AreOwn s member own) where
    offers-had : (t x : ℕ) → Collects own (select_types s) t x → Offers s t (member x)
    offers-had t x (of_own _ _ has) = let (members, is, among, no_select) = are.had t x has in offered t members (member x) is among no_select
    offers-had t x (of_next _ u _ next more) = let (members, is, among) = next-had t u next in offered_within t u members (member x) is among (offers-had u x more)

    offers-got : (t : ℕ) (m : Member) → Offers s t m → (x : ℕ) → m ≡ member x → Collects own (select_types s) t x
    offers-got t m (offered _ members _ is among no_select) x same =
        let P : Member → Type 0 = λ n. Contains members n in
        let Q : Member → Type 0 = λ n. IsNoSelect s n in
        of_own t x (are.got t x members is (subst P same among) (subst Q same no_select))
    offers-got t m (offered_within _ u members _ is among offers) x same = of_next t u x (next-got t u members is among) (offers-got u m offers x same)

    -- what is collected is offered
    pub are-offered : (lists : List (List ℕ)) → AreCollected own (select_types s) lists → AreOffered s member lists
    are-offered lists collected_lists = record {
      size = collected_lists.size ∙ mapped-length (λ x. type_numbers (members_of x.kind)) s.types;
      each = λ t below x.
          let (had, got) = collected_lists.each t (let same = mapped-length (λ x. type_numbers (members_of x.kind)) s.types in omega (arith, below, same)) x in
          (λ among. offers-had t x (had among), λ offers. got (offers-got t (member x) offers x refl));
      rising = collected_lists.rising;
    }

-- one member more
entity-snoc : (members : List Member) (m : Member) → entity_numbers (members ++ m ∷ []) ≡ entity_numbers members ++ entity_numbers (m ∷ [])
entity-snoc [] m = refl
entity-snoc (entity_member e ∷ members) m = ap (λ xs. e ∷ xs) (entity-snoc members m)
entity-snoc (type_member t ∷ members) m = entity-snoc members m

type-snoc : (members : List Member) (m : Member) → type_numbers (members ++ m ∷ []) ≡ type_numbers members ++ type_numbers (m ∷ [])
type-snoc [] m = refl
type-snoc (entity_member e ∷ members) m = type-snoc members m
type-snoc (type_member t ∷ members) m = ap (λ xs. t ∷ xs) (type-snoc members m)

plain-snoc : (s : Schema) (members : List Member) (m : Member) → plain_numbers s (members ++ m ∷ []) ≡ plain_numbers s members ++ plain_numbers s (m ∷ [])
plain-snoc s [] m = refl
plain-snoc s (entity_member e ∷ members) m = plain-snoc s members m
plain-snoc s (type_member t ∷ members) m = by (is_choice (kind_of s t)) (plain-snoc s members m)
  where
    by : (b : Bool) → plain_numbers s (members ++ m ∷ []) ≡ plain_numbers s members ++ plain_numbers s (m ∷ []) → cond b (plain_numbers s (members ++ m ∷ [])) (t ∷ plain_numbers s (members ++ m ∷ [])) ≡ cond b (plain_numbers s members) (t ∷ plain_numbers s members) ++ plain_numbers s (m ∷ [])
    by true more = more
    by false more = ap (λ xs. t ∷ xs) more

module _ {X : Type 0} (meant : X → Member) (xs : List X) (k : ℕ) (d : X) (below : k < length xs) where
  listed-snoc : (list : List Member → List ℕ) → ((members : List Member) (m : Member) → list (members ++ m ∷ []) ≡ list members ++ list (m ∷ [])) → list (map meant (take (k + 1) xs)) ≡ list (map meant (take k xs)) ++ list (meant (get_or xs k d) ∷ [])
  listed-snoc list snoc =
      let next : k + 1 ≡ suc k = omega arith in
      ap (λ n. list (map meant (take n xs))) next ∙ ap (λ ys. list (map meant ys)) (take-snoc xs k d below) ∙ ap list (map-append meant (take k xs) (get_or xs k d ∷ [])) ∙ snoc (map meant (take k xs)) (meant (get_or xs k d))

  pub entity-more : entity_numbers (map meant (take (k + 1) xs)) ≡ entity_numbers (map meant (take k xs)) ++ entity_numbers (meant (get_or xs k d) ∷ [])
  entity-more = listed-snoc entity_numbers entity-snoc

  pub type-more : type_numbers (map meant (take (k + 1) xs)) ≡ type_numbers (map meant (take k xs)) ++ type_numbers (meant (get_or xs k d) ∷ [])
  type-more = listed-snoc type_numbers type-snoc

  pub plain-more : (s : Schema) → plain_numbers s (map meant (take (k + 1) xs)) ≡ plain_numbers s (map meant (take k xs)) ++ plain_numbers s (meant (get_or xs k d) ∷ [])
  plain-more s = listed-snoc (plain_numbers s) (plain-snoc s)

-- lists of the types of parts
pub listed-types : (list : Kind → List ℕ) (types : List Declared) → listed list (map defined types) ≡ map (λ x. list (kind x.kind)) types
listed-types list [] = refl
listed-types list (x ∷ types) = ap (λ ls. list (kind x.kind) ∷ ls) (listed-types list types)

-- what is listed after one member more
pub more-none : (xs before last after : List ℕ) → xs ≡ before → last ≡ [] → after ≡ before ++ last → xs ≡ after
more-none xs before last after is none after_is = is ∙ sym (append_nil before) ∙ ap (λ ys. before ++ ys) (sym none) ∙ sym after_is
  where
    append_nil : (ys : List ℕ) → ys ++ [] ≡ ys
    append_nil [] = refl
    append_nil (y ∷ ys) = ap (λ zs. y ∷ zs) (append_nil ys)

pub more-one : (new xs before last after : List ℕ) (n : ℕ) → new ≡ xs ++ n ∷ [] → xs ≡ before → last ≡ n ∷ [] → after ≡ before ++ last → new ≡ after
more-one new xs before last after n new_is is one after_is = new_is ∙ ap (λ ys. ys ++ n ∷ []) is ∙ ap (λ ys. before ++ ys) (sym one) ∙ sym after_is

-- as many lists as types
pub same-length : {X Y : Type 0} (numbers : X → List ℕ) (list : Y → List ℕ) (xs : List X) (ys : List Y) → map numbers xs ≡ map list ys → length xs ≡ length ys
same-length numbers list xs ys same = sym (mapped-length numbers xs) ∙ ap length same ∙ mapped-length list ys

module _ {X : Type 0} (numbers : X → List ℕ) (inside s : Schema) (member : ℕ → Member) (table : List X) (t : ℕ) (x : X) (found : List ℕ) (same : inside ≡ s) (are : AreOffered inside member (map numbers table)) (is_type : IsType s t) (x_is : x ≡ get_or table t x) (found_is : found ≡ numbers x) where
  in_table : AreOffered s member (map numbers table)
  in_table = let P : Schema → Type 0 = λ z. AreOffered z member (map numbers table) in subst P same are

  list_is : nexts_of (map numbers table) t ≡ found
  list_is = nexts_at numbers table t x found (omega (arith, is_type, in_table.size, mapped-length numbers table)) x_is found_is

  -- the list of a type has just what it offers
  pub offered-list : (y : ℕ) → Contains found y ↔ Offers s t (member y)
  offered-list y = let P : List ℕ → Type 0 = λ ys. Contains ys y ↔ Offers s t (member y) in subst P list_is (in_table.each t is_type y)

  pub offered-rises : IsStrictlyIncreasing found
  offered-rises = subst IsStrictlyIncreasing list_is (in_table.rising t)

  -- and is empty where it offers nothing
  pub offered-some : (b : Bool) (n : ℕ) → b ≡ (n == 0) → n ≡ length found → IsTrue (not b) ↔ ((y : ℕ) × Offers s t (member y))
  offered-some b n told is = by found is (λ y. (offered-list y).0) (λ y. (offered-list y).1)
    where
      by : (ys : List ℕ) → n ≡ length ys → ((y : ℕ) → Contains ys y → Offers s t (member y)) → ((y : ℕ) → Offers s t (member y) → Contains ys y) → IsTrue (not b) ↔ ((y : ℕ) × Offers s t (member y))
      by [] is has got = (λ yes. let no : false ≡ true = sym (ap not (told ∙ eq-eqb n 0 is)) ∙ yes in cc, λ (y, offers). absurd (Contains-none y (got y offers)))
      by (y ∷ ys) is has got = (λ yes. (y, has y (Contains-first y ys)), λ some. ap not (told ∙ ne_eqb n 0 (λ none. omega (arith, is, none))))
