-- Sections with the same headings, the same names and the same instances are the same.
use Rattle.std.specs.Prelude.{◌≡◌, ℕ, List, [], ◌∷◌, ◌++◌, map, Contains, refl}
use Rattle.std.specs.List.{flat_map, AllByRecursion as Each}
use Rattle.std.specs.Ordering.{nat_cmp}
use Rattle.std.proofs.Common.{ap, sym, subst, ◌∙◌, inl, inr}
use Rattle.std.proofs.lemmas.Cmp.{nat_cmp_total}
use Rattle.std.proofs.lemmas.List.{map-append}
use Rattle.p21_spec_basics.proofs.Members.{Contains-none, Contains-first, Contains-later, Contains-cases, Contains-flat_map, Contains-mapped, Contains-one_of, Each-member}
use Rattle.p21_spec_file.specs.Canonical.{AreNamesRising}
use Rattle.p21_spec_exchange.specs.DataSection.{Heading, DataSection, headings, instances_in}
use Rattle.p21_spec_file.specs.File.{names_with_heading}
use Rattle.p21_spec_file.specs.SameFile.{HaveSameMembers}
use Rattle.p21_spec_basics.proofs.RisingLists.{rises-once, rises-own}
use Rattle.p21_spec_laws.proofs.SaidFiles.{Instance}
use Rattle.p21_spec_basics.proofs.Shuffles.{NoneTwice, AreMembers}

abbrev pub named : List Instance → List ℕ
named is = map (λ (i : Instance). i.0) is

abbrev pub own_names : DataSection → List ℕ
own_names x = named x.instances

-- the instance names, by sections
abbrev names_by : List DataSection → List (List ℕ)
names_by xs = map own_names xs

joined : List (List ℕ) → List ℕ
joined nss = flat_map (λ (ns : List ℕ). ns) nss

named-joined : (xs : List DataSection) → named (instances_in xs) ≡ joined (names_by xs)
unfolding joined
named-joined [] = refl
named-joined (x ∷ xs) = map-append (λ (i : Instance). i.0) x.instances (instances_in xs) ∙ ap (λ (ns : List ℕ). own_names x ++ ns) (named-joined xs)

-- a heading has one section
one-section : (xs : List DataSection) → NoneTwice (headings xs) → (a b : DataSection) → Contains xs a → Contains xs b → a.heading ≡ b.heading → a ≡ b
one-section [] none a b among among_ same = absurd (Contains-none a among)
one-section (x ∷ xs) none a b among among_ same = elim (Contains-cases x xs a among) [
  | inl h ↦ elim (Contains-cases x xs b among_) [
    | inl h_ ↦ sym h ∙ h_
    | inr h_ ↦ absurd (twice b (ap (λ (z : DataSection). z.heading) h ∙ same) h_)
  ]
  | inr h ↦ elim (Contains-cases x xs b among_) [
    | inl h_ ↦ absurd (twice a (ap (λ (z : DataSection). z.heading) h_ ∙ sym same) h)
    | inr h_ ↦ one-section xs none.1 a b h h_ same
  ]
]
  where
    twice : (z : DataSection) → x.heading ≡ z.heading → Contains xs z → ⊥
    twice z is at = none.0 (let P : Heading → Type 0 = λ h. Contains (headings xs) h in subst P (sym is) (Contains-mapped (λ (w : DataSection). w.heading) xs z at))

-- a name that stands with a heading
placed-names : (x : DataSection) (n : ℕ) (h : Heading) → Contains (names_with_heading x) (n, h) → (x.heading ≡ h) × Contains (own_names x) n
placed-names x n h among = by x.instances among
  where
    by : (is : List Instance) → Contains {X = ℕ × Heading} (map (λ (i : Instance). (i.0, x.heading)) is) (n, h) → (x.heading ≡ h) × Contains (named is) n
    by [] at = absurd (Contains-none (n, h) at)
    by (i ∷ is) at = elim (Contains-cases (i.0, x.heading) (map (λ (j : Instance). (j.0, x.heading)) is) (n, h) at) [
      | inl same ↦ (ap (λ (z : ℕ × Heading). z.1) same, let P : ℕ → Type 0 = λ k. Contains (i.0 ∷ named is) k in subst P (ap (λ (z : ℕ × Heading). z.0) same) (Contains-first i.0 (named is)))
      | inr later ↦ let found = by is later in (found.0, Contains-later i.0 (named is) n found.1)
    ]

names-placed : (x : DataSection) (n : ℕ) → Contains (own_names x) n → Contains (names_with_heading x) (n, x.heading)
names-placed x n among = by x.instances among
  where
    by : (is : List Instance) → Contains (named is) n → Contains {X = ℕ × Heading} (map (λ (i : Instance). (i.0, x.heading)) is) (n, x.heading)
    by [] at = absurd (Contains-none n at)
    by (i ∷ is) at = elim (Contains-cases i.0 (named is) n at) [
      | inl same ↦ (let P : ℕ → Type 0 = λ k. Contains {X = ℕ × Heading} (map (λ (j : Instance). (j.0, x.heading)) (i ∷ is)) (k, x.heading) in subst P same (Contains-first (i.0, x.heading) (map (λ (j : Instance). (j.0, x.heading)) is)))
      | inr later ↦ Contains-later (i.0, x.heading) (map (λ (j : Instance). (j.0, x.heading)) is) (n, x.heading) (by is later)
    ]

-- sections of one heading have the same names, where each instance is in the same section
names-onto : (xs ys : List DataSection) → NoneTwice (headings ys) → AreMembers (flat_map names_with_heading xs) (flat_map names_with_heading ys) → (x y : DataSection) → Contains xs x → Contains ys y → x.heading ≡ y.heading → AreMembers (own_names x) (own_names y)
names-onto xs ys none onto x y at at_ same n among =
    let (z, among_, found) = Contains-one_of names_with_heading ys (n, x.heading) (onto (n, x.heading) (Contains-flat_map names_with_heading xs x (n, x.heading) at (names-placed x n among))) in
    let placed = placed-names z n x.heading found in
    let one : z ≡ y = one-section ys none z y among_ at_ (placed.0 ∙ same) in
    let P : DataSection → Type 0 = λ w. Contains (own_names w) n in
    subst P one placed.1

names-rising : (x y : DataSection) → AreNamesRising x → AreNamesRising y → AreMembers (own_names x) (own_names y) → AreMembers (own_names y) (own_names x) → own_names x ≡ own_names y
names-rising x y rise rise_ onto back = rises-once nat_cmp nat_cmp_total (λ (n : ℕ). n) (own_names x) (own_names y) (rises-own nat_cmp (own_names x) rise) (rises-own nat_cmp (own_names y) rise_) onto back

names-walk : (us vs : List DataSection) → ((x y : DataSection) → Contains us x → Contains vs y → x.heading ≡ y.heading → own_names x ≡ own_names y) → headings us ≡ headings vs → names_by us ≡ names_by vs
names-walk [] [] names same = refl
names-walk [] (v ∷ vs) names same = cc
names-walk (u ∷ us) [] names same = cc
names-walk (u ∷ us) (v ∷ vs) names same =
    let first : u.heading ≡ v.heading = cc in
    let rest : headings us ≡ headings vs = cc in
    ap (λ (ns : List ℕ). ns ∷ names_by us) (names u v (Contains-first u us) (Contains-first v vs) first)
    ∙ ap (λ (nss : List (List ℕ)). own_names v ∷ nss) (names-walk us vs (λ x y at at_ h. names x y (Contains-later u us x at) (Contains-later v vs y at_) h) rest)

-- the instance names of each section are one list
pub names-by_sections : (xs ys : List DataSection) → NoneTwice (headings xs) → headings xs ≡ headings ys → HaveSameMembers (flat_map names_with_heading xs) (flat_map names_with_heading ys) → Each AreNamesRising xs → Each AreNamesRising ys → names_by xs ≡ names_by ys
names-by_sections xs ys none same placed rise rise_ =
    let none_ : NoneTwice (headings ys) = subst NoneTwice same none in
    names-walk xs ys
    (λ x y at at_ h.
    names-rising x y (Each-member AreNamesRising xs x rise at) (Each-member AreNamesRising ys y rise_ at_) (names-onto xs ys none_ (λ z. (placed z).0) x y at at_ h)
    (names-onto ys xs none (λ z. (placed z).1) y x at_ at (sym h)))
    same

pub named-same : (xs ys : List DataSection) → names_by xs ≡ names_by ys → named (instances_in xs) ≡ named (instances_in ys)
named-same xs ys same = named-joined xs ∙ ap joined same ∙ sym (named-joined ys)

-- lists that are as long, one behind the other
split : (is js more others : List Instance) → named is ≡ named js → is ++ more ≡ js ++ others → (is ≡ js) × (more ≡ others)
split [] [] more others names same = (refl, same)
split [] (j ∷ js) more others names same = absurd (let none : [] ≡ j.0 ∷ named js = names in cc)
split (i ∷ is) [] more others names same = absurd (let none : i.0 ∷ named is ≡ [] = names in cc)
split (i ∷ is) (j ∷ js) more others names same =
    let rest = split is js more others (cc) (cc) in
    let first : i ≡ j = cc in
    (ap (λ (z : Instance). z ∷ is) first ∙ ap (λ (zs : List Instance). j ∷ zs) rest.0, rest.1)

-- sections are fixed by their headings, the names in each, and all instances
pub sections-once : (xs ys : List DataSection) → headings xs ≡ headings ys → names_by xs ≡ names_by ys → instances_in xs ≡ instances_in ys → xs ≡ ys
sections-once [] [] heads names all = refl
sections-once [] (y ∷ ys) heads names all = cc
sections-once (x ∷ xs) [] heads names all = cc
sections-once (x ∷ xs) (y ∷ ys) heads names all =
    let first : x.heading ≡ y.heading = cc in
    let own : own_names x ≡ own_names y = cc in
    let parts = split x.instances y.instances (instances_in xs) (instances_in ys) own all in
    let rest : xs ≡ ys = sections-once xs ys (cc) (cc) parts.1 in
    ap (λ (h : Heading). record { heading = h; instances = x.instances } ∷ xs) first
    ∙ ap (λ (is : List Instance). record { heading = y.heading; instances = is } ∷ xs) parts.0
    ∙ ap (λ (zs : List DataSection). y ∷ zs) rest
