-- Lists without an element, lists with no element twice, and lists with the same elements in another order.
use Rattle.std.specs.Prelude.{◌≡◌, ℕ, Bool, true, false, List, [], ◌∷◌, ◌++◌, Contains, refl, ◌⊎◌, map, nat_eq}
use Rattle.std.specs.List.{flat_map, IsDistinct, zip, AllByRecursion as Each}
use Rattle.std.specs.Str.{bytes_eq}
use Rattle.std.proofs.Common.{arith, ap, sym, subst, ◌∙◌, inl, inr, true≢false}
use Rattle.std.proofs.lemmas.Bool.{eq-eqb, ne_eqb}
use Rattle.std.proofs.lemmas.List.Elements.{Contains-append_left, Contains-append_right}
use Rattle.std.proofs.lemmas.Slice.Eq.{bytes_eq-Decides}
use Rattle.p21_spec_basics.proofs.Members.{Contains-none, Contains-first, Contains-later, Contains-cases, Contains-mapped, Contains-zip, Each-member}

-- the second list is the first without one element, which is this
pub data Taken {X : Type 0} (x : X) : List X → List X → Type 0 where
  taken_first : (y : X) (ys : List X) → x ≡ y → Taken x (y ∷ ys) ys
  taken_later : (y : X) (ys rest : List X) → Taken x ys rest → Taken x (y ∷ ys) (y ∷ rest)

pub Taken-among : {X : Type 0} (x : X) (ys rest : List X) → Taken x ys rest → Contains ys x
Taken-among x ys rest (taken_first y _ same) = (0, omega arith, sym same)
Taken-among x ys rest (taken_later y more rest_ taken) = Contains-later y more x (Taken-among x more rest_ taken)

pub Taken-kept : {X : Type 0} (x : X) (ys rest : List X) → Taken x ys rest → (z : X) → Contains rest z → Contains ys z
Taken-kept x ys rest (taken_first y _ same) z among = Contains-later y rest z among
Taken-kept x ys rest (taken_later y more rest_ taken) z among = elim (Contains-cases y rest_ z among) [
  | inl h ↦ (0, omega arith, h)
  | inr h ↦ Contains-later y more z (Taken-kept x more rest_ taken z h)
]

pub Taken-other : {X : Type 0} (x : X) (ys rest : List X) → Taken x ys rest → (z : X) → Contains ys z → (x ≡ z) ⊎ Contains rest z
Taken-other x ys rest (taken_first y _ same) z among = elim (Contains-cases y rest z among) [ inl h ↦ inl (same ∙ h) | inr h ↦ inr h ]
Taken-other x ys rest (taken_later y more rest_ taken) z among = elim (Contains-cases y more z among) [
  | inl h ↦ inr (0, omega arith, h)
  | inr h ↦ elim (Taken-other x more rest_ taken z h) [ inl same ↦ inl same | inr found ↦ inr (Contains-later y rest_ z found) ]
]

-- a member can be taken out
pub Contains-taken : {X : Type 0} (ys : List X) (x : X) → Contains ys x → (rest : List X) × Taken x ys rest
Contains-taken [] x among = absurd (Contains-none x among)
Contains-taken (y ∷ ys) x among = elim (Contains-cases y ys x among) [
  | inl h ↦ (ys, taken_first y ys (sym h))
  | inr h ↦ let (rest, taken) = Contains-taken ys x h in (y ∷ rest, taken_later y ys rest taken)
]

-- ---- lists with the same members

-- no element is there twice
abbrev pub NoneTwice : {X : Type 0} → List X → Type 0
NoneTwice [] = Unit {0}
NoneTwice (x ∷ xs) = ¬ Contains xs x × NoneTwice xs

pub Taken-none_twice : {X : Type 0} (x : X) (ys rest : List X) → Taken x ys rest → NoneTwice ys → ¬ Contains rest x × NoneTwice rest
Taken-none_twice {X} x ys rest (taken_first y _ same) none = (λ among. none.0 (let P : X → Type 0 = λ z. Contains rest z in subst P same among), none.1)
Taken-none_twice {X} x ys rest (taken_later y more rest_ taken) none =
    let later = Taken-none_twice x more rest_ taken none.1 in
    let first : ¬ Contains rest_ y = λ among. none.0 (Taken-kept x more rest_ taken y among) in (
      λ among. elim (Contains-cases y rest_ x among) [
        | inl h ↦ none.0 (let P : X → Type 0 = λ z. Contains more z in subst P (sym h) (Taken-among x more rest_ taken))
        | inr h ↦ later.0 h
      ],
      (first, later.1),
    )

abbrev pub AreMembers : {X : Type 0} → List X → List X → Type 0
AreMembers {X} xs ys = (x : X) → Contains xs x → Contains ys x

-- ---- lists with no element twice

pub NoneTwice-front : {X : Type 0} (xs ys : List X) → NoneTwice (xs ++ ys) → NoneTwice xs
NoneTwice-front [] ys none = tt
NoneTwice-front (x ∷ xs) ys none = (λ among. none.0 (Contains-append_left xs ys x among), NoneTwice-front xs ys none.1)

pub NoneTwice-back : {X : Type 0} (xs ys : List X) → NoneTwice (xs ++ ys) → NoneTwice ys
NoneTwice-back [] ys none = none
NoneTwice-back (x ∷ xs) ys none = NoneTwice-back xs ys none.1

-- a member once more behind them
pub NoneTwice-again : {X : Type 0} (xs : List X) (x : X) → Contains xs x → NoneTwice (xs ++ (x ∷ [])) → ⊥
NoneTwice-again [] x among none = Contains-none x among
NoneTwice-again {X} (y ∷ ys) x among none = elim (Contains-cases y ys x among) [
  | inl h ↦ none.0 (let P : X → Type 0 = λ z. Contains (ys ++ (x ∷ [])) z in subst P (sym h) (Contains-append_right ys (x ∷ []) x (Contains-first x [])))
  | inr h ↦ NoneTwice-again ys x h none.1
]

-- where no key is twice, a key stands beside one value
pub zip-one : {X Y : Type 0} (es : List X) (ys : List Y) (e : X) (y z : Y) → NoneTwice es → Contains (zip es ys) (e, y) → Contains (zip es ys) (e, z) → y ≡ z
zip-one [] ys e y z none among among_ = absurd (Contains-none (e, y) among)
zip-one (x ∷ xs) [] e y z none among among_ = absurd (Contains-none (e, y) among)
zip-one {X} {Y} (x ∷ xs) (w ∷ ws) e y z none among among_ = elim (Contains-cases (x, w) (zip xs ws) (e, y) among) [
  | inl h ↦ elim (Contains-cases (x, w) (zip xs ws) (e, z) among_) [
    | inl h_ ↦ sym (ap (λ (p : X × Y). p.1) h) ∙ ap (λ (p : X × Y). p.1) h_
    | inr h_ ↦ absurd (twice (ap (λ (p : X × Y). p.0) h) z h_)
  ]
  | inr h ↦ elim (Contains-cases (x, w) (zip xs ws) (e, z) among_) [
    | inl h_ ↦ absurd (twice (ap (λ (p : X × Y). p.0) h_) y h)
    | inr h_ ↦ zip-one xs ws e y z none.1 h h_
  ]
]
  where
    twice : x ≡ e → (u : Y) → Contains (zip xs ws) (e, u) → ⊥
    twice is u at = none.0 (let P : X → Type 0 = λ q. Contains xs q in subst P (sym is) (Contains-zip xs ws e u at))

-- what has one key is one, where the keys differ
pub one-keyed : {X K : Type 0} (key : X → K) (xs : List X) → NoneTwice (map key xs) → (a b : X) → Contains xs a → Contains xs b → key a ≡ key b → a ≡ b
one-keyed key [] none a b among among_ same = absurd (Contains-none a among)
one-keyed {X} {K} key (x ∷ xs) none a b among among_ same = elim (Contains-cases x xs a among) [
  | inl h ↦ elim (Contains-cases x xs b among_) [
    | inl h_ ↦ sym h ∙ h_
    | inr h_ ↦ absurd (twice b (ap key h ∙ same) h_)
  ]
  | inr h ↦ elim (Contains-cases x xs b among_) [
    | inl h_ ↦ absurd (twice a (ap key h_ ∙ sym same) h)
    | inr h_ ↦ one-keyed key xs none.1 a b h h_ same
  ]
]
  where
    twice : (z : X) → key x ≡ key z → Contains xs z → ⊥
    twice z is at = none.0 (let P : K → Type 0 = λ k. Contains (map key xs) k in subst P (sym is) (Contains-mapped key xs z at))

pub distinct-none_twice : (es : List ℕ) → IsDistinct nat_eq es → NoneTwice es
unfolding IsDistinct
distinct-none_twice [] distinct = tt
distinct-none_twice (e ∷ es) distinct = (λ among. true≢false (sym (eq-eqb e e refl) ∙ Each-member (λ y. nat_eq e y ≡ false) es e distinct.0 among), distinct-none_twice es distinct.1)

pub none_twice-distinct : (es : List ℕ) → NoneTwice es → IsDistinct nat_eq es
unfolding IsDistinct
none_twice-distinct [] none = tt
none_twice-distinct (e ∷ es) none = (others es none.0, none_twice-distinct es none.1)
  where
    others : (fs : List ℕ) → ¬ Contains fs e → Each (λ (f : ℕ). nat_eq e f ≡ false) fs
    others [] not_ = tt
    others (f ∷ fs) not_ = (ne_eqb e f (λ same. not_ (0, omega arith, sym same)), others fs (λ among. not_ (Contains-later f fs e among)))

pub texts-none_twice : (xs : List (List ℕ)) → IsDistinct bytes_eq xs → NoneTwice xs
unfolding IsDistinct
texts-none_twice [] distinct = tt
texts-none_twice (x ∷ xs) distinct = (λ among. true≢false (sym ((bytes_eq-Decides x x).1 refl) ∙ Each-member (λ y. bytes_eq x y ≡ false) xs x distinct.0 among), texts-none_twice xs distinct.1)

pub none_twice-texts : (xs : List (List ℕ)) → NoneTwice xs → IsDistinct bytes_eq xs
unfolding IsDistinct
none_twice-texts [] none = tt
none_twice-texts (x ∷ xs) none = (others xs none.0, none_twice-texts xs none.1)
  where
    by_test : (y : List ℕ) (b : Bool) → bytes_eq x y ≡ b → (x ≡ y → ⊥) → bytes_eq x y ≡ false
    by_test y true e differ = absurd (differ ((bytes_eq-Decides x y).0 e))
    by_test y false e differ = e

    others : (ys : List (List ℕ)) → ¬ Contains ys x → Each (λ y. bytes_eq x y ≡ false) ys
    others [] not_ = tt
    others (y ∷ ys) not_ = (by_test y (bytes_eq x y) refl (λ same. not_ (0, omega arith, sym same)), others ys (λ among. not_ (Contains-later y ys x among)))

-- ---- lists in another order

-- the same elements, each as often
pub data Shuffled {X : Type 0} : List X → List X → Type 0 where
  no_more : Shuffled [] []
  one_more : (x : X) (xs ys rest : List X) → Taken x ys rest → Shuffled xs rest → Shuffled (x ∷ xs) ys

pub Taken-none : {X : Type 0} (x : X) (rest : List X) → Taken x [] rest → ⊥
Taken-none x rest taken = elim taken [ ]

pub Taken-cases : {X : Type 0} (x y : X) (ys rest : List X) → Taken x (y ∷ ys) rest → ((x ≡ y) × (rest ≡ ys)) ⊎ ((more : List X) × (rest ≡ y ∷ more) × Taken x ys more)
Taken-cases x y ys rest (taken_first _ _ same) = inl (same, refl)
Taken-cases x y ys rest (taken_later _ _ more taken) = inr (more, refl, taken)

pub Shuffled-none : {X : Type 0} (ys : List X) → Shuffled [] ys → ys ≡ []
Shuffled-none ys no_more = refl

pub Shuffled-first : {X : Type 0} (x : X) (xs ys : List X) → Shuffled (x ∷ xs) ys → (rest : List X) × Taken x ys rest × Shuffled xs rest
Shuffled-first x xs ys (one_more _ _ _ rest taken more) = (rest, taken, more)

Shuffled-put_back : {X : Type 0} (x : X) (ys rest : List X) → Taken x ys rest → (xs : List X) → Shuffled rest xs → Shuffled ys (x ∷ xs)
Shuffled-put_back x ys rest (taken_first y _ same) xs pairs = one_more y rest (x ∷ xs) xs (taken_first x xs (sym same)) pairs
Shuffled-put_back x ys rest (taken_later y more rest_ taken) xs pairs =
    let (left_, taken_y, others) = Shuffled-first y rest_ xs pairs in
    one_more y more (x ∷ xs) (x ∷ left_) (taken_later x xs left_ taken_y) (Shuffled-put_back x more rest_ taken left_ others)

pub Shuffled-symmetric : {X : Type 0} (xs ys : List X) → Shuffled xs ys → Shuffled ys xs
Shuffled-symmetric xs ys no_more = no_more
Shuffled-symmetric xs ys (one_more x xs_ _ rest taken more) = Shuffled-put_back x ys rest taken xs_ (Shuffled-symmetric xs_ rest more)

-- two elements taken in the other order
Taken-swap : {X : Type 0} (u v : X) (ws first second : List X) → Taken v ws first → Taken u first second → (other : List X) × Taken u ws other × Taken v other second
Taken-swap u v ws first second (taken_first w _ same) taken = (w ∷ second, taken_later w first second taken, taken_first w second same)
Taken-swap u v ws first second (taken_later w more rest taken_v) (taken_first _ _ same) = (more, taken_first w more same, taken_v)
Taken-swap u v ws first second (taken_later w more rest taken_v) (taken_later _ _ rest_ taken_u) =
    let (other, taken_u_, taken_v_) = Taken-swap u v more rest rest_ taken_v taken_u in
    (w ∷ other, taken_later w more other taken_u_, taken_later w other rest_ taken_v_)

Shuffled-without : {X : Type 0} (x : X) (ys rest zs : List X) → Taken x ys rest → Shuffled ys zs → (other : List X) × Taken x zs other × Shuffled rest other
Shuffled-without {X} x ys rest zs (taken_first y _ same) pairs =
    let (other, taken_y, more) = Shuffled-first y rest zs pairs in
    let P : X → Type 0 = λ z. Taken z zs other in
    (other, subst P (sym same) taken_y, more)
Shuffled-without {X} x ys rest zs (taken_later y ys_ rest_ taken) pairs =
    let (zs_, taken_y, more) = Shuffled-first y ys_ zs pairs in
    let (second, taken_x, rest_pairs) = Shuffled-without x ys_ rest_ zs_ taken more in
    let (other, taken_x_, taken_y_) = Taken-swap x y zs zs_ second taken_y taken_x in
    (other, taken_x_, one_more y rest_ other second taken_y_ rest_pairs)

pub Shuffled-transitive : {X : Type 0} (xs ys zs : List X) → Shuffled xs ys → Shuffled ys zs → Shuffled xs zs
Shuffled-transitive xs ys zs no_more pairs = pairs
Shuffled-transitive xs ys zs (one_more x xs_ _ rest taken more) pairs =
    let (other, taken_z, rest_pairs) = Shuffled-without x ys rest zs taken pairs in
    one_more x xs_ zs other taken_z (Shuffled-transitive xs_ rest other more rest_pairs)

pub Shuffled-members : {X : Type 0} (xs ys : List X) → Shuffled xs ys → AreMembers xs ys
Shuffled-members xs ys no_more z among = among
Shuffled-members {X} xs ys (one_more x xs_ _ rest taken more) z among = elim (Contains-cases x xs_ z among) [
  | inl h ↦ (let P : X → Type 0 = λ w. Contains ys w in subst P h (Taken-among x ys rest taken))
  | inr h ↦ Taken-kept x ys rest taken z (Shuffled-members xs_ rest more z h)
]

Taken-mapped : {X Y : Type 0} (g : X → Y) (x : X) (ys rest : List X) → Taken x ys rest → Taken (g x) (map g ys) (map g rest)
Taken-mapped g x ys rest (taken_first y _ same) = taken_first (g y) (map g rest) (ap g same)
Taken-mapped g x ys rest (taken_later y more rest_ taken) = taken_later (g y) (map g more) (map g rest_) (Taken-mapped g x more rest_ taken)

pub Shuffled-mapped : {X Y : Type 0} (g : X → Y) (xs ys : List X) → Shuffled xs ys → Shuffled (map g xs) (map g ys)
Shuffled-mapped g xs ys no_more = no_more
Shuffled-mapped g xs ys (one_more x xs_ _ rest taken more) = one_more (g x) (map g xs_) (map g ys) (map g rest) (Taken-mapped g x ys rest taken) (Shuffled-mapped g xs_ rest more)

Taken-put_none : {X : Type 0} (x : X) (ys rest : List X) → Taken x ys rest → NoneTwice rest → ¬ Contains rest x → NoneTwice ys
Taken-put_none {X} x ys rest (taken_first y _ same) none other = (λ among. other (let P : X → Type 0 = λ z. Contains rest z in subst P (sym same) among), none)
Taken-put_none {X} x ys rest (taken_later y more rest_ taken) none other = (
  λ among. elim (Taken-other x more rest_ taken y among) [ inl same ↦ other (let h = Contains-first y rest_ in let P : X → Type 0 = λ z. Contains (y ∷ rest_) z in subst P (sym same) h) | inr found ↦ none.0 found ],
  Taken-put_none x more rest_ taken none.1 (λ among. other (Contains-later y rest_ x among)),
)

pub Shuffled-none_twice : {X : Type 0} (xs ys : List X) → Shuffled xs ys → NoneTwice xs → NoneTwice ys
Shuffled-none_twice xs ys no_more none = tt
Shuffled-none_twice xs ys (one_more x xs_ _ rest taken more) none =
    Taken-put_none x ys rest taken (Shuffled-none_twice xs_ rest more none.1) (λ among. none.0 (Shuffled-members rest xs_ (Shuffled-symmetric xs_ rest more) x among))

-- ---- lists one behind the other

pub Shuffled-reflexive : {X : Type 0} (xs : List X) → Shuffled xs xs
Shuffled-reflexive [] = no_more
Shuffled-reflexive (x ∷ xs) = one_more x xs (x ∷ xs) xs (taken_first x xs refl) (Shuffled-reflexive xs)

Taken-front : {X : Type 0} (x : X) (ys rest more : List X) → Taken x ys rest → Taken x (ys ++ more) (rest ++ more)
Taken-front x ys rest more (taken_first y _ same) = taken_first y (rest ++ more) same
Taken-front x ys rest more (taken_later y ys_ rest_ taken) = taken_later y (ys_ ++ more) (rest_ ++ more) (Taken-front x ys_ rest_ more taken)

Taken-behind : {X : Type 0} (x : X) (ys zs : List X) → Taken x (ys ++ (x ∷ zs)) (ys ++ zs)
Taken-behind x [] zs = taken_first x zs refl
Taken-behind x (y ∷ ys) zs = taken_later y (ys ++ (x ∷ zs)) (ys ++ zs) (Taken-behind x ys zs)

pub Shuffled-joined : {X : Type 0} (xs ys us vs : List X) → Shuffled xs ys → Shuffled us vs → Shuffled (xs ++ us) (ys ++ vs)
Shuffled-joined xs ys us vs no_more more = more
Shuffled-joined xs ys us vs (one_more x xs_ _ rest taken pairs) more = one_more x (xs_ ++ us) (ys ++ vs) (rest ++ vs) (Taken-front x ys rest vs taken) (Shuffled-joined xs_ rest us vs pairs more)

Shuffled-turned : {X : Type 0} (xs ys zs : List X) → Shuffled (xs ++ (ys ++ zs)) (ys ++ (xs ++ zs))
Shuffled-turned [] ys zs = Shuffled-reflexive (ys ++ zs)
Shuffled-turned (x ∷ xs) ys zs = one_more x (xs ++ (ys ++ zs)) (ys ++ (x ∷ (xs ++ zs))) (ys ++ (xs ++ zs)) (Taken-behind x ys (xs ++ zs)) (Shuffled-turned xs ys zs)

Shuffled-taken : {X Y : Type 0} (f : X → List Y) (x : X) (ys rest : List X) → Taken x ys rest → Shuffled (f x ++ flat_map f rest) (flat_map f ys)
Shuffled-taken {X} f x ys rest (taken_first y _ same) = let P : X → Type 0 = λ z. Shuffled (f x ++ flat_map f rest) (f z ++ flat_map f rest) in subst P same (Shuffled-reflexive (f x ++ flat_map f rest))
Shuffled-taken f x ys rest (taken_later y more rest_ taken) =
    Shuffled-transitive (f x ++ (f y ++ flat_map f rest_)) (f y ++ (f x ++ flat_map f rest_)) (f y ++ flat_map f more) (Shuffled-turned (f x) (f y) (flat_map f rest_))
    (Shuffled-joined (f y) (f y) (f x ++ flat_map f rest_) (flat_map f more) (Shuffled-reflexive (f y)) (Shuffled-taken f x more rest_ taken))

pub Shuffled-flat_map : {X Y : Type 0} (f : X → List Y) (xs ys : List X) → Shuffled xs ys → Shuffled (flat_map f xs) (flat_map f ys)
Shuffled-flat_map f xs ys no_more = no_more
Shuffled-flat_map f xs ys (one_more x xs_ _ rest taken more) =
    Shuffled-transitive (f x ++ flat_map f xs_) (f x ++ flat_map f rest) (flat_map f ys) (Shuffled-joined (f x) (f x) (flat_map f xs_) (flat_map f rest) (Shuffled-reflexive (f x)) (Shuffled-flat_map f xs_ rest more))
    (Shuffled-taken f x ys rest taken)

-- each shuffled in itself
pub Shuffled-each : {X Y : Type 0} (f g : X → List Y) → ((x : X) → Shuffled (f x) (g x)) → (xs : List X) → Shuffled (flat_map f xs) (flat_map g xs)
Shuffled-each f g each [] = no_more
Shuffled-each f g each (x ∷ xs) = Shuffled-joined (f x) (g x) (flat_map f xs) (flat_map g xs) (each x) (Shuffled-each f g each xs)
