-- Orders by rank: positions, and the positions of what is the same but for names.
use Rattle.std.specs.Prelude.{◌≡◌, ◌↔◌, ◌≤◌, ◌<◌, ℕ, zero, suc, Bool, true, false, List, [], ◌∷◌, map, length, Contains, Some, slice_get, refl, nat_eq, if◌then◌else◌}
use Rattle.std.specs.List.{AllByRecursion as Each}
use Rattle.std.proofs.Common.{arith, ap, sym, subst, ◌∙◌, inl, inr, true≢false}
use Rattle.std.proofs.lemmas.Bool.{eqb-true, eq-eqb, ne_eqb}
use Rattle.p21_spec_basics.proofs.Members.{Contains-none, Contains-first, Contains-later, Contains-cases, Contains-mapped, Contains-unmapped, Contains-found, Each-member, Each-mapped}
use Rattle.p21_spec_basics.proofs.Shuffles.{Taken, Taken-none, Taken-cases, Taken-among, NoneTwice, distinct-none_twice, Shuffled, one_more, Shuffled-none, Shuffled-first, Shuffled-symmetric, Shuffled-transitive, Shuffled-reflexive, Shuffled-members, Shuffled-mapped}
use Rattle.p21_spec_file.specs.File.{FileMeaning}
use Rattle.p21_spec_numbering.proofs.Lists.{Shuffled-length, map-agree, map-mapped, members-shuffled}
use Rattle.std.proofs.lemmas.List.{length-map}
use Rattle.p21_spec_file.specs.Meaning.{Typed}
use Rattle.p21_spec_numbering.proofs.Renaming.{names-renamed}
use Rattle.p21_spec_numbering.proofs.Moved.{names-none_twice}
use Rattle.p21_spec_numbering.specs.Ordered.{Ascends, Ranking, IsOrder, position, number_in, ordered}
use Rattle.p21_spec_numbering.specs.Renamed.{names, IsInjectiveOn, IsWhole}

-- ---- numbers that don't fall stand in one order

pub ascends-once : (xs ys : List ℕ) → Ascends (λ n. n) xs → Ascends (λ n. n) ys → Shuffled xs ys → xs ≡ ys
ascends-once [] ys up up_ shuffled = sym (Shuffled-none ys shuffled)
ascends-once (x ∷ xs) [] up up_ shuffled = let (rest, taken, more) = Shuffled-first x xs [] shuffled in absurd (Taken-none x rest taken)
ascends-once (x ∷ xs) (y ∷ ys) up up_ shuffled =
    let (rest, taken, more) = Shuffled-first x xs (y ∷ ys) shuffled in
    let high : y ≤ x = least y ys x up_.0 (Taken-among x (y ∷ ys) rest taken) in
    let low : x ≤ y = least x xs y up.0 (Shuffled-members (y ∷ ys) (x ∷ xs) (Shuffled-symmetric (x ∷ xs) (y ∷ ys) shuffled) y (Contains-first y ys)) in
    let same : x ≡ y = omega (arith, high, low) in
    let tails : Shuffled xs ys = elim (Taken-cases x y ys rest taken) [
      | inl (one, is) ↦ let P : List ℕ → Type 0 = λ zs. Shuffled xs zs in subst P is more
      | inr (others, is, taken_) ↦
          let P : List ℕ → Type 0 = λ zs. Shuffled xs zs in
          let Q : ℕ → Type 0 = λ z. Taken z ys others in
          Shuffled-transitive xs (y ∷ others) ys (subst P is more) (one_more y others ys others (subst Q same taken_) (Shuffled-reflexive others))
    ] in
    ap (λ z. z ∷ xs) same ∙ ap (λ (zs : List ℕ). y ∷ zs) (ascends-once xs ys up.1 up_.1 tails)
  where
    least : (z : ℕ) (zs : List ℕ) (w : ℕ) → Each (λ m. z ≤ m) zs → Contains (z ∷ zs) w → z ≤ w
    least z zs w each among = elim (Contains-cases z zs w among) [
      | inl h ↦ omega (arith, h)
      | inr h ↦ Each-member (λ m. z ≤ m) zs w each h
    ]

pub ascends-mapped : (r : ℕ → ℕ) (ns : List ℕ) → Ascends r ns → Ascends (λ n. n) (map r ns)
ascends-mapped r [] up = tt
ascends-mapped r (n ∷ ns) up = (Each-mapped (λ m. r n ≤ m) r ns up.0, ascends-mapped r ns up.1)

-- ---- positions

pub position-at : (ns : List ℕ) (n : ℕ) → Contains ns n → slice_get ns (position ns n) ≡ Some n
position-at [] n among = absurd (Contains-none n among)
position-at (m ∷ ns) n among = by_test (nat_eq m n) refl (position-at ns n)
  where
    by_test : (b : Bool) → nat_eq m n ≡ b → (Contains ns n → slice_get ns (position ns n) ≡ Some n)
        → slice_get (m ∷ ns) (if b then 0 else suc (position ns n)) ≡ Some n
    by_test true e more = ap Some (eqb-true m n e)
    by_test false e more = elim (Contains-cases m ns n among) [
      | inl h ↦ absurd (true≢false (sym (eq-eqb m n h) ∙ e))
      | inr h ↦ more h
    ]

pub position-is : (ns : List ℕ) → NoneTwice ns → (i n : ℕ) → slice_get ns i ≡ Some n → position ns n ≡ i
position-is [] none i n at = cc
position-is (m ∷ ns) none zero n at = let same : m ≡ n = cc in ap (λ (b : Bool). if b then 0 else suc (position ns n)) (eq-eqb m n same)
position-is (m ∷ ns) none (suc i) n at =
    let P : ℕ → Type 0 = λ k. Contains ns k in
    let other : nat_eq m n ≡ false = ne_eqb m n (λ same. none.0 (subst P (sym same) (Contains-found ns i n at))) in
    ap (λ (b : Bool). if b then 0 else suc (position ns n)) other ∙ ap suc (position-is ns none.1 i n at)

pub number-injective : (order : List ℕ) → IsInjectiveOn order (number_in order)
number-injective order m n among among_ same =
    let one : position order m ≡ position order n = omega (arith, same) in
    let h : Some m ≡ Some n = sym (position-at order m among) ∙ ap (slice_get order) one ∙ position-at order n among_ in cc

pub position-low : (ns : List ℕ) (n : ℕ) → Contains ns n → position ns n < length ns
position-low [] n among = absurd (Contains-none n among)
position-low (m ∷ ns) n among = by_test (nat_eq m n) refl (position-low ns n)
  where
    by_test : (b : Bool) → nat_eq m n ≡ b → (Contains ns n → position ns n < length ns)
        → (if b then 0 else suc (position ns n)) < suc (length ns)
    by_test true e more = omega arith
    by_test false e more = elim (Contains-cases m ns n among) [
      | inl h ↦ absurd (true≢false (sym (eq-eqb m n h) ∙ e))
      | inr h ↦ let low = more h in omega (arith, low)
    ]

pub at-position : (ns : List ℕ) (i : ℕ) → i < length ns → (n : ℕ) × (slice_get ns i ≡ Some n)
at-position [] i low = absurd (omega (arith, low))
at-position (m ∷ ns) zero low = (m, refl)
at-position (m ∷ ns) (suc i) low = at-position ns i (omega (arith, low))

-- positions of other names
pub position-mapped : (f : ℕ → ℕ) (ns : List ℕ) (n : ℕ) → Contains ns n → IsInjectiveOn ns f → position (map f ns) (f n) ≡ position ns n
position-mapped f [] n among injective = absurd (Contains-none n among)
position-mapped f (m ∷ ns) n among injective = by_test (nat_eq m n) refl (λ at. position-mapped f ns n at (λ j k at_ at__ one. injective j k (Contains-later m ns j at_) (Contains-later m ns k at__) one))
  where
    by_test : (b : Bool) → nat_eq m n ≡ b → (Contains ns n → position (map f ns) (f n) ≡ position ns n)
        → (if nat_eq (f m) (f n) then 0 else suc (position (map f ns) (f n))) ≡ (if b then 0 else suc (position ns n))
    by_test true e more = ap (λ (c : Bool). if c then 0 else suc (position (map f ns) (f n))) (eq-eqb (f m) (f n) (ap f (eqb-true m n e)))
    by_test false e more = elim (Contains-cases m ns n among) [
      | inl h ↦ absurd (true≢false (sym (eq-eqb m n h) ∙ e))
      | inr h ↦
          ap (λ (c : Bool). if c then 0 else suc (position (map f ns) (f n))) (ne_eqb (f m) (f n) (λ one. true≢false (sym (eq-eqb m n (injective m n (Contains-first m ns) among one)) ∙ e)))
          ∙ ap suc (more h)
    ]

get-mapped : (r : ℕ → ℕ) (ns : List ℕ) (i n : ℕ) → slice_get ns i ≡ Some n → slice_get (map r ns) i ≡ Some (r n)
get-mapped r [] i n at = cc
get-mapped r (m ∷ ns) zero n at = let same : m ≡ n = cc in ap (λ k. Some (r k)) same
get-mapped r (m ∷ ns) (suc i) n at = get-mapped r ns i n at

get-unmapped : (r : ℕ → ℕ) (ns : List ℕ) (i v : ℕ) → slice_get (map r ns) i ≡ Some v → (n : ℕ) × (slice_get ns i ≡ Some n) × (r n ≡ v)
get-unmapped r [] i v at = cc
get-unmapped r (m ∷ ns) zero v at = (m, refl, let same : r m ≡ v = cc in same)
get-unmapped r (m ∷ ns) (suc i) v at = get-unmapped r ns i v at

-- ---- orders of two files

pub order-shuffled : (ranking : Ranking) (m : FileMeaning) → IsWhole m → (order : List ℕ) → IsOrder ranking m order
    → Shuffled order (names m)
order-shuffled ranking m whole_ order is =
    members-shuffled order (names m) (distinct-none_twice order is.once) (names-none_twice m whole_) (λ n among. (is.all n).1 among) (λ n among. (is.all n).0 among)

-- the instance of the other file that stands at the same position has the same rank
pub partner : (ranking : Ranking) (f : ℕ → ℕ) (a b : FileMeaning) → IsWhole a → IsWhole b → Shuffled (map f (names a)) (names b)
    → ((n : ℕ) → Contains (names a) n → ranking b (f n) ≡ ranking a n) → (xs ys : List ℕ) → IsOrder ranking a xs → IsOrder ranking b ys
    → (n : ℕ) → Contains (names a) n → (k : ℕ) × Contains (names b) k × (position ys k ≡ position xs n) × (ranking b k ≡ ranking b (f n))
partner ranking f a b whole_ whole_b moved agree xs ys is is_ n among =
    let r : ℕ → ℕ = ranking a in
    let q : ℕ → ℕ = ranking b in
    let own : Shuffled (map r xs) (map r (names a)) = Shuffled-mapped r xs (names a) (order-shuffled ranking a whole_ xs is) in
    let other : Shuffled (map q ys) (map q (names b)) = Shuffled-mapped q ys (names b) (order-shuffled ranking b whole_b ys is_) in
    let between : Shuffled (map q (map f (names a))) (map q (names b)) = Shuffled-mapped q (map f (names a)) (names b) moved in
    let ranks : map q (map f (names a)) ≡ map r (names a) = map-mapped q f (names a) ∙ map-agree (λ m. q (f m)) r (names a) agree in
    let P : List ℕ → Type 0 = λ zs. Shuffled zs (map q (names b)) in
    let shuffled : Shuffled (map r xs) (map q ys) =
    Shuffled-transitive (map r xs) (map r (names a)) (map q ys) own (Shuffled-transitive (map r (names a)) (map q (names b)) (map q ys) (subst P ranks between) (Shuffled-symmetric (map q ys) (map q (names b)) other)) in
    let same : map r xs ≡ map q ys = ascends-once (map r xs) (map q ys) (ascends-mapped r xs is.ascends) (ascends-mapped q ys is_.ascends) shuffled in
    let at : slice_get (map r xs) (position xs n) ≡ Some (r n) = get-mapped r xs (position xs n) n (position-at xs n ((is.all n).0 among)) in
    let (k, at_, is_rank) = get-unmapped q ys (position xs n) (r n) (ap (λ (zs : List ℕ). slice_get zs (position xs n)) (sym same) ∙ at) in
    (k, (is_.all k).1 (Contains-found ys (position xs n) k at_), position-is ys (distinct-none_twice ys is_.once) (position xs n) k at_, is_rank ∙ sym (agree n among))

-- the names of what is ordered are the numbers up to how many instances there are
pub ordered-names : (ranking : Ranking) (m : FileMeaning) → IsWhole m → (order : List ℕ) → IsOrder ranking m order → (k : ℕ)
    → Contains (names (ordered order m)) k ↔ ((1 ≤ k) × (k ≤ length m.instances))
ordered-names ranking m whole_ order is k = (to, back k)
  where
    long : length order ≡ length m.instances
    long = Shuffled-length order (names m) (order-shuffled ranking m whole_ order is) ∙ length-map m.instances (λ (i : ℕ × Typed). i.0)

    to : Contains (names (ordered order m)) k → (1 ≤ k) × (k ≤ length m.instances)
    to among =
        let P : List ℕ → Type 0 = λ ns. Contains ns k in
        let (n, at, is_k) = Contains-unmapped (number_in order) (names m) k (subst P (names-renamed (number_in order) m) among) in
        let low = position-low order n ((is.all n).0 at) in
        (omega (arith, is_k), omega (arith, is_k, low, long))

    back : (k : ℕ) → (1 ≤ k) × (k ≤ length m.instances) → Contains (names (ordered order m)) k
    back zero (low, high) = absurd (omega (arith, low))
    back (suc i) (low, high) =
        let (n, at) = at-position order i (omega (arith, high, long)) in
        let P : List ℕ → Type 0 = λ ns. Contains ns (suc i) in
        let Q : ℕ → Type 0 = λ j. Contains (map (number_in order) (names m)) j in
        let own : number_in order n ≡ suc i = ap suc (position-is order (distinct-none_twice order is.once) i n at) in
        subst P (sym (names-renamed (number_in order) m)) (subst Q own (Contains-mapped (number_in order) (names m) n ((is.all n).1 (Contains-found order i n at))))
