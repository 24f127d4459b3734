-- The edges of one node stand in one range.
use Rattle.std.specs.Prelude.{◌≡◌, ◌⊎◌, ℕ, zero, suc, ◌+◌, ◌-◌, ◌<◌, ◌≤◌, Bool, true, false, List, [], ◌∷◌, ◌++◌, length, take, drop, filter, map, nat_eq, leb, if◌then◌else◌, refl}
use Rattle.std.specs.List.Sorted.{IsNonDecreasingBy, IsPartitionedBy, IsPartitionPoint}
use Rattle.std.proofs.Common.{arith, ap, sym, subst, ◌∙◌, get_or, inl, inr}
use Rattle.std.proofs.lemmas.Bool.Decides.{nat_tests}
use Rattle.p21_numbering.specs.Arrays.{Edge, IsStart, Use, other_end, rank_at}
use Rattle.p21_numbering.proofs.Gathering.{each-more}
use Rattle.std.proofs.lemmas.List.{length-append}

-- what passes stands from here on and before there
pub filter-range : {X : Type 0} (p : X → Bool) (xs : List X) (a b : ℕ) → a ≤ b → b ≤ length xs
    → ((k : ℕ) (d : X) → k < a → p (get_or xs k d) ≡ false)
    → ((k : ℕ) (d : X) → a ≤ k → k < b → p (get_or xs k d) ≡ true) → ((k : ℕ) (d : X) → b ≤ k → k < length xs → p (get_or xs k d) ≡ false)
    → take (b - a) (drop a xs) ≡ filter p xs
filter-range p [] zero zero up low before in_ behind = refl
filter-range p [] zero (suc b) up low before in_ behind = absurd (omega (arith, low))
filter-range p [] (suc a) b up low before in_ behind = absurd (omega (arith, low, up))
filter-range {X} p (x ∷ xs) zero zero up low before in_ behind =
    let rest : take (0 - 0) (drop 0 xs) ≡ filter p xs =
    filter-range p xs 0 0 (omega arith) (omega arith) (λ k d below. absurd (omega (arith, below)))
    (λ k d from below. absurd (omega (arith, below))) (λ k d from below. behind (suc k) d (omega arith) (omega (arith, below))) in
    rest ∙ ap (λ (b : Bool). if b then x ∷ filter p xs else filter p xs) (sym (behind 0 x (omega arith) (omega arith)))
filter-range {X} p (x ∷ xs) zero (suc b) up low before in_ behind =
    let none : b - 0 ≡ b = omega arith in
    let rest : take (b - 0) (drop 0 xs) ≡ filter p xs =
    filter-range p xs 0 b (omega arith) (omega (arith, low)) (λ k d below. absurd (omega (arith, below)))
    (λ k d from below. in_ (suc k) d (omega arith) (omega (arith, below)))
    (λ k d from below. behind (suc k) d (omega (arith, from)) (omega (arith, below))) in
    let whole : suc b - 0 ≡ suc b = omega arith in
    ap (λ k. take k (x ∷ xs)) whole ∙ ap (λ (ys : List X). x ∷ ys) (ap (λ k. take k xs) (sym none) ∙ rest)
    ∙ ap (λ (b_ : Bool). if b_ then x ∷ filter p xs else filter p xs) (sym (in_ 0 x (omega arith) (omega arith)))
filter-range p (x ∷ xs) (suc a) zero up low before in_ behind = absurd (omega (arith, up))
filter-range {X} p (x ∷ xs) (suc a) (suc b) up low before in_ behind =
    let less : suc b - suc a ≡ b - a = omega arith in
    let rest : take (b - a) (drop a xs) ≡ filter p xs =
    filter-range p xs a b (omega (arith, up)) (omega (arith, low)) (λ k d below. before (suc k) d (omega (arith, below)))
    (λ k d from below. in_ (suc k) d (omega (arith, from)) (omega (arith, below)))
    (λ k d from below. behind (suc k) d (omega (arith, from)) (omega (arith, below))) in
    ap (λ k. take k (drop a xs)) less ∙ rest ∙ ap (λ (b_ : Bool). if b_ then x ∷ filter p xs else filter p xs)
    (sym (before 0 x (omega arith)))

pub starts-rise : (edges : List Edge) (n a b : ℕ) → IsStart edges n a → IsStart edges (n + 1) b → a ≤ b
starts-rise edges n a b is next = elim (either a b) [
  | inl up ↦ up
  | inr down ↦ (let low = is.before b (0, 0, 0) down in let high = next.behind b (0, 0, 0) (omega arith) (omega (arith, down, is.low)) in
      absurd (omega (arith, low, high)))
]
  where
    either : (x y : ℕ) → (x ≤ y) ⊎ (y < x)
    either x y = grind arith

-- the edges of a node stand between its start and the next one
pub own-edges : (edges : List Edge) (n a b : ℕ) → IsStart edges n a → IsStart edges (n + 1) b
    → take (b - a) (drop a edges) ≡ filter (λ (e : Edge). nat_eq e.0 n) edges
own-edges edges n a b is next =
    filter-range (λ (e : Edge). nat_eq e.0 n) edges a b (starts-rise edges n a b is next) next.low
    (λ k d below. let low = is.before k d below in grind (arith, nat_tests))
    (λ k d from below. let high = is.behind k d from (omega (arith, below, next.low)) in let low = next.before k d below in
    grind (arith, nat_tests))
    (λ k d from below. let high = next.behind k d from below in grind (arith, nat_tests))

-- ---- what a map makes of ranges

map-take : {X Y : Type 0} (f : X → Y) (k : ℕ) (xs : List X) → take k (map f xs) ≡ map f (take k xs)
map-take f zero xs = refl
map-take f (suc k) [] = refl
map-take {Y = Y} f (suc k) (x ∷ xs) = ap (λ (ys : List Y). f x ∷ ys) (map-take f k xs)

map-drop : {X Y : Type 0} (f : X → Y) (k : ℕ) (xs : List X) → drop k (map f xs) ≡ map f (drop k xs)
map-drop f zero xs = refl
map-drop f (suc k) [] = refl
map-drop f (suc k) (x ∷ xs) = map-drop f k xs

pub own-uses : (edges : List Edge) (uses : List Use) (n a b : ℕ) → uses ≡ map other_end edges → IsStart edges n a → IsStart edges (n + 1) b
    → take (b - a) (drop a uses) ≡ map other_end (filter (λ (e : Edge). nat_eq e.0 n) edges)
own-uses edges uses n a b are is next =
    ap (λ (us : List Use). take (b - a) (drop a us)) are ∙ ap (take (b - a)) (map-drop other_end a edges)
    ∙ map-take other_end (b - a) (drop a edges) ∙ ap (map other_end) (own-edges edges n a b is next)

-- one node more
pub starts-more : (edges : List Edge) (starts more : List ℕ) (n at : ℕ) → length starts ≡ n + 1 → more ≡ starts ++ at ∷ []
    → ((m : ℕ) → m ≤ n → IsStart edges m (rank_at starts m)) → IsStart edges (n + 1) at
    → (length more ≡ n + 1 + 1) × ((m : ℕ) → m ≤ n + 1 → IsStart edges m (rank_at more m))
starts-more edges starts more n at long pushed each next =
    let P : List ℕ → Type 0 = λ xs. (m : ℕ) → m < n + 1 + 1 → IsStart edges m (get_or xs m 0) in
    let all = subst P (sym pushed) (each-more 0 (λ m k. IsStart edges m k) starts at (n + 1) long (λ m low. each m (omega (arith, low)))
    next) in
    (ap length pushed ∙ length-append starts (at ∷ []) ∙ omega (arith, long), λ m low. all m (omega (arith, low)))

pub first-start : (edges : List Edge) → IsStart edges 0 0
first-start edges = record {
  low = omega arith;
  before = λ k d below. absurd (omega (arith, below));
  behind =
      λ k d from below. omega arith;
}

pub starts-init : (edges : List Edge) (starts : List ℕ) → starts ≡ 0 ∷ []
    → (length starts ≡ 1) × ((m : ℕ) → m ≤ 0 → IsStart edges m (rank_at starts m))
starts-init edges starts is = (
  ap length is,
  λ m low. let none : m ≡ 0 = omega (arith, low) in
      let P : ℕ → Type 0 = λ k. IsStart edges k (rank_at starts k) in
      let Q : List ℕ → Type 0 = λ xs. IsStart edges 0 (rank_at xs 0) in
      subst P (sym none) (subst Q (sym is) (first-start edges)),
)

pub partitioned-edges : (edges : List Edge) (n : ℕ) → IsNonDecreasingBy (λ (e : Edge). e.0) edges
    → IsPartitionedBy (λ (e : Edge). leb e.0 n) edges
partitioned-edges edges n rise i j d low high below = let up = rise i j d (omega (arith, low)) high in grind (arith, nat_tests)

pub start-is : (edges : List Edge) (n at : ℕ) → at ≤ length edges
    → IsPartitionPoint (λ (e : Edge). leb e.0 n ≡ true) (λ (e : Edge). leb e.0 n ≡ false) edges at → IsStart edges (n + 1) at
start-is edges n at low point = record {
  low = low;
  before = λ k d below. let pass = point.0 k d (omega arith) below in grind (arith, nat_tests);
  behind = λ k d from below. let fail = point.1 k d from below in grind (arith, nat_tests);
}
