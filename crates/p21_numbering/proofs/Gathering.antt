-- The keys of nodes as rows of numbers.
use Rattle.std.specs.Prelude.{◌≡◌, ◌⊎◌, ℕ, ◌+◌, ◌-◌, ◌<◌, List, [], ◌∷◌, ◌++◌, length, take, drop, Contains}
use Rattle.std.specs.Global.{Vec}
use Rattle.std.proofs.Common.{arith, ap, sym, subst, ◌∙◌, get_or, inl, inr}
use Rattle.std.proofs.lemmas.List.{length-map, map-append, take-append-drop, get_or-append_right, get_or_append_left}
use Rattle.std.proofs.lemmas.List.Elements.{Contains-append_left, Contains-append_right}
use Rattle.p21_numbering.specs.declared.adjacency.Adjacency.{Adjacency}
use Rattle.p21_numbering.specs.Arrays.{Use, AreUses, start, uses_of}
use Rattle.p21_numbering.specs.Rows.{held_rows}

pub used : (a : Adjacency) (n : ℕ) (u : Use) → Contains (uses_of a n) u → Contains a.uses.items u
used a n u among =
    let P : List Use → Type 0 = λ us. Contains us u in
    let rest : List Use = drop (start a n) a.uses.items in
    let later : Contains rest u = subst P (take-append-drop (start a (n + 1) - start a n) rest)
    (Contains-append_left (uses_of a n) (drop (start a (n + 1) - start a n) rest) u among) in
    subst P (take-append-drop (start a n) a.uses.items) (Contains-append_right (take (start a n) a.uses.items) rest u later)

pub uses-within : (count : ℕ) (a : Adjacency) → AreUses count a → (n : ℕ) (u : Use) → Contains (uses_of a n) u → u.0 < count
uses-within count a are n u among = are.within u (used a n u among)

split_last : (m n : ℕ) → m < n + 1 → (m < n) ⊎ (m ≡ n)
split_last m n low = grind arith

last : {X : Type 0} (d : X) (xs : List X) (x : X) (n : ℕ) → length xs ≡ n → get_or (xs ++ x ∷ []) n d ≡ x
last {X} d xs x n size = let none : n - n ≡ 0 = omega arith in get_or-append_right xs (x ∷ []) n n d size (omega arith)
    ∙ ap (λ k. get_or (x ∷ []) k d) none

-- one more
pub each-more : {X : Type 0} (d : X) (P : ℕ → X → Type 0) (xs : List X) (x : X) (n : ℕ) → length xs ≡ n
    → ((m : ℕ) → m < n → P m (get_or xs m d)) → P n x → (m : ℕ) → m < n + 1 → P m (get_or (xs ++ x ∷ []) m d)
each-more {X} d P xs x n size each one m low = elim (split_last m n low) [
  | inl below ↦ (let Q : X → Type 0 = λ y. P m y in subst Q (sym (get_or_append_left xs (x ∷ []) d m (omega (arith, below, size))))
      (each m below))
  | inr same ↦ (let Q : ℕ → Type 0 = λ k. P k (get_or (xs ++ x ∷ []) k d) in let R : X
      → Type 0 = λ y. P n y in subst Q (sym same) (subst R (sym (last d xs x n size)) one))
]

-- one row more
pub rows-more : (P : ℕ → List ℕ → Type 0) (rows more : List (Vec ℕ)) (row : Vec ℕ) (n : ℕ) → length rows ≡ n → more ≡ rows ++ row ∷ []
    → ((m : ℕ) → m < n → P m (get_or (held_rows rows) m [])) → P n row.items → (m : ℕ) → m < n + 1 → P m (get_or (held_rows more) m [])
rows-more P rows more row n long pushed each one m low =
    let all : held_rows more ≡ held_rows rows ++ row.items ∷ [] = ap held_rows pushed
    ∙ map-append (λ (r : Vec ℕ). r.items) rows (row ∷ []) in
    let size : length (held_rows rows) ≡ n = length-map rows (λ (r : Vec ℕ). r.items) ∙ long in
    let Q : List (List ℕ) → Type 0 = λ xs. P m (get_or xs m []) in
    subst Q (sym all) (each-more [] P (held_rows rows) row.items n size each one m low)
