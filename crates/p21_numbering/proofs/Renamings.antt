-- Values that were taken one by one, and each renamed.
use Rattle.std.specs.Prelude.{◌≡◌, ℕ, ◌<◌, ◌≤◌, List, [], ◌∷◌, ◌++◌, map, length, refl}
use Rattle.std.proofs.Common.{arith, ap, sym, subst, ◌∙◌, get_or, reverse, append_assoc}
use Rattle.std.proofs.lemmas.List.{append-nil, map-append, reverse-append, reverse-reverse}
use denote.Param.Weighed.{at_most, most}
use Rattle.p21_mapping_values.specs.declared.value.Value.{Value}
use Rattle.p21_mapping_values.specs.View.{row_of_values, view, views}
use Rattle.p21_spec_file.specs.Value as meant
use Rattle.p21_spec_numbering.specs.Renamed.{renamed_value, renamed_values}

-- some were taken and seen by two functions alike, and those that are left stand in the other order
pub record Halfway {X Y Z : Type 0} (f : X → Z) (g : Y → Z) (left all : List X) (new : List Y) : Type 0 where
  pub taken : List X
  pub whole : taken ++ reverse left ≡ all
  pub seen : map g new ≡ map f taken

pub next-one : {X : Type 0} (left rest : List X) (x : X) → left ≡ rest ++ x ∷ [] → reverse left ≡ x ∷ reverse rest
next-one {X} left rest x is = ap (λ (xs : List X). reverse xs) is ∙ reverse-append rest (x ∷ [])

pub none-taken : {X Y Z : Type 0} (f : X → Z) (g : Y → Z) (left all : List X) (new : List Y) → left ≡ reverse all → new ≡ []
    → Halfway f g left all new
none-taken {X} f g left all new turned none = record {
  taken = [];
  whole = ap (λ (xs : List X). reverse xs) turned ∙ reverse-reverse all;
  seen = ap (map g) none;
}

pub one-taken : {X Y Z : Type 0} (f : X → Z) (g : Y → Z) (left rest all : List X) (x : X) (y : Y) (new more : List Y)
    → Halfway f g left all new → left ≡ rest ++ x ∷ [] → g y ≡ f x → more ≡ new ++ y ∷ [] → Halfway f g rest all more
one-taken {X} {Y} {Z} f g left rest all x y new more h is same pushed = record {
  taken = h.taken ++ x ∷ [];
  whole = append_assoc h.taken (x ∷ []) (reverse rest) ∙ ap (λ (xs : List X). h.taken ++ xs) (sym (next-one left rest x is)) ∙ h.whole;
  seen = ap (map g) pushed ∙ map-append g new (y ∷ []) ∙ ap (λ (zs : List Z). zs ++ g y ∷ []) h.seen
      ∙ ap (λ (z : Z). map f h.taken ++ z ∷ []) same ∙ sym (map-append f h.taken (x ∷ []));
}

pub all-taken : {X Y Z : Type 0} (f : X → Z) (g : Y → Z) (left all : List X) (new : List Y) → Halfway f g left all new → left ≡ []
    → map g new ≡ map f all
all-taken {X} f g left all new h none =
    h.seen ∙ ap (map f) (sym (append-nil h.taken) ∙ ap (λ (xs : List X). h.taken ++ reverse xs) (sym none) ∙ h.whole)

-- the one that is taken is one of all
at-seam : {X : Type 0} (ys : List X) (x : X) (more : List X)
    → (get_or (ys ++ x ∷ more) (length ys) x ≡ x) × (length ys < length (ys ++ x ∷ more))
at-seam [] x more = (refl, omega arith)
at-seam (y ∷ ys) x more = let (same, low) = at-seam ys x more in (same, omega (arith, low))

pub size-below : {X Y Z : Type 0} (size : X → ℕ) (f : X → Z) (g : Y → Z) (left rest all : List X) (x : X) (new : List Y)
    → Halfway f g left all new → left ≡ rest ++ x ∷ [] → size x ≤ most size all
size-below {X} size f g left rest all x new h is =
    let (at, low) = at-seam h.taken x (reverse rest) in
    let whole : h.taken ++ x ∷ reverse rest ≡ all = ap (λ (xs : List X). h.taken ++ xs) (sym (next-one left rest x is)) ∙ h.whole in
    let deep : size (get_or (h.taken ++ x ∷ reverse rest) (length h.taken) x) ≤ most size (h.taken ++ x ∷ reverse rest) =
    at_most size (h.taken ++ x ∷ reverse rest) (length h.taken) x low in
    subst (λ (xs : List X). size x ≤ most size xs) whole (subst (λ (y : X). size y ≤ most size (h.taken ++ x ∷ reverse rest)) at deep)

-- values in a row
renamed-row : (f : ℕ → ℕ) (xs : List Value) → row_of_values (map (λ v. renamed_value f (view v)) xs) ≡ renamed_values f (views xs)
renamed-row f [] = refl
renamed-row f (x ∷ xs) = ap (meant.value (renamed_value f (view x))) (renamed-row f xs)

pub views-renamed : (f : ℕ → ℕ) (new all : List Value) → map view new ≡ map (λ v. renamed_value f (view v)) all
    → views new ≡ renamed_values f (views all)
views-renamed f new all same = ap row_of_values same ∙ renamed-row f all

-- ---- names that agree

mutual
  renamed_value-agree : (f g : ℕ → ℕ) → ((n : ℕ) → f n ≡ g n) → (v : meant.Value) → renamed_value f v ≡ renamed_value g v
  renamed_value-agree f g same (meant.whole z) = refl
  renamed_value-agree f g same (meant.real d) = refl
  renamed_value-agree f g same (meant.number d) = refl
  renamed_value-agree f g same (meant.text chars) = refl
  renamed_value-agree f g same (meant.bits bs) = refl
  renamed_value-agree f g same (meant.item word) = refl
  renamed_value-agree f g same (meant.reference n) = ap meant.reference (same n)
  renamed_value-agree f g same meant.derived = refl
  renamed_value-agree f g same meant.missing = refl
  renamed_value-agree f g same (meant.list vs) = ap meant.list (renamed-agree f g same vs)
  renamed_value-agree f g same (meant.array vs) = ap meant.array (renamed-agree f g same vs)
  renamed_value-agree f g same (meant.set vs) = ap meant.set (renamed-agree f g same vs)
  renamed_value-agree f g same (meant.bag vs) = ap meant.bag (renamed-agree f g same vs)
  renamed_value-agree f g same (meant.typed t v) = ap (meant.typed t) (renamed_value-agree f g same v)

  pub renamed-agree : (f g : ℕ → ℕ) → ((n : ℕ) → f n ≡ g n) → (vs : meant.Values) → renamed_values f vs ≡ renamed_values g vs
  renamed-agree f g same meant.no_values = refl
  renamed-agree f g same (meant.value v vs) = ap (λ w. meant.value w (renamed_values f vs)) (renamed_value-agree f g same v)
      ∙ ap (meant.value (renamed_value g v)) (renamed-agree f g same vs)
