-- Rows of entities that are compared in lanes.
use Rattle.std.proofs.Common.{◌≡◌, ℕ, zero, suc, ◌+◌, ◌-◌, ◌*◌, ◌%◌, ◌^◌, ◌≤◌, eqb, nat_eq, Bool, true, false, cond, List, [], ◌∷◌, ◌++◌, map, length, take, drop, refl, sym, ap, ◌∙◌, arith, w32, pow-suc}
use Rattle.std.specs.Bool.{IsTrue}
use Rattle.std.specs.Cmp.{nat_cmp_total, tied_itself}
use Rattle.std.specs.Ordering.{is_ne, nat_cmp, ordering_then}
use Rattle.std.specs.declared.cmp.Ordering.{Ordering}
use Rattle.std.specs.declared.cmp.Ordering.TheVariants.{Equal, Greater, Less}
use Rattle.std.specs.Simd.Lanes.{mask_l, top, zip2}
use Rattle.std.proofs.lemmas.Bool.Decides.{Decides-eqb}
use Rattle.std.proofs.lemmas.List.{length-map, take-append-drop, take_rest}
use Rattle.std.proofs.lemmas.Simd.{length-chunk, length-zip2, mask_l-mod, tops_compared}
use Rattle.p21_express_graph.specs.declared.number.EntityId.{EntityId}
use Rattle.p21_mapping_values.specs.TypedView.{ids_view}
use Rattle.p21_stream_store.proofs.SetNumbers.{same-entities}
use Rattle.p21_stream_store.specs.SetOrder.{by_entities, by_size}

-- where all bits of a mask are set, all lanes are the same
all-same : (xs ys : List ℕ) → length xs ≡ length ys → mask_l (zip2 eqb xs ys) + 1 ≡ 2 ^ length xs → xs ≡ ys
all-same [] [] long whole = refl
all-same [] (y ∷ ys) long whole = cc
all-same (x ∷ xs) [] long whole = cc
all-same (x ∷ xs) (y ∷ ys) long whole = by (eqb x y) refl (all-same xs ys (omega (arith, long))) where
  mask : ℕ
  mask = mask_l (zip2 eqb xs ys)

  masked : (b : Bool) → eqb x y ≡ b → cond b 1 0 + 2 * mask + 1 ≡ 2 ^ length xs * 2
  masked b is = sym (ap (λ t. cond t 1 0 + 2 * mask + 1) is) ∙ whole ∙ pow-suc 2 (length xs)

  by : (b : Bool) → eqb x y ≡ b → (mask + 1 ≡ 2 ^ length xs → xs ≡ ys) → x ∷ xs ≡ y ∷ ys
  by true is others =
      let first : x ≡ y = (Decides-eqb x y).0 is in
      let behind : xs ≡ ys = others (omega (arith, masked true is)) in
      cc
  by false is others = absurd (omega (arith, masked false is))

pub long-row : (xs : List EntityId) (at : ℕ) → at + 16 ≤ length xs → length (take 16 (drop at xs)) ≡ 16
long-row xs at within = length-chunk at 16 xs within

-- the numbers of 16 entities and of 16 others, where the mask of their lanes is whole
pub same-rows : (xs ys : List EntityId) (lanes others : List ℕ) → length xs ≡ 16 → length ys ≡ 16 → lanes ≡ ids_view xs
    → others ≡ ids_view ys
    → IsTrue (nat_eq (mask_l (map (top 31) (zip2 (λ a b. cond (eqb a b) (2 ^ 32 - 1) 0) lanes others)) % 2 ^ 64) 65535) → xs ≡ ys
same-rows xs ys lanes others long long_ is is_ all =
    let count : length lanes ≡ 16 = ap length is ∙ length-map xs (λ (e : EntityId). e.0) ∙ long in
    let count_ : length others ≡ 16 = ap length is_ ∙ length-map ys (λ (e : EntityId). e.0) ∙ long_ in
    let alike : length lanes ≡ length others = count ∙ sym count_ in
    let tests = zip2 eqb lanes others in
    let few : length tests ≡ 16 = length-zip2 eqb lanes others alike ∙ count in
    let whole : mask_l tests ≡ 65535 = sym (mask_l-mod tests 64 (omega (arith, few)))
    ∙ sym (ap (λ ms. mask_l ms % 2 ^ 64) (tops_compared w32 eqb lanes others))
    ∙ (Decides-eqb (mask_l (map (top 31) (zip2 (λ a b. cond (eqb a b) (2 ^ 32 - 1) 0) lanes others)) % 2 ^ 64) 65535).0 all in
    let same : lanes ≡ others = all-same lanes others alike (ap (λ m. m + 1) whole ∙ sym (ap (λ l. 2 ^ l) count)) in
    same-entities xs ys (sym is ∙ same ∙ is_)

take-add : {X : Type 0} (m k : ℕ) (xs : List X) → take (m + k) xs ≡ take m xs ++ take k (drop m xs)
take-add zero k xs = let same : zero + k ≡ k = omega arith in ap (λ (n : ℕ). take n xs) same
take-add {X} (suc m) zero [] = let same : suc m + zero ≡ suc m = omega arith in ap (λ (n : ℕ). take {A = X} n []) same
take-add {X} (suc m) (suc k) [] = let same : suc m + suc k ≡ suc (m + suc k) = omega arith in ap (λ (n : ℕ). take {A = X} n []) same
take-add {X} (suc m) k (x ∷ xs) = let same : suc m + k ≡ suc (m + k) = omega arith in ap (λ (n : ℕ). take n (x ∷ xs)) same
    ∙ ap (λ (l : List X). x ∷ l) (take-add m k xs)

-- one row more is the same
pub more-same : (xs ys : List EntityId) (at : ℕ) → take at xs ≡ take at ys → take 16 (drop at xs) ≡ take 16 (drop at ys)
    → take (at + 16) xs ≡ take (at + 16) ys
more-same xs ys at before row = take-add at 16 xs ∙ ap (λ (l : List EntityId). l ++ take 16 (drop at xs)) before
    ∙ ap (λ (l : List EntityId). take at ys ++ l) row ∙ sym (take-add at 16 ys)

-- what a slice from a place on has
abbrev rest : ℕ → List EntityId → List EntityId
rest at xs = take (length xs - at) (drop at xs)

-- lists that are the same up to a place, and from there on
pub both-same : (xs ys : List EntityId) (at : ℕ) → take at xs ≡ take at ys → rest at xs ≡ rest at ys → xs ≡ ys
both-same xs ys at before behind =
    let dropped : drop at xs ≡ drop at ys = sym (take_rest xs at) ∙ behind ∙ take_rest ys at in
    sym (take-append-drop at xs) ∙ ap (λ (l : List EntityId). l ++ drop at xs) before ∙ ap (λ (l : List EntityId). take at ys ++ l) dropped
    ∙ take-append-drop at ys

past-front : (front xs ys : List EntityId) → by_entities (front ++ xs) (front ++ ys) ≡ by_entities xs ys
past-front [] xs ys = refl
past-front (e ∷ front) xs ys = ap (λ r. ordering_then r (by_entities (front ++ xs) (front ++ ys))) (tied_itself nat_cmp_total e.0)
    ∙ past-front front xs ys

-- what decides stands behind what is the same
pub order-behind : (xs ys : List EntityId) (at : ℕ) → take at xs ≡ take at ys → by_entities (drop at xs) (drop at ys) ≡ by_entities xs ys
order-behind xs ys at before =
    let first : take at xs ++ drop at xs ≡ xs = take-append-drop at xs in
    let second : take at xs ++ drop at ys ≡ ys = ap (λ (l : List EntityId). l ++ drop at ys) before ∙ take-append-drop at ys in
    sym (past-front (take at xs) (drop at xs) (drop at ys)) ∙ ap (λ (l : List EntityId). by_entities l (take at xs ++ drop at ys)) first
    ∙ ap (by_entities xs) second

level : (r : Ordering) → is_ne r ≡ false → r ≡ Equal
level Less apart = cc
level Equal apart = refl
level Greater apart = cc

-- sets of as many entities are in the order of what stands behind a place up to which they are the same
pub order-of-sizes : (xs ys : List EntityId) (sizes : Ordering) (differ : Bool) (at : ℕ) → sizes ≡ nat_cmp (length xs) (length ys)
    → differ ≡ is_ne sizes → differ ≡ false → take at xs ≡ take at ys → by_entities (rest at xs) (rest at ys) ≡ by_size xs ys
order-of-sizes xs ys sizes differ at is told alike before =
    let same : nat_cmp (length xs) (length ys) ≡ Equal = sym is ∙ level sizes (sym told ∙ alike) in
    ap (λ (l : List EntityId). by_entities l (rest at ys)) (take_rest xs at)
    ∙ ap (λ (l : List EntityId). by_entities (drop at xs) l) (take_rest ys at)
    ∙ order-behind xs ys at before ∙ sym (ap (λ (o : Ordering). ordering_then o (by_entities xs ys)) same)
