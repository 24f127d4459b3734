-- Texts put one behind the other, and written.
use Rattle.std.proofs.Common.{◌≡◌, ◌+◌, ◌<◌, ◌≤◌, ℕ, zero, suc, List, [], ◌∷◌, ◌++◌, length, map, take, drop, get_or, Option, sym, ap, subst, ◌∙◌, arith}
use Rattle.std.proofs.lemmas.Grind.{flat_map-append}
use Rattle.std.proofs.Math.Seq.{take-add}
use Rattle.std.proofs.lemmas.List.{append_assoc, append-nil, length-append, map-append, take_all, take_more, take-append-drop}
use Rattle.std.specs.Io.KnownBytes.{Appends}
use Rattle.std.specs.List.{flat_map, AllByRecursion as Each}
use Rattle.p21_stream_io.proofs.TransferLemmas.{appends_more}
use Rattle.p21_stream_io.specs.Transfer.{AppendsAllBut, AppendsPartOf}

-- ---- one behind the other

pub then_all : (old now new : Option (List ℕ)) (w x v y u : List ℕ) → AppendsAllBut old now (w ++ x) v → AppendsAllBut now new (v ++ y) u
    → AppendsAllBut old new (w ++ (x ++ y)) u
then_all old now new w x v y u a b = record {
  written = a.written ++ b.written;
  whole =
      sym (append_assoc w x y) ∙ ap (λ (l : List ℕ). l ++ y) a.whole ∙ append_assoc a.written v y
      ∙ ap (λ (l : List ℕ). a.written ++ l) b.whole ∙ sym (append_assoc a.written b.written u);
  appended = appends_more old now new a.written b.written a.appended b.appended;
}

pub then_part : (old now new : Option (List ℕ)) (w x v y : List ℕ) → AppendsAllBut old now (w ++ x) v → AppendsPartOf now new (v ++ y)
    → AppendsPartOf old new (w ++ (x ++ y))
then_part old now new w x v y a b = record {
  written = a.written ++ b.written;
  missing = b.missing;
  some = b.some;
  whole =
      sym (append_assoc w x y) ∙ ap (λ (l : List ℕ). l ++ y) a.whole ∙ append_assoc a.written v y
      ∙ ap (λ (l : List ℕ). a.written ++ l) b.whole ∙ sym (append_assoc a.written b.written b.missing);
  appended = appends_more old now new a.written b.written a.appended b.appended;
}

pub part_more : (old new : Option (List ℕ)) (w x y : List ℕ) → AppendsPartOf old new (w ++ x) → AppendsPartOf old new (w ++ (x ++ y))
part_more old new w x y a = record {
  written = a.written;
  missing = a.missing ++ y;
  some = omega (arith, a.some, length-append a.missing y);
  whole = sym (append_assoc w x y) ∙ ap (λ (l : List ℕ). l ++ y) a.whole ∙ append_assoc a.written a.missing y;
  appended = a.appended;
}

-- ---- rows

pub row-more : {X Y : Type 0} (g : Y → List ℕ) (h : X → Y) (xs : List X) (k : ℕ) (d : X) → k < length xs
    → flat_map g (map h (take (k + 1) xs)) ≡ flat_map g (map h (take k xs)) ++ g (h (get_or xs k d))
row-more {X} {Y} g h xs k d low =
    ap (λ (ys : List X). flat_map g (map h ys)) (take_more xs k d low)
    ∙ ap (flat_map g) (map-append h (take k xs) (get_or xs k d ∷ []))
    ∙ flat_map-append g (map h (take k xs)) (h (get_or xs k d) ∷ [])
    ∙ ap (λ (l : List ℕ). flat_map g (map h (take k xs)) ++ l) (append-nil (g (h (get_or xs k d))))

pub row-rest : {X Y : Type 0} (g : Y → List ℕ) (h : X → Y) (xs : List X) (n : ℕ)
    → flat_map g (map h xs) ≡ flat_map g (map h (take n xs)) ++ flat_map g (map h (drop n xs))
row-rest {X} {Y} g h xs n =
    ap (λ (ys : List X). flat_map g (map h ys)) (sym (take-append-drop n xs)) ∙ ap (flat_map g) (map-append h (take n xs) (drop n xs))
    ∙ flat_map-append g (map h (take n xs)) (map h (drop n xs))

pub row-further : {X Y : Type 0} (g : Y → List ℕ) (h : X → Y) (xs : List X) (ys : List Y) (k n : ℕ) → ys ≡ map h (take n (drop k xs))
    → flat_map g (map h (take (k + n) xs)) ≡ flat_map g (map h (take k xs)) ++ flat_map g ys
row-further {X} {Y} g h xs ys k n are =
    ap (λ (zs : List X). flat_map g (map h zs)) (take-add k n xs)
    ∙ ap (flat_map g) (map-append h (take k xs) (take n (drop k xs)))
    ∙ flat_map-append g (map h (take k xs)) (map h (take n (drop k xs)))
    ∙ ap (λ (zs : List Y). flat_map g (map h (take k xs)) ++ flat_map g zs) (sym are)

-- one more text is put
pub more_put : {X Y : Type 0} (old now new : Option (List ℕ)) (w v u text : List ℕ) (g : Y → List ℕ) (h : X → Y) (xs : List X) (k : ℕ)
    (d : X) → k < length xs → text ≡ g (h (get_or xs k d)) → AppendsAllBut old now (w ++ flat_map g (map h (take k xs))) v
    → AppendsAllBut now new (v ++ text) u → AppendsAllBut old new (w ++ flat_map g (map h (take (k + 1) xs))) u
more_put old now new w v u text g h xs k d low is a b =
    let P : List ℕ → Type 0 = λ l. AppendsAllBut old new (w ++ l) u in
    subst P (ap (λ (l : List ℕ). flat_map g (map h (take k xs)) ++ l) is ∙ sym (row-more g h xs k d low))
    (then_all old now new w (flat_map g (map h (take k xs))) v text u a b)

-- or only the beginning of one more text is put
pub part_put : {X Y : Type 0} (old now new : Option (List ℕ)) (w v text : List ℕ) (g : Y → List ℕ) (h : X → Y) (xs : List X) (k : ℕ) (d : X)
    → k < length xs → text ≡ g (h (get_or xs k d)) → AppendsAllBut old now (w ++ flat_map g (map h (take k xs))) v
    → AppendsPartOf now new (v ++ text) → AppendsPartOf old new (w ++ flat_map g (map h xs))
part_put old now new w v text g h xs k d low is a b =
    let P : List ℕ → Type 0 = λ l. AppendsPartOf old new (w ++ l) in
    let so_far : AppendsPartOf old new (w ++ flat_map g (map h (take (k + 1) xs))) =
    subst P (ap (λ (l : List ℕ). flat_map g (map h (take k xs)) ++ l) is ∙ sym (row-more g h xs k d low))
    (then_part old now new w (flat_map g (map h (take k xs))) v text a b) in
    subst P (sym (row-rest g h xs (k + 1))) (part_more old new w (flat_map g (map h (take (k + 1) xs)))
    (flat_map g (map h (drop (k + 1) xs))) so_far)

-- some more texts are put together
pub further_put : {X Y : Type 0} (old now new : Option (List ℕ)) (w v u : List ℕ) (g : Y → List ℕ) (h : X → Y) (xs : List X) (ys : List Y)
    (k n : ℕ) → ys ≡ map h (take n (drop k xs)) → AppendsAllBut old now (w ++ flat_map g (map h (take k xs))) v
    → AppendsAllBut now new (v ++ flat_map g ys) u → AppendsAllBut old new (w ++ flat_map g (map h (take (k + n) xs))) u
further_put old now new w v u g h xs ys k n are a b =
    let P : List ℕ → Type 0 = λ l. AppendsAllBut old new (w ++ l) u in
    subst P (sym (row-further g h xs ys k n are)) (then_all old now new w (flat_map g (map h (take k xs))) v (flat_map g ys) u a b)

-- or only the beginning of them
pub further_part : {X Y : Type 0} (old now new : Option (List ℕ)) (w v : List ℕ) (g : Y → List ℕ) (h : X → Y) (xs : List X) (ys : List Y)
    (k n : ℕ) → ys ≡ map h (take n (drop k xs)) → AppendsAllBut old now (w ++ flat_map g (map h (take k xs))) v
    → AppendsPartOf now new (v ++ flat_map g ys) → AppendsPartOf old new (w ++ flat_map g (map h xs))
further_part old now new w v g h xs ys k n are a b =
    let P : List ℕ → Type 0 = λ l. AppendsPartOf old new (w ++ l) in
    let so_far : AppendsPartOf old new (w ++ flat_map g (map h (take (k + n) xs))) =
    subst P (sym (row-further g h xs ys k n are)) (then_part old now new w (flat_map g (map h (take k xs))) v (flat_map g ys) a b) in
    subst P (sym (row-rest g h xs (k + n))) (part_more old new w (flat_map g (map h (take (k + n) xs)))
    (flat_map g (map h (drop (k + n) xs))) so_far)

-- all texts are put
pub all_put : {X Y : Type 0} (old now : Option (List ℕ)) (w v : List ℕ) (g : Y → List ℕ) (h : X → Y) (xs : List X) (k : ℕ) → length xs ≤ k
    → AppendsAllBut old now (w ++ flat_map g (map h (take k xs))) v → AppendsAllBut old now (w ++ flat_map g (map h xs)) v
all_put {X} {Y} old now w v g h xs k above a = let P : List X
    → Type 0 = λ ys. AppendsAllBut old now (w ++ flat_map g (map h ys)) v in subst P (take_all k xs above) a

-- ---- the end

pub all_flushed : (old now new : Option (List ℕ)) (w t v : List ℕ) → w ≡ [] → AppendsAllBut old now (w ++ t) v → Appends now new v
    → Appends old new t
all_flushed old now new w t v none a b =
    let P : List ℕ → Type 0 = λ l. Appends old new l in
    subst P (sym a.whole ∙ ap (λ (l : List ℕ). l ++ t) none) (appends_more old now new a.written v a.appended b)

pub part_flushed : (old now new : Option (List ℕ)) (w t v : List ℕ) → w ≡ [] → AppendsAllBut old now (w ++ t) v → AppendsPartOf now new v
    → AppendsPartOf old new t
part_flushed old now new w t v none a b = record {
  written = a.written ++ b.written;
  missing = b.missing;
  some = b.some;
  whole = ap (λ (l : List ℕ). l ++ t) (sym none) ∙ a.whole ∙ ap (λ (l : List ℕ). a.written ++ l) b.whole
      ∙ sym (append_assoc a.written b.written b.missing);
  appended = appends_more old now new a.written b.written a.appended b.appended;
}

pub part_unput : (old new : Option (List ℕ)) (w t : List ℕ) → w ≡ [] → AppendsPartOf old new (w ++ t) → AppendsPartOf old new t
part_unput old new w t none a = let P : List ℕ → Type 0 = λ l. AppendsPartOf old new (l ++ t) in subst P none a

pub each-read : {X : Type 0} (P : X → Type 0) (xs : List X) (k : ℕ) (d : X) → Each P xs → k < length xs → P (get_or xs k d)
each-read P [] k d each low = absurd (omega (arith, low))
each-read P (x ∷ xs) zero d each low = each.0
each-read P (x ∷ xs) (suc k) d each low = each-read P xs k d each.1 (omega (arith, low))
