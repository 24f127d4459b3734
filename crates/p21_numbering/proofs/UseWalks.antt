-- One more value, in the references of values in a row.
use Rattle.std.specs.Prelude.{◌≡◌, ℕ, suc, ◌+◌, ◌-◌, ◌<◌, List, [], ◌∷◌, ◌++◌, map, take, length, refl}
use Rattle.std.proofs.Common.{arith, ap, sym, ◌∙◌, get_or, append_assoc}
use Rattle.std.proofs.lemmas.List.{append-nil, length-append, length-map, length-take-le, map-append, take_more}
use Rattle.std.proofs.Math.Seq.{take-append_seam}
use Rattle.p21_mapping_values.specs.declared.value.Value.{Value}
use Rattle.p21_mapping_values.specs.declared.value.Values.{Values as Code}
use Rattle.p21_mapping_values.specs.TypedView.{rows_view}
use Rattle.p21_mapping_values.specs.View.{list_of, view, views}
use Rattle.p21_numbering.specs.PlacedUses.{behind}
use Rattle.p21_spec_file.specs.Value.{Values}
use Rattle.p21_numbering.proofs.Walks.{map-more}
use Rattle.p21_spec_numbering.specs.Uses.{Use, within, value_uses, uses_from, uses_among, rows_uses}

-- one step further in
behind-within : (place : List ℕ) (k : ℕ) (us : List Use) → map (behind place) (map (within k) us) ≡ map (behind (place ++ k ∷ [])) us
behind-within place k [] = refl
behind-within place k (u ∷ us) =
    ap (λ (p : List ℕ). (p, u.1) ∷ map (behind place) (map (within k) us)) (sym (append_assoc place (k ∷ []) u.0))
    ∙ ap (λ (vs : List Use). behind (place ++ k ∷ []) u ∷ vs) (behind-within place k us)

from-push : (k : ℕ) (xs : List Value) (x : Value) → uses_from k (views (xs ++ x ∷ [])) ≡ uses_from k (views xs)
    ++ map (within (k + length xs)) (value_uses (view x))
from-push k [] x = let none : k + 0 ≡ k = omega arith in append-nil (map (within k) (value_uses (view x)))
    ∙ ap (λ j. map (within j) (value_uses (view x))) (sym none)
from-push k (y ∷ ys) x =
    let next : (k + 1) + length ys ≡ k + suc (length ys) = omega arith in
    ap (λ (us : List Use). map (within k) (value_uses (view y)) ++ us) (from-push (k + 1) ys x)
    ∙ ap (λ j. map (within k) (value_uses (view y)) ++ (uses_from (k + 1) (views ys) ++ map (within j) (value_uses (view x)))) next
    ∙ sym (append_assoc (map (within k) (value_uses (view y))) (uses_from (k + 1) (views ys))
    (map (within (k + suc (length ys))) (value_uses (view x))))

among-push : (xs : List Value) (x : Value) → uses_among (views (xs ++ x ∷ [])) ≡ uses_among (views xs)
    ++ map (within 0) (value_uses (view x))
among-push [] x = append-nil (map (within 0) (value_uses (view x)))
among-push (y ∷ ys) x =
    ap (λ (us : List Use). map (within 0) (value_uses (view y)) ++ us) (among-push ys x)
    ∙ sym (append_assoc (map (within 0) (value_uses (view y))) (uses_among (views ys)) (map (within 0) (value_uses (view x))))

-- what was there, and what is behind it
joined : (f : List ℕ) (k : ℕ) (old now new before more : List Use) → now ≡ old ++ map (behind f) before
    → new ≡ now ++ map (behind (f ++ k ∷ [])) more → new ≡ old ++ map (behind f) (before ++ map (within k) more)
joined f k old now new before more is next =
    next ∙ ap (λ (us : List Use). us ++ map (behind (f ++ k ∷ [])) more) is
    ∙ append_assoc old (map (behind f) before) (map (behind (f ++ k ∷ [])) more)
    ∙ ap (λ (us : List Use). old ++ (map (behind f) before ++ us)) (sym (behind-within f k more))
    ∙ ap (λ (us : List Use). old ++ us) (sym (map-append (behind f) before (map (within k) more)))

pub from-next : (place : List ℕ) (first i : ℕ) (xs : List Value) (x : Value) (old now new : List Use) → x ≡ get_or xs i x → i < length xs
    → now ≡ old ++ map (behind place) (uses_from first (views (take i xs)))
    → new ≡ now ++ map (behind (place ++ (first + i) ∷ [])) (value_uses (view x))
    → new ≡ old ++ map (behind place) (uses_from first (views (take (i + 1) xs)))
from-next place first i xs x old now new is low so_far next =
    let long : length (take i xs) ≡ i = length-take-le i xs (omega (arith, low)) in
    let all : uses_from first (views (take (i + 1) xs)) ≡ uses_from first (views (take i xs))
    ++ map (within (first + i)) (value_uses (view x)) =
    ap (λ (ys : List Value). uses_from first (views ys)) (take_more xs i x low ∙ ap (λ (y : Value). take i xs ++ y ∷ []) (sym is))
    ∙ from-push first (take i xs) x
    ∙ ap (λ k. uses_from first (views (take i xs)) ++ map (within (first + k)) (value_uses (view x))) long in
    joined place (first + i) old now new (uses_from first (views (take i xs))) (value_uses (view x)) so_far next
    ∙ ap (λ (us : List Use). old ++ map (behind place) us) (sym all)

pub among-next : (place : List ℕ) (i : ℕ) (xs : List Value) (x : Value) (old now new : List Use) → x ≡ get_or xs i x → i < length xs
    → now ≡ old ++ map (behind place) (uses_among (views (take i xs))) → new ≡ now ++ map (behind (place ++ 0 ∷ [])) (value_uses (view x))
    → new ≡ old ++ map (behind place) (uses_among (views (take (i + 1) xs)))
among-next place i xs x old now new is low so_far next =
    let all : uses_among (views (take (i + 1) xs)) ≡ uses_among (views (take i xs)) ++ map (within 0) (value_uses (view x)) =
    ap (λ (ys : List Value). uses_among (views ys)) (take_more xs i x low ∙ ap (λ (y : Value). take i xs ++ y ∷ []) (sym is))
    ∙ among-push (take i xs) x in
    joined place 0 old now new (uses_among (views (take i xs))) (value_uses (view x)) so_far next
    ∙ ap (λ (us : List Use). old ++ map (behind place) us) (sym all)

pub rows-push : (k : ℕ) (rows : List Values) (row : Values)
    → rows_uses k (rows ++ row ∷ []) ≡ rows_uses k rows ++ map (within (k + length rows)) (uses_from 0 row)
rows-push k [] row = let none : k + 0 ≡ k = omega arith in append-nil (map (within k) (uses_from 0 row))
    ∙ ap (λ j. map (within j) (uses_from 0 row)) (sym none)
rows-push k (r ∷ rs) row =
    let next : (k + 1) + length rs ≡ k + suc (length rs) = omega arith in
    ap (λ (us : List Use). map (within k) (uses_from 0 r) ++ us) (rows-push (k + 1) rs row)
    ∙ ap (λ j. map (within k) (uses_from 0 r) ++ (rows_uses (k + 1) rs ++ map (within j) (uses_from 0 row))) next
    ∙ sym (append_assoc (map (within k) (uses_from 0 r)) (rows_uses (k + 1) rs) (map (within (k + suc (length rs))) (uses_from 0 row)))

pub rows-next : (k : ℕ) (rows : List Code) (row : Code) (items : List Value) (now new : List Use) → row ≡ get_or rows k row
    → k < length rows → items ≡ list_of row
    → now ≡ rows_uses 0 (rows_view (take k rows)) → new ≡ now ++ map (within k) (uses_from 0 (views items))
    → new ≡ rows_uses 0 (rows_view (take (k + 1) rows))
rows-next k rows row items now new is low held so_far next =
    let long : length (rows_view (take k rows)) ≡ k = length-map (take k rows) (λ (r : Code). views (list_of r))
    ∙ length-take-le k rows (omega (arith, low)) in
    let none : 0 + length (rows_view (take k rows)) ≡ k = omega (arith, long) in
    next ∙ ap (λ (us : List Use). us ++ map (within k) (uses_from 0 (views items))) so_far
    ∙ ap (λ (vs : List Value). rows_uses 0 (rows_view (take k rows)) ++ map (within k) (uses_from 0 (views vs))) held
    ∙ ap (λ j. rows_uses 0 (rows_view (take k rows)) ++ map (within j) (uses_from 0 (views (list_of row)))) (sym none)
    ∙ sym (ap (rows_uses 0) (map-more (λ (r : Code). views (list_of r)) rows k row is low)
    ∙ rows-push 0 (rows_view (take k rows)) (views (list_of row)))

-- what was put behind is taken away again
pub popped : (front : List ℕ) (x count : ℕ) (items rest : List ℕ) → items ≡ front ++ x ∷ [] → count ≡ length items
    → rest ≡ take (count - 1) items → rest ≡ front
popped front x count items rest is size taken =
    let long : count - 1 ≡ length front = omega (arith, size, ap length is, length-append front (x ∷ [])) in
    taken ∙ ap (λ k. take k items) long ∙ ap (take (length front)) is ∙ take-append_seam front (x ∷ [])
