-- One more text of a label, and one more entity.
use Rattle.std.specs.Prelude.{◌≡◌, ℕ, zero, suc, ◌+◌, ◌<◌, ◌≤◌, List, [], ◌∷◌, ◌++◌, map, length, take, refl}
use Rattle.std.specs.List.{AllByRecursion as Each}
use denote.Ref.{Bor}
use Rattle.p21_numbering.specs.Rows.{lent_rows}
use Rattle.std.proofs.Common.{arith, ap, sym, subst, ◌∙◌, get_or, append_assoc}
use Rattle.std.proofs.lemmas.List.{append-nil, map-append, take_more}
use Rattle.p21_spec_file.specs.Value.{Values}
use Rattle.p21_spec_file.specs.ValueText.{list_text, value_texts}
use Rattle.p21_spec_numbering.specs.Numbered.{entity_name, unnamed_text}
use Rattle.p21_spec_numbering.specs.Renamed.{renamed_values}
use Rattle.p21_spec_schema.specs.Schema.{Schema}
use Rattle.p21_numbering.specs.NodesOf.{row_of_texts}

pub row-push : (ts : List (List ℕ)) (t : List ℕ) → row_of_texts (ts ++ t ∷ []) ≡ row_of_texts ts ++ (map suc t ++ (0 ∷ []))
row-push [] t = refl
row-push (u ∷ us) t = ap (λ (xs : List ℕ). map suc u ++ (0 ∷ xs)) (row-push us t)
    ∙ sym (append_assoc (map suc u) (0 ∷ row_of_texts us) (map suc t ++ (0 ∷ [])))

-- the text of an entity and its values
abbrev pub part : Schema → ℕ → Values → List ℕ
part s e vs = entity_name s e ++ list_text (value_texts s (renamed_values (λ _. 0) vs))

-- one entity more
pub part-next : (s : Schema) (i : ℕ) (es : List ℕ) (rows : List Values) (e : ℕ) (vs : Values) → i < length es → e ≡ get_or es i e
    → i < length rows → vs ≡ get_or rows i vs
    → unnamed_text s (take (i + 1) es) (take (i + 1) rows) ≡ unnamed_text s (take i es) (take i rows) ++ part s e vs
part-next s i [] rows e vs low is low_ is_ = absurd (omega (arith, low))
part-next s i (f ∷ fs) [] e vs low is low_ is_ = absurd (omega (arith, low_))
part-next s zero (f ∷ fs) (r ∷ rs) e vs low is low_ is_ =
    let none : zero + 1 ≡ 1 = omega arith in
    ap (λ k. unnamed_text s (take k (f ∷ fs)) (take k (r ∷ rs))) none
    ∙ ap (λ (xs : List ℕ). entity_name s f ++ xs) (append-nil (list_text (value_texts s (renamed_values (λ _. 0) r))))
    ∙ ap (λ k. entity_name s k ++ list_text (value_texts s (renamed_values (λ _. 0) r))) (sym is) ∙ ap (part s e) (sym is_)
part-next s (suc i) (f ∷ fs) (r ∷ rs) e vs low is low_ is_ =
    let next : suc i + 1 ≡ suc (i + 1) = omega arith in
    let own : List ℕ = list_text (value_texts s (renamed_values (λ _. 0) r)) in
    ap (λ k. unnamed_text s (take k (f ∷ fs)) (take k (r ∷ rs))) next
    ∙ ap (λ (xs : List ℕ). entity_name s f ++ (own ++ xs)) (part-next s i fs rs e vs (omega (arith, low)) is (omega (arith, low_)) is_)
    ∙ ap (λ (xs : List ℕ). entity_name s f ++ xs) (sym (append_assoc own (unnamed_text s (take i fs) (take i rs)) (part s e vs)))
    ∙ sym (append_assoc (entity_name s f) (own ++ unnamed_text s (take i fs) (take i rs)) (part s e vs))

-- no entity is left
pub parts-ended : (s : Schema) (i : ℕ) (es : List ℕ) (rows : List Values) → length es ≤ i
    → unnamed_text s (take i es) (take i rows) ≡ unnamed_text s es rows
parts-ended s zero [] rows high = refl
parts-ended s (suc i) [] rows high = refl
parts-ended s zero (e ∷ es) rows high = absurd (omega (arith, high))
parts-ended s (suc i) (e ∷ es) [] high = refl
parts-ended s (suc i) (e ∷ es) (r ∷ rs) high = ap (λ (xs : List ℕ). entity_name s e
    ++ (list_text (value_texts s (renamed_values (λ _. 0) r)) ++ xs)) (parts-ended s i es rs (omega (arith, high)))

-- no row is left
pub parts-short : (s : Schema) (i : ℕ) (es : List ℕ) (rows : List Values) → length rows ≤ i
    → unnamed_text s (take i es) (take i rows) ≡ unnamed_text s es rows
parts-short s zero [] rows high = refl
parts-short s zero (e ∷ es) [] high = refl
parts-short s zero (e ∷ es) (r ∷ rs) high = absurd (omega (arith, high))
parts-short s (suc i) [] rows high = refl
parts-short s (suc i) (e ∷ es) [] high = refl
parts-short s (suc i) (e ∷ es) (r ∷ rs) high = ap (λ (xs : List ℕ). entity_name s e
    ++ (list_text (value_texts s (renamed_values (λ _. 0) r)) ++ xs)) (parts-short s i es rs (omega (arith, high)))

-- one text more, in texts that are lent
pub texts-next : (texts : List (Bor (List ℕ))) (k : ℕ) (d : Bor (List ℕ)) (row now more : List ℕ) → k < length texts
    → now ≡ row ++ row_of_texts (lent_rows (take k texts)) → more ≡ now ++ (map suc (get_or texts k d).now ++ (0 ∷ []))
    → more ≡ row ++ row_of_texts (lent_rows (take (k + 1) texts))
texts-next texts k d row now more low so_far next =
    next ∙ ap (λ (xs : List ℕ). xs ++ (map suc (get_or texts k d).now ++ (0 ∷ []))) so_far
    ∙ append_assoc row (row_of_texts (lent_rows (take k texts))) (map suc (get_or texts k d).now ++ (0 ∷ []))
    ∙ ap (λ (xs : List ℕ). row ++ xs) (sym (row-push (lent_rows (take k texts)) (get_or texts k d).now)
    ∙ ap row_of_texts (sym (ap lent_rows (take_more texts k d low)
    ∙ map-append (λ (r : Bor (List ℕ)). r.now) (take k texts) (get_or texts k d ∷ []))))

pub rows-joined : (ts us : List (List ℕ)) → row_of_texts (ts ++ us) ≡ row_of_texts ts ++ row_of_texts us
rows-joined [] us = refl
rows-joined (t ∷ ts) us = ap (λ (xs : List ℕ). map suc t ++ (0 ∷ xs)) (rows-joined ts us)
    ∙ sym (append_assoc (map suc t) (0 ∷ row_of_texts ts) (row_of_texts us))

-- what is true of each is true of the one at a position
pub each-at : {X Y : Type 0} (P : Y → Type 0) (f : X → Y) (xs : List X) (i : ℕ) (x : X) → x ≡ get_or xs i x → i < length xs
    → Each P (map f xs) → P (f x)
each-at P f [] i x is low each = absurd (omega (arith, low))
each-at {X} P f (y ∷ ys) zero x is low each = let Q : X → Type 0 = λ z. P (f z) in subst Q (sym is) each.0
each-at P f (y ∷ ys) (suc i) x is low each = each-at P f ys i x is (omega (arith, low)) each.1

pub nothing-left : {X : Type 0} (xs : List X) → length xs ≡ 0 → xs ≡ []
nothing-left [] none = refl
nothing-left (x ∷ xs) none = absurd (omega (arith, none))
