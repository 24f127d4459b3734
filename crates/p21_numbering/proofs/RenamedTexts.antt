-- The texts of values in a row under other names, as they are written one after the other.
use Rattle.std.specs.Prelude.{◌≡◌, ℕ, zero, suc, ◌+◌, ◌-◌, ◌<◌, ◌≤◌, false, List, [], ◌∷◌, ◌++◌, length, map, take, refl}
use Rattle.std.specs.List.{flat_map}
use Rattle.std.proofs.Common.{◌==◌, arith, rules, ap, sym, ◌∙◌, get_or, append_assoc, length-append}
use Rattle.std.proofs.lemmas.List.{append-nil, take_all, map-append}
use Rattle.p21_spec_schema.specs.Schema.{Schema}
use Rattle.p21_spec_file.proofs.Commas.{with_commas-push}
use Rattle.p21_spec_file.specs.ValueText.{list_text, value_text, value_texts, with_commas, with_commas_between}
use Rattle.p21_spec_numbering.specs.Renamed.{renamed_value, renamed_values}
use Rattle.p21_mapping_values.specs.declared.value.Value.{Value}
use Rattle.p21_mapping_values.specs.SplitTexts.{element_text, joined, split_texts}
use Rattle.p21_mapping_values.specs.declared.value.Values.{Values as Row}
use Rattle.p21_mapping_values.specs.TypedView.{rows_view}
use Rattle.p21_mapping_values.specs.View.{list_of, view, views}
use Rattle.p21_mapping_values.proofs.Elements.{split_texts-joined}
use Rattle.p21_numbering.specs.NodesOf.{row_of_texts}
use Rattle.p21_numbering.proofs.LabelRows.{rows-joined}
use Rattle.p21_numbering.proofs.Walks.{map-more}

-- the text of a value under new names
abbrev pub new_text : Schema → (ℕ → ℕ) → Value → List ℕ
new_text s f v = value_text s (renamed_value f (view v))

-- the text of each value
pub texts-are : (s : Schema) (f : ℕ → ℕ) (xs : List Value) → map (new_text s f) xs ≡ value_texts s (renamed_values f (views xs))
texts-are s f [] = refl
texts-are s f (x ∷ xs) = ap (λ (ts : List (List ℕ)). new_text s f x ∷ ts) (texts-are s f xs)

between-push : (first : List ℕ) (rest : List (List ℕ)) (text : List ℕ)
    → with_commas_between (first ∷ rest ++ text ∷ []) ≡ with_commas_between (first ∷ rest) ++ 44 ∷ text
between-push first rest text = ap (λ (more : List ℕ). first ++ more) (with_commas-push rest text)
    ∙ sym (append_assoc first (with_commas rest) (44 ∷ text))

not_first : (i : ℕ) → (suc i == 0) ≡ false
not_first i = search rules

-- one more element is written
pub text-next : {X : Type 0} (text : X → List ℕ) (xs : List X) (i : ℕ) (x : X) (old out more : List ℕ) → x ≡ get_or xs i x → i < length xs
    → out ≡ old ++ with_commas_between (map text (take i xs))
    → more ≡ out ++ element_text (i == 0) (text x) → more ≡ old ++ with_commas_between (map text (take (i + 1) xs))
text-next text xs zero x old out more is low e f = rw (f, e, map-more text xs 0 x is low) (simp append-nil refl)
text-next text [] (suc i) x old out more is low e f = absurd (omega (arith, low))
text-next text (y ∷ ys) (suc i) x old out more is low e f =
    let all : with_commas_between (map text (take (suc i + 1) (y ∷ ys))) ≡ with_commas_between (map text (take (suc i) (y ∷ ys)))
    ++ 44 ∷ text x =
    ap with_commas_between (map-more text (y ∷ ys) (suc i) x is low) ∙ between-push (text y) (map text (take i ys)) (text x) in
    rw (f, e, all, not_first i) (append_assoc old (with_commas_between (map text (take (suc i) (y ∷ ys)))) (44 ∷ text x))

joined-push : (ts : List (List ℕ)) (t : List ℕ) → joined (ts ++ t ∷ []) ≡ joined ts ++ t
joined-push [] t = append-nil t
joined-push (u ∷ ts) t = ap (λ (more : List ℕ). u ++ more) (joined-push ts t) ∙ sym (append_assoc u (joined ts) t)

-- one more text is written behind the others, and its length is noted
pub joined-next : {X : Type 0} (text : X → List ℕ) (xs : List X) (i : ℕ) (x : X) (bytes more : List ℕ) → x ≡ get_or xs i x → i < length xs
    → bytes ≡ joined (map text (take i xs)) → more ≡ bytes ++ text x → more ≡ joined (map text (take (i + 1) xs))
joined-next text xs i x bytes more is low e f = rw (f, e, map-more text xs i x is low) (sym (joined-push (map text (take i xs)) (text x)))

pub lengths-next : {X : Type 0} (text : X → List ℕ) (xs : List X) (i : ℕ) (x : X) (bytes more long longer : List ℕ) (n : ℕ)
    → x ≡ get_or xs i x → i < length xs → long ≡ map (λ (t : List ℕ). length t) (map text (take i xs))
    → more ≡ bytes ++ text x → n ≡ length more - length bytes → longer ≡ long ++ n ∷ []
    → longer ≡ map (λ (t : List ℕ). length t) (map text (take (i + 1) xs))
lengths-next text xs i x bytes more long longer n is low e f g h =
    let count : n ≡ length (text x) = omega (arith, g, ap length f, length-append bytes (text x)) in
    let all = ap (map (λ (t : List ℕ). length t)) (map-more text xs i x is low)
    ∙ map-append (λ (t : List ℕ). length t) (map text (take i xs)) (text x ∷ []) in
    rw (h, e, all, count) refl

-- the texts of all, by what was written and how long each is
pub texts-split : {X : Type 0} (text : X → List ℕ) (xs : List X) (i : ℕ) (bytes long : List ℕ) → length xs ≤ i
    → bytes ≡ joined (map text (take i xs)) → long ≡ map (λ (t : List ℕ). length t) (map text (take i xs))
    → split_texts bytes long ≡ map text xs
texts-split text xs i bytes long above e f = rw (e, f, ap (map text) (take_all i xs above)) (split_texts-joined (map text xs))

-- ---- rows of values

-- the texts of the values in a row under new names
abbrev pub row_texts : Schema → (ℕ → ℕ) → Row → List (List ℕ)
row_texts s f row = value_texts s (renamed_values f (views (list_of row)))

pub rows_texts-are : (s : Schema) (f : ℕ → ℕ) (rows : List Row)
    → flat_map (row_texts s f) rows ≡ flat_map (value_texts s) (map (renamed_values f) (rows_view rows))
rows_texts-are s f [] = refl
rows_texts-are s f (r ∷ rs) = ap (λ (ts : List (List ℕ)). row_texts s f r ++ ts) (rows_texts-are s f rs)

-- ---- what is written

pub list-ended : (s : Schema) (f : ℕ → ℕ) (xs : List Value) (i : ℕ) (old out new : List ℕ) → length xs ≤ i
    → out ≡ (old ++ 40 ∷ []) ++ with_commas_between (map (new_text s f) (take i xs)) → new ≡ out ++ 41 ∷ []
    → new ≡ old ++ list_text (value_texts s (renamed_values f (views xs)))
list-ended s f xs i old out new high so_far next =
    let written : List ℕ = with_commas_between (value_texts s (renamed_values f (views xs))) in
    let all = ap (λ (vs : List Value). with_commas_between (map (new_text s f) vs)) (take_all i xs high)
    ∙ ap with_commas_between (texts-are s f xs) in
    next ∙ ap (λ (ys : List ℕ). ys ++ 41 ∷ []) (so_far ∙ ap (λ (ys : List ℕ). (old ++ 40 ∷ []) ++ ys) all)
    ∙ append_assoc (old ++ 40 ∷ []) written (41 ∷ []) ∙ append_assoc old (40 ∷ []) (written ++ 41 ∷ [])

-- a row of texts more
pub values-next : (row now more : List ℕ) (ts us : List (List ℕ)) → now ≡ row ++ row_of_texts ts → more ≡ now ++ row_of_texts us
    → more ≡ row ++ row_of_texts (ts ++ us)
values-next row now more ts us so_far next =
    next ∙ ap (λ (xs : List ℕ). xs ++ row_of_texts us) so_far ∙ append_assoc row (row_of_texts ts) (row_of_texts us)
    ∙ ap (λ (xs : List ℕ). row ++ xs) (sym (rows-joined ts us))
