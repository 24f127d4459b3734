-- The texts of values in a row, as they are written one after the other.
use Rattle.std.proofs.Common.{◌≡◌, ◌==◌, Result, Ok, Err, ℕ, zero, suc, ◌+◌, ◌-◌, ◌<◌, ◌≤◌, false, List, [], ◌∷◌, ◌++◌, length, map, take, sum, get_or, refl, ap, sym, ◌∙◌, subst, arith, rules, append_assoc, length-append}
use Rattle.std.proofs.lemmas.List.{append-nil, take_all, take_more, map-append}
use Rattle.std.proofs.Math.Seq.{take-append_seam, drop-append_seam}
use Rattle.std.specs.List.{fold}
use Rattle.std.specs.Result.{OnErr}
use Rattle.p21_spec_schema.specs.Schema.{Schema}
use Rattle.p21_spec_file.specs.Sorting.{sort_texts}
use Rattle.p21_spec_file.specs.ValueText.{value_text, value_texts, with_commas, with_commas_between}
use Rattle.p21_mapping_values.specs.declared.value.Value.{Value}
use Rattle.p21_mapping_values.specs.View.{view, views}
use Rattle.p21_mapping_values.specs.KnownTypes.{HasKnownTypes, HaveKnownTypes}
use Rattle.p21_mapping_values.specs.SplitTexts.{element_text, joined, split_texts}
use Rattle.p21_values.specs.Canonical.{Continues}
use Rattle.p21_values.proofs.Continuing.{continues-same}
use Rattle.p21_spec_file.proofs.Commas.{with_commas-push}

-- the text of each value
abbrev pub texts : Schema → List Value → List (List ℕ)
texts s xs = value_texts s (views xs)

texts-push : (s : Schema) (xs : List Value) (x : Value) → texts s (xs ++ x ∷ []) ≡ texts s xs ++ value_text s (view x) ∷ []
texts-push s [] x = refl
texts-push s (y ∷ ys) x = ap (λ ts. value_text s (view y) ∷ ts) (texts-push s ys x)

pub texts-more : (s : Schema) (xs : List Value) (i : ℕ) (x : Value) → x ≡ get_or xs i x → i < length xs
    → texts s (take (i + 1) xs) ≡ texts s (take i xs) ++ value_text s (view x) ∷ []
texts-more s xs i x is low = ap (texts s) (take_more xs i x low ∙ ap (λ y. take i xs ++ y ∷ []) (sym is)) ∙ texts-push s (take i xs) x

pub texts-all : (s : Schema) (xs : List Value) (i : ℕ) → length xs ≤ i → texts s (take i xs) ≡ texts s xs
texts-all s xs i above = ap (texts s) (take_all i xs above)

between-push : (first : List ℕ) (rest : List (List ℕ)) (text : List ℕ)
    → with_commas_between (first ∷ rest ++ text ∷ []) ≡ with_commas_between (first ∷ rest) ++ 44 ∷ text
between-push first rest text = ap (λ more. first ++ more) (with_commas-push rest text)
    ∙ sym (append_assoc first (with_commas rest) (44 ∷ text))

not_first : (i : ℕ) → (suc i == 0) ≡ false
not_first i = search rules

-- one more element is written
pub element_next : (s : Schema) (xs : List Value) (i : ℕ) (x : Value) (old out more : List ℕ) → x ≡ get_or xs i x → i < length xs
    → out ≡ old ++ with_commas_between (texts s (take i xs))
    → more ≡ out ++ element_text (i == 0) (value_text s (view x)) → more ≡ old ++ with_commas_between (texts s (take (i + 1) xs))
element_next s xs zero x old out more is low e f = rw (f, e, texts-more s xs 0 x is low) (simp append-nil refl)
element_next s [] (suc i) x old out more is low e f = absurd (omega (arith, low))
element_next s (y ∷ ys) (suc i) x old out more is low e f =
    let all : with_commas_between (texts s (take (suc i + 1) (y ∷ ys))) ≡ with_commas_between (texts s (take (suc i) (y ∷ ys)))
    ++ 44 ∷ value_text s (view x) =
    ap with_commas_between (texts-more s (y ∷ ys) (suc i) x is low)
    ∙ between-push (value_text s (view y)) (texts s (take i ys)) (value_text s (view x)) in
    rw (f, e, all, not_first i) (append_assoc old (with_commas_between (texts s (take (suc i) (y ∷ ys)))) (44 ∷ value_text s (view x)))

-- the types of one element are known
pub known_at : (s : Schema) (xs : List Value) (i : ℕ) (x : Value) → x ≡ get_or xs i x → i < length xs → HaveKnownTypes s (views xs)
    → HasKnownTypes s (view x)
known_at s [] i x is low known = absurd (omega (arith, low))
known_at s (y ∷ ys) zero x is low known = subst (λ z. HasKnownTypes s (view z)) (sym is) known.0
known_at s (y ∷ ys) (suc i) x is low known = known_at s ys i x is (omega (arith, low)) known.1

joined-push : (ts : List (List ℕ)) (t : List ℕ) → joined (ts ++ t ∷ []) ≡ joined ts ++ t
joined-push [] t = append-nil t
joined-push (u ∷ ts) t = ap (λ more. u ++ more) (joined-push ts t) ∙ sym (append_assoc u (joined ts) t)

sum_from : (a : ℕ) (ts : List (List ℕ)) → fold ◌+◌ a (map (λ (t : List ℕ). length t) ts) ≡ a + length (joined ts)
sum_from a [] = omega arith
sum_from a (t ∷ ts) = omega (arith, sum_from (a + length t) ts, length-append t (joined ts))

lengths-sum : (ts : List (List ℕ)) → sum (map (λ (t : List ℕ). length t) ts) ≡ length (joined ts)
lengths-sum ts = omega (arith, sum_from 0 ts)

-- cut by their lengths
pub split_texts-joined : (ts : List (List ℕ)) → split_texts (joined ts) (map (λ (t : List ℕ). length t) ts) ≡ ts
split_texts-joined [] = refl
split_texts-joined (t ∷ ts) = rw (take-append_seam t (joined ts), drop-append_seam t (joined ts), split_texts-joined ts) refl

-- the texts of all values, by what was written and how long each is
pub split_texts_are : (s : Schema) (xs : List Value) (i : ℕ) (bytes long : List ℕ) → length xs ≤ i → bytes ≡ joined (texts s (take i xs))
    → long ≡ map (λ (t : List ℕ). length t) (texts s (take i xs)) → split_texts bytes long ≡ texts s xs
split_texts_are s xs i bytes long above e f = rw (e, f, texts-all s xs i above) (split_texts-joined (texts s xs))

pub fits_bytes : (ts : List (List ℕ)) (bytes long : List ℕ) → bytes ≡ joined ts → long ≡ map (λ (t : List ℕ). length t) ts
    → sum long ≤ length bytes
fits_bytes ts bytes long e f = rw (e, f) (omega (arith, lengths-sum ts))

-- one more text is written
pub joined_next : (s : Schema) (xs : List Value) (i : ℕ) (x : Value) (bytes more : List ℕ) → x ≡ get_or xs i x → i < length xs
    → bytes ≡ joined (texts s (take i xs)) → more ≡ bytes ++ value_text s (view x) → more ≡ joined (texts s (take (i + 1) xs))
joined_next s xs i x bytes more is low e f = rw (f, e, texts-more s xs i x is low)
    (sym (joined-push (texts s (take i xs)) (value_text s (view x))))

pub lengths_next : (s : Schema) (xs : List Value) (i : ℕ) (x : Value) (bytes more long longer : List ℕ) (n : ℕ) → x ≡ get_or xs i x
    → i < length xs → long ≡ map (λ (t : List ℕ). length t) (texts s (take i xs))
    → more ≡ bytes ++ value_text s (view x) → n ≡ length more - length bytes → longer ≡ long ++ n ∷ []
    → longer ≡ map (λ (t : List ℕ). length t) (texts s (take (i + 1) xs))
lengths_next s xs i x bytes more long longer n is low e f g h =
    let count : n ≡ length (value_text s (view x)) = omega (arith, g, ap length f, length-append bytes (value_text s (view x))) in
    let all = ap (map (λ (t : List ℕ). length t)) (texts-more s xs i x is low)
    ∙ map-append (λ (t : List ℕ). length t) (texts s (take i xs)) (value_text s (view x) ∷ []) in
    rw (h, e, all, count) refl

-- one at most is in order
pub few-in_order : (s : Schema) (xs : List Value) → length xs < 2 → sort_texts (texts s xs) ≡ texts s xs
few-in_order s [] few = refl
few-in_order s (x ∷ []) few = refl
few-in_order s (x ∷ y ∷ ys) few = absurd (omega (arith, few))

-- ---- what a refusal leaves

pub err-same : {T E : Type 0} (r : Result T E) (xs ys : List ℕ) → ys ≡ xs → OnErr r (Continues xs ys)
err-same (Ok x) xs ys is = tt
err-same (Err x) xs ys is = continues-same xs ys is

pub err-unchanged : {T E : Type 0} (r : Result T E) (xs ys : List ℕ) → OnErr r (ys ≡ xs) → OnErr r (Continues xs ys)
err-unchanged (Ok x) xs ys is = tt
err-unchanged (Err x) xs ys is = continues-same xs ys is

-- behind what was written already
pub continues_on : (old first second out new : List ℕ) → out ≡ (old ++ first) ++ second → Continues out new → Continues old new
continues_on old first second out new e (tail, is) =
    (first ++ (second ++ tail), is ∙ ap (λ bytes. bytes ++ tail) e ∙ simp append_assoc refl)

pub continues_same : (old first second out new : List ℕ) → out ≡ (old ++ first) ++ second → new ≡ out → Continues old new
continues_same old first second out new e is = (first ++ second, is ∙ e ∙ append_assoc old first second)
