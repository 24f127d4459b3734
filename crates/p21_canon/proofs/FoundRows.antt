-- Rows found, and texts of values one behind the other.
use Rattle.std.proofs.Common.{◌≡◌, ◌≢◌, ℕ, zero, suc, ◌+◌, ◌<◌, Bool, true, false, List, [], ◌∷◌, ◌++◌, length, take, get_or, Some, Contains, arith, refl, ap, sym, subst, ◌∙◌, append_assoc, append-nil, Result, Ok, Err}
use Rattle.std.proofs.lemmas.Bool.{eq-eqb, ne_eqb}
use Rattle.std.proofs.lemmas.Grind.{flat_map-append}
use Rattle.std.proofs.lemmas.List.{length-map, map-append, take_more}
use Rattle.std.proofs.lemmas.Option.{slice_get-map, slice_get_read}
use Rattle.std.specs.List.{AllByRecursion as Each, IsDistinct}
use Rattle.std.specs.Option.{option_map}
use Rattle.std.specs.Result.{OnErr}
use Rattle.p21_values.specs.Canonical.{Continues}
use Rattle.std.specs.Prelude.{if◌then◌else◌, nat_eq, slice_get}
use Rattle.std.proofs.lemmas.Slice.Zip.{AllZip-long}
use Rattle.p21_spec_basics.proofs.Members.{AllZip-member, Each-append, Each-at}
use Rattle.p21_canon.proofs.Records.{closed-set}
use Rattle.p21_canon.specs.Meant.{IsMeant}
use Rattle.p21_canon.specs.StatementTexts.{AreSpelledParts, HasRows, IsClosedSet, IsFirstAt, IsSpelledPart, part_text, parts_text, row_among, row_of, rows_texts, still_first, texts_behind}
use Rattle.p21_mapping_values.specs.Row.{separator}
use Rattle.p21_express_graph.proofs.Lookups.{numbers-more, unnumbered}
use Rattle.p21_express_graph.specs.Orders.{numbers}
use Rattle.p21_express_graph.specs.declared.number.EntityId.{EntityId}
use Rattle.p21_spec_file.specs.Meaning.{HasOwnCount, Typed}
use Rattle.p21_spec_file.specs.Value as meant
use Rattle.p21_spec_file.specs.ValueText.{value_text, value_texts, with_commas, with_commas_between}
use Rattle.p21_mapping_values.proofs.Elements.{texts, texts-more}
use Rattle.p21_mapping_values.specs.KnownTypes.{HaveKnownTypes}
use Rattle.p21_mapping_values.specs.Spelled.{AreSpelled}
use Rattle.p21_mapping_values.specs.declared.value.Value.{Value}
use Rattle.p21_mapping_values.specs.declared.value.Values.{Values}
use Rattle.p21_mapping_values.specs.TypedView.{rows_view}
use Rattle.p21_mapping_values.specs.View.{list_of, view, views}
use Rattle.p21_spec_schema.specs.Order.{order}
use Rattle.p21_spec_schema.specs.Schema.{EntityNamed, Schema}
use Rattle.p21_spec_file.proofs.Commas.{with_commas-push}

-- ---- what a refusal leaves

pub on_err : {T E : Type 0} (r : Result T E) (P : Type 0) → P → OnErr r P
on_err (Ok value) P holds = tt
on_err (Err fault) P holds = holds

pub on_err_more : {T E : Type 0} (r : Result T E) (P Q : Type 0) → (P → Q) → OnErr r P → OnErr r Q
on_err_more (Ok value) P Q more holds = tt
on_err_more (Err fault) P Q more holds = more holds

pub continues-later : (old x out new : List ℕ) → out ≡ old ++ x → Continues out new → Continues old new
continues-later old x out new e (tail, is) = (x ++ tail, is ∙ ap (λ (y : List ℕ). y ++ tail) e ∙ append_assoc old x tail)

pub continues-behind : (old x named y opened new : List ℕ) → named ≡ old ++ x → opened ≡ named ++ y → Continues opened new
    → Continues old new
continues-behind old x named y opened new e f c = continues-later old x named new e (continues-later named y opened new f c)

-- ---- what a meaning gives

pub found-low : {X : Type 0} (xs : List X) (k : ℕ) (x : X) → slice_get xs k ≡ Some x → k < length xs
found-low [] k x found = cc
found-low (y ∷ ys) zero x found = omega arith
found-low (y ∷ ys) (suc k) x found = let low = found-low ys k x found in omega (arith, low)

pub meant-rows : (s : Schema) (m : Typed) → IsMeant s m → HasRows s m
meant-rows s m is =
    let means = is.means.means in
    record {
      entities_are = λ e among. (let (name, at, named) = AllZip-member (EntityNamed s) m.entities means.rising.0 e means.rising.1 among in
          found-low s.entities e named.0 named.1);
      distinct = (closed-set s is.means.kinds is.record_ m is.means.means).distinct;
      long = sym (AllZip-long (HasOwnCount s) m.entities m.values means.own_counts);
      known = is.types_known;
    }

pub meant-closed : (s : Schema) (m : Typed) → IsMeant s m → IsClosedSet s m.entities
meant-closed s m is = closed-set s is.means.kinds is.record_ m is.means.means

-- ---- a row by its entity

-- in a list where none is twice, each place of a number is its first
pub only-first : (xs : List ℕ) (k x : ℕ) → IsDistinct nat_eq xs → slice_get xs k ≡ Some x → IsFirstAt xs x k
unfolding IsDistinct
only-first [] k x distinct at = cc
only-first (y ∷ ys) zero x distinct at = (at, λ j below. absurd (omega (arith, below)))
only-first (y ∷ ys) (suc k) x distinct at = (
  at,
  none_before y ys k x (Each-at (λ z. nat_eq y z ≡ false) ys k x distinct.0 at)
      (only-first ys k x distinct.1 at).1,
)
  where
    none_before : (z : ℕ) (zs : List ℕ) (i u : ℕ) → nat_eq z u ≡ false → ((j : ℕ) → j < i → slice_get zs j ≢ Some u) → (j : ℕ) → j < suc i
        → slice_get (z ∷ zs) j ≢ Some u
    none_before z zs i u other none zero below h =
        let same : z ≡ u = (let g : Some z ≡ Some u = h in cc) in
        let equal = eq-eqb z u same in cc
    none_before z zs i u other none (suc j) below h = none j (omega (arith, below)) h

later-none : (x : EntityId) (xs : List EntityId) (k e : ℕ) → x.0 ≢ e → ((j : ℕ) → j < k → slice_get (numbers xs) j ≢ Some e) → (j : ℕ)
    → j < suc k → slice_get (numbers (x ∷ xs)) j ≢ Some e
later-none x xs k e other none zero below h = other (let g : Some x.0 ≡ Some e = h in cc)
later-none x xs k e other none (suc j) below h = none j (omega (arith, below)) h

pub first-at : (xs : List EntityId) (k e : ℕ) (d : EntityId) → k < length xs → (get_or xs k d).0 ≡ e
    → ((j : ℕ) → j < k → (get_or xs j d).0 ≢ e) → IsFirstAt (numbers xs) e k
first-at [] k e d low is none = absurd (omega (arith, low))
first-at (x ∷ xs) zero e d low is none = (ap (λ (n : ℕ). Some n) is, λ j below. absurd (omega (arith, below)))
first-at (x ∷ xs) (suc k) e d low is none =
    let more = first-at xs k e d (omega (arith, low)) is (λ j below. none (suc j) (omega (arith, below))) in
    (more.0, later-none x xs k e (none 0 (omega arith)) more.1)

pub row-at : (es : List ℕ) (rows : List meant.Values) (e k : ℕ) (vs : meant.Values) → IsFirstAt es e k → slice_get rows k ≡ Some vs
    → row_among es rows e ≡ vs
row-at [] rows e k vs (found, none) at = cc
row-at (f ∷ es) [] e k vs (found, none) at = cc
row-at (f ∷ es) (ws ∷ rows) e zero vs (found, none) at =
    let is : f ≡ e = (let h : Some f ≡ Some e = found in cc) in
    let same : ws ≡ vs = (let h : Some ws ≡ Some vs = at in cc) in
    ap (λ (b : Bool). if b then ws else row_among es rows e) (eq-eqb f e is) ∙ same
row-at (f ∷ es) (ws ∷ rows) e (suc k) vs (found, none) at =
    let other : f ≢ e = (λ is. none 0 (omega arith) (ap (λ (n : ℕ). Some n) is)) in
    ap (λ (b : Bool). if b then ws else row_among es rows e) (ne_eqb f e other)
    ∙ row-at es rows e k vs (found, λ j below. none (suc j) (omega (arith, below))) at

pub row-found : (es : List EntityId) (rows : List Values) (e k : ℕ) (vs : Values) → IsFirstAt (numbers es) e k → k < length rows
    → vs ≡ get_or rows k vs → views (list_of vs) ≡ row_among (numbers es) (rows_view rows) e
row-found es rows e k vs first low is =
    let stored = slice_get_read rows (length rows) k vs refl low is in
    let found = slice_get-map (λ (row : Values). views (list_of row)) rows k
    ∙ ap (option_map (λ (row : Values). views (list_of row))) stored in
    sym (row-at (numbers es) (rows_view rows) e k (views (list_of vs)) first found)

pub row-low : (es : List EntityId) (rows : List Values) (e k : ℕ) → IsFirstAt (numbers es) e k → length es ≡ length rows → k < length rows
row-low es rows e k first long = let low = found-low (numbers es) k e first.0 in omega (arith, low, long, numbers-length es)
  where
    numbers-length : (xs : List EntityId) → length (numbers xs) ≡ length xs
    numbers-length [] = refl
    numbers-length (x ∷ xs) = ap suc (numbers-length xs)

-- the types of a row are known
pub row-known : (s : Schema) (m : Typed) (es : List ℕ) (rows : List meant.Values) (e : ℕ) → Each (HaveKnownTypes s) rows
    → HaveKnownTypes s (row_among es rows e)
row-known s m [] rows e known = tt
row-known s m (f ∷ es) [] e known = tt
row-known s m (f ∷ es) (vs ∷ rows) e known = by_test (nat_eq f e) (row-known s m es rows e known.1)
  where
    by_test : (b : Bool) → HaveKnownTypes s (row_among es rows e) → HaveKnownTypes s (if b then vs else row_among es rows e)
    by_test true more = known.0
    by_test false more = more

pub rows-known : (s : Schema) (rows : List Values) (k : ℕ) (vs : Values) → Each (HaveKnownTypes s) (rows_view rows) → k < length rows
    → vs ≡ get_or rows k vs → HaveKnownTypes s (views (list_of vs))
rows-known s rows k vs known low is =
    let stored = slice_get_read rows (length rows) k vs refl low is in
    Each-at (HaveKnownTypes s) (rows_view rows) k (views (list_of vs)) known
    (slice_get-map (λ (row : Values). views (list_of row)) rows k ∙ ap (option_map (λ (row : Values). views (list_of row))) stored)

-- ---- texts with commas

with_commas-append : (ts us : List (List ℕ)) → with_commas (ts ++ us) ≡ with_commas ts ++ with_commas us
with_commas-append [] us = refl
with_commas-append (t ∷ ts) us = ap (λ (x : List ℕ). 44 ∷ (t ++ x)) (with_commas-append ts us)
    ∙ ap (λ (x : List ℕ). 44 ∷ x) (sym (append_assoc t (with_commas ts) (with_commas us)))

pub behind-push : (first : Bool) (ts : List (List ℕ)) (t : List ℕ)
    → texts_behind first (ts ++ t ∷ []) ≡ texts_behind first ts ++ (separator (still_first first ts) ++ t)
behind-push true [] t = append-nil t
behind-push true (u ∷ ts) t = ap (λ (x : List ℕ). u ++ x) (with_commas-push ts t) ∙ sym (append_assoc u (with_commas ts) (44 ∷ t))
behind-push false [] t = with_commas-push [] t
behind-push false (u ∷ ts) t = with_commas-push (u ∷ ts) t

still-push : (first : Bool) (ts : List (List ℕ)) (t : List ℕ) → still_first first (ts ++ t ∷ []) ≡ false
still-push first [] t = refl
still-push first (u ∷ ts) t = refl

pub behind-append : (first : Bool) (ts us : List (List ℕ))
    → texts_behind first (ts ++ us) ≡ texts_behind first ts ++ texts_behind (still_first first ts) us
behind-append true [] us = refl
behind-append false [] us = refl
behind-append true (t ∷ ts) us = ap (λ (x : List ℕ). t ++ x) (with_commas-append ts us)
    ∙ sym (append_assoc t (with_commas ts) (with_commas us))
behind-append false (t ∷ ts) us = with_commas-append (t ∷ ts) us

still-append : (first : Bool) (ts us : List (List ℕ)) → still_first first (ts ++ us) ≡ still_first (still_first first ts) us
still-append first [] us = refl
still-append first (t ∷ ts) [] = refl
still-append first (t ∷ ts) (u ∷ us) = refl

-- ---- a value more

pub value-next : (s : Schema) (first now : Bool) (xs : List Value) (i : ℕ) (x : Value) (old out separated more : List ℕ) → x ≡ get_or xs i x
    → i < length xs → out ≡ old ++ texts_behind first (texts s (take i xs)) → now ≡ still_first first (texts s (take i xs))
    → separated ≡ out ++ separator now → more ≡ separated ++ value_text s (view x)
    → more ≡ old ++ texts_behind first (texts s (take (i + 1) xs))
value-next s first now xs i x old out separated more is low e still f g =
    let ts : List (List ℕ) = texts s (take i xs) in
    let t : List ℕ = value_text s (view x) in
    let after : texts_behind first (texts s (take (i + 1) xs)) ≡ texts_behind first ts ++ (separator now ++ t) =
    ap (texts_behind first) (texts-more s xs i x is low) ∙ behind-push first ts t
    ∙ ap (λ (b : Bool). texts_behind first ts ++ (separator b ++ t)) (sym still) in
    rw (g, f, e, after) (simp append_assoc refl)

pub still-next : (s : Schema) (first : Bool) (xs : List Value) (i : ℕ) (x : Value) → x ≡ get_or xs i x → i < length xs
    → false ≡ still_first first (texts s (take (i + 1) xs))
still-next s first xs i x is low = sym (ap (still_first first) (texts-more s xs i x is low)
    ∙ still-push first (texts s (take i xs)) (value_text s (view x)))

-- ---- a row more

rows-more : (s : Schema) (m : Typed) (xs : List EntityId) (k : ℕ) (d : EntityId) → k < length xs
    → rows_texts s m (numbers (take (k + 1) xs)) ≡ rows_texts s m (numbers (take k xs)) ++ value_texts s (row_of m (get_or xs k d).0)
rows-more s m xs k d low =
    ap (rows_texts s m) (numbers-more (λ (e : EntityId). e.0) xs k d low)
    ∙ flat_map-append (λ (e : ℕ). value_texts s (row_of m e)) (numbers (take k xs)) ((get_or xs k d).0 ∷ [])
    ∙ ap (λ (ts : List (List ℕ)). rows_texts s m (numbers (take k xs)) ++ ts) (append-nil (value_texts s (row_of m (get_or xs k d).0)))

pub row-next : (s : Schema) (m : Typed) (xs : List EntityId) (k : ℕ) (d : EntityId) (vs : meant.Values) (now : Bool) (old out more : List ℕ)
    → k < length xs → vs ≡ row_of m (get_or xs k d).0 → out ≡ old ++ with_commas_between (rows_texts s m (numbers (take k xs)))
    → now ≡ still_first true (rows_texts s m (numbers (take k xs))) → more ≡ out ++ texts_behind now (value_texts s vs)
    → more ≡ old ++ with_commas_between (rows_texts s m (numbers (take (k + 1) xs)))
row-next s m xs k d vs now old out more low is e still f =
    let ts : List (List ℕ) = rows_texts s m (numbers (take k xs)) in
    let us : List (List ℕ) = value_texts s vs in
    let all : rows_texts s m (numbers (take (k + 1) xs)) ≡ ts ++ us = rows-more s m xs k d low
    ∙ ap (λ (ws : meant.Values). ts ++ value_texts s ws) (sym is) in
    let after : with_commas_between (rows_texts s m (numbers (take (k + 1) xs))) ≡ with_commas_between ts ++ texts_behind now us =
    ap with_commas_between all ∙ behind-append true ts us
    ∙ ap (λ (b : Bool). with_commas_between ts ++ texts_behind b us) (sym still) in
    rw (f, e, after) (append_assoc old (with_commas_between ts) (texts_behind now us))

pub row-still : (s : Schema) (m : Typed) (xs : List EntityId) (k : ℕ) (d : EntityId) (vs : meant.Values) (now next : Bool) → k < length xs
    → vs ≡ row_of m (get_or xs k d).0 → now ≡ still_first true (rows_texts s m (numbers (take k xs)))
    → next ≡ still_first now (value_texts s vs)
    → next ≡ still_first true (rows_texts s m (numbers (take (k + 1) xs)))
row-still s m xs k d vs now next low is still f =
    let ts : List (List ℕ) = rows_texts s m (numbers (take k xs)) in
    let all : rows_texts s m (numbers (take (k + 1) xs)) ≡ ts ++ value_texts s vs = rows-more s m xs k d low
    ∙ ap (λ (ws : meant.Values). ts ++ value_texts s ws) (sym is) in
    f ∙ ap (λ (b : Bool). still_first b (value_texts s vs)) still ∙ sym (still-append true ts (value_texts s vs))
    ∙ sym (ap (still_first true) all)

pub row-spelled : (s : Schema) (m : Typed) (xs : List EntityId) (k : ℕ) (d : EntityId) (vs : meant.Values) → k < length xs
    → vs ≡ row_of m (get_or xs k d).0 → Each (λ e. AreSpelled s (row_of m e)) (numbers (take k xs)) → AreSpelled s vs
    → Each (λ e. AreSpelled s (row_of m e)) (numbers (take (k + 1) xs))
row-spelled s m xs k d vs low is each spelled =
    let P : List ℕ → Type 0 = λ es. Each (λ e. AreSpelled s (row_of m e)) es in
    subst P (sym (numbers-more (λ (e : EntityId). e.0) xs k d low))
    (Each-append (λ e. AreSpelled s (row_of m e)) (numbers (take k xs)) ((get_or xs k d).0 ∷ []) each
    (subst (AreSpelled s) is spelled, tt))

-- ---- a part more

parts-push : (s : Schema) (es : List ℕ) (rows : List meant.Values) (e : ℕ) (vs : meant.Values) → length es ≡ length rows
    → parts_text s (es ++ e ∷ []) (rows ++ vs ∷ []) ≡ parts_text s es rows ++ part_text s e (value_texts s vs)
parts-push s [] [] e vs long = append-nil (part_text s e (value_texts s vs))
parts-push s [] (ws ∷ rows) e vs long = absurd (omega (arith, long))
parts-push s (f ∷ es) [] e vs long = absurd (omega (arith, long))
parts-push s (f ∷ es) (ws ∷ rows) e vs long =
    ap (λ (x : List ℕ). part_text s f (value_texts s ws) ++ x) (parts-push s es rows e vs (omega (arith, long)))
    ∙ sym (append_assoc (part_text s f (value_texts s ws)) (parts_text s es rows) (part_text s e (value_texts s vs)))

spelled-push : (s : Schema) (es : List ℕ) (rows : List meant.Values) (e : ℕ) (vs : meant.Values) → AreSpelledParts s es rows
    → IsSpelledPart s e vs → length es ≡ length rows → AreSpelledParts s (es ++ e ∷ []) (rows ++ vs ∷ [])
spelled-push s [] [] e vs each is long = (is, tt)
spelled-push s [] (ws ∷ rows) e vs each is long = absurd (omega (arith, long))
spelled-push s (f ∷ es) [] e vs each is long = absurd (omega (arith, long))
spelled-push s (f ∷ es) (ws ∷ rows) e vs each is long = (each.0, spelled-push s es rows e vs each.1 is (omega (arith, long)))

taken-length : (xs : List EntityId) (rows : List Values) (i : ℕ) → length xs ≡ length rows
    → length (numbers (take i xs)) ≡ length (rows_view (take i rows))
taken-length [] [] zero long = refl
taken-length [] [] (suc i) long = refl
taken-length [] (r ∷ rows) i long = absurd (omega (arith, long))
taken-length (x ∷ xs) [] i long = absurd (omega (arith, long))
taken-length (x ∷ xs) (r ∷ rows) zero long = refl
taken-length (x ∷ xs) (r ∷ rows) (suc i) long = ap suc (taken-length xs rows i (omega (arith, long)))

rows-push : (rows : List Values) (i : ℕ) (r : Values) → r ≡ get_or rows i r → i < length rows
    → rows_view (take (i + 1) rows) ≡ rows_view (take i rows) ++ views (list_of r) ∷ []
rows-push rows i r is low = ap rows_view (take_more rows i r low ∙ ap (λ (q : Values). take i rows ++ q ∷ []) (sym is))
    ∙ map-append (λ (row : Values). views (list_of row)) (take i rows) (r ∷ [])

pub part-next : (s : Schema) (xs : List EntityId) (rows : List Values) (i : ℕ) (d : EntityId) (r : Values) (old out more : List ℕ)
    → i < length xs → length xs ≡ length rows → r ≡ get_or rows i r
    → out ≡ old ++ parts_text s (numbers (take i xs)) (rows_view (take i rows))
    → more ≡ out ++ part_text s (get_or xs i d).0 (value_texts s (views (list_of r)))
    → more ≡ old ++ parts_text s (numbers (take (i + 1) xs)) (rows_view (take (i + 1) rows))
part-next s xs rows i d r old out more low long is e f =
    let es : List ℕ = numbers (take i xs) in
    let vss : List meant.Values = rows_view (take i rows) in
    let all : parts_text s (numbers (take (i + 1) xs)) (rows_view (take (i + 1) rows)) ≡ parts_text s es vss
    ++ part_text s (get_or xs i d).0 (value_texts s (views (list_of r))) =
    ap (λ (ns : List ℕ). parts_text s ns (rows_view (take (i + 1) rows))) (numbers-more (λ (e : EntityId). e.0) xs i d low)
    ∙ ap (parts_text s (es ++ (get_or xs i d).0 ∷ [])) (rows-push rows i r is (omega (arith, low, long)))
    ∙ parts-push s es vss (get_or xs i d).0 (views (list_of r)) (taken-length xs rows i long) in
    rw (f, e, all) (append_assoc old (parts_text s es vss) (part_text s (get_or xs i d).0 (value_texts s (views (list_of r)))))

pub part-spelled : (s : Schema) (xs : List EntityId) (rows : List Values) (i : ℕ) (d : EntityId) (r : Values) → i < length xs
    → length xs ≡ length rows → r ≡ get_or rows i r → AreSpelledParts s (numbers (take i xs)) (rows_view (take i rows))
    → IsSpelledPart s (get_or xs i d).0 (views (list_of r)) → AreSpelledParts s (numbers (take (i + 1) xs)) (rows_view (take (i + 1) rows))
part-spelled s xs rows i d r low long is each spelled =
    let P : List ℕ → Type 0 = λ ns. AreSpelledParts s ns (rows_view (take (i + 1) rows)) in
    let Q : List meant.Values → Type 0 = λ vss. AreSpelledParts s (numbers (take i xs) ++ (get_or xs i d).0 ∷ []) vss in
    subst P (sym (numbers-more (λ (e : EntityId). e.0) xs i d low))
    (subst Q (sym (rows-push rows i r is (omega (arith, low, long))))
    (spelled-push s (numbers (take i xs)) (rows_view (take i rows)) (get_or xs i d).0 (views (list_of r)) each spelled
    (taken-length xs rows i long)))

-- ---- the leaf

pub long-order : (found : List EntityId) (order_ : List ℕ) (entities : List EntityId) → numbers found ≡ order_
    → length found ≡ length entities → length order_ ≡ length (numbers entities)
long-order found order_ entities is long = sym (ap (λ (es : List ℕ). length es) is) ∙ length-map found (λ (e : EntityId). e.0) ∙ long
    ∙ sym (length-map entities (λ (e : EntityId). e.0))

-- what holds at each index holds of each
pub each_entity : (s : Schema) (entities : List EntityId) (d : EntityId)
    → ((k : ℕ) → k < length entities → length (order s (get_or entities k d).0) ≢ length entities) → (e : ℕ) → Contains (numbers entities) e
    → length (order s e) ≢ length (numbers entities)
each_entity s entities d none e among same = unnumbered (λ (x : EntityId). x.0) d entities e (λ k low is.
    let there : length (order s (get_or entities k d).0) ≡ length (order s e) = ap (λ (n : ℕ). length (order s n)) is in
    none k low (there ∙ same ∙ length-map entities (λ (x : EntityId). x.0))) among
