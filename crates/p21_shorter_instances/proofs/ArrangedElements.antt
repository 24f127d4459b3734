-- Elements put into order.
use Rattle.std.proofs.Common.{◌≡◌, ◌≢◌, ◌∙◌, ℕ, zero, suc, ◌+◌, ◌<◌, ◌≤◌, Bool, true, false, List, [], ◌∷◌, ◌++◌, length, length-drop, get_or, take, drop, sum, codes, refl, ap, sym, subst, arith, append_assoc, if◌then◌else◌}
use Rattle.std.proofs.lemmas.List.{append-nil, drop_more, take-append-drop}
use Rattle.p21_spec_basics.proofs.Members.{head_is, tail_is}
use Rattle.p21_spec_file.specs.ParameterKind.{IsUnique}
use Rattle.p21_spec_file.specs.CanonicalRecord.{AreTextsRising}
use Rattle.p21_spec_file.specs.Sorting.{is_below, sort_texts}
use Rattle.p21_spec_laws.proofs.Sorting.{below-itself, below-not_back, sort-rising}
use Rattle.p21_mapping_values.proofs.Rising.{none_twice}
use Rattle.p21_spec_file.specs.ValueText.{list_text, with_commas}
use Rattle.p21_mapping_values.proofs.Elements.{fits_bytes, split_texts-joined}
use Rattle.p21_mapping_values.specs.SplitTexts.{NoneTwice, joined, split_texts, lengths_of}
use Rattle.p21_spec_schema.specs.Schema.{TypeUse}
use Rattle.p21_shorter_instances.specs.ArrangedElements.{AreStrictlyRising, ArrangesElements, HoldsElements, has_no_order}
use Rattle.p21_values.specs.Canonical.{Continues}

-- ---- texts cut out of a list

-- behind a delimiter the first of the texts stands, and the others behind commas
abbrev pub Marked : List (List ℕ) → List ℕ → Type 0
Marked [] rest = Unit {0}
Marked (text ∷ texts) rest = (mark : ℕ) × (rest ≡ mark ∷ (text ++ (with_commas texts ++ codes ")")))

marked-more : (texts : List (List ℕ)) → Marked texts (with_commas texts ++ codes ")")
marked-more [] = tt
marked-more (text ∷ texts) = (44, ap (λ (x : List ℕ). 44 ∷ x) (append_assoc text (with_commas texts) (codes ")")))

-- the texts that are left, of which this is known, whatever all texts are
abbrev pub LeftBy : (List (List ℕ) → List (List ℕ) → Type 0) → List ℕ → List ℕ → List ℕ → List ℕ → Type 0
LeftBy Known text lengths rest long =
    (texts : List (List ℕ)) → HoldsElements text lengths texts
    → (left : List (List ℕ)) × Marked left rest × (long ≡ lengths_of left) × Known texts left

-- with these bytes in front of them they are all that was joined
abbrev pub IsJoined : List ℕ → List (List ℕ) → List (List ℕ) → Type 0
IsJoined bytes texts left = bytes ++ joined left ≡ joined texts

-- the texts that are left, behind those that were cut out
abbrev pub Left : List ℕ → List ℕ → List ℕ → List ℕ → List ℕ → Type 0
Left text lengths rest long bytes = LeftBy (IsJoined bytes) text lengths rest long

same-front : (a b x y : List ℕ) → length a ≡ length b → a ++ x ≡ b ++ y → (a ≡ b) × (x ≡ y)
same-front [] [] x y long e = (refl, e)
same-front [] (c ∷ b) x y long e = absurd (omega (arith, long))
same-front (c ∷ a) [] x y long e = absurd (omega (arith, long))
same-front (c ∷ a) (d ∷ b) x y long e =
    let (same, others) = same-front a b x y (omega (arith, long)) (tail_is c d (a ++ x) (b ++ y) e) in
    let first = head_is c d (a ++ x) (b ++ y) e in
    (rw (first, same) refl, others)

-- one text more is cut out
pub left-by : (Known Then : List (List ℕ) → List (List ℕ) → Type 0) (text lengths rest behind element long : List ℕ) (n : ℕ)
    → LeftBy Known text lengths rest (n ∷ long)
    → (mark : ℕ) × (rest ≡ mark ∷ (element ++ behind)) × (n ≡ length element)
    → ((texts left : List (List ℕ)) → Known texts (element ∷ left) → Then texts left) → LeftBy Then text lengths behind long
left-by Known Then text lengths rest behind element long n so_far (mark, cut, size) next texts holds = at (so_far texts holds)
  where
    at : (left : List (List ℕ)) × Marked left rest × (n ∷ long ≡ lengths_of left) × Known texts left
        → (left : List (List ℕ)) × Marked left behind × (long ≡ lengths_of left) × Then texts left
    at ([], marked, sizes, known) = cc
    at (first ∷ left, (other, e), sizes, known) =
        let size_is : n ≡ length first = head_is n (length first) long (lengths_of left) sizes in
        let (same, others) =
        same-front element first behind (with_commas left ++ codes ")") (sym size ∙ size_is)
        (tail_is mark other (element ++ behind) (first ++ (with_commas left ++ codes ")")) (sym cut ∙ e)) in (
          left,
          subst (Marked left) (sym others) (marked-more left),
          tail_is n (length first) long (lengths_of left) sizes,
          next texts left
              (subst (λ (x : List ℕ). Known texts (x ∷ left)) (sym same) known),
        )

pub left-next : (text lengths rest behind element bytes more long : List ℕ) (n : ℕ) → Left text lengths rest (n ∷ long) bytes
    → (mark : ℕ) × (rest ≡ mark ∷ (element ++ behind)) × (n ≡ length element) → more ≡ bytes ++ element → Left text lengths behind long more
left-next text lengths rest behind element bytes more long n so_far cut is =
    left-by (IsJoined bytes) (IsJoined more) text lengths rest behind element long n so_far cut
    (λ texts left all. ap (λ (x : List ℕ). x ++ joined left) is ∙ (append_assoc bytes element (joined left) ∙ all))

-- at the next of the lengths
pub left-over : (text lengths rest behind element bytes more : List ℕ) (i : ℕ) → i < length lengths
    → Left text lengths rest (drop i lengths) bytes
    → (mark : ℕ) × (rest ≡ mark ∷ (element ++ behind)) × (get_or lengths i 0 ≡ length element) → more ≡ bytes ++ element
    → Left text lengths behind (drop (i + 1) lengths) more
left-over text lengths rest behind element bytes more i low so_far cut is =
    left-next text lengths rest behind element bytes more (drop (i + 1) lengths) (get_or lengths i 0)
    (subst (λ (x : List ℕ). Left text lengths rest x bytes) (drop_more lengths i 0 low) so_far) cut is

pub left-none : (text lengths rest bytes : List ℕ) (i : ℕ) → length lengths ≤ i → Left text lengths rest (drop i lengths) bytes
    → (texts : List (List ℕ))
    → HoldsElements text lengths texts → bytes ≡ joined texts
left-none text lengths rest bytes i all so_far texts holds = at (so_far texts holds)
  where
    at : (left : List (List ℕ)) × Marked left rest × (drop i lengths ≡ lengths_of left) × (bytes ++ joined left ≡ joined texts)
        → bytes ≡ joined texts
    at ([], marked, sizes, whole) = sym (append-nil bytes) ∙ whole
    at (first ∷ left, marked, sizes, whole) = absurd (omega (arith, all, length-drop i lengths, ap length sizes))

pub elements-joined : (behind text lengths bytes all : List ℕ) → text ≡ behind → all ≡ bytes
    → ((texts : List (List ℕ)) → HoldsElements text lengths texts → bytes ≡ joined texts) → (texts : List (List ℕ))
    → HoldsElements behind lengths texts → all ≡ joined texts
elements-joined behind text lengths bytes all same is are texts (holds, long) = is ∙ are texts (same ∙ holds, long)

-- ---- texts that rise

-- all texts rise, where those that are left rise behind this one
abbrev pub RiseFrom : List ℕ → List (List ℕ) → List (List ℕ) → Type 0
RiseFrom before texts left = AreStrictlyRising (before ∷ left) → AreStrictlyRising texts

-- behind the first
pub rise-first : (text sizes behind element long : List ℕ) (n : ℕ) → sizes ≡ n ∷ long
    → (mark : ℕ) × (text ≡ mark ∷ (element ++ behind)) × (n ≡ length element)
    → LeftBy (RiseFrom element) text sizes behind long
rise-first text sizes behind element long n is cut =
    left-by (λ texts left. left ≡ texts) (RiseFrom element) text sizes text behind element long n first cut
    (λ texts left all. subst AreStrictlyRising all)
  where
    marked : (texts : List (List ℕ)) → Marked texts (list_text texts)
    marked [] = tt
    marked (t ∷ ts) = (40, ap (λ (x : List ℕ). 40 ∷ x) (append_assoc t (with_commas ts) (codes ")")))

    first : LeftBy (λ texts left. left ≡ texts) text sizes text (n ∷ long)
    first texts (holds, sizes_are) = (texts, subst (Marked texts) (sym holds) (marked texts), sym is ∙ sizes_are, refl)

-- at the next of the lengths
pub rise-next : (text lengths sizes rest behind before element : List ℕ) (i : ℕ) → i < length sizes
    → LeftBy (RiseFrom before) text lengths rest (drop i sizes)
    → (mark : ℕ) × (rest ≡ mark ∷ (element ++ behind)) × (get_or sizes i 0 ≡ length element) → is_below before element ≡ true
    → LeftBy (RiseFrom element) text lengths behind (drop (i + 1) sizes)
rise-next text lengths sizes rest behind before element i low so_far cut below =
    left-by (RiseFrom before) (RiseFrom element) text lengths rest behind element (drop (i + 1) sizes) (get_or sizes i 0)
    (subst (λ (x : List ℕ). LeftBy (RiseFrom before) text lengths rest x) (drop_more sizes i 0 low) so_far) cut
    (λ texts left rise rising. rise (below, rising))

pub rise-all : (text lengths sizes rest before : List ℕ) (i : ℕ) → length sizes ≤ i
    → LeftBy (RiseFrom before) text lengths rest (drop i sizes) → (texts : List (List ℕ))
    → HoldsElements text lengths texts → AreStrictlyRising texts
rise-all text lengths sizes rest before i all so_far texts holds = at (so_far texts holds)
  where
    at : (left : List (List ℕ)) × Marked left rest × (drop i sizes ≡ lengths_of left) × RiseFrom before texts left → AreStrictlyRising texts
    at ([], marked, long, rise) = rise tt
    at (first ∷ left, marked, long, rise) = absurd (omega (arith, all, length-drop i sizes, ap length long))

suc-next : (k : ℕ) → suc k + 1 ≡ suc (k + 1)
suc-next k = omega arith

rising-texts : (texts : List (List ℕ)) → AreStrictlyRising texts → AreTextsRising texts
rising-texts [] rising k d low high = absurd (omega (arith, high))
rising-texts (x ∷ []) rising k d low high = absurd (omega (arith, high))
rising-texts (x ∷ y ∷ ys) rising zero d low high = below-not_back x y rising.0
rising-texts (x ∷ y ∷ ys) rising (suc k) d low high =
    rw (suc-next k) (rising-texts (y ∷ ys) rising.1 k d (omega (arith, low)) (omega (arith, high)))

rising-differ : (texts : List (List ℕ)) → AreStrictlyRising texts → (k : ℕ) → k + 1 < length texts
    → get_or texts k [] ≢ get_or texts (k + 1) []
rising-differ [] rising k low = absurd (omega (arith, low))
rising-differ (x ∷ []) rising k low = absurd (omega (arith, low))
rising-differ (x ∷ y ∷ ys) rising zero low = λ same.
    (let itself = subst (λ (z : List ℕ). is_below z y ≡ true) same rising.0 in let not = below-itself y in cc)
rising-differ (x ∷ y ∷ ys) rising (suc k) low = rw (suc-next k) (rising-differ (y ∷ ys) rising.1 k (omega (arith, low)))

-- they stay as they are
pub rising-kept : (type : TypeUse) (start : ℕ) (old lengths text : List ℕ) → text ≡ drop start old
    → ((texts : List (List ℕ)) → HoldsElements text lengths texts → AreStrictlyRising texts) → (texts : List (List ℕ))
    → HoldsElements (drop start old) lengths texts
    → ArrangesElements type (take start old) texts old
rising-kept type start old lengths text same rise texts (is, long) =
    let rising = rise texts (same ∙ is, long) in
    record {
      text_is = sym (take-append-drop start old) ∙ ap (λ (x : List ℕ). take start old ++ x)
          (is ∙ ap list_text (sym (by (has_no_order type) rising)));
      differ = λ unique. none_twice texts (rising-texts texts rising) (rising-differ texts rising);
    }
  where
    by : (b : Bool) → AreStrictlyRising texts → (if b then sort_texts texts else texts) ≡ texts
    by true rising = sort-rising texts (rising-texts texts rising)
    by false rising = refl

-- ---- the texts in their order

pub texts-within : (text lengths bytes : List ℕ) → ((texts : List (List ℕ)) → HoldsElements text lengths texts → bytes ≡ joined texts)
    → (texts : List (List ℕ)) × HoldsElements text lengths texts → sum lengths ≤ length bytes
texts-within text lengths bytes are (texts, holds) = fits_bytes texts bytes lengths (are texts holds) holds.1

texts-are : (text lengths bytes : List ℕ) (texts : List (List ℕ)) → bytes ≡ joined texts → lengths ≡ lengths_of texts
    → split_texts bytes lengths ≡ texts
texts-are text lengths bytes texts is long = rw (is, long) (split_texts-joined texts)

-- texts whose order stays
pub order-kept : (type : TypeUse) (start : ℕ) (old lengths bytes : List ℕ) → has_no_order type ≡ false
    → (IsUnique type → NoneTwice (split_texts bytes lengths))
    → ((texts : List (List ℕ)) → HoldsElements (drop start old) lengths texts → bytes ≡ joined texts) → (texts : List (List ℕ))
    → HoldsElements (drop start old) lengths texts
    → ArrangesElements type (take start old) texts old
order-kept type start old lengths bytes ordered differ are texts (is, long) =
    let pieces_are = texts-are (drop start old) lengths bytes texts (are texts (is, long)) long in
    record {
      text_is = sym (take-append-drop start old) ∙ ap (λ (x : List ℕ). take start old ++ x)
          (is ∙ ap list_text (sym (ap (λ (b : Bool). if b then sort_texts texts else texts) ordered)));
      differ = λ unique. subst NoneTwice pieces_are (differ unique);
    }

-- texts that are written in rising order
pub order-made : (type : TypeUse) (start : ℕ) (old lengths bytes new : List ℕ) → has_no_order type ≡ true
    → (IsUnique type → NoneTwice (split_texts bytes lengths))
    → ((texts : List (List ℕ)) → HoldsElements (drop start old) lengths texts → bytes ≡ joined texts)
    → new ≡ take start old ++ list_text (sort_texts (split_texts bytes lengths)) → (texts : List (List ℕ))
    → HoldsElements (drop start old) lengths texts
    → ArrangesElements type (take start old) texts new
order-made type start old lengths bytes new unordered differ are made texts (is, long) =
    let pieces_are = texts-are (drop start old) lengths bytes texts (are texts (is, long)) long in
    record {
      text_is = made ∙ ap (λ (x : List ℕ). take start old ++ x)
          (ap (λ (ts : List (List ℕ)). list_text (sort_texts ts)) pieces_are
          ∙ ap list_text (sym (ap (λ (b : Bool). if b then sort_texts texts else texts) unordered)));
      differ = λ unique. subst NoneTwice pieces_are (differ unique);
    }

pub front-stays : (start : ℕ) (old : List ℕ) → Continues (take start old) old
front-stays start old = (drop start old, sym (take-append-drop start old))
