-- Names that are gathered, and names that are different.
use Rattle.std.specs.Prelude.{◌≡◌, ℕ, zero, suc, ◌+◌, ◌<◌, true, false, Bool, List, [], ◌∷◌, ◌++◌, length, map, drop, take, Some, Contains, Result, Ok, Err, refl}
use Rattle.std.specs.List.{IsDistinct, flat_map}
use Rattle.std.specs.Result.{IsErr, IsErrAnd}
use Rattle.std.specs.Str.{bytes_eq}
use Rattle.std.proofs.Common.{Bor, arith, ap, sym, ◌∙◌, subst, get_or, append_assoc}
use Rattle.std.proofs.lemmas.List.{map-append}
use Rattle.std.proofs.lemmas.Option.{slice_get_within, slice_get-get_or}
use Rattle.std.proofs.lemmas.Slice.Eq.{bytes_eq-Decides}
use Rattle.p21_spec_basics.proofs.Members.{Contains-first, Contains-later, Contains-at, Contains-found, Contains-mapped, Each-front, Each-append, Each-member, Each-of_members, Each-weaker, at-front, at-behind}
use Rattle.p21_express_outline.specs.Finding.{RefusalShows}
use Rattle.p21_express_outline.specs.declared.fault.SchemaFault.{SchemaFault}
use Rattle.p21_express_outline.specs.Known.{AreOthers, KnowsNames, names_of}
use Rattle.p21_express_graph.specs.declared.schema_contents.KnownNames.{KnownNames}
use Rattle.p21_express_outline.specs.Attributes.{attribute_with, own_with}
use Rattle.p21_express_outline.specs.Outline.{Named, digest_names, digest_own_names}
use Rattle.p21_express_syntax.specs.Views.{attributes_view, defined_view, entity_view, schema_view}
use Rattle.p21_express_syntax.specs.declared.schema.Declarations.{Declarations}
use Rattle.p21_express_outline.proofs.Zips.{map-twice}
use Rattle.p21_express_syntax.specs.declared.attributes.ExplicitAttributes.{ExplicitAttributes}
use Rattle.p21_express_syntax.specs.declared.defined_type.DefinedType.{DefinedType}
use Rattle.p21_spec_schema.specs.Schema.{TypeUse}
use Rattle.p21_express_graph.specs.Rising.{texts_of}
use Rattle.p21_express_graph.specs.SchemaContents.{attribute}
use Rattle.p21_express_graph.specs.declared.schema_contents.Attribute as code
use Rattle.p21_express_graph.proofs.Lookups.{take-snoc}
use Rattle.p21_express_syntax.specs.declared.attributes.AttributeName.{AttributeName}
use Rattle.p21_express_syntax.specs.declared.attributes.AttributeName.TheVariants.{Own, Redeclared}
use Rattle.p21_express_outline.proofs.NameLemmas.{distinct-at}
use Rattle.p21_express_outline.proofs.OneOutline.{own_names-append}

apart : (b : Bool) → (b ≡ true → ⊥) → b ≡ false
apart true none = absurd (none refl)
apart false none = refl

-- names in front of others are different
pub distinct-front : (xs ys : List (List ℕ)) → IsDistinct bytes_eq (xs ++ ys) → IsDistinct bytes_eq xs
unfolding IsDistinct
distinct-front [] ys distinct = tt
distinct-front (x ∷ xs) ys distinct = (Each-front (λ y. bytes_eq x y ≡ false) xs ys distinct.0, distinct-front xs ys distinct.1)

pub drop-next : {X : Type 0} (xs : List X) (k : ℕ) (d : X) → k < length xs → drop k xs ≡ get_or xs k d ∷ drop (k + 1) xs
drop-next [] k d below = absurd (omega (arith, below))
drop-next (x ∷ xs) zero d below = refl
drop-next {X} (x ∷ xs) (suc k) d below =
    let next : suc k + 1 ≡ suc (k + 1) = omega arith in
    let P : ℕ → Type 0 = λ j. drop k xs ≡ get_or xs k d ∷ drop j (x ∷ xs) in subst P (sym next) (drop-next xs k d (omega (arith, below)))

-- some behind those that are there, and what is left of all
pub adding-more : {X : Type 0} (now left all some new rest : List X) → now ++ left ≡ all → left ≡ some ++ rest → new ≡ now ++ some
    → new ++ rest ≡ all
adding-more now left all some new rest joined left_is new_is = ap (λ ns. ns ++ rest) new_is ∙ append_assoc now some rest
    ∙ ap (λ ns. now ++ ns) (sym left_is) ∙ joined

-- the text of a word more
pub text-more : (names new : List (Bor (List ℕ))) (text : Bor (List ℕ)) (name : List ℕ) → new ≡ names ++ text ∷ [] → text.now ≡ name
    → texts_of new ≡ texts_of names ++ name ∷ []
text-more names new text name new_is is = ap texts_of new_is ∙ map-append (λ t. t.now) names (text ∷ [])
    ∙ ap (λ n. texts_of names ++ n ∷ []) is

-- the texts of so many names and one more
pub texts-next : {X : Type 0} (name_of : X → List ℕ) (xs : List X) (k : ℕ) (x : X) (names new : List (Bor (List ℕ))) (text : Bor (List ℕ))
    → k < length xs → x ≡ get_or xs k x → texts_of names ≡ map name_of (take k xs) → new ≡ names ++ text ∷ [] → text.now ≡ name_of x
    → texts_of new ≡ map name_of (take (k + 1) xs)
texts-next name_of xs k x names new text below is so_far new_is named =
    let next : k + 1 ≡ suc k = omega arith in
    text-more names new text (name_of x) new_is named
    ∙ ap (λ ns. ns ++ name_of x ∷ []) so_far
    ∙ sym (ap (map name_of) (ap (λ j. take j xs) next ∙ take-snoc xs k x below ∙ ap (λ y. take k xs ++ y ∷ []) (sym is))
    ∙ map-append name_of (take k xs) (x ∷ []))

pub own-first : (x : AttributeName) (xs : List AttributeName) → digest_own_names (x ∷ xs) ≡ digest_own_names (x ∷ []) ++ digest_own_names xs
own-first (Own name) xs = refl
own-first (Redeclared entity name) xs = refl

pub drop-at : {X : Type 0} (xs : List X) (k : ℕ) (x : X) → k < length xs → x ≡ get_or xs k x → drop k xs ≡ x ∷ drop (k + 1) xs
drop-at xs k x below is = drop-next xs k x below ∙ ap (λ y. y ∷ drop (k + 1) xs) (sym is)

-- the new ones among the names that are left, by the first of these
pub own-at : (xs : List AttributeName) (k : ℕ) (x : AttributeName) → k < length xs → x ≡ get_or xs k x
    → digest_own_names (drop k xs) ≡ digest_own_names (x ∷ []) ++ digest_own_names (drop (k + 1) xs)
own-at xs k x below is = ap digest_own_names (drop-at xs k x below is) ∙ own-first x (drop (k + 1) xs)

-- ---- new attributes that share a type

pub own_with-at : (optional : Bool) (type : TypeUse) (xs : List AttributeName) (k : ℕ) (x : AttributeName) → k < length xs
    → x ≡ get_or xs k x → own_with optional type (drop k xs) ≡ own_with optional type (x ∷ []) ++ own_with optional type (drop (k + 1) xs)
own_with-at optional type xs k x below is = ap (map (attribute_with optional type)) (own-at xs k x below is)
    ∙ map-append (attribute_with optional type) (digest_own_names (x ∷ [])) (digest_own_names (drop (k + 1) xs))

pub own_with-one : (optional : Bool) (type : TypeUse) (old new : List code.Attribute) (a : code.Attribute) (x : AttributeName)
    (name : List ℕ) → new ≡ old ++ a ∷ [] → attribute a ≡ attribute_with optional type name → x ≡ Own name
    → map attribute new ≡ map attribute old ++ own_with optional type (x ∷ [])
own_with-one optional type old new a x name new_is is own =
    ap (map attribute) new_is ∙ map-append attribute old (a ∷ []) ∙ ap (λ y. map attribute old ++ y ∷ []) is
    ∙ ap (λ z. map attribute old ++ own_with optional type (z ∷ [])) (sym own)

-- ---- several lists of names

abbrev pub explicit_names : List ExplicitAttributes → List (List ℕ)
explicit_names explicit = digest_own_names (flat_map (λ d. d.names) (map attributes_view explicit))

pub explicit-first : (xs : List ExplicitAttributes) (k : ℕ) (x : ExplicitAttributes) → k < length xs → x ≡ get_or xs k x
    → explicit_names (drop k xs) ≡ digest_own_names x.names.items ++ explicit_names (drop (k + 1) xs)
explicit-first xs k x below is = ap explicit_names (drop-at xs k x below is)
    ∙ own_names-append x.names.items (flat_map (λ d. d.names) (map attributes_view (drop (k + 1) xs)))

pub others-more : (names : List (List ℕ)) (xs : List DefinedType) (k : ℕ) (x : DefinedType) → k < length xs → x ≡ get_or xs k x
    → AreOthers names (map (λ y. y.name) (take k xs)) → (Contains names x.name → ⊥) → AreOthers names (map (λ y. y.name) (take (k + 1) xs))
others-more names xs k x below is so_far none =
    let next : k + 1 ≡ suc k = omega arith in
    let P : List (List ℕ) → Type 0 = AreOthers names in
    subst P (sym (ap (map (λ y. y.name)) (ap (λ j. take j xs) next ∙ take-snoc xs k x below ∙ ap (λ y. take k xs ++ y ∷ []) (sym is))
    ∙ map-append (λ y. y.name) (take k xs) (x ∷ [])))
    (Each-append (λ n. Contains names n → ⊥) (map (λ y. y.name) (take k xs)) (x.name ∷ []) so_far (none, tt))

pub no-others : (names : List (List ℕ)) (xs : List DefinedType) (k : ℕ) (x : DefinedType) → k < length xs → x ≡ get_or xs k x
    → Contains names x.name → AreOthers names (map (λ y. y.name) xs) → ⊥
no-others names xs k x below is among others =
    Each-member (λ n. Contains names n → ⊥) (map (λ y. y.name) xs) x.name others
    (Contains-mapped (λ y. y.name) xs x (Contains-found xs k x (slice_get-get_or xs k x below ∙ ap Some (sym is)))) among

-- different names, and others that are different
pub distinct-joined : (xs ys : List (List ℕ)) → IsDistinct bytes_eq xs → IsDistinct bytes_eq ys → AreOthers xs ys
    → IsDistinct bytes_eq (xs ++ ys)
unfolding IsDistinct
distinct-joined [] ys distinct distinct_ others = distinct_
distinct-joined (x ∷ xs) ys distinct distinct_ others = (
  Each-append (λ y. bytes_eq x y ≡ false) xs ys distinct.0
      (Each-weaker (λ n. Contains (x ∷ xs) n → ⊥) (λ y. bytes_eq x y ≡ false)
      (λ y none. apart (bytes_eq x y) (λ h. let same : x ≡ y = (bytes_eq-Decides x y).0 h in let P : List ℕ
      → Type 0 = λ z. Contains (z ∷ xs) y in none (subst P (sym same) (Contains-first y xs)))) ys others),
  distinct-joined xs ys distinct.1 distinct_ (Each-weaker (λ n. Contains (x ∷ xs) n → ⊥) (λ n. Contains xs n → ⊥)
      (λ y none among. none (Contains-later x xs y among)) ys others),
)

pub distinct-back : (xs ys : List (List ℕ)) → IsDistinct bytes_eq (xs ++ ys) → IsDistinct bytes_eq ys
unfolding IsDistinct
distinct-back [] ys distinct = distinct
distinct-back (x ∷ xs) ys distinct = distinct-back xs ys distinct.1

pub distinct-others : (xs ys : List (List ℕ)) → IsDistinct bytes_eq (xs ++ ys) → AreOthers xs ys
distinct-others xs ys distinct = Each-of_members (λ n. Contains xs n → ⊥) ys (λ y among among_.
    let (i, at) = Contains-at xs y among_ in
    let (j, at_) = Contains-at ys y among in
    let below = slice_get_within xs i y at in
    let same = distinct-at (xs ++ ys) distinct i (length xs + j) y (at-front xs ys i y at) (at-behind xs ys j y at_) in
    omega (arith, below, same))

pub knows-refused : (n : Named) (less : Type 0) (fault : SchemaFault) (result : Result KnownNames SchemaFault) → IsErr result
    → IsErrAnd result (λ found. found ≡ fault) → (IsDistinct bytes_eq (n.entities ++ n.types) → less) → RefusalShows fault (less → ⊥)
    → KnowsNames n result
knows-refused n less fault (Ok u) is_err is so refused = cc
knows-refused n less fault (Err found) is_err is so refused = λ other h. refused (λ e. other (is ∙ e)) (so h)

-- ---- all names of declarations

abbrev pub entity_names : Declarations → List (List ℕ)
entity_names d = map (λ x. x.name) d.entities.items

abbrev pub type_names : Declarations → List (List ℕ)
type_names d = map (λ x. x.name) d.types.items

abbrev AreApartIn : Declarations → Type 0
AreApartIn d = IsDistinct bytes_eq ((digest_names (schema_view d)).entities ++ (digest_names (schema_view d)).types)

names-are : (d : Declarations) → (digest_names (schema_view d)).entities ++ (digest_names (schema_view d)).types ≡ entity_names d
    ++ type_names d
names-are d = ap (λ ns. ns ++ (digest_names (schema_view d)).types) (map-twice entity_view (λ x. x.name) d.entities.items)
    ∙ ap (λ ns. entity_names d ++ ns) (map-twice defined_view (λ x. x.name) d.types.items)

pub entities-apart : (d : Declarations) → AreApartIn d → IsDistinct bytes_eq (entity_names d)
entities-apart d distinct = distinct-front (entity_names d) (type_names d) (subst (IsDistinct bytes_eq) (names-are d) distinct)

pub types-apart : (d : Declarations) → AreApartIn d → IsDistinct bytes_eq (type_names d)
types-apart d distinct = distinct-back (entity_names d) (type_names d) (subst (IsDistinct bytes_eq) (names-are d) distinct)

pub others-apart : (d : Declarations) (names : List (List ℕ)) → names ≡ entity_names d → AreApartIn d → AreOthers names (type_names d)
others-apart d names is distinct =
    let P : List (List ℕ) → Type 0 = λ ns. AreOthers ns (type_names d) in
    subst P (sym is) (distinct-others (entity_names d) (type_names d) (subst (IsDistinct bytes_eq) (names-are d) distinct))

pub known-found : (d : Declarations) (entities types : List (List ℕ)) → (entities ≡ entity_names d) × IsDistinct bytes_eq (entity_names d)
    → (types ≡ type_names d) × IsDistinct bytes_eq (type_names d) → AreOthers entities (type_names d)
    → (names_of (record { entities = entities; types = types }) ≡ digest_names (schema_view d)) × AreApartIn d
known-found d entities types (entities_are, distinct) (types_are, distinct_) others =
    let f : List (List ℕ) → Named = λ ns. record { entities = ns; types = types } in
    let g : List (List ℕ) → Named = λ ns. record { entities = (digest_names (schema_view d)).entities; types = ns } in
    let P : List (List ℕ) → Type 0 = λ ns. AreOthers ns (type_names d) in (
      ap f (entities_are ∙ sym (map-twice entity_view (λ x. x.name) d.entities.items))
          ∙ ap g (types_are ∙ sym (map-twice defined_view (λ x. x.name) d.types.items)),
      subst (IsDistinct bytes_eq) (sym (names-are d)) (distinct-joined (entity_names d) (type_names d) distinct distinct_
          (subst P entities_are others)),
    )
