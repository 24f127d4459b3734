-- What is found for each of a list, one by one.
use Rattle.std.specs.Prelude.{◌≡◌, ℕ, zero, suc, ◌+◌, ◌<◌, ◌≤◌, Bool, List, [], ◌∷◌, ◌++◌, length, map, take, drop, Result, Ok, Err, Vec, refl}
use Rattle.std.specs.List.{AllZip}
use Rattle.std.specs.Result.{IsErr, IsErrAnd}
use Rattle.std.proofs.Common.{arith, ap, sym, ◌∙◌, subst, get_or, append_assoc}
use Rattle.std.proofs.lemmas.List.{append-nil, map-append, take-append-drop}
use Rattle.p21_express_outline.specs.Finding.{RefusalShows, Finds, FindsEach, AddsEach}
use Rattle.p21_express_outline.specs.declared.fault.SchemaFault.{SchemaFault}
use Rattle.p21_express_outline.proofs.Zips.{AllZip-mapped, AllZip-unmapped}
use Rattle.p21_express_outline.proofs.Adding.{drop-at}
use Rattle.p21_express_outline.specs.Outline.{Named, DigestAttributeIs, DigestTypeIs, digest_one_of_lists, digest_own_explicit, one_of_list}
use Rattle.p21_express_graph.proofs.Lookups.{take-snoc}
use Rattle.p21_express_outline.specs.Attributes.{attribute_with, own_of}
use Rattle.p21_express_syntax.specs.Digest.{TypeDigest}
use Rattle.p21_spec_schema.specs.Schema.{Attribute, TypeUse}
use Rattle.p21_express_syntax.specs.Views.{attributes_view, entity_view, some_list}
use Rattle.p21_express_syntax.specs.declared.entity.Entity.{Entity}
use Rattle.p21_express_syntax.specs.declared.attributes.ExplicitAttributes.{ExplicitAttributes}

pub AllZip-append : {X Y : Type 0} (R : X → Y → Type 0) (xs zs : List X) (ys ws : List Y) → AllZip R xs ys → AllZip R zs ws
    → AllZip R (xs ++ zs) (ys ++ ws)
AllZip-append R [] zs [] ws all all_ = all_
AllZip-append R [] zs (y ∷ ys) ws all all_ = absurd all
AllZip-append R (x ∷ xs) zs [] ws all all_ = absurd all
AllZip-append R (x ∷ xs) zs (y ∷ ys) ws all all_ = (all.0, AllZip-append R xs zs ys ws all.1 all_)

-- lists behind lists have lists beside them
pub AllZip-apart : {X Y : Type 0} (R : X → Y → Type 0) (xs zs : List X) (ys : List Y) → AllZip R (xs ++ zs) ys
    → ((bs : List Y) × AllZip R xs bs) × ((cs : List Y) × AllZip R zs cs)
AllZip-apart R [] zs ys all = (([], tt), (ys, all))
AllZip-apart R (x ∷ xs) zs [] all = absurd all
AllZip-apart R (x ∷ xs) zs (y ∷ ys) all = let h = AllZip-apart R xs zs ys all.1 in ((y ∷ h.0.0, (all.0, h.0.1)), h.1)

pub zip-more : {A B X : Type 0} (view : A → B) (R : X → B → Type 0) (xs : List X) (k : ℕ) (x : X) (found new : List A) (y : A)
    → k < length xs → x ≡ get_or xs k x → AllZip R (take k xs) (map view found) → R x (view y) → new ≡ found ++ y ∷ []
    → AllZip R (take (k + 1) xs) (map view new)
zip-more {A} {B} {X} view R xs k x found new y below is so_far holds new_is =
    let next : k + 1 ≡ suc k = omega arith in
    let P : List X → Type 0 = λ zs. AllZip R zs (map view new) in
    let Q : List B → Type 0 = λ ys. AllZip R (take k xs ++ x ∷ []) ys in
    subst P (sym (ap (λ j. take j xs) next ∙ take-snoc xs k x below ∙ ap (λ z. take k xs ++ z ∷ []) (sym is)))
    (subst Q (sym (ap (map view) new_is ∙ map-append view found (y ∷ [])))
    (AllZip-append R (take k xs) (x ∷ []) (map view found) (view y ∷ []) so_far (holds, tt)))

-- where there is none for one of them, there is no list
pub zip-none : {X Y : Type 0} (R : X → Y → Type 0) (xs : List X) (k : ℕ) (x : X) → k < length xs → x ≡ get_or xs k x → ((y : Y) → R x y → ⊥)
    → (ys : List Y) → AllZip R xs ys → ⊥
zip-none R [] k x below is none ys all = omega (arith, below)
zip-none R (z ∷ xs) k x below is none [] all = all
zip-none {X} R (z ∷ xs) zero x below is none (y ∷ ys) all = let P : X → Type 0 = λ w. R w y in none y (subst P (sym is) all.0)
zip-none R (z ∷ xs) (suc k) x below is none (y ∷ ys) all = zip-none R xs k x (omega (arith, below)) is none ys all.1

-- a refusal handed on by `?`
pub each-refused : {A B X Z : Type 0} (view : A → B) (R : X → B → Type 0) (xs : List X) (k : ℕ) (x : X) (fault : SchemaFault)
    (result : Result (Vec A Z) SchemaFault) → IsErr result → IsErrAnd result (λ found. found ≡ fault) → k < length xs → x ≡ get_or xs k x
    → RefusalShows fault ((y : B) → R x y → ⊥) → FindsEach view R xs result
each-refused view R xs k x fault (Ok u) is_err is below at refused = cc
each-refused view R xs k x fault (Err found) is_err is below at refused =
    λ other. zip-none R xs k x below at (refused (λ e. other (is ∙ e)))

pub find-refused : {A B C : Type 0} (view : A → B) (Is : B → Type 0) (Less : C → Type 0) (fault : SchemaFault)
    (result : Result A SchemaFault) → IsErr result → IsErrAnd result (λ found. found ≡ fault) → ((y : B) → Is y → (z : C) × Less z)
    → RefusalShows fault ((z : C) → Less z → ⊥) → Finds view Is result
find-refused view Is Less fault (Ok u) is_err is so refused = cc
find-refused view Is Less fault (Err found) is_err is so refused = λ other y holds. let less = so y holds in
    refused (λ e. other (is ∙ e)) less.0 less.1

-- ---- what is added behind others

pub adds-more : {A B X : Type 0} (view : A → B) (R : X → B → Type 0) (done some : List X) (fn now new : List A)
    → ((ys : List B) × (map view now ≡ map view fn ++ ys) × AllZip R done ys)
    → ((ys : List B) × (map view new ≡ map view now ++ ys) × AllZip R some ys)
    → (ys : List B) × (map view new ≡ map view fn ++ ys) × AllZip R (done ++ some) ys
adds-more view R done some fn now new (ys, now_is, all) (zs, new_is, all_) =
    (ys ++ zs, new_is ∙ ap (λ ws. ws ++ zs) now_is ∙ append_assoc (map view fn) ys zs, AllZip-append R done some ys zs all all_)

-- there is none for all where there is none for some
pub adds-refused : {A B X Z : Type 0} (view : A → B) (R : X → B → Type 0) (all done some left : List X) (fault : SchemaFault)
    (result : Result (Unit {0}) SchemaFault) (old new : Vec A Z) → IsErr result → IsErrAnd result (λ found. found ≡ fault)
    → all ≡ done ++ (some ++ left)
    → RefusalShows fault ((ys : List B) → AllZip R some ys → ⊥) → AddsEach view R all result old new
adds-refused view R all done some left fault (Ok u) old new is_err is all_is refused = cc
adds-refused {A} {B} {X} view R all done some left fault (Err found) old new is_err is all_is refused = λ other ys zipped.
    let P : List X → Type 0 = λ xs. AllZip R xs ys in
    let behind = AllZip-apart R done (some ++ left) ys (subst P all_is zipped) in
    let mine = AllZip-apart R some left behind.1.0 behind.1.1 in
    refused (λ e. other (is ∙ e)) mine.0.0 mine.0.1

pub all-refused : {A B X Z : Type 0} (view : A → B) (R : X → B → Type 0) (all done some left : List X) (fault : SchemaFault)
    (result : Result (Vec A Z) SchemaFault) → IsErr result → IsErrAnd result (λ found. found ≡ fault) → all ≡ done ++ (some ++ left)
    → RefusalShows fault ((ys : List B) → AllZip R some ys → ⊥) → FindsEach view R all result
all-refused view R all done some left fault (Ok u) is_err is all_is refused = cc
all-refused {A} {B} {X} view R all done some left fault (Err found) is_err is all_is refused = λ other ys zipped.
    let P : List X → Type 0 = λ xs. AllZip R xs ys in
    let behind = AllZip-apart R done (some ++ left) ys (subst P all_is zipped) in
    let mine = AllZip-apart R some left behind.1.0 behind.1.1 in
    refused (λ e. other (is ∙ e)) mine.0.0 mine.0.1

-- a list by its front, an element and the rest
pub split-at : {X : Type 0} (xs : List X) (k : ℕ) (x : X) → k < length xs → x ≡ get_or xs k x
    → (take (k + 1) xs ≡ take k xs ++ x ∷ []) × (xs ≡ take k xs ++ (x ∷ [] ++ drop (k + 1) xs))
split-at xs k x below is =
    let next : k + 1 ≡ suc k = omega arith in (
      ap (λ j. take j xs) next ∙ take-snoc xs k x below ∙ ap (λ z. take k xs ++ z ∷ []) (sym is),
      sym (take-append-drop k xs) ∙ ap (λ ys. take k xs ++ ys) (drop-at xs k x below is),
    )

-- ---- aggregates

pub more-behind : {A B X : Type 0} (view : A → B) (R : X → B → Type 0) (done some total : List X) (now new : List A)
    → AllZip R done (map view now) → ((ys : List B) × (map view new ≡ map view now ++ ys) × AllZip R some ys) → total ≡ done ++ some
    → AllZip R total (map view new)
more-behind {A} {B} {X} view R done some total now new all (ys, new_is, all_) total_is =
    let P : List X → Type 0 = λ xs. AllZip R xs (map view new) in
    subst P (sym total_is) (subst (AllZip R (done ++ some)) (sym new_is) (AllZip-append R done some (map view now) ys all all_))

pub one-none : {X Y : Type 0} (R : X → Y → Type 0) (x : X) → ((y : Y) → R x y → ⊥) → (ys : List Y) → AllZip R (x ∷ []) ys → ⊥
one-none R x none [] all = all
one-none R x none (y ∷ ys) all = none y all.0

pub push-one : {A B X : Type 0} (view : A → B) (R : X → B → Type 0) (x : X) (all : List X) (old new : List A) (y : A) → new ≡ old ++ y ∷ []
    → R x (view y) → all ≡ x ∷ [] → (ys : List B) × (map view new ≡ map view old ++ ys) × AllZip R all ys
push-one {A} {B} {X} view R x all old new y new_is holds all_is =
    let P : List X → Type 0 = λ xs. AllZip R xs (view y ∷ []) in
    (view y ∷ [], ap (map view) new_is ∙ map-append view old (y ∷ []), subst P (sym all_is) (holds, tt))

-- ---- new attributes

-- those that share a type are those of the digest, if the type is its type
pub own-are : (n : Named) (kept : TypeDigest) (optional : Bool) (type : TypeUse) (names : List (List ℕ)) → DigestTypeIs n kept type
    → AllZip (DigestAttributeIs n) (map (λ name. (name, optional, kept)) names) (map (attribute_with optional type) names)
own-are n kept optional type [] is = tt
own-are n kept optional type (name ∷ names) is = ((refl, refl, is), own-are n kept optional type names is)

-- there are none of a type that is none, if there are any
pub own-none : (n : Named) (kept : TypeDigest) (optional : Bool) (names : List (List ℕ)) → 0 < length names
    → ((type : TypeUse) → DigestTypeIs n kept type → ⊥) → (ys : List Attribute)
    → AllZip (DigestAttributeIs n) (map (λ name. (name, optional, kept)) names) ys → ⊥
own-none n kept optional [] some none ys all = omega (arith, some)
own-none n kept optional (name ∷ names) some none [] all = all
own-none n kept optional (name ∷ names) some none (y ∷ ys) all = none y.type all.0.2

pub own-empty : (n : Named) (kept : TypeDigest) (optional : Bool) (names : List (List ℕ)) → (0 < length names → ⊥)
    → AllZip (DigestAttributeIs n) (map (λ name. (name, optional, kept)) names) []
own-empty n kept optional [] none = tt
own-empty n kept optional (name ∷ names) none = absurd (none (omega arith))

abbrev own_in : List ExplicitAttributes → List (List ℕ × Bool × TypeDigest)
own_in explicit = digest_own_explicit (map attributes_view explicit)

own_in-append : (xs ys : List ExplicitAttributes) → own_in (xs ++ ys) ≡ own_in xs ++ own_in ys
own_in-append [] ys = refl
own_in-append (x ∷ xs) ys = ap (λ zs. own_of (attributes_view x) x.names.items ++ zs) (own_in-append xs ys)
    ∙ sym (append_assoc (own_of (attributes_view x) x.names.items) (own_in xs) (own_in ys))

pub own_in-taken : (explicit : List ExplicitAttributes) (k : ℕ) (x : ExplicitAttributes) → k < length explicit → x ≡ get_or explicit k x
    → digest_own_explicit (map attributes_view (take (k + 1) explicit)) ≡ digest_own_explicit (map attributes_view (take k explicit))
    ++ own_of (attributes_view x) x.names.items
own_in-taken explicit k x below is = ap own_in (split-at explicit k x below is).0 ∙ own_in-append (take k explicit) (x ∷ [])
    ∙ ap (λ zs. own_in (take k explicit) ++ zs) (append-nil (own_of (attributes_view x) x.names.items))

pub own_in-split : (explicit : List ExplicitAttributes) (k : ℕ) (x : ExplicitAttributes) → k < length explicit → x ≡ get_or explicit k x
    → digest_own_explicit (map attributes_view explicit) ≡ digest_own_explicit (map attributes_view (take k explicit))
    ++ (own_of (attributes_view x) x.names.items ++ digest_own_explicit (map attributes_view (drop (k + 1) explicit)))
own_in-split explicit k x below is = ap own_in (split-at explicit k x below is).1
    ∙ own_in-append (take k explicit) (x ∷ [] ++ drop (k + 1) explicit)

-- ---- views of what is written

pub each-refused_mapped : {A B W X Z : Type 0} (view : A → B) (R : X → B → Type 0) (f : W → X) (xs : List W) (k : ℕ) (x : W)
    (fault : SchemaFault) (result : Result (Vec A Z) SchemaFault) → IsErr result → IsErrAnd result (λ found. found ≡ fault) → k < length xs
    → x ≡ get_or xs k x
    → RefusalShows fault ((y : B) → R (f x) y → ⊥) → FindsEach view R (map f xs) result
each-refused_mapped view R f xs k x fault (Ok u) is_err is below at refused = cc
each-refused_mapped view R f xs k x fault (Err found) is_err is below at refused =
    λ other ys all. zip-none (λ w y. R (f w) y) xs k x below at (refused (λ e. other (is ∙ e))) ys (AllZip-unmapped R f xs ys all)

pub each-mapped : {A B W X : Type 0} (view : A → B) (R : X → B → Type 0) (f : W → X) (xs : List W) (found : List A)
    → AllZip (λ w y. R (f w) y) xs (map view found) → AllZip R (map f xs) (map view found)
each-mapped view R f xs found all = AllZip-mapped R f xs (map view found) all

pub take-all : {X : Type 0} (xs : List X) (k : ℕ) → length xs ≤ k → take k xs ≡ xs
take-all [] zero le = refl
take-all [] (suc k) le = refl
take-all (x ∷ xs) zero le = absurd (omega (arith, le))
take-all (x ∷ xs) (suc k) le = ap (λ ys. x ∷ ys) (take-all xs k (omega (arith, le)))

pub each-whole : {A B W X : Type 0} (view : A → B) (R : X → B → Type 0) (f : W → X) (xs : List W) (k : ℕ) (found : List A) → length xs ≤ k
    → AllZip (λ w y. R (f w) y) (take k xs) (map view found) → AllZip R (map f xs) (map view found)
each-whole {A} {B} {W} {X} view R f xs k found le all =
    let P : List W → Type 0 = λ ws. AllZip (λ w y. R (f w) y) ws (map view found) in
    each-mapped view R f xs found (subst P (take-all xs k le) all)

-- what a refused test takes away
pub check-refused : {A B : Type 0} (view : A → B) (Is : B → Type 0) (less : Type 0) (fault : SchemaFault) (result : Result A SchemaFault)
    → IsErr result → IsErrAnd result (λ found. found ≡ fault) → ((y : B) → Is y → less) → RefusalShows fault (less → ⊥)
    → Finds view Is result
check-refused view Is less fault (Ok u) is_err is so refused = cc
check-refused view Is less fault (Err found) is_err is so refused = λ other y holds. refused (λ e. other (is ∙ e)) (so y holds)

-- ---- ONEOF lists

abbrev lists_in : List Entity → List (List (List ℕ))
lists_in entities = digest_one_of_lists (map entity_view entities)

lists_in-append : (xs ys : List Entity) → lists_in (xs ++ ys) ≡ lists_in xs ++ lists_in ys
lists_in-append [] ys = refl
lists_in-append (x ∷ xs) ys = ap (λ zs. one_of_list (some_list x.constraint.one_of) ++ zs) (lists_in-append xs ys)
    ∙ sym (append_assoc (one_of_list (some_list x.constraint.one_of)) (lists_in xs) (lists_in ys))

pub lists_in-taken : (entities : List Entity) (k : ℕ) (x : Entity) → k < length entities → x ≡ get_or entities k x
    → digest_one_of_lists (map entity_view (take (k + 1) entities)) ≡ digest_one_of_lists (map entity_view (take k entities))
    ++ one_of_list (some_list x.constraint.one_of)
lists_in-taken entities k x below is = ap lists_in (split-at entities k x below is).0 ∙ lists_in-append (take k entities) (x ∷ [])
    ∙ ap (λ zs. lists_in (take k entities) ++ zs) (append-nil (one_of_list (some_list x.constraint.one_of)))

pub lists_in-split : (entities : List Entity) (k : ℕ) (x : Entity) → k < length entities → x ≡ get_or entities k x
    → digest_one_of_lists (map entity_view entities) ≡ digest_one_of_lists (map entity_view (take k entities))
    ++ (one_of_list (some_list x.constraint.one_of) ++ digest_one_of_lists (map entity_view (drop (k + 1) entities)))
lists_in-split entities k x below is = ap lists_in (split-at entities k x below is).1
    ∙ lists_in-append (take k entities) (x ∷ [] ++ drop (k + 1) entities)
