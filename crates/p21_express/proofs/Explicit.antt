-- Explicit redeclarations, one by one.
use Rattle.std.specs.Prelude.{◌≡◌, ℕ, ◌+◌, ◌<◌, Bool, List, [], ◌∷◌, ◌++◌, length, map, take, drop, refl}
use Rattle.std.specs.List.{AllZip}
use Rattle.std.proofs.Common.{arith, ap, sym, ◌∙◌, get_or, append_assoc}
use Rattle.std.proofs.lemmas.List.{append-nil, map-append}
use Rattle.p21_spec_schema.specs.Schema as pure
use Rattle.p21_spec_schema.specs.Schema.{Schema, TypeUse}
use Rattle.p21_express_outline.proofs.Adding.{drop-at}
use Rattle.p21_express_outline.proofs.Finding.{split-at}
use Rattle.p21_express.specs.Explicit.{redeclared_by}
use Rattle.p21_express_outline.specs.Outline.{Named, DigestTypeIs, digest_redeclared_explicit, digest_redeclared_names}
use Rattle.p21_express_outline.specs.Redeclarations.{DigestRedeclaredIs}
use Rattle.p21_express_syntax.specs.Digest.{TypeDigest, AttributesDigest}
use Rattle.p21_express_syntax.specs.Views.{attributes_view}
use Rattle.p21_express_syntax.specs.declared.attributes.AttributeName.{AttributeName}
use Rattle.p21_express_syntax.specs.declared.attributes.AttributeName.TheVariants.{Own, Redeclared}
use Rattle.p21_express_syntax.specs.declared.attributes.ExplicitAttributes.{ExplicitAttributes}

pub names-append : (xs ys : List AttributeName) → digest_redeclared_names (xs ++ ys) ≡ digest_redeclared_names xs
    ++ digest_redeclared_names ys
names-append [] ys = refl
names-append (Own name ∷ xs) ys = names-append xs ys
names-append (Redeclared entity name ∷ xs) ys = ap (λ ns. (entity, name) ∷ ns) (names-append xs ys)

by-append : (x : AttributesDigest) (xs ys : List AttributeName) → redeclared_by x (xs ++ ys) ≡ redeclared_by x xs ++ redeclared_by x ys
by-append x xs ys = ap (map (λ name. (name, x.optional, x.type))) (names-append xs ys)
    ∙ map-append (λ name. (name, x.optional, x.type)) (digest_redeclared_names xs) (digest_redeclared_names ys)

pub by-taken : (x : AttributesDigest) (names : List AttributeName) (k : ℕ) (name : AttributeName) → k < length names
    → name ≡ get_or names k name → redeclared_by x (take (k + 1) names) ≡ redeclared_by x (take k names) ++ redeclared_by x (name ∷ [])
by-taken x names k name below is = ap (redeclared_by x) (split-at names k name below is).0 ∙ by-append x (take k names) (name ∷ [])

pub by-split : (x : AttributesDigest) (names : List AttributeName) (k : ℕ) (name : AttributeName) → k < length names
    → name ≡ get_or names k name
    → redeclared_by x names ≡ redeclared_by x (take k names) ++ (redeclared_by x (name ∷ []) ++ redeclared_by x (drop (k + 1) names))
by-split x names k name below is =
    ap (redeclared_by x) (split-at names k name below is).1 ∙ by-append x (take k names) (name ∷ [] ++ drop (k + 1) names)
    ∙ ap (λ zs. redeclared_by x (take k names) ++ zs) (by-append x (name ∷ []) (drop (k + 1) names))

-- the redeclared ones among the names that are left, by the first of these
pub redeclared-at : (xs : List AttributeName) (k : ℕ) (x : AttributeName) → k < length xs → x ≡ get_or xs k x
    → digest_redeclared_names (drop k xs) ≡ digest_redeclared_names (x ∷ []) ++ digest_redeclared_names (drop (k + 1) xs)
redeclared-at xs k x below is = ap digest_redeclared_names (drop-at xs k x below is) ∙ names-append (x ∷ []) (drop (k + 1) xs)

-- there are none of a type that is none, if there are any
pub by-none : (s : Schema) (n : Named) (e : ℕ) (kept : TypeDigest) (optional : Bool) (names : List (List ℕ × List ℕ)) → 0 < length names
    → ((type : TypeUse) → DigestTypeIs n kept type → ⊥)
    → (ys : List pure.Redeclared) → AllZip (DigestRedeclaredIs s n e) (map (λ name. (name, optional, kept)) names) ys → ⊥
by-none s n e kept optional [] some none ys all = omega (arith, some)
by-none s n e kept optional (name ∷ names) some none [] all = all
by-none s n e kept optional (name ∷ names) some none (y ∷ ys) all = none y.type all.0.2

pub by-empty : (s : Schema) (n : Named) (e : ℕ) (kept : TypeDigest) (optional : Bool) (names : List (List ℕ × List ℕ))
    → (0 < length names → ⊥) → AllZip (DigestRedeclaredIs s n e) (map (λ name. (name, optional, kept)) names) []
by-empty s n e kept optional [] none = tt
by-empty s n e kept optional (name ∷ names) none = absurd (none (omega arith))

abbrev redeclared_in : List ExplicitAttributes → List ((List ℕ × List ℕ) × Bool × TypeDigest)
redeclared_in explicit = digest_redeclared_explicit (map attributes_view explicit)

in-append : (xs ys : List ExplicitAttributes) → redeclared_in (xs ++ ys) ≡ redeclared_in xs ++ redeclared_in ys
in-append [] ys = refl
in-append (x ∷ xs) ys =
    ap (λ zs. redeclared_by (attributes_view x) x.names.items ++ zs) (in-append xs ys)
    ∙ sym (append_assoc (redeclared_by (attributes_view x) x.names.items) (redeclared_in xs) (redeclared_in ys))

pub in-taken : (explicit : List ExplicitAttributes) (k : ℕ) (x : ExplicitAttributes) → k < length explicit → x ≡ get_or explicit k x
    → digest_redeclared_explicit (map attributes_view (take (k + 1) explicit)) ≡ digest_redeclared_explicit
    (map attributes_view (take k explicit)) ++ redeclared_by (attributes_view x) x.names.items
in-taken explicit k x below is =
    ap redeclared_in (split-at explicit k x below is).0 ∙ in-append (take k explicit) (x ∷ [])
    ∙ ap (λ zs. redeclared_in (take k explicit) ++ zs) (append-nil (redeclared_by (attributes_view x) x.names.items))

pub in-split : (explicit : List ExplicitAttributes) (k : ℕ) (x : ExplicitAttributes) → k < length explicit → x ≡ get_or explicit k x
    → digest_redeclared_explicit (map attributes_view explicit) ≡ digest_redeclared_explicit (map attributes_view (take k explicit))
    ++ (redeclared_by (attributes_view x) x.names.items ++ digest_redeclared_explicit (map attributes_view (drop (k + 1) explicit)))
in-split explicit k x below is = ap redeclared_in (split-at explicit k x below is).1
    ∙ in-append (take k explicit) (x ∷ [] ++ drop (k + 1) explicit)
