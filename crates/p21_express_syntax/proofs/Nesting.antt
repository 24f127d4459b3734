-- The aggregates of a type, one more at a time.
use Rattle.std.proofs.Common.{◌≡◌, ℕ, zero, suc, ◌-◌, ◌<◌, List, [], ◌∷◌, ◌++◌, length, length-append, Option, Some, None, refl, ap, sym, ◌∙◌, arith}
use Rattle.p21_express_lexemes.specs.Taking.{Items}
use Rattle.p21_express_syntax.specs.Digest.{TypeDigest}
use Rattle.p21_express_syntax.specs.DataTypes.{under, kind_of, aggregate_at, simple_of, element_of, type_of}
use Rattle.p21_express_syntax.specs.declared.types.Aggregate.{Aggregate}
use Rattle.p21_express_syntax.specs.declared.types.Kind.{Kind}
use Rattle.p21_express_syntax.specs.declared.types.SimpleType.{SimpleType}

abbrev pub within : List Aggregate → Option (TypeDigest × Items) → Option (TypeDigest × Items)
within [] inner = inner
within (first ∷ aggregates) inner = under first (within aggregates inner)

type_step : (n : ℕ) (items : Items) (k : Kind) (behind : Items) (first : Aggregate) (rest : Items) → kind_of items ≡ Some (k, behind) → aggregate_at k behind ≡ Some (first, rest) → type_of (suc n) items ≡ under first (type_of n rest)
unfolding type_of
type_step n items k behind first rest e f = rw e (rw f refl)

type_base : (n : ℕ) (items : Items) → kind_of items ≡ None → type_of n items ≡ element_of items
unfolding type_of
type_base zero items e = rw e refl
type_base (suc n) items e = rw e refl

type_wrong : (n : ℕ) (items : Items) (k : Kind) (behind : Items) → kind_of items ≡ Some (k, behind) → aggregate_at k behind ≡ None → type_of n items ≡ None
unfolding type_of
type_wrong zero items k behind e f = rw e refl
type_wrong (suc n) items k behind e f = rw e (rw f refl)

type_deep : (items : Items) (k : Kind) (behind : Items) → kind_of items ≡ Some (k, behind) → type_of 0 items ≡ None
unfolding type_of
type_deep items k behind e = rw e refl

within_push : (aggregates : List Aggregate) (last : Aggregate) (inner : Option (TypeDigest × Items)) → within (aggregates ++ last ∷ []) inner ≡ within aggregates (under last inner)
within_push [] last inner = refl
within_push (first ∷ aggregates) last inner = ap (under first) (within_push aggregates last inner)

within_none : (aggregates : List Aggregate) → within aggregates None ≡ None
within_none [] = refl
within_none (first ∷ aggregates) = ap (under first) (within_none aggregates)

within_some : (aggregates : List Aggregate) (element : SimpleType) (rest : Items) → within aggregates (Some (record { aggregates = []; element = element }, rest)) ≡ Some (record { aggregates = aggregates; element = element }, rest)
within_some [] element rest = refl
within_some (first ∷ aggregates) element rest = ap (under first) (within_some aggregates element rest)

pub more_layers : (start : Option (TypeDigest × Items)) (aggregates : List Aggregate) (items : Items) (k : Kind) (behind : Items) (last : Aggregate) (rest : Items) → start ≡ within aggregates (type_of (32 - length aggregates) items) → length aggregates < 32 → kind_of items ≡ Some (k, behind) → aggregate_at k behind ≡ Some (last, rest)
    → start ≡ within (aggregates ++ last ∷ []) (type_of (32 - length (aggregates ++ last ∷ [])) rest)
more_layers start aggregates items k behind last rest so_far room e f =
    let more = length-append aggregates (last ∷ []) in
    let left : 32 - length aggregates ≡ suc (32 - length (aggregates ++ last ∷ [])) = omega arith in
    so_far ∙ (ap (λ (n : ℕ). within aggregates (type_of n items)) left
    ∙ (ap (within aggregates) (type_step (32 - length (aggregates ++ last ∷ [])) items k behind last rest e f) ∙ sym (within_push aggregates last (type_of (32 - length (aggregates ++ last ∷ [])) rest))))

pub no_more : (start : Option (TypeDigest × Items)) (aggregates : List Aggregate) (items : Items) (k : Kind) (behind : Items) → start ≡ within aggregates (type_of (32 - length aggregates) items) → kind_of items ≡ Some (k, behind) → aggregate_at k behind ≡ None → start ≡ None
no_more start aggregates items k behind so_far e f = so_far ∙ (ap (within aggregates) (type_wrong (32 - length aggregates) items k behind e f) ∙ within_none aggregates)

pub too_deep : (start : Option (TypeDigest × Items)) (aggregates : List Aggregate) (items : Items) (k : Kind) (behind : Items) → start ≡ within aggregates (type_of (32 - length aggregates) items) → length aggregates ≡ 32 → kind_of items ≡ Some (k, behind) → start ≡ None
too_deep start aggregates items k behind so_far full e =
    let none : 32 - length aggregates ≡ 0 = omega arith in
    so_far ∙ (ap (λ (n : ℕ). within aggregates (type_of n items)) none ∙ (ap (within aggregates) (type_deep items k behind e) ∙ within_none aggregates))

base_none : (items : Items) → simple_of items ≡ None → element_of items ≡ None
base_none items b = rw b refl

base_some : (items : Items) (element : SimpleType) (rest : Items) → simple_of items ≡ Some (element, rest) → element_of items ≡ Some (record { aggregates = []; element = element }, rest)
base_some items element rest b = rw b refl

pub base_wrong : (start : Option (TypeDigest × Items)) (aggregates : List Aggregate) (items : Items) → start ≡ within aggregates (type_of (32 - length aggregates) items) → kind_of items ≡ None → simple_of items ≡ None → start ≡ None
base_wrong start aggregates items so_far e b = so_far ∙ (ap (within aggregates) (type_base (32 - length aggregates) items e ∙ base_none items b) ∙ within_none aggregates)

pub base_right : (start : Option (TypeDigest × Items)) (aggregates : List Aggregate) (items : Items) (element : SimpleType) (rest : Items) → start ≡ within aggregates (type_of (32 - length aggregates) items) → kind_of items ≡ None → simple_of items ≡ Some (element, rest)
    → start ≡ Some (record { aggregates = aggregates; element = element }, rest)
base_right start aggregates items element rest so_far e b = so_far ∙ (ap (within aggregates) (type_base (32 - length aggregates) items e ∙ base_some items element rest b) ∙ within_some aggregates element rest)
