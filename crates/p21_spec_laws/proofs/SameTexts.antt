-- Two values of one type are the same exactly if their canonical texts are equal, sets and bags without order at any depth.
use Rattle.std.specs.Prelude.{◌≡◌, ◌↔◌, refl}
use Rattle.std.proofs.Common.{ap, sym, ◌∙◌}
use Rattle.p21_spec_schema.specs.WellFormed.{HasDistinctTypes}
use Rattle.p21_spec_file.proofs.Sameness.{Same-symmetric}
use Rattle.p21_spec_file.proofs.Transitive.{Same-transitive}
use Rattle.p21_spec_laws.proofs.Existence.{has-canonical}
use Rattle.p21_spec_file.specs.CanonicalRecord.{IsCanonicalParam}
use Rattle.p21_spec_exchange.specs.CanonicalText.{param_text}
use Rattle.p21_spec_file.specs.Fits.{Fits, FitsAt, star, dollar, fits}
use Rattle.p21_spec_exchange.specs.Parameter.{Param}
use Rattle.p21_spec_schema.specs.PlaceType.{PlaceType}
use Rattle.p21_spec_file.specs.Reference.{EntitySets}
use Rattle.p21_spec_file.specs.SameValue.{Same, both_derived, both_missing}
use Rattle.p21_spec_schema.specs.Schema.{Schema, TypeUse}
use Rattle.p21_spec_file.specs.Value.{Value, missing}
use Rattle.p21_spec_laws.proofs.CanonicalValue.{canonical-text, canonical_at-text}
use Rattle.p21_spec_laws.proofs.LaidTexts.{one-text}
use Rattle.p21_spec_laws.specs.ValueLaws.{IsCanonicalFor}
use Rattle.p21_spec_laws.proofs.OfType.{fits-of, missing-of_none}
use Rattle.p21_spec_laws.proofs.SameFromTexts.{same-from_text, not-dollar}
use Rattle.p21_spec_laws.proofs.TextsFromSame.{text-from_same, same-missing}
use Rattle.p21_spec_file.specs.ValueText.{value_text}
use Rattle.p21_spec_laws.specs.Written.{IsWritten}

-- whatever the instances of the two files, and in whatever order the elements were written
pub same-exactly_texts : (s : Schema) → HasDistinctTypes s → (kinds others : EntitySets) (type : TypeUse) (p q : Param) (v w : Value) → Fits s kinds type p v → Fits s others type q w → IsWritten p → IsWritten q
    → Same v w ↔ (value_text s v ≡ value_text s w)
same-exactly_texts s distinct kinds others type p q v w fit fit_ written written_ =
    let of = fits-of s kinds type p v fit written in
    let of_ = fits-of s others type q w fit_ written_ in
    (λ same. text-from_same s distinct type v w of of_ same, λ same. same-from_text s distinct type v w of of_ same)

-- and so at a place, which may be derived or empty
pub same-exactly_texts_at : (s : Schema) → HasDistinctTypes s → (kinds others : EntitySets) (at : PlaceType) (p q : Param) (v w : Value) → FitsAt s kinds at p v → FitsAt s others at q w → IsWritten p → IsWritten q
    → Same v w ↔ (value_text s v ≡ value_text s w)
same-exactly_texts_at s distinct kinds others at p q v w star star written written_ = (λ _. refl, λ _. both_derived)
same-exactly_texts_at s distinct kinds others at p q v w (dollar _) (dollar _) written written_ = (λ _. refl, λ _. both_missing)
same-exactly_texts_at s distinct kinds others at p q v w (dollar _) (fits _ type _ _ fit_) written written_ =
    let of_ = fits-of s others type q w fit_ written_ in
    (λ same. absurd (missing-of_none s type w of_ (same-missing w (Same-symmetric missing w same))), λ same. absurd (not-dollar s type w of_ (sym same)))
same-exactly_texts_at s distinct kinds others at p q v w (fits _ type _ _ fit) (dollar _) written written_ =
    let of = fits-of s kinds type p v fit written in
    (λ same. absurd (missing-of_none s type v of (same-missing v same)), λ same. absurd (not-dollar s type v of same))
same-exactly_texts_at s distinct kinds others at p q v w (fits _ type _ _ fit) (fits _ _ _ _ fit_) written written_ = same-exactly_texts s distinct kinds others type p q v w fit fit_ written written_

-- canonical parameters of values that are the same are equal, and those of others are not
pub one-canonical : (s : Schema) → HasDistinctTypes s → (kinds others : EntitySets) (type : TypeUse) (p q : Param) (v w : Value) → Fits s kinds type p v → Fits s others type q w → IsWritten p → IsWritten q
    → IsCanonicalParam p v → IsCanonicalParam q w → Same v w ↔ (p ≡ q)
one-canonical s distinct kinds others type p q v w fit fit_ written written_ canonical canonical_ =
    let law = same-exactly_texts s distinct kinds others type p q v w fit fit_ written written_ in
    let first = canonical-text s kinds type p v fit canonical in
    let second = canonical-text s others type q w fit_ canonical_ in
    (λ same. one-text p q written written_ (first ∙ law.0 same ∙ sym second), λ same. law.1 (sym first ∙ ap param_text same ∙ second))

-- two canonical parameters of values that are the same at one place
pub canonical-once : (s : Schema) → HasDistinctTypes s → (kinds : EntitySets) (at : PlaceType) (v : Value) (p q : Param) → IsCanonicalFor s kinds at v p → IsCanonicalFor s kinds at v q → q ≡ p
canonical-once s distinct kinds at v p q first second =
    let same : Same second.value first.value = Same-transitive v second.value first.value (Same-symmetric v second.value second.same) first.same in
    one-text q p second.written first.written
    (canonical_at-text s kinds at q second.value second.fit second.canonical
    ∙ (same-exactly_texts_at s distinct kinds kinds at q p second.value first.value second.fit first.fit second.written first.written).0 same
    ∙ sym (canonical_at-text s kinds at p first.value first.fit first.canonical))

-- and one that there is
pub canonical-there : (s : Schema) (kinds : EntitySets) (at : PlaceType) (v : Value) (p : Param) → FitsAt s kinds at p v → IsWritten p → (q : Param) × IsCanonicalFor s kinds at v q
canonical-there s kinds at v p star written = (p, record { value = v; fit = star; written = written; canonical = tt; same = both_derived })
canonical-there s kinds at v p (dollar type) written = (p, record { value = v; fit = dollar type; written = written; canonical = tt; same = both_missing })
canonical-there s kinds at v p (fits optional type _ _ fit) written =
    let has = has-canonical s kinds type p v fit in
    (has.param, record { value = has.value; fit = fits optional type has.param has.value has.fit; written = has.written written; canonical = has.canonical; same = has.same })
