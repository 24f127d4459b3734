-- The attributes at which the values of two instances differ, told one by one.
use Rattle.std.specs.Prelude.{◌≡◌, ◌≢◌, ◌↔◌, ◌⊎◌, ℕ, List, [], ◌∷◌, ◌++◌, Some, None, Contains, refl}
use Rattle.std.specs.List.{zip}
use Rattle.std.proofs.Common.{ap, sym, subst, ◌∙◌, inl, inr}
use Rattle.p21_difference_rows.proofs.Adding.{more-added, none-added, weaker-added}
use Rattle.p21_difference_rows.specs.Steps.{AddsRows, Stays, TellsIfStays, TellsValues}
use Rattle.p21_difference_rows.specs.declared.row.RowForm.{RowForm}
use Rattle.p21_differences.specs.OtherValues.{AreParamsAt, HandsOutOther, HaveOnePlaces, HaveOtherAt, TellsBoth, TellsDifferences}
use Rattle.p21_differences.specs.declared.values.OtherValue.{OtherValue}
use Rattle.p21_differences.specs.declared.values.OtherValues.{OtherValues}
use Rattle.p21_express_graph.specs.Meaning.{place as place_of}
use Rattle.p21_model.specs.Rows.{Row}
use Rattle.p21_model_values.specs.Written.{IsTextOf}
use Rattle.p21_spec_basics.proofs.Members.{Contains-none, Contains-first, Contains-later, Contains-cases}
use Rattle.p21_spec_differences.specs.Difference.{Difference, HasOtherValue, value_changed}
use Rattle.p21_spec_differences.specs.LeftOut.{LeftOut}
use Rattle.p21_spec_differences.specs.Near.{IsOneParamAt}
use Rattle.p21_spec_exchange.specs.CanonicalText.{param_text}
use Rattle.p21_spec_exchange.specs.Parameter.{Param}
use Rattle.p21_spec_exchange.specs.Record.{Record}
use Rattle.p21_spec_file.specs.CanonicalTexts.{IsInstanceText}
use Rattle.p21_spec_file.specs.Meaning.{Typed}
use Rattle.p21_spec_schema.specs.Schema.{Place, Schema}

-- ---- members of lists joined

pub member-front : {X : Type 0} (xs ys : List X) (y : X) → Contains xs y → Contains (xs ++ ys) y
member-front [] ys y among = absurd (Contains-none y among)
member-front (x ∷ xs) ys y among = elim (Contains-cases x xs y among) [
  | inl is ↦ subst (Contains (x ∷ (xs ++ ys))) is (Contains-first x (xs ++ ys))
  | inr later ↦ Contains-later x (xs ++ ys) y (member-front xs ys y later)
]

pub member-back : {X : Type 0} (xs ys : List X) (y : X) → Contains ys y → Contains (xs ++ ys) y
member-back [] ys y among = among
member-back (x ∷ xs) ys y among = Contains-later x (xs ++ ys) y (member-back xs ys y among)

pub member-of : {X : Type 0} (xs ys : List X) (y : X) → Contains (xs ++ ys) y → Contains xs y ⊎ Contains ys y
member-of [] ys y among = inr among
member-of (x ∷ xs) ys y among = elim (Contains-cases x (xs ++ ys) y among) [
  | inl is ↦ inl (subst (Contains (x ∷ xs)) is (Contains-first x xs))
  | inr later ↦ elim (member-of xs ys y later) [
    | inl front ↦ inl (Contains-later x xs y front)
    | inr back ↦ inr back
  ]
]

pub member-alone : {X : Type 0} (x y : X) → Contains (x ∷ []) y → x ≡ y
member-alone x y among = elim (Contains-cases x [] y among) [
  | inl is ↦ is
  | inr none ↦ absurd (Contains-none y none)
]

-- ---- rows beside each other

module _ (row other : Row) (rows others : List Row) where
  -- behind rows of equal texts
  other-later : (place : Place) → param_text row.1 ≡ param_text other.1 → HaveOtherAt (row ∷ rows) (other ∷ others) place
      → HaveOtherAt rows others place
  other-later place same (p, q, among, differ) = elim (Contains-cases (row, other) (zip rows others) ((place, p), (place, q)) among) [
    | inl is ↦
        let first : row.1 ≡ p = ap (λ (i : Row × Row). i.0.1) is in
        let second : other.1 ≡ q = ap (λ (i : Row × Row). i.1.1) is in
        absurd (differ (sym (ap param_text first) ∙ same ∙ ap param_text second))
    | inr later ↦ (p, q, later, differ)
  ]

  other-before : (place : Place) → HaveOtherAt rows others place → HaveOtherAt (row ∷ rows) (other ∷ others) place
  other-before place (p, q, among, differ) = (p, q, Contains-later (row, other) (zip rows others) ((place, p), (place, q)) among, differ)

  -- the first rows
  other-first : row.0 ≡ other.0 → param_text row.1 ≢ param_text other.1 → HaveOtherAt (row ∷ rows) (other ∷ others) row.0
  other-first beside differ =
      let P : Place → Type 0 = λ place. Contains ((row, other) ∷ zip rows others) ((row.0, row.1), (place, other.1)) in
      (row.1, other.1, subst P (sym beside) (Contains-first (row, other) (zip rows others)), differ)

  other-cases : (place : Place) → HaveOtherAt (row ∷ rows) (other ∷ others) place → (row.0 ≡ place) ⊎ HaveOtherAt rows others place
  other-cases place (p, q, among, differ) = elim (Contains-cases (row, other) (zip rows others) ((place, p), (place, q)) among) [
    | inl is ↦ inl (ap (λ (i : Row × Row). i.0.0) is)
    | inr later ↦ inr (p, q, later, differ)
  ]

none-other : (rows others : List Row) (new : OtherValues) → HandsOutOther rows others None new → (place : Place)
    → HaveOtherAt rows others place → ⊥
none-other [] others new handed place (p, q, among, differ) = Contains-none ((place, p), (place, q)) among
none-other (row ∷ rows) [] new handed place (p, q, among, differ) = Contains-none ((place, p), (place, q)) among
none-other (row ∷ rows) (other ∷ others) new (inl handed) place have =
    none-other rows others new handed.1 place (other-later row other rows others place handed.0 have)
none-other (row ∷ rows) (other ∷ others) new (inr handed) place have = absurd handed.1

-- ---- the next of them

-- the parameters beside each other whose texts were handed out
record IsFoundAt (rows others : List Row) (found : OtherValue) : Type 0 where
  p : Param
  q : Param
  among : Contains (zip rows others) ((place_of found.place, p), (place_of found.place, q))
  text : IsTextOf found.before.text.now p
  text_ : IsTextOf found.after.text.now q

-- those that stand at the first place
found-first : (row other : Row) (rows others : List Row) (found : OtherValue) → row.0 ≡ other.0 → place_of found.place ≡ row.0
    → IsTextOf found.before.text.now row.1 → IsTextOf found.after.text.now other.1 → IsFoundAt (row ∷ rows) (other ∷ others) found
found-first row other rows others found beside place_is text text_ =
    let P : Place → Type 0 = λ place. Contains ((row, other) ∷ zip rows others) ((row.0, row.1), (place, other.1)) in
    let Q : Place → Type 0 = λ place. Contains ((row, other) ∷ zip rows others) ((place, row.1), (place, other.1)) in
    record {
      p = row.1;
      q = other.1;
      among = subst Q (sym place_is) (subst P (sym beside) (Contains-first (row, other) (zip rows others)));
      text = text;
      text_ = text_;
    }

found-later : (row other : Row) (rows others : List Row) (found : OtherValue) → IsFoundAt rows others found
    → IsFoundAt (row ∷ rows) (other ∷ others) found
found-later row other rows others found at = record {
  p = at.p;
  q = at.q;
  among = Contains-later (row, other) (zip rows others) ((place_of found.place, at.p), (place_of found.place, at.q)) at.among;
  text = at.text;
  text_ = at.text_;
}

record IsStep (rows others : List Row) (found : OtherValue) (new : OtherValues) : Type 0 where
  left : List Row
  left_ : List Row
  tells : TellsBoth new left left_
  beside : HaveOnePlaces left left_
  at : IsFoundAt rows others found
  later : (place : Place) (p q : Param) → Contains (zip left left_) ((place, p), (place, q))
      → Contains (zip rows others) ((place, p), (place, q))
  told : (place : Place) → ((place_of found.place ≡ place) ⊎ HaveOtherAt left left_ place) ↔ HaveOtherAt rows others place

places-later : (row other : Row) (rows others : List Row) → HaveOnePlaces (row ∷ rows) (other ∷ others)
    → (row.0 ≡ other.0) × HaveOnePlaces rows others
places-later row other rows others beside = (cc, cc)

step-made : (rows others : List Row) (found : OtherValue) (new : OtherValues) → HaveOnePlaces rows others
    → HandsOutOther rows others (Some found) new → IsStep rows others found new
step-made [] others found new beside handed = absurd handed
step-made (row ∷ rows) [] found new beside handed = absurd handed
step-made (row ∷ rows) (other ∷ others) found new beside (inl handed) =
    let more = step-made rows others found new (places-later row other rows others beside).1 handed.1 in
    record {
      left = more.left;
      left_ = more.left_;
      tells = more.tells;
      beside = more.beside;
      at = found-later row other rows others found more.at;
      later = λ place p q among. Contains-later (row, other) (zip rows others) ((place, p), (place, q)) (more.later place p q among);
      told = λ place. (
        λ is. other-before row other rows others place ((more.told place).0 is),
        λ have. (more.told place).1 (other-later row other rows others place handed.0 have),
      );
    }
step-made (row ∷ rows) (other ∷ others) found new beside (inr (differ, (place_is, before, after), tells)) =
    let (first, later) = places-later row other rows others beside in
    record {
      left = rows;
      left_ = others;
      tells = tells;
      beside = later;
      at = found-first row other rows others found first place_is before after;
      later = λ place p q among. Contains-later (row, other) (zip rows others) ((place, p), (place, q)) among;
      told = λ place. (there place, back place);
    }
  where
    there : (place : Place) → (place_of found.place ≡ place) ⊎ HaveOtherAt rows others place
        → HaveOtherAt (row ∷ rows) (other ∷ others) place
    there place (inl is) = subst (HaveOtherAt (row ∷ rows) (other ∷ others)) (sym place_is ∙ is)
        (other-first row other rows others (places-later row other rows others beside).0 differ)
    there place (inr have) = other-before row other rows others place have

    back : (place : Place) → HaveOtherAt (row ∷ rows) (other ∷ others) place
        → (place_of found.place ≡ place) ⊎ HaveOtherAt rows others place
    back place have = elim (other-cases row other rows others place have) [
      | inl is ↦ inl (place_is ∙ is)
      | inr more ↦ inr more
    ]

-- ---- so far

-- the difference is of the name, at a place where texts differ, of an attribute that stays in these instances
abbrev pub IsStayingOf : Schema → LeftOut → Typed → Typed → ℕ → List Row → List Row → Difference → Type 0
IsStayingOf s left x y name rows others d =
    (place : Place) × (d ≡ value_changed name place) × HaveOtherAt rows others place × Stays s left x y place

-- these attributes are left, and the others are told
abbrev pub AreTold : Schema → LeftOut → Typed → Typed → ℕ → List Row → List Row → List Row → List Row → List Difference → Type 0
AreTold s left x y name rows others more more_ list = (d : Difference)
    → (Contains list d ⊎ IsStayingOf s left x y name more more_ d) ↔ IsStayingOf s left x y name rows others d

pub record IsHalfway (form : RowForm) (s : Schema) (real : ℕ → ℕ) (left : LeftOut) (name : ℕ) (x y : Typed) (values : OtherValues)
    (old new : List ℕ) : Type 0 where
  pub rows : List Row
  pub others : List Row
  pub differ : (place : Place) → HaveOtherAt rows others place ↔ HasOtherValue x y place
  pub more : List Row
  pub more_ : List Row
  pub tells : TellsBoth values more more_
  pub beside : HaveOnePlaces more more_
  pub params : AreParamsAt s x y more more_
  pub adds : AddsRows form s real left (AreTold s left x y name rows others more more_) old new

module _ (form : RowForm) (s : Schema) (real : ℕ → ℕ) (left : LeftOut) (name : ℕ) (x y : Typed) where
  pub values-more : (values values_ : OtherValues) (found : OtherValue) (old text new : List ℕ)
      → IsHalfway form s real left name x y values old text
      → ((more more_ : List Row) → TellsBoth values more more_ → HandsOutOther more more_ (Some found) values_)
      → ((p q : Param) → IsTextOf found.before.text.now p → IsTextOf found.after.text.now q → IsOneParamAt s x (place_of found.place) p
      → IsOneParamAt s y (place_of found.place) q
      → AddsRows form s real left (TellsIfStays s left x y name (place_of found.place)) text new)
      → IsHalfway form s real left name x y values_ old new
  values-more values values_ found old text new h hands adds =
      let step = step-made h.more h.more_ found values_ h.beside (hands h.more h.more_ h.tells) in
      let (one, one_) = h.params p step.at.p step.at.q step.at.among in
      record {
        rows = h.rows;
        others = h.others;
        differ = h.differ;
        more = step.left;
        more_ = step.left_;
        tells = step.tells;
        beside = step.beside;
        params = λ place q r among. h.params place q r (step.later place q r among);
        adds = more-added form s real left (AreTold s left x y name h.rows h.others h.more h.more_)
            (TellsIfStays s left x y name (place_of found.place))
            (AreTold s left x y name h.rows h.others step.left step.left_) old text new
            (λ list others told told_ d. (there step list others told told_ d, back step list others told told_ d))
            h.adds (adds step.at.p step.at.q step.at.text step.at.text_ one one_);
      }
    where
      p : Place
      p = place_of found.place

      there : (step : IsStep h.more h.more_ found values_) (list others : List Difference)
          → AreTold s left x y name h.rows h.others h.more h.more_ list → TellsIfStays s left x y name p others
          → (d : Difference)
          → Contains (list ++ others) d ⊎ IsStayingOf s left x y name step.left step.left_ d
          → IsStayingOf s left x y name h.rows h.others d
      there step list others told told_ d (inl among) = elim (member-of list others d among) [
        | inl front ↦ (told d).0 (inl front)
        | inr behind ↦ let (same, stays) = (told_ d).0 behind in (told d).0 (inr (p, same, (step.told p).0 (inl refl), stays))
      ]
      there step list others told told_ d (inr (place, same, have, stays)) =
          (told d).0 (inr (place, same, (step.told place).0 (inr have), stays))

      back : (step : IsStep h.more h.more_ found values_) (list others : List Difference)
          → AreTold s left x y name h.rows h.others h.more h.more_ list → TellsIfStays s left x y name p others
          → (d : Difference)
          → IsStayingOf s left x y name h.rows h.others d
          → Contains (list ++ others) d ⊎ IsStayingOf s left x y name step.left step.left_ d
      back step list others told told_ d is = elim ((told d).1 is) [
        | inl front ↦ inl (member-front list others d front)
        | inr (place, same, have, stays) ↦ elim ((step.told place).1 have) [
          | inl at ↦ inl (member-back list others d
              ((told_ d).1 (same ∙ ap (value_changed name) (sym at), subst (Stays s left x y) (sym at) stays)))
          | inr later ↦ inr (place, same, later, stays)
        ]
      ]

  pub values-ended : (values values_ : OtherValues) (old new : List ℕ) → IsHalfway form s real left name x y values old new
      → ((more more_ : List Row) → TellsBoth values more more_ → HandsOutOther more more_ None values_)
      → AddsRows form s real left (TellsValues s left x y name) old new
  values-ended values values_ old new h hands =
      weaker-added form s real left (AreTold s left x y name h.rows h.others h.more h.more_) (TellsValues s left x y name) old new
      (λ list told d. (there list told d, back list told d)) h.adds
    where
      there : (list : List Difference) → AreTold s left x y name h.rows h.others h.more h.more_ list → (d : Difference)
          → Contains list d
          → (place : Place) × (d ≡ value_changed name place) × HasOtherValue x y place × Stays s left x y place
      there list told d among =
          let (place, is, have, stays) = (told d).0 (inl among) in (place, is, (h.differ place).0 have, stays)

      back : (list : List Difference) → AreTold s left x y name h.rows h.others h.more h.more_ list → (d : Difference)
          → (place : Place) × (d ≡ value_changed name place) × HasOtherValue x y place × Stays s left x y place
          → Contains list d
      back list told d (place, is, other, stays) = elim ((told d).1 (place, is, (h.differ place).1 other, stays)) [
        | inl among ↦ among
        | inr (at, same, have, stays_) ↦ absurd (none-other h.more h.more_ values_ (hands h.more h.more_ h.tells) at have)
      ]

pub values-begun : (form : RowForm) (s : Schema) (real : ℕ → ℕ) (left : LeftOut) (name m : ℕ) (r q : Record) (line text : List ℕ)
    (first : IsInstanceText s name r line) (second : IsInstanceText s m q text) (values : OtherValues) (old : List ℕ)
    → TellsDifferences first second values
    → IsHalfway form s real left name first.canonical_meaning second.canonical_meaning values old old
values-begun form s real left name m r q line text first second values old tells = record {
  rows = tells.rows;
  others = tells.others;
  differ = tells.differ;
  more = tells.rows;
  more_ = tells.others;
  tells = tells.tells;
  beside = tells.beside;
  params = tells.params;
  adds = none-added form s real left (AreTold s left first.canonical_meaning second.canonical_meaning name tells.rows tells.others tells.rows tells.others)
      old (λ d. (there d, λ is. inr is));
}
  where
    there : (d : Difference)
        → Contains [] d ⊎ IsStayingOf s left first.canonical_meaning second.canonical_meaning name tells.rows tells.others d
        → IsStayingOf s left first.canonical_meaning second.canonical_meaning name tells.rows tells.others d
    there d (inl none) = absurd (Contains-none d none)
    there d (inr is) = is
