-- The rows about a name, and the whole list.
use Rattle.std.specs.Prelude.{◌≡◌, ◌↔◌, ◌+◌, ℕ, Bool, true, IsTrue, List, [], ◌∷◌, ◌++◌, Option, Contains, length, refl}
use Rattle.std.proofs.Common.{arith, ap, sym, subst, ◌∙◌}
use Rattle.std.proofs.lemmas.List.{append_assoc, length-append}
use Rattle.p21_difference_rows.proofs.Adding.{more-added, weaker-added}
use Rattle.p21_difference_rows.proofs.Beside.{member-alone}
use Rattle.p21_difference_rows.proofs.Walk.{IsMeant, came-told, set-told, sets-are, values-meant, values-told, went-told}
use Rattle.p21_difference_rows.specs.Fronts.{end_front, front, same_line}
use Rattle.p21_difference_rows.specs.Listed.{IsFirstLine, IsListOfOthers, IsListOfSame, Row, TellsInstances, row_line, rows_text}
use Rattle.p21_difference_rows.specs.Steps.{AddsFirst, AddsRest, AddsRows, Stays, TellsAlone, TellsIfStays, TellsNone, TellsOf, TellsValues}
use Rattle.p21_difference_rows.specs.declared.row.RowForm.{RowForm}
use Rattle.p21_differences.proofs.Naming.{sets-tell}
use Rattle.p21_differences.specs.Changes.{changed_name}
use Rattle.p21_differences.specs.declared.change.Change.{Change}
use Rattle.p21_spec_basics.proofs.Members.{Contains-first, Contains-none}
use Rattle.p21_spec_differences.specs.Difference.{AreMeant, Difference, Differs, instance_came, instance_went, set_changed, value_changed}
use Rattle.p21_spec_differences.specs.LeftOut.{IsIgnored, LeftOut, leaves_out}
use Rattle.p21_spec_differences.specs.Near.{AreNearBy, IsNearAt, IsOneParamAt}
use Rattle.p21_spec_exchange.specs.Number.{Ratio}
use Rattle.p21_spec_exchange.specs.Parameter.{Param}
use Rattle.p21_spec_file.specs.File.{FileMeaning}
use Rattle.p21_spec_file.specs.Meaning.{Typed}
use Rattle.p21_spec_schema.specs.Schema.{Place, Schema}

-- ---- an attribute

-- the canonical parameters at the place tell whether the values are near
pub near-one : (s : Schema) (tolerance : Option Ratio) (x y : Typed) (place : Place) (p q : Param) → IsOneParamAt s x place p
    → IsOneParamAt s y place q → IsNearAt s tolerance x y place → AreNearBy tolerance p q
near-one s tolerance x y place p q one one_ (u, w, is, is_, near) =
    let P : Param → Type 0 = λ z. AreNearBy tolerance z q in
    let Q : Param → Type 0 = λ z. AreNearBy tolerance u z in
    subst P (one.one u is) (subst Q (one_.one w is_) near)

module _ (s : Schema) (left : LeftOut) (x y : Typed) (name : ℕ) (place : Place) where
  pub ignored-untold : IsIgnored s left.attributes x.entities place → TellsIfStays s left x y name place []
  ignored-untold ignored d = (λ among. absurd (Contains-none d among), λ (same, stays). absurd (stays.0 ignored))

  pub near-untold : IsNearAt s left.tolerance x y place → TellsIfStays s left x y name place []
  near-untold near d = (λ among. absurd (Contains-none d among), λ (same, stays). absurd (stays.1 near))

  pub staying-told : Stays s left x y place → (list : List Difference) → TellsAlone (value_changed name place ∷ []) list
      → TellsIfStays s left x y name place list
  staying-told stays list is d =
      let v = value_changed name place in
      let Among : List Difference → Type 0 = λ ds. Contains ds d in (
        λ among. (sym (member-alone v d (subst Among is among)), stays),
        λ (same, stays_). subst Among (sym is) (subst (Contains (v ∷ [])) (sym same) (Contains-first v [])),
      )

-- ---- a name

-- the rows that are put behind a text tell what differs about the name of the change
abbrev pub AddsName : RowForm → Schema → (ℕ → ℕ) → LeftOut → FileMeaning → FileMeaning → List ℕ → List ℕ → Change → Type 0
AddsName form s real left a b old new found = AddsRows form s real left (TellsOf (λ (n : ℕ). n ≡ changed_name found) s left a b) old new

module _ (form : RowForm) (s : Schema) (real : ℕ → ℕ) (left : LeftOut) (a b : FileMeaning) (name : ℕ) (old new : List ℕ) where
  abbrev IsTold : List Difference → Type 0
  IsTold list = TellsOf (λ (n : ℕ). n ≡ name) s left a b list

  abbrev AddsAlone : Difference → Type 0
  AddsAlone d = AddsRows form s real left (TellsAlone (d ∷ [])) old new

  alone-listed : (d : Difference) → IsTold (d ∷ []) → AddsAlone d → AddsRows form s real left IsTold old new
  alone-listed d told adds = weaker-added form s real left (TellsAlone (d ∷ [])) IsTold old new (λ list is. subst IsTold (sym is) told) adds

  pub came-listed : Differs a b (instance_came name) → AddsAlone (instance_came name) → AddsRows form s real left IsTold old new
  came-listed differs adds = alone-listed (instance_came name) (came-told s left a b name differs.0 differs.1) adds

  pub went-listed : Differs a b (instance_went name) → AddsAlone (instance_went name) → AddsRows form s real left IsTold old new
  went-listed differs adds = alone-listed (instance_went name) (went-told s left a b name differs.0 differs.1) adds

  module _ (line text : List ℕ) (first : IsMeant s a name line) (second : IsMeant s b name text) where
    pub set-listed : Differs a b (set_changed name) → AddsAlone (set_changed name) → AddsRows form s real left IsTold old new
    set-listed (x, y, at, differ) adds =
        alone-listed (set_changed name) (set-told s left a b name line text first second
        (λ same. differ ((sets-are s left a b name line text first second name x y refl at).1 same))) adds

    -- the canonical records of both lines have one set
    pub one-set : (x y : Typed) → AreMeant a b name x y → x.entities ≡ y.entities
        → first.is_line.stated.canonical_meaning.entities ≡ second.is_line.stated.canonical_meaning.entities
    one-set x y at set = (sets-tell s name name line text first.x second.x first.is_line second.is_line).0
        ((sets-are s left a b name line text first second name x y refl at).0 set)

    -- the attributes are told at which the values of both lines differ
    abbrev TellsOther : List Difference → Type 0
    TellsOther list = TellsValues s left first.is_line.stated.canonical_meaning second.is_line.stated.canonical_meaning name list

    pub values-listed : (x y : Typed) → AreMeant a b name x y → x.entities ≡ y.entities
        → AddsRows form s real left TellsOther old new → AddsRows form s real left IsTold old new
    values-listed x y at set adds =
        let same = (sets-are s left a b name line text first second name x y refl at).0 set in
        weaker-added form s real left TellsOther IsTold old new
        (λ list told. values-told s left a b name line text first second same list
        (values-meant s left name line text first.x second.x first.is_line second.is_line list told)) adds

-- ---- the list

module _ (form : RowForm) (s : Schema) (real : ℕ → ℕ) where
  -- a row has a byte at least
  rows-none : (rows : List Row) → length (rows_text form s real rows) ≡ 0 → rows ≡ []
  rows-none [] is = refl
  rows-none (row ∷ rows) is =
      let own = length-append (front form s real row.subject) (row.rest ++ (10 ∷ [])) in
      let rest = length-append row.rest (10 ∷ []) in
      let all = length-append (row_line form s real row) (rows_text form s real rows) in
      absurd (omega (arith, own, rest, all, is))

  -- behind a text there are no rows if nothing was put there
  rows-if_none : (rows : List Row) (old new : List ℕ) → new ≡ old ++ rows_text form s real rows
      → (length new ≡ length old) ↔ (rows ≡ [])
  rows-if_none rows old new is =
      let all = ap (λ (t : List ℕ). length t) is ∙ length-append old (rows_text form s real rows) in (
        λ same. rows-none rows (omega (arith, all, same)),
        λ none.
            let P : List Row → Type 0 = λ rs. length new ≡ length old + length (rows_text form s real rs) in
            let last : length new ≡ length old + 0 = subst P none all in
            omega (arith, last),
      )

module _ (form : RowForm) (s : Schema) (real : ℕ → ℕ) (left : LeftOut) (a b : FileMeaning) where
  pub list-made : (first outlines instances text : List ℕ) (empty : Bool) → AddsFirst form (leaves_out left) [] first
      → AddsRows form s real left TellsNone first outlines
      → AddsRows form s real left (TellsInstances s left a b) outlines instances
      → IsTrue empty ↔ (IsTrue (leaves_out left) × (length instances ≡ length first))
      → AddsRest (instances ++ end_front form) text
      → IsListOfOthers form s real left a b empty text
  list-made first outlines instances text empty begins none more if_empty end =
      let Is : List Difference → Type 0 = TellsInstances s left a b in
      let all : AddsRows form s real left Is first instances = more-added form s real left TellsNone Is Is first outlines instances
      (λ list others told told_. subst (λ (l : List Difference). Is (l ++ others)) (sym told) told_) none more in
      let rows_are = rows-if_none form s real all.rows first instances all.new_is in record {
        first = first;
        first_is_line = subst (IsFirstLine form (leaves_out left)) (sym begins.new_is) begins.is_line;
        rows = all.rows;
        are_lines = all.are_lines;
        may_stand = all.may_stand;
        end = end.rest;
        end_is_line = end.holds_none;
        text_is = end.new_is ∙ ap (λ (t : List ℕ). (t ++ end_front form) ++ (end.rest ++ (10 ∷ []))) all.new_is
            ∙ append_assoc (first ++ rows_text form s real all.rows) (end_front form) (end.rest ++ (10 ∷ []))
            ∙ append_assoc first (rows_text form s real all.rows) (end_front form ++ (end.rest ++ (10 ∷ [])));
        tells = all.is_told;
        if_empty = (
          λ is. (let (asked, same) = if_empty.0 is in (asked, rows_are.0 same)),
          λ (asked, is). if_empty.1 (asked, rows_are.1 is),
        );
      }

-- the list of files that mean the same
pub same-made : (form : RowForm) (left : LeftOut) (first text : List ℕ) → AddsFirst form (leaves_out left) [] first
    → text ≡ first ++ same_line form → IsListOfSame form left true text
same-made form left first text begins is = record {
  first = first;
  first_is_line = subst (IsFirstLine form (leaves_out left)) (sym begins.new_is) begins.is_line;
  text_is = is;
  is_empty = refl;
}
