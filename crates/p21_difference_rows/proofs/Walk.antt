-- The differences of instances, told name by name.
use Rattle.std.specs.Prelude.{◌≡◌, ◌≢◌, ◌↔◌, ◌⊎◌, ◌<◌, ◌≤◌, ◌+◌, ◌^◌, ℕ, List, [], ◌∷◌, ◌++◌, Some, None, Contains, refl}
use Rattle.std.specs.List.{AllByRecursion as Each}
use Rattle.std.proofs.Common.{arith, ap, sym, subst, ◌∙◌, inl, inr}
use Rattle.p21_difference_rows.proofs.Along.{near-along, near-back, other-along, other-back}
use Rattle.p21_difference_rows.proofs.Beside.{member-alone, member-back, member-front, member-of}
use Rattle.p21_difference_rows.specs.Listed.{IsOfInstance, TellsInstances}
use Rattle.p21_difference_rows.specs.Steps.{Stays, TellsOf, TellsValues, name_of}
use Rattle.p21_differences.proofs.Naming.{lines-tell}
use Rattle.p21_differences.specs.Changes.{FindsChange, MeanSame, changed_name}
use Rattle.p21_differences.specs.Lines.{AreLinesOf, IsLineOf}
use Rattle.p21_differences.specs.declared.change.Change.{Change}
use Rattle.p21_model.specs.Kept.{IsKeptLine}
use Rattle.p21_spec_basics.proofs.Members.{Contains-first, Contains-mapped, Contains-none, Contains-unmapped}
use Rattle.p21_spec_basics.proofs.Shuffles.{NoneTwice}
use Rattle.p21_spec_differences.proofs.Values.{entities-once, none-other}
use Rattle.p21_spec_differences.specs.Difference.{AreMeant, Difference, Differs, instance_came, instance_went, set_changed, value_changed}
use Rattle.p21_spec_differences.specs.LeftOut.{IsIgnored, IsLeftOut, IsToList, LeftOut}
use Rattle.p21_spec_exchange.specs.Statement.{instance, statement_tokens}
use Rattle.p21_spec_exchange.specs.Token.{IsSpelled}
use Rattle.p21_spec_file.specs.File.{FileMeaning}
use Rattle.p21_spec_file.specs.Meaning.{Typed}
use Rattle.p21_spec_file.specs.SameFile.{SameTyped}
use Rattle.p21_spec_laws.proofs.CanonicalLaid.{laid-each_spelled}
use Rattle.p21_spec_laws.proofs.InstanceTexts.{canonical-written}
use Rattle.p21_spec_numbering.specs.Renamed.{names}
use Rattle.p21_spec_schema.specs.Schema.{Place, Schema}
use Rattle.p21_spec_schema.specs.WellFormed.{IsWellFormed}
use Rattle.p21_stream_store.specs.StoredInstance.{StoredInstance, instance_names}

-- ---- a name in one file

named-meant : (m : FileMeaning) (name : ℕ) (x : Typed) → Contains m.instances (name, x) → Contains (names m) name
named-meant m name x at = Contains-mapped (λ (i : ℕ × Typed). i.0) m.instances (name, x) at

-- what is meant by a name, up to sameness one thing
pub record IsMeant (s : Schema) (m : FileMeaning) (name : ℕ) (line : List ℕ) : Type 0 where
  pub x : Typed
  pub at : Contains m.instances (name, x)
  pub is_line : IsLineOf s name line x
  pub one : (y : Typed) → Contains m.instances (name, y) → SameTyped x y

module _ (s : Schema) (formed : IsWellFormed s) (m : FileMeaning) (kept : List StoredInstance) (are : AreLinesOf s m kept) where
  pub meant : (name : ℕ) (line : List ℕ) → IsKeptLine kept name line → IsMeant s m name line
  meant name line is =
      let named : Contains (instance_names kept) name = Contains-mapped (λ (x : StoredInstance). x.name) kept
      (record { name = name; membership = is.0; text = line }) is.1 in
      let (i, at, same) = Contains-unmapped (λ (i : ℕ × Typed). i.0) m.instances name ((are.names_are name).1 named) in
      let P : ℕ → Type 0 = λ n. Contains m.instances (n, i.1) in
      let own : Contains m.instances (name, i.1) = subst P same at in
      let is_line = are.lines_are name line i.1 is own in record {
        x = i.1;
        at = own;
        is_line = is_line;
        one = λ y at_. (lines-tell s formed name line line i.1 y is_line (are.lines_are name line y is at_)).1 refl;
      }

  -- the line of a name that has a meaning
  line-of : (name : ℕ) → Contains (names m) name → (line : List ℕ) × IsKeptLine kept name line
  line-of name among =
      let (x, at, is) = Contains-unmapped (λ (x : StoredInstance). x.name) kept name ((are.names_are name).0 among) in
      let P : ℕ → Type 0 = λ n. IsKeptLine kept n x.text in
      (x.text, subst P is (x.membership, at))

  -- no entity stands twice in a set
  set-once : (name : ℕ) (y : Typed) → Contains m.instances (name, y) → NoneTwice y.entities
  set-once name y at =
      let (line, is) = line-of name (named-meant m name y at) in
      let is_line = are.lines_are name line y is at in
      let stated = is_line.stated in
      subst NoneTwice is_line.same.0
      (entities-once s stated.kinds stated.canonical_meaning
      (record {
        record_ = stated.canonical;
        means = stated.canonical_means;
        spelled =
            canonical-written s name is_line.record_ line stated;
      }))

  -- no name has more than 64 bits
  pub name-low : (name : ℕ) → Contains (names m) name → name < 2 ^ 64
  name-low name among =
      let (line, is) = line-of name among in
      let stated = (meant name line is).is_line.stated in
      let spelled : Each IsSpelled (statement_tokens (instance name stated.canonical)) =
      laid-each_spelled line (statement_tokens (instance name stated.canonical)) stated.laid in
      spelled.0.1.in_range

-- ---- a name in two files

module _ (s : Schema) (left : LeftOut) (a b : FileMeaning) (name : ℕ) where
  abbrev IsTold : Difference → Type 0
  IsTold d = IsOfInstance d × (name_of d ≡ name) × IsToList s left a b d

  abbrev pub TellsName : List Difference → Type 0
  TellsName list = TellsOf (λ (n : ℕ). n ≡ name) s left a b list

  -- of differences of instances those of values alone may be left out
  came-stays : (k : ℕ) → ¬ IsLeftOut s left a b (instance_came k)
  came-stays k (inl header) = header.1
  came-stays k (inr (inl ignored)) = ignored
  came-stays k (inr (inr near)) = near

  went-stays : (k : ℕ) → ¬ IsLeftOut s left a b (instance_went k)
  went-stays k (inl header) = header.1
  went-stays k (inr (inl ignored)) = ignored
  went-stays k (inr (inr near)) = near

  set-stays : (k : ℕ) → ¬ IsLeftOut s left a b (set_changed k)
  set-stays k (inl header) = header.1
  set-stays k (inr (inl ignored)) = ignored
  set-stays k (inr (inr near)) = near

  alone-told : (v : Difference) → IsTold v → (d : Difference) → Contains (v ∷ []) d → IsTold d
  alone-told v is d among = subst IsTold (member-alone v d among) is

  pub came-told : Contains (names b) name → ¬ Contains (names a) name → TellsName (instance_came name ∷ [])
  came-told has lacks d = (alone-told (instance_came name) (tt, refl, ((has, lacks), came-stays name)) d, back d)
    where
      back : (e : Difference) → IsTold e → Contains (instance_came name ∷ []) e
      back (instance_came k) (of, is, differs) = let P : ℕ
          → Type 0 = λ n. Contains (instance_came name ∷ []) (instance_came n) in subst P (sym is) (Contains-first (instance_came name) [])
      back (instance_went k) (of, is, ((has_, lacks_), stays)) = let P : ℕ
          → Type 0 = λ n. Contains (names b) n in absurd (lacks_ (subst P (sym is) has))
      back (set_changed k) (of, is, ((x, y, at, differ), stays)) = let P : ℕ
          → Type 0 = λ n. Contains (names a) n in absurd (lacks (subst P is (named-meant a k x at.0)))
      back (value_changed k place) (of, is, ((x, y, at, set, differ), stays)) = let P : ℕ
          → Type 0 = λ n. Contains (names a) n in absurd (lacks (subst P is (named-meant a k x at.0)))
      back other (of, is, differs) = absurd of

  pub went-told : Contains (names a) name → ¬ Contains (names b) name → TellsName (instance_went name ∷ [])
  went-told has lacks d = (alone-told (instance_went name) (tt, refl, ((has, lacks), went-stays name)) d, back d)
    where
      back : (e : Difference) → IsTold e → Contains (instance_went name ∷ []) e
      back (instance_came k) (of, is, ((has_, lacks_), stays)) = let P : ℕ
          → Type 0 = λ n. Contains (names a) n in absurd (lacks_ (subst P (sym is) has))
      back (instance_went k) (of, is, differs) = let P : ℕ
          → Type 0 = λ n. Contains (instance_went name ∷ []) (instance_went n) in subst P (sym is) (Contains-first (instance_went name) [])
      back (set_changed k) (of, is, ((x, y, at, differ), stays)) = let P : ℕ
          → Type 0 = λ n. Contains (names b) n in absurd (lacks (subst P is (named-meant b k y at.1)))
      back (value_changed k place) (of, is, ((x, y, at, set, differ), stays)) = let P : ℕ
          → Type 0 = λ n. Contains (names b) n in absurd (lacks (subst P is (named-meant b k y at.1)))
      back other (of, is, differs) = absurd of

  -- both files have it
  module _ (line text : List ℕ) (first : IsMeant s a name line) (second : IsMeant s b name text) where
    one-first : (k : ℕ) (x : Typed) → k ≡ name → Contains a.instances (k, x) → SameTyped first.x x
    one-first k x is at = let P : ℕ → Type 0 = λ n. Contains a.instances (n, x) in first.one x (subst P is at)

    one-second : (k : ℕ) (y : Typed) → k ≡ name → Contains b.instances (k, y) → SameTyped second.x y
    one-second k y is at = let P : ℕ → Type 0 = λ n. Contains b.instances (n, y) in second.one y (subst P is at)

    -- the sets of others are those
    pub sets-are : (k : ℕ) (x y : Typed) → k ≡ name → AreMeant a b k x y → (x.entities ≡ y.entities)
        ↔ (first.x.entities ≡ second.x.entities)
    sets-are k x y is at =
        let own = (one-first k x is at.0).0 in
        let own_ = (one-second k y is at.1).0 in
        (λ same. own ∙ same ∙ sym own_, λ same. sym own ∙ same ∙ own_)

    neither-lacks : (k : ℕ) → k ≡ name → Contains (names a) k × Contains (names b) k
    neither-lacks k is =
        let P : ℕ → Type 0 = λ n. Contains (names a) n × Contains (names b) n in
        subst P (sym is) (named-meant a name first.x first.at, named-meant b name second.x second.at)

    pub set-told : first.x.entities ≢ second.x.entities → TellsName (set_changed name ∷ [])
    set-told differ d =
        (alone-told (set_changed name) (tt, refl, ((first.x, second.x, (first.at, second.at), differ), set-stays name)) d, back d)
      where
        back : (e : Difference) → IsTold e → Contains (set_changed name ∷ []) e
        back (instance_came k) (of, is, ((has_, lacks_), stays)) = absurd (lacks_ (neither-lacks k is).0)
        back (instance_went k) (of, is, ((has_, lacks_), stays)) = absurd (lacks_ (neither-lacks k is).1)
        back (set_changed k) (of, is, differs) = let P : ℕ
            → Type 0 = λ n. Contains (set_changed name ∷ []) (set_changed n) in subst P (sym is) (Contains-first (set_changed name) [])
        back (value_changed k place) (of, is, ((x, y, at, set, other), stays)) = absurd (differ ((sets-are k x y is at).0 set))
        back other (of, is, differs) = absurd of

    value-stays : (place : Place) → Stays s left first.x second.x place → ¬ IsLeftOut s left a b (value_changed name place)
    value-stays place stays (inl header) = header.1
    value-stays place stays (inr (inl (x, at, ignored))) =
        let P : List ℕ → Type 0 = λ es. IsIgnored s left.attributes es place in
        stays.0 (subst P (sym (first.one x at).0) ignored)
    value-stays place stays (inr (inr (x, y, at, near))) =
        stays.1 (near-back s left.tolerance first.x second.x x y (first.one x at.0) (second.one y at.1) place near)

    stays-if : (k : ℕ) (place : Place) → k ≡ name → ¬ IsLeftOut s left a b (value_changed k place) → Stays s left first.x second.x place
    stays-if k place is stays =
        let Among : ℕ → Type 0 = λ n. Contains a.instances (n, first.x) in
        let Among_ : ℕ → Type 0 = λ n. Contains b.instances (n, second.x) in (
          λ ignored. stays (inr (inl (first.x, subst Among (sym is) first.at, ignored))),
          λ near. stays (inr (inr (first.x, second.x, (subst Among (sym is) first.at, subst Among_ (sym is) second.at), near))),
        )

    pub values-told : first.x.entities ≡ second.x.entities → (list : List Difference)
        → TellsValues s left first.x second.x name list
        → TellsName list
    values-told same list tells d = (there d, back d)
      where
        there : (e : Difference) → Contains list e → IsTold e
        there e among =
            let (place, is, other, stays) = (tells e).0 among in
            subst IsTold (sym is) (tt, refl, ((first.x, second.x, (first.at, second.at), same, other), value-stays place stays))

        back : (e : Difference) → IsTold e → Contains list e
        back (instance_came k) (of, is, ((has_, lacks_), stays)) = absurd (lacks_ (neither-lacks k is).0)
        back (instance_went k) (of, is, ((has_, lacks_), stays)) = absurd (lacks_ (neither-lacks k is).1)
        back (set_changed k) (of, is, ((x, y, at, differ), stays)) = absurd (differ ((sets-are k x y is at).1 same))
        back (value_changed k place) (of, is, ((x, y, at, set, other), stays)) =
            (tells (value_changed k place)).1 (
              place,
              ap (λ (n : ℕ). value_changed n place) is,
              other-back first.x second.x x y (one-first k x is at.0)
                  (one-second k y is at.1) place other,
              stays-if k place is stays,
            )
        back other (of, is, differs) = absurd of

-- the canonical meanings of two lines are those of the names
pub values-meant : (s : Schema) (left : LeftOut) (n : ℕ) (line text : List ℕ) (x y : Typed) (first : IsLineOf s n line x)
    (second : IsLineOf s n text y) (list : List Difference)
    → TellsValues s left first.stated.canonical_meaning second.stated.canonical_meaning n list → TellsValues s left x y n list
values-meant s left n line text x y first second list tells d = (
  λ among.
      (let (place, is, other, stays) = (tells d).0 among in (
        place,
        is,
        other-along first.stated.canonical_meaning second.stated.canonical_meaning x y first.same second.same place other,
        (
          (let P : List ℕ → Type 0 = λ es. ¬ IsIgnored s left.attributes es place in subst P first.same.0 stays.0),
          λ near. stays.1 (near-back s left.tolerance first.stated.canonical_meaning second.stated.canonical_meaning x y first.same
              second.same place near),
        ),
      )),
  λ (place, is, other, stays). (tells d).1 (
    place,
    is,
    other-back first.stated.canonical_meaning second.stated.canonical_meaning x y first.same second.same place other,
    (
      (let P : List ℕ → Type 0 = λ es. ¬ IsIgnored s left.attributes es place in subst P (sym first.same.0) stays.0),
      λ near. stays.1 (near-along s left.tolerance first.stated.canonical_meaning second.stated.canonical_meaning x y first.same
          second.same place near),
    ),
  ),
)

-- ---- name by name

module _ (s : Schema) (formed : IsWellFormed s) (left : LeftOut) (a b : FileMeaning) (kept others : List StoredInstance)
    (are : AreLinesOf s a kept) (are_ : AreLinesOf s b others) where
  -- of a name of which both files say the same nothing differs
  same-none : (d : Difference) → MeanSame a b (name_of d) → IsOfInstance d → ¬ Differs a b d
  same-none (instance_came k) same of (has, lacks) = lacks (same.both.1 has)
  same-none (instance_went k) same of (has, lacks) = lacks (same.both.0 has)
  same-none (set_changed k) same of (x, y, at, differ) = differ (same.same x y at.0 at.1).0
  same-none (value_changed k place) same of (x, y, at, set, differ) =
      none-other x y (set-once s formed b others are_ k y at.1) (same.same x y at.0 at.1) place differ
  same-none other same of differs = absurd of

  either : (x y : ℕ) → (x < y) ⊎ (y ≤ x)
  either x y = grind arith

  pub none-told : (least : ℕ) → least ≡ 0 → TellsOf (λ (n : ℕ). n < least) s left a b []
  none-told least is d = (λ among. absurd (Contains-none d among), λ (of, low, differs). absurd (omega (arith, low, is)))

  pub next-told : (least next : ℕ) (found : Change) (list more : List Difference) → FindsChange a b least (Some found)
      → next ≡ changed_name found + 1
      → TellsOf (λ (n : ℕ). n < least) s left a b list → TellsOf (λ (n : ℕ). n ≡ changed_name found) s left a b more
      → TellsOf (λ (n : ℕ). n < next) s left a b (list ++ more)
  next-told least next found list more (change, from, between) next_is told told_ d = (there, back)
    where
      there : Contains (list ++ more) d → IsOfInstance d × (name_of d < next) × IsToList s left a b d
      there among = elim (member-of list more d among) [
        | inl front ↦ let (of, low, differs) = (told d).0 front in (of, omega (arith, low, from, next_is), differs)
        | inr behind ↦ let (of, is, differs) = (told_ d).0 behind in (of, omega (arith, is, next_is), differs)
      ]

      back : IsOfInstance d × (name_of d < next) × IsToList s left a b d → Contains (list ++ more) d
      back (of, low, differs) = elim (either (name_of d) least) [
        | inl before ↦ member-front list more d ((told d).1 (of, before, differs))
        | inr at ↦ elim (either (name_of d) (changed_name found)) [
          | inl under ↦ absurd (same-none d (between (name_of d) at under) of differs.0)
          | inr over ↦ member-back list more d ((told_ d).1 (of, omega (arith, over, low, next_is), differs))
        ]
      ]

  pub all-told : (least : ℕ) (list : List Difference) → FindsChange a b least None → TellsOf (λ (n : ℕ). n < least) s left a b list
      → TellsInstances s left a b list
  all-told least list none told d = (there, back)
    where
      there : Contains list d → IsOfInstance d × IsToList s left a b d
      there among = let (of, low, differs) = (told d).0 among in (of, differs)

      back : IsOfInstance d × IsToList s left a b d → Contains list d
      back (of, differs) = elim (either (name_of d) least) [
        | inl before ↦ (told d).1 (of, before, differs)
        | inr at ↦ absurd (same-none d (none (name_of d) at) of differs.0)
      ]

  -- behind the last name of 64 bits
  differs-low : (d : Difference) → IsOfInstance d → Differs a b d → name_of d < 2 ^ 64
  differs-low (instance_came k) of (has, lacks) = name-low s formed b others are_ k has
  differs-low (instance_went k) of (has, lacks) = name-low s formed a kept are k has
  differs-low (set_changed k) of (x, y, at, differ) = name-low s formed a kept are k (named-meant a k x at.0)
  differs-low (value_changed k place) of (x, y, at, set, differ) = name-low s formed a kept are k (named-meant a k x at.0)
  differs-low other of differs = absurd of

  pub last-told : (least : ℕ) (found : Change) (list more : List Difference) → FindsChange a b least (Some found)
      → ¬ (changed_name found + 1 < 2 ^ 64)
      → TellsOf (λ (n : ℕ). n < least) s left a b list → TellsOf (λ (n : ℕ). n ≡ changed_name found) s left a b more
      → TellsInstances s left a b (list ++ more)
  last-told least found list more finds last told told_ d =
      let all = next-told least (changed_name found + 1) found list more finds refl told told_ d in (
        λ among. let (of, low, differs) = all.0 among in (of, differs),
        λ (of, differs). let low = differs-low d of differs.0 in all.1 (of, omega (arith, low, last), differs),
      )
