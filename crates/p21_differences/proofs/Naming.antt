-- What changed about a name, by the lines that are kept of it.
use Rattle.std.specs.Prelude.{◌≡◌, ◌≢◌, ◌↔◌, ◌⊎◌, ◌<◌, ◌≤◌, ◌+◌, ◌^◌, ℕ, List, Option, Some, None, Contains, refl}
use Rattle.std.specs.List.{AllByRecursion as Each}
use Rattle.std.proofs.Common.{arith, sym, subst, ◌∙◌, inl, inr}
use Rattle.p21_differences.specs.declared.change.Change.{Change}
use Rattle.p21_differences.specs.declared.change.Change.TheVariants as change
use Rattle.p21_differences.specs.About.{FindsName, FindsNext, HaveOtherSet, HaveOtherValues, IsLesser, LacksName, LinesTell, NoneBetween, TellsAbout, TellsLines}
use Rattle.p21_differences.specs.Changes.{FindsChange, IsChange, IsOfFiles, MeanSame, changed_name}
use Rattle.p21_differences.specs.Lines.{AreLinesOf, IsLineOf}
use Rattle.p21_model.specs.Kept.{IsKeptLine}
use Rattle.p21_spec_basics.proofs.Members.{Contains-mapped, Contains-unmapped}
use Rattle.p21_spec_exchange.specs.Record.{Record}
use Rattle.p21_spec_exchange.specs.Statement.{instance, statement_tokens}
use Rattle.p21_spec_exchange.specs.Token.{IsSpelled}
use Rattle.p21_spec_file.proofs.SameFiles.{SameTyped-symmetric, SameTyped-transitive}
use Rattle.p21_spec_file.specs.CanonicalTexts.{IsInstanceText}
use Rattle.p21_spec_file.specs.File.{FileMeaning}
use Rattle.p21_spec_file.specs.Meaning.{Typed}
use Rattle.p21_spec_file.specs.SameFile.{SameTyped}
use Rattle.p21_spec_laws.proofs.CanonicalLaid.{laid-each_spelled}
use Rattle.p21_spec_laws.proofs.RecordTheorems.{texts-tell}
use Rattle.p21_spec_numbering.specs.Renamed.{names}
use Rattle.p21_spec_schema.specs.Schema.{Schema}
use Rattle.p21_spec_schema.specs.WellFormed.{IsWellFormed}
use Rattle.p21_stream_store.specs.StoredInstance.{StoredInstance, instance_names}

-- ---- two lines of one name

-- they are equal exactly if they mean the same
pub lines-tell : (s : Schema) → IsWellFormed s → (n : ℕ) (line text : List ℕ) (x y : Typed) → IsLineOf s n line x → IsLineOf s n text y
    → SameTyped x y ↔ (line ≡ text)
lines-tell s formed n line text x y first second =
    let a = first.stated in
    let b = second.stated in
    let tell = texts-tell s formed a.kinds b.kinds n n first.record_ second.record_ a.meaning b.meaning line text a.means b.means a b in
    let own : SameTyped a.meaning x = SameTyped-transitive a.meaning a.canonical_meaning x
    (SameTyped-symmetric a.canonical_meaning a.meaning a.same) first.same in
    let own_ : SameTyped b.meaning y = SameTyped-transitive b.meaning b.canonical_meaning y
    (SameTyped-symmetric b.canonical_meaning b.meaning b.same) second.same in (
      λ same. tell.0 (
        refl,
        SameTyped-transitive a.meaning x b.meaning own
            (SameTyped-transitive x y b.meaning same (SameTyped-symmetric b.meaning y own_)),
      ),
      λ equal.
          let same = (tell.1 equal).1 in
          SameTyped-transitive x a.meaning y (SameTyped-symmetric a.meaning x own) (SameTyped-transitive a.meaning b.meaning y same own_),
    )

-- a set of entities is that of the canonical record
pub sets-tell : (s : Schema) (n m : ℕ) (line text : List ℕ) (x y : Typed) (first : IsLineOf s n line x) (second : IsLineOf s m text y)
    → (x.entities ≡ y.entities) ↔ (first.stated.canonical_meaning.entities ≡ second.stated.canonical_meaning.entities)
sets-tell s n m line text x y first second = (
  λ same. first.same.0 ∙ same ∙ sym second.same.0,
  λ same. sym first.same.0 ∙ same
      ∙ second.same.0,
)

-- ---- a file by its lines

kept-named : (kept : List StoredInstance) (name : ℕ) (line : List ℕ) → IsKeptLine kept name line → Contains (instance_names kept) name
kept-named kept name line (membership, among) = Contains-mapped (λ (x : StoredInstance). x.name) kept
    (record { name = name; membership = membership; text = line }) among

meant-named : (m : FileMeaning) (name : ℕ) → Contains (names m) name → (x : Typed) × Contains m.instances (name, x)
meant-named m name among =
    let (i, at, is) = Contains-unmapped (λ (i : ℕ × Typed). i.0) m.instances name among in
    let P : ℕ → Type 0 = λ n. Contains m.instances (n, i.1) in
    (i.1, subst P is at)

named-meant : (m : FileMeaning) (name : ℕ) (x : Typed) → Contains m.instances (name, x) → Contains (names m) name
named-meant m name x at = Contains-mapped (λ (i : ℕ × Typed). i.0) m.instances (name, x) at

-- the meaning of a line that is kept
pub record IsRead (s : Schema) (m : FileMeaning) (name : ℕ) (line : List ℕ) : Type 0 where
  pub x : Typed
  pub at : Contains m.instances (name, x)
  pub is_line : IsLineOf s name line x

line-read : (s : Schema) (m : FileMeaning) (kept : List StoredInstance) (name : ℕ) (line : List ℕ) → AreLinesOf s m kept
    → IsKeptLine kept name line → IsRead s m name line
line-read s m kept name line are is =
    let (x, at) = meant-named m name ((are.names_are name).1 (kept-named kept name line is)) in
    record { x = x; at = at; is_line = are.lines_are name line x is at }

-- no name has more than 64 bits
high-lacks : (s : Schema) (m : FileMeaning) (kept : List StoredInstance) (name : ℕ) → AreLinesOf s m kept → 2 ^ 64 ≤ name
    → ¬ Contains (names m) name
high-lacks s m kept name are high among = by (Contains-unmapped (λ (x : StoredInstance). x.name) kept name ((are.names_are name).0 among))
  where
    below : (line : List ℕ) → IsRead s m name line → name < 2 ^ 64
    below line read =
        let stated = read.is_line.stated in
        let spelled : Each IsSpelled (statement_tokens (instance name stated.canonical)) =
        laid-each_spelled line (statement_tokens (instance name stated.canonical)) stated.laid in
        spelled.0.1.in_range

    by : (x : StoredInstance) × Contains kept x × (x.name ≡ name) → ⊥
    by (x, at, is) =
        let P : ℕ → Type 0 = λ n. IsKeptLine kept n x.text in
        let low = below x.text (line-read s m kept name x.text are (subst P is (x.membership, at))) in
        omega (arith, high, low)

-- what both lines of a name tell of its meanings
record AreToldOf (a b : FileMeaning) (name : ℕ) (Tell : Typed → Typed → Type 0) : Type 0 where
  x : Typed
  y : Typed
  at : Contains a.instances (name, x)
  at_ : Contains b.instances (name, y)
  told : Tell x y

-- ---- two files

module _ (s : Schema) (a b : FileMeaning) (kept others : List StoredInstance) (are : AreLinesOf s a kept)
    (are_ : AreLinesOf s b others) where
  lacks-same : (name : ℕ) → LacksName kept name → LacksName others name → MeanSame a b name
  lacks-same name none none_ =
      let first : ¬ Contains (names a) name = λ among. none ((are.names_are name).0 among) in
      let second : ¬ Contains (names b) name = λ among. none_ ((are_.names_are name).0 among) in
      record {
        both = (λ among. absurd (first among), λ among. absurd (second among));
        same =
            λ x y at at_. absurd (first (named-meant a name x at));
      }

  high-same : (name : ℕ) → 2 ^ 64 ≤ name → MeanSame a b name
  high-same name high =
      let first = high-lacks s a kept name are high in
      let second = high-lacks s b others name are_ high in
      record {
        both = (λ among. absurd (first among), λ among. absurd (second among));
        same =
            λ x y at at_. absurd (first (named-meant a name x at));
      }

  -- between two names
  between-same : (least bound : ℕ) → NoneBetween kept others least bound → (name : ℕ) → least ≤ name → name < bound → MeanSame a b name
  between-same least bound none name from below = let lacks = none name from below in lacks-same name lacks.0 lacks.1

  -- nothing changed
  none-changed : (name : ℕ) → TellsAbout s kept others name None → MeanSame a b name
  none-changed name (inl lacks) = lacks-same name lacks.0 lacks.1
  none-changed name (inr have) =
      let read = line-read s a kept name have.line are have.is_line in
      let read_ = line-read s b others name have.text are_ have.is_text in
      record {
        both = (λ among. named-meant b name read_.x read_.at, λ among. named-meant a name read.x read.at);
        same = λ x y at at_. have.same x y (are.lines_are name have.line x have.is_line at)
            (are_.lines_are name have.text y have.is_text at_);
      }

  lines-told : (name : ℕ) (line text : List ℕ) (Tell : Typed → Typed → Type 0) → IsKeptLine kept name line → IsKeptLine others name text
      → LinesTell s name line text Tell → AreToldOf a b name Tell
  lines-told name line text Tell is_line is_text told =
      let read = line-read s a kept name line are is_line in
      let read_ = line-read s b others name text are_ is_text in
      record { x = read.x; y = read_.x; at = read.at; at_ = read_.at; told = told read.x read_.x read.is_line read_.is_line }

  -- something did
  one-changed : (name : ℕ) (found : Change) → TellsAbout s kept others name (Some found) → IsChange a b found × (changed_name found ≡ name)
  one-changed name (change.Came found second) (is, line, lacks) =
      let P : ℕ → Type 0 = λ n. Contains (names b) n × ¬ Contains (names a) n in (
        subst P (sym is) ((are_.names_are name).1 (kept-named others name second.now line), λ among. lacks ((are.names_are name).0 among)),
        is,
      )
  one-changed name (change.Went found first) (is, line, lacks) =
      let P : ℕ → Type 0 = λ n. Contains (names a) n × ¬ Contains (names b) n in
      (subst P (sym is) ((are.names_are name).1 (kept-named kept name first.now line), λ among. lacks ((are_.names_are name).0 among)), is)
  one-changed name (change.Set found first second) (is, line, text, told) =
      let of = lines-told name first.now second.now HaveOtherSet line text told in
      let P : ℕ → Type 0 = λ n. IsChange a b (change.Set n first second) in
      (subst P (sym is) (of.x, of.y, (of.at, of.at_), of.told), is)
  one-changed name (change.Values found first second) (is, line, text, told) =
      let of = lines-told name first.now second.now HaveOtherValues line text told in
      let P : ℕ → Type 0 = λ n. IsChange a b (change.Values n first second) in
      (subst P (sym is) (of.x, of.y, (of.at, of.at_), of.told.0, of.told.1), is)

-- its lines are those that are kept
pub about-files : (s : Schema) (kept others : List StoredInstance) (name : ℕ) (found : Change) → TellsAbout s kept others name (Some found)
    → IsOfFiles kept others found
about-files s kept others name (change.Came found second) (is, line, lacks) = let P : ℕ
    → Type 0 = λ n. IsKeptLine others n second.now in subst P (sym is) line
about-files s kept others name (change.Went found first) (is, line, lacks) = let P : ℕ
    → Type 0 = λ n. IsKeptLine kept n first.now in subst P (sym is) line
about-files s kept others name (change.Set found first second) (is, line, text, told) =
    let P : ℕ → Type 0 = λ n. IsKeptLine kept n first.now × IsKeptLine others n second.now in subst P (sym is) (line, text)
about-files s kept others name (change.Values found first second) (is, line, text, told) =
    let P : ℕ → Type 0 = λ n. IsKeptLine kept n first.now × IsKeptLine others n second.now in subst P (sym is) (line, text)

-- ---- the next name

-- the first name of a file, by what is said of it
pub name-found : (kept : List StoredInstance) (least : ℕ) (found : ℕ) → least ≤ found
    → ((name : ℕ) → least ≤ name → name < found → LacksName kept name) → FindsName kept least (Some found)
name-found kept least found from between = (from, between)

pub next-found : (kept others : List StoredInstance) (least : ℕ) (first second result : Option ℕ) → FindsName kept least first
    → FindsName others least second → IsLesser first second result → FindsNext kept others least result
next-found kept others least None None None finds finds_ is = λ name from low. (finds name from, finds_ name from)
next-found kept others least None None (Some found) finds finds_ is = absurd is
next-found kept others least None (Some second) None finds finds_ is = absurd is
next-found kept others least None (Some second) (Some found) finds finds_ is = (
  (let low = finds_.0 in omega (arith, low, is)),
  λ name from below. (finds name from, finds_.1 name from (omega (arith, below, is))),
)
next-found kept others least (Some first) None None finds finds_ is = absurd is
next-found kept others least (Some first) None (Some found) finds finds_ is = (
  (let low = finds.0 in omega (arith, low, is)),
  λ name from below. (finds.1 name from (omega (arith, below, is)), finds_ name from),
)
next-found kept others least (Some first) (Some second) None finds finds_ is = absurd is
next-found kept others least (Some first) (Some second) (Some found) finds finds_ (at_most, at_most_, either_) = (
  from either_,
  λ name above below. (finds.1 name above (omega (arith, below, at_most)), finds_.1 name above (omega (arith, below, at_most_))),
)
  where
    from : (found ≡ first) ⊎ (found ≡ second) → least ≤ found
    from (inl is) = let low = finds.0 in omega (arith, low, is)
    from (inr is) = let low = finds_.0 in omega (arith, low, is)

-- ---- between two lines

pub about-lines : (s : Schema) (kept others : List StoredInstance) (name : ℕ) (line text : List ℕ) (result : Option Change)
    → IsKeptLine kept name line → IsKeptLine others name text → TellsLines s name line text result
    → TellsAbout s kept others name result
about-lines s kept others name line text None is_line is_text tells =
    inr (record { line = line; text = text; is_line = is_line; is_text = is_text; same = tells })
about-lines s kept others name line text (Some (change.Came found second)) is_line is_text tells = absurd tells
about-lines s kept others name line text (Some (change.Went found first)) is_line is_text tells = absurd tells
about-lines s kept others name line text (Some (change.Set found first second)) is_line is_text (is, first_is, second_is, told) =
    let P : List ℕ → List ℕ → Type 0 = λ l t. IsKeptLine kept name l × IsKeptLine others name t × LinesTell s name l t HaveOtherSet in
    let of : P first.now second.now = subst (λ (l : List ℕ). P l second.now) (sym first_is)
    (subst (P line) (sym second_is) (is_line, is_text, told)) in
    (is, of.0, of.1, of.2)
about-lines s kept others name line text (Some (change.Values found first second)) is_line is_text (is, first_is, second_is, told) =
    let P : List ℕ → List ℕ → Type 0 = λ l t. IsKeptLine kept name l × IsKeptLine others name t × LinesTell s name l t HaveOtherValues in
    let of : P first.now second.now = subst (λ (l : List ℕ). P l second.now) (sym first_is)
    (subst (P line) (sym second_is) (is_line, is_text, told)) in
    (is, of.0, of.1, of.2)

pub lines-same : (s : Schema) → IsWellFormed s → (name : ℕ) (line text : List ℕ) → line ≡ text → LinesTell s name line text SameTyped
lines-same s formed name line text equal x y first second = (lines-tell s formed name line text x y first second).1 equal

pub lines-one_set : (s : Schema) → IsWellFormed s → (name : ℕ) (line text : List ℕ) → line ≢ text
    → ((r q : Record) (first : IsInstanceText s name r line) (second : IsInstanceText s name q text)
    → first.canonical_meaning.entities ≡ second.canonical_meaning.entities)
    → LinesTell s name line text HaveOtherValues
lines-one_set s formed name line text differ same x y first second = (
  (sets-tell s name name line text x y first second).1 (same first.record_ second.record_ first.stated second.stated),
  λ alike. differ ((lines-tell s formed name line text x y first second).0 alike),
)

pub lines-other_set : (s : Schema) (name : ℕ) (line text : List ℕ)
    → ((r q : Record) (first : IsInstanceText s name r line) (second : IsInstanceText s name q text)
    → first.canonical_meaning.entities ≢ second.canonical_meaning.entities)
    → LinesTell s name line text HaveOtherSet
lines-other_set s name line text differ x y first second same =
    differ first.record_ second.record_ first.stated second.stated ((sets-tell s name name line text x y first second).0 same)

-- ---- name by name

-- the names from the one on and below the other mean the same, in whatever files have these lines
abbrev pub AreSameUpTo : Schema → List StoredInstance → List StoredInstance → ℕ → ℕ → Type 0
AreSameUpTo s kept others old new = (a b : FileMeaning) → AreLinesOf s a kept → AreLinesOf s b others → (name : ℕ) → old ≤ name → name < new
    → MeanSame a b name

either : (x y : ℕ) → (x < y) ⊎ (y ≤ x)
either x y = grind arith

pub none-passed : (s : Schema) (kept others : List StoredInstance) (old least : ℕ) → least ≡ old → AreSameUpTo s kept others old least
none-passed s kept others old least is a b are are_ name from below = absurd (omega (arith, from, below, is))

-- behind a name about which nothing changed
pub more-passed : (s : Schema) (kept others : List StoredInstance) (old least name next : ℕ) → AreSameUpTo s kept others old least
    → FindsNext kept others least (Some name) → next ≡ name + 1 → TellsAbout s kept others name None
    → AreSameUpTo s kept others old next
more-passed s kept others old least found next passed finds is told a b are are_ name from below = elim (either name least) [
  | inl before ↦ passed a b are are_ name from before
  | inr at ↦ elim (either name found) [
    | inl between ↦ between-same s a b kept others are are_ least found finds.1 name at between
    | inr over ↦
        let same : found ≡ name = omega (arith, over, below, is) in
        subst (MeanSame a b) same (none-changed s a b kept others are are_ found told)
  ]
]

pub change-found : (s : Schema) (kept others : List StoredInstance) (old least name : ℕ) (found : Change) → old ≤ least
    → AreSameUpTo s kept others old least → FindsNext kept others least (Some name) → TellsAbout s kept others name (Some found)
    → (a b : FileMeaning) → AreLinesOf s a kept → AreLinesOf s b others → FindsChange a b old (Some found)
change-found s kept others old least next found low passed finds told a b are are_ =
    let (is, named) = one-changed s a b kept others are are_ next found told in
    let from = finds.0 in (
      is,
      (omega (arith, low, from, named)),
      λ name above below. elim (either name least) [
        | inl before ↦ passed a b are are_ name above before
        | inr at ↦ between-same s a b kept others are are_ least next finds.1 name at (omega (arith, below, named))
      ],
    )

pub end-found : (s : Schema) (kept others : List StoredInstance) (old least : ℕ) → AreSameUpTo s kept others old least
    → FindsNext kept others least None
    → (a b : FileMeaning) → AreLinesOf s a kept → AreLinesOf s b others → FindsChange a b old None
end-found s kept others old least passed finds a b are are_ name from = elim (either name least) [
  | inl before ↦ passed a b are are_ name from before
  | inr at ↦ elim (either name (2 ^ 64)) [
    | inl low ↦ let lacks = finds name at low in lacks-same s a b kept others are are_ name lacks.0 lacks.1
    | inr high ↦ high-same s a b kept others are are_ name high
  ]
]

-- behind the last name of 64 bits
pub last-found : (s : Schema) (kept others : List StoredInstance) (old least name : ℕ) → AreSameUpTo s kept others old least
    → FindsNext kept others least (Some name) → TellsAbout s kept others name None → ¬ (name + 1 < 2 ^ 64)
    → (a b : FileMeaning) → AreLinesOf s a kept → AreLinesOf s b others → FindsChange a b old None
last-found s kept others old least found passed finds told last a b are are_ name from = elim (either name (found + 1)) [
  | inl before ↦ more-passed s kept others old least found (found + 1) passed finds refl told a b are are_ name from before
  | inr behind ↦ high-same s a b kept others are are_ name (omega (arith, last, behind))
]
