-- An instance is found by its name in a section.
use Rattle.std.proofs.Common.{◌≡◌, ◌<◌, ◌≤◌, ◌^◌, ℕ, List, [], ◌∷◌, Some, None, Option, Bor, length, get_or, slice_get, sym, ap, subst, ◌∙◌, arith, inl, inr}
use Rattle.std.proofs.lemmas.Option.{get_or_from_slice_get, slice_get_cases, slice_get_within}
use Rattle.std.specs.List.Sorted.{IsNonDecreasingBy}
use Rattle.std.specs.Prelude.{Contains, IfSome, ◌⊎◌}
use Rattle.p21_scan.proofs.NamesAt.{name-once}
use Rattle.p21_scan.specs.Name.{IsNameAt}
use Rattle.p21_spec_basics.proofs.Members.{Contains-at, Contains-cases, Contains-first, Contains-found, Contains-later, Contains-mapped, Contains-none, Contains-unmapped, Each-at, Each-member, Each-weaker}
use Rattle.p21_spec_basics.proofs.PlainDigits.{plain_are_digits, plain_digits_are, plain_some}
use Rattle.p21_spec_basics.specs.Digits.{number, plain_digits}
use Rattle.p21_stream_output.proofs.Written.{same-text}
use Rattle.p21_stream_output.specs.Ending.{AreNamed}
use Rattle.p21_stream_output.specs.Output.{HasLines, IsLineOf, IsNamed, IsSectionLine, Output, output_text}
use Rattle.p21_stream_output.specs.Stored.{AreFiled, ArePositions, HasNameAmong, HavePositions, HaveSmallNames, output_of, written_section}
use Rattle.p21_stream_output.specs.declared.accepted.Section.{Section}
use Rattle.p21_stream_store.specs.StoredInstance.{StoredInstance, instance_names, name_at, text_at}

-- ---- the name at the front of a line

pub named-at : (name : ℕ) (line : List ℕ) (named : IsNamed name line) → IsNameAt line (plain_digits name) (61 ∷ named.0.0)
named-at name line named =
    let own = plain_digits_are name in
    record {
      bytes_are = named.0.1;
      some_digits = plain_some (plain_digits name) own.0;
      are_digits =
          plain_are_digits (plain_digits name) own.0;
      ends = λ h. omega (arith, h);
    }

pub number-at : (name : ℕ) (line digits rest : List ℕ) → IsNamed name line → IsNameAt line digits rest → number digits ≡ name
number-at name line digits rest named at = ap number
    (name-once line digits (plain_digits name) rest (61 ∷ named.0.0) at (named-at name line named)).0 ∙ (plain_digits_are name).1

-- ---- the name at a position

same-name : (kept : List StoredInstance) (place : ℕ) (x : StoredInstance) → slice_get kept place ≡ Some x → name_at kept place ≡ x.name
same-name kept place x at = ap (λ (y : Option StoredInstance). elim y [ None ↦ 0 | Some z ↦ z.name ]) at

pub name-there : (kept : List StoredInstance) (place found : ℕ) (line : List ℕ) (x : StoredInstance) → AreNamed kept → HaveSmallNames kept
    → slice_get kept place ≡ Some x → x.text ≡ line
    → ((name : ℕ) → IsNamed name line → name < 2 ^ 64 → found ≡ name) → name_at kept place ≡ found
name-there kept place found line x named small at is reads =
    let its : IsNamed x.name x.text = Each-at (λ (y : StoredInstance). IsNamed y.name y.text) kept place x named at in
    let low : x.name < 2 ^ 64 = small x.name (Contains-mapped (λ (y : StoredInstance). y.name) kept x (Contains-found kept place x at)) in
    same-name kept place x at ∙ sym (reads x.name (subst (IsNamed x.name) is its) low)

-- ---- a search by halves

-- names before `low` are below the name, and those from `high` on above it
pub record AreHalves (kept : List StoredInstance) (instance_positions : List ℕ) (name low high : ℕ) : Type 0 where
  pub order : low ≤ high
  pub within : high ≤ length instance_positions
  pub before : IsNonDecreasingBy (name_at kept) instance_positions → (k : ℕ) (d : ℕ) → k < low
      → name_at kept (get_or instance_positions k d) < name
  pub behind : IsNonDecreasingBy (name_at kept) instance_positions → (k : ℕ) (d : ℕ) → high ≤ k → k < length instance_positions
      → name < name_at kept (get_or instance_positions k d)

pub all-left : (kept : List StoredInstance) (instance_positions : List ℕ) (name high : ℕ) → high ≡ length instance_positions
    → AreHalves kept instance_positions name 0 high
all-left kept ps name high is = record {
  order = omega arith;
  within = omega (arith, is);
  before = λ rises k d below. absurd (omega (arith, below));
  behind = λ rises k d from below. absurd (omega (arith, is, from, below));
}

pub none-between : (kept : List StoredInstance) (ps : List ℕ) (name low high : ℕ) → AreHalves kept ps name low high → high ≤ low
    → IsNonDecreasingBy (name_at kept) ps → HasNameAmong kept ps name → ⊥
none-between kept ps name low high h met rises (place, among, is) =
    let (k, at) = Contains-at ps place among in
    let inside = slice_get_within ps k place at in
    let same : name_at kept (get_or ps k 0) ≡ name_at kept place = ap (name_at kept) (get_or_from_slice_get ps k place 0 at) in
    elim (either k low) [
      | inl below ↦ (let less = h.before rises k 0 below in omega (arith, less, same, is))
      | inr over ↦ (let more = h.behind rises k 0 (omega (arith, over, met)) inside in omega (arith, more, same, is))
    ]
  where
    either : (x y : ℕ) → (x < y) ⊎ (y ≤ x)
    either x y = grind arith

-- ---- the sections one by one

-- these are left of the sections, and the name stands in none of the others
pub record AreLeft (kept : List StoredInstance) (name : ℕ) (all left : List Section) : Type 0 where
  pub among : (x : Section) → Contains left x → Contains all x
  pub placed : HavePositions kept left
  pub others : (x : Section) → Contains all x → IsNonDecreasingBy (name_at kept) x.instance_positions
      → HasNameAmong kept x.instance_positions name → Contains left x

pub all-sections : (kept : List StoredInstance) (name : ℕ) (all : List Section) → HavePositions kept all → AreLeft kept name all all
all-sections kept name all placed = record { among = λ x among. among; placed = placed; others = λ x among rises has. among }

pub first-placed : (kept : List StoredInstance) (name : ℕ) (all left behind : List Section) (first : Section) → AreLeft kept name all left
    → left ≡ first ∷ behind → ArePositions kept first.instance_positions
first-placed kept name all left behind first l is = (subst (HavePositions kept) is l.placed).0

pub first-among : (kept : List StoredInstance) (name : ℕ) (all left behind : List Section) (first : Section) → AreLeft kept name all left
    → left ≡ first ∷ behind → Contains all first
first-among kept name all left behind first l is = let Has : List Section
    → Type 0 = λ xs. Contains xs first in l.among first (subst Has (sym is) (Contains-first first behind))

pub one-passed : (kept : List StoredInstance) (name : ℕ) (all left behind : List Section) (first : Section) → AreLeft kept name all left
    → left ≡ first ∷ behind
    → (IsNonDecreasingBy (name_at kept) first.instance_positions → HasNameAmong kept first.instance_positions name → ⊥)
    → AreLeft kept name all behind
one-passed kept name all left behind first l is none = record {
  among = λ x among. let Has : List Section → Type 0 = λ xs. Contains xs x in
      l.among x (subst Has (sym is) (Contains-later first behind x among));
  placed = (subst (HavePositions kept) is l.placed).1;
  others = λ x among rises has.
      let Has : List Section → Type 0 = λ xs. Contains xs x in
      let Rises : Section → Type 0 = λ y. IsNonDecreasingBy (name_at kept) y.instance_positions in
      let Stands : Section → Type 0 = λ y. HasNameAmong kept y.instance_positions name in
      elim (Contains-cases first behind x (subst Has is (l.others x among rises has))) [
        | inl same ↦ absurd (none (subst Rises (sym same) rises) (subst Stands (sym same) has))
        | inr later ↦ later
      ];
}

pub none-left : (kept : List StoredInstance) (name : ℕ) (all left : List Section) → AreLeft kept name all left → length left ≡ 0
    → (x : Section) → Contains all x → IsNonDecreasingBy (name_at kept) x.instance_positions → HasNameAmong kept x.instance_positions name
    → ⊥
none-left kept name all [] l none x among rises has = Contains-none x (l.others x among rises has)
none-left kept name all (y ∷ left) l none x among rises has = absurd (omega (arith, none))

-- ---- the section of an instance

pub lines-named : (o : Output) → HasLines o → AreNamed o.kept
lines-named o lines = Each-weaker (λ (x : StoredInstance). IsLineOf x.name x.text (output_text o))
    (λ (x : StoredInstance). IsNamed x.name x.text) (λ x line. line.named) o.kept lines

pub section-found : (header : List ℕ) (sections : List Section) (kept : List StoredInstance) (statement name : ℕ) (line : List ℕ)
    (x : Section) → HavePositions kept sections → HasLines (output_of header sections kept statement)
    → Contains sections x → x.line.items ≡ line → HasNameAmong kept x.instance_positions name
    → IsSectionLine (output_of header sections kept statement) name line
section-found header sections kept statement name line x placed lines among is (place, at, named) =
    let low = Each-member (λ (p : ℕ). p < length kept) x.instance_positions place
    (Each-member (λ (y : Section). ArePositions kept y.instance_positions) sections x placed among) at in
    let (y, there) = found place low in
    let its = (Each-at (λ (z : StoredInstance). IsLineOf z.name z.text (output_text (output_of header sections kept statement))) kept place
    y lines there).named in
    let Named : ℕ → Type 0 = λ n. IsNamed n (text_at kept place) in
    record {
      section = written_section kept x;
      among = Contains-mapped (written_section kept) sections x among;
      line_is = is;
      text = text_at kept place;
      stands = Contains-mapped (text_at kept) x.instance_positions place at;
      named = subst Named (sym (same-name kept place y there) ∙ named) (subst (IsNamed y.name) (sym (same-text kept place y there)) its);
    }
  where
    found : (p : ℕ) → p < length kept → (y : StoredInstance) × (slice_get kept p ≡ Some y)
    found p low = elim (slice_get_cases kept p).1 [
      | inl (y, within, there, is_) ↦ (y, there)
      | inr (above, there) ↦ absurd (omega (arith, above, low))
    ]

pub none-filed : (sections : List Section) (kept : List StoredInstance) (name : ℕ) → AreFiled kept sections
    → ((x : Section) → Contains sections x → IsNonDecreasingBy (name_at kept) x.instance_positions
    → HasNameAmong kept x.instance_positions name → ⊥) → Contains (instance_names kept) name → ⊥
none-filed sections kept name filed none among =
    let (y, there, is) = Contains-unmapped (λ (z : StoredInstance). z.name) kept name among in
    let (place, at) = Contains-at kept y there in
    let (x, stands, has) = filed.whole place (slice_get_within kept place y at) in
    none x stands (Each-member (λ (z : Section). IsNonDecreasingBy (name_at kept) z.instance_positions) sections x filed.rise stands)
    (place, has, same-name kept place y at ∙ is)

-- the same of a line that may be found
pub line-found : (o : Output) (header : List ℕ) (sections : List Section) (kept : List StoredInstance) (statement name number : ℕ)
    (result : Option (Bor (List ℕ)))
    → output_of header sections kept statement ≡ o → number ≡ name → HavePositions kept sections
    → HasLines (output_of header sections kept statement)
    → IfSome result (λ line. (x : Section) × Contains sections x × (x.line.items ≡ line.now)
    × HasNameAmong kept x.instance_positions number)
    → IfSome result (λ line. IsSectionLine o name line.now)
line-found o header sections kept statement name number None is same placed lines found = found
line-found o header sections kept statement name number (Some line) is same placed lines (x, among, line_is, (place, at, named)) =
    let Of : Output → Type 0 = λ p. IsSectionLine p name line.now in
    subst Of is (section-found header sections kept statement name line.now x placed lines among line_is (place, at, named ∙ same))
