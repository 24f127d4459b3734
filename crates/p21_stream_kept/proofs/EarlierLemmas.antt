-- What is found in a file that was read before.
use Rattle.std.proofs.Common.{◌≡◌, ◌+◌, ◌<◌, ◌≤◌, arith, inl, inr, length, ℕ, zero, suc, Bool, true, List, [], ◌∷◌, map, slice_get, Option, Some, None, refl, sym, ap, subst, ◌∙◌}
use Rattle.std.proofs.lemmas.Bool.Decides.{eqb_tells, leb_tells}
use Rattle.std.proofs.lemmas.Option.{same_Some}
use Rattle.std.proofs.lemmas.List.{length-map}
use Rattle.std.specs.List.{IsDistinct, AllByRecursion as Each}
use Rattle.std.specs.Prelude.{◌↔◌, Contains, IsTrue, nat_eq}
use Rattle.p21_spec_basics.proofs.Members.{Contains-found, Contains-mapped, Contains-unmapped}
use Rattle.p21_spec_basics.proofs.Shuffles.{distinct-none_twice, one-keyed}
use Rattle.p21_spec_laws.specs.Beside.{IsInSameSection, IsSameBeside}
use Rattle.p21_spec_laws.specs.CompleteFile.{Line}
use Rattle.p21_spec_laws.specs.Stored.{Earlier, StoredEntry, lines_of}
use Rattle.p21_spec_exchange.specs.DataSection.{Heading}
use Rattle.p21_stream_kept.proofs.ByMembership.{stored-found}
use Rattle.p21_stream_kept.proofs.Instances.{stored-names}
use Rattle.p21_stream_kept.proofs.Zipping.{AllZip-beside_at}
use Rattle.p21_stream_kept.specs.Earlier.{HasCounts}
use Rattle.p21_stream_kept.specs.Inside.{stored_of, stored_with}
use Rattle.p21_stream_kept.specs.Sections.{HaveNumbers}
use Rattle.p21_stream_store.specs.Memberships.{Membership}
use Rattle.p21_stream_store.specs.StoredInstance.{StoredInstance, instance_names}

-- ---- lines

abbrev its_line : StoredInstance → Line
its_line x = (x.name, x.text)

line-with : (membership : Option Membership) (x : StoredInstance)
    → ◌≡◌ {A = Line} ((stored_with membership x).name, (stored_with membership x).text) (x.name, x.text)
line-with (Some membership) x = refl
line-with None x = refl

lines-stored : (memberships : List Membership) (instances : List StoredInstance)
    → lines_of (stored_of memberships instances) ≡ map its_line instances
lines-stored memberships [] = refl
lines-stored memberships (x ∷ xs) =
    ap (λ (l : Line). l ∷ lines_of (stored_of memberships xs)) (line-with (slice_get memberships x.membership) x)
    ∙ ap (λ (ls : List Line). its_line x ∷ ls) (lines-stored memberships xs)

-- a line is that of its name, where names differ
pub line-found : (memberships : List Membership) (instances : List StoredInstance) → IsDistinct nat_eq (instance_names instances)
    → (name membership : ℕ) (text line : List ℕ) → Contains instances (record { name = name; membership = membership; text = text })
    → (text ≡ line → Contains (lines_of (stored_of memberships instances)) (name, line))
    × (Contains (lines_of (stored_of memberships instances)) (name, line) → text ≡ line)
line-found memberships instances once name membership text line among = (
  λ same.
      let P : List ℕ → Type 0 = λ t. Contains (lines_of (stored_of memberships instances)) (name, t) in
      let L : List Line → Type 0 = λ ls. Contains ls (name, text) in
      subst P same (subst L (sym (lines-stored memberships instances))
      (Contains-mapped its_line instances (record { name = name; membership = membership; text = text }) among)),
  λ there.
      let L : List Line → Type 0 = λ ls. Contains ls (name, line) in
      let (x, at, is) = Contains-unmapped {Y = Line} its_line instances (name, line) (subst L (lines-stored memberships instances) there) in
      let one : x ≡ record { name = name; membership = membership; text = text } =
      one-keyed (λ (y : StoredInstance). y.name) instances (distinct-none_twice (instance_names instances) once) x
      (record { name = name; membership = membership; text = text }) at among (ap (λ (l : Line). l.0) is) in
      sym (ap (λ (y : StoredInstance). y.text) one) ∙ ap (λ (l : Line). l.1) is,
)

pub line-none : (memberships : List Membership) (instances : List StoredInstance) (name : ℕ) (line : List ℕ)
    → (Contains (instance_names instances) name → ⊥) → Contains (lines_of (stored_of memberships instances)) (name, line) → ⊥
line-none memberships instances name line none there =
    let L : List Line → Type 0 = λ ls. Contains ls (name, line) in
    let (x, at, is) = Contains-unmapped {Y = Line} its_line instances (name, line) (subst L (lines-stored memberships instances) there) in
    let P : ℕ → Type 0 = λ n. Contains (instance_names instances) n in
    none (subst P (ap (λ (l : Line). l.0) is) (Contains-mapped (λ (y : StoredInstance). y.name) instances x at))

-- ---- sections

-- an instance that is stored with its membership, and one of its name in a file beside: they stand in the same section if the sections begin alike
pub same-section : (earlier : Earlier) (headings : List Heading) (memberships : List Membership) (names : List StoredInstance)
    → IsDistinct nat_eq (instance_names names) → (y : StoredEntry) (later its : ℕ) (entities text : List ℕ)
    → Contains names (record { name = y.name; membership = later; text = text })
    → slice_get memberships later ≡ Some (record { section = its; entities = entities }) → (h other : Heading)
    → slice_get headings its ≡ Some h → slice_get earlier.headings y.section ≡ Some other
    → (h ≡ other → IsInSameSection earlier headings (stored_of memberships names) y)
    × (IsInSameSection earlier headings (stored_of memberships names) y → h ≡ other)
same-section earlier headings memberships names once y later its entities text among membership h other at own = (to, from) where
  to : h ≡ other → IsInSameSection earlier headings (stored_of memberships names) y
  to same x at_x name =
      let (z, at_z, is) = Contains-unmapped (λ (w : StoredInstance). stored_with (slice_get memberships w.membership) w) names x at_x in
      let its_name : z.name ≡ y.name = sym (ap (λ (l : Line). l.0) (line-with (slice_get memberships z.membership) z))
      ∙ ap (λ (w : StoredEntry). w.name) is ∙ name in
      let one : z ≡ record { name = y.name; membership = later; text = text } =
      one-keyed (λ (w : StoredInstance). w.name) names (distinct-none_twice (instance_names names) once) z
      (record { name = y.name; membership = later; text = text }) at_z among its_name in
      let section_ : x.section ≡ its =
      sym (ap (λ (w : StoredEntry). w.section) is) ∙ ap (λ (w : StoredInstance).
      (stored_with (slice_get memberships w.membership) w).section) one
      ∙ ap (λ (m : Option Membership). (stored_with m (record { name = y.name; membership = later; text = text })).section)
      membership in
      ap (λ (n : ℕ). slice_get headings n) section_ ∙ at ∙ ap (λ (g : Heading). Some g) same ∙ sym own

  from : IsInSameSection earlier headings (stored_of memberships names) y → h ≡ other
  from is =
      let there = is (record { name = y.name; section = its; entities = entities; text = text })
      (stored-found memberships names (record { name = y.name; membership = later; text = text })
      (record { section = its; entities = entities }) among membership) refl in
      let both : Some h ≡ Some other = sym at ∙ there ∙ own in
      cc

-- no instance has the name there
pub no-section : (earlier : Earlier) (headings : List Heading) (memberships : List Membership) (names : List StoredInstance)
    (y : StoredEntry) → (Contains (instance_names names) y.name → ⊥) → IsInSameSection earlier headings (stored_of memberships names) y
no-section earlier headings memberships names y none x at name =
    let P : List ℕ → Type 0 = λ ns. Contains ns x.name in
    let N : ℕ → Type 0 = λ n. Contains (instance_names names) n in
    absurd (none (subst N name (subst P (stored-names memberships names)
    (Contains-mapped (λ (w : StoredEntry). w.name) (stored_of memberships names) x at))))

-- ---- an instance of it, by what is found

pub at-below : {X : Type 0} (xs : List X) (k : ℕ) → k < length xs → (x : X) × (slice_get xs k ≡ Some x)
at-below [] k below = absurd (omega (arith, below))
at-below (x ∷ xs) zero below = (x, refl)
at-below (x ∷ xs) (suc k) below = at-below xs k (omega (arith, below))

-- what is stored has the name of an instance
pub name-stored : (memberships : List Membership) (instances : List StoredInstance) (y : StoredEntry)
    → Contains (stored_of memberships instances) y → Contains (instance_names instances) y.name
name-stored memberships instances y at =
    let P : List ℕ → Type 0 = λ ns. Contains ns y.name in
    subst P (stored-names memberships instances) (Contains-mapped (λ (w : StoredEntry). w.name) (stored_of memberships instances) y at)

-- no instance has the name there
pub none-tells : (earlier : Earlier) (headings : List Heading) (memberships : List Membership) (names : List StoredInstance) (name : ℕ)
    → (Contains (instance_names names) name → ⊥)
    → (y : StoredEntry) → y.name ≡ name → IsTrue true ↔ IsInSameSection earlier headings (stored_of memberships names) y
none-tells earlier headings memberships names name none y same =
    let N : ℕ → Type 0 = λ n. Contains (instance_names names) n → ⊥ in
    (λ yes. no-section earlier headings memberships names y (subst N (sym same) none), λ all. refl)

module _ (header : List ℕ) (own : List Heading) (memberships : List Membership) (instances : List StoredInstance) (headings : List Heading)
    (later : List Membership) (names : List StoredInstance) (once : IsDistinct nat_eq (instance_names instances)) where
  abbrev earlier : Earlier
  earlier = record { header = header; headings = own; stored = stored_of memberships instances }

  abbrev Stands : StoredEntry → Type 0
  Stands y = IsInSameSection earlier headings (stored_of later names) y

  -- one entry of a name is there
  one-entry : (x y : StoredEntry) → Contains earlier.stored x → Contains earlier.stored y → y.name ≡ x.name → x ≡ y
  one-entry x y at_x at_y same =
      let D : List ℕ → Type 0 = λ ns. IsDistinct nat_eq ns in
      one-keyed (λ (z : StoredEntry). z.name) earlier.stored
      (distinct-none_twice _ (subst D (sym (stored-names memberships instances)) once)) x y at_x at_y (sym same)

  pub section-tells : (once_ : IsDistinct nat_eq (instance_names names)) (x : StoredEntry) → Contains earlier.stored x
      → x.section < length own → (number : ℕ) (text : List ℕ) → Contains names (record { name = x.name; membership = number; text = text })
      → (other : Membership) → slice_get later number ≡ Some other → other.section < length headings → (result : Bool)
      → ((h g : Heading) → slice_get headings other.section ≡ Some h → slice_get own x.section ≡ Some g → IsTrue result ↔ (h ≡ g))
      → (y : StoredEntry) → Contains earlier.stored y → y.name ≡ x.name → IsTrue result ↔ Stands y
  section-tells once_ x at_x within number text among other its within_ result tells y at_y same =
      let (g, at_g) = at-below own x.section within in
      let (h, at_h) = at-below headings other.section within_ in
      let (to, from) = same-section earlier headings later names once_ x number other.section other.entities text among its h g at_h at_g in
      let told = tells h g at_h at_g in
      subst (λ (z : StoredEntry). IsTrue result ↔ Stands z) (one-entry x y at_x at_y same) (λ yes. to (told.0 yes), λ is. told.1 (from is))

-- a section and one whose number stands for another begin alike, if that one does
pub number-tells : (own headings : List Heading) (numbers : List ℕ) → HaveNumbers own headings numbers → (its number : ℕ)
    → slice_get numbers its ≡ Some number → (result : Bool) (k : ℕ)
    → ((a b : Heading) → slice_get own number ≡ Some a → slice_get own k ≡ Some b → IsTrue result ↔ (a ≡ b)) → (h g : Heading)
    → slice_get headings its ≡ Some h → slice_get own k ≡ Some g → IsTrue result ↔ (h ≡ g)
number-tells own headings numbers have its number at result k tells h g at_h at_g =
    let (n, at_n, own_n) = AllZip-beside_at (λ (x : Heading) (m : ℕ). slice_get own m ≡ Some x) headings numbers its h have at_h in
    let same : n ≡ number = same_Some n number (sym at_n ∙ at) in
    tells h g (subst (λ (m : ℕ). slice_get own m ≡ Some h) same own_n) at_g

-- each of these sections has its number
pub has-number : (own headings : List Heading) (numbers : List ℕ) → HaveNumbers own headings numbers → (its : ℕ) → its < length headings
    → (number : ℕ) × (slice_get numbers its ≡ Some number)
has-number own headings numbers have its below =
    let (h, at) = at-below headings its below in
    let (n, at_n, own_n) = AllZip-beside_at (λ (x : Heading) (m : ℕ). slice_get own m ≡ Some x) headings numbers its h have at in
    (n, at_n)

-- ---- all of them, by rising names

pub told-next : (Stands : StoredEntry → Type 0) (names : List ℕ) (stored : List StoredEntry)
    → ((y : StoredEntry) → Contains stored y → Contains names y.name) → (least name : ℕ)
    → ((y : StoredEntry) → Contains stored y → y.name < least → Stands y)
    → ((other : ℕ) → least ≤ other → other < name → Contains names other → ⊥)
    → ((y : StoredEntry) → Contains stored y → y.name ≡ name → Stands y) → (y : StoredEntry) → Contains stored y → y.name < name + 1
    → Stands y
told-next Stands names stored among least name before between here y at below = elim (leb_tells least y.name) [
  | inr front ↦ before y at front.1
  | inl from ↦ elim (eqb_tells y.name name) [
    | inl same ↦ here y at same.1
    | inr other ↦ absurd (between y.name from.1 (omega (arith, below, other.1)) (among y at))
  ]
]

-- ---- a whole file beside it

numbers-each : (own headings : List Heading) (numbers : List ℕ) → HaveNumbers own headings numbers → Each (Contains own) headings
numbers-each own [] numbers have = tt
numbers-each own (h ∷ headings) [] have = absurd have
numbers-each own (h ∷ headings) (n ∷ numbers) have = (Contains-found own n h have.0, numbers-each own headings numbers have.1)

pub same-beside : (earlier : Earlier) (equal : Bool) (header : List ℕ) (headings : List Heading) (memberships : List Membership)
    (names : List StoredInstance) (numbers : List ℕ) → HasCounts earlier equal header headings names
    → HaveNumbers earlier.headings headings numbers
    → (result : Bool) → IsTrue result ↔ ((y : StoredEntry) → Contains earlier.stored y
    → IsInSameSection earlier headings (stored_of memberships names) y) → IsTrue result
    ↔ IsSameBeside earlier equal header headings (stored_of memberships names)
same-beside earlier equal header headings memberships names numbers counts have result tells = (
  λ holds. record {
    lines_are = counts.lines_are;
    as_many_lines = length-map names (λ (x : StoredInstance). stored_with (slice_get memberships x.membership) x) ∙ counts.as_many_lines;
    header_is = counts.header_is;
    headings_are = numbers-each earlier.headings headings numbers have;
    as_many_headings = counts.as_many_headings;
    sections_are = tells.0 holds;
  },
  λ same. tells.1 same.sections_are,
)
