-- The instances at positions, as they are stored.
use Rattle.std.proofs.Common.{◌≡◌, ◌+◌, ℕ, List, [], ◌∷◌, ◌++◌, cond, length, map, get_or, nat_eq, Option, Some, None, slice_get, refl, sym, ap, subst, ◌∙◌, arith}
use Rattle.std.proofs.lemmas.List.{append_assoc, length-append}
use Rattle.std.proofs.lemmas.List.Sorted.{IsPermutation-map}
use Rattle.std.specs.List.{range_with_len}
use Rattle.std.specs.List.Sorted.{IsNonDecreasingBy, IsPermutation}
use Rattle.std.specs.Prelude.{filter}
use Rattle.p21_spec_laws.specs.CompleteFile.{Line}
use Rattle.p21_spec_laws.specs.OutputLaws.{lines_of}
use Rattle.p21_spec_laws.specs.Stored.{StoredEntry}
use Rattle.p21_stream_output.specs.Stored.{texts_at}
use Rattle.p21_stream_output.specs.Ending.{line_of, stored_of, stored_with}
use Rattle.p21_stream_output.specs.Filing.{section_at, section_of_membership}
use Rattle.p21_stream_store.specs.Memberships.{Membership}
use Rattle.p21_stream_store.specs.StoredInstance.{StoredInstance, name_at, text_at}

abbrev stored_in : List Membership → Option StoredInstance → StoredEntry
stored_in memberships (Some x) = stored_with (slice_get memberships x.membership) x
stored_in memberships None = record { name = 0; section = 0; entities = []; text = [] }

-- what is stored of the instance at a position
abbrev pub stored_at_place : List Membership → List StoredInstance → ℕ → StoredEntry
stored_at_place memberships kept place = stored_in memberships (slice_get kept place)

-- ---- what it consists of

with-section : (membership : Option Membership) (x : StoredInstance)
    → (stored_with membership x).section ≡ elim membership [ Some k ↦ k.section | None ↦ 0 ]
with-section (Some membership) x = refl
with-section None x = refl

with-name : (membership : Option Membership) (x : StoredInstance) → (stored_with membership x).name ≡ x.name
with-name (Some membership) x = refl
with-name None x = refl

with-text : (membership : Option Membership) (x : StoredInstance) → (stored_with membership x).text ≡ x.text
with-text (Some membership) x = refl
with-text None x = refl

in-section : (memberships : List Membership) (x : Option StoredInstance)
    → (stored_in memberships x).section ≡ elim x [ Some y ↦ section_of_membership memberships y.membership | None ↦ 0 ]
in-section memberships (Some x) = with-section (slice_get memberships x.membership) x
in-section memberships None = refl

in-text : (memberships : List Membership) (x : Option StoredInstance)
    → (stored_in memberships x).text ≡ elim x [ Some y ↦ y.text | None ↦ [] ]
in-text memberships (Some x) = with-text (slice_get memberships x.membership) x
in-text memberships None = refl

in-name : (memberships : List Membership) (x : Option StoredInstance)
    → (stored_in memberships x).name ≡ elim x [ None ↦ 0 | Some y ↦ y.name ]
in-name memberships (Some x) = with-name (slice_get memberships x.membership) x
in-name memberships None = refl

pub place-section : (memberships : List Membership) (kept : List StoredInstance) (place : ℕ)
    → (stored_at_place memberships kept place).section ≡ section_at memberships kept place
place-section memberships kept place = in-section memberships (slice_get kept place)

place-text : (memberships : List Membership) (kept : List StoredInstance) (place : ℕ)
    → (stored_at_place memberships kept place).text ≡ text_at kept place
place-text memberships kept place = in-text memberships (slice_get kept place)

place-name : (memberships : List Membership) (kept : List StoredInstance) (place : ℕ)
    → (stored_at_place memberships kept place).name ≡ name_at kept place
place-name memberships kept place = in-name memberships (slice_get kept place)

-- ---- at all positions

at-behind : (front : List StoredInstance) (x : StoredInstance) (rest : List StoredInstance)
    → slice_get (front ++ x ∷ rest) (length front) ≡ Some x
at-behind [] x rest = refl
at-behind (y ∷ front) x rest = at-behind front x rest

stored-behind : (memberships : List Membership) (front rest : List StoredInstance)
    → stored_of memberships rest ≡ map (stored_at_place memberships (front ++ rest)) (range_with_len (length front) (length rest))
stored-behind memberships front [] = refl
stored-behind memberships front (x ∷ rest) =
    let longer : length (front ++ x ∷ []) ≡ length front + 1 = length-append front (x ∷ []) in
    let moved : (front ++ x ∷ []) ++ rest ≡ front ++ x ∷ rest = append_assoc front (x ∷ []) rest in
    ap (λ (y : Option StoredInstance). stored_in memberships y ∷ stored_of memberships rest) (sym (at-behind front x rest))
    ∙ ap (λ (ys : List StoredEntry). stored_at_place memberships (front ++ x ∷ rest) (length front) ∷ ys)
    (stored-behind memberships (front ++ x ∷ []) rest ∙ ap
    (λ (all : List StoredInstance). map (stored_at_place memberships all) (range_with_len (length (front ++ x ∷ [])) (length rest)))
    moved
    ∙ ap (λ (n : ℕ). map (stored_at_place memberships (front ++ x ∷ rest)) (range_with_len n (length rest))) longer)

-- what is stored, in the order of positions
pub stored-in_order : (memberships : List Membership) (kept : List StoredInstance) (order : List ℕ)
    → IsPermutation (range_with_len 0 (length kept)) order
    → IsPermutation (stored_of memberships kept) (map (stored_at_place memberships kept) order)
stored-in_order memberships kept order instance_positions =
    let P : List StoredEntry → Type 0 = λ xs. IsPermutation xs (map (stored_at_place memberships kept) order) in
    subst P (sym (stored-behind memberships [] kept)) (IsPermutation-map (stored_at_place memberships kept) (range_with_len 0 (length kept))
    order instance_positions)

pub names-in_order : (memberships : List Membership) (kept : List StoredInstance) (order : List ℕ) → IsNonDecreasingBy (name_at kept) order
    → IsNonDecreasingBy (λ (p : ℕ). (stored_at_place memberships kept p).name) order
names-in_order memberships kept order rises i j d before within =
    omega (arith, rises i j d before within, place-name memberships kept (get_or order i d), place-name memberships kept (get_or order j d))

-- ---- texts

pub texts-of_lines : (memberships : List Membership) (kept : List StoredInstance) (instance_positions : List ℕ)
    → texts_at kept instance_positions ≡ map (λ (l : Line). l.1) (lines_of (map (stored_at_place memberships kept) instance_positions))
texts-of_lines memberships kept [] = refl
texts-of_lines memberships kept (place ∷ instance_positions) =
    ap (λ (text : List ℕ). text ∷ texts_at kept instance_positions) (sym (place-text memberships kept place))
    ∙ ap (λ (texts : List (List ℕ)). (stored_at_place memberships kept place).text ∷ texts)
    (texts-of_lines memberships kept instance_positions)

-- one test for each position
same-filter : (f g : ℕ → ℕ) → ((p : ℕ) → f p ≡ g p) → (number : ℕ) (order : List ℕ)
    → filter (λ (p : ℕ). nat_eq (f p) number) order ≡ filter (λ (p : ℕ). nat_eq (g p) number) order
same-filter f g same number [] = refl
same-filter f g same number (p ∷ order) =
    ap (λ (n : ℕ). cond (nat_eq n number) (p ∷ filter (λ (q : ℕ). nat_eq (f q) number) order)
    (filter (λ (q : ℕ). nat_eq (f q) number) order)) (same p)
    ∙ ap (λ (ps : List ℕ). cond (nat_eq (g p) number) (p ∷ ps) ps) (same-filter f g same number order)

pub filter-by_section : (memberships : List Membership) (kept : List StoredInstance) (number : ℕ) (order : List ℕ)
    → filter (λ (p : ℕ). nat_eq (section_at memberships kept p) number) order ≡ filter
    (λ (p : ℕ). nat_eq (stored_at_place memberships kept p).section number) order
filter-by_section memberships kept number order = same-filter (section_at memberships kept)
    (λ (p : ℕ). (stored_at_place memberships kept p).section) (λ p. sym (place-section memberships kept p)) number order

-- the lines of all instances
pub all-lines : (memberships : List Membership) (kept : List StoredInstance) → map line_of kept ≡ lines_of (stored_of memberships kept)
all-lines memberships [] = refl
all-lines memberships (x ∷ kept) =
    ap (λ (n : ℕ). (n, x.text) ∷ map line_of kept) (sym (with-name (slice_get memberships x.membership) x))
    ∙ ap (λ (t : List ℕ). ((stored_with (slice_get memberships x.membership) x).name, t) ∷ map line_of kept)
    (sym (with-text (slice_get memberships x.membership) x))
    ∙ ap (λ (ls : List Line). (
      (stored_with (slice_get memberships x.membership) x).name,
      (stored_with (slice_get memberships x.membership) x).text,
    ) ∷ ls) (all-lines memberships kept)
