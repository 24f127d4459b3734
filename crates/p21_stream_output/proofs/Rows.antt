-- Rows with one more position.
use Rattle.std.proofs.Common.{◌≡◌, ◌+◌, ◌<◌, ◌≤◌, ℕ, zero, suc, List, [], ◌∷◌, ◌++◌, Bool, cond, length, take, get_or, nat_eq, inl, inr, Option, None, slice_set, refl, sym, ap, subst, ◌∙◌, arith}
use Rattle.std.proofs.lemmas.Bool.Decides.{eqb_tells}
use Rattle.std.specs.Prelude.{filter}
use Rattle.std.proofs.lemmas.List.{append_assoc, append-nil, take_more}
use Rattle.std.proofs.lemmas.Option.{get_or_from_slice_get, slice_get_within}
use Rattle.std.specs.Prelude.{slice_get, Some}
use Rattle.p21_spec_basics.proofs.Members.{Each-at}
use Rattle.p21_stream_output.specs.Filing.{AreOfSections, filed_rows, heads_of, section_positions, section_at, section_of_membership, with_position}
use Rattle.p21_stream_output.specs.NamedSections.{AreEmpty}
use Rattle.p21_stream_output.specs.declared.named_sections.NamedSection.{NamedSection}
use Rattle.p21_stream_store.specs.Memberships.{Membership}
use Rattle.p21_stream_store.specs.StoredInstance.{StoredInstance}

filed-more : (f : ℕ → ℕ) (order : List ℕ) (place : ℕ) (rows : List (List ℕ))
    → filed_rows f (order ++ place ∷ []) rows ≡ with_position (f place) place (filed_rows f order rows)
filed-more f [] place rows = refl
filed-more f (x ∷ order) place rows = filed-more f order place (with_position (f x) x rows)

-- one more position is filed
pub more-filed : (f : ℕ → ℕ) (order : List ℕ) (k place section : ℕ) (old now new : List (List ℕ)) → slice_get order k ≡ Some place
    → now ≡ filed_rows f (take k order) old → section ≡ f place → new ≡ with_position section place now
    → new ≡ filed_rows f (take (k + 1) order) old
more-filed f order k place section old now new at so_far is more =
    more ∙ ap (λ (n : ℕ). with_position n place now) is ∙ ap (with_position (f place) place) so_far
    ∙ sym (filed-more f (take k order) place old)
    ∙ ap (λ (p : ℕ). filed_rows f (take k order ++ p ∷ []) old) (sym (get_or_from_slice_get order k place place at))
    ∙ ap (λ (o : List ℕ). filed_rows f o old) (sym (take_more order k place (slice_get_within order k place at)))

-- ---- one row is longer, and the names and lines are as before

pub row-put : (parts : List NamedSection) (section place : ℕ) (old new : NamedSection) → section < length parts
    → ((d : NamedSection) → old ≡ get_or parts section d) → new.instance_positions ≡ old.instance_positions ++ place ∷ []
    → section_positions (slice_set parts section new) ≡ with_position section place (section_positions parts)
row-put [] section place old new low at longer = absurd (omega (arith, low))
row-put (part ∷ parts) zero place old new low at longer =
    ap (λ (ns : List ℕ). ns ∷ section_positions parts) (longer ∙ ap (λ (x : NamedSection). x.instance_positions ++ place ∷ []) (at part))
row-put (part ∷ parts) (suc section) place old new low at longer =
    ap (λ (more : List (List ℕ)). part.instance_positions ∷ more)
    (row-put parts section place old new (omega (arith, low)) (λ d. at d) longer)

pub row-none : (parts : List NamedSection) (section place : ℕ) → length parts ≤ section
    → section_positions parts ≡ with_position section place (section_positions parts)
row-none [] section place above = refl
row-none (part ∷ parts) zero place above = absurd (omega (arith, above))
row-none (part ∷ parts) (suc section) place above =
    ap (λ (more : List (List ℕ)). part.instance_positions ∷ more) (row-none parts section place (omega (arith, above)))

pub heads-put : (parts : List NamedSection) (section : ℕ) (old new : NamedSection) → ((d : NamedSection) → old ≡ get_or parts section d)
    → new.name.items ≡ old.name.items → new.line.items ≡ old.line.items → heads_of (slice_set parts section new) ≡ heads_of parts
heads-put [] section old new at name line = refl
heads-put (part ∷ parts) zero old new at name line =
    ap (λ (n : List ℕ). (n, new.line.items) ∷ heads_of parts) (name ∙ ap (λ (x : NamedSection). x.name.items) (at part))
    ∙ ap (λ (l : List ℕ). (part.name.items, l) ∷ heads_of parts) (line ∙ ap (λ (x : NamedSection). x.line.items) (at part))
heads-put (part ∷ parts) (suc section) old new at name line =
    ap (λ (more : List (List ℕ × List ℕ)). (part.name.items, part.line.items) ∷ more)
    (heads-put parts section old new (λ d. at d) name line)

-- ---- what each row holds at the end

with_position-size : (s place : ℕ) (rows : List (List ℕ)) → length (with_position s place rows) ≡ length rows
with_position-size s place [] = refl
with_position-size zero place (row ∷ rows) = refl
with_position-size (suc s) place (row ∷ rows) = let rest = with_position-size s place rows in omega (arith, rest)

pub filed-size : (f : ℕ → ℕ) (order : List ℕ) (rows : List (List ℕ)) → length (filed_rows f order rows) ≡ length rows
filed-size f [] rows = refl
filed-size f (place ∷ order) rows = filed-size f order (with_position (f place) place rows) ∙ with_position-size (f place) place rows

-- the row of this section is longer, another is not
own-row : (s place : ℕ) (rows : List (List ℕ)) → s < length rows → get_or (with_position s place rows) s [] ≡ get_or rows s [] ++ place ∷ []
own-row s place [] low = absurd (omega (arith, low))
own-row zero place (row ∷ rows) low = refl
own-row (suc s) place (row ∷ rows) low = own-row s place rows (omega (arith, low))

other-row : (s i place : ℕ) (rows : List (List ℕ)) → (s ≡ i → ⊥) → get_or (with_position s place rows) i [] ≡ get_or rows i []
other-row s i place [] differ = refl
other-row zero zero place (row ∷ rows) differ = absurd (differ refl)
other-row zero (suc i) place (row ∷ rows) differ = refl
other-row (suc s) zero place (row ∷ rows) differ = refl
other-row (suc s) (suc i) place (row ∷ rows) differ = other-row s i place rows (λ same. differ (ap suc same))

-- each row holds the positions of its section, in their order, behind what it held
pub row-filed : (f : ℕ → ℕ) (order : List ℕ) (rows : List (List ℕ)) (i : ℕ) → i < length rows
    → get_or (filed_rows f order rows) i [] ≡ get_or rows i [] ++ filter (λ (place : ℕ). nat_eq (f place) i) order
row-filed f [] rows i low = sym (append-nil (get_or rows i []))
row-filed f (place ∷ order) rows i low =
    let size = with_position-size (f place) place rows in
    row-filed f order (with_position (f place) place rows) i (omega (arith, low, size)) ∙ elim (eqb_tells (f place) i) [
      | inl (equal, same) ↦
          let own : get_or (with_position (f place) place rows) i [] ≡ get_or rows i [] ++ place ∷ [] =
          let P : ℕ → Type 0 = λ n. get_or (with_position n place rows) i [] ≡ get_or rows i [] ++ place ∷ [] in
          subst P (sym same) (own-row i place rows low) in
          ap (λ (xs : List ℕ). xs ++ filter (λ (p : ℕ). nat_eq (f p) i) order) own
          ∙ append_assoc (get_or rows i []) (place ∷ []) (filter (λ (p : ℕ). nat_eq (f p) i) order)
          ∙ ap (λ (b : Bool). get_or rows i [] ++ cond b (place ∷ filter (λ (p : ℕ). nat_eq (f p) i) order)
          (filter (λ (p : ℕ). nat_eq (f p) i) order)) (sym equal)
      | inr (other, differ) ↦
          ap (λ (xs : List ℕ). xs ++ filter (λ (p : ℕ). nat_eq (f p) i) order) (other-row (f place) i place rows differ)
          ∙ ap (λ (b : Bool). get_or rows i [] ++ cond b (place ∷ filter (λ (p : ℕ). nat_eq (f p) i) order)
          (filter (λ (p : ℕ). nat_eq (f p) i) order)) (sym other)
    ]

row-at : (parts : List NamedSection) (i : ℕ) (part : NamedSection) → slice_get parts i ≡ Some part
    → (part.instance_positions ≡ get_or (section_positions parts) i []) × (i < length (section_positions parts))
row-at [] i part at = cc
row-at (x ∷ parts) zero part at = let same : x ≡ part = cc in (ap (λ (y : NamedSection). y.instance_positions) (sym same), omega arith)
row-at (x ∷ parts) (suc i) part at = let rest = row-at parts i part at in (rest.0, let below = rest.1 in omega (arith, below))

row-empty : (parts : List NamedSection) (i : ℕ) → AreEmpty parts → get_or (section_positions parts) i [] ≡ []
row-empty [] i none = refl
row-empty (x ∷ parts) zero none = none.0
row-empty (x ∷ parts) (suc i) none = row-empty parts i none.1

-- the same, where the rows held no position
pub part-filed : (f : ℕ → ℕ) (order : List ℕ) (old new : List NamedSection) → AreEmpty old
    → section_positions new ≡ filed_rows f order (section_positions old) → (i : ℕ) (part : NamedSection) → slice_get new i ≡ Some part
    → part.instance_positions ≡ filter (λ (place : ℕ). nat_eq (f place) i) order
part-filed f order old new none are i part at =
    let (row, low) = row-at new i part at in
    let many = ap length are ∙ filed-size f order (section_positions old) in
    row
    ∙ ap (λ (rows : List (List ℕ)). get_or rows i []) are
    ∙ row-filed f order (section_positions old) i (omega (arith, low, many))
    ∙ ap (λ (ns : List ℕ). ns ++ filter (λ (place : ℕ). nat_eq (f place) i) order) (row-empty old i none)

-- ---- one section alone

pub row-given : (parts : List NamedSection) (part : NamedSection) (instance_positions : List ℕ) → length parts ≡ 1
    → part.instance_positions ≡ instance_positions → section_positions (slice_set parts 0 part) ≡ instance_positions ∷ []
row-given [] part instance_positions one are = absurd (omega (arith, one))
row-given (x ∷ []) part instance_positions one are = ap (λ (ns : List ℕ). ns ∷ []) are
row-given (x ∷ y ∷ parts) part instance_positions one are = absurd (omega (arith, one))

-- each position is in the first section, where each membership is of it
first-section : (memberships : List Membership) (kept : List StoredInstance) → AreOfSections 1 memberships → (place : ℕ)
    → section_at memberships kept place ≡ 0
first-section memberships kept all place = of_instance (slice_get kept place) where
  of_kind : (number : ℕ) (membership : Option Membership) → slice_get memberships number ≡ membership
      → ◌≡◌ {A = ℕ} (elim membership [ Some k ↦ k.section | None ↦ 0 ]) 0
  of_kind number None is = refl
  of_kind number (Some membership) is = let below = Each-at (λ (x : Membership). x.section < 1) memberships number membership all is in
      omega (arith, below)

  of_instance : (found : Option StoredInstance) → ◌≡◌ {A = ℕ}
      (elim found [ Some x ↦ section_of_membership memberships x.membership | None ↦ 0 ]) 0
  of_instance None = refl
  of_instance (Some x) = of_kind x.membership (slice_get memberships x.membership) refl

filed-first : (f : ℕ → ℕ) → ((place : ℕ) → f place ≡ 0) → (order row : List ℕ) → filed_rows f order (row ∷ []) ≡ (row ++ order) ∷ []
filed-first f first [] row = ap (λ (ns : List ℕ). ns ∷ []) (sym (append-nil row))
filed-first f first (place ∷ order) row =
    ap (λ (n : ℕ). filed_rows f order (with_position n place (row ∷ []))) (first place) ∙ filed-first f first order (row ++ place ∷ [])
    ∙ ap (λ (ns : List ℕ). ns ∷ []) (append_assoc row (place ∷ []) order)

-- so the first section gets all positions in their order
pub one-filed : (memberships : List Membership) (kept : List StoredInstance) (order : List ℕ) (parts : List NamedSection)
    → AreOfSections (length parts) memberships → AreEmpty parts → length parts ≡ 1
    → order ∷ [] ≡ filed_rows (section_at memberships kept) order (section_positions parts)
one-filed memberships kept order [] all none one = absurd (omega (arith, one))
one-filed memberships kept order (x ∷ []) all none one =
    sym (ap (λ (ns : List ℕ). filed_rows (section_at memberships kept) order (ns ∷ [])) none.0
    ∙ filed-first (section_at memberships kept) (first-section memberships kept all) order [])
one-filed memberships kept order (x ∷ y ∷ parts) all none one = absurd (omega (arith, one))
