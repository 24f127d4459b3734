-- References that are served needn't wait.
use Rattle.std.proofs.Common.{◌≡◌, ◌⊎◌, ◌<◌, ◌≤◌, ◌+◌, ◌∙◌, ℕ, ap, List, [], ◌∷◌, ◌++◌, Ok, length, take, drop, set, get_or, append_assoc, append-nil, arith, inl, inr, refl, subst, sym}
use Rattle.std.proofs.lemmas.Bool.{cases_lt}
use Rattle.std.proofs.lemmas.List.{drop-set-lt, drop_all, map-append, take-append-drop, take-set, take_more_set}
use Rattle.std.proofs.lemmas.List.Elements.{Contains-append_cases, Contains-append_left, Contains-append_right}
use Rattle.std.specs.List.{AllByRecursion as Each}
use Rattle.std.specs.Prelude.{Contains}
use Rattle.p21_spec_basics.proofs.Members.{Each-member, Each-of_members, Each-weaker}
use Rattle.p21_spec_basics.specs.Limits.{Limits}
use Rattle.p21_spec_laws.specs.CompleteFile.{Entry, SectionEntries, entries_in, entity_sets_in}
use Rattle.p21_spec_laws.proofs.Storing.{stored-serves}
use Rattle.p21_spec_laws.specs.Keeping.{IsServedBy, IsServedByNone, Keeps, Kept}
use Rattle.p21_spec_laws.specs.Stored.{StoredEntry}
use Rattle.p21_spec_laws.specs.Waiting.{Reference, references_in}
use Rattle.p21_spec_exchange.specs.Statement.{Statement}
use Rattle.p21_spec_file.specs.Reference.{IsServed}
use Rattle.p21_mapping_values.specs.TypedView.{need_view}
use Rattle.p21_spec_schema.specs.Schema.{Schema}
use Rattle.p21_stream_kept.proofs.Unserved.{left-among, left-or_served, references-from}
use Rattle.p21_stream_kept.specs.Inside.{reference_of, references_of}
use Rattle.p21_stream_kept.specs.Served.{DropsBehind, DropsServed}
use Rattle.p21_stream_kept.specs.Steps.{StepGives}
use Rattle.p21_stream_kept.specs.declared.kept.Reference as held

-- ---- references as they are looked at

-- Those that are left of the first stand in front, and those that are still to be looked at behind an index: what is left of these
-- follows those in front
pub record AreLooked (s : Schema) (stored : List StoredEntry) (front old : List Reference) (now : List held.Reference)
    (left index : ℕ) : Type 0 where
  pub in_front : left ≤ index
  pub follow : (rest : List Reference) → DropsServed s stored (references_of (drop index now)) rest
      → DropsBehind s stored front old (references_of (take left now) ++ rest)

pub looked-none : (s : Schema) (stored : List StoredEntry) (now : List held.Reference) (from : ℕ)
    → AreLooked s stored (references_of (take from now)) (references_of (drop from now)) now from from
looked-none s stored now from = record {
  in_front = omega (arith);
  follow =
      λ rest drops. record { left = rest; drops = drops; new_is = refl };
}

moved-one : (now : List held.Reference) (left : ℕ) (x : held.Reference) → left < length now → (rest : List Reference)
    → references_of (take left now) ++ reference_of x ∷ rest ≡ references_of (take (left + 1) (set now left x)) ++ rest
moved-one now left x low rest =
    sym (append_assoc (references_of (take left now)) (reference_of x ∷ []) rest)
    ∙ ap (λ (rs : List Reference). rs ++ rest) (sym (map-append reference_of (take left now) (x ∷ [])))
    ∙ ap (λ (xs : List held.Reference). references_of xs ++ rest) (sym (take_more_set now left x low))

module _ (s : Schema) (stored : List StoredEntry) (front old : List Reference) (now : List held.Reference) (left index : ℕ)
    (are : AreLooked s stored front old now left index) where
  -- what is left of those behind the next one, which was moved to the front
  next-left : (x : held.Reference) (rest : List Reference) → DropsServed s stored (references_of (drop (index + 1) (set now left x))) rest
      → DropsServed s stored (references_of (drop (index + 1) now)) rest
  next-left x rest drops = subst (λ (xs : List held.Reference). DropsServed s stored (references_of xs) rest)
      (drop-set-lt (index + 1) now left x (omega (arith, are.in_front))) drops

  -- the next one is served
  pub looked-served : (x : held.Reference) → x ≡ get_or now index x → index < length now → IsServedBy s stored (need_view x.need)
      → AreLooked s stored front old (set now left x) left (index + 1)
  looked-served x is low served = record {
    in_front = omega (arith, are.in_front);
    follow = λ rest drops.
        subst (λ (xs : List held.Reference). DropsBehind s stored front old (references_of xs ++ rest)) (sym (take-set now left x))
        (are.follow rest (subst (λ (rs : List Reference). DropsServed s stored rs rest) (sym (references-from now index x is low))
        (inl (served, next-left x rest drops))));
  }

  -- none serves the next one
  pub looked-unserved : (x : held.Reference) → x ≡ get_or now index x → index < length now → IsServedByNone s stored (need_view x.need)
      → AreLooked s stored front old (set now left x) (left + 1) (index + 1)
  looked-unserved x is low none = record {
    in_front = omega (arith, are.in_front);
    follow = λ rest drops.
        subst (DropsBehind s stored front old) (moved-one now left x (omega (arith, are.in_front, low)) rest)
        (are.follow (reference_of x ∷ rest) (subst (λ (rs : List Reference). DropsServed s stored rs (reference_of x ∷ rest))
        (sym (references-from now index x is low)) (inr (none, (rest, refl, next-left x rest drops)))));
  }

  pub looked-all : length now ≤ index → DropsBehind s stored front old (references_of (take left now))
  looked-all past =
      subst (DropsBehind s stored front old) (append-nil (references_of (take left now)))
      (are.follow [] (subst (λ (rs : List Reference). DropsServed s stored rs []) (sym (ap references_of (drop_all index now past)))
      refl))

-- ---- what is kept stays kept

-- the references without some that are served
pub record Leaves (s : Schema) (stored : List StoredEntry) (old new : List Reference) : Type 0 where
  pub are_old : Each (Contains old) new
  pub others_served : Each (λ (r : Reference). Contains new r ⊎ IsServedBy s stored r.1) old

leaves-all : (s : Schema) (stored : List StoredEntry) (old : List Reference) → Leaves s stored old old
leaves-all s stored old = record {
  are_old = Each-of_members (Contains old) old (λ r among. among);
  others_served = Each-of_members (λ (r : Reference). Contains old r ⊎ IsServedBy s stored r.1) old (λ r among. inl among);
}

leaves-unserved : (s : Schema) (stored : List StoredEntry) (old left : List Reference) → DropsServed s stored old left
    → Leaves s stored old left
leaves-unserved s stored old left drops = record {
  are_old = left-among s stored (λ (r : Reference). r.1) old left drops;
  others_served =
      left-or_served s stored (λ (r : Reference). r.1) old left drops;
}

-- with some in front that stay
leaves-behind : (s : Schema) (stored : List StoredEntry) (front old left : List Reference) → Leaves s stored old left
    → Leaves s stored (front ++ old) (front ++ left)
leaves-behind s stored front old left is =
    let S : Reference → Type 0 = λ r. IsServedBy s stored r.1 in
    let O : Reference → Type 0 = Contains (front ++ old) in
    let L : Reference → Type 0 = λ r. Contains (front ++ left) r ⊎ S r in
    record {
      are_old = Each-of_members O (front ++ left) (λ r among. elim (Contains-append_cases front left r among) [
        | inl here ↦ Contains-append_left front old r here
        | inr later ↦ Contains-append_right front old r (Each-member (Contains old) left r is.are_old later)
      ]);
      others_served = Each-of_members L (front ++ old) (λ r among. elim (Contains-append_cases front old r among) [
        | inl here ↦ inl (Contains-append_left front left r here)
        | inr later ↦ elim (Each-member (λ (q : Reference). Contains left q ⊎ S q) old r is.others_served later) [
          | inl stays ↦ inl (Contains-append_right front left r stays)
          | inr served ↦ inr served
        ]
      ]);
    }

keeps-dropped : (s : Schema) (limits : Limits) (given : List Statement) (kept : Kept) (waiting : List Reference)
    → Leaves s kept.stored kept.waiting waiting → Keeps s limits given kept → Keeps s limits given (record kept { waiting = waiting })
keeps-dropped s limits given kept waiting drops keeps =
    let groups : List SectionEntries = keeps.groups in
    let entries : List Entry = entries_in groups in
    let N : Reference → Type 0 = Contains (references_in entries) in
    let S : Reference → Type 0 = λ r. IsServed s (entity_sets_in entries) r.1 in
    let moves : (r : Reference) → Contains kept.waiting r ⊎ S r → Contains waiting r ⊎ S r = λ r it. elim it [
      | inl among ↦ elim (Each-member (λ (q : Reference). Contains waiting q ⊎ IsServedBy s kept.stored q.1) kept.waiting r
          drops.others_served among) [
            | inl left ↦ inl left
            | inr by ↦ inr (stored-serves s kept.lines groups kept.stored keeps.store r.1 by.0 by.1 by.2 by.3)
          ]
      | inr served ↦ inr served
    ] in
    record {
      groups = groups;
      unrefused = keeps.unrefused;
      header_is = keeps.header_is;
      headings_are = keeps.headings_are;
      store = keeps.store;
      waits = record {
        are_needs = Each-weaker (Contains kept.waiting) N (λ r among. Each-member N kept.waiting r keeps.waits.are_needs among) waiting
            drops.are_old;
        others_served = Each-weaker (λ (r : Reference). Contains kept.waiting r ⊎ S r) (λ (r : Reference). Contains waiting r ⊎ S r) moves
            (references_in entries) keeps.waits.others_served;
      };
      references_are = keeps.references_are;
      bytes_are = keeps.bytes_are;
      framing_is = keeps.framing_is;
      equal_is = keeps.equal_is;
    }

-- a statement that was taken is kept without them
pub took-dropped : (s : Schema) (limits : Limits) (old mid : Kept) (waiting : List Reference) (statement : Statement)
    → Leaves s mid.stored mid.waiting waiting → StepGives s limits old statement (Ok tt) mid
    → StepGives s limits old statement (Ok tt) (record mid { waiting = waiting })
took-dropped s limits old mid waiting statement leaves gives given keeps =
    keeps-dropped s limits (given ++ statement ∷ []) mid waiting leaves (gives given keeps)

-- none is looked at, or those that have come, or all
pub looked : (s : Schema) (stored : List StoredEntry) (come due count : ℕ) (old new : List held.Reference)
    → (come ≤ due → length old < count + 1024 → new ≡ old)
    → (come ≤ due → count + 1024 ≤ length old → DropsBehind s stored (references_of (take count old)) (references_of (drop count old))
    (references_of new)) → (due < come → DropsServed s stored (references_of old) (references_of new))
    → Leaves s stored (references_of old) (references_of new)
looked s stored come due count old new early together left = elim (cases_lt due come) [
  | inl h ↦ leaves-unserved s stored (references_of old) (references_of new) (left h)
  | inr h ↦
      let calm : come ≤ due = omega (arith, h) in
      elim (cases_lt (length old) (count + 1024)) [
        | inl few ↦ subst (Leaves s stored (references_of old)) (sym (ap references_of (early calm few)))
            (leaves-all s stored (references_of old))
        | inr h ↦
            let many : count + 1024 ≤ length old = omega (arith, h) in
            let front : List Reference = references_of (take count old) in
            let behind : List Reference = references_of (drop count old) in
            let drops : DropsBehind s stored front behind (references_of new) = together calm many in
            let whole : front ++ behind ≡ references_of old = sym (map-append reference_of (take count old) (drop count old))
            ∙ ap references_of (take-append-drop count old) in
            subst (λ (rs : List Reference). Leaves s stored rs (references_of new)) whole
            (subst (Leaves s stored (front ++ behind)) (sym drops.new_is)
            (leaves-behind s stored front behind drops.left (leaves-unserved s stored behind drops.left drops.drops)))
      ]
]
