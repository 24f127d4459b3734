-- Files that mean the same but for names have graphs that are the same but for the names of nodes.
use Rattle.std.specs.Prelude.{◌≡◌, ℕ, Bool, true, false, List, [], ◌∷◌, ◌++◌, map, Contains, Some, refl, nat_eq, if◌then◌else◌, Option, ◌+◌}
use Rattle.std.specs.List.{flat_map, AllByRecursion as Each}
use Rattle.std.proofs.Common.{ap, sym, subst, ◌∙◌, inl, inr, true≢false}
use Rattle.std.proofs.lemmas.Bool.{eqb-true, eq-eqb}
use Rattle.std.proofs.lemmas.List.{map-append}
use Rattle.std.proofs.lemmas.List.Elements.{Contains-append_left, Contains-append_right, Contains-append_cases}
use Rattle.p21_spec_basics.proofs.Members.{Contains-none, Contains-first, Contains-cases, Contains-mapped, Contains-unmapped}
use Rattle.p21_spec_basics.proofs.Shuffles.{AreMembers, NoneTwice, distinct-none_twice, none_twice-distinct, Shuffled}
use Rattle.p21_spec_exchange.specs.DataSection.{Heading}
use Rattle.p21_spec_file.specs.File.{FileMeaning}
use Rattle.p21_spec_file.specs.Meaning.{Typed}
use Rattle.p21_spec_file.specs.SameFile.{SameFileMeaning, SameTyped}
use Rattle.p21_spec_file.specs.Value.{Value, whole, real, number, text, bits, item, reference, derived, missing, list, array, set, bag, typed, Values, no_values, value}
use Rattle.p21_spec_file.proofs.SameFiles.{SameTyped-symmetric}
use Rattle.p21_spec_schema.specs.Schema.{Schema}
use Rattle.p21_spec_numbering.proofs.Lists.{map-mapped, members-shuffled}
use Rattle.p21_spec_numbering.proofs.Ranks.{IsMoved}
use Rattle.p21_spec_numbering.proofs.Renaming.{names-renamed, old-name, new-name, undo, undo-is}
use Rattle.p21_spec_numbering.proofs.Settled.{settled-rows_renamed}
use Rattle.p21_spec_numbering.proofs.Labels.{unnamed-same, unnamed-renamed}
use Rattle.p21_spec_numbering.proofs.Uses.{typed_uses-renamed, typed_uses-same, places_to-moved, places_to-members}
use Rattle.p21_spec_numbering.specs.Numbered.{found, heading_label, typed_label, unnamed_text, places_in, graph_of}
use Rattle.p21_spec_numbering.specs.Renamed.{renamed_value, renamed_values, renamed_typed, renamed_instance, renamed_section, renamed, names, IsInjectiveOn, targets, targets_in, IsWhole}
use Rattle.p21_spec_numbering.specs.Settled.{AreSettled, HasSettledValues}
use Rattle.p21_spec_numbering.specs.Uses.{Use, within, value_uses, uses_from, uses_among, rows_uses, typed_uses, places_to}

-- ---- what stands beside a name

pub found-is : {X : Type 0} (xs : List (ℕ × X)) → NoneTwice (map (λ (i : ℕ × X). i.0) xs) → (n : ℕ) (x : X) → Contains xs (n, x)
    → found xs n ≡ Some x
found-is [] none n x among = absurd (Contains-none (n, x) among)
found-is {X} (i ∷ is) none n x among = by_test (nat_eq i.0 n) refl (found-is is none.1 n x)
  where
    by_test : (b : Bool) → nat_eq i.0 n ≡ b → (Contains is (n, x) → found is n ≡ Some x) → (if b then Some i.1 else found is n) ≡ Some x
    by_test true e more = elim (Contains-cases i is (n, x) among) [
      | inl h ↦ ap (λ (p : ℕ × X). Some p.1) h
      | inr h ↦
          let P : ℕ → Type 0 = λ k. Contains (map (λ (j : ℕ × X). j.0) is) k in
          absurd (none.0 (subst P (sym (eqb-true i.0 n e)) (Contains-mapped (λ (j : ℕ × X). j.0) is (n, x) h)))
    ]
    by_test false e more = elim (Contains-cases i is (n, x) among) [
      | inl h ↦ absurd (true≢false (sym (eq-eqb i.0 n (ap (λ (p : ℕ × X). p.0) h)) ∙ e))
      | inr h ↦ more h
    ]

pub names-none_twice : (m : FileMeaning) → IsWhole m → NoneTwice (names m)
names-none_twice m whole_ = distinct-none_twice (names m) whole_.names_differ

pub sections-none_twice : (m : FileMeaning) → IsWhole m → NoneTwice (map (λ (i : ℕ × Heading). i.0) m.instance_sections)
sections-none_twice m whole_ = let P : List ℕ → Type 0 = NoneTwice in subst P (sym whole_.in_sections) (names-none_twice m whole_)

-- the label of an instance in terms of what it means and of its section
pub label-is : (s : Schema) (m : FileMeaning) → IsWhole m → (n : ℕ) (x : Typed) (h : Heading) → Contains m.instances (n, x)
    → Contains m.instance_sections (n, h)
    → (graph_of s m).label n ≡ heading_label (Some h) ++ (unnamed_text s x.entities x.values ∷ [])
label-is s m whole_ n x h at in_section =
    ap (λ (o : Option Heading). heading_label o ++ typed_label s (found m.instances n)) (found-is m.instance_sections (sections-none_twice m whole_) n h in_section)
    ∙ ap (λ (o : Option Typed). heading_label (Some h) ++ typed_label s o) (found-is m.instances (names-none_twice m whole_) n x at)

pub places-is : (s : Schema) (m : FileMeaning) → IsWhole m → (n t : ℕ) (x : Typed) → Contains m.instances (n, x)
    → (graph_of s m).places n t ≡ places_to t (typed_uses x)
places-is s m whole_ n t x at = ap (λ (o : Option Typed). places_in o t) (found-is m.instances (names-none_twice m whole_) n x at)

-- ---- uses lead to targets

within-target : (k : ℕ) (us : List Use) (ts : List ℕ) → ((u : Use) → Contains us u → Contains ts u.1) → (u : Use)
    → Contains (map (within k) us) u → Contains ts u.1
within-target k us ts to u among =
    let (w, at, is) = Contains-unmapped (within k) us u among in
    let P : Use → Type 0 = λ z. Contains ts z.1 in
    subst P is (to w at)

joined-target : (us vs : List Use) (ts rs : List ℕ) → ((u : Use) → Contains us u → Contains ts u.1)
    → ((u : Use) → Contains vs u → Contains rs u.1) → (u : Use) → Contains (us ++ vs) u → Contains (ts ++ rs) u.1
joined-target us vs ts rs to to_ u among = elim (Contains-append_cases us vs u among) [
  | inl h ↦ Contains-append_left ts rs u.1 (to u h)
  | inr h ↦ Contains-append_right ts rs u.1 (to_ u h)
]

mutual
  value_uses-target : (v : Value) (u : Use) → Contains (value_uses v) u → Contains (targets v) u.1
  value_uses-target (whole z) u among = absurd (Contains-none u among)
  value_uses-target (real d) u among = absurd (Contains-none u among)
  value_uses-target (number d) u among = absurd (Contains-none u among)
  value_uses-target (text chars) u among = absurd (Contains-none u among)
  value_uses-target (bits bs) u among = absurd (Contains-none u among)
  value_uses-target (item word) u among = absurd (Contains-none u among)
  value_uses-target (reference n) u among = Contains-mapped (λ (w : Use). w.1) (([], n) ∷ []) u among
  value_uses-target derived u among = absurd (Contains-none u among)
  value_uses-target missing u among = absurd (Contains-none u among)
  value_uses-target (list vs) u among = uses_from-target 1 vs u among
  value_uses-target (array vs) u among = uses_from-target 1 vs u among
  value_uses-target (set vs) u among = uses_among-target vs u among
  value_uses-target (bag vs) u among = uses_among-target vs u among
  value_uses-target (typed t v) u among = value_uses-target v u among

  uses_from-target : (k : ℕ) (vs : Values) (u : Use) → Contains (uses_from k vs) u → Contains (targets_in vs) u.1
  uses_from-target k no_values u among = absurd (Contains-none u among)
  uses_from-target k (value v vs) u among =
      joined-target (map (within k) (value_uses v)) (uses_from (k + 1) vs) (targets v) (targets_in vs) (within-target k (value_uses v) (targets v) (value_uses-target v)) (uses_from-target (k + 1) vs) u among

  uses_among-target : (vs : Values) (u : Use) → Contains (uses_among vs) u → Contains (targets_in vs) u.1
  uses_among-target no_values u among = absurd (Contains-none u among)
  uses_among-target (value v vs) u among =
      joined-target (map (within 0) (value_uses v)) (uses_among vs) (targets v) (targets_in vs) (within-target 0 (value_uses v) (targets v) (value_uses-target v)) (uses_among-target vs) u among

pub rows_uses-target : (k : ℕ) (rows : List Values) (u : Use) → Contains (rows_uses k rows) u → Contains (flat_map targets_in rows) u.1
rows_uses-target k [] u among = absurd (Contains-none u among)
rows_uses-target k (vs ∷ rows) u among =
    joined-target (map (within k) (uses_from 0 vs)) (rows_uses (k + 1) rows) (targets_in vs) (flat_map targets_in rows) (within-target k (uses_from 0 vs) (targets_in vs) (uses_from-target 0 vs)) (rows_uses-target (k + 1) rows) u among

-- ---- names that stay apart

pub none_twice-mapped : (f : ℕ → ℕ) (ns : List ℕ) → IsInjectiveOn ns f → NoneTwice ns → NoneTwice (map f ns)
none_twice-mapped f [] injective none = tt
none_twice-mapped f (n ∷ ns) injective none = (
  λ among. let (m, at, is) = Contains-unmapped f ns (f n) among in
      let P : ℕ → Type 0 = λ k. Contains ns k in
      none.0 (subst P (injective m n (later m at) (Contains-first n ns) is) at),
  none_twice-mapped f ns (λ m k at at_ same. injective m k (later m at) (later k at_) same) none.1,
)
  where
    later : (m : ℕ) → Contains ns m → Contains (n ∷ ns) m
    later m at = Contains-append_right (n ∷ []) ns m at

-- ---- the graphs

-- an instance, and the one of the other file that it is
pub record IsBeside (f : ℕ → ℕ) (a b : FileMeaning) (n : ℕ) : Type 0 where
  pub x : Typed
  pub y : Typed
  pub heading : Heading
  pub at : Contains a.instances (n, x)
  pub other : Contains b.instances (f n, y)
  pub same : SameTyped (renamed_typed f x) y
  pub section : Contains a.instance_sections (n, heading)
  pub other_section : Contains b.instance_sections (f n, heading)

pub beside : (f : ℕ → ℕ) (a b : FileMeaning) → IsWhole a → SameFileMeaning (renamed f a) b → (n : ℕ) → Contains (names a) n
    → IsBeside f a b n
beside f a b whole_ same n among =
    let (i, at, is) = Contains-unmapped (λ (i : ℕ × Typed). i.0) a.instances n among in
    let P : List ℕ → Type 0 = λ ns. Contains ns n in
    let (j, at_, is_) = Contains-unmapped (λ (j : ℕ × Heading). j.0) a.instance_sections n (subst P (sym whole_.in_sections) among) in
    let Q : ℕ → Type 0 = λ k. Contains a.instances (k, i.1) in
    let R : ℕ → Type 0 = λ k. Contains a.instance_sections (k, j.1) in
    let own : Contains a.instances (n, i.1) = subst Q is at in
    let own_section : Contains a.instance_sections (n, j.1) = subst R is_ at_ in
    let (y, found_, same_) = same.onto (f n) (renamed_typed f i.1) (Contains-mapped (renamed_instance f) a.instances (n, i.1) own) in
    record { x = i.1; y = y; heading = j.1; at = own; other = found_; same = same_; section = own_section; other_section = (same.instance_sections (f n, j.1)).0 (Contains-mapped (renamed_section f) a.instance_sections (n, j.1) own_section) }

-- the names are the new names, in some order
pub names-moved : (f : ℕ → ℕ) (a b : FileMeaning) → IsWhole a → IsWhole b → IsInjectiveOn (names a) f → SameFileMeaning (renamed f a) b
    → Shuffled (map f (names a)) (names b)
names-moved f a b whole_ whole_b injective same = members-shuffled (map f (names a)) (names b) (none_twice-mapped f (names a) injective (names-none_twice a whole_)) (names-none_twice b whole_b) to back
  where
    to : AreMembers (map f (names a)) (names b)
    to n among = let (m, at, is) = Contains-unmapped f (names a) n among in let P : ℕ → Type 0 = λ k. Contains (names b) k in subst P is (new-name f a b same m at)

    back : AreMembers (names b) (map f (names a))
    back n among = let (m, at, is) = old-name f a b same n among in let P : ℕ → Type 0 = λ k. Contains (map f (names a)) k in subst P is (Contains-mapped f (names a) m at)

-- what means the same with other names has the same graph with other names
pub moved-same : (s : Schema) (f : ℕ → ℕ) (a b : FileMeaning) → IsWhole a → IsWhole b → HasSettledValues a → HasSettledValues b
    → IsInjectiveOn (names a) f → SameFileMeaning (renamed f a) b → IsMoved f (graph_of s a) (graph_of s b)
moved-same s f a b whole_ whole_b settled settled_b injective same =
    record { nodes = names-moved f a b whole_ whole_b injective same; labels = labels; places = places }
  where
    labels : (n : ℕ) → Contains (names a) n → (graph_of s b).label (f n) ≡ (graph_of s a).label n
    labels n among =
        let h = beside f a b whole_ same n among in
        let rows : Each AreSettled (map (renamed_values f) h.x.values) = settled-rows_renamed f (undo f (names a)) h.x.values (λ t at. undo-is f (names a) injective t (whole_.closed n h.x h.at t at)) (settled n h.x h.at) in
        let one : unnamed_text s h.x.entities h.x.values ≡ unnamed_text s h.y.entities h.y.values =
        sym (unnamed-renamed s f h.x.entities h.x.values)
        ∙ unnamed-same s h.x.entities (map (renamed_values f) h.x.values) h.y.values rows (settled_b (f n) h.y h.other) h.same.1
        ∙ ap (λ (es : List ℕ). unnamed_text s es h.y.values) h.same.0 in
        label-is s b whole_b (f n) h.y h.heading h.other h.other_section
        ∙ ap (λ (z : List ℕ). heading_label (Some h.heading) ++ (z ∷ [])) (sym one)
        ∙ sym (label-is s a whole_ n h.x h.heading h.at h.section)

    places : (m n : ℕ) → Contains (names a) m → Contains (names a) n → (graph_of s b).places (f m) (f n) ≡ (graph_of s a).places m n
    places m n among among_ =
        let h = beside f a b whole_ same m among in
        places-is s b whole_b (f m) (f n) h.y h.other
        ∙ places_to-members (f n) (typed_uses h.y) (typed_uses (renamed_typed f h.x)) (typed_uses-same h.y (renamed_typed f h.x) (SameTyped-symmetric (renamed_typed f h.x) h.y h.same)) (typed_uses-same (renamed_typed f h.x) h.y h.same)
        ∙ ap (places_to (f n)) (typed_uses-renamed f h.x)
        ∙ places_to-moved f n (typed_uses h.x) (λ u at one. injective u.1 n (whole_.closed m h.x h.at u.1 (rows_uses-target 0 h.x.values u at)) among_ one)
        ∙ sym (places-is s a whole_ m n h.x h.at)

-- ---- other names leave a meaning whole, with settled values

mutual
  targets-renamed : (f : ℕ → ℕ) (v : Value) → targets (renamed_value f v) ≡ map f (targets v)
  targets-renamed f (whole z) = refl
  targets-renamed f (real d) = refl
  targets-renamed f (number d) = refl
  targets-renamed f (text chars) = refl
  targets-renamed f (bits bs) = refl
  targets-renamed f (item word) = refl
  targets-renamed f (reference n) = refl
  targets-renamed f derived = refl
  targets-renamed f missing = refl
  targets-renamed f (list vs) = targets_in-renamed f vs
  targets-renamed f (array vs) = targets_in-renamed f vs
  targets-renamed f (set vs) = targets_in-renamed f vs
  targets-renamed f (bag vs) = targets_in-renamed f vs
  targets-renamed f (typed t v) = targets-renamed f v

  targets_in-renamed : (f : ℕ → ℕ) (vs : Values) → targets_in (renamed_values f vs) ≡ map f (targets_in vs)
  targets_in-renamed f no_values = refl
  targets_in-renamed f (value v vs) =
      ap (λ (ts : List ℕ). ts ++ targets_in (renamed_values f vs)) (targets-renamed f v) ∙ ap (λ (ts : List ℕ). map f (targets v) ++ ts) (targets_in-renamed f vs) ∙ sym (map-append f (targets v) (targets_in vs))

pub rows-targets_renamed : (f : ℕ → ℕ) (rows : List Values)
    → flat_map targets_in (map (renamed_values f) rows) ≡ map f (flat_map targets_in rows)
rows-targets_renamed f [] = refl
rows-targets_renamed f (vs ∷ rows) =
    ap (λ (ts : List ℕ). ts ++ flat_map targets_in (map (renamed_values f) rows)) (targets_in-renamed f vs) ∙ ap (λ (ts : List ℕ). map f (targets_in vs) ++ ts) (rows-targets_renamed f rows) ∙ sym (map-append f (targets_in vs) (flat_map targets_in rows))

pub whole-renamed : (f : ℕ → ℕ) (m : FileMeaning) → IsWhole m → IsInjectiveOn (names m) f → IsWhole (renamed f m)
whole-renamed f m whole_ injective = record {
  names_differ = let P : List ℕ → Type 0 = NoneTwice in none_twice-distinct (names (renamed f m)) (subst P (sym (names-renamed f m)) (none_twice-mapped f (names m) injective (names-none_twice m whole_)));
  in_sections =
      map-mapped (λ (i : ℕ × Heading). i.0) (renamed_section f) m.instance_sections ∙ sym (map-mapped f (λ (i : ℕ × Heading). i.0) m.instance_sections)
      ∙ ap (map f) whole_.in_sections ∙ sym (names-renamed f m);
  closed = closed;
}
  where
    closed : (n : ℕ) (x : Typed) → Contains (renamed f m).instances (n, x) → (t : ℕ) → Contains (flat_map targets_in x.values) t
        → Contains (names (renamed f m)) t
    closed n x at t among =
        let (i, own, is) = Contains-unmapped (renamed_instance f) m.instances (n, x) at in
        let P : ℕ × Typed → Type 0 = λ p. Contains (flat_map targets_in p.1.values) t in
        let Q : List ℕ → Type 0 = λ ts. Contains ts t in
        let (r, target, leads) = Contains-unmapped f (flat_map targets_in i.1.values) t (subst Q (rows-targets_renamed f i.1.values) (subst P (sym is) among)) in
        let R : ℕ → Type 0 = λ k. Contains (names (renamed f m)) k in
        subst R leads (subst (λ (ts : List ℕ). Contains ts (f r)) (sym (names-renamed f m)) (Contains-mapped f (names m) r (whole_.closed i.0 i.1 own r target)))
