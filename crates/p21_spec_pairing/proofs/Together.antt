-- Two files as one population: their names, and that they are proper.
use Rattle.std.specs.Prelude.{◌≡◌, ◌≢◌, ℕ, List, [], ◌∷◌, ◌++◌, map, nat_eq, Contains}
use Rattle.std.specs.List.{flat_map, IsDistinct, AllByRecursion as Each}
use Rattle.std.proofs.Common.{arith, ap, sym, subst, ◌∙◌, inl, inr}
use Rattle.std.proofs.lemmas.List.{map-append}
use Rattle.std.proofs.lemmas.List.Elements.{Contains-append_cases, Contains-append_left, Contains-append_right}
use Rattle.p21_spec_basics.proofs.Members.{Contains-first, Contains-later, Contains-unmapped}
use Rattle.p21_spec_basics.proofs.Shuffles.{NoneTwice, none_twice-distinct}
use Rattle.p21_spec_exchange.specs.DataSection.{Heading}
use Rattle.p21_spec_file.specs.File.{FileMeaning}
use Rattle.p21_spec_file.specs.Meaning.{Typed}
use Rattle.p21_spec_numbering.proofs.Moved.{names-none_twice, whole-renamed}
use Rattle.p21_spec_numbering.proofs.Renaming.{names-renamed, undo, undo-is}
use Rattle.p21_spec_numbering.proofs.Settled.{settled-rows_renamed}
use Rattle.p21_spec_numbering.specs.Laws.{IsProper}
use Rattle.p21_spec_numbering.specs.Renamed.{renamed, renamed_instance, names, IsInjectiveOn, targets_in}
use Rattle.p21_spec_numbering.specs.Settled.{AreSettled, HasSettledValues}
use Rattle.p21_spec_pairing.specs.Joined.{joined, of_first, of_second}

-- ---- other names leave a meaning proper

pub proper-renamed : (f : ℕ → ℕ) (m : FileMeaning) → IsProper m → IsInjectiveOn (names m) f → IsProper (renamed f m)
proper-renamed f m proper injective = (whole-renamed f m proper.0 injective, settled)
  where
    settled : HasSettledValues (renamed f m)
    settled n x at =
        let (i, own, is) = Contains-unmapped (renamed_instance f) m.instances (n, x) at in
        let P : ℕ × Typed → Type 0 = λ p. Each AreSettled p.1.values in
        subst P is (settled-rows_renamed f (undo f (names m)) i.1.values (λ t among. undo-is f (names m) injective t (proper.0.closed i.0 i.1 own t among)) (proper.1 i.0 i.1 own))

-- ---- both together

pub first-injective : (ns : List ℕ) → IsInjectiveOn ns of_first
first-injective ns m n among among_ same = omega (arith, same)

pub second-injective : (ns : List ℕ) → IsInjectiveOn ns of_second
second-injective ns m n among among_ same = omega (arith, same)

pub first-not_second : (m n : ℕ) → of_first m ≢ of_second n
first-not_second m n same = omega (arith, same)

pub none_twice-joined : (xs ys : List ℕ) → NoneTwice xs → NoneTwice ys → ((n : ℕ) → Contains xs n → Contains ys n → ⊥) → NoneTwice (xs ++ ys)
none_twice-joined [] ys none none_ apart = none_
none_twice-joined (x ∷ xs) ys none none_ apart = (
  λ among. elim (Contains-append_cases xs ys x among) [
    | inl h ↦ none.0 h
    | inr h ↦ apart x (Contains-first x xs) h
  ],
  none_twice-joined xs ys none.1 none_ (λ n among among_. apart n (Contains-later x xs n among) among_),
)

pub names-joined : (a b : FileMeaning) → names (joined a b) ≡ map of_first (names a) ++ map of_second (names b)
names-joined a b =
    map-append (λ (i : ℕ × Typed). i.0) (renamed of_first a).instances (renamed of_second b).instances
    ∙ ap (λ (ns : List ℕ). ns ++ names (renamed of_second b)) (names-renamed of_first a)
    ∙ ap (λ (ns : List ℕ). map of_first (names a) ++ ns) (names-renamed of_second b)

pub proper-joined : (a b : FileMeaning) → IsProper a → IsProper b → IsProper (joined a b)
proper-joined a b proper proper_ = (record { names_differ = differ; in_sections = in_sections; closed = closed }, settled)
  where
    one : IsProper (renamed of_first a)
    one = proper-renamed of_first a proper (first-injective (names a))

    other : IsProper (renamed of_second b)
    other = proper-renamed of_second b proper_ (second-injective (names b))

    own : names (joined a b) ≡ names (renamed of_first a) ++ names (renamed of_second b)
    own = map-append (λ (i : ℕ × Typed). i.0) (renamed of_first a).instances (renamed of_second b).instances

    apart : (n : ℕ) → Contains (names (renamed of_first a)) n → Contains (names (renamed of_second b)) n → ⊥
    apart n among among_ =
        let P : List ℕ → Type 0 = λ ns. Contains ns n in
        let (j, at, is) = Contains-unmapped of_first (names a) n (subst P (names-renamed of_first a) among) in
        let (k, at_, is_) = Contains-unmapped of_second (names b) n (subst P (names-renamed of_second b) among_) in
        first-not_second j k (is ∙ sym is_)

    differ : IsDistinct nat_eq (names (joined a b))
    differ = none_twice-distinct (names (joined a b)) (subst NoneTwice (sym own) (none_twice-joined (names (renamed of_first a)) (names (renamed of_second b)) (names-none_twice (renamed of_first a) one.0) (names-none_twice (renamed of_second b) other.0) apart))

    in_sections : map (λ (i : ℕ × Heading). i.0) (joined a b).instance_sections ≡ names (joined a b)
    in_sections =
        map-append (λ (i : ℕ × Heading). i.0) (renamed of_first a).instance_sections (renamed of_second b).instance_sections
        ∙ ap (λ (ns : List ℕ). ns ++ map (λ (i : ℕ × Heading). i.0) (renamed of_second b).instance_sections) one.0.in_sections
        ∙ ap (λ (ns : List ℕ). names (renamed of_first a) ++ ns) other.0.in_sections
        ∙ sym own

    closed : (n : ℕ) (x : Typed) → Contains (joined a b).instances (n, x) → (t : ℕ) → Contains (flat_map targets_in x.values) t → Contains (names (joined a b)) t
    closed n x at t among =
        let P : List ℕ → Type 0 = λ ns. Contains ns t in
        subst P (sym own) (elim (Contains-append_cases (renamed of_first a).instances (renamed of_second b).instances (n, x) at) [
          | inl h ↦ Contains-append_left (names (renamed of_first a)) (names (renamed of_second b)) t (one.0.closed n x h t among)
          | inr h ↦ Contains-append_right (names (renamed of_first a)) (names (renamed of_second b)) t (other.0.closed n x h t among)
        ])

    settled : HasSettledValues (joined a b)
    settled n x at = elim (Contains-append_cases (renamed of_first a).instances (renamed of_second b).instances (n, x) at) [
      | inl h ↦ one.1 n x h
      | inr h ↦ other.1 n x h
    ]
