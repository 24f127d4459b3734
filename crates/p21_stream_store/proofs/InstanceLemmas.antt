-- Instances among those that are stored.
use Rattle.std.proofs.Common.{◌≡◌, ◌<◌, ℕ, zero, suc, List, [], ◌∷◌, ◌++◌, length, get_or, true, Option, None, Some, refl, sym, ap, subst, ◌∙◌, arith}
use Rattle.std.proofs.lemmas.List.{length-append}
use Rattle.std.proofs.lemmas.List.Sorted.{IsPermutation-sym, IsPermutation-to_front}
use Rattle.std.proofs.lemmas.Option.{get_or_from_slice_get, slice_get-get_or, slice_get_within}
use Rattle.std.specs.List.{Contains, slice_get}
use Rattle.std.specs.List.Sorted.{IsPermutation}
use Rattle.std.specs.Prelude.{IfSome, IsNone, is_some}
use Rattle.p21_spec_basics.proofs.Members.{Contains-found, Contains-mapped}
use Rattle.p21_stream_store.specs.StoredInstance.{StoredInstance, instance_names, stored_instances, name_at}

-- the instance of a name, and of a membership with a text
abbrev pub kept : ℕ → ℕ × List ℕ → StoredInstance
kept name line = record { name = name; membership = line.0; text = line.1 }

kept-get : (names : List ℕ) (lines : List (ℕ × List ℕ)) (i n : ℕ) (l : ℕ × List ℕ) → slice_get names i ≡ Some n → slice_get lines i ≡ Some l
    → slice_get (stored_instances names lines) i ≡ Some (kept n l)
kept-get [] lines i n l e f = cc
kept-get (a ∷ names) [] i n l e f = cc
kept-get (a ∷ names) (b ∷ lines) zero n l e f =
    let name : a ≡ n = cc in
    let line : b ≡ l = cc in
    ap (λ (m : ℕ). Some (kept m b)) name ∙ ap (λ (m : ℕ × List ℕ). Some (kept n m)) line
kept-get (a ∷ names) (b ∷ lines) (suc i) n l e f = kept-get names lines i n l e f

names-stored_instances : (names : List ℕ) (lines : List (ℕ × List ℕ)) → length names ≡ length lines
    → instance_names (stored_instances names lines) ≡ names
names-stored_instances [] lines e = refl
names-stored_instances (a ∷ names) [] e = absurd (omega (arith, e))
names-stored_instances (a ∷ names) (b ∷ lines) e = ap (λ (l : List ℕ). a ∷ l) (names-stored_instances names lines (omega (arith, e)))

pub place_within : (names : List ℕ) (lines : List (ℕ × List ℕ)) (i n : ℕ) → length names ≡ length lines → slice_get names i ≡ Some n
    → i < length lines
place_within names lines i n e f = let within = slice_get_within names i n f in omega (arith, e, within)

kept-size : (names : List ℕ) (lines : List (ℕ × List ℕ)) → length names ≡ length lines
    → length (stored_instances names lines) ≡ length names
kept-size [] lines e = refl
kept-size (a ∷ names) [] e = absurd (omega (arith, e))
kept-size (a ∷ names) (b ∷ lines) e = let rest = kept-size names lines (omega (arith, e)) in omega (arith, rest)

name-at : (all : List StoredInstance) (i : ℕ) → name_at all i ≡ get_or (instance_names all) i 0
name-at [] i = refl
name-at (x ∷ all) zero = refl
name-at (x ∷ all) (suc i) = name-at all i

module _ (names : List ℕ) (lines : List (ℕ × List ℕ)) (all : List StoredInstance) (all_are : stored_instances names lines ≡ all) where
  pub got : (i n : ℕ) (l : ℕ × List ℕ) → slice_get names i ≡ Some n → slice_get lines i ≡ Some l → slice_get all i ≡ Some (kept n l)
  got i n l e f = subst (λ (x : List StoredInstance). slice_get x i ≡ Some (kept n l)) all_are (kept-get names lines i n l e f)

  pub found : (i n : ℕ) (l : ℕ × List ℕ) → slice_get names i ≡ Some n → slice_get lines i ≡ Some l → Contains all (kept n l)
  found i n l e f = Contains-found _ i _ (got i n l e f)

  module _ (same : length names ≡ length lines) where
    pub all_size : length all ≡ length names
    all_size = ap length (sym all_are) ∙ kept-size names lines same

    names_are : instance_names all ≡ names
    names_are = ap instance_names (sym all_are) ∙ names-stored_instances names lines same

    -- the line at a position is that of an instance
    pub line_got : (i : ℕ) (l : ℕ × List ℕ) → slice_get lines i ≡ Some l → (n : ℕ) × (slice_get all i ≡ Some (kept n l))
    line_got i l at =
        let within = slice_get_within lines i l at in
        (get_or names i 0, got i _ l (slice_get-get_or names i 0 (omega (arith, within, same))) at)

    pub named : (i n : ℕ) → slice_get names i ≡ Some n → name_at all i ≡ n
    named i n at = name-at all i ∙ ap (λ (xs : List ℕ). get_or xs i 0) names_are ∙ get_or_from_slice_get names i n 0 at

    pub among_names : (n : ℕ) → Contains (instance_names all) n → Contains names n
    among_names n there = subst (λ (xs : List ℕ). Contains xs n) names_are there

    pub among_instances : (n : ℕ) → Contains names n → Contains (instance_names all) n
    among_instances n there = subst (λ (xs : List ℕ). Contains xs n) (sym names_are) there

-- ---- one more instance

kept-more : (names : List ℕ) (lines : List (ℕ × List ℕ)) (n : ℕ) (l : ℕ × List ℕ) → length names ≡ length lines
    → stored_instances (names ++ n ∷ []) (lines ++ l ∷ []) ≡ stored_instances names lines ++ kept n l ∷ []
kept-more [] [] n l e = refl
kept-more [] (b ∷ lines) n l e = absurd (omega (arith, e))
kept-more (a ∷ names) [] n l e = absurd (omega (arith, e))
kept-more (a ∷ names) (b ∷ lines) n l e = ap (λ (x : List StoredInstance). kept a b ∷ x) (kept-more names lines n l (omega (arith, e)))

-- a name and its text stand behind the others
module _ (names new_names : List ℕ) (lines new_lines : List (ℕ × List ℕ)) (n : ℕ) (l : ℕ × List ℕ) (same : length names ≡ length lines)
    (names_are : new_names ≡ names ++ n ∷ []) (lines_are : new_lines ≡ lines ++ l ∷ []) where
  pub also_same : length new_names ≡ length new_lines
  also_same = rw (names_are, lines_are) (simp length-append (omega (arith, same)))

  pub one_added : (old : List StoredInstance) → stored_instances names lines ≡ old
      → IsPermutation (kept n l ∷ old) (stored_instances new_names new_lines)
  one_added old is =
      let new : stored_instances new_names new_lines ≡ old ++ kept n l ∷ [] =
      rw (names_are, lines_are) (kept-more names lines n l same ∙ ap (λ (x : List StoredInstance). x ++ kept n l ∷ []) is) in
      subst (λ (x : List StoredInstance). IsPermutation (kept n l ∷ old) x) (sym new)
      (IsPermutation-sym _ _ (IsPermutation-to_front old (kept n l)))

-- ---- names that are found

-- what is found by a name has it; where nothing is found, none has it
pub named-found : (instances : List StoredInstance) (n : ℕ) (found : Option ℕ)
    → IfSome found (λ membership. (text : List ℕ) × Contains instances (record { name = n; membership = membership; text = text }))
    → is_some found ≡ true → Contains (instance_names instances) n
named-found instances n (Some membership) (text, among) there =
    Contains-mapped (λ (y : StoredInstance). y.name) instances (record { name = n; membership = membership; text = text }) among
named-found instances n None among there = cc

pub named-none : (instances : List StoredInstance) (n : ℕ) (found : Option ℕ) → (IsNone found → Contains (instance_names instances) n → ⊥)
    → Contains (instance_names instances) n → is_some found ≡ true
named-none instances n (Some membership) none among = refl
named-none instances n None none among = absurd (none refl among)
