-- Instances without texts, by what is noted of their names.
use Rattle.std.proofs.Common.{◌≡◌, ◌+◌, ◌*◌, ◌<◌, ◌≤◌, ℕ, zero, suc, List, [], ◌∷◌, ◌++◌, length, map, slice_index_or, Option, Some, None, IfSome, OnErr, OnOk, Result, Ok, Err, inl, inr, refl, sym, ap, subst, ◌∙◌, arith}
use Rattle.std.proofs.lemmas.Bool.Decides.{leb_tells}
use Rattle.std.proofs.lemmas.List.{get_or_past, map-append}
use Rattle.std.proofs.lemmas.List.Elements.{Contains-append_cases, Contains-append_left, Contains-append_right}
use Rattle.std.proofs.lemmas.List.Sorted.{Contains-permutation, IsPermutation-append_left, IsPermutation-append_right, IsPermutation-cons, IsPermutation-map, IsPermutation-middle, IsPermutation-refl, IsPermutation-sym, IsPermutation-trans, length_permutation}
use Rattle.std.specs.List.{Contains, range_with_len}
use Rattle.std.specs.List.Sorted.{IsPermutation}
use Rattle.p21_spec_basics.proofs.Members.{Contains-cases, Contains-first, Contains-later, Contains-mapped, Contains-none}
use Rattle.p21_stream_store.proofs.PageLemmas.{none_behind}
use Rattle.p21_stream_store.specs.NamedMemberships.{AreSeen, marks_of, noted_from, noted_in, without_text}
use Rattle.p21_stream_store.specs.Positions.{Changes, IsSame, position_marked, position_of_mark}
use Rattle.p21_stream_store.specs.Seen.{MayHaveCome}
use Rattle.p21_stream_store.specs.StoredInstance.{StoredInstance, instance_names}
use Rattle.p21_stream_store.specs.Tables.{number_of}
use Rattle.p21_stream_store.specs.declared.pages.Pages.{Pages}

-- what is marked in a list of marks
abbrev position_listed : List ℕ → ℕ → Option ℕ
position_listed marks name = position_of_mark (slice_index_or marks name 0)

-- ---- a table as the list of its marks

mapped : (f : ℕ → ℕ) (from n i : ℕ) → i < n → slice_index_or (map f (range_with_len from n)) i 0 ≡ f (from + i)
mapped f from zero i within = absurd (omega (arith, within))
mapped f from (suc n) zero within = ap f (let e : from ≡ from + 0 = omega arith in e)
mapped f from (suc n) (suc i) within = mapped f (from + 1) n i (omega (arith, within))
    ∙ ap f (let e : from + 1 + i ≡ from + suc i = omega arith in e)

length-mapped : (f : ℕ → ℕ) (from n : ℕ) → length (map f (range_with_len from n)) ≡ n
length-mapped f from zero = refl
length-mapped f from (suc n) = ap (λ (k : ℕ). suc k) (length-mapped f (from + 1) n)

listed_at : (table : Pages ℕ) (i : ℕ) → slice_index_or (marks_of table) i 0 ≡ number_of 0 table i
listed_at table i = elim (leb_tells (4096 * length table.pages.items) i) [
  | inl behind ↦
      let long = length-mapped (number_of 0 table) 0 (4096 * length table.pages.items) in
      get_or_past (marks_of table) i 0 (omega (arith, long, behind.1)) ∙ none_behind 0 table.pages.items i (omega (arith, behind.1))
  | inr within ↦ mapped (number_of 0 table) 0 (4096 * length table.pages.items) i within.1
      ∙ ap (number_of 0 table) (let e : 0 + i ≡ i = omega arith in e)
]

listed : (table : Pages ℕ) (name : ℕ) → position_listed (marks_of table) name ≡ position_marked table name
listed table name = ap position_of_mark (listed_at table name)

same-listed : (old new : Pages ℕ) → IsSame (position_marked old) (position_marked new)
    → IsSame (position_listed (marks_of old)) (position_listed (marks_of new))
same-listed old new same name = listed new name ∙ same name ∙ sym (listed old name)

changes-listed : (old new : Pages ℕ) (name : ℕ) (answer : Option ℕ) → Changes (position_marked old) name answer (position_marked new)
    → Changes (position_listed (marks_of old)) name answer (position_listed (marks_of new))
changes-listed old new name answer changes = (
  listed new name ∙ changes.0,
  λ other differs. listed new other ∙ changes.1 other differs
      ∙ sym (listed old other),
)

-- ---- the instances of marks

-- the same marks are of the same instances
pub noted-same : (name : ℕ) (old new : List ℕ) → IsSame (position_listed old) (position_listed new)
    → noted_from name new ≡ noted_from name old
noted-same name [] [] same = refl
noted-same name [] (zero ∷ new) same = noted-same (suc name) [] new (λ k. same (suc k))
noted-same name [] (suc m ∷ new) same = let first = same 0 in cc
noted-same name (zero ∷ old) [] same = noted-same (suc name) old [] (λ k. same (suc k))
noted-same name (zero ∷ old) (zero ∷ new) same = noted-same (suc name) old new (λ k. same (suc k))
noted-same name (zero ∷ old) (suc m ∷ new) same = let first = same 0 in cc
noted-same name (suc n ∷ old) [] same = let first = same 0 in cc
noted-same name (suc n ∷ old) (zero ∷ new) same = let first = same 0 in cc
noted-same name (suc n ∷ old) (suc m ∷ new) same =
    let first : m ≡ n = (let here = same 0 in cc) in
    ap (λ (k : ℕ). without_text name k ∷ noted_from (suc name) new) first
    ∙ ap (λ (rest : List StoredInstance). without_text name n ∷ rest) (noted-same (suc name) old new (λ k. same (suc k)))

-- in front of a first instance that stays
behind-first : (x y : StoredInstance) (old new : List StoredInstance) → IsPermutation (x ∷ old) new
    → IsPermutation (x ∷ (y ∷ old)) (y ∷ new)
behind-first x y old new permuted =
    IsPermutation-trans (x ∷ (y ∷ old)) (y ∷ (x ∷ old)) (y ∷ new)
    (IsPermutation-sym (y ∷ (x ∷ old)) (x ∷ (y ∷ old)) (IsPermutation-middle (y ∷ []) x old))
    (IsPermutation-cons y (x ∷ old) new permuted)

-- one mark more is one instance more
pub noted-more : (name k membership here : ℕ) → here ≡ name + k → (old new : List ℕ) → position_listed old k ≡ None
    → Changes (position_listed old) k (Some membership) (position_listed new)
    → IsPermutation (without_text here membership ∷ noted_from name old) (noted_from name new)
noted-more name zero membership here is old [] none changes = let at = changes.0 in cc
noted-more name zero membership here is old (zero ∷ new) none changes = let at = changes.0 in cc
noted-more name zero membership here is old (suc m ∷ new) none changes =
    let front : without_text here membership ≡ without_text name m =
    (let at = changes.0 in let same : m ≡ membership = cc in let first : here ≡ name = omega (arith, is) in
    λ i. without_text (first i) (sym same i)) in
    let rest : noted_from (suc name) new ≡ noted_from name old = without old none (λ j. changes.1 (suc j) (omega arith)) in
    subst (λ (x : StoredInstance). IsPermutation (without_text here membership ∷ noted_from name old) (x ∷ noted_from (suc name) new)) front
    (subst (λ (xs : List StoredInstance). IsPermutation (without_text here membership ∷ noted_from name old)
    (without_text here membership ∷ xs)) (sym rest) (IsPermutation-refl (without_text here membership ∷ noted_from name old)))
  where
    without : (marks : List ℕ) → position_listed marks 0 ≡ None → ((j : ℕ) → position_listed new j ≡ position_listed marks (suc j))
        → noted_from (suc name) new ≡ noted_from name marks
    without [] empty same = noted-same (suc name) [] new same
    without (zero ∷ marks) empty same = noted-same (suc name) marks new same
    without (suc n ∷ marks) empty same = cc
noted-more name (suc k) membership here is [] [] none changes = let at = changes.0 in cc
noted-more name (suc k) membership here is [] (zero ∷ new) none changes =
    noted-more (suc name) k membership here (omega (arith, is)) [] new none (changes.0, λ j other. changes.1 (suc j) (omega (arith, other)))
noted-more name (suc k) membership here is [] (suc m ∷ new) none changes = let first = changes.1 0 (omega arith) in cc
noted-more name (suc k) membership here is (zero ∷ old) [] none changes = let at = changes.0 in cc
noted-more name (suc k) membership here is (zero ∷ old) (zero ∷ new) none changes =
    noted-more (suc name) k membership here (omega (arith, is)) old new none
    (changes.0, λ j other. changes.1 (suc j) (omega (arith, other)))
noted-more name (suc k) membership here is (zero ∷ old) (suc m ∷ new) none changes = let first = changes.1 0 (omega arith) in cc
noted-more name (suc k) membership here is (suc n ∷ old) [] none changes = let at = changes.0 in cc
noted-more name (suc k) membership here is (suc n ∷ old) (zero ∷ new) none changes = let first = changes.1 0 (omega arith) in cc
noted-more name (suc k) membership here is (suc n ∷ old) (suc m ∷ new) none changes =
    let same : n ≡ m = (let first = changes.1 0 (omega arith) in cc) in
    let rest = noted-more (suc name) k membership here (omega (arith, is)) old new none
    (changes.0, λ j other. changes.1 (suc j) (omega (arith, other))) in
    subst (λ (j : ℕ). IsPermutation (without_text here membership ∷ (without_text name n ∷ noted_from (suc name) old))
    (without_text name j ∷ noted_from (suc name) new)) same
    (behind-first (without_text here membership) (without_text name n) (noted_from (suc name) old) (noted_from (suc name) new) rest)

-- what is noted of a name is the membership of its instance
pub noted-found : (name k membership : ℕ) (marks : List ℕ) → position_listed marks k ≡ Some membership
    → Contains (noted_from name marks) (without_text (name + k) membership)
noted-found name k membership [] at = cc
noted-found name zero membership (zero ∷ marks) at = cc
noted-found name zero membership (suc m ∷ marks) at =
    let same : without_text name m ≡ without_text (name + zero) membership =
    (let is : m ≡ membership = cc in let first : name ≡ name + zero = omega arith in λ i. without_text (first i) (is i)) in
    subst (λ (x : StoredInstance). Contains (without_text name m ∷ noted_from (suc name) marks) x) same
    (Contains-first (without_text name m) (noted_from (suc name) marks))
noted-found name (suc k) membership (zero ∷ marks) at =
    subst (λ (n : ℕ). Contains (noted_from (suc name) marks) (without_text n membership)) (omega arith)
    (noted-found (suc name) k membership marks at)
noted-found name (suc k) membership (suc m ∷ marks) at =
    Contains-later (without_text name m) (noted_from (suc name) marks) (without_text (name + suc k) membership)
    (subst (λ (n : ℕ). Contains (noted_from (suc name) marks) (without_text n membership)) (omega arith)
    (noted-found (suc name) k membership marks at))

-- no name is below the first
noted-above : (name other : ℕ) (marks : List ℕ) → Contains (instance_names (noted_from name marks)) other → name ≤ other
noted-above name other [] there = absurd (Contains-none other there)
noted-above name other (zero ∷ marks) there = let above = noted-above (suc name) other marks there in omega (arith, above)
noted-above name other (suc m ∷ marks) there = elim (Contains-cases name (instance_names (noted_from (suc name) marks)) other there) [
  | inl here ↦ omega (arith, here)
  | inr later ↦ (let above = noted-above (suc name) other marks later in omega (arith, above))
]

-- a name of which nothing is noted isn't there
pub noted-absent : (name k other : ℕ) → other ≡ name + k → (marks : List ℕ) → position_listed marks k ≡ None
    → Contains (instance_names (noted_from name marks)) other → ⊥
noted-absent name k other is [] none there = Contains-none other there
noted-absent name zero other is (zero ∷ marks) none there = let above = noted-above (suc name) other marks there in omega (arith, above, is)
noted-absent name zero other is (suc m ∷ marks) none there = cc
noted-absent name (suc k) other is (zero ∷ marks) none there = noted-absent (suc name) k other (omega (arith, is)) marks none there
noted-absent name (suc k) other is (suc m ∷ marks) none there =
    elim (Contains-cases name (instance_names (noted_from (suc name) marks)) other there) [
      | inl here ↦ absurd (omega (arith, here, is))
      | inr later ↦ noted-absent (suc name) k other (omega (arith, is)) marks none later
    ]

-- a table without numbers
pub none-noted : (table : Pages ℕ) → ((name : ℕ) → number_of 0 table name ≡ 0) → noted_in table ≡ []
none-noted table none = noted-same 0 [] (marks_of table) (λ k. listed table k ∙ ap position_of_mark (none k))

-- ---- the names that are noted, and others

module _ (table : Pages ℕ) (others all : List StoredInstance) (all_are : noted_in table ++ others ≡ all) where
  pub found-noted : (name membership : ℕ) → position_marked table name ≡ Some membership → Contains all (without_text name membership)
  found-noted name membership at =
      subst (λ (xs : List StoredInstance). Contains xs (without_text name membership)) all_are
      (Contains-append_left (noted_in table) others _ (subst (λ (n : ℕ). Contains (noted_in table) (without_text n membership))
      (omega arith) (noted-found 0 name membership (marks_of table) (listed table name ∙ at))))

  found-other : (x : StoredInstance) → Contains others x → Contains all x
  found-other x among = subst (λ (xs : List StoredInstance). Contains xs x) all_are (Contains-append_right (noted_in table) others x among)

  pub some-other : (name : ℕ) (found : Option ℕ) → IfSome found
      (λ membership. (text : List ℕ) × Contains others (record { name = name; membership = membership; text = text }))
      → IfSome found (λ membership. (text : List ℕ) × Contains all (record { name = name; membership = membership; text = text }))
  some-other name (Some membership) (text, among) = (text, found-other (record { name = name; membership = membership; text = text }) among)
  some-other name None none = tt

  names-are : instance_names all ≡ instance_names (noted_in table) ++ instance_names others
  names-are = ap instance_names (sym all_are) ∙ map-append (λ (x : StoredInstance). x.name) (noted_in table) others

  pub found-nowhere : (name : ℕ) → position_marked table name ≡ None → (Contains (instance_names others) name → ⊥)
      → Contains (instance_names all) name → ⊥
  found-nowhere name none absent among =
      elim (Contains-append_cases (instance_names (noted_in table)) (instance_names others) name
      (subst (λ (ns : List ℕ). Contains ns name) names-are among)) [
        | inl here ↦ noted-absent 0 name name (omega arith) (marks_of table) (listed table name ∙ none) here
        | inr there ↦ absent there
      ]

  pub no-other : (name : ℕ) → (Contains (instance_names all) name → ⊥) → Contains (instance_names others) name → ⊥
  no-other name absent among = absent (subst (λ (ns : List ℕ). Contains ns name) (sym names-are)
      (Contains-append_right (instance_names (noted_in table)) (instance_names others) name among))

  -- of a name that isn't there nothing is noted
  nothing-noted : (name : ℕ) → (Contains (instance_names all) name → ⊥) → position_listed (marks_of table) name ≡ None
  nothing-noted name absent = listed table name ∙ by (position_marked table name) refl where
    by : (answer : Option ℕ) → position_marked table name ≡ answer → position_marked table name ≡ None
    by None e = e
    by (Some membership) e = absurd (absent (Contains-mapped (λ (x : StoredInstance). x.name) all (without_text name membership)
        (found-noted name membership e)))

  -- one more is noted
  more : (new : Pages ℕ) (name membership : ℕ) → (Contains (instance_names all) name → ⊥)
      → Changes (position_marked table) name (Some membership) (position_marked new)
      → IsPermutation (without_text name membership ∷ noted_in table) (noted_in new)
  more new name membership absent changes = noted-more 0 name membership name (omega arith) (marks_of table) (marks_of new)
      (nothing-noted name absent) (changes-listed table new name (Some membership) changes)

  pub one-noted : (new : Pages ℕ) (name membership : ℕ) → (Contains (instance_names all) name → ⊥)
      → Changes (position_marked table) name (Some membership) (position_marked new)
      → IsPermutation (without_text name membership ∷ all) (noted_in new ++ others)
  one-noted new name membership absent changes =
      let x : StoredInstance = without_text name membership in
      subst (λ (xs : List StoredInstance). IsPermutation (x ∷ xs) (noted_in new ++ others)) all_are
      (IsPermutation-append_left others (x ∷ noted_in table) (noted_in new) (more new name membership absent changes))

  pub one-noted_count : (new : Pages ℕ) (name membership count : ℕ) → count ≡ length (noted_in table)
      → (Contains (instance_names all) name → ⊥) → Changes (position_marked table) name (Some membership) (position_marked new)
      → count + 1 ≡ length (noted_in new)
  one-noted_count new name membership count counted absent changes =
      let long = length_permutation (without_text name membership ∷ noted_in table) (noted_in new)
      (more new name membership absent changes) in
      omega (arith, counted, long)

  -- nothing else is noted
  stay : (new : Pages ℕ) → IsSame (position_marked table) (position_marked new) → noted_in new ≡ noted_in table
  stay new same = noted-same 0 (marks_of table) (marks_of new) (same-listed table new same)

  pub count-stays : (new : Pages ℕ) (count : ℕ) → IsSame (position_marked table) (position_marked new) → count ≡ length (noted_in table)
      → count ≡ length (noted_in new)
  count-stays new count same counted = counted ∙ sym (ap length (stay new same))

  pub all-stay : (new : Pages ℕ) → IsSame (position_marked table) (position_marked new) → noted_in new ++ others ≡ all
  all-stay new same = ap (λ (xs : List StoredInstance). xs ++ others) (stay new same) ∙ all_are

  -- one more stands among the others
  one-other : (new : Pages ℕ) (more_others : List StoredInstance) (x : StoredInstance)
      → IsSame (position_marked table) (position_marked new) → IsPermutation (x ∷ others) more_others
      → IsPermutation (x ∷ all) (noted_in new ++ more_others)
  one-other new more_others x same permuted =
      let noted = noted_in table in
      let whole : IsPermutation (x ∷ (noted ++ others)) (noted ++ more_others) =
      IsPermutation-trans (x ∷ (noted ++ others)) (noted ++ x ∷ others) (noted ++ more_others)
      (IsPermutation-sym (noted ++ x ∷ others) (x ∷ (noted ++ others)) (IsPermutation-middle noted x others))
      (IsPermutation-append_right noted (x ∷ others) more_others permuted) in
      subst (λ (xs : List StoredInstance). IsPermutation (x ∷ all) (xs ++ more_others)) (sym (stay new same))
      (subst (λ (xs : List StoredInstance). IsPermutation (x ∷ xs) (noted ++ more_others)) all_are whole)

  pub other-added : {T E : Type 0} (new : Pages ℕ) (more_others : List StoredInstance) (name membership : ℕ)
      → IsSame (position_marked table) (position_marked new) → (r : Result T E)
      → OnOk r (IsPermutation (without_text name membership ∷ others) more_others)
      → OnOk r (IsPermutation (without_text name membership ∷ all) (noted_in new ++ more_others))
  other-added new more_others name membership same (Ok value) permuted =
      one-other new more_others (without_text name membership) same permuted
  other-added new more_others name membership same (Err fault) permuted = tt

  pub other-refused : {T E : Type 0} (new : Pages ℕ) (more_others : List StoredInstance)
      → IsSame (position_marked table) (position_marked new) → (r : Result T E) → OnErr r (more_others ≡ others)
      → OnErr r (noted_in new ++ more_others ≡ all)
  other-refused new more_others same (Ok value) is = tt
  other-refused new more_others same (Err fault) is = ap (λ (xs : List StoredInstance). noted_in new ++ xs) is ∙ all-stay new same

-- ---- names that have come

-- the names of these instances are seen in words, and what was seen there is seen in further ones
module _ (words new : List ℕ) (old : List StoredInstance) (seen : AreSeen words old)
    (stay : (other : ℕ) → MayHaveCome words other → MayHaveCome new other) where
  pub seen-same : (all : List StoredInstance) → all ≡ old → AreSeen new all
  seen-same all same name among = stay name (seen name (subst (λ (xs : List StoredInstance). Contains (instance_names xs) name) same among))

  -- one more is seen too
  pub seen-more : (x : StoredInstance) (all : List StoredInstance) → MayHaveCome new x.name → IsPermutation (x ∷ old) all → AreSeen new all
  seen-more x all noted permuted name among =
      let names = IsPermutation-sym _ _ (IsPermutation-map (λ (y : StoredInstance). y.name) _ _ permuted) in
      elim (Contains-cases x.name (instance_names old) name (Contains-permutation _ _ name names among)) [
        | inl here ↦ subst (MayHaveCome new) here noted
        | inr before ↦ stay name (seen name before)
      ]

  pub seen-either : {T E : Type 0} (x : StoredInstance) (all : List StoredInstance) → MayHaveCome new x.name → (r : Result T E)
      → OnOk r (IsPermutation (x ∷ old) all) → OnErr r (all ≡ old) → AreSeen new all
  seen-either x all noted (Ok value) permuted same = seen-more x all noted permuted
  seen-either x all noted (Err fault) permuted same = seen-same all same
