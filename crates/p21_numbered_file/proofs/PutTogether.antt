-- What is put together, and that it is the numbered file.
use Rattle.std.specs.Prelude.{◌≡◌, ◌≤◌, ◌<◌, ◌+◌, ℕ, zero, suc, List, [], ◌∷◌, ◌++◌, map, length, refl, sum_by, take, get_or, zip, Option, Some, slice_get, Contains, nat_eq, IsPermutation}
use Rattle.std.specs.List.{AllZip, range_with_len, AllByRecursion as Each}
use Rattle.std.proofs.Common.{arith, ap, drop, sym, subst, inl, inr, ◌∙◌, take-append-drop}
use Rattle.std.proofs.lemmas.List.{length-map, map-append, take_more}
use Rattle.std.proofs.lemmas.List.FromFn.{map-range_with_len_more}
use Rattle.std.proofs.lemmas.List.Sorted.{Contains-permutation, IsPermutation-map, IsPermutation-push_more, IsPermutation-sym, sum_by-IsPermutation}
use Rattle.std.proofs.lemmas.List.Sums.{sum_by-cons}
use Rattle.std.proofs.lemmas.Map.Keys.{IsDistinct-IsPermutation}
use Rattle.std.proofs.lemmas.Slice.Zip.{AllZip-long}
use Rattle.p21_spec_basics.proofs.Comparing.{nat_eq-turned}
use Rattle.p21_spec_basics.proofs.Members.{Contains-at, Contains-cases, Contains-first, Contains-found, Contains-later, Contains-none, Contains-unmapped, Each-member, Each-of_members}
use Rattle.p21_spec_basics.proofs.Shuffles.{NoneTwice, NoneTwice-again, NoneTwice-front, distinct-none_twice, none_twice-distinct, texts-none_twice}
use Rattle.p21_spec_exchange.specs.DataSection.{section_names}
use Rattle.p21_spec_laws.proofs.LongFiles.{headings-differ}
use Rattle.p21_spec_laws.specs.CompleteFile.{Line}
use Rattle.p21_spec_laws.specs.Keeping.{Kept}
use Rattle.p21_spec_laws.specs.Stored.{StoredEntry}
use Rattle.p21_grammar_tree.specs.declared.record.Part.{Part}
use Rattle.p21_stream_output.specs.Ending.{AreNamed, HasNamesOnce, HasSize, IsFileOfKept, IsKeptIn, stored_of, stored_with}
use Rattle.p21_stream_output.specs.Filing.{AreOfSections, HaveMemberships}
use Rattle.p21_stream_output.specs.NamedSections.{HasHeading}
use Rattle.p21_stream_output.specs.Output.{IsNamed, Output}
use Rattle.p21_stream_output.specs.declared.named_sections.NamedSection.{NamedSection}
use Rattle.p21_stream_store.specs.Memberships.{Membership}
use Rattle.p21_stream_store.specs.Numbering.{Interns}
use Rattle.p21_stream_store.specs.StoredInstance.{StoredInstance, instance_names}
use Rattle.p21_numbered_file.proofs.FileSizes.{text-sized}
use Rattle.p21_numbered_file.specs.Assembly.{IsPutTogether, IsReady, entry_row, entry_rows, line_names, put_together, section_membership, section_memberships, stored_row, stored_rows}
use Rattle.p21_numbered_file.specs.Headings.{heading_in, headings_in}
use Rattle.p21_numbered_file.specs.Sizes.{file_size, lines_size}

-- ---- memberships

none-above : (many section : ℕ) → many ≤ section → Contains (section_memberships many) (section_membership section) → ⊥
none-above many section high among =
    let (k, at, is) = Contains-unmapped section_membership (range_with_len 0 many) (section_membership section) among in
    let low = range-below 0 many k at in
    let same : k ≡ section = ap (λ (m : Membership). m.section) is in
    omega (arith, high, low, same)
  where
    range-below : (from many k : ℕ) → Contains (range_with_len from many) k → k < from + many
    range-below from zero k at = absurd (Contains-none k at)
    range-below from (suc n) k at = elim (Contains-cases from (range_with_len (from + 1) n) k at) [
      | inl same ↦ omega (arith, same)
      | inr far ↦ (let low = range-below (from + 1) n k far in omega (arith, low))
    ]

pub membership-more : (k number : ℕ) (old new : List Membership) → old ≡ section_memberships k
    → Interns old (section_membership k) number new → new ≡ section_memberships (k + 1)
membership-more k number old new so_far (at, inl same) =
    let P : List Membership → Type 0 = λ ms. Contains ms (section_membership k) in
    absurd (none-above k k (omega arith) (subst P (same ∙ so_far) (Contains-found new number (section_membership k) at)))
membership-more k number old new so_far (at, inr (more, other)) =
    more ∙ ap (λ (ms : List Membership). ms ++ section_membership k ∷ []) so_far
    ∙ sym (map-range_with_len_more section_membership 0 k k (omega arith))

membership-at : (many k : ℕ) → k < many → slice_get (section_memberships many) k ≡ Some (section_membership k)
membership-at many k low = from 0 many k low ∙ ap (λ (n : ℕ). Some (section_membership n)) (omega arith)
  where
    from : (first many k : ℕ) → k < many → slice_get (map section_membership (range_with_len first many)) k ≡ Some
        (section_membership (first + k))
    from first zero k low = absurd (omega (arith, low))
    from first (suc n) zero low = ap (λ (m : ℕ). Some (section_membership m)) (omega arith)
    from first (suc n) (suc k) low = from (first + 1) n k (omega (arith, low)) ∙ ap (λ (m : ℕ). Some (section_membership m)) (omega arith)

memberships-long : (many : ℕ) → length (section_memberships many) ≡ many
memberships-long many = from 0 many
  where
    from : (first many : ℕ) → length (map section_membership (range_with_len first many)) ≡ many
    from first zero = refl
    from first (suc n) = ap suc (from (first + 1) n)

memberships-of_sections : (many : ℕ) → AreOfSections many (section_memberships many)
memberships-of_sections many = Each-of_members (λ (x : Membership). x.section < many) (section_memberships many) (λ x among.
    let (k, at) = Contains-at (section_memberships many) x among in
    let low = below 0 many k x at in
    omega (arith, low))
  where
    below : (first many k : ℕ) (x : Membership) → slice_get (map section_membership (range_with_len first many)) k ≡ Some x
        → x.section < first + many
    below first zero k x at = cc
    below first (suc n) zero x at = (let same : section_membership first ≡ x = cc in let own : first ≡ x.section =
        ap (λ (m : Membership). m.section) same in omega (arith, own))
    below first (suc n) (suc k) x at = let low = below (first + 1) n k x at in omega (arith, low)

-- ---- lines one by one

zip-more : {X Y : Type 0} (xs : List X) (ys : List Y) (k : ℕ) (d : X) (e : Y) → k < length xs → k < length ys
    → zip (take (k + 1) xs) (take (k + 1) ys) ≡ zip (take k xs) (take k ys) ++ (get_or xs k d, get_or ys k e) ∷ []
zip-more [] ys k d e low low_ = absurd (omega (arith, low))
zip-more (x ∷ xs) [] k d e low low_ = absurd (omega (arith, low_))
zip-more (x ∷ xs) (y ∷ ys) zero d e low low_ = refl
zip-more {X} {Y} (x ∷ xs) (y ∷ ys) (suc k) d e low low_ =
    let same : suc k + 1 ≡ suc (k + 1) = omega arith in
    ap (λ (n : ℕ). zip (take n (x ∷ xs)) (take n (y ∷ ys))) same
    ∙ ap (λ (ps : List (X × Y)). (x, y) ∷ ps) (zip-more xs ys k d e (omega (arith, low)) (omega (arith, low_)))

-- what stands at a position, whatever is said where nothing does
pub either-default : (xs : List ℕ) (k d e : ℕ) → k < length xs → get_or xs k d ≡ get_or xs k e
either-default [] k d e low = absurd (omega (arith, low))
either-default (x ∷ xs) zero d e low = refl
either-default (x ∷ xs) (suc k) d e low = either-default xs k d e (omega (arith, low))

row-names : (places : List ℕ) (lines : List Line) → length places ≡ length lines
    → instance_names (stored_rows places lines) ≡ line_names lines
row-names [] [] same = refl
row-names [] (l ∷ ls) same = cc
row-names (p ∷ ps) [] same = cc
row-names (p ∷ ps) (l ∷ ls) same = ap (λ (ns : List ℕ). l.0 ∷ ns) (row-names ps ls (omega (arith, same)))

-- one row more
pub row-more : (places : List ℕ) (lines : List Line) (k p : ℕ) (l : Line) (old new : List StoredInstance) → k < length places
    → k < length lines → p ≡ get_or places k p → l ≡ get_or lines k l
    → IsPermutation (stored_rows (take k places) (take k lines)) old → IsPermutation (stored_row (p, l) ∷ old) new
    → IsPermutation (stored_rows (take (k + 1) places) (take (k + 1) lines)) new
row-more places lines k p l old new low low_ at at_ so_far pushed =
    let rows : List StoredInstance = stored_rows (take k places) (take k lines) in
    let by_place : ℕ → ℕ × Line = λ n. (n, get_or lines k l) in
    let by_line : Line → ℕ × Line = λ m. (p, m) in
    let pair : (get_or places k p, get_or lines k l) ≡ (p, l) = ap by_place (sym at) ∙ ap by_line (sym at_) in
    let same : stored_rows (take (k + 1) places) (take (k + 1) lines) ≡ rows ++ stored_row (p, l) ∷ [] =
    ap (map stored_row) (zip-more places lines k p l low low_)
    ∙ map-append stored_row (zip (take k places) (take k lines)) ((get_or places k p, get_or lines k l) ∷ [])
    ∙ ap (λ (r : ℕ × Line). rows ++ stored_row r ∷ []) pair in
    let P : List StoredInstance → Type 0 = λ rs. IsPermutation rs new in
    subst P (sym same) (IsPermutation-push_more rows old new (stored_row (p, l)) so_far pushed)

-- whose name none has before it
pub row-new : (places : List ℕ) (lines : List Line) (k : ℕ) (l : Line) (old : List StoredInstance) → length places ≡ length lines
    → k < length lines → l ≡ get_or lines k l → NoneTwice (line_names lines)
    → IsPermutation (stored_rows (take k places) (take k lines)) old → Contains (instance_names old) l.0 → ⊥
row-new places lines k l old same low at none so_far among =
    let name : StoredInstance → ℕ = λ x. x.name in
    let rows : List StoredInstance = stored_rows (take k places) (take k lines) in
    let names_ : instance_names rows ≡ line_names (take k lines) =
    row-names (take k places) (take k lines) (takes-long places lines k same) in
    let turned = IsPermutation-sym (map name rows) (map name old) (IsPermutation-map name rows old so_far) in
    let N : List ℕ → Type 0 = λ ns. Contains ns l.0 in
    let before : Contains (line_names (take k lines)) l.0 =
    subst N names_ (Contains-permutation (map name old) (map name rows) l.0 turned among) in
    let more : line_names (take (k + 1) lines) ≡ line_names (take k lines) ++ l.0 ∷ [] =
    ap line_names (take_more lines k l low) ∙ map-append (λ (m : Line). m.0) (take k lines) (get_or lines k l ∷ [])
    ∙ ap (λ (m : Line). line_names (take k lines) ++ m.0 ∷ []) (sym at) in
    let split : line_names lines ≡ line_names (take (k + 1) lines) ++ line_names (drop (k + 1) lines) =
    ap line_names (sym (take-append-drop (k + 1) lines)) ∙ map-append (λ (m : Line). m.0) (take (k + 1) lines) (drop (k + 1) lines) in
    NoneTwice-again (line_names (take k lines)) l.0 before
    (subst NoneTwice more (NoneTwice-front (line_names (take (k + 1) lines)) (line_names (drop (k + 1) lines))
    (subst NoneTwice split none)))
  where
    takes-long : {X Y : Type 0} (xs : List X) (ys : List Y) (k : ℕ) → length xs ≡ length ys → length (take k xs) ≡ length (take k ys)
    takes-long xs ys zero same = refl
    takes-long [] [] (suc k) same = refl
    takes-long [] (y ∷ ys) (suc k) same = cc
    takes-long (x ∷ xs) [] (suc k) same = cc
    takes-long (x ∷ xs) (y ∷ ys) (suc k) same = ap suc (takes-long xs ys k (omega (arith, same)))

-- ---- what is put together

-- nothing stands twice in another order
permuted-once : (xs ys : List ℕ) → IsPermutation xs ys → NoneTwice xs → NoneTwice ys
permuted-once xs ys permuted none = distinct-none_twice ys
    (IsDistinct-IsPermutation nat_eq nat_eq-turned xs ys permuted (none_twice-distinct xs none))

row-at : (places : List ℕ) (lines : List Line) (x : StoredInstance) → Contains (stored_rows places lines) x
    → Contains places x.membership × Contains lines (x.name, x.text)
row-at [] lines x among = absurd (Contains-none x among)
row-at (p ∷ ps) [] x among = absurd (Contains-none x among)
row-at (p ∷ ps) (l ∷ ls) x among = elim (Contains-cases (stored_row (p, l)) (stored_rows ps ls) x among) [
  | inl same ↦ (
      let P : StoredInstance → Type 0 = λ y. Contains (p ∷ ps) y.membership × Contains (l ∷ ls) (y.name, y.text) in
      subst P same (Contains-first p ps, Contains-first l ls))
  | inr far ↦ (let rest = row-at ps ls x far in (Contains-later p ps x.membership rest.0, Contains-later l ls (x.name, x.text) rest.1))
]

row-sizes : (places : List ℕ) (lines : List Line) → length places ≡ length lines
    → sum_by (λ (x : StoredEntry). length x.text + 1) (entry_rows places lines) ≡ lines_size lines
row-sizes [] [] same = refl
row-sizes [] (l ∷ ls) same = cc
row-sizes (p ∷ ps) [] same = cc
row-sizes (p ∷ ps) (l ∷ ls) same =
    let one = sum_by-cons (λ (x : StoredEntry). length x.text + 1) (entry_row (p, l)) (entry_rows ps ls) in
    let two = sum_by-cons (λ (m : Line). length m.1 + 1) l ls in
    let rest = row-sizes ps ls (omega (arith, same)) in
    omega (arith, one, two, rest)

entry-names : (places : List ℕ) (lines : List Line) → length places ≡ length lines
    → map (λ (x : StoredEntry). x.name) (entry_rows places lines) ≡ line_names lines
entry-names [] [] same = refl
entry-names [] (l ∷ ls) same = cc
entry-names (p ∷ ps) [] same = cc
entry-names (p ∷ ps) (l ∷ ls) same = ap (λ (ns : List ℕ). l.0 ∷ ns) (entry-names ps ls (omega (arith, same)))

module _ (header : List ℕ) (sections : List (Option Part)) (places : List ℕ) (lines : List Line) (ready : IsReady sections places lines)
    (parts : List NamedSection) (begins : AllZip HasHeading (headings_in sections) parts)
    (instances : List StoredInstance) (rows : IsPermutation (stored_rows places lines) instances) where
  back : (x : StoredInstance) → Contains instances x → Contains (stored_rows places lines) x
  back x among = Contains-permutation instances (stored_rows places lines) x (IsPermutation-sym (stored_rows places lines) instances rows)
      among

  pub have-memberships : HaveMemberships (section_memberships (length sections)) instances
  have-memberships = Each-of_members (λ (x : StoredInstance). x.membership < length (section_memberships (length sections))) instances
      (λ x among.
      let low = Each-member (λ (k : ℕ). k < length sections) places x.membership ready.of_sections
      (row-at places lines x (back x among)).0 in
      let long = memberships-long (length sections) in
      omega (arith, low, long))

  pub of-sections : AreOfSections (length parts) (section_memberships (length sections))
  of-sections =
      let long : length (headings_in sections) ≡ length parts = sym (AllZip-long HasHeading (headings_in sections) parts begins) in
      let P : ℕ → Type 0 = λ n. AreOfSections n (section_memberships (length sections)) in
      subst P (sym (length-map sections heading_in) ∙ long) (memberships-of_sections (length sections))

  pub are-named : AreNamed instances
  are-named = Each-of_members (λ (x : StoredInstance). IsNamed x.name x.text) instances (λ x among.
      Each-member (λ (l : Line). IsNamed l.0 l.1) lines (x.name, x.text) ready.named (row-at places lines x (back x among)).1)

  -- as entries of their sections
  pub stored-rows : IsPermutation (entry_rows places lines) (stored_of (section_memberships (length sections)) instances)
  stored-rows =
      let f : StoredInstance → StoredEntry = λ x. stored_with (slice_get (section_memberships (length sections)) x.membership) x in
      let P : List StoredEntry → Type 0 = λ es. IsPermutation es (map f instances) in
      subst P (same places lines ready.of_sections) (IsPermutation-map f (stored_rows places lines) instances rows)
    where
      same : (ps : List ℕ) (ls : List Line) → Each (λ (k : ℕ). k < length sections) ps
          → map (λ (x : StoredInstance). stored_with (slice_get (section_memberships (length sections)) x.membership) x)
          (stored_rows ps ls) ≡ entry_rows ps ls
      same [] ls low = refl
      same (p ∷ ps) [] low = refl
      same (p ∷ ps) (l ∷ ls) low =
          ap (λ (o : Option Membership). stored_with o (stored_row (p, l)) ∷ map
          (λ (x : StoredInstance). stored_with (slice_get (section_memberships (length sections)) x.membership) x) (stored_rows ps ls))
          (membership-at (length sections) p low.0)
          ∙ ap (λ (es : List StoredEntry). entry_row (p, l) ∷ es) (same ps ls low.1)

  stands : IsKeptIn (put_together header sections (stored_of (section_memberships (length sections)) instances)) header parts
      (section_memberships (length sections)) instances
  stands = record { header_is = refl; begins = begins; stored_is = refl }

  names-once : NoneTwice (map (λ (x : StoredEntry). x.name) (stored_of (section_memberships (length sections)) instances))
  names-once =
      let name : StoredEntry → ℕ = λ x. x.name in
      let own : NoneTwice (map name (entry_rows places lines)) =
      subst NoneTwice (sym (entry-names places lines ready.as_many)) ready.once in
      permuted-once (map name (entry_rows places lines)) (map name (stored_of (section_memberships (length sections)) instances))
      (IsPermutation-map name (entry_rows places lines) (stored_of (section_memberships (length sections)) instances) stored-rows) own

  once : HasNamesOnce (put_together header sections (stored_of (section_memberships (length sections)) instances))
  once = record {
    sections = ready.sections_once;
    instances =
        none_twice-distinct (map (λ (x : StoredEntry). x.name) (stored_of (section_memberships (length sections)) instances)) names-once;
  }

  pub has-size : HasSize header parts (section_memberships (length sections)) instances (file_size header parts lines)
  has-size = record {
    kept = put_together header sections (stored_of (section_memberships (length sections)) instances);
    stands = stands;
    once = once;
    size_is = λ blocks are.
        let heads_once : NoneTwice (headings_in sections) =
        headings-differ (headings_in sections) ready.headings
        (texts-none_twice (section_names (headings_in sections)) ready.sections_once) in
        let sized = text-sized (put_together header sections (stored_of (section_memberships (length sections)) instances)) names-once
        heads_once ready.headings low blocks are parts begins in
        let same = sum_by-IsPermutation (λ (x : StoredEntry). length x.text + 1) (entry_rows places lines)
        (stored_of (section_memberships (length sections)) instances) stored-rows in
        let sizes = row-sizes places lines ready.as_many in
        sized ∙ (omega (arith, same, sizes));
  }
    where
      low : (x : StoredEntry) → Contains (stored_of (section_memberships (length sections)) instances) x
          → x.section < length (headings_in sections)
      low x among =
          let at = Contains-permutation (stored_of (section_memberships (length sections)) instances) (entry_rows places lines) x
          (IsPermutation-sym (entry_rows places lines) (stored_of (section_memberships (length sections)) instances) stored-rows)
          among in
          let own = Each-member (λ (k : ℕ). k < length sections) places x.section ready.of_sections (entry-at places lines x at) in
          let long = length-map sections heading_in in
          omega (arith, own, long)
        where
          entry-at : (ps : List ℕ) (ls : List Line) (x : StoredEntry) → Contains (entry_rows ps ls) x → Contains ps x.section
          entry-at [] ls x among = absurd (Contains-none x among)
          entry-at (p ∷ ps) [] x among = absurd (Contains-none x among)
          entry-at (p ∷ ps) (l ∷ ls) x among = elim (Contains-cases (entry_row (p, l)) (entry_rows ps ls) x among) [
            | inl same ↦ (let P : StoredEntry → Type 0 = λ y. Contains (p ∷ ps) y.section in subst P same (Contains-first p ps))
            | inr far ↦ Contains-later p ps x.section (entry-at ps ls x far)
          ]

  pub is-put : (output : Output) → ((k : Kept) → IsKeptIn k header parts (section_memberships (length sections)) instances → HasNamesOnce k
      → IsFileOfKept k output) → IsPutTogether header sections places lines output
  is-put output each =
      let file = each (put_together header sections (stored_of (section_memberships (length sections)) instances)) stands once in
      record {
        stored = stored_of (section_memberships (length sections)) instances;
        are_rows = stored-rows;
        blocks =
            file.blocks;
        are_blocks = file.are_blocks;
        text_is = file.text_is;
        lines_are = file.lines_are;
      }
