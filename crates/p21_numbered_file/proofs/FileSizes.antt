-- The bytes of a file that is put together: those of its header lines, its sections and its lines, in whatever order they come.
use Rattle.std.specs.Prelude.{◌≡◌, ◌≤◌, ◌<◌, ◌+◌, ℕ, zero, suc, List, [], ◌∷◌, ◌++◌, map, length, refl, sum_by, Option, Some, None, slice_get, Contains}
use Rattle.std.specs.List.{AllZip, flat_map, AllByRecursion as Each}
use Rattle.std.specs.Ordering.{nat_cmp}
use Rattle.std.proofs.Common.{arith, ap, get_or, sym, subst, inl, inr, ◌∙◌, length-append}
use Rattle.std.proofs.lemmas.Cmp.{nat_cmp_total}
use Rattle.std.proofs.lemmas.List.{get_or-map}
use Rattle.std.proofs.lemmas.List.Elements.{Contains-append_cases}
use Rattle.std.proofs.lemmas.List.Sums.{sum_by-append, sum_by-cons}
use Rattle.p21_spec_basics.proofs.Members.{Contains-at, Contains-cases, Contains-first, Contains-flat_map, Contains-found, Contains-later, Contains-mapped, Contains-none, Contains-one_of, Contains-unmapped, Each-member, Each-of_members}
use Rattle.p21_spec_basics.proofs.RisingLists.{rises-mapped, rises-none_twice}
use Rattle.p21_spec_basics.proofs.Shuffles.{AreMembers, Contains-taken, NoneTwice, Taken, Taken-other, taken_first, taken_later}
use Rattle.p21_spec_exchange.specs.CanonicalText.{line, statement_text}
use Rattle.p21_spec_exchange.specs.DataSection.{AreHeadings, Heading, IsNamed, named, unnamed}
use Rattle.p21_spec_exchange.specs.Statement.{begin, data_start, finish, header_start, section, section_end}
use Rattle.p21_spec_laws.proofs.Headings.{headings-none_twice}
use Rattle.p21_spec_laws.specs.CompleteFile.{AreLinesRising, Block, Line, block_bytes, block_headings, line_bytes, lines_with_heading}
use Rattle.p21_spec_laws.specs.Keeping.{AreBlocksOf, IsBlockAt, Kept, text_with_header}
use Rattle.p21_spec_laws.specs.Stored.{StoredEntry}
use Rattle.p21_stream_output.specs.NamedSections.{HasHeading}
use Rattle.p21_stream_output.specs.declared.named_sections.NamedSection.{NamedSection}
use Rattle.p21_numbered.specs.Lines.{held_line, held_lines}
use Rattle.p21_numbered.specs.declared.numbered_line.NumberedLine.{NumberedLine}
use Rattle.p21_numbered_file.specs.Sizes.{lines_size, sections_size}

-- ---- sums over lists without repeats

sum-taken : {X : Type 0} (f : X → ℕ) (x : X) (ys rest : List X) → Taken x ys rest → sum_by f ys ≡ f x + sum_by f rest
sum-taken f x ys rest (taken_first y _ same) = sum_by-cons f y rest ∙ ap (λ n. n + sum_by f rest) (ap f (sym same))
sum-taken f x ys rest (taken_later y more rest_ taken) =
    let first = sum_by-cons f y more in
    let second = sum_by-cons f y rest_ in
    let inner = sum-taken f x more rest_ taken in
    omega (arith, first, second, inner)

-- a list without repeats has no greater sum than one that has its members
sum-within : {X : Type 0} (f : X → ℕ) (xs ys : List X) → NoneTwice xs → AreMembers xs ys → sum_by f xs ≤ sum_by f ys
sum-within f [] ys none onto = omega arith
sum-within {X} f (x ∷ xs) ys none onto =
    let (rest, taken) = Contains-taken ys x (onto x (Contains-first x xs)) in
    let whole = sum-taken f x ys rest taken in
    let own = sum_by-cons f x xs in
    let more = sum-within f xs rest none.1 (λ z among. elim (Taken-other x ys rest taken z (onto z (Contains-later x xs z among))) [
      | inl h ↦ absurd (none.0 (let P : X → Type 0 = λ w. Contains xs w in subst P (sym h) among))
      | inr h ↦ h
    ]) in
    omega (arith, whole, own, more)

-- ---- lines at their headings

joined-none_twice : {X : Type 0} (xs ys : List X) → NoneTwice xs → NoneTwice ys → ((x : X) → Contains xs x → ¬ Contains ys x)
    → NoneTwice (xs ++ ys)
joined-none_twice [] ys none none_ apart = none_
joined-none_twice (x ∷ xs) ys none none_ apart = (
  λ among. elim (Contains-append_cases xs ys x among) [
    | inl h ↦ none.0 h
    | inr h ↦ apart x (Contains-first x xs) h
  ],
  joined-none_twice xs ys none.1 none_ (λ z at. apart z (Contains-later x xs z at)),
)

placed-once : (h : Heading) (ls : List Line) → NoneTwice ls → NoneTwice {X = Heading × Line} (map (λ (l : Line). (h, l)) ls)
placed-once h [] none = tt
placed-once h (l ∷ ls) none = (
  λ among. none.0 (
      let (k, at, is) = Contains-unmapped (λ (x : Line). (h, x)) ls (h, l) among in
      let P : Line → Type 0 = λ x. Contains ls x in
      subst P (ap (λ (p : Heading × Line). p.1) is) at
      ),
  placed-once h ls none.1,
)

placed-heading : (bs : List Block) (p : Heading × Line) → Contains (flat_map lines_with_heading bs) p → Contains (block_headings bs) p.0
placed-heading bs p among =
    let (b, at, found) = Contains-one_of lines_with_heading bs p among in
    let (l, at_l, is) = Contains-unmapped (λ (x : Line). (b.heading, x)) b.lines p found in
    let P : Heading → Type 0 = λ h. Contains (block_headings bs) h in
    subst P (ap (λ (q : Heading × Line). q.0) is) (Contains-mapped (λ (x : Block). x.heading) bs b at)

placed-none_twice : (bs : List Block) → NoneTwice (block_headings bs) → Each AreLinesRising bs → NoneTwice (flat_map lines_with_heading bs)
placed-none_twice [] none rise = tt
placed-none_twice (b ∷ bs) none rise =
    joined-none_twice (lines_with_heading b) (flat_map lines_with_heading bs)
    (placed-once b.heading b.lines (rises-none_twice nat_cmp nat_cmp_total (λ (l : Line). l.0) b.lines
    (rises-mapped nat_cmp (λ (l : Line). l.0) b.lines rise.0)))
    (placed-none_twice bs none.1 rise.1)
    (λ p at among. none.0 (
    let (l, at_l, is) = Contains-unmapped (λ (x : Line). (b.heading, x)) b.lines p at in
    let P : Heading → Type 0 = λ h. Contains (block_headings bs) h in
    subst P (sym (ap (λ (q : Heading × Line). q.0) is)) (placed-heading bs p among)
    ))

-- ---- the bytes of blocks

heading_size : Heading → ℕ
heading_size h = length (line (section (data_start h))) + length (line (section section_end))

placed_size : Heading × Line → ℕ
placed_size p = length (line_bytes p.1)

own-lines : (h : Heading) (ls : List Line) → length (flat_map line_bytes ls) ≡ sum_by placed_size (map (λ (l : Line). (h, l)) ls)
unfolding placed_size
own-lines h [] = refl
own-lines h (l ∷ ls) =
    let long = length-append (line_bytes l) (flat_map line_bytes ls) in
    let own = sum_by-cons placed_size (h, l) (map (λ (x : Line). (h, x)) ls) in
    let rest = own-lines h ls in
    omega (arith, long, own, rest)

blocks-size : (bs : List Block) → length (flat_map block_bytes bs) ≡ sum_by heading_size (block_headings bs) + sum_by placed_size
    (flat_map lines_with_heading bs)
unfolding heading_size
blocks-size [] = refl
blocks-size (b ∷ bs) =
    let long = length-append (block_bytes b) (flat_map block_bytes bs) in
    let first = length-append (line (section (data_start b.heading))) (flat_map line_bytes b.lines ++ line (section section_end)) in
    let second = length-append (flat_map line_bytes b.lines) (line (section section_end)) in
    let heads = sum_by-cons heading_size b.heading (block_headings bs) in
    let lines = sum_by-append placed_size (lines_with_heading b) (flat_map lines_with_heading bs) in
    let own = own-lines b.heading b.lines in
    let rest = blocks-size bs in
    omega (arith, long, first, second, heads, lines, own, rest)

-- ---- the bytes of what is kept

-- the heading of the section of this number
head_at : List Heading → ℕ → Heading
head_at headings number = elim (slice_get headings number) [ Some h ↦ h | None ↦ unnamed ]

-- the line at its heading
placed : List Heading → StoredEntry → Heading × Line
placed headings x = (head_at headings x.section, (x.name, x.text))

placed-names : (headings : List Heading) (stored : List StoredEntry)
    → map (λ (p : Heading × Line). p.1.0) (map (placed headings) stored) ≡ map (λ (x : StoredEntry). x.name) stored
unfolding placed
placed-names headings [] = refl
placed-names headings (x ∷ xs) = ap (λ (ns : List ℕ). x.name ∷ ns) (placed-names headings xs)

keyed-once : {X K : Type 0} (key : X → K) (xs : List X) → NoneTwice (map key xs) → NoneTwice xs
keyed-once key [] none = tt
keyed-once key (x ∷ xs) none = (λ among. none.0 (Contains-mapped key xs x among), keyed-once key xs none.1)

-- a line has one byte more than its text
placed-sizes : (headings : List Heading) (stored : List StoredEntry)
    → sum_by placed_size (map (placed headings) stored) ≡ sum_by (λ (x : StoredEntry). length x.text + 1) stored
unfolding placed placed_size
placed-sizes headings [] = refl
placed-sizes headings (x ∷ xs) =
    let one = sum_by-cons placed_size (placed headings x) (map (placed headings) xs) in
    let two = sum_by-cons (λ (y : StoredEntry). length y.text + 1) x xs in
    let long = length-append x.text (10 ∷ []) in
    let rest = placed-sizes headings xs in
    omega (arith, one, two, long, rest)

heads-sizes : (headings : List Heading) (parts : List NamedSection) → AllZip HasHeading headings parts
    → sum_by heading_size headings ≡ sections_size parts
unfolding heading_size
heads-sizes [] [] all = refl
heads-sizes [] (p ∷ ps) all = absurd all
heads-sizes (h ∷ hs) [] all = absurd all
heads-sizes (h ∷ hs) (p ∷ ps) all =
    let one = sum_by-cons heading_size h hs in
    let two = sum_by-cons (λ (part : NamedSection). 9 + length part.line.items) p ps in
    let long = length-append (statement_text (section (data_start h))) (10 ∷ []) in
    let own = ap (λ (xs : List ℕ). length xs) all.0.line_is in
    let rest = heads-sizes hs ps all.1 in
    omega (arith, one, two, long, own, rest)

-- as many headings, which are those of a file, are so too
are-headings : (hs gs : List Heading) → AreHeadings gs → length hs ≡ length gs → ((h : Heading) → Contains hs h → Contains gs h)
    → AreHeadings hs
are-headings hs [] are size onto = absurd are
are-headings [] (g ∷ gs) are size onto = absurd (omega (arith, size))
are-headings (h ∷ []) (unnamed ∷ []) are size onto = elim (Contains-cases unnamed [] h (onto h (Contains-first h []))) [
  | inl same ↦ subst (λ (x : Heading). AreHeadings (x ∷ [])) same tt
  | inr far ↦ absurd (Contains-none h far)
]
are-headings (h ∷ next ∷ more) (unnamed ∷ []) are size onto = absurd (omega (arith, size))
are-headings hs (unnamed ∷ next ∷ more) are size onto = absurd are
are-headings (h ∷ hs) (named name schema ∷ more) are size onto =
    first h (all h (Contains-first h hs)) (Each-of_members IsNamed hs (λ x among. all x (Contains-later h hs x among)))
  where
    all : (x : Heading) → Contains (h ∷ hs) x → IsNamed x
    all x among = Each-member IsNamed (named name schema ∷ more) x (tt, are) (onto x among)

    first : (x : Heading) → IsNamed x → Each IsNamed hs → AreHeadings (x ∷ hs)
    first unnamed is each = absurd is
    first (named own text) is each = each

module _ (kept : Kept) (once : NoneTwice (map (λ (x : StoredEntry). x.name) kept.stored)) (heads_once : NoneTwice kept.headings)
    (are_headings : AreHeadings kept.headings)
    (of_sections : (x : StoredEntry) → Contains kept.stored x → x.section < length kept.headings) (blocks : List Block)
    (are : AreBlocksOf kept blocks) where
  block-of : (b : Block) → Contains blocks b → (number : ℕ) × IsBlockAt kept number b
  block-of b at = Each-member (λ (y : Block). (number : ℕ) × IsBlockAt kept number y) blocks b are.each_block at

  heads-to : AreMembers (block_headings blocks) kept.headings
  heads-to h among =
      let (b, at, is) = Contains-unmapped (λ (y : Block). y.heading) blocks h among in
      let own = block-of b at in
      let P : Heading → Type 0 = λ k. Contains kept.headings k in
      subst P is (Contains-found kept.headings own.0 b.heading own.1.0)

  heads-from : AreMembers kept.headings (block_headings blocks)
  heads-from h among =
      let (k, at) = Contains-at kept.headings h among in
      let (b, at_b, is) = are.each_section k h at in
      let same : b.heading ≡ h = (let both : Some b.heading ≡ Some h = sym is.0 ∙ at in cc) in
      let P : Heading → Type 0 = λ y. Contains (block_headings blocks) y in
      subst P same (Contains-mapped (λ (y : Block). y.heading) blocks b at_b)

  -- one block begins as each section
  blocks-once : NoneTwice (block_headings blocks)
  blocks-once = headings-none_twice (block_headings blocks)
      (are-headings (block_headings blocks) kept.headings are_headings as-many heads-to) are.sections_rise
    where
      as-many : length (block_headings blocks) ≡ length kept.headings
      as-many = mapped-long blocks ∙ are.as_many
        where
          mapped-long : (bs : List Block) → length (block_headings bs) ≡ length bs
          mapped-long [] = refl
          mapped-long (b ∷ bs) = ap suc (mapped-long bs)

  head-is : (x : StoredEntry) (h : Heading) → slice_get kept.headings x.section ≡ Some h → head_at kept.headings x.section ≡ h
  unfolding head_at
  head-is x h at = ap (λ (o : Option Heading). elim o [ Some k ↦ k | None ↦ unnamed ]) at

  lines-to : AreMembers (flat_map lines_with_heading blocks) (map (placed kept.headings) kept.stored)
  unfolding placed
  lines-to p among =
      let (b, at, found) = Contains-one_of lines_with_heading blocks p among in
      let (l, at_l, is) = Contains-unmapped (λ (y : Line). (b.heading, y)) b.lines p found in
      let (number, own) = block-of b at in
      let (x, at_x, section_is, line_is) = own.1.1 l at_l in
      let H : ℕ → Type 0 = λ k. slice_get kept.headings k ≡ Some b.heading in
      let head : head_at kept.headings x.section ≡ b.heading = head-is x b.heading (subst H (sym section_is) own.0) in
      let by_heading : Heading → Heading × Line = λ h. (h, (x.name, x.text)) in
      let by_line : Line → Heading × Line = λ y. (b.heading, y) in
      let P : Heading × Line → Type 0 = λ q. Contains (map (placed kept.headings) kept.stored) q in
      subst P (ap by_heading head ∙ ap by_line line_is ∙ is) (Contains-mapped (placed kept.headings) kept.stored x at_x)

  lines-from : AreMembers (map (placed kept.headings) kept.stored) (flat_map lines_with_heading blocks)
  unfolding placed
  lines-from p among =
      let (x, at_x, is) = Contains-unmapped (placed kept.headings) kept.stored p among in
      let (h, at_h) = has-at kept.headings x.section (of_sections x at_x) in
      let (b, at_b, own) = are.each_section x.section h at_h in
      let same : b.heading ≡ h = (let both : Some b.heading ≡ Some h = sym own.0 ∙ at_h in cc) in
      let head : head_at kept.headings x.section ≡ b.heading = head-is x h at_h ∙ sym same in
      let by_heading : Heading → Heading × Line = λ k. (k, (x.name, x.text)) in
      let P : Heading × Line → Type 0 = λ q. Contains (flat_map lines_with_heading blocks) q in
      subst P (sym (ap by_heading head) ∙ is)
      (Contains-flat_map lines_with_heading blocks b (b.heading, (x.name, x.text)) at_b
      (Contains-mapped (λ (y : Line). (b.heading, y)) b.lines (x.name, x.text) (own.1.0 x at_x refl)))
    where
      has-at : (hs : List Heading) (k : ℕ) → k < length hs → (h : Heading) × (slice_get hs k ≡ Some h)
      has-at [] k low = absurd (omega (arith, low))
      has-at (h ∷ hs) zero low = (h, refl)
      has-at (h ∷ hs) (suc k) low = has-at hs k (omega (arith, low))

  pub text-sized : (parts : List NamedSection) → AllZip HasHeading kept.headings parts
      → length (text_with_header kept.header blocks) ≡ (48 + length kept.header) + (sections_size parts + sum_by
      (λ (x : StoredEntry). length x.text + 1) kept.stored)
  text-sized parts begins =
      let heads = sum-within heading_size (block_headings blocks) kept.headings blocks-once heads-to in
      let heads_ = sum-within heading_size kept.headings (block_headings blocks) heads_once heads-from in
      let rows : List (Heading × Line) = map (placed kept.headings) kept.stored in
      let rows_once : NoneTwice rows = keyed-once (λ (p : Heading × Line). p.1.0) rows
      (subst NoneTwice (sym (placed-names kept.headings kept.stored)) once) in
      let lines = sum-within placed_size (flat_map lines_with_heading blocks) rows (placed-none_twice blocks blocks-once are.lines_rise)
      lines-to in
      let lines_ = sum-within placed_size rows (flat_map lines_with_heading blocks) rows_once lines-from in
      let body = blocks-size blocks in
      let own = heads-sizes kept.headings parts begins in
      let texts = placed-sizes kept.headings kept.stored in
      let one = length-append (line (section begin)) (line (section header_start)
      ++ (kept.header ++ (line (section section_end) ++ (flat_map block_bytes blocks ++ line (section finish))))) in
      let two = length-append (line (section header_start))
      (kept.header ++ (line (section section_end) ++ (flat_map block_bytes blocks ++ line (section finish)))) in
      let three = length-append kept.header (line (section section_end) ++ (flat_map block_bytes blocks ++ line (section finish))) in
      let four = length-append (line (section section_end)) (flat_map block_bytes blocks ++ line (section finish)) in
      let five = length-append (flat_map block_bytes blocks) (line (section finish)) in
      omega (arith, heads, heads_, lines, lines_, body, own, texts, one, two, three, four, five)

-- ---- lines one by one

-- lines with their numbers and without
pub lines-sized : (lines : List NumberedLine) → sum_by (λ (x : NumberedLine). length x.text.items + 1) lines ≡ lines_size (held_lines lines)
lines-sized [] = refl
lines-sized (l ∷ ls) =
    let one = sum_by-cons (λ (x : NumberedLine). length x.text.items + 1) l ls in
    let two = sum_by-cons (λ (m : Line). length m.1 + 1) (held_line l) (held_lines ls) in
    let rest = lines-sized ls in
    omega (arith, one, two, rest)

-- each line within a limit is
pub line-within : (most : ℕ) (lines : List NumberedLine) (k : ℕ) (one : NumberedLine) → k < length lines → one ≡ get_or lines k one
    → Each (λ (l : Line). length l.1 ≤ most) (held_lines lines) → length one.text.items ≤ most
line-within most [] k one low at each = absurd (omega (arith, low))
line-within most (x ∷ xs) zero one low at each = let P : NumberedLine → Type 0 = λ z. length z.text.items ≤ most in subst P (sym at) each.0
line-within most (x ∷ xs) (suc k) one low at each = line-within most xs k one (omega (arith, low)) at each.1

-- the line at a position
pub line-at : (lines : List NumberedLine) (k : ℕ) (one : NumberedLine) → k < length lines → one ≡ get_or lines k one
    → held_line one ≡ get_or (held_lines lines) k (held_line one)
line-at lines k one low at = ap held_line at ∙ sym (get_or-map held_line lines k one (held_line one) low)
