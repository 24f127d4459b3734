-- The size of a file's text by rising blocks: that of the statements taken.
use Rattle.std.specs.Prelude.{◌≡◌, ◌≤◌, ◌+◌, ℕ, List, [], ◌∷◌, ◌++◌, map, length, refl, sum_by, Contains}
use Rattle.std.specs.List.{flat_map, AllByRecursion as Each}
use Rattle.std.specs.Ordering.{nat_cmp}
use Rattle.std.proofs.Common.{arith, ap, sym, subst, inl, inr, ◌∙◌, length-append}
use Rattle.std.proofs.lemmas.Cmp.{nat_cmp_total}
use Rattle.std.proofs.lemmas.Grind.{flat_map-append}
use Rattle.std.proofs.lemmas.List.{map-append}
use Rattle.std.proofs.lemmas.List.Elements.{Contains-append_cases}
use Rattle.std.proofs.lemmas.List.Sums.{sum_by-append, sum_by-cons}
use Rattle.p21_spec_basics.proofs.Members.{Contains-first, Contains-later, Contains-mapped, Contains-one_of, Contains-unmapped}
use Rattle.p21_spec_basics.proofs.RisingLists.{rises-mapped, rises-none_twice}
use Rattle.p21_spec_basics.proofs.Shuffles.{AreMembers, Contains-taken, NoneTwice, Taken, Taken-other, taken_first, taken_later}
use Rattle.p21_spec_laws.proofs.Headings.{headings-none_twice}
use Rattle.p21_spec_laws.proofs.SaidFiles.{instance_of}
use Rattle.p21_spec_laws.specs.CompleteFile.{AreLinesRising, AreRisingBlocks, Block, Entry, SectionEntries, Line, block_bytes, block_headings, block_of_section, entries_in, file_text, head_statements, line_bytes, lines_in, lines_with_heading, section_of, structure_of, written_in}
use Rattle.p21_spec_laws.specs.SizeLaws.{framing}
use Rattle.p21_spec_laws.proofs.Growing.{framing-append}
use Rattle.p21_spec_exchange.specs.CanonicalText.{line, statement_text}
use Rattle.p21_spec_exchange.specs.DataSection.{Heading}
use Rattle.p21_spec_exchange.specs.Record.{Part}
use Rattle.p21_spec_exchange.specs.Statement.{Statement, begin, data_start, finish, header, header_start, section, section_end}
use Rattle.p21_spec_exchange.specs.Structure.{section_statements, statements}

-- ---- sums over lists without repeats

sum-taken : {X : Type 0} (f : X → ℕ) (x : X) (ys rest : List X) → Taken x ys rest → sum_by f ys ≡ f x + sum_by f rest
sum-taken f x ys rest (taken_first y _ same) = sum_by-cons f y rest ∙ ap (λ n. n + sum_by f rest) (ap f (sym same))
sum-taken f x ys rest (taken_later y more rest_ taken) =
    let first = sum_by-cons f y more in
    let second = sum_by-cons f y rest_ in
    let inner = sum-taken f x more rest_ taken in
    omega (arith, first, second, inner)

-- a list without repeats has no greater sum than one that has its members
sum-within : {X : Type 0} (f : X → ℕ) (xs ys : List X) → NoneTwice xs → AreMembers xs ys → sum_by f xs ≤ sum_by f ys
sum-within f [] ys none onto = omega arith
sum-within {X} f (x ∷ xs) ys none onto =
    let (rest, taken) = Contains-taken ys x (onto x (Contains-first x xs)) in
    let whole = sum-taken f x ys rest taken in
    let own = sum_by-cons f x xs in
    let more = sum-within f xs rest none.1 (λ z among. elim (Taken-other x ys rest taken z (onto z (Contains-later x xs z among))) [
      | inl h ↦ absurd (none.0 (let P : X → Type 0 = λ w. Contains xs w in subst P (sym h) among))
      | inr h ↦ h
    ]) in
    omega (arith, whole, own, more)

-- ---- lines at their headings

joined-none_twice : {X : Type 0} (xs ys : List X) → NoneTwice xs → NoneTwice ys → ((x : X) → Contains xs x → ¬ Contains ys x) → NoneTwice (xs ++ ys)
joined-none_twice [] ys none none_ apart = none_
joined-none_twice (x ∷ xs) ys none none_ apart = (
  λ among. elim (Contains-append_cases xs ys x among) [
    | inl h ↦ none.0 h
    | inr h ↦ apart x (Contains-first x xs) h
  ],
  joined-none_twice xs ys none.1 none_ (λ z at. apart z (Contains-later x xs z at)),
)

placed-once : (h : Heading) (ls : List Line) → NoneTwice ls → NoneTwice {X = Heading × Line} (map (λ (l : Line). (h, l)) ls)
placed-once h [] none = tt
placed-once h (l ∷ ls) none = (
  λ among. none.0 (
      let (k, at, is) = Contains-unmapped (λ (x : Line). (h, x)) ls (h, l) among in
      let P : Line → Type 0 = λ x. Contains ls x in
      subst P (ap (λ (p : Heading × Line). p.1) is) at
      ),
  placed-once h ls none.1,
)

placed-heading : (bs : List Block) (p : Heading × Line) → Contains (flat_map lines_with_heading bs) p → Contains (block_headings bs) p.0
placed-heading bs p among =
    let (b, at, found) = Contains-one_of lines_with_heading bs p among in
    let (l, at_l, is) = Contains-unmapped (λ (x : Line). (b.heading, x)) b.lines p found in
    let P : Heading → Type 0 = λ h. Contains (block_headings bs) h in
    subst P (ap (λ (q : Heading × Line). q.0) is) (Contains-mapped (λ (x : Block). x.heading) bs b at)

placed-none_twice : (bs : List Block) → NoneTwice (block_headings bs) → Each AreLinesRising bs → NoneTwice (flat_map lines_with_heading bs)
placed-none_twice [] none rise = tt
placed-none_twice (b ∷ bs) none rise =
    joined-none_twice (lines_with_heading b) (flat_map lines_with_heading bs) (placed-once b.heading b.lines (rises-none_twice nat_cmp nat_cmp_total (λ (l : Line). l.0) b.lines (rises-mapped nat_cmp (λ (l : Line). l.0) b.lines rise.0)))
    (placed-none_twice bs none.1 rise.1)
    (λ p at among. none.0 (
    let (l, at_l, is) = Contains-unmapped (λ (x : Line). (b.heading, x)) b.lines p at in
    let P : Heading → Type 0 = λ h. Contains (block_headings bs) h in
    subst P (sym (ap (λ (q : Heading × Line). q.0) is)) (placed-heading bs p among)
    ))

-- ---- the bytes of blocks

heading_size : Heading → ℕ
heading_size h = length (line (section (data_start h))) + length (line (section section_end))

placed_size : Heading × Line → ℕ
placed_size p = length (line_bytes p.1)

own-lines : (h : Heading) (ls : List Line) → length (flat_map line_bytes ls) ≡ sum_by placed_size (map (λ (l : Line). (h, l)) ls)
unfolding placed_size
own-lines h [] = refl
own-lines h (l ∷ ls) =
    let long = length-append (line_bytes l) (flat_map line_bytes ls) in
    let own = sum_by-cons placed_size (h, l) (map (λ (x : Line). (h, x)) ls) in
    let rest = own-lines h ls in
    omega (arith, long, own, rest)

blocks-size : (bs : List Block) → length (flat_map block_bytes bs) ≡ sum_by heading_size (block_headings bs) + sum_by placed_size (flat_map lines_with_heading bs)
unfolding heading_size
blocks-size [] = refl
blocks-size (b ∷ bs) =
    let long = length-append (block_bytes b) (flat_map block_bytes bs) in
    let first = length-append (line (section (data_start b.heading))) (flat_map line_bytes b.lines ++ line (section section_end)) in
    let second = length-append (flat_map line_bytes b.lines) (line (section section_end)) in
    let heads = sum_by-cons heading_size b.heading (block_headings bs) in
    let lines = sum_by-append placed_size (lines_with_heading b) (flat_map lines_with_heading bs) in
    let own = own-lines b.heading b.lines in
    let rest = blocks-size bs in
    omega (arith, long, first, second, heads, lines, own, rest)

group-headings : (groups : List SectionEntries) → block_headings (map block_of_section groups) ≡ map (λ (g : SectionEntries). g.heading) groups
group-headings [] = refl
group-headings (g ∷ gs) = ap (λ (hs : List Heading). g.heading ∷ hs) (group-headings gs)

-- rising blocks have as many bytes as the groups that they are of, where nothing of these stands twice
blocks-same : (groups : List SectionEntries) (blocks : List Block) → AreRisingBlocks groups blocks → NoneTwice (block_headings (map block_of_section groups)) → NoneTwice (flat_map lines_with_heading (map block_of_section groups)) → length (flat_map block_bytes blocks) ≡ length (flat_map block_bytes (map block_of_section groups))
blocks-same groups blocks rising heads_once lines_once =
    let others : List Block = map block_of_section groups in
    let none : NoneTwice (block_headings blocks) = headings-none_twice (block_headings blocks) rising.are_headings rising.sections_rise in
    let H : List Heading → Type 0 = λ hs. AreMembers (block_headings blocks) hs in
    let G : List Heading → Type 0 = λ hs. AreMembers hs (block_headings blocks) in
    let heads = sum-within heading_size (block_headings blocks) (block_headings others) none (subst H (sym (group-headings groups)) (λ h at. (rising.headings_are h).0 at)) in
    let heads_ = sum-within heading_size (block_headings others) (block_headings blocks) heads_once (subst G (sym (group-headings groups)) (λ h at. (rising.headings_are h).1 at)) in
    let lines = sum-within placed_size (flat_map lines_with_heading blocks) (flat_map lines_with_heading others) (placed-none_twice blocks none rising.names_rise) (λ p at. (rising.lines_are p).0 at) in
    let lines_ = sum-within placed_size (flat_map lines_with_heading others) (flat_map lines_with_heading blocks) lines_once (λ p at. (rising.lines_are p).1 at) in
    let own = blocks-size blocks in
    let all = blocks-size others in
    omega (arith, heads, heads_, lines, lines_, own, all)

-- so it is where the names of instances differ
line-names : (groups : List SectionEntries) → map (λ (p : Heading × Line). p.1.0) (flat_map lines_with_heading (map block_of_section groups)) ≡ map (λ (e : Entry). e.name) (entries_in groups)
line-names [] = refl
line-names (g ∷ gs) =
    map-append (λ (p : Heading × Line). p.1.0) (lines_with_heading (block_of_section g)) (flat_map lines_with_heading (map block_of_section gs))
    ∙ ap (λ (ns : List ℕ). ns ++ map (λ (p : Heading × Line). p.1.0) (flat_map lines_with_heading (map block_of_section gs))) (own g.entries)
    ∙ ap (λ (ns : List ℕ). map (λ (e : Entry). e.name) g.entries ++ ns) (line-names gs)
    ∙ sym (map-append (λ (e : Entry). e.name) g.entries (entries_in gs))
  where
    own : (es : List Entry) → map (λ (p : Heading × Line). p.1.0) (map (λ (l : Line). (g.heading, l)) (lines_in es)) ≡ map (λ (e : Entry). e.name) es
    own [] = refl
    own (e ∷ es) = ap (λ (ns : List ℕ). e.name ∷ ns) (own es)

keyed-once : {X K : Type 0} (key : X → K) (xs : List X) → NoneTwice (map key xs) → NoneTwice xs
keyed-once key [] none = tt
keyed-once key (x ∷ xs) none = (λ among. none.0 (Contains-mapped key xs x among), keyed-once key xs none.1)

-- ---- the bytes of groups

abbrev parts_sum : List Part → ℕ
parts_sum parts = sum_by (λ (part : Part). length (statement_text (header part))) parts

abbrev texts_sum : List Entry → ℕ
texts_sum entries = sum_by (λ (e : Entry). length e.text) entries

entries-size : (entries : List Entry) → length (flat_map line_bytes (lines_in entries)) ≡ texts_sum entries + framing (map instance_of (written_in entries))
entries-size [] = refl
entries-size (e ∷ es) =
    let long = length-append (line_bytes (e.name, e.text)) (flat_map line_bytes (lines_in es)) in
    let own = length-append e.text (10 ∷ []) in
    let sum = sum_by-cons (λ (x : Entry). length x.text) e es in
    let rest = entries-size es in
    omega (arith, long, own, sum, rest)

groups-size : (groups : List SectionEntries) → length (flat_map block_bytes (map block_of_section groups)) ≡ texts_sum (entries_in groups) + framing (flat_map section_statements (map section_of groups))
groups-size [] = refl
groups-size (g ∷ gs) =
    let b : Block = block_of_section g in
    let long = length-append (block_bytes b) (flat_map block_bytes (map block_of_section gs)) in
    let first = length-append (line (section (data_start b.heading))) (flat_map line_bytes b.lines ++ line (section section_end)) in
    let second = length-append (flat_map line_bytes b.lines) (line (section section_end)) in
    let sum = sum_by-append (λ (x : Entry). length x.text) g.entries (entries_in gs) in
    let own = entries-size g.entries in
    let framed = framing-append (section_statements (section_of g)) (flat_map section_statements (map section_of gs)) in
    let inside = framing-append (map instance_of (written_in g.entries)) (section section_end ∷ []) in
    let rest = groups-size gs in
    omega (arith, long, first, second, sum, own, framed, inside, rest)

headers-size : (parts : List Part) → length (flat_map line (map header parts)) ≡ parts_sum parts + framing (map header parts)
headers-size [] = refl
headers-size (part ∷ parts) =
    let long = length-append (line (header part)) (flat_map line (map header parts)) in
    let own = length-append (statement_text (header part)) (10 ∷ []) in
    let sum = sum_by-cons (λ (x : Part). length (statement_text (header x))) part parts in
    let rest = headers-size parts in
    omega (arith, long, own, sum, rest)

-- the file's text by these blocks has as many bytes as the canonical lines of the tree
pub text-size : (parts : List Part) (groups : List SectionEntries) (blocks : List Block) → AreRisingBlocks groups blocks → NoneTwice (map (λ (g : SectionEntries). g.heading) groups) → NoneTwice (map (λ (e : Entry). e.name) (entries_in groups))
    → length (file_text parts blocks) ≡ parts_sum parts + texts_sum (entries_in groups) + framing (statements (structure_of parts groups))
text-size parts groups blocks rising heads_once names_once =
    let sections : List Statement = flat_map section_statements (map section_of groups) in
    let whole = length-append (flat_map line (head_statements parts)) (flat_map block_bytes blocks ++ line (section finish)) in
    let tail = length-append (flat_map block_bytes blocks) (line (section finish)) in
    let head_one = length-append (line (section begin)) (flat_map line (section header_start ∷ (map header parts ++ (section section_end ∷ [])))) in
    let head_two = length-append (line (section header_start)) (flat_map line (map header parts ++ (section section_end ∷ []))) in
    let head_three = ap length (flat_map-append line (map header parts) (section section_end ∷ [])) in
    let head_four = length-append (flat_map line (map header parts)) (flat_map line (section section_end ∷ [])) in
    let head_five = length-append (line (section section_end)) [] in
    let headers = headers-size parts in
    let lines_once = keyed-once (λ (p : Heading × Line). p.1.0) (flat_map lines_with_heading (map block_of_section groups)) (subst NoneTwice (sym (line-names groups)) names_once) in
    let within = blocks-same groups blocks rising (subst NoneTwice (sym (group-headings groups)) heads_once) lines_once in
    let inner = groups-size groups in
    let framed = framing-append (map header parts) (section section_end ∷ (sections ++ (section finish ∷ []))) in
    let framed_ = framing-append sections (section finish ∷ []) in
    omega (arith, whole, tail, head_one, head_two, head_three, head_four, head_five, headers, within, inner, framed, framed_)
