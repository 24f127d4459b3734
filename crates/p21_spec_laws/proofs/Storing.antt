-- The instances that were taken, as a store keeps them, in whatever order.
use Rattle.std.specs.Prelude.{◌≡◌, ℕ, suc, zero, ◌+◌, List, [], ◌∷◌, ◌++◌, map, length, Contains, refl, sum_by, slice_get, Some}
use Rattle.std.specs.List.{flat_map, AllByRecursion as Each}
use Rattle.std.specs.List.Sorted.{IsPermutation}
use Rattle.std.proofs.Common.{arith, ap, sym, subst, ◌∙◌, inl, inr}
use Rattle.std.proofs.lemmas.List.{map-append}
use Rattle.std.proofs.lemmas.List.Elements.{Contains-append_cases, Contains-append_left, Contains-append_right}
use Rattle.std.proofs.lemmas.List.Sorted.{Contains-permutation, IsPermutation-append_comm, IsPermutation-cons, IsPermutation-refl, IsPermutation-sym, IsPermutation-trans, sum_by-IsPermutation}
use Rattle.std.proofs.lemmas.List.Sums.{sum_by-cons}
use Rattle.p21_spec_basics.proofs.Members.{Contains-cases, Contains-first, Contains-flat_map, Contains-later, Contains-mapped, Contains-none, Contains-one_of, Contains-unmapped, Each-member, Each-of_members}
use Rattle.p21_spec_laws.specs.CompleteFile.{Block, Entry, SectionEntries, Line, block_headings, block_of_section, entries_in, lines_in, lines_with_heading}
use Rattle.p21_spec_laws.proofs.Growing.{numbered-by_entry, numbered-by_line}
use Rattle.p21_spec_laws.proofs.Waits.{served-by_entry}
use Rattle.p21_spec_laws.specs.UnrefusedStatements.{numbered_entries_from, numbered_entries_in}
use Rattle.p21_spec_laws.specs.Offending.{unfit, unknown}
use Rattle.p21_spec_laws.specs.Stored.{IsBlockOf, KeptLines, StoredEntry, stored_in, stored_of, with_lines}
use Rattle.p21_spec_laws.specs.StoredLaws.{BlocksOfSections, UnstoredNameIsOfNoInstance, UnstoredTargetIsUnknown, StoreAtStart, StoreByEntry, StoreBySectionLine, StoredIsEntry, StoredTargetIsUnfit, StoredLines, StoredTargetServes, StoredSize}
use Rattle.p21_spec_exchange.specs.DataSection.{AreHeadings, Heading, IsNamed, named, unnamed}
use Rattle.p21_spec_file.specs.Reference.{Serves}

-- ---- instances with the numbers of their sections

numbered-from_entries : (n : ℕ) (groups : List SectionEntries) → map (λ (p : ℕ × Entry). p.1) (numbered_entries_from n groups) ≡ entries_in groups
numbered-from_entries n [] = refl
numbered-from_entries n (g ∷ gs) =
    map-append (λ (p : ℕ × Entry). p.1) (map (λ (e : Entry). (n, e)) g.entries) (numbered_entries_from (suc n) gs)
    ∙ ap (λ (es : List Entry). es ++ map (λ (p : ℕ × Entry). p.1) (numbered_entries_from (suc n) gs)) (own g.entries)
    ∙ ap (λ (es : List Entry). g.entries ++ es) (numbered-from_entries (suc n) gs)
  where
    own : (es : List Entry) → map (λ (p : ℕ × Entry). p.1) (map (λ (e : Entry). (n, e)) es) ≡ es
    own [] = refl
    own (e ∷ es) = ap (λ (xs : List Entry). e ∷ xs) (own es)

pub numbered-entries : (groups : List SectionEntries) → map (λ (p : ℕ × Entry). p.1) (numbered_entries_in groups) ≡ entries_in groups
numbered-entries groups = numbered-from_entries 0 groups

-- each has the number of its section
pub numbered-from_section : (n : ℕ) (groups : List SectionEntries) (k : ℕ) (g : SectionEntries) (e : Entry) → slice_get groups k ≡ Some g → Contains g.entries e → Contains (numbered_entries_from n groups) (n + k, e)
numbered-from_section n [] k g e at among = cc
numbered-from_section n (h ∷ gs) zero g e at among =
    let same : h ≡ g = cc in
    let P : SectionEntries → Type 0 = λ x. Contains x.entries e in
    let number : n ≡ n + 0 = omega arith in
    let Q : ℕ → Type 0 = λ m. Contains (numbered_entries_from n (h ∷ gs)) (m, e) in
    subst Q number (Contains-append_left (map (λ (x : Entry). (n, x)) h.entries) (numbered_entries_from (suc n) gs) (n, e) (Contains-mapped (λ (x : Entry). (n, x)) h.entries e (subst P (sym same) among)))
numbered-from_section n (h ∷ gs) (suc k) g e at among =
    let number : suc n + k ≡ n + suc k = omega arith in
    let Q : ℕ → Type 0 = λ m. Contains (numbered_entries_from n (h ∷ gs)) (m, e) in
    subst Q number (Contains-append_right (map (λ (x : Entry). (n, x)) h.entries) (numbered_entries_from (suc n) gs) (suc n + k, e) (numbered-from_section (suc n) gs k g e at among))

pub section-numbered_from : (n : ℕ) (groups : List SectionEntries) (m : ℕ) (e : Entry) → Contains (numbered_entries_from n groups) (m, e) → (k : ℕ) × (g : SectionEntries) × (m ≡ n + k) × (slice_get groups k ≡ Some g) × Contains g.entries e
section-numbered_from n [] m e among = absurd (Contains-none (m, e) among)
section-numbered_from n (h ∷ gs) m e among = elim (Contains-append_cases (map (λ (x : Entry). (n, x)) h.entries) (numbered_entries_from (suc n) gs) (m, e) among) [
  | inl found ↦ (
      let (x, at, is) = Contains-unmapped {Y = ℕ × Entry} (λ (y : Entry). (n, y)) h.entries (m, e) found in
      let number : n ≡ m = ap (λ (p : ℕ × Entry). p.0) is in
      let P : Entry → Type 0 = λ y. Contains h.entries y in
      (0, h, omega (arith, number), refl, subst P (ap (λ (p : ℕ × Entry). p.1) is) at))
  | inr found ↦ let (k, g, number, at, is) = section-numbered_from (suc n) gs m e found in (suc k, g, omega (arith, number), at, is)
]

-- ---- the store grows

pub store-at_start : StoreAtStart
store-at_start lines = IsPermutation-refl []

pub store-by_line : StoreBySectionLine
store-by_line lines groups kept store line_ = let P : List (ℕ × Entry) → Type 0 = λ xs. IsPermutation (map (stored_of lines) xs) kept in subst P (sym (numbered-by_line groups line_)) store

-- what is kept in another order, with one more
pub shuffled-more : {X : Type 0} (items old new : List X) (x : X) → IsPermutation items old → IsPermutation (x ∷ old) new → IsPermutation (items ++ (x ∷ [])) new
shuffled-more items old new x are added =
    IsPermutation-trans (items ++ (x ∷ [])) (x ∷ items) new (IsPermutation-append_comm items (x ∷ [])) (IsPermutation-trans (x ∷ items) (x ∷ old) new (IsPermutation-cons x items old are) added)

pub store-by_entry : StoreByEntry
store-by_entry lines groups old new store number entry last added =
    let P : List StoredEntry → Type 0 = λ xs. IsPermutation xs new in
    let are : stored_in lines groups ++ (stored_of lines (number, entry) ∷ []) ≡ map (stored_of lines) (numbered_entries_in groups ++ ((number, entry) ∷ [])) = sym (map-append (stored_of lines) (numbered_entries_in groups) ((number, entry) ∷ [])) in
    subst P (are ∙ ap (map (stored_of lines)) (sym (numbered-by_entry number groups entry last))) (shuffled-more (stored_in lines groups) old new (stored_of lines (number, entry)) store added)

-- ---- what is found in it

-- what is kept is of a numbered instance
pub stored-numbered : (lines : KeptLines) (groups : List SectionEntries) (kept : List StoredEntry) → IsPermutation (stored_in lines groups) kept → (x : StoredEntry) → Contains kept x → (p : ℕ × Entry) × Contains (numbered_entries_in groups) p × (stored_of lines p ≡ x)
stored-numbered lines groups kept store x among = Contains-unmapped (stored_of lines) (numbered_entries_in groups) x (Contains-permutation kept (stored_in lines groups) x (IsPermutation-sym (stored_in lines groups) kept store) among)

numbered-entry : (groups : List SectionEntries) (p : ℕ × Entry) → Contains (numbered_entries_in groups) p → Contains (entries_in groups) p.1
numbered-entry groups p among = let P : List Entry → Type 0 = λ es. Contains es p.1 in subst P (numbered-entries groups) (Contains-mapped (λ (q : ℕ × Entry). q.1) (numbered_entries_in groups) p among)

pub stored-entry : StoredIsEntry
stored-entry lines groups kept store x among =
    let (p, at, is) = stored-numbered lines groups kept store x among in
    (p.1, numbered-entry groups p at, ap (λ (y : StoredEntry). y.name) is, ap (λ (y : StoredEntry). y.entities) is, ap (λ (y : StoredEntry). y.text) is)

-- an instance is kept under its number
entry-stored : (lines : KeptLines) (groups : List SectionEntries) (kept : List StoredEntry) → IsPermutation (stored_in lines groups) kept → (e : Entry) → Contains (entries_in groups) e → (x : StoredEntry) × Contains kept x × (x.name ≡ e.name)
entry-stored lines groups kept store e among =
    let P : List Entry → Type 0 = λ es. Contains es e in
    let (p, at, is) = Contains-unmapped (λ (q : ℕ × Entry). q.1) (numbered_entries_in groups) e (subst P (sym (numbered-entries groups)) among) in
    (stored_of lines p, Contains-permutation (stored_in lines groups) kept (stored_of lines p) store (Contains-mapped (stored_of lines) (numbered_entries_in groups) p at), ap (λ (y : Entry). y.name) is)

pub none-stored : UnstoredNameIsOfNoInstance
none-stored lines groups kept store name none among =
    let (e, at, is) = Contains-unmapped (λ (x : Entry). x.name) (entries_in groups) name among in
    let (x, at_x, same) = entry-stored lines groups kept store e at in
    let P : ℕ → Type 0 = λ n. Contains (map (λ (y : StoredEntry). y.name) kept) n in
    none (subst P (same ∙ is) (Contains-mapped (λ (y : StoredEntry). y.name) kept x at_x))

texts-size : (ps : List (ℕ × Entry)) → sum_by (λ (x : StoredEntry). length x.text) (map (stored_of with_lines) ps) ≡ sum_by (λ (e : Entry). length e.text) (map (λ (p : ℕ × Entry). p.1) ps)
texts-size [] = refl
texts-size (p ∷ ps) =
    let one = sum_by-cons (λ (x : StoredEntry). length x.text) (stored_of with_lines p) (map (stored_of with_lines) ps) in
    let two = sum_by-cons (λ (e : Entry). length e.text) p.1 (map (λ (q : ℕ × Entry). q.1) ps) in
    let rest = texts-size ps in
    omega (arith, one, two, rest)

pub stored-size : StoredSize
stored-size groups kept store = sum_by-IsPermutation (λ (x : StoredEntry). length x.text) (stored_in with_lines groups) kept store ∙ texts-size (numbered_entries_in groups) ∙ ap (sum_by (λ (e : Entry). length e.text)) (numbered-entries groups)

pub stored-serves : StoredTargetServes
stored-serves s lines groups kept store need x among name serves =
    let (e, at, name_, entities, text) = stored-entry lines groups kept store x among in
    let P : List ℕ → Type 0 = λ es. Serves s need.wanted es in
    served-by_entry s (entries_in groups) need e at (name_ ∙ name) (subst P (sym entities) serves)

pub stored-unfit : StoredTargetIsUnfit
stored-unfit s lines groups kept store reference x among name none =
    let (e, at, name_, entities, text) = stored-entry lines groups kept store x among in
    let P : List ℕ → Type 0 = λ es. ¬ Serves s reference.1.wanted es in
    unfit reference e at (name_ ∙ name) (subst P (sym entities) none)

pub none-stored_unknown : UnstoredTargetIsUnknown
none-stored_unknown s lines groups kept store reference none = unknown reference (none-stored lines groups kept store reference.1.target none)

-- ---- what is written of it

pub stored-lines : StoredLines
stored-lines groups kept store number g at lines (onto, back) l = (to, from)
  where
    to : Contains lines l → Contains (lines_in g.entries) l
    to among =
        let (x, at_x, section_, is) = back l among in
        let (p, at_p, is_p) = stored-numbered with_lines groups kept store x at_x in
        let (k, h, number_, at_h, at_e) = section-numbered_from 0 groups p.0 p.1 at_p in
        let section_is : p.0 ≡ x.section = ap (λ (y : StoredEntry). y.section) is_p in
        let same : k ≡ number = omega (arith, number_, section_is, section_) in
        let G : ℕ → Type 0 = λ n. slice_get groups n ≡ Some h in
        let one : h ≡ g = (let both : Some h ≡ Some g = sym (subst G same at_h) ∙ at in cc) in
        let E : SectionEntries → Type 0 = λ y. Contains y.entries p.1 in
        let L : Line → Type 0 = λ y. Contains (lines_in g.entries) y in
        subst L (ap (λ (y : StoredEntry). (y.name, y.text)) is_p ∙ is) (Contains-mapped (λ (e : Entry). (e.name, e.text)) g.entries p.1 (subst E one at_e))

    from : Contains (lines_in g.entries) l → Contains lines l
    from among =
        let (e, at_e, is) = Contains-unmapped {Y = Line} (λ (y : Entry). (y.name, y.text)) g.entries l among in
        let zero_ : 0 + number ≡ number = omega arith in
        let found = numbered-from_section 0 groups number g e at at_e in
        let x : StoredEntry = stored_of with_lines (0 + number, e) in
        let L : Line → Type 0 = λ y. Contains lines y in
        subst L is (onto x (Contains-permutation (stored_in with_lines groups) kept x store (Contains-mapped (stored_of with_lines) (numbered_entries_in groups) (0 + number, e) found)) zero_)

are-headings : (hs gs : List Heading) → AreHeadings gs → length hs ≡ length gs → ((h : Heading) → Contains hs h → Contains gs h) → AreHeadings hs
are-headings hs [] are size onto = absurd are
are-headings [] (g ∷ gs) are size onto = absurd (omega (arith, size))
are-headings (h ∷ []) (unnamed ∷ []) are size onto = elim (Contains-cases unnamed [] h (onto h (Contains-first h []))) [
  | inl same ↦ subst (λ (x : Heading). AreHeadings (x ∷ [])) same tt
  | inr far ↦ absurd (Contains-none h far)
]
are-headings (h ∷ next ∷ more) (unnamed ∷ []) are size onto = absurd (omega (arith, size))
are-headings hs (unnamed ∷ next ∷ more) are size onto = absurd are
are-headings (h ∷ hs) (named name schema ∷ more) are size onto = first h (all h (Contains-first h hs)) (Each-of_members IsNamed hs (λ x among. all x (Contains-later h hs x among)))
  where
    all : (x : Heading) → Contains (h ∷ hs) x → IsNamed x
    all x among = Each-member IsNamed (named name schema ∷ more) x (tt, are) (onto x among)

    first : (x : Heading) → IsNamed x → Each IsNamed hs → AreHeadings (x ∷ hs)
    first unnamed is each = absurd is
    first (named own text) is each = each

pub blocks-of_groups : BlocksOfSections
blocks-of_groups groups blocks are size onto back rise lines =
    let heads : List Heading = map (λ (g : SectionEntries). g.heading) groups in
    let to : (h : Heading) → Contains (block_headings blocks) h → Contains heads h = λ h among.
    let (b, at, is) = Contains-unmapped (λ (x : Block). x.heading) blocks h among in
    let (g, at_g, same) = Each-member (λ (x : Block). (g : SectionEntries) × Contains groups g × IsBlockOf g x) blocks b onto at in
    let P : Heading → Type 0 = λ x. Contains heads x in
    subst P (sym same.0 ∙ is) (Contains-mapped (λ (x : SectionEntries). x.heading) groups g at_g) in
    let from : (h : Heading) → Contains heads h → Contains (block_headings blocks) h = λ h among.
    let (g, at, is) = Contains-unmapped (λ (x : SectionEntries). x.heading) groups h among in
    let (b, at_b, same) = Each-member (λ (x : SectionEntries). (b : Block) × Contains blocks b × IsBlockOf x b) groups g back at in
    let P : Heading → Type 0 = λ x. Contains (block_headings blocks) x in
    subst P (same.0 ∙ is) (Contains-mapped (λ (x : Block). x.heading) blocks b at_b) in
    record {
      are_headings = are-headings (block_headings blocks) heads are (sizes blocks groups size) to;
      sections_rise = rise;
      names_rise = lines;
      headings_are = λ h. (to h, from h);
      lines_are = λ p. (lines-to p, lines-from p);
    }
  where
    sizes : (bs : List Block) (gs : List SectionEntries) → length bs ≡ length gs → length (block_headings bs) ≡ length (map (λ (g : SectionEntries). g.heading) gs)
    sizes [] [] same = refl
    sizes [] (g ∷ gs) same = absurd (omega (arith, same))
    sizes (b ∷ bs) [] same = absurd (omega (arith, same))
    sizes (b ∷ bs) (g ∷ gs) same = let rest = sizes bs gs (omega (arith, same)) in omega (arith, rest)

    lines-to : (p : Heading × Line) → Contains (flat_map lines_with_heading blocks) p → Contains (flat_map lines_with_heading (map block_of_section groups)) p
    lines-to p among =
        let (b, at, found) = Contains-one_of lines_with_heading blocks p among in
        let (l, at_l, is) = Contains-unmapped {Y = Heading × Line} (λ (x : Line). (b.heading, x)) b.lines p found in
        let (g, at_g, same) = Each-member (λ (x : Block). (g : SectionEntries) × Contains groups g × IsBlockOf g x) blocks b onto at in
        let own : Contains (lines_with_heading (block_of_section g)) (g.heading, l) = Contains-mapped (λ (x : Line). (g.heading, x)) (lines_in g.entries) l ((same.1 l).0 at_l) in
        let P : Heading × Line → Type 0 = λ q. Contains (flat_map lines_with_heading (map block_of_section groups)) q in
        subst P (ap (λ (h : Heading). (h, l)) (sym same.0) ∙ is) (Contains-flat_map lines_with_heading (map block_of_section groups) (block_of_section g) (g.heading, l) (Contains-mapped block_of_section groups g at_g) own)

    lines-from : (p : Heading × Line) → Contains (flat_map lines_with_heading (map block_of_section groups)) p → Contains (flat_map lines_with_heading blocks) p
    lines-from p among =
        let (c, at, found) = Contains-one_of lines_with_heading (map block_of_section groups) p among in
        let (g, at_g, is_g) = Contains-unmapped block_of_section groups c at in
        let Q : Block → Type 0 = λ x. Contains (lines_with_heading x) p in
        let (l, at_l, is) = Contains-unmapped {Y = Heading × Line} (λ (x : Line). (g.heading, x)) (lines_in g.entries) p (subst Q (sym is_g) found) in
        let (b, at_b, same) = Each-member (λ (x : SectionEntries). (b : Block) × Contains blocks b × IsBlockOf x b) groups g back at_g in
        let own : Contains (lines_with_heading b) (b.heading, l) = Contains-mapped (λ (x : Line). (b.heading, x)) b.lines l ((same.1 l).1 at_l) in
        let P : Heading × Line → Type 0 = λ q. Contains (flat_map lines_with_heading blocks) q in
        subst P (ap (λ (h : Heading). (h, l)) same.0 ∙ is) (Contains-flat_map lines_with_heading blocks b (b.heading, l) at_b own)
