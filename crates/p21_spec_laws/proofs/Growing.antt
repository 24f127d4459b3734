-- Data sections that grow, with what was found of their instances, and the sizes of canonical lines.
use Rattle.std.specs.Prelude.{◌≡◌, ◌<◌, ◌+◌, ℕ, suc, zero, List, [], ◌∷◌, ◌++◌, map, length, refl, sum_by, Contains, nat_eq}
use Rattle.std.specs.List.{IsDistinct, AllByRecursion as Each}
use Rattle.std.specs.Str.{bytes_eq}
use Rattle.std.proofs.Common.{arith, ap, sym, subst, ◌∙◌, inl, inr, append_assoc, append-nil}
use Rattle.std.proofs.lemmas.Grind.{flat_map-append}
use Rattle.std.proofs.lemmas.List.{map-append}
use Rattle.std.proofs.lemmas.List.Elements.{Contains-append_cases}
use Rattle.std.proofs.lemmas.List.Sums.{sum_by-cons}
use Rattle.p21_spec_basics.proofs.Members.{Contains-none, Contains-cases, Contains-later}
use Rattle.p21_spec_basics.proofs.Shuffles.{NoneTwice, distinct-none_twice, none_twice-distinct, none_twice-texts, texts-none_twice}
use Rattle.p21_spec_laws.specs.CompleteFile.{Entry, SectionEntries, IsPrinted, entries_in, section_of, written_in}
use Rattle.p21_spec_laws.specs.SizeLaws.{framing}
use Rattle.p21_spec_laws.specs.Taken.{instances_among}
use Rattle.p21_spec_laws.specs.Among.{parts_among}
use Rattle.p21_spec_laws.specs.UnrefusedStatements.{section_entries_behind, canonical_size, numbered_entries_from, numbered_entries_in, sections_behind, with_entry, with_instance}
use Rattle.p21_spec_exchange.specs.CanonicalText.{statement_text}
use Rattle.p21_spec_exchange.specs.DataSection.{DataSection}
use Rattle.p21_spec_exchange.specs.Record.{Part, Record}
use Rattle.p21_spec_exchange.specs.Statement.{SectionLine, Statement, data_start, header, instance, section}
use Rattle.p21_spec_file.specs.CanonicalTexts.{HaveCanonicalSize, IsInstanceText}
use Rattle.p21_spec_schema.specs.Schema.{Schema}

-- ---- one more behind names that differ

pub NoneTwice-more : {X : Type 0} (xs : List X) (x : X) → NoneTwice xs → ¬ Contains xs x → NoneTwice (xs ++ (x ∷ []))
NoneTwice-more [] x none other = (λ among. Contains-none x among, tt)
NoneTwice-more {X} (y ∷ ys) x none other = (
  λ among. elim (Contains-append_cases ys (x ∷ []) y among) [
    | inl h ↦ none.0 h
    | inr h ↦ elim (Contains-cases x [] y h) [
      | inl same ↦ other (0, omega arith, sym same)
      | inr far ↦ Contains-none y far
    ]
  ],
  NoneTwice-more ys x none.1 (λ among. other (Contains-later y ys x among)),
)

pub names-more : (ns : List ℕ) (n : ℕ) → IsDistinct nat_eq ns → ¬ Contains ns n → IsDistinct nat_eq (ns ++ (n ∷ []))
names-more ns n differ other = none_twice-distinct (ns ++ (n ∷ [])) (NoneTwice-more ns n (distinct-none_twice ns differ) other)

pub texts-more : (xs : List (List ℕ)) (x : List ℕ) → IsDistinct bytes_eq xs → ¬ Contains xs x → IsDistinct bytes_eq (xs ++ (x ∷ []))
texts-more xs x differ other = none_twice-texts (xs ++ (x ∷ [])) (NoneTwice-more xs x (texts-none_twice xs differ) other)

-- ---- groups

pub groups-by_line : (groups : List SectionEntries) (line_ : SectionLine) → map section_of (section_entries_behind groups line_) ≡ sections_behind (map section_of groups) line_
groups-by_line groups (data_start h) = map-append section_of groups (record { heading = h; entries = [] } ∷ [])
groups-by_line groups other = refl

pub entries-by_line : (groups : List SectionEntries) (line_ : SectionLine) → entries_in (section_entries_behind groups line_) ≡ entries_in groups
entries-by_line groups (data_start h) = flat_map-append (λ (g : SectionEntries). g.entries) groups (record { heading = h; entries = [] } ∷ []) ∙ append-nil (entries_in groups)
entries-by_line groups other = refl

pub groups-by_entry : (groups : List SectionEntries) (e : Entry) → map section_of (with_entry groups e) ≡ with_instance (map section_of groups) (e.name, e.record_)
groups-by_entry [] e = refl
groups-by_entry (g ∷ []) e = ap (λ (is : List (ℕ × Record)). record { heading = g.heading; instances = is } ∷ []) (map-append (λ (x : Entry). (x.name, x.record_)) g.entries (e ∷ []))
groups-by_entry (g ∷ next ∷ more) e = ap (λ (xs : List DataSection). section_of g ∷ xs) (groups-by_entry (next ∷ more) e)

pub entries-by_entry : (groups : List SectionEntries) (e : Entry) → 0 < length groups → entries_in (with_entry groups e) ≡ entries_in groups ++ (e ∷ [])
entries-by_entry [] e some = absurd (omega (arith, some))
entries-by_entry (g ∷ []) e some = append-nil (g.entries ++ (e ∷ [])) ∙ ap (λ (es : List Entry). es ++ (e ∷ [])) (sym (append-nil g.entries))
entries-by_entry (g ∷ next ∷ more) e some = ap (λ (es : List Entry). g.entries ++ es) (entries-by_entry (next ∷ more) e (omega arith)) ∙ sym (append_assoc g.entries (entries_in (next ∷ more)) (e ∷ []))

-- the instance has the number of the last section
numbered-from_entry : (n k : ℕ) (groups : List SectionEntries) (e : Entry) → suc k ≡ length groups → numbered_entries_from n (with_entry groups e) ≡ numbered_entries_from n groups ++ ((n + k, e) ∷ [])
numbered-from_entry n k [] e last = absurd (omega (arith, last))
numbered-from_entry n k (g ∷ []) e last =
    let number : n ≡ n + k = omega (arith, last) in
    append-nil (map (λ (x : Entry). (n, x)) (g.entries ++ (e ∷ [])))
    ∙ map-append (λ (x : Entry). (n, x)) g.entries (e ∷ [])
    ∙ ap (λ (xs : List (ℕ × Entry)). xs ++ ((n, e) ∷ [])) (sym (append-nil (map (λ (x : Entry). (n, x)) g.entries)))
    ∙ ap (λ (m : ℕ). numbered_entries_from n (g ∷ []) ++ ((m, e) ∷ [])) number
numbered-from_entry n zero (g ∷ next ∷ more) e last = absurd (omega (arith, last))
numbered-from_entry n (suc k) (g ∷ next ∷ more) e last =
    let own : List (ℕ × Entry) = map (λ (x : Entry). (n, x)) g.entries in
    let number : suc n + k ≡ n + suc k = omega arith in
    ap (λ (xs : List (ℕ × Entry)). own ++ xs) (numbered-from_entry (suc n) k (next ∷ more) e (omega (arith, last)))
    ∙ ap (λ (m : ℕ). own ++ (numbered_entries_from (suc n) (next ∷ more) ++ ((m, e) ∷ []))) number
    ∙ sym (append_assoc own (numbered_entries_from (suc n) (next ∷ more)) ((n + suc k, e) ∷ []))

pub numbered-by_entry : (k : ℕ) (groups : List SectionEntries) (e : Entry) → suc k ≡ length groups → numbered_entries_in (with_entry groups e) ≡ numbered_entries_in groups ++ ((k, e) ∷ [])
numbered-by_entry k groups e last = let number : 0 + k ≡ k = omega arith in numbered-from_entry 0 k groups e last ∙ ap (λ (m : ℕ). numbered_entries_in groups ++ ((m, e) ∷ [])) number

numbered-from_section : (n : ℕ) (groups : List SectionEntries) (g : SectionEntries) → g.entries ≡ [] → numbered_entries_from n (groups ++ (g ∷ [])) ≡ numbered_entries_from n groups
numbered-from_section n [] g none = append-nil (map (λ (x : Entry). (n, x)) g.entries) ∙ ap (map (λ (x : Entry). (n, x))) none
numbered-from_section n (x ∷ groups) g none = ap (λ (xs : List (ℕ × Entry)). map (λ (e : Entry). (n, e)) x.entries ++ xs) (numbered-from_section (suc n) groups g none)

pub numbered-by_line : (groups : List SectionEntries) (line_ : SectionLine) → numbered_entries_in (section_entries_behind groups line_) ≡ numbered_entries_in groups
numbered-by_line groups (data_start h) = numbered-from_section 0 groups (record { heading = h; entries = [] }) refl
numbered-by_line groups other = refl

-- ---- sizes

pub framing-append : (xs ys : List Statement) → framing (xs ++ ys) ≡ framing xs + framing ys
framing-append [] ys = omega arith
framing-append (section line_ ∷ xs) ys = let rest = framing-append xs ys in omega (arith, rest)
framing-append (header part ∷ xs) ys = let rest = framing-append xs ys in omega (arith, rest)
framing-append (instance n r ∷ xs) ys = let rest = framing-append xs ys in omega (arith, rest)

pub canonical_size-append : (s : Schema) (xs ys : List Statement) (a b : ℕ) → HaveCanonicalSize s xs a → HaveCanonicalSize s ys b → HaveCanonicalSize s (xs ++ ys) (a + b)
canonical_size-append s [] ys a b first second = let none : b ≡ a + b = (let h : a ≡ 0 = first in omega (arith, h)) in subst (HaveCanonicalSize s ys) none second
canonical_size-append s (section line_ ∷ xs) ys a b first second = canonical_size-append s xs ys a b first second
canonical_size-append s (header part ∷ xs) ys a b (more, is, rest) second = (more + b, omega (arith, is), canonical_size-append s xs ys more b rest second)
canonical_size-append s (instance n r ∷ xs) ys a b (text, more, is, printed, rest) second = (text, more + b, omega (arith, is), printed, canonical_size-append s xs ys more b rest second)

-- the sizes of header lines and of texts are those of the statements
abbrev part_size : Part → ℕ
part_size part = length (statement_text (header part))

abbrev text_size : Entry → ℕ
text_size entry = length entry.text

canonical_size-of : (s : Schema) (given : List Statement) (entries : List Entry) → instances_among given ≡ written_in entries → Each (IsPrinted s) entries → HaveCanonicalSize s given (sum_by part_size (parts_among given) + sum_by text_size entries)
canonical_size-of s [] [] same printed = refl
canonical_size-of s [] (e ∷ es) same printed = cc
canonical_size-of s (section line_ ∷ given) entries same printed = canonical_size-of s given entries same printed
canonical_size-of s (header part ∷ given) entries same printed =
    let size = sum_by-cons part_size part (parts_among given) in
    (sum_by part_size (parts_among given) + sum_by text_size entries, omega (arith, size), canonical_size-of s given entries same printed)
canonical_size-of s (instance n r ∷ given) [] same printed = cc
canonical_size-of s (instance n r ∷ given) (e ∷ es) same printed =
    let first : ◌≡◌ {A = ℕ × Record} (n, r) (e.name, e.record_) = cc in
    let rest : instances_among given ≡ written_in es = cc in
    let size = sum_by-cons text_size e es in
    let P : ℕ × Record → Type 0 = λ i. IsInstanceText s i.0 i.1 e.text in
    (e.text, sum_by part_size (parts_among given) + sum_by text_size es, omega (arith, size), subst P (sym first) printed.0, canonical_size-of s given es rest printed.1)

pub canonical_size-is : (s : Schema) (given : List Statement) (groups : List SectionEntries) → instances_among given ≡ written_in (entries_in groups) → Each (IsPrinted s) (entries_in groups) → HaveCanonicalSize s given (canonical_size given groups)
canonical_size-is s given groups same printed = canonical_size-of s given (entries_in groups) same printed
