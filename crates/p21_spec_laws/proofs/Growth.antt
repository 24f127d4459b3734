-- What is known of the statements taken, with one more.
use Rattle.std.specs.Prelude.{◌≡◌, ◌+◌, ℕ, List, [], ◌∷◌, ◌++◌, map, length, refl, sum_by, Contains, nat_eq}
use Rattle.std.specs.List.{IsDistinct, AllByRecursion as Each}
use Rattle.std.specs.Str.{bytes_eq}
use Rattle.std.proofs.Common.{arith, ap, sym, subst, ◌∙◌, append-nil, length-append}
use Rattle.std.proofs.lemmas.List.{map-append}
use Rattle.std.proofs.lemmas.List.Sums.{sum_by_push}
use Rattle.p21_spec_basics.proofs.Members.{Contains-first, Each-append, Each-weaker}
use Rattle.p21_spec_laws.proofs.SaidFiles.{Instance}
use Rattle.p21_spec_laws.proofs.Statements.{instances-append, names-append}
use Rattle.p21_spec_laws.specs.CompleteFile.{Entry, SectionEntries, IsPrinted, entries_in, section_of, written_in}
use Rattle.p21_spec_laws.specs.Taken.{instances_among, names_among, section_names_among}
use Rattle.p21_spec_laws.proofs.Among.{parts-append, sections-by_header, sections-by_instance, sections-by_line}
use Rattle.p21_spec_laws.proofs.Growing.{entries-by_entry, entries-by_line, framing-append, groups-by_entry, groups-by_line, canonical_size-is, names-more, texts-more}
use Rattle.p21_spec_laws.specs.Among.{parts_among}
use Rattle.p21_spec_laws.specs.UnrefusedStatements.{IsFitting, IsFound, section_entries_behind, canonical_size, sections_behind, with_instance}
use Rattle.p21_spec_laws.specs.UnrefusedLaws.{SectionCountOfUnrefused, UnrefusedAtStart, UnrefusedByHeader, UnrefusedByInstance, UnrefusedBySectionLine, CanonicalSizeOfUnrefused, NamesOfUnrefused, SizeByHeader, SizeByInstance, SizeBySectionLine}
use Rattle.p21_spec_exchange.specs.CanonicalText.{statement_text}
use Rattle.p21_spec_exchange.specs.DataSection.{DataSection, named, unnamed}
use Rattle.p21_spec_exchange.specs.Record.{Part}
use Rattle.p21_spec_exchange.specs.Statement.{SectionLine, Statement, begin, data_start, finish, header, header_start, instance, section, section_end}

-- ---- sizes

pub size-by_line : SizeBySectionLine
size-by_line given groups line_ =
    let P : List Part → Type 0 = λ ps. sum_by (λ (part : Part). length (statement_text (header part))) ps + sum_by (λ (e : Entry). length e.text) (entries_in (section_entries_behind groups line_)) ≡ canonical_size given groups in
    let Q : List Entry → Type 0 = λ es. sum_by (λ (part : Part). length (statement_text (header part))) (parts_among given) + sum_by (λ (e : Entry). length e.text) es ≡ canonical_size given groups in
    let parts : parts_among given ≡ parts_among (given ++ (section line_ ∷ [])) = sym (parts-append given (section line_ ∷ []) ∙ append-nil (parts_among given)) in
    let kept : canonical_size (given ++ (section line_ ∷ [])) (section_entries_behind groups line_) ≡ canonical_size given groups = subst P parts (subst Q (sym (entries-by_line groups line_)) refl) in
    let more = framing-append given (section line_ ∷ []) in
    let long = length-append (statement_text (section line_)) (10 ∷ []) in
    (kept, omega (arith, more, long))

pub size-by_header : SizeByHeader
size-by_header given groups part =
    let parts = ap (sum_by (λ (x : Part). length (statement_text (header x)))) (parts-append given (header part ∷ [])) in
    let pushed = sum_by_push (λ (x : Part). length (statement_text (header x))) (parts_among given) part in
    let more = framing-append given (header part ∷ []) in
    (omega (arith, parts, pushed), omega (arith, more))

pub size-by_instance : SizeByInstance
size-by_instance given groups entry some =
    let parts = ap (sum_by (λ (x : Part). length (statement_text (header x)))) (parts-append given (instance entry.name entry.record_ ∷ []) ∙ append-nil (parts_among given)) in
    let entries = ap (sum_by (λ (e : Entry). length e.text)) (entries-by_entry groups entry some) in
    let pushed = sum_by_push (λ (e : Entry). length e.text) (entries_in groups) entry in
    let more = framing-append given (instance entry.name entry.record_ ∷ []) in
    (omega (arith, parts, entries, pushed), omega (arith, more))

-- ---- what follows from what is known

pub names-of_unrefused : NamesOfUnrefused
names-of_unrefused s limits given groups unrefused = ap (map (λ (i : Instance). i.0)) unrefused.instances_are ∙ names-of (entries_in groups)
  where
    names-of : (entries : List Entry) → map (λ (i : Instance). i.0) (written_in entries) ≡ map (λ (e : Entry). e.name) entries
    names-of [] = refl
    names-of (e ∷ es) = ap (λ (ns : List ℕ). e.name ∷ ns) (names-of es)

pub groups-of_unrefused : SectionCountOfUnrefused
groups-of_unrefused s limits given groups unrefused = sizes groups ∙ ap length (sym unrefused.sections_are)
  where
    sizes : (gs : List SectionEntries) → length gs ≡ length (map section_of gs)
    sizes [] = refl
    sizes (g ∷ gs) = let rest = sizes gs in omega (arith, rest)

pub canonical_size-of_unrefused : CanonicalSizeOfUnrefused
canonical_size-of_unrefused s limits given groups unrefused = canonical_size-is s given groups unrefused.instances_are (Each-weaker (IsFound s limits) (IsPrinted s) (λ e found. found.printed) (entries_in groups) unrefused.found)

-- ---- one statement more

texts-none : IsDistinct bytes_eq []
unfolding IsDistinct
texts-none = tt

names-none : IsDistinct nat_eq []
unfolding IsDistinct
names-none = tt

pub unrefused-at_start : UnrefusedAtStart
unrefused-at_start s limits = record {
  sections_are = refl;
  instances_are = refl;
  fitting = tt;
  found = tt;
  section_names_differ = texts-none;
  names_differ = names-none;
  size_within = omega arith;
}

-- the names of sections, with one that differs from them
names-by_line : (given : List Statement) (line_ : SectionLine) → IsDistinct bytes_eq (section_names_among given) → ((name : List ℕ) → Contains (section_names_among (section line_ ∷ [])) name → ¬ Contains (section_names_among given) name)
    → IsDistinct bytes_eq (section_names_among given ++ section_names_among (section line_ ∷ []))
names-by_line given (data_start (named name text)) differ other = texts-more (section_names_among given) name differ (other name (Contains-first name []))
names-by_line given (data_start unnamed) differ other = subst (IsDistinct bytes_eq) (sym (append-nil (section_names_among given))) differ
names-by_line given begin differ other = subst (IsDistinct bytes_eq) (sym (append-nil (section_names_among given))) differ
names-by_line given header_start differ other = subst (IsDistinct bytes_eq) (sym (append-nil (section_names_among given))) differ
names-by_line given section_end differ other = subst (IsDistinct bytes_eq) (sym (append-nil (section_names_among given))) differ
names-by_line given finish differ other = subst (IsDistinct bytes_eq) (sym (append-nil (section_names_among given))) differ

pub unrefused-by_line : UnrefusedBySectionLine
unrefused-by_line s limits given groups unrefused line_ fits other within =
    let now : List Statement = given ++ (section line_ ∷ []) in
    let instances : instances_among now ≡ instances_among given = instances-append given (section line_ ∷ []) ∙ append-nil (instances_among given) in
    let size = size-by_line given groups line_ in
    let kept = size.0 in
    let framed = size.1 in
    record {
      sections_are = sections-by_line given line_ ∙ ap (λ (xs : List DataSection). sections_behind xs line_) unrefused.sections_are ∙ sym (groups-by_line groups line_);
      instances_are = instances ∙ unrefused.instances_are ∙ ap written_in (sym (entries-by_line groups line_));
      fitting = Each-append (IsFitting s limits) given (section line_ ∷ []) unrefused.fitting (fits, tt);
      found = subst (Each (IsFound s limits)) (sym (entries-by_line groups line_)) unrefused.found;
      section_names_differ = subst (IsDistinct bytes_eq) (sym (names-append given (section line_ ∷ []))) (names-by_line given line_ unrefused.section_names_differ other);
      names_differ = subst (IsDistinct nat_eq) (sym (ap (map (λ (i : Instance). i.0)) instances)) unrefused.names_differ;
      size_within = omega (arith, kept, framed, within);
    }

pub unrefused-by_header : UnrefusedByHeader
unrefused-by_header s limits given groups unrefused part fits within =
    let now : List Statement = given ++ (header part ∷ []) in
    let instances : instances_among now ≡ instances_among given = instances-append given (header part ∷ []) ∙ append-nil (instances_among given) in
    let size = size-by_header given groups part in
    let kept = size.0 in
    let framed = size.1 in
    record {
      sections_are = sections-by_header given part ∙ unrefused.sections_are;
      instances_are = instances ∙ unrefused.instances_are;
      fitting = Each-append (IsFitting s limits) given (header part ∷ []) unrefused.fitting (fits, tt);
      found = unrefused.found;
      section_names_differ = subst (IsDistinct bytes_eq) (sym (names-append given (header part ∷ []) ∙ append-nil (section_names_among given))) unrefused.section_names_differ;
      names_differ = subst (IsDistinct nat_eq) (sym (ap (map (λ (i : Instance). i.0)) instances)) unrefused.names_differ;
      size_within = omega (arith, kept, framed, within);
    }

pub unrefused-by_instance : UnrefusedByInstance
unrefused-by_instance s limits given groups unrefused entry found some other within =
    let added : List Statement = instance entry.name entry.record_ ∷ [] in
    let now : List Statement = given ++ added in
    let instances : instances_among now ≡ instances_among given ++ ((entry.name, entry.record_) ∷ []) = instances-append given added in
    let size = size-by_instance given groups entry some in
    let kept = size.0 in
    let framed = size.1 in
    let entries = entries-by_entry groups entry some in
    let names : names_among now ≡ names_among given ++ (entry.name ∷ []) = ap (map (λ (i : Instance). i.0)) instances ∙ map-append (λ (i : Instance). i.0) (instances_among given) ((entry.name, entry.record_) ∷ []) in
    let P : List ℕ → Type 0 = λ ns. ¬ Contains ns entry.name in
    let new : ¬ Contains (names_among given) entry.name = subst P (sym (names-of_unrefused s limits given groups unrefused)) other in
    record {
      sections_are = sections-by_instance given (entry.name, entry.record_) ∙ ap (λ (xs : List DataSection). with_instance xs (entry.name, entry.record_)) unrefused.sections_are ∙ sym (groups-by_entry groups entry);
      instances_are = instances
          ∙ ap (λ (is : List Instance). is ++ ((entry.name, entry.record_) ∷ [])) unrefused.instances_are
          ∙ sym (map-append (λ (e : Entry). (e.name, e.record_)) (entries_in groups) (entry ∷ []))
          ∙ ap written_in (sym entries);
      fitting = Each-append (IsFitting s limits) given added unrefused.fitting (tt, tt);
      found = subst (Each (IsFound s limits)) (sym entries) (Each-append (IsFound s limits) (entries_in groups) (entry ∷ []) unrefused.found (found, tt));
      section_names_differ = subst (IsDistinct bytes_eq) (sym (names-append given added ∙ append-nil (section_names_among given))) unrefused.section_names_differ;
      names_differ = subst (IsDistinct nat_eq) (sym names) (names-more (names_among given) entry.name unrefused.names_differ new);
      size_within = omega (arith, kept, framed, within);
    }
