-- Each instance has its line in the file of all.
use Rattle.std.proofs.Common.{◌≡◌, ◌+◌, ◌<◌, ℕ, List, [], length, nat_eq, slice_get, Option, Some, None, sym, ap, subst, ◌∙◌, inl, inr, Bool, arith}
use Rattle.std.proofs.lemmas.Bool.{eq-eqb}
use Rattle.std.proofs.lemmas.List.{length-map}
use Rattle.std.proofs.lemmas.List.FromFn.{get_or-range_with_len, length-range_with_len}
use Rattle.std.proofs.lemmas.List.Kept.{IsNonDecreasingBy-filter}
use Rattle.std.proofs.lemmas.List.Sorted.{Contains-permutation}
use Rattle.std.proofs.lemmas.Option.{slice_get_cases, slice_get_within}
use Rattle.std.specs.List.{range_with_len}
use Rattle.std.specs.List.Sorted.{IsNonDecreasingBy, IsPermutation}
use Rattle.std.specs.Prelude.{Contains}
use Rattle.p21_spec_basics.proofs.Members.{Contains-at, Contains-filter, Contains-found, Contains-mapped, Contains-unmapped, Each-at, Each-of_members}
use Rattle.p21_stream_output.proofs.Lines.{alone-in_file}
use Rattle.p21_stream_output.specs.Output.{HasLines, IsLineOf, IsNamed, output_text}
use Rattle.p21_stream_output.specs.Stored.{AreFiled, output_of, texts_at, written_section}
use Rattle.p21_stream_output.specs.declared.accepted.Section.{Section}
use Rattle.p21_stream_output.proofs.Rows.{part-filed}
use Rattle.p21_stream_output.proofs.Whole.{filed-each}
use Rattle.p21_stream_output.specs.Ending.{AreNamed}
use Rattle.p21_stream_output.specs.Filing.{HaveMemberships, AreOfSections, IsFiling, heads_of, section_positions, section_at, section_of_membership}
use Rattle.p21_stream_output.specs.NamedSections.{AreEmpty, bodies_of, sections_bodies}
use Rattle.p21_stream_output.specs.declared.named_sections.NamedSection.{NamedSection}
use Rattle.p21_stream_store.specs.Memberships.{Membership}
use Rattle.p21_stream_store.specs.StoredInstance.{StoredInstance, name_at, text_at}

pub same-text : (instances : List StoredInstance) (place : ℕ) (x : StoredInstance) → slice_get instances place ≡ Some x
    → text_at instances place ≡ x.text
same-text instances place x at = ap (λ (y : Option StoredInstance). elim y [ Some z ↦ z.text | None ↦ [] ]) at

same-section : (memberships : List Membership) (instances : List StoredInstance) (place : ℕ) (x : StoredInstance) (membership : Membership)
    → slice_get instances place ≡ Some x → slice_get memberships x.membership ≡ Some membership
    → section_at memberships instances place ≡ membership.section
same-section memberships instances place x membership at of =
    ap (λ (y : Option StoredInstance). elim y [ Some z ↦ section_of_membership memberships z.membership | None ↦ 0 ]) at
    ∙ ap (λ (k : Option Membership). elim k [ Some l ↦ l.section | None ↦ 0 ]) of

-- where a position stands in a part, it stands in a section of the file
in-sections : (sections : List Section) (parts : List NamedSection) (part : NamedSection) (place : ℕ)
    → sections_bodies sections ≡ bodies_of parts → Contains parts part → Contains part.instance_positions place
    → (section : Section) × Contains sections section × Contains section.instance_positions place
in-sections sections parts part place same at among =
    let P : List (List ℕ × List ℕ) → Type 0 = λ bodies. Contains bodies (part.line.items, part.instance_positions) in
    let body = subst P (sym same) (Contains-mapped (λ (y : NamedSection). (y.line.items, y.instance_positions)) parts part at) in
    let (section, found, are) = Contains-unmapped (λ (y : Section). (y.line.items, y.instance_positions)) sections
    (part.line.items, part.instance_positions) body in
    let Q : List ℕ → Type 0 = λ instance_positions. Contains instance_positions place in
    (section, found, subst Q (sym (ap (λ (p : List ℕ × List ℕ). p.1) are)) among)

-- the section of this number holds the position
in-part : (memberships : List Membership) (instances : List StoredInstance) (old filed : List NamedSection) → AreEmpty old
    → heads_of filed ≡ heads_of old → IsFiling memberships instances (section_positions old) (section_positions filed) → (place number : ℕ)
    → place < length instances → section_at memberships instances place ≡ number → number < length old
    → (part : NamedSection) × Contains filed part × Contains part.instance_positions place
in-part memberships instances old filed none heads filing place number below is low =
    let many : length filed ≡ length old = sym (length-map filed (λ (x : NamedSection). (x.name.items, x.line.items))) ∙ ap length heads
    ∙ length-map old (λ (x : NamedSection). (x.name.items, x.line.items)) in
    elim (slice_get_cases filed number).1 [
      | inl (part, within, at, found) ↦
          let first : 0 + place ≡ place = omega arith in
          let long = length-range_with_len 0 (length instances) in
          let ordered = Contains-permutation (range_with_len 0 (length instances)) filing.order place filing.instance_positions
          (place, omega (arith, below, long), get_or-range_with_len 0 (length instances) place place below ∙ first) in
          let P : List ℕ → Type 0 = λ instance_positions. Contains instance_positions place in
          let test : ℕ → Bool = λ p. nat_eq (section_at memberships instances p) number in (
            part,
            Contains-found filed number part at,
            subst P
                (sym (part-filed (section_at memberships instances) filing.order old filed none filing.filed_ number part at))
                (Contains-filter test filing.order place (eq-eqb (section_at memberships instances place) number is) ordered),
          )
      | inr (above, at) ↦ absurd (omega (arith, above, low, many))
    ]

-- each position is one of a section of the file
pub in-file : (memberships : List Membership) (instances : List StoredInstance) (old filed sorted : List NamedSection)
    (sections : List Section) → HaveMemberships memberships instances → AreOfSections (length old) memberships
    → AreEmpty old → heads_of filed ≡ heads_of old → IsFiling memberships instances (section_positions old) (section_positions filed)
    → IsPermutation filed sorted → sections_bodies sections ≡ bodies_of sorted
    → (place : ℕ) → place < length instances → (section : Section) × Contains sections section × Contains section.instance_positions place
in-file memberships instances old filed sorted sections are_kinds of_sections none heads filing are same place low =
    elim (slice_get_cases instances place).1 [
      | inl (x, inside, at, here) ↦
          let kind = Each-at (λ (y : StoredInstance). y.membership < length memberships) instances place x are_kinds at in
          elim (slice_get_cases memberships x.membership).1 [
            | inl (membership, within, of, found) ↦
                let below = Each-at (λ (y : Membership). y.section < length old) memberships x.membership membership of_sections of in
                let (part, filed_at, holds) = in-part memberships instances old filed none heads filing place membership.section low
                (same-section memberships instances place x membership at of) below in
                in-sections sections sorted part place same (Contains-permutation filed sorted part are filed_at) holds
            | inr (above, of) ↦ absurd (omega (arith, above, kind))
          ]
      | inr (above, at) ↦ absurd (omega (arith, above, low))
    ]

pub filed : (memberships : List Membership) (instances : List StoredInstance) (old filed_ sorted : List NamedSection)
    (sections : List Section) → HaveMemberships memberships instances → AreOfSections (length old) memberships
    → AreEmpty old → heads_of filed_ ≡ heads_of old → IsFiling memberships instances (section_positions old) (section_positions filed_)
    → IsPermutation filed_ sorted → sections_bodies sections ≡ bodies_of sorted
    → AreFiled instances sections
filed memberships instances old filed_ sorted sections are_kinds of_sections none heads filing are same = record {
  rise = filed-each (IsNonDecreasingBy (name_at instances)) memberships instances old filed_ sorted sections none filing are same
      (λ test. IsNonDecreasingBy-filter (name_at instances) test filing.order filing.rises);
  whole = in-file memberships instances old filed_ sorted sections are_kinds of_sections none heads filing are same;
}

pub has-lines : (header : List ℕ) (memberships : List Membership) (instances : List StoredInstance) (old filed_ sorted : List NamedSection)
    (sections : List Section) (statement : ℕ) → HaveMemberships memberships instances → AreOfSections (length old) memberships
    → AreNamed instances
    → AreEmpty old → heads_of filed_ ≡ heads_of old → IsFiling memberships instances (section_positions old) (section_positions filed_)
    → IsPermutation filed_ sorted → sections_bodies sections ≡ bodies_of sorted
    → HasLines (output_of header sections instances statement)
has-lines header memberships instances old filed_ sorted sections statement are_kinds of_sections named none heads filing are same =
    Each-of_members (λ (x : StoredInstance). IsLineOf x.name x.text (output_text (output_of header sections instances statement))) instances
    each
  where
    each : (x : StoredInstance) → Contains instances x
        → IsLineOf x.name x.text (output_text (output_of header sections instances statement))
    each x among =
        let (place, at) = Contains-at instances x among in
        let (section, written, has) = in-file memberships instances old filed_ sorted sections are_kinds of_sections none heads filing are
        same place (slice_get_within instances place x at) in
        let Has : List ℕ → Type 0 = λ text. Contains (texts_at instances section.instance_positions) text in
        let there : Contains (texts_at instances section.instance_positions) x.text =
        subst Has (same-text instances place x at) (Contains-mapped (text_at instances) section.instance_positions place has) in
        record {
          named = Each-at (λ (y : StoredInstance). IsNamed y.name y.text) instances place x named at;
          alone = alone-in_file (output_of header sections instances statement) (written_section instances section) x.text
              (Contains-mapped (written_section instances) sections section written) there;
        }
