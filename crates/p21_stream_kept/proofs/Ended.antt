-- What is kept at the end.
use Rattle.std.proofs.Common.{◌≡◌, ◌+◌, ◌<◌, ℕ, List, [], ◌∷◌, ◌++◌, length, take, get_or, sym, subst, ap, ◌∙◌}
use Rattle.std.proofs.lemmas.List.{map-append, take_more}
use Rattle.std.proofs.lemmas.Result.{IfOk-weaker}
use Rattle.std.proofs.lemmas.Slice.Zip.{all_zipped_more}
use Rattle.std.specs.List.{AllZip, IsDistinct}
use Rattle.std.specs.Prelude.{IfOk, Result}
use Rattle.std.specs.Str.{bytes_eq}
use Rattle.p21_spec_basics.proofs.Members.{Each-append}
use Rattle.p21_spec_basics.specs.Limits.{Limits}
use Rattle.p21_spec_laws.proofs.Keeps.{keeps-section_names, keeps-text_size}
use Rattle.p21_spec_laws.proofs.Output.{keeps-names_differ}
use Rattle.p21_spec_laws.specs.Keeping.{Keeps, Kept}
use Rattle.p21_spec_exchange.specs.DataSection.{Heading}
use Rattle.p21_spec_exchange.specs.Statement.{Statement}
use Rattle.p21_spec_schema.specs.Schema.{Schema}
use Rattle.p21_stream_output.specs.Ending.{HasNamesOnce, HasSize, IsFileOfKept, IsKeptIn}
use Rattle.p21_stream_output.specs.NamedSections.{AreEmpty, HasHeading}
use Rattle.p21_stream_output.specs.declared.named_sections.NamedSection.{NamedSection}
use Rattle.p21_stream_kept.specs.Sections.{heading_in, headings_of}
use Rattle.p21_stream_kept.specs.Taking.{IsKeptOfFile}
use Rattle.p21_stream_kept.specs.declared.sections.Section.{Section}
use Rattle.p21_stream_output.specs.Output.{Output}
use Rattle.p21_stream_store.specs.Memberships.{Membership}
use Rattle.p21_stream_store.specs.StoredInstance as store

-- no two sections that are kept have one name, nor two instances
pub keeps-names_once : (s : Schema) (limits : Limits) (given : List Statement) (kept : Kept) → Keeps s limits given kept → HasNamesOnce kept
keeps-names_once s limits given kept keeps = record {
  sections = subst (λ (ns : List (List ℕ)). IsDistinct bytes_eq ns) (keeps-section_names s limits given kept keeps)
      keeps.unrefused.section_names_differ;
  instances = keeps-names_differ s limits given kept keeps;
}

-- one more section
pub parts-more : (sections : List Section) (k : ℕ) (d : Section) (old new : List NamedSection) (part : NamedSection) → k < length sections
    → new ≡ old ++ part ∷ [] → AllZip HasHeading (headings_of (take k sections)) old
    → HasHeading (heading_in (get_or sections k d).part) part → AllZip HasHeading (headings_of (take (k + 1) sections)) new
parts-more sections k d old new part low is so_far begins =
    let P : List Heading → Type 0 = λ hs. AllZip HasHeading hs new in
    let Q : List NamedSection → Type 0 = λ ps. AllZip HasHeading
    (headings_of (take k sections) ++ heading_in (get_or sections k d).part ∷ []) ps in
    subst P (sym (ap headings_of (take_more sections k d low)
    ∙ map-append (λ (x : Section). heading_in x.part) (take k sections) (get_or sections k d ∷ [])))
    (subst Q (sym is) (all_zipped_more HasHeading (headings_of (take k sections)) old (heading_in (get_or sections k d).part) part so_far
    begins))

pub empty-more : (old new : List NamedSection) (part : NamedSection) → new ≡ old ++ part ∷ [] → AreEmpty old → part.instance_positions ≡ []
    → AreEmpty new
empty-more old new part is so_far none = subst AreEmpty (sym is)
    (Each-append (λ (x : NamedSection). x.instance_positions ≡ []) old (part ∷ []) so_far (none, tt))

-- the file of what is kept of a whole file has as many bytes as are kept
pub end-sized : (kept : Kept) (header : List ℕ) (parts : List NamedSection) (memberships : List Membership)
    (instances : List store.StoredInstance) → IsKeptOfFile kept → IsKeptIn kept header parts memberships instances
    → HasSize header parts memberships instances (kept.bytes + kept.framing)
end-sized kept header parts memberships instances is stands = record {
  kept = kept;
  stands = stands;
  once = keeps-names_once is.schema is.limits is.given kept is.keeps;
  size_is = keeps-text_size is.schema is.limits is.given kept is.keeps is.structure is.text is.is_file is.statements_are is.lines;
}

-- what stands in these has this end
pub end-is : {E : Type 0} (kept : Kept) (header : List ℕ) (parts : List NamedSection) (memberships : List Membership)
    (instances : List store.StoredInstance) (result : Result Output E) → IsKeptIn kept header parts memberships instances
    → IfOk result (λ (file : Output). (k : Kept) → IsKeptIn k header parts memberships instances → HasNamesOnce k → IsFileOfKept k file)
    → IfOk result (λ (file : Output). (s : Schema) (limits : Limits) (given : List Statement) → Keeps s limits given kept
    → IsFileOfKept kept file)
end-is kept header parts memberships instances result stands ends =
    IfOk-weaker result (λ (file : Output). (k : Kept) → IsKeptIn k header parts memberships instances → HasNamesOnce k
    → IsFileOfKept k file) (λ (file : Output). (s : Schema) (limits : Limits) (given : List Statement) → Keeps s limits given kept
    → IsFileOfKept kept file)
    (λ file each s limits given keeps. each kept stands (keeps-names_once s limits given kept keeps)) ends
