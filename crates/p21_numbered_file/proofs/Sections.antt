-- Data sections one by one.
use Rattle.std.proofs.Common.{◌≡◌, ◌<◌, ◌+◌, ℕ, List, [], ◌∷◌, ◌++◌, length, take, get_or, Option, ap, sym, subst, ◌∙◌}
use Rattle.std.proofs.lemmas.List.{map-append, take_more}
use Rattle.std.proofs.lemmas.Slice.Zip.{all_zipped_more}
use Rattle.std.specs.Global.{Vec}
use denote.Ref.{Bor}
use Rattle.std.specs.List.{AllZip}
use Rattle.p21_spec_basics.proofs.Members.{Each-append}
use Rattle.p21_spec_exchange.specs.DataSection.{Heading}
use Rattle.p21_grammar_tree.specs.declared.record.Part.{Part}
use Rattle.p21_numbering.specs.Rows.{lent_rows}
use Rattle.p21_stream_output.specs.NamedSections.{AreEmpty, HasHeading}
use Rattle.p21_stream_output.specs.declared.named_sections.NamedSection.{NamedSection}
use Rattle.p21_numbered_file.specs.Headings.{AreTextsOf, heading_in, headings_in, label_in}

pub texts-more : (sections : List (Option Part)) (k : ℕ) (one : Option Part) (old new : List (Vec (Bor (List ℕ))))
    (texts : Vec (Bor (List ℕ))) → k < length sections → one ≡ get_or sections k one → new ≡ old ++ texts ∷ []
    → AreTextsOf (take k sections) old → lent_rows texts.items ≡ label_in one → AreTextsOf (take (k + 1) sections) new
texts-more sections k one old new texts low at is so_far own =
    let R : Option Part → Vec (Bor (List ℕ)) → Type 0 = λ section row. lent_rows row.items ≡ label_in section in
    let P : List (Option Part) → Type 0 = λ xs. AllZip R xs new in
    let Q : List (Vec (Bor (List ℕ))) → Type 0 = λ rows. AllZip R (take k sections ++ one ∷ []) rows in
    let O : Option Part → Type 0 = λ x. AllZip R (take k sections ++ x ∷ []) new in
    subst P (sym (take_more sections k one low)) (subst O at
    (subst Q (sym is) (all_zipped_more R (take k sections) old one texts so_far own)))

pub parts-more : (sections : List (Option Part)) (k : ℕ) (one : Option Part) (old new : List NamedSection) (part : NamedSection)
    → k < length sections → one ≡ get_or sections k one → new ≡ old ++ part ∷ []
    → AllZip HasHeading (headings_in (take k sections)) old → HasHeading (heading_in one) part
    → AllZip HasHeading (headings_in (take (k + 1) sections)) new
parts-more sections k one old new part low at is so_far begins =
    let P : List Heading → Type 0 = λ hs. AllZip HasHeading hs new in
    let Q : List NamedSection → Type 0 = λ ps. AllZip HasHeading (headings_in (take k sections) ++ heading_in one ∷ []) ps in
    let same : headings_in (take (k + 1) sections) ≡ headings_in (take k sections) ++ heading_in one ∷ [] =
    ap headings_in (take_more sections k one low) ∙ map-append heading_in (take k sections) (get_or sections k one ∷ [])
    ∙ ap (λ (x : Option Part). headings_in (take k sections) ++ heading_in x ∷ []) (sym at) in
    subst P (sym same) (subst Q (sym is) (all_zipped_more HasHeading (headings_in (take k sections)) old (heading_in one) part so_far
    begins))

pub empty-more : (old new : List NamedSection) (part : NamedSection) → new ≡ old ++ part ∷ [] → AreEmpty old → part.instance_positions ≡ []
    → AreEmpty new
empty-more old new part is so_far none = subst AreEmpty (sym is)
    (Each-append (λ (x : NamedSection). x.instance_positions ≡ []) old (part ∷ []) so_far (none, tt))
