use Rattle.std.proofs.Common.{◌≡◌, ◌∙◌, ◌<◌, ℕ, List, length, map, sym, subst}
use Rattle.std.proofs.lemmas.Bool.{false≢true}
use Rattle.std.specs.Global.{Vec}
use Rattle.std.specs.List.{AllByRecursion as Each}
use Rattle.std.specs.Prelude.{◌↔◌, IsTrue, Option}
use denote.Ref.{Bor}
use Rattle.p21_grammar_tree.specs.declared.record.Part.{Part}
use Rattle.p21_numbered.specs.Lines.{AreNumbered, AreOfFile, held_lines}
use Rattle.p21_numbered.specs.declared.numbered_line.NumberedLine.{NumberedLine}
use Rattle.p21_numbering.specs.Instances.{AreInstancesOf, Instance, file_instances}
use Rattle.p21_numbering.specs.NodesOf.{HasKnownParts}
use Rattle.p21_numbered_file.proofs.NumberedTexts.{all-known, are-instances, is-numbered, is-ready, is-too_long, meant-within, none-ordered, of-file, sections-low}
use Rattle.p21_numbered_file.specs.Assembly.{IsPutTogether, IsReady}
use Rattle.p21_numbered_file.specs.Headings.{AreTextsOf}
use Rattle.p21_numbered_file.specs.Instances.{instance_in}
use Rattle.p21_numbered_file.specs.Numbering.{IsWithin}
use Rattle.p21_stream_output.specs.Output.{output_text}
use Rattle.p21_numbered_file.specs.declared.read_file.ReadInstance.{ReadInstance}
use Rattle.p21_numbered_file.proofs.numbering.numbered_file.Goals as goal

pub named_instances-requires : goal.named_instances-requires
named_instances-requires c =
    let (text, accepted, is) = c.requires in
    let s = c.args.schema.now in
    let formed = c.well_formed-2.ensures in
    let read = c.args.read in
    let texts = c.in_ok-texts.texts.items in
    let A : List (Option Part) → Type 0 = λ xs. AreTextsOf xs texts in
    let are : AreTextsOf read.sections.items texts = subst A c.deref.ensures.value c.in_ok-texts.ensures in
    let T : List (Vec (Bor (List ℕ))) → Type 0 = λ ts. Each (λ (i : ReadInstance). i.section < length ts) read.instances.items in
    subst T (sym c.deref-3.ensures.value) (sections-low s formed text read is texts are)

pub numbered_lines-requires-clause-known : goal.numbered_lines-requires-clause-known
numbered_lines-requires-clause-known c =
    let (text, accepted, is) = c.requires in
    let s = c.args.schema.now in
    let formed = c.well_formed-2.ensures in
    let read = c.args.read in
    let texts = c.in_ok-texts.texts.items in
    let A : List (Option Part) → Type 0 = λ xs. AreTextsOf xs texts in
    let are : AreTextsOf read.sections.items texts = subst A c.deref.ensures.value c.in_ok-texts.ensures in
    let all : List Instance = file_instances c.in_ok-named.named.items in
    let N : List (Vec (Bor (List ℕ))) → Type 0 = λ ts. all ≡ map (instance_in ts) read.instances.items in
    let named_is : all ≡ map (instance_in texts) read.instances.items = subst N c.deref-3.ensures.value c.in_ok-named.ensures in
    let K : List Instance → Type 0 = λ xs. Each (λ (i : Instance). HasKnownParts s i.typed) xs in
    subst K (sym named_is) (all-known s formed text read is texts are)

pub numbered_lines-requires-clause-file : goal.numbered_lines-requires-clause-file
numbered_lines-requires-clause-file c =
    let (text, accepted, is) = c.requires in
    let s = c.args.schema.now in
    let formed = c.well_formed-2.ensures in
    let read = c.args.read in
    let texts = c.in_ok-texts.texts.items in
    let A : List (Option Part) → Type 0 = λ xs. AreTextsOf xs texts in
    let are : AreTextsOf read.sections.items texts = subst A c.deref.ensures.value c.in_ok-texts.ensures in
    let all : List Instance = file_instances c.in_ok-named.named.items in
    let N : List (Vec (Bor (List ℕ))) → Type 0 = λ ts. all ≡ map (instance_in ts) read.instances.items in
    let named_is : all ≡ map (instance_in texts) read.instances.items = subst N c.deref-3.ensures.value c.in_ok-named.ensures in
    subst (AreOfFile s) (sym named_is) (of-file s formed text read is texts are)

pub returns-in-Err : goal.returns-in-Err
returns-in-Err c text accepted is =
    let s = c.args.schema.now in
    let formed = c.well_formed-2.ensures in
    let read = c.args.read in
    let texts = c.in_ok-texts.texts.items in
    let A : List (Option Part) → Type 0 = λ xs. AreTextsOf xs texts in
    let are : AreTextsOf read.sections.items texts = subst A c.deref.ensures.value c.in_ok-texts.ensures in
    let all : List Instance = file_instances c.in_ok-named.named.items in
    let N : List (Vec (Bor (List ℕ))) → Type 0 = λ ts. all ≡ map (instance_in ts) read.instances.items in
    let named_is : all ≡ map (instance_in texts) read.instances.items = subst N c.deref-3.ensures.value c.in_ok-named.ensures in
    let are_instances : AreInstancesOf is.meaning all =
    subst (AreInstancesOf is.meaning) (sym named_is) (are-instances s formed text read is texts are) in
    none-ordered s c.args.limits text is.meaning c.in-Err.fault c.without_order.result
    (meant-within s formed c.args.limits text is.meaning is.reads accepted) (c.in-Err.ensures text is.meaning is.reads are_instances)
    c.without_order.ensures

pub put_together-requires : goal.put_together-requires
put_together-requires c =
    let (text, accepted, is) = c.requires in
    let s = c.args.schema.now in
    let formed = c.well_formed-2.ensures in
    let read = c.args.read in
    let texts = c.in_ok-texts.texts.items in
    let A : List (Option Part) → Type 0 = λ xs. AreTextsOf xs texts in
    let are : AreTextsOf read.sections.items texts = subst A c.deref.ensures.value c.in_ok-texts.ensures in
    let all : List Instance = file_instances c.in_ok-named.named.items in
    let N : List (Vec (Bor (List ℕ))) → Type 0 = λ ts. all ≡ map (instance_in ts) read.instances.items in
    let named_is : all ≡ map (instance_in texts) read.instances.items = subst N c.deref-3.ensures.value c.in_ok-named.ensures in
    let lines = held_lines c.in-Ok.lines.items in
    let are_instances : AreInstancesOf is.meaning all =
    subst (AreInstancesOf is.meaning) (sym named_is) (are-instances s formed text read is texts are) in
    let answered : AreNumbered s is.meaning all lines = c.in-Ok.ensures text is.meaning is.reads are_instances in
    let M : List Instance → Type 0 = λ xs. AreNumbered s is.meaning xs lines in
    let numbered : AreNumbered s is.meaning (map (instance_in texts) read.instances.items) lines = subst M named_is answered in
    let P : List ReadInstance → Type 0 = λ xs. c.in_ok-places.places.items ≡ map (λ (i : ReadInstance). i.section) xs in
    let places_are : c.in_ok-places.places.items ≡ map (λ (i : ReadInstance). i.section) read.instances.items =
    subst P c.deref-2.ensures.value c.in_ok-places.ensures in
    let ready = is-ready s formed text read is texts are lines numbered in
    let S : List (Option Part) → Type 0 = λ xs. IsReady xs c.deref-5.result.now (held_lines c.deref-6.result.now) in
    let Q : List ℕ → Type 0 = λ xs. IsReady read.sections.items xs (held_lines c.deref-6.result.now) in
    let L : List NumberedLine → Type 0 = λ xs. IsReady read.sections.items (map (λ (i : ReadInstance). i.section) read.instances.items)
    (held_lines xs) in
    subst S (sym c.deref-4.ensures.value) (subst Q (sym (c.deref-5.ensures.value ∙ places_are))
    (subst L (sym c.deref-6.ensures.value) ready))

pub returns-then-is_within : goal.returns-then-is_within
returns-then-is_within c text accepted is =
    let s = c.args.schema.now in
    let formed = c.well_formed-2.ensures in
    let read = c.args.read in
    let texts = c.in_ok-texts.texts.items in
    let A : List (Option Part) → Type 0 = λ xs. AreTextsOf xs texts in
    let are : AreTextsOf read.sections.items texts = subst A c.deref.ensures.value c.in_ok-texts.ensures in
    let all : List Instance = file_instances c.in_ok-named.named.items in
    let N : List (Vec (Bor (List ℕ))) → Type 0 = λ ts. all ≡ map (instance_in ts) read.instances.items in
    let named_is : all ≡ map (instance_in texts) read.instances.items = subst N c.deref-3.ensures.value c.in_ok-named.ensures in
    let lines = held_lines c.in-Ok.lines.items in
    let are_instances : AreInstancesOf is.meaning all =
    subst (AreInstancesOf is.meaning) (sym named_is) (are-instances s formed text read is texts are) in
    let answered : AreNumbered s is.meaning all lines = c.in-Ok.ensures text is.meaning is.reads are_instances in
    let M : List Instance → Type 0 = λ xs. AreNumbered s is.meaning xs lines in
    let numbered : AreNumbered s is.meaning (map (instance_in texts) read.instances.items) lines = subst M named_is answered in
    let P : List ReadInstance → Type 0 = λ xs. c.in_ok-places.places.items ≡ map (λ (i : ReadInstance). i.section) xs in
    let places_are : c.in_ok-places.places.items ≡ map (λ (i : ReadInstance). i.section) read.instances.items =
    subst P c.deref-2.ensures.value c.in_ok-places.ensures in
    let file = c.in_ok-file.file in
    let S : List (Option Part) → Type 0 = λ xs. IsPutTogether read.header.items xs c.deref-5.result.now (held_lines c.deref-6.result.now)
    file in
    let Q : List ℕ → Type 0 = λ xs. IsPutTogether read.header.items read.sections.items xs (held_lines c.deref-6.result.now) file in
    let L : List NumberedLine → Type 0 = λ xs. IsPutTogether read.header.items read.sections.items
    (map (λ (i : ReadInstance). i.section) read.instances.items) (held_lines xs) file in
    let put = subst L c.deref-6.ensures.value (subst Q (c.deref-5.ensures.value ∙ places_are)
    (subst S c.deref-4.ensures.value c.in_ok-file.ensures)) in
    let W : List NumberedLine → Type 0 = λ xs. IsTrue c.is_within.result ↔ IsWithin c.args.limits (output_text file) (held_lines xs) in
    let within = subst W c.deref-7.ensures.value c.is_within.ensures in
    is-numbered s formed text read is texts are lines numbered c.args.limits accepted file put (within.0 c.if-is_within.true)

pub returns : goal.returns
returns c text accepted is =
    let s = c.args.schema.now in
    let formed = c.well_formed-2.ensures in
    let read = c.args.read in
    let texts = c.in_ok-texts.texts.items in
    let A : List (Option Part) → Type 0 = λ xs. AreTextsOf xs texts in
    let are : AreTextsOf read.sections.items texts = subst A c.deref.ensures.value c.in_ok-texts.ensures in
    let all : List Instance = file_instances c.in_ok-named.named.items in
    let N : List (Vec (Bor (List ℕ))) → Type 0 = λ ts. all ≡ map (instance_in ts) read.instances.items in
    let named_is : all ≡ map (instance_in texts) read.instances.items = subst N c.deref-3.ensures.value c.in_ok-named.ensures in
    let lines = held_lines c.in-Ok.lines.items in
    let are_instances : AreInstancesOf is.meaning all =
    subst (AreInstancesOf is.meaning) (sym named_is) (are-instances s formed text read is texts are) in
    let answered : AreNumbered s is.meaning all lines = c.in-Ok.ensures text is.meaning is.reads are_instances in
    let M : List Instance → Type 0 = λ xs. AreNumbered s is.meaning xs lines in
    let numbered : AreNumbered s is.meaning (map (instance_in texts) read.instances.items) lines = subst M named_is answered in
    let P : List ReadInstance → Type 0 = λ xs. c.in_ok-places.places.items ≡ map (λ (i : ReadInstance). i.section) xs in
    let places_are : c.in_ok-places.places.items ≡ map (λ (i : ReadInstance). i.section) read.instances.items =
    subst P c.deref-2.ensures.value c.in_ok-places.ensures in
    let file = c.in_ok-file.file in
    let S : List (Option Part) → Type 0 = λ xs. IsPutTogether read.header.items xs c.deref-5.result.now (held_lines c.deref-6.result.now)
    file in
    let Q : List ℕ → Type 0 = λ xs. IsPutTogether read.header.items read.sections.items xs (held_lines c.deref-6.result.now) file in
    let L : List NumberedLine → Type 0 = λ xs. IsPutTogether read.header.items read.sections.items
    (map (λ (i : ReadInstance). i.section) read.instances.items) (held_lines xs) file in
    let put = subst L c.deref-6.ensures.value (subst Q (c.deref-5.ensures.value ∙ places_are)
    (subst S c.deref-4.ensures.value c.in_ok-file.ensures)) in
    let W : List NumberedLine → Type 0 = λ xs. IsTrue c.is_within.result ↔ IsWithin c.args.limits (output_text file) (held_lines xs) in
    let within = subst W c.deref-7.ensures.value c.is_within.ensures in
    is-too_long s formed text read is texts are lines numbered c.args.limits accepted file put
    (λ fits. false≢true (sym c.if-is_within.false ∙ within.1 fits))
