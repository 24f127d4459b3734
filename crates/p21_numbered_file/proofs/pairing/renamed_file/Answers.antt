use Rattle.std.proofs.Common.{◌≡◌, ◌∙◌, ◌<◌, ℕ, List, length, map, sym, subst}
use Rattle.std.proofs.lemmas.Bool.{false≢true}
use Rattle.std.specs.Global.{Vec}
use Rattle.std.specs.List.{AllZip, AllByRecursion as Each}
use Rattle.std.specs.Prelude.{◌↔◌, IsTrue, Option}
use denote.Ref.{Bor}
use Rattle.p21_grammar_tree.specs.declared.record.Part.{Part}
use Rattle.p21_spec_numbering.specs.Laws.{ranking_of}
use Rattle.p21_spec_pairing.specs.Pairing.{IsPairing}
use Rattle.p21_numbering.specs.declared.instances.Instance.{Instance as Code}
use Rattle.p21_numbering.specs.Instances.{AreInstancesOf, Instance, file_instances, names_of}
use Rattle.p21_numbering.specs.NewNames.{new_name}
use Rattle.p21_numbering.specs.NodesOf.{HasKnownParts}
use Rattle.p21_numbered.specs.Lines.{AreOfFile, IsLineUnder, held_lines}
use Rattle.p21_numbered.specs.declared.numbered_line.NumberedLine.{NumberedLine}
use Rattle.p21_stream_output.specs.Output.{output_text}
use Rattle.p21_numbered_file.proofs.NumberedTexts.{all-known, are-instances, of-file, ready-under, sections-low}
use Rattle.p21_numbered_file.proofs.PairedTexts.{differ-among, is-paired, none-paired}
use Rattle.p21_numbered_file.specs.Assembly.{IsPutTogether, IsReady}
use Rattle.p21_numbered_file.specs.Headings.{AreTextsOf}
use Rattle.p21_numbered_file.specs.Instances.{instance_in}
use Rattle.p21_numbered_file.specs.Numbering.{IsWithin}
use Rattle.p21_numbered_file.specs.Pairing.{GivesBack, PairsInstances}
use Rattle.p21_numbered_file.specs.declared.read_file.ReadInstance.{ReadInstance}
use Rattle.p21_numbered_file.proofs.pairing.renamed_file.Goals as goal

pub named_instances-requires : goal.named_instances-requires
named_instances-requires c =
    let (text, accepted, is) = c.requires.first in
    let (two, accepted_, is_) = c.requires.second in
    let s = c.args.schema.now in
    let formed = c.well_formed-2.ensures in
    let read = c.args.read in
    let texts = c.in_ok-texts.texts.items in
    let A : List (Option Part) → Type 0 = λ xs. AreTextsOf xs texts in
    let are : AreTextsOf read.sections.items texts = subst A c.deref.ensures.value c.in_ok-texts.ensures in
    let T : List (Vec (Bor (List ℕ))) → Type 0 = λ ts. Each (λ (i : ReadInstance). i.section < length ts) read.instances.items in
    subst T (sym c.deref-3.ensures.value) (sections-low s formed text read is texts are)

pub new_names-requires-clause-known : goal.new_names-requires-clause-known
new_names-requires-clause-known c =
    let (text, accepted, is) = c.requires.first in
    let (two, accepted_, is_) = c.requires.second in
    let s = c.args.schema.now in
    let formed = c.well_formed-2.ensures in
    let read = c.args.read in
    let texts = c.in_ok-texts.texts.items in
    let A : List (Option Part) → Type 0 = λ xs. AreTextsOf xs texts in
    let are : AreTextsOf read.sections.items texts = subst A c.deref.ensures.value c.in_ok-texts.ensures in
    let all : List Instance = file_instances c.in_ok-named.named.items in
    let N : List (Vec (Bor (List ℕ))) → Type 0 = λ ts. all ≡ map (instance_in ts) read.instances.items in
    let named_is : all ≡ map (instance_in texts) read.instances.items = subst N c.deref-3.ensures.value c.in_ok-named.ensures in
    let are_instances : AreInstancesOf is.meaning all =
    subst (AreInstancesOf is.meaning) (sym named_is) (are-instances s formed text read is texts are) in
    let K : List Instance → Type 0 = λ xs. Each (λ (i : Instance). HasKnownParts s i.typed) xs in
    let L : List Code → Type 0 = λ xs. K (file_instances xs) in
    subst L (sym c.deref-4.ensures.value) (subst K (sym named_is) (all-known s formed text read is texts are))

pub new_names-requires-clause-other : goal.new_names-requires-clause-other
new_names-requires-clause-other c = let (two, accepted_, is_) = c.requires.second in (two, is_)

pub lines_under-requires-clause-known : goal.lines_under-requires-clause-known
lines_under-requires-clause-known c =
    let (text, accepted, is) = c.requires.first in
    let (two, accepted_, is_) = c.requires.second in
    let s = c.args.schema.now in
    let formed = c.well_formed-2.ensures in
    let read = c.args.read in
    let texts = c.in_ok-texts.texts.items in
    let A : List (Option Part) → Type 0 = λ xs. AreTextsOf xs texts in
    let are : AreTextsOf read.sections.items texts = subst A c.deref.ensures.value c.in_ok-texts.ensures in
    let all : List Instance = file_instances c.in_ok-named.named.items in
    let N : List (Vec (Bor (List ℕ))) → Type 0 = λ ts. all ≡ map (instance_in ts) read.instances.items in
    let named_is : all ≡ map (instance_in texts) read.instances.items = subst N c.deref-3.ensures.value c.in_ok-named.ensures in
    let are_instances : AreInstancesOf is.meaning all =
    subst (AreInstancesOf is.meaning) (sym named_is) (are-instances s formed text read is texts are) in
    let K : List Instance → Type 0 = λ xs. Each (λ (i : Instance). HasKnownParts s i.typed) xs in
    subst K (sym named_is) (all-known s formed text read is texts are)

pub lines_under-requires-clause-file : goal.lines_under-requires-clause-file
lines_under-requires-clause-file c =
    let (text, accepted, is) = c.requires.first in
    let (two, accepted_, is_) = c.requires.second in
    let s = c.args.schema.now in
    let formed = c.well_formed-2.ensures in
    let read = c.args.read in
    let texts = c.in_ok-texts.texts.items in
    let A : List (Option Part) → Type 0 = λ xs. AreTextsOf xs texts in
    let are : AreTextsOf read.sections.items texts = subst A c.deref.ensures.value c.in_ok-texts.ensures in
    let all : List Instance = file_instances c.in_ok-named.named.items in
    let N : List (Vec (Bor (List ℕ))) → Type 0 = λ ts. all ≡ map (instance_in ts) read.instances.items in
    let named_is : all ≡ map (instance_in texts) read.instances.items = subst N c.deref-3.ensures.value c.in_ok-named.ensures in
    let are_instances : AreInstancesOf is.meaning all =
    subst (AreInstancesOf is.meaning) (sym named_is) (are-instances s formed text read is texts are) in
    subst (AreOfFile s) (sym named_is) (of-file s formed text read is texts are)

pub lines_under-requires-clause-apart : goal.lines_under-requires-clause-apart
lines_under-requires-clause-apart c =
    let (text, accepted, is) = c.requires.first in
    let (two, accepted_, is_) = c.requires.second in
    let s = c.args.schema.now in
    let formed = c.well_formed-2.ensures in
    let read = c.args.read in
    let texts = c.in_ok-texts.texts.items in
    let A : List (Option Part) → Type 0 = λ xs. AreTextsOf xs texts in
    let are : AreTextsOf read.sections.items texts = subst A c.deref.ensures.value c.in_ok-texts.ensures in
    let all : List Instance = file_instances c.in_ok-named.named.items in
    let N : List (Vec (Bor (List ℕ))) → Type 0 = λ ts. all ≡ map (instance_in ts) read.instances.items in
    let named_is : all ≡ map (instance_in texts) read.instances.items = subst N c.deref-3.ensures.value c.in_ok-named.ensures in
    let are_instances : AreInstancesOf is.meaning all =
    subst (AreInstancesOf is.meaning) (sym named_is) (are-instances s formed text read is texts are) in
    let f : ℕ → ℕ = new_name c.in_ok-names.names.new in
    let I : List Code → Type 0 = λ xs. PairsInstances s (file_instances xs) c.args.other f in
    let pairs : PairsInstances s all c.args.other f = subst I c.deref-4.ensures.value c.in_ok-names.ensures.pairing in
    let pairing : IsPairing (ranking_of s) is.meaning is_.meaning f = pairs text is.meaning is.reads are_instances two is_ in
    differ-among is.meaning all f are_instances pairing.injective

pub put_together-requires : goal.put_together-requires
put_together-requires c =
    let (text, accepted, is) = c.requires.first in
    let (two, accepted_, is_) = c.requires.second in
    let s = c.args.schema.now in
    let formed = c.well_formed-2.ensures in
    let read = c.args.read in
    let texts = c.in_ok-texts.texts.items in
    let A : List (Option Part) → Type 0 = λ xs. AreTextsOf xs texts in
    let are : AreTextsOf read.sections.items texts = subst A c.deref.ensures.value c.in_ok-texts.ensures in
    let all : List Instance = file_instances c.in_ok-named.named.items in
    let N : List (Vec (Bor (List ℕ))) → Type 0 = λ ts. all ≡ map (instance_in ts) read.instances.items in
    let named_is : all ≡ map (instance_in texts) read.instances.items = subst N c.deref-3.ensures.value c.in_ok-named.ensures in
    let are_instances : AreInstancesOf is.meaning all =
    subst (AreInstancesOf is.meaning) (sym named_is) (are-instances s formed text read is texts are) in
    let f : ℕ → ℕ = new_name c.in_ok-names.names.new in
    let I : List Code → Type 0 = λ xs. PairsInstances s (file_instances xs) c.args.other f in
    let pairs : PairsInstances s all c.args.other f = subst I c.deref-4.ensures.value c.in_ok-names.ensures.pairing in
    let pairing : IsPairing (ranking_of s) is.meaning is_.meaning f = pairs text is.meaning is.reads are_instances two is_ in
    let lines = held_lines c.in_ok-lines.lines.items in
    let Z : List Instance → Type 0 = λ xs. AllZip (IsLineUnder s f) xs lines in
    let under : AllZip (IsLineUnder s f) (map (instance_in texts) read.instances.items) lines = subst Z named_is c.in_ok-lines.ensures in
    let P : List ReadInstance → Type 0 = λ xs. c.in_ok-places.places.items ≡ map (λ (i : ReadInstance). i.section) xs in
    let places_are : c.in_ok-places.places.items ≡ map (λ (i : ReadInstance). i.section) read.instances.items =
    subst P c.deref-2.ensures.value c.in_ok-places.ensures in
    let ready = ready-under s formed text read is texts are f pairing.injective lines under in
    let S : List (Option Part) → Type 0 = λ xs. IsReady xs c.deref-6.result.now (held_lines c.deref-7.result.now) in
    let Q : List ℕ → Type 0 = λ xs. IsReady read.sections.items xs (held_lines c.deref-7.result.now) in
    let L : List NumberedLine → Type 0 = λ xs. IsReady read.sections.items (map (λ (i : ReadInstance). i.section) read.instances.items)
    (held_lines xs) in
    subst S (sym c.deref-5.ensures.value) (subst Q (sym (c.deref-6.ensures.value ∙ places_are))
    (subst L (sym c.deref-7.ensures.value) ready))

pub returns-then-is_within : goal.returns-then-is_within
returns-then-is_within c text two accepted is accepted_ is_ =
    let s = c.args.schema.now in
    let formed = c.well_formed-2.ensures in
    let read = c.args.read in
    let texts = c.in_ok-texts.texts.items in
    let A : List (Option Part) → Type 0 = λ xs. AreTextsOf xs texts in
    let are : AreTextsOf read.sections.items texts = subst A c.deref.ensures.value c.in_ok-texts.ensures in
    let all : List Instance = file_instances c.in_ok-named.named.items in
    let N : List (Vec (Bor (List ℕ))) → Type 0 = λ ts. all ≡ map (instance_in ts) read.instances.items in
    let named_is : all ≡ map (instance_in texts) read.instances.items = subst N c.deref-3.ensures.value c.in_ok-named.ensures in
    let are_instances : AreInstancesOf is.meaning all =
    subst (AreInstancesOf is.meaning) (sym named_is) (are-instances s formed text read is texts are) in
    let f : ℕ → ℕ = new_name c.in_ok-names.names.new in
    let I : List Code → Type 0 = λ xs. PairsInstances s (file_instances xs) c.args.other f in
    let pairs : PairsInstances s all c.args.other f = subst I c.deref-4.ensures.value c.in_ok-names.ensures.pairing in
    let pairing : IsPairing (ranking_of s) is.meaning is_.meaning f = pairs text is.meaning is.reads are_instances two is_ in
    let lines = held_lines c.in_ok-lines.lines.items in
    let Z : List Instance → Type 0 = λ xs. AllZip (IsLineUnder s f) xs lines in
    let under : AllZip (IsLineUnder s f) (map (instance_in texts) read.instances.items) lines = subst Z named_is c.in_ok-lines.ensures in
    let P : List ReadInstance → Type 0 = λ xs. c.in_ok-places.places.items ≡ map (λ (i : ReadInstance). i.section) xs in
    let places_are : c.in_ok-places.places.items ≡ map (λ (i : ReadInstance). i.section) read.instances.items =
    subst P c.deref-2.ensures.value c.in_ok-places.ensures in
    let file = c.in_ok-file.file in
    let S : List (Option Part) → Type 0 = λ xs. IsPutTogether read.header.items xs c.deref-6.result.now (held_lines c.deref-7.result.now)
    file in
    let Q : List ℕ → Type 0 = λ xs. IsPutTogether read.header.items read.sections.items xs (held_lines c.deref-7.result.now) file in
    let L : List NumberedLine → Type 0 = λ xs. IsPutTogether read.header.items read.sections.items
    (map (λ (i : ReadInstance). i.section) read.instances.items) (held_lines xs) file in
    let put = subst L c.deref-7.ensures.value (subst Q (c.deref-6.ensures.value ∙ places_are)
    (subst S c.deref-5.ensures.value c.in_ok-file.ensures)) in
    let W : List NumberedLine → Type 0 = λ xs. IsTrue c.is_within.result ↔ IsWithin c.args.limits (output_text file) (held_lines xs) in
    let within = subst W c.deref-8.ensures.value c.is_within.ensures in
    let B : List Code → Type 0 = λ xs. GivesBack c.in_ok-names.names.old f (names_of (file_instances xs)) in
    let C : List Instance → Type 0 = λ xs. GivesBack c.in_ok-names.names.old f (names_of xs) in
    let back : GivesBack c.in_ok-names.names.old f (names_of (map (instance_in texts) read.instances.items)) =
    subst C named_is (subst B c.deref-4.ensures.value c.in_ok-names.ensures.old) in
    is-paired s formed c.args.limits text two read c.args.other is is_ accepted accepted_ texts are f pairing lines under file put
    c.in_ok-names.names.old back (within.0 c.if-is_within.true)

pub returns : goal.returns
returns c text two accepted is accepted_ is_ =
    let s = c.args.schema.now in
    let formed = c.well_formed-2.ensures in
    let read = c.args.read in
    let texts = c.in_ok-texts.texts.items in
    let A : List (Option Part) → Type 0 = λ xs. AreTextsOf xs texts in
    let are : AreTextsOf read.sections.items texts = subst A c.deref.ensures.value c.in_ok-texts.ensures in
    let all : List Instance = file_instances c.in_ok-named.named.items in
    let N : List (Vec (Bor (List ℕ))) → Type 0 = λ ts. all ≡ map (instance_in ts) read.instances.items in
    let named_is : all ≡ map (instance_in texts) read.instances.items = subst N c.deref-3.ensures.value c.in_ok-named.ensures in
    let are_instances : AreInstancesOf is.meaning all =
    subst (AreInstancesOf is.meaning) (sym named_is) (are-instances s formed text read is texts are) in
    let f : ℕ → ℕ = new_name c.in_ok-names.names.new in
    let I : List Code → Type 0 = λ xs. PairsInstances s (file_instances xs) c.args.other f in
    let pairs : PairsInstances s all c.args.other f = subst I c.deref-4.ensures.value c.in_ok-names.ensures.pairing in
    let pairing : IsPairing (ranking_of s) is.meaning is_.meaning f = pairs text is.meaning is.reads are_instances two is_ in
    let lines = held_lines c.in_ok-lines.lines.items in
    let Z : List Instance → Type 0 = λ xs. AllZip (IsLineUnder s f) xs lines in
    let under : AllZip (IsLineUnder s f) (map (instance_in texts) read.instances.items) lines = subst Z named_is c.in_ok-lines.ensures in
    let P : List ReadInstance → Type 0 = λ xs. c.in_ok-places.places.items ≡ map (λ (i : ReadInstance). i.section) xs in
    let places_are : c.in_ok-places.places.items ≡ map (λ (i : ReadInstance). i.section) read.instances.items =
    subst P c.deref-2.ensures.value c.in_ok-places.ensures in
    let file = c.in_ok-file.file in
    let S : List (Option Part) → Type 0 = λ xs. IsPutTogether read.header.items xs c.deref-6.result.now (held_lines c.deref-7.result.now)
    file in
    let Q : List ℕ → Type 0 = λ xs. IsPutTogether read.header.items read.sections.items xs (held_lines c.deref-7.result.now) file in
    let L : List NumberedLine → Type 0 = λ xs. IsPutTogether read.header.items read.sections.items
    (map (λ (i : ReadInstance). i.section) read.instances.items) (held_lines xs) file in
    let put = subst L c.deref-7.ensures.value (subst Q (c.deref-6.ensures.value ∙ places_are)
    (subst S c.deref-5.ensures.value c.in_ok-file.ensures)) in
    let W : List NumberedLine → Type 0 = λ xs. IsTrue c.is_within.result ↔ IsWithin c.args.limits (output_text file) (held_lines xs) in
    let within = subst W c.deref-8.ensures.value c.is_within.ensures in
    none-paired s formed c.args.limits text two read c.args.other is is_ accepted accepted_ texts are f pairing lines under file put
    (λ fits. false≢true (sym c.if-is_within.false ∙ within.1 fits))
