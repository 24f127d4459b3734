-- What differs in what two files mean (ISO 10303-21, header section, data sections, entity instances; ISO 10303-11, Value
-- comparison operators).
use Rattle.std.specs.Prelude.{◌≡◌, ◌≢◌, ℕ, List, length, slice_get, None, Some, Contains}
use Rattle.p21_spec_exchange.specs.DataSection.{Heading}
use Rattle.p21_spec_exchange.specs.Parameter.{Param, listed}
use Rattle.p21_spec_exchange.specs.Record.{Part}
use Rattle.p21_spec_file.specs.File.{FileMeaning}
use Rattle.p21_spec_file.specs.Meaning.{Typed, HasValueAt}
use Rattle.p21_spec_file.specs.SameFile.{SameParam}
use Rattle.p21_spec_file.specs.SameValue.{Same}
use Rattle.p21_spec_file.specs.Value.{Value}
use Rattle.p21_spec_numbering.specs.Renamed.{names}
use Rattle.p21_spec_schema.specs.Schema.{Place}

-- A difference, by what it is about: a record of the header section or a parameter of one, both counted from 0; a data section; or
-- an instance, by its name
pub data Difference : Type 0 where
  record_came : ℕ → Difference
  record_went : ℕ → Difference
  record_changed : ℕ → Difference
  parameter_changed : ℕ → ℕ → Difference
  section_came : Heading → Difference
  section_went : Heading → Difference
  instance_came : ℕ → Difference
  instance_went : ℕ → Difference
  section_changed : ℕ → Difference
  set_changed : ℕ → Difference
  value_changed : ℕ → Place → Difference

-- ---- header records, the one of a number beside the other of it

-- one has a record of this number, and the other has not as many
abbrev pub IsLonger : List Part → List Part → ℕ → Type 0
IsLonger one other number = (part : Part) × (slice_get one number ≡ Some part) × (slice_get other number ≡ None)

abbrev pub AreBeside : List Part → List Part → ℕ → Part → Part → Type 0
AreBeside one other number first second = (slice_get one number ≡ Some first) × (slice_get other number ≡ Some second)

-- records of one keyword, with as many parameters
abbrev pub AreAlike : Part → Part → Type 0
AreAlike first second = (first.key ≡ second.key) × (length (listed first.params) ≡ length (listed second.params))

abbrev pub HasOtherParameter : Part → Part → ℕ → Type 0
HasOtherParameter first second number =
    (p q : Param) × (slice_get (listed first.params) number ≡ Some p) × (slice_get (listed second.params) number ≡ Some q) × ¬ SameParam p q

-- ---- instances

-- the first has a value at the place, and the second another one
abbrev pub HasOtherValue : Typed → Typed → Place → Type 0
HasOtherValue first second place = (v w : Value) × HasValueAt first place v × HasValueAt second place w × ¬ Same v w

-- both files have an instance of this name, meant so
abbrev pub AreMeant : FileMeaning → FileMeaning → ℕ → Typed → Typed → Type 0
AreMeant a b name first second = Contains a.instances (name, first) × Contains b.instances (name, second)

-- ---- two files

-- This differs, from the first file to the second: only the second has it, only the first has it, or both have it otherwise. Values are
-- compared where the two instances have one set of entities; where they have not, the set is what changed
abbrev pub Differs : FileMeaning → FileMeaning → Difference → Type 0
Differs a b (record_came number) = IsLonger b.header a.header number
Differs a b (record_went number) = IsLonger a.header b.header number
Differs a b (record_changed number) = (first second : Part) × AreBeside a.header b.header number first second × ¬ AreAlike first second
Differs a b (parameter_changed number place) =
    (first second : Part) × AreBeside a.header b.header number first second × AreAlike first second × HasOtherParameter first second place
Differs a b (section_came heading) = Contains b.sections heading × ¬ Contains a.sections heading
Differs a b (section_went heading) = Contains a.sections heading × ¬ Contains b.sections heading
Differs a b (instance_came name) = Contains (names b) name × ¬ Contains (names a) name
Differs a b (instance_went name) = Contains (names a) name × ¬ Contains (names b) name
Differs a b (section_changed name) =
    (first second : Heading) × Contains a.instance_sections (name, first) × Contains b.instance_sections (name, second) × (first ≢ second)
Differs a b (set_changed name) = (first second : Typed) × AreMeant a b name first second × (first.entities ≢ second.entities)
Differs a b (value_changed name place) =
    (first second : Typed) × AreMeant a b name first second × (first.entities ≡ second.entities) × HasOtherValue first second place

-- ---- what is said of what

-- the difference is about the header section
abbrev pub IsOfHeader : Difference → Type 0
IsOfHeader (record_came number) = Unit {0}
IsOfHeader (record_went number) = Unit {0}
IsOfHeader (record_changed number) = Unit {0}
IsOfHeader (parameter_changed number place) = Unit {0}
IsOfHeader other = ⊥

-- about the data sections that there are
abbrev pub IsOfSections : Difference → Type 0
IsOfSections (section_came heading) = Unit {0}
IsOfSections (section_went heading) = Unit {0}
IsOfSections other = ⊥

-- about the instance of this name
abbrev pub IsOfName : ℕ → Difference → Type 0
IsOfName n (instance_came name) = name ≡ n
IsOfName n (instance_went name) = name ≡ n
IsOfName n (section_changed name) = name ≡ n
IsOfName n (set_changed name) = name ≡ n
IsOfName n (value_changed name place) = name ≡ n
IsOfName n other = ⊥
