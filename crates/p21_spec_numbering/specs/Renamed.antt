-- Meanings of files with other names of instances, and when two files mean the same but for these names.
use Rattle.std.specs.Prelude.{◌≡◌, ℕ, List, [], ◌∷◌, ◌++◌, map, Contains, nat_eq}
use Rattle.std.specs.List.{flat_map, IsDistinct}
use Rattle.p21_spec_exchange.specs.DataSection.{Heading}
use Rattle.p21_spec_file.specs.File.{FileMeaning}
use Rattle.p21_spec_file.specs.Meaning.{Typed}
use Rattle.p21_spec_file.specs.SameFile.{SameFileMeaning}
use Rattle.p21_spec_file.specs.Value.{Value, whole, real, number, text, bits, item, reference, derived, missing, list, array, set, bag, typed, Values, no_values, value}

-- values whose references lead to the new names
abbrev mutual
  pub renamed_value : (ℕ → ℕ) → Value → Value
  renamed_value f (whole z) = whole z
  renamed_value f (real d) = real d
  renamed_value f (number d) = number d
  renamed_value f (text chars) = text chars
  renamed_value f (bits bs) = bits bs
  renamed_value f (item word) = item word
  renamed_value f (reference n) = reference (f n)
  renamed_value f derived = derived
  renamed_value f missing = missing
  renamed_value f (list vs) = list (renamed_values f vs)
  renamed_value f (array vs) = array (renamed_values f vs)
  renamed_value f (set vs) = set (renamed_values f vs)
  renamed_value f (bag vs) = bag (renamed_values f vs)
  renamed_value f (typed t v) = typed t (renamed_value f v)

  pub renamed_values : (ℕ → ℕ) → Values → Values
  renamed_values f no_values = no_values
  renamed_values f (value v vs) = value (renamed_value f v) (renamed_values f vs)

abbrev pub renamed_typed : (ℕ → ℕ) → Typed → Typed
renamed_typed f x = record { entities = x.entities; values = map (renamed_values f) x.values }

abbrev pub renamed_instance : (ℕ → ℕ) → ℕ × Typed → ℕ × Typed
renamed_instance f i = (f i.0, renamed_typed f i.1)

abbrev pub renamed_section : (ℕ → ℕ) → ℕ × Heading → ℕ × Heading
renamed_section f i = (f i.0, i.1)

-- the meaning with the new names of its instances, wherever an old one stands
abbrev pub renamed : (ℕ → ℕ) → FileMeaning → FileMeaning
renamed f m = record {
  header = m.header;
  schema = m.schema;
  sections = m.sections;
  instances = map (renamed_instance f) m.instances;
  instance_sections = map (renamed_section f) m.instance_sections;
}

-- the names of its instances
abbrev pub names : FileMeaning → List ℕ
names m = map (λ i. i.0) m.instances

-- no two members have one value
abbrev pub IsInjectiveOn : List ℕ → (ℕ → ℕ) → Type 0
IsInjectiveOn ns f = (m n : ℕ) → Contains ns m → Contains ns n → f m ≡ f n → m ≡ n

-- with other names for its instances, of which no two become one, the first means what the second means
abbrev pub SameButForNames : FileMeaning → FileMeaning → Type 0
SameButForNames a b = (f : ℕ → ℕ) × IsInjectiveOn (names a) f × SameFileMeaning (renamed f a) b

-- ---- references that lead to instances

-- the names that a value refers to
abbrev mutual
  pub targets : Value → List ℕ
  targets (reference n) = n ∷ []
  targets (list vs) = targets_in vs
  targets (array vs) = targets_in vs
  targets (set vs) = targets_in vs
  targets (bag vs) = targets_in vs
  targets (typed t v) = targets v
  targets other = []

  pub targets_in : Values → List ℕ
  targets_in no_values = []
  targets_in (value v vs) = targets v ++ targets_in vs

-- the names of the instances differ, each stands in one section, and each reference leads to one of them: so it is in each
-- file that reads
pub record IsWhole (m : FileMeaning) : Type 0 where
  pub names_differ : IsDistinct nat_eq (names m)
  pub in_sections : map (λ i. i.0) m.instance_sections ≡ names m
  pub closed : (n : ℕ) (x : Typed) → Contains m.instances (n, x) → (t : ℕ) → Contains (flat_map targets_in x.values) t
      → Contains (names m) t
