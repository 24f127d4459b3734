-- When two files mean the same (their header sections as untyped records of ISO 10303-21, their instances by the values
-- of ISO 10303-11).
use Rattle.std.specs.Prelude.{◌≡◌, ◌↔◌, ℕ, ℤ, Bool, List, Contains}
use Rattle.std.specs.List.{AllZip}
use Rattle.p21_spec_file.specs.File.{FileMeaning}
use Rattle.p21_spec_file.specs.Meaning.{Typed}
use Rattle.p21_spec_exchange.specs.Number.{Decimal, SameRatio, ratio_of}
use Rattle.p21_spec_exchange.specs.Parameter.{Key, Param, dollar, star, whole, real, text, name, item, bits, list, typed, Params, no_params, param}
use Rattle.p21_spec_exchange.specs.Record.{Part}
use Rattle.p21_spec_file.specs.SameValue.{SameInOrder}

-- Two untyped parameters are the same: reals by their ratios, lists in order, typed parameters with equal keys, all others where they are equal
mutual
  pub data SameParam : Param → Param → Type 0 where
    both_dollar : SameParam dollar dollar
    both_star : SameParam star star
    same_wholes : (a : ℤ) → SameParam (whole a) (whole a)
    same_reals : (a b : Decimal) → SameRatio (ratio_of a) (ratio_of b) → SameParam (real a) (real b)
    same_texts : (a : List ℕ) → SameParam (text a) (text a)
    same_names : (a : ℕ) → SameParam (name a) (name a)
    same_items : (a : List ℕ) → SameParam (item a) (item a)
    same_bits : (a : List Bool) → SameParam (bits a) (bits a)
    same_lists : (ps qs : Params) → SameParams ps qs → SameParam (list ps) (list qs)
    same_typed : (key : Key) (p q : Param) → SameParam p q → SameParam (typed key p) (typed key q)

  pub data SameParams : Params → Params → Type 0 where
    both_end : SameParams no_params no_params
    both_next : (p q : Param) (ps qs : Params) → SameParam p q → SameParams ps qs → SameParams (param p ps) (param q qs)

-- the same untyped record: equal keys, and the same parameters
abbrev pub SamePart : Part → Part → Type 0
SamePart a b = (a.key ≡ b.key) × SameParams a.params b.params

-- the same set of entities, and the same values at each place
abbrev pub SameTyped : Typed → Typed → Type 0
SameTyped a b = (a.entities ≡ b.entities) × AllZip SameInOrder a.values b.values

-- each instance of the first has its name and meaning in the second
abbrev pub AreInstancesAmong : List (ℕ × Typed) → List (ℕ × Typed) → Type 0
AreInstancesAmong first second = (n : ℕ) (x : Typed) → Contains first (n, x) → (y : Typed) × Contains second (n, y) × SameTyped x y

-- the same members, in whatever order they stand
abbrev pub HaveSameMembers : {A : Type 0} → List A → List A → Type 0
HaveSameMembers {A} xs ys = (x : A) → Contains xs x ↔ Contains ys x

-- the same header and schema; the same sections, names and schema texts; and the same instances under the same names,
-- each in the same section; sections and instances in whatever order they stand
pub record SameFileMeaning (a b : FileMeaning) : Type 0 where
  pub header : AllZip SamePart a.header b.header
  pub schema : a.schema ≡ b.schema
  pub sections : HaveSameMembers a.sections b.sections
  pub onto : AreInstancesAmong a.instances b.instances
  pub back : AreInstancesAmong b.instances a.instances
  pub instance_sections : HaveSameMembers a.instance_sections b.instance_sections
