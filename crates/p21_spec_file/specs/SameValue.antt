-- When two values of attributes are the same (ISO 10303-11, Value comparison operators: numeric, string, aggregate).
use Rattle.std.specs.Prelude.{◌≢◌, ℕ, ℤ, Bool, List}
use Rattle.p21_spec_exchange.specs.Number.{Decimal, ratio_of, SameRatio}
use Rattle.p21_spec_file.specs.Value.{Value, whole, real, number, text, bits, item, reference, derived, missing, list, array, set, bag, typed, Values, no_values, value}

-- Reals and numbers by their ratios, lists and arrays element by element, sets and bags without order, all others where they are equal
mutual
  pub data Same : Value → Value → Type 0 where
    same_wholes : (a : ℤ) → Same (whole a) (whole a)
    same_reals : (a b : Decimal) → SameRatio (ratio_of a) (ratio_of b) → Same (real a) (real b)
    same_numbers : (a b : Decimal) → SameRatio (ratio_of a) (ratio_of b) → Same (number a) (number b)
    same_texts : (a : List ℕ) → Same (text a) (text a)
    same_bits : (a : List Bool) → Same (bits a) (bits a)
    same_items : (a : List ℕ) → Same (item a) (item a)
    same_references : (a : ℕ) → Same (reference a) (reference a)
    both_derived : Same derived derived
    both_missing : Same missing missing
    same_lists : (vs ws : Values) → SameInOrder vs ws → Same (list vs) (list ws)
    same_arrays : (vs ws : Values) → SameInOrder vs ws → Same (array vs) (array ws)
    same_sets : (vs ws : Values) → EachAmong vs ws → EachAmong ws vs → Same (set vs) (set ws)
    same_bags : (vs ws : Values) → SamePaired vs ws → Same (bag vs) (bag ws)
    same_typed : (t : ℕ) (v w : Value) → Same v w → Same (typed t v) (typed t w)

  -- element by element
  pub data SameInOrder : Values → Values → Type 0 where
    both_end : SameInOrder no_values no_values
    both_next : (v w : Value) (vs ws : Values) → Same v w → SameInOrder vs ws → SameInOrder (value v vs) (value w ws)

  -- the value is the same as some element
  pub data Among : Value → Values → Type 0 where
    here : (v w : Value) (ws : Values) → Same v w → Among v (value w ws)
    there : (v w : Value) (ws : Values) → Among v ws → Among v (value w ws)

  -- each element of the first is the same as some element of the second
  pub data EachAmong : Values → Values → Type 0 where
    none_left : (ws : Values) → EachAmong no_values ws
    each_next : (v : Value) (vs ws : Values) → Among v ws → EachAmong vs ws → EachAmong (value v vs) ws

  -- the first element of one is the same as some element of the other, and the rests without these two are the same
  pub data SamePaired : Values → Values → Type 0 where
    both_empty : SamePaired no_values no_values
    paired : (v : Value) (vs ws rest : Values) → Without v ws rest → SamePaired vs rest → SamePaired (value v vs) ws

  -- the second list is the first without one element, which the value is the same as
  pub data Without : Value → Values → Values → Type 0 where
    without_first : (v w : Value) (ws : Values) → Same v w → Without v (value w ws) ws
    without_later : (v w : Value) (ws rest : Values) → Without v ws rest → Without v (value w ws) (value w rest)

-- no two elements are the same, empty places apart
abbrev pub AreDistinct : Values → Type 0
AreDistinct no_values = Unit {0}
AreDistinct (value v vs) = (v ≢ missing → ¬ Among v vs) × AreDistinct vs
