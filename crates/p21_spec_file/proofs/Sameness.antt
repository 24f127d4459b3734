-- Sameness of values is reflexive and symmetric.
use Rattle.std.specs.Prelude.{refl}
use Rattle.std.proofs.Common.{sym}
use Rattle.p21_spec_file.specs.Value.{Value, whole, real, number, text, bits, item, reference, derived, missing, list, array, set, bag, typed, Values, no_values, value}
use Rattle.p21_spec_file.specs.SameValue.{Same, same_wholes, same_reals, same_numbers, same_texts, same_bits, same_items, same_references, both_derived, both_missing, same_lists, same_arrays, same_sets, same_bags, same_typed, SameInOrder, both_end, both_next, here, there, EachAmong, none_left, each_next, SamePaired, both_empty, paired, Without, without_first, without_later}

pub EachAmong-wider : (w : Value) (vs ws : Values) → EachAmong vs ws → EachAmong vs (value w ws)
EachAmong-wider w vs ws (none_left _) = none_left (value w ws)
EachAmong-wider w vs ws (each_next v rest _ among each) = each_next v rest (value w ws) (there v w ws among) (EachAmong-wider w rest ws each)

mutual
  pub Same-reflexive : (v : Value) → Same v v
  Same-reflexive (whole z) = same_wholes z
  Same-reflexive (real d) = same_reals d d refl
  Same-reflexive (number d) = same_numbers d d refl
  Same-reflexive (text chars) = same_texts chars
  Same-reflexive (bits bs) = same_bits bs
  Same-reflexive (item word) = same_items word
  Same-reflexive (reference n) = same_references n
  Same-reflexive derived = both_derived
  Same-reflexive missing = both_missing
  Same-reflexive (list vs) = same_lists vs vs (SameInOrder-reflexive vs)
  Same-reflexive (array vs) = same_arrays vs vs (SameInOrder-reflexive vs)
  Same-reflexive (set vs) = same_sets vs vs (EachAmong-reflexive vs) (EachAmong-reflexive vs)
  Same-reflexive (bag vs) = same_bags vs vs (SamePaired-reflexive vs)
  Same-reflexive (typed t v) = same_typed t v v (Same-reflexive v)

  pub SameInOrder-reflexive : (vs : Values) → SameInOrder vs vs
  SameInOrder-reflexive no_values = both_end
  SameInOrder-reflexive (value v vs) = both_next v v vs vs (Same-reflexive v) (SameInOrder-reflexive vs)

  pub EachAmong-reflexive : (vs : Values) → EachAmong vs vs
  EachAmong-reflexive no_values = none_left no_values
  EachAmong-reflexive (value v vs) = each_next v vs (value v vs) (here v v vs (Same-reflexive v)) (EachAmong-wider v vs vs (EachAmong-reflexive vs))

  pub SamePaired-reflexive : (vs : Values) → SamePaired vs vs
  SamePaired-reflexive no_values = both_empty
  SamePaired-reflexive (value v vs) = paired v vs (value v vs) vs (without_first v v vs (Same-reflexive v)) (SamePaired-reflexive vs)

-- what a pairing of a first element says
pub SamePaired-first : (v : Value) (vs ws : Values) → SamePaired (value v vs) ws → (rest : Values) × Without v ws rest × SamePaired vs rest
SamePaired-first v vs ws (paired _ _ _ rest without pairs) = (rest, without, pairs)

mutual
  pub Same-symmetric : (v w : Value) → Same v w → Same w v
  Same-symmetric v w (same_wholes a) = same_wholes a
  Same-symmetric v w (same_reals a b ratio) = same_reals b a (sym ratio)
  Same-symmetric v w (same_numbers a b ratio) = same_numbers b a (sym ratio)
  Same-symmetric v w (same_texts a) = same_texts a
  Same-symmetric v w (same_bits a) = same_bits a
  Same-symmetric v w (same_items a) = same_items a
  Same-symmetric v w (same_references a) = same_references a
  Same-symmetric v w both_derived = both_derived
  Same-symmetric v w both_missing = both_missing
  Same-symmetric v w (same_lists vs ws same) = same_lists ws vs (SameInOrder-symmetric vs ws same)
  Same-symmetric v w (same_arrays vs ws same) = same_arrays ws vs (SameInOrder-symmetric vs ws same)
  Same-symmetric v w (same_sets vs ws onto back) = same_sets ws vs back onto
  Same-symmetric v w (same_bags vs ws same) = same_bags ws vs (SamePaired-symmetric vs ws same)
  Same-symmetric v w (same_typed t a b same) = same_typed t b a (Same-symmetric a b same)

  pub SameInOrder-symmetric : (vs ws : Values) → SameInOrder vs ws → SameInOrder ws vs
  SameInOrder-symmetric vs ws both_end = both_end
  SameInOrder-symmetric vs ws (both_next a b as_ bs same more) = both_next b a bs as_ (Same-symmetric a b same) (SameInOrder-symmetric as_ bs more)

  pub SamePaired-symmetric : (vs ws : Values) → SamePaired vs ws → SamePaired ws vs
  SamePaired-symmetric vs ws both_empty = both_empty
  SamePaired-symmetric vs ws (paired v vs_ ws_ rest without pairs) = SamePaired-put_back v ws_ rest without vs_ (SamePaired-symmetric vs_ rest pairs)

  -- the element that was left out, put back on both sides
  pub SamePaired-put_back : (v : Value) (ws rest : Values) → Without v ws rest → (vs : Values) → SamePaired rest vs → SamePaired ws (value v vs)
  SamePaired-put_back v ws rest (without_first a b bs same) vs pairs = paired b bs (value a vs) vs (without_first b a vs (Same-symmetric a b same)) pairs
  SamePaired-put_back v ws rest (without_later a b bs more without) vs pairs =
      let (left_, without_b, others) = SamePaired-first b more vs pairs in
      paired b bs (value a vs) (value a left_) (without_later b a vs left_ without_b) (SamePaired-put_back a bs more without left_ others)
