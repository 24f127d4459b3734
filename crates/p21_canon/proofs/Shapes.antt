-- Sameness by the kinds of the two values.
use Rattle.std.proofs.Common.{◌≡◌, ◌↔◌, Bool, IsTrue, refl, sym, subst}
use Rattle.p21_spec_exchange.specs.Number.{SameRatio, ratio_of}
use Rattle.p21_spec_file.specs.Value.{Value, whole, real, number, text, bits, item, reference, derived, missing, list, array, set, bag, typed}
use Rattle.p21_spec_file.specs.SameValue.{Same, same_wholes, same_reals, same_numbers, same_texts, same_bits, same_items, same_references, both_derived, both_missing, same_lists, same_arrays, same_sets, same_bags, same_typed, SameInOrder, EachAmong, SamePaired}

-- what makes two values the same
abbrev pub SameShape : Value → Value → Type 0
SameShape (whole a) (whole b) = a ≡ b
SameShape (real a) (real b) = SameRatio (ratio_of a) (ratio_of b)
SameShape (number a) (number b) = SameRatio (ratio_of a) (ratio_of b)
SameShape (text a) (text b) = a ≡ b
SameShape (bits a) (bits b) = a ≡ b
SameShape (item a) (item b) = a ≡ b
SameShape (reference a) (reference b) = a ≡ b
SameShape derived derived = Unit {0}
SameShape missing missing = Unit {0}
SameShape (list a) (list b) = SameInOrder a b
SameShape (array a) (array b) = SameInOrder a b
SameShape (set a) (set b) = EachAmong a b × EachAmong b a
SameShape (bag a) (bag b) = SamePaired a b
SameShape (typed s a) (typed t b) = (s ≡ t) × Same a b
SameShape _ _ = ⊥

pub shape-Same : (v w : Value) → Same v w → SameShape v w
shape-Same _ _ (same_wholes a) = refl
shape-Same _ _ (same_reals a b ratio) = ratio
shape-Same _ _ (same_numbers a b ratio) = ratio
shape-Same _ _ (same_texts a) = refl
shape-Same _ _ (same_bits a) = refl
shape-Same _ _ (same_items a) = refl
shape-Same _ _ (same_references a) = refl
shape-Same _ _ both_derived = tt
shape-Same _ _ both_missing = tt
shape-Same _ _ (same_lists a b same) = same
shape-Same _ _ (same_arrays a b same) = same
shape-Same _ _ (same_sets a b onto back) = (onto, back)
shape-Same _ _ (same_bags a b same) = same
shape-Same _ _ (same_typed t a b same) = (refl, same)

pub Same-shape : (v w : Value) → SameShape v w → Same v w
Same-shape (whole a) (whole b) h = subst (λ z. Same (whole a) (whole z)) h (same_wholes a)
Same-shape (real a) (real b) h = same_reals a b h
Same-shape (number a) (number b) h = same_numbers a b h
Same-shape (text a) (text b) h = subst (λ z. Same (text a) (text z)) h (same_texts a)
Same-shape (bits a) (bits b) h = subst (λ z. Same (bits a) (bits z)) h (same_bits a)
Same-shape (item a) (item b) h = subst (λ z. Same (item a) (item z)) h (same_items a)
Same-shape (reference a) (reference b) h = subst (λ z. Same (reference a) (reference z)) h (same_references a)
Same-shape derived derived h = both_derived
Same-shape missing missing h = both_missing
Same-shape (list a) (list b) h = same_lists a b h
Same-shape (array a) (array b) h = same_arrays a b h
Same-shape (set a) (set b) h = same_sets a b h.0 h.1
Same-shape (bag a) (bag b) h = same_bags a b h
Same-shape (typed s a) (typed t b) h = subst (λ u. Same (typed s a) (typed u b)) h.0 (same_typed s a b h.1)
Same-shape _ _ h = absurd h

pub by_shape : (v w : Value) → Same v w ↔ SameShape v w
by_shape v w = (shape-Same v w, Same-shape v w)

-- the answer for two values of one kind
pub same_by : (v w a b : Value) (r : Bool) → v ≡ a → w ≡ b → IsTrue r ↔ SameShape a b → IsTrue r ↔ Same v w
same_by v w a b r e e_ h = (
  λ yes. subst (λ z. Same z w) (sym e) (subst (Same a) (sym e_) (Same-shape a b (h.0 yes))),
  λ same. h.1
      (shape-Same a b (subst (Same a) e_ (subst (λ z. Same z w) e same))),
)

-- the answer of the second test, where the first one held
pub then_both : (P Q : Type 0) (r : Bool) → P → IsTrue r ↔ Q → IsTrue r ↔ (P × Q)
then_both P Q r first second = (λ yes. (first, second.0 yes), λ both. second.1 both.1)
