-- Rows of values, one element after the other.
use Rattle.std.proofs.Common.{◌≡◌, ◌↔◌, ℕ, zero, suc, ◌+◌, ◌<◌, ◌≤◌, List, [], ◌∷◌, length, get_or, drop, refl, ap, sym, subst, arith, add-one}
use Rattle.p21_spec_file.specs.Value as meant
use Rattle.p21_spec_file.specs.Value.{count, no_values}
use Rattle.p21_spec_file.specs.SameValue.{Same, Among, here, there, EachAmong, none_left, each_next, SameInOrder, both_end, both_next}
use Rattle.p21_mapping_values.specs.declared.value.Value.{Value}
use Rattle.p21_mapping_values.specs.View.{view, views}
use Rattle.p21_canon.specs.Occurrences.{Occurs, nowhere, once_more, not_here}

pub count-views : (xs : List Value) → count (views xs) ≡ length xs
count-views [] = refl
count-views (x ∷ xs) = ap suc (count-views xs)

views-drop_suc : (xs : List Value) (i : ℕ) (x : Value) → x ≡ get_or xs i x → i < length xs
    → views (drop i xs) ≡ meant.value (view x) (views (drop (suc i) xs))
views-drop_suc [] i x is below = absurd (omega (arith, below))
views-drop_suc (y ∷ ys) zero x is below = ap (λ z. meant.value (view z) (views ys)) (sym is)
views-drop_suc (y ∷ ys) (suc i) x is below = views-drop_suc ys i x is (omega (arith, below))

-- the element at an index, and what is behind it
pub views-drop : (xs : List Value) (i : ℕ) (x : Value) → x ≡ get_or xs i x → i < length xs
    → views (drop i xs) ≡ meant.value (view x) (views (drop (i + 1) xs))
views-drop xs i x is below = rw add-one (views-drop_suc xs i x is below)

pub views-drop_all : (xs : List Value) (i : ℕ) → length xs ≤ i → views (drop i xs) ≡ no_values
views-drop_all [] zero above = refl
views-drop_all [] (suc i) above = refl
views-drop_all (y ∷ ys) zero above = absurd (omega (arith, above))
views-drop_all (y ∷ ys) (suc i) above = views-drop_all ys i (omega (arith, above))

-- the first element is looked at; what is known of all is then known of the others
Among-rest : (v w : meant.Value) (ws : meant.Values) → ¬ Same v w → Among v (meant.value w ws) → Among v ws
Among-rest v w ws differ (here _ _ _ same) = absurd (differ same)
Among-rest v w ws differ (there _ _ _ among) = among

pub among_found : (v w : meant.Value) (all from rest : meant.Values) → from ≡ meant.value w rest → Among v all ↔ Among v from → Same v w
    → Among v all
among_found v w all from rest e as_from same = as_from.1 (subst (Among v) (sym e) (here v w rest same))

pub among_step : (v w : meant.Value) (all from rest : meant.Values) → from ≡ meant.value w rest → Among v all ↔ Among v from → ¬ Same v w
    → Among v all ↔ Among v rest
among_step v w all from rest e as_from differ = (
  λ among. Among-rest v w rest differ (subst (Among v) e (as_from.0 among)),
  λ among. as_from.1
      (subst (Among v) (sym e) (there v w rest among)),
)

pub among_none : (v : meant.Value) (all from : meant.Values) → from ≡ no_values → Among v all ↔ Among v from → ¬ Among v all
among_none v all from e as_from among = elim (subst (Among v) e (as_from.0 among)) [ ]

EachAmong-first : (v : meant.Value) (vs ws : meant.Values) → EachAmong (meant.value v vs) ws → Among v ws
EachAmong-first v vs ws (each_next _ _ _ among each) = among

EachAmong-rest : (v : meant.Value) (vs ws : meant.Values) → EachAmong (meant.value v vs) ws → EachAmong vs ws
EachAmong-rest v vs ws (each_next _ _ _ among each) = each

pub each_missed : (v : meant.Value) (all from rest others : meant.Values) → from ≡ meant.value v rest → EachAmong all others
    ↔ EachAmong from others → ¬ Among v others → ¬ EachAmong all others
each_missed v all from rest others e as_from missed each =
    missed (EachAmong-first v rest others (subst (λ vs. EachAmong vs others) e (as_from.0 each)))

pub each_step : (v : meant.Value) (all from rest others : meant.Values) → from ≡ meant.value v rest → EachAmong all others
    ↔ EachAmong from others → Among v others → EachAmong all others ↔ EachAmong rest others
each_step v all from rest others e as_from among = (
  λ each. EachAmong-rest v rest others (subst (λ vs. EachAmong vs others) e (as_from.0 each)),
  λ each. as_from.1
      (subst (λ vs. EachAmong vs others) (sym e) (each_next v rest others among each)),
)

pub each_done : (all from others : meant.Values) → from ≡ no_values → EachAmong all others ↔ EachAmong from others → EachAmong all others
each_done all from others e as_from = as_from.1 (subst (λ vs. EachAmong vs others) (sym e) (none_left others))

SameInOrder-first : (v w : meant.Value) (vs ws : meant.Values) → SameInOrder (meant.value v vs) (meant.value w ws) → Same v w
SameInOrder-first v w vs ws (both_next _ _ _ _ same more) = same

SameInOrder-rest : (v w : meant.Value) (vs ws : meant.Values) → SameInOrder (meant.value v vs) (meant.value w ws) → SameInOrder vs ws
SameInOrder-rest v w vs ws (both_next _ _ _ _ same more) = more

pub SameInOrder-count : (vs ws : meant.Values) → SameInOrder vs ws → count vs ≡ count ws
SameInOrder-count _ _ both_end = refl
SameInOrder-count _ _ (both_next v w vs ws same more) = ap suc (SameInOrder-count vs ws more)

pub order_differs : (v w : meant.Value) (all all_ from from_ rest rest_ : meant.Values) → from ≡ meant.value v rest
    → from_ ≡ meant.value w rest_ → SameInOrder all all_ ↔ SameInOrder from from_ → ¬ Same v w → ¬ SameInOrder all all_
order_differs v w all all_ from from_ rest rest_ e e_ as_from differ same =
    differ (SameInOrder-first v w rest rest_ (subst (SameInOrder (meant.value v rest)) e_
    (subst (λ vs. SameInOrder vs from_) e (as_from.0 same))))

pub order_step : (v w : meant.Value) (all all_ from from_ rest rest_ : meant.Values) → from ≡ meant.value v rest
    → from_ ≡ meant.value w rest_ → SameInOrder all all_ ↔ SameInOrder from from_ → Same v w → SameInOrder all all_ ↔ SameInOrder rest rest_
order_step v w all all_ from from_ rest rest_ e e_ as_from same = (
  λ all_same. SameInOrder-rest v w rest rest_ (subst (SameInOrder (meant.value v rest)) e_
      (subst (λ vs. SameInOrder vs from_) e (as_from.0 all_same))),
  λ more. as_from.1
      (subst (λ vs. SameInOrder vs from_) (sym e) (subst (SameInOrder (meant.value v rest)) (sym e_)
      (both_next v w rest rest_ same more))),
)

pub order_done : (all all_ from from_ : meant.Values) → from ≡ no_values → from_ ≡ no_values → SameInOrder all all_ ↔ SameInOrder from from_
    → SameInOrder all all_
order_done all all_ from from_ e e_ as_from = as_from.1
    (subst (λ vs. SameInOrder vs from_) (sym e) (subst (SameInOrder no_values) (sym e_) both_end))

-- so many were found already; the rest is counted
pub counted_here : (v w : meant.Value) (all from rest : meant.Values) (found : ℕ) → from ≡ meant.value w rest
    → ((n : ℕ) → Occurs v from n → Occurs v all (found + n)) → Same v w → (n : ℕ) → Occurs v rest n → Occurs v all (found + 1 + n)
counted_here v w all from rest found e all_of same n occurs =
    subst (Occurs v all) (omega arith) (all_of (suc n) (subst (λ vs. Occurs v vs (suc n)) (sym e) (once_more w rest n same occurs)))

pub counted_not_here : (v w : meant.Value) (all from rest : meant.Values) (found : ℕ) → from ≡ meant.value w rest
    → ((n : ℕ) → Occurs v from n → Occurs v all (found + n)) → ¬ Same v w → (n : ℕ) → Occurs v rest n → Occurs v all (found + n)
counted_not_here v w all from rest found e all_of differ n occurs =
    all_of n (subst (λ vs. Occurs v vs n) (sym e) (not_here w rest n differ occurs))

pub counted_all : (v : meant.Value) (all from : meant.Values) (found : ℕ) → from ≡ no_values
    → ((n : ℕ) → Occurs v from n → Occurs v all (found + n)) → Occurs v all found
counted_all v all from found e all_of = subst (Occurs v all) (omega arith) (all_of 0 (subst (λ vs. Occurs v vs 0) (sym e) nowhere))
