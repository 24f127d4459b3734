-- Sameness of values is transitive.
use Rattle.p21_spec_file.specs.Value.{Value, whole, real, number, text, bits, item, reference, derived, missing, list, array, set, bag, typed, Values, no_values, value}
use Rattle.p21_spec_file.specs.SameValue.{Same, same_wholes, same_reals, same_numbers, same_texts, same_bits, same_items, same_references, both_derived, both_missing, same_lists, same_arrays, same_sets, same_bags, same_typed, SameInOrder, both_end, both_next, Among, here, there, EachAmong, none_left, each_next, SamePaired, both_empty, paired, Without, without_first, without_later}
use Rattle.p21_spec_file.proofs.Sameness.{SamePaired-first}
use Rattle.p21_spec_exchange.proofs.Ratios.{decimals-transitive}

-- what is the same as this value is the same as all that it is the same as
abbrev IsTransitiveAt : Value → Type 0
IsTransitiveAt v = (u w : Value) → Same u v → Same v w → Same u w

abbrev AreTransitive : Values → Type 0
AreTransitive no_values = Unit {0}
AreTransitive (value v vs) = IsTransitiveAt v × AreTransitive vs

SameInOrder-along : (vs us ws : Values) → AreTransitive vs → SameInOrder us vs → SameInOrder vs ws → SameInOrder us ws
SameInOrder-along no_values us ws are both_end both_end = both_end
SameInOrder-along (value v vs) us ws are (both_next u _ us_ _ same more) (both_next _ w _ ws_ same_ more_) = both_next u w us_ ws_ (are.0 u w same same_) (SameInOrder-along vs us_ ws_ are.1 more more_)

Among-same : (u v : Value) (ws : Values) → IsTransitiveAt v → Same u v → Among v ws → Among u ws
Among-same u v ws is same (here _ w more same_) = here u w more (is u w same same_)
Among-same u v ws is same (there _ w more among) = there u w more (Among-same u v more is same among)

Among-transitive : (u : Value) (vs ws : Values) → AreTransitive vs → Among u vs → EachAmong vs ws → Among u ws
Among-transitive u vs ws are (here _ v more same) (each_next _ _ _ among each) = Among-same u v ws are.0 same among
Among-transitive u vs ws are (there _ v more among) (each_next _ _ _ among_ each) = Among-transitive u more ws are.1 among each

EachAmong-transitive : (us vs ws : Values) → AreTransitive vs → EachAmong us vs → EachAmong vs ws → EachAmong us ws
EachAmong-transitive us vs ws are (none_left _) each = none_left ws
EachAmong-transitive us vs ws are (each_next u more _ among each_) each = each_next u more ws (Among-transitive u vs ws are among each) (EachAmong-transitive more vs ws are each_ each)

Without-same : (u v : Value) (ws rest : Values) → IsTransitiveAt v → Same u v → Without v ws rest → Without u ws rest
Without-same u v ws rest is same (without_first _ w more same_) = without_first u w more (is u w same same_)
Without-same u v ws rest is same (without_later _ w more rest_ without) = without_later u w more rest_ (Without-same u v more rest_ is same without)

-- two elements taken in the other order
Without-swap : (u v : Value) (ws first second : Values) → Without v ws first → Without u first second → (other : Values) × Without u ws other × Without v other second
Without-swap u v ws first second (without_first _ w more same) without = (value w second, without_later u w more second without, without_first v w second same)
Without-swap u v ws first second (without_later _ w more rest without_v) (without_first _ _ _ same) = (more, without_first u w more same, without_v)
Without-swap u v ws first second (without_later _ w more rest without_v) (without_later _ _ _ rest_ without_u) =
    let (other, without_u_, without_v_) = Without-swap u v more rest rest_ without_v without_u in
    (value w other, without_later u w more other without_u_, without_later v w other rest_ without_v_)

-- what pairs with the middle list without one element
SamePaired-without : (u : Value) (vs rest ws : Values) → AreTransitive vs → Without u vs rest → SamePaired vs ws → (other : Values) × Without u ws other × SamePaired rest other
SamePaired-without u vs rest ws are (without_first _ v _ same) pairs =
    let (other, without_v, more) = SamePaired-first v rest ws pairs in
    (other, Without-same u v ws other are.0 same without_v, more)
SamePaired-without u vs rest ws are (without_later _ v vs_ rest_ without) pairs =
    let (ws_, without_v, more) = SamePaired-first v vs_ ws pairs in
    let (second, without_u, rest_pairs) = SamePaired-without u vs_ rest_ ws_ are.1 without more in
    let (other, without_u_, without_v_) = Without-swap u v ws ws_ second without_v without_u in
    (other, without_u_, paired v rest_ other second without_v_ rest_pairs)

AreTransitive-without : (u : Value) (vs rest : Values) → Without u vs rest → AreTransitive vs → AreTransitive rest
AreTransitive-without u vs rest (without_first _ v _ same) are = are.1
AreTransitive-without u vs rest (without_later _ v vs_ rest_ without) are = (are.0, AreTransitive-without u vs_ rest_ without are.1)

SamePaired-transitive : (us vs ws : Values) → AreTransitive vs → SamePaired us vs → SamePaired vs ws → SamePaired us ws
SamePaired-transitive us vs ws are both_empty both_empty = both_empty
SamePaired-transitive us vs ws are (paired u us_ _ rest without more) pairs =
    let (other, without_u, rest_pairs) = SamePaired-without u vs rest ws are without pairs in
    paired u us_ ws other without_u (SamePaired-transitive us_ rest other (AreTransitive-without u vs rest without are) more rest_pairs)

mutual
  pub Same-transitive : (v u w : Value) → Same u v → Same v w → Same u w
  Same-transitive (whole z) u w (same_wholes _) h = h
  Same-transitive (real b) u w (same_reals a _ first) (same_reals _ c second) = same_reals a c (decimals-transitive a b c first second)
  Same-transitive (number b) u w (same_numbers a _ first) (same_numbers _ c second) = same_numbers a c (decimals-transitive a b c first second)
  Same-transitive (text chars) u w (same_texts _) h = h
  Same-transitive (bits bs) u w (same_bits _) h = h
  Same-transitive (item word) u w (same_items _) h = h
  Same-transitive (reference n) u w (same_references _) h = h
  Same-transitive derived u w both_derived h = h
  Same-transitive missing u w both_missing h = h
  Same-transitive (list vs) u w (same_lists us _ first) (same_lists _ ws second) = same_lists us ws (SameInOrder-along vs us ws (are_transitive vs) first second)
  Same-transitive (array vs) u w (same_arrays us _ first) (same_arrays _ ws second) = same_arrays us ws (SameInOrder-along vs us ws (are_transitive vs) first second)
  Same-transitive (set vs) u w (same_sets us _ first first_) (same_sets _ ws second second_) = same_sets us ws (EachAmong-transitive us vs ws (are_transitive vs) first second) (EachAmong-transitive ws vs us (are_transitive vs) second_ first_)
  Same-transitive (bag vs) u w (same_bags us _ first) (same_bags _ ws second) = same_bags us ws (SamePaired-transitive us vs ws (are_transitive vs) first second)
  Same-transitive (typed t v) u w (same_typed _ a _ first) (same_typed _ _ b second) = same_typed t a b (Same-transitive v a b first second)

  are_transitive : (vs : Values) → AreTransitive vs
  are_transitive no_values = tt
  are_transitive (value v vs) = (Same-transitive v, are_transitive vs)

pub SameInOrder-transitive : (vs us ws : Values) → SameInOrder us vs → SameInOrder vs ws → SameInOrder us ws
SameInOrder-transitive vs us ws = SameInOrder-along vs us ws (are_transitive vs)
