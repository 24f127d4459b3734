-- Values paired with distinct values are distinct.
use Rattle.std.specs.Prelude.{◌≡◌, ◌≢◌, ◌⊎◌}
use Rattle.std.proofs.Common.{inl, inr}
use Rattle.p21_spec_file.proofs.Sameness.{Same-symmetric, SamePaired-symmetric}
use Rattle.p21_spec_file.proofs.Transitive.{Same-transitive}
use Rattle.p21_spec_file.specs.SameValue.{Same, SameInOrder, both_end, both_next, Among, here, there, EachAmong, none_left, each_next, SamePaired, both_empty, paired, Without, without_first, without_later, AreDistinct}
use Rattle.p21_spec_file.specs.Value.{Value, missing, Values, no_values, value}
use Rattle.p21_spec_laws.proofs.TextsFromSame.{same-missing}

Among-replaced : (u v : Value) (ws : Values) → Same u v → Among v ws → Among u ws
Among-replaced u v ws same (here _ w more same_) = here u w more (Same-transitive v u w same same_)
Among-replaced u v ws same (there _ w more among) = there u w more (Among-replaced u v more same among)

Among-onward : (u : Value) (vs ws : Values) → Among u vs → EachAmong vs ws → Among u ws
Among-onward u vs ws (here _ v more same) (each_next _ _ _ among each) = Among-replaced u v ws same among
Among-onward u vs ws (there _ v more among) (each_next _ _ _ among_ each) = Among-onward u more ws among each

Without-among : (v : Value) (ws rest : Values) → Without v ws rest → Among v ws
Without-among v ws rest (without_first _ w more same) = here v w more same
Without-among v ws rest (without_later _ w more rest_ without) = there v w more (Without-among v more rest_ without)

Without-kept : (v : Value) (ws rest : Values) → Without v ws rest → (u : Value) → Among u rest → Among u ws
Without-kept v ws rest (without_first _ w more same) u among = there u w more among
Without-kept v ws rest (without_later _ w more rest_ without) u (here _ _ _ same) = here u w more same
Without-kept v ws rest (without_later _ w more rest_ without) u (there _ _ _ among) = there u w more (Without-kept v more rest_ without u among)

Without-other : (v : Value) (ws rest : Values) → Without v ws rest → (u : Value) → Among u ws → Same u v ⊎ Among u rest
Without-other v ws rest (without_first _ w more same) u (here _ _ _ same_) = inl (Same-transitive w u v same_ (Same-symmetric v w same))
Without-other v ws rest (without_first _ w more same) u (there _ _ _ among) = inr among
Without-other v ws rest (without_later _ w more rest_ without) u (here _ _ _ same) = inr (here u w rest_ same)
Without-other v ws rest (without_later _ w more rest_ without) u (there _ _ _ among) = elim (Without-other v more rest_ without u among) [
  | inl h ↦ inl h
  | inr h ↦ inr (there u w rest_ h)
]

pub paired-each : (vs ws : Values) → SamePaired vs ws → EachAmong vs ws
paired-each vs ws both_empty = none_left no_values
paired-each vs ws (paired v vs_ _ rest without pairs) = each_next v vs_ ws (Without-among v ws rest without) (wider vs_ (paired-each vs_ rest pairs))
  where
    wider : (us : Values) → EachAmong us rest → EachAmong us ws
    wider us (none_left _) = none_left ws
    wider us (each_next u more _ among each) = each_next u more ws (Without-kept v ws rest without u among) (wider more each)

-- not missing, since what it is the same as is not
some-same : (v w : Value) → Same v w → w ≢ missing → v ≢ missing
some-same v w same some is = some (same-missing w (Same-symmetric missing w (to v same is)))
  where
    to : (u : Value) → Same u w → u ≡ missing → Same missing w
    to u h e = rw e at h

distinct-put : (v : Value) (ws rest : Values) → Without v ws rest → AreDistinct rest → (v ≢ missing → ¬ Among v rest) → AreDistinct ws
distinct-put v ws rest (without_first _ w _ same) distinct other = (λ some among. other (some-same v w same some) (Among-replaced v w rest same among), distinct)
distinct-put v ws rest (without_later _ w more rest_ without) distinct other = (
  λ some among. elim (Without-other v more rest_ without w among) [
    | inl h ↦ other (some-same v w (Same-symmetric w v h) some) (here v w rest_ (Same-symmetric w v h))
    | inr h ↦ distinct.0 some h
  ],
  distinct-put v more rest_ without distinct.1 (λ some among. other some (there v w rest_ among)),
)

pub distinct-paired : (vs ws : Values) → SamePaired vs ws → AreDistinct vs → AreDistinct ws
distinct-paired vs ws both_empty distinct = tt
distinct-paired vs ws (paired v vs_ _ rest without pairs) distinct =
    distinct-put v ws rest without (distinct-paired vs_ rest pairs distinct.1) (λ some among. distinct.0 some (Among-onward v rest vs_ among (paired-each rest vs_ (SamePaired-symmetric vs_ rest pairs))))

pub in_order-paired : (vs ws : Values) → SameInOrder vs ws → SamePaired vs ws
in_order-paired vs ws both_end = both_empty
in_order-paired vs ws (both_next v w vs_ ws_ same more) = paired v vs_ (value w ws_) ws_ (without_first v w ws_ same) (in_order-paired vs_ ws_ more)
