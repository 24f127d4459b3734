-- Settled values: sets of them are paired, and other names leave them settled.
use Rattle.std.specs.Prelude.{◌≡◌, ◌⊎◌, ℕ, List, [], ◌∷◌, map, Contains}
use Rattle.std.specs.List.{flat_map, AllByRecursion as Each}
use Rattle.std.proofs.Common.{subst, inl, inr, ◌∙◌}
use Rattle.std.proofs.lemmas.List.Elements.{Contains-append_left, Contains-append_right}
use Rattle.p21_spec_file.specs.SameValue.{Same, Among, here, there, EachAmong, none_left, each_next, SamePaired, both_empty, paired, Without, without_first, without_later}
use Rattle.p21_spec_file.specs.Value.{Value, whole, real, number, text, bits, item, reference, derived, missing, list, array, set, bag, typed, Values, no_values, value}
use Rattle.p21_spec_file.proofs.Sameness.{Same-reflexive, Same-symmetric}
use Rattle.p21_spec_file.proofs.Transitive.{Same-transitive}
use Rattle.p21_spec_numbering.proofs.Renaming.{Among-renamed, value-twice, values-twice, value-kept, values-kept}
use Rattle.p21_spec_numbering.specs.Renamed.{renamed_value, renamed_values, targets, targets_in}
use Rattle.p21_spec_numbering.specs.Settled.{AreApart, IsSettled, AreSettled}

-- ---- sets without an element

pub among-same : (u v : Value) (ws : Values) → Same u v → Among v ws → Among u ws
among-same u v ws same (here _ w more same_) = here u w more (Same-transitive v u w same same_)
among-same u v ws same (there _ w more among) = there u w more (among-same u v more same among)

among-without : (v : Value) (ws : Values) → Among v ws → (rest : Values) × Without v ws rest
among-without v ws (here _ w more same) = (more, without_first v w more same)
among-without v ws (there _ w more among) =
    let (rest, without) = among-without v more among in (value w rest, without_later v w more rest without)

without-among : (v : Value) (ws rest : Values) → Without v ws rest → Among v ws
without-among v ws rest (without_first _ w more same) = here v w more same
without-among v ws rest (without_later _ w more rest_ without) = there v w more (without-among v more rest_ without)

without-kept : (v : Value) (ws rest : Values) → Without v ws rest → (u : Value) → Among u rest → Among u ws
without-kept v ws rest (without_first _ w more same) u among = there u w more among
without-kept v ws rest (without_later _ w more rest_ without) u (here _ _ _ same) = here u w more same
without-kept v ws rest (without_later _ w more rest_ without) u (there _ _ _ among) =
    there u w more (without-kept v more rest_ without u among)

without-other : (v : Value) (ws rest : Values) → Without v ws rest → (u : Value) → Among u ws → Same u v ⊎ Among u rest
without-other v ws rest (without_first _ w more same) u (here _ _ _ same_) = inl (Same-transitive w u v same_ (Same-symmetric v w same))
without-other v ws rest (without_first _ w more same) u (there _ _ _ among) = inr among
without-other v ws rest (without_later _ w more rest_ without) u (here _ _ _ same) = inr (here u w rest_ same)
without-other v ws rest (without_later _ w more rest_ without) u (there _ _ _ among) = elim (without-other v more rest_ without u among) [
  | inl h ↦ inl h
  | inr h ↦ inr (there u w rest_ h)
]

-- what is among others and not the same as the one left out is among the rest
each-rest : (us : Values) (v : Value) (ws rest : Values) → Without v ws rest → ¬ Among v us → EachAmong us ws → EachAmong us rest
each-rest us v ws rest without not_ (none_left _) = none_left rest
each-rest us v ws rest without not_ (each_next u more _ among each) = elim (without-other v ws rest without u among) [
  | inl h ↦ absurd (not_ (here v u more (Same-symmetric u v h)))
  | inr h ↦ each_next u more rest h (each-rest more v ws rest without (λ at. not_ (there v u more at)) each)
]

each-dropped : (v : Value) (ws rest xs : Values) → Without v ws rest → EachAmong ws xs → EachAmong rest xs
each-dropped v ws rest xs (without_first _ w more same) (each_next _ _ _ among each) = each
each-dropped v ws rest xs (without_later _ w more rest_ without) (each_next _ _ _ among each) =
    each_next w rest_ xs among (each-dropped v more rest_ xs without each)

apart-without : (v : Value) (ws rest : Values) → Without v ws rest → AreApart ws → ¬ Among v rest × AreApart rest
apart-without v ws rest (without_first _ w more same) apart =
    (λ among. apart.0 (among-same w v more (Same-symmetric v w same) among), apart.1)
apart-without v ws rest (without_later _ w more rest_ without) apart =
    let later = apart-without v more rest_ without apart.1 in
    (not_among later.0, (λ among. apart.0 (without-kept v more rest_ without w among), later.1))
  where
    not_among : ¬ Among v rest_ → ¬ Among v (value w rest_)
    not_among none (here _ _ _ same) = apart.0 (among-same w v more (Same-symmetric v w same) (without-among v more rest_ without))
    not_among none (there _ _ _ among) = none among

-- sets that are the same are paired
pub apart-paired : (vs ws : Values) → EachAmong vs ws → EachAmong ws vs → AreApart vs → AreApart ws → SamePaired vs ws
apart-paired no_values ws onto (none_left _) apart apart_ = both_empty
apart-paired no_values ws onto (each_next w more _ among each) apart apart_ = elim among [ ]
apart-paired (value v vs) ws (each_next _ _ _ among each) back apart apart_ =
    let (rest, without) = among-without v ws among in
    let left_ = apart-without v ws rest without apart_ in
    paired v vs ws rest without
    (apart-paired vs rest (each-rest vs v ws rest without apart.0 each) (each-rest rest v (value v vs) vs (without_first v v vs (Same-reflexive v)) left_.0 (each-dropped v ws rest (value v vs) without back)) apart.1 left_.1)

-- ---- other names

abbrev Undoes : (ℕ → ℕ) → (ℕ → ℕ) → List ℕ → Type 0
Undoes g f ts = (t : ℕ) → Contains ts t → g (f t) ≡ t

apart-renamed : (f g : ℕ → ℕ) (vs : Values) → Undoes g f (targets_in vs) → AreApart vs → AreApart (renamed_values f vs)
apart-renamed f g no_values undoes apart = tt
apart-renamed f g (value v vs) undoes apart = (none, apart-renamed f g vs rest apart.1)
  where
    rest : Undoes g f (targets_in vs)
    rest t among = undoes t (Contains-append_right (targets v) (targets_in vs) t among)

    none : ¬ Among (renamed_value f v) (renamed_values f vs)
    none among =
        let P : Value → Type 0 = λ u. Among u (renamed_values g (renamed_values f vs)) in
        let Q : Values → Type 0 = λ us. Among v us in
        let one : renamed_value g (renamed_value f v) ≡ v = value-twice f g (λ n. n) v (λ t at. undoes t (Contains-append_left (targets v) (targets_in vs) t at)) ∙ value-kept v in
        let others : renamed_values g (renamed_values f vs) ≡ vs = values-twice f g (λ n. n) vs rest ∙ values-kept vs in
        apart.0 (subst Q others (subst P one (Among-renamed g (renamed_value f v) (renamed_values f vs) among)))

mutual
  pub settled-renamed : (f g : ℕ → ℕ) (v : Value) → Undoes g f (targets v) → IsSettled v → IsSettled (renamed_value f v)
  settled-renamed f g (whole z) undoes settled = tt
  settled-renamed f g (real d) undoes settled = settled
  settled-renamed f g (number d) undoes settled = settled
  settled-renamed f g (text chars) undoes settled = tt
  settled-renamed f g (bits bs) undoes settled = tt
  settled-renamed f g (item word) undoes settled = tt
  settled-renamed f g (reference n) undoes settled = tt
  settled-renamed f g derived undoes settled = tt
  settled-renamed f g missing undoes settled = tt
  settled-renamed f g (list vs) undoes settled = settled-all_renamed f g vs undoes settled
  settled-renamed f g (array vs) undoes settled = settled-all_renamed f g vs undoes settled
  settled-renamed f g (set vs) undoes settled = (apart-renamed f g vs undoes settled.0, settled-all_renamed f g vs undoes settled.1)
  settled-renamed f g (bag vs) undoes settled = settled-all_renamed f g vs undoes settled
  settled-renamed f g (typed t v) undoes settled = settled-renamed f g v undoes settled

  pub settled-all_renamed : (f g : ℕ → ℕ) (vs : Values) → Undoes g f (targets_in vs) → AreSettled vs → AreSettled (renamed_values f vs)
  settled-all_renamed f g no_values undoes settled = tt
  settled-all_renamed f g (value v vs) undoes settled = (
    settled-renamed f g v (λ t among. undoes t (Contains-append_left (targets v) (targets_in vs) t among)) settled.0,
    settled-all_renamed f g vs (λ t among. undoes t (Contains-append_right (targets v) (targets_in vs) t among)) settled.1,
  )

pub settled-rows_renamed : (f g : ℕ → ℕ) (rows : List Values) → Undoes g f (flat_map targets_in rows) → Each AreSettled rows
    → Each AreSettled (map (renamed_values f) rows)
settled-rows_renamed f g [] undoes settled = tt
settled-rows_renamed f g (vs ∷ rows) undoes settled = (
  settled-all_renamed f g vs (λ t among. undoes t (Contains-append_left (targets_in vs) (flat_map targets_in rows) t among)) settled.0,
  settled-rows_renamed f g rows (λ t among. undoes t (Contains-append_right (targets_in vs) (flat_map targets_in rows) t among)) settled.1,
)
