-- Values of one type with one text are the same.
use Rattle.std.specs.Prelude.{◌≡◌, ℕ, ℤ, Bool, true, false, List, [], ◌∷◌, codes, Some, Contains, refl}
use Rattle.std.proofs.Common.{ap, sym, subst, ◌∙◌, inl, inr}
use Rattle.p21_spec_basics.proofs.Members.{Contains-none, Contains-first, Contains-later, Contains-cases}
use Rattle.p21_spec_schema.specs.WellFormed.{HasDistinctTypes}
use Rattle.p21_spec_file.proofs.Sameness.{Same-symmetric}
use Rattle.p21_spec_exchange.specs.Number.{Decimal}
use Rattle.p21_spec_exchange.specs.Parameter as parameter
use Rattle.p21_spec_exchange.specs.Parameter.{Param, Params, Key, key_of, params_of}
use Rattle.p21_spec_file.specs.SameValue.{Same, same_wholes, same_reals, same_numbers, same_texts, same_bits, same_items, same_references, both_missing, same_lists, same_arrays, same_sets, same_bags, same_typed, SameInOrder, both_end, both_next, Among, here, there, EachAmong, none_left, each_next, SamePaired, both_empty, paired, Without, without_first, without_later}
use Rattle.p21_spec_schema.specs.Schema as schema
use Rattle.p21_spec_schema.specs.Schema.{Schema, TypeUse, alias, items, choice}
use Rattle.p21_spec_file.specs.Value.{Value, whole, real, number, text, bits, item, reference, missing, typed, Values, no_values, value}
use Rattle.p21_spec_laws.proofs.CanonicalParam.{canonical_param, canonical_params, sort_params, params_of-once, same-sorting, one-canonical_param, canonical-written, value_text-is}
use Rattle.p21_spec_laws.proofs.LaidTexts.{one-text}
use Rattle.p21_spec_laws.proofs.CanonicalValue.{named-is}
use Rattle.p21_spec_laws.proofs.OfType.{OfType, of_whole, of_real, of_number, of_boolean, of_logical, of_text, of_binary, of_entity, of_alias, of_items, of_chosen_instance, of_chosen_type, of_array, of_list, of_set, of_bag, EachOf, of_none, of_next, of_empty}
use Rattle.p21_spec_basics.proofs.Shuffles.{Shuffled, Taken-none, Taken-cases, Shuffled-none, Shuffled-first, Shuffled-symmetric, Shuffled-members, Taken, AreMembers}
use Rattle.p21_spec_file.specs.ValueText.{type_name, value_text}

-- no value of a type is written `$`
dollar-of_none : (s : Schema) (type : TypeUse) (v : Value) → OfType s type v → canonical_param s v ≡ parameter.dollar → ⊥
dollar-of_none s type v (of_whole z) is = cc
dollar-of_none s type v (of_real d _) is = cc
dollar-of_none s type v (of_number d _) is = cc
dollar-of_none s type v (of_boolean word _) is = cc
dollar-of_none s type v (of_logical word _) is = cc
dollar-of_none s type v (of_text _ chars _) is = cc
dollar-of_none s type v (of_binary _ bs) is = cc
dollar-of_none s type v (of_entity _ n _) is = cc
dollar-of_none s type v (of_alias _ under _ _ of) is = dollar-of_none s under v of is
dollar-of_none s type v (of_items _ _ word _ _) is = cc
dollar-of_none s type v (of_chosen_instance _ n _ _) is = cc
dollar-of_none s type v (of_chosen_type _ u name x _ _ _ _) is = cc
dollar-of_none s type v (of_array _ _ _ _ _ vs _) is = cc
dollar-of_none s type v (of_list _ _ _ _ vs _) is = cc
dollar-of_none s type v (of_set _ _ _ vs _ _) is = cc
dollar-of_none s type v (of_bag _ _ _ vs _) is = cc

-- and none has the text of an empty place
pub not-dollar : (s : Schema) (type : TypeUse) (v : Value) → OfType s type v → value_text s v ≡ value_text s missing → ⊥
not-dollar s type v of same = dollar-of_none s type v of (one-text (canonical_param s v) parameter.dollar (canonical-written s type v of) ((codes "$", refl), tt) (sym (value_text-is s v) ∙ same))

-- ---- where the elements of a list are told apart by their parameters

abbrev IsTold : Schema → TypeUse → Value → Type 0
IsTold s type v = (w : Value) → OfType s type w → canonical_param s v ≡ canonical_param s w → Same v w

abbrev AreTold : Schema → TypeUse → Values → Type 0
AreTold s type no_values = Unit {0}
AreTold s type (value v vs) = IsTold s type v × AreTold s type vs

told-taken : (s : Schema) (type : TypeUse) (v : Value) → IsTold s type v → (ws : Values) → EachOf s false type ws → (rest : List Param) → Taken (canonical_param s v) (canonical_params s ws) rest
    → (others : Values) × Without v ws others × (canonical_params s others ≡ rest) × EachOf s false type others
told-taken s type v told ws (of_none _ _) rest taken = absurd (Taken-none (canonical_param s v) rest taken)
told-taken s type v told ws (of_next _ _ w ws_ of each) rest taken = elim (Taken-cases (canonical_param s v) (canonical_param s w) (canonical_params s ws_) rest taken) [
  | inl h ↦ (ws_, without_first v w ws_ (told w of h.0), sym h.1, each)
  | inr h ↦
      let (others, without, is, each_) = told-taken s type v told ws_ each h.0 h.2 in
      (value w others, without_later v w ws_ others without, ap (λ (ps : List Param). canonical_param s w ∷ ps) is ∙ sym h.1, of_next false type w others of each_)
]

none-of : (s : Schema) (ws : Values) → canonical_params s ws ≡ [] → ws ≡ no_values
none-of s no_values is = refl
none-of s (value w ws) is = cc

told-paired : (s : Schema) (type : TypeUse) (vs : Values) → AreTold s type vs → (ws : Values) → EachOf s false type ws → Shuffled (canonical_params s vs) (canonical_params s ws) → SamePaired vs ws
told-paired s type no_values told ws each shuffled = subst (SamePaired no_values) (sym (none-of s ws (Shuffled-none (canonical_params s ws) shuffled))) both_empty
told-paired s type (value v vs) told ws each shuffled =
    let (rest, taken, more) = Shuffled-first (canonical_param s v) (canonical_params s vs) (canonical_params s ws) shuffled in
    let (others, without, is, each_) = told-taken s type v told.0 ws each rest taken in
    let P : List Param → Type 0 = λ ps. Shuffled (canonical_params s vs) ps in
    paired v vs ws others without (told-paired s type vs told.1 others each_ (subst P (sym is) more))

told-among : (s : Schema) (type : TypeUse) (v : Value) → IsTold s type v → (ws : Values) → EachOf s false type ws → Contains (canonical_params s ws) (canonical_param s v) → Among v ws
told-among s type v told ws (of_none _ _) among = absurd (Contains-none (canonical_param s v) among)
told-among s type v told ws (of_next _ _ w ws_ of each) among = elim (Contains-cases (canonical_param s w) (canonical_params s ws_) (canonical_param s v) among) [
  | inl h ↦ here v w ws_ (told w of (sym h))
  | inr h ↦ there v w ws_ (told-among s type v told ws_ each h)
]

told-each_among : (s : Schema) (type : TypeUse) (vs : Values) → AreTold s type vs → (ws : Values) → EachOf s false type ws → AreMembers (canonical_params s vs) (canonical_params s ws) → EachAmong vs ws
told-each_among s type no_values told ws each members = none_left ws
told-each_among s type (value v vs) told ws each members =
    each_next v vs ws (told-among s type v told.0 ws each (members (canonical_param s v) (Contains-first (canonical_param s v) (canonical_params s vs))))
    (told-each_among s type vs told.1 ws each (λ p among. members p (Contains-later (canonical_param s v) (canonical_params s vs) p among)))

told-back : (s : Schema) (type : TypeUse) (w : Value) → OfType s type w → (vs : Values) → AreTold s type vs → Contains (canonical_params s vs) (canonical_param s w) → Among w vs
told-back s type w of no_values told among = absurd (Contains-none (canonical_param s w) among)
told-back s type w of (value v vs) told among = elim (Contains-cases (canonical_param s v) (canonical_params s vs) (canonical_param s w) among) [
  | inl h ↦ here w v vs (Same-symmetric v w (told.0 w of h))
  | inr h ↦ there w v vs (told-back s type w of vs told.1 h)
]

told-each_back : (s : Schema) (type : TypeUse) (ws : Values) → EachOf s false type ws → (vs : Values) → AreTold s type vs → AreMembers (canonical_params s ws) (canonical_params s vs) → EachAmong ws vs
told-each_back s type ws (of_none _ _) vs told members = none_left vs
told-each_back s type ws (of_next _ _ w ws_ of each) vs told members =
    each_next w ws_ vs (told-back s type w of vs told (members (canonical_param s w) (Contains-first (canonical_param s w) (canonical_params s ws_))))
    (told-each_back s type ws_ each vs told (λ p among. members p (Contains-later (canonical_param s w) (canonical_params s ws_) p among)))

inner : (ps qs : Params) → parameter.list ps ≡ parameter.list qs → ps ≡ qs
inner ps qs same = cc

-- ---- values of one parameter

mutual
  pub told : (s : Schema) → HasDistinctTypes s → (type : TypeUse) (v w : Value) → OfType s type v → OfType s type w → canonical_param s v ≡ canonical_param s w → Same v w
  told s distinct type v w (of_whole a) (of_whole b) same = let e : a ≡ b = cc in let P : ℤ → Type 0 = λ x. Same (whole a) (whole x) in subst P e (same_wholes a)
  told s distinct type v w (of_real a _) (of_real b _) same = let e : a ≡ b = cc in let P : Decimal → Type 0 = λ x. Same (real a) (real x) in subst P e (same_reals a a refl)
  told s distinct type v w (of_number a _) (of_number b _) same = let e : a ≡ b = cc in let P : Decimal → Type 0 = λ x. Same (number a) (number x) in subst P e (same_numbers a a refl)
  told s distinct type v w (of_boolean a _) (of_boolean b _) same = let e : a ≡ b = cc in let P : List ℕ → Type 0 = λ x. Same (item a) (item x) in subst P e (same_items a)
  told s distinct type v w (of_logical a _) (of_logical b _) same = let e : a ≡ b = cc in let P : List ℕ → Type 0 = λ x. Same (item a) (item x) in subst P e (same_items a)
  told s distinct type v w (of_text _ a _) (of_text _ b _) same = let e : a ≡ b = cc in let P : List ℕ → Type 0 = λ x. Same (text a) (text x) in subst P e (same_texts a)
  told s distinct type v w (of_binary _ a) (of_binary _ b) same = let e : a ≡ b = cc in let P : List Bool → Type 0 = λ x. Same (bits a) (bits x) in subst P e (same_bits a)
  told s distinct type v w (of_entity _ a _) (of_entity _ b _) same = let e : a ≡ b = cc in let P : ℕ → Type 0 = λ x. Same (reference a) (reference x) in subst P e (same_references a)
  told s distinct type v w (of_alias t under _ is of) (of_alias _ under_ _ is_ of_) same =
      let one : under_ ≡ under = let h : Some (alias under_) ≡ Some (alias under) = sym is_ ∙ is in cc in
      let P : TypeUse → Type 0 = λ u. OfType s u w in
      told s distinct under v w of (subst P one of_) same
  told s distinct type v w (of_alias t under _ is of) (of_items _ words _ is_ _) same = let h : Some (alias under) ≡ Some (items words) = sym is ∙ is_ in cc
  told s distinct type v w (of_alias t under _ is of) (of_chosen_instance _ _ is_ _) same = let h : Some (alias under) ≡ Some (choice is_.0) = sym is ∙ is_.1 in cc
  told s distinct type v w (of_alias t under _ is of) (of_chosen_type _ _ _ _ is_ _ _ _) same = let h : Some (alias under) ≡ Some (choice is_.0) = sym is ∙ is_.1 in cc
  told s distinct type v w (of_items t words a is _) (of_alias _ under _ is_ _) same = let h : Some (alias under) ≡ Some (items words) = sym is_ ∙ is in cc
  told s distinct type v w (of_items t words a is _) (of_items _ _ b _ _) same = let e : a ≡ b = cc in let P : List ℕ → Type 0 = λ x. Same (item a) (item x) in subst P e (same_items a)
  told s distinct type v w (of_items t words a is _) (of_chosen_instance _ _ _ _) same = cc
  told s distinct type v w (of_items t words a is _) (of_chosen_type _ _ _ _ _ _ _ _) same = cc
  told s distinct type v w (of_chosen_instance t a is _) (of_alias _ under _ is_ _) same = let h : Some (alias under) ≡ Some (choice is.0) = sym is_ ∙ is.1 in cc
  told s distinct type v w (of_chosen_instance t a is _) (of_items _ _ _ _ _) same = cc
  told s distinct type v w (of_chosen_instance t a is _) (of_chosen_instance _ b _ _) same = let e : a ≡ b = cc in let P : ℕ → Type 0 = λ x. Same (reference a) (reference x) in subst P e (same_references a)
  told s distinct type v w (of_chosen_instance t a is _) (of_chosen_type _ _ _ _ _ _ _ _) same = cc
  told s distinct type v w (of_chosen_type t u name x is _ _ _) (of_alias _ under _ is_ _) same = let h : Some (alias under) ≡ Some (choice is.0) = sym is_ ∙ is.1 in cc
  told s distinct type v w (of_chosen_type t u name x is _ _ _) (of_items _ _ _ _ _) same = cc
  told s distinct type v w (of_chosen_type t u name x is _ _ _) (of_chosen_instance _ _ _ _) same = cc
  told s distinct type v w (of_chosen_type t u name x is named _ of) (of_chosen_type _ u_ name_ y is_ named_ _ of_) same =
      let keys : key_of (type_name s u) ≡ key_of (type_name s u_) = cc in
      let names : name ≡ name_ = sym (named-is s u name named) ∙ ap (λ (k : Key). k.word) keys ∙ named-is s u_ name_ named_ in
      let params : canonical_param s x ≡ canonical_param s y = cc in
      let one : u_ ≡ u = distinct u_ u name_ named_ (let P : List ℕ → Type 0 = λ n. schema.TypeNamed s u n in subst P names named) in
      let P : ℕ → Type 0 = λ k. OfType s (schema.defined k) y in
      let Q : ℕ → Type 0 = λ k. Same (typed u x) (typed k y) in
      subst Q (sym one) (same_typed u x y (told s distinct (schema.defined u) x y of (subst P one of_) params))
  told s distinct type v w (of_array _ _ optional _ element vs each) (of_array _ _ _ _ _ ws each_) same =
      same_arrays vs ws (told-in_order s distinct optional element vs ws each each_ (params_of-once (canonical_params s vs) (canonical_params s ws) (inner (params_of (canonical_params s vs)) (params_of (canonical_params s ws)) same)))
  told s distinct type v w (of_list _ _ _ element vs each) (of_list _ _ _ _ ws each_) same =
      same_lists vs ws (told-in_order s distinct false element vs ws each each_ (params_of-once (canonical_params s vs) (canonical_params s ws) (inner (params_of (canonical_params s vs)) (params_of (canonical_params s ws)) same)))
  told s distinct type v w (of_set _ _ element vs each _) (of_set _ _ _ ws each_ _) same =
      let one : sort_params (canonical_params s vs) ≡ sort_params (canonical_params s ws) =
      params_of-once (sort_params (canonical_params s vs)) (sort_params (canonical_params s ws)) (inner (params_of (sort_params (canonical_params s vs))) (params_of (sort_params (canonical_params s ws))) same) in
      let shuffled = same-sorting (canonical_params s vs) (canonical_params s ws) one in
      let are = are_told s distinct element vs each in
      same_sets vs ws (told-each_among s element vs are ws each_ (Shuffled-members (canonical_params s vs) (canonical_params s ws) shuffled))
      (told-each_back s element ws each_ vs are (Shuffled-members (canonical_params s ws) (canonical_params s vs) (Shuffled-symmetric (canonical_params s vs) (canonical_params s ws) shuffled)))
  told s distinct type v w (of_bag _ _ element vs each) (of_bag _ _ _ ws each_) same =
      let one : sort_params (canonical_params s vs) ≡ sort_params (canonical_params s ws) =
      params_of-once (sort_params (canonical_params s vs)) (sort_params (canonical_params s ws)) (inner (params_of (sort_params (canonical_params s vs))) (params_of (sort_params (canonical_params s ws))) same) in
      same_bags vs ws (told-paired s element vs (are_told s distinct element vs each) ws each_ (same-sorting (canonical_params s vs) (canonical_params s ws) one))

  are_told : (s : Schema) → HasDistinctTypes s → (type : TypeUse) (vs : Values) → EachOf s false type vs → AreTold s type vs
  are_told s distinct type vs (of_none _ _) = tt
  are_told s distinct type vs (of_next _ _ v vs_ of each) = (λ w of_ same. told s distinct type v w of of_ same, are_told s distinct type vs_ each)

  told-in_order : (s : Schema) → HasDistinctTypes s → (optional : Bool) (type : TypeUse) (vs ws : Values) → EachOf s optional type vs → EachOf s optional type ws → canonical_params s vs ≡ canonical_params s ws → SameInOrder vs ws
  told-in_order s distinct optional type vs ws (of_none _ _) (of_none _ _) same = both_end
  told-in_order s distinct optional type vs ws (of_none _ _) (of_next _ _ w ws_ _ _) same = cc
  told-in_order s distinct optional type vs ws (of_none _ _) (of_empty _ ws_ _) same = cc
  told-in_order s distinct optional type vs ws (of_next _ _ v vs_ of each) (of_none _ _) same = cc
  told-in_order s distinct optional type vs ws (of_next _ _ v vs_ of each) (of_next _ _ w ws_ of_ each_) same =
      let first : canonical_param s v ≡ canonical_param s w = cc in
      let rest : canonical_params s vs_ ≡ canonical_params s ws_ = cc in
      both_next v w vs_ ws_ (told s distinct type v w of of_ first) (told-in_order s distinct optional type vs_ ws_ each each_ rest)
  told-in_order s distinct optional type vs ws (of_next _ _ v vs_ of each) (of_empty _ ws_ each_) same = absurd (dollar-of_none s type v of (cc))
  told-in_order s distinct optional type vs ws (of_empty _ vs_ each) (of_none _ _) same = cc
  told-in_order s distinct optional type vs ws (of_empty _ vs_ each) (of_next _ _ w ws_ of_ each_) same = absurd (dollar-of_none s type w of_ (cc))
  told-in_order s distinct optional type vs ws (of_empty _ vs_ each) (of_empty _ ws_ each_) same =
      let rest : canonical_params s vs_ ≡ canonical_params s ws_ = cc in
      both_next missing missing vs_ ws_ both_missing (told-in_order s distinct true type vs_ ws_ each each_ rest)

-- values of one type and one text are the same
pub same-from_text : (s : Schema) → HasDistinctTypes s → (type : TypeUse) (v w : Value) → OfType s type v → OfType s type w → value_text s v ≡ value_text s w → Same v w
same-from_text s distinct type v w of of_ same = told s distinct type v w of of_ (one-canonical_param s type type v w of of_ same)
