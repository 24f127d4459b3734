-- The elements of a list, and the aggregate of their values.
use Rattle.std.proofs.Common.{◌≡◌, ◌≢◌, ◌∙◌, sym, ap, refl, subst, inl, inr, ℕ, suc, ◌⊎◌, Bool, true, false, List, [], ◌∷◌, ◌++◌, ◌<◌, ◌≤◌, get_or, length, reverse, Ok, Err, Some, None, Contains, Vec, Box, Global, append_assoc, arith}
use Rattle.std.proofs.lemmas.List.{append-nil, map-append, reverse-append, reverse-reverse}
use denote.Param.Weighed.{at_most, most}
use denote.Ref.{Bor}
use Rattle.p21_spec_basics.proofs.Members.{Contains-none, Contains-first, Contains-later, Contains-cases, some_pair_is}
use Rattle.p21_spec_laws.proofs.Needs.{assignment, each-servable, served-each}
use Rattle.p21_spec_laws.proofs.OfType.{OfType, EachOf, of_none, of_next, of_empty, of_array, of_list, of_set, of_bag, of_chosen_type, offers-select}
use Rattle.p21_spec_laws.specs.Needs.{FitsWithNeeds, FitEachWithNeeds, FitsAtWithNeeds, with_none, with_next, with_empty, with_dollar, with_fit, with_array, with_list, with_set, with_bag, with_chosen_type}
use Rattle.p21_spec_exchange.specs.Parameter as parameter
use Rattle.p21_spec_exchange.specs.Parameter.{Param, Params, Key, no_params, param, listed, key_of}
use Rattle.p21_schema.specs.Base.{IsBase}
use Rattle.p21_schema.specs.declared.base.Base.{Base}
use Rattle.p21_schema.specs.declared.base.Base.TheVariants.{Plain}
use Rattle.p21_express_graph.specs.Resolved.{IsTypeUse, IsType}
use Rattle.p21_express_graph.specs.declared.number.TypeId.{TypeId}
use Rattle.p21_express_graph.specs.declared.type_use.TypeUse as code
use Rattle.p21_express_graph.specs.Meaning.{type_use}
use Rattle.p21_spec_file.specs.BrokenValue.{BreaksWithin, BreaksAtPlace, out_of_bounds, not_distinct, in_element, in_chosen, stored}
use Rattle.p21_spec_file.specs.ParameterKind.{AllowsCount, IsUnique, element_type}
use Rattle.p21_spec_file.specs.Reference as reference
use Rattle.p21_spec_file.specs.Value as meant
use Rattle.p21_spec_file.specs.Value.{Values, no_values, value, count}
use Rattle.p21_grammar_tree.specs.declared.param.Param as tree
use Rattle.p21_grammar_tree.specs.View as tree_view
use Rattle.p21_mapping.proofs.BaseKinds.{TakesPlainly}
use Rattle.p21_mapping.specs.Aggregate.{aggregate_value}
use Rattle.p21_mapping.specs.Choosing.{DecidesKey, IsBaseIn}
use Rattle.p21_mapping.specs.Outcome.{AreElementsOf, BreaksAmong, FitsFrom, FitsOrBreaks, Found, IsElementOf, IsKindFault, IsValueOf, KeepsUnique, needs_view}
use Rattle.p21_mapping.proofs.Outcomes.{broken, value-means}
use Rattle.p21_grammar_tree.specs.Fault.{fault_number}
use Rattle.p21_mapping_values.specs.KnownTypes.{HasKnownTypes, HaveKnownTypes}
use Rattle.p21_mapping_values.proofs.Views.{view-Tagged}
use Rattle.p21_grammar_tree.specs.declared.fault.CheckFault.{CheckFault}
use Rattle.p21_grammar_tree.specs.declared.fault.CheckFault.TheVariants as fault
use Rattle.p21_mapping_values.specs.declared.need.Need.{Need}
use Rattle.p21_mapping_values.specs.declared.value.Value.{Value}
use Rattle.p21_mapping_values.specs.declared.value.Value as code_value
use Rattle.p21_mapping_values.specs.TypedView.{need_view}
use Rattle.p21_mapping_values.specs.View.{view, views}
use Rattle.p21_spec_schema.specs.PlaceType.{stored_place}
use Rattle.p21_spec_schema.specs.Schema as schema
use Rattle.p21_spec_schema.specs.Schema.{Schema, TypeUse, type_member}

-- ---- an element more

-- parameters one behind the other
abbrev pub followed : Params → Param → Params
followed no_params p = param p no_params
followed (param q ps) p = param q (followed ps p)

abbrev pub put_behind : Values → meant.Value → Values
put_behind no_values v = value v no_values
put_behind (value w vs) v = value w (put_behind vs v)

at-each : (s : Schema) (optional : Bool) (type : TypeUse) (p : Param) (v : meant.Value) (needs : List reference.Need)
    → FitsAtWithNeeds s (stored_place optional type) p v needs
    → FitEachWithNeeds s optional type (param p no_params) (value v no_values) needs
at-each s optional type p v needs (with_dollar _) = with_empty type no_params no_values [] (with_none true type)
at-each s optional type p v needs (with_fit _ _ _ _ _ fits) = let P : List reference.Need
    → Type 0 = λ ns. FitEachWithNeeds s optional type (param p no_params) (value v no_values) ns in
    subst P (append-nil needs) (with_next optional type p v no_params no_values needs [] fits (with_none optional type))

pub each-followed : (s : Schema) (optional : Bool) (type : TypeUse) (ps : Params) (vs : Values) (needs more : List reference.Need)
    (p : Param) (v : meant.Value) → FitEachWithNeeds s optional type ps vs needs → FitsAtWithNeeds s (stored_place optional type) p v more
    → FitEachWithNeeds s optional type (followed ps p) (put_behind vs v) (needs ++ more)
each-followed s optional type ps vs needs more p v (with_none _ _) fits = at-each s optional type p v more fits
each-followed s optional type ps vs needs more p v (with_next _ _ q w ps_ vs_ first rest fit each) fits =
    let P : List reference.Need → Type 0 = λ ns. FitEachWithNeeds s optional type (followed ps p) (put_behind vs v) ns in
    subst P (sym (append_assoc first rest more)) (with_next optional type q w (followed ps_ p) (put_behind vs_ v) first (rest ++ more) fit
    (each-followed s optional type ps_ vs_ rest more p v each fits))
each-followed s optional type ps vs needs more p v (with_empty _ ps_ vs_ _ each) fits =
    with_empty type (followed ps_ p) (put_behind vs_ v) (needs ++ more) (each-followed s true type ps_ vs_ needs more p v each fits)

typed-followed : (s : Schema) (optional : Bool) (type : TypeUse) (vs : Values) (v : meant.Value) → EachOf s optional type vs
    → ((optional ≡ true) × (v ≡ meant.missing)) ⊎ OfType s type v → EachOf s optional type (put_behind vs v)
typed-followed s optional type vs v (of_none _ _) (inl (may, is)) =
    let P : Bool → Type 0 = λ b. EachOf s b type (value v no_values) in let Q : meant.Value
    → Type 0 = λ w. EachOf s true type (value w no_values) in
    subst P (sym may) (subst Q (sym is) (of_empty type no_values (of_none true type)))
typed-followed s optional type vs v (of_none _ _) (inr of) = of_next optional type v no_values of (of_none optional type)
typed-followed s optional type vs v (of_next _ _ w ws of_ each) typed =
    of_next optional type w (put_behind ws v) of_ (typed-followed s optional type ws v each typed)
typed-followed s optional type vs v (of_empty _ ws each) typed =
    of_empty type (put_behind ws v) (typed-followed s true type ws v each typed)

known-followed : (s : Schema) (vs : Values) (v : meant.Value) → HaveKnownTypes s vs → HasKnownTypes s v → HaveKnownTypes s (put_behind vs v)
known-followed s no_values v known is = (is, tt)
known-followed s (value w vs) v known is = (known.0, known-followed s vs v known.1 is)

views-behind : (vs : List Value) (v : Value) → views (vs ++ v ∷ []) ≡ put_behind (views vs) (view v)
views-behind [] v = refl
views-behind (w ∷ vs) v = ap (value (view w)) (views-behind vs v)

params-behind : (ps : List tree.Param) (p : tree.Param) → tree_view.views (ps ++ p ∷ []) ≡ followed (tree_view.views ps) (tree_view.view p)
params-behind [] p = refl
params-behind (q ∷ ps) p = ap (param (tree_view.view q)) (params-behind ps p)

no_elements : (s : Schema) (optional : Bool) (type : TypeUse) (found : Vec Value Global) (needs : List Need) → found.items ≡ []
    → Found (AreElementsOf s optional type no_params) needs needs found
no_elements s optional type found needs is = record {
  added = [];
  needs_are = sym (append-nil needs);
  fits = record {
    fits = subst (λ (vs : List Value). FitEachWithNeeds s optional type no_params (views vs) []) (sym is) (with_none optional type);
    known = subst (λ (vs : List Value). HaveKnownTypes s (views vs)) (sym is) tt;
    typed = subst (λ (vs : List Value). EachOf s optional type (views vs)) (sym is) (of_none optional type);
  };
}

-- one more element has its value
element_more : (s : Schema) (optional : Bool) (type : TypeUse) (ps : List tree.Param) (p : tree.Param) (found more : Vec Value Global)
    (v : Value) (old between new : List Need) → Found (AreElementsOf s optional type (tree_view.views ps)) old between found
    → Found (IsElementOf s optional type (tree_view.view p)) between new v → more.items ≡ found.items ++ v ∷ []
    → Found (AreElementsOf s optional type (tree_view.views (ps ++ p ∷ []))) old new more
element_more s optional type ps p found more v old between new before now is =
    let all : views more.items ≡ put_behind (views found.items) (view v) = ap views is ∙ views-behind found.items v in
    let both : needs_view (before.added ++ now.added) ≡ needs_view before.added ++ needs_view now.added =
    map-append need_view before.added now.added in
    record {
      added = before.added ++ now.added;
      needs_are = now.needs_are ∙ ap (λ (ns : List Need). ns ++ now.added) before.needs_are ∙ append_assoc old before.added now.added;
      fits = record {
        fits = rw (both, all, params-behind ps p) (each-followed s optional type (tree_view.views ps) (views found.items)
            (needs_view before.added) (needs_view now.added) (tree_view.view p) (view v) before.fits.fits now.fits.fits);
        known = rw all (known-followed s (views found.items) (view v) before.fits.known now.fits.known);
        typed = rw all (typed-followed s optional type (views found.items) (view v) before.fits.typed now.fits.typed);
      };
    }

-- the parameter is one of them
behind-among : (ps : Params) (p : Param) → Contains (listed (followed ps p)) p
behind-among no_params p = Contains-first p []
behind-among (param q ps) p = Contains-later q (listed (followed ps p)) p (behind-among ps p)

among-on : (ps : List tree.Param) (rest : List tree.Param) (p : Param) → Contains (listed (tree_view.views ps)) p
    → Contains (listed (tree_view.views (ps ++ rest))) p
among-on [] rest p among = absurd (Contains-none p among)
among-on (q ∷ ps) rest p among = elim (Contains-cases (tree_view.view q) (listed (tree_view.views ps)) p among) [
  | inl h ↦ subst (Contains (listed (tree_view.views (q ∷ ps ++ rest)))) h
      (Contains-first (tree_view.view q) (listed (tree_view.views (ps ++ rest))))
  | inr h ↦ Contains-later (tree_view.view q) (listed (tree_view.views (ps ++ rest))) p (among-on ps rest p h)
]

breaks-among : (s : Schema) (optional : Bool) (type : TypeUse) (ps rest all : List tree.Param) (p : tree.Param) (f : CheckFault)
    → (ps ++ p ∷ []) ++ rest ≡ all → (f ≢ fault.NoMemory → BreaksAtPlace s (stored_place optional type) (tree_view.view p) (fault_number f))
    → f ≢ fault.NoMemory → BreaksAmong s optional type (tree_view.views all) (fault_number f)
breaks-among s optional type ps rest all p f is breaks other =
    let here : Contains (listed (tree_view.views (ps ++ p ∷ []))) (tree_view.view p) =
    subst (λ (xs : Params). Contains (listed xs) (tree_view.view p)) (sym (params-behind ps p))
    (behind-among (tree_view.views ps) (tree_view.view p)) in (
      tree_view.view p,
      subst (λ (xs : List tree.Param). Contains (listed (tree_view.views xs)) (tree_view.view p)) is
          (among-on (ps ++ p ∷ []) rest (tree_view.view p) here),
      breaks other,
    )

-- ---- aggregates

pub takes-elements : (type : TypeUse) (ps : Params) → element_type type ≡ None → TakesPlainly type (parameter.list ps) → ⊥
takes-elements (schema.array _ _ _ _ _) ps is takes = cc
takes-elements (schema.list _ _ _ _) ps is takes = cc
takes-elements (schema.set _ _ _) ps is takes = cc
takes-elements (schema.bag _ _ _) ps is takes = cc
takes-elements other ps is takes = takes

listed-count : (ps : List tree.Param) → length (listed (tree_view.views ps)) ≡ length ps
listed-count [] = refl
listed-count (p ∷ ps) = ap suc (listed-count ps)

pub bounds_broken : (s : Schema) (base : Base) (b : Bor code.TypeUse) (ps : List tree.Param) (n : ℕ) (old new : List Need) → base ≡ Plain b
    → n ≡ length ps → ¬ AllowsCount (type_use b.now) n → FitsFrom s base (parameter.list (tree_view.views ps)) old (Err fault.Bounds) new
bounds_broken s base b ps n old new same count not type is =
    let at : type ≡ type_use b.now = (subst (IsBase s type) same is).0 in
    subst (λ (t : TypeUse). FitsOrBreaks s t (parameter.list (tree_view.views ps)) old (Err fault.Bounds) new) (sym at)
    (broken s (type_use b.now) (parameter.list (tree_view.views ps)) old new fault.Bounds
    (out_of_bounds (type_use b.now) (tree_view.views ps)
    (λ allows. not (subst (AllowsCount (type_use b.now)) (listed-count ps ∙ sym count) allows))))

element-breaks : (s : Schema) (n : ℕ) (type : TypeUse) (optional : Bool) (element : TypeUse) (ps : Params) (p : Param)
    → element_type type ≡ Some (optional, element) → Contains (listed ps) p → BreaksAtPlace s (stored_place optional element) p n
    → BreaksWithin s n type (parameter.list ps)
element-breaks s n type optional element ps p is among (stored _ _ _ _ not breaks) =
    in_element type optional element ps p is among not breaks

pub element_broken : (s : Schema) (base : Base) (b : Bor code.TypeUse) (ps : Params) (optional : Bool) (element : TypeUse) (f : CheckFault)
    (old new : List Need) → base ≡ Plain b → element_type (type_use b.now) ≡ Some (optional, element)
    → (f ≢ fault.NoMemory → BreaksAmong s optional element ps (fault_number f))
    → FitsFrom s base (parameter.list ps) old (Err f) new
element_broken s base b ps optional element f old new same is breaks type at other =
    let (p, among, inside) = breaks other in
    subst (λ (t : TypeUse). BreaksWithin s (fault_number f) t (parameter.list ps)) (sym (subst (IsBase s type) same at).0)
    (element-breaks s (fault_number f) (type_use b.now) optional element ps p is among inside)

pub same_broken : (s : Schema) (base : Base) (b : Bor code.TypeUse) (ps : Params) (optional : Bool) (element : TypeUse)
    (old new between : List Need) (found : Vec Value Global) → base ≡ Plain b → element_type (type_use b.now) ≡ Some (optional, element)
    → Found (AreElementsOf s optional element ps) old between found
    → ¬ KeepsUnique (type_use b.now) (views found.items) → FitsFrom s base (parameter.list ps) old (Err fault.NotDistinct) new
same_broken s base b ps optional element old new between found same is h not type at =
    let needs = needs_view h.added in
    let (kinds, served) = assignment s needs (each-servable s optional element ps (views found.items) needs h.fits.fits) in
    let each = served-each s kinds optional element ps (views found.items) needs h.fits.fits served in
    let unique : IsUnique (type_use b.now) = unique_or (type_use b.now) (views found.items) not in
    subst (λ (t : TypeUse). FitsOrBreaks s t (parameter.list ps) old (Err fault.NotDistinct) new) (sym (subst (IsBase s type) same at).0)
    (broken s (type_use b.now) (parameter.list ps) old new fault.NotDistinct
    (not_distinct (type_use b.now) ps (
      unique,
      (
        optional,
        element,
        is,
        (kinds, views found.items, each, (λ differ. not (λ _. differ))),
      ),
    )))
  where
    unique_or : (t : TypeUse) (vs : Values) → ¬ KeepsUnique t vs → IsUnique t
    unique_or (schema.array _ _ _ true _) vs n = refl
    unique_or (schema.array _ _ _ false _) vs n = absurd (n (λ h. let e : false ≡ true = h in cc))
    unique_or (schema.list _ _ true _) vs n = refl
    unique_or (schema.list _ _ false _) vs n = absurd (n (λ h. let e : false ≡ true = h in cc))
    unique_or (schema.set _ _ _) vs n = tt
    unique_or other vs n = absurd (n (λ h. absurd h))

each-count : (s : Schema) (optional : Bool) (type : TypeUse) (ps : Params) (vs : Values) (needs : List reference.Need)
    → FitEachWithNeeds s optional type ps vs needs → count vs ≡ length (listed ps)
each-count s optional type ps vs needs (with_none _ _) = refl
each-count s optional type ps vs needs (with_next _ _ p v ps_ vs_ first more fit each) =
    ap suc (each-count s optional type ps_ vs_ more each)
each-count s optional type ps vs needs (with_empty _ ps_ vs_ _ each) = ap suc (each-count s true type ps_ vs_ needs each)

-- the aggregate of values that fit
aggregate-fits : (s : Schema) (type : TypeUse) (optional : Bool) (element : TypeUse) (ps : Params) (vs : Values)
    (needs : List reference.Need) → element_type type ≡ Some (optional, element) → FitEachWithNeeds s optional element ps vs needs
    → AllowsCount type (count vs) → KeepsUnique type vs
    → FitsWithNeeds s type (parameter.list ps) (aggregate_value type vs) needs
aggregate-fits s (schema.array low high o u e) optional element ps vs needs is each allowed unique =
    let (eo, ee) = some_pair_is o optional e element is in with_array low high o u e ps vs needs (rw (eo, ee) each) allowed unique
aggregate-fits s (schema.list low high u e) optional element ps vs needs is each allowed unique =
    let (eo, ee) = some_pair_is false optional e element is in with_list low high u e ps vs needs (rw (eo, ee) each) allowed unique
aggregate-fits s (schema.set low high e) optional element ps vs needs is each allowed unique =
    let (eo, ee) = some_pair_is false optional e element is in with_set low high e ps vs needs (rw (eo, ee) each) allowed (unique tt)
aggregate-fits s (schema.bag low high e) optional element ps vs needs is each allowed unique =
    let (eo, ee) = some_pair_is false optional e element is in with_bag low high e ps vs needs (rw (eo, ee) each) allowed
aggregate-fits s other optional element ps vs needs is each allowed unique = cc

aggregate-of : (s : Schema) (type : TypeUse) (optional : Bool) (element : TypeUse) (vs : Values)
    → element_type type ≡ Some (optional, element) → EachOf s optional element vs → KeepsUnique type vs
    → OfType s type (aggregate_value type vs)
aggregate-of s (schema.array low high o u e) optional element vs is each unique = let (eo, ee) = some_pair_is o optional e element is in
    of_array low high o u e vs (rw (eo, ee) each)
aggregate-of s (schema.list low high u e) optional element vs is each unique = let (eo, ee) = some_pair_is false optional e element is in
    of_list low high u e vs (rw (eo, ee) each)
aggregate-of s (schema.set low high e) optional element vs is each unique = let (eo, ee) = some_pair_is false optional e element is in
    of_set low high e vs (rw (eo, ee) each) (unique tt)
aggregate-of s (schema.bag low high e) optional element vs is each unique = let (eo, ee) = some_pair_is false optional e element is in
    of_bag low high e vs (rw (eo, ee) each)
aggregate-of s other optional element vs is each unique = cc

aggregate-known : (s : Schema) (type : TypeUse) (vs : Values) → HaveKnownTypes s vs → HasKnownTypes s (aggregate_value type vs)
aggregate-known s (schema.array _ _ _ _ _) vs known = known
aggregate-known s (schema.set _ _ _) vs known = known
aggregate-known s (schema.bag _ _ _) vs known = known
aggregate-known s other vs known = known

pub aggregate_at : (s : Schema) (base : Base) (b : Bor code.TypeUse) (ps : List tree.Param) (n : ℕ) (optional : Bool) (element : TypeUse)
    (old new : List Need) (found : Vec Value Global) (v : Value) → base ≡ Plain b → element_type (type_use b.now) ≡ Some (optional, element)
    → Found (AreElementsOf s optional element (tree_view.views ps)) old new found → n ≡ length ps → AllowsCount (type_use b.now) n
    → KeepsUnique (type_use b.now) (views found.items) → view v ≡ aggregate_value (type_use b.now) (views found.items)
    → FitsFrom s base (parameter.list (tree_view.views ps)) old (Ok v) new
aggregate_at s base b ps n optional element old new found v same is h counted allowed unique means type at =
    let all : AllowsCount (type_use b.now) (count (views found.items)) =
    subst (AllowsCount (type_use b.now)) (counted ∙ sym (listed-count ps)
    ∙ sym (each-count s optional element (tree_view.views ps) (views found.items) (needs_view h.added) h.fits.fits)) allowed in
    subst (λ (t : TypeUse). FitsOrBreaks s t (parameter.list (tree_view.views ps)) old (Ok v) new) (sym (subst (IsBase s type) same at).0)
    (record {
      added = h.added;
      needs_are = h.needs_are;
      fits = value-means s (type_use b.now) (parameter.list (tree_view.views ps)) v (aggregate_value (type_use b.now) (views found.items))
          (needs_view h.added) means
          (aggregate-fits s (type_use b.now) optional element (tree_view.views ps) (views found.items) (needs_view h.added) is h.fits.fits
          all unique)
          (aggregate-known s (type_use b.now) (views found.items) h.fits.known)
          (aggregate-of s (type_use b.now) optional element (views found.items) is h.fits.typed unique);
    })

pub element-known : (s : Schema) (type : TypeUse) (optional : Bool) (element : TypeUse) → element_type type ≡ Some (optional, element)
    → IsTypeUse s type → IsTypeUse s element
element-known s (schema.array _ _ o _ e) optional element is known = subst (IsTypeUse s) (some_pair_is o optional e element is).1 known
element-known s (schema.list _ _ _ e) optional element is known = subst (IsTypeUse s) (some_pair_is false optional e element is).1 known
element-known s (schema.set _ _ e) optional element is known = subst (IsTypeUse s) (some_pair_is false optional e element is).1 known
element-known s (schema.bag _ _ e) optional element is known = subst (IsTypeUse s) (some_pair_is false optional e element is).1 known
element-known s other optional element is known = cc

pub plain-known : (s : Schema) (base : Base) (b : Bor code.TypeUse) → base ≡ Plain b → IsBaseIn s base → IsTypeUse s (type_use b.now)
plain-known s base b same (type, known, is) = subst (IsTypeUse s) (subst (IsBase s type) same is).0 known

-- ---- typed parameters

pub key_refused : (s : Schema) (base : Base) (key : Key) (p : Param) (f : CheckFault) (old new : List Need) → DecidesKey s base key None
    → IsKindFault base f → FitsFrom s base (parameter.typed key p) old (Err f) new
key_refused s base key p f old new decides is_fault type is =
    broken s type (parameter.typed key p) old new f (is_fault s type (parameter.typed key p) is ((λ e. cc), (λ e. cc), decides type p is))

pub chosen_broken : (s : Schema) (base : Base) (key : Key) (chosen : TypeId) (p : Param) (f : CheckFault) (old new : List Need)
    → DecidesKey s base key (Some chosen) → (f ≢ fault.NoMemory → BreaksWithin s (fault_number f) (schema.defined chosen.0) p)
    → FitsFrom s base (parameter.typed key p) old (Err f) new
chosen_broken s base key chosen p f old new decides breaks type is other =
    let chooses = decides type is in
    subst (λ (k : Key). BreaksWithin s (fault_number f) type (parameter.typed k p)) (sym chooses.key_is)
    (subst (λ (t : TypeUse). BreaksWithin s (fault_number f) t (parameter.typed (key_of chooses.name) p)) (sym chooses.type_is)
    (in_chosen chooses.select chosen.0 chooses.name p chooses.offers chooses.named (breaks other)))

pub chosen_at : (s : Schema) (base : Base) (key : Key) (chosen : TypeId) (p : Param) (old new : List Need) (v : Value)
    (boxed : Box Value Global) → DecidesKey s base key (Some chosen) → IsType s chosen.0
    → Found (IsValueOf s (schema.defined chosen.0) p) old new v → boxed.value ≡ v
    → FitsFrom s base (parameter.typed key p) old (Ok (code_value.Tagged chosen boxed)) new
chosen_at s base key chosen p old new v boxed decides known h same type is =
    let chooses = decides type is in
    let means : view (code_value.Tagged chosen boxed) ≡ meant.typed chosen.0 (view v) = view-Tagged chosen boxed
    ∙ ap (λ (w : Value). meant.typed chosen.0 (view w)) same in
    subst (λ (k : Key). FitsOrBreaks s type (parameter.typed k p) old (Ok (code_value.Tagged chosen boxed)) new) (sym chooses.key_is)
    (subst (λ (t : TypeUse). FitsOrBreaks s t (parameter.typed (key_of chooses.name) p) old (Ok (code_value.Tagged chosen boxed)) new)
    (sym chooses.type_is)
    (record {
      added = h.added;
      needs_are = h.needs_are;
      fits = value-means s (schema.defined chooses.select) (parameter.typed (key_of chooses.name) p) (code_value.Tagged chosen boxed)
          (meant.typed chosen.0 (view v)) (needs_view h.added) means
          (with_chosen_type chooses.select chosen.0 chooses.name p (view v) (needs_view h.added) chooses.offers chooses.named h.fits.fits)
          (known, h.fits.known)
          (of_chosen_type chooses.select chosen.0 chooses.name (view v)
          (offers-select s chooses.select (type_member chosen.0) chooses.offers) chooses.named (chooses.name, (refl, chooses.keyword))
          h.fits.of_type);
    }))

-- ---- parameters taken from the end of a row that was turned round

-- those taken have their values, and those left stand from the last to the first
pub record Halfway (s : Schema) (optional : Bool) (type : TypeUse) (left all : List tree.Param) (old new : List Need)
    (found : Vec Value Global) : Type 0 where
  pub taken : List tree.Param
  pub whole : taken ++ reverse left ≡ all
  pub fits : Found (AreElementsOf s optional type (tree_view.views taken)) old new found

pub none_taken : (s : Schema) (optional : Bool) (type : TypeUse) (left all : List tree.Param) (needs : List Need) (found : Vec Value Global)
    → left ≡ reverse all → found.items ≡ [] → Halfway s optional type left all needs needs found
none_taken s optional type left all needs found turned none = record {
  taken = [];
  whole = ap (λ (xs : List tree.Param). reverse xs) turned ∙ reverse-reverse all;
  fits = no_elements s optional type found needs none;
}

-- the last of those left is the next one
pub next-one : (left rest : List tree.Param) (p : tree.Param) → left ≡ rest ++ p ∷ [] → reverse left ≡ p ∷ reverse rest
next-one left rest p is = ap (λ (xs : List tree.Param). reverse xs) is ∙ reverse-append rest (p ∷ [])

seamed : (ys left rest all : List tree.Param) (p : tree.Param) → left ≡ rest ++ p ∷ [] → ys ++ reverse left ≡ all
    → (ys ++ p ∷ []) ++ reverse rest ≡ all
seamed ys left rest all p is whole = append_assoc ys (p ∷ []) (reverse rest)
    ∙ ap (λ (xs : List tree.Param). ys ++ xs) (sym (next-one left rest p is)) ∙ whole

pub one_taken : (s : Schema) (optional : Bool) (type : TypeUse) (left rest all : List tree.Param) (p : tree.Param) (v : Value)
    (old between new : List Need) (found more : Vec Value Global) → Halfway s optional type left all old between found
    → left ≡ rest ++ p ∷ []
    → Found (IsElementOf s optional type (tree_view.view p)) between new v → more.items ≡ found.items ++ v ∷ []
    → Halfway s optional type rest all old new more
one_taken s optional type left rest all p v old between new found more h is fits appended = record {
  taken = h.taken ++ p ∷ [];
  whole = seamed h.taken left rest all p is h.whole;
  fits = element_more s optional type h.taken p found more v old between new h.fits fits appended;
}

pub all_taken : (s : Schema) (optional : Bool) (type : TypeUse) (left all : List tree.Param) (old new : List Need)
    (found : Vec Value Global) → Halfway s optional type left all old new found → left ≡ []
    → Found (AreElementsOf s optional type (tree_view.views all)) old new found
all_taken s optional type left all old new found h none =
    let whole : h.taken ≡ all = sym (append-nil h.taken) ∙ ap (λ (xs : List tree.Param). h.taken ++ reverse xs) (sym none) ∙ h.whole in
    subst (λ (xs : List tree.Param). Found (AreElementsOf s optional type (tree_view.views xs)) old new found) whole h.fits

pub broken_next : (s : Schema) (optional : Bool) (type : TypeUse) (left rest all : List tree.Param) (p : tree.Param) (f : CheckFault)
    (old new : List Need) (found : Vec Value Global) → Halfway s optional type left all old new found → left ≡ rest ++ p ∷ []
    → (f ≢ fault.NoMemory → BreaksAtPlace s (stored_place optional type) (tree_view.view p) (fault_number f)) → f ≢ fault.NoMemory
    → BreaksAmong s optional type (tree_view.views all) (fault_number f)
broken_next s optional type left rest all p f old new found h is =
    breaks-among s optional type h.taken (reverse rest) all p f (seamed h.taken left rest all p is h.whole)

at-seam : (ys : List tree.Param) (p : tree.Param) (more : List tree.Param)
    → (get_or (ys ++ p ∷ more) (length ys) p ≡ p) × (length ys < length (ys ++ p ∷ more))
at-seam [] p more = (refl, omega arith)
at-seam (y ∷ ys) p more = let (same, low) = at-seam ys p more in (same, omega (arith, low))

pub size_below : (size : tree.Param → ℕ) (s : Schema) (optional : Bool) (type : TypeUse) (left rest all : List tree.Param) (p : tree.Param)
    (old new : List Need) (found : Vec Value Global) → Halfway s optional type left all old new found → left ≡ rest ++ p ∷ []
    → size p ≤ most size all
size_below size s optional type left rest all p old new found h is =
    let (at, low) = at-seam h.taken p (reverse rest) in
    let whole : h.taken ++ p ∷ reverse rest ≡ all = ap (λ (xs : List tree.Param). h.taken ++ xs) (sym (next-one left rest p is))
    ∙ h.whole in
    let deep : size (get_or (h.taken ++ p ∷ reverse rest) (length h.taken) p) ≤ most size (h.taken ++ p ∷ reverse rest) =
    at_most size (h.taken ++ p ∷ reverse rest) (length h.taken) p low in
    subst (λ (xs : List tree.Param). size p ≤ most size xs) whole
    (subst (λ (q : tree.Param). size q ≤ most size (h.taken ++ p ∷ reverse rest)) at deep)
