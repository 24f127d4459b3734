-- Elements that are taken one behind the other.
use Rattle.std.proofs.Common.{◌≡◌, ◌∙◌, ℕ, suc, ◌+◌, ◌-◌, ◌<◌, ◌≤◌, Bool, true, false, List, [], ◌∷◌, ◌++◌, length, map, take, drop, refl, ap, sym, subst, arith, append_assoc, length-append, Some}
use Rattle.std.proofs.Math.Seq.{drop-append_seam, take-append_seam}
use Rattle.std.proofs.lemmas.List.{append-nil, map-append}
use denote.Ref.{Bor}
use Rattle.p21_spec_laws.specs.Needs.{FitEachWithNeeds, FitsAtWithNeeds, FitsWithNeeds, with_array, with_bag, with_dollar, with_empty, with_fit, with_list, with_next, with_none, with_set}
use Rattle.p21_spec_exchange.specs.Parameter as parameter
use Rattle.p21_spec_exchange.specs.Parameter.{Param, Params, more_tokens, no_params, param, param_tokens, params_tokens}
use Rattle.p21_spec_exchange.specs.Token as token
use Rattle.p21_spec_exchange.specs.Token.{Token}
use Rattle.p21_schema.specs.Base.{HasBase, IsBase}
use Rattle.p21_schema.specs.declared.base.Base.{Base}
use Rattle.p21_schema.specs.declared.base.Base.TheVariants.{Plain}
use Rattle.p21_express_graph.proofs.Renaming.{comes-is}
use Rattle.p21_express_graph.specs.Resolved.{HoldsTogether, IsTypeUse}
use Rattle.p21_express_graph.specs.declared.type_use.TypeUse as code
use Rattle.p21_express_graph.specs.Meaning.{type_use}
use Rattle.p21_spec_file.specs.ParameterKind.{AllowsCount, IsUnique, element_type}
use Rattle.p21_spec_file.specs.Reference as reference
use Rattle.p21_spec_file.specs.SameValue.{AreDistinct}
use Rattle.p21_spec_file.specs.Value as meant
use Rattle.p21_spec_file.specs.Value.{Value, Values, count, no_values, value}
use Rattle.p21_spec_file.specs.ValueText.{list_text, value_text, value_texts, with_commas, with_commas_between}
use Rattle.p21_mapping_values.specs.declared.need.Need.{Need}
use Rattle.p21_mapping_values.specs.TypedView.{need_view}
use Rattle.p21_spec_schema.specs.PlaceType.{stored_place}
use Rattle.p21_spec_schema.specs.Schema as schema
use Rattle.p21_spec_schema.specs.Schema.{Schema, TypeUse}
use Rattle.p21_spec_schema.specs.WellFormed.{HasDistinctTypes}
use Rattle.p21_shorter_tokens.proofs.Parts.{goes-on}
use Rattle.p21_shorter_tokens.specs.Gaps.{PassesSeparators}
use Rattle.p21_shorter_instances.proofs.Laid.{laid-enclosed, laid-join, laid-next, laid-shorter}
use Rattle.p21_shorter_instances.proofs.Typed.{behind-gap, enclosed-text}
use Rattle.p21_shorter_instances.proofs.Distinct.{elements-distinct}
use Rattle.p21_shorter_instances.specs.ArrangedElements.{ClosesAggregate, HoldsElements, arranged_elements, compares_elements}
use Rattle.p21_shorter_instances.specs.Elements.{AddsLength, IsAggregateOf, TakesAll, TakesEach, TakesElements}
use Rattle.p21_shorter_instances.specs.declared.taken.Taken.{Taken}
use Rattle.p21_shorter_instances.specs.TakenValues.{IsBaseInSchema, KeepsNeeds, LaidBefore, PassesDelimiter, TakesBase, TakesPlaced, TakesWithNeeds, with_text}
use Rattle.p21_values.specs.Canonical.{Continues}
use Rattle.p21_mapping_values.specs.SplitTexts.{lengths_of}
use Rattle.p21_spec_basics.proofs.Members.{some_pair_is}

-- elements with a comma before each
abbrev pub TakesMore : Schema → Bool → TypeUse → Bool → ℕ → ℕ → List ℕ → List ℕ → List ℕ → List ℕ → Taken → Taken → Type 0
TakesMore = TakesEach more_tokens with_commas

-- ---- one element

each-next : (s : Schema) (optional : Bool) (type : TypeUse) (p : Param) (v : Value) (needs : List reference.Need) (ps : Params)
    (vs : Values) (more : List reference.Need)
    → FitsAtWithNeeds s (stored_place optional type) p v needs → FitEachWithNeeds s optional type ps vs more
    → FitEachWithNeeds s optional type (param p ps) (value v vs) (needs ++ more)
each-next s optional type p v needs ps vs more (with_dollar _) each = with_empty type ps vs more each
each-next s optional type p v needs ps vs more (with_fit _ _ _ _ _ fits) each = with_next optional type p v ps vs needs more fits each

pub no-elements : (s : Schema) (optional : Bool) (type : TypeUse) (compared : Bool) (most : ℕ) (bytes lengths : List ℕ) (taken : Taken)
    → TakesElements s optional type compared most 0 bytes bytes lengths lengths taken taken
no-elements s optional type compared most bytes lengths taken = record {
  parameters = no_params;
  values = no_values;
  added = [];
  needs_are = sym (append-nil taken.needs.items);
  fit = with_none optional type;
  number_is = refl;
  shallow = omega arith;
  laid = refl;
  text_is = sym (append-nil taken.draft);
  lengths_are = λ is. sym (append-nil lengths);
}

no-more : (s : Schema) (optional : Bool) (type : TypeUse) (compared : Bool) (most : ℕ) (bytes lengths : List ℕ) (taken : Taken)
    → TakesMore s optional type compared most 0 bytes bytes lengths lengths taken taken
no-more s optional type compared most bytes lengths taken = record {
  parameters = no_params;
  values = no_values;
  added = [];
  needs_are = sym (append-nil taken.needs.items);
  fit = with_none optional type;
  number_is = refl;
  shallow = omega arith;
  laid = refl;
  text_is = sym (append-nil taken.draft);
  lengths_are = λ is. sym (append-nil lengths);
}

-- an element behind a delimiter, with more elements behind it
element-before : (tokens : Params → List Token) (text : List (List ℕ) → List ℕ) (front : List Token) (mark : List ℕ)
    → ((p : Param) (ps : Params) → tokens (param p ps) ≡ front ++ (param_tokens p ++ more_tokens ps))
    → ((t : List ℕ) (ts : List (List ℕ)) → text (t ∷ ts) ≡ mark ++ (t ++ with_commas ts))
    → (s : Schema) (optional : Bool) (type : TypeUse) (compared : Bool) (most n : ℕ)
    (bytes next behind rest lengths longer longest : List ℕ) (old : Taken) (marked : List ℕ) (middle new : Taken)
    → LaidBefore bytes front next → marked ≡ old.draft ++ mark
    → TakesWithNeeds s (FitsAtWithNeeds s (stored_place optional type)) most next behind (with_text marked old) middle
    → AddsLength compared (length marked) (length middle.draft) lengths longer
    → TakesMore s optional type compared most n behind rest longer longest middle new
    → TakesEach tokens text s optional type compared most (suc n) bytes rest lengths longest old new
element-before tokens text front mark tokens_are texts_are s optional type compared most n bytes next behind rest lengths longer longest old
    marked middle new laid marks h measured more =
    let p = h.takes.parameter in
    let v = h.takes.value in
    let both : map need_view (h.added ++ more.added) ≡ map need_view h.added ++ map need_view more.added =
    map-append need_view h.added more.added in
    record {
      parameters = param p more.parameters;
      values = value v more.values;
      added = h.added ++ more.added;
      needs_are = more.needs_are ∙ (ap (λ (ns : List Need). ns ++ more.added) h.needs_are
          ∙ append_assoc old.needs.items h.added more.added);
      fit = subst (λ (ns : List reference.Need). FitEachWithNeeds s optional type (param p more.parameters) (value v more.values) ns)
          (sym both) (each-next s optional type p v (map need_view h.added) more.parameters more.values (map need_view more.added)
          h.takes.fits more.fit);
      number_is = ap suc more.number_is;
      shallow = let first = h.takes.shallow in let others = more.shallow in omega arith;
      laid = subst (λ (ts : List Token). LaidBefore bytes ts rest) (sym (tokens_are p more.parameters))
          (laid-join bytes next rest front (param_tokens p ++ more_tokens more.parameters) laid
          (laid-join next behind rest (param_tokens p) (more_tokens more.parameters) h.takes.laid more.laid));
      text_is = joined-text old.draft marked middle.draft new.draft mark (value_text s v) (with_commas (value_texts s more.values)) _ marks
          h.takes.text_is more.text_is (texts_are (value_text s v) (value_texts s more.values));
      lengths_are = λ is. joined-lengths marked middle.draft lengths longer longest (value_text s v)
          (lengths_of (value_texts s more.values)) h.takes.text_is (measured is) (more.lengths_are is);
    }
  where
    joined-text : (a b c d mark first others all : List ℕ) → b ≡ a ++ mark → c ≡ b ++ first → d ≡ c ++ others
        → all ≡ mark ++ (first ++ others) → d ≡ a ++ all
    joined-text a b c d mark first others all e f g is = rw (g, f, e, is) (simp append_assoc refl)

    joined-lengths : (marked middle lengths longer longest first others : List ℕ) → middle ≡ marked ++ first
        → longer ≡ lengths ++ (length middle - length marked) ∷ []
        → longest ≡ longer ++ others → longest ≡ lengths ++ length first ∷ others
    joined-lengths marked middle lengths longer longest first others e f g =
        let size : length middle - length marked ≡ length first = omega (arith, ap length e, length-append marked first) in
        g ∙ (ap (λ (x : List ℕ). x ++ others) (f ∙ ap (λ (n : ℕ). lengths ++ n ∷ []) size)
        ∙ append_assoc lengths (length first ∷ []) others)

-- ---- elements so far

-- whatever comes behind the elements so far makes elements with them
abbrev pub Along : Schema → Base → Bool → Bool → ℕ → List ℕ → List ℕ → Taken → ℕ → List ℕ → List ℕ → Taken → Type 0
Along s base optional compared most bytes lengths old number behind longer taken =
    (type : TypeUse) → HasBase s type base → (n : ℕ) (rest longest : List ℕ) (new : Taken)
    → TakesMore s optional type compared most n behind rest longer longest taken new
    → TakesElements s optional type compared most (number + n) bytes rest lengths longest old new

module _ (s : Schema) (base : Base) (optional compared : Bool) (most : ℕ) (bytes lengths : List ℕ) (old : Taken) where
  pub along-first : (inside behind longer : List ℕ) (taken : Taken) → PassesSeparators bytes inside
      → TakesPlaced s optional base most inside behind old taken
      → AddsLength compared (length old.draft) (length taken.draft) lengths longer
      → Along s base optional compared most bytes lengths old 1 behind longer taken
  along-first inside behind longer taken passes takes measured type has n rest longest new more =
      let sum_is : suc n ≡ 1 + n = omega arith in
      subst (λ (k : ℕ). TakesElements s optional type compared most k bytes rest lengths longest old new) sum_is
      (element-before params_tokens with_commas_between [] [] (λ p ps. refl) (λ t ts. refl) s optional type compared most n bytes bytes
      behind rest lengths longer longest old old.draft taken new refl (sym (append-nil old.draft))
      (behind-gap s (FitsAtWithNeeds s (stored_place optional type)) most bytes inside behind old taken passes (takes type has)) measured
      more)

  pub along-next : (number : ℕ) (behind next inside later marked longer more_lengths : List ℕ) (taken more : Taken)
      → Along s base optional compared most bytes lengths old number behind longer taken → PassesDelimiter 44 behind next
      → marked ≡ taken.draft ++ 44 ∷ []
      → PassesSeparators next inside → TakesPlaced s optional base most inside later (with_text marked taken) more
      → AddsLength compared (length marked) (length more.draft) longer more_lengths
      → Along s base optional compared most bytes lengths old (number + 1) later more_lengths more
  along-next number behind next inside later marked longer more_lengths taken more along comma marks passes takes measured type has n rest
      longest new others =
      let sum_is : number + suc n ≡ number + 1 + n = omega arith in
      subst (λ (k : ℕ). TakesElements s optional type compared most k bytes rest lengths longest old new) sum_is
      (along type has (suc n) rest longest new
      (element-before more_tokens with_commas (token.comma ∷ []) (44 ∷ []) (λ p ps. refl) (λ t ts. refl) s optional type compared most n
      behind next later rest longer more_lengths longest taken marked more new
      (laid-next 44 token.comma behind next refl (λ byte. tt) comma) marks
      (behind-gap s (FitsAtWithNeeds s (stored_place optional type)) most next inside later (with_text marked taken) more passes
      (takes type has)) measured others))

  pub along-ends : (number : ℕ) (behind longer : List ℕ) (taken : Taken)
      → Along s base optional compared most bytes lengths old number behind longer taken → (type : TypeUse)
      → HasBase s type base
      → TakesElements s optional type compared most number bytes behind lengths longer old taken
  along-ends number behind longer taken along type has =
      let sum_is : number + 0 ≡ number = omega arith in
      subst (λ (k : ℕ). TakesElements s optional type compared most k bytes behind lengths longer old taken) sum_is
      (along type has 0 behind longer taken (no-more s optional type compared most behind longer taken))

  -- what a refusal leaves
  pub along-text : (number : ℕ) (behind longer : List ℕ) (taken : Taken) → IsBaseInSchema s base
      → Along s base optional compared most bytes lengths old number behind longer taken → Continues old.draft taken.draft
  along-text number behind longer taken (type, known, has) along =
      let h = along-ends number behind longer taken along type has in (with_commas_between (value_texts s h.values), h.text_is)

  pub along-needs : (number : ℕ) (behind longer : List ℕ) (taken : Taken) → IsBaseInSchema s base
      → Along s base optional compared most bytes lengths old number behind longer taken → KeepsNeeds old.needs.items taken.needs.items
  along-needs number behind longer taken (type, known, has) along = let h = along-ends number behind longer taken along type has in
      (h.added, h.needs_are)

-- ---- fewer bytes are left

pub gap-shorter : (bytes inside : List ℕ) → PassesSeparators bytes inside → length inside ≤ length bytes
gap-shorter bytes inside passes = omega (arith, ap length passes.bytes_are, length-append passes.gap inside)

pub mark-shorter : (mark : ℕ) (bytes rest : List ℕ) → PassesDelimiter mark bytes rest → length rest < length bytes
mark-shorter mark bytes rest (gap, e, separates) = omega (arith, ap length e, length-append gap (mark ∷ rest))

-- an element leaves no more
pub element-shorter : (s : Schema) (base : Base) (optional : Bool) (most : ℕ) (bytes inside behind : List ℕ) (old new : Taken)
    → IsBaseInSchema s base
    → PassesSeparators bytes inside → TakesPlaced s optional base most inside behind old new
    → length behind ≤ length bytes
element-shorter s base optional most bytes inside behind old new (type, known, has) passes takes =
    let h = takes type has in omega (
      arith,
      gap-shorter bytes inside passes,
      laid-shorter inside behind (param_tokens h.takes.parameter)
          h.takes.laid,
    )

-- an element behind a comma leaves fewer
pub next-shorter : (s : Schema) (base : Base) (optional : Bool) (most : ℕ) (behind next inside later : List ℕ) (old new : Taken)
    → IsBaseInSchema s base
    → PassesDelimiter 44 behind next → PassesSeparators next inside
    → TakesPlaced s optional base most inside later old new → length later < length behind
next-shorter s base optional most behind next inside later old new known comma passes takes =
    omega (arith, mark-shorter 44 behind next comma, element-shorter s base optional most next inside later old new known passes takes)

-- ---- aggregates

-- the value of an aggregate, with its text
aggregate-fits : (s : Schema) (type : TypeUse) (optional : Bool) (element : TypeUse) (ps : Params) (vs : Values)
    (needs : List reference.Need)
    → element_type type ≡ Some (optional, element) → AllowsCount type (count vs) → FitEachWithNeeds s optional element ps vs needs
    → (IsUnique type → AreDistinct vs)
    → (v : Value) × FitsWithNeeds s type (parameter.list ps) v needs
    × (value_text s v ≡ list_text (arranged_elements type (value_texts s vs)))
aggregate-fits s (schema.array low high may_be unique type) optional element ps vs needs is allowed each differ =
    let (may, same) = some_pair_is may_be optional type element is in
    (meant.array vs, with_array low high may_be unique type ps vs needs (rw (may, same) each) allowed differ, refl)
aggregate-fits s (schema.list low high unique type) optional element ps vs needs is allowed each differ =
    let (may, same) = some_pair_is false optional type element is in
    (meant.list vs, with_list low high unique type ps vs needs (rw (may, same) each) allowed differ, refl)
aggregate-fits s (schema.set low high type) optional element ps vs needs is allowed each differ =
    let (may, same) = some_pair_is false optional type element is in
    (meant.set vs, with_set low high type ps vs needs (rw (may, same) each) allowed (differ tt), refl)
aggregate-fits s (schema.bag low high type) optional element ps vs needs is allowed each differ =
    let (may, same) = some_pair_is false optional type element is in
    (meant.bag vs, with_bag low high type ps vs needs (rw (may, same) each) allowed, refl)
aggregate-fits s other optional element ps vs needs is allowed each differ = cc

-- the elements in parentheses are a list
closed-text : (s : Schema) (old marked middle : List ℕ) (vs : Values) → marked ≡ old ++ 40 ∷ []
    → middle ≡ marked ++ with_commas_between (value_texts s vs)
    → middle ++ 41 ∷ [] ≡ old ++ list_text (value_texts s vs)
closed-text s old marked middle vs opens is = enclosed-text old marked middle (middle ++ 41 ∷ []) (with_commas_between (value_texts s vs))
    opens is refl

closed-behind : (start : ℕ) (old closed : List ℕ) (texts : List (List ℕ)) → start ≡ length old → closed ≡ old ++ list_text texts
    → (drop start closed ≡ list_text texts) × (take start closed ≡ old)
closed-behind start old closed texts at is = rw (at, is) (drop-append_seam old (list_text texts), take-append_seam old (list_text texts))

-- what the elements are, of which the lengths are kept
pub elements-held : (s : Schema) (type : TypeUse) (optional : Bool) (base : Base) (most number start : ℕ)
    (inside behind lengths longer : List ℕ) (old : Taken) (marked : List ℕ) (middle : Taken) → IsBaseInSchema s base
    → start ≡ length old.draft
    → marked ≡ old.draft ++ 40 ∷ [] → lengths ≡ [] → TakesAll s optional base (compares_elements type) most number inside behind lengths
    longer (with_text marked old) middle
    → compares_elements type ≡ true
    → (texts : List (List ℕ)) × HoldsElements (drop start (middle.draft ++ 41 ∷ [])) longer texts
elements-held s type optional base most number start inside behind lengths longer old marked middle (element, known, has) at opens none
    takes compared =
    let h = takes element has in
    let texts = value_texts s h.values in (
      texts,
      (
        (closed-behind start old.draft (middle.draft ++ 41 ∷ []) texts at
            (closed-text s old.draft marked middle.draft h.values opens h.text_is)).0,
        h.lengths_are compared
            ∙ ap (λ (x : List ℕ). x ++ lengths_of texts) none,
      ),
    )

pub unique-compares_elements : (t : TypeUse) → IsUnique t → compares_elements t ≡ true
unique-compares_elements (schema.array low high may_be unique x) u = u
unique-compares_elements (schema.list low high unique x) u = u
unique-compares_elements (schema.set low high x) u = refl
unique-compares_elements other u = absurd u

pub aggregate-taken : (s : Schema) (type : TypeUse) (optional : Bool) (base : Base) (most number start : ℕ)
    (bytes inside behind rest lengths longer : List ℕ) (old : Taken) (marked : List ℕ) (middle : Taken) (new : List ℕ) → HasDistinctTypes s
    → AllowsCount type number → bytes ≡ 40 ∷ inside → start ≡ length old.draft → marked ≡ old.draft ++ 40 ∷ [] → lengths ≡ []
    → TakesAll s optional base (compares_elements type) most number inside behind lengths longer (with_text marked old) middle
    → PassesDelimiter 41 behind rest × ClosesAggregate type start (middle.draft ++ 41 ∷ []) longer new → (element : TypeUse)
    → IsAggregateOf type optional element
    → HasBase s element base
    → TakesWithNeeds s (FitsWithNeeds s type) (most + 1) bytes rest old (with_text new middle)
aggregate-taken s type optional base most number start bytes inside behind rest lengths longer old marked middle new distinct_types allowed
    opening at opens none takes closing element is has =
    let h = takes element has in
    let texts = value_texts s h.values in
    let (drops, takes_) = closed-behind start old.draft (middle.draft ++ 41 ∷ []) texts at
    (closed-text s old.draft marked middle.draft h.values opens h.text_is) in
    let made = closing.1 texts drops (λ compared. h.lengths_are compared ∙ ap (λ (x : List ℕ). x ++ lengths_of texts) none) in
    let differ : IsUnique type → AreDistinct h.values = λ unique.
    elements-distinct s distinct_types element h.parameters h.values (map need_view h.added) inside behind
    (subst (λ (b : Bool). FitEachWithNeeds s b element h.parameters h.values (map need_view h.added))
    (is.1 (unique-compares_elements type unique)) h.fit) h.laid (made.differ unique) in
    let (v, fits, text) = aggregate-fits s type optional element h.parameters h.values (map need_view h.added) is.0
    (subst (AllowsCount type) h.number_is allowed) h.fit differ in
    record {
      added = h.added;
      needs_are = h.needs_are;
      takes = record {
        parameter = parameter.list h.parameters;
        value = v;
        fits = fits;
        shallow = let shallow = h.shallow in omega arith;
        laid = laid-enclosed bytes inside behind rest (params_tokens h.parameters) ([], opening, ([], tt, refl)) h.laid closing.0;
        text_is = made.text_is ∙ (ap (λ (x : List ℕ). x ++ list_text (arranged_elements type texts)) takes_
            ∙ ap (λ (x : List ℕ). old.draft ++ x) (sym text));
      };
    }

pub aggregate-at : (s : Schema) (type : TypeUse) (optional : Bool) (element : TypeUse) (base : Base) (most deep : ℕ) (bytes rest : List ℕ)
    (old new : Taken) → deep ≡ most
    → IsAggregateOf type optional element → HasBase s element base
    → ((other : TypeUse) → IsAggregateOf type optional other → HasBase s other base
    → TakesWithNeeds s (FitsWithNeeds s type) deep bytes rest old new)
    → TakesWithNeeds s (FitsWithNeeds s type) most bytes rest old new
aggregate-at s type optional element base most deep bytes rest old new same is has takes =
    subst (λ (k : ℕ). TakesWithNeeds s (FitsWithNeeds s type) k bytes rest old new) same (takes element is has)

-- elements that are compared where those of the aggregate are
pub compared-as : (s : Schema) (type : TypeUse) (optional compared : Bool) (base : Base) (most number : ℕ)
    (bytes rest lengths longer : List ℕ) (old new : Taken)
    → compared ≡ compares_elements type
    → TakesAll s optional base compared most number bytes rest lengths longer old new
    → TakesAll s optional base (compares_elements type) most number bytes rest lengths longer old new
compared-as s type optional compared base most number bytes rest lengths longer old new is takes element has =
    subst (λ (b : Bool). TakesElements s optional element b most number bytes rest lengths longer old new) is (takes element has)

-- what a refusal behind an element leaves
pub element-refused : (s : Schema) (base : Base) (optional : Bool) (most : ℕ) (bytes rest : List ℕ) (old new : Taken)
    → IsBaseInSchema s base
    → TakesPlaced s optional base most bytes rest old new
    → Continues old.draft new.draft × KeepsNeeds old.needs.items new.needs.items
element-refused s base optional most bytes rest old new (type, known, has) takes =
    let h = takes type has in ((value_text s h.takes.value, h.takes.text_is), (h.added, h.needs_are))

-- what a refusal behind the elements leaves
pub elements-refused : (s : Schema) (optional compared : Bool) (base : Base) (most number : ℕ) (inside behind lengths longer : List ℕ)
    (old : Taken) (marked : List ℕ) (middle : Taken) → IsBaseInSchema s base → marked ≡ old.draft ++ 40 ∷ []
    → TakesAll s optional base compared most number inside behind lengths longer (with_text marked old) middle
    → Continues old.draft middle.draft × KeepsNeeds old.needs.items middle.needs.items
elements-refused s optional compared base most number inside behind lengths longer old marked middle (type, known, has) opens takes =
    let h = takes type has in (
      goes-on old.draft marked middle.draft (with_commas_between (value_texts s h.values)) (40 ∷ [], opens) h.text_is,
      (h.added, h.needs_are),
    )

-- what a refusal of the close leaves
pub close-refused : (start : ℕ) (old middle new : List ℕ) → start ≡ length old → Continues old middle → Continues (take start middle) new
    → Continues old new
close-refused start old middle new at (tail, is) continues =
    subst (λ (x : List ℕ). Continues x new) (rw (at, is) (take-append_seam old tail)) continues

pub start-within : (start : ℕ) (old middle : List ℕ) → start ≡ length old → Continues old middle → start ≤ length middle
start-within start old middle at (tail, is) = omega (arith, at, ap length is, length-append old tail)

-- what the elements are of is of the schema
pub element-known : (s : Schema) (type : TypeUse) (optional : Bool) (element : TypeUse) → IsAggregateOf type optional element
    → IsTypeUse s type → IsTypeUse s element
element-known s (schema.array low high may_be unique type) optional element is known =
    subst (IsTypeUse s) (some_pair_is may_be optional type element is.0).1 known
element-known s (schema.list low high unique type) optional element is known =
    subst (IsTypeUse s) (some_pair_is false optional type element is.0).1 known
element-known s (schema.set low high type) optional element is known =
    subst (IsTypeUse s) (some_pair_is false optional type element is.0).1 known
element-known s (schema.bag low high type) optional element is known =
    subst (IsTypeUse s) (some_pair_is false optional type element is.0).1 known
element-known s other optional element is known = let none = is.0 in cc

pub plain-known : (s : Schema) (base : Base) (b : Bor code.TypeUse) → base ≡ Plain b → IsBaseInSchema s base → HoldsTogether s
    → IsTypeUse s (type_use b.now)
plain-known s base b same (type, known, (last, comes, is)) holds =
    subst (IsTypeUse s) (subst (IsBase s last) same is).0 (comes-is s holds type last comes known)

-- a value at the type that the base is
pub undeclared-at : (s : Schema) (base : Base) (b : Bor code.TypeUse) (most : ℕ) (bytes rest : List ℕ) (old new : Taken) → base ≡ Plain b
    → TakesWithNeeds s (FitsWithNeeds s (type_use b.now)) most bytes rest old new
    → TakesBase s base most bytes rest old new
undeclared-at s base b most bytes rest old new same h type is =
    subst (λ (x : TypeUse). TakesWithNeeds s (FitsWithNeeds s x) most bytes rest old new) (sym (subst (IsBase s type) same is).0) h
