-- Reals that are taken one behind the other.
use Rattle.std.proofs.Common.{◌≡◌, ◌∙◌, ◌<◌, ℕ, ◌+◌, ◌-◌, Bool, false, List, [], ◌∷◌, ◌++◌, append_assoc, drop, get_or, length, length-append, length-drop, slice_index, take, refl, ap, sym, subst, Option, Some, None, IfNone, IfSome, ◌⊎◌, inl, inr, arith}
use Rattle.std.proofs.lemmas.List.{get_or-drop, take-append-drop}
use Rattle.p21_spec_laws.specs.Needs.{FitsAtWithNeeds, FitsWithNeeds, with_fit}
use Rattle.p21_spec_exchange.specs.Spelling.{spelling}
use Rattle.p21_spec_exchange.specs.Token as token
use Rattle.p21_schema.specs.Base.{HasBase, IsBase}
use Rattle.p21_spec_file.specs.ParameterKind.{AllowsCount}
use Rattle.p21_spec_file.specs.ValueText.{list_text}
use Rattle.p21_schema.specs.declared.base.Base.{Base}
use Rattle.p21_schema.specs.declared.base.Base.TheVariants.{Items, Plain, Select}
use Rattle.p21_express_graph.specs.Meaning.{type_use}
use Rattle.p21_express_graph.specs.declared.type_use.TypeUse as code
use Rattle.p21_spec_schema.specs.PlaceType.{PlaceType, stored_place}
use Rattle.p21_spec_schema.specs.Schema as schema
use Rattle.p21_spec_schema.specs.Schema.{Schema, TypeUse}
use Rattle.p21_spec_schema.specs.WellFormed.{HasDistinctTypes}
use Rattle.p21_shorter_tokens.proofs.Gaps.{token-first}
use Rattle.p21_shorter_tokens.specs.Gaps.{PassesSeparators}
use Rattle.p21_shorter_tokens.specs.LeadingToken.{IsLeadingToken}
use Rattle.p21_shorter_tokens.proofs.Parts.{goes-on}
use Rattle.p21_shorter_tokens.proofs.Splits.{behind-count}
use Rattle.p21_shorter_tokens.specs.Numbers.{AppendsMarkedReal, AppendsNumberToken, a_real, a_whole}
use Rattle.p21_shorter_instances.proofs.Elements.{Along, aggregate-taken, along-ends, along-first, along-next, compared-as, no-elements, unique-compares_elements}
use Rattle.p21_shorter_instances.proofs.Values.{comes-fits, fits-as, needs-nothing, no-deeper, rest-taken, scalar-value, stored-taken, taken-front}
use Rattle.p21_shorter_instances.specs.ArrangedElements.{ClosesAggregate, arranged_elements, compares_elements}
use Rattle.p21_shorter_instances.specs.Elements.{IsAggregateOf}
use Rattle.p21_shorter_instances.proofs.Scalars.{real-taken}
use Rattle.p21_shorter_instances.specs.Reals.{IsRealBase, TakesMark, TakesMarkedReal, TakesReal, TakesRealAggregate, TakesReals}
use Rattle.p21_shorter_instances.specs.Steps.{IsStepFor, IsStepForSome}
use Rattle.p21_shorter_instances.specs.TakenParameters.{TakesStep}
use Rattle.p21_shorter_instances.specs.declared.step.Step.{Step}
use Rattle.p21_shorter_instances.specs.declared.step.Step.TheVariants.{Reals}
use Rattle.p21_shorter_instances.specs.declared.taken.Taken.{Taken}
use Rattle.p21_shorter_instances.specs.TakenValues.{PassesDelimiter, TakesFront, TakesScalar, TakesWithNeeds, with_text}
use Rattle.p21_values.specs.Canonical.{Continues}

-- ---- one real

number-continues : (wholes : Bool) (bytes : List ℕ) (count : ℕ) (old new : List ℕ) → AppendsNumberToken wholes bytes count old new
    → Continues old new
number-continues wholes bytes count old new (a_real d h) = (spelling (token.real d), h.appended)
number-continues wholes bytes count old new (a_whole z d _ _ _ _ _ text) = (spelling (token.real d), text)

pub real-continues : (found : Option ℕ) (bytes old new : List ℕ) → IfSome found (λ count. AppendsNumberToken false bytes count old new)
    → IfNone found (Continues old new)
    → Continues old new
real-continues None bytes old new some none = none
real-continues (Some count) bytes old new some none = number-continues false bytes count old new some

-- a token is no separator
pub first-passed : (bytes front : List ℕ) (count : ℕ) (one : token.Token) → IsLeadingToken front count one → (front ≡ bytes)
    ⊎ PassesSeparators bytes front → PassesSeparators bytes front
first-passed bytes front count one stands (inl same) =
    subst (λ (x : List ℕ). PassesSeparators x front) same (token-first front count one stands)
first-passed bytes front count one stands (inr passes) = passes

pub real-at : (bytes rest : List ℕ) (count : ℕ) (old new : List ℕ) → rest ≡ drop count bytes → TakesScalar schema.real bytes count old new
    → TakesReal bytes rest old new
real-at bytes rest count old new e h s base most taken is type has =
    stored-taken s false base most bytes rest old (with_text old taken) (with_text new taken) refl (λ last found. at base is last found)
    type has
  where
    at : (found : Base) → IsRealBase found → (last : TypeUse) → IsBase s last found
        → TakesWithNeeds s (FitsWithNeeds s last) most bytes rest (with_text old taken) (with_text new taken)
    at (Plain b) real last same =
        subst (λ (t : TypeUse). TakesWithNeeds s (FitsWithNeeds s t) most bytes rest (with_text old taken) (with_text new taken))
        (sym (same.0 ∙ ap type_use real))
        (no-deeper s (FitsWithNeeds s schema.real) most bytes rest (with_text old taken) (with_text new taken)
        (needs-nothing s (FitsWithNeeds s schema.real) 0 bytes rest (with_text old taken) new
        (scalar-value s schema.real bytes rest count old new e h)))
    at (Items words) real last same = absurd real
    at (Select t) real last same = absurd real

-- ---- one real with the `,` or `)` behind it

pub marked-continues : (bytes : List ℕ) (count : ℕ) (old new : List ℕ) → AppendsMarkedReal bytes count old new → Continues old new
marked-continues bytes count old new m =
    goes-on old m.between new (m.mark ∷ []) (number-continues false bytes m.size old m.between (m.real false)) m.appended

-- what a byte ends with the bytes before it
ended-by : (bytes front rest : List ℕ) (mark : ℕ) → bytes ≡ front ++ mark ∷ rest
    → (drop (length bytes - length rest) bytes ≡ rest) × (slice_index bytes (length bytes - length rest - 1) ≡ mark)
    × (0 < length bytes - length rest)
ended-by bytes front rest mark e =
    let size = ap length e ∙ length-append front (mark ∷ rest) in
    let before = length bytes - length (mark ∷ rest) in
    let last : length bytes - length rest - 1 ≡ before + 0 = omega arith in (
      behind-count bytes (front ++ mark ∷ []) rest (e ∙ sym (append_assoc front (mark ∷ []) rest)),
      ap (λ (n : ℕ). get_or bytes n 0) last ∙ sym (get_or-drop before bytes 0 0)
          ∙ ap (λ (l : List ℕ). get_or l 0 0) (behind-count bytes front (mark ∷ rest) e),
      omega arith,
    )

-- by what is taken of it
pub marked-real : (bytes inside : List ℕ) (size : ℕ) (rest old between new : List ℕ) → PassesSeparators bytes inside
    → TakesReal inside (drop size inside) old between → TakesMark (drop size inside) rest between new
    → TakesMarkedReal bytes (length bytes - length rest) old new
marked-real bytes inside size rest old between new passes real takes =
    let gap = takes.passes.0 in
    let front = passes.gap ++ (take size inside ++ gap) in
    let parts : bytes ≡ front ++ takes.mark ∷ rest =
    passes.bytes_are ∙ ap (λ (l : List ℕ). passes.gap ++ l) (sym (take-append-drop size inside)
    ∙ ap (λ (l : List ℕ). take size inside ++ l) takes.passes.1 ∙ sym (append_assoc (take size inside) gap (takes.mark ∷ rest)))
    ∙ sym (append_assoc passes.gap (take size inside ++ gap) (takes.mark ∷ rest)) in
    let ended = ended-by bytes front rest takes.mark parts in
    record {
      inside = inside;
      behind = drop size inside;
      rest = rest;
      between = between;
      passes = passes;
      real = real;
      takes = takes;
      some = ended.2;
      within = omega arith;
      rest_is = ended.0;
      last = ended.1;
    }

-- where the byte stands right behind it
pub marked-plain : (bytes front : List ℕ) (count : ℕ) (old new : List ℕ) → (front ≡ bytes) ⊎ PassesSeparators bytes front
    → AppendsMarkedReal front count old new → TakesMarkedReal bytes (length bytes - length front + count) old new
marked-plain bytes front count old new passed m =
    let takes = real-taken front m.size old m.between (m.real false) in
    let passes = first-passed bytes front m.size takes.token takes.stands passed in
    let rest = drop count front in
    let within = takes.stands.within in
    let more = ap length m.marks in
    let total : length bytes - length rest ≡ length bytes - length front + count =
    omega (
      arith,
      within,
      more,
      length-drop m.size front,
      length-drop count front,
      ap length passes.bytes_are,
      length-append passes.gap front,
      m.ends,
    ) in
    subst (λ (n : ℕ). TakesMarkedReal bytes n old new) total
    (marked-real bytes front m.size rest old m.between new passes
    (real-at front (drop m.size front) m.size old m.between refl takes)
    (record { mark = m.mark; is_mark = m.is_mark; passes = ([], m.marks, ([], tt, refl)); appended = m.appended }))

-- the byte behind it, where it isn't `)`, and where it is
comma-by : (mark : ℕ) (behind rest old new : List ℕ) → (mark ≡ 44) ⊎ (mark ≡ 41) → (mark ≡ 41 → ⊥) → PassesDelimiter mark behind rest
    → new ≡ old ++ mark ∷ [] → PassesDelimiter 44 behind rest × (new ≡ old ++ 44 ∷ [])
comma-by mark behind rest old new (inl is) other passes appended =
    (subst (λ (m : ℕ). PassesDelimiter m behind rest) is passes, appended ∙ ap (λ (m : ℕ). old ++ m ∷ []) is)
comma-by mark behind rest old new (inr is) other passes appended = absurd (other is)

pub comma-taken : (behind rest old new : List ℕ) (t : TakesMark behind rest old new) → (t.mark ≡ 41 → ⊥)
    → PassesDelimiter 44 behind rest × (new ≡ old ++ 44 ∷ [])
comma-taken behind rest old new t other = comma-by t.mark behind rest old new t.is_mark other t.passes t.appended

pub closing-taken : (behind rest old new : List ℕ) (t : TakesMark behind rest old new) → t.mark ≡ 41
    → PassesDelimiter 41 behind rest × (new ≡ old ++ 41 ∷ [])
closing-taken behind rest old new t is =
    (subst (λ (m : ℕ). PassesDelimiter m behind rest) is t.passes, t.appended ∙ ap (λ (m : ℕ). old ++ m ∷ []) is)

-- ---- reals so far

-- whatever reals come behind those so far make reals with them
abbrev pub AlongReals : List ℕ → List ℕ → ℕ → List ℕ → List ℕ → Type 0
AlongReals bytes old number behind text =
    (s : Schema) (base : Base) (most : ℕ) (lengths : List ℕ) (taken : Taken) → IsRealBase base
    → Along s base false false most bytes lengths (with_text old taken) number behind lengths (with_text text taken)

pub no-reals : (bytes old : List ℕ) → TakesReals 0 bytes bytes old old
no-reals bytes old s base most lengths taken is type has = no-elements s false type false most bytes lengths (with_text old taken)

pub reals-first : (bytes inside behind old text : List ℕ) → PassesSeparators bytes inside → TakesReal inside behind old text
    → AlongReals bytes old 1 behind text
reals-first bytes inside behind old text passes takes s base most lengths taken is =
    along-first s base false false most bytes lengths (with_text old taken) inside behind lengths (with_text text taken) passes
    (takes s base most taken is) (λ e. absurd cc)

-- whatever real comes there makes one more of them
abbrev pub AheadOfReal : List ℕ → List ℕ → ℕ → List ℕ → List ℕ → Type 0
AheadOfReal bytes old number front text =
    (inside behind more : List ℕ) → PassesSeparators front inside → TakesReal inside behind text more
    → AlongReals bytes old (number + 1) behind more

pub reals-ahead : (bytes old : List ℕ) → AheadOfReal bytes old 0 bytes old
reals-ahead bytes old inside behind more passes takes = reals-first bytes inside behind old more passes takes

pub reals-next : (bytes old : List ℕ) (number : ℕ) (behind next text marked : List ℕ) → AlongReals bytes old number behind text
    → PassesDelimiter 44 behind next → marked ≡ text ++ 44 ∷ []
    → AheadOfReal bytes old number next marked
reals-next bytes old number behind next text marked so_far comma marks inside later more passes takes s base most lengths taken is =
    along-next s base false false most bytes lengths (with_text old taken) number behind next inside later marked lengths lengths
    (with_text text taken) (with_text more taken) (so_far s base most lengths taken is) comma marks passes
    (takes s base most taken is) (λ e. absurd cc)

pub reals-end : (bytes old : List ℕ) (number : ℕ) (behind text : List ℕ) → AlongReals bytes old number behind text
    → TakesReals number bytes behind old text
reals-end bytes old number behind text so_far s base most lengths taken is type has =
    along-ends s base false false most bytes lengths (with_text old taken) number behind lengths (with_text text taken)
    (so_far s base most lengths taken is) type has

-- ---- an aggregate of reals

-- elements that aren't compared stay as they are
as-they-are : (type : TypeUse) → compares_elements type ≡ false → (texts : List (List ℕ)) → arranged_elements type texts ≡ texts
as-they-are schema.whole plain texts = refl
as-they-are schema.real plain texts = refl
as-they-are schema.number plain texts = refl
as-they-are schema.boolean plain texts = refl
as-they-are schema.logical plain texts = refl
as-they-are (schema.text width) plain texts = refl
as-they-are (schema.bits width) plain texts = refl
as-they-are (schema.entity e) plain texts = refl
as-they-are (schema.defined t) plain texts = refl
as-they-are (schema.array low high optional unique type) plain texts = refl
as-they-are (schema.list low high unique type) plain texts = refl
as-they-are (schema.set low high type) plain texts = cc
as-they-are (schema.bag low high type) plain texts = cc

closes-as_is : (type : TypeUse) (start : ℕ) (closed : List ℕ) → compares_elements type ≡ false → ClosesAggregate type start closed [] closed
closes-as_is type start closed plain texts is long = record {
  text_is = sym (take-append-drop start closed) ∙ ap (λ (x : List ℕ). take start closed ++ x)
      (is ∙ ap list_text (sym (as-they-are type plain texts)));
  differ = λ unique. (let compares = unique-compares_elements type unique in cc);
}

pub reals-enclosed : (type : TypeUse) (number : ℕ) (bytes inside behind rest old marked middle new : List ℕ)
    → compares_elements type ≡ false → AllowsCount type number → bytes ≡ 40 ∷ inside → marked ≡ old ++ 40 ∷ []
    → TakesReals number inside behind marked middle → PassesDelimiter 41 behind rest → new ≡ middle ++ 41 ∷ []
    → TakesRealAggregate type bytes (length bytes - length rest) old new
reals-enclosed type number bytes inside behind rest old marked middle new plain allowed opening opens takes closing closes s element base
    most taken distinct is has real =
    taken-front s (FitsWithNeeds s type) (most + 1) bytes rest (with_text old taken) (with_text new taken)
    (aggregate-taken s type false base most number (length old) bytes inside behind rest [] [] (with_text old taken) marked
    (with_text middle taken) new distinct allowed opening refl opens refl
    (compared-as s type false false base most number inside behind [] [] (with_text marked taken) (with_text middle taken) (sym plain)
    (takes s base most [] taken real)) (
      closing,
      subst (λ (l : List ℕ). ClosesAggregate type (length old) (middle ++ 41 ∷ []) [] l) (sym closes)
          (closes-as_is type (length old) (middle ++ 41 ∷ []) plain),
    ) element is has)

-- at a place of an aggregate whose elements may not be left out
pub reals-at : (s : Schema) (type element : TypeUse) (base : Base) (optional : Bool) (most : ℕ) (bytes : List ℕ) (count : ℕ) (taken : Taken)
    (new : List ℕ) → HasDistinctTypes s → IsAggregateOf type optional element → HasBase s element base
    → optional ≡ false → IsRealBase base → 0 < most → TakesRealAggregate type bytes count taken.draft new
    → TakesFront s (FitsWithNeeds s type) most bytes count taken (with_text new taken)
reals-at s type element base optional most bytes count taken new distinct is has full real deep takes =
    let same : most - 1 + 1 ≡ most = omega (arith, deep) in
    subst (λ (k : ℕ). TakesFront s (FitsWithNeeds s type) k bytes count taken (with_text new taken)) same
    (takes s element base (most - 1) taken distinct (subst (λ (b : Bool). IsAggregateOf type b element) full is) has real)

-- ---- where a step says that there are reals

pub reals-known : (s : Schema) (step : Step) (of : code.TypeUse) → step ≡ Reals of → IsStepForSome s step
    → compares_elements (type_use of) ≡ false
reals-known s step of is (at, says) = (subst (IsStepFor s at) is says).1.0

-- by so many bytes
pub reals-front : (s : Schema) → HasDistinctTypes s → (step : Step) (of : code.TypeUse) (bytes : List ℕ) (count : ℕ) (old : Taken)
    (new : List ℕ) → step ≡ Reals of → IsStepForSome s step → TakesRealAggregate (type_use of) bytes count old.draft new
    → TakesFront s (FitsWithNeeds s (type_use of)) 64 bytes count old (with_text new old)
reals-front s distinct step of bytes count old new is (at, says) takes =
    let (stored, are) = subst (IsStepFor s at) is says in
    let (compares, element, base, aggregate, has, real) = are in
    reals-at s (type_use of) element base false 64 bytes count old new distinct aggregate has refl real (omega arith) takes

pub reals-taken : (s : Schema) → HasDistinctTypes s → (step : Step) (of : code.TypeUse) (bytes : List ℕ) (count : ℕ) (rest : List ℕ)
    (old : Taken) (new : List ℕ) → step ≡ Reals of → rest ≡ drop count bytes
    → TakesRealAggregate (type_use of) bytes count old.draft new → TakesStep s step bytes rest old (with_text new old)
reals-taken s distinct step of bytes count rest old new is e takes at says =
    let (stored, are) = subst (IsStepFor s at) is says in
    let (type, at_is, known, comes) = stored in
    let front = reals-front s distinct step of bytes count old new is (at, says) takes in
    subst (λ (x : PlaceType). TakesWithNeeds s (FitsAtWithNeeds s x) 64 bytes rest old (with_text new old)) (sym at_is)
    (fits-as s (FitsWithNeeds s (type_use of)) (FitsAtWithNeeds s (stored_place false type)) 64 64 bytes rest old (with_text new old)
    (omega arith) (λ p v needs fits. with_fit false type p v needs (comes-fits s type (type_use of) p v needs comes fits))
    (rest-taken s (FitsWithNeeds s (type_use of)) 64 bytes rest count old (with_text new old) e front.1))
