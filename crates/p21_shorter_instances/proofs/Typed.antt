-- Values that are taken with what stands around them.
use Rattle.std.proofs.Common.{◌≡◌, ◌∙◌, ℕ, suc, ◌≤◌, List, [], ◌∷◌, ◌++◌, length, drop, codes, refl, ap, sym, subst, arith, append_assoc}
use Rattle.p21_spec_laws.proofs.CanonicalValue.{named-is}
use Rattle.p21_spec_laws.specs.Needs.{FitsWithNeeds, with_chosen_type}
use Rattle.p21_spec_exchange.specs.Parameter as parameter
use Rattle.p21_spec_exchange.specs.Parameter.{Param, key_of, param_tokens}
use Rattle.p21_spec_exchange.specs.Token as token
use Rattle.p21_schema.specs.Base.{HasBase}
use Rattle.p21_schema.specs.declared.base.Base.{Base}
use Rattle.p21_spec_file.specs.Reference as reference
use Rattle.p21_spec_file.specs.Value as meant
use Rattle.p21_spec_file.specs.Value.{Value}
use Rattle.p21_spec_file.specs.ValueText.{value_text}
use Rattle.p21_spec_schema.specs.Schema as schema
use Rattle.p21_spec_schema.specs.Schema.{Schema, TypeNamed, TypeUse, type_member}
use Rattle.p21_spec_schema.specs.Select.{Offers}
use Rattle.p21_shorter_tokens.proofs.Parts.{goes-on}
use Rattle.p21_shorter_tokens.specs.Gaps.{PassesSeparators}
use Rattle.p21_shorter_tokens.specs.LeadingToken.{AppendsToken}
use Rattle.p21_shorter_instances.proofs.Laid.{laid-enclosed, laid-join, laid-one, param-behind}
use Rattle.p21_shorter_instances.proofs.Values.{comes-fits}
use Rattle.p21_shorter_instances.specs.declared.taken.Taken.{Taken}
use Rattle.p21_shorter_instances.specs.TakenValues.{IsBaseInSchema, KeepsNeeds, LaidBefore, PassesDelimiter, TakesBase, TakesEnclosed, TakesEnclosedBase, TakesKeyword, TakesWithNeeds, with_text}
use Rattle.p21_values.specs.Canonical.{Continues}

-- ---- what a refusal leaves

-- ---- separators before a value, and parentheses around it

pub behind-gap : (s : Schema) (F : Param → Value → List reference.Need → Type 0) (most : ℕ) (bytes middle rest : List ℕ) (old new : Taken)
    → PassesSeparators bytes middle
    → TakesWithNeeds s F most middle rest old new → TakesWithNeeds s F most bytes rest old new
behind-gap s F most bytes middle rest old new passes h = record {
  added = h.added;
  needs_are = h.needs_are;
  takes = record {
    parameter = h.takes.parameter;
    value = h.takes.value;
    fits = h.takes.fits;
    shallow = h.takes.shallow;
    laid = param-behind bytes middle rest h.takes.parameter passes h.takes.laid;
    text_is = h.takes.text_is;
  };
}

pub enclosed-text : (old opened middle new text : List ℕ) → opened ≡ old ++ 40 ∷ [] → middle ≡ opened ++ text → new ≡ middle ++ 41 ∷ []
    → new ≡ old ++ (codes "(" ++ (text ++ codes ")"))
enclosed-text old opened middle new text opens is ends = rw (ends, is, opens) (simp append_assoc refl)

pub enclosed-taken : (s : Schema) (base : Base) (most : ℕ) (bytes opened inside behind rest : List ℕ) (old : Taken) (marked : List ℕ)
    (middle : Taken) (new : List ℕ)
    → PassesDelimiter 40 bytes opened → marked ≡ old.draft ++ 40 ∷ [] → PassesSeparators opened inside
    → TakesBase s base most inside behind (with_text marked old) middle → PassesDelimiter 41 behind rest × (new ≡ middle.draft ++ 41 ∷ [])
    → TakesEnclosedBase s base most bytes rest old (with_text new middle)
enclosed-taken s base most bytes opened inside behind rest old marked middle new opening opens passes takes closing type (last, comes, is) =
    let h = behind-gap s (FitsWithNeeds s last) most opened inside behind (with_text marked old) middle passes (takes last is) in
    record {
      parameter = h.takes.parameter;
      value = h.takes.value;
      added = h.added;
      needs_are = h.needs_are;
      fits = comes-fits s type last h.takes.parameter h.takes.value _ comes h.takes.fits;
      shallow = h.takes.shallow;
      laid = laid-enclosed bytes opened behind rest (param_tokens h.takes.parameter) opening h.takes.laid closing.0;
      text_is = enclosed-text old.draft marked middle.draft new (value_text s h.takes.value) opens h.takes.text_is closing.1;
    }

-- what a refusal behind the value leaves
pub enclosed-refused : (s : Schema) (base : Base) (most : ℕ) (inside behind : List ℕ) (old : Taken) (marked : List ℕ) (middle : Taken)
    → IsBaseInSchema s base
    → marked ≡ old.draft ++ 40 ∷ []
    → TakesBase s base most inside behind (with_text marked old) middle
    → Continues old.draft middle.draft × KeepsNeeds old.needs.items middle.needs.items
enclosed-refused s base most inside behind old marked middle (type, known, (last, comes, is)) opens takes =
    let h = takes last is in
    (goes-on old.draft marked middle.draft (value_text s h.takes.value) (40 ∷ [], opens) h.takes.text_is, (h.added, h.needs_are))

-- ---- typed parameters

pub keyword-taken : (s : Schema) (t u : ℕ) (word bytes rest old new : List ℕ) → rest ≡ drop (length word) bytes
    → AppendsToken bytes (length word) (token.keyword word) old new
    → Offers s t (type_member u) → TypeNamed s u word → TakesKeyword s t u bytes rest old new
keyword-taken s t u word bytes rest old new e h offers named = record {
  word = word;
  offers = offers;
  named = named;
  laid = subst (LaidBefore bytes (token.keyword word ∷ [])) (sym e) (laid-one bytes (length word) (token.keyword word) h.stands);
  text_is = h.appended;
}

typed-as : (s : Schema) (t u less most : ℕ) (bytes behind rest : List ℕ) (old : Taken) (middle : List ℕ) (new : Taken) → suc less ≤ most
    → TakesKeyword s t u bytes behind old.draft middle
    → TakesEnclosed s (FitsWithNeeds s (schema.defined u)) less behind rest (with_text middle old) new
    → TakesWithNeeds s (FitsWithNeeds s (schema.defined t)) most bytes rest old new
typed-as s t u less most bytes behind rest old middle new room key h = record {
  added = h.added;
  needs_are = h.needs_are;
  takes = record {
    parameter = parameter.typed (key_of key.word) h.parameter;
    value = meant.typed u h.value;
    fits = with_chosen_type t u key.word h.parameter h.value _ key.offers key.named h.fits;
    shallow = let shallow = h.shallow in omega arith;
    laid = laid-join bytes behind rest (token.keyword key.word ∷ []) (token.left ∷ (param_tokens h.parameter ++ (token.right ∷ [])))
        key.laid h.laid;
    text_is =
        let E = codes "(" ++ (value_text s h.value ++ codes ")") in
        h.text_is ∙ (ap (λ (x : List ℕ). x ++ E) key.text_is
        ∙ (append_assoc old.draft key.word E ∙ ap (λ (x : List ℕ). old.draft ++ (x ++ E)) (sym (named-is s u key.word key.named))));
  };
}

pub typed-taken : (s : Schema) (t u less most : ℕ) (base : Base) (bytes behind rest : List ℕ) (old : Taken) (middle : List ℕ) (new : Taken)
    → suc less ≤ most
    → TakesKeyword s t u bytes behind old.draft middle → HasBase s (schema.defined u) base
    → TakesEnclosedBase s base less behind rest (with_text middle old) new
    → TakesWithNeeds s (FitsWithNeeds s (schema.defined t)) most bytes rest old new
typed-taken s t u less most base bytes behind rest old middle new room key has takes =
    typed-as s t u less most bytes behind rest old middle new room key (takes (schema.defined u) has)
