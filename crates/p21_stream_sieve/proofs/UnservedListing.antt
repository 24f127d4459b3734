-- References that no instance serves, as they are gone through.
use Rattle.std.proofs.Common.{◌≡◌, ◌<◌, ◌≤◌, ◌⊎◌, get_or, ℕ, Option, List, [], ◌∷◌, ◌++◌, length, Some, None, inl, inr, refl, sym, ap, subst, ◌∙◌, append_assoc, append-nil, arith}
use Rattle.std.proofs.lemmas.List.Elements.{Contains-append_left, Contains-append_right}
use Rattle.std.specs.BTreeSet.{BTreeSet}
use Rattle.std.proofs.lemmas.Option.{same_Some, slice_get-get_or, slice_get-map, slice_get_read}
use Rattle.std.specs.List.{AllZip, AllByRecursion as Each}
use Rattle.std.specs.Option.{option_map}
use Rattle.std.specs.Prelude.{Contains}
use Rattle.p21_spec_basics.proofs.Members.{Contains-cases, Contains-first, Contains-later, Contains-none, Each-append, Each-of_members, Each-weaker}
use Rattle.p21_spec_laws.specs.Keeping.{Kept}
use Rattle.p21_spec_laws.specs.Waiting.{Reference}
use Rattle.p21_spec_schema.specs.Schema.{Schema}
use Rattle.p21_stream_kept.proofs.Zipping.{AllZip-beside_at}
use Rattle.p21_stream_kept.specs.Inside.{reference_of, references_of}
use Rattle.p21_stream_kept.specs.Judgements.{AnswersNeedOf}
use Rattle.p21_stream_kept.specs.declared.kept.Reference as held
use Rattle.p21_stream_statements.specs.declared.fault.Fault.{Fault}
use Rattle.p21_stream_statements.specs.declared.refusal.Refusal.{Refusal}
use Rattle.p21_stream_sieve.specs.Sifting.{at_instance}
use Rattle.p21_stream_sieve.specs.Unserved.{AddsRefusal, AnswersReference, IsAnswered, IsRefusalOf, ListsUnserved}

-- ---- one reference

pub adds-none : (s : Schema) (kept : Kept) (names : BTreeSet ℕ) (reference : Reference) (old : List Refusal)
    → AnswersReference s kept names reference None → AddsRefusal s kept names reference old old
adds-none s kept names reference old answers = record {
  added = [];
  new_is = sym (append-nil old);
  right = tt;
  answered = elim answers [ inl named ↦ inl named | inr served ↦ inr (inl served) ];
}

pub adds-one : (s : Schema) (kept : Kept) (names : BTreeSet ℕ) (reference : Reference) (old new : List Refusal) (fault : Fault)
    → AnswersReference s kept names reference (Some fault) → new ≡ old ++ at_instance fault reference.0 ∷ []
    → AddsRefusal s kept names reference old new
adds-one s kept names reference old new fault answers is = record {
  added = at_instance fault reference.0 ∷ [];
  new_is = is;
  right = ((fault, answers, refl), tt);
  answered = inr (inr (at_instance fault reference.0, Contains-first (at_instance fault reference.0) [], (fault, answers, refl)));
}

-- what is found for a reference answers it
pub answered-at : (s : Schema) (kept : Kept) (waiting : List held.Reference) (found : List (Option Fault)) (k : ℕ) (x : held.Reference)
    (otherwise : Option Fault) → x ≡ get_or waiting k x → k < length waiting → k < length found
    → AllZip (AnswersNeedOf s kept.stored) (references_of waiting) found
    → AnswersNeedOf s kept.stored (reference_of x) (get_or found k otherwise)
answered-at s kept waiting found k x otherwise is low within all =
    let here = slice_get-map reference_of waiting k ∙ ap (option_map reference_of)
    (slice_get_read waiting (length waiting) k x refl low is) in
    let (own, there, answers) = AllZip-beside_at (AnswersNeedOf s kept.stored) (references_of waiting) found k (reference_of x) all here in
    let same : own ≡ get_or found k otherwise = same_Some own (get_or found k otherwise)
    (sym there ∙ slice_get-get_or found k otherwise within) in
    subst (AnswersNeedOf s kept.stored (reference_of x)) same answers

-- ---- all of them

-- the refusals of those references that are not among the rest are added
pub record AddsSoFar (s : Schema) (kept : Kept) (names : BTreeSet ℕ) (old new : List Refusal) (rest : List Reference) : Type 0 where
  pub added : List Refusal
  pub new_is : new ≡ old ++ added
  pub right : Each (λ (refusal : Refusal). (reference : Reference) × Contains kept.waiting reference
      × IsRefusalOf s kept names reference refusal) added
  pub answered : (reference : Reference) → Contains kept.waiting reference → IsAnswered s kept names added reference
      ⊎ Contains rest reference
  pub waits : (reference : Reference) → Contains rest reference → Contains kept.waiting reference

pub adds-nothing : (s : Schema) (kept : Kept) (names : BTreeSet ℕ) (old : List Refusal) (rest : List Reference) → rest ≡ kept.waiting
    → AddsSoFar s kept names old old rest
adds-nothing s kept names old rest is = record {
  added = [];
  new_is = sym (append-nil old);
  right = tt;
  answered = λ reference among. inr (subst (λ (rs : List Reference). Contains rs reference) (sym is) among);
  waits = λ reference among. subst (λ (rs : List Reference). Contains rs reference) is among;
}

-- what is answered stays answered
still-answered : (s : Schema) (kept : Kept) (names : BTreeSet ℕ) (added more : List Refusal) (reference : Reference)
    → IsAnswered s kept names added reference → IsAnswered s kept names (added ++ more) reference
still-answered s kept names added more reference (inl named) = inl named
still-answered s kept names added more reference (inr (inl served)) = inr (inl served)
still-answered s kept names added more reference (inr (inr (refusal, among, of))) =
    inr (inr (refusal, Contains-append_left added more refusal among, of))

newly-answered : (s : Schema) (kept : Kept) (names : BTreeSet ℕ) (added more : List Refusal) (reference : Reference)
    → IsAnswered s kept names more reference → IsAnswered s kept names (added ++ more) reference
newly-answered s kept names added more reference (inl named) = inl named
newly-answered s kept names added more reference (inr (inl served)) = inr (inl served)
newly-answered s kept names added more reference (inr (inr (refusal, among, of))) =
    inr (inr (refusal, Contains-append_right added more refusal among, of))

pub adds-next : (s : Schema) (kept : Kept) (names : BTreeSet ℕ) (old now new : List Refusal) (reference : Reference) (rest : List Reference)
    → AddsSoFar s kept names old now (reference ∷ rest) → AddsRefusal s kept names reference now new → AddsSoFar s kept names old new rest
adds-next s kept names old now new reference rest so_far one =
    let Right : Refusal → Type 0 = λ refusal. (r : Reference) × Contains kept.waiting r × IsRefusalOf s kept names r refusal in
    record {
      added = so_far.added ++ one.added;
      new_is = one.new_is ∙ ap (λ (rs : List Refusal). rs ++ one.added) so_far.new_is ∙ append_assoc old so_far.added one.added;
      right = Each-append Right so_far.added one.added so_far.right
          (Each-weaker (IsRefusalOf s kept names reference) Right
          (λ refusal of. (reference, so_far.waits reference (Contains-first reference rest), of)) one.added one.right);
      answered = λ r among. elim (so_far.answered r among) [
        | inl answered ↦ inl (still-answered s kept names so_far.added one.added r answered)
        | inr later ↦ elim (Contains-cases reference rest r later) [
          | inl same ↦ inl (subst (λ (x : Reference). IsAnswered s kept names (so_far.added ++ one.added) x) same
              (newly-answered s kept names so_far.added one.added reference one.answered))
          | inr behind ↦ inr behind
        ]
      ];
      waits = λ r among. so_far.waits r (Contains-later reference rest r among);
    }

-- so many are listed
pub lists-most : (s : Schema) (kept : Kept) (names : BTreeSet ℕ) (most : ℕ) (old now : List Refusal) (rest : List Reference)
    → AddsSoFar s kept names old now rest → most ≤ length now → ListsUnserved s kept names most old now
lists-most s kept names most old now rest so_far enough =
    record { added = so_far.added; new_is = so_far.new_is; right = so_far.right; all = λ fewer. absurd (omega (arith, enough, fewer)) }

-- none is left
pub lists-all : (s : Schema) (kept : Kept) (names : BTreeSet ℕ) (most : ℕ) (old now : List Refusal) → AddsSoFar s kept names old now []
    → ListsUnserved s kept names most old now
lists-all s kept names most old now so_far = record {
  added = so_far.added;
  new_is = so_far.new_is;
  right = so_far.right;
  all = λ fewer. Each-of_members (IsAnswered s kept names so_far.added) kept.waiting
      (λ r among. elim (so_far.answered r among) [ inl answered ↦ answered | inr left ↦ absurd (Contains-none r left) ]);
}
