-- References that no instance serves, as they are gone through.
use Rattle.std.proofs.Common.{Bool, true, false, ◌<◌, get_or, Option, ◌≡◌, ◌≤◌, ◌⊎◌, ℕ, List, [], ◌∷◌, ◌++◌, length, inl, inr, refl, sym}
use Rattle.std.proofs.Common.{ap, subst, ◌∙◌, append_assoc, append-nil, arith}
use Rattle.std.proofs.lemmas.Option.{same_Some, slice_get-get_or, slice_get-map, slice_get_read}
use Rattle.std.specs.Option.{option_map}
use Rattle.std.proofs.lemmas.List.Elements.{Contains-append_left, Contains-append_right}
use Rattle.std.specs.List.{AllZip, AllByRecursion as Each}
use Rattle.std.specs.BTreeSet.{contains}
use Rattle.std.specs.Ordering.{nat_cmp}
use Rattle.std.specs.Prelude.{Contains}
use Rattle.p21_spec_basics.proofs.Members.{Contains-cases, Contains-first, Contains-later, Contains-none, Each-append, Each-of_members}
use Rattle.p21_spec_basics.proofs.Members.{Each-weaker}
use Rattle.p21_spec_laws.specs.Keeping.{IsServedBy}
use Rattle.p21_spec_laws.specs.Stored.{StoredEntry}
use Rattle.p21_spec_laws.specs.Waiting.{Reference}
use Rattle.p21_spec_schema.specs.Schema.{Schema}
use Rattle.p21_stream_kept.proofs.Zipping.{AllZip-beside_at}
use Rattle.p21_stream_kept.specs.Inside.{reference_of, references_of}
use Rattle.p21_stream_kept.specs.Judgements.{AnswersNeedOf}
use Rattle.p21_stream_kept.specs.declared.kept.Reference as held
use Rattle.p21_stream_kept.specs.Served.{RefusesNeed}
use Rattle.p21_stream_sieve.specs.Sifting.{at_instance}
use Rattle.p21_stream_statements.specs.declared.fault.Fault.{Fault}
use Rattle.p21_stream_statements.specs.declared.refusal.Refusal.{Refusal}
use Rattle.p21_stream_survey.specs.Telling.{AddsRefusal, IsAnswered, IsRefusalOf, IsSilent, IsTold, ListsReferences, Silence}

-- what is found for a reference answers it
pub answered-at : (s : Schema) (stored : List StoredEntry) (waiting : List held.Reference) (found : List (Option Fault)) (k : ℕ)
    (x : held.Reference) (otherwise : Option Fault) → x ≡ get_or waiting k x → k < length waiting → k < length found
    → AllZip (AnswersNeedOf s stored) (references_of waiting) found → AnswersNeedOf s stored (reference_of x) (get_or found k otherwise)
answered-at s stored waiting found k x otherwise is low within all =
    let here = slice_get-map reference_of waiting k ∙ ap (option_map reference_of)
    (slice_get_read waiting (length waiting) k x refl low is) in
    let (own, there, answers) = AllZip-beside_at (AnswersNeedOf s stored) (references_of waiting) found k (reference_of x) all here in
    let same : own ≡ get_or found k otherwise = same_Some own (get_or found k otherwise)
    (sym there ∙ slice_get-get_or found k otherwise within) in
    subst (AnswersNeedOf s stored (reference_of x)) same answers

pub untrue : (b : Bool) → (b ≡ true → ⊥) → b ≡ false
untrue true none = absurd (none refl)
untrue false none = refl

-- where nothing says that it isn't told, it is
pub told-of : (s : Schema) (stored : List StoredEntry) (silence : Silence) (reference : Reference) (fault : Fault)
    → RefusesNeed s stored reference.1 fault → (IsSilent silence reference.1.target fault → ⊥) → IsTold s stored silence reference fault
told-of s stored silence reference fault refused none = record {
  refused = refused;
  judged = untrue (contains nat_cmp silence.names reference.1.target) (λ has. none (inl has));
  first = untrue (contains nat_cmp silence.passed reference.1.target) (λ has. none (inr (inl has)));
  whole = λ is. untrue silence.is_broken (λ yes. none (inr (inr (is, yes))));
}

module _ (s : Schema) (stored : List StoredEntry) (silence : Silence) where
  -- ---- one reference

  none-added : (reference : Reference) (old : List Refusal) → IsAnswered s stored silence [] reference
      → AddsRefusal s stored silence reference old old
  none-added reference old answered = record { added = []; new_is = sym (append-nil old); right = tt; answered = answered }

  pub adds-served : (reference : Reference) (old : List Refusal) → IsServedBy s stored reference.1
      → AddsRefusal s stored silence reference old old
  adds-served reference old served = none-added reference old (inl served)

  pub adds-silent : (reference : Reference) (old : List Refusal) (fault : Fault) → RefusesNeed s stored reference.1 fault
      → IsSilent silence reference.1.target fault → AddsRefusal s stored silence reference old old
  adds-silent reference old fault refused silent = none-added reference old (inr (inl (fault, refused, silent)))

  pub adds-one : (reference : Reference) (old new : List Refusal) (fault : Fault) → IsTold s stored silence reference fault
      → new ≡ old ++ at_instance fault reference.0 ∷ [] → AddsRefusal s stored silence reference old new
  adds-one reference old new fault told is = record {
    added = at_instance fault reference.0 ∷ [];
    new_is = is;
    right = ((fault, told, refl), tt);
    answered = inr (inr (at_instance fault reference.0, Contains-first (at_instance fault reference.0) [], (fault, told, refl)));
  }

  -- ---- all of them

  -- the refusals of those references that are not among the rest are added
  pub record AddsSoFar (waiting : List Reference) (old new : List Refusal) (rest : List Reference) : Type 0 where
    pub added : List Refusal
    pub new_is : new ≡ old ++ added
    pub right : Each (λ (refusal : Refusal). (reference : Reference) × Contains waiting reference
        × IsRefusalOf s stored silence reference refusal) added
    pub answered : (reference : Reference) → Contains waiting reference → IsAnswered s stored silence added reference
        ⊎ Contains rest reference
    pub waits : (reference : Reference) → Contains rest reference → Contains waiting reference

  pub adds-nothing : (waiting : List Reference) (old : List Refusal) → AddsSoFar waiting old old waiting
  adds-nothing waiting old = record {
    added = [];
    new_is = sym (append-nil old);
    right = tt;
    answered = λ reference among. inr among;
    waits = λ reference among. among;
  }

  -- what is answered stays answered
  still-answered : (added more : List Refusal) (reference : Reference) → IsAnswered s stored silence added reference
      → IsAnswered s stored silence (added ++ more) reference
  still-answered added more reference (inl served) = inl served
  still-answered added more reference (inr (inl silent)) = inr (inl silent)
  still-answered added more reference (inr (inr (refusal, among, of))) =
      inr (inr (refusal, Contains-append_left added more refusal among, of))

  newly-answered : (added more : List Refusal) (reference : Reference) → IsAnswered s stored silence more reference
      → IsAnswered s stored silence (added ++ more) reference
  newly-answered added more reference (inl served) = inl served
  newly-answered added more reference (inr (inl silent)) = inr (inl silent)
  newly-answered added more reference (inr (inr (refusal, among, of))) =
      inr (inr (refusal, Contains-append_right added more refusal among, of))

  pub adds-next : (waiting : List Reference) (old now new : List Refusal) (reference : Reference) (rest : List Reference)
      → AddsSoFar waiting old now (reference ∷ rest) → AddsRefusal s stored silence reference now new → AddsSoFar waiting old new rest
  adds-next waiting old now new reference rest so_far one =
      let Right : Refusal → Type 0 = λ refusal. (r : Reference) × Contains waiting r × IsRefusalOf s stored silence r refusal in
      record {
        added = so_far.added ++ one.added;
        new_is = one.new_is ∙ ap (λ (rs : List Refusal). rs ++ one.added) so_far.new_is ∙ append_assoc old so_far.added one.added;
        right = Each-append Right so_far.added one.added so_far.right
            (Each-weaker (IsRefusalOf s stored silence reference) Right
            (λ refusal of. (reference, so_far.waits reference (Contains-first reference rest), of)) one.added one.right);
        answered = λ r among. elim (so_far.answered r among) [
          | inl answered ↦ inl (still-answered so_far.added one.added r answered)
          | inr later ↦ elim (Contains-cases reference rest r later) [
            | inl same ↦ inl (subst (λ (x : Reference). IsAnswered s stored silence (so_far.added ++ one.added) x) same
                (newly-answered so_far.added one.added reference one.answered))
            | inr behind ↦ inr behind
          ]
        ];
        waits = λ r among. so_far.waits r (Contains-later reference rest r among);
      }

  -- so many are listed
  pub lists-most : (waiting : List Reference) (most : ℕ) (old now : List Refusal) (rest : List Reference) → AddsSoFar waiting old now rest
      → most ≤ length now → ListsReferences s stored waiting silence most old now
  lists-most waiting most old now rest so_far enough =
      record { added = so_far.added; new_is = so_far.new_is; right = so_far.right; all = λ fewer. absurd (omega (arith, enough, fewer)) }

  -- none is left
  pub lists-all : (waiting : List Reference) (most : ℕ) (old now : List Refusal) → AddsSoFar waiting old now []
      → ListsReferences s stored waiting silence most old now
  lists-all waiting most old now so_far = record {
    added = so_far.added;
    new_is = so_far.new_is;
    right = so_far.right;
    all = λ fewer. Each-of_members (IsAnswered s stored silence so_far.added) waiting
        (λ r among. elim (so_far.answered r among) [ inl answered ↦ answered | inr left ↦ absurd (Contains-none r left) ]);
  }
