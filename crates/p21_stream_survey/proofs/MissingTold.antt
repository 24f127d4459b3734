-- The references of a file by itself that are told to names that no instance has, one by one and all of them.
use Rattle.std.proofs.Common.{◌≡◌, ◌⊎◌, ◌<◌, ◌≤◌, ◌+◌, ℕ, List, [], ◌∷◌, ◌++◌, length, drop, get_or, inl, inr, refl, sym, ap, subst, ◌∙◌}
use Rattle.std.proofs.Common.{append_assoc, append-nil, arith, suc}
use Rattle.std.proofs.Math.Seq.{drop-cons}
use Rattle.std.proofs.lemmas.List.Elements.{Contains-append_left, Contains-append_right}
use Rattle.std.specs.BTreeSet.{contains}
use Rattle.std.specs.List.{Contains, AllByRecursion as Each}
use Rattle.std.specs.Ordering.{nat_cmp}
use Rattle.p21_spec_basics.proofs.Members.{Contains-cases, Contains-first, Contains-later, Contains-none, Each-append, Each-of_members}
use Rattle.p21_spec_basics.proofs.Members.{Each-weaker}
use Rattle.p21_stream_sieve.specs.Sifting.{at_instance}
use Rattle.p21_stream_statements.specs.declared.fault.Fault.TheVariants.{Dangling}
use Rattle.p21_stream_statements.specs.declared.refusal.Refusal.{Refusal}
use Rattle.p21_stream_survey.proofs.Told.{untrue}
use Rattle.p21_stream_survey.specs.Missing.{AddsMissing, IsAnsweredAlone, IsMissing, IsMissingOf, ListsMissing}
use Rattle.p21_stream_survey.specs.Telling.{IsSilent, Silence}
use Rattle.p21_stream_syntax.specs.Waiting.{Claim, claims_in}
use Rattle.p21_stream_syntax.specs.declared.references.Reference.{Reference}

-- the references from one on
pub claims-from : (waiting : List Reference) (k : ℕ) (x : Reference) → x ≡ get_or waiting k x → k < length waiting
    → claims_in (drop k waiting) ≡ (x.holder, x.target) ∷ claims_in (drop (k + 1) waiting)
claims-from waiting k x is low =
    let next : suc k ≡ k + 1 = omega arith in
    ap claims_in (drop-cons waiting k x low) ∙ ap (λ (y : Reference). (y.holder, y.target) ∷ claims_in (drop (suc k) waiting)) (sym is)
    ∙ ap (λ (i : ℕ). (x.holder, x.target) ∷ claims_in (drop i waiting)) next

module _ (names : List ℕ) (silence : Silence) where
  -- ---- one reference

  none-added : (claim : Claim) (old : List Refusal) → IsAnsweredAlone names silence [] claim → AddsMissing names silence claim old old
  none-added claim old answered = record { added = []; new_is = sym (append-nil old); right = tt; answered = answered }

  pub adds-given : (claim : Claim) (old : List Refusal) → Contains names claim.1 → AddsMissing names silence claim old old
  adds-given claim old given = none-added claim old (inl given)

  pub adds-silent : (claim : Claim) (old : List Refusal) → ¬ Contains names claim.1 → IsSilent silence claim.1 Dangling
      → AddsMissing names silence claim old old
  adds-silent claim old none silent = none-added claim old (inr (inl (none, silent)))

  pub missing-told : (claim : Claim) → ¬ Contains names claim.1 → (IsSilent silence claim.1 Dangling → ⊥) → IsMissing names silence claim
  missing-told claim none loud = record {
    unknown = none;
    judged = untrue (contains nat_cmp silence.names claim.1) (λ has. loud (inl has));
    first = untrue (contains nat_cmp silence.passed claim.1) (λ has. loud (inr (inl has)));
    whole = untrue silence.is_broken (λ yes. loud (inr (inr (refl, yes))));
  }

  pub adds-one : (claim : Claim) (old new : List Refusal) → IsMissing names silence claim → new ≡ old ++ at_instance Dangling claim.0 ∷ []
      → AddsMissing names silence claim old new
  adds-one claim old new told is = record {
    added = at_instance Dangling claim.0 ∷ [];
    new_is = is;
    right = ((told, refl), tt);
    answered = inr (inr (at_instance Dangling claim.0, Contains-first (at_instance Dangling claim.0) [], (told, refl)));
  }

  -- ---- all of them

  -- the refusals of those references that are not among the rest are added
  pub record AddsSoFar (waiting : List Claim) (old new : List Refusal) (rest : List Claim) : Type 0 where
    pub added : List Refusal
    pub new_is : new ≡ old ++ added
    pub right : Each (λ (refusal : Refusal). (claim : Claim) × Contains waiting claim × IsMissingOf names silence claim refusal) added
    pub answered : (claim : Claim) → Contains waiting claim → IsAnsweredAlone names silence added claim ⊎ Contains rest claim
    pub waits : (claim : Claim) → Contains rest claim → Contains waiting claim

  pub adds-nothing : (waiting : List Claim) (old : List Refusal) → AddsSoFar waiting old old waiting
  adds-nothing waiting old = record {
    added = [];
    new_is = sym (append-nil old);
    right = tt;
    answered = λ claim among. inr among;
    waits = λ claim among. among;
  }

  -- what is answered stays answered
  still-answered : (added more : List Refusal) (claim : Claim) → IsAnsweredAlone names silence added claim
      → IsAnsweredAlone names silence (added ++ more) claim
  still-answered added more claim (inl given) = inl given
  still-answered added more claim (inr (inl silent)) = inr (inl silent)
  still-answered added more claim (inr (inr (refusal, among, of))) =
      inr (inr (refusal, Contains-append_left added more refusal among, of))

  newly-answered : (added more : List Refusal) (claim : Claim) → IsAnsweredAlone names silence more claim
      → IsAnsweredAlone names silence (added ++ more) claim
  newly-answered added more claim (inl given) = inl given
  newly-answered added more claim (inr (inl silent)) = inr (inl silent)
  newly-answered added more claim (inr (inr (refusal, among, of))) =
      inr (inr (refusal, Contains-append_right added more refusal among, of))

  pub adds-next : (waiting : List Claim) (old now new : List Refusal) (claim : Claim) (rest : List Claim)
      → AddsSoFar waiting old now (claim ∷ rest) → AddsMissing names silence claim now new → AddsSoFar waiting old new rest
  adds-next waiting old now new claim rest so_far one =
      let Right : Refusal → Type 0 = λ refusal. (c : Claim) × Contains waiting c × IsMissingOf names silence c refusal in
      record {
        added = so_far.added ++ one.added;
        new_is = one.new_is ∙ ap (λ (rs : List Refusal). rs ++ one.added) so_far.new_is ∙ append_assoc old so_far.added one.added;
        right = Each-append Right so_far.added one.added so_far.right
            (Each-weaker (IsMissingOf names silence claim) Right
            (λ refusal of. (claim, so_far.waits claim (Contains-first claim rest), of)) one.added one.right);
        answered = λ c among. elim (so_far.answered c among) [
          | inl answered ↦ inl (still-answered so_far.added one.added c answered)
          | inr later ↦ elim (Contains-cases claim rest c later) [
            | inl same ↦ inl (subst (λ (x : Claim). IsAnsweredAlone names silence (so_far.added ++ one.added) x) same
                (newly-answered so_far.added one.added claim one.answered))
            | inr behind ↦ inr behind
          ]
        ];
        waits = λ c among. so_far.waits c (Contains-later claim rest c among);
      }

  -- so many are listed
  pub lists-most : (waiting : List Claim) (most : ℕ) (old now : List Refusal) (rest : List Claim) → AddsSoFar waiting old now rest
      → most ≤ length now → ListsMissing names waiting silence most old now
  lists-most waiting most old now rest so_far enough =
      record { added = so_far.added; new_is = so_far.new_is; right = so_far.right; all = λ fewer. absurd (omega (arith, enough, fewer)) }

  -- none is left
  pub lists-all : (waiting : List Claim) (most : ℕ) (old now : List Refusal) → AddsSoFar waiting old now []
      → ListsMissing names waiting silence most old now
  lists-all waiting most old now so_far = record {
    added = so_far.added;
    new_is = so_far.new_is;
    right = so_far.right;
    all = λ fewer. Each-of_members (IsAnsweredAlone names silence so_far.added) waiting
        (λ c among. elim (so_far.answered c among) [ inl answered ↦ answered | inr left ↦ absurd (Contains-none c left) ]);
  }
