-- An instance that is refused, with a signpost in a string of it, is passed over and listed.
use Rattle.std.proofs.Common.{length, ◌≡◌, ◌⊎◌, ◌↔◌, ℕ, Bool, true, false, List, [], ◌++◌, take, drop, Result, Ok, Err, IfOk, inl, inr}
use Rattle.std.proofs.Common.{refl, sym, ap, subst, ◌∙◌, append-nil}
use Rattle.std.proofs.lemmas.Map.Lookups.{exact_unsigned}
use Rattle.std.proofs.lemmas.Map.Views.{tells_apart}
use Rattle.std.specs.BTreeSet.{BTreeSet, Updates, contains}
use Rattle.std.specs.Ordering.{eq_by_cmp, nat_cmp}
use Rattle.std.specs.Prelude.{cond}
use Rattle.p21_spec_basics.specs.Limits.{Limits}
use Rattle.p21_spec_exchange.specs.Record.{Record}
use Rattle.p21_spec_survey.specs.Rules.{Rules}
use Rattle.p21_spec_survey.specs.Survey.{in_instance}
use Rattle.p21_stream_log.specs.Going.{behind_stretch}
use Rattle.p21_stream_log.specs.Laws.{WrongIsBroken}
use Rattle.p21_stream_log.specs.Log.{Held, Known, Logs, Point}
use Rattle.p21_stream_log.specs.Passage.{IsBrokenBy, PassageFor, PassageGives}
use Rattle.p21_stream_log.specs.declared.passage.Passage.{Passage}
use Rattle.p21_stream_log.specs.declared.passage.Passage.TheVariants.{GoesOn}
use Rattle.p21_stream_sieve.specs.Sifting.{HasName}
use Rattle.p21_stream_statements.specs.Fault.{fault_number}
use Rattle.p21_stream_statements.specs.declared.fault.Fault.{Fault}
use Rattle.p21_stream_survey.proofs.Followed.{refused-number}
use Rattle.p21_stream_survey.proofs.Numbers.{refuses-number}
use Rattle.p21_stream_survey.proofs.PassedOn.{broken-taken}
use Rattle.p21_stream_survey.proofs.Readings.{instance-named, reads-passed}
use Rattle.p21_stream_survey.specs.Wrong.{IsWrongAt, ListsWrong, PassesWrong}
use Rattle.p21_stream_survey.specs.declared.listing.Listing.{Listing}

-- the set of names has one more
named-one : (names added : BTreeSet ℕ) (n q : ℕ) → Updates nat_cmp names added n true → HasName added q
    ↔ (HasName names q ⊎ (in_instance n ≡ in_instance q))
named-one names added n q updates = by (eq_by_cmp nat_cmp n q) refl (updates.0 q) where
  by : (same : Bool) → eq_by_cmp nat_cmp n q ≡ same → contains nat_cmp added q ≡ cond same true (contains nat_cmp names q) → HasName added q
      ↔ (HasName names q ⊎ (in_instance n ≡ in_instance q))
  by true is now = (λ had. inr (ap in_instance (tells_apart exact_unsigned n q is)), λ which. now)
  by false is now = (
    λ had. inl (sym now ∙ had),
    λ which. elim which [ inl before ↦ now ∙ before | inr same ↦ subst (λ (m : ℕ). HasName added m) (instance-named n q same) updates.1 ],
  )

-- it is broken by its bytes
wrong-broken : WrongIsBroken → (s : Rules) (limits : Limits) (known : Known) (point : Point) (held : Held) (n : ℕ) (r : Record)
    (fault : Fault) (begins : ℕ) → IsWrongAt s limits known point held n r fault begins
    → IsBrokenBy s limits known point held held.buffer [] point.ahead (fault_number fault) (in_instance n) begins
wrong-broken broken s limits known point held n r fault begins at =
    broken s limits known point held n r (fault_number fault) begins at.logs at.ended.ended at.ended.ends
    (refused-number s point.read.given n r fault at.refused) at.inside at.in_data at.opens at.begins_in

-- what the log says of it
pub says-wrong : WrongIsBroken → (old new : Held) (n begins : ℕ) (fault : Fault) (bytes : List ℕ) (passage : Passage)
    → PassageGives old bytes [] passage new → (s : Rules) (limits : Limits) (known : Known) (point : Point) (r : Record)
    → bytes ≡ old.buffer → IsWrongAt s limits known point old n r fault begins
    → PassageFor s limits known point old.buffer [] point.ahead (fault_number fault) (in_instance n) begins passage new
says-wrong broken old new n begins fault bytes passage gives s limits known point r are at =
    let by = wrong-broken broken s limits known point old n r fault begins at in
    subst (λ (l : List ℕ). PassageFor s limits known point l [] point.ahead (fault_number fault) (in_instance n) begins passage new) are
    (gives.1 s limits known point point.ahead (fault_number fault) (in_instance n) begins
    (subst (λ (l : List ℕ). IsBrokenBy s limits known point old l [] point.ahead (fault_number fault) (in_instance n) begins) (sym are)
    by))

pub goes-on : WrongIsBroken → (old new : Held) (before behind : Listing) (n begins count : ℕ) (fault : Fault) (bytes : List ℕ)
    → PassageGives old bytes [] (GoesOn count) new → ListsWrong before n fault begins count (length bytes) (GoesOn count) behind
    → PassesWrong old before n fault begins bytes (GoesOn count) new behind
goes-on broken old new before behind n begins count fault bytes gives lists s limits known point r sieve are at has =
    let number : ℕ = fault_number fault in
    let logs = says-wrong broken old new n begins fault bytes (GoesOn count) gives s limits known point r are at in
    record {
      logs = subst (λ (l : List ℕ). Logs s limits known new
          (behind_stretch point (take count l) number (in_instance n) begins (drop count l ++ point.ahead)))
          (append-nil old.buffer ∙ sym are) logs;
      has = reads-passed s limits point.read (take count bytes) number begins (in_instance n) sieve before behind _ has
          (refuses-number s point.read.given n r fault at.refused) refl lists.list
          (λ m. named-one before.passed behind.passed n m lists.passed)
          (broken-taken count (length bytes) bytes before.is_broken behind.is_broken (λ some. some, λ some. some) lists.broken)
          lists.statement;
    }

-- whatever the call that lists it answers
pub goes-on_where : {E : Type 0} → WrongIsBroken → (old new : Held) (before behind : Listing) (n begins count : ℕ) (fault : Fault)
    (bytes : List ℕ) (result : Result Passage E) → PassageGives old bytes [] (GoesOn count) new
    → IfOk result (λ passage. ListsWrong before n fault begins count (length bytes) passage behind)
    → IfOk result (λ passage. PassesWrong old before n fault begins bytes passage new behind)
goes-on_where broken old new before behind n begins count fault bytes (Ok passage) gives lists =
    subst (λ (p : Passage). PassesWrong old before n fault begins bytes p new behind) (sym lists.passage_is)
    (goes-on broken old new before behind n begins count fault bytes gives
    (subst (λ (p : Passage). ListsWrong before n fault begins count (length bytes) p behind) lists.passage_is lists))
goes-on_where broken old new before behind n begins count fault bytes (Err none) gives lists = tt
