-- Instances that are taken straight from their bytes.
use Rattle.std.proofs.Common.{◌≡◌, ◌≤◌, ℕ, suc, List, [], ◌∷◌, ◌++◌, length, take, drop, Some, Ok, Err, refl, sym, ap, subst, ◌∙◌, arith}
use Rattle.std.proofs.lemmas.List.{append-nil, length-take-le, take-append-drop}
use Rattle.p21_shorter_instances.proofs.InstanceBytes.{instance-separates}
use Rattle.p21_shorter_instances.specs.Taker.{IsInstance}
use Rattle.p21_spec_basics.proofs.Members.{Each-front}
use Rattle.p21_spec_basics.specs.Limits.{Limits}
use Rattle.p21_spec_exchange.specs.Laying.{Laid}
use Rattle.p21_spec_exchange.specs.Record.{Record, record_tokens}
use Rattle.p21_spec_exchange.specs.Separator.{IsSeparator, blank}
use Rattle.p21_spec_exchange.specs.Statement.{instance, statement_tokens}
use Rattle.p21_spec_exchange.specs.Token.{Token, equals, semicolon}
use Rattle.p21_spec_file.specs.Reference as meant
use Rattle.p21_spec_laws.specs.Keeping.{Kept}
use Rattle.p21_spec_schema.specs.Schema.{Schema}
use Rattle.p21_spec_schema.specs.WellFormed.{IsWellFormed}
use Rattle.p21_stream.proofs.Going.{dead-behind}
use Rattle.p21_stream.proofs.Walking.{follows-behind}
use Rattle.p21_stream.specs.Walk.{EndsBy, EndsNoToken, IsUnderWay, NeedsNoMemory, ReadsOn}
use Rattle.p21_stream_kept.specs.Found.{HasFound}
use Rattle.p21_stream_kept.specs.Steps.{FoundGives}
use Rattle.p21_stream_kept.specs.Taking.{FollowsFound}
use Rattle.p21_stream_statements.specs.PassingOver.{AreInstances, GivesPassed, PassesInstances, instance_tokens, with_instances}
use Rattle.p21_stream_statements.specs.StatementReader as statements
use Rattle.p21_stream_statements.specs.StatementReader.{StatementHistory, limits_of}
use Rattle.p21_stream_statements.specs.declared.fault.Fault.{Fault}
use Rattle.p21_stream_statements.specs.declared.refusal.Refusal.{Refusal}
use Rattle.p21_tokens.specs.Histories.{AreSeparators}

-- where bytes are no separators alone, memory may be asked for
pub begun-quiet : (s : Schema) (limits : Limits) (held : statements.Held) (kept : Kept) (piece : List ℕ) (refusal : Refusal)
    → (AreSeparators piece → ⊥) → NeedsNoMemory s limits held kept piece refusal
begun-quiet s limits held kept piece refusal begun reading live at pending are = absurd (begun are)

-- ---- an instance that is taken

module _ (s : Schema) (limits : Limits) (held next : statements.Held) (kept : Kept) (piece : List ℕ) (count n : ℕ) (entities text : List ℕ)
    (needs : List meant.Need) (is : IsInstance s n entities (take count piece) text needs) (within : count ≤ length piece) where
  abbrev one : List (ℕ × Record)
  one = (n, is.record_) ∷ []

  abbrev behind : StatementHistory → StatementHistory
  behind reading = with_instances reading (take count piece) one

  are : AreInstances (take count piece) one
  are = record {
    laid = subst (λ (ts : List Token). Laid (take count piece) ts) (sym (append-nil (statement_tokens (instance n is.record_)))) is.laid;
    of_data = (is.data_record, tt);
  }

  found : HasFound s n is.record_ entities needs text
  found = record { meaning = is.meaning; meant = is.means; entities_are = is.entities_are; printed = is.printed }

  none-separate : AreSeparators piece → ⊥
  none-separate separate =
      let bytes : AreSeparators (take count piece ++ drop count piece) =
      subst AreSeparators (sym (take-append-drop count piece)) separate in
      instance-separates s n entities (take count piece) text needs is
      (Each-front (λ byte. IsSeparator (blank byte)) (take count piece) (drop count piece) bytes)

  pub taken-quiet : (refusal : Refusal) → NeedsNoMemory s limits held kept piece refusal
  taken-quiet refusal = begun-quiet s limits held kept piece refusal none-separate

  pub taken-none : (many : ℕ) → EndsNoToken s limits held kept piece (Ok (Some many))
  taken-none many reading live at pending separate = none-separate separate

  module _ (gives : GivesPassed held count next) (same : limits_of next ≡ limits_of held) where
    goes : (reading : StatementHistory) (live : statements.IsLive held reading)
        → PassesInstances reading (length live.history.given) (take count piece) one next
    goes reading live = gives reading live (take count piece) one (length-take-le count piece within) are

    pub taken-follows : IsUnderWay s limits held kept piece → FollowsFound s limits kept n entities needs text
    taken-follows way =
        let on = goes way.reading way.live.reads in
        record {
          record_ = is.record_;
          found = found;
          follows = follows-behind s limits next kept way.reading (behind way.reading) (instance n is.record_) way.live.keeps on.live refl
              (ap (λ p. p.1) (same ∙ way.live.limits_are)) way.counted;
        }

    pub taken-on : (after : Kept) → FoundGives s limits kept n entities needs text (Ok tt) after
        → ReadsOn s limits held kept piece count next after
    taken-on after takes reading live at =
        let on = goes reading live.reads in
        let more = on.more in
        let some : length (instance_tokens one) ≡ suc (length (equals ∷ ((record_tokens is.record_ ++ (semicolon ∷ [])) ++ []))) = refl in
        record {
          reading = behind reading;
          live = record { reads = on.live; limits_are = same ∙ live.limits_are; keeps = takes is.record_ found reading.given live.keeps };
          taken_are = refl;
          seen_at = tt;
          more = omega (arith, more, some);
        }

    pub taken-ends : IsWellFormed s → (after : Kept) (refusal : Refusal) (fault : Fault) → refusal.fault ≡ fault
        → FoundGives s limits kept n entities needs text (Err fault) after → EndsBy s limits held kept piece refusal
    taken-ends formed after refusal fault same_fault refuses other reading live at =
        let on = goes reading live.reads in
        dead-behind s formed limits next kept after reading (behind reading) piece count (instance n is.record_) fault live.keeps on.live
        refl refl tt within (refuses is.record_ found) (λ none. other (same_fault ∙ none))
