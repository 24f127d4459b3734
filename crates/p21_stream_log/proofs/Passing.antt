-- An instance that is read elsewhere is passed over by the reader, and has ended.
use Rattle.std.proofs.Common.{◌≡◌, ℕ, Bool, true, IsTrue, List, [], ◌∷◌, ◌++◌, length, refl, sym, ap, subst, ◌∙◌}
use Rattle.p21_spec_basics.specs.Limits.{Limits}
use Rattle.p21_spec_exchange.specs.Record.{Record}
use Rattle.p21_spec_exchange.specs.Statement.{Statement, instance}
use Rattle.p21_spec_survey.specs.Rules.{Rules}
use Rattle.p21_spec_survey.specs.Landmark.{IsOpened}
use Rattle.p21_stream_log.proofs.Stepping.{began-on, file-on, given-before, taken-on}
use Rattle.p21_stream_log.specs.Log.{Held, Known, Logs, PassGives, Point, behind_passed}
use Rattle.p21_stream_statements.specs.PassingOver.{AreInstances, GivesPassed, with_instances}
use Rattle.p21_stream_statements.specs.Reopening.{IsBetweenStatements}
use Rattle.p21_stream_statements.specs.StatementReader as statements
use Rattle.p21_stream_statements.specs.StatementReader.{limits_of}

pub passed-logs : (s : Rules) (limits : Limits) (known : Known) (old new : Held) (point : Point) (bytes more : List ℕ) (n : ℕ)
    (record_ : Record) → Logs s limits known old point → point.ended ≡ [] → point.ahead ≡ bytes ++ more
    → AreInstances bytes ((n, record_) ∷ []) → GivesPassed old.reader (length bytes) new.reader → IsBetweenStatements new.reader
    → limits_of new.reader ≡ limits_of old.reader → new.start ≡ old.start → new.opened ≡ old.opened → new.buffer ≡ old.buffer ++ bytes
    → Logs s limits known new (behind_passed point n record_ more)
passed-logs s limits known old new point bytes more n record_ logs none ahead_is are gives between limits_are start_is opened_is buffer_is =
    let passed = gives logs.history logs.live bytes ((n, record_) ∷ []) refl are in
    record {
      is_read = logs.is_read;
      file_is = file-on s limits known old new point more logs none start_is opened_is limits_are bytes more buffer_is ahead_is;
      start_is = start_is ∙ logs.start_is;
      opens = subst (λ (b : Bool). (IsTrue b → IsOpened point.read.bytes) × (IsOpened point.read.bytes → IsTrue b)) (sym opened_is)
          logs.opens;
      history = with_instances logs.history bytes ((n, record_) ∷ []);
      live = passed.live;
      limits_are = limits_are ∙ logs.limits_are;
      seen_is = refl;
      given_are = ap (λ (sts : List Statement). sts ++ instance n record_ ∷ [])
          (given-before s limits known old new point more logs none start_is opened_is limits_are);
      between = λ _. between;
      gapped = logs.gapped;
      taken_are = taken-on s limits known old new point more logs none start_is opened_is limits_are bytes buffer_is;
      size = logs.size;
      lexemes = logs.lexemes;
      gapped_whole = logs.gapped_whole;
      kept_whole = logs.kept_whole;
      tokens_are = logs.tokens_are;
      began = began-on old.reader new.reader logs.gapped point.read.given limits_are logs.began;
    }

pub pass-gives : (old : Held) (reader : statements.Held) (bytes buffer : List ℕ) → GivesPassed old.reader (length bytes) reader
    → IsBetweenStatements reader → limits_of reader ≡ limits_of old.reader → buffer ≡ old.buffer ++ bytes
    → PassGives old bytes true (record { reader = reader; start = old.start; buffer = buffer; opened = old.opened })
pass-gives old reader bytes buffer gives between limits_are buffer_is s limits known point more n record_ logs none ahead_is are =
    passed-logs s limits known old (record { reader = reader; start = old.start; buffer = buffer; opened = old.opened }) point bytes more n
    record_ logs none ahead_is are gives between limits_are refl refl buffer_is
