-- The kept bytes at the end of the file.
use Rattle.std.proofs.Common.{ℕ, List, ◌++◌, Result, Ok, Err, sym, ap, subst, ◌∙◌, append-nil}
use Rattle.p21_spec_exchange.specs.Laying.{AreStatementsWithin, LaidAs}
use Rattle.p21_spec_exchange.specs.Statement.{Statement}
use Rattle.p21_spec_survey.specs.Whole.{LaidAlike, NoFileAlike}
use Rattle.p21_spec_syntax.specs.FileWithin.{IsNoFile}
use Rattle.p21_stream_log.proofs.Bounds.{read-within}
use Rattle.p21_stream_statements.proofs.Within.{statements-within}
use Rattle.p21_stream_log.specs.Ending.{AreFileOf, EndGives}
use Rattle.p21_stream_log.specs.Log.{Held}
use Rattle.p21_stream_statements.specs.StatementReader.{FinishGives}
use Rattle.p21_stream_statements.specs.declared.fault.Fault.{Fault}

pub ends : LaidAlike → NoFileAlike → (held : Held) (result : Result (Unit {0}) Fault) → FinishGives held.reader result
    → EndGives held result
ends alike no_file held (Ok done) gives = λ s limits known point logs ended unseen.
    let found = gives logs.history logs.live (logs.seen_is ∙ unseen) in
    let given = logs.given_are ∙ (ap (λ (sts : List Statement). point.read.given ++ sts) ended ∙ append-nil point.read.given) in
    let file : AreFileOf limits.record_source (point.read.kept ++ held.buffer) point.read.given = record {
      structure = found.whole.structure;
      schema = found.whole.text;
      in_grammar = record {
        laid = record {
          lexemes = found.laid.lexemes;
          tokens_are = found.laid.tokens_are ∙ sym found.whole.tokens_are;
          laid = alike logs.gapped point.read.kept held.buffer found.laid.lexemes (logs.lexemes, logs.gapped_whole, logs.kept_whole)
              (subst (λ (l : List ℕ). LaidAs l found.laid.lexemes) logs.taken_are found.laid.laid);
        };
        is_file = found.whole.is_file;
      };
      statements_are = found.whole.statements_are ∙ given;
      within =
          subst (λ (most : ℕ). AreStatementsWithin most 0 found.laid.lexemes) (ap (λ (l : ℕ × ℕ). l.0) logs.limits_are)
          (statements-within held.reader logs.history logs.live (logs.seen_is ∙ unseen) found);
    } in
    (file, read-within s limits known held point logs)
ends alike no_file held (Err fault) gives = λ other s limits known point logs ended unseen.
    no_file logs.gapped point.read.kept held.buffer (logs.lexemes, logs.gapped_whole, logs.kept_whole)
    (subst IsNoFile logs.taken_are (gives other logs.history logs.live (logs.seen_is ∙ unseen)))
