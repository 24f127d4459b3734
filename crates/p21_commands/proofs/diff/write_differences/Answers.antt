use Rattle.std.proofs.Common.{[], ◌∷◌, ◌≡◌, inl, inr, refl, sym, subst, List, ℕ}
use Rattle.p21_commands.proofs.Leaving.{attribute-failed, attribute-fails, handed-on}
use Rattle.p21_commands.proofs.Numbering.{fails-weaker}
use Rattle.p21_commands.specs.Unlisted.{IsUnlisted}
use Rattle.p21_difference_rows.specs.Asked.{left_out_of}
use Rattle.p21_spec_basics.specs.Limits.{usual}
use Rattle.p21_commands.specs.Diff.{IsDifferenceList}
use Rattle.p21_commands.specs.Command.{FailsBy}
use Rattle.p21_commands.specs.Failures.{FailedBy, failures_of}
use Rattle.p21_commands.proofs.Failing.{after_reading, before_writing}
use Rattle.p21_commands.specs.Same.{IsEither, IsRefused, read_of}
use Rattle.p21_commands.proofs.Counting.{comparing-failed}
use Rattle.p21_commands.proofs.Comparing.{answer-fails, comparing-fails, first-or_accepted}
use Rattle.p21_commands.proofs.Differing.{first-listed}
use Rattle.p21_commands.proofs.diff.write_differences.Goals as goal

pub returns-in_err-check_left_out-clause-err : goal.returns-in_err-check_left_out-clause-err
returns-in_err-check_left_out-clause-err g c =
    let schema = g.S.Read.remaining c.args.schema.now.inner in
    let first = g.A.Read.remaining c.args.first.now.inner in
    let second = g.B.Read.remaining c.args.second.now.inner in
    let output = g.W.Write.contents c.args.output.now.inner in
    let left = left_out_of c.args.left_out in
    let read = read_of schema first first second second in
    let IsAnswer = IsEither (IsDifferenceList c.args.form left read) in
    let fault = c.in_err-check_left_out.field-0.0 in
    let handed = c.from_residual-in_err-check_left_out in
    handed-on (FailsBy IsAnswer (IsUnlisted (IsRefused read) left read) output output) handed.result fault handed.ensures.0 handed.ensures.1
    (attribute-fails IsAnswer (IsRefused read) schema first second output c.in_ok-schema.schema left fault c.in_ok-schema.ensures.ok
    c.in_err-check_left_out.ensures.err)

pub returns-in_err-check_left_out-clause-failed : goal.returns-in_err-check_left_out-clause-failed
returns-in_err-check_left_out-clause-failed g c =
    let readers = failures_of c.args.schema.now c.load_schema.new.reader ∷ failures_of c.args.first.now c.args.first.now
    ∷ failures_of c.args.second.now c.args.second.now ∷ [] in
    let writers = failures_of c.args.output.now c.args.output.now ∷ [] in
    let handed = c.from_residual-in_err-check_left_out in
    let failed = attribute-failed c.in_ok-schema.schema (left_out_of c.args.left_out) readers writers c.in_err-check_left_out.field-0.0
    c.in_err-check_left_out.ensures.err (c.in_ok-schema.ensures.read, (refl, (refl, tt))) (refl, tt) in
    handed-on (FailedBy readers writers) handed.result c.in_err-check_left_out.field-0.0 handed.ensures.0 handed.ensures.1 failed

pub returns-in-Err-clause-err : goal.returns-in-Err-clause-err
returns-in-Err-clause-err g c =
    let read = read_of (g.S.Read.remaining c.args.schema.now.inner) (g.A.Read.remaining c.args.first.now.inner)
    (g.A.Read.remaining c.differences.new.first.inner) (g.B.Read.remaining c.args.second.now.inner)
    (g.B.Read.remaining c.differences.new.second.inner) in
    fails-weaker _ (IsRefused read) (IsUnlisted (IsRefused read) (left_out_of c.args.left_out) read)
    (λ line refused. inl refused) _ _ c.fault_of.result
    (comparing-fails _ _ _ _ _ _ _ _ usual _ _ _ _ refl c.in_ok-schema.ensures.ok c.word_of.ensures c.fault_of.ensures c.in-Err.ensures.err)

pub returns-in-Ok-write_whole-clause-ok : goal.returns-in-Ok-write_whole-clause-ok
returns-in-Ok-write_whole-clause-ok g c =
    let schema = g.S.Read.remaining c.args.schema.now.inner in
    let read = read_of schema (g.A.Read.remaining c.args.first.now.inner) (g.A.Read.remaining c.differences.new.first.inner)
    (g.B.Read.remaining c.args.second.now.inner) (g.B.Read.remaining c.differences.new.second.inner) in
    let IsText : List ℕ → Type 0 = λ text. IsDifferenceList c.args.form (left_out_of c.args.left_out) read c.in-Ok.found.is_empty text in
    record {
      line = c.deref.result.now;
      is_line = subst IsText (sym c.deref.ensures.value) (record {
        declared = c.in_ok-schema.schema;
        declares = c.in_ok-schema.ensures.ok;
        meant = c.in_ok-check_left_out.ensures.ok;
        same = c.in-Ok.found.is_same;
        lists = c.in-Ok.ensures.ok schema;
      });
      appended = c.in-Ok-write_whole.ensures.ok;
    }

pub returns-clause-err : goal.returns-clause-err
returns-clause-err g c =
    let schema = g.S.Read.remaining c.args.schema.now.inner in
    let read = read_of schema (g.A.Read.remaining c.args.first.now.inner) (g.A.Read.remaining c.differences.new.first.inner)
    (g.B.Read.remaining c.args.second.now.inner) (g.B.Read.remaining c.differences.new.second.inner) in
    let IsText : List ℕ → Type 0 = λ text. IsDifferenceList c.args.form (left_out_of c.args.left_out) read c.in-Ok.found.is_empty text in
    answer-fails (IsEither (IsDifferenceList c.args.form (left_out_of c.args.left_out) read))
    (IsUnlisted (IsRefused read) (left_out_of c.args.left_out) read) _ _ c.deref.result.now c.in-Err-write_whole.fault (
      c.in-Ok.found.is_empty,
      subst IsText (sym c.deref.ensures.value) (record {
        declared = c.in_ok-schema.schema;
        declares = c.in_ok-schema.ensures.ok;
        meant = c.in_ok-check_left_out.ensures.ok;
        same = c.in-Ok.found.is_same;
        lists = c.in-Ok.ensures.ok schema;
      }),
    )
    c.in-Err-write_whole.ensures.err c.in-Err-write_whole.ensures.fault

pub returns-in-Err-clause-failed : goal.returns-in-Err-clause-failed
returns-in-Err-clause-failed g c =
    let first = failures_of c.args.first.now c.differences.new.first in
    let second = failures_of c.args.second.now c.differences.new.second in
    let compared_failed = comparing-failed _ usual _ _ _ _ c.word_of.result.now first second c.in-Err.which c.in-Err.refusal
    c.fault_of.result c.fault_of.ensures c.in-Err.ensures.err c.in-Err.ensures.failed_first c.in-Err.ensures.failed_second in
    let loaded = failures_of c.args.schema.now c.load_schema.new.reader in
    let read_failed = after_reading loaded (first ∷ second ∷ []) [] c.fault_of.result c.in_ok-schema.ensures.read compared_failed in
    before_writing (loaded ∷ first ∷ second ∷ []) (failures_of c.args.output.now c.args.output.now ∷ []) c.fault_of.result read_failed
    (refl, tt)

pub returns-in-Err-clause-order : goal.returns-in-Err-clause-order
returns-in-Err-clause-order g c = first-or_accepted (c.differences.new.second
    ≡ c.args.second.now) _ _ _ _ _ _ usual _ _ refl c.in_ok-schema.ensures.ok c.in-Err.ensures.err c.in-Err.ensures.order

pub returns-in-Ok-write_whole-clause-order : goal.returns-in-Ok-write_whole-clause-order
returns-in-Ok-write_whole-clause-order g c = inr (first-listed _ _ _ _ _ _ _ _ _ _ _ c.in_ok-schema.ensures.ok
    (c.in-Ok.ensures.ok (g.S.Read.remaining c.args.schema.now.inner)))

pub returns-clause-order : goal.returns-clause-order
returns-clause-order g c = inr (first-listed _ _ _ _ _ _ _ _ _ _ _ c.in_ok-schema.ensures.ok
    (c.in-Ok.ensures.ok (g.S.Read.remaining c.args.schema.now.inner)))
