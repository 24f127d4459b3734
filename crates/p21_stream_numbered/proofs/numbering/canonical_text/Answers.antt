use Rattle.std.proofs.Common.{◌≡◌, List, ℕ, subst, sym}
use Rattle.std.proofs.lemmas.Result.{IfErr-weaker, IfOk-weaker}
use Rattle.p21_stream.proofs.Canonicals.{canonical-of_read}
use Rattle.p21_stream.specs.Answers.{IsCanonicalOfRead}
use Rattle.p21_stream.specs.ReaderInput.{RefusesRead, read_failures}
use Rattle.p21_stream_statements.specs.declared.fault.Fault.{Fault}
use Rattle.p21_stream_statements.specs.declared.fault.Fault.TheVariants.{NoMemory}
use Rattle.p21_stream_statements.specs.declared.refusal.Refusal.{Refusal}
use Rattle.p21_stream_numbered.proofs.numbering.canonical_text.Goals as goal

pub returns-in-Ok-clause-ok : goal.returns-in-Ok-clause-ok
returns-in-Ok-clause-ok g c =
    let C : List ℕ → Type 0 = λ text. IsCanonicalOfRead c.args.schema.now c.args.limits (g.R.Read.remaining c.args.reader.now.inner)
    (g.R.Read.remaining c.accept.new.reader.inner) text in
    let canonical = canonical-of_read _ c.headline.ensures.formed _ c.headline.ensures.limits _ _ c.in-Ok.accepted c.in-Ok.ensures.ok in
    IfOk-weaker _ _ _ (λ text same. subst C (sym same) canonical) c.whole_text.ensures.ok

pub returns-in-Ok-clause-err : goal.returns-in-Ok-clause-err
returns-in-Ok-clause-err g c =
    let R : Fault → Type 0 = RefusesRead c.args.schema.now c.args.limits (g.R.Read.remaining c.args.reader.now.inner)
    (g.R.Read.remaining c.accept.new.reader.inner) in
    let P : Refusal → Type 0 = λ refusal. refusal.fault ≡ NoMemory in
    let Q : Refusal → Type 0 = λ refusal. R refusal.fault in
    IfErr-weaker c.whole_text.result P Q (λ refusal same. subst R (sym same) tt) c.whole_text.ensures.err

pub returns-in-Ok-clause-failed : goal.returns-in-Ok-clause-failed
returns-in-Ok-clause-failed g c =
    let F : Fault → Type 0 = λ fault. c.accept.new.reader.failures ≡ read_failures c.args.reader.now.failures fault in
    let P : Refusal → Type 0 = λ refusal. refusal.fault ≡ NoMemory in
    let Q : Refusal → Type 0 = λ refusal. F refusal.fault in
    IfErr-weaker c.whole_text.result P Q (λ refusal same. subst F (sym same) c.in-Ok.ensures.read) c.whole_text.ensures.err
