use Rattle.std.proofs.Common.{subst, sym}
use Rattle.p21_spec_laws.proofs.Output.{keeps-names_differ}
use Rattle.p21_spec_laws.specs.Beside.{earlier_of}
use Rattle.p21_spec_laws.specs.Stored.{beside, with_lines}
use Rattle.p21_spec_schema.specs.Schema.{Schema}
use Rattle.p21_stream.proofs.Canonicals.{both-compared, of-whole}
use Rattle.p21_stream.specs.ReaderInput.{IsWholeInput, RefusesRead}
use Rattle.p21_stream_statements.specs.declared.fault.Fault.{Fault}
use Rattle.p21_stream.proofs.comparing.same_meaning_located.Goals as goal

pub beside-beside-requires-clause-lines : goal.beside-beside-requires-clause-lines
beside-beside-requires-clause-lines g c = c.in-Ok.ensures.lines with_lines c.keeping-keeping.ensures.lines

pub is_same-requires : goal.is_same-requires
is_same-requires g c = let w = c.in-Ok-read_whole.ensures.ok.whole in keeps-names_differ _ _ w.given c.in-Ok-read_whole.kept w.keeps

pub returns-in-Ok-is_same-clause-ok : goal.returns-in-Ok-is_same-clause-ok
returns-in-Ok-is_same-clause-ok g c =
    let one = subst (λ (s : Schema). IsWholeInput s c.args.limits (g.R.Read.remaining c.args.first.now.inner)
    (g.R.Read.remaining c.read_whole.new.reader.inner) c.in-Ok.kept) c.keeping-keeping.ensures.schema c.in-Ok.ensures.ok in
    let two = subst (λ (s : Schema). IsWholeInput s c.args.limits (g.S.Read.remaining c.args.second.now.inner)
    (g.S.Read.remaining c.read_whole-2.new.reader.inner) c.in-Ok-read_whole.kept) c.beside-beside.ensures.schema
    c.in-Ok-read_whole.ensures.ok in
    let full = c.in-Ok.ensures.lines with_lines c.keeping-keeping.ensures.lines in
    let later = c.in-Ok-read_whole.ensures.lines (beside (earlier_of c.in-Ok.kept)) c.beside-beside.ensures.lines in
    both-compared c.args.schema.now c.headline.ensures.formed c.args.limits c.headline.ensures.limits _ _ _ _ c.in-Ok.kept
    c.in-Ok-read_whole.kept c.in-Ok-is_same.same one two full later (c.in-Ok-is_same.ensures (earlier_of c.in-Ok.kept) later)

pub returns-clause-err : goal.returns-clause-err
returns-clause-err g c =
    let one = subst (λ (s : Schema). IsWholeInput s c.args.limits (g.R.Read.remaining c.args.first.now.inner)
    (g.R.Read.remaining c.read_whole.new.reader.inner) c.in-Ok.kept) c.keeping-keeping.ensures.schema c.in-Ok.ensures.ok in
    let (text, of_first, canonical) = of-whole c.args.schema.now c.headline.ensures.formed c.args.limits c.headline.ensures.limits _ _
    c.in-Ok.kept one in (
      (text, of_first),
      subst (λ (s : Schema). RefusesRead s c.args.limits (g.S.Read.remaining c.args.second.now.inner)
          (g.S.Read.remaining c.read_whole-2.new.reader.inner) c.in-Err-read_whole.located.refusal.fault) c.beside-beside.ensures.schema
          c.in-Err-read_whole.ensures.err,
    )

pub returns-in-Ok-read_whole-clause-err : goal.returns-in-Ok-read_whole-clause-err
returns-in-Ok-read_whole-clause-err g c =
    let one = subst (λ (s : Schema). IsWholeInput s c.args.limits (g.R.Read.remaining c.args.first.now.inner)
    (g.R.Read.remaining c.read_whole.new.reader.inner) c.in-Ok.kept) c.keeping-keeping.ensures.schema c.in-Ok.ensures.ok in
    let (text, of_first, canonical) = of-whole c.args.schema.now c.headline.ensures.formed c.args.limits c.headline.ensures.limits _ _
    c.in-Ok.kept one in (
      (text, of_first),
      subst (λ (f : Fault). RefusesRead c.args.schema.now c.args.limits (g.S.Read.remaining c.args.second.now.inner)
          (g.S.Read.remaining c.read_whole-2.new.reader.inner) f) (sym c.in-Ok-read_whole.ensures.no_memory) tt,
    )
