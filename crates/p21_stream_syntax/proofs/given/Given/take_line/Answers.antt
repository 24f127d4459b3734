use Rattle.std.proofs.Common.{List, Ok, subst, sym}
use Rattle.p21_grammar.specs.Statements.{line_of}
use Rattle.p21_spec_exchange.specs.DataSection.{Heading}
use Rattle.p21_spec_exchange.specs.Statement.{section}
use Rattle.p21_stream_syntax.proofs.Taking.{took-line}
use Rattle.p21_stream_syntax.specs.Given.{Kept, Takes, kept_of}
use Rattle.p21_stream_syntax.proofs.given.Given.take_line.Goals as goal

pub returns-clause-gives : goal.returns-clause-gives
returns-clause-gives c =
    let old : Kept = kept_of c.args.self.now in
    subst (λ (hs : List Heading). Takes old (section (line_of c.args.line)) (Ok tt) (record old { sections = hs })) (sym c.in-Ok.ensures.ok)
    (took-line old c.args.line)
