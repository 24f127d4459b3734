use Rattle.std.proofs.Common.{List, Ok, subst, sym, ◌∷◌, [], ap, ◌∙◌}
use Rattle.std.proofs.lemmas.List.{map-append}
use Rattle.p21_grammar_tree.specs.View.{part_view, part_views}
use Rattle.p21_spec_exchange.specs.Record.{Part}
use Rattle.p21_spec_exchange.specs.Statement.{header}
use Rattle.p21_stream_syntax.proofs.RefusedAlone.{part-refuses}
use Rattle.p21_stream_syntax.proofs.Taking.{refused-part, took-part}
use Rattle.p21_stream_syntax.specs.Given.{Kept, Takes, kept_of}
use Rattle.p21_stream_syntax.proofs.given.Given.take_header.Goals as goal

pub returns-in-Err-clause-gives : goal.returns-in-Err-clause-gives
returns-in-Err-clause-gives c = refused-part (kept_of c.args.self.now) (kept_of c.args.self.now) (part_view c.args.part)
    c.take.new.self.name.items c.in-Err.fault c.in-Err.ensures.gives

pub returns-clause-gives : goal.returns-clause-gives
returns-clause-gives c =
    let old : Kept = kept_of c.args.self.now in
    let schema = c.take.new.self.name.items in
    let behind = ap part_views c.in-Ok-push.ensures.items ∙ map-append part_view c.args.self.now.header.items (c.args.part ∷ []) in
    subst (λ (ps : List Part). Takes old (header (part_view c.args.part)) (Ok tt) (record old { header = ps; schema = schema }))
    (sym behind) (took-part old (part_view c.args.part) schema c.in-Ok.ensures.gives)

pub returns-in-Err-clause-refuses : goal.returns-in-Err-clause-refuses
returns-in-Err-clause-refuses c = part-refuses (kept_of c.args.self.now) (part_view c.args.part) c.take.new.self.name.items c.in-Err.fault
    c.in-Err.ensures.of_text c.in-Err.ensures.gives
