use Rattle.std.proofs.Common.{◌∷◌, ◌++◌, [], subst, sym}
use Rattle.std.proofs.lemmas.Result.{on_ok_weaker}
use Rattle.std.specs.Result.{OnOk}
use Rattle.p21_spec_exchange.specs.DataSection.{heading_of}
use Rattle.p21_spec_exchange.specs.Statement.{data_start}
use Rattle.p21_grammar.specs.Statements.{line_of, statement_of}
use Rattle.p21_grammar.specs.declared.event.Event.{Event}
use Rattle.p21_grammar_tree.specs.View.{items_of, part_view, views}
use Rattle.p21_numbered_file.proofs.SecondReading.{header-read, line-read}
use Rattle.p21_numbered_file.specs.Reading.{IsReadTo, StandsNext}
use Rattle.p21_numbered_file.proofs.read_file.ReadFile.take.Goals as goal

pub returns-in-Section : goal.returns-in-Section
returns-in-Section c =
    let s = c.args.schema.now in
    let old = c.args.self.now in
    let new = c.take_line.new.self in
    let P : Event → Type 0 = λ e. OnOk c.take_line.result
    ((next : StandsNext s old (statement_of e)) → IsReadTo s next.meaning (next.given ++ statement_of e ∷ []) new) in
    subst P (sym c.in-Section.is)
    (on_ok_weaker c.take_line.result (λ heads next. line-read s next.meaning next.given (line_of c.in-Section.line) old new next.is_read
    c.take_line.ensures.instances c.take_line.ensures.header heads) c.take_line.ensures.sections)

pub returns-in-Named : goal.returns-in-Named
returns-in-Named c =
    let s = c.args.schema.now in
    let old = c.args.self.now in
    let new = c.take_heading.new.self in
    let P : Event → Type 0 = λ e. OnOk c.take_heading.result
    ((next : StandsNext s old (statement_of e)) → IsReadTo s next.meaning (next.given ++ statement_of e ∷ []) new) in
    subst P (sym c.in-Named.is)
    (on_ok_weaker c.take_heading.result (λ heads next. line-read s next.meaning next.given
    (data_start (heading_of (views (items_of c.in-Named.part.params)))) old new next.is_read c.take_heading.ensures.instances
    c.take_heading.ensures.header heads) c.take_heading.ensures.sections)

pub returns-in-Header : goal.returns-in-Header
returns-in-Header c =
    let s = c.args.schema.now in
    let old = c.args.self.now in
    let new = c.take_header.new.self in
    let P : Event → Type 0 = λ e. OnOk c.take_header.result
    ((next : StandsNext s old (statement_of e)) → IsReadTo s next.meaning (next.given ++ statement_of e ∷ []) new) in
    subst P (sym c.in-Header.is)
    (on_ok_weaker c.take_header.result (λ header_ next. header-read s next.meaning next.given (part_view c.in-Header.part) old new
    next.is_read c.take_header.ensures.instances header_ c.take_header.ensures.sections) c.take_header.ensures.header)

pub returns-in-Instance : goal.returns-in-Instance
returns-in-Instance c =
    let s = c.args.schema.now in
    let old = c.args.self.now in
    let new = c.take_instance.new.self in
    let P : Event → Type 0 = λ e. OnOk c.take_instance.result
    ((next : StandsNext s old (statement_of e)) → IsReadTo s next.meaning (next.given ++ statement_of e ∷ []) new) in
    subst P (sym c.in-Instance.is) c.take_instance.ensures

pub take_instance-requires : goal.take_instance-requires
take_instance-requires c =
    let P : Event → Type 0 = λ e. StandsNext c.args.schema.now c.args.self.now (statement_of e) in
    subst P c.in-Instance.is c.requires
