use Rattle.std.proofs.Common.{arith, sym, ◌∙◌}
use Rattle.p21_stream_store.proofs.Interning.{row-added, row-found, rows-numbered}
use Rattle.p21_stream_store.proofs.memberships.intern.Goals as goal

pub returns-in-Some-clause-ok : goal.returns-in-Some-clause-ok
returns-in-Some-clause-ok c = row-found c.args.rows.now.items c.args.numbers.now (c.args.section, c.args.set) c.in-Some.number c.requires
    (sym (c.copied.ensures ∙ c.get.ensures.value) ∙ c.in-Some.is)

pub returns-clause-numbered : goal.returns-clause-numbered
returns-clause-numbered c =
    rows-numbered c.args.rows.now.items c.push.new.self.items c.args.numbers.now c.insert.new.self (c.args.section, c.args.set)
    c.len-number.result c.requires (sym (c.copied.ensures ∙ c.get.ensures.value) ∙ c.in_default.is) (omega arith) c.in-Ok.ensures.items
    c.in-Ok-insert.ensures.updates

pub returns-clause-ok : goal.returns-clause-ok
returns-clause-ok c = row-added c.args.rows.now.items c.push.new.self.items c.args.numbers.now (c.args.section, c.args.set)
    c.len-number.result c.requires (sym (c.copied.ensures ∙ c.get.ensures.value) ∙ c.in_default.is) (omega arith) c.in-Ok.ensures.items
