use Rattle.p21_express_outline.specs.Known.{names_of}
use Rattle.p21_express_outline.specs.Outline.{MemberIs}
use Rattle.p21_express_graph.specs.Meaning.{member}
use Rattle.p21_express_outline.proofs.Finding.{each-refused, zip-more}
use Rattle.p21_express_outline.proofs.lists.members_named.Goals as goal

pub returns-in_err-member_named : goal.returns-in_err-member_named
returns-in_err-member_named c =
    each-refused member (λ name m. MemberIs (names_of c.args.known.now) m name) c.args.names.now c.loop-name.name-index c.name-item.result
    c.in_err-member_named.field-0.0 c.from_residual.result c.from_residual.ensures.0 c.from_residual.ensures.1 c.loop-name-test.true
    c.name-item.is
    (rw c.bytes.ensures at c.in_err-member_named.ensures)

pub loop-name-preserved : goal.loop-name-preserved
loop-name-preserved c =
    zip-more member (λ name m. MemberIs (names_of c.args.known.now) m name) c.args.names.now c.loop-name.name-index c.name-item.result
    c.loop-name.found.items c.push.new.self.items c.in_ok-member_named.field-0 c.loop-name-test.true c.name-item.is
    c.loop-name.invariant
    (rw c.bytes.ensures at c.in_ok-member_named.ensures) c.in_ok-push.ensures.items
