use Rattle.std.proofs.Common.{◌%◌, ◌/◌, ◌<◌, length, arith, refl, sym}
use Rattle.std.specs.Vec.{with_item}
use Rattle.p21_stream_store.proofs.PageLemmas.{none_in, number_kept, number_set, page_again, rooms_set}
use Rattle.p21_stream_store.proofs.pages.Pages.set.Goals as goal

pub returns-clause-set : goal.returns-clause-set
returns-clause-set g c = λ none.
    let there : c.args.name / 4096 < length c.args.self.now.pages.items = omega (arith, c.if-number-len.false, c.len.ensures) in
    let again = page_again c.args.self.now.pages.items _ c.index.result.now c.index_mut.result.now there c.index.ensures
    c.index_mut.ensures.value in
    number_set none c.args.self.now.pages.items c.args.name c.index_mut.result.now there c.index_mut.ensures.value
    (with_item c.index_mut.result.now (c.args.name % 4096) c.args.value) c.args.value
    (omega (arith, c.if-index-len.false, c.len-2.ensures, again)) refl

pub returns-clause-others : goal.returns-clause-others
returns-clause-others g c = λ none other differs.
    number_kept none c.args.self.now.pages.items c.args.name c.index_mut.result.now (omega (arith, c.if-number-len.false, c.len.ensures))
    c.index_mut.ensures.value
    (with_item c.index_mut.result.now (c.args.name % 4096) c.args.value) c.args.value refl other differs

pub returns-clause-room : goal.returns-clause-room
returns-clause-room g c =
    let rooms = rooms_set c.args.self.now.pages.items _ c.index_mut.result.now
    (with_item c.index_mut.result.now (c.args.name % 4096) c.args.value) (omega (arith, c.if-number-len.false, c.len.ensures))
    c.index_mut.ensures.value in
    omega (arith, rooms)

pub invariant_of-self : goal.invariant_of-self
invariant_of-self g c =
    let rooms = rooms_set c.args.self.now.pages.items _ c.index_mut.result.now
    (with_item c.index_mut.result.now (c.args.name % 4096) c.args.value) (omega (arith, c.if-number-len.false, c.len.ensures))
    c.index_mut.ensures.value in
    record { made_is = omega (arith, rooms, c.args.self.now.made_is) }

pub returns-then-index-len-clause-absent : goal.returns-then-index-len-clause-absent
returns-then-index-len-clause-absent g c = λ e none.
    sym (none_in none c.args.self.now.pages.items c.args.name c.index.result.now (omega (arith, c.if-number-len.false, c.len.ensures))
    c.index.ensures (omega (arith, c.if-index-len.true, c.len-2.ensures)))
