use Rattle.std.proofs.lemmas.Result.{on_ok_weaker}
use Rattle.p21_difference_rows.proofs.Adding.{none-added, weaker-added}
use Rattle.p21_difference_rows.proofs.Knowing.{both}
use Rattle.p21_difference_rows.proofs.Listing.{ignored-untold, near-one, near-untold, staying-told}
use Rattle.p21_difference_rows.specs.Asked.{left_out_of}
use Rattle.p21_difference_rows.specs.RealNames.{real_name}
use Rattle.p21_difference_rows.specs.Steps.{Stays, TellsIfStays}
use Rattle.p21_express_graph.specs.Meaning.{place as place_of}
use Rattle.p21_difference_rows.proofs.values.list_value.Goals as goal

pub returns-then-is_ignored : goal.returns-then-is_ignored
returns-then-is_ignored c record_ stated other p q text text_ one one_ =
    let style = c.args.style.now in
    let left = left_out_of style.left_out in
    let place = place_of c.args.found.place in
    let x = stated.canonical_meaning in
    none-added style.form style.schema.now (real_name style.names) left (TellsIfStays style.schema.now left x other c.args.name place)
    c.args.rows.now.text.items
    (ignored-untold style.schema.now left x other c.args.name place ((c.is_ignored.ensures record_ stated).0 c.if-is_ignored.true))

pub returns-then-is_near : goal.returns-then-is_near
returns-then-is_near c record_ stated other p q text text_ one one_ =
    let style = c.args.style.now in
    let left = left_out_of style.left_out in
    let place = place_of c.args.found.place in
    let x = stated.canonical_meaning in
    none-added style.form style.schema.now (real_name style.names) left (TellsIfStays style.schema.now left x other c.args.name place)
    c.args.rows.now.text.items
    (near-untold style.schema.now left x other c.args.name place
    (p, q, one.is, one_.is, (c.is_near.ensures p q text text_).0 c.if-is_near.true))

pub returns : goal.returns
returns c record_ stated other p q text text_ one one_ =
    let style = c.args.style.now in
    let left = left_out_of style.left_out in
    let place = place_of c.args.found.place in
    let x = stated.canonical_meaning in
    let stays : Stays style.schema.now left x other place = (
      λ ignored. both _ ((c.is_ignored.ensures record_ stated).1 ignored) c.if-is_ignored.false,
      λ near. both _ ((c.is_near.ensures p q text text_).1 (near-one style.schema.now left.tolerance x other place p q one one_ near))
          c.if-is_near.false,
    ) in
    on_ok_weaker c.put.result (λ adds. weaker-added style.form style.schema.now (real_name style.names) left _
    (TellsIfStays style.schema.now left x other c.args.name place) _ _
    (λ list told. staying-told style.schema.now left x other c.args.name place stays list told) adds) c.put.ensures
