use Rattle.std.proofs.Common.{◌≡◌, ◌∙◌, sym, false}
use Rattle.p21_spec_exchange.specs.Parameter.{param}
use Rattle.p21_model.proofs.Handing.{next-left, none-rows, row-handed}
use Rattle.p21_model.proofs.RowsLeft.{next-row}
use Rattle.p21_model_values.specs.Ends.{is_at_end}
use Rattle.p21_model.proofs.attributes.Attributes.next.Goals as goal

pub returns-in-None-clause-handed : goal.returns-in-None-clause-handed
returns-in-None-clause-handed c rows tells = none-rows rows c.loop-self.self
    (c.in-None.ensures.told rows (c.loop-self.invariant.0 rows tells) (sym c.is_empty.ensures ∙ c.loop-self-test.true))

pub returns-in_default-clause-handed : goal.returns-in_default-clause-handed
returns-in_default-clause-handed c rows tells =
    let more : is_at_end c.loop-self.self.values.rest.now ≡ false = sym c.is_empty.ensures ∙ c.loop-self-test.false in
    let row = next-row c.loop-self.self.places.schema.now _ c.loop-self.self.values.rest.now rows (c.loop-self.invariant.0 rows tells)
    more in
    absurd (c.in_default.ensures.handed (param row.p row.ps) row.after row.left)

pub returns-in_default-next-clause-handed : goal.returns-in_default-next-clause-handed
returns-in_default-next-clause-handed c rows tells =
    let more : is_at_end c.loop-self.self.values.rest.now ≡ false = sym c.is_empty.ensures ∙ c.loop-self-test.false in
    let row = next-row c.loop-self.self.places.schema.now _ c.loop-self.self.values.rest.now rows (c.loop-self.invariant.0 rows tells)
    more in
    absurd (c.in_default-next.ensures.place row.place row.places row.places_are)

pub returns-clause-handed : goal.returns-clause-handed
returns-clause-handed c rows tells =
    let more : is_at_end c.loop-self.self.values.rest.now ≡ false = sym c.is_empty.ensures ∙ c.loop-self-test.false in
    let s = c.loop-self.self.places.schema.now in
    let row = next-row s _ c.loop-self.self.values.rest.now rows (c.loop-self.invariant.0 rows tells) more in
    let value = c.in-Some-next.ensures.handed (param row.p row.ps) row.after row.left in
    let place = c.in-Some-next-2.ensures.place row.place row.places row.places_are in
    row-handed rows row.place row.p row.others _ _ row.rows_are place.0 value.0
    (next-left s _ _ _ c.loop-self.self.values.rest.now _ rows row c.in-Some-next-2.ensures.schema place.1 value.1)
