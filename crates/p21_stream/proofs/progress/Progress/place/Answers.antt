use Rattle.std.proofs.Common.{ℕ, Option, sym, subst}
use Rattle.p21_stream_statements.specs.Place.{IsPlaceOf}
use Rattle.p21_stream_statements.specs.declared.refusal.Refusal.{Refusal}
use Rattle.p21_stream.specs.Histories.{HasPlaceOf}
use Rattle.p21_stream.specs.Inside.{held_in}
use Rattle.p21_stream.proofs.progress.Progress.place.Goals as goal

pub returns-in-Some : goal.returns-in-Some
returns-in-Some c s limits =
    subst (λ (o : Option Refusal). HasPlaceOf (record (held_in s limits c.args.self.now) { refused = o }) c.place_of.result)
    (sym c.in-Some.is)
    (subst (λ (n : ℕ). IsPlaceOf c.in-Some.refusal.fault n c.place_of.result) c.places.ensures.byte c.place_of.ensures)
