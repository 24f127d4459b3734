use Rattle.std.proofs.Common.{List, length, refl, subst}
use Rattle.std.proofs.lemmas.Option.{slice_get_read}
use Rattle.p21_express_graph.specs.Meaning.{member}
use Rattle.p21_express_graph.specs.declared.number.EntityId.{EntityId}
use Rattle.p21_spec_file.specs.Reference.{Serves}
use Rattle.p21_mapping_values.specs.TypedView.{ids_view}
use Rattle.p21_stream_kept.proofs.Serving.{serves-by_one}
use Rattle.p21_stream_kept.proofs.servers.serves_at.Goals as goal

pub returns-in-Some : goal.returns-in-Some
returns-in-Some c = λ serves.
    serves-by_one c.args.schema.now (member c.args.need.now.wanted) c.args.entities.now c.args.place c.in-Some.entity.now
    (slice_get_read c.args.entities.now (length c.args.entities.now) c.args.place c.in-Some.entity.now refl c.in-Some.ensures.lookup.3.0
    c.in-Some.ensures.lookup.1)
    (subst (λ (es : List EntityId). Serves c.args.schema.now (member c.args.need.now.wanted) (ids_view es)) c.from_ref.ensures.value
    (c.serves.ensures.0 serves))
