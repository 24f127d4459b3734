use Rattle.std.proofs.Common.{ap, length, sym, ◌∙◌}
use Rattle.std.proofs.lemmas.List.{length-map}
use Rattle.std.proofs.lemmas.Slice.Zip.{AllZip-long}
use Rattle.p21_stream_kept.specs.Inside.{reference_of}
use Rattle.p21_stream_kept.specs.Judgements.{AnswersNeedOf}
use Rattle.p21_stream_survey.proofs.references.list_references.Goals as goal

pub list_each-requires : goal.list_each-requires
list_each-requires c =
    let kept = c.args.kept.now in
    let long = AllZip-long (AnswersNeedOf c.args.schema.now kept.stored) kept.waiting c.in-Ok.found.items c.in-Ok.ensures in
    ap length c.deref.ensures.value ∙ long ∙ sym (ap length c.waiting.ensures) ∙ length-map c.waiting.result.now reference_of
