use Rattle.p21_difference_rows.proofs.Knowing.{known-if, unknown-if_unnamed}
use Rattle.p21_difference_rows.specs.Asked.{attribute_name_of}
use Rattle.p21_model.proofs.Keywords.{named-within}
use Rattle.p21_difference_rows.proofs.left_out.is_known.Goals as goal

pub has_attribute-requires : goal.has_attribute-requires
has_attribute-requires c = named-within c.args.schema.now c.in-Some.entity.0 c.args.name.entity.now c.in-Some.ensures

pub returns-in-Some : goal.returns-in-Some
returns-in-Some c =
    let known = known-if c.args.schema.now c.well_formed-2.ensures (attribute_name_of c.args.name) c.in-Some.entity.0 c.in-Some.ensures in
    (λ told. known.0 (c.has_attribute.ensures.0 told), λ is. c.has_attribute.ensures.1 (known.1 is))

pub returns-in-None : goal.returns-in-None
returns-in-None c = (λ told. cc, λ is. absurd (unknown-if_unnamed c.args.schema.now (attribute_name_of c.args.name) c.in-None.ensures is))
