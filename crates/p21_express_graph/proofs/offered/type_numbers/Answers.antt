use Rattle.std.specs.Prelude.{[], ◌∷◌, map, take}
use Rattle.std.proofs.Common.{ap, ◌∙◌}
use Rattle.p21_express_graph.specs.Meaning.{member}
use Rattle.p21_express_graph.specs.declared.kind.Member.{Member}
use Rattle.p21_express_graph.specs.declared.kind.Member.TheVariants.{Entity}
use Rattle.p21_express_graph.specs.Offered.{type_numbers}
use Rattle.p21_express_graph.proofs.offered.type_numbers.Goals as goal
use Rattle.p21_express_graph.proofs.offered.type_numbers.Goals.{in-Defined+in_ok-push-in-Defined, in-Entity}
use Rattle.p21_express_graph.proofs.Offering.{type-more, more-none, more-one}

pub loop-member-preserved : goal.loop-member-preserved
loop-member-preserved c =
    let d : Member = Entity record { 0 = 0 } in
    let after = type-more member c.args.members.now c.loop-member.member-index d c.loop-member-test.true in
    let before = type_numbers (map member (take c.loop-member.member-index c.args.members.now)) in
    elim c.match-member.branch [
      | in-Defined+in_ok-push-in-Defined w ↦ more-one _ c.loop-member.found.items before _ _ w.in-Defined.of.0 (ap (λ v. v.items) w.found-is ∙ w.in_ok-push-in-Defined.ensures.items) c.loop-member.invariant (ap (λ m. type_numbers (member m ∷ [])) w.in-Defined.is) after
      | in-Entity w ↦ more-none _ before _ _ (ap (λ v. v.items) w.found-is ∙ c.loop-member.invariant) (ap (λ m. type_numbers (member m ∷ [])) w.in-Entity.is) after
    ]
