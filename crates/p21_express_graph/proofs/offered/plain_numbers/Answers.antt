use Rattle.std.specs.Prelude.{cond, [], ◌∷◌, map, take}
use Rattle.std.proofs.Common.{ap, sym, ◌∙◌}
use Rattle.p21_express_graph.specs.Meaning.{member}
use Rattle.p21_express_graph.specs.declared.kind.Member.{Member}
use Rattle.p21_express_graph.specs.declared.kind.Member.TheVariants.{Entity}
use Rattle.p21_express_graph.specs.Offered.{plain_numbers}
use Rattle.p21_express_graph.specs.SchemaContents.{schema_of}
use Rattle.p21_express_graph.proofs.offered.plain_numbers.Goals as goal
use Rattle.p21_express_graph.proofs.offered.plain_numbers.Goals.{in-Defined+then-not-is_select+in_ok-push-in-Defined, in-Defined+else-not-is_select, in-Entity}
use Rattle.p21_express_graph.proofs.Offering.{plain-more, more-none, more-one}

pub loop-member-preserved : goal.loop-member-preserved
loop-member-preserved c =
    let s = schema_of c.args.parts.now in
    let d : Member = Entity record { 0 = 0 } in
    let after = plain-more member c.args.members.now c.loop-member.member-index d c.loop-member-test.true s in
    let before = plain_numbers s (map member (take c.loop-member.member-index c.args.members.now)) in
    elim c.match-member.branch [
      | in-Defined+then-not-is_select+in_ok-push-in-Defined w ↦
          more-one _ c.loop-member.found.items before _ _ w.in-Defined.of.0 (ap (λ v. v.items) w.found-is ∙ w.in_ok-push-in-Defined.ensures.items) c.loop-member.invariant
          (ap (λ m. plain_numbers s (member m ∷ [])) w.in-Defined.is ∙ ap (λ b. cond b [] (w.in-Defined.of.0 ∷ [])) (sym w.is_select.ensures ∙ w.if-not-is_select.true)) after
      | in-Defined+else-not-is_select w ↦
          more-none _ before _ _ (ap (λ v. v.items) w.found-is ∙ c.loop-member.invariant)
          (ap (λ m. plain_numbers s (member m ∷ [])) w.in-Defined.is ∙ ap (λ b. cond b [] (w.in-Defined.of.0 ∷ [])) (sym w.is_select.ensures ∙ w.if-not-is_select.false)) after
      | in-Entity w ↦ more-none _ before _ _ (ap (λ v. v.items) w.found-is ∙ c.loop-member.invariant) (ap (λ m. plain_numbers s (member m ∷ [])) w.in-Entity.is) after
    ]
