use Rattle.std.specs.Prelude.{◌≡◌, List, true, false, Contains, refl}
use Rattle.std.proofs.Common.{sym, subst, ◌∙◌}
use Rattle.p21_express_outline.proofs.Finding.{take-all}
use Rattle.p21_express_outline.specs.Outline.{digest_own_names}
use Rattle.p21_express_syntax.specs.declared.attributes.AttributeName.{AttributeName}
use Rattle.p21_express.proofs.Deriving.{new-at, none-more}
use Rattle.p21_express.proofs.derived.has_new.Goals as goal

pub returns-then-is_new : goal.returns-then-is_new
returns-then-is_new c = (
  λ yes. new-at c.args.attributes.now c.loop-attribute.attribute-index c.attribute-item.result c.args.name.now c.loop-attribute-test.true
      c.attribute-item.is (c.is_new.ensures.0 c.if-is_new.true),
  λ among. refl,
)

pub loop-attribute-preserved : goal.loop-attribute-preserved
loop-attribute-preserved c = none-more c.args.attributes.now c.loop-attribute.attribute-index c.attribute-item.result c.args.name.now
    c.loop-attribute-test.true c.attribute-item.is c.loop-attribute.invariant
    (λ among. let t : true ≡ false = sym (c.is_new.ensures.1 among) ∙ c.if-is_new.false in cc)

pub returns : goal.returns
returns c =
    let P : List AttributeName → Type 0 = λ xs. Contains (digest_own_names xs) c.args.name.now in (
      λ no. let t : false ≡ true = no in cc,
      λ among. absurd (c.loop-attribute.invariant (subst P
          (sym (take-all c.args.attributes.now c.loop-attribute.attribute-index c.loop-attribute-test.false)) among)),
    )
