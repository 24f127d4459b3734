use Rattle.std.proofs.Common.{Some, inl, refl, subst, sym}
use Rattle.p21_c.specs.Contents.{HoldsText}
use Rattle.p21_c.specs.declared.contents.Content.{Content}
use Rattle.p21_c.proofs.names.name_under.Goals as goal

pub returns-in-Some : goal.returns-in-Some
returns-in-Some c = inl (
  c.in-Ok.text.items,
  c.in-Ok.ensures,
  subst (λ (held : Content). HoldsText (Some held) c.in-Ok.text.items)
      (sym c.in-Some.ensures) refl,
  refl,
)
