use Rattle.std.proofs.Common.{refl, subst, sym, ◌∙◌}
use Rattle.std.proofs.lemmas.Slice.Eq.{bytes_eq-Decides}
use Rattle.std.specs.Prelude.{◌↔◌, Contains, IsTrue, false}
use Rattle.p21_spec_laws.specs.Stored.{Earlier, lines_of}
use Rattle.p21_stream_kept.proofs.EarlierLemmas.{line-found, line-none}
use Rattle.p21_stream_kept.proofs.earlier.Earlier.has_line.Goals as goal

pub returns-in-Some : goal.returns-in-Some
returns-in-Some c =
    let (to, from) = line-found c.self.inside.memberships c.self.inside.instances c.self.invariant.once c.args.name c.in-Some.field-0-0
    c.in-Some.text.now c.args.line.now c.in-Some.ensures.some in
    let decides = bytes_eq-Decides c.in-Some.text.now c.args.line.now in
    subst (λ (e : Earlier). IsTrue c.eq.result ↔ Contains (lines_of e.stored) (c.args.name, c.args.line.now)) c.self.view_is
    (λ yes. to (decides.0 (sym c.eq.ensures ∙ yes)), λ among. c.eq.ensures ∙ decides.1 (from among))

pub returns-in-None : goal.returns-in-None
returns-in-None c =
    subst (λ (e : Earlier). IsTrue false ↔ Contains (lines_of e.stored) (c.args.name, c.args.line.now)) c.self.view_is (
      λ yes. cc,
      λ among. absurd (line-none c.self.inside.memberships c.self.inside.instances c.args.name c.args.line.now
          (c.in-None.ensures.none refl) among),
    )
