use Rattle.std.proofs.Common.{◌-◌, ℕ, arith, refl, subst, sym, ◌∙◌}
use Rattle.p21_stream_survey.proofs.ReadAlone.{finds-missing, finds-well_formed}
use Rattle.p21_stream_survey.specs.Finishing.{TellsAll}
use Rattle.p21_stream_syntax.specs.Given.{kept_of}
use Rattle.p21_stream_survey.proofs.missing.find_by_itself.Goals as goal

pub returns-then-not-is_nothing-clause-finds : goal.returns-then-not-is_nothing-clause-finds
returns-then-not-is_nothing-clause-finds c =
    finds-missing c.reading_laws.ensures.unlisted (kept_of c.args.keeper.given) c.args.keeper.names c.args.listing
    (c.args.most - c.len.result) c.in-Ok.references.items c.extent_by-extent.result _ c.in-Ok.ensures.lists
    (subst (λ (n : ℕ). TellsAll n (c.args.most - c.len.result) c.extent_by-extent.result)
    (let len = c.len-2.ensures in let own = c.in-Ok.references.ok.0 in omega (arith, len, own)) c.extent_by-extent.ensures) refl refl
    refl refl
    (λ nothing. c.is_nothing.ensures.no c.if-not-is_nothing.true (c.deref.ensures.value ∙ nothing.0, c.deref-2.ensures.value ∙ nothing.1))

pub returns-clause-finds : goal.returns-clause-finds
returns-clause-finds c =
    let nothing = c.is_nothing.ensures.yes c.if-not-is_nothing.false in
    let good = c.into_well_formed.ensures in
    finds-well_formed c.reading_laws.ensures.unlisted (kept_of c.args.keeper.given) c.args.keeper.names c.args.listing
    (c.args.most - c.len.result) c.in-Ok.references.items c.extent_by-extent.result _ c.in-Ok.ensures.lists
    (subst (λ (n : ℕ). TellsAll n (c.args.most - c.len.result) c.extent_by-extent.result)
    (let len = c.len-2.ensures in let own = c.in-Ok.references.ok.0 in omega (arith, len, own)) c.extent_by-extent.ensures) refl refl refl
    c.into_well_formed.result
    (let fewer = c.requires.fewer in let size = c.len.ensures in let own = c.args.listing.list.ok.0 in omega (arith, fewer, size, own))
    (sym c.deref.ensures.value ∙ nothing.0) (sym c.deref-2.ensures.value ∙ nothing.1) refl good.instances good.schema good.header
    good.keywords
