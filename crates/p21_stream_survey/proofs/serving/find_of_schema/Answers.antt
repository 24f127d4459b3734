use Rattle.std.proofs.Common.{◌-◌, ℕ, List, refl, sym, subst, ◌∙◌, arith}
use Rattle.p21_spec_basics.specs.Limits.{Limits}
use Rattle.p21_spec_exchange.specs.Statement.{Statement}
use Rattle.p21_spec_laws.specs.Keeping.{Keeps, Kept}
use Rattle.p21_spec_schema.specs.Schema.{Schema}
use Rattle.p21_stream_kept.specs.Taking.{IsKeptOfFile}
use Rattle.p21_stream_output.specs.Ending.{IsFileOfKept}
use Rattle.p21_stream_survey.proofs.ReadWhole.{finds-none, finds-some, kept-of_file}
use Rattle.p21_stream_survey.specs.Finishing.{TellsAll}
use Rattle.p21_stream_survey.proofs.serving.find_of_schema.Goals as goal

pub returns-then-not-is_nothing-clause-finds : goal.returns-then-not-is_nothing-clause-finds
returns-then-not-is_nothing-clause-finds c =
    finds-some c.reading_laws.ensures.unlisted c.args.schema.now c.well_formed-2.ensures c.args.sieve c.args.listing
    (c.args.most - c.len.result) c.in-Ok.references.items c.extent_by-extent.result _ c.in-Ok.ensures.lists
    (subst (λ (n : ℕ). TellsAll n (c.args.most - c.len.result) c.extent_by-extent.result)
    (let len = c.len-2.ensures in let own = c.in-Ok.references.ok.0 in omega (arith, len, own)) c.extent_by-extent.ensures) refl refl
    refl refl
    (λ nothing. c.is_nothing.ensures.no c.if-not-is_nothing.true (c.deref.ensures.value ∙ nothing.0, c.deref-2.ensures.value ∙ nothing.1))

pub into_accepted-requires : goal.into_accepted-requires
into_accepted-requires c =
    subst IsKeptOfFile (sym c.into_kept.ensures) (kept-of_file c.args.schema.now c.args.sieve c.args.listing c.requires.whole
    (sym c.deref.ensures.value ∙ (c.is_nothing.ensures.yes c.if-not-is_nothing.false).0))

pub returns-in-Ok-into_accepted-clause-finds : goal.returns-in-Ok-into_accepted-clause-finds
returns-in-Ok-into_accepted-clause-finds c =
    let nothing = c.is_nothing.ensures.yes c.if-not-is_nothing.false in
    finds-none c.reading_laws.ensures.unlisted c.args.schema.now c.well_formed-2.ensures c.args.sieve c.args.listing
    (c.args.most - c.len.result) c.in-Ok.references.items c.extent_by-extent.result c.in-Ok-into_accepted.accepted _
    c.in-Ok.ensures.lists
    (subst (λ (n : ℕ). TellsAll n (c.args.most - c.len.result) c.extent_by-extent.result)
    (let len = c.len-2.ensures in let own = c.in-Ok.references.ok.0 in omega (arith, len, own)) c.extent_by-extent.ensures)
    (let fewer = c.requires.fewer in let size = c.len.ensures in let own = c.args.listing.list.ok.0 in omega (arith, fewer, size, own))
    (sym c.deref.ensures.value ∙ nothing.0) (sym c.deref-2.ensures.value ∙ nothing.1)
    (subst (λ (k : Kept). (s : Schema) (limits : Limits) (given : List Statement) → Keeps s limits given k
    → IsFileOfKept k c.in-Ok-into_accepted.accepted) c.into_kept.ensures c.in-Ok-into_accepted.ensures.kept) refl refl refl refl
