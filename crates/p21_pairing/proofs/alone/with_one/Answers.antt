use Rattle.std.specs.Prelude.{◌≡◌, ◌<◌, ◌+◌, ℕ, List, length, slice_set}
use Rattle.std.proofs.Common.{arith, ap, sym, subst, ◌∙◌}
use Rattle.std.proofs.lemmas.List.{get_or_read_under}
use Rattle.p21_numbering.specs.Arrays.{rank_at}
use Rattle.p21_pairing.specs.declared.alone.Holder.{Holder}
use Rattle.p21_pairing.specs.declared.alone.Holder.TheVariants.{Nobody}
use Rattle.p21_pairing.specs.Holders.{AreHolders, holder_at, more_held}
use Rattle.p21_pairing.proofs.Holding.{more-holders, passed-held}
use Rattle.p21_pairing.proofs.alone.with_one.Goals as goal

pub index-holder-requires : goal.index-holder-requires
index-holder-requires c =
    let low = c.requires.within (c.args.start + c.args.one) (omega (arith, c.requires.long, c.requires.one)) in
    omega (arith, low, c.requires.size)

pub returns-then-is_taken-clause-each : goal.returns-then-is_taken-clause-each
returns-then-is_taken-clause-each c = passed-held c.args.keys.now c.args.start c.args.partners.now c.args.one c.args.holders.items
    (λ free. c.is_taken.ensures.yes c.if-is_taken.true free.1) c.requires.each

pub returns-clause-each : goal.returns-clause-each
returns-clause-each c =
    let keys : List ℕ = c.args.keys.now in
    let own : ℕ = rank_at keys (c.args.start + c.args.one) in
    let low : own < length keys = c.requires.within (c.args.start + c.args.one) (omega (arith, c.requires.long, c.requires.one)) in
    let at : c.index-holder.result.now ≡ holder_at c.args.holders.items own =
    get_or_read_under c.args.holders.items own (length keys) c.index-holder.result.now Nobody c.index-holder.ensures low
    (sym c.requires.size) in
    let P : Holder → Type 0 = λ h. AreHolders keys c.args.start c.args.partners.now (c.args.one + 1)
    (slice_set c.args.holders.items own h) in
    subst P (sym (c.with_holder.ensures ∙ ap (λ (h : Holder). more_held h c.args.one) at))
    (more-holders keys c.args.start c.args.partners.now c.args.one c.args.holders.items c.requires.size
    (c.requires.one, c.is_taken.ensures.no c.if-is_taken.false) low c.requires.each)
