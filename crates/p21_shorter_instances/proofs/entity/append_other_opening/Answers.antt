use Rattle.std.proofs.Common.{List, ℕ, drop, subst}
use Rattle.p21_spec_basics.proofs.Members.{rest_is}
use Rattle.p21_shorter_instances.proofs.Keywords.{entity-behind, named-before}
use Rattle.p21_shorter_instances.proofs.Leaving.{err-from}
use Rattle.p21_shorter_instances.specs.TakenParameters.{TakesDelimiter}
use Rattle.p21_shorter_instances.proofs.entity.append_other_opening.Goals as goal

pub returns-in-Some-clause-some : goal.returns-in-Some-clause-some
returns-in-Some-clause-some c =
    let s = c.args.schema.now in
    let e = c.in-Some.entity.0 in
    let front = c.behind_separators-front.result.now in
    let count = c.in-Some.count in
    let old = c.args.draft.now in
    let keyed = c.append_prefix.new.self in
    let entity = named-before s e front count old keyed (c.in-Some.ensures.some s c.requires) c.in-Some.ensures.within
    c.in-Some.ensures.ends (c.if-not-append_prefix.ensures {u = tt}) in
    record {
      behind = drop count front;
      between = keyed;
      entity = entity-behind s e c.args.bytes.now front (drop count front) old keyed c.behind_separators-front.ensures entity;
      opened = subst (λ (behind : List ℕ). TakesDelimiter 40 behind c.in-Some-append_delimiter.inside.now keyed
          c.append_delimiter.new.draft) (rest_is front count) c.in-Some-append_delimiter.ensures.some;
    }

pub returns-in_ok-entity-in-None-clause-some : goal.returns-in_ok-entity-in-None-clause-some
returns-in_ok-entity-in-None-clause-some c = rw c.in-None.ensures.none at c.in_ok-entity-in-None.ensures.some

pub returns-in_err-entity-in-None-clause-none : goal.returns-in_err-entity-in-None-clause-none
returns-in_err-entity-in-None-clause-none c = err-from _ (rw c.in-None.ensures.none at c.in_err-entity-in-None.ensures.none)
