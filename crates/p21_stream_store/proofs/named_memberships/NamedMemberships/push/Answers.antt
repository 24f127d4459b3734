use Rattle.std.proofs.Common.{◌≡◌, ◌+◌, Bool, List, MatchBool, Some, refl, subst, ◌∙◌}
use Rattle.p21_stream_store.specs.NamedMemberships.{AreSeen, without_text}
use Rattle.p21_stream_store.specs.Positions.{Changes, IsSame, position_marked}
use Rattle.p21_stream_store.specs.StoredInstance.{StoredInstance}
use Rattle.p21_stream_store.proofs.NamedMembershipLemmas.{all-stay, count-stays, no-other, one-noted, one-noted_count, other-added, other-refused, seen-either, seen-more, seen-same}
use Rattle.p21_stream_store.proofs.named_memberships.NamedMemberships.push.Goals as goal

pub invariant_of-self : goal.invariant_of-self
invariant_of-self c = (
  c.self.invariant.0,
  seen-same c.self.inside.seen.items c.note.new.words.items _ c.self.invariant.1
      c.note.ensures.others _ refl,
)

pub invariant_of-self-in-Ok-true : goal.invariant_of-self-in-Ok-true
invariant_of-self-in-Ok-true c = (
  subst (λ (b : Bool). MatchBool b (c.count_noted.new.count ≡ c.self.inside.count + 1) (c.count_noted.new.count ≡ c.self.inside.count))
      c.in-Ok-true.field-0-test c.in-Ok-true.ensures.count
      ∙ one-noted_count c.self.inside.noted c.self.inside.others c.args.self.now c.self.view_is c.count_noted.new.noted c.args.name
      c.args.membership c.self.inside.count c.self.invariant.0 c.requires
      (subst (λ (b : Bool). MatchBool b (Changes (position_marked c.self.inside.noted) c.args.name (Some c.args.membership)
      (position_marked c.count_noted.new.noted)) (IsSame (position_marked c.self.inside.noted)
      (position_marked c.count_noted.new.noted))) c.in-Ok-true.field-0-test c.in-Ok-true.ensures.noted),
  seen-more c.self.inside.seen.items c.note.new.words.items c.args.self.now
      (subst (λ (all : List StoredInstance). AreSeen c.self.inside.seen.items all) c.self.view_is c.self.invariant.1) c.note.ensures.others
      (without_text c.args.name c.args.membership) _ c.in-Ok.ensures.noted
      (one-noted c.self.inside.noted c.self.inside.others c.args.self.now c.self.view_is c.count_noted.new.noted c.args.name
      c.args.membership c.requires (subst (λ (b : Bool). MatchBool b
      (Changes (position_marked c.self.inside.noted) c.args.name (Some c.args.membership) (position_marked c.count_noted.new.noted))
      (IsSame (position_marked c.self.inside.noted) (position_marked c.count_noted.new.noted))) c.in-Ok-true.field-0-test
      c.in-Ok-true.ensures.noted)),
)

pub returns-in-Ok-true-clause-ok : goal.returns-in-Ok-true-clause-ok
returns-in-Ok-true-clause-ok c = one-noted c.self.inside.noted c.self.inside.others c.args.self.now c.self.view_is c.count_noted.new.noted
    c.args.name c.args.membership c.requires (subst (λ (b : Bool). MatchBool b
    (Changes (position_marked c.self.inside.noted) c.args.name (Some c.args.membership) (position_marked c.count_noted.new.noted))
    (IsSame (position_marked c.self.inside.noted) (position_marked c.count_noted.new.noted))) c.in-Ok-true.field-0-test
    c.in-Ok-true.ensures.noted)

pub push-requires : goal.push-requires
push-requires c = no-other c.self.inside.noted c.self.inside.others c.args.self.now c.self.view_is c.args.name c.requires

pub invariant_of-self-in-Ok-false : goal.invariant_of-self-in-Ok-false
invariant_of-self-in-Ok-false c = (
  subst (λ (b : Bool). MatchBool b (c.count_noted.new.count ≡ c.self.inside.count + 1) (c.count_noted.new.count ≡ c.self.inside.count))
      c.in-Ok-false.field-0-test c.in-Ok-false.ensures.count
      ∙ count-stays c.self.inside.noted c.self.inside.others c.args.self.now c.self.view_is c.count_noted.new.noted c.self.inside.count
      (subst (λ (b : Bool). MatchBool b (Changes (position_marked c.self.inside.noted) c.args.name (Some c.args.membership)
      (position_marked c.count_noted.new.noted)) (IsSame (position_marked c.self.inside.noted)
      (position_marked c.count_noted.new.noted))) c.in-Ok-false.field-0-test c.in-Ok-false.ensures.noted) c.self.invariant.0,
  seen-either c.self.inside.seen.items c.note.new.words.items c.args.self.now
      (subst (λ (all : List StoredInstance). AreSeen c.self.inside.seen.items all) c.self.view_is c.self.invariant.1) c.note.ensures.others
      (without_text c.args.name c.args.membership) _ c.in-Ok.ensures.noted c.push.result
      (other-added c.self.inside.noted c.self.inside.others c.args.self.now c.self.view_is c.count_noted.new.noted c.push.new.self
      c.args.name c.args.membership (subst (λ (b : Bool). MatchBool b
      (Changes (position_marked c.self.inside.noted) c.args.name (Some c.args.membership) (position_marked c.count_noted.new.noted))
      (IsSame (position_marked c.self.inside.noted) (position_marked c.count_noted.new.noted))) c.in-Ok-false.field-0-test
      c.in-Ok-false.ensures.noted) c.push.result c.push.ensures.ok)
      (other-refused c.self.inside.noted c.self.inside.others c.args.self.now c.self.view_is c.count_noted.new.noted c.push.new.self
      (subst (λ (b : Bool). MatchBool b (Changes (position_marked c.self.inside.noted) c.args.name (Some c.args.membership)
      (position_marked c.count_noted.new.noted)) (IsSame (position_marked c.self.inside.noted)
      (position_marked c.count_noted.new.noted))) c.in-Ok-false.field-0-test c.in-Ok-false.ensures.noted) c.push.result
      c.push.ensures.err),
)

pub returns-in-Ok-false-clause-ok : goal.returns-in-Ok-false-clause-ok
returns-in-Ok-false-clause-ok c =
    other-added c.self.inside.noted c.self.inside.others c.args.self.now c.self.view_is c.count_noted.new.noted c.push.new.self c.args.name
    c.args.membership (subst (λ (b : Bool). MatchBool b
    (Changes (position_marked c.self.inside.noted) c.args.name (Some c.args.membership) (position_marked c.count_noted.new.noted))
    (IsSame (position_marked c.self.inside.noted) (position_marked c.count_noted.new.noted))) c.in-Ok-false.field-0-test
    c.in-Ok-false.ensures.noted) c.push.result c.push.ensures.ok

pub returns-in-Ok-false-clause-err : goal.returns-in-Ok-false-clause-err
returns-in-Ok-false-clause-err c =
    other-refused c.self.inside.noted c.self.inside.others c.args.self.now c.self.view_is c.count_noted.new.noted c.push.new.self
    (subst (λ (b : Bool). MatchBool b (Changes (position_marked c.self.inside.noted) c.args.name (Some c.args.membership)
    (position_marked c.count_noted.new.noted)) (IsSame (position_marked c.self.inside.noted) (position_marked c.count_noted.new.noted)))
    c.in-Ok-false.field-0-test c.in-Ok-false.ensures.noted) c.push.result c.push.ensures.err

pub invariant_of-self-in-Err : goal.invariant_of-self-in-Err
invariant_of-self-in-Err c = (
  c.in-Err.ensures.err.1 ∙ count-stays c.self.inside.noted c.self.inside.others c.args.self.now c.self.view_is c.count_noted.new.noted
      c.self.inside.count c.in-Err.ensures.err.0 c.self.invariant.0,
  seen-same c.self.inside.seen.items c.note.new.words.items c.args.self.now
      (subst (λ (all : List StoredInstance). AreSeen c.self.inside.seen.items all) c.self.view_is c.self.invariant.1) c.note.ensures.others
      _ (all-stay c.self.inside.noted c.self.inside.others c.args.self.now c.self.view_is c.count_noted.new.noted c.in-Err.ensures.err.0),
)

pub returns-in-Err-clause-err : goal.returns-in-Err-clause-err
returns-in-Err-clause-err c = all-stay c.self.inside.noted c.self.inside.others c.args.self.now c.self.view_is c.count_noted.new.noted
    c.in-Err.ensures.err.0
