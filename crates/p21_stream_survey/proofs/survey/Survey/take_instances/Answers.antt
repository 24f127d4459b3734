use Rattle.std.specs.Prelude.{IfSome}
use Rattle.std.proofs.Common.{◌+◌, ◌-◌, ◌≤◌, ℕ, List, Option, drop, length, take, refl, subst, sym, arith}
use Rattle.std.proofs.lemmas.List.{length-drop}
use Rattle.p21_spec_basics.proofs.Members.{rest_is}
use Rattle.p21_stream_survey.proofs.Taken.{behind-way, prepared-behind, taken-further}
use Rattle.p21_stream_survey.specs.Course.{IsUnderWay}
use Rattle.p21_stream_survey.specs.Taking.{TakesInstances}
use Rattle.p21_stream_survey.specs.Walking.{Goes}
use Rattle.p21_stream_survey.specs.declared.stage.Stage.TheVariants.{Reading}
use Rattle.p21_stream_survey.specs.declared.survey.Next.{Next}
use Rattle.p21_stream_survey.proofs.survey.Survey.take_instances.Goals as goal

pub take_instance-requires-in-loop-self-clause-under_way : goal.take_instance-requires-in-loop-self-clause-under_way
take_instance-requires-in-loop-self-clause-under_way c =
    let now = c.loop-self.self in
    let next = c.loop-self.next in
    let rest = c.args.rest.now in
    let (reading, none) = c.reads_on.ensures c.loop-self-test.true in
    subst (λ (l : List ℕ). IsUnderWay now Reading l) (sym (rest_is rest next.count))
    (behind-way c.args.self.now now rest next c.loop-self.invariant.taken.goes reading none c.requires.under_way)

pub returns-in_default-taken-clause-takes : goal.returns-in_default-taken-clause-takes
returns-in_default-taken-clause-takes c =
    let now = c.loop-self.self in
    let next = c.loop-self.next in
    let rest = c.args.rest.now in
    let new = c.take_instance-in-loop-self.new.self in
    let left : List ℕ = take (length rest - next.count) (drop next.count rest) in
    let only = subst (λ (o : Option Next). TakesInstances now left o new) c.in_default-taken.is c.in-Ok-take_instance.ensures.takes in
    prepared-behind now new only c.args.self.now rest next c.loop-self.invariant.taken.goes

pub loop-self-preserved : goal.loop-self-preserved
loop-self-preserved c =
    let now = c.loop-self.self in
    let next = c.loop-self.next in
    let rest = c.args.rest.now in
    let new = c.take_instance-in-loop-self.new.self in
    let behind = c.in-Some-taken.behind in
    let left : List ℕ = take (length rest - next.count) (drop next.count rest) in
    let (reading, none) = c.reads_on.ensures c.loop-self-test.true in
    let further = subst (λ (l : List ℕ). Goes now Reading l behind new) (rest_is rest next.count)
    (subst (λ (o : Option Next). TakesInstances now left o new) c.in-Some-taken.is c.in-Ok-take_instance.ensures.takes) in
    let within = subst (λ (l : List ℕ). behind.count ≤ length l) (rest_is rest next.count)
    (subst (λ (o : Option Next). IfSome o (λ n. n.count ≤ length left)) c.in-Some-taken.is c.in-Ok-take_instance.ensures.within) in
    record {
      taken = record {
        within = omega (arith, c.loop-self.invariant.taken.within, within, length-drop next.count rest);
        goes = taken-further c.args.self.now now rest next c.loop-self.invariant.taken.goes reading none new behind
            (record { count = next.count + behind.count; again = behind.again }) further refl refl;
      };
    }
