use Rattle.std.proofs.Common.{List, [], ℕ, Option, None, Some, drop, length, take, subst, sym, ◌-◌, ◌∙◌}
use Rattle.p21_spec_basics.proofs.Members.{rest_is}
use Rattle.p21_stream_resume.proofs.Standing.{not-opened, there-closed, there-none, there-some}
use Rattle.p21_stream_resume.specs.Standing.{FindsAtFront}
use Rattle.p21_stream_resume.specs.declared.signpost.Signpost.{Signpost}
use Rattle.p21_stream_resume.proofs.strings.signpost_at.Goals as goal

pub returns-in-None : goal.returns-in-None
returns-in-None c =
    let bytes = c.args.bytes.now in
    let place = c.args.place in
    there-none (take place bytes) (drop place bytes) (subst (λ (l : List ℕ). FindsAtFront l None) (rest_is bytes place) (subst (λ (o : Option Signpost). FindsAtFront (take (length bytes - place) (drop place bytes)) o) c.in-None.is c.signpost_at_front.ensures))

pub returns-then-is_opened_behind : goal.returns-then-is_opened_behind
returns-then-is_opened_behind c =
    let bytes = c.args.bytes.now in
    let place = c.args.place in
    there-some (take place bytes) (drop place bytes) c.in-Some.found ((c.is_opened_behind.ensures [] (λ t. cc, λ o. absurd (not-opened o))).0 c.if-is_opened_behind.true)
    (subst (λ (l : List ℕ). FindsAtFront l (Some c.in-Some.found)) (rest_is bytes place) (subst (λ (o : Option Signpost). FindsAtFront (take (length bytes - place) (drop place bytes)) o) c.in-Some.is c.signpost_at_front.ensures))

pub returns-else-is_opened_behind : goal.returns-else-is_opened_behind
returns-else-is_opened_behind c =
    there-closed (take c.args.place c.args.bytes.now) (drop c.args.place c.args.bytes.now) (λ opened. cc (sym c.if-is_opened_behind.false ∙ (c.is_opened_behind.ensures [] (λ t. cc, λ o. absurd (not-opened o))).1 opened))
