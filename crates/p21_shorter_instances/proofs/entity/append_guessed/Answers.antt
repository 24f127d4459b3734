use Rattle.std.proofs.Common.{◌+◌, List, ℕ, subst, sym}
use Rattle.p21_spec_basics.proofs.Members.{rest_is}
use Rattle.p21_shorter_instances.proofs.Keywords.{opened-at}
use Rattle.p21_shorter_instances.specs.TakenParameters.{TakesOpenedEntity}
use Rattle.p21_shorter_instances.proofs.entity.append_guessed.Goals as goal

pub returns-clause-some : goal.returns-clause-some
returns-clause-some c = λ s are.
    let e = c.in_ok-entity.entity.0 in
    let bytes = c.args.bytes.now in
    let count = c.in_ok-count.count in
    let place = c.in_ok-count.ensures.place in
    let found = opened-at s e bytes count _ _ place.1 place.2 (c.in_ok-entity.ensures s are) (c.if-not-append_prefix.ensures {u = tt}) in
    subst (λ (rest : List ℕ). TakesOpenedEntity s e bytes rest c.args.draft.now c.append_prefix.new.self) (sym (rest_is bytes (count + 1)))
    found
