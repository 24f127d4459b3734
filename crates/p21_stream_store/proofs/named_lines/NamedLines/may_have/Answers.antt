use Rattle.std.proofs.Common.{ℕ, List, subst}
use Rattle.p21_stream_store.proofs.InstanceLemmas.{among_names}
use Rattle.p21_stream_store.specs.Seen.{MayHaveCome}
use Rattle.p21_stream_store.proofs.named_lines.NamedLines.may_have.Goals as goal

pub returns : goal.returns
returns c e there =
    subst (λ (words : List ℕ). MayHaveCome words c.args.name → ⊥) c.deref.ensures.value (c.may_have_come.ensures e)
    (c.self.invariant.seen c.args.name (among_names _ _ _ c.self.view_is c.self.invariant.texts c.args.name there))
