use Rattle.std.proofs.Common.{List, ℕ, ◌++◌, ap, ◌∙◌}
use Rattle.std.specs.Prelude as std
use Rattle.std.specs.declared.alloc.Global.{Global}
use Rattle.p21_commands.proofs.Syntaxes.{line-put-together}
use Rattle.p21_commands.proofs.syntax.answer_line_of.Goals as goal

pub returns : goal.returns
returns c =
    let front = ap (λ (v : std.Vec ℕ Global). v.items) c.into_bytes-line.ensures.value ∙ c.in_ok-format.ensures.ok in
    let some = c.in_ok-extend_from_slice.ensures.items ∙ ap (λ (l : List ℕ). c.into_bytes-line.result.items ++ l) c.deref.ensures.value in
    line-put-together c.args.found.now.instances c.args.found.now.schema.items _ _ _ front some c.in_ok-push.ensures.items
