use Rattle.std.specs.Prelude.{ℕ, List, ◌++◌}
use Rattle.std.specs.List.{IsDistinct}
use Rattle.std.specs.Str.{bytes_eq}
use Rattle.std.proofs.Common.{ap, ◌∙◌, subst}
use Rattle.p21_express_graph.specs.Rising.{texts_of}
use Rattle.p21_express_outline.specs.Finding.{DecidesClaim}
use Rattle.p21_express_outline.specs.Outline.{digest_own_names}
use Rattle.p21_express_outline.proofs.names.check_attribute_names.Goals as goal

pub returns : goal.returns
returns c =
    let P : List (List ℕ) → Type 0 = λ names. DecidesClaim (IsDistinct bytes_eq names) c.check_once.result in
    let first = rw (c.deref.ensures.value, c.new-names.ensures.items) at c.in_ok-add_explicit_names.ensures in
    let second = rw c.deref-2.ensures.value at c.in_ok-add_own_names.ensures in
    subst P (ap texts_of c.deref-3.ensures.value ∙ second ∙ ap (λ names. names ++ digest_own_names c.args.entity.now.derived.items) first)
    c.check_once.ensures
