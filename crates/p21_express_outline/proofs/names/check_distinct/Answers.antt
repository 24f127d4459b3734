use Rattle.std.specs.Prelude.{ℕ, List}
use Rattle.std.specs.List.{IsDistinct}
use Rattle.std.specs.Str.{bytes_eq}
use Rattle.std.proofs.Common.{ap, ◌∙◌, subst}
use Rattle.p21_express_graph.specs.Rising.{texts_of}
use Rattle.p21_express_outline.specs.Finding.{DecidesClaim}
use Rattle.p21_express_outline.proofs.names.check_distinct.Goals as goal

pub returns : goal.returns
returns c = let P : List (List ℕ) → Type 0 = λ names. DecidesClaim (IsDistinct bytes_eq names) c.check_once.result in
    subst P (ap texts_of c.deref.ensures.value ∙ c.in_ok-names.ensures) c.check_once.ensures
