use Rattle.std.specs.Global.{Vec}
use Rattle.std.specs.Prelude.{◌≡◌, ◌++◌, ℕ, List, map}
use Rattle.std.proofs.Common.{ap, ◌∙◌}
use Rattle.p21_numbering.specs.Instances.{Instance, file_instances}
use Rattle.p21_numbering.specs.Rows.{held_rows, rank_among}
use Rattle.p21_pairing.proofs.KindRows.{kinds-are, rows}
use Rattle.p21_pairing.proofs.kinds.kinds.Goals as goal

abbrev own : Instance → List ℕ
own i = i.typed.entities

pub returns : goal.returns
returns c =
    let F : List Instance = file_instances c.args.first.now in
    let S : List Instance = file_instances c.args.second.now in
    let one : held_rows c.in_ok-own.own.items ≡ map own F = c.in_ok-own.ensures
    ∙ ap (λ (vs : List (Vec ℕ)). held_rows vs ++ map own F) c.new.ensures.items in
    let both : held_rows c.in_ok-rows.rows.items ≡ rows F S = c.in_ok-rows.ensures ∙ ap (λ (rs : List (List ℕ)). rs ++ map own S) one in
    let all : held_rows c.deref.result.now ≡ rows F S = ap held_rows c.deref.ensures.value ∙ both in
    kinds-are F S c.in_ok-kinds.kinds.items (c.in_ok-kinds.ensures.ranks ∙ ap (λ (rs : List (List ℕ)). map (rank_among rs) rs) all)
