use Rattle.std.specs.Prelude.{ℕ, List}
use Rattle.std.proofs.Common.{sym, subst, ◌∙◌}
use Rattle.std.proofs.lemmas.List.{length-map}
use Rattle.p21_numbering.specs.Instances.{file_instance, file_instances, names_of}
use Rattle.p21_numbering.specs.NewNames.{NamesGet}
use Rattle.p21_pairing.proofs.NewNames.{names-by}
use Rattle.p21_pairing.proofs.names.names_by.Goals as goal

pub returns : goal.returns
returns c once =
    let first = file_instances c.args.first.now in
    let news : List ℕ = c.in_ok-news.news.items in
    let G : List ℕ → Type 0 = λ xs. NamesGet c.in_ok-names.names (names_of first) xs in
    names-by c.args.partners.now first (file_instances c.args.second.now) news c.in_ok-names.names
    (c.in_ok-news.ensures.size ∙ sym (length-map c.args.first.now file_instance))
    (subst G c.deref.ensures.value c.in_ok-names.ensures) c.in_ok-news.ensures.names once
