use Rattle.std.proofs.Common.{[], ◌∷◌, codes, sym, ◌∙◌}
use Rattle.std.proofs.lemmas.List.{append-nil}
use Rattle.p21_syntax_words.proofs.header.push_file_name.Goals as goal

pub returns : goal.returns
returns c =
    let system = codes "authorization" ∷ [] in
    let version = codes "originating system" ∷ system in
    let organization = codes "preprocessor version" ∷ version in
    let author = codes "organization" ∷ organization in
    let stamp = codes "author" ∷ author in
    let name = codes "time stamp" ∷ stamp in
    sym (c.in_ok-values.ensures name ∙ c.in_ok-values-2.ensures stamp ∙ c.in_ok-values-3.ensures author ∙ c.in_ok-values-4.ensures organization ∙ c.in_ok-values-5.ensures version ∙ c.in_ok-values-6.ensures system ∙ c.in_ok-push_first.ensures [] ∙ append-nil _)
