-- A use that the table hands out.
use Rattle.std.specs.Prelude.{◌≡◌, ℕ, List, [], ◌∷◌, Some, None}
use Rattle.std.proofs.Common.{ap, ◌∙◌}
use Rattle.p21_express_graph.specs.Meaning.{place as place_of}
use Rattle.p21_model.specs.Uses.{HandsOutUse}
use Rattle.p21_model.specs.declared.users.Use.{Use}
use Rattle.p21_model_uses.specs.Tables.{HandsOutRow}
use Rattle.p21_model_uses.specs.UseRows.{UseRow}
use Rattle.p21_spec_schema.specs.Schema.{Place}

pub none_handed : (old new : List UseRow) → HandsOutRow old None new → HandsOutUse old None new
none_handed [] new handed = handed
none_handed (u ∷ uses) new handed = absurd handed

abbrev place_in : ℕ × ℕ × ℕ → Place
place_in found = record { entity = found.1; index = found.2 }

pub one_handed : (old new : List UseRow) (found : ℕ × ℕ × ℕ) (told : Use) → HandsOutRow old (Some found) new → told.user ≡ found.0
    → place_of told.place ≡ place_in found → HandsOutUse old (Some told) new
one_handed [] new found told handed user place = absurd handed
one_handed (u ∷ uses) new found told handed user place =
    (user ∙ ap (λ (t : ℕ × ℕ × ℕ). t.0) handed.0, place ∙ ap place_in handed.0, handed.1)
