-- Needs that sets may serve one by one are served together.
use Rattle.std.specs.Prelude.{ℕ, List, [], ◌∷◌}
use Rattle.std.specs.List.{AllByRecursion as Each}
use Rattle.p21_spec_file.specs.Reference.{EntitySets, Need, Serves, IsServed}
use Rattle.p21_spec_schema.specs.Schema.{Schema}
use Rattle.p21_spec_basics.proofs.Members.{Contains-first, Contains-later}

-- some set may stand where the need wants one
abbrev pub MayBeServed : Schema → Need → Type 0
MayBeServed s need = (entities : List ℕ) × Serves s need.wanted entities

-- what is served is served among more instances
more-served : (s : Schema) (kind : ℕ × List ℕ) (kinds : EntitySets) (needs : List Need) → Each (IsServed s kinds) needs → Each (IsServed s (kind ∷ kinds)) needs
more-served s kind kinds [] served = tt
more-served s kind kinds (need ∷ needs) served = ((served.0.0, Contains-later kind kinds (need.target, served.0.0) served.0.1, served.0.2), more-served s kind kinds needs served.1)

pub served-together : (s : Schema) (needs : List Need) → Each (MayBeServed s) needs → (kinds : EntitySets) × Each (IsServed s kinds) needs
served-together s [] may = ([], tt)
served-together s (need ∷ needs) may =
    let (kinds, served) = served-together s needs may.1 in
    let kind : ℕ × List ℕ = (need.target, may.0.0) in
    (kind ∷ kinds, ((may.0.0, Contains-first kind kinds, may.0.1), more-served s kind kinds needs served))
