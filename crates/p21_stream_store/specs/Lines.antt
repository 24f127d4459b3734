-- Lines that are looked up together.
use Rattle.std.specs.Prelude.{ℕ, List, map}
use denote.Ref.{Bor}

-- what stands in the slices
abbrev pub read_lines : List (Bor (List ℕ)) → List (List ℕ)
read_lines texts = map (λ (text : Bor (List ℕ)). text.now) texts
