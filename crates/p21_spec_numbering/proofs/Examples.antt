-- Ranks by rounds over fresh instances, and copies, of small files: a face that has its style twice, each style with an instance
-- of its own.
use Rattle.std.specs.Prelude.{◌≡◌, ℕ, List, [], ◌∷◌, map, pos, refl}
use Rattle.p21_spec_exchange.specs.DataSection.{unnamed}
use Rattle.p21_spec_file.specs.File.{FileMeaning}
use Rattle.p21_spec_file.specs.Meaning.{Typed}
use Rattle.p21_spec_file.specs.Value.{whole, reference, list, set, Values, no_values, value}
use Rattle.p21_spec_schema.proofs.TestSchemas.{demo}
use Rattle.p21_spec_numbering.specs.Copies.{copy}
use Rattle.p21_spec_numbering.specs.Fresh.{final_rank}
use Rattle.p21_spec_numbering.specs.Numbered.{graph_of}
use Rattle.p21_spec_numbering.specs.Ordered.{ordered}

abbrev row : ℕ → Values → Typed
row entity values = record { entities = entity ∷ []; values = values ∷ [] }

abbrev pair : ℕ → ℕ → Values
pair m n = value (reference m) (value (reference n) no_values)

abbrev file : List (ℕ × Typed) → FileMeaning
file instances = record { header = []; schema = []; sections = unnamed ∷ []; instances = instances; instance_sections = map (λ i. (i.0, unnamed)) instances }

abbrev face : Typed
face = row 1 (value (whole (pos 7)) no_values)

abbrev style : Typed
style = row 1 (value (whole (pos 3)) no_values)

abbrev item : ℕ → Typed
item of = row 0 (value (list (pair of 1)) no_values)

-- #10 and #11 give the face #1 the styles #20 and #21, and #30 has both in a set
abbrev styled_file : FileMeaning
styled_file =
    file ((1, face) ∷ (10, item 20) ∷ (11, item 21) ∷ (20, style) ∷ (21, style) ∷ (30, row 0 (value (set (pair 10 11)) no_values)) ∷ [])

abbrev styled_rank : ℕ → ℕ
styled_rank = final_rank (graph_of demo styled_file)

items-alike : map styled_rank (1 ∷ 10 ∷ 11 ∷ 20 ∷ 21 ∷ 30 ∷ []) ≡ 2 ∷ 4 ∷ 4 ∷ 0 ∷ 0 ∷ 3 ∷ []
items-alike = refl

-- an order that counts copies in one sequence: #10 and its #20 are the first copy, #11 and its #21 the second
one-sequence : map (copy styled_rank (20 ∷ 21 ∷ 1 ∷ 30 ∷ 10 ∷ 11 ∷ [])) (10 ∷ 20 ∷ 11 ∷ 21 ∷ []) ≡ 0 ∷ 0 ∷ 1 ∷ 1 ∷ []
one-sequence = refl

-- one that doesn't
two-sequences : map (copy styled_rank (21 ∷ 20 ∷ 1 ∷ 30 ∷ 10 ∷ 11 ∷ [])) (10 ∷ 20 ∷ 11 ∷ 21 ∷ []) ≡ 0 ∷ 1 ∷ 1 ∷ 0 ∷ []
two-sequences = refl

-- the two that do give one meaning, and that one another
first-choice : (ordered (20 ∷ 21 ∷ 1 ∷ 30 ∷ 10 ∷ 11 ∷ []) styled_file).instances
    ≡ (3, face) ∷ (5, row 0 (value (list (pair 1 3)) no_values)) ∷ (6, row 0 (value (list (pair 2 3)) no_values)) ∷ (1, style) ∷ (2, style) ∷ (4, row 0 (value (set (pair 5 6)) no_values)) ∷ []
first-choice = refl

second-choice : (ordered (21 ∷ 20 ∷ 1 ∷ 30 ∷ 11 ∷ 10 ∷ []) styled_file).instances
    ≡ (3, face) ∷ (6, row 0 (value (list (pair 2 3)) no_values)) ∷ (5, row 0 (value (list (pair 1 3)) no_values)) ∷ (2, style) ∷ (1, style) ∷ (4, row 0 (value (set (pair 6 5)) no_values)) ∷ []
second-choice = refl

crossed-choice : (ordered (21 ∷ 20 ∷ 1 ∷ 30 ∷ 10 ∷ 11 ∷ []) styled_file).instances
    ≡ (3, face) ∷ (5, row 0 (value (list (pair 2 3)) no_values)) ∷ (6, row 0 (value (list (pair 1 3)) no_values)) ∷ (2, style) ∷ (1, style) ∷ (4, row 0 (value (set (pair 5 6)) no_values)) ∷ []
crossed-choice = refl

-- a chain is told apart from its ends, by rounds of which each but the first looks at what the last one told apart
abbrev chain_file : FileMeaning
chain_file = file ((1, row 0 (value (list no_values) no_values)) ∷ (2, row 0 (value (list (value (reference 1) no_values)) no_values)) ∷ (3, row 0 (value (list (value (reference 2) no_values)) no_values)) ∷ [])

chain-told : map (final_rank (graph_of demo chain_file)) (1 ∷ 2 ∷ 3 ∷ []) ≡ 2 ∷ 1 ∷ 0 ∷ []
chain-told = refl
