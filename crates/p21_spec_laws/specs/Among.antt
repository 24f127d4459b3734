-- The header records and the data sections among statements.
use Rattle.std.specs.Prelude.{ℕ, List, [], ◌∷◌}
use Rattle.p21_spec_exchange.specs.DataSection.{DataSection}
use Rattle.p21_spec_exchange.specs.Record.{Part, Record}
use Rattle.p21_spec_exchange.specs.Statement.{Statement, section, header, instance, data_start}

-- the header records
abbrev pub parts_among : List Statement → List Part
parts_among [] = []
parts_among (header part ∷ rest) = part ∷ parts_among rest
parts_among (other ∷ rest) = parts_among rest

-- the instances in front of the first data section
abbrev pub instances_before : List Statement → List (ℕ × Record)
instances_before [] = []
instances_before (section (data_start heading) ∷ rest) = []
instances_before (instance n record_ ∷ rest) = (n, record_) ∷ instances_before rest
instances_before (other ∷ rest) = instances_before rest

-- the data sections, each with the instances in front of the next one
abbrev pub sections_among : List Statement → List DataSection
sections_among [] = []
sections_among (section (data_start heading) ∷ rest) = record { heading = heading; instances = instances_before rest } ∷ sections_among rest
sections_among (other ∷ rest) = sections_among rest
