-- Data sections and how they begin (ISO 10303-21, data sections).
use Rattle.std.specs.Prelude.{ℕ, List, [], ◌∷◌, codes, map}
use Rattle.std.specs.List.{flat_map, AllByRecursion as Each}
use Rattle.p21_spec_exchange.specs.Parameter.{text, list, Params, no_params, param, key_of}
use Rattle.p21_spec_exchange.specs.Record.{Part, Record}

-- how a data section begins: without a name, or with its name and the text of its schema
pub data Heading : Type 0 where
  unnamed : Heading
  named : List ℕ → List ℕ → Heading

-- what is written where a section has a name: DATA, with the name, and a list of the one schema text
abbrev pub data_part : List ℕ → List ℕ → Part
data_part name schema = record { key = key_of (codes "DATA"); params = param (text name) (param (list (param (text schema) no_params)) no_params) }

-- the heading that such parameters give; others give none
abbrev pub heading_of : Params → Heading
heading_of (param (text chars) (param (list (param (text schema) no_params)) no_params)) = named chars schema
heading_of other = unnamed

-- a data section: its heading, and its instances with their names, in their order
pub record DataSection : Type 0 where
  pub heading : Heading
  pub instances : List (ℕ × Record)

-- how each section begins
abbrev pub headings : List DataSection → List Heading
headings sections = map (λ (x : DataSection). x.heading) sections

-- the instances of all sections, one section behind the other
abbrev pub instances_in : List DataSection → List (ℕ × Record)
instances_in sections = flat_map (λ (x : DataSection). x.instances) sections

-- the name of a section, where it has one
abbrev pub heading_names : Heading → List (List ℕ)
heading_names unnamed = []
heading_names (named name schema) = name ∷ []

-- the names of the sections that have one
abbrev pub section_names : List Heading → List (List ℕ)
section_names found = flat_map heading_names found

-- a heading with a name
abbrev pub IsNamed : Heading → Type 0
IsNamed unnamed = ⊥
IsNamed (named name schema) = Unit {0}

-- one section without a name, or one or more, each with a name
abbrev pub AreHeadings : List Heading → Type 0
AreHeadings [] = ⊥
AreHeadings (unnamed ∷ []) = Unit {0}
AreHeadings (unnamed ∷ next ∷ more) = ⊥
AreHeadings (named name schema ∷ more) = Each IsNamed more
