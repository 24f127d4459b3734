-- Header records stand before the end of the header, and data sections behind it: in a tree, and in the first statements of one.
use Rattle.std.proofs.Common.{◌≡◌, ℕ, List, [], ◌∷◌, ◌++◌, map, ap, sym, subst, ◌∙◌, append_assoc}
use Rattle.std.specs.List.{flat_map}
use Rattle.p21_spec_exchange.specs.DataSection.{DataSection}
use Rattle.p21_spec_exchange.specs.Record.{Part, Record}
use Rattle.p21_spec_exchange.specs.Statement.{begin, header_start, section_end, data_start, finish, Statement, section, header, instance}
use Rattle.p21_spec_exchange.specs.Structure.{Structure, section_statements, statements, AreFirstStatements}

-- where statements stand
pub data Part_of_file : Type 0 where
  in_header : Part_of_file
  in_data : Part_of_file

-- no data section begins in the header, and no header record stands behind it
abbrev pub AreInOrder : Part_of_file → List Statement → Type 0
AreInOrder at [] = Unit {0}
AreInOrder in_header (section section_end ∷ ss) = AreInOrder in_data ss
AreInOrder in_header (section (data_start heading) ∷ ss) = ⊥
AreInOrder in_header (s ∷ ss) = AreInOrder in_header ss
AreInOrder in_data (header part ∷ ss) = ⊥
AreInOrder in_data (s ∷ ss) = AreInOrder in_data ss

front-in_order : (at : Part_of_file) (ss more : List Statement) → AreInOrder at (ss ++ more) → AreInOrder at ss
front-in_order at [] more are = tt
front-in_order in_header (section begin ∷ ss) more are = front-in_order in_header ss more are
front-in_order in_header (section header_start ∷ ss) more are = front-in_order in_header ss more are
front-in_order in_header (section section_end ∷ ss) more are = front-in_order in_data ss more are
front-in_order in_header (section (data_start heading) ∷ ss) more are = are
front-in_order in_header (section finish ∷ ss) more are = front-in_order in_header ss more are
front-in_order in_header (header part ∷ ss) more are = front-in_order in_header ss more are
front-in_order in_header (instance k r ∷ ss) more are = front-in_order in_header ss more are
front-in_order in_data (section line ∷ ss) more are = front-in_order in_data ss more are
front-in_order in_data (header part ∷ ss) more are = are
front-in_order in_data (instance k r ∷ ss) more are = front-in_order in_data ss more are

abbrev pub instance_of : ℕ × Record → Statement
instance_of i = instance i.0 i.1

instances-in_order : (is : List (ℕ × Record)) (ss : List Statement) → AreInOrder in_data ss → AreInOrder in_data (map instance_of is ++ ss)
instances-in_order [] ss are = are
instances-in_order (i ∷ is) ss are = instances-in_order is ss are

-- a data section with statements behind it
section_with : (x : DataSection) (ss : List Statement) → section_statements x ++ ss ≡ section (data_start x.heading) ∷ (map instance_of x.instances ++ section section_end ∷ ss)
section_with x ss = ap (λ z. section (data_start x.heading) ∷ z) (append_assoc (map instance_of x.instances) (section section_end ∷ []) ss)

-- data sections with statements behind them
pub sections_with : (x : DataSection) (xs : List DataSection) (ss : List Statement)
    → flat_map section_statements (x ∷ xs) ++ ss ≡ section (data_start x.heading) ∷ (map instance_of x.instances ++ section section_end ∷ (flat_map section_statements xs ++ ss))
sections_with x xs ss = append_assoc (section_statements x) (flat_map section_statements xs) ss ∙ section_with x (flat_map section_statements xs ++ ss)

sections-in_order : (xs : List DataSection) (ss : List Statement) → AreInOrder in_data ss → AreInOrder in_data (flat_map section_statements xs ++ ss)
sections-in_order [] ss are = are
sections-in_order (x ∷ xs) ss are =
    subst (AreInOrder in_data) (sym (sections_with x xs ss)) (instances-in_order x.instances (section section_end ∷ (flat_map section_statements xs ++ ss)) (sections-in_order xs ss are))

header-in_order : (parts : List Part) (ss : List Statement) → AreInOrder in_data ss → AreInOrder in_header (map header parts ++ section section_end ∷ ss)
header-in_order [] ss are = are
header-in_order (part ∷ parts) ss are = header-in_order parts ss are

pub statements-in_order : (t : Structure) → AreInOrder in_header (statements t)
statements-in_order t = header-in_order t.header (flat_map section_statements t.sections ++ (section finish ∷ [])) (sections-in_order t.sections (section finish ∷ []) tt)

-- statements that a tree begins with
pub first-in_order : (ss : List Statement) (t : Structure) → AreFirstStatements ss t → AreInOrder in_header ss
first-in_order ss t (later, is) = front-in_order in_header ss later (subst (AreInOrder in_header) is (statements-in_order t))
