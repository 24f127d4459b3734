-- The section lines of a tree stand in one order, with two for each data section: so statements with other section lines
-- are of no tree, or of none that a file may have.
use Rattle.std.proofs.Common.{◌≡◌, ℕ, List, [], ◌∷◌, ◌++◌, refl, ap, sym, ◌∙◌, subst}
use Rattle.std.specs.Prelude.{codes, map}
use Rattle.std.specs.List.{flat_map}
use Rattle.p21_spec_exchange.specs.DataSection.{Heading, unnamed, named, DataSection, headings, AreHeadings}
use Rattle.p21_spec_exchange.specs.OpenNesting.{EndsWithSemicolon}
use Rattle.p21_spec_exchange.specs.Record.{Part, Record}
use Rattle.p21_spec_exchange.specs.Statement.{SectionLine, begin, header_start, section_end, data_start, finish, Statement, section, header, statement_tokens}
use Rattle.p21_spec_exchange.specs.Structure.{Structure, section_statements, statements, tokens_of}
use Rattle.p21_spec_exchange.specs.Token as token
use Rattle.p21_spec_exchange.proofs.OneTree.{one_statements}
use Rattle.p21_spec_exchange.proofs.SectionOrder.{in_header, AreInOrder, instance_of, sections_with, statements-in_order}
use Rattle.p21_spec_exchange.proofs.Semicolons.{statements-end}

-- the section lines among statements
abbrev pub section_lines : List Statement → List SectionLine
section_lines [] = []
section_lines (section line ∷ ss) = line ∷ section_lines ss
section_lines (other ∷ ss) = section_lines ss

abbrev pub lines_of : Heading → List SectionLine
lines_of heading = data_start heading ∷ section_end ∷ []

-- four, and two for each data section
abbrev pub lines_for : List Heading → List SectionLine
lines_for found = begin ∷ header_start ∷ section_end ∷ (flat_map lines_of found ++ (finish ∷ []))

behind_header : (parts : List Part) (ss : List Statement) → section_lines (map header parts ++ ss) ≡ section_lines ss
behind_header [] ss = refl
behind_header (part ∷ parts) ss = behind_header parts ss

behind_instances : (is : List (ℕ × Record)) (ss : List Statement) → section_lines (map instance_of is ++ ss) ≡ section_lines ss
behind_instances [] ss = refl
behind_instances (i ∷ is) ss = behind_instances is ss

behind_sections : (xs : List DataSection) (ss : List Statement) → section_lines (flat_map section_statements xs ++ ss) ≡ flat_map lines_of (headings xs) ++ section_lines ss
behind_sections [] ss = refl
behind_sections (x ∷ xs) ss =
    ap section_lines (sections_with x xs ss)
    ∙ ap (λ z. data_start x.heading ∷ z) (behind_instances x.instances (section section_end ∷ (flat_map section_statements xs ++ ss)))
    ∙ ap (λ z. data_start x.heading ∷ section_end ∷ z) (behind_sections xs ss)

pub statements-lines : (t : Structure) → section_lines (statements t) ≡ lines_for (headings t.sections)
statements-lines t =
    ap (λ z. begin ∷ header_start ∷ z) (behind_header t.header _)
    ∙ ap (λ z. begin ∷ header_start ∷ section_end ∷ z) (behind_sections t.sections (section finish ∷ []))

pub tree-lines : (ss : List Statement) → AreInOrder in_header ss → (t : Structure) → flat_map statement_tokens ss ≡ tokens_of t → section_lines ss ≡ lines_for (headings t.sections)
tree-lines ss are t same = ap section_lines (one_statements ss (statements t) are (statements-in_order t) same) ∙ statements-lines t

-- the headings among section lines
abbrev headings_among : List SectionLine → List Heading
headings_among [] = []
headings_among (data_start heading ∷ lines) = heading ∷ headings_among lines
headings_among (other ∷ lines) = headings_among lines

headings-among : (found : List Heading) → headings_among (flat_map lines_of found ++ (finish ∷ [])) ≡ found
headings-among [] = refl
headings-among (heading ∷ found) = ap (λ z. heading ∷ z) (headings-among found)

-- statements with other headings than a file may have are of no tree that a file may have
pub no_file : (ss : List Statement) → AreInOrder in_header ss → (AreHeadings (headings_among (section_lines ss)) → ⊥) → (t : Structure) → AreHeadings (headings t.sections) → flat_map statement_tokens ss ≡ tokens_of t → ⊥
no_file ss are none t headings_are same = none (subst AreHeadings (sym (ap headings_among (tree-lines ss are t same) ∙ headings-among (headings t.sections))) headings_are)

-- with these data sections, all empty
abbrev with_sections : List Heading → List Statement
with_sections found = section begin ∷ section header_start ∷ section section_end ∷ (flat_map (λ heading. section (data_start heading) ∷ section section_end ∷ []) found ++ (section finish ∷ []))

-- two data sections without a name; one without a name and one with, in either order; none
two_unnamed : (t : Structure) → AreHeadings (headings t.sections) → flat_map statement_tokens (with_sections (unnamed ∷ unnamed ∷ [])) ≡ tokens_of t → ⊥
two_unnamed = no_file (with_sections (unnamed ∷ unnamed ∷ [])) tt (λ are. are)

named_behind_unnamed : (name schema : List ℕ) (t : Structure) → AreHeadings (headings t.sections) → flat_map statement_tokens (with_sections (unnamed ∷ named name schema ∷ [])) ≡ tokens_of t → ⊥
named_behind_unnamed name schema = no_file (with_sections (unnamed ∷ named name schema ∷ [])) tt (λ are. are)

unnamed_behind_named : (name schema : List ℕ) (t : Structure) → AreHeadings (headings t.sections) → flat_map statement_tokens (with_sections (named name schema ∷ unnamed ∷ [])) ≡ tokens_of t → ⊥
unnamed_behind_named name schema = no_file (with_sections (named name schema ∷ unnamed ∷ [])) tt (λ are. are.0)

no_data_section : (t : Structure) → AreHeadings (headings t.sections) → flat_map statement_tokens (with_sections []) ≡ tokens_of t → ⊥
no_data_section = no_file (with_sections []) tt (λ are. are)

-- two ends
abbrev ended_twice : List Statement
ended_twice = with_sections (unnamed ∷ []) ++ (section finish ∷ [])

two_ends : (t : Structure) → flat_map statement_tokens ended_twice ≡ tokens_of t → ⊥
two_ends t same = by (headings t.sections) (tree-lines ended_twice tt t same)
  where
    by : (found : List Heading) → section_lines ended_twice ≡ lines_for found → ⊥
    by [] e = cc
    by (heading ∷ []) e = cc
    by (heading ∷ next ∷ more) e = cc

-- a keyword behind the end
token_behind : (t : Structure) → flat_map statement_tokens (with_sections (unnamed ∷ [])) ++ (token.keyword (codes "X") ∷ []) ≡ tokens_of t → ⊥
token_behind t same = let ends = subst EndsWithSemicolon (sym same) (statements-end (statements t)) in cc
