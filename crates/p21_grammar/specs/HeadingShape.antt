-- What is answered of a data section with a name.
use Rattle.std.specs.Prelude.{◌≡◌, true, Option, Some, None}
use Rattle.p21_grammar_tree.specs.View.{part_view}
use Rattle.p21_grammar.specs.Shape.{is_heading}
use Rattle.p21_grammar.specs.declared.event.Event.{Event}
use Rattle.p21_grammar.specs.declared.event.Event.TheVariants.{Section, Named, Header, Instance}

-- it has a name and a schema
abbrev pub HasHeadingShape : Option Event → Type 0
HasHeadingShape None = Unit {0}
HasHeadingShape (Some (Section line)) = Unit {0}
HasHeadingShape (Some (Named part)) = is_heading (part_view part) ≡ true
HasHeadingShape (Some (Header part)) = Unit {0}
HasHeadingShape (Some (Instance name record_)) = Unit {0}
