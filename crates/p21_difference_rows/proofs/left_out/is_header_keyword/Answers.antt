use Rattle.p21_spec_differences.specs.HeaderNames.{of_file, of_section, of_user}
use Rattle.p21_difference_rows.proofs.left_out.is_header_keyword.Goals as goal

pub returns-then-begins_with : goal.returns-then-begins_with
returns-then-begins_with c told = let (rest, is) = c.begins_with.ensures c.if-begins_with.true in of_user rest is

pub returns-then-begins_with-2 : goal.returns-then-begins_with-2
returns-then-begins_with-2 c told = let (rest, is) = c.begins_with-2.ensures c.if-begins_with-2.true in of_file rest is

pub returns : goal.returns
returns c told = let (rest, is) = c.begins_with-3.ensures told in of_section rest is
