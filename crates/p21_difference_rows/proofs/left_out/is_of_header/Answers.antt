use Rattle.p21_difference_rows.proofs.left_out.is_of_header.Goals as goal

pub returns-then-not-is_header_keyword : goal.returns-then-not-is_header_keyword
returns-then-not-is_header_keyword c told = cc

pub returns-then-is_word : goal.returns-then-is_word
returns-then-is_word c told = c.is_header_keyword.ensures c.if-not-is_header_keyword.false

pub returns-else-is_word : goal.returns-else-is_word
returns-else-is_word c told = cc
