use Rattle.std.proofs.Common.{◌≡◌, ◌++◌, ◌∷◌, [], take}
use Rattle.p21_spec_laws.proofs.OfType.{AreWritten}
use Rattle.p21_grammar_tree.specs.View.{views}
use Rattle.p21_canon.proofs.Listed.{row_text}
use Rattle.p21_canon.proofs.header.+append.Given as goal

-- what is written so far
abbrev pub invariant-append_list-loop-i : goal.invariant-append_list-loop-i
invariant-append_list-loop-i l = record {
  text : l.out.items ≡ (l.fn.out.items ++ 40 ∷ []) ++ row_text (take l.i l.params);
  written : AreWritten (views (take l.i l.params));
}
