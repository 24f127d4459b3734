-- The statements that some tokens end are one, where they are the first of some tree; and so are the references in them.
use Rattle.std.proofs.Common.{◌≡◌, ℕ, List, ap, sym, ◌∙◌}
use Rattle.std.specs.Prelude.{length}
use Rattle.std.specs.List.{flat_map}
use Rattle.p21_spec_file.specs.Held.{Held, IsHeld, statement_references}
use Rattle.p21_spec_schema.specs.Schema.{Schema}
use Rattle.p21_spec_exchange.proofs.OneTree.{one_front}

pub held_statements-one : (s : Schema) (taken : List ℕ) (x y : Held) (a : IsHeld s taken x) (b : IsHeld s taken y) → a.depth.open_statement.ended ≡ b.depth.open_statement.ended → a.statements ≡ b.statements
held_statements-one s taken x y a b same = one_front a.statements b.statements a.structure b.structure a.are_first b.are_first (sym a.ended_are ∙ same ∙ b.ended_are)

pub needs-one : (s : Schema) (taken : List ℕ) (x y : Held) (a : IsHeld s taken x) (b : IsHeld s taken y) → a.depth.open_statement.ended ≡ b.depth.open_statement.ended → x.needs ≡ y.needs
needs-one s taken x y a b same = a.needs ∙ ap (λ ss. length (flat_map statement_references ss)) (held_statements-one s taken x y a b same) ∙ sym b.needs
