use Rattle.std.proofs.Common.{◌≡◌, ◌-◌, ◌≤◌, length}
use Rattle.p21_express_syntax.specs.DataTypes.{type_of}
use Rattle.p21_express_syntax.proofs.Nesting.{within}
use Rattle.p21_express_syntax.proofs.types.read_type.Given as goal

-- what is left leads on within the aggregates so far
abbrev pub invariant-loop-kind : goal.invariant-loop-kind
invariant-loop-kind l = record {
  leads : type_of 32 l.fn.lexemes ≡ within l.aggregates.items (type_of (32 - length l.aggregates.items) l.lexemes);
  few : length l.aggregates.items ≤ 32;
}

abbrev pub decreases-loop-kind : goal.decreases-loop-kind
decreases-loop-kind l = 32 - length l.aggregates.items
