-- What a taker ends as, once what it lent has ended.
use Rattle.std.specs.Borrow.{Fml, MutBor, follows_so}
use Rattle.std.specs.Prelude.{⊤}
use Rattle.p21_shorter_instances.specs.Taker.{IsTakerOf}
use Rattle.p21_shorter_instances.specs.contracts.taker.Taker.{the_row}
use Rattle.p21_shorter_instances.specs.declared.taker.Taker.{Taker}
use Rattle.p21_spec_schema.specs.Schema.{Schema}
use mathlib.Core.Option.{none}

-- all that it keeps of the schema is right
abbrev pub RestsTaker : Schema → MutBor Taker → Fml
RestsTaker s taker = follows_so the_row the_row taker.ghost_name none (λ _ _. ⊤) (λ last. IsTakerOf s last)
