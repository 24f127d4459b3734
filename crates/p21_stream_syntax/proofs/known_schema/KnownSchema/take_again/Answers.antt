use Rattle.std.proofs.Common.{◌≡◌, true, inr, refl}
use Rattle.p21_stream_syntax.proofs.known_schema.KnownSchema.take_again.Goals as goal

pub returns-then-is_named_by-clause-gives : goal.returns-then-is_named_by-clause-gives
returns-then-is_named_by-clause-gives c = (c.requires.begins, (c.is_named_by.ensures.0 c.if-is_named_by.true).1, inr refl)

pub returns-else-is_named_by-clause-gives : goal.returns-else-is_named_by-clause-gives
returns-else-is_named_by-clause-gives c = λ other. inr (
  c.requires.known,
  λ names.
      let passes : c.is_named_by.result ≡ true = c.is_named_by.ensures.1 (c.requires.known, names) in
      let fails = c.if-is_named_by.false in
      cc,
)
