use Rattle.std.proofs.Common.{◌∙◌, ◌≡◌, arith, subst, sym, true}
use Rattle.std.proofs.lemmas.Grind.{get_or_default_zero}
use Rattle.p21_spec_schema.specs.Express.{IsIdentifierByte}
use Rattle.p21_stream_syntax.proofs.Prefixes.{longest-all, longest-at}
use Rattle.p21_stream_syntax.proofs.schema_name.prefix_length.Goals as goal

pub returns-then-not-is_identifier_character-clause-longest : goal.returns-then-not-is_identifier_character-clause-longest
returns-then-not-is_identifier_character-clause-longest c =
    longest-at c.args.text.now c.loop-place.place c.loop-place-test.true c.loop-place.invariant
    (λ of.
    let same = c.index-text-place.is ∙ get_or_default_zero c.args.text.now c.loop-place.place c.index-text-place.result
    c.loop-place-test.true in
    let passes : c.is_identifier_character.result ≡ true = c.is_identifier_character.ensures.1 (subst IsIdentifierByte (sym same) of) in
    let fails = c.if-not-is_identifier_character.true in
    cc)

pub returns-clause-longest : goal.returns-clause-longest
returns-clause-longest c = longest-all c.args.text.now (λ k h. c.loop-place.invariant k (omega (arith, h)))
