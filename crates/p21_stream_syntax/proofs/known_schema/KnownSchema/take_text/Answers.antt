use Rattle.std.proofs.Common.{◌≡◌, ℕ, List, true, arith, inl, sym, subst, ◌∙◌}
use Rattle.std.proofs.lemmas.Bool.{eqb-false, eqb-true}
use Rattle.std.specs.Prelude.{vec_len}
use Rattle.p21_spec_schema.specs.SchemaName.{NamesSchema}
use Rattle.p21_spec_syntax.specs.WellFormedFile.{BeginsWithName}
use Rattle.p21_stream_syntax.proofs.Known.{no-items, some-items}
use Rattle.p21_stream_syntax.proofs.known_schema.KnownSchema.take_text.Goals as goal

pub returns-then-not-begins_with_name-clause-gives : goal.returns-then-not-begins_with_name-clause-gives
returns-then-not-begins_with_name-clause-gives c = λ other. inl (λ begins.
    let passes : c.begins_with_name.result ≡ true = c.begins_with_name.ensures.1 (subst BeginsWithName (sym c.chars.ensures) begins) in
    let fails = c.if-not-begins_with_name.true in
    cc)

pub take_again-requires-clause-begins : goal.take_again-requires-clause-begins
take_again-requires-clause-begins c = subst BeginsWithName c.chars.ensures (c.begins_with_name.ensures.0 c.if-not-begins_with_name.false)

pub take_again-requires-clause-known : goal.take_again-requires-clause-known
take_again-requires-clause-known c =
    let name = c.args.self.now.name in
    some-items name.items (λ none. eqb-false (vec_len name) 0 (sym c.is_empty.ensures ∙ c.if-not-is_empty.true)
    (omega (arith, none, name.ok.0)))

pub returns-clause-gives : goal.returns-clause-gives
returns-clause-gives c =
    let name = c.args.self.now.name in
    let none = eqb-true (vec_len name) 0 (sym c.is_empty.ensures ∙ c.if-not-is_empty.false) in (
      subst BeginsWithName c.chars.ensures (c.begins_with_name.ensures.0 c.if-not-begins_with_name.false),
      subst (λ (t : List ℕ). NamesSchema t c.in-Ok.name.items) c.chars-2.ensures c.in-Ok.ensures,
      inl (no-items name.items (omega (arith, none, name.ok.0))),
    )
