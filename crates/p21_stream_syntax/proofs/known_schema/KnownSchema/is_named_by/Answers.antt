use Rattle.std.proofs.Common.{◌≢◌, ℕ, List, [], arith, sym, subst, ◌∙◌}
use Rattle.std.proofs.lemmas.Bool.{eqb-false, eqb-true}
use Rattle.std.specs.Prelude.{vec_len}
use Rattle.p21_spec_schema.specs.SchemaName.{NamesSchema}
use Rattle.p21_stream_syntax.proofs.Known.{no-items, some-items}
use Rattle.p21_stream_syntax.proofs.known_schema.KnownSchema.is_named_by.Goals as goal

pub returns-then-is_empty : goal.returns-then-is_empty
returns-then-is_empty c =
    let name = c.args.self.now.name in
    let none = eqb-true (vec_len name) 0 (sym c.is_empty.ensures ∙ c.if-is_empty.true) in
    (λ is. cc, λ both. absurd (both.0 (no-items name.items (omega (arith, none, name.ok.0)))))

pub returns : goal.returns
returns c =
    let name = c.args.self.now.name in
    let some : name.items ≢ [] = some-items name.items
    (λ none. eqb-false (vec_len name) 0 (sym c.is_empty.ensures ∙ c.if-is_empty.false) (omega (arith, none, name.ok.0))) in
    let text_is = c.chars.ensures in
    let name_is = c.deref.ensures.value in (
      λ is. (
        some,
        subst (λ (n : List ℕ). NamesSchema c.args.text.now n) name_is
            (subst (λ (t : List ℕ). NamesSchema t c.deref.result.now) text_is (c.names_schema.ensures.0 is)),
      ),
      λ both. c.names_schema.ensures.1 (subst (λ (n : List ℕ). NamesSchema c.chars.result.now n) (sym name_is)
          (subst (λ (t : List ℕ). NamesSchema t name.items) (sym text_is) both.1)),
    )
