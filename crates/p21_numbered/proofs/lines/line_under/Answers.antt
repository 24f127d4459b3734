use Rattle.std.specs.Prelude.{◌≡◌, ◌++◌, ℕ, List}
use Rattle.std.proofs.Common.{ap, sym, subst, ◌∙◌}
use Rattle.p21_spec_file.specs.Meaning.{Typed}
use Rattle.p21_spec_numbering.specs.Renamed.{renamed_typed}
use Rattle.p21_mapping_values.specs.TypedView.{typed_view}
use Rattle.p21_canon.specs.Meant.{IsMeant}
use Rattle.p21_canon.specs.Statement.{IsCanonicalStatement}
use Rattle.p21_numbering.specs.NewNames.{new_name}
use Rattle.p21_numbered.proofs.lines.line_under.Goals as goal

pub write_record-requires : goal.write_record-requires
write_record-requires c = subst (IsMeant c.args.schema.now) (sym c.in_ok-renamed.ensures) c.requires

pub returns : goal.returns
returns c =
    let s = c.args.schema.now in
    let f : ℕ → ℕ = new_name c.args.names.now in
    let (text, is, canonical) = c.in_ok-write_record.ensures.ok in
    let whole : c.write_record.new.out.items ≡ text = is ∙ ap (λ (xs : List ℕ). xs ++ text) c.new-text.ensures.items in
    let N : ℕ → Type 0 = λ n. IsCanonicalStatement s n (typed_view c.in_ok-renamed.renamed) text in
    let T : Typed → Type 0 = λ x. IsCanonicalStatement s (f c.args.instance.name) x text in
    let P : List ℕ → Type 0 = λ xs. IsCanonicalStatement s (f c.args.instance.name) (renamed_typed f (typed_view c.args.instance.typed))
    xs in
    (c.new_name-number.ensures, subst P (sym whole) (subst T c.in_ok-renamed.ensures (subst N c.new_name-number.ensures canonical)))
