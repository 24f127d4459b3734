use Rattle.std.proofs.Common.{ℕ, List, OnOk, ap, subst, sym, ◌∙◌}
use Rattle.p21_grammar_tree.specs.View.{record_view}
use Rattle.p21_grammar_tree.specs.declared.record.Record.{Record}
use Rattle.p21_spec_file.specs.Reference.{record_references}
use Rattle.p21_stream_store.specs.StoredInstance.{instance_names}
use Rattle.p21_stream_syntax.proofs.Adding.{references-mapped}
use Rattle.p21_stream_syntax.specs.Waiting.{Adds, claims_in, claims_of, parts_references}
use Rattle.p21_stream_syntax.proofs.references.Waiting.add.Goals as goal

pub returns-in-Complex : goal.returns-in-Complex
returns-in-Complex c =
    let same = ap parts_references c.items.ensures.are ∙ sym (references-mapped c.in-Complex.parts)
    ∙ ap (λ (r : Record). record_references (record_view r)) (sym c.in-Complex.is) in
    subst (λ (l : List ℕ). OnOk c.add_parts.result (Adds (instance_names c.args.names.now) (claims_of c.args.holder l)
    (claims_in c.args.self.now.references.items) (claims_in c.add_parts.new.waiting.items))) same c.add_parts.ensures
