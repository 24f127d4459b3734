use Rattle.std.proofs.Common.{◌≡◌, ◌∙◌, ◌∷◌, ◌<◌, ℕ, List, ap, length, subst, sym}
use Rattle.std.specs.List.{AllByRecursion as Each}
use Rattle.std.specs.Vec.Iter.{into_iter_items}
use Rattle.p21_mapping_values.specs.TypedView.{typed_view}
use Rattle.p21_numbering.specs.Instances.{Instance}
use Rattle.p21_numbering.specs.Rows.{lent_rows}
use Rattle.p21_numbered_file.proofs.NumberedTexts.{named-more, texts-found}
use Rattle.p21_numbered_file.specs.Instances.{texts_at}
use Rattle.p21_numbered_file.specs.declared.read_file.ReadInstance.{ReadInstance}
use Rattle.p21_numbered_file.proofs.numbering.named_instances.Goals as goal

pub loop-one-preserved : goal.loop-one-preserved
loop-one-preserved c =
    let texts = c.args.texts.now in
    let one = c.in-Some.one in
    let rest : List ReadInstance = into_iter_items c.next.new.self in
    let steps : into_iter_items c.loop-one.one-iterator ≡ one ∷ rest = c.in-Some.ensures.steps.0 in
    let E : List ReadInstance → Type 0 = λ xs. Each (λ (i : ReadInstance). i.section < length texts) xs in
    let low : E (one ∷ rest) = subst E steps c.loop-one.invariant.low in
    let heading_is : lent_rows c.deref.result.now ≡ texts_at texts one.section = ap lent_rows c.deref.ensures.value
    ∙ sym (texts-found texts one.section c.index-texts-section.result low.0 c.index-texts-section.is) in
    let by_heading : List (List ℕ) → Instance = λ h. record { name = one.name; heading = h; typed = typed_view one.typed } in
    record {
      named = named-more texts _ c.loop-one.named.items c.push.new.self.items (into_iter_items c.loop-one.one-iterator) rest one _ steps
          c.in_ok-push.ensures.items (ap by_heading heading_is) c.loop-one.invariant.named;
      low = low.1;
    }
