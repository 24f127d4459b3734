use Rattle.std.specs.List.{IsDistinct, AllByRecursion as Each}
use Rattle.std.specs.Prelude.{◌≡◌, ℕ, List, nat_eq, Contains}
use Rattle.std.proofs.Common.{sym, subst}
use Rattle.p21_spec_numbering.specs.Copies.{IsAligned, IsDecided}
use Rattle.p21_spec_numbering.specs.Laws.{ranking_of}
use Rattle.p21_spec_numbering.specs.Ordered.{number_in}
use Rattle.p21_numbering.specs.declared.instances.Instance.{Instance as Code}
use Rattle.p21_numbering.specs.Instances.{AreInstancesOf, Instance, file_instances}
use Rattle.p21_numbering.specs.NewNames.{new_name}
use Rattle.p21_numbering.specs.NodesOf.{HasKnownParts}
use Rattle.p21_numbered.proofs.Numbering.{lines-numbered, numbers-apart}
use Rattle.p21_numbered.specs.Lines.{AreOfFile, held_lines}
use Rattle.p21_numbered.proofs.lines.numbered_lines.Goals as goal

pub file_order-requires : goal.file_order-requires
file_order-requires c =
    let P : List Code → Type 0 = λ all. Each (λ (i : Instance). HasKnownParts c.args.schema.now i.typed) (file_instances all) in
    subst P (sym c.deref.ensures.value) c.requires.known

pub returns-in-Err : goal.returns-in-Err
returns-in-Err c bytes m reads are =
    let A : List Code → Type 0 = λ all. AreInstancesOf m (file_instances all) in
    c.in-Err.ensures bytes m reads (subst A (sym c.deref.ensures.value) are)

pub lines_under-requires-clause-apart : goal.lines_under-requires-clause-apart
lines_under-requires-clause-apart c =
    let s = c.args.schema.now in
    let file : AreOfFile s (file_instances c.args.instances.items) = c.requires.file in
    let A : List Code → Type 0 = λ all. AreInstancesOf file.meaning (file_instances all) in
    let answered : IsDecided (ranking_of s) file.meaning × IsAligned (ranking_of s) file.meaning c.in-Ok.order.items =
    c.in-Ok.ensures file.bytes file.meaning file.reads (subst A (sym c.deref.ensures.value) file.are) in
    let G : List ℕ → Type 0 = λ xs. IsDistinct nat_eq xs → (n : ℕ) → Contains xs n → new_name c.in_ok-numbers.numbers n ≡ number_in xs n in
    numbers-apart s c.well_formed-2.ensures file.bytes file.meaning file.reads (file_instances c.args.instances.items) file.are
    (ranking_of s) c.in-Ok.order.items answered.1.is_order (new_name c.in_ok-numbers.numbers)
    (subst G c.deref-2.ensures.value c.in_ok-numbers.ensures answered.1.is_order.once)

pub returns : goal.returns
returns c bytes m reads are =
    let s = c.args.schema.now in
    let A : List Code → Type 0 = λ all. AreInstancesOf m (file_instances all) in
    let answered : IsDecided (ranking_of s) m × IsAligned (ranking_of s) m c.in-Ok.order.items =
    c.in-Ok.ensures bytes m reads (subst A (sym c.deref.ensures.value) are) in
    let G : List ℕ → Type 0 = λ xs. IsDistinct nat_eq xs → (n : ℕ) → Contains xs n → new_name c.in_ok-numbers.numbers n ≡ number_in xs n in
    record {
      decided = answered.0;
      order = c.in-Ok.order.items;
      aligned = answered.1;
      lines_are = lines-numbered s c.well_formed-2.ensures bytes m reads (file_instances c.args.instances.items) are (ranking_of s)
          c.in-Ok.order.items answered.1.is_order (new_name c.in_ok-numbers.numbers)
          (subst G c.deref-2.ensures.value c.in_ok-numbers.ensures answered.1.is_order.once) (held_lines c.in_ok-lines.lines.items)
          c.in_ok-lines.ensures;
    }
