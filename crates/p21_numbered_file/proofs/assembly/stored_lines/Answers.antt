use Rattle.std.proofs.Common.{◌∷◌, arith, slice_index_or, subst}
use Rattle.std.proofs.lemmas.List.{length-map}
use Rattle.std.specs.Prelude.{ℕ, List, IsPermutation}
use Rattle.p21_numbered.specs.Lines.{held_line, held_lines}
use Rattle.p21_numbered_file.proofs.FileSizes.{line-at}
use Rattle.p21_numbered_file.proofs.PutTogether.{either-default, row-more, row-new}
use Rattle.p21_stream_store.specs.StoredInstance.{StoredInstance}
use Rattle.p21_numbered_file.proofs.assembly.stored_lines.Goals as goal

pub push-requires : goal.push-requires
push-requires c =
    let long = length-map c.args.lines.now held_line in
    let low = c.loop-k-test.true in
    row-new c.args.places.now (held_lines c.args.lines.now) c.loop-k.k (held_line c.index-lines-k.result) c.loop-k.instances c.requires.size
    (omega (arith, long, low))
    (line-at c.args.lines.now c.loop-k.k c.index-lines-k.result low c.index-lines-k.is) c.requires.once c.loop-k.invariant

pub loop-k-preserved : goal.loop-k-preserved
loop-k-preserved c =
    let places = c.args.places.now in
    let k = c.loop-k.k in
    let one = c.index-lines-k.result in
    let place = slice_index_or places k 0 in
    let long = length-map c.args.lines.now held_line in
    let low = c.loop-k-test.true in
    let rows : List ℕ → List StoredInstance = λ text. (record
    { name = one.number; membership = place; text = text }) ∷ c.loop-k.instances in
    let T : List ℕ → Type 0 = λ text. IsPermutation (rows text) c.push.new.self in
    row-more places (held_lines c.args.lines.now) k place (held_line one) c.loop-k.instances c.push.new.self
    (omega (arith, c.requires.size, long, low)) (omega (arith, long, low))
    (either-default places k 0 place (omega (arith, c.requires.size, long, low))) (line-at c.args.lines.now k one low c.index-lines-k.is)
    c.loop-k.invariant (subst T c.deref.ensures.value c.in_ok-push.ensures.ok)
