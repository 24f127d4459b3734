use Rattle.std.specs.Global.{Vec}
use Rattle.std.specs.Prelude.{◌≡◌, ◌≢◌, ◌<◌, ℕ, List, [], Option, Contains, length, slice_set}
use Rattle.std.proofs.Common.{arith, ap, sym, subst, ◌∙◌, length-set}
use Rattle.std.proofs.lemmas.List.{get_or-map, get_or-set_other, get_or-set_same, length-map, map-set}
use Rattle.p21_numbering.specs.Arrays.{rank_at}
use Rattle.p21_numbering.specs.Joining.{row_at}
use Rattle.p21_numbering.specs.Rows.{held_rows}
use Rattle.p21_pairing.specs.Left.{AreListed}
use Rattle.p21_pairing.proofs.Leaving.{all-left, none-left, one-left}
use Rattle.p21_pairing.proofs.left.pair_left.Goals as goal

abbrev items : Vec ℕ → List ℕ
items row = row.items

pub loop-one-init : goal.loop-one-init
loop-one-init c =
    let ps : List (Option ℕ) = c.args.pairs.partners.items in
    let rows : List (List ℕ) = held_rows c.in_ok-left.left.items in
    let start : c.len-first.result ≡ length ps = omega (arith, c.len-first.ensures, c.args.pairs.partners.ok.0) in
    let P : List (Option ℕ) → Type 0 = λ os. AreListed c.args.keys.now c.len-first.result os 0 rows in
    let S : ℕ → Type 0 = λ n. AreListed c.args.keys.now n c.args.pairs.owners.items 0 rows in
    all-left c.args.keys.now c.args.kinds.now ps c.args.pairs.owners.items c.requires.pairs rows
    (subst S start (subst P c.deref.ensures.value c.in_ok-left.ensures.each))

pub with_one_of-more-requires-clause-row : goal.with_one_of-more-requires-clause-row
with_one_of-more-requires-clause-row c j among =
    let left : List (Vec ℕ) = c.loop-one.left.items in
    let key : ℕ = rank_at c.args.keys.now c.loop-one.one in
    let first : c.len-first.result ≡ length c.args.pairs.partners.items = omega (arith, c.len-first.ensures, c.args.pairs.partners.ok.0) in
    let small : key < length c.args.keys.now = c.requires.within c.loop-one.one
    (omega (arith, c.loop-one-test.true, first, c.requires.keys)) in
    let before : items c.index_mut.result.now ≡ row_at (held_rows left) key =
    ap items c.index_mut.ensures.value ∙ sym (get_or-map items left key c.index_mut.result.now []
    (omega (arith, small, c.loop-one.invariant.long, length-map left items))) in
    let P : List ℕ → Type 0 = λ xs. Contains xs j in
    let low = c.loop-one.invariant.within key j (subst P before among) in
    omega (arith, low, c.loop-one.invariant.more.as_many_owners)

pub loop-one-preserved : goal.loop-one-preserved
loop-one-preserved c =
    let left : List (Vec ℕ) = c.loop-one.left.items in
    let rows : List (List ℕ) = held_rows left in
    let keys : List ℕ = c.args.keys.now in
    let key : ℕ = rank_at keys c.loop-one.one in
    let new : Vec ℕ = c.with_one_of-more.new.row in
    let first : c.len-first.result ≡ length c.args.pairs.partners.items = omega (arith, c.len-first.ensures, c.args.pairs.partners.ok.0) in
    let low : c.loop-one.one < length c.args.pairs.partners.items = omega (arith, c.loop-one-test.true, first) in
    let small : key < length keys = c.requires.within c.loop-one.one (omega (arith, low, c.requires.keys)) in
    let before : items c.index_mut.result.now ≡ row_at rows key =
    ap items c.index_mut.ensures.value ∙ sym (get_or-map items left key c.index_mut.result.now []
    (omega (arith, small, c.loop-one.invariant.long, length-map left items))) in
    let more : held_rows (slice_set left key new) ≡ slice_set rows key (items new) = map-set items left key new in
    let long : length (held_rows (slice_set left key new)) ≡ length keys = ap (λ (rs : List (List ℕ)). length rs) more
    ∙ length-set rows key (items new) ∙ c.loop-one.invariant.long in
    let own : row_at (held_rows (slice_set left key new)) key ≡ items new = ap (λ (rs : List (List ℕ)). row_at rs key) more
    ∙ get_or-set_same rows key (items new) [] (omega (arith, small, c.loop-one.invariant.long)) in
    let others : (k : ℕ) → k ≢ key → row_at (held_rows (slice_set left key new)) k ≡ row_at rows k =
    λ k differ. ap (λ (rs : List (List ℕ)). row_at rs k) more ∙ get_or-set_other rows key k (items new) [] differ in
    one-left keys c.args.kinds.now c.args.pairs.partners.items c.args.pairs.owners.items c.loop-one.one c.loop-one.more.partners.items
    c.loop-one.more.owners.items c.with_one_of-more.result.partners.items c.with_one_of-more.result.owners.items
    rows (held_rows (slice_set left key new)) (items new) low c.requires.keys c.loop-one.invariant long own others
    c.with_one_of-more.ensures.more
    (λ j among. let P : List ℕ → Type 0 = λ xs. Contains xs j in subst P before (c.with_one_of-more.ensures.fewer j among))
    (λ j among free alike. let P : List ℕ → Type 0 = λ xs. Contains xs j in
    c.with_one_of-more.ensures.kept j (subst P (sym before) among) free alike)
    c.with_one_of-more.ensures.found

pub returns-clause-none_left : goal.returns-clause-none_left
returns-clause-none_left c =
    let first : c.len-first.result ≡ length c.args.pairs.partners.items = omega (arith, c.len-first.ensures, c.args.pairs.partners.ok.0) in
    none-left c.args.keys.now c.args.kinds.now c.args.pairs.partners.items c.args.pairs.owners.items c.loop-one.more.partners.items
    c.loop-one.more.owners.items (held_rows c.loop-one.left.items) c.loop-one.one
    (omega (arith, c.loop-one-test.false, first)) c.loop-one.invariant
