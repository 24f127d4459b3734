use Rattle.std.specs.Global.{Vec}
use Rattle.std.specs.Prelude.{◌≡◌, ◌<◌, ◌+◌, ◌++◌, ◌∷◌, [], ℕ, List, length, slice_set, refl}
use Rattle.std.proofs.Common.{arith, ap, sym, subst, ◌∙◌}
use Rattle.std.proofs.lemmas.List.{get_or-map, length-map, map-set}
use Rattle.p21_numbering.specs.Arrays.{rank_at}
use Rattle.p21_numbering.specs.Joining.{row_at}
use Rattle.p21_numbering.specs.Rows.{held_rows}
use Rattle.p21_pairing.specs.Left.{AreListed}
use Rattle.p21_pairing.proofs.Leaving.{more-listed, passed-listed}
use Rattle.p21_pairing.proofs.left.with_listed.Goals as goal

abbrev items : Vec ℕ → List ℕ
items row = row.items

pub index_mut-requires : goal.index_mut-requires
index_mut-requires c =
    let low = c.requires.within (c.args.start + c.args.one) (omega (arith, c.requires.keys, c.requires.one)) in
    omega (arith, low, c.requires.rows.long, length-map c.args.rows.items items)

pub returns-then-is_taken : goal.returns-then-is_taken
returns-then-is_taken c = passed-listed c.args.keys.now c.args.start c.args.owners.now c.args.one (c.args.one + 1)
    (held_rows c.args.rows.items) refl (λ free. c.is_taken.ensures.yes c.if-is_taken.true free.1) c.requires.rows

pub returns : goal.returns
returns c =
    let keys : List ℕ = c.args.keys.now in
    let rows : List (Vec ℕ) = c.args.rows.items in
    let own : ℕ = rank_at keys (c.args.start + c.args.one) in
    let low : own < length keys = c.requires.within (c.args.start + c.args.one) (omega (arith, c.requires.keys, c.requires.one)) in
    let before : items c.index_mut.result.now ≡ row_at (held_rows rows) own =
    ap items c.index_mut.ensures.value ∙ sym (get_or-map items rows own c.index_mut.result.now []
    (omega (arith, low, c.requires.rows.long, length-map rows items))) in
    let put : items c.push.new.self ≡ row_at (held_rows rows) own ++ c.args.one ∷ [] = c.in_ok-push.ensures.items
    ∙ ap (λ (xs : List ℕ). xs ++ c.args.one ∷ []) before in
    let is : held_rows (slice_set rows own c.push.new.self) ≡ slice_set (held_rows rows) own
    (row_at (held_rows rows) own ++ c.args.one ∷ []) =
    map-set items rows own c.push.new.self ∙ ap (slice_set (held_rows rows) own) put in
    let P : List (List ℕ) → Type 0 = λ rs. AreListed keys c.args.start c.args.owners.now c.args.one rs in
    subst P (sym is) (more-listed keys c.args.start c.args.owners.now c.args.one (c.args.one + 1) (held_rows rows) refl c.requires.one low
    c.requires.rows)
