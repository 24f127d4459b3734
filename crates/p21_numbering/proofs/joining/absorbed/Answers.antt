use Rattle.std.specs.Global.{Vec}
use Rattle.std.specs.Prelude.{◌≡◌, ◌++◌, ℕ, List, [], Contains, slice_set}
use Rattle.std.proofs.Common.{arith, ap, sym, subst, ◌∙◌, length-set}
use Rattle.std.proofs.lemmas.List.{get_or-map, map-set, length-map}
use Rattle.p21_numbering.specs.Joining.{row_at}
use Rattle.p21_numbering.specs.Rows.{held_rows}
use Rattle.p21_numbering.proofs.Joined.{absorbed-is}
use Rattle.p21_numbering.proofs.joining.absorbed.Goals as goal

abbrev items : Vec ℕ → List ℕ
items row = row.items

pub relabel-requires : goal.relabel-requires
relabel-requires c k among =
    let members : List (Vec ℕ) = c.args.parts.members.items in
    let moved : c.deref.result.now ≡ row_at (held_rows members) c.args.small =
    c.deref.ensures.value ∙ ap items (c.replace-moved.ensures.value ∙ c.index_mut.ensures.value)
    ∙ sym (get_or-map items members c.args.small c.index_mut.result.now []
    (omega (arith, c.requires.small, c.requires.partition.rows, length-map members items))) in
    let P : List ℕ → Type 0 = λ xs. Contains xs k in
    (c.requires.partition.only c.args.small k c.requires.small (subst P moved among)).0

pub returns : goal.returns
returns c =
    let of : List ℕ = c.args.parts.of.items in
    let members : List (Vec ℕ) = c.args.parts.members.items in
    let small : ℕ = c.args.small in
    let large : ℕ = c.args.large in
    let moved : items c.replace-moved.result ≡ row_at (held_rows members) small =
    ap items (c.replace-moved.ensures.value ∙ c.index_mut.ensures.value)
    ∙ sym (get_or-map items members small c.index_mut.result.now []
    (omega (arith, c.requires.small, c.requires.partition.rows, length-map members items))) in
    let one : c.deref.result.now ≡ row_at (held_rows members) small = c.deref.ensures.value ∙ moved in
    let two : c.deref-2.result.now ≡ row_at (held_rows members) small = c.deref-2.ensures.value ∙ moved in
    let none : items c.replace-moved.new.dest ≡ [] = ap items c.replace-moved.ensures.after ∙ c.new.ensures.items in
    let emptied : held_rows (slice_set members small c.replace-moved.new.dest) ≡ slice_set (held_rows members) small [] =
    map-set items members small c.replace-moved.new.dest ∙ ap (slice_set (held_rows members) small) none in
    let before : items c.index_mut-2.result.now ≡ row_at (slice_set (held_rows members) small []) large =
    ap items c.index_mut-2.ensures.value
    ∙ sym (get_or-map items (slice_set members small c.replace-moved.new.dest) large c.index_mut-2.result.now []
    (omega (
      arith,
      c.requires.large,
      c.requires.partition.rows,
      length-map members items,
      length-set members small
          c.replace-moved.new.dest,
    )))
    ∙ ap (λ (rows : List (List ℕ)). row_at rows large) emptied in
    let put : items c.extend_from_slice.new.self ≡ row_at (slice_set (held_rows members) small []) large
    ++ row_at (held_rows members) small =
    c.in_ok-extend_from_slice.ensures.items ∙ ap (λ (xs : List ℕ). xs ++ c.deref-2.result.now) before
    ∙ ap (λ (xs : List ℕ). row_at (slice_set (held_rows members) small []) large ++ xs) two in
    let is : held_rows (slice_set (slice_set members small c.replace-moved.new.dest) large c.extend_from_slice.new.self) ≡ slice_set
    (slice_set (held_rows members) small []) large (row_at (slice_set (held_rows members) small []) large
    ++ row_at (held_rows members) small) =
    map-set items (slice_set members small c.replace-moved.new.dest) large c.extend_from_slice.new.self
    ∙ ap (λ (rows : List (List ℕ)). slice_set rows large (items c.extend_from_slice.new.self)) emptied
    ∙ ap (slice_set (slice_set (held_rows members) small []) large) put in
    let P : List ℕ → ℕ → Type 0 = λ xs k. Contains xs k in
    absorbed-is of (held_rows members) small large c.requires.partition c.requires.small c.requires.large c.requires.differ
    c.relabel.new.of.items c.relabel.ensures.size
    (λ k among. c.relabel.ensures.moved k (subst (λ (xs : List ℕ). Contains xs k) (sym one) among))
    (λ k none_. c.relabel.ensures.others k (λ among. none_ (subst (λ (xs : List ℕ). Contains xs k) one among)))
    (held_rows (slice_set (slice_set members small c.replace-moved.new.dest) large c.extend_from_slice.new.self)) is
