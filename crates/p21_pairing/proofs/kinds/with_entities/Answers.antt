use Rattle.std.specs.Global.{Vec}
use Rattle.std.specs.Prelude.{◌≡◌, ◌+◌, ◌++◌, ◌∷◌, [], ℕ, List, map, take}
use Rattle.std.proofs.Common.{ap, sym, ◌∙◌, append_assoc}
use Rattle.std.proofs.lemmas.List.{append-nil, map-append, take_all}
use Rattle.p21_express_graph.specs.declared.number.EntityId.{EntityId}
use Rattle.p21_mapping_values.specs.TypedView.{ids_view}
use Rattle.p21_numbering.specs.declared.instances.Instance.{Instance as Code}
use Rattle.p21_numbering.specs.Instances.{Instance, file_instance, file_instances}
use Rattle.p21_numbering.specs.Rows.{held_rows}
use Rattle.p21_numbering.proofs.Walks.{map-more}
use Rattle.p21_pairing.proofs.kinds.with_entities.Goals as goal

abbrev own : Instance → List ℕ
own i = i.typed.entities

pub loop-k-init : goal.loop-k-init
loop-k-init c = sym (append-nil (held_rows c.args.rows.items))

pub loop-k-preserved : goal.loop-k-preserved
loop-k-preserved c =
    let all : List Code = c.args.instances.now in
    let k : ℕ = c.loop-k.k in
    let row : Vec ℕ = c.in_ok-row.row in
    let before : List (List ℕ) = map own (file_instances (take k all)) in
    let grown : map own (file_instances (take (k + 1) all)) ≡ before ++ own (file_instance c.index-instances-k.result) ∷ [] =
    ap (map own) (map-more file_instance all k c.index-instances-k.result c.index-instances-k.is c.loop-k-test.true)
    ∙ map-append own (file_instances (take k all)) (file_instance c.index-instances-k.result ∷ []) in
    ap held_rows c.in_ok-push.ensures.items
    ∙ map-append (λ (r : Vec ℕ). r.items) c.loop-k.more.items (row ∷ [])
    ∙ ap (λ (rs : List (List ℕ)). rs ++ row.items ∷ []) c.loop-k.invariant
    ∙ append_assoc (held_rows c.args.rows.items) before (row.items ∷ [])
    ∙ ap (λ (r : List ℕ). held_rows c.args.rows.items ++ (before ++ r ∷ [])) c.in_ok-row.ensures
    ∙ ap (λ (ids : List EntityId). held_rows c.args.rows.items ++ (before ++ ids_view ids ∷ [])) c.items.ensures
    ∙ ap (λ (rs : List (List ℕ)). held_rows c.args.rows.items ++ rs) (sym grown)

pub returns : goal.returns
returns c = c.loop-k.invariant ∙ ap (λ (is : List Code). held_rows c.args.rows.items ++ map own (file_instances is))
    (take_all c.loop-k.k c.args.instances.now c.loop-k-test.false)
