use Rattle.std.specs.BTreeMap.{Updates}
use Rattle.std.specs.Ordering.{nat_cmp}
use Rattle.std.specs.Prelude.{◌≡◌, ◌+◌, ℕ, List, Some, length}
use Rattle.std.proofs.Common.{arith, ap, sym, subst, ◌∙◌, get_or}
use Rattle.std.proofs.lemmas.List.{get_or-map, length-map}
use Rattle.p21_numbering.specs.declared.instances.Instance.{Instance as Code}
use Rattle.p21_numbering.specs.Instances.{Instance, file_instance, file_instances, names_of, no_instance}
use Rattle.p21_numbering.proofs.GivenNames.{get-more}
use Rattle.p21_pairing.proofs.JointNodes.{positions-given}
use Rattle.p21_pairing.proofs.population.positions.Goals as goal

pub loop-k-preserved : goal.loop-k-preserved
loop-k-preserved c =
    let all : List Code = c.args.instances.now in
    let k : ℕ = c.loop-k.k in
    let one : Code = c.index-instances-k.result in
    let size : length (file_instances all) ≡ length all = length-map all file_instance in
    let named : get_or (names_of (file_instances all)) k 0 ≡ one.name =
    get_or-map (λ (i : Instance). i.name) (file_instances all) k no_instance 0 (omega (arith, c.loop-k-test.true, size))
    ∙ ap (λ (i : Instance). i.name) (get_or-map file_instance all k one no_instance c.loop-k-test.true
    ∙ ap file_instance (sym c.index-instances-k.is)) in
    let V : ℕ → Type 0 = λ n. Updates nat_cmp c.loop-k.positions c.insert.new.self n (Some (c.args.start + k)) in
    let U : Code → Type 0 = λ i. V i.name in
    get-more c.loop-k.positions c.insert.new.self (names_of (file_instances all)) (λ j. c.args.start + j) k
    (omega (arith, c.loop-k-test.true, size, length-map (file_instances all) (λ (i : Instance). i.name)))
    (subst V (sym named) (subst U (sym c.index-instances-k.is) c.in_ok-insert.ensures.updates)) c.loop-k.invariant

pub returns : goal.returns
returns c =
    let all : List Code = c.args.instances.now in
    positions-given c.loop-k.positions (names_of (file_instances all)) c.args.start c.loop-k.k
    (omega (arith, c.loop-k-test.false, length-map all file_instance, length-map (file_instances all) (λ (i : Instance). i.name)))
    c.loop-k.invariant
