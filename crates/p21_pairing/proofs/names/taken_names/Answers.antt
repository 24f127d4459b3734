use Rattle.std.specs.BTreeSet.{Updates}
use Rattle.std.specs.Ordering.{nat_cmp}
use Rattle.std.specs.Prelude.{ℕ, List, true}
use Rattle.std.proofs.Common.{arith, sym, subst}
use Rattle.std.proofs.lemmas.List.{length-map}
use Rattle.p21_numbering.specs.declared.instances.Instance.{Instance as Code}
use Rattle.p21_numbering.specs.Instances.{Instance, file_instance, file_instances, names_of}
use Rattle.p21_pairing.proofs.NewNames.{has-all, has-more, name-here}
use Rattle.p21_pairing.proofs.names.taken_names.Goals as goal

pub loop-k-preserved : goal.loop-k-preserved
loop-k-preserved c =
    let all : List Code = c.args.instances.now in
    let k : ℕ = c.loop-k.k in
    let V : ℕ → Type 0 = λ n. Updates nat_cmp c.loop-k.taken c.insert.new.self n true in
    has-more c.loop-k.taken c.insert.new.self (names_of (file_instances all)) k
    (subst V (sym (name-here all k c.index-instances-k.result c.loop-k-test.true)) c.in_ok-insert.ensures.updates) c.loop-k.invariant

pub returns : goal.returns
returns c =
    let all : List Code = c.args.instances.now in
    has-all c.loop-k.taken (names_of (file_instances all)) c.loop-k.k
    (omega (arith, c.loop-k-test.false, length-map all file_instance, length-map (file_instances all) (λ (i : Instance). i.name)))
    c.loop-k.invariant
