use Rattle.std.specs.BTreeMap.{Updates}
use Rattle.std.specs.Ordering.{nat_cmp}
use Rattle.std.specs.Prelude.{ℕ, List, Some}
use Rattle.std.proofs.Common.{arith, sym, subst, get_or}
use Rattle.std.proofs.lemmas.List.{length-map}
use Rattle.p21_numbering.specs.declared.instances.Instance.{Instance as Code}
use Rattle.p21_numbering.specs.Instances.{Instance, file_instance, file_instances, names_of}
use Rattle.p21_numbering.specs.NewNames.{new_name}
use Rattle.p21_pairing.proofs.NewNames.{name-here}
use Rattle.p21_numbered_file.proofs.PairedTexts.{back-all, back-more}
use Rattle.p21_numbered_file.proofs.pairing.old_names.Goals as goal

pub loop-k-preserved : goal.loop-k-preserved
loop-k-preserved c =
    let all : List Code = c.args.instances.now in
    let k : ℕ = c.loop-k.k in
    let f : ℕ → ℕ = new_name c.args.names.now in
    let one : Code = get_or all k c.index-instances-k.result in
    let V : ℕ → Type 0 = λ n. Updates nat_cmp c.loop-k.old c.insert.new.self n (Some one.name) in
    let U : ℕ → Type 0 = λ n. Updates nat_cmp c.loop-k.old c.insert.new.self (f n) (Some n) in
    back-more c.loop-k.old c.insert.new.self f (names_of (file_instances all)) k
    (omega (arith, c.loop-k-test.true, length-map all file_instance, length-map (file_instances all) (λ (i : Instance). i.name)))
    (subst U (sym (name-here all k c.index-instances-k.result c.loop-k-test.true))
    (subst V c.new_name.ensures c.in_ok-insert.ensures.updates)) c.loop-k.invariant

pub returns : goal.returns
returns c =
    let all : List Code = c.args.instances.now in
    back-all c.loop-k.old (new_name c.args.names.now) (names_of (file_instances all)) c.loop-k.k
    (omega (arith, c.loop-k-test.false, length-map all file_instance, length-map (file_instances all) (λ (i : Instance). i.name)))
    c.loop-k.invariant
