use Rattle.std.specs.BTreeMap.{Updates}
use Rattle.std.specs.Ordering.{nat_cmp}
use Rattle.std.specs.Prelude.{ℕ, List, Some}
use Rattle.std.proofs.Common.{arith, sym, subst}
use Rattle.std.proofs.lemmas.List.{length-map}
use Rattle.p21_numbering.specs.Arrays.{rank_at}
use Rattle.p21_numbering.specs.declared.instances.Instance.{Instance as Code}
use Rattle.p21_numbering.specs.Instances.{Instance, file_instance, file_instances, names_of}
use Rattle.p21_numbering.proofs.GivenNames.{get-more}
use Rattle.p21_pairing.proofs.NewNames.{name-here}
use Rattle.p21_pairing.proofs.names.named_anew.Goals as goal

pub loop-k-preserved : goal.loop-k-preserved
loop-k-preserved c =
    let all : List Code = c.args.instances.now in
    let k : ℕ = c.loop-k.k in
    let V : ℕ → Type 0 = λ n. Updates nat_cmp c.loop-k.names c.insert.new.self n (Some (rank_at c.args.news.now k)) in
    get-more c.loop-k.names c.insert.new.self (names_of (file_instances all)) (rank_at c.args.news.now) k
    (omega (arith, c.loop-k-test.true, length-map all file_instance, length-map (file_instances all) (λ (i : Instance). i.name)))
    (subst V (sym (name-here all k c.index-instances-k.result c.loop-k-test.true)) c.in_ok-insert.ensures.updates) c.loop-k.invariant

pub returns : goal.returns
returns c once j low =
    c.loop-k.invariant once j (omega (
      arith,
      low,
      c.loop-k-test.false,
      length-map c.args.instances.now file_instance,
      length-map
          (file_instances c.args.instances.now) (λ (i : Instance). i.name),
    ))
