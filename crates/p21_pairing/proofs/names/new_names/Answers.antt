use Rattle.std.specs.Prelude.{[], ◌∷◌, ℕ, List, Option, length}
use Rattle.std.proofs.Common.{arith, ap, subst, ◌∙◌}
use Rattle.std.proofs.lemmas.List.{length-append}
use Rattle.p21_numbering.specs.Instances.{file_instances}
use Rattle.p21_pairing.specs.Names.{GivesName}
use Rattle.p21_pairing.proofs.NewNames.{named-more}
use Rattle.p21_pairing.proofs.names.new_names.Goals as goal

pub loop-k-preserved : goal.loop-k-preserved
loop-k-preserved c =
    let second = file_instances c.args.second.now in
    let news : List ℕ = c.loop-k.news.items in
    let more : List ℕ = c.push.new.self.items in
    let name : ℕ = c.in_ok-name.name in
    let G : Option ℕ → Type 0 = λ o. GivesName second o c.loop-k.next c.new_name.new.next name in
    let long = ap (λ (xs : List ℕ). length xs) c.in_ok-push.ensures.items ∙ length-append news (name ∷ []) in
    record {
      size = omega (arith, long, c.loop-k.invariant.size);
      names = named-more c.args.partners.now second news more c.loop-k.k c.loop-k.next c.new_name.new.next name c.loop-k.invariant.size
          (subst G c.partner-partner.ensures c.in_ok-name.ensures) c.in_ok-push.ensures.items c.loop-k.invariant.names;
    }
