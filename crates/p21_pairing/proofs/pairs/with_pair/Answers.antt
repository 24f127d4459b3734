use Rattle.std.specs.Prelude.{◌≡◌, ◌+◌, ℕ, List, Option, length}
use Rattle.std.proofs.Common.{arith, ap, sym, ◌∙◌}
use Rattle.p21_numbering.specs.Arrays.{rank_at}
use Rattle.p21_pairing.specs.Pairs.{partner_at}
use Rattle.p21_pairing.proofs.MorePairs.{joined-is, refused}
use Rattle.p21_pairing.proofs.pairs.with_pair.Goals as goal

pub returns-then-is_taken : goal.returns-then-is_taken
returns-then-is_taken c =
    refused c.args.kinds.now c.args.one c.args.other c.args.pairs.partners.items c.args.pairs.owners.items c.requires.pairs
    (λ (free, free_, alike). c.is_taken.ensures.yes c.if-is_taken.true
    (ap (λ (ps : List (Option ℕ)). partner_at ps c.args.one) c.deref.ensures.value ∙ free))

pub returns-then-is_taken-2 : goal.returns-then-is_taken-2
returns-then-is_taken-2 c =
    refused c.args.kinds.now c.args.one c.args.other c.args.pairs.partners.items c.args.pairs.owners.items c.requires.pairs
    (λ (free, free_, alike). c.is_taken-2.ensures.yes c.if-is_taken-2.true
    (ap (λ (ps : List (Option ℕ)). partner_at ps c.args.other) c.deref-2.ensures.value ∙ free_))

pub returns-then-are_apart : goal.returns-then-are_apart
returns-then-are_apart c =
    refused c.args.kinds.now c.args.one c.args.other c.args.pairs.partners.items c.args.pairs.owners.items c.requires.pairs
    (λ (free, free_, alike). (let first : length c.args.pairs.partners.items ≡ c.len-first.result =
    omega (arith, c.len-first.ensures, c.args.pairs.partners.ok.0) in
    c.are_apart.ensures.yes c.if-are_apart.true (alike ∙ ap (λ n. rank_at c.args.kinds.now (n + c.args.other)) first)))

pub returns : goal.returns
returns c =
    let ps : List (Option ℕ) = c.args.pairs.partners.items in
    let os : List (Option ℕ) = c.args.pairs.owners.items in
    let first : c.len-first.result ≡ length ps = omega (arith, c.len-first.ensures, c.args.pairs.partners.ok.0) in
    joined-is c.args.kinds.now c.args.one c.args.other ps os c.requires.pairs c.requires.one c.requires.other
    (ap (λ (qs : List (Option ℕ)). partner_at qs c.args.one) (sym c.deref.ensures.value) ∙ c.is_taken.ensures.no c.if-is_taken.false)
    (ap (λ (qs : List (Option ℕ)). partner_at qs c.args.other) (sym c.deref-2.ensures.value)
    ∙ c.is_taken-2.ensures.no c.if-is_taken-2.false)
    (c.are_apart.ensures.no c.if-are_apart.false ∙ ap (λ n. rank_at c.args.kinds.now (n + c.args.other)) first)
