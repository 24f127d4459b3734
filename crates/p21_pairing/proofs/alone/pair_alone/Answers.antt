use Rattle.std.specs.Prelude.{◌≡◌, ℕ, List, Option, length}
use Rattle.std.proofs.Common.{arith, sym, subst, ◌∙◌, inl, inr}
use Rattle.std.proofs.lemmas.List.{get_or_read_under}
use Rattle.p21_pairing.specs.declared.alone.Holder.{Holder}
use Rattle.p21_pairing.specs.declared.alone.Holder.TheVariants.{Nobody}
use Rattle.p21_pairing.specs.Holders.{AreHolders, holder_at}
use Rattle.p21_pairing.proofs.Holding.{AreSoFar, alone-paired, key-more}
use Rattle.p21_pairing.proofs.alone.pair_alone.Goals as goal

pub loop-key-preserved : goal.loop-key-preserved
loop-key-preserved c =
    let keys : List ℕ = c.args.keys.now in
    let ps : List (Option ℕ) = c.args.pairs.partners.items in
    let os : List (Option ℕ) = c.args.pairs.owners.items in
    let firsts : List Holder = c.in_ok-firsts.firsts.items in
    let seconds : List Holder = c.in_ok-seconds.seconds.items in
    let start : c.len.result ≡ length ps = omega (arith, c.len.ensures, c.args.pairs.partners.ok.0) in
    let P : List (Option ℕ) → Type 0 = λ qs. AreHolders keys 0 qs (length qs) firsts in
    let Q : List (Option ℕ) → Type 0 = λ qs. AreHolders keys c.len.result qs (length qs) seconds in
    let S : ℕ → Type 0 = λ n. AreHolders keys n os (length os) seconds in
    let key : ℕ = c.loop-key.key in
    let first : c.index-first.result.now ≡ holder_at firsts key =
    get_or_read_under firsts key (length keys) c.index-first.result.now Nobody c.index-first.ensures c.loop-key-test.true
    (sym c.in_ok-firsts.ensures.size) in
    let second : c.index-second.result.now ≡ holder_at seconds key =
    get_or_read_under seconds key (length keys) c.index-second.result.now Nobody c.index-second.ensures c.loop-key-test.true
    (sym c.in_ok-seconds.ensures.size) in
    key-more keys c.args.kinds.now ps os c.requires.pairs firsts seconds
    (subst P c.deref.ensures.value c.in_ok-firsts.ensures.each)
    (subst S start (subst Q c.deref-2.ensures.value c.in_ok-seconds.ensures.each))
    key c.loop-key.more.partners.items c.loop-key.more.owners.items c.with_holders-more.result.partners.items
    c.with_holders-more.result.owners.items c.loop-key-test.true c.loop-key.invariant c.with_holders-more.ensures.more
    (λ i j (one, other) free free_ alike. c.with_holders-more.ensures.joined i j (first ∙ one, second ∙ other) free free_ alike)
    (λ i j at. elim (c.with_holders-more.ensures.only i j at) [
      | inl before ↦ inl before
      | inr (one, other) ↦ inr (sym first ∙ one, sym second ∙ other)
    ])

pub returns-clause-alone : goal.returns-clause-alone
returns-clause-alone c i j alone alone_ one_key one_kind =
    let keys : List ℕ = c.args.keys.now in
    let ps : List (Option ℕ) = c.args.pairs.partners.items in
    let os : List (Option ℕ) = c.args.pairs.owners.items in
    let firsts : List Holder = c.in_ok-firsts.firsts.items in
    let seconds : List Holder = c.in_ok-seconds.seconds.items in
    let start : c.len.result ≡ length ps = omega (arith, c.len.ensures, c.args.pairs.partners.ok.0) in
    let P : List (Option ℕ) → Type 0 = λ qs. AreHolders keys 0 qs (length qs) firsts in
    let Q : List (Option ℕ) → Type 0 = λ qs. AreHolders keys c.len.result qs (length qs) seconds in
    let S : ℕ → Type 0 = λ n. AreHolders keys n os (length os) seconds in
    let all : c.loop-key.key ≡ length keys = omega (arith, c.loop-key-test.false, c.loop-key.auto.key-end) in
    let A : ℕ → Type 0 = λ n. AreSoFar c.args.kinds.now ps os firsts seconds n c.loop-key.more.partners.items
    c.loop-key.more.owners.items in
    alone-paired keys c.args.kinds.now ps os c.requires.pairs firsts seconds
    (subst P c.deref.ensures.value c.in_ok-firsts.ensures.each)
    (subst S start (subst Q c.deref-2.ensures.value c.in_ok-seconds.ensures.each))
    c.loop-key.more.partners.items c.loop-key.more.owners.items (subst A all c.loop-key.invariant) c.requires.within c.requires.keys i j
    alone alone_ one_key one_kind
