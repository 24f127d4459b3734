-- The entities of two canonical lines, one by one.
use Rattle.std.specs.Prelude.{◌≡◌, ◌≢◌, ◌↔◌, ℕ, true, false, IsTrue, List, [], ◌∷◌, None, Some, refl}
use Rattle.std.proofs.Common.{ap, sym, ◌∙◌}
use Rattle.p21_differences.proofs.SideBySide.{lists-tell}
use Rattle.p21_express_graph.specs.Resolved.{HoldsTogether}
use Rattle.p21_express_graph.specs.declared.number.EntityId.{EntityId}
use Rattle.p21_model.proofs.EntitySets.{has-set}
use Rattle.p21_model.specs.declared.entities.Entities.{Entities}
use Rattle.p21_model.specs.EntitiesLeft.{AreEntitiesOf, HandsOutEntity, TellsEntities}
use Rattle.p21_spec_exchange.specs.Record.{Record}
use Rattle.p21_spec_file.specs.CanonicalTexts.{IsInstanceText}
use Rattle.p21_spec_schema.specs.Schema.{Schema}
use Rattle.p21_spec_schema.specs.WellFormed.{IsWellFormed}

-- what is left of two lists that began alike: they are equal exactly if the lists are
pub record AreAhead (left others : Entities) (es fs : List ℕ) : Type 0 where
  pub more : List ℕ
  pub more_ : List ℕ
  pub tells : TellsEntities left more
  pub tells_ : TellsEntities others more_
  pub there : more ≡ more_ → es ≡ fs
  pub back : es ≡ fs → more ≡ more_

pub all-ahead : (left others : Entities) (es fs : List ℕ) → TellsEntities left es → TellsEntities others fs → AreAhead left others es fs
all-ahead left others es fs tells tells_ = record {
  more = es;
  more_ = fs;
  tells = tells;
  tells_ = tells_;
  there = λ same. same;
  back =
      λ same. same;
}

-- the second ends first
pub ahead-shorter : (left others after after_ : Entities) (es fs : List ℕ) (e : EntityId) → AreAhead left others es fs
    → ((more : List ℕ) → TellsEntities left more → HandsOutEntity more (Some e) after)
    → ((more : List ℕ) → TellsEntities others more → HandsOutEntity more None after_) → es ≢ fs
ahead-shorter left others after after_ es fs e ahead hands hands_ same =
    by ahead.more ahead.more_ (hands ahead.more ahead.tells) (hands_ ahead.more_ ahead.tells_) (ahead.back same)
  where
    by : (more more_ : List ℕ) → HandsOutEntity more (Some e) after → HandsOutEntity more_ None after_ → more ≡ more_ → ⊥
    by [] more_ handed handed_ is = handed
    by (x ∷ more) [] handed handed_ is = let none : x ∷ more ≡ [] = is in cc
    by (x ∷ more) (y ∷ more_) handed handed_ is = handed_

module _ (left others after after_ : Entities) (es fs : List ℕ) (e f : EntityId) (ahead : AreAhead left others es fs)
    (hands : (more : List ℕ) → TellsEntities left more → HandsOutEntity more (Some e) after)
    (hands_ : (more : List ℕ) → TellsEntities others more → HandsOutEntity more (Some f) after_) where
  -- another entity comes
  pub ahead-other : e.0 ≢ f.0 → es ≢ fs
  ahead-other differ same = by ahead.more ahead.more_ (hands ahead.more ahead.tells) (hands_ ahead.more_ ahead.tells_) (ahead.back same)
    where
      by : (more more_ : List ℕ) → HandsOutEntity more (Some e) after → HandsOutEntity more_ (Some f) after_ → more ≡ more_ → ⊥
      by [] more_ handed handed_ is = handed
      by (x ∷ more) [] handed handed_ is = handed_
      by (x ∷ more) (y ∷ more_) handed handed_ is = let first : x ≡ y = cc in differ (handed.0 ∙ first ∙ sym handed_.0)

  -- the same one comes
  pub ahead-next : e.0 ≡ f.0 → AreAhead after after_ es fs
  ahead-next same = by ahead.more ahead.more_ (hands ahead.more ahead.tells) (hands_ ahead.more_ ahead.tells_) ahead.there ahead.back
    where
      by : (more more_ : List ℕ) → HandsOutEntity more (Some e) after → HandsOutEntity more_ (Some f) after_ → (more ≡ more_ → es ≡ fs)
          → (es ≡ fs → more ≡ more_) → AreAhead after after_ es fs
      by [] more_ handed handed_ there back = absurd handed
      by (x ∷ more) [] handed handed_ there back = absurd handed_
      by (x ∷ more) (y ∷ more_) handed handed_ there back =
          let first : x ≡ y = sym handed.0 ∙ same ∙ handed_.0 in
          record {
            more = more;
            more_ = more_;
            tells = handed.1;
            tells_ = handed_.1;
            there = λ is. there (ap (λ (z : ℕ). z ∷ more) first ∙ ap (λ (zs : List ℕ). y ∷ zs) is);
            back = λ is. let whole : x ∷ more ≡ y ∷ more_ = back is in cc;
          }

-- both end
pub ahead-ended : (left others after after_ : Entities) (es fs : List ℕ) → AreAhead left others es fs
    → ((more : List ℕ) → TellsEntities left more → HandsOutEntity more None after)
    → ((more : List ℕ) → TellsEntities others more → HandsOutEntity more None after_) → es ≡ fs
ahead-ended left others after after_ es fs ahead hands hands_ =
    by ahead.more ahead.more_ (hands ahead.more ahead.tells) (hands_ ahead.more_ ahead.tells_) ahead.there
  where
    by : (more more_ : List ℕ) → HandsOutEntity more None after → HandsOutEntity more_ None after_ → (more ≡ more_ → es ≡ fs) → es ≡ fs
    by [] [] handed handed_ there = there refl
    by [] (y ∷ more_) handed handed_ there = absurd handed_
    by (x ∷ more) more_ handed handed_ there = absurd handed

-- the first ends first
pub ahead-longer : (left others after after_ : Entities) (es fs : List ℕ) (f : EntityId) → AreAhead left others es fs
    → ((more : List ℕ) → TellsEntities left more → HandsOutEntity more None after)
    → ((more : List ℕ) → TellsEntities others more → HandsOutEntity more (Some f) after_) → es ≢ fs
ahead-longer left others after after_ es fs f ahead hands hands_ same =
    by ahead.more ahead.more_ (hands ahead.more ahead.tells) (hands_ ahead.more_ ahead.tells_) (ahead.back same)
  where
    by : (more more_ : List ℕ) → HandsOutEntity more None after → HandsOutEntity more_ (Some f) after_ → more ≡ more_ → ⊥
    by [] [] handed handed_ is = handed_
    by [] (y ∷ more_) handed handed_ is = let none : [] ≡ y ∷ more_ = is in cc
    by (x ∷ more) more_ handed handed_ is = handed

-- ---- the answer

module _ (s : Schema) (formed : IsWellFormed s) (holds : HoldsTogether s) (n m : ℕ) (r q : Record) (line text : List ℕ)
    (first : IsInstanceText s n r line) (second : IsInstanceText s m q text) where
  -- whether the lists are one tells whether the sets are
  tell : (P : Type 0) → ((es fs : List ℕ) → AreEntitiesOf s first.canonical es → AreEntitiesOf s second.canonical fs → P ↔ (es ≡ fs)) → P
      ↔ (first.canonical_meaning.entities ≡ second.canonical_meaning.entities)
  tell P lists =
      let own = has-set s holds first.kinds first.canonical first.canonical_meaning first.canonical_means.means in
      let own_ = has-set s holds second.kinds second.canonical second.canonical_meaning second.canonical_means.means in
      let sets = lists-tell s formed holds n m r q line text first second own.set own_.set own.are own_.are own.same own_.same in
      let answer = lists own.set own_.set own.are own_.are in
      (λ p. sets.1 (answer.0 p), λ same. answer.1 (sets.0 same))

  pub sets-one : ((es fs : List ℕ) → AreEntitiesOf s first.canonical es → AreEntitiesOf s second.canonical fs → es ≡ fs) → IsTrue true
      ↔ (first.canonical_meaning.entities ≡ second.canonical_meaning.entities)
  sets-one same = tell (IsTrue true) (λ es fs are are_. (λ yes. same es fs are are_, λ is. refl))

  pub sets-other : ((es fs : List ℕ) → AreEntitiesOf s first.canonical es → AreEntitiesOf s second.canonical fs → es ≢ fs) → IsTrue false
      ↔ (first.canonical_meaning.entities ≡ second.canonical_meaning.entities)
  sets-other differ = tell (IsTrue false) (λ es fs are are_. (λ no. cc, λ is. absurd (differ es fs are are_ is)))
