-- Bytes are dead where an instance refers to one that is taken and doesn't serve.
use Rattle.std.specs.Prelude.{◌≡◌, ℕ, List, [], ◌∷◌, Contains}
use Rattle.std.proofs.Common.{ap, sym, subst, ◌∙◌, inl, inr}
use Rattle.p21_spec_basics.proofs.Members.{Contains-none, Contains-first, Contains-later, Contains-cases, Each-member, AllZip-member}
use Rattle.p21_spec_exchange.specs.DataSection.{instances_in}
use Rattle.p21_spec_file.specs.File.{InstanceMeans, entity_sets_of}
use Rattle.p21_spec_file.specs.Meaning.{RecordMeans, Typed}
use Rattle.p21_spec_file.specs.Reference.{EntitySets, IsServed, Serves}
use Rattle.p21_spec_exchange.specs.Statement.{instance}
use Rattle.p21_spec_exchange.specs.Structure.{Structure, statements}
use Rattle.p21_spec_laws.proofs.FileOnce.{Meant, meant_names, meant-named, one-meant}
use Rattle.p21_spec_laws.proofs.SectionsOnce.{named}
use Rattle.p21_spec_basics.proofs.Shuffles.{distinct-none_twice}
use Rattle.p21_spec_laws.proofs.Dead.{dead-by}
use Rattle.p21_spec_laws.proofs.Needs.{means-served}
use Rattle.p21_spec_laws.proofs.Statements.{Contains-begins, instance-among}
use Rattle.p21_spec_laws.specs.DeadLaws.{UnfitReferenceIsDead}
use Rattle.p21_spec_basics.proofs.Shuffles.{NoneTwice}
use Rattle.p21_spec_file.proofs.OneMeaning.{RecordMeans-one}

-- what stands for a name among the sets is that of an instance of the name
meant-of : (ms : List Meant) (n : ℕ) (entities : List ℕ) → Contains (entity_sets_of ms) (n, entities) → (x : Typed) × Contains ms (n, x) × (x.entities ≡ entities)
meant-of [] n entities among = absurd (Contains-none (n, entities) among)
meant-of (m ∷ ms) n entities among = elim (Contains-cases (m.0, m.1.entities) (entity_sets_of ms) (n, entities) among) [
  | inl h ↦ (let P : ℕ → Type 0 = λ k. Contains (m ∷ ms) (k, m.1) in (m.1, subst P (ap (λ (k : ℕ × List ℕ). k.0) h) (Contains-first m ms), ap (λ (k : ℕ × List ℕ). k.1) h))
  | inr h ↦ let (x, at, is) = meant-of ms n entities h in (x, Contains-later m ms (n, x) at, is)
]

pub unfit-dead : UnfitReferenceIsDead
unfit-dead s formed limits bytes taken front n r a needs need among is at target others b among_ means_ none = dead-by s limits bytes taken front (λ more m means begins.
    let t : Structure = means.reads.structure in
    let kinds : EntitySets = entity_sets_of m.instances in
    let first = AllZip-member (InstanceMeans s kinds) (instances_in t.sections) m.instances (n, r) means.reads.means (instance-among t n r (Contains-begins taken (statements t) (instance n r) begins among)) in
    let one : first.0.1 ≡ a = RecordMeans-one s formed kinds is.kinds r first.0.1 a first.2.1 is.means in
    let P : Typed → Type 0 = λ x. RecordMeans s kinds r x in
    let served : IsServed s kinds need = Each-member (IsServed s kinds) needs need (means-served s formed r a needs is kinds (subst P one first.2.1)) at in
    let second = AllZip-member (InstanceMeans s kinds) (instances_in t.sections) m.instances (need.target, target) means.reads.means (instance-among t need.target target (Contains-begins taken (statements t) (instance need.target target) begins among_)) in
    let two : second.0.1 ≡ b = RecordMeans-one s formed kinds others target second.0.1 b second.2.1 means_ in
    let M : ℕ → Type 0 = λ k. Contains m.instances (k, second.0.1) in
    let (x, at_x, entities) = meant-of m.instances need.target served.0 served.1 in
    let once : NoneTwice (meant_names m.instances) = subst NoneTwice (sym (meant-named s kinds (instances_in t.sections) m.instances means.reads.means)) (distinct-none_twice (named (instances_in t.sections)) means.reads.names_differ) in
    let same : x ≡ second.0.1 = one-meant m.instances once need.target x second.0.1 at_x (subst M second.2.0 second.1) in
    let Q : List ℕ → Type 0 = λ es. Serves s need.wanted es in
    none (subst Q (sym entities ∙ ap (λ (y : Typed). y.entities) (same ∙ two)) served.2))
