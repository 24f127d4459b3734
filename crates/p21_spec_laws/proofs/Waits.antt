-- Needs that wait for the end of a file.
use Rattle.std.specs.Prelude.{◌≡◌, ◌⊎◌, ℕ, List, [], ◌∷◌, ◌++◌, map, Contains}
use Rattle.std.specs.List.{AllByRecursion as Each}
use Rattle.std.proofs.Common.{ap, sym, subst, ◌∙◌, inl, inr, append-nil}
use Rattle.std.proofs.lemmas.Grind.{flat_map-append}
use Rattle.std.proofs.lemmas.List.{map-append}
use Rattle.std.proofs.lemmas.List.Elements.{Contains-append_left, Contains-append_right}
use Rattle.p21_spec_basics.proofs.Members.{Contains-mapped, Each-append, Each-apart, Each-mapped, Each-member, Each-unmapped, Each-weaker}
use Rattle.p21_spec_laws.specs.CompleteFile.{AreNeedsServed, Entry, entity_sets_in, meant_in}
use Rattle.p21_spec_laws.specs.Waiting.{Reference, references_in, references_of}
use Rattle.p21_spec_laws.specs.WaitingLaws.{ServedWaitingServesAll, ServedByEntry, ServedStaysServed, WaitingAtStart, WaitingByInstance}
use Rattle.p21_spec_file.specs.File.{entity_sets_of}
use Rattle.p21_spec_file.specs.Meaning.{Typed}
use Rattle.p21_spec_file.specs.Reference.{IsServed, EntitySets, Need}

entity_sets-append : (xs ys : List Entry) → entity_sets_in (xs ++ ys) ≡ entity_sets_in xs ++ entity_sets_in ys
entity_sets-append xs ys = ap entity_sets_of (map-append (λ (e : Entry). (e.name, e.meaning)) xs ys) ∙ map-append (λ (i : ℕ × Typed). (i.0, i.1.entities)) (meant_in xs) (meant_in ys)

pub served-further : ServedStaysServed
served-further s entries more need (entities, among, serves) =
    let P : EntitySets → Type 0 = λ ks. Contains ks (need.target, entities) in
    (entities, subst P (sym (entity_sets-append entries more)) (Contains-append_left (entity_sets_in entries) (entity_sets_in more) (need.target, entities) among), serves)

pub served-by_entry : ServedByEntry
served-by_entry s entries need target among name serves =
    let P : ℕ → Type 0 = λ n. Contains (entity_sets_in entries) (n, target.meaning.entities) in
    (target.meaning.entities, subst P name (Contains-mapped (λ (i : ℕ × Typed). (i.0, i.1.entities)) (meant_in entries) (target.name, target.meaning) (Contains-mapped (λ (e : Entry). (e.name, e.meaning)) entries target among)), serves)

pub waiting-at_start : WaitingAtStart
waiting-at_start s = record { are_needs = tt; others_served = tt }

references-more : (entries : List Entry) (entry : Entry) → references_in (entries ++ (entry ∷ [])) ≡ references_in entries ++ references_of entry
references-more entries entry = flat_map-append references_of entries (entry ∷ []) ∙ ap (λ (rs : List Reference). references_in entries ++ rs) (append-nil (references_of entry))

pub waiting-by_instance : WaitingByInstance
waiting-by_instance s entries waiting is entry added are others =
    let now : List Entry = entries ++ (entry ∷ []) in
    let refer : Need → Reference = λ need. (entry.name, need) in
    let new : List Reference = map refer added in
    let own : List Reference = references_of entry in
    let all : references_in now ≡ references_in entries ++ own = references-more entries entry in
    let P : List Reference → Type 0 = λ rs. Each (Contains rs) (waiting ++ new) in
    let W : Reference → Type 0 = λ r. Contains (waiting ++ new) r ⊎ IsServed s (entity_sets_in now) r.1 in
    let Q : List Reference → Type 0 = λ rs. Each W rs in
    let stays : (r : Reference) → Contains waiting r ⊎ IsServed s (entity_sets_in entries) r.1 → W r = λ r old. elim old [
      | inl h ↦ inl (Contains-append_left waiting new r h)
      | inr h ↦ inr (served-further s entries (entry ∷ []) r.1 h)
    ] in
    let comes : (need : Need) → Contains added need ⊎ IsServed s (entity_sets_in now) need → W (refer need) = λ need it. elim it [
      | inl h ↦ inl (Contains-append_right waiting new (refer need) (Contains-mapped refer added need h))
      | inr h ↦ inr h
    ] in
    record {
      are_needs = subst P (sym all) (
          Each-append (Contains (references_in entries ++ own)) waiting new
          (Each-weaker (Contains (references_in entries)) (Contains (references_in entries ++ own)) (λ r at. Contains-append_left (references_in entries) own r at) waiting is.are_needs)
          (Each-mapped (Contains (references_in entries ++ own)) refer added
          (Each-weaker (Contains entry.needs) (λ (need : Need). Contains (references_in entries ++ own) (refer need)) (λ need at. Contains-append_right (references_in entries) own (refer need) (Contains-mapped refer entry.needs need at)) added are))
          );
      others_served = subst Q (sym all) (
          Each-append W (references_in entries) own
          (Each-weaker (λ (r : Reference). Contains waiting r ⊎ IsServed s (entity_sets_in entries) r.1) W stays (references_in entries) is.others_served)
          (Each-mapped W refer entry.needs (Each-weaker (λ (need : Need). Contains added need ⊎ IsServed s (entity_sets_in now) need) (λ (need : Need). W (refer need)) comes entry.needs others))
          );
    }

pub none-waits : ServedWaitingServesAll
none-waits s entries waiting is served =
    let S : Reference → Type 0 = λ r. IsServed s (entity_sets_in entries) r.1 in
    let each : Each S (references_in entries) = Each-weaker (λ (r : Reference). Contains waiting r ⊎ S r) S (λ r it. elim it [
      | inl h ↦ Each-member S waiting r served h
      | inr h ↦ h
    ]) (references_in entries) is.others_served in
    Each-weaker (λ (e : Entry). Each S (references_of e)) (AreNeedsServed s (entity_sets_in entries)) (λ e all. Each-unmapped S (λ (need : Need). (e.name, need)) e.needs all) entries
    (Each-apart S references_of entries each)
