-- The words of places in the line of an entity, place by place and owner by owner.
use Rattle.std.specs.Prelude.{◌≡◌, ℕ, ◌+◌, List, [], ◌∷◌, ◌++◌, codes, refl}
use Rattle.std.specs.List.{AllZip}
use Rattle.std.proofs.Common.{arith, ap, sym, ◌∙◌, subst, inr, append_assoc}
use Rattle.std.proofs.lemmas.List.{append-nil}
use Rattle.p21_commands.specs.OwnTexts.{IsPlainWord}
use Rattle.p21_commands.specs.Print.{IsPlaceWord}
use Rattle.p21_express_graph.specs.Lookups.{places_from}
use Rattle.p21_express_graph.proofs.Lookups.{places-more}
use Rattle.p21_express_outline.proofs.Finding.{AllZip-append}
use Rattle.p21_spec_file.specs.ValueText.{with_commas}
use Rattle.p21_spec_schema.specs.Schema.{Schema, Place}

pub with_commas-append : (texts others : List (List ℕ)) → with_commas (texts ++ others) ≡ with_commas texts ++ with_commas others
with_commas-append [] others = refl
with_commas-append (text ∷ texts) others = ap (λ zs. codes "," ++ zs)
    (ap (λ zs. text ++ zs) (with_commas-append texts others) ∙ sym (append_assoc text (with_commas texts) (with_commas others)))

module _ (R : Place → List ℕ → Type 0) where
  -- words of places stand behind what was there
  abbrev pub StandBehind : List Place → List ℕ → List ℕ → Type 0
  StandBehind ps old new = (words : List (List ℕ)) × AllZip R ps words × (new ≡ old ++ with_commas words)

  pub behind-both : (ps qs : List Place) (old now new : List ℕ) → StandBehind ps old now → StandBehind qs now new
      → StandBehind (ps ++ qs) old new
  behind-both ps qs old now new (words, all, now_is) (others, all_, new_is) = (
    words ++ others,
    AllZip-append R ps qs words others all all_,
    new_is ∙ ap (λ zs. zs ++ with_commas others) now_is ∙ append_assoc old (with_commas words) (with_commas others)
        ∙ ap (λ zs. old ++ zs) (sym (with_commas-append words others)),
  )

  -- one place more of an entity
  pub behind-next : (e k : ℕ) (old now new word : List ℕ) → StandBehind (places_from e 0 k) old now
      → R (record { entity = e; index = k }) word → new ≡ now ++ (codes "," ++ word) → StandBehind (places_from e 0 (k + 1)) old new
  behind-next e k old now new word so_far is new_is =
      let zero_ : 0 + k ≡ k = omega arith in
      let P : List Place → Type 0 = λ ps. StandBehind ps old new in
      let next : places_from e 0 (k + 1) ≡ places_from e 0 k ++ record { entity = e; index = k } ∷ [] = places-more e 0 k
      ∙ ap (λ i. places_from e 0 k ++ record { entity = e; index = i } ∷ []) zero_ in
      subst P (sym next) (behind-both (places_from e 0 k) (record { entity = e; index = k } ∷ []) old now new so_far
      (word ∷ [], (is, tt), new_is ∙ ap (λ zs. now ++ (codes "," ++ zs)) (sym (append-nil word))))

-- names of places that no entity derives are their words, whatever the entity
pub plain-words : (s : Schema) (e : ℕ) (ps : List Place) (names : List (List ℕ)) → AllZip (IsPlainWord s) ps names
    → AllZip (IsPlaceWord s e) ps names
plain-words s e [] [] all = tt
plain-words s e [] (name ∷ names) all = absurd all
plain-words s e (p ∷ ps) [] all = absurd all
plain-words s e (p ∷ ps) (name ∷ names) ((stored, named), all) =
    (inr (λ (f, x, among, at, derives). stored (f, (x, at, derives)), named), plain-words s e ps names all)
