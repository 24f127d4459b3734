-- Where ranks tell instances apart, two files that mean the same but for names are paired by what each instance is in the other.
use Rattle.std.specs.Prelude.{◌≡◌, ℕ, List, map, Contains}
use Rattle.std.proofs.Common.{ap, sym, subst, ◌∙◌}
use Rattle.std.proofs.lemmas.List.Elements.{Contains-append_left}
use Rattle.p21_spec_basics.proofs.Members.{Contains-mapped}
use Rattle.p21_spec_file.specs.File.{FileMeaning}
use Rattle.p21_spec_file.specs.Meaning.{Typed}
use Rattle.p21_spec_file.specs.SameFile.{SameFileMeaning}
use Rattle.p21_spec_numbering.proofs.Moved.{beside}
use Rattle.p21_spec_numbering.proofs.Renaming.{SameButForNames-symmetric, new-name, old-name, renamed-kept, renamed-twice}
use Rattle.p21_spec_numbering.proofs.Targets.{one-typed}
use Rattle.p21_spec_numbering.specs.Laws.{IsInvariant, IsProper}
use Rattle.p21_spec_numbering.specs.Ordered.{Ranking}
use Rattle.p21_spec_numbering.specs.Renamed.{renamed, names, IsInjectiveOn}
use Rattle.p21_spec_pairing.proofs.Partners.{same-none}
use Rattle.p21_spec_pairing.proofs.Together.{names-joined, proper-joined}
use Rattle.p21_spec_pairing.proofs.Turned.{turn, turn-first, turn-injective, turned-same}
use Rattle.p21_spec_pairing.specs.Joined.{joined, of_first, of_second}
use Rattle.p21_spec_pairing.specs.Laws.{TheSameArePaired}
use Rattle.p21_spec_pairing.specs.Pairing.{AreAlone, AreToldApart, HaveOneSet, IsPairing, NothingDiffers}

module _ (ranking : Ranking) (invariant : IsInvariant ranking) (a b : FileMeaning) (proper : IsProper a) (proper_ : IsProper b) (apart : AreToldApart ranking a b) (g : ℕ → ℕ) (injective : IsInjectiveOn (names a) g) (same : SameFileMeaning (renamed g a) b) where
  -- an instance and the one that it is in the second file have one rank
  one-rank : (n : ℕ) → Contains (names a) n → ranking (joined a b) (of_first n) ≡ ranking (joined a b) (of_second (g n))
  one-rank n among =
      let (h, injective_, back) = SameButForNames-symmetric a b proper.0 (g, injective, same) in
      let to : ℕ → ℕ = turn g h a b injective injective_ same back in
      let P : List ℕ → Type 0 = λ ns. Contains ns (of_first n) in
      let named : Contains (names (joined a b)) (of_first n) =
      subst P (sym (names-joined a b)) (Contains-append_left (map of_first (names a)) (map of_second (names b)) (of_first n) (Contains-mapped of_first (names a) n among)) in
      let both : IsProper (joined a b) = proper-joined a b proper proper_ in
      let kept = invariant to (joined a b) (joined a b) both both (turn-injective g h a b injective injective_ same back) (turned-same g h a b injective injective_ same back) (of_first n) named in
      sym kept ∙ ap (ranking (joined a b)) (turn-first g h a b injective injective_ same back n)

  are-alone : (n : ℕ) → Contains (names a) n → AreAlone ranking a b n (g n)
  are-alone n among = record {
    first = among;
    second = new-name g a b same n among;
    one_rank = one-rank n among;
    alone_in_first = λ k at equal. apart k n at among equal;
    alone_in_second = λ k at equal.
        let (j, at_, is) = old-name g a b same k at in
        let P : ℕ → Type 0 = λ i. ranking (joined a b) (of_second i) ≡ ranking (joined a b) (of_second (g n)) in
        let one : j ≡ n = apart j n at_ among (one-rank j at_ ∙ subst P (sym is) equal ∙ sym (one-rank n among)) in
        sym is ∙ ap g one;
  }

  one-set : (n : ℕ) → Contains (names a) n → HaveOneSet a b n (g n)
  one-set n among x y at at_ =
      let h = beside g a b proper.0 same n among in
      ap (λ (z : Typed). z.entities) (one-typed a proper.0 n x h.x at h.at) ∙ h.same.0 ∙ ap (λ (z : Typed). z.entities) (one-typed b proper_.0 (g n) h.y y h.other at_)

  nothing-differs : (f : ℕ → ℕ) → IsPairing ranking a b f → NothingDiffers f a b
  nothing-differs f pairing =
      let agree : (n : ℕ) → Contains (names a) n → f n ≡ g n = λ n among. pairing.alone n (g n) (are-alone n among) (one-set n among) in
      let one : renamed f a ≡ renamed g a = ap (renamed f) (sym (renamed-kept a)) ∙ renamed-twice (λ n. n) f g a proper.0 agree in
      let P : FileMeaning → Type 0 = λ m. SameFileMeaning m b in
      same-none f a b proper.0 proper_.0 (subst P (sym one) same)

pub same-are_paired : TheSameArePaired
same-are_paired ranking invariant a b proper proper_ apart (g, injective, same) f pairing = nothing-differs ranking invariant a b proper proper_ apart g injective same f pairing
