-- The laws of ranks and numbers, as the contract has them.
use Rattle.std.proofs.Common.{sym, subst}
use Rattle.p21_spec_file.specs.File.{FileMeaning}
use Rattle.p21_spec_file.specs.SameFile.{SameFileMeaning}
use Rattle.p21_spec_numbering.proofs.Moved.{moved-same}
use Rattle.p21_spec_numbering.proofs.Fresh.{told-moved}
use Rattle.p21_spec_numbering.proofs.Reading.{reads-whole}
use Rattle.p21_spec_numbering.proofs.Renaming.{renamed-kept, SameButForNames-reflexive, SameButForNames-symmetric, SameButForNames-transitive}
use Rattle.p21_spec_numbering.specs.Laws.{MeaningsAreProper, IsEquivalence, RanksAreInvariant}
use Rattle.p21_spec_numbering.specs.Numbered.{graph_of}

pub meanings-are_proper : MeaningsAreProper
meanings-are_proper = reads-whole

pub is-equivalence : IsEquivalence
is-equivalence = record {
  reflexive = SameButForNames-reflexive;
  symmetric = λ a b proper. SameButForNames-symmetric a b proper.0;
  transitive = λ a b c proper. SameButForNames-transitive a b c proper.0;
  coarser = λ a b same. let P : FileMeaning → Type 0 = λ m. SameFileMeaning m b in (λ n. n, λ m n among among_ one. one, subst P (sym (renamed-kept a)) same);
}

pub ranks-are_invariant : RanksAreInvariant
ranks-are_invariant s f a b proper proper_ injective same =
    told-moved f (graph_of s a) (graph_of s b) (moved-same s f a b proper.0 proper_.0 proper.1 proper_.1 injective same)
