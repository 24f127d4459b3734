-- The claim, from the theorem.
use Rattle.p21_spec_numbering.proofs.laws.numbering_headline.Goals as goal
use Rattle.p21_spec_numbering.proofs.Claim.{numbering-headline, ranking-headline}

pub returns : goal.returns
returns c = record { claim = numbering-headline; each_ranking = ranking-headline }
