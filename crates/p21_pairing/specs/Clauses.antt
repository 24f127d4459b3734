-- What calls say of pairs.
use Rattle.std.specs.Prelude.{◌≡◌, ◌⊎◌, ◌<◌, ◌+◌, ℕ, List, ◌++◌, map, Some, None, length, Contains}
use Rattle.p21_numbering.specs.Arrays.{rank_at}
use Rattle.p21_numbering.specs.Instances.{Instance}
use Rattle.p21_pairing.specs.declared.alone.Holder.{Holder}
use Rattle.p21_pairing.specs.declared.alone.Holder.TheVariants.{One}
use Rattle.p21_pairing.specs.declared.pairs.Pairs.{Pairs}
use Rattle.p21_pairing.specs.Holders.{Hold}
use Rattle.p21_pairing.specs.Left.{AreMatched, NoneLeft, SayKinds}
use Rattle.p21_pairing.specs.Pairs.{AreJoined, AreMore, ArePairs, IsAloneIn, partner_at}

-- there is a number for each instance of both files
abbrev pub AreForBoth : List ℕ → Pairs → Type 0
AreForBoth numbers pairs = length numbers ≡ length pairs.partners.items + length pairs.owners.items

-- each number is below how many there are
abbrev pub AreWithin : List ℕ → Type 0
AreWithin numbers = (k : ℕ) → k < length numbers → rank_at numbers k < length numbers

abbrev pub Fit : List ℕ → Pairs → Type 0
Fit kinds pairs = ArePairs kinds pairs.partners.items pairs.owners.items

abbrev pub More : List ℕ → Pairs → Pairs → Type 0
More kinds pairs more = AreMore kinds pairs.partners.items pairs.owners.items more.partners.items more.owners.items

abbrev pub Joined : List ℕ → ℕ → ℕ → Pairs → Pairs → Type 0
Joined kinds one other pairs more = AreJoined kinds one other pairs.partners.items pairs.owners.items more.partners.items more.owners.items

abbrev pub Matched : List ℕ → List ℕ → ℕ → ℕ → Pairs → Type 0
Matched ranks kinds first second found = AreMatched ranks kinds first second found.partners.items found.owners.items

-- the two are partners
abbrev pub Paired : Pairs → ℕ → ℕ → Type 0
Paired pairs i j = partner_at pairs.partners.items i ≡ Some j

-- two that are alone in their files in having no partner and this key, and are of one kind, are partners then
abbrev pub PairsAlone : List ℕ → List ℕ → Pairs → Pairs → Type 0
PairsAlone keys kinds pairs more =
    (i j : ℕ) → IsAloneIn keys 0 pairs.partners.items i → IsAloneIn keys (length pairs.partners.items) pairs.owners.items j
    → rank_at keys i ≡ rank_at keys (length pairs.partners.items + j)
    → rank_at kinds i ≡ rank_at kinds (length pairs.partners.items + j) → Paired more i j

-- those that hold a key are partners then, if they were free and are of one kind; and no others have become partners
abbrev pub PairsHolders : List ℕ → Holder → Holder → Pairs → Pairs → Type 0
PairsHolders kinds first second pairs more =
    (i j : ℕ) → Hold first second i j → partner_at pairs.partners.items i ≡ None → partner_at pairs.owners.items j ≡ None
    → rank_at kinds i ≡ rank_at kinds (length pairs.partners.items + j) → Paired more i j

abbrev pub PairsOnly : Holder → Holder → Pairs → Pairs → Type 0
PairsOnly first second pairs more = (i j : ℕ) → Paired more i j → Paired pairs i j ⊎ Hold first second i j

-- the same of this instance and what holds the key in the second file
abbrev pub PairsHolder : List ℕ → ℕ → Holder → Pairs → Pairs → Type 0
PairsHolder kinds one second pairs more =
    (j : ℕ) → second ≡ One j → partner_at pairs.partners.items one ≡ None → partner_at pairs.owners.items j ≡ None
    → rank_at kinds one ≡ rank_at kinds (length pairs.partners.items + j) → Paired more one j

abbrev pub PairsOneOnly : ℕ → Holder → Pairs → Pairs → Type 0
PairsOneOnly one second pairs more = (i j : ℕ) → Paired more i j → Paired pairs i j ⊎ ((i ≡ one) × (second ≡ One j))

-- where keys say the kind, none is left of a key in both files
abbrev pub LeavesNone : List ℕ → List ℕ → Pairs → Pairs → Type 0
LeavesNone keys kinds pairs more = SayKinds keys kinds → NoneLeft keys (length pairs.partners.items) more.partners.items more.owners.items

-- what is in the row before, is free then and is of this one's kind is in it then
abbrev pub KeepsFree : List ℕ → ℕ → Pairs → Pairs → List ℕ → List ℕ → Type 0
KeepsFree kinds one pairs more before after =
    (j : ℕ) → Contains before j → partner_at more.owners.items j ≡ None
    → rank_at kinds one ≡ rank_at kinds (length pairs.partners.items + j) → Contains after j

-- the rows, and behind them the entities of instances
abbrev pub rows_with : List (List ℕ) → List Instance → List (List ℕ)
rows_with rows all = rows ++ map (λ i. i.typed.entities) all
