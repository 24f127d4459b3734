-- Values pair off exactly if there are as many and each is as often in one as in the other.
use Rattle.std.proofs.Common.{◌≡◌, ◌≢◌, ℕ, suc, refl, ap, sym, ◌∙◌, subst, arith}
use Rattle.p21_spec_file.specs.Value.{Value, Values, no_values, value, count}
use Rattle.p21_spec_file.specs.SameValue.{Same, SamePaired, both_empty, paired, Without, without_first, without_later}
use Rattle.p21_spec_file.proofs.Sameness.{Same-reflexive, Same-symmetric}
use Rattle.p21_spec_file.proofs.Transitive.{Same-transitive}
use Rattle.p21_canon.specs.Occurrences.{Occurs, nowhere, once_more, not_here}

-- the value is as often in one as in the other
abbrev pub IsAsOften : Value → Values → Values → Type 0
IsAsOften v vs ws = (n : ℕ) × Occurs v vs n × Occurs v ws n

-- each of these values is as often in one as in the other
abbrev pub AreAsOften : Values → Values → Values → Type 0
AreAsOften no_values vs ws = Unit {0}
AreAsOften (value v more) vs ws = IsAsOften v vs ws × AreAsOften more vs ws

-- a value occurs only so often
pub occurs_once : (v : Value) (vs : Values) (m n : ℕ) → Occurs v vs m → Occurs v vs n → m ≡ n
occurs_once v _ _ _ nowhere nowhere = refl
occurs_once v _ _ _ (once_more w ws m same more) (once_more _ _ n _ more_) = ap suc (occurs_once v ws m n more more_)
occurs_once v _ _ _ (once_more w ws m same more) (not_here _ _ n differ more_) = absurd (differ same)
occurs_once v _ _ _ (not_here w ws m differ more) (once_more _ _ n same more_) = absurd (differ same)
occurs_once v _ _ _ (not_here w ws m differ more) (not_here _ _ n _ more_) = occurs_once v ws m n more more_

-- what is the same occurs as often
occurs_same : (u v : Value) (vs : Values) (n : ℕ) → Same u v → Occurs v vs n → Occurs u vs n
occurs_same u v _ _ same nowhere = nowhere
occurs_same u v _ _ same (once_more w ws n same_ more) =
    once_more w ws n (Same-transitive v u w same same_) (occurs_same u v ws n same more)
occurs_same u v _ _ same (not_here w ws n differ more) =
    not_here w ws n (λ same_. differ (Same-transitive u v w (Same-symmetric u v same) same_)) (occurs_same u v ws n same more)

-- a value that is the same as the one left out occurs once more, another one as often
occurs_with : (u v : Value) (ws rest : Values) (n : ℕ) → Without v ws rest → Same u v → Occurs u rest n → Occurs u ws (suc n)
occurs_with u v _ rest n (without_first _ w _ same_) same occurs = once_more w rest n (Same-transitive v u w same same_) occurs
occurs_with u v _ _ _ (without_later _ w ws rest without) same (once_more _ _ n same_ occurs) =
    once_more w ws (suc n) same_ (occurs_with u v ws rest n without same occurs)
occurs_with u v _ _ n (without_later _ w ws rest without) same (not_here _ _ _ differ occurs) =
    not_here w ws (suc n) differ (occurs_with u v ws rest n without same occurs)

occurs_beside : (u v : Value) (ws rest : Values) (n : ℕ) → Without v ws rest → ¬ Same u v → Occurs u rest n → Occurs u ws n
occurs_beside u v _ rest n (without_first _ w _ same) differ occurs =
    not_here w rest n (λ same_. differ (Same-transitive w u v same_ (Same-symmetric v w same))) occurs
occurs_beside u v _ _ _ (without_later _ w ws rest without) differ (once_more _ _ n same occurs) =
    once_more w ws n same (occurs_beside u v ws rest n without differ occurs)
occurs_beside u v _ _ n (without_later _ w ws rest without) differ (not_here _ _ _ differ_ occurs) =
    not_here w ws n differ_ (occurs_beside u v ws rest n without differ occurs)

-- where values pair off, a value is as often in one as in the other
pub paired_as_often : (u : Value) (vs ws : Values) (n : ℕ) → SamePaired vs ws → Occurs u vs n → Occurs u ws n
paired_as_often u _ _ n both_empty occurs = occurs
paired_as_often u _ _ _ (paired v vs ws rest without pairs) (once_more _ _ n same occurs) =
    occurs_with u v ws rest n without same (paired_as_often u vs rest n pairs occurs)
paired_as_often u _ _ n (paired v vs ws rest without pairs) (not_here _ _ _ differ occurs) =
    occurs_beside u v ws rest n without differ (paired_as_often u vs rest n pairs occurs)

without_count : (v : Value) (ws rest : Values) → Without v ws rest → count ws ≡ suc (count rest)
without_count v _ rest (without_first _ w _ same) = refl
without_count v _ _ (without_later _ w ws rest without) = ap suc (without_count v ws rest without)

pub paired_count : (vs ws : Values) → SamePaired vs ws → count vs ≡ count ws
paired_count _ _ both_empty = refl
paired_count _ _ (paired v vs ws rest without pairs) = ap suc (paired_count vs rest pairs) ∙ sym (without_count v ws rest without)

-- an element that the value is the same as, and how often the value occurs without it
found_without : (v : Value) (ws : Values) (n : ℕ) → Occurs v ws (suc n) → (rest : Values) × Without v ws rest
found_without v _ n (once_more w ws _ same more) = (ws, without_first v w ws same)
found_without v _ n (not_here w ws _ differ more) =
    let (rest, without) = found_without v ws n more in
    (value w rest, without_later v w ws rest without)

occurs_taken : (u v : Value) (ws rest : Values) (n : ℕ) → Without v ws rest → Same u v → Occurs u ws n
    → (m : ℕ) × (n ≡ suc m) × Occurs u rest m
occurs_taken u v _ rest _ (without_first _ w _ same_) same (once_more _ _ n _ occurs) = (n, refl, occurs)
occurs_taken u v _ rest n (without_first _ w _ same_) same (not_here _ _ _ differ occurs) =
    absurd (differ (Same-transitive v u w same same_))
occurs_taken u v _ _ _ (without_later _ w ws rest without) same (once_more _ _ n same_ occurs) =
    let (m, e, occurs_) = occurs_taken u v ws rest n without same occurs in
    (suc m, ap suc e, once_more w rest m same_ occurs_)
occurs_taken u v _ _ n (without_later _ w ws rest without) same (not_here _ _ _ differ occurs) =
    let (m, e, occurs_) = occurs_taken u v ws rest n without same occurs in
    (m, e, not_here w rest m differ occurs_)

occurs_kept : (u v : Value) (ws rest : Values) (n : ℕ) → Without v ws rest → ¬ Same u v → Occurs u ws n → Occurs u rest n
occurs_kept u v _ rest _ (without_first _ w _ same) differ (once_more _ _ n same_ occurs) =
    absurd (differ (Same-transitive w u v same_ (Same-symmetric v w same)))
occurs_kept u v _ rest n (without_first _ w _ same) differ (not_here _ _ _ _ occurs) = occurs
occurs_kept u v _ _ _ (without_later _ w ws rest without) differ (once_more _ _ n same occurs) =
    once_more w rest n same (occurs_kept u v ws rest n without differ occurs)
occurs_kept u v _ _ n (without_later _ w ws rest without) differ (not_here _ _ _ differ_ occurs) =
    not_here w rest n differ_ (occurs_kept u v ws rest n without differ occurs)

-- one pair taken away, a value is still as often in one as in the other
as_often_rest : (u v : Value) (vs ws rest : Values) (n : ℕ) → Without v ws rest → Occurs u (value v vs) n → Occurs u ws n
    → IsAsOften u vs rest
as_often_rest u v vs ws rest _ without (once_more _ _ n same occurs) occurs_ =
    let (m, e, kept) = occurs_taken u v ws rest (suc n) without same occurs_ in
    (n, occurs, subst (Occurs u rest) (omega (arith, e)) kept)
as_often_rest u v vs ws rest n without (not_here _ _ _ differ occurs) occurs_ =
    (n, occurs, occurs_kept u v ws rest n without differ occurs_)

are_as_often_rest : (us : Values) (v : Value) (vs ws rest : Values) → Without v ws rest → AreAsOften us (value v vs) ws
    → AreAsOften us vs rest
are_as_often_rest no_values v vs ws rest without are = tt
are_as_often_rest (value u us) v vs ws rest without are =
    (as_often_rest u v vs ws rest are.0.0 without are.0.1 are.0.2, are_as_often_rest us v vs ws rest without are.1)

-- the value itself is in front
first_without : (v : Value) (vs ws : Values) (n : ℕ) → Occurs v (value v vs) n → Occurs v ws n → (rest : Values) × Without v ws rest
first_without v vs ws _ (once_more _ _ n same occurs) occurs_ = found_without v ws n occurs_
first_without v vs ws n (not_here _ _ _ differ occurs) occurs_ = absurd (differ (Same-reflexive v))

-- values of which there are as many, and each as often, pair off
pub as_often_paired : (vs ws : Values) → count vs ≡ count ws → AreAsOften vs vs ws → SamePaired vs ws
as_often_paired no_values no_values counts are = both_empty
as_often_paired no_values (value w ws) counts are = absurd (omega (arith, counts))
as_often_paired (value v vs) ws counts are =
    let (rest, without) = first_without v vs ws are.0.0 are.0.1 are.0.2 in
    paired v vs ws rest without (as_often_paired vs rest (omega (arith, counts, without_count v ws rest without))
    (are_as_often_rest vs v vs ws rest without are.1))

-- a value that is more or less often in one than in the other
pub other_times : (v : Value) (vs ws : Values) (m n : ℕ) → Occurs v vs m → Occurs v ws n → m ≢ n → ¬ SamePaired vs ws
other_times v vs ws m n occurs occurs_ differ pairs = differ (occurs_once v ws m n (paired_as_often v vs ws m pairs occurs) occurs_)

pub is_as_often : (v : Value) (vs ws : Values) (m n : ℕ) → Occurs v vs m → Occurs v ws n → m ≡ n → IsAsOften v vs ws
is_as_often v vs ws m n occurs occurs_ e = (n, subst (Occurs v vs) e occurs, occurs_)
