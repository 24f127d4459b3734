-- The search for the one scalar of a text.
use Rattle.std.proofs.Common.{◌≡◌, ℕ, zero, suc, ◌+◌, ◌-◌, ◌^◌, ◌≤◌, ◌<◌, Bool, true, false, cond, List, [], ◌∷◌, ◌++◌, ◌⊎◌, inl, inr, length, length-append, length-drop, take, drop, refl, sym, ap, ◌∙◌, subst, append_assoc, append-nil, arith, take_all, Option, Some, None, Result, Ok, Err}
use Rattle.std.specs.List.{slice_get, slice_range}
use Rattle.std.proofs.lemmas.List.{take-append-drop}
use Rattle.p21_spec_basics.specs.History.{extended, seen_behind, first_refusal, looked_at, IsOfferedFirst}
use Rattle.p21_spec_exchange.specs.Laying.{Lexeme, Laid, LaidAs, HoldsScalar, open_bytes, count_behind, tokens_in}
use Rattle.p21_spec_basics.specs.Limits.{text_limit}
use Rattle.p21_spec_exchange.specs.Pending.{Tail, nothing, unfinished, slash, open_comment, tail_bytes, tail_size, LaidUpTo}
use Rattle.p21_spec_exchange.specs.Token.{Token, IsScalarToken, Spells, IsSpelled}
use Rattle.p21_tokens_automaton.proofs.Theorems.{one-laying}
use Rattle.p21_tokens.specs.Finding.{FindsScalar, FindsOnlyScalar, IsFoundScalar, PendingBytes}
use Rattle.p21_spec_exchange.specs.Spelling.{spelling}
use Rattle.p21_spec_exchange.proofs.CanonicalSpellings.{spells-itself}
use Rattle.p21_tokens_automaton.proofs.Spellings.{same-spelling}
use Rattle.p21_tokens.specs.Parameter.{AreNoScalar, HoldsOtherTokens, stand_first, are_all, EndsUnfinished, IsRefusedFor, at_byte, at_end, IsAnswer, IsRefusal}
use Rattle.p21_tokens.proofs.Extending.{stands-laid, take-one}
use Rattle.p21_tokens.proofs.Following.{count-le}
use Rattle.p21_tokens.specs.Held.{Held}
use Rattle.p21_tokens.specs.Histories.{TokenHistory, call_of, Stands, BeginsWithSeen, AreDead, Answers, EndsWithFault, NamesFaultAtByte, RefusesAtByte, NextGives, FinishGives, FinishNamesFault}
use Rattle.p21_tokens.specs.Token.{meant, meant_all, waits}
use Rattle.p21_tokens.specs.declared.fault.TokenFault.{TokenFault}
use Rattle.p21_tokens.specs.declared.fault.TokenFault.TheVariants as fault
use Rattle.p21_tokens.specs.declared.token.Token.{Token as TokenRead}

offered : (seen : Option ℕ) (rest : List ℕ) → BeginsWithSeen seen rest → IsOfferedFirst seen rest
offered None rest g = tt
offered (Some b) [] g = absurd g
offered (Some b) (c ∷ rest) g = g

-- ---- the byte that was seen

goes-behind : (rest : List ℕ) (n : ℕ) → BeginsWithSeen (slice_get rest n) (drop n rest)
goes-behind [] zero = tt
goes-behind [] (suc n) = tt
goes-behind (b ∷ rest) zero = refl
goes-behind (b ∷ rest) (suc n) = goes-behind rest n

goes-after : (seen looked : Option ℕ) (rest : List ℕ) (n : ℕ) → BeginsWithSeen seen rest → 0 < length rest → (looked ≡ slice_get rest n) ⊎ (looked ≡ None) → BeginsWithSeen (seen_behind seen (take n rest) looked) (drop n rest)
goes-after seen looked [] n g l h = absurd (omega arith)
goes-after seen looked (b ∷ rest) zero g l (inl e) = subst (λ (x : Option ℕ). BeginsWithSeen (seen_behind seen [] x) (b ∷ rest)) (sym e) refl
goes-after seen looked (b ∷ rest) zero g l (inr e) = subst (λ (x : Option ℕ). BeginsWithSeen (seen_behind seen [] x) (b ∷ rest)) (sym e) g
goes-after seen looked (b ∷ rest) (suc n) g l (inl e) = subst (λ (x : Option ℕ). BeginsWithSeen x (drop n rest)) (sym e) (goes-behind rest n)
goes-after seen looked (b ∷ rest) (suc n) g l (inr e) = subst (λ (x : Option ℕ). BeginsWithSeen x (drop n rest)) (sym e) tt

looked-all : (h : TokenHistory) (rest : List ℕ) → BeginsWithSeen h.seen rest → (more : List ℕ) × (looked_at h ++ more ≡ h.taken ++ rest)
looked-all h rest g = at h.seen rest g
  where
    at : (seen : Option ℕ) (rest : List ℕ) → BeginsWithSeen seen rest → (more : List ℕ) × ((h.taken ++ elim seen [ None ↦ [] | Some b ↦ b ∷ [] ]) ++ more ≡ h.taken ++ rest)
    at None rest g = (rest, ap (λ (x : List ℕ). x ++ rest) (append-nil h.taken))
    at (Some b) [] g = absurd g
    at (Some b) (c ∷ rest) g = (rest, append_assoc h.taken (b ∷ []) rest ∙ ap (λ (x : ℕ). h.taken ++ (x ∷ rest)) (sym g))

back : (rest : List ℕ) (n : ℕ) → slice_range rest n (length rest) ≡ drop n rest
back rest n = take_all (length rest - n) (drop n rest) (simp length-drop (omega arith))

taken-rest : (taken rest : List ℕ) (n : ℕ) → (taken ++ take n rest) ++ drop n rest ≡ taken ++ rest
taken-rest taken rest n = append_assoc taken (take n rest) (drop n rest) ∙ ap (λ (x : List ℕ). taken ++ x) (take-append-drop n rest)

looked-is : (token : Token) (rest : List ℕ) (n : ℕ) → ((call_of rest n (Some token)).seen ≡ slice_get rest n) ⊎ ((call_of rest n (Some token)).seen ≡ None)
looked-is token rest n = at (waits token) refl
  where
    at : (b : Bool) → waits token ≡ b → (cond (waits token) (slice_get rest n) None ≡ slice_get rest n) ⊎ (cond (waits token) (slice_get rest n) None ≡ None)
    at true e = inl (ap (λ (x : Bool). cond x (slice_get rest n) None) e)
    at false e = inr (ap (λ (x : Bool). cond x (slice_get rest n) None) e)

-- ---- a call that answered

pub pending_bytes-none : (v w : Held) (bytes rest : List ℕ) (found : Option TokenRead) (n : ℕ) → PendingBytes v bytes rest found → 0 < length rest → NextGives v rest (Ok (n, None)) w → w.statement_limit ≡ v.statement_limit → w.file_limit ≡ v.file_limit → PendingBytes w bytes (slice_range rest n (length rest)) found
pending_bytes-none v w bytes rest found n k l g s f =
    let a = g k.history k.stands (offered k.history.seen rest k.goes) in
    let h = extended k.history (call_of rest n None) in
    record {
      history = h;
      stands = a.stands;
      alive = ap (λ (x : Option TokenFault). first_refusal x None) k.alive;
      all_is = ap (λ (x : List ℕ). h.taken ++ x) (back rest n) ∙ (taken-rest k.history.taken rest n ∙ k.all_is);
      given_is = append-nil k.history.given ∙ k.given_is;
      goes = subst (λ (x : List ℕ). BeginsWithSeen h.seen x) (sym (back rest n)) (goes-after k.history.seen None rest n k.goes l (inr refl));
      scalar = k.scalar;
      within = k.within;
      statement_limit = s ∙ k.statement_limit;
      file_limit = f ∙ k.file_limit;
    }

-- the history behind a call that gave a token
module _ (v w : Held) (bytes rest : List ℕ) (found : Option TokenRead) (n : ℕ) (token : TokenRead) (k : PendingBytes v bytes rest found) (l : 0 < length rest) (g : NextGives v rest (Ok (n, Some token)) w) where
  answers : Answers w (extended k.history (call_of rest n (Some (meant token))))
  answers = g k.history k.stands (offered k.history.seen rest k.goes)

  goes-more : BeginsWithSeen (extended k.history (call_of rest n (Some (meant token)))).seen (drop n rest)
  goes-more = goes-after k.history.seen (call_of rest n (Some (meant token))).seen rest n k.goes l (looked-is (meant token) rest n)

  pub pending_bytes-some : found ≡ None → IsScalarToken (meant token) → w.statement_limit ≡ v.statement_limit → w.file_limit ≡ v.file_limit → PendingBytes w bytes (slice_range rest n (length rest)) (Some token)
  pending_bytes-some e scalar s f =
      let h = extended k.history (call_of rest n (Some (meant token))) in
      record {
        history = h;
        stands = answers.stands;
        alive = ap (λ (x : Option TokenFault). first_refusal x None) k.alive;
        all_is = ap (λ (x : List ℕ). h.taken ++ x) (back rest n) ∙ (taken-rest k.history.taken rest n ∙ k.all_is);
        given_is = ap (λ (x : List Token). x ++ meant token ∷ []) (k.given_is ∙ ap meant_all e);
        goes = subst (λ (x : List ℕ). BeginsWithSeen h.seen x) (sym (back rest n)) goes-more;
        scalar = scalar;
        within = k.within;
        statement_limit = s ∙ k.statement_limit;
        file_limit = f ∙ k.file_limit;
      }

  -- the one token of the text is the first that was given
  first-given : (other : Token) → Laid bytes (other ∷ []) → (more : List Token) × (other ∷ [] ≡ (meant_all found ++ meant token ∷ []) ++ more)
  first-given other laid =
      let h = extended k.history (call_of rest n (Some (meant token))) in
      let all = looked-all h (drop n rest) goes-more in
      let same : looked_at h ++ all.0 ≡ bytes = all.1 ∙ (taken-rest k.history.taken rest n ∙ k.all_is) in
      let first = answers.given_first all.0 (other ∷ []) (subst (λ (x : List ℕ). Laid x (other ∷ [])) (sym same) laid) in
      (first.0, first.1 ∙ ap (λ (x : List Token). (x ++ meant token ∷ []) ++ first.0) k.given_is)

  -- the tokens that were given
  given-are : (lexemes : List Lexeme) → tokens_in lexemes ≡ k.history.given ++ meant token ∷ [] → tokens_in lexemes ≡ meant_all found ++ meant token ∷ []
  given-are lexemes e = e ∙ ap (λ (x : List Token). x ++ meant token ∷ []) k.given_is

  others : AreNoScalar (meant_all found ++ meant token ∷ []) → HoldsOtherTokens bytes
  others more =
      let within = answers.laid_within in
      stand_first (k.history.taken ++ take n rest) (drop n rest) within.lexemes within.tail (sym (taken-rest k.history.taken rest n ∙ k.all_is)) within.laid (subst AreNoScalar (sym (given-are within.lexemes within.given_are)) more)

  no-second : (before : TokenRead) → found ≡ Some before → (other : Token) → HoldsScalar bytes other → ⊥
  no-second before e other held =
      let first = first-given other held.1 in
      let same : other ∷ [] ≡ (meant before ∷ meant token ∷ []) ++ first.0 = first.1 ∙ ap (λ (x : Option TokenRead). (meant_all x ++ meant token ∷ []) ++ first.0) e in
      let l = ap length same in
      cc

  pub second-token : (before : TokenRead) → found ≡ Some before → FindsScalar bytes (Err fault.NotOneParameter)
  second-token before e = (others (subst (λ (x : Option TokenRead). AreNoScalar (meant_all x ++ meant token ∷ [])) (sym e) tt), λ _. no-second before e)

  none-first : found ≡ None → (IsScalarToken (meant token) → ⊥) → (other : Token) → HoldsScalar bytes other → ⊥
  none-first e not other held =
      let first = first-given other held.1 in
      let same : other ∷ [] ≡ (meant token ∷ []) ++ first.0 = first.1 ∙ ap (λ (x : Option TokenRead). (meant_all x ++ meant token ∷ []) ++ first.0) e in
      let one : other ≡ meant token = cc in
      not (subst IsScalarToken one held.0)

  pub no-scalar : found ≡ None → (IsScalarToken (meant token) → ⊥) → FindsScalar bytes (Err fault.NotOneParameter)
  no-scalar e not = (others (subst (λ (x : Option TokenRead). AreNoScalar (meant_all x ++ meant token ∷ [])) (sym e) not), λ _. none-first e not)

-- ---- a call that refused

pending-few : (lexemes : List Lexeme) (bytes : List ℕ) (tail : Tail) (n : ℕ) → LaidUpTo bytes lexemes tail → open_bytes n lexemes + tail_size tail ≤ n + length bytes
pending-few [] bytes tail n l = let sum = ap length l.1 in let p = length-append l.0 (tail_bytes tail) in let q = tail-le tail in omega arith
  where
    tail-le : (tail : Tail) → tail_size tail ≤ length (tail_bytes tail)
    tail-le nothing = omega arith
    tail-le (unfinished bytes) = omega arith
    tail-le slash = omega arith
    tail-le (open_comment inside) = omega arith
pending-few (x ∷ lexemes) bytes tail n l =
    let rest = pending-few lexemes l.2 tail (count_behind n x) l.8 in
    let count = count-le x.token x.size n in
    let sum = ap length l.3 in
    let p = length-append l.0 (l.1 ++ l.2) in
    let q = length-append l.1 l.2 in
    let size = l.6 in
    omega arith

-- a list divided at a byte
divided : (rest : List ℕ) (n byte : ℕ) → slice_get rest n ≡ Some byte → take n rest ++ byte ∷ drop (n + 1) rest ≡ rest
divided rest n byte e = sym (append_assoc (take n rest) (byte ∷ []) (drop (n + 1) rest)) ∙ (ap (λ (x : List ℕ). x ++ drop (n + 1) rest) (sym (take-one rest n byte e)) ∙ take-append-drop (n + 1) rest)

pub finds-refused : (v w : Held) (bytes rest : List ℕ) (found : Option TokenRead) (x : TokenFault) → PendingBytes v bytes rest found → NextGives v rest (Err x) w → FindsScalar bytes (Err x)
finds-refused v w bytes rest found x k g = at x (g k.history k.stands (offered k.history.seen rest k.goes) k.alive)
  where
    front : (n : ℕ) → length (k.history.taken ++ take n rest) ≤ text_limit
    front n = let all = ap length (taken-rest k.history.taken rest n ∙ k.all_is) in let p = length-append (k.history.taken ++ take n rest) (drop n rest) in let m = k.within in omega arith

    no-others : (token : Option TokenRead) → IsFoundScalar token → ¬ AreNoScalar (meant_all token)
    no-others None s a = a
    no-others (Some token) s a = a s

    refused : (x : TokenFault) (r : RefusesAtByte v k.history rest x w) → NamesFaultAtByte r.tail r.byte x → IsRefusedFor bytes x
    refused x r names =
        let front = k.history.taken ++ take r.count rest in
        let joined : front ++ r.byte ∷ drop (r.count + 1) rest ≡ bytes =
        (append_assoc k.history.taken (take r.count rest) (r.byte ∷ drop (r.count + 1) rest) ∙ ap (λ (x : List ℕ). k.history.taken ++ x) (divided rest r.count r.byte r.byte_is)) ∙ k.all_is in
        at_byte front (drop (r.count + 1) rest) r.byte r.lexemes r.tail (sym joined) r.laid (λ a. no-others found k.scalar (subst AreNoScalar (r.given_are ∙ k.given_is) a)) names

    dead : (n : ℕ) → AreDead (k.history.taken ++ take n rest) → (token : Token) → HoldsScalar bytes token → ⊥
    dead n d token held = d (drop n rest) (token ∷ []) (subst (λ (y : List ℕ). Laid y (token ∷ [])) (sym (taken-rest k.history.taken rest n ∙ k.all_is)) held.1)

    at : (x : TokenFault) → RefusesAtByte v k.history rest x w → FindsScalar bytes (Err x)
    at fault.NoMemory r = (tt, λ n. absurd (n refl))
    at fault.FileTooLong r = let m = front (r.count + 1) in let n = r.refuses in let f = k.file_limit in absurd (omega arith)
    at fault.RecordTooLong r =
        let full = r.refuses.2 in
        let few = pending-few full.lexemes (k.history.taken ++ take r.count rest) full.tail 0 full.laid in
        let m = front r.count in
        let n = full.full in
        let f = k.statement_limit in
        absurd (omega arith)
    at fault.OpenString r = absurd r.refuses
    at fault.OpenComment r = absurd r.refuses
    at fault.NotOneParameter r = absurd r.refuses
    at fault.EndsEarly r = absurd r.refuses
    at fault.BadByte r = (refused fault.BadByte r (r.names tt), λ _. dead (r.count + 1) r.refuses)
    at fault.BadDirective r = (refused fault.BadDirective r (r.names tt), λ _. dead (r.count + 1) r.refuses)
    at fault.BadCodePoint r = (refused fault.BadCodePoint r (r.names tt), λ _. dead (r.count + 1) r.refuses)
    at fault.NotUtf8 r = (refused fault.NotUtf8 r (r.names tt), λ _. dead (r.count + 1) r.refuses)
    at fault.BadNumber r = (refused fault.BadNumber r (r.names tt), λ _. dead (r.count + 1) r.refuses)
    at fault.NumberRange r = (refused fault.NumberRange r (r.names tt), λ _. dead (r.count + 1) r.refuses)
    at fault.BadBinary r = (refused fault.BadBinary r (r.names tt), λ _. dead (r.count + 1) r.refuses)
    at fault.NameRange r = (refused fault.NameRange r (r.names tt), λ _. dead (r.count + 1) r.refuses)
    at fault.BadName r = (refused fault.BadName r (r.names tt), λ _. dead (r.count + 1) r.refuses)
    at (fault.LeftOut absent) r = (refused (fault.LeftOut absent) r (r.names tt), λ _. dead (r.count + 1) r.refuses)

-- ---- the end of the text

module _ (v : Held) (bytes rest : List ℕ) (found : Option TokenRead) (k : PendingBytes v bytes rest found) (none : length rest ≡ 0) where
  pub empty-rest : rest ≡ []
  empty-rest = nil rest none
    where
      nil : (xs : List ℕ) → length xs ≡ 0 → xs ≡ []
      nil [] e = refl
      nil (x ∷ xs) e = absurd (omega arith)

  unseen : k.history.seen ≡ None
  unseen = at k.history.seen (subst (λ (x : List ℕ). BeginsWithSeen k.history.seen x) empty-rest k.goes)
    where
      at : (seen : Option ℕ) → BeginsWithSeen seen [] → seen ≡ None
      at None g = refl
      at (Some b) g = absurd g

  taken-all : k.history.taken ≡ bytes
  taken-all = sym (append-nil k.history.taken) ∙ (ap (λ (x : List ℕ). k.history.taken ++ x) (sym empty-rest) ∙ k.all_is)

  one-found : (found : Option TokenRead) → IsFoundScalar found → ¬ AreNoScalar (meant_all found)
  one-found None s a = a
  one-found (Some token) s a = a s

  pub ends-unfinished : Laid bytes [] → ((tokens : List Token) → Laid bytes tokens → tokens ≡ []) → EndsUnfinished bytes
  ends-unfinished laid n =
      let l = stands-laid v k.history k.stands k.alive in
      record {
        lexemes = l.0;
        tail = l.1;
        laid = subst (λ (x : List ℕ). LaidUpTo x l.0 l.1) taken-all l.2;
        no_others = λ a. one-found found k.scalar (subst AreNoScalar (l.3 ∙ k.given_is) a);
        none = n;
        names = inl laid;
      }

  wrong-end : (x : TokenFault) → EndsWithFault k.history x → IsRefusedFor bytes x
  wrong-end x w =
      at_end w.lexemes w.tail (subst (λ (y : List ℕ). LaidUpTo y w.lexemes w.tail) taken-all w.laid) (λ a. one-found found k.scalar (subst AreNoScalar (w.given_are ∙ k.given_is) a)) w.names

  wrong-early : EndsWithFault k.history fault.EndsEarly → ((tokens : List Token) → Laid bytes tokens → tokens ≡ []) → EndsUnfinished bytes
  wrong-early w n = record {
    lexemes = w.lexemes;
    tail = w.tail;
    laid = subst (λ (y : List ℕ). LaidUpTo y w.lexemes w.tail) taken-all w.laid;
    no_others = λ a. one-found found k.scalar (subst AreNoScalar (w.given_are ∙ k.given_is) a);
    none = n;
    names = inr w.names;
  }

  unlaid : (tokens : List Token) → (Laid k.history.taken tokens → ⊥) → Laid bytes tokens → ⊥
  unlaid tokens none-laid laid = none-laid (subst (λ (x : List ℕ). Laid x tokens) (sym taken-all) laid)

  pub finds-end : (x : TokenFault) → FinishGives v (Err x) → FinishNamesFault v (Err x) → FindsScalar bytes (Err x)
  finds-end fault.NoMemory g w = (tt, λ n. absurd (n refl))
  finds-end fault.FileTooLong g w = absurd (g k.history k.stands unseen k.alive).0
  finds-end fault.RecordTooLong g w = absurd (g k.history k.stands unseen k.alive).0
  finds-end fault.NotOneParameter g w = absurd (g k.history k.stands unseen k.alive).0
  finds-end fault.EndsEarly g w =
      let none-laid = (g k.history k.stands unseen k.alive).1 in
      (wrong-early (w k.history k.stands unseen k.alive) (λ tokens laid. absurd (unlaid tokens (none-laid tokens) laid)), λ _ token held. unlaid (token ∷ []) (none-laid (token ∷ [])) held.1)
  finds-end _ g w = (wrong-end _ (w k.history k.stands unseen k.alive), λ _ token held. unlaid (token ∷ []) ((g k.history k.stands unseen k.alive).1 (token ∷ [])) held.1)

  -- the tokens of the text
  pub tokens-are : (last : Option TokenRead) → FinishGives v (Ok last) → Laid bytes (meant_all found ++ meant_all last)
  tokens-are last g =
      let laid = (g k.history k.stands unseen).1 in
      subst (λ (x : List Token). Laid bytes (x ++ meant_all last)) k.given_is (subst (λ (x : List ℕ). Laid x (k.history.given ++ meant_all last)) taken-all laid)

pub finds-only_scalar : (bytes : List ℕ) (found last : Option TokenRead) (result : Result TokenRead TokenFault) → IsFoundScalar found → (Laid bytes [] → ((tokens : List Token) → Laid bytes tokens → tokens ≡ []) → EndsUnfinished bytes) → Laid bytes (meant_all found ++ meant_all last) → FindsOnlyScalar found last result → FindsScalar bytes result
finds-only_scalar bytes None None (Err fault.EndsEarly) s early laid o = (early laid (λ tokens other. one-laying bytes tokens [] other laid), λ _ token held. let e = one-laying bytes [] (token ∷ []) laid held.1 in cc)
finds-only_scalar bytes (Some first) None (Ok answer) s early laid o = subst (λ (x : Token). HoldsScalar bytes x) (sym o) (s, laid)
finds-only_scalar bytes None (Some last) (Ok answer) s early laid o = subst (λ (x : Token). HoldsScalar bytes x) (sym o.0) (o.1, laid)
finds-only_scalar bytes None (Some last) (Err fault.NotOneParameter) s early laid o = (
  are_all (meant last ∷ []) laid o,
  λ _ token held.
      let e = one-laying bytes (meant last ∷ []) (token ∷ []) laid held.1 in
      let same : meant last ≡ token = cc in
      o (subst IsScalarToken (sym same) held.0),
)
finds-only_scalar bytes (Some first) (Some last) (Err fault.NotOneParameter) s early laid o = (
  are_all (meant first ∷ meant last ∷ []) laid tt,
  λ _ token held. let e = one-laying bytes (meant first ∷ meant last ∷ []) (token ∷ []) laid held.1 in cc,
)
finds-only_scalar bytes _ _ _ s early laid o = absurd o

-- ---- the answer

pub answer-of : (input : List ℕ) (token : Token) → length input ≤ text_limit → HoldsScalar input token → IsSpelled token → IsAnswer input (spelling token)
answer-of input token within held spelled = record {
  within = within;
  token = token;
  held = held;
  spelling_is = refl;
  spells = spells-itself token spelled.0 spelled.1;
  same = λ other value. let equal = same-spelling token other spelled value.1 in (equal.1, equal.0);
}

-- the one token of a text is spelled
pub spelled-in : (input : List ℕ) (token : Token) → Laid input (token ∷ []) → IsSpelled token
spelled-in input token laid = at laid.lexemes laid.tokens_are laid.laid
  where
    at : (ls : List Lexeme) → tokens_in ls ≡ token ∷ [] → LaidAs input ls → IsSpelled token
    at [] e l = absurd cc
    at (x ∷ ls) e l = let same : x.token ≡ token = cc in (l.1, subst (λ (t : Token). Spells t l.1) same l.5)

pub refusal_of : (text : List ℕ) (x : TokenFault) → length text ≤ text_limit → FindsScalar text (Err x) → IsRefusal text x
refusal_of text fault.FileTooLong within f = absurd f.0
refusal_of text _ within f = (within, f.0, f.1)
