-- Between tokens, separators give no token and need no memory.
use Rattle.std.proofs.Common.{◌≡◌, ◌≢◌, ◌+◌, ◌<◌, ◌⊎◌, ℕ, zero, suc, List, [], ◌∷◌, ◌++◌, length, take, Option, Some, Result, Ok, Err, inl, inr, refl, sym, ap, subst, ◌∙◌, append_assoc, append-nil, length-append, arith}
use Rattle.std.proofs.lemmas.Grind.{flat_map-append}
use Rattle.std.proofs.lemmas.List.{length-map}
use Rattle.std.specs.List.{flat_map}
use Rattle.p21_spec_basics.proofs.Members.{Each-append, head_is, tail_is}
use Rattle.p21_spec_exchange.proofs.FirstBytes.{spelling_begins, no-spelling, slash-first}
use Rattle.p21_spec_exchange.proofs.OneGap.{HasNoSeparator, gap-one, nothing-first, begins-on}
use Rattle.p21_spec_exchange.specs.Laying.{Lexeme, count_behind, open_bytes, tokens_in}
use Rattle.p21_spec_exchange.specs.Pending.{Tail, nothing, unfinished, slash, open_comment, tail_bytes, tail_size, BeginsWithNoSeparator, IsPending, IsTail, LaidUpTo}
use Rattle.p21_spec_exchange.specs.Separator.{blank, comment, IsSeparator, IsSeparatorText, separator_bytes}
use Rattle.p21_spec_exchange.specs.Token.{Token, begin, finish, keyword, user_keyword, name, whole, real, text, item, bits, left, right, comma, semicolon, equals, dollar, star, Spells, IsFollowed}
use Rattle.p21_grammar.specs.declared.event.Event.{Event}
use Rattle.p21_stream_statements.specs.Fault.{fault_of_token}
use Rattle.p21_stream_statements.specs.declared.fault.Fault.{Fault}
use Rattle.p21_stream_statements.specs.declared.fault.Fault.TheVariants.{NoMemory}
use Rattle.p21_stream_statements.proofs.Seen.{offered}
use Rattle.p21_stream_statements.specs.StatementReader.{Held, IsLive, IsSeenAt, NeedsNoMemory, StatementHistory}
use Rattle.p21_tokens.specs.Held.{pending_of, record_limit_of}
use Rattle.p21_tokens.specs.Histories as tokens
use Rattle.p21_tokens.specs.Histories.{AreSeparators, IsLaidWithin, TokenHistory}
use Rattle.p21_tokens.specs.Held as tokens_held
use Rattle.p21_tokens.specs.Token.{meant}
use Rattle.p21_tokens.specs.declared.fault.TokenFault.{TokenFault}
use Rattle.p21_tokens.specs.declared.fault.TokenFault.TheVariants as token_fault
use Rattle.p21_tokens.specs.declared.token.Token.{Token as TokenRead}
use Rattle.p21_tokens_automaton.proofs.OnePending.{append-rest, begins-no_separator, front-one, pending-one, none-pending}

-- ---- separators

separator-text : (bytes : List ℕ) → AreSeparators bytes → IsSeparatorText bytes
separator-text [] are = ([], tt, refl)
separator-text (b ∷ bs) are = let (ss, each, is) = separator-text bs are.1 in (blank b ∷ ss, (are.0, each), ap (λ (l : List ℕ). b ∷ l) is)

joined-text : (gap bytes : List ℕ) → IsSeparatorText gap → AreSeparators bytes → IsSeparatorText (gap ++ bytes)
joined-text gap bytes (ss, each, is) are =
    let (ts, more, same) = separator-text bytes are in (
      ss ++ ts,
      Each-append IsSeparator ss ts each more,
      ap (λ (l : List ℕ). l ++ bytes) is
          ∙ ap (λ (l : List ℕ). flat_map separator_bytes ss ++ l) same ∙ sym (flat_map-append separator_bytes ss ts),
    )

take-separators : (count : ℕ) (bytes : List ℕ) → AreSeparators bytes → AreSeparators (take count bytes)
take-separators zero bytes are = tt
take-separators (suc n) [] are = tt
take-separators (suc n) (b ∷ bs) are = (are.0, take-separators n bs are.1)

other-byte : (b c : ℕ) → IsSeparator (blank b) → b ≡ c → (32 < c) × (c ≢ 127) → ⊥
other-byte b c (inl low) same (above, other) = omega (arith, low, same, above)
other-byte b c (inr delete) same (above, other) = other (sym same ∙ delete)

no-star : (b : ℕ) → IsSeparator (blank b) → b ≡ 42 → ⊥
no-star b is same = other-byte b 42 is same (omega arith, λ e. omega (arith, e))

no-slash : (b : ℕ) → IsSeparator (blank b) → b ≡ 47 → ⊥
no-slash b is same = other-byte b 47 is same (omega arith, λ e. omega (arith, e))

star-among : (bytes before after : List ℕ) → AreSeparators bytes → bytes ≡ before ++ 42 ∷ after → ⊥
star-among [] [] after are same = cc
star-among [] (x ∷ xs) after are same = cc
star-among (b ∷ bs) [] after are same = no-star b are.0 (head_is b 42 bs after same)
star-among (b ∷ bs) (x ∷ xs) after are same = star-among bs xs after are.1 (tail_is b x bs (xs ++ 42 ∷ after) same)

slash-first-of : (bytes after : List ℕ) → AreSeparators bytes → bytes ≡ 47 ∷ after → ⊥
slash-first-of [] after are same = cc
slash-first-of (b ∷ bs) after are same = no-slash b are.0 (head_is b 47 bs after same)

-- separators close no comment
no-close : (inside bytes before after : List ℕ) → AreSeparators bytes → ((x y : List ℕ) → inside ≡ x ++ (42 ∷ 47 ∷ y) → ⊥)
    → inside ++ bytes ≡ before ++ (42 ∷ 47 ∷ after) → ⊥
no-close [] bytes before after are none same = star-among bytes before (47 ∷ after) are same
no-close (x ∷ []) bytes [] after are none same = slash-first-of bytes after are (tail_is x 42 bytes (47 ∷ after) same)
no-close (x ∷ y ∷ xs) bytes [] after are none same =
    let first : x ≡ 42 = head_is x 42 (y ∷ (xs ++ bytes)) (47 ∷ after) same in
    let second : y ≡ 47 = head_is y 47 (xs ++ bytes) after (tail_is x 42 (y ∷ (xs ++ bytes)) (47 ∷ after) same) in
    none [] xs (ap (λ (b : ℕ). b ∷ y ∷ xs) first ∙ ap (λ (b : ℕ). 42 ∷ b ∷ xs) second)
no-close (x ∷ xs) bytes (b ∷ before) after are none same =
    no-close xs bytes before after are (λ p q e. none (x ∷ p) q (ap (λ (l : List ℕ). x ∷ l) e))
    (tail_is x b (xs ++ bytes) (before ++ (42 ∷ 47 ∷ after)) same)

-- ---- what stands last, with separators behind it, begins no token

slash-no_separator : (bytes : List ℕ) → AreSeparators bytes → HasNoSeparator (47 ∷ bytes)
slash-no_separator bytes are (blank b) rest separates same = no-slash b separates (sym (head_is 47 b bytes rest same))
slash-no_separator bytes are (comment inside) rest separates same =
    star-among bytes [] ((inside ++ (42 ∷ 47 ∷ [])) ++ rest) are (tail_is 47 47 bytes (42 ∷ ((inside ++ (42 ∷ 47 ∷ [])) ++ rest)) same)

comment-no_separator : (inside bytes : List ℕ) → IsTail (open_comment inside) → AreSeparators bytes
    → HasNoSeparator (47 ∷ 42 ∷ (inside ++ bytes))
comment-no_separator inside bytes is are (blank b) rest separates same =
    no-slash b separates (sym (head_is 47 b (42 ∷ (inside ++ bytes)) rest same))
comment-no_separator inside bytes is are (comment closed) rest separates same =
    let inner : inside ++ bytes ≡ (closed ++ (42 ∷ 47 ∷ [])) ++ rest =
    tail_is 42 42 (inside ++ bytes) ((closed ++ (42 ∷ 47 ∷ [])) ++ rest)
    (tail_is 47 47 (42 ∷ (inside ++ bytes)) (42 ∷ ((closed ++ (42 ∷ 47 ∷ [])) ++ rest)) same) in
    no-close inside bytes closed rest are is (inner ∙ append_assoc closed (42 ∷ 47 ∷ []) rest)

no-token-first : (tail : Tail) (gap other spelling rest piece : List ℕ) (token : Token) → IsTail tail → tail_size tail ≡ 0
    → AreSeparators piece → IsSeparatorText gap → IsSeparatorText other → Spells token spelling
    → (gap ++ tail_bytes tail) ++ piece ≡ other ++ (spelling ++ rest) → ⊥
no-token-first nothing gap other spelling rest piece token is size are sep sep_ spells same =
    let bare : (gap ++ piece) ++ [] ≡ other ++ (spelling ++ rest) = append-nil (gap ++ piece)
    ∙ ap (λ (l : List ℕ). l ++ piece) (sym (append-nil gap)) ∙ same in
    no-spelling token spelling rest spells (sym (gap-one (gap ++ piece) other [] (spelling ++ rest) (joined-text gap piece sep are) sep_
    nothing-first (begins-no_separator (spelling ++ rest) (begins-on spelling rest (spelling_begins token spelling spells))) bare))
no-token-first (unfinished []) gap other spelling rest piece token is size are sep sep_ spells same = absurd is.first
no-token-first (unfinished (x ∷ xs)) gap other spelling rest piece token is size are sep sep_ spells same = cc
no-token-first slash gap other spelling rest piece token is size are sep sep_ spells same =
    slash-first token spelling rest piece spells
    (sym (gap-one gap other (47 ∷ piece) (spelling ++ rest) sep sep_ (slash-no_separator piece are)
    (begins-no_separator (spelling ++ rest) (begins-on spelling rest (spelling_begins token spelling spells)))
    (sym (append_assoc gap (47 ∷ []) piece) ∙ same)))
no-token-first (open_comment inside) gap other spelling rest piece token is size are sep sep_ spells same =
    slash-first token spelling rest (42 ∷ (inside ++ piece)) spells
    (sym (gap-one gap other (47 ∷ 42 ∷ (inside ++ piece)) (spelling ++ rest) sep sep_ (comment-no_separator inside piece is are)
    (begins-no_separator (spelling ++ rest) (begins-on spelling rest (spelling_begins token spelling spells)))
    (sym (append_assoc gap (47 ∷ 42 ∷ inside) piece) ∙ same)))

-- ---- behind a last token of which no bytes are pending any byte may stand

counted : (token : Token) (size count : ℕ) → count_behind count (record { token = token; size = size }) ≡ 0 → (token ≡ semicolon)
    ⊎ (size ≡ 0)
counted begin size count is = inr (omega (arith, is))
counted finish size count is = inr (omega (arith, is))
counted (keyword word) size count is = inr (omega (arith, is))
counted (user_keyword word) size count is = inr (omega (arith, is))
counted (name n) size count is = inr (omega (arith, is))
counted (whole z) size count is = inr (omega (arith, is))
counted (real d) size count is = inr (omega (arith, is))
counted (text chars) size count is = inr (omega (arith, is))
counted (item word) size count is = inr (omega (arith, is))
counted (bits value) size count is = inr (omega (arith, is))
counted left size count is = inr (omega (arith, is))
counted right size count is = inr (omega (arith, is))
counted comma size count is = inr (omega (arith, is))
counted semicolon size count is = inl refl
counted equals size count is = inr (omega (arith, is))
counted dollar size count is = inr (omega (arith, is))
counted star size count is = inr (omega (arith, is))

no-bytes : (bytes : List ℕ) → length bytes ≡ 0 → BeginsWithNoSeparator bytes → ⊥
no-bytes [] none begins = begins
no-bytes (x ∷ xs) none begins = cc

semicolon-followed : (spelling bytes : List ℕ) → IsFollowed semicolon spelling bytes
semicolon-followed spelling [] = tt
semicolon-followed spelling (b ∷ bs) = tt

followed-on : (l : Lexeme) (spelling rest piece : List ℕ) (lexemes : List Lexeme) (tail : Tail) (count : ℕ) → Spells l.token spelling
    → l.size ≡ length spelling → IsFollowed l.token spelling rest → LaidUpTo rest lexemes tail
    → open_bytes (count_behind count l) lexemes + tail_size tail ≡ 0 → IsFollowed l.token spelling (rest ++ piece)
followed-on l spelling (byte ∷ rest) piece lexemes tail count spells size followed laid none = followed
followed-on l spelling [] piece lexemes tail count spells size followed laid none =
    let is : count_behind count l ≡ 0 = sym (none-pending lexemes tail (count_behind count l) laid) ∙ none in
    elim (counted l.token l.size count is) [
      | inl same ↦ subst (λ (t : Token). IsFollowed t spelling piece) (sym same) (semicolon-followed spelling piece)
      | inr nothing_ ↦ absurd (no-bytes spelling (sym size ∙ nothing_) (spelling_begins l.token spelling spells))
    ]

-- ---- so the bytes with separators behind them have no further token

no-token-more : (ls ms : List Lexeme) (tail other : Tail) (bytes piece : List ℕ) (count : ℕ) → AreSeparators piece → LaidUpTo bytes ls tail
    → LaidUpTo (bytes ++ piece) ms other → open_bytes count ls + tail_size tail ≡ 0 → length ms ≡ suc (length ls) → ⊥
no-token-more [] [] tail other bytes piece count are laid laid_ none many = cc
no-token-more (l ∷ ls) [] tail other bytes piece count are laid laid_ none many = cc
no-token-more [] (m ∷ ms) tail other bytes piece count are (gap, is, sep, tail_is_)
    (gap_, spelling, rest, is_, sep_, spells, size, followed, laid_) none many =
    no-token-first tail gap gap_ spelling rest piece m.token tail_is_ (omega (arith, none)) are sep sep_ spells
    (ap (λ (l : List ℕ). l ++ piece) (sym is) ∙ is_)
no-token-more (l ∷ ls) (m ∷ ms) tail other bytes piece count are (gap, p, r, is, sep, spells, size, followed, laid)
    (gap_, q, w, is_, sep_, spells_, size_, followed_, laid_) none many =
    let whole_ : gap ++ (p ++ (r ++ piece)) ≡ gap_ ++ (q ++ w) =
    sym (append_assoc gap (p ++ r) piece ∙ ap (λ (x : List ℕ). gap ++ x) (append_assoc p r piece))
    ∙ ap (λ (x : List ℕ). x ++ piece) (sym is) ∙ is_ in
    let same : p ++ (r ++ piece) ≡ q ++ w = gap-one gap gap_ (p ++ (r ++ piece)) (q ++ w) sep sep_
    (begins-no_separator (p ++ (r ++ piece)) (begins-on p (r ++ piece) (spelling_begins l.token p spells)))
    (begins-no_separator (q ++ w) (begins-on q w (spelling_begins m.token q spells_))) whole_ in
    let one = front-one l.token m.token p q (r ++ piece) w spells spells_
    (followed-on l p r piece ls tail count spells size followed laid none) followed_ same in
    let behind : r ++ piece ≡ w = append-rest p q (r ++ piece) w one.size same in
    no-token-more ls ms tail other r piece (count_behind count l) are laid (subst (λ (x : List ℕ). LaidUpTo x ms other) (sym behind) laid_)
    none (omega (arith, many))

-- ---- of a reader

laid-so_far : (held : Held) (reading : StatementHistory) (live : IsLive held reading) → pending_of held.lexer ≡ 0
    → IsLaidWithin (record_limit_of held.lexer) (pending_of held.lexer) live.history
laid-so_far held reading live none = elim live.answered [
  | inl start ↦ subst (λ (h : TokenHistory). IsLaidWithin (record_limit_of held.lexer) (pending_of held.lexer) h) (sym start) (record {
    lexemes = [];
    tail = nothing;
    laid = ([], refl, ([], tt, refl), tt);
    given_are = refl;
    statements_within = tt;
    pending_is = omega (arith, none);
    pending_within = omega (arith, none);
  })
  | inr answers ↦ answers.laid_within
]

no-token : (held : Held) (reading : StatementHistory) → IsLive held reading
    → (piece : List ℕ) (count : ℕ) (token : TokenRead) (lexer : tokens_held.Held)
    → tokens.NextGives held.lexer piece (Ok (count, Some token)) lexer
    → IsSeenAt reading.seen piece 0 → pending_of held.lexer ≡ 0 → AreSeparators piece → ⊥
no-token held reading live piece count token lexer gives at none are =
    let own : IsSeenAt live.history.seen piece 0 = subst (λ (seen : Option ℕ). IsSeenAt seen piece 0) (sym live.seen_is) at in
    let old = laid-so_far held reading live none in
    let new = (gives live.history live.lexer (offered live.history.seen piece own)).laid_within in
    let one : length (tokens_in new.lexemes) ≡ length (live.history.given ++ meant token ∷ []) = ap length new.given_are in
    let two = length-append live.history.given (meant token ∷ []) in
    let three : length (tokens_in old.lexemes) ≡ length live.history.given = ap length old.given_are in
    let four = length-map new.lexemes (λ (l : Lexeme). l.token) in
    let five = length-map old.lexemes (λ (l : Lexeme). l.token) in
    no-token-more old.lexemes new.lexemes old.tail new.tail live.history.taken (take count piece) 0 (take-separators count piece are)
    old.laid new.laid (sym old.pending_is ∙ none) (omega (arith, one, two, three, four, five))

-- ---- its steps

pending-none : (held : Held) (reading : StatementHistory) → IsLive held reading → IsPending reading.taken 0 → pending_of held.lexer ≡ 0
unfolding tokens.Stands
pending-none held reading live none = pending-one reading.taken (pending_of held.lexer) 0
    (subst (λ (taken : List ℕ). IsPending taken (pending_of held.lexer)) live.taken_are live.lexer.2.0) none

of-token : (fault : TokenFault) → fault_of_token fault ≡ NoMemory → fault ≡ token_fault.NoMemory
of-token token_fault.NoMemory is = refl
of-token token_fault.BadByte is = cc
of-token token_fault.OpenString is = cc
of-token token_fault.OpenComment is = cc
of-token token_fault.BadDirective is = cc
of-token token_fault.BadCodePoint is = cc
of-token token_fault.NotUtf8 is = cc
of-token token_fault.BadNumber is = cc
of-token token_fault.NumberRange is = cc
of-token token_fault.BadBinary is = cc
of-token token_fault.NameRange is = cc
of-token token_fault.BadName is = cc
of-token token_fault.NotOneParameter is = cc
of-token token_fault.RecordTooLong is = cc
of-token token_fault.FileTooLong is = cc
of-token token_fault.EndsEarly is = cc
of-token (token_fault.LeftOut absent) is = cc

-- a refusal of the lexer
pub quiet-refused : (held : Held) (piece : List ℕ) (fault : TokenFault) (refusal : Fault) → refusal ≡ fault_of_token fault
    → tokens.NeedsNoMemory held.lexer piece (Err fault) → NeedsNoMemory held piece (Err refusal)
quiet-refused held piece fault refusal same needs reading live at none are is =
    needs live.history live.lexer live.lexer_open (pending-none held reading live none) are
    (ap (λ (f : TokenFault). Err f) (of-token fault (sym same ∙ is)))

-- a token can't have come
pub quiet-token : (held : Held) (piece : List ℕ) (count : ℕ) (token : TokenRead) (lexer : tokens_held.Held)
    → tokens.NextGives held.lexer piece (Ok (count, Some token)) lexer → (result : Result (Option (ℕ × Option Event)) Fault)
    → NeedsNoMemory held piece result
quiet-token held piece count token lexer gives result reading live at none are =
    absurd (no-token held reading live piece count token lexer gives at (pending-none held reading live none) are)
