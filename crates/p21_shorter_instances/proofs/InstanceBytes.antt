-- Instances that are taken straight from their bytes.
use Rattle.std.proofs.Common.{◌≡◌, ◌≤◌, ◌<◌, ◌-◌, ◌⊎◌, ℕ, zero, suc, List, [], ◌∷◌, ◌++◌, length, take, map, inl, inr, refl, sym, ap, subst, ◌∙◌, append_assoc, length-append, arith}
use Rattle.std.proofs.lemmas.List.{take-append-le, take_all}
use Rattle.std.specs.List.{AllByRecursion as Each, slice_range}
use Rattle.p21_mapping_values.specs.TypedView.{need_view}
use Rattle.p21_mapping_values.specs.declared.need.Need.{Need}
use Rattle.p21_spec_basics.proofs.Members.{Each-back, some_is}
use Rattle.p21_spec_exchange.proofs.FirstBytes.{spelling_begins}
use Rattle.p21_spec_exchange.specs.Laying.{Laid, LaidAs, Lexeme, tokens_in}
use Rattle.p21_spec_exchange.specs.Pending.{BeginsWithNoSeparator}
use Rattle.p21_spec_exchange.specs.Record.{record_tokens}
use Rattle.p21_spec_exchange.specs.Separator.{IsSeparator, blank}
use Rattle.p21_spec_exchange.specs.Statement.{instance, statement_tokens}
use Rattle.p21_spec_exchange.specs.Token.{IsFollowed, Token, equals, name, semicolon}
use Rattle.p21_spec_file.specs.CanonicalTexts.{IsInstanceText}
use Rattle.p21_spec_file.specs.Reference as meant
use Rattle.p21_spec_laws.specs.Needs.{MeansWithNeeds}
use Rattle.p21_spec_schema.specs.Schema.{Schema}
use Rattle.p21_shorter_instances.specs.ExternalSet.{IsNumberedSet}
use Rattle.p21_shorter_instances.specs.Instance.{TakesInstance}
use Rattle.p21_shorter_instances.specs.Leaving.{BeginsWithMark}
use Rattle.p21_shorter_instances.specs.Taker.{IsInstance}
use Rattle.p21_shorter_instances.specs.TakenValues.{LaidBefore}
use Rattle.p21_shorter_instances.specs.declared.taken.Taken.{Taken}

-- ---- the bytes of an instance

followed-before : (token : Token) (spelling front rest : List ℕ) → IsFollowed token spelling (front ++ rest)
    → IsFollowed token spelling front
followed-before token spelling [] rest followed = tt
followed-before token spelling (byte ∷ front) rest followed = followed

-- tokens that are laid before the rest are laid in the bytes before it
laid-front : (bytes rest : List ℕ) (tokens : List Token) → LaidBefore bytes tokens rest
    → (front : List ℕ) × (bytes ≡ front ++ rest) × Laid front tokens
laid-front bytes rest [] is = ([], is, record { lexemes = []; tokens_are = refl; laid = ([], tt, refl) })
laid-front bytes rest (token ∷ tokens) (gap, spelling, behind, is, separates, spells, followed, more) =
    let (front, same, laid) = laid-front behind rest tokens more in
    let joined : gap ++ (spelling ++ (front ++ rest)) ≡ (gap ++ (spelling ++ front)) ++ rest =
    ap (λ (l : List ℕ). gap ++ l) (sym (append_assoc spelling front rest)) ∙ sym (append_assoc gap (spelling ++ front) rest) in (
      gap ++ (spelling ++ front),
      is ∙ ap (λ (l : List ℕ). gap ++ (spelling ++ l)) same ∙ joined,
      record {
        lexemes = record { token = token; size = length spelling } ∷ laid.lexemes;
        tokens_are = ap (λ (ts : List Token). token ∷ ts) laid.tokens_are;
        laid = (
          gap,
          spelling,
          front,
          refl,
          separates,
          spells,
          refl,
          followed-before token spelling front rest
              (subst (λ (l : List ℕ). IsFollowed token spelling l) same followed),
          laid.laid,
        );
      },
    )

-- a `;` laid last stands last in the bytes before the rest
laid-ends : (bytes rest : List ℕ) (tokens : List Token) → LaidBefore bytes (tokens ++ (semicolon ∷ [])) rest
    → (front : List ℕ) × (bytes ≡ (front ++ 59 ∷ []) ++ rest)
laid-ends bytes rest [] (gap, spelling, behind, is, separates, spells, followed, same) = (
  gap,
  is ∙ ap (λ (l : List ℕ). gap ++ (l ++ behind)) spells ∙ ap (λ (l : List ℕ). gap ++ 59 ∷ l) same
      ∙ sym (append_assoc gap (59 ∷ []) rest),
)
laid-ends bytes rest (token ∷ tokens) (gap, spelling, behind, is, separates, spells, followed, more) =
    let (front, same) = laid-ends behind rest tokens more in
    let joined : gap ++ (spelling ++ ((front ++ 59 ∷ []) ++ rest)) ≡ ((gap ++ (spelling ++ front)) ++ 59 ∷ []) ++ rest =
    ap (λ (l : List ℕ). gap ++ (spelling ++ l)) (append_assoc front (59 ∷ []) rest)
    ∙ ap (λ (l : List ℕ). gap ++ l) (sym (append_assoc spelling front (59 ∷ rest)))
    ∙ sym (append_assoc gap (spelling ++ front) (59 ∷ rest)) ∙ sym (append_assoc (gap ++ (spelling ++ front)) (59 ∷ []) rest) in
    (gap ++ (spelling ++ front), is ∙ ap (λ (l : List ℕ). gap ++ (spelling ++ l)) same ∙ joined)

-- the prefix of a piece before its rest
front-is : (piece front rest : List ℕ) → piece ≡ front ++ rest → front ≡ take (length piece - length rest) piece
front-is piece front rest is =
    let size : length piece ≡ length (front ++ rest) = ap length is in
    let sum = length-append front rest in
    let count : length front ≡ length piece - length rest = omega (arith, size, sum) in
    sym (take_all (length front) front (omega arith)) ∙ sym (take-append-le (length front) front rest (omega arith))
    ∙ ap (λ (l : List ℕ). take (length front) l) (sym is) ∙ ap (λ (n : ℕ). take n piece) count

-- what is taken before the rest, with no text and no needs before
pub instance-in : (s : Schema) (n : ℕ) (entities piece rest : List ℕ) (old new : Taken) → TakesInstance s n entities piece rest old new
    → old.draft ≡ [] → old.needs.items ≡ []
    → IsInstance s n entities (take (length piece - length rest) piece) new.draft (map need_view new.needs.items)
instance-in s n entities piece rest old new takes no_text no_needs =
    let (front, is, laid) = laid-front piece rest (statement_tokens (instance n takes.record_)) takes.laid in
    let (before, same) = laid-ends piece rest (name n ∷ (equals ∷ record_tokens takes.record_)) takes.laid in
    let text : new.draft ≡ takes.text = takes.appended ∙ ap (λ (l : List ℕ). l ++ takes.text) no_text in
    let needs : new.needs.items ≡ takes.added = takes.needs_are ∙ ap (λ (l : List Need). l ++ takes.added) no_needs in
    record {
      record_ = takes.record_;
      laid = subst (λ (l : List ℕ). Laid l (statement_tokens (instance n takes.record_))) (front-is piece front rest is) laid;
      front = before;
      ends = sym (front-is piece (before ++ 59 ∷ []) rest same);
      data_record = takes.data_record;
      meaning = takes.meaning;
      entities_are = takes.set_is;
      means = subst (λ (l : List Need). MeansWithNeeds s takes.record_ takes.meaning (map need_view l)) (sym needs) takes.means;
      printed = subst (λ (l : List ℕ). IsInstanceText s n takes.record_ l) (sym text) takes.text_is;
    }

-- ---- what is found of it

-- the same instance, by a line and needs that are equal
pub found-same : (s : Schema) (n : ℕ) (entities bytes text line : List ℕ) (needs needed : List Need) → line ≡ text → needed ≡ needs
    → IsInstance s n entities bytes text (map need_view needs) → IsInstance s n entities bytes line (map need_view needed)
found-same s n entities bytes text line needs needed line_is needed_is is =
    subst (λ (l : List ℕ). IsInstance s n entities bytes l (map need_view needed)) (sym line_is)
    (subst (λ (l : List Need). IsInstance s n entities bytes text (map need_view l)) (sym needed_is) is)

-- an instance of external mapping, by the entities that are kept by the number of its set
pub numbered-same : (s : Schema) (sets : List (List ℕ)) (at n : ℕ) (kept entities bytes rest : List ℕ) (old new : Taken)
    → IsNumberedSet sets at kept → IsNumberedSet sets at entities → TakesInstance s n entities bytes rest old new
    → TakesInstance s n kept bytes rest old new
numbered-same s sets at n kept entities bytes rest old new is numbered takes =
    subst (λ (l : List ℕ). TakesInstance s n l bytes rest old new) (some_is entities kept (sym numbered ∙ is)) takes

pub whole-range : (text line : List ℕ) (len : ℕ) → len ≡ length text → line ≡ slice_range text 0 len → line ≡ text
whole-range text line len size is = is ∙ take_all (len - 0) text (omega (arith, size))

-- ---- no separators

-- a `#` is no separator
mark-none : IsSeparator (blank 35) → ⊥
mark-none (inl below) = omega (arith, below)
mark-none (inr same) = omega (arith, same)

-- bytes with the mark of a name behind separators are no separators alone
pub mark-separates : (bytes : List ℕ) → BeginsWithMark bytes → Each (λ byte. IsSeparator (blank byte)) bytes → ⊥
mark-separates bytes (rest, (gap, is, separates)) are =
    let last = Each-back (λ byte. IsSeparator (blank byte)) gap (35 ∷ rest) (subst (Each (λ byte. IsSeparator (blank byte))) is are) in
    mark-none last.0

not-blank : (gap spelling rest : List ℕ) → Each (λ byte. IsSeparator (blank byte)) (gap ++ (spelling ++ rest))
    → BeginsWithNoSeparator spelling → ⊥
not-blank gap [] rest are begins = begins
not-blank gap (byte ∷ spelling) rest are begins =
    let behind = Each-back (λ byte. IsSeparator (blank byte)) gap (byte ∷ (spelling ++ rest)) are in
    let first : (byte ≤ 32) ⊎ (byte ≡ 127) = behind.0 in
    let above = begins.0 in
    elim first [ inl low ↦ omega (arith, low, above) | inr delete ↦ begins.1 delete ]

tokens-separate : (bytes : List ℕ) (lexemes : List Lexeme) (token : Token) (tokens : List Token) → tokens_in lexemes ≡ token ∷ tokens
    → LaidAs bytes lexemes → Each (λ byte. IsSeparator (blank byte)) bytes → ⊥
tokens-separate bytes [] token tokens is laid are = cc
tokens-separate bytes (lexeme ∷ lexemes) token tokens is (gap, spelling, rest, same, separates, spells, size, followed, more) are =
    not-blank gap spelling rest (subst (Each (λ byte. IsSeparator (blank byte))) same are) (spelling_begins lexeme.token spelling spells)

-- nor are the bytes of an instance
pub instance-separates : (s : Schema) (n : ℕ) (entities bytes text : List ℕ) (needs : List meant.Need)
    → IsInstance s n entities bytes text needs → Each (λ byte. IsSeparator (blank byte)) bytes → ⊥
instance-separates s n entities bytes text needs found are =
    tokens-separate bytes found.laid.lexemes (name n) (equals ∷ (record_tokens found.record_ ++ (semicolon ∷ []))) found.laid.tokens_are
    found.laid.laid are

-- so these are some
pub instance-some : (s : Schema) (n count : ℕ) (entities piece text : List ℕ) (needs : List meant.Need)
    → IsInstance s n entities (take count piece) text needs → 0 < count
instance-some s n zero entities piece text needs found = absurd (instance-separates s n entities [] text needs found tt)
instance-some s n (suc count) entities piece text needs found = omega arith
