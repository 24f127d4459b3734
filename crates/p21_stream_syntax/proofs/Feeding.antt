-- A file that is read by itself from a reader.
use Rattle.std.proofs.Common.{◌≡◌, ◌≢◌, ◌≤◌, ◌<◌, ◌^◌, ◌+◌, ◌-◌, ◌∙◌, ℕ, List, [], ◌++◌, length, take, drop, append_assoc, Option, None, Ok, Err, inl, inr, refl, sym, ap, subst, length-append, slice_index_or, Fits, w8, arith}
use Rattle.std.proofs.KnownBytes.{Consumes-nil, Consumes-trans}
use Rattle.std.proofs.lemmas.List.{append-nil, take-append-drop}
use Rattle.std.specs.Io.KnownBytes.{Consumes}
use Rattle.std.specs.List.{AllByRecursion as Each}
use Rattle.p21_spec_basics.proofs.Members.{Each-back}
use Rattle.p21_spec_basics.specs.Digits.{IsByte}
use Rattle.p21_spec_basics.specs.Limits.{Limits}
use Rattle.p21_spec_exchange.specs.Statement.{Statement}
use Rattle.p21_spec_syntax.proofs.NoFiles.{ill_formed-further}
use Rattle.p21_spec_syntax.specs.WellFormedFile.{BeginsIllFormed, IsIllFormed}
use Rattle.p21_stream_statements.specs.Source.{IsOfBytes}
use Rattle.p21_stream_statements.specs.declared.fault.Fault.{Fault}
use Rattle.p21_stream_statements.specs.declared.fault.Fault.TheVariants.{Token, Grammar, Check, SchemaName, SectionTwice, DuplicateName, CanonicalTooLong, Dangling, WrongTarget, NoMemory, Read, Write}
use Rattle.p21_stream_statements.specs.declared.refusal.Refusal.{Refusal}
use Rattle.p21_stream_statements.specs.StatementReader as statements
use Rattle.p21_stream_statements.specs.StatementReader.{StatementHistory, nothing_read}
use Rattle.p21_stream_syntax.proofs.Pieces.{each-byte}
use Rattle.p21_stream_syntax.proofs.Taking.{keeps-nothing}
use Rattle.p21_stream_statements.proofs.Within.{source-within}
use Rattle.p21_stream_syntax.specs.Given.{Kept, Keeps, kept_of, nothing_kept}
use Rattle.p21_stream_syntax.specs.Reading.{IsIllFormedInput, IsReadFrom, IsReadToEnd, IsWellFormedInput, PieceGives, ReadsMore, RefusesMore, RefusesSyntax, TakesAtMost, WalkHasTaken}
use Rattle.p21_stream_syntax.specs.Walk.{FinishGives, IsUnderWay, ReadGives}
use Rattle.p21_stream_syntax.specs.declared.walk.Walk.{Walk}
use Rattle.p21_stream_syntax.specs.declared.well_formed.WellFormed.{WellFormed}

-- ---- refusals

-- a refusal that is no fault of a reader or a writer
refuses-by : (limits : Limits) (start new : Option (List ℕ)) (fault : Fault) → IsOfBytes fault
    → (fault ≢ NoMemory → IsIllFormedInput limits start new) → RefusesSyntax limits start new fault
refuses-by limits start new NoMemory of refused = tt
refuses-by limits start new Read of refused = tt
refuses-by limits start new Write of refused = of
refuses-by limits start new (Token fault) of refused = (of, refused (λ e. cc e))
refuses-by limits start new (Grammar fault) of refused = (of, refused (λ e. cc e))
refuses-by limits start new (Check fault) of refused = (of, refused (λ e. cc e))
refuses-by limits start new SchemaName of refused = (of, refused (λ e. cc e))
refuses-by limits start new SectionTwice of refused = (of, refused (λ e. cc e))
refuses-by limits start new DuplicateName of refused = (of, refused (λ e. cc e))
refuses-by limits start new CanonicalTooLong of refused = (of, refused (λ e. cc e))
refuses-by limits start new Dangling of refused = (of, refused (λ e. cc e))
refuses-by limits start new WrongTarget of refused = (of, refused (λ e. cc e))

ill_formed-piece : (limits : Limits) (taken piece : List ℕ) (count : ℕ) → Each IsByte piece
    → BeginsIllFormed limits (taken ++ take count piece) → BeginsIllFormed limits (taken ++ piece)
ill_formed-piece limits taken piece count are none =
    let whole = take-append-drop count piece in
    let later : Each IsByte (drop count piece) = Each-back IsByte (take count piece) (drop count piece)
    (subst (Each IsByte) (sym whole) are) in
    subst (BeginsIllFormed limits) (append_assoc taken (take count piece) (drop count piece) ∙ ap (λ (l : List ℕ). taken ++ l) whole)
    (ill_formed-further limits (taken ++ take count piece) (drop count piece) later none)

-- ---- a piece

-- these bytes, of which none was seen behind them
abbrev between : List ℕ → List Statement → StatementHistory
between bytes given = record { taken = bytes; seen = None; given = given }

pub piece-whole : (limits : Limits) (before after : Walk) (piece : List ℕ)
    → ReadGives limits before.statements (kept_of before.given) piece (Ok tt) after.statements (kept_of after.given)
    → PieceGives limits before piece (Ok tt) after
piece-whole limits before after piece gives bytes (given, live) = gives (between bytes given) live tt

-- a piece is read on from there
pub way-between : (limits : Limits) (walk : Walk) (piece : List ℕ) → (bytes : List ℕ) × WalkHasTaken limits walk bytes
    → limits.file_source < 2 ^ 64 → (all : Limits) × IsUnderWay all walk.statements (kept_of walk.given) piece
way-between limits walk piece (bytes, (given, live)) counted =
    (limits, record { reading = between bytes given; live = live; seen_at = tt; counted = counted })

pub piece-refused : (limits : Limits) (before after : Walk) (piece : List ℕ) (refusal : Refusal)
    → ((i : ℕ) → Fits w8 (slice_index_or piece i 0)) → IsOfBytes refusal.fault
    → ReadGives limits before.statements (kept_of before.given) piece (Err refusal) after.statements (kept_of after.given)
    → PieceGives limits before piece (Err refusal) after
piece-refused limits before after piece refusal fits of gives old new more start size from =
    let (given, live) = from.taken in
    refuses-by limits start new refusal.fault of (λ other.
    let r = gives other (between from.bytes given) live tt in
    record {
      bytes = from.bytes ++ piece;
      consumed = Consumes-trans start old new from.bytes piece from.consumed more;
      ill_formed = inl (ill_formed-piece limits from.bytes piece r.upto (each-byte piece fits) r.ill_formed);
    })

-- so many bytes more
pub reads-more : (limits : Limits) (start old new : Option (List ℕ)) (before after : Walk) (piece : List ℕ) (size count : ℕ)
    → Consumes old new piece → length piece ≡ count → PieceGives limits before piece (Ok tt) after → IsReadFrom limits start old before size
    → IsReadFrom limits start new after (size + count)
reads-more limits start old new before after piece size count more count_is gives from = record {
  bytes = from.bytes ++ piece;
  consumed = Consumes-trans start old new from.bytes piece from.consumed more;
  size_is = length-append from.bytes piece ∙ ap (λ (n : ℕ). n + length piece) from.size_is ∙ ap (λ (n : ℕ). size + n) count_is;
  taken = gives from.bytes from.taken;
}

-- a read failed
pub read-failed : (limits : Limits) (old new : Option (List ℕ)) (walk : Walk) (refusal : Refusal) → refusal.fault ≡ Read
    → RefusesMore limits old new walk refusal.fault
read-failed limits old new walk refusal is start size from = subst (λ (f : Fault). RefusesSyntax limits start new f) (sym is) tt

-- nothing is read
pub nothing-taken : (limits : Limits) (walk : Walk) → statements.IsLive walk.statements nothing_read
    → statements.limits_of walk.statements ≡ (limits.record_source, limits.file_source) → kept_of walk.given ≡ nothing_kept
    → WalkHasTaken limits walk []
nothing-taken limits walk live are kept = (
  [],
  record {
    reads = live;
    limits_are = are;
    keeps =
        subst (λ (k : Kept). Keeps [] k) (sym kept) keeps-nothing;
  },
)

pub nothing-read : (limits : Limits) (now : Option (List ℕ)) (walk : Walk) → statements.IsLive walk.statements nothing_read
    → statements.limits_of walk.statements ≡ (limits.record_source, limits.file_source) → kept_of walk.given ≡ nothing_kept
    → IsReadFrom limits now now walk 0
nothing-read limits now walk live are kept = record {
  bytes = [];
  consumed = Consumes-nil now;
  size_is = refl;
  taken = nothing-taken limits walk live are kept;
}

-- ---- a file that is one piece

pub text-taken : (limits : Limits) (before after : Walk) (file : List ℕ) → WalkHasTaken limits before []
    → ReadGives limits before.statements (kept_of before.given) file (Ok tt) after.statements (kept_of after.given)
    → WalkHasTaken limits after file
text-taken limits before after file taken gives = piece-whole limits before after file gives [] taken

pub text-refused : (limits : Limits) (before after : Walk) (file : List ℕ) (refusal : Refusal)
    → ((i : ℕ) → Fits w8 (slice_index_or file i 0)) → WalkHasTaken limits before []
    → ReadGives limits before.statements (kept_of before.given) file (Err refusal) after.statements (kept_of after.given)
    → refusal.fault ≢ NoMemory → IsIllFormed limits file
text-refused limits before after file refusal fits (given, live) gives other =
    let r = gives other (between [] given) live tt in
    subst (IsIllFormed limits) (append-nil file) (ill_formed-piece limits [] file r.upto (each-byte file fits) r.ill_formed [] tt)

-- ---- the loop

-- so much was read, and so much may still come
pub record InLoop (limits : Limits) (start now : Option (List ℕ)) (walk : Walk) (most left : ℕ) : Type 0 where
  pub size : ℕ
  pub from : IsReadFrom limits start now walk size
  pub left_is : size + left ≡ most

pub loop-starts : (limits : Limits) (now : Option (List ℕ)) (walk : Walk) (most : ℕ) → IsReadFrom limits now now walk 0
    → InLoop limits now now walk most most
loop-starts limits now walk most from = record { size = 0; from = from; left_is = omega arith }

pub loop-between : (limits : Limits) (start now : Option (List ℕ)) (walk : Walk) (most left : ℕ) → InLoop limits start now walk most left
    → (bytes : List ℕ) × WalkHasTaken limits walk bytes
loop-between limits start now walk most left in_loop = (in_loop.from.bytes, in_loop.from.taken)

pub loop-short : (limits : Limits) (start old new : Option (List ℕ)) (before after : Walk) (most left count : ℕ) → most ≡ limits.file_source
    → InLoop limits start old before most left → ReadsMore limits old new before after count → count ≤ left
loop-short limits start old new before after most left count is in_loop more =
    let from = more.along start in_loop.size in_loop.from in
    let (given, live) = from.taken in
    let short = source-within after.statements (between from.bytes given) live.reads in
    let limit = ap (λ p. p.1) live.limits_are in
    let size = from.size_is in
    let left_is = in_loop.left_is in
    omega (arith, short, limit, size, left_is, is)

pub loop-goes_on : (limits : Limits) (start old new : Option (List ℕ)) (before after : Walk) (most left count : ℕ) → count ≤ left
    → InLoop limits start old before most left → ReadsMore limits old new before after count
    → InLoop limits start new after most (left - count)
loop-goes_on limits start old new before after most left count short in_loop more = record {
  size = in_loop.size + count;
  from = more.along start in_loop.size in_loop.from;
  left_is = let left_is = in_loop.left_is in omega (arith, left_is, short);
}

pub loop-whole : (limits : Limits) (start old new : Option (List ℕ)) (before after : Walk) (most left count : ℕ)
    → InLoop limits start old before most left → ReadsMore limits old new before after count → count ≡ 0
    → IsReadToEnd limits start new after
loop-whole limits start old new before after most left count in_loop more no_more =
    let from = more.along start in_loop.size in_loop.from in
    record { bytes = from.bytes; read = record { consumed = from.consumed; at_end = more.ended no_more }; taken = from.taken }

pub loop-refused : (limits : Limits) (start old new : Option (List ℕ)) (before : Walk) (most left : ℕ) (fault : Fault)
    → InLoop limits start old before most left → RefusesMore limits old new before fault → RefusesSyntax limits start new fault
loop-refused limits start old new before most left fault in_loop refuses = refuses start in_loop.size in_loop.from

pub loop-consumed : (limits : Limits) (start old new : Option (List ℕ)) (walk : Walk) (most left : ℕ) → most ≡ limits.file_source
    → InLoop limits start old walk most left → TakesAtMost (left + 1) old new → TakesAtMost (limits.file_source + 1) start new
loop-consumed limits start old new walk most left is in_loop takes = (
  in_loop.from.bytes ++ takes.0,
  Consumes-trans start old new in_loop.from.bytes takes.0 in_loop.from.consumed takes.1,
  (let size = in_loop.from.size_is in let left_is = in_loop.left_is in let some = takes.2 in let sum =
      length-append in_loop.from.bytes takes.0 in omega (arith, size, left_is, some, sum, is)),
)

-- ---- the end

pub end-found : (limits : Limits) (old new : Option (List ℕ)) (walk : Walk) (found : WellFormed)
    → FinishGives walk.statements (kept_of walk.given) (Ok found) → IsReadToEnd limits old new walk → IsWellFormedInput limits old new found
end-found limits old new walk found gives whole = record {
  bytes = whole.bytes;
  read = whole.read;
  is_found =
      gives limits whole.bytes whole.taken;
}

pub end-refused : (limits : Limits) (old new : Option (List ℕ)) (walk : Walk) (refusal : Refusal) → IsOfBytes refusal.fault
    → FinishGives walk.statements (kept_of walk.given) (Err refusal) → IsReadToEnd limits old new walk
    → RefusesSyntax limits old new refusal.fault
end-refused limits old new walk refusal of gives whole =
    refuses-by limits old new refusal.fault of (λ other. record {
      bytes = whole.bytes;
      consumed = whole.read.consumed;
      ill_formed = inr (whole.read.at_end, gives other limits whole.bytes whole.taken);
    })
