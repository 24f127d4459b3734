-- What the kept bytes of a reading have by themselves, and that a file of which something is listed isn't accepted.
use Rattle.std.proofs.Common.{◌≡◌, ◌≢◌, ◌⊎◌, inl, inr, ℕ, List, [], ◌∷◌, ◌++◌, refl, sym, ap, subst, ◌∙◌, append_assoc, append-nil}
use Rattle.std.specs.Prelude.{map}
use Rattle.std.proofs.lemmas.Grind.{flat_map-append}
use Rattle.std.proofs.lemmas.List.{map-append}
use Rattle.std.proofs.lemmas.List.Elements.{Contains-append_cases, Contains-append_left, Contains-append_right, Contains-push_cases}
use Rattle.std.specs.List.{Contains, flat_map, AllByRecursion as Each}
use Rattle.p21_spec_basics.proofs.Members.{Contains-first, Contains-later, Contains-none, Each-back}
use Rattle.p21_spec_basics.proofs.Shuffles.{NoneTwice, none_twice-distinct}
use Rattle.p21_spec_basics.specs.Digits.{IsByte}
use Rattle.p21_spec_basics.specs.Limits.{Limits}
use Rattle.p21_spec_exchange.proofs.Semicolons.{statements-end}
use Rattle.p21_spec_exchange.specs.Laying.{Lexeme, tokens_in}
use Rattle.p21_spec_exchange.specs.OpenNesting.{EndsWithSemicolon}
use Rattle.p21_spec_exchange.specs.Record.{Record}
use Rattle.p21_spec_exchange.specs.Statement.{Statement, data_start, header, instance, section, statement_tokens}
use Rattle.p21_spec_exchange.specs.Structure.{statements}
use Rattle.p21_spec_exchange.specs.Token.{Token}
use Rattle.p21_spec_laws.proofs.Dead.{name-again, no-meaning}
use Rattle.p21_spec_laws.proofs.Offenders.{last-among, offender-dead}
use Rattle.p21_spec_laws.proofs.Statements.{instances-append}
use Rattle.p21_spec_laws.proofs.TokenPrefixes.{prefix-taken, statements-ended}
use Rattle.p21_spec_laws.specs.Taken.{AreStatementsEnded, AreStatementsTaken, AreTokensTaken, instances_among, names_among}
use Rattle.p21_spec_survey.proofs.Alike.{behind-laid, whole-joined}
use Rattle.p21_spec_survey.proofs.Readings.{unlisted-taken}
use Rattle.p21_spec_survey.specs.Laws.{EachIsJudged, EndedIsNotAccepted, GivenAreTaken, GivenBeginFile, KeptAreWhole, ListedIsNotAccepted, NamesDiffer}
use Rattle.p21_spec_survey.specs.Rules.{AreWellFormed, HasMeaning, HasSize, IsRightFile, OffendsBy, OffendsByItself, Rules, by_itself, early_section, no_name, of_schema, other_schema, section_again, section_of_other_schema}
use Rattle.p21_spec_survey.specs.Survey.{AreStatement, BeginFile, EndsReading, IsPassedFor, IsRead, IsRefused, IsRefusedInstance, IsToBePassed, Listed, Reading, Subject, at_start, begins_none, broken, ends_early, ends_within, in_instance, leaves_out, name_again, no_file, no_landmark, no_memory, offends, passes_over, read_failed, takes, too_long, wrong_record}
use Rattle.p21_spec_survey.specs.Survey as survey
use Rattle.p21_spec_survey.specs.Whole.{AreWhole, BeginsNone}
use Rattle.p21_spec_syntax.proofs.IllFormed as ill_formed
use Rattle.p21_spec_syntax.proofs.NoFiles.{no_file-begins, no_file-dead, no_file-ill_formed, no_file-refused, too-long}
use Rattle.p21_spec_syntax.specs.FileWithin.{BeginsNoFile, IsNoFile}
use Rattle.p21_spec_syntax.specs.WellFormedFile.{BeginsIllFormed, IsIllFormed}

-- ---- the kept bytes are the statements given

abbrev AreKept : List ℕ → List Statement → Type 0
AreKept kept given = (lexemes : List Lexeme) × AreWhole kept lexemes × (tokens_in lexemes ≡ flat_map statement_tokens given)

tokens-append : (ls ms : List Lexeme) → tokens_in (ls ++ ms) ≡ tokens_in ls ++ tokens_in ms
tokens-append ls ms = map-append (λ (lexeme : Lexeme). lexeme.token) ls ms

-- one more statement
one-kept : (kept bytes : List ℕ) (given : List Statement) (statement : Statement) → AreKept kept given → AreStatement bytes statement → AreKept (kept ++ bytes) (given ++ statement ∷ [])
one-kept kept bytes given statement (lexemes, whole, are) is =
    let own : tokens_in is.laid.lexemes ≡ flat_map statement_tokens (statement ∷ []) = is.laid.tokens_are ∙ sym (append-nil (statement_tokens statement)) in
    let more : AreWhole bytes is.laid.lexemes = record { laid = is.laid.laid; ends = subst EndsWithSemicolon (sym own) (statements-end (statement ∷ [])) } in (
      lexemes ++ is.laid.lexemes,
      whole-joined kept bytes lexemes is.laid.lexemes whole more,
      tokens-append lexemes is.laid.lexemes
          ∙ (ap (λ (ts : List Token). ts ++ tokens_in is.laid.lexemes) are
          ∙ (ap (λ (ts : List Token). flat_map statement_tokens given ++ ts) own
          ∙ sym (flat_map-append statement_tokens given (statement ∷ [])))),
    )

pub kept-whole : KeptAreWhole
kept-whole rules limits file read at_start = ([], record { laid = ([], tt, refl); ends = tt }, refl)
kept-whole rules limits file read (takes old bytes rest statement so_far next is begins right) = one-kept old.kept bytes old.given statement (kept-whole rules limits file old so_far) is
kept-whole rules limits file read (leaves_out old bytes rest n record_ number start so_far next is begins wrong none_inside at) =
    one-kept old.kept bytes old.given (instance n record_) (kept-whole rules limits file old so_far) is
kept-whole rules limits file read (passes_over old passed rest found number subject start so_far over at) = kept-whole rules limits file old so_far

pub given-begin : GivenBeginFile
given-begin rules limits file read at_start = inl refl
given-begin rules limits file read (takes old bytes rest statement so_far next is begins right) = inr begins
given-begin rules limits file read (leaves_out old bytes rest n record_ number start so_far next is begins wrong none_inside at) = inr begins
given-begin rules limits file read (passes_over old passed rest found number subject start so_far over at) = given-begin rules limits file old so_far

-- ---- each file that begins so has them

first-tokens : (kept : List ℕ) (given : List Statement) → AreKept kept given → AreTokensTaken kept (flat_map statement_tokens given)
first-tokens kept given (lexemes, whole, are) more bytes tokens laid =
    let (rest, all_are, behind) = behind-laid kept more lexemes laid.lexemes whole laid.laid in (
      tokens_in rest,
      sym laid.tokens_are
          ∙ (ap (λ (ls : List Lexeme). tokens_in ls) all_are ∙ (tokens-append lexemes rest ∙ ap (λ (ts : List Token). ts ++ tokens_in rest) are)),
    )

first-ended : (given : List Statement) → BeginFile given → AreStatementsEnded (flat_map statement_tokens given) given
first-ended given (structure, schema, is, first) =
    subst (λ (ts : List Token). AreStatementsEnded ts given) (append-nil (flat_map statement_tokens given)) (statements-ended given structure [] first)

pub begun-taken : (kept : List ℕ) (given : List Statement) → AreKept kept given → BeginFile given → AreStatementsTaken kept given
begun-taken kept given are begins = prefix-taken kept (flat_map statement_tokens given) given (first-tokens kept given are) (first-ended given begins)

pub given-taken : GivenAreTaken
given-taken rules limits file read so_far =
    let are = kept-whole rules limits file read so_far in
    elim (given-begin rules limits file read so_far) [
      | inl none ↦ subst (λ (given : List Statement). AreStatementsTaken read.kept given) (sym none) (λ more bytes structure text is. (statements structure, refl))
      | inr begins ↦ begun-taken read.kept read.given are begins
    ]

-- ---- instances

-- what is listed stays listed
listed-on : (listed : List Listed) (one : Listed) (n : ℕ) → IsRefused listed n → IsRefused (listed ++ one ∷ []) n
listed-on listed one n (refusal, among, names) = (refusal, Contains-append_left listed (one ∷ []) refusal among, names)

judged-on : (rules : Rules) (record_ : Record) (listed : List Listed) (one : Listed) (n : ℕ) → HasMeaning rules record_ ⊎ IsRefused listed n → HasMeaning rules record_ ⊎ IsRefused (listed ++ one ∷ []) n
judged-on rules record_ listed one n (inl means) = inl means
judged-on rules record_ listed one n (inr refused) = inr (listed-on listed one n refused)

pub each-judged : EachIsJudged
each-judged rules limits file read at_start n record_ among = absurd (Contains-none (instance n record_) among)
each-judged rules limits file read (takes old bytes rest statement so_far next is begins right) n record_ among =
    elim (Contains-push_cases old.given statement (instance n record_) among) [
      | inl before ↦ each-judged rules limits file old so_far n record_ before
      | inr same ↦ inl (subst (λ (st : Statement). survey.IsRight rules old.given st) same right).0
    ]
each-judged rules limits file read (leaves_out old bytes rest m other number start so_far next is begins wrong none_inside at) n record_ among =
    let one : Listed = record { number = number; subject = in_instance m; begins = start } in
    elim (Contains-push_cases old.given (instance m other) (instance n record_) among) [
      | inl before ↦ judged-on rules record_ old.listed one n (each-judged rules limits file old so_far n record_ before)
      | inr same ↦ (let names : m ≡ n = cc in inr (one, Contains-append_right old.listed (one ∷ []) one (Contains-first one []), ap in_instance names))
    ]
each-judged rules limits file read (passes_over old passed rest found number subject start so_far over at) n record_ among =
    judged-on rules record_ old.listed (record { number = number; subject = subject; begins = start }) n (each-judged rules limits file old so_far n record_ among)

-- ---- names

-- the names with those of one more statement
names-on : (given : List Statement) (statement : Statement) → names_among (given ++ statement ∷ []) ≡ names_among given ++ names_among (statement ∷ [])
names-on given statement =
    ap (λ (is : List (ℕ × Record)). map (λ (i : ℕ × Record). i.0) is) (instances-append given (statement ∷ []))
    ∙ map-append (λ (i : ℕ × Record). i.0) (instances_among given) (instances_among (statement ∷ []))

named-before : (given : List Statement) (statement : Statement) (n : ℕ) → Contains (names_among given) n → Contains (names_among (given ++ statement ∷ [])) n
named-before given statement n among =
    subst (λ (ns : List ℕ). Contains ns n) (sym (names-on given statement)) (Contains-append_left (names_among given) (names_among (statement ∷ [])) n among)

-- the names of those taken are among those given
one-named : (taken given : List Statement) (statement : Statement) → ((n : ℕ) → Contains (names_among taken) n → Contains (names_among given) n)
    → (n : ℕ) → Contains (names_among (taken ++ statement ∷ [])) n → Contains (names_among (given ++ statement ∷ [])) n
one-named taken given statement are n among =
    elim (Contains-append_cases (names_among taken) (names_among (statement ∷ [])) n (subst (λ (ns : List ℕ). Contains ns n) (names-on taken statement) among)) [
      | inl before ↦ named-before given statement n (are n before)
      | inr own ↦ subst (λ (ns : List ℕ). Contains ns n) (sym (names-on given statement)) (Contains-append_right (names_among given) (names_among (statement ∷ [])) n own)
    ]

taken-named : (rules : Rules) (limits : Limits) (file : List ℕ) (read : Reading) → IsRead rules limits file read → (n : ℕ) → Contains (names_among read.taken) n → Contains (names_among read.given) n
taken-named rules limits file read at_start n among = among
taken-named rules limits file read (takes old bytes rest statement so_far next is begins right) n among =
    one-named old.taken old.given statement (taken-named rules limits file old so_far) n among
taken-named rules limits file read (leaves_out old bytes rest m other number start so_far next is begins wrong none_inside at) n among =
    named-before old.given (instance m other) n (taken-named rules limits file old so_far n among)
taken-named rules limits file read (passes_over old passed rest found number subject start so_far over at) n among = taken-named rules limits file old so_far n among

none-twice-on : (ns : List ℕ) (n : ℕ) → NoneTwice ns → ¬ Contains ns n → NoneTwice (ns ++ n ∷ [])
none-twice-on [] n none new = (λ among. Contains-none n among, tt)
none-twice-on (m ∷ ns) n none new = (
  λ among. elim (Contains-push_cases ns n m among) [ inl before ↦ none.0 before | inr same ↦ new (subst (λ (k : ℕ). Contains (m ∷ ns) k) (sym same) (Contains-first m ns)) ],
  none-twice-on ns n none.1 (λ among. new (Contains-later m ns n among)),
)

names-taken : (rules : Rules) (given taken : List Statement) (statement : Statement) → survey.IsRight rules given statement
    → ((n : ℕ) → Contains (names_among taken) n → Contains (names_among given) n) → NoneTwice (names_among taken) → NoneTwice (names_among (taken ++ statement ∷ []))
names-taken rules given taken (section line) right are none = subst NoneTwice (sym (names-on taken (section line) ∙ append-nil (names_among taken))) none
names-taken rules given taken (header part) right are none = subst NoneTwice (sym (names-on taken (header part) ∙ append-nil (names_among taken))) none
names-taken rules given taken (instance n record_) right are none =
    subst NoneTwice (sym (names-on taken (instance n record_))) (none-twice-on (names_among taken) n none (λ among. right.1 (are n among)))

none-named_twice : (rules : Rules) (limits : Limits) (file : List ℕ) (read : Reading) → IsRead rules limits file read → NoneTwice (names_among read.taken)
none-named_twice rules limits file read at_start = tt
none-named_twice rules limits file read (takes old bytes rest statement so_far next is begins right) =
    names-taken rules old.given old.taken statement right (taken-named rules limits file old so_far) (none-named_twice rules limits file old so_far)
none-named_twice rules limits file read (leaves_out old bytes rest m other number start so_far next is begins wrong none_inside at) = none-named_twice rules limits file old so_far
none-named_twice rules limits file read (passes_over old passed rest found number subject start so_far over at) = none-named_twice rules limits file old so_far

pub names-differ : NamesDiffer
names-differ rules limits file read so_far = none_twice-distinct (names_among read.taken) (none-named_twice rules limits file read so_far)

-- ---- a file of which something is listed

-- no right file begins with these bytes
abbrev IsDeadBy : Rules → Limits → List ℕ → Type 0
IsDeadBy rules limits bytes = (more : List ℕ) → Each IsByte more → ¬ IsRightFile rules limits (bytes ++ more)

no-well_formed : (limits : Limits) (bytes : List ℕ) → IsIllFormed limits bytes → ¬ IsRightFile by_itself limits bytes
no-well_formed limits bytes none (structure, schema, is) = none structure schema is

begins-no_well_formed : (limits : Limits) (bytes : List ℕ) → BeginsIllFormed limits bytes → IsDeadBy by_itself limits bytes
begins-no_well_formed limits bytes none more are = no-well_formed limits (bytes ++ more) (none more are)

-- a file whose front is dead
dead-front : (rules : Rules) (limits : Limits) (file front rest : List ℕ) → Each IsByte file → file ≡ front ++ rest → IsDeadBy rules limits front
    → ¬ IsRightFile rules limits file
dead-front rules limits file front rest bytes same dead right =
    dead rest (Each-back IsByte front rest (subst (λ (bs : List ℕ). Each IsByte bs) same bytes))
    (subst (λ (bs : List ℕ). IsRightFile rules limits bs) same right)

-- an instance that is refused
refused-dead : (rules : Rules) (limits : Limits) (bytes : List ℕ) (given : List Statement) (n : ℕ) (record_ : Record) (number : ℕ)
    → IsRefusedInstance rules given n record_ number → AreStatementsTaken bytes (given ++ instance n record_ ∷ []) → IsDeadBy rules limits bytes
refused-dead (of_schema s) limits bytes given n record_ number (broken _ nothing breaks) front =
    no-meaning s limits bytes (given ++ instance n record_ ∷ []) front n record_ (last-among given (instance n record_)) nothing
refused-dead (of_schema s) limits bytes given n record_ number (name_again among) front = name-again s limits bytes given n record_ front among
refused-dead by_itself limits bytes given n record_ number (broken _ nothing breaks) front = absurd nothing
refused-dead by_itself limits bytes given n record_ number (name_again among) front =
    begins-no_well_formed limits bytes (ill_formed.name-again limits bytes given n record_ front among)

-- bytes that are no file, or begin none
no_file-not_right : (rules : Rules) (limits : Limits) (bytes : List ℕ) → IsNoFile bytes → ¬ IsRightFile rules limits bytes
no_file-not_right (of_schema s) limits bytes none = no_file-refused s limits bytes none
no_file-not_right by_itself limits bytes none = no-well_formed limits bytes (no_file-ill_formed limits bytes none)

no_file-begins_dead : (rules : Rules) (limits : Limits) (bytes : List ℕ) → BeginsNoFile limits bytes → IsDeadBy rules limits bytes
no_file-begins_dead (of_schema s) limits bytes none = no_file-dead s limits bytes none
no_file-begins_dead by_itself limits bytes none = begins-no_well_formed limits bytes (no_file-begins limits bytes none)

-- a statement that is refused by itself
offender-begins : (limits : Limits) (bytes : List ℕ) (given : List Statement) (statement : Statement) (number : ℕ)
    → AreStatementsTaken bytes (given ++ statement ∷ []) → OffendsByItself given statement number → BeginsIllFormed limits bytes
offender-begins limits bytes given statement number front (no_name part chars is none) =
    ill_formed.no-name limits bytes (given ++ header part ∷ []) front part chars (last-among given (header part)) is none
offender-begins limits bytes given statement number front (other_schema part chars schema is (before, others, among, is_before, names) other) =
    ill_formed.other-name limits bytes (given ++ header part ∷ []) front before part others chars schema
    (Contains-append_left given (header part ∷ []) (header before) among) is_before names (last-among given (header part)) is other
offender-begins limits bytes given statement number front (section_of_other_schema heading schema (before, others, among, is_before, names) other) =
    let line : Statement = section (data_start heading) in
    ill_formed.other-section limits bytes (given ++ line ∷ []) front before others schema
    (Contains-append_left given (line ∷ []) (header before) among) is_before names heading (last-among given line) other
offender-begins limits bytes given statement number front (early_section heading none) = ill_formed.early-section limits bytes given heading front none
offender-begins limits bytes given statement number front (section_again name text among) =
    ill_formed.section-again limits bytes given name text front among

offender-not_right : (rules : Rules) → AreWellFormed rules → (limits : Limits) (bytes : List ℕ) (given : List Statement) (size : ℕ)
    → HasSize rules given size → (statement : Statement) (number : ℕ) → AreStatementsTaken bytes (given ++ statement ∷ [])
    → OffendsBy rules limits given size statement number → IsDeadBy rules limits bytes
offender-not_right (of_schema s) formed limits bytes given size has statement number front is =
    offender-dead s formed limits bytes given size has statement number front is
offender-not_right by_itself formed limits bytes given size has statement number front is =
    begins-no_well_formed limits bytes (offender-begins limits bytes given statement number front is)

-- what is read where nothing is listed so far
module _ (rules : Rules) (limits : Limits) (file : List ℕ) (read : Reading) (bytes : Each IsByte file) (so_far : IsRead rules limits file read) (none : read.listed ≡ []) where
  all_kept : read.kept ≡ read.bytes
  all_kept = (unlisted-taken rules limits file read so_far none).0

  -- behind it a statement is whole
  one-taken : (front : List ℕ) (statement : Statement) → AreStatement front statement → BeginFile (read.given ++ statement ∷ []) → AreStatementsTaken (read.bytes ++ front) (read.given ++ statement ∷ [])
  one-taken front statement is begins =
      let are = one-kept read.kept front read.given statement (kept-whole rules limits file read so_far) is in
      subst (λ (bs : List ℕ). AreStatementsTaken (bs ++ front) (read.given ++ statement ∷ [])) all_kept (begun-taken (read.kept ++ front) (read.given ++ statement ∷ []) are begins)

  regrouped : (front rest : List ℕ) → file ≡ read.bytes ++ (front ++ rest) → file ≡ (read.bytes ++ front) ++ rest
  regrouped front rest next = next ∙ sym (append_assoc read.bytes front rest)

  instance-not_accepted : (front rest : List ℕ) (n : ℕ) (record_ : Record) (number : ℕ) → file ≡ read.bytes ++ (front ++ rest) → AreStatement front (instance n record_)
      → BeginFile (read.given ++ instance n record_ ∷ []) → IsRefusedInstance rules read.given n record_ number → ¬ IsRightFile rules limits file
  instance-not_accepted front rest n record_ number next is begins wrong =
      dead-front rules limits file (read.bytes ++ front) rest bytes (regrouped front rest next)
      (refused-dead rules limits (read.bytes ++ front) read.given n record_ number wrong (one-taken front (instance n record_) is begins))

  -- no file begins so
  begun-not_accepted : (front rest : List ℕ) → file ≡ read.bytes ++ (front ++ rest) → BeginsNone (read.kept ++ front) → ¬ IsRightFile rules limits file
  begun-not_accepted front rest next none_begins =
      let same = regrouped front rest next in
      let own : BeginsNone (read.bytes ++ front) = subst (λ (bs : List ℕ). BeginsNone (bs ++ front)) all_kept none_begins in
      no_file-not_right rules limits file
      (subst IsNoFile (sym same) (own rest (Each-back IsByte (read.bytes ++ front) rest (subst (λ (bs : List ℕ). Each IsByte bs) same bytes))))

  -- it is none at its end
  end-not_accepted : (left : List ℕ) → file ≡ read.bytes ++ left → IsNoFile (read.kept ++ left) → ¬ IsRightFile rules limits file
  end-not_accepted left next is = no_file-not_right rules limits file (subst IsNoFile (ap (λ (bs : List ℕ). bs ++ left) all_kept ∙ sym next) is)

  why-not_accepted : (statement behind : List ℕ) (number : ℕ) (subject : Subject) → file ≡ read.bytes ++ (statement ++ behind) → IsPassedFor rules limits read statement behind number subject → ¬ IsRightFile rules limits file
  why-not_accepted statement behind number subject next (begins_none refused rest _ behind_are open_ none_begins goes_on) =
      begun-not_accepted (statement ++ refused) rest
      (next ∙ ap (λ (bs : List ℕ). read.bytes ++ bs) (ap (λ (bs : List ℕ). statement ++ bs) behind_are ∙ sym (append_assoc statement refused rest))) none_begins
  why-not_accepted statement behind number subject next (ends_within _ behind_are is goes_on in_string in_remark) =
      end-not_accepted statement (next ∙ ap (λ (bs : List ℕ). read.bytes ++ bs) (ap (λ (bs : List ℕ). statement ++ bs) behind_are ∙ append-nil statement)) is
  why-not_accepted statement behind number subject next (wrong_record n record_ _ is begins wrong inside) = instance-not_accepted statement behind n record_ number next is begins wrong

  passed-not_accepted : (number : ℕ) (subject : Subject) → IsToBePassed rules limits file read number subject → ¬ IsRightFile rules limits file
  passed-not_accepted number subject passes = why-not_accepted passes.statement passes.behind number subject passes.next_are passes.why

  ending-not_accepted : AreWellFormed rules → (number : ℕ) (subject : Subject) → EndsReading rules limits file read number subject → number ≢ 90 → number ≢ 91 → ¬ IsRightFile rules limits file
  ending-not_accepted formed number subject (no_landmark _ _ passes no_place) memory reader = passed-not_accepted number subject passes
  ending-not_accepted formed number subject (no_file front behind _ next none_begins stands) memory reader =
      dead-front rules limits file (read.bytes ++ front) behind bytes (regrouped front behind next)
      (subst (λ (bs : List ℕ). IsDeadBy rules limits (bs ++ front)) all_kept (no_file-begins_dead rules limits (read.kept ++ front) (none_begins limits refl)))
  ending-not_accepted formed number subject (too_long front behind next long) memory reader =
      dead-front rules limits file (read.bytes ++ front) behind bytes (regrouped front behind next) (no_file-begins_dead rules limits (read.bytes ++ front) (too-long limits (read.bytes ++ front) long))
  ending-not_accepted formed number subject (ends_early left _ next is where_) memory reader = end-not_accepted left next is
  ending-not_accepted formed number subject (offends front rest statement size _ next is begins has offends_ length_) memory reader =
      let taken_are = (unlisted-taken rules limits file read so_far none).1 in
      dead-front rules limits file (read.bytes ++ front) rest bytes (regrouped front rest next)
      (offender-not_right rules formed limits (read.bytes ++ front) read.given size (subst (λ (given : List Statement). HasSize rules given size) taken_are has) statement number
      (one-taken front statement is begins) (subst (λ (given : List Statement). OffendsBy rules limits given size statement number) taken_are offends_))
  ending-not_accepted formed number subject (no_memory _) memory reader = absurd (memory refl)
  ending-not_accepted formed number subject read_failed memory reader = absurd (reader refl)

-- a list that goes on behind others, where each file with such others isn't accepted
either-not_accepted : (rules : Rules) (limits : Limits) (file : List ℕ) (listed : List Listed) → (listed ≢ [] → ¬ IsRightFile rules limits file) → (listed ≡ [] → ¬ IsRightFile rules limits file)
    → ¬ IsRightFile rules limits file
either-not_accepted rules limits file [] before own = own refl
either-not_accepted rules limits file (first ∷ listed) before own = before (λ none. cc)

-- what is listed first
pub listed-not_accepted : ListedIsNotAccepted
listed-not_accepted rules limits file read bytes at_start some = absurd (some refl)
listed-not_accepted rules limits file read bytes (takes old front rest statement so_far next is begins right) some = listed-not_accepted rules limits file old bytes so_far some
listed-not_accepted rules limits file read bytes (leaves_out old front rest n record_ number start so_far next is begins wrong none_inside at) some =
    either-not_accepted rules limits file old.listed (listed-not_accepted rules limits file old bytes so_far)
    (λ none. instance-not_accepted rules limits file old bytes so_far none front rest n record_ number next is begins wrong)
listed-not_accepted rules limits file read bytes (passes_over old passed rest found number subject start so_far over at) some =
    either-not_accepted rules limits file old.listed (listed-not_accepted rules limits file old bytes so_far)
    (λ none. passed-not_accepted rules limits file old bytes so_far none number subject over.passes)

pub ended-not_accepted : EndedIsNotAccepted
ended-not_accepted rules formed limits file read number subject bytes so_far ends memory reader =
    either-not_accepted rules limits file read.listed (listed-not_accepted rules limits file read bytes so_far)
    (λ none. ending-not_accepted rules limits file read bytes so_far none formed number subject ends memory reader)
