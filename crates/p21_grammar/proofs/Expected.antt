-- The machine goes on with a token exactly where it could take one of its kind.
use Rattle.std.proofs.Common.{◌≡◌, ℕ, Bool, true, false, List, [], ◌∷◌, length, Option, Some, None, Result, Ok, Err, refl, sym, ap, ◌∙◌, subst}
use Rattle.std.proofs.lemmas.Slice.Eq.{bytes_eq-Decides}
use Rattle.std.specs.Prelude.{◌==◌, nat_lt, not, if◌then◌else◌, codes}
use Rattle.std.specs.Str.{bytes_eq}
use Rattle.p21_spec_exchange.specs.Parameter.{Key}
use Rattle.p21_spec_exchange.specs.Record.{Part, Record}
use Rattle.p21_spec_exchange.specs.Statement.{SectionLine, Statement, section, instance}
use Rattle.p21_spec_exchange.specs.Token as token
use Rattle.p21_spec_exchange.specs.Token.{Token}
use Rattle.p21_grammar.proofs.Closing.{close-right, close_empty-right, more}
use Rattle.p21_grammar.proofs.Holding.{Reaches, held_at}
use Rattle.p21_grammar.specs.Begins.{begins, begins_header_record, begins_param, ends, ends_keyword, ends_record, has_comma, takes}
use Rattle.p21_grammar.specs.Expected.{TakesWhatItCould, could_take, goes_on, goes_on_behind, is_of_form}
use Rattle.p21_grammar.specs.Held.{Held}
use Rattle.p21_grammar.specs.Kind.{kind_of, kind_of_keyword}
use Rattle.p21_grammar.specs.Machine.{AnswersMove, Head, Move, Open, RefusesMove, Spot, bare, simply, among, behind, close, close_empty, emit, end_keyword, end_record, ended, enter, equal, fault_behind_end, go, idle, inside, instance_end, keyed, line, list_row, misplaced_fault, misplaced_param_fault, named, next, open_at, other_section_fault, part_row, record_end, refuse, spot_of, step, typed_row, word}
use Rattle.p21_grammar.specs.Machine as machine
use Rattle.p21_grammar.specs.Shape.{is_heading, is_key}
use Rattle.p21_grammar.specs.Stage.{after, is_in_data, is_in_header}
use Rattle.p21_grammar.specs.declared.event.Event.{Event}
use Rattle.p21_grammar.specs.declared.fault.GrammarFault.{GrammarFault}
use Rattle.p21_grammar.specs.declared.fault.GrammarFault.TheVariants as fault
use Rattle.p21_grammar.specs.declared.kind.Kind.{Kind}
use Rattle.p21_grammar.specs.declared.kind.Kind.TheVariants as kind
use Rattle.p21_grammar.specs.declared.machine.Machine.{Machine}
use Rattle.p21_grammar.specs.declared.stage.Stage.{Stage}
use Rattle.p21_grammar.specs.declared.stage.Stage.TheVariants.{Start, Begun, Description, FileName, FileSchema, Further, Headed, Unnamed, Named, BehindUnnamed, BehindNamed, Ended}
use Rattle.p21_tokens_automaton.specs.declared.mode.Absent.TheVariants as absent

-- ---- keywords

-- what holds of each kind that a keyword may be of
words : (P : Kind → Type 0) (w : List ℕ) → (bytes_eq w (codes "HEADER") ≡ true → P kind.HeaderStart) → (bytes_eq w (codes "DATA") ≡ true → P kind.DataStart)
    → (bytes_eq w (codes "ENDSEC") ≡ true → P kind.SectionEnd) → P kind.Keyword → P (kind_of_keyword w)
words P w begins_ data_ ends_ others = by (bytes_eq w (codes "HEADER")) refl (bytes_eq w (codes "DATA")) refl (bytes_eq w (codes "ENDSEC")) refl where
  by : (a : Bool) → bytes_eq w (codes "HEADER") ≡ a → (b : Bool) → bytes_eq w (codes "DATA") ≡ b → (c : Bool) → bytes_eq w (codes "ENDSEC") ≡ c
      → P (if a then kind.HeaderStart else if b then kind.DataStart else if c then kind.SectionEnd else kind.Keyword)
  by true e b f c g = begins_ e
  by false e true f c g = data_ f
  by false e false f true g = ends_ g
  by false e false f false g = others

any : (f : Kind → Bool) (b : Bool) (w : List ℕ) → b ≡ f kind.HeaderStart → b ≡ f kind.DataStart → b ≡ f kind.SectionEnd → b ≡ f kind.Keyword → b ≡ f (kind_of_keyword w)
any f b w x y z o = words (λ k. b ≡ f k) w (λ e. x) (λ e. y) (λ e. z) o

-- a keyword that is taken where it is this word
only : (w x : List ℕ) (m n : Move) (f : Kind → Bool) → goes_on m ≡ true → goes_on n ≡ false → (bytes_eq w x ≡ true → f (kind_of_keyword w) ≡ true)
    → (bytes_eq w x ≡ false → f (kind_of_keyword w) ≡ false) → goes_on (if bytes_eq w x then m else n) ≡ f (kind_of_keyword w)
only w x m n f on off same other = by (bytes_eq w x) refl where
  by : (b : Bool) → bytes_eq w x ≡ b → goes_on (if b then m else n) ≡ f (kind_of_keyword w)
  by true e = on ∙ sym (same e)
  by false e = off ∙ sym (other e)

apart : (b : Bool) → b ≡ false → b ≡ true → ⊥
apart b e f = cc

header-kind : (w : List ℕ) → bytes_eq w (codes "HEADER") ≡ true → kind_of_keyword w ≡ kind.HeaderStart
header-kind w e = subst (λ z. kind_of_keyword z ≡ kind.HeaderStart) (sym ((bytes_eq-Decides w (codes "HEADER")).0 e)) refl

data-kind : (w : List ℕ) → bytes_eq w (codes "DATA") ≡ true → kind_of_keyword w ≡ kind.DataStart
data-kind w e = subst (λ z. kind_of_keyword z ≡ kind.DataStart) (sym ((bytes_eq-Decides w (codes "DATA")).0 e)) refl

end-kind : (w : List ℕ) → bytes_eq w (codes "ENDSEC") ≡ true → kind_of_keyword w ≡ kind.SectionEnd
end-kind w e = subst (λ z. kind_of_keyword z ≡ kind.SectionEnd) (sym ((bytes_eq-Decides w (codes "ENDSEC")).0 e)) refl

section-off : (w : List ℕ) → is_of_form (other_section_fault w) ≡ false
section-off w = by (bytes_eq w (codes "ANCHOR")) (bytes_eq w (codes "REFERENCE")) (bytes_eq w (codes "SIGNATURE")) where
  by : (a b c : Bool) → is_of_form (if a then fault.LeftOut absent.Anchor else if b then fault.LeftOut absent.Reference else if c then fault.LeftOut absent.Signature else fault.Unexpected) ≡ false
  by true b c = refl
  by false true c = refl
  by false false true = refl
  by false false false = refl

second-off : (b : Bool) (why : GrammarFault) → is_of_form why ≡ false → is_of_form (if b then fault.LeftOut absent.SecondSection else why) ≡ false
second-off true why off = refl
second-off false why off = off

end-off : (w : List ℕ) → is_of_form (fault_behind_end w) ≡ false
end-off w = by (bytes_eq w (codes "SIGNATURE")) where
  by : (b : Bool) → is_of_form (if b then fault.LeftOut absent.Signature else fault.AfterEnd) ≡ false
  by true = refl
  by false = refl

-- ---- where no statement is open

data_keyword-right : (p : Stage) (f : Kind → Bool) (w : List ℕ) → f kind.HeaderStart ≡ false → f kind.DataStart ≡ true → f kind.SectionEnd ≡ false → f kind.Keyword ≡ false
    → goes_on (machine.at_data_keyword p w) ≡ f (kind_of_keyword w)
data_keyword-right p f w x y z o = only w (codes "DATA") _ _ f refl (section-off w) (λ e. ap f (data-kind w e) ∙ y) (λ e. words (λ k. f k ≡ false) w (λ g. x) (λ g. absurd (apart _ e g)) (λ g. z) o)

end_keyword_of-right : (p : Stage) (m : Move) (f : Kind → Bool) (w : List ℕ) → goes_on m ≡ true → f kind.HeaderStart ≡ false → f kind.DataStart ≡ false → f kind.SectionEnd ≡ true → f kind.Keyword ≡ false
    → goes_on (if bytes_eq w (codes "ENDSEC") then m else refuse fault.Unexpected) ≡ f (kind_of_keyword w)
end_keyword_of-right p m f w on x y z o = only w (codes "ENDSEC") m _ f on refl (λ e. ap f (end-kind w e) ∙ z) (λ e. words (λ k. f k ≡ false) w (λ g. x) (λ g. y) (λ g. absurd (apart _ e g)) o)

idle-right : (p : Stage) (t : Token) → goes_on (step p idle t) ≡ begins p (kind_of t)
idle-right Start (token.keyword w) = any (begins Start) false w refl refl refl refl
idle-right Start t = refl
idle-right Begun (token.keyword w) =
    only w (codes "HEADER") _ _ (begins Begun) refl (section-off w) (λ e. ap (begins Begun) (header-kind w e)) (λ e. words (λ k. begins Begun k ≡ false) w (λ g. absurd (apart _ e g)) (λ g. refl) (λ g. refl) refl)
idle-right Begun t = refl
idle-right Description (token.keyword w) = any begins_header_record true w refl refl refl refl
idle-right Description t = refl
idle-right FileName (token.keyword w) = any begins_header_record true w refl refl refl refl
idle-right FileName t = refl
idle-right FileSchema (token.keyword w) = any begins_header_record true w refl refl refl refl
idle-right FileSchema t = refl
idle-right Further (token.keyword w) = any begins_header_record true w refl refl refl refl
idle-right Further t = refl
idle-right Headed (token.keyword w) = data_keyword-right Headed (begins Headed) w refl refl refl refl
idle-right Headed t = refl
idle-right Unnamed (token.keyword w) = end_keyword_of-right Unnamed _ (begins Unnamed) w refl refl refl refl refl
idle-right Unnamed t = refl
idle-right Named (token.keyword w) = end_keyword_of-right Named _ (begins Named) w refl refl refl refl refl
idle-right Named t = refl
idle-right BehindUnnamed (token.keyword w) = second-off (bytes_eq w (codes "DATA")) (other_section_fault w) (section-off w) ∙ any (begins BehindUnnamed) false w refl refl refl refl
idle-right BehindUnnamed t = refl
idle-right BehindNamed (token.keyword w) = data_keyword-right BehindNamed (begins BehindNamed) w refl refl refl refl
idle-right BehindNamed t = refl
idle-right Ended (token.keyword w) = end-off w ∙ any (begins Ended) false w refl refl refl refl
idle-right Ended t = refl

-- ---- inside a statement

user-off : (b : Bool) → is_of_form (machine.user_keyword_fault b) ≡ false
user-off true = refl
user-off false = refl

param_user-off : (b : Bool) → is_of_form (if b then fault.Unexpected else fault.LeftOut absent.UserKeyword) ≡ false
param_user-off true = refl
param_user-off false = refl

ended-right : (s : Statement) (r : Result Stage GrammarFault) → goes_on (ended s r) ≡ ends r
ended-right s (Ok q) = refl
ended-right s (Err why) = refl

ended_either : (a b c : Bool) (m n : Move) (x y : Bool) → goes_on m ≡ x → goes_on n ≡ y
    → goes_on (if a then (if b then m else refuse fault.Unexpected) else (if c then n else refuse fault.Unexpected)) ≡ (if a then (if b then x else false) else (if c then y else false))
ended_either true true c m n x y e f = e
ended_either true false c m n x y e f = refl
ended_either false b true m n x y e f = f
ended_either false b false m n x y e f = refl

end_keyword-right : (p : Stage) (k : Key) → goes_on (end_keyword p k) ≡ ends_keyword p k
end_keyword-right p k = ended_either (is_in_header p) (is_key (codes "ENDSEC") k) (is_key (codes "DATA") k) _ _ _ _ (ended-right _ _) (ended-right _ _)

record_either : (a b : Bool) (m n : Move) (x y : Bool) → goes_on m ≡ x → goes_on n ≡ y
    → goes_on (if a then m else (if b then n else refuse fault.SectionShape)) ≡ (if a then x else (if b then y else true))
record_either true b m n x y e f = e
record_either false true m n x y e f = f
record_either false false m n x y e f = refl

end_record-right : (p : Stage) (part : Part) → goes_on (end_record p part) ≡ ends_record p part
end_record-right p part = record_either (is_in_header p) (is_heading part) _ _ _ _ (ended-right _ _) (ended-right _ _)

name-right : (b : Bool) (m : Move) → goes_on m ≡ true → goes_on (if b then refuse fault.Unexpected else m) ≡ not b
name-right true m e = refl
name-right false m e = e

user-right : (b : Bool) (m : Move) → goes_on m ≡ true → goes_on (if b then m else refuse (fault.LeftOut absent.UserKeyword)) ≡ b
user-right true m e = e
user-right false m e = refl

enter-right : (b : Bool) (m : Move) → goes_on m ≡ true → goes_on (if b then m else refuse fault.TooDeep) ≡ true
enter-right true m e = e
enter-right false m e = refl

comma-right : (p : Stage) (row : Open) (st : List Open) → goes_on (machine.comma p row st) ≡ has_comma row
comma-right p (open_at (part_row h k) ps) st = refl
comma-right p (open_at list_row ps) st = refl
comma-right p (open_at (typed_row k) ps) st = refl

records-right : (p : Stage) (n : ℕ) (ps : List Part) → goes_on (machine.close_records p n ps) ≡ not (length ps == 0)
records-right p n [] = refl
records-right p n (q ∷ qs) = more q qs

line-right : (p : Stage) (l : SectionLine) (t : Token) → goes_on (step p (line l) t) ≡ takes p (line l) (kind_of t)
line-right p l token.semicolon = ended-right (section l) (after p (section l))
line-right p l (token.keyword w) = any (takes p (line l)) false w refl refl refl refl
line-right p l (token.user_keyword w) = user-off (is_in_data p)
line-right p l t = refl

named-right : (p : Stage) (n : ℕ) (t : Token) → goes_on (step p (named n) t) ≡ takes p (named n) (kind_of t)
named-right p n (token.keyword w) = any (takes p (named n)) false w refl refl refl refl
named-right p n (token.user_keyword w) = user-off (is_in_data p)
named-right p n t = refl

equal-right : (p : Stage) (n : ℕ) (t : Token) → goes_on (step p (equal n) t) ≡ takes p (equal n) (kind_of t)
equal-right p n (token.keyword w) = any (takes p (equal n)) true w refl refl refl refl
equal-right p n (token.user_keyword w) = user-off (is_in_data p)
equal-right p n t = refl

inside-right : (p : Stage) (n : ℕ) (ps : List Part) (t : Token) → goes_on (step p (inside n ps) t) ≡ takes p (inside n ps) (kind_of t)
inside-right p n ps (token.keyword w) = any (takes p (inside n ps)) true w refl refl refl refl
inside-right p n ps (token.user_keyword w) = user-off (is_in_data p)
inside-right p n ps token.right = records-right p n ps
inside-right p n ps t = refl

keyed-right : (p : Stage) (h : Head) (k : Key) (t : Token) → goes_on (step p (keyed h k) t) ≡ takes p (keyed h k) (kind_of t)
keyed-right p bare k (token.keyword w) = any (takes p (keyed bare k)) false w refl refl refl refl
keyed-right p bare k (token.user_keyword w) = user-off (is_in_data p)
keyed-right p bare k token.semicolon = end_keyword-right p k
keyed-right p bare k t = refl
keyed-right p (simply n) k (token.keyword w) = any (takes p (keyed (simply n) k)) false w refl refl refl refl
keyed-right p (simply n) k (token.user_keyword w) = user-off (is_in_data p)
keyed-right p (simply n) k t = refl
keyed-right p (among n ps) k (token.keyword w) = any (takes p (keyed (among n ps) k)) false w refl refl refl refl
keyed-right p (among n ps) k (token.user_keyword w) = user-off (is_in_data p)
keyed-right p (among n ps) k t = refl

next-right : (p : Stage) (row : Open) (st : List Open) (t : Token) → goes_on (step p (next row st) t) ≡ takes p (next row st) (kind_of t)
next-right p row st (token.name n) = name-right (is_in_header p) _ refl
next-right p row st (token.keyword w) = any (begins_param p row st) true w refl refl refl refl
next-right p row st (token.user_keyword w) = user-right (is_in_header p) _ refl
next-right p row st token.left = enter-right (nat_lt (length st) 64) _ refl
next-right p row st token.right = close_empty-right p row st
next-right p row st t = refl

word-right : (p : Stage) (k : Key) (row : Open) (st : List Open) (t : Token) → goes_on (step p (word k row st) t) ≡ takes p (word k row st) (kind_of t)
word-right p k row st token.left = enter-right (nat_lt (length st) 64) _ refl
word-right p k row st (token.keyword w) = any (takes p (word k row st)) false w refl refl refl refl
word-right p k row st (token.user_keyword w) = param_user-off (is_in_header p)
word-right p k row st t = refl

behind-right : (p : Stage) (row : Open) (st : List Open) (t : Token) → goes_on (step p (behind row st) t) ≡ takes p (behind row st) (kind_of t)
behind-right p row st token.comma = comma-right p row st
behind-right p row st token.right = close-right p row st
behind-right p row st (token.keyword w) = any (takes p (behind row st)) false w refl refl refl refl
behind-right p row st (token.user_keyword w) = param_user-off (is_in_header p)
behind-right p row st t = refl

record_end-right : (p : Stage) (part : Part) (t : Token) → goes_on (step p (record_end part) t) ≡ takes p (record_end part) (kind_of t)
record_end-right p part token.semicolon = end_record-right p part
record_end-right p part (token.keyword w) = any (takes p (record_end part)) false w refl refl refl refl
record_end-right p part (token.user_keyword w) = user-off (is_in_data p)
record_end-right p part t = refl

instance_end-right : (p : Stage) (n : ℕ) (r : Record) (t : Token) → goes_on (step p (instance_end n r) t) ≡ takes p (instance_end n r) (kind_of t)
instance_end-right p n r token.semicolon = ended-right (instance n r) (after p (instance n r))
instance_end-right p n r (token.keyword w) = any (takes p (instance_end n r)) false w refl refl refl refl
instance_end-right p n r (token.user_keyword w) = user-off (is_in_data p)
instance_end-right p n r t = refl

takes-right : (p : Stage) (sp : Spot) (t : Token) → goes_on (step p sp t) ≡ takes p sp (kind_of t)
takes-right p idle t = idle-right p t
takes-right p (line l) t = line-right p l t
takes-right p (named n) t = named-right p n t
takes-right p (equal n) t = equal-right p n t
takes-right p (inside n ps) t = inside-right p n ps t
takes-right p (keyed h k) t = keyed-right p h k t
takes-right p (next row st) t = next-right p row st t
takes-right p (word k row st) t = word-right p k row st t
takes-right p (behind row st) t = behind-right p row st t
takes-right p (record_end part) t = record_end-right p part t
takes-right p (instance_end n r) t = instance_end-right p n r t

-- ---- a parser

could_step : (p : Stage) (sp : Spot) (depth : ℕ) (refused : Option GrammarFault) (held : Held) (t : Token) → held_at p sp depth refused ≡ held → Reaches p sp → could_take held t ≡ goes_on (step p sp t)
could_step p sp depth refused held t same ran = ap (λ (v : Held). could_take v t) (sym same) ∙ ap (λ z. goes_on_behind z t) ran

pub could-kind : (p : Stage) (sp : Spot) (depth : ℕ) (refused : Option GrammarFault) (held : Held) (k : Kind) (answer : Bool) → held_at p sp depth refused ≡ held → Reaches p sp → answer ≡ takes p sp k
    → (t : Token) → kind_of t ≡ k → answer ≡ could_take held t
could-kind p sp depth refused held k answer same ran is t of_kind = is ∙ ap (takes p sp) (sym of_kind) ∙ sym (takes-right p sp t) ∙ sym (could_step p sp depth refused held t same ran)

pub could-answered : (p : Stage) (sp : Spot) (depth : ℕ) (refused : Option GrammarFault) (held : Held) (t : Token) (m : Machine) (event : Option Event) → held_at p sp depth refused ≡ held → Reaches p sp
    → AnswersMove (step p sp t) m event → could_take held t ≡ true
could-answered p sp depth refused held t m None same ran move = could_step p sp depth refused held t same ran ∙ ap goes_on move
could-answered p sp depth refused held t m (Some event) same ran move = could_step p sp depth refused held t same ran ∙ ap goes_on move.0

pub could-refused : (p : Stage) (sp : Spot) (depth : ℕ) (refused : Option GrammarFault) (held : Held) (t : Token) (why : GrammarFault) → held_at p sp depth refused ≡ held → Reaches p sp
    → RefusesMove (step p sp t) why → TakesWhatItCould held t (Err why)
could-refused p sp depth refused held t why same ran move = by why move where
  is : (f : GrammarFault) → step p sp t ≡ refuse f → could_take held t ≡ is_of_form f
  is f e = could_step p sp depth refused held t same ran ∙ ap goes_on e

  by : (f : GrammarFault) → RefusesMove (step p sp t) f → TakesWhatItCould held t (Err f)
  by fault.NoMemory e = tt
  by fault.Unexpected e = is fault.Unexpected (e (λ i. cc))
  by fault.TooDeep e = is fault.TooDeep (e (λ i. cc))
  by fault.EndsEarly e = is fault.EndsEarly (e (λ i. cc))
  by fault.AfterEnd e = is fault.AfterEnd (e (λ i. cc))
  by (fault.LeftOut absent) e = is (fault.LeftOut absent) (e (λ i. cc))
  by fault.HeaderShape e = is fault.HeaderShape (e (λ i. cc))
  by fault.SectionShape e = is fault.SectionShape (e (λ i. cc))
