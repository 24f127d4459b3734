-- What holds behind each run from a stage where no statement is open.
use Rattle.std.proofs.Common.{◌≡◌, ℕ, ◌≤◌, Bool, true, false, List, [], ◌∷◌, ◌++◌, length, Option, Some, None, Result, Ok, Err, refl, ap, sym, ◌∙◌, append_assoc, subst}
use Rattle.std.proofs.lemmas.Bool.{ltb-false}
use Rattle.std.proofs.lemmas.List.{append-nil}
use Rattle.std.specs.Prelude.{if◌then◌else◌, nat_lt, codes}
use Rattle.std.specs.List.{flat_map, AllByRecursion as Each}
use Rattle.std.specs.Str.{bytes_eq}
use Rattle.p21_spec_exchange.proofs.Semicolons.{Each-append}
use Rattle.p21_spec_exchange.specs.DataSection.{unnamed, named, heading_of}
use Rattle.p21_spec_exchange.specs.Grammar.{IsNoUserKeyword}
use Rattle.p21_spec_exchange.specs.Header.{IsNoInstanceName}
use Rattle.p21_spec_exchange.specs.OpenNesting.{IsNoSemicolon}
use Rattle.p21_spec_exchange.specs.Parameter.{Key, Param, name, list, typed, Params, no_params, param}
use Rattle.p21_spec_exchange.specs.Record.{Part, Record, part_tokens, record_tokens}
use Rattle.p21_spec_exchange.specs.Statement.{SectionLine, Statement, section, header, instance, section_end, data_start, statement_tokens}
use Rattle.p21_spec_exchange.specs.Token as token
use Rattle.p21_spec_exchange.specs.Token.{Token}
use Rattle.p21_grammar.specs.Machine.{depth_of, user_keyword_fault, other_section_fault, fault_behind_end, Head, bare, simply, among, Opening, part_row, list_row, typed_row, Open, open_at, Spot, idle, line, named as name_taken, equal, inside, keyed, next, word, behind, record_end, instance_end, Move, go, emit, refuse, ended, step, put, put_back, enter, close, close_typed, close_empty, comma, at_next, close_records, at_keyed, end_keyword, end_heading, end_record, at_idle}
use Rattle.p21_grammar.specs.Stage.{is_in_header, is_in_data, shaped, after, after_heading, then_walk, walk}
use Rattle.p21_grammar.specs.Shape.{is_key, is_heading, is_file_description, is_file_name, is_file_schema, is_further}
use Rattle.p21_grammar.specs.declared.fault.GrammarFault.{GrammarFault}
use Rattle.p21_grammar.specs.declared.fault.GrammarFault.TheVariants.{Unexpected, TooDeep, EndsEarly, AfterEnd, LeftOut, SectionShape}
use Rattle.p21_tokens_automaton.specs.declared.mode.Absent.TheVariants.{UserKeyword, Anchor, Reference, Signature, SecondSection}
use Rattle.p21_grammar.specs.declared.stage.Stage.{Stage}
use Rattle.p21_grammar.specs.declared.stage.Stage.TheVariants.{Start, Begun, Description, FileName, FileSchema, Further, Headed, Unnamed, Named, BehindUnnamed, BehindNamed, Ended}
use Rattle.p21_grammar.proofs.Follows.{IsFine, IsShallowStatement, Follows, step-follows}
use Rattle.p21_grammar.proofs.RunsParams.{IsAllowed, AreAllowed, Each-front}
use Rattle.p21_grammar.proofs.RunsStatements.{part-in_header}
use Rattle.p21_grammar.proofs.Shapes.{heading-named}
use Rattle.p21_grammar.specs.Runs.{RunOutcome, run_outcome, with_first_statements, moved, run, pending}
use Rattle.p21_grammar.specs.Sound.{IsSound}

-- ---- the stage, and the token

-- the token is none that the stage forbids, and no `;`
abbrev IsPlain : Stage → Token → Type 0
IsPlain p t = IsAllowed (is_in_header p) t × IsNoSemicolon t

-- the refusals that say more than that no statement goes on: the 65th opening, a token behind the end; and no early end
abbrev pub IsBlamed : Stage → Spot → Token → GrammarFault → Type 0
IsBlamed p sp t TooDeep = (t ≡ token.left) × (64 ≤ depth_of sp)
IsBlamed p sp t AfterEnd = (p ≡ Ended) × (sp ≡ idle)
IsBlamed p sp t EndsEarly = ⊥
IsBlamed p sp t why = Unit {0}

abbrev IsCommon : GrammarFault → Type 0
IsCommon TooDeep = ⊥
IsCommon AfterEnd = ⊥
IsCommon EndsEarly = ⊥
IsCommon why = Unit {0}

common-blamed : (p : Stage) (sp : Spot) (t : Token) (why : GrammarFault) → IsCommon why → IsBlamed p sp t why
common-blamed p sp t TooDeep common = absurd common
common-blamed p sp t AfterEnd common = absurd common
common-blamed p sp t EndsEarly common = absurd common
common-blamed p sp t why common = tt

-- a move on leaves the stage and is made by such a token; a statement ends with `;` and leads on
abbrev Takes : Stage → Spot → Token → Move → Type 0
Takes p sp t (go q sq) = (q ≡ p) × IsPlain p t
Takes p sp t (emit s q) = (t ≡ token.semicolon) × (after p s ≡ Ok q)
Takes p sp t (refuse why) = IsBlamed p sp t why

-- a move that emits nothing and stays at the stage
abbrev Stays : Stage → Move → Type 0
Stays p (go q sp) = q ≡ p
Stays p (emit s q) = ⊥
Stays p (refuse why) = IsCommon why

stays-takes : (p : Stage) (sp : Spot) (t : Token) (m : Move) → Stays p m → IsPlain p t → Takes p sp t m
stays-takes p sp t (go q sq) stays plain = (stays, plain)
stays-takes p sp t (emit s q) stays plain = absurd stays
stays-takes p sp t (refuse why) stays plain = common-blamed p sp t why stays

-- a user keyword that is refused
keyword-blamed : (p : Stage) (sp : Spot) (t : Token) (b : Bool) → IsBlamed p sp t (user_keyword_fault b)
keyword-blamed p sp t true = tt
keyword-blamed p sp t false = tt

param_keyword-blamed : (p : Stage) (sp : Spot) (t : Token) (b : Bool) → IsBlamed p sp t (if b then Unexpected else LeftOut UserKeyword)
param_keyword-blamed p sp t true = tt
param_keyword-blamed p sp t false = tt

section-common : (w : List ℕ) → IsCommon (other_section_fault w)
section-common w = by (bytes_eq w (codes "ANCHOR")) (bytes_eq w (codes "REFERENCE")) (bytes_eq w (codes "SIGNATURE")) where
  by : (a b c : Bool) → IsCommon (if a then LeftOut Anchor else if b then LeftOut Reference else if c then LeftOut Signature else Unexpected)
  by true b c = tt
  by false true c = tt
  by false false true = tt
  by false false false = tt

-- why a statement has no place
abbrev IsCommonResult : Result Stage GrammarFault → Type 0
IsCommonResult (Ok q) = Unit {0}
IsCommonResult (Err why) = IsCommon why

shaped-common : (b : Bool) (q : Stage) → IsCommonResult (shaped b q)
shaped-common true q = tt
shaped-common false q = tt

part-common : (p : Stage) (part : Part) → IsCommonResult (after p (header part))
part-common Description part = shaped-common (is_file_description part) FileName
part-common FileName part = shaped-common (is_file_name part) FileSchema
part-common FileSchema part = shaped-common (is_file_schema part) Further
part-common Further part = shaped-common (is_further part) Further
part-common other part = tt

line-common : (p : Stage) (l : SectionLine) → IsCommonResult (after p (section l))
line-common Start (data_start unnamed) = tt
line-common Begun (data_start unnamed) = tt
line-common Description (data_start unnamed) = tt
line-common FileName (data_start unnamed) = tt
line-common FileSchema (data_start unnamed) = tt
line-common Further (data_start unnamed) = tt
line-common Headed (data_start unnamed) = tt
line-common Unnamed (data_start unnamed) = tt
line-common Named (data_start unnamed) = tt
line-common BehindUnnamed (data_start unnamed) = tt
line-common BehindNamed (data_start unnamed) = tt
line-common Ended (data_start unnamed) = tt
line-common Start (data_start (named chars schema)) = tt
line-common Begun (data_start (named chars schema)) = tt
line-common Description (data_start (named chars schema)) = tt
line-common FileName (data_start (named chars schema)) = tt
line-common FileSchema (data_start (named chars schema)) = tt
line-common Further (data_start (named chars schema)) = tt
line-common Headed (data_start (named chars schema)) = tt
line-common Unnamed (data_start (named chars schema)) = tt
line-common Named (data_start (named chars schema)) = tt
line-common BehindUnnamed (data_start (named chars schema)) = tt
line-common BehindNamed (data_start (named chars schema)) = tt
line-common Ended (data_start (named chars schema)) = tt
line-common p l = tt

instance-common : (p : Stage) (n : ℕ) (r : Record) → IsCommonResult (after p (instance n r))
instance-common Unnamed n r = tt
instance-common Named n r = tt
instance-common other n r = tt

heading-common : (p : Stage) → IsCommonResult (after_heading p)
heading-common Headed = tt
heading-common BehindNamed = tt
heading-common other = tt

allowed-plain : (b : Bool) (t : Token) → IsNoInstanceName t → IsNoUserKeyword t → IsAllowed b t
allowed-plain true t name_free key_free = name_free
allowed-plain false t name_free key_free = key_free

put_back-stays : (p : Stage) (st : List Open) (q : Param) → Stays p (put_back p st q)
put_back-stays p [] q = tt
put_back-stays p (row ∷ st) q = refl

close_typed-stays : (p : Stage) (st : List Open) (k : Key) (ps : Params) → Stays p (close_typed p st k ps)
close_typed-stays p st k no_params = tt
close_typed-stays p st k (param q no_params) = put_back-stays p st (typed k q)
close_typed-stays p st k (param q (param r us)) = tt

close-stays : (p : Stage) (row : Open) (st : List Open) → Stays p (close p row st)
close-stays p (open_at (part_row h k) ps) st = refl
close-stays p (open_at list_row ps) st = put_back-stays p st (list ps)
close-stays p (open_at (typed_row k) ps) st = close_typed-stays p st k ps

close_empty-stays : (p : Stage) (row : Open) (st : List Open) → Stays p (close_empty p row st)
close_empty-stays p (open_at o no_params) st = close-stays p (open_at o no_params) st
close_empty-stays p (open_at o (param q us)) st = tt

enter-takes : (p : Stage) (sp : Spot) (o : Opening) (row : Open) (st : List Open) → depth_of sp ≡ length st → IsPlain p token.left → Takes p sp token.left (enter p o row st)
enter-takes p sp o row st deep plain = by (nat_lt (length st) 64) refl where
  by : (b : Bool) → nat_lt (length st) 64 ≡ b → Takes p sp token.left (if b then go p (next (open_at o no_params) (row ∷ st)) else refuse TooDeep)
  by true room = (refl, plain)
  by false room = (refl, subst (λ z. 64 ≤ z) (sym deep) (ltb-false (length st) 64 room))

comma-stays : (p : Stage) (row : Open) (st : List Open) → Stays p (comma p row st)
comma-stays p (open_at (part_row h k) ps) st = refl
comma-stays p (open_at list_row ps) st = refl
comma-stays p (open_at (typed_row k) ps) st = tt

word-stays : (p : Stage) (w wanted : List ℕ) (sp : Spot) (why : GrammarFault) → IsCommon why → Stays p (if bytes_eq w wanted then go p sp else refuse why)
word-stays p w wanted sp why common = by (bytes_eq w wanted) where
  by : (b : Bool) → Stays p (if b then go p sp else refuse why)
  by true = refl
  by false = common

-- plain tokens: neither a name nor a user keyword, and no `;`
module _ (p : Stage) where
  plain : (t : Token) → IsNoInstanceName t → IsNoUserKeyword t → IsNoSemicolon t → IsPlain p t
  plain t name_free key_free no_end = (allowed-plain (is_in_header p) t name_free key_free, no_end)

  by_close : (sp : Spot) (m : Move) → Stays p m → Takes p sp token.right m
  by_close sp m stays = stays-takes p sp token.right m stays (plain token.right tt tt (λ e. cc))

  by_left : (sp : Spot) (m : Move) → Stays p m → Takes p sp token.left m
  by_left sp m stays = stays-takes p sp token.left m stays (plain token.left tt tt (λ e. cc))

  by_keyword : (sp : Spot) (w : List ℕ) (m : Move) → Stays p m → Takes p sp (token.keyword w) m
  by_keyword sp w m stays = stays-takes p sp (token.keyword w) m stays (plain (token.keyword w) tt tt (λ e. cc))

  at_next-takes : (row : Open) (st : List Open) (t : Token) → Takes p (next row st) t (at_next p row st t)
  at_next-takes row st token.dollar = (refl, plain token.dollar tt tt (λ e. cc))
  at_next-takes row st token.star = (refl, plain token.star tt tt (λ e. cc))
  at_next-takes row st (token.whole z) = (refl, plain (token.whole z) tt tt (λ e. cc))
  at_next-takes row st (token.real d) = (refl, plain (token.real d) tt tt (λ e. cc))
  at_next-takes row st (token.text chars) = (refl, plain (token.text chars) tt tt (λ e. cc))
  at_next-takes row st (token.item w) = (refl, plain (token.item w) tt tt (λ e. cc))
  at_next-takes row st (token.bits value) = (refl, plain (token.bits value) tt tt (λ e. cc))
  at_next-takes row st (token.name n) = by (is_in_header p) refl where
    by : (b : Bool) → is_in_header p ≡ b → Takes p (next row st) (token.name n) (if b then refuse Unexpected else put p row st (name n))
    by true e = tt
    by false e = (refl, (subst (λ z. IsAllowed z (token.name n)) (sym e) tt, λ f. cc))
  at_next-takes row st (token.keyword w) = by_keyword (next row st) w (at_next p row st (token.keyword w)) refl
  at_next-takes row st (token.user_keyword w) = by (is_in_header p) refl where
    by : (b : Bool) → is_in_header p ≡ b → Takes p (next row st) (token.user_keyword w) (if b then go p (word (record { user = true; word = w }) row st) else refuse (LeftOut UserKeyword))
    by true e = (refl, (subst (λ z. IsAllowed z (token.user_keyword w)) (sym e) tt, λ f. cc))
    by false e = tt
  at_next-takes row st token.left = enter-takes p (next row st) list_row row st refl (plain token.left tt tt (λ e. cc))
  at_next-takes row st token.right = by_close (next row st) (at_next p row st token.right) (close_empty-stays p row st)
  at_next-takes row st token.begin = tt
  at_next-takes row st token.finish = tt
  at_next-takes row st token.comma = tt
  at_next-takes row st token.semicolon = tt
  at_next-takes row st token.equals = tt

  ended-takes : (sp : Spot) (s : Statement) (r : Result Stage GrammarFault) → after p s ≡ r → IsCommonResult r → Takes p sp token.semicolon (ended s r)
  ended-takes sp s (Ok q) e common = (refl, e)
  ended-takes sp s (Err why) e common = common-blamed p sp token.semicolon why common

  end_keyword-takes : (sp : Spot) (k : Key) → Takes p sp token.semicolon (end_keyword p k)
  end_keyword-takes sp k = by (is_in_header p) (is_key (codes "ENDSEC") k) (is_key (codes "DATA") k) where
    by : (b c d : Bool) → Takes p sp token.semicolon (if b
        then (if c then ended (section section_end) (after p (section section_end)) else refuse Unexpected)
        else (if d then ended (section (data_start unnamed)) (after p (section (data_start unnamed))) else refuse Unexpected))
    by true true d = ended-takes sp (section section_end) (after p (section section_end)) refl (line-common p section_end)
    by true false d = tt
    by false c true = ended-takes sp (section (data_start unnamed)) (after p (section (data_start unnamed))) refl (line-common p (data_start unnamed))
    by false c false = tt

  after-heading : (chars schema : List ℕ) → after p (section (data_start (named chars schema))) ≡ after_heading p
  after-heading chars schema = by p where
    by : (q : Stage) → after q (section (data_start (named chars schema))) ≡ after_heading q
    by Headed = refl
    by BehindNamed = refl
    by other = refl

  end_heading-takes : (sp : Spot) (part : Part) → Takes p sp token.semicolon (end_heading p part)
  end_heading-takes sp part = by (is_heading part) refl where
    by : (b : Bool) → is_heading part ≡ b → Takes p sp token.semicolon (if b then ended (section (data_start (heading_of part.params))) (after_heading p) else refuse SectionShape)
    by true e = let found = heading-named part e in ended-takes sp (section (data_start (heading_of part.params))) (after_heading p) (ap (λ z. after p (section (data_start z))) found.2 ∙ after-heading found.0 found.1) (heading-common p)
    by false e = tt

  end_record-takes : (sp : Spot) (part : Part) → Takes p sp token.semicolon (end_record p part)
  end_record-takes sp part = by (is_in_header p) where
    by : (b : Bool) → Takes p sp token.semicolon (if b then ended (header part) (after p (header part)) else end_heading p part)
    by true = ended-takes sp (header part) (after p (header part)) refl (part-common p part)
    by false = end_heading-takes sp part

  close_records-stays : (n : ℕ) (parts : List Part) → Stays p (close_records p n parts)
  close_records-stays n [] = tt
  close_records-stays n (part ∷ parts) = refl

  at_keyed-takes : (h : Head) (k : Key) (t : Token) → Takes p (keyed h k) t (at_keyed p h k t)
  at_keyed-takes bare k token.left = by_left (keyed bare k) (at_keyed p bare k token.left) refl
  at_keyed-takes (simply n) k token.left = by_left (keyed (simply n) k) (at_keyed p (simply n) k token.left) refl
  at_keyed-takes (among n parts) k token.left = by_left (keyed (among n parts) k) (at_keyed p (among n parts) k token.left) refl
  at_keyed-takes bare k token.semicolon = end_keyword-takes (keyed bare k) k
  at_keyed-takes bare k (token.user_keyword w) = keyword-blamed p (keyed bare k) (token.user_keyword w) (is_in_data p)
  at_keyed-takes (simply n) k (token.user_keyword w) = keyword-blamed p (keyed (simply n) k) (token.user_keyword w) (is_in_data p)
  at_keyed-takes (among n parts) k (token.user_keyword w) = keyword-blamed p (keyed (among n parts) k) (token.user_keyword w) (is_in_data p)
  at_keyed-takes h k other = tt

header_key-takes : (p : Stage) → is_in_header p ≡ true → (w : List ℕ) → Takes p idle (token.user_keyword w) (go p (keyed bare (record { user = true; word = w })))
header_key-takes p e w = (refl, (subst (λ z. IsAllowed z (token.user_keyword w)) (sym e) tt, λ f. cc))

second-blamed : (p : Stage) (t : Token) (w : List ℕ) → IsBlamed p idle t (if bytes_eq w (codes "DATA") then LeftOut SecondSection else other_section_fault w)
second-blamed p t w = by (bytes_eq w (codes "DATA")) where
  by : (b : Bool) → IsBlamed p idle t (if b then LeftOut SecondSection else other_section_fault w)
  by true = tt
  by false = common-blamed p idle t (other_section_fault w) (section-common w)

end-blamed : (w : List ℕ) → IsBlamed Ended idle (token.keyword w) (fault_behind_end w)
end-blamed w = by (bytes_eq w (codes "SIGNATURE")) where
  by : (b : Bool) → IsBlamed Ended idle (token.keyword w) (if b then LeftOut Signature else AfterEnd)
  by true = tt
  by false = (refl, refl)

at_idle-takes : (p : Stage) (t : Token) → Takes p idle t (at_idle p t)
at_idle-takes Start token.begin = (refl, plain Start token.begin tt tt (λ e. cc))
at_idle-takes Start other = tt
at_idle-takes Begun (token.keyword w) = by_keyword Begun idle w (at_idle Begun (token.keyword w)) (word-stays Begun w (codes "HEADER") _ _ (section-common w))
at_idle-takes Begun other = tt
at_idle-takes Description (token.keyword w) = by_keyword Description idle w (at_idle Description (token.keyword w)) refl
at_idle-takes Description (token.user_keyword w) = header_key-takes Description refl w
at_idle-takes Description other = tt
at_idle-takes FileName (token.keyword w) = by_keyword FileName idle w (at_idle FileName (token.keyword w)) refl
at_idle-takes FileName (token.user_keyword w) = header_key-takes FileName refl w
at_idle-takes FileName other = tt
at_idle-takes FileSchema (token.keyword w) = by_keyword FileSchema idle w (at_idle FileSchema (token.keyword w)) refl
at_idle-takes FileSchema (token.user_keyword w) = header_key-takes FileSchema refl w
at_idle-takes FileSchema other = tt
at_idle-takes Further (token.keyword w) = by_keyword Further idle w (at_idle Further (token.keyword w)) refl
at_idle-takes Further (token.user_keyword w) = header_key-takes Further refl w
at_idle-takes Further other = tt
at_idle-takes Headed (token.keyword w) = by_keyword Headed idle w (at_idle Headed (token.keyword w)) (word-stays Headed w (codes "DATA") _ _ (section-common w))
at_idle-takes Headed other = tt
at_idle-takes Unnamed (token.name n) = (refl, (tt, λ e. cc))
at_idle-takes Unnamed (token.keyword w) = by_keyword Unnamed idle w (at_idle Unnamed (token.keyword w)) (word-stays Unnamed w (codes "ENDSEC") _ Unexpected tt)
at_idle-takes Unnamed other = tt
at_idle-takes Named (token.name n) = (refl, (tt, λ e. cc))
at_idle-takes Named (token.keyword w) = by_keyword Named idle w (at_idle Named (token.keyword w)) (word-stays Named w (codes "ENDSEC") _ Unexpected tt)
at_idle-takes Named other = tt
at_idle-takes BehindUnnamed (token.keyword w) = second-blamed BehindUnnamed (token.keyword w) w
at_idle-takes BehindUnnamed token.finish = (refl, plain BehindUnnamed token.finish tt tt (λ e. cc))
at_idle-takes BehindUnnamed other = tt
at_idle-takes BehindNamed (token.keyword w) = by_keyword BehindNamed idle w (at_idle BehindNamed (token.keyword w)) (word-stays BehindNamed w (codes "DATA") _ _ (section-common w))
at_idle-takes BehindNamed token.finish = (refl, plain BehindNamed token.finish tt tt (λ e. cc))
at_idle-takes BehindNamed other = tt
at_idle-takes Ended (token.keyword w) = end-blamed w
at_idle-takes Ended other = (refl, refl)

pub step-takes : (p : Stage) (sp : Spot) (t : Token) → Takes p sp t (step p sp t)
step-takes p idle t = at_idle-takes p t
step-takes p (line l) token.semicolon = ended-takes p (line l) (section l) (after p (section l)) refl (line-common p l)
step-takes p (line l) (token.user_keyword w) = keyword-blamed p (line l) (token.user_keyword w) (is_in_data p)
step-takes p (line l) other = tt
step-takes p (name_taken n) token.equals = (refl, plain p token.equals tt tt (λ e. cc))
step-takes p (name_taken n) (token.user_keyword w) = keyword-blamed p (name_taken n) (token.user_keyword w) (is_in_data p)
step-takes p (name_taken n) other = tt
step-takes p (equal n) (token.keyword w) = by_keyword p (equal n) w (step p (equal n) (token.keyword w)) refl
step-takes p (equal n) token.left = by_left p (equal n) (step p (equal n) token.left) refl
step-takes p (equal n) (token.user_keyword w) = keyword-blamed p (equal n) (token.user_keyword w) (is_in_data p)
step-takes p (equal n) other = tt
step-takes p (inside n parts) (token.keyword w) = by_keyword p (inside n parts) w (step p (inside n parts) (token.keyword w)) refl
step-takes p (inside n parts) token.right = by_close p (inside n parts) (step p (inside n parts) token.right) (close_records-stays p n parts)
step-takes p (inside n parts) (token.user_keyword w) = keyword-blamed p (inside n parts) (token.user_keyword w) (is_in_data p)
step-takes p (inside n parts) other = tt
step-takes p (keyed h k) t = at_keyed-takes p h k t
step-takes p (next row st) t = at_next-takes p row st t
step-takes p (word k row st) token.left = enter-takes p (word k row st) (typed_row k) row st refl (plain p token.left tt tt (λ e. cc))
step-takes p (word k row st) (token.user_keyword w) = param_keyword-blamed p (word k row st) (token.user_keyword w) (is_in_header p)
step-takes p (word k row st) other = tt
step-takes p (behind row st) token.comma = stays-takes p (behind row st) token.comma (step p (behind row st) token.comma) (comma-stays p row st) (plain p token.comma tt tt (λ e. cc))
step-takes p (behind row st) token.right = by_close p (behind row st) (step p (behind row st) token.right) (close-stays p row st)
step-takes p (behind row st) (token.user_keyword w) = param_keyword-blamed p (behind row st) (token.user_keyword w) (is_in_header p)
step-takes p (behind row st) other = tt
step-takes p (record_end part) token.semicolon = end_record-takes p (record_end part) part
step-takes p (record_end part) (token.user_keyword w) = keyword-blamed p (record_end part) (token.user_keyword w) (is_in_data p)
step-takes p (record_end part) other = tt
step-takes p (instance_end n r) token.semicolon = ended-takes p (instance_end n r) (instance n r) (after p (instance n r)) refl (instance-common p n r)
step-takes p (instance_end n r) (token.user_keyword w) = keyword-blamed p (instance_end n r) (token.user_keyword w) (is_in_data p)
step-takes p (instance_end n r) other = tt

-- why a step is refused
pub step-blamed : (p : Stage) (sp : Spot) (t : Token) (why : GrammarFault) → step p sp t ≡ refuse why → IsBlamed p sp t why
step-blamed p sp t why e = subst (Takes p sp t) e (step-takes p sp t)

-- ---- over a run

-- what holds where no refusal has come
pub record IsGood (p : Stage) (sp : Spot) : Type 0 where
  pub fine : IsFine sp
  pub allowed : AreAllowed p (pending sp)
  pub open_still : Each IsNoSemicolon (pending sp)

pub idle-good : (p : Stage) → IsGood p idle
idle-good p = record { fine = tt; allowed = tt; open_still = tt }

-- a step from where these are held
abbrev pub Kept : Stage → List Token → Move → Type 0
Kept p h (go q sp) = IsGood q sp × (h ≡ pending sp) × (q ≡ p)
Kept p h (emit s q) = IsSound s × (h ≡ statement_tokens s) × (after p s ≡ Ok q)
Kept p h (refuse why) = Unit {0}

in_data : (p q : Stage) (n : ℕ) (r : Record) → after p (instance n r) ≡ Ok q → is_in_header p ≡ false
in_data Unnamed q n r e = refl
in_data Named q n r e = refl
in_data other q n r e = absurd cc

sound : (p q : Stage) (s : Statement) (h : List Token) → after p s ≡ Ok q → IsShallowStatement s → h ≡ statement_tokens s → AreAllowed p h → IsSound s
sound p q (section l) h e shallow is allowed = tt
sound p q (header part) h e shallow is allowed =
    let all : Each (IsAllowed true) (statement_tokens (header part)) = subst (Each (IsAllowed true)) is (subst (λ b. Each (IsAllowed b) h) (part-in_header p part q e) allowed) in
    (shallow, Each-front (IsAllowed true) (part_tokens part) (token.semicolon ∷ []) all)
sound p q (instance n r) h e shallow is allowed =
    let all : Each (IsAllowed false) (statement_tokens (instance n r)) = subst (Each (IsAllowed false)) is (subst (λ b. Each (IsAllowed b) h) (in_data p q n r e) allowed) in
    record { some_parts = shallow.0; shallow = shallow.1; no_user_keywords = Each-front (IsAllowed false) (record_tokens r) (token.semicolon ∷ []) all.1.1 }

kept : (p : Stage) (sp : Spot) (t : Token) → IsGood p sp → (m : Move) → Follows m (pending sp ++ t ∷ []) → Takes p sp t m → Kept p (pending sp ++ t ∷ []) m
kept p sp t good (go q sp_) follows takes =
    let h : List Token = pending sp ++ t ∷ [] in
    let allowed : AreAllowed p h = Each-append (IsAllowed (is_in_header p)) (pending sp) (t ∷ []) good.allowed (takes.1.0, tt) in
    let still : Each IsNoSemicolon h = Each-append IsNoSemicolon (pending sp) (t ∷ []) good.open_still (takes.1.1, tt) in (
      record {
        fine = follows.0;
        allowed = subst (λ z. AreAllowed z (pending sp_)) (sym takes.0) (subst (AreAllowed p) follows.1 allowed);
        open_still = subst (Each IsNoSemicolon) follows.1 still;
      },
      follows.1,
      takes.0,
    )
kept p sp t good (emit s q) follows takes =
    let end_allowed : IsAllowed (is_in_header p) t = subst (IsAllowed (is_in_header p)) (sym takes.0) (allowed-plain (is_in_header p) token.semicolon tt tt) in
    let allowed : AreAllowed p (pending sp ++ t ∷ []) = Each-append (IsAllowed (is_in_header p)) (pending sp) (t ∷ []) good.allowed (end_allowed, tt) in
    (sound p q s (pending sp ++ t ∷ []) takes.1 follows.0 follows.1 allowed, follows.1, takes.1)
kept p sp t good (refuse why) follows takes = tt

pub step-kept : (p : Stage) (sp : Spot) (t : Token) → IsGood p sp → Kept p (pending sp ++ t ∷ []) (step p sp t)
step-kept p sp t good = kept p sp t good (step p sp t) (step-follows p sp t good.fine) (step-takes p sp t)

-- a run that took these tokens, from the stage on, with those held before it
abbrev pub Led : Stage → List Token → Option RunOutcome → Type 0
Led p h None = Unit {0}
Led p h (Some (run_outcome es q sp)) = IsGood q sp × (h ≡ flat_map statement_tokens es ++ pending sp) × (walk es p ≡ Ok q) × Each IsSound es

led-first : (p q : Stage) (s : Statement) (h : List Token) (o : Option RunOutcome) → IsSound s → after p s ≡ Ok q → Led q h o → Led p (statement_tokens s ++ h) (with_first_statements (s ∷ []) o)
led-first p q s h None is e led = tt
led-first p q s h (Some (run_outcome es r sp)) is e led =
    (led.0, ap (λ z. statement_tokens s ++ z) led.1 ∙ sym (append_assoc (statement_tokens s) (flat_map statement_tokens es) (pending sp)), ap (then_walk (walk es)) e ∙ led.2, (is, led.3))

led-moved : (p : Stage) (m : Move) (h ts : List Token) → Kept p h m → ((q : Stage) (sp : Spot) → IsGood q sp → Led q (pending sp ++ ts) (run ts q sp)) → Led p (h ++ ts) (moved m (run ts))
led-moved p (go q sp) h ts is again = subst (λ z. Led z (h ++ ts) (run ts q sp)) is.2 (subst (λ z. Led q (z ++ ts) (run ts q sp)) (sym is.1) (again q sp is.0))
led-moved p (emit s q) h ts is again = subst (λ z. Led p (z ++ ts) (with_first_statements (s ∷ []) (run ts q idle))) (sym is.1) (led-first p q s ts (run ts q idle) is.0 is.2 (again q idle (idle-good q)))
led-moved p (refuse why) h ts is again = tt

pub run-led : (ts : List Token) (p : Stage) (sp : Spot) → IsGood p sp → Led p (pending sp ++ ts) (run ts p sp)
run-led [] p sp good = (good, append-nil (pending sp), refl, tt)
run-led (t ∷ ts) p sp good =
    subst (λ z. Led p z (run (t ∷ ts) p sp)) (append_assoc (pending sp) (t ∷ []) ts)
    (led-moved p (step p sp t) (pending sp ++ t ∷ []) ts (step-kept p sp t good) (run-led ts))

pub led : (h : List Token) (p q : Stage) (es : List Statement) (sp : Spot) → run h p idle ≡ Some (run_outcome es q sp) → Led p h (Some (run_outcome es q sp))
led h p q es sp e = subst (Led p h) e (run-led h p idle (idle-good p))
