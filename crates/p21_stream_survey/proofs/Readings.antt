-- What a survey knows of a reading, with a statement more.
use Rattle.std.proofs.Common.{false, ◌≡◌, ◌≢◌, ◌⊎◌, ◌↔◌, ◌≤◌, ◌<◌, ℕ, Bool, IsTrue, suc, true, List, [], ◌∷◌, ◌++◌, map, length, inl, inr}
use Rattle.std.proofs.Common.{refl, sym, ap, subst, ◌∙◌, length-append, arith}
use Rattle.std.proofs.lemmas.List.{append-nil, map-append, nil_from_length}
use Rattle.std.proofs.lemmas.List.Elements.{Contains-append_cases, Contains-append_left, Contains-append_right}
use Rattle.std.proofs.lemmas.Map.Lookups.{exact_unsigned}
use Rattle.std.proofs.lemmas.Map.Views.{tells_apart}
use Rattle.std.specs.BTreeSet.{BTreeSet, Updates, contains}
use Rattle.std.specs.Ordering.{eq_by_cmp, nat_cmp}
use Rattle.std.specs.Prelude.{Contains, cond}
use Rattle.p21_spec_basics.proofs.Members.{Contains-cases, Contains-first, Contains-none}
use Rattle.p21_spec_basics.specs.Limits.{Limits}
use Rattle.p21_spec_exchange.specs.Record.{Record}
use Rattle.p21_spec_exchange.specs.Statement.{Statement, instance, section, data_start}
use Rattle.p21_spec_survey.specs.Rules.{Rules, by_itself, of_schema}
use Rattle.p21_spec_survey.specs.Survey as survey
use Rattle.p21_spec_survey.specs.Survey.{Listed, Reading, Subject, in_instance, leaving_out, nothing_read, passing_over, taking}
use Rattle.p21_spec_laws.proofs.Among.{parts-append}
use Rattle.p21_spec_laws.proofs.Keeps.{keeps-at_start}
use Rattle.p21_spec_laws.proofs.Statements.{instances-append}
use Rattle.p21_spec_laws.specs.Among.{parts_among}
use Rattle.p21_spec_laws.specs.Keeping.{Keeps, Kept}
use Rattle.p21_spec_laws.specs.Stored.{with_lines}
use Rattle.p21_spec_laws.specs.Taken.{headings_among, instances_among, names_among}
use Rattle.p21_stream_sieve.proofs.RefusedNames.{has-none, same-instance}
use Rattle.p21_stream_sieve.specs.Sifting.{AreSifted, HasName, HaveNames, HasRefusal, at_instance, none, refuses}
use Rattle.p21_stream_sieve.specs.SieveSteps.{Lists}
use Rattle.p21_stream_sieve.specs.declared.sieve.Sieve.{Sieve}
use Rattle.p21_stream_statements.specs.Fault.{fault_number}
use Rattle.p21_stream_statements.specs.declared.fault.Fault.{Fault}
use Rattle.p21_stream_statements.specs.declared.refusal.Refusal.{Refusal}
use Rattle.p21_stream_survey.proofs.Numbers.{lists-more, refuses-number}
use Rattle.p21_stream_survey.specs.Judging.{LeavesName, RefusesBy, SiftsAlone, SiftsTo, Takes}
use Rattle.p21_stream_survey.specs.Keeping.{IsSoundKeeper, KeepsNothing, rules_of, sifted_of}
use Rattle.p21_stream_survey.specs.Kinds.{IsOfFile}
use Rattle.p21_stream_survey.specs.Reading.{HasRead, listed_as}
use Rattle.p21_stream_survey.specs.Sifted.{Sifted, alone, names_left, sieved}
use Rattle.p21_stream_survey.specs.declared.keeper.Keeper.{Keeper}
use Rattle.p21_stream_survey.specs.declared.keeper.Keeper.TheVariants.{ByItself, OfSchema}
use Rattle.p21_stream_survey.specs.declared.listed.Listed as code
use Rattle.p21_stream_survey.specs.declared.listing.Listing.{Listing}
use Rattle.p21_stream_syntax.proofs.Taking.{keeps-nothing}
use Rattle.p21_stream_syntax.specs.Given as own
use Rattle.p21_spec_exchange.specs.DataSection.{Heading}

-- ---- the section lines of more statements

pub headings-append : (xs ys : List Statement) → headings_among (xs ++ ys) ≡ headings_among xs ++ headings_among ys
headings-append [] ys = refl
headings-append (section (data_start h) ∷ xs) ys = ap (λ (hs : List Heading). h ∷ hs) (headings-append xs ys)
headings-append (other ∷ xs) ys = headings-append xs ys

-- ---- bytes that are kept, and those that are read

cancel-end : (xs ys zs : List ℕ) → xs ++ zs ≡ ys ++ zs → length xs ≤ length ys → xs ≡ ys
cancel-end [] [] zs same short = refl
cancel-end [] (y ∷ ys) zs same short =
    let size = ap length same in
    let sum = length-append (y ∷ ys) zs in
    absurd (omega (arith, size, sum))
cancel-end (x ∷ xs) [] zs same short = absurd (omega (arith, short))
cancel-end (x ∷ xs) (y ∷ ys) zs same short = let rest : xs ++ zs ≡ ys ++ zs = cc in let first : x ≡ y = cc in ap (λ (z : ℕ). z ∷ xs) first
    ∙ ap (λ (l : List ℕ). y ∷ l) (cancel-end xs ys zs rest (omega (arith, short)))

-- with the same bytes behind both they differ as before
differ-behind : (kept bytes more : List ℕ) (broken : Bool) → length kept ≤ length bytes → (IsTrue broken ↔ (kept ≢ bytes)) → IsTrue broken
    ↔ (kept ++ more ≢ bytes ++ more)
differ-behind kept bytes more broken short known = (
  λ yes same. known.0 yes (cancel-end kept bytes more same short),
  λ differ. known.1 (λ same. differ (ap (λ (l : List ℕ). l ++ more) same)),
)

no-longer-behind : (kept bytes more : List ℕ) → length kept ≤ length bytes → length (kept ++ more) ≤ length (bytes ++ more)
no-longer-behind kept bytes more short =
    let one = length-append kept more in
    let two = length-append bytes more in
    omega (arith, short, one, two)

-- ---- what is listed

-- one of the refusals names an instance, with one more
refused-more : (listed : List Listed) (more : Listed) (n : ℕ) → survey.IsRefused (listed ++ more ∷ []) n → survey.IsRefused listed n
    ⊎ (more.subject ≡ in_instance n)
refused-more listed more n (refusal, among, is) = elim (Contains-append_cases listed (more ∷ []) refusal among) [
  | inl before ↦ inl (refusal, before, is)
  | inr last ↦ elim (Contains-cases more [] refusal last) [
    | inl same ↦ inr (ap (λ (l : Listed). l.subject) same ∙ is)
    | inr nothing ↦ absurd (Contains-none refusal nothing)
  ]
]

refused-before : (listed : List Listed) (more : Listed) (n : ℕ) → survey.IsRefused listed n → survey.IsRefused (listed ++ more ∷ []) n
refused-before listed more n (refusal, among, is) = (refusal, Contains-append_left listed (more ∷ []) refusal among, is)

refused-last : (listed : List Listed) (more : Listed) (n : ℕ) → more.subject ≡ in_instance n → survey.IsRefused (listed ++ more ∷ []) n
refused-last listed more n is = (more, Contains-append_right listed (more ∷ []) more (Contains-first more []), is)

pub listed-more : (list : List code.Listed) (one : code.Listed) (listed : List Listed) → map listed_as list ≡ listed
    → map listed_as (list ++ one ∷ []) ≡ listed ++ listed_as one ∷ []
listed-more list one listed is = map-append listed_as list (one ∷ []) ∙ ap (λ (l : List Listed). l ++ listed_as one ∷ []) is

-- ---- a statement that is taken

pub reads-taken : (s : Rules) (limits : Limits) (read : Reading) (bytes : List ℕ) (statement : Statement) (old new : Sifted)
    (before behind : Listing) → HasRead s limits read old before → Takes s limits read.given read.taken old statement new
    → behind.list.items ≡ before.list.items → behind.passed ≡ before.passed → behind.is_broken ≡ before.is_broken
    → behind.statement ≡ suc before.statement
    → HasRead s limits (taking read bytes statement) new behind
reads-taken s limits read bytes st old new before behind has takes list passed broken statement = record {
  sifts = takes.sifts;
  listed = ap (λ (l : List code.Listed). map listed_as l) list ∙ has.listed;
  named = λ n. (
    λ refused. elim ((has.named n).0 refused) [
      | inl out ↦ inl (subst (λ (ns : BTreeSet ℕ). HasName ns n) (sym takes.names) out)
      | inr over ↦
          inr (subst (λ (ns : BTreeSet ℕ). HasName ns n) (sym passed) over)
    ],
    λ was. (has.named n).1 (elim was [
      | inl out ↦ inl (subst (λ (ns : BTreeSet ℕ). HasName ns n) takes.names out)
      | inr over ↦ inr
          (subst (λ (ns : BTreeSet ℕ). HasName ns n) passed over)
    ]),
  );
  counted = statement ∙ ap suc has.counted;
  broken = subst (λ (b : Bool). IsTrue b ↔ (read.kept ++ bytes ≢ read.bytes ++ bytes)) (sym broken)
      (differ-behind read.kept read.bytes bytes before.is_broken has.no_longer has.broken);
  no_longer = no-longer-behind read.kept read.bytes bytes has.no_longer;
  of_file = has.of_file;
}

-- ---- an instance that is left out

pub instance-named : (m n : ℕ) → in_instance m ≡ in_instance n → m ≡ n
instance-named m n same = cc

-- the set of names has one more
named-more : (old new : Sieve) (n : ℕ) (fault : Fault) → Lists old n fault new → HaveNames old.names old.refusals.items → (m : ℕ)
    → HasName new.names m ↔ (HasName old.names m ⊎ (n ≡ m))
named-more old new n fault lists have m =
    let now : HaveNames new.names (old.refusals.items ++ at_instance fault n ∷ []) =
    subst (λ (rs : List Refusal). HaveNames new.names rs) lists.refusals_are (lists.names have) in (
      λ had. elim (by ((now m).0 had)) [ inl before ↦ inl ((have m).1 before) | inr same ↦ inr same ],
      λ which. (now m).1 (elim which [
        | inl before ↦ earlier ((have m).0 before)
        | inr same ↦ subst
            (λ (k : ℕ). HasRefusal (old.refusals.items ++ at_instance fault n ∷ []) k) same last
      ]),
    )
  where
    earlier : HasRefusal old.refusals.items m → HasRefusal (old.refusals.items ++ at_instance fault n ∷ []) m
    earlier (other, among) = (other, Contains-append_left old.refusals.items (at_instance fault n ∷ []) (at_instance other m) among)

    last : HasRefusal (old.refusals.items ++ at_instance fault n ∷ []) n
    last = (
      fault,
      Contains-append_right old.refusals.items (at_instance fault n ∷ []) (at_instance fault n)
          (Contains-first (at_instance fault n) []),
    )

    by : HasRefusal (old.refusals.items ++ at_instance fault n ∷ []) m → HasRefusal old.refusals.items m ⊎ (n ≡ m)
    by (other, among) = elim (Contains-append_cases old.refusals.items (at_instance fault n ∷ []) (at_instance other m) among) [
      | inl before ↦ inl (other, before)
      | inr behind ↦ elim (Contains-cases (at_instance fault n) [] (at_instance other m) behind) [
        | inl same ↦ inr (same-instance fault other n m same)
        | inr nothing ↦ absurd (Contains-none (at_instance other m) nothing)
      ]
    ]

-- a set of names has one more
name-put : (names added : BTreeSet ℕ) (n q : ℕ) → Updates nat_cmp names added n true → HasName added q ↔ (HasName names q ⊎ (n ≡ q))
name-put names added n q updates = by (eq_by_cmp nat_cmp n q) refl (updates.0 q)
  where
    by : (same : Bool) → eq_by_cmp nat_cmp n q ≡ same → contains nat_cmp added q ≡ cond same true (contains nat_cmp names q)
        → HasName added q ↔ (HasName names q ⊎ (n ≡ q))
    by true is now = (λ had. inr (tells_apart exact_unsigned n q is), λ which. now)
    by false is now = (
      λ had. inl (sym now ∙ had),
      λ which. elim which [ inl before ↦ now ∙ before | inr same ↦ subst (λ (m : ℕ). HasName added m) same updates.1 ],
    )

-- the names with that of one instance more
pub names-behind : (given : List Statement) (n : ℕ) (r : Record) → names_among (given ++ instance n r ∷ []) ≡ names_among given ++ n ∷ []
names-behind given n r =
    ap (λ (is : List (ℕ × Record)). map (λ (i : ℕ × Record). i.0) is) (instances-append given (instance n r ∷ []))
    ∙ map-append (λ (i : ℕ × Record). i.0) (instances_among given) ((n, r) ∷ [])

-- what is kept of the statements, and whose names are left out, with an instance that is
sifts-left : (s : Rules) (limits : Limits) (given taken : List Statement) (n : ℕ) (r : Record) (fault : Fault) (old new : Sifted)
    → SiftsTo s limits given taken old → LeavesName old n fault new → RefusesBy s given n r fault
    → SiftsTo s limits (given ++ instance n r ∷ []) taken new
    × ((m : ℕ) → HasName (names_left new) m ↔ (HasName (names_left old) m ⊎ (n ≡ m)))
sifts-left (of_schema s) limits given taken n r fault (sieved old) (sieved new) sifts lists refused = (
  record {
    sifted = subst (λ (rs : List Refusal). AreSifted s (given ++ instance n r ∷ []) taken rs) (sym lists.refusals_are)
        (refuses given taken old.refusals.items n r fault sifts.sifted refused);
    keeps = subst (λ (k : Kept). Keeps s limits taken k) (sym lists.kept_is) sifts.keeps;
    lines = ap (λ (k : Kept). k.lines) lists.kept_is ∙ sifts.lines;
    names = lists.names sifts.names;
  },
  λ m. named-more old new n fault lists sifts.names m,
)
sifts-left by_itself limits given taken n r fault (alone kept names) (alone after more) sifts (same, updates) (is, among) = (
  subst (λ (k : own.Kept). SiftsAlone (given ++ instance n r ∷ []) taken k) (sym same) (record {
    keeps = sifts.keeps;
    parts_are = parts-append given (instance n r ∷ []) ∙ (append-nil (parts_among given) ∙ sifts.parts_are);
    headings_are = headings-append given (instance n r ∷ []) ∙ (append-nil (headings_among given) ∙ sifts.headings_are);
    named = λ m. (
      λ at. (sifts.named m).0 (elim (Contains-append_cases (names_among given) (n ∷ []) m
          (subst (λ (ns : List ℕ). Contains ns m) (names-behind given n r) at)) [
            | inl before ↦ before
            | inr last ↦ elim (Contains-cases n [] m last) [
              | inl own ↦ subst (λ (k : ℕ). Contains (names_among given) k) own among
              | inr nothing ↦ absurd (Contains-none m nothing)
            ]
          ]),
      λ at. subst (λ (ns : List ℕ). Contains ns m) (sym (names-behind given n r))
          (Contains-append_left (names_among given) (n ∷ []) m ((sifts.named m).1 at)),
    );
  }),
  λ m. name-put names more n m updates,
)
sifts-left (of_schema s) limits given taken n r fault (alone kept names) new sifts lists refused = absurd sifts
sifts-left (of_schema s) limits given taken n r fault (sieved old) (alone after more) sifts lists refused = absurd lists
sifts-left by_itself limits given taken n r fault (sieved old) new sifts lists refused = absurd sifts
sifts-left by_itself limits given taken n r fault (alone kept names) (sieved new) sifts lists refused = absurd lists

pub reads-left_out : (s : Rules) (limits : Limits) (read : Reading) (bytes : List ℕ) (n begins : ℕ) (r : Record) (fault : Fault)
    (old new : Sifted) (before behind : Listing) (one : code.Listed) → HasRead s limits read old before → LeavesName old n fault new
    → RefusesBy s read.given n r fault → listed_as
    one ≡ record { number = fault_number fault; subject = in_instance n; begins = begins }
    → behind.list.items ≡ before.list.items ++ one ∷ [] → behind.passed ≡ before.passed
    → behind.is_broken ≡ before.is_broken → behind.statement ≡ suc before.statement
    → HasRead s limits (leaving_out read bytes n r (fault_number fault) begins) new behind
reads-left_out s limits read bytes n begins r fault old new before behind one has lists refused is list passed broken statement =
    let told : Listed = record { number = fault_number fault; subject = in_instance n; begins = begins } in
    let (sifts, more) = sifts-left s limits read.given read.taken n r fault old new has.sifts lists refused in
    record {
      sifts = sifts;
      listed = ap (λ (l : List code.Listed). map listed_as l) list ∙ listed-more before.list.items one read.listed has.listed
          ∙ ap (λ (l : Listed). read.listed ++ l ∷ []) is;
      named = λ m. (
        λ was. elim (refused-more read.listed told m was) [
          | inl earlier ↦ elim ((has.named m).0 earlier) [
            | inl out ↦ inl ((more m).1 (inl out))
            | inr over ↦ inr (subst (λ (ns : BTreeSet ℕ). HasName ns m) (sym passed) over)
          ]
          | inr same ↦ inl ((more m).1 (inr (instance-named n m same)))
        ],
        λ known. elim known [
          | inl out ↦ elim ((more m).0 out) [
            | inl earlier ↦ refused-before read.listed told m ((has.named m).1 (inl earlier))
            | inr same ↦ refused-last read.listed told m (ap in_instance same)
          ]
          | inr over ↦ refused-before read.listed told m ((has.named m).1 (inr (subst (λ (ns : BTreeSet ℕ). HasName ns m) passed over)))
        ],
      );
      counted = statement ∙ ap suc has.counted;
      broken = subst (λ (b : Bool). IsTrue b ↔ (read.kept ++ bytes ≢ read.bytes ++ bytes)) (sym broken)
          (differ-behind read.kept read.bytes bytes before.is_broken has.no_longer has.broken);
      no_longer = no-longer-behind read.kept read.bytes bytes has.no_longer;
      of_file = lists-more read.listed told has.of_file (refuses-number s read.given n r fault refused);
    }

-- ---- a statement that is passed over

pub reads-passed : (s : Rules) (limits : Limits) (read : Reading) (bytes : List ℕ) (number begins : ℕ) (subject : Subject) (sieve : Sifted)
    (before behind : Listing) (one : code.Listed) → HasRead s limits read sieve before
    → IsOfFile number
    → listed_as one ≡ record { number = number; subject = subject; begins = begins } → behind.list.items ≡ before.list.items ++ one ∷ []
    → ((m : ℕ) → HasName behind.passed m ↔ (HasName before.passed m ⊎ (subject ≡ in_instance m)))
    → IsTrue behind.is_broken ↔ (IsTrue before.is_broken ⊎ (0 < length bytes)) → behind.statement ≡ suc before.statement
    → HasRead s limits (passing_over read bytes number subject begins) sieve behind
reads-passed s limits read bytes number begins subject sieve before behind one has of is list passed broken statement =
    let told : Listed = record { number = number; subject = subject; begins = begins } in
    let short = has.no_longer in
    let sum = length-append read.bytes bytes in
    record {
      sifts = has.sifts;
      listed = ap (λ (l : List code.Listed). map listed_as l) list ∙ listed-more before.list.items one read.listed has.listed
          ∙ ap (λ (l : Listed). read.listed ++ l ∷ []) is;
      named = λ m. (
        λ was. elim (refused-more read.listed told m was) [
          | inl earlier ↦ elim ((has.named m).0 earlier) [ inl out ↦ inl out | inr over ↦ inr ((passed m).1 (inl over)) ]
          | inr same ↦ inr ((passed m).1 (inr same))
        ],
        λ known. elim known [
          | inl out ↦ refused-before read.listed told m ((has.named m).1 (inl out))
          | inr over ↦ elim ((passed m).0 over) [
            | inl earlier ↦ refused-before read.listed told m ((has.named m).1 (inr earlier))
            | inr same ↦ refused-last read.listed told m same
          ]
        ],
      );
      counted = statement ∙ ap suc has.counted;
      broken = (
        λ yes same. elim (broken.0 yes) [
          | inl was ↦ has.broken.0 was (same ∙ (ap (λ (l : List ℕ). read.bytes ++ l)
              (nil_from_length bytes (let size = ap length same in omega (arith, size, sum, short))) ∙ append-nil read.bytes))
          | inr some ↦ (let size = ap length same in omega (arith, size, sum, short, some))
        ],
        λ differ. broken.1 (some-passed bytes differ),
      );
      no_longer = omega (arith, short, sum);
      of_file = lists-more read.listed told has.of_file of;
    }
  where
    some-passed : (passed_ : List ℕ) → read.kept ≢ read.bytes ++ passed_ → IsTrue before.is_broken ⊎ (0 < length passed_)
    some-passed [] differ = inl (has.broken.1 (λ same. differ (same ∙ sym (append-nil read.bytes))))
    some-passed (byte ∷ passed_) differ = inr (omega arith)

-- ---- the beginning of a file

none-refused : (n : ℕ) → HasRefusal [] n → ⊥
none-refused n (fault, among) = Contains-none (at_instance fault n) among

none-listed : (n : ℕ) → survey.IsRefused [] n → ⊥
none-listed n (refusal, among, is) = Contains-none refusal among

false-is : false ≡ true → ⊥
false-is is = cc

-- no bytes are passed over
not-broken : (broken : Bool) → broken ≡ false → IsTrue broken ↔ (nothing_read.kept ≢ nothing_read.bytes)
not-broken true is = absurd (false-is (sym is))
not-broken false is = (λ yes. absurd (false-is yes), λ differ. absurd (differ refl))

-- nothing is kept, and no name is left out
sifts-nothing : (limits : Limits) (keeper : Keeper) → KeepsNothing keeper
    → SiftsTo (rules_of keeper) limits [] [] (sifted_of keeper) × ((n : ℕ) → ¬ HasName (names_left (sifted_of keeper)) n)
sifts-nothing limits (OfSchema keeper) (kept, refusals, names, sound) = (
  record {
    sifted = subst (λ (rs : List Refusal). AreSifted keeper.schema.now [] [] rs) (sym refusals) none;
    keeps = subst (λ (k : Kept). Keeps keeper.schema.now limits [] k) (sym kept) (keeps-at_start keeper.schema.now limits with_lines);
    lines = ap (λ (k : Kept). k.lines) kept;
    names = subst (λ (rs : List Refusal). HaveNames keeper.judge.sieve.names rs) (sym refusals) names;
  },
  λ n out. none-refused n ((names n).0 out),
)
sifts-nothing limits (ByItself keeper) (kept, names) = (
  subst (λ (k : own.Kept). SiftsAlone [] [] k) (sym kept)
      (record { keeps = keeps-nothing; parts_are = refl; headings_are = refl; named = λ n. (λ among. among, λ among. among) }),
  λ n out. none-refused n ((has-none keeper.names names n).0 out),
)

pub nothing-sound : (keeper : Keeper) → KeepsNothing keeper → IsSoundKeeper keeper
nothing-sound (OfSchema keeper) (kept, refusals, names, sound) = sound
nothing-sound (ByItself keeper) nothing = tt

-- nothing is read, kept and listed
pub reads-nothing : (limits : Limits) (keeper : Keeper) (listing : Listing) → KeepsNothing keeper → listing.list.items ≡ []
    → listing.passed.keys ≡ [] → listing.statement ≡ 1 → listing.is_broken ≡ false
    → HasRead (rules_of keeper) limits nothing_read (sifted_of keeper) listing
reads-nothing limits keeper listing nothing list passed statement whole = record {
  sifts = (sifts-nothing limits keeper nothing).0;
  listed = ap (λ (l : List code.Listed). map listed_as l) list;
  named = λ n. (
    λ was. absurd (none-listed n was),
    λ known. elim known [
      | inl out ↦ absurd ((sifts-nothing limits keeper nothing).1 n out)
      | inr over ↦ absurd
          (none-refused n ((has-none listing.passed passed n).0 over))
    ],
  );
  counted = statement;
  broken = not-broken listing.is_broken whole;
  no_longer = omega arith;
  of_file = tt;
}
