-- The walk where a statement is passed over.
use Rattle.std.proofs.Common.{◌≡◌, ◌≤◌, ◌<◌, ◌+◌, ℕ, suc, List, [], ◌∷◌, ◌++◌, length, length-append, take, drop, Option, Some, None}
use Rattle.std.proofs.Common.{Result, Ok, Err, IfOk, OnOk, inl, inr, refl, sym, ap, subst, ◌∙◌, append_assoc, arith}
use Rattle.p21_spec_survey.specs.Rules.{Rules}
use Rattle.p21_spec_survey.specs.Survey as survey
use Rattle.p21_spec_survey.specs.Survey.{EndsReading, at_statement}
use Rattle.p21_stream_log.specs.Going.{behind_stretch}
use Rattle.p21_stream_log.specs.Laws.{TooFarEnds}
use Rattle.p21_stream_log.specs.Log as log
use Rattle.p21_stream_log.specs.Log.{IsFileOf, Known, Point}
use Rattle.p21_stream_log.specs.Passage.{IsBrokenBy}
use Rattle.p21_stream_log.specs.declared.passage.Passage.{Passage}
use Rattle.p21_stream_log.specs.declared.passage.Passage.TheVariants.{AtFileMark, GoesOn, Sought, TooLong}
use Rattle.p21_stream_resume.specs.Seeking as seeking
use Rattle.p21_stream_statements.specs.Fault.{fault_number}
use Rattle.p21_stream_statements.specs.declared.fault.Fault.{Fault}
use Rattle.p21_stream_statements.specs.declared.fault.Fault.TheVariants.{Token}
use Rattle.p21_stream_statements.specs.declared.refusal.At.TheVariants.{Statement}
use Rattle.p21_stream_survey.proofs.Ahead.{counts-behind, none-left}
use Rattle.p21_stream_survey.proofs.Behind.{still-reading}
use Rattle.p21_stream_survey.proofs.Ends.{listed-length}
use Rattle.p21_stream_survey.proofs.Numbers.{far-number, reads-with}
use Rattle.p21_stream_survey.proofs.Sought.{broken-further}
use Rattle.p21_stream_survey.specs.Course.{Course, GoesFurther, GoesTo, IsInStage, IsSound, listed_of}
use Rattle.p21_stream_survey.specs.Following.{Stands}
use Rattle.p21_stream_survey.specs.Kinds.{IsOfFile}
use Rattle.p21_stream_survey.specs.Reading.{HasRead}
use Rattle.p21_stream_survey.specs.Seeking.{IsSought, SeeksFurther}
use Rattle.p21_stream_survey.specs.Walking.{EndsAt, EndsList, EndsSo, EndsWithin, Goes, GoesByPassage, HasSought, PassesBy, ReadsBehind}
use Rattle.p21_stream_survey.specs.Walking.{SeeksOn, refusal_of, too_long}
use Rattle.p21_stream_survey.specs.declared.listed.Listed as code
use Rattle.p21_stream_survey.specs.declared.listing.Listing.{Listing}
use Rattle.p21_stream_survey.specs.declared.seeking.Sought as sought
use Rattle.p21_stream_survey.specs.declared.seeking.Stretch.{Stretch}
use Rattle.p21_stream_survey.specs.declared.stage.Stage.{Stage}
use Rattle.p21_stream_survey.specs.declared.stage.Stage.TheVariants as stage
use Rattle.p21_stream_survey.specs.declared.stage.Unlisted.{Unlisted}
use Rattle.p21_stream_survey.specs.declared.survey.Next.{Next}
use Rattle.p21_stream_survey.specs.declared.survey.Survey.{Survey}
use Rattle.p21_tokens.specs.declared.fault.TokenFault.TheVariants.{FileTooLong}
use Rattle.p21_stream_survey.specs.Keeping.{rules_by, kept_by}

-- ---- by a passage

goes-on_by : (old : Survey) (refusal : code.Listed) (bytes : List ℕ) (count passed : ℕ) (passage : Passage) (next : Next)
    → passage ≡ GoesOn passed → ReadsBehind bytes count passed next → GoesByPassage old refusal bytes count passage next old
goes-on_by old refusal bytes count passed passage next is reads known fewer front piece more low are size by =
    let (more_listed, reading, at) = subst (λ (p : Passage). PassesBy known old fewer refusal bytes more p) is by in
    let ahead : drop passed bytes ++ more ≡ next.again.items ++ (drop next.count piece ++ more) =
    ap (λ (l : List ℕ). l ++ more) (sym (reads front piece are size)) ∙ append_assoc next.again.items (drop next.count piece) more in
    record {
      goes = record {
        course = subst (λ (l : List ℕ). Course known old l) ahead (still-reading known old (drop passed bytes ++ more) reading at);
        same = record { rules = refl; limits = refl; most = refl };
        no_fewer = omega arith;
      };
      once = inr more_listed;
    }

pub by-landmark : {E : Type 0} (old : Survey) (refusal : code.Listed) (bytes : List ℕ) (count passed : ℕ) (passage : Passage)
    (result : Result Next E) → passage ≡ GoesOn passed → IfOk result (λ next. ReadsBehind bytes count passed next)
    → IfOk result (λ next. GoesByPassage old refusal bytes count passage next old)
by-landmark old refusal bytes count passed passage (Ok next) is reads = goes-on_by old refusal bytes count passed passage next is reads
by-landmark old refusal bytes count passed passage (Err none) is reads = tt

pub by-mark : {E : Type 0} (old new : Survey) (refusal : code.Listed) (bytes : List ℕ) (count : ℕ) (passage : Passage)
    (result : Result Next E) → passage ≡ AtFileMark → OnOk result (EndsList (λ known. EndsSo known old refusal) old new)
    → IfOk result (λ next. GoesByPassage old refusal bytes count passage next new)
by-mark old new refusal bytes count passage (Ok next) is ends = λ known fewer front piece more low are size by.
    let (goes, over) = ends known (next.again.items ++ (drop next.count piece ++ more))
    (subst (λ (p : Passage). PassesBy known old fewer refusal bytes more p) is by) in
    record { goes = goes; once = inr (omega (arith, low, over)) }
by-mark old new refusal bytes count passage (Err none) is ends = tt

pub by-length : {E : Type 0} (old new : Survey) (refusal longer : code.Listed) (bytes : List ℕ) (count : ℕ) (passage : Passage)
    (result : Result Next E) → passage ≡ TooLong → longer ≡ too_long old refusal.begins
    → OnOk result (EndsList (λ known. EndsSo known old longer) old new)
    → IfOk result (λ next. GoesByPassage old refusal bytes count passage next new)
by-length old new refusal longer bytes count passage (Ok next) is longer_is ends = λ known fewer front piece more low are size by.
    let (goes, over) = ends known (next.again.items ++ (drop next.count piece ++ more))
    (subst (λ (l : code.Listed). EndsSo known old l) (sym longer_is)
    (subst (λ (p : Passage). PassesBy known old fewer refusal bytes more p) is by)) in
    record { goes = goes; once = inr (omega (arith, low, over)) }
by-length old new refusal longer bytes count passage (Err none) is longer_is ends = tt

pub by-seeker : (old : Survey) (refusal : code.Listed) (bytes : List ℕ) (count taken : ℕ) (seeker : seeking.Held) (passage : Passage)
    (next : Next) → passage ≡ Sought seeker → taken ≡ length bytes → next.again.items ≡ [] → next.count ≡ count
    → GoesByPassage old refusal bytes count passage next
    (record old {
      stage = stage.Seeking (record {
        seeker = seeker;
        stretch =
            record { fault = refusal.fault; begins = refusal.begins; taken = taken };
      });
    })
by-seeker old refusal bytes count taken seeker passage next is taken_is none same known fewer front piece more low are size by =
    let at = subst (λ (n : ℕ). IsInStage known old (stage.Seeking
    (record { seeker = seeker; stretch = record { fault = refusal.fault; begins = refusal.begins; taken = n } })) more) (sym taken_is)
    (subst (λ (p : Passage). PassesBy known old fewer refusal bytes more p) is by) in
    let new : Survey = record old {
      stage = stage.Seeking
          (record { seeker = seeker; stretch = record { fault = refusal.fault; begins = refusal.begins; taken = taken } });
    } in
    let whole : next.count ≡ length piece = same ∙ sym size in
    record {
      goes = subst (λ (l : List ℕ). GoesTo known old new l) (none-left next.again.items piece more next.count none whole)
          (record {
            course = record {
              sound = record {
                few = at.sound.few;
                limited = at.sound.limited;
                keeper = at.sound.keeper;
              };
              within = at.within;
              is_at = at.is_at;
            };
            same = record { rules = refl; limits = refl; most = refl };
            no_fewer = omega arith;
          });
      once = inl (none, whole);
    }

-- ---- by all of some bytes

-- fewer bytes come next
pub all-read : (known : Known) (old new : Survey) (rest more : List ℕ) (next : Next) → 0 < length rest → next.again.items ≡ []
    → next.count ≡ length rest → GoesTo known old new more
    → GoesFurther known old new (rest ++ more) (next.again.items ++ (drop next.count rest ++ more))
all-read known old new rest more next some none whole goes =
    let left = none-left next.again.items rest more next.count none whole in
    let size = ap length left in
    let sum = length-append rest more in
    record { goes = subst (λ (l : List ℕ). GoesTo known old new l) left goes; further = inr (omega (arith, size, sum, some)) }

-- ---- over a stretch

-- by so many of some bytes: one more is listed, and what isn't passed comes next
pub passed-over : (known : Known) (old : Survey) (held : log.Held) (listing : Listing) (point : Point) (all more ahead : List ℕ)
    (passed number begins : ℕ) (subject : survey.Subject) → IsSound known old → suc (listed_of old) < old.most
    → old.log.start ≡ length point.read.bytes
    → HasRead (rules_by old) old.limits point.read (kept_by old) old.listing → held.buffer ≡ []
    → Stands (rules_by old) old.limits known held (kept_by old) listing
    (behind_stretch point (take passed all) number subject begins ahead) → ahead ≡ drop passed all ++ more
    → old.log.start + (length all + length more) ≡ length known.bytes
    → (length listing.list.items ≡ suc (length old.listing.list.items))
    × IsInStage known (record old { log = held; listing = listing }) stage.Reading ahead
passed-over known old held listing point all more ahead passed number begins subject sound room start has anew stands ahead_is counted =
    let s : Rules = rules_by old in
    let next : Point = behind_stretch point (take passed all) number subject begins ahead in
    let before = listed-length s old.limits point.read (kept_by old) old.listing has in
    let behind = listed-length s old.limits next.read (kept_by old) listing stands.has in
    let refusal : List survey.Listed = record { number = number; subject = subject; begins = begins } ∷ [] in
    let one = length-append point.read.listed refusal in
    let listed : length listing.list.items ≡ suc (length old.listing.list.items) = omega (arith, before, behind, one) in
    let counts = counts-behind old.log.start held.start (length known.bytes) passed point.read.bytes all held.buffer more start
    stands.logs.start_is anew counted in (
      listed,
      record {
        sound = record { few = sound.few; limited = sound.limited; keeper = sound.keeper };
        within = omega (arith, listed, room);
        is_at = record {
          point = next;
          stands = stands;
          between = refl;
          ahead_are = refl;
          seen_at = tt;
          counted = subst (λ (l : List ℕ). held.start + (length held.buffer + length l) ≡ length known.bytes) (sym ahead_is) counts;
        };
      },
    )

-- ---- in the next bytes

module _ (known : Known) (old : Survey) (found : sought.Sought) (rest more : List ℕ)
    (at : IsInStage known old (stage.Seeking found) (rest ++ more)) where
  abbrev s : Rules
  s = (rules_by old)

  -- nothing is found yet
  pub seeks-more : (held : log.Held) (seeker : seeking.Held) → held ≡ old.log
      → IsSought s old.limits known at.is_at.point held at.is_at.statement (at.is_at.behind ++ rest) more found.stretch.fault
      found.stretch.begins (found.stretch.taken + length rest) seeker
      → (listing : Listing) → listing ≡ old.listing → HasSought known (record old { log = held; listing = listing }) seeker found.stretch
      (length rest) more
  seeks-more held seeker same is_sought listing listed =
      let r = at.is_at in
      let counted = r.counted in
      let sum = length-append rest more in
      let start : held.start ≡ old.log.start = ap (λ (h : log.Held). h.start) same in
      record {
        sound = record { few = at.sound.few; limited = at.sound.limited; keeper = at.sound.keeper };
        within = subst (λ (l : Listing). suc (length l.list.items) < old.most) (sym listed) at.within;
        is_at = record {
          point = r.point;
          statement = r.statement;
          behind = r.behind ++ rest;
          is_sought = is_sought;
          has = subst (λ (l : Listing). HasRead s old.limits r.point.read (kept_by old) l) (sym listed) r.has;
          counted = omega (arith, counted, sum, start);
        };
      }

  -- the reading ends with a refusal of the statement
  pub seeks-end : (held : log.Held) (listing : Listing) (fault : Fault) → IsOfFile (fault_number fault) → listing ≡ old.listing
      → ((file : List ℕ) → IsFileOf known file → EndsReading s old.limits file at.is_at.point.read (fault_number fault)
      (at_statement (suc at.is_at.point.read.count)))
      → EndsSo known (record old { log = held; listing = listing })
      (record { fault = fault; at = Statement listing.statement; begins = found.stretch.begins })
  seeks-end held listing fault of listed ends =
      let r = at.is_at in
      let has : HasRead s old.limits r.point.read (kept_by old) listing =
      subst (λ (l : Listing). HasRead s old.limits r.point.read (kept_by old) l) (sym listed) r.has in
      let within = at.within in
      let size = ap (λ (l : Listing). length l.list.items) listed in
      record {
        sound = record { few = at.sound.few; limited = at.sound.limited; keeper = at.sound.keeper };
        fewer = omega (arith, within, size);
        read = r.point.read;
        sieve = (kept_by old);
        so = λ file of_. record {
          is_read = r.is_sought.broken.stood.logs.is_read file of_;
          has = has;
          begins_at =
              (r.is_sought.broken.next_in file of_).begins_at;
        };
        ends = λ file of_. subst (λ (k : ℕ). EndsReading s old.limits file r.point.read (fault_number fault) (at_statement k))
            (sym has.counted) (ends file of_);
        of_file = reads-with s old.limits r.point.read (kept_by old) listing has
            (record { fault = fault; at = Statement listing.statement; begins = found.stretch.begins }) of;
      }

  -- it is passed over
  pub seeks-over : (held : log.Held) (listing : Listing) (begun : List ℕ) (count passed : ℕ) → held.buffer ≡ [] → old.stage ≡ stage.Reading
      → Stands s old.limits known held (kept_by old) listing
      (behind_stretch at.is_at.point (take passed (at.is_at.statement ++ (at.is_at.behind ++ rest))) (fault_number found.stretch.fault)
      (at_statement (suc at.is_at.point.read.count)) found.stretch.begins (begun ++ (drop count rest ++ more)))
      → drop passed (at.is_at.statement ++ (at.is_at.behind ++ rest)) ≡ begun ++ drop count rest
      → GoesTo known old (record old { log = held; listing = listing }) (begun ++ (drop count rest ++ more))
      × (listed_of old < length listing.list.items)
  seeks-over held listing begun count passed anew reading stands left =
      let r = at.is_at in
      let new : Survey = record old { log = held; listing = listing } in
      let all : List ℕ = r.statement ++ (r.behind ++ rest) in
      let ahead : begun ++ (drop count rest ++ more) ≡ drop passed all ++ more = sym (append_assoc begun (drop count rest) more)
      ∙ ap (λ (l : List ℕ). l ++ more) (sym left) in
      let taken_is = r.is_sought.taken_is in
      let one = length-append r.statement r.behind in
      let two = length-append r.statement (r.behind ++ rest) in
      let three = length-append r.behind rest in
      let four = length-append rest more in
      let counted = r.counted in
      let counted_all : old.log.start + (length all + length more) ≡ length known.bytes =
      omega (arith, taken_is, one, two, three, four, counted) in
      let (listed, reads) = passed-over known old held listing r.point all more (begun ++ (drop count rest ++ more)) passed
      (fault_number found.stretch.fault) found.stretch.begins (at_statement (suc r.point.read.count)) at.sound at.within
      r.is_sought.broken.stood.logs.start_is r.has anew stands ahead counted_all in (
        record {
          course = still-reading known new (begun ++ (drop count rest ++ more)) reading reads;
          same = record { rules = refl; limits = refl; most = refl };
          no_fewer = omega (arith, listed);
        },
        omega (arith, listed),
      )

-- ---- the same by what is found

-- a survey that goes to the same lists
pub goes-through : (known : Known) (old middle new : Survey) (ahead : List ℕ) → rules_by middle ≡ rules_by old
    → middle.limits ≡ old.limits → middle.most ≡ old.most → listed_of old ≤ listed_of middle → GoesTo known middle new ahead
    → GoesTo known old new ahead
goes-through known old middle new ahead schema limits most fewer goes =
    let grown = goes.no_fewer in
    record {
      course = goes.course;
      same = record { rules = goes.same.rules ∙ schema; limits = goes.same.limits ∙ limits; most = goes.same.most ∙ most };
      no_fewer = omega (arith, fewer, grown);
    }

module _ (old : Survey) (found : sought.Sought) (rest : List ℕ) (held : log.Held) (listing : Listing) (after : seeking.Held)
    (some : 0 < length rest) where
  abbrev middle : Survey
  middle = record old { log = held; listing = listing }

  abbrev Seeks-so : Option (ℕ × Passage) → Type 0
  Seeks-so answer = SeeksFurther old.log old.listing found.seeker found.stretch.fault found.stretch.begins found.stretch.taken rest answer
      held listing after

  -- nothing is found: the seeker has taken the rest
  pub sought-none : Seeks-so None → held ≡ old.log → (known : Known) (more : List ℕ)
      → IsInStage known old (stage.Seeking found) (rest ++ more) → HasSought known middle after found.stretch (length rest) more
  sought-none seeks same known more at =
      let r = at.is_at in
      seeks-more known old found rest more at held after same
      (seeks.1 (rules_by old) old.limits known r.point r.statement r.behind more r.is_sought) listing seeks.0

  -- or another one has, though no log says so
  pub sought-other : (count : ℕ) (other : seeking.Held) → Seeks-so (Some (count, Sought other)) → held ≡ old.log
      → (known : Known) (more : List ℕ) → IsInStage known old (stage.Seeking found) (rest ++ more)
      → HasSought known middle other found.stretch (length rest) more
  sought-other count other seeks same known more at =
      let r = at.is_at in
      let s : Rules = rules_by old in
      let by = seeks.1 s old.limits known r.point r.statement r.behind more r.is_sought in
      let broken = broken-further s old.limits known r.point old.log r.statement r.behind rest more (fault_number found.stretch.fault)
      (at_statement (suc r.point.read.count)) found.stretch.begins r.is_sought.broken in
      let taken_is = r.is_sought.taken_is in
      let one = length-append r.statement r.behind in
      let two = length-append r.statement (r.behind ++ rest) in
      let three = length-append r.behind rest in
      seeks-more known old found rest more at held other same
      (record {
        broken = subst (λ (h : log.Held). IsBrokenBy s old.limits known r.point h r.statement (r.behind ++ rest) more
            (fault_number found.stretch.fault) (at_statement (suc r.point.read.count)) found.stretch.begins) (sym same) broken;
        by = by;
        taken_is = omega (arith, taken_is, one, two, three);
        of_file = r.is_sought.of_file;
      })
      listing seeks.0

  pub seeks-on : (seeker : seeking.Held) (new : Survey) (next : Next)
      → ((known : Known) (more : List ℕ) → IsInStage known old (stage.Seeking found) (rest ++ more)
      → HasSought known middle seeker found.stretch (length rest) more) → listing ≡ old.listing
      → next.count ≡ length rest → next.again.items ≡ [] → SeeksOn middle seeker found.stretch (length rest) new
      → Goes old (stage.Seeking found) rest next new
  seeks-on seeker new next has listed whole none on known more at =
      let size = ap (λ (l : Listing). length l.list.items) listed in
      all-read known old new rest more next some none whole
      (goes-through known old middle new more refl refl refl (omega (arith, size)) (on known more (has known more at)))

  pub seeks-landmark : (count passed : ℕ) (next : Next) → Seeks-so (Some (count, GoesOn passed)) → held.buffer ≡ []
      → old.stage ≡ stage.Reading → next.count ≡ count → next.again.items ≡ after.begun → Goes old (stage.Seeking found) rest next middle
  seeks-landmark count passed next seeks anew reading count_is again_is known more at =
      let r = at.is_at in
      let (stands, left) = seeks (rules_by old) old.limits known r.point r.statement r.behind more (kept_by old) r.is_sought r.has in
      let (goes, more_listed) = seeks-over known old found rest more at held listing after.begun count passed anew reading stands left in
      let ahead : after.begun ++ (drop count rest ++ more) ≡ next.again.items ++ (drop next.count rest ++ more) =
      ap (λ (l : List ℕ). l ++ (drop count rest ++ more)) (sym again_is)
      ∙ ap (λ (n : ℕ). next.again.items ++ (drop n rest ++ more)) (sym count_is) in
      record { goes = subst (λ (l : List ℕ). GoesTo known old middle l) ahead goes; further = inl more_listed }

  -- the reading ends
  abbrev EndsThere : Survey → code.Listed → Type 0
  EndsThere new refusal = EndsList (λ known. EndsSo known middle refusal) middle new

  pub seeks-mark : (count : ℕ) (next : Next) (new : Survey) → Seeks-so (Some (count, AtFileMark))
      → EndsThere new (refusal_of middle found.stretch) → Goes old (stage.Seeking found) rest next new
  seeks-mark count next new seeks ends known more at =
      let r = at.is_at in
      let so = seeks-end known old found rest more at held listing found.stretch.fault r.is_sought.of_file seeks.0
      (seeks.1 (rules_by old) old.limits known r.point r.statement r.behind more r.is_sought) in
      let (goes, over) = ends known (next.again.items ++ (drop next.count rest ++ more)) so in
      let size = ap (λ (l : Listing). length l.list.items) seeks.0 in
      record {
        goes = goes-through known old middle new (next.again.items ++ (drop next.count rest ++ more)) refl refl refl
            (omega (arith, size)) goes;
        further = inl (omega (arith, size, over));
      }

  pub seeks-far : TooFarEnds → (count : ℕ) (next : Next) (new : Survey) → Seeks-so (Some (count, TooLong))
      → EndsThere new (too_long middle found.stretch.begins) → Goes old (stage.Seeking found) rest next new
  seeks-far too_far count next new seeks ends known more at =
      let r = at.is_at in
      let s : Rules = rules_by old in
      let number : ℕ = fault_number found.stretch.fault in
      let so = seeks-end known old found rest more at held listing (Token FileTooLong) far-number seeks.0
      (λ file of. too_far s old.limits file r.point.read number (at_statement (suc r.point.read.count)) at.sound.limited
      (seeks.1 s old.limits known r.point r.statement r.behind more r.is_sought file of)) in
      let (goes, over) = ends known (next.again.items ++ (drop next.count rest ++ more)) so in
      let size = ap (λ (l : Listing). length l.list.items) seeks.0 in
      record {
        goes = goes-through known old middle new (next.again.items ++ (drop next.count rest ++ more)) refl refl refl
            (omega (arith, size)) goes;
        further = inl (omega (arith, size, over));
      }

  -- whatever is answered
  pub seeks-on_where : {E : Type 0} (seeker : seeking.Held) (new : Survey) (result : Result Next E)
      → ((known : Known) (more : List ℕ) → IsInStage known old (stage.Seeking found) (rest ++ more)
      → HasSought known middle seeker found.stretch (length rest) more) → listing ≡ old.listing
      → IfOk result (λ next. next.count ≡ length rest) → IfOk result (λ next. next.again.items ≡ [])
      → OnOk result (SeeksOn middle seeker found.stretch (length rest) new)
      → IfOk result (λ next. Goes old (stage.Seeking found) rest next new)
  seeks-on_where seeker new (Ok next) has listed whole none on = seeks-on seeker new next has listed whole none on
  seeks-on_where seeker new (Err want) has listed whole none on = tt

  pub seeks-landmark_where : {E : Type 0} (count passed : ℕ) (result : Result Next E) → Seeks-so (Some (count, GoesOn passed))
      → held.buffer ≡ [] → old.stage ≡ stage.Reading → IfOk result (λ next. next.count ≡ count)
      → IfOk result (λ next. next.again.items ≡ after.begun)
      → IfOk result (λ next. Goes old (stage.Seeking found) rest next middle)
  seeks-landmark_where count passed (Ok next) seeks anew reading count_is again_is =
      seeks-landmark count passed next seeks anew reading count_is again_is
  seeks-landmark_where count passed (Err want) seeks anew reading count_is again_is = tt

  pub seeks-mark_where : {E : Type 0} (count : ℕ) (refusal : code.Listed) (new : Survey) (result : Result Next E)
      → Seeks-so (Some (count, AtFileMark)) → refusal ≡ refusal_of middle found.stretch → OnOk result (EndsThere new refusal)
      → IfOk result (λ next. Goes old (stage.Seeking found) rest next new)
  seeks-mark_where count refusal new (Ok next) seeks is ends =
      seeks-mark count next new seeks (subst (λ (r : code.Listed). EndsThere new r) is ends)
  seeks-mark_where count refusal new (Err want) seeks is ends = tt

  pub seeks-far_where : {E : Type 0} → TooFarEnds → (count : ℕ) (refusal : code.Listed) (new : Survey) (result : Result Next E)
      → Seeks-so (Some (count, TooLong)) → refusal ≡ too_long middle found.stretch.begins → OnOk result (EndsThere new refusal)
      → IfOk result (λ next. Goes old (stage.Seeking found) rest next new)
  seeks-far_where too_far count refusal new (Ok next) seeks is ends =
      seeks-far too_far count next new seeks (subst (λ (r : code.Listed). EndsThere new r) is ends)
  seeks-far_where too_far count refusal new (Err want) seeks is ends = tt

-- ---- further

-- a file may not have as many bytes
pub sought-long : (known : Known) (old : Survey) (seeker : seeking.Held) (stretch : Stretch) (count : ℕ) (ahead : List ℕ)
    → HasSought known old seeker stretch count ahead → old.limits.file_source < old.log.start + (stretch.taken + count)
    → EndsSo known old (too_long old stretch.begins)
sought-long known old seeker stretch count ahead has long =
    let r = has.is_at in
    let s : Rules = rules_by old in
    let within = has.within in
    let logs = r.is_sought.broken.stood.logs in
    let taken_is = r.is_sought.taken_is in
    let start = logs.start_is in
    let sum = length-append r.point.read.bytes (r.statement ++ r.behind) in
    record {
      sound = record { few = has.sound.few; limited = has.sound.limited; keeper = has.sound.keeper };
      fewer = omega (arith, within);
      read = r.point.read;
      sieve = (kept_by old);
      so = λ file of. record { is_read = logs.is_read file of; has = r.has; begins_at = (r.is_sought.broken.next_in file of).begins_at };
      ends = λ file of.
          let next = r.is_sought.broken.next_in file of in
          let whole : file ≡ r.point.read.bytes ++ ((r.statement ++ r.behind) ++ (ahead ++ next.rest)) =
          next.to_pass.next_are ∙ ap (λ (l : List ℕ). r.point.read.bytes ++ (l ++ next.to_pass.behind)) next.statement_is
          ∙ ap (λ (l : List ℕ). r.point.read.bytes ++ (r.statement ++ l)) next.behind_are
          ∙ ap (λ (l : List ℕ). r.point.read.bytes ++ l) (sym (append_assoc r.statement r.behind (ahead ++ next.rest))) in
          subst (λ (k : ℕ). EndsReading s old.limits file r.point.read 23 (at_statement k)) (sym r.has.counted)
          (survey.too_long (r.statement ++ r.behind) (ahead ++ next.rest) whole (omega (arith, sum, start, taken_is, long)));
      of_file = reads-with s old.limits r.point.read (kept_by old) old.listing r.has (too_long old stretch.begins) far-number;
    }

pub sought-ends : {E : Type 0} (old new : Survey) (seeker : seeking.Held) (stretch : Stretch) (count : ℕ) (longer : code.Listed)
    (result : Result Next E) → longer ≡ too_long old stretch.begins → old.limits.file_source < old.log.start + (stretch.taken + count)
    → OnOk result (EndsList (λ known. EndsSo known old longer) old new) → OnOk result (SeeksOn old seeker stretch count new)
sought-ends old new seeker stretch count longer (Ok next) is long ends =
    λ known ahead has. (ends known ahead (subst (λ (l : code.Listed). EndsSo known old l) (sym is)
    (sought-long known old seeker stretch count ahead has long))).0
sought-ends old new seeker stretch count longer (Err want) is long ends = tt

pub sought-more : (old : Survey) (seeker : seeking.Held) (stretch : Stretch) (count taken : ℕ) → taken ≡ stretch.taken + count
    → SeeksOn old seeker stretch count (record old {
      stage =
          stage.Seeking (record { seeker = seeker; stretch = record { fault = stretch.fault; begins = stretch.begins; taken = taken } });
    })
sought-more old seeker stretch count taken is known ahead has =
    let at = subst (λ (n : ℕ). IsInStage known old (stage.Seeking
    (record { seeker = seeker; stretch = record { fault = stretch.fault; begins = stretch.begins; taken = n } })) ahead) (sym is) has in
    record {
      course = record {
        sound = record {
          few = at.sound.few;
          limited = at.sound.limited;
          keeper = at.sound.keeper;
        };
        within = at.within;
        is_at = at.is_at;
      };
      same = record { rules = refl; limits = refl; most = refl };
      no_fewer = omega arith;
    }

-- ---- the survey waits

pub waits-more : (known : Known) (old : Survey) (unlisted : Unlisted) (bytes rest more : List ℕ) → bytes ≡ unlisted.bytes.items ++ rest
    → IsInStage known old (stage.Waiting unlisted) (rest ++ more) → EndsWithin known old unlisted.fault bytes more
waits-more known old unlisted bytes rest more is at =
    let w = at.is_at in
    let held : List ℕ = unlisted.bytes.items in
    let counted = w.counted in
    let size = ap length is in
    let one = length-append held rest in
    let two = length-append rest more in
    record {
      sound = at.sound;
      fewer = at.within;
      waits = record {
        read = w.read;
        is_read = w.is_read;
        sieve = w.sieve;
        has = w.has;
        start_is = w.start_is;
        file_is = λ file of. (let (further, file_is) = w.file_is file of in (
          further,
          file_is ∙ ap (λ (l : List ℕ). w.read.bytes ++ l) (ap (λ (l : List ℕ). held ++ l) (append_assoc rest more further)
              ∙ sym (append_assoc held rest (more ++ further)) ∙ ap (λ (l : List ℕ). l ++ (more ++ further)) (sym is)),
        ));
        ends = w.ends;
        of_file = w.of_file;
        counted = omega (arith, counted, size, one, two);
      };
    }

pub waits-on : (old new : Survey) (unlisted : Unlisted) (bytes rest : List ℕ) (next : Next) → 0 < length rest
    → bytes ≡ unlisted.bytes.items ++ rest → next.again.items ≡ [] → next.count ≡ length rest → EndsAt old unlisted.fault bytes new
    → Goes old (stage.Waiting unlisted) rest next new
waits-on old new unlisted bytes rest next some is none whole ends known more at =
    all-read known old new rest more next some none whole (ends known more (waits-more known old unlisted bytes rest more is at))

-- ---- by the stage

pub as-stage : {E : Type 0} (old new : Survey) (stage_ put : Stage) (rest : List ℕ) (result : Result Next E) → old.stage ≡ stage_
    → IfOk result (λ next. Goes (record old { stage = put }) stage_ rest next new) → IfOk result (λ next. Goes old old.stage rest next new)
as-stage old new stage_ put rest (Err want) is goes = tt
as-stage old new stage_ put rest (Ok next) is goes = λ known more at.
    let there = subst (λ (st : Stage). IsInStage known old st (rest ++ more)) is at in
    let moved = goes known more (record {
      sound = record {
        few = there.sound.few;
        limited = there.sound.limited;
        keeper = there.sound.keeper;
      };
      within = there.within;
      is_at = there.is_at;
    }) in
    record {
      goes = record {
        course = moved.goes.course;
        same =
            record { rules = moved.goes.same.rules; limits = moved.goes.same.limits; most = moved.goes.same.most };
        no_fewer =
            moved.goes.no_fewer;
      };
      further = moved.further;
    }
