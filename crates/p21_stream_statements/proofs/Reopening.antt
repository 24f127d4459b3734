-- A lexer with a parser behind it that is taken back to where the open statement began.
use Rattle.std.proofs.Common.{◌≡◌, ◌+◌, ℕ, List, [], ◌++◌, Option, Some, None, Ok, inr, refl, sym, ap, subst, ◌∙◌}
use Rattle.std.proofs.lemmas.List.{append-nil}
use Rattle.p21_spec_basics.specs.History.{extended, first_refusal}
use Rattle.p21_grammar.specs.Held as grammar_held
use Rattle.p21_grammar.specs.Reopening as grammar_reopening
use Rattle.p21_grammar.specs.Reopening.{HoldsAsBetween, StaysOrEnds, between_statements}
use Rattle.p21_grammar.specs.declared.event.Event.{Event}
use Rattle.p21_grammar.specs.declared.stage.Stage.{Stage}
use Rattle.p21_stream_statements.proofs.Seen.{seen-none}
use Rattle.p21_stream_statements.specs.Reopening.{GivesReopened, IsBetweenStatements, StaysInStatement, StepBegins, with_gap}
use Rattle.p21_stream_statements.specs.StatementReader.{Held, IsLive, IsSeenAt, StatementHistory, limits_of}
use Rattle.p21_tokens.proofs.Passing.{resting-history}
use Rattle.p21_tokens.specs.Held as tokens_held
use Rattle.p21_tokens.specs.Held.{file_limit_of, record_limit_of}
use Rattle.p21_tokens.specs.Histories as tokens
use Rattle.p21_tokens.specs.Passing.{IsResting, passing_call}
use Rattle.p21_tokens.specs.Reopening as reopening
use Rattle.p21_tokens.specs.Reopening.{RestsBehindSemicolon}
use Rattle.p21_tokens.specs.Token.{meant}
use Rattle.p21_tokens.specs.declared.fault.TokenFault.{TokenFault}
use Rattle.p21_tokens.specs.declared.token.Token.{Token as TokenRead}

-- ---- a reader that is taken back

-- a history of what was held there goes on by separators, where the lexer's does and the parser holds what it held
gone-back : (earlier : Held) (lexer : tokens_held.Held) (reading : StatementHistory) (gap : List ℕ) → IsBetweenStatements earlier
    → (live : IsLive earlier reading) → tokens.Answers lexer (extended live.history (passing_call gap []))
    → IsLive (record { lexer = lexer; parser = earlier.parser }) (with_gap reading gap)
gone-back earlier lexer reading gap between live answers =
    let unseen = (resting-history earlier.lexer live.history between.lexer live.lexer).seen in
    record {
      history = extended live.history (passing_call gap []);
      lexer = answers.stands;
      answered = inr answers;
      lexer_open = ap (λ (r : Option TokenFault). first_refusal r None) live.lexer_open;
      taken_are = ap (λ (l : List ℕ). l ++ gap) live.taken_are;
      seen_is = seen-none live.history.seen gap (subst (λ (seen : Option ℕ). IsSeenAt seen gap 0) (sym unseen) tt);
      parsing = live.parsing;
      parser = live.parser;
      parser_open = live.parser_open;
      tokens_are = live.tokens_are ∙ sym (append-nil live.history.given);
      given_are = live.given_are;
      given_first = live.given_first;
      ended_by = live.ended_by;
      of_file = live.of_file;
    }

same-limits : (earlier old : Held) → limits_of earlier ≡ limits_of old → tokens.KeepsLimits earlier.lexer old.lexer
same-limits earlier old same = (sym (ap (λ (l : ℕ × ℕ). l.0) same), sym (ap (λ (l : ℕ × ℕ). l.1) same))

pub gives-reopened : (old : Held) (place : ℕ) (lexer : tokens_held.Held) (parser : grammar_held.Held)
    → reopening.GivesReopened old.lexer place lexer → HoldsAsBetween old.parser.stage parser
    → GivesReopened old place (record { lexer = lexer; parser = parser })
gives-reopened old place lexer parser gives holds earlier reading gap began live separators place_is =
    let answers = gives earlier.lexer live.history gap began.between.lexer (same-limits earlier old began.limits) live.lexer separators
    place_is in
    subst (λ (p : grammar_held.Held). IsLive (record { lexer = lexer; parser = p }) (with_gap reading gap))
    (sym (holds earlier.parser began.between.parser began.stage)) (gone-back earlier lexer reading gap began.between live answers)

-- what is held there
pub between-reopened : (lexer next : tokens_held.Held) (place : ℕ) (stage : Stage) (parser : grammar_held.Held)
    → next ≡ reopening.reopened lexer place → parser ≡ between_statements stage
    → IsBetweenStatements (record { lexer = next; parser = parser })
between-reopened lexer next place stage parser lexer_is parser_is = record {
  lexer = subst IsResting (sym lexer_is) (record { refused = refl; start_is = refl; statement_is = refl });
  parser = subst grammar_reopening.IsBetweenStatements (sym parser_is) (record { refused = refl; pending = refl; depth = refl });
}

-- what is held behind instances that are passed over
pub between-passed : (lexer next : tokens_held.Held) (parser : grammar_held.Held) (old : Held) (count : ℕ)
    → record { lexer = lexer; parser = parser } ≡ old → next ≡ record lexer { file = lexer.file + count } → IsBetweenStatements old
    → IsBetweenStatements (record { lexer = next; parser = parser })
between-passed lexer next parser old count same next_is between =
    let here = subst IsBetweenStatements (sym same) between in
    record {
      lexer = subst IsResting (sym next_is) (record {
        refused = here.lexer.refused;
        start_is = here.lexer.start_is;
        statement_is =
            here.lexer.statement_is;
      });
      parser = here.parser;
    }

-- ---- a step

limits-kept : (old new : Held) → tokens.KeepsLimits old.lexer new.lexer → limits_of new ≡ limits_of old
limits-kept old new keeps = ap (λ (n : ℕ). (n, file_limit_of new.lexer)) keeps.0 ∙ ap (λ (n : ℕ). (record_limit_of old.lexer, n)) keeps.1

pub stays : (old new : Held) → tokens.KeepsLimits old.lexer new.lexer → new.parser.stage ≡ old.parser.stage → StaysInStatement old new
stays old new keeps stage earlier began = record {
  between = began.between;
  limits = began.limits
      ∙ sym (limits-kept old new keeps);
  stage = began.stage ∙ sym stage;
}

-- a token that the parser takes
pub step-begins : (old : Held) (count : ℕ) (token : TokenRead) (event : Option Event) (new : Held) → tokens.KeepsLimits old.lexer new.lexer
    → RestsBehindSemicolon (Ok (count, Some token)) new.lexer → StaysOrEnds old.parser (meant token) (Ok event) new.parser
    → StepBegins old (Ok (Some (count, event))) new
step-begins old count token None new keeps rests ends = stays old new keeps ends
step-begins old count token (Some event) new keeps rests ends = record { lexer = rests ends.0; parser = ends.1 }
