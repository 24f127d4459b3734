use Rattle.std.proofs.Common.{Option, subst, sym, ap, ◌∙◌}
use Rattle.p21_c.specs.Answers.{Feeds}
use Rattle.p21_c.specs.Contents.{boxed_content, kept_in, session_in}
use Rattle.p21_stream.specs.Held.{SessionHeld}
use Rattle.p21_c.proofs.sessions.feed.Goals as goal

pub returns : goal.returns
returns c =
    subst (λ (held : Option SessionHeld). Feeds held c.args.piece.now c.answer_to_feed-answer.result (boxed_content c.args.held)
    (boxed_content c.put_session.result))
    (sym (ap session_in c.in-Session.ensures)) (
      c.feed.result,
      c.feed.new.self,
      record {
        gives = c.feed.ensures.gives;
        checks = c.feed.ensures.checks;
        no_memory = c.feed.ensures.no_memory;
        again = c.feed.ensures.again;
        refused = c.feed.ensures.refused;
        kind = c.feed.ensures.kind;
        schema = c.feed.ensures.schema;
      },
      ap session_in c.put_session.ensures,
      ap kept_in c.put_session.ensures ∙ sym (ap kept_in c.in-Session.ensures),
      c.answer_to_feed-answer.ensures,
    )
