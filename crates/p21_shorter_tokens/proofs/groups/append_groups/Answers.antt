use Rattle.p21_shorter_tokens.proofs.Respelling.{more_groups}
use Rattle.p21_shorter_tokens.proofs.groups.append_groups.Goals as goal

pub loop-count-preserved : goal.loop-count-preserved
loop-count-preserved c =
    more_groups _ c.args.groups.now _ c.loop-count.count c.loop-count.characters c.in-Some.character c.args.draft.now c.loop-count.draft c.append_character.new.draft c.requires.some_digits c.loop-count.invariant (c.in-Some.ensures {u = tt}).scalar
    (c.in-Some.ensures {u = tt}).group (c.if-not-append_character.ensures {u = tt})
