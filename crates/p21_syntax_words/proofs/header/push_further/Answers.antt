use Rattle.p21_syntax_words.proofs.Putting.{put-three}
use Rattle.p21_syntax_words.proofs.header.push_further.Goals as goal

pub returns : goal.returns
returns c = put-three c.args.out.now.items _ _ _ _ _ _ c.in_ok-extend_from_slice.ensures.items c.in_ok-push_key.ensures c.in_ok-push.ensures.items
