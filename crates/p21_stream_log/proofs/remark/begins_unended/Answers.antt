use Rattle.std.proofs.Common.{◌==◌, ap, length, sym, ◌∙◌}
use Rattle.p21_stream_log.proofs.Openings.{not-both, not-true}
use Rattle.p21_stream_log.proofs.remark.begins_unended.Goals as goal

pub returns : goal.returns
returns c = λ yes. record {
  rest = c.behind_separators-rest.result.now;
  passes = c.behind_separators-rest.ensures;
  some = λ none. not-true (sym c.if-is_empty.false ∙ (c.is_empty.ensures ∙ ap (λ (l : _). length l == 0) none));
  not_end = λ long. not-true (c.if-begins_with.ensures.1 long);
  not_front = λ short. not-both c.begins_with-2.result yes (c.begins_with-2.ensures.1 short);
}
