use Rattle.p21_stream_log.proofs.Bounds.{ahead-fits}
use Rattle.p21_stream_log.proofs.Boundless.{goes-on, no-end, unended-broken}
use Rattle.p21_stream_log.proofs.BrokenBy.{refused-broken, sought-ends, too-far_ends, wrong-broken}
use Rattle.p21_stream_log.proofs.Endings.{all-passed, all-taken, early-ends, ended-broken, instance-in_data, offending-ends, refused-byte, refused-ends}
use Rattle.p21_stream_log.proofs.Told.{refused-told}
use Rattle.p21_stream_log.proofs.laws.log_laws.Goals as goal

pub returns : goal.returns
returns c = record {
  refused = refused-broken c.whole_laws.ensures.begins_none;
  told =
      refused-told c.whole_laws.ensures.begins_none c.whole_laws.ensures.joined;
  wrong = wrong-broken;
  sought = sought-ends;
  too_far =
      too-far_ends;
  ended = ended-broken c.whole_laws.ensures.behind;
  last = refused-ends c.whole_laws.ensures.within;
  offends =
      offending-ends;
  early = early-ends;
  instance = instance-in_data c.reader_laws.ensures.in_data;
  byte = refused-byte;
  unended =
      unended-broken c.whole_laws.ensures.behind;
  unended_no_end = no-end;
  unended_on = goes-on;
  fits = ahead-fits;
  all_taken =
      all-taken;
  all_passed = all-passed;
}
