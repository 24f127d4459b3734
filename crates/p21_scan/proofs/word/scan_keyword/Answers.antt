use Rattle.p21_scan.proofs.Words.{no_keyword-dash}
use Rattle.p21_scan.proofs.word.scan_keyword.Goals as goal

pub returns-in-Some-clause-none : goal.returns-in-Some-clause-none
returns-in-Some-clause-none c = no_keyword-dash c.args.bytes.now c.in_ok-word.word.now c.in_ok-word.rest.now c.in-Some._dash.now c.in_ok-word.ensures.some c.in-Some.ensures.some
