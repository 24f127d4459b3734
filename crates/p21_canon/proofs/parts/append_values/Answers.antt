use Rattle.p21_canon.proofs.FoundRows.{continues-behind, on_err, still-next, value-next}
use Rattle.p21_mapping_values.proofs.Elements.{known_at}
use Rattle.p21_mapping_values.proofs.Spelled.{spelled-more}
use Rattle.p21_canon.proofs.parts.append_values.Goals as goal
use Rattle.p21_values.proofs.Continuing.{continues-same}

pub write_value-requires : goal.write_value-requires
write_value-requires c = known_at _ _ _ _ c.value-item.is c.loop-value-test.true c.requires

pub returns-in_err-write_value-clause-err : goal.returns-in_err-write_value-clause-err
returns-in_err-write_value-clause-err c = on_err _ _
    (continues-behind _ _ _ _ _ _ c.loop-value.invariant.text c.in_ok-append_separator.ensures.ok
    (continues-same _ _ c.in_err-write_value.ensures.err))

pub loop-value-preserved : goal.loop-value-preserved
loop-value-preserved c = record {
  text = value-next _ _ _ _ _ _ _ _ _ _ c.value-item.is c.loop-value-test.true c.loop-value.invariant.text c.loop-value.invariant.still
      c.in_ok-append_separator.ensures.ok c.in_ok-write_value.ensures.ok;
  still = still-next _ _ _ _ _ c.value-item.is c.loop-value-test.true;
  spelled = spelled-more _ _ _ _ c.value-item.is c.loop-value-test.true c.loop-value.invariant.spelled c.in_ok-write_value.ensures.spelled;
}
