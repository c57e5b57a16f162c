use Rattle.daggy_schedule.proofs.levels.bottom_levels.Goals as goal

pub returns-clause-overflow : goal.returns-clause-overflow
returns-clause-overflow g c is = (
  c.in_ok-durations.durations.items,
  c.in_ok-durations.ensures.called,
  rw (← c.as_slice-2.ensures.value) (c.levels_of.ensures.overflow is),
)
