use Rattle.daggy_tables.proofs.RowsLeftOver.{as_ended, as_went_on, as_not_given}
use Rattle.daggy_tables.proofs.rows.RowsIterator.next.Goals as goal

pub returns-in-None-clause-steps : goal.returns-in-None-clause-steps
returns-in-None-clause-steps c rows left =
    as_ended c.args.self.now.records c.next.new.self rows left _ c.in-None.is c.next.ensures.steps

pub returns-in-Some-Ok-clause-steps : goal.returns-in-Some-Ok-clause-steps
returns-in-Some-Ok-clause-steps c rows left =
    as_went_on c.args.self.now.records c.next.new.self rows left _ _ c.in-Some-Ok.row c.in-Some-Ok.is c.in-Some-Ok.field-0-is
    c.next.ensures.steps

pub returns-in-Some-Err-clause-steps : goal.returns-in-Some-Err-clause-steps
returns-in-Some-Err-clause-steps c rows left =
    as_not_given c.args.self.now.records c.next.new.self rows left _ _ c.in-Some-Err.error _ c.in-Some-Err.is c.in-Some-Err.field-0-is
    c.why_unread.ensures c.next.ensures.steps
