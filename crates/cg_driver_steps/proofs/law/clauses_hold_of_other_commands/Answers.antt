use Rattle.cg_driver_steps.proofs.Samples.{second_write_fails, stops_between, refuses_long, third_read_fails, clauses_hold}
use Rattle.cg_driver_steps.proofs.law.clauses_hold_of_other_commands.Goals as goal

pub returns-clause-second_write_fails : goal.returns-clause-second_write_fails
returns-clause-second_write_fails c = second_write_fails

pub returns-clause-stops_between : goal.returns-clause-stops_between
returns-clause-stops_between c = stops_between

pub returns-clause-refuses_long : goal.returns-clause-refuses_long
returns-clause-refuses_long c = refuses_long

pub returns-clause-third_read_fails : goal.returns-clause-third_read_fails
returns-clause-third_read_fails c = third_read_fails

pub returns-clause-clauses : goal.returns-clause-clauses
returns-clause-clauses c = clauses_hold
