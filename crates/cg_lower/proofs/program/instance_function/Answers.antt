use Rattle.std.proofs.Common.{sym}
use Rattle.cg_lower_nodes.specs.Kept.{whole_of}
use Rattle.cg_lower.proofs.ProgramSteps.{few_past, few_there, function_past, function_there, slice_at, slice_past}
use Rattle.cg_lower.proofs.program.instance_function.Goals as goal

pub returns-in_ok-lower_function-in-Some-clause-function : goal.returns-in_ok-lower_function-in-Some-clause-function
returns-in_ok-lower_function-in-Some-clause-function c =
    function_there (whole_of c.args.state.now) c.args.mono.now c.requires.list c.as_slice.result.now c.as_slice.ensures c.args.at c.in-Some.copy.now _
    (slice_at c.as_slice.result.now c.args.at c.in-Some.copy.now (sym c.in-Some.ensures.lookup.0) c.in-Some.ensures.lookup.1) c.in_ok-lower_function-in-Some.ensures.function

pub returns-in_ok-lower_function-in-Some-clause-few : goal.returns-in_ok-lower_function-in-Some-clause-few
returns-in_ok-lower_function-in-Some-clause-few c =
    few_there (whole_of c.args.state.now) c.args.mono.now c.requires.list c.as_slice.result.now c.as_slice.ensures c.args.at c.in-Some.copy.now
    (slice_at c.as_slice.result.now c.args.at c.in-Some.copy.now (sym c.in-Some.ensures.lookup.0) c.in-Some.ensures.lookup.1) c.in_ok-lower_function-in-Some.ensures.few

pub returns-in-None-clause-function : goal.returns-in-None-clause-function
returns-in-None-clause-function c =
    function_past (whole_of c.args.state.now) c.args.mono.now c.requires.list c.as_slice.result.now c.as_slice.ensures c.args.at (slice_past c.as_slice.result.now c.args.at (sym c.in-None.ensures.lookup.0))

pub returns-in-None-clause-few : goal.returns-in-None-clause-few
returns-in-None-clause-few c =
    few_past (whole_of c.args.state.now) c.args.mono.now c.requires.list c.as_slice.result.now c.as_slice.ensures c.args.at (slice_past c.as_slice.result.now c.args.at (sym c.in-None.ensures.lookup.0))
