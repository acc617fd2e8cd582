use Rattle.std.proofs.Common.{◌≡◌, drop}
use Rattle.std.specs.List.{flat_map}
use Rattle.std.specs.Option.{option_map}
use Rattle.cg_resolve_takes.specs.Missing.{if_absent}
use Rattle.cg_resolve_takes.specs.Views.{test_of}
use Rattle.cg_resolve_takes.proofs.types.check_names.Given as goal

abbrev pub invariant-loop-at : goal.invariant-loop-at
invariant-loop-at l = flat_map (if_absent (option_map test_of l.fields)) l.at-items ≡ flat_map (if_absent (option_map test_of l.fields)) (drop l.at-index l.at-items)
