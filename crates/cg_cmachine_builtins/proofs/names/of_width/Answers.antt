use Rattle.std.proofs.Common.{sym, ◌∙◌}
use Rattle.cg_cmachine_builtins.specs.Names.{actions}
use Rattle.cg_cmachine_builtins.proofs.Prefixes.{found_behind}
use Rattle.cg_cmachine_builtins.proofs.names.of_width.Goals as goal

pub returns-in-Some : goal.returns-in-Some
returns-in-Some c = c.array_action.ensures ∙ sym (found_behind c.args.prefix.now c.args.text.now c.in-Some.action.now (actions c.args.word) c.in-Some.ensures)
