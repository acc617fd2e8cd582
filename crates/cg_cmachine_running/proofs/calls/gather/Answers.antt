use Rattle.std.proofs.Common.{◌∙◌, map, sym}
use Rattle.std.proofs.lemmas.List.{length-map}
use Rattle.cg_cmachine_layout.specs.Kinds.{layout_of}
use Rattle.cg_cmachine_values.specs.Values.{value_of}
use Rattle.cg_cmachine_running.proofs.Entries.{gathered_differs}
use Rattle.cg_cmachine_running.proofs.calls.gather.Goals as goal

pub returns-then-params-values : goal.returns-then-params-values
returns-then-params-values c =
    gathered_differs (map layout_of c.args.params.now) (map value_of c.args.values.now) (λ e.
    c.if-params-values.true (sym (length-map c.args.params.now layout_of) ∙ e ∙ length-map c.args.values.now value_of))
