use Rattle.std.proofs.Common.{map, sym, subst, ◌∙◌, ap, length, ◌≤◌}
use Rattle.std.proofs.lemmas.List.{length-map}
use Rattle.cg_base.specs.Types.{type_of}
use Rattle.cg_lower_tables.proofs.Hosts.{element_long}
use Rattle.cg_lower_tables.proofs.host.element.Goals as goal

pub returns-in_default-3 : goal.returns-in_default-3
returns-in_default-3 c =
    sym (element_long (map type_of c.args.args.now) (subst (λ n. 2 ≤ n) (ap length c.as_slice.ensures ∙ sym (length-map c.args.args.now type_of)) c.in_default.len_at_least))
