use Rattle.std.proofs.Common.{Bor, ◌∷◌, ap, refl, ◌++◌, ◌∙◌, map}
use Rattle.std.specs.List.{flat_map}
use Rattle.cg_base.specs.Types.{type_of}
use Rattle.cg_core.specs.declared.term.Term.{Term}
use Rattle.cg_core.specs.declared.term.Typed.{Typed}
use Rattle.cg_core.specs.Kernels.{the_core}
use Rattle.cg_typing.specs.Rules.{type_at}
use Rattle.cg_typing.specs.Kept.{maybe_core}
use Rattle.cg_lower.specs.Collected.{called_at, nodes_maybe, parts_of_arrows, turned_by}
use Rattle.cg_lower.proofs.CollectSteps.{grown_as, grown_both, grown_instance}
use Rattle.cg_lower.proofs.gather.Collected.add_copy.Goals as goal

pub returns : goal.returns
returns c =
    let first = grown_instance _ _ _ _ _ refl c.in_ok-push.ensures.arrows c.in_ok-push.ensures.list in
    let second = grown_both _ _ _ _ _ _ _ _ _ _ _ _ first c.in_ok-add_ends.ensures in
    let third = grown_both _ _ _ _ _ _ _ _ _ _ _ _ second c.in_ok-add_turns.ensures in
    let last = grown_both _ _ _ _ _ _ _ _ _ _ _ _ third c.in_ok-add_nodes.ensures in
    let nodes = ap (map (λ (n : Bor (Term Typed)). the_core n.now)) c.as_slice.ensures.value ∙ c.in_ok-nodes.ensures ∙ ap (λ o. nodes_maybe (maybe_core o)) c.core.ensures in
    let before = turned_by c.args.copy.now.instance.fun (type_of c.args.copy.now.ty) in
    grown_as _ _ _ _ _ _ _ _ _ _
    (ap (λ ns. parts_of_arrows (type_of c.args.copy.now.ty ∷ before) ++ map type_at ns) nodes)
    (ap (λ ns. before ++ flat_map called_at ns) nodes) refl last
