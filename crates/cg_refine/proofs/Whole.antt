-- Terms are refined, by an induction on the fuel of evaluation.
use Rattle.std.proofs.Common.{zero, suc}
use Rattle.std.proofs.lemmas.Bool.{and_parts}
use Rattle.cg_base.specs.declared.kind.Sigil.TheVariants.{R, W}
use Rattle.cg_core.specs.Terms.{term}
use Rattle.cg_eval_def.specs.Evaluation.{with_fuel}
use Rattle.cg_heap.specs.Calls.{heap_of}
use Rattle.cg_refine.proofs.Nodes.{node_refines}
use Rattle.cg_refine.proofs.Sequence.{formed_refined, pay_refined}
use Rattle.cg_refine.specs.Laws.{NodesAreRefined, TermsAreRefined}
use Rattle.cg_refine_def.specs.Contexts.{context_foot}
use Rattle.cg_refine_def.specs.Refined.{is_clear_node}
use Rattle.cg_update.specs.Updates.{update}

-- one level
pub nodes_are_refined : NodesAreRefined
unfolding update
nodes_are_refined p among world known mentions table run calls runs called g us vs s holds fine d direction (term note shape) q n left =
    let b = and_parts (is_clear_node p.list among (term note shape)) _ n in
    pay_refined world s (context_foot (heap_of s.store) W g us) (context_foot (heap_of s.store) R g us) note.ty left _ _ (λ rest.
    formed_refined world p among known s (context_foot (heap_of s.store) W g us) (context_foot (heap_of s.store) R g us) note.ty _ _
    (node_refines p among world known mentions table run calls runs called shape note s g us vs (record { holds = holds; fine = fine }) d direction q b.0 b.1 rest))

-- any fuel
pub terms_are_refined : TermsAreRefined
unfolding with_fuel
terms_are_refined p among world known mentions table calls called zero g us vs s holds fine d direction core q n left = tt
terms_are_refined p among world known mentions table calls called (suc fuel) g us vs s holds fine d direction core q n left =
    nodes_are_refined p among world known mentions table (with_fuel table fuel) calls (terms_are_refined p among world known mentions table calls called fuel) (called fuel)
    g us vs s holds fine d direction core q n left
