use Rattle.std.proofs.Common.{◌≡◌, sym, subst, ap, ◌∙◌, Some}
use Rattle.cg_inst_types.specs.Places.{IsIn}
use Rattle.cg_inst_types.specs.Layers.{made}
use Rattle.std.proofs.Common.{◌⊎◌, inl, inr, true≢false}
use Rattle.cg_kinds.specs.Kinds.{bang}
use Rattle.cg_kinds.proofs.Laws.{bang_twice}
use Rattle.cg_inst_types.proofs.Layered.{made_same, made_after}
use Rattle.cg_inst_types.proofs.NodeEquality.{node_eq_complete}
use Rattle.cg_inst_types.proofs.Sound.{placed}
use Rattle.cg_inst_types.proofs.layers.Layers.place.Goals as goal

pub place_observed-requires-clause-observed : goal.place_observed-requires-clause-observed
place_observed-requires-clause-observed c =
    ap bang c.observed_node-observed.ensures.observed
    ∙ bang_twice (made c.args.self.now.names c.args.self.now.types c.args.node)
    ∙ sym c.observed_node-observed.ensures.observed

pub add-requires-clause-absent : goal.add-requires-clause-absent
add-requires-clause-absent c at =
    by (c.in_ok-bang.ensures.others (made c.args.self.now.names c.args.self.now.types c.args.node) (subst (IsIn c.place_observed.new.self.types) (made_after c.args.self.now.names c.place_observed.new.self.names c.args.self.now.types c.place_observed.new.self.types c.in_ok-bang.ensures.names c.in_ok-bang.ensures.kept c.args.node c.requires) at))
  where
    by : IsIn c.args.self.now.types (made c.args.self.now.names c.args.self.now.types c.args.node)
        ⊎ (made c.args.self.now.names c.args.self.now.types c.args.node ≡ made c.args.self.now.names c.args.self.now.types c.observed_node-observed.result) → ⊥
    by (inl p) = c.in_default.ensures.place p
    by (inr e) =
        let same = made_same c.args.self.now.names c.args.self.now.types c.find_node.ensures.names_once c.find_node.ensures.once
        c.args.node c.observed_node-observed.result c.requires c.observed_node-observed.ensures.fits e in
        true≢false (sym (node_eq_complete c.observed_node-observed.result c.args.node (sym same)) ∙ sym c.eq.ensures ∙ c.if-eq.false)

pub add-requires-clause-observed : goal.add-requires-clause-observed
add-requires-clause-observed c = c.in_ok-bang.ensures.place ∙ ap Some (c.observed_node-observed.ensures.observed ∙ ap bang (sym (made_after c.args.self.now.names c.place_observed.new.self.names c.args.self.now.types c.place_observed.new.self.types c.in_ok-bang.ensures.names c.in_ok-bang.ensures.kept c.args.node c.requires)))

pub returns-clause-place : goal.returns-clause-place
returns-clause-place c = placed c.add.result c.place_observed.new.self.types c.add.new.self.types _ _ c.add.ensures.place c.add.ensures.types (made_after c.args.self.now.names c.place_observed.new.self.names c.args.self.now.types c.place_observed.new.self.types c.in_ok-bang.ensures.names c.in_ok-bang.ensures.kept c.args.node c.requires)
