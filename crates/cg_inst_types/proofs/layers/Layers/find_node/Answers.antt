use Rattle.std.proofs.Common.{sym, subst}
use Rattle.std.specs.Map.{keys_of}
use Rattle.cg_inst_types.specs.Places.{IsIn, Locates}
use Rattle.cg_inst_types.specs.Layers.{Fits, made}
use Rattle.cg_inst_types.proofs.Sound.{type_absent}
use Rattle.cg_inst_types.proofs.layers.Layers.find_node.Goals as goal

pub returns-in-None-clause-place : goal.returns-in-None-clause-place
returns-in-None-clause-place c =
    let requires = subst (λ s. Fits s.names s.types c.args.node) (sym c.self.view_is) c.requires in
    subst (λ s. IsIn s.types (made s.names s.types c.args.node) → ⊥) c.self.view_is
    (type_absent c.self.inside.names c.self.inside.rows c.self.invariant c.args.node requires (subst (Locates (keys_of c.self.inside.rows) c.args.node) c.in-None.is c.find.ensures))
