use Rattle.std.proofs.Common.{◌≡◌, Some, slice_get, subst, ap, ◌∙◌}
use Rattle.cg_inst_types.specs.Layers.{Fits, made}
use Rattle.cg_inst_types.specs.declared.rows.Node.TheVariants as node
use Rattle.cg_inst_types.proofs.Listed.{at_front, at_rest, no_front}
use Rattle.cg_inst_types.proofs.layers.Layers.first.Goals as goal

-- the node has a type in front, and its parts are there
stands : (c : goal.In-Argument) → slice_get c.args.self.now.types c.args.at ≡ Some (made c.args.self.now.names c.args.self.now.types (node.Argument c.in-Argument.rest c.in-Argument.ty))
stands c = c.in_ok-rest.ensures.found ∙ ap (λ n. Some (made c.args.self.now.names c.args.self.now.types n)) c.in-Argument.is

fits : (c : goal.In-Argument) → Fits c.args.self.now.names c.args.self.now.types (node.Argument c.in-Argument.rest c.in-Argument.ty)
fits c = subst (Fits c.args.self.now.names c.args.self.now.types) c.in-Argument.is c.in_ok-rest.ensures.fits

pub returns-in-Argument-clause-found : goal.returns-in-Argument-clause-found
returns-in-Argument-clause-found c = at_front c.args.self.now.names c.args.self.now.types c.args.at c.in-Argument.rest c.in-Argument.ty (stands c) (fits c)

pub returns-in-Argument-clause-rest : goal.returns-in-Argument-clause-rest
returns-in-Argument-clause-rest c = at_rest c.args.self.now.names c.args.self.now.types c.args.at c.in-Argument.rest c.in-Argument.ty (stands c) (fits c) c.requires

pub returns-in_default : goal.returns-in_default
returns-in_default c = record {
  found = tt;
  within = tt;
  rest = tt;
  absent = no_front c.args.self.now.names c.args.self.now.types c.args.at c.in_ok-rest.field-0 c.in_default.not-Argument c.in_ok-rest.ensures.found;
}
