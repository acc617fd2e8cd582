use Rattle.std.proofs.Common.{◌≡◌, sym, subst}
use Rattle.cg_inst_types.specs.Places.{type_at, name_at}
use Rattle.cg_inst_types.specs.Layers.{Fits, made}
use Rattle.cg_typing.specs.Parts.{nodes}
use Rattle.cg_inst_types.specs.Layers.{capped}
use Rattle.cg_inst_types.proofs.Observed.{size_argument, size_part}
use Rattle.cg_inst_types.proofs.layers.Layers.size.Goals as goal

pub returns-in-Argument : goal.returns-in-Argument
returns-in-Argument c =
    let s = c.args.self.now in
    let fits = subst (Fits s.names s.types) c.in-Argument.is c.requires in
    subst (λ n. c.saturating_add-in-Argument.result ≡ capped (nodes (made s.names s.types n))) (sym c.in-Argument.is)
    (size_argument (type_at s.types c.in-Argument.rest) (type_at s.types c.in-Argument.ty) fits.2 c.nodes-in-Argument.result c.nodes-in-Argument-2.result
    c.saturating_add-in-Argument.result c.nodes-in-Argument.ensures c.nodes-in-Argument-2.ensures c.saturating_add-in-Argument.ensures)

pub returns-in-Part : goal.returns-in-Part
returns-in-Part c =
    let s = c.args.self.now in
    let fits = subst (Fits s.names s.types) c.in-Part.is c.requires in
    subst (λ n. c.saturating_add-in-Part.result ≡ capped (nodes (made s.names s.types n))) (sym c.in-Part.is)
    (size_part (type_at s.types c.in-Part.rest) (name_at s.names c.in-Part.name) (type_at s.types c.in-Part.ty) c.in-Part.taken fits.2
    c.nodes-in-Part.result c.nodes-in-Part-2.result c.saturating_add-in-Part.result c.nodes-in-Part.ensures c.nodes-in-Part-2.ensures c.saturating_add-in-Part.ensures)
