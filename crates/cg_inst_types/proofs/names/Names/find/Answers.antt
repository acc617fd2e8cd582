use Rattle.std.proofs.Common.{Some, None, sym, subst, ◌∙◌}
use Rattle.std.specs.Cmp.Lexicographic.{bytes_decides, pointwise}
use Rattle.std.specs.Prelude.{nat_eq}
use Rattle.cg_inst_types.specs.Places.{Locates}
use Rattle.cg_inst_types.proofs.Searches.{position_locates}
use Rattle.cg_inst_types.proofs.names.Names.find.Goals as goal

pub returns-in-Some : goal.returns-in-Some
returns-in-Some c =
    subst (λ names. Locates names c.args.bytes.now (Some c.in-Some.at)) c.self.view_is
    (position_locates (λ bytes. bytes.items) c.args.bytes.now (λ k. pointwise nat_eq c.args.bytes.now k.items)
    (λ k p. sym ((bytes_decides c.args.bytes.now k.items).0 p)) (λ k p. (bytes_decides c.args.bytes.now k.items).1 (sym p))
    c.self.inside.names.keys (Some c.in-Some.at) (sym c.in-Some.is ∙ c.get_index_of.ensures.index))

pub returns-in-None : goal.returns-in-None
returns-in-None c =
    subst (λ names. Locates names c.args.bytes.now None) c.self.view_is
    (position_locates (λ bytes. bytes.items) c.args.bytes.now (λ k. pointwise nat_eq c.args.bytes.now k.items)
    (λ k p. sym ((bytes_decides c.args.bytes.now k.items).0 p)) (λ k p. (bytes_decides c.args.bytes.now k.items).1 (sym p))
    c.self.inside.names.keys None (sym c.in-None.is ∙ c.get_index_of.ensures.index))
