use Rattle.std.proofs.Common.{arith}
use Rattle.cg_cmachine_resolve.proofs.Leading.{site_first, site_unnamed, site_within}
use Rattle.cg_cmachine_resolve.proofs.setting.Setting.place.Goals as goal

pub returns-in_default : goal.returns-in_default
returns-in_default c =
    rw (← c.self.view_is) (site_unnamed c.self.inside.named.now c.self.inside.structs.now c.self.inside.function.now c.self.inside.variables.now c.self.invariant c.args.path.now c.place_of.result c.place_of.ensures c.in_default.is)

pub index-variable-requires : goal.index-variable-requires
index-variable-requires c =
    let within = site_within c.self.inside.named.now c.self.inside.structs.now c.self.inside.function.now c.self.inside.variables.now c.self.invariant c.args.path.now c.place_of.result c.place_of.ensures c.in-Some.at c.in-Some.is in
    omega (arith, within, c.self.inside.variables.now.list.ok.0)

pub behind-requires : goal.behind-requires
behind-requires c =
    record {
      variable = rw (← c.self.view_is) (site_first c.self.inside.named.now c.self.inside.structs.now c.self.inside.function.now c.self.inside.variables.now c.self.invariant c.args.path.now c.place_of.result c.place_of.ensures c.in-Some.at c.in-Some.is c.index-variable.result.now c.index-variable.ensures);
      arrow = c.if-path.true;
    }

pub within-requires : goal.within-requires
within-requires c =
    record {
      variable = rw (← c.self.view_is) (site_first c.self.inside.named.now c.self.inside.structs.now c.self.inside.function.now c.self.inside.variables.now c.self.invariant c.args.path.now c.place_of.result c.place_of.ensures c.in-Some.at c.in-Some.is c.index-variable.result.now c.index-variable.ensures);
      plain = c.if-path.false;
    }
