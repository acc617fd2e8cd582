use Rattle.std.proofs.Common.{subst, sym}
use Rattle.cg_cmachine_resolve.specs.Variables.{IsFirst, scope_at, structs_at}
use Rattle.cg_cmachine_resolve.proofs.Leading.{site_local, site_no_part, site_small}
use Rattle.cg_cmachine_resolve.proofs.setting.Setting.within.Goals as goal

pub returns-in-None : goal.returns-in-None
returns-in-None c =
    rw (← c.self.view_is)
    (site_no_part c.self.inside.named.now c.self.inside.structs.now c.self.inside.function.now c.self.inside.variables.now c.self.invariant c.args.path.now c.args.variable.now (subst (λ s. IsFirst (structs_at s) c.args.path.now.base (scope_at s) c.args.variable.now) (sym c.self.view_is) c.requires.variable) c.as_slice.result.now c.requires.plain c.as_slice.ensures c.in-None.ensures)

pub local-requires : goal.local-requires
local-requires c = record { within = site_small c.self.inside.named.now c.self.inside.structs.now c.self.inside.function.now c.self.inside.variables.now c.self.invariant c.args.path.now c.args.variable.now (subst (λ s. IsFirst (structs_at s) c.args.path.now.base (scope_at s) c.args.variable.now) (sym c.self.view_is) c.requires.variable) c.as_slice.result.now c.in-Some.part c.in-Some.ensures }

pub returns-in-Some : goal.returns-in-Some
returns-in-Some c =
    rw (c.local.ensures, ← c.self.view_is)
    (site_local c.self.inside.named.now c.self.inside.structs.now c.self.inside.function.now c.self.inside.variables.now c.self.invariant c.args.path.now c.args.variable.now (subst (λ s. IsFirst (structs_at s) c.args.path.now.base (scope_at s) c.args.variable.now) (sym c.self.view_is) c.requires.variable) c.as_slice.result.now c.in-Some.part c.requires.plain c.as_slice.ensures c.in-Some.ensures)
