use Rattle.std.proofs.Common.{subst, sym}
use Rattle.cg_cmachine_resolve.specs.Variables.{IsFirst, scope_at, structs_at}
use Rattle.cg_cmachine_resolve.proofs.Leading.{no_pointer, site_behind}
use Rattle.cg_cmachine_resolve.proofs.setting.Setting.behind.Goals as goal

pub returns-in_default : goal.returns-in_default
returns-in_default c =
    no_pointer (structs_at c.args.self.now) (scope_at c.args.self.now) c.args.path.now c.args.variable.now c.requires.variable c.in_default.not-Pointer c.requires.arrow

pub returns : goal.returns
returns c =
    rw (← c.self.view_is)
    (site_behind c.self.inside.named.now c.self.inside.structs.now c.self.inside.function.now c.self.inside.variables.now c.self.invariant c.args.path.now c.args.variable.now (subst (λ s. IsFirst (structs_at s) c.args.path.now.base (scope_at s) c.args.variable.now) (sym c.self.view_is) c.requires.variable) c.in-Pointer.name c.part_of-part.result c.as_slice.result.now c.in-Pointer.is c.requires.arrow c.as_slice.ensures
    c.part_of-part.ensures)
