use Rattle.std.proofs.Common.{◌≡◌, ◌++◌, length, take}
use Rattle.cg_resolve_declared.specs.Tables.{texts}
use Rattle.cg_resolve_names.specs.Scopes.{SameNames}
use Rattle.cg_resolve_names.proofs.scope.Scope.enter_all.Given as goal

abbrev pub invariant-loop-name : goal.invariant-loop-name
invariant-loop-name l = SameNames l.self (texts (take l.name-index l.names) ++ l.initial.self) × (take (length l.initial.self) l.self ≡ l.initial.self)
