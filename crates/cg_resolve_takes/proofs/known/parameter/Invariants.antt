use Rattle.std.proofs.Common.{◌≡◌, ◌+◌, map, drop}
use Rattle.cg_resolve_def.specs.Expand.{position_of}
use Rattle.cg_resolve_takes.proofs.known.parameter.Given as goal

abbrev pub invariant-loop-param : goal.invariant-loop-param
invariant-loop-param l = (l.at ≡ l.param-index) × (position_of (map (λ at. at.name) l.params) l.name ≡ l.at + position_of (map (λ at. at.name) (drop l.param-index l.params)) l.name)
