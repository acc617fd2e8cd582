use Rattle.std.specs.Io.KnownBytes.{Keeps}
use Rattle.cg_cli.proofs.real.read_some.Given as goal

-- calls that were interrupted consumed nothing
abbrev pub invariant-tries : goal.invariant-tries
invariant-tries g l = Keeps (g.R.Read.remaining l.initial.reader) (g.R.Read.remaining l.reader)
