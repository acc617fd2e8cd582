use Rattle.std.proofs.Common.{◌≡◌, ◌+◌, ◌-◌, Err, rules}
use Rattle.cg_cli.proofs.Turns.{failed_turn}
use Rattle.cg_cli.proofs.real.read_front.Goals as goal

pub returns-in_err-read_turn : goal.returns-in_err-read_turn
returns-in_err-read_turn g c =
    let told : c.from_residual.result ≡ Err c.in_err-read_turn.field-0.0 = search rules in
    rw told (failed_turn _ (c.args.most + 1 - c.len-in-turns.result) _ _ _ c.turns.bytes.items c.read_turn.new.bytes.items _ (search rules) (search rules) c.turns.invariant.1 c.in_err-read_turn.ensures)
