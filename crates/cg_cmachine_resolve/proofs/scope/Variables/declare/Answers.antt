use Rattle.std.proofs.Common.{◌≡◌, arith, length, refl, subst}
use Rattle.cg_cmachine_resolve.specs.Indexes.{HasJoined}
use Rattle.cg_cmachine_resolve.proofs.Queues.{on_ok_three}
use Rattle.cg_cmachine_resolve.proofs.Variables.{declares}
use Rattle.cg_cmachine_resolve.proofs.scope.Variables.declare.Goals as goal

pub returns : goal.returns
returns c =
    let here : c.len.result ≡ length c.args.self.now.list.items = omega (arith, c.len.ensures, c.args.self.now.list.ok.0) in
    on_ok_three c.push.result c.push.ensures.names c.push.ensures.list c.push.ensures.slots
    (declares c.args.structs.now c.args.decl.now c.bytes.result.now c.args.self.now (record { list = c.args.self.now.list; names = c.add_name.new.table; slots = c.args.self.now.slots }) c.push.new.self c.bytes.ensures
    (subst (λ n. HasJoined c.bytes.result.now n c.args.self.now.names c.add_name.new.table) here c.in_ok-add_name.ensures) refl refl)
