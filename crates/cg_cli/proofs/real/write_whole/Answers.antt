use Rattle.std.proofs.Common.{◌-◌, ◌++◌, length, take, drop, sym, ap, subst, ◌∙◌, arith, length-take}
use lib.Seq.{take-add, take-take}
use Rattle.std.specs.Io.KnownBytes.{Appends}
use Rattle.std.proofs.KnownBytes.{Appends-trans}
use Rattle.cg_cli.proofs.real.write_whole.Goals as goal

pub loop-at-preserved : goal.loop-at-preserved
loop-at-preserved g c =
    let at = c.loop-at.at in
    let count = c.in-Ok.count in
    let all = c.args.bytes.now in
    let fits = c.in-Ok.ensures.bound in
    let long = length-take (length all - at) (drop at all) in
    let joined = ap (λ l. take at all ++ l) (take-take count (length all - at) (drop at all) (omega arith)) ∙ sym (take-add at count all) in
    (omega arith, subst (Appends _ _) joined (Appends-trans _ _ _ _ _ c.loop-at.invariant.1 c.in-Ok.ensures.bytes))
