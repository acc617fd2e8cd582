use Rattle.std.proofs.Common.{arith}
use Rattle.cg_base.proofs.Truths.{second}
use Rattle.cg_core.proofs.FormGroups.{is_rest, no_data}
use Rattle.cg_mono.proofs.cores.+specialise.Goals as goal

pub specialise-in_data-requires : goal.specialise-in_data-requires
specialise-in_data-requires t c = let d = c.in_default in (omega arith, is_rest c.args.core.now.form d.not-Op d.not-App d.not-Let d.not-LetBang d.not-If d.not-Cast d.not-Annot)

pub in_data-in_leaf-requires : goal.in_data-in_leaf-requires
in_data-in_leaf-requires t c =
    let d = c.in_default in second _ _ c.requires (no_data c.args.core.now.form d.not-Con d.not-Case d.not-Esac d.not-Struct d.not-Member d.not-Take d.not-Put)
