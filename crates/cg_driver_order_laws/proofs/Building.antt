-- `build` is a command that reads a file, judges what it holds and writes two files.
use Rattle.std.proofs.Common.{◌≡◌, ℕ, List, Option, Some, refl, subst}
use Rattle.cg_driver.proofs.Judging.{ruling}
use Rattle.cg_driver.specs.Commands.{Judges, script_of}
use Rattle.cg_driver.specs.Externs.{Extern}
use Rattle.cg_driver.specs.Found.{nothing}
use Rattle.cg_driver_order_def.specs.Order.{IsInOrder}
use Rattle.cg_driver_order_laws.proofs.Ordering.{in_order}
use Rattle.cg_driver_order_laws.specs.Laws.{BuildIsInOrder, build_pair}
use Rattle.cg_driver_steps.specs.declared.status.Status.{Status}
use Rattle.cg_driver_steps.specs.Scripts.{Answers}
use Rattle.cg_driver_steps.specs.World.{World}
use Rattle.cg_driver_words.specs.Words.{Command, build}

pub build_in_order : (table : Extern) → BuildIsInOrder table
build_in_order table file text certificate old new taken taken' before now status a =
    in_order Judges ruling (build_pair file text certificate) (script_of table (Some (build file text certificate))) refl
    old new taken taken' before now status a

-- the same of words that ask for it
pub asked_in_order : (table : Extern) (command : Option Command) (file text certificate : List ℕ) → command ≡ Some (build file text certificate)
    → (old new : World) (taken taken' : Option (List ℕ)) (before now : ℕ) (status : Status)
    → Answers Judges (script_of table command) old new taken taken' before now status
    → IsInOrder Judges (build_pair file text certificate) nothing old.held new.held before now status
asked_in_order table command file text certificate is old new taken taken' before now status a =
    build_in_order table file text certificate old new taken taken' before now status
    (subst (λ c. Answers Judges (script_of table c) old new taken taken' before now status) is a)
