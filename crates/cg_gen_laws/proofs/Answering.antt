-- What is answered where the steps of `gen` go.
use Rattle.std.proofs.Common.{◌≡◌, inl, inr, ℕ, ◌≤◌, List, Some, subst}
use Rattle.cg_driver.specs.Commands.{Judges, script_of}
use Rattle.cg_driver.specs.Externs.{Extern}
use Rattle.cg_driver_steps.specs.declared.status.Status.{Status}
use Rattle.cg_driver_steps.specs.declared.status.Status.TheVariants.{Done}
use Rattle.cg_driver_steps.specs.Scripts.{IsSaid, Says, printed, unprinted, no_memory}
use Rattle.cg_driver_steps.specs.World.{World}
use Rattle.cg_driver_words.specs.Words.{gen}
use Rattle.cg_gen_laws.specs.Laws.{GenAnswers, GenIsNeverRefused}

said_done : GenIsNeverRefused → (table : Extern) (n : ℕ) → 1 ≤ n → n ≤ 4096 → (old new : World) (status : Status) (text : List ℕ)
    → Says Judges (script_of table (Some (gen n))) old new status text → status ≡ Done
said_done never table n some few old new status text said =
    let g = never table n some few old new said.0 said.1 in
    (subst (λ o. IsSaid (script_of table (Some (gen n))).line o status text) g.1 said.2).0

pub gen_answers : GenIsNeverRefused → GenAnswers
gen_answers never table n some few old new taken taken' before now status (printed text said took quiet) =
    inl (said_done never table n some few old new status text said)
gen_answers never table n some few old new taken taken' before now status (unprinted s text said k took rose is) = inr (inl (is, rose))
gen_answers never table n some few old new taken taken' before now status (no_memory left took quiet is) = inr (inr is)
