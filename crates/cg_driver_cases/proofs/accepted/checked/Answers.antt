use Rattle.cg_driver_cases.proofs.accepted.checked.Goals as goal

pub check-requires : goal.check-requires
check-requires c = record { lawful = c.in_ok-kernel.ensures }
