use Rattle.cg_check_tests.proofs.sources.checked_source.Goals as goal

pub check-requires : goal.check-requires
check-requires c = record { lawful = c.in_ok-kernel.ensures }
