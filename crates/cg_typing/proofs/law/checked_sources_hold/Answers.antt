use Rattle.cg_typing.proofs.law.checked_sources_hold.Goals as goal

pub returns : goal.returns
returns c = λ checked. record { lawful = checked.lawful; kept = checked.kept }
