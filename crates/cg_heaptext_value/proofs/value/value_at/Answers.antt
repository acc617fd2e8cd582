use Rattle.cg_heaptext_value.proofs.value.value_at.Goals as goal

pub returns : goal.returns
returns c = λ h is positions v s. c.read.ensures h (record { entries = is.entries; positions = positions }) v s
