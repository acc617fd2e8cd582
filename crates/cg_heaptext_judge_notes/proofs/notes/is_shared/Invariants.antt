use Rattle.std.proofs.Common.{◌≡◌, false, take}
use Rattle.std.specs.List.{list_any}
use Rattle.cg_base.specs.Types.{type_of}
use Rattle.cg_heaptext_judge_notes.specs.Notes.{is_shared_at}
use Rattle.cg_heaptext_judge_notes.proofs.notes.is_shared.Given as goal

abbrev pub invariant-loop-mention : goal.invariant-loop-mention
invariant-loop-mention l = list_any (is_shared_at l.entry (type_of l.ty)) (take l.mention-index l.mentions) ≡ false
