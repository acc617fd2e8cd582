-- What a heap file without faults holds represents the argument's value.
use Rattle.std.proofs.Common.{sym}
use Rattle.cg_base.specs.declared.kind.Sigil.TheVariants.{R, W}
use Rattle.cg_heaptext_def.specs.Footprints.{held_in}
use Rattle.cg_heaptext_def.specs.HeapText.{cells_of, placed, read_events}
use Rattle.cg_heaptext_def.specs.Trees.{bare, first}
use Rattle.cg_heaptext_laws.proofs.Apart.{apart}
use Rattle.cg_heaptext_laws.proofs.Faultless.{all_fine}
use Rattle.cg_heaptext_laws.proofs.Holding.{stands}
use Rattle.cg_heaptext_laws.specs.Laws.{TextsRepresent}

pub texts_represent : TextsRepresent
texts_represent world h t lacks no_large =
    let s = stands world (cells_of h) (held_in (placed h t)) t (first h.argument) (bare h.argument) (all_fine h t lacks.1 lacks.2 lacks.3 no_large) in
    record { holds = s.holds; are_writes = λ q. sym (s.reaches W q); are_reads = λ q. sym (s.reaches R q); apart = apart (read_events h t) lacks.4 }
