-- What the faults of parts are as faults of a heap file (docs/LANGUAGE.md, "Heap files").
use Rattle.cg_heaptext_index.specs.declared.fault.AddressFault.{AddressFault}
use Rattle.cg_heaptext_index.specs.declared.fault.AddressFault.TheVariants as address
use Rattle.cg_heaptext_judge_notes.specs.declared.fault.JudgeFault.{JudgeFault}
use Rattle.cg_heaptext_judge_notes.specs.declared.fault.JudgeFault.TheVariants as judge
use Rattle.cg_heaptext_parser.specs.declared.fault.TextFault.{TextFault}
use Rattle.cg_heaptext_parser.specs.declared.fault.TextFault.TheVariants as text
use Rattle.cg_heaptext.specs.declared.fault.HeapFault.{HeapFault}
use Rattle.cg_heaptext.specs.declared.fault.HeapFault.TheVariants.{H1, H2, H4, Memory}

abbrev pub of_text : TextFault → HeapFault
of_text (text.Text place) = H1 place.line
of_text text.Memory = Memory

abbrev pub of_address : AddressFault → HeapFault
of_address (address.Second place) = H2 place.line
of_address address.Memory = Memory

abbrev pub of_judge : JudgeFault → HeapFault
of_judge (judge.Misfit place) = H4 place.line
of_judge judge.Memory = Memory
