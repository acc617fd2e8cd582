-- What stands among items in the code, as the machine's.
use Rattle.std.specs.Prelude.{List, Option, Some, None}
use Rattle.cg_surface.specs.declared.pattern.Pat.{Pat}
use Rattle.cg_surface.specs.declared.program.Item.{Item}
use Rattle.cg_surface.specs.declared.program.Program.{Program}
use Rattle.cg_surface.specs.Written.{Written}
use Rattle.cg_surface.specs.Patterns.{Pattern, pattern_of}
use Rattle.cg_surface.specs.Programs.{Entry, entry_of, program_of}
use Rattle.cg_parser_types.specs.States as type_state
use Rattle.cg_parser_types.specs.declared.reader.TypeEnd.{TypeEnd}
use Rattle.cg_parser_def.specs.Held.{Held, Read}
use Rattle.cg_parser_def.specs.Machine as machine
use Rattle.cg_parser_items.specs.declared.phase.Phase.{Phase}
use Rattle.cg_parser_items.specs.declared.phase.Phase.TheVariants.{Between, AfterType, InParams, InSynonym, AfterName, AfterColon, AfterAll, WantVar, AfterVar, WantKinds, AfterKinds, WantDot, InSignature, InParam, InBody, Failed}

-- how a type ends
abbrev pub type_end : TypeEnd → Option (Option Written)
type_end = type_state.end_of

-- an item, and a parameter, where they aren't too deep
abbrev pub item_of : Option Item → Option Entry
item_of None = None
item_of (Some i) = Some (entry_of i)

abbrev pub pat_of : Option Pat → Option Pattern
pat_of None = None
pat_of (Some x) = Some (pattern_of x)

-- the items, where none is too deep
abbrev pub items_of : Option Program → Option (List Entry)
items_of None = None
items_of (Some p) = Some (program_of p)

-- where among items the reader stands, with the items before and the readers of the parts
abbrev pub state_of : Option (List Entry) → Phase → Read → Held
state_of before Between r = machine.Between before
state_of before AfterType r = machine.AfterType before
state_of before (InParams at params) r = machine.InParams before at params
state_of before (InSynonym at params) r = machine.InSynonym before at params r.types
state_of before (AfterName at) r = machine.AfterName before at
state_of before (AfterColon at) r = machine.AfterColon before at
state_of before (AfterAll at) r = machine.AfterAll before at
state_of before (WantVar at vars) r = machine.WantVar before at vars.bounds vars.places
state_of before (AfterVar at vars n q) r = machine.AfterVar before at vars.bounds vars.places n q
state_of before (WantKinds at vars n q) r = machine.WantKinds before at vars.bounds vars.places n q
state_of before (AfterKinds at vars v q) r = machine.AfterKinds before at vars.bounds vars.places v q
state_of before (WantDot at vars) r = machine.WantDot before at vars.bounds vars.places
state_of before (InSignature at vars) r = machine.InSignature before at vars.bounds vars.places r.types
state_of before (InParam at) r = machine.InParam before at r.patterns
state_of before (InBody at x) r = machine.InBody before at (pat_of x) r.exprs
state_of before Failed r = machine.Failed
