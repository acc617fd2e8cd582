-- The reader of the code as the machine over bounded trees.
use Rattle.std.specs.Prelude.{List, [], ◌∷◌, Bool, true, false, Option, Some, None, nat_le, if◌then◌else◌}
use Rattle.cg_surface.specs.Written.{Written, written_of}
use Rattle.cg_parser_types.specs.Bounded.{Held, bounded}
use Rattle.cg_parser_types.specs.Machine as machine
use Rattle.cg_parser_types.specs.Stack.{Open, stack_of, mode_of}
use Rattle.cg_parser_types.specs.declared.reader.TypeEnd.{TypeEnd}
use Rattle.cg_parser_types.specs.declared.reader.TypeEnd.TheVariants.{Unfinished, TooDeep, Whole}
use Rattle.cg_parser_types.specs.declared.reader.TypeReader.{TypeReader}

-- what ends there: no type, one that is too deep, or a type
abbrev pub end_of : TypeEnd → Option (Option Written)
end_of Unfinished = None
end_of TooDeep = Some None
end_of (Whole b) = Some (Some (written_of b.tree))

-- where the reader stands
unfoldable pub reader_state : TypeReader → Held
reader_state r = mode_of r.mode (stack_of r.stack)

-- whether each frame is closed without a token of its own
abbrev pub all_close : List Open → Bool
all_close [] = true
all_close (f ∷ fs) = if nat_le (machine.closes bounded f) 3 then all_close fs else false
