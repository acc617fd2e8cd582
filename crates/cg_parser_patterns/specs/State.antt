-- What a reader of the code stands for.
use Rattle.cg_parser_patterns.specs.Bounded.{Held}
use Rattle.cg_parser_patterns.specs.Stack.{stack_of, mode_of}
use Rattle.cg_parser_patterns.specs.declared.reader.PatternReader.{PatternReader}

-- its state
abbrev pub reader_state : PatternReader → Held
reader_state r = mode_of r.mode (stack_of r.stack)
