-- The machine over items up to the depth of the language, past which there is none.
use Rattle.std.specs.Prelude.{ℕ, List, [], ◌∷◌, ◌++◌, Option, Some, None, nat_le, if◌then◌else◌}
use Rattle.cg_surface.specs.Written.{Written}
use Rattle.cg_surface.specs.Patterns.{Pattern}
use Rattle.cg_surface.specs.Exprs.{Expr}
use Rattle.cg_surface.specs.Programs.{Entry, synonym, abstract, signature, define, entry_depth, program_depth}
use Rattle.cg_parser_symbols.specs.Follows.{option_map}
use Rattle.cg_parser_def.specs.Machine.{Builder}

-- no program has more depth
abbrev pub depth_limit : ℕ
depth_limit = 1024

-- an item, where it is no deeper than allowed; and items, where none is deeper
abbrev pub within : Entry → Option Entry
within i = if nat_le (entry_depth i) depth_limit then Some i else None

abbrev pub within_program : List Entry → Option (List Entry)
within_program p = if nat_le (program_depth p) depth_limit then Some p else None

-- an item more, where none is too deep
abbrev pub added : Option (List Entry) → Option Entry → Option (List Entry)
added None i = None
added (Some done) None = None
added (Some done) (Some i) = Some (done ++ i ∷ [])

-- an item of two parts
abbrev pub both : (Pattern → Expr → Entry) → Option Pattern → Option Expr → Option Entry
both f None e = None
both f (Some x) None = None
both f (Some x) (Some e) = Some (f x e)

-- lists of items, where they are no deeper than allowed
abbrev pub bounded : Builder (Option Written) (Option Pattern) (Option Expr) (Option (List Entry))
bounded = record {
  none = Some [];
  synonym = λ done at params t. added done (option_map (synonym at params) t);
  abstract = λ done at params. added done (Some (abstract at params));
  signature = λ done at vs ps t. added done (option_map (signature at vs ps) t);
  define = λ done at x e. added done (both (define at) x e);
}
