-- What the reader's own values stand for.
use Rattle.std.specs.Prelude.{Option, Some, None, map}
use Rattle.cg_surface.specs.Written.{Written, Writtens, written_of, to_types}
use Rattle.cg_surface.specs.Patterns.{Pattern, pattern_of}
use Rattle.cg_surface.specs.Exprs.{Expr, Exprs, FieldExprs, Binds, Alts, expr_of, field_of, bind_of, alt_of, to_exprs, to_fields, to_binds, to_alts}
use Rattle.cg_parser_types.specs.declared.built.BuiltType.{BuiltType}
use Rattle.cg_parser_patterns.specs.declared.built.BuiltPattern.{BuiltPattern}
use Rattle.cg_parser_build.specs.declared.built.BuiltExpr.{BuiltExpr}
use Rattle.cg_parser_build.specs.declared.built.BuiltExprs.{BuiltExprs}
use Rattle.cg_parser_build.specs.declared.built.BuiltFields.{BuiltFields}
use Rattle.cg_parser_build.specs.declared.built.BuiltBinds.{BuiltBinds}
use Rattle.cg_parser_build.specs.declared.built.BuiltAlts.{BuiltAlts}
use Rattle.cg_parser_build.specs.declared.built.BuiltArgs.{BuiltArgs}

-- an expression, where there is one
abbrev pub view_of : Option BuiltExpr → Option Expr
view_of None = None
view_of (Some b) = Some (expr_of b.tree)

-- a type, and a pattern
abbrev pub type_view : Option BuiltType → Option Written
type_view None = None
type_view (Some b) = Some (written_of b.tree)

abbrev pub pattern_view : Option BuiltPattern → Option Pattern
pattern_view None = None
pattern_view (Some b) = Some (pattern_of b.tree)

-- type arguments, expressions, fields, bindings, and alternatives
abbrev pub args_view : Option BuiltArgs → Option Writtens
args_view None = None
args_view (Some b) = Some (to_types (map written_of b.items))

abbrev pub exprs_view : Option BuiltExprs → Option Exprs
exprs_view None = None
exprs_view (Some b) = Some (to_exprs (map expr_of b.items))

abbrev pub fields_view : Option BuiltFields → Option FieldExprs
fields_view None = None
fields_view (Some b) = Some (to_fields (map field_of b.items))

abbrev pub binds_view : Option BuiltBinds → Option Binds
binds_view None = None
binds_view (Some b) = Some (to_binds (map bind_of b.items))

abbrev pub alts_view : Option BuiltAlts → Option Alts
alts_view None = None
alts_view (Some b) = Some (to_alts (map alt_of b.items))
