-- What the reader's own values stand for.
use Rattle.std.specs.Prelude.{Option, Some, None, map}
use Rattle.cg_surface.specs.Written.{Written, written_of, field_of, alt_of, Writtens, to_types, WrittenFields, to_fields, WrittenAlts, to_alts}
use Rattle.cg_parser_types.specs.declared.built.BuiltType.{BuiltType}
use Rattle.cg_parser_types.specs.declared.built.BuiltTypes.{BuiltTypes}
use Rattle.cg_parser_types.specs.declared.built.BuiltFields.{BuiltFields}
use Rattle.cg_parser_types.specs.declared.built.BuiltAlts.{BuiltAlts}

-- a type, and a list, where there is one
abbrev pub view_of : Option BuiltType → Option Written
view_of None = None
view_of (Some b) = Some (written_of b.tree)

abbrev pub types_view : Option BuiltTypes → Option Writtens
types_view None = None
types_view (Some b) = Some (to_types (map written_of b.items))

abbrev pub fields_view : Option BuiltFields → Option WrittenFields
fields_view None = None
fields_view (Some b) = Some (to_fields (map field_of b.items))

abbrev pub alts_view : Option BuiltAlts → Option WrittenAlts
alts_view None = None
alts_view (Some b) = Some (to_alts (map alt_of b.items))
