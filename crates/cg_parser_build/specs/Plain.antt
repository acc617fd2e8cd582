-- Expressions as whole trees, however deep they are.
use Rattle.cg_base.specs.declared.place.Place.{Place}
use Rattle.cg_surface.specs.Written.{Written, Writtens, no_types, and_type}
use Rattle.cg_surface.specs.Patterns.{Pattern}
use Rattle.cg_surface.specs.Patterns as patterns
use Rattle.cg_surface.specs.Exprs.{Expr, name, number, bool, unit, paren, sig, tuple, fields, con, con_of, app, member, put, unary, upcast, binary, lets, if_else, match_of, Exprs, no_exprs, and_expr, FieldExprs, no_fields, and_field, Binds, no_binds, and_bind, Alts, no_alts, and_alt, place_of}
use Rattle.cg_parser_build.specs.Builder.{Builder}

-- the place of the first token
abbrev pub first_place : Expr → Place
first_place (binary p o a b) = first_place a
first_place e = place_of e

-- expressions, lists of them, fields, bindings and alternatives as they are
abbrev pub trees : Builder Expr Exprs FieldExprs Binds Alts Writtens Written Pattern
trees = record {
  no_args = no_types;
  and_arg = and_type;
  name = name;
  number = number;
  bool = bool;
  unit = unit;
  paren = paren;
  sig = sig;
  no_exprs = no_exprs;
  and_expr = and_expr;
  tuple = tuple;
  no_fields = no_fields;
  and_field = and_field;
  fields = fields;
  con = con;
  con_of = con_of;
  app = λ f e. app (place_of f) f e;
  member = λ e at. member (place_of e) e at;
  put = λ e fs. put (place_of e) e fs;
  unary = unary;
  upcast = upcast;
  binary = binary;
  no_binds = no_binds;
  and_bind = and_bind;
  lets = lets;
  if_else = if_else;
  no_alts = no_alts;
  and_alt = and_alt;
  match_of = λ e seen choices. match_of (first_place e) e seen choices;
  pattern_unit = patterns.unit;
  pattern_name = patterns.name;
  pattern_any = patterns.any;
}
