-- A type that the tokens spell is shaped. Of a reading `r` of parts, one behind the other, `r.0` are the tokens behind the
-- first part, `r.1` is how that is read, and `r.2` how the others are.
use Rattle.std.proofs.Common.{◌≡◌, ◌+◌, ◌≤◌, List, [], ◌∷◌, length, ⊎_elim, sym, ap, ◌∙◌, subst as carry, arith, length-append}
use Rattle.cg_core.specs.declared.at.At.{At}
use Rattle.cg_surface.specs.Written.{Written, Writtens, WrittenFields, WrittenAlts}
use Rattle.cg_surface.specs.Written as types
use Rattle.cg_parser_symbols.specs.Symbols.{Seen}
use Rattle.cg_parser_types.specs.Grammar.{AltsBefore, AltsBind, AreMany, ArgsBind, Binds, FieldsBefore, FieldsBind, ReadsAlts, ReadsArgs, ReadsFields, ReadsList, ReadsNames, ReadsType, SpellsType, TypesBefore, TypesBind}
use Rattle.cg_resolve_def.specs.Expand.{types_length}
use Rattle.cg_resolve_def.specs.Takes.{alts_length, fields_length}
use Rattle.cg_resolve_def.specs.Shaped.{AreShapedAlts, AreShapedFields, AreShapedTypes, IsShapedType}

-- a tuple has two components at least, and each other list of items has one
types_many : (ts : Writtens) → AreMany ts → 2 ≤ types_length ts
types_many types.no_types m = absurd m
types_many (types.and_type types.no_types a) m = absurd m
types_many (types.and_type (types.and_type ts b) a) m = omega arith

names_some : (ns : List At) (ts rest : List Seen) → ReadsNames ns ts rest → 1 ≤ length ns
names_some ns ts rest r =
    let is : length ns ≡ length r.0 + 1 = ap length r.2 ∙ length-append r.0 (r.1 ∷ []) in
    omega arith

fields_some : (fs : WrittenFields) (ts rest : List Seen) → ReadsFields fs ts rest → 1 ≤ fields_length fs
fields_some types.no_fields ts rest r = absurd r
fields_some (types.and_field fs at a) ts rest r = omega arith

alts_some : (choices : WrittenAlts) (ts rest : List Seen) → ReadsAlts choices ts rest → 1 ≤ alts_length choices
alts_some types.no_alts ts rest r = absurd r
alts_some (types.and_plain choices at) ts rest r = omega arith
alts_some (types.and_alt choices at a) ts rest r = omega arith

mutual
  type_shaped : (t : Written) (ts rest : List Seen) → Binds t → ReadsType t ts rest → IsShapedType t
  type_shaped (types.named p n args) ts rest b r = ⊎_elim (λ x. args_shaped args x.0 rest b x.2) (λ x. carry AreShapedTypes (sym x.0) tt) r
  type_shaped (types.nothing p) ts rest b r = tt
  type_shaped (types.tuple p parts) ts rest b r = (types_many parts b.0, list_shaped parts r.0 r.2.0 b.1 r.2.1)
  type_shaped (types.paren p a) ts rest b r = type_shaped a r.0 r.2.0 b r.2.1
  type_shaped (types.arrow p a c) ts rest b r = (type_shaped a ts r.1.0 b.1 r.1.1, type_shaped c r.1.2.0 rest b.2 r.1.2.2)
  type_shaped (types.fields p boxed fs) ts rest b r = (fields_some fs r.0 r.2.0 r.2.1, fields_shaped fs r.0 r.2.0 b r.2.1)
  type_shaped (types.variant p choices) ts rest b r = (alts_some choices r.0 r.2.0 r.2.1, alts_shaped choices r.0 r.2.0 b r.2.1)
  type_shaped (types.bang p a) ts rest b r = type_shaped a ts r.1.0 b.1 r.1.1
  type_shaped (types.take_some p a ns) ts rest b r = (names_some ns r.1.2.2.0 r.1.2.2.2.0 r.1.2.2.2.1, type_shaped a ts r.1.0 b.1 r.1.1)
  type_shaped (types.take_all p a q) ts rest b r = type_shaped a ts r.1.0 b.1 r.1.1

  args_shaped : (args : Writtens) (ts rest : List Seen) → ArgsBind args → ReadsArgs args ts rest → AreShapedTypes args
  args_shaped types.no_types ts rest b r = tt
  args_shaped (types.and_type args a) ts rest b r = (args_shaped args ts r.0 b.0 r.1, type_shaped a r.0 rest b.2 r.2)

  types_before : (parts : Writtens) (ts rest : List Seen) → TypesBind parts → TypesBefore parts ts rest → AreShapedTypes parts
  types_before types.no_types ts rest b r = tt
  types_before (types.and_type parts a) ts rest b r = (types_before parts ts r.0 b.0 r.1, type_shaped a r.0 r.2.0 b.1 r.2.1)

  list_shaped : (parts : Writtens) (ts rest : List Seen) → TypesBind parts → ReadsList parts ts rest → AreShapedTypes parts
  list_shaped types.no_types ts rest b r = tt
  list_shaped (types.and_type parts a) ts rest b r = (types_before parts ts r.0 b.0 r.1, type_shaped a r.0 rest b.1 r.2)

  fields_before : (fs : WrittenFields) (ts rest : List Seen) → FieldsBind fs → FieldsBefore fs ts rest → AreShapedFields fs
  fields_before types.no_fields ts rest b r = tt
  fields_before (types.and_field fs at a) ts rest b r = (fields_before fs ts r.0 b.0 r.1, type_shaped a r.2.2.0 r.2.2.2.0 b.1 r.2.2.2.1)

  fields_shaped : (fs : WrittenFields) (ts rest : List Seen) → FieldsBind fs → ReadsFields fs ts rest → AreShapedFields fs
  fields_shaped types.no_fields ts rest b r = tt
  fields_shaped (types.and_field fs at a) ts rest b r = (fields_before fs ts r.0 b.0 r.1, type_shaped a r.2.2.0 rest b.1 r.2.2.2)

  alts_before : (choices : WrittenAlts) (ts rest : List Seen) → AltsBind choices → AltsBefore choices ts rest → AreShapedAlts choices
  alts_before types.no_alts ts rest b r = tt
  alts_before (types.and_plain choices at) ts rest b r = alts_before choices ts r.0 b r.1
  alts_before (types.and_alt choices at a) ts rest b r = (alts_before choices ts r.0 b.0 r.1, type_shaped a r.2.0 r.2.2.0 b.2 r.2.2.1)

  alts_shaped : (choices : WrittenAlts) (ts rest : List Seen) → AltsBind choices → ReadsAlts choices ts rest → AreShapedAlts choices
  alts_shaped types.no_alts ts rest b r = tt
  alts_shaped (types.and_plain choices at) ts rest b r = alts_before choices ts r.0 b r.1
  alts_shaped (types.and_alt choices at a) ts rest b r = (alts_before choices ts r.0 b.0 r.1, type_shaped a r.2.0 rest b.2 r.2.2)

pub spelled_type_shaped : (ts : List Seen) (t : Written) → SpellsType ts t → IsShapedType t
spelled_type_shaped ts t s = type_shaped t ts [] s.0 s.1
