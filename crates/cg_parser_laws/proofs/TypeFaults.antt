-- The faults of a type that the tokens spell stand in reading order. Of a reading `r` of parts, one behind the other, `r.0` are
-- the tokens behind the first part, `r.1` is how that is read, and `r.2` how the others are.
use Rattle.std.proofs.Common.{ℕ, List, [], refl, sym, ⊎_elim, subst}
use Rattle.cg_surface.specs.Written.{Written, Writtens, WrittenFields, WrittenAlts}
use Rattle.cg_surface.specs.Written as types
use Rattle.cg_surface.specs.Programs.{Entry}
use Rattle.cg_parser_symbols.specs.Symbols.{Seen}
use Rattle.cg_resolve_def.specs.Expand.{types_length}
use Rattle.cg_resolve_def.specs.Faults.{alt_names, alts_faults, field_names, fields_faults, name_faults, type_faults, types_faults}
use Rattle.cg_parser_types.specs.Grammar.{AltsBefore, FieldsBefore, ReadsAlts, ReadsArgs, ReadsFields, ReadsList, ReadsType, SpellsType, TypesBefore}
use Rattle.cg_parser_laws.proofs.Names.{again_stands, fault_key, name_stands, names_spans}
use Rattle.cg_parser_laws.proofs.Spans.{Spans, StandAt, before, behind, join, nothing_spans, sign_spans, silent, token_spans, token_with}

module _ (entries : List Entry) (vars : List (List ℕ)) where
  mutual
    type_spans : (t : Written) (ts rest : List Seen) → ReadsType t ts rest → Spans fault_key (type_faults entries vars t) ts rest
    type_spans (types.named p n args) ts rest r =
        let at : StandAt fault_key p (name_faults entries vars p n (types_length args)) = name_stands entries vars p n (types_length args) in
        ⊎_elim (λ x. join (token_with x.1 at) (args_spans args x.0 rest x.2))
        (λ x. join (token_with x.1 at) (subst (λ a. Spans fault_key (types_faults entries vars a) rest rest) (sym x.0) (nothing_spans refl))) r
    type_spans (types.nothing p) ts rest r = before (token_spans r.1) (sign_spans r.2)
    type_spans (types.tuple p parts) ts rest r = before (token_spans r.1) (behind (list_spans parts r.0 r.2.0 r.2.1) (sign_spans r.2.2))
    type_spans (types.paren p a) ts rest r = before (token_spans r.1) (behind (type_spans a r.0 r.2.0 r.2.1) (sign_spans r.2.2))
    type_spans (types.arrow p a b) ts rest r = join (type_spans a ts r.1.0 r.1.1) (before (sign_spans r.1.2.1) (type_spans b r.1.2.0 rest r.1.2.2))
    type_spans (types.fields p boxed fs) ts rest r = before (token_spans r.1) (behind (fields_spans fs r.0 r.2.0 r.2.1) (sign_spans r.2.2))
    type_spans (types.variant p choices) ts rest r = before (token_spans r.1.1) (behind (alts_spans choices r.0 r.2.0 r.2.1) (token_spans r.2.2.1.1))
    type_spans (types.bang p a) ts rest r = behind (type_spans a ts r.1.0 r.1.1) (sign_spans r.1.2)
    type_spans (types.take_some p a ns) ts rest r =
        let on = r.1.2 in
        behind (type_spans a ts r.1.0 r.1.1) (before (sign_spans on.1) (before (sign_spans on.2.1) (before (silent (names_spans ns on.2.0 on.2.2.0 on.2.2.1)) (sign_spans on.2.2.2))))
    type_spans (types.take_all p a q) ts rest r =
        let on = r.1.2 in
        behind (type_spans a ts r.1.0 r.1.1) (before (token_spans on.1) (before (sign_spans on.2.1) (before (sign_spans on.2.2.1) (sign_spans on.2.2.2))))

    args_spans : (args : Writtens) (ts rest : List Seen) → ReadsArgs args ts rest → Spans fault_key (types_faults entries vars args) ts rest
    args_spans types.no_types ts rest r = nothing_spans r
    args_spans (types.and_type args a) ts rest r = join (args_spans args ts r.0 r.1) (type_spans a r.0 rest r.2)

    types_before : (parts : Writtens) (ts rest : List Seen) → TypesBefore parts ts rest → Spans fault_key (types_faults entries vars parts) ts rest
    types_before types.no_types ts rest r = nothing_spans r
    types_before (types.and_type parts a) ts rest r = join (types_before parts ts r.0 r.1) (behind (type_spans a r.0 r.2.0 r.2.1) (sign_spans r.2.2))

    list_spans : (parts : Writtens) (ts rest : List Seen) → ReadsList parts ts rest → Spans fault_key (types_faults entries vars parts) ts rest
    list_spans types.no_types ts rest r = absurd r
    list_spans (types.and_type parts a) ts rest r = join (types_before parts ts r.0 r.1) (type_spans a r.0 rest r.2)

    fields_before : (fs : WrittenFields) (ts rest : List Seen) → FieldsBefore fs ts rest → Spans fault_key (fields_faults entries vars fs) ts rest
    fields_before types.no_fields ts rest r = nothing_spans r
    fields_before (types.and_field fs at a) ts rest r =
        let on = r.2.2 in
        join (join (fields_before fs ts r.0 r.1) (behind (token_with r.2.1 (again_stands (field_names fs) at.place at.name)) (sign_spans on.1))) (behind (type_spans a on.0 on.2.0 on.2.1) (sign_spans on.2.2))

    fields_spans : (fs : WrittenFields) (ts rest : List Seen) → ReadsFields fs ts rest → Spans fault_key (fields_faults entries vars fs) ts rest
    fields_spans types.no_fields ts rest r = absurd r
    fields_spans (types.and_field fs at a) ts rest r =
        let on = r.2.2 in
        join (join (fields_before fs ts r.0 r.1) (behind (token_with r.2.1 (again_stands (field_names fs) at.place at.name)) (sign_spans on.1))) (type_spans a on.0 rest on.2)

    alts_before : (choices : WrittenAlts) (ts rest : List Seen) → AltsBefore choices ts rest → Spans fault_key (alts_faults entries vars choices) ts rest
    alts_before types.no_alts ts rest r = nothing_spans r
    alts_before (types.and_plain choices at) ts rest r =
        join (alts_before choices ts r.0 r.1) (behind (token_with r.2.1 (again_stands (alt_names choices) at.place at.name)) (token_spans r.2.2.1.1))
    alts_before (types.and_alt choices at a) ts rest r =
        let on = r.2.2 in
        join (join (alts_before choices ts r.0 r.1) (token_with r.2.1 (again_stands (alt_names choices) at.place at.name))) (behind (type_spans a r.2.0 on.0 on.1) (token_spans on.2.1.1))

    alts_spans : (choices : WrittenAlts) (ts rest : List Seen) → ReadsAlts choices ts rest → Spans fault_key (alts_faults entries vars choices) ts rest
    alts_spans types.no_alts ts rest r = absurd r
    alts_spans (types.and_plain choices at) ts rest r = join (alts_before choices ts r.0 r.1) (token_with r.2 (again_stands (alt_names choices) at.place at.name))
    alts_spans (types.and_alt choices at a) ts rest r =
        join (join (alts_before choices ts r.0 r.1) (token_with r.2.1 (again_stands (alt_names choices) at.place at.name))) (type_spans a r.2.0 rest r.2.2)

  pub spelled_type_spans : (ts : List Seen) (t : Written) → SpellsType ts t → Spans fault_key (type_faults entries vars t) ts []
  spelled_type_spans ts t s = type_spans t ts [] s.1
