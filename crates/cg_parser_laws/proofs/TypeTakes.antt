-- The places of N5 in a type that the tokens spell stand in reading order. Of a reading `r` of parts, one behind the other, `r.0` are
-- the tokens behind the first part, `r.1` is how that is read, and `r.2` how the others are.
use Rattle.std.proofs.Common.{◌≡◌, ℕ, List, [], ◌∷◌, ◌++◌, refl, sym, ap, ⊎_elim, subst, map, if◌then◌else◌}
use Rattle.cg_base.specs.declared.place.Place.{Place}
use Rattle.cg_base.specs.Types.{Tau, fields}
use Rattle.cg_core.specs.declared.at.At.{At}
use Rattle.cg_core_def.specs.Lawful.{part_names}
use Rattle.cg_surface.specs.Written.{Written, Writtens, WrittenFields, WrittenAlts}
use Rattle.cg_surface.specs.Written as types
use Rattle.cg_parser_symbols.specs.Symbols.{Seen}
use Rattle.cg_resolve_def.specs.Declared.{is_among}
use Rattle.cg_resolve_def.specs.Expand.{Bodies, expanded}
use Rattle.cg_resolve_def.specs.Takes.{all_missing, alts_takes, fields_takes, not_there, some_missing, take_faults, takes_faults}
use Rattle.cg_parser_types.specs.Grammar.{AltsBefore, FieldsBefore, ReadsAlts, ReadsArgs, ReadsFields, ReadsList, ReadsNames, ReadsType, SpellsType, TypesBefore}
use Rattle.cg_parser_laws.proofs.Names.{all_told, names_spans, place_key, told_spans}
use Rattle.cg_parser_laws.proofs.Spans.{Spans, StandAt, before, behind, join, nothing_spans, sign_spans, stands_either, stands_none, stands_one, token_spans, token_with}

-- the names that are no fields are told one by one, and so are all names where there are no fields
absent : List (List ℕ) → At → List Place
absent names n = if is_among names n.name then [] else n.place ∷ []

absent_told : (names : List (List ℕ)) (ns : List At) → all_told (absent names) ns ≡ not_there ns names
unfolding absent
absent_told names [] = refl
absent_told names (n ∷ ns) = ap (λ ps. (if is_among names n.name then [] else n.place ∷ []) ++ ps) (absent_told names ns)

absent_stands : (names : List (List ℕ)) (n : At) → StandAt place_key n.place (absent names n)
unfolding absent
absent_stands names n = stands_either (is_among names n.name) [] (n.place ∷ []) stands_none (stands_one n.place)

all_placed : (ns : List At) → all_told (λ n. n.place ∷ []) ns ≡ map (λ n. n.place) ns
all_placed [] = refl
all_placed (n ∷ ns) = ap (λ ps. n.place ∷ ps) (all_placed ns)

module _ (ns : List At) {ts rest : List Seen} (r : ReadsNames ns ts rest) where
  all_spans : Spans place_key (map (λ n. n.place) ns) ts rest
  all_spans = subst (λ ps. Spans place_key ps ts rest) (all_placed ns) (told_spans place_key (λ n. n.place ∷ []) (λ n. stands_one n.place) ns ts rest (names_spans ns ts rest r))

  some_spans : (t : Tau) → Spans place_key (some_missing ns t) ts rest
  some_spans (fields ps sigil) =
      subst (λ xs. Spans place_key xs ts rest) (absent_told (part_names ps) ns) (told_spans place_key (absent (part_names ps)) (absent_stands (part_names ps)) ns ts rest (names_spans ns ts rest r))
  some_spans t = all_spans

all_stands : (p : Place) (t : Tau) → StandAt place_key p (all_missing p t)
all_stands p (fields ps sigil) = stands_none
all_stands p t = stands_one p

module _ (known : Bodies) (vars : List (List ℕ)) where
  mutual
    type_takes : (t : Written) (ts rest : List Seen) → ReadsType t ts rest → Spans place_key (take_faults known vars t) ts rest
    type_takes (types.named p n args) ts rest r =
        ⊎_elim (λ x. before (token_spans x.1) (args_takes args x.0 rest x.2)) (λ x. subst (λ a. Spans place_key (takes_faults known vars a) ts rest) (sym x.0) (token_spans x.1)) r
    type_takes (types.nothing p) ts rest r = before (token_spans r.1) (sign_spans r.2)
    type_takes (types.tuple p parts) ts rest r = before (token_spans r.1) (behind (list_takes parts r.0 r.2.0 r.2.1) (sign_spans r.2.2))
    type_takes (types.paren p a) ts rest r = before (token_spans r.1) (behind (type_takes a r.0 r.2.0 r.2.1) (sign_spans r.2.2))
    type_takes (types.arrow p a b) ts rest r = join (type_takes a ts r.1.0 r.1.1) (before (sign_spans r.1.2.1) (type_takes b r.1.2.0 rest r.1.2.2))
    type_takes (types.fields p boxed fs) ts rest r = before (token_spans r.1) (behind (fields_spans fs r.0 r.2.0 r.2.1) (sign_spans r.2.2))
    type_takes (types.variant p choices) ts rest r = before (token_spans r.1.1) (behind (alts_spans choices r.0 r.2.0 r.2.1) (token_spans r.2.2.1.1))
    type_takes (types.bang p a) ts rest r = behind (type_takes a ts r.1.0 r.1.1) (sign_spans r.1.2)
    type_takes (types.take_some p a ns) ts rest r =
        let on = r.1.2 in
        let missing : Spans place_key (some_missing ns (expanded known vars a)) on.2.0 on.2.2.0 = some_spans ns on.2.2.1 (expanded known vars a) in
        join (behind (type_takes a ts r.1.0 r.1.1) (before (sign_spans on.1) (sign_spans on.2.1))) (behind missing (sign_spans on.2.2.2))
    type_takes (types.take_all p a q) ts rest r =
        let on = r.1.2 in
        join (type_takes a ts r.1.0 r.1.1) (behind (token_with on.1 (all_stands q (expanded known vars a))) (before (sign_spans on.2.1) (before (sign_spans on.2.2.1) (sign_spans on.2.2.2))))

    args_takes : (args : Writtens) (ts rest : List Seen) → ReadsArgs args ts rest → Spans place_key (takes_faults known vars args) ts rest
    args_takes types.no_types ts rest r = nothing_spans r
    args_takes (types.and_type args a) ts rest r = join (args_takes args ts r.0 r.1) (type_takes a r.0 rest r.2)

    types_before : (parts : Writtens) (ts rest : List Seen) → TypesBefore parts ts rest → Spans place_key (takes_faults known vars parts) ts rest
    types_before types.no_types ts rest r = nothing_spans r
    types_before (types.and_type parts a) ts rest r = join (types_before parts ts r.0 r.1) (behind (type_takes a r.0 r.2.0 r.2.1) (sign_spans r.2.2))

    list_takes : (parts : Writtens) (ts rest : List Seen) → ReadsList parts ts rest → Spans place_key (takes_faults known vars parts) ts rest
    list_takes types.no_types ts rest r = absurd r
    list_takes (types.and_type parts a) ts rest r = join (types_before parts ts r.0 r.1) (type_takes a r.0 rest r.2)

    fields_before : (fs : WrittenFields) (ts rest : List Seen) → FieldsBefore fs ts rest → Spans place_key (fields_takes known vars fs) ts rest
    fields_before types.no_fields ts rest r = nothing_spans r
    fields_before (types.and_field fs at a) ts rest r =
        let on = r.2.2 in
        join (fields_before fs ts r.0 r.1) (before (token_spans r.2.1) (before (sign_spans on.1) (behind (type_takes a on.0 on.2.0 on.2.1) (sign_spans on.2.2))))

    fields_spans : (fs : WrittenFields) (ts rest : List Seen) → ReadsFields fs ts rest → Spans place_key (fields_takes known vars fs) ts rest
    fields_spans types.no_fields ts rest r = absurd r
    fields_spans (types.and_field fs at a) ts rest r =
        let on = r.2.2 in
        join (fields_before fs ts r.0 r.1) (before (token_spans r.2.1) (before (sign_spans on.1) (type_takes a on.0 rest on.2)))

    alts_before : (choices : WrittenAlts) (ts rest : List Seen) → AltsBefore choices ts rest → Spans place_key (alts_takes known vars choices) ts rest
    alts_before types.no_alts ts rest r = nothing_spans r
    alts_before (types.and_plain choices at) ts rest r = behind (alts_before choices ts r.0 r.1) (before (token_spans r.2.1) (token_spans r.2.2.1.1))
    alts_before (types.and_alt choices at a) ts rest r =
        let on = r.2.2 in
        join (alts_before choices ts r.0 r.1) (before (token_spans r.2.1) (behind (type_takes a r.2.0 on.0 on.1) (token_spans on.2.1.1)))

    alts_spans : (choices : WrittenAlts) (ts rest : List Seen) → ReadsAlts choices ts rest → Spans place_key (alts_takes known vars choices) ts rest
    alts_spans types.no_alts ts rest r = absurd r
    alts_spans (types.and_plain choices at) ts rest r = behind (alts_before choices ts r.0 r.1) (token_spans r.2)
    alts_spans (types.and_alt choices at a) ts rest r = join (alts_before choices ts r.0 r.1) (before (token_spans r.2.1) (type_takes a r.2.0 rest r.2.2))

  pub spelled_type_takes : (ts : List Seen) (t : Written) → SpellsType ts t → Spans place_key (take_faults known vars t) ts []
  spelled_type_takes ts t s = type_takes t ts [] s.1
