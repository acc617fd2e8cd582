-- The faults of each item that the tokens spell stand in order, and so do those of each program that a text spells.
use Rattle.std.proofs.Common.{◌≡◌, ℕ, true, false, List, [], ◌∷◌, ◌++◌, Option, Some, None, ⊎_elim, refl, sym, subst, arith, map, if◌then◌else◌}
use Rattle.cg_base.specs.declared.kind.Bound.{Bound}
use Rattle.cg_base.specs.declared.place.Place.{Place}
use Rattle.cg_core.specs.declared.at.At.{At}
use Rattle.cg_surface.specs.Written.{Written}
use Rattle.cg_surface.specs.Patterns.{Pattern}
use Rattle.cg_surface.specs.Exprs.{Expr}
use Rattle.cg_surface.specs.Programs.{Entry, synonym, abstract, signature, define}
use Rattle.cg_parser_symbols.specs.Symbols.{Seen, seen}
use Rattle.cg_parser_symbols.specs.Readings.{◌then◌, IsPart}
use Rattle.cg_resolve_def.specs.Declared.{OfProgram, function_named, is_among}
use Rattle.cg_resolve_def.specs.Faults.{Before, NameFault, unknown, twice, again, ats_of, beforehand, bound, declared_with, entry_faults, expr_faults, faults_from, names_of, pattern_faults, program_faults, type_faults, unsigned, var_names, variables, vars_named}
use Rattle.cg_resolve_def.specs.Order.{AreOrdered}
use Rattle.cg_parser_types.specs.Grammar.{SpellsType}
use Rattle.cg_parser_patterns.specs.Grammar.{SpellsPattern}
use Rattle.cg_parser_def.specs.Grammar.{ReadsAll, ReadsEntry, ReadsParams, ReadsProgram, ReadsVar, ReadsVars, SpellsExpr, VarsBefore, nothing, alone, listed}
use Rattle.cg_parser_laws.specs.Laws.{SpelledFaultsAreOrdered}
use Rattle.cg_parser_laws.proofs.ExprFaults.{spelled_expr_spans}
use Rattle.cg_parser_laws.proofs.Names.{again_stands, at_key, fault_key, twins_spans}
use Rattle.cg_parser_laws.proofs.PatternNames.{spelled_pattern_spans}
use Rattle.cg_parser_laws.proofs.Spans.{AreSorted, Spans, StandAt, before, behind, between_sorted, front_spans, join, nothing_spans, spans_order, stands_one, stands_two, token_spans, token_with}
use Rattle.cg_parser_laws.proofs.Rising.{nowhere, rising}
use Rattle.cg_parser_laws.proofs.TypeFaults.{spelled_type_spans}

-- the names of parameters, and of type variables, stand in order
pub params_spans : (ns : List At) (ts rest : List Seen) → ReadsParams ns ts rest → Spans at_key ns ts rest
params_spans [] ts rest r = nothing_spans r
params_spans (n ∷ ns) ts rest r = join (token_with r.1.1 (stands_one n)) (params_spans ns r.0 rest r.2)

var_spans : (v : Bound) (p : Place) (ts rest : List Seen) → ReadsVar v p ts rest → Spans at_key (record { place = p; name = v.name } ∷ []) ts rest
var_spans v p ts rest r =
    ⊎_elim (λ x. token_with x.1.1 (stands_one (record { place = p; name = v.name })))
    (λ x. behind (token_with x.3.1.1 (stands_one (record { place = p; name = v.name }))) (before (token_spans x.3.2.1.1.1) (token_spans x.3.2.2.1.1))) r

vars_told : (vs : List Bound) (ps : List Place) (v : Bound) (p : Place) (ts rest : List Seen) → (VarsBefore vs ps then ReadsVar v p) ts rest
    → Spans at_key (ats_of (vs ++ v ∷ []) (ps ++ p ∷ [])) ts rest
vars_told [] [] v p ts rest r = before (nothing_spans r.1) (var_spans v p r.0 rest r.2)
vars_told (w ∷ vs) (q ∷ ps) v p ts rest r =
    join (behind (var_spans w q ts r.1.0 r.1.1) (token_spans r.1.2.1.1.1)) (vars_told vs ps v p r.1.2.0 rest (r.0, r.1.2.2, r.2))
vars_told [] (q ∷ ps) v p ts rest r = absurd r.1
vars_told (w ∷ vs) [] v p ts rest r = absurd r.1

vars_spans : (vs : List Bound) (ps : List Place) (ts rest : List Seen) → ReadsVars vs ps ts rest → Spans at_key (ats_of vs ps) ts rest
vars_spans vs ps ts rest r =
    let all : ats_of (r.vars ++ r.last ∷ []) (r.places ++ r.last_place ∷ []) ≡ ats_of vs ps = λ i. ats_of (sym r.all_vars i) (sym r.all_places i) in
    subst (λ ns. Spans at_key ns ts rest) all (vars_told r.vars r.places r.last r.last_place ts rest r.read)

pub all_spans : (vs : List Bound) (ps : List Place) (ts rest : List Seen) → ReadsAll vs ps ts rest → Spans at_key (ats_of vs ps) ts rest
all_spans vs ps ts rest (nothing no_vars no_places r) = subst (λ ns. Spans at_key ns ts rest) (λ i. ats_of (sym no_vars i) (sym no_places i)) (nothing_spans r)
all_spans vs ps ts rest (alone n p one_var one_place r) =
    subst (λ ns. Spans at_key ns ts rest) (λ i. ats_of (sym one_var i) (sym one_place i))
    (before (token_spans r.1.1.1) (behind (token_with r.2.1.1 (stands_one (record { place = p; name = n }))) (token_spans r.2.2.1.1)))
all_spans vs ps ts rest (listed r) =
    before (token_spans r.1.1.1)
    (before (token_spans r.2.1.1.1) (behind (vars_spans vs ps r.2.0 r.2.2.0 r.2.2.1) (before (token_spans r.2.2.2.1.1.1) (token_spans r.2.2.2.2.1.1))))

-- at the name of a definition without a signature, which may be the later of two
unsigned_stands : (names : List (List ℕ)) (p : Place) (n : List ℕ) (f : Option OfProgram) → StandAt fault_key p (unsigned p f ++ again names p n)
unsigned_stands names p n None =
    elim (is_among names n) as (λ c. StandAt fault_key p (unknown p ∷ (if c then twice p ∷ [] else []))) [
      | true ↦ stands_two (unknown p) (twice p) refl (omega arith)
      | false ↦ stands_one (unknown p)
    ]
unsigned_stands names p n (Some f) = again_stands names p n

module _ (entries : List Entry) (OfType : List Seen → Written → Type 0) (OfPattern : List Seen → Pattern → Type 0) (OfExpr : List Seen → Expr → Type 0)
    (of_type : (vars : List (List ℕ)) (ts : List Seen) (t : Written) → OfType ts t → Spans fault_key (type_faults entries vars t) ts [])
    (of_pattern : (ts : List Seen) (x : Pattern) → OfPattern ts x → Spans at_key (variables x) ts [])
    (of_expr : (vars scope : List (List ℕ)) (ts : List Seen) (e : Expr) → OfExpr ts e → Spans fault_key (expr_faults entries vars scope e) ts []) where
  type_part : (vars : List (List ℕ)) (t : Written) {ts rest : List Seen} → IsPart OfType t ts rest → Spans fault_key (type_faults entries vars t) ts rest
  type_part vars t {ts} {rest} r = front_spans r.front ts rest r.parts (of_type vars r.front t r.spelled)

  pattern_part : (x : Pattern) {ts rest : List Seen} → IsPart OfPattern x ts rest → Spans fault_key (pattern_faults x) ts rest
  pattern_part x {ts} {rest} r = twins_spans [] (variables x) (front_spans r.front ts rest r.parts (of_pattern r.front x r.spelled))

  expr_part : (vars scope : List (List ℕ)) (e : Expr) {ts rest : List Seen} → IsPart OfExpr e ts rest → Spans fault_key (expr_faults entries vars scope e) ts rest
  expr_part vars scope e {ts} {rest} r = front_spans r.front ts rest r.parts (of_expr vars scope r.front e r.spelled)

  entry_spans : (names : Before) (i : Entry) (ts rest : List Seen) → ReadsEntry OfType OfPattern OfExpr i ts rest → Spans fault_key (entry_faults entries names i) ts rest
  entry_spans names (synonym at params body) ts rest r =
      let on = r.2.2 in
      join (join (before (token_spans r.1.1.1) (token_with r.2.1.1 (again_stands names.types at.place at.name))) (behind (twins_spans [] params (params_spans params r.2.0 on.0 on.1)) (token_spans on.2.1.1.1)))
      (type_part (names_of params) body on.2.2)
  entry_spans names (abstract at params) ts rest r =
      join (before (token_spans r.1.1.1) (token_with r.2.1.1 (again_stands names.types at.place at.name))) (twins_spans [] params (params_spans params r.2.0 rest r.2.2))
  entry_spans names (signature at vars places ty) ts rest r =
      let on = r.2.2 in
      join (join (behind (token_with r.1.1 (again_stands names.signatures at.place at.name)) (token_spans r.2.1.1.1)) (twins_spans [] (ats_of vars places) (all_spans vars places r.2.0 on.0 on.1)))
      (type_part (var_names vars) ty on.2)
  entry_spans names (define at param body) ts rest r =
      join (join (token_with r.1.1 (unsigned_stands names.definitions at.place at.name (function_named entries at.name))) (behind (pattern_part param r.2.1) (token_spans r.2.2.1.1.1)))
      (expr_part (vars_named (function_named entries at.name)) (bound param) body r.2.2.2)

  program_spans : (names : Before) (items : List Entry) (ts rest : List Seen) → ReadsProgram OfType OfPattern OfExpr items ts rest → Spans fault_key (faults_from entries names items) ts rest
  program_spans names [] ts rest r = nothing_spans r
  program_spans names (i ∷ items) ts rest r = join (entry_spans names i ts r.0 r.1) (program_spans (declared_with names i) items r.0 rest r.2)

-- the order of faults is that of their keys
sorted_ordered : (es : List NameFault) → AreSorted fault_key es → AreOrdered es
sorted_ordered [] s = tt
sorted_ordered (e ∷ es) s = (s.0, sorted_ordered es s.1)

pub spelled_ordered : SpelledFaultsAreOrdered
spelled_ordered bytes p short s =
    let of_expr : (vars scope : List (List ℕ)) (ts : List Seen) (e : Expr) → SpellsExpr ts e → Spans fault_key (expr_faults p vars scope e) ts [] =
    λ vars scope. spelled_expr_spans p vars SpellsType SpellsPattern (spelled_type_spans p vars) spelled_pattern_spans scope in
    let all : Spans fault_key (program_faults p) (map seen s.0) [] =
    program_spans p SpellsType SpellsPattern SpellsExpr (spelled_type_spans p) spelled_pattern_spans of_expr beforehand p (map seen s.0) [] s.2 in
    let order = spans_order nowhere (rising bytes s.0 short s.1) all in
    sorted_ordered (program_faults p) (between_sorted fault_key (program_faults p) nowhere order.0 order.1)
