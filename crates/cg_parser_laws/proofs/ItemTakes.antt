-- The places of N5 of each item that the tokens spell stand in order, and so do those of each program that a text spells.
use Rattle.std.proofs.Common.{◌≡◌, inl, inr, ℕ, List, [], ◌∷◌, ◌++◌, refl, sym, subst, ap, ◌∙◌, arith, append-nil, append_assoc, get_or, map}
use Rattle.cg_base.specs.declared.place.Place.{Place}
use Rattle.cg_base.specs.Places.{IsBefore}
use Rattle.cg_surface.specs.Written.{Written}
use Rattle.cg_surface.specs.Patterns.{Pattern}
use Rattle.cg_surface.specs.Exprs.{Expr}
use Rattle.cg_surface.specs.Programs.{Entry, synonym, abstract, signature, define}
use Rattle.cg_parser_symbols.specs.Symbols.{Seen, seen}
use Rattle.cg_parser_symbols.specs.Readings.{IsPart}
use Rattle.cg_resolve_def.specs.Declared.{function_named}
use Rattle.cg_resolve_def.specs.Expand.{Bodies, bodies}
use Rattle.cg_resolve_def.specs.Faults.{names_of, var_names, variables, vars_named}
use Rattle.cg_resolve_def.specs.Takes.{Alone, missing_fields, missing_from, take_faults, types_in, with_vars, written_from, written_in}
use Rattle.cg_resolve_def.specs.Order.{AreGrowing}
use Rattle.cg_parser_types.specs.Grammar.{SpellsType}
use Rattle.cg_parser_patterns.specs.Grammar.{SpellsPattern}
use Rattle.cg_parser_def.specs.Grammar.{ReadsEntry, ReadsProgram, SpellsExpr}
use Rattle.cg_parser_laws.specs.Laws.{SpelledTakesGrow}
use Rattle.cg_parser_laws.proofs.ExprTakes.{spelled_expr_takes}
use Rattle.cg_parser_laws.proofs.ItemFaults.{all_spans, params_spans}
use Rattle.cg_parser_laws.proofs.Names.{at_key, place_key}
use Rattle.cg_parser_laws.proofs.PatternNames.{spelled_pattern_spans}
use Rattle.cg_parser_laws.proofs.Spans.{AreSorted, IsEarlier, Spans, before, between_sorted, front_spans, join, nothing_spans, silent, spans_order, token_spans}
use Rattle.cg_parser_laws.proofs.Rising.{nowhere, rising}
use Rattle.cg_parser_laws.proofs.TypeTakes.{spelled_type_takes}

missing_then : (known : Bodies) (vs ws : List Alone) → missing_from known vs ++ missing_from known ws ≡ missing_from known (vs ++ ws)
missing_then known [] ws = refl
missing_then known (v ∷ vs) ws =
    append_assoc (take_faults known v.vars v.ty) (missing_from known vs) (missing_from known ws) ∙ ap (λ ps. take_faults known v.vars v.ty ++ ps) (missing_then known vs ws)

module _ (entries : List Entry) (known : Bodies) (OfType : List Seen → Written → Type 0) (OfPattern : List Seen → Pattern → Type 0) (OfExpr : List Seen → Expr → Type 0)
    (of_type : (vars : List (List ℕ)) (ts : List Seen) (t : Written) → OfType ts t → Spans place_key (take_faults known vars t) ts [])
    (of_pattern : (ts : List Seen) (x : Pattern) → OfPattern ts x → Spans at_key (variables x) ts [])
    (of_expr : (vars : List (List ℕ)) (ts : List Seen) (e : Expr) → OfExpr ts e → Spans place_key (missing_from known (map (with_vars vars) (types_in e))) ts []) where
  type_part : (vars : List (List ℕ)) (t : Written) {ts rest : List Seen} → IsPart OfType t ts rest → Spans place_key (take_faults known vars t ++ []) ts rest
  type_part vars t {ts} {rest} r = subst (λ ps. Spans place_key ps ts rest) (sym (append-nil (take_faults known vars t))) (front_spans r.front ts rest r.parts (of_type vars r.front t r.spelled))

  pattern_part : (x : Pattern) {ts rest : List Seen} → IsPart OfPattern x ts rest → Spans place_key [] ts rest
  pattern_part x {ts} {rest} r = silent (front_spans r.front ts rest r.parts (of_pattern r.front x r.spelled))

  entry_takes : (i : Entry) (ts rest : List Seen) → ReadsEntry OfType OfPattern OfExpr i ts rest → Spans place_key (missing_from known (written_in entries i)) ts rest
  entry_takes (synonym at params body) ts rest r =
      let on = r.2.2 in
      before (token_spans r.1.1.1) (before (token_spans r.2.1.1) (before (silent (params_spans params r.2.0 on.0 on.1)) (before (token_spans on.2.1.1.1) (type_part (names_of params) body on.2.2))))
  entry_takes (abstract at params) ts rest r = before (token_spans r.1.1.1) (before (token_spans r.2.1.1) (silent (params_spans params r.2.0 rest r.2.2)))
  entry_takes (signature at vars places ty) ts rest r =
      let on = r.2.2 in
      before (token_spans r.1.1) (before (token_spans r.2.1.1.1) (before (silent (all_spans vars places r.2.0 on.0 on.1)) (type_part (var_names vars) ty on.2)))
  entry_takes (define at param body) ts rest r =
      let part = r.2.2.2 in
      let vars : List (List ℕ) = vars_named (function_named entries at.name) in
      before (token_spans r.1.1) (before (pattern_part param r.2.1) (before (token_spans r.2.2.1.1.1) (front_spans part.front r.2.2.0 rest part.parts (of_expr vars part.front body part.spelled))))

  program_takes : (items : List Entry) (ts rest : List Seen) → ReadsProgram OfType OfPattern OfExpr items ts rest → Spans place_key (missing_from known (written_from entries items)) ts rest
  program_takes [] ts rest r = nothing_spans r
  program_takes (i ∷ items) ts rest r =
      subst (λ ps. Spans place_key ps ts rest) (missing_then known (written_in entries i) (written_from entries items)) (join (entry_takes i ts r.0 r.1) (program_takes items r.0 rest r.2))

-- places have one number
earlier_place : (p q : Place) → IsEarlier (place_key p) (place_key q) → IsBefore p q
earlier_place p q (inl b) = b
earlier_place p q (inr e) = absurd (omega (arith, e.1))

sorted_growing : (ps : List Place) → AreSorted place_key ps → AreGrowing ps
sorted_growing [] s = tt
sorted_growing (p ∷ ps) s = (λ i q lt. earlier_place p (get_or ps i q) (s.0 i q lt), sorted_growing ps s.1)

pub spelled_growing : SpelledTakesGrow
spelled_growing bytes p short s =
    let known : Bodies = bodies p in
    let of_expr : (vars : List (List ℕ)) (ts : List Seen) (e : Expr) → SpellsExpr ts e → Spans place_key (missing_from known (map (with_vars vars) (types_in e))) ts [] =
    λ vars. spelled_expr_takes known vars SpellsType SpellsPattern (spelled_type_takes known vars) spelled_pattern_spans in
    let all : Spans place_key (missing_fields p) (map seen s.0) [] =
    program_takes p known SpellsType SpellsPattern SpellsExpr (spelled_type_takes known) spelled_pattern_spans of_expr p (map seen s.0) [] s.2 in
    let order = spans_order nowhere (rising bytes s.0 short s.1) all in
    sorted_growing (missing_fields p) (between_sorted place_key (missing_fields p) nowhere order.0 order.1)
