-- The variables of a pattern that the tokens spell stand in reading order. Of a reading `r` of parts, one behind the other, `r.0` are the
-- tokens behind the first part, `r.1` is how that is read, and `r.2` how the others are.
use Rattle.std.proofs.Common.{List, [], ⊎_elim, sym, subst}
use Rattle.cg_core.specs.declared.at.At.{At}
use Rattle.cg_surface.specs.Patterns.{Pattern, Patterns, FieldPatterns}
use Rattle.cg_surface.specs.Patterns as patterns
use Rattle.cg_parser_symbols.specs.Symbols.{Seen}
use Rattle.cg_resolve_def.specs.Faults.{all_variables, field_variables, variables}
use Rattle.cg_parser_patterns.specs.Grammar.{FieldAs, FieldsBefore, PatternsBefore, ReadsFields, ReadsList, ReadsPattern, SpellsPattern}
use Rattle.cg_parser_laws.proofs.Names.{at_key}
use Rattle.cg_parser_laws.proofs.Spans.{Spans, before, behind, join, nothing_spans, sign_spans, stands_one, token_spans, token_with}

-- a field's variables are that of its name, where it is written alone, and else those of its pattern
field_spans : (at : At) (x : Pattern) (ts rest : List Seen) → ((from to : List Seen) → ReadsPattern x from to → Spans at_key (variables x) from to)
    → FieldAs (ReadsPattern x) at x ts rest → Spans at_key (variables x) ts rest
field_spans at x ts rest spans r =
    ⊎_elim (λ f. subst (λ y. Spans at_key (variables y) ts rest) (sym f.0) (token_with f.1 (stands_one at)))
    (λ f. before (token_spans f.1) (before (sign_spans f.2.1) (spans f.2.0 rest f.2.2))) r

mutual
  pattern_spans : (x : Pattern) (ts rest : List Seen) → ReadsPattern x ts rest → Spans at_key (variables x) ts rest
  pattern_spans (patterns.name p n) ts rest r = token_with r (stands_one (record { place = p; name = n }))
  pattern_spans (patterns.any p) ts rest r = token_spans r
  pattern_spans (patterns.unit p) ts rest r = before (token_spans r.1) (sign_spans r.2)
  pattern_spans (patterns.paren p x) ts rest r = before (token_spans r.1) (behind (pattern_spans x r.0 r.2.0 r.2.1) (sign_spans r.2.2))
  pattern_spans (patterns.tuple p xs) ts rest r = before (token_spans r.1.1) (behind (list_spans xs r.1.0 r.1.2.0 r.1.2.1) (sign_spans r.1.2.2))
  pattern_spans (patterns.fields p fs) ts rest r = before (token_spans r.1) (behind (fields_spans fs r.0 r.2.0 r.2.1) (sign_spans r.2.2))
  pattern_spans (patterns.take p n fs) ts rest r =
      let on = r.2.2 in
      join (behind (token_with r.1 (stands_one (record { place = p; name = n }))) (sign_spans r.2.1)) (behind (fields_spans fs r.2.0 on.0 on.1) (sign_spans on.2))

  patterns_before : (xs : Patterns) (ts rest : List Seen) → PatternsBefore xs ts rest → Spans at_key (all_variables xs) ts rest
  patterns_before patterns.no_patterns ts rest r = nothing_spans r
  patterns_before (patterns.and_pattern xs x) ts rest r = join (patterns_before xs ts r.0 r.1) (behind (pattern_spans x r.0 r.2.0 r.2.1) (sign_spans r.2.2))

  list_spans : (xs : Patterns) (ts rest : List Seen) → ReadsList xs ts rest → Spans at_key (all_variables xs) ts rest
  list_spans patterns.no_patterns ts rest r = absurd r
  list_spans (patterns.and_pattern xs x) ts rest r = join (patterns_before xs ts r.0 r.1) (pattern_spans x r.0 rest r.2)

  fields_before : (fs : FieldPatterns) (ts rest : List Seen) → FieldsBefore fs ts rest → Spans at_key (field_variables fs) ts rest
  fields_before patterns.no_fields ts rest r = nothing_spans r
  fields_before (patterns.and_field fs at x) ts rest r = join (fields_before fs ts r.0 r.1) (behind (field_spans at x r.0 r.2.0 (pattern_spans x) r.2.1) (sign_spans r.2.2))

  fields_spans : (fs : FieldPatterns) (ts rest : List Seen) → ReadsFields fs ts rest → Spans at_key (field_variables fs) ts rest
  fields_spans patterns.no_fields ts rest r = absurd r
  fields_spans (patterns.and_field fs at x) ts rest r = join (fields_before fs ts r.0 r.1) (field_spans at x r.0 rest (pattern_spans x) r.2)

pub spelled_pattern_spans : (ts : List Seen) (x : Pattern) → SpellsPattern ts x → Spans at_key (variables x) ts []
spelled_pattern_spans ts x s = pattern_spans x ts [] s
