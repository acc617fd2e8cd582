-- The reader of expressions is exact, over the readers of types and patterns.
use Rattle.std.proofs.Common.{◌≡◌, List, [], ◌∷◌, ◌++◌, refl, sym, ◌∙◌, ap, true, false, Bool, Some, None}
use Rattle.cg_base.specs.Reader.{run, Begins, Reads}
use Rattle.cg_surface.specs.Exprs.{Expr}
use Rattle.cg_parser_symbols.specs.Symbols.{Seen}
use Rattle.cg_parser_symbols.specs.Follows.{Follows}
use Rattle.cg_parser_types.specs.Grammar.{SpellsType}
use Rattle.cg_parser_types.specs.Plain as plain_types
use Rattle.cg_parser_types.proofs.Laws as type_laws
use Rattle.cg_parser_types.proofs.Ends as type_ends
use Rattle.cg_parser_types.proofs.Follow as type_follows
use Rattle.cg_parser_patterns.specs.Grammar.{SpellsPattern}
use Rattle.cg_parser_patterns.specs.Plain as plain_patterns
use Rattle.cg_parser_patterns.proofs.Laws as pattern_laws
use Rattle.cg_parser_patterns.proofs.Follow as pattern_follows
use Rattle.cg_parser_build.specs.Bounded.{within}
use Rattle.cg_parser_exprs_def.specs.Asked.{Asked}
use Rattle.cg_parser_exprs_def.specs.Read.{Spells, ExprStage, expr_reader, behind, held_behind}
use Rattle.cg_parser_exprs_laws.specs.Laws.{ReadsExactly, OpenExactly, KeepsToDepth, StopsAtWrongBars}
use Rattle.cg_parser_exprs_def.specs.Machine.{WrongBar}
use Rattle.cg_parser_exprs_def.specs.Held.{Held, types, patterns, bounded_exprs, is_wrong_bar}
use Rattle.cg_parser_exprs_def.specs.Unfinished.{IsWrongBar}
use Rattle.cg_parser_exprs_laws.proofs.Follow as follow
use Rattle.cg_parser_exprs_laws.proofs.Laws as exact
use Rattle.cg_parser_exprs_laws.proofs.Parts.{run_append}
use Rattle.cg_parser_exprs_laws.proofs.Wrong as wrong

-- what the reader of expressions asks of those of types and patterns
pub asked : Asked plain_types.Stage plain_patterns.Stage plain_types.plain_reader plain_patterns.plain_reader SpellsType SpellsPattern
asked = record {
  type_laws = type_laws.laws;
  pattern_laws = pattern_laws.laws;
  type_ends = type_laws.viable_past;
  pattern_ends = pattern_laws.viable_past;
  no_type = refl;
  no_pattern = refl;
  no_comma = type_ends.no_comma;
  no_closing = type_ends.no_closing;
  no_bracket = type_ends.no_bracket;
  no_equals = pattern_laws.ends;
  no_arrow = pattern_laws.no_arrow;
  arrow_first = λ p. refl;
}

-- the six laws
pub laws : Reads expr_reader Spells
laws = exact.laws plain_types.plain_reader plain_patterns.plain_reader SpellsType SpellsPattern asked

pub reads_exactly : ReadsExactly
reads_exactly ts e = (laws.sound ts e, laws.complete ts e)

-- what is shut gives no tree behind any tokens
shut_for_ever : (ts : List Seen) (s : ExprStage) → expr_reader.is_open s ≡ false → expr_reader.is_open (run expr_reader s ts) ≡ false
shut_for_ever [] s h = h
shut_for_ever (t ∷ ts) s h = shut_for_ever ts (expr_reader.step s t) (laws.shut s t h)

opened : (ts : List Seen) (s : ExprStage) (e : Expr) → expr_reader.finish (run expr_reader s ts) ≡ Some e → expr_reader.is_open s ≡ true
opened ts s e h = go (expr_reader.is_open s) refl
  where
    go : (b : Bool) → expr_reader.is_open s ≡ b → expr_reader.is_open s ≡ true
    go true q = q
    go false q = let none : expr_reader.finish (run expr_reader s ts) ≡ None = laws.no_tree (run expr_reader s ts) (shut_for_ever ts s q) in cc

completed : (ts : List Seen) → expr_reader.is_open (behind ts) ≡ true → Begins Spells ts
completed ts o =
    let c = laws.viable ts o in
    (c.0, c.1, laws.sound (ts ++ c.0) c.1 (ap expr_reader.finish (run_append expr_reader ts c.0 expr_reader.begin) ∙ c.2))

begun : (ts : List Seen) → Begins Spells ts → expr_reader.is_open (behind ts) ≡ true
begun ts b = opened b.0 (behind ts) b.1 (ap expr_reader.finish (sym (run_append expr_reader ts b.0 expr_reader.begin)) ∙ laws.complete (ts ++ b.0) b.1 b.2)

pub open_exactly : OpenExactly
open_exactly ts = (completed ts, begun ts)

abbrev pub held : ExprStage → Held
held = follow.held plain_types.plain_reader plain_patterns.plain_reader types patterns type_follows.held pattern_follows.held type_follows.follows pattern_follows.follows

pub follows : Follows expr_reader bounded_exprs held within
follows = follow.follows plain_types.plain_reader plain_patterns.plain_reader types patterns type_follows.held pattern_follows.held type_follows.follows pattern_follows.follows

held_from : (ts : List Seen) (s : ExprStage) → run bounded_exprs (held s) ts ≡ held (run expr_reader s ts)
held_from [] s = refl
held_from (t ∷ ts) s = ap (λ m. run bounded_exprs m ts) (follows.steps s t) ∙ held_from ts (expr_reader.step s t)

held_is : (ts : List Seen) → held_behind ts ≡ held (behind ts)
held_is ts = ap (λ m. run bounded_exprs m ts) follows.begins ∙ held_from ts expr_reader.begin

pub keeps_to_depth : KeepsToDepth
keeps_to_depth ts = (ap bounded_exprs.is_open (held_is ts) ∙ follows.opens (behind ts), ap bounded_exprs.finish (held_is ts) ∙ follows.finishes (behind ts))

-- whether the machine over whole trees stopped at a bar
abbrev stops : ExprStage → Bool
stops s = is_wrong_bar (held s)

only_there : (s : ExprStage) → stops s ≡ true → s ≡ WrongBar
only_there WrongBar h = refl
only_there _ h = cc

stops_there : (ts : List Seen) (t : Seen) → is_wrong_bar (held_behind (ts ++ t ∷ [])) ≡ stops (expr_reader.step (behind ts) t)
stops_there ts t = ap is_wrong_bar (held_is (ts ++ t ∷ [])) ∙ ap stops (run_append expr_reader ts (t ∷ []) expr_reader.begin)

is_bar : (ts : List Seen) (t : Seen) → bounded_exprs.is_open (held_behind ts) ≡ true → is_wrong_bar (held_behind (ts ++ t ∷ [])) ≡ true → IsWrongBar SpellsType SpellsPattern ts t
is_bar ts t o w =
    wrong.wrong_is plain_types.plain_reader plain_patterns.plain_reader SpellsType SpellsPattern asked ts t (sym (keeps_to_depth ts).0 ∙ o) (only_there (expr_reader.step (behind ts) t) (sym (stops_there ts t) ∙ w))

is_told : (ts : List Seen) (t : Seen) → IsWrongBar SpellsType SpellsPattern ts t → is_wrong_bar (held_behind (ts ++ t ∷ [])) ≡ true
is_told ts t w = stops_there ts t ∙ ap stops (wrong.is_wrong plain_types.plain_reader plain_patterns.plain_reader SpellsType SpellsPattern asked ts t w)

pub stops_at_wrong_bars : StopsAtWrongBars
stops_at_wrong_bars ts t o = (is_bar ts t o, is_told ts t)
