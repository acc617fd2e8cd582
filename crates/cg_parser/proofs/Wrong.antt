-- The parser's reader stops at a bar at a wrong column exactly where one stands.
use Rattle.std.proofs.Common.{◌≡◌, List, refl, sym, ◌∙◌, ap, true, false, Bool}
use Rattle.cg_base.specs.Reader.{run}
use Rattle.cg_parser_symbols.specs.Symbols.{Seen}
use Rattle.cg_parser_types.specs.Grammar.{SpellsType}
use Rattle.cg_parser_types.specs.Plain as plain_types
use Rattle.cg_parser_patterns.specs.Grammar.{SpellsPattern}
use Rattle.cg_parser_patterns.specs.Plain as plain_patterns
use Rattle.cg_parser_exprs_def.specs.Machine.{WrongBar}
use Rattle.cg_parser_exprs_def.specs.Held.{is_wrong_bar}
use Rattle.cg_parser_exprs_def.specs.Unfinished.{IsWrongBar}
use Rattle.cg_parser_exprs_def.specs.Read.{ExprStage, expr_reader}
use Rattle.cg_parser_exprs_laws.proofs.Exactly.{asked}
use Rattle.cg_parser_exprs_laws.proofs.Wrong as exprs_wrong
use Rattle.cg_parser.specs.Answers.{IsWrongBarIn}
use Rattle.cg_parser_def.specs.Grammar.{SpellsExpr}
use Rattle.cg_parser_def.specs.Machine.{InBody}
use Rattle.cg_parser_def.specs.Held.{Held, bounded_items}
use Rattle.cg_parser.specs.Views.{is_wrong}
use Rattle.cg_parser_def.specs.Bounded.{within_program}
use Rattle.cg_parser.proofs.Misplaced as misplaced
use Rattle.cg_parser.proofs.Parts.{same_run}
use Rattle.cg_parser.proofs.Whole.{parts, expr_held, Stage, plain, held, follows}

-- whether a reader of expressions stopped there
abbrev stops : ExprStage → Bool
stops s = is_wrong_bar (expr_held s)

only_there : (s : ExprStage) → stops s ≡ true → s ≡ WrongBar
only_there WrongBar h = refl
only_there _ h = cc

expr_is : (ts : List Seen) (t : Seen) → expr_reader.is_open (run expr_reader expr_reader.begin ts) ≡ true → stops (expr_reader.step (run expr_reader expr_reader.begin ts) t) ≡ true → IsWrongBar SpellsType SpellsPattern ts t
expr_is ts t o w = exprs_wrong.wrong_is plain_types.plain_reader plain_patterns.plain_reader SpellsType SpellsPattern asked ts t o (only_there _ w)

expr_told : (ts : List Seen) (t : Seen) → IsWrongBar SpellsType SpellsPattern ts t → stops (expr_reader.step (run expr_reader expr_reader.begin ts) t) ≡ true
expr_told ts t w = ap stops (exprs_wrong.is_wrong plain_types.plain_reader plain_patterns.plain_reader SpellsType SpellsPattern asked ts t w)

-- the same of the reader of items, over whole trees
abbrev is_misplaced : Stage → Bool
is_misplaced = misplaced.is_misplaced plain_types.plain_reader plain_patterns.plain_reader expr_reader SpellsType SpellsPattern SpellsExpr parts (λ ts t. IsWrongBar SpellsType SpellsPattern ts t) stops expr_is expr_told refl

same_wrong : (m : Stage) → is_wrong (held m) ≡ is_misplaced m
same_wrong (InBody done h x s) = refl
same_wrong _ = refl

held_wrong : (front : List Seen) (t : Seen) → is_wrong (bounded_items.step (run bounded_items bounded_items.begin front) t) ≡ is_misplaced (plain.step (run plain plain.begin front) t)
held_wrong front t =
    ap (λ m. is_wrong (bounded_items.step m t)) (same_run plain bounded_items held within_program follows front)
    ∙ ap is_wrong (follows.steps (run plain plain.begin front) t)
    ∙ same_wrong (plain.step (run plain plain.begin front) t)

pub wrong_is : (front : List Seen) (t : Seen) → plain.is_open (run plain plain.begin front) ≡ true → is_wrong (bounded_items.step (run bounded_items bounded_items.begin front) t) ≡ true → IsWrongBarIn front t
wrong_is front t o w =
    let s = misplaced.stands_there plain_types.plain_reader plain_patterns.plain_reader expr_reader SpellsType SpellsPattern SpellsExpr parts (λ ts t. IsWrongBar SpellsType SpellsPattern ts t) stops expr_is expr_told refl front t o (sym (held_wrong front t) ∙ w) in
    record { done = s.done; at = s.at; param = s.param; past = s.past; read = s.read }

pub wrong_told : (front : List Seen) (t : Seen) → IsWrongBarIn front t → is_wrong (bounded_items.step (run bounded_items bounded_items.begin front) t) ≡ true
wrong_told front t w =
    held_wrong front t
    ∙ misplaced.shuts_there plain_types.plain_reader plain_patterns.plain_reader expr_reader SpellsType SpellsPattern SpellsExpr parts (λ ts t. IsWrongBar SpellsType SpellsPattern ts t) stops expr_is expr_told refl front t
    (record { done = w.done; at = w.at; param = w.param; past = w.past; read = w.read })

-- what stops there goes on with nothing
pub wrong_shut : (m : Held) → is_wrong m ≡ true → bounded_items.is_open m ≡ false
wrong_shut (InBody done h x WrongBar) w = refl
wrong_shut _ w = cc
