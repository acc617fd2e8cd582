-- Each item that the tokens spell is shaped, and so is each program that a text spells.
use Rattle.std.proofs.Common.{◌≡◌, ◌+◌, List, [], ◌∷◌, length, refl, sym, ap, ◌∙◌, arith, length-append, map}
use Rattle.std.proofs.lemmas.List.Elements.{All-cons, All-nil}
use Rattle.std.specs.List.{All}
use Rattle.cg_base.specs.declared.kind.Bound.{Bound}
use Rattle.cg_base.specs.declared.place.Place.{Place}
use Rattle.cg_surface.specs.Written.{Written}
use Rattle.cg_surface.specs.Patterns.{Pattern}
use Rattle.cg_surface.specs.Exprs.{Expr}
use Rattle.cg_surface.specs.Programs.{Entry, synonym, abstract, signature, define}
use Rattle.cg_parser_symbols.specs.Symbols.{Seen, seen}
use Rattle.cg_parser_types.specs.Grammar.{SpellsType}
use Rattle.cg_parser_patterns.specs.Grammar.{SpellsPattern}
use Rattle.cg_parser_def.specs.Grammar.{ReadsAll, ReadsEntry, ReadsProgram, ReadsVars, SpellsExpr, VarsBefore, nothing, alone, listed}
use Rattle.cg_resolve_def.specs.Shaped.{IsShapedEntry, IsShapedExpr, IsShapedPattern, IsShapedType}
use Rattle.cg_parser_laws.specs.Laws.{SpelledIsShaped}
use Rattle.cg_parser_laws.proofs.Exprs.{spelled_expr_shaped}
use Rattle.cg_parser_laws.proofs.Patterns.{spelled_pattern_shaped}
use Rattle.cg_parser_laws.proofs.Types.{spelled_type_shaped}

-- each type variable has a place
before_placed : (vs : List Bound) (ps : List Place) (ts rest : List Seen) → VarsBefore vs ps ts rest → length ps ≡ length vs
before_placed [] [] ts rest r = refl
before_placed (v ∷ vs) (p ∷ ps) ts rest r =
    let same : length ps ≡ length vs = before_placed vs ps r.2.0 rest r.2.2 in
    omega arith
before_placed [] (p ∷ ps) ts rest r = absurd r
before_placed (v ∷ vs) [] ts rest r = absurd r

vars_placed : (vs : List Bound) (ps : List Place) (ts rest : List Seen) → ReadsVars vs ps ts rest → length ps ≡ length vs
vars_placed vs ps ts rest r =
    let places : length ps ≡ length r.places + 1 = ap length r.all_places ∙ length-append r.places (r.last_place ∷ []) in
    let vars : length vs ≡ length r.vars + 1 = ap length r.all_vars ∙ length-append r.vars (r.last ∷ []) in
    let same : length r.places ≡ length r.vars = before_placed r.vars r.places ts r.read.0 r.read.1 in
    omega arith

all_placed : (vs : List Bound) (ps : List Place) (ts rest : List Seen) → ReadsAll vs ps ts rest → length ps ≡ length vs
all_placed vs ps ts rest (nothing no_vars no_places r) = ap length no_places ∙ sym (ap length no_vars)
all_placed vs ps ts rest (alone n p one_var one_place r) = ap length one_place ∙ sym (ap length one_var)
all_placed vs ps ts rest (listed r) = vars_placed vs ps r.2.0 r.2.2.0 r.2.2.1

module _ (OfType : List Seen → Written → Type 0) (OfPattern : List Seen → Pattern → Type 0) (OfExpr : List Seen → Expr → Type 0)
    (of_type : (ts : List Seen) (t : Written) → OfType ts t → IsShapedType t) (of_pattern : (ts : List Seen) (x : Pattern) → OfPattern ts x → IsShapedPattern x)
    (of_expr : (ts : List Seen) (e : Expr) → OfExpr ts e → IsShapedExpr e) where
  entry_shaped : (i : Entry) (ts rest : List Seen) → ReadsEntry OfType OfPattern OfExpr i ts rest → IsShapedEntry i
  entry_shaped (synonym at params body) ts rest r = let part = r.2.2.2.2 in of_type part.front body part.spelled
  entry_shaped (abstract at params) ts rest r = tt
  entry_shaped (signature at vars places ty) ts rest r =
      let on = r.2.2 in
      (all_placed vars places r.2.0 on.0 on.1, of_type on.2.front ty on.2.spelled)
  entry_shaped (define at param body) ts rest r =
      let part = r.2.2.2 in
      (of_pattern r.2.1.front param r.2.1.spelled, of_expr part.front body part.spelled)

  program_shaped : (items : List Entry) (ts rest : List Seen) → ReadsProgram OfType OfPattern OfExpr items ts rest → All IsShapedEntry items
  program_shaped [] ts rest r = All-nil IsShapedEntry
  program_shaped (i ∷ items) ts rest r = All-cons IsShapedEntry i items (entry_shaped i ts r.0 r.1) (program_shaped items r.0 rest r.2)

pub spelled_shaped : SpelledIsShaped
spelled_shaped bytes p s =
    let of_expr : (ts : List Seen) (e : Expr) → SpellsExpr ts e → IsShapedExpr e = spelled_expr_shaped SpellsType SpellsPattern spelled_type_shaped spelled_pattern_shaped in
    program_shaped SpellsType SpellsPattern SpellsExpr spelled_type_shaped spelled_pattern_shaped of_expr p (map seen s.0) [] s.2
