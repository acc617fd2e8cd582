-- Which tokens spell which program, and which bytes (docs/LANGUAGE.md, "Items").
use Rattle.std.specs.Prelude.{◌≡◌, ◌⊎◌, ℕ, Bool, true, false, ◌==◌, ◌||◌, List, [], ◌∷◌, ◌++◌, map}
use Rattle.std.specs.List.{list_all, list_any}
use Rattle.cg_base.specs.declared.kind.Bound.{Bound}
use Rattle.cg_base.specs.declared.kind.Kinds.{Kinds}
use Rattle.cg_base.specs.declared.place.Place.{Place}
use Rattle.cg_core.specs.declared.at.At.{At}
use Rattle.cg_lexer.specs.Tokens.{Lexeme, Lexes}
use Rattle.cg_surface.specs.Written.{Written}
use Rattle.cg_surface.specs.Patterns.{Pattern}
use Rattle.cg_surface.specs.Exprs.{Expr}
use Rattle.cg_surface.specs.Programs.{Entry, synonym, abstract, signature, define}
use Rattle.cg_parser_symbols.specs.Symbols.{Symbol, lower, upper, type_word, all_word, opening, closing, colon, has_kinds, equals, comma, dot, Seen, seen}
use Rattle.cg_parser_symbols.specs.Readings.{Reading, ◌then◌, head, inner, inner_sign, IsPart}
use Rattle.cg_parser_types.specs.Grammar.{SpellsType}
use Rattle.cg_parser_patterns.specs.Grammar.{SpellsPattern}
use Rattle.cg_parser_exprs_def.specs.Grammar as exprs

-- the letters of kinds: D, S and E
abbrev pub is_letter : ℕ → Bool
is_letter c = c == 68 || c == 83 || c == 69

abbrev pub are_letters : List ℕ → Bool
are_letters text = list_all is_letter text

-- the kinds that letters give, and those of a variable with no constraint
abbrev pub kinds_of : List ℕ → Kinds
kinds_of text = record { drop = list_any (λ c. c == 68) text; share = list_any (λ c. c == 83) text; escape = list_any (λ c. c == 69) text }

abbrev pub no_kinds : Kinds
no_kinds = record { drop = false; share = false; escape = false }

abbrev pub bound : List ℕ → Kinds → Bound
bound n kinds = record { name = n; kinds = kinds }

-- the parameters of a type
abbrev pub ReadsParams : List At → Reading
ReadsParams [] ts rest = ts ≡ rest
ReadsParams (n ∷ ns) ts rest = (inner (lower n.name) n.place then ReadsParams ns) ts rest

-- a type variable at its place, without a constraint or with one
abbrev pub ReadsVar : Bound → Place → Reading
ReadsVar v p ts rest =
    ((v ≡ bound v.name no_kinds) × inner (lower v.name) p ts rest)
    ⊎ ((letters : List ℕ) × (are_letters letters ≡ true) × (v ≡ bound v.name (kinds_of letters)) × (inner (lower v.name) p then inner_sign has_kinds then inner_sign (upper letters)) ts rest)

-- type variables, each with a comma behind it; and some parted by commas
abbrev pub VarsBefore : List Bound → List Place → Reading
VarsBefore [] [] ts rest = ts ≡ rest
VarsBefore (v ∷ vs) (p ∷ ps) ts rest = (ReadsVar v p then inner_sign comma then VarsBefore vs ps) ts rest
VarsBefore [] (p ∷ ps) ts rest = ⊥
VarsBefore (v ∷ vs) [] ts rest = ⊥

pub record ReadsVars (vs : List Bound) (ps : List Place) (ts rest : List Seen) : Type 0 where
  pub vars : List Bound
  pub places : List Place
  pub last : Bound
  pub last_place : Place
  pub all_vars : vs ≡ vars ++ last ∷ []
  pub all_places : ps ≡ places ++ last_place ∷ []
  pub read : (VarsBefore vars places then ReadsVar last last_place) ts rest

-- what binds type variables in front of a type: nothing, `all` with one variable, or `all` with some in parentheses
pub data ReadsAll (vs : List Bound) (ps : List Place) (ts rest : List Seen) : Type 0 where
  nothing : vs ≡ [] → ps ≡ [] → ts ≡ rest → ReadsAll vs ps ts rest
  alone : (n : List ℕ) (p : Place) → vs ≡ bound n no_kinds ∷ [] → ps ≡ p ∷ [] → (inner_sign all_word then inner (lower n) p then inner_sign dot) ts rest → ReadsAll vs ps ts rest
  listed : (inner_sign all_word then inner_sign opening then ReadsVars vs ps then inner_sign closing then inner_sign dot) ts rest → ReadsAll vs ps ts rest

-- a symbol at column 1, at a place that no tree keeps
abbrev pub head_sign : Symbol → Reading
head_sign s ts rest = (p : Place) × head s p ts rest

-- Items, where these are the tokens that spell types, patterns and expressions. Only the first token of an item stands at
-- column 1.
module _ (OfType : List Seen → Written → Type 0) (OfPattern : List Seen → Pattern → Type 0) (OfExpr : List Seen → Expr → Type 0) where
  abbrev pub ReadsEntry : Entry → Reading
  ReadsEntry (synonym at params body) ts rest =
      (head_sign type_word then inner (upper at.name) at.place then ReadsParams params then inner_sign equals then IsPart OfType body) ts rest
  ReadsEntry (abstract at params) ts rest = (head_sign type_word then inner (upper at.name) at.place then ReadsParams params) ts rest
  ReadsEntry (signature at vars places ty) ts rest =
      (head (lower at.name) at.place then inner_sign colon then ReadsAll vars places then IsPart OfType ty) ts rest
  ReadsEntry (define at param body) ts rest =
      (head (lower at.name) at.place then IsPart OfPattern param then inner_sign equals then IsPart OfExpr body) ts rest

  abbrev pub ReadsProgram : List Entry → Reading
  ReadsProgram [] ts rest = ts ≡ rest
  ReadsProgram (i ∷ items) ts rest = (ReadsEntry i then ReadsProgram items) ts rest

-- the tokens that spell an expression, over those that spell types and patterns
abbrev pub SpellsExpr : List Seen → Expr → Type 0
SpellsExpr = exprs.SpellsExpr SpellsType SpellsPattern

-- the tokens spell the program
abbrev pub SpellsTokens : List Seen → List Entry → Type 0
SpellsTokens ts p = ReadsProgram SpellsType SpellsPattern SpellsExpr p ts []

-- the bytes are a text of the program
abbrev pub Spells : List ℕ → List Entry → Type 0
Spells bytes p = (ts : List Lexeme) × Lexes bytes ts × SpellsTokens (map seen ts) p
