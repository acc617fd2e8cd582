-- The names that tokens spell begin with a small letter or `_` and go on as names do, and so do those of the functions of a program that a
-- text spells.
use Rattle.std.proofs.Common.{◌≡◌, inl, inr, ℕ, Bool, true, false, cond, List, [], ◌∷◌, ◌++◌, map, subst, codes}
use Rattle.std.specs.List.{AllByRecursion, filter_map}
use Rattle.std.specs.Str.{bytes_eq}
use Rattle.cg_base.specs.declared.kind.Bound.{Bound}
use Rattle.cg_base.specs.declared.place.Place.{Place}
use Rattle.cg_core.specs.declared.at.At.{At}
use Rattle.cg_resolve_def.specs.Desugar.{function_of_entry}
use Rattle.cg_lexer.specs.declared.token.TokenKind.{TokenKind}
use Rattle.cg_lexer.specs.declared.token.TokenKind.TheVariants.{Lower, Upper, Number, Word, Sign, End}
use Rattle.cg_lexer.specs.Tokens.{Cursor, Divides, IsTextOf, Lexeme, start}
use Rattle.cg_parser_def.specs.Grammar.{ReadsAll, ReadsEntry, ReadsParams, ReadsProgram, ReadsVar, ReadsVars, SpellsExpr, VarsBefore, nothing, alone, listed}
use Rattle.cg_parser_laws.specs.Laws.{IsNamed, SpelledIsNamed}
use Rattle.cg_parser_patterns.specs.Grammar.{SpellsPattern}
use Rattle.cg_parser_types.specs.Grammar.{SpellsType}
use Rattle.cg_surface.specs.Exprs.{Expr}
use Rattle.cg_surface.specs.Patterns.{Pattern}
use Rattle.cg_surface.specs.Programs.{Entry, synonym, abstract, signature, define}
use Rattle.cg_surface.specs.Written.{Written}
use Rattle.cg_parser_symbols.specs.Readings.{IsPart}
use Rattle.cg_parser_symbols.specs.Symbols.{Symbol, lower, mark_symbol, operator_symbol, Seen, seen, sign_symbol, symbol_of, word_symbol}

-- ---- symbols

-- the symbol of a name has the text of one
abbrev Tells : Symbol → Type 0
Tells (lower text) = IsNamed text
Tells _ = Unit {0}

pick : (b : Bool) (x y : Symbol) → Tells x → Tells y → Tells (cond b x y)
pick true x y a b = a
pick false x y a b = b

word_tells : (text : List ℕ) → Tells (word_symbol text)
word_tells text =
    pick (bytes_eq text (codes "type")) _ _ tt (pick (bytes_eq text (codes "let")) _ _ tt (pick (bytes_eq text (codes "in")) _ _ tt
    (pick (bytes_eq text (codes "take")) _ _ tt (pick (bytes_eq text (codes "all")) _ _ tt (pick (bytes_eq text (codes "and")) _ _ tt
    (pick (bytes_eq text (codes "if")) _ _ tt (pick (bytes_eq text (codes "then")) _ _ tt (pick (bytes_eq text (codes "else")) _ _ tt
    (pick (bytes_eq text (codes "not")) _ _ tt (pick (bytes_eq text (codes "complement")) _ _ tt (pick (bytes_eq text (codes "upcast")) _ _ tt
    (pick (bytes_eq text (codes "True")) _ _ tt (pick (bytes_eq text (codes "False")) _ _ tt tt)))))))))))))

operator_tells : (text : List ℕ) → Tells (operator_symbol text)
operator_tells text =
    pick (bytes_eq text (codes "+")) _ _ tt (pick (bytes_eq text (codes "-")) _ _ tt (pick (bytes_eq text (codes "*")) _ _ tt
    (pick (bytes_eq text (codes "/")) _ _ tt (pick (bytes_eq text (codes "%")) _ _ tt (pick (bytes_eq text (codes "<=")) _ _ tt
    (pick (bytes_eq text (codes ">=")) _ _ tt (pick (bytes_eq text (codes "==")) _ _ tt (pick (bytes_eq text (codes "/=")) _ _ tt
    (pick (bytes_eq text (codes "&&")) _ _ tt (pick (bytes_eq text (codes "||")) _ _ tt (pick (bytes_eq text (codes ".&.")) _ _ tt
    (pick (bytes_eq text (codes ".|.")) _ _ tt (pick (bytes_eq text (codes ".^.")) _ _ tt tt)))))))))))))

mark_tells : (text : List ℕ) (first : Bool) → Tells (mark_symbol text first)
mark_tells text first =
    pick (bytes_eq text (codes ":")) _ _ tt (pick (bytes_eq text (codes ":<")) _ _ tt (pick (bytes_eq text (codes "=")) _ _ tt
    (pick (bytes_eq text (codes "->")) _ _ tt (pick (bytes_eq text (codes "!")) _ _ tt (pick (bytes_eq text (codes "|")) _ _ tt
    (pick (bytes_eq text (codes ",")) _ _ tt (pick (bytes_eq text (codes ".")) _ _ tt (pick (bytes_eq text (codes "..")) _ _ tt
    (pick (bytes_eq text (codes "_")) _ _ tt (operator_tells text))))))))))

sign_tells : (text : List ℕ) (first joined : Bool) → Tells (sign_symbol text first joined)
sign_tells text first joined =
    pick (bytes_eq text (codes "(")) _ _ tt (pick (bytes_eq text (codes ")")) _ _ tt (pick (bytes_eq text (codes "{")) _ _ tt
    (pick (bytes_eq text (codes "}")) _ _ tt (pick (bytes_eq text (codes "#{")) _ _ tt (pick (bytes_eq text (codes "[")) _ _ tt
    (pick (bytes_eq text (codes "]")) _ _ tt (pick (bytes_eq text (codes "<")) _ _ tt (pick (bytes_eq text (codes ">")) _ _ tt
    (mark_tells text first)))))))))

symbol_tells : (kind : TokenKind) (text : List ℕ) (first joined : Bool) → IsTextOf kind text → Tells (symbol_of kind text first joined)
symbol_tells Lower text first joined fits = (fits.0, fits.1)
symbol_tells Upper text first joined fits = tt
symbol_tells (Number value) text first joined fits = tt
symbol_tells Word text first joined fits = word_tells text
symbol_tells Sign text first joined fits = sign_tells text first joined
symbol_tells End text first joined fits = tt

-- ---- tokens

abbrev AllTell : List Seen → Type 0
AllTell = AllByRecursion (λ s. Tells s.symbol)

divided : (ts : List Lexeme) (at after : Cursor) → Divides at ts after → AllTell (map seen ts)
divided [] at after d = tt
divided (t ∷ ts) at after d = (symbol_tells t.kind t.text t.first t.joined d.1.fits, divided ts d.0 after d.2)

-- what tells goes on to tell behind a reading
behind_part : (front rest : List Seen) → AllTell (front ++ rest) → AllTell rest
behind_part [] rest all = all
behind_part (s ∷ front) rest all = behind_part front rest all.1

behind_one : (s : Seen) (ts rest : List Seen) → ts ≡ s ∷ rest → AllTell ts → AllTell rest
behind_one s ts rest is all = (subst AllTell is all).1

first_tells : (s : Seen) (ts rest : List Seen) → ts ≡ s ∷ rest → AllTell ts → Tells s.symbol
first_tells s ts rest is all = (subst AllTell is all).0

behind_params : (ns : List At) (ts rest : List Seen) → ReadsParams ns ts rest → AllTell ts → AllTell rest
behind_params [] ts rest r all = subst AllTell r all
behind_params (n ∷ ns) ts rest r all = behind_params ns r.0 rest r.2 (behind_one _ ts r.0 r.1.1 all)

behind_var : (v : Bound) (p : Place) (ts rest : List Seen) → ReadsVar v p ts rest → AllTell ts → AllTell rest
behind_var v p ts rest (inl r) all = behind_one _ ts rest r.1.1 all
behind_var v p ts rest (inr r) all =
    let on = r.3 in
    behind_one _ on.2.0 rest on.2.2.1.1 (behind_one _ on.0 on.2.0 on.2.1.1.1 (behind_one _ ts on.0 on.1.1 all))

behind_before : (vs : List Bound) (ps : List Place) (ts rest : List Seen) → VarsBefore vs ps ts rest → AllTell ts → AllTell rest
behind_before [] [] ts rest r all = subst AllTell r all
behind_before (v ∷ vs) (p ∷ ps) ts rest r all =
    behind_before vs ps r.2.0 rest r.2.2 (behind_one _ r.0 r.2.0 r.2.1.1.1 (behind_var v p ts r.0 r.1 all))
behind_before [] (p ∷ ps) ts rest r all = absurd r
behind_before (v ∷ vs) [] ts rest r all = absurd r

behind_vars : (vs : List Bound) (ps : List Place) (ts rest : List Seen) → ReadsVars vs ps ts rest → AllTell ts → AllTell rest
behind_vars vs ps ts rest r all = behind_var r.last r.last_place r.read.0 rest r.read.2 (behind_before r.vars r.places ts r.read.0 r.read.1 all)

behind_all : (vs : List Bound) (ps : List Place) (ts rest : List Seen) → ReadsAll vs ps ts rest → AllTell ts → AllTell rest
behind_all vs ps ts rest (nothing no_vars no_places r) all = subst AllTell r all
behind_all vs ps ts rest (alone n p one_var one_place r) all =
    behind_one _ r.2.0 rest r.2.2.1.1 (behind_one _ r.0 r.2.0 r.2.1.1 (behind_one _ ts r.0 r.1.1.1 all))
behind_all vs ps ts rest (listed r) all =
    let vars = behind_vars vs ps r.2.0 r.2.2.0 r.2.2.1 (behind_one _ r.0 r.2.0 r.2.1.1.1 (behind_one _ ts r.0 r.1.1.1 all)) in
    behind_one _ r.2.2.2.0 rest r.2.2.2.2.1.1 (behind_one _ r.2.2.0 r.2.2.2.0 r.2.2.2.1.1.1 vars)

-- ---- programs

-- a signature has the text of a name
abbrev IsNamedEntry : Entry → Type 0
IsNamedEntry (signature at vars places ty) = IsNamed at.name
IsNamedEntry _ = Unit {0}

module _ (OfType : List Seen → Written → Type 0) (OfPattern : List Seen → Pattern → Type 0) (OfExpr : List Seen → Expr → Type 0) where
  behind_parted : {Tree : Type 0} (Of : List Seen → Tree → Type 0) (tree : Tree) (ts rest : List Seen) → IsPart Of tree ts rest → AllTell ts → AllTell rest
  behind_parted Of tree ts rest r all = behind_part r.front rest (subst AllTell r.parts all)

  entry_named : (i : Entry) (ts rest : List Seen) → ReadsEntry OfType OfPattern OfExpr i ts rest → AllTell ts → IsNamedEntry i × AllTell rest
  entry_named (synonym at params body) ts rest r all =
      let named = behind_one _ r.0 r.2.0 r.2.1.1 (behind_one _ ts r.0 r.1.1.1 all) in
      let listed' = behind_params params r.2.0 r.2.2.0 r.2.2.1 named in
      (tt, behind_parted OfType body r.2.2.2.0 rest r.2.2.2.2 (behind_one _ r.2.2.0 r.2.2.2.0 r.2.2.2.1.1.1 listed'))
  entry_named (abstract at params) ts rest r all =
      (tt, behind_params params r.2.0 rest r.2.2 (behind_one _ r.0 r.2.0 r.2.1.1 (behind_one _ ts r.0 r.1.1.1 all)))
  entry_named (signature at vars places ty) ts rest r all =
      let named = behind_one _ ts r.0 r.1.1 all in
      let bound = behind_all vars places r.2.0 r.2.2.0 r.2.2.1 (behind_one _ r.0 r.2.0 r.2.1.1.1 named) in
      (first_tells _ ts r.0 r.1.1 all, behind_parted OfType ty r.2.2.0 rest r.2.2.2 bound)
  entry_named (define at param body) ts rest r all =
      let named = behind_one _ ts r.0 r.1.1 all in
      let bound = behind_parted OfPattern param r.0 r.2.0 r.2.1 named in
      (tt, behind_parted OfExpr body r.2.2.0 rest r.2.2.2 (behind_one _ r.2.0 r.2.2.0 r.2.2.1.1.1 bound))

  program_named : (items : List Entry) (ts rest : List Seen) → ReadsProgram OfType OfPattern OfExpr items ts rest → AllTell ts → AllByRecursion IsNamedEntry items
  program_named [] ts rest r all = tt
  program_named (i ∷ items) ts rest r all = let here = entry_named i ts r.0 r.1 all in (here.0, program_named items r.0 rest r.2 here.1)

-- and so have the functions of the kernel
functions_named : (entries items : List Entry) → AllByRecursion IsNamedEntry items → AllByRecursion (λ f. IsNamed f.at.name) (filter_map (function_of_entry entries) items)
functions_named entries [] all = tt
functions_named entries (synonym at params body ∷ items) all = functions_named entries items all.1
functions_named entries (abstract at params ∷ items) all = functions_named entries items all.1
functions_named entries (signature at vars places ty ∷ items) all = (all.0, functions_named entries items all.1)
functions_named entries (define at param body ∷ items) all = functions_named entries items all.1

pub spelled_named : SpelledIsNamed
spelled_named bytes p (ts, lexed, read) =
    functions_named p p (program_named SpellsType SpellsPattern SpellsExpr p (map seen ts) [] read (divided ts (start bytes) lexed.0 lexed.1))
