-- The machine, token by token, on what the tokens spell.
use Rattle.std.proofs.Common.{◌≡◌, ℕ, suc, List, refl, ap, ◌∙◌, true, false, Bool, cond, Some, arith}
use Rattle.std.specs.Prelude.{◌&&◌, ◌==◌, ◌-◌, not}
use Rattle.std.proofs.lemmas.Bool.Decides.{nat_tests}
use Rattle.cg_base.specs.Reader.{run as reader_run}
use Rattle.cg_ctree.specs.declared.tree.CDecl.{CDecl}
use Rattle.cg_ctree.specs.Spells.{token}
use Rattle.cg_ctree.specs.Tokens.{Lexeme}
use Rattle.cg_ctree.specs.Trees.{Stmt, Program}
use Rattle.cg_cread_parts.specs.Declarations.{is_whole, row_step}
use Rattle.cg_cread_parts.specs.Heads.{head_step}
use Rattle.cg_cread_pieces.specs.Lines.{line_begin, line_step}
use Rattle.cg_cread_parts.specs.Symbols.{Symbol, begin, end, semicolon, is_type, goes_on, is_end, token_of}
use Rattle.cg_cread_parts.specs.declared.declaration.Declaration.{Declaration}
use Rattle.cg_cread_parts.specs.declared.declaration.Declaration.TheVariants.{Wanted}
use Rattle.cg_cread_parts.specs.declared.declaration.Row.{Row}
use Rattle.cg_cread_parts.specs.declared.head.Head.{Head}
use Rattle.cg_cread_parts.specs.declared.head.Signature.{Signature}
use Rattle.cg_cread_pieces.specs.declared.line.Line.{Line}
use Rattle.cg_cread_parts.proofs.DeclarationComplete.{in_row, in_a_row, in_head}
use Rattle.cg_cread_parts.proofs.Known.{Fits, back}
use Rattle.cg_cread.specs.Blocks.{Frame}
use Rattle.cg_cread.specs.Bodies.{Nest, Locals, Statements, InLine, on_statements, on_statement, nest}
use Rattle.cg_cread.specs.Bodies as bodies
use Rattle.cg_cread.specs.Machine.{State, InHead, InMembers, InBody, in_body, on_head, on_members, at, finish, reader}

abbrev pub run : State → List Lexeme → State
run = reader_run reader

-- a function as it is read
abbrev pub nest_at : Signature → List CDecl → List Frame → ℕ → List Stmt → Nest
nest_at s ls fs room ss = record { head = s; locals = ls; frames = fs; level = record { room = room; stmts = ss } }

module _ (q : Program) where
  -- the rest of the tokens completes the program
  abbrev pub Gives : State → List Lexeme → Type 0
  Gives s ts = finish (run s ts) ≡ Some q

  -- one token
  pub move : (y : Symbol) → Fits y → (s : State) (ts rest : List Lexeme) → token (token_of y) ts rest → ((later : Bool) → Gives (at s y later) rest) → Gives s ts
  move y f s ts rest r h = ap (λ x. finish (run s x)) r.1 ∙ ap (λ z. finish (run (at s z r.0) rest)) (back y f) ∙ h r.0

-- ---- which symbols go into the pieces

pub line_on : (p : Program) (r : ℕ) (n : Nest) (m : Line) (y : Symbol) (later : Bool) → goes_on y ≡ true → at (InBody p (InLine r n m)) y later ≡ InBody p (InLine r n (line_step m y))
line_on p r n m semicolon later i = cc
line_on p r n m begin later i = cc
line_on p r n m _ later i = refl

-- a statement begins at each symbol but `}`
statements_at : (n : Nest) (y : Symbol) → is_end y ≡ false → on_statements n y ≡ on_statement n y
statements_at n end i = cc
statements_at n _ i = refl

pub statement_on : (p : Program) (s : Signature) (ls : List CDecl) (fs : List Frame) (r : ℕ) (ss : List Stmt) (y : Symbol) (later : Bool) → is_end y ≡ false → at (InBody p (Statements (nest_at s ls fs (suc r) ss))) y later ≡ InBody p (InLine r (nest_at s ls fs (suc r) ss) (line_begin y))
statement_on p s ls fs r ss y later i =
    let n = nest_at s ls fs (suc r) ss in
    let some : (suc r == 0) ≡ false = grind (arith, nat_tests) in
    let less : suc r - 1 ≡ r = omega arith in
    ap (in_body p) (statements_at n y i)
    ∙ ap (λ b. in_body p (cond b bodies.Stuck (InLine (suc r - 1) n (line_begin y)))) some
    ∙ ap (λ k. InBody p (InLine k n (line_begin y))) less

row_stays : (m : Declaration) (y : Symbol) → in_row m y ≡ true → (is_whole m && not (is_type y)) ≡ false
row_stays Wanted semicolon i = cc
row_stays Wanted y i = ap not (wanted y i)
  where
    wanted : (y : Symbol) → in_row Wanted y ≡ true → is_type y ≡ true
    wanted semicolon i = cc
    wanted y i = i
row_stays _ y i = refl

pub locals_on : (p : Program) (s : Signature) (r : Row) (y : Symbol) (later : Bool) → in_a_row r y ≡ true → at (InBody p (Locals s r)) y later ≡ InBody p (Locals s (row_step r y))
locals_on p s r y later i = ap (λ b. in_body p (cond b (on_statements (nest s r.before) y) (Locals s (row_step r y)))) (row_stays r.at y i)

end_outside : (m : Declaration) → in_row m end ≡ false
end_outside Wanted = refl
end_outside _ = refl

members_at : (p : Program) (x : List ℕ) (r : Row) (y : Symbol) → in_a_row r y ≡ true → on_members p x r y ≡ InMembers p x (row_step r y)
members_at p x r end i = let n : in_row r.at end ≡ false = end_outside r.at in cc
members_at p x r _ i = refl

pub members_on : (p : Program) (x : List ℕ) (r : Row) (y : Symbol) (later : Bool) → in_a_row r y ≡ true → at (InMembers p x r) y later ≡ InMembers p x (row_step r y)
members_on p x r y later i = members_at p x r y i

head_at : (p : Program) (m : Head) (y : Symbol) → in_head y ≡ true → on_head p m y ≡ InHead p (head_step m y)
head_at p m begin i = cc
head_at p m semicolon i = cc
head_at p m _ i = refl

pub head_on : (p : Program) (m : Head) (y : Symbol) (later : Bool) → in_head y ≡ true → at (InHead p m) y later ≡ InHead p (head_step m y)
head_on p m y later i = head_at p m y i

-- a first statement, or the end of a body, behind the locals
pub first_on : (p : Program) (s : Signature) (ls : List CDecl) (y : Symbol) (later : Bool) → is_type y ≡ false → at (InBody p (Locals s (record { before = ls; at = Wanted }))) y later ≡ at (InBody p (Statements (nest s ls))) y later
first_on p s ls y later i = ap (λ b. in_body p (cond (not b) (on_statements (nest s ls) y) (Locals s (row_step (record { before = ls; at = Wanted }) y)))) i
