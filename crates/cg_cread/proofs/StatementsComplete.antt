-- The machine reads each statement, each block and all cases that the tokens spell.
use Rattle.std.proofs.Common.{◌≡◌, ℕ, zero, suc, List, [], ◌∷◌, ◌++◌, refl, sym, ap, ◌∙◌, subst, append_assoc, true, false, Option, Some}
use Rattle.std.specs.Prelude.{codes}
use Rattle.std.proofs.lemmas.List.{append-nil}
use Rattle.cg_ctree.specs.declared.tree.CDecl.{CDecl}
use Rattle.cg_ctree.specs.declared.tree.COpnd.{COpnd}
use Rattle.cg_ctree.specs.Spells.{mark, token, ReadsTest, ReadsStmt, ReadsBlock, ReadsCases}
use Rattle.cg_ctree.specs.Tokens.{Lexeme}
use Rattle.cg_ctree.specs.Trees.{Stmt, assign, branch, while, switch, call, return', Block, stop, also, Cases, end, case, Case, to_block, to_cases, Program}
use Rattle.cg_cread_pieces.specs.Lines.{line_begin, line_step, line_end}
use Rattle.cg_cread_parts.specs.Symbols.{Symbol, named, keyed, count, begin, colon, semicolon, is_end, is_type, symbol_of, token_of}
use Rattle.cg_cread_parts.specs.Symbols as symbols
use Rattle.cg_cread_parts.specs.declared.head.Signature.{Signature}
use Rattle.cg_cread_pieces.specs.declared.line.Test.{Test}
use Rattle.cg_cread_pieces.specs.declared.line.Test.TheVariants as test
use Rattle.cg_cread_pieces.specs.declared.line.Line.{Line}
use Rattle.cg_cread_pieces.specs.declared.line.Line.TheVariants as line
use Rattle.cg_cread_parts.specs.declared.symbol.Keyword.{Keyword}
use Rattle.cg_cread_parts.specs.declared.symbol.Keyword.TheVariants as key
use Rattle.cg_cread_parts.proofs.Known.{Fits, back}
use Rattle.cg_cread_pieces.proofs.LineComplete.{assign_read, call_read, return_read, test_read}
use Rattle.cg_cread.specs.Blocks.{Level, Arms, Yes, No, Loop, InCase, Frame, frame, Gap, BehindYes, BehindElse, CaseWanted, CaseRead, Tagged, ColonRead, CaseClosed, BreakRead}
use Rattle.cg_cread.specs.Bodies.{Nest, Statements, InLine, InGap, ended, on_test, case_at}
use Rattle.cg_cread.specs.Machine.{State, InBody, in_body}
use Rattle.cg_cread.proofs.Steps.{nest_at, Gives, move, line_on, statement_on}

-- the statements of a block, and the cases of a `switch`
abbrev pub statements : Block → List Stmt
statements stop = []
statements (also s b) = s ∷ statements b

abbrev pub cases : Cases → List Case
cases end = []
cases (case n x cs) = record { tag = n; body = x } ∷ cases cs

pub block_back : (b : Block) → to_block (statements b) ≡ b
unfolding to_block
block_back stop = refl
block_back (also s b) = ap (also s) (block_back b)

pub cases_back : (cs : Cases) → to_cases (cases cs) ≡ cs
unfolding to_cases
cases_back end = refl
cases_back (case n x cs) = ap (case n x) (cases_back cs)

module _ (q p : Program) (s : Signature) (ls : List CDecl) where
  -- a body, before a statement
  abbrev pub before : List Frame → ℕ → List Stmt → State
  before fs room ss = InBody p (Statements (nest_at s ls fs room ss))

  -- ---- a statement, with its block round it

  module _ (fs : List Frame) (r : ℕ) (ss : List Stmt) where
    abbrev here : Nest
    here = nest_at s ls fs (suc r) ss

    in_line : (y : Symbol) → Fits y → symbols.goes_on y ≡ true → (m : Line) (ts rest : List Lexeme) → token (token_of y) ts rest → Gives q (InBody p (InLine r here (line_step m y))) rest → Gives q (InBody p (InLine r here m)) ts
    in_line y f i m ts rest t h =
        let Q : State → Type 0 = λ z. Gives q z rest in
        move q y f (InBody p (InLine r here m)) ts rest t (λ later. subst Q (sym (line_on p r here m y later i)) h)

    enter : (y : Symbol) → Fits y → is_end y ≡ false → (ts mid : List Lexeme) → token (token_of y) ts mid → Gives q (InBody p (InLine r here (line_begin y))) mid → Gives q (before fs (suc r) ss) ts
    enter y f i ts mid t h =
        let Q : State → Type 0 = λ z. Gives q z mid in
        move q y f (before fs (suc r) ss) ts mid t (λ later. subst Q (sym (statement_on p s ls fs r ss y later i)) h)

    -- at the `;` of a statement
    ending : (x : Stmt) (rest : List Lexeme) → Gives q (before fs (suc r) (ss ++ x ∷ [])) rest → (m : Line) (mid : List Lexeme) → line_end m ≡ Some x → mark (codes ";") mid rest → Gives q (InBody p (InLine r here m)) mid
    ending x rest h m mid e t =
        let Q : Option Stmt → Type 0 = λ z. Gives q (in_body p (ended here z)) rest in
        move q semicolon tt (InBody p (InLine r here m)) mid rest t (λ later. subst Q (sym e) h)

    -- a test and the `{` behind it
    tested_read : (t : Test) (w : Keyword) → line_begin (keyed w) ≡ line.TestRead t → (o : COpnd) (ts mid rest : List Lexeme) → ReadsTest (symbols.key_text w) o ts mid → mark (codes "{") mid rest → Gives q (InBody p (on_test r here t o)) rest → Gives q (before fs (suc r) ss) ts
    tested_read t w g o ts mid rest a b h =
        test_read (λ m us. Gives q (InBody p (InLine r here m)) us) in_line (λ us. Gives q (before fs (suc r) ss) us) enter t w g o ts mid a
        (move q begin tt (InBody p (InLine r here (line.TestClosed t o))) mid rest b (λ later. body_at t o rest h))
      where
        body_at : (t : Test) (o : COpnd) (rest : List Lexeme) → Gives q (InBody p (on_test r here t o)) rest → Gives q (in_body p (on_test r here t o)) rest
        body_at test.If o rest h = h
        body_at test.While o rest h = h
        body_at test.Switch o rest h = h

  -- ---- statements inside each other

  abbrev arms : COpnd → List Case → Arms
  arms o done = record { operand = o; cases = done }

  abbrev in_gap : List Frame → ℕ → List Stmt → Gap → State
  in_gap fs r ss g = InBody p (InGap r (nest_at s ls fs (suc r) ss) g)

  abbrev round : ℕ → List Stmt → Level
  round r ss = record { room = suc r; stmts = ss }

  -- a block behind its `{`, and its `}`
  mutual
    unfolding ReadsStmt ReadsBlock ReadsCases

    pub stmt_read : (x : Stmt) (fs : List Frame) (r : ℕ) (ss : List Stmt) (ts rest : List Lexeme) → ReadsStmt r x ts rest → Gives q (before fs (suc r) (ss ++ x ∷ [])) rest → Gives q (before fs (suc r) ss) ts
    stmt_read (assign a v) fs r ss ts rest h k =
        assign_read (λ m us. Gives q (InBody p (InLine r (here fs r ss) m)) us) (in_line fs r ss) (λ us. Gives q (before fs (suc r) ss) us) (enter fs r ss) a v ts rest h (ending fs r ss (assign a v) rest k)
    stmt_read (branch o a b) fs r ss ts rest h k =
        let c = h.2 in let d = c.2 in let e = d.2 in
        let xs = statements a in
        let Q : Block → Type 0 = λ z. Gives q (before fs (suc r) (ss ++ branch o z (to_block (statements b)) ∷ [])) rest in
        let S : Block → Type 0 = λ z. Gives q (before fs (suc r) (ss ++ branch o a z ∷ [])) rest in
        tested_read fs r ss test.If key.If refl o ts h.0 c.1.0 h.1 c.1.1
        (block_read a (frame (Yes o) (round r ss) ∷ fs) r [] c.1.0 c.1.2.0 c.1.2.1
        (move q symbols.end tt (before (frame (Yes o) (round r ss) ∷ fs) r xs) c.1.2.0 c.0 c.1.2.2 (λ later.
        move q (keyed key.Else) tt (in_gap fs r ss (BehindYes o xs)) c.0 d.0 d.1 (λ later.
        move q begin tt (in_gap fs r ss (BehindElse o xs)) d.0 e.0 e.1 (λ later.
        block_read b (frame (No o xs) (round r ss) ∷ fs) r [] e.0 e.2.0 e.2.1
        (move q symbols.end tt (before (frame (No o xs) (round r ss) ∷ fs) r (statements b)) e.2.0 rest e.2.2 (λ later.
        subst Q (sym (block_back a)) (subst S (sym (block_back b)) k))))))))
    stmt_read (while o a) fs r ss ts rest h k =
        let c = h.2 in
        let Q : Block → Type 0 = λ z. Gives q (before fs (suc r) (ss ++ while o z ∷ [])) rest in
        tested_read fs r ss test.While key.While refl o ts h.0 c.0 h.1 c.1
        (block_read a (frame (Loop o) (round r ss) ∷ fs) r [] c.0 c.2.0 c.2.1
        (move q symbols.end tt (before (frame (Loop o) (round r ss) ∷ fs) r (statements a)) c.2.0 rest c.2.2 (λ later. subst Q (sym (block_back a)) k)))
    stmt_read (switch o end) fs r ss ts rest h k = absurd h
    stmt_read (switch o (case n x cs)) fs r ss ts rest h k =
        let c = h.2 in
        let Q : Cases → Type 0 = λ z. Gives q (before fs (suc r) (ss ++ switch o z ∷ [])) rest in
        tested_read fs r ss test.Switch key.Switch refl o ts h.0 c.0 h.1 c.1
        (cases_read (case n x cs) fs r ss o [] c.0 c.2.0 c.2.1
        (move q symbols.end tt (in_gap fs r ss (CaseWanted (arms o (cases (case n x cs))))) c.2.0 rest c.2.2 (λ later. subst Q (sym (cases_back (case n x cs))) k)))
    stmt_read (call f os) fs r ss ts rest h k =
        call_read (λ m us. Gives q (InBody p (InLine r (here fs r ss) m)) us) (in_line fs r ss) (λ us. Gives q (before fs (suc r) ss) us) (enter fs r ss) f os ts rest h (ending fs r ss (call f os) rest k)
    stmt_read (return' o) fs r ss ts rest h k =
        return_read (λ m us. Gives q (InBody p (InLine r (here fs r ss) m)) us) (in_line fs r ss) (λ us. Gives q (before fs (suc r) ss) us) (enter fs r ss) o ts rest h (ending fs r ss (return' o) rest k)

    pub block_read : (b : Block) (fs : List Frame) (room : ℕ) (ss : List Stmt) (ts rest : List Lexeme) → ReadsBlock room b ts rest → Gives q (before fs room (ss ++ statements b)) rest → Gives q (before fs room ss) ts
    block_read stop fs room ss ts rest h k =
        let Q : List Stmt → Type 0 = λ z. Gives q (before fs room z) rest in
        let S : List Lexeme → Type 0 = λ us. Gives q (before fs room ss) us in
        subst S (sym h) (subst Q (append-nil ss) k)
    block_read (also x b) fs zero ss ts rest h k = absurd h
    block_read (also x b) fs (suc r) ss ts rest h k =
        let Q : List Stmt → Type 0 = λ z. Gives q (before fs (suc r) z) rest in
        stmt_read x fs r ss ts h.0 h.1 (block_read b fs (suc r) (ss ++ x ∷ []) h.0 rest h.2 (subst Q (sym (append_assoc ss (x ∷ []) (statements b))) k))

    cases_read : (cs : Cases) (fs : List Frame) (r : ℕ) (ss : List Stmt) (o : COpnd) (done : List Case) (ts rest : List Lexeme) → ReadsCases r cs ts rest → Gives q (in_gap fs r ss (CaseWanted (arms o (done ++ cases cs)))) rest → Gives q (in_gap fs r ss (CaseWanted (arms o done))) ts
    cases_read end fs r ss o done ts rest h k =
        let Q : List Case → Type 0 = λ z. Gives q (in_gap fs r ss (CaseWanted (arms o z))) rest in
        let S : List Lexeme → Type 0 = λ us. Gives q (in_gap fs r ss (CaseWanted (arms o done))) us in
        subst S (sym h) (subst Q (append-nil done) k)
    cases_read (case n x cs) fs r ss o done ts rest h k =
        let g = h.1 in let t = g.1 in let u = t.2 in let v = u.2 in let w = v.2 in let z = w.2 in
        let b = w.1 in
        let a = arms o done in
        let c : Case = case_at n (statements x) in
        let Q : List Case → Type 0 = λ y. Gives q (in_gap fs r ss (CaseWanted (arms o y))) rest in
        let S : Block → Type 0 = λ y. Gives q (in_gap fs r ss (CaseWanted (arms o (done ++ record { tag = n; body = y } ∷ cases cs)))) rest in
        move q (keyed key.Case) tt (in_gap fs r ss (CaseWanted a)) ts t.0 t.1 (λ later.
        move q (count n) h.0 (in_gap fs r ss (CaseRead a)) t.0 u.0 u.1 (λ later.
        move q colon tt (in_gap fs r ss (Tagged a n)) u.0 v.0 v.1 (λ later.
        move q begin tt (in_gap fs r ss (ColonRead a n)) v.0 b.0 b.1 (λ later.
        block_read x (frame (InCase a n) (round r ss) ∷ fs) r [] b.0 b.2.0 b.2.1
        (move q symbols.end tt (before (frame (InCase a n) (round r ss) ∷ fs) r (statements x)) b.2.0 w.0 b.2.2 (λ later.
        move q (keyed key.Break) tt (in_gap fs r ss (CaseClosed a c)) w.0 z.0 z.1 (λ later.
        move q semicolon tt (in_gap fs r ss (BreakRead a c)) z.0 g.0 z.2 (λ later.
        cases_read cs fs r ss o (done ++ c ∷ []) g.0 rest g.2
        (subst Q (sym (append_assoc done (c ∷ []) (cases cs))) (subst S (sym (block_back x)) k))))))))))

-- ---- no type stands where a block is wanted

-- the first of the tokens, which begins no type
abbrev pub NoType : List Lexeme → Type 0
NoType ts = (t : Lexeme) × (us : List Lexeme) × (ts ≡ t ∷ us) × (is_type (symbol_of t.token) ≡ false)

first_of : (y : Symbol) → Fits y → is_type y ≡ false → (ts rest : List Lexeme) → token (token_of y) ts rest → NoType ts
first_of y f i ts rest r = (record { token = token_of y; later = r.0 }, rest, r.1, ap is_type (back y f) ∙ i)

stmt_starts : (x : Stmt) (r : ℕ) (ts rest : List Lexeme) → ReadsStmt r x ts rest → NoType ts
unfolding ReadsStmt
stmt_starts (assign a v) r ts rest h = first_of (named a.base) tt refl ts h.1.0 h.1.1
stmt_starts (branch o a b) r ts rest h = first_of (keyed key.If) tt refl ts h.1.0 h.1.1
stmt_starts (while o a) r ts rest h = first_of (keyed key.While) tt refl ts h.1.0 h.1.1
stmt_starts (switch o end) r ts rest h = absurd h
stmt_starts (switch o (case n x cs)) r ts rest h = first_of (keyed key.Switch) tt refl ts h.1.0 h.1.1
stmt_starts (call f os) r ts rest h = first_of (named f) tt refl ts h.0 h.1
stmt_starts (return' o) r ts rest h = first_of (keyed key.Return) tt refl ts h.0 h.1

pub block_starts : (b : Block) (room : ℕ) (ts mid rest : List Lexeme) → ReadsBlock room b ts mid → mark (codes "}") mid rest → NoType ts
unfolding ReadsBlock
block_starts stop room ts mid rest h e = let Q : List Lexeme → Type 0 = λ us. mark (codes "}") us rest in first_of symbols.end tt refl ts rest (subst Q (sym h) e)
block_starts (also x b) zero ts mid rest h e = absurd h
block_starts (also x b) (suc r) ts mid rest h e = stmt_starts x r ts h.0 h.1
