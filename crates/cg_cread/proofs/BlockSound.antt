-- What has been read between the blocks of a statement, and of what is open, is what it spells.
use Rattle.std.proofs.Common.{◌≡◌, ℕ, ◌<◌, ◌^◌, suc, List, [], ◌∷◌, ◌++◌, refl, sym, subst, Option, Some, None}
use Rattle.std.specs.Prelude.{codes, decimal, ⊤}
use Rattle.cg_ctree.specs.declared.tree.COpnd.{COpnd}
use Rattle.cg_ctree.specs.Spells.{Reading, ◌then◌, token, keyword, mark, most_open, braced, tagged, ReadsTest, ReadsStmt, ReadsBlock, ReadsCases}
use Rattle.cg_ctree.specs.Tokens.{plain, Lexeme}
use Rattle.cg_ctree.specs.Trees.{Stmt, Case, to_block, to_cases}
use Rattle.cg_cread_parts.specs.Symbols.{Symbol, keyed, count, colon, semicolon, begin, end}
use Rattle.cg_cread_parts.specs.declared.symbol.Keyword.TheVariants as key
use Rattle.cg_cread_parts.proofs.Known.{Means, seen}
use Rattle.cg_cread_pieces.proofs.LineSound.{LineIs}
use Rattle.cg_cread_parts.proofs.Lists.{front}
use Rattle.cg_cread.specs.Blocks.{Level, Arms, Opened, Yes, No, Loop, InCase, Frame, frame, Gap, BehindYes, BehindElse, CaseWanted, CaseRead, Tagged, ColonRead, CaseClosed, BreakRead, Stuck, on_yes, on_wanted, on_case, on_tag, on_closed, on_break, gap_step, gap_opens, switched, gap_end}

-- what is read of a `switch`, with its cases
abbrev pub SwitchRead : ℕ → Arms → Reading
SwitchRead r a = ReadsTest (codes "switch") a.operand then mark (codes "{") then ReadsCases r (to_cases a.cases)

-- what is read between blocks
abbrev pub GapRead : ℕ → Gap → Reading
GapRead r (BehindYes o xs) all rest = (ReadsTest (codes "if") o then braced (ReadsBlock r (to_block xs))) all rest
GapRead r (BehindElse o xs) all rest = (ReadsTest (codes "if") o then braced (ReadsBlock r (to_block xs)) then keyword (codes "else")) all rest
GapRead r (CaseWanted a) all rest = SwitchRead r a all rest
GapRead r (CaseRead a) all rest = (SwitchRead r a then keyword (codes "case")) all rest
GapRead r (Tagged a n) all rest = (n < 2 ^ 64) × (SwitchRead r a then keyword (codes "case") then token (plain (decimal n))) all rest
GapRead r (ColonRead a n) all rest = (n < 2 ^ 64) × (SwitchRead r a then keyword (codes "case") then token (plain (decimal n)) then mark (codes ":")) all rest
GapRead r (CaseClosed a c) all rest = (c.tag < 2 ^ 64) × (SwitchRead r a then keyword (codes "case") then token (plain (decimal c.tag)) then mark (codes ":") then braced (ReadsBlock r c.body)) all rest
GapRead r (BreakRead a c) all rest = (c.tag < 2 ^ 64) × (SwitchRead r a then keyword (codes "case") then token (plain (decimal c.tag)) then mark (codes ":") then braced (ReadsBlock r c.body) then keyword (codes "break")) all rest
GapRead r Stuck all rest = ⊤

-- what is read of an open statement, up to the block that is in it
abbrev pub OpenedRead : ℕ → Opened → Reading
OpenedRead r (Yes o) all rest = (ReadsTest (codes "if") o then mark (codes "{")) all rest
OpenedRead r (No o xs) all rest = (GapRead r (BehindElse o xs) then mark (codes "{")) all rest
OpenedRead r (Loop o) all rest = (ReadsTest (codes "while") o then mark (codes "{")) all rest
OpenedRead r (InCase a n) all rest = (n < 2 ^ 64) × (SwitchRead r a then keyword (codes "case") then token (plain (decimal n)) then mark (codes ":") then mark (codes "{")) all rest

-- what is read of the statements of a body, with what is open
abbrev pub StackRead : List Frame → Level → Reading
StackRead [] l all rest = (l.room ≡ most_open) × ReadsBlock l.room (to_block l.stmts) all rest
StackRead (frame o k ∷ fs) l all rest = (k.room ≡ suc l.room) × (StackRead fs k then OpenedRead l.room o then ReadsBlock l.room (to_block l.stmts)) all rest

-- what is opened
abbrev pub OpensIs : ℕ → Option Opened → Reading
OpensIs r None all rest = ⊤
OpensIs r (Some o) all rest = OpenedRead r o all rest

-- ---- statements and cases more

inner_behind : (r : ℕ) (ss : List Stmt) (s : Stmt) (ts mid rest : List Lexeme) → ReadsBlock (suc r) (to_block ss) ts mid → ReadsStmt r s mid rest → ReadsBlock (suc r) (to_block (ss ++ s ∷ [])) ts rest
unfolding ReadsBlock to_block
inner_behind r [] s ts mid rest h k = (rest, front (ReadsStmt r s) ts mid rest h k, refl)
inner_behind r (u ∷ ss) s ts mid rest h k = (h.0, h.1, inner_behind r ss s h.0 mid rest h.2 k)

statement_behind : (room r : ℕ) → room ≡ suc r → (ss : List Stmt) (s : Stmt) (ts mid rest : List Lexeme) → ReadsBlock room (to_block ss) ts mid → ReadsStmt r s mid rest → ReadsBlock room (to_block (ss ++ s ∷ [])) ts rest
statement_behind room r e ss s ts mid rest h k =
    let P : ℕ → Type 0 = λ z. ReadsBlock z (to_block ss) ts mid in
    let Q : ℕ → Type 0 = λ z. ReadsBlock z (to_block (ss ++ s ∷ [])) ts rest in
    subst Q (sym e) (inner_behind r ss s ts mid rest (subst P e h) k)

pub no_statement : (room : ℕ) (ts : List Lexeme) → ReadsBlock room (to_block []) ts ts
unfolding ReadsBlock to_block
no_statement room ts = refl

pub no_case_read : (room : ℕ) (ts : List Lexeme) → ReadsCases room (to_cases []) ts ts
unfolding ReadsCases to_cases
no_case_read room ts = refl

cases_behind : (r : ℕ) (cs : List Case) (c : Case) (ts mid rest : List Lexeme) → ReadsCases r (to_cases cs) ts mid → c.tag < 2 ^ 64 → tagged c.tag (ReadsBlock r c.body) mid rest → ReadsCases r (to_cases (cs ++ c ∷ [])) ts rest
unfolding ReadsCases to_cases
cases_behind r [] c ts mid rest h f k = (f, (rest, front (tagged c.tag (ReadsBlock r c.body)) ts mid rest h k, refl))
cases_behind r (d ∷ cs) c ts mid rest h f k = (h.0, (h.1.0, h.1.1, cases_behind r cs c h.1.0 mid rest h.1.2 f k))

-- a statement more, whatever is open
pub stack_more : (fs : List Frame) (l : Level) (r : ℕ) → l.room ≡ suc r → (s : Stmt) (all mid rest : List Lexeme) → StackRead fs l all mid → ReadsStmt r s mid rest → StackRead fs (record { room = l.room; stmts = l.stmts ++ s ∷ [] }) all rest
stack_more [] l r e s all mid rest h k = (h.0, statement_behind l.room r e l.stmts s all mid rest h.1 k)
stack_more (frame o j ∷ fs) l r e s all mid rest h k =
    let a = h.1 in let b = a.2 in
    (h.0, (a.0, a.1, (b.0, b.1, statement_behind l.room r e l.stmts s b.0 mid rest b.2 k)))

-- ---- between blocks

module _ (t : Lexeme) (rest all : List Lexeme) (r : ℕ) where
  yes_holds : (o : COpnd) (xs : List Stmt) (y : Symbol) → Means t.token y → GapRead r (BehindYes o xs) all (t ∷ rest) → GapRead r (on_yes o xs y) all rest
  yes_holds o xs (keyed key.Else) h q = (q.0, q.1, (_, q.2, seen _ t rest h))
  yes_holds o xs _ h q = tt

  wanted_holds : (a : Arms) (y : Symbol) → Means t.token y → GapRead r (CaseWanted a) all (t ∷ rest) → GapRead r (on_wanted a y) all rest
  wanted_holds a (keyed key.Case) h q = (_, q, seen _ t rest h)
  wanted_holds a _ h q = tt

  case_holds : (a : Arms) (y : Symbol) → Means t.token y → GapRead r (CaseRead a) all (t ∷ rest) → GapRead r (on_case a y) all rest
  case_holds a (count n) h q = (h.0, (q.0, q.1, (_, q.2, seen _ t rest h.1)))
  case_holds a _ h q = tt

  tag_holds : (a : Arms) (n : ℕ) (y : Symbol) → Means t.token y → GapRead r (Tagged a n) all (t ∷ rest) → GapRead r (on_tag a n y) all rest
  tag_holds a n colon h q = let b = q.1 in let c = b.2 in (q.0, (b.0, b.1, (c.0, c.1, (_, c.2, seen _ t rest h))))
  tag_holds a n _ h q = tt

  closed_holds : (a : Arms) (c : Case) (y : Symbol) → Means t.token y → GapRead r (CaseClosed a c) all (t ∷ rest) → GapRead r (on_closed a c y) all rest
  closed_holds a c (keyed key.Break) h q =
      let b = q.1 in let d = b.2 in let e = d.2 in let f = e.2 in
      (q.0, (b.0, b.1, (d.0, d.1, (e.0, e.1, (f.0, f.1, (_, f.2, seen _ t rest h))))))
  closed_holds a c _ h q = tt

  break_holds : (a : Arms) (c : Case) (y : Symbol) → Means t.token y → GapRead r (BreakRead a c) all (t ∷ rest) → GapRead r (on_break a c y) all rest
  break_holds a c semicolon h q =
      let b = q.1 in let d = b.2 in let e = d.2 in let f = e.2 in let g = f.2 in
      let s = b.1 in let u = s.2 in
      (s.0, s.1, (u.0, u.1, cases_behind r a.cases c u.0 b.0 rest u.2 q.0 (d.0, d.1, (e.0, e.1, (f.0, f.1, (g.0, g.1, (_, g.2, seen _ t rest h)))))))
  break_holds a c _ h q = tt

  -- one token more between blocks
  pub gap_holds : (g : Gap) (y : Symbol) → Means t.token y → GapRead r g all (t ∷ rest) → GapRead r (gap_step g y) all rest
  gap_holds (BehindYes o xs) y h q = yes_holds o xs y h q
  gap_holds (BehindElse o xs) y h q = tt
  gap_holds (CaseWanted a) y h q = wanted_holds a y h q
  gap_holds (CaseRead a) y h q = case_holds a y h q
  gap_holds (Tagged a n) y h q = tag_holds a n y h q
  gap_holds (ColonRead a n) y h q = tt
  gap_holds (CaseClosed a c) y h q = closed_holds a c y h q
  gap_holds (BreakRead a c) y h q = break_holds a c y h q
  gap_holds Stuck y h q = tt

  -- at a `{`
  pub opens_is : Means t.token begin → (g : Gap) → GapRead r g all (t ∷ rest) → OpensIs r (gap_opens g) all rest
  opens_is h (BehindElse o xs) q = (_, q, seen _ t rest h)
  opens_is h (ColonRead a n) q =
      let b = q.1 in let d = b.2 in let e = d.2 in
      (q.0, (b.0, b.1, (d.0, d.1, (e.0, e.1, (_, e.2, seen _ t rest h)))))
  opens_is h _ q = tt

  -- at a `}`
  switched_is : Means t.token end → (o : COpnd) (cs : List Case) → (ReadsTest (codes "switch") o then mark (codes "{") then ReadsCases r (to_cases cs)) all (t ∷ rest) → LineIs r (switched o cs) all rest
  unfolding ReadsStmt to_cases
  switched_is h o [] q = tt
  switched_is h o (c ∷ cs) q = let u = q.2 in (q.0, q.1, (u.0, u.1, (_, u.2, seen _ t rest h)))

  pub gap_is : Means t.token end → (g : Gap) → GapRead r g all (t ∷ rest) → LineIs r (gap_end g) all rest
  gap_is h (CaseWanted a) q = switched_is h a.operand a.cases q
  gap_is h _ q = tt
