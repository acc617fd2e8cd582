-- What has been read of a function is what its state spells.
use Rattle.std.proofs.Common.{◌≡◌, ℕ, zero, suc, List, [], ◌∷◌, refl, subst, true, false, Option, Some, None, arith}
use Rattle.std.specs.Prelude.{codes, ⊤, ◌&&◌, ◌==◌, ◌-◌, not}
use Rattle.cg_base.proofs.Spans.{either_way}
use Rattle.cg_ctree.specs.declared.tree.CDecl.{CDecl}
use Rattle.cg_ctree.specs.declared.tree.COpnd.{COpnd}
use Rattle.cg_ctree.specs.Spells.{Reading, ◌then◌, mark, most_open, ReadsStmt, ReadsBlock, ReadsLocals, ReadsFunction}
use Rattle.cg_ctree.specs.Tokens.{Lexeme}
use Rattle.cg_ctree.specs.Trees.{Stmt, branch, while, to_block}
use Rattle.cg_cread_parts.specs.Declarations.{row_step, row_is_whole, is_whole}
use Rattle.cg_cread_pieces.specs.Lines.{line_begin, line_end, line_test}
use Rattle.cg_cread_parts.specs.Symbols.{Symbol, begin, end, semicolon, is_type}
use Rattle.cg_cread_parts.specs.declared.declaration.Declaration.{Declaration}
use Rattle.cg_cread_parts.specs.declared.declaration.Declaration.TheVariants.{Wanted}
use Rattle.cg_cread_parts.specs.declared.declaration.Row.{Row}
use Rattle.cg_cread_parts.specs.declared.head.Signature.{Signature}
use Rattle.cg_cread_pieces.specs.declared.line.Test.{Test}
use Rattle.cg_cread_pieces.specs.declared.line.Test.TheVariants as test
use Rattle.cg_cread_pieces.specs.declared.line.Line.{Line}
use Rattle.cg_cread_parts.proofs.DeclarationSound.{DeclarationRead, RowRead, SignatureRead, row_holds}
use Rattle.cg_cread_parts.proofs.Known.{Means, seen}
use Rattle.cg_cread_pieces.proofs.LineSound.{LineRead, LineIs, TestIs, begin_holds, line_holds, test_is, line_is}
use Rattle.cg_cread.specs.Blocks.{Level, Opened, Yes, No, Loop, InCase, Frame, frame, Gap, gap_opens, gap_end}
use Rattle.cg_cread.specs.Bodies.{Nest, Body, Locals, Statements, InLine, InGap, Closed, Stuck, nest, function_at, with_statement, opening, ended, opened, on_test, tested, on_line, on_gap, closes, on_end, on_statement, on_statements, on_locals, body_step}
use Rattle.cg_cread.proofs.BlockSound.{GapRead, OpenedRead, StackRead, OpensIs, no_statement, no_case_read, stack_more, gap_holds, opens_is, gap_is}
use Rattle.cg_base.proofs.Truths.{both_true}

-- what is read of a function up to its statements, and with them
abbrev pub DraftRead : Signature → List CDecl → Reading
DraftRead s ds = SignatureRead s then mark (codes "{") then ReadsLocals ds

abbrev pub NestRead : Nest → Reading
NestRead n = DraftRead n.head n.locals then StackRead n.frames n.level

-- what is read of a function, from its head on
abbrev pub BodyRead : Body → Reading
BodyRead (Locals s r) all rest = (SignatureRead s then mark (codes "{") then RowRead r) all rest
BodyRead (Statements n) all rest = NestRead n all rest
BodyRead (InLine r n m) all rest = (n.level.room ≡ suc r) × (NestRead n then LineRead m) all rest
BodyRead (InGap r n g) all rest = (n.level.room ≡ suc r) × (NestRead n then GapRead r g) all rest
BodyRead (Closed f) all rest = ReadsFunction f all rest
BodyRead Stuck all rest = ⊤

room_left : (k : ℕ) → (k == 0) ≡ false → k ≡ suc (k - 1)
room_left zero e = cc
room_left (suc k) e = omega arith

pub whole_read : (m : Declaration) (all rest : List Lexeme) → is_whole m ≡ true → DeclarationRead m all rest → all ≡ rest
whole_read Wanted all rest e r = r
whole_read _ all rest e r = cc

module _ (t : Lexeme) (rest all : List Lexeme) where
  -- a statement ends, and a block opens
  module _ (n : Nest) (r : ℕ) (e : n.level.room ≡ suc r) where
    statement_holds : (s : Stmt) → (NestRead n then ReadsStmt r s) all rest → NestRead (with_statement n s) all rest
    statement_holds s q = let a = q.1 in (a.0, a.1, stack_more n.frames n.level r e s a.0 q.0 rest a.2 q.2)

    ended_holds : (o : Option Stmt) → (NestRead n then LineIs r o) all rest → BodyRead (ended n o) all rest
    ended_holds None q = tt
    ended_holds (Some s) q = statement_holds s q

    opening_holds : (o : Opened) → (NestRead n then OpenedRead r o) all rest → NestRead (opening r n o) all rest
    opening_holds o q = let a = q.1 in (a.0, a.1, (e, (q.0, a.2, (rest, q.2, no_statement r rest))))

    opened_holds : (o : Option Opened) → (NestRead n then OpensIs r o) all rest → BodyRead (opened r n o) all rest
    opened_holds None q = tt
    opened_holds (Some o) q = opening_holds o q

    test_holds : Means t.token begin → (k : Test) (o : COpnd) → (NestRead n then TestIs (Some (k, o))) all (t ∷ rest) → BodyRead (on_test r n k o) all rest
    test_holds h test.If o q = opening_holds (Yes o) (q.0, q.1, (_, q.2, seen _ t rest h))
    test_holds h test.While o q = opening_holds (Loop o) (q.0, q.1, (_, q.2, seen _ t rest h))
    test_holds h test.Switch o q = (e, (q.0, q.1, (_, q.2, (rest, seen _ t rest h, no_case_read r rest))))

    tested_holds : Means t.token begin → (o : Option (Test × COpnd)) → (NestRead n then TestIs o) all (t ∷ rest) → BodyRead (tested r n o) all rest
    tested_holds h None q = tt
    tested_holds h (Some p) q = test_holds h p.0 p.1 q

    line_step_holds : (m : Line) (y : Symbol) → Means t.token y → (NestRead n then LineRead m) all (t ∷ rest) → BodyRead (on_line r n m y) all rest
    line_step_holds m semicolon h q = ended_holds (line_end m) (q.0, q.1, line_is r q.0 (t ∷ rest) rest (seen _ t rest h) m q.2)
    line_step_holds m begin h q = tested_holds h (line_test m) (q.0, q.1, test_is m q.0 (t ∷ rest) q.2)
    line_step_holds m y h q = (e, (q.0, q.1, line_holds t rest q.0 m y h q.2))

    gap_step_holds : (g : Gap) (y : Symbol) → Means t.token y → (NestRead n then GapRead r g) all (t ∷ rest) → BodyRead (on_gap r n g y) all rest
    gap_step_holds g begin h q = opened_holds (gap_opens g) (q.0, q.1, opens_is t rest q.0 r h g q.2)
    gap_step_holds g end h q = ended_holds (gap_end g) (q.0, q.1, gap_is t rest q.0 r h g q.2)
    gap_step_holds g y h q = (e, (q.0, q.1, gap_holds t rest q.0 r g y h q.2))

  -- at a `}`
  module _ (h : Means t.token end) where
    closes_holds : (l : Level) (n : Nest) (e : n.level.room ≡ suc l.room) (o : Opened) → (NestRead n then OpenedRead l.room o then ReadsBlock l.room (to_block l.stmts)) all (t ∷ rest) → BodyRead (closes l n o) all rest
    unfolding ReadsStmt
    closes_holds l n e (Yes o) q =
        let b = q.2 in let a = b.1 in
        (e, (q.0, q.1, (a.0, a.1, (b.0, a.2, (_, b.2, seen _ t rest h)))))
    closes_holds l n e (No o xs) q =
        let b = q.2 in let a = b.1 in let c = a.1 in let d = c.2 in
        statement_holds n l.room e (branch o (to_block xs) (to_block l.stmts)) (q.0, q.1, (c.0, c.1, (d.0, d.1, (a.0, d.2, (b.0, a.2, (_, b.2, seen _ t rest h))))))
    closes_holds l n e (Loop o) q =
        let b = q.2 in let a = b.1 in
        statement_holds n l.room e (while o (to_block l.stmts)) (q.0, q.1, (a.0, a.1, (b.0, a.2, (_, b.2, seen _ t rest h))))
    closes_holds l n e (InCase a k) q =
        let b = q.2 in let f = b.1 in let c = f.1 in let d = c.2 in let g = d.2 in let i = g.2 in
        (e, (q.0, q.1, (f.0, (c.0, c.1, (d.0, d.1, (g.0, g.1, (i.0, i.1, (b.0, i.2, (_, b.2, seen _ t rest h)))))))))

    function_holds : (s : Signature) (ds : List CDecl) (l : Level) → (DraftRead s ds then StackRead [] l) all (t ∷ rest) → ReadsFunction (function_at (record { head = s; locals = ds; frames = []; level = l })) all rest
    function_holds s ds l q =
        let a = q.1 in let b = a.2 in let c = a.1 in let d = c.1 in let f = c.2 in let g = f.2 in
        let P : ℕ → Type 0 = λ z. ReadsBlock z (to_block l.stmts) q.0 (t ∷ rest) in
        (d.0, d.1, (c.0, d.2, (f.0, f.1, (g.0, g.1, (a.0, g.2, (b.0, b.1, (_, (q.0, b.2, subst P q.2.0 q.2.1), seen _ t rest h)))))))

    on_end_holds : (s : Signature) (ds : List CDecl) (fs : List Frame) (l : Level) → (DraftRead s ds then StackRead fs l) all (t ∷ rest) → BodyRead (on_end (record { head = s; locals = ds; frames = fs; level = l }) fs) all rest
    on_end_holds s ds [] l q = function_holds s ds l q
    on_end_holds s ds (frame o k ∷ fs) l q =
        let a = q.2.1 in
        closes_holds l (record { head = s; locals = ds; frames = fs; level = k }) q.2.0 o (a.0, (q.0, q.1, a.1), a.2)

  on_statement_holds : (n : Nest) (y : Symbol) → Means t.token y → NestRead n all (t ∷ rest) → BodyRead (on_statement n y) all rest
  on_statement_holds n y h q =
      either_way (λ z. BodyRead z all rest) (n.level.room == 0) Stuck (InLine (n.level.room - 1) n (line_begin y))
      (λ e. tt)
      (λ e. (room_left n.level.room e, (t ∷ rest, q, begin_holds t rest (t ∷ rest) y h refl)))

  statements_holds : (n : Nest) (y : Symbol) → Means t.token y → NestRead n all (t ∷ rest) → BodyRead (on_statements n y) all rest
  statements_holds n end h q = on_end_holds h n.head n.locals n.frames n.level q
  statements_holds n y h q = on_statement_holds n y h q

  -- behind the locals
  first_read : (s : Signature) (r : Row) → row_is_whole r ≡ true → BodyRead (Locals s r) all (t ∷ rest) → NestRead (nest s r.before) all (t ∷ rest)
  first_read s r e q =
      let b = q.2 in let d = b.2 in
      let P : List Lexeme → Type 0 = λ z. ReadsLocals r.before b.0 z in
      (t ∷ rest, (q.0, q.1, (b.0, b.1, subst P (whole_read r.at d.0 (t ∷ rest) e d.2) d.1)), (refl, no_statement most_open (t ∷ rest)))

  locals_holds : (s : Signature) (r : Row) (y : Symbol) → Means t.token y → BodyRead (Locals s r) all (t ∷ rest) → BodyRead (on_locals s r y) all rest
  locals_holds s r y h q =
      either_way (λ z. BodyRead z all rest) (row_is_whole r && not (is_type y)) (on_statements (nest s r.before) y) (Locals s (row_step r y))
      (λ e. statements_holds (nest s r.before) y h (first_read s r (both_true (row_is_whole r) (not (is_type y)) e) q))
      (λ e. let b = q.2 in (q.0, q.1, (b.0, b.1, row_holds t rest b.0 r y h b.2)))

  -- one token more of a body
  pub body_holds : (m : Body) (y : Symbol) → Means t.token y → BodyRead m all (t ∷ rest) → BodyRead (body_step m y) all rest
  body_holds (Locals s r) y h q = locals_holds s r y h q
  body_holds (Statements n) y h q = statements_holds n y h q
  body_holds (InLine r n m) y h q = line_step_holds n r q.0 m y h q.1
  body_holds (InGap r n g) y h q = gap_step_holds n r q.0 g y h q.1
  body_holds (Closed f) y h q = tt
  body_holds Stuck y h q = tt
