-- What has been read of a statement is what its state spells.
use Rattle.std.proofs.Common.{◌≡◌, ℕ, List, [], ◌∷◌, ◌++◌, refl, Option, Some, None}
use Rattle.std.specs.Prelude.{codes, ⊤}
use Rattle.cg_base.proofs.Spans.{either_way}
use Rattle.cg_ctree.specs.declared.tree.COpnd.{COpnd}
use Rattle.cg_ctree.specs.declared.tree.CPath.{CPath}
use Rattle.cg_ctree.specs.declared.tree.CRhs.{CRhs}
use Rattle.cg_ctree.specs.Spells.{Reading, ◌then◌, token, keyword, mark, ReadsPath, ReadsOpnd, ReadsAny, ReadsTest, ReadsStmt}
use Rattle.cg_ctree.specs.Tokens.{name, Lexeme}
use Rattle.cg_ctree.specs.Trees.{Stmt}
use Rattle.cg_cread_pieces.specs.Lines.{line_begin, called, on_target, targeted, on_argument, argued, on_tested, tested, filled, on_operand, on_call, on_test, line_step, assignment, operand_line, line_end, line_test}
use Rattle.cg_cread_parts.specs.Operands.{operand_step, operand_end, path_end, path_name}
use Rattle.cg_cread_pieces.specs.Rights.{right_end}
use Rattle.cg_cread_parts.specs.Symbols.{Symbol, named, keyed, opening, closing, comma, equals, is_part, key_text}
use Rattle.cg_cread_pieces.specs.declared.line.Test.{Test}
use Rattle.cg_cread_pieces.specs.declared.line.Test.TheVariants as test
use Rattle.cg_cread_pieces.specs.declared.line.Role.{Role}
use Rattle.cg_cread_pieces.specs.declared.line.Role.TheVariants as role
use Rattle.cg_cread_pieces.specs.declared.line.Line.{Line}
use Rattle.cg_cread_pieces.specs.declared.line.Line.TheVariants as line
use Rattle.cg_cread_parts.specs.declared.operand.Operand.{Operand}
use Rattle.cg_cread_parts.specs.declared.operand.Operand.TheVariants as operand
use Rattle.cg_cread_parts.specs.declared.symbol.Keyword.{Keyword}
use Rattle.cg_cread_parts.specs.declared.symbol.Keyword.TheVariants as key
use Rattle.cg_cread_parts.proofs.Known.{Means, seen}
use Rattle.cg_cread_parts.proofs.Lists.{Trailing, front, some_behind, trailing_behind}
use Rattle.cg_cread_parts.proofs.OperandSound.{OperandRead, OpndIs, PathIs, NameIs, operand_is, path_is, path_name_is, operand_holds, first}
use Rattle.cg_cread_pieces.proofs.RightSound.{RightRead, RightIs, right_holds, right_is}

-- the word of a test
abbrev pub test_key : Test → Keyword
test_key test.If = key.If
test_key test.While = key.While
test_key test.Switch = key.Switch

abbrev pub test_text : Test → List ℕ
test_text k = key_text (test_key k)

-- what is read before an operand
abbrev pub RoleRead : Role → Reading
RoleRead role.Target all rest = all ≡ rest
RoleRead role.Returned all rest = keyword (codes "return") all rest
RoleRead (role.Argument f os) all rest = (token (name f) then mark (codes "(") then Trailing ReadsOpnd os) all rest
RoleRead (role.Tested k) all rest = (keyword (test_text k) then mark (codes "(")) all rest

-- what is read of a statement
abbrev pub LineRead : Line → Reading
LineRead (line.InOperand s m) all rest = (RoleRead s then OperandRead m) all rest
LineRead (line.Assigned p m) all rest = (ReadsPath p then mark (codes "=") then RightRead m) all rest
LineRead (line.CallOpened f) all rest = (token (name f) then mark (codes "(")) all rest
LineRead (line.CallClosed f os) all rest = (token (name f) then mark (codes "(") then ReadsAny ReadsOpnd os then mark (codes ")")) all rest
LineRead (line.TestRead k) all rest = keyword (test_text k) all rest
LineRead (line.TestClosed k o) all rest = ReadsTest (test_text k) o all rest
LineRead line.Stuck all rest = ⊤

any_behind : (os : List COpnd) (o : COpnd) (ts mid rest : List Lexeme) → Trailing ReadsOpnd os ts mid → ReadsOpnd o mid rest → ReadsAny ReadsOpnd (os ++ o ∷ []) ts rest
any_behind [] o ts mid rest r q = some_behind ReadsOpnd [] o ts mid rest r q
any_behind (p ∷ os) o ts mid rest r q = some_behind ReadsOpnd (p ∷ os) o ts mid rest r q

module _ (t : Lexeme) (rest all : List Lexeme) where
  -- the first token of a statement
  pub begin_holds : (y : Symbol) → Means t.token y → all ≡ t ∷ rest → LineRead (line_begin y) all rest
  begin_holds (named x) h r = (all, refl, operand_holds t rest all operand.Wanted (named x) h r)
  begin_holds (keyed key.Return) h r = (rest, first t rest all _ r h, refl)
  begin_holds (keyed key.If) h r = first t rest all _ r h
  begin_holds (keyed key.While) h r = first t rest all _ r h
  begin_holds (keyed key.Switch) h r = first t rest all _ r h
  begin_holds _ h r = tt

  called_holds : Means t.token opening → (o : Option (List ℕ)) → NameIs o all (t ∷ rest) → LineRead (called o) all rest
  called_holds h None r = tt
  called_holds h (Some f) r = (_, r, seen _ t rest h)

  target_holds : (p : CPath) (y : Symbol) → Means t.token y → ReadsPath p all (t ∷ rest) → LineRead (on_target p y) all rest
  target_holds p equals h r = (_, r, (rest, seen _ t rest h, refl))
  target_holds p opening h r = called_holds h (path_name p) (path_name_is p all (t ∷ rest) r)
  target_holds p _ h r = tt

  module _ (mid : List Lexeme) where
    targeted_holds : (o : Option CPath) (y : Symbol) → Means t.token y → all ≡ mid → PathIs o mid (t ∷ rest) → LineRead (targeted o y) all rest
    targeted_holds None y h r q = tt
    targeted_holds (Some p) y h r q = target_holds p y h (front (ReadsPath p) all mid (t ∷ rest) r q)

    argument_holds : (f : List ℕ) (os : List COpnd) (o : COpnd) (y : Symbol) → Means t.token y → RoleRead (role.Argument f os) all mid → ReadsOpnd o mid (t ∷ rest) → LineRead (on_argument f (os ++ o ∷ []) y) all rest
    argument_holds f os o comma h r q =
        let z = some_behind ReadsOpnd os o r.2.0 mid (t ∷ rest) r.2.2 q in
        (rest, (r.0, r.1, (r.2.0, r.2.1, trailing_behind ReadsOpnd (os ++ o ∷ []) r.2.0 (t ∷ rest) rest z (seen _ t rest h))), refl)
    argument_holds f os o closing h r q = (r.0, r.1, (r.2.0, r.2.1, (_, any_behind os o r.2.0 mid (t ∷ rest) r.2.2 q, seen _ t rest h)))
    argument_holds f os o _ h r q = tt

    argued_holds : (f : List ℕ) (os : List COpnd) (o : Option COpnd) (y : Symbol) → Means t.token y → RoleRead (role.Argument f os) all mid → OpndIs o mid (t ∷ rest) → LineRead (argued f os o y) all rest
    argued_holds f os None y h r q = tt
    argued_holds f os (Some o) y h r q = argument_holds f os o y h r q

    on_tested_holds : (k : Test) (o : COpnd) (y : Symbol) → Means t.token y → RoleRead (role.Tested k) all mid → ReadsOpnd o mid (t ∷ rest) → LineRead (on_tested k o y) all rest
    on_tested_holds k o closing h r q = (r.0, r.1, (_, r.2, (_, q, seen _ t rest h)))
    on_tested_holds k o _ h r q = tt

    tested_holds : (k : Test) (o : Option COpnd) (y : Symbol) → Means t.token y → RoleRead (role.Tested k) all mid → OpndIs o mid (t ∷ rest) → LineRead (tested k o y) all rest
    tested_holds k None y h r q = tt
    tested_holds k (Some o) y h r q = on_tested_holds k o y h r q

    filled_holds : (s : Role) (m : Operand) (y : Symbol) → Means t.token y → RoleRead s all mid → OperandRead m mid (t ∷ rest) → LineRead (filled s m y) all rest
    filled_holds role.Target m y h r q = targeted_holds (path_end m) y h r (path_is m mid (t ∷ rest) q)
    filled_holds role.Returned m y h r q = tt
    filled_holds (role.Argument f os) m y h r q = argued_holds f os (operand_end m) y h r (operand_is m mid (t ∷ rest) q)
    filled_holds (role.Tested k) m y h r q = tested_holds k (operand_end m) y h r (operand_is m mid (t ∷ rest) q)

  operand_step_holds : (s : Role) (m : Operand) (y : Symbol) → Means t.token y → LineRead (line.InOperand s m) all (t ∷ rest) → LineRead (on_operand s m y) all rest
  operand_step_holds s m y h r =
      either_way (λ z. LineRead z all rest) (is_part y) (line.InOperand s (operand_step m y)) (filled s m y)
      (λ e. (r.0, r.1, operand_holds t rest r.0 m y h r.2))
      (λ e. filled_holds r.0 s m y h r.1 r.2)

  call_holds : (f : List ℕ) (y : Symbol) → Means t.token y → LineRead (line.CallOpened f) all (t ∷ rest) → LineRead (on_call f y) all rest
  call_holds f closing h r = (r.0, r.1, (_, r.2, (_, refl, seen _ t rest h)))
  call_holds f y h r = (t ∷ rest, (r.0, r.1, (_, r.2, refl)), operand_holds t rest (t ∷ rest) operand.Wanted y h refl)

  test_holds : (k : Test) (y : Symbol) → Means t.token y → LineRead (line.TestRead k) all (t ∷ rest) → LineRead (on_test k y) all rest
  test_holds k opening h r = (rest, (_, r, seen _ t rest h), refl)
  test_holds k _ h r = tt

  -- one token more of a statement
  pub line_holds : (m : Line) (y : Symbol) → Means t.token y → LineRead m all (t ∷ rest) → LineRead (line_step m y) all rest
  line_holds (line.InOperand s m) y h r = operand_step_holds s m y h r
  line_holds (line.Assigned p m) y h r = (r.0, r.1, (r.2.0, r.2.1, right_holds t rest r.2.0 m y h r.2.2))
  line_holds (line.CallOpened f) y h r = call_holds f y h r
  line_holds (line.TestRead k) y h r = test_holds k y h r
  line_holds _ y h r = tt

-- what is read where a statement ends, with its `;`
abbrev pub LineIs : ℕ → Option Stmt → Reading
LineIs room None all rest = ⊤
LineIs room (Some s) all rest = ReadsStmt room s all rest

-- a test that is read
abbrev pub TestIs : Option (Test × COpnd) → Reading
TestIs None all rest = ⊤
TestIs (Some p) all rest = ReadsTest (test_text p.0) p.1 all rest

pub test_is : (m : Line) (all rest : List Lexeme) → LineRead m all rest → TestIs (line_test m) all rest
test_is (line.TestClosed k o) all rest r = r
test_is _ all rest r = tt

module _ (room : ℕ) (all mid rest : List Lexeme) (last : mark (codes ";") mid rest) where
  assigned_is : (p : CPath) (o : Option CRhs) → (ReadsPath p then mark (codes "=") then RightIs o) all mid → LineIs room (assignment p o) all rest
  unfolding ReadsStmt
  assigned_is p None r = tt
  assigned_is p (Some q) r = (r.0, r.1, (r.2.0, r.2.1, (_, r.2.2, last)))

  returned_is : (s : Role) (o : Option COpnd) (at : List Lexeme) → RoleRead s all at → OpndIs o at mid → LineIs room (operand_line s o) all rest
  unfolding ReadsStmt
  returned_is role.Returned (Some o) at r q = (_, r, (_, q, last))
  returned_is _ _ at r q = tt

  pub line_is : (m : Line) → LineRead m all mid → LineIs room (line_end m) all rest
  unfolding ReadsStmt
  line_is (line.InOperand s m) r = returned_is s (operand_end m) r.0 r.1 (operand_is m r.0 mid r.2)
  line_is (line.Assigned p m) r = assigned_is p (right_end m) (r.0, r.1, (r.2.0, r.2.1, right_is m r.2.0 mid r.2.2))
  line_is (line.CallClosed f os) r = let q = r.2.2 in (r.0, r.1, (r.2.0, r.2.1, (q.0, q.1, (_, q.2, last))))
  line_is _ r = tt
