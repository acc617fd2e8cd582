-- The machine reads each statement that the tokens spell, up to its `;` or to the `{` behind its test.
use Rattle.std.proofs.Common.{◌≡◌, ℕ, List, [], ◌∷◌, ◌++◌, refl, sym, ap, subst, append_assoc, true, false, Bool, cond, Some}
use Rattle.std.specs.Prelude.{codes}
use Rattle.cg_ctree.specs.declared.tree.COpnd.{COpnd}
use Rattle.cg_ctree.specs.declared.tree.CPath.{CPath}
use Rattle.cg_ctree.specs.declared.tree.CRhs.{CRhs}
use Rattle.cg_ctree.specs.Spells.{◌then◌, mark, keyword, token, ReadsPath, ReadsOpnd, ReadsMore, ReadsAny, ReadsRight, ReadsTest}
use Rattle.cg_ctree.specs.Tokens.{name, Lexeme}
use Rattle.cg_ctree.specs.Trees.{Stmt, assign, call, return'}
use Rattle.cg_cread_pieces.specs.Lines.{line_begin, filled, argued, on_argument, tested, assignment, operand_line, line_step, line_end}
use Rattle.cg_cread_parts.specs.Operands.{path_of, operand_step, operand_end}
use Rattle.cg_cread_pieces.specs.Rights.{right_step}
use Rattle.cg_cread_parts.specs.Symbols.{Symbol, named, keyed, number, opening, closing, comma, equals, is_part, goes_on, is_end, key_text, token_of}
use Rattle.cg_cread_pieces.specs.declared.line.Test.{Test}
use Rattle.cg_cread_pieces.specs.declared.line.Role.{Role}
use Rattle.cg_cread_pieces.specs.declared.line.Role.TheVariants as role
use Rattle.cg_cread_pieces.specs.declared.line.Line.{Line}
use Rattle.cg_cread_pieces.specs.declared.line.Line.TheVariants as line
use Rattle.cg_cread_parts.specs.declared.operand.Operand.{Operand}
use Rattle.cg_cread_parts.specs.declared.operand.Operand.TheVariants as operand
use Rattle.cg_cread_pieces.specs.declared.right.Right.{Right}
use Rattle.cg_cread_parts.specs.declared.symbol.Keyword.{Keyword}
use Rattle.cg_cread_parts.specs.declared.symbol.Keyword.TheVariants as key
use Rattle.cg_cread_parts.proofs.Carried.{Moves}
use Rattle.cg_cread_parts.proofs.Known.{Fits}
use Rattle.cg_cread_parts.proofs.OperandComplete.{members_read, operand_read}
use Rattle.cg_cread_pieces.proofs.RightComplete.{part_goes_on, right_read}

module _ (P : Line → List Lexeme → Type 0) (move : Moves Line line_step goes_on P) where
  -- a symbol of an operand, and one of a right side, in it
  part_move : (s : Role) → Moves Operand operand_step is_part (λ m ts. P (line.InOperand s m) ts)
  part_move s y f i m ts rest t h =
      let Q : Bool → Type 0 = λ b. P (cond b (line.InOperand s (operand_step m y)) (filled s m y)) rest in
      move y f (part_goes_on y i) (line.InOperand s m) ts rest t (subst Q (sym i) h)

  right_move : (p : CPath) → Moves Right right_step goes_on (λ m ts. P (line.Assigned p m) ts)
  right_move p y f i m ts rest t h = move y f i (line.Assigned p m) ts rest t h

  abbrev Behind : Role → COpnd → List Lexeme → Type 0
  Behind s o rest = (x : Operand) → operand_end x ≡ Some o → P (line.InOperand s x) rest

  -- an operand, from a state that its first symbol leads into it
  from : (m : Line) (s : Role) → ((x : List ℕ) → line_step m (named x) ≡ line.InOperand s (operand.Path (path_of x))) → ((n : ℕ) → line_step m (number n) ≡ line.InOperand s (operand.Number n)) → (o : COpnd) (ts rest : List Lexeme) → ReadsOpnd o ts rest → Behind s o rest → P m ts
  from m s a b o ts rest r h =
      operand_read (λ x us. P (line.InOperand s x) us) (part_move s) (P m)
      (λ x us mid t k. let Q : Line → Type 0 = λ z. P z mid in move (named x) tt refl m us mid t (subst Q (sym (a x)) k))
      (λ n us mid f t k. let Q : Line → Type 0 = λ z. P z mid in move (number n) f refl m us mid t (subst Q (sym (b n)) k))
      o ts rest r h

  within : (s : Role) (o : COpnd) (ts rest : List Lexeme) → ReadsOpnd o ts rest → Behind s o rest → P (line.InOperand s operand.Wanted) ts
  within s o ts rest r h = from (line.InOperand s operand.Wanted) s (λ x. refl) (λ n. refl) o ts rest r h

  -- a symbol behind an operand
  next : (s : Role) (o : COpnd) (y : Symbol) (to : Line) → ((x : Operand) → operand_end x ≡ Some o → filled s x y ≡ to) → Fits y → goes_on y ≡ true → is_part y ≡ false → (ts rest : List Lexeme) → token (token_of y) ts rest → P to rest → Behind s o ts
  next s o y to g f i j ts rest t h x e =
      let Q : Bool → Type 0 = λ b. P (cond b (line.InOperand s (operand_step x y)) (filled s x y)) rest in
      let S : Line → Type 0 = λ z. P z rest in
      move y f i (line.InOperand s x) ts rest t (subst Q (sym j) (subst S (sym (g x e)) h))

  -- behind an argument
  after_argument : (f : List ℕ) (before : List COpnd) (o : COpnd) (y : Symbol) → Fits y → goes_on y ≡ true → is_part y ≡ false → (ts rest : List Lexeme) → token (token_of y) ts rest → P (on_argument f (before ++ o ∷ []) y) rest → Behind (role.Argument f before) o ts
  after_argument f before o y fit i j ts rest t h =
      next (role.Argument f before) o y (on_argument f (before ++ o ∷ []) y) (λ x e. ap (λ z. argued f before z y) e) fit i j ts rest t h

  more_read : (os : List COpnd) (f : List ℕ) (before : List COpnd) (o : COpnd) (ts mid rest : List Lexeme) → ReadsMore ReadsOpnd os ts mid → mark (codes ")") mid rest → P (line.CallClosed f (before ++ o ∷ os)) rest → Behind (role.Argument f before) o ts
  more_read [] f before o ts mid rest r c h =
      let Q : List Lexeme → Type 0 = λ us. mark (codes ")") us rest in
      after_argument f before o closing tt refl refl ts rest (subst Q (sym r) c) h
  more_read (p ∷ os) f before o ts mid rest r c h =
      let Q : List COpnd → Type 0 = λ z. P (line.CallClosed f z) rest in
      after_argument f before o comma tt refl refl ts r.0 r.1
      (within (role.Argument f (before ++ o ∷ [])) p r.0 r.2.0 r.2.1
      (more_read os f (before ++ o ∷ []) p r.2.0 mid rest r.2.2 c (subst Q (sym (append_assoc before (o ∷ []) (p ∷ os))) h)))

  arguments_read : (f : List ℕ) (os : List COpnd) (ts mid rest : List Lexeme) → ReadsAny ReadsOpnd os ts mid → mark (codes ")") mid rest → P (line.CallClosed f os) rest → P (line.CallOpened f) ts
  arguments_read f [] ts mid rest r c h =
      let Q : List Lexeme → Type 0 = λ us. mark (codes ")") us rest in
      move closing tt refl (line.CallOpened f) ts rest (subst Q (sym r) c) h
  arguments_read f (o ∷ os) ts mid rest r c h =
      from (line.CallOpened f) (role.Argument f []) (λ x. refl) (λ n. refl) o ts r.0 r.1 (more_read os f [] o r.0 mid rest r.2 c h)

  -- statements, from where their first symbol begins a line
  module _ (Q : List Lexeme → Type 0) (enter : (y : Symbol) → Fits y → is_end y ≡ false → (ts mid : List Lexeme) → token (token_of y) ts mid → P (line_begin y) mid → Q ts) where
    -- what holds wherever a statement has its end
    abbrev pub Ending : Stmt → List Lexeme → Type 0
    Ending s rest = (m : Line) (mid : List Lexeme) → line_end m ≡ Some s → mark (codes ";") mid rest → P m mid

    pub assign_read : (p : CPath) (r : CRhs) (ts rest : List Lexeme) → (ReadsPath p then mark (codes "=") then ReadsRight r then mark (codes ";")) ts rest → Ending (assign p r) rest → Q ts
    assign_read p r ts rest h k =
        let q = h.1 in let a = h.2 in let b = a.2 in
        enter (named p.base) tt refl ts q.0 q.1
        (members_read (λ x us. P (line.InOperand role.Target x) us) (part_move role.Target) p.arrow p.members p.base q.0 h.0 q.2
        (move equals tt refl (line.InOperand role.Target (operand.Path p)) h.0 a.0 a.1
        (right_read (λ x us. P (line.Assigned p x) us) (right_move p) r a.0 b.0 b.1 (λ m e. k (line.Assigned p m) b.0 (ap (assignment p) e) b.2))))

    pub call_read : (f : List ℕ) (os : List COpnd) (ts rest : List Lexeme) → (token (name f) then mark (codes "(") then ReadsAny ReadsOpnd os then mark (codes ")") then mark (codes ";")) ts rest → Ending (call f os) rest → Q ts
    call_read f os ts rest h k =
        let a = h.2 in let b = a.2 in let c = b.2 in
        enter (named f) tt refl ts h.0 h.1
        (move opening tt refl (line.InOperand role.Target (operand.Path (path_of f))) h.0 a.0 a.1
        (arguments_read f os a.0 b.0 c.0 b.1 c.1 (k (line.CallClosed f os) c.0 refl c.2)))

    pub return_read : (o : COpnd) (ts rest : List Lexeme) → (keyword (codes "return") then ReadsOpnd o then mark (codes ";")) ts rest → Ending (return' o) rest → Q ts
    return_read o ts rest h k =
        let a = h.2 in
        enter (keyed key.Return) tt refl ts h.0 h.1
        (within role.Returned o h.0 a.0 a.1 (λ x e. k (line.InOperand role.Returned x) a.0 (ap (operand_line role.Returned) e) a.2))

    pub test_read : (t : Test) (w : Keyword) → line_begin (keyed w) ≡ line.TestRead t → (o : COpnd) (ts rest : List Lexeme) → ReadsTest (key_text w) o ts rest → P (line.TestClosed t o) rest → Q ts
    test_read t w g o ts rest h k =
        let a = h.2 in let b = a.2 in
        let S : Line → Type 0 = λ z. P z h.0 in
        enter (keyed w) tt refl ts h.0 h.1
        (subst S (sym g)
        (move opening tt refl (line.TestRead t) h.0 a.0 a.1
        (within (role.Tested t) o a.0 b.0 b.1 (next (role.Tested t) o closing (line.TestClosed t o) (λ x e. ap (λ z. tested t z closing) e) tt refl refl b.0 rest b.2 k))))
