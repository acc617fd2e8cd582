-- Whatever the machine has read, something completes it; so it is an exact reader.
use Rattle.std.proofs.Common.{◌≡◌, ℕ, List, [], ◌∷◌, ◌++◌, refl, sym, ap, ◌∙◌, subst, lit<, true, false, cond, Option, Some, None}
use Rattle.std.specs.Prelude.{◌&&◌, not}
use Rattle.cg_base.proofs.Spans.{either_way}
use Rattle.cg_base.specs.Reader.{Reads}
use Rattle.cg_ctree.specs.declared.tree.CDecl.{CDecl}
use Rattle.cg_ctree.specs.declared.tree.COpnd.{COpnd}
use Rattle.cg_ctree.specs.Spells.{SpellsTokens}
use Rattle.cg_ctree.specs.Tokens.{Lexeme}
use Rattle.cg_ctree.specs.Trees.{Stmt, switch, Case, to_cases, Program}
use Rattle.cg_cread_parts.specs.Declarations.{row, row_step, row_is_open}
use Rattle.cg_cread_parts.specs.Heads.{head_step, head_end, head_struct, head_is_whole, head_is_open}
use Rattle.cg_cread_pieces.specs.Lines.{line_step, line_end, line_is_open}
use Rattle.cg_cread_parts.specs.Symbols.{Symbol, keyed, count, begin, end, semicolon, colon, first_include, second_include, is_type, goes_on, token_of, symbol_of}
use Rattle.cg_cread_parts.specs.declared.declaration.Declaration.TheVariants.{Wanted}
use Rattle.cg_cread_parts.specs.declared.declaration.Row.{Row}
use Rattle.cg_cread_parts.specs.declared.head.Signature.{Signature}
use Rattle.cg_cread_parts.specs.declared.head.Head.{Head}
use Rattle.cg_cread_parts.specs.declared.head.Head.TheVariants as head
use Rattle.cg_cread_pieces.specs.declared.line.Test.{Test}
use Rattle.cg_cread_pieces.specs.declared.line.Test.TheVariants as test
use Rattle.cg_cread_pieces.specs.declared.line.Line.{Line}
use Rattle.cg_cread_pieces.specs.declared.line.Line.TheVariants as line
use Rattle.cg_cread_parts.specs.declared.symbol.Keyword.TheVariants as key
use Rattle.cg_cread_parts.proofs.DeclarationComplete.{in_a_row, in_head}
use Rattle.cg_cread_parts.proofs.Known.{Fits, back}
use Rattle.cg_cread_parts.proofs.Shut.{row_not_whole, row_shut, head_none, no_head_struct, head_shut}
use Rattle.cg_cread_parts.proofs.Viable.{Feeds, FeedsAt, row_viable, head_viable}
use Rattle.cg_cread_pieces.proofs.Shut.{line_none, no_test, line_shut}
use Rattle.cg_cread_pieces.proofs.Viable.{line_viable}
use Rattle.cg_cread.specs.Blocks as blocks
use Rattle.cg_cread.specs.Blocks.{Level, Arms, Yes, No, Loop, InCase, Frame, frame, Gap, BehindYes, BehindElse, CaseWanted, CaseRead, Tagged, ColonRead, CaseClosed, BreakRead, with_case, switched, gap_is_open}
use Rattle.cg_cread.specs.Bodies as bodies
use Rattle.cg_cread.specs.Bodies.{Nest, Body, Locals, Statements, InLine, InGap, Closed, nest, ended, tested, on_line, on_gap, on_statements, on_locals, body_step, body_is_open}
use Rattle.cg_cread.specs.Machine.{State, Start, First, Second, Between, InHead, InMembers, MembersClosed, InBody, Failed, defined, members, declared, on_head, structured, on_members, in_body, at, step, is_open, finish, reader}
use Rattle.cg_cread.proofs.Complete.{complete}
use Rattle.cg_cread.proofs.Sound.{sound}
use Rattle.cg_cread.proofs.Steps.{run, line_on, locals_on, members_on, head_on}

-- some tokens complete the state
abbrev pub Completable : State → Type 0
Completable s = (rest : List Lexeme) × (p : Program) × (finish (run s rest) ≡ Some p)

-- one token more, on a later line
fed : (y : Symbol) → Fits y → (s : State) → Completable (at s y true) → Completable s
fed y f s c = (record { token = token_of y; later = true } ∷ c.0, c.1, ap (λ z. finish (run (at s z true) c.0)) (back y f) ∙ c.2)

some_case : (o : COpnd) (cs : List Case) (c : Case) → switched o (cs ++ c ∷ []) ≡ Some (switch o (to_cases (cs ++ c ∷ [])))
some_case o [] c = refl
some_case o (d ∷ cs) c = refl

module _ (p : Program) where
  -- ---- blocks

  module _ (s : Signature) (ls : List CDecl) where
    abbrev at_level : List Frame → Level → Nest
    at_level fs l = record { head = s; locals = ls; frames = fs; level = l }

    abbrev before : List Frame → Level → State
    before fs l = InBody p (Statements (at_level fs l))

    abbrev gap : List Frame → Level → ℕ → Gap → State
    gap fs l r g = InBody p (InGap r (at_level fs l) g)

    -- whatever is open can be closed
    close : (fs : List Frame) (l : Level) → Completable (before fs l)
    close [] l = fed end tt (before [] l) ([], _, refl)
    close (frame (Yes o) k ∷ fs) l =
        fed end tt (before (frame (Yes o) k ∷ fs) l)
        (fed (keyed key.Else) tt (gap fs k l.room (BehindYes o l.stmts))
        (fed begin tt (gap fs k l.room (BehindElse o l.stmts))
        (fed end tt (before (frame (No o l.stmts) k ∷ fs) (record { room = l.room; stmts = [] })) (close fs _))))
    close (frame (No o xs) k ∷ fs) l = fed end tt (before (frame (No o xs) k ∷ fs) l) (close fs _)
    close (frame (Loop o) k ∷ fs) l = fed end tt (before (frame (Loop o) k ∷ fs) l) (close fs _)
    close (frame (InCase a n) k ∷ fs) l =
        let c : Case = bodies.case_at n l.stmts in
        let Q : Option Stmt → Type 0 = λ z. Completable (in_body p (ended (at_level fs k) z)) in
        fed end tt (before (frame (InCase a n) k ∷ fs) l)
        (fed (keyed key.Break) tt (gap fs k l.room (CaseClosed a c))
        (fed semicolon tt (gap fs k l.room (BreakRead a c))
        (fed end tt (gap fs k l.room (CaseWanted (with_case a c))) (subst Q (sym (some_case a.operand a.cases c)) (close fs _)))))

    module _ (fs : List Frame) (l : Level) (r : ℕ) where
      colon_read : (a : Arms) (n : ℕ) → Completable (gap fs l r (ColonRead a n))
      colon_read a n = fed begin tt (gap fs l r (ColonRead a n)) (close (frame (InCase a n) l ∷ fs) (record { room = r; stmts = [] }))

      tag_read : (a : Arms) (n : ℕ) → Completable (gap fs l r (Tagged a n))
      tag_read a n = fed colon tt (gap fs l r (Tagged a n)) (colon_read a n)

      case_read : (a : Arms) → Completable (gap fs l r (CaseRead a))
      case_read a = fed (count 0) (lit< tt) (gap fs l r (CaseRead a)) (tag_read a 0)

      case_wanted : (a : Arms) → Completable (gap fs l r (CaseWanted a))
      case_wanted a = fed (keyed key.Case) tt (gap fs l r (CaseWanted a)) (case_read a)

      break_read : (a : Arms) (c : Case) → Completable (gap fs l r (BreakRead a c))
      break_read a c = fed semicolon tt (gap fs l r (BreakRead a c)) (case_wanted (with_case a c))

      behind_else : (o : COpnd) (xs : List Stmt) → Completable (gap fs l r (BehindElse o xs))
      behind_else o xs = fed begin tt (gap fs l r (BehindElse o xs)) (close (frame (No o xs) l ∷ fs) (record { room = r; stmts = [] }))

      gap_completable : (g : Gap) → gap_is_open g ≡ true → Completable (gap fs l r g)
      gap_completable (BehindYes o xs) h = fed (keyed key.Else) tt (gap fs l r (BehindYes o xs)) (behind_else o xs)
      gap_completable (BehindElse o xs) h = behind_else o xs
      gap_completable (CaseWanted a) h = case_wanted a
      gap_completable (CaseRead a) h = case_read a
      gap_completable (Tagged a n) h = tag_read a n
      gap_completable (ColonRead a n) h = colon_read a n
      gap_completable (CaseClosed a c) h = fed (keyed key.Break) tt (gap fs l r (CaseClosed a c)) (break_read a c)
      gap_completable (BreakRead a c) h = break_read a c
      gap_completable blocks.Stuck h = cc

      -- ---- statements

      abbrev in_line : Line → State
      in_line m = InBody p (InLine r (at_level fs l) m)

      line_fed : Feeds Line line_step goes_on (λ m. Completable (in_line m))
      line_fed y f i m c =
          let Q : State → Type 0 = Completable in
          fed y f (in_line m) (subst Q (sym (line_on p r (at_level fs l) m y true i)) c)

      line_ends : (m : Line) (x : Stmt) → line_end m ≡ Some x → Completable (in_line m)
      line_ends m x e =
          let Q : Option Stmt → Type 0 = λ z. Completable (in_body p (ended (at_level fs l) z)) in
          fed semicolon tt (in_line m) (subst Q (sym e) (close fs _))

      line_tests : (k : Test) (o : COpnd) → Completable (in_line (line.TestClosed k o))
      line_tests test.If o = fed begin tt (in_line (line.TestClosed test.If o)) (close (frame (Yes o) l ∷ fs) (record { room = r; stmts = [] }))
      line_tests test.While o = fed begin tt (in_line (line.TestClosed test.While o)) (close (frame (Loop o) l ∷ fs) (record { room = r; stmts = [] }))
      line_tests test.Switch o = fed begin tt (in_line (line.TestClosed test.Switch o)) (case_wanted _)

      line_completable : (m : Line) → line_is_open m ≡ true → Completable (in_line m)
      line_completable m h = line_viable (λ x. Completable (in_line x)) line_fed line_ends line_tests m h

  -- ---- bodies

  locals_fed : (s : Signature) → FeedsAt Row row_step in_a_row (λ r. Completable (InBody p (Locals s r)))
  locals_fed s y f r i c =
      let Q : State → Type 0 = Completable in
      fed y f (InBody p (Locals s r)) (subst Q (sym (locals_on p s r y true i)) c)

  locals_whole : (s : Signature) (ds : List CDecl) → Completable (InBody p (Locals s (row ds Wanted)))
  locals_whole s ds = fed end tt (InBody p (Locals s (row ds Wanted))) ([], _, refl)

  body_completable : (m : Body) → body_is_open m ≡ true → Completable (InBody p m)
  body_completable (Locals s r) h = row_viable (λ x. Completable (InBody p (Locals s x))) (locals_fed s) r.before r.at h (λ d. locals_whole s _)
  body_completable (Statements n) h = close n.head n.locals n.frames n.level
  body_completable (InLine r n m) h = line_completable n.head n.locals n.frames n.level r m h
  body_completable (InGap r n g) h = gap_completable n.head n.locals n.frames n.level r g h
  body_completable (Closed f) h = cc
  body_completable bodies.Stuck h = cc

  -- ---- heads and structs

  head_fed : Feeds Head head_step in_head (λ m. Completable (InHead p m))
  head_fed y f i m c =
      let Q : State → Type 0 = Completable in
      fed y f (InHead p m) (subst Q (sym (head_on p m y true i)) c)

  head_closed : (s : Signature) → Completable (InHead p (head.Closed s))
  head_closed s = fed semicolon tt (InHead p (head.Closed s)) ([], _, refl)

  members_fed : (x : List ℕ) → FeedsAt Row row_step in_a_row (λ r. Completable (InMembers p x r))
  members_fed x y f r i c =
      let Q : State → Type 0 = Completable in
      fed y f (InMembers p x r) (subst Q (sym (members_on p x r y true i)) c)

  structured_some : (x : List ℕ) (ds : List CDecl) (d : CDecl) → Completable (structured p x (ds ++ d ∷ []))
  structured_some x [] d = fed semicolon tt (MembersClosed p _) ([], _, refl)
  structured_some x (e ∷ ds) d = fed semicolon tt (MembersClosed p _) ([], _, refl)

  members_whole : (x : List ℕ) (ds : List CDecl) (d : CDecl) → Completable (InMembers p x (row (ds ++ d ∷ []) Wanted))
  members_whole x ds d = fed end tt (InMembers p x (row (ds ++ d ∷ []) Wanted)) (structured_some x ds d)

  members_completable : (x : List ℕ) (r : Row) → row_is_open r ≡ true → Completable (InMembers p x r)
  members_completable x r h = row_viable (λ z. Completable (InMembers p x z)) (members_fed x) r.before r.at h (λ d. members_whole x r.before d)

-- ---- files

first : Completable First
first = fed second_include tt First ([], _, refl)

completable : (s : State) → is_open s ≡ true → Completable s
completable Start o = fed first_include tt Start first
completable First o = first
completable Second o = ([], _, refl)
completable (Between p) o = ([], _, refl)
completable (InHead p m) o = head_viable (λ x. Completable (InHead p x)) (head_fed p) (head_closed p) m o
completable (InMembers p x r) o = members_completable p x r o
completable (MembersClosed p s) o = fed semicolon tt (MembersClosed p s) ([], _, refl)
completable (InBody p m) o = body_completable p m o
completable Failed o = cc

-- ---- what is shut has no end, and stays shut

module _ (p : Program) where
  locals_shut : (s : Signature) (r : Row) (y : Symbol) → row_is_open r ≡ false → is_open (in_body p (on_locals s r y)) ≡ false
  locals_shut s r y h =
      ap (λ b. is_open (in_body p (cond (b && not (is_type y)) (on_statements (nest s r.before) y) (Locals s (row_step r y))))) (row_not_whole r h) ∙ row_shut r y h

  in_line_shut : (r : ℕ) (n : Nest) (m : Line) (y : Symbol) → line_is_open m ≡ false → is_open (in_body p (on_line r n m y)) ≡ false
  in_line_shut r n m semicolon h = ap (λ o. is_open (in_body p (ended n o))) (line_none m h)
  in_line_shut r n m begin h = ap (λ o. is_open (in_body p (tested r n o))) (no_test m h)
  in_line_shut r n m y h = line_shut m y h

  stuck_shut : (r : ℕ) (n : Nest) (y : Symbol) → is_open (in_body p (on_gap r n blocks.Stuck y)) ≡ false
  stuck_shut r n begin = refl
  stuck_shut r n end = refl
  stuck_shut r n y = refl

  gap_shut : (r : ℕ) (n : Nest) (g : Gap) (y : Symbol) → gap_is_open g ≡ false → is_open (in_body p (on_gap r n g y)) ≡ false
  gap_shut r n blocks.Stuck y h = stuck_shut r n y
  gap_shut r n _ y h = cc

  body_shut : (m : Body) (y : Symbol) → body_is_open m ≡ false → is_open (in_body p (body_step m y)) ≡ false
  body_shut (Locals s r) y h = locals_shut s r y h
  body_shut (Statements n) y h = cc
  body_shut (InLine r n m) y h = in_line_shut r n m y h
  body_shut (InGap r n g) y h = gap_shut r n g y h
  body_shut (Closed f) y h = refl
  body_shut bodies.Stuck y h = refl

  on_head_shut : (m : Head) (y : Symbol) → head_is_open m ≡ false → is_open (on_head p m y) ≡ false
  on_head_shut m begin h =
      either_way (λ z. is_open z ≡ false) (head_is_whole m) (defined p (head_end m)) (members p (head_struct m))
      (λ e. ap (λ o. is_open (defined p o)) (head_none m h))
      (λ e. ap (λ o. is_open (members p o)) (no_head_struct m h))
  on_head_shut m semicolon h = ap (λ o. is_open (declared p o)) (head_none m h)
  on_head_shut m y h = head_shut m y h

  on_members_shut : (x : List ℕ) (r : Row) (y : Symbol) → row_is_open r ≡ false → is_open (on_members p x r y) ≡ false
  on_members_shut x r end h = ap (λ b. is_open (cond b (structured p x r.before) Failed)) (row_not_whole r h)
  on_members_shut x r y h = row_shut r y h

shut : (s : State) (t : Lexeme) → is_open s ≡ false → is_open (step s t) ≡ false
shut (InHead p m) t h = on_head_shut p m (symbol_of t.token) h
shut (InMembers p x r) t h = on_members_shut p x r (symbol_of t.token) h
shut (InBody p m) t h = body_shut p m (symbol_of t.token) h
shut Failed t h = refl
shut _ t h = cc

no_tree : (s : State) → is_open s ≡ false → finish s ≡ None
no_tree Second h = cc
no_tree (Between p) h = cc
no_tree _ h = refl

-- the six laws
pub laws : Reads reader SpellsTokens
laws = record { begins = refl; shut = shut; no_tree = no_tree; complete = complete; sound = sound; viable = λ ts o. completable (run Start ts) o }
