-- What an expression has read that isn't finished: its frames, each with the tokens that it has read, and the fault of a bar that
-- belongs nowhere (docs/LANGUAGE.md, "Bars").
use Rattle.std.specs.Prelude.{◌≡◌, ◌≤◌, ℕ, Bool, true, List, [], ◌∷◌, ◌++◌, length, ⊤}
use Rattle.cg_base.specs.declared.place.Place.{Place}
use Rattle.cg_core.specs.declared.at.At.{At}
use Rattle.cg_surface.specs.Written.{Written}
use Rattle.cg_surface.specs.Patterns.{Pattern}
use Rattle.cg_surface.specs.Exprs.{Expr, Exprs, and_expr, FieldExprs, Binds as Bindings, Alts, no_alts, and_alt}
use Rattle.cg_parser_symbols.specs.Symbols.{Seen}
use Rattle.cg_parser_symbols.specs.Symbols as symbols
use Rattle.cg_parser_symbols.specs.Readings.{Reading, ◌then◌, token, sign, IsSpelled}
use Rattle.cg_parser_exprs_def.specs.Bars.{New, Joins, Wrong, bar_choice}
use Rattle.cg_parser_exprs_def.specs.Grammar.{level, left_of, right_of, looseness, Heads, Stands, op_sign, op_word, AreNamed, AreMany, Binds, ExprsBind, FieldsBind, BindsBind, AltsBind, ReadsSeen, ReadsHead, ReadsExpr, ReadsWhole, ExprsBefore, FieldsBefore, ReadsBinds, BindsBefore, ReadsAlts}
use Rattle.cg_parser_exprs_def.specs.Machine as machine
use Rattle.cg_parser_exprs_def.specs.Machine.{Owner, Record, Put, Operation, Upcast, InParen, InTuple, InField, Argument, Payload, Operand, RightOf, Bound, Body, Condition, Then, Else, Branch}

-- a frame over whole trees
abbrev pub Frame : Type 0
Frame = machine.Frame Expr Exprs FieldExprs Bindings Alts Pattern

-- an open match
abbrev pub Open : Type 0
Open = machine.Open Expr Alts

-- how loosely the expression of a frame is bound
abbrev pub outcome : Frame → ℕ
outcome (InParen p) = 0
outcome (InTuple p es) = 0
outcome (InField o gs at) = 0
outcome (Argument f) = 1
outcome (Payload p n) = 2
outcome (Operand p o) = 2
outcome (RightOf p o a) = level o
outcome (Bound p bs x) = 12
outcome (Body p bs) = 12
outcome (Condition p) = 12
outcome (Then p c seen) = 12
outcome (Else p c seen a) = 12
outcome (Branch o p c x) = 12

-- an atom with what is behind it, where so much has room
abbrev pub AtomFits : ℕ → Expr → Type 0
AtomFits r e = (looseness e ≤ 0) × Binds e × ((1 ≤ r) → Heads e)

-- the expression of a put is one
abbrev pub OwnerFits : ℕ → Owner Expr → Type 0
OwnerFits r (Record p) = ⊤
OwnerFits r (Put e) = AtomFits r e

-- the parts of an open match are bound tightly enough
abbrev pub OpenFits : Open → Type 0
OpenFits o = (looseness o.subject ≤ 11) × Stands o.subject × Binds o.subject × AreNamed o.before × AltsBind o.before

-- a frame's own expressions are bound tightly enough
abbrev pub Fits : ℕ → Frame → Type 0
Fits r (InParen p) = ⊤
Fits r (InTuple p es) = ((e : Expr) → AreMany (and_expr es e)) × ExprsBind es
Fits r (InField o gs at) = OwnerFits r o × FieldsBind gs
Fits r (Argument f) = (looseness f ≤ 1) × Heads f × Binds f
Fits r (Payload p n) = ⊤
Fits r (Operand p o) = ⊤
Fits r (RightOf p o a) = (3 ≤ level o) × (looseness a ≤ left_of o) × Stands a × Binds a
Fits r (Bound p bs x) = BindsBind bs
Fits r (Body p bs) = BindsBind bs
Fits r (Condition p) = ⊤
Fits r (Then p c seen) = Stands c × Binds c
Fits r (Else p c seen a) = Stands c × Binds c × Stands a × Binds a
Fits r (Branch o p c x) = OpenFits o

-- the matches that are open in the innermost frame: the columns of their first bars, the innermost first (as the machine counts them,
-- with no reader named)
abbrev pub opens : List Frame → List ℕ
opens [] = []
opens (InParen p ∷ fs) = []
opens (InTuple p es ∷ fs) = []
opens (InField o gs at ∷ fs) = []
opens (Bound p bs x ∷ fs) = []
opens (Condition p ∷ fs) = []
opens (Then p c seen ∷ fs) = []
opens (Branch o p con x ∷ fs) = o.column ∷ opens fs
opens (Argument f ∷ fs) = opens fs
opens (Payload p n ∷ fs) = opens fs
opens (Operand p o ∷ fs) = opens fs
opens (RightOf p o a ∷ fs) = opens fs
opens (Body p bs ∷ fs) = opens fs
opens (Else p c seen a ∷ fs) = opens fs

-- how loose an expression may stand in a frame, and on the frames
abbrev pub hole : Frame → ℕ
hole (Argument f) = 0
hole (Payload p n) = 0
hole (Operand p o) = 2
hole (RightOf p o a) = right_of o
hole f = 12

abbrev pub room : List Frame → ℕ
room [] = 12
room (f ∷ fs) = hole f

module _ (OfType : List Seen → Written → Type 0) (OfPattern : List Seen → Pattern → Type 0) where
  -- an expression
  abbrev pub Read : Expr → List ℕ → List ℕ → Reading
  Read = ReadsExpr OfType OfPattern

  -- an expression in a frame of its own
  abbrev pub Whole : Expr → Reading
  Whole = ReadsWhole OfType OfPattern

  -- observed variables
  abbrev pub SeenRead : List At → Reading
  SeenRead = ReadsSeen OfType OfPattern

  -- what the fields in braces belong to
  abbrev pub OwnerRead : Owner Expr → Reading
  OwnerRead (Record p) = token symbols.unboxed p
  OwnerRead (Put e) = Whole e then sign symbols.brace

  -- a bar of a match with the alternatives before it, among the matches that are open before the match
  abbrev pub BarRead : Alts → ℕ → List ℕ → Reading
  BarRead no_alts c os ts rest = (q : Place) × (first : Bool) × (c ≡ q.column) × (bar_choice first q.column os ≡ New) × token (symbols.bar first) q ts rest
  BarRead (and_alt choices p head x b) c os ts rest =
      (mid : List ℕ) × (q : Place) × (first : Bool) × (inner : List ℕ) × (mid ≡ inner ++ c ∷ os) × (bar_choice first q.column mid ≡ Joins (length inner))
      × (ReadsAlts OfType OfPattern (and_alt choices p head x b) c os mid then token (symbols.bar first) q) ts rest

  -- a match up to a bar
  abbrev pub OpenRead : Open → List ℕ → Reading
  OpenRead o os = Whole o.subject then SeenRead o.seen then BarRead o.before o.column os

  -- the tokens that a frame has read, among these open matches
  abbrev pub Begun : List ℕ → Frame → Reading
  Begun os (InParen p) = token symbols.opening p
  Begun os (InTuple p es) = token symbols.opening p then ExprsBefore OfType OfPattern es
  Begun os (InField o gs at) = OwnerRead o then FieldsBefore OfType OfPattern gs then token (symbols.lower at.name) at.place then sign symbols.equals
  Begun os (Argument f) = Whole f
  Begun os (Payload p n) = token (symbols.upper n) p
  Begun os (Operand p (Operation o)) = op_word o p
  Begun os (Operand p Upcast) = token symbols.upcast_word p
  Begun os (RightOf p o a) = Whole a then op_sign o p
  Begun os (Bound p bs x) = token symbols.let_word p then BindsBefore OfType OfPattern bs then IsSpelled OfPattern x then sign symbols.equals
  Begun os (Body p bs) = token symbols.let_word p then ReadsBinds OfType OfPattern bs then sign symbols.in_word
  Begun os (Condition p) = token symbols.if_word p
  Begun os (Then p c seen) = token symbols.if_word p then Whole c then SeenRead seen then sign symbols.then_word
  Begun os (Else p c seen a) = token symbols.if_word p then Whole c then SeenRead seen then sign symbols.then_word then Whole a then sign symbols.else_word
  Begun os (Branch o p c x) = OpenRead o os then ReadsHead OfType OfPattern p c x then sign symbols.arrow

  -- the tokens that all frames have read
  abbrev pub Below : List Frame → Reading
  Below [] all rest = all ≡ rest
  Below (f ∷ fs) all rest = (Below fs then Begun (opens fs) f) all rest

  -- each frame has room for the one on it
  abbrev pub Good : List Frame → Type 0
  Good [] = ⊤
  Good (f ∷ fs) = (outcome f ≤ room fs) × Fits (room fs) f × Good fs

  -- The token is a bar that is first on its line and stands, behind these tokens, behind an expression in an unfinished one, perhaps
  -- with observed variables between. At its column it belongs to no match that is open there, and opens none.
  pub record IsWrongBar (front : List Seen) (t : Seen) : Type 0 where
    pub frames : List Frame
    pub e : Expr
    -- the matches that are open at its end
    pub to : List ℕ
    pub seen : List At
    pub good : Good frames
    pub loose : looseness e ≤ room frames
    pub stands : (1 ≤ room frames) → Stands e
    pub binds : Binds e
    pub read : (Below frames then Read e (opens frames) to then SeenRead seen) front []
    pub bar : t.symbol ≡ symbols.bar true
    pub wrong : bar_choice true t.place.column to ≡ Wrong
