-- The machine that reads an expression, one symbol at a time, over a list of open frames and readers of types and patterns.
use Rattle.std.specs.Prelude.{ℕ, zero, suc, List, [], ◌∷◌, ◌++◌, Bool, true, false, nat_le, Option, Some, None, if◌then◌else◌}
use Rattle.cg_base.specs.declared.place.Place.{Place}
use Rattle.cg_base.specs.Reader.{Reader}
use Rattle.cg_core.specs.declared.at.At.{At}
use Rattle.cg_core.specs.declared.op.Op.{Op}
use Rattle.cg_core.specs.declared.op.Op.TheVariants.{Add, Sub, Mul, Div, Rem, And, Or, Xor, Shl, Shr, Complement, Eq, Ne, Lt, Gt, Le, Ge, Both, Either, Not}
use Rattle.cg_parser_symbols.specs.Symbols.{Symbol, Seen}
use Rattle.cg_parser_symbols.specs.Symbols as symbols
use Rattle.cg_parser_build.specs.Builder.{Builder}
use Rattle.cg_parser_exprs_def.specs.Bars.{Choice, New, Joins, Wrong, bar_choice}
use Rattle.cg_parser_exprs_def.specs.Grammar.{level, left_of, right_of}

-- what the fields in braces belong to: a record, or a put of an expression
pub data Owner (X : Type 0) : Type 0 where
  Record : Place → Owner X
  Put : X → Owner X

-- an operator with one operand
pub data Prefix : Type 0 where
  Operation : Op → Prefix
  Upcast : Prefix

-- an open match: its subject with what is observed, the alternatives before, and the column of its first bar
pub record Open (X A : Type 0) : Type 0 where
  pub subject : X
  pub seen : List At
  pub before : A
  pub column : ℕ

-- what is open in an expression, the innermost first
pub data Frame (X L F B A P : Type 0) : Type 0 where
  InParen : Place → Frame X L F B A P
  InTuple : Place → L → Frame X L F B A P
  InField : Owner X → F → At → Frame X L F B A P
  Argument : X → Frame X L F B A P
  Payload : Place → List ℕ → Frame X L F B A P
  Operand : Place → Prefix → Frame X L F B A P
  RightOf : Place → Op → X → Frame X L F B A P
  Bound : Place → B → P → Frame X L F B A P
  Body : Place → B → Frame X L F B A P
  Condition : Place → Frame X L F B A P
  Then : Place → X → List At → Frame X L F B A P
  Else : Place → X → List At → X → Frame X L F B A P
  Branch : Open X A → Place → Option (List ℕ) → P → Frame X L F B A P

-- which of the two signs stands there that may be the first of a shift
pub data Angle : Type 0 where
  ToLeft : Angle
  ToRight : Angle

-- where in an expression the machine stands; the readers of types and patterns have states of their own
pub data Mode (X L F B A Q P TS PS : Type 0) : Type 0 where
  Want : List (Frame X L F B A P) → Mode X L F B A Q P TS PS
  Have : X → List (Frame X L F B A P) → Mode X L F B A Q P TS PS
  AfterLower : Place → List ℕ → List (Frame X L F B A P) → Mode X L F B A Q P TS PS
  AfterUpper : Place → List ℕ → List (Frame X L F B A P) → Mode X L F B A Q P TS PS
  InArgs : Place → List ℕ → Q → TS → List (Frame X L F B A P) → Mode X L F B A Q P TS PS
  InSig : Place → X → TS → List (Frame X L F B A P) → Mode X L F B A Q P TS PS
  AfterDot : X → List (Frame X L F B A P) → Mode X L F B A Q P TS PS
  WantField : Owner X → F → List (Frame X L F B A P) → Mode X L F B A Q P TS PS
  AfterField : Owner X → F → At → List (Frame X L F B A P) → Mode X L F B A Q P TS PS
  InPattern : Place → B → PS → List (Frame X L F B A P) → Mode X L F B A Q P TS PS
  AfterAngle : Angle → Place → X → List (Frame X L F B A P) → Mode X L F B A Q P TS PS
  AfterBang : X → List At → List (Frame X L F B A P) → Mode X L F B A Q P TS PS
  Observed : X → List At → List (Frame X L F B A P) → Mode X L F B A Q P TS PS
  WantAlt : Open X A → List (Frame X L F B A P) → Mode X L F B A Q P TS PS
  AfterCon : Open X A → Place → List ℕ → List (Frame X L F B A P) → Mode X L F B A Q P TS PS
  InAltPattern : Open X A → Place → List ℕ → PS → List (Frame X L F B A P) → Mode X L F B A Q P TS PS
  WantArrow : Open X A → Place → P → List (Frame X L F B A P) → Mode X L F B A Q P TS PS
  Stuck : Mode X L F B A Q P TS PS
  WrongBar : Mode X L F B A Q P TS PS

-- a name at its place
abbrev pub name_at : Place → List ℕ → At
name_at p n = record { place = p; name = n }

-- the symbols that begin an atom
abbrev pub starts_atom : Symbol → Bool
starts_atom (symbols.lower n) = true
starts_atom (symbols.upper n) = true
starts_atom (symbols.numeral v) = true
starts_atom symbols.true_word = true
starts_atom symbols.false_word = true
starts_atom symbols.opening = true
starts_atom symbols.unboxed = true
starts_atom s = false

-- the operator of a sign that is no part of a shift
abbrev pub operator : Symbol → Option Op
operator symbols.star = Some Mul
operator symbols.slash = Some Div
operator symbols.percent = Some Rem
operator symbols.plus = Some Add
operator symbols.minus = Some Sub
operator symbols.bit_and = Some And
operator symbols.bit_xor = Some Xor
operator symbols.bit_or = Some Or
operator symbols.equal = Some Eq
operator symbols.not_equal = Some Ne
operator symbols.less_equal = Some Le
operator symbols.greater_equal = Some Ge
operator symbols.both = Some Both
operator symbols.either = Some Either
operator s = None

-- the operators of a sign that may be the first of a shift: alone, and as the first of two
abbrev pub alone_op : Angle → Op
alone_op ToLeft = Lt
alone_op ToRight = Gt

abbrev pub shift_op : Angle → Op
shift_op ToLeft = Shl
shift_op ToRight = Shr

-- whether a symbol is the second sign of a shift
abbrev pub is_second : Angle → Symbol → Bool
is_second ToLeft (symbols.less joined) = joined
is_second ToRight (symbols.greater joined) = joined
is_second a s = false

module _ {X L F B A Q T P TS PS : Type 0} (types : Reader TS Seen T) (patterns : Reader PS Seen P) (build : Builder X L F B A Q T P) where
  abbrev pub Frames : Type 0
  Frames = List (Frame X L F B A P)

  abbrev pub Stage : Type 0
  Stage = Mode X L F B A Q P TS PS

  -- how loose an expression may stand in a frame, and on the frames
  abbrev pub hole : Frame X L F B A P → ℕ
  hole (Argument f) = 0
  hole (Payload p n) = 0
  hole (Operand p o) = 2
  hole (RightOf p o a) = right_of o
  hole f = 12

  abbrev pub room : Frames → ℕ
  room [] = 12
  room (f ∷ fs) = hole f

  -- from which looseness on a frame is closed without a token of its own
  abbrev pub closes : Frame X L F B A P → ℕ
  closes (Argument f) = 1
  closes (Payload p n) = 2
  closes (Operand p o) = 2
  closes (RightOf p o a) = level o
  closes (Body p bs) = 12
  closes (Else p c seen a) = 12
  closes (Branch o p con x) = 12
  closes f = 13

  -- an operator with one operand on it
  abbrev pub prefixed : Place → Prefix → X → X
  prefixed p (Operation o) e = build.unary p o e
  prefixed p Upcast e = build.upcast p e

  -- the expression of a frame with its hole filled
  abbrev pub fill : Frame X L F B A P → X → X
  fill (Argument f) e = build.app f e
  fill (Payload p n) e = build.con_of p n e
  fill (Operand p o) e = prefixed p o e
  fill (RightOf p o a) e = build.binary p o a e
  fill (Body p bs) e = build.lets p bs e
  fill (Else p c seen a) e = build.if_else p c seen a e
  fill (Branch o p con x) e = build.match_of o.subject o.seen (build.and_alt o.before p con x e)
  fill f e = e

  -- closes the frames that bind at most so loosely: the expression, and the frames that stay
  abbrev pub closed : ℕ → X → Frames → X × Frames
  closed k e [] = (e, [])
  closed k e (f ∷ fs) = if nat_le (closes f) k then closed k (fill f e) fs else (e, f ∷ fs)

  -- the matches that are open in the innermost frame: the columns of their first bars, the innermost first
  abbrev pub opens : Frames → List ℕ
  opens [] = []
  opens (InParen p ∷ fs) = []
  opens (InTuple p es ∷ fs) = []
  opens (InField o gs at ∷ fs) = []
  opens (Bound p bs x ∷ fs) = []
  opens (Condition p ∷ fs) = []
  opens (Then p c seen ∷ fs) = []
  opens (Branch o p con x ∷ fs) = o.column ∷ opens fs
  opens (Argument f ∷ fs) = opens fs
  opens (Payload p n ∷ fs) = opens fs
  opens (Operand p o ∷ fs) = opens fs
  opens (RightOf p o a ∷ fs) = opens fs
  opens (Body p bs ∷ fs) = opens fs
  opens (Else p c seen a ∷ fs) = opens fs

  -- the fields of a record, or of a put
  abbrev pub owned : Owner X → F → X
  owned (Record p) gs = build.fields p gs
  owned (Put e) gs = build.put e gs

  -- a field that is written alone
  abbrev pub alone : F → At → F
  alone gs at = build.and_field gs at (build.name at.place at.name build.no_args)

  -- where an expression is wanted
  abbrev pub on_upper : Place → List ℕ → Frames → Stage
  on_upper p n fs = if nat_le 1 (room fs) then AfterUpper p n fs else Have (build.con p n) fs

  abbrev pub on_prefix : Place → Prefix → Frames → Stage
  on_prefix p o fs = if nat_le 2 (room fs) then Want (Operand p o ∷ fs) else Stuck

  abbrev pub on_let : Place → Frames → Stage
  on_let p fs = if nat_le 12 (room fs) then InPattern p build.no_binds patterns.begin fs else Stuck

  abbrev pub on_if : Place → Frames → Stage
  on_if p fs = if nat_le 12 (room fs) then Want (Condition p ∷ fs) else Stuck

  abbrev pub on_empty : Frames → Stage
  on_empty (InParen p ∷ fs) = Have (build.unit p) fs
  on_empty fs = Stuck

  abbrev pub start : Symbol → Place → Frames → Stage
  start (symbols.lower n) p fs = AfterLower p n fs
  start (symbols.upper n) p fs = on_upper p n fs
  start (symbols.numeral v) p fs = Have (build.number p v) fs
  start symbols.true_word p fs = Have (build.bool p true) fs
  start symbols.false_word p fs = Have (build.bool p false) fs
  start symbols.opening p fs = Want (InParen p ∷ fs)
  start symbols.closing p fs = on_empty fs
  start symbols.unboxed p fs = WantField (Record p) build.no_fields fs
  start symbols.not_word p fs = on_prefix p (Operation Not) fs
  start symbols.complement_word p fs = on_prefix p (Operation Complement) fs
  start symbols.upcast_word p fs = on_prefix p Upcast fs
  start symbols.let_word p fs = on_let p fs
  start symbols.if_word p fs = on_if p fs
  start s p fs = Stuck

  -- at the beginning of an atom, behind an expression
  abbrev pub on_argument : Symbol → Place → X → Frames → Stage
  on_argument s p e fs = if nat_le 1 (room fs) then start s p (Argument e ∷ fs) else Stuck

  -- at an operator with two operands
  abbrev pub on_op : Op → Place → X → Frames → Stage
  on_op o p e fs = if nat_le (level o) (room fs) then Want (RightOf p o e ∷ fs) else Stuck

  -- at a bar that opens a match
  abbrev pub on_new : ℕ → List At → X → Frames → Stage
  on_new column seen e fs = if nat_le 12 (room fs) then WantAlt (record { subject = e; seen = seen; before = build.no_alts; column = column }) fs else Stuck

  -- at a bar that belongs to an open match: all inside it is closed; behind an alternative without a constructor none may follow
  abbrev pub next_alt : Open X A → Place → Option (List ℕ) → P → X → Frames → Stage
  next_alt o p None x e fs = Stuck
  next_alt o p (Some n) x e fs = WantAlt (record { subject = o.subject; seen = o.seen; before = build.and_alt o.before p (Some n) x e; column = o.column }) fs

  abbrev pub joined : ℕ → X → Frames → Stage
  joined j e [] = Stuck
  joined zero e (Branch o p con x ∷ fs) = next_alt o p con x e fs
  joined (suc j) e (Branch o p con x ∷ fs) = joined j (fill (Branch o p con x) e) fs
  joined j e (f ∷ fs) = if nat_le (closes f) 12 then joined j (fill f e) fs else Stuck

  -- at a bar, with nothing observed behind the expression or with something
  abbrev pub on_choice : Choice → ℕ → List At → X → Frames → Stage
  on_choice New column seen e fs = let r = closed 11 e fs in on_new column seen r.0 r.1
  on_choice (Joins j) column [] e fs = joined j e fs
  on_choice (Joins j) column (n ∷ ns) e fs = Stuck
  on_choice Wrong column seen e fs = WrongBar

  abbrev pub on_bar : Bool → Place → List At → X → Frames → Stage
  on_bar first p seen e fs = on_choice (bar_choice first p.column (opens fs)) p.column seen e fs

  -- at a closing parenthesis, a comma, a closing brace, a colon
  abbrev pub on_close : X → Frames → Stage
  on_close e (InParen p ∷ fs) = Have (build.paren p e) fs
  on_close e (InTuple p es ∷ fs) = Have (build.tuple p (build.and_expr es e)) fs
  on_close e fs = Stuck

  abbrev pub on_comma : X → Frames → Stage
  on_comma e (InParen p ∷ fs) = Want (InTuple p (build.and_expr build.no_exprs e) ∷ fs)
  on_comma e (InTuple p es ∷ fs) = Want (InTuple p (build.and_expr es e) ∷ fs)
  on_comma e (InField o gs at ∷ fs) = WantField o (build.and_field gs at e) fs
  on_comma e fs = Stuck

  abbrev pub on_brace : X → Frames → Stage
  on_brace e (InField o gs at ∷ fs) = Have (owned o (build.and_field gs at e)) fs
  on_brace e fs = Stuck

  abbrev pub on_colon : X → Frames → Stage
  on_colon e (InParen p ∷ fs) = InSig p e types.begin fs
  on_colon e fs = Stuck

  -- at `in`, `and`, `then`, `else`, with what is observed
  abbrev pub on_in : List At → X → Frames → Stage
  on_in seen e (Bound p bs x ∷ fs) = Want (Body p (build.and_bind bs x e seen) ∷ fs)
  on_in seen e fs = Stuck

  abbrev pub on_and : List At → X → Frames → Stage
  on_and seen e (Bound p bs x ∷ fs) = InPattern p (build.and_bind bs x e seen) patterns.begin fs
  on_and seen e fs = Stuck

  abbrev pub on_then : List At → X → Frames → Stage
  on_then seen e (Condition p ∷ fs) = Want (Then p e seen ∷ fs)
  on_then seen e fs = Stuck

  abbrev pub on_else : X → Frames → Stage
  on_else e (Then p c seen ∷ fs) = Want (Else p c seen e ∷ fs)
  on_else e fs = Stuck

  -- at a word or a sign that closes what it may
  abbrev pub on_end : Symbol → X → Frames → Stage
  on_end symbols.closing e fs = on_close e fs
  on_end symbols.comma e fs = on_comma e fs
  on_end symbols.closing_brace e fs = on_brace e fs
  on_end symbols.colon e fs = on_colon e fs
  on_end symbols.in_word e fs = on_in [] e fs
  on_end symbols.and_word e fs = on_and [] e fs
  on_end symbols.then_word e fs = on_then [] e fs
  on_end symbols.else_word e fs = on_else e fs
  on_end s e fs = Stuck

  -- behind an expression, at a symbol that is no operator and begins no atom
  abbrev pub go_past : Symbol → Place → X → Frames → Stage
  go_past (symbols.less j) p e fs = AfterAngle ToLeft p e fs
  go_past (symbols.greater j) p e fs = AfterAngle ToRight p e fs
  go_past symbols.bang p e fs = let r = closed 11 e fs in AfterBang r.0 [] r.1
  go_past (symbols.bar first) p e fs = on_bar first p [] e fs
  go_past s p e fs = let r = closed 12 e fs in on_end s r.0 r.1

  abbrev pub at_operator : Option Op → Symbol → Place → X → Frames → Stage
  at_operator (Some o) s p e fs = let r = closed (left_of o) e fs in on_op o p r.0 r.1
  at_operator None s p e fs = go_past s p e fs

  -- behind an expression that takes no argument at this symbol
  abbrev pub go_on : Symbol → Place → X → Frames → Stage
  go_on s p e fs = at_operator (operator s) s p e fs

  -- behind an atom with what is behind it
  abbrev pub have : Symbol → Place → X → Frames → Stage
  have symbols.dot p e fs = AfterDot e fs
  have symbols.brace p e fs = WantField (Put e) build.no_fields fs
  have s p e fs = if starts_atom s then (let r = closed 1 e fs in on_argument s p r.0 r.1) else go_on s p e fs

  -- behind a name, and behind a constructor at the head of an expression
  abbrev pub after_lower : Symbol → Place → Place → List ℕ → Frames → Stage
  after_lower symbols.bracket p q n fs = InArgs q n build.no_args types.begin fs
  after_lower s p q n fs = have s p (build.name q n build.no_args) fs

  abbrev pub after_upper : Symbol → Place → Place → List ℕ → Frames → Stage
  after_upper s p q n fs = if starts_atom s then start s p (Payload q n ∷ fs) else go_on s p (build.con q n) fs

  -- in type arguments, and in the type of an annotation
  abbrev pub args_more : Place → List ℕ → Q → TS → Seen → Frames → Option T → Stage
  args_more q n args s t fs None = InArgs q n args (types.step s t) fs
  args_more q n args s t fs (Some u) = InArgs q n (build.and_arg args u) types.begin fs

  abbrev pub args_end : Place → List ℕ → Q → TS → Seen → Frames → Option T → Stage
  args_end q n args s t fs None = InArgs q n args (types.step s t) fs
  args_end q n args s t fs (Some u) = Have (build.name q n (build.and_arg args u)) fs

  abbrev pub in_args : Symbol → Place → Place → List ℕ → Q → TS → Frames → Stage
  in_args symbols.comma p q n args s fs = args_more q n args s (record { symbol = symbols.comma; place = p }) fs (types.finish s)
  in_args symbols.closing_bracket p q n args s fs = args_end q n args s (record { symbol = symbols.closing_bracket; place = p }) fs (types.finish s)
  in_args y p q n args s fs = InArgs q n args (types.step s (record { symbol = y; place = p })) fs

  abbrev pub sig_end : Place → X → TS → Seen → Frames → Option T → Stage
  sig_end q e s t fs None = InSig q e (types.step s t) fs
  sig_end q e s t fs (Some u) = Have (build.sig q e u) fs

  abbrev pub in_sig : Symbol → Place → Place → X → TS → Frames → Stage
  in_sig symbols.closing p q e s fs = sig_end q e s (record { symbol = symbols.closing; place = p }) fs (types.finish s)
  in_sig y p q e s fs = InSig q e (types.step s (record { symbol = y; place = p })) fs

  -- in the pattern of a binding, and in that of an alternative
  abbrev pub pattern_end : Place → B → PS → Seen → Frames → Option P → Stage
  pattern_end q bs s t fs None = InPattern q bs (patterns.step s t) fs
  pattern_end q bs s t fs (Some x) = Want (Bound q bs x ∷ fs)

  abbrev pub in_pattern : Symbol → Place → Place → B → PS → Frames → Stage
  in_pattern symbols.equals p q bs s fs = pattern_end q bs s (record { symbol = symbols.equals; place = p }) fs (patterns.finish s)
  in_pattern y p q bs s fs = InPattern q bs (patterns.step s (record { symbol = y; place = p })) fs

  abbrev pub alt_end : Open X A → Place → List ℕ → PS → Seen → Frames → Option P → Stage
  alt_end o q n s t fs None = InAltPattern o q n (patterns.step s t) fs
  alt_end o q n s t fs (Some x) = Want (Branch o q (Some n) x ∷ fs)

  abbrev pub in_alt_pattern : Symbol → Place → Open X A → Place → List ℕ → PS → Frames → Stage
  in_alt_pattern symbols.arrow p o q n s fs = alt_end o q n s (record { symbol = symbols.arrow; place = p }) fs (patterns.finish s)
  in_alt_pattern y p o q n s fs = InAltPattern o q n (patterns.step s (record { symbol = y; place = p })) fs

  -- where an alternative is wanted, behind its constructor, and behind a name or a wildcard
  abbrev pub want_alt : Symbol → Place → Open X A → Frames → Stage
  want_alt (symbols.upper n) p o fs = AfterCon o p n fs
  want_alt (symbols.lower n) p o fs = WantArrow o p (build.pattern_name p n) fs
  want_alt symbols.wildcard p o fs = WantArrow o p (build.pattern_any p) fs
  want_alt s p o fs = Stuck

  abbrev pub after_con : Symbol → Place → Open X A → Place → List ℕ → Frames → Stage
  after_con symbols.arrow p o q n fs = Want (Branch o q (Some n) (build.pattern_unit q) ∷ fs)
  after_con y p o q n fs = InAltPattern o q n (patterns.step patterns.begin (record { symbol = y; place = p })) fs

  abbrev pub want_arrow : Symbol → Open X A → Place → P → Frames → Stage
  want_arrow symbols.arrow o q x fs = Want (Branch o q None x ∷ fs)
  want_arrow s o q x fs = Stuck

  -- behind a dot, where a field is wanted, and behind its name
  abbrev pub after_dot : Symbol → Place → X → Frames → Stage
  after_dot (symbols.lower n) p e fs = Have (build.member e (name_at p n)) fs
  after_dot s p e fs = Stuck

  abbrev pub want_field : Symbol → Place → Owner X → F → Frames → Stage
  want_field (symbols.lower n) p o gs fs = AfterField o gs (name_at p n) fs
  want_field s p o gs fs = Stuck

  abbrev pub after_field : Symbol → Owner X → F → At → Frames → Stage
  after_field symbols.equals o gs at fs = Want (InField o gs at ∷ fs)
  after_field symbols.comma o gs at fs = WantField o (alone gs at) fs
  after_field symbols.closing_brace o gs at fs = Have (owned o (alone gs at)) fs
  after_field s o gs at fs = Stuck

  -- behind a sign that may be the first of a shift: the next one decides
  abbrev pub then_start : Symbol → Place → Stage → Stage
  then_start s p (Want fs) = start s p fs
  then_start s p m = Stuck

  abbrev pub after_angle : Symbol → Place → Angle → Place → X → Frames → Stage
  after_angle s p a q e fs =
      if is_second a s then (let r = closed 5 e fs in on_op (shift_op a) q r.0 r.1) else (let r = closed 8 e fs in then_start s p (on_op (alone_op a) q r.0 r.1))

  -- behind the sign of an observed variable, and behind its name
  abbrev pub after_bang : Symbol → Place → X → List At → Frames → Stage
  after_bang (symbols.lower n) p e seen fs = Observed e (seen ++ name_at p n ∷ []) fs
  after_bang s p e seen fs = Stuck

  abbrev pub observed : Symbol → Place → X → List At → Frames → Stage
  observed symbols.bang p e seen fs = AfterBang e seen fs
  observed (symbols.bar first) p e seen fs = on_bar first p seen e fs
  observed symbols.in_word p e seen fs = let r = closed 12 e fs in on_in seen r.0 r.1
  observed symbols.and_word p e seen fs = let r = closed 12 e fs in on_and seen r.0 r.1
  observed symbols.then_word p e seen fs = let r = closed 12 e fs in on_then seen r.0 r.1
  observed s p e seen fs = Stuck

  -- one symbol more
  abbrev pub mode_step : Stage → Symbol → Place → Stage
  mode_step (Want fs) s p = start s p fs
  mode_step (Have e fs) s p = have s p e fs
  mode_step (AfterLower q n fs) s p = after_lower s p q n fs
  mode_step (AfterUpper q n fs) s p = after_upper s p q n fs
  mode_step (InArgs q n args u fs) s p = in_args s p q n args u fs
  mode_step (InSig q e u fs) s p = in_sig s p q e u fs
  mode_step (AfterDot e fs) s p = after_dot s p e fs
  mode_step (WantField o gs fs) s p = want_field s p o gs fs
  mode_step (AfterField o gs at fs) s p = after_field s o gs at fs
  mode_step (InPattern q bs u fs) s p = in_pattern s p q bs u fs
  mode_step (AfterAngle a q e fs) s p = after_angle s p a q e fs
  mode_step (AfterBang e seen fs) s p = after_bang s p e seen fs
  mode_step (Observed e seen fs) s p = observed s p e seen fs
  mode_step (WantAlt o fs) s p = want_alt s p o fs
  mode_step (AfterCon o q n fs) s p = after_con s p o q n fs
  mode_step (InAltPattern o q n u fs) s p = in_alt_pattern s p o q n u fs
  mode_step (WantArrow o q x fs) s p = want_arrow s o q x fs
  mode_step Stuck s p = Stuck
  mode_step WrongBar s p = WrongBar

  -- an expression under no frame
  abbrev pub whole : X → Frames → Option X
  whole e [] = Some e
  whole e (f ∷ fs) = None

  -- the expression that ends there, if one can
  abbrev pub mode_end : Stage → Option X
  mode_end (Have e fs) = let r = closed 12 e fs in whole r.0 r.1
  mode_end (AfterLower p n fs) = let r = closed 12 (build.name p n build.no_args) fs in whole r.0 r.1
  mode_end (AfterUpper p n fs) = let r = closed 12 (build.con p n) fs in whole r.0 r.1
  mode_end m = None

  abbrev pub is_open : Stage → Bool
  is_open (InArgs q n args u fs) = types.is_open u
  is_open (InSig q e u fs) = types.is_open u
  is_open (InPattern q bs u fs) = patterns.is_open u
  is_open (InAltPattern o q n u fs) = patterns.is_open u
  is_open Stuck = false
  is_open WrongBar = false
  is_open m = true

  -- all of it, as a reader
  abbrev pub reader : Reader Stage Seen X
  reader = record { begin = Want []; step = λ m t. mode_step m t.symbol t.place; is_open = is_open; finish = mode_end }
