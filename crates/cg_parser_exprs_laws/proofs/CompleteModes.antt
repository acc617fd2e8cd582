-- The modes that stand behind an expression: what is open at its right edge, and what each symbol does there.
use Rattle.std.proofs.Common.{◌≡◌, ◌⊎◌, inr, ⊎_elim, ℕ, zero, suc, ◌+◌, ◌≤◌, ◌<◌, List, [], ◌∷◌, ◌++◌, length, length-append, refl, sym, ◌∙◌, ap, arith, true, false, Bool, Option, Some}
use Rattle.std.specs.Prelude.{nat_le}
use Rattle.std.proofs.lemmas.Bool.{le-leb, lt-leb, leb-true}
use Rattle.cg_base.specs.declared.place.Place.{Place}
use Rattle.cg_base.specs.Reader.{Reader}
use Rattle.cg_base.specs.Reader as readers
use Rattle.cg_core.specs.declared.at.At.{At}
use Rattle.cg_core.specs.declared.op.Op.{Op}
use Rattle.cg_core.specs.declared.op.Op.TheVariants.{Add, Sub, Mul, Div, Rem, And, Or, Xor, Shl, Shr, Complement, Eq, Ne, Lt, Gt, Le, Ge, Both, Either, Not}
use Rattle.cg_surface.specs.Written.{Written, Writtens, no_types}
use Rattle.cg_surface.specs.Patterns.{Pattern}
use Rattle.cg_surface.specs.Exprs.{Expr, name, con, app, Exprs, no_exprs, and_expr, FieldExprs, no_fields, Binds as Bindings, Alts, no_alts, and_alt, place_of}
use Rattle.cg_parser_symbols.specs.Symbols.{Symbol, Seen, lower, upper, numeral, true_word, false_word, opening, closing, unboxed, dot, brace, closing_brace, bracket, comma, colon, in_word, and_word, then_word, else_word, less, greater, bar, star, slash, percent, plus, minus, less_equal, greater_equal, equal, not_equal, both, either, bit_and, bit_or, bit_xor}
use Rattle.cg_parser_symbols.specs.Readings.{token}
use Rattle.cg_parser_exprs_def.specs.Bars.{Choice, New, Joins, bar_choice}
use Rattle.cg_parser_exprs_def.specs.Grammar.{level, left_of, looseness, Heads, Stands, op_sign}
use Rattle.cg_parser_exprs_def.specs.Machine as machine
use Rattle.cg_parser_exprs_def.specs.Machine.{Put, Open, InParen, InTuple, InField, Argument, Payload, Operand, RightOf, Bound, Body, Condition, Then, Else, Branch, Angle, ToLeft, ToRight, Mode, Want, Have, AfterLower, AfterUpper, AfterDot, WantField, AfterAngle, Observed, WantAlt, Stuck, starts_atom, operator, is_second}
use Rattle.cg_parser_build.specs.Plain.{trees}
use Rattle.cg_parser_exprs_def.specs.Plain.{plain_reader}
use Rattle.cg_parser_exprs_laws.proofs.CompleteSteps.{level_high, level_low, left_high, loose_le, First, first}

-- a frame over whole trees
abbrev pub Frame : Type 0
Frame = machine.Frame Expr Exprs FieldExprs Bindings Alts Pattern

-- a symbol at its place
abbrev pub seen_at : Symbol → Place → Seen
seen_at y p = record { symbol = y; place = p }

-- a symbol that goes on behind an expression of any kind
abbrev pub goes_past : Symbol → Bool
goes_past (lower n) = false
goes_past (upper n) = false
goes_past (numeral v) = false
goes_past true_word = false
goes_past false_word = false
goes_past opening = false
goes_past unboxed = false
goes_past dot = false
goes_past brace = false
goes_past bracket = false
goes_past y = true

-- a symbol at which a whole expression ends
abbrev pub ends_whole : Symbol → Bool
ends_whole closing = true
ends_whole comma = true
ends_whole closing_brace = true
ends_whole colon = true
ends_whole in_word = true
ends_whole and_word = true
ends_whole then_word = true
ends_whole else_word = true
ends_whole y = false

ends_past : (y : Symbol) → ends_whole y ≡ true → goes_past y ≡ true
ends_past closing h = refl
ends_past comma h = refl
ends_past closing_brace h = refl
ends_past colon h = refl
ends_past in_word h = refl
ends_past and_word h = refl
ends_past then_word h = refl
ends_past else_word h = refl
ends_past y h = cc

module _ {TS PS : Type 0} (types : Reader TS Seen Written) (patterns : Reader PS Seen Pattern) where
  -- the machine over whole trees, in short names
  abbrev pub Stage : Type 0
  Stage = Mode Expr Exprs FieldExprs Bindings Alts Writtens Pattern TS PS

  abbrev pub closed : ℕ → Expr → List Frame → Expr × List Frame
  closed = machine.closed types patterns trees

  abbrev pub hole : Frame → ℕ
  hole = machine.hole types patterns trees

  abbrev pub room : List Frame → ℕ
  room = machine.room types patterns trees

  abbrev pub closes : Frame → ℕ
  closes = machine.closes types patterns trees

  abbrev pub fill : Frame → Expr → Expr
  fill = machine.fill types patterns trees

  abbrev pub opens : List Frame → List ℕ
  opens = machine.opens types patterns trees

  abbrev pub joined : ℕ → Expr → List Frame → Stage
  joined = machine.joined types patterns trees

  abbrev pub on_end : Symbol → Expr → List Frame → Stage
  on_end = machine.on_end types patterns trees

  abbrev pub on_op : Op → Place → Expr → List Frame → Stage
  on_op = machine.on_op types patterns trees

  abbrev pub on_argument : Symbol → Place → Expr → List Frame → Stage
  on_argument = machine.on_argument types patterns trees

  abbrev pub on_choice : Choice → ℕ → List At → Expr → List Frame → Stage
  on_choice = machine.on_choice types patterns trees

  abbrev pub next_alt : Open Expr Alts → Place → Option (List ℕ) → Pattern → Expr → List Frame → Stage
  next_alt = machine.next_alt types patterns trees

  abbrev pub go_on : Symbol → Place → Expr → List Frame → Stage
  go_on = machine.go_on types patterns trees

  abbrev pub have : Symbol → Place → Expr → List Frame → Stage
  have = machine.have types patterns trees

  abbrev pub start : Symbol → Place → List Frame → Stage
  start = machine.start types patterns trees

  abbrev pub mode_step : Stage → Symbol → Place → Stage
  mode_step = machine.mode_step types patterns trees

  abbrev pub whole : Expr → List Frame → Option Expr
  whole = machine.whole types patterns trees

  abbrev pub mode_end : Stage → Option Expr
  mode_end = machine.mode_end types patterns trees

  abbrev pub run : Stage → List Seen → Stage
  run = readers.run (plain_reader types patterns)

  -- one token
  pub go : (m : Stage) (y : Symbol) (p : Place) (ts rest : List Seen) (to : Stage) → token y p ts rest → mode_step m y p ≡ to → run m ts ≡ run to rest
  go m y p ts rest to r q = ap (run m) r ∙ ap (λ x. run x rest) q

  -- what closes at a looseness closes there first, and what doesn't stays
  shut : (f : Frame) (k : ℕ) (e : Expr) (fs : List Frame) → closes f ≤ k → closed k e (f ∷ fs) ≡ closed k (fill f e) fs
  shut f k e fs h = rw (le-leb (closes f) k h) refl

  kept : (f : Frame) (k : ℕ) (e : Expr) (fs : List Frame) → k < closes f → closed k e (f ∷ fs) ≡ (e, f ∷ fs)
  kept f k e fs h = rw (lt-leb (closes f) k h) refl

  closed_twice : (j k : ℕ) (e : Expr) (fs : List Frame) → j ≤ k → closed k (closed j e fs).0 (closed j e fs).1 ≡ closed k e fs
  closed_twice j k e [] h = refl
  closed_twice j k e (f ∷ fs) h = pick (nat_le (closes f) j) refl (closed_twice j k (fill f e) fs h)
    where
      pick : (b : Bool) → nat_le (closes f) j ≡ b → closed k (closed j (fill f e) fs).0 (closed j (fill f e) fs).1 ≡ closed k (fill f e) fs
          → closed k (closed j e (f ∷ fs)).0 (closed j e (f ∷ fs)).1 ≡ closed k e (f ∷ fs)
      pick true q w = let l : closes f ≤ j = leb-true (closes f) j q in rw q (w ∙ sym (shut f k e fs (omega arith)))
      pick false q w = rw q refl

  -- a frame that has room for what is behind an operator, or for a match, stops what stands before it
  stops : (f : Frame) (k : ℕ) → 3 ≤ k → k ≤ 11 → k ≤ hole f → k < closes f
  stops (InParen p) k l h r = omega arith
  stops (InTuple p es) k l h r = omega arith
  stops (InField o gs at) k l h r = omega arith
  stops (Argument f) k l h r = absurd (omega arith)
  stops (Payload p n) k l h r = absurd (omega arith)
  stops (Operand p o) k l h r = absurd (omega arith)
  stops (RightOf p o a) k l h r = omega arith
  stops (Bound p bs x) k l h r = omega arith
  stops (Body p bs) k l h r = omega arith
  stops (Condition p) k l h r = omega arith
  stops (Then p c seen) k l h r = omega arith
  stops (Else p c seen a) k l h r = omega arith
  stops (Branch o p head x) k l h r = omega arith

  stays : (k : ℕ) (e : Expr) (fs : List Frame) → 3 ≤ k → k ≤ 11 → k ≤ room fs → closed k e fs ≡ (e, fs)
  stays k e [] l h r = refl
  stays k e (f ∷ fs) l h r = kept f k e fs (stops f k l h r)

  -- and so for what stands before an argument
  stops_call : (f : Frame) → 1 ≤ hole f → 1 < closes f
  stops_call (Argument f) r = absurd (omega arith)
  stops_call (Payload p n) r = absurd (omega arith)
  stops_call (RightOf p o a) r = omega (arith, level_low o)
  stops_call (Operand p o) r = omega arith
  stops_call f r = omega arith

  stays_call : (e : Expr) (fs : List Frame) → 1 ≤ room fs → closed 1 e fs ≡ (e, fs)
  stays_call e [] r = refl
  stays_call e (f ∷ fs) r = kept f 1 e fs (stops_call f r)

  -- behind an expression, by the kind of the symbol
  have_past : (y : Symbol) (p : Place) (e : Expr) (fs : List Frame) → goes_past y ≡ true → have y p e fs ≡ go_on y p e fs
  have_past (lower n) p e fs h = cc
  have_past (upper n) p e fs h = cc
  have_past (numeral v) p e fs h = cc
  have_past true_word p e fs h = cc
  have_past false_word p e fs h = cc
  have_past opening p e fs h = cc
  have_past unboxed p e fs h = cc
  have_past dot p e fs h = cc
  have_past brace p e fs h = cc
  have_past bracket p e fs h = cc
  have_past y p e fs h = refl

  lower_past : (y : Symbol) (p q : Place) (n : List ℕ) (fs : List Frame) → goes_past y ≡ true → mode_step (AfterLower q n fs) y p ≡ go_on y p (name q n no_types) fs
  lower_past (lower m) p q n fs h = cc
  lower_past (upper m) p q n fs h = cc
  lower_past (numeral v) p q n fs h = cc
  lower_past true_word p q n fs h = cc
  lower_past false_word p q n fs h = cc
  lower_past opening p q n fs h = cc
  lower_past unboxed p q n fs h = cc
  lower_past dot p q n fs h = cc
  lower_past brace p q n fs h = cc
  lower_past bracket p q n fs h = cc
  lower_past y p q n fs h = refl

  upper_past : (y : Symbol) (p q : Place) (n : List ℕ) (fs : List Frame) → goes_past y ≡ true → mode_step (AfterUpper q n fs) y p ≡ go_on y p (con q n) fs
  upper_past (lower m) p q n fs h = cc
  upper_past (upper m) p q n fs h = cc
  upper_past (numeral v) p q n fs h = cc
  upper_past true_word p q n fs h = cc
  upper_past false_word p q n fs h = cc
  upper_past opening p q n fs h = cc
  upper_past unboxed p q n fs h = cc
  upper_past y p q n fs h = refl

  -- an argument for what closes there
  abbrev argued : Symbol → Place → Expr × List Frame → Stage
  argued y p r = on_argument y p r.0 r.1

  have_atom : (y : Symbol) (p : Place) (e : Expr) (fs : List Frame) → starts_atom y ≡ true → have y p e fs ≡ argued y p (closed 1 e fs)
  have_atom (lower n) p e fs h = refl
  have_atom (upper n) p e fs h = refl
  have_atom (numeral v) p e fs h = refl
  have_atom true_word p e fs h = refl
  have_atom false_word p e fs h = refl
  have_atom opening p e fs h = refl
  have_atom unboxed p e fs h = refl
  have_atom y p e fs h = cc

  lower_atom : (y : Symbol) (p q : Place) (n : List ℕ) (fs : List Frame) → starts_atom y ≡ true → mode_step (AfterLower q n fs) y p ≡ argued y p (closed 1 (name q n no_types) fs)
  lower_atom (lower m) p q n fs h = refl
  lower_atom (upper m) p q n fs h = refl
  lower_atom (numeral v) p q n fs h = refl
  lower_atom true_word p q n fs h = refl
  lower_atom false_word p q n fs h = refl
  lower_atom opening p q n fs h = refl
  lower_atom unboxed p q n fs h = refl
  lower_atom y p q n fs h = cc

  -- a whole expression ends
  abbrev ended_at : Symbol → Expr × List Frame → Stage
  ended_at y r = on_end y r.0 r.1

  end_goes : (y : Symbol) (p : Place) (e : Expr) (fs : List Frame) → ends_whole y ≡ true → go_on y p e fs ≡ ended_at y (closed 12 e fs)
  end_goes closing p e fs h = refl
  end_goes comma p e fs h = refl
  end_goes closing_brace p e fs h = refl
  end_goes colon p e fs h = refl
  end_goes in_word p e fs h = refl
  end_goes and_word p e fs h = refl
  end_goes then_word p e fs h = refl
  end_goes else_word p e fs h = refl
  end_goes y p e fs h = cc

  -- no constructor stands at the head, or there is no room for its payload
  abbrev pub Headed : Expr → List Frame → Type 0
  Headed e fs = Heads e ⊎ (room fs ≡ 0)

  -- an expression may stand there, or there is no room for a payload
  abbrev pub Fits : Expr → List Frame → Type 0
  Fits e fs = Stands e ⊎ (room fs ≡ 0)

  -- A mode that stands behind an expression under these frames, where these matches are open: it has the expression without what is
  -- open at its right edge, under the frames of that.
  pub record Behind (e : Expr) (fs : List Frame) (to : List ℕ) (m : Stage) : Type 0 where
    pub inner : Expr
    pub frames : List Frame
    pub count : ℕ
    pub past : (y : Symbol) (p : Place) → goes_past y ≡ true → mode_step m y p ≡ go_on y p inner frames
    pub shuts : (k : ℕ) → looseness e ≤ k → closed k inner frames ≡ closed k e fs
    pub open_at : opens frames ≡ to
    pub counted : length to ≡ count + length (opens fs)
    pub joins : (j : ℕ) → joined (count + j) inner frames ≡ joined j e fs
    pub argues : looseness e ≤ 1 → Headed e fs → (y : Symbol) (p : Place) → starts_atom y ≡ true → mode_step m y p ≡ argued y p (closed 1 e fs)
    pub dots : looseness e ≤ 0 → Headed e fs → (p : Place) → mode_step m dot p ≡ AfterDot e fs
    pub braces : looseness e ≤ 0 → Headed e fs → (p : Place) → mode_step m brace p ≡ WantField (Put e) no_fields fs
    pub finishes : mode_end m ≡ whole (closed 12 inner frames).0 (closed 12 inner frames).1

  none_joined : (j : ℕ) (e : Expr) (fs : List Frame) → joined (0 + j) e fs ≡ joined j e fs
  none_joined j e fs = let q : 0 + j ≡ j = omega arith in ap (λ i. joined i e fs) q

  -- behind an expression at whose right edge nothing is open
  pub behind_have : (e : Expr) (fs : List Frame) (to : List ℕ) → to ≡ opens fs → Behind e fs to (Have e fs)
  behind_have e fs to h = record {
    inner = e;
    frames = fs;
    count = 0;
    past = λ y p g. have_past y p e fs g;
    shuts = λ k l. refl;
    open_at = sym h;
    counted = let q = ap length h in omega (arith, q);
    joins = λ j. none_joined j e fs;
    argues = λ l h y p s. have_atom y p e fs s;
    dots = λ l h p. refl;
    braces = λ l h p. refl;
    finishes = refl;
  }

  -- behind a name without arguments
  pub behind_lower : (q : Place) (n : List ℕ) (fs : List Frame) (to : List ℕ) → to ≡ opens fs → Behind (name q n no_types) fs to (AfterLower q n fs)
  behind_lower q n fs to h = record {
    inner = name q n no_types;
    frames = fs;
    count = 0;
    past = λ y p g. lower_past y p q n fs g;
    shuts = λ k l. refl;
    open_at = sym h;
    counted = let q = ap length h in omega (arith, q);
    joins = λ j. none_joined j (name q n no_types) fs;
    argues = λ l h y p s. lower_atom y p q n fs s;
    dots = λ l h p. refl;
    braces = λ l h p. refl;
    finishes = refl;
  }

  no_head : (q : Place) (n : List ℕ) (fs : List Frame) → 1 ≤ room fs → Headed (con q n) fs → ⊥
  no_head q n fs h k = ⊎_elim (λ x. x) (λ x. omega arith) k

  -- behind a constructor, where there is room for its payload
  pub behind_upper : (q : Place) (n : List ℕ) (fs : List Frame) (to : List ℕ) → 1 ≤ room fs → to ≡ opens fs → Behind (con q n) fs to (AfterUpper q n fs)
  behind_upper q n fs to r h = record {
    inner = con q n;
    frames = fs;
    count = 0;
    past = λ y p g. upper_past y p q n fs g;
    shuts = λ k l. refl;
    open_at = sym h;
    counted = let q = ap length h in omega (arith, q);
    joins = λ j. none_joined j (con q n) fs;
    argues = λ l h y p s. absurd (no_head q n fs r h);
    dots = λ l h p. absurd (no_head q n fs r h);
    braces = λ l h p. absurd (no_head q n fs r h);
    finishes = refl;
  }

  -- frames that are closed without a token of their own and open no match
  abbrev passes : Frame → Bool
  passes (Argument f) = true
  passes (Payload p n) = true
  passes (Operand p o) = true
  passes (RightOf p o a) = true
  passes (Body p bs) = true
  passes (Else p c seen a) = true
  passes f = false

  joined_on : (f : Frame) (j : ℕ) (a : Expr) (fs : List Frame) → passes f ≡ true → joined j a (f ∷ fs) ≡ joined j (fill f a) fs
  joined_on (Argument f) zero a fs h = refl
  joined_on (Argument f) (suc j) a fs h = refl
  joined_on (Payload p n) zero a fs h = refl
  joined_on (Payload p n) (suc j) a fs h = refl
  joined_on (Operand p o) zero a fs h = refl
  joined_on (Operand p o) (suc j) a fs h = refl
  joined_on (RightOf p o b) zero a fs h = rw (le-leb (level o) 12 (omega (arith, level_high o))) refl
  joined_on (RightOf p o b) (suc j) a fs h = rw (le-leb (level o) 12 (omega (arith, level_high o))) refl
  joined_on (Body p bs) zero a fs h = refl
  joined_on (Body p bs) (suc j) a fs h = refl
  joined_on (Else p c seen b) zero a fs h = refl
  joined_on (Else p c seen b) (suc j) a fs h = refl
  joined_on f j a fs h = cc

  opens_on : (f : Frame) (fs : List Frame) → passes f ≡ true → opens (f ∷ fs) ≡ opens fs
  opens_on (Argument f) fs h = refl
  opens_on (Payload p n) fs h = refl
  opens_on (Operand p o) fs h = refl
  opens_on (RightOf p o b) fs h = refl
  opens_on (Body p bs) fs h = refl
  opens_on (Else p c seen b) fs h = refl
  opens_on f fs h = cc

  -- what stands behind the last part of an expression stands behind all of it
  pub through : (f : Frame) (a : Expr) (fs : List Frame) (to : List ℕ) (m : Stage) → passes f ≡ true → looseness a ≤ looseness (fill f a) → closes f ≤ looseness (fill f a) → 2 ≤ looseness (fill f a)
      → Behind a (f ∷ fs) to m → Behind (fill f a) fs to m
  through f a fs to m pass l c two b = record {
    inner = b.inner;
    frames = b.frames;
    count = b.count;
    past = b.past;
    shuts = λ k h. b.shuts k (omega arith) ∙ shut f k a fs (omega arith);
    open_at = b.open_at;
    counted = let q = ap length (opens_on f fs pass) in omega (arith, q, b.counted);
    joins = λ j. b.joins j ∙ joined_on f j a fs pass;
    argues = λ h k y p s. absurd (omega arith);
    dots = λ h k p. absurd (omega arith);
    braces = λ h k p. absurd (omega arith);
    finishes = b.finishes;
  }

  -- and so for the argument of a call
  pub through_call : (f a : Expr) (fs : List Frame) (to : List ℕ) (m : Stage) → looseness a ≤ 0 → Behind a (Argument f ∷ fs) to m → Behind (app (place_of f) f a) fs to m
  through_call f a fs to m l b = record {
    inner = b.inner;
    frames = b.frames;
    count = b.count;
    past = b.past;
    shuts = λ k h. b.shuts k (omega arith) ∙ shut (Argument f) k a fs h;
    open_at = b.open_at;
    counted = b.counted;
    joins = λ j. b.joins j ∙ joined_on (Argument f) j a fs refl;
    argues = λ h k y p s. b.argues (omega arith) (inr refl) y p s;
    dots = λ h k p. absurd (omega arith);
    braces = λ h k p. absurd (omega arith);
    finishes = b.finishes;
  }

  -- and so for the last alternative of a match
  pub through_branch : (o : Open Expr Alts) (p : Place) (head : Option (List ℕ)) (x : Pattern) (a : Expr) (fs : List Frame) (to : List ℕ) (m : Stage)
      → Behind a (Branch o p head x ∷ fs) to m → Behind (fill (Branch o p head x) a) fs to m
  through_branch o p head x a fs to m b = record {
    inner = b.inner;
    frames = b.frames;
    count = b.count + 1;
    past = b.past;
    shuts = λ k h. b.shuts k (omega (arith, loose_le a)) ∙ shut (Branch o p head x) k a fs h;
    open_at = b.open_at;
    counted = omega (arith, b.counted);
    joins = λ j. let q : b.count + 1 + j ≡ b.count + suc j = omega arith in ap (λ i. joined i b.inner b.frames) q ∙ b.joins (suc j);
    argues = λ h k y q s. absurd (omega arith);
    dots = λ h k q. absurd (omega arith);
    braces = λ h k q. absurd (omega arith);
    finishes = b.finishes;
  }

  -- an expression is read: the mode behind it
  abbrev pub Reached : Expr → List Frame → List ℕ → List Seen → List Seen → Type 0
  Reached e fs to ts rest = (m : Stage) × Behind e fs to m × (run (Want fs) ts ≡ run m rest)

  -- such an expression is read where the machine has it
  pub reached : (e : Expr) (fs : List Frame) (to : List ℕ) (ts rest : List Seen) → to ≡ opens fs → run (Want fs) ts ≡ run (Have e fs) rest → Reached e fs to ts rest
  reached e fs to ts rest h q = (Have e fs, behind_have e fs to h, q)

  -- a symbol that ends a whole expression, where the frame is closed by it
  pub ended : (f : Frame) (e : Expr) (fs : List Frame) (to : List ℕ) (m : Stage) → 12 < closes f → Behind e (f ∷ fs) to m → (y : Symbol) (p : Place) → ends_whole y ≡ true → mode_step m y p ≡ on_end y e (f ∷ fs)
  ended f e fs to m c b y p h =
      b.past y p (ends_past y h) ∙ end_goes y p b.inner b.frames h
      ∙ ap (ended_at y) (b.shuts 12 (loose_le e) ∙ kept f 12 e fs c)

  -- an argument's first token
  pub called : (f : Expr) (fs : List Frame) (to : List ℕ) (m : Stage) → looseness f ≤ 1 → 1 ≤ room fs → Headed f fs → Behind f fs to m → (y : Symbol) (p : Place) → starts_atom y ≡ true
      → mode_step m y p ≡ start y p (Argument f ∷ fs)
  called f fs to m l r h b y p s =
      b.argues l h y p s ∙ ap (argued y p) (stays_call f fs r) ∙ rw (le-leb 1 (room fs) r) refl

  -- a mode that at the first token of an atom does as one that wants it
  pub as_wanted : (m : Stage) (fs : List Frame) → ((y : Symbol) (p : Place) → starts_atom y ≡ true → mode_step m y p ≡ start y p fs) → (a : Expr) (ts : List Seen) → looseness a ≤ 0 → First a ts → run m ts ≡ run (Want fs) ts
  as_wanted m fs same a ts l f =
      go m f.y f.p ts f.more (start f.y f.p fs) f.reads (same f.y f.p (f.atom l)) ∙ sym (go (Want fs) f.y f.p ts f.more (start f.y f.p fs) f.reads refl)

  -- a constructor with room takes an atom as its payload
  pub upper_starts : (q : Place) (n : List ℕ) (fs : List Frame) (y : Symbol) (p : Place) → starts_atom y ≡ true → mode_step (AfterUpper q n fs) y p ≡ start y p (Payload q n ∷ fs)
  upper_starts q n fs y p h = rw h refl

  -- an operator with two operands, whose right one follows
  abbrev opped : Op → Place → Expr × List Frame → Stage
  opped o p r = on_op o p r.0 r.1

  wants_right : (o : Op) (p : Place) (a : Expr) (fs : List Frame) (to : List ℕ) (m : Stage) → 3 ≤ left_of o → looseness a ≤ left_of o → level o ≤ room fs → (b : Behind a fs to m)
      → opped o p (closed (left_of o) b.inner b.frames) ≡ Want (RightOf p o a ∷ fs)
  wants_right o p a fs to m low l h b =
      ap (opped o p) (b.shuts (left_of o) l ∙ stays (left_of o) a fs low (omega (arith, left_high o, level_high o)) (omega (arith, left_high o)))
      ∙ rw (le-leb (level o) (room fs) h) refl

  op_go : (y : Symbol) (o : Op) (p : Place) (a : Expr) (fs : List Frame) (to : List ℕ) (m : Stage) (ts rest : List Seen) → operator y ≡ Some o → goes_past y ≡ true → 3 ≤ left_of o → looseness a ≤ left_of o → level o ≤ room fs
      → Behind a fs to m → token y p ts rest → run m ts ≡ run (Want (RightOf p o a ∷ fs)) rest
  op_go y o p a fs to m ts rest is past low l h b r =
      go m y p ts rest (Want (RightOf p o a ∷ fs)) r
      (b.past y p past ∙ ap (λ x. machine.at_operator types patterns trees x y p b.inner b.frames) is ∙ wants_right o p a fs to m low l h b)

  angle_starts : (d : Angle) (y : Symbol) (q p : Place) (e : Expr) (fs to : List Frame) → is_second d y ≡ false → opped (machine.alone_op d) p (closed 8 e fs) ≡ Want to
      → mode_step (AfterAngle d p e fs) y q ≡ start y q to
  angle_starts d y q p e fs to h w = rw h (ap (machine.then_start types patterns trees y q) w)

  -- the sign of an operator with two operands, the right one of which follows, is read
  pub op_read : (o : Op) (p : Place) (a c : Expr) (fs : List Frame) (to : List ℕ) (m : Stage) (ts rest : List Seen) → looseness a ≤ left_of o → level o ≤ room fs → Behind a fs to m
      → op_sign o p ts rest → First c rest → run m ts ≡ run (Want (RightOf p o a ∷ fs)) rest
  op_read Mul p a c fs to m ts rest l h b r f = op_go star Mul p a fs to m ts rest refl refl (omega arith) l h b r
  op_read Div p a c fs to m ts rest l h b r f = op_go slash Div p a fs to m ts rest refl refl (omega arith) l h b r
  op_read Rem p a c fs to m ts rest l h b r f = op_go percent Rem p a fs to m ts rest refl refl (omega arith) l h b r
  op_read Add p a c fs to m ts rest l h b r f = op_go plus Add p a fs to m ts rest refl refl (omega arith) l h b r
  op_read Sub p a c fs to m ts rest l h b r f = op_go minus Sub p a fs to m ts rest refl refl (omega arith) l h b r
  op_read And p a c fs to m ts rest l h b r f = op_go bit_and And p a fs to m ts rest refl refl (omega arith) l h b r
  op_read Xor p a c fs to m ts rest l h b r f = op_go bit_xor Xor p a fs to m ts rest refl refl (omega arith) l h b r
  op_read Or p a c fs to m ts rest l h b r f = op_go bit_or Or p a fs to m ts rest refl refl (omega arith) l h b r
  op_read Eq p a c fs to m ts rest l h b r f = op_go equal Eq p a fs to m ts rest refl refl (omega arith) l h b r
  op_read Ne p a c fs to m ts rest l h b r f = op_go not_equal Ne p a fs to m ts rest refl refl (omega arith) l h b r
  op_read Le p a c fs to m ts rest l h b r f = op_go less_equal Le p a fs to m ts rest refl refl (omega arith) l h b r
  op_read Ge p a c fs to m ts rest l h b r f = op_go greater_equal Ge p a fs to m ts rest refl refl (omega arith) l h b r
  op_read Both p a c fs to m ts rest l h b r f = op_go both Both p a fs to m ts rest refl refl (omega arith) l h b r
  op_read Either p a c fs to m ts rest l h b r f = op_go either Either p a fs to m ts rest refl refl (omega arith) l h b r
  op_read Shl p a c fs to m ts rest l h b r f =
      let k = r.1 in
      go m (less r.0) p ts k.0 (AfterAngle ToLeft p b.inner b.frames) k.1 (b.past (less r.0) p refl)
      ∙ go (AfterAngle ToLeft p b.inner b.frames) (less true) k.2.0 k.0 rest (Want (RightOf p Shl a ∷ fs)) k.2.1 (wants_right Shl p a fs to m (omega arith) l h b)
  op_read Shr p a c fs to m ts rest l h b r f =
      let k = r.1 in
      go m (greater r.0) p ts k.0 (AfterAngle ToRight p b.inner b.frames) k.1 (b.past (greater r.0) p refl)
      ∙ go (AfterAngle ToRight p b.inner b.frames) (greater true) k.2.0 k.0 rest (Want (RightOf p Shr a ∷ fs)) k.2.1 (wants_right Shr p a fs to m (omega arith) l h b)
  op_read Lt p a c fs to m ts rest l h b r f =
      let w = wants_right Lt p a fs to m (omega arith) l h b in
      go m (less r.0) p ts rest (AfterAngle ToLeft p b.inner b.frames) r.1 (b.past (less r.0) p refl)
      ∙ go (AfterAngle ToLeft p b.inner b.frames) f.y f.p rest f.more (start f.y f.p (RightOf p Lt a ∷ fs)) f.reads (angle_starts ToLeft f.y f.p p b.inner b.frames (RightOf p Lt a ∷ fs) f.left w)
      ∙ sym (go (Want (RightOf p Lt a ∷ fs)) f.y f.p rest f.more (start f.y f.p (RightOf p Lt a ∷ fs)) f.reads refl)
  op_read Gt p a c fs to m ts rest l h b r f =
      let w = wants_right Gt p a fs to m (omega arith) l h b in
      go m (greater r.0) p ts rest (AfterAngle ToRight p b.inner b.frames) r.1 (b.past (greater r.0) p refl)
      ∙ go (AfterAngle ToRight p b.inner b.frames) f.y f.p rest f.more (start f.y f.p (RightOf p Gt a ∷ fs)) f.reads (angle_starts ToRight f.y f.p p b.inner b.frames (RightOf p Gt a ∷ fs) f.right w)
      ∙ sym (go (Want (RightOf p Gt a ∷ fs)) f.y f.p rest f.more (start f.y f.p (RightOf p Gt a ∷ fs)) f.reads refl)
  op_read Complement p a c fs to m ts rest l h b r f = absurd r
  op_read Not p a c fs to m ts rest l h b r f = absurd r

  -- the mode behind an expression and what is observed
  abbrev pub observing : Stage → Expr × List Frame → List At → Stage
  observing m r [] = m
  observing m r (n ∷ ns) = Observed r.0 (n ∷ ns) r.1

  -- the words before which something may be observed
  abbrev on_seen : Symbol → List At → Expr → List Frame → Stage
  on_seen in_word seen e fs = machine.on_in types patterns trees seen e fs
  on_seen and_word seen e fs = machine.on_and types patterns trees seen e fs
  on_seen then_word seen e fs = machine.on_then types patterns trees seen e fs
  on_seen y seen e fs = Stuck

  abbrev ends_seen : Symbol → Bool
  ends_seen in_word = true
  ends_seen and_word = true
  ends_seen then_word = true
  ends_seen y = false

  seen_word : (y : Symbol) (p : Place) (n : At) (ns : List At) (r : Expr × List Frame) → ends_seen y ≡ true
      → mode_step (Observed r.0 (n ∷ ns) r.1) y p ≡ on_seen y (n ∷ ns) (closed 12 r.0 r.1).0 (closed 12 r.0 r.1).1
  seen_word in_word p n ns r h = refl
  seen_word and_word p n ns r h = refl
  seen_word then_word p n ns r h = refl
  seen_word y p n ns r h = cc

  none_seen : (y : Symbol) (e : Expr) (fs : List Frame) → ends_seen y ≡ true → on_end y e fs ≡ on_seen y [] e fs
  none_seen in_word e fs h = refl
  none_seen and_word e fs h = refl
  none_seen then_word e fs h = refl
  none_seen y e fs h = cc

  seen_whole : (y : Symbol) → ends_seen y ≡ true → ends_whole y ≡ true
  seen_whole in_word h = refl
  seen_whole and_word h = refl
  seen_whole then_word h = refl
  seen_whole y h = cc

  -- at such a word the whole expression ends, whatever is observed
  pub seen_ends : (f : Frame) (e : Expr) (fs : List Frame) (to : List ℕ) (m : Stage) → 12 < closes f → (b : Behind e (f ∷ fs) to m) → (y : Symbol) (p : Place) → ends_seen y ≡ true → (seen : List At)
      → mode_step (observing m (closed 11 b.inner b.frames) seen) y p ≡ on_seen y seen e (f ∷ fs)
  seen_ends f e fs to m c b y p h [] = ended f e fs to m c b y p (seen_whole y h) ∙ none_seen y e (f ∷ fs) h
  seen_ends f e fs to m c b y p h (n ∷ ns) =
      seen_word y p n ns (closed 11 b.inner b.frames) h
      ∙ ap (λ r. on_seen y (n ∷ ns) r.0 r.1) (closed_twice 11 12 b.inner b.frames (omega arith) ∙ b.shuts 12 (loose_le e) ∙ kept f 12 e fs c)

  -- a match that opens
  abbrev pub open_of : Expr → List At → Alts → ℕ → Open Expr Alts
  open_of e seen before c = record { subject = e; seen = seen; before = before; column = c }

  abbrev newly : ℕ → List At → Expr × List Frame → Stage
  newly c seen r = machine.on_new types patterns trees c seen r.0 r.1

  opens_match : (c : ℕ) (seen : List At) (e : Expr) (fs : List Frame) → 12 ≤ room fs → newly c seen (e, fs) ≡ WantAlt (open_of e seen no_alts c) fs
  opens_match c seen e fs h = rw (le-leb 12 (room fs) h) refl

  bar_new : (first : Bool) (q : Place) (seen : List At) (e : Expr) (os : List ℕ) (fs : List Frame) → bar_choice first q.column os ≡ New
      → on_choice (bar_choice first q.column os) q.column seen e fs ≡ newly q.column seen (closed 11 e fs)
  bar_new first q seen e os fs h = ap (λ c. on_choice c q.column seen e fs) h

  -- such a bar is read behind the subject of the match and what is observed
  pub bar_opens : (e : Expr) (fs : List Frame) (m : Stage) (b : Behind e fs (opens fs) m) → looseness e ≤ 11 → 12 ≤ room fs → (seen : List At) (first : Bool) (q : Place) → bar_choice first q.column (opens fs) ≡ New
      → mode_step (observing m (closed 11 b.inner b.frames) seen) (bar first) q ≡ WantAlt (open_of e seen no_alts q.column) fs
  bar_opens e fs m b l h [] first q new =
      b.past (bar first) q refl
      ∙ bar_new first q [] b.inner (opens b.frames) b.frames (ap (bar_choice first q.column) b.open_at ∙ new)
      ∙ ap (newly q.column []) (b.shuts 11 l ∙ stays 11 e fs (omega arith) (omega arith) (omega arith))
      ∙ opens_match q.column [] e fs h
  bar_opens e fs m b l h (n ∷ ns) first q new =
      let same = stays 11 e fs (omega arith) (omega arith) (omega arith) in
      ap (λ r. mode_step (Observed r.0 (n ∷ ns) r.1) (bar first) q) (b.shuts 11 l ∙ same)
      ∙ bar_new first q (n ∷ ns) e (opens fs) fs new
      ∙ ap (newly q.column (n ∷ ns)) same
      ∙ opens_match q.column (n ∷ ns) e fs h

  -- a match that goes on: all that is inside it is closed
  pub bar_joins : (o : Open Expr Alts) (p : Place) (n : List ℕ) (x : Pattern) (e : Expr) (fs : List Frame) (mid inner : List ℕ) (m : Stage) → Behind e (Branch o p (Some n) x ∷ fs) mid m → mid ≡ inner ++ o.column ∷ opens fs
      → (first : Bool) (q : Place) → bar_choice first q.column mid ≡ Joins (length inner) → mode_step m (bar first) q ≡ WantAlt (open_of o.subject o.seen (and_alt o.before p (Some n) x e) o.column) fs
  bar_joins o p n x e fs mid inner m b parts first q chosen =
      let total = ap length parts in let all = length-append inner (o.column ∷ opens fs) in
      let same : length inner ≡ b.count + 0 = omega (arith, total, all, b.counted) in
      b.past (bar first) q refl
      ∙ ap (λ c. on_choice c q.column [] b.inner b.frames) (ap (bar_choice first q.column) b.open_at ∙ chosen)
      ∙ ap (λ j. joined j b.inner b.frames) same
      ∙ b.joins 0

  -- the frame of a parenthesis with expressions before a comma
  abbrev pub listed : Place → Exprs → Frame
  listed p no_exprs = InParen p
  listed p (and_expr es e) = InTuple p (and_expr es e)

  -- nothing is open in it
  pub listed_opens : (p : Place) (es : Exprs) (fs : List Frame) → opens (listed p es ∷ fs) ≡ []
  listed_opens p no_exprs fs = refl
  listed_opens p (and_expr es e) fs = refl

  -- it is closed by a token of its own
  pub listed_closes : (p : Place) (es : Exprs) → 12 < closes (listed p es)
  listed_closes p no_exprs = omega arith
  listed_closes p (and_expr es e) = omega arith

  -- it has room for any expression
  pub listed_hole : (p : Place) (es : Exprs) → hole (listed p es) ≡ 12
  listed_hole p no_exprs = refl
  listed_hole p (and_expr es e) = refl

  -- a comma behind an expression in it
  pub listed_comma : (p : Place) (es : Exprs) (e : Expr) (fs : List Frame) → on_end comma e (listed p es ∷ fs) ≡ Want (listed p (and_expr es e) ∷ fs)
  listed_comma p no_exprs e fs = refl
  listed_comma p (and_expr es d) e fs = refl
