-- Which steps of the machine lead to a bar that belongs nowhere: those behind an expression, at a bar that is at a wrong column.
use Rattle.std.proofs.Common.{◌≡◌, ℕ, zero, suc, List, [], ◌∷◌, refl, Bool, Option, Some, None}
use Rattle.std.specs.Prelude.{nat_le, if◌then◌else◌, ⊤}
use Rattle.cg_base.specs.declared.place.Place.{Place}
use Rattle.cg_base.specs.Reader.{Reader}
use Rattle.cg_core.specs.declared.at.At.{At}
use Rattle.cg_core.specs.declared.op.Op.{Op}
use Rattle.cg_core.specs.declared.op.Op.TheVariants.{Complement, Not}
use Rattle.cg_surface.specs.Written.{Written, Writtens, no_types}
use Rattle.cg_surface.specs.Patterns.{Pattern}
use Rattle.cg_surface.specs.Exprs.{Expr, name, con, FieldExprs, no_binds, Binds as Bindings, no_alts}
use Rattle.cg_parser_symbols.specs.Symbols.{Symbol, Seen}
use Rattle.cg_parser_symbols.specs.Symbols as symbols
use Rattle.cg_parser_exprs_def.specs.Bars.{Choice, New, Joins, Wrong, bar_choice}
use Rattle.cg_parser_exprs_def.specs.Grammar.{level, left_of}
use Rattle.cg_parser_exprs_def.specs.Machine as machine
use Rattle.cg_parser_exprs_def.specs.Machine.{Owner, Prefix, Operation, Upcast, Angle, InParen, InTuple, InField, Argument, Payload, Operand, RightOf, Bound, Condition, Then, Branch, Want, Have, AfterLower, AfterUpper, InArgs, InSig, AfterDot, WantField, AfterField, InPattern, AfterAngle, AfterBang, Observed, WantAlt, AfterCon, InAltPattern, WantArrow, Stuck, WrongBar, starts_atom, operator, alone_op, shift_op, is_second}
use Rattle.cg_parser_build.specs.Plain.{trees}
use Rattle.cg_parser_exprs_def.specs.Unfinished.{Frame, Open}
use Rattle.cg_parser_exprs_laws.proofs.CompleteModes as modes
use Rattle.cg_base.proofs.Spans.{either_way as choose}

-- what a bar that belongs nowhere would tell
module _ {TS PS : Type 0} (types : Reader TS Seen Written) (patterns : Reader PS Seen Pattern) (W : Type 0) where
  abbrev Stage : Type 0
  Stage = modes.Stage types patterns

  abbrev closed : ℕ → Expr → List Frame → Expr × List Frame
  closed = modes.closed types patterns

  abbrev room : List Frame → ℕ
  room = modes.room types patterns

  abbrev opens : List Frame → List ℕ
  opens = modes.opens types patterns

  abbrev closes : Frame → ℕ
  closes = modes.closes types patterns

  abbrev fill : Frame → Expr → Expr
  fill = modes.fill types patterns

  -- a mode tells it where it is at such a bar
  abbrev pub Tells : Stage → Type 0
  Tells WrongBar = W
  Tells m = ⊤

  -- a bar under these frames does
  abbrev pub Barred : Symbol → Place → List Frame → Type 0
  Barred y p fs = (first : Bool) → y ≡ symbols.bar first → bar_choice first p.column (opens fs) ≡ Wrong → W

  -- where an expression is wanted
  empty_tells : (fs : List Frame) → Tells (machine.on_empty types patterns trees fs)
  empty_tells [] = tt
  empty_tells (InParen p ∷ fs) = tt
  empty_tells (f ∷ fs) = tt

  prefix_tells : (p : Place) (o : Prefix) (fs : List Frame) → Tells (machine.on_prefix types patterns trees p o fs)
  prefix_tells p o fs = choose Tells (nat_le 2 (room fs)) (Want (Operand p o ∷ fs)) Stuck (λ b. tt) (λ b. tt)

  pub start_tells : (y : Symbol) (p : Place) (fs : List Frame) → Tells (machine.start types patterns trees y p fs)
  start_tells (symbols.upper n) p fs = choose Tells (nat_le 1 (room fs)) (AfterUpper p n fs) (Have (con p n) fs) (λ b. tt) (λ b. tt)
  start_tells symbols.closing p fs = empty_tells fs
  start_tells symbols.not_word p fs = prefix_tells p (Operation Not) fs
  start_tells symbols.complement_word p fs = prefix_tells p (Operation Complement) fs
  start_tells symbols.upcast_word p fs = prefix_tells p Upcast fs
  start_tells symbols.let_word p fs = choose Tells (nat_le 12 (room fs)) (InPattern p no_binds patterns.begin fs) Stuck (λ b. tt) (λ b. tt)
  start_tells symbols.if_word p fs = choose Tells (nat_le 12 (room fs)) (Want (Condition p ∷ fs)) Stuck (λ b. tt) (λ b. tt)
  start_tells y p fs = tt

  -- at an argument, and at an operator
  argument_tells : (y : Symbol) (p : Place) (e : Expr) (fs : List Frame) → Tells (machine.on_argument types patterns trees y p e fs)
  argument_tells y p e fs = choose Tells (nat_le 1 (room fs)) (machine.start types patterns trees y p (Argument e ∷ fs)) Stuck (λ b. start_tells y p (Argument e ∷ fs)) (λ b. tt)

  op_tells : (o : Op) (p : Place) (e : Expr) (fs : List Frame) → Tells (machine.on_op types patterns trees o p e fs)
  op_tells o p e fs = choose Tells (nat_le (level o) (room fs)) (Want (RightOf p o e ∷ fs)) Stuck (λ b. tt) (λ b. tt)

  -- at a bar that belongs somewhere
  new_tells : (column : ℕ) (seen : List At) (e : Expr) (fs : List Frame) → Tells (machine.on_new types patterns trees column seen e fs)
  new_tells column seen e fs = choose Tells (nat_le 12 (room fs)) (WantAlt (record { subject = e; seen = seen; before = no_alts; column = column }) fs) Stuck (λ b. tt) (λ b. tt)

  next_tells : (o : Open) (p : Place) (head : Option (List ℕ)) (x : Pattern) (e : Expr) (fs : List Frame) → Tells (machine.next_alt types patterns trees o p head x e fs)
  next_tells o p None x e fs = tt
  next_tells o p (Some n) x e fs = tt

  joined_tells : (j : ℕ) (e : Expr) (fs : List Frame) → Tells (machine.joined types patterns trees j e fs)
  joined_tells j e [] = tt
  joined_tells zero e (Branch o p head x ∷ fs) = next_tells o p head x e fs
  joined_tells (suc j) e (Branch o p head x ∷ fs) = joined_tells j (fill (Branch o p head x) e) fs
  joined_tells zero e (f ∷ fs) = choose Tells (nat_le (closes f) 12) (machine.joined types patterns trees zero (fill f e) fs) Stuck (λ b. joined_tells zero (fill f e) fs) (λ b. tt)
  joined_tells (suc j) e (f ∷ fs) = choose Tells (nat_le (closes f) 12) (machine.joined types patterns trees (suc j) (fill f e) fs) Stuck (λ b. joined_tells (suc j) (fill f e) fs) (λ b. tt)

  -- at any bar
  choice_tells : (c : Choice) (column : ℕ) (seen : List At) (e : Expr) (fs : List Frame) → (c ≡ Wrong → W) → Tells (machine.on_choice types patterns trees c column seen e fs)
  choice_tells New column seen e fs h = new_tells column seen (closed 11 e fs).0 (closed 11 e fs).1
  choice_tells (Joins j) column [] e fs h = joined_tells j e fs
  choice_tells (Joins j) column (n ∷ ns) e fs h = tt
  choice_tells Wrong column seen e fs h = h refl

  bar_tells : (first : Bool) (p : Place) (seen : List At) (e : Expr) (fs : List Frame) → (bar_choice first p.column (opens fs) ≡ Wrong → W) → Tells (machine.on_bar types patterns trees first p seen e fs)
  bar_tells first p seen e fs h = choice_tells (bar_choice first p.column (opens fs)) p.column seen e fs h

  -- at a word or a sign that closes what it may
  close_tells : (e : Expr) (fs : List Frame) → Tells (machine.on_close types patterns trees e fs)
  close_tells e [] = tt
  close_tells e (InParen p ∷ fs) = tt
  close_tells e (InTuple p es ∷ fs) = tt
  close_tells e (f ∷ fs) = tt

  comma_tells : (e : Expr) (fs : List Frame) → Tells (machine.on_comma types patterns trees e fs)
  comma_tells e [] = tt
  comma_tells e (InParen p ∷ fs) = tt
  comma_tells e (InTuple p es ∷ fs) = tt
  comma_tells e (InField o gs at ∷ fs) = tt
  comma_tells e (f ∷ fs) = tt

  brace_tells : (e : Expr) (fs : List Frame) → Tells (machine.on_brace types patterns trees e fs)
  brace_tells e [] = tt
  brace_tells e (InField o gs at ∷ fs) = tt
  brace_tells e (f ∷ fs) = tt

  colon_tells : (e : Expr) (fs : List Frame) → Tells (machine.on_colon types patterns trees e fs)
  colon_tells e [] = tt
  colon_tells e (InParen p ∷ fs) = tt
  colon_tells e (f ∷ fs) = tt

  in_tells : (seen : List At) (e : Expr) (fs : List Frame) → Tells (machine.on_in types patterns trees seen e fs)
  in_tells seen e [] = tt
  in_tells seen e (Bound p bs x ∷ fs) = tt
  in_tells seen e (f ∷ fs) = tt

  and_tells : (seen : List At) (e : Expr) (fs : List Frame) → Tells (machine.on_and types patterns trees seen e fs)
  and_tells seen e [] = tt
  and_tells seen e (Bound p bs x ∷ fs) = tt
  and_tells seen e (f ∷ fs) = tt

  then_tells : (seen : List At) (e : Expr) (fs : List Frame) → Tells (machine.on_then types patterns trees seen e fs)
  then_tells seen e [] = tt
  then_tells seen e (Condition p ∷ fs) = tt
  then_tells seen e (f ∷ fs) = tt

  else_tells : (e : Expr) (fs : List Frame) → Tells (machine.on_else types patterns trees e fs)
  else_tells e [] = tt
  else_tells e (Then p c seen ∷ fs) = tt
  else_tells e (f ∷ fs) = tt

  end_tells : (y : Symbol) (e : Expr) (fs : List Frame) → Tells (machine.on_end types patterns trees y e fs)
  end_tells symbols.closing e fs = close_tells e fs
  end_tells symbols.comma e fs = comma_tells e fs
  end_tells symbols.closing_brace e fs = brace_tells e fs
  end_tells symbols.colon e fs = colon_tells e fs
  end_tells symbols.in_word e fs = in_tells [] e fs
  end_tells symbols.and_word e fs = and_tells [] e fs
  end_tells symbols.then_word e fs = then_tells [] e fs
  end_tells symbols.else_word e fs = else_tells e fs
  end_tells y e fs = tt

  -- behind an expression
  past_tells : (y : Symbol) (p : Place) (e : Expr) (fs : List Frame) → Barred y p fs → Tells (machine.go_past types patterns trees y p e fs)
  past_tells (symbols.less j) p e fs h = tt
  past_tells (symbols.greater j) p e fs h = tt
  past_tells symbols.bang p e fs h = tt
  past_tells (symbols.bar first) p e fs h = bar_tells first p [] e fs (h first refl)
  past_tells y p e fs h = end_tells y (closed 12 e fs).0 (closed 12 e fs).1

  operator_tells : (o : Option Op) (y : Symbol) (p : Place) (e : Expr) (fs : List Frame) → Barred y p fs → Tells (machine.at_operator types patterns trees o y p e fs)
  operator_tells None y p e fs h = past_tells y p e fs h
  operator_tells (Some o) y p e fs h = op_tells o p (closed (left_of o) e fs).0 (closed (left_of o) e fs).1

  on_tells : (y : Symbol) (p : Place) (e : Expr) (fs : List Frame) → Barred y p fs → Tells (machine.go_on types patterns trees y p e fs)
  on_tells y p e fs h = operator_tells (operator y) y p e fs h

  -- an argument for what closes there
  abbrev argued : Symbol → Place → Expr × List Frame → Stage
  argued y p r = machine.on_argument types patterns trees y p r.0 r.1

  atom_tells : (y : Symbol) (p : Place) (e : Expr) (fs : List Frame) → Barred y p fs → Tells (if starts_atom y then argued y p (closed 1 e fs) else machine.go_on types patterns trees y p e fs)
  atom_tells y p e fs h =
      choose Tells (starts_atom y) (argued y p (closed 1 e fs)) (machine.go_on types patterns trees y p e fs) (λ b. argument_tells y p (closed 1 e fs).0 (closed 1 e fs).1) (λ b. on_tells y p e fs h)

  pub have_tells : (y : Symbol) (p : Place) (e : Expr) (fs : List Frame) → Barred y p fs → Tells (machine.have types patterns trees y p e fs)
  have_tells symbols.dot p e fs h = tt
  have_tells symbols.brace p e fs h = tt
  have_tells y p e fs h = atom_tells y p e fs h

  pub lower_tells : (y : Symbol) (p q : Place) (n : List ℕ) (fs : List Frame) → Barred y p fs → Tells (machine.after_lower types patterns trees y p q n fs)
  lower_tells symbols.bracket p q n fs h = tt
  lower_tells y p q n fs h = have_tells y p (name q n no_types) fs h

  pub upper_tells : (y : Symbol) (p q : Place) (n : List ℕ) (fs : List Frame) → Barred y p fs → Tells (machine.after_upper types patterns trees y p q n fs)
  upper_tells y p q n fs h =
      choose Tells (starts_atom y) (machine.start types patterns trees y p (Payload q n ∷ fs)) (machine.go_on types patterns trees y p (con q n) fs) (λ b. start_tells y p (Payload q n ∷ fs)) (λ b. on_tells y p (con q n) fs h)

  -- in types and patterns
  args_more_tells : (q : Place) (n : List ℕ) (args : Writtens) (s : TS) (t : Seen) (fs : List Frame) (o : Option Written) → Tells (machine.args_more types patterns trees q n args s t fs o)
  args_more_tells q n args s t fs None = tt
  args_more_tells q n args s t fs (Some u) = tt

  args_end_tells : (q : Place) (n : List ℕ) (args : Writtens) (s : TS) (t : Seen) (fs : List Frame) (o : Option Written) → Tells (machine.args_end types patterns trees q n args s t fs o)
  args_end_tells q n args s t fs None = tt
  args_end_tells q n args s t fs (Some u) = tt

  pub args_tells : (y : Symbol) (p q : Place) (n : List ℕ) (args : Writtens) (s : TS) (fs : List Frame) → Tells (machine.in_args types patterns trees y p q n args s fs)
  args_tells symbols.comma p q n args s fs = args_more_tells q n args s _ fs (types.finish s)
  args_tells symbols.closing_bracket p q n args s fs = args_end_tells q n args s _ fs (types.finish s)
  args_tells y p q n args s fs = tt

  sig_end_tells : (q : Place) (e : Expr) (s : TS) (t : Seen) (fs : List Frame) (o : Option Written) → Tells (machine.sig_end types patterns trees q e s t fs o)
  sig_end_tells q e s t fs None = tt
  sig_end_tells q e s t fs (Some u) = tt

  pub sig_tells : (y : Symbol) (p q : Place) (e : Expr) (s : TS) (fs : List Frame) → Tells (machine.in_sig types patterns trees y p q e s fs)
  sig_tells symbols.closing p q e s fs = sig_end_tells q e s _ fs (types.finish s)
  sig_tells y p q e s fs = tt

  pattern_end_tells : (q : Place) (bs : Bindings) (s : PS) (t : Seen) (fs : List Frame) (o : Option Pattern) → Tells (machine.pattern_end types patterns trees q bs s t fs o)
  pattern_end_tells q bs s t fs None = tt
  pattern_end_tells q bs s t fs (Some x) = tt

  pub pattern_tells : (y : Symbol) (p q : Place) (bs : Bindings) (s : PS) (fs : List Frame) → Tells (machine.in_pattern types patterns trees y p q bs s fs)
  pattern_tells symbols.equals p q bs s fs = pattern_end_tells q bs s _ fs (patterns.finish s)
  pattern_tells y p q bs s fs = tt

  alt_end_tells : (o : Open) (q : Place) (n : List ℕ) (s : PS) (t : Seen) (fs : List Frame) (found : Option Pattern) → Tells (machine.alt_end types patterns trees o q n s t fs found)
  alt_end_tells o q n s t fs None = tt
  alt_end_tells o q n s t fs (Some x) = tt

  pub alt_tells : (y : Symbol) (p : Place) (o : Open) (q : Place) (n : List ℕ) (s : PS) (fs : List Frame) → Tells (machine.in_alt_pattern types patterns trees y p o q n s fs)
  alt_tells symbols.arrow p o q n s fs = alt_end_tells o q n s _ fs (patterns.finish s)
  alt_tells y p o q n s fs = tt

  -- where an alternative is wanted, behind its constructor, and behind a name or a wildcard
  pub want_alt_tells : (y : Symbol) (p : Place) (o : Open) (fs : List Frame) → Tells (machine.want_alt types patterns trees y p o fs)
  want_alt_tells (symbols.upper n) p o fs = tt
  want_alt_tells (symbols.lower n) p o fs = tt
  want_alt_tells symbols.wildcard p o fs = tt
  want_alt_tells y p o fs = tt

  pub con_tells : (y : Symbol) (p : Place) (o : Open) (q : Place) (n : List ℕ) (fs : List Frame) → Tells (machine.after_con types patterns trees y p o q n fs)
  con_tells symbols.arrow p o q n fs = tt
  con_tells y p o q n fs = tt

  pub arrow_tells : (y : Symbol) (o : Open) (q : Place) (x : Pattern) (fs : List Frame) → Tells (machine.want_arrow types patterns trees y o q x fs)
  arrow_tells symbols.arrow o q x fs = tt
  arrow_tells y o q x fs = tt

  -- behind a dot, where a field is wanted, and behind its name
  pub dot_tells : (y : Symbol) (p : Place) (e : Expr) (fs : List Frame) → Tells (machine.after_dot types patterns trees y p e fs)
  dot_tells (symbols.lower n) p e fs = tt
  dot_tells y p e fs = tt

  pub want_field_tells : (y : Symbol) (p : Place) (o : Owner Expr) (gs : FieldExprs) (fs : List Frame) → Tells (machine.want_field types patterns trees y p o gs fs)
  want_field_tells (symbols.lower n) p o gs fs = tt
  want_field_tells y p o gs fs = tt

  pub field_tells : (y : Symbol) (o : Owner Expr) (gs : FieldExprs) (at : At) (fs : List Frame) → Tells (machine.after_field types patterns trees y o gs at fs)
  field_tells symbols.equals o gs at fs = tt
  field_tells symbols.comma o gs at fs = tt
  field_tells symbols.closing_brace o gs at fs = tt
  field_tells y o gs at fs = tt

  -- behind a sign that may be the first of a shift
  then_start_tells : (m : Stage) (y : Symbol) (p : Place) → Tells (machine.then_start types patterns trees y p m)
  then_start_tells (Want fs) y p = start_tells y p fs
  then_start_tells m y p = tt

  abbrev opped : Op → Place → Expr × List Frame → Stage
  opped o p r = machine.on_op types patterns trees o p r.0 r.1

  pub angle_tells : (y : Symbol) (p : Place) (a : Angle) (q : Place) (e : Expr) (fs : List Frame) → Tells (machine.after_angle types patterns trees y p a q e fs)
  angle_tells y p a q e fs =
      choose Tells (is_second a y) (opped (shift_op a) q (closed 5 e fs)) (machine.then_start types patterns trees y p (opped (alone_op a) q (closed 8 e fs)))
      (λ b. op_tells (shift_op a) q (closed 5 e fs).0 (closed 5 e fs).1)
      (λ b. then_start_tells (opped (alone_op a) q (closed 8 e fs)) y p)

  -- behind the sign of an observed variable, and behind its name
  pub bang_tells : (y : Symbol) (p : Place) (e : Expr) (seen : List At) (fs : List Frame) → Tells (machine.after_bang types patterns trees y p e seen fs)
  bang_tells (symbols.lower n) p e seen fs = tt
  bang_tells y p e seen fs = tt

  pub observed_tells : (y : Symbol) (p : Place) (e : Expr) (seen : List At) (fs : List Frame) → Barred y p fs → Tells (machine.observed types patterns trees y p e seen fs)
  observed_tells symbols.bang p e seen fs h = tt
  observed_tells (symbols.bar first) p e seen fs h = bar_tells first p seen e fs (h first refl)
  observed_tells symbols.in_word p e seen fs h = in_tells seen (closed 12 e fs).0 (closed 12 e fs).1
  observed_tells symbols.and_word p e seen fs h = and_tells seen (closed 12 e fs).0 (closed 12 e fs).1
  observed_tells symbols.then_word p e seen fs h = then_tells seen (closed 12 e fs).0 (closed 12 e fs).1
  observed_tells y p e seen fs h = tt

  -- what a mode needs for that: bars behind an expression tell it
  abbrev pub Needs : Stage → Symbol → Place → Type 0
  Needs (Have e fs) y p = Barred y p fs
  Needs (AfterLower q n fs) y p = Barred y p fs
  Needs (AfterUpper q n fs) y p = Barred y p fs
  Needs (Observed e seen fs) y p = Barred y p fs
  Needs WrongBar y p = W
  Needs m y p = ⊤

  -- one token
  pub step_tells : (m : Stage) (y : Symbol) (p : Place) → Needs m y p → Tells (machine.mode_step types patterns trees m y p)
  step_tells (Want fs) y p h = start_tells y p fs
  step_tells (Have e fs) y p h = have_tells y p e fs h
  step_tells (AfterLower q n fs) y p h = lower_tells y p q n fs h
  step_tells (AfterUpper q n fs) y p h = upper_tells y p q n fs h
  step_tells (InArgs q n args s fs) y p h = args_tells y p q n args s fs
  step_tells (InSig q e s fs) y p h = sig_tells y p q e s fs
  step_tells (AfterDot e fs) y p h = dot_tells y p e fs
  step_tells (WantField o gs fs) y p h = want_field_tells y p o gs fs
  step_tells (AfterField o gs at fs) y p h = field_tells y o gs at fs
  step_tells (InPattern q bs s fs) y p h = pattern_tells y p q bs s fs
  step_tells (AfterAngle a q e fs) y p h = angle_tells y p a q e fs
  step_tells (AfterBang e seen fs) y p h = bang_tells y p e seen fs
  step_tells (Observed e seen fs) y p h = observed_tells y p e seen fs h
  step_tells (WantAlt o fs) y p h = want_alt_tells y p o fs
  step_tells (AfterCon o q n fs) y p h = con_tells y p o q n fs
  step_tells (InAltPattern o q n s fs) y p h = alt_tells y p o q n s fs
  step_tells (WantArrow o q x fs) y p h = arrow_tells y o q x fs
  step_tells Stuck y p h = tt
  step_tells WrongBar y p h = h
