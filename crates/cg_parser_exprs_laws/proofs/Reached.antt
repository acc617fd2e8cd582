-- In every mode that tokens lead to, the reader of a part stands where tokens of its own lead it.
use Rattle.std.proofs.Common.{◌≡◌, ℕ, zero, suc, List, [], ◌∷◌, ◌++◌, refl, sym, ◌∙◌, ap, true, false, Bool, nat_le, if◌then◌else◌, Option, Some, None}
use Rattle.std.specs.Prelude.{⊤}
use Rattle.cg_base.specs.declared.place.Place.{Place}
use Rattle.cg_base.specs.Reader.{Reader}
use Rattle.cg_base.specs.Reader as readers
use Rattle.cg_core.specs.declared.at.At.{At}
use Rattle.cg_core.specs.declared.op.Op.{Op}
use Rattle.cg_surface.specs.Written.{Written, Writtens, no_types}
use Rattle.cg_surface.specs.Patterns.{Pattern}
use Rattle.cg_surface.specs.Exprs.{Expr, name, Exprs, FieldExprs, Binds, Alts}
use Rattle.cg_parser_symbols.specs.Symbols.{Symbol, lower, upper, let_word, in_word, and_word, if_word, then_word, else_word, not_word, complement_word, upcast_word, closing, brace, closing_brace, bracket, closing_bracket, less, greater, colon, equals, arrow, bang, bar, comma, dot, wildcard, Seen}
use Rattle.cg_parser_exprs_def.specs.Bars.{Choice, New, Joins, Wrong, bar_choice}
use Rattle.cg_parser_exprs_def.specs.Machine as machine
use Rattle.cg_parser_exprs_def.specs.Machine.{Owner, Prefix, Open, InParen, InTuple, InField, Argument, Payload, Operand, RightOf, Bound, Condition, Then, Branch, Angle, Want, Have, AfterLower, AfterUpper, InArgs, InSig, AfterDot, WantField, AfterField, InPattern, AfterAngle, AfterBang, Observed, WantAlt, AfterCon, InAltPattern, WantArrow, Stuck, WrongBar, starts_atom, operator, alone_op, shift_op, is_second}
use Rattle.cg_parser_exprs_def.specs.Plain as plain
use Rattle.cg_parser_build.specs.Plain.{trees}

-- what is open in an expression
abbrev pub Frame : Type 0
Frame = machine.Frame Expr Exprs FieldExprs Binds Alts Pattern

-- some tokens lead to this state
abbrev pub Came : {State Tree : Type 0} → Reader State Seen Tree → State → Type 0
Came R s = (front : List Seen) × (s ≡ readers.run R R.begin front)

module _ {State Tree : Type 0} (R : Reader State Seen Tree) where
  run_more : (front : List Seen) (t : Seen) (s : State) → readers.run R s (front ++ t ∷ []) ≡ R.step (readers.run R s front) t
  run_more [] t s = refl
  run_more (u ∷ front) t s = run_more front t (R.step s u)

  -- no token leads to where the reader begins
  pub came_begin : Came R R.begin
  came_begin = ([], refl)

  -- one token more
  pub came_more : (s : State) (t : Seen) → Came R s → Came R (R.step s t)
  came_more s t c = (c.0 ++ t ∷ [], ap (λ x. R.step x t) c.1 ∙ sym (run_more c.0 t R.begin))

module _ {TS PS : Type 0} (types : Reader TS Seen Written) (patterns : Reader PS Seen Pattern) where
  -- the machine over whole trees, in short names
  abbrev pub Stage : Type 0
  Stage = plain.Stage types patterns

  abbrev pub closed : ℕ → Expr → List Frame → Expr × List Frame
  closed = machine.closed types patterns trees

  abbrev pub mode_step : Stage → Symbol → Place → Stage
  mode_step = machine.mode_step types patterns trees

  abbrev pub run : Stage → List Seen → Stage
  run = readers.run (plain.plain_reader types patterns)

  -- the reader of a part stands where tokens of its own lead it
  abbrev pub Reached : Stage → Type 0
  Reached (InArgs q n args u fs) = Came types u
  Reached (InSig q e u fs) = Came types u
  Reached (InPattern q bs u fs) = Came patterns u
  Reached (InAltPattern o q n u fs) = Came patterns u
  Reached m = ⊤

  one_of : (b : Bool) (m n : Stage) → Reached m → Reached n → Reached (if b then m else n)
  one_of true m n r s = r
  one_of false m n r s = s

  -- where an expression is wanted
  on_upper : (p : Place) (n : List ℕ) (fs : List Frame) → Reached (machine.on_upper types patterns trees p n fs)
  on_upper p n fs = one_of _ (AfterUpper p n fs) (Have _ fs) tt tt

  on_prefix : (p : Place) (o : Prefix) (fs : List Frame) → Reached (machine.on_prefix types patterns trees p o fs)
  on_prefix p o fs = one_of _ (Want (Operand p o ∷ fs)) Stuck tt tt

  on_let : (p : Place) (fs : List Frame) → Reached (machine.on_let types patterns trees p fs)
  on_let p fs = one_of _ (InPattern p _ patterns.begin fs) Stuck (came_begin patterns) tt

  on_if : (p : Place) (fs : List Frame) → Reached (machine.on_if types patterns trees p fs)
  on_if p fs = one_of _ (Want (Condition p ∷ fs)) Stuck tt tt

  on_empty : (fs : List Frame) → Reached (machine.on_empty types patterns trees fs)
  on_empty (InParen p ∷ fs) = tt
  on_empty fs = tt

  start : (s : Symbol) (p : Place) (fs : List Frame) → Reached (machine.start types patterns trees s p fs)
  start (upper n) p fs = on_upper p n fs
  start closing p fs = on_empty fs
  start not_word p fs = on_prefix p _ fs
  start complement_word p fs = on_prefix p _ fs
  start upcast_word p fs = on_prefix p _ fs
  start let_word p fs = on_let p fs
  start if_word p fs = on_if p fs
  start s p fs = tt

  -- behind an expression
  on_argument : (s : Symbol) (p : Place) (e : Expr) (fs : List Frame) → Reached (machine.on_argument types patterns trees s p e fs)
  on_argument s p e fs = one_of _ (machine.start types patterns trees s p (Argument e ∷ fs)) Stuck (start s p (Argument e ∷ fs)) tt

  on_op : (o : Op) (p : Place) (e : Expr) (fs : List Frame) → Reached (machine.on_op types patterns trees o p e fs)
  on_op o p e fs = one_of _ (Want (RightOf p o e ∷ fs)) Stuck tt tt

  on_new : (c : ℕ) (seen : List At) (e : Expr) (fs : List Frame) → Reached (machine.on_new types patterns trees c seen e fs)
  on_new c seen e fs = one_of _ (WantAlt _ fs) Stuck tt tt

  next_alt : (o : Open Expr Alts) (p : Place) (con : Option (List ℕ)) (x : Pattern) (e : Expr) (fs : List Frame) → Reached (machine.next_alt types patterns trees o p con x e fs)
  next_alt o p None x e fs = tt
  next_alt o p (Some n) x e fs = tt

  joined : (j : ℕ) (e : Expr) (fs : List Frame) → Reached (machine.joined types patterns trees j e fs)
  joined j e [] = tt
  joined zero e (Branch o p con x ∷ fs) = next_alt o p con x e fs
  joined (suc j) e (Branch o p con x ∷ fs) = joined j _ fs
  joined j e (f ∷ fs) = one_of (nat_le (machine.closes types patterns trees f) 12) (machine.joined types patterns trees j (machine.fill types patterns trees f e) fs) Stuck (joined j _ fs) tt

  on_choice : (b : Choice) (c : ℕ) (seen : List At) (e : Expr) (fs : List Frame) → Reached (machine.on_choice types patterns trees b c seen e fs)
  on_choice New c seen e fs = let r = closed 11 e fs in on_new c seen r.0 r.1
  on_choice (Joins j) c [] e fs = joined j e fs
  on_choice (Joins j) c (n ∷ ns) e fs = tt
  on_choice Wrong c seen e fs = tt

  on_bar : (first : Bool) (p : Place) (seen : List At) (e : Expr) (fs : List Frame) → Reached (machine.on_bar types patterns trees first p seen e fs)
  on_bar first p seen e fs = on_choice (bar_choice first p.column (machine.opens types patterns trees fs)) p.column seen e fs

  on_close : (e : Expr) (fs : List Frame) → Reached (machine.on_close types patterns trees e fs)
  on_close e (InParen p ∷ fs) = tt
  on_close e (InTuple p es ∷ fs) = tt
  on_close e fs = tt

  on_comma : (e : Expr) (fs : List Frame) → Reached (machine.on_comma types patterns trees e fs)
  on_comma e (InParen p ∷ fs) = tt
  on_comma e (InTuple p es ∷ fs) = tt
  on_comma e (InField o gs at ∷ fs) = tt
  on_comma e fs = tt

  on_brace : (e : Expr) (fs : List Frame) → Reached (machine.on_brace types patterns trees e fs)
  on_brace e (InField o gs at ∷ fs) = tt
  on_brace e fs = tt

  on_colon : (e : Expr) (fs : List Frame) → Reached (machine.on_colon types patterns trees e fs)
  on_colon e (InParen p ∷ fs) = came_begin types
  on_colon e fs = tt

  on_in : (seen : List At) (e : Expr) (fs : List Frame) → Reached (machine.on_in types patterns trees seen e fs)
  on_in seen e (Bound p bs x ∷ fs) = tt
  on_in seen e fs = tt

  on_and : (seen : List At) (e : Expr) (fs : List Frame) → Reached (machine.on_and types patterns trees seen e fs)
  on_and seen e (Bound p bs x ∷ fs) = came_begin patterns
  on_and seen e fs = tt

  on_then : (seen : List At) (e : Expr) (fs : List Frame) → Reached (machine.on_then types patterns trees seen e fs)
  on_then seen e (Condition p ∷ fs) = tt
  on_then seen e fs = tt

  on_else : (e : Expr) (fs : List Frame) → Reached (machine.on_else types patterns trees e fs)
  on_else e (Then p c seen ∷ fs) = tt
  on_else e fs = tt

  on_end : (s : Symbol) (e : Expr) (fs : List Frame) → Reached (machine.on_end types patterns trees s e fs)
  on_end closing e fs = on_close e fs
  on_end comma e fs = on_comma e fs
  on_end closing_brace e fs = on_brace e fs
  on_end colon e fs = on_colon e fs
  on_end in_word e fs = on_in [] e fs
  on_end and_word e fs = on_and [] e fs
  on_end then_word e fs = on_then [] e fs
  on_end else_word e fs = on_else e fs
  on_end s e fs = tt

  go_past : (s : Symbol) (p : Place) (e : Expr) (fs : List Frame) → Reached (machine.go_past types patterns trees s p e fs)
  go_past (less j) p e fs = tt
  go_past (greater j) p e fs = tt
  go_past bang p e fs = tt
  go_past (bar first) p e fs = on_bar first p [] e fs
  go_past s p e fs = let r = closed 12 e fs in on_end s r.0 r.1

  at_operator : (o : Option Op) (s : Symbol) (p : Place) (e : Expr) (fs : List Frame) → Reached (machine.at_operator types patterns trees o s p e fs)
  at_operator (Some o) s p e fs = on_op o p _ _
  at_operator None s p e fs = go_past s p e fs

  go_on : (s : Symbol) (p : Place) (e : Expr) (fs : List Frame) → Reached (machine.go_on types patterns trees s p e fs)
  go_on s p e fs = at_operator (operator s) s p e fs

  have : (s : Symbol) (p : Place) (e : Expr) (fs : List Frame) → Reached (machine.have types patterns trees s p e fs)
  have dot p e fs = tt
  have brace p e fs = tt
  have s p e fs =
      let r = closed 1 e fs in
      one_of (starts_atom s) (machine.on_argument types patterns trees s p r.0 r.1) (machine.go_on types patterns trees s p e fs) (on_argument s p r.0 r.1) (go_on s p e fs)

  after_lower : (s : Symbol) (p q : Place) (n : List ℕ) (fs : List Frame) → Reached (machine.after_lower types patterns trees s p q n fs)
  after_lower bracket p q n fs = came_begin types
  after_lower s p q n fs = have s p (name q n no_types) fs

  after_upper : (s : Symbol) (p q : Place) (n : List ℕ) (fs : List Frame) → Reached (machine.after_upper types patterns trees s p q n fs)
  after_upper s p q n fs =
      one_of (starts_atom s) (machine.start types patterns trees s p (Payload q n ∷ fs)) (machine.go_on types patterns trees s p _ fs) (start s p (Payload q n ∷ fs)) (go_on s p _ fs)

  -- in a part
  args_more : (q : Place) (n : List ℕ) (args : Writtens) (s : TS) (t : Seen) (fs : List Frame) (o : Option Written) → Came types s → Reached (machine.args_more types patterns trees q n args s t fs o)
  args_more q n args s t fs None c = came_more types s t c
  args_more q n args s t fs (Some u) c = came_begin types

  args_end : (q : Place) (n : List ℕ) (args : Writtens) (s : TS) (t : Seen) (fs : List Frame) (o : Option Written) → Came types s → Reached (machine.args_end types patterns trees q n args s t fs o)
  args_end q n args s t fs None c = came_more types s t c
  args_end q n args s t fs (Some u) c = tt

  in_args : (y : Symbol) (p q : Place) (n : List ℕ) (args : Writtens) (s : TS) (fs : List Frame) → Came types s → Reached (machine.in_args types patterns trees y p q n args s fs)
  in_args comma p q n args s fs c = args_more q n args s _ fs (types.finish s) c
  in_args closing_bracket p q n args s fs c = args_end q n args s _ fs (types.finish s) c
  in_args y p q n args s fs c = came_more types s (record { symbol = y; place = p }) c

  sig_end : (q : Place) (e : Expr) (s : TS) (t : Seen) (fs : List Frame) (o : Option Written) → Came types s → Reached (machine.sig_end types patterns trees q e s t fs o)
  sig_end q e s t fs None c = came_more types s t c
  sig_end q e s t fs (Some u) c = tt

  in_sig : (y : Symbol) (p q : Place) (e : Expr) (s : TS) (fs : List Frame) → Came types s → Reached (machine.in_sig types patterns trees y p q e s fs)
  in_sig closing p q e s fs c = sig_end q e s _ fs (types.finish s) c
  in_sig y p q e s fs c = came_more types s (record { symbol = y; place = p }) c

  pattern_end : (q : Place) (bs : Binds) (s : PS) (t : Seen) (fs : List Frame) (o : Option Pattern) → Came patterns s → Reached (machine.pattern_end types patterns trees q bs s t fs o)
  pattern_end q bs s t fs None c = came_more patterns s t c
  pattern_end q bs s t fs (Some x) c = tt

  in_pattern : (y : Symbol) (p q : Place) (bs : Binds) (s : PS) (fs : List Frame) → Came patterns s → Reached (machine.in_pattern types patterns trees y p q bs s fs)
  in_pattern equals p q bs s fs c = pattern_end q bs s _ fs (patterns.finish s) c
  in_pattern y p q bs s fs c = came_more patterns s (record { symbol = y; place = p }) c

  alt_end : (o : Open Expr Alts) (q : Place) (n : List ℕ) (s : PS) (t : Seen) (fs : List Frame) (x : Option Pattern) → Came patterns s → Reached (machine.alt_end types patterns trees o q n s t fs x)
  alt_end o q n s t fs None c = came_more patterns s t c
  alt_end o q n s t fs (Some x) c = tt

  in_alt_pattern : (y : Symbol) (p : Place) (o : Open Expr Alts) (q : Place) (n : List ℕ) (s : PS) (fs : List Frame) → Came patterns s → Reached (machine.in_alt_pattern types patterns trees y p o q n s fs)
  in_alt_pattern arrow p o q n s fs c = alt_end o q n s _ fs (patterns.finish s) c
  in_alt_pattern y p o q n s fs c = came_more patterns s (record { symbol = y; place = p }) c

  -- in an alternative
  want_alt : (s : Symbol) (p : Place) (o : Open Expr Alts) (fs : List Frame) → Reached (machine.want_alt types patterns trees s p o fs)
  want_alt (upper n) p o fs = tt
  want_alt (lower n) p o fs = tt
  want_alt wildcard p o fs = tt
  want_alt s p o fs = tt

  after_con : (y : Symbol) (p : Place) (o : Open Expr Alts) (q : Place) (n : List ℕ) (fs : List Frame) → Reached (machine.after_con types patterns trees y p o q n fs)
  after_con arrow p o q n fs = tt
  after_con y p o q n fs = came_more patterns patterns.begin (record { symbol = y; place = p }) (came_begin patterns)

  want_arrow : (s : Symbol) (o : Open Expr Alts) (q : Place) (x : Pattern) (fs : List Frame) → Reached (machine.want_arrow types patterns trees s o q x fs)
  want_arrow arrow o q x fs = tt
  want_arrow s o q x fs = tt

  -- in fields
  after_dot : (s : Symbol) (p : Place) (e : Expr) (fs : List Frame) → Reached (machine.after_dot types patterns trees s p e fs)
  after_dot (lower n) p e fs = tt
  after_dot s p e fs = tt

  want_field : (s : Symbol) (p : Place) (o : Owner Expr) (gs : FieldExprs) (fs : List Frame) → Reached (machine.want_field types patterns trees s p o gs fs)
  want_field (lower n) p o gs fs = tt
  want_field s p o gs fs = tt

  after_field : (s : Symbol) (o : Owner Expr) (gs : FieldExprs) (at : At) (fs : List Frame) → Reached (machine.after_field types patterns trees s o gs at fs)
  after_field equals o gs at fs = tt
  after_field comma o gs at fs = tt
  after_field closing_brace o gs at fs = tt
  after_field s o gs at fs = tt

  -- behind the first sign of a shift
  then_start : (s : Symbol) (p : Place) (m : Stage) → Reached (machine.then_start types patterns trees s p m)
  then_start s p (Want fs) = start s p fs
  then_start s p m = tt

  after_angle : (s : Symbol) (p : Place) (a : Angle) (q : Place) (e : Expr) (fs : List Frame) → Reached (machine.after_angle types patterns trees s p a q e fs)
  after_angle s p a q e fs =
      let r = closed 5 e fs in
      let u = closed 8 e fs in
      let m = machine.on_op types patterns trees (alone_op a) q u.0 u.1 in
      one_of (is_second a s) (machine.on_op types patterns trees (shift_op a) q r.0 r.1) (machine.then_start types patterns trees s p m) (on_op (shift_op a) q r.0 r.1) (then_start s p m)

  -- behind what is observed
  after_bang : (s : Symbol) (p : Place) (e : Expr) (seen : List At) (fs : List Frame) → Reached (machine.after_bang types patterns trees s p e seen fs)
  after_bang (lower n) p e seen fs = tt
  after_bang s p e seen fs = tt

  observed : (s : Symbol) (p : Place) (e : Expr) (seen : List At) (fs : List Frame) → Reached (machine.observed types patterns trees s p e seen fs)
  observed bang p e seen fs = tt
  observed (bar first) p e seen fs = on_bar first p seen e fs
  observed in_word p e seen fs = let r = closed 12 e fs in on_in seen r.0 r.1
  observed and_word p e seen fs = let r = closed 12 e fs in on_and seen r.0 r.1
  observed then_word p e seen fs = let r = closed 12 e fs in on_then seen r.0 r.1
  observed s p e seen fs = tt

  -- one symbol more
  step_reached : (m : Stage) (s : Symbol) (p : Place) → Reached m → Reached (mode_step m s p)
  step_reached (Want fs) s p r = start s p fs
  step_reached (Have e fs) s p r = have s p e fs
  step_reached (AfterLower q n fs) s p r = after_lower s p q n fs
  step_reached (AfterUpper q n fs) s p r = after_upper s p q n fs
  step_reached (InArgs q n args u fs) s p r = in_args s p q n args u fs r
  step_reached (InSig q e u fs) s p r = in_sig s p q e u fs r
  step_reached (AfterDot e fs) s p r = after_dot s p e fs
  step_reached (WantField o gs fs) s p r = want_field s p o gs fs
  step_reached (AfterField o gs at fs) s p r = after_field s o gs at fs
  step_reached (InPattern q bs u fs) s p r = in_pattern s p q bs u fs r
  step_reached (AfterAngle a q e fs) s p r = after_angle s p a q e fs
  step_reached (AfterBang e seen fs) s p r = after_bang s p e seen fs
  step_reached (Observed e seen fs) s p r = observed s p e seen fs
  step_reached (WantAlt o fs) s p r = want_alt s p o fs
  step_reached (AfterCon o q n fs) s p r = after_con s p o q n fs
  step_reached (InAltPattern o q n u fs) s p r = in_alt_pattern s p o q n u fs r
  step_reached (WantArrow o q x fs) s p r = want_arrow s o q x fs
  step_reached Stuck s p r = tt
  step_reached WrongBar s p r = tt

  -- it stays so over any tokens
  pub reached : (ts : List Seen) (m : Stage) → Reached m → Reached (run m ts)
  reached [] m r = r
  reached (t ∷ ts) m r = reached ts (mode_step m t.symbol t.place) (step_reached m t.symbol t.place r)
