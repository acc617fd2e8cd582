-- Under any frames an expression can be completed by tokens past column 1, and so can each mode that is in no part.
use Rattle.std.proofs.Common.{◌≡◌, ℕ, ◌+◌, ◌≤◌, List, [], ◌∷◌, refl, ◌∙◌, ap, true, false, Bool, nat_le, nat_lt, nat_eq, ◌==◌, Option, Some, None, arith}
use Rattle.std.specs.Prelude.{⊤}
use Rattle.std.proofs.lemmas.Bool.{leb-true, le-leb, lt-ltb, ne_eqb}
use Rattle.cg_base.specs.declared.place.Place.{Place}
use Rattle.cg_base.specs.Reader.{Reader}
use Rattle.cg_core.specs.declared.at.At.{At}
use Rattle.cg_core.specs.declared.op.Op.{Op}
use Rattle.cg_core.specs.declared.op.Op.TheVariants.{Add, Sub, Mul, Div, Rem, And, Or, Xor, Shl, Shr, Complement, Eq, Ne, Lt, Gt, Le, Ge, Both, Either, Not}
use Rattle.cg_surface.specs.Written.{Written, no_types}
use Rattle.cg_surface.specs.Patterns.{Pattern}
use Rattle.cg_surface.specs.Exprs.{Expr, name, number, con, FieldExprs, Alts, no_alts}
use Rattle.cg_parser_symbols.specs.Symbols.{Symbol, lower, numeral, in_word, then_word, else_word, closing, closing_brace, less, greater, arrow, wildcard, bar, Seen}
use Rattle.cg_parser_symbols.specs.Readings.{ArePast}
use Rattle.cg_parser_exprs_def.specs.Bars.{Choice, New, inside_of, at_column, bar_choice}
use Rattle.cg_parser_exprs_def.specs.Grammar.{level}
use Rattle.cg_parser_exprs_def.specs.Machine as machine
use Rattle.cg_parser_exprs_def.specs.Machine.{Owner, Open, InParen, InTuple, InField, Argument, Payload, Operand, RightOf, Bound, Body, Condition, Then, Else, Branch, Angle, ToLeft, ToRight, Want, Have, AfterLower, AfterUpper, AfterDot, WantField, AfterField, AfterAngle, AfterBang, Observed, WantAlt, AfterCon, WantArrow}
use Rattle.cg_parser_build.specs.Plain.{trees}
use Rattle.cg_parser_exprs_laws.proofs.Reached as reached
use Rattle.cg_parser_exprs_laws.proofs.Reached.{Frame}

-- a place past column 1, and a token there
abbrev pub there : Place
there = record { line = 1; column = 2 }

abbrev pub at : Symbol → Seen
at y = record { symbol = y; place = there }

-- the signs and words that close what they may
abbrev is_closer : Symbol → Bool
is_closer closing = true
is_closer closing_brace = true
is_closer in_word = true
is_closer then_word = true
is_closer else_word = true
is_closer y = false

-- tokens that begin with one of them
abbrev IsClosing : List Seen → Type 0
IsClosing [] = ⊤
IsClosing (t ∷ ts) = is_closer t.symbol ≡ true

-- a column to the right of all these
abbrev beyond : List ℕ → ℕ
beyond [] = 2
beyond (o ∷ os) = o + 1 + beyond os

past_first : (os : List ℕ) → 2 ≤ beyond os
past_first [] = omega arith
past_first (o ∷ os) = let h = past_first os in omega arith

not_inside : (c : ℕ) (os : List ℕ) → beyond os ≤ c → inside_of c os ≡ None
not_inside c [] h = refl
not_inside c (o ∷ os) h =
    let i : inside_of c os ≡ None = not_inside c os (omega arith) in
    let n : nat_eq o c ≡ false = ne_eqb o c (λ q. let b = past_first os in omega arith) in
    rw n (rw i refl)

-- a bar that is first on its line opens a match there
opens_match : (os : List ℕ) → bar_choice true (beyond os) os ≡ New
opens_match [] = refl
opens_match (o ∷ os) =
    let n : nat_lt o (beyond (o ∷ os)) ≡ true = lt-ltb o (beyond (o ∷ os)) (omega arith) in
    ap (at_column (beyond (o ∷ os)) o) (not_inside (beyond (o ∷ os)) (o ∷ os) (omega arith)) ∙ rw n refl

past_bar : (os : List ℕ) → (beyond os == 1) ≡ false
past_bar os = ne_eqb (beyond os) 1 (λ q. let b = past_first os in omega arith)

-- no operator binds more loosely than 11
level_most : (o : Op) → nat_le (level o) 11 ≡ true
level_most Mul = refl
level_most Div = refl
level_most Rem = refl
level_most Add = refl
level_most Sub = refl
level_most Shl = refl
level_most Shr = refl
level_most And = refl
level_most Xor = refl
level_most Or = refl
level_most Eq = refl
level_most Ne = refl
level_most Lt = refl
level_most Gt = refl
level_most Le = refl
level_most Ge = refl
level_most Both = refl
level_most Either = refl
level_most Complement = refl
level_most Not = refl

level_closes : (o : Op) → nat_le (level o) 12 ≡ true
level_closes o = le-leb (level o) 12 (let h = leb-true (level o) 11 (level_most o) in omega arith)

module _ {TS PS : Type 0} (types : Reader TS Seen Written) (patterns : Reader PS Seen Pattern) where
  -- the machine over whole trees, in short names
  abbrev pub Stage : Type 0
  Stage = reached.Stage types patterns

  abbrev closed : ℕ → Expr → List Frame → Expr × List Frame
  closed = reached.closed types patterns

  abbrev pub mode_step : Stage → Symbol → Place → Stage
  mode_step = reached.mode_step types patterns

  abbrev pub run : Stage → List Seen → Stage
  run = reached.run types patterns

  abbrev pub finish : Stage → Option Expr
  finish = machine.mode_end types patterns trees

  abbrev closes : Frame → ℕ
  closes = machine.closes types patterns trees

  abbrev fill : Frame → Expr → Expr
  fill = machine.fill types patterns trees

  abbrev room : List Frame → ℕ
  room = machine.room types patterns trees

  abbrev opens : List Frame → List ℕ
  opens = machine.opens types patterns trees

  abbrev have : Symbol → Place → Expr → List Frame → Stage
  have = machine.have types patterns trees

  -- some tokens past column 1 complete the mode
  abbrev pub Completable : Stage → Type 0
  Completable m = (rest : List Seen) × ArePast rest × (e : Expr) × (finish (run m rest) ≡ Some e)

  -- some tokens past column 1 that begin with a closing one complete an expression under these frames
  abbrev Completes : Expr → List Frame → Type 0
  Completes e fs = (rest : List Seen) × IsClosing rest × ArePast rest × (x : Expr) × (finish (run (Have e fs) rest) ≡ Some x)

  -- one token more
  pub fed : (y : Symbol) (m to : Stage) → mode_step m y there ≡ to → Completable to → Completable m
  fed y m to q c = (at y ∷ c.0, (refl, c.1), c.2, ap (λ x. finish (run x c.0)) q ∙ c.3)

  shut : (f : Frame) (e : Expr) (fs : List Frame) → nat_le (closes f) 12 ≡ true → closed 12 e (f ∷ fs) ≡ closed 12 (fill f e) fs
  shut f e fs h = rw h refl

  -- before a token that closes, a frame may be closed first
  same_step : (f : Frame) (e : Expr) (fs : List Frame) (y : Symbol) (p : Place) → nat_le (closes f) 12 ≡ true → is_closer y ≡ true → have y p e (f ∷ fs) ≡ have y p (fill f e) fs
  same_step f e fs closing p h c = ap (λ r. machine.on_close types patterns trees r.0 r.1) (shut f e fs h)
  same_step f e fs closing_brace p h c = ap (λ r. machine.on_brace types patterns trees r.0 r.1) (shut f e fs h)
  same_step f e fs in_word p h c = ap (λ r. machine.on_in types patterns trees [] r.0 r.1) (shut f e fs h)
  same_step f e fs then_word p h c = ap (λ r. machine.on_then types patterns trees [] r.0 r.1) (shut f e fs h)
  same_step f e fs else_word p h c = ap (λ r. machine.on_else types patterns trees r.0 r.1) (shut f e fs h)
  same_step f e fs y p h c = cc

  skip : (f : Frame) (e : Expr) (fs : List Frame) (rest : List Seen) → nat_le (closes f) 12 ≡ true → IsClosing rest → finish (run (Have e (f ∷ fs)) rest) ≡ finish (run (Have (fill f e) fs) rest)
  skip f e fs [] h c = ap (λ r. machine.whole types patterns trees r.0 r.1) (shut f e fs h)
  skip f e fs (s ∷ ts) h c = ap (λ m. finish (run m ts)) (same_step f e fs s.symbol s.place h c)

  skipped : (f : Frame) (e : Expr) (fs : List Frame) → nat_le (closes f) 12 ≡ true → Completes (fill f e) fs → Completes e (f ∷ fs)
  skipped f e fs h c = (c.0, c.1, c.2, c.3, skip f e fs c.0 h c.1 ∙ c.4)

  -- before a token that closes, a name and a constructor are expressions like others
  lower_step : (q : Place) (n : List ℕ) (fs : List Frame) (y : Symbol) (p : Place) → is_closer y ≡ true → mode_step (AfterLower q n fs) y p ≡ have y p (name q n no_types) fs
  lower_step q n fs closing p c = refl
  lower_step q n fs closing_brace p c = refl
  lower_step q n fs in_word p c = refl
  lower_step q n fs then_word p c = refl
  lower_step q n fs else_word p c = refl
  lower_step q n fs y p c = cc

  upper_step : (q : Place) (n : List ℕ) (fs : List Frame) (y : Symbol) (p : Place) → is_closer y ≡ true → mode_step (AfterUpper q n fs) y p ≡ have y p (con q n) fs
  upper_step q n fs closing p c = refl
  upper_step q n fs closing_brace p c = refl
  upper_step q n fs in_word p c = refl
  upper_step q n fs then_word p c = refl
  upper_step q n fs else_word p c = refl
  upper_step q n fs y p c = cc

  lower_same : (q : Place) (n : List ℕ) (fs : List Frame) (rest : List Seen) → IsClosing rest → finish (run (AfterLower q n fs) rest) ≡ finish (run (Have (name q n no_types) fs) rest)
  lower_same q n fs [] c = refl
  lower_same q n fs (s ∷ ts) c = ap (λ m. finish (run m ts)) (lower_step q n fs s.symbol s.place c)

  upper_same : (q : Place) (n : List ℕ) (fs : List Frame) (rest : List Seen) → IsClosing rest → finish (run (AfterUpper q n fs) rest) ≡ finish (run (Have (con q n) fs) rest)
  upper_same q n fs [] c = refl
  upper_same q n fs (s ∷ ts) c = ap (λ m. finish (run m ts)) (upper_step q n fs s.symbol s.place c)

  -- an expression that a sign or a word closes
  closed_by : (y : Symbol) (e : Expr) (fs : List Frame) (to : Stage) → is_closer y ≡ true → have y there e fs ≡ to → Completable to → Completes e fs
  closed_by y e fs to c q d = (at y ∷ d.0, c, (refl, d.1), d.2, ap (λ m. finish (run m d.0)) q ∙ d.3)

  had : (e : Expr) (fs : List Frame) → Completes e fs → Completable (Have e fs)
  had e fs d = (d.0, d.2, d.3, d.4)

  -- a number where an expression is wanted
  numbered : (fs : List Frame) → Completes (number there None) fs → Completable (Want fs)
  numbered fs d = fed (numeral None) (Want fs) (Have (number there None) fs) refl (had (number there None) fs d)

  -- under any frames, by recursion on them
  completed : (fs : List Frame) (e : Expr) → Completes e fs
  completed [] e = ([], tt, tt, e, refl)
  completed (InParen p ∷ fs) e = closed_by closing e (InParen p ∷ fs) _ refl refl (had _ fs (completed fs _))
  completed (InTuple p es ∷ fs) e = closed_by closing e (InTuple p es ∷ fs) _ refl refl (had _ fs (completed fs _))
  completed (InField o gs n ∷ fs) e = closed_by closing_brace e (InField o gs n ∷ fs) _ refl refl (had _ fs (completed fs _))
  completed (Argument f ∷ fs) e = skipped (Argument f) e fs refl (completed fs _)
  completed (Payload p n ∷ fs) e = skipped (Payload p n) e fs refl (completed fs _)
  completed (Operand p o ∷ fs) e = skipped (Operand p o) e fs refl (completed fs _)
  completed (RightOf p o a ∷ fs) e = skipped (RightOf p o a) e fs (level_closes o) (completed fs _)
  completed (Body p bs ∷ fs) e = skipped (Body p bs) e fs refl (completed fs _)
  completed (Else p c seen a ∷ fs) e = skipped (Else p c seen a) e fs refl (completed fs _)
  completed (Branch o p n x ∷ fs) e = skipped (Branch o p n x) e fs refl (completed fs _)
  completed (Bound p bs x ∷ fs) e =
      let f = Body p (trees.and_bind bs x e []) in
      closed_by in_word e (Bound p bs x ∷ fs) (Want (f ∷ fs)) refl refl (numbered (f ∷ fs) (skipped f _ fs refl (completed fs _)))
  completed (Condition p ∷ fs) e =
      let f = Else p e [] (number there None) in
      closed_by then_word e (Condition p ∷ fs) (Want (Then p e [] ∷ fs)) refl refl
      (numbered (Then p e [] ∷ fs) (closed_by else_word (number there None) (Then p e [] ∷ fs) (Want (f ∷ fs)) refl refl (numbered (f ∷ fs) (skipped f _ fs refl (completed fs _)))))
  completed (Then p c seen ∷ fs) e =
      let f = Else p c seen e in
      closed_by else_word e (Then p c seen ∷ fs) (Want (f ∷ fs)) refl refl (numbered (f ∷ fs) (skipped f _ fs refl (completed fs _)))

  -- behind an expression, the mode can be completed
  pub have_ends : (e : Expr) (fs : List Frame) → Completable (Have e fs)
  have_ends e fs = had e fs (completed fs e)

  -- where one is wanted
  pub want_ends : (fs : List Frame) → Completable (Want fs)
  want_ends fs = numbered fs (completed fs (number there None))

  -- behind a name
  pub lower_ends : (q : Place) (n : List ℕ) (fs : List Frame) → Completable (AfterLower q n fs)
  lower_ends q n fs = let d = completed fs (name q n no_types) in (d.0, d.2, d.3, lower_same q n fs d.0 d.1 ∙ d.4)

  -- behind a constructor
  pub upper_ends : (q : Place) (n : List ℕ) (fs : List Frame) → Completable (AfterUpper q n fs)
  upper_ends q n fs = let d = completed fs (con q n) in (d.0, d.2, d.3, upper_same q n fs d.0 d.1 ∙ d.4)

  -- behind a dot
  pub dot_ends : (e : Expr) (fs : List Frame) → Completable (AfterDot e fs)
  dot_ends e fs = fed (lower []) (AfterDot e fs) _ refl (have_ends _ fs)

  -- behind the name of a field
  pub field_ends : (o : Owner Expr) (gs : FieldExprs) (n : At) (fs : List Frame) → Completable (AfterField o gs n fs)
  field_ends o gs n fs = fed closing_brace (AfterField o gs n fs) _ refl (have_ends _ fs)

  -- where the name of a field is wanted
  pub want_field_ends : (o : Owner Expr) (gs : FieldExprs) (fs : List Frame) → Completable (WantField o gs fs)
  want_field_ends o gs fs = fed (lower []) (WantField o gs fs) _ refl (field_ends o gs _ fs)

  -- behind the name or the wildcard of an alternative
  pub arrow_ends : (o : Open Expr Alts) (q : Place) (x : Pattern) (fs : List Frame) → Completable (WantArrow o q x fs)
  arrow_ends o q x fs = fed arrow (WantArrow o q x fs) _ refl (want_ends _)

  -- behind the constructor of an alternative
  pub con_ends : (o : Open Expr Alts) (q : Place) (n : List ℕ) (fs : List Frame) → Completable (AfterCon o q n fs)
  con_ends o q n fs = fed arrow (AfterCon o q n fs) _ refl (want_ends _)

  -- where an alternative is wanted
  pub alt_ends : (o : Open Expr Alts) (fs : List Frame) → Completable (WantAlt o fs)
  alt_ends o fs = fed wildcard (WantAlt o fs) _ refl (arrow_ends o there _ fs)

  -- where all that bind more tightly than a shift's operands are closed, there is room for a shift
  shift_room : (e : Expr) (fs : List Frame) → nat_le 5 (room (closed 5 e fs).1) ≡ true
  shift_room e [] = refl
  shift_room e (InParen p ∷ fs) = refl
  shift_room e (InTuple p es ∷ fs) = refl
  shift_room e (InField o gs n ∷ fs) = refl
  shift_room e (Argument f ∷ fs) = shift_room _ fs
  shift_room e (Payload p n ∷ fs) = shift_room _ fs
  shift_room e (Operand p o ∷ fs) = shift_room _ fs
  shift_room e (RightOf p Mul a ∷ fs) = shift_room _ fs
  shift_room e (RightOf p Div a ∷ fs) = shift_room _ fs
  shift_room e (RightOf p Rem a ∷ fs) = shift_room _ fs
  shift_room e (RightOf p Add a ∷ fs) = shift_room _ fs
  shift_room e (RightOf p Sub a ∷ fs) = shift_room _ fs
  shift_room e (RightOf p Shl a ∷ fs) = shift_room _ fs
  shift_room e (RightOf p Shr a ∷ fs) = shift_room _ fs
  shift_room e (RightOf p Complement a ∷ fs) = shift_room _ fs
  shift_room e (RightOf p Not a ∷ fs) = shift_room _ fs
  shift_room e (RightOf p o a ∷ fs) = refl
  shift_room e (Bound p bs x ∷ fs) = refl
  shift_room e (Body p bs ∷ fs) = refl
  shift_room e (Condition p ∷ fs) = refl
  shift_room e (Then p c seen ∷ fs) = refl
  shift_room e (Else p c seen a ∷ fs) = refl
  shift_room e (Branch o p n x ∷ fs) = refl

  -- where all but what a match may stand in is closed, there is room for a match
  match_room : (e : Expr) (fs : List Frame) → nat_le 12 (room (closed 11 e fs).1) ≡ true
  match_room e [] = refl
  match_room e (InParen p ∷ fs) = refl
  match_room e (InTuple p es ∷ fs) = refl
  match_room e (InField o gs n ∷ fs) = refl
  match_room e (Argument f ∷ fs) = match_room _ fs
  match_room e (Payload p n ∷ fs) = match_room _ fs
  match_room e (Operand p o ∷ fs) = match_room _ fs
  match_room e (RightOf p o a ∷ fs) = rw (level_most o) (match_room _ fs)
  match_room e (Bound p bs x ∷ fs) = refl
  match_room e (Body p bs ∷ fs) = refl
  match_room e (Condition p ∷ fs) = refl
  match_room e (Then p c seen ∷ fs) = refl
  match_room e (Else p c seen a ∷ fs) = refl
  match_room e (Branch o p n x ∷ fs) = refl

  -- behind a sign that may be the first of a shift
  pub angle_ends : (a : Angle) (q : Place) (e : Expr) (fs : List Frame) → Completable (AfterAngle a q e fs)
  angle_ends ToLeft q e fs = let r = closed 5 e fs in fed (less true) (AfterAngle ToLeft q e fs) (Want (RightOf q Shl r.0 ∷ r.1)) (rw (shift_room e fs) refl) (want_ends _)
  angle_ends ToRight q e fs = let r = closed 5 e fs in fed (greater true) (AfterAngle ToRight q e fs) (Want (RightOf q Shr r.0 ∷ r.1)) (rw (shift_room e fs) refl) (want_ends _)

  -- a match opens behind what is observed, at a column that no open match has
  opened : (c : ℕ) (seen : List At) (e : Expr) (fs : List Frame) (b : Choice) → b ≡ New → Completable (machine.on_choice types patterns trees b c seen e fs)
  opened c seen e fs b h =
      let r = closed 11 e fs in
      let o : Open Expr Alts = record { subject = r.0; seen = seen; before = no_alts; column = c } in
      let q : machine.on_choice types patterns trees b c seen e fs ≡ WantAlt o r.1 = rw h (rw (match_room e fs) refl) in
      let d = alt_ends o r.1 in
      (d.0, d.1, d.2, ap (λ m. finish (run m d.0)) q ∙ d.3)

  -- behind an observed variable
  pub observed_ends : (e : Expr) (seen : List At) (fs : List Frame) → Completable (Observed e seen fs)
  observed_ends e seen fs =
      let c = beyond (opens fs) in
      let d = opened c seen e fs (bar_choice true c (opens fs)) (opens_match (opens fs)) in
      (record { symbol = bar true; place = record { line = 1; column = c } } ∷ d.0, (past_bar (opens fs), d.1), d.2, d.3)

  -- behind the sign of an observed variable
  pub bang_ends : (e : Expr) (seen : List At) (fs : List Frame) → Completable (AfterBang e seen fs)
  bang_ends e seen fs = fed (lower []) (AfterBang e seen fs) (Observed e _ fs) refl (observed_ends e _ fs)
