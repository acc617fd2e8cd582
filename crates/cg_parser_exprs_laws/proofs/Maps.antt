-- The machine over trees of one kind does the same as that over another, where a map between them keeps how they are built.
use Rattle.std.proofs.Common.{◌≡◌, ℕ, zero, suc, List, [], ◌∷◌, refl, ◌∙◌, ap, true, false, Bool, cond, Option, Some, None}
use Rattle.std.specs.Prelude.{nat_le}
use Rattle.cg_base.specs.declared.place.Place.{Place}
use Rattle.cg_base.specs.Reader.{Reader}
use Rattle.cg_core.specs.declared.at.At.{At}
use Rattle.cg_core.specs.declared.op.Op.{Op}
use Rattle.cg_core.specs.declared.op.Op.TheVariants.{Complement, Not}
use Rattle.cg_parser_symbols.specs.Symbols.{Symbol, Seen}
use Rattle.cg_parser_symbols.specs.Symbols as symbols
use Rattle.cg_parser_symbols.specs.Follows.{Follows, option_map}
use Rattle.cg_parser_build.specs.Builder.{Builder}
use Rattle.cg_parser_build.specs.Maps.{Maps}
use Rattle.cg_parser_exprs_def.specs.Bars.{Choice, New, Joins, Wrong, bar_choice}
use Rattle.cg_parser_exprs_def.specs.Grammar.{level, left_of}
use Rattle.cg_parser_exprs_def.specs.Machine as machine
use Rattle.cg_parser_exprs_def.specs.Machine.{Owner, Record, Put, Prefix, Operation, Upcast, Open, Frame, InParen, InTuple, InField, Argument, Payload, Operand, RightOf, Bound, Body, Condition, Then, Else, Branch, Angle, Mode, Want, Have, AfterLower, AfterUpper, InArgs, InSig, AfterDot, WantField, AfterField, InPattern, AfterAngle, AfterBang, Observed, WantAlt, AfterCon, InAltPattern, WantArrow, Stuck, WrongBar, name_at, starts_atom, operator, alone_op, shift_op}

-- what fields belong to
abbrev pub owner_map : {X X' : Type 0} → (X → X') → Owner X → Owner X'
owner_map x (Record r) = Record r
owner_map x (Put e) = Put (x e)

-- an open match
abbrev pub open_map : {X A X' A' : Type 0} → (X → X') → (A → A') → Open X A → Open X' A'
open_map x a o = record { subject = x o.subject; seen = o.seen; before = a o.before; column = o.column }

module _ {X L F B A P X' L' F' B' A' P' : Type 0} (x : X → X') (l : L → L') (f : F → F') (b : B → B') (a : A → A') (p : P → P') where
  abbrev pub frame_map : Frame X L F B A P → Frame X' L' F' B' A' P'
  frame_map (InParen r) = InParen r
  frame_map (InTuple r es) = InTuple r (l es)
  frame_map (InField o gs at) = InField (owner_map x o) (f gs) at
  frame_map (Argument e) = Argument (x e)
  frame_map (Payload r n) = Payload r n
  frame_map (Operand r o) = Operand r o
  frame_map (RightOf r o e) = RightOf r o (x e)
  frame_map (Bound r bs w) = Bound r (b bs) (p w)
  frame_map (Body r bs) = Body r (b bs)
  frame_map (Condition r) = Condition r
  frame_map (Then r c seen) = Then r (x c) seen
  frame_map (Else r c seen e) = Else r (x c) seen (x e)
  frame_map (Branch o r head w) = Branch (open_map x a o) r head (p w)

  abbrev pub frames_map : List (Frame X L F B A P) → List (Frame X' L' F' B' A' P')
  frames_map [] = []
  frames_map (g ∷ fs) = frame_map g ∷ frames_map fs

module _ {X L F B A Q P TS PS X' L' F' B' A' Q' P' TH PH : Type 0} (x : X → X') (l : L → L') (f : F → F') (b : B → B') (a : A → A') (q : Q → Q') (p : P → P')
    (of_type : TS → TH) (of_pattern : PS → PH) where
  abbrev stack : List (Frame X L F B A P) → List (Frame X' L' F' B' A' P')
  stack = frames_map x l f b a p

  abbrev pub mode_map : Mode X L F B A Q P TS PS → Mode X' L' F' B' A' Q' P' TH PH
  mode_map (Want fs) = Want (stack fs)
  mode_map (Have e fs) = Have (x e) (stack fs)
  mode_map (AfterLower r n fs) = AfterLower r n (stack fs)
  mode_map (AfterUpper r n fs) = AfterUpper r n (stack fs)
  mode_map (InArgs r n args u fs) = InArgs r n (q args) (of_type u) (stack fs)
  mode_map (InSig r e u fs) = InSig r (x e) (of_type u) (stack fs)
  mode_map (AfterDot e fs) = AfterDot (x e) (stack fs)
  mode_map (WantField o gs fs) = WantField (owner_map x o) (f gs) (stack fs)
  mode_map (AfterField o gs at fs) = AfterField (owner_map x o) (f gs) at (stack fs)
  mode_map (InPattern r bs u fs) = InPattern r (b bs) (of_pattern u) (stack fs)
  mode_map (AfterAngle g r e fs) = AfterAngle g r (x e) (stack fs)
  mode_map (AfterBang e seen fs) = AfterBang (x e) seen (stack fs)
  mode_map (Observed e seen fs) = Observed (x e) seen (stack fs)
  mode_map (WantAlt o fs) = WantAlt (open_map x a o) (stack fs)
  mode_map (AfterCon o r n fs) = AfterCon (open_map x a o) r n (stack fs)
  mode_map (InAltPattern o r n u fs) = InAltPattern (open_map x a o) r n (of_pattern u) (stack fs)
  mode_map (WantArrow o r w fs) = WantArrow (open_map x a o) r (p w) (stack fs)
  mode_map Stuck = Stuck
  mode_map WrongBar = WrongBar

-- a choice is kept where both sides are
same_if : {D E : Type 0} (k : D → E) (c d : Bool) (u v : E) (y z : D) → c ≡ d → u ≡ k y → v ≡ k z → cond c u v ≡ k (cond d y z)
same_if k c true u v y z e g h = ap (λ i. cond i u v) e ∙ g
same_if k c false u v y z e g h = ap (λ i. cond i u v) e ∙ h

module _ {X L F B A Q T P TS PS X' L' F' B' A' Q' T' P' TH PH : Type 0} (types : Reader TS Seen T) (patterns : Reader PS Seen P) (from : Builder X L F B A Q T P)
    (held_types : Reader TH Seen T') (held_patterns : Reader PH Seen P') (onto : Builder X' L' F' B' A' Q' T' P')
    (of_type : TS → TH) (of_pattern : PS → PH) (h : Maps from onto)
    (type_follows : Follows types held_types of_type h.t) (pattern_follows : Follows patterns held_patterns of_pattern h.p) where
  abbrev Frames : Type 0
  Frames = List (Frame X L F B A P)

  abbrev Stage : Type 0
  Stage = Mode X L F B A Q P TS PS

  abbrev frame : Frame X L F B A P → Frame X' L' F' B' A' P'
  frame = frame_map h.x h.l h.f h.b h.a h.p

  abbrev frames : Frames → List (Frame X' L' F' B' A' P')
  frames = frames_map h.x h.l h.f h.b h.a h.p

  abbrev mode : Stage → Mode X' L' F' B' A' Q' P' TH PH
  mode = mode_map h.x h.l h.f h.b h.a h.q h.p of_type of_pattern

  same_hole : (g : Frame X L F B A P) → machine.hole held_types held_patterns onto (frame g) ≡ machine.hole types patterns from g
  same_hole (InParen r) = refl
  same_hole (InTuple r es) = refl
  same_hole (InField o gs at) = refl
  same_hole (Argument e) = refl
  same_hole (Payload r n) = refl
  same_hole (Operand r o) = refl
  same_hole (RightOf r o e) = refl
  same_hole (Bound r bs w) = refl
  same_hole (Body r bs) = refl
  same_hole (Condition r) = refl
  same_hole (Then r c seen) = refl
  same_hole (Else r c seen e) = refl
  same_hole (Branch o r head w) = refl

  same_room : (fs : Frames) → machine.room held_types held_patterns onto (frames fs) ≡ machine.room types patterns from fs
  same_room [] = refl
  same_room (g ∷ fs) = same_hole g

  same_closes : (g : Frame X L F B A P) → machine.closes held_types held_patterns onto (frame g) ≡ machine.closes types patterns from g
  same_closes (InParen r) = refl
  same_closes (InTuple r es) = refl
  same_closes (InField o gs at) = refl
  same_closes (Argument e) = refl
  same_closes (Payload r n) = refl
  same_closes (Operand r o) = refl
  same_closes (RightOf r o e) = refl
  same_closes (Bound r bs w) = refl
  same_closes (Body r bs) = refl
  same_closes (Condition r) = refl
  same_closes (Then r c seen) = refl
  same_closes (Else r c seen e) = refl
  same_closes (Branch o r head w) = refl

  same_opens : (fs : Frames) → machine.opens held_types held_patterns onto (frames fs) ≡ machine.opens types patterns from fs
  same_opens [] = refl
  same_opens (InParen r ∷ fs) = refl
  same_opens (InTuple r es ∷ fs) = refl
  same_opens (InField o gs at ∷ fs) = refl
  same_opens (Argument e ∷ fs) = same_opens fs
  same_opens (Payload r n ∷ fs) = same_opens fs
  same_opens (Operand r o ∷ fs) = same_opens fs
  same_opens (RightOf r o e ∷ fs) = same_opens fs
  same_opens (Bound r bs w ∷ fs) = refl
  same_opens (Body r bs ∷ fs) = same_opens fs
  same_opens (Condition r ∷ fs) = refl
  same_opens (Then r c seen ∷ fs) = refl
  same_opens (Else r c seen e ∷ fs) = same_opens fs
  same_opens (Branch o r head w ∷ fs) = ap (λ os. o.column ∷ os) (same_opens fs)

  same_prefixed : (r : Place) (o : Prefix) (e : X) → machine.prefixed held_types held_patterns onto r o (h.x e) ≡ h.x (machine.prefixed types patterns from r o e)
  same_prefixed r (Operation o) e = h.on_unary r o e
  same_prefixed r Upcast e = h.on_upcast r e

  same_fill : (g : Frame X L F B A P) (e : X) → machine.fill held_types held_patterns onto (frame g) (h.x e) ≡ h.x (machine.fill types patterns from g e)
  same_fill (InParen r) e = refl
  same_fill (InTuple r es) e = refl
  same_fill (InField o gs at) e = refl
  same_fill (Argument d) e = h.on_app d e
  same_fill (Payload r n) e = h.on_con_of r n e
  same_fill (Operand r o) e = same_prefixed r o e
  same_fill (RightOf r o d) e = h.on_binary r o d e
  same_fill (Bound r bs w) e = refl
  same_fill (Body r bs) e = h.on_lets r bs e
  same_fill (Condition r) e = refl
  same_fill (Then r c seen) e = refl
  same_fill (Else r c seen d) e = h.on_if_else r c seen d e
  same_fill (Branch o r head w) e = ap (onto.match_of (h.x o.subject) o.seen) (h.on_and_alt o.before r head w e) ∙ h.on_match_of o.subject o.seen (from.and_alt o.before r head w e)

  -- an expression and frames
  abbrev pair_map : X × Frames → X' × List (Frame X' L' F' B' A' P')
  pair_map r = (h.x r.0, frames r.1)

  same_closed : (k : ℕ) (fs : Frames) (e : X) → machine.closed held_types held_patterns onto k (h.x e) (frames fs) ≡ pair_map (machine.closed types patterns from k e fs)
  same_closed k [] e = refl
  same_closed k (g ∷ fs) e =
      same_if pair_map _ _ _ _ _ _ (ap (λ c. nat_le c k) (same_closes g))
      (ap (λ u. machine.closed held_types held_patterns onto k u (frames fs)) (same_fill g e) ∙ same_closed k fs (machine.fill types patterns from g e))
      refl

  same_bare : (r : Place) (n : List ℕ) → onto.name r n onto.no_args ≡ h.x (from.name r n from.no_args)
  same_bare r n = ap (onto.name r n) h.on_no_args ∙ h.on_name r n from.no_args

  same_owned : (o : Owner X) (gs : F) → machine.owned held_types held_patterns onto (owner_map h.x o) (h.f gs) ≡ h.x (machine.owned types patterns from o gs)
  same_owned (Record r) gs = h.on_fields r gs
  same_owned (Put e) gs = h.on_put e gs

  same_alone : (gs : F) (at : At) → machine.alone held_types held_patterns onto (h.f gs) at ≡ h.f (machine.alone types patterns from gs at)
  same_alone gs at = ap (onto.and_field (h.f gs) at) (same_bare at.place at.name) ∙ h.on_and_field gs at (from.name at.place at.name from.no_args)

  -- fields and one more, between their braces
  same_record : (o : Owner X) (gs : F) (at : At) (e : X) → machine.owned held_types held_patterns onto (owner_map h.x o) (onto.and_field (h.f gs) at (h.x e)) ≡ h.x (machine.owned types patterns from o (from.and_field gs at e))
  same_record o gs at e = ap (machine.owned held_types held_patterns onto (owner_map h.x o)) (h.on_and_field gs at e) ∙ same_owned o (from.and_field gs at e)

  same_upper : (r : Place) (n : List ℕ) (fs : Frames) → machine.on_upper held_types held_patterns onto r n (frames fs) ≡ mode (machine.on_upper types patterns from r n fs)
  same_upper r n fs = same_if mode _ _ _ _ _ _ (ap (nat_le 1) (same_room fs)) refl (ap (λ u. Have u (frames fs)) (h.on_con r n))

  same_prefix : (r : Place) (o : Prefix) (fs : Frames) → machine.on_prefix held_types held_patterns onto r o (frames fs) ≡ mode (machine.on_prefix types patterns from r o fs)
  same_prefix r o fs = same_if mode _ _ _ _ _ _ (ap (nat_le 2) (same_room fs)) refl refl

  same_let : (r : Place) (fs : Frames) → machine.on_let held_types held_patterns onto r (frames fs) ≡ mode (machine.on_let types patterns from r fs)
  same_let r fs =
      same_if mode _ _ _ _ _ _ (ap (nat_le 12) (same_room fs))
      (ap (λ bs. InPattern r bs held_patterns.begin (frames fs)) h.on_no_binds ∙ ap (λ s. InPattern r (h.b from.no_binds) s (frames fs)) pattern_follows.begins)
      refl

  same_if_word : (r : Place) (fs : Frames) → machine.on_if held_types held_patterns onto r (frames fs) ≡ mode (machine.on_if types patterns from r fs)
  same_if_word r fs = same_if mode _ _ _ _ _ _ (ap (nat_le 12) (same_room fs)) refl refl

  same_empty : (fs : Frames) → machine.on_empty held_types held_patterns onto (frames fs) ≡ mode (machine.on_empty types patterns from fs)
  same_empty [] = refl
  same_empty (InParen r ∷ fs) = ap (λ u. Have u (frames fs)) (h.on_unit r)
  same_empty (g ∷ fs) = refl

  same_start : (y : Symbol) (r : Place) (fs : Frames) → machine.start held_types held_patterns onto y r (frames fs) ≡ mode (machine.start types patterns from y r fs)
  same_start (symbols.lower n) r fs = refl
  same_start (symbols.upper n) r fs = same_upper r n fs
  same_start (symbols.numeral v) r fs = ap (λ u. Have u (frames fs)) (h.on_number r v)
  same_start symbols.true_word r fs = ap (λ u. Have u (frames fs)) (h.on_bool r true)
  same_start symbols.false_word r fs = ap (λ u. Have u (frames fs)) (h.on_bool r false)
  same_start symbols.opening r fs = refl
  same_start symbols.closing r fs = same_empty fs
  same_start symbols.unboxed r fs = ap (λ gs. WantField (Record r) gs (frames fs)) h.on_no_fields
  same_start symbols.not_word r fs = same_prefix r (Operation Not) fs
  same_start symbols.complement_word r fs = same_prefix r (Operation Complement) fs
  same_start symbols.upcast_word r fs = same_prefix r Upcast fs
  same_start symbols.let_word r fs = same_let r fs
  same_start symbols.if_word r fs = same_if_word r fs
  same_start y r fs = refl

  same_argument : (y : Symbol) (r : Place) (e : X) (fs : Frames) → machine.on_argument held_types held_patterns onto y r (h.x e) (frames fs) ≡ mode (machine.on_argument types patterns from y r e fs)
  same_argument y r e fs = same_if mode _ _ _ _ _ _ (ap (nat_le 1) (same_room fs)) (same_start y r (Argument e ∷ fs)) refl

  same_op : (o : Op) (r : Place) (e : X) (fs : Frames) → machine.on_op held_types held_patterns onto o r (h.x e) (frames fs) ≡ mode (machine.on_op types patterns from o r e fs)
  same_op o r e fs = same_if mode _ _ _ _ _ _ (ap (nat_le (level o)) (same_room fs)) refl refl

  same_new : (column : ℕ) (seen : List At) (e : X) (fs : Frames) → machine.on_new held_types held_patterns onto column seen (h.x e) (frames fs) ≡ mode (machine.on_new types patterns from column seen e fs)
  same_new column seen e fs =
      same_if mode _ _ _ _ _ _ (ap (nat_le 12) (same_room fs))
      (ap (λ choices. WantAlt (record { subject = h.x e; seen = seen; before = choices; column = column }) (frames fs)) h.on_no_alts)
      refl

  same_next : (o : Open X A) (r : Place) (head : Option (List ℕ)) (w : P) (e : X) (fs : Frames)
      → machine.next_alt held_types held_patterns onto (open_map h.x h.a o) r head (h.p w) (h.x e) (frames fs) ≡ mode (machine.next_alt types patterns from o r head w e fs)
  same_next o r None w e fs = refl
  same_next o r (Some n) w e fs =
      ap (λ choices. WantAlt (record { subject = h.x o.subject; seen = o.seen; before = choices; column = o.column }) (frames fs)) (h.on_and_alt o.before r (Some n) w e)

  -- a frame is filled on the way to the match, where the rest is the same
  same_past : (g : Frame X L F B A P) (j : ℕ) (e : X) (fs : Frames)
      → ((u : X) → machine.joined held_types held_patterns onto j (h.x u) (frames fs) ≡ mode (machine.joined types patterns from j u fs))
      → cond (nat_le (machine.closes held_types held_patterns onto (frame g)) 12) (machine.joined held_types held_patterns onto j (machine.fill held_types held_patterns onto (frame g) (h.x e)) (frames fs)) Stuck
      ≡ mode (cond (nat_le (machine.closes types patterns from g) 12) (machine.joined types patterns from j (machine.fill types patterns from g e) fs) Stuck)
  same_past g j e fs rest =
      same_if mode _ _ _ _ _ _ (ap (λ c. nat_le c 12) (same_closes g))
      (ap (λ u. machine.joined held_types held_patterns onto j u (frames fs)) (same_fill g e) ∙ rest (machine.fill types patterns from g e))
      refl

  same_joined : (j : ℕ) (e : X) (fs : Frames) → machine.joined held_types held_patterns onto j (h.x e) (frames fs) ≡ mode (machine.joined types patterns from j e fs)
  same_joined j e [] = refl
  same_joined zero e (Branch o r head w ∷ fs) = same_next o r head w e fs
  same_joined (suc j) e (Branch o r head w ∷ fs) =
      ap (λ u. machine.joined held_types held_patterns onto j u (frames fs)) (same_fill (Branch o r head w) e) ∙ same_joined j (machine.fill types patterns from (Branch o r head w) e) fs
  same_joined j e (g ∷ fs) = same_past g j e fs (λ u. same_joined j u fs)

  same_choice : (c : Choice) (column : ℕ) (seen : List At) (e : X) (fs : Frames) → machine.on_choice held_types held_patterns onto c column seen (h.x e) (frames fs) ≡ mode (machine.on_choice types patterns from c column seen e fs)
  same_choice New column seen e fs =
      ap (λ r. machine.on_new held_types held_patterns onto column seen r.0 r.1) (same_closed 11 fs e)
      ∙ same_new column seen (machine.closed types patterns from 11 e fs).0 (machine.closed types patterns from 11 e fs).1
  same_choice (Joins j) column [] e fs = same_joined j e fs
  same_choice (Joins j) column (n ∷ ns) e fs = refl
  same_choice Wrong column seen e fs = refl

  same_bar : (first : Bool) (r : Place) (seen : List At) (e : X) (fs : Frames) → machine.on_bar held_types held_patterns onto first r seen (h.x e) (frames fs) ≡ mode (machine.on_bar types patterns from first r seen e fs)
  same_bar first r seen e fs =
      ap (λ os. machine.on_choice held_types held_patterns onto (bar_choice first r.column os) r.column seen (h.x e) (frames fs)) (same_opens fs)
      ∙ same_choice (bar_choice first r.column (machine.opens types patterns from fs)) r.column seen e fs

  same_close : (e : X) (fs : Frames) → machine.on_close held_types held_patterns onto (h.x e) (frames fs) ≡ mode (machine.on_close types patterns from e fs)
  same_close e [] = refl
  same_close e (InParen r ∷ fs) = ap (λ u. Have u (frames fs)) (h.on_paren r e)
  same_close e (InTuple r es ∷ fs) = ap (λ u. Have u (frames fs)) (ap (onto.tuple r) (h.on_and_expr es e) ∙ h.on_tuple r (from.and_expr es e))
  same_close e (g ∷ fs) = refl

  same_comma : (e : X) (fs : Frames) → machine.on_comma held_types held_patterns onto (h.x e) (frames fs) ≡ mode (machine.on_comma types patterns from e fs)
  same_comma e [] = refl
  same_comma e (InParen r ∷ fs) =
      ap (λ es. Want (InTuple r es ∷ frames fs)) (ap (λ es. onto.and_expr es (h.x e)) h.on_no_exprs ∙ h.on_and_expr from.no_exprs e)
  same_comma e (InTuple r es ∷ fs) = ap (λ ds. Want (InTuple r ds ∷ frames fs)) (h.on_and_expr es e)
  same_comma e (InField o gs at ∷ fs) = ap (λ ks. WantField (owner_map h.x o) ks (frames fs)) (h.on_and_field gs at e)
  same_comma e (g ∷ fs) = refl

  same_brace : (e : X) (fs : Frames) → machine.on_brace held_types held_patterns onto (h.x e) (frames fs) ≡ mode (machine.on_brace types patterns from e fs)
  same_brace e [] = refl
  same_brace e (InField o gs at ∷ fs) = ap (λ u. Have u (frames fs)) (same_record o gs at e)
  same_brace e (g ∷ fs) = refl

  same_colon : (e : X) (fs : Frames) → machine.on_colon held_types held_patterns onto (h.x e) (frames fs) ≡ mode (machine.on_colon types patterns from e fs)
  same_colon e [] = refl
  same_colon e (InParen r ∷ fs) = ap (λ s. InSig r (h.x e) s (frames fs)) type_follows.begins
  same_colon e (g ∷ fs) = refl

  same_in : (seen : List At) (e : X) (fs : Frames) → machine.on_in held_types held_patterns onto seen (h.x e) (frames fs) ≡ mode (machine.on_in types patterns from seen e fs)
  same_in seen e [] = refl
  same_in seen e (Bound r bs w ∷ fs) = ap (λ cs. Want (Body r cs ∷ frames fs)) (h.on_and_bind bs w e seen)
  same_in seen e (g ∷ fs) = refl

  same_and : (seen : List At) (e : X) (fs : Frames) → machine.on_and held_types held_patterns onto seen (h.x e) (frames fs) ≡ mode (machine.on_and types patterns from seen e fs)
  same_and seen e [] = refl
  same_and seen e (Bound r bs w ∷ fs) =
      ap (λ cs. InPattern r cs held_patterns.begin (frames fs)) (h.on_and_bind bs w e seen)
      ∙ ap (λ s. InPattern r (h.b (from.and_bind bs w e seen)) s (frames fs)) pattern_follows.begins
  same_and seen e (g ∷ fs) = refl

  same_then : (seen : List At) (e : X) (fs : Frames) → machine.on_then held_types held_patterns onto seen (h.x e) (frames fs) ≡ mode (machine.on_then types patterns from seen e fs)
  same_then seen e [] = refl
  same_then seen e (Condition r ∷ fs) = refl
  same_then seen e (g ∷ fs) = refl

  same_else : (e : X) (fs : Frames) → machine.on_else held_types held_patterns onto (h.x e) (frames fs) ≡ mode (machine.on_else types patterns from e fs)
  same_else e [] = refl
  same_else e (Then r c seen ∷ fs) = refl
  same_else e (g ∷ fs) = refl

  same_end : (y : Symbol) (e : X) (fs : Frames) → machine.on_end held_types held_patterns onto y (h.x e) (frames fs) ≡ mode (machine.on_end types patterns from y e fs)
  same_end symbols.closing e fs = same_close e fs
  same_end symbols.comma e fs = same_comma e fs
  same_end symbols.closing_brace e fs = same_brace e fs
  same_end symbols.colon e fs = same_colon e fs
  same_end symbols.in_word e fs = same_in [] e fs
  same_end symbols.and_word e fs = same_and [] e fs
  same_end symbols.then_word e fs = same_then [] e fs
  same_end symbols.else_word e fs = same_else e fs
  same_end y e fs = refl

  -- at a symbol that closes all that it may
  same_ended : (y : Symbol) (e : X) (fs : Frames)
      → machine.on_end held_types held_patterns onto y (machine.closed held_types held_patterns onto 12 (h.x e) (frames fs)).0 (machine.closed held_types held_patterns onto 12 (h.x e) (frames fs)).1
      ≡ mode (machine.on_end types patterns from y (machine.closed types patterns from 12 e fs).0 (machine.closed types patterns from 12 e fs).1)
  same_ended y e fs =
      ap (λ r. machine.on_end held_types held_patterns onto y r.0 r.1) (same_closed 12 fs e)
      ∙ same_end y (machine.closed types patterns from 12 e fs).0 (machine.closed types patterns from 12 e fs).1

  same_go_past : (y : Symbol) (r : Place) (e : X) (fs : Frames) → machine.go_past held_types held_patterns onto y r (h.x e) (frames fs) ≡ mode (machine.go_past types patterns from y r e fs)
  same_go_past (symbols.less j) r e fs = refl
  same_go_past (symbols.greater j) r e fs = refl
  same_go_past symbols.bang r e fs = ap (λ s. AfterBang s.0 [] s.1) (same_closed 11 fs e)
  same_go_past (symbols.bar first) r e fs = same_bar first r [] e fs
  same_go_past y r e fs = same_ended y e fs

  same_at_operator : (o : Option Op) (y : Symbol) (r : Place) (e : X) (fs : Frames) → machine.at_operator held_types held_patterns onto o y r (h.x e) (frames fs) ≡ mode (machine.at_operator types patterns from o y r e fs)
  same_at_operator None y r e fs = same_go_past y r e fs
  same_at_operator (Some o) y r e fs =
      ap (λ s. machine.on_op held_types held_patterns onto o r s.0 s.1) (same_closed (left_of o) fs e)
      ∙ same_op o r (machine.closed types patterns from (left_of o) e fs).0 (machine.closed types patterns from (left_of o) e fs).1

  same_go_on : (y : Symbol) (r : Place) (e : X) (fs : Frames) → machine.go_on held_types held_patterns onto y r (h.x e) (frames fs) ≡ mode (machine.go_on types patterns from y r e fs)
  same_go_on y r e fs = same_at_operator (operator y) y r e fs

  -- at an argument, or at what stands behind an expression
  same_behind : (y : Symbol) (r : Place) (e : X) (fs : Frames)
      → cond (starts_atom y) (machine.on_argument held_types held_patterns onto y r (machine.closed held_types held_patterns onto 1 (h.x e) (frames fs)).0 (machine.closed held_types held_patterns onto 1 (h.x e) (frames fs)).1) (machine.go_on held_types held_patterns onto y r (h.x e) (frames fs))
      ≡ mode (cond (starts_atom y) (machine.on_argument types patterns from y r (machine.closed types patterns from 1 e fs).0 (machine.closed types patterns from 1 e fs).1) (machine.go_on types patterns from y r e fs))
  same_behind y r e fs =
      same_if mode _ _ _ _ _ _ refl
      (ap (λ s. machine.on_argument held_types held_patterns onto y r s.0 s.1) (same_closed 1 fs e)
      ∙ same_argument y r (machine.closed types patterns from 1 e fs).0 (machine.closed types patterns from 1 e fs).1)
      (same_go_on y r e fs)

  same_have : (y : Symbol) (r : Place) (e : X) (fs : Frames) → machine.have held_types held_patterns onto y r (h.x e) (frames fs) ≡ mode (machine.have types patterns from y r e fs)
  same_have symbols.dot r e fs = refl
  same_have symbols.brace r e fs = ap (λ gs. WantField (Put (h.x e)) gs (frames fs)) h.on_no_fields
  same_have y r e fs = same_behind y r e fs

  -- behind a name with no type arguments
  same_named : (y : Symbol) (r s : Place) (n : List ℕ) (fs : Frames) → machine.have held_types held_patterns onto y r (onto.name s n onto.no_args) (frames fs) ≡ mode (machine.have types patterns from y r (from.name s n from.no_args) fs)
  same_named y r s n fs = ap (λ u. machine.have held_types held_patterns onto y r u (frames fs)) (same_bare s n) ∙ same_have y r (from.name s n from.no_args) fs

  same_after_lower : (y : Symbol) (r s : Place) (n : List ℕ) (fs : Frames) → machine.after_lower held_types held_patterns onto y r s n (frames fs) ≡ mode (machine.after_lower types patterns from y r s n fs)
  same_after_lower symbols.bracket r s n fs =
      ap (λ args. InArgs s n args held_types.begin (frames fs)) h.on_no_args ∙ ap (λ u. InArgs s n (h.q from.no_args) u (frames fs)) type_follows.begins
  same_after_lower y r s n fs = same_named y r s n fs

  same_after_upper : (y : Symbol) (r s : Place) (n : List ℕ) (fs : Frames) → machine.after_upper held_types held_patterns onto y r s n (frames fs) ≡ mode (machine.after_upper types patterns from y r s n fs)
  same_after_upper y r s n fs =
      same_if mode _ _ _ _ _ _ refl (same_start y r (Payload s n ∷ fs))
      (ap (λ u. machine.go_on held_types held_patterns onto y r u (frames fs)) (h.on_con s n) ∙ same_go_on y r (from.con s n) fs)

  -- one token of a type or of a pattern more, and the first one of a pattern
  type_more : (u : TS) (y : Symbol) (r : Place) → held_types.step (of_type u) (record { symbol = y; place = r }) ≡ of_type (types.step u (record { symbol = y; place = r }))
  type_more u y r = type_follows.steps u (record { symbol = y; place = r })

  pattern_more : (u : PS) (y : Symbol) (r : Place) → held_patterns.step (of_pattern u) (record { symbol = y; place = r }) ≡ of_pattern (patterns.step u (record { symbol = y; place = r }))
  pattern_more u y r = pattern_follows.steps u (record { symbol = y; place = r })

  pattern_begun : (y : Symbol) (r : Place) → held_patterns.step held_patterns.begin (record { symbol = y; place = r }) ≡ of_pattern (patterns.step patterns.begin (record { symbol = y; place = r }))
  pattern_begun y r = ap (λ u. held_patterns.step u (record { symbol = y; place = r })) pattern_follows.begins ∙ pattern_more patterns.begin y r

  same_args_more : (s : Place) (n : List ℕ) (args : Q) (u : TS) (y : Symbol) (r : Place) (fs : Frames) (o : Option T)
      → machine.args_more held_types held_patterns onto s n (h.q args) (of_type u) (record { symbol = y; place = r }) (frames fs) (option_map h.t o) ≡ mode (machine.args_more types patterns from s n args u (record { symbol = y; place = r }) fs o)
  same_args_more s n args u y r fs None = ap (λ v. InArgs s n (h.q args) v (frames fs)) (type_more u y r)
  same_args_more s n args u y r fs (Some w) =
      ap (λ more. InArgs s n more held_types.begin (frames fs)) (h.on_and_arg args w) ∙ ap (λ v. InArgs s n (h.q (from.and_arg args w)) v (frames fs)) type_follows.begins

  same_args_end : (s : Place) (n : List ℕ) (args : Q) (u : TS) (y : Symbol) (r : Place) (fs : Frames) (o : Option T)
      → machine.args_end held_types held_patterns onto s n (h.q args) (of_type u) (record { symbol = y; place = r }) (frames fs) (option_map h.t o) ≡ mode (machine.args_end types patterns from s n args u (record { symbol = y; place = r }) fs o)
  same_args_end s n args u y r fs None = ap (λ v. InArgs s n (h.q args) v (frames fs)) (type_more u y r)
  same_args_end s n args u y r fs (Some w) =
      ap (λ v. Have v (frames fs)) (ap (onto.name s n) (h.on_and_arg args w) ∙ h.on_name s n (from.and_arg args w))

  same_in_args : (y : Symbol) (r s : Place) (n : List ℕ) (args : Q) (u : TS) (fs : Frames) → machine.in_args held_types held_patterns onto y r s n (h.q args) (of_type u) (frames fs) ≡ mode (machine.in_args types patterns from y r s n args u fs)
  same_in_args symbols.comma r s n args u fs =
      ap (machine.args_more held_types held_patterns onto s n (h.q args) (of_type u) (record { symbol = symbols.comma; place = r }) (frames fs)) (type_follows.finishes u)
      ∙ same_args_more s n args u symbols.comma r fs (types.finish u)
  same_in_args symbols.closing_bracket r s n args u fs =
      ap (machine.args_end held_types held_patterns onto s n (h.q args) (of_type u) (record { symbol = symbols.closing_bracket; place = r }) (frames fs)) (type_follows.finishes u)
      ∙ same_args_end s n args u symbols.closing_bracket r fs (types.finish u)
  same_in_args y r s n args u fs = ap (λ v. InArgs s n (h.q args) v (frames fs)) (type_more u y r)

  same_sig_end : (s : Place) (e : X) (u : TS) (y : Symbol) (r : Place) (fs : Frames) (o : Option T)
      → machine.sig_end held_types held_patterns onto s (h.x e) (of_type u) (record { symbol = y; place = r }) (frames fs) (option_map h.t o) ≡ mode (machine.sig_end types patterns from s e u (record { symbol = y; place = r }) fs o)
  same_sig_end s e u y r fs None = ap (λ v. InSig s (h.x e) v (frames fs)) (type_more u y r)
  same_sig_end s e u y r fs (Some w) = ap (λ v. Have v (frames fs)) (h.on_sig s e w)

  same_in_sig : (y : Symbol) (r s : Place) (e : X) (u : TS) (fs : Frames) → machine.in_sig held_types held_patterns onto y r s (h.x e) (of_type u) (frames fs) ≡ mode (machine.in_sig types patterns from y r s e u fs)
  same_in_sig symbols.closing r s e u fs =
      ap (machine.sig_end held_types held_patterns onto s (h.x e) (of_type u) (record { symbol = symbols.closing; place = r }) (frames fs)) (type_follows.finishes u)
      ∙ same_sig_end s e u symbols.closing r fs (types.finish u)
  same_in_sig y r s e u fs = ap (λ v. InSig s (h.x e) v (frames fs)) (type_more u y r)

  same_pattern_end : (s : Place) (bs : B) (u : PS) (y : Symbol) (r : Place) (fs : Frames) (o : Option P)
      → machine.pattern_end held_types held_patterns onto s (h.b bs) (of_pattern u) (record { symbol = y; place = r }) (frames fs) (option_map h.p o) ≡ mode (machine.pattern_end types patterns from s bs u (record { symbol = y; place = r }) fs o)
  same_pattern_end s bs u y r fs None = ap (λ v. InPattern s (h.b bs) v (frames fs)) (pattern_more u y r)
  same_pattern_end s bs u y r fs (Some w) = refl

  same_in_pattern : (y : Symbol) (r s : Place) (bs : B) (u : PS) (fs : Frames) → machine.in_pattern held_types held_patterns onto y r s (h.b bs) (of_pattern u) (frames fs) ≡ mode (machine.in_pattern types patterns from y r s bs u fs)
  same_in_pattern symbols.equals r s bs u fs =
      ap (machine.pattern_end held_types held_patterns onto s (h.b bs) (of_pattern u) (record { symbol = symbols.equals; place = r }) (frames fs)) (pattern_follows.finishes u)
      ∙ same_pattern_end s bs u symbols.equals r fs (patterns.finish u)
  same_in_pattern y r s bs u fs = ap (λ v. InPattern s (h.b bs) v (frames fs)) (pattern_more u y r)

  same_alt_end : (o : Open X A) (s : Place) (n : List ℕ) (u : PS) (y : Symbol) (r : Place) (fs : Frames) (w : Option P)
      → machine.alt_end held_types held_patterns onto (open_map h.x h.a o) s n (of_pattern u) (record { symbol = y; place = r }) (frames fs) (option_map h.p w) ≡ mode (machine.alt_end types patterns from o s n u (record { symbol = y; place = r }) fs w)
  same_alt_end o s n u y r fs None = ap (λ v. InAltPattern (open_map h.x h.a o) s n v (frames fs)) (pattern_more u y r)
  same_alt_end o s n u y r fs (Some w) = refl

  same_in_alt_pattern : (y : Symbol) (r : Place) (o : Open X A) (s : Place) (n : List ℕ) (u : PS) (fs : Frames)
      → machine.in_alt_pattern held_types held_patterns onto y r (open_map h.x h.a o) s n (of_pattern u) (frames fs) ≡ mode (machine.in_alt_pattern types patterns from y r o s n u fs)
  same_in_alt_pattern symbols.arrow r o s n u fs =
      ap (machine.alt_end held_types held_patterns onto (open_map h.x h.a o) s n (of_pattern u) (record { symbol = symbols.arrow; place = r }) (frames fs)) (pattern_follows.finishes u)
      ∙ same_alt_end o s n u symbols.arrow r fs (patterns.finish u)
  same_in_alt_pattern y r o s n u fs = ap (λ v. InAltPattern (open_map h.x h.a o) s n v (frames fs)) (pattern_more u y r)

  same_want_alt : (y : Symbol) (r : Place) (o : Open X A) (fs : Frames) → machine.want_alt held_types held_patterns onto y r (open_map h.x h.a o) (frames fs) ≡ mode (machine.want_alt types patterns from y r o fs)
  same_want_alt (symbols.upper n) r o fs = refl
  same_want_alt (symbols.lower n) r o fs = ap (λ w. WantArrow (open_map h.x h.a o) r w (frames fs)) (h.on_pattern_name r n)
  same_want_alt symbols.wildcard r o fs = ap (λ w. WantArrow (open_map h.x h.a o) r w (frames fs)) (h.on_pattern_any r)
  same_want_alt y r o fs = refl

  same_after_con : (y : Symbol) (r : Place) (o : Open X A) (s : Place) (n : List ℕ) (fs : Frames)
      → machine.after_con held_types held_patterns onto y r (open_map h.x h.a o) s n (frames fs) ≡ mode (machine.after_con types patterns from y r o s n fs)
  same_after_con symbols.arrow r o s n fs = ap (λ w. Want (Branch (open_map h.x h.a o) s (Some n) w ∷ frames fs)) (h.on_pattern_unit s)
  same_after_con y r o s n fs = ap (λ v. InAltPattern (open_map h.x h.a o) s n v (frames fs)) (pattern_begun y r)

  same_want_arrow : (y : Symbol) (o : Open X A) (s : Place) (w : P) (fs : Frames) → machine.want_arrow held_types held_patterns onto y (open_map h.x h.a o) s (h.p w) (frames fs) ≡ mode (machine.want_arrow types patterns from y o s w fs)
  same_want_arrow symbols.arrow o s w fs = refl
  same_want_arrow y o s w fs = refl

  same_after_dot : (y : Symbol) (r : Place) (e : X) (fs : Frames) → machine.after_dot held_types held_patterns onto y r (h.x e) (frames fs) ≡ mode (machine.after_dot types patterns from y r e fs)
  same_after_dot (symbols.lower n) r e fs = ap (λ u. Have u (frames fs)) (h.on_member e (name_at r n))
  same_after_dot y r e fs = refl

  same_want_field : (y : Symbol) (r : Place) (o : Owner X) (gs : F) (fs : Frames) → machine.want_field held_types held_patterns onto y r (owner_map h.x o) (h.f gs) (frames fs) ≡ mode (machine.want_field types patterns from y r o gs fs)
  same_want_field (symbols.lower n) r o gs fs = refl
  same_want_field y r o gs fs = refl

  same_after_field : (y : Symbol) (o : Owner X) (gs : F) (at : At) (fs : Frames) → machine.after_field held_types held_patterns onto y (owner_map h.x o) (h.f gs) at (frames fs) ≡ mode (machine.after_field types patterns from y o gs at fs)
  same_after_field symbols.equals o gs at fs = refl
  same_after_field symbols.comma o gs at fs = ap (λ ks. WantField (owner_map h.x o) ks (frames fs)) (same_alone gs at)
  same_after_field symbols.closing_brace o gs at fs =
      ap (λ u. Have u (frames fs)) (ap (machine.owned held_types held_patterns onto (owner_map h.x o)) (same_alone gs at) ∙ same_owned o (machine.alone types patterns from gs at))
  same_after_field y o gs at fs = refl

  same_then_start : (y : Symbol) (r : Place) (m : Stage) → machine.then_start held_types held_patterns onto y r (mode m) ≡ mode (machine.then_start types patterns from y r m)
  same_then_start y r (Want fs) = same_start y r fs
  same_then_start y r m = refl

  same_shift : (g : Angle) (s : Place) (e : X) (fs : Frames)
      → machine.on_op held_types held_patterns onto (shift_op g) s (machine.closed held_types held_patterns onto 5 (h.x e) (frames fs)).0 (machine.closed held_types held_patterns onto 5 (h.x e) (frames fs)).1
      ≡ mode (machine.on_op types patterns from (shift_op g) s (machine.closed types patterns from 5 e fs).0 (machine.closed types patterns from 5 e fs).1)
  same_shift g s e fs =
      ap (λ v. machine.on_op held_types held_patterns onto (shift_op g) s v.0 v.1) (same_closed 5 fs e)
      ∙ same_op (shift_op g) s (machine.closed types patterns from 5 e fs).0 (machine.closed types patterns from 5 e fs).1

  same_compare : (g : Angle) (s : Place) (e : X) (fs : Frames)
      → machine.on_op held_types held_patterns onto (alone_op g) s (machine.closed held_types held_patterns onto 8 (h.x e) (frames fs)).0 (machine.closed held_types held_patterns onto 8 (h.x e) (frames fs)).1
      ≡ mode (machine.on_op types patterns from (alone_op g) s (machine.closed types patterns from 8 e fs).0 (machine.closed types patterns from 8 e fs).1)
  same_compare g s e fs =
      ap (λ v. machine.on_op held_types held_patterns onto (alone_op g) s v.0 v.1) (same_closed 8 fs e)
      ∙ same_op (alone_op g) s (machine.closed types patterns from 8 e fs).0 (machine.closed types patterns from 8 e fs).1

  same_after_angle : (y : Symbol) (r : Place) (g : Angle) (s : Place) (e : X) (fs : Frames) → machine.after_angle held_types held_patterns onto y r g s (h.x e) (frames fs) ≡ mode (machine.after_angle types patterns from y r g s e fs)
  same_after_angle y r g s e fs =
      same_if mode _ _ _ _ _ _ refl (same_shift g s e fs)
      (ap (machine.then_start held_types held_patterns onto y r) (same_compare g s e fs)
      ∙ same_then_start y r (machine.on_op types patterns from (alone_op g) s (machine.closed types patterns from 8 e fs).0 (machine.closed types patterns from 8 e fs).1))

  same_after_bang : (y : Symbol) (r : Place) (e : X) (seen : List At) (fs : Frames) → machine.after_bang held_types held_patterns onto y r (h.x e) seen (frames fs) ≡ mode (machine.after_bang types patterns from y r e seen fs)
  same_after_bang (symbols.lower n) r e seen fs = refl
  same_after_bang y r e seen fs = refl

  same_observed : (y : Symbol) (r : Place) (e : X) (seen : List At) (fs : Frames) → machine.observed held_types held_patterns onto y r (h.x e) seen (frames fs) ≡ mode (machine.observed types patterns from y r e seen fs)
  same_observed symbols.bang r e seen fs = refl
  same_observed (symbols.bar first) r e seen fs = same_bar first r seen e fs
  same_observed symbols.in_word r e seen fs =
      ap (λ v. machine.on_in held_types held_patterns onto seen v.0 v.1) (same_closed 12 fs e) ∙ same_in seen (machine.closed types patterns from 12 e fs).0 (machine.closed types patterns from 12 e fs).1
  same_observed symbols.and_word r e seen fs =
      ap (λ v. machine.on_and held_types held_patterns onto seen v.0 v.1) (same_closed 12 fs e) ∙ same_and seen (machine.closed types patterns from 12 e fs).0 (machine.closed types patterns from 12 e fs).1
  same_observed symbols.then_word r e seen fs =
      ap (λ v. machine.on_then held_types held_patterns onto seen v.0 v.1) (same_closed 12 fs e) ∙ same_then seen (machine.closed types patterns from 12 e fs).0 (machine.closed types patterns from 12 e fs).1
  same_observed y r e seen fs = refl

  same_step : (m : Stage) (y : Symbol) (r : Place) → machine.mode_step held_types held_patterns onto (mode m) y r ≡ mode (machine.mode_step types patterns from m y r)
  same_step (Want fs) y r = same_start y r fs
  same_step (Have e fs) y r = same_have y r e fs
  same_step (AfterLower s n fs) y r = same_after_lower y r s n fs
  same_step (AfterUpper s n fs) y r = same_after_upper y r s n fs
  same_step (InArgs s n args u fs) y r = same_in_args y r s n args u fs
  same_step (InSig s e u fs) y r = same_in_sig y r s e u fs
  same_step (AfterDot e fs) y r = same_after_dot y r e fs
  same_step (WantField o gs fs) y r = same_want_field y r o gs fs
  same_step (AfterField o gs at fs) y r = same_after_field y o gs at fs
  same_step (InPattern s bs u fs) y r = same_in_pattern y r s bs u fs
  same_step (AfterAngle g s e fs) y r = same_after_angle y r g s e fs
  same_step (AfterBang e seen fs) y r = same_after_bang y r e seen fs
  same_step (Observed e seen fs) y r = same_observed y r e seen fs
  same_step (WantAlt o fs) y r = same_want_alt y r o fs
  same_step (AfterCon o s n fs) y r = same_after_con y r o s n fs
  same_step (InAltPattern o s n u fs) y r = same_in_alt_pattern y r o s n u fs
  same_step (WantArrow o s w fs) y r = same_want_arrow y o s w fs
  same_step Stuck y r = refl
  same_step WrongBar y r = refl

  same_whole : (e : X) (fs : Frames) → machine.whole held_types held_patterns onto (h.x e) (frames fs) ≡ option_map h.x (machine.whole types patterns from e fs)
  same_whole e [] = refl
  same_whole e (g ∷ fs) = refl

  same_all : (e : X) (fs : Frames)
      → machine.whole held_types held_patterns onto (machine.closed held_types held_patterns onto 12 (h.x e) (frames fs)).0 (machine.closed held_types held_patterns onto 12 (h.x e) (frames fs)).1
      ≡ option_map h.x (machine.whole types patterns from (machine.closed types patterns from 12 e fs).0 (machine.closed types patterns from 12 e fs).1)
  same_all e fs =
      ap (λ r. machine.whole held_types held_patterns onto r.0 r.1) (same_closed 12 fs e) ∙ same_whole (machine.closed types patterns from 12 e fs).0 (machine.closed types patterns from 12 e fs).1

  -- an expression that is built where it ends
  built_all : (u : X') (e : X) (fs : Frames) → u ≡ h.x e
      → machine.whole held_types held_patterns onto (machine.closed held_types held_patterns onto 12 u (frames fs)).0 (machine.closed held_types held_patterns onto 12 u (frames fs)).1
      ≡ option_map h.x (machine.whole types patterns from (machine.closed types patterns from 12 e fs).0 (machine.closed types patterns from 12 e fs).1)
  built_all u e fs k =
      ap (λ v. machine.whole held_types held_patterns onto (machine.closed held_types held_patterns onto 12 v (frames fs)).0 (machine.closed held_types held_patterns onto 12 v (frames fs)).1) k ∙ same_all e fs

  same_finish : (m : Stage) → machine.mode_end held_types held_patterns onto (mode m) ≡ option_map h.x (machine.mode_end types patterns from m)
  same_finish (Have e fs) = same_all e fs
  same_finish (AfterLower s n fs) = built_all _ (from.name s n from.no_args) fs (same_bare s n)
  same_finish (AfterUpper s n fs) = built_all _ (from.con s n) fs (h.on_con s n)
  same_finish m = refl

  same_open : (m : Stage) → machine.is_open held_types held_patterns onto (mode m) ≡ machine.is_open types patterns from m
  same_open (InArgs s n args u fs) = type_follows.opens u
  same_open (InSig s e u fs) = type_follows.opens u
  same_open (InPattern s bs u fs) = pattern_follows.opens u
  same_open (InAltPattern o s n u fs) = pattern_follows.opens u
  same_open m = refl

  -- whatever the machine over the one does, that over the other does
  pub follow : Follows (machine.reader types patterns from) (machine.reader held_types held_patterns onto) mode h.x
  follow = record { begins = refl; steps = λ m t. same_step m t.symbol t.place; opens = same_open; finishes = same_finish }
