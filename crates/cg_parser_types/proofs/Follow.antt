-- The machine over bounded trees does the same as that over whole ones.
use Rattle.std.proofs.Common.{◌≡◌, ℕ, ◌<◌, max, List, [], ◌∷◌, refl, sym, ◌∙◌, ap, arith, true, false, Bool, cond, Option, Some, None}
use Rattle.std.specs.Prelude.{nat_le}
use Rattle.std.proofs.lemmas.Bool.{le-leb, lt-leb, leb-true, leb-false}
use Rattle.cg_base.specs.declared.place.Place.{Place}
use Rattle.cg_core.specs.declared.at.At.{At}
use Rattle.cg_surface.specs.Written.{Written, named, tuple, paren, fields, variant, and_type, WrittenAlts, and_plain, depth_of, types_depth, fields_depth, alts_depth}
use Rattle.cg_parser_symbols.specs.Symbols.{Symbol, lower, upper, take_word, opening, closing, brace, closing_brace, unboxed, less, greater, colon, arrow, bang, bar, comma, dots}
use Rattle.cg_parser_symbols.specs.Follows.{Follows, option_map}
use Rattle.cg_parser_types.specs.Machine.{Builder, Frame, Mode, InParen, InTuple, InField, InAlt, InArgs, InArrow, Want, Alone, Head, Taken, WantField, AfterField, WantAlt, AfterAlt, AfterTake, TakeOpen, TakeDots, TakeName, TakeMore, Stuck, mode_is_open, starts, strength}
use Rattle.cg_parser_types.specs.Machine as machine
use Rattle.cg_parser_types.specs.Plain.{Stage, trees, plain_reader}
use Rattle.cg_parser_types.specs.Bounded.{depth_limit, within, types_within, fields_within, alts_within, one, two, both, arrow_at, bang_at, take_some_at, take_all_at, field_more, alt_more, plain_more, bounded, Held, bounded_reader}

-- how one builder's types and lists are taken to another's
pub record Map {X L F V Y M G W : Type 0} (B : Builder X L F V) (C : Builder Y M G W) : Type 0 where
  pub x : X → Y
  pub l : L → M
  pub f : F → G
  pub v : V → W
  pub on_named : (p : Place) (n : List ℕ) (ts : L) → x (B.named p n ts) ≡ C.named p n (l ts)
  pub on_unit : (p : Place) → x (B.unit p) ≡ C.unit p
  pub on_paren : (p : Place) (t : X) → x (B.paren p t) ≡ C.paren p (x t)
  pub on_tuple : (p : Place) (ts : L) → x (B.tuple p ts) ≡ C.tuple p (l ts)
  pub on_function : (a b : X) → x (B.function a b) ≡ C.function (x a) (x b)
  pub on_fields : (p : Place) (boxed : Bool) (gs : F) → x (B.fields p boxed gs) ≡ C.fields p boxed (f gs)
  pub on_variant : (p : Place) (choices : V) → x (B.variant p choices) ≡ C.variant p (v choices)
  pub on_observed : (t : X) → x (B.observed t) ≡ C.observed (x t)
  pub on_take_some : (t : X) (ns : List At) → x (B.take_some t ns) ≡ C.take_some (x t) ns
  pub on_take_all : (t : X) (q : Place) → x (B.take_all t q) ≡ C.take_all (x t) q
  pub on_no_types : l B.no_types ≡ C.no_types
  pub on_type : (ts : L) (t : X) → l (B.and_type ts t) ≡ C.and_type (l ts) (x t)
  pub on_no_fields : f B.no_fields ≡ C.no_fields
  pub on_field : (gs : F) (at : At) (t : X) → f (B.and_field gs at t) ≡ C.and_field (f gs) at (x t)
  pub on_no_alts : v B.no_alts ≡ C.no_alts
  pub on_plain : (choices : V) (at : At) → v (B.and_plain choices at) ≡ C.and_plain (v choices) at
  pub on_alt : (choices : V) (at : At) (t : X) → v (B.and_alt choices at t) ≡ C.and_alt (v choices) at (x t)

module _ {X L F V Y M G W : Type 0} (x : X → Y) (l : L → M) (f : F → G) (v : V → W) where
  abbrev pub frame_map : Frame X L F V → Frame Y M G W
  frame_map (InParen p) = InParen p
  frame_map (InTuple p ts) = InTuple p (l ts)
  frame_map (InField p boxed gs at) = InField p boxed (f gs) at
  frame_map (InAlt p choices at) = InAlt p (v choices) at
  frame_map (InArgs p n args) = InArgs p n (l args)
  frame_map (InArrow a) = InArrow (x a)

  abbrev pub frames_map : List (Frame X L F V) → List (Frame Y M G W)
  frames_map [] = []
  frames_map (f ∷ fs) = frame_map f ∷ frames_map fs

  abbrev pub mode_map : Mode X L F V → Mode Y M G W
  mode_map (Want fs) = Want (frames_map fs)
  mode_map (Alone t fs) = Alone (x t) (frames_map fs)
  mode_map (Head p n fs) = Head p n (frames_map fs)
  mode_map (Taken t fs) = Taken (x t) (frames_map fs)
  mode_map (WantField p boxed gs fs) = WantField p boxed (f gs) (frames_map fs)
  mode_map (AfterField p boxed gs at fs) = AfterField p boxed (f gs) at (frames_map fs)
  mode_map (WantAlt p choices fs) = WantAlt p (v choices) (frames_map fs)
  mode_map (AfterAlt p choices at fs) = AfterAlt p (v choices) at (frames_map fs)
  mode_map (AfterTake q t fs) = AfterTake q (x t) (frames_map fs)
  mode_map (TakeOpen q t fs) = TakeOpen q (x t) (frames_map fs)
  mode_map (TakeDots q t fs) = TakeDots q (x t) (frames_map fs)
  mode_map (TakeName t ns fs) = TakeName (x t) ns (frames_map fs)
  mode_map (TakeMore t ns fs) = TakeMore (x t) ns (frames_map fs)
  mode_map Stuck = Stuck

pub same_cond : {A D : Type 0} (k : A → D) (b : Bool) (x y : A) → cond b (k x) (k y) ≡ k (cond b x y)
same_cond k true x y = refl
same_cond k false x y = refl

module _ {X L F V Y M G W : Type 0} (B : Builder X L F V) (C : Builder Y M G W) (h : Map B C) where
  abbrev Stack : Type 0
  Stack = List (Frame X L F V)

  abbrev on_frame : Frame X L F V → Frame Y M G W
  on_frame = frame_map h.x h.l h.f h.v

  abbrev stack : Stack → List (Frame Y M G W)
  stack = frames_map h.x h.l h.f h.v

  abbrev mode : Mode X L F V → Mode Y M G W
  mode = mode_map h.x h.l h.f h.v

  same_hole : (f : Frame X L F V) → machine.hole C (on_frame f) ≡ machine.hole B f
  same_hole (InParen p) = refl
  same_hole (InTuple p ts) = refl
  same_hole (InField p boxed gs at) = refl
  same_hole (InAlt p choices at) = refl
  same_hole (InArgs p n args) = refl
  same_hole (InArrow a) = refl

  same_room : (fs : Stack) → machine.room C (stack fs) ≡ machine.room B fs
  same_room [] = refl
  same_room (f ∷ fs) = same_hole f

  same_closes : (f : Frame X L F V) → machine.closes C (on_frame f) ≡ machine.closes B f
  same_closes (InParen p) = refl
  same_closes (InTuple p ts) = refl
  same_closes (InField p boxed gs at) = refl
  same_closes (InAlt p choices at) = refl
  same_closes (InArgs p n args) = refl
  same_closes (InArrow a) = refl

  same_fill : (f : Frame X L F V) (t : X) → machine.fill C (on_frame f) (h.x t) ≡ h.x (machine.fill B f t)
  same_fill (InParen p) t = refl
  same_fill (InTuple p ts) t = refl
  same_fill (InField p boxed gs at) t = refl
  same_fill (InAlt p choices at) t = refl
  same_fill (InArgs p n args) t = ap (C.named p n) (sym (h.on_type args t)) ∙ sym (h.on_named p n (B.and_type args t))
  same_fill (InArrow a) t = sym (h.on_function a t)

  same_bare : (p : Place) (n : List ℕ) → machine.bare C p n ≡ h.x (machine.bare B p n)
  same_bare p n = ap (C.named p n) (sym h.on_no_types) ∙ sym (h.on_named p n B.no_types)

  -- a type and frames
  abbrev pair_map : X × Stack → Y × List (Frame Y M G W)
  pair_map r = (h.x r.0, stack r.1)

  same_closed : (k : ℕ) (fs : Stack) (t : X) → machine.closed C k (h.x t) (stack fs) ≡ pair_map (machine.closed B k t fs)
  same_closed k [] t = refl
  same_closed k (f ∷ fs) t =
      ap (λ c. cond (nat_le c k) (machine.closed C k (machine.fill C (on_frame f) (h.x t)) (stack fs)) (h.x t, stack (f ∷ fs))) (same_closes f)
      ∙ ap (λ u. cond (nat_le (machine.closes B f) k) (machine.closed C k u (stack fs)) (h.x t, stack (f ∷ fs))) (same_fill f t)
      ∙ ap (λ u. cond (nat_le (machine.closes B f) k) u (h.x t, stack (f ∷ fs))) (same_closed k fs (machine.fill B f t))
      ∙ same_cond pair_map (nat_le (machine.closes B f) k) (machine.closed B k (machine.fill B f t) fs) (t, f ∷ fs)

  -- equal types give equal modes
  new_alone : (y : Y) (t : X) (fs : Stack) → h.x t ≡ y → Alone y (stack fs) ≡ mode (Alone t fs)
  new_alone y t fs q = ap (λ u. Alone u (stack fs)) (sym q)

  new_taken : (y : Y) (t : X) (fs : Stack) → h.x t ≡ y → Taken y (stack fs) ≡ mode (Taken t fs)
  new_taken y t fs q = ap (λ u. Taken u (stack fs)) (sym q)

  same_on_close : (t : X) (fs : Stack) → machine.on_close C (h.x t) (stack fs) ≡ mode (machine.on_close B t fs)
  same_on_close t [] = refl
  same_on_close t (InParen p ∷ fs) = new_alone _ (B.paren p t) fs (h.on_paren p t)
  same_on_close t (InTuple p ts ∷ fs) = new_alone _ (B.tuple p (B.and_type ts t)) fs (h.on_tuple p (B.and_type ts t) ∙ ap (C.tuple p) (h.on_type ts t))
  same_on_close t (InField p boxed gs at ∷ fs) = refl
  same_on_close t (InAlt p choices at ∷ fs) = refl
  same_on_close t (InArgs p n args ∷ fs) = refl
  same_on_close t (InArrow a ∷ fs) = refl

  same_on_comma : (t : X) (fs : Stack) → machine.on_comma C (h.x t) (stack fs) ≡ mode (machine.on_comma B t fs)
  same_on_comma t [] = refl
  same_on_comma t (InParen p ∷ fs) = ap (λ ts. Want (InTuple p ts ∷ stack fs)) (ap (λ e. C.and_type e (h.x t)) (sym h.on_no_types) ∙ sym (h.on_type B.no_types t))
  same_on_comma t (InTuple p ts ∷ fs) = ap (λ us. Want (InTuple p us ∷ stack fs)) (sym (h.on_type ts t))
  same_on_comma t (InField p boxed gs at ∷ fs) = ap (λ us. WantField p boxed us (stack fs)) (sym (h.on_field gs at t))
  same_on_comma t (InAlt p choices at ∷ fs) = refl
  same_on_comma t (InArgs p n args ∷ fs) = refl
  same_on_comma t (InArrow a ∷ fs) = refl

  same_on_closing_brace : (t : X) (fs : Stack) → machine.on_closing_brace C (h.x t) (stack fs) ≡ mode (machine.on_closing_brace B t fs)
  same_on_closing_brace t [] = refl
  same_on_closing_brace t (InParen p ∷ fs) = refl
  same_on_closing_brace t (InTuple p ts ∷ fs) = refl
  same_on_closing_brace t (InField p boxed gs at ∷ fs) =
      new_alone _ (B.fields p boxed (B.and_field gs at t)) fs (h.on_fields p boxed (B.and_field gs at t) ∙ ap (C.fields p boxed) (h.on_field gs at t))
  same_on_closing_brace t (InAlt p choices at ∷ fs) = refl
  same_on_closing_brace t (InArgs p n args ∷ fs) = refl
  same_on_closing_brace t (InArrow a ∷ fs) = refl

  same_on_bar : (t : X) (fs : Stack) → machine.on_bar C (h.x t) (stack fs) ≡ mode (machine.on_bar B t fs)
  same_on_bar t [] = refl
  same_on_bar t (InParen p ∷ fs) = refl
  same_on_bar t (InTuple p ts ∷ fs) = refl
  same_on_bar t (InField p boxed gs at ∷ fs) = refl
  same_on_bar t (InAlt p choices at ∷ fs) = ap (λ us. WantAlt p us (stack fs)) (sym (h.on_alt choices at t))
  same_on_bar t (InArgs p n args ∷ fs) = refl
  same_on_bar t (InArrow a ∷ fs) = refl

  same_on_greater : (t : X) (fs : Stack) → machine.on_greater C (h.x t) (stack fs) ≡ mode (machine.on_greater B t fs)
  same_on_greater t [] = refl
  same_on_greater t (InParen p ∷ fs) = refl
  same_on_greater t (InTuple p ts ∷ fs) = refl
  same_on_greater t (InField p boxed gs at ∷ fs) = refl
  same_on_greater t (InAlt p choices at ∷ fs) =
      new_alone _ (B.variant p (B.and_alt choices at t)) fs (h.on_variant p (B.and_alt choices at t) ∙ ap (C.variant p) (h.on_alt choices at t))
  same_on_greater t (InArgs p n args ∷ fs) = refl
  same_on_greater t (InArrow a ∷ fs) = refl

  same_on_take : (p : Place) (t : X) (fs : Stack) → machine.on_take C p (h.x t) (stack fs) ≡ mode (machine.on_take B p t fs)
  same_on_take p t fs =
      ap (λ r. cond (nat_le 2 r) (AfterTake p (h.x t) (stack fs)) Stuck) (same_room fs)
      ∙ same_cond mode (nat_le 2 (machine.room B fs)) (AfterTake p t fs) Stuck

  same_on_arrow : (t : X) (fs : Stack) → machine.on_arrow C (h.x t) (stack fs) ≡ mode (machine.on_arrow B t fs)
  same_on_arrow t fs =
      ap (λ r. cond (nat_le 3 r) (Want (InArrow (h.x t) ∷ stack fs)) Stuck) (same_room fs)
      ∙ same_cond mode (nat_le 3 (machine.room B fs)) (Want (InArrow t ∷ fs)) Stuck

  same_on_end : (y : Symbol) (p : Place) (t : X) (fs : Stack) → machine.on_end C y p (h.x t) (stack fs) ≡ mode (machine.on_end B y p t fs)
  same_on_end take_word p t fs = same_on_take p t fs
  same_on_end arrow p t fs = same_on_arrow t fs
  same_on_end closing p t fs = same_on_close t fs
  same_on_end comma p t fs = same_on_comma t fs
  same_on_end closing_brace p t fs = same_on_closing_brace t fs
  same_on_end (bar first) p t fs = same_on_bar t fs
  same_on_end (greater joined) p t fs = same_on_greater t fs
  same_on_end y p t fs = refl

  same_go_past : (y : Symbol) (p : Place) (t : X) (fs : Stack) → machine.go_past C y p (h.x t) (stack fs) ≡ mode (machine.go_past B y p t fs)
  same_go_past y p t fs =
      ap (λ r. machine.on_end C y p r.0 r.1) (same_closed (strength y) fs t)
      ∙ same_on_end y p (machine.closed B (strength y) t fs).0 (machine.closed B (strength y) t fs).1

  same_on_empty : (fs : Stack) → machine.on_empty C (stack fs) ≡ mode (machine.on_empty B fs)
  same_on_empty [] = refl
  same_on_empty (InParen p ∷ fs) = new_alone _ (B.unit p) fs (h.on_unit p)
  same_on_empty (InTuple p ts ∷ fs) = refl
  same_on_empty (InField p boxed gs at ∷ fs) = refl
  same_on_empty (InAlt p choices at ∷ fs) = refl
  same_on_empty (InArgs p n args ∷ fs) = refl
  same_on_empty (InArrow a ∷ fs) = refl

  same_on_upper : (p : Place) (n : List ℕ) (fs : Stack) → machine.on_upper C p n (stack fs) ≡ mode (machine.on_upper B p n fs)
  same_on_upper p n fs =
      ap (λ r. cond (nat_le 1 r) (Head p n (stack fs)) (Alone (machine.bare C p n) (stack fs))) (same_room fs)
      ∙ ap (λ u. cond (nat_le 1 (machine.room B fs)) (Head p n (stack fs)) (Alone u (stack fs))) (same_bare p n)
      ∙ same_cond mode (nat_le 1 (machine.room B fs)) (Head p n fs) (Alone (machine.bare B p n) fs)

  same_start : (y : Symbol) (p : Place) (fs : Stack) → machine.start C y p (stack fs) ≡ mode (machine.start B y p fs)
  same_start (lower n) p fs = ap (λ u. Alone u (stack fs)) (same_bare p n)
  same_start (upper n) p fs = same_on_upper p n fs
  same_start opening p fs = refl
  same_start closing p fs = same_on_empty fs
  same_start brace p fs = ap (λ us. WantField p true us (stack fs)) (sym h.on_no_fields)
  same_start unboxed p fs = ap (λ us. WantField p false us (stack fs)) (sym h.on_no_fields)
  same_start (less joined) p fs = ap (λ us. WantAlt p us (stack fs)) (sym h.on_no_alts)
  same_start y p fs = refl

  same_next_argument : (y : Symbol) (p : Place) (t : X) (fs : Stack) → machine.next_argument C y p (h.x t) (stack fs) ≡ mode (machine.next_argument B y p t fs)
  same_next_argument y p t [] = refl
  same_next_argument y p t (InParen q ∷ fs) = refl
  same_next_argument y p t (InTuple q ts ∷ fs) = refl
  same_next_argument y p t (InField q boxed gs at ∷ fs) = refl
  same_next_argument y p t (InAlt q choices at ∷ fs) = refl
  same_next_argument y p t (InArgs q n args ∷ fs) =
      ap (λ us. machine.start C y p (InArgs q n us ∷ stack fs)) (sym (h.on_type args t)) ∙ same_start y p (InArgs q n (B.and_type args t) ∷ fs)
  same_next_argument y p t (InArrow a ∷ fs) = refl

  same_behind_alone : (y : Symbol) (p : Place) (t : X) (fs : Stack) → machine.behind_alone C y p (h.x t) (stack fs) ≡ mode (machine.behind_alone B y p t fs)
  same_behind_alone bang p t fs = new_alone _ (B.observed t) fs (h.on_observed t)
  same_behind_alone y p t fs = same_go_past y p t fs

  same_go_on : (y : Symbol) (p : Place) (t : X) (fs : Stack) → machine.go_on C y p (h.x t) (stack fs) ≡ mode (machine.go_on B y p t fs)
  same_go_on y p t fs =
      ap (λ m. cond (starts y) m (machine.behind_alone C y p (h.x t) (stack fs))) (same_next_argument y p t fs)
      ∙ ap (λ m. cond (starts y) (mode (machine.next_argument B y p t fs)) m) (same_behind_alone y p t fs)
      ∙ same_cond mode (starts y) (machine.next_argument B y p t fs) (machine.behind_alone B y p t fs)

  same_after_head : (y : Symbol) (p q : Place) (n : List ℕ) (fs : Stack) → machine.after_head C y p q n (stack fs) ≡ mode (machine.after_head B y p q n fs)
  same_after_head y p q n fs =
      ap (λ us. cond (starts y) (machine.start C y p (InArgs q n us ∷ stack fs)) (machine.behind_alone C y p (machine.bare C q n) (stack fs))) (sym h.on_no_types)
      ∙ ap (λ m. cond (starts y) m (machine.behind_alone C y p (machine.bare C q n) (stack fs))) (same_start y p (InArgs q n B.no_types ∷ fs))
      ∙ ap (λ u. cond (starts y) (mode (machine.start B y p (InArgs q n B.no_types ∷ fs))) (machine.behind_alone C y p u (stack fs))) (same_bare q n)
      ∙ ap (λ m. cond (starts y) (mode (machine.start B y p (InArgs q n B.no_types ∷ fs))) m) (same_behind_alone y p (machine.bare B q n) fs)
      ∙ same_cond mode (starts y) (machine.start B y p (InArgs q n B.no_types ∷ fs)) (machine.behind_alone B y p (machine.bare B q n) fs)

  same_field_name : (y : Symbol) (p q : Place) (boxed : Bool) (gs : F) (fs : Stack) → machine.field_name C y p q boxed (h.f gs) (stack fs) ≡ mode (machine.field_name B y p q boxed gs fs)
  same_field_name (lower n) p q boxed gs fs = refl
  same_field_name y p q boxed gs fs = refl

  same_field_type : (y : Symbol) (q : Place) (boxed : Bool) (gs : F) (at : At) (fs : Stack) → machine.field_type C y q boxed (h.f gs) at (stack fs) ≡ mode (machine.field_type B y q boxed gs at fs)
  same_field_type colon q boxed gs at fs = refl
  same_field_type y q boxed gs at fs = refl

  same_alt_name : (y : Symbol) (p q : Place) (choices : V) (fs : Stack) → machine.alt_name C y p q (h.v choices) (stack fs) ≡ mode (machine.alt_name B y p q choices fs)
  same_alt_name (upper n) p q choices fs = refl
  same_alt_name y p q choices fs = refl

  same_after_alt : (y : Symbol) (p q : Place) (choices : V) (at : At) (fs : Stack) → machine.after_alt C y p q (h.v choices) at (stack fs) ≡ mode (machine.after_alt B y p q choices at fs)
  same_after_alt (bar first) p q choices at fs = ap (λ us. WantAlt q us (stack fs)) (sym (h.on_plain choices at))
  same_after_alt (greater joined) p q choices at fs =
      new_alone _ (B.variant q (B.and_plain choices at)) fs (h.on_variant q (B.and_plain choices at) ∙ ap (C.variant q) (h.on_plain choices at))
  same_after_alt y p q choices at fs = same_start y p (InAlt q choices at ∷ fs)

  same_after_take : (y : Symbol) (q : Place) (t : X) (fs : Stack) → machine.after_take C y q (h.x t) (stack fs) ≡ mode (machine.after_take B y q t fs)
  same_after_take opening q t fs = refl
  same_after_take y q t fs = refl

  same_take_open : (y : Symbol) (p q : Place) (t : X) (fs : Stack) → machine.take_open C y p q (h.x t) (stack fs) ≡ mode (machine.take_open B y p q t fs)
  same_take_open dots p q t fs = refl
  same_take_open (lower n) p q t fs = refl
  same_take_open y p q t fs = refl

  same_take_dots : (y : Symbol) (q : Place) (t : X) (fs : Stack) → machine.take_dots C y q (h.x t) (stack fs) ≡ mode (machine.take_dots B y q t fs)
  same_take_dots closing q t fs = new_taken _ (B.take_all t q) fs (h.on_take_all t q)
  same_take_dots y q t fs = refl

  same_take_name : (y : Symbol) (t : X) (ns : List At) (fs : Stack) → machine.take_name C y (h.x t) ns (stack fs) ≡ mode (machine.take_name B y t ns fs)
  same_take_name comma t ns fs = refl
  same_take_name closing t ns fs = new_taken _ (B.take_some t ns) fs (h.on_take_some t ns)
  same_take_name y t ns fs = refl

  same_take_more : (y : Symbol) (p : Place) (t : X) (ns : List At) (fs : Stack) → machine.take_more C y p (h.x t) ns (stack fs) ≡ mode (machine.take_more B y p t ns fs)
  same_take_more (lower n) p t ns fs = refl
  same_take_more y p t ns fs = refl

  pub same_mode : (m : Mode X L F V) (y : Symbol) (p : Place) → machine.mode_step C (mode m) y p ≡ mode (machine.mode_step B m y p)
  same_mode (Want fs) y p = same_start y p fs
  same_mode (Alone t fs) y p = same_go_on y p t fs
  same_mode (Head q n fs) y p = same_after_head y p q n fs
  same_mode (Taken t fs) y p = same_go_past y p t fs
  same_mode (WantField q boxed gs fs) y p = same_field_name y p q boxed gs fs
  same_mode (AfterField q boxed gs at fs) y p = same_field_type y q boxed gs at fs
  same_mode (WantAlt q choices fs) y p = same_alt_name y p q choices fs
  same_mode (AfterAlt q choices at fs) y p = same_after_alt y p q choices at fs
  same_mode (AfterTake q t fs) y p = same_after_take y q t fs
  same_mode (TakeOpen q t fs) y p = same_take_open y p q t fs
  same_mode (TakeDots q t fs) y p = same_take_dots y q t fs
  same_mode (TakeName t ns fs) y p = same_take_name y t ns fs
  same_mode (TakeMore t ns fs) y p = same_take_more y p t ns fs
  same_mode Stuck y p = refl

  pub same_open : (m : Mode X L F V) → mode_is_open (mode m) ≡ mode_is_open m
  same_open (Want fs) = refl
  same_open (Alone t fs) = refl
  same_open (Head q n fs) = refl
  same_open (Taken t fs) = refl
  same_open (WantField q boxed gs fs) = refl
  same_open (AfterField q boxed gs at fs) = refl
  same_open (WantAlt q choices fs) = refl
  same_open (AfterAlt q choices at fs) = refl
  same_open (AfterTake q t fs) = refl
  same_open (TakeOpen q t fs) = refl
  same_open (TakeDots q t fs) = refl
  same_open (TakeName t ns fs) = refl
  same_open (TakeMore t ns fs) = refl
  same_open Stuck = refl

  same_whole : (t : X) (fs : Stack) → machine.whole C (h.x t) (stack fs) ≡ option_map h.x (machine.whole B t fs)
  same_whole t [] = refl
  same_whole t (f ∷ fs) = refl

  same_end_whole : (t : X) (fs : Stack) → machine.end_whole C (h.x t) (stack fs) ≡ option_map h.x (machine.end_whole B t fs)
  same_end_whole t fs =
      ap (λ r. machine.whole C r.0 r.1) (same_closed 3 fs t) ∙ same_whole (machine.closed B 3 t fs).0 (machine.closed B 3 t fs).1

  pub same_end : (m : Mode X L F V) → machine.mode_end C (mode m) ≡ option_map h.x (machine.mode_end B m)
  same_end (Want fs) = refl
  same_end (Alone t fs) = same_end_whole t fs
  same_end (Head q n fs) = ap (λ u. machine.end_whole C u (stack fs)) (same_bare q n) ∙ same_end_whole (machine.bare B q n) fs
  same_end (Taken t fs) = same_end_whole t fs
  same_end (WantField q boxed gs fs) = refl
  same_end (AfterField q boxed gs at fs) = refl
  same_end (WantAlt q choices fs) = refl
  same_end (AfterAlt q choices at fs) = refl
  same_end (AfterTake q t fs) = refl
  same_end (TakeOpen q t fs) = refl
  same_end (TakeDots q t fs) = refl
  same_end (TakeName t ns fs) = refl
  same_end (TakeMore t ns fs) = refl
  same_end Stuck = refl

-- what is no larger than allowed
abbrev kept : {A : Type 0} → (A → ℕ) → A → Option A
kept size a = cond (nat_le (size a) depth_limit) (Some a) None

-- where a part is too deep, a type that holds it is too
deep : (d : ℕ) (t : Written) → d < depth_of t → depth_limit < d → within t ≡ None
deep d t h k = rw (lt-leb (depth_of t) depth_limit (omega arith)) refl

one_within : {A : Type 0} (size : A → ℕ) (f : A → Written) (a : A) → size a < depth_of (f a) → within (f a) ≡ one f (kept size a)
one_within {A} size f a h = go (nat_le (size a) depth_limit) refl
  where
    go : (b : Bool) → nat_le (size a) depth_limit ≡ b → within (f a) ≡ one f (cond b (Some a) None)
    go true q = refl
    go false q = deep (size a) (f a) h (leb-false (size a) depth_limit q)

two_within : (f : Written → Written → Written) (a b : Written) → depth_of a < depth_of (f a b) → depth_of b < depth_of (f a b) → within (f a b) ≡ two f (within a) (within b)
two_within f a b h k = go (nat_le (depth_of a) depth_limit) (nat_le (depth_of b) depth_limit) refl refl
  where
    go : (x y : Bool) → nat_le (depth_of a) depth_limit ≡ x → nat_le (depth_of b) depth_limit ≡ y → within (f a b) ≡ two f (cond x (Some a) None) (cond y (Some b) None)
    go true true q r = refl
    go true false q r = deep (depth_of b) (f a b) k (leb-false (depth_of b) depth_limit r)
    go false y q r = deep (depth_of a) (f a b) h (leb-false (depth_of a) depth_limit q)

both_within : {A : Type 0} (size : A → ℕ) (f : A → Written → A) (a : A) (t : Written) → size (f a t) ≡ max (size a) (depth_of t) → kept size (f a t) ≡ both f (kept size a) (within t)
both_within {A} size f a t e = go (nat_le (size a) depth_limit) (nat_le (depth_of t) depth_limit) refl refl
  where
    go : (x y : Bool) → nat_le (size a) depth_limit ≡ x → nat_le (depth_of t) depth_limit ≡ y → kept size (f a t) ≡ both f (cond x (Some a) None) (cond y (Some t) None)
    go true true q r = rw (le-leb (size (f a t)) depth_limit (omega (arith, e, leb-true (size a) depth_limit q, leb-true (depth_of t) depth_limit r))) refl
    go true false q r = rw (lt-leb (size (f a t)) depth_limit (omega (arith, e, leb-false (depth_of t) depth_limit r))) refl
    go false y q r = rw (lt-leb (size (f a t)) depth_limit (omega (arith, e, leb-false (size a) depth_limit q))) refl

plain_within : (choices : WrittenAlts) (at : At) → alts_within (and_plain choices at) ≡ plain_more (alts_within choices) at
plain_within choices at = go (nat_le (alts_depth choices) depth_limit)
  where
    go : (b : Bool) → cond b (Some (and_plain choices at)) None ≡ plain_more (cond b (Some choices) None) at
    go true = refl
    go false = refl

-- whole types and those up to the depth
to_bounded : Map trees bounded
to_bounded = record {
  x = within;
  l = types_within;
  f = fields_within;
  v = alts_within;
  on_named = λ p n ts. one_within types_depth (named p n) ts (omega arith);
  on_unit = λ p. refl;
  on_paren = λ p t. one_within depth_of (paren p) t (omega arith);
  on_tuple = λ p ts. one_within types_depth (tuple p) ts (omega arith);
  on_function = λ a b. two_within arrow_at a b (omega arith) (omega arith);
  on_fields = λ p boxed gs. one_within fields_depth (fields p boxed) gs (omega arith);
  on_variant = λ p choices. one_within alts_depth (variant p) choices (omega arith);
  on_observed = λ t. one_within depth_of bang_at t (omega arith);
  on_take_some = λ t ns. one_within depth_of (take_some_at ns) t (omega arith);
  on_take_all = λ t q. one_within depth_of (take_all_at q) t (omega arith);
  on_no_types = refl;
  on_type = λ ts t. both_within types_depth and_type ts t refl;
  on_no_fields = refl;
  on_field = λ gs at t. both_within fields_depth (field_more at) gs t refl;
  on_no_alts = refl;
  on_plain = plain_within;
  on_alt = λ choices at t. both_within alts_depth (alt_more at) choices t refl;
}

-- the mode over bounded trees
abbrev pub held : Stage → Held
held = mode_map within types_within fields_within alts_within

-- what the one reader does, the other does with bounded trees
pub follows : Follows plain_reader bounded_reader held within
unfolding to_bounded
follows = record {
  begins = refl;
  steps = λ m t. same_mode trees bounded to_bounded m t.symbol t.place;
  opens = λ m. same_open trees bounded to_bounded m;
  finishes = λ m. same_end trees bounded to_bounded m;
}
