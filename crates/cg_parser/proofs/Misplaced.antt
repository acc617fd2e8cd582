-- A bar at a wrong column in a body: what is read there, and what shuts the machine there.
use Rattle.std.proofs.Common.{◌≡◌, List, [], refl, sym, ◌∙◌, ap, true, false, Bool, cond, ℕ, Option, Some, None}
use Rattle.cg_base.specs.declared.kind.Bound.{Bound}
use Rattle.cg_base.specs.declared.place.Place.{Place}
use Rattle.cg_base.specs.Reader.{Reader}
use Rattle.cg_base.specs.Reader as readers
use Rattle.cg_core.specs.declared.at.At.{At}
use Rattle.cg_surface.specs.Written.{Written}
use Rattle.cg_surface.specs.Patterns.{Pattern}
use Rattle.cg_surface.specs.Exprs.{Expr}
use Rattle.cg_surface.specs.Programs.{Entry}
use Rattle.cg_parser_symbols.specs.Symbols.{Symbol, lower, upper, type_word, all_word, opening, closing, colon, has_kinds, equals, comma, dot, Seen, is_first}
use Rattle.cg_parser_symbols.specs.Readings.{◌then◌, head, inner_sign, IsPart}
use Rattle.cg_parser_def.specs.Grammar.{are_letters, kinds_of, bound, ReadsProgram}
use Rattle.cg_parser_def.specs.Machine.{State, Between, AfterType, InParams, InSynonym, AfterName, AfterColon, AfterAll, WantVar, AfterVar, WantKinds, AfterKinds, WantDot, InSignature, InParam, InBody, Failed}
use Rattle.cg_parser_def.specs.Machine as machine
use Rattle.cg_parser_def.specs.Plain.{entries}
use Rattle.cg_parser.proofs.Complete as complete
use Rattle.cg_parser.proofs.Complete.{Parts}
use Rattle.cg_parser.proofs.Sound as sound
use Rattle.cg_base.proofs.Spans.{either_way as choose}

module _ {TS PS XS : Type 0} (types : Reader TS Seen Written) (patterns : Reader PS Seen Pattern) (exprs : Reader XS Seen Expr)
    (OfType : List Seen → Written → Type 0) (OfPattern : List Seen → Pattern → Type 0) (OfExpr : List Seen → Expr → Type 0)
    (parts : Parts TS PS XS types patterns exprs OfType OfPattern OfExpr)
    (IsWrong : List Seen → Seen → Type 0) (is_wrong : XS → Bool)
    (wrong_is : (ts : List Seen) (t : Seen) → exprs.is_open (readers.run exprs exprs.begin ts) ≡ true → is_wrong (exprs.step (readers.run exprs exprs.begin ts) t) ≡ true → IsWrong ts t)
    (wrong_told : (ts : List Seen) (t : Seen) → IsWrong ts t → is_wrong (exprs.step (readers.run exprs exprs.begin ts) t) ≡ true)
    (begins_right : is_wrong exprs.begin ≡ false) where
  abbrev Stage : Type 0
  Stage = State TS PS XS Pattern (List Entry)

  -- whether a body is shut by a bar at a wrong column
  abbrev pub is_misplaced : Stage → Bool
  is_misplaced (InBody done h x s) = is_wrong s
  is_misplaced m = false

  abbrev step : Stage → Seen → Stage
  step = machine.step types patterns exprs entries

  abbrev inside : Stage → Seen → Stage
  inside m t = machine.inside types patterns exprs entries m t.symbol t.place

  abbrev run : Stage → List Seen → Stage
  run = complete.run types patterns exprs OfType OfPattern OfExpr parts

  abbrev StageRead : Stage → List Seen → List Seen → Type 0
  StageRead = sound.StageRead types patterns exprs OfType OfPattern OfExpr parts

  -- what is said of it: a definition begins behind items, and such a bar stands in its body
  pub record Stands (front : List Seen) (t : Seen) : Type 0 where
    pub done : List Entry
    pub at : At
    pub param : Pattern
    pub past : is_first t.place ≡ false
    pub read : (ReadsProgram OfType OfPattern OfExpr done then head (lower at.name) at.place then IsPart OfPattern param then inner_sign equals then IsPart IsWrong t) front []

  -- ---- where it shuts the machine, it stands there

  head_none : (o : Option (List Entry)) (y : Symbol) (p : Place) → is_misplaced (machine.on_head types patterns exprs entries o y p) ≡ false
  head_none (Some done) (lower n) p = refl
  head_none (Some done) type_word p = refl
  head_none (Some done) _ p = refl
  head_none None y p = refl

  type_none : (done : List Entry) (y : Symbol) (p : Place) → is_misplaced (machine.after_type types patterns exprs entries done y p) ≡ false
  type_none done (upper n) p = refl
  type_none done _ p = refl

  params_none : (done : List Entry) (h : At) (params : List At) (y : Symbol) (p : Place) → is_misplaced (machine.in_params types patterns exprs entries done h params y p) ≡ false
  params_none done h params (lower n) p = refl
  params_none done h params equals p = refl
  params_none done h params _ p = refl

  name_none : (done : List Entry) (h : At) (y : Symbol) (p : Place) → is_misplaced (machine.after_name types patterns exprs entries done h y p) ≡ false
  name_none done h colon p = refl
  name_none done h _ p = refl

  colon_none : (done : List Entry) (h : At) (y : Symbol) (p : Place) → is_misplaced (machine.after_colon types patterns exprs entries done h y p) ≡ false
  colon_none done h all_word p = refl
  colon_none done h _ p = refl

  all_none : (done : List Entry) (h : At) (y : Symbol) (p : Place) → is_misplaced (machine.after_all types patterns exprs entries done h y p) ≡ false
  all_none done h (lower n) p = refl
  all_none done h opening p = refl
  all_none done h _ p = refl

  want_none : (done : List Entry) (h : At) (vs : List Bound) (ps : List Place) (y : Symbol) (p : Place) → is_misplaced (machine.want_var types patterns exprs entries done h vs ps y p) ≡ false
  want_none done h vs ps (lower n) p = refl
  want_none done h vs ps _ p = refl

  var_none : (done : List Entry) (h : At) (vs : List Bound) (ps : List Place) (n : List ℕ) (q : Place) (y : Symbol) → is_misplaced (machine.after_var types patterns exprs entries done h vs ps n q y) ≡ false
  var_none done h vs ps n q has_kinds = refl
  var_none done h vs ps n q comma = refl
  var_none done h vs ps n q closing = refl
  var_none done h vs ps n q _ = refl

  bound_none : (done : List Entry) (h : At) (vs : List Bound) (ps : List Place) (v : Bound) (q : Place) (y : Symbol) → is_misplaced (machine.after_kinds types patterns exprs entries done h vs ps v q y) ≡ false
  bound_none done h vs ps v q comma = refl
  bound_none done h vs ps v q closing = refl
  bound_none done h vs ps v q _ = refl

  kinds_none : (done : List Entry) (h : At) (vs : List Bound) (ps : List Place) (n : List ℕ) (q : Place) (y : Symbol) → is_misplaced (machine.want_kinds types patterns exprs entries done h vs ps n q y) ≡ false
  kinds_none done h vs ps n q (upper letters) = choose (λ m. is_misplaced m ≡ false) (are_letters letters) (AfterKinds done h vs ps (bound n (kinds_of letters)) q) Failed (λ e. refl) (λ e. refl)
  kinds_none done h vs ps n q _ = refl

  dot_none : (done : List Entry) (h : At) (vs : List Bound) (ps : List Place) (y : Symbol) → is_misplaced (machine.want_dot types patterns exprs entries done h vs ps y) ≡ false
  dot_none done h vs ps dot = refl
  dot_none done h vs ps _ = refl

  equals_none : (done : List Entry) (h : At) (s : PS) (p : Place) (o : Option Pattern) → is_misplaced (machine.on_equals types patterns exprs entries done h s p o) ≡ false
  equals_none done h s p None = refl
  equals_none done h s p (Some x) = begins_right

  param_none : (done : List Entry) (h : At) (s : PS) (y : Symbol) (p : Place) → is_misplaced (machine.in_param types patterns exprs entries done h s y p) ≡ false
  param_none done h s equals p = equals_none done h s p (patterns.finish s)
  param_none done h s _ p = refl

  -- in a body
  in_body : (front : List Seen) (t : Seen) (done : List Entry) (h : At) (x : Pattern) (s : XS) → is_first t.place ≡ false → StageRead (InBody done h x s) front [] → exprs.is_open s ≡ true
      → is_wrong (exprs.step s t) ≡ true → Stands front t
  in_body front t done h x s past r o w =
      let u = r.2 in let v = u.2 in let y = v.2 in let body = y.2 in
      record {
        done = done;
        at = h;
        param = x;
        past = past;
        read = (
          r.0,
          r.1,
          (
            u.0,
            u.1,
            (
              v.0,
              v.1,
              (
                y.0,
                y.1,
                record {
                  front = body.front;
                  past = body.past;
                  parts = body.parts;
                  spelled = wrong_is body.front t (ap exprs.is_open (sym body.state) ∙ o) (ap (λ e. is_wrong (exprs.step e t)) (sym body.state) ∙ w);
                },
              ),
            ),
          ),
        );
      }

  none_there : (A : Type 0) (b : Bool) → b ≡ true → b ≡ false → A
  none_there A b is_so is_not = cc

  past_one : (front : List Seen) (m : Stage) (t : Seen) → is_first t.place ≡ false → StageRead m front [] → machine.is_open types patterns exprs entries m ≡ true → is_misplaced (inside m t) ≡ true → Stands front t
  past_one front (Between done) t past r o w = cc
  past_one front (AfterType done) t past r o w = none_there _ _ w (type_none done t.symbol t.place)
  past_one front (InParams done h params) t past r o w = none_there _ _ w (params_none done h params t.symbol t.place)
  past_one front (InSynonym done h params s) t past r o w = cc
  past_one front (AfterName done h) t past r o w = none_there _ _ w (name_none done h t.symbol t.place)
  past_one front (AfterColon done h) t past r o w = none_there _ _ w (colon_none done h t.symbol t.place)
  past_one front (AfterAll done h) t past r o w = none_there _ _ w (all_none done h t.symbol t.place)
  past_one front (WantVar done h vs ps) t past r o w = none_there _ _ w (want_none done h vs ps t.symbol t.place)
  past_one front (AfterVar done h vs ps n q) t past r o w = none_there _ _ w (var_none done h vs ps n q t.symbol)
  past_one front (WantKinds done h vs ps n q) t past r o w = none_there _ _ w (kinds_none done h vs ps n q t.symbol)
  past_one front (AfterKinds done h vs ps v q) t past r o w = none_there _ _ w (bound_none done h vs ps v q t.symbol)
  past_one front (WantDot done h vs ps) t past r o w = none_there _ _ w (dot_none done h vs ps t.symbol)
  past_one front (InSignature done h vs ps s) t past r o w = cc
  past_one front (InParam done h s) t past r o w = none_there _ _ w (param_none done h s t.symbol t.place)
  past_one front (InBody done h x s) t past r o w = in_body front t done h x s past r o w
  past_one front Failed t past r o w = cc

  pub stands_there : (front : List Seen) (t : Seen) → machine.is_open types patterns exprs entries (run (Between []) front) ≡ true → is_misplaced (step (run (Between []) front) t) ≡ true → Stands front t
  stands_there front t o w = go (is_first t.place) refl w
    where
      m : Stage
      m = run (Between []) front

      go : (b : Bool) → is_first t.place ≡ b → is_misplaced (cond b (machine.on_head types patterns exprs entries (machine.finish types patterns exprs entries (run (Between []) front)) t.symbol t.place) (inside (run (Between []) front) t)) ≡ true → Stands front t
      go true first h = none_there _ _ h (head_none (machine.finish types patterns exprs entries (run (Between []) front)) t.symbol t.place)
      go false past h = past_one front (run (Between []) front) t past (sound.begin_holds types patterns exprs OfType OfPattern OfExpr parts front) o h

  -- ---- where it stands, it shuts the machine
  pub shuts_there : (front : List Seen) (t : Seen) → Stands front t → is_misplaced (step (run (Between []) front) t) ≡ true
  shuts_there front t w =
      let r = w.read in let u = r.2 in let v = u.2 in let y = v.2 in let body = y.2 in
      let there : run (Between []) front ≡ InBody w.done w.at w.param (readers.run exprs exprs.begin body.front) =
      complete.body_reads types patterns exprs OfType OfPattern OfExpr parts w.done w.at w.param front y.0 (r.0, r.1, (u.0, u.1, (v.0, v.1, y.1)))
      ∙ ap (run (InBody w.done w.at w.param exprs.begin)) body.parts
      ∙ complete.body_along types patterns exprs OfType OfPattern OfExpr parts w.done w.at w.param body.front [] exprs.begin body.past in
      ap (λ m. is_misplaced (step m t)) there
      ∙ ap (λ b. is_misplaced (cond b (machine.on_head types patterns exprs entries (machine.finish types patterns exprs entries (InBody w.done w.at w.param (readers.run exprs exprs.begin body.front))) t.symbol t.place) (inside (InBody w.done w.at w.param (readers.run exprs exprs.begin body.front)) t))) w.past
      ∙ wrong_told body.front t body.spelled
