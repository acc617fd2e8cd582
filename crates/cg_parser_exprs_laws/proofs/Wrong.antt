-- The machine is at a bar that belongs nowhere exactly where there is one.
use Rattle.std.proofs.Common.{◌≡◌, ℕ, List, [], ◌∷◌, refl, subst, ◌∙◌, ap, arith, true, false, Bool}
use Rattle.std.proofs.lemmas.Bool.{le-leb}
use Rattle.cg_base.specs.declared.place.Place.{Place}
use Rattle.cg_base.specs.Reader.{Reader}
use Rattle.cg_core.specs.declared.at.At.{At}
use Rattle.cg_surface.specs.Written.{Written, no_types}
use Rattle.cg_surface.specs.Patterns.{Pattern}
use Rattle.cg_surface.specs.Exprs.{Expr, name, con}
use Rattle.cg_parser_symbols.specs.Symbols.{Symbol, Seen, bar, less}
use Rattle.cg_parser_symbols.specs.Readings.{Reading, ◌then◌}
use Rattle.cg_parser_exprs_def.specs.Asked.{Asked}
use Rattle.cg_parser_exprs_def.specs.Bars.{Wrong, bar_choice}
use Rattle.cg_parser_exprs_def.specs.Grammar.{level}
use Rattle.cg_parser_exprs_def.specs.Machine as machine
use Rattle.cg_parser_exprs_def.specs.Machine.{Argument, Payload, Operand, RightOf, ToLeft, Want, Have, AfterLower, AfterUpper, AfterAngle, Observed, WrongBar}
use Rattle.cg_parser_build.specs.Plain.{trees}
use Rattle.cg_parser_exprs_def.specs.Unfinished as unfinished
use Rattle.cg_parser_exprs_def.specs.Unfinished.{Frame}
use Rattle.cg_parser_exprs_laws.proofs.CompleteSteps.{level_high, first}
use Rattle.cg_parser_exprs_laws.proofs.CompleteModes as modes
use Rattle.cg_parser_exprs_laws.proofs.CompleteParts.{seen_read}
use Rattle.cg_parser_exprs_laws.proofs.Complete.{reads}
use Rattle.cg_parser_exprs_laws.proofs.SoundStates as states
use Rattle.cg_parser_exprs_laws.proofs.SoundFrames.{atom_behind}
use Rattle.cg_parser_exprs_laws.proofs.Sound.{begin_holds}
use Rattle.cg_parser_exprs_laws.proofs.Viable as viable
use Rattle.cg_parser_exprs_laws.proofs.WrongReads.{next_of, or_none, below_reads}
use Rattle.cg_parser_exprs_laws.proofs.WrongSteps as steps

module _ {TS PS : Type 0} (types : Reader TS Seen Written) (patterns : Reader PS Seen Pattern) (OfType : List Seen → Written → Type 0) (OfPattern : List Seen → Pattern → Type 0)
    (asked : Asked TS PS types patterns OfType OfPattern) where
  abbrev Stage : Type 0
  Stage = modes.Stage types patterns

  abbrev closed : ℕ → Expr → List Frame → Expr × List Frame
  closed = modes.closed types patterns

  abbrev fill : Frame → Expr → Expr
  fill = modes.fill types patterns

  abbrev room : List Frame → ℕ
  room = modes.room types patterns

  abbrev opens : List Frame → List ℕ
  opens = modes.opens types patterns

  abbrev mode_step : Stage → Symbol → Place → Stage
  mode_step = modes.mode_step types patterns

  abbrev run : Stage → List Seen → Stage
  run = modes.run types patterns

  abbrev observing : Stage → Expr × List Frame → List At → Stage
  observing = modes.observing types patterns

  abbrev Behind : Expr → List Frame → List ℕ → Stage → Type 0
  Behind = modes.Behind types patterns

  abbrev IsWrongBar : List Seen → Seen → Type 0
  IsWrongBar = unfinished.IsWrongBar OfType OfPattern

  abbrev Read : Expr → List ℕ → List ℕ → Reading
  Read = unfinished.Read OfType OfPattern

  abbrev SeenRead : List At → Reading
  SeenRead = unfinished.SeenRead OfType OfPattern

  abbrev Below : List Frame → Reading
  Below = unfinished.Below OfType OfPattern

  abbrev Holds : List Seen → List Seen → Stage → Type 0
  Holds = states.Holds types patterns OfType OfPattern

  abbrev is_open : Stage → Bool
  is_open = machine.is_open types patterns trees

  abbrev step : Stage → Seen → Stage
  step m t = mode_step m t.symbol t.place

  -- what closes before observed variables opens no match
  closed_opens : (fs : List Frame) (e : Expr) → opens (closed 11 e fs).1 ≡ opens fs
  closed_opens [] e = refl
  closed_opens (Argument f ∷ fs) e = closed_opens fs (fill (Argument f) e)
  closed_opens (Payload p n ∷ fs) e = closed_opens fs (fill (Payload p n) e)
  closed_opens (Operand p o ∷ fs) e = closed_opens fs (fill (Operand p o) e)
  closed_opens (RightOf p o a ∷ fs) e = rw (le-leb (level o) 11 (level_high o)) (closed_opens fs (fill (RightOf p o a) e))
  closed_opens (f ∷ fs) e = refl

  -- a bar behind an expression and what is observed, at a wrong column
  bar_wrong : (e : Expr) (fs : List Frame) (to : List ℕ) (m : Stage) (b : Behind e fs to m) (seen : List At) (p : Place) → bar_choice true p.column to ≡ Wrong
      → mode_step (observing m (closed 11 b.inner b.frames) seen) (bar true) p ≡ WrongBar
  bar_wrong e fs to m b [] p w =
      b.past (bar true) p refl ∙ ap (λ c. modes.on_choice types patterns c p.column [] b.inner b.frames) (ap (bar_choice true p.column) b.open_at ∙ w)
  bar_wrong e fs to m b (n ∷ ns) p w =
      let r = closed 11 b.inner b.frames in
      ap (λ c. modes.on_choice types patterns c p.column (n ∷ ns) r.0 r.1) (ap (bar_choice true p.column) (closed_opens b.frames b.inner ∙ b.open_at) ∙ w)

  -- behind an expression the machine is open
  not_shut : (m : Stage) (e : Expr) (fs : List Frame) (p : Place) (b : Bool) → is_open m ≡ b → mode_step m (less true) p ≡ AfterAngle ToLeft p e fs → is_open m ≡ true
  not_shut m e fs p true q h = q
  not_shut m e fs p false q h =
      let no : is_open (mode_step m (less true) p) ≡ false = viable.shut types patterns OfType OfPattern asked m (record { symbol = less true; place = p }) q in
      let yes : is_open (mode_step m (less true) p) ≡ true = ap is_open h in cc

  behind_open : (e : Expr) (fs : List Frame) (to : List ℕ) (m : Stage) (b : Behind e fs to m) (seen : List At) → Place → is_open (observing m (closed 11 b.inner b.frames) seen) ≡ true
  behind_open e fs to m b [] p = not_shut m b.inner b.frames p (is_open m) refl (b.past (less true) p refl)
  behind_open e fs to m b (n ∷ ns) p = refl

  -- what is read before a wrong bar leads to a mode behind an expression and what is observed
  before : (ts : List Seen) (t : Seen) (w : IsWrongBar ts t) → (m : Stage) × (b : Behind w.e w.frames w.to m) × (run (Want []) ts ≡ observing m (closed 11 b.inner b.frames) w.seen)
  before ts t w =
      let r = w.read in let k = r.2 in
      let m = reads types patterns OfType OfPattern asked w.e w.frames w.to r.0 k.0 w.binds (or_none (room w.frames) w.stands) w.loose k.1 in (
        m.0,
        m.1,
        below_reads types patterns OfType OfPattern asked w.frames ts r.0 w.good (next_of w.e (room w.frames) r.0 w.loose (first OfType OfPattern w.e (opens w.frames) w.to r.0 k.0 w.binds k.1)) r.1
            ∙ m.2
            ∙ seen_read types patterns OfType OfPattern asked w.e w.frames w.to m.0 m.1 w.seen k.0 [] k.2,
      )

  -- at a wrong bar the machine says so
  pub is_wrong : (ts : List Seen) (t : Seen) → IsWrongBar ts t → step (run (Want []) ts) t ≡ WrongBar
  is_wrong ts t w =
      let m = before ts t w in
      ap (λ x. step x t) m.2
      ∙ ap (λ y. mode_step (observing m.0 (closed 11 m.1.inner m.1.frames) w.seen) y t.place) w.bar
      ∙ bar_wrong w.e w.frames w.to m.0 m.1 w.seen t.place w.wrong

  -- and it is open before that
  pub open_before : (ts : List Seen) (t : Seen) → IsWrongBar ts t → is_open (run (Want []) ts) ≡ true
  open_before ts t w = let m = before ts t w in ap is_open m.2 ∙ behind_open w.e w.frames w.to m.0 m.1 w.seen t.place

  -- a bar that is not first on its line always belongs somewhere
  inner_bar : (c : ℕ) (os : List ℕ) → bar_choice false c os ≡ Wrong → ⊥
  inner_bar c [] h = cc
  inner_bar c (o ∷ os) h = cc

  -- a bar behind an expression and what is observed, at a wrong column, is a wrong one
  told : (ts : List Seen) (t : Seen) (k : ℕ) (e : Expr) (fs : List Frame) (seen : List At) → states.Behind types patterns OfType OfPattern k e fs → (Below fs then Read e (opens fs) (opens fs) then SeenRead seen) ts []
      → (first : Bool) → t.symbol ≡ bar first → bar_choice first t.place.column (opens fs) ≡ Wrong → IsWrongBar ts t
  told ts t k e fs seen b r true y w =
      record { frames = fs; e = e; to = opens fs; seen = seen; good = b.4; loose = b.1; stands = b.2; binds = b.3; read = r; bar = y; wrong = w }
  told ts t k e fs seen b r false y w = absurd (inner_bar t.place.column (opens fs) w)

  -- each open mode tells of it
  tells : (ts : List Seen) (t : Seen) (m : Stage) → Holds ts [] m → is_open m ≡ true → steps.Needs types patterns (IsWrongBar ts t) m t.symbol t.place
  tells ts t (Have e fs) h o = let r = h.read in told ts t 0 e fs [] (atom_behind types patterns OfType OfPattern e fs h.sound.0 h.sound.1) (r.0, r.1, ([], r.2, refl))
  tells ts t (AfterLower q n fs) h o = let r = h.read in told ts t 0 (name q n no_types) fs [] (omega arith, omega arith, λ k. tt, tt, h.sound) (r.0, r.1, ([], (refl, (_, r.2, refl)), refl))
  tells ts t (AfterUpper q n fs) h o = let r = h.read in told ts t 0 (con q n) fs [] (omega arith, omega arith, λ k. tt, tt, h.sound.1) (r.0, r.1, ([], (refl, r.2), refl))
  tells ts t (Observed e seen fs) h o = told ts t 11 e fs seen h.sound h.read
  tells ts t WrongBar h o = cc
  tells ts t m h o = tt

  -- where the machine says so first, there is a wrong bar
  pub wrong_is : (ts : List Seen) (t : Seen) → is_open (run (Want []) ts) ≡ true → step (run (Want []) ts) t ≡ WrongBar → IsWrongBar ts t
  wrong_is ts t o q =
      let m = run (Want []) ts in
      let P : Stage → Type 0 = steps.Tells types patterns (IsWrongBar ts t) in
      subst P q (steps.step_tells types patterns (IsWrongBar ts t) m t.symbol t.place (tells ts t m (begin_holds types patterns OfType OfPattern asked ts) o))
