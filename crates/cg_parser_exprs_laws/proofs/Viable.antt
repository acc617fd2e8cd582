-- What is open can be completed, and what is shut stays shut.
use Rattle.std.proofs.Common.{◌≡◌, ℕ, List, [], ◌∷◌, ◌++◌, refl, sym, ◌∙◌, ap, true, false, Bool, Option, Some, None}
use Rattle.cg_base.specs.declared.place.Place.{Place}
use Rattle.cg_base.specs.Reader.{Reader, Reads}
use Rattle.cg_base.specs.Reader as readers
use Rattle.cg_surface.specs.Written.{Written, Writtens, and_type}
use Rattle.cg_surface.specs.Patterns.{Pattern}
use Rattle.cg_surface.specs.Exprs.{Expr, name, sig, Binds, Alts}
use Rattle.cg_parser_symbols.specs.Symbols.{Symbol, comma, closing, closing_bracket, equals, arrow, Seen}
use Rattle.cg_parser_symbols.specs.Readings.{ArePast}
use Rattle.cg_parser_exprs_def.specs.Asked.{Asked, Ends}
use Rattle.cg_parser_exprs_def.specs.Machine as machine
use Rattle.cg_parser_exprs_def.specs.Machine.{Open, Bound, Branch, Want, Have, AfterLower, AfterUpper, InArgs, InSig, AfterDot, WantField, AfterField, InPattern, AfterAngle, AfterBang, Observed, WantAlt, AfterCon, InAltPattern, WantArrow, Stuck, WrongBar}
use Rattle.cg_parser_build.specs.Plain.{trees}
use Rattle.cg_parser_exprs_def.specs.Plain.{plain_reader}
use Rattle.cg_parser_exprs_laws.proofs.Reached as reached
use Rattle.cg_parser_exprs_laws.proofs.Reached.{Frame, Came}
use Rattle.cg_parser_exprs_laws.proofs.Completed as completed
use Rattle.cg_parser_exprs_laws.proofs.Completed.{at}

-- what is left of a part, and a tree that comes of it
abbrev Left : {S Tree : Type 0} → Reader S Seen Tree → S → Type 0
Left {S} {Tree} R s = (more : List Seen) × ArePast more × (tree : Tree) × (R.finish (readers.run R s more) ≡ Some tree)

past_append : (ts more : List Seen) → ArePast ts → ArePast more → ArePast (ts ++ more)
past_append [] more a b = b
past_append (t ∷ ts) more a b = (a.0, past_append ts more a.1 b)

module _ {S Tree : Type 0} (R : Reader S Seen Tree) (Spells : List Seen → Tree → Type 0) (laws : Reads R Spells) where
  shut_for_ever : (ts : List Seen) (s : S) → R.is_open s ≡ false → R.is_open (readers.run R s ts) ≡ false
  shut_for_ever [] s h = h
  shut_for_ever (t ∷ ts) s h = shut_for_ever ts (R.step s t) (laws.shut s t h)

  -- where a tree comes of a state, it is open
  opened : (ts : List Seen) (s : S) (tree : Tree) → R.finish (readers.run R s ts) ≡ Some tree → R.is_open s ≡ true
  opened ts s tree e = go (R.is_open s) refl
    where
      go : (b : Bool) → R.is_open s ≡ b → R.is_open s ≡ true
      go true q = q
      go false q = let none : R.finish (readers.run R s ts) ≡ None = laws.no_tree (readers.run R s ts) (shut_for_ever ts s q) in cc

  left : Ends R → (s : S) → Came R s → R.is_open s ≡ true → Left R s
  left ends s c o =
      let e = ends c.0 (ap R.is_open (sym c.1) ∙ o) in (e.0, e.1, e.2, ap (λ x. R.finish (readers.run R x e.0)) c.1 ∙ e.3)

module _ {TS PS : Type 0} (types : Reader TS Seen Written) (patterns : Reader PS Seen Pattern) (OfType : List Seen → Written → Type 0) (OfPattern : List Seen → Pattern → Type 0)
    (asked : Asked TS PS types patterns OfType OfPattern) where
  abbrev Stage : Type 0
  Stage = reached.Stage types patterns

  abbrev run : Stage → List Seen → Stage
  run = reached.run types patterns

  abbrev step : Stage → Seen → Stage
  step m t = machine.mode_step types patterns trees m t.symbol t.place

  abbrev is_open : Stage → Bool
  is_open = machine.is_open types patterns trees

  abbrev finish : Stage → Option Expr
  finish = machine.mode_end types patterns trees

  abbrev Completable : Stage → Type 0
  Completable = completed.Completable types patterns

  -- a part takes each token that leaves it open
  abbrev Goes : {S Tree : Type 0} → Reader S Seen Tree → (S → Stage) → Type 0
  Goes {S} {Tree} R into = (s : S) (t : Seen) → R.is_open (R.step s t) ≡ true → step (into s) t ≡ into (R.step s t)

  along : {S Tree : Type 0} (R : Reader S Seen Tree) (Spells : List Seen → Tree → Type 0) (laws : Reads R Spells) (into : S → Stage) → Goes R into
      → (ts rest : List Seen) (s : S) (tree : Tree) → R.finish (readers.run R s ts) ≡ Some tree → run (into s) (ts ++ rest) ≡ run (into (readers.run R s ts)) rest
  along R Spells laws into goes [] rest s tree e = refl
  along R Spells laws into goes (t ∷ ts) rest s tree e =
      ap (λ m. run m (ts ++ rest)) (goes s t (opened R Spells laws ts (R.step s t) tree e)) ∙ along R Spells laws into goes ts rest (R.step s t) tree e

  -- a part with what is left of it, a token that ends it, and what completes the mode behind that
  ended : {S Tree : Type 0} (R : Reader S Seen Tree) (Spells : List Seen → Tree → Type 0) (laws : Reads R Spells) (into : S → Stage) → Goes R into
      → (y : Symbol) (to : Tree → Stage) → ((s : S) (tree : Tree) → R.finish s ≡ Some tree → step (into s) (at y) ≡ to tree) → ((tree : Tree) → Completable (to tree))
      → (s : S) → Left R s → Completable (into s)
  ended R Spells laws into goes y to ends next s l =
      let c = next l.2 in (
        l.0 ++ at y ∷ c.0,
        past_append l.0 (at y ∷ c.0) l.1 (refl, c.1),
        c.2,
        ap finish (along R Spells laws into goes l.0 (at y ∷ c.0) s l.2 l.3)
            ∙ ap (λ m. finish (run m c.0)) (ends (readers.run R s l.0) l.2 l.3)
            ∙ c.3,
      )

  -- type arguments
  more_goes : (q : Place) (n : List ℕ) (args : Writtens) (fs : List Frame) (s : TS) (p : Place) (o : Option Written) → types.finish s ≡ o → types.is_open (types.step s (record { symbol = comma; place = p })) ≡ true
      → machine.args_more types patterns trees q n args s (record { symbol = comma; place = p }) fs o ≡ InArgs q n args (types.step s (record { symbol = comma; place = p })) fs
  more_goes q n args fs s p None e o = refl
  more_goes q n args fs s p (Some u) e o = let no = asked.no_comma s u p e in cc

  args_end_goes : (q : Place) (n : List ℕ) (args : Writtens) (fs : List Frame) (s : TS) (p : Place) (o : Option Written) → types.finish s ≡ o → types.is_open (types.step s (record { symbol = closing_bracket; place = p })) ≡ true
      → machine.args_end types patterns trees q n args s (record { symbol = closing_bracket; place = p }) fs o ≡ InArgs q n args (types.step s (record { symbol = closing_bracket; place = p })) fs
  args_end_goes q n args fs s p None e o = refl
  args_end_goes q n args fs s p (Some u) e o = let no = asked.no_bracket s u p e in cc

  args_goes : (q : Place) (n : List ℕ) (args : Writtens) (fs : List Frame) (s : TS) (y : Symbol) (p : Place) → types.is_open (types.step s (record { symbol = y; place = p })) ≡ true
      → machine.in_args types patterns trees y p q n args s fs ≡ InArgs q n args (types.step s (record { symbol = y; place = p })) fs
  args_goes q n args fs s comma p o = more_goes q n args fs s p (types.finish s) refl o
  args_goes q n args fs s closing_bracket p o = args_end_goes q n args fs s p (types.finish s) refl o
  args_goes q n args fs s y p o = refl

  args_left : (q : Place) (n : List ℕ) (args : Writtens) (fs : List Frame) (s : TS) → Left types s → Completable (InArgs q n args s fs)
  args_left q n args fs s l =
      ended types OfType asked.type_laws (λ u. InArgs q n args u fs) (λ u t o. args_goes q n args fs u t.symbol t.place o) closing_bracket (λ t. Have (name q n (and_type args t)) fs)
      (λ u t e. ap (machine.args_end types patterns trees q n args u (at closing_bracket) fs) e) (λ t. completed.have_ends types patterns _ fs) s l

  -- the type of an annotation
  sig_end_goes : (q : Place) (e : Expr) (fs : List Frame) (s : TS) (p : Place) (o : Option Written) → types.finish s ≡ o → types.is_open (types.step s (record { symbol = closing; place = p })) ≡ true
      → machine.sig_end types patterns trees q e s (record { symbol = closing; place = p }) fs o ≡ InSig q e (types.step s (record { symbol = closing; place = p })) fs
  sig_end_goes q e fs s p None h o = refl
  sig_end_goes q e fs s p (Some u) h o = let no = asked.no_closing s u p h in cc

  sig_goes : (q : Place) (e : Expr) (fs : List Frame) (s : TS) (y : Symbol) (p : Place) → types.is_open (types.step s (record { symbol = y; place = p })) ≡ true
      → machine.in_sig types patterns trees y p q e s fs ≡ InSig q e (types.step s (record { symbol = y; place = p })) fs
  sig_goes q e fs s closing p o = sig_end_goes q e fs s p (types.finish s) refl o
  sig_goes q e fs s y p o = refl

  sig_left : (q : Place) (e : Expr) (fs : List Frame) (s : TS) → Left types s → Completable (InSig q e s fs)
  sig_left q e fs s l =
      ended types OfType asked.type_laws (λ u. InSig q e u fs) (λ u t o. sig_goes q e fs u t.symbol t.place o) closing (λ t. Have (sig q e t) fs)
      (λ u t h. ap (machine.sig_end types patterns trees q e u (at closing) fs) h) (λ t. completed.have_ends types patterns _ fs) s l

  -- the pattern of a binding
  pattern_end_goes : (q : Place) (bs : Binds) (fs : List Frame) (s : PS) (p : Place) (o : Option Pattern) → patterns.finish s ≡ o → patterns.is_open (patterns.step s (record { symbol = equals; place = p })) ≡ true
      → machine.pattern_end types patterns trees q bs s (record { symbol = equals; place = p }) fs o ≡ InPattern q bs (patterns.step s (record { symbol = equals; place = p })) fs
  pattern_end_goes q bs fs s p None h o = refl
  pattern_end_goes q bs fs s p (Some x) h o = let no = asked.no_equals s x p h in cc

  pattern_goes : (q : Place) (bs : Binds) (fs : List Frame) (s : PS) (y : Symbol) (p : Place) → patterns.is_open (patterns.step s (record { symbol = y; place = p })) ≡ true
      → machine.in_pattern types patterns trees y p q bs s fs ≡ InPattern q bs (patterns.step s (record { symbol = y; place = p })) fs
  pattern_goes q bs fs s equals p o = pattern_end_goes q bs fs s p (patterns.finish s) refl o
  pattern_goes q bs fs s y p o = refl

  pattern_left : (q : Place) (bs : Binds) (fs : List Frame) (s : PS) → Left patterns s → Completable (InPattern q bs s fs)
  pattern_left q bs fs s l =
      ended patterns OfPattern asked.pattern_laws (λ u. InPattern q bs u fs) (λ u t o. pattern_goes q bs fs u t.symbol t.place o) equals (λ x. Want (Bound q bs x ∷ fs))
      (λ u x h. ap (machine.pattern_end types patterns trees q bs u (at equals) fs) h) (λ x. completed.want_ends types patterns _) s l

  -- the pattern of an alternative
  alt_end_goes : (a : Open Expr Alts) (q : Place) (n : List ℕ) (fs : List Frame) (s : PS) (p : Place) (o : Option Pattern) → patterns.finish s ≡ o → patterns.is_open (patterns.step s (record { symbol = arrow; place = p })) ≡ true
      → machine.alt_end types patterns trees a q n s (record { symbol = arrow; place = p }) fs o ≡ InAltPattern a q n (patterns.step s (record { symbol = arrow; place = p })) fs
  alt_end_goes a q n fs s p None h o = refl
  alt_end_goes a q n fs s p (Some x) h o = let no = asked.no_arrow s x p h in cc

  alt_goes : (a : Open Expr Alts) (q : Place) (n : List ℕ) (fs : List Frame) (s : PS) (y : Symbol) (p : Place) → patterns.is_open (patterns.step s (record { symbol = y; place = p })) ≡ true
      → machine.in_alt_pattern types patterns trees y p a q n s fs ≡ InAltPattern a q n (patterns.step s (record { symbol = y; place = p })) fs
  alt_goes a q n fs s arrow p o = alt_end_goes a q n fs s p (patterns.finish s) refl o
  alt_goes a q n fs s y p o = refl

  alt_left : (a : Open Expr Alts) (q : Place) (n : List ℕ) (fs : List Frame) (s : PS) → Left patterns s → Completable (InAltPattern a q n s fs)
  alt_left a q n fs s l =
      ended patterns OfPattern asked.pattern_laws (λ u. InAltPattern a q n u fs) (λ u t o. alt_goes a q n fs u t.symbol t.place o) arrow (λ x. Want (Branch a q (Some n) x ∷ fs))
      (λ u x h. ap (machine.alt_end types patterns trees a q n u (at arrow) fs) h) (λ x. completed.want_ends types patterns _) s l

  -- each open mode whose part stands where tokens of its own lead it
  completable : (m : Stage) → reached.Reached types patterns m → is_open m ≡ true → Completable m
  completable (Want fs) r o = completed.want_ends types patterns fs
  completable (Have e fs) r o = completed.have_ends types patterns e fs
  completable (AfterLower q n fs) r o = completed.lower_ends types patterns q n fs
  completable (AfterUpper q n fs) r o = completed.upper_ends types patterns q n fs
  completable (InArgs q n args s fs) r o = args_left q n args fs s (left types OfType asked.type_laws asked.type_ends s r o)
  completable (InSig q e s fs) r o = sig_left q e fs s (left types OfType asked.type_laws asked.type_ends s r o)
  completable (AfterDot e fs) r o = completed.dot_ends types patterns e fs
  completable (WantField w gs fs) r o = completed.want_field_ends types patterns w gs fs
  completable (AfterField w gs n fs) r o = completed.field_ends types patterns w gs n fs
  completable (InPattern q bs s fs) r o = pattern_left q bs fs s (left patterns OfPattern asked.pattern_laws asked.pattern_ends s r o)
  completable (AfterAngle a q e fs) r o = completed.angle_ends types patterns a q e fs
  completable (AfterBang e seen fs) r o = completed.bang_ends types patterns e seen fs
  completable (Observed e seen fs) r o = completed.observed_ends types patterns e seen fs
  completable (WantAlt a fs) r o = completed.alt_ends types patterns a fs
  completable (AfterCon a q n fs) r o = completed.con_ends types patterns a q n fs
  completable (InAltPattern a q n s fs) r o = alt_left a q n fs s (left patterns OfPattern asked.pattern_laws asked.pattern_ends s r o)
  completable (WantArrow a q x fs) r o = completed.arrow_ends types patterns a q x fs
  completable Stuck r o = cc
  completable WrongBar r o = cc

  -- what is open can be completed by tokens past column 1
  pub viable_past : (ts : List Seen) → (plain_reader types patterns).is_open (readers.run (plain_reader types patterns) (Want []) ts) ≡ true
      → (rest : List Seen) × ArePast rest × (e : Expr) × ((plain_reader types patterns).finish (readers.run (plain_reader types patterns) (readers.run (plain_reader types patterns) (Want []) ts) rest) ≡ Some e)
  viable_past ts o = completable (run (Want []) ts) (reached.reached types patterns ts (Want []) tt) o

  -- what is shut has no end
  pub no_tree : (m : Stage) → is_open m ≡ false → finish m ≡ None
  no_tree (Want fs) h = cc
  no_tree (Have e fs) h = cc
  no_tree (AfterLower q n fs) h = cc
  no_tree (AfterUpper q n fs) h = cc
  no_tree m h = refl

  -- a part that is shut stays so, in type arguments, an annotation, a binding and an alternative
  more_shut : (q : Place) (n : List ℕ) (args : Writtens) (fs : List Frame) (s : TS) (t : Seen) (o : Option Written) → types.finish s ≡ o → types.is_open s ≡ false
      → is_open (machine.args_more types patterns trees q n args s t fs o) ≡ false
  more_shut q n args fs s t None e h = asked.type_laws.shut s t h
  more_shut q n args fs s t (Some u) e h = let none = asked.type_laws.no_tree s h in cc

  args_end_shut : (q : Place) (n : List ℕ) (args : Writtens) (fs : List Frame) (s : TS) (t : Seen) (o : Option Written) → types.finish s ≡ o → types.is_open s ≡ false
      → is_open (machine.args_end types patterns trees q n args s t fs o) ≡ false
  args_end_shut q n args fs s t None e h = asked.type_laws.shut s t h
  args_end_shut q n args fs s t (Some u) e h = let none = asked.type_laws.no_tree s h in cc

  args_shut : (y : Symbol) (p q : Place) (n : List ℕ) (args : Writtens) (s : TS) (fs : List Frame) → types.is_open s ≡ false → is_open (machine.in_args types patterns trees y p q n args s fs) ≡ false
  args_shut comma p q n args s fs h = more_shut q n args fs s _ (types.finish s) refl h
  args_shut closing_bracket p q n args s fs h = args_end_shut q n args fs s _ (types.finish s) refl h
  args_shut y p q n args s fs h = asked.type_laws.shut s (record { symbol = y; place = p }) h

  sig_end_shut : (q : Place) (e : Expr) (fs : List Frame) (s : TS) (t : Seen) (o : Option Written) → types.finish s ≡ o → types.is_open s ≡ false
      → is_open (machine.sig_end types patterns trees q e s t fs o) ≡ false
  sig_end_shut q e fs s t None f h = asked.type_laws.shut s t h
  sig_end_shut q e fs s t (Some u) f h = let none = asked.type_laws.no_tree s h in cc

  sig_shut : (y : Symbol) (p q : Place) (e : Expr) (s : TS) (fs : List Frame) → types.is_open s ≡ false → is_open (machine.in_sig types patterns trees y p q e s fs) ≡ false
  sig_shut closing p q e s fs h = sig_end_shut q e fs s _ (types.finish s) refl h
  sig_shut y p q e s fs h = asked.type_laws.shut s (record { symbol = y; place = p }) h

  pattern_end_shut : (q : Place) (bs : Binds) (fs : List Frame) (s : PS) (t : Seen) (o : Option Pattern) → patterns.finish s ≡ o → patterns.is_open s ≡ false
      → is_open (machine.pattern_end types patterns trees q bs s t fs o) ≡ false
  pattern_end_shut q bs fs s t None e h = asked.pattern_laws.shut s t h
  pattern_end_shut q bs fs s t (Some x) e h = let none = asked.pattern_laws.no_tree s h in cc

  pattern_shut : (y : Symbol) (p q : Place) (bs : Binds) (s : PS) (fs : List Frame) → patterns.is_open s ≡ false → is_open (machine.in_pattern types patterns trees y p q bs s fs) ≡ false
  pattern_shut equals p q bs s fs h = pattern_end_shut q bs fs s _ (patterns.finish s) refl h
  pattern_shut y p q bs s fs h = asked.pattern_laws.shut s (record { symbol = y; place = p }) h

  alt_end_shut : (a : Open Expr Alts) (q : Place) (n : List ℕ) (fs : List Frame) (s : PS) (t : Seen) (o : Option Pattern) → patterns.finish s ≡ o → patterns.is_open s ≡ false
      → is_open (machine.alt_end types patterns trees a q n s t fs o) ≡ false
  alt_end_shut a q n fs s t None e h = asked.pattern_laws.shut s t h
  alt_end_shut a q n fs s t (Some x) e h = let none = asked.pattern_laws.no_tree s h in cc

  alt_shut : (y : Symbol) (p : Place) (a : Open Expr Alts) (q : Place) (n : List ℕ) (s : PS) (fs : List Frame) → patterns.is_open s ≡ false → is_open (machine.in_alt_pattern types patterns trees y p a q n s fs) ≡ false
  alt_shut arrow p a q n s fs h = alt_end_shut a q n fs s _ (patterns.finish s) refl h
  alt_shut y p a q n s fs h = asked.pattern_laws.shut s (record { symbol = y; place = p }) h

  -- what is shut stays shut
  pub shut : (m : Stage) (t : Seen) → is_open m ≡ false → is_open (step m t) ≡ false
  shut (InArgs q n args s fs) t h = args_shut t.symbol t.place q n args s fs h
  shut (InSig q e s fs) t h = sig_shut t.symbol t.place q e s fs h
  shut (InPattern q bs s fs) t h = pattern_shut t.symbol t.place q bs s fs h
  shut (InAltPattern a q n s fs) t h = alt_shut t.symbol t.place a q n s fs h
  shut Stuck t h = refl
  shut WrongBar t h = refl
  shut m t h = cc
