-- The machine reads types, patterns and observed variables where the tokens spell them.
use Rattle.std.proofs.Common.{◌≡◌, ⊎_elim, ℕ, List, [], ◌∷◌, ◌++◌, refl, sym, ◌∙◌, ap, true, Option, Some, None, append_assoc}
use Rattle.std.proofs.lemmas.List.{append-nil}
use Rattle.cg_base.specs.declared.place.Place.{Place}
use Rattle.cg_base.specs.Reader.{Reader, Reads}
use Rattle.cg_base.specs.Reader as readers
use Rattle.cg_core.specs.declared.at.At.{At}
use Rattle.cg_surface.specs.Written.{Written, Writtens, no_types, and_type}
use Rattle.cg_surface.specs.Patterns.{Pattern}
use Rattle.cg_surface.specs.Patterns as forms
use Rattle.cg_surface.specs.Exprs.{Expr, name, sig, Binds as Bindings, Alts}
use Rattle.cg_parser_symbols.specs.Symbols.{Symbol, Seen, lower, upper, closing, bracket, closing_bracket, comma, bang, equals, arrow, wildcard}
use Rattle.cg_parser_symbols.specs.Readings.{sign, IsSpelled}
use Rattle.cg_parser_exprs_def.specs.Asked.{Asked}
use Rattle.cg_parser_exprs_def.specs.Grammar as grammar
use Rattle.cg_parser_exprs_def.specs.Machine as machine
use Rattle.cg_parser_exprs_def.specs.Machine.{Open, Bound, Branch, Want, Have, AfterLower, InArgs, InSig, InPattern, AfterBang, Observed, WantAlt, AfterCon, InAltPattern, WantArrow}
use Rattle.cg_parser_build.specs.Plain.{trees}
use Rattle.cg_parser_exprs_laws.proofs.CompleteSteps.{opened}
use Rattle.cg_parser_exprs_laws.proofs.CompleteModes as modes
use Rattle.cg_parser_exprs_laws.proofs.CompleteModes.{Frame, seen_at, go}

module _ {TS PS : Type 0} (types : Reader TS Seen Written) (patterns : Reader PS Seen Pattern) (OfType : List Seen → Written → Type 0) (OfPattern : List Seen → Pattern → Type 0)
    (asked : Asked TS PS types patterns OfType OfPattern) where
  -- the machine over whole trees, in short names
  abbrev pub Stage : Type 0
  Stage = modes.Stage types patterns

  abbrev closed : ℕ → Expr → List Frame → Expr × List Frame
  closed = modes.closed types patterns

  abbrev mode_step : Stage → Symbol → Place → Stage
  mode_step = modes.mode_step types patterns

  abbrev run : Stage → List Seen → Stage
  run = modes.run types patterns

  abbrev Behind : Expr → List Frame → List ℕ → Stage → Type 0
  Behind = modes.Behind types patterns

  abbrev observing : Stage → Expr × List Frame → List At → Stage
  observing = modes.observing types patterns

  -- a part whose reader takes each of its tokens goes along with it, up to the sign behind it
  module _ {S Tree : Type 0} (R : Reader S Seen Tree) (Spells : List Seen → Tree → Type 0) (laws : Reads R Spells) (into : S → Stage)
      (goes : (s : S) (y : Symbol) (p : Place) → R.is_open (R.step s (seen_at y p)) ≡ true → mode_step (into s) y p ≡ into (R.step s (seen_at y p))) where
    along : (front rest : List Seen) (s : S) (tree : Tree) → R.finish (readers.run R s front) ≡ Some tree → run (into s) (front ++ rest) ≡ run (into (readers.run R s front)) rest
    along [] rest s tree e = refl
    along (t ∷ front) rest s tree e =
        ap (λ x. run x (front ++ rest)) (goes s t.symbol t.place (opened R Spells laws front (R.step s t) tree e)) ∙ along front rest (R.step s t) tree e

    part_then : (y : Symbol) (tree : Tree) (to : Stage) → ((s : S) (p : Place) → R.finish s ≡ Some tree → mode_step (into s) y p ≡ to)
        → (ts mid rest : List Seen) → IsSpelled Spells tree ts mid → sign y mid rest → run (into R.begin) ts ≡ run to rest
    part_then y tree to ends ts mid rest r q =
        let e = laws.complete r.front tree r.spelled in
        ap (run (into R.begin)) r.parts
        ∙ along r.front mid R.begin tree e
        ∙ go types patterns (into (readers.run R R.begin r.front)) y q.0 mid rest to q.1 (ends (readers.run R R.begin r.front) q.0 e)

  -- the types of arguments and annotations
  args_comma : (q : Place) (n : List ℕ) (args : Writtens) (fs : List Frame) (s : TS) (p : Place) (o : Option Written) → types.finish s ≡ o → types.is_open (types.step s (seen_at comma p)) ≡ true
      → machine.args_more types patterns trees q n args s (seen_at comma p) fs o ≡ InArgs q n args (types.step s (seen_at comma p)) fs
  args_comma q n args fs s p None e o = refl
  args_comma q n args fs s p (Some t) e o = let no = asked.no_comma s t p e in cc

  args_bracket : (q : Place) (n : List ℕ) (args : Writtens) (fs : List Frame) (s : TS) (p : Place) (o : Option Written) → types.finish s ≡ o → types.is_open (types.step s (seen_at closing_bracket p)) ≡ true
      → machine.args_end types patterns trees q n args s (seen_at closing_bracket p) fs o ≡ InArgs q n args (types.step s (seen_at closing_bracket p)) fs
  args_bracket q n args fs s p None e o = refl
  args_bracket q n args fs s p (Some t) e o = let no = asked.no_bracket s t p e in cc

  args_goes : (q : Place) (n : List ℕ) (args : Writtens) (fs : List Frame) (s : TS) (y : Symbol) (p : Place) → types.is_open (types.step s (seen_at y p)) ≡ true
      → mode_step (InArgs q n args s fs) y p ≡ InArgs q n args (types.step s (seen_at y p)) fs
  args_goes q n args fs s comma p o = args_comma q n args fs s p (types.finish s) refl o
  args_goes q n args fs s closing_bracket p o = args_bracket q n args fs s p (types.finish s) refl o
  args_goes q n args fs s y p o = refl

  sig_closing : (q : Place) (e : Expr) (fs : List Frame) (s : TS) (p : Place) (o : Option Written) → types.finish s ≡ o → types.is_open (types.step s (seen_at closing p)) ≡ true
      → machine.sig_end types patterns trees q e s (seen_at closing p) fs o ≡ InSig q e (types.step s (seen_at closing p)) fs
  sig_closing q e fs s p None f o = refl
  sig_closing q e fs s p (Some t) f o = let no = asked.no_closing s t p f in cc

  sig_goes : (q : Place) (e : Expr) (fs : List Frame) (s : TS) (y : Symbol) (p : Place) → types.is_open (types.step s (seen_at y p)) ≡ true
      → mode_step (InSig q e s fs) y p ≡ InSig q e (types.step s (seen_at y p)) fs
  sig_goes q e fs s closing p o = sig_closing q e fs s p (types.finish s) refl o
  sig_goes q e fs s y p o = refl

  -- the patterns of bindings and alternatives
  pattern_equals : (q : Place) (bs : Bindings) (fs : List Frame) (s : PS) (p : Place) (o : Option Pattern) → patterns.finish s ≡ o → patterns.is_open (patterns.step s (seen_at equals p)) ≡ true
      → machine.pattern_end types patterns trees q bs s (seen_at equals p) fs o ≡ InPattern q bs (patterns.step s (seen_at equals p)) fs
  pattern_equals q bs fs s p None e o = refl
  pattern_equals q bs fs s p (Some x) e o = let no = asked.no_equals s x p e in cc

  pattern_goes : (q : Place) (bs : Bindings) (fs : List Frame) (s : PS) (y : Symbol) (p : Place) → patterns.is_open (patterns.step s (seen_at y p)) ≡ true
      → mode_step (InPattern q bs s fs) y p ≡ InPattern q bs (patterns.step s (seen_at y p)) fs
  pattern_goes q bs fs s equals p o = pattern_equals q bs fs s p (patterns.finish s) refl o
  pattern_goes q bs fs s y p o = refl

  alt_arrow : (a : Open Expr Alts) (q : Place) (n : List ℕ) (fs : List Frame) (s : PS) (p : Place) (o : Option Pattern) → patterns.finish s ≡ o → patterns.is_open (patterns.step s (seen_at arrow p)) ≡ true
      → machine.alt_end types patterns trees a q n s (seen_at arrow p) fs o ≡ InAltPattern a q n (patterns.step s (seen_at arrow p)) fs
  alt_arrow a q n fs s p None e o = refl
  alt_arrow a q n fs s p (Some x) e o = let no = asked.no_arrow s x p e in cc

  alt_goes : (a : Open Expr Alts) (q : Place) (n : List ℕ) (fs : List Frame) (s : PS) (y : Symbol) (p : Place) → patterns.is_open (patterns.step s (seen_at y p)) ≡ true
      → mode_step (InAltPattern a q n s fs) y p ≡ InAltPattern a q n (patterns.step s (seen_at y p)) fs
  alt_goes a q n fs s arrow p o = alt_arrow a q n fs s p (patterns.finish s) refl o
  alt_goes a q n fs s y p o = refl

  con_goes : (a : Open Expr Alts) (q : Place) (n : List ℕ) (fs : List Frame) (y : Symbol) (p : Place) → patterns.is_open (patterns.step patterns.begin (seen_at y p)) ≡ true
      → mode_step (AfterCon a q n fs) y p ≡ InAltPattern a q n (patterns.step patterns.begin (seen_at y p)) fs
  con_goes a q n fs arrow p o = let no = asked.arrow_first p in cc
  con_goes a q n fs y p o = refl

  con_along : (a : Open Expr Alts) (q : Place) (n : List ℕ) (fs : List Frame) (front rest : List Seen) (x : Pattern) → patterns.finish (readers.run patterns patterns.begin front) ≡ Some x
      → run (AfterCon a q n fs) (front ++ rest) ≡ run (InAltPattern a q n (readers.run patterns patterns.begin front) fs) rest
  con_along a q n fs [] rest x e = let no = asked.no_pattern in cc
  con_along a q n fs (t ∷ front) rest x e =
      ap (λ m. run m (front ++ rest)) (con_goes a q n fs t.symbol t.place (opened patterns OfPattern asked.pattern_laws front (patterns.step patterns.begin t) x e))
      ∙ along patterns OfPattern asked.pattern_laws (λ s. InAltPattern a q n s fs) (λ s y p o. alt_goes a q n fs s y p o) front rest (patterns.step patterns.begin t) x e

  -- what stands between a bar and the body of an alternative
  pub head_read : (o : Open Expr Alts) (p : Place) (head : Option (List ℕ)) (x : Pattern) (fs : List Frame) (ts mid rest : List Seen) → grammar.ReadsHead OfType OfPattern p head x ts mid → sign arrow mid rest
      → run (WantAlt o fs) ts ≡ run (Want (Branch o p head x ∷ fs)) rest
  head_read o p (Some n) x fs ts mid rest r q =
      ⊎_elim
      (λ w.
      go types patterns (WantAlt o fs) (upper n) p ts mid (AfterCon o p n fs) w.1 refl
      ∙ go types patterns (AfterCon o p n fs) arrow q.0 mid rest (Want (Branch o p (Some n) (forms.unit p) ∷ fs)) q.1 refl
      ∙ ap (λ z. run (Want (Branch o p (Some n) z ∷ fs)) rest) (sym w.0))
      (λ w.
      let k = w.2 in let e = asked.pattern_laws.complete k.front x k.spelled in let s = readers.run patterns patterns.begin k.front in
      go types patterns (WantAlt o fs) (upper n) p ts w.0 (AfterCon o p n fs) w.1 refl
      ∙ ap (run (AfterCon o p n fs)) k.parts
      ∙ con_along o p n fs k.front mid x e
      ∙ go types patterns (InAltPattern o p n s fs) arrow q.0 mid rest (Want (Branch o p (Some n) x ∷ fs)) q.1 (ap (machine.alt_end types patterns trees o p n s (seen_at arrow q.0) fs) e))
      r
  head_read o p None x fs ts mid rest r q =
      ⊎_elim
      (λ w.
      go types patterns (WantAlt o fs) (lower w.0) p ts mid (WantArrow o p (forms.name p w.0) fs) w.2 refl
      ∙ go types patterns (WantArrow o p (forms.name p w.0) fs) arrow q.0 mid rest (Want (Branch o p None (forms.name p w.0) ∷ fs)) q.1 refl
      ∙ ap (λ z. run (Want (Branch o p None z ∷ fs)) rest) (sym w.1))
      (λ w.
      go types patterns (WantAlt o fs) wildcard p ts mid (WantArrow o p (forms.any p) fs) w.1 refl
      ∙ go types patterns (WantArrow o p (forms.any p) fs) arrow q.0 mid rest (Want (Branch o p None (forms.any p) ∷ fs)) q.1 refl
      ∙ ap (λ z. run (Want (Branch o p None z ∷ fs)) rest) (sym w.0))
      r

  -- type arguments
  args_before : (q : Place) (n : List ℕ) (fs : List Frame) (args : Writtens) (ts rest : List Seen) → grammar.ArgsBefore OfType OfPattern args ts rest
      → run (InArgs q n no_types types.begin fs) ts ≡ run (InArgs q n args types.begin fs) rest
  args_before q n fs no_types ts rest r = ap (run (InArgs q n no_types types.begin fs)) r
  args_before q n fs (and_type args t) ts rest r =
      let k = r.2 in
      args_before q n fs args ts r.0 r.1
      ∙ part_then types OfType asked.type_laws (λ s. InArgs q n args s fs) (λ s y p o. args_goes q n args fs s y p o) comma t (InArgs q n (and_type args t) types.begin fs)
      (λ s p e. ap (machine.args_more types patterns trees q n args s (seen_at comma p) fs) e) r.0 k.0 rest k.1 k.2

  -- type arguments in brackets are read behind a name
  pub args_read : (q : Place) (n : List ℕ) (fs : List Frame) (args : Writtens) (t : Written) (ts rest : List Seen) → grammar.ReadsArgs OfType OfPattern (and_type args t) ts rest
      → run (AfterLower q n fs) ts ≡ run (Have (name q n (and_type args t)) fs) rest
  args_read q n fs args t ts rest r =
      let k = r.2 in let j = k.2 in
      go types patterns (AfterLower q n fs) bracket r.1.0 ts r.0 (InArgs q n no_types types.begin fs) r.1.1 refl
      ∙ args_before q n fs args r.0 k.0 k.1
      ∙ part_then types OfType asked.type_laws (λ s. InArgs q n args s fs) (λ s y p o. args_goes q n args fs s y p o) closing_bracket t (Have (name q n (and_type args t)) fs)
      (λ s p e. ap (machine.args_end types patterns trees q n args s (seen_at closing_bracket p) fs) e) k.0 j.0 rest j.1 j.2

  -- an annotation, and the pattern of a binding
  pub sig_read : (q : Place) (e : Expr) (fs : List Frame) (t : Written) (ts mid rest : List Seen) → IsSpelled OfType t ts mid → sign closing mid rest
      → run (InSig q e types.begin fs) ts ≡ run (Have (sig q e t) fs) rest
  sig_read q e fs t ts mid rest r w =
      part_then types OfType asked.type_laws (λ s. InSig q e s fs) (λ s y p o. sig_goes q e fs s y p o) closing t (Have (sig q e t) fs)
      (λ s p f. ap (machine.sig_end types patterns trees q e s (seen_at closing p) fs) f) ts mid rest r w

  -- the pattern of a binding is read, up to its `=`
  pub pattern_read : (q : Place) (bs : Bindings) (fs : List Frame) (x : Pattern) (ts mid rest : List Seen) → IsSpelled OfPattern x ts mid → sign equals mid rest
      → run (InPattern q bs patterns.begin fs) ts ≡ run (Want (Bound q bs x ∷ fs)) rest
  pattern_read q bs fs x ts mid rest r w =
      part_then patterns OfPattern asked.pattern_laws (λ s. InPattern q bs s fs) (λ s y p o. pattern_goes q bs fs s y p o) equals x (Want (Bound q bs x ∷ fs))
      (λ s p f. ap (machine.pattern_end types patterns trees q bs s (seen_at equals p) fs) f) ts mid rest r w

  observed_more : (e : Expr) (fs : List Frame) (before ns : List At) (ts rest : List Seen) → grammar.ReadsSeen OfType OfPattern ns ts rest → run (Observed e before fs) ts ≡ run (Observed e (before ++ ns) fs) rest
  observed_more e fs before [] ts rest r = ap (run (Observed e before fs)) r ∙ ap (λ x. run (Observed e x fs) rest) (sym (append-nil before))
  observed_more e fs before (n ∷ ns) ts rest r =
      let k = r.2 in
      go types patterns (Observed e before fs) bang r.1.0 ts r.0 (AfterBang e before fs) r.1.1 refl
      ∙ go types patterns (AfterBang e before fs) (lower n.name) n.place r.0 k.0 (Observed e (before ++ n ∷ []) fs) k.1 refl
      ∙ observed_more e fs (before ++ n ∷ []) ns k.0 rest k.2
      ∙ ap (λ x. run (Observed e x fs) rest) (append_assoc before (n ∷ []) ns)

  -- what is observed behind an expression is read
  pub seen_read : (e : Expr) (fs : List Frame) (to : List ℕ) (m : Stage) (b : Behind e fs to m) (seen : List At) (ts rest : List Seen) → grammar.ReadsSeen OfType OfPattern seen ts rest
      → run m ts ≡ run (observing m (closed 11 b.inner b.frames) seen) rest
  seen_read e fs to m b [] ts rest r = ap (run m) r
  seen_read e fs to m b (n ∷ ns) ts rest r =
      let k = r.2 in let c = closed 11 b.inner b.frames in
      go types patterns m bang r.1.0 ts r.0 (AfterBang c.0 [] c.1) r.1.1 (b.past bang r.1.0 refl)
      ∙ go types patterns (AfterBang c.0 [] c.1) (lower n.name) n.place r.0 k.0 (Observed c.0 (n ∷ []) c.1) k.1 refl
      ∙ observed_more c.0 c.1 (n ∷ []) ns k.0 rest k.2
