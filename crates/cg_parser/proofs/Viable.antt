-- What is open can be completed, and what is shut stays shut.
use Rattle.std.proofs.Common.{◌≡◌, ℕ, List, [], ◌∷◌, ◌++◌, refl, ◌∙◌, ap, true, false, Bool, cond, Option, Some, None}
use Rattle.cg_base.specs.declared.kind.Bound.{Bound}
use Rattle.cg_base.specs.declared.place.Place.{Place}
use Rattle.cg_base.specs.Reader.{Reader, Reads}
use Rattle.cg_base.specs.Reader as readers
use Rattle.cg_core.specs.declared.at.At.{At}
use Rattle.cg_surface.specs.Written.{Written}
use Rattle.cg_surface.specs.Patterns.{Pattern}
use Rattle.cg_surface.specs.Exprs.{Expr}
use Rattle.cg_surface.specs.Programs.{Entry}
use Rattle.cg_parser_symbols.specs.Symbols.{Symbol, lower, upper, all_word, closing, colon, equals, dot, Seen, is_first}
use Rattle.cg_parser_symbols.specs.Readings.{ArePast}
use Rattle.cg_parser_def.specs.Grammar.{ReadsProgram}
use Rattle.cg_parser_def.specs.Machine.{State, Between, AfterType, InParams, InSynonym, AfterName, AfterColon, AfterAll, WantVar, AfterVar, WantKinds, AfterKinds, WantDot, InSignature, InParam, InBody, Failed}
use Rattle.cg_parser_def.specs.Machine as machine
use Rattle.cg_parser_def.specs.Plain.{entries}
use Rattle.cg_parser.proofs.Parts.{completes}
use Rattle.cg_parser.proofs.Complete as complete
use Rattle.cg_parser.proofs.Complete.{Parts}
use Rattle.cg_parser.proofs.Sound as sound

-- a place past column 1
abbrev there : Place
there = record { line = 1; column = 2 }

abbrev at : Symbol → Seen
at y = record { symbol = y; place = there }

module _ {TS PS XS : Type 0} (types : Reader TS Seen Written) (patterns : Reader PS Seen Pattern) (exprs : Reader XS Seen Expr)
    (OfType : List Seen → Written → Type 0) (OfPattern : List Seen → Pattern → Type 0) (OfExpr : List Seen → Expr → Type 0)
    (parts : Parts TS PS XS types patterns exprs OfType OfPattern OfExpr) where
  abbrev Stage : Type 0
  Stage = State TS PS XS Pattern (List Entry)

  abbrev finish : Stage → Option (List Entry)
  finish = machine.finish types patterns exprs entries

  abbrev run : Stage → List Seen → Stage
  run = complete.run types patterns exprs OfType OfPattern OfExpr parts

  abbrev is_open : Stage → Bool
  is_open = machine.is_open types patterns exprs entries

  abbrev StageRead : Stage → List Seen → List Seen → Type 0
  StageRead = sound.StageRead types patterns exprs OfType OfPattern OfExpr parts

  -- some tokens complete the state
  abbrev Completable : Stage → Type 0
  Completable s = (rest : List Seen) × (p : List Entry) × (finish (run s rest) ≡ Some p)

  -- one token more
  fed : (y : Symbol) (s to : Stage) → machine.step types patterns exprs entries s (at y) ≡ to → Completable to → Completable s
  fed y s to e c = (at y ∷ c.0, c.1, ap (λ x. finish (run x c.0)) e ∙ c.2)

  -- what is left of a part, and a tree that comes of it
  abbrev Left : {S Tree : Type 0} → Reader S Seen Tree → S → Type 0
  Left {S} {Tree} R s = (more : List Seen) × ArePast more × (tree : Tree) × (R.finish (readers.run R s more) ≡ Some tree)

  synonym_left : (done : List Entry) (h : At) (params : List At) (s : TS) → Left types s → Completable (InSynonym done h params s)
  synonym_left done h params s l =
      (l.0 ++ [], _, ap finish (complete.synonym_along types patterns exprs OfType OfPattern OfExpr parts done h params l.0 [] s l.1) ∙ ap (machine.end_synonym types patterns exprs entries done h params) l.3)

  signature_left : (done : List Entry) (h : At) (vs : List Bound) (ps : List Place) (s : TS) → Left types s → Completable (InSignature done h vs ps s)
  signature_left done h vs ps s l =
      (l.0 ++ [], _, ap finish (complete.signature_along types patterns exprs OfType OfPattern OfExpr parts done h vs ps l.0 [] s l.1) ∙ ap (machine.end_signature types patterns exprs entries done h vs ps) l.3)

  body_left : (done : List Entry) (h : At) (x : Pattern) (s : XS) → Left exprs s → Completable (InBody done h x s)
  body_left done h x s l =
      (l.0 ++ [], _, ap finish (complete.body_along types patterns exprs OfType OfPattern OfExpr parts done h x l.0 [] s l.1) ∙ ap (machine.end_body types patterns exprs entries done h x) l.3)

  param_left : (done : List Entry) (h : At) (s : PS) → Left patterns s → Completable (InParam done h s)
  param_left done h s l =
      let b = body_left done h l.2 exprs.begin (parts.expr_ends [] parts.expr_laws.begins) in (
        l.0 ++ at equals ∷ b.0,
        b.1,
        ap finish (complete.param_along types patterns exprs OfType OfPattern OfExpr parts done h l.0 (at equals ∷ b.0) s l.2 l.1 l.3)
            ∙ ap (λ o. finish (run (machine.on_equals types patterns exprs entries done h (readers.run patterns s l.0) there o) b.0)) l.3
            ∙ b.2,
      )

  -- a signature from its dot on, and from each place before
  from_dot : (done : List Entry) (h : At) (vs : List Bound) (ps : List Place) → Completable (WantDot done h vs ps)
  from_dot done h vs ps = fed dot (WantDot done h vs ps) (InSignature done h vs ps types.begin) refl (signature_left done h vs ps types.begin (parts.type_ends [] parts.type_laws.begins))

  from_kinds : (done : List Entry) (h : At) (vs : List Bound) (ps : List Place) (v : Bound) (q : Place) → Completable (AfterKinds done h vs ps v q)
  from_kinds done h vs ps v q = fed closing (AfterKinds done h vs ps v q) _ refl (from_dot done h (vs ++ v ∷ []) (ps ++ q ∷ []))

  from_var : (done : List Entry) (h : At) (vs : List Bound) (ps : List Place) (n : List ℕ) (q : Place) → Completable (AfterVar done h vs ps n q)
  from_var done h vs ps n q = fed closing (AfterVar done h vs ps n q) _ refl (from_dot done h _ (ps ++ q ∷ []))

  from_all : (done : List Entry) (h : At) → Completable (AfterAll done h)
  from_all done h = fed (lower []) (AfterAll done h) _ refl (from_dot done h _ (there ∷ []))

  from_colon : (done : List Entry) (h : At) → Completable (AfterColon done h)
  from_colon done h = fed all_word (AfterColon done h) (AfterAll done h) refl (from_all done h)

  completable : (s : Stage) (all : List Seen) → StageRead s all [] → is_open s ≡ true → Completable s
  completable (Between done) all r o = ([], done, refl)
  completable (AfterType done) all r o = (at (upper []) ∷ [], _, refl)
  completable (InParams done h params) all r o = ([], _, refl)
  completable (InSynonym done h params s) all r o = let x = r.2.2.2.2 in synonym_left done h params s (completes types parts.type_ends s x.0 [] x.2 o)
  completable (AfterName done h) all r o = fed colon (AfterName done h) (AfterColon done h) refl (from_colon done h)
  completable (AfterColon done h) all r o = from_colon done h
  completable (AfterAll done h) all r o = from_all done h
  completable (WantVar done h vs ps) all r o = fed (lower []) (WantVar done h vs ps) _ refl (from_var done h vs ps [] there)
  completable (AfterVar done h vs ps n q) all r o = from_var done h vs ps n q
  completable (WantKinds done h vs ps n q) all r o = fed (upper []) (WantKinds done h vs ps n q) _ refl (from_kinds done h vs ps _ q)
  completable (AfterKinds done h vs ps v q) all r o = from_kinds done h vs ps v q
  completable (WantDot done h vs ps) all r o = from_dot done h vs ps
  completable (InSignature done h vs ps s) all r o = let x = r.2 in signature_left done h vs ps s (completes types parts.type_ends s x.0 [] x.2 o)
  completable (InParam done h s) all r o = let x = r.2 in param_left done h s (completes patterns parts.pattern_ends s x.0 [] x.2 o)
  completable (InBody done h x s) all r o = let y = r.2.2.2 in body_left done h x s (completes exprs parts.expr_ends s y.0 [] y.2 o)
  completable Failed all r o = cc

  viable : (ts : List Seen) → is_open (run (Between []) ts) ≡ true → Completable (run (Between []) ts)
  viable ts o = completable (run (Between []) ts) ts (sound.begin_holds types patterns exprs OfType OfPattern OfExpr parts ts) o

  -- what is shut has no end, and stays shut
  no_tree : (s : Stage) → is_open s ≡ false → finish s ≡ None
  no_tree (Between done) h = cc
  no_tree (AfterType done) h = cc
  no_tree (InParams done at params) h = cc
  no_tree (InSynonym done at params s) h = ap (machine.end_synonym types patterns exprs entries done at params) (parts.type_laws.no_tree s h)
  no_tree (AfterName done at) h = cc
  no_tree (AfterColon done at) h = cc
  no_tree (AfterAll done at) h = cc
  no_tree (WantVar done at vs ps) h = cc
  no_tree (AfterVar done at vs ps n q) h = cc
  no_tree (WantKinds done at vs ps n q) h = cc
  no_tree (AfterKinds done at vs ps v q) h = cc
  no_tree (WantDot done at vs ps) h = cc
  no_tree (InSignature done at vs ps s) h = ap (machine.end_signature types patterns exprs entries done at vs ps) (parts.type_laws.no_tree s h)
  no_tree (InParam done at s) h = refl
  no_tree (InBody done at x s) h = ap (machine.end_body types patterns exprs entries done at x) (parts.expr_laws.no_tree s h)
  no_tree Failed h = refl

  equals_shut : (done : List Entry) (h : At) (s : PS) (p : Place) (o : Option Pattern) → patterns.finish s ≡ o → patterns.is_open s ≡ false
      → is_open (machine.on_equals types patterns exprs entries done h s p o) ≡ false
  equals_shut done h s p None e c = parts.pattern_laws.shut s (record { symbol = equals; place = p }) c
  equals_shut done h s p (Some x) e c = let none = parts.pattern_laws.no_tree s c in cc

  param_shut : (done : List Entry) (h : At) (s : PS) (y : Symbol) (p : Place) → patterns.is_open s ≡ false → is_open (machine.in_param types patterns exprs entries done h s y p) ≡ false
  param_shut done h s equals p c = equals_shut done h s p (patterns.finish s) refl c
  param_shut done h s y p c = parts.pattern_laws.shut s (record { symbol = y; place = p }) c

  inside_shut : (s : Stage) (y : Symbol) (p : Place) → is_open s ≡ false → is_open (machine.inside types patterns exprs entries s y p) ≡ false
  inside_shut (Between done) y p h = cc
  inside_shut (AfterType done) y p h = cc
  inside_shut (InParams done at params) y p h = cc
  inside_shut (InSynonym done at params s) y p h = parts.type_laws.shut s (record { symbol = y; place = p }) h
  inside_shut (AfterName done at) y p h = cc
  inside_shut (AfterColon done at) y p h = cc
  inside_shut (AfterAll done at) y p h = cc
  inside_shut (WantVar done at vs ps) y p h = cc
  inside_shut (AfterVar done at vs ps n q) y p h = cc
  inside_shut (WantKinds done at vs ps n q) y p h = cc
  inside_shut (AfterKinds done at vs ps v q) y p h = cc
  inside_shut (WantDot done at vs ps) y p h = cc
  inside_shut (InSignature done at vs ps s) y p h = parts.type_laws.shut s (record { symbol = y; place = p }) h
  inside_shut (InParam done at s) y p h = param_shut done at s y p h
  inside_shut (InBody done at x s) y p h = parts.expr_laws.shut s (record { symbol = y; place = p }) h
  inside_shut Failed y p h = refl

  step_shut : (s : Stage) (t : Seen) → is_open s ≡ false → is_open (machine.step types patterns exprs entries s t) ≡ false
  step_shut s t h = go (is_first t.place)
    where
      go : (b : Bool) → is_open (cond b (machine.on_head types patterns exprs entries (finish s) t.symbol t.place) (machine.inside types patterns exprs entries s t.symbol t.place)) ≡ false
      go true = ap (λ o. is_open (machine.on_head types patterns exprs entries o t.symbol t.place)) (no_tree s h)
      go false = inside_shut s t.symbol t.place h

  -- the six laws
  pub laws : Reads (machine.reader types patterns exprs entries) (λ ts p. ReadsProgram OfType OfPattern OfExpr p ts [])
  laws = record {
    begins = refl;
    shut = step_shut;
    no_tree = no_tree;
    complete = complete.complete types patterns exprs OfType OfPattern OfExpr parts;
    sound = sound.sound types patterns exprs OfType OfPattern OfExpr parts;
    viable = viable;
  }
