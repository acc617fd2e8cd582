-- The machine reads each program that the tokens spell.
use Rattle.std.proofs.Common.{◌≡◌, List, [], ◌∷◌, ◌++◌, ⊎_elim, refl, sym, ◌∙◌, ap, true, false, Option, Some, None, append_assoc}
use Rattle.std.proofs.lemmas.List.{append-nil}
use Rattle.cg_base.specs.declared.kind.Bound.{Bound}
use Rattle.cg_base.specs.declared.place.Place.{Place}
use Rattle.cg_base.specs.Reader.{Reader, Reads}
use Rattle.cg_base.specs.Reader as readers
use Rattle.cg_core.specs.declared.at.At.{At}
use Rattle.cg_surface.specs.Written.{Written}
use Rattle.cg_surface.specs.Patterns.{Pattern}
use Rattle.cg_surface.specs.Exprs.{Expr}
use Rattle.cg_surface.specs.Programs.{Entry, synonym, abstract, signature, define}
use Rattle.cg_parser_symbols.specs.Symbols.{Symbol, lower, upper, type_word, all_word, opening, closing, colon, has_kinds, equals, comma, dot, Seen, is_first}
use Rattle.cg_parser_symbols.specs.Readings.{◌then◌, head, inner, inner_sign, ArePast, IsPart}
use Rattle.cg_parser_def.specs.Grammar.{no_kinds, bound, ReadsParams, ReadsVar, VarsBefore, ReadsAll, nothing, alone, listed, ReadsEntry, ReadsProgram}
use Rattle.cg_parser_def.specs.Machine.{State, Between, AfterType, InParams, InSynonym, AfterName, AfterColon, AfterAll, WantVar, AfterVar, WantKinds, AfterKinds, WantDot, InSignature, InParam, InBody}
use Rattle.cg_parser_def.specs.Machine as machine
use Rattle.cg_parser_def.specs.Plain.{entries}
use Rattle.cg_parser.proofs.Parts.{Ends, opened}

abbrev at : Symbol → Place → Seen
at y p = record { symbol = y; place = p }

-- what the readers of the parts are asked for: they are exact, complete what is open by tokens past column 1, need a token at least, and take no token that stands behind them
-- in an item or begins something else there
pub record Parts (TS PS XS : Type 0) (types : Reader TS Seen Written) (patterns : Reader PS Seen Pattern) (exprs : Reader XS Seen Expr)
    (OfType : List Seen → Written → Type 0) (OfPattern : List Seen → Pattern → Type 0) (OfExpr : List Seen → Expr → Type 0) : Type 0 where
  pub type_laws : Reads types OfType
  pub pattern_laws : Reads patterns OfPattern
  pub expr_laws : Reads exprs OfExpr
  pub type_ends : Ends types
  pub pattern_ends : Ends patterns
  pub expr_ends : Ends exprs
  pub no_type : types.finish types.begin ≡ None
  pub no_pattern : patterns.finish patterns.begin ≡ None
  pub no_all : (p : Place) → types.is_open (types.step types.begin (record { symbol = all_word; place = p })) ≡ false
  pub no_colon : (p : Place) → patterns.is_open (patterns.step patterns.begin (record { symbol = colon; place = p })) ≡ false
  pub no_equals : (s : PS) (x : Pattern) (p : Place) → patterns.finish s ≡ Some x → patterns.is_open (patterns.step s (record { symbol = equals; place = p })) ≡ false

module _ {TS PS XS : Type 0} (types : Reader TS Seen Written) (patterns : Reader PS Seen Pattern) (exprs : Reader XS Seen Expr)
    (OfType : List Seen → Written → Type 0) (OfPattern : List Seen → Pattern → Type 0) (OfExpr : List Seen → Expr → Type 0)
    (parts : Parts TS PS XS types patterns exprs OfType OfPattern OfExpr) where
  abbrev pub Stage : Type 0
  Stage = State TS PS XS Pattern (List Entry)

  abbrev pub plain : Reader Stage Seen (List Entry)
  plain = machine.reader types patterns exprs entries

  abbrev pub inside : Stage → Symbol → Place → Stage
  inside = machine.inside types patterns exprs entries

  abbrev pub run : Stage → List Seen → Stage
  run = readers.run plain

  abbrev pub finish : Stage → Option (List Entry)
  finish = plain.finish

  -- one token more, past column 1
  stepped : (s : Stage) (t : Seen) → is_first t.place ≡ false → plain.step s t ≡ inside s t.symbol t.place
  stepped s t h = rw h refl

  move : (s : Stage) (y : Symbol) (p : Place) (ts rest : List Seen) (to : Stage) → inner y p ts rest → inside s y p ≡ to → run s ts ≡ run to rest
  move s y p ts rest to r q = ap (run s) r.1 ∙ ap (λ x. run x rest) (stepped s (at y p) r.0 ∙ q)

  -- a token at column 1 ends an item and begins one
  began : (s : Stage) (done : List Entry) (y : Symbol) (p : Place) (ts rest : List Seen) (to : Stage) → finish s ≡ Some done → head y p ts rest
      → machine.on_head types patterns exprs entries (Some done) y p ≡ to → run s ts ≡ run to rest
  began s done y p ts rest to e r q =
      ap (run s) r.1 ∙ ap (λ x. run x rest) (rw r.0 (ap (λ o. machine.on_head types patterns exprs entries o y p) e) ∙ q)

  -- a part whose reader takes every token goes along with it
  along : {S Tree : Type 0} (R : Reader S Seen Tree) (into : S → Stage) → ((s : S) (t : Seen) → inside (into s) t.symbol t.place ≡ into (R.step s t))
      → (front rest : List Seen) (s : S) → ArePast front → run (into s) (front ++ rest) ≡ run (into (readers.run R s front)) rest
  along R into same [] rest s past = refl
  along R into same (t ∷ front) rest s past = ap (λ x. run x (front ++ rest)) (stepped (into s) t past.0 ∙ same s t) ∙ along R into same front rest (R.step s t) past.1

  -- a pattern takes each of its tokens
  equals_goes : (done : List Entry) (h : At) (s : PS) (p : Place) (o : Option Pattern) → patterns.finish s ≡ o → patterns.is_open (patterns.step s (at equals p)) ≡ true
      → machine.on_equals types patterns exprs entries done h s p o ≡ InParam done h (patterns.step s (at equals p))
  equals_goes done h s p None e o = refl
  equals_goes done h s p (Some x) e o = let no = parts.no_equals s x p e in cc

  param_goes : (done : List Entry) (h : At) (s : PS) (y : Symbol) (p : Place) → patterns.is_open (patterns.step s (at y p)) ≡ true
      → machine.in_param types patterns exprs entries done h s y p ≡ InParam done h (patterns.step s (at y p))
  param_goes done h s equals p o = equals_goes done h s p (patterns.finish s) refl o
  param_goes done h s _ p o = refl

  name_goes : (done : List Entry) (h : At) (y : Symbol) (p : Place) → patterns.is_open (patterns.step patterns.begin (at y p)) ≡ true
      → machine.after_name types patterns exprs entries done h y p ≡ InParam done h (patterns.step patterns.begin (at y p))
  name_goes done h colon p o = let no = parts.no_colon p in cc
  name_goes done h _ p o = refl

  colon_goes : (done : List Entry) (h : At) (y : Symbol) (p : Place) → types.is_open (types.step types.begin (at y p)) ≡ true
      → machine.after_colon types patterns exprs entries done h y p ≡ InSignature done h [] [] (types.step types.begin (at y p))
  colon_goes done h all_word p o = let no = parts.no_all p in cc
  colon_goes done h _ p o = refl

  pub param_along : (done : List Entry) (h : At) (front rest : List Seen) (s : PS) (x : Pattern) → ArePast front → patterns.finish (readers.run patterns s front) ≡ Some x
      → run (InParam done h s) (front ++ rest) ≡ run (InParam done h (readers.run patterns s front)) rest
  param_along done h [] rest s x past e = refl
  param_along done h (t ∷ front) rest s x past e =
      ap (λ y. run y (front ++ rest)) (stepped (InParam done h s) t past.0 ∙ param_goes done h s t.symbol t.place (opened patterns OfPattern parts.pattern_laws front (patterns.step s t) x e))
      ∙ param_along done h front rest (patterns.step s t) x past.1 e

  -- a parameter, from its first token on
  pub param_reads : (done : List Entry) (h : At) (front rest : List Seen) (x : Pattern) → ArePast front → patterns.finish (readers.run patterns patterns.begin front) ≡ Some x
      → run (AfterName done h) (front ++ rest) ≡ run (InParam done h (readers.run patterns patterns.begin front)) rest
  param_reads done h [] rest x past e = let no = parts.no_pattern in cc
  param_reads done h (t ∷ front) rest x past e =
      ap (λ y. run y (front ++ rest)) (stepped (AfterName done h) t past.0 ∙ name_goes done h t.symbol t.place (opened patterns OfPattern parts.pattern_laws front (patterns.step patterns.begin t) x e))
      ∙ param_along done h front rest (patterns.step patterns.begin t) x past.1 e

  -- the type of a signature, and what is behind an `=`
  pub signature_along : (done : List Entry) (h : At) (vs : List Bound) (ps : List Place) (front rest : List Seen) (s : TS) → ArePast front
      → run (InSignature done h vs ps s) (front ++ rest) ≡ run (InSignature done h vs ps (readers.run types s front)) rest
  signature_along done h vs ps front rest s past = along types (InSignature done h vs ps) (λ u t. refl) front rest s past

  pub synonym_along : (done : List Entry) (h : At) (params : List At) (front rest : List Seen) (s : TS) → ArePast front
      → run (InSynonym done h params s) (front ++ rest) ≡ run (InSynonym done h params (readers.run types s front)) rest
  synonym_along done h params front rest s past = along types (InSynonym done h params) (λ u t. refl) front rest s past

  pub body_along : (done : List Entry) (h : At) (x : Pattern) (front rest : List Seen) (s : XS) → ArePast front
      → run (InBody done h x s) (front ++ rest) ≡ run (InBody done h x (readers.run exprs s front)) rest
  body_along done h x front rest s past = along exprs (InBody done h x) (λ u t. refl) front rest s past

  first_type : (done : List Entry) (h : At) (front rest : List Seen) (x : Written) → ArePast front → types.finish (readers.run types types.begin front) ≡ Some x
      → run (AfterColon done h) (front ++ rest) ≡ run (InSignature done h [] [] (readers.run types types.begin front)) rest
  first_type done h [] rest x past e = let no = parts.no_type in cc
  first_type done h (t ∷ front) rest x past e =
      ap (λ y. run y (front ++ rest)) (stepped (AfterColon done h) t past.0 ∙ colon_goes done h t.symbol t.place (opened types OfType parts.type_laws front (types.step types.begin t) x e))
      ∙ signature_along done h [] [] front rest (types.step types.begin t) past.1

  -- parameters
  params_read : (done : List Entry) (h : At) (params before : List At) (ts rest : List Seen) → ReadsParams params ts rest → run (InParams done h before) ts ≡ run (InParams done h (before ++ params)) rest
  params_read done h [] before ts rest r = ap (run (InParams done h before)) r ∙ ap (λ x. run (InParams done h x) rest) (sym (append-nil before))
  params_read done h (n ∷ params) before ts rest r =
      move (InParams done h before) (lower n.name) n.place ts r.0 (InParams done h (before ++ n ∷ [])) r.1 refl
      ∙ params_read done h params (before ++ n ∷ []) r.0 rest r.2
      ∙ ap (λ x. run (InParams done h x) rest) (append_assoc before (n ∷ []) params)

  -- a type variable, and a comma or a closing parenthesis behind it
  module _ (done : List Entry) (h : At) where
    -- a token behind a type variable, which is neither of the others
    var_then : (vs : List Bound) (ps : List Place) (v : Bound) (q : Place) (y : Symbol) (ts rest : List Seen) (to : Stage)
        → machine.after_kinds types patterns exprs entries done h vs ps v q y ≡ to
        → ((w : Bound) (p : Place) → machine.after_var types patterns exprs entries done h vs ps w.name q y ≡ machine.after_kinds types patterns exprs entries done h vs ps (bound w.name no_kinds) q y)
        → (ReadsVar v q then inner_sign y) ts rest → run (WantVar done h vs ps) ts ≡ run to rest
    var_then vs ps v q y ts rest to e plainly r =
        let behind = r.2 in
        ⊎_elim
        (λ w.
        move (WantVar done h vs ps) (lower v.name) q ts r.0 (AfterVar done h vs ps v.name q) w.1 refl
        ∙ move (AfterVar done h vs ps v.name q) y behind.0 r.0 rest to behind.1
        (plainly v q ∙ ap (λ x. machine.after_kinds types patterns exprs entries done h vs ps x q y) (sym w.0) ∙ e))
        (λ w.
        let m = w.3 in let k = m.2 in
        move (WantVar done h vs ps) (lower v.name) q ts m.0 (AfterVar done h vs ps v.name q) m.1 refl
        ∙ move (AfterVar done h vs ps v.name q) has_kinds k.1.0 m.0 k.0 (WantKinds done h vs ps v.name q) k.1.1 refl
        ∙ move (WantKinds done h vs ps v.name q) (upper w.0) k.2.0 k.0 r.0 (AfterKinds done h vs ps v q) k.2.1 (rw w.1 (ap (λ x. AfterKinds done h vs ps x q) (sym w.2)))
        ∙ move (AfterKinds done h vs ps v q) y behind.0 r.0 rest to behind.1 e)
        r.1

    vars_read : (vars : List Bound) (places : List Place) (vs : List Bound) (ps : List Place) (ts rest : List Seen) → VarsBefore vars places ts rest
        → run (WantVar done h vs ps) ts ≡ run (WantVar done h (vs ++ vars) (ps ++ places)) rest
    vars_read [] [] vs ps ts rest r = ap (run (WantVar done h vs ps)) r ∙ ap (λ x. run (WantVar done h x ps) rest) (sym (append-nil vs)) ∙ ap (λ x. run (WantVar done h (vs ++ []) x) rest) (sym (append-nil ps))
    vars_read (v ∷ vars) (p ∷ places) vs ps ts rest r =
        let c = r.2 in
        var_then vs ps v p comma ts c.0 (WantVar done h (vs ++ v ∷ []) (ps ++ p ∷ [])) refl (λ w q. refl) (r.0, r.1, c.1)
        ∙ vars_read vars places (vs ++ v ∷ []) (ps ++ p ∷ []) c.0 rest c.2
        ∙ ap (λ x. run (WantVar done h x ((ps ++ p ∷ []) ++ places)) rest) (append_assoc vs (v ∷ []) vars)
        ∙ ap (λ x. run (WantVar done h (vs ++ v ∷ vars) x) rest) (append_assoc ps (p ∷ []) places)
    vars_read [] (p ∷ places) vs ps ts rest r = absurd r
    vars_read (v ∷ vars) [] vs ps ts rest r = absurd r

    -- what binds type variables, and the type behind it
    all_read : (vs : List Bound) (ps : List Place) (t : Written) (ts mid rest : List Seen) → ReadsAll vs ps ts mid → (r : IsPart OfType t mid rest)
        → run (AfterColon done h) ts ≡ run (InSignature done h vs ps (readers.run types types.begin r.front)) rest
    all_read vs ps t ts mid rest (nothing no_vars no_places none) r =
        ap (run (AfterColon done h)) (none ∙ r.parts)
        ∙ first_type done h r.front rest t r.past (parts.type_laws.complete r.front t r.spelled)
        ∙ ap (λ x. run (InSignature done h x [] (readers.run types types.begin r.front)) rest) (sym no_vars)
        ∙ ap (λ x. run (InSignature done h vs x (readers.run types types.begin r.front)) rest) (sym no_places)
    all_read vs ps t ts mid rest (alone n p one_var one_place a) r =
        let b = a.2 in
        move (AfterColon done h) all_word a.1.0 ts a.0 (AfterAll done h) a.1.1 refl
        ∙ move (AfterAll done h) (lower n) p a.0 b.0 (WantDot done h (bound n no_kinds ∷ []) (p ∷ [])) b.1 refl
        ∙ ap (λ x. run (WantDot done h x (p ∷ [])) b.0) (sym one_var)
        ∙ ap (λ x. run (WantDot done h vs x) b.0) (sym one_place)
        ∙ move (WantDot done h vs ps) dot b.2.0 b.0 mid (InSignature done h vs ps types.begin) b.2.1 refl
        ∙ ap (run (InSignature done h vs ps types.begin)) r.parts
        ∙ signature_along done h vs ps r.front rest types.begin r.past
    all_read vs ps t ts mid rest (listed a) r =
        let b = a.2 in let c = b.2 in let d = c.2 in let l = c.1 in
        move (AfterColon done h) all_word a.1.0 ts a.0 (AfterAll done h) a.1.1 refl
        ∙ move (AfterAll done h) opening b.1.0 a.0 b.0 (WantVar done h [] []) b.1.1 refl
        ∙ vars_read l.vars l.places [] [] b.0 l.read.0 l.read.1
        ∙ var_then l.vars l.places l.last l.last_place closing l.read.0 d.0 (WantDot done h (l.vars ++ l.last ∷ []) (l.places ++ l.last_place ∷ [])) refl (λ w q. refl) (c.0, l.read.2, d.1)
        ∙ ap (λ x. run (WantDot done h x (l.places ++ l.last_place ∷ [])) d.0) (sym l.all_vars)
        ∙ ap (λ x. run (WantDot done h vs x) d.0) (sym l.all_places)
        ∙ move (WantDot done h vs ps) dot d.2.0 d.0 mid (InSignature done h vs ps types.begin) d.2.1 refl
        ∙ ap (run (InSignature done h vs ps types.begin)) r.parts
        ∙ signature_along done h vs ps r.front rest types.begin r.past

  -- what is read of an item: a state in which it can end
  abbrev EndsIn : Stage → List Entry → List Seen → List Seen → Type 0
  EndsIn s items ts rest = (to : Stage) × (finish to ≡ Some items) × (run s ts ≡ run to rest)

  entry_reads : (i : Entry) (s : Stage) (done : List Entry) (ts rest : List Seen) → finish s ≡ Some done → ReadsEntry OfType OfPattern OfExpr i ts rest → EndsIn s (done ++ i ∷ []) ts rest
  entry_reads (synonym h params t) s done ts rest e r =
      let u = r.2 in let v = u.2 in let w = v.2 in let part = w.2 in (
        InSynonym done h params (readers.run types types.begin part.front),
        ap (machine.end_synonym types patterns exprs entries done h params) (parts.type_laws.complete part.front t part.spelled),
        began s done type_word r.1.0 ts r.0 (AfterType done) e r.1.1 refl
            ∙ move (AfterType done) (upper h.name) h.place r.0 u.0 (InParams done h []) u.1 refl
            ∙ params_read done h params [] u.0 v.0 v.1
            ∙ move (InParams done h params) equals w.1.0 v.0 w.0 (InSynonym done h params types.begin) w.1.1 refl
            ∙ ap (run (InSynonym done h params types.begin)) part.parts
            ∙ synonym_along done h params part.front rest types.begin part.past,
      )
  entry_reads (abstract h params) s done ts rest e r =
      let u = r.2 in (
        InParams done h params,
        refl,
        began s done type_word r.1.0 ts r.0 (AfterType done) e r.1.1 refl
            ∙ move (AfterType done) (upper h.name) h.place r.0 u.0 (InParams done h []) u.1 refl
            ∙ params_read done h params [] u.0 rest u.2,
      )
  entry_reads (signature h vs ps t) s done ts rest e r =
      let u = r.2 in let v = u.2 in let part = v.2 in (
        InSignature done h vs ps (readers.run types types.begin part.front),
        ap (machine.end_signature types patterns exprs entries done h vs ps) (parts.type_laws.complete part.front t part.spelled),
        began s done (lower h.name) h.place ts r.0 (AfterName done h) e r.1 refl
            ∙ move (AfterName done h) colon u.1.0 r.0 u.0 (AfterColon done h) u.1.1 refl
            ∙ all_read done h vs ps t u.0 v.0 rest v.1 part,
      )
  entry_reads (define h x b) s done ts rest e r =
      let u = r.2 in let v = u.2 in let pattern = u.1 in let part = v.2 in
      let whole = parts.pattern_laws.complete pattern.front x pattern.spelled in (
        InBody done h x (readers.run exprs exprs.begin part.front),
        ap (machine.end_body types patterns exprs entries done h x) (parts.expr_laws.complete part.front b part.spelled),
        began s done (lower h.name) h.place ts r.0 (AfterName done h) e r.1 refl
            ∙ ap (run (AfterName done h)) pattern.parts
            ∙ param_reads done h pattern.front u.0 x pattern.past whole
            ∙ move (InParam done h (readers.run patterns patterns.begin pattern.front)) equals v.1.0 u.0 v.0 (InBody done h x exprs.begin) v.1.1
            (ap (machine.on_equals types patterns exprs entries done h (readers.run patterns patterns.begin pattern.front) v.1.0) whole)
            ∙ ap (run (InBody done h x exprs.begin)) part.parts
            ∙ body_along done h x part.front rest exprs.begin part.past,
      )

  program_reads : (items done : List Entry) (s : Stage) (ts : List Seen) → finish s ≡ Some done → ReadsProgram OfType OfPattern OfExpr items ts [] → finish (run s ts) ≡ Some (done ++ items)
  program_reads [] done s ts e r = ap (λ x. finish (run s x)) r ∙ e ∙ ap Some (sym (append-nil done))
  program_reads (i ∷ items) done s ts e r =
      let u = entry_reads i s done ts r.0 e r.1 in
      ap finish u.2 ∙ program_reads items (done ++ i ∷ []) u.0 r.0 u.1 r.2 ∙ ap Some (append_assoc done (i ∷ []) items)

  -- each program that the tokens spell is read
  pub complete : (ts : List Seen) (p : List Entry) → ReadsProgram OfType OfPattern OfExpr p ts [] → finish (run (Between []) ts) ≡ Some p
  complete ts p r = program_reads p [] (Between []) ts refl r

  -- items that are read end in a state in which the last one can end
  items_read : (items done : List Entry) (s : Stage) (ts rest : List Seen) → finish s ≡ Some done → ReadsProgram OfType OfPattern OfExpr items ts rest → EndsIn s (done ++ items) ts rest
  items_read [] done s ts rest e r = (s, e ∙ ap Some (sym (append-nil done)), ap (run s) r)
  items_read (i ∷ items) done s ts rest e r =
      let u = entry_reads i s done ts r.0 e r.1 in
      let v = items_read items (done ++ i ∷ []) u.0 r.0 rest u.1 r.2 in
      (v.0, v.1 ∙ ap Some (append_assoc done (i ∷ []) items), u.2 ∙ v.2)

  -- a body is read where a definition begins behind items
  pub body_reads : (done : List Entry) (h : At) (x : Pattern) (all rest : List Seen)
      → (ReadsProgram OfType OfPattern OfExpr done then head (lower h.name) h.place then IsPart OfPattern x then inner_sign equals) all rest → run (Between []) all ≡ run (InBody done h x exprs.begin) rest
  body_reads done h x all rest r =
      let d = items_read done [] (Between []) all r.0 refl r.1 in
      let u = r.2 in let v = u.2 in let pattern = v.1 in
      let whole = parts.pattern_laws.complete pattern.front x pattern.spelled in
      d.2
      ∙ began d.0 done (lower h.name) h.place r.0 u.0 (AfterName done h) d.1 u.1 refl
      ∙ ap (run (AfterName done h)) pattern.parts
      ∙ param_reads done h pattern.front v.0 x pattern.past whole
      ∙ move (InParam done h (readers.run patterns patterns.begin pattern.front)) equals v.2.0 v.0 rest (InBody done h x exprs.begin) v.2.1
      (ap (machine.on_equals types patterns exprs entries done h (readers.run patterns patterns.begin pattern.front) v.2.0) whole)
