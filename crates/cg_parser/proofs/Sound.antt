-- What the machine has read is what its state spells.
use Rattle.std.proofs.Common.{◌≡◌, ℕ, List, [], ◌∷◌, ◌++◌, inl, inr, refl, sym, subst, true, false, Option, Some, None}
use Rattle.std.specs.Prelude.{⊤}
use Rattle.cg_base.specs.declared.kind.Bound.{Bound}
use Rattle.cg_base.specs.declared.place.Place.{Place}
use Rattle.cg_base.specs.Reader.{Reader}
use Rattle.cg_core.specs.declared.at.At.{At}
use Rattle.cg_surface.specs.Written.{Written}
use Rattle.cg_surface.specs.Patterns.{Pattern}
use Rattle.cg_surface.specs.Exprs.{Expr}
use Rattle.cg_surface.specs.Programs.{Entry, synonym, abstract, signature, define}
use Rattle.cg_parser_symbols.specs.Symbols.{Symbol, lower, upper, type_word, all_word, opening, closing, colon, has_kinds, equals, comma, dot, Seen, is_first}
use Rattle.cg_parser_symbols.specs.Readings.{Reading, ◌then◌, head, inner, inner_sign, IsPart}
use Rattle.cg_parser_def.specs.Grammar.{are_letters, kinds_of, no_kinds, bound, ReadsParams, ReadsVar, VarsBefore, ReadsVars, ReadsAll, nothing, alone, listed, head_sign, ReadsEntry, ReadsProgram}
use Rattle.cg_parser_def.specs.Machine.{State, Between, AfterType, InParams, InSynonym, AfterName, AfterColon, AfterAll, WantVar, AfterVar, WantKinds, AfterKinds, WantDot, InSignature, InParam, InBody, Failed, name_at}
use Rattle.cg_parser_def.specs.Machine as machine
use Rattle.cg_parser_def.specs.Plain.{entries}
use Rattle.cg_parser.proofs.Parts.{HasRead, nothing_read, read_more, part_read}
use Rattle.cg_parser.proofs.Complete as complete
use Rattle.cg_parser.proofs.Complete.{Parts}
use Rattle.cg_base.proofs.Spans.{either_way as choose}

-- the symbol that is read
abbrev pub at : Symbol → Place → List Seen → List Seen
at y p rest = record { symbol = y; place = p } ∷ rest

-- what binds type variables, up to the dot
pub data ReadsBinders (vs : List Bound) (ps : List Place) (ts rest : List Seen) : Type 0 where
  alone_there : (n : List ℕ) (p : Place) → vs ≡ bound n no_kinds ∷ [] → ps ≡ p ∷ [] → (inner_sign all_word then inner (lower n) p) ts rest → ReadsBinders vs ps ts rest
  listed_there : (inner_sign all_word then inner_sign opening then ReadsVars vs ps then inner_sign closing) ts rest → ReadsBinders vs ps ts rest

params_more : (params : List At) (n : At) (ts mid rest : List Seen) → ReadsParams params ts mid → inner (lower n.name) n.place mid rest → ReadsParams (params ++ n ∷ []) ts rest
params_more [] n ts mid rest r q = (rest, let P : List Seen → Type 0 = λ x. inner (lower n.name) n.place x rest in subst P (sym r) q, refl)
params_more (m ∷ params) n ts mid rest r q = (r.0, r.1, params_more params n r.0 mid rest r.2 q)

vars_more : (vs : List Bound) (ps : List Place) (v : Bound) (p : Place) (ts mid rest : List Seen) → VarsBefore vs ps ts mid → (ReadsVar v p then inner_sign comma) mid rest
    → VarsBefore (vs ++ v ∷ []) (ps ++ p ∷ []) ts rest
vars_more [] [] v p ts mid rest r q =
    let w = let P : List Seen → Type 0 = λ x. (ReadsVar v p then inner_sign comma) x rest in subst P (sym r) q in (w.0, w.1, (rest, w.2, refl))
vars_more (u ∷ vs) (q ∷ ps) v p ts mid rest r w = (r.0, r.1, (r.2.0, r.2.1, vars_more vs ps v p r.2.0 mid rest r.2.2 w))
vars_more [] (q ∷ ps) v p ts mid rest r w = absurd r
vars_more (u ∷ vs) [] v p ts mid rest r w = absurd r

module _ {TS PS XS : Type 0} (types : Reader TS Seen Written) (patterns : Reader PS Seen Pattern) (exprs : Reader XS Seen Expr)
    (OfType : List Seen → Written → Type 0) (OfPattern : List Seen → Pattern → Type 0) (OfExpr : List Seen → Expr → Type 0)
    (parts : Parts TS PS XS types patterns exprs OfType OfPattern OfExpr) where
  abbrev Stage : Type 0
  Stage = State TS PS XS Pattern (List Entry)

  abbrev pub Done : List Entry → Reading
  Done = ReadsProgram OfType OfPattern OfExpr

  abbrev finish : Stage → Option (List Entry)
  finish = machine.finish types patterns exprs entries

  -- the beginning of a signature, up to what binds type variables
  abbrev Signed : List Entry → At → Reading
  Signed done h = Done done then head (lower h.name) h.place then inner_sign colon

  -- what a state has read of a source, up to the rest
  abbrev pub StageRead : Stage → Reading
  StageRead (Between done) all rest = Done done all rest
  StageRead (AfterType done) all rest = (Done done then head_sign type_word) all rest
  StageRead (InParams done h params) all rest = (Done done then head_sign type_word then inner (upper h.name) h.place then ReadsParams params) all rest
  StageRead (InSynonym done h params s) all rest =
      (Done done then head_sign type_word then inner (upper h.name) h.place then ReadsParams params then inner_sign equals then HasRead types s) all rest
  StageRead (AfterName done h) all rest = (Done done then head (lower h.name) h.place) all rest
  StageRead (AfterColon done h) all rest = (Done done then head (lower h.name) h.place then inner_sign colon) all rest
  StageRead (AfterAll done h) all rest = (Done done then head (lower h.name) h.place then inner_sign colon then inner_sign all_word) all rest
  StageRead (WantVar done h vs ps) all rest = (Signed done h then inner_sign all_word then inner_sign opening then VarsBefore vs ps) all rest
  StageRead (AfterVar done h vs ps n q) all rest =
      (Signed done h then inner_sign all_word then inner_sign opening then VarsBefore vs ps then inner (lower n) q) all rest
  StageRead (WantKinds done h vs ps n q) all rest =
      (Signed done h then inner_sign all_word then inner_sign opening then VarsBefore vs ps then inner (lower n) q then inner_sign has_kinds) all rest
  StageRead (AfterKinds done h vs ps v q) all rest =
      (Signed done h then inner_sign all_word then inner_sign opening then VarsBefore vs ps then ReadsVar v q) all rest
  StageRead (WantDot done h vs ps) all rest = (Signed done h then ReadsBinders vs ps) all rest
  StageRead (InSignature done h vs ps s) all rest = (Signed done h then ReadsAll vs ps then HasRead types s) all rest
  StageRead (InParam done h s) all rest = (Done done then head (lower h.name) h.place then HasRead patterns s) all rest
  StageRead (InBody done h x s) all rest =
      (Done done then head (lower h.name) h.place then IsPart OfPattern x then inner_sign equals then HasRead exprs s) all rest
  StageRead Failed all rest = ⊤

  -- the items that end there
  abbrev Ended : Option (List Entry) → Reading
  Ended None all rest = ⊤
  Ended (Some done) all rest = Done done all rest

  one_more : (done : List Entry) (i : Entry) (all mid rest : List Seen) → Done done all mid → ReadsEntry OfType OfPattern OfExpr i mid rest → Done (done ++ i ∷ []) all rest
  one_more [] i all mid rest r e = (rest, let P : List Seen → Type 0 = λ ts. ReadsEntry OfType OfPattern OfExpr i ts rest in subst P (sym r) e, refl)
  one_more (j ∷ done) i all mid rest r e = (r.0, r.1, one_more done i r.0 mid rest r.2 e)

  synonym_ended : (done : List Entry) (h : At) (params : List At) (s : TS) (o : Option Written) (all rest : List Seen) → types.finish s ≡ o
      → StageRead (InSynonym done h params s) all rest → Ended (machine.end_synonym types patterns exprs entries done h params o) all rest
  synonym_ended done h params s None all rest e r = tt
  synonym_ended done h params s (Some t) all rest e r =
      let u = r.2 in let v = u.2 in let w = v.2 in let x = w.2 in
      one_more done (synonym h params t) all r.0 rest r.1 (u.0, u.1, (v.0, v.1, (w.0, w.1, (x.0, x.1, part_read types OfType parts.type_laws s t x.0 rest e x.2))))

  signature_ended : (done : List Entry) (h : At) (vs : List Bound) (ps : List Place) (s : TS) (o : Option Written) (all rest : List Seen) → types.finish s ≡ o
      → StageRead (InSignature done h vs ps s) all rest → Ended (machine.end_signature types patterns exprs entries done h vs ps o) all rest
  signature_ended done h vs ps s None all rest e r = tt
  signature_ended done h vs ps s (Some t) all rest e r =
      let u = r.1 in let v = u.2 in let w = r.2 in
      one_more done (signature h vs ps t) all u.0 rest u.1 (v.0, v.1, (r.0, v.2, (w.0, w.1, part_read types OfType parts.type_laws s t w.0 rest e w.2)))

  body_ended : (done : List Entry) (h : At) (x : Pattern) (s : XS) (o : Option Expr) (all rest : List Seen) → exprs.finish s ≡ o
      → StageRead (InBody done h x s) all rest → Ended (machine.end_body types patterns exprs entries done h x o) all rest
  body_ended done h x s None all rest e r = tt
  body_ended done h x s (Some b) all rest e r =
      let u = r.2 in let v = u.2 in let w = v.2 in
      one_more done (define h x b) all r.0 rest r.1 (u.0, u.1, (v.0, v.1, (w.0, w.1, part_read exprs OfExpr parts.expr_laws s b w.0 rest e w.2)))

  ended : (s : Stage) (all rest : List Seen) → StageRead s all rest → Ended (finish s) all rest
  ended (Between done) all rest r = r
  ended (AfterType done) all rest r = tt
  ended (InParams done h params) all rest r = let u = r.2 in one_more done (abstract h params) all r.0 rest r.1 u
  ended (InSynonym done h params s) all rest r = synonym_ended done h params s (types.finish s) all rest refl r
  ended (AfterName done h) all rest r = tt
  ended (AfterColon done h) all rest r = tt
  ended (AfterAll done h) all rest r = tt
  ended (WantVar done h vs ps) all rest r = tt
  ended (AfterVar done h vs ps n q) all rest r = tt
  ended (WantKinds done h vs ps n q) all rest r = tt
  ended (AfterKinds done h vs ps v q) all rest r = tt
  ended (WantDot done h vs ps) all rest r = tt
  ended (InSignature done h vs ps s) all rest r = signature_ended done h vs ps s (types.finish s) all rest refl r
  ended (InParam done h s) all rest r = tt
  ended (InBody done h x s) all rest r = body_ended done h x s (exprs.finish s) all rest refl r
  ended Failed all rest r = tt

  head_holds : (o : Option (List Entry)) (y : Symbol) (p : Place) (all rest : List Seen) → is_first p ≡ true → Ended o all (at y p rest)
      → StageRead (machine.on_head types patterns exprs entries o y p) all rest
  head_holds (Some done) (lower n) p all rest first r = (_, r, (first, refl))
  head_holds (Some done) type_word p all rest first r = (_, r, (p, (first, refl)))
  head_holds (Some done) _ p all rest first r = tt
  head_holds None y p all rest first r = tt

  module _ (all rest : List Seen) (p : Place) (past : is_first p ≡ false) where
    after_type_holds : (done : List Entry) (y : Symbol) → StageRead (AfterType done) all (at y p rest) → StageRead (machine.after_type types patterns exprs entries done y p) all rest
    after_type_holds done (upper n) r = (r.0, r.1, (_, r.2, (rest, (past, refl), refl)))
    after_type_holds done _ r = tt

    in_params_holds : (done : List Entry) (h : At) (params : List At) (y : Symbol) → StageRead (InParams done h params) all (at y p rest)
        → StageRead (machine.in_params types patterns exprs entries done h params y p) all rest
    in_params_holds done h params (lower n) r =
        let u = r.2 in let v = u.2 in (r.0, r.1, (u.0, u.1, (v.0, v.1, params_more params (name_at p n) v.0 _ rest v.2 (past, refl))))
    in_params_holds done h params equals r =
        let u = r.2 in let v = u.2 in (r.0, r.1, (u.0, u.1, (v.0, v.1, (_, v.2, (rest, (p, (past, refl)), nothing_read types rest)))))
    in_params_holds done h params _ r = tt

    after_name_holds : (done : List Entry) (h : At) (y : Symbol) → StageRead (AfterName done h) all (at y p rest) → StageRead (machine.after_name types patterns exprs entries done h y p) all rest
    after_name_holds done h colon r = (r.0, r.1, (_, r.2, (p, (past, refl))))
    after_name_holds done h y r = (r.0, r.1, (_, r.2, read_more patterns patterns.begin _ rest _ past (nothing_read patterns _)))

    after_colon_holds : (done : List Entry) (h : At) (y : Symbol) → StageRead (AfterColon done h) all (at y p rest) → StageRead (machine.after_colon types patterns exprs entries done h y p) all rest
    after_colon_holds done h all_word r = let u = r.2 in (r.0, r.1, (u.0, u.1, (_, u.2, (p, (past, refl)))))
    after_colon_holds done h y r =
        let u = r.2 in (_, (r.0, r.1, (u.0, u.1, u.2)), (_, nothing refl refl refl, read_more types types.begin _ rest _ past (nothing_read types _)))

    after_all_holds : (done : List Entry) (h : At) (y : Symbol) → StageRead (AfterAll done h) all (at y p rest) → StageRead (machine.after_all types patterns exprs entries done h y p) all rest
    after_all_holds done h (lower n) r =
        let u = r.2 in let v = u.2 in (v.0, (r.0, r.1, (u.0, u.1, v.1)), alone_there n p refl refl (_, v.2, (past, refl)))
    after_all_holds done h opening r =
        let u = r.2 in let v = u.2 in (v.0, (r.0, r.1, (u.0, u.1, v.1)), (_, v.2, (rest, (p, (past, refl)), refl)))
    after_all_holds done h _ r = tt

    want_var_holds : (done : List Entry) (h : At) (vs : List Bound) (ps : List Place) (y : Symbol) → StageRead (WantVar done h vs ps) all (at y p rest)
        → StageRead (machine.want_var types patterns exprs entries done h vs ps y p) all rest
    want_var_holds done h vs ps (lower n) r =
        let u = r.2 in let v = u.2 in (r.0, r.1, (u.0, u.1, (v.0, v.1, (_, v.2, (past, refl)))))
    want_var_holds done h vs ps _ r = tt

    after_kinds_holds : (done : List Entry) (h : At) (vs : List Bound) (ps : List Place) (v : Bound) (q : Place) (y : Symbol) → StageRead (AfterKinds done h vs ps v q) all (at y p rest)
        → StageRead (machine.after_kinds types patterns exprs entries done h vs ps v q y) all rest
    after_kinds_holds done h vs ps v q comma r =
        let u = r.2 in let w = u.2 in let x = w.2 in (r.0, r.1, (u.0, u.1, (w.0, w.1, vars_more vs ps v q w.0 x.0 rest x.1 (_, x.2, (p, (past, refl))))))
    after_kinds_holds done h vs ps v q closing r =
        let u = r.2 in let w = u.2 in let x = w.2 in
        (r.0, r.1, listed_there (u.0, u.1, (w.0, w.1, (_, record { vars = vs; places = ps; last = v; last_place = q; all_vars = refl; all_places = refl; read = x }, (p, (past, refl))))))
    after_kinds_holds done h vs ps v q _ r = tt

    plain_var : (done : List Entry) (h : At) (vs : List Bound) (ps : List Place) (n : List ℕ) (q : Place) (more : List Seen) → StageRead (AfterVar done h vs ps n q) all more
        → StageRead (AfterKinds done h vs ps (bound n no_kinds) q) all more
    plain_var done h vs ps n q more r = let u = r.2 in let w = u.2 in let x = w.2 in (r.0, r.1, (u.0, u.1, (w.0, w.1, (x.0, x.1, inl (refl, x.2)))))

    after_var_holds : (done : List Entry) (h : At) (vs : List Bound) (ps : List Place) (n : List ℕ) (q : Place) (y : Symbol) → StageRead (AfterVar done h vs ps n q) all (at y p rest)
        → StageRead (machine.after_var types patterns exprs entries done h vs ps n q y) all rest
    after_var_holds done h vs ps n q has_kinds r =
        let u = r.2 in let w = u.2 in let x = w.2 in (r.0, r.1, (u.0, u.1, (w.0, w.1, (x.0, x.1, (_, x.2, (p, (past, refl)))))))
    after_var_holds done h vs ps n q y r = after_kinds_holds done h vs ps (bound n no_kinds) q y (plain_var done h vs ps n q (at y p rest) r)

    want_kinds_holds : (done : List Entry) (h : At) (vs : List Bound) (ps : List Place) (n : List ℕ) (q : Place) (y : Symbol) → StageRead (WantKinds done h vs ps n q) all (at y p rest)
        → StageRead (machine.want_kinds types patterns exprs entries done h vs ps n q y) all rest
    want_kinds_holds done h vs ps n q (upper letters) r =
        choose (λ s. StageRead s all rest) (are_letters letters) (AfterKinds done h vs ps (bound n (kinds_of letters)) q) Failed
        (λ e. let u = r.2 in let w = u.2 in let x = w.2 in let z = x.2 in
        (r.0, r.1, (u.0, u.1, (w.0, w.1, (x.0, x.1, inr (letters, e, refl, (z.0, z.1, (_, z.2, (p, (past, refl))))))))))
        (λ e. tt)
    want_kinds_holds done h vs ps n q _ r = tt

    dotted : (vs : List Bound) (ps : List Place) (ts : List Seen) → ReadsBinders vs ps ts (at dot p rest) → ReadsAll vs ps ts rest
    dotted vs ps ts (alone_there n q one_var one_place r) = alone n q one_var one_place (r.0, r.1, (_, r.2, (p, (past, refl))))
    dotted vs ps ts (listed_there r) = let u = r.2 in let v = u.2 in listed (r.0, r.1, (u.0, u.1, (v.0, v.1, (_, v.2, (p, (past, refl))))))

    want_dot_holds : (done : List Entry) (h : At) (vs : List Bound) (ps : List Place) (y : Symbol) → StageRead (WantDot done h vs ps) all (at y p rest)
        → StageRead (machine.want_dot types patterns exprs entries done h vs ps y) all rest
    want_dot_holds done h vs ps dot r = (r.0, r.1, (rest, dotted vs ps r.0 r.2, nothing_read types rest))
    want_dot_holds done h vs ps _ r = tt

    equals_holds : (done : List Entry) (h : At) (s : PS) (o : Option Pattern) → patterns.finish s ≡ o → StageRead (InParam done h s) all (at equals p rest)
        → StageRead (machine.on_equals types patterns exprs entries done h s p o) all rest
    equals_holds done h s (Some x) e r =
        let u = r.2 in (r.0, r.1, (u.0, u.1, (_, part_read patterns OfPattern parts.pattern_laws s x u.0 _ e u.2, (rest, (p, (past, refl)), nothing_read exprs rest))))
    equals_holds done h s None e r = let u = r.2 in (r.0, r.1, (u.0, u.1, read_more patterns s u.0 rest _ past u.2))

    in_param_holds : (done : List Entry) (h : At) (s : PS) (y : Symbol) → StageRead (InParam done h s) all (at y p rest) → StageRead (machine.in_param types patterns exprs entries done h s y p) all rest
    in_param_holds done h s equals r = equals_holds done h s (patterns.finish s) refl r
    in_param_holds done h s y r = let u = r.2 in (r.0, r.1, (u.0, u.1, read_more patterns s u.0 rest _ past u.2))

    inside_holds : (s : Stage) (y : Symbol) → StageRead s all (at y p rest) → StageRead (machine.inside types patterns exprs entries s y p) all rest
    inside_holds (Between done) y r = tt
    inside_holds (AfterType done) y r = after_type_holds done y r
    inside_holds (InParams done h params) y r = in_params_holds done h params y r
    inside_holds (InSynonym done h params s) y r =
        let u = r.2 in let v = u.2 in let w = v.2 in let x = w.2 in (r.0, r.1, (u.0, u.1, (v.0, v.1, (w.0, w.1, (x.0, x.1, read_more types s x.0 rest _ past x.2)))))
    inside_holds (AfterName done h) y r = after_name_holds done h y r
    inside_holds (AfterColon done h) y r = after_colon_holds done h y r
    inside_holds (AfterAll done h) y r = after_all_holds done h y r
    inside_holds (WantVar done h vs ps) y r = want_var_holds done h vs ps y r
    inside_holds (AfterVar done h vs ps n q) y r = after_var_holds done h vs ps n q y r
    inside_holds (WantKinds done h vs ps n q) y r = want_kinds_holds done h vs ps n q y r
    inside_holds (AfterKinds done h vs ps v q) y r = after_kinds_holds done h vs ps v q y r
    inside_holds (WantDot done h vs ps) y r = want_dot_holds done h vs ps y r
    inside_holds (InSignature done h vs ps s) y r = let u = r.2 in (r.0, r.1, (u.0, u.1, read_more types s u.0 rest _ past u.2))
    inside_holds (InParam done h s) y r = in_param_holds done h s y r
    inside_holds (InBody done h x s) y r =
        let u = r.2 in let v = u.2 in let w = v.2 in (r.0, r.1, (u.0, u.1, (v.0, v.1, (w.0, w.1, read_more exprs s w.0 rest _ past w.2))))
    inside_holds Failed y r = tt

  abbrev step : Stage → Seen → Stage
  step = machine.step types patterns exprs entries

  abbrev run : Stage → List Seen → Stage
  run = complete.run types patterns exprs OfType OfPattern OfExpr parts

  -- one token more
  pub step_holds : (s : Stage) (all rest : List Seen) (t : Seen) → StageRead s all (t ∷ rest) → StageRead (step s t) all rest
  step_holds s all rest t r =
      choose (λ x. StageRead x all rest) (is_first t.place) (machine.on_head types patterns exprs entries (finish s) t.symbol t.place) (machine.inside types patterns exprs entries s t.symbol t.place)
      (λ first. head_holds (finish s) t.symbol t.place all rest first (ended s all (t ∷ rest) r))
      (λ past. inside_holds all rest t.place past s t.symbol r)

  run_holds : (s : Stage) (all ts : List Seen) → StageRead s all ts → StageRead (run s ts) all []
  run_holds s all [] r = r
  run_holds s all (t ∷ ts) r = run_holds (step s t) all ts (step_holds s all ts t r)

  pub begin_holds : (ts : List Seen) → StageRead (run (Between []) ts) ts []
  begin_holds ts = run_holds (Between []) ts ts refl

  -- what is read to its end is spelled
  pub sound : (ts : List Seen) (p : List Entry) → finish (run (Between []) ts) ≡ Some p → Done p ts []
  sound ts p e = let P : Option (List Entry) → Type 0 = λ o. Ended o ts [] in subst P e (ended (run (Between []) ts) ts [] (begin_holds ts))
