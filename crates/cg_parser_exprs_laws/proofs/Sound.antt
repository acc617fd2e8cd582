-- What the machine has read is what its state spells.
use Rattle.std.proofs.Common.{◌≡◌, ℕ, ◌≤◌, List, [], ◌∷◌, inl, inr, refl, sym, subst, arith, Option, Some, None}
use Rattle.std.specs.Prelude.{nat_le, if◌then◌else◌, ⊤}
use Rattle.std.proofs.lemmas.Bool.{leb-true}
use Rattle.cg_base.specs.declared.place.Place.{Place}
use Rattle.cg_base.specs.Reader.{Reader, run}
use Rattle.cg_core.specs.declared.at.At.{At}
use Rattle.cg_core.specs.declared.op.Op.{Op}
use Rattle.cg_surface.specs.Written.{Written, Writtens, no_types}
use Rattle.cg_surface.specs.Patterns.{Pattern}
use Rattle.cg_surface.specs.Exprs.{Expr, name, con, FieldExprs, Binds as Bindings}
use Rattle.cg_parser_symbols.specs.Symbols.{Symbol, Seen}
use Rattle.cg_parser_symbols.specs.Symbols as symbols
use Rattle.cg_parser_symbols.specs.Readings.{Reading, ◌then◌}
use Rattle.cg_parser_exprs_def.specs.Asked.{Asked}
use Rattle.cg_parser_exprs_def.specs.Grammar.{left_of, looseness, Heads, SpellsExpr}
use Rattle.cg_parser_exprs_def.specs.Machine as machine
use Rattle.cg_parser_exprs_def.specs.Machine.{Owner, Argument, Payload, Angle, Want, Have, AfterLower, AfterUpper, InArgs, InSig, AfterDot, WantField, AfterField, InPattern, AfterAngle, AfterBang, Observed, WantAlt, AfterCon, InAltPattern, WantArrow, Stuck, WrongBar, name_at, starts_atom, operator, alone_op, shift_op, is_second}
use Rattle.cg_parser_build.specs.Plain.{trees}
use Rattle.cg_parser_exprs_def.specs.Plain.{plain_reader}
use Rattle.cg_parser_exprs_def.specs.Unfinished as unfinished
use Rattle.cg_parser_exprs_def.specs.Unfinished.{Frame, Open}
use Rattle.cg_parser_exprs_laws.proofs.Parts.{nothing_read, read_more, part_read}
use Rattle.cg_parser_exprs_laws.proofs.SoundStates as states
use Rattle.cg_parser_exprs_laws.proofs.SoundFacts.{left_le, SignOf, sign_of, shift_left, alone_left, second_sign, at}
use Rattle.cg_parser_exprs_laws.proofs.SoundFrames.{anywhere, whole_of, closed_holds, calls_holds, room_least, spelled, atom_behind, seen_more}
use Rattle.cg_parser_exprs_laws.proofs.SoundEnds.{owned_holds, start_holds, on_in_holds, on_and_holds, on_then_holds, on_end_holds, on_bar_holds, on_op_holds}
use Rattle.cg_base.proofs.Spans.{either_way as choose}
use Rattle.cg_parser_exprs_laws.proofs.CompleteSteps.{loose_le}

module _ {TS PS : Type 0} (types : Reader TS Seen Written) (patterns : Reader PS Seen Pattern) (OfType : List Seen → Written → Type 0) (OfPattern : List Seen → Pattern → Type 0)
    (asked : Asked TS PS types patterns OfType OfPattern) where
  abbrev Mode : Type 0
  Mode = states.Mode types patterns OfType OfPattern

  abbrev opens : List Frame → List ℕ
  opens = machine.opens types patterns trees

  abbrev room : List Frame → ℕ
  room = machine.room types patterns trees

  abbrev closed : ℕ → Expr → List Frame → Expr × List Frame
  closed = machine.closed types patterns trees

  -- what is done behind the closed frames
  abbrev closed_to : {A : Type 0} → ℕ → (Expr → List Frame → A) → Expr → List Frame → A
  closed_to k next e fs = next (closed k e fs).0 (closed k e fs).1

  abbrev Read : Expr → List ℕ → List ℕ → Reading
  Read = unfinished.Read OfType OfPattern

  abbrev Below : List Frame → Reading
  Below = unfinished.Below OfType OfPattern

  abbrev Behind : ℕ → Expr → List Frame → Type 0
  Behind = states.Behind types patterns OfType OfPattern

  abbrev Holds : List Seen → List Seen → Mode → Type 0
  Holds = states.Holds types patterns OfType OfPattern

  abbrev Spelled : List ℕ → List Seen → List Seen → Expr → List Frame → Type 0
  Spelled = states.Spelled types patterns OfType OfPattern

  -- nothing was read
  stuck : (all rest : List Seen) → Holds all rest Stuck
  stuck all rest = record { sound = tt; read = tt }

  wrong : (all rest : List Seen) → Holds all rest WrongBar
  wrong all rest = record { sound = tt; read = tt }

  module _ (all rest : List Seen) (p : Place) where
    then_start_holds : (m : Mode) (y : Symbol) → Holds all (at y p rest) m → Holds all rest (machine.then_start types patterns trees y p m)
    then_start_holds (Want fs) y h = start_holds types patterns OfType OfPattern all rest p y fs h.sound h.read
    then_start_holds m y h = stuck all rest

    after_angle_holds : (y : Symbol) (a : Angle) (q : Place) (e : Expr) (fs : List Frame) → Holds all (at y p rest) (AfterAngle a q e fs) → Holds all rest (machine.after_angle types patterns trees y p a q e fs)
    after_angle_holds y a q e fs h =
        let i = h.sound in let r = h.read in let u = r.2 in let s = spelled types patterns OfType OfPattern 0 (opens fs) all u.0 e fs i (r.0, r.1, u.1) in
        choose (Holds all rest) (is_second a y) (closed_to 5 (machine.on_op types patterns trees (shift_op a) q) e fs) (closed_to 8 (λ x xs. machine.then_start types patterns trees y p (machine.on_op types patterns trees (alone_op a) q x xs)) e fs)
        (λ b. closed_holds types patterns OfType OfPattern (opens fs) all u.0 (Holds all rest) 5 (machine.on_op types patterns trees (shift_op a) q) (omega arith)
        (λ x xs l t. on_op_holds types patterns OfType OfPattern (opens fs) all u.0 rest (shift_op a) q x xs (omega (arith, l, shift_left a)) t (second_sign a y p q u.0 rest b u.2)) fs e (omega (arith, i.0)) s)
        (λ b. closed_holds types patterns OfType OfPattern (opens fs) all u.0 (Holds all rest) 8 (λ x xs. machine.then_start types patterns trees y p (machine.on_op types patterns trees (alone_op a) q x xs)) (omega arith)
        (λ x xs l t. then_start_holds _ y (on_op_holds types patterns OfType OfPattern (opens fs) all u.0 (at y p rest) (alone_op a) q x xs (omega (arith, l, alone_left a)) t u.2)) fs e (omega (arith, i.0)) s)

    -- behind an expression
    ended_holds : (y : Symbol) (e : Expr) (fs : List Frame) → Spelled (opens fs) all (at y p rest) e fs → Holds all rest (closed_to 12 (machine.on_end types patterns trees y) e fs)
    ended_holds y e fs s = closed_holds types patterns OfType OfPattern (opens fs) all (at y p rest) (Holds all rest) 12 (machine.on_end types patterns trees y) (omega arith) (λ x xs l t. on_end_holds types patterns OfType OfPattern all rest p (opens fs) y x xs t) fs e (loose_le e) s

    banged : (to : List ℕ) (e : Expr) (fs : List Frame) → looseness e ≤ 11 → Spelled to all (at symbols.bang p rest) e fs → Holds all rest (AfterBang e [] fs)
    banged to e fs l s =
        let r = s.read in
        record { sound = (l, s.loose, s.stands, s.binds, s.good); read = (r.0, r.1, (_, (anywhere types patterns OfType OfPattern e (opens fs) to (opens fs) r.0 _ l r.2).1, (_, refl, (p, refl)))) }

    go_past_holds : (y : Symbol) (e : Expr) (fs : List Frame) → Behind 0 e fs → (Below fs then Read e (opens fs) (opens fs)) all (at y p rest) → Holds all rest (machine.go_past types patterns trees y p e fs)
    go_past_holds (symbols.less j) e fs i r = record { sound = i; read = (r.0, r.1, (_, r.2, (j, refl))) }
    go_past_holds (symbols.greater j) e fs i r = record { sound = i; read = (r.0, r.1, (_, r.2, (j, refl))) }
    go_past_holds symbols.bang e fs i r =
        closed_holds types patterns OfType OfPattern (opens fs) all _ (Holds all rest) 11 (λ x xs. AfterBang x [] xs) (omega arith) (banged (opens fs)) fs e (omega (arith, i.0)) (spelled types patterns OfType OfPattern 0 (opens fs) all _ e fs i r)
    go_past_holds (symbols.bar first) e fs i r = on_bar_holds types patterns OfType OfPattern all rest p first _ [] e fs (omega (arith, i.0)) (spelled types patterns OfType OfPattern 0 (opens fs) all _ e fs i r) refl
    go_past_holds y e fs i r = ended_holds y e fs (spelled types patterns OfType OfPattern 0 (opens fs) all _ e fs i r)

    at_operator_holds : (o : Option Op) (y : Symbol) (e : Expr) (fs : List Frame) → SignOf o y → Behind 0 e fs → (Below fs then Read e (opens fs) (opens fs)) all (at y p rest) → Holds all rest (machine.at_operator types patterns trees o y p e fs)
    at_operator_holds None y e fs k i r = go_past_holds y e fs i r
    at_operator_holds (Some o) y e fs k i r =
        closed_holds types patterns OfType OfPattern (opens fs) all (at y p rest) (Holds all rest) (left_of o) (machine.on_op types patterns trees o p) (omega (arith, left_le o))
        (λ x xs l t. on_op_holds types patterns OfType OfPattern (opens fs) all (at y p rest) rest o p x xs l t (k p (at y p rest) rest refl)) fs e (omega (arith, i.0)) (spelled types patterns OfType OfPattern 0 (opens fs) all _ e fs i r)

    go_on_holds : (y : Symbol) (e : Expr) (fs : List Frame) → Behind 0 e fs → (Below fs then Read e (opens fs) (opens fs)) all (at y p rest) → Holds all rest (machine.go_on types patterns trees y p e fs)
    go_on_holds y e fs i r = at_operator_holds (operator y) y e fs (sign_of y) i r

    on_argument_holds : (to : List ℕ) (y : Symbol) (e : Expr) (fs : List Frame) → looseness e ≤ 1 → ((1 ≤ room fs) → Heads e) → Spelled to all (at y p rest) e fs → Holds all rest (machine.on_argument types patterns trees y p e fs)
    on_argument_holds to y e fs l g s =
        choose (Holds all rest) (nat_le 1 (room fs)) (machine.start types patterns trees y p (Argument e ∷ fs)) Stuck
        (λ b. let c = leb-true 1 (room fs) b in let r = s.read in
        start_holds types patterns OfType OfPattern all rest p y (Argument e ∷ fs) (c, (l, g c, s.binds), s.good) (r.0, r.1, whole_of types patterns OfType OfPattern e (opens fs) to r.0 _ (omega (arith, l)) r.2))
        (λ b. stuck all rest)

    -- behind an atom that no sign goes on with
    past_atom : (y : Symbol) (e : Expr) (fs : List Frame) → Holds all (at y p rest) (Have e fs)
        → Holds all rest (if starts_atom y then closed_to 1 (machine.on_argument types patterns trees y p) e fs else machine.go_on types patterns trees y p e fs)
    past_atom y e fs h =
        let i = h.sound in let r = h.read in let b = atom_behind types patterns OfType OfPattern e fs i.0 i.1 in
        choose (Holds all rest) (starts_atom y) (closed_to 1 (machine.on_argument types patterns trees y p) e fs) (machine.go_on types patterns trees y p e fs)
        (λ c. calls_holds types patterns OfType OfPattern (opens fs) all (at y p rest) (Holds all rest) (machine.on_argument types patterns trees y p) (on_argument_holds (opens fs) y) fs e (omega (arith, b.0)) i.0.2 (spelled types patterns OfType OfPattern 0 (opens fs) all _ e fs b r))
        (λ c. go_on_holds y e fs b r)

    have_holds : (y : Symbol) (e : Expr) (fs : List Frame) → Holds all (at y p rest) (Have e fs) → Holds all rest (machine.have types patterns trees y p e fs)
    have_holds symbols.dot e fs h =
        let i = h.sound in let r = h.read in
        record { sound = i; read = (r.0, r.1, (_, whole_of types patterns OfType OfPattern e (opens fs) (opens fs) r.0 _ (omega (arith, i.0.0)) r.2, (p, refl))) }
    have_holds symbols.brace e fs h =
        let i = h.sound in let r = h.read in
        record { sound = (i.0, tt, i.1); read = (r.0, r.1, (_, (_, whole_of types patterns OfType OfPattern e (opens fs) (opens fs) r.0 _ (omega (arith, i.0.0)) r.2, (p, refl)), refl)) }
    have_holds y e fs h = past_atom y e fs h

    -- behind a name, and behind a constructor at the head of an expression
    lower_is : (more : List Seen) (q : Place) (n : List ℕ) (fs : List Frame) → Holds all more (AfterLower q n fs) → Holds all more (Have (name q n no_types) fs)
    lower_is more q n fs h = let r = h.read in record { sound = ((omega arith, tt, λ k. tt), h.sound); read = (r.0, r.1, (refl, (_, r.2, refl))) }

    after_lower_holds : (y : Symbol) (q : Place) (n : List ℕ) (fs : List Frame) → Holds all (at y p rest) (AfterLower q n fs) → Holds all rest (machine.after_lower types patterns trees y p q n fs)
    after_lower_holds symbols.bracket q n fs h = let r = h.read in record { sound = h.sound; read = (r.0, r.1, (_, r.2, (_, (p, refl), (rest, refl, nothing_read types rest)))) }
    after_lower_holds y q n fs h = have_holds y (name q n no_types) fs (lower_is (at y p rest) q n fs h)

    after_upper_holds : (y : Symbol) (q : Place) (n : List ℕ) (fs : List Frame) → Holds all (at y p rest) (AfterUpper q n fs) → Holds all rest (machine.after_upper types patterns trees y p q n fs)
    after_upper_holds y q n fs h =
        let i = h.sound in let r = h.read in
        choose (Holds all rest) (starts_atom y) (machine.start types patterns trees y p (Payload q n ∷ fs)) (machine.go_on types patterns trees y p (con q n) fs)
        (λ c. start_holds types patterns OfType OfPattern all rest p y (Payload q n ∷ fs) (room_least types patterns OfType OfPattern fs i.1 i.0, tt, i.1) r)
        (λ c. go_on_holds y (con q n) fs (omega arith, omega arith, λ k. tt, tt, i.1) (r.0, r.1, (refl, r.2)))

    -- in type arguments, and in the type of an annotation
    args_step : (y : Symbol) (q : Place) (n : List ℕ) (args : Writtens) (u : TS) (fs : List Frame) → Holds all (at y p rest) (InArgs q n args u fs) → Holds all rest (InArgs q n args (types.step u (record { symbol = y; place = p })) fs)
    args_step y q n args u fs h =
        let r = h.read in let a = r.2 in let b = a.2 in let c = b.2 in
        record { sound = h.sound; read = (r.0, r.1, (a.0, a.1, (b.0, b.1, (c.0, c.1, read_more types u c.0 rest _ c.2)))) }

    args_more_holds : (q : Place) (n : List ℕ) (args : Writtens) (u : TS) (fs : List Frame) (o : Option Written) → types.finish u ≡ o → Holds all (at symbols.comma p rest) (InArgs q n args u fs)
        → Holds all rest (machine.args_more types patterns trees q n args u (record { symbol = symbols.comma; place = p }) fs o)
    args_more_holds q n args u fs None e h = args_step symbols.comma q n args u fs h
    args_more_holds q n args u fs (Some t) e h =
        let r = h.read in let a = r.2 in let b = a.2 in let c = b.2 in
        record {
          sound = h.sound;
          read = (r.0, r.1, (a.0, a.1, (b.0, b.1, (rest, (c.0, c.1, (_, part_read types OfType asked.type_laws u t c.0 _ e c.2, (p, refl))), nothing_read types rest))));
        }

    args_end_holds : (q : Place) (n : List ℕ) (args : Writtens) (u : TS) (fs : List Frame) (o : Option Written) → types.finish u ≡ o → Holds all (at symbols.closing_bracket p rest) (InArgs q n args u fs)
        → Holds all rest (machine.args_end types patterns trees q n args u (record { symbol = symbols.closing_bracket; place = p }) fs o)
    args_end_holds q n args u fs None e h = args_step symbols.closing_bracket q n args u fs h
    args_end_holds q n args u fs (Some t) e h =
        let r = h.read in let a = r.2 in let b = a.2 in let c = b.2 in
        record {
          sound = ((omega arith, tt, λ k. tt), h.sound);
          read = (r.0, r.1, (refl, (a.0, a.1, (b.0, b.1, (c.0, c.1, (_, part_read types OfType asked.type_laws u t c.0 _ e c.2, (p, refl)))))));
        }

    in_args_holds : (y : Symbol) (q : Place) (n : List ℕ) (args : Writtens) (u : TS) (fs : List Frame) → Holds all (at y p rest) (InArgs q n args u fs) → Holds all rest (machine.in_args types patterns trees y p q n args u fs)
    in_args_holds symbols.comma q n args u fs h = args_more_holds q n args u fs (types.finish u) refl h
    in_args_holds symbols.closing_bracket q n args u fs h = args_end_holds q n args u fs (types.finish u) refl h
    in_args_holds y q n args u fs h = args_step y q n args u fs h

    sig_step : (y : Symbol) (q : Place) (e : Expr) (u : TS) (fs : List Frame) → Holds all (at y p rest) (InSig q e u fs) → Holds all rest (InSig q e (types.step u (record { symbol = y; place = p })) fs)
    sig_step y q e u fs h =
        let r = h.read in let a = r.2 in let b = a.2 in let c = b.2 in
        record { sound = h.sound; read = (r.0, r.1, (a.0, a.1, (b.0, b.1, (c.0, c.1, read_more types u c.0 rest _ c.2)))) }

    sig_end_holds : (q : Place) (a : Expr) (u : TS) (fs : List Frame) (o : Option Written) → types.finish u ≡ o → Holds all (at symbols.closing p rest) (InSig q a u fs)
        → Holds all rest (machine.sig_end types patterns trees q a u (record { symbol = symbols.closing; place = p }) fs o)
    sig_end_holds q e u fs None f h = sig_step symbols.closing q e u fs h
    sig_end_holds q e u fs (Some t) f h =
        let i = h.sound in let r = h.read in let a = r.2 in let b = a.2 in let c = b.2 in
        record {
          sound = ((omega arith, (i.0, i.1), λ k. tt), i.2);
          read = (r.0, r.1, (refl, (a.0, a.1, (b.0, b.1, (c.0, c.1, (_, part_read types OfType asked.type_laws u t c.0 _ f c.2, (p, refl)))))));
        }

    in_sig_holds : (y : Symbol) (q : Place) (e : Expr) (u : TS) (fs : List Frame) → Holds all (at y p rest) (InSig q e u fs) → Holds all rest (machine.in_sig types patterns trees y p q e u fs)
    in_sig_holds symbols.closing q e u fs h = sig_end_holds q e u fs (types.finish u) refl h
    in_sig_holds y q e u fs h = sig_step y q e u fs h

    -- in the pattern of a binding, and in that of an alternative
    pattern_step : (y : Symbol) (q : Place) (bs : Bindings) (u : PS) (fs : List Frame) → Holds all (at y p rest) (InPattern q bs u fs) → Holds all rest (InPattern q bs (patterns.step u (record { symbol = y; place = p })) fs)
    pattern_step y q bs u fs h =
        let r = h.read in let a = r.2 in let b = a.2 in
        record { sound = h.sound; read = (r.0, r.1, (a.0, a.1, (b.0, b.1, read_more patterns u b.0 rest _ b.2))) }

    pattern_end_holds : (q : Place) (bs : Bindings) (u : PS) (fs : List Frame) (o : Option Pattern) → patterns.finish u ≡ o → Holds all (at symbols.equals p rest) (InPattern q bs u fs)
        → Holds all rest (machine.pattern_end types patterns trees q bs u (record { symbol = symbols.equals; place = p }) fs o)
    pattern_end_holds q bs u fs None e h = pattern_step symbols.equals q bs u fs h
    pattern_end_holds q bs u fs (Some x) e h =
        let r = h.read in let a = r.2 in let b = a.2 in
        record { sound = h.sound; read = (r.0, r.1, (a.0, a.1, (b.0, b.1, (_, part_read patterns OfPattern asked.pattern_laws u x b.0 _ e b.2, (p, refl))))) }

    in_pattern_holds : (y : Symbol) (q : Place) (bs : Bindings) (u : PS) (fs : List Frame) → Holds all (at y p rest) (InPattern q bs u fs) → Holds all rest (machine.in_pattern types patterns trees y p q bs u fs)
    in_pattern_holds symbols.equals q bs u fs h = pattern_end_holds q bs u fs (patterns.finish u) refl h
    in_pattern_holds y q bs u fs h = pattern_step y q bs u fs h

    alt_step : (y : Symbol) (o : Open) (q : Place) (n : List ℕ) (u : PS) (fs : List Frame) → Holds all (at y p rest) (InAltPattern o q n u fs) → Holds all rest (InAltPattern o q n (patterns.step u (record { symbol = y; place = p })) fs)
    alt_step y o q n u fs h =
        let r = h.read in let a = r.2 in let b = a.2 in
        record { sound = h.sound; read = (r.0, r.1, (a.0, a.1, (b.0, b.1, read_more patterns u b.0 rest _ b.2))) }

    alt_end_holds : (o : Open) (q : Place) (n : List ℕ) (u : PS) (fs : List Frame) (found : Option Pattern) → patterns.finish u ≡ found → Holds all (at symbols.arrow p rest) (InAltPattern o q n u fs)
        → Holds all rest (machine.alt_end types patterns trees o q n u (record { symbol = symbols.arrow; place = p }) fs found)
    alt_end_holds o q n u fs None e h = alt_step symbols.arrow o q n u fs h
    alt_end_holds o q n u fs (Some x) e h =
        let r = h.read in let a = r.2 in let b = a.2 in
        record { sound = h.sound; read = (r.0, r.1, (a.0, a.1, (_, inr (b.0, b.1, part_read patterns OfPattern asked.pattern_laws u x b.0 _ e b.2), (p, refl)))) }

    in_alt_pattern_holds : (y : Symbol) (o : Open) (q : Place) (n : List ℕ) (u : PS) (fs : List Frame) → Holds all (at y p rest) (InAltPattern o q n u fs) → Holds all rest (machine.in_alt_pattern types patterns trees y p o q n u fs)
    in_alt_pattern_holds symbols.arrow o q n u fs h = alt_end_holds o q n u fs (patterns.finish u) refl h
    in_alt_pattern_holds y o q n u fs h = alt_step y o q n u fs h

    -- where an alternative is wanted, behind its constructor, and behind a name or a wildcard
    want_alt_holds : (y : Symbol) (o : Open) (fs : List Frame) → Holds all (at y p rest) (WantAlt o fs) → Holds all rest (machine.want_alt types patterns trees y p o fs)
    want_alt_holds (symbols.upper n) o fs h = let r = h.read in record { sound = h.sound; read = (r.0, r.1, (_, r.2, refl)) }
    want_alt_holds (symbols.lower n) o fs h = let r = h.read in record { sound = h.sound; read = (r.0, r.1, (_, r.2, inl (n, refl, refl))) }
    want_alt_holds symbols.wildcard o fs h = let r = h.read in record { sound = h.sound; read = (r.0, r.1, (_, r.2, inr (refl, refl))) }
    want_alt_holds y o fs h = stuck all rest

    con_step : (y : Symbol) (o : Open) (q : Place) (n : List ℕ) (fs : List Frame) → Holds all (at y p rest) (AfterCon o q n fs) → Holds all rest (InAltPattern o q n (patterns.step patterns.begin (record { symbol = y; place = p })) fs)
    con_step y o q n fs h =
        let r = h.read in let a = r.2 in
        record { sound = h.sound; read = (r.0, r.1, (a.0, a.1, (_, a.2, read_more patterns patterns.begin _ rest _ (nothing_read patterns (at y p rest))))) }

    after_con_holds : (y : Symbol) (o : Open) (q : Place) (n : List ℕ) (fs : List Frame) → Holds all (at y p rest) (AfterCon o q n fs) → Holds all rest (machine.after_con types patterns trees y p o q n fs)
    after_con_holds symbols.arrow o q n fs h = let r = h.read in let a = r.2 in record { sound = h.sound; read = (r.0, r.1, (a.0, a.1, (_, inl (refl, a.2), (p, refl)))) }
    after_con_holds y o q n fs h = con_step y o q n fs h

    want_arrow_holds : (y : Symbol) (o : Open) (q : Place) (x : Pattern) (fs : List Frame) → Holds all (at y p rest) (WantArrow o q x fs) → Holds all rest (machine.want_arrow types patterns trees y o q x fs)
    want_arrow_holds symbols.arrow o q x fs h = let r = h.read in let a = r.2 in record { sound = h.sound; read = (r.0, r.1, (a.0, a.1, (_, a.2, (p, refl)))) }
    want_arrow_holds y o q x fs h = stuck all rest

    -- behind a dot, where a field is wanted, and behind its name
    after_dot_holds : (y : Symbol) (e : Expr) (fs : List Frame) → Holds all (at y p rest) (AfterDot e fs) → Holds all rest (machine.after_dot types patterns trees y p e fs)
    after_dot_holds (symbols.lower n) e fs h =
        let i = h.sound in let f = i.0 in let r = h.read in let a = r.2 in
        record { sound = ((omega arith, (f.0, f.1), f.2), i.1); read = (r.0, r.1, (refl, refl, (a.0, a.1, (_, a.2, refl)))) }
    after_dot_holds y e fs h = stuck all rest

    want_field_holds : (y : Symbol) (o : Owner Expr) (gs : FieldExprs) (fs : List Frame) → Holds all (at y p rest) (WantField o gs fs) → Holds all rest (machine.want_field types patterns trees y p o gs fs)
    want_field_holds (symbols.lower n) o gs fs h = let r = h.read in let a = r.2 in record { sound = h.sound; read = (r.0, r.1, (a.0, a.1, (_, a.2, refl))) }
    want_field_holds y o gs fs h = stuck all rest

    after_field_holds : (y : Symbol) (o : Owner Expr) (gs : FieldExprs) (f : At) (fs : List Frame) → Holds all (at y p rest) (AfterField o gs f fs) → Holds all rest (machine.after_field types patterns trees y o gs f fs)
    after_field_holds symbols.equals o gs f fs h =
        let i = h.sound in let r = h.read in let a = r.2 in let b = a.2 in
        record { sound = (omega arith, (i.0, i.1), i.2); read = (r.0, r.1, (a.0, a.1, (b.0, b.1, (_, b.2, (p, refl))))) }
    after_field_holds symbols.comma o gs f fs h =
        let i = h.sound in let r = h.read in let a = r.2 in let b = a.2 in
        record { sound = (i.0, (i.1, tt, tt), i.2); read = (r.0, r.1, (a.0, a.1, (b.0, b.1, (_, inl (refl, b.2), (p, refl))))) }
    after_field_holds symbols.closing_brace o gs f fs h =
        let i = h.sound in let r = h.read in let a = r.2 in let b = a.2 in
        owned_holds types patterns OfType OfPattern all rest p o gs f (name f.place f.name no_types) fs i.0 i.1 tt tt i.2 (r.0, r.1, (a.0, a.1, (b.0, b.1, inl (refl, b.2))))
    after_field_holds y o gs f fs h = stuck all rest

    -- behind the sign of an observed variable, and behind its name
    after_bang_holds : (y : Symbol) (e : Expr) (seen : List At) (fs : List Frame) → Holds all (at y p rest) (AfterBang e seen fs) → Holds all rest (machine.after_bang types patterns trees y p e seen fs)
    after_bang_holds (symbols.lower n) e seen fs h =
        let r = h.read in let a = r.2 in let b = a.2 in
        record { sound = h.sound; read = (r.0, r.1, (a.0, a.1, seen_more types patterns OfType OfPattern seen (name_at p n) a.0 b.0 rest b.1 (_, b.2, refl))) }
    after_bang_holds y e seen fs h = stuck all rest

    observed_holds : (y : Symbol) (e : Expr) (seen : List At) (fs : List Frame) → Holds all (at y p rest) (Observed e seen fs) → Holds all rest (machine.observed types patterns trees y p e seen fs)
    observed_holds symbols.bang e seen fs h = let r = h.read in let a = r.2 in record { sound = h.sound; read = (r.0, r.1, (a.0, a.1, (_, a.2, (p, refl)))) }
    observed_holds (symbols.bar first) e seen fs h =
        let i = h.sound in let r = h.read in let a = r.2 in
        on_bar_holds types patterns OfType OfPattern all rest p first a.0 seen e fs i.0 (spelled types patterns OfType OfPattern 11 (opens fs) all a.0 e fs i (r.0, r.1, a.1)) a.2
    observed_holds symbols.in_word e seen fs h =
        let i = h.sound in let r = h.read in let a = r.2 in
        closed_holds types patterns OfType OfPattern (opens fs) all a.0 (Holds all rest) 12 (machine.on_in types patterns trees seen) (omega arith) (λ x xs l t. on_in_holds types patterns OfType OfPattern all rest p (opens fs) a.0 seen x xs t a.2) fs e (loose_le e) (spelled types patterns OfType OfPattern 11 (opens fs) all a.0 e fs i (r.0, r.1, a.1))
    observed_holds symbols.and_word e seen fs h =
        let i = h.sound in let r = h.read in let a = r.2 in
        closed_holds types patterns OfType OfPattern (opens fs) all a.0 (Holds all rest) 12 (machine.on_and types patterns trees seen) (omega arith) (λ x xs l t. on_and_holds types patterns OfType OfPattern all rest p (opens fs) a.0 seen x xs t a.2) fs e (loose_le e) (spelled types patterns OfType OfPattern 11 (opens fs) all a.0 e fs i (r.0, r.1, a.1))
    observed_holds symbols.then_word e seen fs h =
        let i = h.sound in let r = h.read in let a = r.2 in
        closed_holds types patterns OfType OfPattern (opens fs) all a.0 (Holds all rest) 12 (machine.on_then types patterns trees seen) (omega arith) (λ x xs l t. on_then_holds types patterns OfType OfPattern all rest p (opens fs) a.0 seen x xs t a.2) fs e (loose_le e) (spelled types patterns OfType OfPattern 11 (opens fs) all a.0 e fs i (r.0, r.1, a.1))
    observed_holds y e seen fs h = stuck all rest

    -- one token more
    pub mode_holds : (m : Mode) (y : Symbol) → Holds all (at y p rest) m → Holds all rest (machine.mode_step types patterns trees m y p)
    mode_holds (Want fs) y h = start_holds types patterns OfType OfPattern all rest p y fs h.sound h.read
    mode_holds (Have e fs) y h = have_holds y e fs h
    mode_holds (AfterLower q n fs) y h = after_lower_holds y q n fs h
    mode_holds (AfterUpper q n fs) y h = after_upper_holds y q n fs h
    mode_holds (InArgs q n args u fs) y h = in_args_holds y q n args u fs h
    mode_holds (InSig q e u fs) y h = in_sig_holds y q e u fs h
    mode_holds (AfterDot e fs) y h = after_dot_holds y e fs h
    mode_holds (WantField o gs fs) y h = want_field_holds y o gs fs h
    mode_holds (AfterField o gs f fs) y h = after_field_holds y o gs f fs h
    mode_holds (InPattern q bs u fs) y h = in_pattern_holds y q bs u fs h
    mode_holds (AfterAngle a q e fs) y h = after_angle_holds y a q e fs h
    mode_holds (AfterBang e seen fs) y h = after_bang_holds y e seen fs h
    mode_holds (Observed e seen fs) y h = observed_holds y e seen fs h
    mode_holds (WantAlt o fs) y h = want_alt_holds y o fs h
    mode_holds (AfterCon o q n fs) y h = after_con_holds y o q n fs h
    mode_holds (InAltPattern o q n u fs) y h = in_alt_pattern_holds y o q n u fs h
    mode_holds (WantArrow o q x fs) y h = want_arrow_holds y o q x fs h
    mode_holds Stuck y h = stuck all rest
    mode_holds WrongBar y h = wrong all rest

  run_holds : (m : Mode) (all ts : List Seen) → Holds all ts m → Holds all [] (run (plain_reader types patterns) m ts)
  run_holds m all [] h = h
  run_holds m all (t ∷ ts) h = run_holds (machine.mode_step types patterns trees m t.symbol t.place) all ts (mode_holds all ts t.place m t.symbol h)

  -- a state that some tokens lead to has read them
  pub begin_holds : (ts : List Seen) → Holds ts [] (run (plain_reader types patterns) (Want []) ts)
  begin_holds ts = run_holds (Want []) ts ts (record { sound = tt; read = refl })

  -- at the end
  abbrev Ended : List Seen → Option Expr → Type 0
  Ended all None = ⊤
  Ended all (Some e) = SpellsExpr OfType OfPattern all e

  whole_is : (to : List ℕ) (all : List Seen) (e : Expr) (fs : List Frame) → Spelled to all [] e fs → Ended all (machine.whole types patterns trees e fs)
  whole_is to all e [] s =
      let r = s.read in let P : List Seen → Type 0 = λ ts. Read e [] to ts [] in (s.stands (omega arith), s.binds, (to, subst P (sym r.1) r.2))
  whole_is to all e (f ∷ fs) s = tt

  closed_is : (all : List Seen) (e : Expr) (fs : List Frame) → Behind 0 e fs → (Below fs then Read e (opens fs) (opens fs)) all [] → Ended all (closed_to 12 (machine.whole types patterns trees) e fs)
  closed_is all e fs i r =
      closed_holds types patterns OfType OfPattern (opens fs) all [] (Ended all) 12 (machine.whole types patterns trees) (omega arith) (λ x xs l t. whole_is (opens fs) all x xs t) fs e (loose_le e) (spelled types patterns OfType OfPattern 0 (opens fs) all [] e fs i r)

  end_is : (all : List Seen) (m : Mode) → Holds all [] m → Ended all (machine.mode_end types patterns trees m)
  end_is all (Have e fs) h = closed_is all e fs (atom_behind types patterns OfType OfPattern e fs h.sound.0 h.sound.1) h.read
  end_is all (AfterLower q n fs) h =
      let r = h.read in closed_is all (name q n no_types) fs (omega arith, omega arith, λ k. tt, tt, h.sound) (r.0, r.1, (refl, (_, r.2, refl)))
  end_is all (AfterUpper q n fs) h =
      let r = h.read in closed_is all (con q n) fs (omega arith, omega arith, λ k. tt, tt, h.sound.1) (r.0, r.1, (refl, r.2))
  end_is all m h = tt

  -- what is read to its end is spelled
  pub sound : (ts : List Seen) (e : Expr) → (plain_reader types patterns).finish (run (plain_reader types patterns) (Want []) ts) ≡ Some e → SpellsExpr OfType OfPattern ts e
  sound ts e q = let P : Option Expr → Type 0 = λ o. Ended ts o in subst P q (end_is ts (run (plain_reader types patterns) (Want []) ts) (begin_holds ts))
