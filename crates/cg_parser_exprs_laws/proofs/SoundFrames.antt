-- What frames have read stays read where they are closed.
use Rattle.std.proofs.Common.{◌≡◌, ℕ, ◌≤◌, List, [], ◌∷◌, ◌++◌, refl, sym, subst, arith, Option}
use Rattle.std.specs.Prelude.{nat_le, if◌then◌else◌}
use Rattle.std.proofs.lemmas.Bool.{leb-true}
use Rattle.cg_base.specs.declared.place.Place.{Place}
use Rattle.cg_base.specs.Reader.{Reader}
use Rattle.cg_core.specs.declared.at.At.{At}
use Rattle.cg_surface.specs.Written.{Written}
use Rattle.cg_surface.specs.Patterns.{Pattern}
use Rattle.cg_surface.specs.Exprs.{Expr, name, number, bool, unit, paren, sig, tuple, fields, con, con_of, app, member, put, unary, upcast, binary, lets, if_else, match_of, Alts, no_alts, and_alt}
use Rattle.cg_parser_symbols.specs.Symbols.{Seen}
use Rattle.cg_parser_symbols.specs.Symbols as symbols
use Rattle.cg_parser_symbols.specs.Readings.{Reading, ◌then◌, token, sign}
use Rattle.cg_parser_exprs_def.specs.Grammar.{looseness, Heads, ReadsHead, ReadsAlts}
use Rattle.cg_parser_exprs_def.specs.Machine as machine
use Rattle.cg_parser_exprs_def.specs.Machine.{Operation, Upcast, InParen, InTuple, InField, Argument, Payload, Operand, RightOf, Bound, Body, Condition, Then, Else, Branch}
use Rattle.cg_parser_build.specs.Plain.{trees}
use Rattle.cg_parser_exprs_def.specs.Unfinished as unfinished
use Rattle.cg_parser_exprs_def.specs.Unfinished.{Frame, AtomFits, Fits}
use Rattle.cg_parser_exprs_laws.proofs.SoundStates as states
use Rattle.cg_parser_exprs_laws.proofs.SoundFacts.{right_le, right_least, stands_of, at}
use Rattle.cg_base.proofs.Spans.{either_way as choose}

module _ {TS PS : Type 0} (types : Reader TS Seen Written) (patterns : Reader PS Seen Pattern) (OfType : List Seen → Written → Type 0) (OfPattern : List Seen → Pattern → Type 0) where
  abbrev opens : List Frame → List ℕ
  opens = machine.opens types patterns trees

  abbrev room : List Frame → ℕ
  room = machine.room types patterns trees

  abbrev closes : Frame → ℕ
  closes = machine.closes types patterns trees

  abbrev fill : Frame → Expr → Expr
  fill = machine.fill types patterns trees

  abbrev closed : ℕ → Expr → List Frame → Expr × List Frame
  closed = machine.closed types patterns trees

  -- what is done behind the closed frames
  abbrev closed_to : {A : Type 0} → ℕ → (Expr → List Frame → A) → Expr → List Frame → A
  closed_to k next e fs = next (closed k e fs).0 (closed k e fs).1

  abbrev Read : Expr → List ℕ → List ℕ → Reading
  Read = unfinished.Read OfType OfPattern

  abbrev Whole : Expr → Reading
  Whole = unfinished.Whole OfType OfPattern

  abbrev SeenRead : List At → Reading
  SeenRead = unfinished.SeenRead OfType OfPattern

  abbrev BarRead : Alts → ℕ → List ℕ → Reading
  BarRead = unfinished.BarRead OfType OfPattern

  abbrev Below : List Frame → Reading
  Below = unfinished.Below OfType OfPattern

  abbrev Good : List Frame → Type 0
  Good = unfinished.Good OfType OfPattern

  abbrev Behind : ℕ → Expr → List Frame → Type 0
  Behind = states.Behind types patterns OfType OfPattern

  abbrev Spelled : List ℕ → List Seen → List Seen → Expr → List Frame → Type 0
  Spelled = states.Spelled types patterns OfType OfPattern

  -- where no match can be at its end, an expression is read alike among any open matches, and leaves them as they are
  pub anywhere : (e : Expr) (os to other : List ℕ) (ts rest : List Seen) → looseness e ≤ 11 → Read e os to ts rest → (to ≡ os) × Read e other other ts rest
  anywhere (name p n args) os to other ts rest h r = (r.0, (refl, r.1))
  anywhere (number p v) os to other ts rest h r = (r.0, (refl, r.1))
  anywhere (bool p b) os to other ts rest h r = (r.0, (refl, r.1))
  anywhere (unit p) os to other ts rest h r = (r.0, (refl, r.1))
  anywhere (paren p a) os to other ts rest h r = (r.0, (refl, r.1))
  anywhere (sig p a t) os to other ts rest h r = (r.0, (refl, r.1))
  anywhere (tuple p es) os to other ts rest h r = (r.0, (refl, r.1))
  anywhere (fields p fs) os to other ts rest h r = (r.0, (refl, r.1))
  anywhere (con p n) os to other ts rest h r = (r.0, (refl, r.1))
  anywhere (con_of p n a) os to other ts rest h r = (r.0, (refl, r.1))
  anywhere (app p f a) os to other ts rest h r = (r.0, (refl, r.1, r.2))
  anywhere (member p a at) os to other ts rest h r = (r.0, (refl, r.1, r.2))
  anywhere (put p a fs) os to other ts rest h r = (r.0, (refl, r.1, r.2))
  anywhere (unary p o a) os to other ts rest h r = (r.0, (refl, r.1))
  anywhere (upcast p a) os to other ts rest h r = (r.0, (refl, r.1))
  anywhere (binary p o a b) os to other ts rest h r = (r.0, (refl, r.1))
  anywhere (lets p bs b) os to other ts rest h r = absurd (omega arith)
  anywhere (if_else p c seen a b) os to other ts rest h r = absurd (omega arith)
  anywhere (match_of p e seen choices) os to other ts rest h r = absurd (omega arith)

  -- and it is whole
  pub whole_of : (e : Expr) (os to : List ℕ) (ts rest : List Seen) → looseness e ≤ 11 → Read e os to ts rest → Whole e ts rest
  whole_of e os to ts rest h r = ([], (anywhere e os to [] ts rest h r).1)

  -- an alternative more
  pub alts_read : (before : Alts) (c : ℕ) (os to : List ℕ) (p : Place) (head : Option (List ℕ)) (x : Pattern) (b : Expr) (ts rest : List Seen)
      → (BarRead before c os then ReadsHead OfType OfPattern p head x then sign symbols.arrow then Read b (c ∷ os) to) ts rest
      → ReadsAlts OfType OfPattern (and_alt before p head x b) c os to ts rest
  alts_read no_alts c os to p head x b ts rest r = let k = r.1 in (k.0, k.1, k.2, k.3, (r.0, k.4, r.2))
  alts_read (and_alt choices q other y a) c os to p head x b ts rest r =
      let k = r.1 in (k.0, k.1, k.2, k.3, k.4, k.5, (k.6.0, k.6.1, (r.0, k.6.2, r.2)))

  -- a frame that is closed without a token of its own
  fill_loose : (f : Frame) (e : Expr) → closes f ≤ 12 → looseness (fill f e) ≤ closes f
  fill_loose (InParen p) e h = absurd (omega arith)
  fill_loose (InTuple p es) e h = absurd (omega arith)
  fill_loose (InField o gs at) e h = absurd (omega arith)
  fill_loose (Argument f) e h = omega arith
  fill_loose (Payload p n) e h = omega arith
  fill_loose (Operand p (Operation o)) e h = omega arith
  fill_loose (Operand p Upcast) e h = omega arith
  fill_loose (RightOf p o a) e h = omega arith
  fill_loose (Bound p bs x) e h = absurd (omega arith)
  fill_loose (Body p bs) e h = omega arith
  fill_loose (Condition p) e h = absurd (omega arith)
  fill_loose (Then p c seen) e h = absurd (omega arith)
  fill_loose (Else p c seen a) e h = omega arith
  fill_loose (Branch o p c x) e h = omega arith

  -- behind a call a constructor is no head
  fill_heads : (r : ℕ) (f : Frame) (e : Expr) → closes f ≤ 1 → Fits r f → Heads (fill f e)
  fill_heads r (InParen p) e h g = absurd (omega arith)
  fill_heads r (InTuple p es) e h g = absurd (omega arith)
  fill_heads r (InField o gs at) e h g = absurd (omega arith)
  fill_heads r (Argument f) e h g = g.1
  fill_heads r (Payload p n) e h g = absurd (omega arith)
  fill_heads r (Operand p o) e h g = absurd (omega arith)
  fill_heads r (RightOf p o a) e h g = absurd (omega (arith, g.0))
  fill_heads r (Bound p bs x) e h g = absurd (omega arith)
  fill_heads r (Body p bs) e h g = absurd (omega arith)
  fill_heads r (Condition p) e h g = absurd (omega arith)
  fill_heads r (Then p c seen) e h g = absurd (omega arith)
  fill_heads r (Else p c seen a) e h g = absurd (omega arith)
  fill_heads r (Branch o p c x) e h g = absurd (omega arith)

  module _ (to : List ℕ) (all rest : List Seen) where
    -- a frame that is closed with its expression has read what both have
    pub fill_holds : (f : Frame) (e : Expr) (fs : List Frame) → closes f ≤ 12 → Spelled to all rest e (f ∷ fs) → Spelled to all rest (fill f e) fs
    fill_holds (InParen p) e fs h s = absurd (omega arith)
    fill_holds (InTuple p es) e fs h s = absurd (omega arith)
    fill_holds (InField o gs at) e fs h s = absurd (omega arith)
    fill_holds (Argument f) e fs h s =
        let g = s.good in let r = s.read in let a = anywhere e (opens fs) to [] r.0 rest (omega (arith, s.loose)) r.2 in
        record {
          loose = g.0;
          stands = λ k. g.1.1;
          binds = (g.1.0, g.1.1, g.1.2, s.loose, s.binds);
          good = g.2;
          read = (r.1.0, r.1.1, (a.0, refl, (r.0, r.1.2, ([], a.1))));
        }
    fill_holds (Payload p n) e fs h s =
        let g = s.good in let r = s.read in let a = anywhere e (opens fs) to [] r.0 rest (omega (arith, s.loose)) r.2 in
        record { loose = g.0; stands = λ k. tt; binds = (s.loose, s.binds); good = g.2; read = (r.1.0, r.1.1, (a.0, (r.0, r.1.2, ([], a.1)))) }
    fill_holds (Operand p (Operation o)) e fs h s =
        let g = s.good in let r = s.read in let a = anywhere e (opens fs) to [] r.0 rest (omega (arith, s.loose)) r.2 in
        record { loose = g.0; stands = λ k. tt; binds = (s.loose, s.stands (omega arith), s.binds); good = g.2; read = (r.1.0, r.1.1, (a.0, (r.0, r.1.2, ([], a.1)))) }
    fill_holds (Operand p Upcast) e fs h s =
        let g = s.good in let r = s.read in let a = anywhere e (opens fs) to [] r.0 rest (omega (arith, s.loose)) r.2 in
        record { loose = g.0; stands = λ k. tt; binds = (s.loose, s.stands (omega arith), s.binds); good = g.2; read = (r.1.0, r.1.1, (a.0, (r.0, r.1.2, ([], a.1)))) }
    fill_holds (RightOf p o b) e fs h s =
        let g = s.good in let r = s.read in let a = anywhere e (opens fs) to [] r.0 rest (omega (arith, s.loose, right_le o)) r.2 in
        let i = g.1 in let q = r.1.2 in
        record {
          loose = g.0;
          stands = λ k. tt;
          binds = (i.1, i.2, i.3, s.loose, s.stands (omega (arith, right_least o i.0)), s.binds);
          good = g.2;
          read = (r.1.0, r.1.1, (a.0, (q.0, q.1, (r.0, q.2, ([], a.1)))));
        }
    fill_holds (Bound p bs x) e fs h s = absurd (omega arith)
    fill_holds (Body p bs) e fs h s =
        let g = s.good in let r = s.read in let q = r.1.2 in
        record {
          loose = g.0;
          stands = λ k. tt;
          binds = (g.1, s.stands (omega arith), s.binds);
          good = g.2;
          read = (r.1.0, r.1.1, (q.0, q.1, (q.2.0, q.2.1, (r.0, q.2.2, r.2))));
        }
    fill_holds (Condition p) e fs h s = absurd (omega arith)
    fill_holds (Then p c seen) e fs h s = absurd (omega arith)
    fill_holds (Else p c seen b) e fs h s =
        let g = s.good in let r = s.read in let i = g.1 in let q = r.1.2 in let u = q.2 in let v = u.2 in let w = v.2 in let x = w.2 in
        record {
          loose = g.0;
          stands = λ k. tt;
          binds = (i.0, i.1, i.2, i.3, s.stands (omega arith), s.binds);
          good = g.2;
          read = (r.1.0, r.1.1, (q.0, q.1, (u.0, u.1, (v.0, v.1, (w.0, w.1, (x.0, x.1, (r.0, x.2, r.2)))))));
        }
    fill_holds (Branch o p c x) e fs h s =
        let g = s.good in let r = s.read in let i = g.1 in let b = r.1.2 in let m = b.1 in let k = b.2 in
        record {
          loose = g.0;
          stands = λ j. tt;
          binds = (i.0, i.1, i.2, i.3, (i.4, s.stands (omega arith), s.binds));
          good = g.2;
          read = (r.1.0, r.1.1, (refl, o.column, (m.0, m.1, (m.2.0, m.2.1, alts_read o.before o.column (opens fs) to p c x e m.2.0 rest (b.0, m.2.2, (k.0, k.1, (r.0, k.2, r.2)))))));
        }

    -- what holds behind each expression holds behind the closed frames
    pub closed_holds : {A : Type 0} (Q : A → Type 0) (k : ℕ) (next : Expr → List Frame → A) → k ≤ 12 → ((e : Expr) (fs : List Frame) → looseness e ≤ k → Spelled to all rest e fs → Q (next e fs)) → (fs : List Frame) (e : Expr) → looseness e ≤ k → Spelled to all rest e fs → Q (closed_to k next e fs)
    closed_holds Q k next le h [] e l s = h e [] l s
    closed_holds Q k next le h (f ∷ fs) e l s =
        choose (λ r. Q (next r.0 r.1)) (nat_le (closes f) k) (closed k (fill f e) fs) (e, f ∷ fs)
        (λ q. let c = leb-true (closes f) k q in
        closed_holds Q k next le h fs (fill f e) (omega (arith, c, le, fill_loose f e (omega (arith, c, le)))) (fill_holds f e fs (omega (arith, c, le)) s))
        (λ q. h e (f ∷ fs) l s)

    -- the same of calls, which have no constructor at their heads
    pub calls_holds : {A : Type 0} (Q : A → Type 0) (next : Expr → List Frame → A) → ((e : Expr) (fs : List Frame) → looseness e ≤ 1 → ((1 ≤ room fs) → Heads e) → Spelled to all rest e fs → Q (next e fs)) → (fs : List Frame) (e : Expr) → looseness e ≤ 1 → ((1 ≤ room fs) → Heads e) → Spelled to all rest e fs → Q (closed_to 1 next e fs)
    calls_holds Q next h [] e l g s = h e [] l g s
    calls_holds Q next h (f ∷ fs) e l g s =
        choose (λ r. Q (next r.0 r.1)) (nat_le (closes f) 1) (closed 1 (fill f e) fs) (e, f ∷ fs)
        (λ q. let c = leb-true (closes f) 1 q in
        calls_holds Q next h fs (fill f e) (omega (arith, c, fill_loose f e (omega (arith, c)))) (λ k. fill_heads (room fs) f e c s.good.1) (fill_holds f e fs (omega (arith, c)) s))
        (λ q. h e (f ∷ fs) l g s)

  -- where an argument may stand a call may, and where a call may an operand
  pub room_least : (fs : List Frame) → Good fs → 1 ≤ room fs → 2 ≤ room fs
  room_least [] g h = omega arith
  room_least (Argument f ∷ fs) g h = absurd (omega arith)
  room_least (Payload p n ∷ fs) g h = absurd (omega arith)
  room_least (RightOf p o a ∷ fs) g h = right_least o g.1.0
  room_least (f ∷ fs) g h = omega arith

  -- an expression at most so loose that has been read
  pub spelled : (k : ℕ) (to : List ℕ) (all rest : List Seen) (e : Expr) (fs : List Frame) → Behind k e fs → (Below fs then Read e (opens fs) to) all rest → Spelled to all rest e fs
  spelled k to all rest e fs b r = record { loose = b.1; stands = b.2; binds = b.3; good = b.4; read = r }

  -- an atom is one
  pub atom_behind : (e : Expr) (fs : List Frame) → AtomFits (room fs) e → Good fs → Behind 0 e fs
  atom_behind e fs i g = (i.0, omega (arith, i.0), λ k. stands_of e (i.2 k), i.1, g)

  -- an observed variable more
  pub seen_more : (ns : List At) (n : At) (ts mid rest : List Seen) → SeenRead ns ts mid → (sign symbols.bang then token (symbols.lower n.name) n.place) mid rest → SeenRead (ns ++ n ∷ []) ts rest
  seen_more [] n ts mid rest r k =
      let P : List Seen → Type 0 = λ x. (sign symbols.bang then token (symbols.lower n.name) n.place) x rest in
      let w = subst P (sym r) k in (w.0, w.1, (rest, w.2, refl))
  seen_more (m ∷ ns) n ts mid rest r k = (r.0, r.1, (r.2.0, r.2.1, seen_more ns n r.2.0 mid rest r.2.2 k))
