-- What completeness needs of the grammar alone: levels, the first token of an expression, and where it may be read.
use Rattle.std.proofs.Common.{◌≡◌, ℕ, ◌≤◌, List, [], ◌∷◌, refl, arith, true, false, Bool, Some, None}
use Rattle.cg_base.specs.declared.place.Place.{Place}
use Rattle.cg_base.specs.Reader.{Reader, Reads, run}
use Rattle.cg_core.specs.declared.op.Op.{Op}
use Rattle.cg_core.specs.declared.op.Op.TheVariants.{Mul, Complement, Not}
use Rattle.cg_surface.specs.Written.{Written}
use Rattle.cg_surface.specs.Patterns.{Pattern}
use Rattle.cg_surface.specs.Exprs.{Expr, name, number, bool, unit, paren, sig, tuple, fields, con, con_of, app, member, put, unary, upcast, binary, lets, if_else, match_of}
use Rattle.cg_parser_symbols.specs.Symbols.{Symbol, lower, upper, numeral, true_word, false_word, opening, unboxed, not_word, complement_word, upcast_word, let_word, if_word, Seen}
use Rattle.cg_parser_symbols.specs.Readings.{token}
use Rattle.cg_parser_exprs_def.specs.Grammar.{level, left_of, looseness, Heads, Stands, Binds, ReadsExpr}
use Rattle.cg_parser_exprs_def.specs.Machine.{starts_atom, is_second, ToLeft, ToRight}

-- an operator is tighter than a `let`
pub level_high : (o : Op) → level o ≤ 11
level_high Mul = omega arith
level_high o = omega arith

-- and looser than a call
pub level_low : (o : Op) → 2 ≤ level o
level_low Mul = omega arith
level_low o = omega arith

-- its left operand is no looser than it
pub left_high : (o : Op) → left_of o ≤ level o
left_high Mul = omega arith
left_high o = omega arith

-- every expression has room where a whole one stands
pub loose_le : (e : Expr) → looseness e ≤ 12
loose_le (binary p o a b) = omega (arith, level_high o)
loose_le (con p n) = omega arith
loose_le e = omega arith

-- what may be at the head of a call may stand alone
pub stands : (e : Expr) → Heads e → Stands e
stands (con p n) h = tt
stands (app p f a) h = h
stands e h = h

-- the first token of an expression is no second sign of a shift, and that of an atom begins an atom
pub record First (e : Expr) (ts : List Seen) : Type 0 where
  pub y : Symbol
  pub p : Place
  pub more : List Seen
  pub reads : token y p ts more
  pub left : is_second ToLeft y ≡ false
  pub right : is_second ToRight y ≡ false
  pub atom : looseness e ≤ 0 → starts_atom y ≡ true

module _ (OfType : List Seen → Written → Type 0) (OfPattern : List Seen → Pattern → Type 0) where
  -- an expression that no match ends is read alike whatever is open
  pub anywhere : (e : Expr) (os to at : List ℕ) (ts rest : List Seen) → looseness e ≤ 11 → ReadsExpr OfType OfPattern e os to ts rest → ReadsExpr OfType OfPattern e at at ts rest
  anywhere (app p f a) os to at ts rest h r = (refl, r.1, r.2)
  anywhere (member p a x) os to at ts rest h r = (refl, r.1, r.2)
  anywhere (put p a fs) os to at ts rest h r = (refl, r.1, r.2)
  anywhere (lets p bs b) os to at ts rest h r = absurd (omega arith)
  anywhere (if_else p c seen a b) os to at ts rest h r = absurd (omega arith)
  anywhere (match_of p a seen choices) os to at ts rest h r = absurd (omega arith)
  anywhere e os to at ts rest h r = (refl, r.1)

  -- what is read of an expression begins with such a token
  pub first : (e : Expr) (os to : List ℕ) (ts rest : List Seen) → Binds e → ReadsExpr OfType OfPattern e os to ts rest → First e ts
  first (name p n args) os to ts rest b r = record { y = lower n; p = p; more = r.1.0; reads = r.1.1; left = refl; right = refl; atom = λ l. refl }
  first (number p v) os to ts rest b r = record { y = numeral v; p = p; more = rest; reads = r.1; left = refl; right = refl; atom = λ l. refl }
  first (bool p true) os to ts rest b r = record { y = true_word; p = p; more = rest; reads = r.1; left = refl; right = refl; atom = λ l. refl }
  first (bool p false) os to ts rest b r = record { y = false_word; p = p; more = rest; reads = r.1; left = refl; right = refl; atom = λ l. refl }
  first (unit p) os to ts rest b r = record { y = opening; p = p; more = r.1.0; reads = r.1.1; left = refl; right = refl; atom = λ l. refl }
  first (paren p a) os to ts rest b r = record { y = opening; p = p; more = r.1.0; reads = r.1.1; left = refl; right = refl; atom = λ l. refl }
  first (sig p a t) os to ts rest b r = record { y = opening; p = p; more = r.1.0; reads = r.1.1; left = refl; right = refl; atom = λ l. refl }
  first (tuple p es) os to ts rest b r = record { y = opening; p = p; more = r.1.0; reads = r.1.1; left = refl; right = refl; atom = λ l. refl }
  first (fields p fs) os to ts rest b r = record { y = unboxed; p = p; more = r.1.0; reads = r.1.1; left = refl; right = refl; atom = λ l. refl }
  first (con p n) os to ts rest b r = record { y = upper n; p = p; more = rest; reads = r.1; left = refl; right = refl; atom = λ l. refl }
  first (con_of p n a) os to ts rest b r = record { y = upper n; p = p; more = r.1.0; reads = r.1.1; left = refl; right = refl; atom = λ l. refl }
  first (app p f a) os to ts rest b r =
      let k = first f [] r.2.1.0 ts r.2.0 b.2 r.2.1.1 in
      record { y = k.y; p = k.p; more = k.more; reads = k.reads; left = k.left; right = k.right; atom = λ l. absurd (omega arith) }
  first (member p a at) os to ts rest b r =
      let k = first a [] r.2.1.0 ts r.2.0 b.1 r.2.1.1 in
      record { y = k.y; p = k.p; more = k.more; reads = k.reads; left = k.left; right = k.right; atom = λ l. k.atom b.0 }
  first (put p a fs) os to ts rest b r =
      let k = first a [] r.2.1.0 ts r.2.0 b.1 r.2.1.1 in
      record { y = k.y; p = k.p; more = k.more; reads = k.reads; left = k.left; right = k.right; atom = λ l. k.atom b.0 }
  first (unary p Complement a) os to ts rest b r = record { y = complement_word; p = p; more = r.1.0; reads = r.1.1; left = refl; right = refl; atom = λ l. absurd (omega arith) }
  first (unary p Not a) os to ts rest b r = record { y = not_word; p = p; more = r.1.0; reads = r.1.1; left = refl; right = refl; atom = λ l. absurd (omega arith) }
  first (unary p o a) os to ts rest b r = absurd r.1.1
  first (upcast p a) os to ts rest b r = record { y = upcast_word; p = p; more = r.1.0; reads = r.1.1; left = refl; right = refl; atom = λ l. absurd (omega arith) }
  first (binary p o a b) os to ts rest c r =
      let k = first a [] r.1.1.0 ts r.1.0 c.2 r.1.1.1 in
      record { y = k.y; p = k.p; more = k.more; reads = k.reads; left = k.left; right = k.right; atom = λ l. absurd (omega (arith, level_low o)) }
  first (lets p bs a) os to ts rest b r = record { y = let_word; p = p; more = r.0; reads = r.1; left = refl; right = refl; atom = λ l. absurd (omega arith) }
  first (if_else p c seen a d) os to ts rest b r = record { y = if_word; p = p; more = r.0; reads = r.1; left = refl; right = refl; atom = λ l. absurd (omega arith) }
  first (match_of p a seen choices) os to ts rest b r =
      let k = first a [] r.2.1.0 ts r.2.0 b.2 r.2.1.1 in
      record { y = k.y; p = k.p; more = k.more; reads = k.reads; left = k.left; right = k.right; atom = λ l. absurd (omega arith) }

module _ {State Tree : Type 0} (R : Reader State Seen Tree) (Spells : List Seen → Tree → Type 0) (laws : Reads R Spells) where
  shut_for_ever : (ts : List Seen) (s : State) → R.is_open s ≡ false → R.is_open (run R s ts) ≡ false
  shut_for_ever [] s h = h
  shut_for_ever (t ∷ ts) s h = shut_for_ever ts (R.step s t) (laws.shut s t h)

  -- where a tree comes of a state, it is open
  pub opened : (ts : List Seen) (s : State) (tree : Tree) → R.finish (run R s ts) ≡ Some tree → R.is_open s ≡ true
  opened ts s tree e = go (R.is_open s) refl
    where
      go : (b : Bool) → R.is_open s ≡ b → R.is_open s ≡ true
      go true q = q
      go false q = let none : R.finish (run R s ts) ≡ None = laws.no_tree (run R s ts) (shut_for_ever ts s q) in cc
