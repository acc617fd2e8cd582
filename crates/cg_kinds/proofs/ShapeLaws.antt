-- The laws of shapes, each by induction over types.
use Rattle.std.proofs.Common.{◌≡◌, refl, ap, arith}
use Rattle.cg_base.specs.declared.kind.Sigil.{Sigil}
use Rattle.cg_base.specs.declared.kind.Sigil.TheVariants.{R, W, U}
use Rattle.cg_base.specs.Types.{Tau, var, seen, unit, word, bool, arrow, abs, variant, fields, Taus, none, more, Parts, end, part}
use Rattle.cg_kinds.specs.Kinds.{bang, bang_all, bang_parts, bang_sigil, width, width_all, width_parts}
use Rattle.cg_kinds.specs.Shapes.{shape, shape_all, shape_parts, shape_sigil}

shape_sigil_twice : (s : Sigil) → shape_sigil (shape_sigil s) ≡ shape_sigil s
shape_sigil_twice R = refl
shape_sigil_twice W = refl
shape_sigil_twice U = refl

shape_of_bang_sigil : (s : Sigil) → shape_sigil (bang_sigil s) ≡ shape_sigil s
shape_of_bang_sigil R = refl
shape_of_bang_sigil W = refl
shape_of_bang_sigil U = refl

-- the shape of a shape is the shape
mutual
  unfolding shape

  pub shape_twice : (t : Tau) → shape (shape t) ≡ shape t
  shape_twice (var n) = refl
  shape_twice (seen n) = refl
  shape_twice unit = refl
  shape_twice (word w) = refl
  shape_twice bool = refl
  shape_twice (arrow a b) = refl
  shape_twice (abs x ts s) = cc (shape_all_twice ts, shape_sigil_twice s)
  shape_twice (variant ps) = ap variant (shape_parts_twice ps)
  shape_twice (fields ps s) = cc (shape_parts_twice ps, shape_sigil_twice s)

  shape_all_twice : (ts : Taus) → shape_all (shape_all ts) ≡ shape_all ts
  shape_all_twice none = refl
  shape_all_twice (more t ts) = cc (shape_twice t, shape_all_twice ts)

  shape_parts_twice : (ps : Parts) → shape_parts (shape_parts ps) ≡ shape_parts ps
  shape_parts_twice end = refl
  shape_parts_twice (part x t taken ps) = cc (shape_twice t, shape_parts_twice ps)

-- without type variables, what is observed has the shape that it had
mutual
  unfolding shape bang width

  pub shape_of_bang : (t : Tau) → width t ≡ 0 → shape (bang t) ≡ shape t
  shape_of_bang (var n) closed = absurd (omega arith)
  shape_of_bang (seen n) closed = refl
  shape_of_bang unit closed = refl
  shape_of_bang (word w) closed = refl
  shape_of_bang bool closed = refl
  shape_of_bang (arrow a b) closed = refl
  shape_of_bang (abs x ts s) closed = cc (shape_of_bang_all ts closed, shape_of_bang_sigil s)
  shape_of_bang (variant ps) closed = ap variant (shape_of_bang_parts ps closed)
  shape_of_bang (fields ps s) closed = cc (shape_of_bang_parts ps closed, shape_of_bang_sigil s)

  shape_of_bang_all : (ts : Taus) → width_all ts ≡ 0 → shape_all (bang_all ts) ≡ shape_all ts
  shape_of_bang_all none closed = refl
  shape_of_bang_all (more t ts) closed = cc (shape_of_bang t (omega arith), shape_of_bang_all ts (omega arith))

  shape_of_bang_parts : (ps : Parts) → width_parts ps ≡ 0 → shape_parts (bang_parts ps) ≡ shape_parts ps
  shape_of_bang_parts end closed = refl
  shape_of_bang_parts (part x t taken ps) closed = cc (shape_of_bang t (omega arith), shape_of_bang_parts ps (omega arith))
