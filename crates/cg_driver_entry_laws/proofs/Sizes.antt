-- The type of a function is no larger than the largest type that its program writes.
use Rattle.std.proofs.Common.{◌≡◌, ℕ, zero, suc, ◌+◌, ◌≤◌, List, [], ◌∷◌, ◌++◌, Some, refl, ap, subst as carry, arith}
use Rattle.std.specs.List.{slice_get}
use Rattle.cg_base.specs.declared.kind.Bound.{Bound}
use Rattle.cg_base.specs.declared.place.Place.{Place}
use Rattle.cg_base.specs.Types as kernel
use Rattle.cg_base.specs.Types.{Tau, var, unit, word, bool, arrow, abs, variant, fields, Taus, none, more, Parts, end, part}
use Rattle.cg_core.specs.declared.at.At.{At}
use Rattle.cg_surface.specs.Programs.{Entry, signature}
use Rattle.cg_surface.specs.Written.{Written}
use Rattle.cg_surface.specs.Written as types
use Rattle.cg_resolve_def.specs.Expand.{Bodies, bodies, expanded, type_in}
use Rattle.cg_resolve_def.specs.Faults.{var_names}
use Rattle.cg_resolve_def.specs.Takes.{Alone, largest, largest_from, largest_type, nodes, nodes_all, nodes_parts, written_from, written_in}
use Rattle.cg_resolve_written.proofs.Nodes.{nodes-expanded}
use Rattle.cg_typing.specs.Parts as typing

-- typing counts the nodes of a type as desugaring does
mutual
  pub nodes_same : (t : Tau) → typing.nodes t ≡ nodes t
  nodes_same (var n) = refl
  nodes_same (kernel.seen n) = refl
  nodes_same unit = refl
  nodes_same (word w) = refl
  nodes_same bool = refl
  nodes_same (arrow a b) = omega (arith, nodes_same a, nodes_same b)
  nodes_same (abs n ts sigil) = ap (λ k. k + 1) (all_same ts)
  nodes_same (variant ps) = ap (λ k. k + 1) (parts_same ps)
  nodes_same (fields ps sigil) = ap (λ k. k + 1) (parts_same ps)

  all_same : (ts : Taus) → typing.nodes_all ts ≡ nodes_all ts
  all_same none = refl
  all_same (more t ts) = omega (arith, nodes_same t, all_same ts)

  parts_same : (ps : Parts) → typing.nodes_parts ps ≡ nodes_parts ps
  parts_same end = refl
  parts_same (part n t taken ps) = omega (arith, nodes_same t, parts_same ps)

module _ (known : Bodies) where
  module _ (vars : List (List ℕ)) where
    -- a written type is among those that are written in it
    within_largest : (t : Written) → nodes (expanded known vars t) ≤ largest known vars t
    within_largest (types.named p n args) = omega arith
    within_largest (types.nothing p) = omega arith
    within_largest (types.tuple p ts) = omega arith
    within_largest (types.paren p t) = within_largest t
    within_largest (types.arrow p a b) = omega arith
    within_largest (types.fields p boxed fs) = omega arith
    within_largest (types.variant p choices) = omega arith
    within_largest (types.bang p t) = omega (arith, nodes-expanded known vars (types.bang p t), nodes-expanded known vars t, within_largest t)
    within_largest (types.take_some p t ns) = omega (arith, nodes-expanded known vars (types.take_some p t ns), nodes-expanded known vars t, within_largest t)
    within_largest (types.take_all p t q) = omega (arith, nodes-expanded known vars (types.take_all p t q), nodes-expanded known vars t, within_largest t)

  -- what is written behind other types is among all
  largest_behind : (ts us : List Alone) → largest_from known us ≤ largest_from known (ts ++ us)
  largest_behind [] us = omega arith
  largest_behind (t ∷ ts) us = omega (arith, largest_behind ts us)

  -- the type of a signature is among those that a program writes
  signature_within : (entries es : List Entry) (i : ℕ) (at : At) (vars : List Bound) (places : List Place) (ty : Written) → slice_get es i ≡ Some (signature at vars places ty)
      → largest known (var_names vars) ty ≤ largest_from known (written_from entries es)
  signature_within entries [] i at vars places ty stands = absurd (cc)
  signature_within entries (e ∷ es) zero at vars places ty stands =
      let is : signature at vars places ty ≡ e = cc in
      carry (λ x. largest known (var_names vars) ty ≤ largest_from known (written_in entries x ++ written_from entries es)) is (omega arith)
  signature_within entries (e ∷ es) (suc i) at vars places ty stands =
      omega (arith, signature_within entries es i at vars places ty stands, largest_behind (written_in entries e) (written_from entries es))

-- the type of a signature has no more nodes than the largest type of its program
pub signature_small : (entries : List Entry) (i : ℕ) (at : At) (vars : List Bound) (places : List Place) (ty : Written) → slice_get entries i ≡ Some (signature at vars places ty)
    → typing.nodes (type_in entries (var_names vars) ty) ≤ largest_type entries
signature_small entries i at vars places ty stands =
    omega (arith, nodes_same (type_in entries (var_names vars) ty), within_largest (bodies entries) (var_names vars) ty, signature_within (bodies entries) entries entries i at vars places ty stands)
