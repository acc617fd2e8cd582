-- How many scalars types have, against how many nodes.
use Rattle.std.proofs.Common.{◌≡◌, ◌≤◌, ◌+◌, List, [], ◌∷◌, map, refl, ap, ◌∙◌, arith}
use Rattle.cg_base.specs.declared.kind.Sigil.TheVariants.{R, W, U}
use Rattle.cg_base.specs.declared.ty.Part.{Part}
use Rattle.cg_base.proofs.Views.{piece_of}
use Rattle.cg_base.specs.Types.{Tau, var, seen, unit, word, bool, arrow, abs, variant, fields, Parts, end, part, to_parts, type_of, part_of}
use Rattle.cg_typing.specs.Parts.{nodes, nodes_parts}
use Rattle.cg_heap.specs.Reps.{slots, slots_of_parts}

-- a type has at least one node, and no more scalars than nodes
mutual
  unfolding slots

  pub slots_within : (t : Tau) → slots t ≤ nodes t
  slots_within (var n) = omega arith
  slots_within (seen n) = omega arith
  slots_within unit = omega arith
  slots_within (word w) = omega arith
  slots_within bool = omega arith
  slots_within (arrow a b) = omega arith
  slots_within (abs name ts sigil) = omega arith
  slots_within (variant ps) = let rest = parts_within ps in omega arith
  slots_within (fields ps U) = let rest = parts_within ps in omega arith
  slots_within (fields ps R) = omega arith
  slots_within (fields ps W) = omega arith

  pub parts_within : (ps : Parts) → slots_of_parts ps ≤ nodes_parts ps
  parts_within end = omega arith
  parts_within (part name t taken ps) = let first = slots_within t in let rest = parts_within ps in omega arith

-- the first of these parts, and the rest
pub slots_first : (ps rest : List Part) (p : Part) → ps ≡ p ∷ rest → slots_of_parts (to_parts (map part_of ps)) ≡ slots (type_of p.ty) + slots_of_parts (to_parts (map part_of rest))
unfolding slots to_parts
slots_first ps rest p e = ap (λ xs. slots_of_parts (to_parts (map part_of xs))) e ∙ ap (λ x. slots x.ty + slots_of_parts (to_parts (map part_of rest))) (piece_of p)

pub nodes_first : (ps rest : List Part) (p : Part) → ps ≡ p ∷ rest → nodes_parts (to_parts (map part_of ps)) ≡ nodes (type_of p.ty) + nodes_parts (to_parts (map part_of rest))
unfolding to_parts
nodes_first ps rest p e = ap (λ xs. nodes_parts (to_parts (map part_of xs))) e ∙ ap (λ x. nodes x.ty + nodes_parts (to_parts (map part_of rest))) (piece_of p)

pub slots_none : slots_of_parts (to_parts (map part_of [])) ≡ 0
unfolding slots to_parts
slots_none = refl
