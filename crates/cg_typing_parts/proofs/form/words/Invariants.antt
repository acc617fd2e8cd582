use Rattle.std.proofs.Common.{◌≡◌, map, drop}
use Rattle.cg_base.specs.Types.{type_of, to_taus}
use Rattle.cg_typing.specs.Parts.{are_words}
use Rattle.cg_typing_parts.proofs.form.words.Given as goal

abbrev pub invariant-loop-ty : goal.invariant-loop-ty
invariant-loop-ty l = are_words (to_taus (map type_of (drop l.ty-index l.ty-items))) ≡ are_words (to_taus (map type_of l.ty-items))
