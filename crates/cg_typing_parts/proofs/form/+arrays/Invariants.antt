use Rattle.std.proofs.Common.{◌≡◌, map, drop}
use Rattle.cg_base.specs.Types.{type_of, part_of, to_taus, to_parts}
use Rattle.cg_typing.specs.Parts.{have_word_arrays, parts_have_word_arrays}
use Rattle.cg_typing_parts.proofs.form.+arrays.Given as goal

abbrev pub invariant-all_have_word_arrays-loop-ty : goal.invariant-all_have_word_arrays-loop-ty
invariant-all_have_word_arrays-loop-ty l =
    have_word_arrays (to_taus (map type_of (drop l.ty-index l.ty-items))) ≡ have_word_arrays (to_taus (map type_of l.ty-items))

abbrev pub invariant-all_parts_have_word_arrays-loop-part : goal.invariant-all_parts_have_word_arrays-loop-part
invariant-all_parts_have_word_arrays-loop-part l =
    parts_have_word_arrays (to_parts (map part_of (drop l.part-index l.part-items))) ≡ parts_have_word_arrays (to_parts (map part_of l.part-items))
