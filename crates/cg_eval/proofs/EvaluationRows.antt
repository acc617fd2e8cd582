-- The definition of evaluation on small rows, computed.
use Rattle.std.proofs.Common.{◌≡◌, ℕ, codes, List, [], ◌∷◌, Some, None, false, refl}
use Rattle.cg_base.specs.declared.fun.Fun.TheVariants.{User, Lib}
use Rattle.cg_base.specs.declared.fun.Lib.TheVariants.{Fold, Seq32Break, Map}
use Rattle.cg_base.specs.declared.kind.Word.TheVariants.{U8}
use Rattle.cg_base.specs.declared.kind.Sigil.TheVariants.{U}
use Rattle.cg_base.specs.declared.place.Place.{Place}
use Rattle.cg_base.specs.Types.{Tau, unit, word, fields, part, end}
use Rattle.cg_core.specs.declared.op.Op.TheVariants as ops
use Rattle.cg_core.specs.Terms.{Note, Tree, term, var, op, member, more, none, struct, field as named, end as end_of_fields, con, unit as nothing}
use Rattle.cg_value.specs.Forms.{elements_in, field, number_in, pair, with_element, has_name}
use Rattle.cg_value.specs.Values.{number, function, elements, parts, to_vals, val_list, chosen, nothing as no_value}
use Rattle.cg_eval_def.specs.Evaluation.{Table, all_of, evaluate, evaluation, turns, with_fuel}
use Rattle.cg_eval_operations.specs.Iterators.{counted, indices_from}
use Rattle.cg_eval_operations.specs.Operators.{operated_both}
use Rattle.cg_eval_operations.specs.Positions.{position, position_among}

abbrev place : Place
place = record { line = 1; column = 1 }

abbrev noted : Tau → Note
noted t = record { place = place; ty = t }

-- f x = x.elem + x.acc, over a table of this one body, folded over [1, 2, 3] from 10
abbrev asked : Tau
asked = fields (part (codes "elem") (word U8) false (part (codes "acc") (word U8) false end)) U

abbrev of_x : List ℕ → Tree Note
of_x name = term (noted (word U8)) (member (term (noted asked) (var 0)) (record { place = place; name = name }))

abbrev body : Tree Note
body = term (noted (word U8)) (op ops.Add (more (of_x (codes "elem")) (more (of_x (codes "acc")) none)))

abbrev table : Table
table = record { body = λ i ts. Some (record { term = body; types = ts }); takes = λ i v. false; cost = λ i v. 0; value = λ i v. number 0 }

-- three turns, each of 1 and 5 nodes
folded : evaluation table 100 (function (Lib Fold) []) (parts (to_vals (elements (1 ∷ 2 ∷ 3 ∷ []) ∷ number 0 ∷ number 9 ∷ function (User 0) [] ∷ number 10 ∷ number 0 ∷ []))) ≡ Some (number 16, 18)
unfolding evaluation evaluate with_fuel turns counted indices_from number_in field val_list to_vals elements_in position position_among operated_both
folded = refl

too_few : evaluation table 17 (function (Lib Fold) []) (parts (to_vals (elements (1 ∷ 2 ∷ 3 ∷ []) ∷ number 0 ∷ number 9 ∷ function (User 0) [] ∷ number 10 ∷ number 0 ∷ []))) ≡ None
unfolding evaluation evaluate with_fuel turns counted indices_from number_in field val_list to_vals elements_in position position_among operated_both
too_few = refl

-- what a turn of `map` gives: the element with what is handed on added, and what is handed on
abbrev changing : Tree Note
changing = term (noted (word U8)) (struct (named (codes "p1") body (named (codes "p2") (of_x (codes "acc")) end_of_fields)))

abbrev changing_table : Table
changing_table = record { body = λ i ts. Some (record { term = changing; types = ts }); takes = λ i v. false; cost = λ i v. 0; value = λ i v. number 0 }

-- elements from 1 on up to the end, each turn of 1, 8 nodes and 2 fields
mapped : evaluation changing_table 100 (function (Lib Map) []) (parts (to_vals (elements (1 ∷ 2 ∷ 3 ∷ []) ∷ number 1 ∷ number 9 ∷ function (User 0) [] ∷ number 10 ∷ number 0 ∷ [])))
    ≡ Some (pair (elements (1 ∷ 12 ∷ 13 ∷ [])) (number 10), 22)
unfolding evaluation evaluate with_fuel turns counted indices_from number_in field val_list to_vals elements_in with_element all_of position position_among operated_both
mapped = refl

-- what breaks off at once, and gives what is handed on
abbrev breaking : Tree Note
breaking =
    term (noted (word U8)) (struct (named (codes "p1") (term (noted (word U8)) (member (term (noted (fields (part (codes "acc") (word U8) false end) U)) (var 0)) (record { place = place; name = codes "acc" })))
    (named (codes "p2") (term (noted unit) (con (codes "Break") (term (noted unit) nothing))) end_of_fields)))

abbrev breaking_table : Table
breaking_table = record { body = λ i ts. Some (record { term = breaking; types = ts }); takes = λ i v. false; cost = λ i v. 0; value = λ i v. number 0 }

-- one turn of nine, of 1, 5 nodes, 2 fields and a payload
broken_off : evaluation breaking_table 100 (function (Lib Seq32Break) []) (parts (to_vals (number 0 ∷ number 9 ∷ number 1 ∷ function (User 0) [] ∷ number 10 ∷ number 0 ∷ [])))
    ≡ Some (pair (number 10) (chosen (codes "Break") no_value), 9)
unfolding evaluation evaluate with_fuel turns counted indices_from number_in field has_name val_list to_vals all_of position position_among
broken_off = refl
