-- What the library makes.
use Rattle.std.proofs.Common.{◌≡◌, ◌<◌, ◌≤◌, ◌+◌, ◌-◌, ℕ, suc, Bool, List, [], ◌∷◌, ◌++◌, length, take, drop, map, refl, sym, ap, ◌∙◌, arith, rules}
use Rattle.std.specs.Prelude.{replicate}
use Rattle.std.proofs.lemmas.List.{length-map, map-append, replicate-append-replicate, take_all}
use Rattle.cg_base.proofs.Views.{list_parts}
use Rattle.cg_base.specs.declared.ty.Part.{Part}
use Rattle.cg_base.specs.declared.kind.Sigil.{Sigil}
use Rattle.cg_base.specs.declared.ty.Ty.{Ty, the_lemmas as type_lemmas}
use Rattle.cg_base.specs.declared.ty.Ty.TheVariants as ty
use Rattle.cg_base.specs.Types.{fields, part_of, piece_list, to_parts, type_of}
use Rattle.cg_lib_value.specs.Library.{later_answers, new_record}
use Rattle.cg_value.proofs.FormSteps.{gone_is, fields_is as fields_are}
use Rattle.cg_value.specs.declared.value.Value.{Value, the_lemmas as value_lemmas}
use Rattle.cg_value.specs.declared.value.Value.TheVariants.{Fields, Gone}
use Rattle.cg_value.specs.Values.{gone, parts, to_vals, value_of}

pub one_more : {A : Type 0} (x : A) (n : ℕ) → replicate n x ++ x ∷ [] ≡ replicate (n + 1) x
one_more x n = replicate-append-replicate n 1 x

pub parts_counted : (ps : List Part) → length (piece_list (to_parts (map part_of ps))) ≡ length ps
parts_counted ps = ap length (list_parts (map part_of ps)) ∙ length-map ps part_of

pub later_none : (bs : List Bool) → length bs < 1 → later_answers bs ≡ []
unfolding later_answers
later_none [] h = refl
later_none (b ∷ bs) h = absurd (omega arith)

pub later_some : (bs : List Bool) → 1 ≤ length bs → later_answers bs ≡ take (length bs - 1) (drop 1 bs)
unfolding later_answers
later_some [] h = absurd (omega arith)
later_some (b ∷ bs) h = sym (take_all (suc (length bs) - 1) bs (omega arith))

pub gone_more : (vs : List Value) (n : ℕ) → map value_of vs ≡ replicate n gone → map value_of (vs ++ Gone ∷ []) ≡ replicate (n + 1) gone
gone_more vs n e = map-append value_of vs (Gone ∷ []) ∙ ap (λ l. l ++ value_of Gone ∷ []) e ∙ ap (λ v. replicate n gone ++ v ∷ []) gone_is ∙ one_more gone n

pub record_is : (ps : List Part) (sigil : Sigil) → type_of (ty.Fields ps sigil) ≡ fields (to_parts (map part_of ps)) sigil
record_is ps sigil = search (rules, type_lemmas)

pub new_record_is : (t : Ty) (ps : List Part) (sigil : Sigil) (fs : List Value) → t ≡ ty.Fields ps sigil → map value_of fs ≡ replicate (length ps) gone
    → value_of (Fields fs) ≡ new_record (type_of t)
unfolding new_record
new_record_is t ps sigil fs is made =
    fields_are fs ∙ ap (λ l. parts (to_vals l)) (made ∙ ap (λ n. replicate n gone) (sym (parts_counted ps))) ∙ ap new_record (sym (record_is ps sigil) ∙ ap type_of (sym is))

pub ruleset made_steps = (one_more, parts_counted, later_none, later_some, gone_more, new_record_is, value_lemmas, type_lemmas)
