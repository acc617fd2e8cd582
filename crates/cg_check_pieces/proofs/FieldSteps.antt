-- Lists of fields that grow at their end, and what they stand for the other way round.
use Rattle.std.proofs.Common.{◌≡◌, ◌≤◌, ◌<◌, ◌-◌, suc, Some, get_or, List, [], ◌∷◌, ◌++◌, length, map, reverse, take, drop, append-nil, refl, sym, ap, ◌∙◌, arith}
use Rattle.std.proofs.lemmas.List.{drop_all, take_all, reverse-append, length-reverse}
use Rattle.cg_base.specs.declared.ty.Part.{Part}
use Rattle.cg_base.specs.declared.ty.Ty.{the_lemmas as type_lemmas}
use Rattle.cg_base.specs.Lists.{refilled}
use Rattle.cg_base.specs.declared.place.Place.{Place}
use Rattle.cg_base.specs.Types as types
use Rattle.cg_base.specs.Types.{Tau, part, part_of, to_parts, type_of}
use Rattle.cg_check_pieces.specs.Fields.{parts_back, cores_back, trees_back}
use Rattle.cg_core.specs.declared.derivation.Deriv.{Deriv}
use Rattle.cg_core.specs.declared.term.FieldTerm.{FieldTerm}
use Rattle.cg_core.specs.declared.term.Form.{the_lemmas as term_lemmas}
use Rattle.cg_core.specs.declared.term.Typed.{Typed}
use Rattle.cg_core.specs.Derivations as trees
use Rattle.cg_core.specs.Derivations.{derivation_of, to_derivations}
use Rattle.cg_core.specs.Kernels.{the_core, the_core_field, the_field, the_term}
use Rattle.cg_faults.specs.Events.{later_directions, next_direction, part_directions}
use Rattle.cg_core.specs.Terms.{end, field, to_named}

-- one more at the end is one more in front
pub turned_more : {A : Type 0} (xs ys : List A) (x : A) → ys ≡ xs ++ x ∷ [] → reverse ys ≡ x ∷ reverse xs
turned_more xs ys x e = ap reverse e ∙ reverse-append xs (x ∷ [])

pub parts_more : (ps qs : List Part) (p : Part) (t : Tau) → qs ≡ ps ++ p ∷ [] → type_of p.ty ≡ t → parts_back qs ≡ part p.name t p.taken (parts_back ps)
unfolding to_parts
parts_more ps qs p t e h =
    let one : part_of p ≡ record { name = p.name; ty = type_of p.ty; taken = p.taken } = search type_lemmas in
    ap (λ rs. to_parts (map part_of rs)) (turned_more ps qs p e) ∙ ap (λ o. part o.name o.ty o.taken (parts_back ps)) one ∙ ap (λ u. part p.name u p.taken (parts_back ps)) h

pub cores_more : (fs gs : List (FieldTerm Typed)) (f : FieldTerm Typed) → gs ≡ fs ++ f ∷ [] → cores_back gs ≡ field f.name (the_core f.term) (cores_back fs)
unfolding to_named
cores_more fs gs f e =
    let one : the_core_field f ≡ record { name = f.name; term = the_core f.term } = search term_lemmas in
    ap (λ rs. to_named (map the_core_field rs)) (turned_more fs gs f e) ∙ ap (λ o. field o.name o.term (cores_back fs)) one

pub trees_more : (ds es : List Deriv) (d : Deriv) → es ≡ ds ++ d ∷ [] → trees_back es ≡ trees.part (derivation_of d) (trees_back ds)
unfolding to_derivations
trees_more ds es d e = ap (λ rs. to_derivations (map derivation_of rs)) (turned_more ds es d e)

-- none
pub no_parts : (ps : List Part) → ps ≡ [] → parts_back ps ≡ types.end
unfolding to_parts
no_parts ps e = ap parts_back e

pub no_cores : (fs : List (FieldTerm Typed)) → fs ≡ [] → cores_back fs ≡ end
unfolding to_named
no_cores fs e = ap cores_back e

pub no_trees : (ds : List Deriv) → ds ≡ [] → trees_back ds ≡ trees.done
unfolding to_derivations
no_trees ds e = ap trees_back e

-- directions of fields
pub no_directions : (ps : List Part) → length ps ≡ 0 → part_directions (to_parts (map part_of ps)) ≡ []
unfolding to_parts
no_directions [] h = refl
no_directions (p ∷ ps) h = absurd (omega arith)

pub more_directions : (ps : List Part) (p : Part) (qs : List Part) → ps ≡ p ∷ qs
    → part_directions (to_parts (map part_of ps)) ≡ Some (type_of p.ty) ∷ part_directions (to_parts (map part_of qs))
unfolding to_parts
more_directions ps p qs e =
    let one : part_of p ≡ record { name = p.name; ty = type_of p.ty; taken = p.taken } = search type_lemmas in
    ap (λ rs. part_directions (to_parts (map part_of rs))) e ∙ ap (λ o. Some o.ty ∷ part_directions (to_parts (map part_of qs))) one

pub later_kept : (ps : List Part) → 1 ≤ length ps
    → part_directions (to_parts (map part_of (take (length ps - 1) (drop 1 ps)))) ≡ later_directions (part_directions (to_parts (map part_of ps)))
unfolding to_parts
later_kept [] h = absurd (omega arith)
later_kept (p ∷ ps) h =
    let less : suc (length ps) - 1 ≡ length ps = omega arith in
    ap (λ n. part_directions (to_parts (map part_of (take n ps)))) less ∙ ap (λ l. part_directions (to_parts (map part_of l))) (take_all (length ps) ps (omega arith))
    ∙ ap later_directions (sym (more_directions (p ∷ ps) p ps refl))

pub first_way : (ps : List Part) (p : Part) → 1 ≤ length ps → p ≡ get_or ps 0 p → Some (type_of p.ty) ≡ next_direction (part_directions (to_parts (map part_of ps)))
first_way [] p h e = absurd (omega arith)
first_way (q ∷ ps) p h e = ap (λ x. Some (type_of x.ty)) e ∙ ap next_direction (sym (more_directions (q ∷ ps) q ps refl))

-- the fields of a term
pub no_named : (fs : List (FieldTerm Place)) → length fs < 1 → to_named (map the_field fs) ≡ end
unfolding to_named
no_named [] h = refl
no_named (f ∷ fs) h = absurd (omega arith)

pub more_named : (fs : List (FieldTerm Place)) (f : FieldTerm Place) → 1 ≤ length fs → f ≡ get_or fs 0 f
    → to_named (map the_field fs) ≡ field f.name (the_term f.term) (to_named (map the_field (take (length fs - 1) (drop 1 fs))))
unfolding to_named
more_named [] f h e = absurd (omega arith)
more_named (g ∷ fs) f h e =
    let one : the_field f ≡ record { name = f.name; term = the_term f.term } = search term_lemmas in
    let less : suc (length fs) - 1 ≡ length fs = omega arith in
    let rest : fs ≡ take (suc (length fs) - 1) fs = sym (ap (λ n. take n fs) less ∙ take_all (length fs) fs (omega arith)) in
    ap (λ x. field x.name x.term (to_named (map the_field fs))) (ap the_field (sym e) ∙ one) ∙ ap (λ l. field f.name (the_term f.term) (to_named (map the_field l))) rest

-- a list that is turned in place
pub refilled_whole : {A : Type 0} (xs ys : List A) → ys ≡ reverse xs → refilled xs ys ≡ reverse xs
refilled_whole xs ys e =
    let long : length ys ≡ length xs = ap length e ∙ length-reverse xs in
    ap (λ l. take (length xs) (ys ++ l)) (drop_all (length ys) xs (omega (arith, long))) ∙ ap (take (length xs)) (append-nil ys) ∙ take_all (length xs) ys (omega (arith, long)) ∙ e

pub ruleset field_steps = (turned_more, parts_more, cores_more, trees_more)

pub ruleset turn_steps = (refilled_whole)

pub ruleset none_steps = (no_parts, no_cores, no_trees)

pub ruleset wanted_steps = (no_directions, later_kept, first_way, type_lemmas)
