-- What a turn of a loop gives that it may end: what is carried, with `Break` or `Iterate`.
use Rattle.std.proofs.Common.{◌≡◌, ℕ, zero, suc, ◌+◌, ◌<◌, true, false, Option, Some, List, [], ◌∷◌, ◌++◌, length, length-append, replicate, append_assoc, refl, sym, ap, ◌∙◌, subst, arith, codes, take_all}
use Rattle.std.proofs.lemmas.Bool.{and_parts, le-leb}
use Rattle.std.proofs.lemmas.List.{append-nil, drop_all, replicate-append-replicate}
use Rattle.cg_base.specs.declared.kind.Sigil.TheVariants.{U}
use Rattle.cg_base.specs.declared.kind.Word.TheVariants.{U8, U32}
use Rattle.cg_base.specs.Types.{Tau, unit, Parts, end, part}
use Rattle.cg_cmachine_laws.proofs.LayoutLaws.{layout_unfolds}
use Rattle.cg_cmachine_def.specs.Layouts.{cell, size, spot, walk}
use Rattle.cg_cmachine_def.specs.Operands.{Frame}
use Rattle.cg_cmachine_def.specs.Targets.{spliced}
use Rattle.cg_ctree.specs.declared.tree.CStruct.{CStruct}
use Rattle.cg_heap.specs.declared.cell.Scalar.{Scalar}
use Rattle.cg_heap.specs.declared.cell.Scalar.TheVariants.{Unset, Word as NumberScalar, Address}
use Rattle.cg_heap.specs.Reps.{slots}
use Rattle.cg_typing.specs.Library.{pair, stopped}
use Rattle.cg_update.specs.Machines.{is_alternative, is_machine, part_at, type_of_part}
use Rattle.cg_cgen_def.specs.Names.{field_name, payload_name, tag_name}
use Rattle.cg_lower_def.specs.CTypes.{count, record_struct, IsDeclared}
use Rattle.cg_cgen_def.specs.Places.{Place, at, field, tag}
use Rattle.cg_lower_laws.proofs.Bodies.{length_replicate}
use Rattle.cg_lower_laws.proofs.Frames.{Keeps}
use Rattle.cg_lower_laws.proofs.Layouts.{lay, field_leads, payload_leads, size_slots, tag_leads, walk_on}
use Rattle.cg_lower_laws.proofs.Operands.{IsReadable, keeps_field, keeps_tag}
use Rattle.cg_lower_laws.proofs.Turning.{drop_front, machine_part, middle_spliced}

module _ (types : ℕ → Option Tau) (numbered : Tau → ℕ) (ss : List CStruct) (c b : Tau) where
  -- the two alternatives, and the pair
  abbrev pub alternatives : Parts
  alternatives = part (codes "Break") b false (part (codes "Iterate") unit false end)

  abbrev pub both : Parts
  both = part (codes "p1") c false (part (codes "p2") (stopped b) false end)

  abbrev pub answer : Tau
  answer = pair c (stopped b)

  -- ---- the parts of a machine value

  -- the place of an alternative is one of two
  alternative_below : (i : ℕ) (us : List Scalar) → is_alternative types alternatives i us ≡ true → i < 2
  unfolding is_alternative
  alternative_below zero us e = omega arith
  alternative_below (suc zero) us e = omega arith
  alternative_below (suc (suc i)) us e = absurd (cc)

  -- a variant begins with it
  variant_is : (us : List Scalar) → is_machine types (stopped b) us ≡ true → (n : ℕ) × (ws : List Scalar) × (us ≡ NumberScalar n ∷ ws) × (n < 2)
  unfolding is_machine
  variant_is [] e = absurd (cc)
  variant_is (Unset ∷ us) e = absurd (cc)
  variant_is (Address p ∷ us) e = absurd (cc)
  variant_is (NumberScalar n ∷ us) e = (n, us, refl, alternative_below n us (and_parts _ _ e).1)

  pub record Answered (ws : List Scalar) : Type 0 where
    pub carried : List Scalar
    pub number : ℕ
    pub others : List Scalar
    pub first : part_at 0 both ws ≡ Some carried
    pub second : part_at 1 both ws ≡ Some (NumberScalar number ∷ others)
    pub small : number < 2
    pub machine : is_machine types c carried ≡ true

  pub answered : (ws : List Scalar) → is_machine types answer ws ≡ true → Answered ws
  unfolding is_machine type_of_part count
  answered ws m =
      let f = machine_part types 0 both ws refl m (omega arith) in
      let g = machine_part types 1 both ws refl m (omega arith) in
      let v = variant_is g.scalars g.machine in
      record {
        carried = f.scalars;
        number = v.0;
        others = v.1;
        first = f.there;
        second = g.there ∙ ap Some v.2;
        small = v.3;
        machine = f.machine;
      }

  module _ (d : IsDeclared numbered ss answer) where
    -- the structs of the variant
    variant_declared : IsDeclared numbered ss (stopped b)
    unfolding IsDeclared
    variant_declared = d.2.1.0

    carried_declared : IsDeclared numbered ss c
    unfolding IsDeclared
    carried_declared = d.2.0

    -- what is carried and the tag are kept where the pair is
    pub carried_kept : (fr : Frame) (v : Place) (ws : List Scalar) (a : Answered ws) → Keeps fr v (lay numbered ss answer) ws → Keeps fr (at (field 0) v) (lay numbered ss c) a.carried
    unfolding type_of_part
    carried_kept fr v ws a k = keeps_field numbered ss fr v both 0 ws a.carried d k a.first

    pub tag_kept : (fr : Frame) (v : Place) (ws us : List Scalar) (n : ℕ) → part_at 1 both ws ≡ Some (NumberScalar n ∷ us) → Keeps fr v (lay numbered ss answer) ws
        → Keeps fr (at tag (at (field 1) v)) (cell U32) (NumberScalar n ∷ [])
    unfolding type_of_part
    tag_kept fr v ws us n e k = keeps_tag numbered ss fr (at (field 1) v) alternatives n us variant_declared (keeps_field numbered ss fr v both 1 ws (NumberScalar n ∷ us) d k e)

    -- it can be read
    pub answer_reads : (ws : List Scalar) → IsReadable (lay numbered ss answer) ws
    answer_reads ws = subst (λ z. IsReadable z ws) (sym (layout_unfolds ss (record_struct numbered both))) tt

    -- ---- where the parts stand

    pub first_leads : walk (field_name 0 ∷ []) (lay numbered ss answer) ≡ Some (spot 0 (lay numbered ss c))
    unfolding type_of_part count
    first_leads = field_leads numbered ss both U 0 d (omega arith)

    second_leads : walk (field_name 1 ∷ []) (lay numbered ss answer) ≡ Some (spot (slots c) (lay numbered ss (stopped b)))
    unfolding type_of_part count
    second_leads = field_leads numbered ss both U 1 d (omega arith) ∙ ap (λ n. Some (spot n (lay numbered ss (stopped b)))) (omega arith)

    pub flag_leads : walk (field_name 1 ∷ tag_name ∷ []) (lay numbered ss answer) ≡ Some (spot (slots c) (cell U32))
    flag_leads =
        walk_on numbered ss (field_name 1 ∷ []) (tag_name ∷ []) (lay numbered ss answer) (spot (slots c) (lay numbered ss (stopped b))) (spot 0 (cell U32)) second_leads (tag_leads numbered ss alternatives variant_declared)
        ∙ ap (λ n. Some (spot n (cell U32))) (omega arith)

    pub iterate_leads : walk (field_name 1 ∷ payload_name 1 ∷ []) (lay numbered ss answer) ≡ Some (spot (slots c + suc (slots b)) (cell U8))
    unfolding type_of_part count
    iterate_leads =
        walk_on numbered ss (field_name 1 ∷ []) (payload_name 1 ∷ []) (lay numbered ss answer) (spot (slots c) (lay numbered ss (stopped b))) (spot (suc (slots b)) (cell U8)) second_leads
        (payload_leads numbered ss alternatives 1 variant_declared (omega arith) ∙ ap (λ n. Some (spot n (cell U8))) (omega arith))

    -- ---- the result where no turn was the last

    -- with these scalars for what is carried, the tag and the payload of `Iterate`
    abbrev pub result : List Scalar → Scalar → Scalar → List Scalar
    result cs t e = cs ++ (t ∷ (replicate (slots b) Unset ++ e ∷ []))

    answer_slots : slots answer ≡ slots c + suc (slots b + 1)
    unfolding slots
    answer_slots = omega arith

    answer_size : size (lay numbered ss answer) ≡ slots c + suc (slots b + 1)
    answer_size = size_slots numbered ss answer d ∙ answer_slots

    pub result_long : (cs : List Scalar) (t e : Scalar) → length cs ≡ slots c → length (result cs t e) ≡ size (lay numbered ss answer)
    result_long cs t e h =
        let first = length-append cs (t ∷ (replicate (slots b) Unset ++ e ∷ [])) in
        let last = length-append (replicate (slots b) Unset) (e ∷ []) in
        let many = length_replicate (slots b) Unset in
        omega (arith, first, last, many, h, answer_size)

    pub result_unset : replicate (size (lay numbered ss answer)) Unset ≡ result (replicate (slots c) Unset) Unset Unset
    result_unset =
        ap (λ n. replicate n Unset) answer_size ∙ sym (replicate-append-replicate (slots c) (suc (slots b + 1)) Unset)
        ∙ ap (λ z. replicate (slots c) Unset ++ (Unset ∷ z)) (sym (replicate-append-replicate (slots b) 1 Unset))

    -- each of them is set
    pub result_tagged : (cs : List Scalar) (t e u : Scalar) → length cs ≡ slots c → spliced (spot (slots c) (cell U32)) (u ∷ []) (result cs t e) ≡ result cs u e
    unfolding size
    result_tagged cs t e u h = middle_spliced (slots c) 1 cs (t ∷ []) (replicate (slots b) Unset ++ e ∷ []) (u ∷ []) (cell U32) refl h refl

    pub result_iterate : (cs : List Scalar) (t e u : Scalar) → length cs ≡ slots c → spliced (spot (slots c + suc (slots b)) (cell U8)) (u ∷ []) (result cs t e) ≡ result cs t u
    unfolding size
    result_iterate cs t e u h =
        let front : List Scalar = cs ++ (t ∷ replicate (slots b) Unset) in
        let many = length_replicate (slots b) Unset in
        let long = length-append cs (t ∷ replicate (slots b) Unset) in
        ap (spliced (spot (slots c + suc (slots b)) (cell U8)) (u ∷ [])) (sym (append_assoc cs (t ∷ replicate (slots b) Unset) (e ∷ [])))
        ∙ middle_spliced (slots c + suc (slots b)) 1 front (e ∷ []) [] (u ∷ []) (cell U8) refl (omega (arith, long, many, h)) refl ∙ append_assoc cs (t ∷ replicate (slots b) Unset) (u ∷ [])

    pub result_carried : (cs ws : List Scalar) (t e : Scalar) → length cs ≡ slots c → spliced (spot 0 (lay numbered ss c)) ws (result cs t e) ≡ result ws t e
    result_carried cs ws t e h =
        middle_spliced 0 (slots c) [] cs (t ∷ (replicate (slots b) Unset ++ e ∷ [])) ws (lay numbered ss c) (size_slots numbered ss c carried_declared) refl h

    -- all of a variable is set
    pub answer_set : (old ws : List Scalar) → length old ≡ size (lay numbered ss answer) → spliced (spot 0 (lay numbered ss answer)) ws old ≡ ws
    answer_set old ws h = ap (λ z. ws ++ z) (drop_all (0 + size (lay numbered ss answer)) old (omega (arith, h))) ∙ append-nil ws

    -- the variant in it
    variant_slots : slots (stopped b) ≡ 1 + (slots b + 1)
    unfolding slots
    variant_slots = omega arith

    pub result_second : (cs : List Scalar) (t e : Scalar) → length cs ≡ slots c → part_at 1 both (result cs t e) ≡ Some (t ∷ (replicate (slots b) Unset ++ e ∷ []))
    unfolding part_at
    result_second cs t e h =
        let back : List Scalar = t ∷ (replicate (slots b) Unset ++ e ∷ []) in
        let last = length-append (replicate (slots b) Unset) (e ∷ []) in
        let many = length_replicate (slots b) Unset in
        let whole : length back ≡ slots (stopped b) = omega (arith, last, many, variant_slots) in
        ap (part_at 0 (part (codes "p2") (stopped b) false end)) (drop_front (slots c) cs back h)
        ∙ rw (le-leb (slots (stopped b)) (length back) (omega (arith, whole)), take_all (slots (stopped b)) back (omega (arith, whole))) refl
