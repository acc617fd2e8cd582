-- The functions of instances, part by part.
use Rattle.std.proofs.Common.{◌≡◌, ℕ, ◌+◌, ◌<◌, List, [], ◌∷◌, ◌++◌, drop, get_or, length, set, take, sym, ap, ◌∙◌, arith}
use Rattle.std.proofs.lemmas.List.{length-take-le, take_more}
use Rattle.cg_ctree.specs.declared.tree.CDecl.{CDecl}
use Rattle.cg_ctree.specs.declared.tree.CTy.{CTy}
use Rattle.cg_core.specs.declared.term.Form.{the_lemmas}
use Rattle.cg_cgen_def.specs.Names.{declared}
use Rattle.cg_cgen_def.specs.Bodies.{locals_from}
use Rattle.cg_cgen_def.specs.Places.{local_name}
use Rattle.cg_lower_nodes.proofs.MoveSteps.{item_is, rest_more}
use Rattle.cg_cgen.proofs.Declaring.{locals_more}

-- one local more is declared, whose type is taken out of its place
pub declared_more : (all items : List CTy) (i at : ℕ) (r y : CTy) (x : List ℕ) (decls : List CDecl) → i < length all → at ≡ i → drop i items ≡ drop i all → r ≡ get_or items i r → x ≡ local_name at
    → decls ≡ locals_from 0 (take i all) → (decls ++ declared r x ∷ [] ≡ locals_from 0 (take (i + 1) all)) × (drop (i + 1) (set items i y) ≡ drop (i + 1) all)
declared_more all items i at r y x decls within is rest held named so_far = (
  ap (λ z. z ++ declared r x ∷ []) so_far
      ∙ ap (λ z. locals_from 0 (take i all) ++ declared r z ∷ []) (named ∙ ap local_name (is ∙ sym (length-take-le i all (omega (arith, within))) ∙ from_none (length (take i all))))
      ∙ sym (locals_more 0 (take i all) r)
      ∙ ap (locals_from 0) (ap (λ z. take i all ++ z ∷ []) (held ∙ item_is items all i rest r) ∙ sym (take_more all i r within)),
  rest_more items all i rest y,
)
  where
    from_none : (n : ℕ) → n ≡ 0 + n
    from_none n = omega arith

pub ruleset function_steps = (the_lemmas)
