-- Instances of a list: where one stands, and that it is found there.
use Rattle.std.proofs.Common.{◌≡◌, ℕ, zero, suc, true, ◌||◌, Some, List, [], ◌∷◌, sym, ap, ◌∙◌}
use Rattle.std.specs.List.{list_any}
use Rattle.std.specs.Prelude.{slice_get, if◌then◌else◌}
use Rattle.cg_inst.specs.Lists.{same_instance}
use Rattle.cg_inst_laws.specs.Laws.{place_in}
use Rattle.cg_typing.specs.Instances.{Instance, IsIn}
use Rattle.cg_inst.proofs.Names.{by_cases}
use Rattle.cg_inst.proofs.SameInstance.{instance_is, instance_same}
use Rattle.cg_base.proofs.Counts.{no_steps as never}
use Rattle.cg_base.proofs.Truths.{second_holds}

-- ---- where an instance stands

-- what the test finds stands at its place
pub found_at_place : (list : List Instance) (x : Instance) → list_any (same_instance x) list ≡ true → slice_get list (place_in list x) ≡ Some x
unfolding place_in
found_at_place [] x h = never h
found_at_place (y ∷ ys) x h =
    by_cases (λ b. (b || list_any (same_instance x) ys) ≡ true → slice_get (y ∷ ys) (if b then zero else suc (place_in ys x)) ≡ Some x) (same_instance x y)
    (λ e k. ap Some (sym (instance_is x y e))) (λ e k. found_at_place ys x k) h

-- what stands in it is found
pub is_found : (list : List Instance) (i : ℕ) (x : Instance) → slice_get list i ≡ Some x → list_any (same_instance x) list ≡ true
is_found [] i x e = absurd (cc)
is_found (y ∷ ys) zero x e = let q : y ≡ x = cc in ap (λ b. b || list_any (same_instance x) ys) (ap (same_instance x) q ∙ instance_same x)
is_found (y ∷ ys) (suc i) x e = second_holds (same_instance x y) _ (is_found ys i x e)

-- and so is what is in the list
pub is_in_found : (list : List Instance) (x : Instance) → IsIn list x → list_any (same_instance x) list ≡ true
is_in_found list x h = is_found list h.place x h.there
