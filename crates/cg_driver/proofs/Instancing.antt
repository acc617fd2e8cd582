-- The judgement of instances comes to one outcome: there is one list at most, and it passes one limit first or none.
use Rattle.std.proofs.Common.{◌≡◌, ◌∙◌, ◌+◌, ◌≤◌, ℕ, zero, suc, List, Option, Some, None, length, sym, ap, subst, arith}
use Rattle.std.specs.Prelude.{slice_get}
use Rattle.cg_base.specs.declared.limit.Limit.TheVariants as limits
use Rattle.cg_lower.specs.Collected.{Copy}
use Rattle.cg_core.specs.Kernels.{Function}
use Rattle.cg_core.specs.Terms.{Note, Tree}
use Rattle.cg_inst.specs.Judged.{AreTooMany, HaveLargeTypes, HaveTooManyNodes, IsWithin}
use Rattle.cg_inst.specs.Lists.{Cores, HaveSmallTypes, IsList, after, gone_through, mentioned_by, most_instances, most_nodes, nodes_in}
use Rattle.cg_inst_laws.proofs.Growth.{one_list, stays}
use Rattle.cg_driver_laws.specs.Laws.{copies_over}
use Rattle.cg_typing.specs.Instances.{Instance}
use Rattle.cg_driver.specs.Instanced.{AreCores, HasInstances, PassesInstances, bodies_in, too_large, too_many, too_wide}
use Rattle.cg_driver_lines.specs.Lines.{limit_line, limit_name}
use Rattle.cg_driver.proofs.Cores.{one_list as one_cores}
use Rattle.cg_inst.proofs.ListSteps.{not_shorter as longer_all}

-- ---- no list is longer than the whole one

module _ (functions : List Function) (cores : Cores) where
  longer_step : (n : ℕ) → length (after functions cores n) ≤ length (after functions cores (suc n))
  unfolding after
  longer_step n = go (slice_get (after functions cores n) n)
    where
      go : (o : Option Instance) → length (after functions cores n) ≤ length (gone_through functions cores (after functions cores n) o)
      go None = omega arith
      go (Some x) = longer_all (after functions cores n) (mentioned_by functions cores x)

  longer : (n k : ℕ) → length (after functions cores n) ≤ length (after functions cores (n + k))
  longer n zero = let e : n ≡ n + zero = omega arith in subst (λ m. length (after functions cores n) ≤ length (after functions cores m)) e (omega arith)
  longer n (suc k) =
      let e : suc (n + k) ≡ n + suc k = omega arith in
      subst (λ m. length (after functions cores n) ≤ length (after functions cores m)) e (omega (arith, longer n k, longer_step (n + k)))

  -- so a list that is short enough has not been too long on its way
  not_many : (list : List Instance) → IsList functions cores list → length list ≤ most_instances → AreTooMany functions cores → ⊥
  not_many list is few many =
      let short : length (after functions cores is.steps) ≤ is.steps = subst (λ xs. length xs ≤ is.steps) (sym is.is) is.done in
      let le : is.steps ≤ many.steps + is.steps = omega arith in
      let same = stays functions cores is.steps (many.steps + is.steps) short le ∙ is.is in
      let end : length (after functions cores (many.steps + is.steps)) ≡ length list = ap length same in
      let on = longer many.steps is.steps in
      let over = many.many in
      absurd (omega (arith, end, on, over, few))

  -- ---- which limit is passed first

  data Passes (text : List ℕ) : Type 0 where
    many : AreTooMany functions cores → text ≡ limit_line (limit_name limits.Instances) → Passes text
    large : HaveTooManyNodes functions cores → text ≡ limit_line (limit_name limits.Core) → Passes text
    wide : HaveLargeTypes functions cores → text ≡ limit_line (limit_name limits.Ty) → Passes text

  not_large : (list : List Instance) → IsList functions cores list → nodes_in cores list ≤ most_nodes → HaveTooManyNodes functions cores → ⊥
  not_large list is few h =
      let same : nodes_in cores h.list ≡ nodes_in cores list = ap (nodes_in cores) (one_list functions cores h.list list h.is is) in
      let over = h.many in
      absurd (omega (arith, same, over, few))

  not_wide : (list : List Instance) → IsList functions cores list → HaveSmallTypes cores list → HaveLargeTypes functions cores → ⊥
  not_wide list is small h = h.large (subst (HaveSmallTypes cores) (one_list functions cores list h.list is h.is) small)

  first_passed : (t t' : List ℕ) → Passes t → Passes t' → t ≡ t'
  first_passed t t' (many h e) (many h' e') = e ∙ sym e'
  first_passed t t' (many h e) (large h' e') = absurd (not_many h'.list h'.is h'.few h)
  first_passed t t' (many h e) (wide h' e') = absurd (not_many h'.list h'.is h'.few h)
  first_passed t t' (large h e) (many h' e') = absurd (not_many h.list h.is h.few h')
  first_passed t t' (large h e) (large h' e') = e ∙ sym e'
  first_passed t t' (large h e) (wide h' e') = absurd (not_large h'.list h'.is h'.nodes h)
  first_passed t t' (wide h e) (many h' e') = absurd (not_many h.list h.is h.few h')
  first_passed t t' (wide h e) (large h' e') = absurd (not_large h.list h.is h.nodes h')
  first_passed t t' (wide h e) (wide h' e') = e ∙ sym e'

  none_passed : (t : List ℕ) (list : List Instance) → IsWithin functions cores list → Passes t → ⊥
  none_passed t list w (many h e) = not_many list w.is w.few h
  none_passed t list w (large h e) = not_large list w.is w.nodes h
  none_passed t list w (wide h e) = not_wide list w.is w.types h

-- ---- of an accepted kernel, whose cores are one list

module _ (functions : List Function) where
  passed_by : (cores : List (Option (Tree Note))) → AreCores functions cores → (t : List ℕ) → PassesInstances functions t → Passes functions (bodies_in cores) t
  passed_by cores derived t (too_many cs d h e) = many (subst (λ c. AreTooMany functions (bodies_in c)) (one_cores functions cs cores d derived) h) e
  passed_by cores derived t (too_large cs d h e) = large (subst (λ c. HaveTooManyNodes functions (bodies_in c)) (one_cores functions cs cores d derived) h) e
  passed_by cores derived t (too_wide cs d h e) = wide (subst (λ c. HaveLargeTypes functions (bodies_in c)) (one_cores functions cs cores d derived) h) e

  pub one_passed : (t t' : List ℕ) → PassesInstances functions t → PassesInstances functions t' → t ≡ t'
  one_passed t t' (too_many cs d h e) b = first_passed functions (bodies_in cs) t t' (many h e) (passed_by cs d t' b)
  one_passed t t' (too_large cs d h e) b = first_passed functions (bodies_in cs) t t' (large h e) (passed_by cs d t' b)
  one_passed t t' (too_wide cs d h e) b = first_passed functions (bodies_in cs) t t' (wide h e) (passed_by cs d t' b)

  pub not_passed : (t : List ℕ) (copies : List Copy) → HasInstances functions copies → PassesInstances functions t → ⊥
  not_passed t copies has p = none_passed functions (bodies_in has.cores) t has.list has.within (passed_by has.cores has.derived t p)

  pub one_copies : (a b : List Copy) → HasInstances functions a → HasInstances functions b → a ≡ b
  one_copies a b x y =
      let cores : y.cores ≡ x.cores = one_cores functions y.cores x.cores y.derived x.derived in
      let within : IsWithin functions (bodies_in x.cores) y.list = subst (λ c. IsWithin functions (bodies_in c) y.list) cores y.within in
      let list : x.list ≡ y.list = one_list functions (bodies_in x.cores) x.list y.list x.within.is within.is in
      x.are ∙ ap (copies_over functions (bodies_in x.cores)) list ∙ ap (λ c. copies_over functions (bodies_in c) y.list) (sym cores) ∙ sym y.are
