-- Type arguments that are what a function asks of them are an instance of its type variables.
use Rattle.std.proofs.Common.{◌≡◌, ℕ, zero, suc, ◌||◌, not, IsTrue, Some, List, [], ◌∷◌, map, subst}
use Rattle.std.specs.Prelude.{slice_get}
use Rattle.cg_base.specs.declared.kind.Bound.{Bound}
use Rattle.cg_base.specs.declared.kind.Kinds.{Kinds}
use Rattle.cg_base.specs.Types.{Tau}
use Rattle.cg_core.specs.Terms.{Arg}
use Rattle.cg_kinds.specs.Kinds.{kinds}
use Rattle.cg_kinds.specs.Laws.{AreKept}
use Rattle.cg_typing.specs.Functions.{Asked, these, meets_asked, next_asked, later_asked, are_good_arguments, has_kinds, arg_types}
use Rattle.cg_typing.specs.Parts.{has_word_arrays}
use Rattle.cg_check_laws.proofs.Basics.{not_or}
use Rattle.cg_typing_laws.specs.Laws.{CheckedArgumentsAreInstance, InstancesAreDerived}
use Rattle.cg_typing_laws.proofs.Substitution.{substitution}
use Rattle.cg_base.proofs.Truths.{both as and_both}

-- the test of kinds says that they are kept
has_kinds_is : (k wanted : Kinds) → IsTrue (has_kinds k wanted) → AreKept k wanted
has_kinds_is k wanted h =
    let p = and_both (not wanted.drop || k.drop) _ h in let q = and_both (not wanted.share || k.share) _ p.1 in record {
      drop = not_or wanted.drop k.drop p.0;
      share = not_or wanted.share k.share q.0;
      escape = not_or wanted.escape k.escape q.1;
    }

module _ (vars : List Kinds) where
  kinds_are_met : (bounds : List Bound) (args : List Arg) → IsTrue (are_good_arguments vars (map (λ b. these b.kinds) bounds) args)
      → (n : ℕ) (t : Tau) (k : Kinds) → slice_get (arg_types args) n ≡ Some t → slice_get (map (λ (b : Bound). b.kinds) bounds) n ≡ Some k → AreKept (kinds vars t) k
  kinds_are_met bounds [] h n t k e f = absurd (cc)
  kinds_are_met [] (a ∷ args) h n t k e f = absurd (cc)
  kinds_are_met (b ∷ bounds) (a ∷ args) h zero t k e f =
      let p = and_both (has_word_arrays a.ty) _ h in let q = and_both (has_kinds (kinds vars a.ty) b.kinds) _ p.1 in
      let x : a.ty ≡ t = cc in let y : b.kinds ≡ k = cc in
      subst (λ t. AreKept (kinds vars t) k) x (subst (λ k. AreKept (kinds vars a.ty) k) y (has_kinds_is (kinds vars a.ty) b.kinds q.0))
  kinds_are_met (b ∷ bounds) (a ∷ args) h (suc n) t k e f =
      let p = and_both (has_word_arrays a.ty) _ h in let q = and_both (has_kinds (kinds vars a.ty) b.kinds) _ p.1 in
      kinds_are_met bounds args q.1 n t k e f

  have_arrays : (asked : List Asked) (args : List Arg) → IsTrue (are_good_arguments vars asked args)
      → (n : ℕ) (t : Tau) → slice_get (arg_types args) n ≡ Some t → IsTrue (has_word_arrays t)
  have_arrays asked [] h n t e = absurd (cc)
  have_arrays asked (a ∷ args) h zero t e =
      let p = and_both (has_word_arrays a.ty) _ h in let x : a.ty ≡ t = cc in subst (λ t. IsTrue (has_word_arrays t)) x p.0
  have_arrays asked (a ∷ args) h (suc n) t e =
      let p = and_both (has_word_arrays a.ty) _ h in let q = and_both (meets_asked vars (next_asked asked) a.ty) _ p.1 in
      have_arrays (later_asked asked) args q.1 n t e

pub checked_arguments : CheckedArgumentsAreInstance
checked_arguments vars f args h = record { kinds_met = kinds_are_met vars f.vars args h; arrays = have_arrays vars (map (λ b. these b.kinds) f.vars) args h }

pub instances : InstancesAreDerived
instances functions vars f args h argument result d c k =
    substitution functions (map (λ b. b.kinds) f.vars) vars (arg_types args) (checked_arguments vars f args h) (Some argument ∷ []) d (Some result) c k
