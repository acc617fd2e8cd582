-- Functions at type arguments, as values: a function that a derived term mentions is one of its type.
use Rattle.std.proofs.Common.{◌≡◌, IsTrue, Option, Some, None, List, [], length, map, sym, ap, ◌∙◌}
use Rattle.std.proofs.lemmas.Bool.{and_parts, and_from}
use Rattle.std.specs.List.{list_all}
use Rattle.std.specs.Option.{option_map}
use Rattle.std.specs.Prelude.{slice_get}
use Rattle.cg_base.specs.declared.fun.Fun.{Fun}
use Rattle.cg_base.specs.declared.fun.Fun.TheVariants.{User, Lib as OfLib}
use Rattle.cg_base.specs.declared.kind.Kinds.{Kinds}
use Rattle.cg_base.specs.Types.{Tau}
use Rattle.cg_core.specs.Kernels.{Function}
use Rattle.cg_core.specs.Terms.{Arg}
use Rattle.cg_eval_def.specs.Foreigns.{is_instance, is_this}
use Rattle.cg_typing.specs.Instances.{as_arguments, is_closed}
use Rattle.cg_kinds.specs.Kinds.{subst}
use Rattle.cg_typing.specs.Functions.{are_good_arguments, arg_types, asked_by, fun_type, takes_as_many}
use Rattle.cg_typing.specs.Library.{library_type}
use Rattle.cg_typing_laws.specs.Laws.{AreInstance}
use Rattle.cg_typing.specs.Subst.{subst_arg}
use Rattle.cg_typing_laws.proofs.Functions.{fun_type_subst}
use Rattle.cg_inst_laws.proofs.Mentions.{arguments_given, mention_is_good}
use Rattle.cg_inst.proofs.SameType.{same_is, same_self}
use Rattle.cg_base.proofs.Counts.{no_steps as never}
use Rattle.cg_typing.proofs.Lists.{types_back}

-- what a value of a type that is a function is, part by part
pub record IsValueOf (functions : List Function) (f : Fun) (types : List Tau) (t : Tau) : Type 0 where
  pub many : IsTrue (takes_as_many functions f (length types))
  pub closed : IsTrue (list_all is_closed types)
  pub good : IsTrue (are_good_arguments [] (asked_by functions f) (as_arguments types))
  pub is : fun_type functions f (as_arguments types) ≡ Some t

this_is : (o : Option Tau) (t : Tau) → IsTrue (is_this o t) → o ≡ Some t
this_is (Some s) t h = ap Some (same_is s t h)
this_is None t h = never h

is_this_one : (o : Option Tau) (t : Tau) → o ≡ Some t → IsTrue (is_this o t)
is_this_one o t e = ap (λ o. is_this o t) e ∙ same_self t

pub value_parts : (functions : List Function) (f : Fun) (types : List Tau) (t : Tau) → IsTrue (is_instance functions f types t) → IsValueOf functions f types t
unfolding is_instance
value_parts functions f types t h =
    let p = and_parts (takes_as_many functions f (length types)) _ h in let q = and_parts (list_all is_closed types) _ p.1 in
    let r = and_parts (are_good_arguments [] (asked_by functions f) (as_arguments types)) _ q.1 in record {
      many = p.0;
      closed = q.0;
      good = r.0;
      is = this_is (fun_type functions f (as_arguments types)) t r.1;
    }

pub value_made : (functions : List Function) (f : Fun) (types : List Tau) (t : Tau) → IsValueOf functions f types t → IsTrue (is_instance functions f types t)
unfolding is_instance
value_made functions f types t v =
    and_from (takes_as_many functions f (length types)) _ v.many
    (and_from (list_all is_closed types) _ v.closed
    (and_from (are_good_arguments [] (asked_by functions f) (as_arguments types)) _ v.good (is_this_one (fun_type functions f (as_arguments types)) t v.is)))

-- the type of a function depends on its type arguments alone
type_by : (functions : List Function) (f : Fun) (args : List Arg) (types : List Tau) → arg_types args ≡ types → fun_type functions f args ≡ fun_type functions f (as_arguments types)
type_by functions (User i) args types e =
    ap (λ ts. option_map (λ (g : Function). subst ts g.ty.ty) (slice_get functions i)) (e ∙ sym (types_back types))
type_by functions (OfLib l) args types e = ap (λ ts. Some (library_type l ts)) (e ∙ sym (types_back types))

-- ---- a function that is mentioned

-- its type at closed types for the type variables
pub mention_type : (functions : List Function) (vars : List Kinds) (given : List Tau)
    → (f : Fun) (args : List Arg) (t : Tau) → IsTrue (are_good_arguments vars (asked_by functions f) args) → fun_type functions f args ≡ Some t
    → fun_type functions f (as_arguments (map (subst given) (arg_types args))) ≡ Some (subst given t)
mention_type functions vars given f args t good e =
    sym (type_by functions f (map (subst_arg given) args) (map (subst given) (arg_types args)) (arguments_given given args)) ∙ fun_type_subst given functions vars f args t good e

pub mention_is_value : (functions : List Function) (vars : List Kinds) (given : List Tau) → AreInstance [] given vars → IsTrue (list_all is_closed given)
    → (f : Fun) (args : List Arg) (t : Tau) → IsTrue (takes_as_many functions f (length args)) → IsTrue (are_good_arguments vars (asked_by functions f) args) → fun_type functions f args ≡ Some t
    → IsValueOf functions f (map (subst given) (arg_types args)) (subst given t)
mention_is_value functions vars given fine closed f args t many good e =
    let g = mention_is_good functions vars given fine closed f args many good in record {
      many = g.many;
      closed = g.closed;
      good = g.good;
      is = mention_type functions vars given f args t good e;
    }
