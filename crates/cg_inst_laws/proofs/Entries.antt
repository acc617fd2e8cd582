-- The instances of a list are good, and what they come to is derived.
use Rattle.std.proofs.Common.{◌≡◌, ℕ, ◌+◌, IsTrue, Option, Some, None, List, [], ◌∷◌, length, map, refl, sym, ap, ◌∙◌, eq-eqb, arith, subst as at}
use Rattle.std.proofs.lemmas.List.{length-map}
use Rattle.std.proofs.lemmas.Option.{slice_get-map}
use Rattle.std.specs.List.{list_all}
use Rattle.std.specs.Option.{option_map}
use Rattle.std.specs.Prelude.{slice_get}
use Rattle.cg_base.specs.declared.fun.Fun.{Fun}
use Rattle.cg_base.specs.declared.fun.Fun.TheVariants.{User, Lib as OfLib}
use Rattle.cg_base.specs.declared.fun.Lib.{Lib}
use Rattle.cg_base.specs.declared.fun.Lib.TheVariants.{New, Free, Create, FreeArray, Length, Get, Put, Map, Fold, Seq32, Seq64, Seq32Break}
use Rattle.cg_base.specs.Types.{Tau, arrow}
use Rattle.cg_core.specs.Derivations.{Derivation}
use Rattle.cg_core.specs.Kernels.{Body, Function}
use Rattle.cg_core.specs.Terms.{Note, Tree}
use Rattle.cg_inst.specs.Lists.{Cores, IsList, core_of, front_from, mentioned_maybe}
use Rattle.cg_kinds.specs.Kinds.{or_unit, subst}
use Rattle.cg_typing.specs.Accepted.{kinds_of_vars}
use Rattle.cg_typing.specs.Functions.{arg_types, fun_type, has_vars}
use Rattle.cg_typing.specs.Instances.{AreInstances, Entry, Instance, IsDerivedMaybe, IsEntry, IsGood, IsIn, MentionsOnly, as_arguments, is_closed, mentioned}
use Rattle.cg_typing.specs.Kept.{IsKeptMaybe}
use Rattle.cg_typing.specs.Library.{library_type}
use Rattle.cg_typing_laws.specs.Laws.{AreInstance}
use Rattle.cg_typing.specs.Subst.{subst_core}
use Rattle.cg_typing_laws.proofs.Substitution.{substitution}
use Rattle.cg_inst_laws.specs.Laws.{entry_of}
use Rattle.cg_inst_laws.proofs.Bodies.{AreTyped, are_instance, mentioned_given, mentions_good, user_there}
use Rattle.cg_inst_laws.proofs.Each.{Each, each_all, each_at, each_then}
use Rattle.cg_inst_laws.proofs.Growth.{IsFront, each_after, front_is, mentions_stay}
use Rattle.cg_typing.proofs.Lists.{types_back}

-- a type that is an arrow
record IsArrow (t : Tau) : Type 0 where
  pub argument : Tau
  pub result : Tau
  pub is : t ≡ arrow argument result

an_arrow : (a b : Tau) → IsArrow (arrow a b)
an_arrow a b = record { argument = a; result = b; is = refl }

-- the type of each function of the library is one
library_arrow : (l : Lib) (ts : List Tau) → IsArrow (library_type l ts)
library_arrow New ts = an_arrow _ _
library_arrow Free ts = an_arrow _ _
library_arrow Create ts = an_arrow _ _
library_arrow FreeArray ts = an_arrow _ _
library_arrow Length ts = an_arrow _ _
library_arrow Get ts = an_arrow _ _
library_arrow Put ts = an_arrow _ _
library_arrow Map ts = an_arrow _ _
library_arrow Fold ts = an_arrow _ _
library_arrow Seq32 ts = an_arrow _ _
library_arrow Seq64 ts = an_arrow _ _
library_arrow Seq32Break ts = an_arrow _ _

-- an arrow stays one with types for its variables
arrow_given : (types : List Tau) (t a b : Tau) → t ≡ arrow a b → subst types t ≡ arrow (subst types a) (subst types b)
unfolding subst
arrow_given types t a b e = ap (subst types) e

-- a function without type variables is a good instance of itself
front_good : (functions : List Function) (x : Instance) → IsFront 0 functions x → IsGood functions x
front_good functions x h = at (IsGood functions) (sym here) (record {
  many = ap (λ o. has_vars o 0) h.there ∙ eq-eqb (length h.function.vars) 0 (ap length h.none);
  closed = refl;
  good = refl;
})
  where
    here : x ≡ record { fun = User h.at; types = [] }
    here = let e : 0 + h.at ≡ h.at = omega arith in h.is ∙ ap (λ n. record { fun = User n; types = [] }) e

-- a body with these types mentions only what the instance does
pub mentions_only : (list : List Instance) (types : List Tau) → IsTrue (list_all is_closed types) → (core : Option (Tree Note)) → Each (IsIn list) (mentioned_maybe types core)
    → MentionsOnly list (option_map (subst_core types) core)
mentions_only list types closed None h = tt
mentions_only list types closed (Some c) h = each_all (IsIn list) (mentioned [] (subst_core types c)) (at (Each (IsIn list)) (sym (mentioned_given types closed c)) h)

-- a body that is kept is derived with these types for its type variables
derived_maybe : (functions : List Function) (f : Function) (types : List Tau) → AreInstance [] types (kinds_of_vars f)
    → (a b : Tau) (body : Option Body) (core : Option (Tree Note)) (tree : Option Derivation) → IsKeptMaybe functions (kinds_of_vars f) a b body core tree
    → IsDerivedMaybe functions (subst types a) (subst types b) (option_map (subst_core types) core)
derived_maybe functions f types fine a b body None tree k = tt
derived_maybe functions f types fine a b None (Some c) tree k = absurd k
derived_maybe functions f types fine a b (Some body) (Some c) None k = absurd k
derived_maybe functions f types fine a b (Some body) (Some c) (Some d) k =
    record { tree = d; derives = substitution functions (kinds_of_vars f) [] types fine (Some a ∷ []) d (Some b) c k.derives }

module _ (functions : List Function) (cores : Cores) (trees : ℕ → Option Derivation) (typed : AreTyped functions cores trees) where
  -- the instances of a list are good
  pub list_good : (list : List Instance) → IsList functions cores list → Each (IsGood functions) list
  list_good list p =
      at (Each (IsGood functions)) p.is
      (each_after functions cores (IsGood functions) (each_then (IsFront 0 functions) (IsGood functions) (front_from 0 functions) (front_good functions) (front_is 0 functions))
      (mentions_good functions cores trees typed) p.steps)

  -- what a good instance comes to, where the list has what it mentions
  entry_is : (list : List Instance) (f : Fun) (types : List Tau) → IsGood functions (record { fun = f; types = types }) → Each (IsIn list) (mentioned_maybe types (core_of cores f))
      → IsEntry functions list (record { fun = f; types = types }) (entry_of functions cores (record { fun = f; types = types }))
  entry_is list (OfLib l) types h k =
      let a = library_arrow l (arg_types (as_arguments types)) in record { argument = a.argument; result = a.result; is_arrow = a.is; is = refl; derived = tt; mentions = tt }
  entry_is list (User i) types h m =
      let u = user_there functions i (length types) h.many in let k = typed.kept i u.function u.there in
      let q : fun_type functions (User i) (as_arguments types) ≡ Some (subst types u.function.ty.ty) =
      ap (option_map (λ (g : Function). subst (arg_types (as_arguments types)) g.ty.ty)) u.there ∙ ap (λ ts. Some (subst ts u.function.ty.ty)) (types_back types) in
      record {
        argument = subst types k.argument;
        result = subst types k.result;
        is_arrow = ap or_unit q ∙ arrow_given types u.function.ty.ty k.argument k.result k.is_arrow;
        is = q ∙ ap Some (sym (ap or_unit q));
        derived = derived_maybe functions u.function types (are_instance functions cores trees typed i u.function types u.there h) k.argument k.result u.function.body (cores i) (trees i) k.kept;
        mentions = mentions_only list types h.closed (cores i) m;
      }

  -- what the instances of a list come to is derived, and mentions only instances of the list
  pub list_derived : (list : List Instance) → IsList functions cores list → AreInstances functions list (map (entry_of functions cores) list)
  list_derived list p = record { as_many = length-map list (entry_of functions cores); each = each }
    where
      some_entry : (e f : Entry) → Some e ≡ Some f → e ≡ f
      some_entry e f h = cc

      each : (i : ℕ) (x : Instance) (e : Entry) → slice_get list i ≡ Some x → slice_get (map (entry_of functions cores) list) i ≡ Some e → IsEntry functions list x e
      each i x e there q =
          let same : entry_of functions cores x ≡ e = some_entry (entry_of functions cores x) e (sym (ap (option_map (entry_of functions cores)) there) ∙ sym (slice_get-map (entry_of functions cores) list i) ∙ q) in
          at (IsEntry functions list x) same
          (entry_is list x.fun x.types (each_at (IsGood functions) list i x (list_good list p) there) (mentions_stay functions cores list p i x there))
