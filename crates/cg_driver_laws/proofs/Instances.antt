-- The instances of a list are at proper types, and the types of what they come to are proper.
use Rattle.std.proofs.Common.{◌≡◌, ℕ, Option, Some, None, List, [], ◌∷◌, length, map, sym, subst as at}
use Rattle.std.specs.Option.{option_map}
use Rattle.std.specs.Prelude.{slice_get}
use Rattle.cg_base.specs.declared.fun.Fun.{Fun}
use Rattle.cg_base.specs.declared.fun.Fun.TheVariants.{User, Lib as OfLib}
use Rattle.cg_base.specs.declared.kind.Kinds.{Kinds}
use Rattle.cg_base.specs.Types.{Tau}
use Rattle.cg_core.specs.Derivations.{Derivation}
use Rattle.cg_core.specs.Kernels.{Body, Function}
use Rattle.cg_core.specs.Terms.{Note, Tree, term, fun, erased}
use Rattle.cg_inst.specs.Lists.{Cores, IsList, core_of, front_from, mentioned_by, mentioned_maybe}
use Rattle.cg_inst_laws.proofs.Bodies.{AreTyped, arities, mentions_good, user_there}
use Rattle.cg_inst_laws.proofs.Each.{Each, each_at, each_both, each_from, each_join, each_then}
use Rattle.cg_inst_laws.proofs.Entries.{list_good}
use Rattle.cg_inst_laws.proofs.Growth.{IsFront, each_after, front_is}
use Rattle.cg_inst_laws.proofs.Nodes.{IsLawfulNode, nodes_given, nodes_lawful}
use Rattle.cg_inst_laws.specs.Laws.{entry_of}
use Rattle.cg_core_def.specs.Lawful.{IsLawfulBody, IsLawfulTerm}
use Rattle.cg_typing.specs.Accepted.{kinds_of_vars}
use Rattle.cg_typing.specs.Functions.{arg_types, fun_type}
use Rattle.cg_typing.specs.Instances.{Entry, Instance, IsGood, as_arguments, mentioned_at, mentioned_in, nodes_of}
use Rattle.cg_typing.specs.Kept.{IsKeptMaybe}
use Rattle.cg_typing.specs.Subst.{subst_core}
use Rattle.cg_driver_laws.proofs.Fronts.{front_stays}
use Rattle.cg_driver_laws.proofs.Proper.{IsProper, given_proper, lawful_proper, list_given, or_unit_proper}
use Rattle.cg_driver_laws.proofs.ProperNodes.{HasProper, HaveProper, arguments_proper, function_proper, nodes_proper}
use Rattle.cg_typing.proofs.Lists.{types_back}

-- an instance is at proper types
abbrev pub AtProper : Instance → Type 0
AtProper x = Each IsProper x.types

-- the nodes of a body, where there is one, have proper types
abbrev pub HaveProperNodes : Option (Tree Note) → Type 0
HaveProperNodes None = Unit {0}
HaveProperNodes (Some c) = Each HasProper (nodes_of c)

-- ---- bodies

-- what holds of what each node mentions holds of all that they mention
each_mentioned : (types : List Tau) (P : Instance → Type 0) (ts : List (Tree Note)) → Each (λ t. Each P (mentioned_at types t)) ts → Each P (mentioned_in types ts)
unfolding mentioned_in
each_mentioned types P [] h = tt
each_mentioned types P (t ∷ ts) h = each_both P (mentioned_at types t) (mentioned_in types ts) h.0 (each_mentioned types P ts h.1)

-- a body that is kept erases to a lawful term
kept_lawful : (arities : List ℕ) (many : ℕ) (body : Body) (c : Tree Note) → erased c ≡ body.term → IsLawfulBody arities many (Some body) → IsLawfulTerm arities many 1 (erased c)
kept_lawful arities many body c e l = at (IsLawfulTerm arities many 1) (sym e) l

-- its nodes have proper types
body_proper : (functions : List Function) (vars : List Kinds) (arities : List ℕ) (many : ℕ) → HaveProper functions → (a b : Tau) → IsProper a → IsProper b
    → (body : Option Body) (core : Option (Tree Note)) (tree : Option Derivation) → IsKeptMaybe functions vars a b body core tree → IsLawfulBody arities many body → HaveProperNodes core
body_proper functions vars arities many signatures a b p q body None tree k l = tt
body_proper functions vars arities many signatures a b p q None (Some c) tree k l = absurd k
body_proper functions vars arities many signatures a b p q (Some body) (Some c) None k l = absurd k
body_proper functions vars arities many signatures a b p q (Some body) (Some c) (Some d) k l =
    nodes_proper functions vars arities many signatures c (Some a ∷ []) d (Some b) 1 k.derives (kept_lawful arities many body c k.erases l) (p, tt) q

module _ (types : List Tau) (proper : Each IsProper types) where
  -- what a lawful node mentions at these types is at proper types
  node_mentions : (arities : List ℕ) (many : ℕ) (t : Tree Note) → IsLawfulNode arities many t → Each AtProper (mentioned_at types t)
  unfolding erased
  node_mentions arities many (term note (fun f args)) l = (list_given types proper (arg_types args) (arguments_proper arities many args l.lawful.1), tt)
  node_mentions arities many _ l = tt

  -- and so is what a body mentions
  body_mentions : (functions : List Function) (vars : List Kinds) (arities : List ℕ) (many : ℕ) (a b : Tau) (body : Option Body) (core : Option (Tree Note)) (tree : Option Derivation)
      → IsKeptMaybe functions vars a b body core tree → IsLawfulBody arities many body → Each AtProper (mentioned_maybe types core)
  body_mentions functions vars arities many a b body None tree k l = tt
  body_mentions functions vars arities many a b None (Some c) tree k l = absurd k
  body_mentions functions vars arities many a b (Some body) (Some c) None k l = absurd k
  body_mentions functions vars arities many a b (Some body) (Some c) (Some d) k l =
      each_mentioned types AtProper (nodes_of c)
      (each_then (IsLawfulNode arities many) (λ t. Each AtProper (mentioned_at types t)) (nodes_of c) (node_mentions arities many)
      (nodes_lawful arities many c 1 (kept_lawful arities many body c k.erases l)))

  -- nodes keep proper types at these
  node_given : (t : Tree Note) → HasProper t → HasProper (subst_core types t)
  node_given (term note s) h = given_proper types proper note.ty h

  all_given : (ts : List (Tree Note)) → Each HasProper ts → Each HasProper (map (subst_core types) ts)
  all_given [] h = tt
  all_given (t ∷ ts) h = (node_given t h.0, all_given ts h.1)

  body_given : (core : Option (Tree Note)) → HaveProperNodes core → HaveProperNodes (option_map (subst_core types) core)
  body_given None h = tt
  body_given (Some c) h = at (Each HasProper) (sym (nodes_given types c)) (all_given (nodes_of c) h)

-- ---- entries

-- an entry's type is proper, and so are those of its nodes
pub record IsProperEntry (e : Entry) : Type 0 where
  pub ty : IsProper e.ty
  pub nodes : HaveProperNodes e.body

module _ (functions : List Function) (cores : Cores) (trees : ℕ → Option Derivation) (typed : AreTyped functions cores trees) where
  -- signatures are proper
  signatures : HaveProper functions
  signatures i f e = lawful_proper (length f.vars) f.ty.ty (typed.lawful i f e).ty

  -- the nodes of each core have proper types
  core_proper : (i : ℕ) (f : Function) → slice_get functions i ≡ Some f → HaveProperNodes (cores i)
  core_proper i f e =
      let k = typed.kept i f e in
      let ends : IsProper k.argument × IsProper k.result = at IsProper k.is_arrow (signatures i f e) in
      body_proper functions (kinds_of_vars f) (arities functions) (length f.vars) signatures k.argument k.result ends.0 ends.1 f.body (cores i) (trees i) k.kept (typed.lawful i f e).body

  -- a good instance at proper types
  abbrev pub IsFine : Instance → Type 0
  IsFine x = IsGood functions x × AtProper x

  -- what it mentions is such
  mentions_proper : (f : Fun) (types : List Tau) → IsGood functions (record { fun = f; types = types }) → Each IsProper types → Each AtProper (mentioned_maybe types (core_of cores f))
  mentions_proper (OfLib l) types good proper = tt
  mentions_proper (User i) types good proper =
      let u = user_there functions i (length types) good.many in let k = typed.kept i u.function u.there in
      body_mentions types proper functions (kinds_of_vars u.function) (arities functions) (length u.function.vars) k.argument k.result u.function.body (cores i) (trees i) k.kept
      (typed.lawful i u.function u.there).body

  mentions_fine : (x : Instance) → IsFine x → Each IsFine (mentioned_by functions cores x)
  mentions_fine x p =
      each_join (IsGood functions) AtProper IsFine (mentioned_by functions cores x) (λ y g h. (g, h)) (mentions_good functions cores trees typed x p.0) (mentions_proper x.fun x.types p.0 p.1)

  front_fine : (list : List Instance) → IsList functions cores list → Each IsFine (front_from 0 functions)
  front_fine list is = each_from IsFine (front_from 0 functions) one
    where
      one : (i : ℕ) (x : Instance) → slice_get (front_from 0 functions) i ≡ Some x → IsFine x
      one i x e =
          let f = each_at (IsFront 0 functions) (front_from 0 functions) i x (front_is 0 functions) e in (
            each_at (IsGood functions) list i x (list_good functions cores trees typed list is) (at (λ xs. slice_get xs i ≡ Some x) is.is (front_stays functions cores is.steps i x e)),
            at AtProper (sym f.is) (tt {0}),
          )

  -- all instances of a list are
  pub list_fine : (list : List Instance) → IsList functions cores list → Each IsFine list
  list_fine list is = at (Each IsFine) is.is (each_after functions cores IsFine (front_fine list is) mentions_fine is.steps)

  -- so what they come to is proper
  nodes_fine : (f : Fun) (types : List Tau) → IsGood functions (record { fun = f; types = types }) → Each IsProper types → HaveProperNodes (option_map (subst_core types) (core_of cores f))
  nodes_fine (OfLib l) types good proper = tt
  nodes_fine (User i) types good proper = let u = user_there functions i (length types) good.many in body_given types proper (cores i) (core_proper i u.function u.there)

  pub entry_proper : (x : Instance) → IsFine x → IsProperEntry (entry_of functions cores x)
  entry_proper x p = record {
    ty = or_unit_proper (fun_type functions x.fun (as_arguments x.types))
        (function_proper functions signatures x.fun (as_arguments x.types) (at (Each IsProper) (sym (types_back x.types)) p.1));
    nodes = nodes_fine x.fun x.types p.0 p.1;
  }
