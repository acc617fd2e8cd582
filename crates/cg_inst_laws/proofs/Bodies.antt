-- What the body of an instance mentions: good instances, of functions that the function's body mentions.
use Rattle.std.proofs.Common.{◌≡◌, ℕ, zero, suc, IsTrue, Option, Some, None, List, [], ◌∷◌, length, map, refl, sym, ap, ◌∙◌, subst as at}
use Rattle.std.proofs.lemmas.Option.{slice_get_within, get_or_from_slice_get}
use Rattle.std.specs.List.{All, list_all}
use Rattle.std.specs.Prelude.{slice_get}
use Rattle.cg_base.specs.declared.fun.Fun.{Fun}
use Rattle.cg_base.specs.declared.fun.Fun.TheVariants.{User, Lib as OfLib}
use Rattle.cg_base.specs.Types.{Tau}
use Rattle.cg_core.specs.declared.derivation.Deriv.{Deriv}
use Rattle.cg_core.specs.declared.term.Term.{Term}
use Rattle.cg_core.specs.declared.term.Typed.{Typed}
use Rattle.cg_core.specs.Derivations.{Derivation}
use Rattle.cg_core.specs.Kernels.{Body, Function}
use Rattle.cg_core.specs.Terms.{Note, Tree, term, fun}
use Rattle.cg_inst.specs.Judged.{core_in, functions_in}
use Rattle.cg_inst.specs.Lists.{Cores, core_of, mentioned_by, mentioned_maybe}
use Rattle.cg_core_def.specs.Lawful.{IsLawfulFunction, body_mentions, user_of}
use Rattle.cg_typing.specs.Accepted.{kinds_of_vars}
use Rattle.cg_typing.specs.declared.checked.Checked.{Checked}
use Rattle.cg_typing.specs.Functions.{are_good_arguments, asked_by_user, has_vars}
use Rattle.cg_typing.specs.Holds.{cores_in, kept_at, trees_in}
use Rattle.cg_typing.specs.Instances.{Instance, IsGood, as_arguments, is_closed, mentioned, mentioned_at, mentioned_in, nodes_of}
use Rattle.cg_typing.specs.Kept.{AreKept, IsKept, IsKeptMaybe, maybe_core, maybe_tree}
use Rattle.cg_typing_laws.specs.Laws.{AreInstance}
use Rattle.cg_typing.specs.Subst.{subst_core}
use Rattle.cg_typing_laws.proofs.Instances.{checked_arguments}
use Rattle.cg_inst_laws.proofs.Each.{Each, each_both, each_then}
use Rattle.cg_inst_laws.proofs.Mentions.{given_twice, mention_is_good}
use Rattle.cg_inst_laws.proofs.Nodes.{IsDerivedNode, nodes_derived, nodes_given, nodes_users, users_at}
use Rattle.cg_base.proofs.Counts.{no_steps as never}
use Rattle.cg_typing.proofs.Lists.{types_back}

-- ---- what nodes mention

-- what holds of each instance that some nodes mention, by nodes
each_mentioned : (types : List Tau) (P : Instance → Type 0) (ts : List (Tree Note)) → Each (λ t. Each P (mentioned_at types t)) ts → Each P (mentioned_in types ts)
unfolding mentioned_in
each_mentioned types P [] h = tt
each_mentioned types P (t ∷ ts) h = each_both P (mentioned_at types t) (mentioned_in types ts) h.0 (each_mentioned types P ts h.1)

-- with types for the type variables, nodes mention what they mention at these types
node_given : (given : List Tau) → IsTrue (list_all is_closed given) → (t : Tree Note) → mentioned_at [] (subst_core given t) ≡ mentioned_at given t
node_given given closed (term note (fun f args)) = ap (λ ts. record { fun = f; types = ts } ∷ []) (given_twice given closed args)
node_given given closed _ = refl

nodes_mention : (given : List Tau) → IsTrue (list_all is_closed given) → (ts : List (Tree Note)) → mentioned_in [] (map (subst_core given) ts) ≡ mentioned_in given ts
unfolding mentioned_in
nodes_mention given closed [] = refl
nodes_mention given closed (t ∷ ts) = let p = node_given given closed t in let q = nodes_mention given closed ts in cc

pub mentioned_given : (given : List Tau) → IsTrue (list_all is_closed given) → (c : Tree Note) → mentioned [] (subst_core given c) ≡ mentioned given c
mentioned_given given closed c = ap (mentioned_in []) (nodes_given given c) ∙ nodes_mention given closed (nodes_of c)

-- ---- how many type arguments

-- how many type arguments each function takes
abbrev pub arities : List Function → List ℕ
arities functions = map (λ f. length f.vars) functions

-- ---- functions that are typed

-- each function is kept with its core and some derivation, and is lawful
pub record AreTyped (functions : List Function) (cores : Cores) (trees : ℕ → Option Derivation) : Type 0 where
  pub kept : (i : ℕ) (f : Function) → slice_get functions i ≡ Some f → IsKept functions f (cores i) (trees i)
  pub lawful : (i : ℕ) (f : Function) → slice_get functions i ≡ Some f → IsLawfulFunction (arities functions) f

-- what is kept of a function, by its position
pub kept_of : (functions fs : List Function) (cores : List (Option (Term Typed))) (trees : List (Option Deriv)) (i : ℕ) (f : Function)
    → AreKept functions fs (map maybe_core cores) (map maybe_tree trees) → slice_get fs i ≡ Some f → IsKept functions f (maybe_core (kept_at cores i)) (maybe_tree (kept_at trees i))
kept_of functions [] cores trees i f k e = absurd (cc)
kept_of functions (g ∷ fs) [] trees i f k e = absurd k
kept_of functions (g ∷ fs) (c ∷ cores) [] i f k e = absurd k
kept_of functions (g ∷ fs) (c ∷ cores) (d ∷ trees) zero f k e = let q : g ≡ f = cc in at (λ f. IsKept functions f (maybe_core c) (maybe_tree d)) q k.0
kept_of functions (g ∷ fs) (c ∷ cores) (d ∷ trees) (suc i) f k e = kept_of functions fs cores trees i f k.1 e

-- what holds of all functions holds of one
pub one_of_all : (P : Function → Type 0) (fs : List Function) (i : ℕ) (f : Function) → All P fs → slice_get fs i ≡ Some f → P f
one_of_all P fs i f h e = at P (get_or_from_slice_get fs i f f e) (h i f (slice_get_within fs i f e))

-- the derivation that a checked source keeps for a function
abbrev pub tree_in : Checked → ℕ → Option Derivation
tree_in checked i = maybe_tree (kept_at (trees_in checked) i)

-- those of a checked source are
pub source_typed : (checked : Checked) → AreKept (functions_in checked) (functions_in checked) (map maybe_core (cores_in checked)) (map maybe_tree (trees_in checked))
    → AreTyped (functions_in checked) (core_in checked) (tree_in checked)
source_typed checked k = record {
  kept = λ i f e. kept_of (functions_in checked) (functions_in checked) (cores_in checked) (trees_in checked) i f k e;
  lawful = λ i f e. one_of_all (IsLawfulFunction (arities (functions_in checked))) (functions_in checked) i f checked.lawful.functions_stand e;
}

-- ---- a function that has as many type variables is one of the program

pub record IsUser (functions : List Function) (i : ℕ) : Type 0 where
  pub function : Function
  pub there : slice_get functions i ≡ Some function

pub user_there : (functions : List Function) (i n : ℕ) → IsTrue (has_vars (slice_get functions i) n) → IsUser functions i
user_there functions i n h = go (slice_get functions i) refl h
  where
    go : (o : Option Function) → slice_get functions i ≡ o → IsTrue (has_vars o n) → IsUser functions i
    go None e h = never h
    go (Some f) e h = record { function = f; there = e }

module _ (functions : List Function) (cores : Cores) (trees : ℕ → Option Derivation) (typed : AreTyped functions cores trees) where
  -- types that are good for a function are an instance of its type variables
  pub are_instance : (i : ℕ) (f : Function) (types : List Tau) → slice_get functions i ≡ Some f → IsGood functions (record { fun = User i; types = types }) → AreInstance [] types (kinds_of_vars f)
  are_instance i f types e h =
      at (λ ts. AreInstance [] ts (kinds_of_vars f)) (types_back types)
      (checked_arguments [] f (as_arguments types) (at (λ o. IsTrue (are_good_arguments [] (asked_by_user o) (as_arguments types))) e h.good))

  module _ (i : ℕ) (f : Function) (types : List Tau) (there : slice_get functions i ≡ Some f) (good : IsGood functions (record { fun = User i; types = types })) where
    -- a node that is derived mentions good instances
    node_good : (t : Tree Note) → IsDerivedNode functions (kinds_of_vars f) t → Each (IsGood functions) (mentioned_at types t)
    node_good (term note (fun g args)) d =
        (mention_is_good functions (kinds_of_vars f) types (are_instance i f types there good) good.closed g args d.derives.many d.derives.arguments, tt)
    node_good _ d = tt

    -- and so does a body that is kept
    body_good : (a b : Tau) (body : Option Body) (core : Option (Tree Note)) (tree : Option Derivation)
        → IsKeptMaybe functions (kinds_of_vars f) a b body core tree → Each (IsGood functions) (mentioned_maybe types core)
    body_good a b body None tree k = tt
    body_good a b None (Some c) tree k = absurd k
    body_good a b (Some body) (Some c) None k = absurd k
    body_good a b (Some body) (Some c) (Some d) k =
        each_mentioned types (IsGood functions) (nodes_of c)
        (each_then (IsDerivedNode functions (kinds_of_vars f)) (λ t. Each (IsGood functions) (mentioned_at types t)) (nodes_of c) node_good
        (nodes_derived functions (kinds_of_vars f) c _ d _ k.derives))

    -- what holds of the functions that a node mentions holds of those of the instances that it mentions
    node_named : (P : ℕ → Type 0) (t : Tree Note) → Each P (users_at t) → Each (λ (x : Instance). Each P (user_of x.fun)) (mentioned_at types t)
    node_named P (term note (fun g args)) h = (h, tt)
    node_named P _ h = tt

    -- and the same of a body that is kept: its core mentions what it mentions
    body_named : (P : ℕ → Type 0) (a b : Tau) (body : Option Body) (core : Option (Tree Note)) (tree : Option Derivation)
        → IsKeptMaybe functions (kinds_of_vars f) a b body core tree → Each P (body_mentions body) → Each (λ (x : Instance). Each P (user_of x.fun)) (mentioned_maybe types core)
    body_named P a b body None tree k h = tt
    body_named P a b None (Some c) tree k h = absurd k
    body_named P a b (Some body) (Some c) None k h = absurd k
    body_named P a b (Some body) (Some c) (Some d) k h =
        each_mentioned types (λ (x : Instance). Each P (user_of x.fun)) (nodes_of c)
        (each_then (λ t. Each P (users_at t)) (λ t. Each (λ (x : Instance). Each P (user_of x.fun)) (mentioned_at types t)) (nodes_of c) (node_named P)
        (nodes_users P c (at (λ t. Each P (body_mentions (Some (record { param = body.param; term = t })))) (sym k.erases) h)))

  -- what a good instance mentions is good
  pub mentions_good : (x : Instance) → IsGood functions x → Each (IsGood functions) (mentioned_by functions cores x)
  mentions_good x h = go x.fun x.types h
    where
      go : (f : Fun) (types : List Tau) → IsGood functions (record { fun = f; types = types }) → Each (IsGood functions) (mentioned_maybe types (core_of cores f))
      go (OfLib l) types h = tt
      go (User i) types h =
          let u = user_there functions i (length types) h.many in let k = typed.kept i u.function u.there in
          body_good i u.function types u.there h k.argument k.result u.function.body (cores i) (trees i) k.kept

  -- and what holds of each function that its function's body mentions holds of their functions
  pub mentions_named : (P : ℕ → Type 0) (i : ℕ) (f : Function) (types : List Tau) → slice_get functions i ≡ Some f → IsGood functions (record { fun = User i; types = types })
      → Each P (body_mentions f.body) → Each (λ (x : Instance). Each P (user_of x.fun)) (mentioned_by functions cores (record { fun = User i; types = types }))
  mentions_named P i f types there good h =
      let k = typed.kept i f there in body_named i f types there good P k.argument k.result f.body (cores i) (trees i) k.kept h
