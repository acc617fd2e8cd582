-- The core of an instance is as deep as the term of its function.
use Rattle.std.proofs.Common.{◌≡◌, ℕ, zero, suc, ◌+◌, ◌≤◌, max, Option, Some, None, List, [], ◌∷◌, length, map, slice_get, refl, sym, ap, ◌∙◌, arith, subst}
use Rattle.std.specs.Option.{option_map}
use Rattle.cg_base.specs.declared.fun.Fun.{Fun}
use Rattle.cg_base.specs.declared.fun.Fun.TheVariants.{User, Lib as OfLib}
use Rattle.cg_base.specs.declared.kind.Kinds.{Kinds}
use Rattle.cg_base.specs.Types.{Tau}
use Rattle.cg_core.specs.Derivations.{Derivation}
use Rattle.cg_core.specs.Kernels.{Body, Function}
use Rattle.cg_core.specs.Terms.{Note, Tree, term, Shape, var, unit, bool, lit, fun, op, app, lets, let_bang, if_else, con, case_of, esac, struct, member, take_field, put, cast, annot, Trees, none, more, Named, end, field, erased, erased_named, erased_shape, erased_trees}
use Rattle.cg_resolve_def.specs.Desugar.{body_depth, deepest, deepest_body, deepest_named, depth_of, inside}
use Rattle.cg_inst.specs.Lists.{Cores, core_of}
use Rattle.cg_inst_laws.proofs.Bodies.{AreTyped, user_there}
use Rattle.cg_inst_laws.proofs.Each.{Each, each_at}
use Rattle.cg_inst_laws.specs.Laws.{entry_of}
use Rattle.cg_lower_def.specs.Printables.{AreShallow, depth, depth_below, depth_of_all, depth_of_fields}
use Rattle.cg_typing.specs.Instances.{Entry, Instance, IsGood}
use Rattle.cg_typing.specs.Kept.{IsKeptMaybe}
use Rattle.cg_typing.specs.Subst.{subst_core, subst_cores, subst_fields, subst_shape}

-- ---- cores

one_more : (a b : ℕ) → a ≡ b → suc a ≡ b + 1
one_more a b e = omega (arith, e)

larger_are : (a b c d : ℕ) → a ≡ b → c ≡ d → max a c ≡ max b d
larger_are a b c d e g = ap (λ x. max x c) e ∙ ap (max b) g

-- a core with types for its type variables is as deep as the term that it erases to
module _ (given : List Tau) where
  mutual
    unfolding erased

    depth_is : (t : Tree Note) → depth (subst_core given t) ≡ depth_of (erased t)
    depth_is (term note shape) = one_more _ _ (below_is shape)

    below_is : (s : Shape Note) → depth_below (subst_shape given s) ≡ inside (erased_shape s)
    below_is (var i) = refl
    below_is unit = refl
    below_is (bool b) = refl
    below_is (lit value) = refl
    below_is (fun f args) = refl
    below_is (op o ts) = all_are ts
    below_is (app f x) = larger_are _ _ _ _ (depth_is f) (depth_is x)
    below_is (lets place e k) = larger_are _ _ _ _ (depth_is e) (depth_is k)
    below_is (let_bang observers place e k) = larger_are _ _ _ _ (depth_is e) (depth_is k)
    below_is (if_else c x y) = larger_are _ _ _ _ (depth_is c) (larger_are _ _ _ _ (depth_is x) (depth_is y))
    below_is (con name e) = depth_is e
    below_is (case_of e a place x y) = larger_are _ _ _ _ (depth_is e) (larger_are _ _ _ _ (depth_is x) (depth_is y))
    below_is (esac a e) = depth_is e
    below_is (struct fs) = fields_are fs
    below_is (member e a) = depth_is e
    below_is (take_field e a place rest k) = larger_are _ _ _ _ (depth_is e) (depth_is k)
    below_is (put e a x) = larger_are _ _ _ _ (depth_is e) (depth_is x)
    below_is (cast e) = depth_is e
    below_is (annot e a) = depth_is e

    all_are : (ts : Trees Note) → depth_of_all (subst_cores given ts) ≡ deepest (erased_trees ts)
    all_are none = refl
    all_are (more t ts) = larger_are _ _ _ _ (depth_is t) (all_are ts)

    fields_are : (fs : Named Note) → depth_of_fields (subst_fields given fs) ≡ deepest_named (erased_named fs)
    fields_are end = refl
    fields_are (field name t fs) = larger_are _ _ _ _ (depth_is t) (fields_are fs)

-- ---- functions

-- no body is deeper than the deepest one
below_deepest : (fs : List Function) (i : ℕ) (f : Function) → slice_get fs i ≡ Some f → body_depth f.body ≤ deepest_body fs
below_deepest [] i f h = absurd (cc)
below_deepest (g ∷ fs) zero f h = let same : g ≡ f = cc in subst (λ z. body_depth z.body ≤ deepest_body (g ∷ fs)) same (omega arith)
below_deepest (g ∷ fs) (suc i) f h = let le = below_deepest fs i f h in omega (arith, le)

-- a core that is kept, with these types, is no deeper than the body
body_shallow : (functions : List Function) (vars : List Kinds) (types : List Tau) (a b : Tau) (body : Option Body) (core : Option (Tree Note)) (tree : Option Derivation)
    → IsKeptMaybe functions vars a b body core tree → (c : Tree Note) → option_map (subst_core types) core ≡ Some c → depth c ≤ body_depth body
body_shallow functions vars types a b body None tree k c e = absurd (cc)
body_shallow functions vars types a b None (Some d) tree k c e = absurd k
body_shallow functions vars types a b (Some body) (Some d) None k c e = absurd k
body_shallow functions vars types a b (Some body) (Some d) (Some t) k c e = no_deeper (sym (ap depth same) ∙ depth_is types d ∙ ap depth_of k.erases)
  where
    same : subst_core types d ≡ c
    same = cc

    no_deeper : depth c ≡ depth_of body.term → depth c ≤ depth_of body.term
    no_deeper q = omega (arith, q)

-- an entry is that of an instance
entry_among : (functions : List Function) (cores : Cores) (list : List Instance) (k : ℕ) (e : Entry) → slice_get (map (entry_of functions cores) list) k ≡ Some e
    → (x : Instance) × (slice_get list k ≡ Some x) × (entry_of functions cores x ≡ e)
entry_among functions cores [] k e h = absurd (cc)
entry_among functions cores (x ∷ list) zero e h = (x, refl, (cc))
entry_among functions cores (x ∷ list) (suc k) e h = entry_among functions cores list k e h

module _ (functions : List Function) (cores : Cores) (trees : ℕ → Option Derivation) (typed : AreTyped functions cores trees) where
  core_shallow : (f : Fun) (types : List Tau) → IsGood functions (record { fun = f; types = types }) → (c : Tree Note) → option_map (subst_core types) (core_of cores f) ≡ Some c → depth c ≤ deepest_body functions
  core_shallow (OfLib l) types good c e = absurd (cc)
  core_shallow (User i) types good c e =
      let u = user_there functions i (length types) good.many in
      let k = typed.kept i u.function u.there in
      let deep = body_shallow functions _ types k.argument k.result u.function.body (cores i) (trees i) k.kept c e in
      let le = below_deepest functions i u.function u.there in omega (arith, deep, le)

  -- no body of good instances is deeper than 2,048, where none of the functions' is
  pub are_shallow : (list : List Instance) → Each (IsGood functions) list → deepest_body functions ≤ 2048 → AreShallow (map (entry_of functions cores) list)
  are_shallow list good le k e core h b =
      let x = entry_among functions cores list k e h in
      let deep = core_shallow x.0.fun x.0.types (each_at (IsGood functions) list k x.0 good x.1) core (ap (λ (z : Entry). z.body) x.2 ∙ b) in omega (arith, deep, le)
