-- What the nodes of a core mention is what its body mentions, and so the graph of cores is that of bodies.
use Rattle.std.proofs.Common.{◌≡◌, ◌↔◌, ℕ, zero, suc, ◌<◌, Bool, true, IsTrue, List, [], ◌∷◌, ◌++◌, Option, Some, None, get_or, length, map, refl, sym, ap, subst, ◌∙◌, arith}
use Rattle.std.specs.Prelude.{slice_get}
use Rattle.std.specs.List.{flat_map, range_with_len}
use Rattle.std.proofs.lemmas.List.{append_assoc, append-nil, length-map}
use Rattle.std.proofs.lemmas.List.FromFn.{fill_by_all}
use Rattle.std.proofs.Math.Logic.{∥∥₁_elim}
use Rattle.std.proofs.Props.{props}
use Rattle.cg_base.specs.declared.kind.Kinds.{Kinds}
use Rattle.cg_base.specs.Types.{Tau}
use Rattle.cg_core.specs.declared.term.Term.{Term}
use Rattle.cg_core.specs.declared.term.Typed.{Typed}
use Rattle.cg_core.specs.Derivations.{Derivation}
use Rattle.cg_core.specs.Kernels.{Function, Body, function_of, kernel_of}
use Rattle.cg_core.specs.Terms.{Note, Tree, term, var, unit, bool, lit, fun, op, app, lets, let_bang, if_else, con, case_of, esac, struct, member, take_field, put, cast, annot, Trees, none, more, Named, end, field, erased, erased_trees, erased_named}
use Rattle.cg_core_def.specs.Lawful.{body_mentions, fields_mentions, kernel_mentions, term_mentions, terms_mentions}
use Rattle.cg_typing.specs.declared.checked.Checked.{Checked}
use Rattle.cg_typing.specs.Holds.{cores_in, kept_at, kernel_in, trees_in}
use Rattle.cg_typing.specs.Instances.{nodes_of, nodes_of_all, nodes_of_fields}
use Rattle.cg_typing.specs.Kept.{AreKept, IsKeptMaybe, maybe_core, maybe_tree}
use Rattle.cg_driver_entry.specs.Entries.{IsMarkedAbstract, ReachesAbstract, is_absent, lacks_body, users_at, users_in}
use Rattle.cg_graphs.specs.Reach.{AreReached}

-- ---- one core

abbrev users : List (Tree Note) → List ℕ
users ts = flat_map users_at ts

both : (xs ys : List (Tree Note)) (a b : List ℕ) → users xs ≡ a → users ys ≡ b → users (xs ++ ys) ≡ a ++ b
both xs ys a b p q = apart xs ∙ ap (λ z. z ++ users ys) p ∙ ap (λ z. a ++ z) q
  where
    apart : (xs : List (Tree Note)) → users (xs ++ ys) ≡ users xs ++ users ys
    apart [] = refl
    apart (x ∷ xs) = ap (λ z. users_at x ++ z) (apart xs) ∙ sym (append_assoc (users_at x) (users xs) (users ys))

three : (xs ys zs : List (Tree Note)) (a b c : List ℕ) → users xs ≡ a → users ys ≡ b → users zs ≡ c → users (xs ++ ys ++ zs) ≡ a ++ b ++ c
three xs ys zs a b c p q r = both (xs ++ ys) zs (a ++ b) c (both xs ys a b p q) r

mutual
  unfolding erased

  -- the functions that nodes mention, in order
  pub nodes_users : (c : Tree Note) → users (nodes_of c) ≡ term_mentions (erased c)
  nodes_users (term note (var i)) = refl
  nodes_users (term note unit) = refl
  nodes_users (term note (bool b)) = refl
  nodes_users (term note (lit v)) = refl
  nodes_users (term note (fun f args)) = append-nil _
  nodes_users (term note (op o ts)) = all_users ts
  nodes_users (term note (app x y)) = both (nodes_of x) (nodes_of y) _ _ (nodes_users x) (nodes_users y)
  nodes_users (term note (lets p x y)) = both (nodes_of x) (nodes_of y) _ _ (nodes_users x) (nodes_users y)
  nodes_users (term note (let_bang os p x y)) = both (nodes_of x) (nodes_of y) _ _ (nodes_users x) (nodes_users y)
  nodes_users (term note (if_else c x y)) = three (nodes_of c) (nodes_of x) (nodes_of y) _ _ _ (nodes_users c) (nodes_users x) (nodes_users y)
  nodes_users (term note (con n x)) = nodes_users x
  nodes_users (term note (case_of c a p x y)) = three (nodes_of c) (nodes_of x) (nodes_of y) _ _ _ (nodes_users c) (nodes_users x) (nodes_users y)
  nodes_users (term note (esac a x)) = nodes_users x
  nodes_users (term note (struct fs)) = fields_users fs
  nodes_users (term note (member x a)) = nodes_users x
  nodes_users (term note (take_field x a p q y)) = both (nodes_of x) (nodes_of y) _ _ (nodes_users x) (nodes_users y)
  nodes_users (term note (put x a y)) = both (nodes_of x) (nodes_of y) _ _ (nodes_users x) (nodes_users y)
  nodes_users (term note (cast x)) = nodes_users x
  nodes_users (term note (annot x a)) = nodes_users x

  all_users : (ts : Trees Note) → users (nodes_of_all ts) ≡ terms_mentions (erased_trees ts)
  all_users none = refl
  all_users (more t ts) = both (nodes_of t) (nodes_of_all ts) _ _ (nodes_users t) (all_users ts)

  fields_users : (fs : Named Note) → users (nodes_of_fields fs) ≡ fields_mentions (erased_named fs)
  fields_users end = refl
  fields_users (field n t fs) = both (nodes_of t) (nodes_of_fields fs) _ _ (nodes_users t) (fields_users fs)

-- ---- all cores of a source

module _ (functions : List Function) where
  body_users : (vars : List Kinds) (argument result : Tau) (b : Option Body) (c : Option (Tree Note)) (d : Option Derivation) → IsKeptMaybe functions vars argument result b c d
      → users_in c ≡ body_mentions b
  body_users vars argument result None None None h = refl
  body_users vars argument result (Some b) (Some c) (Some d) h = nodes_users c ∙ ap term_mentions h.erases
  body_users vars argument result None None (Some d) h = absurd h
  body_users vars argument result None (Some c) d h = absurd h
  body_users vars argument result (Some b) None d h = absurd h
  body_users vars argument result (Some b) (Some c) None h = absurd h

  users_kept : (fs : List Function) (cs : List (Option (Term Typed))) (ds : List (Option Derivation)) → AreKept functions fs (map maybe_core cs) ds
      → (i : ℕ) → i < length (kernel_mentions fs) → get_or (kernel_mentions fs) i [] ≡ users_in (maybe_core (kept_at cs i))
  users_kept [] cs ds kept i lt = absurd (omega arith)
  users_kept (f ∷ fs) [] ds kept i lt = absurd kept
  users_kept (f ∷ fs) (c ∷ cs) [] kept i lt = absurd kept
  users_kept (f ∷ fs) (c ∷ cs) (d ∷ ds) kept zero lt = sym (body_users _ _ _ f.body (maybe_core c) d kept.0.kept)
  users_kept (f ∷ fs) (c ∷ cs) (d ∷ ds) kept (suc i) lt = users_kept fs cs ds kept.1 i (omega arith)

-- the graph of what cores mention is that of what bodies mention
pub graph_is : (checked : Checked)
    → map (λ i. users_in (maybe_core (kept_at (cores_in checked) i))) (range_with_len 0 (length (kernel_in checked).funs)) ≡ kernel_mentions (kernel_of (kernel_in checked))
graph_is checked =
    let functions = kernel_of (kernel_in checked) in
    ∥∥₁_elim checked.kept (hlevel props)
    (λ kept. sym (fill_by_all (λ i. users_in (maybe_core (kept_at (cores_in checked) i))) (kernel_mentions functions) (length (kernel_in checked).funs) []
    (length-map functions (λ f. body_mentions f.body) ∙ length-map (kernel_in checked).funs function_of)
    (λ i lt. users_kept functions functions (cores_in checked) (map maybe_tree (trees_in checked)) kept i
    (let e = length-map functions (λ f. body_mentions f.body) in let d = length-map (kernel_in checked).funs function_of in omega arith))))

-- ---- what is reached

-- a function that lacks a body is one
absent : (b : Option Body) → is_absent b ≡ true → b ≡ None
absent None e = refl
absent (Some b) e = absurd (cc)

lacking : (o : Option Function) → lacks_body o ≡ true → (f : Function) × (o ≡ Some f) × (f.body ≡ None)
lacking None e = absurd (cc)
lacking (Some f) e = (f, refl, absent f.body e)

stands_within : (functions : List Function) (i : ℕ) (f : Function) → slice_get functions i ≡ Some f → i < length (kernel_mentions functions)
stands_within [] i f e = absurd (cc)
stands_within (g ∷ gs) zero f e = omega arith
stands_within (g ∷ gs) (suc i) f e = let lt = stands_within gs i f e in omega arith

-- what is marked is what is reached
module _ (functions : List Function) (at : ℕ) (marks : List Bool) (are : AreReached (kernel_mentions functions) at marks) where
  there : IsMarkedAbstract functions marks → ReachesAbstract functions at
  there m =
      let f = lacking (slice_get functions m.0) m.1 in
      record { place = m.0; function = f.0; stands = f.1; abstract = f.2; reached = (are.marked m.0 (stands_within functions m.0 f.0 f.1)).0 m.2 }

  back : ReachesAbstract functions at → IsMarkedAbstract functions marks
  back r = (r.place, ap lacks_body r.stands ∙ ap is_absent r.abstract, (are.marked r.place (stands_within functions r.place r.function r.stands)).1 r.reached)

  pub reached_is : (b : Bool) → IsTrue b ↔ IsMarkedAbstract functions marks → IsTrue b ↔ ReachesAbstract functions at
  reached_is b h = (λ t. there (h.0 t), λ r. h.1 (back r))

-- what the search answers, as the code has it
pub answered : (checked : Checked) (at : ℕ) (edges : List (List ℕ)) (fs : List Function) (marks given : List Bool) (b : Bool)
    → edges ≡ map (λ i. users_in (maybe_core (kept_at (cores_in checked) i))) (range_with_len 0 (length (kernel_in checked).funs))
    → AreReached edges at marks → given ≡ marks → fs ≡ kernel_of (kernel_in checked) → IsTrue b ↔ IsMarkedAbstract fs given
    → IsTrue b ↔ ReachesAbstract (kernel_of (kernel_in checked)) at
answered checked at edges fs marks given b graph are same functions found =
    reached_is (kernel_of (kernel_in checked)) at marks (subst (λ g. AreReached g at marks) (graph ∙ graph_is checked) are) b
    (subst (λ ms. IsTrue b ↔ IsMarkedAbstract (kernel_of (kernel_in checked)) ms) same (subst (λ gs. IsTrue b ↔ IsMarkedAbstract gs given) functions found))
