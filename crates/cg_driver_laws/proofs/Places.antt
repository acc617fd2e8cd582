-- Where instances stand in a list, and what nodes without type variables mention there.
use Rattle.std.proofs.Common.{◌≡◌, ℕ, zero, suc, Bool, true, IsTrue, Some, List, [], ◌∷◌, map, slice_get, refl, sym, ap, ◌∙◌, subst as at, if◌then◌else◌}
use Rattle.std.proofs.lemmas.Bool.{and_from}
use Rattle.std.specs.List.{list_all}
use Rattle.std.specs.Option.{option_map}
use Rattle.cg_base.proofs.Counts.{no_steps as never}
use Rattle.cg_base.specs.Types.{Tau}
use Rattle.cg_core.specs.Terms.{Note, Tree, term, fun}
use Rattle.cg_inst.proofs.Names.{by_cases}
use Rattle.cg_inst.proofs.SameInstance.{instance_is, instance_same}
use Rattle.cg_inst.specs.Lists.{same_instance}
use Rattle.cg_inst_laws.proofs.Closed.{closed_all}
use Rattle.cg_inst_laws.proofs.Each.{Each}
use Rattle.cg_inst_laws.proofs.Growth.{IsApart}
use Rattle.cg_inst_laws.proofs.Mentions.{arguments_given}
use Rattle.cg_inst_laws.proofs.Nodes.{nodes_given}
use Rattle.cg_inst_laws.specs.Laws.{place_in}
use Rattle.cg_typing.specs.Functions.{arg_types}
use Rattle.cg_typing.specs.Instances.{Instance, is_closed, mentioned_at, nodes_of}
use Rattle.cg_typing.specs.Subst.{subst_core}
use Rattle.cg_update.specs.Among.{is_mention_among, is_place_among}
use Rattle.cg_update.specs.Updates.{place_of}
use Rattle.cg_update_laws.proofs.Places.{all_stay as types_stay}

-- ---- places

suc_same : (i j : ℕ) → suc i ≡ suc j → i ≡ j
suc_same i j e = cc

-- an instance of which there is one in a list is found at its place
pub place_is : (list : List Instance) (k : ℕ) (x : Instance) → slice_get list k ≡ Some x
    → ((i j : ℕ) → slice_get list i ≡ Some x → slice_get list j ≡ Some x → i ≡ j) → place_of x list ≡ Some k
unfolding place_of
place_is [] k x e once = absurd (cc)
place_is (y ∷ ys) zero x e once =
    by_cases (λ b. (if b then Some zero else option_map suc (place_of x ys)) ≡ Some zero) (same_instance x y) (λ _. refl)
    (λ no. let same : y ≡ x = cc in never (sym no ∙ ap (same_instance x) same ∙ instance_same x))
place_is (y ∷ ys) (suc k) x e once =
    by_cases (λ b. (if b then Some zero else option_map suc (place_of x ys)) ≡ Some (suc k)) (same_instance x y)
    (λ yes. let bad : zero ≡ suc k = once zero (suc k) (ap Some (sym (instance_is x y yes))) e in absurd (cc))
    (λ _. ap (option_map suc) (place_is ys k x e (λ i j p q. suc_same i j (once (suc i) (suc j) p q))))

-- what stands in a list stands at its place there
pub place_found : (list : List Instance) (k : ℕ) (x : Instance) → slice_get list k ≡ Some x → slice_get list (place_in list x) ≡ Some x
unfolding place_in
place_found [] k x e = absurd (cc)
place_found (y ∷ ys) zero x e =
    by_cases (λ b. slice_get (y ∷ ys) (if b then zero else suc (place_in ys x)) ≡ Some x) (same_instance x y) (λ _. e)
    (λ no. let same : y ≡ x = cc in never (sym no ∙ ap (same_instance x) same ∙ instance_same x))
place_found (y ∷ ys) (suc k) x e =
    by_cases (λ b. slice_get (y ∷ ys) (if b then zero else suc (place_in ys x)) ≡ Some x) (same_instance x y) (λ yes. ap Some (sym (instance_is x y yes)))
    (λ _. place_found ys k x e)

-- ---- nodes without type variables

-- a node mentions something at types without type variables, or nothing
abbrev pub HasClosedArguments : Tree Note → Type 0
HasClosedArguments (term note (fun f args)) = IsTrue (list_all is_closed (arg_types args))
HasClosedArguments t = Unit {0}

module _ (types : List Tau) (closed : IsTrue (list_all is_closed types)) where
  arguments_closed : (t : Tree Note) → HasClosedArguments (subst_core types t)
  arguments_closed (term note (fun f args)) = at (λ ts. IsTrue (list_all is_closed ts)) (sym (arguments_given types args)) (closed_all types closed (arg_types args))
  arguments_closed _ = tt

  all_closed : (ts : List (Tree Note)) → Each HasClosedArguments (map (subst_core types) ts)
  all_closed [] = tt
  all_closed (t ∷ ts) = (arguments_closed t, all_closed ts)

  -- so do the nodes of a core with such types for its type variables
  pub nodes_closed : (c : Tree Note) → Each HasClosedArguments (nodes_of (subst_core types c))
  nodes_closed c = at (Each HasClosedArguments) (sym (nodes_given types c)) (all_closed (nodes_of c))

-- ---- mentions

module _ (list : List Instance) (among : ℕ → Bool) where
  -- an instance stands at one of some places of a list
  pub record IsAmong (x : Instance) : Type 0 where
    pub place : ℕ
    pub there : slice_get list place ≡ Some x
    pub is : among place ≡ true

  -- what a node mentions stands there, where it is told by instances
  pub mention_among : IsApart list → (t : Tree Note) → HasClosedArguments t → Each IsAmong (mentioned_at [] t) → IsTrue (is_mention_among list among t)
  mention_among apart (term note (fun f args)) c h =
      let there : slice_get list h.0.place ≡ Some (record { fun = f; types = arg_types args }) = h.0.there ∙ ap (λ ts. Some (record { fun = f; types = ts })) (types_stay (arg_types args) c) in
      and_from (list_all is_closed (arg_types args)) _ c
      (ap (is_place_among list among) (place_is list h.0.place (record { fun = f; types = arg_types args }) there (λ i j p q. apart i j (record { fun = f; types = arg_types args }) p q))
      ∙ h.0.is)
  mention_among apart _ c h = refl
