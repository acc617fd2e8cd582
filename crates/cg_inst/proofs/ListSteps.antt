-- How a list of instances grows.
use Rattle.std.proofs.Common.{◌≡◌, ◌≤◌, ◌<◌, ◌+◌, if◌then◌else◌, ℕ, Bool, true, false, Option, Some, None, List, [], ◌∷◌, ◌++◌, drop, get_or, length, refl, ap, arith}
use Rattle.std.specs.List.{list_any}
use Rattle.std.proofs.lemmas.List.{drop_all, drop_more, length-append}
use Rattle.cg_base.specs.Types.{Tau}
use Rattle.cg_core.specs.Terms.{Note, Tree}
use Rattle.cg_inst.specs.Lists.{mentioned_maybe, nodes_maybe, same_instance, with_instance, with_instances}
use Rattle.cg_typing.specs.Instances.{Instance, mentioned_at, mentioned_in}

-- some, and then others
pub with_both : (known xs ys : List Instance) → with_instances known (xs ++ ys) ≡ with_instances (with_instances known xs) ys
unfolding with_instances
with_both known [] ys = refl
with_both known (x ∷ xs) ys = with_both (with_instance known x) xs ys

-- a list doesn't get shorter
one_more : (b : Bool) (known : List Instance) (x : Instance) → length known ≤ length (if b then known else known ++ x ∷ [])
one_more true known x = omega arith
one_more false known x = let l = length-append known (x ∷ []) in omega (arith, l)

pub not_shorter_by_one : (known : List Instance) (x : Instance) → length known ≤ length (with_instance known x)
not_shorter_by_one known x = one_more (list_any (same_instance x) known) known x

pub not_shorter : (known xs : List Instance) → length known ≤ length (with_instances known xs)
unfolding with_instances
not_shorter known [] = omega arith
not_shorter known (x ∷ xs) = omega (arith, not_shorter_by_one known x, not_shorter (with_instance known x) xs)

-- the nodes from a position on
pub mentions_next : (types : List Tau) (nodes : List (Tree Note)) (i : ℕ) (d : Tree Note) → i < length nodes
    → mentioned_in types (drop i nodes) ≡ mentioned_at types (get_or nodes i d) ++ mentioned_in types (drop (i + 1) nodes)
unfolding mentioned_in
mentions_next types nodes i d h = ap (mentioned_in types) (drop_more nodes i d h)

pub mentions_end : (types : List Tau) (nodes : List (Tree Note)) (i : ℕ) → length nodes ≤ i → mentioned_in types (drop i nodes) ≡ []
unfolding mentioned_in
mentions_end types nodes i h = ap (mentioned_in types) (drop_all i nodes h)

-- what the nodes of a body mention, where there is one
pub mentions_are : (types : List Tau) (core : Option (Tree Note)) → mentioned_in types (nodes_maybe core) ≡ mentioned_maybe types core
unfolding mentioned_in
mentions_are types None = refl
mentions_are types (Some core) = refl

-- none, and one
pub with_none : (known : List Instance) → with_instances known [] ≡ known
unfolding with_instances
with_none known = refl

pub with_one : (known : List Instance) (x : Instance) → with_instances known (x ∷ []) ≡ with_instance known x
unfolding with_instances
with_one known x = refl
