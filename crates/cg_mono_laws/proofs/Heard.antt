-- What nodes mention is in a list: of nodes behind others, of both.
use Rattle.std.proofs.Common.{◌≡◌, List, [], ◌∷◌, ◌++◌, map, refl, sym, ap, ◌∙◌, append_assoc, subst as at}
use Rattle.std.proofs.lemmas.List.Elements.{All-cons, All-head, All-nil, All-tail}
use Rattle.std.specs.List.{All}
use Rattle.cg_base.specs.declared.fun.Fun.{Fun}
use Rattle.cg_base.specs.Types.{Tau}
use Rattle.cg_core.specs.Terms.{Arg, Note, Tree, term, fun}
use Rattle.cg_kinds.specs.Kinds.{subst}
use Rattle.cg_typing.specs.Functions.{arg_types}
use Rattle.cg_typing.specs.Instances.{Instance, IsIn, mentioned_at, mentioned_in}

module _ (list : List Instance) where
  abbrev All' : List Instance → Type 0
  All' xs = All (IsIn list) xs

  -- of instances that are all in the list, the first ones and the last ones
  all_left : (xs ys : List Instance) → All' (xs ++ ys) → All' xs
  all_left [] ys h = All-nil (IsIn list)
  all_left (x ∷ xs) ys h = All-cons (IsIn list) x xs (All-head (IsIn list) x (xs ++ ys) h) (all_left xs ys (All-tail (IsIn list) x (xs ++ ys) h))

  all_right : (xs ys : List Instance) → All' (xs ++ ys) → All' ys
  all_right [] ys h = h
  all_right (x ∷ xs) ys h = all_right xs ys (All-tail (IsIn list) x (xs ++ ys) h)

  -- what nodes mention, and then others
  mentioned_append : (types : List Tau) (xs ys : List (Tree Note)) → mentioned_in types (xs ++ ys) ≡ mentioned_in types xs ++ mentioned_in types ys
  unfolding mentioned_in
  mentioned_append types [] ys = refl
  mentioned_append types (x ∷ xs) ys =
      ap (λ zs. mentioned_at types x ++ zs) (mentioned_append types xs ys) ∙ sym (append_assoc (mentioned_at types x) (mentioned_in types xs) (mentioned_in types ys))

  -- all that nodes mention, at no type arguments, is in the list
  pub record AreHeard (nodes : List (Tree Note)) : Type 0 where
    pub all : All (IsIn list) (mentioned_in [] nodes)

  -- of nodes and others, those that stand first and those that stand last
  pub heard_left : (xs ys : List (Tree Note)) → AreHeard (xs ++ ys) → AreHeard xs
  heard_left xs ys h = record { all = all_left _ _ (at (All (IsIn list)) (mentioned_append [] xs ys) h.all) }

  pub heard_right : (xs ys : List (Tree Note)) → AreHeard (xs ++ ys) → AreHeard ys
  heard_right xs ys h = record { all = all_right (mentioned_in [] xs) _ (at (All (IsIn list)) (mentioned_append [] xs ys) h.all) }

  -- of a node, what its parts mention
  pub heard_below : (t : Tree Note) (ts : List (Tree Note)) → AreHeard (t ∷ ts) → AreHeard ts
  unfolding mentioned_in
  heard_below t ts h = record { all = all_right (mentioned_at [] t) (mentioned_in [] ts) h.all }

  -- and what it mentions itself
  pub heard_function : (note : Note) (f : Fun) (args : List Arg) (ts : List (Tree Note)) → AreHeard (term note (fun f args) ∷ ts)
      → IsIn list (record { fun = f; types = map (subst []) (arg_types args) })
  unfolding mentioned_in
  heard_function note f args ts h = All-head (IsIn list) _ (mentioned_in [] ts) h.all
