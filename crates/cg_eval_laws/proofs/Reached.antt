-- What a core mentions: each function is among some, and has as many type arguments as it takes.
use Rattle.std.proofs.Common.{ℕ, suc, Bool, IsTrue, List, ◌++◌, length, map, refl, sym, ◌∙◌}
use Rattle.std.proofs.lemmas.Bool.{and_parts}
use Rattle.std.proofs.lemmas.List.Folds.{list_all-append}
use Rattle.std.specs.List.{list_all}
use Rattle.cg_base.specs.declared.fun.Fun.{Fun}
use Rattle.cg_base.specs.declared.fun.Fun.TheVariants.{User, Lib as OfLib}
use Rattle.cg_core.specs.Kernels.{Function}
use Rattle.cg_core.specs.Terms.{Note, Tree, term, Shape, var, unit, bool, lit, fun, op, app, lets, let_bang, if_else, con, case_of, esac, struct, member, take_field, put, cast, annot, Trees, none, more, Named, end, field, erased, erased_shape, erased_trees, erased_named}
use Rattle.cg_eval_def.specs.Foreigns.{is_among}
use Rattle.cg_typing.specs.Functions.{takes_as_many}
use Rattle.cg_typing.proofs.Lists.{taken_as_many}
use Rattle.cg_core_def.specs.Lawful.{IsLawfulTerm, IsLawfulShape, AreLawfulTerms, AreLawfulFields, term_mentions, shape_mentions, terms_mentions, fields_mentions, user_of}

-- how many type arguments each function takes
abbrev pub arities : List Function → List ℕ
arities functions = map (λ f. length f.vars) functions

module _ (functions : List Function) (among : ℕ → Bool) where
  abbrev mutual
    pub Reaches : Tree Note → Type 0
    Reaches (term note shape) = ReachesIn shape

    pub ReachesIn : Shape Note → Type 0
    ReachesIn (var i) = Unit {0}
    ReachesIn unit = Unit {0}
    ReachesIn (bool b) = Unit {0}
    ReachesIn (lit v) = Unit {0}
    ReachesIn (fun f args) = IsTrue (takes_as_many functions f (length args)) × IsTrue (is_among among f)
    ReachesIn (op o ts) = ReachesAll ts
    ReachesIn (app f x) = Reaches f × Reaches x
    ReachesIn (lets p x y) = Reaches x × Reaches y
    ReachesIn (let_bang os p x y) = Reaches x × Reaches y
    ReachesIn (if_else c x y) = Reaches c × Reaches x × Reaches y
    ReachesIn (con n x) = Reaches x
    ReachesIn (case_of c a p x y) = Reaches c × Reaches x × Reaches y
    ReachesIn (esac a x) = Reaches x
    ReachesIn (struct fs) = ReachesFields fs
    ReachesIn (member x a) = Reaches x
    ReachesIn (take_field x a p q y) = Reaches x × Reaches y
    ReachesIn (put x a y) = Reaches x × Reaches y
    ReachesIn (cast x) = Reaches x
    ReachesIn (annot x a) = Reaches x

    pub ReachesAll : Trees Note → Type 0
    ReachesAll none = Unit {0}
    ReachesAll (more t ts) = Reaches t × ReachesAll ts

    pub ReachesFields : Named Note → Type 0
    ReachesFields end = Unit {0}
    ReachesFields (field n t fs) = Reaches t × ReachesFields fs

  -- ---- a lawful term reaches what it mentions

  abbrev Among : List ℕ → Type 0
  Among is = IsTrue (list_all among is)

  all_left : (xs ys : List ℕ) → Among (xs ++ ys) → Among xs
  all_left xs ys h = (and_parts (list_all among xs) _ (sym (list_all-append among xs ys) ∙ h)).0

  all_right : (xs ys : List ℕ) → Among (xs ++ ys) → Among ys
  all_right xs ys h = (and_parts (list_all among xs) _ (sym (list_all-append among xs ys) ∙ h)).1

  one_among : (f : Fun) → Among (user_of f) → IsTrue (is_among among f)
  one_among (User i) h = (and_parts (among i) _ h).0
  one_among (OfLib l) h = refl

  module _ (vars : ℕ) where
    mutual
      unfolding erased

      pub reached : (depth : ℕ) (t : Tree Note) → IsLawfulTerm (arities functions) vars depth (erased t) → Among (term_mentions (erased t)) → Reaches t
      reached depth (term note shape) h m = reached_in depth shape h m

      reached_in : (depth : ℕ) (s : Shape Note) → IsLawfulShape (arities functions) vars depth (erased_shape s) → Among (shape_mentions (erased_shape s)) → ReachesIn s
      reached_in depth (var i) h m = tt
      reached_in depth unit h m = tt
      reached_in depth (bool b) h m = tt
      reached_in depth (lit v) h m = tt
      reached_in depth (fun f args) h m = (taken_as_many functions f (length args) h.0, one_among f m)
      reached_in depth (op o ts) h m = reached_all depth ts h.1 m
      reached_in depth (app f x) h m = (reached depth f h.0 (all_left _ _ m), reached depth x h.1 (all_right (term_mentions (erased f)) _ m))
      reached_in depth (lets p x y) h m = (reached depth x h.0 (all_left _ _ m), reached (suc depth) y h.1 (all_right (term_mentions (erased x)) _ m))
      reached_in depth (let_bang os p x y) h m = (reached depth x h.1 (all_left _ _ m), reached (suc depth) y h.2 (all_right (term_mentions (erased x)) _ m))
      reached_in depth (if_else c x y) h m =
          let two = term_mentions (erased c) ++ term_mentions (erased x) in let n = all_left two _ m in
          (reached depth c h.0 (all_left _ _ n), reached depth x h.1 (all_right (term_mentions (erased c)) _ n), reached depth y h.2 (all_right two _ m))
      reached_in depth (con n x) h m = reached depth x h m
      reached_in depth (case_of c a p x y) h m =
          let two = term_mentions (erased c) ++ term_mentions (erased x) in let n = all_left two _ m in
          (reached depth c h.0 (all_left _ _ n), reached (suc depth) x h.1 (all_right (term_mentions (erased c)) _ n), reached (suc depth) y h.2 (all_right two _ m))
      reached_in depth (esac a x) h m = reached depth x h m
      reached_in depth (struct fs) h m = reached_fields depth fs h.2 m
      reached_in depth (member x a) h m = reached depth x h m
      reached_in depth (take_field x a p q y) h m = (reached depth x h.0 (all_left _ _ m), reached (suc (suc depth)) y h.1 (all_right (term_mentions (erased x)) _ m))
      reached_in depth (put x a y) h m = (reached depth x h.0 (all_left _ _ m), reached depth y h.1 (all_right (term_mentions (erased x)) _ m))
      reached_in depth (cast x) h m = reached depth x h m
      reached_in depth (annot x a) h m = reached depth x h.0 m

      reached_all : (depth : ℕ) (ts : Trees Note) → AreLawfulTerms (arities functions) vars depth (erased_trees ts) → Among (terms_mentions (erased_trees ts)) → ReachesAll ts
      reached_all depth none h m = tt
      reached_all depth (more t ts) h m = (reached depth t h.0 (all_left _ _ m), reached_all depth ts h.1 (all_right (term_mentions (erased t)) _ m))

      reached_fields : (depth : ℕ) (fs : Named Note) → AreLawfulFields (arities functions) vars depth (erased_named fs) → Among (fields_mentions (erased_named fs)) → ReachesFields fs
      reached_fields depth end h m = tt
      reached_fields depth (field n t fs) h m = (reached depth t h.0 (all_left _ _ m), reached_fields depth fs h.1 (all_right (term_mentions (erased t)) _ m))
