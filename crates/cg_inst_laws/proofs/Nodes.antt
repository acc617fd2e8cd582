-- The nodes of a core: each is derived where the core is, lawful where it is, and mentions only functions that its body mentions.
use Rattle.std.proofs.Common.{◌≡◌, ℕ, Option, List, [], ◌∷◌, ◌++◌, map, refl, sym, ap, ◌∙◌}
use Rattle.std.proofs.lemmas.List.{map-append}
use Rattle.cg_base.specs.declared.kind.Kinds.{Kinds}
use Rattle.cg_base.specs.Types.{Tau}
use Rattle.cg_core.specs.declared.derivation.Mark.{Mark}
use Rattle.cg_core.specs.Derivations.{Derivation, Derivations}
use Rattle.cg_core.specs.Kernels.{Function}
use Rattle.cg_core.specs.Terms.{Note, Tree, term, Shape, var, unit, bool, lit, fun, op, app, lets, let_bang, if_else, con, case_of, esac, struct, member, take_field, put, cast, annot, Trees, none, more, Named, end, field, erased, erased_shape, erased_trees, erased_named}
use Rattle.cg_core_def.specs.Lawful.{AreLawfulFields, AreLawfulTerms, IsLawfulShape, IsLawfulTerm, fields_mentions, shape_mentions, term_mentions, terms_mentions, user_of}
use Rattle.cg_typing.specs.Contexts.{Context}
use Rattle.cg_typing.specs.Instances.{nodes_below, nodes_of, nodes_of_all, nodes_of_fields}
use Rattle.cg_typing.specs.Rules.{Derives, DerivesFields, DerivesShape}
use Rattle.cg_typing.specs.Subst.{subst_core, subst_cores, subst_fields, subst_shape}
use Rattle.cg_inst_laws.proofs.Each.{Each, each_both, each_left, each_right, each_three}

-- ---- derived

-- a node is derived, in some context and direction
pub record IsDerivedNode (functions : List Function) (vars : List Kinds) (t : Tree Note) : Type 0 where
  pub context : Context
  pub tree : Derivation
  pub direction : Option Tau
  pub derives : Derives functions vars context tree direction t

module _ (functions : List Function) (vars : List Kinds) where
  abbrev AreDerived : List (Tree Note) → Type 0
  AreDerived ts = Each (IsDerivedNode functions vars) ts

  both_derived : (xs ys : List (Tree Note)) → AreDerived xs → AreDerived ys → AreDerived (xs ++ ys)
  both_derived xs ys h k = each_both (IsDerivedNode functions vars) xs ys h k

  three_derived : (xs ys zs : List (Tree Note)) → AreDerived xs → AreDerived ys → AreDerived zs → AreDerived (xs ++ ys ++ zs)
  three_derived xs ys zs h k l = each_three (IsDerivedNode functions vars) xs ys zs h k l

  mutual
    -- the nodes of a core that is derived are derived
    pub nodes_derived : (c : Tree Note) (g : Context) (d : Derivation) (direction : Option Tau) → Derives functions vars g d direction c → AreDerived (nodes_of c)
    nodes_derived (term note s) g d direction h = (record { context = g; tree = d; direction = direction; derives = h }, below_derived s g d direction note.ty h)

    below_derived : (s : Shape Note) (g : Context) (d : Derivation) (direction : Option Tau) (t : Tau) → DerivesShape functions vars g d direction t s → AreDerived (nodes_below s)
    below_derived (var i) g d direction t h = tt
    below_derived unit g d direction t h = tt
    below_derived (bool b) g d direction t h = tt
    below_derived (lit v) g d direction t h = tt
    below_derived (fun f args) g d direction t h = tt
    below_derived (op o none) g d direction t h = tt
    below_derived (op o (more x none)) g d direction t h = both_derived (nodes_of x) [] (nodes_derived x _ _ _ h.operand) tt
    below_derived (op o (more l (more r none))) g d direction t h =
        both_derived (nodes_of l) _ (nodes_derived l _ _ _ h.left) (both_derived (nodes_of r) [] (nodes_derived r _ _ _ h.right) tt)
    below_derived (op o (more l (more r (more x ts)))) g d direction t h = absurd h
    below_derived (app f x) g d direction t h = both_derived (nodes_of f) (nodes_of x) (nodes_derived f _ _ _ h.function) (nodes_derived x _ _ _ h.argument)
    below_derived (lets p e k) g d direction t h = both_derived (nodes_of e) (nodes_of k) (nodes_derived e _ _ _ h.value) (nodes_derived k _ _ _ h.body)
    below_derived (let_bang os p e k) g d direction t h = both_derived (nodes_of e) (nodes_of k) (nodes_derived e _ _ _ h.value) (nodes_derived k _ _ _ h.body)
    below_derived (if_else c x y) g d direction t h =
        three_derived (nodes_of c) (nodes_of x) (nodes_of y) (nodes_derived c _ _ _ h.condition) (nodes_derived x _ _ _ h.first) (nodes_derived y _ _ _ h.second)
    below_derived (con n e) g d direction t h = nodes_derived e _ _ _ h.payload
    below_derived (case_of e a p x y) g d direction t h =
        three_derived (nodes_of e) (nodes_of x) (nodes_of y) (nodes_derived e _ _ _ h.subject) (nodes_derived x _ _ _ h.first) (nodes_derived y _ _ _ h.second)
    below_derived (esac a e) g d direction t h = nodes_derived e _ _ _ h.subject
    below_derived (struct fs) g d direction t h = fields_derived fs _ _ _ _ h.fields
    below_derived (member e a) g d direction t h = nodes_derived e _ _ _ h.whole
    below_derived (take_field e a p q k) g d direction t h = both_derived (nodes_of e) (nodes_of k) (nodes_derived e _ _ _ h.whole) (nodes_derived k _ _ _ h.body)
    below_derived (put e a x) g d direction t h = both_derived (nodes_of e) (nodes_of x) (nodes_derived e _ _ _ h.whole) (nodes_derived x _ _ _ h.value)
    below_derived (cast e) g d direction t h = nodes_derived e _ _ _ h.operand
    below_derived (annot e a) g d direction t h = nodes_derived e _ _ _ h.value

    fields_derived : (fs : Named Note) (g : Context) (strings : List (List Mark)) (ds : Derivations) (direction : Option Tau)
        → DerivesFields functions vars g strings ds direction fs → AreDerived (nodes_of_fields fs)
    fields_derived end g strings ds direction h = tt
    fields_derived (field n e end) g strings ds direction h = both_derived (nodes_of e) [] (nodes_derived e _ _ _ h.value) tt
    fields_derived (field n e (field m x fs)) g strings ds direction h =
        both_derived (nodes_of e) _ (nodes_derived e _ _ _ h.value) (fields_derived (field m x fs) _ _ _ _ h.later)

-- ---- lawful

-- a node erases to a lawful term, in a context of some length
pub record IsLawfulNode (arities : List ℕ) (vars : ℕ) (t : Tree Note) : Type 0 where
  pub depth : ℕ
  pub lawful : IsLawfulTerm arities vars depth (erased t)

module _ (arities : List ℕ) (vars : ℕ) where
  abbrev AreLawful : List (Tree Note) → Type 0
  AreLawful ts = Each (IsLawfulNode arities vars) ts

  both_lawful : (xs ys : List (Tree Note)) → AreLawful xs → AreLawful ys → AreLawful (xs ++ ys)
  both_lawful xs ys h k = each_both (IsLawfulNode arities vars) xs ys h k

  three_lawful : (xs ys zs : List (Tree Note)) → AreLawful xs → AreLawful ys → AreLawful zs → AreLawful (xs ++ ys ++ zs)
  three_lawful xs ys zs h k l = each_three (IsLawfulNode arities vars) xs ys zs h k l

  mutual
    unfolding erased

    -- the nodes of a core that erases to a lawful term do so too
    pub nodes_lawful : (c : Tree Note) (depth : ℕ) → IsLawfulTerm arities vars depth (erased c) → AreLawful (nodes_of c)
    nodes_lawful (term note s) depth h = (record { depth = depth; lawful = h }, below_lawful s depth h)

    below_lawful : (s : Shape Note) (depth : ℕ) → IsLawfulShape arities vars depth (erased_shape s) → AreLawful (nodes_below s)
    below_lawful (var i) depth h = tt
    below_lawful unit depth h = tt
    below_lawful (bool b) depth h = tt
    below_lawful (lit v) depth h = tt
    below_lawful (fun f args) depth h = tt
    below_lawful (op o ts) depth h = all_lawful ts depth h.1
    below_lawful (app f x) depth h = both_lawful (nodes_of f) (nodes_of x) (nodes_lawful f _ h.0) (nodes_lawful x _ h.1)
    below_lawful (lets p x y) depth h = both_lawful (nodes_of x) (nodes_of y) (nodes_lawful x _ h.0) (nodes_lawful y _ h.1)
    below_lawful (let_bang os p x y) depth h = both_lawful (nodes_of x) (nodes_of y) (nodes_lawful x _ h.1) (nodes_lawful y _ h.2)
    below_lawful (if_else c x y) depth h = three_lawful (nodes_of c) (nodes_of x) (nodes_of y) (nodes_lawful c _ h.0) (nodes_lawful x _ h.1) (nodes_lawful y _ h.2)
    below_lawful (con n x) depth h = nodes_lawful x _ h
    below_lawful (case_of c a p x y) depth h = three_lawful (nodes_of c) (nodes_of x) (nodes_of y) (nodes_lawful c _ h.0) (nodes_lawful x _ h.1) (nodes_lawful y _ h.2)
    below_lawful (esac a x) depth h = nodes_lawful x _ h
    below_lawful (struct fs) depth h = fields_lawful fs depth h.2
    below_lawful (member x a) depth h = nodes_lawful x _ h
    below_lawful (take_field x a p q y) depth h = both_lawful (nodes_of x) (nodes_of y) (nodes_lawful x _ h.0) (nodes_lawful y _ h.1)
    below_lawful (put x a y) depth h = both_lawful (nodes_of x) (nodes_of y) (nodes_lawful x _ h.0) (nodes_lawful y _ h.1)
    below_lawful (cast x) depth h = nodes_lawful x _ h
    below_lawful (annot x a) depth h = nodes_lawful x _ h.0

    all_lawful : (ts : Trees Note) (depth : ℕ) → AreLawfulTerms arities vars depth (erased_trees ts) → AreLawful (nodes_of_all ts)
    all_lawful none depth h = tt
    all_lawful (more t ts) depth h = both_lawful (nodes_of t) (nodes_of_all ts) (nodes_lawful t _ h.0) (all_lawful ts depth h.1)

    fields_lawful : (fs : Named Note) (depth : ℕ) → AreLawfulFields arities vars depth (erased_named fs) → AreLawful (nodes_of_fields fs)
    fields_lawful end depth h = tt
    fields_lawful (field n t fs) depth h = both_lawful (nodes_of t) (nodes_of_fields fs) (nodes_lawful t _ h.0) (fields_lawful fs depth h.1)

-- ---- the program's functions

-- those that a node mentions itself
abbrev pub users_at : Tree Note → List ℕ
users_at (term note (fun f args)) = user_of f
users_at _ = []

-- what holds of each function that a body mentions holds of each that a node of its core mentions
module _ (P : ℕ → Type 0) where
  abbrev AreUsers : List (Tree Note) → Type 0
  AreUsers ts = Each (λ t. Each P (users_at t)) ts

  both_users : (xs ys : List (Tree Note)) → AreUsers xs → AreUsers ys → AreUsers (xs ++ ys)
  both_users xs ys h k = each_both (λ t. Each P (users_at t)) xs ys h k

  three_users : (xs ys zs : List (Tree Note)) → AreUsers xs → AreUsers ys → AreUsers zs → AreUsers (xs ++ ys ++ zs)
  three_users xs ys zs h k l = each_three (λ t. Each P (users_at t)) xs ys zs h k l

  mutual
    unfolding erased

    pub nodes_users : (c : Tree Note) → Each P (term_mentions (erased c)) → AreUsers (nodes_of c)
    nodes_users (term note s) m = shape_users note s m

    shape_users : (note : Note) (s : Shape Note) → Each P (shape_mentions (erased_shape s)) → AreUsers (term note s ∷ nodes_below s)
    shape_users note (var i) m = (tt, tt)
    shape_users note unit m = (tt, tt)
    shape_users note (bool b) m = (tt, tt)
    shape_users note (lit v) m = (tt, tt)
    shape_users note (fun f args) m = (m, tt)
    shape_users note (op o ts) m = (tt, all_users ts m)
    shape_users note (app x y) m =
        (tt, both_users (nodes_of x) (nodes_of y) (nodes_users x (each_left P (term_mentions (erased x)) _ m)) (nodes_users y (each_right P (term_mentions (erased x)) _ m)))
    shape_users note (lets p x y) m =
        (tt, both_users (nodes_of x) (nodes_of y) (nodes_users x (each_left P (term_mentions (erased x)) _ m)) (nodes_users y (each_right P (term_mentions (erased x)) _ m)))
    shape_users note (let_bang os p x y) m =
        (tt, both_users (nodes_of x) (nodes_of y) (nodes_users x (each_left P (term_mentions (erased x)) _ m)) (nodes_users y (each_right P (term_mentions (erased x)) _ m)))
    shape_users note (if_else c x y) m =
        let two = term_mentions (erased c) ++ term_mentions (erased x) in let n = each_left P two _ m in (
          tt,
          three_users (nodes_of c) (nodes_of x) (nodes_of y) (nodes_users c (each_left P (term_mentions (erased c)) _ n))
              (nodes_users x (each_right P (term_mentions (erased c)) _ n)) (nodes_users y (each_right P two _ m)),
        )
    shape_users note (con n x) m = (tt, nodes_users x m)
    shape_users note (case_of c a p x y) m =
        let two = term_mentions (erased c) ++ term_mentions (erased x) in let n = each_left P two _ m in (
          tt,
          three_users (nodes_of c) (nodes_of x) (nodes_of y) (nodes_users c (each_left P (term_mentions (erased c)) _ n))
              (nodes_users x (each_right P (term_mentions (erased c)) _ n)) (nodes_users y (each_right P two _ m)),
        )
    shape_users note (esac a x) m = (tt, nodes_users x m)
    shape_users note (struct fs) m = (tt, fields_users fs m)
    shape_users note (member x a) m = (tt, nodes_users x m)
    shape_users note (take_field x a p q y) m =
        (tt, both_users (nodes_of x) (nodes_of y) (nodes_users x (each_left P (term_mentions (erased x)) _ m)) (nodes_users y (each_right P (term_mentions (erased x)) _ m)))
    shape_users note (put x a y) m =
        (tt, both_users (nodes_of x) (nodes_of y) (nodes_users x (each_left P (term_mentions (erased x)) _ m)) (nodes_users y (each_right P (term_mentions (erased x)) _ m)))
    shape_users note (cast x) m = (tt, nodes_users x m)
    shape_users note (annot x a) m = (tt, nodes_users x m)

    all_users : (ts : Trees Note) → Each P (terms_mentions (erased_trees ts)) → AreUsers (nodes_of_all ts)
    all_users none m = tt
    all_users (more t ts) m =
        both_users (nodes_of t) (nodes_of_all ts) (nodes_users t (each_left P (term_mentions (erased t)) _ m)) (all_users ts (each_right P (term_mentions (erased t)) _ m))

    fields_users : (fs : Named Note) → Each P (fields_mentions (erased_named fs)) → AreUsers (nodes_of_fields fs)
    fields_users end m = tt
    fields_users (field n t fs) m =
        both_users (nodes_of t) (nodes_of_fields fs) (nodes_users t (each_left P (term_mentions (erased t)) _ m)) (fields_users fs (each_right P (term_mentions (erased t)) _ m))

-- ---- with types for the type variables

module _ (given : List Tau) where
  abbrev with_given : List (Tree Note) → List (Tree Note)
  with_given ts = map (subst_core given) ts

  joined : (xs' ys' xs ys : List (Tree Note)) → xs' ≡ with_given xs → ys' ≡ with_given ys → xs' ++ ys' ≡ with_given (xs ++ ys)
  joined xs' ys' xs ys p q = ap (λ xs. xs ++ ys') p ∙ ap (λ ys. with_given xs ++ ys) q ∙ sym (map-append (subst_core given) xs ys)

  joined_three : (xs' ys' zs' xs ys zs : List (Tree Note)) → xs' ≡ with_given xs → ys' ≡ with_given ys → zs' ≡ with_given zs → xs' ++ ys' ++ zs' ≡ with_given (xs ++ ys ++ zs)
  joined_three xs' ys' zs' xs ys zs p q r = joined (xs' ++ ys') zs' (xs ++ ys) zs (joined xs' ys' xs ys p q) r

  mutual
    -- the nodes of the core are the core's nodes with them
    pub nodes_given : (c : Tree Note) → nodes_of (subst_core given c) ≡ with_given (nodes_of c)
    nodes_given (term note s) = ap (λ ts. subst_core given (term note s) ∷ ts) (below_given s)

    below_given : (s : Shape Note) → nodes_below (subst_shape given s) ≡ with_given (nodes_below s)
    below_given (var i) = refl
    below_given unit = refl
    below_given (bool b) = refl
    below_given (lit v) = refl
    below_given (fun f args) = refl
    below_given (op o ts) = all_given ts
    below_given (app x y) = joined _ _ (nodes_of x) (nodes_of y) (nodes_given x) (nodes_given y)
    below_given (lets p x y) = joined _ _ (nodes_of x) (nodes_of y) (nodes_given x) (nodes_given y)
    below_given (let_bang os p x y) = joined _ _ (nodes_of x) (nodes_of y) (nodes_given x) (nodes_given y)
    below_given (if_else c x y) = joined_three _ _ _ (nodes_of c) (nodes_of x) (nodes_of y) (nodes_given c) (nodes_given x) (nodes_given y)
    below_given (con n x) = nodes_given x
    below_given (case_of c a p x y) = joined_three _ _ _ (nodes_of c) (nodes_of x) (nodes_of y) (nodes_given c) (nodes_given x) (nodes_given y)
    below_given (esac a x) = nodes_given x
    below_given (struct fs) = fields_given fs
    below_given (member x a) = nodes_given x
    below_given (take_field x a p q y) = joined _ _ (nodes_of x) (nodes_of y) (nodes_given x) (nodes_given y)
    below_given (put x a y) = joined _ _ (nodes_of x) (nodes_of y) (nodes_given x) (nodes_given y)
    below_given (cast x) = nodes_given x
    below_given (annot x a) = nodes_given x

    all_given : (ts : Trees Note) → nodes_of_all (subst_cores given ts) ≡ with_given (nodes_of_all ts)
    all_given none = refl
    all_given (more t ts) = joined _ _ (nodes_of t) (nodes_of_all ts) (nodes_given t) (all_given ts)

    fields_given : (fs : Named Note) → nodes_of_fields (subst_fields given fs) ≡ with_given (nodes_of_fields fs)
    fields_given end = refl
    fields_given (field n t fs) = joined _ _ (nodes_of t) (nodes_of_fields fs) (nodes_given t) (fields_given fs)
