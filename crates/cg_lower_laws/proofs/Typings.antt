-- A core that is derived has types that C can have: what C asks of a core follows from its derivation.
use Rattle.std.proofs.Common.{◌≡◌, ◌⊎◌, inl, inr, ℕ, zero, suc, true, Option, Some, None, List, [], ◌∷◌, ◌++◌, length, slice_get, refl, sym, ap, ◌∙◌, subst, append_assoc, length-append, arith}
use Rattle.std.specs.List.{AllByRecursion}
use Rattle.cg_base.specs.declared.kind.Kinds.{Kinds}
use Rattle.cg_base.specs.declared.kind.Sigil.TheVariants.{R, W, U}
use Rattle.cg_base.specs.Types as types
use Rattle.cg_base.specs.Types.{Tau, Taus, Parts, part}
use Rattle.cg_core.specs.declared.derivation.Mark.{Mark}
use Rattle.cg_core.specs.declared.derivation.Mark.TheVariants.{Gone, Left, Right, Both, Seen}
use Rattle.cg_core.specs.Derivations.{Derivation, Derivations}
use Rattle.cg_core.specs.Kernels.{Function}
use Rattle.cg_core.specs.Terms.{Note, Tree, term, Shape, var, unit, bool, lit, fun, op, app, lets, let_bang, if_else, con, case_of, esac, struct, member, take_field, put, cast, annot, none, more, Named, end, field}
use Rattle.cg_ctree.specs.declared.tree.CStruct.{CStruct}
use Rattle.cg_ctree.specs.declared.tree.CTy.{CTy}
use Rattle.cg_ctree.specs.declared.tree.CTy.TheVariants as ty
use Rattle.cg_kinds.specs.Kinds.{bang, bang_all, bang_parts}
use Rattle.cg_typing.specs.Contexts.{Context, look, push, first_side, first, second_side, second}
use Rattle.cg_typing.specs.Instances.{nodes_of, nodes_below, nodes_of_fields}
use Rattle.cg_typing.specs.Parts.{field_in, alternative_in, held, with_part}
use Rattle.cg_typing.specs.Rules.{Derives, DerivesShape, DerivesFields, type_at}
use Rattle.cg_typing.specs.Trees.{strings_of, the_parts}
use Rattle.cg_cgen_def.specs.Names.{struct_name}
use Rattle.cg_lower_def.specs.CTypes.{abstract_struct, c_type, element, form, form_parts, IsDeclared}
use Rattle.cg_lower_def.specs.Typed.{IsTyped, IsTypedShape, AreTyped}
use Rattle.cg_typing.proofs.Lists.{first_as_many, second_as_many}
use Rattle.cg_base.proofs.Sequences.{get_front, get_last}

-- C has a variable for each entry of a context, of its type where it is present
pub record Agrees (numbered : Tau → ℕ) (g : Context) (ts : List CTy) : Type 0 where
  pub as_many : length ts ≡ length g
  pub each : (i : ℕ) (t : Tau) → look g i ≡ Some t → slice_get ts i ≡ Some (c_type numbered t)

-- ---- what is checked

module _ (functions : List Function) (vars : List Kinds) where
  -- a core, and a shape of this type, that is checked against a type is of it
  mutual
    core_is : (g : Context) (d : Derivation) (wanted : Tau) (core : Tree Note) → Derives functions vars g d (Some wanted) core → type_at core ≡ wanted
    core_is g d wanted (term note shape) h = shape_is g d wanted note.ty shape h

    shape_is : (g : Context) (d : Derivation) (wanted t : Tau) (shape : Shape Note) → DerivesShape functions vars g d (Some wanted) t shape → t ≡ wanted
    shape_is g d wanted t (var i) h = sym h.meets
    shape_is g d wanted t unit h = sym h.meets
    shape_is g d wanted t (bool b) h = sym h.meets
    shape_is g d wanted t (lit value) h = let e = h.checked in cc
    shape_is g d wanted t (fun f args) h = sym h.meets
    shape_is g d wanted t (op o none) h = absurd h
    shape_is g d wanted t (op o (more x none)) h = sym h.meets
    shape_is g d wanted t (op o (more l (more r none))) h = sym h.meets
    shape_is g d wanted t (op o (more l (more r (more x xs)))) h = absurd h
    shape_is g d wanted t (app f x) h = sym h.meets
    shape_is g d wanted t (lets binder e k) h = h.is ∙ core_is _ _ wanted k h.body
    shape_is g d wanted t (let_bang observers binder e k) h = h.is ∙ core_is _ _ wanted k h.body
    shape_is g d wanted t (if_else c x y) h = h.is ∙ core_is _ _ wanted x h.first
    shape_is g d wanted t (con name e) h = let e = h.checked in cc
    shape_is g d wanted t (case_of e at binder x y) h = h.is ∙ core_is _ _ wanted x h.first
    shape_is g d wanted t (esac at e) h = sym h.meets
    shape_is g d wanted t (struct fs) h = sym h.meets
    shape_is g d wanted t (member e at) h = sym h.meets
    shape_is g d wanted t (take_field e at rest binder k) h = h.is ∙ core_is _ _ wanted k h.body
    shape_is g d wanted t (put e at x) h = sym h.meets
    shape_is g d wanted t (cast e) h = let e = h.checked in cc
    shape_is g d wanted t (annot e a) h = sym h.meets

-- a core that is checked against a type is of it
pub checked_is : (functions : List Function) (vars : List Kinds) (g : Context) (d : Derivation) (wanted : Tau) (core : Tree Note)
    → Derives functions vars g d (Some wanted) core → type_at core ≡ wanted
checked_is functions vars g d wanted core h = core_is functions vars g d wanted core h

-- ---- lists

-- what holds of all elements of two lists holds of those of each
pub all_front : {A : Type 0} (P : A → Type 0) (xs ys : List A) → AllByRecursion P (xs ++ ys) → AllByRecursion P xs
all_front P [] ys h = tt {0}
all_front P (x ∷ xs) ys h = (h.0, all_front P xs ys h.1)

pub all_back : {A : Type 0} (P : A → Type 0) (xs ys : List A) → AllByRecursion P (xs ++ ys) → AllByRecursion P ys
all_back P [] ys h = h
all_back P (x ∷ xs) ys h = all_back P xs ys h.1

-- ---- contexts

-- one entry more
push_as_many : (g : Context) (x : Option Tau) → length (push g x) ≡ suc (length g)
push_as_many [] x = refl
push_as_many (y ∷ g) x = ap suc (push_as_many g x)

-- what is present on the second side is what it was
second_side_was : (m : Mark) (entry : Option Tau) (t : Tau) → second_side m entry ≡ Some t → entry ≡ Some t
second_side_was Gone entry t h = absurd (cc)
second_side_was Left entry t h = absurd (cc)
second_side_was Right entry t h = h
second_side_was Both entry t h = h
second_side_was Seen entry t h = h

second_was : (m : List Mark) (g : Context) (i : ℕ) (t : Tau) → look (second m g) i ≡ Some t → look g i ≡ Some t
second_was m [] i t h = absurd (cc)
second_was [] (x ∷ g) i t h = absurd (cc)
second_was (x ∷ m) (y ∷ g) zero t h = second_side_was x y t h
second_was (x ∷ m) (y ∷ g) (suc i) t h = second_was m g i t h

-- what is present on the first side is what it was, or that observed
record IsOrSeen (entry : Option Tau) (t : Tau) : Type 0 where
  was : Tau
  there : entry ≡ Some was
  now : (t ≡ was) ⊎ (t ≡ bang was)

first_side_was : (m : Mark) (entry : Option Tau) (t : Tau) → first_side m entry ≡ Some t → IsOrSeen entry t
first_side_was Gone entry t h = absurd (cc)
first_side_was Left entry t h = record { was = t; there = h; now = inl refl }
first_side_was Right entry t h = absurd (cc)
first_side_was Both entry t h = record { was = t; there = h; now = inl refl }
first_side_was Seen None t h = absurd (cc)
first_side_was Seen (Some u) t h = record { was = u; there = refl; now = inr (cc) }

first_was : (m : List Mark) (g : Context) (i : ℕ) (t : Tau) → look (first m g) i ≡ Some t → IsOrSeen (look g i) t
first_was m [] i t h = absurd (cc)
first_was [] (x ∷ g) i t h = absurd (cc)
first_was (x ∷ m) (y ∷ g) zero t h = first_side_was x y t h
first_was (x ∷ m) (y ∷ g) (suc i) t h = first_was m g i t h

-- what is present in a context with one entry more
push_was : (g : Context) (x t : Tau) (i : ℕ) → look (push g (Some x)) i ≡ Some t → (look g i ≡ Some t) ⊎ ((i ≡ length g) × (t ≡ x))
push_was [] x t zero h = inr (refl, cc)
push_was [] x t (suc i) h = absurd (cc)
push_was (y ∷ g) x t zero h = inl h
push_was (y ∷ g) x t (suc i) h = later (push_was g x t i h)
  where
    later : (look g i ≡ Some t) ⊎ ((i ≡ length g) × (t ≡ x)) → (look g i ≡ Some t) ⊎ ((suc i ≡ suc (length g)) × (t ≡ x))
    later (inl e) = inl e
    later (inr e) = inr (ap suc e.0, e.1)

-- ---- types in contexts

-- an array that is observed has elements of the same word
element_of_bang : (ts : Taus) → element (bang_all ts) ≡ element ts
unfolding bang
element_of_bang types.none = refl
element_of_bang (types.more (types.word w) types.none) = refl
element_of_bang (types.more (types.word w) (types.more t ts)) = refl
element_of_bang (types.more t ts) = refl

struct_of_bang : (x : List ℕ) (ts : Taus) → abstract_struct x (bang_all ts) ≡ abstract_struct x ts
struct_of_bang x ts = rw (element_of_bang ts) refl

-- what is observed has the form that it had
mutual
  unfolding bang form

  form_of_bang : (t : Tau) → form (bang t) ≡ form t
  form_of_bang (types.var n) = refl
  form_of_bang (types.seen n) = refl
  form_of_bang types.unit = refl
  form_of_bang (types.word w) = refl
  form_of_bang types.bool = refl
  form_of_bang (types.arrow a b) = refl
  form_of_bang (types.abs x ts sigil) = ap (λ y. types.abs y types.none W) (struct_of_bang x ts)
  form_of_bang (types.variant ps) = ap types.variant (form_of_bang_parts ps)
  form_of_bang (types.fields ps R) = ap (λ qs. types.fields qs W) (form_of_bang_parts ps)
  form_of_bang (types.fields ps W) = ap (λ qs. types.fields qs W) (form_of_bang_parts ps)
  form_of_bang (types.fields ps U) = ap (λ qs. types.fields qs U) (form_of_bang_parts ps)

  form_of_bang_parts : (ps : Parts) → form_parts (bang_parts ps) ≡ form_parts ps
  form_of_bang_parts types.end = refl
  form_of_bang_parts (part x t taken ps) = cc (form_of_bang t, form_of_bang_parts ps)

-- so it is to C what it was
seen_is_same : (numbered : Tau → ℕ) (t : Tau) → c_type numbered (bang t) ≡ c_type numbered t
unfolding bang
seen_is_same numbered (types.var n) = refl
seen_is_same numbered (types.seen n) = refl
seen_is_same numbered types.unit = refl
seen_is_same numbered (types.word w) = refl
seen_is_same numbered types.bool = refl
seen_is_same numbered (types.arrow a b) = refl
seen_is_same numbered (types.abs x ts sigil) = ap ty.Pointer (struct_of_bang x ts)
seen_is_same numbered (types.variant ps) = ap (λ qs. ty.Struct (struct_name (numbered (types.variant qs)))) (form_of_bang_parts ps)
seen_is_same numbered (types.fields ps R) = ap (λ qs. ty.Pointer (struct_name (numbered (types.fields qs U)))) (form_of_bang_parts ps)
seen_is_same numbered (types.fields ps W) = ap (λ qs. ty.Pointer (struct_name (numbered (types.fields qs U)))) (form_of_bang_parts ps)
seen_is_same numbered (types.fields ps U) = ap (λ qs. ty.Struct (struct_name (numbered (types.fields qs U)))) (form_of_bang_parts ps)

module _ (numbered : Tau → ℕ) where
  -- so it stays on each side of a split, and with one entry more or two
  stands_first : (m : List Mark) (g : Context) (ts : List CTy) → length m ≡ length g → Agrees numbered g ts → Agrees numbered (first m g) ts
  stands_first m g ts e s = record { as_many = s.as_many ∙ sym (first_as_many m g e); each = λ i t h. entry i t (first_was m g i t h) }
    where
      now : (i : ℕ) (t u : Tau) → slice_get ts i ≡ Some (c_type numbered u) → (t ≡ u) ⊎ (t ≡ bang u) → slice_get ts i ≡ Some (c_type numbered t)
      now i t u k (inl q) = k ∙ ap (λ z. Some (c_type numbered z)) (sym q)
      now i t u k (inr q) = k ∙ ap Some (sym (seen_is_same numbered u)) ∙ ap (λ z. Some (c_type numbered z)) (sym q)

      entry : (i : ℕ) (t : Tau) → IsOrSeen (look g i) t → slice_get ts i ≡ Some (c_type numbered t)
      entry i t w = now i t w.was (s.each i w.was w.there) w.now

  stands_second : (m : List Mark) (g : Context) (ts : List CTy) → length m ≡ length g → Agrees numbered g ts → Agrees numbered (second m g) ts
  stands_second m g ts e s = record { as_many = s.as_many ∙ sym (second_as_many m g e); each = λ i t h. s.each i t (second_was m g i t h) }

  stands_push : (g : Context) (x : Tau) (ts : List CTy) → Agrees numbered g ts → Agrees numbered (push g (Some x)) (ts ++ c_type numbered x ∷ [])
  stands_push g x ts s = record { as_many = omega (arith, length-append ts (c_type numbered x ∷ []), push_as_many g (Some x), s.as_many); each = λ i t h. entry i t (push_was g x t i h) }
    where
      last : (i : ℕ) → i ≡ length ts → slice_get (ts ++ c_type numbered x ∷ []) i ≡ Some (c_type numbered x)
      last i q = subst (λ z. slice_get (ts ++ c_type numbered x ∷ []) z ≡ Some (c_type numbered x)) (sym q) (get_last ts (c_type numbered x))

      entry : (i : ℕ) (t : Tau) → (look g i ≡ Some t) ⊎ ((i ≡ length g) × (t ≡ x)) → slice_get (ts ++ c_type numbered x ∷ []) i ≡ Some (c_type numbered t)
      entry i t (inl q) = get_front ts (c_type numbered x ∷ []) i (c_type numbered t) (s.each i t q)
      entry i t (inr q) = last i (q.0 ∙ sym s.as_many) ∙ ap (λ z. Some (c_type numbered z)) (sym q.1)

  stands_push_two : (g : Context) (x y : Tau) (ts : List CTy) → Agrees numbered g ts
      → Agrees numbered (push (push g (Some x)) (Some y)) (ts ++ c_type numbered x ∷ c_type numbered y ∷ [])
  stands_push_two g x y ts s =
      subst (Agrees numbered (push (push g (Some x)) (Some y))) (append_assoc ts (c_type numbered x ∷ []) (c_type numbered y ∷ []))
      (stands_push (push g (Some x)) y (ts ++ c_type numbered x ∷ []) (stands_push g x ts s))

-- ---- terms

module _ (numbered : Tau → ℕ) (ss : List CStruct) (functions : List Function) (vars : List Kinds) where
  -- the structs of a node's type are declared
  abbrev IsNode : Tree Note → Type 0
  IsNode t = IsDeclared numbered ss (type_at t)

  mutual
    typed : (g : Context) (d : Derivation) (direction : Option Tau) (ts : List CTy) (core : Tree Note)
        → Agrees numbered g ts → Derives functions vars g d direction core → AllByRecursion IsNode (nodes_of core) → IsTyped functions numbered ss ts core
    typed g d direction ts (term note shape) s h n = (n.0, typed_shape g d direction note.ty ts shape s h n.1)

    typed_shape : (g : Context) (d : Derivation) (direction : Option Tau) (t : Tau) (ts : List CTy) (shape : Shape Note)
        → Agrees numbered g ts → DerivesShape functions vars g d direction t shape → AllByRecursion IsNode (nodes_below shape) → IsTypedShape functions numbered ss ts t shape
    typed_shape g d direction t ts (var i) s h n = s.each i t h.present
    typed_shape g d direction t ts unit s h n = h.is
    typed_shape g d direction t ts (bool b) s h n = h.is
    typed_shape g d direction t ts (lit value) s h n = h.is_a_word
    typed_shape g d direction t ts (fun f args) s h n = h.is
    typed_shape g d direction t ts (op o none) s h n = absurd h
    typed_shape g d direction t ts (op o (more x none)) s h n =
        (typed _ _ _ ts x s h.operand (all_front IsNode (nodes_of x) [] n), h.takes, h.is)
    typed_shape g d direction t ts (op o (more l (more r none))) s h n =
        let m = all_back IsNode (nodes_of l) (nodes_of r ++ []) n in (
          typed _ _ _ ts l (stands_first numbered _ g ts h.splits.long s) h.left (all_front IsNode (nodes_of l) (nodes_of r ++ []) n),
          typed _ _ _ ts r (stands_second numbered _ g ts h.splits.long s) h.right (all_front IsNode (nodes_of r) [] m),
          h.alike,
          h.takes,
          h.is,
        )
    typed_shape g d direction t ts (op o (more l (more r (more x xs)))) s h n = absurd h
    typed_shape g d direction t ts (app f x) s h n = (
      typed _ _ _ ts f (stands_first numbered _ g ts h.splits.long s) h.function (all_front IsNode (nodes_of f) (nodes_of x) n),
      typed _ _ _ ts x (stands_second numbered _ g ts h.splits.long s) h.argument (all_back IsNode (nodes_of f) (nodes_of x) n),
      h.is_arrow,
    )
    typed_shape g d direction t ts (lets binder e k) s h n =
        let m = all_front IsNode (nodes_of e) (nodes_of k) n in (
          typed _ _ _ ts e (stands_first numbered _ g ts h.splits.long s) h.value m,
          typed _ _ _ (ts ++ c_type numbered (type_at e) ∷ []) k
              (stands_push numbered _ (type_at e) ts (stands_second numbered _ g ts h.splits.long s)) h.body
              (all_back IsNode (nodes_of e) (nodes_of k) n),
          h.is,
        )
    typed_shape g d direction t ts (let_bang observers binder e k) s h n =
        let m = all_front IsNode (nodes_of e) (nodes_of k) n in (
          typed _ _ _ ts e (stands_first numbered _ g ts h.splits.long s) h.value m,
          typed _ _ _ (ts ++ c_type numbered (type_at e) ∷ []) k
              (stands_push numbered _ (type_at e) ts (stands_second numbered _ g ts h.splits.long s)) h.body
              (all_back IsNode (nodes_of e) (nodes_of k) n),
          h.is,
        )
    typed_shape g d direction t ts (if_else c x y) s h n =
        let m = all_front IsNode (nodes_of c ++ nodes_of x) (nodes_of y) n in
        let later = stands_second numbered _ g ts h.splits.long s in (
          typed _ _ _ ts c (stands_first numbered _ g ts h.splits.long s) h.condition (all_front IsNode (nodes_of c) (nodes_of x) m),
          typed _ _ _ ts x later h.first (all_back IsNode (nodes_of c) (nodes_of x) m),
          typed _ _ _ ts y later h.second (all_back IsNode (nodes_of c ++ nodes_of x) (nodes_of y) n),
          core_is functions vars _ _ types.bool c h.condition,
          h.is,
          h.alike,
        )
    typed_shape g d direction t ts (con name e) s h n =
        (typed _ _ _ ts e s h.payload n, h.left, core_is functions vars _ _ (held (alternative_in name t)) e h.payload)
    typed_shape g d direction t ts (case_of e at binder x y) s h n =
        let m = all_front IsNode (nodes_of e ++ nodes_of x) (nodes_of y) n in
        let p = all_front IsNode (nodes_of e) (nodes_of x) m in
        let later = stands_second numbered _ g ts h.splits.long s in (
          typed _ _ _ ts e (stands_first numbered _ g ts h.splits.long s) h.subject p,
          typed _ _ _ (ts ++ c_type numbered (held (alternative_in at.name (type_at e))) ∷ []) x
              (stands_push numbered _ (held (alternative_in at.name (type_at e))) ts later) h.first
              (all_back IsNode (nodes_of e) (nodes_of x) m),
          typed _ _ _ (ts ++ c_type numbered (with_part at.name true (type_at e)) ∷ []) y
              (stands_push numbered _ (with_part at.name true (type_at e)) ts later) h.second
              (all_back IsNode (nodes_of e ++ nodes_of x) (nodes_of y) n),
          h.left,
          h.is,
          h.alike,
        )
    typed_shape g d direction t ts (esac at e) s h n = (typed _ _ _ ts e s h.subject n, h.left, h.is)
    typed_shape g d direction t ts (struct fs) s h n = (typed_fields g (strings_of d) (the_parts d) direction ts fs s h.fields n, h.is)
    typed_shape g d direction t ts (member e at) s h n = (typed _ _ _ ts e s h.whole n, h.left, h.is)
    typed_shape g d direction t ts (take_field e at rest binder k) s h n =
        let m = all_front IsNode (nodes_of e) (nodes_of k) n in (
          typed _ _ _ ts e (stands_first numbered _ g ts h.splits.long s) h.whole m,
          typed _ _ _ (ts ++ c_type numbered (with_part at.name true (type_at e)) ∷ c_type numbered (held (field_in at.name (type_at e))) ∷ []) k
              (stands_push_two numbered _ (with_part at.name true (type_at e)) (held (field_in at.name (type_at e))) ts (stands_second numbered _ g ts h.splits.long s)) h.body
              (all_back IsNode (nodes_of e) (nodes_of k) n),
          h.left,
          h.is,
        )
    typed_shape g d direction t ts (put e at x) s h n = (
      typed _ _ _ ts e (stands_first numbered _ g ts h.splits.long s) h.whole (all_front IsNode (nodes_of e) (nodes_of x) n),
      typed _ _ _ ts x (stands_second numbered _ g ts h.splits.long s) h.value (all_back IsNode (nodes_of e) (nodes_of x) n),
      h.there,
      core_is functions vars _ _ (held (field_in at.name (type_at e))) x h.value,
      h.is,
    )
    typed_shape g d direction t ts (cast e) s h n = (typed _ _ _ ts e s h.operand n, h.widens)
    typed_shape g d direction t ts (annot e a) s h n = (typed _ _ _ ts e s h.value n, h.is ∙ sym (core_is functions vars _ _ a.ty e h.value))

    typed_fields : (g : Context) (strings : List (List Mark)) (ds : Derivations) (direction : Option Tau) (ts : List CTy) (fs : Named Note)
        → Agrees numbered g ts → DerivesFields functions vars g strings ds direction fs → AllByRecursion IsNode (nodes_of_fields fs) → AreTyped functions numbered ss ts fs
    typed_fields g strings ds direction ts end s h n = absurd h
    typed_fields g strings ds direction ts (field name e end) s h n = (typed _ _ _ ts e s h.value (all_front IsNode (nodes_of e) [] n), tt {0})
    typed_fields g strings ds direction ts (field name e (field later x fs)) s h n = (
      typed _ _ _ ts e (stands_first numbered _ g ts h.splits.long s) h.value (all_front IsNode (nodes_of e) (nodes_of_fields (field later x fs)) n),
      typed_fields _ _ _ direction ts (field later x fs) (stands_second numbered _ g ts h.splits.long s) h.later
          (all_back IsNode (nodes_of e) (nodes_of_fields (field later x fs)) n),
    )

-- a core that is derived has types that C can have
pub derived_typed : (numbered : Tau → ℕ) (ss : List CStruct) (functions : List Function) (vars : List Kinds) (g : Context) (d : Derivation) (direction : Option Tau) (core : Tree Note) (ts : List CTy)
    → Agrees numbered g ts → Derives functions vars g d direction core → AllByRecursion (λ t. IsDeclared numbered ss (type_at t)) (nodes_of core)
    → IsTyped functions numbered ss ts core
derived_typed numbered ss functions vars g d direction core ts a h n = typed numbered ss functions vars g d direction ts core a h n
