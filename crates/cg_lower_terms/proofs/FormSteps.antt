-- Forms, of what their parts gave.
use Rattle.std.proofs.Common.{◌≡◌, ℕ, suc, ◌+◌, ◌<◌, List, [], ◌∷◌, ◌++◌, get_or, length, map, take, refl, sym, ap, subst, ◌∙◌, arith}
use Rattle.std.specs.Prelude.{not}
use Rattle.std.proofs.lemmas.List.{append-nil, append_assoc, length-append, map-append, take_more}
use Rattle.std.proofs.Math.Seq.{take-append_seam}
use Rattle.cg_base.specs.declared.kind.Word.{Word}
use Rattle.cg_base.specs.declared.kind.Word.TheVariants.{U8}
use Rattle.cg_base.specs.Types.{Tau}
use Rattle.cg_cgen_def.specs.Code.{takes_two}
use Rattle.cg_core.specs.declared.at.At.{At}
use Rattle.cg_core.specs.declared.op.Op.{Op}
use Rattle.cg_core.specs.declared.term.FieldTerm.{FieldTerm}
use Rattle.cg_core.specs.declared.term.Form.{the_lemmas}
use Rattle.cg_core.specs.declared.term.Term.{Term}
use Rattle.cg_core.specs.declared.term.Typed.{Typed}
use Rattle.cg_core.specs.Kernels.{the_core, the_core_field}
use Rattle.cg_core.specs.Terms.{Note, OneField, Tree, term, fun, op, app, if_else, more, none, to_named, to_trees}
use Rattle.cg_ctree.specs.declared.tree.CStmt.{CStmt}
use Rattle.cg_ctree.specs.declared.tree.CTy.{CTy}
use Rattle.cg_ctree.specs.declared.tree.CTy.TheVariants as ty
use Rattle.cg_ctree.specs.Trees.{Stmt, block_of, branch, stmt_of, to_block}
use Rattle.cg_cgen_def.specs.Bodies.{Low}
use Rattle.cg_lower_def.specs.Lowered.{Lows, Whole, arm, as_low, calling, callee, call_operands, chosen, copy, is_tagged, joined, low, low_fields, low_member, low_operator, low_put, low_shape, operating, remainder, set, word_of, before}
use Rattle.cg_cgen_def.specs.Places as places
use Rattle.cg_eval_operations.specs.Positions.{position}
use Rattle.cg_typing.specs.Rules.{type_at}
use Rattle.cg_update.specs.Turns.{field_type, place_in}
use Rattle.cg_update.specs.Updates.{sigil_of}
use Rattle.cg_lower_nodes.specs.declared.place.Place.{Place}
use Rattle.cg_lower_nodes.specs.declared.place.Place.TheVariants as place
use Rattle.cg_lower_nodes.specs.declared.state.Lowering.{Lowering}
use Rattle.cg_lower_nodes.specs.Grown.{After, Adds, Begins, Binds, Ends, HasLocal, Operates, Puts, Reads, Sets, Unbinds}
use Rattle.cg_lower_nodes.specs.Kept.{c_type_in, kept_of, whole_of}
use Rattle.cg_lower_terms.specs.Forms.{AfterFields, Arms, ArmsBoth, Lowers, LowersNode, low_choice, low_in, low_put_in, low_record, low_take, low_within, operands_in, scope_of}
use Rattle.cg_lower_nodes.specs.Views.{place_of}
use Rattle.cg_lower_nodes.proofs.Growing.{after_before, after_joined, after_set, locals_after, type_after}
use Rattle.cg_lower_nodes.proofs.NodeSteps.{after_valued}
use Rattle.cg_lower_terms.proofs.TermSteps.{after_unbound, low_at, moved, moved_within, scope_after, whole_after, within_is}
use Rattle.cg_lower_nodes.proofs.MoveSteps.{add_none as none_more}

-- ---- operators

-- an operator of other than one or two operands is the number 0
pub after_many : (old : Lowering) (t : Tau) (o : Op) (ts : List (Term Typed)) (p : Place)
    → (length ts ≡ 1 → ⊥) → (length ts ≡ 2 → ⊥) → place_of p ≡ places.number 0 → LowersNode old old t (op o (to_trees (map the_core ts))) p
unfolding low low_shape to_trees
after_many old t o [] p h w e = record { value = e; locals = sym (append-nil old.locals); code = sym (append-nil _); scope = refl; kept = refl }
after_many old t o (x ∷ []) p h w e = absurd (h refl)
after_many old t o (x ∷ y ∷ []) p h w e = absurd (w refl)
after_many old t o (x ∷ y ∷ z ∷ ts) p h w e = record { value = e; locals = sym (append-nil old.locals); code = sym (append-nil _); scope = refl; kept = refl }

pub after_one : (old mid new : Lowering) (p q : Place) (o : Op) (w : Word) (t : Tau) (a : Tree Note)
    → Lowers old mid a p → w ≡ word_of (type_at a) → Operates mid new (not (takes_two o)) (c_type_in mid t) (operating o w (place_of p) (place_of p)) q
    → LowersNode old new t (op o (more a none)) q
unfolding low low_shape
after_one old mid new p q o w t a f e h =
    subst (λ z. After old new q (low_operator (not (takes_two o)) (length old.locals) (c_type_in old t) L (operating o z L.value L.value))) e
    (subst (λ z. After old new q (low_operator (not (takes_two o)) (length old.locals) (c_type_in old t) L (operating o w z z))) f.value
    (subst (λ z. After old new q (low_operator (not (takes_two o)) (length old.locals) z L (operating o w (place_of p) (place_of p)))) (type_after old mid p L t f)
    (h.by old L p f)))
  where
    L : Low
    L = low_in old a

pub after_two : (old m1 m2 new : Lowering) (p r q : Place) (o : Op) (w : Word) (t : Tau) (a b : Tree Note)
    → Lowers old m1 a p → Lowers m1 m2 b r → w ≡ word_of (type_at a) → Operates m2 new (takes_two o) (c_type_in m2 t) (operating o w (place_of p) (place_of r)) q
    → LowersNode old new t (op o (more a (more b none))) q
unfolding low low_shape
after_two old m1 m2 new p r q o w t a b f g e h =
    subst (λ z. After old new q (low_operator (takes_two o) (length old.locals) (c_type_in old t) (joined E X) (operating o z E.value X.value))) e
    (subst (λ z. After old new q (low_operator (takes_two o) (length old.locals) (c_type_in old t) (joined E X) (operating o w E.value z))) g'.value
    (subst (λ z. After old new q (low_operator (takes_two o) (length old.locals) (c_type_in old t) (joined E X) (operating o w z (place_of r)))) f.value
    (subst (λ z. After old new q (low_operator (takes_two o) (length old.locals) z (joined E X) (operating o w (place_of p) (place_of r)))) (type_after old m2 r (joined E X) t j)
    (h.by old (joined E X) r j))))
  where
    E : Low
    E = low_in old a

    X : Low
    X = low (whole_of old) (length old.locals + length E.locals) (scope_of old) b

    g' : After m1 m2 r X
    g' = moved old m1 m2 p r E b f g

    j : After old m2 r (joined E X)
    j = after_joined old m1 m2 p r E X f g'

-- ---- calls

operands_are : (old : Lowering) (f : Tree Note) (v x : places.Place) → operands_in f v x ≡ call_operands (whole_of old) f v x
operands_are old (term note (fun f args)) v x = refl
operands_are old (term note _) v x = refl

pub after_app : (old m1 m2 m3 new : Lowering) (p r q : Place) (name : List ℕ) (vs : List Place) (t : Tau) (f x : Tree Note)
    → Lowers old m1 f p → Lowers m1 m2 x r → name ≡ callee (whole_of m2) f → m3 ≡ m2 → map place_of vs ≡ operands_in f (place_of p) (place_of r)
    → Sets m3 new (c_type_in m3 t) (calling name (map place_of vs)) q → LowersNode old new t (app f x) q
unfolding low low_shape
after_app old m1 m2 m3 new p r q name vs t f x a b e k w s =
    after_set old m2 new r q (joined E X) (c_type_in old t) (calling (callee (whole_of old) f) (call_operands (whole_of old) f E.value X.value)) j
    (subst (λ z. Sets m2 new (c_type_in old t) (calling z (call_operands (whole_of old) f E.value X.value)) q) (e ∙ ap (λ z. callee z f) (whole_after old m2 r (joined E X) j))
    (subst (λ z. Sets m2 new (c_type_in old t) (calling name z) q) many
    (subst (λ z. Sets m2 new z (calling name (map place_of vs)) q) (type_after old m2 r (joined E X) t j)
    (subst (λ z. Sets z new (c_type_in z t) (calling name (map place_of vs)) q) k s))))
  where
    E : Low
    E = low_in old f

    X : Low
    X = low (whole_of old) (length old.locals + length E.locals) (scope_of old) x

    b' : After m1 m2 r X
    b' = moved old m1 m2 p r E x a b

    j : After old m2 r (joined E X)
    j = after_joined old m1 m2 p r E X a b'

    many : map place_of vs ≡ call_operands (whole_of old) f E.value X.value
    many = w ∙ operands_are old f (place_of p) (place_of r) ∙ ap (λ z. call_operands (whole_of old) f z (place_of r)) a.value ∙ ap (call_operands (whole_of old) f E.value) b'.value

-- ---- branches

-- with more locals
abbrev longer : Low → List CTy → Low
longer a ts = record { value = a.value; locals = a.locals ++ ts; code = a.code }

after_local : (old mid new : Lowering) (p : Place) (a : Low) (t : CTy) (j : ℕ) → After old mid p a → HasLocal mid new t j → After old new p (longer a (t ∷ []))
after_local old mid new p a t j f h = record {
  value = f.value;
  locals = h.locals ∙ ap (λ z. z ++ t ∷ []) f.locals ∙ append_assoc old.locals a.locals (t ∷ []);
  code = ap (map stmt_of) h.code ∙ f.code;
  scope = h.scope ∙ f.scope;
  kept = h.kept ∙ f.kept;
}

after_arm : (old mid new : Lowering) (p : Place) (a b : Low) (ys : List CStmt) (to : ℕ) → After old mid p a → Arms mid new ys to b → After old new p (longer a b.locals)
after_arm old mid new p a b ys to f h = record {
  value = f.value;
  locals = h.locals ∙ ap (λ z. z ++ b.locals) f.locals ∙ append_assoc old.locals a.locals b.locals;
  code = ap (map stmt_of) h.same ∙ f.code;
  scope = h.scope ∙ f.scope;
  kept = h.kept ∙ f.kept;
}

-- a branch behind what is lowered
moved_arm : (old mid new : Lowering) (p : Place) (a : Low) (ys : List CStmt) (to n : ℕ) (t : Tree Note) (g : List places.Place → List places.Place)
    → After old mid p a → length old.locals + length a.locals ≡ n → Arms mid new ys to (low (whole_of mid) (length mid.locals) (g (scope_of mid)) t)
    → Arms mid new ys to (low (whole_of old) n (g (scope_of old)) t)
moved_arm old mid new p a ys to n t g f e h =
    subst (λ k. Arms mid new ys to (low (whole_of old) k (g (scope_of old)) t)) (locals_after old mid p a f ∙ e)
    (subst (λ w. Arms mid new ys to (low w (length mid.locals) (g (scope_of old)) t)) (whole_after old mid p a f)
    (subst (λ z. Arms mid new ys to (low (whole_of mid) (length mid.locals) (g z) t)) (scope_after old mid p a f) h))

pub arm_made : (old begun mid new : Lowering) (outer ys : List CStmt) (to : ℕ) (p : Place) (t : Tree Note)
    → Begins old begun outer → Lowers begun mid t p → Ends mid new outer to p ys → Arms old new ys to (low_in old t)
unfolding low_at
arm_made old begun mid new outer ys to p t b l e = record {
  locals = e.locals ∙ f.locals ∙ ap (λ z. z ++ L.locals) b.locals;
  code = e.code ∙ ap (λ z. z ++ copy (place_of p) to) (f.code ∙ ap (λ z. map stmt_of z ++ L.code) b.code) ∙ ap (λ z. L.code ++ copy z to) f.value;
  same = e.same ∙ b.outer_is;
  scope = e.scope ∙ f.scope ∙ b.scope;
  kept = e.kept ∙ f.kept ∙ b.kept;
}
  where
    L : Low
    L = low_in old t

    is : low (whole_of begun) (length begun.locals) (scope_of begun) t ≡ L
    is =
        ap (λ z. low_at z begun.locals (scope_of begun) t) b.kept
        ∙ ap (λ z. low_at (kept_of old) z (scope_of begun) t) b.locals
        ∙ ap (λ z. low_at (kept_of old) old.locals (map place_of z) t) b.scope

    f : After begun mid p L
    f = subst (After begun mid p) is l

pub arm_within : (old bound mid new : Lowering) (ys : List CStmt) (to : ℕ) (p : Place) (t : Tree Note) (depth : ℕ)
    → Binds old bound (p ∷ []) → Arms bound mid ys to (low_in bound t) → Unbinds mid new depth → depth ≡ length old.scope.items
    → Arms old new ys to (low_within old (place_of p ∷ []) t)
arm_within old bound mid new ys to p t depth b l u e = record {
  locals = u.locals ∙ a.locals ∙ ap (λ z. z ++ L.locals) b.locals;
  code = a.code;
  same = u.code ∙ a.same ∙ b.code;
  scope = u.scope ∙ ap (take depth) (a.scope ∙ b.scope) ∙ ap (λ n. take n (old.scope.items ++ p ∷ [])) e ∙ take-append_seam old.scope.items (p ∷ []);
  kept = u.kept ∙ a.kept ∙ b.kept;
}
  where
    L : Low
    L = low_within old (place_of p ∷ []) t

    a : Arms bound mid ys to L
    a = subst (Arms bound mid ys to) (within_is old bound (p ∷ []) t b) l

-- both branches of a choice between alternatives
pub arms_both : (old mid new : Lowering) (ys ns : List CStmt) (to i : ℕ) (value payload : Place) (v : places.Place) (x y : Tree Note)
    → place_of payload ≡ places.at (places.payload i) v → v ≡ place_of value → Arms old mid ys to (low_within old (place_of payload ∷ []) x)
    → Arms mid new ns to (low_within mid (place_of value ∷ []) y) → ArmsBoth old new ys ns to (place_of value) i x y
arms_both old mid new ys ns to i value payload v x y e w a b = record {
  mid = mid;
  first = subst (λ z. Arms old mid ys to (low_within old (z ∷ []) x)) (e ∙ ap (places.at (places.payload i)) w) a;
  rest = b;
}

-- ---- choices

-- a choice by the value, where a local gets the value of a branch
abbrev choice : ℕ → CTy → Low → Low → Low → Low
choice n t l a b = record {
  value = places.held (places.local n) [];
  locals = l.locals ++ t ∷ (a.locals ++ b.locals);
  code = l.code ++ chosen l.value n a b ∷ [];
}

after_choice : (old m1 m2 m3 m4 new : Lowering) (p q : Place) (l : Low) (t : Tau) (to n : ℕ) (ys ns : List CStmt) (x y : Tree Note)
    (g h : List places.Place → List places.Place)
    → After old m1 p l → length old.locals + length l.locals ≡ n → HasLocal m1 m2 (c_type_in m1 t) to
    → Arms m2 m3 ys to (low (whole_of m2) (length m2.locals) (g (scope_of m2)) x) → Arms m3 m4 ns to (low (whole_of m3) (length m3.locals) (h (scope_of m3)) y)
    → Adds m4 new (branch (places.operand (place_of p)) (block_of ys) (block_of ns) ∷ []) → place_of q ≡ places.held (places.local to) []
    → After old new q (choice n (c_type_in old t) l (low (whole_of old) (suc n) (g (scope_of old)) x)
    (low (whole_of old) (suc n + length (low (whole_of old) (suc n) (g (scope_of old)) x).locals) (h (scope_of old)) y))
after_choice old m1 m2 m3 m4 new p q l t to n ys ns x y g h f1 e k ax ay s v = record {
  value = v ∙ ap (λ z. places.held (places.local z) []) to_is;
  locals = s.locals ∙ f4.locals ∙ ap (λ z. old.locals ++ z) (append_assoc (l.locals ++ c ∷ []) A.locals B.locals ∙ append_assoc l.locals (c ∷ []) (A.locals ++ B.locals));
  code = s.code ∙ ap (λ z. z ++ S ∷ []) f4.code ∙ append_assoc (map stmt_of old.stmts) l.code (S ∷ []) ∙ ap (λ z. map stmt_of old.stmts ++ (l.code ++ z ∷ [])) branch_is;
  scope = s.scope ∙ f4.scope;
  kept = s.kept ∙ f4.kept;
}
  where
    c : CTy
    c = c_type_in old t

    A : Low
    A = low (whole_of old) (suc n) (g (scope_of old)) x

    B : Low
    B = low (whole_of old) (suc n + length A.locals) (h (scope_of old)) y

    S : Stmt
    S = branch (places.operand (place_of p)) (block_of ys) (block_of ns)

    f2 : After old m2 p (longer l (c ∷ []))
    f2 = after_local old m1 m2 p l c to f1 (subst (λ z. HasLocal m1 m2 z to) (type_after old m1 p l t f1) k)

    n2 : length old.locals + length (l.locals ++ c ∷ []) ≡ suc n
    n2 = omega (arith, e, length-append l.locals (c ∷ []))

    a2 : Arms m2 m3 ys to A
    a2 = moved_arm old m2 m3 p (longer l (c ∷ [])) ys to (suc n) x g f2 n2 ax

    f3 : After old m3 p (longer (longer l (c ∷ [])) A.locals)
    f3 = after_arm old m2 m3 p (longer l (c ∷ [])) A ys to f2 a2

    n3 : length old.locals + length ((l.locals ++ c ∷ []) ++ A.locals) ≡ suc n + length A.locals
    n3 = omega (arith, n2, length-append (l.locals ++ c ∷ []) A.locals)

    a3 : Arms m3 m4 ns to B
    a3 = moved_arm old m3 m4 p (longer (longer l (c ∷ [])) A.locals) ns to (suc n + length A.locals) y h f3 n3 ay

    f4 : After old m4 p (longer (longer (longer l (c ∷ [])) A.locals) B.locals)
    f4 = after_arm old m3 m4 p (longer (longer l (c ∷ [])) A.locals) B ns to f3 a3

    to_is : to ≡ n
    to_is = k.at ∙ locals_after old m1 p l f1 ∙ e

    branch_is : S ≡ chosen l.value n A B
    branch_is =
        ap (λ z. branch (places.operand z) (block_of ys) (block_of ns)) f1.value
        ∙ ap (λ z. branch (places.operand l.value) (to_block z) (block_of ns)) (a2.code ∙ ap (λ j. arm j A) to_is)
        ∙ ap (λ z. branch (places.operand l.value) (to_block (arm n A)) (to_block z)) (a3.code ∙ ap (λ j. arm j B) to_is)

pub after_if : (old m1 m2 m3 m4 new : Lowering) (p q : Place) (t : Tau) (to : ℕ) (ys ns : List CStmt) (c x y : Tree Note)
    → Lowers old m1 c p → HasLocal m1 m2 (c_type_in m1 t) to → Arms m2 m3 ys to (low_in m2 x) → Arms m3 m4 ns to (low_in m3 y)
    → Adds m4 new (branch (places.operand (place_of p)) (block_of ys) (block_of ns) ∷ []) → place_of q ≡ places.held (places.local to) []
    → LowersNode old new t (if_else c x y) q
unfolding low low_shape
after_if old m1 m2 m3 m4 new p q t to ys ns c x y f k ax ay s v =
    after_choice old m1 m2 m3 m4 new p q (low_in old c) t to _ ys ns x y (λ z. z) (λ z. z) f refl k ax ay s v

pub after_case : (old m1 m2 m3 m4 new : Lowering) (p flag q : Place) (t : Tau) (to i : ℕ) (ys ns : List CStmt) (s : Tree Note) (at' : At) (x y : Tree Note)
    → Lowers old m1 s p → i ≡ place_in at'.name (type_at s) → Sets m1 m2 (ty.Word U8) (λ j. is_tagged (place_of p) i j ∷ []) flag
    → HasLocal m2 m3 (c_type_in m2 t) to → ArmsBoth m3 m4 ys ns to (place_of p) i x y
    → Adds m4 new (branch (places.operand (place_of flag)) (block_of ys) (block_of ns) ∷ []) → place_of q ≡ places.held (places.local to) []
    → After old new q (low_choice old t s at' x y)
after_case old m1 m2 m3 m4 new p flag q t to i ys ns s at' x y f e w k arms adds v = record {
  value = c.value;
  locals = c.locals ∙ ap (λ z. old.locals ++ z) (append_assoc E.locals (ty.Word U8 ∷ []) _);
  code = c.code ∙ ap (λ z. map stmt_of old.stmts ++ z) (append_assoc E.code _ _);
  scope = c.scope;
  kept = c.kept;
}
  where
    E : Low
    E = low_in old s

    j : ℕ
    j = place_in at'.name (type_at s)

    S : Low
    S = set (length old.locals) (ty.Word U8) E (λ n. is_tagged E.value j n ∷ [])

    f2 : After old m2 flag S
    f2 = after_valued old m1 m2 p flag E (ty.Word U8) (λ u n. is_tagged u j n ∷ []) f (subst (λ z. Sets m1 m2 (ty.Word U8) (λ n. is_tagged (place_of p) z n ∷ []) flag) e w)

    both : ArmsBoth m3 m4 ys ns to E.value j x y
    both = subst (λ z. ArmsBoth m3 m4 ys ns to z j x y) f.value (subst (λ z. ArmsBoth m3 m4 ys ns to (place_of p) z x y) e arms)

    many : length old.locals + length (E.locals ++ ty.Word U8 ∷ []) ≡ suc (length old.locals + length E.locals)
    many = omega (arith, length-append E.locals (ty.Word U8 ∷ []))

    c : After old new q (choice (suc (length old.locals + length E.locals)) (c_type_in old t) S
        (low (whole_of old) (suc (suc (length old.locals + length E.locals))) (scope_of old ++ places.at (places.payload j) E.value ∷ []) x)
        (low (whole_of old) (suc (suc (length old.locals + length E.locals))
        + length (low (whole_of old) (suc (suc (length old.locals + length E.locals))) (scope_of old ++ places.at (places.payload j) E.value ∷ []) x).locals)
        (scope_of old ++ E.value ∷ []) y))
    c = after_choice old m2 m3 both.mid m4 new flag q S t to (suc (length old.locals + length E.locals)) ys ns x y
        (λ z. z ++ places.at (places.payload j) E.value ∷ []) (λ z. z ++ E.value ∷ []) f2 many k both.first both.rest adds v

-- ---- fields

-- one field more
abbrev more_lows : Lows → Low → Lows
more_lows ls a = record { values = ls.values ++ a.value ∷ []; locals = ls.locals ++ a.locals; code = ls.code ++ a.code }

-- a field in front
abbrev first_low : Low → Lows → Lows
first_low a ls = record { values = a.value ∷ ls.values; locals = a.locals ++ ls.locals; code = a.code ++ ls.code }

first_more : (a b : Low) (ls : Lows) → first_low a (more_lows ls b) ≡ more_lows (first_low a ls) b
first_more a b ls =
    ap (λ z. record { values = a.value ∷ (ls.values ++ b.value ∷ []); locals = z; code = a.code ++ (ls.code ++ b.code) }) (sym (append_assoc a.locals ls.locals b.locals))
    ∙ ap (λ z. record { values = a.value ∷ (ls.values ++ b.value ∷ []); locals = (a.locals ++ ls.locals) ++ b.locals; code = z }) (sym (append_assoc a.code ls.code b.code))

first_only : (a : Low) → first_low a (record { values = []; locals = []; code = [] }) ≡ more_lows (record { values = []; locals = []; code = [] }) a
first_only a =
    ap (λ z. record { values = a.value ∷ []; locals = z; code = a.code ++ [] }) (append-nil a.locals) ∙ ap (λ z. record { values = a.value ∷ []; locals = a.locals; code = z }) (append-nil a.code)

next : (k m n s : ℕ) → s ≡ m + n → (k + m) + n ≡ k + s
next k m n s e = omega arith

fields_snoc : (w : Whole) (k : ℕ) (os : List places.Place) (fs : List (OneField Note)) (f : OneField Note)
    → low_fields w k os (to_named (fs ++ f ∷ [])) ≡ more_lows (low_fields w k os (to_named fs)) (low w (k + length (low_fields w k os (to_named fs)).locals) os f.term)
unfolding low low_fields to_named
fields_snoc w k os [] f = first_only (low w k os f.term) ∙ ap (λ z. more_lows (record { values = []; locals = []; code = [] }) (low w z os f.term)) (none_more k)
fields_snoc w k os (g ∷ fs) f =
    let a = low w k os g.term in
    let ls = low_fields w (k + length a.locals) os (to_named fs) in
    ap (first_low a) (fields_snoc w (k + length a.locals) os fs f)
    ∙ first_more a (low w ((k + length a.locals) + length ls.locals) os f.term) ls
    ∙ ap (λ z. more_lows (first_low a ls) (low w z os f.term)) (next k (length a.locals) (length ls.locals) (length (a.locals ++ ls.locals)) (length-append a.locals ls.locals))

pub fields_none : (old : Lowering) (vs : List Place) → vs ≡ [] → AfterFields old old vs (low_record old (to_named []))
unfolding low low_fields to_named
fields_none old vs e = record { values_are = ap (map place_of) e; locals = sym (append-nil old.locals); code = sym (append-nil _); scope = refl; kept = refl }

field_is : (f : FieldTerm Typed) → (the_core_field f).term ≡ the_core f.term
field_is f = search the_lemmas

-- the next field
pub fields_more : (old mid new : Lowering) (vs ws : List Place) (p : Place) (all : List (FieldTerm Typed)) (i : ℕ) (f : FieldTerm Typed)
    → i < length all → f ≡ get_or all i f → AfterFields old mid vs (low_record old (to_named (map the_core_field (take i all))))
    → Lowers mid new (the_core f.term) p → ws ≡ vs ++ p ∷ [] → AfterFields old new ws (low_record old (to_named (map the_core_field (take (i + 1) all))))
fields_more old mid new vs ws p all i f h s a l e = subst (AfterFields old new ws) (sym is) (record {
  values_are = ap (map place_of) e ∙ map-append place_of vs (p ∷ []) ∙ ap (λ z. z ++ place_of p ∷ []) a.values_are ∙ ap (λ z. ls.values ++ z ∷ []) b.value;
  locals = j.locals;
  code = j.code;
  scope = j.scope;
  kept = j.kept;
})
  where
    fs : List (OneField Note)
    fs = map the_core_field (take i all)

    ls : Lows
    ls = low_record old (to_named fs)

    before' : After old mid (place.Number 0) (as_low ls)
    before' = record { value = refl; locals = a.locals; code = a.code; scope = a.scope; kept = a.kept }

    B : Low
    B = low (whole_of old) (length old.locals + length ls.locals) (scope_of old) (the_core f.term)

    b : After mid new p B
    b = moved old mid new (place.Number 0) p (as_low ls) (the_core f.term) before' l

    j : After old new p (joined (as_low ls) B)
    j = after_joined old mid new (place.Number 0) p (as_low ls) B before' b

    is : low_record old (to_named (map the_core_field (take (i + 1) all))) ≡ more_lows ls B
    is =
        ap (λ z. low_record old (to_named z)) (ap (map the_core_field) (take_more all i f h ∙ ap (λ z. take i all ++ z ∷ []) (sym s)) ∙ map-append the_core_field (take i all) (f ∷ []))
        ∙ fields_snoc (whole_of old) (length old.locals) (scope_of old) fs (the_core_field f)
        ∙ ap (λ z. more_lows ls (low (whole_of old) (length old.locals + length ls.locals) (scope_of old) z)) (field_is f)

-- ---- fields that are taken and put

-- a scope with one variable more and then others
two_within : (mid bound : Lowering) (p : Place) (v : places.Place) (t : Tree Note)
    → Binds mid bound (p ∷ []) → low_within bound (v ∷ []) t ≡ low_within mid (place_of p ∷ v ∷ []) t
unfolding low_at
two_within mid bound p v t b =
    ap (λ z. low_at z bound.locals (scope_of bound ++ v ∷ []) t) b.kept
    ∙ ap (λ z. low_at (kept_of mid) z (scope_of bound ++ v ∷ []) t) b.locals
    ∙ ap (λ z. low_at (kept_of mid) mid.locals z t)
    (ap (λ z. z ++ v ∷ []) (ap (map place_of) b.scope ∙ map-append place_of mid.scope.items (p ∷ [])) ∙ append_assoc (scope_of mid) (place_of p ∷ []) (v ∷ []))

pub after_take : (old m1 m2 bound last new : Lowering) (p left part q : Place) (i depth : ℕ) (r : Tree Note) (at' : At) (b : Tree Note) (u : Tau)
    → Lowers old m1 r p → type_at r ≡ u → i ≡ position at'.name u
    → Reads m1 m2 (sigil_of u) (c_type_in m1 u) (c_type_in m1 (field_type u i)) i p left part
    → Binds m2 bound (left ∷ []) → After bound last q (low_within bound (place_of part ∷ []) b) → Unbinds last new depth → depth ≡ length m2.scope.items
    → After old new q (low_take old r at' b)
after_take old m1 m2 bound last new p left part q i depth r at' b u f w e h bd l ub d = after_joined old m2 new part q V _ v rest
  where
    E : Low
    E = low_in old r

    T : Tau
    T = type_at r

    j : ℕ
    j = position at'.name T

    V : Low
    V = low_member (length old.locals) (sigil_of T) (c_type_in old T) (c_type_in old (field_type T j)) j E

    h' : Reads m1 m2 (sigil_of T) (c_type_in old T) (c_type_in old (field_type T j)) j p left part
    h' =
        subst (λ z. Reads m1 m2 (sigil_of T) (c_type_in old T) z j p left part) (type_after old m1 p E (field_type T j) f)
        (subst (λ z. Reads m1 m2 (sigil_of T) z (c_type_in m1 (field_type T j)) j p left part) (type_after old m1 p E T f)
        (subst (λ z. Reads m1 m2 (sigil_of T) (c_type_in m1 T) (c_type_in m1 (field_type T z)) z p left part) (e ∙ ap (position at'.name) (sym w))
        (subst (λ z. Reads m1 m2 (sigil_of z) (c_type_in m1 z) (c_type_in m1 (field_type z i)) i p left part) (sym w) h)))

    v : After old m2 part V
    v = h'.read old E f

    R : places.Place
    R = remainder (length old.locals) (sigil_of T) (c_type_in old T) E

    both : After m2 new q (low_within m2 (place_of left ∷ place_of part ∷ []) b)
    both = after_unbound m2 bound last new (left ∷ []) q _ depth bd (subst (After bound last q) (two_within m2 bound left (place_of part) b bd) l) ub d

    rest : After m2 new q (low (whole_of old) (length old.locals + length V.locals) (scope_of old ++ R ∷ V.value ∷ []) b)
    rest =
        subst (λ z. After m2 new q (low (whole_of old) (length old.locals + length V.locals) (scope_of old ++ z ∷ V.value ∷ []) b)) (h'.rest old E f)
        (subst (λ z. After m2 new q (low (whole_of old) (length old.locals + length V.locals) (scope_of old ++ place_of left ∷ z ∷ []) b)) v.value
        (moved_within old m2 new part q V (place_of left ∷ place_of part ∷ []) b v both))

pub after_put : (old m1 m2 new : Lowering) (p v q : Place) (k i : ℕ) (r : Tree Note) (at' : At) (x : Tree Note) (u : Tau)
    → Lowers old m1 r p → Lowers m1 m2 x v → k ≡ length old.locals → type_at r ≡ u → i ≡ position at'.name u
    → Puts m2 new k (sigil_of u) (c_type_in m2 u) i (place_of v) p q → After old new q (low_put_in old r at' x)
after_put old m1 m2 new p v q k i r at' x u f g n w e h =
    subst (λ z. After old new q (low_put z (sigil_of T) (c_type_in old T) (position at'.name T) E X)) n
    (subst (λ z. After old new q (low_put k (sigil_of T) (c_type_in old T) z E X)) (e ∙ ap (position at'.name) (sym w))
    (subst (λ z. After old new q (low_put k (sigil_of T) z i E X)) (type_after old m2 p (before E X) T b)
    ((subst (λ z. Puts m2 new k (sigil_of z) (c_type_in m2 z) i (place_of v) p q) (sym w) h).by old E X n g'.value b)))
  where
    E : Low
    E = low_in old r

    T : Tau
    T = type_at r

    X : Low
    X = low (whole_of old) (length old.locals + length E.locals) (scope_of old) x

    g' : After m1 m2 v X
    g' = moved old m1 m2 p v E x f g

    b : After old m2 p (before E X)
    b = after_before old m1 m2 p v E X f g'
