-- The events of operators and of records tell what their conditions and those of their parts say, and so do those of every term.
use Rattle.std.proofs.Common.{◌≡◌, ℕ, zero, suc, ◌≤◌, Bool, true, false, cond, Option, Some, None, List, [], ◌∷◌, ◌++◌, length, slice_get, length-append, refl, sym, ap, ◌∙◌, subst, arith, append_assoc, append-nil}
use Rattle.cg_base.specs.declared.kind.Kinds.{Kinds}
use Rattle.cg_base.specs.declared.place.Place.{Place}
use Rattle.cg_base.specs.Types as types
use Rattle.cg_base.specs.Types.{Tau, fields, Parts, part}
use Rattle.cg_core.specs.declared.op.Op.{Op}
use Rattle.cg_core.specs.Kernels.{Function, Body}
use Rattle.cg_core.specs.Terms.{Tree, term, Shape, var, unit, bool, lit, fun, op, app, lets, let_bang, if_else, con, case_of, esac, struct, member, take_field, put, cast, annot, none, more, Named, end, field}
use Rattle.cg_faults.specs.declared.rule.Rule.TheVariants.{T12}
use Rattle.cg_typing.specs.Contexts.{push}
use Rattle.cg_typing.specs.Accepted.{kinds_of_vars}
use Rattle.cg_faults.specs.Conditions.{Condition, at_stage, ruled, unary_conditions, binary_conditions}
use Rattle.cg_faults.specs.Events.{Event, Before, after, judged, record_events, field_directions, part_directions, next_direction, later_directions, guided, unary_events, binary_events, events, field_events}
use Rattle.cg_faults.specs.Fails.{root_of}
use Rattle.cg_faults.specs.Occurrences.{touched}
use Rattle.cg_typing.specs.Operators.{Sort, arithmetic, equality, order, logic, sort_of, takes}
use Rattle.cg_faults.specs.Plain.{plain}
use Rattle.cg_faults.specs.Rule.{rule}
use Rattle.cg_typing.specs.Rules.{is_literal}
use Rattle.cg_faults.specs.Sites.{Site, part_at, operands, guided_parts, single_operand, field_parts, next_part, parts_behind, parts_against, shape_inside, parts}
use Rattle.cg_faults.specs.Touches.{IsChoice}
use Rattle.cg_faults_laws.proofs.Flagged.{Flags, flagged_here, flagged_start, flagged_literal, flagged_next}
use Rattle.cg_faults_laws.proofs.Forms.{tells_var, tells_unit, tells_bool, tells_lit, tells_fun, tells_app, tells_let, tells_let_bang, tells_if, tells_con, tells_case, tells_esac, tells_member, tells_take, tells_put, tells_cast, tells_annot}
use Rattle.cg_faults_laws.proofs.Moments.{TellsFrom}
use Rattle.cg_faults_laws.proofs.Parts.{site_of}
use Rattle.cg_faults_laws.proofs.Rows.{entry_types, tells_meets, tells_record}
use Rattle.cg_faults_laws.proofs.Stages.{S, T, part_told, stop, last_told, StandAt, TellsTree, TellsShape, first_stands, second_stands}
use Rattle.cg_faults_laws.proofs.Standing.{OccurrenceRows}
use Rattle.cg_faults_laws.proofs.Tells.{Tells, tells_one, tells_cons, tells_nothing}

-- ---- a literal: it touches nothing, and no flag is asked for

untouched : (l : Tree Place) → is_literal l ≡ true → (i : ℕ) → touched i l ≡ false
untouched (term a (lit v)) h i = refl
untouched (term a shape) h i = absurd (cc)

unflagged : (functions : List Function) (vars : List Kinds) (p : List Tau) (b c : Before) (d : Option Tau) (l : Tree Place) → is_literal l ≡ true → events functions vars p b d l ≡ events functions vars p c d l
unflagged functions vars p b c d (term a (lit v)) h = refl
unflagged functions vars p b c d (term a shape) h = absurd (cc)

at_most : {A : Type 0} (xs ys : List A) (n : ℕ) → xs ≡ ys → length ys ≤ n → length xs ≤ n
at_most xs ys n e h = subst (λ zs. length zs ≤ n) (sym e) h

-- ---- operators, over their sort

module _ (functions : List Function) (vars : List Kinds) (root : Site) (s : Site) where
  -- a part's events tell, where it is this one
  abbrev First : Tree Place → (Option Tau → List Event) → Type 0
  First g guide = (d : Option Tau) → slice_get (parts functions s) 0 ≡ Some (part_at s 0 d g) → TellsFrom functions root vars (part_at s 0 d g) 0 (guide d)

  abbrev Second : Tree Place → Tree Place → (Option Tau → List Event) → Type 0
  Second g h other = (d d' : Option Tau) → slice_get (parts functions s) 0 ≡ Some (part_at s 0 d g) → slice_get (parts functions s) 1 ≡ Some (part_at s 1 d' h)
      → TellsFrom functions root vars (part_at s 1 d' h) 0 (other d')

  module _ (x : Tree Place) (operand : Option Tau → List Event) (f : First x operand) where
    unary_told : (sort : Sort) (dir : Option Tau) (a : Place) (t : Tau) → parts functions s ≡ part_at s 0 (single_operand sort dir) x ∷ [] → S functions vars root s ≡ unary_conditions sort dir a t
        → T functions vars root s 0 (unary_events sort dir a t operand)
    unary_told logic dir a t p q =
        part_told functions vars root s _ 0 _ [] _ _ (ap (λ ps. slice_get ps 0) p) (ap (λ z. at_stage z 0) q) (tells_nothing functions root) (f (Some types.bool) (ap (λ ps. slice_get ps 0) p))
        (stop functions vars root s 1 _ _ (ap (λ ps. length ps) p) (at_most _ _ 2 q (omega arith)) (ap (λ z. at_stage z 1) q) (tells_meets functions root dir a types.bool))
    unary_told arithmetic (Some u) a t p q =
        last_told functions vars root s 0 (judged T12 a _ ∷ []) (operand (Some u))
        (part_told functions vars root s _ 0 _ (judged T12 a _ ∷ []) _ _ (ap (λ ps. slice_get ps 0) p) (ap (λ z. at_stage z 0) q) (tells_one functions root (rule T12) a _) (f (Some u) (ap (λ ps. slice_get ps 0) p))
        (stop functions vars root s 1 _ [] (ap (λ ps. length ps) p) (at_most _ _ 2 q (omega arith)) (ap (λ z. at_stage z 1) q) (tells_nothing functions root)))
    unary_told arithmetic None a t p q =
        part_told functions vars root s _ 0 _ [] _ _ (ap (λ ps. slice_get ps 0) p) (ap (λ z. at_stage z 0) q) (tells_nothing functions root) (f None (ap (λ ps. slice_get ps 0) p))
        (stop functions vars root s 1 _ _ (ap (λ ps. length ps) p) (at_most _ _ 2 q (omega arith)) (ap (λ z. at_stage z 1) q) (tells_one functions root (rule T12) a _))
    unary_told equality dir a t p q =
        part_told functions vars root s _ 0 _ [] _ _ (ap (λ ps. slice_get ps 0) p) (ap (λ z. at_stage z 0) q) (tells_nothing functions root) (f None (ap (λ ps. slice_get ps 0) p))
        (stop functions vars root s 1 _ _ (ap (λ ps. length ps) p) (at_most _ _ 2 q (omega arith)) (ap (λ z. at_stage z 1) q) (tells_cons functions root (rule T12) a _ _ _ (tells_meets functions root dir a types.bool)))
    unary_told order dir a t p q =
        part_told functions vars root s _ 0 _ [] _ _ (ap (λ ps. slice_get ps 0) p) (ap (λ z. at_stage z 0) q) (tells_nothing functions root) (f None (ap (λ ps. slice_get ps 0) p))
        (stop functions vars root s 1 _ _ (ap (λ ps. length ps) p) (at_most _ _ 2 q (omega arith)) (ap (λ z. at_stage z 1) q) (tells_cons functions root (rule T12) a _ _ _ (tells_meets functions root dir a types.bool)))

  -- the guide, the operator's own test, the other operand, and what is behind
  module _ (g h : Tree Place) (guide other : Option Tau → List Event) (f : First g guide) (k : Second g h other) where
    guided_told : (sort : Sort) (a : Place) (t : Tau) (behind : List Event) (cs : List Condition) → parts functions s ≡ guided_parts s g t h
        → S functions vars root s ≡ [] ∷ ((ruled T12 a (takes sort t) ∷ []) ∷ (cs ∷ [])) → Tells functions root behind cs → T functions vars root s 0 (guided sort a t guide other ++ behind)
    guided_told sort a t behind cs p q w =
        subst (λ es. T functions vars root s 0 es) (sym (append_assoc (guide None) (judged T12 a (takes sort t) ∷ other (Some t)) behind))
        (part_told functions vars root s _ 0 _ [] _ _ (ap (λ ps. slice_get ps 0) p) (ap (λ z. at_stage z 0) q) (tells_nothing functions root) (f None (ap (λ ps. slice_get ps 0) p))
        (part_told functions vars root s _ 1 _ (judged T12 a (takes sort t) ∷ []) _ _ (ap (λ ps. slice_get ps 1) p) (ap (λ z. at_stage z 1) q) (tells_one functions root (rule T12) a _) (k None (Some t) (ap (λ ps. slice_get ps 0) p) (ap (λ ps. slice_get ps 1) p))
        (stop functions vars root s 2 _ _ (ap (λ ps. length ps) p) (at_most _ _ 3 q (omega arith)) (ap (λ z. at_stage z 2) q) w)))

    -- the same of arithmetic, with nothing behind
    arithmetic_told : (a : Place) (t : Tau) → parts functions s ≡ guided_parts s g t h → S functions vars root s ≡ [] ∷ ((ruled T12 a (takes arithmetic t) ∷ []) ∷ ([] ∷ [])) → T functions vars root s 0 (guided arithmetic a t guide other)
    arithmetic_told a t p q =
        part_told functions vars root s _ 0 _ [] _ _ (ap (λ ps. slice_get ps 0) p) (ap (λ z. at_stage z 0) q) (tells_nothing functions root) (f None (ap (λ ps. slice_get ps 0) p))
        (last_told functions vars root s 1 (judged T12 a _ ∷ []) (other (Some t))
        (part_told functions vars root s _ 1 _ (judged T12 a _ ∷ []) _ _ (ap (λ ps. slice_get ps 1) p) (ap (λ z. at_stage z 1) q) (tells_one functions root (rule T12) a _) (k None (Some t) (ap (λ ps. slice_get ps 0) p) (ap (λ ps. slice_get ps 1) p))
        (stop functions vars root s 2 _ [] (ap (λ ps. length ps) p) (at_most _ _ 3 q (omega arith)) (ap (λ z. at_stage z 2) q) (tells_nothing functions root))))

  module _ (l r : Tree Place) (left right : Option Tau → List Event) (f : First l left) (g : Second l r right) where
    binary_told : (sort : Sort) (dir : Option Tau) (literal : Bool) → (literal ≡ true → First r right) → (literal ≡ true → Second r l left) → (a : Place) (t u : Tau) → parts functions s ≡ operands sort dir literal s l r t u → S functions vars root s ≡ binary_conditions sort dir a (cond literal u t)
        → T functions vars root s 0 (binary_events sort dir a literal t u left right)
    binary_told logic dir literal m n a t u p q =
        part_told functions vars root s _ 0 _ [] _ _ (ap (λ ps. slice_get ps 0) p) (ap (λ z. at_stage z 0) q) (tells_nothing functions root) (f (Some types.bool) (ap (λ ps. slice_get ps 0) p))
        (part_told functions vars root s _ 1 _ [] _ _ (ap (λ ps. slice_get ps 1) p) (ap (λ z. at_stage z 1) q) (tells_nothing functions root) (g (Some types.bool) (Some types.bool) (ap (λ ps. slice_get ps 0) p) (ap (λ ps. slice_get ps 1) p))
        (stop functions vars root s 2 _ _ (ap (λ ps. length ps) p) (at_most _ _ 3 q (omega arith)) (ap (λ z. at_stage z 2) q) (tells_meets functions root dir a types.bool)))
    binary_told arithmetic (Some w) literal m n a t u p q =
        part_told functions vars root s _ 0 _ (judged T12 a _ ∷ []) _ _ (ap (λ ps. slice_get ps 0) p) (ap (λ z. at_stage z 0) q) (tells_one functions root (rule T12) a _) (f (Some w) (ap (λ ps. slice_get ps 0) p))
        (last_told functions vars root s 1 [] (right (Some w))
        (part_told functions vars root s _ 1 _ [] _ _ (ap (λ ps. slice_get ps 1) p) (ap (λ z. at_stage z 1) q) (tells_nothing functions root) (g (Some w) (Some w) (ap (λ ps. slice_get ps 0) p) (ap (λ ps. slice_get ps 1) p))
        (stop functions vars root s 2 _ [] (ap (λ ps. length ps) p) (at_most _ _ 3 q (omega arith)) (ap (λ z. at_stage z 2) q) (tells_nothing functions root))))
    binary_told arithmetic None true m n a t u p q = arithmetic_told r l right left (m refl) (n refl) a u p q
    binary_told arithmetic None false m n a t u p q = arithmetic_told l r left right f g a t p q
    binary_told equality dir true m n a t u p q = guided_told r l right left (m refl) (n refl) equality a u _ _ p q (tells_meets functions root dir a types.bool)
    binary_told equality dir false m n a t u p q = guided_told l r left right f g equality a t _ _ p q (tells_meets functions root dir a types.bool)
    binary_told order dir true m n a t u p q = guided_told r l right left (m refl) (n refl) order a u _ _ p q (tells_meets functions root dir a types.bool)
    binary_told order dir false m n a t u p q = guided_told l r left right f g order a t _ _ p q (tells_meets functions root dir a types.bool)

module _ (functions : List Function) (function : Function) (body : Body) (types_in : ℕ) (rows : OccurrenceRows functions function body types_in) where
  abbrev vars : List Kinds
  vars = kinds_of_vars function

  abbrev root : Site
  root = root_of function body

  abbrev Tells' : Tree Place → Type 0
  Tells' = TellsTree functions function body types_in

  abbrev Form' : Place → Shape Place → Type 0
  Form' = TellsShape functions function body types_in

  tells_unary : (a : Place) (o : Op) (x : Tree Place) → Tells' x → Form' a (op o (more x none))
  tells_unary a o x tx path scope dir b st =
      let s = site_of path scope dir (term a (op o (more x none))) in
      unary_told functions vars root s x (λ way. events functions vars (entry_types scope) b way x)
      (λ d at. tx (push path 0) scope d b (first_stands functions function body types_in rows s b st (part_at s 0 d x) at refl)) (sort_of o) dir a (plain functions (entry_types scope) x) refl refl

  tells_binary : (a : Place) (o : Op) (l r : Tree Place) → Tells' l → Tells' r → Form' a (op o (more l (more r none)))
  tells_binary a o l r tl tr path scope dir b st =
      let s = site_of path scope dir (term a (op o (more l (more r none)))) in
      let p = entry_types scope in
      binary_told functions vars root s l r (λ way. events functions vars p b way l) (λ way. events functions vars p (after b l) way r)
      (λ d at. tl (push path 0) scope d b (first_stands functions function body types_in rows s b st (part_at s 0 d l) at refl))
      (λ d d' at at'. tr (push path 1) scope d' (after b l) (second_stands functions function body types_in rows s b st (part_at s 0 d l) (part_at s 1 d' r) at refl at' refl))
      (sort_of o) dir (is_literal l)
      (λ literal d at. tr (push path 0) scope d (after b l)
      (rows.part_stands s b st 0 (part_at s 0 d r) at (after b l) (flagged_here functions s b 0 (part_at s 0 d r) (after b l) refl (flagged_literal functions s b l (untouched l literal)))))
      (λ literal d d' at at'. subst (λ es. TellsFrom functions root vars (part_at s 1 d' l) 0 es) (unflagged functions vars p (after b r) b d' l literal)
      (tl (push path 1) scope d' (after b r) (second_stands functions function body types_in rows s b st (part_at s 0 d r) (part_at s 1 d' l) at refl at' refl)))
      a (plain functions p l) (plain functions p r) refl refl

  -- ---- records

  dirs_of : Option Parts → List (Option Tau)
  dirs_of None = []
  dirs_of (Some ps) = part_directions ps

  next_is : (against : Option Parts) → next_part against ≡ next_direction (dirs_of against)
  unfolding dirs_of
  next_is None = refl
  next_is (Some types.end) = refl
  next_is (Some (part n t taken ps)) = refl

  later_is : (against : Option Parts) → dirs_of (parts_behind against) ≡ later_directions (dirs_of against)
  unfolding dirs_of
  later_is None = refl
  later_is (Some types.end) = refl
  later_is (Some (part n t taken ps)) = refl

  dirs_are : (dir : Option Tau) → dirs_of (parts_against dir) ≡ field_directions dir
  unfolding dirs_of
  dirs_are (Some (fields ps sigil)) = refl
  dirs_are _ = refl

  there : {A : Type 0} (front xs : List A) (x : A) (k : ℕ) → length front ≡ k → slice_get (front ++ (x ∷ xs)) k ≡ Some x
  there [] xs x zero h = refl
  there [] xs x (suc k) h = absurd (omega (arith, h))
  there (y ∷ front) xs x zero h = absurd (omega (arith, h))
  there (y ∷ front) xs x (suc k) h = there front xs x k (omega (arith, h))

  no_later : (s : Site) (cs : List Condition) (k : ℕ) → S functions vars root s ≡ cs ∷ [] → at_stage (S functions vars root s) (suc k) ≡ []
  no_later s cs k e = ap (λ z. at_stage z (suc k)) e

  abbrev TellsFields : Named Place → Type 0
  TellsFields fs = (s : Site) (first : Before) → StandAt functions function body types_in s first → (IsChoice (shape_inside s.node) → ⊥) → (b : Before) (k : ℕ) (against : Option Parts) (front : List Site) (start cs : List Condition) (es : List Event)
      → parts functions s ≡ front ++ field_parts s k against fs → length front ≡ k → S functions vars root s ≡ start ∷ [] → at_stage (S functions vars root s) k ≡ cs → Tells functions root es cs → Flags functions s first k b
      → T functions vars root s k (es ++ field_events functions vars (entry_types s.scope) b (dirs_of against) fs)

  no_fields : TellsFields end
  no_fields s first st unbranched b k against front start cs es p long few stage h flags =
      let size : length (parts functions s) ≡ k = ap (λ ps. length ps) (p ∙ append-nil front) ∙ long in
      let one : length (S functions vars root s) ≡ 1 = ap (λ z. length z) few in
      subst (λ es. T functions vars root s k es) (sym (append-nil es)) (stop functions vars root s k cs es size (omega (arith, one)) stage h)

  one_field : (name : List ℕ) (e : Tree Place) (fs : Named Place) → Tells' e → TellsFields fs → TellsFields (field name e fs)
  one_field name e fs te tf s first st unbranched b k against front start cs es p long few stage h flags =
      let this = part_at s k (next_part against) e in
      let rest = field_parts s (suc k) (parts_behind against) fs in
      let types = entry_types s.scope in
      let at : slice_get (parts functions s) k ≡ Some this = ap (λ ps. slice_get ps k) p ∙ there front rest this k long in
      let this_st = rows.part_stands s first st k this at b (flagged_here functions s first k this b refl flags) in
      let here : TellsFrom functions root vars this 0 (events functions vars types b (next_direction (dirs_of against)) e) =
      subst (λ d. TellsFrom functions root vars this 0 (events functions vars types b d e)) (next_is against) (te (push s.path k) s.scope (next_part against) b this_st) in
      let more_front : length (front ++ (this ∷ [])) ≡ suc k = length-append front (this ∷ []) ∙ omega (arith, long) in
      let later : T functions vars root s (suc k) ([] ++ field_events functions vars types (after b e) (dirs_of (parts_behind against)) fs) =
      tf s first st unbranched (after b e) (suc k) (parts_behind against) (front ++ (this ∷ [])) start [] [] (p ∙ sym (append_assoc front (this ∷ []) rest)) more_front few (no_later s start k few) (tells_nothing functions root) (flagged_next functions s first k b this at refl (λ c. absurd (unbranched c)) flags) in
      let behind : T functions vars root s (suc k) (field_events functions vars types (after b e) (later_directions (dirs_of against)) fs) =
      subst (λ ds. T functions vars root s (suc k) (field_events functions vars types (after b e) ds fs)) (later_is against) later in
      part_told functions vars root s this k cs es (events functions vars types b (next_direction (dirs_of against)) e) (field_events functions vars types (after b e) (later_directions (dirs_of against)) fs)
      at stage h here behind

  mutual
    pub tells : (e : Tree Place) → Tells' e
    tells (term a shape) path scope dir b st = record { outcome = (tells_shape a shape path scope dir b st).outcome }

    tells_shape : (a : Place) (shape : Shape Place) → Form' a shape
    tells_shape a (var i) path scope dir b st = tells_var functions function body types_in rows a i path scope dir b st
    tells_shape a unit path scope dir b st = tells_unit functions function body types_in rows a path scope dir b st
    tells_shape a (bool v) path scope dir b st = tells_bool functions function body types_in rows a v path scope dir b st
    tells_shape a (lit v) path scope dir b st = tells_lit functions function body types_in rows a v path scope dir b st
    tells_shape a (fun f args) path scope dir b st = tells_fun functions function body types_in rows a f args path scope dir b st
    tells_shape a (op o none) path scope dir b st = stop functions vars root (site_of path scope dir (term a (op o none))) 0 _ [] refl (omega arith) refl (tells_nothing functions root)
    tells_shape a (op o (more x none)) path scope dir b st = tells_unary a o x (tells x) path scope dir b st
    tells_shape a (op o (more l (more r none))) path scope dir b st = tells_binary a o l r (tells l) (tells r) path scope dir b st
    tells_shape a (op o (more l (more r (more x ts)))) path scope dir b st =
        stop functions vars root (site_of path scope dir (term a (op o (more l (more r (more x ts)))))) 0 _ [] refl (omega arith) refl (tells_nothing functions root)
    tells_shape a (app f x) path scope dir b st = tells_app functions function body types_in rows a f x (tells f) (tells x) path scope dir b st
    tells_shape a (lets v e k) path scope dir b st = tells_let functions function body types_in rows a v e k (tells e) (tells k) path scope dir b st
    tells_shape a (let_bang os v e k) path scope dir b st = tells_let_bang functions function body types_in rows a v os e k (tells e) (tells k) path scope dir b st
    tells_shape a (if_else c x y) path scope dir b st = tells_if functions function body types_in rows a c x y (tells c) (tells x) (tells y) path scope dir b st
    tells_shape a (con name e) path scope dir b st = tells_con functions function body types_in rows a name e (tells e) path scope dir b st
    tells_shape a (case_of e at v x y) path scope dir b st = tells_case functions function body types_in rows a v at e x y (tells e) (tells x) (tells y) path scope dir b st
    tells_shape a (esac at e) path scope dir b st = tells_esac functions function body types_in rows a at e (tells e) path scope dir b st
    tells_shape a (struct fs) path scope dir b st =
        let s = site_of path scope dir (term a (struct fs)) in
        subst (λ ds. T functions vars root s 0 (record_events dir a fs ++ field_events functions vars (entry_types scope) b ds fs)) (dirs_are dir)
        (tells_fields fs s b st (λ c. c) b 0 (parts_against dir) [] _ _ (record_events dir a fs) refl refl refl refl (tells_record functions root dir a fs) (flagged_start functions s b))
    tells_shape a (member e at) path scope dir b st = tells_member functions function body types_in rows a at e (tells e) path scope dir b st
    tells_shape a (take_field e at v w k) path scope dir b st = tells_take functions function body types_in rows a v w at e k (tells e) (tells k) path scope dir b st
    tells_shape a (put e at x) path scope dir b st = tells_put functions function body types_in rows a at e x (tells e) (tells x) path scope dir b st
    tells_shape a (cast e) path scope dir b st = tells_cast functions function body types_in rows a e (tells e) path scope dir b st
    tells_shape a (annot e t) path scope dir b st = tells_annot functions function body types_in rows a e t (tells e) path scope dir b st

    tells_fields : (fs : Named Place) → TellsFields fs
    tells_fields end s first st unbranched b k against front start cs es p long few stage h flags = no_fields s first st unbranched b k against front start cs es p long few stage h flags
    tells_fields (field name e fs) s first st unbranched b k against front start cs es p long few stage h flags =
        one_field name e fs (tells e) (tells_fields fs) s first st unbranched b k against front start cs es p long few stage h flags
