-- The second checker's pass beside the events of a certificate: answers in turn, places among the nodes, and contexts that agree with the
-- plain one.
use Rattle.std.proofs.Common.{◌≡◌, ℕ, zero, suc, ◌+◌, Bool, true, false, cond, Option, Some, None, Ok, List, [], ◌∷◌, ◌++◌, drop, refl, sym, ap, ◌∙◌, arith, subst, ◌&&◌}
use Rattle.std.proofs.lemmas.List.{drop-drop}
use Rattle.cg_base.specs.declared.kind.Kinds.{Kinds}
use Rattle.cg_base.specs.declared.place.Place.{Place}
use Rattle.cg_base.specs.Types.{Tau}
use Rattle.cg_cert.specs.declared.cert.CertNode.{CertNode}
use Rattle.cg_cert.specs.declared.fault.CertFault.{CertFault}
use Rattle.cg_cert.specs.declared.fault.CertFault.TheVariants.{C2, C3}
use Rattle.cg_check_laws.proofs.SameTypes.{same_is}
use Rattle.cg_core.specs.declared.derivation.Mark.{Mark}
use Rattle.cg_core.specs.declared.derivation.Mark.TheVariants.{Gone, Left, Right, Both, Seen}
use Rattle.cg_core.specs.declared.derivation.Node.{Node}
use Rattle.cg_core.specs.declared.term.Seen.{Seen as Observer}
use Rattle.cg_core.specs.Derivations.{Derivation}
use Rattle.cg_core.specs.Kernels.{Function}
use Rattle.cg_core.specs.Terms.{Shape, Note}
use Rattle.cg_faults.specs.Plain.{plain_at, banged_where}
use Rattle.cg_kinds.specs.Kinds.{bang, or_unit}
use Rattle.cg_certcheck_def.specs.Events.{Event, event, behind, marks_next, strings_at, meets, one_string, split_reached}
use Rattle.cg_certcheck_def.specs.Pass.{Out, bind, test, row, Cursor, step, made, split_at}
use Rattle.cg_certcheck_def.specs.Tests.{splits, splits_where, is_present}
use Rattle.cg_typing.specs.Contexts.{Context, look, push, first, second}
use Rattle.cg_typing.specs.Trees.{first_marks}
use Rattle.cg_check_laws.proofs.Clean.{observed_none as banged_nowhere}
use Rattle.cg_base.proofs.Truths.{both_true as left_holds, and_right as right_holds, not_true}

pub join_tests : (a b c : Bool) → ((a && b) && c) ≡ (a && (b && c))
join_tests true b c = refl
join_tests false b c = refl

-- the events of a list in turn, and then what is left
abbrev pub run : {A : Type 0} → List Event → Out A → Out A
run [] k = k
run (event fault ok ∷ xs) k = test fault ok (run xs k)

test_bind : {A B : Type 0} (fault : CertFault) (ok : Bool) (k : Out A) (h : A → Out B) → bind (test fault ok k) h ≡ test fault ok (bind k h)
test_bind fault true k h = refl
test_bind fault false k h = refl

bind_run : {A B : Type 0} (xs : List Event) (k : Out A) (h : A → Out B) → bind (run xs k) h ≡ run xs (bind k h)
bind_run [] k h = refl
bind_run (event fault ok ∷ xs) k h = test_bind fault ok (run xs k) h ∙ ap (test fault ok) (bind_run xs k h)

pub run_append : {A : Type 0} (xs ys : List Event) (k : Out A) → run (xs ++ ys) k ≡ run xs (run ys k)
run_append [] ys k = refl
run_append (event fault ok ∷ xs) ys k = ap (test fault ok) (run_append xs ys k)

-- one part and then the rest
pub next : {A B : Type 0} (o : Out A) (h : A → Out B) (xs ys : List Event) (a : A) (k : Out B) → o ≡ run xs (Ok a) → h a ≡ run ys k → bind o h ≡ run (xs ++ ys) k
next o h xs ys a k e f = ap (λ o. bind o h) e ∙ bind_run xs (Ok a) h ∙ ap (run xs) f ∙ sym (run_append xs ys k)

-- a part behind which nothing can fail
pub last_part : {A B : Type 0} (o : Out A) (h : A → Out B) (xs : List Event) (a : A) (k : Out B) → o ≡ run xs (Ok a) → h a ≡ k → bind o h ≡ run xs k
last_part o h xs a k e f = ap (λ o. bind o h) e ∙ bind_run xs (Ok a) h ∙ ap (run xs) f

-- what stands behind a test may go by it
pub guarded : {A : Type 0} (fault : CertFault) (ok : Bool) (k l : Out A) → (ok ≡ true → k ≡ l) → test fault ok k ≡ test fault ok l
guarded fault true k l h = h refl
guarded fault false k l h = refl

-- ---- a checked type is the synthesised one

abbrev pub in_direction : Option Tau → Tau → Tau
in_direction None t = t
in_direction (Some u) t = u

meets_is : (direction : Option Tau) (t : Tau) → meets direction t ≡ true → t ≡ in_direction direction t
meets_is None t h = refl
meets_is (Some u) t h = sym (same_is u t h)

-- what is made behind a test that the direction is met
pub met : (n : ℕ) (ok : Bool) (direction : Option Tau) (place : Place) (t : Tau) (shape : Shape Note) (tree : Derivation) (at : Cursor) → (ok ≡ true → meets direction t ≡ true)
    → row n ok (Ok (made place t shape tree at)) ≡ row n ok (Ok (made place (in_direction direction t) shape tree at))
met n ok direction place t shape tree at h =
    guarded (C2 n) ok _ _ (λ holds. ap (λ u. Ok (made place u shape tree at)) (meets_is direction t (h holds)))

-- ---- places among the nodes

-- so many nodes further
abbrev pub past : ℕ → Cursor → Cursor
past k at = record { nodes = drop k at.nodes; next = at.next + k }

drop_behind : (ns : List CertNode) (k : ℕ) → drop k (behind ns) ≡ drop (suc k) ns
drop_behind [] zero = refl
drop_behind [] (suc k) = refl
drop_behind (n ∷ ns) k = refl

cursor : (ns ms : List CertNode) (n m : ℕ) → ns ≡ ms → n ≡ m → ◌≡◌ {A = Cursor} (record { nodes = ns; next = n }) (record { nodes = ms; next = m })
cursor ns ms n m e f = ap (λ l. record { nodes = l; next = n }) e ∙ ap (λ k. record { nodes = ms; next = k }) f

pub past_step : (k : ℕ) (at : Cursor) → past k (step at) ≡ past (suc k) at
past_step k at = cursor _ _ _ _ (drop_behind at.nodes k) (omega arith)

pub past_past : (k l : ℕ) (at : Cursor) → past l (past k at) ≡ past (k + l) at
past_past k l at = cursor _ _ _ _ (drop-drop l k at.nodes) (omega arith)

pub step_is : (at : Cursor) → step at ≡ past 1 at
step_is at = cursor _ _ _ _ (drop_behind at.nodes 0) (omega arith)

-- behind a node with two parts, and with three
pub past_two : (k l : ℕ) (at : Cursor) → past l (past k (step at)) ≡ past (suc (k + l)) at
past_two k l at = past_past k l (step at) ∙ past_step (k + l) at

pub past_three : (k l m : ℕ) (at : Cursor) → past m (past (k + l) (step at)) ≡ past (suc (k + (l + m))) at
past_three k l m at = past_two (k + l) m at ∙ ap (λ n. past (suc n) at) (omega arith)

-- ---- contexts that agree with a plain one

abbrev pub Agree : Context → List Tau → Type 0
Agree [] [] = Unit {0}
Agree (None ∷ g) (t ∷ p) = Agree g p
Agree (Some u ∷ g) (t ∷ p) = (u ≡ t) × Agree g p
Agree _ _ = ⊥

pub agree_push : (g : Context) (p : List Tau) (t : Tau) → Agree g p → Agree (push g (Some t)) (push p t)
agree_push [] [] t h = (refl, tt {0})
agree_push (None ∷ g) (u ∷ p) t h = agree_push g p t h
agree_push (Some v ∷ g) (u ∷ p) t h = (h.0, agree_push g p t h.1)
agree_push [] (u ∷ p) t h = absurd h
agree_push (None ∷ g) [] t h = absurd h
agree_push (Some v ∷ g) [] t h = absurd h

-- the second side of a split
pub agree_second : (seen : ℕ → Bool) (m : List Mark) (g : Context) (p : List Tau) (vars : List Kinds) → splits_where vars seen m g ≡ true → Agree g p → Agree (second m g) p
agree_second seen [] [] p vars s h = h
agree_second seen (mark ∷ m) [] p vars s h = absurd (cc)
agree_second seen [] (entry ∷ g) p vars s h = absurd (cc)
agree_second seen (Gone ∷ m) (None ∷ g) (t ∷ p) vars s h = agree_second (λ i. seen (suc i)) m g p vars (right_holds _ _ s) h
agree_second seen (Gone ∷ m) (Some u ∷ g) (t ∷ p) vars s h = absurd (cc)
agree_second seen (Left ∷ m) (None ∷ g) (t ∷ p) vars s h = absurd (cc)
agree_second seen (Left ∷ m) (Some u ∷ g) (t ∷ p) vars s h = agree_second (λ i. seen (suc i)) m g p vars (right_holds _ _ s) h.1
agree_second seen (Right ∷ m) (None ∷ g) (t ∷ p) vars s h = absurd (cc)
agree_second seen (Right ∷ m) (Some u ∷ g) (t ∷ p) vars s h = (h.0, agree_second (λ i. seen (suc i)) m g p vars (right_holds _ _ s) h.1)
agree_second seen (Both ∷ m) (None ∷ g) (t ∷ p) vars s h = absurd (cc)
agree_second seen (Both ∷ m) (Some u ∷ g) (t ∷ p) vars s h = (h.0, agree_second (λ i. seen (suc i)) m g p vars (right_holds _ _ s) h.1)
agree_second seen (Seen ∷ m) (None ∷ g) (t ∷ p) vars s h = absurd (cc)
agree_second seen (Seen ∷ m) (Some u ∷ g) (t ∷ p) vars s h = (h.0, agree_second (λ i. seen (suc i)) m g p vars (right_holds _ _ s) h.1)
agree_second seen (mark ∷ m) (None ∷ g) [] vars s h = absurd h
agree_second seen (mark ∷ m) (Some u ∷ g) [] vars s h = absurd h

kept_type : (b : Bool) (u t : Tau) → b ≡ false → u ≡ t → u ≡ cond b (bang t) t
kept_type true u t h e = absurd (cc)
kept_type false u t h e = e

seen_type : (b : Bool) (u t : Tau) → b ≡ true → u ≡ t → bang u ≡ cond b (bang t) t
seen_type true u t h e = ap bang e
seen_type false u t h e = absurd (cc)

pub agree_first : (seen : ℕ → Bool) (m : List Mark) (g : Context) (p : List Tau) (vars : List Kinds) → splits_where vars seen m g ≡ true → Agree g p → Agree (first m g) (banged_where seen p)
agree_first seen [] [] [] vars s h = tt {0}
agree_first seen [] [] (t ∷ p) vars s h = absurd h
agree_first seen (mark ∷ m) [] p vars s h = absurd (cc)
agree_first seen [] (entry ∷ g) p vars s h = absurd (cc)
agree_first seen (Gone ∷ m) (None ∷ g) (t ∷ p) vars s h = agree_first (λ i. seen (suc i)) m g p vars (right_holds _ _ s) h
agree_first seen (Gone ∷ m) (Some u ∷ g) (t ∷ p) vars s h = absurd (cc)
agree_first seen (Left ∷ m) (None ∷ g) (t ∷ p) vars s h = absurd (cc)
agree_first seen (Left ∷ m) (Some u ∷ g) (t ∷ p) vars s h =
    (kept_type (seen zero) u t (not_true (seen zero) (left_holds _ _ s)) h.0, agree_first (λ i. seen (suc i)) m g p vars (right_holds _ _ s) h.1)
agree_first seen (Right ∷ m) (None ∷ g) (t ∷ p) vars s h = absurd (cc)
agree_first seen (Right ∷ m) (Some u ∷ g) (t ∷ p) vars s h = agree_first (λ i. seen (suc i)) m g p vars (right_holds _ _ s) h.1
agree_first seen (Both ∷ m) (None ∷ g) (t ∷ p) vars s h = absurd (cc)
agree_first seen (Both ∷ m) (Some u ∷ g) (t ∷ p) vars s h =
    (kept_type (seen zero) u t (not_true (seen zero) (right_holds _ _ (left_holds _ _ s))) h.0, agree_first (λ i. seen (suc i)) m g p vars (right_holds _ _ s) h.1)
agree_first seen (Seen ∷ m) (None ∷ g) (t ∷ p) vars s h = absurd (cc)
agree_first seen (Seen ∷ m) (Some u ∷ g) (t ∷ p) vars s h =
    (seen_type (seen zero) u t (left_holds _ _ s) h.0, agree_first (λ i. seen (suc i)) m g p vars (right_holds _ _ s) h.1)
agree_first seen (mark ∷ m) (None ∷ g) [] vars s h = absurd h
agree_first seen (mark ∷ m) (Some u ∷ g) [] vars s h = absurd h

pub agree_left : (m : List Mark) (g : Context) (p : List Tau) (vars : List Kinds) → splits vars [] m g ≡ true → Agree g p → Agree (first m g) p
agree_left m g p vars s h = subst (λ q. Agree (first m g) q) (banged_nowhere p) (agree_first (λ i. false) m g p vars s h)

-- the type of a variable that is present
pub look_is : (g : Context) (p : List Tau) (i : ℕ) → Agree g p → is_present (look g i) ≡ true → or_unit (look g i) ≡ plain_at p i
look_is [] p i h e = absurd (cc)
look_is (None ∷ g) (t ∷ p) zero h e = absurd (cc)
look_is (Some u ∷ g) (t ∷ p) zero h e = h.0
look_is (None ∷ g) (t ∷ p) (suc i) h e = look_is g p i h e
look_is (Some u ∷ g) (t ∷ p) (suc i) h e = look_is g p i h.1 e
look_is (None ∷ g) [] i h e = absurd h
look_is (Some u ∷ g) [] i h e = absurd h

-- ---- nodes with one mark string

module _ (functions : List Function) (vars : List Kinds) where
  string_splits : (observers : List Observer) (strings : List (List Mark)) (g : Context) → one_string vars observers strings g ≡ true
      → splits vars observers (first_marks strings) g ≡ true
  string_splits observers [] g h = absurd (cc)
  string_splits observers (s ∷ []) g h = h
  string_splits observers (s ∷ t ∷ strings) g h = absurd (cc)

  -- what stands behind such a node may go by the split
  pub split_is : {A : Type 0} (observers : List Observer) (g : Context) (node : Node) (at : Cursor) (k : List Mark → Out A) (ys : List Event) (l : Out A)
      → (splits vars observers (marks_next at.nodes) g ≡ true → k (marks_next at.nodes) ≡ run ys l)
      → split_at functions vars observers g node at k ≡ run (split_reached vars at.next at.nodes node observers g ++ ys) l
  split_is observers g node at k ys l h =
      ap (test (C3 at.next) _) (guarded (C2 at.next) _ _ _ (λ e. h (string_splits observers (strings_at at.nodes) g (right_holds _ _ e))))
