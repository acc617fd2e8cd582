-- The second checker's pass beside the events: operators, over what each operand answers in a direction.
use Rattle.std.proofs.Common.{◌≡◌, ℕ, suc, Bool, true, false, ◌&&◌, not, cond, Option, Some, None, Ok, List, refl, sym, ap, ◌∙◌}
use Rattle.cg_base.specs.declared.kind.Kinds.{Kinds}
use Rattle.cg_base.specs.declared.place.Place.{Place}
use Rattle.cg_base.specs.Types as types
use Rattle.cg_base.specs.Types.{Tau}
use Rattle.cg_check_def.specs.NormalForm.{noted, operand_type}
use Rattle.cg_core.specs.declared.derivation.Mark.{Mark}
use Rattle.cg_core.specs.declared.derivation.Node.TheVariants as nodes
use Rattle.cg_core.specs.declared.op.Op.{Op}
use Rattle.cg_core.specs.Derivations.{Derivation}
use Rattle.cg_core.specs.Kernels.{Function}
use Rattle.cg_core.specs.Terms.{Tree, term, lit, op, none, more, Note}
use Rattle.cg_kinds.specs.Kinds.{is_word}
use Rattle.cg_certcheck_def.specs.Events.{Event, behind, meets, unary_events, binary_events, guided_reached, guided_number}
use Rattle.cg_certcheck_def.specs.Pass.{row, Cursor, step, Got, Way, made, unary, binary, operated_both, reach_literal}
use Rattle.cg_certcheck_laws.proofs.PassSteps.{run, next, last_part, met, in_direction}
use Rattle.cg_typing.specs.Contexts.{Context}
use Rattle.cg_typing.specs.Operators.{Sort, arithmetic, equality, order, logic, takes, gives, operand}
use Rattle.cg_typing.specs.Trees.{leaf, one, two}
use Rattle.cg_base.proofs.Truths.{and_right as right_holds}

-- an operand of a type, a core in each direction, and a derivation, behind which the pass stands here
abbrev pub operand_value : Tau → (Option Tau → Tree Note) → Derivation → Cursor → Option Tau → Got
operand_value t c d to way = record { ty = in_direction way t; core = c way; tree = d; at = to }

module _ (functions : List Function) (vars : List Kinds) (o : Op) (place : Place) (at to : Cursor) (x : Way) (part : Option Tau → List Event) (a : Tau) (c : Option Tau → Tree Note) (d : Derivation)
    (answers : (way : Option Tau) → x (step at) way ≡ run (part way) (Ok (operand_value a c d to way))) where
  abbrev X : Option Tau → Got
  X = operand_value a c d to

  abbrev Whole : Option Tau → Tau → Got
  Whole way t = made place t (op o (more (c way) none)) (one nodes.Op d) to

  pub unary_is : (sort : Sort) (dir : Option Tau)
      → unary sort o dir place at x ≡ run (unary_events sort dir at.next a part) (Ok (Whole (operand sort dir true (operand_type sort dir a)) (in_direction dir (gives sort a))))
  unary_is logic dir =
      next (x (step at) (Some types.bool)) _ (part (Some types.bool)) _ (X (Some types.bool)) _ (answers (Some types.bool))
      (met at.next (meets dir types.bool) dir place types.bool _ _ to (λ h. h))
  unary_is arithmetic (Some t) = ap (row at.next (is_word t)) (last_part (x (step at) (Some t)) _ (part (Some t)) (X (Some t)) _ (answers (Some t)) refl)
  unary_is arithmetic None = next (x (step at) None) _ (part None) _ (X None) _ (answers None) refl
  unary_is equality dir =
      next (x (step at) None) _ (part None) _ (X None) _ (answers None)
      (met at.next (takes equality a && meets dir types.bool) dir place types.bool _ _ to (right_holds (takes equality a) (meets dir types.bool)))
  unary_is order dir =
      next (x (step at) None) _ (part None) _ (X None) _ (answers None)
      (met at.next (takes order a && meets dir types.bool) dir place types.bool _ _ to (right_holds (takes order a) (meets dir types.bool)))

module _ (functions : List Function) (vars : List Kinds) (m : List Mark) (o : Op) (place note : Place) (value : Option ℕ) (g : Context) (at mid to : Cursor) (l r : Way)
    (left right : Option Tau → List Event) (a b : Tau) (cl cr : Option Tau → Tree Note) (dl dr : Derivation)
    (pl : (way : Option Tau) → l (step at) way ≡ run (left way) (Ok (operand_value a cl dl mid way)))
    (pr : (way : Option Tau) → r mid way ≡ run (right way) (Ok (operand_value b cr dr to way))) where
  abbrev L : Option Tau → Got
  L = operand_value a cl dl mid

  abbrev R : Option Tau → Got
  R = operand_value b cr dr to

  abbrev Both : Option Tau → Option Tau → Tau → Got
  Both v w t = made place t (op o (more (cl v) (more (cr w) none))) (two nodes.Op m dl dr) to

  -- where the left operand is a literal: the right one is reached behind its node, and it has this core and derivation
  pub record Literal (q : Bool) : Type 0 where
    pub guide : q ≡ true → (way : Option Tau) → r (step (step at)) way ≡ run (right way) (Ok (R way))
    pub core : q ≡ true → cl (Some b) ≡ term (noted note b) (lit value)
    pub tree : q ≡ true → dl ≡ leaf nodes.Lit

  abbrev Kind : Sort → Option Tau → Bool → Tau
  Kind sort dir q = operand_type sort dir (cond q b a)

  abbrev Reaches : List Event
  Reaches = guided_reached vars (suc at.next) (behind at.nodes) g

  abbrev Number : Tau → List Event
  Number t = guided_number (suc at.next) value t

  bool_is : (v w dir : Option Tau) → row at.next (meets dir types.bool) (Ok (Both v w types.bool)) ≡ row at.next (meets dir types.bool) (Ok (Both v w (in_direction dir types.bool)))
  bool_is v w dir = met at.next (meets dir types.bool) dir place types.bool _ _ to (λ h. h)

  -- the literal in its place
  literal_in : (f : Literal true) (t : Tau) → operated_both m o place t (made note b (lit value) (leaf nodes.Lit) (step (step at))) (R None) to ≡ Both (Some b) None t
  literal_in f t =
      ap (λ c. made place t (op o (more c (more (cr None) none))) (two nodes.Op m (leaf nodes.Lit) dr) to) (sym (f.core refl))
      ∙ ap (λ d. made place t (op o (more (cl (Some b)) (more (cr None) none))) (two nodes.Op m d dr) to) (sym (f.tree refl))

  -- behind the guide
  guided_bool : (f : Literal true) (dir : Option Tau)
      → row at.next (meets dir types.bool) (Ok (operated_both m o place types.bool (made note b (lit value) (leaf nodes.Lit) (step (step at))) (R None) to))
      ≡ row at.next (meets dir types.bool) (Ok (Both (Some b) None (in_direction dir types.bool)))
  guided_bool f dir = ap (λ u. row at.next (meets dir types.bool) (Ok u)) (literal_in f types.bool) ∙ bool_is (Some b) None dir

  pub binary_is : (sort : Sort) (dir : Option Tau) (q : Bool) → Literal q
      → binary functions vars m sort o dir place q note value g at l r ≡ run (binary_events sort dir at.next q a b left right Reaches Number)
      (Ok (Both (operand sort dir (not q) (Kind sort dir q)) (operand sort dir q (Kind sort dir q)) (in_direction dir (gives sort (cond q b a)))))
  binary_is logic dir q f =
      next (l (step at) (Some types.bool)) _ (left (Some types.bool)) _ (L (Some types.bool)) _ (pl (Some types.bool))
      (next (r mid (Some types.bool)) _ (right (Some types.bool)) _ (R (Some types.bool)) _ (pr (Some types.bool)) (bool_is (Some types.bool) (Some types.bool) dir))
  binary_is arithmetic (Some t) true f =
      ap (row at.next (is_word t)) (next (l (step at) (Some t)) _ (left (Some t)) (right (Some t)) (L (Some t)) _ (pl (Some t))
      (last_part (r mid (Some t)) _ (right (Some t)) (R (Some t)) _ (pr (Some t)) refl))
  binary_is arithmetic (Some t) false f =
      ap (row at.next (is_word t)) (next (l (step at) (Some t)) _ (left (Some t)) (right (Some t)) (L (Some t)) _ (pl (Some t))
      (last_part (r mid (Some t)) _ (right (Some t)) (R (Some t)) _ (pr (Some t)) refl))
  binary_is arithmetic None true f =
      ap (reach_literal functions vars g (step at)) (next (r (step (step at)) None) _ (right None) _ (R None) _ (f.guide refl None)
      (ap (λ u. row at.next (is_word b) (run (Number b) (Ok u))) (literal_in f b)))
  binary_is arithmetic None false f =
      next (l (step at) None) _ (left None) _ (L None) _ (pl None)
      (ap (row at.next (is_word a)) (last_part (r mid (Some a)) _ (right (Some a)) (R (Some a)) _ (pr (Some a)) refl))
  binary_is equality dir true f =
      ap (reach_literal functions vars g (step at)) (next (r (step (step at)) None) _ (right None) _ (R None) _ (f.guide refl None)
      (ap (λ u. row at.next (takes equality b) (run (Number b) u)) (guided_bool f dir)))
  binary_is equality dir false f =
      next (l (step at) None) _ (left None) _ (L None) _ (pl None)
      (ap (row at.next (takes equality a)) (next (r mid (Some a)) _ (right (Some a)) _ (R (Some a)) _ (pr (Some a)) (bool_is None (Some a) dir)))
  binary_is order dir true f =
      ap (reach_literal functions vars g (step at)) (next (r (step (step at)) None) _ (right None) _ (R None) _ (f.guide refl None)
      (ap (λ u. row at.next (takes order b) (run (Number b) u)) (guided_bool f dir)))
  binary_is order dir false f =
      next (l (step at) None) _ (left None) _ (L None) _ (pl None)
      (ap (row at.next (takes order a)) (next (r mid (Some a)) _ (right (Some a)) _ (R (Some a)) _ (pr (Some a)) (bool_is None (Some a) dir)))
