-- The events of an operator say of its operands what its row asks: in which direction each stands, and of which type it is.
use Rattle.std.proofs.Common.{ap, ◌∙◌, ◌≡◌, ℕ, Bool, true, false, not, cond, Option, Some, None, List, [], ◌∷◌, ◌++◌, refl}
use Rattle.cg_base.specs.declared.kind.Kinds.{Kinds}
use Rattle.cg_base.specs.declared.place.Place.{Place}
use Rattle.cg_base.specs.Types as types
use Rattle.cg_base.specs.Types.{Tau}
use Rattle.cg_core.specs.Kernels.{Function}
use Rattle.cg_core.specs.Terms.{Tree}
use Rattle.cg_faults.specs.Plain.{plain, plain_in}
use Rattle.cg_check_def.specs.NormalForm.{operand_type}
use Rattle.cg_certcheck_def.specs.Events.{Event, AllHold, unary_events, binary_events, meets, row}
use Rattle.cg_typing.specs.Operators.{Sort, arithmetic, equality, order, logic, takes, gives, operand}
use Rattle.cg_check_laws.proofs.SoundParts.{operand_is, way_is}
use Rattle.cg_certcheck_laws.proofs.Rows.{HoldFor, hold_append, hold_left, hold_right, met_is, is_met}
use Rattle.cg_check_laws.proofs.SameTypes.{and_refl as both_and}
use Rattle.cg_base.proofs.Truths.{both as and_both}

-- the type that an operand has in its direction: of the one of a sort with one, of the left one, and of the right one
pub one_type : (functions : List Function) (p : List Tau) (x : Tree Place) (sort : Sort) (direction : Option Tau)
    → plain_in functions p (operand sort direction true (operand_type sort direction (plain functions p x))) x ≡ operand_is sort (operand_type sort direction (plain functions p x))
one_type functions p x logic direction = refl
one_type functions p x arithmetic None = refl
one_type functions p x arithmetic (Some t) = refl
one_type functions p x equality direction = refl
one_type functions p x order direction = refl

-- the type of both operands, of which the right one is the guide or not
abbrev pub common : List Function → List Tau → Tree Place → Tree Place → Sort → Option Tau → Bool → Tau
common functions p l r sort direction q = operand_type sort direction (cond q (plain functions p r) (plain functions p l))

pub left_type : (functions : List Function) (p : List Tau) (l r : Tree Place) (sort : Sort) (direction : Option Tau) (q : Bool)
    → plain_in functions p (operand sort direction (not q) (common functions p l r sort direction q)) l ≡ operand_is sort (common functions p l r sort direction q)
left_type functions p l r logic direction q = refl
left_type functions p l r arithmetic None true = refl
left_type functions p l r arithmetic None false = refl
left_type functions p l r arithmetic (Some t) true = refl
left_type functions p l r arithmetic (Some t) false = refl
left_type functions p l r equality direction true = refl
left_type functions p l r equality direction false = refl
left_type functions p l r order direction true = refl
left_type functions p l r order direction false = refl

pub right_type : (functions : List Function) (p : List Tau) (l r : Tree Place) (sort : Sort) (direction : Option Tau) (q : Bool)
    → plain_in functions p (operand sort direction q (common functions p l r sort direction q)) r ≡ operand_is sort (common functions p l r sort direction q)
right_type functions p l r logic direction q = refl
right_type functions p l r arithmetic None true = refl
right_type functions p l r arithmetic None false = refl
right_type functions p l r arithmetic (Some t) true = refl
right_type functions p l r arithmetic (Some t) false = refl
right_type functions p l r equality direction true = refl
right_type functions p l r equality direction false = refl
right_type functions p l r order direction true = refl
right_type functions p l r order direction false = refl

-- each stands in the direction of its type
pub one_way : (functions : List Function) (p : List Tau) (x : Tree Place) (sort : Sort) (direction : Option Tau)
    → operand sort direction true (plain_in functions p (operand sort direction true (operand_type sort direction (plain functions p x))) x)
    ≡ operand sort direction true (operand_type sort direction (plain functions p x))
one_way functions p x sort direction = ap (λ u. operand sort direction true u) (one_type functions p x sort direction) ∙ way_is sort direction true (operand_type sort direction (plain functions p x))

pub left_way : (functions : List Function) (p : List Tau) (l r : Tree Place) (sort : Sort) (direction : Option Tau) (q : Bool)
    → operand sort direction (not q) (plain_in functions p (operand sort direction (not q) (common functions p l r sort direction q)) l)
    ≡ operand sort direction (not q) (common functions p l r sort direction q)
left_way functions p l r sort direction q = ap (λ u. operand sort direction (not q) u) (left_type functions p l r sort direction q) ∙ way_is sort direction (not q) (common functions p l r sort direction q)

pub right_way : (functions : List Function) (p : List Tau) (l r : Tree Place) (sort : Sort) (direction : Option Tau) (q : Bool)
    → operand sort direction q (plain_in functions p (operand sort direction q (common functions p l r sort direction q)) r)
    ≡ operand sort direction q (common functions p l r sort direction q)
right_way functions p l r sort direction q = ap (λ u. operand sort direction q u) (right_type functions p l r sort direction q) ∙ way_is sort direction q (common functions p l r sort direction q)

-- ---- one operand

module _ (functions : List Function) (vars : List Kinds) (p : List Tau) (n : ℕ) (x whole : Tree Place) (part : Option Tau → List Event) where
  abbrev pub one : Sort → Option Tau → Tau
  one sort direction = operand_type sort direction (plain functions p x)

  -- what the row asks of the operand: its events hold in the direction that its core has, and its type may stand there
  pub record OneHolds (Hold : List Event → Type 0) (sort : Sort) (direction : Option Tau) : Type 0 where
    pub holds : Hold (part (operand sort direction true (one sort direction)))
    pub takes : takes sort (operand_is sort (one sort direction)) ≡ true
    pub result : plain_in functions p direction whole ≡ gives sort (operand_is sort (one sort direction))

  -- the events say that
  pub one_holds : (sort : Sort) (direction : Option Tau) → plain functions p whole ≡ gives sort (plain functions p x)
      → AllHold (unary_events sort direction n (plain functions p x) part) → OneHolds AllHold sort direction
  one_holds logic direction is h =
      record { holds = hold_left _ _ h; takes = refl; result = met_is functions p direction whole types.bool is (hold_right (part (Some types.bool)) _ h).0 }
  one_holds arithmetic (Some t) is h = record { holds = h.1; takes = h.0; result = refl }
  one_holds arithmetic None is h = record { holds = hold_left _ _ h; takes = (hold_right (part None) _ h).0; result = is }
  one_holds equality direction is h =
      let q = and_both (takes equality (plain functions p x)) _ (hold_right (part None) _ h).0 in
      record { holds = hold_left _ _ h; takes = q.0; result = met_is functions p direction whole types.bool is q.1 }
  one_holds order direction is h =
      let q = and_both (takes order (plain functions p x)) _ (hold_right (part None) _ h).0 in
      record { holds = hold_left _ _ h; takes = q.0; result = met_is functions p direction whole types.bool is q.1 }

  -- and nothing else
  pub one_ok : (limited : Bool) (sort : Sort) (direction : Option Tau) → OneHolds (HoldFor limited) sort direction → HoldFor limited (unary_events sort direction n (plain functions p x) part)
  one_ok limited logic direction h = hold_append limited (part (Some types.bool)) _ h.holds (is_met functions p direction whole types.bool h.result, tt)
  one_ok limited arithmetic (Some t) h = (h.takes, h.holds)
  one_ok limited arithmetic None h = hold_append limited (part None) _ h.holds (h.takes, tt)
  one_ok limited equality direction h =
      hold_append limited (part None) _ h.holds (both_and (takes equality (plain functions p x)) _ h.takes (is_met functions p direction whole types.bool h.result), tt)
  one_ok limited order direction h = hold_append limited (part None) _ h.holds (both_and (takes order (plain functions p x)) _ h.takes (is_met functions p direction whole types.bool h.result), tt)

-- ---- two operands

-- where the left operand is a literal, it is reached and judged as a number before and behind its guide
pub record IsGuided (left : Option Tau → List Event) (reaches : List Event) (number : Tau → List Event) : Type 0 where
  pub together : (t : Tau) → AllHold reaches → AllHold (number t) → AllHold (left (Some t))
  pub reached : (limited : Bool) (t : Tau) → HoldFor limited (left (Some t)) → HoldFor limited reaches
  pub judged : (limited : Bool) (t : Tau) → HoldFor limited (left (Some t)) → HoldFor limited (number t)

module _ (functions : List Function) (vars : List Kinds) (p : List Tau) (n : ℕ) (l r whole : Tree Place) (left right : Option Tau → List Event) (reaches : List Event)
    (number : Tau → List Event) where
  abbrev a : Tau
  a = plain functions p l

  abbrev b : Tau
  b = plain functions p r

  abbrev two : Sort → Option Tau → Bool → Tau
  two sort direction q = common functions p l r sort direction q

  -- the same of both operands
  pub record TwoHold (Hold : List Event → Type 0) (sort : Sort) (direction : Option Tau) (q : Bool) : Type 0 where
    pub left_holds : Hold (left (operand sort direction (not q) (two sort direction q)))
    pub right_holds : Hold (right (operand sort direction q (two sort direction q)))
    pub takes : takes sort (operand_is sort (two sort direction q)) ≡ true
    pub result : plain_in functions p direction whole ≡ gives sort (operand_is sort (two sort direction q))

  -- a comparison
  compare_hold : (limited : Bool) (sort : Sort) (direction : Option Tau) (t : Tau) (first second : List Event) → HoldFor limited first → takes sort t ≡ true → HoldFor limited second
      → plain_in functions p direction whole ≡ types.bool → HoldFor limited (first ++ (row n (takes sort t) ∷ (second ++ (row n (meets direction types.bool) ∷ []))))
  compare_hold limited sort direction t first second h k i is = hold_append limited first _ h (k, hold_append limited second _ i (is_met functions p direction whole types.bool is, tt))

  -- the events say that, where the left operand is a literal that is guided as well
  pub two_hold : (sort : Sort) (direction : Option Tau) (q : Bool) → (q ≡ true → IsGuided left reaches number) → plain functions p whole ≡ gives sort (cond q b a)
      → AllHold (binary_events sort direction n q a b left right reaches number) → TwoHold AllHold sort direction q
  two_hold logic direction q guided is h =
      let h1 = hold_right (left (Some types.bool)) _ h in
      record {
        left_holds = hold_left _ _ h;
        right_holds = hold_left _ _ h1;
        takes = refl;
        result = met_is functions p direction whole types.bool is (hold_right (right (Some types.bool)) _ h1).0;
      }
  two_hold arithmetic (Some t) true guided is h =
      record { left_holds = hold_left _ _ h.1; right_holds = hold_right (left (Some t)) _ h.1; takes = h.0; result = refl }
  two_hold arithmetic (Some t) false guided is h =
      record { left_holds = hold_left _ _ h.1; right_holds = hold_right (left (Some t)) _ h.1; takes = h.0; result = refl }
  two_hold arithmetic None true guided is h =
      let h1 = hold_right reaches _ h in let h2 = hold_right (right None) _ h1 in
      record { left_holds = (guided refl).together b (hold_left _ _ h) h2.1; right_holds = hold_left _ _ h1; takes = h2.0; result = is }
  two_hold arithmetic None false guided is h =
      let h1 = hold_right (left None) _ h in
      record { left_holds = hold_left _ _ h; right_holds = h1.1; takes = h1.0; result = is }
  two_hold equality direction true guided is h =
      let h1 = hold_right reaches _ h in let h2 = hold_right (right None) _ h1 in
      record {
        left_holds = (guided refl).together b (hold_left _ _ h) (hold_left (number b) _ h2.1);
        right_holds = hold_left _ _ h1;
        takes = h2.0;
        result = met_is functions p direction whole types.bool is (hold_right (number b) _ h2.1).0;
      }
  two_hold equality direction false guided is h =
      let h1 = hold_right (left None) _ h in
      record {
        left_holds = hold_left _ _ h;
        right_holds = hold_left _ _ h1.1;
        takes = h1.0;
        result = met_is functions p direction whole types.bool is (hold_right (right (Some a)) _ h1.1).0;
      }
  two_hold order direction true guided is h =
      let h1 = hold_right reaches _ h in let h2 = hold_right (right None) _ h1 in
      record {
        left_holds = (guided refl).together b (hold_left _ _ h) (hold_left (number b) _ h2.1);
        right_holds = hold_left _ _ h1;
        takes = h2.0;
        result = met_is functions p direction whole types.bool is (hold_right (number b) _ h2.1).0;
      }
  two_hold order direction false guided is h =
      let h1 = hold_right (left None) _ h in
      record {
        left_holds = hold_left _ _ h;
        right_holds = hold_left _ _ h1.1;
        takes = h1.0;
        result = met_is functions p direction whole types.bool is (hold_right (right (Some a)) _ h1.1).0;
      }

  -- and nothing else
  pub two_ok : (limited : Bool) (sort : Sort) (direction : Option Tau) (q : Bool) → (q ≡ true → IsGuided left reaches number) → TwoHold (HoldFor limited) sort direction q
      → HoldFor limited (binary_events sort direction n q a b left right reaches number)
  two_ok limited logic direction q guided h =
      hold_append limited (left (Some types.bool)) _ h.left_holds (hold_append limited (right (Some types.bool)) _ h.right_holds (is_met functions p direction whole types.bool h.result, tt))
  two_ok limited arithmetic (Some t) true guided h = (h.takes, hold_append limited (left (Some t)) _ h.left_holds h.right_holds)
  two_ok limited arithmetic (Some t) false guided h = (h.takes, hold_append limited (left (Some t)) _ h.left_holds h.right_holds)
  two_ok limited arithmetic None true guided h =
      let g = guided refl in hold_append limited reaches _ (g.reached limited b h.left_holds) (hold_append limited (right None) _ h.right_holds (h.takes, g.judged limited b h.left_holds))
  two_ok limited arithmetic None false guided h = hold_append limited (left None) _ h.left_holds (h.takes, h.right_holds)
  two_ok limited equality direction true guided h =
      let g = guided refl in
      hold_append limited reaches _ (g.reached limited b h.left_holds) (compare_hold limited equality direction b (right None) (number b) h.right_holds h.takes (g.judged limited b h.left_holds) h.result)
  two_ok limited equality direction false guided h = compare_hold limited equality direction a (left None) (right (Some a)) h.left_holds h.takes h.right_holds h.result
  two_ok limited order direction true guided h =
      let g = guided refl in
      hold_append limited reaches _ (g.reached limited b h.left_holds) (compare_hold limited order direction b (right None) (number b) h.right_holds h.takes (g.judged limited b h.left_holds) h.result)
  two_ok limited order direction false guided h = compare_hold limited order direction a (left None) (right (Some a)) h.left_holds h.takes h.right_holds h.result
