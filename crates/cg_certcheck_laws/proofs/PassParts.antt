-- The second checker's pass answers the first event that fails: leaves, operators and nodes with one part.
use Rattle.std.proofs.Common.{◌≡◌, ℕ, suc, Bool, true, false, ◌&&◌, Option, Some, None, Ok, List, [], ◌∷◌, ◌++◌, refl, sym, ap, ◌∙◌, arith, subst}
use Rattle.cg_base.specs.declared.fun.Fun.{Fun}
use Rattle.cg_base.specs.declared.kind.Kinds.{Kinds}
use Rattle.cg_base.specs.declared.place.Place.{Place}
use Rattle.cg_base.specs.Types as types
use Rattle.cg_base.specs.Types.{Tau}
use Rattle.cg_cert.specs.declared.cert.CertNode.{CertNode}
use Rattle.cg_check_def.specs.NormalForm.{noted, core, core_shape}
use Rattle.cg_core.specs.declared.at.At.{At}
use Rattle.cg_core.specs.declared.derivation.Node.{Node}
use Rattle.cg_core.specs.declared.derivation.Node.TheVariants as nodes
use Rattle.cg_core.specs.declared.op.Op.{Op}
use Rattle.cg_core.specs.Kernels.{Function}
use Rattle.cg_core.specs.Terms.{Tree, term, Shape, var, unit, bool, lit, fun, op, con, esac, member, cast, annot, none, more, Arg}
use Rattle.cg_faults.specs.Plain.{plain, plain_in, plain_at, mentioned}
use Rattle.cg_kinds.specs.Kinds.{or_unit}
use Rattle.cg_certcheck_def.specs.Events as tests
use Rattle.cg_certcheck_def.specs.Events.{Event, behind, marks_next, size, no_strings, meets, is_number, is_alternative, alternative_held, is_cast, value_of, unary_events, binary_events, guided_reached, guided_number, events, events_shape}
use Rattle.cg_certcheck_def.specs.Pass.{Out, bind, wanted, row, reach, Cursor, step, Got, made, binary, check, check_shape}
use Rattle.cg_certcheck_def.specs.Reads.{tree_at, tree_of}
use Rattle.cg_certcheck_def.specs.Tests.{is_present, drops_all, drops_but}
use Rattle.cg_certcheck_laws.proofs.PassOperators.{operand_value, unary_is, binary_is}
use Rattle.cg_certcheck_laws.proofs.PassSteps.{join_tests, run, next, last_part, met, in_direction, past, past_step, past_two, step_is, Agree, agree_left, agree_second, look_is, split_is}
use Rattle.cg_typing.specs.Contexts.{Context, look, first, second, shares}
use Rattle.cg_typing.specs.Functions.{asked_by, are_good_arguments}
use Rattle.cg_typing.specs.Operators.{sort_of}
use Rattle.cg_typing.specs.Parts.{is_left, is_last, field_in, alternative_in, held, has_word_arrays}
use Rattle.cg_typing.specs.Rules.{is_literal, note_at}
use Rattle.cg_typing.specs.Trees.{leaf, one}
use Rattle.cg_base.proofs.Truths.{and_right as right_holds}

module _ (functions : List Function) (vars : List Kinds) where
  -- what a term comes to where its events hold
  abbrev pub value : List Tau → Option Tau → Cursor → Tree Place → Got
  value p direction at e =
      record { ty = plain_in functions p direction e; core = core functions p direction e; tree = tree_at at.nodes e; at = past (size e) at }

  -- the pass over a term answers what its events say, and what the term comes to
  abbrev pub Passes : Tree Place → Type 0
  Passes e = (g : Context) (p : List Tau) (direction : Option Tau) (at : Cursor) → Agree g p
      → check functions vars g direction at e ≡ run (events functions vars g p direction at.nodes at.next e) (Ok (value p direction at e))

  abbrev pub PassesShape : Place → Shape Place → Type 0
  PassesShape a s = (g : Context) (p : List Tau) (direction : Option Tau) (at : Cursor) → Agree g p
      → check_shape functions vars g direction at a s ≡ run (events_shape functions vars g p direction at.nodes at.next s) (Ok (value p direction at (term a s)))

  -- a part that stands at another name of its place
  pub moved : (e : Tree Place) → Passes e → (g : Context) (p : List Tau) (direction : Option Tau) (at to : Cursor) → at ≡ to → Agree g p
      → check functions vars g direction at e ≡ run (events functions vars g p direction to.nodes to.next e) (Ok (value p direction to e))
  moved e pe g p direction at to h agree =
      subst (λ c. check functions vars g direction at e ≡ run (events functions vars g p direction c.nodes c.next e) (Ok (value p direction c e))) h (pe g p direction at agree)

  pub in_is : (p : List Tau) (dir : Option Tau) (e : Tree Place) → in_direction dir (plain functions p e) ≡ plain_in functions p dir e
  in_is p None e = refl
  in_is p (Some u) e = refl

  pub got : (p : List Tau) (dir : Option Tau) (a : Place) (s : Shape Place) (t : Tau) (at to : Cursor) → t ≡ plain_in functions p dir (term a s) → to ≡ past (size (term a s)) at
      → ◌≡◌ {A = Out Got} (Ok (made a t (core_shape functions p dir s) (tree_of at.nodes s) to)) (Ok (value p dir at (term a s)))
  got p dir a s t at to h j =
      ap (λ z. Ok (made a z (core_shape functions p dir s) (tree_of at.nodes s) to)) h
      ∙ ap (λ z. Ok (made a (plain_in functions p dir (term a s)) (core_shape functions p dir s) (tree_of at.nodes s) z)) j

  -- what a node that synthesises ends with
  pub meets_got : (ok : Bool) (p : List Tau) (dir : Option Tau) (a : Place) (s : Shape Place) (at to : Cursor) → (ok ≡ true → meets dir (plain functions p (term a s)) ≡ true)
      → to ≡ past (size (term a s)) at
      → row at.next ok (Ok (made a (plain functions p (term a s)) (core_shape functions p dir s) (tree_of at.nodes s) to)) ≡ row at.next ok (Ok (value p dir at (term a s)))
  meets_got ok p dir a s at to h j =
      met at.next ok dir a (plain functions p (term a s)) _ _ to h ∙ ap (row at.next ok) (got p dir a s _ at to (in_is p dir (term a s)) j)

  -- ---- leaves

  abbrev Reach : Cursor → Node → Out Got → Out Got
  Reach at node k = reach at node (no_strings at.nodes) k

  var_is : (q d : Bool) (n : ℕ) (t u : Tau) (dir : Option Tau) (k : Tau → Out Got) → (q ≡ true → t ≡ u)
      → row n ((q && d) && meets dir t) (k t) ≡ row n (q && (d && meets dir u)) (k u)
  var_is true d n t u dir k h = ap (λ v. row n (d && meets dir v) (k v)) (h refl)
  var_is false d n t u dir k h = refl

  pub pass_var : (a : Place) (i : ℕ) → PassesShape a (var i)
  pass_var a i g p dir at h =
      ap (Reach at nodes.Var)
      (var_is (is_present (look g i)) (drops_but vars i g) at.next (or_unit (look g i)) (plain_at p i) dir (λ t. Ok (made a t (var i) (leaf nodes.Var) (step at))) (look_is g p i h)
      ∙ meets_got (is_present (look g i) && (drops_but vars i g && meets dir (plain_at p i))) p dir a (var i) at (step at)
      (λ e. right_holds (drops_but vars i g) _ (right_holds (is_present (look g i)) _ e)) (step_is at))

  pub pass_unit : (a : Place) → PassesShape a unit
  pass_unit a g p dir at h =
      ap (Reach at nodes.Unit) (meets_got (drops_all vars g && meets dir types.unit) p dir a unit at (step at) (right_holds (drops_all vars g) _) (step_is at))

  pub pass_bool : (a : Place) (b : Bool) → PassesShape a (bool b)
  pass_bool a b g p dir at h =
      ap (Reach at nodes.Bool) (meets_got (drops_all vars g && meets dir types.bool) p dir a (bool b) at (step at) (right_holds (drops_all vars g) _) (step_is at))

  pub pass_lit : (a : Place) (v : Option ℕ) → PassesShape a (lit v)
  pass_lit a v g p None at h = ap (λ k. Reach at nodes.Lit (row at.next (drops_all vars g && is_number v None) k)) (got p None a (lit v) types.unit at (step at) refl (step_is at))
  pass_lit a v g p (Some t) at h = ap (λ k. Reach at nodes.Lit (row at.next (drops_all vars g && is_number v (Some t)) k)) (got p (Some t) a (lit v) t at (step at) refl (step_is at))

  pub pass_fun : (a : Place) (f : Fun) (args : List Arg) → PassesShape a (fun f args)
  pass_fun a f args g p dir at h =
      let good = are_good_arguments vars (asked_by functions f) args in
      let meet = meets dir (mentioned functions f args) in
      ap (Reach at nodes.Fun)
      (ap (λ b. row at.next b (Ok (made a (mentioned functions f args) (fun f args) (leaf nodes.Fun) (step at)))) (join_tests (drops_all vars g) good meet)
      ∙ meets_got (drops_all vars g && (good && meet)) p dir a (fun f args) at (step at) (λ e. right_holds good _ (right_holds (drops_all vars g) _ e)) (step_is at))

  -- ---- operators

  operand_is : (g : Context) (p : List Tau) (at : Cursor) (e : Tree Place) (way : Option Tau)
      → ◌≡◌ {A = Out Got} (run (events functions vars g p way at.nodes at.next e) (Ok (value p way at e)))
      (run (events functions vars g p way at.nodes at.next e) (Ok (operand_value (plain functions p e) (λ way. core functions p way e) (tree_at at.nodes e) (past (size e) at) way)))
  operand_is g p at e None = refl
  operand_is g p at e (Some u) = refl

  pub pass_unary : (a : Place) (o : Op) (x : Tree Place) → Passes x → PassesShape a (op o (more x none))
  pass_unary a o x px g p dir at h =
      let whole : Shape Place = op o (more x none) in
      let mid = step at in
      ap (Reach at nodes.Op)
      (unary_is functions vars o a at (past (size x) mid) (λ from way. check functions vars g way from x) (λ way. events functions vars g p way mid.nodes mid.next x)
      (plain functions p x) (λ way. core functions p way x) (tree_at mid.nodes x) (λ way. px g p way mid h ∙ operand_is g p mid x way) (sort_of o) dir
      ∙ ap (run (unary_events (sort_of o) dir at.next (plain functions p x) (λ way. events functions vars g p way mid.nodes mid.next x)))
      (got p dir a whole _ at (past (size x) mid) (in_is p dir (term a whole)) (past_step (size x) at ∙ ap (λ k. past (suc k) at) (omega arith))))

  -- a literal left of its guide
  literal_size : (l : Tree Place) → is_literal l ≡ true → size l ≡ 1
  literal_size (term note (lit v)) h = refl
  literal_size _ h = absurd (cc)

  literal_core : (l : Tree Place) (p : List Tau) (t : Tau) → is_literal l ≡ true → core functions p (Some t) l ≡ term (noted (note_at l) t) (lit (value_of l))
  literal_core (term note (lit v)) p t h = refl
  literal_core _ p t h = absurd (cc)

  literal_tree : (l : Tree Place) (ns : List CertNode) → is_literal l ≡ true → tree_at ns l ≡ leaf nodes.Lit
  literal_tree (term note (lit v)) ns h = refl
  literal_tree _ ns h = absurd (cc)

  pub pass_binary : (a : Place) (o : Op) (l r : Tree Place) → Passes l → Passes r → PassesShape a (op o (more l (more r none)))
  pass_binary a o l r pl pr g p dir at h =
      let whole : Shape Place = op o (more l (more r none)) in
      let m = marks_next at.nodes in
      let here = step at in
      let mid = past (size l) here in
      let to = past (size r) mid in
      let left : Option Tau → List Event = λ way. events functions vars (first m g) p way here.nodes here.next l in
      let right : Option Tau → List Event = λ way. events functions vars (second m g) p way mid.nodes mid.next r in
      split_is functions vars [] g nodes.Op at
      (λ m. binary functions vars m (sort_of o) o dir a (is_literal l) (note_at l) (value_of l) (first m g) at
      (λ from way. check functions vars (first m g) way from l) (λ from way. check functions vars (second m g) way from r))
      (binary_events (sort_of o) dir at.next (is_literal l) (plain functions p l) (plain functions p r) left right
      (guided_reached vars (suc at.next) (behind at.nodes) (first m g)) (guided_number (suc at.next) (value_of l))) _
      (λ s.
      let on_left = agree_left m g p vars s h in
      let on_right = agree_second (λ i. false) m g p vars s h in
      binary_is functions vars m o a (note_at l) (value_of l) (first m g) at mid to
      (λ from way. check functions vars (first m g) way from l) (λ from way. check functions vars (second m g) way from r) left right
      (plain functions p l) (plain functions p r) (λ way. core functions p way l) (λ way. core functions p way r) (tree_at here.nodes l) (tree_at mid.nodes r)
      (λ way. pl (first m g) p way here on_left ∙ operand_is (first m g) p here l way)
      (λ way. pr (second m g) p way mid on_right ∙ operand_is (second m g) p mid r way)
      (sort_of o) dir (is_literal l)
      (record {
        guide = λ q way. moved r pr (second m g) p way (step here) mid (step_is here ∙ ap (λ k. past k here) (sym (literal_size l q))) on_right ∙ operand_is (second m g) p mid r way;
        core = λ q. literal_core l p (plain functions p r) q;
        tree = λ q. literal_tree l here.nodes q;
      })
      ∙ ap (run (binary_events (sort_of o) dir at.next (is_literal l) (plain functions p l) (plain functions p r) left right
      (guided_reached vars (suc at.next) (behind at.nodes) (first m g)) (guided_number (suc at.next) (value_of l))))
      (got p dir a whole _ at to (in_is p dir (term a whole)) (past_two (size l) (size r) at ∙ ap (λ k. past (suc k) at) (omega arith))))

  -- ---- one part

  -- the events of a part right behind its node
  abbrev Below : Context → List Tau → Option Tau → Cursor → Tree Place → List Event
  Below g p way at e = events functions vars g p way (step at).nodes (step at).next e

  pub pass_con : (a : Place) (name : List ℕ) (e : Tree Place) → Passes e → PassesShape a (con name e)
  pass_con a name e pe g p None at h =
      let way = Some (alternative_held name None) in
      ap (λ k. Reach at nodes.Con (row at.next (is_alternative name None) k))
      (last_part (check functions vars g way (step at) e) (λ u. Ok (made a types.unit (con name u.core) (one nodes.Con u.tree) u.at)) (Below g p way at e) (value p way (step at) e)
      (Ok (value p None at (term a (con name e)))) (pe g p way (step at) h) (got p None a (con name e) types.unit at (past (size e) (step at)) refl (past_step (size e) at)))
  pass_con a name e pe g p (Some t) at h =
      let way = Some (alternative_held name (Some t)) in
      ap (λ k. Reach at nodes.Con (row at.next (is_alternative name (Some t)) k))
      (last_part (check functions vars g way (step at) e) (λ u. Ok (made a t (con name u.core) (one nodes.Con u.tree) u.at)) (Below g p way at e) (value p way (step at) e)
      (Ok (value p (Some t) at (term a (con name e)))) (pe g p way (step at) h) (got p (Some t) a (con name e) t at (past (size e) (step at)) refl (past_step (size e) at)))

  -- one part, and then a test of its type
  tested : (g : Context) (p : List Tau) (way : Option Tau) (at : Cursor) (e : Tree Place) (then' : Got → Out Got) (ok : Bool) (k : Out Got) → Passes e → Agree g p
      → then' (value p way (step at) e) ≡ row at.next ok k → bind (check functions vars g way (step at) e) then' ≡ run (Below g p way at e ++ (tests.row at.next ok ∷ [])) k
  tested g p way at e then' ok k pe h f =
      next (check functions vars g way (step at) e) then' (Below g p way at e) (tests.row at.next ok ∷ []) (value p way (step at) e) k (pe g p way (step at) h) f

  pub pass_esac : (a : Place) (name : At) (e : Tree Place) → Passes e → PassesShape a (esac name e)
  pass_esac a name e pe g p dir at h =
      let t = plain functions p e in
      let left = is_left (alternative_in name.name t) in
      let last = is_last name.name t in
      let meet = meets dir (held (alternative_in name.name t)) in
      ap (Reach at nodes.Esac) (tested g p None at e (λ u.
      row at.next (is_left (alternative_in name.name u.ty) && (is_last name.name u.ty && meets dir (held (alternative_in name.name u.ty))))
      (Ok (made a (held (alternative_in name.name u.ty)) (esac name u.core) (one nodes.Esac u.tree) u.at)))
      (left && (last && meet)) (Ok (value p dir at (term a (esac name e)))) pe h
      (meets_got (left && (last && meet)) p dir a (esac name e) at (past (size e) (step at)) (λ w. right_holds last meet (right_holds left _ w)) (past_step (size e) at)))

  pub pass_member : (a : Place) (e : Tree Place) (name : At) → Passes e → PassesShape a (member e name)
  pass_member a e name pe g p dir at h =
      let t = plain functions p e in
      let left = is_left (field_in name.name t) in
      let shared = shares vars t in
      let meet = meets dir (held (field_in name.name t)) in
      ap (Reach at nodes.Member) (tested g p None at e (λ u.
      row at.next (is_left (field_in name.name u.ty) && (shares vars u.ty && meets dir (held (field_in name.name u.ty))))
      (Ok (made a (held (field_in name.name u.ty)) (member u.core name) (one nodes.Member u.tree) u.at)))
      (left && (shared && meet)) (Ok (value p dir at (term a (member e name)))) pe h
      (meets_got (left && (shared && meet)) p dir a (member e name) at (past (size e) (step at)) (λ w. right_holds shared meet (right_holds left _ w)) (past_step (size e) at)))

  -- in a direction of its own
  cast_is : (a : Place) (e : Tree Place) (p : List Tau) (dir : Option Tau) (at : Cursor) → wanted dir types.unit ≡ plain_in functions p dir (term a (cast e))
  cast_is a e p None at = refl
  cast_is a e p (Some t) at = refl

  pub pass_cast : (a : Place) (e : Tree Place) → Passes e → PassesShape a (cast e)
  pass_cast a e pe g p dir at h =
      ap (λ k. Reach at nodes.Cast (row at.next (is_present dir) k)) (tested g p None at e (λ u.
      row at.next (is_cast dir u.ty) (Ok (made a (wanted dir types.unit) (cast u.core) (one nodes.Cast u.tree) u.at)))
      (is_cast dir (plain functions p e)) (Ok (value p dir at (term a (cast e)))) pe h
      (ap (row at.next (is_cast dir (plain functions p e)))
      (got p dir a (cast e) (wanted dir types.unit) at (past (size e) (step at)) (cast_is a e p dir at) (past_step (size e) at))))

  pub pass_annot : (a : Place) (e : Tree Place) (t : Arg) → Passes e → PassesShape a (annot e t)
  pass_annot a e t pe g p dir at h =
      ap (λ k. Reach at nodes.Annot (row at.next (has_word_arrays t.ty) k)) (tested g p (Some t.ty) at e (λ u.
      row at.next (meets dir t.ty) (Ok (made a t.ty (annot u.core t) (one nodes.Annot u.tree) u.at)))
      (meets dir t.ty) (Ok (value p dir at (term a (annot e t)))) pe h
      (meets_got (meets dir t.ty) p dir a (annot e t) at (past (size e) (step at)) (λ w. w) (past_step (size e) at)))
