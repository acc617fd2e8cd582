-- Evaluation of a node is refined by its update where those of its parts are: one lemma a form.
use Rattle.std.proofs.Common.{◌≡◌, ℕ, ◌+◌, Bool, true, false, ◌&&◌, not, cond, nat_eq, IsTrue, Option, Some, None, List, [], ◌∷◌, ◌++◌, get_or, inr, map, refl, sym, ap, ◌∙◌, append_assoc, arith, subst as at}
use Rattle.std.proofs.lemmas.Bool.{and_parts}
use Rattle.std.specs.List.{list_all}
use Rattle.std.specs.Prelude.{if◌then◌else◌}
use Rattle.cg_base.proofs.Counts.{no_steps as never}
use Rattle.cg_base.specs.declared.fun.Fun.{Fun}
use Rattle.cg_base.specs.declared.kind.Sigil.{Sigil}
use Rattle.cg_base.specs.declared.kind.Sigil.TheVariants.{R, W, U}
use Rattle.cg_base.specs.Types as types
use Rattle.cg_base.specs.Types.{Tau, arrow, fields, Parts, part}
use Rattle.cg_core.specs.declared.derivation.Mark.{Mark}
use Rattle.cg_core.specs.declared.op.Op.{Op}
use Rattle.cg_core.specs.Derivations.{Derivation, Derivations}
use Rattle.cg_core.specs.Terms.{Arg, Note, Tree, term, Shape, var, unit, bool, lit, fun, op, app, lets, let_bang, if_else, con, case_of, esac, struct, member, take_field, put, cast, annot, none, more, Named, end, field}
use Rattle.cg_eval_laws.proofs.Checked.{has_checked_type}
use Rattle.cg_eval_def.specs.Evaluation as values
use Rattle.cg_eval_def.specs.Evaluation.{Context, Table, Run, all_of, apply, node_shape}
use Rattle.cg_eval_operations.specs.Operators.{on_one, on_two, operated, operated_both, width}
use Rattle.cg_eval_operations.specs.Positions.{position}
use Rattle.cg_heap.specs.Calls.{heap_of}
use Rattle.cg_heap.specs.declared.cell.Scalar.{Scalar}
use Rattle.cg_heap.specs.declared.cell.Scalar.TheVariants.{Word}
use Rattle.cg_heap.specs.Reps.{first_number, Heap, HeapWorld, Holds, foot, tail}
use Rattle.cg_heap_laws.proofs.ByKinds.{no_writes}
use Rattle.cg_inst.proofs.Names.{by_cases, either_way}
use Rattle.cg_kinds.specs.Kinds.{is_word, kinds, subst}
use Rattle.cg_refine.proofs.Contexts.{all_dropped, held_at, only_used}
use Rattle.cg_refine.proofs.Joined.{joined, joined_more, row_more, row_none, row_none_foot}
use Rattle.cg_refine.proofs.Records.{field_read, put_given, row_is}
use Rattle.cg_refine.proofs.Sequence.{fine_as, given_now, pay_refined, refined_from, same_refined, wider_refined}
use Rattle.cg_refine.proofs.Then.{Beside, Both, F, G, Fits, FitsAlone, FitsBeside, FitBoth, FitThree, FromAll, FromBeside, FromBoth, FromOne, FromThree, Three, alone_then, as_fits, as_from, aside_then, begin_fits, begin_from, escaping_back, first_then, last_part, let_go_fits, let_go_from, part_runs, plain_back, push_fits, push_from, side_then, two_fit}
use Rattle.cg_refine.proofs.Variants.{arrow_foot, bool_foot, made_foot, number_foot, others_foot, payload_read, unit_foot}
use Rattle.cg_refine.specs.Laws.{CallsRefine, MentionsHold, TermsRefine, TypesAreKnown}
use Rattle.cg_refine_def.specs.Refined.{IsGiven, IsRefined, is_clear_node}
use Rattle.cg_typing.proofs.Lists.{scalar_taken}
use Rattle.cg_typing.specs.Contexts.{Context as Entries, Drops, DropsBut, look, push, second}
use Rattle.cg_typing.specs.Functions.{arg_types, fun_type}
use Rattle.cg_typing.specs.Instances.{is_closed, nodes_of, nodes_below, nodes_of_fields}
use Rattle.cg_typing.specs.Operators.{along, equality, takes, gives as type_given, sort_of}
use Rattle.cg_typing.specs.Parts.{alternative_in, field_in, held, is_last, is_left, is_read_only, is_there, may_be_put_over, widens, with_part}
use Rattle.cg_typing.specs.Rules.{Derives, DerivesShape, DerivesFields, parts_made, type_at}
use Rattle.cg_typing.specs.Trees.{first_marks, later_marks, later_parts, marks_of, nth, strings_of, the_parts}
use Rattle.cg_update.specs.Calls.{Program, types_of}
use Rattle.cg_update.specs.Machines.{is_machine, part_at, type_of_part}
use Rattle.cg_update.specs.Outcomes.{State, Outcome, gives, on, where_true}
use Rattle.cg_update.specs.Turns.{alternatives_in, chosen_in, fields_in, place_in}
use Rattle.cg_update.specs.Among.{are_apart, is_place_among}
use Rattle.cg_update.specs.Updates as updates
use Rattle.cg_update.specs.Updates.{Calls, place_of, read, row_of, sigil_of, update, update_fields, update_shape, write}
use Rattle.cg_update_laws.proofs.Forms.{cast_held, con_held, last_is, literal_held, name_held, nothing_held, operated_both_held, operated_held, others_are_held, scalar_given, truth_held, truth_is}
use Rattle.cg_update_laws.proofs.Held.{holds_machine}
use Rattle.cg_update_laws.proofs.Nodes.{all_back, all_front, field_type_is}
use Rattle.cg_value.specs.Forms as forms
use Rattle.cg_value.specs.Forms.{has_name, is_true, payload_in, with_field, without}
use Rattle.cg_value.specs.Values.{Val, chosen, function, gone, parts, to_vals}

-- words are compared
word_is_equal : (t : Tau) → IsTrue (is_word t) → IsTrue (takes equality t)
word_is_equal (types.word w) h = refl
word_is_equal _ h = never h

none_is_both : (a b c : ℕ) → a ≡ 0 → b ≡ 0 → c ≡ 0 → a ≡ c + b
none_is_both a b c e f g = omega arith

module _ (p : Program) (among : ℕ → Bool) (world : HeapWorld) (known : TypesAreKnown p among world) (mentions : MentionsHold p among world) (table : Table) (run : Run) (calls : Calls)
    (runs : TermsRefine p among world run calls) (called : CallsRefine p among world table run calls) where
  abbrev H : State → Tau → List Scalar → Val → Type 0
  H s t us v = Holds world (heap_of s.store) t us v

  abbrev C : List Val → Context
  C vs = record { types = []; values = vs }

  abbrev D : Entries → Derivation → Option Tau → Tree Note → Type 0
  D g d direction core = Derives p.functions [] g d direction core

  abbrev N : Tree Note → Type 0
  N core = IsTrue (list_all (is_clear_node p.list among) (nodes_of core))

  abbrev All : List (Tree Note) → Type 0
  All ts = IsTrue (list_all (is_clear_node p.list among) ts)

  abbrev front : (xs ys : List (Tree Note)) → All (xs ++ ys) → All xs
  front xs ys n = all_front (is_clear_node p.list among) xs ys n

  abbrev back : (xs ys : List (Tree Note)) → All (xs ++ ys) → All ys
  back xs ys n = all_back (is_clear_node p.list among) xs ys n

  -- no two alternatives of a core's type have one name
  clear_type : (core : Tree Note) → N core → IsTrue (are_apart (alternatives_in (type_at core)))
  clear_type (term note shape) n =
      (and_parts (are_apart (alternatives_in note.ty)) _ (and_parts (is_clear_node p.list among (term note shape)) _ n).0).0

  typed : (s : State) (t u : Tau) (us : List Scalar) (v : Val) → t ≡ u → H s u us v → H s t us v
  typed s t u us v e k = at (λ u. H s u us v) (sym e) k

  checked_value : (s : State) (e : Tree Note) (g : Entries) (d : Derivation) (wanted : Tau) (us : List Scalar) (v : Val) → D g d (Some wanted) e → H s (type_at e) us v → H s wanted us v
  checked_value s e g d wanted us v q k = typed s wanted (type_at e) us v (has_checked_type p.functions [] e g d wanted q) k

  -- what represents a function, as one number, reaches nothing
  function_foot : (h : Heap) (t : Tau) (k : ℕ) (f : Fun) (ts : List Tau) → Holds world h t (Word k ∷ []) (function f ts) → (m : Sigil) (q : ℕ) → foot h m t (Word k ∷ []) q ≡ 0
  unfolding Holds foot
  function_foot h (types.var n) k f ts l m q = absurd l
  function_foot h (types.seen n) k f ts l m q = absurd l
  function_foot h types.unit k f ts l m q = refl
  function_foot h (types.word w) k f ts l m q = refl
  function_foot h types.bool k f ts l m q = refl
  function_foot h (arrow a b) k f ts l m q = refl
  function_foot h (types.abs name args sigil) k f ts l m q = absurd (let e = l.1.0 in cc)
  function_foot h (types.variant ps) k f ts l m q = absurd (let e = l.5 in cc)
  function_foot h (fields ps sigil) k f ts l m q = absurd (let e = l.3 in cc)

  -- numbers reach nothing, of what is given and of what is taken
  numbers_reach_nothing : (s : State) (u t : Tau) (ws rs : List Scalar) → IsTrue (takes equality u) → IsTrue (takes equality t) → (m : Sigil) (q : ℕ) → (F s m u ws q ≡ 0) × (F s m t rs q ≡ 0)
  numbers_reach_nothing s u t ws rs k l m q = (number_foot (heap_of s.store) u ws k m q, number_foot (heap_of s.store) t rs l m q)

  -- ---- leaves

  -- what reaches nothing, where all variables may be dropped
  leaf_given : (s : State) (g : Entries) (us : List (List Scalar)) (vs : List Val) → Fits world s g us vs → Drops [] g → (t : Tau) (v : Val) (left : ℕ) (ws : List Scalar) → H s t ws v
      → ((m : Sigil) (q : ℕ) → F s m t ws q ≡ 0) → IsGiven world s (G s W g us) (G s R g us) t v left (gives ws s left)
  leaf_given s g us vs fit drops t v left ws k empty =
      given_now world s (G s W g us) (G s R g us) t v left ws fit.fine k
      (λ q. empty W q ∙ sym (all_dropped world (heap_of s.store) g us drops q)) (λ q i. absurd (let z = empty R q in omega arith))

  -- a type that reaches nothing under another name
  none_as : (s : State) (t u : Tau) (ws : List Scalar) → t ≡ u → ((m : Sigil) (q : ℕ) → F s m u ws q ≡ 0) → (m : Sigil) (q : ℕ) → F s m t ws q ≡ 0
  none_as s t u ws e empty m q = at (λ z. F s m z ws q ≡ 0) (sym e) (empty m q)

  var_refines : (i : ℕ) (t : Tau) (s : State) (g : Entries) (us : List (List Scalar)) (vs : List Val) → Fits world s g us vs → look g i ≡ Some t → DropsBut [] i g → (left : ℕ)
      → IsGiven world s (G s W g us) (G s R g us) t (get_or vs i gone) left (gives (get_or us i []) s left)
  var_refines i t s g us vs fit there drops left =
      given_now world s (G s W g us) (G s R g us) t (get_or vs i gone) left (get_or us i []) fit.fine (held_at world (heap_of s.store) g us vs i t fit.holds there)
      (λ q. (only_used world (heap_of s.store) g us vs i t fit.holds there drops q).0) (λ q k. omega (arith, (only_used world (heap_of s.store) g us vs i t fit.holds there drops q).1))

  fun_refines : (f : Fun) (args : List Arg) (t : Tau) (s : State) (g : Entries) (us : List (List Scalar)) (vs : List Val) → Fits world s g us vs → Drops [] g → (left : ℕ)
      → fun_type p.functions f args ≡ Some t → IsTrue (list_all is_closed (arg_types args) && is_place_among p.list among (place_of (record { fun = f; types = arg_types args }) p.list))
      → IsGiven world s (G s W g us) (G s R g us) t (function f (map (subst []) (arg_types args))) left (on (place_of (record { fun = f; types = arg_types args }) p.list) (λ k. gives (updates.number k) s left))
  fun_refines f args t s g us vs fit drops left is m =
      let b = and_parts (list_all is_closed (arg_types args)) _ m in by_place (place_of (record { fun = f; types = arg_types args }) p.list) refl b.0 b.1
    where
      by_place : (o : Option ℕ) → place_of (record { fun = f; types = arg_types args }) p.list ≡ o → IsTrue (list_all is_closed (arg_types args)) → IsTrue (is_place_among p.list among o)
          → IsGiven world s (G s W g us) (G s R g us) t (function f (map (subst []) (arg_types args))) left (on o (λ k. gives (updates.number k) s left))
      by_place None e c b = never b
      by_place (Some k) e c b =
          let there = mentions (heap_of s.store) f args k t is c e b in
          leaf_given s g us vs fit drops t _ left (updates.number k) there (function_foot (heap_of s.store) t k f (map (subst []) (arg_types args)) there)

  -- ---- operators

  unary_given : (o : Op) (t : Tau) (u : Tau) (s : State) (ws : List Scalar) (v : Val) → FitsAlone world s u ws v → IsTrue (takes (sort_of o) u) → t ≡ type_given (sort_of o) u → (left : ℕ)
      → IsGiven world s (F s W u ws) (F s R u ws) t (operated o u v) left (gives (updates.number (on_one o (width u) (first_number ws))) s left)
  unary_given o t u s ws v fit ok is left =
      let here = numbers_reach_nothing s u (type_given (sort_of o) u) ws (updates.number (on_one o (width u) (first_number ws))) (scalar_taken (sort_of o) u ok) (scalar_given (sort_of o) u ok) in
      at (λ z. IsGiven world s (F s W u ws) (F s R u ws) z (operated o u v) left (gives (updates.number (on_one o (width u) (first_number ws))) s left)) (sym is)
      (given_now world s (F s W u ws) (F s R u ws) (type_given (sort_of o) u) (operated o u v) left (updates.number (on_one o (width u) (first_number ws))) fit.fine
      (operated_held world (heap_of s.store) o u ws v ok fit.holds) (λ q. (here W q).1 ∙ sym (here W q).0) (λ q k. absurd (let z = (here R q).1 in omega arith)))

  binary_given : (o : Op) (t : Tau) (u u' : Tau) (s : State) (ws rs : List Scalar) (v w : Val) → FitBoth world s u ws v u' rs w → u ≡ u' → IsTrue (takes (sort_of o) u) → t ≡ type_given (sort_of o) u → (left : ℕ)
      → IsGiven world s (Both s W u ws u' rs) (Both s R u ws u' rs) t (operated_both o u v w) left (gives (updates.number (on_two o (width u) (first_number ws) (first_number rs))) s left)
  binary_given o t u u' s ws rs v w fit same ok is left =
      let n = updates.number (on_two o (width u) (first_number ws) (first_number rs)) in
      let here = numbers_reach_nothing s u (type_given (sort_of o) u) ws n (scalar_taken (sort_of o) u ok) (scalar_given (sort_of o) u ok) in
      let there = numbers_reach_nothing s u' (type_given (sort_of o) u) rs n (at (λ z. IsTrue (takes equality z)) same (scalar_taken (sort_of o) u ok)) (scalar_given (sort_of o) u ok) in
      at (λ z. IsGiven world s (Both s W u ws u' rs) (Both s R u ws u' rs) z (operated_both o u v w) left (gives n s left)) (sym is)
      (given_now world s (Both s W u ws u' rs) (Both s R u ws u' rs) (type_given (sort_of o) u) (operated_both o u v w) left n fit.fine
      (operated_both_held world (heap_of s.store) o u ws rs v w ok fit.one (typed s u u' rs w same fit.two))
      (λ q. none_is_both _ _ _ (here W q).1 (here W q).0 (there W q).0) (λ q k. absurd (let z = (here R q).1 in omega arith)))

  -- ---- bindings

  body_refines : (k : Tree Note) (t u : Tau) (s : State) (ws : List Scalar) (v : Val) (g : Entries) (us : List (List Scalar)) (vs : List Val) → FitsBeside world s u ws v g us vs
      → (d : Derivation) (direction : Option Tau) → D (push g (Some u)) d direction k → N k → t ≡ type_at k → (left : ℕ)
      → FromBeside world s u ws g us t (run k (C (vs ++ v ∷ [])) left) (update p calls k (us ++ ws ∷ []) s left)
  body_refines k t u s ws v g us vs fit d direction body n is left =
      push_from world s u ws v g us vs fit t _ _
      (last_part p among world run calls runs t k s (push g (Some u)) (us ++ ws ∷ []) (vs ++ v ∷ []) (push_fits world s u ws v g us vs fit) d direction body n is left)

  -- ---- calls

  call_refines : (f : Val) (u t : Tau) (u' : Tau) (s : State) (us ws : List Scalar) (w : Val) → FitBoth world s u us f u' ws w → u ≡ arrow u' t → (left : ℕ)
      → FromBoth world s u us u' ws t (apply table run f w left) (calls (first_number us) ws s left)
  call_refines f u t u' s us ws w fit is left =
      let empty = none_as s u (arrow u' t) us is (λ m q. arrow_foot (heap_of s.store) u' t us m q) in
      refined_from world s (F s W u' ws) (F s R u' ws) (Both s W u us u' ws) (Both s R u us u' ws) t _ _ (λ q. omega (arith, empty W q)) (λ q. omega (arith, empty R q))
      (called u' t us ws f w s (typed s (arrow u' t) u us f (sym is) fit.one) fit.two
      (fine_as s (Both s W u us u' ws) (Both s R u us u' ws) (F s W u' ws) (F s R u' ws) fit.fine (λ q. omega (arith, empty W q)) (λ q. omega (arith, empty R q))) left)

  -- ---- choices

  -- a condition reaches nothing
  condition_foot : (s : State) (c : Tree Note) (g : Entries) (d : Derivation) (ws : List Scalar) → D g d (Some types.bool) c → (m : Sigil) (q : ℕ) → F s m (type_at c) ws q ≡ 0
  condition_foot s c g d ws k = none_as s (type_at c) types.bool ws (sym (has_checked_type p.functions [] c g d types.bool k)) (λ m q. bool_foot (heap_of s.store) ws m q)

  if_refines : (s : State) (w r : ℕ → ℕ) (t : Tau) (us : List Scalar) (v : Val) (o o' : values.Outcome) (q q' : Outcome) → H s types.bool us v → IsRefined world s w r t o q → IsRefined world s w r t o' q'
      → IsRefined world s w r t (if is_true v then o else o') (cond (nat_eq (first_number us) 0) q' q)
  if_refines s w r t us v o o' q q' k a b =
      at (λ z. IsRefined world s w r t (if z then o else o') (cond (nat_eq (first_number us) 0) q' q)) (sym (truth_is world (heap_of s.store) us v k))
      (either_way (λ z. IsRefined world s w r t (if not z then o else o') (cond z q' q)) (nat_eq (first_number us) 0) b a)

  -- one of two parts
  either_run : (b : Bool) (x y : Tree Note) (vs : List Val) (left : ℕ) (P : values.Outcome → Type 0) → P (if b then run x (C vs) left else run y (C vs) left) → P (run (if b then x else y) (C vs) left)
  either_run true x y vs left P k = k
  either_run false x y vs left P k = k

  -- the payload of an alternative beside the variables, and then a body
  payload_refines : (n : List ℕ) (k : Tree Note) (t u : Tau) (s : State) (ws : List Scalar) (v : Val) (g : Entries) (us : List (List Scalar)) (vs : List Val) → FitsBeside world s u ws v g us vs
      → IsTrue (is_left (alternative_in n u)) → nat_eq (first_number ws) (place_in n u) ≡ true
      → (d : Derivation) (direction : Option Tau) → D (push g (Some (held (alternative_in n u)))) d direction k → N k → t ≡ type_at k → (left : ℕ)
      → FromBeside world s u ws g us t (run k (C (vs ++ payload_in v ∷ [])) left) (on (part_at (place_in n u) (alternatives_in u) (tail ws)) (λ rs. update p calls k (us ++ rs ∷ []) s left))
  payload_refines n k t u s ws v g us vs fit l e d direction body m is left =
      let r = payload_read world (heap_of s.store) n u ws v fit.holds l e in
      same_refined world s (Beside s W u ws g us) (Beside s R u ws g us) t _ (update p calls k (us ++ r.scalars ∷ []) s left) _ (ap (λ z. on z (λ rs. update p calls k (us ++ rs ∷ []) s left)) r.there)
      (as_from world s u ws g us (held (alternative_in n u)) r.scalars r.same t _ _
      (body_refines k t (held (alternative_in n u)) s r.scalars (payload_in v) g us vs (as_fits world s u ws v g us vs fit (held (alternative_in n u)) r.scalars (payload_in v) r.holds r.same)
      d direction body m is left))

  -- the other alternatives beside the variables, and then a body
  others_refine : (n : List ℕ) (k : Tree Note) (t u : Tau) (s : State) (ws : List Scalar) (v : Val) (g : Entries) (us : List (List Scalar)) (vs : List Val) → FitsBeside world s u ws v g us vs
      → IsTrue (is_left (alternative_in n u)) → has_name n v ≡ false
      → (d : Derivation) (direction : Option Tau) → D (push g (Some (with_part n true u))) d direction k → N k → t ≡ type_at k → (left : ℕ)
      → FromBeside world s u ws g us t (run k (C (vs ++ v ∷ [])) left) (update p calls k (us ++ ws ∷ []) s left)
  others_refine n k t u s ws v g us vs fit l e d direction body m is left =
      let same = others_foot world (heap_of s.store) n u ws v fit.holds l e in
      as_from world s u ws g us (with_part n true u) ws same t _ _
      (body_refines k t (with_part n true u) s ws v g us vs
      (as_fits world s u ws v g us vs fit (with_part n true u) ws v (others_are_held world (heap_of s.store) n u ws v fit.holds l e) same) d direction body m is left)

  case_refines : (n : List ℕ) (x y : Tree Note) (t u : Tau) (s : State) (ws : List Scalar) (v : Val) (g : Entries) (us : List (List Scalar)) (vs : List Val) → FitsBeside world s u ws v g us vs
      → IsTrue (are_apart (alternatives_in u)) → IsTrue (is_left (alternative_in n u))
      → (d e : Derivation) (direction direction' : Option Tau) → D (push g (Some (held (alternative_in n u)))) d direction x → D (push g (Some (with_part n true u))) e direction' y
      → N x → N y → t ≡ type_at x → t ≡ type_at y → (left : ℕ)
      → FromBeside world s u ws g us t (if has_name n v then run x (C (vs ++ payload_in v ∷ [])) left else run y (C (vs ++ v ∷ [])) left)
      (cond (nat_eq (first_number ws) (place_in n u)) (on (part_at (place_in n u) (alternatives_in u) (tail ws)) (λ rs. update p calls x (us ++ rs ∷ []) s left)) (update p calls y (us ++ ws ∷ []) s left))
  case_refines n x y t u s ws v g us vs fit apart l d e direction direction' a b m m' is is' left =
      let same = name_held world (heap_of s.store) n u ws v apart fit.holds l in
      let taken : Outcome = on (part_at (place_in n u) (alternatives_in u) (tail ws)) (λ rs. update p calls x (us ++ rs ∷ []) s left) in
      let other : Outcome = update p calls y (us ++ ws ∷ []) s left in
      let first : values.Outcome = run x (C (vs ++ payload_in v ∷ [])) left in
      let second : values.Outcome = run y (C (vs ++ v ∷ [])) left in
      at (λ z. FromBeside world s u ws g us t (if z then first else second) (cond (nat_eq (first_number ws) (place_in n u)) taken other)) (sym same)
      (by_cases (λ z. FromBeside world s u ws g us t (if z then first else second) (cond z taken other)) (nat_eq (first_number ws) (place_in n u))
      (λ is_it. payload_refines n x t u s ws v g us vs fit l is_it d direction a m is left)
      (λ isnt. others_refine n y t u s ws v g us vs fit l (same ∙ isnt) e direction' b m' is' left))

  con_given : (n : List ℕ) (t : Tau) (e : Tree Note) (s : State) (ws : List Scalar) (v : Val) → FitsAlone world s (type_at e) ws v → (g : Entries) (d : Derivation) → IsTrue (is_left (alternative_in n t))
      → D g d (Some (held (alternative_in n t))) e → (left : ℕ) → IsGiven world s (F s W (type_at e) ws) (F s R (type_at e) ws) t (chosen n v) left (gives (chosen_in n t ws) s left)
  con_given n t e s ws v fit g d l k left =
      let h = held (alternative_in n t) in
      let same : h ≡ type_at e = has_checked_type p.functions [] e g d h k in
      let holds = typed s h (type_at e) ws v same fit.holds in
      let made = made_foot world (heap_of s.store) n t ws v l holds in
      let alike : (m : Sigil) (q : ℕ) → F s m h ws q ≡ F s m (type_at e) ws q = λ m q. ap (λ z. F s m z ws q) same in
      given_now world s (F s W (type_at e) ws) (F s R (type_at e) ws) t (chosen n v) left (chosen_in n t ws) fit.fine (con_held world (heap_of s.store) n t ws v l holds)
      (λ q. made W q ∙ alike W q) (λ q i. omega (arith, made R q, alike R q, i))

  esac_given : (n : List ℕ) (t u : Tau) (s : State) (ws : List Scalar) (v : Val) → FitsAlone world s u ws v → IsTrue (are_apart (alternatives_in u)) → IsTrue (is_left (alternative_in n u)) → IsTrue (is_last n u)
      → t ≡ held (alternative_in n u) → (left : ℕ)
      → FromOne world s u ws t (values.gives (payload_in v) left) (on (part_at (place_in n u) (alternatives_in u) (tail ws)) (λ rs. gives rs s left))
  esac_given n t u s ws v fit apart l last is left =
      let r = payload_read world (heap_of s.store) n u ws v fit.holds l
      (sym (name_held world (heap_of s.store) n u ws v apart fit.holds l) ∙ last_is world (heap_of s.store) n u ws v fit.holds last) in
      same_refined world s (F s W u ws) (F s R u ws) t (values.gives (payload_in v) left) (gives r.scalars s left) _ (ap (λ z. on z (λ rs. gives rs s left)) r.there)
      (at (λ z. IsGiven world s (F s W u ws) (F s R u ws) z (payload_in v) left (gives r.scalars s left)) (sym is)
      (given_now world s (F s W u ws) (F s R u ws) (held (alternative_in n u)) (payload_in v) left r.scalars fit.fine r.holds (λ q. r.same W q) (λ q i. omega (arith, r.same R q, i))))

  -- ---- records

  -- a field is read, and then the rest
  read_refines : (s : State) (w r : ℕ → ℕ) (u : Tau) (o : values.Outcome) (n : List ℕ) (t : Tau) (us : List Scalar) (v : Val) (rest : List Scalar → Outcome) (k : H s t us v) (l : IsTrue (is_left (field_in n t)))
      → IsRefined world s w r u o (rest (field_read world (heap_of s.store) n t us v k l).scalars) → IsRefined world s w r u o (read p t (position n t) us s rest)
  read_refines s w r u o n t us v rest k l f =
      let x = field_read world (heap_of s.store) n t us v k l in
      let i = position n t in
      let fine : is_machine (types_of p) (type_of_part i (fields_in t)) x.scalars ≡ true =
      ap (λ z. is_machine (types_of p) z x.scalars) (field_type_is n t l) ∙ holds_machine world (heap_of s.store) (types_of p) known (held (field_in n t)) x.scalars _ x.holds in
      let judge : List Scalar → Outcome = λ ws. where_true (is_machine (types_of p) (type_of_part i (fields_in t)) ws) (rest ws) in
      same_refined world s w r u o (rest x.scalars) _
      (ap (λ z. on z (λ row. on (part_at i (fields_in t) row) judge)) (row_is world n t us v s.store k l) ∙ ap (λ z. on z judge) x.there ∙ ap (λ z. where_true z (rest x.scalars)) fine) f

  member_refines : (n : List ℕ) (t u : Tau) (s : State) (ws : List Scalar) (v : Val) → FitsAlone world s u ws v → IsTrue (is_left (field_in n u)) → (kinds [] u).share ≡ true → t ≡ held (field_in n u) → (left : ℕ)
      → FromOne world s u ws t (values.gives (forms.field v (position n u)) left) (read p u (position n u) ws s (λ rs. gives rs s left))
  member_refines n t u s ws v fit l shared is left =
      let x = field_read world (heap_of s.store) n u ws v fit.holds l in
      let empty : (q : ℕ) → F s W u ws q ≡ 0 = λ q. no_writes (heap_of s.store) [] u ws q (inr shared) in
      read_refines s (F s W u ws) (F s R u ws) t (values.gives (forms.field v (position n u)) left) n u ws v (λ rs. gives rs s left) fit.holds l
      (at (λ z. IsGiven world s (F s W u ws) (F s R u ws) z (forms.field v (position n u)) left (gives x.scalars s left)) (sym is)
      (given_now world s (F s W u ws) (F s R u ws) (held (field_in n u)) (forms.field v (position n u)) left x.scalars fit.fine x.holds
      (λ q. omega (arith, empty q, x.inside W q)) (λ q i. omega (arith, x.inside R q, i))))

  take_refines : (n : List ℕ) (k : Tree Note) (t u : Tau) (s : State) (ws : List Scalar) (v : Val) (g : Entries) (us : List (List Scalar)) (vs : List Val) → FitsBeside world s u ws v g us vs
      → IsTrue (is_left (field_in n u)) → (d : Derivation) (direction : Option Tau) → D (push (push g (Some (with_part n true u))) (Some (held (field_in n u)))) d direction k → N k → t ≡ type_at k → (left : ℕ)
      → FromBeside world s u ws g us t (run k (C ((vs ++ without v (position n u) ∷ []) ++ forms.field v (position n u) ∷ [])) left)
      (read p u (position n u) ws s (λ rs. update p calls k (us ++ ws ∷ rs ∷ []) s left))
  take_refines n k t u s ws v g us vs fit l d direction body m is left =
      let x = field_read world (heap_of s.store) n u ws v fit.holds l in
      let both = two_fit world s u ws v g us vs fit (with_part n true u) ws (without v (position n u)) (held (field_in n u)) x.scalars (forms.field v (position n u)) x.rest x.holds x.sum in
      let o : values.Outcome = run k (C ((vs ++ without v (position n u) ∷ []) ++ forms.field v (position n u) ∷ [])) left in
      read_refines s (Beside s W u ws g us) (Beside s R u ws g us) t o n u ws v (λ rs. update p calls k (us ++ ws ∷ rs ∷ []) s left) fit.holds l
      (at (λ z. FromBeside world s u ws g us t o (update p calls k z s left)) (append_assoc us (ws ∷ []) (x.scalars ∷ []))
      (both.1 t o (update p calls k ((us ++ ws ∷ []) ++ x.scalars ∷ []) s left)
      (last_part p among world run calls runs t k s _ _ _ both.0 d direction body m is left)))

  put_refines : (n : List ℕ) (t u u' : Tau) (s : State) (ws rs : List Scalar) (v w : Val) → FitBoth world s u ws v u' rs w → IsTrue (is_there (field_in n u)) → is_read_only u ≡ false
      → IsTrue (may_be_put_over [] (field_in n u)) → u' ≡ held (field_in n u) → t ≡ with_part n false u → (left : ℕ)
      → IsGiven world s (Both s W u ws u' rs) (Both s R u ws u' rs) t (with_field v (position n u) w) left (write p u (position n u) ws rs s left)
  put_refines n t u u' s ws rs v w fit there written over same is left =
      let h = held (field_in n u) in
      let alike : (m : Sigil) (q : ℕ) → F s m u' rs q ≡ F s m h rs q = λ m q. ap (λ z. F s m z rs q) same in
      at (λ z. IsGiven world s (Both s W u ws u' rs) (Both s R u ws u' rs) z (with_field v (position n u) w) left (write p u (position n u) ws rs s left)) (sym is)
      (refined_from world s (λ q. F s W u ws q + F s W h rs q) (λ q. F s R u ws q + F s R h rs q) (Both s W u ws u' rs) (Both s R u ws u' rs) (with_part n false u)
      (values.gives (with_field v (position n u) w) left) (write p u (position n u) ws rs s left) (λ q. omega (arith, alike W q)) (λ q. omega (arith, alike R q))
      (put_given world p n u ws rs v w s left fit.one there written over (typed s h u' rs w (sym same) fit.two)
      (fine_as s (Both s W u ws u' rs) (Both s R u ws u' rs) _ _ fit.fine (λ q. omega (arith, alike W q)) (λ q. omega (arith, alike R q)))))

  -- ---- records that are made

  -- one more field, beside the variables that are left
  row_fits : (qs : Parts) (x : List ℕ) (u : Tau) (s : State) (row rs : List Scalar) (so_far : List Val) (w : Val) (g : Entries) (us : List (List Scalar)) (vs : List Val)
      → FitThree world s (fields qs U) row (parts (to_vals so_far)) u rs w g us vs
      → FitsBeside world s (fields (joined qs (part x u false types.end)) U) (row ++ rs) (parts (to_vals (so_far ++ w ∷ []))) g us vs
      × ((t : Tau) (o : values.Outcome) (q : Outcome) → FromBeside world s (fields (joined qs (part x u false types.end)) U) (row ++ rs) g us t o q → FromThree world s (fields qs U) row u rs g us t o q)
  row_fits qs x u s row rs so_far w g us vs fit =
      let one = row_more world (heap_of s.store) qs row so_far x u rs w fit.one fit.two in
      let t = fields (joined qs (part x u false types.end)) U in (
        record {
          holds = one.0;
          rest = fit.rest;
          fine =
              fine_as s (Three s W (fields qs U) row u rs g us) (Three s R (fields qs U) row u rs g us) (Beside s W t (row ++ rs) g us) (Beside s R t (row ++ rs) g us) fit.fine
              (λ q. omega (arith, one.1 W q)) (λ q. omega (arith, one.1 R q));
        },
        λ t' o q run. refined_from world s (Beside s W t (row ++ rs) g us) (Beside s R t (row ++ rs) g us) (Three s W (fields qs U) row u rs g us) (Three s R (fields qs U) row u rs g us) t' o q
            (λ x. omega (arith, one.1 W x)) (λ x. omega (arith, one.1 R x)) run,
      )

  fields_refine : (whole qs : Parts) (fs : Named Note) → joined qs (parts_made fs) ≡ whole → (s : State) (row : List Scalar) (so_far : List Val) (g : Entries) (us : List (List Scalar)) (vs : List Val)
      → FitsBeside world s (fields qs U) row (parts (to_vals so_far)) g us vs → (strings : List (List Mark)) (ds : Derivations) (direction : Option Tau)
      → DerivesFields p.functions [] g strings ds direction fs → All (nodes_of_fields fs) → (left : ℕ)
      → FromBeside world s (fields qs U) row g us (fields whole U) (all_of run fs (C vs) so_far left) (update_fields p calls fs us row s left)
  unfolding all_of update_fields
  fields_refine whole qs end e s row so_far g us vs fit strings ds direction q n left = absurd q
  fields_refine whole qs (field x e end) is s row so_far g us vs fit strings ds direction q n left =
      pay_refined world s (Beside s W (fields qs U) row g us) (Beside s R (fields qs U) row g us) (fields whole U) left _ _ (λ paid.
      aside_then p among world run calls runs (fields whole U) e s (fields qs U) row (parts (to_vals so_far)) g us vs fit (nth 0 ds) (along direction (type_at e)) q.value
      (front (nodes_of e) [] n) paid _ _ (λ w rs after k both.
      let one = row_more world (heap_of after.store) qs row so_far x (type_at e) rs w both.one both.two in
      at (λ z. IsGiven world after (Both after W (fields qs U) row (type_at e) rs) (Both after R (fields qs U) row (type_at e) rs) (fields z U) (parts (to_vals (so_far ++ w ∷ []))) k (gives (row ++ rs) after k)) is
      (given_now world after (Both after W (fields qs U) row (type_at e) rs) (Both after R (fields qs U) row (type_at e) rs) (fields (joined qs (part x (type_at e) false types.end)) U)
      (parts (to_vals (so_far ++ w ∷ []))) k (row ++ rs) both.fine one.0 (λ q. one.1 W q) (λ q i. omega (arith, one.1 R q, i)))))
  fields_refine whole qs (field x e (field later y fs)) is s row so_far g us vs fit strings ds direction q n left =
      pay_refined world s (Beside s W (fields qs U) row g us) (Beside s R (fields qs U) row g us) (fields whole U) left _ _ (λ paid.
      side_then p among world run calls runs (fields whole U) e (first_marks strings) s (fields qs U) row (parts (to_vals so_far)) g us vs q.splits fit (nth 0 ds) (along direction (type_at e)) q.value
      (front (nodes_of e) (nodes_of_fields (field later y fs)) n) paid _ _ (λ w rs after k three.
      let more = row_fits qs x (type_at e) after row rs so_far w (second (first_marks strings) g) us vs three in
      more.1 (fields whole U) _ _
      (fields_refine whole (joined qs (part x (type_at e) false types.end)) (field later y fs) (joined_more qs x (type_at e) (parts_made (field later y fs)) ∙ is) after (row ++ rs) (so_far ++ w ∷ [])
      (second (first_marks strings) g) us vs more.0 (later_marks strings) (later_parts ds) direction q.later (back (nodes_of e) (nodes_of_fields (field later y fs)) n) k)))

  struct_refines : (fs : Named Note) (s : State) (g : Entries) (us : List (List Scalar)) (vs : List Val) (fit : Fits world s g us vs) (d : Derivation) (direction : Option Tau) (t : Tau)
      → DerivesShape p.functions [] g d direction t (struct fs) → All (nodes_of_fields fs) → (left : ℕ)
      → FromAll world s g us t (all_of run fs (C vs) [] left) (update_fields p calls fs us [] s left)
  struct_refines fs s g us vs fit d direction t q n left =
      at (λ u. FromAll world s g us u (all_of run fs (C vs) [] left) (update_fields p calls fs us [] s left)) (sym q.is)
      (begin_from world s (fields types.end U) [] g us (row_none_foot world (heap_of s.store)) (fields (parts_made fs) U) _ _
      (fields_refine (parts_made fs) types.end fs refl s [] [] g us vs
      (begin_fits world s (fields types.end U) [] (parts (to_vals [])) g us vs fit (row_none world (heap_of s.store)) (row_none_foot world (heap_of s.store)))
      (strings_of d) (the_parts d) direction q.fields n left))

  -- ---- casts

  cast_wider : (t u : Tau) → IsTrue (widens t u) → (m : State) (us : List Scalar) (v : Val) → H m t us v → H m u us v × ((g : Sigil) (q : ℕ) → F m g u us q ≡ F m g t us q)
  unfolding foot
  cast_wider (types.word a) (types.word b) k m us v h = (cast_held world (heap_of m.store) (types.word a) (types.word b) k us v h, λ g q. refl)
  cast_wider _ _ k m us v h = never k

  -- ---- each form

  pub node_refines : (sh : Shape Note) (note : Note) (s : State) (g : Entries) (us : List (List Scalar)) (vs : List Val) (fit : Fits world s g us vs) (d : Derivation) (direction : Option Tau)
      → DerivesShape p.functions [] g d direction note.ty sh → IsTrue (is_clear_node p.list among (term note sh)) → All (nodes_below sh) → (left : ℕ)
      → FromAll world s g us note.ty (node_shape table run note sh (C vs) left) (update_shape p calls note.ty sh us s left)
  unfolding update_shape
  node_refines (var i) note s g us vs fit d direction q m n left = var_refines i note.ty s g us vs fit q.present q.others left
  node_refines unit note s g us vs fit d direction q m n left =
      leaf_given s g us vs fit q.others note.ty _ left _ (typed s note.ty types.unit _ _ q.is (nothing_held world (heap_of s.store)))
      (none_as s note.ty types.unit _ q.is (λ m q. unit_foot (heap_of s.store) _ m q))
  node_refines (bool b) note s g us vs fit d direction q m n left =
      leaf_given s g us vs fit q.others note.ty _ left _ (typed s note.ty types.bool _ _ q.is (truth_held world (heap_of s.store) b))
      (none_as s note.ty types.bool _ q.is (λ m q. bool_foot (heap_of s.store) _ m q))
  node_refines (lit value) note s g us vs fit d direction q m n left =
      leaf_given s g us vs fit q.others note.ty _ left _ (literal_held world (heap_of s.store) value note.ty q.is_a_word q.in_range)
      (λ m x. number_foot (heap_of s.store) note.ty _ (word_is_equal note.ty q.is_a_word) m x)
  node_refines (fun f args) note s g us vs fit d direction q m n left =
      fun_refines f args note.ty s g us vs fit q.others left q.is (and_parts (are_apart (alternatives_in note.ty)) _ m).1
  node_refines (op o none) note s g us vs fit d direction q m n left = absurd q
  node_refines (op o (more x none)) note s g us vs fit d direction q m n left =
      alone_then p among world run calls runs note.ty x s g us vs fit _ _ q.operand (front (nodes_of x) [] n) left _ _
      (λ v ws after k one. unary_given o note.ty (type_at x) after ws v one q.takes q.is k)
  node_refines (op o (more x (more y none))) note s g us vs fit d direction q m n left =
      first_then p among world run calls runs note.ty x [] (marks_of d) s g us vs q.splits fit (plain_back p among world run calls runs note.ty x [] (marks_of d) s g us vs q.splits fit refl)
      _ _ q.left (front (nodes_of x) (nodes_of y ++ []) n) left _ _ (λ v ws after k beside.
      aside_then p among world run calls runs note.ty y after (type_at x) ws v _ us vs beside _ _ q.right (front (nodes_of y) [] (back (nodes_of x) (nodes_of y ++ []) n)) k _ _ (λ w rs last l both.
      binary_given o note.ty (type_at x) (type_at y) last ws rs v w both q.alike q.takes q.is l))
  node_refines (op o (more x (more y (more z ts)))) note s g us vs fit d direction q m n left = absurd q
  node_refines (app f x) note s g us vs fit d direction q m n left =
      first_then p among world run calls runs note.ty f [] (marks_of d) s g us vs q.splits fit (plain_back p among world run calls runs note.ty f [] (marks_of d) s g us vs q.splits fit refl)
      _ _ q.function (front (nodes_of f) (nodes_of x) n) left _ _ (λ v ws after k beside.
      aside_then p among world run calls runs note.ty x after (type_at f) ws v _ us vs beside _ _ q.argument (back (nodes_of f) (nodes_of x) n) k _ _ (λ w rs last l both.
      call_refines v (type_at f) note.ty (type_at x) last ws rs w both q.is_arrow l))
  node_refines (lets b e k) note s g us vs fit d direction q m n left =
      first_then p among world run calls runs note.ty e [] (marks_of d) s g us vs q.splits fit (plain_back p among world run calls runs note.ty e [] (marks_of d) s g us vs q.splits fit refl)
      _ _ q.value (front (nodes_of e) (nodes_of k) n) left _ _ (λ v ws after rest beside.
      body_refines k note.ty (type_at e) after ws v _ us vs beside _ _ q.body (back (nodes_of e) (nodes_of k) n) q.is rest)
  node_refines (let_bang os b e k) note s g us vs fit d direction q m n left =
      first_then p among world run calls runs note.ty e os (marks_of d) s g us vs q.splits fit (escaping_back p among world run calls runs note.ty e os (marks_of d) s g us vs q.splits fit q.escapes)
      _ _ q.value (front (nodes_of e) (nodes_of k) n) left _ _ (λ v ws after rest beside.
      body_refines k note.ty (type_at e) after ws v _ us vs beside _ _ q.body (back (nodes_of e) (nodes_of k) n) q.is rest)
  node_refines (if_else c x y) note s g us vs fit d direction q m n left =
      let l : All (nodes_of c ++ nodes_of x) = front (nodes_of c ++ nodes_of x) (nodes_of y) n in
      first_then p among world run calls runs note.ty c [] (marks_of d) s g us vs q.splits fit (plain_back p among world run calls runs note.ty c [] (marks_of d) s g us vs q.splits fit refl)
      _ _ q.condition (front (nodes_of c) (nodes_of x) l) left _ _ (λ v ws after rest beside.
      let empty = condition_foot after c _ _ ws q.condition in
      let alone = let_go_fits world after (type_at c) ws v _ us vs beside empty in
      let_go_from world after (type_at c) ws _ us empty note.ty _ _
      (either_run (is_true v) x y vs rest (λ z. FromAll world after (second (marks_of d) g) us note.ty z (cond (nat_eq (first_number ws) 0) (update p calls y us after rest) (update p calls x us after rest)))
      (if_refines after (G after W (second (marks_of d) g) us) (G after R (second (marks_of d) g) us) note.ty ws v _ _ (update p calls x us after rest) (update p calls y us after rest)
      (checked_value after c _ _ types.bool ws v q.condition beside.holds)
      (last_part p among world run calls runs note.ty x after _ us vs alone _ _ q.first (back (nodes_of c) (nodes_of x) l) q.is rest)
      (last_part p among world run calls runs note.ty y after _ us vs alone _ _ q.second (back (nodes_of c ++ nodes_of x) (nodes_of y) n) (q.is ∙ sym q.alike) rest))))
  node_refines (con x e) note s g us vs fit d direction q m n left =
      pay_refined world s (G s W g us) (G s R g us) note.ty left _ _ (λ paid.
      alone_then p among world run calls runs note.ty e s g us vs fit _ _ q.payload n paid _ _ (λ v ws after k one.
      con_given x note.ty e after ws v one g _ q.left q.payload k))
  node_refines (case_of e a b x y) note s g us vs fit d direction q m n left =
      let l : All (nodes_of e ++ nodes_of x) = front (nodes_of e ++ nodes_of x) (nodes_of y) n in
      first_then p among world run calls runs note.ty e [] (marks_of d) s g us vs q.splits fit (plain_back p among world run calls runs note.ty e [] (marks_of d) s g us vs q.splits fit refl)
      _ _ q.subject (front (nodes_of e) (nodes_of x) l) left _ _ (λ v ws after rest beside.
      case_refines a.name x y note.ty (type_at e) after ws v _ us vs beside (clear_type e (front (nodes_of e) (nodes_of x) l)) q.left _ _ _ _ q.first q.second
      (back (nodes_of e) (nodes_of x) l) (back (nodes_of e ++ nodes_of x) (nodes_of y) n) q.is (q.is ∙ sym q.alike) rest)
  node_refines (esac a e) note s g us vs fit d direction q m n left =
      alone_then p among world run calls runs note.ty e s g us vs fit _ _ q.subject n left _ _ (λ v ws after k one.
      esac_given a.name note.ty (type_at e) after ws v one (clear_type e n) q.left q.last q.is k)
  node_refines (struct fs) note s g us vs fit d direction q m n left = struct_refines fs s g us vs fit d direction note.ty q n left
  node_refines (member e a) note s g us vs fit d direction q m n left =
      alone_then p among world run calls runs note.ty e s g us vs fit _ _ q.whole n left _ _ (λ v ws after k one.
      member_refines a.name note.ty (type_at e) after ws v one q.left q.shared q.is k)
  node_refines (take_field e a b c k) note s g us vs fit d direction q m n left =
      first_then p among world run calls runs note.ty e [] (marks_of d) s g us vs q.splits fit (plain_back p among world run calls runs note.ty e [] (marks_of d) s g us vs q.splits fit refl)
      _ _ q.whole (front (nodes_of e) (nodes_of k) n) left _ _ (λ v ws after rest beside.
      take_refines a.name k note.ty (type_at e) after ws v _ us vs beside q.left _ _ q.body (back (nodes_of e) (nodes_of k) n) q.is rest)
  node_refines (put e a x) note s g us vs fit d direction q m n left =
      first_then p among world run calls runs note.ty e [] (marks_of d) s g us vs q.splits fit (plain_back p among world run calls runs note.ty e [] (marks_of d) s g us vs q.splits fit refl)
      _ _ q.whole (front (nodes_of e) (nodes_of x) n) left _ _ (λ v ws after rest beside.
      pay_refined world after (Beside after W (type_at e) ws (second (marks_of d) g) us) (Beside after R (type_at e) ws (second (marks_of d) g) us) note.ty rest _ _ (λ paid.
      aside_then p among world run calls runs note.ty x after (type_at e) ws v _ us vs beside _ _ q.value (back (nodes_of e) (nodes_of x) n) paid _ _ (λ w rs last l both.
      put_refines a.name note.ty (type_at e) (type_at x) last ws rs v w both q.there q.written q.over (sym (has_checked_type p.functions [] x _ _ (held (field_in a.name (type_at e))) q.value)) q.is l)))
  node_refines (cast e) note s g us vs fit d direction q m n left =
      wider_refined world s (G s W g us) (G s R g us) (type_at e) note.ty _ _ (cast_wider (type_at e) note.ty q.widens) (part_runs p among world run calls runs e s g us vs fit _ _ q.operand n left)
  node_refines (annot e a) note s g us vs fit d direction q m n left =
      last_part p among world run calls runs note.ty e s g us vs fit _ _ q.value n (q.is ∙ has_checked_type p.functions [] e g _ a.ty q.value) left
