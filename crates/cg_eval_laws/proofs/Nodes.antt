-- A node is sound where its parts are: one lemma a form.
use Rattle.std.proofs.Common.{◌≡◌, ℕ, Bool, true, false, IsTrue, Option, Some, None, List, [], ◌∷◌, ◌++◌, map, refl, sym, ◌∙◌, append_assoc, arith, lt-ltb, ltb-true, subst as at}
use Rattle.std.proofs.lemmas.Bool.{and_from, leb-true}
use Rattle.std.proofs.lemmas.List.{append-nil}
use Rattle.std.proofs.Math.Pow.{pow_mono}
use Rattle.std.specs.List.{list_all}
use Rattle.std.specs.Prelude.{if◌then◌else◌}
use Rattle.cg_base.specs.declared.fun.Fun.{Fun}
use Rattle.cg_base.specs.declared.kind.Kinds.{Kinds}
use Rattle.cg_base.specs.declared.kind.Sigil.TheVariants.{U}
use Rattle.cg_base.specs.Types as types
use Rattle.cg_base.specs.Types.{Tau, arrow, word, fields, Parts}
use Rattle.cg_core.specs.declared.derivation.Mark.{Mark}
use Rattle.cg_core.specs.declared.term.Seen.{Seen as Observer}
use Rattle.cg_core.specs.Derivations.{Derivation, Derivations}
use Rattle.cg_core.specs.Kernels.{Function}
use Rattle.cg_core.specs.Terms.{Note, Tree, Shape, var, unit, bool, lit, fun, op, app, lets, let_bang, if_else, con, case_of, esac, struct, member, take_field, put, cast, annot, none, more, Named, end, field}
use Rattle.cg_eval_def.specs.Evaluation.{Outcome, spent, stuck, gives, bind, Context, Table, Run, all_of, apply, node_shape}
use Rattle.cg_eval_operations.specs.Operators.{literal, truth}
use Rattle.cg_eval_def.specs.Foreigns.{is_among}
use Rattle.cg_typing.specs.Instances.{is_closed}
use Rattle.cg_kinds.specs.Kinds.{is_word, subst, subst_parts}
use Rattle.cg_typing.specs.Contexts.{Context as Entries, push, first, second, Splits}
use Rattle.cg_typing.specs.Functions.{arg_types}
use Rattle.cg_typing.specs.Parts.{widens}
use Rattle.cg_typing.specs.Rules.{InRange, Derives, DerivesShape, DerivesFields, parts_made, type_at}
use Rattle.cg_typing.specs.Trees.{first_marks, later_marks, later_parts, marks_of, nth, strings_of, sub, the_parts}
use Rattle.cg_typing.specs.Operators.{along}
use Rattle.cg_value.specs.Fits.{World, fits, fits_fields}
use Rattle.cg_value.specs.Forms.{has_name, is_true, payload_in}
use Rattle.cg_value.specs.Values as values
use Rattle.cg_value.specs.Values.{Val, function, number, parts, to_vals}
use Rattle.cg_typing_laws.specs.Laws.{AreInstance}
use Rattle.cg_eval_laws.specs.Laws.{IsSound}
use Rattle.cg_eval_laws.proofs.Checked.{has_checked_type}
use Rattle.cg_eval_laws.proofs.FitContexts.{FitContext, first_fits, second_fits, pushed_fits}
use Rattle.cg_eval_laws.proofs.FitOperators.{operated_fits, operated_both_fit}
use Rattle.cg_eval_laws.proofs.FitParts.{con_fits, last_fits, member_fits, others_fit, payload_fits, put_fits, without_fits}
use Rattle.cg_eval_laws.proofs.Mentions.{IsValueOf, mention_is_value}
use Rattle.cg_inst.proofs.Names.{by_cases, either_way}
use Rattle.cg_eval_laws.proofs.Outcomes.{bind_sound, pay_sound}
use Rattle.cg_eval_laws.proofs.Reached.{Reaches, ReachesIn, ReachesFields}
use Rattle.cg_base.proofs.Counts.{no_steps as never}

-- ---- values that a node makes by itself

module _ (world : World) (given : List Tau) where
  abbrev F : Tau → Val → Type 0
  F t v = IsTrue (fits world (subst given t) v)

  pub literal_fits : (value : Option ℕ) (t : Tau) → IsTrue (is_word t) → InRange value t → F t (literal value)
  unfolding fits subst
  literal_fits (Some n) (word w) k h = lt-ltb n _ h
  literal_fits None (word w) k h = absurd h
  literal_fits value _ k h = never k

  pub nothing_fits : F types.unit values.nothing
  unfolding fits subst
  nothing_fits = refl

  pub truth_fits : (b : Bool) → F types.bool (number (truth b))
  unfolding fits subst
  truth_fits true = refl
  truth_fits false = refl

  pub cast_fits : (t u : Tau) (v : Val) → IsTrue (widens t u) → F t v → F u v
  unfolding fits subst
  cast_fits (word v) (word w) (number n) k f = let wide = pow_mono (leb-true _ _ k) in let low = ltb-true n _ f in lt-ltb n _ (omega arith)
  cast_fits (word v) (word w) _ k f = never f
  cast_fits _ _ v k f = never k

  -- ---- records

  -- the fields of a record that is made
  abbrev pub fields_made : Named Note → Parts
  fields_made fs = subst_parts given (parts_made fs)

  -- the values up to here, with any that fit the fields that are left, are a record
  abbrev pub Begins : Parts → List Val → Named Note → Type 0
  Begins whole vs fs = (us : List Val) → IsTrue (fits_fields world (fields_made fs) (to_vals us)) → IsTrue (fits_fields world whole (to_vals (vs ++ us)))

  pub one_more : (whole : Parts) (vs : List Val) (name : List ℕ) (e : Tree Note) (fs : Named Note) (v : Val) → Begins whole vs (field name e fs) → F (type_at e) v → Begins whole (vs ++ v ∷ []) fs
  unfolding fits subst to_vals
  one_more whole vs name e fs v so f us h =
      at (λ l. IsTrue (fits_fields world whole (to_vals l))) (sym (append_assoc vs (v ∷ []) us)) (so (v ∷ us) (and_from (fits world (subst given (type_at e)) v) _ f h))

  pub all_made : (whole : Parts) (vs : List Val) → Begins whole vs end → IsTrue (fits world (fields whole U) (parts (to_vals vs)))
  unfolding fits subst to_vals
  all_made whole vs so = at (λ l. IsTrue (fits_fields world whole (to_vals l))) (append-nil vs) (so [] refl)

-- ---- nodes

module _ (functions : List Function) (among : ℕ → Bool) (world : World) where
  -- Evaluation of parts is sound: of a core that is derived, at closed type arguments that are an instance of its type variables, on
  -- values that fit its context, where all that it mentions is among some functions.
  abbrev pub SoundRun : Run → Type 0
  SoundRun run =
      (vars : List Kinds) (given : List Tau) → AreInstance [] given vars → IsTrue (list_all is_closed given)
      → (g : Entries) (vs : List Val) → FitContext world given g vs
      → (d : Derivation) (direction : Option Tau) (core : Tree Note) → Derives functions vars g d direction core → Reaches functions among core
      → (left : ℕ) → IsSound world (subst given (type_at core)) (run core (record { types = given; values = vs }) left)

  -- functions at type arguments fit their types
  abbrev pub MentionsFit : Type 0
  MentionsFit = (f : Fun) (types : List Tau) (t : Tau) → IsValueOf functions f types t → IsTrue (is_among among f) → IsTrue (fits world t (function f types))

  -- calls are sound
  abbrev pub CallsSound : Table → Run → Type 0
  CallsSound table run =
      (a b : Tau) (f v : Val) (left : ℕ) → IsTrue (fits world (arrow a b) f) → IsTrue (fits world a v) → IsSound world b (apply table run f v left)

  module _ (table : Table) (mentions : MentionsFit) (run : Run) (sound : SoundRun run) (calls : CallsSound table run)
      (vars : List Kinds) (given : List Tau) (fine : AreInstance [] given vars) (closed : IsTrue (list_all is_closed given)) where
    abbrev S : Tau → Outcome → Type 0
    S t o = IsSound world (subst given t) o

    abbrev V : Tau → Val → Type 0
    V t v = IsTrue (fits world (subst given t) v)

    abbrev C : List Val → Context
    C vs = record { types = given; values = vs }

    abbrev D : Entries → Derivation → Option Tau → Tree Note → Type 0
    D g d direction core = Derives functions vars g d direction core

    abbrev R : Tree Note → Type 0
    R core = Reaches functions among core

    abbrev Fit : Entries → List Val → Type 0
    Fit g vs = FitContext world given g vs

    -- a part, and then the rest
    first_then : (u : Tau) (e : Tree Note) (g : Entries) (vs : List Val) → Fit g vs → (d : Derivation) (direction : Option Tau) → D g d direction e → R e → (left : ℕ)
        → (rest : Val → ℕ → Outcome) → ((v : Val) (k : ℕ) → V (type_at e) v → S u (rest v k)) → S u (bind (run e (C vs) left) rest)
    first_then u e g vs fit d direction h r left rest f =
        bind_sound world (subst given (type_at e)) (subst given u) (run e (C vs) left) rest (sound vars given fine closed g vs fit d direction e h r left) f

    -- the two sides of a node's context
    left_side : (os : List Observer) (m : List Mark) (g : Entries) (vs : List Val) → Splits vars os m g → Fit g vs → Fit (first m g) vs
    left_side os m g vs s f = first_fits world given vars os m g vs s f

    right_side : (os : List Observer) (m : List Mark) (g : Entries) (vs : List Val) → Splits vars os m g → Fit g vs → Fit (second m g) vs
    right_side os m g vs s f = second_fits world given vars os m g vs s f

    -- a last part, whose type is the node's
    last_part : (t : Tau) (k : Tree Note) (g : Entries) (vs : List Val) → Fit g vs → (d : Derivation) (direction : Option Tau) → D g d direction k → R k → t ≡ type_at k → (left : ℕ)
        → S t (run k (C vs) left)
    last_part t k g vs fit d direction h r e left = at (λ u. S u (run k (C vs) left)) (sym e) (sound vars given fine closed g vs fit d direction k h r left)

    -- a value of a type that is another's
    typed : (t u : Tau) (v : Val) → t ≡ u → V u v → V t v
    typed t u v e f = at (λ u. V u v) (sym e) f

    checked_value : (e : Tree Note) (g : Entries) (d : Derivation) (wanted : Tau) (v : Val) → D g d (Some wanted) e → V (type_at e) v → V wanted v
    checked_value e g d wanted v h f = typed wanted (type_at e) v (has_checked_type functions vars e g d wanted h) f

    -- a cast is no step of its own
    sound_wider : (t u : Tau) (o : Outcome) → IsTrue (widens t u) → S t o → S u o
    sound_wider t u spent w h = tt
    sound_wider t u stuck w h = absurd h
    sound_wider t u (gives v left) w h = cast_fits world given t u v w h

    -- ---- bindings

    let_sound : (os : List Observer) (e k : Tree Note) (g : Entries) (vs : List Val) (fit : Fit g vs) (d : Derivation) (direction : Option Tau) (t : Tau)
        → Splits vars os (marks_of d) g → D (first (marks_of d) g) (sub d 0) None e → D (push (second (marks_of d) g) (Some (type_at e))) (sub d 1) direction k → t ≡ type_at k
        → R e → R k → (left : ℕ) → S t (bind (run e (C vs) left) (λ v rest. run k (C (vs ++ v ∷ [])) rest))
    let_sound os e k g vs fit d direction t s value body is r q left =
        first_then t e (first (marks_of d) g) vs (left_side os (marks_of d) g vs s fit) (sub d 0) None value r left _
        (λ v rest f. last_part t k _ (vs ++ v ∷ []) (pushed_fits world given (second (marks_of d) g) vs (type_at e) v (right_side os (marks_of d) g vs s fit) f) (sub d 1) direction body q is rest)

    -- ---- records

    fields_sound : (whole : Parts) (fs : Named Note) (g : Entries) (vs : List Val) (fit : Fit g vs) (strings : List (List Mark)) (ds : Derivations) (direction : Option Tau)
        → DerivesFields functions vars g strings ds direction fs → ReachesFields functions among fs → (so_far : List Val) → Begins world given whole so_far fs → (left : ℕ)
        → IsSound world (fields whole U) (all_of run fs (C vs) so_far left)
    unfolding all_of
    fields_sound whole end g vs fit strings ds direction h r so_far so left = absurd h
    fields_sound whole (field name e end) g vs fit strings ds direction h r so_far so left =
        pay_sound world (fields whole U) left _ (λ paid.
        bind_sound world (subst given (type_at e)) (fields whole U) (run e (C vs) paid) _ (sound vars given fine closed g vs fit (nth 0 ds) (along direction (type_at e)) e h.value r.0 paid)
        (λ v rest f. all_made world given whole (so_far ++ v ∷ []) (one_more world given whole so_far name e end v so f)))
    fields_sound whole (field name e (field later x fs)) g vs fit strings ds direction h r so_far so left =
        pay_sound world (fields whole U) left _ (λ paid.
        bind_sound world (subst given (type_at e)) (fields whole U) (run e (C vs) paid) _
        (sound vars given fine closed (first (first_marks strings) g) vs (left_side [] (first_marks strings) g vs h.splits fit) (nth 0 ds) (along direction (type_at e)) e h.value r.0 paid)
        (λ v rest f. fields_sound whole (field later x fs) (second (first_marks strings) g) vs (right_side [] (first_marks strings) g vs h.splits fit) (later_marks strings) (later_parts ds) direction
        h.later r.1 (so_far ++ v ∷ []) (one_more world given whole so_far name e (field later x fs) v so f) rest))

    struct_sound : (fs : Named Note) (g : Entries) (vs : List Val) (fit : Fit g vs) (d : Derivation) (direction : Option Tau) (t : Tau)
        → DerivesShape functions vars g d direction t (struct fs) → ReachesFields functions among fs → (left : ℕ) → S t (all_of run fs (C vs) [] left)
    unfolding subst
    struct_sound fs g vs fit d direction t h r left =
        at (λ u. S u (all_of run fs (C vs) [] left)) (sym h.is) (fields_sound (fields_made world given fs) fs g vs fit (strings_of d) (the_parts d) direction h.fields r [] (λ us k. k) left)

    -- ---- each form

    pub node_sound : (s : Shape Note) (note : Note) (g : Entries) (vs : List Val) (fit : Fit g vs) (d : Derivation) (direction : Option Tau)
        → DerivesShape functions vars g d direction note.ty s → ReachesIn functions among s → (left : ℕ) → S note.ty (node_shape table run note s (C vs) left)
    unfolding subst
    node_sound (var i) note g vs fit d direction h r left = fit.each i note.ty h.present
    node_sound unit note g vs fit d direction h r left = typed note.ty types.unit _ h.is (nothing_fits world given)
    node_sound (bool b) note g vs fit d direction h r left = typed note.ty types.bool _ h.is (truth_fits world given b)
    node_sound (lit value) note g vs fit d direction h r left = literal_fits world given value note.ty h.is_a_word h.in_range
    node_sound (fun f args) note g vs fit d direction h r left =
        mentions f (map (subst given) (arg_types args)) (subst given note.ty) (mention_is_value functions vars given fine closed f args note.ty r.0 h.arguments h.is) r.1
    node_sound (op o none) note g vs fit d direction h r left = absurd h
    node_sound (op o (more x none)) note g vs fit d direction h r left =
        first_then note.ty x g vs fit _ _ h.operand r.0 left _ (λ v rest f. typed note.ty _ _ h.is (operated_fits world given o (type_at x) v h.takes f))
    node_sound (op o (more x (more y none))) note g vs fit d direction h r left =
        first_then note.ty x _ vs (left_side [] (marks_of d) g vs h.splits fit) _ _ h.left r.0 left _ (λ v rest f.
        first_then note.ty y _ vs (right_side [] (marks_of d) g vs h.splits fit) _ _ h.right r.1.0 rest _ (λ w last k.
        typed note.ty _ _ h.is (operated_both_fit world given o (type_at x) v w h.takes f (typed (type_at x) (type_at y) w h.alike k))))
    node_sound (op o (more x (more y (more z ts)))) note g vs fit d direction h r left = absurd h
    node_sound (app f x) note g vs fit d direction h r left =
        first_then note.ty f _ vs (left_side [] (marks_of d) g vs h.splits fit) _ _ h.function r.0 left _ (λ v rest k.
        first_then note.ty x _ vs (right_side [] (marks_of d) g vs h.splits fit) _ _ h.argument r.1 rest _ (λ w last q.
        calls (subst given (type_at x)) (subst given note.ty) v w last (typed (arrow (type_at x) note.ty) (type_at f) v (sym h.is_arrow) k) q))
    node_sound (lets p e k) note g vs fit d direction h r left = let_sound [] e k g vs fit d direction note.ty h.splits h.value h.body h.is r.0 r.1 left
    node_sound (let_bang os p e k) note g vs fit d direction h r left = let_sound os e k g vs fit d direction note.ty h.splits h.value h.body h.is r.0 r.1 left
    node_sound (if_else c x y) note g vs fit d direction h r left =
        let right = right_side [] (marks_of d) g vs h.splits fit in
        first_then note.ty c _ vs (left_side [] (marks_of d) g vs h.splits fit) _ _ h.condition r.0 left _ (λ v rest f.
        either_way (λ b. S note.ty (run (if b then x else y) (C vs) rest)) (is_true v)
        (last_part note.ty x _ vs right _ _ h.first r.1 h.is rest) (last_part note.ty y _ vs right _ _ h.second r.2 (h.is ∙ sym h.alike) rest))
    node_sound (con n e) note g vs fit d direction h r left =
        pay_sound world (subst given note.ty) left _ (λ paid. first_then note.ty e g vs fit _ _ h.payload r paid _ (λ v rest f.
        con_fits world given n note.ty v h.left (checked_value e g _ _ v h.payload f)))
    node_sound (case_of e a p x y) note g vs fit d direction h r left =
        let right = right_side [] (marks_of d) g vs h.splits fit in
        first_then note.ty e _ vs (left_side [] (marks_of d) g vs h.splits fit) _ _ h.subject r.0 left _ (λ v rest f.
        by_cases (λ b. S note.ty (if b then run x (C (vs ++ payload_in v ∷ [])) rest else run y (C (vs ++ v ∷ [])) rest)) (has_name a.name v)
        (λ q. last_part note.ty x _ (vs ++ payload_in v ∷ []) (pushed_fits world given _ vs _ (payload_in v) right (payload_fits world given a.name (type_at e) v h.left f q)) _ _ h.first r.1 h.is rest)
        (λ q. last_part note.ty y _ (vs ++ v ∷ []) (pushed_fits world given _ vs _ v right (others_fit world given a.name (type_at e) v h.left f q)) _ _ h.second r.2 (h.is ∙ sym h.alike) rest))
    node_sound (esac a e) note g vs fit d direction h r left =
        first_then note.ty e g vs fit _ _ h.subject r left _ (λ v rest f. typed note.ty _ _ h.is (last_fits world given a.name (type_at e) v h.last f))
    node_sound (struct fs) note g vs fit d direction h r left = struct_sound fs g vs fit d direction note.ty h r left
    node_sound (member e a) note g vs fit d direction h r left =
        first_then note.ty e g vs fit _ _ h.whole r left _ (λ v rest f. typed note.ty _ _ h.is (member_fits world given a.name (type_at e) v f h.left))
    node_sound (take_field e a p q k) note g vs fit d direction h r left =
        let right = right_side [] (marks_of d) g vs h.splits fit in
        first_then note.ty e _ vs (left_side [] (marks_of d) g vs h.splits fit) _ _ h.whole r.0 left _ (λ v rest f.
        last_part note.ty k _ _
        (pushed_fits world given _ _ _ _ (pushed_fits world given _ vs _ _ right (without_fits world given a.name (type_at e) v f h.left)) (member_fits world given a.name (type_at e) v f h.left))
        _ _ h.body r.1 h.is rest)
    node_sound (put e a x) note g vs fit d direction h r left =
        first_then note.ty e _ vs (left_side [] (marks_of d) g vs h.splits fit) _ _ h.whole r.0 left _ (λ v rest f.
        pay_sound world (subst given note.ty) rest _ (λ paid.
        first_then note.ty x _ vs (right_side [] (marks_of d) g vs h.splits fit) _ _ h.value r.1 paid _ (λ w last k.
        typed note.ty _ _ h.is (put_fits world given a.name (type_at e) v w f h.there (checked_value x _ _ _ w h.value k)))))
    node_sound (cast e) note g vs fit d direction h r left =
        sound_wider (type_at e) note.ty _ h.widens (sound vars given fine closed g vs fit _ _ e h.operand r left)
    node_sound (annot e a) note g vs fit d direction h r left =
        last_part note.ty e g vs fit _ _ h.value r (h.is ∙ has_checked_type functions vars e g _ a.ty h.value) left
