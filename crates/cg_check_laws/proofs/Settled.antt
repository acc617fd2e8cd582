-- The derivation that the pass answers is that of the normal form: where just what a term touches is present, with what else is present
-- put in.
use Rattle.std.proofs.Common.{◌≡◌, ℕ, suc, Bool, true, false, ◌||◌, Option, Some, List, [], ◌∷◌, ◌++◌, length, map, refl, sym, ap, ◌∙◌, subst, arith}
use Rattle.cg_base.specs.declared.place.Place.{Place}
use Rattle.cg_base.specs.Types.{Tau}
use Rattle.cg_core.specs.declared.at.At.{At}
use Rattle.cg_core.specs.declared.derivation.Mark.{Mark}
use Rattle.cg_core.specs.declared.derivation.Node.{Node}
use Rattle.cg_core.specs.declared.derivation.Node.TheVariants as nodes
use Rattle.cg_core.specs.declared.op.Op.{Op}
use Rattle.cg_core.specs.declared.term.Seen.{Seen}
use Rattle.cg_core.specs.Derivations as trees
use Rattle.cg_core.specs.Derivations.{Derivation, derivation}
use Rattle.cg_core.specs.Kernels.{Function}
use Rattle.cg_core.specs.Terms.{Tree, term, Shape, var, unit, bool, lit, fun, op, app, lets, let_bang, if_else, con, case_of, esac, struct, member, take_field, put, cast, annot, none, more, Named, end, field}
use Rattle.cg_faults.specs.Occurrences.{touched, touched_shape, touched_fields}
use Rattle.cg_faults.specs.Plain.{plain, observed}
use Rattle.cg_typing.specs.Contexts.{Context, push, first, second, among}
use Rattle.cg_typing.specs.Parts.{field_in, alternative_in, held, with_part}
use Rattle.cg_typing.specs.Trees.{one, two, three}
use Rattle.cg_check_def.specs.NormalForm.{marks_between, marks_observed, marks_before_branches, marks_before_fields, tree, tree_shape, field_trees, field_marks}
use Rattle.cg_check_uses.specs.Marks.{marks_of_uses, marks_seen, settled, kept_new, kept_seen, kept_beside, two_parts}
use Rattle.cg_check_uses.specs.Uses.{both, join, seen_at, is_seen, seen_places, last, front}
use Rattle.cg_check_laws.proofs.Basics.{or_none}
use Rattle.cg_check_laws.proofs.Own.{own, own_shape, own_strings, own_trees, use_fields, field_uses}
use Rattle.cg_check_laws.proofs.PassSteps.{use_in, uses, seen_among, join_table, last_table, front_table}
use Rattle.cg_check_laws.proofs.Settle.{is_in, keep_by, settle_by, settle_behind_by, settle_none, settled_is, settle_settled}
use Rattle.cg_check_laws.proofs.Untouched.{Untouched, same_touch, marks_untouched, plain_marks, plain_first, plain_second, seen_first, seen_second, beside_untouched, swapped, push_untouched, joined_test}

two_same : (node : Node) (m w : List Mark) (a b c d : Derivation) → m ≡ w → a ≡ b → c ≡ d → two node m a c ≡ two node w b d
two_same node m w a b c d h i j = ap (λ m. two node m a c) h ∙ ap (λ a. two node w a c) i ∙ ap (two node w b) j

three_same : (node : Node) (m w : List Mark) (a b c d x y : Derivation) → m ≡ w → a ≡ b → c ≡ d → x ≡ y → three node m a c x ≡ three node w b d y
three_same node m w a b c d x y h i j k = ap (λ m. three node m a c x) h ∙ ap (λ a. three node w a c x) i ∙ ap (λ c. three node w b c x) j ∙ ap (three node w b d) k

-- what the last variable does, and the last but one
last_touched : (n : ℕ) (e : Tree Place) → (last (uses (suc n) e)).touched ≡ touched n e
last_touched n e = ap (λ u. u.touched) (last_table n (use_in e))

before_touched : (n : ℕ) (e : Tree Place) → (last (front (uses (suc (suc n)) e))).touched ≡ touched n e
before_touched n e = ap (λ us. (last us).touched) (front_table (suc n) (use_in e)) ∙ last_touched n e

module _ (functions : List Function) where
  -- in any context where what the term touches is present: what else is there is put into the derivation
  abbrev pub Settles : Tree Place → Type 0
  Settles e = (n : ℕ) (g : Context) (p : List Tau) (k : ℕ → Bool) → Untouched n g (λ i. touched i e) k → tree functions g p e ≡ settle_by k (own n e)

  abbrev SettlesShape : Shape Place → Type 0
  SettlesShape s = (n : ℕ) (g : Context) (p : List Tau) (k : ℕ → Bool) → Untouched n g (λ i. touched_shape i s) k → tree_shape functions g p s ≡ settle_by k (own_shape n s)

  abbrev SettlesFields : Named Place → Type 0
  SettlesFields fs = (n : ℕ) (g : Context) (p : List Tau) (k : ℕ → Bool) → Untouched n g (λ i. touched_fields i fs) k
      → (field_marks functions g fs ≡ map (keep_by k) (own_strings n fs)) × (field_trees functions g p fs ≡ settle_behind_by k (length (own_strings n fs)) (own_trees n fs))

  -- a part to which nothing goes along, one to which these go along, and one to which these do beside what its node has
  alone : (e : Tree Place) → Settles e → (n : ℕ) (g : Context) (p : List Tau) → Untouched n g (λ i. touched i e) (λ i. false) → tree functions g p e ≡ own n e
  alone e s n g p u = s n g p (λ i. false) u ∙ settle_none (own n e)

  with_these : (e : Tree Place) → Settles e → (n : ℕ) (g : Context) (p : List Tau) (kept : List ℕ) → Untouched n g (λ i. touched i e) (is_in kept)
      → tree functions g p e ≡ settled kept (own n e)
  with_these e s n g p kept u = s n g p (is_in kept) u ∙ sym (settled_is kept (own n e))

  along : (e : Tree Place) → Settles e → (n : ℕ) (g : Context) (p : List Tau) (k : ℕ → Bool) (kept : List ℕ) → Untouched n g (λ i. touched i e) (λ i. k i || is_in kept i)
      → tree functions g p e ≡ settle_by k (settled kept (own n e))
  along e s n g p k kept u = s n g p (λ i. k i || is_in kept i) u ∙ sym (settle_settled k kept (own n e))

  -- two parts in one context
  pair : (node : Node) (e x : Tree Place) → Settles e → Settles x → (n : ℕ) (g : Context) (p : List Tau) (k : ℕ → Bool) → Untouched n g (λ i. touched i e || touched i x) k
      → two node (marks_between e x g) (tree functions (first (marks_between e x g) g) p e) (tree functions (second (marks_between e x g) g) p x)
      ≡ settle_by k (two_parts node (marks_of_uses (uses n e) (uses n x)) (own n e) (own n x))
  pair node e x se sx n g p k u =
      two_same node _ _ _ _ _ _ (plain_marks n g (use_in e) (use_in x) k u) (alone e se n _ p (plain_first n g _ _ k u)) (sx n _ p k (plain_second n g _ _ k u))

  settles_unary : (o : Op) (x : Tree Place) → Settles x → SettlesShape (op o (more x none))
  settles_unary o x s n g p k u = ap (one nodes.Op) (s n g p k (same_touch n g _ _ k (λ i. sym (or_none (touched i x))) u))

  settles_binary : (o : Op) (l r : Tree Place) → Settles l → Settles r → SettlesShape (op o (more l (more r none)))
  settles_binary o l r sl sr n g p k u = pair nodes.Op l r sl sr n g p k (same_touch n g _ _ k (λ i. ap (λ q. touched i l || q) (sym (or_none (touched i r)))) u)

  settles_let : (v : Place) (e k : Tree Place) → Settles e → Settles k → SettlesShape (lets v e k)
  settles_let v e k se sk n g p q u =
      let m = marks_between e k g in let t = plain functions p e in
      two_same nodes.Let _ _ _ _ _ _
      (plain_marks n g (use_in e) (use_in k) q u ∙ ap (λ us. keep_by q (marks_of_uses (uses n e) us)) (sym (front_table n (use_in k))))
      (alone e se n (first m g) p (plain_first n g _ _ q u))
      (along k sk (suc n) (push (second m g) (Some t)) (push p t) q (kept_new n (last (uses (suc n) k)))
      (push_untouched n (second m g) t (λ i. touched i k) q (last (uses (suc n) k)) (last_touched n k) (plain_second n g _ _ q u)))

  settles_let_bang : (os : List Seen) (v : Place) (e k : Tree Place) → Settles e → Settles k → SettlesShape (let_bang os v e k)
  settles_let_bang os v e k se sk n g p q u =
      let m = marks_observed os e k g in let t = plain functions (observed os p) e in
      let seen : ℕ → Bool = λ i. among i os in let at : ℕ → Option Place = λ i. seen_at i os in let places = seen_places n os in
      let is : (i : ℕ) → is_seen (at i) ≡ seen i = λ i. seen_among i os in
      let behind = kept_seen places (front (uses (suc n) k)) in let new = last (uses (suc n) k) in
      two_same nodes.LetBang _ _ _ _ _ _
      (marks_untouched n g at seen (use_in e) (use_in k) q is u ∙ ap (λ us. keep_by q (marks_seen places (uses n e) us)) (sym (front_table n (use_in k))))
      (with_these e se n (first m g) (observed os p) (kept_seen places (uses n e)) (seen_first n g at seen (use_in e) (λ i. touched i k) q is u))
      (along k sk (suc n) (push (second m g) (Some t)) (push p t) q (behind ++ kept_new n new)
      (joined_test (suc n) (push (second m g) (Some t)) (λ i. touched i k) q behind (kept_new n new)
      (push_untouched n (second m g) t (λ i. touched i k) (λ i. q i || is_in behind i) new (last_touched n k)
      (subst (λ us. Untouched n (second m g) (λ i. touched i k) (λ i. q i || is_in (kept_seen places us) i)) (sym (front_table n (use_in k)))
      (seen_second n g at seen (λ i. touched i e) (use_in k) q is u)))))

  settles_take : (e : Tree Place) (at : At) (v w : Place) (k : Tree Place) → Settles e → Settles k → SettlesShape (take_field e at v w k)
  settles_take e at v w k se sk n g p q u =
      let m = marks_between e k g in
      let t = with_part at.name true (plain functions p e) in let r = held (field_in at.name (plain functions p e)) in
      let old = last (front (uses (suc (suc n)) k)) in let new = last (uses (suc (suc n)) k) in
      two_same nodes.Take _ _ _ _ _ _
      (plain_marks n g (use_in e) (use_in k) q u ∙ ap (λ us. keep_by q (marks_of_uses (uses n e) us)) (sym (ap front (front_table (suc n) (use_in k)) ∙ front_table n (use_in k))))
      (alone e se n (first m g) p (plain_first n g _ _ q u))
      (along k sk (suc (suc n)) (push (push (second m g) (Some t)) (Some r)) (push (push p t) r) q (kept_new n old ++ kept_new (suc n) new)
      (joined_test (suc (suc n)) (push (push (second m g) (Some t)) (Some r)) (λ i. touched i k) q (kept_new n old) (kept_new (suc n) new)
      (push_untouched (suc n) (push (second m g) (Some t)) r (λ i. touched i k) (λ i. q i || is_in (kept_new n old) i) new (last_touched (suc n) k)
      (push_untouched n (second m g) t (λ i. touched i k) q old (before_touched n k) (plain_second n g _ _ q u)))))

  settles_if : (c x y : Tree Place) → Settles c → Settles x → Settles y → SettlesShape (if_else c x y)
  settles_if c x y sc sx sy n g p q u =
      let m = marks_before_branches c x y g in
      let b = plain_second n g (λ i. touched i c) (λ i. touched i x || touched i y) q u in
      three_same nodes.If _ _ _ _ _ _ _ _
      (plain_marks n g (use_in c) (λ i. both (use_in x i) (use_in y i)) q u ∙ ap (λ us. keep_by q (marks_of_uses (uses n c) us)) (sym (join_table n (use_in x) (use_in y))))
      (alone c sc n (first m g) p (plain_first n g _ _ q u))
      (along x sx n (second m g) p q (kept_beside (uses n x) (uses n y)) (beside_untouched n (second m g) (use_in x) (use_in y) q b))
      (along y sy n (second m g) p q (kept_beside (uses n y) (uses n x)) (beside_untouched n (second m g) (use_in y) (use_in x) q (swapped n (second m g) (λ i. touched i x) (λ i. touched i y) q b)))

  -- a branch with a new variable
  branch : (x y : Tree Place) → Settles x → (n : ℕ) (g : Context) (p : List Tau) (t : Tau) (q : ℕ → Bool) → Untouched n g (λ i. touched i x || touched i y) q
      → tree functions (push g (Some t)) (push p t) x
      ≡ settle_by q (settled (kept_beside (front (uses (suc n) x)) (front (uses (suc n) y)) ++ kept_new n (last (uses (suc n) x))) (own (suc n) x))
  branch x y sx n g p t q u =
      let beside = kept_beside (front (uses (suc n) x)) (front (uses (suc n) y)) in let new = last (uses (suc n) x) in
      along x sx (suc n) (push g (Some t)) (push p t) q (beside ++ kept_new n new)
      (joined_test (suc n) (push g (Some t)) (λ i. touched i x) q beside (kept_new n new)
      (push_untouched n g t (λ i. touched i x) (λ i. q i || is_in beside i) new (last_touched n x)
      (subst (λ us. Untouched n g (λ i. touched i x) (λ i. q i || is_in (kept_beside us (front (uses (suc n) y))) i)) (sym (front_table n (use_in x)))
      (subst (λ us. Untouched n g (λ i. touched i x) (λ i. q i || is_in (kept_beside (uses n x) us) i)) (sym (front_table n (use_in y)))
      (beside_untouched n g (use_in x) (use_in y) q u)))))

  settles_case : (e : Tree Place) (at : At) (v : Place) (x y : Tree Place) → Settles e → Settles x → Settles y → SettlesShape (case_of e at v x y)
  settles_case e at v x y se sx sy n g p q u =
      let m = marks_before_branches e x y g in
      let b = plain_second n g (λ i. touched i e) (λ i. touched i x || touched i y) q u in
      three_same nodes.Case _ _ _ _ _ _ _ _
      (plain_marks n g (use_in e) (λ i. both (use_in x i) (use_in y i)) q u
      ∙ ap (λ us. keep_by q (marks_of_uses (uses n e) us)) (sym (ap (λ us. join us (front (uses (suc n) y))) (front_table n (use_in x)) ∙ ap (join (uses n x)) (front_table n (use_in y)) ∙ join_table n (use_in x) (use_in y))))
      (alone e se n (first m g) p (plain_first n g _ _ q u))
      (branch x y sx n (second m g) p (held (alternative_in at.name (plain functions p e))) q b)
      (branch y x sy n (second m g) p (with_part at.name true (plain functions p e)) q (swapped n (second m g) (λ i. touched i x) (λ i. touched i y) q b))

  -- ---- fields

  settles_last : (name : List ℕ) (e : Tree Place) → Settles e → SettlesFields (field name e end)
  settles_last name e s n g p k u = (refl, ap (λ d. trees.part d trees.done) (s n g p k (same_touch n g _ _ k (λ i. sym (or_none (touched i e))) u)))

  settles_field : (name other : List ℕ) (e x : Tree Place) (fs : Named Place) → Settles e → SettlesFields (field other x fs) → SettlesFields (field name e (field other x fs))
  settles_field name other e x fs se sf n g p k u =
      let later : Named Place = field other x fs in
      let m = marks_before_fields e later g in
      let r = sf n (second m g) p k (plain_second n g (λ i. touched i e) (λ i. touched_fields i later) k u) in (
        ap (λ ms. ms ∷ field_marks functions (second m g) later) (plain_marks n g (use_in e) (use_fields later) k u)
            ∙ ap (λ mss. keep_by k (marks_of_uses (uses n e) (field_uses n later)) ∷ mss) r.0,
        ap (λ d. trees.part d (field_trees functions (second m g) p later)) (alone e se n (first m g) p (plain_first n g (λ i. touched i e) (λ i. touched_fields i later) k u))
            ∙ ap (trees.part (own n e)) r.1,
      )

  settles_struct : (fs : Named Place) → SettlesFields fs → SettlesShape (struct fs)
  settles_struct fs s n g p k u =
      let r = s n g p k u in
      ap (λ mss. derivation nodes.Struct mss (field_trees functions g p fs)) r.0 ∙ ap (derivation nodes.Struct (map (keep_by k) (own_strings n fs))) r.1

  mutual
    pub settles : (e : Tree Place) → Settles e
    settles (term a shape) = settles_shape shape

    settles_shape : (shape : Shape Place) → SettlesShape shape
    settles_shape (var j) = λ n g p k u. refl
    settles_shape unit = λ n g p k u. refl
    settles_shape (bool v) = λ n g p k u. refl
    settles_shape (lit v) = λ n g p k u. refl
    settles_shape (fun f args) = λ n g p k u. refl
    settles_shape (op o none) = λ n g p k u. refl
    settles_shape (op o (more x none)) = settles_unary o x (settles x)
    settles_shape (op o (more l (more r none))) = settles_binary o l r (settles l) (settles r)
    settles_shape (op o (more l (more r (more x ts)))) = λ n g p k u. refl
    settles_shape (app f x) = pair nodes.App f x (settles f) (settles x)
    settles_shape (lets v e k) = settles_let v e k (settles e) (settles k)
    settles_shape (let_bang os v e k) = settles_let_bang os v e k (settles e) (settles k)
    settles_shape (if_else c x y) = settles_if c x y (settles c) (settles x) (settles y)
    settles_shape (con name e) = λ n g p k u. ap (one nodes.Con) (settles e n g p k u)
    settles_shape (case_of e at v x y) = settles_case e at v x y (settles e) (settles x) (settles y)
    settles_shape (esac at e) = λ n g p k u. ap (one nodes.Esac) (settles e n g p k u)
    settles_shape (struct fs) = settles_struct fs (settles_fields fs)
    settles_shape (member e at) = λ n g p k u. ap (one nodes.Member) (settles e n g p k u)
    settles_shape (take_field e at v w k) = settles_take e at v w k (settles e) (settles k)
    settles_shape (put e at x) = pair nodes.Put e x (settles e) (settles x)
    settles_shape (cast e) = λ n g p k u. ap (one nodes.Cast) (settles e n g p k u)
    settles_shape (annot e a) = λ n g p k u. ap (one nodes.Annot) (settles e n g p k u)

    settles_fields : (fs : Named Place) → SettlesFields fs
    settles_fields end = λ n g p k u. (refl, refl)
    settles_fields (field name e end) = settles_last name e (settles e)
    settles_fields (field name e (field other x fs)) = settles_field name other e x fs (settles e) (settles_fields (field other x fs))

  -- a body in the context of its argument alone
  argument_untouched : (argument : Tau) (body : Tree Place) → Untouched 1 (Some argument ∷ []) (λ i. touched i body) (is_in (kept_new 0 (last (uses 1 body))))
  argument_untouched argument body =
      push_untouched 0 [] argument (λ i. touched i body) (λ i. false) (last (uses 1 body)) (last_touched 0 body)
      (record { long = refl; there = λ i lt t. absurd (omega arith); rest = λ i lt. absurd (omega arith); past = λ i le. refl })

  pub body_settles : (argument : Tau) (body : Tree Place)
      → tree functions (Some argument ∷ []) (argument ∷ []) body ≡ settled (kept_new 0 (last (uses 1 body))) (own 1 body)
  body_settles argument body =
      with_these body (settles body) 1 (Some argument ∷ []) (argument ∷ []) (kept_new 0 (last (uses 1 body))) (argument_untouched argument body)
