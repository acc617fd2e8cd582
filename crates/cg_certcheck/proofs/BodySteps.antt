-- What is kept of functions, one after another, beside those of a certificate.
use Rattle.std.proofs.Common.{◌≡◌, ◌<◌, ◌≤◌, ◌+◌, ℕ, zero, suc, Bool, true, false, ◌&&◌, Option, Some, None, Ok, Err, List, [], ◌∷◌, length, map, drop, get_or, refl, sym, subst, ap, ◌∙◌, arith, ⊎_elim}
use Rattle.std.proofs.lemmas.List.{at_drop_more, at_drop_all}
use Rattle.cg_cert.specs.declared.cert.CertFun.{CertFun}
use Rattle.cg_cert.specs.declared.fault.CertFault.{CertFault}
use Rattle.cg_cert.specs.declared.fault.CertFault.TheVariants.{C1, C2, C3, Limit, Memory}
use Rattle.cg_certcheck.specs.Bodies.{Next, nodes_by, body_by, maybe_by, function_by}
use Rattle.cg_check_pieces.proofs.BodySteps.{behind, behind_none, nothing_more, one_ahead}
use Rattle.cg_check_pieces.proofs.Steps.{again}
use Rattle.cg_check_pieces.specs.Bodies.{Both, Lists, one_more}
use Rattle.cg_certcheck_context.specs.View.{Agrees}
use Rattle.cg_core.specs.declared.kernel.KFun.{KFun}
use Rattle.cg_core.specs.Kernels.{Body, Function, function_of}
use Rattle.cg_faults.specs.Same.{same_name}
use Rattle.cg_certcheck_def.specs.Events.{is_over, is_named, nodes_next, funs_behind}
use Rattle.cg_certcheck_def.specs.Pass.{Out, bind, row, stands, check_body, check_functions, from_body}
use Rattle.cg_typing.specs.Parts.{is_arrow, has_word_arrays}
use Rattle.cg_check_laws.proofs.SameTypes.{name_is, name_refl}
use Rattle.cg_base.proofs.Truths.{either_bool as bool_is}

-- the next function of a certificate
module _ (funs : List CertFun) (i n : ℕ) (d : CertFun) (name : List ℕ) where
  named_next : i < length funs → d ≡ get_or funs i d → nodes_by (drop i funs) n name ≡ stands n (same_name d.name name) (Ok d.nodes)
  unfolding nodes_by
  named_next h e = at_drop_more (λ l. nodes_by l n name) funs i d h ∙ ap (λ (x : CertFun). stands n (same_name x.name name) (Ok x.nodes)) (sym e)

  pub named_when : i < length funs → d ≡ get_or funs i d → d.name ≡ name → nodes_by (drop i funs) n name ≡ Ok d.nodes
  named_when h e k = named_next h e ∙ ap (λ b. stands n b (Ok d.nodes)) (ap (same_name d.name) (sym k) ∙ name_refl d.name)

  pub named_unless : i < length funs → d ≡ get_or funs i d → (d.name ≡ name → ⊥) → nodes_by (drop i funs) n name ≡ Err (C3 n)
  named_unless h e k =
      named_next h e ∙ ap (λ b. stands n b (Ok d.nodes)) (⊎_elim (λ t. absurd (k (name_is d.name name t))) (λ f. f) (bool_is (same_name d.name name)))

pub none_named : (funs : List CertFun) (i n : ℕ) (name : List ℕ) → length funs ≤ i → nodes_by (drop i funs) n name ≡ Err (C3 n)
unfolding nodes_by
none_named funs i n name h = at_drop_all (λ l. nodes_by l n name) funs i h

pub behind_next : (funs : List CertFun) (i j : ℕ) → j ≡ i + 1 → drop j funs ≡ funs_behind (drop i funs)
behind_next funs i j h = let e : j ≡ suc i = omega arith in rw e (go funs i)
  where
    go : (funs : List CertFun) (i : ℕ) → drop (suc i) funs ≡ funs_behind (drop i funs)
    go [] zero = refl
    go [] (suc i) = refl
    go (f ∷ funs) zero = refl
    go (f ∷ funs) (suc i) = go funs i

-- nothing is left
pub over_when : {A : Type 0} (xs : List A) (i : ℕ) → length xs ≤ i → is_over (drop i xs) ≡ true
over_when xs i h = at_drop_all is_over xs i h

pub over_unless : {A : Type 0} (xs : List A) (i : ℕ) → i < length xs → is_over (drop i xs) ≡ false
over_unless [] i h = absurd (omega (arith, h))
over_unless (x ∷ xs) zero h = refl
over_unless (x ∷ xs) (suc i) h = over_unless xs i (omega (arith, h))

-- a function and the later ones
module _ (functions : List Function) where
  abbrev Then : List Function → Next → Out (List (Option Both))
  Then fs s = bind (check_functions functions fs s.funs s.next) (λ kept. Ok (s.kept ∷ kept))

  functions_more : (f : Function) (fs : List Function) (funs : List CertFun) (n : ℕ)
      → check_functions functions (f ∷ fs) funs n ≡ bind (function_by functions f funs n) (Then fs)
  unfolding nodes_by body_by
  functions_more f fs funs n = signed (is_arrow f.ty.ty && has_word_arrays f.ty.ty) f.body
    where
      bodied : (body : Option Body) → from_body functions f body funs n (λ rest m. check_functions functions fs rest m) ≡ bind (maybe_by functions f body funs n) (Then fs)
      bodied None = refl
      bodied (Some body) = named (is_named funs f.at.name)
        where
          named : (b : Bool) → stands n b (bind (check_body functions f body.term (record { nodes = nodes_next funs; next = n })) (λ u.
              bind (check_functions functions fs (funs_behind funs) u.at.next) (λ kept. Ok (Some (u.core, u.tree) ∷ kept))))
              ≡ bind (bind (stands n b (Ok (nodes_next funs))) (λ nodes. bind (check_body functions f body.term (record { nodes = nodes; next = n })) (λ u.
              Ok (record { kept = Some (u.core, u.tree); funs = funs_behind funs; next = u.at.next })))) (Then fs)
          named true = sym (again (check_body functions f body.term (record { nodes = nodes_next funs; next = n })) (λ u. Ok (record { kept = Some (u.core, u.tree); funs = funs_behind funs; next = u.at.next })) (Then fs))
          named false = refl

      signed : (b : Bool) (body : Option Body) → row n b (from_body functions f body funs n (λ rest m. check_functions functions fs rest m)) ≡ bind (row n b (maybe_by functions f body funs n)) (Then fs)
      signed true body = bodied body
      signed false body = refl

  module _ (fs : List KFun) where
    rest : (i : ℕ) (d : KFun) (funs : List CertFun) (n : ℕ) → i < length fs
        → check_functions functions (map function_of (drop i fs)) funs n ≡ bind (function_by functions (function_of (get_or fs i d)) funs n) (Then (map function_of (drop (i + 1) fs)))
    rest i d funs n h =
        at_drop_more (λ l. check_functions functions (map function_of l) funs n) fs i d h ∙ functions_more (function_of (get_or fs i d)) (map function_of (drop (i + 1) fs)) funs n

    pub next_kept : (i : ℕ) (d : KFun) (before : Lists) (funs : List CertFun) (n : ℕ) (s : Next) → i < length fs → function_by functions (function_of (get_or fs i d)) funs n ≡ Ok s
        → behind before (check_functions functions (map function_of (drop i fs)) funs n)
        ≡ behind (one_more before s.kept) (check_functions functions (map function_of (drop (i + 1) fs)) s.funs s.next)
    next_kept i d before funs n s h e =
        ap (behind before) (rest i d funs n h ∙ ap (λ o. bind o (Then (map function_of (drop (i + 1) fs)))) e)
        ∙ one_ahead before s.kept (check_functions functions (map function_of (drop (i + 1) fs)) s.funs s.next)

    pub next_stops : (i : ℕ) (d : KFun) (before : Lists) (funs : List CertFun) (n : ℕ) (fault : CertFault) → i < length fs
        → function_by functions (function_of (get_or fs i d)) funs n ≡ Err fault → behind before (check_functions functions (map function_of (drop i fs)) funs n) ≡ Err fault
    next_stops i d before funs n fault h e = ap (behind before) (rest i d funs n h ∙ ap (λ o. bind o (Then (map function_of (drop (i + 1) fs)))) e)

    pub stops : {A B : Type 0} (view : A → Next) (lists : B → Lists) (e : CertFault) (i : ℕ) (d : KFun) (before : Lists) (funs : List CertFun) (n : ℕ) → i < length fs → d ≡ get_or fs i d
        → Agrees view (Err e) (function_by functions (function_of d) funs n) → Agrees lists (Err e) (behind before (check_functions functions (map function_of (drop i fs)) funs n))
    stops view lists e i d before funs n h k a = go e (subst (λ f. Agrees view (Err e) (function_by functions (function_of f) funs n)) k a)
      where
        go : (e : CertFault) → Agrees view (Err e) (function_by functions (function_of (get_or fs i d)) funs n) → Agrees lists (Err e) (behind before (check_functions functions (map function_of (drop i fs)) funs n))
        go (C1 at) a = next_stops i d before funs n (C1 at) h a
        go (C2 m) a = next_stops i d before funs n (C2 m) h a
        go (C3 m) a = next_stops i d before funs n (C3 m) h a
        go (Limit limit) a = next_stops i d before funs n (Limit limit) h a
        go Memory a = tt

    pub none_left : (i : ℕ) (before : Lists) (funs : List CertFun) (n : ℕ) → length fs ≤ i → is_over funs ≡ true
        → behind before (check_functions functions (map function_of (drop i fs)) funs n) ≡ Ok before
    none_left i before funs n h e =
        ap (behind before) (at_drop_all (λ l. check_functions functions (map function_of l) funs n) fs i h ∙ ap (λ b. stands n b (Ok [])) e) ∙ ap Ok (nothing_more before)

    pub surplus_left : (i : ℕ) (before : Lists) (funs : List CertFun) (n : ℕ) → length fs ≤ i → is_over funs ≡ false
        → behind before (check_functions functions (map function_of (drop i fs)) funs n) ≡ Err (C3 n)
    surplus_left i before funs n h e = ap (behind before) (at_drop_all (λ l. check_functions functions (map function_of l) funs n) fs i h ∙ ap (λ b. stands n b (Ok [])) e)

pub ruleset body_steps = (behind_none, next_kept, next_stops, none_left, surplus_left, over_when, over_unless, behind_next)

pub ruleset name_steps = (named_when, named_unless, none_named)

pub ruleset over_steps = (over_when, over_unless)
