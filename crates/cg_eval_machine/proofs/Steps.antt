-- The steps of the evaluator's stack, as equations.
use Rattle.std.proofs.Common.{◌≡◌, ℕ, suc, ◌+◌, ◌-◌, ◌<◌, ◌≤◌, Bool, true, false, cond, if◌then◌else◌, IsTrue, List, [], ◌∷◌, ◌++◌, take, drop, length, map, Option, get_or, refl, sym, ap, ◌∙◌, arith, Bor, Vec}
use Rattle.std.proofs.lemmas.Bool.{lt-ltb, le-ltb}
use Rattle.std.proofs.lemmas.List.{map-append, length-map, take_all, append_assoc}
use Rattle.std.proofs.Math.Seq.{take-append_seam}
use Rattle.std.specs.declared.alloc.Global.{Global}
use Rattle.cg_base.specs.declared.fun.Fun.TheVariants.{Lib as OfLib}
use Rattle.cg_base.specs.declared.fun.Lib.{Lib}
use Rattle.cg_base.specs.declared.ty.Ty.{Ty}
use Rattle.cg_base.specs.Types.{Tau, type_of}
use Rattle.cg_core.specs.declared.op.Op.{Op}
use Rattle.cg_core.specs.declared.term.FieldTerm.{FieldTerm, fold_out-FieldTerm}
use Rattle.cg_core.specs.declared.term.Term.{Term}
use Rattle.cg_core.specs.declared.term.Typed.{Typed}
use Rattle.cg_core.specs.Kernels.{the_core, the_core_field}
use Rattle.cg_core.specs.Terms.{Note, Tree, Shape, OneField, note_of, shape_layer, field_layer, term_layer, to_named}
use Rattle.cg_lib_value.specs.Library.{library_cost, library_value}
use Rattle.cg_value.specs.declared.value.Value.{Value}
use Rattle.cg_value.specs.Forms.{field, has_name, is_true, payload_in, with_field, without}
use Rattle.cg_value.specs.Values.{Val, chosen, parts, to_vals, value_of}
use Rattle.cg_eval_machine.specs.declared.frame.Frame.{Frame}
use Rattle.cg_eval_machine.specs.declared.frame.Frame.TheVariants.{One, Right, Two, Argument, Call, Body, Branches, Wrap, Arms, Payload, Fields, Pick, Open, Into, Place, Leave, Back, Turn}
use Rattle.cg_eval_operations.specs.declared.turns.Turns.{Turns}
use Rattle.cg_eval_def.specs.Evaluation.{Outcome, spent, stuck, gives, bind, pay, pay_for, Table, Context, push, all_of, apply, apply_fun, call, evaluate, iterated, turns}
use Rattle.cg_eval_operations.specs.Iterators.{asked, carried, changed, ended, indices_from, is_iterator, stops, upcoming}
use Rattle.cg_eval_operations.specs.Operators.{operated, operated_both}
use Rattle.cg_eval_machine.specs.Machine.{Cont, gives_at_once, resume, after, on, rest_from, rest, named_of, turn, turns_of}

pick_one : {A B : Type 0} (b : Bool) (f : A → B) (x y : A) → f (cond b x y) ≡ cond b (f x) (f y)
pick_one true f x y = refl
pick_one false f x y = refl

pub paid : (l n : ℕ) → n + 1 ≡ l → (h : ℕ → Outcome) → pay l h ≡ h n
paid l n e h = let p : l ≡ suc n = omega arith in ap (λ z. pay z h) p

bind_twice : (o : Outcome) (g h : Val → ℕ → Outcome) → bind (bind o g) h ≡ bind o (λ v l. bind (g v l) h)
bind_twice spent g h = refl
bind_twice stuck g h = refl
bind_twice (gives v l) g h = refl

field_is : (f : FieldTerm Typed) → the_core_field f ≡ record { name = f.name; term = the_core f.term }
field_is f = fold_out-FieldTerm Typed (Shape Note) (OneField Note) (Tree Note) (shape_layer Typed Note note_of) (field_layer Typed Note note_of) (term_layer Typed Note note_of) f

-- what no frame is that goes on
pub is_at_once : (f : Frame)
    → ((o : Op) (ty : Bor Ty) (b : Bor (Term Typed)) → f ≡ Right o ty b → ⊥)
    → ((b : Bor (Term Typed)) → f ≡ Argument b → ⊥)
    → ((g : Value) → f ≡ Call g → ⊥)
    → ((b : Bor (Term Typed)) → f ≡ Body b → ⊥)
    → ((a b : Bor (Term Typed)) → f ≡ Branches a b → ⊥)
    → ((x : Bor (List ℕ)) (a b : Bor (Term Typed)) → f ≡ Arms x a b → ⊥)
    → ((vs : List Value) (ts : Bor (List (FieldTerm Typed))) → f ≡ Fields vs ts → ⊥)
    → ((i : ℕ) (b : Bor (Term Typed)) → f ≡ Open i b → ⊥)
    → ((i : ℕ) (b : Bor (Term Typed)) → f ≡ Into i b → ⊥)
    → ((i : ℕ) (t : Turns) (a : Value) → f ≡ Turn i t a → ⊥)
    → IsTrue (gives_at_once f)
is_at_once (One o ty) _ _ _ _ _ _ _ _ _ _ = refl
is_at_once (Right o ty b) other _ _ _ _ _ _ _ _ _ = absurd (other o ty b refl)
is_at_once (Two o ty v) _ _ _ _ _ _ _ _ _ _ = refl
is_at_once (Argument b) _ other _ _ _ _ _ _ _ _ = absurd (other b refl)
is_at_once (Call f) _ _ other _ _ _ _ _ _ _ = absurd (other f refl)
is_at_once (Body b) _ _ _ other _ _ _ _ _ _ = absurd (other b refl)
is_at_once (Branches a b) _ _ _ _ other _ _ _ _ _ = absurd (other a b refl)
is_at_once (Wrap x) _ _ _ _ _ _ _ _ _ _ = refl
is_at_once (Arms x a b) _ _ _ _ _ other _ _ _ _ = absurd (other x a b refl)
is_at_once Payload _ _ _ _ _ _ _ _ _ _ = refl
is_at_once (Fields vs ts) _ _ _ _ _ _ other _ _ _ = absurd (other vs ts refl)
is_at_once (Pick i) _ _ _ _ _ _ _ _ _ _ = refl
is_at_once (Open i b) _ _ _ _ _ _ _ other _ _ = absurd (other i b refl)
is_at_once (Into i b) _ _ _ _ _ _ _ _ other _ = absurd (other i b refl)
is_at_once (Place i v) _ _ _ _ _ _ _ _ _ _ = refl
is_at_once (Leave i) _ _ _ _ _ _ _ _ _ _ = refl
is_at_once (Back saved types) _ _ _ _ _ _ _ _ _ _ = refl
is_at_once (Turn i t a) _ _ _ _ _ _ _ _ _ other = absurd (other i t a refl)

module _ (table : Table) where
  from_push : (k : Cont) (fs : List Frame) (f : Frame) → rest_from table k (fs ++ f ∷ []) ≡ on table f (rest_from table k fs)
  from_push k [] f = refl
  from_push k (g ∷ fs) f = from_push (on table g k) fs f

  pub rest_push : (fs : List Frame) (f : Frame) → rest table (fs ++ f ∷ []) ≡ on table f (rest table fs)
  unfolding rest
  rest_push fs f = from_push _ fs f

  -- a frame is pushed
  pub descends : (f : Frame) (k : Cont) (c : Context) (o : Outcome) → after table f c ≡ c → bind o (on table f k c) ≡ bind (bind o (resume table f c)) (k c)
  unfolding on
  descends f k c o w =
      ap (λ z. bind o (λ v m. bind (resume table f c v m) (k z))) w ∙ sym (bind_twice o (resume table f c) (k c))

  -- The fields of a record

  pub all_none : (ts : List (FieldTerm Typed)) (vs : List Val) (c : Context) (k : Cont) (l : ℕ) → length ts ≡ 0
      → bind (all_of (evaluate table) (named_of ts) c vs l) (k c) ≡ k c (parts (to_vals vs)) l
  unfolding to_named all_of
  all_none [] vs c k l e = refl
  all_none (t ∷ ts) vs c k l e = absurd (omega arith)

  all_first : (t : FieldTerm Typed) (ts : List (FieldTerm Typed)) (vs : List Val) (c : Context) (l : ℕ)
      → all_of (evaluate table) (named_of (t ∷ ts)) c vs l
      ≡ pay l (λ paid. bind (evaluate table (the_core t.term) c paid) (λ v rest. all_of (evaluate table) (named_of ts) c (vs ++ v ∷ []) rest))
  unfolding to_named all_of
  all_first t ts vs c l = ap (λ f. all_of (evaluate table) (to_named (f ∷ map the_core_field ts)) c vs l) (field_is t)

  pub all_more : (t : FieldTerm Typed) (a : Term Typed) (ts : List (FieldTerm Typed)) (tail : Bor (List (FieldTerm Typed))) (vs : List Value) (k : Cont) (c : Context) (l n : ℕ)
      → tail.now ≡ take (length ts - 1) (drop 1 ts) → 0 < length ts → t ≡ get_or ts 0 t → a ≡ t.term → n + 1 ≡ l
      → bind (evaluate table (the_core a) c n) (on table (Fields vs tail) k c) ≡ bind (all_of (evaluate table) (named_of ts) c (map value_of vs) l) (k c)
  unfolding resume after
  all_more t a [] tail vs k c l n d w g i e = absurd (omega arith)
  all_more t a (u ∷ ts) tail vs k c l n d w g i e =
      let same : tail.now ≡ ts = d ∙ take_all _ ts (omega arith) in
      let one : a ≡ u.term = i ∙ ap (λ z. z.term) g in
      descends (Fields vs tail) k c (evaluate table (the_core a) c n) refl
      ∙ ap (λ z. bind (bind (evaluate table (the_core a) c n) (λ v m. all_of (evaluate table) (named_of z) c (map value_of vs ++ v ∷ []) m)) (k c)) same
      ∙ ap (λ z. bind (bind (evaluate table (the_core z) c n) (λ v m. all_of (evaluate table) (named_of ts) c (map value_of vs ++ v ∷ []) m)) (k c)) one
      ∙ ap (λ o. bind o (k c)) (sym (paid l n e (λ m. bind (evaluate table (the_core u.term) c m) (λ v j. all_of (evaluate table) (named_of ts) c (map value_of vs ++ v ∷ []) j))))
      ∙ ap (λ o. bind o (k c)) (sym (all_first u ts (map value_of vs) c l))

  pub all_spent : (ts : List (FieldTerm Typed)) (vs : List Val) (c : Context) (h : Val → ℕ → Outcome) (l : ℕ) → 0 < length ts → l ≡ 0 → bind (all_of (evaluate table) (named_of ts) c vs l) h ≡ spent
  all_spent [] vs c h l w e = absurd (omega arith)
  all_spent (t ∷ ts) vs c h l w e = ap (λ o. bind o h) (all_first t ts vs c l) ∙ ap (λ z. bind (pay z (λ paid. bind (evaluate table (the_core t.term) c paid) (λ v rest. all_of (evaluate table) (named_of ts) c (vs ++ v ∷ []) rest))) h) e

  -- Scopes

  scoped : (t : Tree Note) (c : Context) (xs : List Val) (i : ℕ) (k : Cont) (l : ℕ) → i ≡ length c.values
      → bind (evaluate table t (record { types = c.types; values = c.values ++ xs }) l) (on table (Leave i) k (record { types = c.types; values = c.values ++ xs }))
      ≡ bind (evaluate table t (record { types = c.types; values = c.values ++ xs }) l) (k c)
  unfolding resume after on
  scoped t c xs i k l e =
      ap (λ z. bind (evaluate table t (record { types = c.types; values = c.values ++ xs }) l) (k (record { types = c.types; values = z }))) (ap (λ j. take j (c.values ++ xs)) e ∙ take-append_seam c.values xs)

  pub scope : (t : Tree Note) (ts : List Tau) (vs ws : List Value) (v : Value) (i : ℕ) (fs gs : List Frame) (l : ℕ)
      → i ≡ length vs → gs ≡ fs ++ Leave i ∷ [] → ws ≡ vs ++ v ∷ []
      → bind (evaluate table t (record { types = ts; values = map value_of ws }) l) (rest table gs (record { types = ts; values = map value_of ws }))
      ≡ bind (evaluate table t (record { types = ts; values = map value_of vs ++ value_of v ∷ [] }) l) (rest table fs (record { types = ts; values = map value_of vs }))
  scope t ts vs ws v i fs gs l n e d =
      let c : Context = record { types = ts; values = map value_of vs } in
      let m : map value_of ws ≡ map value_of vs ++ value_of v ∷ [] = ap (map value_of) d ∙ map-append value_of vs (v ∷ []) in
      ap (λ z. bind (evaluate table t (record { types = ts; values = z }) l) (rest table gs (record { types = ts; values = z }))) m
      ∙ ap (λ k. bind (evaluate table t (push c (value_of v)) l) (k (push c (value_of v)))) (ap (rest table) e ∙ rest_push fs (Leave i))
      ∙ scoped t c (value_of v ∷ []) i (rest table fs) l (n ∙ sym (length-map vs value_of))

  pub scope_two : (t : Tree Note) (ts : List Tau) (vs ws : List Value) (v w : Value) (i : ℕ) (fs gs : List Frame) (l : ℕ)
      → i ≡ length vs → gs ≡ fs ++ Leave i ∷ [] → ws ≡ (vs ++ v ∷ []) ++ w ∷ []
      → bind (evaluate table t (record { types = ts; values = map value_of ws }) l) (rest table gs (record { types = ts; values = map value_of ws }))
      ≡ bind (evaluate table t (record { types = ts; values = (map value_of vs ++ value_of v ∷ []) ++ value_of w ∷ [] }) l) (rest table fs (record { types = ts; values = map value_of vs }))
  scope_two t ts vs ws v w i fs gs l n e d =
      let c : Context = record { types = ts; values = map value_of vs } in
      let a = append_assoc (map value_of vs) (value_of v ∷ []) (value_of w ∷ []) in
      let m : map value_of ws ≡ map value_of vs ++ (value_of v ∷ value_of w ∷ []) =
      ap (map value_of) (d ∙ append_assoc vs (v ∷ []) (w ∷ [])) ∙ map-append value_of vs (v ∷ w ∷ []) in
      ap (λ z. bind (evaluate table t (record { types = ts; values = z }) l) (rest table gs (record { types = ts; values = z }))) m
      ∙ ap (λ k. bind (evaluate table t (record { types = ts; values = map value_of vs ++ (value_of v ∷ value_of w ∷ []) }) l) (k (record { types = ts; values = map value_of vs ++ (value_of v ∷ value_of w ∷ []) }))) (ap (rest table) e ∙ rest_push fs (Leave i))
      ∙ scoped t c (value_of v ∷ value_of w ∷ []) i (rest table fs) l (n ∙ sym (length-map vs value_of))
      ∙ ap (λ z. bind (evaluate table t (record { types = ts; values = z }) l) (rest table fs c)) (sym a)

  pub back : (t : Tree Note) (c : Context) (saved : Vec Value Global) (types : List Ty) (k : Cont) (l : ℕ) → bind (evaluate table t c l) (on table (Back saved types) k c)
      ≡ bind (evaluate table t c l) (k (record { types = map type_of types; values = map value_of saved.items }))
  unfolding resume after on
  back t c saved types k l = refl

  -- What a frame does with its value

  then_push : (o : Outcome) (f : Frame) (k : Cont) (c : Context) → after table f c ≡ c → bind (bind o (resume table f c)) (k c) ≡ bind o (on table f k c)
  then_push o f k c w = sym (descends f k c o w)

  pub on_one : (o : Op) (ty : Bor Ty) (v : Val) (k : Cont) (c : Context) (l : ℕ) → on table (One o ty) k c v l ≡ k c (operated o (type_of ty.now) v) l
  unfolding resume after on
  on_one o ty v k c l = refl

  pub on_right : (o : Op) (ty : Bor Ty) (b : Bor (Term Typed)) (v : Value) (k : Cont) (c : Context) (l : ℕ) → on table (Right o ty b) k c (value_of v) l ≡ bind (evaluate table (the_core b.now) c l) (on table (Two o ty v) k c)
  unfolding resume after on
  on_right o ty b v k c l = then_push (evaluate table (the_core b.now) c l) (Two o ty v) k c refl

  pub on_two : (o : Op) (ty : Bor Ty) (a : Value) (v : Val) (k : Cont) (c : Context) (l : ℕ) → on table (Two o ty a) k c v l ≡ k c (operated_both o (type_of ty.now) (value_of a) v) l
  unfolding resume after on
  on_two o ty a v k c l = refl

  pub on_argument : (b : Bor (Term Typed)) (v : Value) (k : Cont) (c : Context) (l : ℕ) → on table (Argument b) k c (value_of v) l ≡ bind (evaluate table (the_core b.now) c l) (on table (Call v) k c)
  unfolding resume after on
  on_argument b v k c l = then_push (evaluate table (the_core b.now) c l) (Call v) k c refl

  pub on_call : (a : Value) (v : Val) (k : Cont) (c : Context) (l : ℕ) → on table (Call a) k c v l ≡ bind (apply table (evaluate table) (value_of a) v l) (k c)
  unfolding resume after on
  on_call a v k c l = refl

  pub on_body : (b : Bor (Term Typed)) (v : Val) (k : Cont) (c : Context) (l : ℕ) → on table (Body b) k c v l ≡ bind (evaluate table (the_core b.now) (push c v) l) (k c)
  unfolding resume after on
  on_body b v k c l = refl

  pub on_branches : (a b : Bor (Term Typed)) (v : Val) (k : Cont) (c : Context) (l : ℕ) → on table (Branches a b) k c v l
      ≡ cond (is_true v) (bind (evaluate table (the_core a.now) c l) (k c)) (bind (evaluate table (the_core b.now) c l) (k c))
  unfolding resume after on
  on_branches a b v k c l = pick_one (is_true v) (λ t. bind (evaluate table t c l) (k c)) (the_core a.now) (the_core b.now)

  pub on_wrap : (x : Bor (List ℕ)) (v : Val) (k : Cont) (c : Context) (l : ℕ) → on table (Wrap x) k c v l ≡ k c (chosen x.now v) l
  unfolding resume after on
  on_wrap x v k c l = refl

  pub on_arms : (x : Bor (List ℕ)) (a b : Bor (Term Typed)) (v : Val) (k : Cont) (c : Context) (l : ℕ) → on table (Arms x a b) k c v l
      ≡ cond (has_name x.now v) (bind (evaluate table (the_core a.now) (push c (payload_in v)) l) (k c)) (bind (evaluate table (the_core b.now) (push c v) l) (k c))
  unfolding resume after on
  on_arms x a b v k c l = pick_one (has_name x.now v) (λ o. bind o (k c)) _ _

  pub on_payload : (v : Val) (k : Cont) (c : Context) (l : ℕ) → on table Payload k c v l ≡ k c (payload_in v) l
  unfolding resume after on
  on_payload v k c l = refl

  pub on_fields : (vs : List Value) (ts : Bor (List (FieldTerm Typed))) (v : Value) (k : Cont) (c : Context) (l : ℕ) → on table (Fields vs ts) k c (value_of v) l
      ≡ bind (all_of (evaluate table) (named_of ts.now) c (map value_of (vs ++ v ∷ [])) l) (k c)
  unfolding resume after on
  on_fields vs ts v k c l = ap (λ z. bind (all_of (evaluate table) (named_of ts.now) c z l) (k c)) (sym (map-append value_of vs (v ∷ [])))

  pub on_pick : (i : ℕ) (v : Val) (k : Cont) (c : Context) (l : ℕ) → on table (Pick i) k c v l ≡ k c (field v i) l
  unfolding resume after on
  on_pick i v k c l = refl

  pub on_open : (i : ℕ) (b : Bor (Term Typed)) (v : Val) (k : Cont) (c : Context) (l : ℕ) → on table (Open i b) k c v l
      ≡ bind (evaluate table (the_core b.now) (push (push c (without v i)) (field v i)) l) (k c)
  unfolding resume after on
  on_open i b v k c l = refl

  pub on_into : (i : ℕ) (b : Bor (Term Typed)) (v : Value) (k : Cont) (c : Context) (l n : ℕ) → n + 1 ≡ l → on table (Into i b) k c (value_of v) l
      ≡ bind (evaluate table (the_core b.now) c n) (on table (Place i v) k c)
  unfolding resume after on
  on_into i b v k c l n e =
      ap (λ o. bind o (k c)) (paid l n e (λ m. bind (evaluate table (the_core b.now) c m) (λ w j. gives (with_field (value_of v) i w) j)))
      ∙ then_push (evaluate table (the_core b.now) c n) (Place i v) k c refl

  pub into_spent : (i : ℕ) (b : Bor (Term Typed)) (v : Val) (k : Cont) (c : Context) (l : ℕ) → l ≡ 0 → on table (Into i b) k c v l ≡ spent
  unfolding resume after on
  into_spent i b v k c l e = ap (on table (Into i b) k c v) e

  pub on_place : (i : ℕ) (r : Value) (v : Val) (k : Cont) (c : Context) (l : ℕ) → on table (Place i r) k c v l ≡ k c (with_field (value_of r) i v) l
  unfolding resume after on
  on_place i r v k c l = refl

  pub on_leave : (i : ℕ) (v : Val) (k : Cont) (c : Context) (l : ℕ) → on table (Leave i) k c v l ≡ k (record { types = c.types; values = take i c.values }) v l
  unfolding resume after on
  on_leave i v k c l = refl

  pub on_back : (saved : Vec Value Global) (types : List Ty) (v : Val) (k : Cont) (c : Context) (l : ℕ) → on table (Back saved types) k c v l ≡ k (record { types = map type_of types; values = map value_of saved.items }) v l
  unfolding resume after on
  on_back saved types v k c l = refl

  -- Turns

  pub on_turn : (i : ℕ) (t : Turns) (a : Value) (v : Val) (k : Cont) (c : Context) (l : ℕ) → on table (Turn i t a) k c v l
      ≡ cond (stops t.lib v) (k c v l) (bind (turns_of table t (indices_from (i + t.step) t.to t.step) (changed t.lib i (value_of a) v) (carried t.lib v) l) (k c))
  unfolding resume after on
  on_turn i t a v k c l = pick_one (stops t.lib v) (λ o. bind o (k c)) _ _

  pub turn_more : (i : ℕ) (t : Turns) (a : Value) (s : Val) (k : Cont) (c : Context) (l n : ℕ) → n + 1 ≡ l
      → bind (turn table t i (value_of a) s n) (on table (Turn i t a) k c) ≡ bind (turns_of table t (i ∷ indices_from (i + t.step) t.to t.step) (value_of a) s l) (k c)
  unfolding resume after turns
  turn_more i t a s k c l n e =
      descends (Turn i t a) k c (turn table t i (value_of a) s n) refl
      ∙ ap (λ o. bind o (k c)) (sym (paid l n e (λ m. bind (turn table t i (value_of a) s m) (λ v j.
      if stops t.lib v then gives v j else turns_of table t (indices_from (i + t.step) t.to t.step) (changed t.lib i (value_of a) v) (carried t.lib v) j))))

  -- a turn was not the last
  pub turn_goes_on : (i : ℕ) (t : Turns) (a : Value) (v b s : Val) (next : Option ℕ) (k : Cont) (c : Context) (l : ℕ) → stops t.lib v ≡ false
      → indices_from (i + t.step) t.to t.step ≡ upcoming t.to t.step next → b ≡ changed t.lib i (value_of a) v → s ≡ carried t.lib v
      → bind (turns_of table t (upcoming t.to t.step next) b s l) (k c) ≡ on table (Turn i t a) k c v l
  turn_goes_on i t a v b s next k c l e d u w =
      ap (λ is. bind (turns_of table t is b s l) (k c)) (sym d)
      ∙ ap (λ z. bind (turns_of table t (indices_from (i + t.step) t.to t.step) z s l) (k c)) u
      ∙ ap (λ z. bind (turns_of table t (indices_from (i + t.step) t.to t.step) (changed t.lib i (value_of a) v) z l) (k c)) w
      ∙ ap (λ z. cond z (k c v l) (bind (turns_of table t (indices_from (i + t.step) t.to t.step) (changed t.lib i (value_of a) v) (carried t.lib v) l) (k c))) (sym e)
      ∙ sym (on_turn i t a v k c l)

  -- the turn at an index begins, with a frame that waits for what it gives
  pub turn_begins : (i : ℕ) (t : Turns) (a : Value) (s f x : Val) (fs gs : List Frame) (c : Context) (l n : ℕ) → n + 1 ≡ l → gs ≡ fs ++ Turn i t a ∷ []
      → f ≡ value_of t.function → x ≡ asked t.lib (value_of t.observed) i (value_of a) s
      → bind (call table (evaluate table) f x n) (rest table gs c) ≡ bind (turns_of table t (i ∷ indices_from (i + t.step) t.to t.step) (value_of a) s l) (rest table fs c)
  turn_begins i t a s f x fs gs c l n e d u w =
      ap (λ z. bind (call table (evaluate table) z x n) (rest table gs c)) u
      ∙ ap (λ z. bind (call table (evaluate table) (value_of t.function) z n) (rest table gs c)) w
      ∙ ap (λ k. bind (turn table t i (value_of a) s n) (k c)) (ap (rest table) d ∙ rest_push fs (Turn i t a))
      ∙ turn_more i t a s (rest table fs) c l n e

  pub turn_none : (t : Turns) (a s : Val) (h : Val → ℕ → Outcome) (l : ℕ) → bind (turns_of table t [] a s l) h ≡ h (ended t.lib a s) l
  unfolding turns
  turn_none t a s h l = refl

  pub turn_spent : (i : ℕ) (t : Turns) (is : List ℕ) (a s : Val) (h : Val → ℕ → Outcome) (l : ℕ) → l ≡ 0 → bind (turns_of table t (i ∷ is) a s l) h ≡ spent
  unfolding turns
  turn_spent i t is a s h l e = ap (λ z. bind (turns_of table t (i ∷ is) a s z) h) e

  -- a function of the library that is no iterator
  pub asks_library : (lib : Lib) (types : List Tau) (x : Val) (h : Val → ℕ → Outcome) (l : ℕ) → is_iterator lib ≡ false
      → bind (apply_fun table (evaluate table) (OfLib lib) types x l) h ≡ bind (pay_for (library_cost lib x) l (λ rest. gives (library_value lib types x) rest)) h
  asks_library lib types x h l e =
      ap (λ b. bind (cond b (iterated table (evaluate table) lib x l) (pay_for (library_cost lib x) l (λ rest. gives (library_value lib types x) rest))) h) e

  -- what costs so much, and gives a value
  pub costs : (cost l : ℕ) (v : Val) (h : Val → ℕ → Outcome) → cost ≤ l → bind (pay_for cost l (λ rest. gives v rest)) h ≡ h v (l - cost)
  costs cost l v h w = ap (λ b. bind (cond b spent (gives v (l - cost))) h) (le-ltb l cost w)

  pub costs_more : (cost l : ℕ) (v : Val) (h : Val → ℕ → Outcome) → l < cost → bind (pay_for cost l (λ rest. gives v rest)) h ≡ spent
  costs_more cost l v h w = ap (λ b. bind (cond b spent (gives v (l - cost))) h) (lt-ltb l cost w)

pub ruleset machine_steps = (rest_push, all_none, all_more, all_spent, back, on_one, on_right, on_two, on_argument, on_call, on_body, on_branches, on_wrap, on_arms, on_payload, on_fields, on_pick, on_open, on_into, into_spent, on_place, on_leave, on_back, on_turn, turn_more, turn_spent, costs, costs_more)
