-- The pass answers the first event that fails: leaves, operators and nodes with one part.
use Rattle.std.proofs.Common.{◌≡◌, ℕ, Bool, true, false, ◌||◌, not, cond, Option, Some, None, Ok, List, [], ◌∷◌, ◌++◌, length, refl, sym, ap, ◌∙◌}
use Rattle.cg_base.specs.declared.fun.Fun.{Fun}
use Rattle.cg_base.specs.declared.kind.Kinds.{Kinds}
use Rattle.cg_base.specs.declared.place.Place.{Place}
use Rattle.cg_base.specs.Types as types
use Rattle.cg_base.specs.Types.{Tau}
use Rattle.cg_core.specs.declared.at.At.{At}
use Rattle.cg_core.specs.declared.op.Op.{Op}
use Rattle.cg_core.specs.declared.derivation.Node.TheVariants as nodes
use Rattle.cg_core.specs.Derivations.{Derivation}
use Rattle.cg_core.specs.Kernels.{Function}
use Rattle.cg_core.specs.Terms.{Tree, term, Shape, var, lit, fun, op, con, esac, member, cast, annot, none, more, Arg, Note}
use Rattle.cg_kinds.specs.Kinds.{is_word}
use Rattle.cg_faults.specs.declared.rule.Rule.TheVariants.{K4, K6, T1, T5, T6, T8, T9, T10, T12, T14}
use Rattle.cg_typing.specs.Contexts.{shares}
use Rattle.cg_faults.specs.Events.{Event, Before, after, meets, argument_events, asked_event, guided, binary_events, unary_events, events, events_shape}
use Rattle.cg_typing.specs.Functions.{Asked, these, a_cell, an_element, nothing, asked_by, next_asked, later_asked}
use Rattle.cg_faults.specs.Occurrences.{touched, used, Sighting, sightings}
use Rattle.cg_typing.specs.Operators.{Sort, arithmetic, equality, order, logic, sort_of, takes, gives, operand}
use Rattle.cg_typing.specs.Parts.{is_variant, is_there, is_left, is_last, field_in, alternative_in, held, has_word_arrays}
use Rattle.cg_check_def.specs.NormalForm.{operand_type, core, core_shape}
use Rattle.cg_check_def.specs.Pass.{Out, need, meet, made, Got, Way, unary, binary, arguments, asked_test, check, check_shape}
use Rattle.cg_check_uses.specs.Marks.{marks_of_uses, one_part, two_parts}
use Rattle.cg_check_uses.specs.Uses.{use_of, both, join, mark}
use Rattle.cg_check_uses.specs.declared.entry.Use.{Use}
use Rattle.cg_faults.specs.Plain.{plain, plain_in, plain_at}
use Rattle.cg_typing.specs.Rules.{is_literal}
use Rattle.cg_check_laws.proofs.Basics.{or_none}
use Rattle.cg_check_laws.proofs.Clash.{Lawful}
use Rattle.cg_check_laws.proofs.Own.{own, own_shape, value}
use Rattle.cg_check_laws.proofs.PassSteps.{run, run_append, next, last_part, meet_is, meet_in, in_direction, first_bad, use_in, uses, use_two, join_table, Same, same_mark}
use Rattle.cg_check_uses.proofs.TableSteps.{table_is as table_same}
use Rattle.cg_base.proofs.Sequences.{append_none}

-- ---- operators, over what each operand answers in a direction

-- an operand of a type, a core in each direction, and a derivation
abbrev pub operand_value : Tau → (Option Tau → Tree Note) → Derivation → List Use → Option Tau → Got
operand_value t c d us way = record { ty = in_direction way t; core = c way; tree = d; uses = us }

module _ (o : Op) (place : Place) (bs : List Bool) (x : Way) (part : Option Tau → List Event) (a : Tau) (c : Option Tau → Tree Note) (d : Derivation) (us : List Use)
    (answers : (way : Option Tau) → x bs way ≡ run (part way) (Ok (operand_value a c d us way))) where
  abbrev X : Option Tau → Got
  X = operand_value a c d us

  -- what the operator comes to, with its operand checked so
  abbrev Whole : Option Tau → Tau → Got
  Whole way t = made place t (op o (more (c way) none)) (one_part nodes.Op d) us

  meet_bool : (way dir : Option Tau) → meet dir place types.bool (Ok (Whole way types.bool)) ≡ run (meets dir place types.bool) (Ok (Whole way (in_direction dir types.bool)))
  meet_bool way dir = meet_in dir place types.bool _ _ us ∙ meet_is dir place types.bool _

  pub unary_is : (sort : Sort) (dir : Option Tau)
      → unary sort o dir place bs x ≡ run (unary_events sort dir place a part) (Ok (Whole (operand sort dir true (operand_type sort dir a)) (in_direction dir (gives sort a))))
  unary_is logic dir = next (x bs (Some types.bool)) _ (part (Some types.bool)) _ (X (Some types.bool)) _ (answers (Some types.bool)) (meet_bool (Some types.bool) dir)
  unary_is arithmetic (Some t) = ap (need T12 place (is_word t)) (last_part (x bs (Some t)) _ (part (Some t)) (X (Some t)) _ (answers (Some t)) refl)
  unary_is arithmetic None = next (x bs None) _ (part None) _ (X None) _ (answers None) refl
  unary_is equality dir = next (x bs None) _ (part None) _ (X None) _ (answers None) (ap (need T12 place (takes equality a)) (meet_bool None dir))
  unary_is order dir = next (x bs None) _ (part None) _ (X None) _ (answers None) (ap (need T12 place (takes order a)) (meet_bool None dir))

module _ (o : Op) (place : Place) (bs : List Bool) (l r : Way) (left right : Option Tau → List Event) (a b : Tau) (cl cr : Option Tau → Tree Note) (dl dr : Derivation) (ul ur : List Use)
    (pl : (way : Option Tau) → l bs way ≡ run (left way) (Ok (operand_value a cl dl ul way)))
    (pr : (way : Option Tau) → r (mark bs ul) way ≡ run (right way) (Ok (operand_value b cr dr ur way))) where
  abbrev L : Option Tau → Got
  L = operand_value a cl dl ul

  abbrev R : Option Tau → Got
  R = operand_value b cr dr ur

  abbrev Both : Option Tau → Option Tau → Tau → Got
  Both v w t = made place t (op o (more (cl v) (more (cr w) none))) (two_parts nodes.Op (marks_of_uses ul ur) dl dr) (join ul ur)

  both_bool : (v w dir : Option Tau) → meet dir place types.bool (Ok (Both v w types.bool)) ≡ run (meets dir place types.bool) (Ok (Both v w (in_direction dir types.bool)))
  both_bool v w dir = meet_in dir place types.bool _ _ (join ul ur) ∙ meet_is dir place types.bool _

  abbrev First : Bool → Type 0
  First q = q ≡ true → (way : Option Tau) → r bs way ≡ run (right way) (Ok (R way))

  -- the operands' type
  abbrev Kind : Sort → Option Tau → Bool → Tau
  Kind sort dir q = operand_type sort dir (cond q b a)

  pub binary_is : (sort : Sort) (dir : Option Tau) (q : Bool) → First q → binary sort o dir place q bs l r ≡ run (binary_events sort dir place q a b left right)
      (Ok (Both (operand sort dir (not q) (Kind sort dir q)) (operand sort dir q (Kind sort dir q)) (in_direction dir (gives sort (cond q b a)))))
  binary_is logic dir q f =
      next (l bs (Some types.bool)) _ (left (Some types.bool)) _ (L (Some types.bool)) _ (pl (Some types.bool))
      (next (r (mark bs ul) (Some types.bool)) _ (right (Some types.bool)) _ (R (Some types.bool)) _ (pr (Some types.bool)) (both_bool (Some types.bool) (Some types.bool) dir))
  binary_is arithmetic (Some t) true f =
      ap (need T12 place (is_word t)) (next (l bs (Some t)) _ (left (Some t)) (right (Some t)) (L (Some t)) _ (pl (Some t))
      (last_part (r (mark bs ul) (Some t)) _ (right (Some t)) (R (Some t)) _ (pr (Some t)) refl))
  binary_is arithmetic (Some t) false f =
      ap (need T12 place (is_word t)) (next (l bs (Some t)) _ (left (Some t)) (right (Some t)) (L (Some t)) _ (pl (Some t))
      (last_part (r (mark bs ul) (Some t)) _ (right (Some t)) (R (Some t)) _ (pr (Some t)) refl))
  binary_is arithmetic None true f =
      next (r bs None) _ (right None) _ (R None) _ (f refl None) (ap (need T12 place (is_word b)) (last_part (l bs (Some b)) _ (left (Some b)) (L (Some b)) _ (pl (Some b)) refl))
  binary_is arithmetic None false f =
      next (l bs None) _ (left None) _ (L None) _ (pl None) (ap (need T12 place (is_word a)) (last_part (r (mark bs ul) (Some a)) _ (right (Some a)) (R (Some a)) _ (pr (Some a)) refl))
  binary_is equality dir true f =
      next (r bs None) _ (right None) _ (R None) _ (f refl None)
      (ap (need T12 place (takes equality b)) (last_part (l bs (Some b)) _ (left (Some b)) (L (Some b)) _ (pl (Some b)) (both_bool (Some b) None dir)))
      ∙ sym (run_append (guided equality place b right left) _ _)
  binary_is equality dir false f =
      next (l bs None) _ (left None) _ (L None) _ (pl None)
      (ap (need T12 place (takes equality a)) (last_part (r (mark bs ul) (Some a)) _ (right (Some a)) (R (Some a)) _ (pr (Some a)) (both_bool None (Some a) dir)))
      ∙ sym (run_append (guided equality place a left right) _ _)
  binary_is order dir true f =
      next (r bs None) _ (right None) _ (R None) _ (f refl None)
      (ap (need T12 place (takes order b)) (last_part (l bs (Some b)) _ (left (Some b)) (L (Some b)) _ (pl (Some b)) (both_bool (Some b) None dir)))
      ∙ sym (run_append (guided order place b right left) _ _)
  binary_is order dir false f =
      next (l bs None) _ (left None) _ (L None) _ (pl None)
      (ap (need T12 place (takes order a)) (last_part (r (mark bs ul) (Some a)) _ (right (Some a)) (R (Some a)) _ (pr (Some a)) (both_bool None (Some a) dir)))
      ∙ sym (run_append (guided order place a left right) _ _)

-- ---- uses of a list's last part

pub use_last : (a c : Bool) (xs : List Sighting) → use_of (a || false) (c || false) (first_bad (xs ++ [])) ≡ use_of a c (first_bad xs)
use_last a c xs = ap (λ z. use_of z (c || false) (first_bad (xs ++ []))) (or_none a) ∙ ap (λ z. use_of a z (first_bad (xs ++ []))) (or_none c) ∙ ap (λ z. use_of a c (first_bad z)) (append_none xs)

pub literal_untouched : (e : Tree Place) (i : ℕ) → is_literal e ≡ true → touched i e ≡ false
literal_untouched (term place (lit value)) i h = refl
literal_untouched _ i h = absurd (cc)

pub same_literal : (n : ℕ) (bs : List Bool) (f : Before) (e : Tree Place) → is_literal e ≡ true → Same n bs f → Same n bs (after f e)
same_literal n bs f e h s = record { long = s.long; at_is = λ i lt. s.at_is i lt ∙ sym (or_none (f i)) ∙ ap (λ z. f i || z) (sym (literal_untouched e i h)) }

module _ (functions : List Function) (vars : List Kinds) (types_in : ℕ) where
  -- the pass over a term answers what its events say, and what the term comes to
  abbrev pub Passes : Tree Place → Type 0
  Passes e = (p : List Tau) (bs : List Bool) (f : Before) (dir : Option Tau) → Lawful functions vars types_in (length p) e → Same (length p) bs f
      → check functions vars p bs dir e ≡ run (events functions vars p f dir e) (Ok (value functions (length p) p dir e))

  abbrev pub PassesShape : Place → Shape Place → Type 0
  PassesShape a s = (p : List Tau) (bs : List Bool) (f : Before) (dir : Option Tau) → Lawful functions vars types_in (length p) (term a s) → Same (length p) bs f
      → check_shape functions vars p bs dir a s ≡ run (events_shape functions vars p f dir a s) (Ok (value functions (length p) p dir (term a s)))

  in_is : (p : List Tau) (dir : Option Tau) (e : Tree Place) → plain_in functions p dir e ≡ in_direction dir (plain functions p e)
  in_is p None e = refl
  in_is p (Some u) e = refl

  pub got : (p : List Tau) (dir : Option Tau) (a : Place) (s : Shape Place) (t : Tau) (d : Derivation) (us : List Use)
      → t ≡ plain_in functions p dir (term a s) → d ≡ own_shape (length p) s → us ≡ uses (length p) (term a s)
      → ◌≡◌ {A = Out Got} (Ok (made a t (core_shape functions p dir s) d us)) (Ok (value functions (length p) p dir (term a s)))
  got p dir a s t d us h j k =
      ap (λ z. Ok (made a z (core_shape functions p dir s) d us)) h ∙ ap (λ z. Ok (made a (plain_in functions p dir (term a s)) (core_shape functions p dir s) z us)) j
      ∙ ap (λ z. Ok (made a (plain_in functions p dir (term a s)) (core_shape functions p dir s) (own_shape (length p) s) z)) k

  -- what a node that synthesises ends with
  pub meets_got : (p : List Tau) (dir : Option Tau) (a : Place) (s : Shape Place) (us : List Use) → us ≡ uses (length p) (term a s)
      → meet dir a (plain functions p (term a s)) (Ok (made a (plain functions p (term a s)) (core_shape functions p dir s) (own_shape (length p) s) us))
      ≡ run (meets dir a (plain functions p (term a s))) (Ok (value functions (length p) p dir (term a s)))
  meets_got p dir a s us k =
      meet_in dir a (plain functions p (term a s)) _ _ us ∙ meet_is dir a (plain functions p (term a s)) _
      ∙ ap (run (meets dir a (plain functions p (term a s)))) (got p dir a s _ _ us (sym (in_is p dir (term a s))) refl k)

  pub pass_var : (a : Place) (j : ℕ) → PassesShape a (var j)
  pass_var a j p bs f dir s b =
      ap (λ q. need K4 a (not q || shares vars (plain_at p j)) (meet dir a (plain_at p j) (Ok (made a (plain_at p j) (var j) (own_shape (length p) (var j)) (uses (length p) (term a (var j))))))) (b.at_is j s)
      ∙ ap (need K4 a (not (f j) || shares vars (plain_at p j))) (meets_got p dir a (var j) _ refl)

  pub pass_lit : (a : Place) (v : Option ℕ) → PassesShape a (lit v)
  pass_lit a v p bs f None s b = refl
  pass_lit a v p bs f (Some t) s b = refl

  asked_is : {A : Type 0} (asked : Asked) (place : Place) (t : Tau) (k : Out A) → asked_test functions vars asked place t k ≡ run (asked_event functions vars asked place t) k
  asked_is (these w) place t k = refl
  asked_is a_cell place t k = refl
  asked_is an_element place t k = refl
  asked_is nothing place t k = refl

  arguments_is : {A : Type 0} (asked : List Asked) (args : List Arg) (k : Out A) → arguments functions vars asked args k ≡ run (argument_events functions vars asked args) k
  arguments_is asked [] k = refl
  arguments_is asked (a ∷ args) k = ap (need T14 a.place (has_word_arrays a.ty))
      (asked_is (next_asked asked) a.place a.ty _ ∙ ap (run (asked_event functions vars (next_asked asked) a.place a.ty)) (arguments_is (later_asked asked) args k)
      ∙ sym (run_append (asked_event functions vars (next_asked asked) a.place a.ty) _ k))

  pub pass_fun : (a : Place) (g : Fun) (args : List Arg) → PassesShape a (fun g args)
  pass_fun a g args p bs f dir s b =
      arguments_is (asked_by functions g) args _ ∙ ap (run (argument_events functions vars (asked_by functions g) args)) (meets_got p dir a (fun g args) _ refl)
      ∙ sym (run_append (argument_events functions vars (asked_by functions g) args) _ _)

  -- an operand in any direction
  operand_is : (n : ℕ) (p : List Tau) (f : Before) (e : Tree Place) (way : Option Tau)
      → ◌≡◌ {A = Out Got} (run (events functions vars p f way e) (Ok (value functions n p way e)))
      (run (events functions vars p f way e) (Ok (operand_value (plain functions p e) (λ way. core functions p way e) (own n e) (uses n e) way)))
  operand_is n p f e None = refl
  operand_is n p f e (Some u) = refl

  pub pass_unary : (a : Place) (o : Op) (x : Tree Place) → Passes x → PassesShape a (op o (more x none))
  pass_unary a o x px p bs f dir s b =
      let n = length p in let whole : Shape Place = op o (more x none) in
      unary_is o a bs (λ b way. check functions vars p b way x) (λ way. events functions vars p f way x) (plain functions p x) (λ way. core functions p way x) (own n x) (uses n x)
      (λ way. px p bs f way s.1.0 b ∙ operand_is n p f x way) (sort_of o) dir
      ∙ ap (run (unary_events (sort_of o) dir a (plain functions p x) (λ way. events functions vars p f way x)))
      (got p dir a whole _ _ _ (sym (in_is p dir (term a whole))) refl
      (table_same n (use_in x) (use_in (term a whole)) (λ i. sym (use_last (touched i x) (used i x) (sightings i x)))))

  pub pass_binary : (a : Place) (o : Op) (l r : Tree Place) → Passes l → Passes r → PassesShape a (op o (more l (more r none)))
  pass_binary a o l r pl pr p bs f dir s b =
      let n = length p in let whole : Shape Place = op o (more l (more r none)) in
      binary_is o a bs (λ b way. check functions vars p b way l) (λ b way. check functions vars p b way r) (λ way. events functions vars p f way l) (λ way. events functions vars p (after f l) way r)
      (plain functions p l) (plain functions p r) (λ way. core functions p way l) (λ way. core functions p way r) (own n l) (own n r) (uses n l) (uses n r)
      (λ way. pl p bs f way s.1.0 b ∙ operand_is n p f l way)
      (λ way. pr p (mark bs (uses n l)) (after f l) way s.1.1.0 (same_mark n bs f l b) ∙ operand_is n p (after f l) r way)
      (sort_of o) dir (is_literal l) (λ q way. pr p bs (after f l) way s.1.1.0 (same_literal n bs f l q b) ∙ operand_is n p (after f l) r way)
      ∙ ap (run (binary_events (sort_of o) dir a (is_literal l) (plain functions p l) (plain functions p r) (λ way. events functions vars p f way l) (λ way. events functions vars p (after f l) way r)))
      (got p dir a whole _ _ _ (sym (in_is p dir (term a whole))) refl (join_table n (use_in l) (use_in r) ∙ table_same n (λ i. both (use_in l i) (use_in r i)) (use_in (term a whole))
      (λ i. ap (both (use_in l i)) (sym (use_last (touched i r) (used i r) (sightings i r)))
      ∙ use_two (touched i l) (touched i r || false) (used i l) (used i r || false) (sightings i l) (sightings i r ++ []))))

  pub pass_con : (a : Place) (name : List ℕ) (e : Tree Place) → Passes e → PassesShape a (con name e)
  pass_con a name e pe p bs f None s b = refl
  pass_con a name e pe p bs f (Some t) s b =
      ap (need T1 a (is_variant t)) (ap (need T8 a (is_left (alternative_in name t)))
      (last_part (check functions vars p bs (Some (held (alternative_in name t))) e) _ (events functions vars p f (Some (held (alternative_in name t))) e) _ _ (pe p bs f (Some (held (alternative_in name t))) s b) refl))

  pub pass_esac : (a : Place) (at : At) (e : Tree Place) → Passes e → PassesShape a (esac at e)
  pass_esac a at e pe p bs f dir s b =
      next (check functions vars p bs None e) _ (events functions vars p f None e) _ _ _ (pe p bs f None s b)
      (ap (need T8 at.place (is_there (alternative_in at.name (plain functions p e)))) (ap (need T10 at.place (is_left (alternative_in at.name (plain functions p e))))
      (ap (need T9 at.place (is_last at.name (plain functions p e))) (meets_got p dir a (esac at e) _ refl))))

  pub pass_member : (a : Place) (e : Tree Place) (at : At) → Passes e → PassesShape a (member e at)
  pass_member a e at pe p bs f dir s b =
      next (check functions vars p bs None e) _ (events functions vars p f None e) _ _ _ (pe p bs f None s b)
      (ap (need T5 at.place (is_there (field_in at.name (plain functions p e)))) (ap (need T6 at.place (is_left (field_in at.name (plain functions p e))))
      (ap (need K6 at.place (shares vars (plain functions p e))) (meets_got p dir a (member e at) _ refl))))

  pub pass_cast : (a : Place) (e : Tree Place) → Passes e → PassesShape a (cast e)
  pass_cast a e pe p bs f None s b = refl
  pass_cast a e pe p bs f (Some t) s b = next (check functions vars p bs None e) _ (events functions vars p f None e) _ _ _ (pe p bs f None s b) refl

  pub pass_annot : (a : Place) (e : Tree Place) (t : Arg) → Passes e → PassesShape a (annot e t)
  pass_annot a e t pe p bs f dir s b =
      ap (need T14 t.place (has_word_arrays t.ty)) (next (check functions vars p bs (Some t.ty) e) _ (events functions vars p f (Some t.ty) e) _ _ _ (pe p bs f (Some t.ty) s.0 b) (meets_got p dir a (annot e t) _ refl))
