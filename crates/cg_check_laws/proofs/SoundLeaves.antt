-- Where no event fails, the tree with the occurrence marks is a derivation: what that says of a term, and the leaves.
use Rattle.std.proofs.Common.{◌≡◌, ℕ, zero, suc, ◌<◌, Bool, true, Option, Some, None, List, [], ◌∷◌, ◌++◌, length, map, refl, sym, ap, ◌∙◌, subst, ltb-true, eq-eqb}
use Rattle.std.specs.Prelude.{slice_get}
use Rattle.cg_base.specs.declared.fun.Fun.{Fun}
use Rattle.cg_base.specs.declared.fun.Fun.TheVariants.{User, Lib as OfLib}
use Rattle.cg_base.specs.declared.kind.Kinds.{Kinds}
use Rattle.cg_base.specs.declared.place.Place.{Place}
use Rattle.cg_base.specs.Types.{Tau, word}
use Rattle.cg_core.specs.Kernels.{Function}
use Rattle.cg_core.specs.Terms.{Tree, term, Shape, var, unit, bool, lit, fun, Arg}
use Rattle.cg_core_def.specs.Lawful.{Takes}
use Rattle.cg_typing.specs.Contexts.{Context, look, drops}
use Rattle.cg_faults.specs.Events.{Event, Before, meets, argument_events, asked_event, events, events_shape, RulesHold}
use Rattle.cg_typing.specs.Functions.{fun_type, Asked, these, a_cell, an_element, nothing, asked_by, next_asked, later_asked, meets_asked, are_good_arguments}
use Rattle.cg_check_def.specs.NormalForm.{core, tree}
use Rattle.cg_faults.specs.Occurrences.{touched, sightings}
use Rattle.cg_typing.specs.Parts.{in_range, has_word_arrays}
use Rattle.cg_faults.specs.Plain.{plain, plain_in, plain_at, mentioned}
use Rattle.cg_typing.specs.Rules.{Meets, InRange, Derives}
use Rattle.cg_check_laws.proofs.Clash.{Lawful}
use Rattle.cg_check_laws.proofs.Occurs.{AllSeen}
use Rattle.cg_check_laws.proofs.Parted.{Entry, all_drop, others_drop}
use Rattle.cg_check_laws.proofs.SameTypes.{same_is, and_refl as and_of}
use Rattle.cg_typing.proofs.Lists.{taken_as_many}

-- directions
pub meets_is : (functions : List Function) (p : List Tau) (direction : Option Tau) (e : Tree Place) (place : Place) → RulesHold (meets direction place (plain functions p e))
    → plain_in functions p direction e ≡ plain functions p e
meets_is functions p None e place h = refl
meets_is functions p (Some u) e place h = same_is u (plain functions p e) h.0

pub in_meets : (functions : List Function) (p : List Tau) (direction : Option Tau) (e : Tree Place) → Meets direction (plain_in functions p direction e)
in_meets functions p None e = tt
in_meets functions p (Some u) e = refl

pub body_in : (functions : List Function) (p q : List Tau) (direction : Option Tau) (e k : Tree Place) → plain functions p e ≡ plain functions q k
    → plain_in functions p direction e ≡ plain_in functions q direction k
body_in functions p q None e k h = h
body_in functions p q (Some u) e k h = refl

-- literals
pub ranged : (value : Option ℕ) (t : Tau) → in_range value t ≡ true → InRange value t
ranged (Some n) (word w) h = ltb-true n _ h
ranged _ _ h = absurd (cc)

-- a function that is in range has a type
found : {X : Type 0} (f : X → ℕ) (xs : List X) (i n : ℕ) → slice_get (map f xs) i ≡ Some n → (x : X) × (slice_get xs i ≡ Some x)
found f [] i n h = absurd (cc)
found f (x ∷ xs) zero n h = (x, refl)
found f (x ∷ xs) (suc i) n h = found f xs i n h

pub mention_is : (functions : List Function) (f : Fun) (args : List Arg) (n : ℕ) → Takes (map (λ f. length f.vars) functions) f n → fun_type functions f args ≡ Some (mentioned functions f args)
mention_is functions (OfLib l) args n h = refl
mention_is functions (User f) args n h = go (found (λ f. length f.vars) functions f n h)
  where
    go : ((x : Function) × (slice_get functions f ≡ Some x)) → fun_type functions (User f) args ≡ Some (mentioned functions (User f) args)
    go x = rw (x.1) refl

asked_holds : (vars : List Kinds) (asked : Asked) (functions : List Function) (place : Place) (t : Tau) (rest later : List Event)
    → RulesHold ((asked_event functions vars asked place t ++ rest) ++ later) → (meets_asked vars asked t ≡ true) × RulesHold (rest ++ later)
asked_holds vars (these k) functions place t rest later h = h
asked_holds vars a_cell functions place t rest later h = h
asked_holds vars an_element functions place t rest later h = h
asked_holds vars nothing functions place t rest later h = (refl, h)

pub arguments_good : (functions : List Function) (vars : List Kinds) (asked : List Asked) (args : List Arg) (later : List Event)
    → RulesHold (argument_events functions vars asked args ++ later) → (are_good_arguments vars asked args ≡ true) × RulesHold later
arguments_good functions vars asked [] later h = (refl, h)
arguments_good functions vars asked (a ∷ args) later h =
    let w = asked_holds vars (next_asked asked) functions a.place a.ty (argument_events functions vars (later_asked asked) args) later h.1 in
    let r = arguments_good functions vars (later_asked asked) args later w.1 in
    (and_of (has_word_arrays a.ty) _ h.0 (and_of (meets_asked vars (next_asked asked) a.ty) _ w.0 r.0), r.1)

module _ (functions : List Function) (vars : List Kinds) (types_in : ℕ) where
  -- what a context has for a part that touches these variables
  abbrev pub Has : (ℕ → Bool) → Context → List Tau → Type 0
  Has a g p = (i : ℕ) → i < length p → Entry vars (a i) (look g i) (plain_at p i)

  -- every sighting has a use behind it, of variables that can't be dropped
  abbrev pub Sighted : List Tau → Tree Place → Type 0
  Sighted p e = (i : ℕ) → i < length p → AllSeen (drops vars (plain_at p i)) (sightings i e)

  abbrev pub Sound : Tree Place → Type 0
  Sound e = (p : List Tau) (b : Before) (dir : Option Tau) (g : Context) → Lawful functions vars types_in (length p) e → length g ≡ length p
      → Has (λ i. touched i e) g p → RulesHold (events functions vars p b dir e) → Sighted p e
      → Derives functions vars g (tree functions g p e) dir (core functions p dir e)

  -- the same by the events of its form, without the limit on its type
  abbrev pub SoundShape : Place → Shape Place → Type 0
  SoundShape a s = (p : List Tau) (b : Before) (dir : Option Tau) (g : Context) → Lawful functions vars types_in (length p) (term a s) → length g ≡ length p
      → Has (λ i. touched i (term a s)) g p → RulesHold (events_shape functions vars p b dir a s) → Sighted p (term a s)
      → Derives functions vars g (tree functions g p (term a s)) dir (core functions p dir (term a s))

  pub sound_var : (a : Place) (j : ℕ) → SoundShape a (var j)
  sound_var a j p b dir g s l e h q =
      let at : look g j ≡ Some (plain_at p j) = subst (λ q. Entry vars q (look g j) (plain_at p j)) (eq-eqb j j refl) (e j s) in
      let m = meets_is functions p dir (term a (var j)) a h.1 in
      record {
        tree = refl;
        present = at ∙ ap Some (sym m);
        others = others_drop vars j g p l e;
        meets = in_meets functions p dir (term a (var j));
      }

  pub sound_unit : (a : Place) → SoundShape a unit
  sound_unit a p b dir g s l e h q =
      record { tree = refl; is = meets_is functions p dir (term a unit) a h; others = all_drop vars g p l e; meets = in_meets functions p dir (term a unit) }

  pub sound_bool : (a : Place) (v : Bool) → SoundShape a (bool v)
  sound_bool a v p b dir g s l e h q =
      record { tree = refl; is = meets_is functions p dir (term a (bool v)) a h; others = all_drop vars g p l e; meets = in_meets functions p dir (term a (bool v)) }

  pub sound_lit : (a : Place) (v : Option ℕ) → SoundShape a (lit v)
  sound_lit a v p b None g s l e h q = absurd (let z = h.0 in cc)
  sound_lit a v p b (Some t) g s l e h q = record { tree = refl; checked = refl; is_a_word = h.0; in_range = ranged v t h.1.0; others = all_drop vars g p l e }

  pub sound_fun : (a : Place) (f : Fun) (args : List Arg) → SoundShape a (fun f args)
  sound_fun a f args p b dir g s l e h q =
      let r = arguments_good functions vars (asked_by functions f) args (meets dir a (mentioned functions f args)) h in
      record {
        tree = refl;
        many = taken_as_many functions f (length args) s.0;
        arguments = r.0;
        is = mention_is functions f args (length args) s.0 ∙ ap Some (sym (meets_is functions p dir (term a (fun f args)) a r.1));
        others = all_drop vars g p l e;
        meets = in_meets functions p dir (term a (fun f args));
      }
