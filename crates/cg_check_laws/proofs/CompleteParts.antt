-- Where there is a derivation, with any splits, no rule fails and the core is that of plain typing: what that says, leaves,
-- nodes with one part, and operators.
use Rattle.std.proofs.Common.{◌≡◌, ℕ, ◌<◌, Bool, true, Option, Some, None, List, [], ◌∷◌, length, refl, sym, ap, ◌∙◌, subst, arith, eq-eqb, lt-ltb}
use Rattle.cg_base.specs.declared.fun.Fun.{Fun}
use Rattle.cg_base.specs.declared.kind.Kinds.{Kinds}
use Rattle.cg_base.specs.declared.place.Place.{Place}
use Rattle.cg_base.specs.Types as types
use Rattle.cg_base.specs.Types.{Tau, word, variant}
use Rattle.cg_core.specs.declared.at.At.{At}
use Rattle.cg_core.specs.Derivations.{Derivation}
use Rattle.cg_core.specs.Kernels.{Function}
use Rattle.cg_core.specs.Terms.{Tree, term, var, unit, bool, lit, fun, con, esac, member, cast, annot, Note, Arg, erased}
use Rattle.cg_kinds.specs.Kinds.{is_word, or_unit}
use Rattle.cg_typing.specs.Contexts.{Context, drops, shares}
use Rattle.cg_faults.specs.Same.{same}
use Rattle.cg_faults.specs.Events.{Event, Before, meets, argument_events, asked_event, events, RulesHold}
use Rattle.cg_typing.specs.Functions.{Asked, these, a_cell, an_element, nothing, asked_by, next_asked, later_asked, meets_asked, are_good_arguments}
use Rattle.cg_check_def.specs.NormalForm.{noted, core}
use Rattle.cg_faults.specs.Occurrences.{sightings}
use Rattle.cg_typing.specs.Parts.{in_range, widens, is_variant, is_there, is_left, is_last, field_in, alternative_in, held, has_word_arrays}
use Rattle.cg_faults.specs.Plain.{plain, plain_in, plain_at, mentioned}
use Rattle.cg_typing.specs.Rules.{Meets, InRange, type_at, is_literal}
use Rattle.cg_typing.specs.Trees.{sub}
use Rattle.cg_check_laws.proofs.Basics.{type_core, hold_append, or_not, look_within}
use Rattle.cg_check_laws.proofs.Clean.{Of, Within, Clean}
use Rattle.cg_check_laws.proofs.Held.{D}
use Rattle.cg_check_laws.proofs.Occurs.{AllSeen}
use Rattle.cg_check_laws.proofs.SameTypes.{same_refl}
use Rattle.cg_base.proofs.Truths.{both as and_both}

-- ---- directions

-- a synthesised type in a direction
pub meets_ok : (dir : Option Tau) (a : Place) (t : Tau) → Meets dir t → RulesHold (meets dir a t)
meets_ok None a t h = tt
meets_ok (Some u) a t h = (subst (λ v. same u v ≡ true) h (same_refl u), tt)

-- the same of a type that is another
pub meets_as : (dir : Option Tau) (a : Place) (t u : Tau) → t ≡ u → Meets dir t → RulesHold (meets dir a u)
meets_as dir a t u e h = meets_ok dir a u (subst (λ t. Meets dir t) e h)

pub in_is : (functions : List Function) (p : List Tau) (dir : Option Tau) (e : Tree Place) (t : Tau) → Meets dir t → t ≡ plain functions p e → t ≡ plain_in functions p dir e
in_is functions p None e t m h = h
in_is functions p (Some u) e t m h = sym m

pub noted_is : (a : Note) (t : Tau) → a.ty ≡ t → a ≡ noted a.place t
noted_is a t h = ap (λ t. noted a.place t) h

pub in_range_ok : (v : Option ℕ) (t : Tau) → InRange v t → in_range v t ≡ true
in_range_ok (Some n) (word w) h = lt-ltb n _ h
in_range_ok _ _ h = absurd h

pub literal_erased : (c : Tree Note) → is_literal (erased c) ≡ is_literal c
unfolding erased
literal_erased (term a (lit v)) = refl
literal_erased _ = refl

-- ---- type arguments

asked_ok : (functions : List Function) (vars : List Kinds) (asked : Asked) (place : Place) (t : Tau) → meets_asked vars asked t ≡ true → RulesHold (asked_event functions vars asked place t)
asked_ok functions vars (these k) place t h = (h, tt)
asked_ok functions vars a_cell place t h = (h, tt)
asked_ok functions vars an_element place t h = (h, tt)
asked_ok functions vars nothing place t h = tt

arguments_ok : (functions : List Function) (vars : List Kinds) (asked : List Asked) (args : List Arg) → are_good_arguments vars asked args ≡ true → RulesHold (argument_events functions vars asked args)
arguments_ok functions vars asked [] h = tt
arguments_ok functions vars asked (a ∷ args) h =
    let x = and_both (has_word_arrays a.ty) _ h in
    let y = and_both (meets_asked vars (next_asked asked) a.ty) _ x.1 in
    (x.0, hold_append _ _ (asked_ok functions vars (next_asked asked) a.place a.ty y.0) (arguments_ok functions vars (later_asked asked) args y.1))

-- ---- parts of types

pub there_is : (n : List ℕ) (t : Tau) → is_left (alternative_in n t) ≡ true → is_there (alternative_in n t) ≡ true
there_is n t h = go (alternative_in n t) h
  where
    go : (o : _) → is_left o ≡ true → is_there o ≡ true
    go None h = absurd (cc)
    go (Some x) h = refl

pub field_is : (n : List ℕ) (t : Tau) → is_left (field_in n t) ≡ true → is_there (field_in n t) ≡ true
field_is n t h = go (field_in n t) h
  where
    go : (o : _) → is_left o ≡ true → is_there o ≡ true
    go None h = absurd (cc)
    go (Some x) h = refl

variant_is : (n : List ℕ) (t : Tau) → is_left (alternative_in n t) ≡ true → is_variant t ≡ true
variant_is n (variant ps) h = refl
variant_is n (types.var m) h = absurd (cc)
variant_is n (types.seen m) h = absurd (cc)
variant_is n types.unit h = absurd (cc)
variant_is n (types.word w) h = absurd (cc)
variant_is n types.bool h = absurd (cc)
variant_is n (types.arrow a b) h = absurd (cc)
variant_is n (types.abs m ts s) h = absurd (cc)
variant_is n (types.fields ps s) h = absurd (cc)

module _ (functions : List Function) (vars : List Kinds) where
  abbrev E : List Tau → Before → Option Tau → Tree Place → List Event
  E = events functions vars

  abbrev ty : List Tau → Tree Place → Tau
  ty = plain functions

  -- what a derivation says of the plain term
  pub record Done (p : List Tau) (b : Before) (dir : Option Tau) (e : Tree Place) (c : Tree Note) : Type 0 where
    pub core_is : c ≡ core functions p dir e
    pub ok : RulesHold (E p b dir e)
    pub sighted : (i : ℕ) → i < length p → AllSeen (drops vars (plain_at p i)) (sightings i e)

  abbrev pub Complete : Tree Note → Type 0
  Complete c = (p : List Tau) (b : Before) (dir : Option Tau) (g : Context) (d : Derivation) → Within g p → Clean vars p b (erased c) → D functions vars g d dir c → Done p b dir (erased c) c

  pub type_is : (p : List Tau) (b : Before) (dir : Option Tau) (e : Tree Place) (c : Tree Note) → Done p b dir e c → type_at c ≡ plain_in functions p dir e
  type_is p b dir e c h = ap type_at h.core_is ∙ type_core functions p dir e

  -- ---- leaves

  pub complete_var : (a : Note) (j : ℕ) → Complete (term a (var j))
  unfolding erased
  complete_var a j p b dir g d w c h =
      let l = w.long in
      let lt : j < length p = (let q = look_within g j a.ty h.present in omega arith) in
      let t : a.ty ≡ plain_at p j = subst (λ o. Of o (plain_at p j)) h.present (w.at j lt) in
      record {
        core_is = ap (λ a. term a (var j)) (noted_is a _ (in_is functions p dir (term a.place (var j)) a.ty h.meets t));
        ok = (or_not (b j) _ (c j lt (eq-eqb j j refl)), hold_append _ _ (meets_as dir a.place a.ty (plain_at p j) t h.meets) (tt, tt));
        sighted = λ i lt. tt;
      }

  pub complete_unit : (a : Note) → Complete (term a unit)
  unfolding erased
  complete_unit a p b dir g d w c h = record {
    core_is = ap (λ a. term a unit) (noted_is a _ (in_is functions p dir (term a.place unit) a.ty h.meets h.is));
    ok = hold_append _ _ (meets_as dir a.place a.ty types.unit h.is h.meets) (tt, tt);
    sighted = λ i lt. tt;
  }

  pub complete_bool : (a : Note) (v : Bool) → Complete (term a (bool v))
  unfolding erased
  complete_bool a v p b dir g d w c h = record {
    core_is = ap (λ a. term a (bool v)) (noted_is a _ (in_is functions p dir (term a.place (bool v)) a.ty h.meets h.is));
    ok = hold_append _ _ (meets_as dir a.place a.ty types.bool h.is h.meets) (tt, tt);
    sighted = λ i lt. tt;
  }

  pub complete_lit : (a : Note) (v : Option ℕ) → Complete (term a (lit v))
  unfolding erased
  complete_lit a v p b None g d w c h = absurd (let z = h.checked in cc)
  complete_lit a v p b (Some u) g d w c h =
      let e : u ≡ a.ty = (let z = h.checked in cc) in
      record {
        core_is = ap (λ a. term a (lit v)) (noted_is a u (sym e));
        ok = (subst (λ t. is_word t ≡ true) (sym e) h.is_a_word, (subst (λ t. in_range v t ≡ true) (sym e) (in_range_ok v a.ty h.in_range), (tt, tt)));
        sighted = λ i lt. tt;
      }

  pub complete_fun : (a : Note) (f : Fun) (args : List Arg) → Complete (term a (fun f args))
  unfolding erased
  complete_fun a f args p b dir g d w c h =
      let t : a.ty ≡ mentioned functions f args = sym (ap or_unit h.is) in
      record {
        core_is = ap (λ a. term a (fun f args)) (noted_is a _ (in_is functions p dir (term a.place (fun f args)) a.ty h.meets t));
        ok = hold_append _ _ (hold_append _ _ (arguments_ok functions vars (asked_by functions f) args h.arguments) (meets_as dir a.place a.ty (mentioned functions f args) t h.meets)) (tt, tt);
        sighted = λ i lt. tt;
      }

  -- ---- nodes with one part

  pub complete_con : (a : Note) (name : List ℕ) (e : Tree Note) → Complete e → Complete (term a (con name e))
  unfolding erased
  complete_con a name e ce p b None g d w c h = absurd (let z = h.checked in cc)
  complete_con a name e ce p b (Some u) g d w c h =
      let q : u ≡ a.ty = (let z = h.checked in cc) in
      let left : is_left (alternative_in name u) ≡ true = subst (λ t. is_left (alternative_in name t) ≡ true) (sym q) h.left in
      let de = subst (λ t. Done p b (Some (held (alternative_in name t))) (erased e) e) (sym q) (ce p b (Some (held (alternative_in name a.ty))) g (sub d 0) w c h.payload) in
      let ta = noted_is a u (sym q) in let qe = de.core_is in
      record {
        core_is = cc;
        ok = (variant_is name u left, (left, hold_append _ _ de.ok (tt, tt)));
        sighted = de.sighted;
      }

  pub complete_esac : (a : Note) (at : At) (e : Tree Note) → Complete e → Complete (term a (esac at e))
  unfolding erased
  complete_esac a at e ce p b dir g d w c h =
      let ee = erased e in
      let de = ce p b None g (sub d 0) w c h.subject in
      let te : type_at e ≡ ty p ee = type_is p b None ee e de in
      let t : a.ty ≡ held (alternative_in at.name (ty p ee)) = h.is ∙ ap (λ t. held (alternative_in at.name t)) te in
      let left : is_left (alternative_in at.name (ty p ee)) ≡ true = subst (λ t. is_left (alternative_in at.name t) ≡ true) te h.left in
      let ta = noted_is a _ (in_is functions p dir (term a.place (esac at ee)) a.ty h.meets t) in let qe = de.core_is in
      record {
        core_is = cc;
        ok = hold_append _ _ (hold_append (E p b None ee) _ de.ok (
          there_is at.name (ty p ee) left,
          (
            left,
            (subst (λ t. is_last at.name t ≡ true) te h.last, meets_as dir a.place a.ty _ t h.meets),
          ),
        )) (tt, tt);
        sighted = de.sighted;
      }

  pub complete_member : (a : Note) (e : Tree Note) (at : At) → Complete e → Complete (term a (member e at))
  unfolding erased
  complete_member a e at ce p b dir g d w c h =
      let ee = erased e in
      let de = ce p b None g (sub d 0) w c h.whole in
      let te : type_at e ≡ ty p ee = type_is p b None ee e de in
      let t : a.ty ≡ held (field_in at.name (ty p ee)) = h.is ∙ ap (λ t. held (field_in at.name t)) te in
      let left : is_left (field_in at.name (ty p ee)) ≡ true = subst (λ t. is_left (field_in at.name t) ≡ true) te h.left in
      let ta = noted_is a _ (in_is functions p dir (term a.place (member ee at)) a.ty h.meets t) in let qe = de.core_is in
      record {
        core_is = cc;
        ok = hold_append _ _ (hold_append (E p b None ee) _ de.ok (
          field_is at.name (ty p ee) left,
          (
            left,
            (subst (λ t. shares vars t ≡ true) te h.shared, meets_as dir a.place a.ty _ t h.meets),
          ),
        )) (tt, tt);
        sighted = de.sighted;
      }

  pub complete_cast : (a : Note) (e : Tree Note) → Complete e → Complete (term a (cast e))
  unfolding erased
  complete_cast a e ce p b None g d w c h = absurd (let z = h.checked in cc)
  complete_cast a e ce p b (Some u) g d w c h =
      let q : u ≡ a.ty = (let z = h.checked in cc) in
      let ee = erased e in
      let de = ce p b None g (sub d 0) w c h.operand in
      let te : type_at e ≡ ty p ee = type_is p b None ee e de in
      let ta = noted_is a u (sym q) in let qe = de.core_is in
      record {
        core_is = cc;
        ok = hold_append _ _ (hold_append (E p b None ee) _ de.ok (
          subst (λ t. widens t u ≡ true) te
              (subst (λ t. widens (type_at e) t ≡ true) (sym q) h.widens),
          tt,
        )) (tt, tt);
        sighted = de.sighted;
      }

  pub complete_annot : (a : Note) (e : Tree Note) (t : Arg) → Complete e → Complete (term a (annot e t))
  unfolding erased
  complete_annot a e t ce p b dir g d w c h =
      let ee = erased e in
      let de = ce p b (Some t.ty) g (sub d 0) w c h.value in
      let ta = noted_is a _ (in_is functions p dir (term a.place (annot ee t)) a.ty h.meets h.is) in let qe = de.core_is in
      record {
        core_is = cc;
        ok = (h.arrays, hold_append _ _ (hold_append (E p b (Some t.ty) ee) _ de.ok (meets_as dir a.place a.ty t.ty h.is h.meets)) (tt, tt));
        sighted = de.sighted;
      }
