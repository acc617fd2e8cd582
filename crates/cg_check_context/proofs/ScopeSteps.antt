-- Where scopes begin and end, and tests in a row.
use Rattle.std.proofs.Common.{◌≡◌, ◌<◌, ◌≤◌, ℕ, zero, suc, ◌+◌, ◌-◌, if◌then◌else◌, Bool, true, false, List, [], ◌∷◌, length, Option, Some, None, Err, get_or, refl, ap, ◌∙◌, arith}
use Rattle.cg_base.specs.declared.kind.Kinds.{Kinds}
use Rattle.cg_base.specs.declared.place.Place.{Place}
use Rattle.cg_base.specs.Types.{Tau}
use Rattle.cg_check_def.specs.Pass.{Out, need, arguments, asked_test}
use Rattle.cg_check_context.proofs.TestSteps.{push_flag}
use Rattle.cg_core.specs.Kernels.{Function}
use Rattle.cg_core.specs.Terms.{Arg}
use Rattle.cg_faults.specs.declared.rule.Rule.{Rule}
use Rattle.cg_faults.specs.declared.rule.Rule.TheVariants.{K1, T13, T14}
use Rattle.cg_check_uses.specs.declared.entry.Use.{Use}
use Rattle.cg_faults.specs.Rule.{rule}
use Rattle.cg_typing_parts.specs.Asked.{arguments_fault, asked_fault, unmet, failed_at}
use Rattle.cg_typing.specs.Functions.{Asked, these, a_cell, an_element, nothing, next_asked, later_asked, has_kinds}
use Rattle.cg_typing.specs.Parts.{has_word_arrays, is_cell}
use Rattle.cg_kinds.specs.Kinds.{kinds, is_word}
use Rattle.cg_check_uses.specs.Uses.{last, front}
use Rattle.cg_check_uses.proofs.TableSteps.{front_of as front_push}

-- the last of some, and the one before
last_index : (us : List Use) (i : ℕ) (d : Use) → length us ≡ i + 1 → last us ≡ get_or us i d
last_index [] i d h = absurd (omega (arith, h))
last_index (u ∷ []) zero d h = refl
last_index (u ∷ []) (suc i) d h = absurd (omega (arith, h))
last_index (u ∷ v ∷ us) zero d h = absurd (omega (arith, h))
last_index (u ∷ v ∷ us) (suc i) d h = last_index (v ∷ us) i d (omega (arith, h))

before_last_index : (us : List Use) (i : ℕ) (d : Use) → length us ≡ i + 2 → last (front us) ≡ get_or us i d
before_last_index [] i d h = absurd (omega (arith, h))
before_last_index (u ∷ []) i d h = absurd (omega (arith, h))
before_last_index (u ∷ v ∷ []) zero d h = refl
before_last_index (u ∷ v ∷ []) (suc i) d h = absurd (omega (arith, h))
before_last_index (u ∷ v ∷ w ∷ us) zero d h = absurd (omega (arith, h))
before_last_index (u ∷ v ∷ w ∷ us) (suc i) d h = before_last_index (v ∷ w ∷ us) i d (omega (arith, h))

pub last_at : (us : List Use) (d : Use) → 0 < length us → last us ≡ get_or us (length us - 1) d
last_at us d h = last_index us (length us - 1) d (omega (arith, h))

pub before_last_at : (us : List Use) (d : Use) → 2 ≤ length us → last (front us) ≡ get_or us (length us - 2) d
before_last_at us d h = before_last_index us (length us - 2) d (omega (arith, h))

pub none_before_last : (us : List Use) → length us < 2 → last (front us) ≡ record { touched = false; used = false; bad = None }
none_before_last [] h = refl
none_before_last (u ∷ []) h = refl
none_before_last (u ∷ v ∷ us) h = absurd (omega (arith, h))

-- what follows of tests on type arguments, whatever comes behind them
abbrev at : (B : Type 0) → Rule × Place → Out B
at B e = Err (rule e.0, e.1)

some_is : (x y : Rule × Place) → Some x ≡ Some y → x ≡ y
some_is x y h = cc

module _ {B : Type 0} (functions : List Function) (vars : List Kinds) where
  asked_go : (a : Asked) (p : Place) (t : Tau) (k : Out B) → unmet vars a t ≡ None → asked_test functions vars a p t k ≡ k
  asked_go (these wanted) p t k h = go (has_kinds (kinds vars t) wanted) h
    where
      go : (b : Bool) → (if b then None else Some K1) ≡ None → need K1 p b k ≡ k
      go true h = refl
      go false h = absurd (cc)
  asked_go a_cell p t k h = go (is_cell t) h
    where
      go : (b : Bool) → (if b then None else Some T13) ≡ None → need T13 p b k ≡ k
      go true h = refl
      go false h = absurd (cc)
  asked_go an_element p t k h = go (is_word t) h
    where
      go : (b : Bool) → (if b then None else Some T14) ≡ None → need T14 p b k ≡ k
      go true h = refl
      go false h = absurd (cc)
  asked_go nothing p t k h = refl

  asked_stop : (a : Asked) (p : Place) (t : Tau) (r : Rule) (k : Out B) → unmet vars a t ≡ Some r → asked_test functions vars a p t k ≡ Err (rule r, p)
  asked_stop (these wanted) p t r k h = go (has_kinds (kinds vars t) wanted) h
    where
      go : (b : Bool) → (if b then None else Some K1) ≡ Some r → need K1 p b k ≡ Err (rule r, p)
      go true h = absurd (cc)
      go false h = cc
  asked_stop a_cell p t r k h = go (is_cell t) h
    where
      go : (b : Bool) → (if b then None else Some T13) ≡ Some r → need T13 p b k ≡ Err (rule r, p)
      go true h = absurd (cc)
      go false h = cc
  asked_stop an_element p t r k h = go (is_word t) h
    where
      go : (b : Bool) → (if b then None else Some T14) ≡ Some r → need T14 p b k ≡ Err (rule r, p)
      go true h = absurd (cc)
      go false h = cc
  asked_stop nothing p t r k h = absurd (cc)

  argument_go : (a : Asked) (p : Place) (t : Tau) (k : Out B) → asked_fault vars a t ≡ None → need T14 p (has_word_arrays t) (asked_test functions vars a p t k) ≡ k
  argument_go a p t k h = go (has_word_arrays t) h
    where
      go : (b : Bool) → (if b then unmet vars a t else Some T14) ≡ None → need T14 p b (asked_test functions vars a p t k) ≡ k
      go true h = asked_go a p t k h
      go false h = absurd (cc)

  argument_stop : (a : Asked) (p : Place) (t : Tau) (r : Rule) (k : Out B) → asked_fault vars a t ≡ Some r → need T14 p (has_word_arrays t) (asked_test functions vars a p t k) ≡ Err (rule r, p)
  argument_stop a p t r k h = go (has_word_arrays t) h
    where
      go : (b : Bool) → (if b then unmet vars a t else Some T14) ≡ Some r → need T14 p b (asked_test functions vars a p t k) ≡ Err (rule r, p)
      go true h = asked_stop a p t r k h
      go false h = cc

  pub arguments_go : (asked : List Asked) (args : List Arg) (k : Out B) → arguments_fault vars asked args ≡ None → arguments functions vars asked args k ≡ k
  arguments_go asked [] k h = refl
  arguments_go asked (a ∷ args) k h = go (asked_fault vars (next_asked asked) a.ty) refl h (arguments_go (later_asked asked) args k)
    where
      go : (f : Option Rule) → asked_fault vars (next_asked asked) a.ty ≡ f → failed_at a.place f (arguments_fault vars (later_asked asked) args) ≡ None
          → (arguments_fault vars (later_asked asked) args ≡ None → arguments functions vars (later_asked asked) args k ≡ k)
          → arguments functions vars asked (a ∷ args) k ≡ k
      go None e h again = argument_go (next_asked asked) a.place a.ty (arguments functions vars (later_asked asked) args k) e ∙ again h
      go (Some r) e h again = absurd (cc)

  pub arguments_stop : (asked : List Asked) (args : List Arg) (r : Rule) (p : Place) (k : Out B) → arguments_fault vars asked args ≡ Some (r, p) → arguments functions vars asked args k ≡ Err (rule r, p)
  arguments_stop asked [] r p k h = absurd (cc)
  arguments_stop asked (a ∷ args) r p k h = go (asked_fault vars (next_asked asked) a.ty) refl h (arguments_stop (later_asked asked) args r p k)
    where
      go : (f : Option Rule) → asked_fault vars (next_asked asked) a.ty ≡ f → failed_at a.place f (arguments_fault vars (later_asked asked) args) ≡ Some (r, p)
          → (arguments_fault vars (later_asked asked) args ≡ Some (r, p) → arguments functions vars (later_asked asked) args k ≡ Err (rule r, p))
          → arguments functions vars asked (a ∷ args) k ≡ Err (rule r, p)
      go None e h again = argument_go (next_asked asked) a.place a.ty (arguments functions vars (later_asked asked) args k) e ∙ again h
      go (Some s) e h again = argument_stop (next_asked asked) a.place a.ty s (arguments functions vars (later_asked asked) args k) e ∙ ap (at B) (some_is (s, a.place) (r, p) h)

pub ruleset scope_steps = (last_at, before_last_at, none_before_last, push_flag, front_push)
