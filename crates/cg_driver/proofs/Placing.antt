-- From what is known of an entry to what the judgements of its type and its instance come to.
use Rattle.std.proofs.Common.{◌≡◌, ◌≢◌, ℕ, zero, suc, true, false, IsTrue, List, [], ◌∷◌, Option, Some, None, slice_get, refl, sym, ap, ◌∙◌, subst, if◌then◌else◌}
use Rattle.std.proofs.lemmas.Bool.{and_parts}
use Rattle.std.specs.Option.{option_map}
use Rattle.cg_base.proofs.Counts.{no_steps as never}
use Rattle.cg_base.proofs.Options.{later}
use Rattle.cg_base.specs.declared.fun.Fun.TheVariants.{User}
use Rattle.cg_base.specs.declared.kind.Bound.{Bound}
use Rattle.cg_base.specs.Types.{Tau}
use Rattle.cg_core.specs.Kernels.{Function}
use Rattle.cg_core_def.specs.Lawful.{IsLawfulType}
use Rattle.cg_driver_entry.specs.Typed.{HasEntryType}
use Rattle.cg_driver_entry_laws.specs.Laws.{EntriesHaveTypes}
use Rattle.cg_driver_laws.proofs.Programs.{list_same}
use Rattle.cg_driver_laws.proofs.Places.{place_is}
use Rattle.cg_driver_laws.specs.Laws.{EntriesAreSound, FunctionsStand, copies_in}
use Rattle.cg_eval_def.specs.Evaluation.{outcome, stuck}
use Rattle.cg_eval_def.specs.Foreigns.{is_empty, table_of}
use Rattle.cg_heap.specs.declared.cell.Cell.{Cell}
use Rattle.cg_heap.specs.declared.cell.Scalar.{Scalar}
use Rattle.cg_heap.specs.Reps.{HeapWorld, Holds}
use Rattle.cg_heap_laws.specs.Laws.{RepresentedFits}
use Rattle.cg_heaptext_def.specs.Footprints.{held_in}
use Rattle.cg_inst.proofs.Names.{by_cases}
use Rattle.cg_inst.proofs.SameInstance.{instance_is}
use Rattle.cg_inst.specs.Judged.{core_in}
use Rattle.cg_inst.specs.Lists.{same_instance}
use Rattle.cg_inst_laws.proofs.Growth.{no_instance_twice}
use Rattle.cg_typing.specs.declared.checked.Checked.{Checked}
use Rattle.cg_parser_laws.specs.Laws.{SpelledIsShaped}
use Rattle.cg_resolve_def.specs.Desugar.{functions_of}
use Rattle.cg_typing.specs.Instances.{Instance, IsIn}
use Rattle.cg_typing.specs.Parts.{given_by, taken_by}
use Rattle.cg_update.specs.Updates.{place_of}
use Rattle.cg_value.specs.Fits.{fits}
use Rattle.cg_value.specs.Foreign.{Foreign, IsLawful, first_order}
use Rattle.cg_value.specs.Values.{Val, function}
use Rattle.cg_driver.specs.Built.{IsListed}
use Rattle.cg_driver.specs.Accepted.{IsAcceptedSource}
use Rattle.cg_driver.specs.Entered.{entry_place, entry_type, instance_at, is_entry}
use Rattle.cg_driver.specs.Executed.{IsReady}
use Rattle.cg_driver.specs.Found.{Argument}
use Rattle.cg_driver.specs.Judged.{functions_in, HaveEntryTypes, IsAllowed}

-- ---- the type of an entry

none_are : (vars : List Bound) → is_empty vars ≡ true → vars ≡ []
none_are [] h = refl
none_are (b ∷ vars) h = never h

-- an entry has no type variables
pub entry_bare : (o : Option Function) (f : Function) → o ≡ Some f → is_entry o ≡ true → f.vars ≡ []
entry_bare None f e h = never h
entry_bare (Some g) f e h = let same : g ≡ f = cc in subst (λ (x : Function). x.vars ≡ []) same (none_are g.vars (and_parts (is_empty g.vars) _ h).0)

pub entry_there : (o : Option Function) → is_entry o ≡ true → (f : Function) × (o ≡ Some f) × (f.vars ≡ [])
entry_there None h = never h
entry_there (Some f) h = (f, refl, none_are f.vars (and_parts (is_empty f.vars) _ h).0)

-- and so it is of all entries of an accepted source
pub have_entry_types : EntriesHaveTypes → SpelledIsShaped → (source : List ℕ) (functions : List Function) → IsAcceptedSource source functions → HaveEntryTypes functions
have_entry_types law shaped source functions a at e =
    let p = a.accepted.program in
    let f = entry_there (slice_get functions at) e in
    let there : slice_get (functions_of p) at ≡ Some f.0 = ap (λ fs. slice_get fs at) (sym a.kernel) ∙ f.1 in
    let allowed : is_entry (Some f.0) ≡ true = ap is_entry (sym f.1) ∙ e in
    let same : entry_type (slice_get functions at) ≡ f.0.ty.ty = ap entry_type f.1 in
    record {
      function = f.0;
      there = f.1;
      vars = f.2;
      typed = subst (λ t. HasEntryType f.0 (taken_by t) (given_by t)) (sym same)
          (law p (shaped source p a.accepted.spelled) a.accepted.names a.limits.written a.accepted.typed at f.0 there f.2 (and_parts (is_empty f.0.vars) _ allowed).1);
    }

-- a world without functions and abstract types
abbrev no_world : HeapWorld
no_world = record { instance_at = λ n. None; stands = λ name ns v. false }

-- what is represented over any functions and abstract types fits
pub plain_fits : RepresentedFits → (x : Foreign) (h : ℕ → Option Cell) (t : Tau) (us : List Scalar) (v : Val) → IsLawfulType 0 t → Holds no_world h t us v → IsTrue (fits (first_order x) t v)
plain_fits law x h t us v lawful holds = law no_world (first_order x) (λ n w a b e. absurd (cc)) (λ name ns w e. absurd (cc)) h 0 t us v lawful holds

-- its evaluation on what a heap file holds is never stuck
pub never_stuck : EntriesAreSound → RepresentedFits → (x : Foreign) → IsLawful x → (checked : Checked) (list : List Instance) (at place steps : ℕ) (argument result : Tau) (a : Argument)
    → IsReady checked list at place argument result a → outcome (table_of x checked) steps (function (User at) []) a.value ≢ stuck
never_stuck law fits_law x lawful checked list at place steps argument result a ready =
    let ty = ready.can.ty in
    law x lawful checked at steps ty.function argument result a.value ty.there ty.vars ty.typed.is (λ r. ready.can.allowed.concrete r.abstract)
    (plain_fits fits_law x (held_in a.cells) argument a.scalars a.value ty.typed.lawful (ready.represents no_world).holds)

-- ---- places

-- what is found at a place stands there
pub found_at : (x : Instance) (ys : List Instance) (k : ℕ) → place_of x ys ≡ Some k → slice_get ys k ≡ Some x
unfolding place_of
found_at x [] k e = absurd (cc)
found_at x (y ∷ ys) k e =
    by_cases (λ b. (if b then Some zero else option_map suc (place_of x ys)) ≡ Some k → slice_get (y ∷ ys) k ≡ Some x) (same_instance x y)
    (λ yes e. let first : zero ≡ k = cc in subst (λ i. slice_get (y ∷ ys) i ≡ Some x) first (ap Some (sym (instance_is x y yes))))
    (λ no e. let j = later (place_of x ys) k e in subst (λ i. slice_get (y ∷ ys) i ≡ Some x) j.2 (found_at x ys j.0 j.1)) e

module _ (checked : Checked) (list : List Instance) where
  -- an instance of the list stands at its one place
  pub stands_at : IsListed checked list → (at k : ℕ) → slice_get list k ≡ Some (instance_at at) → entry_place (copies_in checked list) at ≡ Some k
  stands_at within at k there =
      let once = no_instance_twice (functions_in checked) (core_in checked) list within.is in
      ap (place_of (instance_at at)) (sym (list_same (functions_in checked) (core_in checked) list)) ∙ place_is list k (instance_at at) there (λ i j p q. once i j (instance_at at) p q)

  -- and back
  pub place_stands : (at k : ℕ) → entry_place (copies_in checked list) at ≡ Some k → slice_get list k ≡ Some (instance_at at)
  place_stands at k e = found_at (instance_at at) list k (ap (place_of (instance_at at)) (list_same (functions_in checked) (core_in checked) list) ∙ e)

-- an entry has an instance in the list
pub entry_stands : FunctionsStand → (checked : Checked) (list : List Instance) → IsListed checked list → (at : ℕ) → IsAllowed (functions_in checked) at → IsIn list (instance_at at)
entry_stands law checked list within at a =
    let f = entry_there (slice_get (functions_in checked) at) a.typed in law checked list within.is at f.0 f.1 f.2

-- so a search for it finds it
pub not_missed : FunctionsStand → (checked : Checked) (list : List Instance) → IsListed checked list → (at : ℕ) → IsAllowed (functions_in checked) at
    → (x : Instance) → x ≡ instance_at at → ((k : ℕ) → slice_get list k ≡ Some x → ⊥) → ⊥
not_missed law checked list within at a x same none = let s = entry_stands law checked list within at a in none s.place (s.there ∙ ap Some (sym same))
