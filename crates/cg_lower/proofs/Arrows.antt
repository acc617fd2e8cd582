-- The arrow types of calls through function values are among those that are collected.
use Rattle.std.proofs.Common.{◌≡◌, ℕ, Bool, true, false, List, [], ◌∷◌, ◌++◌, slice_get, Some, refl, ◌∙◌, if◌then◌else◌}
use Rattle.std.proofs.lemmas.List.Folds.{list_any-append}
use Rattle.std.specs.List.{AllByRecursion, flat_map, list_any}
use Rattle.cg_base.specs.Same.{same_type}
use Rattle.cg_base.specs.Types.{Tau}
use Rattle.cg_lower.specs.Collected.{Copy, arrows_in, arrows_of, called_at, value_called, with_arrows}
use Rattle.cg_core.specs.Terms.{Note, Tree, term, fun, app}
use Rattle.cg_lower_tables.specs.Found.{with_arrow}
use Rattle.cg_inst.proofs.SameType.{same_self}
use Rattle.cg_lower_def.specs.Simulated.{CallsListed, IsListed}
use Rattle.cg_lower.proofs.Lists.{all_follow, part_holds, parts_hold}
use Rattle.cg_base.proofs.Truths.{or_true as or_of_right, or_left as or_of_left}

-- an arrow type is among these
abbrev pub IsAmong : List Tau → Tau → Type 0
IsAmong arrows t = list_any (λ u. same_type u t) arrows ≡ true

-- ---- one more

stays_in_front : (arrows more : List Tau) (t : Tau) → IsAmong arrows t → IsAmong (arrows ++ more) t
stays_in_front arrows more t h =
    list_any-append (λ u. same_type u t) arrows more ∙ or_of_left (list_any (λ u. same_type u t) arrows) (list_any (λ u. same_type u t) more) h

last_is_among : (arrows : List Tau) (t : Tau) → IsAmong (arrows ++ t ∷ []) t
last_is_among arrows t =
    list_any-append (λ u. same_type u t) arrows (t ∷ [])
    ∙ or_of_right (list_any (λ u. same_type u t) arrows) (list_any (λ u. same_type u t) (t ∷ [])) (or_of_left (same_type t t) false (same_self t))

-- what is there stays
stays_with : (arrows : List Tau) (u t : Tau) → IsAmong arrows t → IsAmong (with_arrow arrows u) t
stays_with arrows u t h = by_test (list_any (λ v. same_type v u) arrows)
  where
    by_test : (b : Bool) → IsAmong (if b then arrows else arrows ++ u ∷ []) t
    by_test true = h
    by_test false = stays_in_front arrows (u ∷ []) t h

-- and what comes is there
comes_with : (arrows : List Tau) (t : Tau) → IsAmong (with_arrow arrows t) t
comes_with arrows t = by_test (list_any (λ v. same_type v t) arrows) refl
  where
    by_test : (b : Bool) → list_any (λ v. same_type v t) arrows ≡ b → IsAmong (if b then arrows else arrows ++ t ∷ []) t
    by_test true e = e
    by_test false e = last_is_among arrows t

-- ---- more

all_stay_with : (ts arrows : List Tau) (t : Tau) → IsAmong arrows t → IsAmong (with_arrows arrows ts) t
unfolding with_arrows
all_stay_with [] arrows t h = h
all_stay_with (u ∷ us) arrows t h = all_stay_with us (with_arrow arrows u) t (stays_with arrows u t h)

all_come_with : (ts arrows : List Tau) → AllByRecursion (IsAmong (with_arrows arrows ts)) ts
unfolding with_arrows
all_come_with [] arrows = tt
all_come_with (t ∷ ts) arrows = (all_stay_with ts (with_arrow arrows t) t (comes_with arrows t), all_come_with ts (with_arrow arrows t))

-- ---- instances

-- those of an instance are among those of all
pub arrows_collected : (copies : List Copy) (k : ℕ) (c : Copy) → slice_get copies k ≡ Some c → AllByRecursion (IsAmong (arrows_in copies)) (arrows_of c)
arrows_collected copies k c e = part_holds (IsAmong (arrows_in copies)) arrows_of copies k c (all_come_with (flat_map arrows_of copies) []) e

-- ---- nodes

value_listed : (arrows : List Tau) (f : Tree Note) → AllByRecursion (IsAmong arrows) (value_called f) → IsListed arrows f
value_listed arrows (term note (fun f args)) h = tt
value_listed arrows f h = h.0

call_listed : (arrows : List Tau) (t : Tree Note) → AllByRecursion (IsAmong arrows) (called_at t) → CallsListed arrows t
call_listed arrows (term note (app f x)) h = value_listed arrows f h
call_listed arrows t h = tt

-- the arrow types that nodes call are listed, where they are among these
pub calls_listed : (arrows : List Tau) (ts : List (Tree Note)) → AllByRecursion (IsAmong arrows) (flat_map called_at ts) → AllByRecursion (CallsListed arrows) ts
calls_listed arrows ts h =
    all_follow (λ t. AllByRecursion (IsAmong arrows) (called_at t)) (CallsListed arrows) (call_listed arrows) ts (parts_hold (IsAmong arrows) called_at ts h)
