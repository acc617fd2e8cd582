-- What the fields of a record come to one by one, and put together from the last one on.
use Rattle.std.specs.Prelude.{ℕ, Bool, true, false, ◌&&◌, Ok, List, [], ◌∷◌, map, Option}
use Rattle.cg_base.specs.declared.kind.Kinds.{Kinds}
use Rattle.cg_base.specs.declared.place.Place.{Place}
use Rattle.cg_base.specs.Types.{Tau}
use Rattle.cg_check.specs.declared.pass.NamedGot.{NamedGot}
use Rattle.cg_check_def.specs.Pass.{Out, Got, GotFields, bind, check, in_front}
use Rattle.cg_check_nodes.specs.Fields.{nothing}
use Rattle.cg_check_nodes.specs.Gots.{got_of}
use Rattle.cg_check_uses.specs.Uses.{mark}
use Rattle.cg_core.specs.Kernels.{Function}
use Rattle.cg_core.specs.Terms.{Named, end, field}
use Rattle.cg_faults.specs.Events.{later_directions, next_direction}

-- a field's name, and what its term comes to
abbrev pub Found : Type 0
Found = List ℕ × Got

abbrev pub named_of : NamedGot → Found
named_of x = (x.name.now, got_of x.got)

abbrev pub nameds_of : List NamedGot → List Found
nameds_of = map named_of

-- each field in its order, behind those before it; none where one fails
unfoldable pub each : List Function → List Kinds → List Tau → List Bool → List (Option Tau) → Named Place → Out (List Found)
each functions vars p before directions end = Ok []
each functions vars p before directions (field name e fs) =
    bind (check functions vars p before (next_direction directions) e) (λ u.
    bind (each functions vars p (mark before u.uses) (later_directions directions) fs) (λ us. Ok ((name, u) ∷ us)))

abbrev pub is_none : List Found → Bool
is_none [] = true
is_none (u ∷ us) = false

-- these in front of later ones, which are none or not
unfoldable pub ahead : List Found → Bool → GotFields → GotFields
ahead [] alone v = v
ahead (u ∷ us) alone v = in_front u.0 u.1 (is_none us && alone) (ahead us alone v)

-- all of them, in a context of n variables
abbrev pub together : ℕ → List Found → GotFields
together n us = ahead us true (nothing n)
