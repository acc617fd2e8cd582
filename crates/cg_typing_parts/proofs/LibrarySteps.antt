-- Type arguments by position.
use Rattle.std.proofs.Common.{◌≡◌, ℕ, List, get_or, map, Option, Some, None, ap, sym, ◌∙◌}
use Rattle.std.proofs.lemmas.Option.{slice_get-map, unwrap_or-slice_get}
use Rattle.std.specs.Prelude.{slice_get}
use Rattle.std.specs.Option.{option_map, unwrap_or}
use Rattle.cg_base.specs.declared.ty.Ty.{Ty}
use Rattle.cg_base.specs.Types.{unit, type_of}

given_at : (ts : List Ty) (i : ℕ) (found : Option Ty) → slice_get ts i ≡ found → get_or (map type_of ts) i unit ≡ unwrap_or (option_map type_of found) unit
given_at ts i found e =
    sym (unwrap_or-slice_get (map type_of ts) i unit) ∙ ap (λ o. unwrap_or o unit) (slice_get-map type_of ts i ∙ ap (option_map type_of) e)

pub given_some : (ts : List Ty) (i : ℕ) (t : Ty) → slice_get ts i ≡ Some t → get_or (map type_of ts) i unit ≡ type_of t
given_some ts i t e = given_at ts i (Some t) e

pub given_none : (ts : List Ty) (i : ℕ) → slice_get ts i ≡ None → get_or (map type_of ts) i unit ≡ unit
given_none ts i e = given_at ts i None e

pub ruleset library_steps = (given_some, given_none)
