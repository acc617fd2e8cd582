-- The directions of a record's fields: they stand against the parts of a record type, or are synthesised, as the whole is.
use Rattle.std.proofs.Common.{◌≡◌, true, not, ℕ, Option, Some, None, List, refl}
use Rattle.std.specs.Str.{bytes_eq}
use Rattle.cg_base.specs.declared.place.Place.{Place}
use Rattle.cg_base.specs.Types as types
use Rattle.cg_base.specs.Types.{Tau, Parts, part}
use Rattle.cg_core.specs.Kernels.{Function}
use Rattle.cg_core.specs.Terms.{Tree, term, Named, end, field}
use Rattle.cg_faults.specs.Events.{later_directions}
use Rattle.cg_faults.specs.Plain.{are_fields}
use Rattle.cg_check_def.specs.NormalForm.{core_fields}
use Rattle.cg_typing.specs.Rules.{parts_made}
use Rattle.cg_check_laws.proofs.SoundFields.{Follows, behind}
use Rattle.cg_base.proofs.Sequences.{itself as names_same}
use Rattle.cg_base.proofs.Truths.{both as and_both}

pub follows_on : (dir : Option Tau) (ps : Option Parts) (name : List ℕ) (e : Tree Place) (fs : Named Place) → Follows dir ps (field name e fs) → Follows dir (behind ps) fs
follows_on None None name e fs h = tt
follows_on (Some t) (Some (part n u taken ps)) name e fs h = (and_both (not taken) (are_fields ps fs) (and_both (bytes_eq n name) _ h).1).1
follows_on (Some t) (Some types.end) name e fs h = absurd (cc)
follows_on None (Some ps) name e fs h = absurd h
follows_on (Some t) None name e fs h = absurd h

-- the record that the cores of fields make is one of just these fields
pub made_of : (functions : List Function) (p : List Tau) (directions : List (Option Tau)) (fs : Named Place) → are_fields (parts_made (core_fields functions p directions fs)) fs ≡ true
made_of functions p directions end = refl
made_of functions p directions (field name (term a s) fs) = rw (names_same name) (made_of functions p (later_directions directions) fs)
