-- Names of parts that are apart.
use Rattle.std.proofs.Common.{◌≡◌, ℕ, false, IsTrue, List, refl, sym, ap, subst as at, if◌then◌else◌}
use Rattle.std.proofs.lemmas.Bool.{and_from}
use Rattle.std.specs.List.{list_any}
use Rattle.std.specs.Prelude.{not, Some}
use Rattle.std.specs.Str.{bytes_eq}
use Rattle.cg_base.specs.Types.{Parts, end, part}
use Rattle.cg_check_laws.proofs.Basics.{or_false as neither}
use Rattle.cg_core_def.specs.Lawful.{AreApart, part_names}
use Rattle.cg_typing.specs.Parts.{is_there, part_named}
use Rattle.cg_update.specs.Among.{are_apart}

-- a name that is none of theirs is not there
pub none_named : (n : List ℕ) (ps : Parts) → list_any (bytes_eq n) (part_names ps) ≡ false → is_there (part_named n ps) ≡ false
none_named n end h = refl
none_named n (part name t taken ps) h =
    let b = neither (bytes_eq n name) (list_any (bytes_eq n) (part_names ps)) h in
    at (λ b. is_there (if b then Some (record { name = name; ty = t; taken = taken }) else part_named n ps) ≡ false) (sym b.0) (none_named n ps b.1)

-- so no two of them have one name
pub apart_is : (ps : Parts) → AreApart (part_names ps) → IsTrue (are_apart ps)
unfolding are_apart
apart_is end h = refl
apart_is (part name t taken ps) h = and_from (not (is_there (part_named name ps))) _ (ap not (none_named name ps h.0)) (apart_is ps h.1)
