use Rattle.std.proofs.Common.{◌≡◌, List, [], ◌∷◌, None, map, sym, ap, ◌∙◌}
use Rattle.std.specs.Prelude.{slice_get}
use Rattle.std.specs.Option.{option_copied}
use Rattle.cg_base.specs.declared.ty.Ty.{Ty, the_lemmas as type_lemmas}
use Rattle.cg_base.specs.declared.ty.Ty.TheVariants as tys
use Rattle.cg_base.specs.Types.{type_of, unit}
use Rattle.cg_lib_value.specs.Library.{first_type}
use Rattle.cg_lower_library.proofs.body.library_code.Goals as goal

unit_is : type_of tys.Unit ≡ unit
unit_is = search type_lemmas

-- without type arguments the first is unit
none_first : (ts : List Ty) → slice_get ts 0 ≡ None → type_of tys.Unit ≡ first_type (map type_of ts)
none_first [] e = unit_is
none_first (t ∷ ts) e = absurd (cc)

pub code_of-requires-in-None : goal.code_of-requires-in-None
code_of-requires-in-None c = none_first c.args.args.now (sym c.get.ensures.value ∙ ap option_copied c.in-None.is)
