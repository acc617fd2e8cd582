-- Behind a whole type, some signs are none of it.
use Rattle.std.proofs.Common.{◌≡◌, List, [], ◌∷◌, refl, false, Some}
use Rattle.cg_base.specs.declared.place.Place.{Place}
use Rattle.cg_surface.specs.Written.{Written}
use Rattle.cg_parser_symbols.specs.Symbols.{closing, closing_bracket, comma}
use Rattle.cg_parser_types.specs.Machine as machine
use Rattle.cg_parser_types.specs.Machine.{Alone, Head, Taken, mode_is_open}
use Rattle.cg_parser_types.specs.Plain as plain
use Rattle.cg_parser_types.specs.Plain.{trees, plain_reader}
use Rattle.cg_parser_types.proofs.Short.{Frame, whole, closed, bare}

-- under no frame a comma and a parenthesis go nowhere
comma_nowhere : (u t : Written) (fs : List Frame) → whole u fs ≡ Some t → mode_is_open (machine.on_comma trees u fs) ≡ false
comma_nowhere u t [] e = refl
comma_nowhere u t (f ∷ fs) e = cc

closing_nowhere : (u t : Written) (fs : List Frame) → whole u fs ≡ Some t → mode_is_open (machine.on_close trees u fs) ≡ false
closing_nowhere u t [] e = refl
closing_nowhere u t (f ∷ fs) e = cc

pub no_comma : (s : plain.Stage) (t : Written) (p : Place) → plain_reader.finish s ≡ Some t → plain_reader.is_open (plain_reader.step s (record { symbol = comma; place = p })) ≡ false
no_comma (Alone u fs) t p e = let r = closed 3 u fs in comma_nowhere r.0 t r.1 e
no_comma (Head q n fs) t p e = let r = closed 3 (bare q n) fs in comma_nowhere r.0 t r.1 e
no_comma (Taken u fs) t p e = let r = closed 3 u fs in comma_nowhere r.0 t r.1 e
no_comma _ t p e = cc

pub no_closing : (s : plain.Stage) (t : Written) (p : Place) → plain_reader.finish s ≡ Some t → plain_reader.is_open (plain_reader.step s (record { symbol = closing; place = p })) ≡ false
no_closing (Alone u fs) t p e = let r = closed 3 u fs in closing_nowhere r.0 t r.1 e
no_closing (Head q n fs) t p e = let r = closed 3 (bare q n) fs in closing_nowhere r.0 t r.1 e
no_closing (Taken u fs) t p e = let r = closed 3 u fs in closing_nowhere r.0 t r.1 e
no_closing _ t p e = cc

pub no_bracket : (s : plain.Stage) (t : Written) (p : Place) → plain_reader.finish s ≡ Some t → plain_reader.is_open (plain_reader.step s (record { symbol = closing_bracket; place = p })) ≡ false
no_bracket (Alone u fs) t p e = refl
no_bracket (Head q n fs) t p e = refl
no_bracket (Taken u fs) t p e = refl
no_bracket _ t p e = cc
