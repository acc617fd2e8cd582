-- A value without the parentheses round it.
use Rattle.std.proofs.Common.{◌≡◌, suc, true, List, drop, refl, sym, ap, subst}
use Rattle.cg_heaptext_def.specs.Grammar.{ReadsValue}
use Rattle.cg_heaptext_def.specs.Tokens.{Lexeme}
use Rattle.cg_heaptext_def.specs.Trees.{Written, numeral, truth, nothing, gone, address, constant, applied, inside, tuple, record', bare}
use Rattle.cg_heaptext_values.specs.Values.{EndsThere, is_bare}
use Rattle.cg_heaptext_values.proofs.Depths.{insides}

pub bare_is : (v : Written) → is_bare (bare v) ≡ true
bare_is (numeral n) = refl
bare_is (truth p b) = refl
bare_is (nothing p) = refl
bare_is (gone p) = refl
bare_is (address p n) = refl
bare_is (constant p x) = refl
bare_is (applied p x v) = refl
bare_is (inside p v) = bare_is v
bare_is (tuple p vs) = refl
bare_is (record' p fs) = refl

-- behind the parentheses stands the value, and it ends there
abbrev pub Inner : Written → List Lexeme → Type 0
Inner v ts = (rest : List Lexeme) × ReadsValue (bare v) (drop (insides v) ts) rest × EndsThere rest

pub inner : (v : Written) (ts rest : List Lexeme) → ReadsValue v ts rest → EndsThere rest → Inner v ts
inner (numeral n) ts rest r e = (rest, r, e)
inner (truth p b) ts rest r e = (rest, r, e)
inner (nothing p) ts rest r e = (rest, r, e)
inner (gone p) ts rest r e = (rest, r, e)
inner (address p n) ts rest r e = (rest, r, e)
inner (constant p x) ts rest r e = (rest, r, e)
inner (applied p x v) ts rest r e = (rest, r, e)
inner (tuple p vs) ts rest r e = (rest, r, e)
inner (record' p fs) ts rest r e = (rest, r, e)
inner (inside p v) ts rest r e =
    let w = inner v r.0 r.2.0 r.2.1 (subst EndsThere (sym r.2.2.1) refl) in
    (w.0, subst (λ us. ReadsValue (bare v) us w.0) (ap (drop (suc (insides v))) (sym r.1)) w.1, w.2)
