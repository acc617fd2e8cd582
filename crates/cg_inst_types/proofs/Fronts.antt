-- Arguments and parts in front of others.
use Rattle.std.proofs.Common.{◌≡◌, ℕ, Bool, List, [], ◌∷◌, ◌++◌, refl, ap, ◌∙◌}
use Rattle.cg_base.specs.declared.kind.Sigil.{Sigil}
use Rattle.cg_base.specs.Types.{Tau, Piece, var, seen, unit, word, bool, arrow, abs, variant, fields, none, end, to_taus, to_parts}
use Rattle.cg_inst_types.specs.Forms.{with_argument, with_arguments, with_part, with_parts}
use Rattle.cg_inst_types.specs.Layers.{is_abs, has_parts}

pub arguments_abs : (ts : List Tau) (name : List ℕ) (sigil : Sigil) → with_arguments ts (abs name none sigil) ≡ abs name (to_taus ts) sigil
unfolding to_taus
arguments_abs [] name sigil = refl
arguments_abs (t ∷ ts) name sigil = ap (λ r. with_argument r t) (arguments_abs ts name sigil)

pub parts_variant : (ps : List Piece) → with_parts ps (variant end) ≡ variant (to_parts ps)
unfolding to_parts
parts_variant [] = refl
parts_variant (p ∷ ps) = ap (λ r. with_part r p.name p.ty p.taken) (parts_variant ps)

pub parts_fields : (ps : List Piece) (sigil : Sigil) → with_parts ps (fields end sigil) ≡ fields (to_parts ps) sigil
unfolding to_parts
parts_fields [] sigil = refl
parts_fields (p ∷ ps) sigil = ap (λ r. with_part r p.name p.ty p.taken) (parts_fields ps sigil)

is_abs_more : (r t : Tau) → is_abs (with_argument r t) ≡ is_abs r
is_abs_more (var n) t = refl
is_abs_more (seen n) t = refl
is_abs_more unit t = refl
is_abs_more (word w) t = refl
is_abs_more bool t = refl
is_abs_more (arrow a b) t = refl
is_abs_more (abs name ts sigil) t = refl
is_abs_more (variant ps) t = refl
is_abs_more (fields ps sigil) t = refl

pub is_abs_all : (ts : List Tau) (r : Tau) → is_abs (with_arguments ts r) ≡ is_abs r
is_abs_all [] r = refl
is_abs_all (t ∷ ts) r = is_abs_more (with_arguments ts r) t ∙ is_abs_all ts r

has_parts_more : (r : Tau) (name : List ℕ) (t : Tau) (taken : Bool) → has_parts (with_part r name t taken) ≡ has_parts r
has_parts_more (var n) name t taken = refl
has_parts_more (seen n) name t taken = refl
has_parts_more unit name t taken = refl
has_parts_more (word w) name t taken = refl
has_parts_more bool name t taken = refl
has_parts_more (arrow a b) name t taken = refl
has_parts_more (abs x ts sigil) name t taken = refl
has_parts_more (variant ps) name t taken = refl
has_parts_more (fields ps sigil) name t taken = refl

pub has_parts_all : (ps : List Piece) (r : Tau) → has_parts (with_parts ps r) ≡ has_parts r
has_parts_all [] r = refl
has_parts_all (p ∷ ps) r = has_parts_more (with_parts ps r) p.name p.ty p.taken ∙ has_parts_all ps r

pub ruleset front_steps = (arguments_abs, parts_variant, parts_fields)

-- ---- one more behind the others

pub arguments_behind : (ts : List Tau) (t r : Tau) → with_arguments (ts ++ t ∷ []) r ≡ with_arguments ts (with_argument r t)
arguments_behind [] t r = refl
arguments_behind (u ∷ us) t r = ap (λ s. with_argument s u) (arguments_behind us t r)

pub parts_behind : (ps : List Piece) (p : Piece) (r : Tau) → with_parts (ps ++ p ∷ []) r ≡ with_parts ps (with_part r p.name p.ty p.taken)
parts_behind [] p r = refl
parts_behind (q ∷ qs) p r = ap (λ s. with_part s q.name q.ty q.taken) (parts_behind qs p r)
