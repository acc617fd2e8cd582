-- Values that are the address of a cell.
use Rattle.std.proofs.Common.{◌≡◌, ◌⊎◌, inl, inr, ℕ, List, map, refl, sym, ap, ◌∙◌, arith}
use Rattle.cg_base.specs.declared.kind.Sigil.{Sigil}
use Rattle.cg_base.specs.declared.kind.Sigil.TheVariants.{R, W}
use Rattle.cg_base.specs.declared.ty.Ty.{Ty, the_lemmas}
use Rattle.cg_base.specs.declared.ty.Ty.TheVariants.{Abs}
use Rattle.cg_base.specs.Types.{Taus, Parts, abs, fields, to_taus, type_of}
use Rattle.cg_heaptext_def.specs.Reading.{scalars}
use Rattle.cg_heaptext_def.specs.Trees.{Written, address}
use Rattle.cg_heaptext_scalars.specs.Given.{address_in}

abstract_is : (name : List ℕ) (ts : Taus) (s : Sigil) (w : Written) → address_in w ≡ scalars (abs name ts s) w
unfolding scalars
abstract_is name ts s (address p n) = refl
abstract_is name ts s w = refl

pub abstract_told : (ty : Ty) (name : List ℕ) (args : List Ty) (s : Sigil) → ty ≡ Abs name args s → (w : Written) → address_in w ≡ scalars (type_of ty) w
abstract_told ty name args s e w =
    let is : type_of ty ≡ abs name (to_taus (map type_of args)) s = grind (arith, the_lemmas) in
    abstract_is name (to_taus (map type_of args)) s w ∙ ap (λ t. scalars t w) (sym is)

read_is : (ps : Parts) (w : Written) → address_in w ≡ scalars (fields ps R) w
unfolding scalars
read_is ps (address p n) = refl
read_is ps w = refl

written_is : (ps : Parts) (w : Written) → address_in w ≡ scalars (fields ps W) w
unfolding scalars
written_is ps (address p n) = refl
written_is ps w = refl

pub boxed_told : (ps : Parts) (s : Sigil) → (s ≡ R) ⊎ (s ≡ W) → (w : Written) → address_in w ≡ scalars (fields ps s) w
boxed_told ps s (inl e) w = read_is ps w ∙ ap (λ m. scalars (fields ps m) w) (sym e)
boxed_told ps s (inr e) w = written_is ps w ∙ ap (λ m. scalars (fields ps m) w) (sym e)
