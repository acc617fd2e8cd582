-- The types that stand for forms.
use Rattle.std.proofs.Common.{◌≡◌, ℕ, false, List, [], refl, sym, ap, ◌∙◌}
use Rattle.std.specs.Prelude.{codes, if◌then◌else◌}
use Rattle.std.specs.Str.{bytes_eq}
use Rattle.cg_base.specs.declared.kind.Sigil.TheVariants.{R, W, U}
use Rattle.cg_base.specs.declared.kind.Word.TheVariants.{U8, U16, U32, U64}
use Rattle.cg_base.specs.Types.{Tau, word, abs, variant, fields, none, Parts, end, part}
use Rattle.cg_ctree.specs.declared.tree.CTy.TheVariants as ty
use Rattle.cg_cgen_def.specs.Names.{struct_name}
use Rattle.cg_lower_def.specs.CTypes.{c_type, form, form_parts}
use Rattle.cg_lower_tables.specs.declared.host.Host.{Host}
use Rattle.cg_lower_tables.specs.declared.host.Host.TheVariants as host
use Rattle.cg_lower_tables.specs.Plain.{host_of, host_plain, host_struct, plain, plain_parts}
use Rattle.cg_lower_tables.proofs.Hosts.{struct_is}

-- the form of a type that stands for abstract ones
form_host : (h : Host) → form (host_plain h) ≡ abs (host_struct h) none W
unfolding form
form_host host.System = refl
form_host (host.Array w) = refl
form_host host.Foreign = refl

-- what stands for a form is of the form
mutual
  unfolding form plain

  pub form_plain : (t : Tau) → form (plain t) ≡ form t
  form_plain (abs x args sigil) = form_host (host_of x args) ∙ ap (λ y. abs y none W) (sym (struct_is x args))
  form_plain (variant ps) = ap variant (parts_plain ps)
  form_plain (fields ps U) = ap (λ qs. fields qs U) (parts_plain ps)
  form_plain (fields ps R) = ap (λ qs. fields qs W) (parts_plain ps)
  form_plain (fields ps W) = ap (λ qs. fields qs W) (parts_plain ps)
  form_plain _ = refl

  pub parts_plain : (ps : Parts) → form_parts (plain_parts ps) ≡ form_parts ps
  parts_plain end = refl
  parts_plain (part x t taken ps) = let first = form_plain t in let rest = parts_plain ps in cc

-- ---- a form has one type that stands for it

-- what C sees of the abstract types of a struct's name
abbrev unhost : List ℕ → Host
unhost x =
    if bytes_eq x (codes "SysState") then host.System
    else if bytes_eq x (codes "W8") then host.Array U8
    else if bytes_eq x (codes "W16") then host.Array U16
    else if bytes_eq x (codes "W32") then host.Array U32
    else if bytes_eq x (codes "W64") then host.Array U64 else host.Foreign

unhost_struct : (h : Host) → unhost (host_struct h) ≡ h
unhost_struct host.System = refl
unhost_struct (host.Array U8) = refl
unhost_struct (host.Array U16) = refl
unhost_struct (host.Array U32) = refl
unhost_struct (host.Array U64) = refl
unhost_struct host.Foreign = refl

-- the type that stands for a form
abbrev mutual
  of_form : Tau → Tau
  of_form (word w) = word w
  of_form (abs x args sigil) = host_plain (unhost x)
  of_form (variant ps) = variant (of_forms ps)
  of_form (fields ps sigil) = fields (of_forms ps) sigil
  of_form _ = word U8

  of_forms : Parts → Parts
  of_forms end = end
  of_forms (part x t taken ps) = part [] (of_form t) false (of_forms ps)

mutual
  unfolding form plain

  by_form : (t : Tau) → of_form (form t) ≡ plain t
  by_form (abs x args sigil) = ap (λ y. host_plain (unhost y)) (struct_is x args) ∙ ap host_plain (unhost_struct (host_of x args))
  by_form (variant ps) = ap variant (by_forms ps)
  by_form (fields ps U) = ap (λ qs. fields qs U) (by_forms ps)
  by_form (fields ps R) = ap (λ qs. fields qs W) (by_forms ps)
  by_form (fields ps W) = ap (λ qs. fields qs W) (by_forms ps)
  by_form _ = refl

  by_forms : (ps : Parts) → of_forms (form_parts ps) ≡ plain_parts ps
  by_forms end = refl
  by_forms (part x t taken ps) = let first = by_form t in let rest = by_forms ps in cc

-- one type stands for all of a form
pub same_plain : (t u : Tau) → form t ≡ form u → plain t ≡ plain u
same_plain t u e = sym (by_form t) ∙ ap of_form e ∙ by_form u

pub plain_twice : (t : Tau) → plain (plain t) ≡ plain t
plain_twice t = same_plain (plain t) t (form_plain t)

-- ---- C sees what stands for a form as all types of it

module _ (numbered : Tau → ℕ) where
  pub c_host : (h : Host) → c_type numbered (host_plain h) ≡ ty.Pointer (host_struct h)
  c_host host.System = refl
  c_host (host.Array w) = refl
  c_host host.Foreign = refl

  pub c_plain : (t : Tau) → c_type numbered (plain t) ≡ c_type numbered t
  unfolding plain
  c_plain (abs x args sigil) = c_host (host_of x args) ∙ ap ty.Pointer (sym (struct_is x args))
  c_plain (variant ps) = ap (λ qs. ty.Struct (struct_name (numbered (variant qs)))) (parts_plain ps)
  c_plain (fields ps U) = ap (λ qs. ty.Struct (struct_name (numbered (fields qs U)))) (parts_plain ps)
  c_plain (fields ps R) = ap (λ qs. ty.Pointer (struct_name (numbered (fields qs U)))) (parts_plain ps)
  c_plain (fields ps W) = ap (λ qs. ty.Pointer (struct_name (numbered (fields qs U)))) (parts_plain ps)
  c_plain _ = refl
