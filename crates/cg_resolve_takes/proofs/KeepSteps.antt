-- Tables of heads, one more.
use Rattle.std.proofs.Common.{◌≡◌, ℕ, Bool, true, false, cond, List, map, Some, refl, sym, ap, ◌∙◌, subst, inl, Bor}
use Rattle.std.proofs.lemmas.Map.Text.{is_eq-slice_cmp}
use Rattle.std.specs.BTreeMap.{BTreeMap, Updates}
use Rattle.std.specs.Cmp.Lexicographic.{slice_cmp}
use Rattle.std.specs.Option.{option_map}
use Rattle.std.specs.Ordering.{nat_cmp}
use Rattle.std.specs.Str.{bytes_eq}
use Rattle.cg_base.specs.declared.place.Place.{Place}
use Rattle.cg_surface.specs.declared.written.STy.{STy}
use Rattle.cg_surface.specs.Programs.{Entry}
use Rattle.cg_surface.specs.Written.{written_of}
use Rattle.cg_resolve_declared.specs.Tables.{find}
use Rattle.cg_resolve_declared.specs.Views.{declared_of}
use Rattle.cg_resolve_declared.specs.declared.types.DeclaredType.{DeclaredType}
use Rattle.cg_resolve_def.specs.Declared.{type_named}
use Rattle.cg_resolve_takes.specs.Heads.{Head, Heads, head_of}
use Rattle.cg_resolve_takes.specs.Known.{HaveMore, KeepsBody, KeepsNamed}
use Rattle.cg_resolve_takes.specs.Views.{head_view, heads_in}
use Rattle.cg_resolve_takes.specs.declared.head.TypeHead.{TypeHead}

-- what an insertion does to the heads of a table
pub heads_more : (table new : BTreeMap (Bor (List ℕ)) TypeHead) (name : Bor (List ℕ)) (head : TypeHead) → Updates (λ x y. slice_cmp nat_cmp x.now y.now) table new name (Some head)
    → HaveMore name.now (head_view head) (heads_in table) (heads_in new)
heads_more table new name head updates m =
    ap (option_map head_view) (updates.0 (record { ref_ptr = (0, 0); now = m }) ∙ ap (λ b. cond b (Some head) (find table m)) (is_eq-slice_cmp name.now m))
    ∙ pick (bytes_eq name.now m)
  where
    pick : (b : Bool) → option_map head_view (cond b (Some head) (find table m)) ≡ cond b (Some (head_view head)) (option_map head_view (find table m))
    pick true = refl
    pick false = refl

-- the head of the body of a name's first type is kept
pub keeps_more : (entries : List Entry) (n : List ℕ) (p : Place) (first : DeclaredType) (body : Bor STy) (head : Head) (heads new : Heads) → Some (declared_of first) ≡ type_named entries n → first.body ≡ Some body
    → head ≡ head_of heads (map (λ at. at.name) first.params.now) (written_of body.now) → HaveMore n head heads new → KeepsNamed n p (type_named entries n) heads new
keeps_more entries n p first body head heads new named is same more =
    subst (λ d. KeepsNamed n p d heads new) named
    (subst (λ b. KeepsBody n p first.params.now (option_map (λ (t : Bor STy). written_of t.now) b) heads new) (sym is)
    (inl (subst (λ h. HaveMore n h heads new) same more)))
