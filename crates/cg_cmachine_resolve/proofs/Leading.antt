-- Where the paths of a function lead.
use Rattle.std.proofs.Common.{◌≡◌, ℕ, ◌+◌, ◌<◌, ◌≤◌, true, false, Some, None, Option, List, get_or, length, refl, sym, ap, ◌∙◌, subst, arith, Bor, MatchOption}
use Rattle.cg_cmachine_layout.specs.declared.kind.Kind.{Kind}
use Rattle.cg_cmachine_layout.specs.declared.kind.Kind.TheVariants as kind
use Rattle.cg_cmachine_layout.specs.declared.kind.Part.{Part}
use Rattle.cg_cmachine_layout.specs.Kinds.{IsPart, layout_of}
use Rattle.cg_cmachine_resolve.specs.declared.scope.Variable.{Variable}
use Rattle.cg_cmachine_resolve.specs.declared.scope.Variables.{Variables}
use Rattle.cg_cmachine_resolve.specs.Indexes.{place}
use Rattle.cg_cmachine_resolve.specs.Lines.{Leads, Whole}
use Rattle.cg_cmachine_resolve.specs.Scopes.{Finds, Scope, scope_of, total}
use Rattle.cg_cmachine_resolve.specs.Variables.{IsFirst, IsSite}
use Rattle.cg_cmachine_resolve.proofs.Places.{leads_behind, leads_local, leads_no_part, leads_no_pointer, leads_unnamed, struct_no_target, word_no_target}
use Rattle.cg_cmachine_resolve.proofs.Variables.{first_at, first_of}
use Rattle.cg_cmachine_def.specs.Layouts.{layout, walk}
use Rattle.cg_cmachine_def.specs.Operands.{target_of}
use Rattle.cg_cmachine_def.specs.Outcomes.{no}
use Rattle.cg_ctree.specs.declared.tree.CFun.{CFun}
use Rattle.cg_ctree.specs.declared.tree.CPath.{CPath}
use Rattle.cg_ctree.specs.declared.tree.CStruct.{CStruct}
use Rattle.cg_ctree.specs.declared.tree.CTy.TheVariants as ty
use Rattle.cg_ctree.specs.declared.why.Why.TheVariants.{KindsDiffer}
use Rattle.cg_cmachine_values.specs.declared.place.Place.TheVariants.{Nowhere, Local, Behind}

no_target : (k : Kind) → ((x : Bor (List ℕ)) → k ≡ kind.Pointer x → ⊥) → target_of (layout_of k) ≡ no KindsDiffer
no_target (kind.Word b) h = word_no_target b
no_target (kind.Pointer x) h = absurd (h x refl)
no_target (kind.Struct s) h = struct_no_target s

pub no_pointer : (ss : List CStruct) (vs : Scope) (p : CPath) (v : Variable) → IsFirst ss p.base vs v → ((x : Bor (List ℕ)) → v.kind ≡ kind.Pointer x → ⊥) → p.arrow ≡ true → Leads ss vs p Nowhere
no_pointer ss vs p v first h arrow = leads_no_pointer ss vs p v.start (layout ss v.ty.now) first.finds arrow (ap target_of (sym first.kinded) ∙ no_target v.kind h)

module _ (w : Whole) (ss : List CStruct) (f : CFun) (variables : Variables) (site : IsSite w ss f variables) (p : CPath) where
  on_site : (P : List CStruct → Type 0) → P ss → P w.program.structs
  on_site P h = subst P site.structs h

  module _ (at : Option ℕ) (is : at ≡ place variables.names p.base) where
    pub site_unnamed : at ≡ None → Leads w.program.structs (scope_of w.program.structs f) p Nowhere
    site_unnamed none = on_site (λ ss. Leads ss (scope_of ss f) p Nowhere) (leads_unnamed ss (scope_of ss f) p (sym (site.scope.named.first p.base) ∙ sym is ∙ none))

    module _ (i : ℕ) (some : at ≡ Some i) where
      pub site_within : i < length variables.list.items
      site_within = (first_at ss p.base (scope_of ss f) variables i site.scope (sym is ∙ some)).0

      pub site_first : (v : Variable) → v ≡ get_or variables.list.items i v → IsFirst w.program.structs p.base (scope_of w.program.structs f) v
      site_first v item = on_site (λ ss. IsFirst ss p.base (scope_of ss f) v) (first_of ss p.base (scope_of ss f) variables i v site.scope (sym is ∙ some) item)

  module _ (v : Variable) (first : IsFirst w.program.structs p.base (scope_of w.program.structs f) v) where
    pub site_behind : (x : Bor (List ℕ)) (part : Option Part) (members : List (List ℕ)) → v.kind ≡ kind.Pointer x → p.arrow ≡ true → members ≡ p.members
        → MatchOption part (walk members (layout ss (ty.Struct x.now)) ≡ None) (IsPart members (layout ss (ty.Struct x.now)))
        → Leads w.program.structs (scope_of w.program.structs f) p (Behind v.start part)
    site_behind x part members e arrow same h =
        leads_behind w.program.structs (scope_of w.program.structs f) p v.start x.now part
        (subst (Finds p.base (scope_of w.program.structs f) v.start) (sym first.kinded ∙ ap layout_of e) first.finds) arrow
        (subst (λ ms. MatchOption part (walk ms (layout w.program.structs (ty.Struct x.now)) ≡ None) (IsPart ms (layout w.program.structs (ty.Struct x.now)))) same
        (on_site (λ ss. MatchOption part (walk members (layout ss (ty.Struct x.now)) ≡ None) (IsPart members (layout ss (ty.Struct x.now)))) h))

    pub site_no_part : (members : List (List ℕ)) → p.arrow ≡ false → members ≡ p.members → walk members (layout ss v.ty.now) ≡ None → Leads w.program.structs (scope_of w.program.structs f) p Nowhere
    site_no_part members plain same h =
        leads_no_part w.program.structs (scope_of w.program.structs f) p v.start (layout w.program.structs v.ty.now) first.finds plain
        (ap (λ ms. walk ms (layout w.program.structs v.ty.now)) (sym same) ∙ on_site (λ ss. walk members (layout ss v.ty.now) ≡ None) h)

    pub site_local : (members : List (List ℕ)) (part : Part) → p.arrow ≡ false → members ≡ p.members → IsPart members (layout ss v.ty.now) part
        → Leads w.program.structs (scope_of w.program.structs f) p (Local (v.start + part.start) part.kind)
    site_local members part plain same h =
        let is = on_site (λ ss. IsPart members (layout ss v.ty.now) part) h in
        leads_local w.program.structs (scope_of w.program.structs f) p v.start (layout w.program.structs v.ty.now) part.start part.kind first.finds plain
        (ap (λ ms. walk ms (layout w.program.structs v.ty.now)) (sym same) ∙ is.found) is.within

    pub site_small : (members : List (List ℕ)) (part : Part) → IsPart members (layout ss v.ty.now) part → v.start + part.start ≤ variables.slots
    site_small members part h =
        let is = on_site (λ ss. IsPart members (layout ss v.ty.now) part) h in
        let many = on_site (λ ss. variables.slots ≡ total (scope_of ss f)) site.scope.many in
        omega (arith, is.within, first.finds.within, many)
