-- The events of a body, over all nodes of its function.
use Rattle.std.proofs.Common.{◌≡◌, ℕ, Bool, true, Some, List, [], ◌∷◌, ◌++◌, length, drop, refl, sym, ap, ◌∙◌, subst, append-nil}
use Rattle.cg_base.specs.declared.kind.Kinds.{Kinds}
use Rattle.cg_base.specs.declared.place.Place.{Place}
use Rattle.cg_base.specs.Types.{Tau}
use Rattle.cg_cert.specs.Certificates.{nodes_of}
use Rattle.cg_cert.specs.declared.cert.CertNode.{CertNode}
use Rattle.cg_core.specs.Derivations.{Derivation}
use Rattle.cg_core.specs.Kernels.{Function}
use Rattle.cg_core.specs.Terms.{Tree, Note}
use Rattle.cg_faults.specs.Events as faults
use Rattle.cg_faults.specs.Events.{LimitsHold, nowhere}
use Rattle.cg_faults.specs.Plain.{plain_at}
use Rattle.cg_check_def.specs.NormalForm.{core}
use Rattle.cg_certcheck_def.specs.Reads.{tree_at}
use Rattle.cg_certcheck_def.specs.Events.{AllHold, events, body_events, is_over, size}
use Rattle.cg_typing.specs.Accepted.{kinds_of_vars}
use Rattle.cg_typing.specs.Contexts.{look}
use Rattle.cg_typing.specs.Kept.{IsKeptBody}
use Rattle.cg_typing.specs.Parts.{taken_by, given_by}
use Rattle.cg_typing.specs.Rules.{Derives}
use Rattle.cg_check_laws.proofs.Clash.{Lawful}
use Rattle.cg_check_laws.proofs.Clean.{Of, Within}
use Rattle.cg_check_laws.proofs.Complete as laws
use Rattle.cg_check_laws.proofs.ErasedCore.{erased_core}
use Rattle.cg_certcheck_laws.proofs.Complete.{complete}
use Rattle.cg_certcheck_laws.proofs.Limits.{LimitsFor}
use Rattle.cg_certcheck_laws.proofs.Rows.{HoldFor, hold_append, hold_left, hold_right}
use Rattle.cg_certcheck_laws.proofs.Sound.{sound}
use Rattle.cg_check_laws.proofs.Main.{zero_is}

pub over_is : {A : Type 0} (xs : List A) → is_over xs ≡ true → xs ≡ []
over_is [] h = refl
over_is (x ∷ xs) h = absurd (cc)

-- the context of an argument alone
alone : (t : Tau) → Within (Some t ∷ []) (t ∷ [])
alone t = record { long = refl; at = λ i lt. subst (λ i. Of (look (Some t ∷ []) i) (plain_at (t ∷ []) i)) (zero_is i lt) refl }

module _ (functions : List Function) (f : Function) where
  -- the nodes are those of a derivation of the body's core, and no type passes the limit
  pub record BodySpelled (body : Tree Place) (ns : List CertNode) : Type 0 where
    pub tree : Derivation
    pub reads : tree ≡ tree_at ns body
    pub nodes : ns ≡ nodes_of tree
    pub kept : IsKeptBody functions (kinds_of_vars f) (taken_by f.ty.ty) (given_by f.ty.ty) body (core functions (taken_by f.ty.ty ∷ []) (Some (given_by f.ty.ty)) body) tree
    pub limits : LimitsHold (faults.events functions (kinds_of_vars f) (taken_by f.ty.ty ∷ []) nowhere (Some (given_by f.ty.ty)) body)

  -- the events of a body say that
  pub body_sound : (body : Tree Place) (ns : List CertNode) (n : ℕ) → Lawful functions (kinds_of_vars f) (length f.vars) 1 body → AllHold (body_events functions f body ns n) → BodySpelled body ns
  body_sound body ns n lawful h =
      let vars = kinds_of_vars f in
      let argument = taken_by f.ty.ty in
      let result = given_by f.ty.ty in
      let es = events functions vars (Some argument ∷ []) (argument ∷ []) (Some result) ns n body in
      let d = sound functions vars (length f.vars) body (Some argument ∷ []) (argument ∷ []) (Some result) ns n lawful (alone argument) (hold_left es _ h) in
      let none_left = over_is (drop (size body) ns) (hold_right es _ h).0 in
      record {
        tree = d.tree;
        reads = d.reads;
        nodes = d.heads ∙ ap (λ z. nodes_of d.tree ++ z) none_left ∙ append-nil (nodes_of d.tree);
        kept = record { erases = erased_core functions vars (length f.vars) body (argument ∷ []) (Some result) 1 lawful; derives = d.derives };
        limits = d.limits nowhere;
      }

  -- a core that is kept is that of plain typing
  core_is : (vars : List Kinds) (argument result : Tau) (body : Tree Place) (c : Tree Note) (d : Derivation) → IsKeptBody functions vars argument result body c d
      → c ≡ core functions (argument ∷ []) (Some result) body
  core_is vars argument result body c d k =
      (laws.complete functions vars c (argument ∷ []) nowhere (Some result) (Some argument ∷ []) d (alone argument) (λ i lt u b. absurd (cc)) k.derives).core_is
      ∙ ap (core functions (argument ∷ []) (Some result)) k.erases

  -- the events of a body hold of the nodes of any derivation that is kept, within the limit where that is asked for
  pub body_complete : (limited : Bool) (body : Tree Place) (c : Tree Note) (d : Derivation) (n : ℕ) → IsKeptBody functions (kinds_of_vars f) (taken_by f.ty.ty) (given_by f.ty.ty) body c d
      → LimitsFor limited (faults.events functions (kinds_of_vars f) (taken_by f.ty.ty ∷ []) nowhere (Some (given_by f.ty.ty)) body)
      → HoldFor limited (body_events functions f body (nodes_of d) n)
  body_complete limited body c d n k l =
      let vars = kinds_of_vars f in
      let argument = taken_by f.ty.ty in
      let result = given_by f.ty.ty in
      let h = subst (λ z. Derives functions vars (Some argument ∷ []) d (Some result) z) (core_is vars argument result body c d k) k.derives in
      let r = complete functions vars limited body (Some argument ∷ []) (argument ∷ []) (Some result) (nodes_of d) n d [] nowhere (alone argument) (sym (append-nil (nodes_of d))) h l in
      hold_append limited (events functions vars (Some argument ∷ []) (argument ∷ []) (Some result) (nodes_of d) n body) _ r.holds (ap is_over r.left, tt)
