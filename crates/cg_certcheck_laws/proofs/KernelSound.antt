-- Where no event of a certificate fails, it lists derivations of the kernel, and no type passes the limit.
use Rattle.std.proofs.Common.{◌≡◌, ℕ, ◌+◌, true, Option, Some, None, List, [], ◌∷◌, length, map, refl, sym, ap, ◌∙◌}
use Rattle.std.specs.List.{All, flat_map}
use Rattle.std.proofs.lemmas.List.Elements.{All-head, All-tail}
use Rattle.cg_cert.specs.Certificates.{nodes_of, functions_of}
use Rattle.cg_cert.specs.declared.cert.CertFun.{CertFun}
use Rattle.cg_cert.specs.declared.cert.CertNode.{CertNode}
use Rattle.cg_core.specs.Derivations.{Derivation}
use Rattle.cg_core.specs.Kernels.{Function, Body}
use Rattle.cg_core.specs.Terms.{Tree, Note}
use Rattle.cg_faults.specs.Events as faults
use Rattle.cg_faults.specs.Events.{LimitsHold, nowhere}
use Rattle.cg_core_def.specs.Lawful.{IsLawfulFunction, IsLawfulBody}
use Rattle.cg_check_def.specs.NormalForm.{core}
use Rattle.cg_certcheck_def.specs.Events.{AllHold, function_events, maybe_body_events, body_events, is_named, nodes_next, funs_behind, size}
use Rattle.cg_certcheck_laws.specs.Laws.{body_kept, all_kept}
use Rattle.cg_check_pieces.specs.Bodies.{core_in, tree_in}
use Rattle.cg_certcheck_def.specs.Reads.{tree_at}
use Rattle.cg_typing.specs.Accepted.{kinds_of_vars}
use Rattle.cg_typing.specs.Kept.{IsKeptMaybe, AreKept}
use Rattle.cg_typing.specs.Parts.{is_arrow, taken_by, given_by, has_word_arrays}
use Rattle.cg_certcheck_laws.proofs.BodyEvents.{over_is, body_sound}
use Rattle.cg_certcheck_laws.proofs.Limits.{limits_append, scope_limits}
use Rattle.cg_certcheck_laws.proofs.Rows.{hold_left, hold_right}
use Rattle.cg_check_laws.proofs.SoundBinders.{arrow_is}
use Rattle.cg_check_laws.proofs.SameTypes.{name_is}
use Rattle.cg_base.proofs.Truths.{both as and_both}

abbrev pub cert_fun : List ℕ → List CertNode → CertFun
cert_fun name ns = record { name = name; nodes = ns }

-- the next function has this name
named : (funs : List CertFun) (name : List ℕ) → is_named funs name ≡ true → funs ≡ cert_fun name (nodes_next funs) ∷ funs_behind funs
named [] name h = absurd (cc)
named (x ∷ funs) name h = ap (λ z. cert_fun z x.nodes ∷ funs) (name_is x.name name h)

module _ (functions : List Function) where
  abbrev pub Legal : Function → Type 0
  Legal f = IsLawfulFunction (map (λ f. length f.vars) functions) f

  -- functions of a certificate that list derivations of functions of the kernel
  pub record Listed (fs : List Function) (funs : List CertFun) : Type 0 where
    pub cores : List (Option (Tree Note))
    pub trees : List (Option Derivation)
    pub kept : AreKept functions fs cores trees
    pub lists : funs ≡ functions_of fs trees
    -- these are what the pass keeps
    pub as_cores : map core_in (all_kept functions fs funs) ≡ cores
    pub as_trees : map tree_in (all_kept functions fs funs) ≡ trees
    pub limits : LimitsHold (flat_map (faults.function_events functions) fs)

  -- the next function with the later ones
  record Next (f : Function) (fs : List Function) (body : Option Body) (funs : List CertFun) : Type 0 where
    pub core : Option (Tree Note)
    pub tree : Option Derivation
    pub kept : IsKeptMaybe functions (kinds_of_vars f) (taken_by f.ty.ty) (given_by f.ty.ty) body core tree
    pub within : LimitsHold (faults.body_events functions (kinds_of_vars f) (taken_by f.ty.ty) (given_by f.ty.ty) body)
    pub rest : List CertFun
    pub later : Listed fs rest
    pub lists : funs ≡ functions_of (f ∷ fs) (tree ∷ later.trees)
    pub as_cores : map core_in (body_kept functions f body funs (λ rest. all_kept functions fs rest)) ≡ core ∷ later.cores
    pub as_trees : map tree_in (body_kept functions f body funs (λ rest. all_kept functions fs rest)) ≡ tree ∷ later.trees

  next : (f : Function) (fs : List Function) (body : Option Body) (funs : List CertFun) (n : ℕ) → IsLawfulBody (map (λ f. length f.vars) functions) (length f.vars) body
      → ((rest : List CertFun) (m : ℕ) → AllHold (function_events functions fs rest m) → Listed fs rest)
      → AllHold (maybe_body_events functions f body funs n (λ rest m. function_events functions fs rest m)) → Next f fs body funs
  next f fs None funs n lawful later h =
      let r = later funs n h in record { core = None; tree = None; kept = tt; within = tt; rest = funs; later = r; lists = r.lists; as_cores = ap (λ z. None ∷ z) r.as_cores; as_trees = ap (λ z. None ∷ z) r.as_trees }
  next f fs (Some body) funs n lawful later h =
      let es = body_events functions f body.term (nodes_next funs) n in
      let d = body_sound functions f body.term (nodes_next funs) n lawful (hold_left es _ h.1) in
      let r = later (funs_behind funs) (n + size body.term) (hold_right es _ h.1) in
      record {
        core = Some (core functions (taken_by f.ty.ty ∷ []) (Some (given_by f.ty.ty)) body.term);
        tree = Some d.tree;
        kept = d.kept;
        within = limits_append (faults.events functions (kinds_of_vars f) (taken_by f.ty.ty ∷ []) nowhere (Some (given_by f.ty.ty)) body.term) _ d.limits
            (scope_limits functions (kinds_of_vars f) 0 body.param (taken_by f.ty.ty) body.term);
        rest = funs_behind funs;
        later = r;
        lists = named funs f.at.name h.0 ∙ ap (λ z. cert_fun f.at.name z ∷ funs_behind funs) d.nodes ∙ ap (λ z. cert_fun f.at.name (nodes_of d.tree) ∷ z) r.lists;
        as_cores = ap (λ z. Some (core functions (taken_by f.ty.ty ∷ []) (Some (given_by f.ty.ty)) body.term) ∷ z) r.as_cores;
        as_trees = ap (λ z. Some (tree_at (nodes_next funs) body.term) ∷ z) r.as_trees ∙ ap (λ z. Some z ∷ r.trees) (sym d.reads);
      }

  -- function by function, in the order of the signatures
  pub functions_sound : (fs : List Function) → All Legal fs → (funs : List CertFun) (n : ℕ) → AllHold (function_events functions fs funs n) → Listed fs funs
  functions_sound [] lawful funs n h = record { cores = []; trees = []; kept = tt; lists = over_is funs h.0; as_cores = refl; as_trees = refl; limits = tt }
  functions_sound (f ∷ fs) lawful funs n h =
      let s = and_both (is_arrow f.ty.ty) (has_word_arrays f.ty.ty) h.0 in
      let r = next f fs f.body funs n (All-head Legal f fs lawful).body (functions_sound fs (All-tail Legal f fs lawful)) h.1 in
      record {
        cores = r.core ∷ r.later.cores;
        trees = r.tree ∷ r.later.trees;
        kept = (record { argument = taken_by f.ty.ty; result = given_by f.ty.ty; is_arrow = arrow_is f.ty.ty s.0; arrays = s.1; kept = r.kept }, r.later.kept);
        lists = r.lists;
        as_cores = r.as_cores;
        as_trees = r.as_trees;
        limits = limits_append (faults.function_events functions f) _ (tt, (tt, r.within)) r.later.limits;
      }
