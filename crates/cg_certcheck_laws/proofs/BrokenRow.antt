-- C2 at a node: no certificate with the same first nodes up to it spells a derivation.
use Rattle.std.proofs.Common.{◌≡◌, ℕ, zero, suc, ◌+◌, ◌<◌, Bool, true, false, ◌&&◌, Option, Some, None, List, [], ◌∷◌, ◌++◌, length, take, drop, slice_get, map, refl, sym, ap, subst, ◌∙◌, arith}
use Rattle.std.specs.List.{All}
use Rattle.std.proofs.lemmas.List.Elements.{All-head, All-tail}
use Rattle.cg_base.specs.declared.place.Place.{Place}
use Rattle.cg_cert.specs.declared.cert.CertFun.{CertFun}
use Rattle.cg_cert.specs.declared.cert.CertNode.{CertNode}
use Rattle.cg_cert.specs.declared.fault.CertFault.{CertFault}
use Rattle.cg_cert.specs.declared.fault.CertFault.TheVariants.{C2, C3}
use Rattle.cg_core.specs.Kernels.{Function, Body}
use Rattle.cg_core.specs.Terms.{Tree}
use Rattle.cg_core_def.specs.Lawful.{IsLawfulBody}
use Rattle.cg_faults.specs.Events.{kernel_events}
use Rattle.cg_certcheck_def.specs.Events.{Event, event, cert_events, events, body_events, maybe_body_events, function_events, is_over, is_named, size}
use Rattle.cg_certcheck_laws.specs.NumberLaws.{all_nodes, BrokenRow}
use Rattle.cg_typing.specs.Accepted.{kinds_of_vars}
use Rattle.cg_typing.specs.Parts.{is_arrow, taken_by, given_by, has_word_arrays}
use Rattle.cg_certcheck_laws.proofs.Alike.{Alike, alike_append, no_more, standing, no_early_fault, SameFrom}
use Rattle.cg_certcheck_laws.proofs.AlikeForms.{alike_term}
use Rattle.cg_certcheck_laws.proofs.FirstFault.{past_true, none_fails, first_append, first_of_all, BodyPlaced, body_placed}
use Rattle.cg_certcheck_laws.proofs.KernelSound.{Legal}
use Rattle.cg_certcheck_laws.proofs.Limits.{no_limits}
use Rattle.cg_certcheck_laws.proofs.Main.{spelled_holds}
use Rattle.cg_certcheck_laws.proofs.Placed.{or_later, first_naming}
use Rattle.cg_certcheck_laws.proofs.Rows.{HoldFor, asked_left, asked_right}

-- ---- places in lists

take_get : {A : Type 0} (k : ℕ) (xs : List A) (i : ℕ) → i < k → slice_get (take k xs) i ≡ slice_get xs i
take_get zero xs i lt = absurd (omega arith)
take_get (suc k) [] i lt = refl
take_get (suc k) (x ∷ xs) zero lt = refl
take_get (suc k) (x ∷ xs) (suc i) lt = take_get k xs i (omega arith)

get_left : {A : Type 0} (xs ys : List A) (i : ℕ) → i < length xs → slice_get (xs ++ ys) i ≡ slice_get xs i
get_left [] ys i lt = absurd (omega arith)
get_left (x ∷ xs) ys zero lt = refl
get_left (x ∷ xs) ys (suc i) lt = get_left xs ys i (omega arith)

get_right : {A : Type 0} (xs ys : List A) (i k : ℕ) → k ≡ length xs + i → slice_get (xs ++ ys) k ≡ slice_get ys i
get_right [] ys i k e = ap (slice_get ys) (omega arith)
get_right (x ∷ xs) ys i zero e = absurd (omega arith)
get_right (x ∷ xs) ys i (suc k) e = get_right xs ys i k (omega arith)

module _ (functions : List Function) (k : ℕ) where
  -- the events of a body, over nodes that are the same up to this one
  body_alike : (f : Function) (body : Tree Place) (ns ms : List CertNode) (n : ℕ) → SameFrom (suc k) n ns ms
      → Alike (suc k) (body_events functions f body ns n) (body_events functions f body ms n)
  body_alike f body ns ms n h =
      let vars = kinds_of_vars f in
      let g = Some (taken_by f.ty.ty) ∷ [] in
      let p = taken_by f.ty.ty ∷ [] in
      let way = Some (given_by f.ty.ty) in
      alike_append (events functions vars g p way ns n body) (events functions vars g p way ms n body) (alike_term functions vars (suc k) body g g p way ns ms n h (λ lt. refl))
      (standing (n + size body) (is_over (drop (size body) ns)) (is_over (drop (size body) ms)) no_more)

  -- the first fault is in a body or behind it
  in_body : (f : Function) (body : Tree Place) (ns ms later others : List CertNode) (n : ℕ) (o p : Option CertFault) → BodyPlaced ns n (size body) o → length ms ≡ size body
      → first_naming (body_events functions f body ns n) ≡ o → HoldFor false (body_events functions f body ms n) → SameFrom (suc k) n (ns ++ later) (ms ++ others)
      → (SameFrom (suc k) (n + size body) later others → p ≡ Some (C2 k) → ⊥) → or_later o p ≡ Some (C2 k) → ⊥
  in_body f body ns ms later others n None p long as_long first h same next is =
      next (λ i lt. sym (get_right ns later i (size body + i) (omega arith)) ∙ same (size body + i) (omega arith) ∙ get_right ms others i (size body + i) (omega arith)) is
  in_body f body ns ms later others n (Some (C2 m)) p placed as_long first h same next is =
      let number : m ≡ k = cc in
      let below = placed.1.0 in
      let there = placed.1.1 in
      no_early_fault (suc k) (body_events functions f body ns n) (body_events functions f body ms n) k
      (body_alike f body ns ms n (λ i lt. sym (get_left ns later i (omega arith)) ∙ same i lt ∙ get_left ms others i (omega arith))) h (omega arith) (first ∙ is)
  in_body f body ns ms later others n (Some (C3 m)) p placed as_long first h same next is = absurd (cc)
  in_body f body ns ms later others n (Some fault) p placed as_long first h same next is = absurd (cc)

  abbrev Later : List Function → Type 0
  Later fs = (funs others : List CertFun) (n : ℕ) → HoldFor false (function_events functions fs others n) → SameFrom (suc k) n (all_nodes funs) (all_nodes others)
      → first_naming (function_events functions fs funs n) ≡ Some (C2 k) → ⊥

  in_maybe : (f : Function) (fs : List Function) (body : Option Body) (funs others : List CertFun) (n : ℕ) → IsLawfulBody (map (λ f. length f.vars) functions) (length f.vars) body → Later fs
      → HoldFor false (maybe_body_events functions f body others n (λ rest m. function_events functions fs rest m)) → SameFrom (suc k) n (all_nodes funs) (all_nodes others)
      → first_naming (maybe_body_events functions f body funs n (λ rest m. function_events functions fs rest m)) ≡ Some (C2 k) → ⊥
  in_maybe f fs None funs others n lawful later h same is = later funs others n h same is
  in_maybe f fs (Some body) [] others n lawful later h same is = absurd (cc)
  in_maybe f fs (Some body) (a ∷ rest) [] n lawful later h same is = absurd (let z = h.0 in cc)
  in_maybe f fs (Some body) (a ∷ rest) (b ∷ beyond) n lawful later h same is =
      let s = size body.term in
      let xs = body_events functions f body.term a.nodes n in
      let ys = body_events functions f body.term b.nodes n in
      let zs = function_events functions fs rest (n + s) in
      let hb = asked_left false ys _ h.1 in
      let long = subst (λ o. BodyPlaced b.nodes n s o) (none_fails ys hb) (body_placed functions f body.term b.nodes n lawful) in
      behind_name (is_named (a ∷ rest) f.at.name) (xs ++ zs) is (λ e.
      in_body f body.term a.nodes b.nodes (all_nodes rest) (all_nodes beyond) n (first_naming xs) (first_naming zs) (body_placed functions f body.term a.nodes n lawful) long refl hb same
      (λ s e. later rest beyond (n + size body.term) (asked_right false ys _ h.1) s e) (sym (first_append xs zs) ∙ e))
    where
      -- a name that differs is C3
      behind_name : (named : Bool) (es : List Event) → first_naming (event (C3 n) named ∷ es) ≡ Some (C2 k) → (first_naming es ≡ Some (C2 k) → ⊥) → ⊥
      behind_name true es e next = next e
      behind_name false es e next = absurd (cc)

  in_functions : (fs : List Function) → All (Legal functions) fs → Later fs
  in_functions [] lawful [] others n h same is = absurd (cc)
  in_functions [] lawful (a ∷ rest) others n h same is = absurd (cc)
  in_functions (f ∷ fs) lawful funs others n h same is =
      let es = maybe_body_events functions f f.body funs n (λ rest m. function_events functions fs rest m) in
      in_maybe f fs f.body funs others n (All-head (Legal functions) f fs lawful).body (in_functions fs (All-tail (Legal functions) f fs lawful)) h.1 same
      (sym (past_true (C2 n) (is_arrow f.ty.ty && has_word_arrays f.ty.ty) es h.0) ∙ is)

pub broken_row : BrokenRow
broken_row functions cert k lawful is other same spells =
    in_functions functions k functions lawful.functions_stand cert.funs other.funs 1 (spelled_holds functions other false spells (no_limits (kernel_events functions)))
    (λ i lt. sym (take_get k (all_nodes cert.funs) i (omega arith)) ∙ ap (λ z. slice_get z i) same ∙ take_get k (all_nodes other.funs) i (omega arith))
    (first_of_all (cert_events functions cert) (C2 k) refl is)
