-- C3 at a node: no certificate with the same lines in front of it spells a derivation.
use Rattle.std.proofs.Common.{◌≡◌, inl, inr, ℕ, zero, suc, ◌+◌, ◌-◌, ◌<◌, false, ◌&&◌, Option, Some, None, List, [], ◌∷◌, ◌++◌, length, map, refl, sym, ap, subst, ◌∙◌, arith}
use Rattle.std.specs.List.{All}
use Rattle.std.proofs.lemmas.List.Elements.{All-head, All-tail}
use Rattle.cg_cert.specs.declared.cert.CertFun.{CertFun}
use Rattle.cg_cert.specs.declared.cert.CertNode.{CertNode}
use Rattle.cg_cert.specs.declared.fault.CertFault.{CertFault}
use Rattle.cg_cert.specs.declared.fault.CertFault.TheVariants.{C2, C3}
use Rattle.cg_core.specs.Kernels.{Function, Body}
use Rattle.cg_core_def.specs.Lawful.{IsLawfulBody}
use Rattle.cg_faults.specs.Same.{same_name}
use Rattle.cg_faults.specs.Events.{kernel_events}
use Rattle.cg_certcheck_def.specs.Events.{cert_events, body_events, maybe_body_events, function_events, is_named, size}
use Rattle.cg_certcheck_laws.specs.NumberLaws.{all_nodes, Line, of_node, lines, lines_before, IsInRange, OutOfPlace}
use Rattle.cg_typing.specs.Parts.{is_arrow, has_word_arrays}
use Rattle.cg_certcheck_laws.proofs.FirstFault.{past_true, none_fails, first_append, first_of_all, BodyPlaced, body_placed, functions_in_range}
use Rattle.cg_certcheck_laws.proofs.KernelSound.{Legal}
use Rattle.cg_certcheck_laws.proofs.Limits.{no_limits}
use Rattle.cg_certcheck_laws.proofs.Main.{spelled_holds}
use Rattle.cg_certcheck_laws.proofs.Placed.{or_later, first_naming}
use Rattle.cg_certcheck_laws.proofs.Rows.{HoldFor, asked_left, asked_right}

-- ---- lines in front of a node

-- behind as many nodes
behind_nodes : (xs ys : List CertNode) (us vs : List Line) (q k : ℕ) → k ≡ length xs + q → length xs ≡ length ys
    → lines_before k (map of_node xs ++ us) ≡ lines_before k (map of_node ys ++ vs) → lines_before q us ≡ lines_before q vs
behind_nodes [] [] us vs q k e l h = let is : k ≡ q = omega arith in subst (λ z. lines_before z us ≡ lines_before z vs) is h
behind_nodes (x ∷ xs) (y ∷ ys) us vs q zero e l h = absurd (omega arith)
behind_nodes (x ∷ xs) (y ∷ ys) us vs q (suc k) e l h =
    let rest : lines_before k (map of_node xs ++ us) ≡ lines_before k (map of_node ys ++ vs) = cc in behind_nodes xs ys us vs q k (omega arith) (omega arith) rest
behind_nodes [] (y ∷ ys) us vs q k e l h = absurd (omega arith)
behind_nodes (x ∷ xs) [] us vs q k e l h = absurd (omega arith)

-- a function with fewer nodes doesn't go on as one with more
shorter : (xs ys : List CertNode) (funs others : List CertFun) (k : ℕ) → k ≡ length xs → length xs < length ys
    → lines_before k (map of_node xs ++ lines funs) ≡ lines_before k (map of_node ys ++ lines others) → ⊥
shorter [] [] funs others k e l h = absurd (omega arith)
shorter [] (y ∷ ys) [] others zero e l h = absurd (cc)
shorter [] (y ∷ ys) (f ∷ funs) others zero e l h = absurd (cc)
shorter [] (y ∷ ys) funs others (suc k) e l h = absurd (omega arith)
shorter (x ∷ xs) [] funs others k e l h = absurd (omega arith)
shorter (x ∷ xs) (y ∷ ys) funs others zero e l h = absurd (omega arith)
shorter (x ∷ xs) (y ∷ ys) funs others (suc k) e l h =
    let rest : lines_before k (map of_node xs ++ lines funs) ≡ lines_before k (map of_node ys ++ lines others) = cc in shorter xs ys funs others k (omega arith) (omega arith) rest

module _ (functions : List Function) where
  -- over functions of which the first node has this number, with so many nodes in front of the fault
  abbrev Later : List Function → Type 0
  Later fs = (funs others : List CertFun) (n q : ℕ) → HoldFor false (function_events functions fs others n) → lines_before q (lines funs) ≡ lines_before q (lines others)
      → first_naming (function_events functions fs funs n) ≡ Some (C3 (n + q)) → ⊥

  -- the first fault is in a body or behind it
  in_body : (ns ms : List CertNode) (rest beyond : List CertFun) (n q s : ℕ) (o p : Option CertFault) → BodyPlaced ns n s o → length ms ≡ s
      → lines_before q (map of_node ns ++ lines rest) ≡ lines_before q (map of_node ms ++ lines beyond) → IsInRange (n + s) (all_nodes rest) p
      → ((r : ℕ) → lines_before r (lines rest) ≡ lines_before r (lines beyond) → p ≡ Some (C3 ((n + s) + r)) → ⊥) → or_later o p ≡ Some (C3 (n + q)) → ⊥
  in_body ns ms rest beyond n q s None None placed long same range next is = absurd (cc)
  in_body ns ms rest beyond n q s None (Some fault) placed long same range next is =
      let low = (subst (λ o. IsInRange (n + s) (all_nodes rest) o) is range).0 in
      let number : n + q ≡ (n + s) + (q - s) = omega arith in
      next (q - s) (behind_nodes ns ms (lines rest) (lines beyond) (q - s) q (omega arith) (omega arith) same) (is ∙ ap (λ z. Some (C3 z)) number)
  in_body ns ms rest beyond n q s (Some (C2 m)) p placed long same range next is = absurd (cc)
  in_body ns ms rest beyond n q s (Some (C3 m)) p (inl placed) long same range next is =
      let number : m ≡ n + q = cc in let at = placed.0 in let few = placed.1 in shorter ns ms rest beyond q (omega arith) (omega arith) same
  in_body ns ms rest beyond n q s (Some (C3 m)) p (inr placed) long same range next is =
      let number : m ≡ n + q = cc in let at = placed.0 in let many = placed.1 in shorter ms ns beyond rest q (omega arith) (omega arith) (sym same)
  in_body ns ms rest beyond n q s (Some fault) p placed long same range next is = absurd (cc)

  in_maybe : (f : Function) (fs : List Function) (body : Option Body) (funs others : List CertFun) (n q : ℕ) → IsLawfulBody (map (λ f. length f.vars) functions) (length f.vars) body
      → All (Legal functions) fs → Later fs → HoldFor false (maybe_body_events functions f body others n (λ rest m. function_events functions fs rest m))
      → lines_before q (lines funs) ≡ lines_before q (lines others)
      → first_naming (maybe_body_events functions f body funs n (λ rest m. function_events functions fs rest m)) ≡ Some (C3 (n + q)) → ⊥
  in_maybe f fs None funs others n q lawful legal later h same is = later funs others n q h same is
  in_maybe f fs (Some body) funs [] n q lawful legal later h same is = absurd (let z = h.0 in cc)
  in_maybe f fs (Some body) [] (b ∷ beyond) n q lawful legal later h same is = absurd (cc)
  in_maybe f fs (Some body) (a ∷ rest) (b ∷ beyond) n q lawful legal later h same is =
      let s = size body.term in
      let xs = body_events functions f body.term a.nodes n in
      let ys = body_events functions f body.term b.nodes n in
      let zs = function_events functions fs rest (n + s) in
      let name : a.name ≡ b.name = cc in
      let behind : lines_before q (map of_node a.nodes ++ lines rest) ≡ lines_before q (map of_node b.nodes ++ lines beyond) = cc in
      let named = ap (λ z. same_name z f.at.name) name ∙ h.0 in
      let long = subst (λ o. BodyPlaced b.nodes n s o) (none_fails ys (asked_left false ys _ h.1)) (body_placed functions f body.term b.nodes n lawful) in
      in_body a.nodes b.nodes rest beyond n q s (first_naming xs) (first_naming zs) (body_placed functions f body.term a.nodes n lawful) long behind
      (functions_in_range functions fs legal rest (n + s)) (λ r e is. later rest beyond (n + s) r (asked_right false ys _ h.1) e is)
      (sym (first_append xs zs) ∙ sym (past_true (C3 n) (is_named (a ∷ rest) f.at.name) (xs ++ zs) named) ∙ is)

  in_functions : (fs : List Function) → All (Legal functions) fs → Later fs
  in_functions [] lawful [] others n q h same is = absurd (cc)
  in_functions [] lawful (a ∷ rest) [] n q h same is = absurd (cc)
  in_functions [] lawful (a ∷ rest) (b ∷ beyond) n q h same is = absurd (let z = h.0 in cc)
  in_functions (f ∷ fs) lawful funs others n q h same is =
      let es = maybe_body_events functions f f.body funs n (λ rest m. function_events functions fs rest m) in
      in_maybe f fs f.body funs others n q (All-head (Legal functions) f fs lawful).body (All-tail (Legal functions) f fs lawful)
      (in_functions fs (All-tail (Legal functions) f fs lawful)) h.1 same (sym (past_true (C2 n) (is_arrow f.ty.ty && has_word_arrays f.ty.ty) es h.0) ∙ is)

pub out_of_place : OutOfPlace
out_of_place functions cert k lawful is other same spells =
    let number : suc k ≡ 1 + k = omega arith in
    in_functions functions functions lawful.functions_stand cert.funs other.funs 1 k (spelled_holds functions other false spells (no_limits (kernel_events functions))) same
    (first_of_all (cert_events functions cert) (C3 (suc k)) refl is ∙ ap (λ z. Some (C3 z)) number)
