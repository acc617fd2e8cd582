-- Where the first fault that names a node points: bodies over the nodes of their functions, and the numbers that a certificate can be answered.
use Rattle.std.proofs.Common.{◌≡◌, ◌⊎◌, inl, inr, ℕ, ◌+◌, ◌-◌, ◌<◌, ◌≤◌, Bool, true, false, ◌&&◌, Option, Some, None, List, [], ◌∷◌, ◌++◌, length, length-append, length-drop, drop, map, refl, sym, ap, subst, ◌∙◌, arith}
use Rattle.std.specs.Prelude.{⊤}
use Rattle.std.specs.List.{All}
use Rattle.std.proofs.lemmas.List.Elements.{All-head, All-tail}
use Rattle.cg_base.specs.declared.place.Place.{Place}
use Rattle.cg_cert.specs.declared.cert.CertFun.{CertFun}
use Rattle.cg_cert.specs.declared.cert.CertNode.{CertNode}
use Rattle.cg_cert.specs.declared.fault.CertFault.{CertFault}
use Rattle.cg_cert.specs.declared.fault.CertFault.TheVariants.{C2, C3, Limit}
use Rattle.cg_core.specs.Kernels.{Function, Body}
use Rattle.cg_core.specs.Terms.{Tree}
use Rattle.cg_core_def.specs.Lawful.{IsLawfulBody}
use Rattle.cg_certcheck_def.specs.Events.{Event, event, first_failing, stands, events, body_events, maybe_body_events, function_events, cert_events, is_over, is_named, size}
use Rattle.cg_certcheck_laws.specs.NumberLaws.{all_nodes, IsInRange, NumbersAreInRange}
use Rattle.cg_typing.specs.Accepted.{kinds_of_vars}
use Rattle.cg_typing.specs.Parts.{is_arrow, taken_by, given_by, has_word_arrays}
use Rattle.cg_check_laws.proofs.Clash.{Lawful}
use Rattle.cg_certcheck_laws.proofs.KernelSound.{Legal}
use Rattle.cg_certcheck_laws.proofs.Placed.{Placed, naming, or_later, first_naming}
use Rattle.cg_certcheck_laws.proofs.PlacedForms.{place_term}
use Rattle.cg_certcheck_laws.proofs.Rows.{Asked, HoldFor}

-- ---- lists of events

pub past_true : (fault : CertFault) (holds : Bool) (xs : List Event) → holds ≡ true → first_naming (event fault holds ∷ xs) ≡ first_naming xs
past_true fault true xs h = refl
past_true fault false xs h = absurd (cc)

-- a limit isn't asked for
not_asked : (fault : CertFault) (later : Option CertFault) → Asked false fault false → later ≡ None → or_later (naming fault) later ≡ None
not_asked (Limit limit) later h e = e
not_asked fault later h e = absurd (cc)

pub none_fails : (xs : List Event) → HoldFor false xs → first_naming xs ≡ None
none_fails [] h = refl
none_fails (event fault true ∷ xs) h = none_fails xs h.1
none_fails (event fault false ∷ xs) h = not_asked fault (first_naming xs) h.0 (none_fails xs h.1)

or_or : (o p q r : Option CertFault) → r ≡ or_later p q → or_later o r ≡ or_later (or_later o p) q
or_or None p q r e = e
or_or (Some fault) p q r e = refl

pub first_append : (xs ys : List Event) → first_naming (xs ++ ys) ≡ or_later (first_naming xs) (first_naming ys)
first_append [] ys = refl
first_append (event fault true ∷ xs) ys = first_append xs ys
first_append (event fault false ∷ xs) ys = or_or (naming fault) (first_naming xs) (first_naming ys) (first_naming (xs ++ ys)) (first_append xs ys)

-- the first fault of all, where it names a node
pub first_of_all : (xs : List Event) (fault : CertFault) → naming fault ≡ Some fault → first_failing xs ≡ Some fault → first_naming xs ≡ Some fault
first_of_all [] fault n e = absurd (cc)
first_of_all (event f true ∷ xs) fault n e = first_of_all xs fault n e
first_of_all (event f false ∷ xs) fault n e =
    let is : f ≡ fault = cc in ap (λ z. or_later (naming z) (first_naming xs)) is ∙ ap (λ o. or_later o (first_naming xs)) n

-- ---- bodies

-- where none fails, there are as many nodes as the body has; a row is that of a node that is there; and a node is missing behind all that
-- are there, or there is one behind those of the body
abbrev pub BodyPlaced : List CertNode → ℕ → ℕ → Option CertFault → Type 0
BodyPlaced ns n s None = length ns ≡ s
BodyPlaced ns n s (Some (C2 m)) = (n ≤ m) × ((m < n + s) × (m < n + length ns))
BodyPlaced ns n s (Some (C3 m)) = ((m ≡ n + length ns) × (length ns < s)) ⊎ ((m ≡ n + s) × (s < length ns))
BodyPlaced ns n s (Some fault) = ⊤

pub body_placed : (functions : List Function) (f : Function) (body : Tree Place) (ns : List CertNode) (n : ℕ) → Lawful functions (kinds_of_vars f) (length f.vars) 1 body
    → BodyPlaced ns n (size body) (first_naming (body_events functions f body ns n))
body_placed functions f body ns n lawful =
    let vars = kinds_of_vars f in
    let es = events functions vars (Some (taken_by f.ty.ty) ∷ []) (taken_by f.ty.ty ∷ []) (Some (given_by f.ty.ty)) ns n body in
    let placed = (place_term functions vars (length f.vars) body 1 lawful (Some (taken_by f.ty.ty) ∷ []) (taken_by f.ty.ty ∷ []) (Some (given_by f.ty.ty)) ns n).placed (omega arith) in
    subst (λ o. BodyPlaced ns n (size body) o) (sym (first_append es _)) (go (first_naming es) placed)
  where
    over : (rest : List CertNode) → size body ≤ length ns → length rest ≡ length ns - size body → BodyPlaced ns n (size body) (first_naming (stands (n + size body) (is_over rest) ∷ []))
    over [] le e = omega arith
    over (x ∷ rest) le e = inr (refl, omega arith)

    go : (o : Option CertFault) → Placed ns n (size body) o → BodyPlaced ns n (size body) (or_later o (first_naming (stands (n + size body) (is_over (drop (size body) ns)) ∷ [])))
    go None p = over (drop (size body) ns) p (length-drop (size body) ns)
    go (Some (C2 m)) p = p
    go (Some (C3 m)) p = inl p
    go (Some fault) p = tt

-- ---- numbers

-- a fault of what stands behind nodes that are all there
in_later : (n s : ℕ) (ns later : List CertNode) (o : Option CertFault) → length ns ≡ s → IsInRange (n + s) later o → IsInRange n (ns ++ later) o
in_later n s ns later None e h = tt
in_later n s ns later (Some (C2 k)) e h = let x = h.0 in let y = h.1 in let long = length-append ns later in (omega arith, omega arith)
in_later n s ns later (Some (C3 k)) e h = let x = h.0 in let y = h.1 in let long = length-append ns later in (omega arith, omega arith)
in_later n s ns later (Some fault) e h = tt

-- a fault of these nodes, or else of what stands behind them
in_either : (n s : ℕ) (ns later : List CertNode) (o p : Option CertFault) → BodyPlaced ns n s o → IsInRange (n + s) later p → IsInRange n (ns ++ later) (or_later o p)
in_either n s ns later None p e h = in_later n s ns later p e h
in_either n s ns later (Some (C2 k)) p b h = let x = b.0 in let y = b.1.1 in let long = length-append ns later in (x, omega arith)
in_either n s ns later (Some (C3 k)) p (inl b) h = let x = b.0 in let long = length-append ns later in (omega arith, omega arith)
in_either n s ns later (Some (C3 k)) p (inr b) h = let x = b.0 in let y = b.1 in let long = length-append ns later in (omega arith, omega arith)
in_either n s ns later (Some fault) p b h = tt

-- a fault with the next number, or else a later one
or_here : (n : ℕ) (nodes : List CertNode) (fault : CertFault) (holds : Bool) (xs : List Event) → IsInRange n nodes (or_later (naming fault) (first_naming xs)) → IsInRange n nodes (first_naming xs)
    → IsInRange n nodes (first_naming (event fault holds ∷ xs))
or_here n nodes fault true xs h k = k
or_here n nodes fault false xs h k = h

module _ (functions : List Function) where
  maybe_in_range : (f : Function) (fs : List Function) (body : Option Body) (funs : List CertFun) (n : ℕ) → IsLawfulBody (map (λ f. length f.vars) functions) (length f.vars) body
      → ((rest : List CertFun) (m : ℕ) → IsInRange m (all_nodes rest) (first_naming (function_events functions fs rest m)))
      → IsInRange n (all_nodes funs) (first_naming (maybe_body_events functions f body funs n (λ rest m. function_events functions fs rest m)))
  maybe_in_range f fs None funs n lawful later = later funs n
  maybe_in_range f fs (Some body) [] n lawful later = (omega arith, omega arith)
  maybe_in_range f fs (Some body) (a ∷ rest) n lawful later =
      let es = body_events functions f body.term a.nodes n in
      let ys = function_events functions fs rest (n + size body.term) in
      or_here n (a.nodes ++ all_nodes rest) (C3 n) (is_named (a ∷ rest) f.at.name) (es ++ ys) (omega arith, omega arith)
      (subst (λ o. IsInRange n (a.nodes ++ all_nodes rest) o) (sym (first_append es ys))
      (in_either n (size body.term) a.nodes (all_nodes rest) (first_naming es) (first_naming ys) (body_placed functions f body.term a.nodes n lawful) (later rest (n + size body.term))))

  pub functions_in_range : (fs : List Function) → All (Legal functions) fs → (funs : List CertFun) (n : ℕ) → IsInRange n (all_nodes funs) (first_naming (function_events functions fs funs n))
  functions_in_range [] lawful [] n = tt
  functions_in_range [] lawful (a ∷ rest) n = (omega arith, omega arith)
  functions_in_range (f ∷ fs) lawful funs n =
      let es = maybe_body_events functions f f.body funs n (λ rest m. function_events functions fs rest m) in
      or_here n (all_nodes funs) (C2 n) (is_arrow f.ty.ty && has_word_arrays f.ty.ty) es (omega arith, omega arith)
      (maybe_in_range f fs f.body funs n (All-head (Legal functions) f fs lawful).body (functions_in_range fs (All-tail (Legal functions) f fs lawful)))

pub numbers : NumbersAreInRange
numbers functions cert lawful = go (first_failing es) refl
  where
    es : List Event
    es = cert_events functions cert

    go : (o : Option CertFault) → first_failing es ≡ o → IsInRange 1 (all_nodes cert.funs) o
    go None e = tt
    go (Some (C2 k)) e = subst (IsInRange 1 (all_nodes cert.funs)) (first_of_all es (C2 k) refl e) (functions_in_range functions functions lawful.functions_stand cert.funs 1)
    go (Some (C3 k)) e = subst (IsInRange 1 (all_nodes cert.funs)) (first_of_all es (C3 k) refl e) (functions_in_range functions functions lawful.functions_stand cert.funs 1)
    go (Some fault) e = tt
