-- Loops over the items of a list whose faults are those of each item in turn.
use Rattle.std.proofs.Common.{◌≡◌, ℕ, ◌+◌, ◌<◌, List, [], ◌∷◌, ◌++◌, map, length, get_or, take, drop, sym, ap, ◌∙◌, subst, append-nil, append_assoc}
use Rattle.std.proofs.lemmas.List.{map-append, take_more, take-append-drop}
use Rattle.cg_resolve_def.specs.Faults.{NameFault}
use Rattle.cg_resolve_names.specs.Says.{IsFirstFault}
use Rattle.cg_resolve_names.specs.declared.fault.NamingFault.{NamingFault}
use Rattle.cg_resolve_names.proofs.SaysSteps.{says_first}

-- Items that make a tree, the last outermost, and the faults of the tree: those of the items before, and then the item's.
module _ {S T X : Type 0} (to : List T → S) (one : S → T → S) (push : (ts : List T) (t : T) → to (ts ++ t ∷ []) ≡ one (to ts) t)
    (F : S → List NameFault) (G : S → T → List NameFault) (step : (s : S) (t : T) → F (one s t) ≡ F s ++ G s t) (view : X → T) where
  pub pushed : (ts : List T) (t : T) → F (to (ts ++ t ∷ [])) ≡ F (to ts) ++ G (to ts) t
  pushed ts t = ap F (push ts t) ∙ step (to ts) t

  grows : (ts later : List T) → (more : List NameFault) × (F (to (ts ++ later)) ≡ F (to ts) ++ more)
  grows ts [] = ([], ap (λ l. F (to l)) (append-nil ts) ∙ sym (append-nil (F (to ts))))
  grows ts (t ∷ later) = further (grows (ts ++ t ∷ []) later)
    where
      further : (more : List NameFault) × (F (to ((ts ++ t ∷ []) ++ later)) ≡ F (to (ts ++ t ∷ [])) ++ more) → (more : List NameFault) × (F (to (ts ++ t ∷ later)) ≡ F (to ts) ++ more)
      further (more, is) = (
        G (to ts) t ++ more,
        ap (λ l. F (to l)) (sym (append_assoc ts (t ∷ []) later)) ∙ is ∙ ap (λ l. l ++ more) (pushed ts t) ∙ append_assoc (F (to ts)) (G (to ts) t) more,
      )

  module _ (items : List X) (i : ℕ) (x : X) (within : i < length items) (is : x ≡ get_or items i x) where
    pub so_far : map view (take (i + 1) items) ≡ map view (take i items) ++ view x ∷ []
    so_far = ap (map view) (take_more items i x within) ∙ map-append view (take i items) (get_or items i x ∷ []) ∙ ap (λ y. map view (take i items) ++ view y ∷ []) (sym is)

    -- no fault of the item at hand
    pub turn : F (to (map view (take i items))) ≡ [] → G (to (map view (take i items))) (view x) ≡ [] → F (to (map view (take (i + 1) items))) ≡ []
    turn none no_more = ap (λ l. F (to l)) so_far ∙ pushed (map view (take i items)) (view x) ∙ ap (λ l. l ++ G (to (map view (take i items))) (view x)) none ∙ no_more

    -- its first fault is the first of all
    pub fault : F (to (map view (take i items))) ≡ [] → (first : NamingFault) → IsFirstFault (G (to (map view (take i items))) (view x)) first → IsFirstFault (F (to (map view items))) first
    fault none first h =
        let more = grows (map view (take (i + 1) items)) (map view (drop (i + 1) items)) in
        subst (λ l. IsFirstFault l first)
        (sym (ap (λ l. F (to l)) whole ∙ more.1))
        (says_first (F (to (map view (take (i + 1) items)))) more.0 first
        (subst (λ l. IsFirstFault l first)
        (sym (ap (λ l. F (to l)) so_far ∙ pushed (map view (take i items)) (view x) ∙ ap (λ l. l ++ G (to (map view (take i items))) (view x)) none)) h))
      where
        whole : map view items ≡ map view (take (i + 1) items) ++ map view (drop (i + 1) items)
        whole = ap (map view) (sym (take-append-drop (i + 1) items)) ∙ map-append view (take (i + 1) items) (drop (i + 1) items)
