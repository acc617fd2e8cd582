-- Events of two certificates over one kernel whose first nodes are the same: the rows of these nodes come to the same. Places among the
-- nodes, contexts that the marks leave, and the events of operators.
use Rattle.std.proofs.Common.{◌≡◌, ℕ, zero, suc, ◌+◌, ◌<◌, ◌≤◌, Bool, true, false, ◌&&◌, Option, Some, None, List, [], ◌∷◌, ◌++◌, drop, slice_get, refl, sym, ap, ap₂, ◌∙◌, subst, arith}
use Rattle.std.specs.Prelude.{⊤}
use Rattle.cg_base.specs.declared.kind.Kinds.{Kinds}
use Rattle.cg_base.specs.Types as types
use Rattle.cg_base.specs.Types.{Tau}
use Rattle.cg_cert.specs.declared.cert.CertNode.{CertNode}
use Rattle.cg_cert.specs.declared.fault.CertFault.{CertFault}
use Rattle.cg_cert.specs.declared.fault.CertFault.TheVariants.{C2, Limit}
use Rattle.cg_core.specs.declared.derivation.Mark.{Mark}
use Rattle.cg_core.specs.declared.derivation.Node.{Node}
use Rattle.cg_core.specs.declared.derivation.Node.TheVariants as nodes
use Rattle.cg_core.specs.declared.term.Seen.{Seen}
use Rattle.cg_certcheck_def.specs.Events.{Event, event, row, stands, is_some, behind, name_at, strings_at, no_strings, one_string, reached, leaf_reached, split_reached, guided_reached, Way, unary_events, binary_events}
use Rattle.cg_certcheck_def.specs.Tests.{same_node, drops_all}
use Rattle.cg_typing.specs.Contexts.{Context, first, second}
use Rattle.cg_typing.specs.Operators.{Sort, arithmetic, equality, order, logic}
use Rattle.cg_typing.specs.Trees.{first_marks}
use Rattle.cg_certcheck_laws.proofs.Placed.{first_naming}
use Rattle.cg_certcheck_laws.proofs.Rows.{Asked, HoldFor}

-- a fault is that of the row of one of the first nodes
abbrev pub IsEarly : ℕ → CertFault → Type 0
IsEarly bound (C2 m) = m < bound
IsEarly bound fault = ⊥

-- both lists are of the same tests, and the rows of the first nodes come to the same
abbrev pub AreAlike : ℕ → List Event → List Event → Type 0
AreAlike bound [] [] = ⊤
AreAlike bound (event fault x ∷ xs) (event other y ∷ ys) = (fault ≡ other) × ((IsEarly bound fault → x ≡ y) × AreAlike bound xs ys)
AreAlike bound xs ys = ⊥

pub record Alike (bound : ℕ) (xs ys : List Event) : Type 0 where
  pub are : AreAlike bound xs ys

append : (bound : ℕ) (xs ys us vs : List Event) → AreAlike bound xs ys → AreAlike bound us vs → AreAlike bound (xs ++ us) (ys ++ vs)
append bound [] [] us vs h k = k
append bound (event f x ∷ xs) (event g y ∷ ys) us vs h k = (h.0, (h.1.0, append bound xs ys us vs h.1.1 k))
append bound [] (event g y ∷ ys) us vs h k = absurd h
append bound (event f x ∷ xs) [] us vs h k = absurd h

pub alike_append : {bound : ℕ} (xs ys : List Event) {us vs : List Event} → Alike bound xs ys → Alike bound us vs → Alike bound (xs ++ us) (ys ++ vs)
alike_append {bound} xs ys {us} {vs} h k = record { are = append bound xs ys us vs h.are k.are }

pub no_more : {bound : ℕ} → Alike bound [] []
no_more = record { are = tt }

-- an event that the kernel alone decides
pub same_event : {bound : ℕ} (x : Event) {us vs : List Event} → Alike bound us vs → Alike bound (x ∷ us) (x ∷ vs)
same_event (event f x) h = record { are = (refl, (λ lt. refl, h.are)) }

-- a row that is the same before the bound
pub own_row : {bound : ℕ} (n : ℕ) (x y : Bool) {us vs : List Event} → (n < bound → x ≡ y) → Alike bound us vs → Alike bound (row n x ∷ us) (row n y ∷ vs)
own_row n x y e h = record { are = (refl, (e, h.are)) }

-- whether a node is there isn't compared
pub standing : {bound : ℕ} (n : ℕ) (x y : Bool) {us vs : List Event} → Alike bound us vs → Alike bound (stands n x ∷ us) (stands n y ∷ vs)
standing n x y h = record { are = (refl, (λ z. absurd z, h.are)) }

pub alike_itself : {bound : ℕ} (xs : List Event) → Alike bound xs xs
alike_itself [] = no_more
alike_itself (x ∷ xs) = same_event x (alike_itself xs)

-- so where all events of the second list hold but for the limit on types, no row of these nodes is the first fault of the first one
no_early : (bound : ℕ) (xs ys : List Event) (k : ℕ) → AreAlike bound xs ys → HoldFor false ys → k < bound → first_naming xs ≡ Some (C2 k) → ⊥
no_early bound [] ys k a h lt e = absurd (cc)
no_early bound (event f true ∷ xs) (event g y ∷ ys) k a h lt e = no_early bound xs ys k a.1.1 h.1 lt e
no_early bound (event (Limit limit) false ∷ xs) (event g y ∷ ys) k a h lt e = no_early bound xs ys k a.1.1 h.1 lt e
no_early bound (event (C2 m) false ∷ xs) (event g y ∷ ys) k a h lt e =
    let is : m ≡ k = cc in
    let same = a.1.0 (omega arith) in
    let holds = subst (λ fault. Asked false fault y) (sym a.0) h.0 in
    absurd (cc)
no_early bound (event f false ∷ xs) (event g y ∷ ys) k a h lt e = absurd (cc)
no_early bound (event f x ∷ xs) [] k a h lt e = absurd a

pub no_early_fault : (bound : ℕ) (xs ys : List Event) (k : ℕ) → Alike bound xs ys → HoldFor false ys → k < bound → first_naming xs ≡ Some (C2 k) → ⊥
no_early_fault bound xs ys k a h lt e = no_early bound xs ys k a.are h lt e

-- ---- places among the nodes

behind_at : (ns : List CertNode) (i : ℕ) → slice_get (behind ns) i ≡ slice_get ns (suc i)
behind_at [] i = refl
behind_at (x ∷ ns) i = refl

pub drop_get : {A : Type 0} (k : ℕ) (xs : List A) (i : ℕ) → slice_get (drop k xs) i ≡ slice_get xs (k + i)
drop_get zero xs i = ap (slice_get xs) (omega arith)
drop_get (suc k) [] i = refl
drop_get (suc k) (x ∷ xs) i = drop_get k xs i ∙ ap (slice_get (x ∷ xs)) (let e : suc (k + i) ≡ suc k + i = omega arith in e)

name_of : (ns ms : List CertNode) → slice_get ns 0 ≡ slice_get ms 0 → name_at ns ≡ name_at ms
name_of [] [] h = refl
name_of (x ∷ ns) (y ∷ ms) h = let e : x ≡ y = cc in ap (λ z. z.node) e
name_of [] (y ∷ ms) h = absurd (cc)
name_of (x ∷ ns) [] h = absurd (cc)

strings_of : (ns ms : List CertNode) → slice_get ns 0 ≡ slice_get ms 0 → strings_at ns ≡ strings_at ms
strings_of [] [] h = refl
strings_of (x ∷ ns) (y ∷ ms) h = let e : x ≡ y = cc in ap (λ z. z.marks) e
strings_of [] (y ∷ ms) h = absurd (cc)
strings_of (x ∷ ns) [] h = absurd (cc)

module _ (bound : ℕ) where
  -- nodes of which the first has this number are the same before the bound
  abbrev pub SameFrom : ℕ → List CertNode → List CertNode → Type 0
  SameFrom n ns ms = (i : ℕ) → n + i < bound → slice_get ns i ≡ slice_get ms i

  -- what hangs on the nodes before this number is the same, where these are before the bound
  abbrev pub SameAt : {A : Type 0} → ℕ → A → A → Type 0
  SameAt n x y = n < bound → x ≡ y

  pub same_strings : (n : ℕ) (ns ms : List CertNode) → SameFrom n ns ms → SameAt n (strings_at ns) (strings_at ms)
  same_strings n ns ms h lt = strings_of ns ms (h 0 (omega arith))

  pub same_name : (n : ℕ) (ns ms : List CertNode) → SameFrom n ns ms → SameAt n (name_at ns) (name_at ms)
  same_name n ns ms h lt = name_of ns ms (h 0 (omega arith))

  pub same_behind : (n : ℕ) (ns ms : List CertNode) → SameFrom n ns ms → SameFrom (suc n) (behind ns) (behind ms)
  same_behind n ns ms h i lt = behind_at ns i ∙ h (suc i) (omega arith) ∙ sym (behind_at ms i)

  pub same_past : (n k : ℕ) (ns ms : List CertNode) → SameFrom n ns ms → SameFrom (n + k) (drop k ns) (drop k ms)
  same_past n k ns ms h i lt = drop_get k ns i ∙ h (k + i) (omega arith) ∙ sym (drop_get k ms i)

  -- at a later number
  pub same_later : {A : Type 0} {x y : A} (n k : ℕ) → n ≤ k → SameAt n x y → SameAt k x y
  same_later n k le h lt = h (omega arith)

  pub same_ap : {A B : Type 0} {x y : A} (n : ℕ) (f : A → B) → SameAt n x y → SameAt n (f x) (f y)
  same_ap n f h lt = ap f (h lt)

  -- both sides of a split
  pub same_first : (n : ℕ) (strings others : List (List Mark)) (g k : Context) → SameAt n strings others → SameAt n g k
      → SameAt n (first (first_marks strings) g) (first (first_marks others) k)
  same_first n strings others g k s h lt = ap₂ (λ z w. first (first_marks z) w) (s lt) (h lt)

  pub same_second : (n : ℕ) (strings others : List (List Mark)) (g k : Context) → SameAt n strings others → SameAt n g k
      → SameAt n (second (first_marks strings) g) (second (first_marks others) k)
  same_second n strings others g k s h lt = ap₂ (λ z w. second (first_marks z) w) (s lt) (h lt)

  -- ---- reaching a node

  pub alike_reached : (n : ℕ) (ns ms : List CertNode) (node : Node) (x y : Bool) → SameFrom n ns ms → SameAt n x y → Alike bound (reached n ns node x) (reached n ms node y)
  alike_reached n ns ms node x y h e = standing n (is_some ns) (is_some ms)
      (own_row n (same_node (name_at ns) node && x) (same_node (name_at ms) node && y) (λ lt. ap₂ (λ name marked. same_node name node && marked) (same_name n ns ms h lt) (e lt)) no_more)

  pub alike_leaf : (n : ℕ) (ns ms : List CertNode) (node : Node) → SameFrom n ns ms → Alike bound (leaf_reached n ns node) (leaf_reached n ms node)
  alike_leaf n ns ms node h = alike_reached n ns ms node (no_strings ns) (no_strings ms) h (λ lt. unmarked ns ms (h 0 (omega arith)))
    where
      unmarked : (ns ms : List CertNode) → slice_get ns 0 ≡ slice_get ms 0 → no_strings ns ≡ no_strings ms
      unmarked [] [] e = refl
      unmarked (x ∷ ns) (y ∷ ms) e = let is : x ≡ y = cc in rw is refl
      unmarked [] (y ∷ ms) e = absurd (cc)
      unmarked (x ∷ ns) [] e = absurd (cc)

  module _ (vars : List Kinds) where
    pub alike_split : (n : ℕ) (ns ms : List CertNode) (node : Node) (os : List Seen) (g k : Context) → SameFrom n ns ms → SameAt n g k
        → Alike bound (split_reached vars n ns node os g) (split_reached vars n ms node os k)
    alike_split n ns ms node os g k h e =
        alike_reached n ns ms node (one_string vars os (strings_at ns) g) (one_string vars os (strings_at ms) k) h
        (λ lt. ap₂ (λ strings w. one_string vars os strings w) (same_strings n ns ms h lt) (e lt))

    pub alike_guided : (n : ℕ) (ns ms : List CertNode) (g k : Context) → SameFrom n ns ms → SameAt n g k → Alike bound (guided_reached vars n ns g) (guided_reached vars n ms k)
    alike_guided n ns ms g k h e =
        alike_append (leaf_reached n ns nodes.Lit) (leaf_reached n ms nodes.Lit) (alike_leaf n ns ms nodes.Lit h) (own_row n (drops_all vars g) (drops_all vars k) (λ lt. ap (drops_all vars) (e lt)) no_more)

  -- ---- operators

  pub alike_unary : (sort : Sort) (direction : Option Tau) (n : ℕ) (a : Tau) (part other : Way) → ((way : Option Tau) → Alike bound (part way) (other way))
      → Alike bound (unary_events sort direction n a part) (unary_events sort direction n a other)
  alike_unary logic direction n a part other h = alike_append (part (Some types.bool)) (other (Some types.bool)) (h (Some types.bool)) (same_event _ no_more)
  alike_unary arithmetic (Some t) n a part other h = same_event _ (h (Some t))
  alike_unary arithmetic None n a part other h = alike_append (part None) (other None) (h None) (same_event _ no_more)
  alike_unary equality direction n a part other h = alike_append (part None) (other None) (h None) (same_event _ no_more)
  alike_unary order direction n a part other h = alike_append (part None) (other None) (h None) (same_event _ no_more)

  module _ (n : ℕ) (a b : Tau) (left right other_left other_right : Way) (reaches other_reaches : List Event) (number : Tau → List Event)
      (hl : (way : Option Tau) → Alike bound (left way) (other_left way)) (hr : (way : Option Tau) → Alike bound (right way) (other_right way)) (hg : Alike bound reaches other_reaches) where
    -- a comparison
    compared : (firsts seconds other_firsts other_seconds : List Event) (x y : Event) → Alike bound firsts other_firsts → Alike bound seconds other_seconds
        → Alike bound (firsts ++ (x ∷ (seconds ++ (y ∷ [])))) (other_firsts ++ (x ∷ (other_seconds ++ (y ∷ []))))
    compared firsts seconds other_firsts other_seconds x y h k = alike_append firsts other_firsts h (same_event x (alike_append seconds other_seconds k (same_event y no_more)))

    guided_first : (x : Event) (number : List Event) → Alike bound (reaches ++ (right None ++ (x ∷ number))) (other_reaches ++ (other_right None ++ (x ∷ number)))
    guided_first x number = alike_append reaches other_reaches hg (alike_append (right None) (other_right None) (hr None) (same_event x (alike_itself number)))

    pub alike_binary : (sort : Sort) (direction : Option Tau) (literal : Bool)
        → Alike bound (binary_events sort direction n literal a b left right reaches number) (binary_events sort direction n literal a b other_left other_right other_reaches number)
    alike_binary logic direction literal =
        alike_append (left (Some types.bool)) (other_left (Some types.bool)) (hl (Some types.bool)) (alike_append (right (Some types.bool)) (other_right (Some types.bool)) (hr (Some types.bool)) (same_event _ no_more))
    alike_binary arithmetic (Some t) literal = same_event _ (alike_append (left (Some t)) (other_left (Some t)) (hl (Some t)) (hr (Some t)))
    alike_binary arithmetic None true = guided_first _ (number b)
    alike_binary arithmetic None false = alike_append (left None) (other_left None) (hl None) (same_event _ (hr (Some a)))
    alike_binary equality direction true = guided_first _ (number b ++ _)
    alike_binary equality direction false = compared (left None) (right (Some a)) (other_left None) (other_right (Some a)) _ _ (hl None) (hr (Some a))
    alike_binary order direction true = guided_first _ (number b ++ _)
    alike_binary order direction false = compared (left None) (right (Some a)) (other_left None) (other_right (Some a)) _ _ (hl None) (hr (Some a))
