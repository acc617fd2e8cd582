-- Where the first fault that names a node points: a row at a node that is there, and a node that is missing at the number behind all that
-- are there. Lists of events in turn, the reached nodes, and the events of operators.
use Rattle.std.proofs.Common.{◌≡◌, ℕ, suc, ◌+◌, ◌<◌, ◌≤◌, Bool, true, false, ◌&&◌, Option, Some, None, List, [], ◌∷◌, ◌++◌, length, length-drop, drop, refl, subst, arith}
use Rattle.std.specs.Prelude.{⊤}
use Rattle.cg_base.specs.declared.kind.Kinds.{Kinds}
use Rattle.cg_base.specs.declared.limit.Limit.TheVariants.{Ty}
use Rattle.cg_base.specs.Types as types
use Rattle.cg_base.specs.Types.{Tau}
use Rattle.cg_cert.specs.declared.cert.CertNode.{CertNode}
use Rattle.cg_cert.specs.declared.fault.CertFault.{CertFault}
use Rattle.cg_cert.specs.declared.fault.CertFault.TheVariants.{C2, C3, Limit}
use Rattle.cg_core.specs.declared.derivation.Node.{Node}
use Rattle.cg_core.specs.declared.derivation.Node.TheVariants as nodes
use Rattle.cg_kinds.specs.Kinds.{is_word}
use Rattle.cg_certcheck_def.specs.Events.{Event, event, row, within, behind, meets, no_strings, reached, leaf_reached, guided_reached, Way, unary_events, binary_events}
use Rattle.cg_certcheck_def.specs.Tests.{same_node, drops_all}
use Rattle.cg_typing.specs.Contexts.{Context}
use Rattle.cg_typing.specs.Operators.{Sort, arithmetic, equality, order, logic, takes}
use Rattle.cg_typing.specs.Parts.{is_small_enough}

-- a fault that names a node: all but a limit
abbrev pub naming : CertFault → Option CertFault
naming (Limit limit) = None
naming fault = Some fault

-- this one, or else that of what comes later
abbrev pub or_later : Option CertFault → Option CertFault → Option CertFault
or_later None later = later
or_later (Some fault) later = Some fault

-- the first fault that names a node
abbrev pub first_naming : List Event → Option CertFault
first_naming [] = None
first_naming (event fault true ∷ later) = first_naming later
first_naming (event fault false ∷ later) = or_later (naming fault) (first_naming later)

-- of events that judge so many of these nodes, of which the first has this number, what the first that fails says: a row is that of a node
-- that is there, and a missing one is the next behind those that are; where none fails, all of them are there
abbrev pub Placed : List CertNode → ℕ → ℕ → Option CertFault → Type 0
Placed ns n b None = b ≤ length ns
Placed ns n b (Some (C2 m)) = (n ≤ m) × ((m < n + b) × (m < n + length ns))
Placed ns n b (Some (C3 m)) = (m ≡ n + length ns) × (length ns < b)
Placed ns n b (Some fault) = ⊤

-- the same of events behind those that judge the first of them, which are there
pub record Stretch (ns : List CertNode) (n a b : ℕ) (es : List Event) : Type 0 where
  pub rises : a ≤ b
  pub placed : a ≤ length ns → Placed ns n b (first_naming es)

placed_more : (ns : List CertNode) (n b c : ℕ) (fault : CertFault) → b ≤ c → Placed ns n b (Some fault) → Placed ns n c (Some fault)
placed_more ns n b c (C2 m) le h = let x = h.0 in let y = h.1.0 in (x, (omega arith, h.1.1))
placed_more ns n b c (C3 m) le h = let x = h.1 in (h.0, omega arith)
placed_more ns n b c fault le h = tt

-- how many nodes are left behind some
past_long : {A : Type 0} (k : ℕ) (xs : List A) → k ≤ length xs → length (drop k xs) + k ≡ length xs
past_long k xs le = omega (arith, length-drop k xs)

behind_long : (ns : List CertNode) → 1 ≤ length ns → length (behind ns) + 1 ≡ length ns
behind_long [] le = absurd (omega arith)
behind_long (x ∷ ns) le = omega arith

past_behind : (k : ℕ) (ns : List CertNode) → suc k ≤ length ns → length (drop k (behind ns)) + suc k ≡ length ns
past_behind k ns le =
    let one = behind_long ns (omega arith) in let rest = past_long k (behind ns) (omega arith) in omega arith

-- of a fault, or else of what comes later
or_placed : (ns : List CertNode) (n b c : ℕ) (o later rest : Option CertFault) → b ≤ c → (Placed ns n b later → Placed ns n c rest) → Placed ns n b (or_later o later)
    → Placed ns n c (or_later o rest)
or_placed ns n b c None later rest le h p = h p
or_placed ns n b c (Some fault) later rest le h p = placed_more ns n b c fault le p

-- events and then more of them
then_placed : (ns : List CertNode) (n b c : ℕ) (ys : List Event) → b ≤ c → (b ≤ length ns → Placed ns n c (first_naming ys)) → (xs : List Event) → Placed ns n b (first_naming xs)
    → Placed ns n c (first_naming (xs ++ ys))
then_placed ns n b c ys le h [] p = h p
then_placed ns n b c ys le h (event f true ∷ xs) p = then_placed ns n b c ys le h xs p
then_placed ns n b c ys le h (event f false ∷ xs) p = or_placed ns n b c (naming f) (first_naming xs) (first_naming (xs ++ ys)) le (then_placed ns n b c ys le h xs) p

-- where the left operand is a number that is guided, it is reached where it stands, and judged behind its guide
pub record Guides (ns : List CertNode) (n l r : ℕ) (reaches : List Event) (number : Tau → List Event) : Type 0 where
  pub reached : Stretch ns n 1 (suc l) reaches
  pub judged : (t : Tau) → Stretch ns n (suc (l + r)) (suc (l + r)) (number t)

module _ {ns : List CertNode} {n : ℕ} where
  pub and_then : {a b c : ℕ} (xs ys : List Event) → Stretch ns n a b xs → Stretch ns n b c ys → Stretch ns n a c (xs ++ ys)
  and_then {a} {b} {c} xs ys h k =
      record { rises = (let x = h.rises in let y = k.rises in omega arith); placed = λ le. then_placed ns n b c ys k.rises k.placed xs (h.placed le) }

  pub nothing : {a : ℕ} → Stretch ns n a a []
  nothing = record { rises = omega arith; placed = λ le. le }

  -- the row of a node that is there
  pub at_row : {a : ℕ} (m : ℕ) (x : Bool) → n ≤ m → m < n + a → Stretch ns n a a (row m x ∷ [])
  at_row {a} m x low high = record { rises = omega arith; placed = λ le. go x le }
    where
      go : (x : Bool) → a ≤ length ns → Placed ns n a (first_naming (row m x ∷ []))
      go true le = le
      go false le = (low, (high, omega arith))

  -- the row of the first of them
  pub at_node : {a : ℕ} (x : Bool) → 1 ≤ a → Stretch ns n a a (row n x ∷ [])
  at_node x le = at_row n x (omega arith) (omega arith)

  -- the limit on a type
  pub at_limit : {a : ℕ} (t : Tau) → Stretch ns n a a (within t ∷ [])
  at_limit {a} t = record { rises = omega arith; placed = λ le. go (is_small_enough t) le }
    where
      go : (x : Bool) → a ≤ length ns → Placed ns n a (first_naming (event (Limit Ty) x ∷ []))
      go true le = le
      go false le = le

  pub as_many : {a b c : ℕ} {es : List Event} → b ≡ c → Stretch ns n a b es → Stretch ns n a c es
  as_many {a} {b} {c} {es} e h = subst (λ z. Stretch ns n a z es) e h

  -- events of a part that begins behind so many nodes
  part : {s : ℕ} (a : ℕ) (ms : List CertNode) (m : ℕ) (es : List Event) → m ≡ n + a → (a ≤ length ns → length ms + a ≡ length ns) → Stretch ms m 0 s es → Stretch ns n a (a + s) es
  part {s} a ms m es number long h = record { rises = omega arith; placed = λ le. go (first_naming es) (long le) (h.placed (omega arith)) }
    where
      go : (o : Option CertFault) → length ms + a ≡ length ns → Placed ms m s o → Placed ns n (a + s) o
      go None e p = omega arith
      go (Some (C2 k)) e p = let x = p.0 in let y = p.1.0 in let z = p.1.1 in (omega arith, (omega arith, omega arith))
      go (Some (C3 k)) e p = let x = p.0 in let y = p.1 in (omega arith, omega arith)
      go (Some fault) e p = tt

  pub in_front : {s : ℕ} (es : List Event) → Stretch (behind ns) (suc n) 0 s es → Stretch ns n 1 (suc s) es
  in_front es h = as_many (omega arith) (part 1 (behind ns) (suc n) es (omega arith) (behind_long ns) h)

  pub later_on : {s : ℕ} (k : ℕ) (es : List Event) → Stretch (drop k (behind ns)) (suc n + k) 0 s es → Stretch ns n (suc k) (suc (k + s)) es
  later_on k es h = as_many (omega arith) (part (suc k) (drop k (behind ns)) (suc n + k) es (omega arith) (past_behind k ns) h)

  pub from_there : {s : ℕ} (k : ℕ) (es : List Event) → Stretch (drop k ns) (n + k) 0 s es → Stretch ns n k (k + s) es
  from_there k es h = part k (drop k ns) (n + k) es refl (past_long k ns) h

  -- ---- reaching a node

  pub at_reached : (node : Node) (x : Bool) → Stretch ns n 0 1 (reached n ns node x)
  at_reached node x = record { rises = omega arith; placed = λ le. go ns }
    where
      judged : (y : CertNode) (ns : List CertNode) (holds : Bool) → Placed (y ∷ ns) n 1 (first_naming (row n holds ∷ []))
      judged y ns true = omega arith
      judged y ns false = (omega arith, (omega arith, omega arith))

      go : (ns : List CertNode) → Placed ns n 1 (first_naming (reached n ns node x))
      go [] = (omega arith, omega arith)
      go (y ∷ ns) = judged y ns (same_node y.node node && x)

  pub at_guided : (vars : List Kinds) (g : Context) → Stretch ns n 0 1 (guided_reached vars n ns g)
  at_guided vars g = and_then (leaf_reached n ns nodes.Lit) (row n (drops_all vars g) ∷ []) (at_reached nodes.Lit (no_strings ns)) (at_node (drops_all vars g) (omega arith))

  -- ---- operators

  pub at_unary : {s : ℕ} (sort : Sort) (direction : Option Tau) (a : Tau) (part : Way) → ((way : Option Tau) → Stretch ns n 1 (suc s) (part way))
      → Stretch ns n 1 (suc s) (unary_events sort direction n a part)
  at_unary logic direction a part h = and_then (part (Some types.bool)) _ (h (Some types.bool)) (at_node (meets direction types.bool) (omega arith))
  at_unary arithmetic (Some t) a part h = and_then (row n (is_word t) ∷ []) (part (Some t)) (at_node (is_word t) (omega arith)) (h (Some t))
  at_unary arithmetic None a part h = and_then (part None) _ (h None) (at_node (is_word a) (omega arith))
  at_unary equality direction a part h = and_then (part None) _ (h None) (at_node (takes equality a && meets direction types.bool) (omega arith))
  at_unary order direction a part h = and_then (part None) _ (h None) (at_node (takes order a && meets direction types.bool) (omega arith))

  module _ (l r : ℕ) (a b : Tau) (left right : Way) (reaches : List Event) (number : Tau → List Event) (hl : (way : Option Tau) → Stretch ns n 1 (suc l) (left way))
      (hr : (way : Option Tau) → Stretch ns n (suc l) (suc (l + r)) (right way)) where
    compared : (x : Bool) (firsts seconds : List Event) (y : Bool) → Stretch ns n 1 (suc l) firsts → Stretch ns n (suc l) (suc (l + r)) seconds
        → Stretch ns n 1 (suc (l + r)) (firsts ++ (row n x ∷ (seconds ++ (row n y ∷ []))))
    compared x firsts seconds y h k =
        and_then firsts (row n x ∷ (seconds ++ (row n y ∷ []))) h
        (and_then (row n x ∷ []) (seconds ++ (row n y ∷ [])) (at_node x (omega arith)) (and_then seconds (row n y ∷ []) k (at_node y (omega arith))))

    guided_first : (x : Bool) (rest : List Event) → Guides ns n l r reaches number → Stretch ns n (suc (l + r)) (suc (l + r)) rest
        → Stretch ns n 1 (suc (l + r)) (reaches ++ (right None ++ (row n x ∷ rest)))
    guided_first x rest guide h =
        and_then reaches (right None ++ (row n x ∷ rest)) guide.reached (and_then (right None) (row n x ∷ rest) (hr None) (and_then (row n x ∷ []) rest (at_node x (omega arith)) h))

    guided_compared : (x y : Bool) → Guides ns n l r reaches number → Stretch ns n 1 (suc (l + r)) (reaches ++ (right None ++ (row n x ∷ (number b ++ (row n y ∷ [])))))
    guided_compared x y guide = guided_first x (number b ++ (row n y ∷ [])) guide (and_then (number b) (row n y ∷ []) (guide.judged b) (at_node y (omega arith)))

    pub at_binary : (sort : Sort) (direction : Option Tau) (literal : Bool) → (literal ≡ true → Guides ns n l r reaches number)
        → Stretch ns n 1 (suc (l + r)) (binary_events sort direction n literal a b left right reaches number)
    at_binary logic direction literal guide =
        and_then (left (Some types.bool)) _ (hl (Some types.bool)) (and_then (right (Some types.bool)) _ (hr (Some types.bool)) (at_node (meets direction types.bool) (omega arith)))
    at_binary arithmetic (Some t) literal guide =
        and_then (row n (is_word t) ∷ []) (left (Some t) ++ right (Some t)) (at_node (is_word t) (omega arith)) (and_then (left (Some t)) (right (Some t)) (hl (Some t)) (hr (Some t)))
    at_binary arithmetic None true guide = guided_first (is_word b) (number b) (guide refl) ((guide refl).judged b)
    at_binary arithmetic None false guide =
        and_then (left None) (row n (is_word a) ∷ right (Some a)) (hl None) (and_then (row n (is_word a) ∷ []) (right (Some a)) (at_node (is_word a) (omega arith)) (hr (Some a)))
    at_binary equality direction true guide = guided_compared (takes equality b) (meets direction types.bool) (guide refl)
    at_binary equality direction false guide = compared (takes equality a) (left None) (right (Some a)) (meets direction types.bool) (hl None) (hr (Some a))
    at_binary order direction true guide = guided_compared (takes order b) (meets direction types.bool) (guide refl)
    at_binary order direction false guide = compared (takes order a) (left None) (right (Some a)) (meets direction types.bool) (hl None) (hr (Some a))
