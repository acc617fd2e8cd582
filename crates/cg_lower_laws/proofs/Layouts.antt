-- Layouts of lowered types: as many slots as the update semantics has scalars, and where parts stand.
use Rattle.std.proofs.Common.{◌≡◌, ℕ, zero, suc, ◌+◌, ◌^◌, ◌<◌, ◌≤◌, Bool, true, false, ◌&&◌, ◌||◌, cond, nat_eq, nat_le, Option, Some, None, List, [], ◌∷◌, ◌++◌, length, take, drop, replicate, refl, sym, ap, ◌∙◌, subst, arith, IsTrue, bytes_eq, append_assoc, ◌⊎◌, inl, inr}
use Rattle.std.proofs.lemmas.Bool.{eq-eqb, eqb-true, le-leb, leb-true}
use Rattle.std.proofs.lemmas.List.{drop-drop, drop-replicate, length-append, length-drop, length-replicate, length-take-le, take-append-drop, take-replicate}
use Rattle.std.proofs.Math.Seq.{take-add}
use Rattle.cg_base.specs.declared.kind.Sigil.{Sigil}
use Rattle.cg_base.specs.declared.kind.Sigil.TheVariants.{R, W, U}
use Rattle.cg_base.specs.declared.kind.Word.TheVariants.{U32}
use Rattle.cg_base.specs.Types.{Tau, var, seen, unit, word, bool, arrow, abs, variant, fields, Parts, end, part, Piece}
use Rattle.cg_base.specs.Words.{bits}
use Rattle.cg_cmachine_def.specs.Layouts.{Layout, cell, group, behind, find_member, further, laid, members_of, size, Spot, spot, walk, layout, pointed}
use Rattle.cg_cmachine_def.specs.Parts.{sizes_of}
use Rattle.cg_cmachine_laws.proofs.LayoutLaws.{layout_unfolds, size_sums}
use Rattle.cg_ctree.specs.declared.tree.CStruct.{CStruct}
use Rattle.cg_ctree.specs.declared.tree.CTy.TheVariants as ty
use Rattle.cg_heap.specs.declared.cell.Scalar.{Scalar}
use Rattle.cg_heap.specs.declared.cell.Scalar.TheVariants.{Unset, Word as NumberScalar, Address}
use Rattle.cg_heap.specs.Reps.{head, number_of, slots, slots_of_parts, tail}
use Rattle.cg_eval_operations.specs.Positions.{position_among}
use Rattle.cg_typing.specs.Parts.{held, is_left, is_there, part_named, parts_with, with_part}
use Rattle.cg_update.specs.Machines.{are_machine, is_address, is_alternative, is_machine, is_number_below, is_place_of, is_tagged, only_at, part_at, type_of_part, with_part_at}
use Rattle.cg_cgen_def.specs.Names.{name, struct_name, tag_name, field_name, payload_name}
use Rattle.cg_lower_def.specs.CTypes.{form, form_parts, c_type, count, record_struct, variant_struct, members_from, IsDeclared, AreDeclared}
use Rattle.cg_lower_laws.proofs.Names.{apart}
use Rattle.cg_lower_laws.proofs.Tables.{if_false as cond_false}
use Rattle.cg_base.proofs.Sequences.{itself}
use Rattle.cg_base.proofs.Truths.{both, cond_true}

-- how many slots stand before the part at a place
abbrev pub before : ℕ → Parts → ℕ
before i end = 0
before zero (part x t taken ps) = 0
before (suc i) (part x t taken ps) = slots t + before i ps

-- what stood behind others was there by itself
behind_is : (o : Option Spot) (n : ℕ) (s : Spot) → behind n o ≡ Some s → (q : Spot) × (o ≡ Some q) × (s ≡ spot (n + q.start) q.layout)
behind_is None n s e = absurd (cc)
behind_is (Some q) n s e = (q, refl, cc)

-- what members lead to from a part that a member leads to
further_is : (o : Option Spot) (f : Layout → Option Spot) (s : Spot) → further o f ≡ Some s
    → (p : Spot) × (q : Spot) × (o ≡ Some p) × (f p.layout ≡ Some q) × (s ≡ spot (p.start + q.start) q.layout)
further_is None f s e = absurd (cc)
further_is (Some p) f s e = let m = behind_is (f p.layout) p.start s e in (p, m.0, refl, m.1, m.2)

-- a part stands within all
pub part_in : (i : ℕ) (ps : Parts) → i < count ps → before i ps + slots (type_of_part i ps) ≤ slots_of_parts ps
unfolding count type_of_part slots_of_parts
part_in zero end h = absurd (omega (arith, h))
part_in (suc i) end h = absurd (omega (arith, h))
part_in zero (part x t taken ps) h = omega arith
part_in (suc i) (part x t taken ps) h = let rest = part_in i ps (omega (arith, h)) in omega (arith, rest)

module _ (numbered : Tau → ℕ) (ss : List CStruct) where
  abbrev pub lay : Tau → Layout
  lay t = layout ss (c_type numbered t)

  -- as many slots as scalars
  mutual
    unfolding size slots IsDeclared

    pub size_slots : (t : Tau) → IsDeclared numbered ss t → size (lay t) ≡ slots t
    size_slots (var n) d = refl
    size_slots (seen n) d = refl
    size_slots unit d = refl
    size_slots (word w) d = refl
    size_slots bool d = refl
    size_slots (arrow a b) d = refl
    size_slots (abs x args sigil) d = refl
    size_slots (variant ps) d =
        let rest = size_parts 97 0 ps d.2 in
        size_sums ss (variant_struct numbered ps) ∙ ap (sizes_of ss) d.0 ∙ omega (arith, rest)
    size_slots (fields ps R) d = refl
    size_slots (fields ps W) d = refl
    size_slots (fields ps U) d = size_sums ss (record_struct numbered ps) ∙ ap (sizes_of ss) d.0 ∙ size_parts 109 0 ps d.2

    size_parts : (letter k : ℕ) (ps : Parts) → AreDeclared numbered ss ps → sizes_of ss (members_from numbered letter k ps) ≡ slots_of_parts ps
    size_parts letter k end d = refl
    size_parts letter k (part x t taken ps) d = let first = size_slots t d.0 in let rest = size_parts letter (suc k) ps d.1 in omega (arith, first, rest)

  -- a member is found by its number
  members_lead : (letter k i j : ℕ) (ps : Parts) → AreDeclared numbered ss ps → k + count ps ≤ 2 ^ 32 → i < count ps → j ≡ k + i
      → find_member (name letter j) (laid (layout ss) (members_from numbered letter k ps)) ≡ Some (spot (before i ps) (lay (type_of_part i ps)))
  unfolding AreDeclared count type_of_part
  members_lead letter k zero j end d few h e = absurd (omega (arith, h))
  members_lead letter k (suc i) j end d few h e = absurd (omega (arith, h))
  members_lead letter k zero j (part x t taken ps) d few h e =
      cond_true (bytes_eq (name letter j) (name letter k)) _ _ (let same : j ≡ k = omega (arith, e) in rw same (itself (name letter k)))
  members_lead letter k (suc i) j (part x t taken ps) d few h e =
      cond_false (bytes_eq (name letter j) (name letter k)) _ _ (apart letter j k (omega (arith, few, h, e)) (omega (arith, few, h)) (λ same. omega (arith, same, e)))
      ∙ ap (behind (size (lay t))) (members_lead letter (suc k) i j ps d.1 (omega (arith, few)) (omega (arith, h)) (omega (arith, e)))
      ∙ ap (λ n. Some (spot (n + before i ps) (lay (type_of_part i ps)))) (size_slots t d.0)

  -- a field of an unboxed record, and of the record that a pointer points to
  pub field_leads : (ps : Parts) (sigil : Sigil) (i : ℕ) → IsDeclared numbered ss (fields ps sigil) → i < count ps
      → walk (field_name i ∷ []) (pointed ss (record_struct numbered ps)) ≡ Some (spot (before i ps) (lay (type_of_part i ps)))
  unfolding IsDeclared
  field_leads ps sigil i d h =
      let few = d.1 in
      ap (λ l. walk (field_name i ∷ []) l) (layout_unfolds ss (record_struct numbered ps) ∙ ap (λ ds. group (record_struct numbered ps) (laid (layout ss) ds)) d.0)
      ∙ ap (λ o. further o (λ k. walk [] k)) (members_lead 109 0 i i ps d.2 (omega (arith, few)) h (omega arith)) ∙ ap (λ n. Some (spot n (lay (type_of_part i ps)))) (omega arith)

  -- the tag of a variant, and a payload
  pub tag_leads : (ps : Parts) → IsDeclared numbered ss (variant ps) → walk (tag_name ∷ []) (lay (variant ps)) ≡ Some (spot 0 (cell U32))
  unfolding IsDeclared
  tag_leads ps d =
      ap (λ l. walk (tag_name ∷ []) l) (layout_unfolds ss (variant_struct numbered ps) ∙ ap (λ ds. group (variant_struct numbered ps) (laid (layout ss) ds)) d.0)

  pub payload_leads : (ps : Parts) (i : ℕ) → IsDeclared numbered ss (variant ps) → i < count ps
      → walk (payload_name i ∷ []) (lay (variant ps)) ≡ Some (spot (suc (before i ps)) (lay (type_of_part i ps)))
  unfolding IsDeclared size
  payload_leads ps i d h =
      let few = d.1 in
      ap (λ l. walk (payload_name i ∷ []) l) (layout_unfolds ss (variant_struct numbered ps) ∙ ap (λ ds. group (variant_struct numbered ps) (laid (layout ss) ds)) d.0)
      ∙ ap (λ o. further (behind 1 o) (λ k. walk [] k)) (members_lead 97 0 i i ps d.2 (omega (arith, few)) h (omega arith))
      ∙ ap (λ n. Some (spot n (lay (type_of_part i ps)))) (omega arith)

  -- the structs of a part's type are declared
  pub part_declared : (ps : Parts) (i : ℕ) → AreDeclared numbered ss ps → i < count ps → IsDeclared numbered ss (type_of_part i ps)
  unfolding AreDeclared count type_of_part
  part_declared end zero d h = absurd (omega (arith, h))
  part_declared end (suc i) d h = absurd (omega (arith, h))
  part_declared (part x t taken ps) zero d h = d.0
  part_declared (part x t taken ps) (suc i) d h = part_declared ps i d.1 (omega (arith, h))

  -- the slots of a field, of a payload and of the tag are among those of all
  pub field_fits : (ps : Parts) (i : ℕ) → IsDeclared numbered ss (fields ps U) → i < count ps
      → before i ps + size (lay (type_of_part i ps)) ≤ size (lay (fields ps U))
  unfolding IsDeclared slots
  field_fits ps i d h =
      let all = size_slots (fields ps U) d in
      let own = size_slots (type_of_part i ps) (part_declared ps i d.2 h) in
      omega (arith, all, own, part_in i ps h)

  pub payload_fits : (ps : Parts) (i : ℕ) → IsDeclared numbered ss (variant ps) → i < count ps
      → suc (before i ps) + size (lay (type_of_part i ps)) ≤ size (lay (variant ps))
  unfolding IsDeclared slots
  payload_fits ps i d h =
      let all = size_slots (variant ps) d in
      let own = size_slots (type_of_part i ps) (part_declared ps i d.2 h) in
      omega (arith, all, own, part_in i ps h)

  pub tag_fits : (ps : Parts) → IsDeclared numbered ss (variant ps) → 0 + size (cell U32) ≤ size (lay (variant ps))
  unfolding size slots
  tag_fits ps d = let all = size_slots (variant ps) d in omega (arith, all)

  -- a part within a part
  pub walk_on : (xs ys : List (List ℕ)) (l : Layout) (s t : Spot) → walk xs l ≡ Some s → walk ys s.layout ≡ Some t → walk (xs ++ ys) l ≡ Some (spot (s.start + t.start) t.layout)
  walk_on [] ys l s t e e' =
      let same : spot 0 l ≡ s = cc in
      subst (λ (s : Spot). walk ys s.layout ≡ Some t → walk ys l ≡ Some (spot (s.start + t.start) t.layout)) same
      (λ h. h ∙ ap (λ n. Some (spot n t.layout)) (omega arith)) e'
  walk_on (x ∷ xs) ys l s t e e' =
      let m = further_is (find_member x (members_of l)) (λ k. walk xs k) s e in
      let there : walk ys m.1.layout ≡ Some t = subst (λ (s : Spot). walk ys s.layout ≡ Some t) m.4 e' in
      let rest = walk_on xs ys m.0.layout m.1 t m.3 there in
      ap (λ o. further o (λ k. walk (xs ++ ys) k)) m.2 ∙ ap (behind m.0.start) rest
      ∙ ap (λ n. Some (spot n t.layout)) (omega (arith, ap (λ (s : Spot). s.start) m.4))

-- ---- parts of scalars

-- a test on lengths that passed
enough : {X : Type 0} (n m : ℕ) (x y : X) → cond (nat_le n m) (Some x) None ≡ Some y → (n ≤ m) × (x ≡ y)
enough n m x y e = by_test (nat_le n m) refl e
  where
    by_test : (b : Bool) → nat_le n m ≡ b → cond b (Some x) None ≡ Some y → (n ≤ m) × (x ≡ y)
    by_test true h e = (leb-true n m h, cc)
    by_test false h e = absurd (cc)

-- scalars that are within those behind others are within all, if there are any
further_in : (n a k : ℕ) (us : List Scalar) → (k ≡ 0) ⊎ (n + k ≤ length (drop a us)) → (k ≡ 0) ⊎ (a + n + k ≤ length us)
further_in n a zero us h = inl refl
further_in n a (suc k) us (inl e) = inl e
further_in n a (suc k) us (inr h) = inr (omega (arith, h, length-drop a us))

-- the test that C makes of a part that is written
pub is_within : (n k m : ℕ) → (k ≡ 0) ⊎ (n + k ≤ m) → (nat_eq k 0 || nat_le (n + k) m) ≡ true
is_within n k m h = elim h [ inl e ↦ first (nat_eq k 0) (nat_le (n + k) m) (eq-eqb k 0 e) | inr le ↦ second (nat_eq k 0) (nat_le (n + k) m) (le-leb (n + k) m le) ]
  where
    first : (a b : Bool) → a ≡ true → (a || b) ≡ true
    first true b e = refl
    first false b e = absurd (cc)

    second : (a b : Bool) → b ≡ true → (a || b) ≡ true
    second true b e = refl
    second false b e = e

-- a part that is there stands behind those before it, and within the scalars, if it has any
pub part_is : (i : ℕ) (ps : Parts) (us ws : List Scalar) → part_at i ps us ≡ Some ws
    → (i < count ps) × (ws ≡ take (slots (type_of_part i ps)) (drop (before i ps) us))
    × ((slots (type_of_part i ps) ≡ 0) ⊎ (before i ps + slots (type_of_part i ps) ≤ length us)) × (length ws ≡ slots (type_of_part i ps))
unfolding part_at count type_of_part
part_is zero end us ws e = absurd (cc)
part_is (suc i) end us ws e = absurd (cc)
part_is zero (part x t taken ps) us ws e =
    let h = enough (slots t) (length us) (take (slots t) us) ws e in
    (omega arith, sym h.1, inr (omega (arith, h.0)), ap length (sym h.1) ∙ length-take-le (slots t) us h.0)
part_is (suc i) (part x t taken ps) us ws e =
    let h = part_is i ps (drop (slots t) us) ws e in (
      omega (arith, h.0),
      h.1 ∙ ap (take (slots (type_of_part i ps))) (drop-drop (before i ps) (slots t) us),
      further_in (before i ps) (slots t) (slots (type_of_part i ps)) us h.2,
      h.3,
    )

-- some scalars before others, where these are there
front : List Scalar → Option (List Scalar) → Option (List Scalar)
front xs None = None
front xs (Some ys) = Some (xs ++ ys)

-- what they are before
front_is : (xs : List Scalar) (o : Option (List Scalar)) (after : List Scalar) → front xs o ≡ Some after → (ys : List Scalar) × (o ≡ Some ys) × (after ≡ xs ++ ys)
unfolding front
front_is xs None after e = absurd (cc)
front_is xs (Some ys) after e = (ys, refl, cc)

-- a part behind the first is put behind the first's scalars
with_front : (i : ℕ) (x : List ℕ) (t : Tau) (taken : Bool) (ps : Parts) (ws us : List Scalar)
    → with_part_at (suc i) (part x t taken ps) ws us ≡ front (take (slots t) us) (with_part_at i ps ws (drop (slots t) us))
unfolding with_part_at front
with_front i x t taken ps ws us = refl

-- as many scalars in place of others
as_many : (n k : ℕ) (ws us : List Scalar) → length ws ≡ k → (k ≡ 0) ⊎ (n + k ≤ length us) → length (take n us ++ ws ++ drop (n + k) us) ≡ length us
as_many n k ws us e h = length-append (take n us ++ ws) (drop (n + k) us) ∙ elim h [ inl none ↦ nowhere none | inr room ↦ inside room ]
  where
    nowhere : k ≡ 0 → length (take n us ++ ws) + length (drop (n + k) us) ≡ length us
    nowhere none =
        let all = ap length (take-append-drop n us) in
        let sum = length-append (take n us) (drop n us) in
        let same : length (drop (n + k) us) ≡ length (drop n us) = ap (λ (m : ℕ). length (drop m us)) (omega (arith, none)) in
        let first = length-append (take n us) ws in
        omega (arith, all, sum, same, first, e, none)

    inside : n + k ≤ length us → length (take n us ++ ws) + length (drop (n + k) us) ≡ length us
    inside room =
        let start : length (take n us) ≡ n = length-take-le n us (omega (arith, room)) in
        let first = length-append (take n us) ws in
        let last = length-drop (n + k) us in
        omega (arith, start, first, last, e, room)

-- what stands behind some of the scalars, among all
spliced_behind : (a n k : ℕ) (ws us : List Scalar) → take a us ++ (take n (drop a us) ++ ws ++ drop (n + k) (drop a us)) ≡ take (a + n) us ++ ws ++ drop (a + n + k) us
spliced_behind a n k ws us =
    sym (append_assoc (take a us) (take n (drop a us) ++ ws) (drop (n + k) (drop a us)))
    ∙ ap (λ (xs : List Scalar). xs ++ drop (n + k) (drop a us)) (sym (append_assoc (take a us) (take n (drop a us)) ws))
    ∙ ap (λ (xs : List Scalar). xs ++ ws ++ drop (n + k) (drop a us)) (sym (take-add a n us))
    ∙ ap (λ (xs : List Scalar). take (a + n) us ++ ws ++ xs) (drop-drop (n + k) a us ∙ ap (λ (m : ℕ). drop m us) (omega arith))

-- what stands behind others, with a part in place of another
spliced_is : (i : ℕ) (ps : Parts) (ws us after : List Scalar) → with_part_at i ps ws us ≡ Some after
    → (i < count ps) × ((slots (type_of_part i ps) ≡ 0) ⊎ (before i ps + slots (type_of_part i ps) ≤ length us))
    × (after ≡ take (before i ps) us ++ ws ++ drop (before i ps + slots (type_of_part i ps)) us)
unfolding with_part_at count type_of_part
spliced_is zero end ws us after e = absurd (cc)
spliced_is (suc i) end ws us after e = absurd (cc)
spliced_is zero (part x t taken ps) ws us after e =
    let h = enough (slots t) (length us) (ws ++ drop (slots t) us) after e in
    (omega arith, inr (omega (arith, h.0)), sym h.1 ∙ ap (λ (m : ℕ). ws ++ drop m us) (omega arith))
spliced_is (suc i) (part x t taken ps) ws us after e =
    let f = front_is (take (slots t) us) (with_part_at i ps ws (drop (slots t) us)) after (sym (with_front i x t taken ps ws us) ∙ e) in
    let h = spliced_is i ps ws (drop (slots t) us) f.0 f.1 in (
      omega (arith, h.0),
      further_in (before i ps) (slots t) (slots (type_of_part i ps)) us h.1,
      f.2 ∙ ap (λ (ys : List Scalar). take (slots t) us ++ ys) h.2 ∙ spliced_behind (slots t) (before i ps) (slots (type_of_part i ps)) ws us,
    )

-- others in its place are spliced in
pub with_part_is : (i : ℕ) (ps : Parts) (ws us after : List Scalar) → with_part_at i ps ws us ≡ Some after → length ws ≡ slots (type_of_part i ps)
    → (i < count ps) × ((slots (type_of_part i ps) ≡ 0) ⊎ (before i ps + slots (type_of_part i ps) ≤ length us))
    × (after ≡ take (before i ps) us ++ ws ++ drop (before i ps + slots (type_of_part i ps)) us) × (length after ≡ length us)
with_part_is i ps ws us after e h =
    let s = spliced_is i ps ws us after e in (s.0, s.1, s.2, ap length s.2 ∙ as_many (before i ps) (slots (type_of_part i ps)) ws us h s.1)

-- so many unset slots
abbrev unset : ℕ → List Scalar
unset n = replicate n Unset

-- unset slots with a part in place of some
unset_behind : (i : ℕ) (ps : Parts) (ws : List Scalar) → i < count ps
    → only_at i ps ws ≡ take (before i ps) (replicate (slots_of_parts ps) Unset) ++ ws ++ drop (before i ps + slots (type_of_part i ps)) (replicate (slots_of_parts ps) Unset)
unfolding only_at count type_of_part slots_of_parts
unset_behind zero end ws h = absurd (omega (arith, h))
unset_behind (suc i) end ws h = absurd (omega (arith, h))
unset_behind zero (part x t taken ps) ws h =
    ap (λ (ys : List Scalar). ws ++ ys) (ap (λ (m : ℕ). replicate m Unset) (omega arith) ∙ sym (drop-replicate (0 + slots t) (slots t + slots_of_parts ps) Unset))
unset_behind (suc i) (part x t taken ps) ws h =
    ap (λ (ys : List Scalar). replicate (slots t) Unset ++ ys) (unset_behind i ps ws (omega (arith, h)))
    ∙ ap (λ (xs : List Scalar). xs ++ (take (before i ps) (unset (slots_of_parts ps)) ++ ws ++ drop (before i ps + slots (type_of_part i ps)) (unset (slots_of_parts ps))))
    (sym (take-replicate (slots t) (slots t + slots_of_parts ps) Unset (omega arith)))
    ∙ ap (λ (ys : List Scalar). take (slots t) (unset (slots t + slots_of_parts ps)) ++ (take (before i ps) ys ++ ws ++ drop (before i ps + slots (type_of_part i ps)) ys))
    (sym (drop-replicate (slots t) (slots t + slots_of_parts ps) Unset ∙ ap unset (omega arith)))
    ∙ spliced_behind (slots t) (before i ps) (slots (type_of_part i ps)) ws (unset (slots t + slots_of_parts ps))

-- an alternative among unset slots
pub only_is : (i : ℕ) (ps : Parts) (ws : List Scalar) → i < count ps → length ws ≡ slots (type_of_part i ps)
    → (only_at i ps ws ≡ take (before i ps) (replicate (slots_of_parts ps) Unset) ++ ws ++ drop (before i ps + slots (type_of_part i ps)) (replicate (slots_of_parts ps) Unset))
    × (before i ps + slots (type_of_part i ps) ≤ slots_of_parts ps) × (length (only_at i ps ws) ≡ slots_of_parts ps)
only_is i ps ws h e =
    let s = unset_behind i ps ws h in
    let n = length-replicate (slots_of_parts ps) Unset in
    let room = part_in i ps h in
    (s, room, ap length s ∙ as_many (before i ps) (slots (type_of_part i ps)) ws (replicate (slots_of_parts ps) Unset) e (inr (omega (arith, room, n))) ∙ n)

-- ---- parts by name

-- the type of a part that is found by its name is that at its place
pub named_is : (x : List ℕ) (ps : Parts) → IsTrue (is_there (part_named x ps)) → (held (part_named x ps) ≡ type_of_part (position_among x ps) ps) × (position_among x ps < count ps)
unfolding type_of_part position_among count
named_is x end h = absurd (cc)
named_is x (part y t taken ps) h = by_test (bytes_eq x y) h (named_is x ps)
  where
    by_test : (b : Bool) → IsTrue (is_there (cond b (Some (record { name = y; ty = t; taken = taken })) (part_named x ps)))
        → (IsTrue (is_there (part_named x ps)) → (held (part_named x ps) ≡ type_of_part (position_among x ps) ps) × (position_among x ps < count ps))
        → (held (cond b (Some (record { name = y; ty = t; taken = taken })) (part_named x ps)) ≡ type_of_part (cond b zero (suc (position_among x ps))) (part y t taken ps))
        × (cond b zero (suc (position_among x ps)) < suc (count ps))
    by_test true h rest = (refl, omega arith)
    by_test false h rest = ((rest h).0, (let lt = (rest h).1 in omega (arith, lt)))

pub left_there : (x : List ℕ) (ps : Parts) → IsTrue (is_left (part_named x ps)) → IsTrue (is_there (part_named x ps))
left_there x ps h = by_piece (part_named x ps) h
  where
    by_piece : (o : Option Piece) → IsTrue (is_left o) → IsTrue (is_there o)
    by_piece None h = absurd (cc)
    by_piece (Some p) h = refl

-- the form of parts doesn't tell what is taken
form_with : (x : List ℕ) (now : Bool) (ps : Parts) → form_parts (parts_with x now ps) ≡ form_parts ps
unfolding form_parts
form_with x now end = refl
form_with x now (part y t taken ps) = by_test (bytes_eq x y) (form_with x now ps)
  where
    by_test : (b : Bool) → form_parts (parts_with x now ps) ≡ form_parts ps → form_parts (cond b (part y t now ps) (part y t taken (parts_with x now ps))) ≡ form_parts (part y t taken ps)
    by_test true rest = refl
    by_test false rest = ap (part [] (form t) false) rest

-- C doesn't see what is taken
pub with_part_type : (numbered : Tau → ℕ) (x : List ℕ) (taken : Bool) (t : Tau) → c_type numbered (with_part x taken t) ≡ c_type numbered t
with_part_type numbered x taken (var n) = refl
with_part_type numbered x taken (seen n) = refl
with_part_type numbered x taken unit = refl
with_part_type numbered x taken (word w) = refl
with_part_type numbered x taken bool = refl
with_part_type numbered x taken (arrow a b) = refl
with_part_type numbered x taken (abs y args sigil) = refl
with_part_type numbered x taken (variant ps) = ap (λ qs. ty.Struct (struct_name (numbered (variant qs)))) (form_with x taken ps)
with_part_type numbered x taken (fields ps U) = ap (λ qs. ty.Struct (struct_name (numbered (fields qs U)))) (form_with x taken ps)
with_part_type numbered x taken (fields ps R) = ap (λ qs. ty.Pointer (struct_name (numbered (fields qs U)))) (form_with x taken ps)
with_part_type numbered x taken (fields ps W) = ap (λ qs. ty.Pointer (struct_name (numbered (fields qs U)))) (form_with x taken ps)

-- ---- machine values

-- a number, an address and a place are one scalar
number_one : (n : ℕ) (us : List Scalar) → is_number_below n us ≡ true → length us ≡ 1
number_one n [] e = absurd (cc)
number_one n (Unset ∷ us) e = absurd (cc)
number_one n (Address p ∷ us) e = absurd (cc)
number_one n (NumberScalar k ∷ []) e = refl
number_one n (NumberScalar k ∷ (u ∷ us)) e = absurd (cc)

address_one : (us : List Scalar) → is_address us ≡ true → length us ≡ 1
address_one [] e = absurd (cc)
address_one (Unset ∷ us) e = absurd (cc)
address_one (NumberScalar k ∷ us) e = absurd (cc)
address_one (Address p ∷ []) e = refl
address_one (Address p ∷ (u ∷ us)) e = absurd (cc)

place_one : (types : ℕ → Option Tau) (t : Tau) (us : List Scalar) → is_place_of types t us ≡ true → length us ≡ 1
place_one types t [] e = absurd (cc)
place_one types t (Unset ∷ us) e = absurd (cc)
place_one types t (Address p ∷ us) e = absurd (cc)
place_one types t (NumberScalar k ∷ []) e = refl
place_one types t (NumberScalar k ∷ (u ∷ us)) e = absurd (cc)

-- a number and others
tagged_more : (us : List Scalar) → is_tagged us ≡ true → length us ≡ length (tail us) + 1
tagged_more [] e = absurd (cc)
tagged_more (Unset ∷ us) e = absurd (cc)
tagged_more (Address p ∷ us) e = absurd (cc)
tagged_more (NumberScalar k ∷ us) e = omega arith

-- fields have all their slots
parts_full : (types : ℕ → Option Tau) (ps : Parts) (us : List Scalar) → are_machine types ps us ≡ true → length us ≡ slots_of_parts ps
unfolding are_machine slots_of_parts
parts_full types end us e = eqb-true (length us) 0 e
parts_full types (part x t taken ps) us e =
    let b = both (nat_le (slots t) (length us)) ((taken || is_machine types t (take (slots t) us)) && are_machine types ps (drop (slots t) us)) e in
    let c = both (taken || is_machine types t (take (slots t) us)) (are_machine types ps (drop (slots t) us)) b.1 in
    let first = leb-true (slots t) (length us) b.0 in
    let rest = parts_full types ps (drop (slots t) us) c.1 in
    let dropped = length-drop (slots t) us in
    omega (arith, first, rest, dropped)

-- a machine value has as many scalars as its type has slots
pub machine_slots : (types : ℕ → Option Tau) (t : Tau) (us : List Scalar) → is_machine types t us ≡ true → length us ≡ slots t
unfolding is_machine slots
machine_slots types (var n) us e = absurd (cc)
machine_slots types (seen n) us e = absurd (cc)
machine_slots types unit us e = number_one 1 us e
machine_slots types (word w) us e = number_one (2 ^ bits w) us e
machine_slots types bool us e = number_one 2 us e
machine_slots types (arrow a b) us e = place_one types (arrow a b) us e
machine_slots types (abs x args sigil) us e = address_one us e
machine_slots types (variant ps) us e =
    let b = both (is_tagged us) (nat_eq (length (tail us)) (slots_of_parts ps) && is_alternative types ps (number_of (head us)) (tail us)) e in
    let c = both (nat_eq (length (tail us)) (slots_of_parts ps)) (is_alternative types ps (number_of (head us)) (tail us)) b.1 in
    let first = tagged_more us b.0 in
    let rest = eqb-true (length (tail us)) (slots_of_parts ps) c.0 in
    omega (arith, first, rest)
machine_slots types (fields ps U) us e = parts_full types ps us e
machine_slots types (fields ps R) us e = address_one us e
machine_slots types (fields ps W) us e = address_one us e
