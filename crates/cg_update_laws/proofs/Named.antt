-- Parts by their names, in scalars that represent a record or an alternative: what is read, what is put, and what is left.
use Rattle.std.proofs.Common.{◌≡◌, ℕ, zero, suc, ◌+◌, ◌-◌, ◌≤◌, Bool, true, false, ◌||◌, not, IsTrue, Option, Some, List, [], ◌∷◌, ◌++◌, get_or, unwrap_or, length, take, drop, replicate, refl, sym, ap, ◌∙◌, subst, arith}
use Rattle.std.proofs.lemmas.Bool.{and_parts, le-leb}
use Rattle.std.proofs.lemmas.List.{take_at, drop_at, length-append, length-drop, length-replicate, length-take-le}
use Rattle.std.specs.Prelude.{slice_set, if◌then◌else◌}
use Rattle.std.specs.Str.{bytes_eq}
use Rattle.cg_base.specs.Types.{Tau, Parts, end, part, Piece}
use Rattle.cg_eval_laws.proofs.FitParts.{vals_back}
use Rattle.cg_heap.specs.declared.cell.Scalar.{Scalar}
use Rattle.cg_heap.specs.declared.cell.Scalar.TheVariants.{Unset}
use Rattle.cg_heap.specs.Reps.{Heap, HeapWorld, Holds, HoldsAll, HoldsAt, slots, slots_of_parts}
use Rattle.cg_inst.proofs.Names.{by_cases, either_way}
use Rattle.cg_eval_operations.specs.Positions.{position_among}
use Rattle.cg_typing.specs.Parts.{are_others_taken, held, is_left, is_there, part_named, parts_with}
use Rattle.cg_update.specs.Machines.{only_at, part_at, type_of_part, with_part_at}
use Rattle.cg_value.specs.Values as values
use Rattle.cg_value.specs.Values.{Val, gone, Vals, to_vals, val_list}
use Rattle.cg_update.specs.Among.{are_apart}
use Rattle.cg_update_laws.proofs.Held.{holds_slots}
use Rattle.cg_base.proofs.Sequences.{itself as name_same, is_name as name_is}
use Rattle.cg_base.proofs.Counts.{no_steps as never}
use Rattle.cg_base.proofs.Truths.{cond_true}

-- ---- parts

-- the first part of a name, and its place, over either answer of the test of the first
abbrev first_or : Bool → List ℕ → Tau → Bool → Parts → List ℕ → Option Piece
first_or b n t taken ps x = if b then Some (record { name = x; ty = t; taken = taken }) else part_named n ps

abbrev place_or : Bool → List ℕ → Parts → ℕ
place_or b n ps = if b then zero else suc (position_among n ps)

abbrev with_or : Bool → List ℕ → Bool → List ℕ → Tau → Bool → Parts → Parts
with_or b n now x t taken ps = if b then part x t now ps else part x t taken (parts_with n now ps)

-- the part at a place isn't taken
unfoldable pub is_untaken : ℕ → Parts → Bool
is_untaken i end = false
is_untaken zero (part x t taken ps) = not taken
is_untaken (suc i) (part x t taken ps) = is_untaken i ps

-- the first of so many scalars and more is there
pub room : (n m k : ℕ) → m ≡ n + k → n ≤ m
room n m k e = omega arith

less : (m n k r : ℕ) → m ≡ n + k → r ≡ m - n → r ≡ k
less m n k r e f = omega arith

-- parts have as many scalars, taken or not
pub slots_with : (n : List ℕ) (now : Bool) (ps : Parts) → slots_of_parts (parts_with n now ps) ≡ slots_of_parts ps
unfolding slots
slots_with n now end = refl
slots_with n now (part x t taken ps) =
    either_way (λ b. slots_of_parts (with_or b n now x t taken ps) ≡ slots t + slots_of_parts ps) (bytes_eq n x) refl (ap (λ k. slots t + k) (slots_with n now ps))

-- the type of the part of a name
pub named_type : (n : List ℕ) (ps : Parts) → IsTrue (is_there (part_named n ps)) → type_of_part (position_among n ps) ps ≡ held (part_named n ps)
unfolding position_among type_of_part
named_type n end l = never l
named_type n (part x t taken ps) l =
    either_way (λ b. IsTrue (is_there (first_or b n t taken ps x)) → type_of_part (place_or b n ps) (part x t taken ps) ≡ held (first_or b n t taken ps x))
    (bytes_eq n x) (λ l. refl) (λ l. named_type n ps l) l

module _ (world : HeapWorld) (h : Heap) where
  abbrev H : Tau → List Scalar → Val → Type 0
  H t us v = Holds world h t us v

  abbrev All : Parts → List Scalar → Vals → Type 0
  All ps us vs = HoldsAll world h ps us vs

  abbrev At : Parts → ℕ → List Scalar → List ℕ → Val → Type 0
  At ps i us x v = HoldsAt world h ps i us x v

  -- ---- records

  -- a field in front of others
  pub front_held : (x : List ℕ) (t : Tau) (ps : Parts) (us rs : List Scalar) (v : Val) (vs : Vals) → H t us v → All ps rs vs → All (part x t false ps) (us ++ rs) (values.more v vs)
  unfolding Holds
  front_held x t ps us rs v vs k m =
      let long = holds_slots world h t us v k in (
        room (slots t) (length (us ++ rs)) (length rs) (length-append us rs ∙ ap (λ z. z + length rs) long),
        subst (λ z. H t z v) (sym (take_at us rs (slots t) long)) k,
        subst (λ z. All ps z vs) (sym (drop_at us rs (slots t) long)) m,
      )

  -- the fields behind the first, and that there is room for the first
  behind : (x : List ℕ) (t : Tau) (taken : Bool) (ps : Parts) (us : List Scalar) (v : Val) (vs : Vals) → All (part x t taken ps) us (values.more v vs)
      → (slots t ≤ length us) × All ps (drop (slots t) us) vs
  unfolding Holds
  behind x t true ps us v vs k = (k.0, k.2)
  behind x t false ps us v vs k = (k.0, k.2)

  -- the field at a place, where it isn't taken
  pub place_held : (i : ℕ) (ps : Parts) (us : List Scalar) (vs : Vals) → All ps us vs → IsTrue (is_untaken i ps) → H (type_of_part i ps) (unwrap_or (part_at i ps us) []) (get_or (val_list vs) i gone)
  unfolding Holds part_at type_of_part val_list is_untaken
  place_held i end us vs k l = never l
  place_held zero (part x t taken ps) us values.none k l = absurd k
  place_held (suc i) (part x t taken ps) us values.none k l = absurd k
  place_held zero (part x t true ps) us (values.more v vs) k l = never l
  place_held zero (part x t false ps) us (values.more v vs) k l = subst (λ z. H t z v) (sym (ap (λ o. unwrap_or o []) (cond_true _ _ _ (le-leb _ _ k.0)))) k.1
  place_held (suc i) (part x t taken ps) us (values.more v vs) k l = place_held i ps (drop (slots t) us) vs (behind x t taken ps us v vs k).1 l

  -- other fields behind the first
  other_behind : (x : List ℕ) (t : Tau) (taken : Bool) (ps qs : Parts) (us ws : List Scalar) (v : Val) (vs rs : Vals) → All (part x t taken ps) us (values.more v vs)
      → slots t ≤ length ws → take (slots t) ws ≡ take (slots t) us → All qs (drop (slots t) ws) rs → All (part x t taken qs) ws (values.more v rs)
  unfolding Holds
  other_behind x t true ps qs us ws v vs rs k l e r = (l, k.1, r)
  other_behind x t false ps qs us ws v vs rs k l e r = (l, subst (λ z. H t z v) (sym e) k.1, r)

  -- a field, whose scalars stand there
  pub record IsRead (i : ℕ) (ps : Parts) (us : List Scalar) (t : Tau) (v : Val) : Type 0 where
    pub scalars : List Scalar
    pub there : part_at i ps us ≡ Some scalars
    pub holds : H t scalars v

  -- a field that is left is read
  pub field_held : (n : List ℕ) (ps : Parts) (us : List Scalar) (vs : Vals) → All ps us vs → IsTrue (is_left (part_named n ps))
      → IsRead (position_among n ps) ps us (held (part_named n ps)) (get_or (val_list vs) (position_among n ps) gone)
  unfolding Holds position_among part_at val_list
  field_held n end us vs k l = never l
  field_held n (part x t taken ps) us values.none k l = absurd k
  field_held n (part x t true ps) us (values.more v vs) k l =
      either_way (λ b. IsTrue (is_left (first_or b n t true ps x))
      → IsRead (place_or b n ps) (part x t true ps) us (held (first_or b n t true ps x)) (get_or (v ∷ val_list vs) (place_or b n ps) gone))
      (bytes_eq n x) (λ l. never l)
      (λ l. let r = field_held n ps (drop (slots t) us) vs k.2 l in record { scalars = r.scalars; there = r.there; holds = r.holds }) l
  field_held n (part x t false ps) us (values.more v vs) k l =
      either_way (λ b. IsTrue (is_left (first_or b n t false ps x))
      → IsRead (place_or b n ps) (part x t false ps) us (held (first_or b n t false ps x)) (get_or (v ∷ val_list vs) (place_or b n ps) gone))
      (bytes_eq n x) (λ l. record { scalars = take (slots t) us; there = cond_true _ _ _ (le-leb _ _ k.0); holds = k.1 })
      (λ l. let r = field_held n ps (drop (slots t) us) vs k.2 l in record { scalars = r.scalars; there = r.there; holds = r.holds }) l

  -- a field is taken: the scalars stay
  pub field_taken : (n : List ℕ) (ps : Parts) (us : List Scalar) (vs : Vals) → All ps us vs → IsTrue (is_there (part_named n ps))
      → All (parts_with n true ps) us (to_vals (slice_set (val_list vs) (position_among n ps) gone))
  unfolding Holds position_among to_vals val_list
  field_taken n end us vs k l = never l
  field_taken n (part x t taken ps) us values.none k l = absurd k
  field_taken n (part x t taken ps) us (values.more v vs) k l =
      let b = behind x t taken ps us v vs k in
      either_way (λ b. IsTrue (is_there (first_or b n t taken ps x))
      → All (with_or b n true x t taken ps) us (to_vals (slice_set (v ∷ val_list vs) (place_or b n ps) gone)))
      (bytes_eq n x) (λ l. (b.0, refl, subst (All ps (drop (slots t) us)) (sym (vals_back vs)) b.1))
      (λ l. other_behind x t taken ps _ us us v vs _ k b.0 refl (field_taken n ps (drop (slots t) us) vs b.1 l)) l

  -- a row in which another value stands for a field
  pub record IsPut (i : ℕ) (ps : Parts) (ws us : List Scalar) (qs : Parts) (vs : Vals) : Type 0 where
    pub row : List Scalar
    pub there : with_part_at i ps ws us ≡ Some row
    pub holds : All qs row vs

  -- behind the first field
  put_behind : (n x : List ℕ) (t : Tau) (taken : Bool) (ps : Parts) (us ws : List Scalar) (v : Val) (vs rs : Vals) → All (part x t taken ps) us (values.more v vs)
      → IsPut (position_among n ps) ps ws (drop (slots t) us) (parts_with n false ps) rs
      → IsPut (suc (position_among n ps)) (part x t taken ps) ws us (part x t taken (parts_with n false ps)) (values.more v rs)
  unfolding with_part_at
  put_behind n x t taken ps us ws v vs rs k r =
      let b = behind x t taken ps us v vs k in
      let long : length (take (slots t) us) ≡ slots t = length-take-le (slots t) us b.0 in
      record {
        row = take (slots t) us ++ r.row;
        there = rw r.there refl;
        holds =
            other_behind x t taken ps (parts_with n false ps) us (take (slots t) us ++ r.row) v vs rs k
            (room (slots t) (length (take (slots t) us ++ r.row)) (length r.row) (length-append (take (slots t) us) r.row ∙ ap (λ z. z + length r.row) long))
            (take_at (take (slots t) us) r.row (slots t) long) (subst (λ z. All (parts_with n false ps) z rs) (sym (drop_at (take (slots t) us) r.row (slots t) long)) r.holds);
      }

  -- the first field
  put_first : (x : List ℕ) (t : Tau) (taken : Bool) (ps : Parts) (us ws : List Scalar) (v w : Val) (vs : Vals) → All (part x t taken ps) us (values.more v vs) → H t ws w
      → IsPut zero (part x t taken ps) ws us (part x t false ps) (values.more w vs)
  unfolding with_part_at Holds
  put_first x t taken ps us ws v w vs k g =
      let b = behind x t taken ps us v vs k in
      let long : length ws ≡ slots t = holds_slots world h t ws w g in
      record {
        row = ws ++ drop (slots t) us;
        there = cond_true _ _ _ (le-leb _ _ b.0);
        holds = (
          room (slots t) (length (ws ++ drop (slots t) us)) (length (drop (slots t) us)) (length-append ws (drop (slots t) us) ∙ ap (λ z. z + length (drop (slots t) us)) long),
          subst (λ z. H t z w) (sym (take_at ws (drop (slots t) us) (slots t) long)) g,
          subst (λ z. All ps z vs) (sym (drop_at ws (drop (slots t) us) (slots t) long)) b.1,
        );
      }

  -- a value is put for a field
  pub field_put : (n : List ℕ) (ps : Parts) (us ws : List Scalar) (vs : Vals) (w : Val) → All ps us vs → IsTrue (is_there (part_named n ps)) → H (held (part_named n ps)) ws w
      → IsPut (position_among n ps) ps ws us (parts_with n false ps) (to_vals (slice_set (val_list vs) (position_among n ps) w))
  unfolding position_among to_vals val_list Holds
  field_put n end us ws vs w k l g = never l
  field_put n (part x t taken ps) us ws values.none w k l g = absurd k
  field_put n (part x t taken ps) us ws (values.more v vs) w k l g =
      let b = behind x t taken ps us v vs k in
      either_way (λ b. IsTrue (is_there (first_or b n t taken ps x)) → H (held (first_or b n t taken ps x)) ws w
      → IsPut (place_or b n ps) (part x t taken ps) ws us (with_or b n false x t taken ps) (to_vals (slice_set (v ∷ val_list vs) (place_or b n ps) w)))
      (bytes_eq n x) (λ l g. subst (λ z. IsPut zero (part x t taken ps) ws us (part x t false ps) (values.more w z)) (sym (vals_back vs)) (put_first x t taken ps us ws v w vs k g))
      (λ l g. put_behind n x t taken ps us ws v vs _ k (field_put n ps (drop (slots t) us) ws vs w b.1 l g)) l g

  -- ---- variants

  -- an alternative that is made
  pub alternative_made : (x : List ℕ) (ps : Parts) (ws : List Scalar) (v : Val) → IsTrue (is_left (part_named x ps)) → H (held (part_named x ps)) ws v
      → At ps (position_among x ps) (only_at (position_among x ps) ps ws) x v × (length (only_at (position_among x ps) ps ws) ≡ slots_of_parts ps)
  unfolding Holds position_among only_at slots
  alternative_made x end ws v l g = never l
  alternative_made x (part y t taken ps) ws v l g =
      by_cases (λ b. IsTrue (is_left (first_or b x t taken ps y)) → H (held (first_or b x t taken ps y)) ws v
      → At (part y t taken ps) (place_or b x ps) (only_at (place_or b x ps) (part y t taken ps) ws) x v
      × (length (only_at (place_or b x ps) (part y t taken ps) ws) ≡ slots t + slots_of_parts ps))
      (bytes_eq x y)
      (λ e l g. let long : length ws ≡ slots t = holds_slots world h t ws v g in (
        (untaken taken l, name_is x y e, subst (λ z. H t z v) (sym (take_at ws (replicate (slots_of_parts ps) Unset) (slots t) long)) g),
        length-append ws (replicate (slots_of_parts ps) Unset) ∙ ap (λ z. z + length (replicate (slots_of_parts ps) Unset)) long ∙ ap (λ z. slots t + z) (length-replicate (slots_of_parts ps) Unset),
      ))
      (λ e l g. let r = alternative_made x ps ws v l g in let long : length (replicate (slots t) Unset) ≡ slots t = length-replicate (slots t) Unset in (
        subst (λ z. At ps (position_among x ps) z x v) (sym (drop_at (replicate (slots t) Unset) (only_at (position_among x ps) ps ws) (slots t) long)) r.0,
        length-append (replicate (slots t) Unset) (only_at (position_among x ps) ps ws) ∙ ap (λ z. z + length (only_at (position_among x ps) ps ws)) long ∙ ap (λ z. slots t + z) r.1,
      )) l g
    where
      untaken : (b : Bool) → IsTrue (not b) → b ≡ false
      untaken true e = never e
      untaken false e = refl

  -- an alternative at a place is there by its name
  at_there : (ps : Parts) (i : ℕ) (us : List Scalar) (x : List ℕ) (v : Val) → At ps i us x v → IsTrue (is_there (part_named x ps))
  unfolding Holds
  at_there end i us x v k = absurd k
  at_there (part y t taken ps) zero us x v k =
      by_cases (λ b. IsTrue (is_there (first_or b x t taken ps y))) (bytes_eq x y) (λ e. refl) (λ e. absurd (let q = name_same x in let p = ap (bytes_eq x) k.1 in cc))
  at_there (part y t taken ps) (suc i) us x v k =
      either_way (λ b. IsTrue (is_there (first_or b x t taken ps y))) (bytes_eq x y) refl (at_there ps i (drop (slots t) us) x v k)

  -- where no name stands twice, it stands at the place of its name
  pub at_place : (n : List ℕ) (ps : Parts) (i : ℕ) (us : List Scalar) (v : Val) → IsTrue (are_apart ps) → At ps i us n v → i ≡ position_among n ps
  unfolding Holds position_among are_apart
  at_place n end i us v a k = absurd k
  at_place n (part y t taken ps) zero us v a k =
      by_cases (λ b. zero ≡ place_or b n ps) (bytes_eq n y) (λ e. refl) (λ e. absurd (let q = name_same n in let p = ap (bytes_eq n) k.1 in cc))
  at_place n (part y t taken ps) (suc i) us v a k =
      let d = and_parts (not (is_there (part_named y ps))) _ a in
      by_cases (λ b. suc i ≡ place_or b n ps) (bytes_eq n y)
      (λ e. absurd (twice (is_there (part_named y ps)) d.0 (subst (λ z. IsTrue (is_there (part_named z ps))) (name_is n y e) (at_there ps i (drop (slots t) us) n v k))))
      (λ e. ap suc (at_place n ps i (drop (slots t) us) v d.1 k))
    where
      twice : (b : Bool) → IsTrue (not b) → IsTrue b → ⊥
      twice true p q = never p
      twice false p q = never q

  -- what stands at the place of a name is of this name
  pub place_name : (n : List ℕ) (ps : Parts) (us : List Scalar) (x : List ℕ) (v : Val) → IsTrue (is_there (part_named n ps)) → At ps (position_among n ps) us x v → x ≡ n
  unfolding Holds position_among
  place_name n end us x v l k = absurd k
  place_name n (part y t taken ps) us x v l k =
      by_cases (λ b. IsTrue (is_there (first_or b n t taken ps y)) → At (part y t taken ps) (place_or b n ps) us x v → x ≡ n) (bytes_eq n y)
      (λ e l k. k.1 ∙ sym (name_is n y e)) (λ e l k. place_name n ps (drop (slots t) us) x v l k) l k

  -- its payload is read
  pub payload_held : (n : List ℕ) (ps : Parts) (us : List Scalar) (x : List ℕ) (v : Val) → IsTrue (is_there (part_named n ps)) → length us ≡ slots_of_parts ps → At ps (position_among n ps) us x v
      → IsRead (position_among n ps) ps us (held (part_named n ps)) v
  unfolding Holds position_among part_at slots
  payload_held n end us x v l m k = absurd k
  payload_held n (part y t taken ps) us x v l m k =
      either_way (λ b. IsTrue (is_there (first_or b n t taken ps y)) → At (part y t taken ps) (place_or b n ps) us x v
      → IsRead (place_or b n ps) (part y t taken ps) us (held (first_or b n t taken ps y)) v)
      (bytes_eq n y) (λ l k. record { scalars = take (slots t) us; there = cond_true _ _ _ (le-leb _ _ (room (slots t) (length us) (slots_of_parts ps) m)); holds = k.2 })
      (λ l k.
      let r = payload_held n ps (drop (slots t) us) x v l (less (length us) (slots t) (slots_of_parts ps) (length (drop (slots t) us)) m (length-drop (slots t) us)) k in
      record { scalars = r.scalars; there = r.there; holds = r.holds }) l k

  -- another alternative than n is as it was, once n is taken
  pub others_held : (n : List ℕ) (ps : Parts) (i : ℕ) (us : List Scalar) (x : List ℕ) (v : Val) → bytes_eq n x ≡ false → At ps i us x v → At (parts_with n true ps) i us x v
  unfolding Holds
  others_held n end i us x v e k = absurd k
  others_held n (part y t taken ps) zero us x v e k =
      by_cases (λ b. At (with_or b n true y t taken ps) zero us x v) (bytes_eq n y) (λ q. absurd (let p = ap (bytes_eq n) k.1 in cc)) (λ q. k)
  others_held n (part y t taken ps) (suc i) us x v e k =
      either_way (λ b. At (with_or b n true y t taken ps) (suc i) us x v) (bytes_eq n y) k (others_held n ps i (drop (slots t) us) x v e k)

  -- where all others are taken it is n
  pub last_name : (n : List ℕ) (ps : Parts) (i : ℕ) (us : List Scalar) (x : List ℕ) (v : Val) → IsTrue (are_others_taken n ps) → At ps i us x v → x ≡ n
  unfolding Holds
  last_name n end i us x v o k = absurd k
  last_name n (part y t taken ps) zero us x v o k =
      let p = and_parts (bytes_eq n y || taken) _ o in k.1 ∙ sym (name_is n y (left_or (bytes_eq n y) taken k.0 p.0))
    where
      left_or : (a b : Bool) → b ≡ false → IsTrue (a || b) → a ≡ true
      left_or true b h k = refl
      left_or false true h k = absurd (cc)
      left_or false false h k = k
  last_name n (part y t taken ps) (suc i) us x v o k = last_name n ps i (drop (slots t) us) x v (and_parts (bytes_eq n y || taken) _ o).1 k
