-- What parts reach, by their names: a field that is taken, another value for a field, an alternative that is made, read or left.
use Rattle.std.proofs.Common.{◌≡◌, ℕ, zero, suc, ◌+◌, ◌≤◌, Bool, true, false, not, cond, IsTrue, Option, Some, None, List, [], ◌++◌, length, take, drop, replicate, inl, refl, sym, ap, subst, arith}
use Rattle.std.proofs.lemmas.Bool.{le-leb}
use Rattle.std.proofs.lemmas.List.{drop_at, length-drop, length-replicate, length-take-le, take_at}
use Rattle.std.specs.Prelude.{if◌then◌else◌}
use Rattle.std.specs.Str.{bytes_eq}
use Rattle.cg_base.proofs.Counts.{no_steps as never}
use Rattle.cg_base.proofs.Truths.{cond_true}
use Rattle.cg_base.specs.declared.kind.Sigil.{Sigil}
use Rattle.cg_base.specs.declared.kind.Sigil.TheVariants.{W}
use Rattle.cg_base.specs.Types.{Tau, Parts, end, part, Piece}
use Rattle.cg_eval_operations.specs.Positions.{position_among}
use Rattle.cg_heap.specs.declared.cell.Scalar.{Scalar}
use Rattle.cg_heap.specs.declared.cell.Scalar.TheVariants.{Unset}
use Rattle.cg_heap.specs.Reps.{Heap, HeapWorld, Holds, HoldsAt, foot, foot_all, foot_at, slots, slots_of_parts}
use Rattle.cg_heap_laws.proofs.ByKinds.{no_writes}
use Rattle.cg_inst.proofs.Names.{by_cases, either_way}
use Rattle.cg_typing.specs.Parts.{held, is_left, is_there, may_be_put_over, part_named, parts_with}
use Rattle.cg_update.specs.Machines.{only_at, part_at, with_part_at}
use Rattle.cg_update_laws.proofs.Named.{room}
use Rattle.cg_value.specs.Values.{Val}

-- ---- plain facts

swapped : (a b : ℕ) → a + b ≡ b + a
swapped a b = omega arith

-- the same in front of both
pub in_front : (a b c d : ℕ) → b + c ≡ d → (a + b) + c ≡ a + d
in_front a b c d e = omega arith

in_front_of_both : (a b l c d : ℕ) → b + l ≡ c + d → (a + b) + l ≡ (a + c) + d
in_front_of_both a b l c d e = omega arith

-- what stood there is none, or it is c
where_none : (a b : ℕ) → (a + b) + 0 ≡ b + a
where_none a b = omega arith

where_some : (a b c : ℕ) → (a + b) + c ≡ (c + b) + a
where_some a b c = omega arith

-- the others stand behind the first
behind : (n m k : ℕ) (us : List Scalar) → length us ≡ n + k → length (drop n us) ≡ k
behind n m k us e = omega (arith, length-drop n us)

-- what is there, where it is there
given_is : (b : Bool) (x y : List Scalar) → cond b (Some x) None ≡ Some y → x ≡ y
given_is true x y e = cc
given_is false x y e = absurd (cc)

untaken : (b : Bool) → IsTrue (not b) → b ≡ false
untaken true e = never e
untaken false e = refl

-- ---- parts by name, over either answer of the test of the first

abbrev first_or : Bool → List ℕ → Tau → Bool → Parts → List ℕ → Option Piece
first_or b n t taken ps x = if b then Some (record { name = x; ty = t; taken = taken }) else part_named n ps

abbrev place_or : Bool → List ℕ → Parts → ℕ
place_or b n ps = if b then zero else suc (position_among n ps)

abbrev with_or : Bool → List ℕ → Bool → List ℕ → Tau → Bool → Parts → Parts
with_or b n now x t taken ps = if b then part x t now ps else part x t taken (parts_with n now ps)

-- ---- another value for a field

-- a row with these scalars for the field of a name
abbrev pub put_row : List ℕ → Parts → List Scalar → List Scalar → List Scalar
put_row n end us ws = us
put_row n (part x t taken ps) us ws = if bytes_eq n x then ws ++ drop (slots t) us else take (slots t) us ++ put_row n ps (drop (slots t) us) ws

abbrev row_or : Bool → List ℕ → Tau → Parts → List Scalar → List Scalar → List Scalar
row_or b n t ps us ws = if b then ws ++ drop (slots t) us else take (slots t) us ++ put_row n ps (drop (slots t) us) ws

-- it is the row that is written
pub put_row_is : (n : List ℕ) (ps : Parts) (us ws : List Scalar) → IsTrue (is_there (part_named n ps)) → length us ≡ slots_of_parts ps
    → with_part_at (position_among n ps) ps ws us ≡ Some (put_row n ps us ws)
unfolding position_among with_part_at slots
put_row_is n end us ws l e = never l
put_row_is n (part x t taken ps) us ws l e =
    either_way (λ b. IsTrue (is_there (first_or b n t taken ps x)) → with_part_at (place_or b n ps) (part x t taken ps) ws us ≡ Some (row_or b n t ps us ws))
    (bytes_eq n x) (λ l. cond_true _ _ _ (le-leb _ _ (room (slots t) (length us) (slots_of_parts ps) e)))
    (λ l. let r = put_row_is n ps (drop (slots t) us) ws l (behind (slots t) (length us) (slots_of_parts ps) us e) in rw r refl) l

module _ (h : Heap) (m : Sigil) (q : ℕ) where
  -- what a field that is put over reached
  abbrev pub lost : List ℕ → Parts → List Scalar → ℕ
  lost n end us = 0
  lost n (part x t taken ps) us = if bytes_eq n x then cond taken 0 (foot h m t (take (slots t) us) q) else lost n ps (drop (slots t) us)

  abbrev lost_or : Bool → List ℕ → Tau → Bool → Parts → List Scalar → ℕ
  lost_or b n t taken ps us = if b then cond taken 0 (foot h m t (take (slots t) us) q) else lost n ps (drop (slots t) us)

  -- the field itself, and one behind the first
  first_put : (x : List ℕ) (t : Tau) (taken : Bool) (ps : Parts) (us ws : List Scalar) → length ws ≡ slots t
      → foot_all h m (part x t false ps) (ws ++ drop (slots t) us) q + cond taken 0 (foot h m t (take (slots t) us) q) ≡ foot_all h m (part x t taken ps) us q + foot h m t ws q
  unfolding foot
  first_put x t true ps us ws k = rw (take_at ws (drop (slots t) us) (slots t) k, drop_at ws (drop (slots t) us) (slots t) k) (where_none _ _)
  first_put x t false ps us ws k = rw (take_at ws (drop (slots t) us) (slots t) k, drop_at ws (drop (slots t) us) (slots t) k) (where_some _ _ _)

  later_put : (x : List ℕ) (t : Tau) (taken : Bool) (ps qs : Parts) (us row : List Scalar) (a d : ℕ) → slots t ≤ length us
      → foot_all h m qs row q + a ≡ foot_all h m ps (drop (slots t) us) q + d
      → foot_all h m (part x t taken qs) (take (slots t) us ++ row) q + a ≡ foot_all h m (part x t taken ps) us q + d
  unfolding foot
  later_put x t true ps qs us row a d k e = rw (drop_at (take (slots t) us) row (slots t) (length-take-le (slots t) us k)) e
  later_put x t false ps qs us row a d k e =
      let long : length (take (slots t) us) ≡ slots t = length-take-le (slots t) us k in
      rw (take_at (take (slots t) us) row (slots t) long, drop_at (take (slots t) us) row (slots t) long) (in_front_of_both _ _ a _ d e)

  -- with what is lost, a row in which a value is put reaches what the row and the value did
  pub put_foot : (n : List ℕ) (ps : Parts) (us ws : List Scalar) → IsTrue (is_there (part_named n ps)) → length us ≡ slots_of_parts ps → length ws ≡ slots (held (part_named n ps))
      → foot_all h m (parts_with n false ps) (put_row n ps us ws) q + lost n ps us ≡ foot_all h m ps us q + foot h m (held (part_named n ps)) ws q
  unfolding slots
  put_foot n end us ws l e k = never l
  put_foot n (part x t taken ps) us ws l e k =
      either_way (λ b. IsTrue (is_there (first_or b n t taken ps x)) → length ws ≡ slots (held (first_or b n t taken ps x))
      → foot_all h m (with_or b n false x t taken ps) (row_or b n t ps us ws) q + lost_or b n t taken ps us
      ≡ foot_all h m (part x t taken ps) us q + foot h m (held (first_or b n t taken ps x)) ws q)
      (bytes_eq n x) (λ l k. first_put x t taken ps us ws k)
      (λ l k. later_put x t taken ps (parts_with n false ps) us (put_row n ps (drop (slots t) us) ws) (lost n ps (drop (slots t) us)) _
      (room (slots t) (length us) (slots_of_parts ps) e) (put_foot n ps (drop (slots t) us) ws l (behind (slots t) (length us) (slots_of_parts ps) us e) k)) l k

  -- ---- a field that is taken

  -- the field and the rest reach what the row did
  pub taken_foot : (n : List ℕ) (ps : Parts) (us ws : List Scalar) → IsTrue (is_left (part_named n ps)) → part_at (position_among n ps) ps us ≡ Some ws
      → foot_all h m (parts_with n true ps) us q + foot h m (held (part_named n ps)) ws q ≡ foot_all h m ps us q
  unfolding foot position_among part_at
  taken_foot n end us ws l e = never l
  taken_foot n (part x t true ps) us ws l e =
      either_way (λ b. IsTrue (is_left (first_or b n t true ps x)) → part_at (place_or b n ps) (part x t true ps) us ≡ Some ws
      → foot_all h m (with_or b n true x t true ps) us q + foot h m (held (first_or b n t true ps x)) ws q ≡ foot_all h m (part x t true ps) us q)
      (bytes_eq n x) (λ l e. never l) (λ l e. taken_foot n ps (drop (slots t) us) ws l e) l e
  taken_foot n (part x t false ps) us ws l e =
      either_way (λ b. IsTrue (is_left (first_or b n t false ps x)) → part_at (place_or b n ps) (part x t false ps) us ≡ Some ws
      → foot_all h m (with_or b n true x t false ps) us q + foot h m (held (first_or b n t false ps x)) ws q ≡ foot_all h m (part x t false ps) us q)
      (bytes_eq n x)
      (λ l e. subst (λ z. foot_all h m ps (drop (slots t) us) q + foot h m t z q ≡ foot h m t (take (slots t) us) q + foot_all h m ps (drop (slots t) us) q)
      (given_is _ _ _ e) (swapped _ _))
      (λ l e. in_front _ _ _ _ (taken_foot n ps (drop (slots t) us) ws l e)) l e

  -- ---- alternatives

  -- one that is made reaches what its payload does
  pub made_at_foot : (n : List ℕ) (ps : Parts) (ws : List Scalar) → IsTrue (is_left (part_named n ps)) → length ws ≡ slots (held (part_named n ps))
      → foot_at h m ps (position_among n ps) (only_at (position_among n ps) ps ws) q ≡ foot h m (held (part_named n ps)) ws q
  unfolding foot position_among only_at
  made_at_foot n end ws l k = never l
  made_at_foot n (part x t taken ps) ws l k =
      either_way (λ b. IsTrue (is_left (first_or b n t taken ps x)) → length ws ≡ slots (held (first_or b n t taken ps x))
      → foot_at h m (part x t taken ps) (place_or b n ps) (only_at (place_or b n ps) (part x t taken ps) ws) q ≡ foot h m (held (first_or b n t taken ps x)) ws q)
      (bytes_eq n x)
      (λ l k. rw (untaken taken l, take_at ws (replicate (slots_of_parts ps) Unset) (slots t) k) refl)
      (λ l k. rw (drop_at (replicate (slots t) Unset) (only_at (position_among n ps) ps ws) (slots t) (length-replicate (slots t) Unset)) (made_at_foot n ps ws l k)) l k

  module _ (world : HeapWorld) where
    -- one that is read reaches what all did
    pub read_at_foot : (n : List ℕ) (ps : Parts) (us ws : List Scalar) (x : List ℕ) (v : Val) → IsTrue (is_there (part_named n ps)) → HoldsAt world h ps (position_among n ps) us x v
        → part_at (position_among n ps) ps us ≡ Some ws → foot h m (held (part_named n ps)) ws q ≡ foot_at h m ps (position_among n ps) us q
    unfolding Holds foot position_among part_at
    read_at_foot n end us ws x v l k e = never l
    read_at_foot n (part y t taken ps) us ws x v l k e =
        either_way (λ b. IsTrue (is_there (first_or b n t taken ps y)) → HoldsAt world h (part y t taken ps) (place_or b n ps) us x v
        → part_at (place_or b n ps) (part y t taken ps) us ≡ Some ws
        → foot h m (held (first_or b n t taken ps y)) ws q ≡ foot_at h m (part y t taken ps) (place_or b n ps) us q)
        (bytes_eq n y) (λ l k e. rw k.0 (ap (λ z. foot h m t z q) (sym (given_is _ _ _ e)))) (λ l k e. read_at_foot n ps (drop (slots t) us) ws x v l k e) l k e

    -- another than n reaches what it did, once n is taken
    pub others_at_foot : (n : List ℕ) (ps : Parts) (i : ℕ) (us : List Scalar) (x : List ℕ) (v : Val) → bytes_eq n x ≡ false → HoldsAt world h ps i us x v
        → foot_at h m (parts_with n true ps) i us q ≡ foot_at h m ps i us q
    unfolding Holds foot
    others_at_foot n end i us x v e k = refl
    others_at_foot n (part y t taken ps) zero us x v e k =
        by_cases (λ b. foot_at h m (with_or b n true y t taken ps) zero us q ≡ foot_at h m (part y t taken ps) zero us q) (bytes_eq n y)
        (λ d. absurd (let p = ap (bytes_eq n) k.1 in cc)) (λ d. refl)
    others_at_foot n (part y t taken ps) (suc i) us x v e k =
        either_way (λ b. foot_at h m (with_or b n true y t taken ps) (suc i) us q ≡ foot_at h m (part y t taken ps) (suc i) us q) (bytes_eq n y)
        refl (others_at_foot n ps i (drop (slots t) us) x v e k)

-- where it is taken or may be dropped, nothing is lost that was written
module _ (h : Heap) (q : ℕ) where
  pub nothing_lost : (n : List ℕ) (ps : Parts) (us : List Scalar) → IsTrue (may_be_put_over [] (part_named n ps)) → lost h W q n ps us ≡ 0
  nothing_lost n end us l = refl
  nothing_lost n (part x t taken ps) us l =
      either_way (λ b. IsTrue (may_be_put_over [] (first_or b n t taken ps x)) → lost_or h W q b n t taken ps us ≡ 0)
      (bytes_eq n x) (λ l. dropped taken l) (λ l. nothing_lost n ps (drop (slots t) us) l) l
    where
      dropped : (b : Bool) → IsTrue (may_be_put_over [] (Some (record { name = x; ty = t; taken = b }))) → cond b 0 (foot h W t (take (slots t) us) q) ≡ 0
      dropped true l = refl
      dropped false l = no_writes h [] t (take (slots t) us) q (inl l)
