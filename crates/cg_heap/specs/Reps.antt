-- Which scalars represent a value in a heap, and which addresses they reach (docs/LANGUAGE.md, "Layout").
use Rattle.std.specs.Prelude.{◌≡◌, ℕ, zero, suc, ◌+◌, ◌<◌, ◌≤◌, ◌^◌, Bool, true, false, ◌&&◌, cond, not, nat_eq, IsTrue, List, [], ◌∷◌, codes, length, take, drop, Option, Some}
use Rattle.std.specs.Str.{bytes_eq}
use Rattle.cg_base.specs.declared.kind.Sigil.{Sigil}
use Rattle.cg_base.specs.declared.kind.Sigil.TheVariants.{R, W, U}
use Rattle.cg_base.specs.Types.{Tau, var, seen, unit, word, bool, arrow, abs, variant, fields, Taus, none, more, Parts, end, part}
use Rattle.cg_base.specs.Words.{bits}
use Rattle.cg_heap.specs.declared.cell.Cell.{Cell}
use Rattle.cg_heap.specs.declared.cell.Cell.TheVariants.{Slots, Words, Answers}
use Rattle.cg_heap.specs.declared.cell.Scalar.{Scalar}
use Rattle.cg_heap.specs.declared.cell.Scalar.TheVariants.{Unset, Word, Address}
use Rattle.cg_value.specs.Fits.{is_array}
use Rattle.cg_value.specs.Values as values
use Rattle.cg_value.specs.Values.{Val, number, nothing, chosen, parts, elements, answers, gone, Vals}

-- a heap: the cell at each address, and none at those that it doesn't hold
abbrev pub Heap : Type 0
Heap = ℕ → Option Cell

-- What instances and abstract types are on heaps: the function that stands at a place of the list of instances, with its type; and
-- whether numbers in a cell stand for a value of an abstract type.
pub record HeapWorld : Type 0 where
  pub instance_at : ℕ → Option (Val × Tau)
  pub stands : List ℕ → List ℕ → Val → Bool

-- ---- layout

-- how many scalars a type has
unfoldable mutual
  pub slots : Tau → ℕ
  slots (var n) = 1
  slots (seen n) = 1
  slots unit = 1
  slots (word w) = 1
  slots bool = 1
  slots (arrow a b) = 1
  slots (abs name args sigil) = 1
  slots (variant ps) = slots_of_parts ps + 1
  slots (fields ps U) = slots_of_parts ps
  slots (fields ps R) = 1
  slots (fields ps W) = 1

  pub slots_of_parts : Parts → ℕ
  slots_of_parts end = 0
  slots_of_parts (part name t taken ps) = slots t + slots_of_parts ps

-- ---- scalars

abbrev pub head : List Scalar → Scalar
head [] = Unset
head (s ∷ ss) = s

abbrev pub tail : List Scalar → List Scalar
tail [] = []
tail (s ∷ ss) = ss

abbrev pub number_of : Scalar → ℕ
number_of (Word n) = n
number_of _ = 0

abbrev pub address_of : Scalar → ℕ
address_of (Address p) = p
address_of _ = 0

-- the first scalar, as a number and as an address
abbrev pub first_number : List Scalar → ℕ
first_number us = number_of (head us)

abbrev pub first_address : List Scalar → ℕ
first_address us = address_of (head us)

-- they are one number, and one address, which isn't the null address
abbrev pub IsNumber : List Scalar → Type 0
IsNumber us = us ≡ Word (first_number us) ∷ []

abbrev pub IsAddress : List Scalar → Type 0
IsAddress us = (us ≡ Address (first_address us) ∷ []) × (1 ≤ first_address us)

abbrev pub is_boxed : Sigil → Bool
is_boxed U = false
is_boxed R = true
is_boxed W = true

abbrev pub slots_in : Option Cell → List Scalar
slots_in (Some (Slots ss)) = ss
slots_in _ = []

module _ (h : Heap) where
  -- where the fields of a record stand
  abbrev pub inner : Sigil → List Scalar → List Scalar
  inner U us = us
  inner R us = slots_in (h (first_address us))
  inner W us = slots_in (h (first_address us))

  -- the scalars of a boxed record are the address of a cell of slots
  abbrev pub IsBoxed : Sigil → List Scalar → Type 0
  IsBoxed U us = Unit {0}
  IsBoxed R us = IsAddress us × (h (first_address us) ≡ Some (Slots (slots_in (h (first_address us)))))
  IsBoxed W us = IsAddress us × (h (first_address us) ≡ Some (Slots (slots_in (h (first_address us)))))

-- ---- representation

module _ (world : HeapWorld) where
  -- what a cell holds as a value of an abstract type: of one declared beforehand, or of one without arguments
  abbrev pub StandsFor : List ℕ → Taus → Option Cell → Val → Type 0
  StandsFor name none (Some (Answers bs)) v = IsTrue (bytes_eq name (codes "SysState")) × (v ≡ answers bs)
  StandsFor name none (Some (Words ns)) v = IsTrue (not (bytes_eq name (codes "SysState")) && world.stands name ns v)
  StandsFor name (more (word w) none) (Some (Words ns)) v = IsTrue (bytes_eq name (codes "WordArray") && is_array w (elements ns)) × (v ≡ elements ns)
  StandsFor name _ _ v = ⊥

  module _ (h : Heap) where
    -- The scalars represent the value. The slots of taken fields and those behind an alternative hold anything; which
    -- addresses are reached is said below.
    unfoldable mutual
      pub Holds : Tau → List Scalar → Val → Type 0
      Holds (var n) us v = ⊥
      Holds (seen n) us v = ⊥
      Holds unit us v = (us ≡ Word 0 ∷ []) × (v ≡ nothing)
      Holds (word w) us v = IsNumber us × (first_number us < 2 ^ bits w) × (v ≡ number (first_number us))
      Holds bool us v = IsNumber us × (first_number us < 2) × (v ≡ number (first_number us))
      Holds (arrow a b) us v = IsNumber us × (world.instance_at (first_number us) ≡ Some (v, arrow a b))
      Holds (abs name args sigil) us v = IsTrue (is_boxed sigil) × IsAddress us × StandsFor name args (h (first_address us)) v
      Holds (variant ps) us v = (name : List ℕ) × (x : Val) × (us ≡ Word (first_number us) ∷ tail us) × (length (tail us) ≡ slots_of_parts ps)
          × HoldsAt ps (first_number us) (tail us) name x × (v ≡ chosen name x)
      Holds (fields ps sigil) us v = (vs : Vals) × IsBoxed h sigil us × HoldsAll ps (inner h sigil us) vs × (v ≡ parts vs)

      -- the fields, one behind the other
      pub HoldsAll : Parts → List Scalar → Vals → Type 0
      HoldsAll end us values.none = us ≡ []
      HoldsAll end us (values.more v vs) = ⊥
      HoldsAll (part name t taken ps) us values.none = ⊥
      HoldsAll (part name t true ps) us (values.more v vs) = (slots t ≤ length us) × (v ≡ gone) × HoldsAll ps (drop (slots t) us) vs
      HoldsAll (part name t false ps) us (values.more v vs) = (slots t ≤ length us) × Holds t (take (slots t) us) v × HoldsAll ps (drop (slots t) us) vs

      -- the payload of the alternative at a place, and its name
      pub HoldsAt : Parts → ℕ → List Scalar → List ℕ → Val → Type 0
      HoldsAt end i us x v = ⊥
      HoldsAt (part name t taken ps) zero us x v = (taken ≡ false) × (x ≡ name) × Holds t (take (slots t) us) v
      HoldsAt (part name t taken ps) (suc i) us x v = HoldsAt ps i (drop (slots t) us) x v

-- ---- footprints

abbrev pub one_if : Bool → ℕ
one_if true = 1
one_if false = 0

-- a cell of this sigil is counted at its own address
abbrev pub counted : Sigil → Sigil → ℕ → ℕ → ℕ
counted R R p q = one_if (nat_eq p q)
counted W W p q = one_if (nat_eq p q)
counted _ _ p q = 0

module _ (h : Heap) (m : Sigil) where
  -- how often an address is reached at a sigil
  unfoldable mutual
    pub foot : Tau → List Scalar → ℕ → ℕ
    foot (var n) us q = 0
    foot (seen n) us q = 0
    foot unit us q = 0
    foot (word w) us q = 0
    foot bool us q = 0
    foot (arrow a b) us q = 0
    foot (abs name args sigil) us q = counted m sigil (first_address us) q
    foot (variant ps) us q = foot_at ps (first_number us) (tail us) q
    foot (fields ps sigil) us q = counted m sigil (first_address us) q + foot_all ps (inner h sigil us) q

    pub foot_all : Parts → List Scalar → ℕ → ℕ
    foot_all end us q = 0
    foot_all (part name t true ps) us q = foot_all ps (drop (slots t) us) q
    foot_all (part name t false ps) us q = foot t (take (slots t) us) q + foot_all ps (drop (slots t) us) q

    pub foot_at : Parts → ℕ → List Scalar → ℕ → ℕ
    foot_at end i us q = 0
    foot_at (part name t taken ps) zero us q = cond taken 0 (foot t (take (slots t) us) q)
    foot_at (part name t taken ps) (suc i) us q = foot_at ps i (drop (slots t) us) q

-- What is written is reached once, and by no one who reads: so parts are apart, and a record that is written is in no footprint of its fields.
abbrev pub AreApart : (ℕ → ℕ) → (ℕ → ℕ) → Type 0
AreApart writes reads = (q : ℕ) → 1 ≤ writes q → writes q + reads q ≤ 1

-- The scalars represent the value, and these are the addresses that they may write and read (the paper's value typing in a heap).
pub record Represents (world : HeapWorld) (h : Heap) (t : Tau) (us : List Scalar) (v : Val) (writes reads : ℕ → ℕ) : Type 0 where
  pub holds : Holds world h t us v
  pub are_writes : (q : ℕ) → writes q ≡ foot h W t us q
  pub are_reads : (q : ℕ) → reads q ≡ foot h R t us q
  pub apart : AreApart writes reads
