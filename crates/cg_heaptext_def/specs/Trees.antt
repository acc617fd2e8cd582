-- Heap files as trees, with the places of their tokens (docs/LANGUAGE.md, "Heap files").
use Rattle.std.specs.Prelude.{ℕ, Bool, List, [], ◌∷◌}
use Rattle.cg_base.specs.declared.place.Place.{Place}
use Rattle.cg_base.specs.Numbers.{number_from}

-- a number as it is written: its place, and its digits
pub record Numeral : Type 0 where
  pub place : Place
  pub digits : List ℕ

-- the number that it spells, of any size
abbrev pub amount : Numeral → ℕ
amount n = number_from 0 n.digits

mutual
  -- a value as it is written, with the place of its first token
  pub data Written : Type 0 where
    numeral : Numeral → Written
    truth : Place → Bool → Written
    nothing : Place → Written
    gone : Place → Written
    address : Place → Numeral → Written
    constant : Place → List ℕ → Written  -- a constructor without a payload
    applied : Place → List ℕ → Written → Written  -- and with one
    inside : Place → Written → Written  -- a value in parentheses
    tuple : Place → Writtens → Written  -- two values or more
    record' : Place → Fields → Written

  pub data Writtens : Type 0 where
    none : Writtens
    more : Written → Writtens → Writtens

  -- values with their names
  pub data Fields : Type 0 where
    end : Fields
    field : List ℕ → Written → Fields → Fields

-- a cell as it is written, with the place of its first token
pub data Cell : Type 0 where
  slots : Place → Fields → Cell
  elements : Place → List Numeral → Cell
  answers : Place → List Bool → Cell

-- a cell with its address, and the place of the sign before that
pub record Entry : Type 0 where
  pub place : Place
  pub address : Numeral
  pub cell : Cell

pub record Heap : Type 0 where
  pub entries : List Entry
  pub argument : Written

-- ---- what is asked of trees

-- the place of the first token
abbrev pub first : Written → Place
first (numeral n) = n.place
first (truth p b) = p
first (nothing p) = p
first (gone p) = p
first (address p n) = p
first (constant p x) = p
first (applied p x v) = p
first (inside p v) = p
first (tuple p vs) = p
first (record' p fs) = p

-- without parentheses round it
abbrev pub bare : Written → Written
bare (inside p v) = bare v
bare v = v

abbrev pub first_of : Cell → Place
first_of (slots p fs) = p
first_of (elements p ns) = p
first_of (answers p bs) = p

abbrev pub listed : Writtens → List Written
listed none = []
listed (more v vs) = v ∷ listed vs

abbrev pub values_in : Fields → List Written
values_in end = []
values_in (field x v fs) = v ∷ values_in fs

abbrev pub names_in : Fields → List (List ℕ)
names_in end = []
names_in (field x v fs) = x ∷ names_in fs
