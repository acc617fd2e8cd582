-- How a grammar is written: a reading relates the tokens from a place on to those behind what is read there.
use Rattle.std.specs.Prelude.{◌≡◌, Bool, List, [], ◌∷◌, ◌++◌, ⊤, true, false}
use Rattle.cg_base.specs.declared.place.Place.{Place}
use Rattle.cg_parser_symbols.specs.Symbols.{Symbol, Seen, is_first}

abbrev pub Reading : Type 1
Reading = List Seen → List Seen → Type 0

infixr 15 ◌then◌
abbrev pub ◌then◌ : Reading → Reading → Reading
(R then S) ts rest = (mid : List Seen) × R ts mid × S mid rest

-- one symbol at this place
abbrev pub token : Symbol → Place → Reading
token s p ts rest = ts ≡ record { symbol = s; place = p } ∷ rest

-- one symbol at a place that no tree keeps
abbrev pub sign : Symbol → Reading
sign s ts rest = (p : Place) × token s p ts rest

-- one symbol of two kinds that a flag tells apart, at this place, or at a place that no tree keeps
abbrev pub either_token : (Bool → Symbol) → Place → Reading
either_token s p ts rest = (flag : Bool) × token (s flag) p ts rest

abbrev pub either_sign : (Bool → Symbol) → Reading
either_sign s ts rest = (p : Place) × either_token s p ts rest

-- one symbol at this place, at column 1: it begins an item
abbrev pub head : Symbol → Place → Reading
head s p ts rest = (is_first p ≡ true) × token s p ts rest

-- one symbol past column 1, at this place, or at a place that no tree keeps: it goes on with an item
abbrev pub inner : Symbol → Place → Reading
inner s p ts rest = (is_first p ≡ false) × token s p ts rest

abbrev pub inner_sign : Symbol → Reading
inner_sign s ts rest = (p : Place) × inner s p ts rest

-- every token stands past column 1
abbrev pub ArePast : List Seen → Type 0
ArePast [] = ⊤
ArePast (t ∷ ts) = (is_first t.place ≡ false) × ArePast ts

-- some tokens past column 1 that spell a part of an item
pub record IsPart {Tree : Type 0} (Spells : List Seen → Tree → Type 0) (tree : Tree) (ts rest : List Seen) : Type 0 where
  pub front : List Seen
  pub past : ArePast front
  pub parts : ts ≡ front ++ rest
  pub spelled : Spells front tree

-- some tokens that spell a part, wherever they stand
pub record IsSpelled {Tree : Type 0} (Spells : List Seen → Tree → Type 0) (tree : Tree) (ts rest : List Seen) : Type 0 where
  pub front : List Seen
  pub parts : ts ≡ front ++ rest
  pub spelled : Spells front tree
