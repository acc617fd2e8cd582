-- Tables of names, beside the lists of which they have the places.
use Rattle.std.specs.Prelude.{◌≡◌, ℕ, List, [], ◌∷◌, ◌++◌, length, Option}
use Rattle.std.specs.BTreeMap.{BTreeMap, get_by}
use Rattle.std.specs.Cmp.Lexicographic.{slice_cmp}
use Rattle.std.specs.List.{position_from}
use Rattle.std.specs.Ordering.{nat_cmp}
use Rattle.std.specs.Str.{bytes_eq}
use denote.Ref.{Bor}

-- names, each with a place
abbrev pub Table : Type 0
Table = BTreeMap (Bor (List ℕ)) ℕ

-- the place that a table has for a name
abbrev pub place : Table → List ℕ → Option ℕ
place table name = get_by (λ key. slice_cmp nat_cmp name key.now) table

-- a table has the place of the first of each of these names, and no others (docs/LANGUAGE.md, "The C subset": the first of a
-- name counts)
pub record Indexes (names : List (List ℕ)) (table : Table) : Type 0 where
  pub first : (name : List ℕ) → place table name ≡ position_from (bytes_eq name) 0 names

-- a name has joined a table, behind so many others
pub record HasJoined (name : List ℕ) (at : ℕ) (before after : Table) : Type 0 where
  pub joins : (names : List (List ℕ)) → at ≡ length names → Indexes names before → Indexes (names ++ name ∷ []) after
