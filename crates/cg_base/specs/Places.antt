-- Places in a text: lines and columns count from 1, a column is a byte, and a line ends at its line feed (docs/LANGUAGE.md,
-- "Tokens").
use Rattle.std.specs.Prelude.{◌≡◌, ℕ, ◌+◌, ◌-◌, ◌^◌, ◌<◌, ◌==◌, ◌&&◌, ◌⊎◌, Bool, min, List, [], ◌∷◌, if◌then◌else◌}
use Rattle.cg_base.specs.declared.place.Place.{Place}

-- the greatest line and column that are told
abbrev pub most : ℕ
most = 2 ^ 32 - 1

-- whether two places are one
abbrev pub is_at : Place → Place → Bool
is_at p q = (p.line == q.line) && (p.column == q.column)

-- a place stands before another in reading order
abbrev pub IsBefore : Place → Place → Type 0
IsBefore p q = (p.line < q.line) ⊎ ((p.line ≡ q.line) × (p.column < q.column))

-- where a text begins
abbrev pub first_place : Place
first_place = record { line = 1; column = 1 }

-- the place behind a byte, and behind some
abbrev pub place_past : Place → ℕ → Place
place_past p b = if b == 10 then record { line = min (p.line + 1) most; column = 1 } else record p { column = min (p.column + 1) most }

abbrev pub place_after : Place → List ℕ → Place
place_after p [] = p
place_after p (b ∷ bytes) = place_after (place_past p b) bytes
