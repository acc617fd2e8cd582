-- The earliest of some places, as they are noted one by one (docs/LANGUAGE.md, "Heap files").
use Rattle.std.specs.Prelude.{◌≡◌, ℕ, nat_lt, ◌==◌, Bool, ◌&&◌, ◌||◌, List, [], ◌∷◌, slice_get, Option, Some, None, if◌then◌else◌}
use Rattle.cg_base.specs.declared.place.Place.{Place}
use Rattle.cg_heaptext_def.specs.HeapText.{Least, Never}

-- a place stands before another
abbrev pub is_before : Place → Place → Bool
is_before p q = nat_lt p.line q.line || ((p.line == q.line) && nat_lt p.column q.column)

-- the earlier of what was found and another place
abbrev pub noted : Option Place → Place → Option Place
noted None p = Some p
noted (Some q) p = if is_before p q then Some p else Some q

-- of what was found, and of what else was
abbrev pub joined : Option Place → Option Place → Option Place
joined found None = found
joined found (Some p) = noted found p

-- and of what was found and all these
abbrev pub noted_all : Option Place → List Place → Option Place
noted_all found [] = found
noted_all found (p ∷ ps) = noted_all (noted found p) ps

-- the first place of which something holds, or that it holds of none
abbrev pub IsLeast : (Place → Type 0) → Option Place → Type 0
IsLeast P None = Never P
IsLeast P (Some p) = Least P p

-- places of which something holds, and all such
pub record AreThose (P : Place → Type 0) (ps : List Place) : Type 0 where
  pub hold : (i : ℕ) (p : Place) → slice_get ps i ≡ Some p → P p
  pub all : (p : Place) → P p → (i : ℕ) × (slice_get ps i ≡ Some p)
