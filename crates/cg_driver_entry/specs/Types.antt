-- What the types of an entry may hold (docs/LANGUAGE.md, "Entries").
use Rattle.std.specs.Prelude.{ℕ, Bool, true, false, ◌&&◌, ◌||◌, not, List, codes}
use Rattle.std.specs.Str.{bytes_eq}
use Rattle.cg_base.specs.Types.{Tau, arrow, abs, variant, fields, Taus, none, more, Parts, end, part}

-- an abstract type is a user's where it isn't one of those that are declared beforehand
abbrev pub is_users : List ℕ → Bool
is_users name = not (bytes_eq name (codes "WordArray")) && not (bytes_eq name (codes "SysState"))

abbrev mutual
  -- a type holds a function type or a user's abstract type
  pub holds_closed : Tau → Bool
  holds_closed (arrow a b) = true
  holds_closed (abs name ts sigil) = is_users name || have_closed ts
  holds_closed (variant ps) = parts_hold_closed ps
  holds_closed (fields ps sigil) = parts_hold_closed ps
  holds_closed t = false

  pub have_closed : Taus → Bool
  have_closed none = false
  have_closed (more t ts) = holds_closed t || have_closed ts

  pub parts_hold_closed : Parts → Bool
  parts_hold_closed end = false
  parts_hold_closed (part name t taken ps) = holds_closed t || parts_hold_closed ps

-- a function type takes and gives what holds neither function types nor users' abstract types
abbrev pub is_first_order : Tau → Bool
is_first_order (arrow a b) = not (holds_closed a) && not (holds_closed b)
is_first_order t = false
