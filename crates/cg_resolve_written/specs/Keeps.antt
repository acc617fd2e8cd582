-- What it does to a table of synonyms to keep the body of an item.
use Rattle.std.specs.Prelude.{◌≡◌, ℕ, List, Option, Some, None, if◌then◌else◌}
use Rattle.std.specs.Str.{bytes_eq}
use Rattle.cg_surface.specs.Programs.{Entry, synonym, abstract, signature, define}
use Rattle.cg_surface.specs.Written.{Written}
use Rattle.cg_resolve_def.specs.Expand.{Bodies, expanded}
use Rattle.cg_resolve_def.specs.Faults.{names_of}
use Rattle.cg_resolve_written.specs.Sizes.{greatest}

-- a body is known for this name, and for the others what was known before
abbrev pub KeepsBody : Bodies → Bodies → List ℕ → List (List ℕ) → Written → Type 0
KeepsBody known new n vars body = (other : List ℕ) → new other ≡ (if bytes_eq n other then Some (expanded known vars body) else known other)

-- the body of a synonym is known, and of another item nothing
abbrev pub KeepsEntry : Bodies → Bodies → Entry → Type 0
KeepsEntry known new (synonym at params body) = KeepsBody known new at.name (names_of params) body
KeepsEntry known new (abstract at params) = (other : List ℕ) → new other ≡ known other
KeepsEntry known new (signature at vars places ty) = (other : List ℕ) → new other ≡ known other
KeepsEntry known new (define at param body) = (other : List ℕ) → new other ≡ known other

abbrev pub Keeps : Bodies → Bodies → Option Entry → Type 0
Keeps known new None = (other : List ℕ) → new other ≡ known other
Keeps known new (Some e) = KeepsEntry known new e

-- the size of the largest type in the body of a synonym
abbrev pub greatest_body : Bodies → Entry → ℕ
greatest_body known (synonym at params body) = greatest known body
greatest_body known (abstract at params) = 0
greatest_body known (signature at vars places ty) = 0
greatest_body known (define at param body) = 0

abbrev pub greatest_at : Bodies → Option Entry → ℕ
greatest_at known None = 0
greatest_at known (Some e) = greatest_body known e
