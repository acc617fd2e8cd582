-- The heads of synonyms, found one after the other, each behind those that it mentions.
use Rattle.std.specs.Prelude.{◌≡◌, ◌⊎◌, ℕ, List, [], ◌∷◌, map, Option, Some, None, Contains, if◌then◌else◌}
use Rattle.std.specs.Str.{bytes_eq}
use Rattle.cg_base.specs.declared.place.Place.{Place}
use Rattle.cg_core.specs.declared.at.At.{At}
use Rattle.cg_surface.specs.Programs.{Entry, synonym, abstract, signature, define}
use Rattle.cg_surface.specs.Written.{Written, place_of}
use Rattle.cg_resolve_def.specs.Declared.{Declared, type_named}
use Rattle.cg_resolve_def.specs.Expand.{bodies}
use Rattle.cg_resolve_def.specs.Mentions.{synonym_from}
use Rattle.cg_resolve_takes.specs.Heads.{Head, Heads, head_of, tops}

-- the heads with this one for a name
abbrev pub HaveMore : List ℕ → Head → Heads → Heads → Type 0
HaveMore n head heads new = (m : List ℕ) → new m ≡ (if bytes_eq n m then Some head else heads m)

-- The head of the first type of a name is kept, where it is a synonym whose body stands at this place; at another place it may be kept.
abbrev pub KeepsBody : List ℕ → Place → List At → Option Written → Heads → Heads → Type 0
KeepsBody n p params None heads new = new ≡ heads
KeepsBody n p params (Some body) heads new = HaveMore n (head_of heads (map (λ at. at.name) params) body) heads new ⊎ ((p ≡ place_of body → ⊥) × (new ≡ heads))

abbrev pub KeepsNamed : List ℕ → Place → Option Declared → Heads → Heads → Type 0
KeepsNamed n p None heads new = new ≡ heads
KeepsNamed n p (Some d) heads new = KeepsBody n p d.params d.body heads new

abbrev pub Keeps : List Entry → Option Entry → Heads → Heads → Type 0
Keeps entries None heads new = new ≡ heads
Keeps entries (Some (synonym at params body)) heads new = KeepsNamed at.name (place_of body) (type_named entries at.name) heads new
Keeps entries (Some (abstract at params)) heads new = new ≡ heads
Keeps entries (Some (signature at vars places ty)) heads new = new ≡ heads
Keeps entries (Some (define at param body)) heads new = new ≡ heads

-- what is known once the items at these positions are done: nothing of what is no synonym, and the heads of the first synonyms among them
pub record Knows (entries : List Entry) (done : List ℕ) (heads : Heads) : Type 0 where
  pub nothing : (n : List ℕ) → tops (bodies entries) n ≡ None → heads n ≡ None
  pub found : (n : List ℕ) (j : ℕ) → synonym_from 0 entries n ≡ j ∷ [] → Contains done j → heads n ≡ tops (bodies entries) n
