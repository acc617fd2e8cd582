-- What a payload, a name in an expression, and an alternative of a match mention.
use Rattle.std.specs.Prelude.{ℕ, List, [], ◌∷◌, ◌++◌, Option, Some, None, if◌then◌else◌}
use Rattle.cg_surface.specs.Written.{Written}
use Rattle.cg_surface.specs.Exprs.{OneAlt}
use Rattle.cg_resolve_def.specs.Declared.{is_among}
use Rattle.cg_resolve_def.specs.Faults.{bound}
use Rattle.cg_resolve_def.specs.Mentions.{type_mentions, expr_mentions}

-- the type of a payload, where one is written
abbrev pub payload_mentions : Option Written → List (List ℕ)
payload_mentions None = []
payload_mentions (Some t) = type_mentions t

-- a variable hides a function
abbrev pub name_mentions : List (List ℕ) → List ℕ → List (List ℕ)
name_mentions scope n = if is_among scope n then [] else n ∷ []

abbrev pub choice_mentions : List (List ℕ) → OneAlt → List (List ℕ)
choice_mentions scope a = expr_mentions (bound a.pattern ++ scope) a.body
