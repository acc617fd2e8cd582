-- The machine over whole trees, however deep they are.
use Rattle.std.specs.Prelude.{List, [], ◌∷◌, ◌++◌}
use Rattle.cg_surface.specs.Written.{Written}
use Rattle.cg_surface.specs.Patterns.{Pattern}
use Rattle.cg_surface.specs.Exprs.{Expr}
use Rattle.cg_surface.specs.Programs.{Entry, synonym, abstract, signature, define}
use Rattle.cg_parser_def.specs.Machine.{Builder}

-- lists of items as they are
abbrev pub entries : Builder Written Pattern Expr (List Entry)
entries = record {
  none = [];
  synonym = λ done at params t. done ++ synonym at params t ∷ [];
  abstract = λ done at params. done ++ abstract at params ∷ [];
  signature = λ done at vs ps t. done ++ signature at vs ps t ∷ [];
  define = λ done at x e. done ++ define at x e ∷ [];
}
