-- The texts of the parts of a certificate, as they are printed.
use Rattle.std.specs.Prelude.{ℕ, List, [], ◌++◌, map, codes, Option, Some, None}
use Rattle.cg_core.specs.declared.derivation.Mark.{Mark}
use Rattle.cg_core.specs.Derivations.{Derivation}
use Rattle.cg_core.specs.Kernels.{Function}
use Rattle.cg_cert.specs.Certificates.{nodes_of, certificate}
use Rattle.cg_cert.specs.Texts.{mark_sign, node_lines, fun_lines, all_lines}

-- a mark string behind a space
abbrev pub string_text : List Mark → List ℕ
string_text marks = codes " " ++ map mark_sign marks

-- the lines of the nodes of a derivation
abbrev pub tree_text : Derivation → List ℕ
tree_text tree = node_lines (nodes_of tree)

-- the lines of a function, where there is a derivation of it, and those of functions
abbrev pub function_text : List ℕ → Option Derivation → List ℕ
function_text name None = []
function_text name (Some tree) = fun_lines (record { name = name; nodes = nodes_of tree })

abbrev pub functions_text : List Function → List (Option Derivation) → List ℕ
functions_text functions trees = all_lines (certificate functions trees).funs
