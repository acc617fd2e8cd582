-- What declarations stand for, and the tables of what items declare.
use Rattle.std.specs.Prelude.{◌≡◌, ℕ, ◌+◌, List, [], ◌∷◌, map}
use Rattle.std.specs.BTreeMap.{BTreeMap}
use Rattle.std.specs.Option.{option_map}
use Rattle.cg_base.specs.Types.{Tau, word, bool, abs, none}
use Rattle.cg_base.specs.declared.kind.Sigil.TheVariants.{W}
use Rattle.cg_surface.specs.declared.program.Item.{Item}
use Rattle.cg_surface.specs.Exprs.{expr_of}
use Rattle.cg_surface.specs.Patterns.{pattern_of}
use Rattle.cg_surface.specs.Programs.{Entry, synonym, abstract, signature, define, entry_of}
use Rattle.cg_surface.specs.Written.{written_of}
use Rattle.cg_resolve_def.specs.Declared.{Declared, type_named, OfProgram, function_named, Defined, definition_named, OfLibrary}
use Rattle.cg_resolve_declared.specs.declared.beforehand.LibraryFunction.{LibraryFunction}
use Rattle.cg_resolve_declared.specs.declared.beforehand.Plain.{Plain}
use Rattle.cg_resolve_declared.specs.declared.beforehand.Plain.TheVariants.{Word, Bool, SysState}
use Rattle.cg_resolve_declared.specs.declared.declarations.Definition.{Definition}
use Rattle.cg_resolve_declared.specs.declared.functions.DeclaredFunction.{DeclaredFunction}
use Rattle.cg_resolve_declared.specs.declared.types.DeclaredType.{DeclaredType}
use Rattle.cg_resolve_declared.specs.Tables.{find}
use Rattle.std.specs.Prelude.{codes}
use denote.Ref.{Bor}

-- the items of a program, as plain data
abbrev pub entries_in : List Item → List Entry
entries_in items = map entry_of items

-- a type of the program
abbrev pub declared_of : DeclaredType → Declared
declared_of t = record { params = t.params.now; body = option_map (λ body. written_of body.now) t.body }

-- a function of the program, and a definition
abbrev pub function_of : DeclaredFunction → OfProgram
function_of f = record { position = f.position; vars = f.vars.now }

abbrev pub defined_of : Definition → Defined
defined_of d = record { param = pattern_of d.param.now; body = expr_of d.body.now }

-- a type that is declared beforehand, and a function of the library
abbrev pub plain_of : Plain → Tau
plain_of (Word w) = word w
plain_of Bool = bool
plain_of SysState = abs (codes "SysState") none W

abbrev pub library_of : LibraryFunction → OfLibrary
library_of f = record { lib = f.lib; arity = f.arity }

-- a table has the first type of each name, the function of its first signature, and its first definition
abbrev pub AreTypes : List Entry → BTreeMap (Bor (List ℕ)) DeclaredType → Type 0
AreTypes entries table = (name : List ℕ) → option_map declared_of (find table name) ≡ type_named entries name

abbrev pub AreFunctions : List Entry → BTreeMap (Bor (List ℕ)) DeclaredFunction → Type 0
AreFunctions entries table = (name : List ℕ) → option_map function_of (find table name) ≡ function_named entries name

abbrev pub AreDefinitions : List Entry → BTreeMap (Bor (List ℕ)) Definition → Type 0
AreDefinitions entries table = (name : List ℕ) → option_map defined_of (find table name) ≡ definition_named entries name

-- how many signatures there are
abbrev pub signatures_in : List Entry → ℕ
signatures_in [] = 0
signatures_in (signature at vars places ty ∷ later) = signatures_in later + 1
signatures_in (synonym at params body ∷ later) = signatures_in later
signatures_in (abstract at params ∷ later) = signatures_in later
signatures_in (define at param body ∷ later) = signatures_in later
