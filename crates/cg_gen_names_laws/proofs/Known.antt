-- What is known of the items of a program by their names.
use Rattle.std.proofs.Common.{◌≡◌, ℕ, ◌+◌, ◌*◌, ◌^◌, ◌<◌, true, List, [], ◌∷◌, Some, codes, refl, ap, arith}
use Rattle.cg_base.specs.Types as kernel
use Rattle.cg_surface.specs.Programs.{Entry}
use Rattle.cg_surface.specs.Written as types
use Rattle.cg_surface.specs.Written.{Written}
use Rattle.cg_resolve_def.specs.Declared.{Declared, definition_named, function_named, type_named}
use Rattle.cg_resolve_def.specs.Expand.{bodies, bodies_to}
use Rattle.cg_resolve_def.specs.Mentions.{signature_from, synonym_from}
use Rattle.cg_gen.specs.Generated.{name}
use Rattle.cg_gen_def.specs.Kernels.{cell_type}
use Rattle.cg_gen_def.specs.Programs.{at, cell_item, place, plain, program, type_row, width}
use Rattle.cg_gen_names_laws.proofs.Lists.{items_are, spread, two_items}
use Rattle.cg_gen_names_laws.proofs.Looks.{definition, definition_found, function_at, function_found, no_synonym, signature_found}

-- the type, as it is written
abbrev pub cell_body : Written
cell_body = types.fields (place 1 13) true
    (types.and_field (types.and_field types.no_fields (at 1 14 (codes "val")) (plain 1 20 (codes "U32"))) (at 1 25 (codes "tag")) (plain 1 31 (codes "U8")))

abbrev pub cell_declared : Declared
cell_declared = record { params = []; body = Some cell_body }

-- the type of a function
abbrev pub its_type : ℕ → Written
its_type i = types.arrow (place (type_row i) (width i + 4)) (plain (type_row i) (width i + 4) (codes "Cell")) (plain (type_row i) (width i + 12) (codes "Cell"))

pub record Known (entries : List Entry) (n : ℕ) : Type 0 where
  pub cell : type_named entries (codes "Cell") ≡ Some cell_declared
  pub body : bodies entries (codes "Cell") ≡ Some cell_type
  pub small : n < 10 ^ 64
  pub functions : (i : ℕ) → i < n → function_named entries (name (i + 1)) ≡ Some (function_at i)
  pub definitions : (i : ℕ) → i < n → definition_named entries (name (i + 1)) ≡ Some (definition i)
  pub signatures : (i : ℕ) → i < n → signature_from 0 entries (name (i + 1)) ≡ (i * 2 + 1) ∷ []
  pub words : synonym_from 0 entries (codes "U32") ≡ []
  pub bytes : synonym_from 0 entries (codes "U8") ≡ []

its_body : (es : List Entry) → bodies (cell_item ∷ es) (codes "Cell") ≡ Some cell_type
unfolding bodies_to kernel.to_parts
its_body es = refl

-- behind the type
module _ (n : ℕ) (small : n < 10 ^ 64) where
  known_behind : Known (cell_item ∷ spread two_items 0 n) n
  known_behind = record {
    cell = refl;
    body = its_body (spread two_items 0 n);
    small = small;
    functions = λ i lt. function_found 0 n 0 i (i + 1) i lt (omega arith) (omega arith) (omega arith);
    definitions = λ i lt. definition_found 0 n i (i + 1) i lt (omega arith) (omega arith) (omega arith);
    signatures = λ i lt. signature_found 0 n 1 i (i + 1) (i * 2 + 1) lt (omega arith) (omega arith) (omega arith);
    words = no_synonym 0 n 1 (codes "U32");
    bytes = no_synonym 0 n 1 (codes "U8");
  }

-- the program, from the first item on
pub program_is : (n : ℕ) → program n ≡ cell_item ∷ spread two_items 0 n
program_is n = ap (λ es. cell_item ∷ es) (items_are n)

pub known : (n : ℕ) → n < 10 ^ 64 → Known (cell_item ∷ spread two_items 0 n) n
known n small = known_behind n small
