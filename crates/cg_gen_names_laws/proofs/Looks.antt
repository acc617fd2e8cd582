-- What is found by the name of a function, and by the name of the type.
use Rattle.std.proofs.Common.{◌≡◌, ℕ, zero, suc, ◌+◌, ◌*◌, ◌^◌, ◌<◌, true, false, cond, List, [], ◌∷◌, Some, codes, refl, ap, ◌∙◌, arith}
use Rattle.std.specs.Str.{bytes_eq}
use Rattle.cg_base.proofs.Sequences.{same_when}
use Rattle.cg_surface.specs.Exprs as exprs
use Rattle.cg_surface.specs.Patterns as patterns
use Rattle.cg_resolve_def.specs.Declared.{Defined, OfProgram, definition_named, function_from}
use Rattle.cg_resolve_def.specs.Mentions.{signature_from, synonym_from}
use Rattle.cg_gen.specs.Generated.{name}
use Rattle.cg_gen_def.specs.Programs.{body_item, body_row, place, put_of, subject_of, taken, type_item, width}
use Rattle.cg_gen_names_laws.proofs.Lists.{spread, two_items}
use Rattle.cg_gen_names_laws.proofs.Names.{apart}

-- the function at a position
abbrev pub function_at : ℕ → OfProgram
function_at i = record { position = i; vars = [] }

-- its definition
unfoldable pub definition : ℕ → Defined
definition i = record {
  param = patterns.name (place (body_row i) (width i + 2)) (codes "c");
  body = exprs.lets (place (body_row i) (width i + 6)) (exprs.and_bind exprs.no_binds (taken i) (subject_of i) []) (put_of i);
}

-- a name is that of the first of some functions, or of a later one
is_here : (i t : ℕ) → t ≡ i + 1 → bytes_eq (name t) (name (i + 1)) ≡ true
is_here i t same = same_when (name t) (name (i + 1)) (ap name same)

is_later : (i t : ℕ) → i + 1 < t → t < 10 ^ 64 → bytes_eq (name t) (name (i + 1)) ≡ false
is_later i t later small = apart t (i + 1) small (omega arith) (λ e. omega arith)

-- ---- two items more

function_of_two : (i k j t : ℕ)
    → function_from j (spread two_items i (suc k)) (name t)
    ≡ cond (bytes_eq (name t) (name (i + 1))) (Some (function_at j)) (function_from (j + 1) (spread two_items (suc i) k) (name t))
unfolding type_item body_item
function_of_two i k j t = refl

definition_of_two : (i k t : ℕ)
    → definition_named (spread two_items i (suc k)) (name t)
    ≡ cond (bytes_eq (name t) (name (i + 1))) (Some (definition i)) (definition_named (spread two_items (suc i) k) (name t))
unfolding type_item body_item definition
definition_of_two i k t = refl

signature_of_two : (i k j t : ℕ)
    → signature_from j (spread two_items i (suc k)) (name t)
    ≡ cond (bytes_eq (name t) (name (i + 1))) (j ∷ []) (signature_from (j + 1 + 1) (spread two_items (suc i) k) (name t))
unfolding type_item body_item
signature_of_two i k j t = refl

synonym_of_two : (i k j : ℕ) (n : List ℕ) → synonym_from j (spread two_items i (suc k)) n ≡ synonym_from (j + 1 + 1) (spread two_items (suc i) k) n
unfolding type_item body_item
synonym_of_two i k j n = refl

-- ---- of so many functions, that of a number behind m others

pub function_found : (i k j m t p : ℕ) → m < k → t ≡ i + m + 1 → t < 10 ^ 64 → p ≡ j + m → function_from j (spread two_items i k) (name t) ≡ Some (function_at p)
function_found i zero j m t p lt same small stands = absurd (omega arith)
function_found i (suc k) j zero t p lt same small stands =
    let here : j ≡ p = omega arith in
    function_of_two i k j t ∙ ap (λ b. cond b (Some (function_at j)) (function_from (j + 1) (spread two_items (suc i) k) (name t))) (is_here i t (omega arith))
    ∙ ap (λ q. Some (function_at q)) here
function_found i (suc k) j (suc m) t p lt same small stands =
    function_of_two i k j t ∙ ap (λ b. cond b (Some (function_at j)) (function_from (j + 1) (spread two_items (suc i) k) (name t))) (is_later i t (omega arith) small)
    ∙ function_found (suc i) k (j + 1) m t p (omega arith) (omega arith) small (omega arith)

pub definition_found : (i k m t p : ℕ) → m < k → t ≡ i + m + 1 → t < 10 ^ 64 → p ≡ i + m → definition_named (spread two_items i k) (name t) ≡ Some (definition p)
definition_found i zero m t p lt same small stands = absurd (omega arith)
definition_found i (suc k) zero t p lt same small stands =
    let here : i ≡ p = omega arith in
    definition_of_two i k t ∙ ap (λ b. cond b (Some (definition i)) (definition_named (spread two_items (suc i) k) (name t))) (is_here i t (omega arith))
    ∙ ap (λ q. Some (definition q)) here
definition_found i (suc k) (suc m) t p lt same small stands =
    definition_of_two i k t ∙ ap (λ b. cond b (Some (definition i)) (definition_named (spread two_items (suc i) k) (name t))) (is_later i t (omega arith) small)
    ∙ definition_found (suc i) k m t p (omega arith) (omega arith) small (omega arith)

pub signature_found : (i k j m t p : ℕ) → m < k → t ≡ i + m + 1 → t < 10 ^ 64 → p ≡ j + m * 2 → signature_from j (spread two_items i k) (name t) ≡ p ∷ []
signature_found i zero j m t p lt same small stands = absurd (omega arith)
signature_found i (suc k) j zero t p lt same small stands =
    let here : j ≡ p = omega arith in
    signature_of_two i k j t ∙ ap (λ b. cond b (j ∷ []) (signature_from (j + 1 + 1) (spread two_items (suc i) k) (name t))) (is_here i t (omega arith))
    ∙ ap (λ q. q ∷ []) here
signature_found i (suc k) j (suc m) t p lt same small stands =
    signature_of_two i k j t ∙ ap (λ b. cond b (j ∷ []) (signature_from (j + 1 + 1) (spread two_items (suc i) k) (name t))) (is_later i t (omega arith) small)
    ∙ signature_found (suc i) k (j + 1 + 1) m t p (omega arith) (omega arith) small (omega arith)

-- no function is a synonym
pub no_synonym : (i k j : ℕ) (n : List ℕ) → synonym_from j (spread two_items i k) n ≡ []
no_synonym i zero j n = refl
no_synonym i (suc k) j n = synonym_of_two i k j n ∙ no_synonym (suc i) k (j + 1 + 1) n
