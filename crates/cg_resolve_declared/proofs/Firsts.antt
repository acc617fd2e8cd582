-- What is declared first among some items and one item more.
use Rattle.std.proofs.Common.{◌≡◌, ℕ, ◌+◌, ◌<◌, Bool, true, false, List, [], ◌∷◌, ◌++◌, length, get_or, take, ap, ◌∙◌, refl, arith, cond, Option, Some, None, add-zero}
use Rattle.std.proofs.lemmas.List.{map-append, take_more}
use Rattle.std.specs.Str.{bytes_eq}
use Rattle.cg_surface.specs.declared.program.Item.{Item}
use Rattle.cg_surface.specs.Programs.{Entry, synonym, abstract, signature, define, entry_of}
use Rattle.cg_resolve_def.specs.Declared.{type_named, function_from, function_named, definition_named}
use Rattle.cg_resolve_declared.specs.Tables.{otherwise}
use Rattle.cg_resolve_declared.specs.Views.{entries_in, signatures_in}

-- the items up to here, one more
pub entries_more : (items : List Item) (i : ℕ) (d : Item) → i < length items → entries_in (take (i + 1) items) ≡ entries_in (take i items) ++ entry_of (get_or items i d) ∷ []
entries_more items i d within = ap entries_in (take_more items i d within) ∙ map-append entry_of (take i items) (get_or items i d ∷ [])

-- a choice of the first, made before or after what comes behind
behind : {A : Type 0} (b : Bool) (first : A) (whole front last : Option A) → whole ≡ otherwise front last → cond b (Some first) whole ≡ otherwise (cond b (Some first) front) last
behind true first whole front last h = refl
behind false first whole front last h = h

pub type_more : (front : List Entry) (e : Entry) (name : List ℕ) → type_named (front ++ e ∷ []) name ≡ otherwise (type_named front name) (type_named (e ∷ []) name)
type_more [] e name = refl
type_more (synonym at params body ∷ front) e name = behind (bytes_eq name at.name) (record { params = params; body = Some body }) _ _ _ (type_more front e name)
type_more (abstract at params ∷ front) e name = behind (bytes_eq name at.name) (record { params = params; body = None }) _ _ _ (type_more front e name)
type_more (signature at vars places ty ∷ front) e name = type_more front e name
type_more (define at param body ∷ front) e name = type_more front e name

pub definition_more : (front : List Entry) (e : Entry) (name : List ℕ) → definition_named (front ++ e ∷ []) name ≡ otherwise (definition_named front name) (definition_named (e ∷ []) name)
definition_more [] e name = refl
definition_more (define at param body ∷ front) e name = behind (bytes_eq name at.name) (record { param = param; body = body }) _ _ _ (definition_more front e name)
definition_more (synonym at params body ∷ front) e name = definition_more front e name
definition_more (abstract at params ∷ front) e name = definition_more front e name
definition_more (signature at vars places ty ∷ front) e name = definition_more front e name

function_from_more : (i : ℕ) (front : List Entry) (e : Entry) (name : List ℕ)
    → function_from i (front ++ e ∷ []) name ≡ otherwise (function_from i front name) (function_from (i + signatures_in front) (e ∷ []) name)
function_from_more i [] e name = rw add-zero refl
function_from_more i (signature at vars places ty ∷ front) e name =
    behind (bytes_eq name at.name) (record { position = i; vars = vars }) _ _ _
    (function_from_more (i + 1) front e name ∙ ap (λ n. otherwise (function_from (i + 1) front name) (function_from n (e ∷ []) name)) (omega arith))
function_from_more i (synonym at params body ∷ front) e name = function_from_more i front e name
function_from_more i (abstract at params ∷ front) e name = function_from_more i front e name
function_from_more i (define at param body ∷ front) e name = function_from_more i front e name

pub function_more : (front : List Entry) (e : Entry) (name : List ℕ)
    → function_named (front ++ e ∷ []) name ≡ otherwise (function_named front name) (function_from (signatures_in front) (e ∷ []) name)
function_more front e name = function_from_more 0 front e name ∙ ap (λ n. otherwise (function_named front name) (function_from n (e ∷ []) name)) (omega arith)

pub signatures_more : (front : List Entry) (e : Entry) → signatures_in (front ++ e ∷ []) ≡ signatures_in front + signatures_in (e ∷ [])
signatures_more [] e = omega arith
signatures_more (signature at vars places ty ∷ front) e = let h = signatures_more front e in omega arith
signatures_more (synonym at params body ∷ front) e = signatures_more front e
signatures_more (abstract at params ∷ front) e = signatures_more front e
signatures_more (define at param body ∷ front) e = signatures_more front e
