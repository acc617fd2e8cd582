-- A function of the program, as one of the kernel.
use Rattle.std.proofs.Common.{◌≡◌, ℕ, zero, suc, ◌+◌, ◌<◌, cond, List, [], ◌∷◌, Option, Some, None, codes, refl, ap, ◌∙◌, arith}
use Rattle.cg_base.specs.declared.fun.Fun.TheVariants.{User}
use Rattle.cg_base.specs.declared.place.Place.{Place}
use Rattle.cg_base.specs.Types.{Tau, arrow}
use Rattle.cg_core.specs.Kernels.{Body, Function}
use Rattle.cg_core.specs.Terms.{app, fun, term}
use Rattle.cg_kinds.specs.Kinds.{subst}
use Rattle.cg_surface.specs.Programs.{Entry}
use Rattle.cg_surface.specs.Written as types
use Rattle.cg_resolve_def.specs.Declared.{function_named, library, looked_up}
use Rattle.cg_resolve_def.specs.Desugar.{body_of, function_of_entry}
use Rattle.cg_resolve_def.specs.Expand.{applied_as, bodies, type_in}
use Rattle.cg_resolve_def.specs.Terms.{Scope, Term, bind, body_term, function_of, mention, term_of, user_function, variable}
use Rattle.cg_gen.specs.Generated.{name}
use Rattle.cg_gen_def.specs.Kernels.{body_in, cell_type, function_behind, place_alone, subject_in, term_behind}
use Rattle.cg_gen_def.specs.Programs.{at, body_item, body_row, place, put_of, subject_of, taken, type_item, type_row, width}
use Rattle.cg_gen_names_laws.proofs.Known.{Known, its_type}
use Rattle.cg_gen_names_laws.proofs.Looks.{definition, function_at}
use Rattle.cg_gen_names_laws.proofs.Names.{is_no_c, is_no_library}

-- the scope of a body
abbrev its_scope : Scope
its_scope = Some (codes "c") ∷ []

no_variable : (t : ℕ) → variable its_scope (name t) ≡ None
no_variable t = ap (λ b. cond b (Some 0) None) (is_no_c t)

-- a function, with its type and its body
abbrev function_with : ℕ → Tau → Option Body → Function
function_with i t b = record { at = at (type_row i) 1 (name (i + 1)); vars = []; ty = record { place = place (type_row i) (width i + 4); ty = t }; body = b }

-- its body
abbrev its_body : ℕ → Body
its_body i = record { param = place (body_row i) (width i + 2); term = term_behind i }

module _ (entries : List Entry) (n : ℕ) (known : Known entries n) where
  -- the name of the type
  pub cell_named : (p : Place) → type_in entries [] (types.named p (codes "Cell") types.no_types) ≡ cell_type
  unfolding subst
  cell_named p = ap (applied_as (codes "Cell") [] None) known.body

  type_is : (i : ℕ) → type_in entries [] (its_type i) ≡ arrow cell_type cell_type
  type_is i j = arrow (cell_named (place (type_row i) (width i + 4)) j) (cell_named (place (type_row i) (width i + 12)) j)

  -- the name of a function
  pub function_known : (b : ℕ) → b < n → function_named entries (name (suc b)) ≡ Some (function_at b)
  function_known b lt =
      let same : suc b ≡ b + 1 = omega arith in
      ap (λ t. function_named entries (name t)) same ∙ known.functions b lt

  called : (b : ℕ) → b < n → function_of (looked_up library (name (suc b))) (function_named entries (name (suc b))) ≡ User b
  called b lt =
      ap (λ l. function_of l (function_named entries (name (suc b)))) (is_no_library (suc b) (omega (arith, known.small)))
      ∙ ap user_function (function_known b lt)

  call : (q p : Place) (x : Term) (b : ℕ) → b < n
      → term q (app (mention entries (bodies entries) [] p (name (suc b)) types.no_types (variable its_scope (name (suc b)))) x)
      ≡ term q (app (term p (fun (User b) [])) x)
  call q p x b lt =
      ap (λ v. term q (app (mention entries (bodies entries) [] p (name (suc b)) types.no_types v) x)) (no_variable (suc b))
      ∙ ap (λ f. term q (app (term p (fun f [])) x)) (called b lt)

  -- what it takes apart
  subject_is : (i : ℕ) → i < n → term_of entries (bodies entries) [] its_scope (subject_of i) ≡ subject_in place_alone i
  unfolding subject_of subject_in
  subject_is zero lt = refl
  subject_is (suc b) lt = call _ _ _ b (omega arith)

  -- its body as a term
  body_opened : (i : ℕ)
      → body_term entries (bodies entries) [] (definition i).param (definition i).body
      ≡ bind (taken i) (term_of entries (bodies entries) [] its_scope (subject_of i)) its_scope (λ scope. term_of entries (bodies entries) [] scope (put_of i))
  unfolding definition
  body_opened i = refl

  body_closed : (i : ℕ) → bind (taken i) (subject_in place_alone i) its_scope (λ scope. term_of entries (bodies entries) [] scope (put_of i)) ≡ term_behind i
  unfolding body_in
  body_closed i = refl

  body_is : (i : ℕ) → i < n → body_term entries (bodies entries) [] (definition i).param (definition i).body ≡ term_behind i
  body_is i lt = body_opened i ∙ ap (λ e. bind (taken i) e its_scope (λ scope. term_of entries (bodies entries) [] scope (put_of i))) (subject_is i lt) ∙ body_closed i

  body_made : (i : ℕ) → i < n → body_of entries [] (Some (definition i)) ≡ Some (its_body i)
  unfolding definition
  body_made i lt = ap (λ t. Some (record { param = place (body_row i) (width i + 2); term = t })) (body_is i lt)

  -- the function
  pub function_made : (i : ℕ) → i < n → function_of_entry entries (type_item i) ≡ Some (function_behind i)
  unfolding type_item function_behind
  function_made i lt =
      ap (λ d. Some (function_with i (type_in entries [] (its_type i)) (body_of entries [] d))) (known.definitions i lt)
      ∙ ap (λ b. Some (function_with i (type_in entries [] (its_type i)) b)) (body_made i lt)
      ∙ ap (λ t. Some (function_with i t (Some (its_body i)))) (type_is i)

  pub nothing_made : (i : ℕ) → function_of_entry entries (body_item i) ≡ None
  unfolding body_item
  nothing_made i = refl
