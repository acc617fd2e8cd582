-- The functions of some items, one further.
use Rattle.std.proofs.Common.{◌≡◌, ℕ, ◌+◌, ◌<◌, ◌≤◌, max, List, [], ◌∷◌, ◌++◌, length, map, take, drop, get_or, Option, Result, Ok, Err, arith, sym, ap, ◌∙◌, subst}
use Rattle.std.proofs.lemmas.List.{map_more, map-append, take-append-drop, length-append}
use Rattle.std.proofs.lemmas.List.Elements.{filter_map-append}
use Rattle.std.specs.List.{filter_map, cons_option}
use Rattle.std.specs.Result.{IsErrAnd}
use Rattle.cg_base.specs.declared.kind.Bound.{Bound}
use Rattle.cg_base.specs.declared.ty.Ty.{Ty}
use Rattle.cg_base.specs.Types.{type_of}
use Rattle.cg_core.specs.declared.at.At.{At}
use Rattle.cg_core.specs.declared.kernel.KBody.{KBody}
use Rattle.cg_core.specs.declared.kernel.KFun.{KFun}
use Rattle.cg_core.specs.declared.kernel.Kernel.{Kernel}
use Rattle.cg_core.specs.Kernels.{Function, function_of}
use Rattle.cg_surface.specs.declared.program.Item.{Item}
use Rattle.cg_surface.specs.declared.written.STy.{STy}
use Rattle.cg_surface.specs.Programs.{Entry, entry_of}
use Rattle.cg_surface.specs.Written.{written_of, place_of}
use Rattle.cg_resolve_def.specs.Declared.{definition_named}
use Rattle.cg_resolve_def.specs.Desugar.{term_limit, deepest_body, body_of}
use Rattle.cg_resolve_def.specs.Desugar.{function_of as signed}
use Rattle.cg_resolve_def.specs.Expand.{Bodies, bodies, expanded}
use Rattle.cg_resolve_def.specs.Faults.{var_names}
use Rattle.cg_resolve_takes.proofs.HeadSteps.{place_at}
use Rattle.cg_resolve_sites.specs.declared.fault.TermFault.{TermFault}
use Rattle.cg_resolve_sites.specs.declared.fault.TermFault.TheVariants.{TooDeep, Memory}
use Rattle.cg_resolve.specs.Answers.{IsTooDeep, MaybeBodySays, FunctionSays, KernelSays}

deepest-append : (fs gs : List Function) → deepest_body (fs ++ gs) ≡ max (deepest_body fs) (deepest_body gs)
deepest-append [] gs = omega arith
deepest-append (f ∷ fs) gs = let later = deepest-append fs gs in omega arith

module _ (f : Entry → Option Function) (items : List Item) where
  -- the functions of so many items
  abbrev pub functions_to : ℕ → List Function
  functions_to i = filter_map f (map entry_of (take i items))

  functions_more : (i : ℕ) (x : Item) → i < length items → x ≡ get_or items i x → functions_to (i + 1) ≡ functions_to i ++ cons_option (f (entry_of x)) []
  functions_more i x within is =
      ap (filter_map f) (map_more entry_of items i x within) ∙ filter_map-append f (map entry_of (take i items)) (entry_of (get_or items i x) ∷ [])
      ∙ ap (λ y. functions_to i ++ cons_option (f (entry_of y)) []) (sym is)

  deepest_front : (i : ℕ) → deepest_body (functions_to i) ≤ deepest_body (filter_map f (map entry_of items))
  deepest_front i =
      let whole : filter_map f (map entry_of items) ≡ functions_to i ++ filter_map f (map entry_of (drop i items)) =
      ap (λ l. filter_map f (map entry_of l)) (sym (take-append-drop i items)) ∙ ap (filter_map f) (map-append entry_of (take i items) (drop i items)) ∙ filter_map-append f (map entry_of (take i items)) (map entry_of (drop i items)) in
      let deep : deepest_body (filter_map f (map entry_of items)) ≡ max (deepest_body (functions_to i)) (deepest_body (filter_map f (map entry_of (drop i items)))) =
      ap deepest_body whole ∙ deepest-append (functions_to i) (filter_map f (map entry_of (drop i items))) in
      omega arith

  -- how many there are, counted
  pub counted_more : (i : ℕ) (x : Item) → i < length items → x ≡ get_or items i x → (n : ℕ) → n ≡ length (functions_to i) → n + length (cons_option (f (entry_of x)) []) ≡ length (functions_to (i + 1))
  counted_more i x within is n so_far = omega (arith, ap length (functions_more i x within is), length-append (functions_to i) (cons_option (f (entry_of x)) []))

  -- these are the functions of so many items, and none of their terms is too deep
  pub record AreMade (i : ℕ) (funs : List KFun) : Type 0 where
    pub within : deepest_body (functions_to i) ≤ term_limit
    pub same : map function_of funs ≡ functions_to i

  pub made_more : (i : ℕ) (x : Item) → i < length items → x ≡ get_or items i x → (old new : List KFun) → AreMade i old → deepest_body (cons_option (f (entry_of x)) []) ≤ term_limit
      → map function_of new ≡ map function_of old ++ cons_option (f (entry_of x)) [] → AreMade (i + 1) new
  made_more i x within is old new made shallow more =
      let deep : deepest_body (functions_to (i + 1)) ≡ max (deepest_body (functions_to i)) (deepest_body (cons_option (f (entry_of x)) [])) =
      ap deepest_body (functions_more i x within is) ∙ deepest-append (functions_to i) (cons_option (f (entry_of x)) []) in
      let so_far : deepest_body (functions_to i) ≤ term_limit = made.within in
      record { within = omega arith; same = more ∙ ap (λ l. l ++ cons_option (f (entry_of x)) []) made.same ∙ sym (functions_more i x within is) }

  -- where one more is too deep, all are
  pub made_over : (i : ℕ) (x : Item) → i < length items → x ≡ get_or items i x → (fault : TermFault) → IsTooDeep fault (term_limit < deepest_body (cons_option (f (entry_of x)) []))
      → IsTooDeep fault (term_limit < deepest_body (filter_map f (map entry_of items)))
  made_over i x within is TooDeep over =
      let deep : deepest_body (functions_to (i + 1)) ≡ max (deepest_body (functions_to i)) (deepest_body (cons_option (f (entry_of x)) [])) =
      ap deepest_body (functions_more i x within is) ∙ deepest-append (functions_to i) (cons_option (f (entry_of x)) []) in
      omega (arith, deepest_front (i + 1))
  made_over i x within is Memory over = over

-- an answer handed on
pub kernel_error : (fs : List Function) (fault : TermFault) (r : Result Kernel TermFault) → IsErrAnd r (λ e. e ≡ fault) → IsTooDeep fault (term_limit < deepest_body fs) → KernelSays fs r
kernel_error fs fault (Ok k) is over = absurd is
kernel_error fs fault (Err e) is over = subst (λ f. IsTooDeep f (term_limit < deepest_body fs)) (sym is) over

-- the function that is made of the parts of a signature
pub function_made : (entries : List Entry) (at : At) (vars : List Bound) (ty : STy) (known : Bodies) (names : List (List ℕ)) (n : List ℕ) (at' : At) (vars' : List Bound) (ty' : Ty) (body : Option KBody)
    → known ≡ bodies entries → names ≡ var_names vars → n ≡ at.name → at' ≡ at → vars' ≡ vars → type_of ty' ≡ expanded known names (written_of ty)
    → MaybeBodySays (body_of entries names (definition_named entries n)) (Ok body)
    → FunctionSays (signed entries at vars (written_of ty)) (Ok (record { at = at'; vars = vars'; ty = record { place = ty.place; ty = ty' }; body = body }))
function_made entries at vars ty known names n at' vars' ty' body is_known are named same_at same_vars same_ty says =
    let the_type : type_of ty' ≡ expanded (bodies entries) (var_names vars) (written_of ty) =
    same_ty ∙ ap (λ k. expanded k names (written_of ty)) is_known ∙ ap (λ ns. expanded (bodies entries) ns (written_of ty)) are in
    let the_body : body_of entries names (definition_named entries n) ≡ body_of entries (var_names vars) (definition_named entries at.name) =
    ap (λ ns. body_of entries ns (definition_named entries n)) are ∙ ap (λ m. body_of entries (var_names vars) (definition_named entries m)) named in
    let place : ty.place ≡ place_of (written_of ty) = sym (place_at ty) in
    let made : MaybeBodySays (body_of entries (var_names vars) (definition_named entries at.name)) (Ok body) = subst (λ b. MaybeBodySays b (Ok body)) the_body says in
    (made.0, λ k. record { at = same_at k; vars = same_vars k; ty = record { place = place k; ty = the_type k }; body = made.1 k })
